-- `behind` is a value of so many octets, where there are as many.
-- The part handed on is the value.
use native.Mathlib.Omega.{arith}
use mathlib.Core.Path.{◌≡◌, ap, sym, ◌∙◌}
use Prim.Native.Nat.{ℕ, ◌+◌, ◌-◌}
use lib.ListN.{take, drop}
use Rattle.std.specs.Prelude.{Option, Result, Ok}
use Rattle.std.proofs.lemmas.Result.{err_from_is_err_and}
use Rattle.definitions.specs.Mandatory.{mandatory_rows_of, mandatory_row_at, fault_of}
use Rattle.definitions.proofs.Mandatories.{behind-short, behind-there}
use Rattle.mandatory_ie.specs.Founds.{fault_as, found_as}
use Rattle.mandatory_ie.specs.declared.Fault.{Fault}
use Rattle.mandatory_ie.specs.declared.Found.{Found}
use Rattle.mandatory_ie.specs.declared.Lacking.{Lacking}
use Rattle.mandatory_ie.proofs.Finding.{given, lacking}
use Rattle.mandatory_ie.proofs.behind.Goals as goal

pub returns-in_err-rest : goal.returns-in_err-rest
returns-in_err-rest c =
    let a = c.args in
    let p = err_from_is_err_and c.from_residual.result c.from_residual.ensures.1 in
    let q = lacking c.checked_sub.result _ (sym c.ok_or.ensures.value ∙ c.in_err-rest.was) in
    let s = rw q.0 at c.checked_sub.ensures in
    rw (p.1, p.2, q.1) (ap (found_as (mandatory_row_at (mandatory_rows_of a.table.now) a.row)) (sym (behind-short a.h a.n a.left.now (omega (arith, s)))))

pub returns-then-n-rest : goal.returns-then-n-rest
returns-then-n-rest c =
    let a = c.args in
    let s = rw (given c.checked_sub.result _ (sym c.ok_or.ensures.value ∙ c.in_ok-rest.was)) at c.checked_sub.ensures in
    ap (found_as (mandatory_row_at (mandatory_rows_of a.table.now) a.row)) (sym (behind-short a.h a.n a.left.now (omega (arith, s.0, s.1))))

pub returns : goal.returns
returns c =
    let a = c.args in
    let s = rw (given c.checked_sub.result _ (sym c.ok_or.ensures.value ∙ c.in_ok-rest.was)) at c.checked_sub.ensures in
    let e : a.h + a.n - a.h ≡ a.n = omega arith in
    let f = c.fault_of.ensures ∙ ap (λ (m : ℕ). fault_as (fault_of (mandatory_row_at (mandatory_rows_of a.table.now) a.row) (a.h + a.n) (take m (drop a.h a.left.now)))) e in
    let told : Option Fault → Result Found Lacking = λ x. Ok (record { start = a.h; len = a.n; took = a.h + a.n; fault = x }) in
    ap told f ∙ ap (found_as (mandatory_row_at (mandatory_rows_of a.table.now) a.row)) (sym (behind-there a.h a.n a.left.now (omega (arith, s.0, s.1))))
