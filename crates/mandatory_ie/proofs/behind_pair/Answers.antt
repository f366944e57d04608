-- `behind_pair` is a value behind the length that two octets say.
-- Without two octets there is no length.
use Prim.Native.Nat.{ℕ}
use mathlib.Core.Path.{ap, sym, ◌∙◌}
use mathlib.Core.Option.{Option}
use Rattle.std.proofs.lemmas.Result.{err_from_is_err_and}
use Rattle.definitions.specs.Mandatory.{mandatory_rows_of, mandatory_row_at, behind, counted}
use Rattle.definitions.specs.Octets.{number_at}
use Rattle.octets.proofs.Laws.{number-is, number-none}
use Rattle.mandatory_ie.specs.Founds.{found_as}
use Rattle.mandatory_ie.proofs.Finding.{given, lacking}
use Rattle.mandatory_ie.proofs.behind_pair.Goals as goal

pub returns : goal.returns
unfolding counted
returns c =
    let a = c.args in
    let q = given c.get_u16.result _ (sym c.ok_or.ensures.value ∙ c.in_ok-n.was) in
    let n = number-is 2 0 (number_at 2 0 a.left.now) (rw c.new.ensures at (sym q ∙ c.get_u16.ensures)) in
    c.behind.ensures ∙ ap (λ (n : ℕ). found_as (mandatory_row_at (mandatory_rows_of a.table.now) a.row) (behind 2 n a.left.now)) c.from.ensures
    ∙ ap (λ (o : Option ℕ). found_as (mandatory_row_at (mandatory_rows_of a.table.now) a.row) (counted 2 a.left.now o)) (sym n)

pub returns-in_err-n : goal.returns-in_err-n
unfolding counted
returns-in_err-n c =
    let a = c.args in
    let p = err_from_is_err_and c.from_residual.result c.from_residual.ensures.1 in
    let q = lacking c.get_u16.result _ (sym c.ok_or.ensures.value ∙ c.in_err-n.was) in
    let n = number-none 2 0 (number_at 2 0 a.left.now) (rw c.new.ensures at (sym q.0 ∙ c.get_u16.ensures)) in
    rw (p.1, p.2, q.1) (ap (λ (o : Option ℕ). found_as (mandatory_row_at (mandatory_rows_of a.table.now) a.row) (counted 2 a.left.now o)) (sym n))
