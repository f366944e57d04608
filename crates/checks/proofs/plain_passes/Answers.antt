-- `plain_passes` is the check of a mandatory row: its ranges and the rule of halves.
-- The next row's code says whether it is a high half.
use native.Mathlib.Omega.{arith}
use Prim.Native.Nat.{ℕ, suc}
use native.Mathlib.Numerals.{add-one}
use lib.ListN.{drop}
use lib.Dec.{eqb}
use mathlib.Core.Path.{◌≡◌, ap, sym, ◌∙◌}
use mathlib.Core.Bool.{true, false, ◌&&◌}
use Rattle.definitions.specs.Mandatory.{mandatory_rows_of, mandatory_row_at, next_is, good_mandatory}
use Rattle.checks.specs.Passes.{paired, plain_in_range}
use Rattle.definitions.proofs.TableLaws.{mandatory-count}
use Rattle.checks.proofs.Steps.{next-high, good-parts}
use Rattle.checks.proofs.plain_passes.Goals as goal
use Rattle.checks.proofs.plain_passes.Goals.{After-plain_in_range}

pub overflow_add-row : goal.overflow_add-row
overflow_add-row c = omega (arith, mandatory-count c.args.table.now)

-- the row passes where its ranges do and it is paired with the next one
parted : (c : After-plain_in_range)
    → let a = c.args in let rs = mandatory_rows_of a.table.now in let r = mandatory_row_at rs a.row in
    (plain_in_range r && paired a.after c.mandatory_code_at-code.result c.mandatory_code_at-next.result) ≡ good_mandatory a.after r (drop (suc a.row) rs)
parted c =
    let a = c.args in
    let rs = mandatory_rows_of a.table.now in
    let r = mandatory_row_at rs a.row in
    let next = c.mandatory_code_at-next.result in
    let h : next_is 1 (drop (suc a.row) rs) ≡ eqb next 1 = next-high rs (suc a.row) ∙ ap (λ (n : ℕ). eqb n 1) (ap (λ (j : ℕ). (mandatory_row_at rs j).code) (sym (add-one a.row)) ∙ sym c.mandatory_code_at-next.ensures) in
    ap (λ (n : ℕ). plain_in_range r && paired a.after n next) c.mandatory_code_at-code.ensures ∙ good-parts a.after r (drop (suc a.row) rs) next h

pub returns-then-plain_in_range : goal.returns-then-plain_in_range
returns-then-plain_in_range c = c.is_paired.ensures ∙ rw (sym c.plain_in_range.ensures ∙ c.if-plain_in_range.true) at (parted (goal.at.returns-then-plain_in_range c).After-plain_in_range)

pub returns-else-plain_in_range : goal.returns-else-plain_in_range
returns-else-plain_in_range c = c.if-plain_in_range.false ∙ rw (sym c.plain_in_range.ensures ∙ c.if-plain_in_range.false) at (parted (goal.at.returns-else-plain_in_range c).After-plain_in_range)
