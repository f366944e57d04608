-- `encode_checked` makes the checks of what is lent, and goes on with the set octets that are used.
-- Each way out cites the law of its check.
use native.Mathlib.Omega.{arith}
use mathlib.Core.Path.{sym, ◌∙◌}
use lib.ListN.{length-take}
use Rattle.definitions.specs.Basic.{content}
use Rattle.definitions.specs.Mandatory.{mandatory_rows_of}
use Rattle.definitions.proofs.Mandatories.{few-mandatory}
use Rattle.kept.specs.Kept.{used_of}
use Rattle.values.proofs.Checking.{long-none, short-of}
use Rattle.mandatory_writing.proofs.Checks.{writing-long, writing-room, writing-rest}
use Rattle.mandatory_writing.proofs.encode.encode_checked.Goals as goal

pub returns-then-too_long : goal.returns-then-too_long
returns-then-too_long c = let a = c.args in writing-long a.table.now a.rows.now a.received.now (used_of a.set.now a.set_used) a.output.now c.requires (sym (long-none a.received.now (used_of a.set.now a.set_used)) ∙ sym c.too_long.ensures ∙ c.if-too_long.true)

pub overflow_mul-mandatory_rows : goal.overflow_mul-mandatory_rows
overflow_mul-mandatory_rows c = omega (arith, c.mandatory_rows.ensures, few-mandatory (mandatory_rows_of c.args.table.now) c.requires)

pub returns-then-rows-mandatory_rows : goal.returns-then-rows-mandatory_rows
returns-then-rows-mandatory_rows c = let a = c.args in writing-room a.table.now a.rows.now a.received.now (used_of a.set.now a.set_used) a.output.now c.requires (sym (long-none a.received.now (used_of a.set.now a.set_used)) ∙ sym c.too_long.ensures ∙ c.if-too_long.false) (omega (arith, c.mandatory_rows.ensures))

pub encode_octets-requires : goal.encode_octets-requires
encode_octets-requires c =
    let a = c.args in
    let s = short-of a.received.now (used_of a.set.now a.set_used) 0 (sym c.too_long.ensures ∙ c.if-too_long.false) in
    (record { received-short = s.received-short; set-short = rw c.part.ensures.result_value (simp length-take (omega (arith, s.short))) }, few-mandatory (mandatory_rows_of a.table.now) c.requires)

pub returns : goal.returns
unfolding content
returns c =
    let a = c.args in
    rw (writing-rest a.table.now a.rows.now a.received.now (used_of a.set.now a.set_used) a.output.now c.requires (sym (long-none a.received.now (used_of a.set.now a.set_used)) ∙ sym c.too_long.ensures ∙ c.if-too_long.false) (omega (arith, c.mandatory_rows.ensures))) (rw c.part.ensures.result_value at c.encode_octets.ensures)
