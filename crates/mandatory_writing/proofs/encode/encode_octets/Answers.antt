-- `encode_octets` makes the checks of the rows, their values and the output in their order, then writes.
-- Each way out cites the law of its check.
use Prim.Native.Nat.{ℕ}
use native.Mathlib.Omega.{arith}
use mathlib.Core.Path.{ap, sym, ◌∙◌}
use mathlib.Core.Bool.{not}
use Rattle.definitions.specs.Basic.{is_none}
use Rattle.definitions.specs.Mandatory.{mandatory_rows_of}
use Rattle.definitions.specs.Values.{mandatory_width, bad_rows}
use Rattle.values.specs.Rows.{sources_of}
use Rattle.mandatory_writing.specs.Writes.{misfit_as, misfit_in, absent_in}
use Rattle.mandatory_writing.proofs.Sizing.{written-size}
use Rattle.mandatory_writing.proofs.Checks.{wrote-bad, wrote-absent, wrote-unfit, wrote-short, wrote-done}
use Rattle.mandatory_writing.proofs.encode.encode_octets.Goals as goal

pub returns-then-any_bad : goal.returns-then-any_bad
returns-then-any_bad c = wrote-bad (mandatory_rows_of c.args.table.now) (sources_of c.args.received.now c.args.set.now) c.args.rows.now c.args.output.now (ap (λ (n : ℕ). bad_rows mandatory_width (sources_of c.args.received.now c.args.set.now) c.args.rows.now n) (sym c.mandatory_rows-n.ensures) ∙ sym c.any_bad.ensures ∙ c.if-any_bad.true)

pub returns-then-any_absent : goal.returns-then-any_absent
returns-then-any_absent c = wrote-absent (mandatory_rows_of c.args.table.now) (sources_of c.args.received.now c.args.set.now) c.args.rows.now c.args.output.now (ap (λ (n : ℕ). bad_rows mandatory_width (sources_of c.args.received.now c.args.set.now) c.args.rows.now n) (sym c.mandatory_rows-n.ensures) ∙ sym c.any_bad.ensures ∙ c.if-any_bad.false) (ap (λ (n : ℕ). not (is_none (absent_in c.args.rows.now n))) (sym c.mandatory_rows-n.ensures) ∙ sym c.any_absent.ensures ∙ c.if-any_absent.true)

pub returns-then-output-size : goal.returns-then-output-size
returns-then-output-size c = wrote-short (mandatory_rows_of c.args.table.now) (sources_of c.args.received.now c.args.set.now) c.args.rows.now c.args.output.now (ap (λ (n : ℕ). bad_rows mandatory_width (sources_of c.args.received.now c.args.set.now) c.args.rows.now n) (sym c.mandatory_rows-n.ensures) ∙ sym c.any_bad.ensures ∙ c.if-any_bad.false) (ap (λ (n : ℕ). not (is_none (absent_in c.args.rows.now n))) (sym c.mandatory_rows-n.ensures) ∙ sym c.any_absent.ensures ∙ c.if-any_absent.false) (ap (λ (n : ℕ). misfit_in (mandatory_rows_of c.args.table.now) (sources_of c.args.received.now c.args.set.now) c.args.rows.now 0 n) (sym c.mandatory_rows-n.ensures) ∙ sym c.first_misfit.ensures ∙ ap misfit_as c.in_default.is) (written-size (sources_of c.args.received.now c.args.set.now) c.args.rows.now 0 0 (mandatory_rows_of c.args.table.now) ∙ sym c.octets_needed-size.ensures) (omega arith)

pub write_rows-requires : goal.write_rows-requires
write_rows-requires c = record { short = c.requires.0; few = c.requires.1; fit = (ap (λ (n : ℕ). misfit_in (mandatory_rows_of c.args.table.now) (sources_of c.args.received.now c.args.set.now) c.args.rows.now 0 n) (sym c.mandatory_rows-n.ensures) ∙ sym c.first_misfit.ensures ∙ ap misfit_as c.in_default.is); room = omega (arith, (written-size (sources_of c.args.received.now c.args.set.now) c.args.rows.now 0 0 (mandatory_rows_of c.args.table.now) ∙ sym c.octets_needed-size.ensures)) }

pub returns-in-Some : goal.returns-in-Some
returns-in-Some c = wrote-unfit (mandatory_rows_of c.args.table.now) (sources_of c.args.received.now c.args.set.now) c.args.rows.now c.args.output.now (ap (λ (n : ℕ). bad_rows mandatory_width (sources_of c.args.received.now c.args.set.now) c.args.rows.now n) (sym c.mandatory_rows-n.ensures) ∙ sym c.any_bad.ensures ∙ c.if-any_bad.false) (ap (λ (n : ℕ). not (is_none (absent_in c.args.rows.now n))) (sym c.mandatory_rows-n.ensures) ∙ sym c.any_absent.ensures ∙ c.if-any_absent.false) c.in-Some.k (ap (λ (n : ℕ). misfit_in (mandatory_rows_of c.args.table.now) (sources_of c.args.received.now c.args.set.now) c.args.rows.now 0 n) (sym c.mandatory_rows-n.ensures) ∙ sym c.first_misfit.ensures ∙ ap misfit_as c.in-Some.is)

pub returns : goal.returns
returns c = wrote-done (mandatory_rows_of c.args.table.now) (sources_of c.args.received.now c.args.set.now) c.args.rows.now c.args.output.now (ap (λ (n : ℕ). bad_rows mandatory_width (sources_of c.args.received.now c.args.set.now) c.args.rows.now n) (sym c.mandatory_rows-n.ensures) ∙ sym c.any_bad.ensures ∙ c.if-any_bad.false) (ap (λ (n : ℕ). not (is_none (absent_in c.args.rows.now n))) (sym c.mandatory_rows-n.ensures) ∙ sym c.any_absent.ensures ∙ c.if-any_absent.false) (ap (λ (n : ℕ). misfit_in (mandatory_rows_of c.args.table.now) (sources_of c.args.received.now c.args.set.now) c.args.rows.now 0 n) (sym c.mandatory_rows-n.ensures) ∙ sym c.first_misfit.ensures ∙ ap misfit_as c.in_default.is) (written-size (sources_of c.args.received.now c.args.set.now) c.args.rows.now 0 0 (mandatory_rows_of c.args.table.now) ∙ sym c.octets_needed-size.ensures) (omega arith) c.write_rows.ensures
