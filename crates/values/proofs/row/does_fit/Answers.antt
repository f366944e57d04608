-- `does_fit` is the rule of a form.
-- Each arm names the form.
use native.Mathlib.Omega.{arith}
use mathlib.Core.Path.{ap, sym, ◌∙◌}
use borrow.Author.Tests.{eq-eqb, ne_eqb}
use lib.ListN.{length}
use Rattle.definitions.specs.Values.{fits}
use Rattle.rows.specs.Forms.{form_as}
use Rattle.rows.specs.declared.columns.Form.{Form}
use Rattle.values.proofs.row.does_fit.Goals as goal

pub returns-then-source-eq1 : goal.returns-then-source-eq1
unfolding fits
returns-then-source-eq1 c = sym (ap (λ (f : Form). fits (form_as f) c.args.source c.args.octets.now) c.in-Half.is ∙ rw (eq-eqb (length c.args.octets.now) 1 (omega arith), eq-eqb c.args.source 1 (omega arith)))

pub returns-else-source-eq1 : goal.returns-else-source-eq1
unfolding fits
returns-else-source-eq1 c = sym (ap (λ (f : Form). fits (form_as f) c.args.source c.args.octets.now) c.in-Half.is ∙ rw (eq-eqb (length c.args.octets.now) 1 (omega arith), ne_eqb c.args.source 1 c.if-source-eq1.false))

pub returns-else-octets-eq1 : goal.returns-else-octets-eq1
unfolding fits
returns-else-octets-eq1 c = sym (ap (λ (f : Form). fits (form_as f) c.args.source c.args.octets.now) c.in-Half.is ∙ rw (ne_eqb (length c.args.octets.now) 1 c.if-octets-eq1.false))

pub returns-in-Fixed : goal.returns-in-Fixed
unfolding fits
returns-in-Fixed c = sym (ap (λ (f : Form). fits (form_as f) c.args.source c.args.octets.now) c.in-Fixed.is)

pub returns-in-Tlv : goal.returns-in-Tlv
unfolding fits
returns-in-Tlv c = sym (ap (λ (f : Form). fits (form_as f) c.args.source c.args.octets.now) c.in-Tlv.is)

pub returns-in-TlvE : goal.returns-in-TlvE
unfolding fits
returns-in-TlvE c = sym (ap (λ (f : Form). fits (form_as f) c.args.source c.args.octets.now) c.in-TlvE.is)
