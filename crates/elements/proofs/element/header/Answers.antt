-- `header` is the number of octets before the value.
-- Each arm names the form.
use mathlib.Core.Path.{ap, sym}
use Rattle.definitions.specs.Length.{header}
use Rattle.rows.specs.Forms.{form_as}
use Rattle.rows.specs.declared.columns.Form.{Form}
use Rattle.elements.proofs.element.header.Goals as goal

pub returns-in-Half : goal.returns-in-Half
unfolding header
returns-in-Half c = ap (λ (f : Form). header (form_as f)) (sym c.in-Half.is)

pub returns-in-Fixed : goal.returns-in-Fixed
unfolding header
returns-in-Fixed c = ap (λ (f : Form). header (form_as f)) (sym c.in-Fixed.is)

pub returns-in-Tlv : goal.returns-in-Tlv
unfolding header
returns-in-Tlv c = ap (λ (f : Form). header (form_as f)) (sym c.in-Tlv.is)

pub returns-in-TlvE : goal.returns-in-TlvE
unfolding header
returns-in-TlvE c = ap (λ (f : Form). header (form_as f)) (sym c.in-TlvE.is)
