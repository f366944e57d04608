-- `frame` is the length by the form.
-- Each arm names the form, whose length the callee answers.
use mathlib.Core.Path.{ap, sym, ◌∙◌}
use Rattle.definitions.specs.Length.{whole, stated}
use Rattle.length.specs.Answers.{length_of}
use Rattle.rows.specs.Forms.{form_as}
use Rattle.rows.specs.declared.columns.Form.{Form}
use Rattle.elements.proofs.element.frame.Goals as goal

pub returns-in-Half : goal.returns-in-Half
unfolding whole stated
returns-in-Half c = c.fixed_length.ensures ∙ ap (λ (f : Form). length_of (whole (form_as f) c.args.octets.now)) (sym c.in-Half.is)

pub returns-in-Fixed : goal.returns-in-Fixed
unfolding whole stated
returns-in-Fixed c = c.fixed_length-in-Fixed.ensures ∙ ap (λ (f : Form). length_of (whole (form_as f) c.args.octets.now)) (sym c.in-Fixed.is)

pub returns-in-Tlv : goal.returns-in-Tlv
unfolding whole stated
returns-in-Tlv c = c.tlv_length.ensures ∙ ap (λ (f : Form). length_of (whole (form_as f) c.args.octets.now)) (sym c.in-Tlv.is)

pub returns-in-TlvE : goal.returns-in-TlvE
unfolding whole stated
returns-in-TlvE c = c.tlve_length.ensures ∙ ap (λ (f : Form). length_of (whole (form_as f) c.args.octets.now)) (sym c.in-TlvE.is)
