-- `fits_mandatory` is the fit by the form.
-- Each arm names the form.
use mathlib.Core.Path.{ap, sym, ◌∙◌}
use Rattle.definitions.specs.Mandatory.{fits_mandatory}
use Rattle.rows.specs.Forms.{mandatory_form_as}
use Rattle.rows.specs.declared.columns.MandatoryForm.{MandatoryForm}
use Rattle.mandatory_writing.proofs.row.fits_mandatory.Goals as goal

pub returns-in-LowHalf : goal.returns-in-LowHalf
unfolding fits_mandatory
returns-in-LowHalf c = c.half_fits.ensures ∙ ap (λ (f : MandatoryForm). fits_mandatory (mandatory_form_as f) c.args.source c.args.value.now) (sym c.in-LowHalf.is)

pub returns-in-HighHalf : goal.returns-in-HighHalf
unfolding fits_mandatory
returns-in-HighHalf c = c.half_fits-in-HighHalf.ensures ∙ ap (λ (f : MandatoryForm). fits_mandatory (mandatory_form_as f) c.args.source c.args.value.now) (sym c.in-HighHalf.is)

pub returns-in-Fixed : goal.returns-in-Fixed
unfolding fits_mandatory
returns-in-Fixed c = ap (λ (f : MandatoryForm). fits_mandatory (mandatory_form_as f) c.args.source c.args.value.now) (sym c.in-Fixed.is)

pub returns-in-Lv : goal.returns-in-Lv
unfolding fits_mandatory
returns-in-Lv c = ap (λ (f : MandatoryForm). fits_mandatory (mandatory_form_as f) c.args.source c.args.value.now) (sym c.in-Lv.is)

pub returns-in-LvE : goal.returns-in-LvE
unfolding fits_mandatory
returns-in-LvE c = ap (λ (f : MandatoryForm). fits_mandatory (mandatory_form_as f) c.args.source c.args.value.now) (sym c.in-LvE.is)
