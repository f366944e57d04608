-- `encoded_size` is the size by the form.
-- Each arm names the form.
use mathlib.Core.Path.{ap, sym}
use Rattle.rows.specs.Forms.{mandatory_form_as}
use Rattle.rows.specs.declared.columns.MandatoryForm.{MandatoryForm}
use Rattle.mandatory_writing.specs.Writes.{encoded_size}
use Rattle.mandatory_writing.proofs.row.encoded_size.Goals as goal

pub returns-in-LowHalf : goal.returns-in-LowHalf
unfolding encoded_size
returns-in-LowHalf c = ap (λ (f : MandatoryForm). encoded_size (mandatory_form_as f) c.args.len) (sym c.in-LowHalf.is)

pub returns-in-HighHalf : goal.returns-in-HighHalf
unfolding encoded_size
returns-in-HighHalf c = ap (λ (f : MandatoryForm). encoded_size (mandatory_form_as f) c.args.len) (sym c.in-HighHalf.is)

pub returns-in-Fixed : goal.returns-in-Fixed
unfolding encoded_size
returns-in-Fixed c = ap (λ (f : MandatoryForm). encoded_size (mandatory_form_as f) c.args.len) (sym c.in-Fixed.is)

pub returns-in-Lv : goal.returns-in-Lv
unfolding encoded_size
returns-in-Lv c = ap (λ (f : MandatoryForm). encoded_size (mandatory_form_as f) c.args.len) (sym c.in-Lv.is)

pub returns-in-LvE : goal.returns-in-LvE
unfolding encoded_size
returns-in-LvE c = ap (λ (f : MandatoryForm). encoded_size (mandatory_form_as f) c.args.len) (sym c.in-LvE.is)
