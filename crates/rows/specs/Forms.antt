-- The forms of the code by those of the definitions.
use Rattle.definitions.specs.Rows.{Form as DefForm, half, fixed, tlv, tlv-e}
use Rattle.definitions.specs.Mandatory.{MandatoryForm as DefMandatory, low_half, high_half, fixed_v, lv, lv-e}
use Rattle.rows.specs.declared.columns.Form.{Form}
use Rattle.rows.specs.declared.columns.MandatoryForm.{MandatoryForm}

abbrev pub form_as : Form → DefForm
form_as Form.Half = half
form_as (Form.Fixed n) = fixed n
form_as Form.Tlv = tlv
form_as Form.TlvE = tlv-e

abbrev pub mandatory_form_as : MandatoryForm → DefMandatory
mandatory_form_as MandatoryForm.LowHalf = low_half
mandatory_form_as MandatoryForm.HighHalf = high_half
mandatory_form_as (MandatoryForm.Fixed n) = fixed_v n
mandatory_form_as MandatoryForm.Lv = lv
mandatory_form_as MandatoryForm.LvE = lv-e
