-- Equal values come from equal answers: each map from an answer of this crate to the definitions tells two answers apart.
-- By cases; two constructors are never equal.
use Rattle.std.specs.Prelude.{ℕ, Option as Answered, Some, None}
use mathlib.Core.Path.{◌≡◌, refl}
use Rattle.rows.specs.Forms.{form_as, mandatory_form_as}
use Rattle.rows.specs.Answers.{place_as}
use Rattle.rows.specs.declared.columns.Form.{Form}
use Rattle.rows.specs.declared.columns.MandatoryForm.{MandatoryForm}

pub same_place : (a b : Answered ℕ) → place_as a ≡ place_as b → a ≡ b
same_place None None e = refl
same_place None (Some k) e = cc
same_place (Some j) None e = cc
same_place (Some j) (Some k) e = cc

pub same-form : (a b : Form) → form_as a ≡ form_as b → a ≡ b
same-form Form.Half Form.Half e = refl
same-form Form.Half (Form.Fixed n) e = cc
same-form Form.Half Form.Tlv e = cc
same-form Form.Half Form.TlvE e = cc
same-form (Form.Fixed m) Form.Half e = cc
same-form (Form.Fixed m) (Form.Fixed n) e = cc
same-form (Form.Fixed m) Form.Tlv e = cc
same-form (Form.Fixed m) Form.TlvE e = cc
same-form Form.Tlv Form.Half e = cc
same-form Form.Tlv (Form.Fixed n) e = cc
same-form Form.Tlv Form.Tlv e = refl
same-form Form.Tlv Form.TlvE e = cc
same-form Form.TlvE Form.Half e = cc
same-form Form.TlvE (Form.Fixed n) e = cc
same-form Form.TlvE Form.Tlv e = cc
same-form Form.TlvE Form.TlvE e = refl

pub same-mandatory-form : (a b : MandatoryForm) → mandatory_form_as a ≡ mandatory_form_as b → a ≡ b
same-mandatory-form MandatoryForm.LowHalf MandatoryForm.LowHalf e = refl
same-mandatory-form MandatoryForm.LowHalf MandatoryForm.HighHalf e = cc
same-mandatory-form MandatoryForm.LowHalf (MandatoryForm.Fixed n) e = cc
same-mandatory-form MandatoryForm.LowHalf MandatoryForm.Lv e = cc
same-mandatory-form MandatoryForm.LowHalf MandatoryForm.LvE e = cc
same-mandatory-form MandatoryForm.HighHalf MandatoryForm.LowHalf e = cc
same-mandatory-form MandatoryForm.HighHalf MandatoryForm.HighHalf e = refl
same-mandatory-form MandatoryForm.HighHalf (MandatoryForm.Fixed n) e = cc
same-mandatory-form MandatoryForm.HighHalf MandatoryForm.Lv e = cc
same-mandatory-form MandatoryForm.HighHalf MandatoryForm.LvE e = cc
same-mandatory-form (MandatoryForm.Fixed m) MandatoryForm.LowHalf e = cc
same-mandatory-form (MandatoryForm.Fixed m) MandatoryForm.HighHalf e = cc
same-mandatory-form (MandatoryForm.Fixed m) (MandatoryForm.Fixed n) e = cc
same-mandatory-form (MandatoryForm.Fixed m) MandatoryForm.Lv e = cc
same-mandatory-form (MandatoryForm.Fixed m) MandatoryForm.LvE e = cc
same-mandatory-form MandatoryForm.Lv MandatoryForm.LowHalf e = cc
same-mandatory-form MandatoryForm.Lv MandatoryForm.HighHalf e = cc
same-mandatory-form MandatoryForm.Lv (MandatoryForm.Fixed n) e = cc
same-mandatory-form MandatoryForm.Lv MandatoryForm.Lv e = refl
same-mandatory-form MandatoryForm.Lv MandatoryForm.LvE e = cc
same-mandatory-form MandatoryForm.LvE MandatoryForm.LowHalf e = cc
same-mandatory-form MandatoryForm.LvE MandatoryForm.HighHalf e = cc
same-mandatory-form MandatoryForm.LvE (MandatoryForm.Fixed n) e = cc
same-mandatory-form MandatoryForm.LvE MandatoryForm.Lv e = cc
same-mandatory-form MandatoryForm.LvE MandatoryForm.LvE e = refl
