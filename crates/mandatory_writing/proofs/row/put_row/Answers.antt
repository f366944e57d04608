-- `put_row` writes a row by its form.
-- Each arm names the form, of which the value fits.
use Prim.Native.Nat.{ℕ, ◌+◌, ◌*◌, ◌≤◌}
use native.Mathlib.Omega.{arith}
use mathlib.Core.Path.{◌≡◌, ap, sym, ◌∙◌}
use mathlib.Core.List.{List, [], ◌∷◌}
use mathlib.Core.Bool.{true}
use borrow.Author.Tests.{leb-true}
use lib.ListN.{length}
use lib.Seq.{take_all}
use Rattle.definitions.specs.Basic.{over}
use Rattle.definitions.specs.Mandatory.{fits_mandatory, encoded_row}
use Rattle.definitions.proofs.Lists.{front-one}
use Rattle.rows.specs.Forms.{mandatory_form_as}
use Rattle.rows.specs.declared.columns.MandatoryForm.{MandatoryForm}
use Rattle.mandatory_writing.proofs.row.put_row.Goals as goal

pub bounds-out-0 : goal.bounds-out-0
unfolding encoded_row
bounds-out-0 c = let q : length (encoded_row (mandatory_form_as c.args.form) c.args.low c.args.source c.args.value.now) ≤ length c.args.out.now = c.requires.1 in let e = rw c.in-HighHalf.is at q in omega arith

pub put_lv-requires : goal.put_lv-requires
unfolding fits_mandatory encoded_row
put_lv-requires c = let p : fits_mandatory (mandatory_form_as c.args.form) c.args.source c.args.value.now ≡ true = c.requires.0 in let d = rw c.in-Lv.is at p in let q : length (encoded_row (mandatory_form_as c.args.form) c.args.low c.args.source c.args.value.now) ≤ length c.args.out.now = c.requires.1 in let e = rw c.in-Lv.is at q in (leb-true (length c.args.value.now) 255 d, e)

pub put_lv_e-requires : goal.put_lv_e-requires
unfolding fits_mandatory encoded_row
put_lv_e-requires c = let p : fits_mandatory (mandatory_form_as c.args.form) c.args.source c.args.value.now ≡ true = c.requires.0 in let d = rw c.in-LvE.is at p in let q : length (encoded_row (mandatory_form_as c.args.form) c.args.low c.args.source c.args.value.now) ≤ length c.args.out.now = c.requires.1 in let e = rw c.in-LvE.is at q in (leb-true (length c.args.value.now) 65535 d, e)

pub returns-in-LowHalf : goal.returns-in-LowHalf
unfolding over encoded_row
returns-in-LowHalf c = ap (λ (f : MandatoryForm). over (encoded_row (mandatory_form_as f) c.args.low c.args.source c.args.value.now) c.args.out.now) (sym c.in-LowHalf.is)

pub returns-in-HighHalf : goal.returns-in-HighHalf
unfolding encoded_row
returns-in-HighHalf c = let q : length (encoded_row (mandatory_form_as c.args.form) c.args.low c.args.source c.args.value.now) ≤ length c.args.out.now = c.requires.1 in let e = rw c.in-HighHalf.is at q in front-one (c.high_bits-high.result * 16 + c.args.low) c.args.out.now (omega arith) ∙ ap (λ (n : ℕ). over ((n * 16 + c.args.low) ∷ []) c.args.out.now) c.high_bits-high.ensures.0 ∙ ap (λ (f : MandatoryForm). over (encoded_row (mandatory_form_as f) c.args.low c.args.source c.args.value.now) c.args.out.now) (sym c.in-HighHalf.is)

pub returns-in-Fixed : goal.returns-in-Fixed
unfolding encoded_row
returns-in-Fixed c = let q : length (encoded_row (mandatory_form_as c.args.form) c.args.low c.args.source c.args.value.now) ≤ length c.args.out.now = c.requires.1 in let e = rw c.in-Fixed.is at q in c.put_slice.ensures ∙ ap (λ (s : List ℕ). over s c.args.out.now) (take_all (length c.args.out.now) c.args.value.now (omega arith)) ∙ ap (λ (f : MandatoryForm). over (encoded_row (mandatory_form_as f) c.args.low c.args.source c.args.value.now) c.args.out.now) (sym c.in-Fixed.is)

pub returns-in-Lv : goal.returns-in-Lv
unfolding encoded_row
returns-in-Lv c = c.put_lv.ensures ∙ ap (λ (f : MandatoryForm). over (encoded_row (mandatory_form_as f) c.args.low c.args.source c.args.value.now) c.args.out.now) (sym c.in-Lv.is)

pub returns-in-LvE : goal.returns-in-LvE
unfolding encoded_row
returns-in-LvE c = c.put_lv_e.ensures ∙ ap (λ (f : MandatoryForm). over (encoded_row (mandatory_form_as f) c.args.low c.args.source c.args.value.now) c.args.out.now) (sym c.in-LvE.is)
