-- `decode_mandatory_ie` is what a row finds, by its form.
-- Each arm names the form, by which the law says what is found.
use Prim.Native.Nat.{ℕ, ◌<◌}
use mathlib.Core.Path.{◌≡◌, ap, sym, ◌∙◌}
use lib.ListN.{length, get_or}
use Rattle.std.specs.Option.{option_copied}
use Rattle.std.proofs.lemmas.Result.{err_from_is_err_and}
use Rattle.definitions.specs.Mandatory.{MandatoryForm, low_half, high_half, fixed_v, lv, lv-e, mandatory_rows_of, mandatory_row_at, mandatory_form, behind, found_by}
use Rattle.definitions.proofs.Mandatories.{found_none, found-low, found-high, found-fixed, found-lv, found-lv-e}
use Rattle.rows.specs.Forms.{mandatory_form_as}
use Rattle.mandatory_ie.specs.Founds.{found_as}
use Rattle.mandatory_ie.proofs.Finding.{given, lacking, first-given, first-lacking}
use Rattle.mandatory_ie.proofs.decode_mandatory_ie.Goals as goal
use Rattle.mandatory_ie.proofs.decode_mandatory_ie.Goals.{In_ok-first}

pub returns-in_err-first : goal.returns-in_err-first
returns-in_err-first c =
    let a = c.args in
    let p = err_from_is_err_and c.from_residual.result c.from_residual.ensures.1 in
    let q = lacking c.first.result _ (sym c.ok_or.ensures.value ∙ c.in_err-first.was) in
    let z = first-lacking a.left.now (sym (ap option_copied q.0) ∙ c.first.ensures.value) in
    rw (p.1, p.2, q.1) (ap (found_as (mandatory_row_at (mandatory_rows_of a.table.now) a.row)) (sym (found_none (mandatory_form (mandatory_row_at (mandatory_rows_of a.table.now) a.row)) a.left.now z)))

-- the first octet is there
there : (c : In_ok-first) → (0 < length c.args.left.now) × (get_or c.args.left.now 0 0 ≡ c.in_ok-first.field-0.now)
there c = first-given c.args.left.now (sym (ap option_copied (given c.first.result _ (sym c.ok_or.ensures.value ∙ c.in_ok-first.was))) ∙ c.first.ensures.value)

pub returns-in-LowHalf : goal.returns-in-LowHalf
returns-in-LowHalf c =
    let a = c.args in
    let t = there (goal.at.returns-in-LowHalf c).In_ok-first in
    let e : mandatory_form (mandatory_row_at (mandatory_rows_of a.table.now) a.row) ≡ low_half = sym c.mandatory_form_at.ensures ∙ ap mandatory_form_as c.in-LowHalf.is in
    c.half.ensures ∙ ap (found_as (mandatory_row_at (mandatory_rows_of a.table.now) a.row)) (sym (ap (λ (f : MandatoryForm). found_by f a.left.now) e ∙ (rw t.1 at (found-low a.left.now t.0))))

pub returns-in-HighHalf : goal.returns-in-HighHalf
returns-in-HighHalf c =
    let a = c.args in
    let t = there (goal.at.returns-in-HighHalf c).In_ok-first in
    let e : mandatory_form (mandatory_row_at (mandatory_rows_of a.table.now) a.row) ≡ high_half = sym c.mandatory_form_at.ensures ∙ ap mandatory_form_as c.in-HighHalf.is in
    c.half-in-HighHalf.ensures ∙ ap (found_as (mandatory_row_at (mandatory_rows_of a.table.now) a.row)) (sym (ap (λ (f : MandatoryForm). found_by f a.left.now) e ∙ (rw t.1 at (found-high a.left.now t.0))))

pub returns-in-Fixed : goal.returns-in-Fixed
returns-in-Fixed c =
    let a = c.args in
    let t = there (goal.at.returns-in-Fixed c).In_ok-first in
    let e : mandatory_form (mandatory_row_at (mandatory_rows_of a.table.now) a.row) ≡ fixed_v c.in-Fixed.n = sym c.mandatory_form_at.ensures ∙ ap mandatory_form_as c.in-Fixed.is in
    c.behind.ensures ∙ ap (found_as (mandatory_row_at (mandatory_rows_of a.table.now) a.row)) (sym (ap (λ (f : MandatoryForm). found_by f a.left.now) e ∙ found-fixed c.in-Fixed.n a.left.now t.0))

pub returns-in-Lv : goal.returns-in-Lv
returns-in-Lv c =
    let a = c.args in
    let t = there (goal.at.returns-in-Lv c).In_ok-first in
    let e : mandatory_form (mandatory_row_at (mandatory_rows_of a.table.now) a.row) ≡ lv = sym c.mandatory_form_at.ensures ∙ ap mandatory_form_as c.in-Lv.is in
    c.behind-in-Lv.ensures ∙ ap (λ (n : ℕ). found_as (mandatory_row_at (mandatory_rows_of a.table.now) a.row) (behind 1 n a.left.now)) c.from.ensures ∙ ap (found_as (mandatory_row_at (mandatory_rows_of a.table.now) a.row)) (sym (ap (λ (f : MandatoryForm). found_by f a.left.now) e ∙ (rw t.1 at (found-lv a.left.now t.0))))

pub returns-in-LvE : goal.returns-in-LvE
returns-in-LvE c =
    let a = c.args in
    let t = there (goal.at.returns-in-LvE c).In_ok-first in
    let e : mandatory_form (mandatory_row_at (mandatory_rows_of a.table.now) a.row) ≡ lv-e = sym c.mandatory_form_at.ensures ∙ ap mandatory_form_as c.in-LvE.is in
    c.behind_pair.ensures ∙ ap (found_as (mandatory_row_at (mandatory_rows_of a.table.now) a.row)) (sym (ap (λ (f : MandatoryForm). found_by f a.left.now) e ∙ found-lv-e a.left.now t.0))
