-- `show_row` is the row of a form: nothing, a refusal, or the value.
-- Each arm names the form.
use native.Mathlib.Omega.{arith}
use mathlib.Core.Path.{◌≡◌, ap, sym, ◌∙◌}
use mathlib.Core.List.{[], ◌∷◌}
use mathlib.Core.Logic.{◌⊎◌, inl, inr}
use Prim.Native.Nat.{ℕ}
use Rattle.definitions.specs.Basic.{answer}
use Rattle.definitions.specs.Values.{Octets, Value, octets_at, fits, shown_by}
use Rattle.rows.specs.Forms.{form_as}
use Rattle.rows.specs.declared.columns.Form.{Form}
use Rattle.values.specs.Shows.{shown_row}
use Rattle.values.specs.Rows.{sources_of, value_of}
use Rattle.values.proofs.Showing.{shown-absent, shown-unfit, shown-fit}
use Rattle.values.proofs.show.show_row.Goals as goal
use Rattle.values.proofs.show.show_row.Goals.{After-does_fit, Else-not-does_fit}

-- whether the value fits
fit : (c : After-does_fit) → c.does_fit.result ≡ fits (form_as c.args.form) c.args.row.source (octets_at (sources_of c.args.received.now c.args.set.now) (value_of c.args.row))
fit c = c.does_fit.ensures ∙ ap (fits (form_as c.args.form) c.args.row.source) c.value_octets-value.ensures.result_value

-- and what is shown of one that does
fitting : (c : Else-not-does_fit) → shown_row (form_as c.args.form) (sources_of c.args.received.now c.args.set.now) (value_of c.args.row) c.args.place ≡ answer 0 (shown_by (form_as c.args.form) (sources_of c.args.received.now c.args.set.now) (value_of c.args.row))
fitting c =
    let a = c.args in
    let d = c.does_fit.ensures ∙ ap (fits (form_as a.form) a.row.source) c.value_octets-value.ensures.result_value in
    shown-fit (form_as a.form) (sources_of a.received.now a.set.now) (value_of a.row) a.place (omega arith) (sym d ∙ c.if-not-does_fit.false)

pub returns-then-row-eq0 : goal.returns-then-row-eq0
returns-then-row-eq0 c = sym (shown-absent (form_as c.args.form) (sources_of c.args.received.now c.args.set.now) (value_of c.args.row) c.args.place (omega arith))

pub returns-then-not-does_fit : goal.returns-then-not-does_fit
returns-then-not-does_fit c =
    let a = c.args in
    sym (shown-unfit (form_as a.form) (sources_of a.received.now a.set.now) (value_of a.row) a.place (omega arith) (sym (fit (goal.at.returns-then-not-does_fit c).After-does_fit) ∙ c.if-not-does_fit.true))

pub returns-in-Half : goal.returns-in-Half
unfolding shown_by
returns-in-Half c =
    let a = c.args in
    sym (fitting (goal.at.returns-in-Half c).Else-not-does_fit ∙ ap (λ (f : Form). answer 0 (shown_by (form_as f) (sources_of a.received.now a.set.now) (value_of a.row))) c.in-Half.is ∙ rw (c.bits_of.ensures, ← c.value_octets-value.ensures.result_value))

-- of another form than a half octet the row is shown
as_row : (o : Octets) (v : Value) (f : Form) → (((n : ℕ) × (f ≡ Form.Fixed n)) ⊎ ((f ≡ Form.Tlv) ⊎ (f ≡ Form.TlvE))) → shown_by (form_as f) o v ≡ v.source ∷ v.start ∷ v.size ∷ v.iei ∷ []
unfolding shown_by
as_row o v f (inl e) = ap (λ (g : Form). shown_by (form_as g) o v) e.1
as_row o v f (inr (inl e)) = ap (λ (g : Form). shown_by (form_as g) o v) e
as_row o v f (inr (inr e)) = ap (λ (g : Form). shown_by (form_as g) o v) e

pub returns-in-Fixed : goal.returns-in-Fixed
returns-in-Fixed c =
    let a = c.args in
    sym (fitting (goal.at.returns-in-Fixed c).Else-not-does_fit ∙ ap (answer 0) (as_row (sources_of a.received.now a.set.now) (value_of a.row) a.form c.in-Fixed.is))
