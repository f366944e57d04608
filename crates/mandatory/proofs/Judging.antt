-- A row a turn: what is judged from here on gives what the whole table does.
-- Each law is the definition's own clause, at the rows from the loop's place on.
use Prim.Native.Nat.{ℕ, suc, ◌+◌, ◌≤◌, ◌<◌}
use native.Mathlib.Omega.{arith}
use native.Mathlib.Numerals.{add-one}
use mathlib.Core.Path.{◌≡◌, refl, ap, sym, ◌∙◌}
use mathlib.Core.List.{List, [], ◌∷◌, ◌++◌}
use mathlib.Core.Bool.{Bool, true, false}
use lib.ListN.{length, drop, drop_of_length-le, length-drop}
use lib.Seq.{drop-drop}
use Rattle.std.specs.Prelude.{Option, Some, None, Result, Ok, Err}
use Rattle.definitions.specs.Basic.{Answer, answer}
use Rattle.definitions.specs.Mandatory.{MandatoryRow, mandatory_row_at}
use Rattle.rows.proofs.Steps.{mandatory-drop}
use Rattle.mandatory.specs.Notes.{no_notes, notes_as, with_fault, Tidy}
use Rattle.mandatory.specs.Reads.{error_number, error_values, read_as, Judges, fault_refused, found_in, ended_by, judged_row, refused_or, judged_by, judged_from}
use Rattle.mandatory_ie.specs.declared.Fault.{Fault}
use Rattle.mandatory_ie.specs.declared.Lacking.{Lacking}
use Rattle.mandatory_ie.specs.declared.Found.{Found}
use Rattle.mandatory.specs.declared.notes.Notes.{Notes}
use Rattle.mandatory.specs.declared.decode.MandatoryError.{MandatoryError}
use Rattle.mandatory_ie.proofs.Finding.{found_within}
use Rattle.mandatory.proofs.Noting.{tidy-none, notes-none, noted}

-- ---- one row: a refusal is the answer, with the notes before it; a value goes on

abbrev Told : MandatoryError → List ℕ → Answer
Told e notes = answer (error_number e) (error_values e ++ notes)

row-stops : (lenient : Bool) (k : ℕ) (r : Result Found Lacking) (notes : List ℕ) (rest : ℕ → List ℕ → Answer) {e : MandatoryError} → judged_row lenient k r ≡ Err e → judged_by lenient k notes r rest ≡ Told e notes
row-stops lenient k (Err Lacking.Missing) notes rest {e = e} h = let q : MandatoryError.Missing k ≡ e = cc in rw (← q) refl
row-stops lenient k (Err Lacking.Truncated) notes rest {e = e} h = let q : MandatoryError.Truncated k ≡ e = cc in rw (← q) refl
row-stops lenient k (Ok f) notes rest {e = e} h = by lenient f.fault h _
  where
    by : (b : Bool) (o : Option Fault) → ◌≡◌ {A = Result Found MandatoryError} (ended_by (fault_refused b o k) f) (Err e) → (x : Answer) → refused_or k notes (fault_refused b o k) x ≡ Told e notes
    by b None h x = let z : ◌≡◌ {A = ℕ} 0 1 = cc in absurd (omega arith)
    by true (Some fault) h x = let z : ◌≡◌ {A = ℕ} 0 1 = cc in absurd (omega arith)
    by false (Some Fault.TooShort) h x = let q : MandatoryError.TooShort k ≡ e = cc in rw (← q) refl
    by false (Some Fault.Syntax) h x = let q : MandatoryError.Syntax k ≡ e = cc in rw (← q) refl

row-goes : (lenient : Bool) (k : ℕ) (r : Result Found Lacking) (f : Found) → judged_row lenient k r ≡ Ok f → (r ≡ Ok f) × (fault_refused lenient f.fault k ≡ None)
row-goes lenient k (Err l) f h = let z : ◌≡◌ {A = ℕ} 0 1 = cc in absurd (omega arith)
row-goes lenient k (Ok g) f h = by (fault_refused lenient g.fault k) refl h
  where
    by : (o : Option MandatoryError) → fault_refused lenient g.fault k ≡ o → ◌≡◌ {A = Result Found MandatoryError} (ended_by o g) (Ok f) → (◌≡◌ {A = Result Found Lacking} (Ok g) (Ok f)) × (◌≡◌ {A = Option MandatoryError} (fault_refused lenient f.fault k) None)
    by None e h = let q : g ≡ f = cc in (ap (λ (x : Found). Ok x) q, rw q at e)
    by (Some x) e h = let z : ◌≡◌ {A = ℕ} 0 1 = cc in absurd (omega arith)

-- the rows from k on, judged from here on, give what all of them give
pub record Judging (lenient : Bool) (t : List MandatoryRow) (part : List ℕ) (k at : ℕ) (n : Notes) : Type 0 where
  pub within : k ≤ length t
  pub inside : at ≤ length part
  pub count : n.count ≤ k
  pub tidy : Tidy n
  pub tells : judged_from lenient k at (drop k t) (drop at part) (notes_as n) ≡ judged_from lenient 0 0 t part []

module _ (lenient : Bool) (t : List MandatoryRow) (part : List ℕ) where
  pub judging : Judging lenient t part 0 0 no_notes
  judging = record { within = omega arith; inside = omega arith; count = omega arith; tidy = tidy-none; tells = ap (judged_from lenient 0 0 t part) notes-none }

  abbrev whole : Answer
  whole = judged_from lenient 0 0 t part []

  module _ (k at : ℕ) (n : Notes) (i : Judging lenient t part k at n) where
    pub judged-all : length t ≤ k → Judges whole (record { answer = Ok at; notes = n })
    unfolding judged_from read_as
    judged-all h = record { answers = rw (drop_of_length-le t {i = k} h) at i.tells; tidy = i.tidy }

    module _ (h : k < length t) where
      abbrev found : Result Found Lacking
      found = found_in t k (drop at part)

      step : judged_by lenient k (notes_as n) found (λ took. judged_from lenient (suc k) (at + took) (drop (suc k) t) (drop took (drop at part))) ≡ whole
      unfolding judged_from
      step = rw (mandatory-drop t k h) at i.tells

      pub judged-stopped : (e : MandatoryError) → judged_row lenient k found ≡ Err e → Judges whole (record { answer = Err e; notes = n })
      unfolding read_as
      judged-stopped e q = record { answers = sym (row-stops lenient k found (notes_as n) _ q) ∙ step; tidy = i.tidy }

      pub judged-on : (f : Found) → judged_row lenient k found ≡ Ok f → k < 32 → Judging lenient t part (k + 1) (at + f.took) (with_fault n k f.fault)
      judged-on f q small =
          let g = row-goes lenient k found f q in
          let w = found_within (mandatory_row_at t k) (drop at part) f g.0 in
          let d = noted n i.tidy (omega (arith, i.count)) k f.fault in
          let s : drop f.took (drop at part) ≡ drop (at + f.took) part = drop-drop f.took at part in
          record {
            within = omega arith;
            inside = omega (arith, w.0, length-drop at part, i.inside);
            count = omega (arith, d.count, i.count);
            tidy = d.tidy;
            tells = rw (add-one k, d.tells, ← s) (rw (g.0, g.1) at step);
          }
