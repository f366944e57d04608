-- A row's three numbers a turn: what is left to write from here on gives what the whole table leaves.
-- Each law is the definition's own clause, at the rows from the loop's place on.
use Prim.Native.Nat.{ℕ, suc, ◌+◌, ◌*◌, ◌≤◌, ◌<◌}
use native.Mathlib.Omega.{arith}
use native.Mathlib.Numerals.{add-one}
use mathlib.Core.Path.{◌≡◌, refl, ap, sym, ◌∙◌}
use mathlib.Core.List.{List, [], ◌∷◌}
use lib.ListN.{length, drop, drop_of_length-le, length-drop}
use lib.Seq.{drop-drop}
use Rattle.definitions.specs.Basic.{over, over_at}
use Rattle.definitions.specs.Mandatory.{MandatoryRow, mandatory_row_at}
use Rattle.definitions.proofs.Lists.{over_none, over-next, length-over_at}
use Rattle.rows.proofs.Steps.{mandatory-drop}
use Rattle.std.specs.Prelude.{Result, Ok, Err}
use borrow.Author.Tests.{le-leb}
use Rattle.rows.specs.Lent.{put_row}
use Rattle.mandatory.specs.Reads.{found_in, rows_by, rows_from}
use Rattle.mandatory_ie.specs.declared.Lacking.{Lacking}
use Rattle.mandatory_ie.specs.declared.Found.{Found}
use Rattle.mandatory_ie.proofs.Finding.{found_within}

-- the rows from k on, written from here on, leave what all of them leave
pub record Filling (t : List MandatoryRow) (part rows₀ : List ℕ) (k at : ℕ) (rows : List ℕ) : Type 0 where
  pub within : k ≤ length t
  pub inside : at ≤ length part
  pub size : length rows ≡ length rows₀
  pub room : 3 * length t ≤ length rows₀
  pub fills : over_at (3 * k) (rows_from at (drop k t) (drop at part)) rows ≡ over (rows_from 0 t part) rows₀

module _ (t : List MandatoryRow) (part rows₀ : List ℕ) where
  pub filling : 3 * length t ≤ length rows₀ → Filling t part rows₀ 0 0 rows₀
  unfolding over_at
  filling h = record { within = omega arith; inside = omega arith; size = refl; room = h; fills = refl }

  module _ (k at : ℕ) (rows : List ℕ) (i : Filling t part rows₀ k at rows) where
    pub filled-all : length t ≤ k → rows ≡ over (rows_from 0 t part) rows₀
    unfolding rows_from
    filled-all h = sym (over_none (3 * k) rows) ∙ rw (drop_of_length-le t {i = k} h) at i.fills

    module _ (h : k < length t) where
      abbrev found : Result Found Lacking
      found = found_in t k (drop at part)

      step : over_at (3 * k) (rows_by at found (λ took. rows_from (at + took) (drop (suc k) t) (drop took (drop at part)))) rows ≡ over (rows_from 0 t part) rows₀
      unfolding rows_from
      step = rw (mandatory-drop t k h) at i.fills

      pub filled-lacking : {l : Lacking} → found ≡ Err l → rows ≡ over (rows_from 0 t part) rows₀
      filled-lacking e = sym (over_none (3 * k) rows) ∙ rw e at step

      module _ (f : Found) (e : found ≡ Ok f) where
        -- what a value's numbers are below
        pub small : length part ≤ 65535 → (at + f.start < 65536) × (f.len < 65536)
        small s =
            let w = found_within (mandatory_row_at t k) (drop at part) f e in
            (omega (arith, w.1, length-drop at part, i.inside), omega (arith, w.1, length-drop at part))

        pub filled_on : {rows' : List ℕ} → rows' ≡ put_row (3 * k) (1 ∷ (at + f.start) ∷ f.len ∷ []) rows → Filling t part rows₀ (k + 1) (at + f.took) rows'
        unfolding put_row
        filled_on {rows'} p =
            let w = found_within (mandatory_row_at t k) (drop at part) f e in
            let s : drop f.took (drop at part) ≡ drop (at + f.took) part = drop-drop f.took at part in
            let g : 3 * k + 3 ≤ length rows = omega (arith, i.room, i.size) in
            let q : rows' ≡ over_at (3 * k) (1 ∷ (at + f.start) ∷ f.len ∷ []) rows = rw (le-leb (3 * k + 3) (length rows) g) at p in
            let b : List ℕ = rows_from (at + f.took) (drop (suc k) t) (drop (at + f.took) part) in
            let z : 3 * (k + 1) ≡ 3 * k + 3 = omega arith in
            let o : over_at (3 * k + 3) b (over_at (3 * k) (1 ∷ (at + f.start) ∷ f.len ∷ []) rows) ≡ over_at (3 * k) (1 ∷ (at + f.start) ∷ f.len ∷ b) rows = over-next (3 * k) (1 ∷ (at + f.start) ∷ f.len ∷ []) b rows g in
            record {
              within = omega arith;
              inside = omega (arith, w.0, length-drop at part, i.inside);
              size = ap length q ∙ length-over_at (3 * k) (1 ∷ (at + f.start) ∷ f.len ∷ []) rows g ∙ i.size;
              room = i.room;
              fills = rw (z, add-one k, q) (o ∙ rw (e, s) at step);
            }
