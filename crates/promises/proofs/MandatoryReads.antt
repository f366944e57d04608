-- What a reading of mandatory rows that is done found, row by row; one that is not has another number.
-- By induction on the rows, and by what the first one finds.
use Prim.Native.Nat.{ℕ, suc, ◌+◌, ◌*◌, ◌≤◌}
use native.Mathlib.Omega.{arith}
use mathlib.Core.Path.{◌≡◌, refl, sym, ◌∙◌}
use mathlib.Core.List.{List, [], ◌∷◌, ◌++◌, append-nil, append_assoc}
use mathlib.Core.Bool.{Bool, true, false}
use mathlib.Core.Option.{Option, none, some}
use lib.ListN.{length, drop}
use Rattle.definitions.specs.Basic.{pick, Answer}
use Rattle.definitions.specs.Mandatory.{MandatoryRow, mandatory_form, Found, missing, truncated, value, found_by, fault_of, Rowed, stopped, noted, rowed}
use Rattle.definitions.proofs.Mandatories.{by-fault, row-missing, row-truncated, row-value}

-- the numbers that it left, and where it ended

pub data Finds : ℕ → List MandatoryRow → List ℕ → List ℕ → ℕ → Type 0 where
  nothing : {at : ℕ} {s : List ℕ} → Finds at [] s [] at
  one :
      {at h n took read : ℕ} {r : MandatoryRow} {rs : List MandatoryRow} {s v left : List ℕ} → found_by (mandatory_form r) s ≡ value h n took v
      → Finds (at + took) rs (drop took s) left read → Finds at (r ∷ rs) s (1 ∷ (at + h) ∷ n ∷ left) read

pub record Found-all (o : Rowed) (at : ℕ) (rs : List MandatoryRow) (s rows : List ℕ) : Type 0 where
  pub left : List ℕ
  pub finds : Finds at rs s left o.read
  pub rows_are : o.rows ≡ rows ++ left

abbrev pub Refusal : Option Answer → Type 0
Refusal none = Unit
Refusal (some a) = 1 ≤ a.number

pub record Ended (o : Rowed) (at : ℕ) (rs : List MandatoryRow) (s rows : List ℕ) : Type 0 where
  pub number : Refusal o.refused
  pub done : o.refused ≡ none → Found-all o at rs s rows

module _ (lenient : Bool) (k at : ℕ) (rs : List MandatoryRow) (s rows notes : List ℕ) where
  halted : (number : ℕ) → 1 ≤ number → (rs' : List MandatoryRow) → Ended (stopped number k at rows notes) at rs' s rows
  unfolding stopped
  halted number h rs' = record { number = h; done = λ p. let z : ◌≡◌ {A = ℕ} 0 1 = cc in absurd (omega arith) }

  module _ (r : MandatoryRow) (h n took : ℕ) (v : List ℕ) (e : found_by (mandatory_form r) s ≡ value h n took v) where
    abbrev rowed_on : List ℕ → Rowed
    rowed_on = rowed lenient (suc k) (at + took) rs (drop took s) (rows ++ (1 ∷ (at + h) ∷ n ∷ []))

    module _ (i : (notes' : List ℕ) → Ended (rowed_on notes') (at + took) rs (drop took s) (rows ++ (1 ∷ (at + h) ∷ n ∷ []))) where
      on : (notes' : List ℕ) → Ended (rowed_on notes') at (r ∷ rs) s rows
      on notes' =
          record {
            number = (i notes').number;
            done =
                λ p.
                let d = (i notes').done p in
                record { left = 1 ∷ (at + h) ∷ n ∷ d.left; finds = one e d.finds; rows_are = d.rows_are ∙ append_assoc rows (1 ∷ (at + h) ∷ n ∷ []) d.left };
          }

      faulty : (number : ℕ) → 1 ≤ number → (b : Bool) → Ended (pick b (rowed_on (notes ++ (k ∷ number ∷ []))) (stopped number k at rows notes)) at (r ∷ rs) s rows
      faulty number l true = on (notes ++ (k ∷ number ∷ []))
      faulty number l false = halted number l (r ∷ rs)

      valued : Ended (noted lenient k (fault_of r took v) notes rowed_on (λ fault. stopped fault k at rows notes)) at (r ∷ rs) s rows
      unfolding noted
      valued =
          by-fault (λ o. Ended (noted lenient k o notes rowed_on (λ fault. stopped fault k at rows notes)) at (r ∷ rs) s rows) r took v (on notes) (faulty 8 (omega arith) lenient) (faulty 9 (omega arith) lenient)

pub ended : (lenient : Bool) (k at : ℕ) (rs : List MandatoryRow) (s rows notes : List ℕ) → Ended (rowed lenient k at rs s rows notes) at rs s rows
unfolding rowed
ended lenient k at [] s rows notes = record { number = tt; done = λ p. record { left = []; finds = nothing; rows_are = sym (append-nil rows) } }
ended lenient k at (r ∷ rs) s rows notes =
    go (found_by (mandatory_form r) s) refl (λ h n took notes'. ended lenient (suc k) (at + took) rs (drop took s) (rows ++ (1 ∷ (at + h) ∷ n ∷ [])) notes')
  where
    go :
        (f : Found) → found_by (mandatory_form r) s ≡ f
        → ((h n took : ℕ) (notes' : List ℕ) → Ended (rowed lenient (suc k) (at + took) rs (drop took s) (rows ++ (1 ∷ (at + h) ∷ n ∷ [])) notes') (at + took) rs (drop took s) (rows ++ (1 ∷ (at + h) ∷ n ∷ [])))
        → Ended (rowed lenient k at (r ∷ rs) s rows notes) at (r ∷ rs) s rows
    go missing e i = rw (row-missing lenient k at r rs s rows notes e) (halted lenient k at rs s rows notes 6 (omega arith) (r ∷ rs))
    go truncated e i = rw (row-truncated lenient k at r rs s rows notes e) (halted lenient k at rs s rows notes 7 (omega arith) (r ∷ rs))
    go (value h n took v) e i = rw (row-value lenient k at r rs s rows notes e) (valued lenient k at rs s rows notes r h n took v e (i h n took))

pub left-length : {at read : ℕ} {rs : List MandatoryRow} {s left : List ℕ} → Finds at rs s left read → length left ≡ 3 * length rs
left-length nothing = refl
left-length (one f g) = omega (arith, left-length g)
