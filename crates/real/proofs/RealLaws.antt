-- The constant tables and their indexes: one test, which is computed over a whole table and its index, and one law that turns it into
-- the rule: the table passes the check, and each entry is the place of its IEI, or 255. It is used once for each table.
use Prim.Native.Nat.{ℕ, zero, suc, ◌<◌}
use mathlib.Core.Path.{◌≡◌, refl, ap, ap₂}
use mathlib.Core.List.{List, [], ◌∷◌}
use mathlib.Core.Bool.{Bool, true, false, ◌&&◌}
use mathlib.Core.Option.{Option, none, some, get_or}
use borrow.Author.Tests.{eqb-true}
use lib.Dec.{eqb}
use Rattle.definitions.specs.Basic.{is_none, among, concat}
use Rattle.definitions.specs.Rows.{row_of, rows_f, rows_of, ieis, good_iei, all_good, fresh, good_row, first_bad_from, first_bad, place_from, place_of, index_entry, index_from, index, place_in}
use Rattle.definitions.specs.Mandatory.{mandatory_rows_f, mandatory_rows_of, is_half, next_is, good_mandatory, first_bad_mandatory_from, first_bad_mandatory}
use Rattle.definitions.specs.Tables.{table_of, mandatory_table_of, row, plain, table_p, optional1, optional2, optional3, optional4, optional5, optional6, mandatory1, mandatory2, mandatory3, mandatory4, mandatory5, mandatory6}
use Rattle.definitions.proofs.RowLaws.{both}
use Rattle.definitions.proofs.TableLaws.{index-place}
use Rattle.real.specs.Real.{index0, index1, index2, index3, index4, index5, index6, real_of, real_index_of, real_mandatory_of}

-- ---- the test

same : List ℕ → List ℕ → Bool
same [] [] = true
same [] (y ∷ ys) = false
same (x ∷ xs) [] = false
same (x ∷ xs) (y ∷ ys) = eqb x y && same xs ys

right : List ℕ → List ℕ → Bool
right t ix = is_none (first_bad (rows_of t)) && same ix (index (rows_of t))

-- ---- the law

pub record Right (t ix : List ℕ) : Type 0 where
  pub passes : first_bad (rows_of t) ≡ none
  pub entries : ix ≡ index (rows_of t)
  pub places : (iei : ℕ) → iei < 256 → place_in ix iei ≡ place_of (rows_of t) iei

same_lists : (a b : List ℕ) → same a b ≡ true → a ≡ b
unfolding same
same_lists [] [] h = refl
same_lists [] (y ∷ ys) h = cc
same_lists (x ∷ xs) [] h = cc
same_lists (x ∷ xs) (y ∷ ys) h = let b = both (eqb x y) (same xs ys) h in ap₂ (λ (z : ℕ) (zs : List ℕ). z ∷ zs) (eqb-true x y b.0) (same_lists xs ys b.1)

none-bad : (o : Option ℕ) → is_none o ≡ true → o ≡ none
unfolding is_none
none-bad none h = refl
none-bad (some k) h = cc

rule : (t ix : List ℕ) → right t ix ≡ true → Right t ix
unfolding right
rule t ix h =
    let b = both (is_none (first_bad (rows_of t))) (same ix (index (rows_of t))) h in
    let p : first_bad (rows_of t) ≡ none = none-bad (first_bad (rows_of t)) b.0 in
    let e : ix ≡ index (rows_of t) = same_lists ix (index (rows_of t)) b.1 in
    record { passes = p; entries = e; places = λ iei l. rw e (index-place (rows_of t) p iei l) }

-- ---- its uses

-- by table number
pub real : (n : ℕ) → Right (real_of n) (real_index_of n)
unfolding table_of real_index_of right same is_none among concat row_of rows_f rows_of ieis good_iei all_good fresh good_row first_bad_from first_bad place_from place_of index_entry index_from index row table_p optional1 optional2 optional3 optional4 optional5 optional6 index0 index1 index2 index3 index4 index5 index6
real zero = rule table_p index0 refl
real (suc zero) = rule optional1 index1 refl
real (suc (suc zero)) = rule optional2 index2 refl
real (suc (suc (suc zero))) = rule optional3 index3 refl
real (suc (suc (suc (suc zero)))) = rule optional4 index4 refl
real (suc (suc (suc (suc (suc zero))))) = rule optional5 index5 refl
real (suc (suc (suc (suc (suc (suc zero)))))) = rule optional6 index6 refl
real (suc (suc (suc (suc (suc (suc (suc n))))))) = rule [] (real_index_of 7) refl

-- a table that a number names passes its check
pub passes_of : (number : ℕ) {t : List ℕ} → table_of number ≡ some t → first_bad (rows_of t) ≡ none
passes_of number e = let q : real_of number ≡ _ = ap (λ (o : Option (List ℕ)). get_or o []) e in rw (← q) (real number).passes

-- the mandatory rows of each pass their check
pub real-mandatory : (n : ℕ) → first_bad_mandatory (mandatory_rows_of (real_mandatory_of n)) ≡ none
unfolding mandatory_table_of concat plain mandatory_rows_f mandatory_rows_of is_half next_is good_mandatory first_bad_mandatory_from first_bad_mandatory mandatory1 mandatory2 mandatory3 mandatory4 mandatory5 mandatory6
real-mandatory zero = refl
real-mandatory (suc zero) = refl
real-mandatory (suc (suc zero)) = refl
real-mandatory (suc (suc (suc zero))) = refl
real-mandatory (suc (suc (suc (suc zero)))) = refl
real-mandatory (suc (suc (suc (suc (suc zero))))) = refl
real-mandatory (suc (suc (suc (suc (suc (suc zero)))))) = refl
real-mandatory (suc (suc (suc (suc (suc (suc (suc n))))))) = refl

-- another number has no row
pub real-further : (n : ℕ) → (n ≡ 0 → ⊥) → (n ≡ 1 → ⊥) → (n ≡ 2 → ⊥) → (n ≡ 3 → ⊥) → (n ≡ 4 → ⊥) → (n ≡ 5 → ⊥) → (n ≡ 6 → ⊥) → real_of n ≡ []
unfolding table_of
real-further zero a b c d e f g = absurd (a refl)
real-further (suc zero) a b c d e f g = absurd (b refl)
real-further (suc (suc zero)) a b c d e f g = absurd (c refl)
real-further (suc (suc (suc zero))) a b c d e f g = absurd (d refl)
real-further (suc (suc (suc (suc zero)))) a b c d e f g = absurd (e refl)
real-further (suc (suc (suc (suc (suc zero))))) a b c d e f g = absurd (f refl)
real-further (suc (suc (suc (suc (suc (suc zero)))))) a b c d e f g = absurd (g refl)
real-further (suc (suc (suc (suc (suc (suc (suc n))))))) a b c d e f g = refl

-- ---- numbers that name no table

pub no_table : (n : ℕ) → (n ≡ 0 → ⊥) → (n ≡ 1 → ⊥) → (n ≡ 2 → ⊥) → (n ≡ 3 → ⊥) → (n ≡ 4 → ⊥) → (n ≡ 5 → ⊥) → (n ≡ 6 → ⊥) → table_of n ≡ none
unfolding table_of
no_table zero a b c d e f g = absurd (a refl)
no_table (suc zero) a b c d e f g = absurd (b refl)
no_table (suc (suc zero)) a b c d e f g = absurd (c refl)
no_table (suc (suc (suc zero))) a b c d e f g = absurd (d refl)
no_table (suc (suc (suc (suc zero)))) a b c d e f g = absurd (e refl)
no_table (suc (suc (suc (suc (suc zero))))) a b c d e f g = absurd (f refl)
no_table (suc (suc (suc (suc (suc (suc zero)))))) a b c d e f g = absurd (g refl)
no_table (suc (suc (suc (suc (suc (suc (suc n))))))) a b c d e f g = refl

-- nor mandatory ones
pub mandatory-further : (n : ℕ) → (n ≡ 0 → ⊥) → (n ≡ 1 → ⊥) → (n ≡ 2 → ⊥) → (n ≡ 3 → ⊥) → (n ≡ 4 → ⊥) → (n ≡ 5 → ⊥) → (n ≡ 6 → ⊥) → mandatory_table_of n ≡ none
unfolding mandatory_table_of
mandatory-further zero a b c d e f g = absurd (a refl)
mandatory-further (suc zero) a b c d e f g = absurd (b refl)
mandatory-further (suc (suc zero)) a b c d e f g = absurd (c refl)
mandatory-further (suc (suc (suc zero))) a b c d e f g = absurd (d refl)
mandatory-further (suc (suc (suc (suc zero)))) a b c d e f g = absurd (e refl)
mandatory-further (suc (suc (suc (suc (suc zero))))) a b c d e f g = absurd (f refl)
mandatory-further (suc (suc (suc (suc (suc (suc zero)))))) a b c d e f g = absurd (g refl)
mandatory-further (suc (suc (suc (suc (suc (suc (suc n))))))) a b c d e f g = refl
