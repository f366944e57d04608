-- What a number names, by what the code says of it: its rows, and the places that their index has.
-- From the equation of the table; the index of a table that passes has each place.
use Prim.Native.Nat.{ℕ, zero, suc, ◌<◌, ◌≤◌}
use mathlib.Core.Path.{◌≡◌, refl, sym, ap, ◌∙◌}
use mathlib.Core.List.{List, []}
use mathlib.Core.Option.{Option, none, some, get_or}
use Rattle.std.specs.Prelude.{Option as Answered, Some, None, option_copied}
use Rattle.std.specs.Borrow.{Bor}
use Rattle.definitions.specs.Rows.{rows_of, index, place_in, place_of}
use native.Mathlib.Omega.{arith}
use Rattle.definitions.specs.Mandatory.{mandatory_rows_of, first_bad_mandatory}
use Rattle.definitions.specs.Tables.{table_of, mandatory_table_of}
use Rattle.definitions.proofs.TableLaws.{index-place}
use Rattle.real.specs.Real.{real_of, real_mandatory_of, table_as}
use Rattle.real.specs.Numbered.{IsNumbered}
use Rattle.real.specs.declared.Table.{Table}
use Rattle.real.proofs.RealLaws.{passes_of, real-mandatory}

pub rows-are : (n : ℕ) (t : Table) → IsNumbered n (Some t) → real_of n ≡ t.rows.now
rows-are n t h = ap (λ (o : Option (List ℕ)). get_or o []) h.0

pub no-rows : (n : ℕ) → IsNumbered n None → real_of n ≡ []
no-rows n h = ap (λ (o : Option (List ℕ)). get_or o []) h

pub mandatory-rows-are : (n : ℕ) (r : Bor (List ℕ)) → option_copied (Some r) ≡ table_as (mandatory_table_of n) → real_mandatory_of n ≡ r.now
mandatory-rows-are n r h = by (mandatory_table_of n) h
  where
    by : (o : Option (List ℕ)) → option_copied (Some r) ≡ table_as o → get_or o [] ≡ r.now
    by none e = absurd (cc)
    by (some t) e = cc

pub place-by-index : (n iei : ℕ) (t : Table) → IsNumbered n (Some t) → iei < 256 → place_in t.index.now iei ≡ place_of (rows_of (real_of n)) iei
place-by-index n iei t h l = rw (h.1, rows-are n t h) (index-place (rows_of t.rows.now) (passes_of n h.0) iei l)

-- mandatory rows
pub mandatory-named : (n : ℕ) (r : List ℕ) → ◌≡◌ {A = Answered (List ℕ)} (Some r) (table_as (mandatory_table_of n)) → mandatory_table_of n ≡ some r
mandatory-named n r h = by (mandatory_table_of n) h
  where
    by : (o : Option (List ℕ)) → ◌≡◌ {A = Answered (List ℕ)} (Some r) (table_as o) → o ≡ some r
    by none e = let z : ◌≡◌ {A = ℕ} 0 1 = cc in absurd (omega arith)
    by (some t) e = cc

pub mandatory-unnamed : (n : ℕ) → ◌≡◌ {A = Answered (List ℕ)} None (table_as (mandatory_table_of n)) → mandatory_table_of n ≡ none
mandatory-unnamed n h = by (mandatory_table_of n) h
  where
    by : (o : Option (List ℕ)) → ◌≡◌ {A = Answered (List ℕ)} None (table_as o) → o ≡ none
    by none e = refl
    by (some t) e = let z : ◌≡◌ {A = ℕ} 0 1 = cc in absurd (omega arith)

pub mandatory-passes : (n : ℕ) (r : List ℕ) → ◌≡◌ {A = Answered (List ℕ)} (Some r) (table_as (mandatory_table_of n)) → first_bad_mandatory (mandatory_rows_of r) ≡ none
mandatory-passes n r h = let e : real_mandatory_of n ≡ r = ap (λ (o : Option (List ℕ)). get_or o []) (mandatory-named n r h) in rw (← e) (real-mandatory n)

-- a number over those that name a table
pub large-rows : (n : ℕ) → 7 ≤ n → real_of 7 ≡ real_of n
unfolding table_of
large-rows (suc (suc (suc (suc (suc (suc (suc n))))))) h = refl
large-rows zero h = absurd (omega arith)
large-rows (suc zero) h = absurd (omega arith)
large-rows (suc (suc zero)) h = absurd (omega arith)
large-rows (suc (suc (suc zero))) h = absurd (omega arith)
large-rows (suc (suc (suc (suc zero)))) h = absurd (omega arith)
large-rows (suc (suc (suc (suc (suc zero))))) h = absurd (omega arith)
large-rows (suc (suc (suc (suc (suc (suc zero)))))) h = absurd (omega arith)

pub large-mandatory : (n : ℕ) → 7 ≤ n → real_mandatory_of 7 ≡ real_mandatory_of n
unfolding mandatory_table_of
large-mandatory (suc (suc (suc (suc (suc (suc (suc n))))))) h = refl
large-mandatory zero h = absurd (omega arith)
large-mandatory (suc zero) h = absurd (omega arith)
large-mandatory (suc (suc zero)) h = absurd (omega arith)
large-mandatory (suc (suc (suc zero))) h = absurd (omega arith)
large-mandatory (suc (suc (suc (suc zero)))) h = absurd (omega arith)
large-mandatory (suc (suc (suc (suc (suc zero))))) h = absurd (omega arith)
large-mandatory (suc (suc (suc (suc (suc (suc zero)))))) h = absurd (omega arith)
