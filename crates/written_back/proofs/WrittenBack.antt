-- Reading a part and writing the untouched result gives the part: the theorem `RoundTrip` over the definitions, carried through the
-- contracts of `decode_optional_ies` and `encode_optional_ies`. What the first answers and leaves is what the second is handed.
use Prim.Native.Nat.{ℕ, ◌≤◌}
use mathlib.Core.Path.{◌≡◌, ap, sym, ◌∙◌}
use mathlib.Core.List.{List}
use mathlib.Core.Bool.{Bool}
use lib.ListN.{length}
use Rattle.std.specs.Prelude.{Ok}
use Rattle.definitions.specs.Basic.{Answer, over}
use Rattle.definitions.specs.Reading.{Read, reading}
use Rattle.definitions.specs.Writing.{Wrote, writing}
use Rattle.promises.specs.RoundTrip.{AreOctets, written_back, gives}
use Rattle.promises.proofs.RoundTrip.{round_trip}
use Rattle.kept.specs.Kept.{used_of}
use Rattle.filling.specs.Decodes.{lent_of, Reads}
use Rattle.measured_writing.specs.Encodes.{Encoded, Encodes}
use Rattle.measured_writing.proofs.SameAnswers.{same-encoded}

-- the part's length is answered, and the output begins with the part and is unchanged behind it
pub record Back (part output : List ℕ) (e : Encoded) (after : List ℕ) : Type 0 where
  pub answers : e ≡ Ok (length part)
  pub output-is : after ≡ over part output

module _ (table : List ℕ) (start : ℕ) (option : Bool) (part rows₀ kept₀ order₀ rows kept order : List ℕ) (k o : ℕ) where
  abbrev r : Read
  r = reading table start option part (lent_of rows₀ kept₀ order₀)

  -- what reading left, with the counts that it answered, is what the theorem writes
  same : Reads r (Ok (record { kept = k; order = o })) rows kept order → (set output : List ℕ)
      → writing table rows part (used_of set 0) (used_of order o) (used_of kept k) output ≡ written_back table part r set output
  unfolding written_back
  same d set output = rw (← d.answers, d.rows_are, d.kept-is, d.order_is)

  pub written-back : Reads r (Ok (record { kept = k; order = o })) rows kept order → AreOctets part → (set output : List ℕ) → length part ≤ length output → {e : Encoded} {after : List ℕ}
      → Encodes (writing table rows part (used_of set 0) (used_of order o) (used_of kept k) output) e after → Back part output e after
  unfolding gives
  written-back d small set output room {e = e} w =
      let b : writing table rows part (used_of set 0) (used_of order o) (used_of kept k) output ≡ gives part output =
      same d set output ∙ round_trip table start option part (lent_of rows₀ kept₀ order₀) set output small (ap (λ (x : Answer). x.number) (sym d.answers)) room in
      record {
        answers = same-encoded e (Ok (length part)) (w.answers ∙ ap (λ (x : Wrote). x.said) b);
        output-is = w.output-is ∙ ap (λ (x : Wrote). x.output) b;
      }
