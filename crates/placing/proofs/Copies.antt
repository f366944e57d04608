-- What was found in an array, copied out: it is in the output where both hold it, and else the output is as it was.
-- The array begins with all that was put, so its first octets are that.
use Prim.Native.Nat.{ℕ, ◌+◌, ◌<◌, min}
use native.Mathlib.Omega.{arith}
use mathlib.Core.Path.{◌≡◌, refl, ap, sym, ◌∙◌}
use mathlib.Core.List.{List}
use mathlib.Core.Bool.{Bool, true, false, ◌&&◌}
use mathlib.Core.Option.{Option, none, some}
use borrow.Author.Tests.{leb-false, le-leb}
use lib.ListN.{length, take}
use lib.Seq.{take_at}
use lib.Dec.{leb}
use Rattle.definitions.specs.Basic.{pick, over, over_at}
use Rattle.definitions.specs.Logs.{or_empty}
use Rattle.placing.specs.Pieces.{held_to, PutBy, CopiedBy, WroteBy, capacity}
use Rattle.std.specs.Prelude.{Option as Answered, Some, None}
use Rattle.placing.proofs.Pieces.{held, held-long, none-not, long-not}

module _ (room : ℕ) (piece : Option (List ℕ)) (zeros found before after : List ℕ) (z : length zeros ≡ room) where
  -- what a piece of too many octets is held to
  too_many : {s : List ℕ} → piece ≡ some s → min room (length before) < length s → None ≡ held_to (min room (length before)) 0 piece
  too_many e h = sym (long-not (min room (length before)) 0 e (omega arith))

  not-put : (o : Option (List ℕ)) → piece ≡ o → None ≡ held_to room 0 o → None ≡ held_to (min room (length before)) 0 piece
  unfolding held_to
  not-put none e n = sym (none-not (min room (length before)) 0 e)
  not-put (some s) e n = by (leb (0 + length s) room) refl n
    where
      by : (b : Bool) → leb (0 + length s) room ≡ b → None ≡ pick b (Some (0 + length s)) None → None ≡ held_to (min room (length before)) 0 piece
      by true q f = let y : ◌≡◌ {A = ℕ} 0 1 = cc in absurd (omega arith)
      by false q f = too_many e (omega (arith, leb-false (0 + length s) room q))

  not-copied : (p : Answered ℕ) → PutBy piece 0 zeros p found → ((n : ℕ) → p ≡ Some n → min (length found) (length before) < n) → None ≡ held_to (min room (length before)) 0 piece
  not-copied (Some n) f g = let h = held f in too_many h.piece_is (omega (arith, g n refl, h.behind, held-long f))
  not-copied None f g = not-put piece refl (rw z at f.answers)

  pub wrote : (p r : Answered ℕ) → PutBy piece 0 zeros p found → CopiedBy p found before r after → WroteBy room piece before r after
  unfolding held_to or_empty over over_at
  wrote p (Some n) f c =
      let h = held (rw c.found_at at f) in
      let s : List ℕ = h.octets in
      let front : take n found ≡ s = ap (take n) h.is ∙ take_at s _ n (omega (arith, h.behind)) in
      record {
        answers = rw (h.piece_is, le-leb (0 + length s) (min room (length before)) (omega (arith, h.behind, h.room, c.room))) (ap Some h.behind);
        done = λ m e. rw h.piece_is (c.is ∙ ap (λ (x : List ℕ). over x before) front);
        not_done = λ e. let y : ◌≡◌ {A = ℕ} 0 1 = cc in absurd (omega arith);
      }
  wrote p None f c = record { answers = not-copied p f c.1; done = λ m e. let y : ◌≡◌ {A = ℕ} 0 1 = cc in absurd (omega arith); not_done = λ e. c.0 }

-- ---- which array

-- the shorter array, and the longer
pub of-few : (n k : ℕ) → (leb n 16 && leb k 64) ≡ true → capacity n k ≡ 128
unfolding capacity
of-few n k e = rw e

pub of-many : (n k : ℕ) → (leb n 16 && leb k 64) ≡ false → capacity n k ≡ 512
unfolding capacity
of-many n k e = rw e
