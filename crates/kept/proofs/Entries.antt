-- What is written where there is room: an entry, and how many octets it takes.
-- The tests before it are settled; the octets are the count's, as the code measures them, and the element's.
use Prim.Native.Nat.{ℕ, suc, ◌+◌, ◌≤◌, ◌<◌}
use native.Mathlib.Omega.{arith}
use native.Mathlib.Numerals.{add-one}
use mathlib.Core.Path.{◌≡◌, ap, ◌∙◌}
use mathlib.Core.List.{List, ◌∷◌}
use mathlib.Core.Bool.{true, false}
use lib.ListN.{length}
use lib.Dec.{ltb}
use borrow.Author.Tests.{le-leb, lt-ltb, le-ltb}
use Rattle.definitions.specs.Basic.{over}
use Rattle.definitions.specs.Logs.{leb128, kept_entry}
use Rattle.definitions.proofs.Logs.{entry_length}
use Rattle.kept.specs.Kept.{if_room, kept_into, kept_takes}

pub if-room : (s d : List ℕ) → length s ≤ length d → if_room s d ≡ over s d
unfolding if_room
if-room s d h = rw (le-leb (length s) (length d) h)

pub kept-into : (e d : List ℕ) → 1 ≤ length e → length e ≤ 65535 → length (kept_entry e) ≤ length d → kept_into e d ≡ over (kept_entry e) d
unfolding kept_into
kept-into e d h g r = rw (le-leb 1 (length e) h, le-leb (length e) 65535 g) (if-room (kept_entry e) d r)

pub kept-takes : (e d : List ℕ) → 1 ≤ length e → length e ≤ 65535 → length (kept_entry e) ≤ length d → kept_takes e d ≡ length (kept_entry e)
unfolding kept_takes
kept-takes e d h g r = rw (le-leb 1 (length e) h, le-leb (length e) 65535 g, le-leb (length (kept_entry e)) (length d) r)

-- an element pushed
module _ (iei : ℕ) (octets : List ℕ) where
  pub needed : {k : ℕ} → k ≡ length (leb128 (length octets + 1)) → k + (length octets + 1) ≡ length (kept_entry (iei ∷ octets))
  needed {k = k} e =
      let l : k ≡ length (leb128 (suc (length octets))) = e ∙ ap (λ (n : ℕ). length (leb128 n)) (add-one (length octets)) in
      omega (arith, entry_length (iei ∷ octets))

  pub large : 65535 ≤ length octets → ltb 65535 (length (iei ∷ octets)) ≡ true
  large h = lt-ltb 65535 (length (iei ∷ octets)) (omega arith)

  pub not-large : length octets < 65535 → ltb 65535 (length (iei ∷ octets)) ≡ false
  not-large h = le-ltb 65535 (length (iei ∷ octets)) (omega arith)
