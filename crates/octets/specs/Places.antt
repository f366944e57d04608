-- Where a part of lent octets stands: a reference points into a block, at an offset (`ptr`).
use Rattle.std.specs.Prelude.{ℕ, ◌+◌, ◌≡◌, List}
use Rattle.std.specs.Borrow.{Bor}

-- a part begins at so many octets from the front of the lent ones: it is this stretch of them, and not another one with equal octets
abbrev pub StandsAt : ℕ → Bor (List ℕ) → Bor (List ℕ) → Type 0
StandsAt start lent part = part.ref_ptr ≡ (lent.ref_ptr.0, start + lent.ref_ptr.1)
