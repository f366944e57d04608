-- Text put into a lent buffer, piece by piece, as far as there is room.
use Rattle.std.specs.Prelude.{ℕ, ◌+◌, ◌-◌, ◌^◌, ◌≡◌, List, [], length, take, ltb}
use Rattle.definitions.specs.Basic.{pick, over_at}

-- a buffer after text was put from a position on: what stands before it and behind it is as it was, and what has no room is left out
unfoldable pub put_at : ℕ → List ℕ → List ℕ → List ℕ
put_at k s d = over_at k (take (length d - k) s) d

-- that d' is the buffer d after s was put at k, and k' the position behind s
pub record Put (d : List ℕ) (k : ℕ) (s d' : List ℕ) (k' : ℕ) : Type 0 where
  pub used : k' ≡ k + length s
  pub out : d' ≡ put_at k s d

-- what is put of a text at a position: all of it; from position 2 ^ 30 on, and of a text so long, nothing
unfoldable pub said : ℕ → List ℕ → List ℕ
said k s = pick (ltb k (2 ^ 30)) (pick (ltb (length s) (2 ^ 30)) s []) []
