-- Numbers put into lent rows, where there is room for them, and where there is not.
-- By the test of the definition; what was written in between is the rows with those over a part of them.
use Prim.Native.Nat.{ℕ, ◌+◌, ◌≤◌, ◌<◌}
use mathlib.Core.Path.{◌≡◌, sym}
use mathlib.Core.List.{List}
use borrow.Author.Tests.{le-leb, lt-leb}
use borrow.Rule.Slice.PartMut.{put_mid}
use lib.ListN.{length}
use Rattle.definitions.specs.Basic.{over, over_at}
use Rattle.rows.specs.Lent.{put_row}

module _ (at : ℕ) (numbers rows : List ℕ) where
  pub put-there : at + length numbers ≤ length rows → put_row at numbers rows ≡ over_at at numbers rows
  unfolding put_row
  put-there h = rw (le-leb (at + length numbers) (length rows) h)

  pub put-nowhere : length rows < at + length numbers → put_row at numbers rows ≡ rows
  unfolding put_row
  put-nowhere h = rw (lt-leb (at + length numbers) (length rows) h)

  -- what was written in between
  pub put-between : (k : ℕ) → k ≡ length numbers → at + length numbers ≤ length rows → {new : List ℕ} → new ≡ numbers → put_mid at k rows new ≡ put_row at numbers rows
  unfolding over_at over
  put-between k e h n = rw (e, n) (sym (put-there h))
