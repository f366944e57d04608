-- `start_of` is the entry of a place; there are 128.
-- By whether there is one.
use native.Mathlib.Omega.{arith}
use Prim.Native.Nat.{ℕ}
use mathlib.Core.Path.{◌≡◌, refl}
use borrow.Author.Tests.{lt-ltb, le-ltb}
use Rattle.std.specs.Borrow.{Bor}
use Rattle.std.specs.Prelude.{Option as Answered, Some, None, option_copied}
use Rattle.std.specs.Option.{unwrap_or}
use Rattle.std.specs.Slice.{IsItemAt}
use Rattle.std.proofs.lemmas.List.{get_or_read}
use Rattle.why.specs.Whys.{start_at}
use Rattle.why.proofs.start_of.Goals as goal

pub returns : goal.returns
unfolding start_at
returns c = rw (c.unwrap_or.ensures, c.copied.ensures) (by c.get.result c.get.ensures.lookup)
  where
    by : (o : Answered (Bor ℕ)) → IsItemAt c.args.starts.now c.args.place o → unwrap_or (option_copied o) 0 ≡ start_at c.args.starts.now c.args.place
    by None h = rw (le-ltb c.args.place 128 (omega arith)) refl
    by (Some r) h = rw (lt-ltb c.args.place 128 (omega (arith, h))) (get_or_read c.args.starts.now c.args.place _ (omega (arith, h)) h.1 0)
