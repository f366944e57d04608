-- `put_headed` copies the header and lends the rest for the value.
-- The two pieces stand one behind the other.
use native.Mathlib.Omega.{arith}
use mathlib.Core.Path.{◌≡◌, ap, sym, ◌∙◌}
use borrow.Author.Tests.{le-leb}
use lib.ListN.{length, drop, length-append, length-take, length-drop}
use lib.Seq.{length-take-le}
use Rattle.std.specs.Prelude.{◌++◌}
use Rattle.definitions.specs.Basic.{over}
use Rattle.definitions.proofs.Lists.{put-behind}
use Rattle.putting.proofs.Putting.{put-done, whole}
use Rattle.putting.proofs.put_headed.Goals as goal

pub returns : goal.returns
unfolding over
returns g c =
    let a = c.args in
    let t = c.copy_from_slice.ensures in
    let n : length a.head ≡ g.row.N = sym (ap length t.after) ∙ t.len ∙ length-take-le g.row.N a.out.now (omega arith) in
    let d : c.copy_from_slice.new.self ++ drop g.row.N a.out.now ≡ over a.head a.out.now = rw (t.after, n) in
    put-done (le-leb (length (a.head ++ a.value.now)) (length a.out.now) (simp length-append (omega arith))) (simp length-append (omega arith)) (put-behind a.head a.value.now a.out.now (sym n) d (omega arith) (whole a.value.now _ (simp (length-take, length-drop, length-append) (omega (arith, n, ap length t.after))) c.put_slice.ensures))
