-- `set_value` judges the new value, then the room, and writes it behind the set octets that are used.
-- Each way out cites the law of its check.
use Prim.Native.Nat.{ℕ, ◌+◌, ◌*◌, ◌-◌, ◌≤◌}
use native.Mathlib.Omega.{arith}
use mathlib.Core.Path.{refl, sym, ◌∙◌}
use mathlib.Core.List.{List}
use borrow.Author.Tests.{le-leb}
use lib.ListN.{length, take, drop, length-take, length-drop}
use lib.Seq.{take_all}
use Rattle.definitions.proofs.Lists.{lent-over}
use Rattle.rows.specs.Lent.{put_row}
use Rattle.kept.specs.Kept.{used_of}
use Rattle.rows.specs.Forms.{form_as}
use Rattle.edits.proofs.Editing.{edits-by, refused, set-unfit, set_full, set-done}
use Rattle.edits.proofs.set_value.Goals as goal

pub returns-then-not-does_fit : goal.returns-then-not-does_fit
returns-then-not-does_fit c = let a = c.args in refused (set-unfit (form_as a.form) a.rows.now (used_of a.set.now a.used) a.place a.iei a.value.now (sym c.does_fit.ensures ∙ c.if-not-does_fit.true)) refl

pub returns-then-after-set : goal.returns-then-after-set
returns-then-after-set c = let a = c.args in refused (set_full (form_as a.form) a.rows.now (used_of a.set.now a.used) a.place a.iei a.value.now (sym c.does_fit.ensures ∙ c.if-not-does_fit.false) (omega arith)) refl

pub returns : goal.returns
unfolding put_row
returns c = let a = c.args in
    let p : List ℕ = take (length a.set.now - a.used) (drop a.used a.set.now) in
    let l : length a.value.now ≤ length p = simp (length-take, length-drop) (omega arith) in
    edits-by (set-done (form_as a.form) a.rows.now (used_of a.set.now a.used) a.place a.iei a.value.now (sym c.does_fit.ensures ∙ c.if-not-does_fit.false) (omega arith))
    (record { answers = refl; rows_are = c.put_row.ensures ∙ rw (le-leb (4 * a.place + 4) (length a.rows.now) (omega (arith, c.requires.0))) refl; set_is = rw (c.put_slice.ensures, take_all (length p) a.value.now l) (lent-over a.used a.value.now a.set.now (omega arith)) })
