-- `pass_rest` goes over the unnamed places that are left, if there are any, then over the kept elements that are left.
-- What is put of the first stands before what is put of the second.
use Prim.Native.Nat.{◌-◌}
use native.Mathlib.Omega.{arith}
use mathlib.Core.Path.{sym}
use lib.ListN.{length, drop}
use Rattle.definitions.specs.Rows.{rows_of}
use Rattle.definitions.specs.Logs.{kept_list}
use Rattle.seen.specs.Seen.{set_of}
use Rattle.placing.specs.Pieces.{lent_of, PutBy}
use Rattle.placing.proofs.Pieces.{held-inside, put-not, put-nothing, put_then_lem, put-stop}
use Rattle.unnamed.specs.Named.{unnamed}
use Rattle.unnamed.proofs.Naming.{unnamed-over}
use Rattle.one_pass.specs.Passes.{concat_by}
use Rattle.one_pass.proofs.pass_rest.Goals as goal
use Rattle.std.specs.Prelude.{Some}
use Rattle.one_pass.proofs.pass_rest.Goals.{After-pass_left-arg-1, then-pen-n+in_ok-at, else-pen-n}

pub returns-in_err-at : goal.returns-in_err-at
returns-in_err-at c =
    let a = c.args in
    let b = rw (c.in_err-at.was, c.places-n.ensures) at c.put_unnamed.ensures in
    rw c.from_residual.ensures (put-not (put-stop (length a.out.now) a.pen.at (unnamed (lent_of a.table.now a.rows.now a.received.now a.set.now) (set_of a.names) a.pen.place (length (rows_of a.table.now) - a.pen.place)) (concat_by (kept_list (drop a.pen.kept a.kept.now))) (sym b.answers)))

-- the unnamed places that are left, of which there may be none
placed : (c : After-pass_left-arg-1) → let a = c.args in PutBy (unnamed (lent_of a.table.now a.rows.now a.received.now a.set.now) (set_of a.names) a.pen.place (length (rows_of a.table.now) - a.pen.place)) a.pen.at a.out.now (Some c.if-pen-n.at) c.if-pen-n.out
placed c =
    let a = c.args in
    elim c.if-pen-n.branch [
      | then-pen-n+in_ok-at w ↦ rw (w.out-is, w.at-is) (rw (w.in_ok-at.was, c.places-n.ensures) at w.put_unnamed.ensures)
      | else-pen-n w ↦ rw (w.out-is, w.at-is, unnamed-over (lent_of a.table.now a.rows.now a.received.now a.set.now) (set_of a.names) a.pen.place (length (rows_of a.table.now)) (omega (arith, w.if-pen-n.false, c.places-n.ensures))) (put-nothing c.requires.0)
    ]

pub pass_left-requires : goal.pass_left-requires
pass_left-requires c = (held-inside (placed (goal.at.pass_left-requires c).After-pass_left-arg-1), c.requires.1)

pub returns : goal.returns
returns c = let a = c.args in put_then_lem (placed (goal.at.returns c).After-pass_left-arg-1) (concat_by (kept_list (drop a.pen.kept a.kept.now))) c.pass_left.ensures
