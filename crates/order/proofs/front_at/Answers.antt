-- `front_at` is the entry at the front: each arm has its law, whose facts are the arm's.
-- An octet from 1 to 4 is an entry by itself.
use native.Mathlib.Omega.{arith}
use mathlib.Core.Path.{refl, ap, sym, ◌∙◌}
use mathlib.Core.Option.{some}
use lib.ListN.{length-take, length-drop}
use lib.Seq.{get_or-drop}
use Rattle.definitions.proofs.Lists.{to_end}
use Rattle.definitions.proofs.Orders.{front-empty, front-alone, front-known, front-aside, front-over}
use Rattle.order.proofs.front_at.Goals as goal

pub returns-in-empty : goal.returns-in-empty
returns-in-empty c = let l = simp (length-take, length-drop) at c.in-empty.len_below in sym (front-alone c.args.s.now (omega arith) (omega arith))

pub returns-in-len1-up-rest : goal.returns-in-len1-up-rest
returns-in-len1-up-rest c =
    let l = simp (length-take, length-drop) at c.in-len1-up-rest.len_at_least in
    rw (to_end 1 c.args.s.now, get_or-drop 1 c.args.s.now 0 0) (sym (front-known c.args.s.now (omega arith) (omega arith)))

pub returns-in-len1-up : goal.returns-in-len1-up
returns-in-len1-up c = ap some c.aside_entry.ensures ∙ sym (front-aside c.args.s.now _ (omega arith) refl (omega arith) (omega arith))

pub returns-in_default : goal.returns-in_default
returns-in_default c = sym (front-empty c.args.s.now (omega arith))

pub returns-in_default-2 : goal.returns-in_default-2
returns-in_default-2 c = sym (front-over c.args.s.now (omega arith) (omega arith))
