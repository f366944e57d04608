-- `named_in` takes an entry a turn: with those of what is left the names are those of the whole log.
-- Each turn by its first octet. The measure is what is left.
use Prim.Native.Nat.{ℕ, ◌+◌}
use native.Mathlib.Omega.{arith}
use mathlib.Core.Path.{refl, ap, sym, ◌∙◌}
use lib.ListN.{drop}
use Rattle.seen.specs.Seen.{set_of}
use Rattle.unnamed.specs.Named.{named}
use Rattle.unnamed.proofs.Naming.{named_other, named-iei, named-alone, named-over}
use Rattle.unnamed.proofs.named_in.Goals as goal

pub loop-from-init : goal.loop-from-init
loop-from-init c = rw c.new-set.ensures

pub loop-from-preserved-then-order-from-gt0 : goal.loop-from-preserved-then-order-from-gt0
loop-from-preserved-then-order-from-gt0 c =
    let a = c.args in
    let l = c.loop-from in
    l.invariant ∙ named_other a.index.now (set_of l.set) a.order.now l.from (omega arith) (omega arith)

pub returns-then-order-from-lt2 : goal.returns-then-order-from-lt2
returns-then-order-from-lt2 c =
    let a = c.args in
    let l = c.loop-from in
    sym (l.invariant ∙ named-alone a.index.now (set_of l.set) a.order.now l.from (omega arith) (omega arith))

pub loop-from-preserved : goal.loop-from-preserved
loop-from-preserved c =
    let a = c.args in
    let l = c.loop-from in
    l.invariant ∙ named-iei a.index.now (set_of l.set) a.order.now l.from (omega arith) (omega arith) ∙ ap (λ (n : ℕ). named a.index.now n (drop (l.from + 2) a.order.now)) (sym c.with_iei-set.ensures)

pub returns : goal.returns
returns c =
    let a = c.args in
    let l = c.loop-from in
    sym (l.invariant ∙ named-over a.index.now (set_of l.set) a.order.now l.from c.loop-from-test.false)
