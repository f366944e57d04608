-- `pass_next` is `pass_kept` where an element is left.
-- At the end of the log nothing is put.
use native.Mathlib.Omega.{arith}
use mathlib.Core.Path.{refl}
use Rattle.one_pass.specs.Passes.{over-all}
use Rattle.one_pass.proofs.Turns.{next-by}
use Rattle.one_pass.proofs.pass_next.Goals as goal

pub returns-then-pen-kept : goal.returns-then-pen-kept
returns-then-pen-kept c = over-all (omega (arith, c.if-pen-kept.true, c.requires.1)) refl refl

pub returns : goal.returns
returns c = let a = c.args in next-by a.kept.now a.pen a.out.now c.pass_kept.new.out c.pass_kept.result c.pass_kept.ensures
