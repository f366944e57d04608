-- `any_absent` looks at a row a turn, up to one that is absent.
-- Each turn is a row more.
use native.Mathlib.Omega.{arith}
use mathlib.Core.Path.{ap}
use mathlib.Core.Bool.{not}
use Rattle.definitions.specs.Basic.{is_none}
use Rattle.definitions.specs.Values.{Value, mandatory_width, value_in, present}
use Rattle.mandatory_writing.proofs.Searching.{searching, found_here, found-not, found_nowhere, absent, not-absent}
use Rattle.mandatory_writing.proofs.encode.any_absent.Goals as goal

pub loop-k-init : goal.loop-k-init
loop-k-init c = searching (λ j. not (present (value_in mandatory_width c.args.rows.now j))) c.args.n

pub returns-then-row-eq0 : goal.returns-then-row-eq0
unfolding is_none
returns-then-row-eq0 c = rw (found_here (λ j. not (present (value_in mandatory_width c.args.rows.now j))) c.args.n c.loop-k.k c.loop-k.invariant (omega arith) (absent (value_in mandatory_width c.args.rows.now c.loop-k.k) (omega (arith, ap (λ (v : Value). v.source) c.mandatory_row_at-row.ensures))))

pub loop-k-preserved : goal.loop-k-preserved
loop-k-preserved c = found-not (λ j. not (present (value_in mandatory_width c.args.rows.now j))) c.args.n c.loop-k.k c.loop-k.invariant (omega arith) (not-absent (value_in mandatory_width c.args.rows.now c.loop-k.k) (omega (arith, ap (λ (v : Value). v.source) c.mandatory_row_at-row.ensures)))

pub returns : goal.returns
unfolding is_none
returns c = rw (found_nowhere (λ j. not (present (value_in mandatory_width c.args.rows.now j))) c.args.n c.loop-k.k c.loop-k.invariant (omega arith))
