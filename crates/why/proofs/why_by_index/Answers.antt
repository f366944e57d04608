-- `why_by_index` is `walk` within the limit.
-- By the checks of the definition.
use native.Mathlib.Omega.{arith}
use mathlib.Core.Path.{ap, ◌∙◌}
use Rattle.why.specs.Whys.{why_as}
use Rattle.why.proofs.Answers.{explaining-long, explaining-read}
use Rattle.why.proofs.why_by_index.Goals as goal

pub returns-then-octets-gt-MOST_OCTETS : goal.returns-then-octets-gt-MOST_OCTETS
returns-then-octets-gt-MOST_OCTETS c = explaining-long c.args.table.now c.args.tlve_start c.args.option c.args.octets.now c.args.number c.requires.1 (omega arith)

pub returns : goal.returns
returns c = ap why_as c.walk.ensures ∙ explaining-read c.args.table.now c.args.tlve_start c.args.option c.args.octets.now c.args.number c.requires.1 (omega arith)
