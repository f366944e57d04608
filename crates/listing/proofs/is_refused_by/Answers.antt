-- `is_refused_by` goes by the length of the part, and then by whether it is cut short.
-- Each way out is a case of the definition.
use native.Mathlib.Omega.{arith}
use mathlib.Core.Path.{◌∙◌}
use borrow.Author.Tests.{lt-ltb}
use Rattle.listing.proofs.Reading.{refused-long, refused-read}
use Rattle.listing.proofs.is_refused_by.Goals as goal

pub read_whole-requires : goal.read_whole-requires
read_whole-requires c = record { passes = c.requires; short = omega arith }

pub returns-then-octets-gt-MOST_LISTED : goal.returns-then-octets-gt-MOST_LISTED
returns-then-octets-gt-MOST_LISTED c = lt-ltb 4096 _ (omega arith) ∙ refused-long c.args.table.now c.args.option c.args.octets.now (omega arith)

pub returns-else-octets-gt-MOST_LISTED : goal.returns-else-octets-gt-MOST_LISTED
returns-else-octets-gt-MOST_LISTED c = c.is_err.ensures.value ∙ refused-read _ _ _ (omega arith) c.read_whole.ensures
