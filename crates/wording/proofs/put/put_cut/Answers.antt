-- `put_cut` puts the pieces of the line one behind the other.
-- Each is short, so no position wraps.
use mathlib.Core.Path.{ap}
use native.Mathlib.Omega.{arith}
use Rattle.definitions.specs.Listing.{ascii, hex, listed}
use Rattle.wording.proofs.Puts.{joined, at-text}
use Rattle.wording.proofs.Lines.{decimal-short, hex-long}
use Rattle.wording.proofs.put.put_cut.Goals as goal

pub put_decimal-b-requires : goal.put_decimal-b-requires
put_decimal-b-requires c = omega (arith, c.requires, c.put-a.ensures.used)

pub put-c-requires : goal.put-c-requires
put-c-requires c = omega (arith, c.requires, c.put-a.ensures.used, c.put_decimal-b.ensures.used, decimal-short c.args.cut.start)

pub put_hex-d-requires : goal.put_hex-d-requires
put_hex-d-requires c = omega (arith, c.requires, c.put-a.ensures.used, c.put_decimal-b.ensures.used, decimal-short c.args.cut.start, c.put-c.ensures.used)

pub put-f-requires : goal.put-f-requires
put-f-requires c = omega (arith, c.requires, c.put-a.ensures.used, c.put_decimal-b.ensures.used, decimal-short c.args.cut.start, c.put-c.ensures.used, c.put_hex-d.ensures.used, hex-long c.iei_of.result)

pub put_decimal-g-requires : goal.put_decimal-g-requires
put_decimal-g-requires c = omega (arith, c.requires, c.put-a.ensures.used, c.put_decimal-b.ensures.used, decimal-short c.args.cut.start, c.put-c.ensures.used, c.put_hex-d.ensures.used, hex-long c.iei_of.result, c.put-f.ensures.used)

pub put_missing-requires : goal.put_missing-requires
put_missing-requires c = omega (arith, c.requires, c.put-a.ensures.used, c.put_decimal-b.ensures.used, decimal-short c.args.cut.start, c.put-c.ensures.used, c.put_hex-d.ensures.used, hex-long c.iei_of.result, c.put-f.ensures.used, c.put_decimal-g.ensures.used, decimal-short c.args.cut.left)

pub returns : goal.returns
unfolding listed ascii
returns c = joined c.put-a.ensures (joined c.put_decimal-b.ensures (joined c.put-c.ensures (joined (at-text (ap hex c.iei_of.ensures) c.put_hex-d.ensures) (joined c.put-f.ensures (joined c.put_decimal-g.ensures c.put_missing.ensures)))))
