-- `put_missing` puts the pieces of the line's end one behind the other.
-- Each is short, so no position wraps.
use native.Mathlib.Omega.{arith}
use Rattle.definitions.specs.Listing.{ascii}
use Rattle.wording.proofs.Puts.{joined}
use Rattle.wording.proofs.Lines.{decimal-short}
use Rattle.wording.proofs.put.put_missing.Goals as goal

pub put_decimal-b-requires : goal.put_decimal-b-requires
put_decimal-b-requires c = omega (arith, c.requires, c.put-a.ensures.used)

pub put_octet-requires : goal.put_octet-requires
put_octet-requires c = omega (arith, c.requires, c.put-a.ensures.used, c.put_decimal-b.ensures.used, decimal-short c.args.n)

pub returns : goal.returns
unfolding ascii
returns c = joined c.put-a.ensures (joined c.put_decimal-b.ensures c.put_octet.ensures)
