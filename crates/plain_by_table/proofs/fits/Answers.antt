-- `fits` takes each limit in turn.
-- Each test is the definition's.
use native.Mathlib.Omega.{arith}
use mathlib.Core.Path.{sym}
use borrow.Author.Tests.{le-leb}
use lib.ListN.{length}
use Rattle.definitions.specs.Rows.{rows_of}
use Rattle.plain_by_table.specs.PlainBy.{holds}
use Rattle.plain_by_table.proofs.Held.{long, many}
use Rattle.plain_by_table.proofs.fits.Goals as goal

pub returns-then-octets-gt-MOST_OCTETS : goal.returns-then-octets-gt-MOST_OCTETS
returns-then-octets-gt-MOST_OCTETS c = let a = c.args in sym (long a.table.now a.octets.now a.room (omega arith))

pub returns-then-n-gt128 : goal.returns-then-n-gt128
returns-then-n-gt128 c = let a = c.args in sym (many a.table.now a.octets.now a.room (omega arith) (omega (arith, c.places-n.ensures)))

pub returns : goal.returns
unfolding holds
returns c =
    let a = c.args in
    let n = c.places-n.ensures in
    rw (n, le-leb (length a.octets.now) 65535 (omega arith), le-leb (length (rows_of a.table.now)) 128 (omega (arith, n)))
