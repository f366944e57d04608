-- `list_part` goes by the table that the number names.
-- That table is the definitions', and passes; where none is, the definition says what is answered.
use mathlib.Core.Path.{refl}
use native.Mathlib.Omega.{arith}
use lib.ListN.{length}
use borrow.Author.Tests.{le-leb}
use Rattle.definitions.specs.Basic.{over}
use Rattle.real.proofs.RealLaws.{passes_of}
use Rattle.listing.proofs.Reading.{listing-of}
use Rattle.listing.proofs.list_part.Goals as goal

pub list_by-requires : goal.list_by-requires
list_by-requires c = passes_of c.args.number c.in-Some.ensures.0

pub returns-in-Some : goal.returns-in-Some
returns-in-Some c = rw (listing-of c.args.number c.args.out_of_sequence c.args.octets.now c.in-Some.ensures.0) c.list_by.ensures

pub returns-in-None : goal.returns-in-None
unfolding over
returns-in-None c = rw (listing-of c.args.number c.args.out_of_sequence c.args.octets.now c.in-None.ensures, le-leb 0 (length c.args.out.now) (omega arith)) record { value = refl; out_after = refl; octets_len_bound = omega arith }
