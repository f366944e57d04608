-- `is_refused` goes by the table that the number names.
-- That table is the definitions', and passes; where none is, the definition says what is answered.
use mathlib.Core.Path.{refl}
use Rattle.real.proofs.RealLaws.{passes_of}
use Rattle.listing.proofs.Reading.{refused-of}
use Rattle.listing.proofs.is_refused.Goals as goal

pub is_refused_by-requires : goal.is_refused_by-requires
is_refused_by-requires c = passes_of c.args.number c.in-Some.ensures.0

pub returns-in-Some : goal.returns-in-Some
returns-in-Some c = rw (refused-of c.args.number c.args.out_of_sequence c.args.octets.now c.in-Some.ensures.0) c.is_refused_by.ensures

pub returns-in-None : goal.returns-in-None
returns-in-None c = rw (refused-of c.args.number c.args.out_of_sequence c.args.octets.now c.in-None.ensures) refl
