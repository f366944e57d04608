-- `put_decimal` puts the last five digits.
-- That is the definition of a number in decimal.
use Rattle.definitions.specs.Listing.{decimal}
use Rattle.wording.proofs.put.put_decimal.Goals as goal

pub returns : goal.returns
unfolding decimal
returns c = c.put_digits.ensures
