-- The digits of a number are those of a tenth of it, and the last.
-- The measure is how many digits may come.
use Rattle.wording.proofs.put.+put_digits.Given as goal

abbrev pub decreases-put_digits : goal.decreases-put_digits
decreases-put_digits l = l.most
