-- What is left of the word gives, behind the digits so far, the number that the word gives.
use Rattle.std.proofs.Common.{◌≡◌, drop}
use Rattle.arguments.specs.Words.{digits_from}
use Rattle.arguments.proofs.digits.Given as goal

abbrev pub invariant-loop-x : goal.invariant-loop-x
invariant-loop-x l = digits_from l.n (drop l.x-index l.word) ≡ digits_from 0 l.word
