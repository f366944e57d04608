-- `unknown_kind` is the class of the first octet.
-- Each arm's range settles the definition's tests.
use native.Mathlib.Omega.{arith}
use borrow.Author.Tests.{le-leb, lt-leb}
use Rattle.definitions.proofs.Length.{required-low, required-high, required-not}
use Rattle.length.specs.Answers.{kind_of}
use Rattle.length.proofs.unknown_kind.Goals as goal

pub returns-in_default : goal.returns-in_default
unfolding kind_of
returns-in_default c = let x = c.args.x in rw (lt-leb 128 x (omega arith), required-not x (omega arith) (omega arith))

pub returns-in-128-to-255 : goal.returns-in-128-to-255
unfolding kind_of
returns-in-128-to-255 c = rw (le-leb 128 c.args.x (omega arith))

pub returns-in-0-to-15 : goal.returns-in-0-to-15
unfolding kind_of
returns-in-0-to-15 c = let x = c.args.x in rw (lt-leb 128 x (omega arith), required-low x (omega arith))

pub returns-in-0-to-15-2 : goal.returns-in-0-to-15-2
unfolding kind_of
returns-in-0-to-15-2 c = let x = c.args.x in rw (lt-leb 128 x (omega arith), required-high x (omega arith) (omega arith))
