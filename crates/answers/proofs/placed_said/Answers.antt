-- `placed_said` gives the number and the values of an entry.
-- Each arm names the case; its values are put by the call.
use Rattle.definitions.specs.Logs.{order_entry}
use Rattle.answers.proofs.placed_said.Goals as goal

pub returns-in-Known : goal.returns-in-Known
unfolding order_entry
returns-in-Known c = rw c.in-Known.is c.two.ensures

pub returns-in-Unknown : goal.returns-in-Unknown
unfolding order_entry
returns-in-Unknown c = rw c.in-Unknown.is c.one.ensures

pub returns-in-Ignored : goal.returns-in-Ignored
unfolding order_entry
returns-in-Ignored c = rw c.in-Ignored.is c.reason_said.ensures
