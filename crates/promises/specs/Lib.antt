-- What is promised: the statements of the theorems, over the definitions alone. Nothing here speaks of code.
-- `ElementsJoin`; `LogsRoom` and `ReadingDone`; `RoundTrip`; `RowsAgree`; `BothRoom`, `BothReached`, `BlockReads`, `BlockRoundTrip` and
-- `BlockDone`; `EitherOrder`, `LastAlone`, `SetAndCleared`, `EditsDone` and `ReadReady`; `Condition3`; `Strangers`; `MandatoryRoundTrip`;
-- `Grounded` and `Answered`; those of the checker, in Checked. Their proofs have the same names, in proofs/.
pub mod Joined
pub mod Room
pub mod RoundTrip
pub mod Agreement
pub mod Arena
pub mod Matched
pub mod Edits
pub mod Condition3
pub mod Strangers
pub mod Mandatory
pub mod Why
pub mod Checked
