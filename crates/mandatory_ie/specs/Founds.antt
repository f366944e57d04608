-- What a row finds, with the fault of its value, by the definitions.
use Rattle.std.specs.Prelude.{ℕ, eqb, Option as Answered, Some, None, Result, Ok, Err}
use Rattle.std.proofs.Math.Option.{Option, none, some}
use Rattle.definitions.specs.Basic.{pick}
use Rattle.definitions.specs.Mandatory.{MandatoryRow, Found as DefFound, missing, truncated, value, fault_of}
use Rattle.mandatory_ie.specs.declared.Fault.{Fault}
use Rattle.mandatory_ie.specs.declared.Lacking.{Lacking}
use Rattle.mandatory_ie.specs.declared.Found.{Found}

abbrev pub fault_as : Option ℕ → Answered Fault
fault_as none = None
fault_as (some n) = Some (pick (eqb n 8) Fault.TooShort Fault.Syntax)

abbrev pub found_as : MandatoryRow → DefFound → Result Found Lacking
found_as r missing = Err Lacking.Missing
found_as r truncated = Err Lacking.Truncated
found_as r (value h n took v) = Ok (record { start = h; len = n; took = took; fault = fault_as (fault_of r took v) })
