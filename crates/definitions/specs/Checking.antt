-- Checking a part that another program made (document 02, item 8): it is accepted exactly when it decodes with every element
-- accepted, in table order, under first IEIs, none unknown, and no longer than its row's greatest whole length.
use Rattle.std.specs.Prelude.{ℕ, suc, List, [], ◌∷◌, false, ◌&&◌, length, ltb, leb}
use Rattle.std.proofs.Math.Option.{Option, none, some}
use Rattle.definitions.specs.Basic.{pick, Answer, answer, refusal, refuse, refuse_at, unless, most_octets}
use Rattle.definitions.specs.Rows.{Row, rows_of, row_at, first_bad}
use Rattle.definitions.specs.Tables.{table_of, start_of}
use Rattle.definitions.specs.Elements.{Element, Parted, parted, elements_of}
use Rattle.definitions.specs.Logs.{plain_at}
use Rattle.definitions.specs.Reading.{cut_of}

-- the start of the first element that offends: it is unknown, not as the order log takes for granted (`plain_at`), or longer than the
-- greatest whole length; least is the lowest place that may come
unfoldable pub offender : List Row → ℕ → List Element → Option ℕ
offender t least [] = none
offender t least (e ∷ es) =
    elim e.place [
      | none ↦ some e.at
      | some k ↦ pick (plain_at t least k e && leb (length e.octets) (row_at t k).greatest) (offender t (suc k) es) (some e.at)
    ]

-- the checks: 4, 3 and 1 as in reading, also where an offender stands in front of the cut, then 29
unfoldable pub checking_checks : List Row → List ℕ → Parted → List (Option Answer)
checking_checks t part p =
    refuse_at 4 (first_bad t)
    ∷ refuse (ltb most_octets (length part)) 3 []
    ∷ cut_of p
    ∷ refuse_at 29 (offender t 0 (elements_of p))
    ∷ []

-- by a lent table: start number, part. Nothing is lent to be written, and the option is off
unfoldable pub checking : List ℕ → ℕ → List ℕ → Answer
checking table start part =
    let t : List Row = rows_of table in
    unless (refusal (checking_checks t part (parted t start false part))) (λ a. a) (answer 0 [])

-- the same by table number, with that table's start number: refusal 5, checked first, where there is none
unfoldable pub checking_by : ℕ → List ℕ → Answer
checking_by n part =
    elim (table_of n) [
      | none ↦ answer 5 []
      | some table ↦ checking table start_of part
    ]
