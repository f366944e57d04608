-- What a call of the C interface returns, and the values that it puts.
use Rattle.std.specs.Prelude.{ℕ, suc, ◌≡◌, List, [], ◌∷◌, length, set, Result, Ok, Err}
use Rattle.std.proofs.Math.Option.{Option, none, some}
use Rattle.definitions.specs.Basic.{Answer, answer}
use Rattle.definitions.specs.Reading.{Read}
use Rattle.definitions.specs.Block.{ReadBlock}
use Rattle.definitions.specs.Values.{Edited}
use Rattle.definitions.specs.Writing.{Wrote}
use Rattle.definitions.specs.Findings.{Noted}
use Rattle.definitions.specs.Mandatory.{RowsWrote}
use Rattle.length.specs.declared.CutShort.{CutShort}

-- values stored one after the other from a place on; every other place is as it was. The five lent places are known by their
-- number alone, which no contract tells as a length, so this is said by stores; with as many places as values it is `over`
-- of the definitions (proofs/Laws.antt, `put-over`)
abbrev pub put_from : ℕ → List ℕ → List ℕ → List ℕ
put_from k [] places = places
put_from k (v ∷ vs) places = put_from (suc k) vs (set places k v)

abbrev pub put : List ℕ → List ℕ → List ℕ
put vs places = put_from 0 vs places

-- how many values an answer has, then the values
abbrev pub told : Answer → List ℕ
told a = length a.values ∷ a.values

-- the number of an answer is returned; how many values it has and the values stand in the first places, and the others are as
-- they were
pub record Says (a : Answer) (number : ℕ) (before after : List ℕ) : Type 0 where
  pub numbered : number ≡ a.number
  pub valued : after ≡ put (told a) before

-- an answer, and lent memory afterwards, are those of a reading: number and values, rows and both logs
pub record ReadSays (r : Read) (number : ℕ) (before after rows kept order : List ℕ) : Type 0 where
  pub says : Says r.said number before after
  pub rows_are : rows ≡ r.rows
  pub kept-is : kept ≡ r.kept
  pub order_is : order ≡ r.order

-- the same of a reading into one block
pub record BlockSays (r : ReadBlock) (number : ℕ) (before after rows block : List ℕ) : Type 0 where
  pub says : Says r.said number before after
  pub rows_are : rows ≡ r.rows
  pub block-is : block ≡ r.block

-- the same of an edit: number and values, rows and set octets
pub record EditSays (e : Edited) (number : ℕ) (before after rows set : List ℕ) : Type 0 where
  pub says : Says e.said number before after
  pub rows_are : rows ≡ e.rows
  pub set_is : set ≡ e.set

-- the same of a writing: number and values, and the output
pub record WriteSays (w : Wrote) (number : ℕ) (before after output : List ℕ) : Type 0 where
  pub says : Says w.said number before after
  pub output-is : output ≡ w.output

-- of a writing of mandatory rows
pub record RowsWriteSays (w : RowsWrote) (number : ℕ) (before after output : List ℕ) : Type 0 where
  pub says : Says w.said number before after
  pub output-is : output ≡ w.output

-- and of the findings: number and values, and the findings
pub record FindingSays (d : Noted) (number : ℕ) (before after findings : List ℕ) : Type 0 where
  pub says : Says d.said number before after
  pub findings-are : findings ≡ d.findings

-- the answer of a table check: passed, or refusal 4 with the first bad row
abbrev pub check_answer : Option ℕ → Answer
check_answer none = answer 0 []
check_answer (some row) = answer 4 (row ∷ [])

-- the place of an IEI, or no value
abbrev pub place_answer : Option ℕ → Answer
place_answer none = answer 0 []
place_answer (some place) = answer 0 (place ∷ [])

-- the length of an unknown element, or cut short, with the octets missing
abbrev pub length_answer : ℕ → Option ℕ → Answer
length_answer m none = answer 1 (m ∷ [])
length_answer m (some n) = answer 0 (n ∷ [])

abbrev pub length_as : Result ℕ CutShort → Answer
length_as (Ok n) = answer 0 (n ∷ [])
length_as (Err e) = answer 1 (e.missing ∷ [])
