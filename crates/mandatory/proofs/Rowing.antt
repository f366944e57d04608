-- The definition's rows are those of the loops: what is said, and what is left where none refuses.
-- By induction on the rows, and by what the first one finds.
use Prim.Native.Nat.{ℕ, suc, ◌+◌, ◌≤◌}
use native.Mathlib.Omega.{arith}
use mathlib.Core.Path.{◌≡◌, refl, sym, ◌∙◌}
use mathlib.Core.List.{List, [], ◌∷◌, ◌++◌, append-nil, append_assoc}
use mathlib.Core.Bool.{Bool, true, false}
use mathlib.Core.Option.{Option, none, some}
use lib.ListN.{drop}
use Rattle.definitions.specs.Basic.{pick, Answer, answer}
use Rattle.definitions.specs.Mandatory.{MandatoryRow, mandatory_form, Found as DefFound, missing, truncated, value, found_by, fault_of, Rowed, stopped, noted, rowed}
use Rattle.definitions.proofs.Mandatories.{by-fault, row-missing, row-truncated, row-value}
use Rattle.mandatory_ie.specs.Founds.{fault_as}
use Rattle.std.specs.Prelude.{Result, Ok, Err}
use Rattle.mandatory.specs.Reads.{refused_by, refused_or, judged_by, judged_from, rows_by, rows_from}
use Rattle.mandatory_ie.specs.declared.Fault.{Fault}
use Rattle.mandatory_ie.specs.declared.Lacking.{Lacking}
use Rattle.mandatory_ie.specs.declared.Found.{Found}

abbrev pub said_by : Option Answer → Answer → Answer
said_by none a = a
said_by (some r) a = r

-- a refusal by a row has a number from 6 on
abbrev pub Refusal : Option Answer → Type 0
Refusal none = Unit
Refusal (some a) = 6 ≤ a.number

-- an outcome of the definition, as the loops have it: what is said, and what is left behind the rows before
pub record Same (o : Rowed) (a : Answer) (rows left : List ℕ) : Type 0 where
  pub number : Refusal o.refused
  pub said : said_by o.refused (answer 0 (o.read ∷ o.notes)) ≡ a
  pub leaves : o.refused ≡ none → o.rows ≡ rows ++ left

-- ---- one row, where those behind it are the same

module _ (lenient : Bool) (k at : ℕ) (rs : List MandatoryRow) (s rows notes : List ℕ) where
  abbrev said_on : ℕ → List ℕ → Answer
  said_on took = judged_from lenient (suc k) (at + took) rs (drop took s)

  abbrev left_on : ℕ → List ℕ
  left_on took = rows_from (at + took) rs (drop took s)

  abbrev rowed_on : ℕ → ℕ → ℕ → List ℕ → Rowed
  rowed_on h n took = rowed lenient (suc k) (at + took) rs (drop took s) (rows ++ (1 ∷ (at + h) ∷ n ∷ []))

  abbrev Here : Rowed → Result Found Lacking → Type 0
  Here o f = Same o (judged_by lenient k notes f said_on) rows (rows_by at f left_on)

  halted : (number : ℕ) {a : Answer} {left : List ℕ} → 6 ≤ number → answer number (k ∷ notes) ≡ a → Same (stopped number k at rows notes) a rows left
  unfolding stopped
  halted number h e = record { number = h; said = e; leaves = λ p. let z : ◌≡◌ {A = ℕ} 0 1 = cc in absurd (omega arith) }

  module _ (h n took : ℕ) (i : (notes' : List ℕ) → Same (rowed_on h n took notes') (said_on took notes') (rows ++ (1 ∷ (at + h) ∷ n ∷ [])) (left_on took)) where
    on : (notes' : List ℕ) → Same (rowed_on h n took notes') (said_on took notes') rows (1 ∷ (at + h) ∷ n ∷ left_on took)
    on notes' = record { number = (i notes').number; said = (i notes').said; leaves = λ p. (i notes').leaves p ∙ append_assoc rows (1 ∷ (at + h) ∷ n ∷ []) (left_on took) }

    faulty-short : (b : Bool) → Same (pick b (rowed_on h n took (notes ++ (k ∷ 8 ∷ []))) (stopped 8 k at rows notes)) (refused_or k notes (refused_by b Fault.TooShort k) (said_on took (notes ++ (k ∷ 8 ∷ [])))) rows (1 ∷ (at + h) ∷ n ∷ left_on took)
    faulty-short true = on (notes ++ (k ∷ 8 ∷ []))
    faulty-short false = halted 8 (omega arith) refl

    faulty-syntax : (b : Bool) → Same (pick b (rowed_on h n took (notes ++ (k ∷ 9 ∷ []))) (stopped 9 k at rows notes)) (refused_or k notes (refused_by b Fault.Syntax k) (said_on took (notes ++ (k ∷ 9 ∷ [])))) rows (1 ∷ (at + h) ∷ n ∷ left_on took)
    faulty-syntax true = on (notes ++ (k ∷ 9 ∷ []))
    faulty-syntax false = halted 9 (omega arith) refl

    valued : (r : MandatoryRow) (v : List ℕ) → Here (noted lenient k (fault_of r took v) notes (rowed_on h n took) (λ fault. stopped fault k at rows notes)) (Ok (record { start = h; len = n; took = took; fault = fault_as (fault_of r took v) }))
    unfolding noted
    valued r v =
        by-fault
        (λ o. Here (noted lenient k o notes (rowed_on h n took) (λ fault. stopped fault k at rows notes)) (Ok (record { start = h; len = n; took = took; fault = fault_as o })))
        r took v (rw append-nil (on notes)) (faulty-short lenient) (faulty-syntax lenient)

pub same : (lenient : Bool) (k at : ℕ) (rs : List MandatoryRow) (s rows notes : List ℕ) → Same (rowed lenient k at rs s rows notes) (judged_from lenient k at rs s notes) rows (rows_from at rs s)
unfolding rowed judged_from rows_from
same lenient k at [] s rows notes = record { number = tt; said = refl; leaves = λ p. sym (append-nil rows) }
same lenient k at (r ∷ rs) s rows notes =
    go (found_by (mandatory_form r) s) refl (λ h n took notes'. same lenient (suc k) (at + took) rs (drop took s) (rows ++ (1 ∷ (at + h) ∷ n ∷ [])) notes')
  where
    go :
        (f : DefFound) → found_by (mandatory_form r) s ≡ f
        → ((h n took : ℕ) (notes' : List ℕ) → Same (rowed lenient (suc k) (at + took) rs (drop took s) (rows ++ (1 ∷ (at + h) ∷ n ∷ [])) notes') (judged_from lenient (suc k) (at + took) rs (drop took s) notes') (rows ++ (1 ∷ (at + h) ∷ n ∷ [])) (rows_from (at + took) rs (drop took s)))
        → Same (rowed lenient k at (r ∷ rs) s rows notes) (judged_from lenient k at (r ∷ rs) s notes) rows (rows_from at (r ∷ rs) s)
    go missing e i = rw (row-missing lenient k at r rs s rows notes e, e) (halted lenient k at rs s rows notes 6 (omega arith) refl)
    go truncated e i = rw (row-truncated lenient k at r rs s rows notes e, e) (halted lenient k at rs s rows notes 7 (omega arith) refl)
    go (value h n took v) e i = rw (row-value lenient k at r rs s rows notes e, e) (valued lenient k at rs s rows notes h n took (i h n took) r v)
