-- The answer of the findings, and what is wrong with one entry, by the index of a table that passes.
-- proofs/Finding.antt shows that these are the findings of the definitions.
use Rattle.std.specs.Prelude.{ℕ, suc, ◌*◌, max, ◌≡◌, List, [], ◌∷◌, ◌++◌, ◌||◌, length, get_or, eqb, ltb, Result, Ok, Err}
use Rattle.std.proofs.Math.Option
use Rattle.definitions.specs.Basic.{pick, is_none, concat, Answer, answer, refusal, refuse, unless, Used, content, too_long, most_log, over}
use Rattle.definitions.specs.Rows.{iei_of, place_in}
use Rattle.definitions.specs.Logs.{Placed, known_iei, not_known, ignored, kept_list, order_list, or_empty}
use Rattle.definitions.specs.Findings.{reason_kind, Noted}
use Rattle.definitions.proofs.LogSteps.{kept_after}
use Rattle.logs.specs.declared.MalformedLog.{MalformedLog}
use Rattle.findings.specs.declared.FindError.{FindError}

abbrev pub log_as : MalformedLog → ℕ
log_as MalformedLog.Order = 1
log_as MalformedLog.Kept = 2

abbrev pub found_as : Result ℕ FindError → Answer
found_as (Ok n) = answer 0 (n ∷ [])
found_as (Err (FindError.BadTable k)) = answer 4 (k ∷ [])
found_as (Err FindError.TooLong) = answer 3 []
found_as (Err (FindError.Malformed l)) = answer 11 (log_as l ∷ [])
found_as (Err FindError.NoRoom) = answer 2 (4 ∷ [])

-- the answer, and the lent findings at exit, are those of a finding
pub record Finds (d : Noted) (a : Result ℕ FindError) (findings : List ℕ) : Type 0 where
  pub answers : found_as a ≡ d.said
  pub findings-are : findings ≡ d.findings

-- ---- an entry, by the highest place so far and the kept elements that are left

-- its kind; 0 where nothing is wrong
unfoldable pub kind_of : List ℕ → ℕ → Placed → List (List ℕ) → ℕ
kind_of ix high (known_iei i) kept = pick (ltb (Option.get_or (place_in ix i) 0) high) 1 0
kind_of ix high not_known [] = 0
kind_of ix high not_known (e ∷ kept) = pick (is_none (place_in ix (iei_of (get_or e 0 0)))) 0 2
kind_of ix high (ignored r) [] = 0
kind_of ix high (ignored r) (e ∷ kept) = reason_kind r

-- the highest place behind it
unfoldable pub high_after : List ℕ → ℕ → Placed → ℕ
high_after ix high (known_iei i) = max (Option.get_or (place_in ix i) 0) high
high_after ix high not_known = high
high_after ix high (ignored r) = high

-- the finding of a kind, if it is one
unfoldable pub found_of : ℕ → ℕ → List (List ℕ)
found_of n kind = pick (eqb kind 0) [] ((n ∷ kind ∷ []) ∷ [])

-- ---- all entries from a number on

unfoldable pub findings_in : List ℕ → ℕ → ℕ → List Placed → List (List ℕ) → List (List ℕ)
findings_in ix n high [] kept = []
findings_in ix n high (p ∷ ps) kept = found_of n (kind_of ix high p kept) ++ findings_in ix (suc n) (high_after ix high p) ps (kept_after p kept)

-- a refusal leaves the lent findings as they were
abbrev pub unnoted : List ℕ → Answer → Noted
unnoted lent a = record { said = a; findings = lent }

-- the last check, of the room
unfoldable pub noted_in : List (List ℕ) → List ℕ → Noted
noted_in fs lent =
    unless (refusal (refuse (ltb (length lent) (2 * length fs)) 2 (4 ∷ []) ∷ [])) (unnoted lent)
    (record { said = answer 0 (length fs ∷ []); findings = over (concat fs) lent })

-- the checks behind the table's
unfoldable pub finding_in : List ℕ → Used → Used → List ℕ → Noted
finding_in ix order kept lent =
    unless
    (refusal
    (refuse (too_long most_log order || too_long most_log kept) 3 []
    ∷ refuse (is_none (order_list (content order))) 11 (1 ∷ [])
    ∷ refuse (is_none (kept_list (content kept))) 11 (2 ∷ [])
    ∷ []))
    (unnoted lent)
    (noted_in (findings_in ix 0 0 (or_empty (order_list (content order))) (or_empty (kept_list (content kept)))) lent)
