-- `optional_ie_order_findings` ("Pieces in port order", 6): the number of an entry and what is wrong with it.
use Rattle.std.specs.Prelude.{ℕ, suc, ◌*◌, max, List, [], ◌∷◌, ◌||◌, length, get_or, ltb}
use Rattle.std.proofs.Math.Option
use Rattle.definitions.specs.Basic.{pick, is_none, concat, Answer, answer, refusal, refuse, refuse_at, unless, Used, content, too_long, most_log, over}
use Rattle.definitions.specs.Rows.{Row, rows_of, iei_of, place_of, first_bad}
use Rattle.definitions.specs.Logs.{Placed, known_iei, not_known, ignored, Reason, by_form, again, late, kept_list, order_list, or_empty}

-- entries 02, 03, 04
unfoldable pub reason_kind : Reason → ℕ
reason_kind by_form = 3
reason_kind again = 4
reason_kind late = 5

-- from entry number n on, with the highest place so far and the kept elements left; a finding is two numbers, entry and
-- kind. 1: a known place below the highest so far, no place counting as 0. 2: an 01 entry whose kept element's IEI, masked,
-- has a place. 3, 4, 5: entries 02, 03, 04. An entry 01 to 04 with no kept element left gives none
unfoldable pub findings_from : List Row → ℕ → ℕ → List Placed → List (List ℕ) → List (List ℕ)
findings_from t n high [] kept = []
findings_from t n high (known_iei i ∷ ps) kept =
    let k : ℕ = Option.get_or (place_of t i) 0 in
    let rest : List (List ℕ) = findings_from t (suc n) (max k high) ps kept in
    pick (ltb k high) ((n ∷ 1 ∷ []) ∷ rest) rest
findings_from t n high (not_known ∷ ps) [] = findings_from t (suc n) high ps []
findings_from t n high (not_known ∷ ps) (e ∷ kept) =
    let rest : List (List ℕ) = findings_from t (suc n) high ps kept in
    pick (is_none (place_of t (iei_of (get_or e 0 0)))) rest ((n ∷ 2 ∷ []) ∷ rest)
findings_from t n high (ignored r ∷ ps) [] = findings_from t (suc n) high ps []
findings_from t n high (ignored r ∷ ps) (e ∷ kept) = (n ∷ reason_kind r ∷ []) ∷ findings_from t (suc n) high ps kept

unfoldable pub findings : List Row → List Placed → List (List ℕ) → List (List ℕ)
findings t ps kept = findings_from t 0 0 ps kept

-- the answer, and the lent findings afterwards
pub record Noted : Type 0 where
  pub said : Answer
  pub findings : List ℕ

-- checks 4, 3, 11 (1), 11 (2), 2 (4); done returns how many there are
unfoldable pub finding : List ℕ → Used → Used → List ℕ → Noted
finding table order kept lent =
    let t : List Row = rows_of table in
    let fs : List (List ℕ) = findings t (or_empty (order_list (content order))) (or_empty (kept_list (content kept))) in
    unless
    (refusal
    (refuse_at 4 (first_bad t)
    ∷ refuse (too_long most_log order || too_long most_log kept) 3 []
    ∷ refuse (is_none (order_list (content order))) 11 (1 ∷ [])
    ∷ refuse (is_none (kept_list (content kept))) 11 (2 ∷ [])
    ∷ refuse (ltb (length lent) (2 * length fs)) 2 (4 ∷ [])
    ∷ []))
    (λ a. record { said = a; findings = lent })
    (record { said = answer 0 (length fs ∷ []); findings = over (concat fs) lent })
