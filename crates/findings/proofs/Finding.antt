-- The findings of the definitions by the index of a table that passes, and the checks in their order.
-- An IEI has the same place by table and index, so that the findings are the same entry by entry; each check settles those before it.
use Prim.Native.Nat.{ℕ, suc, ◌*◌, ◌≤◌, ◌<◌, max}
use native.Mathlib.Omega.{arith}
use mathlib.Core.Path.{◌≡◌, refl, ap, sym, ◌∙◌}
use mathlib.Core.List.{List, [], ◌∷◌, ◌++◌, append_assoc}
use mathlib.Core.Bool.{Bool, true, false, ◌||◌, false≢true}
use mathlib.Core.Option
use mathlib.Core.Option.{Option, none, some}
use borrow.Author.Tests.{lt-ltb, le-ltb, ltb-false}
use lib.ListN.{length, get_or, length-append, length-take}
use lib.Dec.{ltb, eqb, eqb-suc-zero}
use Rattle.definitions.specs.Basic.{pick, is_none, concat, Answer, answer, refusal, refuse, unless, Used, content, too_long, most_log, over}
use Rattle.definitions.specs.Rows.{Row, rows_of, first_bad, iei_of, place_in, index}
use Rattle.definitions.specs.Logs.{Placed, known_iei, not_known, ignored, by_form, again, late, kept_list, order_list, or_empty}
use Rattle.definitions.specs.Findings.{reason_kind, findings_from, findings, Noted, finding}
use Rattle.definitions.proofs.TableLaws.{index_same}
use Rattle.definitions.proofs.LogSteps.{kept_from, order_from, rest_of, kept_after}
use Rattle.logs.specs.Checks.{Checked}
use Rattle.std.specs.Prelude.{Result, Ok, Err}
use Rattle.logs.specs.declared.MalformedLog.{MalformedLog}
use Rattle.findings.specs.Findings.{found_as, Finds, kind_of, high_after, found_of, findings_in, unnoted, noted_in, finding_in}
use Rattle.findings.specs.Walks.{WellFormed, all_in}
use Rattle.findings.specs.declared.FindError.{FindError}

-- ---- the findings

-- a finding that a test says is there, and one that it says is not
there : (n k : ℕ) (rest : List (List ℕ)) (b : Bool) → pick b ((n ∷ suc k ∷ []) ∷ rest) rest ≡ found_of n (pick b (suc k) 0) ++ rest
unfolding found_of
there n k rest true = rw (eqb-suc-zero k)
there n k rest false = refl

not_there : (n k : ℕ) (rest : List (List ℕ)) (b : Bool) → pick b rest ((n ∷ suc k ∷ []) ∷ rest) ≡ found_of n (pick b 0 (suc k)) ++ rest
unfolding found_of
not_there n k rest true = refl
not_there n k rest false = rw (eqb-suc-zero k)

module _ (t : List Row) (passes : first_bad t ≡ none) where
  pub same-findings : (n high : ℕ) (ps : List Placed) (kept : List (List ℕ)) → findings_from t n high ps kept ≡ findings_in (index t) n high ps kept
  unfolding findings_from findings_in kind_of high_after found_of kept_after rest_of reason_kind
  same-findings n high [] kept = refl
  same-findings n high (known_iei i ∷ ps) kept =
      let k : ℕ = Option.get_or (place_in (index t) i) 0 in
      rw (← index_same t passes i, same-findings (suc n) (max k high) ps kept) (there n 0 (findings_in (index t) (suc n) (max k high) ps kept) (ltb k high))
  same-findings n high (not_known ∷ ps) [] = same-findings (suc n) high ps []
  same-findings n high (not_known ∷ ps) (e ∷ kept) =
      rw (← index_same t passes (iei_of (get_or e 0 0)), same-findings (suc n) high ps kept)
      (not_there n 1 (findings_in (index t) (suc n) high ps kept) (is_none (place_in (index t) (iei_of (get_or e 0 0)))))
  same-findings n high (ignored r ∷ ps) [] = same-findings (suc n) high ps []
  same-findings n high (ignored by_form ∷ ps) (e ∷ kept) = ap (λ (fs : List (List ℕ)). (n ∷ 3 ∷ []) ∷ fs) (same-findings (suc n) high ps kept)
  same-findings n high (ignored again ∷ ps) (e ∷ kept) = ap (λ (fs : List (List ℕ)). (n ∷ 4 ∷ []) ∷ fs) (same-findings (suc n) high ps kept)
  same-findings n high (ignored late ∷ ps) (e ∷ kept) = ap (λ (fs : List (List ℕ)). (n ∷ 5 ∷ []) ∷ fs) (same-findings (suc n) high ps kept)

-- ---- two numbers a finding

pub concat-append : (a b : List (List ℕ)) → concat (a ++ b) ≡ concat a ++ concat b
unfolding concat
concat-append [] b = refl
concat-append (x ∷ a) b = ap (λ (s : List ℕ). x ++ s) (concat-append a b) ∙ sym (append_assoc x (concat a) (concat b))

found-pair : (n kind : ℕ) → length (concat (found_of n kind)) ≡ 2 * length (found_of n kind)
unfolding found_of concat
found-pair n kind = by (eqb kind 0)
  where
    by : (b : Bool) → length (concat (pick b [] ((n ∷ kind ∷ []) ∷ []))) ≡ 2 * length (pick b [] ((n ∷ kind ∷ []) ∷ []))
    by true = refl
    by false = refl

pub pairs : (ix : List ℕ) (n high : ℕ) (ps : List Placed) (kept : List (List ℕ)) → length (concat (findings_in ix n high ps kept)) ≡ 2 * length (findings_in ix n high ps kept)
unfolding findings_in concat
pairs ix n high [] kept = refl
pairs ix n high (p ∷ ps) kept =
    let f : List (List ℕ) = found_of n (kind_of ix high p kept) in
    let r : List (List ℕ) = findings_in ix (suc n) (high_after ix high p) ps (kept_after p kept) in
    rw (concat-append f r, length-append (concat f) (concat r), length-append f r)
    (omega (arith, found-pair n (kind_of ix high p kept), pairs ix (suc n) (high_after ix high p) ps (kept_after p kept)))

-- ---- logs that pass their checks

pub within-limit : (most : ℕ) (u : Used) → too_long most u ≡ false → (u.used ≤ length u.buffer) × (u.used ≤ most)
unfolding too_long
within-limit most u h = by (ltb (length u.buffer) u.used) (ltb most u.used) refl refl h
  where
    by : (a b : Bool) → ltb (length u.buffer) u.used ≡ a → ltb most u.used ≡ b → (a || b) ≡ false → (u.used ≤ length u.buffer) × (u.used ≤ most)
    by true b e f h = absurd (false≢true (sym h))
    by false true e f h = absurd (false≢true (sym h))
    by false false e f h = (ltb-false (length u.buffer) u.used e, ltb-false most u.used f)

formed : {X : Type 0} (o : Option (List X)) → is_none o ≡ false → o ≡ some (or_empty o)
unfolding is_none or_empty
formed none e = absurd (false≢true (sym e))
formed (some xs) e = refl

pub logs-formed : (order kept : Used) → too_long most_log order ≡ false → is_none (order_list (content order)) ≡ false → is_none (kept_list (content kept)) ≡ false → WellFormed (content order) (content kept)
unfolding content order_from kept_from
logs-formed order kept h e f =
    record {
      order-at = record { inside = omega arith; formed = formed (order_list (content order)) e };
      kept_at = record { inside = omega arith; formed = formed (kept_list (content kept)) f };
      short = simp length-take (omega (arith, (within-limit most_log order h).1));
    }

-- what the check of both says, of their used octets
is-none : {X : Type 0} (o : Option X) → o ≡ none → is_none o ≡ true
unfolding is_none
is-none o e = rw e

is_some : {X : Type 0} (o : Option X) {x : X} → o ≡ some x → is_none o ≡ false
unfolding is_none
is_some o e = rw e

module _ (order kept : Used) where
  pub said-order : Checked (content order) (content kept) (Err MalformedLog.Order) → is_none (order_list (content order)) ≡ true
  said-order e = is-none (order_list (content order)) e

  pub said-kept : Checked (content order) (content kept) (Err MalformedLog.Kept) → (is_none (order_list (content order)) ≡ false) × (is_none (kept_list (content kept)) ≡ true)
  said-kept e = (is_some (order_list (content order)) e.0.1, is-none (kept_list (content kept)) e.1)

  pub said-formed : {n : ℕ} → Checked (content order) (content kept) (Ok n) → (is_none (order_list (content order)) ≡ false) × (is_none (kept_list (content kept)) ≡ false)
  said-formed e = (is_some (order_list (content order)) e.order_is, is_some (kept_list (content kept)) e.kept-is)

-- ---- the answers

-- a finding that is equal to a definition's
pub finds-by : {d e : Noted} {a : Result ℕ FindError} {s : List ℕ} → d ≡ e → Finds e a s → Finds d a s
finds-by q h = rw q h

-- a refusal
pub refused : {d : Noted} {lent : List ℕ} {x : Answer} {a : Result ℕ FindError} → d ≡ unnoted lent x → found_as a ≡ x → Finds d a lent
refused e q = record { answers = q ∙ ap (λ (y : Noted). y.said) (sym e); findings-are = ap (λ (y : Noted). y.findings) (sym e) }

module _ (fs : List (List ℕ)) (lent : List ℕ) where
  pub noted-full : length lent < 2 * length fs → noted_in fs lent ≡ unnoted lent (answer 2 (4 ∷ []))
  unfolding noted_in refusal
  noted-full h = rw (lt-ltb (length lent) (2 * length fs) h)

  pub noted-done : 2 * length fs ≤ length lent → noted_in fs lent ≡ record { said = answer 0 (length fs ∷ []); findings = over (concat fs) lent }
  unfolding noted_in refusal
  noted-done h = rw (le-ltb (length lent) (2 * length fs) h)

module _ (ix : List ℕ) (order kept : Used) (lent : List ℕ) where
  pub long-logs : (too_long most_log order || too_long most_log kept) ≡ true → finding_in ix order kept lent ≡ unnoted lent (answer 3 [])
  unfolding finding_in refusal
  long-logs h = rw h

  module _ (g : too_long most_log order ≡ false) (h : too_long most_log kept ≡ false) where
    pub bad-order : is_none (order_list (content order)) ≡ true → finding_in ix order kept lent ≡ unnoted lent (answer 11 (1 ∷ []))
    unfolding finding_in refusal
    bad-order b = rw (g, h, b)

    module _ (b : is_none (order_list (content order)) ≡ false) where
      pub bad-kept : is_none (kept_list (content kept)) ≡ true → finding_in ix order kept lent ≡ unnoted lent (answer 11 (2 ∷ []))
      unfolding finding_in refusal
      bad-kept d = rw (g, h, b, d)

      pub formed-both : is_none (kept_list (content kept)) ≡ false → finding_in ix order kept lent ≡ noted_in (all_in ix (content order) (content kept)) lent
      unfolding finding_in refusal all_in order_from kept_from
      formed-both d = rw (g, h, b, d)

-- ---- the table

module _ (table : List ℕ) (order kept : Used) (lent : List ℕ) where
  pub bad-table : {k : ℕ} → first_bad (rows_of table) ≡ some k → finding table order kept lent ≡ unnoted lent (answer 4 (k ∷ []))
  unfolding finding refusal
  bad-table e = rw e

  pub good-table : first_bad (rows_of table) ≡ none → finding table order kept lent ≡ finding_in (index (rows_of table)) order kept lent
  unfolding finding findings finding_in noted_in refusal
  good-table e =
      rw (same-findings (rows_of table) e 0 0 (or_empty (order_list (content order))) (or_empty (kept_list (content kept))), e)
      (by (too_long most_log order || too_long most_log kept) (is_none (order_list (content order))) (is_none (kept_list (content kept))))
    where
      fs : List (List ℕ)
      fs = findings_in (index (rows_of table)) 0 0 (or_empty (order_list (content order))) (or_empty (kept_list (content kept)))

      by : (a b c : Bool)
          → unless (refusal (refuse a 3 [] ∷ refuse b 11 (1 ∷ []) ∷ refuse c 11 (2 ∷ []) ∷ refuse (ltb (length lent) (2 * length fs)) 2 (4 ∷ []) ∷ [])) (unnoted lent) (record { said = answer 0 (length fs ∷ []); findings = over (concat fs) lent })
          ≡ unless (refusal (refuse a 3 [] ∷ refuse b 11 (1 ∷ []) ∷ refuse c 11 (2 ∷ []) ∷ [])) (unnoted lent) (noted_in fs lent)
      by true b c = refl
      by false true c = refl
      by false false true = refl
      by false false false = refl
