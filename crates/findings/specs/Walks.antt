-- Where a walk over both logs is, and what a step of it finds.
use Rattle.std.specs.Prelude.{ℕ, ◌+◌, ◌≤◌, ◌<◌, ◌≡◌, List, [], ◌∷◌, ◌++◌, length, get_or, Option as Answered, Some, None}
use Rattle.definitions.specs.Basic.{most_log}
use Rattle.definitions.specs.Logs.{Placed}
use Rattle.definitions.proofs.LogSteps.{kept_from, KeptAt, order_from, OrderAt, kept_after}
use Rattle.findings.specs.Findings.{kind_of, high_after, found_of, findings_in}
use Rattle.findings.specs.declared.walk.Walk.{Walk}
use Rattle.findings.specs.declared.walk.Judged.{Judged}
use Rattle.findings.specs.declared.walk.Step.{Step}

-- two logs that are well formed, and within their limit
pub record WellFormed (order kept : List ℕ) : Type 0 where
  pub order-at : OrderAt order 0
  pub kept_at : KeptAt kept 0
  pub short : length order ≤ most_log

-- the next kept element: its first octet and the position behind it
pub record ElementAt (kept : List ℕ) (at x to : ℕ) : Type 0 where
  pub element : List ℕ
  pub first : get_or element 0 0 ≡ x
  pub splits : kept_from kept at ≡ element ∷ kept_from kept to
  pub formed : KeptAt kept to

abbrev pub NextIs : List ℕ → ℕ → Answered (ℕ × ℕ) → Type 0
NextIs kept at (Some p) = ElementAt kept at p.0 p.1
NextIs kept at None = kept_from kept at ≡ []

-- an entry with which nothing is wrong, and behind which nothing has moved
abbrev pub unmoved : Walk → Judged
unmoved w = record { kind = 0; highest = w.highest; kept = w.kept }

-- an entry judged
pub record JudgedAs (ix kept : List ℕ) (w : Walk) (p : Placed) (r : Judged) : Type 0 where
  pub kind : r.kind ≡ kind_of ix w.highest p (kept_from kept w.kept)
  pub highest : r.highest ≡ high_after ix w.highest p
  pub rest : kept_from kept r.kept ≡ kept_after p (kept_from kept w.kept)
  pub formed : KeptAt kept r.kept

-- a walk stands where both logs are well formed, with at most an entry for each octet passed
pub record Walking (order kept : List ℕ) (w : Walk) : Type 0 where
  pub order-at : OrderAt order w.order
  pub kept_at : KeptAt kept w.kept
  pub few : w.entry ≤ w.order

-- the findings from where a walk is, and all of them
unfoldable pub left_in : List ℕ → List ℕ → List ℕ → Walk → List (List ℕ)
left_in ix order kept w = findings_in ix w.entry w.highest (order_from order w.order) (kept_from kept w.kept)

unfoldable pub all_in : List ℕ → List ℕ → List ℕ → List (List ℕ)
all_in ix order kept = findings_in ix 0 0 (order_from order 0) (kept_from kept 0)

-- a step: what is left is the finding, if there is one, and what is left behind it
pub record Stepped (ix order kept : List ℕ) (w : Walk) (r : Step) : Type 0 where
  pub walking : Walking order kept r.walk
  pub further : w.order < r.walk.order
  pub counted : r.walk.entry ≡ w.entry + 1
  pub left : left_in ix order kept w ≡ found_of w.entry r.kind ++ left_in ix order kept r.walk
