-- Both logs passed an entry at a time: a log that is malformed further on is malformed, and what is left decides.
-- Each step moves an entry from what is left into what is passed; at the end nothing is left.
use Prim.Native.Nat.{ℕ, zero, suc, ◌+◌, ◌-◌, ◌≤◌, ◌<◌}
use native.Mathlib.Omega.{arith}
use mathlib.Core.Path.{◌≡◌, refl, ap, sym, ◌∙◌}
use mathlib.Core.List.{List, [], ◌∷◌}
use mathlib.Core.Bool.{true, false, false≢true}
use mathlib.Core.Option.{Option, none, some}
use lib.ListN.{length, get_or, take, drop, length-take, length-drop, length-append}
use lib.Seq.{get_or-drop}
use Rattle.std.specs.Prelude.{Option as Answered, Some, None, Result, Err}
use Rattle.std.specs.Option.{ok_or}
use Rattle.definitions.specs.Basic.{is_none, concat}
use Rattle.definitions.specs.Logs.{Placed, Count, count_at, put, kept_list, order_list, or_empty}
use Rattle.definitions.proofs.Logs.{entry_of, kept-nil}
use Rattle.definitions.proofs.LogSteps.{KeptEntry, KeptAt, kept_from, kept-split, kept_next, kept-over, kept-none}
use Rattle.definitions.proofs.LogWalks.{left-begin, left_step, left-stop, left_end}
use Rattle.kept.proofs.Counts.{entry-like}
use Rattle.logs.specs.Checks.{kept_octets, checked_logs, Checked}
use Rattle.logs.specs.Walks.{with, Keeping}
use Rattle.logs.specs.declared.MalformedLog.{MalformedLog}

-- ---- the kept log

with-put : (n : ℕ) (e : List ℕ) (o : Option (List (List ℕ))) → with (n + length e) o ≡ with n (put e o)
unfolding with put concat
with-put n e none = refl
with-put n e (some es) = let z : n + length e + length (concat es) ≡ n + length (concat (e ∷ es)) = omega (arith, length-append e (concat es)) in ap (λ (n : ℕ). Some n) z

with_none : (o : Option (List (List ℕ))) → with 0 o ≡ kept_octets o
unfolding with kept_octets
with_none none = refl
with_none (some es) = let z : 0 + length (concat es) ≡ length (concat es) = omega arith in ap (λ (n : ℕ). Some n) z

module _ (kept : List ℕ) where
  pub keeping-begun : Keeping kept 0 0
  keeping-begun = record { few = omega arith; left = left-begin kept_list kept _ (with_none (kept_list kept)) }

  module _ (at octets : ℕ) (l : Keeping kept at octets) where
    pub keeping_step : {c : Count} → KeptEntry kept at c → Keeping kept (at + (c.took + c.value)) (octets + c.value)
    keeping_step {c = c} k =
        let z : at + (c.took + c.value) ≡ at + c.took + c.value = omega arith in
        let e : List ℕ = take c.value (drop (at + c.took) kept) in
        let n : length e ≡ c.value = simp (length-take, length-drop) (omega (arith, k.within)) in
        rw z
        (record { few = omega (arith, k.count, l.few); left = left_step kept_list kept _ l.left e k.within k.splits (rw n at (with-put octets e)) })

    pub keeping-stopped : kept_list (drop at kept) ≡ none → None ≡ kept_octets (kept_list kept)
    unfolding with
    keeping-stopped e = left-stop kept_list kept _ l.left e

    pub keeping-ended : length kept ≤ at → Some octets ≡ kept_octets (kept_list kept)
    unfolding with concat
    keeping-ended h = let z : octets ≡ octets + length {A = ℕ} (concat []) = omega arith in ap (λ (n : ℕ). Some n) z ∙ left_end kept_list kept _ l.left kept-nil h

    -- an entry that is as long as expected, behind a count of one octet
    pub keeping-like : (n : ℕ) → 1 ≤ n → n < 128 → n < length kept - at → get_or kept at 0 ≡ n → Keeping kept (at + (n + 1)) (octets + n)
    keeping-like n h m r e =
        let i = l.left.inside in
        let z : at + (n + 1) ≡ at + (1 + n) = omega arith in
        let y : at + 0 ≡ at = omega arith in
        rw z (keeping_step (kept-split kept at i (entry-like (drop at kept) n h m (simp length-drop (omega arith)) (get_or-drop at kept 0 0 ∙ rw y e))))

-- ---- both

module _ (o : Option (List Placed)) (k : Option (List (List ℕ))) where
  pub first-bad : is_none o ≡ true → Err MalformedLog.Order ≡ checked_logs o k
  unfolding is_none checked_logs
  first-bad h = by o h
    where
      by : (x : Option (List Placed)) → is_none x ≡ true → Err MalformedLog.Order ≡ checked_logs x k
      by none q = refl
      by (some ps) q = absurd (false≢true q)

  -- an order log that is well formed leaves the answer to the kept log
  pub by-kept : {r : Answered ℕ} → is_none o ≡ false → r ≡ kept_octets k → ok_or r MalformedLog.Kept ≡ checked_logs o k
  unfolding is_none checked_logs kept_octets
  by-kept {r = r} h e = rw e (by o k h)
    where
      by : (x : Option (List Placed)) (y : Option (List (List ℕ))) → is_none x ≡ false → ok_or (kept_octets y) MalformedLog.Kept ≡ checked_logs x y
      by none y q = absurd (false≢true (sym q))
      by (some ps) none q = refl
      by (some ps) (some es) q = refl

-- ---- what each answer says

pub logs-checked : (order kept : List ℕ) {r : Result ℕ MalformedLog} → r ≡ checked_logs (order_list order) (kept_list kept) → Checked order kept r
unfolding checked_logs
logs-checked order kept e = rw e (by (order_list order) (kept_list kept) refl refl)
  where
    by : (o : Option (List Placed)) (k : Option (List (List ℕ))) → order_list order ≡ o → kept_list kept ≡ k → Checked order kept (checked_logs o k)
    by none k p q = p
    by (some ps) none p q = ((ps, p), q)
    by (some ps) (some es) p q = record { ps = ps; es = es; order_is = p; kept-is = q; octets-are = refl }

-- the kept log alone
pub record KeptIs (kept : List ℕ) (octets : ℕ) : Type 0 where
  pub es : List (List ℕ)
  pub kept-is : kept_list kept ≡ some es
  pub octets-are : octets ≡ length (concat es)

module _ (kept : List ℕ) where
  pub kept-told : {n : ℕ} → Some n ≡ kept_octets (kept_list kept) → KeptIs kept n
  unfolding kept_octets
  kept-told {n = n} e = by (kept_list kept) refl e
    where
      by : (o : Option (List (List ℕ))) → kept_list kept ≡ o → Some n ≡ kept_octets o → KeptIs kept n
      by none q z = cc
      by (some es) q z = record { es = es; kept-is = q; octets-are = cc }

  pub kept-not : None ≡ kept_octets (kept_list kept) → kept_list kept ≡ none
  unfolding kept_octets
  kept-not e = by (kept_list kept) e
    where
      by : (o : Option (List (List ℕ))) → None ≡ kept_octets o → o ≡ none
      by none z = refl
      by (some es) z = cc

-- the octets of all elements are no more than those of the log
module _ (kept : List ℕ) where
  few-from : (n at : ℕ) → length kept ≤ at + n → KeptAt kept at → at + length (concat (kept_from kept at)) ≤ length kept
  unfolding concat
  few-from zero at h k = let z : at ≡ length kept = omega (arith, k.inside) in rw (kept-over kept at k (omega arith)) (omega (arith, k.inside))
  few-from (suc n) at h k = by (entry_of (drop at kept) (count_at (drop at kept))) refl (few-from n)
    where
      by : (o : Option Count) → entry_of (drop at kept) (count_at (drop at kept)) ≡ o → ((j : ℕ) → length kept ≤ j + n → KeptAt kept j → j + length (concat (kept_from kept j)) ≤ length kept)
          → at + length (concat (kept_from kept at)) ≤ length kept
      by none e f = rw (kept-over kept at k (kept-none kept at k e)) (omega (arith, k.inside))
      by (some c) e f =
          let s = kept-split kept at k.inside e in
          let x = kept_next kept at k e in
          let v : List ℕ = take c.value (drop (at + c.took) kept) in
          let r = f (at + c.took + c.value) (omega (arith, s.count)) x.1 in
          let l : length v ≡ c.value = simp (length-take, length-drop) (omega (arith, s.within)) in
          rw x.0 (omega (arith, length-append v (concat (kept_from kept (at + c.took + c.value)))))

pub kept-few : (kept : List ℕ) {es : List (List ℕ)} → kept_list kept ≡ some es → length (concat es) ≤ length kept
unfolding kept_from or_empty
kept-few kept {es = es} e =
    let f = few-from kept (length kept) 0 (omega arith) (record { inside = omega arith; formed = e ∙ ap (λ (o : Option (List (List ℕ))). some (or_empty o)) (sym e) }) in
    let g : 0 + length (concat es) ≤ length kept = rw e at f in
    omega arith
