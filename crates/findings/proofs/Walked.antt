-- A walk over both logs, an entry at a time: what is found from the next entry on is what was found from this one on, without its
-- finding. The findings counted, or written, and those that are left are all.
use Prim.Native.Nat.{ℕ, ◌+◌, ◌*◌, ◌≤◌, ◌<◌}
use native.Mathlib.Omega.{arith}
use native.Mathlib.Numerals.{add-one}
use mathlib.Core.Path.{◌≡◌, refl, ap, sym, ◌∙◌}
use mathlib.Core.List.{List, [], ◌++◌}
use mathlib.Core.Option.{some}
use borrow.Author.Tests.{eq-eqb, ne_eqb}
use lib.ListN.{length, drop, length-append}
use Rattle.definitions.specs.Basic.{pick, is_none, concat, over, over_at}
use Rattle.definitions.specs.Rows.{place_in, iei_of}
use Rattle.definitions.specs.Logs.{Placed, not_known, ignored, Reason, order_entry}
use Rattle.definitions.specs.Findings.{reason_kind}
use Rattle.definitions.proofs.Lists.{over_none, over-next, length-over_at}
use Rattle.definitions.proofs.LogSteps.{kept_from, KeptAt, order_from, rest_of, kept_after, order-split, order-next, order-over}
use Rattle.definitions.proofs.Orders.{order_front}
use Rattle.findings.specs.Findings.{kind_of, high_after, found_of, findings_in}
use Rattle.findings.specs.Walks.{WellFormed, ElementAt, unmoved, JudgedAs, Walking, left_in, all_in, Stepped}
use Rattle.findings.specs.declared.walk.Walk.{Walk}
use Rattle.findings.specs.declared.walk.Judged.{Judged}
use Rattle.findings.specs.declared.walk.Step.{Step}
use Rattle.findings.proofs.Finding.{concat-append, pairs}

-- ---- an entry that takes the next kept element, or finds none left

abbrev judged : ℕ → ℕ → ℕ → Judged
judged kind highest kept = record { kind = kind; highest = highest; kept = kept }

module _ (ix kept : List ℕ) (w : Walk) where
  module _ {x to k : ℕ} (e : ElementAt kept w.kept x to) where
    pub unknown-taken : k ≡ pick (is_none (place_in ix (iei_of x))) 0 2 → JudgedAs ix kept w not_known (judged k w.highest to)
    unfolding kind_of high_after kept_after rest_of
    unknown-taken q = record { kind = rw (e.splits, e.first) q; highest = refl; rest = rw e.splits; formed = e.formed }

    pub ignored-taken : {r : Reason} → k ≡ reason_kind r → JudgedAs ix kept w (ignored r) (judged k w.highest to)
    unfolding kind_of high_after kept_after rest_of
    ignored-taken q = record { kind = rw e.splits q; highest = refl; rest = rw e.splits; formed = e.formed }

  module _ (f : KeptAt kept w.kept) (e : kept_from kept w.kept ≡ []) where
    pub unknown-gone : JudgedAs ix kept w not_known (unmoved w)
    unfolding kind_of high_after kept_after rest_of
    unknown-gone = record { kind = rw e; highest = refl; rest = rw e; formed = f }

    pub ignored-gone : (r : Reason) → JudgedAs ix kept w (ignored r) (unmoved w)
    unfolding kind_of high_after kept_after rest_of
    ignored-gone r = record { kind = rw e; highest = refl; rest = rw e; formed = f }

-- ---- a step

module _ (ix order kept : List ℕ) (w : Walk) where
  -- the walk behind an entry
  abbrev pub behind : Placed → Judged → Step
  behind p r = record { kind = r.kind; walk = record { order = w.order + length (order_entry p); kept = r.kept; entry = w.entry + 1; highest = r.highest } }

  module _ (i : Walking order kept w) (h : w.order < length order) where
    pub stepped : (p : Placed) (r : Judged) → order_front (drop w.order order) ≡ some p → JudgedAs ix kept w p r → Stepped ix order kept w (behind p r)
    unfolding left_in findings_in
    stepped p r e j =
        let s = order-split order w.order h e in
        let n = order-next order w.order h i.order-at e in
        record {
          walking = record { order-at = n.1; kept_at = j.formed; few = omega (arith, i.few, s.octet) };
          further = omega (arith, s.octet);
          counted = refl;
          left = rw (n.0, j.kind, j.highest, j.rest, add-one w.entry);
        }

  -- nothing is left at the end
  pub none_left : length order ≤ w.order → left_in ix order kept w ≡ []
  unfolding left_in findings_in
  none_left h = rw (order-over order w.order h)

-- two numbers a finding
pub all-pairs : (ix order kept : List ℕ) → length (concat (all_in ix order kept)) ≡ 2 * length (all_in ix order kept)
unfolding all_in
all-pairs ix order kept = pairs ix 0 0 (order_from order 0) (kept_from kept 0)

-- ---- counting

pub record Counting (ix order kept : List ℕ) (w : Walk) (n : ℕ) : Type 0 where
  pub walking : Walking order kept w
  pub few : n ≤ w.entry
  pub sums : n + length (left_in ix order kept w) ≡ length (all_in ix order kept)

abbrev pub start_walk : Walk
start_walk = record { order = 0; kept = 0; entry = 0; highest = 0 }

module _ (ix order kept : List ℕ) where
  pub begun : WellFormed order kept → Walking order kept start_walk
  begun l = record { order-at = l.order-at; kept_at = l.kept_at; few = omega arith }

  pub count-begun : WellFormed order kept → Counting ix order kept start_walk 0
  unfolding left_in all_in
  count-begun l = record { walking = begun l; few = omega arith; sums = omega arith }

  module _ (w : Walk) (n : ℕ) (i : Counting ix order kept w n) where
    module _ (s : Step) (t : Stepped ix order kept w s) where
      left-length : length (left_in ix order kept w) ≡ length (found_of w.entry s.kind) + length (left_in ix order kept s.walk)
      left-length = ap length t.left ∙ length-append (found_of w.entry s.kind) (left_in ix order kept s.walk)

      pub count_none : s.kind ≡ 0 → Counting ix order kept s.walk n
      unfolding found_of
      count_none e =
          let l = rw (eq-eqb s.kind 0 e) at left-length in
          record { walking = t.walking; few = omega (arith, i.few, t.counted); sums = omega (arith, i.sums) }

      pub count-one : (s.kind ≡ 0 → ⊥) → Counting ix order kept s.walk (n + 1)
      unfolding found_of
      count-one e =
          let l = rw (ne_eqb s.kind 0 e) at left-length in
          record { walking = t.walking; few = omega (arith, i.few, t.counted); sums = omega (arith, i.sums) }

    pub count-ended : length order ≤ w.order → (n ≡ length (all_in ix order kept)) × (n ≤ length order)
    count-ended h =
        let s = rw (none_left ix order kept w h) at i.sums in
        (omega arith, omega (arith, i.few, i.walking.few, i.walking.order-at.inside))

-- ---- writing

pub record Putting (ix order kept lent : List ℕ) (w : Walk) (n : ℕ) (d : List ℕ) : Type 0 where
  pub walking : Walking order kept w
  pub long : length d ≡ length lent
  pub room : n + length (concat (left_in ix order kept w)) ≤ length d
  pub gives : over_at n (concat (left_in ix order kept w)) d ≡ over (concat (all_in ix order kept)) lent

module _ (ix order kept lent : List ℕ) where
  pub put-begun : WellFormed order kept → length (concat (all_in ix order kept)) ≤ length lent → Putting ix order kept lent start_walk 0 lent
  unfolding left_in all_in over_at
  put-begun l h = record { walking = begun ix order kept l; long = refl; room = omega arith; gives = refl }

  module _ (w : Walk) (n : ℕ) (d : List ℕ) (i : Putting ix order kept lent w n d) where
    module _ (s : Step) (t : Stepped ix order kept w s) where
      abbrev piece : List ℕ
      piece = concat (found_of w.entry s.kind)

      abbrev after : List ℕ
      after = concat (left_in ix order kept s.walk)

      pieces : concat (left_in ix order kept w) ≡ piece ++ after
      pieces = ap concat t.left ∙ concat-append (found_of w.entry s.kind) (left_in ix order kept s.walk)

      fits : n + length piece + length after ≤ length d
      fits = omega (arith, i.room, ap length pieces ∙ length-append piece after)

      pub put-room : n + length piece ≤ length d
      put-room = omega (arith, fits)

      pub put_step : {m : ℕ} {d' : List ℕ} → m ≡ n + length piece → d' ≡ over_at n piece d → Putting ix order kept lent s.walk m d'
      put_step e q =
          let l : length (over_at n piece d) ≡ length d = length-over_at n piece d put-room in
          rw (e, q)
          (record {
            walking = t.walking;
            long = l ∙ i.long;
            room = omega (arith, fits);
            gives = over-next n piece after d put-room ∙ ap (λ (x : List ℕ). over_at n x d) (sym pieces) ∙ i.gives;
          })

    pub put_ended : length order ≤ w.order → d ≡ over (concat (all_in ix order kept)) lent
    unfolding concat
    put_ended h = sym (over_none n d) ∙ (rw (none_left ix order kept w h) at i.gives)
