-- `keep_octets` stores one octet or two behind their count, and lends the rest of the log for any other entry.
-- There is room for it, so it is written whole.
use Prim.Native.Nat.{ℕ, suc, ◌+◌, ◌-◌, ◌≤◌}
use native.Mathlib.Omega.{arith}
use native.Mathlib.Numerals.{add-one}
use mathlib.Core.Path.{◌≡◌, refl, ap, ◌∙◌}
use mathlib.Core.List.{List, [], ◌∷◌, append_assoc}
use lib.ListN.{length, get_or, take, drop, set, length-set, length-take, length-drop}
use lib.Seq.{sets-eq, drop-drop}
use Rattle.definitions.specs.Basic.{over_at, over}
use Rattle.definitions.specs.Logs.{kept_entry, leb128, leb_f}
use Rattle.definitions.proofs.Lists.{lent-over}
use Rattle.kept.proofs.Entries.{kept-into, kept-takes}
use Rattle.filling.proofs.fill.keep_octets.Goals as goal
use Rattle.filling.proofs.fill.keep_octets.Goals.{After-put_raw, Then-element-eq1, Then-element-eq2}

-- the entries of one octet and of two
one_entry : (e : List ℕ) → length e ≡ 1 → kept_entry e ≡ 1 ∷ get_or e 0 0 ∷ []
unfolding kept_entry leb128 leb_f
one_entry [] h = absurd (omega arith)
one_entry (x ∷ []) h = refl
one_entry (x ∷ y ∷ e) h = absurd (omega arith)

two-entry : (e : List ℕ) → length e ≡ 2 → kept_entry e ≡ 2 ∷ get_or e 0 0 ∷ get_or e 1 0 ∷ []
unfolding kept_entry leb128 leb_f
two-entry [] h = absurd (omega arith)
two-entry (x ∷ []) h = absurd (omega arith)
two-entry (x ∷ y ∷ []) h = refl
two-entry (x ∷ y ∷ z ∷ e) h = absurd (omega arith)

-- two and three numbers stored from a position on
set-two : (n a b : ℕ) (d : List ℕ) → n + 2 ≤ length d → set (set d n a) (n + 1) b ≡ over_at n (a ∷ b ∷ []) d
unfolding over_at over
set-two n a b d h =
    let e : drop 2 (drop n d) ≡ drop (n + 2) d = drop-drop 2 n d in
    rw (add-one n, e) (sets-eq (a ∷ b ∷ []) d n h ∙ append_assoc (take n d) (a ∷ b ∷ []) (drop (n + 2) d))

set-three : (n a b x : ℕ) (d : List ℕ) → n + 3 ≤ length d → set (set (set d n a) (n + 1) b) (n + 2) x ≡ over_at n (a ∷ b ∷ x ∷ []) d
unfolding over_at over
set-three n a b x d h =
    let e : drop 3 (drop n d) ≡ drop (n + 3) d = drop-drop 3 n d in
    let t : n + 2 ≡ suc (suc n) = omega arith in
    rw (add-one n, t, e) (sets-eq (a ∷ b ∷ x ∷ []) d n h ∙ append_assoc (take n d) (a ∷ b ∷ x ∷ []) (drop (n + 3) d))

entry-is : (c : Then-element-eq1) → let e = c.args.element.now in kept_entry e ≡ 1 ∷ get_or e 0 0 ∷ []
entry-is c = one_entry c.args.element.now c.if-element-eq1.true

pub bounds-kept-used : goal.bounds-kept-used
bounds-kept-used c = omega (arith, ap length (entry-is (goal.at.bounds-kept-used c).Then-element-eq1))

pub bounds-kept-used-then-element-eq1 : goal.bounds-kept-used-then-element-eq1
bounds-kept-used-then-element-eq1 c = simp length-set (omega (arith, ap length (entry-is (goal.at.bounds-kept-used-then-element-eq1 c).Then-element-eq1)))

pub returns-then-element-eq1 : goal.returns-then-element-eq1
returns-then-element-eq1 c =
    let a = c.args in
    let q = entry-is (goal.at.returns-then-element-eq1 c).Then-element-eq1 in
    (omega (arith, ap length q), rw q (set-two a.used 1 (get_or a.element.now 0 0) a.kept.now (omega (arith, ap length q))))

entry-is-2 : (c : Then-element-eq2) → let e = c.args.element.now in kept_entry e ≡ 2 ∷ get_or e 0 0 ∷ get_or e 1 0 ∷ []
entry-is-2 c = two-entry c.args.element.now c.if-element-eq2.true

pub bounds-kept-used-then-element-eq2 : goal.bounds-kept-used-then-element-eq2
bounds-kept-used-then-element-eq2 c = omega (arith, ap length (entry-is-2 (goal.at.bounds-kept-used-then-element-eq2 c).Then-element-eq2))

pub bounds-kept-used-then-element-eq2-2 : goal.bounds-kept-used-then-element-eq2-2
bounds-kept-used-then-element-eq2-2 c = simp length-set (omega (arith, ap length (entry-is-2 (goal.at.bounds-kept-used-then-element-eq2-2 c).Then-element-eq2)))

pub bounds-kept-used-then-element-eq2-3 : goal.bounds-kept-used-then-element-eq2-3
bounds-kept-used-then-element-eq2-3 c = simp length-set (omega (arith, ap length (entry-is-2 (goal.at.bounds-kept-used-then-element-eq2-3 c).Then-element-eq2)))

pub returns-then-element-eq2 : goal.returns-then-element-eq2
returns-then-element-eq2 c =
    let a = c.args in
    let q = entry-is-2 (goal.at.returns-then-element-eq2 c).Then-element-eq2 in
    (omega (arith, ap length q), rw q (set-three a.used 2 (get_or a.element.now 0 0) (get_or a.element.now 1 0) a.kept.now (omega (arith, ap length q))))

-- what is lent, and what the entry takes of it
takes : (c : After-put_raw) → c.put_raw.result ≡ length (kept_entry c.args.element.now)
takes c =
    let a = c.args in
    c.put_raw.ensures.took ∙ kept-takes a.element.now (take (length a.kept.now - a.used) (drop a.used a.kept.now)) (omega arith) (omega arith) (simp (length-take, length-drop) (omega arith))

pub overflow_add-result-2 : goal.overflow_add-result-2
overflow_add-result-2 c = omega (arith, takes (goal.at.overflow_add-result-2 c).After-put_raw)

pub returns : goal.returns
returns c =
    let a = c.args in
    let e = a.element.now in
    (omega (arith, takes (goal.at.returns c).After-put_raw), rw (c.put_raw.ensures.out_after, kept-into e (take (length a.kept.now - a.used) (drop a.used a.kept.now)) (omega arith) (omega arith) (simp (length-take, length-drop) (omega arith))) (lent-over a.used (kept_entry e) a.kept.now (omega arith)))
