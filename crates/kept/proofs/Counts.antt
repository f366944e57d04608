-- The count at the front of a log by its first three octets, a law for each way that reading it can end.
-- Each takes an octet off in front, and rewrites with the definition's law for it.
use Prim.Native.Nat.{ℕ, suc, ◌+◌, ◌*◌, ◌%◌, ◌≤◌, ◌<◌}
use native.Mathlib.Omega.{arith}
use mathlib.Core.Path.{◌≡◌, refl, ◌∙◌}
use mathlib.Core.List.{List}
use mathlib.Core.Option.{Option, none, some}
use borrow.Author.Tests.{eq-eqb, ne_eqb, le-leb, lt-leb, leb-true, leb-false}
use mathlib.Core.Bool.{Bool, true, false, ◌&&◌}
use lib.Dec.{leb}
use Rattle.std.specs.Bool.{then_some}
use lib.ListN.{length, get_or, drop, length-drop}
use lib.Seq.{get_or-drop, drop-drop}
use Rattle.std.specs.Prelude.{Some, None}
use Rattle.definitions.specs.Basic.{pick}
use Rattle.definitions.specs.Logs.{Count, continued, count_f, allowed, count_at}
use Rattle.definitions.proofs.Logs.{count-end, count-last, count-more, entry_of, Allowed, count-allowed}
use Rattle.kept.specs.Kept.{count_of, count_from}
use Rattle.kept.specs.declared.Count.{Count as Found}

-- seven bits in front of a count that is 0, or not
continued-zero : (a : ℕ) (c : Count) → c.value ≡ 0 → continued a (some c) ≡ none
unfolding continued
continued-zero a c h = rw (eq-eqb c.value 0 h)

continued-more : (a : ℕ) (c : Count) → 1 ≤ c.value → continued a (some c) ≡ some (record { value = a % 128 + 128 * c.value; took = suc c.took })
unfolding continued
continued-more a c h = rw (ne_eqb c.value 0 (omega arith))

module _ (s : List ℕ) where
  pub none_left : length s ≡ 0 → count_at s ≡ none
  unfolding count_at allowed
  none_left h = rw (count-end 2 s h)

  pub one : 0 < length s → get_or s 0 0 < 128 → count_at s ≡ allowed (some (record { value = get_or s 0 0; took = 1 }))
  unfolding count_at
  one h a = rw (count-last 2 s h a)

  -- the octets behind the first, and behind the second
  module _ (h : 0 < length s) (a : 128 ≤ get_or s 0 0) where
    more : count_at s ≡ allowed (continued (get_or s 0 0) (count_f 2 (drop 1 s)))
    unfolding count_at
    more = rw (count-more 2 s h a)

    second : get_or (drop 1 s) 0 0 ≡ get_or s 1 0
    second = get_or-drop 1 s 0 0

    pub two-short : length s ≡ 1 → count_at s ≡ none
    unfolding continued allowed
    two-short l = more ∙ rw (count-end 1 (drop 1 s) (simp length-drop (omega arith)))

    pub two-zero : 1 < length s → get_or s 1 0 ≡ 0 → count_at s ≡ none
    unfolding allowed
    two-zero l b =
        let x : get_or (drop 1 s) 0 0 < 128 = omega (arith, second) in
        let n : 0 < length (drop 1 s) = simp length-drop (omega arith) in
        let z : get_or (drop 1 s) 0 0 ≡ 0 = second ∙ b in
        more ∙ rw (count-last 1 (drop 1 s) n x, continued-zero (get_or s 0 0) (record { value = get_or (drop 1 s) 0 0; took = 1 }) z)

    pub two : 1 < length s → 1 ≤ get_or s 1 0 → get_or s 1 0 < 128 → count_at s ≡ allowed (some (record { value = get_or s 0 0 % 128 + 128 * get_or s 1 0; took = 2 }))
    two l b b' =
        let x : get_or (drop 1 s) 0 0 < 128 = omega (arith, second) in
        let y : 1 ≤ get_or (drop 1 s) 0 0 = omega (arith, second) in
        let n : 0 < length (drop 1 s) = simp length-drop (omega arith) in
        more ∙ rw (count-last 1 (drop 1 s) n x, continued-more (get_or s 0 0) (record { value = get_or (drop 1 s) 0 0; took = 1 }) y, second)

    module _ (l : 1 < length s) (b : 128 ≤ get_or s 1 0) where
      deeper : count_at s ≡ allowed (continued (get_or s 0 0) (continued (get_or s 1 0) (count_f 1 (drop 2 s))))
      deeper =
          let x : 128 ≤ get_or (drop 1 s) 0 0 = omega (arith, second) in
          let n : 0 < length (drop 1 s) = simp length-drop (omega arith) in
          let e : drop 1 (drop 1 s) ≡ drop 2 s = drop-drop 1 1 s in
          more ∙ rw (count-more 1 (drop 1 s) n x, second, e)

      third : get_or (drop 2 s) 0 0 ≡ get_or s 2 0
      third = get_or-drop 2 s 0 0

      pub three-short : length s ≡ 2 → count_at s ≡ none
      unfolding continued allowed
      three-short k = deeper ∙ rw (count-end 0 (drop 2 s) (simp length-drop (omega arith)))

      pub three-zero : 2 < length s → get_or s 2 0 ≡ 0 → count_at s ≡ none
      unfolding allowed continued
      three-zero k z =
          let x : get_or (drop 2 s) 0 0 < 128 = omega (arith, third) in
          let n : 0 < length (drop 2 s) = simp length-drop (omega arith) in
          let v : get_or (drop 2 s) 0 0 ≡ 0 = third ∙ z in
          deeper ∙ rw (count-last 0 (drop 2 s) n x, eq-eqb (get_or (drop 2 s) 0 0) 0 v)

      pub three-over : 2 < length s → 128 ≤ get_or s 2 0 → count_at s ≡ none
      unfolding allowed continued count_f
      three-over k z =
          let x : 128 ≤ get_or (drop 2 s) 0 0 = omega (arith, third) in
          let n : 0 < length (drop 2 s) = simp length-drop (omega arith) in
          deeper ∙ rw (count-more 0 (drop 2 s) n x)

      pub three : 2 < length s → 1 ≤ get_or s 2 0 → get_or s 2 0 < 128
          → count_at s ≡ allowed (some (record { value = get_or s 0 0 % 128 + 128 * (get_or s 1 0 % 128 + 128 * get_or s 2 0); took = 3 }))
      three k y x =
          let y' : 1 ≤ get_or (drop 2 s) 0 0 = omega (arith, third) in
          let x' : get_or (drop 2 s) 0 0 < 128 = omega (arith, third) in
          let n : 0 < length (drop 2 s) = simp length-drop (omega arith) in
          let c : Count = record { value = get_or s 1 0 % 128 + 128 * get_or s 2 0; took = 2 } in
          let e : continued (get_or s 1 0) (count_f 1 (drop 2 s)) ≡ some c =
          rw (count-last 0 (drop 2 s) n x', continued-more (get_or s 1 0) (record { value = get_or (drop 2 s) 0 0; took = 1 }) y', third) in
          deeper ∙ rw (e, continued-more (get_or s 0 0) c (omega arith))

-- what a count that was read says of the definition
pub count-is : (o : Option Count) {c : Found} → Some c ≡ count_of o → o ≡ some (record { value = c.value; took = c.took })
count-is none e = cc
count-is (some d) {c = c} e = let p : c ≡ record { value = d.value; took = d.took } = cc in rw p

pub count-not : (o : Option Count) → None ≡ count_of o → o ≡ none
count-not none e = refl
count-not (some c) e = cc

-- the entry by its count: the log has the element behind it, or ends before
module _ (s : List ℕ) {c : Found} (e : Some c ≡ count_of (count_at s)) where
  is : count_at s ≡ some (record { value = c.value; took = c.took })
  is = count-is (count_at s) e

  pub entry-there : c.value + c.took ≤ length s → Some c ≡ count_of (entry_of s (count_at s))
  unfolding entry_of
  entry-there h = rw (is, le-leb c.value (length (drop c.took s)) (simp length-drop (omega arith)))

  pub entry_past : length s < c.value + c.took → None ≡ count_of (entry_of s (count_at s))
  unfolding entry_of
  entry_past h =
      let a : Allowed (some (record { value = c.value; took = c.took })) = rw is at (count-allowed s) in
      rw (is, lt-leb c.value (length (drop c.took s)) (simp length-drop (omega arith)))

  -- by how many octets are left behind the count
  pub entry-judged : (l : ℕ) → c.took + l ≡ length s → then_some (leb c.value l) c ≡ count_of (entry_of s (count_at s))
  entry-judged l h = by (leb c.value l) refl
    where
      by : (b : Bool) → leb c.value l ≡ b → then_some b c ≡ count_of (entry_of s (count_at s))
      by true t = let g = leb-true c.value l t in entry-there (omega arith)
      by false t = let g = leb-false c.value l t in entry_past (omega arith)

pub entry-not : (s : List ℕ) → None ≡ count_of (count_at s) → None ≡ count_of (entry_of s (count_at s))
unfolding entry_of
entry-not s e = rw (count-not (count_at s) e)

-- a count of one octet with its element behind it
pub entry-like : (s : List ℕ) (n : ℕ) → 1 ≤ n → n < 128 → n < length s → get_or s 0 0 ≡ n → entry_of s (count_at s) ≡ some (record { value = n; took = 1 })
unfolding allowed entry_of
entry-like s n h a l e =
    let c : count_at s ≡ some (record { value = n; took = 1 }) = one s (omega arith) (omega arith) ∙ rw (e, le-leb 1 n h, le-leb n 65535 (omega arith)) in
    rw (c, le-leb n (length (drop 1 s)) (simp length-drop (omega arith)))

-- a count that is not allowed
pub allowed-not : (v t : ℕ) → (1 ≤ v → v ≤ 65535 → ⊥) → None ≡ count_of (allowed (count_from v t))
unfolding allowed
allowed-not v t n = by (leb 1 v) (leb v 65535) refl refl
  where
    by : (b d : Bool) → leb 1 v ≡ b → leb v 65535 ≡ d → None ≡ count_of (pick (b && d) (count_from v t) none)
    by true true p q = absurd (n (leb-true 1 v p) (leb-true v 65535 q))
    by true false p q = refl
    by false d p q = refl
