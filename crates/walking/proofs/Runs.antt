-- What is left to write over a run of entries that are none of a known element, over one that is, and at the end of the order log; and the
-- added places one at a time. By the cases of the definition; a run by induction on its length.
use Prim.Native.Nat.{ℕ, zero, suc, ◌+◌, ◌-◌, ◌≤◌, ◌<◌, ◌%◌, max}
use native.Mathlib.Omega.{arith}
use native.Mathlib.Numerals.{add-one}
use mathlib.Core.Path.{◌≡◌, refl, ap, sym, ◌∙◌}
use mathlib.Core.List.{List, [], ◌∷◌, ◌++◌, append_assoc}
use mathlib.Core.Bool.{true, false}
use mathlib.Core.Option.{none, some}
use lib.ListN.{length, get_or, set, drop}
use lib.Seq.{drop-drop, get_or-drop}
use Rattle.definitions.specs.Basic.{over, bit}
use Rattle.definitions.specs.Rows.{rows_of, place_in}
use Rattle.definitions.proofs.Lists.{front-one}
use Rattle.definitions.proofs.LogSteps.{rest_of}
use Rattle.definitions.proofs.BitLaws.{no-bit}
use Rattle.rows.specs.Numbers.{numbers_at}
use Rattle.std.specs.Prelude.{Option as Answered, Some, None}
use Rattle.std.specs.List.{AllWithin, HoldsAt}
use Rattle.std.specs.Option.{MatchOption, unwrap_or}
use Rattle.placing.specs.Pieces.{Lent}
use Rattle.walking.specs.Walks.{element_by, added_piece, added_by, next_of, nexts_of, behind_of, known_by, place_after, pieces_by, elements_from, Laid, laid, RunLaid, KnownLaid, WalkLaid}
use Rattle.walking.specs.declared.Pen.{Pen}
use Rattle.walking.proofs.Laying.{lay-nothing, going-as, going_on}

-- no octet of the first n is 0
abbrev pub NoZero : List ℕ → ℕ → Type 0
NoZero s n = (j : ℕ) → j < n → 1 ≤ get_or s j 0

-- the position of the first 0, or the length where there is none
pub aside-by : (s : List ℕ) (r : Answered ℕ) → MatchOption r (AllWithin (λ x. 1 ≤ x) s 0 (length s)) (λ i. (i < length s) × HoldsAt (λ x. x ≡ 0) s i × AllWithin (λ x. 1 ≤ x) s 0 i)
    → let n = unwrap_or r (length s) in (n ≤ length s) × NoZero s n × (n < length s → get_or s n 0 ≡ 0)
aside-by s None h = (omega arith, λ j l. h j 0 (omega arith) l, λ l. absurd (omega arith))
aside-by s (Some i) h = (omega (arith, h.0), λ j l. h.2 j 0 (omega arith) l, λ l. h.1 0)

-- a list of one octet put into the front
pub one_of : (s d : List ℕ) → length s ≡ 1 → 1 ≤ length d → set d 0 (get_or s 0 0) ≡ over s d
one_of [] d h g = absurd (omega arith)
one_of (x ∷ []) d h g = front-one x d g
one_of (x ∷ y ∷ s) d h g = absurd (omega arith)

-- and one of two
pub two-of : (s d : List ℕ) → length s ≡ 2 → 2 ≤ length d → set (set d 0 (get_or s 0 0)) 1 (get_or s 1 0) ≡ over s d
unfolding over
two-of [] d h g = absurd (omega arith)
two-of (x ∷ []) d h g = absurd (omega arith)
two-of (x ∷ y ∷ []) [] h g = absurd (omega arith)
two-of (x ∷ y ∷ []) (a ∷ []) h g = absurd (omega arith)
two-of (x ∷ y ∷ []) (a ∷ b ∷ d) h g = refl
two-of (x ∷ y ∷ z ∷ s) d h g = absurd (omega arith)

-- ---- the kept elements, one turn

module _ (n i : ℕ) (h : i < n) (ks : List (List ℕ)) where
  turn : n - i ≡ suc (n - (i + 1))
  turn = omega arith

  pub nexts-turn : nexts_of (n - i) ks ≡ next_of ks ++ nexts_of (n - (i + 1)) (rest_of ks)
  unfolding nexts_of
  nexts-turn = rw turn

  pub behind-turn : behind_of (n - i) ks ≡ behind_of (n - (i + 1)) (rest_of ks)
  unfolding behind_of
  behind-turn = rw turn

-- where none is left, and where there are no more than so many
pub nexts-none : (n : ℕ) → (nexts_of n [] ≡ []) × (behind_of n [] ≡ [])
unfolding nexts_of behind_of next_of rest_of
nexts-none zero = (refl, refl)
nexts-none (suc n) = nexts-none n

pub nexts-all : (n : ℕ) (ks : List (List ℕ)) → length ks ≤ n → nexts_of n ks ≡ ks
unfolding nexts_of next_of rest_of
nexts-all n [] h = (nexts-none n).0
nexts-all zero (e ∷ ks) h = absurd (omega arith)
nexts-all (suc n) (e ∷ ks) h = ap (λ (es : List (List ℕ)). e ∷ es) (nexts-all n ks (omega arith))

-- ---- the added places

module _ (m : Lent) (s : ℕ) where
  -- a place in the set, and another
  module _ (k : ℕ) where
    pub piece_added : bit k s ≡ true → added_piece m s k ≡ element_by m k ((numbers_at m.table k).first % 256)
    unfolding added_piece
    piece_added e = rw e

    pub piece-not : bit k s ≡ false → added_piece m s k ≡ []
    unfolding added_piece
    piece-not e = rw e

  pub added_next : (k to : ℕ) → k < to → added_by m s k (to - k) ≡ (added_piece m s k ∷ []) ++ added_by m s (k + 1) (to - (k + 1))
  unfolding added_by
  added_next k to h = let z : to - k ≡ suc (to - (k + 1)) = omega arith in rw (z, add-one)

  pub added-over : (k to : ℕ) → to ≤ k → added_by m s k (to - k) ≡ []
  unfolding added_by
  added-over k to h = let z : to - k ≡ 0 = omega arith in rw z

-- a set without places adds none
pub added_none : (m : Lent) {s : ℕ} → s ≡ 0 → (k n : ℕ) (l : Laid) → laid (added_by m s k n) l ≡ l
unfolding added_by added_piece laid
added_none m e k zero l = refl
added_none m {s = s} e k (suc n) l =
    let z : bit k s ≡ false = rw e (no-bit k) in
    rw (z, lay-nothing l) (added_none m e (suc k) n l)

-- ---- the entries

module _ (m : Lent) (ix : List ℕ) (s : ℕ) where
  module _ (i c : ℕ) where
    pub known-nowhere : place_in ix i ≡ none → (known_by m ix s i c ≡ []) × (place_after ix i c ≡ c)
    unfolding known_by place_after
    known-nowhere e = (rw (e, known_by), rw (e, place_after))

    pub known_at : {k : ℕ} → place_in ix i ≡ some k → (known_by m ix s i c ≡ added_by m s c (k - c) ++ (element_by m k i ∷ [])) × (place_after ix i c ≡ max c k)
    unfolding known_by place_after
    known_at e = (rw (e, known_by), rw (e, place_after))

  pub pieces-run : (n : ℕ) (o : List ℕ) → n ≤ length o → NoZero o n → (c : ℕ) (ks : List (List ℕ)) → pieces_by m ix s o c ks ≡ nexts_of n ks ++ pieces_by m ix s (drop n o) c (behind_of n ks)
  unfolding nexts_of behind_of pieces_by
  pieces-run zero o h g c ks = refl
  pieces-run (suc n) [] h g c ks = absurd (omega arith)
  pieces-run (suc n) (zero ∷ o) h g c ks = let f = g 0 (omega arith) in absurd (omega arith)
  pieces-run (suc n) (suc x ∷ o) h g c ks =
      ap (λ (p : List (List ℕ)). next_of ks ++ p) (pieces-run n o (omega arith) (λ j l. g (suc j) (omega arith)) c (rest_of ks))
      ∙ sym (append_assoc (next_of ks) (nexts_of n (rest_of ks)) (pieces_by m ix s (drop n o) c (behind_of n (rest_of ks))))

  pub pieces-known : (o : List ℕ) → 2 ≤ length o → get_or o 0 0 ≡ 0 → (c : ℕ) (ks : List (List ℕ))
      → pieces_by m ix s o c ks ≡ known_by m ix s (get_or o 1 0) c ++ pieces_by m ix s (drop 2 o) (place_after ix (get_or o 1 0) c) ks
  unfolding pieces_by
  pieces-known [] h e c ks = absurd (omega arith)
  pieces-known (x ∷ []) h e c ks = absurd (omega arith)
  pieces-known (zero ∷ i ∷ o) h e c ks = refl
  pieces-known (suc x ∷ i ∷ o) h e c ks = absurd (omega arith)

  pub pieces-alone : (o : List ℕ) → length o ≤ 1 → get_or o 0 0 ≡ 0 → (c : ℕ) (ks : List (List ℕ)) → pieces_by m ix s o c ks ≡ pieces_by m ix s [] c ks
  unfolding pieces_by
  pieces-alone [] h e c ks = refl
  pieces-alone (zero ∷ []) h e c ks = refl
  pieces-alone (suc x ∷ []) h e c ks = absurd (omega arith)
  pieces-alone (x ∷ y ∷ o) h e c ks = absurd (omega arith)

  pub pieces_end : (c : ℕ) (ks : List (List ℕ)) → pieces_by m ix s [] c ks ≡ added_by m s c (length (rows_of m.table) - c) ++ ks
  unfolding pieces_by
  pieces_end c ks = refl

-- ---- a turn of the walk

pub nothing_left : (o : List ℕ) → length o ≡ 0 → (length o ≤ 1) × (get_or o 0 0 ≡ 0)
nothing_left [] h = (omega arith, refl)
nothing_left (x ∷ o) h = absurd (omega arith)

module _ (m : Lent) (ix : List ℕ) (s : ℕ) (order kept before : List ℕ) (at : ℕ) (p : Pen) (out : List ℕ) (w : WalkLaid m ix s order kept before (drop at order) p out) where
  abbrev ks : List (List ℕ)
  ks = elements_from kept p.kept

  -- over a run
  pub run_on : (n : ℕ) {r : Pen} {after : List ℕ} → n ≤ length (drop at order) → NoZero (drop at order) n → RunLaid kept n p out r after → WalkLaid m ix s order kept before (drop (at + n) order) r after
  run_on n {r = r} h g u =
      let e : pieces_by m ix s (drop n (drop at order)) p.place (behind_of n ks) ≡ pieces_by m ix s (drop (at + n) order) r.place (elements_from kept r.kept) = rw (drop-drop n at order, u.place, u.rest) in
      record { going = going-as e (going_on (nexts_of n ks) (pieces_by m ix s (drop n (drop at order)) p.place (behind_of n ks)) (going-as (pieces-run m ix s n (drop at order) h g p.place ks) w.going) u.lays); within = u.within }

  -- over a known entry
  pub known_on : {r : Pen} {after : List ℕ} → 2 ≤ length (drop at order) → get_or (drop at order) 0 0 ≡ 0 → KnownLaid m ix s (get_or order (at + 1) 0) p out r after → WalkLaid m ix s order kept before (drop (at + 2) order) r after
  known_on {r = r} h z u =
      let i : get_or (drop at order) 1 0 ≡ get_or order (at + 1) 0 = get_or-drop at order 1 0 in
      let c : ℕ = place_after ix (get_or order (at + 1) 0) p.place in
      let e : pieces_by m ix s (drop 2 (drop at order)) c ks ≡ pieces_by m ix s (drop (at + 2) order) r.place (elements_from kept r.kept) = rw (drop-drop 2 at order, u.place, u.kept) in
      record {
        going = going-as e (going_on (known_by m ix s (get_or order (at + 1) 0) p.place) (pieces_by m ix s (drop 2 (drop at order)) c ks) (going-as (rw i at (pieces-known m ix s (drop at order) h z p.place ks)) w.going) u.lays);
        within = rw u.kept w.within;
      }

  -- at the end, also where a 0 stands there alone
  pub end_on : length (drop at order) ≤ 1 → get_or (drop at order) 0 0 ≡ 0 → WalkLaid m ix s order kept before [] p out
  end_on h z = record { going = going-as (pieces-alone m ix s (drop at order) h z p.place ks) w.going; within = w.within }
