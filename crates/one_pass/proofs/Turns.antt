-- A turn of the pass, by what is left of both logs: what an entry puts stands in front of what the entries behind it do.
-- Of a log that is malformed further on there is none on either side.
use Prim.Native.Nat.{ℕ, zero, suc, ◌-◌, ◌≤◌, ◌<◌, max}
use native.Mathlib.Omega.{arith}
use mathlib.Core.Path.{◌≡◌, refl, ap, sym, ◌∙◌}
use mathlib.Core.List.{List, [], ◌∷◌}
use mathlib.Core.Bool.{Bool, true, false, not, ◌&&◌, and-false}
use mathlib.Core.Option.{Option, none, some}
use borrow.Author.Tests.{le-ltb, lt-ltb}
use lib.ListN.{length, get_or, drop, length-drop}
use lib.Dec.{ltb, eqb}
use Rattle.definitions.specs.Basic.{pick, bit, concat}
use Rattle.definitions.specs.Rows.{rows_of, no_place, place_in}
use Rattle.definitions.specs.Logs.{Placed, known_iei, not_known, ignored, put, kept_list, order_list}
use Rattle.definitions.proofs.Logs.{kept-nil}
use Rattle.placing.specs.Pieces.{Lent, joined, piece_by, held_to, PutBy}
use Rattle.unnamed.specs.Named.{names, unnamed}
use Rattle.one_pass.specs.Passes.{concat_by, rest_by, passed, left_by, passed_by, KeptNot, malformed, too_long, KeptBy, over-all, next_one, NextBy, KnownOn, KnownBy, EntryOn, EntryBy, Passing}
use Rattle.one_pass.specs.declared.Pen.{Pen}
use Rattle.std.specs.Prelude.{Option as Answered, Some, None}
use Rattle.placing.proofs.Pieces.{held, held-long, put-not, none-not, long-not, joined-none, put_then_lem, put-stop, leads-begun, leads-on, leads-as}

-- ---- what is left behind an entry

-- an entry of an element that no row took
abbrev pub Aside : Placed → Type 0
Aside (known_iei i) = ⊥
Aside not_known = Unit
Aside (ignored r) = Unit

module _ (m : Lent) (ix : List ℕ) (set : ℕ) where
  left-none : (ps : Option (List Placed)) (c : ℕ) → left_by m ix set ps c none ≡ none
  unfolding left_by
  left-none none c = refl
  left-none (some ps) c = refl

  passed-known : (i c : ℕ) (ps : List Placed) (ks : List (List ℕ)) {o : Option ℕ} → place_in ix i ≡ o
      → passed m ix set (known_iei i ∷ ps) c ks
      ≡ elim o [ none ↦ passed m ix set ps c ks | some k ↦ pick (ltb k c && not (bit k set)) none (joined (unnamed m set c (k - c)) (joined (piece_by m k i) (passed m ix set ps (max c (suc k)) ks))) ]
  unfolding passed
  passed-known i c ps ks e =
      ap
      (λ (x : Option ℕ).
      elim x [ none ↦ passed m ix set ps c ks | some k ↦ pick (ltb k c && not (bit k set)) none (joined (unnamed m set c (k - c)) (joined (piece_by m k i) (passed m ix set ps (max c (suc k)) ks))) ])
      e

  module _ (i c : ℕ) where
    left-nowhere : place_in ix i ≡ none → (ps : Option (List Placed)) (ks : Option (List (List ℕ))) → left_by m ix set (put (known_iei i) ps) c ks ≡ left_by m ix set ps c ks
    unfolding left_by put
    left-nowhere e none ks = refl
    left-nowhere e (some ps) none = refl
    left-nowhere e (some ps) (some ks) = passed-known i c ps ks e

    module _ {k : ℕ} (e : place_in ix i ≡ some k) where
      left-lower : k < c → bit k set ≡ false → (ps : Option (List Placed)) (ks : Option (List (List ℕ))) → left_by m ix set (put (known_iei i) ps) c ks ≡ none
      unfolding left_by put
      left-lower h b none ks = refl
      left-lower h b (some ps) none = refl
      left-lower h b (some ps) (some ks) = passed-known i c ps ks e ∙ rw (lt-ltb k c, b)

      left-known : (ltb k c && not (bit k set)) ≡ false → (ps : Option (List Placed)) (ks : Option (List (List ℕ)))
          → left_by m ix set (put (known_iei i) ps) c ks ≡ joined (unnamed m set c (k - c)) (joined (piece_by m k i) (left_by m ix set ps (max c (suc k)) ks))
      unfolding left_by put
      left-known h none ks = sym (ap (joined (unnamed m set c (k - c))) (joined-none (piece_by m k i)) ∙ joined-none (unnamed m set c (k - c)))
      left-known h (some ps) none = sym (ap (joined (unnamed m set c (k - c))) (joined-none (piece_by m k i)) ∙ joined-none (unnamed m set c (k - c)))
      left-known h (some ps) (some ks) = passed-known i c ps ks e ∙ rw h

  left-kept : (e : Placed) → Aside e → (x : List ℕ) (ps : Option (List Placed)) (c : ℕ) (ks : Option (List (List ℕ))) → left_by m ix set (put e ps) c (put x ks) ≡ joined (some x) (left_by m ix set ps c ks)
  unfolding left_by put passed joined
  left-kept (known_iei i) a x ps c ks = absurd a
  left-kept not_known a x none c ks = refl
  left-kept not_known a x (some ps) c none = refl
  left-kept not_known a x (some ps) c (some ks) = refl
  left-kept (ignored r) a x none c ks = refl
  left-kept (ignored r) a x (some ps) c none = refl
  left-kept (ignored r) a x (some ps) c (some ks) = refl

  left_over : (e : Placed) → Aside e → (ps : Option (List Placed)) (c : ℕ) → left_by m ix set (put e ps) c (some []) ≡ left_by m ix set ps c (some [])
  unfolding left_by put passed
  left_over (known_iei i) a ps c = absurd a
  left_over not_known a none c = refl
  left_over not_known a (some ps) c = refl
  left_over (ignored r) a none c = refl
  left_over (ignored r) a (some ps) c = refl

  -- at the end of the order log
  left_end : (c : ℕ) (ks : Option (List (List ℕ))) → left_by m ix set (some []) c ks ≡ joined (unnamed m set c (length (rows_of m.table) - c)) (concat_by ks)
  unfolding left_by passed concat_by
  left_end c none = sym (joined-none (unnamed m set c (length (rows_of m.table) - c)))
  left_end c (some ks) = refl

pub concat-next : (e : List ℕ) (ks : Option (List (List ℕ))) → concat_by (put e ks) ≡ joined (some e) (concat_by ks)
unfolding concat_by put joined concat
concat-next e none = refl
concat-next e (some ks) = refl

pub concat-over : (kept : List ℕ) (at : ℕ) → length kept ≤ at → concat_by (kept_list (drop at kept)) ≡ some []
unfolding concat_by concat
concat-over kept at h = ap concat_by (kept-nil (drop at kept) (simp length-drop (omega arith)))

-- where the next kept element is not put, nothing that begins with it is
pub kept-not : {kept : List ℕ} {p : Pen} {room : ℕ} → KeptNot kept p room → held_to room p.at (concat_by (kept_list (drop p.kept kept))) ≡ None
unfolding concat_by
kept-not {p = p} {room = room} (malformed e) = none-not room p.at (rw e)
kept-not {p = p} {room = room} (too_long e o s l) = rw (s, concat-next e o) (put-stop room p.at (some e) (concat_by o) (long-not room p.at refl l))

-- ---- a turn

-- the next kept element, where there is one
pub next-by : (kept : List ℕ) (p : Pen) (before after : List ℕ) (r : Answered Pen) → KeptBy kept p before r after → NextBy kept p before r after
next-by kept p before after (Some q) k = next_one k
next-by kept p before after None k = k

module _ (m : Lent) (ix : List ℕ) (set : ℕ) (kept : List ℕ) (e : Placed) (a : Aside e) (p : Pen) (before after : List ℕ) (inside : p.at ≤ length before) (within : p.kept ≤ length kept) where
  over-turn : {q : Pen} → p.kept ≡ length kept → q ≡ p → after ≡ before → EntryOn m ix set kept e p before q after
  over-turn {q = q} h i j =
      let z : kept_list (drop p.kept kept) ≡ some [] = kept-nil (drop p.kept kept) (simp length-drop (omega arith)) in
      rw (i, j)
      (record {
        leads = λ ps. rw (z, left_over m ix set e a ps p.place) leads-begun;
        inside = within;
        room = inside;
      })

  pub aside-turn : (r : Answered Pen) → NextBy kept p before r after → EntryBy m ix set kept e p before r after
  aside-turn (Some q) (over-all h i j) = over-turn h i j
  aside-turn (Some q) (next_one k) =
      record {
        leads = λ ps. rw (k.place, k.rest, left-kept m ix set e a k.element ps p.place (kept_list (drop q.kept kept))) (leads-on (left_by m ix set ps p.place (kept_list (drop q.kept kept))) leads-begun k.holds);
        inside = k.inside;
        room = (held k.holds).room;
      }
  aside-turn None (malformed z) = λ ps. none-not (length before) p.at (rw z (left-none m ix set (put e ps) p.place))
  aside-turn None (too_long x o s l) = λ ps. rw (s, left-kept m ix set e a x ps p.place o) (put-stop (length before) p.at (some x) (left_by m ix set ps p.place o) (long-not (length before) p.at refl l))

-- ---- a known entry

-- a place is in its turn where it is named, and where none came before it
module _ (k c set : ℕ) where
  pub named-turn : bit k set ≡ true → (ltb k c && not (bit k set)) ≡ false
  named-turn e = rw e (and-false (ltb k c))

  pub above-turn : c ≤ k → (ltb k c && not (bit k set)) ≡ false
  above-turn h = rw (le-ltb k c h)

-- a place of an index is an octet
get_d-below : (ix : List ℕ) (i : ℕ) → get_or ix i 0 < 256 → get_or ix i no_place < 256
get_d-below [] i h = omega arith
get_d-below (x ∷ xs) zero h = h
get_d-below (x ∷ xs) (suc i) h = get_d-below xs i h

pub place-below : (ix : List ℕ) (i : ℕ) {k : ℕ} → get_or ix i 0 < 256 → place_in ix i ≡ some k → k < 256
unfolding place_in
place-below ix i {k = k} h e = by (eqb (get_or ix i no_place) no_place) e
  where
    by : (b : Bool) → pick b none (some (get_or ix i no_place)) ≡ some k → k < 256
    by true f = let z : ◌≡◌ {A = ℕ} 0 1 = cc in absurd (omega arith)
    by false f = let z : get_or ix i no_place ≡ k = cc in omega (arith, get_d-below ix i h)

module _ (m : Lent) (ix : List ℕ) (set i : ℕ) (p : Pen) (before : List ℕ) where
  pub nowhere-turn : p.at ≤ length before → place_in ix i ≡ none → KnownOn m ix set i p before p before
  nowhere-turn h e = record { leads = λ ps ks. rw (left-nowhere m ix set i p.place e ps ks) leads-begun; kept = refl; room = h }

  module _ {k : ℕ} (e : place_in ix i ≡ some k) where
    pub lower-not : k < p.place → bit k set ≡ false → (ps : Option (List Placed)) (ks : Option (List (List ℕ))) → held_to (length before) p.at (left_by m ix set (put (known_iei i) ps) p.place ks) ≡ None
    lower-not h b ps ks = none-not (length before) p.at (left-lower m ix set i p.place e h b ps ks)

    -- a place that none came before, or that is named
    abbrev pub InTurn : Type 0
    InTurn = (ltb k p.place && not (bit k set)) ≡ false

    module _ (h : InTurn) where
      pub between-not : {mid : List ℕ} → PutBy (unnamed m set p.place (k - p.place)) p.at before None mid → (ps : Option (List Placed)) (ks : Option (List (List ℕ)))
          → held_to (length before) p.at (left_by m ix set (put (known_iei i) ps) p.place ks) ≡ None
      between-not b ps ks =
          rw (left-known m ix set i p.place e h ps ks)
          (put-stop (length before) p.at (unnamed m set p.place (k - p.place)) (joined (piece_by m k i) (left_by m ix set ps (max p.place (suc k)) ks)) (sym b.answers))

      module _ {at : ℕ} {mid : List ℕ} (b : PutBy (unnamed m set p.place (k - p.place)) p.at before (Some at) mid) where
        pub known-not : {after : List ℕ} → PutBy (piece_by m k i) at mid None after → (ps : Option (List Placed)) (ks : Option (List (List ℕ)))
            → held_to (length before) p.at (left_by m ix set (put (known_iei i) ps) p.place ks) ≡ None
        known-not {after = after} l ps ks =
            let rest : Option (List ℕ) = left_by m ix set ps (max p.place (suc k)) ks in
            rw (left-known m ix set i p.place e h ps ks)
            (sym (put_then_lem b (joined (piece_by m k i) rest) (put-not {after = after} (put-stop (length mid) at (piece_by m k i) rest (sym l.answers)))).answers)

        pub known-turn : {next place : ℕ} {after : List ℕ} → place ≡ max p.place (suc k) → PutBy (piece_by m k i) at mid (Some next) after
            → KnownOn m ix set i p before (record { at = next; kept = p.kept; place = place }) after
        known-turn {place = place} z l =
            record {
              leads = λ ps ks. leads-on (left_by m ix set ps place ks) (leads-on (joined (piece_by m k i) (left_by m ix set ps place ks)) (leads-as (rw (sym z) at (left-known m ix set i p.place e h ps ks)) leads-begun) b) l;
              kept = refl;
              room = omega (arith, (held l).room, held-long b);
            }

  -- as an entry
  pub known_by : (kept after : List ℕ) → p.kept ≤ length kept → (r : Answered Pen) → KnownBy m ix set i p before r after → EntryBy m ix set kept (known_iei i) p before r after
  known_by kept after h (Some q) k = record { leads = λ ps. rw k.kept (k.leads ps (kept_list (drop p.kept kept))); inside = omega (arith, k.kept); room = k.room }
  known_by kept after h None n = λ ps. n ps (kept_list (drop p.kept kept))

-- ---- the whole log

module _ (m : Lent) (ix : List ℕ) (set : ℕ) (order kept before : List ℕ) where
  abbrev whole : Option (List ℕ)
  whole = left_by m ix set (order_list order) 0 (kept_list kept)

  pub passing-begun : Passing m ix set order kept before (order_list (drop 0 order)) (record { at = 0; kept = 0; place = 0 }) before
  passing-begun = record { leads = leads-begun; inside = omega arith; room = omega arith; long = refl }

  module _ {o : Option (List Placed)} {p : Pen} {mid : List ℕ} (l : Passing m ix set order kept before o p mid) where
    pub passing-on : (e : Placed) (o' : Option (List Placed)) → o ≡ put e o' → {q : Pen} {after : List ℕ} → length after ≡ length mid → EntryOn m ix set kept e p mid q after → Passing m ix set order kept before o' q after
    passing-on e o' s {q = q} long t =
        record {
          leads = λ r after x. l.leads r after (rw s (t.leads o' r after x));
          inside = t.inside;
          room = omega (arith, t.room, l.long);
          long = long ∙ l.long;
        }

    pub passing-not : held_to (length mid) p.at (left_by m ix set o p.place (kept_list (drop p.kept kept))) ≡ None → held_to (length before) 0 whole ≡ None
    passing-not n = sym (l.leads None mid (put-not n)).answers

    pub passing-stopped : o ≡ none → held_to (length before) 0 whole ≡ None
    unfolding left_by
    passing-stopped e = passing-not (none-not (length mid) p.at (rw e))

    pub passing-as : {o' : Option (List Placed)} → o ≡ o' → Passing m ix set order kept before o' p mid
    passing-as e = rw e at l

  -- behind the log there is the rest
  pub passing-end : {p : Pen} {mid : List ℕ} → Passing m ix set order kept before (some []) p mid → {r : Answered ℕ} {after : List ℕ} → PutBy (rest_by m set kept p) p.at mid r after → PutBy whole 0 before r after
  passing-end {p = p} l {r = r} {after = after} = leads-as (left_end m ix set p.place (kept_list (drop p.kept kept))) l.leads r after

-- by the places that the log names
pub by_names : (m : Lent) (ix order kept : List ℕ) {set n : ℕ} → set ≡ names ix m.rows order n → n ≡ length (rows_of m.table) → left_by m ix set (order_list order) 0 (kept_list kept) ≡ passed_by m ix order kept
unfolding passed_by
by_names m ix order kept e z = rw (e, z)
