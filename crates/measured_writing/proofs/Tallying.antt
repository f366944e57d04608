-- The order log measured an entry at a time: with what is left the tally is that of the whole log.
-- Each step moves an entry from what is left into the tally; a log that is malformed further on is malformed.
use Prim.Native.Nat.{ℕ, zero, suc, ◌+◌, ◌*◌, ◌^◌, ◌≤◌, ◌<◌}
use native.Mathlib.Omega.{arith}
use native.Mathlib.Nat.{div-add-mod'}
use mathlib.Core.Path.{◌≡◌, refl, ap, sym, ◌∙◌}
use mathlib.Core.List.{List, [], ◌∷◌}
use mathlib.Core.Bool.{Bool, true, false, ◌||◌, false≢true}
use mathlib.Core.Option.{Option, none, some}
use borrow.Author.Tests.{lt-ltb, ltb-true, ltb-false}
use lib.ListN.{length, get_or, drop, length-drop}
use lib.Seq.{get_or-drop}
use lib.Dec.{eqb, ltb}
use Rattle.definitions.specs.Basic.{pick, bit, among, is_none}
use Rattle.definitions.specs.Rows.{Row, form, row_at, rows_of, first_bad, place_of, place_in}
use Rattle.definitions.specs.Elements.{including}
use Rattle.definitions.specs.Values.{value_at, present, octets_at}
use Rattle.definitions.specs.Logs.{Placed, known_iei, not_known, ignored, Reason, put, order_list, order_entry, or_empty}
use Rattle.definitions.specs.Writing.{Filled, encoded, element_at, logged}
use Rattle.definitions.proofs.BitLaws.{bit-including}
use Rattle.definitions.proofs.Orders.{order_front, order-nil, aside_by, front-aside}
use Rattle.definitions.proofs.RowLaws.{listed}
use Rattle.definitions.proofs.TableLaws.{few-places, index-place}
use Rattle.definitions.proofs.WriteLaws.{logged_length}
use Rattle.definitions.proofs.LogSteps.{OrderAt, order_from, order-split, order-next, order-never, order-over}
use Rattle.seen.specs.Seen.{set_of, seen_of, including_place}
use Rattle.seen.specs.declared.Seen.{Seen}
use Rattle.agreement.specs.Agreed.{known_set, entry_set, entry_apart, Agreeing}
use Rattle.agreement.proofs.Agreeing.{no-bit, agreeing-begun, agreeing-step}
use Rattle.measured_writing.specs.Added.{IndexIs}
use Rattle.measured_writing.specs.Sizes.{place_length, most_ie, known_length, entry_length, Tallied, Tells, found_by, LoggedBy, AsidesAre}
use Rattle.measured_writing.specs.declared.sizes.Tally.{Tally}
use Rattle.measured_writing.proofs.Places.{encoded-length}
use Rattle.measured_writing.proofs.Asides.{aside-cases, aside-octet}

-- ---- an entry

-- what an index says of an IEI is what the table says
pub place_found : (table entries : List ℕ) (iei : ℕ) → first_bad (rows_of table) ≡ none → IndexIs table entries → iei < 256 → place_in entries iei ≡ place_of (rows_of table) iei
place_found table entries iei p e h = ap (λ (x : List ℕ). place_in x iei) e ∙ index-place (rows_of table) p iei h

pub place-low : (t : List Row) (iei k : ℕ) → first_bad t ≡ none → place_of t iei ≡ some k → (k < length t) × (length t ≤ 128)
place-low t iei k p e = ((listed t iei k p e).inside, few-places t p)

-- the set with a place in it
set-of : (n : ℕ) → set_of (seen_of n) ≡ n
set-of n = div-add-mod' n (2 ^ 64)

pub set-with : (s : Seen) (k : ℕ) {r : Seen} → k < 128 → r ≡ seen_of (including_place k (set_of s)) → set_of r ≡ including k (set_of s)
unfolding including_place
set-with s k h e = ap set_of e ∙ set-of _ ∙ rw (lt-ltb k 128 h)

-- and its bits
pub bits-with : (s : Seen) (k : ℕ) → k < 128 → (j : ℕ) → bit j (set_of (seen_of (including_place k (set_of s)))) ≡ (eqb j k || bit j (set_of s))
bits-with s k h j = ap (bit j) (set-with s k h refl) ∙ bit-including j k (set_of s)

module _ (m : Filled) where
  -- an element is as long under one IEI as under another
  pub any-iei : (k iei : ℕ) → length (element_at m k iei) ≡ place_length m k
  unfolding element_at place_length
  any-iei k iei = by (present (value_at m.rows k))
    where
      s : List ℕ
      s = octets_at m.octets (value_at m.rows k)

      by : (b : Bool) → length (pick b (encoded (form (row_at m.table k)) iei s) []) ≡ length (pick b (encoded (form (row_at m.table k)) 0 s) [])
      by true = encoded-length (form (row_at m.table k)) iei s ∙ sym (encoded-length (form (row_at m.table k)) 0 s)
      by false = refl

  logged-known : (i : ℕ) (o : Option ℕ) (n : ℕ) → elim o [ none ↦ n | some k ↦ length (element_at m k i) + n ] ≡ known_length m o + n
  logged-known i none n = omega arith
  logged-known i (some k) n = ap (λ (j : ℕ). j + n) (any-iei k i)

  logged-more : (p : Placed) (ps : List Placed) → logged_length m (p ∷ ps) ≡ entry_length m p + logged_length m ps
  unfolding logged_length entry_length
  logged-more (known_iei i) ps = logged-known i (place_of m.table i) (logged_length m ps)
  logged-more not_known ps = omega arith
  logged-more (ignored r) ps = omega arith

  -- with an entry more
  pub tallied-known : (t : Tally) (iei k : ℕ) {n : ℕ} {s : Seen} → place_of m.table iei ≡ some k → k < 128 → n ≡ place_length m k → n ≤ most_ie
      → s ≡ seen_of (including_place k (set_of t.seen)) → Tallied m (known_iei iei) t (record { octets = t.octets + n; seen = s })
  unfolding entry_length entry_set
  tallied-known t iei k e h a b c =
      record { octets = rw e (ap (λ (n : ℕ). t.octets + n) a); few = omega arith; set = rw e (set-with t.seen k h c) }

  pub tallied-nowhere : (t : Tally) (iei : ℕ) → place_of m.table iei ≡ none → Tallied m (known_iei iei) t t
  unfolding entry_length entry_set
  tallied-nowhere t iei e = let z : t.octets ≡ t.octets + 0 = omega arith in record { octets = rw e z; few = omega arith; set = rw e }

  tallied-unknown : (t : Tally) → Tallied m not_known t t
  unfolding entry_length entry_set
  tallied-unknown t = record { octets = omega arith; few = omega arith; set = refl }

  tallied-ignored : (t : Tally) (r : Reason) → Tallied m (ignored r) t t
  unfolding entry_length entry_set
  tallied-ignored t r = record { octets = omega arith; few = omega arith; set = refl }

or-moved : (e a b : Bool) → ((e || a) || b) ≡ (a || (e || b))
or-moved true true b = refl
or-moved true false b = refl
or-moved false a b = refl

places-known : (o : Option ℕ) (js : List ℕ) (j set : ℕ) → (among j (elim o [ none ↦ js | some k ↦ k ∷ js ]) || bit j set) ≡ (among j js || bit j (known_set set o))
unfolding among
places-known none js j set = refl
places-known (some k) js j set = or-moved (eqb j k) (among j js) (bit j set) ∙ ap (λ (b : Bool). among j js || b) (sym (bit-including j k set))

places-more : (t : List Row) (p : Placed) (ps : List Placed) (j set : ℕ) → (among j (logged t (p ∷ ps)) || bit j set) ≡ (among j (logged t ps) || bit j (entry_set t p set))
unfolding logged entry_set
places-more t (known_iei i) ps j set = places-known (place_of t i) (logged t ps) j set
places-more t not_known ps j set = refl
places-more t (ignored r) ps j set = refl

-- ---- the order log

pub record Logging (m : Filled) (order : List ℕ) (at : ℕ) (t : Tally) (apart : Bool) : Type 0 where
  pub here : OrderAt order at
  pub few : t.octets ≤ most_ie * at
  pub tells : Tells m order t.octets (set_of t.seen) (order_from order at)
  pub agrees : Agreeing m.table m.rows tells.ps (order_from order at) (set_of t.seen) apart

module _ (m : Filled) (order : List ℕ) where
  logging-begun : OrderAt order 0 → Logging m order 0 (record { octets = 0; seen = seen_of 0 }) false
  logging-begun l =
      record {
        here = l;
        few = omega arith;
        tells = record { ps = order_from order 0; is = l.formed; sum = omega arith; places = λ k. nothing k (among k (logged m.table (order_from order 0))) };
        agrees = agreeing-begun m.table m.rows (order_from order 0);
      }
    where
      or-false : (b : Bool) → (b || false) ≡ b
      or-false true = refl
      or-false false = refl

      nothing : (k : ℕ) (b : Bool) → (b || bit k 0) ≡ b
      nothing k b = ap (λ (x : Bool). b || x) (no-bit k) ∙ or-false b

  module _ (at : ℕ) (t : Tally) (apart : Bool) (l : Logging m order at t apart) where
    logging-step : first_bad m.table ≡ none → (h : at < length order) {p : Placed} {r : Tally} {x : Bool} → order_front (drop at order) ≡ some p → Tallied m p t r
        → x ≡ entry_apart m.table m.rows p (set_of t.seen) apart → Logging m order (at + length (order_entry p)) r x
    logging-step passes h {p = p} {r = r} e s y =
        let n = order-next order at h l.here e in
        let b = stepped n.0 l.tells l.agrees in
        let g = b.0 in
        let qs = order_from order (at + length (order_entry p)) in
        record {
          here = n.1;
          few = omega (arith, (order-split order at h e).octet, s.few, l.few);
          tells = record {
            ps = g.ps;
            is = g.is;
            sum = omega (arith, s.octets, logged-more m p qs, g.sum);
            places = λ k. ap (λ (n : ℕ). among k (logged m.table qs) || bit k n) s.set ∙ sym (places-more m.table p qs k (set_of t.seen)) ∙ g.places k;
          };
          agrees = rw (s.set, y) (agreeing-step m.table m.rows g.ps passes qs (set_of t.seen) apart p b.1);
        }
      where
        stepped :
            {left left' : List Placed} → left ≡ left' → (g : Tells m order t.octets (set_of t.seen) left) → Agreeing m.table m.rows g.ps left (set_of t.seen) apart
            → (g : Tells m order t.octets (set_of t.seen) left') × Agreeing m.table m.rows g.ps left' (set_of t.seen) apart
        stepped e g a = (record { ps = g.ps; is = g.is; sum = rw e at g.sum; places = rw e at g.places }, rw e at a)

    logging-ended : length order ≤ at → LoggedBy m order (found_by t apart)
    logging-ended h =
        let e : at ≡ length order = omega (arith, l.here.inside) in
        let o = order-over order at h in
        record {
          few = rw e at l.few;
          tells = record { ps = l.tells.ps; is = l.tells.is; sum = rw o at l.tells.sum; places = rw o at l.tells.places };
          agrees = rw o at l.agrees;
        }

-- ---- an order log of which it is not known yet whether it is well formed

put-none : {X : Type 0} (x : X) (o : Option (List X)) → put x o ≡ none → o ≡ none
unfolding put is_none
put-none x none e = refl
put-none x (some xs) e = absurd (false≢true (ap is_none e))

abbrev pub ByLog : Filled → List ℕ → ℕ → Tally → Bool → Option (List Placed) → Type 0
ByLog m order at t apart (some ps) = Logging m order at t apart
ByLog m order at t apart none = order_list (drop at order) ≡ none

pub record Walking (m : Filled) (order : List ℕ) (at : ℕ) (t : Tally) (apart : Bool) : Type 0 where
  pub inside : at ≤ length order
  pub few : t.octets ≤ most_ie * at
  pub by-log : ByLog m order at t apart (order_list order)

module _ (m : Filled) (order : List ℕ) where
  pub walking-begun : Walking m order 0 (record { octets = 0; seen = seen_of 0 }) false
  unfolding order_from or_empty
  walking-begun = record { inside = omega arith; few = omega arith; by-log = by (order_list order) refl }
    where
      by : (o : Option (List Placed)) → order_list order ≡ o → ByLog m order 0 (record { octets = 0; seen = seen_of 0 }) false o
      by (some ps) e = logging-begun m order (record { inside = omega arith; formed = e ∙ ap (λ (o : Option (List Placed)). some (or_empty o)) (sym e) })
      by none e = e

  module _ (at : ℕ) (t : Tally) (apart : Bool) (w : Walking m order at t apart) where
    pub walking-step : first_bad m.table ≡ none → (h : at < length order) {p : Placed} {r : Tally} {x : Bool} → order_front (drop at order) ≡ some p → Tallied m p t r
        → x ≡ entry_apart m.table m.rows p (set_of t.seen) apart → Walking m order (at + length (order_entry p)) r x
    walking-step passes h {p = p} {r = r} {x = x} e s y =
        let l = order-split order at h e in
        record { inside = l.within; few = omega (arith, l.octet, s.few, w.few); by-log = by (order_list order) w.by-log }
      where
        by : (o : Option (List Placed)) → ByLog m order at t apart o → ByLog m order (at + length (order_entry p)) r x o
        by (some ps) g = logging-step m order at t apart g passes h e s y
        by none g = put-none p (order_list (drop (at + length (order_entry p)) order)) (sym (order-split order at h e).splits ∙ g)

    pub walking-stopped : (h : at < length order) → order_front (drop at order) ≡ none → order_list order ≡ none
    walking-stopped h e = by (order_list order) w.by-log
      where
        by : (o : Option (List Placed)) → ByLog m order at t apart o → o ≡ none
        by (some ps) g = absurd (order-never order at h g.here e)
        by none g = refl

    pub walking-ended : length order ≤ at → LoggedBy m order (found_by t apart)
    unfolding is_none
    walking-ended h = by (order_list order) w.by-log
      where
        by : (o : Option (List Placed)) → ByLog m order at t apart o → LoggedBy m order (found_by t apart)
        by (some ps) g = logging-ended m order at t apart g h
        by none g = absurd (false≢true (ap is_none (sym (order-nil (drop at order) (simp length-drop (omega arith))) ∙ g)))

-- ---- a run of entries of no known element

pub asides-more : (order : List ℕ) (n : ℕ) → AsidesAre order n → 1 ≤ get_or order n 0 → get_or order n 0 ≤ 4 → AsidesAre order (n + 1)
asides-more order n f g h j k = by (ltb j n) refl
  where
    by : (b : Bool) → ltb j n ≡ b → (1 ≤ get_or order j 0) × (get_or order j 0 ≤ 4)
    by true e = f j (ltb-true j n e)
    by false e = let l = ltb-false j n e in let z : j ≡ n = omega arith in rw z (g, h)

-- each is an octet, and changes nothing
pub record Idle (m : Filled) (p : Placed) : Type 0 where
  pub tally : (t : Tally) → Tallied m p t t
  pub apart : (set : ℕ) (x : Bool) → entry_apart m.table m.rows p set x ≡ x

pub idle-unknown : (m : Filled) → Idle m not_known
unfolding entry_apart
idle-unknown m = record { tally = tallied-unknown m; apart = λ set x. refl }

pub idle-ignored : (m : Filled) (r : Reason) → Idle m (ignored r)
unfolding entry_apart
idle-ignored m r = record { tally = λ t. tallied-ignored m t r; apart = λ set x. refl }

idle : (m : Filled) (x : ℕ) → Idle m (aside_by x)
idle m = aside-cases (Idle m) (idle-unknown m) (idle-ignored m)

module _ (m : Filled) (order : List ℕ) (t : Tally) (apart : Bool) (passes : first_bad m.table ≡ none) where
  pub walking_run : (n at : ℕ) → Walking m order at t apart → at + n ≤ length order → AsidesAre (drop at order) n → Walking m order (at + n) t apart
  walking_run zero at w h g = let z : at + 0 ≡ at = omega arith in rw z w
  walking_run (suc n) at w h g =
      let x : ℕ = get_or (drop at order) 0 0 in
      let l : at < length order = omega arith in
      let b = g 0 (omega arith) in
      let i = idle m x in
      let f = front-aside (drop at order) x (simp length-drop (omega arith)) refl b.0 b.1 in
      let one = walking-step m order at t apart w passes l f (i.tally t) (sym (i.apart (set_of t.seen) apart)) in
      let more : AsidesAre (drop (at + 1) order) n = λ j k. let z : at + 1 + j ≡ at + suc j = omega arith in
      rw (get_or-drop (at + 1) order j 0, z, ← get_or-drop at order (suc j) 0) (g (suc j) (omega arith)) in
      let z : at + 1 + n ≡ at + suc n = omega arith in
      rw z at (walking_run n (at + 1) (rw (aside-octet x) at one) (omega arith) more)
