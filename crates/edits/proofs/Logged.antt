-- The rows beside the order log, an entry at a time, with the IEI of a wanted place: the earliest that the log gives it, or its first.
-- The first entry of the wanted place gives its IEI; later ones, and those of other places, change nothing.
use Prim.Native.Nat.{ℕ, ◌+◌, ◌^◌, ◌≤◌, ◌<◌}
use native.Mathlib.Omega.{arith}
use native.Mathlib.Nat.{div-add-mod'}
use mathlib.Core.Path.{◌≡◌, refl, ap, sym, ◌∙◌}
use mathlib.Core.List.{List, [], ◌∷◌}
use mathlib.Core.Bool.{Bool, true, false, ◌&&◌, ◌||◌, not, true≢false, false≢true}
use mathlib.Core.Option.{Option, none, some}
use borrow.Author.Tests.{lt-ltb, eqb-true, eqb-false, ne_eqb}
use lib.ListN.{length, drop}
use lib.Dec.{eqb}
use Rattle.definitions.specs.Basic.{pick, is_none, bit}
use Rattle.definitions.specs.Rows.{Row, rows_of, first_iei, first_bad, place_of, place_in}
use Rattle.definitions.specs.Elements.{including}
use Rattle.definitions.specs.Logs.{Placed, known_iei, not_known, ignored, Reason, order_entry, order_list, or_empty, iei_for}
use Rattle.definitions.proofs.BitLaws.{bit-including}
use Rattle.definitions.proofs.Orders.{order_front}
use Rattle.definitions.proofs.RowLaws.{listed}
use Rattle.definitions.proofs.TableLaws.{few-places, index-place}
use Rattle.definitions.proofs.LogSteps.{OrderAt, order_from, order-next, order-over}
use Rattle.seen.specs.Seen.{set_of, seen_of, including_place}
use Rattle.seen.specs.declared.Seen.{Seen}
use Rattle.agreement.specs.Agreed.{apart_by, known_set, entry_set, entry_apart, Agreeing}
use Rattle.agreement.proofs.Agreeing.{no-bit, agreeing-begun, agreeing-step, its-iei}
use Rattle.edits.specs.Logged.{Tabled, known_wanted, entry_wanted, AgreedWith, Agrees}
use Rattle.edits.specs.declared.log.Agreed.{Agreed}

-- a log that is not malformed
pub order-stands : (order : List ℕ) → is_none (order_list order) ≡ false → OrderAt order 0
unfolding order_from or_empty is_none
order-stands order e = record { inside = omega arith; formed = by (order_list order) e }
  where
    by : (o : Option (List Placed)) → is_none o ≡ false → o ≡ some (or_empty o)
    by none h = absurd (true≢false h)
    by (some ps) h = refl

-- ---- an entry

pub place_found : (table entries : List ℕ) (iei : ℕ) → Tabled table entries → iei < 256 → place_in entries iei ≡ place_of (rows_of table) iei
place_found table entries iei t h = ap (λ (x : List ℕ). place_in x iei) t.indexed ∙ index-place (rows_of table) t.passes iei h

pub place-low : (t : List Row) (iei k : ℕ) → first_bad t ≡ none → place_of t iei ≡ some k → k < 128
place-low t iei k p e = omega (arith, (listed t iei k p e).inside, few-places t p)

set-with : (s : Seen) (k : ℕ) {r : Seen} → k < 128 → r ≡ seen_of (including_place k (set_of s)) → set_of r ≡ including k (set_of s)
unfolding including_place
set-with s k h e = ap set_of e ∙ div-add-mod' _ (2 ^ 64) ∙ rw (lt-ltb k 128 h)

module _ (t : List Row) (rows : List ℕ) (want : ℕ) (a : Agreed) where
  pub with-known : (iei k : ℕ) {s : Seen} {b : Bool} {i : ℕ} → place_of t iei ≡ some k → k < 128 → s ≡ seen_of (including_place k (set_of a.seen))
      → b ≡ (a.apart || apart_by rows (set_of a.seen) k iei) → i ≡ pick (eqb k want && not (bit k (set_of a.seen))) iei a.iei
      → AgreedWith t rows want (known_iei iei) a (record { seen = s; apart = b; iei = i })
  unfolding entry_set entry_apart entry_wanted
  with-known iei k e h s b i = record { set_is = rw e (set-with a.seen k h s); apart-is = rw e b; iei-is = rw e i }

  pub with-unknown : AgreedWith t rows want not_known a a
  unfolding entry_set entry_apart entry_wanted
  with-unknown = record { set_is = refl; apart-is = refl; iei-is = refl }

  pub with-ignored : (r : Reason) → AgreedWith t rows want (ignored r) a a
  unfolding entry_set entry_apart entry_wanted
  with-ignored r = record { set_is = refl; apart-is = refl; iei-is = refl }

  pub with-nowhere : (iei : ℕ) → place_of t iei ≡ none → AgreedWith t rows want (known_iei iei) a a
  unfolding entry_set entry_apart entry_wanted
  with-nowhere iei e = record { set_is = rw e; apart-is = rw e; iei-is = rw e }

-- ---- the whole log

module _ (t : List Row) (rows : List ℕ) (want : ℕ) (order : List ℕ) where
  abbrev all : List Placed
  all = or_empty (order_list order)

  pub record Walking (at : ℕ) (a : Agreed) : Type 0 where
    pub here : OrderAt order at
    pub agrees : Agrees t rows want all (order_from order at) a

  pub walking-begun : OrderAt order 0 → Walking 0 (record { seen = record { low = 0; high = 0 }; apart = false; iei = first_iei t want })
  unfolding order_from
  walking-begun h =
      record { here = h; agrees = record { rows_agree = agreeing-begun t rows all; was-seen = λ b. absurd (false≢true (sym (no-bit want) ∙ b)); not_seen = λ b. refl } }

  module _ (passes : first_bad t ≡ none) where
    -- the wanted place with an entry more
    module _ (i j : ℕ) (e : place_of t i ≡ some j) (left : List Placed) (set iei : ℕ) (apart' : Bool) (g : Agreeing t rows all (known_iei i ∷ left) set apart')
        (seen : bit want set ≡ true → iei ≡ iei_for t all want) (not_seen : bit want set ≡ false → iei ≡ first_iei t want) where
      abbrev new : ℕ
      new = pick (eqb j want && not (bit j set)) i iei

      seen' : bit want (including j set) ≡ true → new ≡ iei_for t all want
      seen' b = by (eqb j want) refl (bit j set) refl
        where
          by : (x : Bool) → eqb j want ≡ x → (y : Bool) → bit j set ≡ y → pick (x && not y) i iei ≡ iei_for t all want
          by true p true q = seen (rw (eqb-true j want p) at q)
          by true p false q = rw (eqb-true j want p) at (sym (its-iei t rows all passes left set apart' i j e g q))
          by false p y q =
              let z : eqb want j ≡ false = ne_eqb want j (λ r. eqb-false j want p (sym r)) in
              seen (sym (bit-including want j set ∙ ap (λ (w : Bool). w || bit want set) z) ∙ b)

      not-seen' : bit want (including j set) ≡ false → new ≡ first_iei t want
      not-seen' b = by (eqb want j) refl (sym (bit-including want j set) ∙ b)
        where
          by : (x : Bool) → eqb want j ≡ x → (x || bit want set) ≡ false → new ≡ first_iei t want
          by true p h = absurd (true≢false h)
          by false p h = let z : eqb j want ≡ false = ne_eqb j want (λ r. eqb-false want j p (sym r)) in rw z (not_seen h)

    agrees-step : (p : Placed) (left : List Placed) {a r : Agreed} → Agrees t rows want all (p ∷ left) a → AgreedWith t rows want p a r → Agrees t rows want all left r
    unfolding entry_set entry_wanted
    agrees-step p left {a = a} {r = r} g w =
        record {
          rows_agree = rw (w.set_is, w.apart-is) (agreeing-step t rows all passes left (set_of a.seen) a.apart p g.rows_agree);
          was-seen = λ b. w.iei-is ∙ was p g.rows_agree (sym (ap (bit want) w.set_is) ∙ b);
          not_seen = λ b. w.iei-is ∙ was-not p g.rows_agree (sym (ap (bit want) w.set_is) ∙ b);
        }
      where
        was : (p : Placed) → Agreeing t rows all (p ∷ left) (set_of a.seen) a.apart → bit want (entry_set t p (set_of a.seen)) ≡ true → entry_wanted t want p (set_of a.seen) a.iei ≡ iei_for t all want
        was (known_iei i) q b = by (place_of t i) refl b
          where
            by : (o : Option ℕ) → place_of t i ≡ o → bit want (known_set (set_of a.seen) o) ≡ true → known_wanted want (set_of a.seen) i a.iei o ≡ iei_for t all want
            by none e b = g.was-seen b
            by (some j) e b = seen' i j e left (set_of a.seen) a.iei a.apart q g.was-seen g.not_seen b
        was not_known q b = g.was-seen b
        was (ignored r) q b = g.was-seen b

        was-not : (p : Placed) → Agreeing t rows all (p ∷ left) (set_of a.seen) a.apart → bit want (entry_set t p (set_of a.seen)) ≡ false → entry_wanted t want p (set_of a.seen) a.iei ≡ first_iei t want
        was-not (known_iei i) q b = by (place_of t i) refl b
          where
            by : (o : Option ℕ) → place_of t i ≡ o → bit want (known_set (set_of a.seen) o) ≡ false → known_wanted want (set_of a.seen) i a.iei o ≡ first_iei t want
            by none e b = g.not_seen b
            by (some j) e b = not-seen' i j e left (set_of a.seen) a.iei a.apart q g.was-seen g.not_seen b
        was-not not_known q b = g.not_seen b
        was-not (ignored r) q b = g.not_seen b

    pub walking-step : (at : ℕ) (a : Agreed) → Walking at a → (h : at < length order) {p : Placed} {r : Agreed} → order_front (drop at order) ≡ some p → AgreedWith t rows want p a r
        → Walking (at + length (order_entry p)) r
    walking-step at a l h {p = p} e s =
        let n = order-next order at h l.here e in
        record { here = n.1; agrees = agrees-step p (order_from order (at + length (order_entry p))) (rw n.0 at l.agrees) s }

  pub walking-ended : (at : ℕ) (a : Agreed) → Walking at a → length order ≤ at → Agrees t rows want all [] a
  walking-ended at a l h = rw (order-over order at h) at l.agrees

  -- ---- what it says

  module _ (a : Agreed) (g : Agrees t rows want all [] a) where
    pub its_own : a.iei ≡ iei_for t all want
    unfolding iei_for
    its_own = by (bit want (set_of a.seen)) refl
      where
        by : (b : Bool) → bit want (set_of a.seen) ≡ b → a.iei ≡ iei_for t all want
        by true e = g.was-seen e
        by false e = g.not_seen e ∙ g.rows_agree.ahead want e
