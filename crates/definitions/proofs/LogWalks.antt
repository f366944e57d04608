-- A walk over a log of either kind, an entry at a time: what is told from the next entry on is what was told from this one on.
-- By the order of the wanted number and the entries passed. Then a push, which leaves what the walk and its checks say.
use Prim.Native.Nat.{ℕ, suc, ◌+◌, ◌-◌, ◌≤◌, ◌<◌}
use native.Mathlib.Omega.{arith}
use mathlib.Core.Path.{◌≡◌, refl, ap, ap₂, sym, ◌∙◌}
use mathlib.Core.List.{List, [], ◌∷◌}
use mathlib.Core.Bool.{Bool, true, false}
use mathlib.Core.Option.{Option, none, some}
use borrow.Author.Tests.{lt-ltb, le-ltb, eqb-true, eqb-false, ltb-true, ltb-false}
use lib.ListN.{length, drop, length-drop}
use lib.Dec.{eqb, ltb}
use Rattle.definitions.specs.Basic.{pick, is_none, Answer, answer, Used, too_long, most_log, over_at}
use Rattle.definitions.specs.Logs.{Placed, leb128, kept_entry, put, kept_list, or_empty, kept_at, order_entry, order_list, entry_at, Logged, pushing}
use Rattle.definitions.proofs.Logs.{kept-nil, not-long, pushing-used, pushing-large, pushing-over, pushing-bad, pushing-full, pushing-done}
use Rattle.definitions.proofs.Orders.{order-nil}

-- ---- what is left of a log decides what is told of the whole

module _ {E R : Type 0} (list : List ℕ → Option (List E)) (content : List ℕ) (whole : R) where
  pub record Left (at : ℕ) (tell : Option (List E) → R) : Type 0 where
    pub inside : at ≤ length content
    pub tells : tell (list (drop at content)) ≡ whole

  pub left-begin : {tell : Option (List E) → R} → tell (list content) ≡ whole → Left 0 tell
  left-begin e = record { inside = omega arith; tells = e }

  module _ {at : ℕ} {tell : Option (List E) → R} (l : Left at tell) where
    pub left_step : {at' : ℕ} {tell' : Option (List E) → R} (e : E) → at' ≤ length content → list (drop at content) ≡ put e (list (drop at' content))
        → ((o : Option (List E)) → tell' o ≡ tell (put e o)) → Left at' tell'
    left_step {at' = at'} e h s t = record { inside = h; tells = t (list (drop at' content)) ∙ ap tell (sym s) ∙ l.tells }

    pub left-stop : list (drop at content) ≡ none → tell none ≡ whole
    left-stop e = ap tell (sym e) ∙ l.tells

    pub left_end : ((s : List ℕ) → length s ≡ 0 → list s ≡ some []) → length content ≤ at → tell (some []) ≡ whole
    left_end nil h = ap tell (sym (nil (drop at content) (simp length-drop (omega arith)))) ∙ l.tells

-- ---- the wanted entry

-- what is asked of the entry at a number, in a log that begins at a position, by what is told of one that stands at a position
pub record Asks {E : Type 0} (size : E → ℕ) (here : ℕ → E → List ℕ) (asked : ℕ → ℕ → List E → List ℕ) : Type 0 where
  pub past : (at k : ℕ) → asked at k [] ≡ []
  pub first : (at : ℕ) (e : E) (es : List E) → asked at 0 (e ∷ es) ≡ here at e
  pub next : (at k : ℕ) (e : E) (es : List E) → asked at (suc k) (e ∷ es) ≡ asked (at + size e) k es

-- a log: the list of its entries and the octets of each, what is asked of them, and what a walk says in all
pub record Log (E : Type 0) : Type 0 where
  pub list : List ℕ → Option (List E)
  pub nil : (s : List ℕ) → length s ≡ 0 → list s ≡ some []
  pub size : E → ℕ
  pub here : ℕ → E → List ℕ
  pub asked : ℕ → ℕ → List E → List ℕ
  pub asks : Asks size here asked
  pub says : ℕ → List ℕ → List ℕ

abbrev pub kept_here : ℕ → List ℕ → List ℕ
kept_here at e = (at + length (leb128 (length e))) ∷ length e ∷ []

pub kept-asks : Asks (λ e. length (kept_entry e)) kept_here kept_at
unfolding kept_at
kept-asks = record { past = λ at k. refl; first = λ at e es. refl; next = λ at k e es. refl }

abbrev pub kept_log : Log (List ℕ)
kept_log =
    record {
      list = kept_list;
      nil = kept-nil;
      size = λ e. length (kept_entry e);
      here = kept_here;
      asked = kept_at;
      asks = kept-asks;
      says = λ n found. n ∷ found;
    }

pub order-asks : Asks (λ p. length (order_entry p)) (λ at. order_entry) (λ at. entry_at)
unfolding entry_at
order-asks = record { past = λ at k. refl; first = λ at p ps. refl; next = λ at k p ps. refl }

abbrev pub order_log : Log Placed
order_log =
    record {
      list = order_list;
      nil = order-nil;
      size = λ p. length (order_entry p);
      here = λ at. order_entry;
      asked = λ at. entry_at;
      asks = order-asks;
      says = λ n found. found;
    }

module _ {E : Type 0} (log : Log E) (want : ℕ) where
  -- what a walk tells that is at a position, with so many entries passed and the wanted one found or not, by the entries left
  unfoldable pub told : ℕ → ℕ → List ℕ → Option (List E) → Option (List ℕ)
  told at count found none = none
  told at count found (some es) = some (log.says (count + length es) (pick (ltb want count) found (log.asked at (want - count) es)))

  told-passed : (at count : ℕ) (found : List ℕ) (e : E) (o : Option (List E))
      → told (at + log.size e) (count + 1) (pick (eqb count want) (log.here at e) found) o ≡ told at count found (put e o)
  unfolding told put
  told-passed at count found e none = refl
  told-passed at count found e (some es) =
      let l : count + 1 + length es ≡ count + suc (length es) = omega arith in
      ap some (ap₂ log.says l (by (eqb count want) (ltb want count) refl refl))
    where
      by : (b d : Bool) → eqb count want ≡ b → ltb want count ≡ d
          → pick (ltb want (count + 1)) (pick b (log.here at e) found) (log.asked (at + log.size e) (want - (count + 1)) es)
          ≡ pick d found (log.asked at (want - count) (e ∷ es))
      by true true x y = absurd (omega (arith, eqb-true count want x, ltb-true want count y))
      by true false x y =
          let q : count ≡ want = eqb-true count want x in
          let z : want - count ≡ 0 = omega arith in
          rw (lt-ltb want (count + 1) (omega arith), z, log.asks.first at e es)
      by false true x y = rw (lt-ltb want (count + 1) (omega (arith, ltb-true want count y)))
      by false false x y =
          let g : count < want = omega (arith, eqb-false count want x, ltb-false want count y) in
          let z : want - count ≡ suc (want - (count + 1)) = omega arith in
          rw (le-ltb want (count + 1) (omega arith), z, log.asks.next at (want - (count + 1)) e es)

  -- the invariant of a walk: each entry passed took an octet or more, and the wanted one is not found before it is passed
  pub record Walking (content : List ℕ) (at count : ℕ) (found : List ℕ) : Type 0 where
    pub few : count ≤ at
    pub not_yet : count ≤ want → found ≡ []
    pub left : Left log.list content (told 0 0 [] (log.list content)) at (told at count found)

  module _ (content : List ℕ) where
    pub begun : Walking content 0 0 []
    begun = record { few = omega arith; not_yet = λ h. refl; left = left-begin log.list content _ refl }

    module _ {at count : ℕ} {found : List ℕ} (w : Walking content at count found) where
      pub stepped : {at' count' : ℕ} {found' : List ℕ} (e : E) → at < at' → at' ≤ length content → at' ≡ at + log.size e
          → count' ≡ count + 1 → found' ≡ pick (eqb count want) (log.here at e) found
          → log.list (drop at content) ≡ put e (log.list (drop at' content)) → Walking content at' count' found'
      stepped e m h a c f s =
          record {
            few = omega (arith, w.few);
            not_yet = λ g. f ∙ later (eqb count want) refl (omega arith);
            left = left_step log.list content _ w.left e h s (rw (a, c, f) (told-passed at count found e));
          }
        where
          later : (b : Bool) → eqb count want ≡ b → count + 1 ≤ want → pick b (log.here at e) found ≡ []
          later true x g = absurd (omega (arith, eqb-true count want x))
          later false x g = w.not_yet (omega arith)

      pub stopped : log.list (drop at content) ≡ none → none ≡ told 0 0 [] (log.list content)
      unfolding told
      stopped e = left-stop log.list content _ w.left e

      pub ended : length content ≤ at → some (log.says count found) ≡ told 0 0 [] (log.list content)
      unfolding told
      ended h =
          let n : count ≡ count + 0 = omega arith in
          ap some (ap₂ log.says n (by (ltb want count) refl)) ∙ left_end log.list content _ w.left log.nil h
        where
          by : (b : Bool) → ltb want count ≡ b → found ≡ pick b found (log.asked at (want - count) [])
          by true x = refl
          by false x = w.not_yet (ltb-false want count x) ∙ sym (log.asks.past at (want - count))

  -- what a whole walk tells of a log
  pub told-bad : (o : Option (List E)) → none ≡ told 0 0 [] o → is_none o ≡ true
  unfolding told is_none
  told-bad none e = refl
  told-bad (some es) e = let z : ◌≡◌ {A = ℕ} 0 1 = cc in absurd (omega arith)

  pub record Tells (o : Option (List E)) (r : List ℕ) : Type 0 where
    pub good : is_none o ≡ false
    pub is : r ≡ log.says (length (or_empty o)) (log.asked 0 want (or_empty o))

  pub told-log : (o : Option (List E)) {r : List ℕ} → some r ≡ told 0 0 [] o → Tells o r
  unfolding told is_none or_empty
  told-log none e = let z : ◌≡◌ {A = ℕ} 0 1 = cc in absurd (omega arith)
  told-log (some es) {r = r} e =
      let z : want - 0 ≡ want = omega arith in
      let l : 0 + length es ≡ length es = omega arith in
      let t : some r ≡ some (log.says (length es) (log.asked 0 want es)) = rw (le-ltb want 0 (omega arith), z, l) at e in
      record { good = refl; is = cc }

-- ---- the answer and the log that pushing an entry leaves, at each check

module _ (u : Used) (entry : List ℕ) (large bad : Bool) (which room : ℕ) where
  abbrev pub Leaves : Answer → List ℕ → Type 0
  Leaves a l = (a ≡ (pushing u entry large bad which room).said) × (l ≡ (pushing u entry large bad which room).log)

  by : {r : Logged} → pushing u entry large bad which room ≡ r → Leaves r.said r.log
  by e = (ap (λ (l : Logged). l.said) (sym e), ap (λ (l : Logged). l.log) (sym e))

  pub push-used : too_long most_log u ≡ true → Leaves (answer 3 []) u.buffer
  push-used h = by (pushing-used u _ _ _ which room h)

  pub push-large : large ≡ true → Leaves (answer 3 []) u.buffer
  push-large h = by (pushing-large u _ _ _ which room h)

  -- n octets for the entry, as code measures it
  module _ (n : ℕ) (e : n ≡ length entry) where
    pub push-over : most_log < u.used + n → Leaves (answer 3 []) u.buffer
    push-over h = by (pushing-over u entry _ _ which room (omega arith))

    module _ (h : u.used ≤ length u.buffer) (l : large ≡ false) (g : u.used + n ≤ most_log) where
      small : too_long most_log u ≡ false
      small = not-long most_log u h (omega arith)

      pub push-bad : bad ≡ true → Leaves (answer 11 (which ∷ [])) u.buffer
      push-bad b = by (pushing-bad u entry large bad which room small l (omega arith) b)

      pub push-full : bad ≡ false → length u.buffer < u.used + n → Leaves (answer 2 (room ∷ [])) u.buffer
      push-full b f = by (pushing-full u entry large bad which room small l (omega arith) b (omega arith))

      pub push-done : bad ≡ false → u.used + n ≤ length u.buffer → Leaves (answer 0 ((u.used + n) ∷ [])) (over_at u.used entry u.buffer)
      push-done b f = rw e (by (pushing-done u entry large bad which room small l (omega arith) b (omega arith)))
