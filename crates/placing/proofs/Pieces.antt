-- Pieces put one behind the other: where each is put all are, and where one is not none is.
-- By the cases of each piece; the octets regroup.
use Prim.Native.Nat.{ℕ, zero, suc, ◌+◌, ◌-◌, ◌≤◌, ◌<◌}
use native.Mathlib.Omega.{arith}
use native.Mathlib.Numerals.{add-one}
use mathlib.Core.Path.{◌≡◌, refl, ap, ap₂, sym, ◌∙◌}
use mathlib.Core.List.{List, [], ◌++◌}
use mathlib.Core.Bool.{Bool, true, false}
use mathlib.Core.Option.{Option, none, some}
use borrow.Author.Tests.{leb-true, leb-false, le-leb, lt-leb}
use lib.ListN.{length, take, drop, length-append, length-take, length-drop}
use lib.Dec.{leb}
use borrow.Rule.Slice.PartMut.{put_mid}
use Rattle.definitions.specs.Basic.{pick, over, over_at}
use Rattle.definitions.specs.Logs.{or_empty}
use Rattle.definitions.proofs.Lists.{over-next, over_none, lent-over, length-over_at}
use Rattle.putting.proofs.Putting.{whole}
use Rattle.rows.specs.Numbers.{numbers_at}
use Rattle.std.specs.Prelude.{Option as Answered, Some, None}
use Rattle.placing.specs.Pieces.{Lent, joined, piece_by, ranged, held_to, PutBy, put_then, put_all, Leads}

-- a piece that was put is there and had room
pub record Held (piece : Option (List ℕ)) (at : ℕ) (before : List ℕ) (n : ℕ) (after : List ℕ) : Type 0 where
  pub octets : List ℕ
  pub piece_is : piece ≡ some octets
  pub behind : n ≡ at + length octets
  pub room : n ≤ length before
  pub is : after ≡ over_at at octets before

module _ {at n : ℕ} {before after : List ℕ} where
  pub held : {piece : Option (List ℕ)} → PutBy piece at before (Some n) after → Held piece at before n after
  unfolding held_to or_empty
  held {piece = none} p = let e = p.answers in let z : ◌≡◌ {A = ℕ} 0 1 = cc in absurd (omega arith)
  held {piece = some s} p = by (leb (at + length s) (length before)) refl p.answers
    where
      by : (b : Bool) → leb (at + length s) (length before) ≡ b → Some n ≡ pick b (Some (at + length s)) None → Held (some s) at before n after
      by true q e =
          let z : n ≡ at + length s = cc in
          record { octets = s; piece_is = refl; behind = z; room = omega (arith, leb-true (at + length s) (length before) q); is = p.octets n refl }
      by false q e = let z : ◌≡◌ {A = ℕ} 0 1 = cc in absurd (omega arith)

  -- a buffer keeps its length
  pub held-long : {piece : Option (List ℕ)} → PutBy piece at before (Some n) after → length after ≡ length before
  held-long p = let h = held p in ap length h.is ∙ length-over_at at h.octets before (omega (arith, h.behind, h.room))

  pub held-inside : {piece : Option (List ℕ)} → PutBy piece at before (Some n) after → n ≤ length after
  held-inside p = omega (arith, (held p).room, held-long p)

-- a piece that there is, put with room for it
pub put_some : (s : List ℕ) {at : ℕ} {before after : List ℕ} → at + length s ≤ length before → after ≡ over_at at s before → PutBy (some s) at before (Some (at + length s)) after
unfolding held_to or_empty
put_some s {at = at} {before = before} h e = record { answers = rw (le-leb (at + length s) (length before)); octets = λ n q. e }

-- nothing put
pub put-nothing : {at : ℕ} {before : List ℕ} → at ≤ length before → PutBy (some []) at before (Some at) before
put-nothing {at = at} {before = before} h =
    let z : at + length {A = ℕ} [] ≡ at = omega arith in
    rw z at (put_some [] {at = at} {before = before} (omega arith) (sym (over_none at before)))

-- a piece that is not put
pub put-not : {piece : Option (List ℕ)} {at : ℕ} {before after : List ℕ} → held_to (length before) at piece ≡ None → PutBy piece at before None after
put-not e = record { answers = sym e; octets = λ n q. let z : ◌≡◌ {A = ℕ} 0 1 = cc in absurd (omega arith) }

pub none-not : (room at : ℕ) {piece : Option (List ℕ)} → piece ≡ none → held_to room at piece ≡ None
unfolding held_to
none-not room at e = rw e

pub past-not : (room at : ℕ) (piece : Option (List ℕ)) → room < at → held_to room at piece ≡ None
unfolding held_to
past-not room at none h = refl
past-not room at (some s) h = rw (lt-leb (at + length s) room (omega arith))

pub long-not : (room at : ℕ) {piece : Option (List ℕ)} {s : List ℕ} → piece ≡ some s → room < at + length s → held_to room at piece ≡ None
unfolding held_to
long-not room at {s = s} e h = rw (e, lt-leb (at + length s) room)

-- ---- one behind the other

pub joined-none : (a : Option (List ℕ)) → joined a none ≡ none
unfolding joined
joined-none none = refl
joined-none (some s) = refl

module _ {a : Option (List ℕ)} {at mid : ℕ} {before middle : List ℕ} (p : PutBy a at before (Some mid) middle) where
  pub put_then_lem : (b : Option (List ℕ)) {r : Answered ℕ} {after : List ℕ} → PutBy b mid middle r after → PutBy (joined a b) at before r after
  unfolding joined held_to or_empty
  put_then_lem none q = rw (held p).piece_is (record { answers = q.answers; octets = λ n e. let f = q.answers in let z : ◌≡◌ {A = ℕ} 0 1 = cc in absurd (omega arith) })
  put_then_lem (some t) {r = r} {after = after} q =
      let h = held p in
      let s : List ℕ = h.octets in
      let l : length middle ≡ length before = held-long p in
      let z : mid + length t ≡ at + length (s ++ t) = omega (arith, h.behind, length-append s t) in
      let g : (n : ℕ) → r ≡ Some n → after ≡ over_at at (s ++ t) before = λ n e. q.octets n e ∙ ap₂ (λ (i : ℕ) (d : List ℕ). over_at i t d) h.behind h.is ∙ over-next at s t before (omega (arith, h.behind, h.room)) in
      rw h.piece_is (record { answers = rw (z, l) at q.answers; octets = g })

-- where the first is not put, neither are both
pub put-stop : (room at : ℕ) (a b : Option (List ℕ)) → held_to room at a ≡ None → held_to room at (joined a b) ≡ None
unfolding joined held_to
put-stop room at none b e = refl
put-stop room at (some s) none e = refl
put-stop room at (some s) (some t) e = by (leb (at + length s) room) refl e
  where
    by : (b : Bool) → leb (at + length s) room ≡ b → pick b (Some (at + length s)) None ≡ None → pick (leb (at + length (s ++ t)) room) (Some (at + length (s ++ t))) None ≡ None
    by true q f = let z : ◌≡◌ {A = ℕ} 0 1 = cc in absurd (omega arith)
    by false q f = rw (lt-leb (at + length (s ++ t)) room (omega (arith, leb-false (at + length s) room q, length-append s t)))

-- ---- what is left of a piece

module _ {piece : Option (List ℕ)} {at : ℕ} {before : List ℕ} where
  pub leads-begun : Leads piece at before piece at before
  leads-begun r after q = q

  module _ {a : Option (List ℕ)} (b : Option (List ℕ)) {at' : ℕ} {mid : List ℕ} (l : Leads piece at before (joined a b) at' mid) where
    pub leads-on : {next : ℕ} {mid' : List ℕ} → PutBy a at' mid (Some next) mid' → Leads piece at before b next mid'
    leads-on p r after q = l r after (put_then_lem p b q)

    pub leads-not : {mid' : List ℕ} → PutBy a at' mid None mid' → {after : List ℕ} → PutBy piece at before None after
    leads-not p {after = after} = l None after (put-not (put-stop (length mid) at' a b (sym p.answers)))

  -- the same of an equal piece that is left
  pub leads-as : {a b : Option (List ℕ)} {at' : ℕ} {mid : List ℕ} → a ≡ b → Leads piece at before a at' mid → Leads piece at before b at' mid
  leads-as e l = rw e at l

-- where a loop is: what is left of the whole, with the position inside the buffer
pub record Going (piece : Option (List ℕ)) (at : ℕ) (before : List ℕ) (piece' : Option (List ℕ)) (at' : ℕ) (mid : List ℕ) : Type 0 where
  pub leads : Leads piece at before piece' at' mid
  pub inside : at' ≤ length mid
  pub long : length mid ≡ length before

module _ {piece : Option (List ℕ)} {at : ℕ} {before : List ℕ} where
  pub going-begun : at ≤ length before → Going piece at before piece at before
  going-begun h = record { leads = leads-begun; inside = h; long = refl }

  pub going-as : {a b : Option (List ℕ)} {at' : ℕ} {mid : List ℕ} → a ≡ b → Going piece at before a at' mid → Going piece at before b at' mid
  going-as e g = rw e at g

  module _ {a : Option (List ℕ)} (b : Option (List ℕ)) {at' : ℕ} {mid : List ℕ} (g : Going piece at before (joined a b) at' mid) where
    pub going_on : {next : ℕ} {mid' : List ℕ} → PutBy a at' mid (Some next) mid' → Going piece at before b next mid'
    going_on p = record { leads = leads-on b g.leads p; inside = held-inside p; long = held-long p ∙ g.long }

    pub going-not : {mid' : List ℕ} → PutBy a at' mid None mid' → {after : List ℕ} → PutBy piece at before None after
    going-not p = leads-not b g.leads p

  pub going_end : {at' : ℕ} {mid : List ℕ} → Going piece at before (some []) at' mid → PutBy piece at before (Some at') mid
  going_end {at' = at'} {mid = mid} g = g.leads (Some at') mid (put-nothing g.inside)

-- octets put into what was lent of a buffer
pub put-octets : (s : List ℕ) (at : ℕ) (d : List ℕ) {ys : List ℕ} → at + length s ≤ length d → ys ≡ over (take (length (take (length d - at) (drop at d))) s) (take (length d - at) (drop at d))
    → PutBy (some s) at d (Some (at + length s)) (put_mid at (length d - at) d ys)
put-octets s at d h e = put_some s h (rw (whole s (take (length d - at) (drop at d)) (simp (length-take, length-drop) (omega arith)) e) (lent-over at s d (omega arith)))

-- ---- places one after the other

-- a place more
pub ranged-next : (m : Lent) (k to : ℕ) → k < to → ranged m k (to - k) ≡ joined (piece_by m k (numbers_at m.table k).first) (ranged m (k + 1) (to - (k + 1)))
unfolding ranged
ranged-next m k to h =
    let z : to - k ≡ suc (to - (k + 1)) = omega arith in
    rw (z, add-one)

pub ranged-over : (m : Lent) (k to : ℕ) → to ≤ k → ranged m k (to - k) ≡ some []
unfolding ranged
ranged-over m k to h = let z : to - k ≡ 0 = omega arith in rw z

-- ---- what a buffer has behind them

module _ (m : Lent) (k to at : ℕ) (d : List ℕ) where
  abbrev here : Option (List ℕ)
  here = piece_by m k (numbers_at m.table k).first

  all-next : k < to → put_all m k (to - k) at d ≡ put_then here at d (put_all m (k + 1) (to - (k + 1)))
  unfolding put_all
  all-next h = let z : to - k ≡ suc (to - (k + 1)) = omega arith in rw (z, add-one)

  abbrev rest : ℕ → List ℕ → List ℕ
  rest = put_all m (k + 1) (to - (k + 1))

  has_room : (s : List ℕ) → at + length s ≤ length d → put_then (some s) at d rest ≡ rest (at + length s) (over_at at s d)
  unfolding put_then
  has_room s h = rw (le-leb (at + length s) (length d) h)

  pub all-on : k < to → {next : ℕ} {d' : List ℕ} → PutBy here at d (Some next) d' → put_all m k (to - k) at d ≡ rest next d'
  all-on h p =
      let q = held p in
      all-next h ∙ ap (λ (o : Option (List ℕ)). put_then o at d rest) q.piece_is ∙ has_room q.octets (omega (arith, q.behind, q.room)) ∙ ap₂ rest (sym q.behind) (sym q.is)

  pub all-stop : k < to → {d' : List ℕ} → PutBy here at d None d' → put_all m k (to - k) at d ≡ d
  unfolding put_then held_to
  all-stop h p = all-next h ∙ by here p.answers
    where
      by : (o : Option (List ℕ)) → None ≡ held_to (length d) at o → put_then o at d rest ≡ d
      by none e = refl
      by (some s) e = room (leb (at + length s) (length d)) e
        where
          room : (b : Bool) → None ≡ pick b (Some (at + length s)) None → pick b (rest (at + length s) (over_at at s d)) d ≡ d
          room true f = let z : ◌≡◌ {A = ℕ} 0 1 = cc in absurd (omega arith)
          room false f = refl

  pub all-over : to ≤ k → put_all m k (to - k) at d ≡ d
  unfolding put_all
  all-over h = let z : to - k ≡ 0 = omega arith in rw z

  -- behind the end nothing is put
  pub all_past : length d < at → put_all m k (to - k) at d ≡ d
  unfolding put_all put_then
  all_past h = by (to - k)
    where
      piece : (n : ℕ) (o : Option (List ℕ)) → put_then o at d (put_all m (suc k) n) ≡ d
      piece n none = refl
      piece n (some s) = rw (lt-leb (at + length s) (length d) (omega arith))

      by : (n : ℕ) → put_all m k n at d ≡ d
      by zero = refl
      by (suc n) = piece n here
