-- Pieces laid one behind the other: a list of them as its parts are, one after the other, and with room for all as their octets at once.
-- By induction on the pieces; each is put or not.
use Prim.Native.Nat.{ℕ, ◌+◌, ◌-◌, ◌≤◌, ◌<◌}
use native.Mathlib.Omega.{arith}
use mathlib.Core.Path.{◌≡◌, refl, ap, sym, ◌∙◌}
use mathlib.Core.List.{List, [], ◌∷◌, ◌++◌, append_assoc}
use mathlib.Core.Bool.{Bool, true, false, ◌&&◌}
use borrow.Author.Tests.{leb-true, leb-false, le-leb, lt-leb}
use lib.ListN.{length, take, drop, length-append, length-take, length-drop}
use lib.Dec.{leb}
use borrow.Rule.Slice.PartMut.{put_mid, put_same}
use Rattle.definitions.specs.Basic.{pick, over, over_at, concat}
use Rattle.definitions.proofs.Lists.{over-next, over_none, lent-over, length-over_at}
use Rattle.std.specs.Prelude.{Option as Answered}
use Rattle.std.specs.Option.{unwrap_or}
use Rattle.putting.specs.Puts.{PutIf}
use Rattle.walking.specs.Walks.{Laid, laid_at, lay, laid, Lays, Going}

-- ---- a piece

module _ (s : List ℕ) (l : Laid) where
  pub lay-yes : l.at + length s ≤ length l.octets → lay s l ≡ laid_at (l.at + length s) (over_at l.at s l.octets)
  unfolding lay
  lay-yes h = rw (le-leb (l.at + length s) (length l.octets) h)

  pub lay-no : length l.octets < l.at + length s → lay s l ≡ l
  unfolding lay
  lay-no h = rw (lt-leb (l.at + length s) (length l.octets) h)

  -- the buffer keeps its length, and the position stays in it
  lay-fits : l.at ≤ length l.octets → (length (lay s l).octets ≡ length l.octets) × ((lay s l).at ≤ length l.octets)
  unfolding lay
  lay-fits h = by (leb (l.at + length s) (length l.octets)) refl
    where
      by : (b : Bool) → leb (l.at + length s) (length l.octets) ≡ b
          → (length (pick b (laid_at (l.at + length s) (over_at l.at s l.octets)) l).octets ≡ length l.octets) × ((pick b (laid_at (l.at + length s) (over_at l.at s l.octets)) l).at ≤ length l.octets)
      by true e = let r = leb-true (l.at + length s) (length l.octets) e in (length-over_at l.at s l.octets r, r)
      by false e = (refl, h)

pub lay-nothing : (l : Laid) → lay [] l ≡ l
unfolding lay
lay-nothing l = by (leb (l.at + 0) (length l.octets))
  where
    z : l.at + 0 ≡ l.at
    z = omega arith

    by : (b : Bool) → pick b (laid_at (l.at + 0) (over_at l.at [] l.octets)) l ≡ l
    by true = rw (z, over_none l.at l.octets)
    by false = refl

-- ---- pieces

pub laid-append : (a b : List (List ℕ)) (l : Laid) → laid (a ++ b) l ≡ laid b (laid a l)
unfolding laid
laid-append [] b l = refl
laid-append (s ∷ a) b l = laid-append a b (lay s l)

laid-fits : (a : List (List ℕ)) (l : Laid) → l.at ≤ length l.octets → (length (laid a l).octets ≡ length l.octets) × ((laid a l).at ≤ length l.octets)
unfolding laid
laid-fits [] l h = (refl, h)
laid-fits (s ∷ a) l h =
    let f = lay-fits s l h in
    let g = laid-fits a (lay s l) (omega (arith, f.0, f.1)) in
    (g.0 ∙ f.0, omega (arith, g.1, f.0))

-- ---- what a call put

module _ {a : List (List ℕ)} {at r : ℕ} {before after : List ℕ} (e : Lays a at before r after) where
  pub lays-long : at ≤ length before → length after ≡ length before
  lays-long h = ap (λ (l : Laid). length l.octets) e.is ∙ (laid-fits a (laid_at at before) h).0

  pub lays-inside : at ≤ length before → r ≤ length after
  lays-inside h =
      let f : r ≡ (laid a (laid_at at before)).at = ap (λ (l : Laid). l.at) e.is in
      omega (arith, (laid-fits a (laid_at at before) h).1, lays-long h)

  -- with more behind it
  pub lays-on : (b : List (List ℕ)) → laid (a ++ b) (laid_at at before) ≡ laid b (laid_at r after)
  lays-on b = laid-append a b (laid_at at before) ∙ ap (laid b) (sym e.is)

  pub lays-then : {b : List (List ℕ)} {q : ℕ} {final : List ℕ} → Lays b r after q final → Lays (a ++ b) at before q final
  lays-then {b = b} f = record { is = f.is ∙ sym (lays-on b) }

  -- the same of equal pieces
  pub lays-as : {b : List (List ℕ)} → a ≡ b → Lays b at before r after
  lays-as q = rw q at e

-- nothing put
pub lays-none : {at : ℕ} {d : List ℕ} → Lays [] at d at d
unfolding laid
lays-none = record { is = refl }

pub lays-empty : {at : ℕ} {d : List ℕ} → Lays ([] ∷ []) at d at d
unfolding laid
lays-empty {at = at} {d = d} = record { is = sym (lay-nothing (laid_at at d)) }

-- ---- where a loop is

module _ {whole : List (List ℕ)} {at : ℕ} {before : List ℕ} where
  pub going-begun : at ≤ length before → Going whole at before whole at before
  going-begun h = record { gives = refl; inside = h; long = refl }

  pub going-as : {a b : List (List ℕ)} {r : ℕ} {mid : List ℕ} → a ≡ b → Going whole at before a r mid → Going whole at before b r mid
  going-as e g = rw e at g

  pub going_on : (a b : List (List ℕ)) {r q : ℕ} {mid after : List ℕ} → Going whole at before (a ++ b) r mid → Lays a r mid q after → Going whole at before b q after
  going_on a b g p = record { gives = sym (lays-on p b) ∙ g.gives; inside = lays-inside p g.inside; long = lays-long p g.inside ∙ g.long }

  -- the last of it
  pub going-last : {left : List (List ℕ)} {r q : ℕ} {mid after : List ℕ} → Going whole at before left r mid → Lays left r mid q after → Lays whole at before q after
  going-last g p = record { is = p.is ∙ g.gives }

  pub going_end : {r : ℕ} {after : List ℕ} → Going whole at before [] r after → Lays whole at before r after
  unfolding laid
  going_end g = record { is = g.gives }

-- ---- a part that was lent

module _ (at : ℕ) (d : List ℕ) (inside : at ≤ length d) where
  abbrev lent : List ℕ
  lent = take (length d - at) (drop at d)

  lent-long : length lent ≡ length d - at
  lent-long = simp (length-take, length-drop) (omega arith)

  -- an element by what putting it says: where it cannot be written it is nothing
  pub lays-put : (s : List ℕ) (w : Bool) {r : Answered ℕ} {ys : List ℕ} → PutIf (w && leb (length s) (length lent)) s lent r ys → Lays (pick w s [] ∷ []) at d (at + unwrap_or r 0) (put_mid at (length d - at) d ys)
  unfolding laid
  lays-put s false p =
      let z : at + 0 ≡ at = omega arith in
      rw (p.takes, p.octets, put_same at (length d - at) d, z) lays-empty
  lays-put s true {r = r} {ys = ys} p = by (leb (length s) (length lent)) refl p
    where
      by : (b : Bool) → leb (length s) (length lent) ≡ b → PutIf b s lent r ys → Lays (s ∷ []) at d (at + unwrap_or r 0) (put_mid at (length d - at) d ys)
      by true e q =
          let h : at + length s ≤ length d = omega (arith, leb-true (length s) (length lent) e, lent-long) in
          rw (q.takes, q.octets, lent-over at s d (omega arith)) (record { is = sym (lay-yes s (laid_at at d) h) })
      by false e q =
          let h : length d < at + length s = omega (arith, leb-false (length s) (length lent) e, lent-long) in
          let z : at + 0 ≡ at = omega arith in
          rw (q.takes, q.octets, put_same at (length d - at) d, z) (record { is = sym (lay-no s (laid_at at d) h) })

  -- octets that have room
  pub lays-octets : (s : List ℕ) {ys : List ℕ} → at + length s ≤ length d → ys ≡ over s lent → Lays (s ∷ []) at d (at + length s) (put_mid at (length d - at) d ys)
  unfolding laid
  lays-octets s h e = rw (e, lent-over at s d (omega arith)) (record { is = sym (lay-yes s (laid_at at d) h) })

  -- and octets that have none
  pub lays-long-piece : (s : List ℕ) → length d < at + length s → Lays (s ∷ []) at d at d
  unfolding laid
  lays-long-piece s h = record { is = sym (lay-no s (laid_at at d) h) }

-- ---- with room for all

pub concat-append : (a b : List (List ℕ)) → concat (a ++ b) ≡ concat a ++ concat b
unfolding concat
concat-append [] b = refl
concat-append (x ∷ a) b = ap (λ (s : List ℕ). x ++ s) (concat-append a b) ∙ sym (append_assoc x (concat a) (concat b))

pub laid-all : (a : List (List ℕ)) (at : ℕ) (d : List ℕ) → at + length (concat a) ≤ length d → laid a (laid_at at d) ≡ laid_at (at + length (concat a)) (over_at at (concat a) d)
unfolding laid concat
laid-all [] at d h = let z : at + 0 ≡ at = omega arith in rw (z, over_none at d)
laid-all (s ∷ a) at d h =
    let n = length-append s (concat a) in
    let r : at + length s ≤ length d = omega arith in
    let l = length-over_at at s d r in
    let z : at + length s + length (concat a) ≡ at + length (s ++ concat a) = omega arith in
    ap (laid a) (lay-yes s (laid_at at d) r) ∙ laid-all a (at + length s) (over_at at s d) (omega arith) ∙ rw (z, over-next at s (concat a) d r)
