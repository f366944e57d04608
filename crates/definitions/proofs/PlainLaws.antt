-- What is known of a part of which the table says all (`plain_from`): each element is accepted, of a place from the least on, under the
-- first IEI of that place, and none is kept. By the tests of an element, and induction.
use Prim.Native.Nat.{ℕ, suc, ◌≤◌}
use mathlib.Core.Path.{◌≡◌, refl}
use mathlib.Core.List.{List, [], ◌∷◌, ◌++◌}
use mathlib.Core.Bool.{true, false, ◌&&◌, false≢true}
use mathlib.Core.Option.{Option, none, some}
use borrow.Author.Tests.{leb-true, eqb-true}
use lib.Dec.{leb, eqb}
use Rattle.definitions.specs.Basic.{pick}
use Rattle.definitions.specs.Rows.{Row, first_iei}
use Rattle.definitions.specs.Elements.{Element, is_accepted, iei_at}
use Rattle.definitions.specs.Logs.{kept_entry, kept_of, plain_at, plain_from}
use Rattle.definitions.proofs.RowLaws.{both}

-- an element that is as the table says
pub record Plain (t : List Row) (least k : ℕ) (e : Element) : Type 0 where
  pub taken : is_accepted e.verdict ≡ true
  pub above : least ≤ k
  pub first : iei_at e ≡ first_iei t k

pub plain-said : (t : List Row) (least k : ℕ) (e : Element) → plain_at t least k e ≡ true → Plain t least k e
unfolding plain_at
plain-said t least k e h =
    let a = both (is_accepted e.verdict) (leb least k && eqb (iei_at e) (first_iei t k)) h in
    let b = both (leb least k) (eqb (iei_at e) (first_iei t k)) a.1 in
    record { taken = a.0; above = leb-true least k b.0; first = eqb-true (iei_at e) (first_iei t k) b.1 }

-- none of the elements is kept
pub kept-none : (t : List Row) (least : ℕ) (es : List Element) → plain_from t least es ≡ true → kept_of es ≡ []
unfolding plain_from kept_of
kept-none t least [] q = refl
kept-none t least (e ∷ es) q = by e.place q (λ k. kept-none t k es)
  where
    by : (o : Option ℕ) → elim o [ none ↦ false | some k ↦ plain_at t least k e && plain_from t (suc k) es ] ≡ true
        → ((k : ℕ) → plain_from t k es ≡ true → kept_of es ≡ []) → pick (is_accepted e.verdict) (kept_of es) (kept_entry e.octets ++ kept_of es) ≡ []
    by none q f = absurd (false≢true q)
    by (some k) q f = let a = both (plain_at t least k e) (plain_from t (suc k) es) q in rw (plain-said t least k e a.0).taken (f (suc k) a.1)
