-- Elements join. By induction on `Reads`: each element is a front of what is left, and the next stands behind it.
use Prim.Native.Nat.{ℕ}
use mathlib.Core.Path.{◌≡◌, refl, ap, ◌∙◌}
use mathlib.Core.List.{List, ◌++◌}
use mathlib.Core.Bool.{Bool}
use lib.ListN.{length, drop, take-append-drop}
use Rattle.definitions.specs.Rows.{Row}
use Rattle.definitions.specs.Elements.{Element, Met, known, stranger}
use Rattle.definitions.proofs.Steps.{Stands, strange, placed, stands-front, Reads, end, more, reads}
use Rattle.promises.specs.Joined.{joined, Follow, ElementsJoin}

module _ (t : List Row) (start : ℕ) (option : Bool) where
  pub stands_at : {m m' : Met} {at : ℕ} {s : List ℕ} {e : Element} → Stands t start option m at s e m' → e.at ≡ at
  unfolding known stranger
  stands_at (strange p r) = refl
  stands_at (placed k p) = refl

  pub reads-join : {m : Met} {at : ℕ} {s : List ℕ} {es : List Element} → Reads t start option m at s es → (joined es ≡ s) × Follow at es
  unfolding joined Follow
  reads-join end = (refl, tt)
  reads-join (more {s = s} {e = e} d r) =
      let f = stands-front t start option d in
      let j = reads-join r in
      (rw j.0 (ap (λ (l : List ℕ). l ++ drop (length e.octets) s) f.front ∙ take-append-drop (length e.octets) s), (stands_at d, f.some-octet, j.1))

pub elements-join : ElementsJoin
elements-join t start option part es p = reads-join t start option (reads t start option p)
