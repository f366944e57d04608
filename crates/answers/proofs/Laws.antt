-- An answer by another name is put the same way; what is no entry is refused in its place; the values put are the front
-- of the lent places.
use Prim.Native.Nat.{ℕ, suc, ◌≤◌}
use native.Mathlib.Omega.{arith}
use mathlib.Core.Path.{◌≡◌, refl, ap, ◌∙◌}
use mathlib.Core.List.{List, [], ◌∷◌}
use mathlib.Core.Option.{Option, none, some}
use lib.ListN.{length, set}
use Rattle.definitions.specs.Basic.{Answer, over}
use Rattle.length.specs.Answers.{unknown_of}
use Rattle.answers.specs.Says.{put_from, put, told, Says, length_answer, length_as}

-- equal answers are put alike
pub said-by : {a b : Answer} {n : ℕ} {x y : List ℕ} → a ≡ b → Says a n x y → Says b n x y
said-by {x = x} e s = record { numbered = s.numbered ∙ ap (λ (v : Answer). v.number) e; valued = s.valued ∙ ap (λ (v : Answer). put (told v) x) e }

-- a length and its answer
pub length-said : (m : ℕ) (o : Option ℕ) → length_as (unknown_of m o) ≡ length_answer m o
length-said m none = refl
length-said m (some n) = refl

-- ---- the values put

-- behind a place that is passed over
put-behind : (k : ℕ) (vs : List ℕ) (x : ℕ) (s : List ℕ) → put_from (suc k) vs (x ∷ s) ≡ x ∷ put_from k vs s
put-behind k [] x s = refl
put-behind k (v ∷ vs) x s = put-behind (suc k) vs x (set s k v)

-- with as many places as values or more, the values are the front, and what stands behind it is as it was
pub put-over : (vs places : List ℕ) → length vs ≤ length places → put vs places ≡ over vs places
unfolding over
put-over [] places h = refl
put-over (v ∷ vs) [] h = absurd (omega arith)
put-over (v ∷ vs) (x ∷ s) h = put-behind 0 vs v s ∙ ap (λ (l : List ℕ). v ∷ l) (put-over vs s (omega arith))
