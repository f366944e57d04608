-- What all definitions share: choices, an answer, the checks of a public call, lent memory and the value rule.
use Rattle.std.specs.Prelude.{ℕ, ◌/◌, ◌%◌, ◌^◌, List, [], ◌∷◌, ◌++◌, Bool, true, false, ◌||◌, length, take, drop, eqb, ltb}
use Rattle.std.proofs.Math.Option.{Option, none, some}

-- ---- choices

-- the first where the test holds, else the second
abbrev pub pick {ℓ} : {X : Type ℓ} → Bool → X → X → X
pick true x y = x
pick false x y = y

unfoldable pub is_none {ℓ} : {X : Type ℓ} → Option X → Bool
is_none none = true
is_none (some x) = false

-- whether a number stands in a list
unfoldable pub among : ℕ → List ℕ → Bool
among x [] = false
among x (y ∷ ys) = eqb x y || among x ys

-- the lists, one after the other
unfoldable pub concat {ℓ} : {X : Type ℓ} → List (List X) → List X
concat [] = []
concat (xs ∷ xss) = xs ++ concat xss

-- ---- the answer of a public call

-- document 01's number, 0 for done and the others refusals, and its values in the order of "Numbers returned"
pub record Answer : Type 0 where
  pub number : ℕ
  pub values : List ℕ

abbrev pub answer : ℕ → List ℕ → Answer
answer n vs = record { number = n; values = vs }

-- a check: the refusal that it gives where its test holds
abbrev pub refuse : Bool → ℕ → List ℕ → Option Answer
refuse b n vs = pick b (some (answer n vs)) none

-- a check that names the row or place that it refuses
abbrev pub refuse_at : ℕ → Option ℕ → Option Answer
refuse_at n none = none
refuse_at n (some k) = some (answer n (k ∷ []))

-- the first refusal of a list of checks
unfoldable pub refusal : List (Option Answer) → Option Answer
refusal [] = none
refusal (none ∷ cs) = refusal cs
refusal (some a ∷ cs) = some a

-- a call: what it does where no check refuses, else what it leaves with the refusal
abbrev pub unless {ℓ} : {X : Type ℓ} → Option Answer → (Answer → X) → X → X
unless none refused done = done
unless (some a) refused done = refused a

-- ---- lent memory

-- a lent buffer after its front was written: what stands behind the front is as it was
unfoldable pub over : List ℕ → List ℕ → List ℕ
over front buffer = front ++ drop (length front) buffer

-- the same from a position on
unfoldable pub over_at : ℕ → List ℕ → List ℕ → List ℕ
over_at at front buffer = take at buffer ++ over front (drop at buffer)

-- a lent buffer and how much of it is used
pub record Used : Type 0 where
  pub buffer : List ℕ
  pub used : ℕ

unfoldable pub content : Used → List ℕ
content u = take u.used u.buffer

-- the limits of refusal 3 ("Numbers returned"): a part, received octets, set octets, an element; a log
abbrev pub most_octets : ℕ
most_octets = 65535

abbrev pub most_log : ℕ
most_log = 131070

-- refusal 3 of a used count: above its buffer, or over the limit
unfoldable pub too_long : ℕ → Used → Bool
too_long most u = ltb (length u.buffer) u.used || ltb most u.used

-- ---- the value rule ("Rows of a table"; document 02, item 5)

-- bit k of a set
unfoldable pub bit : ℕ → ℕ → Bool
bit k set = eqb (set / 2 ^ k % 2) 1

-- how many values a set is over: sixteen of a half octet, eight of any other form
abbrev pub breadth : Bool → ℕ
breadth h = pick h 16 8

-- the greatest set: it has all of them
abbrev pub most_kinds : Bool → ℕ
most_kinds h = pick h 65535 255

-- by whether the form is a half octet: an empty value is receivable; another exactly when the low four bits of its first octet, or
-- the low three of another form, are in the set
unfoldable pub receivable : Bool → ℕ → List ℕ → Bool
receivable h set [] = true
receivable h set (x ∷ xs) = bit (x % breadth h) set
