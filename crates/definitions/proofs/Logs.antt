-- Laws of the two logs: a count at the front, octet by octet; a log by its first entry, whatever count the recursion has.
-- A log's recursion is met once, by two counts that are both enough; everything else is a step at the front.
use Prim.Native.Nat.{ℕ, zero, suc, ◌+◌, ◌*◌, ◌-◌, ◌/◌, ◌%◌, ◌≤◌, ◌<◌}
use native.Mathlib.Omega.{arith}
use mathlib.Core.Path.{◌≡◌, refl, ap, ◌∙◌}
use mathlib.Core.List.{List, [], ◌∷◌}
use mathlib.Core.Bool.{Bool, true, false, ◌&&◌, ◌||◌}
use mathlib.Core.Option.{Option, none, some}
use borrow.Author.Tests.{le-ltb, lt-ltb, leb-true, ltb-true, eqb-false}
use lib.ListN.{length, get_or, take, drop, length-drop, length-append}
use lib.Dec.{leb, ltb, eqb}
use Rattle.definitions.specs.Basic.{pick, Answer, answer, refusal, Used, too_long, most_octets, most_log, over_at}
use Rattle.definitions.specs.Logs.{leb_f, leb128, kept_entry, Count, continued, count_f, allowed, count_at, put, kept_then, kept_list_f, kept_list, Logged, pushing, asking}

-- ---- a count at the front

module _ (f : ℕ) where
  pub count-end : (s : List ℕ) → length s ≡ 0 → count_f (suc f) s ≡ none
  unfolding count_f
  count-end [] h = refl
  count-end (x ∷ xs) h = absurd (omega arith)

  pub count-last : (s : List ℕ) → 0 < length s → get_or s 0 0 < 128 → count_f (suc f) s ≡ some (record { value = get_or s 0 0; took = 1 })
  unfolding count_f
  count-last [] h g = absurd (omega arith)
  count-last (x ∷ xs) h g = rw (lt-ltb x 128 g)

  pub count-more : (s : List ℕ) → 0 < length s → 128 ≤ get_or s 0 0 → count_f (suc f) s ≡ continued (get_or s 0 0) (count_f f (drop 1 s))
  unfolding count_f
  count-more [] h g = absurd (omega arith)
  count-more (x ∷ xs) h g = rw (le-ltb x 128 g)

-- the fact that a count took octets in shortest form: as many as its value takes
abbrev pub Shortest : ℕ → Option Count → Type 0
Shortest f none = Unit
Shortest f (some c) = (length (leb_f f c.value) ≡ c.took) × (1 ≤ c.took)

shortest-continued : (f a : ℕ) (o : Option Count) → Shortest f o → Shortest (suc f) (continued a o)
unfolding continued leb_f
shortest-continued f a none p = tt
shortest-continued f a (some c) p = by (eqb c.value 0) refl
  where
    v : ℕ
    v = a % 128 + 128 * c.value

    longer : (1 ≤ c.value) → length (leb_f (suc f) v) ≡ suc c.took
    longer h =
        let q : v / 128 ≡ c.value = omega arith in
        rw (le-ltb v 128 (omega arith), q) (ap suc p.0)

    by : (b : Bool) → eqb c.value 0 ≡ b → Shortest (suc f) (pick b none (some (record { value = v; took = suc c.took })))
    by true e = tt
    by false e = (longer (omega (arith, eqb-false c.value 0 e)), omega arith)

shortest-pick : (f a : ℕ) (o : Option Count) → Shortest f o → Shortest f (pick (ltb a 128) (some (record { value = a; took = 1 })) o)
unfolding leb_f
shortest-pick f a o p = by (ltb a 128) refl
  where
    one : (f : ℕ) → a < 128 → length (leb_f f a) ≡ 1
    one zero h = refl
    one (suc f) h = rw (lt-ltb a 128 h)

    by : (b : Bool) → ltb a 128 ≡ b → Shortest f (pick b (some (record { value = a; took = 1 })) o)
    by true e = (one f (ltb-true a 128 e), omega arith)
    by false e = p

pub shortest : (f : ℕ) (s : List ℕ) → Shortest f (count_f (suc f) s)
unfolding count_f continued
shortest f [] = tt
shortest zero (a ∷ s) = shortest-pick zero a none tt
shortest (suc f) (a ∷ s) = shortest-pick (suc f) a (continued a (count_f (suc f) s)) (shortest-continued f a (count_f (suc f) s) (shortest f s))

-- a count written, by its size
module _ (n : ℕ) where
  pub leb-one : n < 128 → leb128 n ≡ n ∷ []
  unfolding leb128 leb_f
  leb-one h = rw (lt-ltb n 128 h)

  pub leb-two : 128 ≤ n → n < 16384 → leb128 n ≡ (n % 128 + 128) ∷ (n / 128) ∷ []
  unfolding leb128 leb_f
  leb-two h g = rw (le-ltb n 128 h, lt-ltb (n / 128) 128 (omega arith))

  pub leb-three : 16384 ≤ n → leb128 n ≡ (n % 128 + 128) ∷ (n / 128 % 128 + 128) ∷ (n / 128 / 128) ∷ []
  unfolding leb128 leb_f
  leb-three h = rw (le-ltb n 128 (omega arith), le-ltb (n / 128) 128 (omega arith))

-- a count that is allowed: from 1 to 65,535, and as many octets as its value takes
abbrev pub Allowed : Option Count → Type 0
Allowed none = Unit
Allowed (some c) = (1 ≤ c.value) × (c.value ≤ most_octets) × (length (leb128 c.value) ≡ c.took) × (1 ≤ c.took)

pub count-allowed : (s : List ℕ) → Allowed (count_at s)
unfolding count_at allowed leb128
count-allowed s = by (count_f 3 s) (shortest 2 s)
  where
    inside : (c : Count) → Shortest 2 (some c) → (b d : Bool) → leb 1 c.value ≡ b → leb c.value most_octets ≡ d → Allowed (pick (b && d) (some c) none)
    inside c p true true e g = (leb-true 1 c.value e, leb-true c.value most_octets g, p.0, p.1)
    inside c p true false e g = tt
    inside c p false d e g = tt

    by : (o : Option Count) → Shortest 2 o → Allowed (allowed o)
    by none p = tt
    by (some c) p = inside c p (leb 1 c.value) (leb c.value most_octets) refl refl

-- ---- a kept log by its first entry

-- the entry at the front: its count, where the log has the element behind it
unfoldable pub entry_of : List ℕ → Option Count → Option Count
entry_of s none = none
entry_of s (some c) = pick (leb c.value (length (drop c.took s))) (some c) none

-- what a log holds by its entry at the front
unfoldable pub kept_by : List ℕ → (List ℕ → Option (List (List ℕ))) → Option Count → Option (List (List ℕ))
kept_by s rest none = none
kept_by s rest (some c) = put (take c.value (drop c.took s)) (rest (drop c.value (drop c.took s)))

-- what is known of an entry at the front
abbrev pub Entry : List ℕ → Option Count → Type 0
Entry s none = Unit
Entry s (some c) = (c.value + c.took ≤ length s) × (1 ≤ c.value) × (1 ≤ c.took) × (length (leb128 c.value) ≡ c.took)

pub entry_known : (s : List ℕ) → Entry s (entry_of s (count_at s))
unfolding entry_of
entry_known s = of (count_at s) (count-allowed s)
  where
    there : (c : Count) → Allowed (some c) → (b : Bool) → leb c.value (length (drop c.took s)) ≡ b → Entry s (pick b (some c) none)
    there c p true e =
        let h : c.value ≤ length s - c.took = rw length-drop at (leb-true c.value (length (drop c.took s)) e) in
        (omega arith, p.0, p.3, p.2)
    there c p false e = tt

    of : (o : Option Count) → Allowed o → Entry s (entry_of s o)
    of none p = tt
    of (some c) p = there c p (leb c.value (length (drop c.took s))) refl

pub entry-at-fits : (s : List ℕ) {c : Count} → entry_of s (count_at s) ≡ some c → Entry s (some c)
entry-at-fits s e = rw e at (entry_known s)

kept_entry_lem : (s : List ℕ) (rest : List ℕ → Option (List (List ℕ))) (o : Option Count) → kept_then s rest o ≡ kept_by s rest (entry_of s o)
unfolding kept_then kept_by entry_of
kept_entry_lem s rest none = refl
kept_entry_lem s rest (some c) = by (leb c.value (length (drop c.took s)))
  where
    here : Option (List (List ℕ))
    here = put (take c.value (drop c.took s)) (rest (drop c.value (drop c.took s)))

    by : (b : Bool) → pick b here none ≡ kept_by s rest (pick b (some c) none)
    by true = refl
    by false = refl

-- the rest matters only at what is shorter
kept-rest : (s : List ℕ) (rest rest' : List ℕ → Option (List (List ℕ))) (o : Option Count) → Allowed o → 0 < length s
    → ((t : List ℕ) → length t < length s → rest t ≡ rest' t) → kept_then s rest o ≡ kept_then s rest' o
unfolding kept_then
kept-rest s rest rest' none p h e = refl
kept-rest s rest rest' (some c) p h e =
    let t : List ℕ = drop c.value (drop c.took s) in
    let l : length t < length s = simp (length-drop) (omega arith) in
    let q : rest t ≡ rest' t = e t l in
    ap (λ (r : Option (List (List ℕ))). pick (leb c.value (length (drop c.took s))) (put (take c.value (drop c.took s)) r) none) q

kept-fuel : (f g : ℕ) (s : List ℕ) → length s ≤ f → length s ≤ g → kept_list_f f s ≡ kept_list_f g s
unfolding kept_list_f
kept-fuel zero zero [] h k = refl
kept-fuel zero (suc g) [] h k = refl
kept-fuel (suc f) zero [] h k = refl
kept-fuel (suc f) (suc g) [] h k = refl
kept-fuel zero g (x ∷ xs) h k = absurd (omega arith)
kept-fuel (suc f) zero (x ∷ xs) h k = absurd (omega arith)
kept-fuel (suc f) (suc g) (x ∷ xs) h k =
    kept-rest (x ∷ xs) (kept_list_f f) (kept_list_f g) (count_at (x ∷ xs)) (count-allowed (x ∷ xs)) (omega arith)
    (λ t l. kept-fuel f g t (omega arith) (omega arith))

pub kept-nil : (s : List ℕ) → length s ≡ 0 → kept_list s ≡ some []
unfolding kept_list kept_list_f
kept-nil [] h = refl
kept-nil (x ∷ xs) h = absurd (omega arith)

pub kept-front : (s : List ℕ) → 0 < length s → kept_list s ≡ kept_by s kept_list (entry_of s (count_at s))
unfolding kept_list kept_list_f
kept-front [] h = absurd (omega arith)
kept-front (x ∷ xs) h =
    kept-rest (x ∷ xs) (kept_list_f (length xs)) kept_list (count_at (x ∷ xs)) (count-allowed (x ∷ xs)) h
    (λ t l. kept-fuel (length xs) (length t) t (omega arith) (omega arith))
    ∙ kept_entry_lem (x ∷ xs) kept_list (count_at (x ∷ xs))

-- ---- the calls' checks

or-true : (b : Bool) → (b || true) ≡ true
or-true true = refl
or-true false = refl

-- refusal 3 of a used count, and none
module _ (most : ℕ) (u : Used) where
  pub past-buffer : length u.buffer < u.used → too_long most u ≡ true
  unfolding too_long
  past-buffer h = rw (lt-ltb (length u.buffer) u.used h)

  pub past-limit : most < u.used → too_long most u ≡ true
  unfolding too_long
  past-limit h = rw (lt-ltb most u.used h) (or-true (ltb (length u.buffer) u.used))

  pub not-long : u.used ≤ length u.buffer → u.used ≤ most → too_long most u ≡ false
  unfolding too_long
  not-long h g = rw (le-ltb (length u.buffer) u.used h, le-ltb most u.used g)

-- a question: each check in its place
module _ (u : Used) (bad : Bool) (which : ℕ) (said : List ℕ) where
  pub asking-long : too_long most_log u ≡ true → asking u bad which said ≡ answer 3 []
  unfolding asking refusal
  asking-long h = rw h

  pub asking-bad : too_long most_log u ≡ false → bad ≡ true → asking u bad which said ≡ answer 11 (which ∷ [])
  unfolding asking refusal
  asking-bad h e = rw (h, e)

  pub asking-done : too_long most_log u ≡ false → bad ≡ false → asking u bad which said ≡ answer 0 said
  unfolding asking refusal
  asking-done h e = rw (h, e)

-- a push: each check in its place
module _ (u : Used) (entry : List ℕ) (large bad : Bool) (which room : ℕ) where
  abbrev after : ℕ
  after = u.used + length entry

  abbrev unpushed : Answer → Logged
  unpushed a = record { said = a; log = u.buffer }

  pushing-long : (too_long most_log u || (large || ltb most_log after)) ≡ true → pushing u entry large bad which room ≡ unpushed (answer 3 [])
  unfolding pushing refusal
  pushing-long h = rw h

  pub pushing-used : too_long most_log u ≡ true → pushing u entry large bad which room ≡ unpushed (answer 3 [])
  pushing-used h = pushing-long (rw h)

  pub pushing-large : large ≡ true → pushing u entry large bad which room ≡ unpushed (answer 3 [])
  pushing-large h = pushing-long (rw h (or-true (too_long most_log u)))

  pub pushing-over : most_log < after → pushing u entry large bad which room ≡ unpushed (answer 3 [])
  pushing-over h = pushing-long (rw (lt-ltb most_log after h, or-true large) (or-true (too_long most_log u)))

  module _ (h : too_long most_log u ≡ false) (l : large ≡ false) (g : after ≤ most_log) where
    pub pushing-bad : bad ≡ true → pushing u entry large bad which room ≡ unpushed (answer 11 (which ∷ []))
    unfolding pushing refusal
    pushing-bad e = rw (h, l, le-ltb most_log after g, e)

    pub pushing-full : bad ≡ false → length u.buffer < after → pushing u entry large bad which room ≡ unpushed (answer 2 (room ∷ []))
    unfolding pushing refusal
    pushing-full e f = rw (h, l, le-ltb most_log after g, e, lt-ltb (length u.buffer) after f)

    pub pushing-done : bad ≡ false → after ≤ length u.buffer → pushing u entry large bad which room ≡ record { said = answer 0 (after ∷ []); log = over_at u.used entry u.buffer }
    unfolding pushing refusal
    pushing-done e f = rw (h, l, le-ltb most_log after g, e, le-ltb (length u.buffer) after f)

-- a count takes an octet or more
pub leb-some : (n : ℕ) → 1 ≤ length (leb128 n)
unfolding leb128 leb_f
leb-some n = by (ltb n 128)
  where
    by : (b : Bool) → 1 ≤ length (pick b (n ∷ []) ((n % 128 + 128) ∷ leb_f 1 (n / 128)))
    by true = omega arith
    by false = omega arith

pub entry_length : (e : List ℕ) → length (kept_entry e) ≡ length (leb128 (length e)) + length e
unfolding kept_entry
entry_length e = length-append (leb128 (length e)) e

-- and three at most
pub count-short : (n : ℕ) → length (leb128 n) ≤ 3
unfolding leb128 leb_f
count-short n = by (ltb n 128) (ltb (n / 128) 128)
  where
    by : (b d : Bool) → length (pick b (n ∷ []) ((n % 128 + 128) ∷ pick d ((n / 128) ∷ []) ((n / 128 % 128 + 128) ∷ (n / 128 / 128) ∷ []))) ≤ 3
    by true d = omega arith
    by false true = omega arith
    by false false = omega arith
