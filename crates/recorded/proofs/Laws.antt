-- What `all` answers of a buffer with its indices, what a closure gave at each number, and numbers read at a position.
-- By induction over the buffer and the numbers, and by the definitions' laws of octets.
use Prim.Native.Nat.{ℕ, ◌+◌, ◌*◌, ◌≤◌, ◌<◌, zero, suc}
use native.Mathlib.Omega.{arith}
use native.Mathlib.Numerals.{add-one}
use mathlib.Core.Path.{◌≡◌, refl, ap, sym, subst, ◌∙◌}
use mathlib.Core.List.{List, [], ◌∷◌, ◌++◌, map}
use mathlib.Core.Bool.{Bool, true, false, not, ◌&&◌}
use mathlib.Core.Option.{Option, some}
use lib.Dec.{eqb, ltb, leb}
use lib.ListN.{length, get_or, take, replicate, drop, length-drop, length-take, length-replicate}
use Rattle.std.specs.Fn.{Called}
use Rattle.std.specs.List.{range_with_len, enumerate_from, list_all}
use Rattle.std.proofs.lemmas.List.FromFn.{fill_by_all, map-range_with_len_more}
use denote.Param.Members.{Mut}
use Rattle.std.specs.Array.{IsFromFnResult, IsFromFnResultFrom}
use Rattle.definitions.specs.Basic.{pick, is_none}
use Rattle.definitions.specs.Values.{first_from}
use Rattle.definitions.proofs.Octets.{number-two, number-four, number_short}
use Rattle.std.proofs.Common.{add-zero}
use Rattle.std.proofs.lemmas.List.{get_or-drop}
use Rattle.recorded.specs.Format.{after, number_from, number_in, repeat_at, string_length, octet_in, first}
use Rattle.recorded.specs.Lent.{lent_octet, lent_number, differs, holds}

-- what `all` answers of the elements with their indices: that none is another one
joined : (b l : Bool) (k : ℕ) (o : Option ℕ) → l ≡ is_none o → (b && l) ≡ is_none (pick (not b) (some k) o)
unfolding is_none
joined true l k o e = e
joined false l k o e = refl

module _ (f : ℕ → ℕ) (s : List ℕ) where
  all-from : (xs : List ℕ) (k : ℕ) → ((i : ℕ) → get_or xs i 0 ≡ get_or s (k + i) 0)
      → list_all (λ (p : ℕ × ℕ). eqb p.1 (f p.0)) (enumerate_from k xs) ≡ is_none (first_from (λ i. not (eqb (get_or s i 0) (f i))) k (length xs))
  unfolding first_from is_none
  all-from [] k e = refl
  all-from (x ∷ xs) k e =
      let at : x ≡ get_or s k 0 = e 0 ∙ ap (λ (i : ℕ). get_or s i 0) (add-zero k) in
      let rest : list_all (λ (p : ℕ × ℕ). eqb p.1 (f p.0)) (enumerate_from (k + 1) xs) ≡ is_none (first_from (λ i. not (eqb (get_or s i 0) (f i))) (suc k) (length xs)) =
      all-from xs (k + 1) (λ i. let z : k + suc i ≡ k + 1 + i = omega arith in e (suc i) ∙ ap (λ (j : ℕ). get_or s j 0) z)
      ∙ ap (λ (j : ℕ). is_none (first_from (λ i. not (eqb (get_or s i 0) (f i))) j (length xs))) (add-one k) in
      ap (λ (y : ℕ). eqb y (f k) && list_all (λ (p : ℕ × ℕ). eqb p.1 (f p.0)) (enumerate_from (k + 1) xs)) at ∙ joined (eqb (get_or s k 0) (f k)) _ k _ rest

  pub all-alike : list_all (λ (p : ℕ × ℕ). eqb p.1 (f p.0)) (enumerate_from 0 s) ≡ not (differs f s)
  all-alike = all-from s 0 (λ i. let z : i ≡ 0 + i = omega arith in ap (λ (j : ℕ). get_or s j 0) z) ∙ twice (is_none (first_from (λ i. not (eqb (get_or s i 0) (f i))) 0 (length s)))
    where
      twice : (b : Bool) → b ≡ not (not b)
      twice true = refl
      twice false = refl

-- so what it answers of what is due at each index, and that there is room, say that a buffer holds n things and what was lent behind them
pub held : (n m : ℕ) (f : ℕ → ℕ) (lent : ℕ) (s : List ℕ) {r : Bool} → n ≡ m → r ≡ list_all (λ (p : ℕ × ℕ). eqb p.1 (pick (ltb p.0 n) (f p.0) lent)) (enumerate_from 0 s)
    → (r && leb n (length s)) ≡ holds m f lent s
held n m f lent s e a =
    ap (λ (b : Bool). b && leb n (length s)) (a ∙ all-alike (λ i. pick (ltb i n) (f i) lent) s) ∙ ap (λ (k : ℕ). holds k f lent s) e

-- the octet of a string at i, by what the calls answer that lead to it
pub octet-is : (at : ℕ) (list : List ℕ) (i : ℕ) {n r k x p y : ℕ} → n ≡ number_from 2 at list → r ≡ repeat_at at list → k ≡ after r 2 → x ≡ get_or list k 0 → p ≡ after at (2 + i) → y ≡ pick (ltb i n) (get_or list p 0) x → y ≡ octet_in at list i
octet-is at list i a b d e f g = cc

-- the number, and the octet, that is due at i of lent memory
abbrev pub due_number : ℕ → List ℕ → ℕ → ℕ
due_number at list i = pick (ltb i (number_from 2 at list)) (number_in at list i) lent_number

abbrev pub due_octet : ℕ → List ℕ → ℕ → ℕ
due_octet at list i = pick (ltb i (string_length at list)) (octet_in at list i) lent_octet

-- it is what the calls of a turn answer
pub due_number_is : (at : ℕ) (list : List ℕ) (i : ℕ) {n p o : ℕ} → n ≡ number_from 2 at list → p ≡ after at (2 + 4 * i) → o ≡ pick (ltb i n) (number_from 4 p list) lent_number → o ≡ due_number at list i
due_number_is at list i a b d = cc

pub due_octet_is : (at : ℕ) (list : List ℕ) (i : ℕ) {n len r k x p y o : ℕ} → n ≡ number_from 2 at list → len ≡ string_length at list → r ≡ repeat_at at list → k ≡ after r 2 → x ≡ get_or list k 0 → p ≡ after at (2 + i) → y ≡ pick (ltb i n) (get_or list p 0) x → o ≡ pick (ltb i len) y lent_octet → o ≡ due_octet at list i
due_octet_is at list i a b d e f g h j = rw (b, octet-is at list i a d e f g h) at j

-- ---- the front of a buffer as it is lent

pub lent-front : (m n x : ℕ) {d : List ℕ} → d ≡ replicate m x → n ≤ m → n ≡ length (take n d)
lent-front m n x {d} e h =
    let l : length d ≡ m = ap length e ∙ length-replicate m x in
    simp length-take (omega arith)

-- ---- numbers by what stands from a position on

pub no-number : (n at : ℕ) (s : List ℕ) {r : List ℕ} → r ≡ drop at s → length r < n → 0 ≡ number_from n at s
no-number n at s e h =
    let short : length s < at + n = omega (arith, ap length e, length-drop at s) in
    rw number_short

pub number-of-two : (at : ℕ) (s : List ℕ) {r : List ℕ} {m : ℕ} → r ≡ drop at s → 2 ≤ length r → m ≡ get_or r 0 0 * 256 + get_or r 1 0 → m ≡ number_from 2 at s
number-of-two at s {r} {m} e h d =
    let there : at + 2 ≤ length s = omega (arith, ap length e, length-drop at s) in
    let a : m ≡ get_or s (at + 0) 0 * 256 + get_or s (at + 1) 0 = rw (e, get_or-drop at s 0 0, get_or-drop at s 1 0) at d in
    rw (number-two, a, add-zero)

pub number-of-four : (at : ℕ) (s : List ℕ) {r : List ℕ} {m : ℕ} → r ≡ drop at s → 4 ≤ length r
    → m ≡ get_or r 0 0 * 16777216 + get_or r 1 0 * 65536 + get_or r 2 0 * 256 + get_or r 3 0 → m ≡ number_from 4 at s
number-of-four at s {r} {m} e h d =
    let there : at + 4 ≤ length s = omega (arith, ap length e, length-drop at s) in
    let a : m ≡ get_or s (at + 0) 0 * 16777216 + get_or s (at + 1) 0 * 65536 + get_or s (at + 2) 0 * 256 + get_or s (at + 3) 0 = rw (e, get_or-drop at s 0 0, get_or-drop at s 1 0, get_or-drop at s 2 0, get_or-drop at s 3 0) at d in
    rw (number-four, a, add-zero) (omega arith)

-- ---- what a call of a closure at each number gave

first-map : (f : ℕ → ℕ) (n : ℕ) → first f n ≡ map f (range_with_len 0 n)
unfolding first
first-map f zero = refl
first-map f (suc n) =
    let e : n + 1 ≡ suc n = omega arith in
    ap (λ (t : List ℕ). t ++ (f n ∷ [])) (first-map f n) ∙ sym (map-range_with_len_more f 0 n n (omega arith)) ∙ ap (λ (k : ℕ). map f (range_with_len 0 k)) e

module _ {F : Type 0} (g : Mut F (ℕ × Unit {0}) ℕ) (f : F) (h : ℕ → ℕ) (answers : (i y : ℕ) (q : F) → Called g f (i, tt) y q → (q ≡ f) × (y ≡ h i)) where
  each-given : (n a : ℕ) (ys : List ℕ) → IsFromFnResultFrom g f ys a n → (k : ℕ) → k < n → get_or ys (a + k) 0 ≡ h (a + k)
  each-given zero a ys e k l = absurd (omega arith)
  each-given (suc n) a ys (q, y, at, call, more) zero l = rw add-zero (at.1 0 ∙ (answers a y q call).1)
  each-given (suc n) a ys (q, y, at, call, more) (suc k) l =
      let e : a + 1 + k ≡ a + suc k = omega arith in
      let rest : IsFromFnResultFrom g f ys (a + 1) n = subst (λ (t : F). IsFromFnResultFrom g t ys (a + 1) n) (answers a y q call).0 more in
      subst (λ (i : ℕ). get_or ys i 0 ≡ h i) e (each-given n (a + 1) ys rest k (omega arith))

  pub given : (n : ℕ) (ys : List ℕ) → IsFromFnResult g f ys n → ys ≡ first h n
  given n ys e =
      let at : (k : ℕ) → k < n → get_or ys k 0 ≡ h k =
      λ k l. let z : 0 + k ≡ k = omega arith in subst (λ (i : ℕ). get_or ys i 0 ≡ h i) z (each-given n 0 ys e.each k l) in
      fill_by_all h ys n 0 e.long at ∙ sym (first-map h n)
