-- A line by the numbers that the code holds is the definition's line, and is short: five digits at most, and a word.
-- By cases on the verdict, and on how many digits are left.
use Prim.Native.Nat.{ℕ, zero, suc, ◌+◌, ◌-◌, ◌/◌, ◌%◌, ◌≤◌, ◌<◌}
use native.Mathlib.Omega.{arith}
use mathlib.Core.Path.{◌≡◌, refl, ap, sym, ◌∙◌}
use mathlib.Core.List.{List, [], ◌∷◌, ◌++◌}
use mathlib.Core.Bool.{Bool, true, false}
use lib.ListN.{length, length-append}
use lib.Dec.{ltb}
use borrow.Author.Tests.{lt-ltb, le-ltb}
use Rattle.definitions.specs.Basic.{pick}
use Rattle.definitions.specs.Elements.{Verdict, accepted, unknown, malformed, repeated, out_of_sequence, Element as DefElement, iei_at, elements, cut_short}
use Rattle.definitions.specs.Listing.{ascii, decimal_f, decimal, hex, word, space, newline, line, lines, listed}
use Rattle.order.specs.declared.Placed.{Placed}
use Rattle.order.specs.declared.IgnoredIeReason.{IgnoredIeReason}
use Rattle.elements.specs.Steps.{placed_for, element_of}
use Rattle.elements.specs.declared.element.Element.{Element}
use Rattle.wording.specs.Lines.{word_of, line_of}

-- ---- digits

pub digits-short : (f n : ℕ) → length (decimal_f f n) ≤ f
unfolding decimal_f
digits-short zero n = omega arith
digits-short (suc f) n = by (ltb n 10) (digits-short f (n / 10))
  where
    by : (t : Bool) → length (decimal_f f (n / 10)) ≤ f → length (pick t ((48 + n) ∷ []) (decimal_f f (n / 10) ++ ((48 + n % 10) ∷ []))) ≤ suc f
    by true h = omega arith
    by false h = omega (arith, length-append (decimal_f f (n / 10)) ((48 + n % 10) ∷ []))

pub decimal-short : (n : ℕ) → length (decimal n) ≤ 5
unfolding decimal
decimal-short n = digits-short 5 n

pub number_short : (n : ℕ) → length (decimal n ++ newline) ≤ 6
number_short n = omega (arith, decimal-short n, length-append (decimal n) newline)

pub digits-none : (f n : ℕ) → f ≡ 0 → [] ≡ decimal_f f n
unfolding decimal_f
digits-none f n e = ap (λ (m : ℕ). decimal_f m n) (sym e)

digits_step : (f n : ℕ) → (f ≡ 0 → ⊥) → decimal_f f n ≡ pick (ltb n 10) ((48 + n) ∷ []) (decimal_f (f - 1) (n / 10) ++ ((48 + n % 10) ∷ []))
unfolding decimal_f
digits_step zero n h = absurd (h refl)
digits_step (suc f) n h =
    let e : f ≡ suc f - 1 = omega arith in
    ap (λ (m : ℕ). pick (ltb n 10) ((48 + n) ∷ []) (decimal_f m (n / 10) ++ ((48 + n % 10) ∷ []))) e

pub digits-one : (f n : ℕ) → (f ≡ 0 → ⊥) → n < 10 → (48 + n) ∷ [] ≡ decimal_f f n
digits-one f n h l =
    sym
    (digits_step f n h
    ∙ ap (λ (t : Bool). pick t ((48 + n) ∷ []) (decimal_f (f - 1) (n / 10) ++ ((48 + n % 10) ∷ []))) (lt-ltb n 10 l))

pub digits_more : (f n : ℕ) → (f ≡ 0 → ⊥) → 10 ≤ n → decimal_f (f - 1) (n / 10) ++ ((48 + n % 10) ∷ []) ≡ decimal_f f n
digits_more f n h l =
    sym
    (digits_step f n h
    ∙ ap (λ (t : Bool). pick t ((48 + n) ∷ []) (decimal_f (f - 1) (n / 10) ++ ((48 + n % 10) ∷ []))) (le-ltb n 10 l))

-- ---- an octet and a word

pub hex-long : (x : ℕ) → length (hex x) ≡ 2
unfolding hex
hex-long x = refl

pub word-short : (p : Placed) → length (word_of p) ≤ 9
unfolding word ascii
word-short (Placed.Known i) = omega arith
word-short Placed.Unknown = omega arith
word-short (Placed.Ignored IgnoredIeReason.Malformed) = omega arith
word-short (Placed.Ignored IgnoredIeReason.Repeated) = omega arith
word-short (Placed.Ignored IgnoredIeReason.OutOfSequence) = omega arith

word-is : (iei : ℕ) (v : Verdict) → word_of (placed_for iei v) ≡ word v
word-is iei accepted = refl
word-is iei unknown = refl
word-is iei malformed = refl
word-is iei repeated = refl
word-is iei out_of_sequence = refl

-- ---- the line

pub line-is : (d : DefElement) → line_of (element_of d) ≡ line d
unfolding line_of line element_of
line-is d =
    ap (λ (w : List ℕ). decimal d.at ++ (space ++ (decimal (length d.octets) ++ (space ++ (hex (iei_at d) ++ (space ++ (w ++ newline)))))))
    (word-is (iei_at d) d.verdict)

pub line-short : (e : Element) → length (line_of e) ≤ 25
unfolding line_of hex
line-short e =
    simp length-append (omega (arith, decimal-short e.start, decimal-short e.len, word-short e.placed))

-- ---- the last line

pub end_short : (n : ℕ) → length (listed n (elements [])) ≤ 10
unfolding listed lines ascii
end_short n = simp length-append (omega (arith, decimal-short n))

pub cut_short_lem : (a x k m : ℕ) → length (listed 0 (cut_short a x k m)) ≤ 47
unfolding listed ascii hex
cut_short_lem a x k m = simp length-append (omega (arith, decimal-short a, decimal-short k, decimal-short m))
