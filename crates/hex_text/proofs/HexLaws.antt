-- Laws of a text of hex digits: what is left of it behind a digit that waits or behind none, a step at a time; a buffer that is
-- written octet by octet. Each goes by the definition, with its tests known.
use Prim.Native.Nat.{ℕ, suc, ◌+◌, ◌*◌, ◌-◌, ◌≤◌, ◌<◌}
use native.Mathlib.Omega.{arith}
use mathlib.Core.Path.{◌≡◌, refl, ap, sym, subst, ◌∙◌}
use mathlib.Core.List.{List, [], ◌∷◌, append_assoc}
use mathlib.Core.Bool.{Bool, true, false}
use lib.ListN.{length, get_or, take, drop, set, length-append, drop_of_length-le}
use lib.Seq.{drop-cons, drop-drop, sets-eq}
use lib.Dec.{eqb}
use borrow.Author.Tests.{eq-eqb, ne_eqb}
use Rattle.std.specs.Prelude.{Option, Some, None, Result, Ok, Err}
use Rattle.std.proofs.lemmas.Bool.Decides.{nat_tests}
use Rattle.definitions.specs.Basic.{pick, over, over_at}
use Rattle.definitions.proofs.Lists.{over_none, over-next}
use Rattle.hex_text.specs.declared.HexError.{HexError}
use Rattle.hex_text.specs.declared.Step.{Step}
use Rattle.hex_text.specs.Hex.{is_blank, digit_of, Hex, ended, well, wrong, behind, pair_of, last_of, hex_from, hex_of}
use Rattle.hex_text.specs.Steps.{first_of, second_of, step_of, end_of, Waiting}

-- ---- what is left

-- behind a digit that waits, or behind none
unfoldable pub rest_of : ℕ → ℕ → Option ℕ → List ℕ → Hex
rest_of room at None s = hex_from room at s
rest_of room at (Some a) [] = wrong (HexError.Odd (at - 1))
rest_of room at (Some a) (y ∷ s) =
    pick (eqb room 0) well
    (pick (is_blank y) (wrong (HexError.Odd (at - 1))) (elim (digit_of y) [
      | None ↦ wrong (HexError.NoDigit at)
      | Some b ↦ behind (16 * a + b) (hex_from (room - 1) (suc at) s)
    ]))

-- what a step leaves
abbrev pub left_by : ℕ → ℕ → List ℕ → Result Step HexError → Hex
left_by room at s (Ok (Step.Waits h)) = rest_of room (suc at) h s
left_by room at s (Ok (Step.Octet n)) = behind n (rest_of (room - 1) (suc at) None s)
left_by room at s (Err e) = wrong e

module _ (room at x : ℕ) where
  first_step : (s : List ℕ) → eqb room 0 ≡ false → left_by room at s (first_of at x) ≡ hex_from room at (x ∷ s)
  unfolding first_of hex_from last_of pair_of rest_of
  first_step [] r = grind arith
  first_step (y ∷ s) r = grind arith

  second_step : (a : ℕ) (s : List ℕ) → eqb room 0 ≡ false → left_by room at s (second_of at a x) ≡ rest_of room at (Some a) (x ∷ s)
  unfolding second_of rest_of
  second_step a s r = grind arith

  step : (half : Option ℕ) (s : List ℕ) → eqb room 0 ≡ false → left_by room at s (step_of at half x) ≡ rest_of room at half (x ∷ s)
  unfolding rest_of
  step None s r = first_step s r
  step (Some a) s r = second_step a s r

  full : (half : Option ℕ) (s : List ℕ) → eqb room 0 ≡ true → well ≡ rest_of room at half (x ∷ s)
  unfolding rest_of hex_from
  full None [] r = rw r
  full None (y ∷ s) r = rw r
  full (Some a) s r = rw r

-- a digit that waits then is one
below : (x d : ℕ) → digit_of x ≡ Some d → d < 16
unfolding digit_of
below x d e = grind (arith, nat_tests)

pub waits : (at x : ℕ) (half h : Option ℕ) → step_of at half x ≡ Ok (Step.Waits h) → Waiting (at + 1) h
unfolding first_of second_of
waits at x half None e = tt
waits at x None (Some d) e = grind (arith, below)
waits at x (Some a) (Some d) e = grind (arith, below)

over-text : (room at : ℕ) (half : Option ℕ) → ended (end_of at half) ≡ rest_of room at half []
unfolding rest_of hex_from
over-text room at None = refl
over-text room at (Some a) = refl

-- ---- an octet of text at a time, and two

-- a text decoded a step at a time, behind a digit that waits or behind none
unfoldable pub stepped_from : ℕ → ℕ → Option ℕ → List ℕ → Hex
stepped_from room at half [] = ended (end_of at half)
stepped_from room at half (x ∷ xs) =
    pick (eqb room 0) well (elim (step_of at half x) [
      | Ok (Step.Waits h) ↦ stepped_from room (suc at) h xs
      | Ok (Step.Octet n) ↦ behind n (stepped_from (room - 1) (suc at) None xs)
      | Err e ↦ wrong e
    ])

stepped-rest : (room at : ℕ) (half : Option ℕ) (text : List ℕ) → stepped_from room at half text ≡ rest_of room at half text
unfolding stepped_from
stepped-rest room at half [] = over-text room at half
stepped-rest room at half (x ∷ xs) = by (eqb room 0) refl (step_of at half x) refl (λ h. stepped-rest room (suc at) h xs) (stepped-rest (room - 1) (suc at) None xs)
  where
    by : (b : Bool) → eqb room 0 ≡ b → (r : Result Step HexError) → step_of at half x ≡ r
        → ((h : Option ℕ) → stepped_from room (suc at) h xs ≡ rest_of room (suc at) h xs) → stepped_from (room - 1) (suc at) None xs ≡ rest_of (room - 1) (suc at) None xs
        → pick b well (elim r [
          | Ok (Step.Waits h) ↦ stepped_from room (suc at) h xs
          | Ok (Step.Octet n) ↦ behind n (stepped_from (room - 1) (suc at) None xs)
          | Err e ↦ wrong e
        ])
        ≡ rest_of room at half (x ∷ xs)
    by true q r e f g = full room at x half xs q
    by false q (Ok (Step.Waits h)) e f g = f h ∙ (rw e at (step room at x half xs q))
    by false q (Ok (Step.Octet n)) e f g = ap (behind n) g ∙ (rw e at (step room at x half xs q))
    by false q (Err w) e f g = rw e at (step room at x half xs q)

-- a text that is decoded a step at a time is the text by pairs
pub by-pairs : (room at : ℕ) (text : List ℕ) → stepped_from room at None text ≡ hex_from room at text
unfolding rest_of
by-pairs room at text = stepped-rest room at None text

-- ---- a buffer with what is left of a text still to come

-- with the octets of h from len on the buffer is the lent one with those of w in front
pub record Goes (h w : Hex) (part₀ part : List ℕ) (len : ℕ) : Type 0 where
  pub count : len + length h.octets ≡ length w.octets
  pub ends : h.ends ≡ w.ends
  pub out : over_at len h.octets part ≡ over w.octets part₀

-- what is left at a position
abbrev pub Left : List ℕ → List ℕ → List ℕ → ℕ → Option ℕ → ℕ → Type 0
Left text part₀ part len half i = Goes (rest_of (length part₀ - len) i half (drop i text)) (hex_of (length part₀) text) part₀ part len

pub at-start : (text part : List ℕ) → Left text part part 0 None 0
unfolding over_at rest_of
at-start text part =
    let e : length part ≡ length part - 0 = omega arith in
    subst (λ (n : ℕ). Goes (hex_from n 0 text) (hex_of (length part) text) part part 0) e
    (record { count = omega arith; ends = refl; out = refl })

pub all_told : {e : Result (Unit {0}) HexError} {w : Hex} {part₀ part : List ℕ} {len : ℕ} → Goes (ended e) w part₀ part len
    → (len ≡ length w.octets) × ((e ≡ w.ends) × (part ≡ over w.octets part₀))
all_told {part = part} {len = len} g = let c : len + 0 ≡ _ = g.count in (omega arith, (g.ends, sym (over_none len part) ∙ g.out))

-- octets that stand in the front fit
pub front_fits : {n : ℕ} (s d : List ℕ) {d' : List ℕ} → n ≡ length s → d' ≡ over s d → n ≤ length d'
unfolding over
front_fits s d e f = let l = ap length f ∙ length-append s (drop (length s) d) in omega (arith, l, e)

set-one : (n a : ℕ) (d : List ℕ) → n + 1 ≤ length d → set d n a ≡ over_at n (a ∷ []) d
unfolding over_at over
set-one n a d h =
    let e : drop 1 (drop n d) ≡ drop (n + 1) d = drop-drop 1 n d in
    rw e (sets-eq (a ∷ []) d n h ∙ append_assoc (take n d) (a ∷ []) (drop (n + 1) d))

one_more : {h w : Hex} {part₀ : List ℕ} (part : List ℕ) (len n : ℕ) → len < length part → Goes (behind n h) w part₀ part len
    → Goes h w part₀ (set part len n) (len + 1)
one_more {h = h} part len n l g =
    let c : len + suc (length h.octets) ≡ _ = g.count in
    record { count = omega arith; ends = g.ends; out = ap (λ (d : List ℕ). over_at (len + 1) h.octets d) (set-one len n part (omega arith)) ∙ over-next len (n ∷ []) h.octets part (omega arith) ∙ g.out }

module _ (text part₀ part : List ℕ) (len : ℕ) (half : Option ℕ) (i : ℕ) where
  abbrev Whole : Hex → Type 0
  Whole h = Goes h (hex_of (length part₀) text) part₀ part len

  pub at-end : i ≡ length text → Left text part₀ part len half i → Whole (ended (end_of (length text) half))
  at-end e g =
      let d : drop i text ≡ [] = drop_of_length-le text (omega arith) in
      subst (λ (n : ℕ). Whole (ended (end_of n half))) e
      (rw (over-text (length part₀ - len) i half) (subst (λ (s : List ℕ). Whole (rest_of (length part₀ - len) i half s)) d g))

  module _ (l : i < length text) where
    pub when-full : length part₀ ≤ len → Left text part₀ part len half i → Whole well
    when-full f g = subst Whole (rw (drop-cons text i 0 l) (sym (full _ _ _ half _ (eq-eqb (length part₀ - len) 0 (omega arith))))) g

    module _ (room : len < length part₀) {r : Result Step HexError} (e : r ≡ step_of i half (get_or text i 0)) where
      stepped : Left text part₀ part len half i → Whole (left_by (length part₀ - len) i (drop (i + 1) text) r)
      stepped g =
          let n : i + 1 ≡ suc i = omega arith in
          subst Whole (rw (n, e, drop-cons text i 0 l) (sym (step _ _ _ half _ (ne_eqb (length part₀ - len) 0 (λ z. omega arith))))) g

      pub when-wrong : {e : HexError} → r ≡ Err e → Left text part₀ part len half i → Whole (wrong e)
      when-wrong q g = rw q at (stepped g)

      pub when-waits : {h half' : Option ℕ} {len' : ℕ} {part' : List ℕ} → r ≡ Ok (Step.Waits h) → part' ≡ part → len' ≡ len → half' ≡ h
          → Left text part₀ part len half i → Left text part₀ part' len' half' (i + 1)
      when-waits q a b c g = let n : i + 1 ≡ suc i = omega arith in rw (a, b, c) (rw (q, ← n) at (stepped g))

      pub when-octet : {n len' : ℕ} {half' : Option ℕ} {part' : List ℕ} → r ≡ Ok (Step.Octet n) → len < length part → part' ≡ set part len n → len' ≡ len + 1 → half' ≡ None
          → Left text part₀ part len half i → Left text part₀ part' len' half' (i + 1)
      when-octet {n = n} q f a b c g =
          let m : suc i ≡ i + 1 = omega arith in
          let k : length part₀ - len - 1 ≡ length part₀ - (len + 1) = omega arith in
          rw (a, b, c) (one_more part len n f (rw (q, m, k) at (stepped g)))
