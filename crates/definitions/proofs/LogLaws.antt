-- A log that is written parses back to what was written; LEB128 there and back; how much room an entry takes.
-- Each parse takes the entry at the front, whatever follows; the count that bounds the recursion is met once, at the end.
use Prim.Native.Nat.{ℕ, zero, suc, ◌+◌, ◌*◌, ◌/◌, ◌%◌, ◌^◌, ◌≤◌, ◌<◌}
use native.Mathlib.Omega.{arith}
use mathlib.Core.Path.{◌≡◌, refl, ap}
use mathlib.Core.List.{List, [], ◌∷◌, ◌++◌, map, append_assoc}
use mathlib.Core.Option.{Option, some}
use mathlib.Core.Bool.{Bool, true, false}
use lib.ListN.{length, length-append}
use lib.Seq.{take-append_seam, drop-append_seam}
use lib.Dec.{ltb}
use borrow.Author.Tests.{ltb-false, lt-ltb, le-ltb, le-leb, ne_eqb}
use Rattle.definitions.specs.Basic.{pick}
use Rattle.definitions.specs.Elements.{Element, is_accepted}
use Rattle.definitions.proofs.Logs.{leb-some}
use Rattle.definitions.specs.Logs.{leb_f, leb128, kept_entry, kept_of, Count, continued, count_f, allowed, count_at, put, kept_then, kept_list_f, kept_list, by_form, again, late, Placed, known_iei, not_known, ignored, placed_of, order_entry, entries_of, order_list_f, order_list}

-- ---- LEB128

abbrev counted : ℕ → ℕ → Option Count
counted n k = some (record { value = n; took = k })

continued-back : (n k : ℕ) → 128 ≤ n → continued (n % 128 + 128) (counted (n / 128) k) ≡ counted n (suc k)
unfolding continued
continued-back n k h =
    let e : (n % 128 + 128) % 128 + 128 * (n / 128) ≡ n = omega arith in
    rw (ne_eqb (n / 128) 0 (omega arith), e)

-- there and back, over the octets that a count may take
count-back : (f n : ℕ) (s : List ℕ) → n < 128 ^ suc f → count_f (suc f) (leb_f f n ++ s) ≡ counted n (length (leb_f f n))
unfolding count_f leb_f continued
count-back zero n s h = rw (lt-ltb n 128 (omega arith))
count-back (suc f) n s h = go (ltb n 128) refl (count-back f (n / 128) s (omega arith))
  where
    go : (b : Bool) → ltb n 128 ≡ b → count_f (suc f) (leb_f f (n / 128) ++ s) ≡ counted (n / 128) (length (leb_f f (n / 128)))
        → count_f (suc (suc f)) (pick b (n ∷ []) ((n % 128 + 128) ∷ leb_f f (n / 128)) ++ s) ≡ counted n (length (pick b (n ∷ []) ((n % 128 + 128) ∷ leb_f f (n / 128))))
    go true e r = rw e
    go false e r = rw (le-ltb (n % 128 + 128) 128 (omega arith), r) (continued-back n (length (leb_f f (n / 128))) (ltb-false n 128 e))

pub leb-back : (n : ℕ) (s : List ℕ) → 1 ≤ n → n ≤ 65535 → count_at (leb128 n ++ s) ≡ counted n (length (leb128 n))
unfolding count_at leb128 allowed
leb-back n s h l = rw (count-back 2 n s (omega arith), le-leb 1 n h, le-leb n 65535 l)

-- the count of an element takes no more octets than the element
pub leb-room : (n : ℕ) → 1 ≤ n → length (leb128 n) ≤ n
unfolding leb128 leb_f
leb-room n h = go (ltb n 128) (ltb (n / 128) 128) refl refl
  where
    go : (b c : Bool) → ltb n 128 ≡ b → ltb (n / 128) 128 ≡ c
        → length (pick b (n ∷ []) ((n % 128 + 128) ∷ pick c ((n / 128) ∷ []) ((n / 128 % 128 + 128) ∷ (n / 128 / 128) ∷ []))) ≤ n
    go true c e d = h
    go false true e d = omega (arith, ltb-false n 128 e)
    go false false e d = omega (arith, ltb-false n 128 e)

-- ---- the kept log

-- elements, each with its count
unfoldable pub kept_log : List (List ℕ) → List ℕ
kept_log [] = []
kept_log (e ∷ es) = kept_entry e ++ kept_log es

-- elements that a kept log can hold
unfoldable pub Storable : List (List ℕ) → Type 0
Storable [] = Unit
Storable (e ∷ es) = (1 ≤ length e) × (length e ≤ 65535) × Storable es

kept-first : (f : ℕ) (s : List ℕ) → 1 ≤ length s → kept_list_f (suc f) s ≡ kept_then s (kept_list_f f) (count_at s)
unfolding kept_list_f
kept-first f [] h = absurd (omega arith)
kept-first f (x ∷ xs) h = refl

-- an entry at the front is taken, whatever follows
pub kept_step : (f : ℕ) (e s : List ℕ) → 1 ≤ length e → length e ≤ 65535 → kept_list_f (suc f) (kept_entry e ++ s) ≡ put e (kept_list_f f s)
unfolding kept_entry kept_then
kept_step f e s h l =
    let c : List ℕ = leb128 (length e) in
    let some-octet : 1 ≤ length (c ++ (e ++ s)) = simp length-append (omega (arith, leb-some (length e))) in
    rw (append_assoc, kept-first f (c ++ (e ++ s)) some-octet, leb-back (length e) (e ++ s) h l, drop-append_seam c (e ++ s))
    (rw (le-leb (length e) (length (e ++ s)) (simp length-append (omega arith)), take-append_seam e s, drop-append_seam e s))

kept-back_f : (f : ℕ) (es : List (List ℕ)) → Storable es → length (kept_log es) ≤ f → kept_list_f f (kept_log es) ≡ some es
unfolding kept_list_f kept_log Storable put kept_entry
kept-back_f zero [] h l = refl
kept-back_f (suc f) [] h l = refl
kept-back_f zero (e ∷ es) h l = absurd (omega (arith, h.0, simp length-append at l))
kept-back_f (suc f) (e ∷ es) h l =
    rw (kept_step f e (kept_log es) h.0 h.1, kept-back_f f es h.2 (omega (arith, h.0, simp length-append at l)))

pub kept_back : (es : List (List ℕ)) → Storable es → kept_list (kept_log es) ≡ some es
unfolding kept_list
kept_back es h = kept-back_f (length (kept_log es)) es h (omega arith)

-- the elements of a part that are not accepted
unfoldable pub aside_of : List Element → List (List ℕ)
aside_of [] = []
aside_of (e ∷ es) = pick (is_accepted e.verdict) (aside_of es) (e.octets ∷ aside_of es)

pub kept-log : (es : List Element) → kept_of es ≡ kept_log (aside_of es)
unfolding kept_of kept_log aside_of
kept-log [] = refl
kept-log (e ∷ es) = go (is_accepted e.verdict) (kept-log es)
  where
    go : (b : Bool) → kept_of es ≡ kept_log (aside_of es) → pick b (kept_of es) (kept_entry e.octets ++ kept_of es) ≡ kept_log (pick b (aside_of es) (e.octets ∷ aside_of es))
    go true r = r
    go false r = rw r

-- ---- the order log

unfoldable pub order_log : List Placed → List ℕ
order_log [] = []
order_log (p ∷ ps) = order_entry p ++ order_log ps

-- an entry at the front is taken, whatever follows
pub order-step : (f : ℕ) (p : Placed) (s : List ℕ) → order_list_f (suc f) (order_entry p ++ s) ≡ put p (order_list_f f s)
unfolding order_list_f order_entry
order-step f (known_iei i) s = refl
order-step f not_known s = refl
order-step f (ignored by_form) s = refl
order-step f (ignored again) s = refl
order-step f (ignored late) s = refl

-- an entry takes an octet or two
pub order-room : (p : Placed) → (1 ≤ length (order_entry p)) × (length (order_entry p) ≤ 2)
unfolding order_entry
order-room (known_iei i) = omega arith
order-room not_known = omega arith
order-room (ignored by_form) = omega arith
order-room (ignored again) = omega arith
order-room (ignored late) = omega arith

order-back_f : (f : ℕ) (ps : List Placed) → length (order_log ps) ≤ f → order_list_f f (order_log ps) ≡ some ps
unfolding order_list_f order_log put
order-back_f zero [] l = refl
order-back_f (suc f) [] l = refl
order-back_f zero (p ∷ ps) l = absurd (omega (arith, order-room p, simp length-append at l))
order-back_f (suc f) (p ∷ ps) l = rw (order-step f p (order_log ps), order-back_f f ps (omega (arith, order-room p, simp length-append at l)))

pub order-back : (ps : List Placed) → order_list (order_log ps) ≡ some ps
unfolding order_list
order-back ps = order-back_f (length (order_log ps)) ps (omega arith)

-- one step of a log that begins with 00; the other entries compute
pub order-counted : (f g : ℕ) (s : List ℕ) → length s ≤ f → length s ≤ g → order_list_f f s ≡ order_list_f g s
unfolding order_list_f
order-counted zero zero s h k = refl
order-counted zero (suc g) [] h k = refl
order-counted zero (suc g) (x ∷ s) h k = absurd (omega arith)
order-counted (suc f) zero [] h k = refl
order-counted (suc f) zero (x ∷ s) h k = absurd (omega arith)
order-counted (suc f) (suc g) [] h k = refl
order-counted (suc f) (suc g) (zero ∷ []) h k = refl
order-counted (suc f) (suc g) (zero ∷ i ∷ s) h k = ap (put (known_iei i)) (order-counted f g s (omega arith) (omega arith))
order-counted (suc f) (suc g) (suc zero ∷ s) h k = ap (put not_known) (order-counted f g s (omega arith) (omega arith))
order-counted (suc f) (suc g) (suc (suc zero) ∷ s) h k = ap (put (ignored by_form)) (order-counted f g s (omega arith) (omega arith))
order-counted (suc f) (suc g) (suc (suc (suc zero)) ∷ s) h k = ap (put (ignored again)) (order-counted f g s (omega arith) (omega arith))
order-counted (suc f) (suc g) (suc (suc (suc (suc zero))) ∷ s) h k = ap (put (ignored late)) (order-counted f g s (omega arith) (omega arith))
order-counted (suc f) (suc g) (suc (suc (suc (suc (suc n)))) ∷ s) h k = refl

pub order-known : (i : ℕ) (s : List ℕ) → order_list (zero ∷ i ∷ s) ≡ put (known_iei i) (order_list s)
unfolding order_list order_list_f
order-known i s = ap (put (known_iei i)) (order-counted (suc (length s)) (length s) s (omega arith) (omega arith))

pub order-log : (es : List Element) → entries_of es ≡ order_log (map placed_of es)
unfolding entries_of order_log
order-log [] = refl
order-log (e ∷ es) = rw (order-log es)
