-- Reading into one block is reading into its two parts, split where the kept log ends: the two checks of the logs are the one of the block.
-- By cases on the checks, which both have in front.
use Prim.Native.Nat.{ℕ, ◌+◌, ◌*◌, ◌≤◌, ◌<◌}
use native.Mathlib.Omega.{arith}
use mathlib.Core.Path.{◌≡◌, refl, ap, sym, ◌∙◌}
use mathlib.Core.List.{List, [], ◌∷◌, ◌++◌, append-nil}
use mathlib.Core.Bool.{Bool, true, false, ◌&&◌, ◌||◌}
use mathlib.Core.Option.{Option, none, some}
use lib.ListN.{length, get_or, take, drop, length-append, length-take, length-drop, take-append-drop, drop_of_length-le}
use lib.Seq.{length-take-le, take_all}
use lib.Dec.{ltb, eqb}
use borrow.Author.Tests.{ltb-true, ltb-false, lt-ltb, le-ltb}
use Rattle.definitions.specs.Values.{place_width}
use Rattle.definitions.specs.Basic.{pick, Answer, answer, refusal, refuse, refuse_at, unless, over, most_octets}
use Rattle.definitions.specs.Rows.{Row, rows_of, first_bad}
use Rattle.definitions.specs.Elements.{Element, Parted, elements, cut_short, elements_of, parted}
use Rattle.definitions.specs.Logs.{kept_of, order_of}
use Rattle.definitions.specs.Reading.{place_rows, Lent, Read, unread, cut_of, reading_checks, read_elements, reading}
use Rattle.definitions.specs.Block.{ReadBlock, unread_block, two_parts, both_logs, block_checks, read_block, reading_block}
use Rattle.definitions.proofs.Lists.{over-append}

-- no room for the order log, told as no room in the block
abbrev pub in_one : Answer → Answer
in_one a = pick (eqb a.number 2 && eqb (get_or a.values 0 0) 3) (answer 2 (2 ∷ [])) a

-- what reading into two parts leaves, as one block
abbrev pub as_block : Read → ReadBlock
as_block r = record { said = in_one r.said; rows = r.rows; block = r.kept ++ r.order }

-- the test of 2 (1), as reading has it
abbrev few_rows : List Row → List ℕ → Bool
few_rows t rows = ltb (length rows) (place_width * length t)

-- ---- the two checks and the one

fit-both : (block : List ℕ) (k o : ℕ) → ltb (length block) (k + o) ≡ (ltb (length (take k block)) k || ltb (length (drop k block)) o)
fit-both block k o = go (ltb (length block) k) refl
  where
    go : (b : Bool) → ltb (length block) k ≡ b → ltb (length block) (k + o) ≡ (ltb (length (take k block)) k || ltb (length (drop k block)) o)
    go true e =
        let h : length block < k = ltb-true (length block) k e in
        let i : take k block ≡ block = take_all k block (omega arith) in
        rw (i, e, lt-ltb (length block) (k + o) (omega arith))
    go false e =
        let h : k ≤ length block = ltb-false (length block) k e in
        let l : length (take k block) ≡ k = length-take-le k block h in
        rw (le-ltb (length (take k block)) k (omega arith)) (by (ltb (length block) (k + o)) refl h)
      where
        by : (c : Bool) → ltb (length block) (k + o) ≡ c → k ≤ length block → c ≡ ltb (length (drop k block)) o
        by true q h = sym (lt-ltb (length (drop k block)) o (omega (arith, length-drop k block, ltb-true (length block) (k + o) q)))
        by false q h = sym (le-ltb (length (drop k block)) o (omega (arith, length-drop k block, ltb-false (length block) (k + o) q)))

-- ---- what is left

-- a front that takes all there is room for
pub over-all : (front block : List ℕ) → over front (take (length front) block) ≡ front
unfolding over
over-all front block =
    rw (drop_of_length-le (take (length front) block) {i = length front} (simp length-take (omega arith)), append-nil)

logs-in : (kept order block : List ℕ) → over (kept ++ order) block ≡ over kept (take (length kept) block) ++ over order (drop (length kept) block)
logs-in kept order block = over-append kept order block ∙ ap (λ (s : List ℕ). s ++ over order (drop (length kept) block)) (sym (over-all kept block))

-- ---- the whole

module _ (table : List ℕ) (start : ℕ) (option : Bool) (part rows block : List ℕ) where
  abbrev t : List Row
  t = rows_of table

  abbrev p : Parted
  p = parted t start option part

  abbrev pub kept_use : ℕ
  kept_use = length (kept_of (elements_of p))

  abbrev pub order_use : ℕ
  order_use = length (order_of t (elements_of p))

  by-checks : (f : Option ℕ) (a b : Bool) (q : Parted) (x y : Bool) (l : Lent) (r : Read) (d : ReadBlock) → l.rows ≡ rows → l.kept ++ l.order ≡ block → d ≡ as_block r
      → unless (refusal (refuse_at 4 f ∷ refuse a 3 [] ∷ refuse b 2 (1 ∷ []) ∷ cut_of q ∷ refuse (x || y) 2 (2 ∷ []) ∷ [])) (unread_block rows block) d
      ≡ as_block (unless (refusal (refuse_at 4 f ∷ refuse a 3 [] ∷ refuse b 2 (1 ∷ []) ∷ cut_of q ∷ refuse x 2 (2 ∷ []) ∷ refuse y 2 (3 ∷ []) ∷ [])) (unread l) r)
  unfolding refusal cut_of
  by-checks (some k) a b q x y l r d g h e = rw (g, h)
  by-checks none true b q x y l r d g h e = rw (g, h)
  by-checks none false true q x y l r d g h e = rw (g, h)
  by-checks none false false (cut_short i j m n) x y l r d g h e = rw (g, h)
  by-checks none false false (elements es) true y l r d g h e = rw (g, h)
  by-checks none false false (elements es) false true l r d g h e = rw (g, h)
  by-checks none false false (elements es) false false l r d g h e = e

  pub as-reading : reading_block table start option part rows block ≡ as_block (reading table start option part (two_parts rows block kept_use))
  unfolding reading_block block_checks reading reading_checks read_block read_elements both_logs
  as-reading =
      let n : length (kept_of (elements_of p) ++ order_of t (elements_of p)) ≡ kept_use + order_use = length-append (kept_of (elements_of p)) (order_of t (elements_of p)) in
      rw (n, fit-both block kept_use order_use)
      (by-checks (first_bad t) (ltb most_octets (length part)) (few_rows t rows) p (ltb (length (take kept_use block)) kept_use) (ltb (length (drop kept_use block)) order_use) (two_parts rows block kept_use) (read_elements t (two_parts rows block kept_use) (elements_of p)) (read_block t rows block (elements_of p)) refl (take-append-drop kept_use block)
      (ap (λ (s : List ℕ). record { said = answer 0 (kept_use ∷ order_use ∷ []); rows = over (place_rows t (elements_of p)) rows; block = s }) (logs-in (kept_of (elements_of p)) (order_of t (elements_of p)) block)))

-- ---- reading that is done is done with other logs that have room

again : (f : Option ℕ) (a b : Bool) (q : Parted) (x y x' y' : Bool) (l l' : Lent) (r r' : Read)
    → (unless (refusal (refuse_at 4 f ∷ refuse a 3 [] ∷ refuse b 2 (1 ∷ []) ∷ cut_of q ∷ refuse x 2 (2 ∷ []) ∷ refuse y 2 (3 ∷ []) ∷ [])) (unread l) r).said.number ≡ 0
    → x' ≡ false → y' ≡ false
    → unless (refusal (refuse_at 4 f ∷ refuse a 3 [] ∷ refuse b 2 (1 ∷ []) ∷ cut_of q ∷ refuse x' 2 (2 ∷ []) ∷ refuse y' 2 (3 ∷ []) ∷ [])) (unread l') r' ≡ r'
unfolding refusal cut_of
again (some k) a b q x y x' y' l l' r r' h i j = absurd (omega arith)
again none true b q x y x' y' l l' r r' h i j = absurd (omega arith)
again none false true q x y x' y' l l' r r' h i j = absurd (omega arith)
again none false false (cut_short c d m n) x y x' y' l l' r r' h i j = absurd (omega arith)
again none false false (elements es) x y x' y' l l' r r' h i j = rw (i, j)

pub other-logs : (table : List ℕ) (start : ℕ) (option : Bool) (part : List ℕ) (l : Lent) (kept order : List ℕ) → (reading table start option part l).said.number ≡ 0
    → let es : List Element = elements_of (parted (rows_of table) start option part) in let l' : Lent = record { rows = l.rows; kept = kept; order = order } in
    length (kept_of es) ≤ length kept → length (order_of (rows_of table) es) ≤ length order → reading table start option part l' ≡ read_elements (rows_of table) l' es
unfolding reading reading_checks
other-logs table start option part l kept order h i j =
    let t : List Row = rows_of table in
    let p : Parted = parted t start option part in
    let k : ℕ = length (kept_of (elements_of p)) in
    let o : ℕ = length (order_of t (elements_of p)) in
    let l' : Lent = record { rows = l.rows; kept = kept; order = order } in
    again (first_bad t) (ltb most_octets (length part)) (few_rows t l.rows) p (ltb (length l.kept) k) (ltb (length l.order) o) (ltb (length kept) k) (ltb (length order) o) l l'
    (read_elements t l (elements_of p)) (read_elements t l' (elements_of p)) h (le-ltb (length kept) k i) (le-ltb (length order) o j)
