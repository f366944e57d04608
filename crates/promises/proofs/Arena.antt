-- One block for both logs. An accepted element has two octets in the order log, any other one there and at most twice its own in the
-- kept log: at most three times its octets. Octets 90 without a place reach it. The rest is `as-reading` and the round trip.
use Prim.Native.Nat.{ℕ, zero, suc, ◌+◌, ◌*◌, ◌≤◌, ◌<◌}
use native.Mathlib.Omega.{arith}
use mathlib.Core.Path.{◌≡◌, refl, sym, ap, ◌∙◌}
use mathlib.Core.List.{List, [], ◌∷◌, ◌++◌}
use mathlib.Core.Option.{Option, none, some}
use mathlib.Core.Bool.{Bool, true, false, ◌&&◌, true≢false}
use lib.ListN.{length, get_or, take, drop, replicate, length-append, length-replicate, length-drop}
use lib.Seq.{take-append_seam, drop-append_seam, length-take-le}
use lib.Dec.{eqb}
use borrow.Author.Tests.{le-leb}
use Rattle.definitions.specs.Basic.{pick, among, concat, Answer, over, most_octets}
use Rattle.definitions.specs.Rows.{Row, row_of, rows_f, rows_of, ieis, form_of, form, good_iei, all_good, fresh, good_row, first_bad_from, first_bad, iei_of, place_from, place_of}
use Rattle.definitions.specs.Tables.{row, table_p}
use Rattle.definitions.specs.Length.{stated, within, whole, unknown_form, required}
use Rattle.definitions.specs.Elements.{Verdict, accepted, unknown, malformed, repeated, out_of_sequence, Element, Met, is_accepted, octets_of, stranger, Parted, elements, elements_of, parted}
use Rattle.definitions.specs.Logs.{leb_f, leb128, kept_entry, kept_of, placed_of, order_entry, entries_of, plain_from, order_of}
use Rattle.definitions.specs.Reading.{Lent, Read, reading, read_elements}
use Rattle.definitions.specs.Block.{ReadBlock, two_parts, reading_block}
use Rattle.definitions.proofs.LogLaws.{leb-room, order-room}
use Rattle.definitions.proofs.Steps.{Stands, strange, Reads, end, more, parts}
use Rattle.definitions.proofs.Blocks.{in_one, as_block, kept_use, over-all, as-reading, other-logs}
use Rattle.promises.specs.Joined.{joined, Follow}
use Rattle.promises.specs.Arena.{BothRoom, Reaches, BothReached, kept_used, in_two, BlockReads, BlockRoundTrip, BlockDone}
use Rattle.promises.proofs.Join.{elements-join}
use Rattle.promises.proofs.Rows.{element}
use Rattle.promises.proofs.RoundTrip.{done-reads, round_trip}

-- ---- three times the part

-- an element that is not accepted has one octet in the order log
note-aside : (e : Element) → is_accepted e.verdict ≡ false → length (order_entry (placed_of e)) ≡ 1
unfolding is_accepted placed_of order_entry
note-aside e = by e.verdict e.at e.octets e.place
  where
    by : (v : Verdict) (at : ℕ) (o : List ℕ) (p : Option ℕ) → is_accepted v ≡ false → length (order_entry (placed_of (element at o p v))) ≡ 1
    by accepted at o p h = absurd (true≢false h)
    by unknown at o p h = refl
    by malformed at o p h = refl
    by repeated at o p h = refl
    by out_of_sequence at o p h = refl

entries-both : (at : ℕ) (es : List Element) → Follow at es → length (kept_of es) + length (entries_of es) ≤ 3 * length (joined es)
unfolding kept_of entries_of joined Follow kept_entry
entries-both at [] h = omega arith
entries-both at (e ∷ es) h = go (is_accepted e.verdict) refl (entries-both (at + length e.octets) es h.2)
  where
    go : (b : Bool) → is_accepted e.verdict ≡ b → length (kept_of es) + length (entries_of es) ≤ 3 * length (joined es)
        → length (pick b (kept_of es) (kept_entry e.octets ++ kept_of es)) + length (order_entry (placed_of e) ++ entries_of es) ≤ 3 * length (e.octets ++ joined es)
    go true q r = simp length-append (omega (arith, h.1, order-room (placed_of e)))
    go false q r = simp length-append (omega (arith, h.1, leb-room (length e.octets) h.1, note-aside e q))

pub both-room : BothRoom
unfolding order_of
both-room t start option part es p =
    let j = elements-join t start option part es p in
    rw j.0 at (go (plain_from t 0 es) (entries-both 0 es j.1))
  where
    go : (b : Bool) → length (kept_of es) + length (entries_of es) ≤ 3 * length (joined es) → length (kept_of es) + length (pick b [] (entries_of es)) ≤ 3 * length (joined es)
    go true h = omega arith
    go false h = h

-- ---- octets 90

-- n of them from a position on, each an unknown element
unfoldable nineties : ℕ → ℕ → List Element
nineties at zero = []
nineties at (suc n) = stranger at (0x90 ∷ []) ∷ nineties (at + 1) n

module _ (t : List Row) (start : ℕ) (option : Bool) (free : place_of t 0x90 ≡ none) where
  ninety-stands : (m : Met) (at n : ℕ) → Stands t start option m at (replicate (suc n) 0x90) (stranger at (0x90 ∷ [])) m
  unfolding whole within stated unknown_form required iei_of octets_of
  ninety-stands m at n =
      let e : whole (unknown_form start 0x90) (0x90 ∷ replicate n 0x90) ≡ some 1 = rw (le-leb 1 (length {A = ℕ} (0x90 ∷ replicate n 0x90)) (omega arith)) in
      let s : Stands t start option m at (0x90 ∷ replicate n 0x90) (stranger at (octets_of (whole (unknown_form start 0x90) (0x90 ∷ replicate n 0x90)) (0x90 ∷ replicate n 0x90))) m = strange free (λ w. refl) in
      rw e at s

  nineties-read : (m : Met) (at n : ℕ) → Reads t start option m at (replicate n 0x90) (nineties at n)
  unfolding nineties stranger
  nineties-read m at zero = end
  nineties-read m at (suc n) = more (ninety-stands m at n) (nineties-read m (at + 1) n)

nineties-kept : (at n : ℕ) → length (kept_of (nineties at n)) ≡ 2 * n
unfolding nineties stranger kept_of is_accepted kept_entry leb128 leb_f
nineties-kept at zero = refl
nineties-kept at (suc n) = omega (arith, nineties-kept (at + 1) n)

nineties-entries : (at n : ℕ) → length (entries_of (nineties at n)) ≡ n
unfolding nineties stranger entries_of placed_of order_entry
nineties-entries at zero = refl
nineties-entries at (suc n) = omega (arith, nineties-entries (at + 1) n)

nineties-order : (t : List Row) (n : ℕ) → 1 ≤ n → length (order_of t (nineties 0 n)) ≡ n
unfolding nineties stranger order_of plain_from
nineties-order t zero h = absurd (omega arith)
nineties-order t (suc n) h = nineties-entries 0 (suc n)

all-ninety : (n i : ℕ) → get_or (replicate n 0x90) i 0 < 256
all-ninety zero i = omega arith
all-ninety (suc n) zero = omega arith
all-ninety (suc n) (suc i) = all-ninety n i

-- under any table that passes and has no place for them
pub nineties-reach : (table : List ℕ) → first_bad (rows_of table) ≡ none → place_of (rows_of table) 0x90 ≡ none → (start : ℕ) (option : Bool) (n : ℕ) → 1 ≤ n → n ≤ most_octets → Reaches table start option n
nineties-reach table passes free start option n h l =
    record {
      part = replicate n 0x90;
      octets = all-ninety n;
      long = length-replicate {A = ℕ} n 0x90;
      readable = record { passes = passes; short = rw (length-replicate {A = ℕ} n 0x90) l };
      elements' = nineties 0 n;
      decodes = parts (rows_of table) start option (nineties-read (rows_of table) start option free _ 0 n);
      reached = omega (arith, nineties-kept 0 n, nineties-order (rows_of table) n h);
    }

pub both-reached : BothReached
unfolding concat among row_of rows_f rows_of ieis form_of form good_iei all_good fresh good_row first_bad_from first_bad place_from place_of row table_p
both-reached start option n h l = (nineties-reach [] refl refl start option n h l, nineties-reach table_p refl refl start option n h l)

-- ---- the block

said-done : (a : Answer) → (in_one a).number ≡ 0 → (in_one a ≡ a) × (a.number ≡ 0)
said-done a = go (eqb a.number 2 && eqb (get_or a.values 0 0) 3)
  where
    go : (b : Bool) → (pick b (record { number = 2; values = 2 ∷ [] }) a).number ≡ 0 → (pick b (record { number = 2; values = 2 ∷ [] }) a ≡ a) × (a.number ≡ 0)
    go true h = absurd (omega arith)
    go false h = (refl, h)

module _ (table : List ℕ) (start : ℕ) (option : Bool) (part rows block : List ℕ) where
  abbrev t : List Row
  t = rows_of table

  abbrev b : ReadBlock
  b = reading_block table start option part rows block

  abbrev l : Lent
  l = two_parts rows block (kept_use table start option part rows block)

  -- what a reading into two parts that is done leaves, and what it is as one block
  split_done : (es : List Element) → in_two (as_block (read_elements t (two_parts rows block (length (kept_of es))) es)) ≡ read_elements t (two_parts rows block (length (kept_of es))) es
  unfolding read_elements in_two kept_used
  split_done es =
      let k : over (kept_of es) (take (length (kept_of es)) block) ≡ kept_of es = over-all (kept_of es) block in
      let o : List ℕ = over (order_of t es) (drop (length (kept_of es)) block) in
      rw (k, take-append_seam (kept_of es) o, drop-append_seam (kept_of es) o)

  abbrev Split : Type 0
  Split = (reading table start option part l ≡ in_two b) × (kept_use table start option part rows block ≡ kept_used b)

  split_by : (es : List Element) → parted t start option part ≡ elements es → reading table start option part l ≡ read_elements t l es → Split
  unfolding read_elements elements_of kept_used
  split_by es q f =
      let k : kept_use table start option part rows block ≡ length (kept_of es) = ap (λ (p : Parted). length (kept_of (elements_of p))) q in
      let two : ℕ → Read = λ n. read_elements t (two_parts rows block n) es in
      let r : reading table start option part l ≡ two (length (kept_of es)) = f ∙ ap two k in
      let e : b ≡ as_block (two (length (kept_of es))) = as-reading table start option part rows block ∙ ap as_block r in
      (r ∙ sym (split_done es) ∙ ap in_two (sym e), k ∙ ap kept_used (sym e))

  block-split : b.said.number ≡ 0 → Split
  block-split h =
      let n = said-done (reading table start option part l).said (rw (as-reading table start option part rows block) at h) in
      let d = done-reads table start option part l n.1 in
      split_by d.0 d.2 d.3

pub block_reads : BlockReads
block_reads table start option part rows block h =
    let s = block-split table start option part rows block h in
    rw s.1 at s.0

pub block-round-trip : BlockRoundTrip
unfolding in_two
block-round-trip table start option part rows block set output small h n =
    let r = block_reads table start option part rows block h in
    let l : Lent = two_parts rows block (kept_used (reading_block table start option part rows block)) in
    let d : (reading table start option part l).said.number ≡ 0 = ap (λ (x : Read). x.said.number) r ∙ h in
    rw r at (round_trip table start option part l set output small d n)

pub block-done : BlockDone
unfolding read_elements elements_of
block-done table start option part l block h n =
    let d = done-reads table start option part l h in
    let t : List Row = rows_of table in
    let es : List Element = elements_of (parted t start option part) in
    let q : es ≡ d.0 = ap elements_of d.2 in
    let k : ℕ = length (kept_of es) in
    let room : k + length (order_of t es) ≤ 3 * length part = both-room t start option part es (d.2 ∙ ap elements (sym q)) in
    let f : reading table start option part (two_parts l.rows block k) ≡ read_elements t (two_parts l.rows block k) es =
    other-logs table start option part l (take k block) (drop k block) h (omega (arith, length-take-le k block (omega arith))) (omega (arith, length-drop k block)) in
    ap (λ (x : ReadBlock). x.said) (as-reading table start option part l.rows block ∙ ap as_block f)
    ∙ ap (λ (x : List Element). (read_elements t l x).said) q
    ∙ ap (λ (x : Read). x.said) (sym d.3)
