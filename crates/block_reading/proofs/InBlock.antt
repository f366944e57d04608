-- From a reading into the two parts of a block to one into the block: the answer is the same but for the room of the order log, and the
-- block is one part in front of the other.
use Prim.Native.Nat.{ℕ, ◌<◌}
use native.Mathlib.Omega.{arith}
use mathlib.Core.Path.{◌≡◌, refl, ap, sym, ◌∙◌}
use mathlib.Core.List.{List, [], ◌++◌}
use mathlib.Core.Bool.{Bool}
use mathlib.Core.Option.{none, some}
use lib.ListN.{length, take, drop, take-append-drop}
use lib.Seq.{take_all}
use Rattle.definitions.specs.Basic.{Answer, answer}
use Rattle.definitions.specs.Tables.{table_of, start_of}
use Rattle.definitions.specs.Reading.{Lent, unread, reading}
use Rattle.definitions.specs.Block.{ReadBlock, unread_block, two_parts, reading_block, reading_block_by}
use Rattle.definitions.proofs.Blocks.{in_one, as_block, kept_use, as-reading}
use Rattle.filling.specs.Decodes.{Decoded, decoded_as, Reads}
use Rattle.block_reading.specs.Blocks.{ReadsBlock}
use Rattle.filling.proofs.Noting.{refused}

-- a part that the block is too short for
pub first_short : (k : ℕ) (block : List ℕ) → length block < k → length (take k block) < k
first_short k block h = rw (take_all k block (omega arith)) h

module _ (table : List ℕ) (start : ℕ) (option : Bool) (part rows block : List ℕ) where
  -- split where the kept log ends, with what is left in each part
  pub in_parts : (k : ℕ) → k ≡ kept_use table start option part rows block → {d d' : Decoded} {rows' kept' order' : List ℕ}
      → Reads (reading table start option part (two_parts rows block k)) d rows' kept' order' → in_one (decoded_as d) ≡ decoded_as d'
      → ReadsBlock (reading_block table start option part rows block) d' rows' (kept' ++ order')
  in_parts k u {order' = order'} r q =
      let e : reading_block table start option part rows block ≡ as_block (reading table start option part (two_parts rows block k)) =
      as-reading table start option part rows block ∙ ap (λ (n : ℕ). as_block (reading table start option part (two_parts rows block n))) (sym u) in
      record {
        answers = sym q ∙ ap in_one r.answers ∙ ap (λ (x : ReadBlock). x.said) (sym e);
        rows_are = r.rows_are ∙ ap (λ (x : ReadBlock). x.rows) (sym e);
        block-is =
            ap (λ (s : List ℕ). s ++ order') r.kept-is
            ∙ ap (λ (s : List ℕ). (reading table start option part (two_parts rows block k)).kept ++ s) r.order_is
            ∙ ap (λ (x : ReadBlock). x.block) (sym e);
      }

  -- and of the whole block
  pub in_block : (k : ℕ) → k ≡ kept_use table start option part rows block → {d d' : Decoded} {rows' block' : List ℕ}
      → Reads (reading table start option part (two_parts rows block k)) d rows' (take k block') (drop k block') → in_one (decoded_as d) ≡ decoded_as d'
      → ReadsBlock (reading_block table start option part rows block) d' rows' block'
  in_block k u {block' = block'} r q =
      let w = in_parts k u r q in
      record { answers = w.answers; rows_are = w.rows_are; block-is = sym (take-append-drop k block') ∙ w.block-is }

  -- a refusal that looks at no log
  pub block_refused : {a : Answer} {d : Decoded} → let l : Lent = two_parts rows block (kept_use table start option part rows block) in
      reading table start option part l ≡ unread l a → decoded_as d ≡ a → in_one a ≡ a → ReadsBlock (reading_block table start option part rows block) d rows block
  block_refused {a} {d} e q i =
      let k : ℕ = kept_use table start option part rows block in
      in_block k refl {d = d} {d' = d} (refused {l = two_parts rows block k} e q) (ap in_one q ∙ i ∙ sym q)

-- ---- by table number

pub block-by-number : (n : ℕ) {table : List ℕ} (option : Bool) (part rows block : List ℕ) → table_of n ≡ some table → reading_block_by n option part rows block ≡ reading_block table start_of option part rows block
unfolding reading_block_by
block-by-number n option part rows block e = rw (e, reading_block_by)

pub block-by-none : (n : ℕ) (option : Bool) (part rows block : List ℕ) → table_of n ≡ none → reading_block_by n option part rows block ≡ unread_block rows block (answer 5 [])
unfolding reading_block_by
block-by-none n option part rows block e = rw (e, reading_block_by)

-- the same of an equal reading
pub moved-block : {r r' : ReadBlock} {d : Decoded} {rows block : List ℕ} → r' ≡ r → ReadsBlock r d rows block → ReadsBlock r' d rows block
moved-block e h = rw e h
