-- `decode_into_block_by` reads by the table that the number names, with its index.
-- Where there is no table, nothing changes.
use mathlib.Core.Path.{refl}
use Rattle.real.proofs.Passing.{own-index, not-numbered}
use Rattle.block_reading.proofs.InBlock.{block-by-number, block-by-none, moved-block}
use Rattle.block_reading.proofs.decode_into_block_by.Goals as goal

pub returns-in_default : goal.returns-in_default
returns-in_default c =
    let a = c.args in
    let e = not-numbered a.number c.numbered.result c.in_default.not-Some c.numbered.ensures in
    moved-block (block-by-none a.number a.out_of_sequence a.octets.now a.rows.now a.block.now e) (record { answers = refl; rows_are = refl; block-is = refl })

pub block_by_index-requires : goal.block_by_index-requires
block_by_index-requires c = own-index c.args.number c.in-Some.table c.in-Some.ensures

pub returns : goal.returns
returns c = let a = c.args in moved-block (block-by-number a.number a.out_of_sequence a.octets.now a.rows.now a.block.now c.in-Some.ensures.0) c.block_by_index.ensures
