-- `decode_optional_ies_by` reads by the table that the number names, with its index.
-- Where there is no table, nothing changes.
use mathlib.Core.Path.{refl}
use Rattle.real.proofs.Passing.{own-index, not-numbered}
use Rattle.filling.specs.Decodes.{lent_of}
use Rattle.filling.proofs.Noting.{refused}
use Rattle.noting.proofs.Decoding.{moved}
use Rattle.reading.proofs.ByNumber.{by_number, by-none}
use Rattle.reading.proofs.decode_optional_ies_by.Goals as goal

pub returns-in_default : goal.returns-in_default
returns-in_default c =
    let a = c.args in
    let l = lent_of a.rows.now a.kept.now a.order.now in
    refused {l = l} (by-none a.number a.out_of_sequence a.octets.now l (not-numbered a.number c.numbered.result c.in_default.not-Some c.numbered.ensures)) refl

pub decode_by_index-requires : goal.decode_by_index-requires
decode_by_index-requires c = own-index c.args.number c.in-Some.table c.in-Some.ensures

pub returns : goal.returns
returns c =
    let a = c.args in
    moved (by_number a.number a.out_of_sequence a.octets.now (lent_of a.rows.now a.kept.now a.order.now) c.in-Some.ensures.0) c.decode_by_index.ensures
