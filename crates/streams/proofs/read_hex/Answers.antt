-- The octets that were decoded stand in the front of the buffer, and no more of them are told.
use Rattle.std.proofs.Common.{arith}
use Rattle.std.proofs.Math.ListN.{length-take}
use Rattle.hex_text.proofs.HexLaws.{front_fits}
use Rattle.streams.proofs.read_hex.Goals as goal

pub returns : goal.returns
returns c =
    let d = c.decode-decoded in
    let f = front_fits _ _ d.ensures.len_value d.ensures.part_after in
    rw c.in_ok-judged.ensures (f, simp length-take (omega arith))
