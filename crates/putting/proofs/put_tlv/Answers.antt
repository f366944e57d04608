-- `put_tlv` puts the value behind its IEI and its length.
-- A length over an octet does not fit; any other does, and the rest is a question of room.
use native.Mathlib.Omega.{arith}
use mathlib.Core.Path.{refl}
use borrow.Author.Tests.{le-leb, lt-leb}
use lib.ListN.{length}
use Rattle.definitions.specs.Rows.{tlv}
use Rattle.definitions.specs.Values.{fits}
use Rattle.definitions.specs.Writing.{encoded}
use Rattle.putting.specs.Puts.{addable}
use Rattle.putting.proofs.Putting.{put-not, not-fit, put-fitting, converted, not_converted}
use Rattle.putting.proofs.put_tlv.Goals as goal

pub returns-in_err-n : goal.returns-in_err-n
unfolding fits
returns-in_err-n c =
    let a = c.args in
    rw c.from_residual.ensures (put-not (not-fit tlv 0 a.iei a.value.now a.out.now (lt-leb (length a.value.now) 255 (not_converted c.try_from.result c.try_from.ensures c.in_err-n.ensures.variant))))

pub returns : goal.returns
unfolding fits addable encoded
returns c =
    let a = c.args in
    let w = converted c.try_from.result c.try_from.ensures c.in_ok-n.ensures.value in
    put-fitting tlv 0 a.iei a.value.now a.out.now (le-leb (length a.value.now) 255 (omega (arith, w.0))) refl (rw w.1 at c.put_headed.ensures)
