-- `put_tlve` puts the value behind its IEI and both octets of its length.
-- A length over two octets does not fit; any other does, and the rest is a question of room.
use Prim.Native.Nat.{◌/◌, ◌%◌}
use native.Mathlib.Omega.{arith}
use mathlib.Core.Path.{◌≡◌, refl}
use borrow.Author.Tests.{le-leb, lt-leb}
use lib.ListN.{length}
use Rattle.definitions.specs.Rows.{tlv-e}
use Rattle.definitions.specs.Values.{fits}
use Rattle.definitions.specs.Writing.{encoded}
use Rattle.putting.specs.Puts.{addable}
use Rattle.putting.proofs.Putting.{put-not, not-fit, put-fitting, converted, not_converted}
use Rattle.putting.proofs.put_tlve.Goals as goal

pub returns-in_err-ok : goal.returns-in_err-ok
unfolding fits
returns-in_err-ok c =
    let a = c.args in
    rw c.from_residual.ensures (put-not (not-fit tlv-e 0 a.iei a.value.now a.out.now (lt-leb (length a.value.now) 65535 (not_converted c.try_from.result c.try_from.ensures c.in_err-ok.ensures.variant))))

pub returns : goal.returns
unfolding fits addable encoded
returns c =
    let a = c.args in
    let w = converted c.try_from.result c.try_from.ensures c.in_ok-ok.ensures.value in
    let high : length a.value.now / 256 % 256 ≡ length a.value.now / 256 = omega (arith, w.0) in
    put-fitting tlv-e 0 a.iei a.value.now a.out.now (le-leb (length a.value.now) 65535 (omega (arith, w.0))) refl (rw (c.to_be_bytes.ensures, w.1, high) at c.put_headed.ensures)
