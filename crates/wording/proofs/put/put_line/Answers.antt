-- `put_line` puts the pieces of a line one behind the other.
-- Each is short, so no position wraps.
use native.Mathlib.Omega.{arith}
use Rattle.wording.specs.Lines.{line_of}
use Rattle.wording.proofs.Puts.{joined}
use Rattle.wording.proofs.Lines.{decimal-short, hex-long, word-short}
use Rattle.wording.proofs.put.put_line.Goals as goal

pub put_octet-b-requires : goal.put_octet-b-requires
put_octet-b-requires c = omega (arith, c.requires, c.put_decimal-a.ensures.used, decimal-short c.args.e.start)

pub put_decimal-c-requires : goal.put_decimal-c-requires
put_decimal-c-requires c = omega (arith, c.requires, c.put_decimal-a.ensures.used, decimal-short c.args.e.start, c.put_octet-b.ensures.used)

pub put_octet-d-requires : goal.put_octet-d-requires
put_octet-d-requires c = omega (arith, c.requires, c.put_decimal-a.ensures.used, decimal-short c.args.e.start, c.put_octet-b.ensures.used, c.put_decimal-c.ensures.used, decimal-short c.args.e.len)

pub put_hex-f-requires : goal.put_hex-f-requires
put_hex-f-requires c = omega (arith, c.requires, c.put_decimal-a.ensures.used, decimal-short c.args.e.start, c.put_octet-b.ensures.used, c.put_decimal-c.ensures.used, decimal-short c.args.e.len, c.put_octet-d.ensures.used)

pub put_octet-g-requires : goal.put_octet-g-requires
put_octet-g-requires c = omega (arith, c.requires, c.put_decimal-a.ensures.used, decimal-short c.args.e.start, c.put_octet-b.ensures.used, c.put_decimal-c.ensures.used, decimal-short c.args.e.len, c.put_octet-d.ensures.used, c.put_hex-f.ensures.used, hex-long c.args.e.iei)

pub put_word-h-requires : goal.put_word-h-requires
put_word-h-requires c = omega (arith, c.requires, c.put_decimal-a.ensures.used, decimal-short c.args.e.start, c.put_octet-b.ensures.used, c.put_decimal-c.ensures.used, decimal-short c.args.e.len, c.put_octet-d.ensures.used, c.put_hex-f.ensures.used, hex-long c.args.e.iei, c.put_octet-g.ensures.used)

pub put_octet-requires : goal.put_octet-requires
put_octet-requires c = omega (arith, c.requires, c.put_decimal-a.ensures.used, decimal-short c.args.e.start, c.put_octet-b.ensures.used, c.put_decimal-c.ensures.used, decimal-short c.args.e.len, c.put_octet-d.ensures.used, c.put_hex-f.ensures.used, hex-long c.args.e.iei, c.put_octet-g.ensures.used, c.put_word-h.ensures.used, word-short c.args.e.placed)

pub returns : goal.returns
unfolding line_of
returns c = joined c.put_decimal-a.ensures (joined c.put_octet-b.ensures (joined c.put_decimal-c.ensures (joined c.put_octet-d.ensures (joined c.put_hex-f.ensures (joined c.put_octet-g.ensures (joined c.put_word-h.ensures c.put_octet.ensures))))))
