-- `put_digits` puts the digits of a tenth, and then the last.
-- Each way out is the definition's case of the digits that may come.
use Prim.Native.Nat.{◌-◌, ◌/◌}
use native.Mathlib.Omega.{arith}
use native.Mathlib.Nat.{pos_of_ne-zero}
use Rattle.wording.proofs.Puts.{put-none, joined, at-text}
use Rattle.wording.proofs.Lines.{digits-short, digits-none, digits-one, digits_more}
use Rattle.wording.proofs.put.+put_digits.Goals as goal

pub returns-then-most-eq0 : goal.returns-then-most-eq0
returns-then-most-eq0 t c = at-text (digits-none c.args.most c.args.n c.if-most-eq0.true) (put-none c.args.out.now c.args.used)

pub returns-then-n-lt10 : goal.returns-then-n-lt10
returns-then-n-lt10 t c = at-text (digits-one c.args.most c.args.n c.if-most-eq0.false c.if-n-lt10.true) c.put_octet.ensures

pub put_octet-requires-2 : goal.put_octet-requires-2
put_octet-requires-2 t c = let p = pos_of_ne-zero c.if-most-eq0.false in omega (arith, c.requires, c.put_digits-next.ensures.used, digits-short (c.args.most - 1) (c.args.n / 10))

pub returns : goal.returns
returns t c = at-text (digits_more c.args.most c.args.n c.if-most-eq0.false c.if-n-lt10.false) (joined c.put_digits-next.ensures c.put_octet-2.ensures)
