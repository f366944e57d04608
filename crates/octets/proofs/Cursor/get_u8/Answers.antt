-- `Cursor::get_u8` equals the number at the cursor.
-- What `advance` gave says whether its octets are there.
use mathlib.Core.Path.{sym, ◌∙◌}
use native.Mathlib.Omega.{arith}
use Rattle.definitions.proofs.Octets.{number-one, number_short}
use Rattle.octets.proofs.Laws.{moved-is, moved-none}
use Rattle.octets.proofs.Cursor.get_u8.Goals as goal

pub returns-in_err-next : goal.returns-in_err-next
returns-in_err-next c = let a = c.args in let h = moved-none 1 a.self.at a.s.now (sym c.in_err-next.was ∙ c.advance.ensures) in rw number_short c.from_residual.ensures

pub bounds-s-self : goal.bounds-s-self
bounds-s-self c = let a = c.args in let t = moved-is 1 a.self.at a.s.now c.in_ok-next.next (sym c.in_ok-next.was ∙ c.advance.ensures) in omega arith

pub returns : goal.returns
returns c =
    let a = c.args in
    let t = moved-is 1 a.self.at a.s.now c.in_ok-next.next (sym c.in_ok-next.was ∙ c.advance.ensures) in
    let h = t.0 in rw (number-one, t.1)
