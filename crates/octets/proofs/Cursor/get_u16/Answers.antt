-- `Cursor::get_u16` equals the number at the cursor.
-- What `advance` gave says whether its octets are there.
use mathlib.Core.Path.{sym, ◌∙◌}
use native.Mathlib.Omega.{arith}
use Rattle.definitions.proofs.Octets.{number-two, number_short}
use Rattle.octets.proofs.Laws.{moved-is, moved-none}
use Rattle.octets.proofs.Cursor.get_u16.Goals as goal

pub returns-in_err-next : goal.returns-in_err-next
returns-in_err-next c = let a = c.args in let h = moved-none 2 a.self.at a.s.now (sym c.in_err-next.was ∙ c.advance.ensures) in rw number_short c.from_residual.ensures

pub bounds-s-at : goal.bounds-s-at
bounds-s-at c = let a = c.args in let t = moved-is 2 a.self.at a.s.now c.in_ok-next.next (sym c.in_ok-next.was ∙ c.advance.ensures) in omega arith

pub bounds-s-at-2 : goal.bounds-s-at-2
bounds-s-at-2 c = let a = c.args in let t = moved-is 2 a.self.at a.s.now c.in_ok-next.next (sym c.in_ok-next.was ∙ c.advance.ensures) in omega arith

pub returns : goal.returns
returns c =
    let a = c.args in
    let t = moved-is 2 a.self.at a.s.now c.in_ok-next.next (sym c.in_ok-next.was ∙ c.advance.ensures) in
    let h = t.0 in let f = c.from_be_bytes.ensures in rw (number-two, t.1, f)
