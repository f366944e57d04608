use Rattle.std.proofs.Common.{sym, ◌∙◌, le-ltb}
use Rattle.recorded_rows.proofs.Comparing.{no-next, next-by}
use Rattle.recorded_rows.proofs.is_next.Goals as goal

pub returns-then-place-end : goal.returns-then-place-end
returns-then-place-end c =
    let a = c.args in
    rw (c.from.ensures, c.octet.ensures) (sym (next-by a.place.at a.place.list.now a.end.at a.k c.if-place-end.true))

pub returns-else-place-end : goal.returns-else-place-end
returns-else-place-end c =
    let a = c.args in
    le-ltb a.place.at a.end.at c.if-place-end.false ∙ sym (no-next a.place.at a.place.list.now a.end.at a.k c.if-place-end.false)
