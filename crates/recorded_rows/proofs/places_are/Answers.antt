-- Each turn by its row.
use Rattle.std.proofs.Common.{◌≡◌, true, false, sym, ◌∙◌, ne_eqb}
use Rattle.recorded_rows.specs.Places.{place_is, next_is, behind_place}
use Rattle.recorded_rows.proofs.Comparing.{place-not, place-on, other-end, same_end}
use Rattle.recorded_rows.proofs.places_are.Goals as goal

pub returns-then-not-place_is : goal.returns-then-not-place_is
returns-then-not-place_is c =
    let a = c.args in
    let l = c.loop-k in
    let s = a.places.list.now in
    let e : place_is l.place.at s (next_is l.place.at s a.end.at l.k) a.rows.now l.row_at ≡ false = cc (c.if-not-place_is.ensures) in
    sym (l.invariant.1 ∙ place-not s a.end.at a.rows.now a.n l.place.at l.row_at l.k c.loop-k-test.true e)

pub loop-k-preserved : goal.loop-k-preserved
loop-k-preserved c =
    let a = c.args in
    let l = c.loop-k in
    let s = a.places.list.now in
    let e : place_is l.place.at s (next_is l.place.at s a.end.at l.k) a.rows.now l.row_at ≡ true = cc (c.if-not-place_is.ensures) in
    let b : c.behind_place-place.result.at ≡ behind_place l.place.at (next_is l.place.at s a.end.at l.k) = cc in
    (cc, rw (b, c.after-row_at.ensures) (l.invariant.1 ∙ place-on s a.end.at a.rows.now a.n l.place.at l.row_at l.k c.loop-k-test.true e))

pub returns-then-place-end : goal.returns-then-place-end
returns-then-place-end c =
    let a = c.args in
    let l = c.loop-k in
    c.is_from.ensures ∙ sym (l.invariant.1 ∙ same_end a.places.list.now a.end.at a.rows.now a.n l.place.at l.row_at l.k c.loop-k-test.false c.if-place-end.true)

pub returns-else-place-end : goal.returns-else-place-end
returns-else-place-end c =
    let a = c.args in
    let l = c.loop-k in
    ne_eqb l.place.at a.end.at c.if-place-end.false ∙ sym (l.invariant.1 ∙ other-end a.places.list.now a.end.at a.rows.now a.n l.place.at l.row_at l.k c.loop-k-test.false c.if-place-end.false)
