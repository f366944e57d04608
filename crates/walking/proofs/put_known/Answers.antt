-- `put_known` writes the added elements below the place of the IEI, and then the place's own.
-- The two pieces are the entry's; an IEI without a place has none.
use native.Mathlib.Omega.{arith}
use mathlib.Core.Path.{◌≡◌, refl, ap, sym, ◌∙◌}
use mathlib.Core.Option.{some}
use Rattle.definitions.specs.Rows.{place_in}
use Rattle.rows.specs.Answers.{place_as}
use Rattle.rows.proofs.Steps.{none-where}
use Rattle.seen.specs.Seen.{set_of}
use Rattle.placing.specs.Pieces.{lent_of}
use Rattle.walking.proofs.Laying.{lays-none, lays-inside, lays-then}
use Rattle.walking.proofs.Runs.{known-nowhere, known_at}
use Rattle.walking.proofs.put_known.Goals as goal

pub put_place-requires : goal.put_place-requires
put_place-requires c = lays-inside c.put_lower-at.ensures c.requires

pub returns : goal.returns
returns c =
    let at_place : place_in c.args.index.now c.args.iei ≡ some c.in-Some.k = sym c.place_of.ensures ∙ ap place_as c.in-Some.is in
    let a = c.args in
    let e = known_at (lent_of a.table.now a.rows.now a.received.now a.set.now) a.index.now (set_of a.added) a.iei a.pen.place (at_place) in
    record { lays = rw e.0 (lays-then c.put_lower-at.ensures c.put_place.ensures); kept = refl; place = omega (arith, c.max.ensures, e.1) }

pub returns-in_default : goal.returns-in_default
returns-in_default c =
    let a = c.args in
    let e = known-nowhere (lent_of a.table.now a.rows.now a.received.now a.set.now) a.index.now (set_of a.added) a.iei a.pen.place (sym c.place_of.ensures ∙ ap place_as (none-where c.place_of.result c.in_default.not-Some)) in
    record { lays = rw e.0 lays-none; kept = refl; place = sym e.1 }
