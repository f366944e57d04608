use Rattle.std.proofs.Common.{sym, ◌∙◌, rules}
use Rattle.recorded_rows.proofs.Comparing.{place-absent, place-there}
use Rattle.recorded_rows.proofs.place_is.Goals as goal

pub returns-then-not-is_present : goal.returns-then-not-is_present
returns-then-not-is_present c = c.row_is.ensures ∙ sym (place-absent _ _ _ _ (search rules))

pub returns : goal.returns
returns c =
    let a = c.args in
    let t = place-there a.place.at a.place.list.now a.rows.now a.row_at {b = a.is_present} (search rules) in
    cc
