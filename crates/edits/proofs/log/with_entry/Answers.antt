-- `with_entry` judges the row of a known entry's place, and adds the place to the set.
-- Each arm names the entry.
use native.Mathlib.Omega.{arith}
use mathlib.Core.Path.{◌≡◌, ap, sym, ◌∙◌}
use Rattle.definitions.specs.Rows.{rows_of, place_of}
use Rattle.rows.specs.Answers.{place_as}
use Rattle.edits.proofs.Logged.{place_found, place-low, with-known, with-nowhere, with-unknown, with-ignored}
use Rattle.edits.proofs.log.with_entry.Goals as goal

pub returns-in-Some : goal.returns-in-Some
returns-in-Some c =
    let found : place_as c.place_of.result ≡ place_of (rows_of c.args.table.now) c.in-Known.iei = c.place_of.ensures ∙ place_found c.args.table.now c.args.index.now c.in-Known.iei (c.requires) (omega arith) in
    rw c.in-Known.is (with-known (rows_of c.args.table.now) c.args.rows.now c.args.want c.args.a c.in-Known.iei c.in-Some.k (sym (found) ∙ ap place_as c.in-Some.is) (place-low (rows_of c.args.table.now) c.in-Known.iei c.in-Some.k c.requires.passes (sym (found) ∙ ap place_as c.in-Some.is)) c.with.ensures c.apart_with.ensures c.iei_with.ensures)

pub returns-in-None : goal.returns-in-None
returns-in-None c =
    let found : place_as c.place_of.result ≡ place_of (rows_of c.args.table.now) c.in-Known.iei = c.place_of.ensures ∙ place_found c.args.table.now c.args.index.now c.in-Known.iei (c.requires) (omega arith) in
    rw c.in-Known.is (with-nowhere (rows_of c.args.table.now) c.args.rows.now c.args.want c.args.a c.in-Known.iei (sym (found) ∙ ap place_as c.in-None.is))

pub returns-in-Unknown : goal.returns-in-Unknown
returns-in-Unknown c = rw c.in-Unknown.is (with-unknown (rows_of c.args.table.now) c.args.rows.now c.args.want c.args.a)

pub returns-in-Ignored : goal.returns-in-Ignored
returns-in-Ignored c = rw c.in-Ignored.is (with-ignored (rows_of c.args.table.now) c.args.rows.now c.args.want c.args.a _)
