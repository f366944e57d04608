-- `is_bare` is what `all` answers of the places: each is bare by its row.
use Prim.Native.Nat.{◌-◌}
use mathlib.Core.Path.{refl, ◌∙◌}
use Rattle.std.proofs.Common.{rules, tests}
use Rattle.std.proofs.lemmas.Iterator.{YieldsList-from_range}
use Rattle.std.proofs.lemmas.Iterator.Search.{all_from_yields_List}
use Rattle.values.specs.Rows.{sources_of}
use Rattle.unnamed.proofs.Naming.{bare_row, all-bare}
use Rattle.unnamed.proofs.is_bare.Goals as goal

pub returns : goal.returns
returns c =
    let a = c.args in
    let o = sources_of a.received.now a.set.now in
    let e = all_from_yields_List (bare_row o a.rows.now) _ _ c.all.result c.all.ensures.ran (YieldsList-from_range a.from a.to (a.to - a.from) refl refl) (λ x b q k. search (rules, tests)) in
    e ∙ all-bare o a.rows.now (a.to - a.from) a.from
