-- What `all` answers of the numbers behind those that are passed over.
use Rattle.std.proofs.Common.{eqb, ◌∙◌, drop, rules, tests}
use Rattle.std.proofs.lemmas.Iterator.{YieldsList-from_slice}
use Rattle.std.proofs.lemmas.Iterator.Search.{all_from_yields_List}
use Rattle.std.proofs.lemmas.Iterator.Adapters.{YieldsList-from_skip}
use Rattle.recorded_rows.proofs.Comparing.{all-same}
use Rattle.recorded_rows.proofs.is_from.Goals as goal

pub returns : goal.returns
returns c =
    let a = c.args in
    let e = all_from_yields_List (λ y. eqb y a.x) _ _ c.all.result c.all.ensures.ran (YieldsList-from_skip a.at (YieldsList-from_slice a.s.now cc) cc) (λ x b q k. search (rules, tests)) in
    e ∙ all-same a.x (drop a.at a.s.now)
