-- `check_by_index` has the answer by where the first offender stands and what stands behind it.
-- Each way out names what was found.
use mathlib.Core.Path.{ap, sym, ◌∙◌}
use mathlib.Core.List.{[], ◌∷◌}
use mathlib.Core.Option.{Option}
use Rattle.std.proofs.lemmas.Result.{err_from_is_err_and}
use Rattle.definitions.specs.Basic.{Answer, answer, unless}
use Rattle.checking.proofs.check_by_index.Goals as goal

pub returns-in_default : goal.returns-in_default
returns-in_default c = sym (c.in_default.ensures c.args.tlve_start)

pub returns-in_err-find_cut : goal.returns-in_err-find_cut
returns-in_err-find_cut c =
    let p = err_from_is_err_and c.from_residual.result c.from_residual.ensures.1 in
    rw (p.1, p.2) (sym (c.in-Some.ensures c.args.tlve_start ∙ ap (λ (o : Option Answer). unless o (λ a. a) (answer 29 (c.in-Some.at ∷ []))) (sym c.in_err-find_cut.ensures)))

pub returns : goal.returns
returns c = sym (c.in-Some.ensures c.args.tlve_start ∙ ap (λ (o : Option Answer). unless o (λ a. a) (answer 29 (c.in-Some.at ∷ []))) (sym c.in_ok-find_cut.ensures))
