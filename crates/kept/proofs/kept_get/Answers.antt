-- `kept_get` is what a whole walk told, after the check of the used count.
-- Each way out names what the walk told.
use mathlib.Core.Path.{◌≡◌, refl, sym, ◌∙◌}
use Rattle.std.specs.Prelude.{Err}
use Rattle.std.proofs.lemmas.Result.{err_from_is_err_and}
use mathlib.Core.Bool.{false≢true}
use Rattle.definitions.specs.Logs.{kept_get}
use Rattle.definitions.proofs.Logs.{asking-long}
use Rattle.kept.specs.Kept.{used_of}
use Rattle.kept.specs.declared.LogError.{LogError}
use Rattle.kept.proofs.Asked.{long-log, walked, not-walked, get-log, get-bad, got-found}
use Rattle.kept.proofs.kept_get.Goals as goal

pub returns-in_err-content_of : goal.returns-in_err-content_of
unfolding kept_get
returns-in_err-content_of c =
    let e = c.in_err-content_of.ensures in
    let l = e.long in
    let p = err_from_is_err_and c.from_residual.result c.from_residual.ensures.1 in
    let p1 = p.1 in
    let p2 = p.2 in
    let q : c.from_residual.result ≡ Err LogError.TooLong = cc in
    rw q (sym (asking-long _ _ 2 _ (long-log 131070 (used_of c.args.log.now c.args.used) (λ h. false≢true (e.short.1 h)))))

pub returns-in_err-walk : goal.returns-in_err-walk
returns-in_err-walk c =
    let o = c.in_ok-content_of.ensures in
    let s = o.short.0 refl in
    let n = not-walked LogError.Malformed c.walk_kept.result (sym c.in_err-walk.was ∙ c.ok_or.ensures.value) in
    let n1 = n.1 in
    let p = err_from_is_err_and c.from_residual-in_err-walk.result c.from_residual-in_err-walk.ensures.1 in
    let p1 = p.1 in
    let p2 = p.2 in
    let q : c.from_residual-in_err-walk.result ≡ Err LogError.Malformed = cc in
    rw q (get-bad _ _ c.args.k s.0 s.1 (rw (n.0, o.content) at c.walk_kept.ensures))

pub returns : goal.returns
returns c =
    let o = c.in_ok-content_of.ensures in
    let s = o.short.0 refl in
    let w = walked LogError.Malformed c.walk_kept.result (sym c.in_ok-walk.was ∙ c.ok_or.ensures.value) in
    got-found _ ∙ get-log _ _ c.args.k s.0 s.1 (rw (w, o.content) at c.walk_kept.ensures)
