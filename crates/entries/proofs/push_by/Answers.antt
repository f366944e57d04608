-- `push_by` pushes the entry of a number, or refuses what is no entry after the check of the used count.
-- Each way out names what the number is.
use mathlib.Core.Bool.{false≢true}
use mathlib.Core.Path.{◌≡◌, refl, ap, sym, ◌∙◌}
use Rattle.std.specs.Prelude.{Err}
use Rattle.std.proofs.lemmas.Result.{err_from_is_err_and}
use Rattle.definitions.specs.Logs.{Logged}
use Rattle.kept.specs.Kept.{used_of, push_error}
use Rattle.kept.specs.declared.PushError.{PushError}
use Rattle.kept.proofs.Asked.{long-log}
use Rattle.order.specs.Order.{front_as}
use Rattle.entries.proofs.NoEntry.{entry-pushed, none-used, none-bad}
use Rattle.entries.proofs.push_by.Goals as goal

pub returns-in_err-content_of : goal.returns-in_err-content_of
returns-in_err-content_of c =
    let u = used_of c.args.log.now c.args.used in
    let e = c.in_err-content_of.ensures in
    let p = err_from_is_err_and c.from_residual.result c.from_residual.ensures.1 in
    let p1 = p.1 in
    let m : p.0 ≡ PushError.TooLong = p.2 ∙ ap push_error e.long in
    let q : c.from_residual.result ≡ Err PushError.TooLong = cc in
    let l = none-used u (ap front_as (sym c.in_default.is) ∙ c.entry_of.ensures) (long-log 131070 u (λ h. false≢true (e.short.1 h))) in
    record { said = rw q l.0; log_after = l.1 }

pub returns-in_default : goal.returns-in_default
returns-in_default c =
    let s = c.in_ok-content_of.ensures.short.0 refl in
    let l = none-bad (used_of c.args.log.now c.args.used) (ap front_as (sym c.in_default.is) ∙ c.entry_of.ensures) s.0 s.1 in
    record { said = l.0; log_after = l.1 }

pub returns : goal.returns
returns c =
    let e = entry-pushed (used_of c.args.log.now c.args.used) (ap front_as (sym c.in-Some.is) ∙ c.entry_of.ensures) in
    record { said = c.order_push.ensures.said ∙ ap (λ (l : Logged). l.said) e; log_after = c.order_push.ensures.log_after ∙ ap (λ (l : Logged). l.log) e }
