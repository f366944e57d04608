-- `order_push` takes document 01's checks in their order, each with its law, and then lends the rest of the log for the entry.
-- Whether the used octets are malformed decides 11; the numbers compared are the definition's.
use Prim.Native.Nat.{ℕ, ◌-◌}
use native.Mathlib.Omega.{arith}
use mathlib.Core.Bool.{false≢true}
use mathlib.Core.List.{List}
use mathlib.Core.Path.{◌≡◌, refl, ap, sym, ◌∙◌}
use lib.ListN.{length, take, drop, length-take, length-drop}
use Rattle.std.specs.Prelude.{Err}
use Rattle.std.proofs.lemmas.Result.{err_from_is_err_and}
use Rattle.definitions.specs.Basic.{is_none}
use Rattle.definitions.specs.Logs.{order_entry, order_list}
use Rattle.definitions.proofs.LogLaws.{order-room}
use Rattle.definitions.proofs.Lists.{lent-over}
use Rattle.kept.specs.Kept.{used_of, push_error}
use Rattle.kept.specs.declared.PushError.{PushError}
use Rattle.kept.proofs.Asked.{long-log}
use Rattle.kept.proofs.Entries.{if-room}
use Rattle.order.specs.Order.{placed_as}
use Rattle.order.proofs.Pushes.{leaves-used, leaves-over, leaves-bad, leaves-full, leaves-done}
use Rattle.order.proofs.order_push.Goals as goal

pub returns-in_err-content : goal.returns-in_err-content
returns-in_err-content c =
    let a = c.args in
    let e = c.in_err-content.ensures in
    let p = err_from_is_err_and c.from_residual.result c.from_residual.ensures.1 in
    let p1 = p.1 in
    let m : p.0 ≡ PushError.TooLong = p.2 ∙ ap push_error e.long in
    let q : c.from_residual.result ≡ Err PushError.TooLong = cc in
    let l = leaves-used a.log.now a.used (placed_as a.entry) (long-log 131070 (used_of a.log.now a.used) (λ h. false≢true (e.short.1 h))) in
    record { said = rw q l.0; log_after = l.1 }

-- the octets that are judged are those that are used
among-used : {s u : List ℕ} → s ≡ u → is_none (order_list u) ≡ is_none (order_list s)
among-used e = sym (ap (λ (x : List ℕ). is_none (order_list x)) e)

pub overflow_add-after : goal.overflow_add-after
overflow_add-after c = let s = c.in_ok-content.ensures.short.0 refl in omega (arith, c.entry_len.ensures, order-room (placed_as c.args.entry))

pub returns-then-after-gt-MOST_LOG : goal.returns-then-after-gt-MOST_LOG
returns-then-after-gt-MOST_LOG c =
    let a = c.args in
    let l = leaves-over a.log.now a.used (placed_as a.entry) c.entry_len.ensures c.if-after-gt-MOST_LOG.true in
    record { said = l.0; log_after = l.1 }

pub returns-then-order_malformed : goal.returns-then-order_malformed
returns-then-order_malformed c =
    let a = c.args in
    let o = c.in_ok-content.ensures in
    let l = leaves-bad a.log.now a.used (placed_as a.entry) c.entry_len.ensures (o.short.0 refl).0 c.if-after-gt-MOST_LOG.false (among-used o.content ∙ sym c.order_malformed.ensures ∙ c.if-order_malformed.true) in
    record { said = l.0; log_after = l.1 }

pub returns-then-after-log : goal.returns-then-after-log
returns-then-after-log c =
    let a = c.args in
    let o = c.in_ok-content.ensures in
    let l = leaves-full a.log.now a.used (placed_as a.entry) c.entry_len.ensures (o.short.0 refl).0 c.if-after-gt-MOST_LOG.false (among-used o.content ∙ sym c.order_malformed.ensures ∙ c.if-order_malformed.false) c.if-after-log.true in
    record { said = l.0; log_after = l.1 }

pub returns : goal.returns
returns c =
    let a = c.args in
    let o = c.in_ok-content.ensures in
    let s = o.short.0 refl in
    let e = order_entry (placed_as a.entry) in
    let n = c.entry_len.ensures in
    let d = take (length a.log.now - a.used) (drop a.used a.log.now) in
    let l = leaves-done a.log.now a.used (placed_as a.entry) n s.0 c.if-after-gt-MOST_LOG.false (among-used o.content ∙ sym c.order_malformed.ensures ∙ c.if-order_malformed.false) c.if-after-log.false in
    record { said = l.0; log_after = rw (c.put_placed.ensures, if-room e d (simp (length-take, length-drop) (omega arith))) (lent-over a.used e a.log.now s.0) ∙ l.1 }
