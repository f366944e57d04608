-- `kept_push` takes document 01's checks in their order, each with its law, and then lends the rest of the log for the entry.
-- What the walk over the used octets told decides 11; the numbers compared are the definition's.
use Prim.Native.Nat.{◌≤◌}
use native.Mathlib.Omega.{arith}
use mathlib.Core.Bool.{false≢true}
use mathlib.Core.Path.{◌≡◌, refl, ap, sym, ◌∙◌}
use mathlib.Core.List.{◌∷◌}
use lib.ListN.{length-take, length-drop}
use Rattle.std.specs.Prelude.{Err}
use Rattle.std.proofs.lemmas.Result.{err_from_is_err_and}
use Rattle.definitions.specs.Logs.{kept_entry}
use Rattle.definitions.proofs.Logs.{count-short}
use Rattle.definitions.proofs.Lists.{lent-over}
use Rattle.kept.specs.Kept.{used_of, push_error}
use Rattle.kept.specs.declared.PushError.{PushError}
use Rattle.kept.proofs.Asked.{long-log, walked, not-walked}
use Rattle.kept.proofs.Entries.{needed}
use Rattle.kept.proofs.Pushes.{leaves-used, leaves-large, leaves-over, leaves-bad, leaves-full, leaves-done}
use Rattle.kept.proofs.kept_push.Goals as goal

pub returns-in_err-content : goal.returns-in_err-content
returns-in_err-content c =
    let a = c.args in
    let e = c.in_err-content.ensures in
    let p = err_from_is_err_and c.from_residual.result c.from_residual.ensures.1 in
    let p1 = p.1 in
    let m : p.0 ≡ PushError.TooLong = p.2 ∙ ap push_error e.long in
    let q : c.from_residual.result ≡ Err PushError.TooLong = cc in
    let l = leaves-used a.log.now a.used a.iei a.octets.now (long-log 131070 (used_of a.log.now a.used) (λ h. false≢true (e.short.1 h))) in
    record { said = rw q l.0; log_after = l.1 }

pub returns-then-octets-ge-MOST_OCTETS : goal.returns-then-octets-ge-MOST_OCTETS
returns-then-octets-ge-MOST_OCTETS c =
    let a = c.args in
    let l = leaves-large a.log.now a.used a.iei a.octets.now c.if-octets-ge-MOST_OCTETS.true in
    record { said = l.0; log_after = l.1 }

pub overflow_add-after : goal.overflow_add-after
overflow_add-after c = let r : c.count_len.result ≤ 3 = rw c.count_len.ensures (count-short _) in omega arith

pub overflow_add-after-2 : goal.overflow_add-after-2
overflow_add-after-2 c =
    let r : c.count_len.result ≤ 3 = rw c.count_len.ensures (count-short _) in
    let s = c.in_ok-content.ensures.short.0 refl in omega arith

pub returns-then-after-gt-MOST_LOG : goal.returns-then-after-gt-MOST_LOG
returns-then-after-gt-MOST_LOG c =
    let a = c.args in
    let l = leaves-over a.log.now a.used a.iei a.octets.now c.count_len.ensures c.if-after-gt-MOST_LOG.true in
    record { said = l.0; log_after = l.1 }

pub returns-in_err-ok_or : goal.returns-in_err-ok_or
returns-in_err-ok_or c =
    let a = c.args in
    let o = c.in_ok-content.ensures in
    let n = not-walked PushError.Malformed c.walk_kept.result (sym c.in_err-ok_or.was ∙ c.ok_or.ensures.value) in
    let n1 = n.1 in
    let p = err_from_is_err_and c.from_residual-in_err-ok_or.result c.from_residual-in_err-ok_or.ensures.1 in
    let p1 = p.1 in
    let p2 = p.2 in
    let q : c.from_residual-in_err-ok_or.result ≡ Err PushError.Malformed = cc in
    let l = leaves-bad a.log.now a.used a.iei a.octets.now c.count_len.ensures (o.short.0 refl).0 c.if-octets-ge-MOST_OCTETS.false c.if-after-gt-MOST_LOG.false
    (rw (n.0, o.content) at c.walk_kept.ensures) in
    record { said = rw q l.0; log_after = l.1 }

pub returns-then-after-log : goal.returns-then-after-log
returns-then-after-log c =
    let a = c.args in
    let o = c.in_ok-content.ensures in
    let w = walked PushError.Malformed c.walk_kept.result (sym c.in_ok-ok_or.was ∙ c.ok_or.ensures.value) in
    let l = leaves-full a.log.now a.used a.iei a.octets.now c.count_len.ensures (o.short.0 refl).0 c.if-octets-ge-MOST_OCTETS.false c.if-after-gt-MOST_LOG.false
    (rw (w, o.content) at c.walk_kept.ensures) c.if-after-log.true in
    record { said = l.0; log_after = l.1 }

pub put_entry-requires : goal.put_entry-requires
put_entry-requires c =
    let a = c.args in
    (c.if-octets-ge-MOST_OCTETS.false, simp (length-take, length-drop) (omega (arith, needed a.iei a.octets.now c.count_len.ensures)))

pub returns : goal.returns
returns c =
    let a = c.args in
    let o = c.in_ok-content.ensures in
    let s = o.short.0 refl in
    let w = walked PushError.Malformed c.walk_kept.result (sym c.in_ok-ok_or.was ∙ c.ok_or.ensures.value) in
    let l = leaves-done a.log.now a.used a.iei a.octets.now c.count_len.ensures s.0 c.if-octets-ge-MOST_OCTETS.false c.if-after-gt-MOST_LOG.false
    (rw (w, o.content) at c.walk_kept.ensures) c.if-after-log.false in
    record { said = l.0; log_after = rw c.put_entry.ensures (lent-over a.used (kept_entry (a.iei ∷ a.octets.now)) a.log.now s.0) ∙ l.1 }
