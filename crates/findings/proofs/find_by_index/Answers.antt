-- `find_by_index` makes the checks behind the table's in their order.
-- Each way out cites the law of its check; two logs that pass are well formed.
use native.Mathlib.Omega.{arith}
use mathlib.Core.Bool.{false}
use mathlib.Core.Path.{◌≡◌, refl, sym, ◌∙◌}
use lib.ListN.{length-take}
use Rattle.definitions.specs.Basic.{content, too_long, most_log}
use Rattle.definitions.proofs.Checks.{neither}
use Rattle.std.specs.Prelude.{Err}
use Rattle.std.proofs.lemmas.Result.{err_from_is_err_and}
use Rattle.kept.specs.Kept.{used_of}
use Rattle.logs.specs.declared.MalformedLog.{MalformedLog}
use Rattle.findings.specs.declared.FindError.{FindError}
use Rattle.findings.specs.Findings.{Finds, finding_in}
use Rattle.logs.specs.Checks.{Checked}
use Rattle.logs.proofs.Formed.{logs-checked}
use Rattle.findings.proofs.Finding.{within-limit, said-order, said-kept, said-formed, logs-formed, finds-by, refused, long-logs, bad-order, bad-kept, formed-both}
use Rattle.findings.proofs.find_by_index.Goals as goal
use Rattle.findings.proofs.find_by_index.Goals.{Else-logs_long, After-check_logs}

pub returns-then-logs_long : goal.returns-then-logs_long
returns-then-logs_long c = let a = c.args in refused (long-logs a.index.now (used_of a.order.now a.order_used) (used_of a.kept.now a.kept_used) a.findings.now (sym c.logs_long.ensures ∙ c.if-logs_long.true)) refl

-- neither log is too long
short : (c : Else-logs_long) → let a = c.args in (too_long most_log (used_of a.order.now a.order_used) ≡ false) × (too_long most_log (used_of a.kept.now a.kept_used) ≡ false)
short c = neither _ _ (sym c.logs_long.ensures ∙ c.if-logs_long.false)

pub slice_bounds-order-end : goal.slice_bounds-order-end
slice_bounds-order-end c = simp length-take (omega (arith, (within-limit 131070 (used_of c.args.order.now c.args.order_used) (short (goal.at.slice_bounds-order-end c).Else-logs_long).0).0))

pub slice_bounds-kept-end : goal.slice_bounds-kept-end
slice_bounds-kept-end c = simp length-take (omega (arith, (within-limit 131070 (used_of c.args.kept.now c.args.kept_used) (short (goal.at.slice_bounds-kept-end c).Else-logs_long).1).0))

-- both logs are checked
checked : (c : After-check_logs) → Checked (content (used_of c.args.order.now c.args.order_used)) (content (used_of c.args.kept.now c.args.kept_used)) c.check_logs.result
unfolding content
checked c =
    logs-checked (content (used_of c.args.order.now c.args.order_used)) (content (used_of c.args.kept.now c.args.kept_used)) c.check_logs.ensures

pub find-requires : goal.find-requires
unfolding content
find-requires c =
    let s = said-formed (used_of c.args.order.now c.args.order_used) (used_of c.args.kept.now c.args.kept_used) (rw c.in_ok-check_logs.was at (checked (goal.at.find-requires c).After-check_logs)) in logs-formed (used_of c.args.order.now c.args.order_used) (used_of c.args.kept.now c.args.kept_used) (short (goal.at.find-requires c).Else-logs_long).0 s.0 s.1

pub returns : goal.returns
unfolding content
returns c =
    let s = said-formed (used_of c.args.order.now c.args.order_used) (used_of c.args.kept.now c.args.kept_used) (rw c.in_ok-check_logs.was at (checked (goal.at.returns c).After-check_logs)) in finds-by (formed-both c.args.index.now (used_of c.args.order.now c.args.order_used) (used_of c.args.kept.now c.args.kept_used) c.args.findings.now (short (goal.at.returns c).Else-logs_long).0 (short (goal.at.returns c).Else-logs_long).1 s.0 s.1) c.find.ensures

pub returns-in_err-check_logs : goal.returns-in_err-check_logs
returns-in_err-check_logs c =
    let p = err_from_is_err_and c.from_residual.result c.from_residual.ensures.1 in
    rw (p.1, p.2) (by c.in_err-check_logs.field-0.0 (rw c.in_err-check_logs.was at (checked (goal.at.returns-in_err-check_logs c).After-check_logs)))
  where
    by : (l : MalformedLog) → Checked (content (used_of c.args.order.now c.args.order_used)) (content (used_of c.args.kept.now c.args.kept_used)) (Err l)
        → Finds (finding_in c.args.index.now (used_of c.args.order.now c.args.order_used) (used_of c.args.kept.now c.args.kept_used) c.args.findings.now) (Err (FindError.Malformed l)) c.args.findings.now
    by MalformedLog.Order h =
        refused (bad-order c.args.index.now (used_of c.args.order.now c.args.order_used) (used_of c.args.kept.now c.args.kept_used) c.args.findings.now (short (goal.at.returns-in_err-check_logs c).Else-logs_long).0 (short (goal.at.returns-in_err-check_logs c).Else-logs_long).1 (said-order (used_of c.args.order.now c.args.order_used) (used_of c.args.kept.now c.args.kept_used) h)) refl
    by MalformedLog.Kept h =
        let s = said-kept (used_of c.args.order.now c.args.order_used) (used_of c.args.kept.now c.args.kept_used) h in
        refused (bad-kept c.args.index.now (used_of c.args.order.now c.args.order_used) (used_of c.args.kept.now c.args.kept_used) c.args.findings.now (short (goal.at.returns-in_err-check_logs c).Else-logs_long).0 (short (goal.at.returns-in_err-check_logs c).Else-logs_long).1 s.0 s.1) refl
