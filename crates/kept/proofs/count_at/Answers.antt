-- `count_at` is the count at the front: each way out has its law, whose facts are the arms that led there.
-- The numbers put together are those of `bits`.
use native.Mathlib.Omega.{arith}
use mathlib.Core.Path.{ap, sym}
use Rattle.kept.specs.Kept.{count_of}
use Rattle.kept.proofs.Counts.{none_left, one, two-short, two-zero, two, three-short, three-zero, three-over, three}
use Rattle.kept.proofs.count_at.Goals as goal
use Rattle.kept.proofs.count_at.Goals.{then-b-gt0+else-b-lt128, else-b-gt0}

pub returns-in-len1-up : goal.returns-in-len1-up
returns-in-len1-up c = let s = c.args.s.now in let l = c.in-len1-up.len_at_least in
    rw (one s (omega arith) (omega arith), ← c.from.ensures) c.allowed_count.ensures

pub returns-in-len2-up : goal.returns-in-len2-up
returns-in-len2-up c = let s = c.args.s.now in let l = c.in-len2-up.len_at_least in
    rw (two s (omega arith) (omega arith) (omega arith) (omega arith) (omega arith), ← c.from-in-len2-up.ensures, ← c.bits.ensures) c.allowed_count-in-len2-up.ensures

pub returns-in-len3-up : goal.returns-in-len3-up
returns-in-len3-up c = let s = c.args.s.now in let l = c.in-len3-up.len_at_least in
    rw (three s (omega arith) (omega arith) (omega arith) (omega arith) (omega arith) (omega arith) (omega arith), ← c.from-in-len3-up.ensures, ← c.bits-in-len3-up.ensures, ← c.bits-in-len3-up-2.ensures) c.allowed_count-in-len3-up.ensures

pub returns-in_default : goal.returns-in_default
returns-in_default c = ap count_of (sym (none_left c.args.s.now (omega arith)))

pub returns-in_default-2 : goal.returns-in_default-2
returns-in_default-2 c = ap count_of (sym (two-short c.args.s.now (omega arith) (omega arith) (omega arith)))

pub returns-in_default-3 : goal.returns-in_default-3
returns-in_default-3 c =
    let s = c.args.s.now in
    elim c.if-b-gt0.branch [
      | then-b-gt0+else-b-lt128 w ↦ ap count_of (sym (three-short s (omega arith) (omega arith) (omega arith) (omega arith) (omega arith)))
      | else-b-gt0 w ↦ ap count_of (sym (two-zero s (omega arith) (omega arith) (omega arith) (omega arith)))
    ]

pub returns-in_default-4 : goal.returns-in_default-4
returns-in_default-4 c = let l = c.in-len3-up.len_at_least in ap count_of (sym (three-over c.args.s.now (omega arith) (omega arith) (omega arith) (omega arith) (omega arith) (omega arith)))

pub returns-in_default-5 : goal.returns-in_default-5
returns-in_default-5 c = let l = c.in-len3-up.len_at_least in ap count_of (sym (three-zero c.args.s.now (omega arith) (omega arith) (omega arith) (omega arith) (omega arith) (omega arith)))

pub returns-in_default-6 : goal.returns-in_default-6
returns-in_default-6 c =
    let l = c.in-len3-up.len_at_least in
    elim c.if-b-gt0.branch [
      | then-b-gt0+else-b-lt128 w ↦ absurd (omega arith)
      | else-b-gt0 w ↦ ap count_of (sym (two-zero c.args.s.now (omega arith) (omega arith) (omega arith) (omega arith)))
    ]
