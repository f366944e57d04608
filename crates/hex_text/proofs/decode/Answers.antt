-- A turn goes by what the step does.
use native.Mathlib.Omega.{arith}
use mathlib.Core.Path.{◌≡◌, sym, ◌∙◌}
use Prim.Native.Nat.{◌+◌}
use lib.ListN.{get_or}
use Rattle.std.specs.Prelude.{Ok}
use Rattle.hex_text.specs.declared.Step.{Step}
use Rattle.hex_text.specs.Steps.{Waiting}
use Rattle.hex_text.proofs.HexLaws.{waits, at-start, all_told, at-end, when-full, when-wrong, when-waits, when-octet}
use Rattle.hex_text.proofs.decode.Goals as goal
use Rattle.hex_text.proofs.decode.Goals.{in-Waits, in-Octet}

pub loop-i-init : goal.loop-i-init
loop-i-init c = (tt, at-start c.args.text.now c.args.part.now)

pub returns-then-len-part : goal.returns-then-len-part
returns-then-len-part c =
    let a = c.args in
    let l = c.loop-i in
    let q = all_told (when-full a.text.now a.part.now l.part l.len l.half l.i (omega arith) (omega arith) l.invariant.1) in record { len_value = q.0; ends_value = q.1.0; part_after = q.1.1 }

pub returns-in-Err : goal.returns-in-Err
returns-in-Err c =
    let a = c.args in
    let l = c.loop-i in
    let q = all_told (when-wrong a.text.now a.part.now l.part l.len l.half l.i (omega arith) (omega arith) c.step_at.ensures c.in-Err.is l.invariant.1) in record { len_value = q.0; ends_value = q.1.0; part_after = q.1.1 }

pub loop-i-preserved : goal.loop-i-preserved
loop-i-preserved c =
    let a = c.args in
    let l = c.loop-i in
    elim c.match-step.branch [
      | in-Waits p ↦
          let q : c.step_at.result ≡ Ok (Step.Waits p.in-Waits.digit) = cc in
          let w : Waiting (l.i + 1) p.in-Waits.digit = waits l.i (get_or a.text.now l.i 0) l.half p.in-Waits.digit (sym c.step_at.ensures ∙ q) in (
            rw p.half-is w,
            when-waits a.text.now a.part.now l.part l.len l.half l.i (omega arith) (omega arith) c.step_at.ensures q p.part-is p.len-is p.half-is l.invariant.1,
          )
      | in-Octet p ↦
          let q : c.step_at.result ≡ Ok (Step.Octet p.in-Octet.octet) = cc in (
            rw p.half-is tt,
            when-octet a.text.now a.part.now l.part l.len l.half l.i (omega arith) (omega arith) c.step_at.ensures q (omega arith) p.part-is p.len-is p.half-is l.invariant.1,
          )
    ]

pub returns : goal.returns
returns c =
    let a = c.args in
    let l = c.loop-i in
    let q = all_told (at-end a.text.now a.part.now l.part l.len l.half l.i (omega arith) l.invariant.1) in record { len_value = q.0; ends_value = c.end_at.ensures ∙ q.1.0; part_after = q.1.1 }
