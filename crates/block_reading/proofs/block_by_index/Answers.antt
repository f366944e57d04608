-- `block_by_index` takes the plain pass first, as `decode_by_index` does, and then the checks that need no reading. What the part needs
-- splits the block, and the part is read into its two parts; where the pass says no, the rows are as they were.
use Prim.Native.Nat.{ℕ}
use native.Mathlib.Omega.{arith}
use mathlib.Core.Path.{refl, ap, sym, ◌∙◌}
use lib.ListN.{length, take, drop, length-drop}
use lib.Seq.{length-take-le}
use Rattle.std.proofs.lemmas.Result.{err_from_is_err_and}
use Rattle.definitions.specs.Rows.{rows_of}
use Rattle.definitions.specs.Elements.{parted}
use Rattle.definitions.proofs.Blocks.{kept_use}
use Rattle.definitions.proofs.TableLaws.{few-places}
use Rattle.filling.proofs.Noting.{cut-is}
use Rattle.noting.proofs.Decoding.{long, no_rows, cut_short_lem, all_plain}
use Rattle.plain_by_table.proofs.Held.{holding}
use Rattle.plain_by_table.proofs.Own.{was-held, unmoved, unplain as not_plain}
use Rattle.block_reading.proofs.Decoding.{needed, no-kept, no-order, done-here}
use Rattle.block_reading.proofs.InBlock.{first_short, in_block, in_parts}
use Rattle.block_reading.proofs.block_by_index.Goals as goal

pub returns-then-plain : goal.returns-then-plain
returns-then-plain c =
    let a = c.args in
    let r = c.requires in
    let p = c.plain.ensures in
    let h = was-held (rw c.if-plain.true at (p.by_index a.tlve_start a.option)) in
    let b = a.block.now in
    let k : ℕ = kept_use a.table.now a.tlve_start a.option a.octets.now a.rows.now b in
    in_block a.table.now a.tlve_start a.option a.octets.now a.rows.now b k refl
    (all_plain a.table.now a.tlve_start a.option a.octets.now a.rows.now (take k b) (drop k b) r.1 h.short h.room-is
    (rw c.if-plain.true at (p.plainly r.0 (holding a.table.now a.octets.now (length a.rows.now) h) a.tlve_start a.option))) refl

pub returns-then-octets-gt-MOST_OCTETS : goal.returns-then-octets-gt-MOST_OCTETS
returns-then-octets-gt-MOST_OCTETS c =
    let a = c.args in
    let u = unmoved (rw c.if-plain.false at (c.plain.ensures.by_index a.tlve_start a.option)) in
    let b = a.block.now in
    let k : ℕ = kept_use a.table.now a.tlve_start a.option a.octets.now a.rows.now b in
    rw u (in_block a.table.now a.tlve_start a.option a.octets.now a.rows.now b k refl (long a.table.now a.tlve_start a.option a.octets.now a.rows.now (take k b) (drop k b) c.requires.1 (omega arith)) refl)

pub overflow_mul-places : goal.overflow_mul-places
overflow_mul-places c = omega (arith, c.places.ensures, few-places (rows_of c.args.table.now) c.requires.1)

pub returns-then-rows-places : goal.returns-then-rows-places
returns-then-rows-places c =
    let a = c.args in
    let u = unmoved (rw c.if-plain.false at (c.plain.ensures.by_index a.tlve_start a.option)) in
    let b = a.block.now in
    let k : ℕ = kept_use a.table.now a.tlve_start a.option a.octets.now a.rows.now b in
    rw u (in_block a.table.now a.tlve_start a.option a.octets.now a.rows.now b k refl (no_rows a.table.now a.tlve_start a.option a.octets.now a.rows.now (take k b) (drop k b) c.requires.1 (omega arith) (omega (arith, c.places.ensures, ap length u))) refl)

pub returns-in_err-needs : goal.returns-in_err-needs
returns-in_err-needs c =
    let a = c.args in
    let r = c.requires in
    let u = unmoved (rw c.if-plain.false at (c.plain.ensures.by_index a.tlve_start a.option)) in
    let b = a.block.now in
    let k : ℕ = kept_use a.table.now a.tlve_start a.option a.octets.now a.rows.now b in
    let p = err_from_is_err_and c.from_residual.result c.from_residual.ensures.1 in
    rw (p.1, p.2, u) (in_block a.table.now a.tlve_start a.option a.octets.now a.rows.now b k refl
    (cut_short_lem a.table.now a.tlve_start a.option a.octets.now a.rows.now (take k b) (drop k b) r.1 (omega arith) (omega (arith, c.places.ensures, ap length u)) (cut-is _ (sym c.in_err-needs.was ∙ c.measure.ensures.own_index r.0))) refl)

pub returns-then-block-needs : goal.returns-then-block-needs
returns-then-block-needs c =
    let a = c.args in
    let r = c.requires in
    let u = unmoved (rw c.if-plain.false at (c.plain.ensures.by_index a.tlve_start a.option)) in
    let b = a.block.now in
    let k = c.in_ok-needs.needs.kept in
    let n = needed (rows_of a.table.now) (parted (rows_of a.table.now) a.tlve_start a.option a.octets.now) (not_plain a.table.now a.tlve_start a.option a.octets.now a.rows.now r.1 (λ h. rw c.if-plain.false at (c.plain.ensures.plainly r.0 h a.tlve_start a.option)) (omega arith) (omega (arith, c.places.ensures, ap length u))) (sym c.in_ok-needs.was ∙ c.measure.ensures.own_index r.0) in
    rw u (in_block a.table.now a.tlve_start a.option a.octets.now a.rows.now b k n.kept
    (no-kept a.table.now a.tlve_start a.option a.octets.now a.rows.now (take k b) (drop k b) r.1 (omega arith) (omega (arith, c.places.ensures, ap length u)) c.in_ok-needs.needs n (first_short k b (omega arith))) refl)

pub returns-then-block-needs-2 : goal.returns-then-block-needs-2
returns-then-block-needs-2 c =
    let a = c.args in
    let r = c.requires in
    let u = unmoved (rw c.if-plain.false at (c.plain.ensures.by_index a.tlve_start a.option)) in
    let b = a.block.now in
    let k = c.in_ok-needs.needs.kept in
    let n = needed (rows_of a.table.now) (parted (rows_of a.table.now) a.tlve_start a.option a.octets.now) (not_plain a.table.now a.tlve_start a.option a.octets.now a.rows.now r.1 (λ h. rw c.if-plain.false at (c.plain.ensures.plainly r.0 h a.tlve_start a.option)) (omega arith) (omega (arith, c.places.ensures, ap length u))) (sym c.in_ok-needs.was ∙ c.measure.ensures.own_index r.0) in
    rw u (in_block a.table.now a.tlve_start a.option a.octets.now a.rows.now b k n.kept
    (no-order a.table.now a.tlve_start a.option a.octets.now a.rows.now (take k b) (drop k b) r.1 (omega arith) (omega (arith, c.places.ensures, ap length u)) c.in_ok-needs.needs n (omega (arith, length-take-le k b (omega arith))) (omega (arith, length-drop k b))) refl)

pub returns : goal.returns
returns c =
    let a = c.args in
    let r = c.requires in
    let u = unmoved (rw c.if-plain.false at (c.plain.ensures.by_index a.tlve_start a.option)) in
    let b = a.block.now in
    let k = c.in_ok-needs.needs.kept in
    let n = needed (rows_of a.table.now) (parted (rows_of a.table.now) a.tlve_start a.option a.octets.now) (not_plain a.table.now a.tlve_start a.option a.octets.now a.rows.now r.1 (λ h. rw c.if-plain.false at (c.plain.ensures.plainly r.0 h a.tlve_start a.option)) (omega arith) (omega (arith, c.places.ensures, ap length u))) (sym c.in_ok-needs.was ∙ c.measure.ensures.own_index r.0) in
    let s = c.split_at_mut-kept.ensures in
    let v =
    c.decode_noted.ensures.own_index r.0 r.1
    (λ short room. not_plain a.table.now a.tlve_start a.option a.octets.now a.rows.now r.1 (λ h. rw c.if-plain.false at (c.plain.ensures.plainly r.0 h a.tlve_start a.option)) short (omega (arith, room, ap length u))) in
    let w = rw (u, s.front, s.back) at v in
    in_parts a.table.now a.tlve_start a.option a.octets.now a.rows.now b k n.kept w
    (done-here a.table.now a.tlve_start a.option a.octets.now a.rows.now (take k b) (drop k b) r.1 (omega arith) (omega (arith, c.places.ensures, ap length u)) c.in_ok-needs.needs n (omega (arith, length-take-le k b (omega arith))) (omega (arith, length-drop k b)) w)
