-- A text that stands in the front of the array fits.
use Rattle.std.proofs.Common.{◌≤◌, length, arith}
use Rattle.std.proofs.Math.ListN.{length-take}
use Rattle.wording.proofs.Puts.{front_fits}
use Rattle.nas_check.proofs.say.Goals as goal

pub slice_bounds-text-end : goal.slice_bounds-text-end
slice_bounds-text-end c = let e = c.check_text-told.ensures in front_fits _ _ e.len_value e.out_after

pub slice_bounds-write_text-end : goal.slice_bounds-write_text-end
slice_bounds-write_text-end c =
    let e = c.check_text-told.ensures in
    let h : c.check_text-told.result.len ≤ length c.check_text-told.new.out = front_fits _ _ e.len_value e.out_after in
    simp length-take (omega arith)
