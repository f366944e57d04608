-- `check_text` puts the text of what is told.
-- There is room for every text.
use native.Mathlib.Omega.{arith}
use mathlib.Core.Path.{ap, ◌∙◌}
use lib.ListN.{length}
use Rattle.wording.specs.Told.{refuses}
use Rattle.wording.proofs.Puts.{at-text, put_whole}
use Rattle.verdicts.proofs.Checked.{check-said, check-short, refuses-error}
use Rattle.verdicts.proofs.check_text.Goals as goal

pub put_check-requires : goal.put_check-requires
put_check-requires c = c.check_told-check.ensures

pub returns : goal.returns
returns c =
    let e = check-said c.args.number c.args.octets.now c.check_told-check.result c.check_told-check.ensures in
    record {
      len_value = omega (arith, c.put_check.ensures.used, ap length e);
      refused_value = c.is_err.ensures.value ∙ refuses-error c.check_told-check.result ∙ ap refuses c.check_told-check.ensures;
      out_after = put_whole (at-text e c.put_check.ensures) (omega (arith, check-short c.args.number c.args.octets.now c.check_told-check.result, ap length e));
    }
