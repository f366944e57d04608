-- `why_text` puts the line of what is told.
-- There is room for every line.
use native.Mathlib.Omega.{arith}
use mathlib.Core.Path.{ap, ◌∙◌}
use lib.ListN.{length}
use Rattle.wording.proofs.Puts.{at-text, put_whole}
use Rattle.grounds.proofs.Saying.{said-short, refuses-error}
use Rattle.grounds.proofs.why_text.Goals as goal

pub returns : goal.returns
returns c = record {
  len_value = omega (arith, c.put_why.ensures.used, ap length c.why_told-why.ensures.0);
  len_bound = omega (arith, c.put_why.ensures.used, said-short c.why_told-why.result);
  refused_value = c.is_err.ensures.value ∙ refuses-error c.why_told-why.result ∙ c.why_told-why.ensures.1;
  out_after = put_whole (at-text c.why_told-why.ensures.0 c.put_why.ensures) (omega (arith, said-short c.why_told-why.result, ap length c.why_told-why.ensures.0));
}
