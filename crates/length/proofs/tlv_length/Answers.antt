-- `tlv_length` is the length by a field of one octet: the element length fact at this width.
-- The number read is the field's; `within` compares.
use mathlib.Core.Path.{sym, ◌∙◌}
use Rattle.definitions.specs.Length.{whole, stated, length_by}
use Rattle.definitions.proofs.Length.{field-short}
use Rattle.octets.proofs.Laws.{number-is, number-none}
use Rattle.length.proofs.tlv_length.Goals as goal

pub returns-in_err-n : goal.returns-in_err-n
unfolding whole stated
returns-in_err-n c = rw (field-short 1 c.args.octets.now (number-none 1 1 _ (sym c.in_err-n.was ∙ c.get_u8.ensures))) c.from_residual.ensures

pub returns : goal.returns
unfolding whole stated length_by
returns c = let n = number-is 1 1 _ (sym c.in_ok-n.was ∙ c.get_u8.ensures) in let f = c.from.ensures in rw n (rw f at c.within.ensures)
