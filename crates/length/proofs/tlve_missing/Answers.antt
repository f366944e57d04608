-- `tlve_missing` is what an element lacks by a field of two octets: the law over the width, at this width.
-- The number read is the field's; a field that is not there is cut.
use mathlib.Core.Path.{◌≡◌, sym, ◌∙◌}
use Rattle.std.proofs.Common.{rules, ℕ}
use Rattle.std.specs.Prelude.{MatchOption}
use Rattle.definitions.proofs.Length.{lacking-widths}
use Rattle.octets.specs.declared.Cursor.{Cursor}
use Rattle.length.proofs.First.{lacking_read}
use Rattle.length.proofs.tlve_missing.Goals as goal

pub returns : goal.returns
returns c =
    let s = c.args.octets.now in
    let v = c.map_or-value.result in
    let m : MatchOption c.get_u16.result (v ≡ 0) (λ (x : ℕ × Cursor). v ≡ x.0) = search rules in
    c.saturating_sub.ensures ∙ sym ((lacking-widths s).1 ∙ lacking_read 2 s v (rw c.get_u16.ensures at m))
