-- `unknown_length` is the unknown rule: no octet, one octet alone, or by a length field.
-- The class of the first octet settles the first test, `long_or_short` the second.
use mathlib.Core.Path.{sym, ◌∙◌}
use mathlib.Core.Logic.{inl, inr}
use Rattle.definitions.proofs.Length.{unknown-none, unknown-one, unknown-below}
use Rattle.length.proofs.First.{first-is, first-none}
use Rattle.length.proofs.Laws.{kind-one, kind-below}
use Rattle.length.specs.Answers.{long_or_short}
use Rattle.length.proofs.unknown_length.Goals as goal

pub returns-in_err-x : goal.returns-in_err-x
returns-in_err-x c = let a = c.args in rw (unknown-none a.tlve_start a.octets.now (first-none _ c.in_err-x.ensures.value)) c.from_residual.ensures

pub returns-in-OneOctet : goal.returns-in-OneOctet
returns-in-OneOctet c =
    let a = c.args in
    let f = first-is a.octets.now c.in_ok-x.field-0.now c.in_ok-x.ensures.value in
    let k = kind-one _ (sym c.in-OneOctet.is ∙ c.unknown_kind.ensures) in
    rw (unknown-one a.tlve_start a.octets.now f.0 (rw f.1 k))

pub returns-in-Required : goal.returns-in-Required
unfolding long_or_short
returns-in-Required c =
    let a = c.args in
    let f = first-is a.octets.now c.in_ok-x.field-0.now c.in_ok-x.ensures.value in
    let k = kind-below _ c.unknown_kind.ensures (λ e. elim c.in-Required.is as (λ _. ⊥) [ inl p ↦ cc | inr p ↦ cc ]) in
    rw (unknown-below a.tlve_start a.octets.now f.0 (rw f.1 k), f.1) c.long_or_short.ensures
