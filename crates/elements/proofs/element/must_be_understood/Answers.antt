-- `must_be_understood` is the class of the first octet.
-- Each arm names it.
use Prim.Native.Nat.{ℕ}
use mathlib.Core.Path.{◌≡◌, sym, ◌∙◌}
use mathlib.Core.Logic.{◌⊎◌, inl, inr}
use mathlib.Core.Bool.{false}
use Rattle.definitions.specs.Length.{required}
use Rattle.definitions.proofs.Length.{required-one}
use Rattle.length.specs.Answers.{kind_of}
use Rattle.length.specs.declared.UnknownKind.{UnknownKind}
use Rattle.length.proofs.Laws.{kind-one, kind-required, kind-other}
use Rattle.elements.proofs.element.must_be_understood.Goals as goal

pub returns-in-Required : goal.returns-in-Required
returns-in-Required c = sym (kind-required _ (sym c.in-Required.is ∙ c.unknown_kind.ensures))

not-required : (x : ℕ) {k : UnknownKind} → k ≡ kind_of x → ((k ≡ UnknownKind.OneOctet) ⊎ (k ≡ UnknownKind.Other)) → false ≡ required x
not-required x e (inl h) = sym (required-one x (kind-one x (sym h ∙ e)))
not-required x e (inr h) = sym (kind-other x (sym h ∙ e))

pub returns-in-OneOctet : goal.returns-in-OneOctet
returns-in-OneOctet c = not-required _ c.unknown_kind.ensures c.in-OneOctet.is
