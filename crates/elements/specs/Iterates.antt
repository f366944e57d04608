-- Asking for one element after the other, by what `next_element` answers; and the elements of a part, told as it tells them.
use Rattle.std.specs.Prelude.{ℕ, zero, suc, List, [], ◌∷◌, Bool, Some, None, Ok, Err}
use Rattle.definitions.specs.Rows.{Row}
use Rattle.definitions.specs.Elements.{Element as DefElement, Parted, elements, cut_short}
use Rattle.elements.specs.Steps.{element_of}
use Rattle.elements.specs.Nexts.{Next, next_of}
use Rattle.elements.specs.declared.element.State.{State}
use Rattle.elements.specs.declared.element.Element.{Element}
use Rattle.elements.specs.declared.next.NextError.{NextError}

pub data Found : Type 0 where
  all : List Element → Found
  cut_at : ℕ → ℕ → ℕ → ℕ → Found
  refused : Found

unfoldable pub also : Element → Found → Found
also e (all es) = all (e ∷ es)
also e (cut_at a x n k) = cut_at a x n k
also e refused = refused

-- by an answer, and what is found from the state behind an element on
unfoldable pub onward : Next → (State → Found) → Found
onward (Ok (Some p)) rest = also p.0 (rest p.1)
onward (Ok None) rest = all []
onward (Err (NextError.CutShort c)) rest = cut_at c.start c.first c.left c.missing
onward (Err NextError.TooLong) rest = refused
onward (Err (NextError.BadTable k)) rest = refused

-- from a state on, in so many calls at most
unfoldable pub iterated : List Row → ℕ → Bool → List ℕ → ℕ → State → Found
iterated t start option part zero s = all []
iterated t start option part (suc f) s = onward (next_of t start option part s) (iterated t start option part f)

unfoldable pub told : List DefElement → List Element
told [] = []
told (e ∷ es) = element_of e ∷ told es

unfoldable pub found_in : Parted → Found
found_in (elements es) = all (told es)
found_in (cut_short a x n k) = cut_at a x n k
