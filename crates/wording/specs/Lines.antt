-- The line of an element, by the numbers that the code holds of it.
use Rattle.std.specs.Prelude.{ℕ, List, ◌++◌}
use Rattle.definitions.specs.Elements.{accepted, unknown, malformed, repeated, out_of_sequence}
use Rattle.definitions.specs.Listing.{decimal, hex, word, space, newline}
use Rattle.order.specs.declared.Placed.{Placed}
use Rattle.order.specs.declared.IgnoredIeReason.{IgnoredIeReason}
use Rattle.elements.specs.declared.element.Element.{Element}

abbrev pub reason_word : IgnoredIeReason → List ℕ
reason_word IgnoredIeReason.Malformed = word malformed
reason_word IgnoredIeReason.Repeated = word repeated
reason_word IgnoredIeReason.OutOfSequence = word out_of_sequence

-- the word of how an element came
abbrev pub word_of : Placed → List ℕ
word_of (Placed.Known iei) = word accepted
word_of Placed.Unknown = word unknown
word_of (Placed.Ignored r) = reason_word r

unfoldable pub line_of : Element → List ℕ
line_of e = decimal e.start ++ (space ++ (decimal e.len ++ (space ++ (hex e.iei ++ (space ++ (word_of e.placed ++ newline))))))
