-- `decode` takes an octet of text a turn: the buffer with what the rest of the text gives is the lent one with the octets of the text.
use Rattle.hex_text.specs.Steps.{Waiting}
use Rattle.hex_text.proofs.HexLaws.{Left}
use Rattle.hex_text.proofs.decode.Given as goal

abbrev pub invariant-loop-i : goal.invariant-loop-i
invariant-loop-i l = (Waiting l.i l.half) × (Left l.text l.initial.part l.part l.len l.half l.i)
