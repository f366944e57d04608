-- What nas-why prints, by table number, and what the code says of an answer.
use Rattle.std.specs.Prelude.{ℕ, List, [], ◌++◌, Bool, true, length, ltb, Result, Ok, Err}
use Rattle.std.proofs.Math.Option.{none, some}
use Rattle.definitions.specs.Basic.{pick}
use Rattle.definitions.specs.Tables.{table_of}
use Rattle.definitions.specs.Elements.{accepted, unknown, malformed, repeated, out_of_sequence, cut_short}
use Rattle.definitions.specs.Listing.{ascii, decimal, word, space, newline, listed, most_listed}
use Rattle.definitions.specs.Why.{why_text, explaining_by}
use Rattle.why.specs.declared.Fault.{Fault}
use Rattle.why.specs.declared.Why.{Why}
use Rattle.why.specs.declared.WhyError.{WhyError}
use Rattle.wording.specs.Told.{refuses}

-- over 4,096 octets, too long; else the definition's text by the table of the number, and nothing where no table has it
unfoldable pub why_text_of : ℕ → Bool → List ℕ → ℕ → List ℕ
why_text_of number option part n =
    pick (ltb most_listed (length part)) (ascii "too long" ++ newline) (elim (table_of number) [ none ↦ [] | some table ↦ why_text table option part n ])

-- whether the line is that of a refusal
unfoldable pub why_refused : ℕ → Bool → List ℕ → ℕ → Bool
why_refused number option part n = pick (ltb most_listed (length part)) true (refuses (explaining_by number option part n))

-- the line of an answer
abbrev pub fault_said : Fault → List ℕ
fault_said Fault.CutShort = ascii "cut short"
fault_said Fault.UnderLeast = ascii "under the least length"
fault_said Fault.KindBarred = ascii "kind not allowed"

abbrev pub said_of : Result Why WhyError → List ℕ
said_of (Ok Why.Accepted) = word accepted ++ newline
said_of (Ok Why.Unknown) = word unknown ++ newline
said_of (Ok (Why.Malformed f)) = (word malformed ++ (space ++ fault_said f)) ++ newline
said_of (Ok (Why.Repeated at)) = (word repeated ++ (space ++ decimal at)) ++ newline
said_of (Ok (Why.OutOfSequence at)) = (word out_of_sequence ++ (space ++ decimal at)) ++ newline
said_of (Err WhyError.NoElement) = ascii "no such element" ++ newline
said_of (Err (WhyError.CutShort c)) = listed 0 (cut_short c.start c.first c.left c.missing)
said_of (Err WhyError.TooLong) = ascii "too long" ++ newline
said_of (Err (WhyError.BadTable k)) = []
said_of (Err WhyError.NoTable) = []
