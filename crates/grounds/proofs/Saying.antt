-- The line of an answer is the definition's text, by table number, and is short.
-- By cases on the table, and then by what stands at the number in the elements.
use Prim.Native.Nat.{ℕ, ◌≤◌, ◌<◌}
use native.Mathlib.Omega.{arith}
use mathlib.Core.Path.{◌≡◌, refl, ap, sym, ◌∙◌}
use mathlib.Core.List.{List, [], ◌++◌}
use mathlib.Core.Bool.{Bool, true}
use mathlib.Core.Option.{Option, none, some}
use lib.ListN.{length, length-append}
use borrow.Author.Tests.{lt-ltb, le-ltb}
use Rattle.std.specs.Prelude.{Result, Ok, Err, is_err}
use Rattle.definitions.specs.Rows.{Row, rows_of}
use Rattle.definitions.specs.Tables.{table_of, start_of}
use Rattle.definitions.specs.Elements.{Parted, elements, cut_short, parted}
use Rattle.definitions.specs.Listing.{ascii, decimal, word, newline}
use Rattle.definitions.specs.Why.{Why as DefWhy, was_accepted, was_unknown, was_malformed, was_repeated, was_out_of_sequence, cut_off, under_least, kind_barred, why, why_words, at_number, why_line, why_text, explaining_by}
use Rattle.definitions.proofs.Whys.{number-map}
use Rattle.real.proofs.RealLaws.{passes_of}
use Rattle.why.specs.Whys.{why_for, why_as, why_in}
use Rattle.why.specs.declared.Fault.{Fault}
use Rattle.why.specs.declared.Why.{Why}
use Rattle.why.specs.declared.WhyError.{WhyError}
use Rattle.why.proofs.Answers.{explaining-by, explaining-read, same-why}
use Rattle.grounds.specs.Grounds.{why_text_of, why_refused, said_of}
use Rattle.wording.specs.Told.{refuses}
use Rattle.wording.proofs.Lines.{decimal-short, cut_short_lem}

-- ---- the line of a part that is read

abbrev code : Option DefWhy → Result Why WhyError
code none = Err WhyError.NoElement
code (some w) = Ok (why_for w)

abbrev words : Option DefWhy → List ℕ
words none = ascii "no such element"
words (some w) = why_words w

said-words : (o : Option DefWhy) → said_of (code o) ≡ words o ++ newline
unfolding ascii word
said-words none = refl
said-words (some was_accepted) = refl
said-words (some was_unknown) = refl
said-words (some (was_malformed cut_off)) = refl
said-words (some (was_malformed under_least)) = refl
said-words (some (was_malformed kind_barred)) = refl
said-words (some (was_repeated at)) = refl
said-words (some (was_out_of_sequence at)) = refl

said_in : (t : List Row) (n : ℕ) (p : Parted) → said_of (why_in t n p) ≡ why_line t n p
unfolding why_line
said_in t n (elements es) =
    let o : Option DefWhy = at_number n es none (λ bs e. some (why t bs e)) in
    ap said_of (sym (number-map code n es none (λ bs e. some (why t bs e))))
    ∙ said-words o
    ∙ ap (λ (s : List ℕ). s ++ newline) (number-map words n es none (λ bs e. some (why t bs e)))
said_in t n (cut_short a x k m) = refl

-- ---- by table number

module _ (number : ℕ) (option : Bool) (part : List ℕ) (n : ℕ) where
  pub said-long : 4096 < length part → said_of (Err WhyError.TooLong) ≡ why_text_of number option part n
  unfolding why_text_of
  said-long h = rw (lt-ltb 4096 (length part) h)

  pub refused-why-long : 4096 < length part → true ≡ why_refused number option part n
  unfolding why_refused
  refused-why-long h = rw (lt-ltb 4096 (length part) h)

  pub refused-why-read : (r : Result Why WhyError) → length part ≤ 4096 → why_as r ≡ explaining_by number option part n → refuses (why_as r) ≡ why_refused number option part n
  unfolding why_refused
  refused-why-read r h e = rw (le-ltb 4096 (length part) h) (ap refuses e)

  text-by : {o : Option (List ℕ)} → length part ≤ 4096 → table_of number ≡ o → why_text_of number option part n ≡ elim o [ none ↦ [] | some table ↦ why_text table option part n ]
  unfolding why_text_of
  text-by h e = rw (le-ltb 4096 (length part) h) (ap (λ (o : Option (List ℕ)). elim o [ none ↦ [] | some table ↦ why_text table option part n ]) e)

  text-read : (table : List ℕ) → length part ≤ 4096 → why_line (rows_of table) n (parted (rows_of table) start_of option part) ≡ why_text table option part n
  unfolding why_text
  text-read table h = rw (le-ltb 4096 (length part) h)

  pub said_read : (r : Result Why WhyError) → length part ≤ 4096 → why_as r ≡ explaining_by number option part n → said_of r ≡ why_text_of number option part n
  said_read r h e = by (table_of number) refl
    where
      by : (o : Option (List ℕ)) → table_of number ≡ o → said_of r ≡ why_text_of number option part n
      by none q = ap said_of (same-why r (Err WhyError.NoTable) (e ∙ explaining-by number option part n q)) ∙ sym (text-by h q)
      by (some t) q =
          let w : Result Why WhyError = why_in (rows_of t) n (parted (rows_of t) start_of option part) in
          let a : why_as r ≡ why_as w = e ∙ explaining-by number option part n q ∙ sym (explaining-read t start_of option part n (passes_of number q) (omega arith)) in
          ap said_of (same-why r w a) ∙ said_in (rows_of t) n (parted (rows_of t) start_of option part) ∙ text-read t h ∙ sym (text-by h q)

-- ---- it is short

pub start-short : (s : List ℕ) (n : ℕ) → length s ≤ 20 → length (s ++ (decimal n ++ newline)) ≤ 64
start-short s n h = omega (arith, decimal-short n, length-append s (decimal n ++ newline), length-append (decimal n) newline)

pub said-short : (w : Result Why WhyError) → length (said_of w) ≤ 64
unfolding ascii word
said-short (Ok Why.Accepted) = omega arith
said-short (Ok Why.Unknown) = omega arith
said-short (Ok (Why.Malformed Fault.CutShort)) = omega arith
said-short (Ok (Why.Malformed Fault.UnderLeast)) = omega arith
said-short (Ok (Why.Malformed Fault.KindBarred)) = omega arith
said-short (Ok (Why.Repeated at)) = start-short (ascii "repeated ") at (omega arith)
said-short (Ok (Why.OutOfSequence at)) = start-short (ascii "sequence ") at (omega arith)
said-short (Err WhyError.NoElement) = omega arith
said-short (Err (WhyError.CutShort c)) = omega (arith, cut_short_lem c.start c.first c.left c.missing)
said-short (Err WhyError.TooLong) = omega arith
said-short (Err (WhyError.BadTable k)) = omega arith
said-short (Err WhyError.NoTable) = omega arith

-- ---- an error is a refusal

pub refuses-error : (w : Result Why WhyError) → is_err w ≡ refuses (why_as w)
refuses-error (Ok Why.Accepted) = refl
refuses-error (Ok Why.Unknown) = refl
refuses-error (Ok (Why.Malformed f)) = refl
refuses-error (Ok (Why.Repeated at)) = refl
refuses-error (Ok (Why.OutOfSequence at)) = refl
refuses-error (Err WhyError.NoElement) = refl
refuses-error (Err (WhyError.CutShort c)) = refl
refuses-error (Err WhyError.TooLong) = refl
refuses-error (Err (WhyError.BadTable k)) = refl
refuses-error (Err WhyError.NoTable) = refl
