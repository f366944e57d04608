-- The number and values of an answer by the definition, and that equal ones come from equal answers.
-- By the checks of the definition, and by cases on the answers.
use Prim.Native.Nat.{ℕ, zero, suc, ◌≤◌, ◌<◌}
use mathlib.Core.Path.{◌≡◌, refl, ap, sym, ◌∙◌}
use mathlib.Core.List.{List, [], ◌∷◌}
use mathlib.Core.Bool.{Bool}
use mathlib.Core.Option.{Option, none, some}
use lib.ListN.{length, get_or}
use borrow.Author.Tests.{lt-ltb, le-ltb}
use Rattle.std.specs.Prelude.{Result, Ok, Err}
use Rattle.definitions.specs.Basic.{Answer, answer, refusal, unless}
use Rattle.definitions.specs.Rows.{rows_of, first_bad}
use Rattle.definitions.specs.Tables.{table_of, start_of}
use Rattle.definitions.specs.Elements.{Element, Parted, elements, cut_short, parted, elements_of}
use Rattle.definitions.specs.Reading.{cut_of}
use Rattle.definitions.specs.Why.{Why as DefWhy, was_accepted, was_unknown, was_malformed, was_repeated, was_out_of_sequence, cut_off, under_least, kind_barred, why, why_numbers, at_number, why_at, explaining, explaining_by}
use Rattle.definitions.proofs.Whys.{number-map}
use Rattle.why.specs.Whys.{why_for, why_as, why_in}
use Rattle.why.specs.declared.Fault.{Fault}
use Rattle.why.specs.declared.Why.{Why}
use Rattle.why.specs.declared.WhyError.{WhyError}

why-numbers : (w : DefWhy) → why_as (Ok (why_for w)) ≡ answer 0 (why_numbers w)
why-numbers was_accepted = refl
why-numbers was_unknown = refl
why-numbers (was_malformed cut_off) = refl
why-numbers (was_malformed under_least) = refl
why-numbers (was_malformed kind_barred) = refl
why-numbers (was_repeated at) = refl
why-numbers (was_out_of_sequence at) = refl

-- what is said of an element, in equal words
number_same : (n : ℕ) (es : List Element) (x : Answer) (f g : List Element → Element → Answer) → ((bs : List Element) (e : Element) → f bs e ≡ g bs e) → at_number n es x f ≡ at_number n es x g
unfolding at_number
number_same zero [] x f g h = refl
number_same (suc n) [] x f g h = refl
number_same zero (e ∷ es) x f g h = h [] e
number_same (suc n) (e ∷ es) x f g h = number_same n es x (λ bs. f (e ∷ bs)) (λ bs. g (e ∷ bs)) (λ bs. h (e ∷ bs))

-- ---- the checks

module _ (table : List ℕ) (start : ℕ) (option : Bool) (part : List ℕ) (n : ℕ) where
  pub explaining-bad : (k : ℕ) → first_bad (rows_of table) ≡ some k → why_as (Err (WhyError.BadTable k)) ≡ explaining table start option part n
  unfolding explaining refusal
  explaining-bad k e = rw e

  pub explaining-long : first_bad (rows_of table) ≡ none → 65535 < length part → why_as (Err WhyError.TooLong) ≡ explaining table start option part n
  unfolding explaining refusal
  explaining-long e h = rw (e, lt-ltb 65535 (length part) h)

  pub explaining-read : first_bad (rows_of table) ≡ none → length part ≤ 65535 → why_as (why_in (rows_of table) n (parted (rows_of table) start option part)) ≡ explaining table start option part n
  unfolding explaining refusal cut_of elements_of why_at
  explaining-read e h = rw (e, le-ltb 65535 (length part) h) (by (parted (rows_of table) start option part))
    where
      by : (p : Parted) → why_as (why_in (rows_of table) n p) ≡ unless (refusal (cut_of p ∷ [])) (λ a. a) (why_at (rows_of table) (elements_of p) n)
      by (elements es) = number-map why_as n es (Err WhyError.NoElement) (λ bs e. Ok (why_for (why (rows_of table) bs e))) ∙ number_same n es (answer 27 []) (λ bs e. why_as (Ok (why_for (why (rows_of table) bs e)))) (λ bs e. answer 0 (why_numbers (why (rows_of table) bs e))) (λ bs e. why-numbers (why (rows_of table) bs e))
      by (cut_short a x k m) = refl

-- by the table that a number names, or none
pub explaining-by : (number : ℕ) (option : Bool) (part : List ℕ) (n : ℕ) {o : Option (List ℕ)} → table_of number ≡ o
    → explaining_by number option part n ≡ elim o [ none ↦ answer 5 [] | some table ↦ explaining table start_of option part n ]
unfolding explaining_by
explaining-by number option part n e = ap (λ (o : Option (List ℕ)). elim o [ none ↦ answer 5 [] | some table ↦ explaining table start_of option part n ]) e

-- ---- equal numbers and values come from equal answers

fault-back : ℕ → Fault
fault-back zero = Fault.CutShort
fault-back (suc zero) = Fault.CutShort
fault-back (suc (suc zero)) = Fault.UnderLeast
fault-back (suc (suc (suc n))) = Fault.KindBarred

ground-back : ℕ → ℕ → Why
ground-back zero g = Why.Accepted
ground-back (suc zero) g = Why.Unknown
ground-back (suc (suc zero)) g = Why.Malformed (fault-back g)
ground-back (suc (suc (suc zero))) g = Why.Repeated g
ground-back (suc (suc (suc (suc n)))) g = Why.OutOfSequence g

why-back : ℕ → List ℕ → Result Why WhyError
why-back zero vs = Ok (ground-back (get_or vs 0 0) (get_or vs 1 0))
why-back (suc zero) vs = Err (WhyError.CutShort (record { start = get_or vs 0 0; first = get_or vs 1 0; left = get_or vs 2 0; missing = get_or vs 3 0 }))
why-back (suc (suc zero)) vs = Err WhyError.NoTable
why-back (suc (suc (suc zero))) vs = Err WhyError.TooLong
why-back (suc (suc (suc (suc zero)))) vs = Err (WhyError.BadTable (get_or vs 0 0))
why-back (suc (suc (suc (suc (suc zero))))) vs = Err WhyError.NoTable
why-back (suc (suc (suc (suc (suc (suc n)))))) vs = Err WhyError.NoElement

why-found : (w : Result Why WhyError) → why-back (why_as w).number (why_as w).values ≡ w
unfolding why-back ground-back fault-back
why-found (Ok Why.Accepted) = refl
why-found (Ok Why.Unknown) = refl
why-found (Ok (Why.Malformed Fault.CutShort)) = refl
why-found (Ok (Why.Malformed Fault.UnderLeast)) = refl
why-found (Ok (Why.Malformed Fault.KindBarred)) = refl
why-found (Ok (Why.Repeated at)) = refl
why-found (Ok (Why.OutOfSequence at)) = refl
why-found (Err WhyError.NoElement) = refl
why-found (Err (WhyError.CutShort c)) = refl
why-found (Err WhyError.TooLong) = refl
why-found (Err (WhyError.BadTable k)) = refl
why-found (Err WhyError.NoTable) = refl

pub same-why : (a b : Result Why WhyError) → why_as a ≡ why_as b → a ≡ b
same-why a b e = sym (why-found a) ∙ ap (λ (x : Answer). why-back x.number x.values) e ∙ why-found b
