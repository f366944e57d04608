-- The text of a check is the definition's, by table number, and is short.
-- By cases on the length of the part and the table, and then by what the part is.
use Prim.Native.Nat.{ℕ, ◌≤◌, ◌<◌}
use native.Mathlib.Omega.{arith}
use mathlib.Core.Path.{◌≡◌, refl, ap, sym, ◌∙◌}
use mathlib.Core.List.{List, [], ◌∷◌, ◌++◌}
use mathlib.Core.Bool.{Bool, true, false}
use mathlib.Core.Option.{Option, none, some}
use lib.ListN.{length, length-append}
use lib.Dec.{ltb}
use borrow.Author.Tests.{lt-ltb, le-ltb, ltb-true, ltb-false}
use Rattle.std.specs.Prelude.{Result, Ok, Err, is_err}
use Rattle.definitions.specs.Basic.{Answer, answer, refuse_at, unless}
use Rattle.definitions.specs.Rows.{Row, rows_of}
use Rattle.definitions.specs.Tables.{table_of, start_of}
use Rattle.definitions.specs.Elements.{Element, Parted, elements, cut_short, parted, elements_of}
use Rattle.definitions.specs.Listing.{ascii, decimal, newline}
use Rattle.definitions.specs.Checking.{offender, checking, checking_by}
use Rattle.definitions.proofs.Checkings.{check-cut, check-parted, Passed, passed}
use Rattle.real.proofs.RealLaws.{passes_of}
use Rattle.elements.specs.Steps.{cut_of}
use Rattle.checking.specs.Checks.{part_check_as}
use Rattle.checking.specs.declared.PartError.{PartError}
use Rattle.checking.proofs.SameAnswers.{same-part-check}
use Rattle.verdicts.specs.Verdicts.{ReadWhole, line_at, line_by, check_line, check_text, check_telling, check_said}
use Rattle.wording.specs.Told.{refuses}
use Rattle.wording.proofs.Lines.{decimal-short, cut_short_lem}
use Rattle.verdicts.proofs.Finding.{line-at-short}

abbrev refused_at : ℕ → List ℕ
refused_at at = ascii "refused 29 at " ++ (decimal at ++ newline)

line-by : (t : List Row) (es : List Element) {o : Option ℕ} → offender t 0 es ≡ o
    → check_line t (elements es) ≡ elim o [ none ↦ ascii "accepted" ++ newline | some at ↦ refused_at at ++ line_at at es ]
unfolding check_line
line-by t es e = ap (λ (o : Option ℕ). elim o [ none ↦ ascii "accepted" ++ newline | some at ↦ refused_at at ++ line_at at es ]) e

module _ (number : ℕ) (part : List ℕ) where
  -- ---- the answer that is told

  pub telling-long : 4096 < length part → answer 3 [] ≡ check_telling number part
  unfolding check_telling
  telling-long h = rw (lt-ltb 4096 (length part) h)

  pub telling-read : length part ≤ 4096 → checking_by number part ≡ check_telling number part
  unfolding check_telling
  telling-read h = rw (le-ltb 4096 (length part) h)

  by-table : {o : Option (List ℕ)} → table_of number ≡ o → checking_by number part ≡ elim o [ none ↦ answer 5 [] | some table ↦ checking table start_of part ]
  unfolding checking_by
  by-table e = ap (λ (o : Option (List ℕ)). elim o [ none ↦ answer 5 [] | some table ↦ checking table start_of part ]) e

  -- ---- the line behind that of an offender

  pub line-of-table : (at : ℕ) {o : Option (List ℕ)} → table_of number ≡ o → line_by number part at ≡ elim o [ none ↦ [] | some table ↦ line_at at (elements_of (parted (rows_of table) start_of false part)) ]
  unfolding line_by
  line-of-table at e = ap (λ (o : Option (List ℕ)). elim o [ none ↦ [] | some table ↦ line_at at (elements_of (parted (rows_of table) start_of false part)) ]) e

  line-by-short : (at : ℕ) → length (line_by number part at) ≤ 25
  line-by-short at = by (table_of number) refl
    where
      by : (o : Option (List ℕ)) → table_of number ≡ o → length (line_by number part at) ≤ 25
      by none q = rw (line-of-table at q) (omega arith)
      by (some t) q = rw (line-of-table at q) (line-at-short at (elements_of (parted (rows_of t) start_of false part)))

  -- a part with an offender is within the limit and read whole
  pub offends-in : {at : ℕ} {t : List ℕ} → answer 29 (at ∷ []) ≡ check_telling number part → table_of number ≡ some t → ReadWhole t part
  offends-in {at} {t} h q = by (ltb 4096 (length part)) refl
    where
      by : (b : Bool) → ltb 4096 (length part) ≡ b → ReadWhole t part
      by true e = absurd (omega (arith, ap (λ (a : Answer). a.number) (h ∙ sym (telling-long (ltb-true 4096 (length part) e)))))
      by false e =
          let l : length part ≤ 4096 = ltb-false 4096 (length part) e in
          let p : Passed t start_of part (some at) = passed t start_of part (some at) (sym (h ∙ sym (telling-read l) ∙ by-table q)) in
          record { passes = p.passes; short = p.short; found = p.found; reads = p.decodes }

  -- ---- the text

  text-long : 4096 < length part → ascii "too long" ++ newline ≡ check_text number part
  unfolding check_text
  text-long h = rw (lt-ltb 4096 (length part) h)

  text-by : {o : Option (List ℕ)} → length part ≤ 4096 → table_of number ≡ o → check_text number part ≡ elim o [ none ↦ [] | some table ↦ check_line (rows_of table) (parted (rows_of table) start_of false part) ]
  unfolding check_text
  text-by h e = rw (le-ltb 4096 (length part) h) (ap (λ (o : Option (List ℕ)). elim o [ none ↦ [] | some table ↦ check_line (rows_of table) (parted (rows_of table) start_of false part) ]) e)

  module _ (r : Result Unit PartError) (h : length part ≤ 4096) (e : part_check_as r ≡ checking_by number part) where
    line_of : (t : List ℕ) → table_of number ≡ some t → (p : Parted) → parted (rows_of t) start_of false part ≡ p → check_said number part r ≡ check_line (rows_of t) p
    unfolding check_line elements_of
    line_of t q (cut_short a x k m) f =
        ap (check_said number part) (same-part-check r (Err (PartError.CutShort (cut_of a x k m))) (e ∙ by-table q ∙ check-cut t start_of part (passes_of number q) (omega arith) f))
    line_of t q (elements es) f = of (offender (rows_of t) 0 es) refl
      where
        is : (c : Result Unit PartError) {o : Option ℕ} → offender (rows_of t) 0 es ≡ o → unless (refuse_at 29 o) (λ a. a) (answer 0 []) ≡ part_check_as c → check_said number part r ≡ check_said number part c
        is c g s =
            ap (check_said number part) (same-part-check r c (e ∙ by-table q ∙ check-parted t start_of part (passes_of number q) (omega arith) f ∙ ap (λ (o : Option ℕ). unless (refuse_at 29 o) (λ a. a) (answer 0 [])) g ∙ s))

        of : (o : Option ℕ) → offender (rows_of t) 0 es ≡ o → check_said number part r ≡ check_line (rows_of t) (elements es)
        of none g = is (Ok tt) g refl ∙ sym (line-by (rows_of t) es g)
        of (some at) g =
            is (Err (PartError.Offends at)) g refl
            ∙ ap (λ (s : List ℕ). refused_at at ++ s) (line-of-table at q ∙ ap (λ (p : Parted). line_at at (elements_of p)) f)
            ∙ sym (line-by (rows_of t) es g)

    said_read : check_said number part r ≡ check_text number part
    said_read = by (table_of number) refl
      where
        by : (o : Option (List ℕ)) → table_of number ≡ o → check_said number part r ≡ check_text number part
        by none q = ap (check_said number part) (same-part-check r (Err PartError.NoTable) (e ∙ by-table q)) ∙ sym (text-by h q)
        by (some t) q = line_of t q (parted (rows_of t) start_of false part) refl ∙ sym (text-by h q)

  pub check-said : (r : Result Unit PartError) → part_check_as r ≡ check_telling number part → check_said number part r ≡ check_text number part
  check-said r e = by (ltb 4096 (length part)) refl
    where
      by : (b : Bool) → ltb 4096 (length part) ≡ b → check_said number part r ≡ check_text number part
      by true q =
          let l : 4096 < length part = ltb-true 4096 (length part) q in
          ap (check_said number part) (same-part-check r (Err PartError.TooLong) (e ∙ sym (telling-long l))) ∙ text-long l
      by false q =
          let l : length part ≤ 4096 = ltb-false 4096 (length part) q in
          said_read r l (e ∙ sym (telling-read l))

  -- an offender's text has at most 45 octets, that of a cut 47
  pub check-short : (c : Result Unit PartError) → length (check_said number part c) ≤ 64
  unfolding ascii
  check-short (Ok x) = omega arith
  check-short (Err (PartError.Offends at)) =
      omega (arith, length-append (refused_at at) (line_by number part at), length-append (decimal at) newline, decimal-short at, line-by-short at)
  check-short (Err (PartError.CutShort c)) = omega (arith, cut_short_lem c.start c.first c.left c.missing)
  check-short (Err PartError.TooLong) = omega arith
  check-short (Err (PartError.BadTable k)) = omega arith
  check-short (Err PartError.NoTable) = omega arith

-- an error is a refusal
pub refuses-error : (c : Result Unit PartError) → is_err c ≡ refuses (part_check_as c)
refuses-error (Ok x) = refl
refuses-error (Err (PartError.Offends at)) = refl
refuses-error (Err (PartError.CutShort c)) = refl
refuses-error (Err PartError.TooLong) = refl
refuses-error (Err (PartError.BadTable k)) = refl
refuses-error (Err PartError.NoTable) = refl
