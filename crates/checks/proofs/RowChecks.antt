-- The check of a row by its numbers taken at once, of any table.
-- A row that is not whole has no set of kinds, and is out of range either way.
use Prim.Native.Nat.{ℕ, ◌*◌, ◌/◌, ◌≤◌, ◌<◌}
use native.Mathlib.Omega.{arith}
use mathlib.Core.Path.{◌≡◌, refl, ap, sym, ◌∙◌}
use mathlib.Core.List.{List, [], ◌∷◌}
use mathlib.Core.Option.{some}
use mathlib.Core.Bool.{Bool, true, false, ◌&&◌, ◌||◌, not, and-true, and-false, and_assoc, false≢true}
use borrow.Author.Tests.{lt-ltb, le-ltb, ltb-true, ltb-false, le-leb, lt-leb, leb-true, leb-false}
use lib.ListN.{length, get_or, drop}
use lib.Seq.{get_or-drop}
use lib.Dec.{ltb, leb, eqb, lit<}
use Rattle.definitions.specs.Basic.{pick, most_kinds}
use Rattle.definitions.specs.Rows.{Row, row_of, rows_of, row_at, ieis, good_iei}
use Rattle.definitions.proofs.RowLaws.{both}
use Rattle.definitions.proofs.TableLaws.{past, row_at_lem, iei-at, iei-count, count-is}
use Rattle.rows.specs.Numbers.{numbers_of, no_numbers, numbers_at}
use Rattle.rows.specs.declared.columns.Numbers.{Numbers}
use Rattle.indexing.specs.Marks.{free, enter, enter_all, enters, mark_of, enter_row}
use Rattle.checks.specs.Passes.{in_range, ieis_pass, passes}
use Rattle.checks.proofs.Steps.{Told, Checking, too_many, bad-row}

single : (l : List ℕ) → length l ≡ 1 → l ≡ get_or l 0 0 ∷ []
single [] e = absurd (omega arith)
single (x ∷ []) e = refl
single (x ∷ y ∷ l) e = absurd (omega arith)

-- ---- the ranges, in the order in which they are tested

module _ (code size least greatest kinds : ℕ) where
  abbrev range : Bool
  range = in_range code size least greatest kinds

  abbrev kinded : Bool → Bool
  kinded half = leb 1 kinds && leb kinds (most_kinds half)

  abbrev sized : Bool
  sized = not (eqb code 1) || leb size 255

  abbrev long : Bool
  long = leb least greatest && leb greatest 65538

  pub by-kinds : range ≡ (kinded (eqb code 0) && (leb code 3 && (sized && long)))
  unfolding in_range
  by-kinds = sym (and_assoc (leb 1 kinds) (leb kinds (most_kinds (eqb code 0))) (leb code 3 && (sized && long)))

  -- a form that is not in range, whatever else is asked
  pub no-form : leb code 3 ≡ false → (g : Bool) → (range && g) ≡ false
  no-form e g = rw (by-kinds, e, and-false (kinded (eqb code 0)))

  pub no_size : sized ≡ false → (g : Bool) → (range && g) ≡ false
  no_size e g = rw (by-kinds, e, and-false (leb code 3), and-false (kinded (eqb code 0)))

  -- one that is: what is left of the ranges, with something more that is asked
  pub by_form : (half g : Bool) → eqb code 0 ≡ half → code ≤ 3 → sized ≡ true → (kinded half && (long && g)) ≡ (range && g)
  by_form half g h l s = rw (by-kinds, h, le-leb code 3 l, s) (sym (and_assoc (kinded half) long g))

abbrev pub range_of : Numbers → Bool
range_of n = in_range n.code n.size n.least n.greatest n.kinds

module _ (table ix : List ℕ) (k : ℕ) (n : Numbers) (e : n ≡ numbers_at table k) where
  abbrev row : Row
  row = row_at (rows_of table) k

  -- a row that is not whole has no kind, and is out of range either way
  range-by : range_of n ≡ in_range row.code row.size row.least row.greatest row.kinds
  unfolding numbers_at in_range row_of
  range-by = rw e (by (ltb k (length table / 10)) refl)
    where
      by : (b : Bool) → ltb k (length table / 10) ≡ b → range_of (pick b (numbers_of (drop (10 * k) table)) no_numbers) ≡ in_range row.code row.size row.least row.greatest row.kinds
      by true f = rw (row_at_lem table k)
      by false f =
          let h = ltb-false k (length table / 10) f in
          let z : row.kinds ≡ 0 = ap (λ (r : Row). r.kinds) (row_at_lem table k) ∙ past (10 * k) table 9 (omega arith) in
          rw z

  pub out_of_range : range_of n ≡ false → passes k row ix ≡ false
  unfolding passes
  out_of_range p = rw (sym range-by ∙ p)

  module _ (p : range_of n ≡ true) where
    here : k < length table / 10
    unfolding numbers_at in_range
    here = by (ltb k (length table / 10)) refl (rw e at p)
      where
        by : (b : Bool) → ltb k (length table / 10) ≡ b → range_of (pick b (numbers_of (drop (10 * k) table)) no_numbers) ≡ true → k < length table / 10
        by true f q = ltb-true k (length table / 10) f
        by false f q = absurd (false≢true q)

    said : n ≡ numbers_of (drop (10 * k) table)
    unfolding numbers_at
    said = e ∙ rw (lt-ltb k (length table / 10) here)

    its-count : row.count ≡ n.count
    unfolding row_of
    its-count = rw (row_at_lem table k, said)

    its-code : row.code ≡ n.code
    unfolding row_of
    its-code = rw (row_at_lem table k, said)

    its-ieis : passes k row ix ≡ ieis_pass k row ix
    unfolding passes
    its-ieis = rw (sym range-by ∙ p)

    counted : passes k row ix ≡ ((leb 1 n.count && leb n.count 4) && enters (eqb row.code 0) (mark_of k) (ieis row) ix)
    unfolding ieis_pass
    counted = its-ieis ∙ rw its-count (sym (and_assoc (leb 1 n.count) (leb n.count 4) _))

    -- one IEI
    module _ (o : n.count ≡ 1) where
      alone : ieis row ≡ n.first ∷ []
      alone =
          let z = count-is table k in
          let f = iei-at table k 0 (omega (arith, its-count)) (lit< tt) ∙ sym (get_or-drop (10 * k) table 1 0) in
          single (ieis row) (omega (arith, iei-count table k, here, its-count)) ∙ ap (λ (x : ℕ). x ∷ []) (f ∙ ap (λ (m : Numbers). m.first) (sym said))

      one_passes : passes k row ix ≡ (good_iei (eqb n.code 0) n.first && free ix n.first)
      unfolding ieis_pass enters
      one_passes = its-ieis ∙ rw (alone, its-count, o, its-code) (and-true _)

      one-entered : enter_row k row ix ≡ enter (mark_of k) n.first ix
      unfolding enter_all
      one-entered = rw alone

  -- the check of a row: its ranges, how many IEIs, and these
  pub judged : passes k row ix ≡ (range_of n && ((leb 1 n.count && leb n.count 4) && enters (eqb row.code 0) (mark_of k) (ieis row) ix))
  judged = by (range_of n) refl
    where
      by : (b : Bool) → range_of n ≡ b → passes k row ix ≡ (b && ((leb 1 n.count && leb n.count 4) && enters (eqb row.code 0) (mark_of k) (ieis row) ix))
      by true p = counted p
      by false p = out_of_range p

  -- the same by its numbers alone, and what is entered of one that passes
  module _ (o : n.count ≡ 1) where
    abbrev iei-passes : Bool
    iei-passes = good_iei (eqb n.code 0) n.first && free ix n.first

    pub one-judged : passes k row ix ≡ (range_of n && iei-passes)
    one-judged = by (range_of n) refl
      where
        by : (b : Bool) → range_of n ≡ b → passes k row ix ≡ (b && iei-passes)
        by true p = one_passes p o
        by false p = out_of_range p

    pub one-enters : {r : Bool} → r ≡ (range_of n && iei-passes) → r ≡ true → enter_row k row ix ≡ enter (mark_of k) n.first ix
    one-enters e q = one-entered (both (range_of n) iei-passes (sym e ∙ q)).0 o

-- behind the whole rows stands an unfinished one, or one too many
pub past-whole : (table ix₀ ix : List ℕ) (n : ℕ) → n ≡ length table / 10 → n < length (rows_of table) → Checking (rows_of table) ix₀ n ix → Told (rows_of table) ix₀ (some n) ix
unfolding numbers_at in_range
past-whole table ix₀ ix n e h c = by (leb 128 n) refl
  where
    by : (b : Bool) → leb 128 n ≡ b → Told (rows_of table) ix₀ (some n) ix
    by true q = too_many (rows_of table) ix₀ n ix c h (leb-true 128 n q)
    by false q =
        let l = leb-false 128 n q in
        let z : no_numbers ≡ numbers_at table n = rw (le-ltb n (length table / 10) (omega arith)) in
        bad-row (rows_of table) ix₀ n ix c h l (out_of_range table ix n no_numbers z refl) ix
