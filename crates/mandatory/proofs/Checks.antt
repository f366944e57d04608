-- Reading by its checks: what it is at the first that refuses, and where none does.
-- Each law settles the checks before it, in document 01's order.
use Prim.Native.Nat.{ℕ, ◌*◌, ◌≤◌, ◌<◌}
use native.Mathlib.Omega.{arith}
use mathlib.Core.Path.{◌≡◌, refl, ap, sym, ◌∙◌}
use mathlib.Core.List.{List, [], ◌∷◌, append-nil}
use mathlib.Core.Bool.{Bool}
use mathlib.Core.Option.{Option, none, some}
use Rattle.std.specs.Prelude.{Err}
use borrow.Author.Tests.{lt-ltb, le-ltb}
use lib.ListN.{length}
use Rattle.definitions.specs.Basic.{Answer, answer, refusal, most_octets, over}
use Rattle.definitions.specs.Mandatory.{MandatoryRow, mandatory_rows_of, first_bad_mandatory, Rowed, rowed, RowsRead, mandatory_reading, mandatory_reading_by}
use Rattle.definitions.specs.Tables.{mandatory_table_of}
use Rattle.mandatory.specs.Notes.{no_notes}
use Rattle.mandatory.specs.Reads.{error_number, error_values, number_of, read_as, Judges, Reads, judged_from, rows_from}
use Rattle.mandatory.specs.declared.decode.MandatoryError.{MandatoryError}
use Rattle.mandatory.specs.declared.decode.MandatoryRead.{MandatoryRead}
use Rattle.mandatory.proofs.Noting.{tidy-none, notes-none}
use Rattle.mandatory.proofs.Rowing.{said_by, Same, same}

-- an answer without notes
pub said-bare : (a : MandatoryError) → read_as (record { answer = Err a; notes = no_notes }) ≡ answer (error_number a) (error_values a)
unfolding read_as
said-bare a = rw (notes-none, append-nil)

module _ (table : List ℕ) (lenient : Bool) (part rows : List ℕ) where
  abbrev t : List MandatoryRow
  t = mandatory_rows_of table

  abbrev o : Rowed
  o = rowed lenient 0 0 t part [] []

  abbrev reading : RowsRead
  reading = mandatory_reading table lenient part rows

  -- a refusal before the rows
  abbrev Refuses : MandatoryError → Type 0
  Refuses a = Reads reading (record { answer = Err a; notes = no_notes }) rows

  refuses : (a : MandatoryError) → reading ≡ record { said = answer (error_number a) (error_values a); rows = rows } → Refuses a
  refuses a e = record { answers = said-bare a ∙ ap (λ (x : RowsRead). x.said) (sym e); tidy = tidy-none; bare = λ l u. notes-none; rows_are = ap (λ (x : RowsRead). x.rows) (sym e) }

  pub read-bad : (k : ℕ) → first_bad_mandatory t ≡ some k → Refuses (MandatoryError.BadTable k)
  unfolding mandatory_reading refusal
  read-bad k e = refuses (MandatoryError.BadTable k) (rw e)

  module _ (passes : first_bad_mandatory t ≡ none) where
    pub read-long : most_octets < length part → Refuses MandatoryError.TooLong
    unfolding mandatory_reading refusal
    read-long h = refuses MandatoryError.TooLong (rw (passes, lt-ltb most_octets (length part) h))

    module _ (short : length part ≤ most_octets) where
      pub read-room : length rows < 3 * length t → Refuses MandatoryError.NoRoom
      unfolding mandatory_reading refusal
      read-room h = refuses MandatoryError.NoRoom (rw (passes, le-ltb most_octets (length part) short, lt-ltb (length rows) (3 * length t) h))

      module _ (room : 3 * length t ≤ length rows) (r : MandatoryRead) (j : Judges (judged_from lenient 0 0 t part []) r) where
        read-stopped : {a : Answer} → o.refused ≡ some a → reading ≡ record { said = a; rows = rows }
        unfolding mandatory_reading refusal
        read-stopped e = rw (passes, le-ltb most_octets (length part) short, le-ltb (length rows) (3 * length t) room, e)

        read_all : o.refused ≡ none → reading ≡ record { said = answer 0 (o.read ∷ o.notes); rows = over o.rows rows }
        unfolding mandatory_reading refusal
        read_all e = rw (passes, le-ltb most_octets (length part) short, le-ltb (length rows) (3 * length t) room, e)

        i : Same o (judged_from lenient 0 0 t part []) [] (rows_from 0 t part)
        i = same lenient 0 0 t part [] []

        -- what is said, by whether the rows refuse
        told : {x : Option Answer} → o.refused ≡ x → read_as r ≡ said_by x (answer 0 (o.read ∷ o.notes))
        told e = j.answers ∙ sym (rw e at i.said)

        number : number_of r.answer ≡ (read_as r).number
        unfolding read_as
        number = refl

        pub read-refused : 1 ≤ number_of r.answer → Reads reading r rows
        read-refused n = go o.refused refl
          where
            go : (x : Option Answer) → o.refused ≡ x → Reads reading r rows
            go none e = let z : number_of r.answer ≡ 0 = number ∙ ap (λ (a : Answer). a.number) (told e) in absurd (omega arith)
            go (some a) e =
                let q = read-stopped e in
                let m : number_of r.answer ≡ a.number = number ∙ ap (λ (x : Answer). x.number) (told e) in
                let g : 6 ≤ a.number = rw e at i.number in
                record { answers = told e ∙ ap (λ (x : RowsRead). x.said) (sym q); tidy = j.tidy; bare = λ l u. absurd (omega arith); rows_are = ap (λ (x : RowsRead). x.rows) (sym q) }

        pub read_done : {rows' : List ℕ} → number_of r.answer ≡ 0 → rows' ≡ over (rows_from 0 t part) rows → Reads reading r rows'
        read_done {rows'} z w = go o.refused refl
          where
            go : (x : Option Answer) → o.refused ≡ x → Reads reading r rows'
            go none e =
                let q = read_all e in
                record { answers = told e ∙ ap (λ (x : RowsRead). x.said) (sym q); tidy = j.tidy; bare = λ l u. absurd (omega arith); rows_are = w ∙ ap (λ (s : List ℕ). over s rows) (sym (i.leaves e)) ∙ ap (λ (x : RowsRead). x.rows) (sym q) }
            go (some a) e =
                let m : number_of r.answer ≡ a.number = number ∙ ap (λ (x : Answer). x.number) (told e) in
                let l : 6 ≤ a.number = rw e at i.number in
                absurd (omega arith)

-- ---- by table number

module _ (n : ℕ) (lenient : Bool) (part rows : List ℕ) where
  pub by_number : {table : List ℕ} {r : MandatoryRead} {rows' : List ℕ} → mandatory_table_of n ≡ some table → Reads (mandatory_reading table lenient part rows) r rows' → Reads (mandatory_reading_by n lenient part rows) r rows'
  unfolding mandatory_reading_by
  by_number {table} e h =
      let q : mandatory_reading_by n lenient part rows ≡ mandatory_reading table lenient part rows = rw (e, mandatory_reading_by) in
      rw q h

  pub by-none : mandatory_table_of n ≡ none → Reads (mandatory_reading_by n lenient part rows) (record { answer = Err MandatoryError.NoTable; notes = no_notes }) rows
  unfolding mandatory_reading_by
  by-none e =
      let q : mandatory_reading_by n lenient part rows ≡ record { said = answer 5 []; rows = rows } = rw (e, mandatory_reading_by) in
      rw q (record { answers = said-bare MandatoryError.NoTable; tidy = tidy-none; bare = λ l u. notes-none; rows_are = refl })
