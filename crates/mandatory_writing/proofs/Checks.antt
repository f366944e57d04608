-- Writing by its checks: what it is at the first that refuses, and where none does.
-- Each law settles the checks before it, in document 01's order.
use Prim.Native.Nat.{ℕ, ◌*◌, ◌≤◌, ◌<◌}
use mathlib.Core.Path.{◌≡◌, ap, sym}
use mathlib.Core.List.{List}
use mathlib.Core.Bool.{true, false, not}
use mathlib.Core.Option.{none, some}
use borrow.Author.Tests.{lt-ltb, le-ltb}
use lib.ListN.{length}
use Rattle.definitions.specs.Basic.{is_none, refusal, over, Used, content}
use Rattle.definitions.specs.Mandatory.{MandatoryRow, mandatory_rows_of, first_bad_mandatory, rows_written, RowsWrote, mandatory_writing, mandatory_writing_by}
use Rattle.definitions.specs.Tables.{mandatory_table_of}
use Rattle.definitions.specs.Values.{Octets, mandatory_width, bad_rows, values_too_long}
use Rattle.values.specs.Rows.{sources_of}
use Rattle.mandatory_writing.specs.Writes.{wrote_as, Writes, fits_at, misfit_in, absent_in, wrote_by}
use Rattle.std.specs.Prelude.{Result, Ok, Err}
use Rattle.mandatory_writing.specs.declared.encode.MandatoryWriteError.{MandatoryWriteError}

-- an answer, and what it leaves
pub writes : {d : RowsWrote} (r : Result ℕ MandatoryWriteError) {output : List ℕ} → d ≡ record { said = wrote_as r; output = output } → Writes d r output
writes r e = record { answers = ap (λ (x : RowsWrote). x.said) (sym e); output-is = ap (λ (x : RowsWrote). x.output) (sym e) }

-- ---- the rows, their values, the output

module _ (t : List MandatoryRow) (o : Octets) (rows output : List ℕ) where
  pub wrote-bad : bad_rows mandatory_width o rows (length t) ≡ true → Writes (wrote_by t o rows output) (Err MandatoryWriteError.Malformed) output
  unfolding wrote_by refusal
  wrote-bad b = writes (Err MandatoryWriteError.Malformed) (rw b)

  module _ (b : bad_rows mandatory_width o rows (length t) ≡ false) where
    pub wrote-absent : not (is_none (absent_in rows (length t))) ≡ true → Writes (wrote_by t o rows output) (Err MandatoryWriteError.Malformed) output
    unfolding wrote_by refusal
    wrote-absent a = writes (Err MandatoryWriteError.Malformed) (rw (b, a))

    module _ (a : not (is_none (absent_in rows (length t))) ≡ false) where
      pub wrote-unfit : (k : ℕ) → misfit_in t o rows 0 (length t) ≡ some k → Writes (wrote_by t o rows output) (Err (MandatoryWriteError.Unfit k)) output
      unfolding wrote_by refusal
      wrote-unfit k e = writes (Err (MandatoryWriteError.Unfit k)) (rw (b, a, e))

      module _ (e : misfit_in t o rows 0 (length t) ≡ none) {size : ℕ} (s : length (rows_written o rows 0 0 t) ≡ size) where
        pub wrote-short : length output < size → Writes (wrote_by t o rows output) (Err (MandatoryWriteError.OutputShort size)) output
        unfolding wrote_by refusal
        wrote-short h = writes (Err (MandatoryWriteError.OutputShort size)) (rw (b, a, e, s, lt-ltb (length output) size h))

        pub wrote-done : {output' : List ℕ} → size ≤ length output → output' ≡ over (rows_written o rows 0 0 t) output → Writes (wrote_by t o rows output) (Ok size) output'
        unfolding wrote_by refusal
        wrote-done h w = writes (Ok size) (rw (b, a, e, s, le-ltb (length output) size h, w))

-- ---- the checks before them

module _ (table rows received : List ℕ) (set : Used) (output : List ℕ) where
  abbrev t : List MandatoryRow
  t = mandatory_rows_of table

  pub writing-table : (k : ℕ) → first_bad_mandatory t ≡ some k → Writes (mandatory_writing table rows received set output) (Err (MandatoryWriteError.BadTable k)) output
  unfolding mandatory_writing refusal
  writing-table k e = writes (Err (MandatoryWriteError.BadTable k)) (rw e)

  module _ (p : first_bad_mandatory t ≡ none) where
    pub writing-long : values_too_long received set ≡ true → Writes (mandatory_writing table rows received set output) (Err MandatoryWriteError.TooLong) output
    unfolding mandatory_writing refusal
    writing-long e = writes (Err MandatoryWriteError.TooLong) (rw (p, e))

    module _ (e : values_too_long received set ≡ false) where
      pub writing-room : length rows < 3 * length t → Writes (mandatory_writing table rows received set output) (Err MandatoryWriteError.NoRoom) output
      unfolding mandatory_writing refusal
      writing-room h = writes (Err MandatoryWriteError.NoRoom) (rw (p, e, lt-ltb (length rows) (3 * length t) h))

      pub writing-rest : 3 * length t ≤ length rows → mandatory_writing table rows received set output ≡ wrote_by t (sources_of received (content set)) rows output
      unfolding mandatory_writing refusal wrote_by fits_at
      writing-rest h = rw (p, e, le-ltb (length rows) (3 * length t) h)

-- ---- by table number

module _ (n : ℕ) (rows received : List ℕ) (set : Used) (output : List ℕ) where
  pub by_number : {table : List ℕ} {r : Result ℕ MandatoryWriteError} {output' : List ℕ} → mandatory_table_of n ≡ some table → Writes (mandatory_writing table rows received set output) r output' → Writes (mandatory_writing_by n rows received set output) r output'
  unfolding mandatory_writing_by
  by_number {table} e h =
      let q : mandatory_writing_by n rows received set output ≡ mandatory_writing table rows received set output = rw (e, mandatory_writing_by) in
      rw q h

  pub by-none : mandatory_table_of n ≡ none → Writes (mandatory_writing_by n rows received set output) (Err MandatoryWriteError.NoTable) output
  unfolding mandatory_writing_by
  by-none e = writes (Err MandatoryWriteError.NoTable) (rw (e, mandatory_writing_by))
