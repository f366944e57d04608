-- Writing by its checks: what it is at the first that refuses, and where none does; and how many octets are written.
-- Each law of a check settles those before it, in document 01's order. The octets are those of the elements under logged IEIs, of the
-- added ones and of the kept ones, in whatever order they come: by induction on the entries of the order log.
use Prim.Native.Nat.{ℕ, ◌+◌, ◌*◌, ◌≤◌, ◌<◌}
use native.Mathlib.Omega.{arith}
use mathlib.Core.Path.{◌≡◌, refl}
use mathlib.Core.List.{List, [], ◌∷◌, ◌++◌}
use mathlib.Core.Bool.{Bool, true, false, ◌||◌}
use mathlib.Core.Option.{Option, none, some}
use borrow.Author.Tests.{lt-ltb, le-ltb}
use lib.ListN.{length, length-append}
use lib.Dec.{ltb}
use Rattle.definitions.specs.Basic.{pick, is_none, concat, Answer, answer, refusal, over, Used, content, too_long, most_log}
use Rattle.definitions.specs.Rows.{Row, rows_of, first_bad, place_of}
use Rattle.definitions.specs.Tables.{table_of}
use Rattle.definitions.specs.Logs.{Placed, known_iei, not_known, ignored, kept_list, order_list, or_empty}
use Rattle.definitions.specs.Values.{Octets, place_width, bad_rows, apart, values_too_long}
use Rattle.definitions.specs.Writing.{Filled, element_at, below, not_below, firsts, walked, written, unfit, octets_in, octets_for, writing_checks, Wrote, writing, writing_by}

-- ---- the checks

-- a refusal changes nothing lent
abbrev pub unwritten : List ℕ → Answer → Wrote
unwritten output a = record { said = a; output = output }

module _ (table rows received : List ℕ) (set order kept : Used) (output : List ℕ) where
  abbrev t : List Row
  t = rows_of table

  abbrev o : Octets
  o = record { received = received; set = content set }

  abbrev wrote : Wrote
  wrote = writing table rows received set order kept output

  pub write-bad : {k : ℕ} → first_bad t ≡ some k → wrote ≡ unwritten output (answer 4 (k ∷ []))
  unfolding writing writing_checks refusal
  write-bad e = rw e

  module _ (passes : first_bad t ≡ none) where
    pub write-long : (values_too_long received set || (too_long most_log order || too_long most_log kept)) ≡ true → wrote ≡ unwritten output (answer 3 [])
    unfolding writing writing_checks refusal
    write-long h = rw (passes, h)

    module _ (short : (values_too_long received set || (too_long most_log order || too_long most_log kept)) ≡ false) where
      pub write-rows : length rows < place_width * length t → wrote ≡ unwritten output (answer 2 (1 ∷ []))
      unfolding writing writing_checks refusal
      write-rows h = rw (passes, short, lt-ltb (length rows) (place_width * length t) h)

      module _ (room : place_width * length t ≤ length rows) where
        pub write-order : order_list (content order) ≡ none → wrote ≡ unwritten output (answer 11 (1 ∷ []))
        unfolding writing writing_checks refusal is_none
        write-order e = rw (passes, short, le-ltb (length rows) (place_width * length t) room, e)

        module _ (ps : List Placed) (p : order_list (content order) ≡ some ps) where
          pub write_kept : kept_list (content kept) ≡ none → wrote ≡ unwritten output (answer 11 (2 ∷ []))
          unfolding writing writing_checks refusal is_none
          write_kept e = rw (passes, short, le-ltb (length rows) (place_width * length t) room, p, e)

          module _ (ks : List (List ℕ)) (q : kept_list (content kept) ≡ some ks) where
            pub write-values : (bad_rows place_width o rows (length t) || apart t ps rows) ≡ true → wrote ≡ unwritten output (answer 11 (3 ∷ []))
            unfolding writing writing_checks refusal is_none octets_in or_empty
            write-values e = rw (passes, short, le-ltb (length rows) (place_width * length t) room, p, q, e)

            module _ (good : (bad_rows place_width o rows (length t) || apart t ps rows) ≡ false) where
              pub write-unfit : {k : ℕ} → unfit t o rows ≡ some k → wrote ≡ unwritten output (answer 10 (k ∷ []))
              unfolding writing writing_checks refusal is_none octets_in or_empty
              write-unfit e = rw (passes, short, le-ltb (length rows) (place_width * length t) room, p, q, good, e)

              module _ (fit : unfit t o rows ≡ none) where
                abbrev w : List ℕ
                w = written (record { table = t; rows = rows; octets = o }) ps ks

                pub write-short : length output < length w → wrote ≡ unwritten output (answer 12 (length w ∷ []))
                unfolding writing writing_checks refusal is_none octets_in octets_for or_empty
                write-short h = rw (passes, short, le-ltb (length rows) (place_width * length t) room, p, q, good, fit, lt-ltb (length output) (length w) h)

                pub write_done : length w ≤ length output → wrote ≡ record { said = answer 0 (length w ∷ []); output = over w output }
                unfolding writing writing_checks refusal is_none octets_in octets_for or_empty
                write_done h = rw (passes, short, le-ltb (length rows) (place_width * length t) room, p, q, good, fit, le-ltb (length output) (length w) h)

-- by table number
module _ (n : ℕ) (rows received : List ℕ) (set order kept : Used) (output : List ℕ) where
  pub write-by : {table : List ℕ} → table_of n ≡ some table → writing_by n rows received set order kept output ≡ writing table rows received set order kept output
  unfolding writing_by
  write-by e = rw (e, writing_by)

  pub write-none : table_of n ≡ none → writing_by n rows received set order kept output ≡ unwritten output (answer 5 [])
  unfolding writing_by
  write-none e = rw (e, writing_by)

-- ---- how many octets are written

module _ (m : Filled) where
  -- those of the elements under the IEIs of an order log
  unfoldable pub logged_length : List Placed → ℕ
  logged_length [] = 0
  logged_length (known_iei i ∷ ps) = elim (place_of m.table i) [ none ↦ logged_length ps | some k ↦ length (element_at m k i) + logged_length ps ]
  logged_length (not_known ∷ ps) = logged_length ps
  logged_length (ignored r ∷ ps) = logged_length ps

  -- those below a place and the others
  parted : (k : ℕ) (added : List ℕ) → length (firsts m (below k added)) + length (firsts m (not_below k added)) ≡ length (firsts m added)
  unfolding below not_below firsts
  parted k [] = refl
  parted k (j ∷ js) = by (ltb j k) (parted k js)
    where
      by : (b : Bool) → length (firsts m (below k js)) + length (firsts m (not_below k js)) ≡ length (firsts m js)
          → length (firsts m (pick b (j ∷ below k js) (below k js))) + length (firsts m (pick b (not_below k js) (j ∷ not_below k js))) ≡ length (firsts m (j ∷ js))
      by true r = simp length-append (omega arith)
      by false r = simp length-append (omega arith)

  pub walked-length : (ps : List Placed) (added : List ℕ) (kept : List (List ℕ))
      → length (walked m ps added kept) ≡ logged_length ps + (length (firsts m added) + length (concat kept))
  unfolding walked logged_length concat
  walked-length [] added kept = simp length-append (omega arith)
  walked-length (known_iei i ∷ ps) added kept = by (place_of m.table i) (λ a. walked-length ps a kept)
    where
      by : (o : Option ℕ) → ((a : List ℕ) → length (walked m ps a kept) ≡ logged_length ps + (length (firsts m a) + length (concat kept)))
          → length {A = ℕ} (elim o [ none ↦ walked m ps added kept | some k ↦ firsts m (below k added) ++ (element_at m k i ++ walked m ps (not_below k added) kept) ])
          ≡ elim o [ none ↦ logged_length ps | some k ↦ length (element_at m k i) + logged_length ps ] + (length (firsts m added) + length (concat kept))
      by none r = r added
      by (some k) r = simp length-append (omega (arith, r (not_below k added), parted k added))
  walked-length (not_known ∷ ps) added [] = walked-length ps added []
  walked-length (not_known ∷ ps) added (e ∷ kept) = simp length-append (omega (arith, walked-length ps added kept))
  walked-length (ignored r ∷ ps) added [] = walked-length ps added []
  walked-length (ignored r ∷ ps) added (e ∷ kept) = simp length-append (omega (arith, walked-length ps added kept))
