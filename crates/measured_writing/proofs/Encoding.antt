-- Writing by what was measured: each answer of the code is the definition's, with the output that it leaves. A refusal leaves the
-- output as it was; where writing is done, what was measured is as long as what is written.
use Prim.Native.Nat.{ℕ, ◌+◌, ◌*◌, ◌-◌, ◌≤◌, ◌<◌}
use native.Mathlib.Omega.{arith}
use mathlib.Core.Path.{◌≡◌, refl, ap, sym, ◌∙◌}
use mathlib.Core.List.{List, [], ◌∷◌}
use mathlib.Core.Bool.{Bool, true, false, ◌&&◌, ◌||◌, not, false≢true}
use mathlib.Core.Option.{none, some}
use borrow.Author.Tests.{le-ltb, ltb-false}
use lib.ListN.{length, take, length-take}
use lib.Seq.{take_all}
use lib.Dec.{ltb}
use Rattle.std.specs.Prelude.{Ok, Err}
use Rattle.definitions.specs.Basic.{among, bit, concat, Answer, answer, over, content, too_long, most_octets, most_log}
use Rattle.definitions.specs.Rows.{Row, rows_of, first_iei, first_bad, index}
use Rattle.definitions.specs.Logs.{Placed, kept_list, order_list}
use Rattle.definitions.specs.Values.{place_width, value_at, present, good_value, any_of, bad_rows, apart, unfit_at, values_too_long}
use Rattle.definitions.specs.Writing.{Filled, logged, written, unfit, octets_in, octets_for, writing_checks, Wrote, writing}
use Rattle.definitions.proofs.WriteLaws.{unwritten, write-long, write-rows, write-order, write_kept, write-values, write-unfit, write-short, write_done, logged_length, walked-length}
use Rattle.definitions.proofs.Checks.{none_first, either-of, neither}
use Rattle.kept.specs.Kept.{used_of}
use Rattle.values.specs.Rows.{sources_of}
use Rattle.values.specs.Checks.{long_with}
use Rattle.agreement.specs.Agreed.{apart_by, Agreeing}
use Rattle.agreement.proofs.Agreeing.{found-apart, all_apart}
use Rattle.measured_writing.specs.Added.{filled_of, added_in, added_octets}
use Rattle.measured_writing.specs.Sizes.{Tells, AddedAre, SurveyedBy, wrong_at, wrong}
use Rattle.measured_writing.specs.Encodes.{Encoded, encoded_as, survey_error, Encodes, used_up, Limited}
use Rattle.measured_writing.specs.declared.encode.Which.{Which}
use Rattle.measured_writing.specs.declared.encode.EncodeError.{EncodeError}
use Rattle.measured_writing.specs.declared.sizes.SurveyError.{SurveyError}
use Rattle.measured_writing.proofs.Cursor.{left_of, written-left}
use Rattle.measured_writing.proofs.Walked.{Writable}

-- a refusal, and the same of an equal writing
pub refused : {w : Wrote} {output : List ℕ} {a : Answer} {r : Encoded} → w ≡ unwritten output a → encoded_as r ≡ a → Encodes w r output
refused e q = record { answers = q ∙ ap (λ (x : Wrote). x.said) (sym e); output-is = ap (λ (x : Wrote). x.output) (sym e) }

pub moved : {v w : Wrote} {r : Encoded} {output : List ℕ} → v ≡ w → Encodes w r output → Encodes v r output
moved e h = rw e h

-- ---- what was measured

module _ (m : Filled) (order : List ℕ) (octets s a : ℕ) (t : Tells m order octets s []) (added : AddedAre m s a) where
  -- the set has the added places
  has-added : (k : ℕ) → k < length m.table → (present (value_at m.rows k) && not (among k (logged m.table t.ps))) ≡ bit k a
  unfolding among logged
  has-added k h = ap (λ (b : Bool). present (value_at m.rows k) && not b) (sym (t.places k)) ∙ sym (added k h)

  left-length : (ps : List Placed) (ks : List (List ℕ)) → length (left_of m a ps 0 ks) ≡ logged_length m ps + (length (added_octets m a 0 (length m.table)) + length (concat ks))
  unfolding left_of added_octets
  left-length ps ks = walked-length m ps (added_in a 0 (length m.table - 0)) ks

  -- the octets needed are those of all that is written
  pub needed : (ks : List (List ℕ)) {k n : ℕ} → k ≡ length (concat ks) → n ≡ length (added_octets m a 0 (length m.table)) → octets + k + n ≡ length (written m t.ps ks)
  unfolding logged_length
  needed ks p q = rw (written-left m a t.ps ks has-added) (omega (arith, t.sum, left-length t.ps ks))

  pub all_left : (ks : List (List ℕ)) → left_of m a t.ps 0 ks ≡ written m t.ps ks
  all_left ks = sym (written-left m a t.ps ks has-added)

pub writable : (table rows received set : List ℕ) → first_bad (rows_of table) ≡ none → unfit (rows_of table) (sources_of received set) rows ≡ none → Writable table rows received set
unfolding unfit
writable table rows received set p f =
    record { passes = p; fit = λ k h. none_first (unfit_at (rows_of table) (sources_of received set) rows) 0 (length (rows_of table)) f k (omega arith) (omega arith) }

-- ---- the rows, malformed or beside the log

pub wrong-rows : (m : Filled) (set : ℕ) (ps : List Placed) → Agreeing m.table m.rows ps [] set false
    → wrong m set ≡ (bad_rows place_width m.octets m.rows (length m.table) || apart m.table ps m.rows)
unfolding wrong_at bad_rows
wrong-rows m set ps a =
    either-of (λ k. not (good_value m.octets (value_at m.rows k))) (λ k. apart_by m.rows set k (first_iei m.table k)) (length m.table)
    ∙ ap (λ (b : Bool). any_of (λ k. not (good_value m.octets (value_at m.rows k))) (length m.table) || b) (all_apart m.table m.rows ps set a)

pub apart-rows : (m : Filled) (set : ℕ) (ps : List Placed) → Agreeing m.table m.rows ps [] set true
    → (bad_rows place_width m.octets m.rows (length m.table) || apart m.table ps m.rows) ≡ true
apart-rows m set ps a = rw (found-apart m.table m.rows ps set a) (by (bad_rows place_width m.octets m.rows (length m.table)))
  where
    by : (b : Bool) → (b || true) ≡ true
    by true = refl
    by false = refl

-- ---- of octets that are used to their end

up : (s : List ℕ) → content (used_up s) ≡ s
unfolding content
up s = take_all (length s) s (omega arith)

up-short : (most : ℕ) (s : List ℕ) → length s ≤ most → too_long most (used_up s) ≡ false
unfolding too_long
up-short most s h = rw (le-ltb (length s) (length s) (omega arith), le-ltb most (length s) h)

module _ (table entries rows received set kept order output : List ℕ) (l : Limited table entries rows received set kept order) where
  abbrev t : List Row
  t = rows_of table

  abbrev m : Filled
  m = filled_of table rows received set

  abbrev w : Wrote
  w = writing table rows received (used_up set) (used_up order) (used_up kept) output

  passes : first_bad t ≡ none
  passes = l.sized.passes

  short : (values_too_long received (used_up set) || (too_long most_log (used_up order) || too_long most_log (used_up kept))) ≡ false
  unfolding values_too_long
  short =
      rw (le-ltb most_octets (length received) l.sized.received-short, up-short most_octets set l.sized.set-short, up-short most_log order l.order-short, up-short most_log kept l.kept-short)

  pub no-order : order_list order ≡ none → Encodes w (Err (EncodeError.Malformed Which.Order)) output
  no-order e = refused (write-order table rows received (used_up set) (used_up order) (used_up kept) output passes short l.rows-there (rw (up order) e)) refl

  module _ (ps : List Placed) (p : order_list order ≡ some ps) where
    p' : order_list (content (used_up order)) ≡ some ps
    p' = rw (up order) p

    pub no-kept : kept_list kept ≡ none → Encodes w (Err (EncodeError.Malformed Which.Kept)) output
    no-kept e = refused (write_kept table rows received (used_up set) (used_up order) (used_up kept) output passes short l.rows-there ps p' (rw (up kept) e)) refl

    module _ (ks : List (List ℕ)) (q : kept_list kept ≡ some ks) where
      q' : kept_list (content (used_up kept)) ≡ some ks
      q' = rw (up kept) q

      pub bad-rows : (bad_rows place_width (sources_of received set) rows (length t) || apart t ps rows) ≡ true → Encodes w (Err (EncodeError.Malformed Which.Rows)) output
      bad-rows e = refused (write-values table rows received (used_up set) (used_up order) (used_up kept) output passes short l.rows-there ps p' ks q' (rw (up set) e)) refl

      module _ (good : (bad_rows place_width (sources_of received set) rows (length t) || apart t ps rows) ≡ false) where
        good' : (bad_rows place_width (sources_of received (content (used_up set))) rows (length t) || apart t ps rows) ≡ false
        good' = rw (up set) good

        pub no-fit : {k : ℕ} → unfit t (sources_of received set) rows ≡ some k → Encodes w (Err (EncodeError.Unfit k)) output
        no-fit e = refused (write-unfit table rows received (used_up set) (used_up order) (used_up kept) output passes short l.rows-there ps p' ks q' good' (rw (up set) e)) refl

        module _ (fit : unfit t (sources_of received set) rows ≡ none) (need : ℕ) (n : need ≡ length (written m ps ks)) where
          fit' : unfit t (sources_of received (content (used_up set))) rows ≡ none
          fit' = rw (up set) fit

          all : written (filled_of table rows received (content (used_up set))) ps ks ≡ written m ps ks
          all = ap (λ (s : List ℕ). written (filled_of table rows received s) ps ks) (up set)

          n' : need ≡ length (written (filled_of table rows received (content (used_up set))) ps ks)
          n' = n ∙ ap length (sym all)

          pub no_output : length output < need → Encodes w (Err (EncodeError.NoOutput need)) output
          no_output h =
              refused (write-short table rows received (used_up set) (used_up order) (used_up kept) output passes short l.rows-there ps p' ks q' good' fit' (omega (arith, n')))
              (ap (λ (k : ℕ). answer 12 (k ∷ [])) n')

          pub done : {after : List ℕ} → need ≤ length output → after ≡ over (written m ps ks) output → Encodes w (Ok need) after
          done h a =
              let e = write_done table rows received (used_up set) (used_up order) (used_up kept) output passes short l.rows-there ps p' ks q' good' fit' (omega (arith, n')) in
              record {
                answers = ap (λ (k : ℕ). answer 0 (k ∷ [])) n' ∙ ap (λ (x : Wrote). x.said) (sym e);
                output-is = a ∙ ap (λ (s : List ℕ). over s output) (sym all) ∙ ap (λ (x : Wrote). x.output) (sym e);
              }

      -- what a look at all places refuses, by the set of the logged ones
      pub no-survey : (logged : ℕ) → Agreeing t rows ps [] logged false → (e : SurveyError) → SurveyedBy m logged (Err e) → Encodes w (Err (survey_error e)) output
      no-survey logged a SurveyError.Malformed h = bad-rows (sym (wrong-rows m logged ps a) ∙ h)
      no-survey logged a (SurveyError.Unfit k) h = no-fit (sym (wrong-rows m logged ps a) ∙ h.0) h.1

-- ---- of octets with their used counts

-- a count that is not too long
pub not-long : (most : ℕ) (s : List ℕ) (n : ℕ) → too_long most (used_of s n) ≡ false → (n ≤ length s) × (n ≤ most)
unfolding too_long
not-long most s n e = by (ltb (length s) n) (ltb most n) refl refl e
  where
    by : (b c : Bool) → ltb (length s) n ≡ b → ltb most n ≡ c → (b || c) ≡ false → (n ≤ length s) × (n ≤ most)
    by true c x y z = absurd (false≢true (sym z))
    by false true x y z = absurd (false≢true (sym z))
    by false false x y z = (ltb-false (length s) n x, ltb-false most n y)

-- values that are not too long, with no set octet to come
pub no_more : (received set : List ℕ) (n : ℕ) → long_with received (used_of set n) 0 ≡ values_too_long received (used_of set n)
unfolding long_with values_too_long too_long
no_more received set n = let z : n + 0 ≡ n = omega arith in rw z (by (ltb most_octets (length received)) (ltb (length set) n) (ltb most_octets n))
  where
    by : (a b c : Bool) → ((a || (b || c)) || c) ≡ (a || (b || c))
    by true b c = refl
    by false true c = refl
    by false false true = refl
    by false false false = refl

pub values-short : (received set : List ℕ) (n : ℕ) → values_too_long received (used_of set n) ≡ false → (length received ≤ most_octets) × (too_long most_octets (used_of set n) ≡ false)
unfolding values_too_long
values-short received set n e = let w = neither (ltb most_octets (length received)) (too_long most_octets (used_of set n)) e in (ltb-false most_octets (length received) w.0, w.1)

same-content : (s : List ℕ) (n : ℕ) → content (used_up (take n s)) ≡ content (used_of s n)
unfolding content
same-content s n = take_all (length (take n s)) (take n s) (omega arith)

module _ (table entries rows received set : List ℕ) (set-used : ℕ) (kept : List ℕ) (kept-used : ℕ) (order : List ℕ) (order-used : ℕ) (output : List ℕ)
    (passes : first_bad (rows_of table) ≡ none) where
  abbrev v : Wrote
  v = writing table rows received (used_of set set-used) (used_of order order-used) (used_of kept kept-used) output

  pub long-values : values_too_long received (used_of set set-used) ≡ true → Encodes v (Err EncodeError.TooLong) output
  long-values e = refused (write-long table rows received (used_of set set-used) (used_of order order-used) (used_of kept kept-used) output passes (rw e)) refl

  pub long-logs : values_too_long received (used_of set set-used) ≡ false → (too_long most_log (used_of order order-used) || too_long most_log (used_of kept kept-used)) ≡ true → Encodes v (Err EncodeError.TooLong) output
  long-logs e f = refused (write-long table rows received (used_of set set-used) (used_of order order-used) (used_of kept kept-used) output passes (rw (e, f))) refl

  module _ (a : length received ≤ most_octets) where
    module _ (b : too_long most_octets (used_of set set-used) ≡ false) where
      module _ (c : too_long most_log (used_of order order-used) ≡ false) where
        module _ (d : too_long most_log (used_of kept kept-used) ≡ false) where
          all_short : (values_too_long received (used_of set set-used) || (too_long most_log (used_of order order-used) || too_long most_log (used_of kept kept-used))) ≡ false
          unfolding values_too_long
          all_short = rw (le-ltb most_octets (length received) a, b, c, d)

          pub no_rows : length rows < 4 * length (rows_of table) → Encodes v (Err EncodeError.NoRows) output
          no_rows h = refused (write-rows table rows received (used_of set set-used) (used_of order order-used) (used_of kept kept-used) output passes all_short h) refl

          -- each count is within its buffer
          pub within : (set-used ≤ length set) × (kept-used ≤ length kept) × (order-used ≤ length order)
          within = ((not-long most_octets set set-used b).0, (not-long most_log kept kept-used d).0, (not-long most_log order order-used c).0)

          module _ (room : 4 * length (rows_of table) ≤ length rows) (i : entries ≡ index (rows_of table)) where
            pub limited : Limited table entries rows received (take set-used set) (take kept-used kept) (take order-used order)
            limited =
                let x = (not-long most_octets set set-used b).1 in
                let y = (not-long most_log kept kept-used d).1 in
                let z = (not-long most_log order order-used c).1 in
                record {
                  sized = record { passes = passes; indexed = i; received-short = a; set-short = simp length-take (omega arith) };
                  kept-short = simp length-take (omega arith);
                  order-short = simp length-take (omega arith);
                  rows-there = room;
                }

            up-all-short : (values_too_long received (used_up (take set-used set)) || (too_long most_log (used_up (take order-used order)) || too_long most_log (used_up (take kept-used kept)))) ≡ false
            up-all-short = short table entries rows received (take set-used set) (take kept-used kept) (take order-used order) output limited

            -- what is behind the used octets does not matter
            pub by-content : v ≡ writing table rows received (used_up (take set-used set)) (used_up (take order-used order)) (used_up (take kept-used kept)) output
            unfolding writing writing_checks octets_in octets_for
            by-content = rw (all_short, up-all-short, same-content set set-used, same-content order order-used, same-content kept kept-used)
