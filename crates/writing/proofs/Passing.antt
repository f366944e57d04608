-- A message that one pass wrote is written as the definition says: what the pass found of its rows and logs are the checks of writing,
-- and what it wrote is all of it. With a message that fails a test no pass is tried.
use Prim.Native.Nat.{ℕ, ◌*◌, ◌≤◌, ◌<◌, min}
use native.Mathlib.Omega.{arith}
use mathlib.Core.Path.{◌≡◌, refl, ap, sym, ◌∙◌}
use mathlib.Core.List.{List}
use mathlib.Core.Bool.{Bool, true, false, ◌&&◌, not, false≢true}
use mathlib.Core.Option.{none, some}
use borrow.Author.Tests.{le-leb, lt-leb, leb-true, le-ltb}
use lib.ListN.{length, take, length-take}
use lib.Dec.{leb}
use Rattle.definitions.specs.Basic.{pick, over, Used, content, too_long, most_octets, most_log}
use Rattle.definitions.specs.Rows.{rows_of, first_bad, index}
use Rattle.definitions.specs.Writing.{Wrote, writing}
use Rattle.kept.specs.Kept.{used_of}
use Rattle.placing.specs.Pieces.{lent_of, WroteBy, capacity}
use Rattle.placing.proofs.Pieces.{none-not}
use Rattle.one_pass.specs.Passes.{passed_by, short_by}
use Rattle.one_pass.proofs.Outputs.{WroteAll, wrote-all, short-enough}
use Rattle.one_pass.proofs.Written.{wholly}
use Rattle.measured_writing.specs.Encodes.{Encodes, used_up, Limited}
use Rattle.checks.specs.Answers.{checked_as}
use Rattle.checks.specs.declared.BadRow.{BadRow}
use Rattle.measured_writing.proofs.Encoding.{moved, done, not-long, limited, by-content}
use Rattle.std.specs.Prelude.{Option as Answered, Some, None, Result, Ok, Err}
use Rattle.std.specs.Result.{result_ok}
use Rattle.writing.specs.Passing.{most_passed, passable, shortly, WroteShort, Plainly}

pub passed-done : (table entries rows received set kept order output : List ℕ) → Limited table entries rows received set kept order → {n : ℕ} {after : List ℕ}
    → WroteAll (lent_of table rows received set) entries order kept output n after → Encodes (writing table rows received (used_up set) (used_up order) (used_up kept) output) (Ok n) after
passed-done table entries rows received set kept order output l {n = n} w =
    let e : passed_by (lent_of table rows received set) (index (rows_of table)) order kept ≡ some w.octets = rw l.sized.indexed at w.passed_is in
    let y = wholly table rows received set order kept l.sized.passes e in
    done table entries rows received set kept order output l y.ps y.order_is y.ks y.kept-is (rw y.formed y.agrees) y.fit n (w.long ∙ ap length (sym y.octets)) w.room
    (w.is ∙ ap (λ (s : List ℕ). over s output) (sym y.octets))

-- ---- the tests before a pass

few-kept : (s : List ℕ) (n : ℕ) → too_long most_passed (used_of s n) ≡ false → length (content (used_of s n)) ≤ most_passed
unfolding content
few-kept s n e = let h = (not-long most_passed s n e).1 in simp length-take (omega arith)

module _ (table entries rows received : List ℕ) (set order kept : Used) (output : List ℕ) where
  untried : passable table rows received set order kept ≡ false → WroteShort table entries rows received set order kept output None output
  unfolding shortly
  untried e =
      record {
        answers = sym (none-not (min (capacity (length (rows_of table)) (length (content kept))) (length output)) 0 (rw e refl));
        done = λ n q. let y : ◌≡◌ {A = ℕ} 0 1 = cc in absurd (omega arith);
        not_done = λ q. refl;
      }

  pub long-received : most_passed < length received → WroteShort table entries rows received set order kept output None output
  unfolding passable
  long-received h = untried (rw (lt-leb (length received) most_passed h) refl)

  module _ (a : length received ≤ most_passed) where
    pub long_kept : too_long most_passed kept ≡ true → WroteShort table entries rows received set order kept output None output
    unfolding passable
    long_kept e = untried (rw (le-leb (length received) most_passed a, e) refl)

    module _ (b : too_long most_passed kept ≡ false) where
      pub long-set : too_long most_octets set ≡ true → WroteShort table entries rows received set order kept output None output
      unfolding passable
      long-set e = untried (rw (le-leb (length received) most_passed a, b, e) refl)

      module _ (c : too_long most_octets set ≡ false) where
        pub long_order : too_long most_log order ≡ true → WroteShort table entries rows received set order kept output None output
        unfolding passable
        long_order e = untried (rw (le-leb (length received) most_passed a, b, c, e) refl)

        module _ (d : too_long most_log order ≡ false) where
          pub no_rows : length rows < 4 * length (rows_of table) → WroteShort table entries rows received set order kept output None output
          unfolding passable
          no_rows h = untried (rw (le-leb (length received) most_passed a, b, c, d, lt-leb (4 * length (rows_of table)) (length rows) h) refl)

          pub tried : 4 * length (rows_of table) ≤ length rows → {r : Answered ℕ} {after : List ℕ}
              → WroteBy (capacity (length (rows_of table)) (length (content kept))) (short_by (lent_of table rows received (content set)) entries (content order) (content kept)) output r after
              → WroteShort table entries rows received set order kept output r after
          unfolding passable shortly
          tried h w =
              rw (le-leb (length received) most_passed a, b, c, d, le-leb (4 * length (rows_of table)) (length rows) h)
              (rw (sym (short-enough (lent_of table rows received (content set)) entries (content order) (content kept) (few-kept kept.buffer kept.used b))) at w)

-- ---- by a table that passes and its index

-- a pass that was not tried, or gave up
pub nothing : {w : Wrote} {output : List ℕ} → Plainly w None output output
nothing = record { done = λ n e. let y : ◌≡◌ {A = ℕ} 0 1 = cc in absurd (omega arith); not_done = λ e. refl }

-- what the tests found
pub record Tried (table rows received : List ℕ) (set order kept : Used) : Type 0 where
  pub received-short : length received ≤ most_passed
  pub kept-short : too_long most_passed kept ≡ false
  pub set-short : too_long most_octets set ≡ false
  pub order-short : too_long most_log order ≡ false
  pub rows-there : 4 * length (rows_of table) ≤ length rows

all-tried : (table rows received : List ℕ) (set order kept : Used) → passable table rows received set order kept ≡ true → Tried table rows received set order kept
unfolding passable
all-tried table rows received set order kept e =
    by (leb (length received) most_passed) (too_long most_passed kept) (too_long most_octets set) (too_long most_log order) (leb (4 * length (rows_of table)) (length rows)) refl refl refl refl refl e
  where
    by : (a b c d f : Bool) → leb (length received) most_passed ≡ a → too_long most_passed kept ≡ b → too_long most_octets set ≡ c → too_long most_log order ≡ d → leb (4 * length (rows_of table)) (length rows) ≡ f
        → (a && (not b && (not c && (not d && f)))) ≡ true → Tried table rows received set order kept
    by false b c d f p q r s t z = absurd (false≢true z)
    by true true c d f p q r s t z = absurd (false≢true z)
    by true false true d f p q r s t z = absurd (false≢true z)
    by true false false true f p q r s t z = absurd (false≢true z)
    by true false false false false p q r s t z = absurd (false≢true z)
    by true false false false true p q r s t z =
        record { received-short = leb-true (length received) most_passed p; kept-short = q; set-short = r; order-short = s; rows-there = leb-true (4 * length (rows_of table)) (length rows) t }

within : (s : List ℕ) (n : ℕ) → too_long most_passed (used_of s n) ≡ false → too_long most_log (used_of s n) ≡ false
unfolding too_long
within s n e = let h = not-long most_passed s n e in rw (le-ltb (length s) n h.0, le-ltb most_log n (omega (arith, h.1))) refl

module _ (table entries rows received set : List ℕ) (set-used : ℕ) (kept : List ℕ) (kept-used : ℕ) (order : List ℕ) (order-used : ℕ) (output : List ℕ)
    (passes : first_bad (rows_of table) ≡ none) (i : entries ≡ index (rows_of table)) where
  pub short-done : {r : Answered ℕ} {after : List ℕ} → WroteShort table entries rows received (used_of set set-used) (used_of order order-used) (used_of kept kept-used) output r after
      → Plainly (writing table rows received (used_of set set-used) (used_of order order-used) (used_of kept kept-used) output) r output after
  unfolding shortly content
  short-done {r = r} {after = after} w = record { done = λ n e. by (passable table rows received (used_of set set-used) (used_of order order-used) (used_of kept kept-used)) refl n (rw e at w); not_done = w.not_done }
    where
      by : (b : Bool) → passable table rows received (used_of set set-used) (used_of order order-used) (used_of kept kept-used) ≡ b → (n : ℕ)
          → WroteBy (capacity (length (rows_of table)) (length (take kept-used kept))) (pick b (passed_by (lent_of table rows received (take set-used set)) entries (take order-used order) (take kept-used kept)) none) output (Some n) after
          → Encodes (writing table rows received (used_of set set-used) (used_of order order-used) (used_of kept kept-used) output) (Ok n) after
      by false z n v =
          let q = v.answers ∙ none-not (min (capacity (length (rows_of table)) (length (take kept-used kept))) (length output)) 0 refl in
          let y : ◌≡◌ {A = ℕ} 0 1 = cc in
          absurd (omega arith)
      by true z n v =
          let t = all-tried table rows received (used_of set set-used) (used_of order order-used) (used_of kept kept-used) z in
          let m = lent_of table rows received (take set-used set) in
          let g : length received ≤ most_octets = omega (arith, t.received-short) in
          let k = within kept kept-used t.kept-short in
          let l = limited table entries rows received set set-used kept kept-used order order-used output passes g t.set-short t.order-short k t.rows-there i in
          let all = wrote-all m entries (take order-used order) (take kept-used kept) (capacity (length (rows_of table)) (length (take kept-used kept))) output
          (rw (short-enough m entries (take order-used order) (take kept-used kept) (few-kept kept kept-used t.kept-short)) at v) in
          moved (by-content table entries rows received set set-used kept kept-used order order-used output passes g t.set-short t.order-short k t.rows-there i)
          (passed-done table entries rows received (take set-used set) (take kept-used kept) (take order-used order) output l all)

-- a check that was passed
pub check-passed : {x : Unit} (r : Result Unit BadRow) → Some x ≡ result_ok r → checked_as r ≡ none
check-passed (Ok x) e = refl
check-passed (Err bad) e = absurd cc
