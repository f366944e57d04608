-- What a short part leaves in arrays of its own, copied out: the rows found among zeros, and both logs.
-- As many numbers are copied as the table has places, and as many octets as each log uses.
use Prim.Native.Nat.{ℕ, ◌+◌, ◌*◌, ◌≤◌}
use native.Mathlib.Omega.{arith}
use mathlib.Core.Path.{◌≡◌, ap, sym, ◌∙◌}
use mathlib.Core.List.{List}
use mathlib.Core.Bool.{Bool}
use lib.ListN.{length, take, drop, replicate, length-append, length-replicate, length-take}
use lib.Seq.{take_all}
use Rattle.std.specs.Prelude.{Ok, Err}
use Rattle.definitions.specs.Basic.{over}
use Rattle.definitions.specs.Rows.{Row, rows_of}
use Rattle.definitions.specs.Elements.{Element, Parted, cut_short, elements_of, parted}
use Rattle.definitions.specs.Logs.{kept_of, entries_of}
use Rattle.plain_reading.proofs.Copied.{front-is}
use Rattle.by_index.specs.ByIndex.{rows_by}
use Rattle.elements.specs.declared.element.Cut.{Cut}
use Rattle.elements.specs.declared.walk.Tally.{Tally}
use Rattle.filling.specs.Decodes.{lent_of}
use Rattle.filling.specs.Filled.{Fill, filling, Leaves}
use Rattle.filling.specs.Fills.{Written}
use Rattle.filling.specs.declared.FillError.{FillError}
use Rattle.filling.proofs.Arrays.{was-entered, was-cut, was-room}
use Rattle.filling.proofs.Filling.{Places, Entered}
use Rattle.filling.proofs.Front.{rows-copied}

-- what is used of a buffer is within it
pub used-within : (a b : List ℕ) {k : ℕ} {c : List ℕ} → k ≡ length a → c ≡ over a b → k ≤ length c
unfolding over
used-within a b e q = omega (arith, e, ap length q ∙ length-append a (drop (length a) b))

-- as many octets of one as are used, into a log that has room
pub log-copied : (aside kept : List ℕ) (k : ℕ) → k ≤ length kept → {kept' : List ℕ} → kept' ≡ over (take (length kept) (take k aside)) kept → kept' ≡ over (take k aside) kept
log-copied aside kept k h e = e ∙ ap (λ (x : List ℕ). over x kept) (take_all (length kept) (take k aside) (simp length-take (omega arith)))

-- what filling says of arrays of zeros that hold what the part may need
module _ (table index : List ℕ) (start : ℕ) (option : Bool) (part : List ℕ) (w m : ℕ) (short : length part ≤ 65535) (rows-fit : 4 * length (rows_of table) ≤ w) (logs-fit : length part + length part ≤ m) where
  abbrev zeros : ℕ → List ℕ
  zeros n = replicate n 0

  abbrev filled : Fill
  filled = filling table index start option part (lent_of (zeros w) (zeros m) (zeros m))

  rows-room : 4 * length (rows_of table) ≤ length (zeros w)
  rows-room = omega (arith, rows-fit, length-replicate {A = ℕ} w 0)

  log-room : 2 * length part ≤ length (zeros m)
  log-room = omega (arith, logs-fit, length-replicate {A = ℕ} m 0)

  pub read-all : {u : Tally} {rows kept order : List ℕ} → Leaves filled (Ok u) rows kept order → Entered (rows_by table index) (parted (rows_by table index) start option part) u.kept u.order (zeros w) (zeros m) (zeros m) rows kept order
  read-all h = was-entered table index start option part (zeros w) (zeros m) (zeros m) short rows-room log-room log-room h

  pub read_cut : {c : Cut} {rows kept order : List ℕ} → Leaves filled (Err (FillError.CutShort c)) rows kept order → parted (rows_by table index) start option part ≡ cut_short c.start c.first c.left c.missing
  read_cut h = was-cut table index start option part (zeros w) (zeros m) (zeros m) short rows-room log-room log-room h

  pub read-room : {rows kept order : List ℕ} → Leaves filled (Err FillError.NoRoom) rows kept order → ⊥
  read-room h = was-room table index start option part (zeros w) (zeros m) (zeros m) short rows-room log-room log-room h

module _ (t : List Row) (start : ℕ) (option : Bool) (part : List ℕ) (w n : ℕ) (fits : n ≤ w) (places : Places t n start option) where
  abbrev p : Parted
  p = parted t start option part

  abbrev es : List Element
  es = elements_of p

  -- every element entered among zeros, with the octets used of each log, and copied out
  pub written : (m : ℕ) → m ≡ n → {k o : ℕ} {rows kept order kept₀ order₀ found aside entries rows' kept' order' : List ℕ} → Entered t p k o (replicate w 0) kept₀ order₀ found aside entries
      → rows' ≡ over (take m found) rows → kept' ≡ over (take k aside) kept → order' ≡ over (take o entries) order → Written t n es rows kept order rows' kept' order'
  written m m-is {k} {o} {rows} {kept} {order} {kept₀} {order₀} {found} e a b c =
      record {
        rows_are = rows-copied t start option part w n fits places es e.decodes rows e.rows_are (a ∙ ap (λ (x : ℕ). over (take x found) rows) m-is);
        kept-is = b ∙ ap (λ (x : List ℕ). over x kept) (rw e.kept-is (front-is (kept_of es) kept₀ k (sym e.kept-used)));
        order_is = c ∙ ap (λ (x : List ℕ). over x order) (rw e.order_is (front-is (entries_of es) order₀ o (sym e.order-used)));
      }
