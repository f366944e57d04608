-- Writing gives back what was read. Reading left logs that parse back and rows that are in order, so each check of writing
-- passes, and what is written is the elements' octets, which join to the part.
use Prim.Native.Nat.{ℕ, zero, suc, ◌+◌, ◌*◌, ◌≤◌, ◌<◌}
use native.Mathlib.Omega.{arith}
use mathlib.Core.Path.{◌≡◌, refl, ◌∙◌}
use mathlib.Core.List.{List, [], ◌∷◌, map, append-nil}
use mathlib.Core.Option.{Option, none, some}
use mathlib.Core.Bool.{Bool, true, false, not}
use lib.ListN.{length, drop, length-append}
use lib.Seq.{take-append_seam}
use lib.Dec.{ltb}
use borrow.Author.Tests.{le-ltb, ltb-false}
use Rattle.definitions.specs.Basic.{pick, is_none, concat, refusal, refuse, refuse_at, unless, over, Used, content, too_long, most_octets, most_log}
use Rattle.definitions.specs.Rows.{Row, rows_of, first_bad}
use Rattle.definitions.specs.Elements.{Element, Parted, elements, cut_short, parted, elements_of, is_accepted}
use Rattle.definitions.specs.Logs.{Placed, placed_of, kept_of, kept_list, plain_from, order_of, order_list, or_empty}
use Rattle.definitions.specs.Reading.{Lent, Read, unread, place_row, place_rows_from, place_rows, cut_of, reading_checks, read_elements, reading}
use Rattle.definitions.specs.Values.{Octets, place_width, value_at, good_value, bad_rows, apart, unfit_at, values_too_long}
use Rattle.definitions.specs.Writing.{Filled, logged, added_from, walked, written, unfit, writing}
use Rattle.definitions.proofs.Steps.{reads}
use Rattle.definitions.proofs.WriteLaws.{write_done as done-by}
use Rattle.definitions.proofs.LogLaws.{Storable, kept_back, aside_of, kept-log}
use Rattle.definitions.proofs.Checks.{first-none}
use Rattle.definitions.proofs.Ieis.{entries-left, order-list}
use Rattle.promises.specs.Joined.{joined, Follow}
use Rattle.promises.specs.Room.{Readable}
use Rattle.promises.specs.RoundTrip.{AreOctets, written_back, gives, RoundTrip}
use Rattle.promises.proofs.Join.{elements-join}
use Rattle.promises.proofs.Room.{logs-room, done}
use Rattle.promises.proofs.Rows.{as_value, row-value, row-length, Sane, Told, told}
use Rattle.promises.proofs.Agreeing.{read-agrees}
use Rattle.promises.proofs.Walk.{rows-sane, present-logged, none-added, walk-entries, plain-kept, walk-plain}

-- ---- what is written

module _ (t : List Row) (part : List ℕ) (es : List Element) (d : Told t part 0 es) (log : List Placed) (set rows : List ℕ)
    (e : (k : ℕ) → k < length t → value_at rows k ≡ as_value (place_row t log es k)) where
  abbrev filled : Filled
  filled = record { table = t; rows = rows; octets = record { received = part; set = set } }

  written-elements : (b : Bool) → plain_from t 0 es ≡ b → written filled (pick b [] (map placed_of es)) (aside_of es) ≡ joined es
  unfolding written walked logged concat
  written-elements true p =
      rw (plain-kept t log part d 0 p, append-nil) (walk-plain t log part set rows (length t) d 0 p (omega arith) (λ k a b. e k b))
  written-elements false p =
      let a : added_from filled (logged t (map placed_of es)) 0 (length t) ≡ [] =
      none-added t log part set rows (logged t (map placed_of es)) (λ k l q. present-logged t log part d k (rw (e k l) at q)) 0 (length t) (omega arith) in
      rw a (walk-entries t log part set rows d (λ k l b. e k l))

-- ---- the checks

rows-length : (t : List Row) (log : List Placed) (es : List Element) (j n : ℕ) → length (place_rows_from t log es j n) ≡ 4 * n
unfolding place_rows_from
rows-length t log es j zero = refl
rows-length t log es j (suc n) = simp length-append (omega (arith, row-length t log es j, rows-length t log es (suc j) n))

pub over-length : (front l : List ℕ) → length front ≤ length (over front l)
unfolding over
over-length front l = simp length-append (omega arith)

-- a log as reading left it
abbrev pub left : List ℕ → List ℕ → Used
left front l = record { buffer = over front l; used = length front }

pub left-content : (front l : List ℕ) → content (left front l) ≡ front
unfolding content over
left-content front l = take-append_seam front (drop (length front) l)

left-long : (front l : List ℕ) (n : ℕ) → length front ≤ n → too_long n (left front l) ≡ false
unfolding too_long
left-long front l n h = rw (le-ltb (length (over front l)) (length front) (over-length front l), le-ltb n (length front) h)

storable : (at : ℕ) (es : List Element) → Follow at es → length (joined es) ≤ 65535 → Storable (aside_of es)
unfolding Follow joined Storable aside_of
storable at [] f h = tt
storable at (e ∷ es) f h = go (is_accepted e.verdict) (storable (at + length e.octets) es f.2 (omega (arith, simp length-append at h)))
  where
    go : (b : Bool) → Storable (aside_of es) → Storable (pick b (aside_of es) (e.octets ∷ aside_of es))
    go true r = r
    go false r = (f.1, omega (arith, simp length-append at h), r)

pub values-long : (part set : List ℕ) → length part ≤ most_octets → values_too_long part (record { buffer = set; used = 0 }) ≡ false
unfolding values_too_long too_long
values-long part set h = rw (le-ltb most_octets (length part) h, le-ltb (length set) 0 (omega arith))

rows-room : (t : List Row) (es : List Element) (l : List ℕ) → 4 * length t ≤ length (over (place_rows t es) l)
unfolding place_rows
rows-room t es l = omega (arith, over-length (place_rows t es) l, rows-length t (or_empty (order_list (order_of t es))) es 0 (length t))

rows-good : (t : List Row) (o : Octets) (rows : List ℕ) → ((k : ℕ) → k < length t → Sane t o k (value_at rows k)) → (bad_rows place_width o rows (length t) ≡ false) × (unfit t o rows ≡ none)
unfolding bad_rows unfit unfit_at is_none
rows-good t o rows h =
    (rw (first-none (λ k. not (good_value o (value_at rows k))) 0 (length t) (λ k l. rw (h k (omega arith)).0)), first-none (unfit_at t o rows) 0 (length t) (λ k l. (h k (omega arith)).1))

-- ---- writing

-- writing is done where each check passes
write_done : (table rows part : List ℕ) (set order kept : Used) (output out : List ℕ) (ps : List Placed) (ks : List (List ℕ)) → first_bad (rows_of table) ≡ none
    → values_too_long part set ≡ false → too_long most_log order ≡ false → too_long most_log kept ≡ false → 4 * length (rows_of table) ≤ length rows
    → order_list (content order) ≡ some ps → kept_list (content kept) ≡ some ks → bad_rows place_width (record { received = part; set = content set }) rows (length (rows_of table)) ≡ false → apart (rows_of table) ps rows ≡ false
    → unfit (rows_of table) (record { received = part; set = content set }) rows ≡ none
    → written (record { table = rows_of table; rows = rows; octets = record { received = part; set = content set } }) ps ks ≡ out → length out ≤ length output
    → writing table rows part set order kept output ≡ gives out output
unfolding gives
write_done table rows part set order kept output out ps ks a b c d e f g h x i j k =
    done-by table rows part set order kept output a (rw (b, c, d)) e ps f ks g (rw (h, x)) i (rw j k) ∙ rw j

module _ (table : List ℕ) (start : ℕ) (option : Bool) (part : List ℕ) (l : Lent) (set output : List ℕ) (es : List Element) (small : AreOctets part)
    (h : Readable table part) (p : parted (rows_of table) start option part ≡ elements es) (n : length part ≤ length output) where
  t : List Row
  t = rows_of table

  back : written_back table part (read_elements (rows_of table) l es) set output ≡ gives part output
  unfolding written_back read_elements content or_empty entries-left t
  back =
      let log : List Placed = or_empty (order_list (order_of t es)) in
      let j = elements-join t start option part es p in
      let m = logs-room t start option part es p in
      let d : Told t part 0 es = told t start option part h.passes small (reads t start option p) refl in
      let v : (k : ℕ) → k < length t → value_at (over (place_rows t es) l.rows) k ≡ as_value (place_row t log es k) = row-value t es l.rows in
      let g = rows-good t (record { received = part; set = [] }) (over (place_rows t es) l.rows) (λ k i. rw (v k i) (rows-sane t log part [] d k)) in
      write_done table (over (place_rows t es) l.rows) part (record { buffer = set; used = 0 }) (left (order_of t es) l.order) (left (kept_of es) l.kept) output part
      (entries-left t es) (aside_of es) h.passes
      (values-long part set h.short)
      (left-long (order_of t es) l.order most_log (omega (arith, h.short, m)))
      (left-long (kept_of es) l.kept most_log (omega (arith, h.short, m)))
      (rows-room t es l.rows)
      (rw (left-content (order_of t es) l.order) (order-list t es))
      (rw (left-content (kept_of es) l.kept, kept-log es) (kept_back (aside_of es) (storable 0 es j.1 (rw j.0 h.short))))
      g.0
      (rw (order-list t es) at (read-agrees t es l.rows))
      g.1
      (written-elements t part es d log [] (over (place_rows t es) l.rows) v (plain_from t 0 es) refl ∙ j.0)
      n

-- ---- reading that is done passed each check

record Passed (o : Option ℕ) (a b : Bool) (p : Parted) (c d : Bool) : Type 0 where
  one : o ≡ none
  two : a ≡ false
  three : b ≡ false
  four : (es : List Element) × (p ≡ elements es)
  five : c ≡ false
  six : d ≡ false

passed : (l : Lent) (r : Read) (o : Option ℕ) (a b : Bool) (p : Parted) (c d : Bool)
    → (unless (refusal (refuse_at 4 o ∷ refuse a 3 [] ∷ refuse b 2 (1 ∷ []) ∷ cut_of p ∷ refuse c 2 (2 ∷ []) ∷ refuse d 2 (3 ∷ []) ∷ [])) (unread l) r).said.number ≡ 0 → Passed o a b p c d
unfolding refusal cut_of
passed l r (some k) a b p c d h = absurd (omega arith)
passed l r none true b p c d h = absurd (omega arith)
passed l r none false true p c d h = absurd (omega arith)
passed l r none false false (cut_short x y z w) c d h = absurd (omega arith)
passed l r none false false (elements es) true d h = absurd (omega arith)
passed l r none false false (elements es) false true h = absurd (omega arith)
passed l r none false false (elements es) false false h = record { one = refl; two = refl; three = refl; four = (es, refl); five = refl; six = refl }

-- so what reading leaves is read off the part's elements
pub done-reads : (table : List ℕ) (start : ℕ) (option : Bool) (part : List ℕ) (l : Lent) → (reading table start option part l).said.number ≡ 0
    → (es : List Element) × Readable table part × (parted (rows_of table) start option part ≡ elements es) × (reading table start option part l ≡ read_elements (rows_of table) l es)
unfolding reading reading_checks elements_of
done-reads table start option part l q =
    let t : List Row = rows_of table in
    let p : Parted = parted t start option part in
    let a : ℕ = length (kept_of (elements_of p)) in
    let b : ℕ = length (order_of t (elements_of p)) in
    let g = passed l (read_elements t l (elements_of p)) (first_bad t) (ltb most_octets (length part)) (ltb (length l.rows) (4 * length t)) p (ltb (length l.kept) a) (ltb (length l.order) b) q in
    let h : Readable table part = record { passes = g.one; short = ltb-false most_octets (length part) g.two } in (
      g.four.0,
      h,
      g.four.1,
      done table start option part l h g.four.1 (ltb-false (length l.rows) (4 * length t) g.three) (rw g.four.1 at (ltb-false (length l.kept) a g.five)) (rw g.four.1 at (ltb-false (length l.order) b g.six)),
    )

pub round_trip : RoundTrip
round_trip table start option part l set output small q n =
    let d = done-reads table start option part l q in
    rw d.3 (back table start option part l set output d.0 small d.1 d.2 n)
