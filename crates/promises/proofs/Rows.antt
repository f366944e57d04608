-- What reading leaves of each place, read back out of the lent rows. A row is four numbers, so place k's stand at 4 k;
-- of an accepted element they name its value in the part, which fits, and which encodes to the element's octets.
use Prim.Native.Nat.{ℕ, zero, suc, ◌+◌, ◌*◌, ◌-◌, ◌≤◌, ◌<◌}
use native.Mathlib.Omega.{arith}
use mathlib.Core.Path.{◌≡◌, refl, sym, ap, ◌∙◌}
use mathlib.Core.List.{List, [], ◌∷◌, ◌++◌, append_assoc}
use mathlib.Core.Option.{Option, none, some}
use mathlib.Core.Bool.{Bool, true, false, ◌&&◌, ◌||◌, not}
use lib.ListN.{length, get_or, take, drop, get_or-append, length-drop}
use lib.Seq.{get_or-append-add, get_or-drop, length-take-le, drop-drop}
use lib.Dec.{ltb, eqb}
use borrow.Author.Tests.{le-leb}
use Rattle.definitions.specs.Basic.{pick, bit, over}
use Rattle.definitions.specs.Rows.{Row, Form, form, row_at, iei_of, place_of, first_bad}
use Rattle.definitions.specs.Length.{header, whole}
use Rattle.definitions.specs.Elements.{Verdict, accepted, unknown, malformed, repeated, out_of_sequence, Element, Met, is_accepted, is_at, taken, judged, octets_of, known, stranger, including, meet}
use Rattle.definitions.specs.Logs.{Placed, order_of, order_list, or_empty, iei_for}
use Rattle.definitions.specs.Reading.{received, place_row, place_rows_from, place_rows}
use Rattle.definitions.specs.Values.{Octets, Value, value_in, value_at, present, source_of, octets_at, good_value, fits}
use Rattle.definitions.specs.Writing.{element_at}
use Rattle.definitions.proofs.Steps.{Frames, whole-frames, front-octets, front-first, strange, placed, Reads, end, more}
use Rattle.definitions.proofs.RowLaws.{listed}
use Rattle.definitions.proofs.BitLaws.{bit-including}
use Rattle.definitions.proofs.FrameLaws.{drop-take, Restores, restore}
use Rattle.promises.specs.RoundTrip.{AreOctets}

-- ---- where a row stands

abbrev pub as_value : List ℕ → Value
as_value r = record { source = get_or r 0 0; start = get_or r 1 0; size = get_or r 2 0; iei = get_or r 3 0 }

pub row-length : (t : List Row) (ps : List Placed) (es : List Element) (k : ℕ) → length (place_row t ps es k) ≡ 4
unfolding place_row received
row-length t ps [] k = refl
row-length t ps (e ∷ es) k = go (is_accepted e.verdict && is_at k e) (row-length t ps es k)
  where
    go : (b : Bool) → length (place_row t ps es k) ≡ 4 → length (pick b (received t (iei_for t ps k) k e) (place_row t ps es k)) ≡ 4
    go true r = refl
    go false r = r

-- number c of place j + i's row
row_at_lem : (t : List Row) (ps : List Placed) (es : List Element) (z : List ℕ) (c : ℕ) → c < 4 → (j n i x : ℕ) → i < n → x ≡ 4 * i + c
    → get_or (place_rows_from t ps es j n ++ z) x 0 ≡ get_or (place_row t ps es (j + i)) c 0
unfolding place_rows_from
row_at_lem t ps es z c h j zero i x l e = absurd (omega arith)
row_at_lem t ps es z c h j (suc n) zero x l e =
    let a : x ≡ c = omega arith in
    let b : j + 0 ≡ j = omega arith in
    rw (append_assoc, a, b) (get_or-append (place_row t ps es j) (place_rows_from t ps es (suc j) n ++ z) 0 c (omega (arith, row-length t ps es j)))
row_at_lem t ps es z c h j (suc n) (suc i) x l e =
    let a : x ≡ length (place_row t ps es j) + (4 * i + c) = omega (arith, row-length t ps es j) in
    let b : j + suc i ≡ suc j + i = omega arith in
    rw (append_assoc, a, b, get_or-append-add) (row_at_lem t ps es z c h (suc j) n i (4 * i + c) (omega arith) refl)

pub row-value : (t : List Row) (es : List Element) (l : List ℕ) (k : ℕ) → k < length t → value_at (over (place_rows t es) l) k ≡ as_value (place_row t (or_empty (order_list (order_of t es))) es k)
unfolding over place_rows value_in
row-value t es l k h =
    let ps : List Placed = or_empty (order_list (order_of t es)) in
    let at : (c x : ℕ) → c < 4 → x ≡ 4 * k + c → get_or (over (place_rows t es) l) x 0 ≡ get_or (place_row t ps es k) c 0 =
    λ c x d e. let z : 0 + k ≡ k = omega arith in rw z at (row_at_lem t ps es (drop (length (place_rows t es)) l) c d 0 (length t) k x h e) in
    rw (at 0 (4 * k) (omega arith) (omega arith), at 1 (4 * k + 1) (omega arith) refl, at 2 (4 * k + 2) (omega arith) refl, at 3 (4 * k + 3) (omega arith) refl)

-- ---- an accepted element

-- what is known of one at a place: its IEI has the place, its value is a part of the part, fits, and encodes to its octets
pub record Whole (t : List Row) (part : List ℕ) (at : ℕ) (o : List ℕ) (iei k : ℕ) : Type 0 where
  pub inside : k < length t
  pub listed : place_of t iei ≡ some k
  pub ends : at + length o ≤ length part
  pub headed : header (form (row_at t k)) ≤ length o
  pub value : take (length o - header (form (row_at t k))) (drop (at + header (form (row_at t k))) part) ≡ drop (header (form (row_at t k))) o
  pub restores : Restores (form (row_at t k)) iei o

module _ (t : List Row) (part : List ℕ) (passes : first_bad t ≡ none) (small : AreOctets part) where
  octets-from : (at : ℕ) (s : List ℕ) → s ≡ drop at part → AreOctets s
  octets-from at s e i = rw (e, get_or-drop) (small (at + i))

  taken-whole : (at x : ℕ) (xs : List ℕ) (k : ℕ) → x ∷ xs ≡ drop at part → place_of t (iei_of x) ≡ some k
      → taken (row_at t k) (whole (form (row_at t k)) (x ∷ xs)) (x ∷ xs) ≡ true → Whole t part at (octets_of (whole (form (row_at t k)) (x ∷ xs)) (x ∷ xs)) (iei_of x) k
  unfolding taken octets_of
  taken-whole at x xs k e p = go (whole f s) (whole-frames f s)
    where
      s : List ℕ
      s = x ∷ xs

      f : Form
      f = form (row_at t k)

      go : (o : Option ℕ) → Frames f s o → taken (row_at t k) o s ≡ true → Whole t part at (octets_of o s) (iei_of x) k
      go none g q = let z : ◌≡◌ {A = ℕ} 0 1 = cc in absurd (omega arith)
      go (some n) g q =
          let l : length (take n s) ≡ n = length-take-le n s g.1 in
          let i = listed t (iei_of x) k passes p in
          let r : length s ≡ length part - at = ap length e ∙ length-drop at part in
          let v : drop (header f) s ≡ drop (at + header f) part = rw e (drop-drop (header f) at part) in
          record {
            inside = i.inside;
            listed = p;
            ends = omega (arith, l, r, g.1, g.2);
            headed = rw l g.3;
            value = rw (l, drop-take (header f) n s, v);
            restores = restore f x xs n g.1 (octets-from at s e) i.formed g.0;
          }

-- what writing checks of a place's value: its row is not malformed, and it fits its form
abbrev pub Sane : List Row → Octets → ℕ → Value → Type 0
Sane t o k v = (good_value o v ≡ true) × ((present v && not (fits (form (row_at t k)) v.source (octets_at o v))) ≡ false)

module _ (t : List Row) (part set : List ℕ) (at : ℕ) (o : List ℕ) (iei k : ℕ) (w : Whole t part at o iei k) where
  abbrev pub value_of : ℕ → Value
  value_of own = record { source = 1; start = at + header (form (row_at t k)); size = length o - header (form (row_at t k)); iei = own }

  abbrev pub sources : Octets
  sources = record { received = part; set = set }

  pub whole-sane : (own : ℕ) → Sane t sources k (value_of own)
  unfolding good_value present source_of octets_at
  whole-sane own =
      let h : ℕ = header (form (row_at t k)) in
      (le-leb (at + h + (length o - h)) (length part) (omega (arith, w.ends, w.headed)), rw (w.value, w.restores.0))

  -- its element is written as its octets
  pub whole-written : (rows : List ℕ) (own : ℕ) → value_at rows k ≡ value_of own → element_at (record { table = t; rows = rows; octets = sources }) k iei ≡ o
  unfolding element_at present source_of octets_at
  whole-written rows own e = rw (e, w.value, w.restores.1)

-- ---- the elements of a part, as writing needs them

judged-taken : (option again behind ok : Bool) → judged option again behind ok ≡ accepted → ok ≡ true
unfolding judged
judged-taken option again behind true h = refl
judged-taken option true behind false h = cc
judged-taken option false false false h = cc
judged-taken true false true false h = cc
judged-taken false false true false h = cc

judged-first : (option again behind ok : Bool) → judged option again behind ok ≡ accepted → again ≡ false
unfolding judged
judged-first option false behind ok h = refl
judged-first option true behind ok h = cc

abbrev pub element : ℕ → List ℕ → Option ℕ → Verdict → Element
element at o p v = record { at = at; octets = o; place = p; verdict = v }

-- elements that are accepted, each at a place that was not met before it, and others; n is the set of the places met before
pub data Told (t : List Row) (part : List ℕ) : ℕ → List Element → Type 0 where
  over-all : {n : ℕ} → Told t part n []
  aside : {n n' at : ℕ} {o : List ℕ} {p : Option ℕ} {v : Verdict} {es : List Element} → is_accepted v ≡ false → ((j : ℕ) → bit j n' ≡ false → bit j n ≡ false)
      → Told t part n' es → Told t part n (element at o p v ∷ es)
  taken_in : {n at k : ℕ} {o : List ℕ} {es : List Element} → bit k n ≡ false → Whole t part at o (iei_of (get_or o 0 0)) k
      → Told t part (including k n) es → Told t part n (element at o (some k) accepted ∷ es)

pub not_in : (j k n : ℕ) → bit j (including k n) ≡ false → (eqb j k ≡ false) × (bit j n ≡ false)
not_in j k n h = go (eqb j k) (bit j n) (sym (bit-including j k n) ∙ h)
  where
    go : (a b : Bool) → (a || b) ≡ false → (a ≡ false) × (b ≡ false)
    go true b e = (cc, cc)
    go false b e = (refl, e)

module _ (t : List Row) (start : ℕ) (option : Bool) (part : List ℕ) (passes : first_bad t ≡ none) (small : AreOctets part) where
  told-placed : (m : Met) (at x : ℕ) (xs : List ℕ) (k : ℕ) (es : List Element) → x ∷ xs ≡ drop at part → place_of t (iei_of x) ≡ some k
      → Told t part (including k m.places) es → Told t part m.places (known t option m at (x ∷ xs) k ∷ es)
  unfolding known is_accepted
  told-placed m at x xs k es e p r = go verdict' refl
    where
      ok : Bool
      ok = taken (row_at t k) (whole (form (row_at t k)) (x ∷ xs)) (x ∷ xs)

      verdict' : Verdict
      verdict' = judged option (bit k m.places) (ltb k m.highest) ok

      o : List ℕ
      o = octets_of (whole (form (row_at t k)) (x ∷ xs)) (x ∷ xs)

      stays : (v : Verdict) → is_accepted v ≡ false → Told t part m.places (element at o (some k) v ∷ es)
      stays v h = aside h (λ j i. (not_in j k m.places i).1) r

      go : (v : Verdict) → verdict' ≡ v → Told t part m.places (element at o (some k) v ∷ es)
      go accepted h =
          let w : Whole t part at o (iei_of x) k = taken-whole t part passes small at x xs k e p (judged-taken option (bit k m.places) (ltb k m.highest) ok h) in
          let i : get_or o 0 0 ≡ x = front-first (front-octets (form (row_at t k)) x xs) in
          let w' : Whole t part at o (iei_of (get_or o 0 0)) k = rw i w in
          taken_in (judged-first option (bit k m.places) (ltb k m.highest) ok h) w' r
      go unknown h = stays unknown refl
      go malformed h = stays malformed refl
      go repeated h = stays repeated refl
      go out_of_sequence h = stays out_of_sequence refl

  behind : (n at : ℕ) (s : List ℕ) → s ≡ drop at part → drop n s ≡ drop (at + n) part
  behind n at s e = rw e (drop-drop n at part)

  pub told : {m : Met} {at : ℕ} {s : List ℕ} {es : List Element} → Reads t start option m at s es → s ≡ drop at part → Told t part m.places es
  unfolding stranger is_accepted known meet
  told end e = over-all
  told (more {at = at} {s = s} {e = b} (strange p r) rs) e = aside refl (λ j h. h) (told rs (behind (length b.octets) at s e))
  told (more {es = es} (placed {m = m} {at = at} {x = x} {xs = xs} k p) rs) e =
      told-placed m at x xs k es e p (told rs (behind (length (known t option m at (x ∷ xs) k).octets) at (x ∷ xs) e))
