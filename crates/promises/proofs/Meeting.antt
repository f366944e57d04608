-- What the writer gives for values that meet the rows is accepted. With both logs empty it writes the present places ascending, each under
-- its first IEI; each element is read where it was written, by its own row, and in its turn. By induction on the places.
use Prim.Native.Nat.{ℕ, zero, suc, ◌+◌, ◌*◌, ◌/◌, ◌%◌, ◌^◌, ◌≤◌, ◌<◌}
use native.Mathlib.Omega.{arith}
use mathlib.Core.Path.{◌≡◌, refl, sym, ap, subst, ◌∙◌}
use mathlib.Core.List.{List, [], ◌∷◌, ◌++◌, append-nil}
use mathlib.Core.Option.{Option, none, some}
use mathlib.Core.Bool.{Bool, true, false, ◌&&◌, ◌||◌, not, false≢true}
use lib.ListN.{length, get_or, take, drop, length-append}
use lib.Seq.{take-append_seam, drop-append_seam}
use lib.Dec.{leb, ltb, eqb}
use borrow.Author.Tests.{le-leb, lt-leb, le-ltb, eqb-true, eq-eqb}
use Rattle.definitions.specs.Basic.{pick, is_none, receivable, among, concat, Answer, answer, refusal, refuse, refuse_at, unless, over, Used, content, too_long, most_log}
use Rattle.definitions.specs.Octets.{run, number, number_at}
use Rattle.definitions.specs.Rows.{Row, Form, half, fixed, tlv, tlv-e, rows_of, row_at, form, form_of, iei_of, place_of, first_iei, first_bad}
use Rattle.definitions.specs.Length.{header, length_by, stated, within, whole}
use Rattle.definitions.specs.Elements.{accepted, Element, is_accepted, iei_at, Met, nothing_met, meet, taken_by, taken, judged, octets_of, known}
use Rattle.definitions.specs.Logs.{plain_at, kept_list_f, kept_list, order_list_f, order_list, or_empty}
use Rattle.definitions.specs.Checking.{offender}
use Rattle.definitions.specs.Values.{value_at, present, octets_at, fits, bad_rows, values_too_long, place_width, apart}
use Rattle.definitions.specs.Writing.{encoded, Filled, element_at, logged, added_from, firsts, walked, written, unfit, Message, octets_in, octets_for, writing_checks, Wrote, writing}
use Rattle.definitions.proofs.RowLaws.{Bears}
use Rattle.definitions.proofs.TableLaws.{first-bears, first-place}
use Rattle.definitions.proofs.Steps.{Stands, placed, Reads, end, more, parts}
use Rattle.definitions.proofs.Checkings.{check-parted, InTurn, turn-first, turn-later, turn-next}
use Rattle.promises.specs.RoundTrip.{gives}
use Rattle.promises.specs.Checked.{Meets, filled, WriterAccepted}

-- ---- an element as it is written

whole-encoded : (f : Form) (iei source : ℕ) (v rest : List ℕ) → fits f source v ≡ true → whole f (encoded f iei v ++ rest) ≡ some (length (encoded f iei v))
unfolding whole within stated encoded fits length_by number_at run number
whole-encoded half iei source v rest h = rw (le-leb 1 (suc (length rest)) (omega arith))
whole-encoded (fixed n) iei source v rest h =
    let e : length v ≡ n = eqb-true (length v) n h in
    let z : 1 + n ≡ suc (length v) = omega arith in
    rw (z, le-leb (suc (length v)) (suc (length (v ++ rest))) (simp length-append (omega arith)))
whole-encoded tlv iei source v rest h =
    let z : 1 + 1 + (length v * 256 ^ 0 + 0) ≡ suc (suc (length v)) = omega arith in
    rw (le-leb (1 + 1) (suc (suc (length (v ++ rest)))) (omega arith), z, le-leb (suc (suc (length v))) (suc (suc (length (v ++ rest)))) (simp length-append (omega arith)))
whole-encoded tlv-e iei source v rest h =
    let z : 1 + 2 + (length v / 256 * 256 ^ 1 + (length v % 256 * 256 ^ 0 + 0)) ≡ suc (suc (suc (length v))) = omega arith in
    rw (le-leb (1 + 2) (suc (suc (suc (length (v ++ rest))))) (omega arith), z, le-leb (suc (suc (suc (length v)))) (suc (suc (suc (length (v ++ rest))))) (simp length-append (omega arith)))

-- its first octet tells its IEI
encoded-first : (f : Form) (iei : ℕ) (v : List ℕ) → Bears f iei → (x : ℕ) × (xs : List ℕ) × (encoded f iei v ≡ x ∷ xs) × (iei_of x ≡ iei)
unfolding encoded iei_of
encoded-first half iei v b = (iei + get_or v 0 0 % 16, [], refl, rw (le-leb 128 (iei + get_or v 0 0 % 16) (omega arith)) (omega arith))
encoded-first (fixed n) iei v b = (iei, v, refl, rw (lt-leb 128 iei (omega arith)))
encoded-first tlv iei v b = (iei, length v ∷ v, refl, rw (lt-leb 128 iei (omega arith)))
encoded-first tlv-e iei v b = (iei, (length v / 256) ∷ (length v % 256) ∷ v, refl, rw (lt-leb 128 iei (omega arith)))

-- its value is of the same kind, also where it stands in the octet of the IEI
encoded-kind : (c n iei source kinds : ℕ) (v : List ℕ) → Bears (form_of c n) iei → fits (form_of c n) source v ≡ true → receivable (eqb c 0) kinds v ≡ true
    → receivable (eqb c 0) kinds (drop (header (form_of c n)) (encoded (form_of c n) iei v)) ≡ true
unfolding form_of header encoded receivable fits
encoded-kind zero n iei source kinds [] b f h = absurd (false≢true f)
encoded-kind zero n iei source kinds (y ∷ ys) b f h = let z : (iei + y % 16) % 16 ≡ y % 16 = omega arith in rw z h
encoded-kind (suc zero) n iei source kinds v b f h = h
encoded-kind (suc (suc zero)) n iei source kinds v b f h = h
encoded-kind (suc (suc (suc c))) n iei source kinds v b f h = h

-- ---- the part that is written

module _ (table : List ℕ) (start : ℕ) (rows received : List ℕ) (set : Used) (passes : first_bad (rows_of table) ≡ none)
    (meets : (k : ℕ) → k < length (rows_of table) → present (value_at rows k) ≡ true → Meets (filled table rows received set) k) where
  abbrev t : List Row
  t = rows_of table

  abbrev m : Filled
  m = filled table rows received set

  record Taken (met : Met) (at : ℕ) (s : List ℕ) (least : ℕ) : Type 0 where
    found : List Element
    read : Reads t start false met at s found
    plain : offender t least found ≡ none

  module _ (met : Met) (at j least : ℕ) (inside : j < length t) (here : present (value_at rows j) ≡ true) (turn : InTurn met j) (low : least ≤ j) where
    abbrev r : Row
    r = row_at t j

    abbrev v : List ℕ
    v = octets_at m.octets (value_at rows j)

    abbrev o : List ℕ
    o = encoded (form r) (first_iei t j) v

    written-here : element_at m j (first_iei t j) ≡ o
    unfolding element_at
    written-here = rw here

    abbrev e : Element
    e = record { at = at; octets = o; place = some j; verdict = accepted }

    -- it is read as it was written
    read_here : (rest : List ℕ) → known t false met at (o ++ rest) j ≡ e
    unfolding known octets_of taken taken_by form judged
    read_here rest =
        let q = meets j inside here in
        let w : whole (form r) (o ++ rest) ≡ some (length o) = whole-encoded (form r) (first_iei t j) _ v rest q.fit in
        let l : leb r.least (length o) ≡ true = le-leb r.least (length o) (rw written-here at q.least) in
        let k = encoded-kind r.code r.size (first_iei t j) _ r.kinds v (first-bears table j passes inside) q.fit q.kind in
        rw (w, take-append_seam o rest, l, k, turn.unmet j (omega arith), le-ltb j met.highest turn.behind)

    abbrev started : (x : ℕ) × (xs : List ℕ) × (o ≡ x ∷ xs) × (iei_of x ≡ first_iei t j)
    started = encoded-first (form r) (first_iei t j) v (first-bears table j passes inside)

    stands_here : (rest : List ℕ) → Stands t start false met at (o ++ rest) e (meet j met)
    stands_here rest =
        let x : ℕ = started.0 in
        let xs : List ℕ = started.1 in
        let p : place_of t (iei_of x) ≡ some j = rw started.3 (first-place table j passes inside) in
        let d : Stands t start false met at (x ∷ (xs ++ rest)) (known t false met at (x ∷ (xs ++ rest)) j) (meet j met) = placed j p in
        let q : x ∷ (xs ++ rest) ≡ o ++ rest = ap (λ (l : List ℕ). l ++ rest) (sym started.2) in
        let f : Stands t start false met at (o ++ rest) (known t false met at (o ++ rest) j) (meet j met) = subst (λ (s : List ℕ). Stands t start false met at s (known t false met at s j) (meet j met)) q d in
        rw (read_here rest) at f

    plain_here : (plain_at t least j e && leb (length o) r.greatest) ≡ true
    unfolding plain_at is_accepted iei_at
    plain_here =
        let f : iei_of (get_or o 0 0) ≡ first_iei t j = ap (λ (l : List ℕ). iei_of (get_or l 0 0)) started.2 ∙ started.3 in
        let g : length o ≤ r.greatest = rw written-here at (meets j inside here).greatest in
        rw (le-leb least j low, eq-eqb (iei_of (get_or o 0 0)) (first_iei t j) f, le-leb (length o) r.greatest g)

  accepts : (c j at : ℕ) (met : Met) (least : ℕ) → j + c ≡ length t → InTurn met j → least ≤ j → Taken met at (firsts m (added_from m [] j c)) least
  unfolding added_from firsts among offender
  accepts zero j at met least q i l = record { found = []; read = end; plain = refl }
  accepts (suc c) j at met least q i l = go (present (value_at rows j)) refl (accepts c (suc j))
    where
      Rest : Type 0
      Rest = (at : ℕ) (met : Met) (least : ℕ) → suc j + c ≡ length t → InTurn met (suc j) → least ≤ suc j → Taken met at (firsts m (added_from m [] (suc j) c)) least

      go : (b : Bool) → present (value_at rows j) ≡ b → Rest → Taken met at (firsts m (pick (b && not (among j [])) (j ∷ added_from m [] (suc j) c) (added_from m [] (suc j) c))) least
      go false h rec = rec at met least (omega arith) (turn-later i (omega arith)) (omega arith)
      go true h rec =
          let n : j < length t = omega arith in
          let rest : List ℕ = firsts m (added_from m [] (suc j) c) in
          let k : ℕ = length (o met at j least n h i l) in
          let f = rec (at + k) (meet j met) (suc j) (omega arith) (turn-next j i (omega arith)) (omega arith) in
          let w : element_at m j (first_iei t j) ≡ o met at j least n h i l = written-here met at j least n h i l in
          let rs : Reads t start false (meet j met) (at + k) (drop k (o met at j least n h i l ++ rest)) f.found = rw (drop-append_seam (o met at j least n h i l) rest) f.read in
          let all : Reads t start false met at (o met at j least n h i l ++ rest) (e met at j least n h i l ∷ f.found) = more (stands_here met at j least n h i l rest) rs in
          record { found = e met at j least n h i l ∷ f.found; read = rw w all; plain = rw (plain_here met at j least n h i l) f.plain }

-- ---- what writing wrote

-- no check of writing answers 0
abbrev Refuses : Option Answer → Type 0
Refuses none = Unit
Refuses (some a) = 1 ≤ a.number

refuses : (b : Bool) (n : ℕ) (vs : List ℕ) → 1 ≤ n → Refuses (refuse b n vs)
refuses true n vs h = h
refuses false n vs h = tt

refuses-at : (n : ℕ) (o : Option ℕ) → 1 ≤ n → Refuses (refuse_at n o)
refuses-at n none h = tt
refuses-at n (some k) h = h

Each : List (Option Answer) → Type 0
Each [] = Unit
Each (c ∷ cs) = Refuses c × Each cs

first-refuses : (cs : List (Option Answer)) → Each cs → Refuses (refusal cs)
unfolding Each refusal
first-refuses [] h = tt
first-refuses (none ∷ cs) h = first-refuses cs h.1
first-refuses (some a ∷ cs) h = h.0

module _ (table rows received : List ℕ) (set order kept : Used) (output : List ℕ) where
  message : Message
  message = record { table = rows_of table; rows = rows; received = received; set = set; order = order; kept = kept }

  checks-refuse : Each (writing_checks message output)
  unfolding writing_checks Each message
  checks-refuse = (refuses-at 4 (first_bad (rows_of table)) (omega arith), (refuses (values_too_long received set || (too_long most_log order || too_long most_log kept)) 3 [] (omega arith), (refuses (ltb (length rows) (place_width * length (rows_of table))) 2 (1 ∷ []) (omega arith), (refuses (is_none (order_list (content order))) 11 (1 ∷ []) (omega arith), (refuses (is_none (kept_list (content kept))) 11 (2 ∷ []) (omega arith), (refuses (bad_rows place_width (octets_in message) rows (length (rows_of table)) || apart (rows_of table) (or_empty (order_list (content order))) rows) 11 (3 ∷ []) (omega arith), (refuses-at 10 (unfit (rows_of table) (octets_in message) rows) (omega arith), (refuses (ltb (length output) (length (octets_for message))) 12 (length (octets_for message) ∷ []) (omega arith), tt))))))))

  passed-bad : (o : Option ℕ) (cs : List (Option Answer)) → refusal (refuse_at 4 o ∷ cs) ≡ none → o ≡ none
  unfolding refusal
  passed-bad none cs h = refl
  passed-bad (some k) cs h = let z : ◌≡◌ {A = ℕ} 0 1 = cc in absurd (omega arith)

  -- a writing that is done: the table passes, and all that the message is written as was given
  done : (out : List ℕ) → writing table rows received set order kept output ≡ gives out output → (first_bad (rows_of table) ≡ none) × (out ≡ octets_for message)
  unfolding writing gives over message writing_checks
  done out q = by (refusal (writing_checks message output)) refl (first-refuses (writing_checks message output) checks-refuse) q
    where
      by : (a : Option Answer) → refusal (writing_checks message output) ≡ a → Refuses a
          → unless a (λ (b : Answer). record { said = b; output = output }) (record { said = answer 0 (length (octets_for message) ∷ []); output = over (octets_for message) output }) ≡ gives out output
          → (first_bad (rows_of table) ≡ none) × (out ≡ octets_for message)
      by (some a) e r q = let z : a.number ≡ 0 = ap (λ (w : Wrote). w.said.number) q in absurd (omega arith)
      by none e r q =
          let n : length (octets_for message) ≡ length out = ap (λ (w : Wrote). get_or w.said.values 0 0) q in
          let w : octets_for message ++ drop (length (octets_for message)) output ≡ out ++ drop (length out) output = ap (λ (w : Wrote). w.output) q in
          let f : take (length out) (octets_for message ++ drop (length (octets_for message)) output) ≡ octets_for message = rw (← n) (take-append_seam (octets_for message) (drop (length (octets_for message)) output)) in
          (passed-bad (first_bad (rows_of table)) _ e, sym (take-append_seam out (drop (length out) output)) ∙ ap (take (length out)) (sym w) ∙ f)

  -- with both logs empty it is written place by place
  written-plainly : content order ≡ [] → content kept ≡ []
      → octets_for message ≡ firsts (filled table rows received set) (added_from (filled table rows received set) [] 0 (length (rows_of table)))
  unfolding octets_for octets_in message written walked logged order_list order_list_f kept_list kept_list_f or_empty concat
  written-plainly e f = rw (e, f) (append-nil _)

pub writer-accepted : WriterAccepted
writer-accepted table rows received set order kept output out start no-order no-kept meets q short =
    let t : List Row = rows_of table in
    let d = done table rows received set order kept output out q in
    let w : out ≡ firsts (filled table rows received set) (added_from (filled table rows received set) [] 0 (length t)) = d.1 ∙ written-plainly table rows received set order kept output no-order no-kept in
    let a = accepts table start rows received set d.0 meets (length t) 0 0 nothing_met 0 (omega arith) turn-first (omega arith) in
    let r : Reads t start false nothing_met 0 out a.found = subst (λ (s : List ℕ). Reads t start false nothing_met 0 s a.found) (sym w) a.read in
    check-parted table start out d.0 short (parts t start false r) ∙ rw a.plain
