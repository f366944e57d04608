-- Rows that our calls made agree with the order log. Reading's do, setting enters the IEI that the log gives, and clearing leaves none to
-- judge; an edit changes one row, and the others agree as before.
use Prim.Native.Nat.{ℕ, ◌+◌, ◌*◌, ◌≤◌, ◌<◌}
use native.Mathlib.Omega.{arith}
use mathlib.Core.Path.{◌≡◌, refl, ◌∙◌}
use mathlib.Core.List.{List, [], ◌∷◌}
use mathlib.Core.Bool.{Bool, true, false, ◌&&◌, ◌||◌, not}
use mathlib.Core.Option.{Option, none, some}
use lib.ListN.{length, get_or, set, length-set}
use lib.Seq.{get_or-set_same, get_or-set_other}
use lib.Dec.{leb, ltb, eqb}
use borrow.Author.Tests.{eq-eqb, ltb-false, leb-false, eqb-true, eqb-false}
use Rattle.definitions.specs.Basic.{is_none, Answer, answer, refuse, refuse_at, refusal, unless, Used, content, over_at, too_long, most_octets, most_log}
use Rattle.definitions.specs.Rows.{Row, rows_of, row_at, form, first_bad}
use Rattle.definitions.specs.Logs.{Placed, order_of, order_list, or_empty, iei_for}
use Rattle.definitions.specs.Reading.{read_elements}
use Rattle.definitions.specs.Values.{Octets, place_width, value_in, value_at, present, bad_rows, unlike, apart_at, apart, fits, values_too_long, room_checks, bad_place, place_checks, Edited, setting, clearing}
use Rattle.definitions.proofs.Checks.{pass, is_false, neither}
use Rattle.definitions.proofs.Lists.{set-four}
use Rattle.promises.specs.Agreement.{by-reading, by-setting, by-clearing, RowsAgree}
use Rattle.promises.proofs.Agreeing.{agree, agreed, read-agrees}
use Rattle.promises.proofs.RoundTrip.{done-reads, left-content}

-- ---- a row that is written

module _ (rows : List ℕ) (k a b c d : ℕ) (h : 4 * k + 4 ≤ length rows) where
  abbrev n : ℕ
  n = 4 * k

  abbrev s₁ : List ℕ
  s₁ = set rows n a

  abbrev s₂ : List ℕ
  s₂ = set s₁ (n + 1) b

  abbrev s₃ : List ℕ
  s₃ = set s₂ (n + 2) c

  pub value-here : value_at (over_at (4 * k) (a ∷ b ∷ c ∷ d ∷ []) rows) k ≡ record { source = a; start = b; size = c; iei = d }
  unfolding value_in
  value-here =
      let p : get_or (set s₃ (n + 3) d) n 0 ≡ a = get_or-set_other s₃ (n + 3) n d 0 (omega arith) ∙ get_or-set_other s₂ (n + 2) n c 0 (omega arith) ∙ get_or-set_other s₁ (n + 1) n b 0 (omega arith) ∙ get_or-set_same rows n a 0 (omega arith) in
      let q : get_or (set s₃ (n + 3) d) (n + 1) 0 ≡ b = get_or-set_other s₃ (n + 3) (n + 1) d 0 (omega arith) ∙ get_or-set_other s₂ (n + 2) (n + 1) c 0 (omega arith) ∙ get_or-set_same s₁ (n + 1) b 0 (simp length-set (omega arith)) in
      let r : get_or (set s₃ (n + 3) d) (n + 2) 0 ≡ c = get_or-set_other s₃ (n + 3) (n + 2) d 0 (omega arith) ∙ get_or-set_same s₂ (n + 2) c 0 (simp length-set (omega arith)) in
      let u : get_or (set s₃ (n + 3) d) (n + 3) 0 ≡ d = get_or-set_same s₃ (n + 3) d 0 (simp length-set (omega arith)) in
      rw (← set-four (4 * k) a b c d rows h) (rw (p, q, r, u))

  pub value_there : (j : ℕ) → (j ≡ k → ⊥) → value_at (over_at (4 * k) (a ∷ b ∷ c ∷ d ∷ []) rows) j ≡ value_at rows j
  unfolding value_in
  value_there j e =
      let at : (x : ℕ) → (x ≡ n → ⊥) → (x ≡ n + 1 → ⊥) → (x ≡ n + 2 → ⊥) → (x ≡ n + 3 → ⊥) → get_or (set s₃ (n + 3) d) x 0 ≡ get_or rows x 0 =
      λ x o p q r. get_or-set_other s₃ (n + 3) x d 0 r ∙ get_or-set_other s₂ (n + 2) x c 0 q ∙ get_or-set_other s₁ (n + 1) x b 0 p ∙ get_or-set_other rows n x a 0 o in
      rw (← set-four (4 * k) a b c d rows h)
      (rw (
        at (4 * j) (omega arith) (omega arith) (omega arith) (omega arith),
        at (4 * j + 1) (omega arith) (omega arith) (omega arith) (omega arith),
        at (4 * j + 2) (omega arith) (omega arith) (omega arith) (omega arith),
        at (4 * j + 3) (omega arith) (omega arith) (omega arith) (omega arith),
      ))

-- the others agree as before
pub written-agrees : (t : List Row) (ps : List Placed) (rows : List ℕ) (k a b c d : ℕ) → k < length t → 4 * length t ≤ length rows
    → (leb 1 a && not (eqb d (iei_for t ps k))) ≡ false → apart t ps rows ≡ false → apart t ps (over_at (4 * k) (a ∷ b ∷ c ∷ d ∷ []) rows) ≡ false
unfolding apart_at unlike present
written-agrees t ps rows k a b c d l m v h = agree t ps (over_at (4 * k) (a ∷ b ∷ c ∷ d ∷ []) rows) (λ j i. by j i (eqb j k) refl)
  where
    by : (j : ℕ) → j < length t → (x : Bool) → eqb j k ≡ x → apart_at t ps (over_at (4 * k) (a ∷ b ∷ c ∷ d ∷ []) rows) j ≡ false
    by j i true e = let w = value-here rows k a b c d (omega arith) in rw (eqb-true j k e) (rw w v)
    by j i false e = rw (value_there rows k a b c d (omega arith) j (eqb-false j k e)) (agreed t ps rows h j i)

-- ---- checks that passed

-- room for the rows
room : (x y : Option Answer) (b : Bool) (cs : List (Option Answer)) → refusal (x ∷ y ∷ refuse b 2 (1 ∷ []) ∷ cs) ≡ none → (b ≡ false) × (refusal cs ≡ none)
room x y b cs h =
    let p = pass (refuse b 2 (1 ∷ [])) cs (pass y (refuse b 2 (1 ∷ []) ∷ cs) (pass x (y ∷ refuse b 2 (1 ∷ []) ∷ cs) h).1).1 in
    (is_false b 2 (1 ∷ []) p.0, p.1)

-- a place in the table
inside : (t : List Row) (o : Octets) (rows : List ℕ) (k : ℕ) → bad_place t o rows k ≡ false → k < length t
unfolding bad_place
inside t o rows k h = leb-false (length t) k (neither (bad_rows place_width o rows (length t)) (leb (length t) k) h).1

-- ---- the edits

module _ (table rows received : List ℕ) (set order : Used) (k : ℕ) where
  abbrev t : List Row
  t = rows_of table

  abbrev ps : List Placed
  ps = or_empty (order_list (content order))

  abbrev o : Octets
  o = record { received = received; set = content set }

  abbrev short : Bool
  short = ltb (length rows) (place_width * length t)

  set_agrees : (new : List ℕ) → apart t ps rows ≡ false → apart t ps (setting table rows received set order k new).rows ≡ false
  unfolding setting room_checks
  set_agrees new h = by (refusal (refuse_at 4 (first_bad t) ∷ refuse long 3 [] ∷ refuse short 2 (1 ∷ []) ∷ malformed ∷ refuse (bad_place t o rows k || apart t ps rows) 11 (3 ∷ []) ∷ behind)) refl
    where
      after : ℕ
      after = set.used + length new

      long : Bool
      long = too_long most_log order || (values_too_long received set || ltb most_octets after)

      malformed : Option Answer
      malformed = refuse (is_none (order_list (content order))) 11 (1 ∷ [])

      behind : List (Option Answer)
      behind = refuse (not (fits (form (row_at t k)) 2 new)) 10 (k ∷ []) ∷ refuse (ltb (length set.buffer) after) 12 (after ∷ []) ∷ []

      by : (r : Option Answer) → refusal (refuse_at 4 (first_bad t) ∷ refuse long 3 [] ∷ refuse short 2 (1 ∷ []) ∷ malformed ∷ refuse (bad_place t o rows k || apart t ps rows) 11 (3 ∷ []) ∷ behind) ≡ r
          → apart t ps (unless {X = Edited} r (λ a. record { said = a; rows = rows; set = set.buffer }) (record { said = answer 0 (after ∷ []); rows = over_at (4 * k) (2 ∷ set.used ∷ length new ∷ iei_for t ps k ∷ []) rows; set = over_at set.used new set.buffer })).rows ≡ false
      by (some a) e = h
      by none e =
          let p = room (refuse_at 4 (first_bad t)) (refuse long 3 []) short (malformed ∷ refuse (bad_place t o rows k || apart t ps rows) 11 (3 ∷ []) ∷ behind) e in
          let q = pass (refuse (bad_place t o rows k || apart t ps rows) 11 (3 ∷ [])) behind (pass malformed (refuse (bad_place t o rows k || apart t ps rows) 11 (3 ∷ []) ∷ behind) p.1).1 in
          let b = (neither (bad_place t o rows k) (apart t ps rows) (is_false (bad_place t o rows k || apart t ps rows) 11 (3 ∷ []) q.0)).0 in
          written-agrees t ps rows k 2 set.used (length new) (iei_for t ps k) (inside t o rows k b) (ltb-false (length rows) (4 * length t) p.0) (rw (eq-eqb (iei_for t ps k) (iei_for t ps k) refl)) h

  clear-agrees : apart t ps rows ≡ false → apart t ps (clearing table rows received set k).rows ≡ false
  unfolding clearing place_checks room_checks
  clear-agrees h = by (refusal (refuse_at 4 (first_bad t) ∷ refuse (values_too_long received set) 3 [] ∷ refuse short 2 (1 ∷ []) ∷ refuse (bad_place t o rows k) 11 (3 ∷ []) ∷ [])) refl
    where
      by : (r : Option Answer) → refusal (refuse_at 4 (first_bad t) ∷ refuse (values_too_long received set) 3 [] ∷ refuse short 2 (1 ∷ []) ∷ refuse (bad_place t o rows k) 11 (3 ∷ []) ∷ []) ≡ r
          → apart t ps (unless {X = Edited} r (λ a. record { said = a; rows = rows; set = set.buffer }) (record { said = answer 0 []; rows = over_at (4 * k) (0 ∷ 0 ∷ 0 ∷ 0 ∷ []) rows; set = set.buffer })).rows ≡ false
      by (some a) e = h
      by none e =
          let p = room (refuse_at 4 (first_bad t)) (refuse (values_too_long received set) 3 []) short (refuse (bad_place t o rows k) 11 (3 ∷ []) ∷ []) e in
          let b = is_false (bad_place t o rows k) 11 (3 ∷ []) (pass (refuse (bad_place t o rows k) 11 (3 ∷ [])) [] p.1).0 in
          written-agrees t ps rows k 0 0 0 0 (inside t o rows k b) (ltb-false (length rows) (4 * length t) p.0) refl h

pub rows_agree : RowsAgree
unfolding read_elements
rows_agree table order rows (by-reading start option part l q) =
    let d = done-reads table start option part l q in
    rw d.3 (rw (left-content (order_of (rows_of table) d.0) l.order) (read-agrees (rows_of table) d.0 l.rows))
rows_agree table order rows (by-setting {rows = r} m received set k new) = set_agrees table r received set order k new (rows_agree table order r m)
rows_agree table order rows (by-clearing {rows = r} m received set k) = clear-agrees table r received set order k (rows_agree table order r m)
