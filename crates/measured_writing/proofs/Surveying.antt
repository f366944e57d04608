-- The places looked at one by one: those before are well formed and fit, and their added elements with those left take what all take;
-- or one before is the first that does not fit. Each step moves a place from what is left; a malformed one decides at once.
use Prim.Native.Nat.{ℕ, ◌+◌, ◌-◌, ◌*◌, ◌≤◌, ◌<◌}
use native.Mathlib.Omega.{arith}
use mathlib.Core.Path.{◌≡◌, refl, ap, sym, ◌∙◌}
use mathlib.Core.Bool.{Bool, true, false, ◌&&◌, ◌||◌, not}
use borrow.Author.Tests.{eq-eqb, ne_eqb, eqb-true, eqb-false}
use mathlib.Core.Option.{none, some}
use lib.ListN.{length, length-append}
use lib.Dec.{eqb}
use Rattle.std.specs.Prelude.{Option as Answered, Some, None, Ok, Err}
use Rattle.std.specs.Option.{option_or}
use Rattle.definitions.specs.Basic.{pick, bit, is_none}
use Rattle.definitions.specs.Rows.{first_iei}
use Rattle.definitions.specs.Values.{value_at, present, first_from, unfit_at}
use Rattle.definitions.specs.Writing.{Filled, firsts, unfit}
use Rattle.seen.specs.Seen.{set_of, seen_of, including_place}
use Rattle.values.proofs.Showing.{first-here, first-further, first-over}
use Rattle.agreement.proofs.Agreeing.{no-bit}
use Rattle.measured_writing.specs.Added.{added_in, added_octets}
use Rattle.measured_writing.specs.Sizes.{most_ie, added_to, wrong_at, LookedAt, SurveyedBy}
use Rattle.measured_writing.specs.declared.sizes.RowFault.{RowFault}
use Rattle.measured_writing.specs.declared.sizes.SurveyError.{SurveyError}
use Rattle.measured_writing.specs.declared.sizes.Tally.{Tally}
use Rattle.measured_writing.proofs.Tallying.{any-iei, bits-with}
use Rattle.measured_writing.proofs.Cursor.{added_piece, added_more, same-octets, piece_added, piece-not}

module _ (m : Filled) (set : ℕ) where
  abbrev n : ℕ
  n = length m.table

  abbrev bad : ℕ → Bool
  bad k = wrong_at m set k

  abbrev not-fit : ℕ → Bool
  not-fit k = unfit_at m.table m.octets m.rows k

  abbrev wanted : ℕ → Bool
  wanted k = present (value_at m.rows k) && not (bit k set)

  pub record Surveying (k : ℕ) (t : Tally) : Type 0 where
    pub inside : k ≤ n
    pub few : t.octets ≤ most_ie * k
    pub good-before : first_from bad k (n - k) ≡ first_from bad 0 n
    pub fit-before : first_from not-fit k (n - k) ≡ first_from not-fit 0 n
    pub bits : (j : ℕ) → j < k → bit j (set_of t.seen) ≡ wanted j
    pub no_bits : (j : ℕ) → k ≤ j → bit j (set_of t.seen) ≡ false
    pub sum : t.octets ≡ length (added_octets m (set_of t.seen) 0 k)

  surveying-begun : Surveying 0 (record { octets = 0; seen = seen_of 0 })
  unfolding added_octets added_in firsts
  surveying-begun =
      let z : n - 0 ≡ n = omega arith in
      record {
        inside = omega arith;
        few = omega arith;
        good-before = ap (first_from bad 0) z;
        fit-before = ap (first_from not-fit 0) z;
        bits = λ j h. absurd (omega arith);
        no_bits = λ j h. no-bit j;
        sum = refl;
      }

  module _ (k : ℕ) (t : Tally) (s : Surveying k t) where
    surveying-ended : n ≤ k → n ≤ 128 → SurveyedBy m set (Ok t)
    unfolding unfit is_none
    surveying-ended h q =
        let e : k ≡ n = omega (arith, s.inside) in
        let g : first_from bad 0 n ≡ none = sym s.good-before ∙ first-over bad n k h in
        let f : first_from not-fit 0 n ≡ none = sym s.fit-before ∙ first-over not-fit n k h in
        (rw g, f, λ j l. s.bits j (omega arith), rw e at s.sum, omega (arith, s.few))

    module _ (h : k < n) where
      -- a place that is well formed and fits, with a set that has it where it is wanted, and is else the same
      module _ (good : wrong_at m set k ≡ false) (fit : not-fit k ≡ false) (u : Tally)
          (others : (j : ℕ) → (j ≡ k → ⊥) → bit j (set_of u.seen) ≡ bit j (set_of t.seen)) (here : bit k (set_of u.seen) ≡ wanted k)
          (more : u.octets ≡ t.octets + length (added_piece m (set_of u.seen) k)) (few-more : u.octets ≤ t.octets + most_ie) where
        bits-more : (j : ℕ) → j < k + 1 → (b : Bool) → eqb j k ≡ b → bit j (set_of u.seen) ≡ wanted j
        bits-more j l true q = rw (eqb-true j k q) here
        bits-more j l false q = others j (eqb-false j k q) ∙ s.bits j (let z = eqb-false j k q in omega arith)

        same-before : added_octets m (set_of t.seen) 0 k ≡ added_octets m (set_of u.seen) 0 k
        same-before = same-octets m (set_of t.seen) (set_of u.seen) k (λ j l. sym (others j (λ z. omega arith)))

        stepped : Surveying (k + 1) u
        stepped =
            record {
              inside = omega arith;
              few = omega (arith, s.few);
              good-before = first-further bad n k h good ∙ s.good-before;
              fit-before = first-further not-fit n k h fit ∙ s.fit-before;
              bits = λ j l. bits-more j l (eqb j k) refl;
              no_bits = λ j l. others j (λ z. omega arith) ∙ s.no_bits j (omega arith);
              sum = omega (arith, more, s.sum, ap length same-before, ap length (added_more m (set_of u.seen) k) ∙ length-append (added_octets m (set_of u.seen) 0 k) (added_piece m (set_of u.seen) k));
            }

      -- a place that is not wanted changes nothing
      passed : wrong_at m set k ≡ false → not-fit k ≡ false → wanted k ≡ false → Surveying (k + 1) t
      passed g f e =
          let z = s.no_bits k (omega arith) in
          let l : t.octets ≡ t.octets + length (added_piece m (set_of t.seen) k) = rw (piece-not m (set_of t.seen) k z) (omega arith) in
          stepped g f t (λ j i. refl) (z ∙ sym e) l (omega arith)

      surveying-absent : LookedAt m set k (Ok None) → Surveying (k + 1) t
      unfolding unfit_at
      surveying-absent a = passed a.0 (rw a.1) (rw a.1)

      surveying-step : k < 128 → {l : ℕ} {u : Tally} → LookedAt m set k (Ok (Some l)) → u ≡ added_to set k l t → Surveying (k + 1) u
      surveying-step low {l = l} a q = rw q (by (bit k set) refl)
        where
          with_it : Tally
          with_it = record { octets = t.octets + l; seen = seen_of (including_place k (set_of t.seen)) }

          by : (b : Bool) → bit k set ≡ b → Surveying (k + 1) (pick b t with_it)
          by true e = passed a.0 a.1 (rw (a.2, e))
          by false e =
              let b : (j : ℕ) → bit j (set_of with_it.seen) ≡ (eqb j k || bit j (set_of t.seen)) = bits-with t.seen k low in
              let y : bit k (set_of with_it.seen) ≡ true = b k ∙ rw (eq-eqb k k refl) in
              let p : l ≡ length (added_piece m (set_of with_it.seen) k) = a.3 ∙ sym (ap length (piece_added m (set_of with_it.seen) k y) ∙ any-iei m k (first_iei m.table k)) in
              stepped a.0 a.1 with_it (λ j i. b j ∙ rw (ne_eqb j k i)) (y ∙ sym (rw (a.2, e))) (ap (λ (j : ℕ). t.octets + j) p) (omega (arith, a.4))

  -- ---- with the first that does not fit, if there is one

  pub record Unfitting (k u : ℕ) (t : Tally) : Type 0 where
    pub inside : k ≤ n
    pub few : t.octets ≤ most_ie * k
    pub good-before : first_from bad k (n - k) ≡ first_from bad 0 n
    pub is-first : first_from not-fit 0 n ≡ some u

  abbrev pub Looking : ℕ → Answered ℕ → Tally → Type 0
  Looking k None t = Surveying k t
  Looking k (Some u) t = Unfitting k u t

  pub looking-begun : Looking 0 None (record { octets = 0; seen = seen_of 0 })
  looking-begun = surveying-begun

  module _ (k : ℕ) where
    good-up-to : (u : Answered ℕ) (t : Tally) → Looking k u t → first_from bad k (n - k) ≡ first_from bad 0 n
    good-up-to None t l = l.good-before
    good-up-to (Some u) t l = l.good-before

    pub looking-few : (u : Answered ℕ) (t : Tally) → Looking k u t → (k ≤ n) × (t.octets ≤ most_ie * k)
    looking-few None t l = (l.inside, l.few)
    looking-few (Some u) t l = (l.inside, l.few)

    pub looking-ended : (t : Tally) → Looking k None t → n ≤ k → n ≤ 128 → SurveyedBy m set (Ok t)
    looking-ended t l h q = surveying-ended k t l h q

    pub looking-unfit : (u : ℕ) (t : Tally) → Looking k (Some u) t → n ≤ k → SurveyedBy m set (Err (SurveyError.Unfit u))
    unfolding unfit is_none
    looking-unfit u t l h =
        let g : first_from bad 0 n ≡ none = sym l.good-before ∙ first-over bad n k h in
        (rw g, l.is-first)

    module _ (h : k < n) where
      pub looking-bad : (u : Answered ℕ) (t : Tally) → Looking k u t → LookedAt m set k (Err RowFault.Bad) → SurveyedBy m set (Err SurveyError.Malformed)
      unfolding is_none
      looking-bad u t s e = let g : first_from bad 0 n ≡ some k = sym (good-up-to u t s) ∙ first-here bad n k h e in rw g

      -- behind the first that does not fit only the rows matter
      passed_over : (u : ℕ) (t : Tally) (l : Unfitting k u t) (v : Tally) → bad k ≡ false → v.octets ≤ t.octets + most_ie → Unfitting (k + 1) u v
      passed_over u t l v good f =
          record { inside = omega arith; few = omega (arith, l.few); good-before = first-further bad n k h good ∙ l.good-before; is-first = l.is-first }

      pub looking-not-fit : (u : Answered ℕ) (t : Tally) → Looking k u t → LookedAt m set k (Err RowFault.Unfit) → Looking (k + 1) (option_or u (Some k)) t
      looking-not-fit None t l a =
          record {
            inside = omega arith;
            few = omega (arith, l.few);
            good-before = first-further bad n k h a.0 ∙ l.good-before;
            is-first = sym l.fit-before ∙ first-here not-fit n k h a.1;
          }
      looking-not-fit (Some u) t l a = passed_over u t l t a.0 (omega arith)

      pub looking-absent : (u : Answered ℕ) (t : Tally) → Looking k u t → LookedAt m set k (Ok None) → Looking (k + 1) u t
      looking-absent None t l a = surveying-absent k t l h a
      looking-absent (Some u) t l a = passed_over u t l t a.0 (omega arith)

      pub looking-step : (u : Answered ℕ) (t : Tally) → Looking k u t → k < 128 → {l : ℕ} {v : Tally} → LookedAt m set k (Ok (Some l)) → v ≡ added_to set k l t → Looking (k + 1) u v
      looking-step None t s low a e = surveying-step k t s h low a e
      looking-step (Some u) t s low {l = l} {v = v} a e = passed_over u t s v a.0 (few-more (bit k set) refl)
        where
          few-more : (b : Bool) → bit k set ≡ b → v.octets ≤ t.octets + most_ie
          few-more true q = rw (e, q) (omega arith)
          few-more false q = rw (e, q) (omega (arith, a.4))
