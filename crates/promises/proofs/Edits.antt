-- Edits in either order, the last of two, and one that is taken back. What each place holds afterwards is told by which places were set;
-- by the tests of the two places it is the same either way, so the same is written (Held.antt).
use Prim.Native.Nat.{ℕ, ◌*◌, ◌<◌}
use native.Mathlib.Omega.{arith}
use mathlib.Core.Path.{◌≡◌, refl, ap, sym, ◌∙◌}
use mathlib.Core.List.{List, [], ◌∷◌}
use mathlib.Core.Bool.{Bool, true, false}
use lib.ListN.{length, take, drop}
use lib.Seq.{take-nil, drop-nil}
use lib.Dec.{eqb}
use borrow.Author.Tests.{le-ltb, leb-false, eqb-true}
use Rattle.definitions.specs.Basic.{pick, refusal, Used, content}
use Rattle.definitions.specs.Logs.{kept_list, or_empty}
use Rattle.definitions.specs.Values.{Octets, Value, place_width, value_at, present, octets_at, source_of}
use Rattle.definitions.specs.Writing.{octets_for, octets_in as octets_of, writing_checks, writing, Message}
use Rattle.promises.specs.Edits.{Work, Edit, sets, clears, after, after_all, AllDone, wrote, Alike, EitherOrder, LastAlone, SetAndCleared}
use Rattle.promises.proofs.Held.{held, same-unfit, same-written}
use Rattle.promises.proofs.OneRow.{behind-length}
use Rattle.promises.proofs.Editing.{places, octets_in, entries, Sound, Settable, with, with_set, with_cleared, set-done, set_does, set_after, clear-does, clear-after}
use Rattle.promises.proofs.AfterEdit.{set-sound, set-held, cleared-sound, cleared-held}

-- ---- edits that are done, one after the other

pub record Runs (w : Work) (es : List Edit) (w' : Work) : Type 0 where
  pub done : AllDone w es
  pub leaves : after_all w es ≡ w'

pub run_none : (w : Work) → Runs w [] w
unfolding AllDone after_all
run_none w = record { done = tt; leaves = refl }

module _ {w' : Work} {es : List Edit} (w : Work) (k : ℕ) (s : Sound w) where
  pub run-set : (new : List ℕ) → Settable w k new → Runs (with_set w k new) es w' → Runs w (sets k new ∷ es) w'
  unfolding AllDone after_all
  run-set new p r = record { done = (rw (set_does w k s new p), rw (set_after w k s new p) r.done); leaves = rw (set_after w k s new p) r.leaves }

  pub run-clear : k < length (places w) → Runs (with_cleared w k) es w' → Runs w (clears k ∷ es) w'
  unfolding AllDone after_all
  run-clear l r = record { done = (rw (clear-does w k s l), rw (clear-after w k s l) r.done); leaves = rw (clear-after w k s l) r.leaves }

-- ---- the same is written

abbrev pub message : Work → Message
message w = record { table = places w; rows = w.rows; received = w.received; set = w.set; order = w.order; kept = w.kept }

module _ (w : Work) (rows : List ℕ) (set : Used) (s : Sound w) (s' : Sound (with w rows set))
    (same : (k : ℕ) → k < length (places w) → held (octets_in w) w.rows k ≡ held (octets_in (with w rows set)) rows k) where
  same-needed : octets_for (message w) ≡ octets_for (message (with w rows set))
  unfolding octets_for octets_of
  same-needed = same-written (places w) s.passes w.rows rows (octets_in w) (octets_in (with w rows set)) same (entries w) (or_empty (kept_list (content w.kept)))

  same-wrote : (output : List ℕ) → wrote w output ≡ wrote (with w rows set) output
  unfolding wrote writing writing_checks refusal octets_of
  same-wrote output =
      let u = same-unfit (places w) s.passes w.rows rows (octets_in w) (octets_in (with w rows set)) same in
      rw (
        s.passes,
        s.short,
        s'.short,
        s.log-short,
        le-ltb (length w.rows) (place_width * length (places w)) s.room,
        le-ltb (length rows) (place_width * length (places w)) s'.room,
        s.log,
        s.good,
        s'.good,
        s.agrees,
        s'.agrees,
        u,
        same-needed,
      )

  alike : (w₀ : Work) (es es' : List Edit) → Runs w₀ es w → Runs w₀ es' (with w rows set) → Alike w₀ es es'
  alike w₀ es es' r r' = record { these = r.done; those = r'.done; same = λ output. rw (r.leaves, r'.leaves) (same-wrote _) }

-- ---- the three sentences

-- one more value fits where two do, first or second
module _ (w : Work) (j k : ℕ) (a b : List ℕ) (p : Settable w j a) (q : Settable (with_set w j a) k b) where
  abbrev lent' : length (with_set w j a).set.buffer ≡ length w.set.buffer
  lent' = behind-length w.set.used a w.set.buffer p.lent

  settable-first : Settable w k b
  settable-first = record { inside = q.inside; fit = q.fit; limit = omega (arith, q.limit); lent = omega (arith, q.lent, lent') }

  settable-second : Settable (with_set w k b) j a
  settable-second =
      record { inside = p.inside; fit = p.fit; limit = omega (arith, q.limit); lent = omega (arith, q.lent, lent', behind-length w.set.used b w.set.buffer settable-first.lent) }

-- two settings that are done
record Both (w : Work) (j k : ℕ) (a b : List ℕ) : Type 0 where
  sound : Sound w
  first : Settable w j a
  second : Settable (with_set w j a) k b

both-done : (w : Work) (j k : ℕ) (a b : List ℕ) → AllDone w (sets j a ∷ sets k b ∷ []) → Both w j k a b
unfolding AllDone
both-done w j k a b d =
    let p = set-done w j a d.0 in
    let q = set-done (with_set w j a) k b (rw (set_after w j p.0 a p.1) at d.1.0) in
    record { sound = p.0; first = p.1; second = q.1 }

pub either_order : EitherOrder
either_order w j k a b e d =
    let h = both-done w j k a b d in
    let p = settable-first w j k a b h.first h.second in
    let q = settable-second w j k a b h.first h.second in
    let s = set-sound w j h.sound a h.first in
    let s' = set-sound w k h.sound b p in
    let w' : Work = with_set (with_set w k b) j a in
    alike (with_set (with_set w j a) k b) w'.rows w'.set (set-sound (with_set w j a) k s b h.second) (set-sound (with_set w k b) j s' a q)
    (λ i l.
    set-held (with_set w j a) k s b h.second i l
    ∙ ap (λ (x : ℕ × List ℕ). pick (eqb i k) (2, b) x) (set-held w j h.sound a h.first i l)
    ∙ swap i (eqb i j) (eqb i k) refl refl (held (octets_in w) w.rows i)
    ∙ sym (set-held (with_set w k b) j s' a q i l ∙ ap (λ (x : ℕ × List ℕ). pick (eqb i j) (2, a) x) (set-held w k h.sound b p i l)))
    w (sets j a ∷ sets k b ∷ []) (sets k b ∷ sets j a ∷ [])
    (run-set w j h.sound a h.first (run-set (with_set w j a) k s b h.second (run_none (with_set (with_set w j a) k b))))
    (run-set w k h.sound b p (run-set (with_set w k b) j s' a q (run_none w')))
  where
    swap : (i : ℕ) (x y : Bool) → eqb i j ≡ x → eqb i k ≡ y → (z : ℕ × List ℕ) → pick y (2, b) (pick x (2, a) z) ≡ pick x (2, a) (pick y (2, b) z)
    swap i false y p q z = refl
    swap i true false p q z = refl
    swap i true true p q z = absurd (e (sym (eqb-true i j p) ∙ eqb-true i k q))

pub last-alone : LastAlone
last-alone w k a b d =
    let h = both-done w k k a b d in
    let p = settable-first w k k a b h.first h.second in
    let s = set-sound w k h.sound a h.first in
    let w' : Work = with_set w k b in
    alike (with_set (with_set w k a) k b) w'.rows w'.set (set-sound (with_set w k a) k s b h.second) (set-sound w k h.sound b p)
    (λ i l.
    set-held (with_set w k a) k s b h.second i l
    ∙ ap (λ (x : ℕ × List ℕ). pick (eqb i k) (2, b) x) (set-held w k h.sound a h.first i l)
    ∙ last (eqb i k) (held (octets_in w) w.rows i)
    ∙ sym (set-held w k h.sound b p i l))
    w (sets k a ∷ sets k b ∷ []) (sets k b ∷ [])
    (run-set w k h.sound a h.first (run-set (with_set w k a) k s b h.second (run_none (with_set (with_set w k a) k b))))
    (run-set w k h.sound b p (run_none w'))
  where
    last : (x : Bool) (z : ℕ × List ℕ) → pick x (2, b) (pick x (2, a) z) ≡ pick x (2, b) z
    last true z = refl
    last false z = refl

-- an absent place holds nothing
holds-none : (o : Octets) (v : Value) → present v ≡ false → ◌≡◌ {A = ℕ × List ℕ} (v.source, octets_at o v) (0, [])
unfolding present octets_at source_of
holds-none o v h =
    let e : v.source ≡ 0 = omega (arith, leb-false 1 v.source h) in
    ap (λ (n : ℕ). (n, take v.size (drop v.start (source_of o n)))) e ∙ rw (drop-nil {A = ℕ} v.start, take-nil {A = ℕ} v.size)

pub set-and-cleared : SetAndCleared
unfolding AllDone
set-and-cleared w k a n d =
    let p = set-done w k a d.0 in
    let s = set-sound w k p.0 a p.1 in
    let w' : Work = with_set w k a in
    alike (with_cleared w' k) w.rows w.set (cleared-sound w' k s p.1.inside) p.0
    (λ i l.
    cleared-held w' k s p.1.inside i l
    ∙ ap (λ (x : ℕ × List ℕ). pick (eqb i k) (0, []) x) (set-held w k p.0 a p.1 i l)
    ∙ back i (eqb i k) refl)
    w (sets k a ∷ clears k ∷ []) []
    (run-set w k p.0 a p.1 (run-clear w' k s p.1.inside (run_none (with_cleared w' k))))
    (run_none w)
  where
    back : (i : ℕ) (x : Bool) → eqb i k ≡ x → pick x (0, []) (pick x (2, a) (held (octets_in w) w.rows i)) ≡ held (octets_in w) w.rows i
    back i true e = sym (holds-none (octets_in w) (value_at w.rows i) (rw (eqb-true i k e) n))
    back i false e = refl
