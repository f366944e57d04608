-- Strangers. An element that is not cut short is found in front of whatever follows it, and what was met is settled by the places
-- alone: so those in front stand as they did, the stranger changes nothing that was met, and those behind are found as they were.
use Prim.Native.Nat.{ℕ, zero, suc, ◌+◌, ◌≤◌}
use native.Mathlib.Omega.{arith}
use mathlib.Core.Path.{◌≡◌, refl, sym, ap, ◌∙◌}
use mathlib.Core.List.{List, [], ◌∷◌, ◌++◌, map, append_assoc}
use mathlib.Core.Option.{Option, none, some}
use mathlib.Core.Bool.{Bool, false}
use lib.ListN.{length, get_or, take, drop, length-append, length-drop}
use lib.Seq.{take-length, take-append_seam, drop-append_seam, length-take-le}
use Rattle.definitions.specs.Rows.{Row, Form, rows_of, row_at, form, iei_of, place_of}
use Rattle.definitions.specs.Length.{whole, unknown_form, unknown_length, required}
use Rattle.definitions.specs.Elements.{Element, Met, meet, taken, octets_of, known, stranger, elements, parted}
use Rattle.definitions.proofs.Steps.{Frames, whole-frames, front-octets, front-first, Stands, strange, placed, stands-front, Reads, end, more, reads, parts}
use Rattle.definitions.proofs.FrameLaws.{whole-front}
use Rattle.promises.specs.Joined.{joined}
use Rattle.promises.specs.Condition3.{framed_by}
use Rattle.promises.specs.Strangers.{Strange, Complete, Slot, longer, later, with_stranger, Strangers}
use Rattle.promises.proofs.Join.{reads-join, elements-join}
use Rattle.promises.proofs.Matched.{matched}

-- ---- an element in front of other octets

-- the length that a form finds of one that is complete, and that it finds again whatever follows
record Found (f : Form) (s z : List ℕ) : Type 0 where
  size : ℕ
  finds : whole f s ≡ some size
  again : whole f (take size s ++ z) ≡ some size
  long : length (take size s) ≡ size

found : (f : Form) (s z : List ℕ) {n : ℕ} → whole f s ≡ some n → Found f s z
found f s z {n} e =
    let g : Frames f s (some n) = rw e at (whole-frames f s) in
    record { size = n; finds = e; again = whole-front f s z n e; long = length-take-le n s g.1 }

-- its octets are complete by themselves exactly when it is not cut short
complete-found : (f : Form) (s z : List ℕ) → whole f (octets_of (whole f s) s) ≡ some (length (octets_of (whole f s) s)) → Found f s z
unfolding octets_of
complete-found f s z = go (whole f s) refl
  where
    go : (o : Option ℕ) → whole f s ≡ o → whole f (octets_of o s) ≡ some (length (octets_of o s)) → Found f s z
    go none e c = let q : none ≡ some (length s) = sym e ∙ c in let i : ◌≡◌ {A = ℕ} 0 1 = cc in absurd (omega arith)
    go (some n) e c = found f s z e

behind-found : (f : Form) (s z : List ℕ) → 1 ≤ length (drop (length (octets_of (whole f s) s)) s) → Found f s z
unfolding octets_of
behind-found f s z = go (whole f s) refl
  where
    go : (o : Option ℕ) → whole f s ≡ o → 1 ≤ length (drop (length (octets_of o s)) s) → Found f s z
    go none e h = absurd (omega (arith, length-drop (length s) s))
    go (some n) e h = found f s z e

seam : (n : ℕ) (s z : List ℕ) → length (take n s) ≡ n → take n (take n s ++ z) ≡ take n s
seam n s z l = ap (λ (j : ℕ). take j (take n s ++ z)) (sym l) ∙ take-append_seam (take n s) z

module _ (t : List Row) (start : ℕ) (option : Bool) where
  -- an element that has a place, or none, by the length found
  known-again : (m : Met) (at x : ℕ) (xs z : List ℕ) (k : ℕ) → Found (form (row_at t k)) (x ∷ xs) z → place_of t (iei_of x) ≡ some k
      → Stands t start option m at (octets_of (whole (form (row_at t k)) (x ∷ xs)) (x ∷ xs) ++ z) (known t option m at (x ∷ xs) k) (meet k m)
  unfolding known octets_of taken
  known-again m at x xs z k d p = go d.size d.finds d.again d.long
    where
      f : Form
      f = form (row_at t k)

      go : (n : ℕ) → whole f (x ∷ xs) ≡ some n → whole f (take n (x ∷ xs) ++ z) ≡ some n → length (take n (x ∷ xs)) ≡ n
          → Stands t start option m at (octets_of (whole f (x ∷ xs)) (x ∷ xs) ++ z) (known t option m at (x ∷ xs) k) (meet k m)
      go zero e g l = let h : Frames f (x ∷ xs) (some 0) = rw e at (whole-frames f (x ∷ xs)) in absurd (omega (arith, h.2))
      go (suc n) e g l =
          let s : take n (take n xs ++ z) ≡ take n xs = seam n xs z (omega arith) in
          let i : Stands t start option m at (x ∷ (take n xs ++ z)) (known t option m at (x ∷ (take n xs ++ z)) k) (meet k m) = placed k p in
          rw e (rw (g, s) at i)

  strange-again : (m : Met) (at x : ℕ) (xs z : List ℕ) → Found (unknown_form start x) (x ∷ xs) z → place_of t (iei_of x) ≡ none
      → Stands t start option m at (octets_of (whole (unknown_form start x) (x ∷ xs)) (x ∷ xs) ++ z) (stranger at (octets_of (whole (unknown_form start x) (x ∷ xs)) (x ∷ xs))) m
  unfolding octets_of
  strange-again m at x xs z d p = go d.size d.finds d.again d.long
    where
      f : Form
      f = unknown_form start x

      go : (n : ℕ) → whole f (x ∷ xs) ≡ some n → whole f (take n (x ∷ xs) ++ z) ≡ some n → length (take n (x ∷ xs)) ≡ n
          → Stands t start option m at (octets_of (whole f (x ∷ xs)) (x ∷ xs) ++ z) (stranger at (octets_of (whole f (x ∷ xs)) (x ∷ xs))) m
      go zero e g l = let h : Frames f (x ∷ xs) (some 0) = rw e at (whole-frames f (x ∷ xs)) in absurd (omega (arith, h.2))
      go (suc n) e g l =
          let s : take n (take n xs ++ z) ≡ take n xs = seam n xs z (omega arith) in
          let r : whole f (x ∷ (take n xs ++ z)) ≡ none → required x ≡ false = λ w. let c : none ≡ some (suc n) = sym w ∙ g in cc in
          let i : Stands t start option m at (x ∷ (take n xs ++ z)) (stranger at (octets_of (whole f (x ∷ (take n xs ++ z))) (x ∷ (take n xs ++ z)))) m = strange p r in
          rw e (rw (g, s) at i)

  -- whatever its form
  lasts-complete : {m m' : Met} {at : ℕ} {s : List ℕ} {e : Element} → Stands t start option m at s e m' → (z : List ℕ) → Complete t start e → Stands t start option m at (e.octets ++ z) e m'
  unfolding framed_by stranger known
  lasts-complete (strange {m = m} {at = at} {x = x} {xs = xs} p q) z c =
      let i : get_or (octets_of (whole (unknown_form start x) (x ∷ xs)) (x ∷ xs)) 0 0 ≡ x = front-first (front-octets (unknown_form start x) x xs) in
      strange-again m at x xs z (complete-found (unknown_form start x) (x ∷ xs) z (rw i at c)) p
  lasts-complete (placed {m = m} {at = at} {x = x} {xs = xs} k p) z c = known-again m at x xs z k (complete-found (form (row_at t k)) (x ∷ xs) z c) p

  lasts-behind : {m m' : Met} {at : ℕ} {s : List ℕ} {e : Element} → Stands t start option m at s e m' → (z : List ℕ) → 1 ≤ length (drop (length e.octets) s)
      → Stands t start option m at (e.octets ++ z) e m'
  unfolding stranger known
  lasts-behind (strange {m = m} {at = at} {x = x} {xs = xs} p q) z h = strange-again m at x xs z (behind-found (unknown_form start x) (x ∷ xs) z h) p
  lasts-behind (placed {m = m} {at = at} {x = x} {xs = xs} k p) z h = known-again m at x xs z k (behind-found (form (row_at t k)) (x ∷ xs) z h) p

  -- ---- the stranger, and those behind it

  stranger-stands : (m : Met) (at : ℕ) (x z : List ℕ) → Strange t start x → Stands t start option m at (x ++ z) (stranger at x) m
  unfolding unknown_length octets_of
  stranger-stands m at [] z d = let c : ◌≡◌ {A = Option ℕ} none (some 0) = d.complete in let i : ◌≡◌ {A = ℕ} 0 1 = cc in absurd (omega arith)
  stranger-stands m at (x ∷ xs) z d =
      let e : whole (unknown_form start x) (x ∷ xs) ≡ some (length (x ∷ xs)) = d.complete in
      rw (e, take-length xs) at (strange-again m at x xs z (found (unknown_form start x) (x ∷ xs) z e) d.no_place)

  later-stands : {m m' : Met} {at : ℕ} {s : List ℕ} {e : Element} (n : ℕ) → Stands t start option m at s e m' → Stands t start option m (at + n) s (later n e) m'
  unfolding later stranger known
  later-stands n (strange p q) = strange p q
  later-stands n (placed k p) = placed k p

  later-reads : {m : Met} {at : ℕ} {s : List ℕ} {es : List Element} (n : ℕ) → Reads t start option m at s es → Reads t start option m (at + n) s (map (later n) es)
  unfolding later
  later-reads n end = end
  later-reads n (more {m' = m'} {at = at} {s = s} {e = e} {es = es} d r) =
      let i : at + length e.octets + n ≡ at + n + length e.octets = omega arith in
      more (later-stands n d) (rw i at (later-reads n r))

  -- ---- the whole part

  some_left : {m : Met} {at : ℕ} {s : List ℕ} {e : Element} {es : List Element} → Reads t start option m at s (e ∷ es) → 1 ≤ length s
  some_left (more d r) = let f = stands-front t start option d in omega (arith, f.some-octet, f.fits)

  lasts : (front behind : List Element) {m m' : Met} {at at' : ℕ} {s : List ℕ} {e : Element} → Stands t start option m at s e m'
      → Reads t start option m' at' (drop (length e.octets) s) (front ++ behind) → Slot t start (e ∷ front) behind → (z : List ℕ) → Stands t start option m at (e.octets ++ z) e m'
  unfolding Slot
  lasts [] [] d r c z = lasts-complete d z c
  lasts [] (f ∷ behind) d r c z = lasts-behind d z (some_left r)
  lasts (f ∷ front) behind d r c z = lasts-behind d z (some_left r)

  slot-behind : (e : Element) (front behind : List Element) → Slot t start (e ∷ front) behind → Slot t start front behind
  unfolding Slot
  slot-behind e [] [] c = tt
  slot-behind e [] (f ∷ behind) c = tt
  slot-behind e (f ∷ front) [] c = c
  slot-behind e (f ∷ front) (g ∷ behind) c = tt

  inserted : (front behind : List Element) (x : List ℕ) → Strange t start x → {m : Met} {at : ℕ} {s : List ℕ} → Reads t start option m at s (front ++ behind) → Slot t start front behind
      → Reads t start option m at (joined front ++ (x ++ joined behind)) (front ++ (stranger (at + length (joined front)) x ∷ map (later (length x)) behind))
  unfolding joined stranger
  inserted [] behind x d {m} {at} {s} r c =
      let z : at + 0 ≡ at = omega arith in
      let b : Reads t start option m (at + length x) (drop (length x) (x ++ joined behind)) (map (later (length x)) behind) =
      rw (drop-append_seam x (joined behind), (reads-join t start option r).0) (later-reads (length x) r) in
      rw z (more (stranger-stands m at x (joined behind) d) b)
  inserted (e ∷ front) behind x d {m} {at} (more {m' = m'} {s = s} k r) c =
      let rest : List ℕ = joined front ++ (x ++ joined behind) in
      let n : at + length (e.octets ++ joined front) ≡ at + length e.octets + length (joined front) = simp length-append (omega arith) in
      let i : Reads t start option m' (at + length e.octets) (drop (length e.octets) (e.octets ++ rest)) (front ++ (stranger (at + length e.octets + length (joined front)) x ∷ map (later (length x)) behind)) =
      rw (drop-append_seam e.octets rest) (inserted front behind x d r (slot-behind e front behind c)) in
      rw (append_assoc, n) (more (lasts front behind k r c rest) i)

joined-append : (a b : List Element) → joined (a ++ b) ≡ joined a ++ joined b
unfolding joined
joined-append [] b = refl
joined-append (e ∷ a) b = rw (append_assoc, joined-append a b)

-- the longer part, by the elements of the part
longer-joined : (front behind : List Element) (x part : List ℕ) → joined (front ++ behind) ≡ part → longer front x part ≡ joined front ++ (x ++ joined behind)
unfolding longer
longer-joined front behind x part j =
    let e : part ≡ joined front ++ joined behind = sym j ∙ joined-append front behind in
    rw (e, take-append_seam (joined front) (joined behind), drop-append_seam (joined front) (joined behind))

pub strangers : Strangers
unfolding with_stranger
strangers table start option part x front behind l set output p d c h o k n =
    let t : List Row = rows_of table in
    let e = longer-joined front behind x part (elements-join t start option part (front ++ behind) p).0 in
    let z : 0 + length (joined front) ≡ length (joined front) = omega arith in
    let r = rw z at (inserted t start option front behind x d (reads t start option p) c) in
    let q : parted t start option (longer front x part) ≡ elements (with_stranger front x behind) = rw e (parts t start option r) in
    matched table start option (longer front x part) l set output h k o n q refl
