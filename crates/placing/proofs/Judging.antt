-- An element judged by its row, a test at a time, and put by what `put_ie` answers.
-- Where that is None, the value does not fit or has no room.
use Prim.Native.Nat.{ℕ, ◌+◌, ◌-◌, ◌≤◌, ◌<◌}
use native.Mathlib.Omega.{arith}
use mathlib.Core.Path.{◌≡◌, refl, ap, ◌∙◌}
use mathlib.Core.List.{List, []}
use mathlib.Core.Bool.{Bool, true, false, ◌&&◌}
use mathlib.Core.Option.{Option, none, some}
use borrow.Author.Tests.{leb-true, leb-false, le-leb, lt-leb}
use lib.ListN.{length, take, drop, length-take, length-drop}
use lib.Dec.{leb}
use borrow.Rule.Slice.PartMut.{put_mid, put_same}
use Rattle.definitions.specs.Basic.{pick}
use Rattle.definitions.specs.Rows.{Form, form_of}
use Rattle.definitions.specs.Values.{Octets, Value, value_at, present, good_value, unlike, octets_at}
use Rattle.definitions.specs.Writing.{encoded}
use Rattle.definitions.proofs.Lists.{lent-over}
use Rattle.rows.specs.Numbers.{numbers_at}
use Rattle.rows.specs.declared.columns.Numbers.{Numbers}
use Rattle.values.specs.Rows.{value_of, sources_of}
use Rattle.values.specs.declared.row.ValueRow.{ValueRow}
use Rattle.putting.specs.Puts.{writable, puts, PutIf}
use Rattle.placing.specs.Pieces.{lent_of, judged, piece_by, held_to, PutBy}
use Rattle.std.specs.Prelude.{Option as Answered, Some, None}
use Rattle.placing.proofs.Pieces.{put-not, none-not, long-not, put_some, put-nothing}

-- what is known of a piece by what was answered where it was put
pub record Took (piece : Option (List ℕ)) (at : ℕ) (out : List ℕ) (r : Answered ℕ) (ys : List ℕ) : Type 0 where
  pub not_put : r ≡ None → {after : List ℕ} → PutBy piece at out None after
  pub same : r ≡ None → put_mid at (length out - at) out ys ≡ out
  pub more : (n : ℕ) → r ≡ Some n → PutBy piece at out (Some (at + n)) (put_mid at (length out - at) out ys)
  pub inside : (n : ℕ) → r ≡ Some n → at + n ≤ length out

-- what was lent of a buffer
abbrev lent : ℕ → List ℕ → List ℕ
lent at d = take (length d - at) (drop at d)

module _ (f : Form) (o : Octets) (v : Value) (iei : ℕ) where
  judged-bad : good_value o v ≡ false → judged f o v iei ≡ none
  unfolding judged
  judged-bad e = rw e

  module _ (good : good_value o v ≡ true) where
    judged-absent : present v ≡ false → judged f o v iei ≡ some []
    unfolding judged
    judged-absent e = rw (good, e)

    judged-unlike : present v ≡ true → unlike v iei ≡ true → judged f o v iei ≡ none
    unfolding judged
    judged-unlike p u = rw (good, p, u)

    module _ (there : present v ≡ true) (like : unlike v iei ≡ false) where
      judged-large : 255 < iei → judged f o v iei ≡ none
      unfolding judged
      judged-large h = rw (good, there, like, lt-leb iei 255)

      module _ (small : iei ≤ 255) {s : List ℕ} (s-is : s ≡ octets_at o v) where
        judged-by : {b : Bool} → writable f v.source iei s ≡ b → judged f o v iei ≡ pick b (some (encoded f iei s)) none
        unfolding judged
        judged-by e = rw (good, there, like, le-leb iei 255 small, ← s-is, e)

        module _ (at : ℕ) (d : List ℕ) {r : Answered ℕ} {ys : List ℕ} (inside : at ≤ length d) (p : PutIf (puts f v.source iei s (lent at d)) (encoded f iei s) (lent at d) r ys) where
          room : length (lent at d) ≡ length d - at
          room = simp (length-take, length-drop) (omega arith)

          -- what a put says, by its two tests
          told : (b t : Bool) → writable f v.source iei s ≡ b → leb (length (encoded f iei s)) (length (lent at d)) ≡ t → PutIf (b && t) (encoded f iei s) (lent at d) r ys
          unfolding puts
          told b t x y = rw (x, y) at p

          took_not : (r ≡ None) → held_to (length d) at (judged f o v iei) ≡ None → ys ≡ lent at d → Took (judged f o v iei) at d r ys
          took_not n h e = record {
            not_put = λ q. put-not h;
            same = λ q. rw e (put_same at (length d - at) d);
            more = λ m q. absurd cc;
            inside = λ m q. absurd cc;
          }

          took_by : (b t : Bool) → writable f v.source iei s ≡ b → leb (length (encoded f iei s)) (length (lent at d)) ≡ t → Took (judged f o v iei) at d r ys
          took_by false t x y = let q = told false t x y in took_not q.takes (none-not (length d) at (judged-by x)) q.octets
          took_by true false x y =
              let q = told true false x y in
              took_not q.takes (long-not (length d) at (judged-by x) (omega (arith, leb-false (length (encoded f iei s)) (length (lent at d)) y, room))) q.octets
          took_by true true x y =
              let t = told true true x y in
              let h : at + length (encoded f iei s) ≤ length d = omega (arith, leb-true (length (encoded f iei s)) (length (lent at d)) y, room) in
              let e = t.takes in
              let same_as : (m : ℕ) → r ≡ Some m → m ≡ length (encoded f iei s) = λ m q. cc in
              record {
                not_put = λ q. absurd cc;
                same = λ q. absurd cc;
                more = λ m q. rw (judged-by x, same_as m q) (put_some (encoded f iei s) h (rw t.octets (lent-over at (encoded f iei s) d (omega arith))));
                inside = λ m q. omega (arith, same_as m q, h);
              }

          took : Took (judged f o v iei) at d r ys
          took = took_by (writable f v.source iei s) (leb (length (encoded f iei s)) (length (lent at d))) refl refl

-- ---- a place, by its row as the code has it

module _ (table rows received set : List ℕ) (k iei : ℕ) (row : ValueRow) (e : value_of row ≡ value_at rows k) where
  abbrev piece : Option (List ℕ)
  piece = piece_by (lent_of table rows received set) k iei

  abbrev o : Octets
  o = sources_of received set

  abbrev g : Form
  g = form_of (numbers_at table k).code (numbers_at table k).size

  piece_is : piece ≡ judged g o (value_of row) iei
  unfolding piece_by
  piece_is = rw e

  pub piece-bad : good_value o (value_of row) ≡ false → {at : ℕ} {out after : List ℕ} → PutBy piece at out None after
  piece-bad b {at = at} {out = out} = put-not (none-not (length out) at (piece_is ∙ judged-bad g o (value_of row) iei b))

  module _ (good : good_value o (value_of row) ≡ true) where
    pub piece-absent : row.source ≡ 0 → {at : ℕ} {out : List ℕ} → at ≤ length out → PutBy piece at out (Some at) out
    unfolding present
    piece-absent z h = rw (piece_is, judged-absent g o (value_of row) iei good (rw z)) (put-nothing h)

    module _ (there : row.source ≡ 0 → ⊥) where
      is-there : present (value_of row) ≡ true
      unfolding present
      is-there = le-leb 1 row.source (omega (arith, there))

      pub piece-unlike : unlike (value_of row) iei ≡ true → {at : ℕ} {out after : List ℕ} → PutBy piece at out None after
      piece-unlike u {at = at} {out = out} = put-not (none-not (length out) at (piece_is ∙ judged-unlike g o (value_of row) iei good is-there u))

      module _ (like : unlike (value_of row) iei ≡ false) where
        pub piece-large : 255 < iei → {at : ℕ} {out after : List ℕ} → PutBy piece at out None after
        piece-large h {at = at} {out = out} = put-not (none-not (length out) at (piece_is ∙ judged-large g o (value_of row) iei good is-there like h))

        module _ (small : iei ≤ 255) {f : Form} {n : Numbers} {s : List ℕ} (n-is : n ≡ numbers_at table k) (f-is : f ≡ form_of n.code n.size) (s-is : s ≡ octets_at o (value_of row))
            (at : ℕ) (out : List ℕ) {r : Answered ℕ} {ys : List ℕ} (inside : at ≤ length out) (p : PutIf (puts f row.source iei s (lent at out)) (encoded f iei s) (lent at out) r ys) where
          form-is : f ≡ g
          form-is = f-is ∙ ap (λ (x : Numbers). form_of x.code x.size) n-is

          by_form : PutIf (puts g row.source iei s (lent at out)) (encoded g iei s) (lent at out) r ys
          by_form = rw form-is at p

          pub piece-took : Took piece at out r ys
          piece-took = rw piece_is (took g o (value_of row) iei good is-there like small s-is at out inside by_form)
