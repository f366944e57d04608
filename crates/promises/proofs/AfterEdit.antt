-- The message that an edit leaves passes the same checks; each place but the one that was edited holds what it held, and where all
-- values fitted their forms they fit still. Setting and clearing are each one row of OneRow.antt.
use Prim.Native.Nat.{ℕ, ◌+◌, ◌≤◌, ◌<◌}
use native.Mathlib.Omega.{arith}
use mathlib.Core.Path.{◌≡◌, refl}
use mathlib.Core.List.{List, [], ◌++◌}
use mathlib.Core.Bool.{true}
use mathlib.Core.Option.{none}
use lib.ListN.{length, length-append}
use lib.Seq.{length-take-le}
use lib.Dec.{ltb, eqb}
use borrow.Author.Tests.{le-leb, le-ltb, eq-eqb}
use Rattle.definitions.specs.Basic.{pick, content, too_long, most_octets}
use Rattle.definitions.specs.Rows.{Row}
use Rattle.definitions.specs.Logs.{iei_for}
use Rattle.definitions.specs.Values.{Octets, Value, present, source_of, octets_at, good_value, values_too_long, clearing}
use Rattle.definitions.specs.Writing.{unfit}
use Rattle.definitions.proofs.Checks.{neither}
use Rattle.promises.specs.Edits.{Work}
use Rattle.promises.proofs.Agreement.{written-agrees}
use Rattle.promises.proofs.Held.{held}
use Rattle.promises.proofs.OneRow.{Grown, grown, put-behind, behind-length, value-behind, row-length, row-good, row-held, row_fits}
use Rattle.promises.proofs.Editing.{places, octets_in, entries, Sound, Settable, with_set, with_cleared}

module _ (w : Work) (k : ℕ) (s : Sound w) where
  abbrev t' : List Row
  t' = places w

  module _ (new : List ℕ) (p : Settable w k new) where
    abbrev o' : Octets
    o' = octets_in (with_set w k new)

    abbrev i : ℕ
    i = iei_for t' (entries w) k

    abbrev value : Value
    value = record { source = 2; start = w.set.used; size = length new; iei = i }

    used-length : length (content w.set) ≡ w.set.used
    unfolding content
    used-length = length-take-le w.set.used w.set.buffer (omega (arith, p.lent))

    set-content : content (with_set w k new).set ≡ content w.set ++ new
    unfolding content
    set-content = put-behind w.set.used new w.set.buffer p.lent

    set_grown : Grown (octets_in w) o'
    set_grown = rw set-content (grown w.received (content w.set) new)

    set-octets : octets_at o' value ≡ new
    unfolding octets_at source_of
    set-octets = rw set-content (value-behind w.set.used (content w.set) new used-length)

    set-good : good_value o' value ≡ true
    unfolding good_value present source_of
    set-good =
        let l : w.set.used + length new ≤ length (content w.set ++ new) = simp length-append (omega (arith, used-length)) in
        rw set-content (le-leb (w.set.used + length new) (length (content w.set ++ new)) l)

    pub set-sound : Sound (with_set w k new)
    unfolding values_too_long too_long
    set-sound =
        let n : ℕ = w.set.used + length new in
        let r = neither (ltb most_octets (length w.received)) (too_long most_octets w.set) s.short in
        record {
          passes = s.passes;
          log-short = s.log-short;
          short = rw (r.0, le-ltb (length (with_set w k new).set.buffer) n (omega (arith, p.lent, behind-length w.set.used new w.set.buffer p.lent)), le-ltb most_octets n p.limit);
          room = omega (arith, s.room, row-length t' (octets_in w) o' set_grown w.rows k 2 w.set.used (length new) i p.inside s.room s.good);
          log = s.log;
          good = row-good t' (octets_in w) o' set_grown w.rows k 2 w.set.used (length new) i p.inside s.room s.good set-good;
          agrees = written-agrees t' (entries w) w.rows k 2 w.set.used (length new) i p.inside s.room (rw (eq-eqb i i refl)) s.agrees;
        }

    pub set-held : (j : ℕ) → j < length t' → held o' (with_set w k new).rows j ≡ pick (eqb j k) (2, new) (held (octets_in w) w.rows j)
    set-held j l = rw set-octets at (row-held t' (octets_in w) o' set_grown w.rows k 2 w.set.used (length new) i p.inside s.room s.good j l)

    pub set-fits : unfit t' (octets_in w) w.rows ≡ none → unfit t' o' (with_set w k new).rows ≡ none
    set-fits u =
        row_fits t' (octets_in w) o' set_grown w.rows k 2 w.set.used (length new) i p.inside s.room s.good (rw (set-octets, p.fit)) u

  module _ (l : k < length t') where
    abbrev oc : Octets
    oc = octets_in w

    stays : Grown oc oc
    stays v h = (h, refl)

    pub cleared-sound : Sound (with_cleared w k)
    unfolding good_value present
    cleared-sound =
        record {
          passes = s.passes;
          log-short = s.log-short;
          short = s.short;
          room = omega (arith, s.room, row-length t' oc oc stays w.rows k 0 0 0 0 l s.room s.good);
          log = s.log;
          good = row-good t' oc oc stays w.rows k 0 0 0 0 l s.room s.good refl;
          agrees = written-agrees t' (entries w) w.rows k 0 0 0 0 l s.room refl s.agrees;
        }

    pub cleared-held : (j : ℕ) → j < length t' → held oc (with_cleared w k).rows j ≡ pick (eqb j k) (0, []) (held oc w.rows j)
    unfolding octets_at source_of
    cleared-held j h = row-held t' oc oc stays w.rows k 0 0 0 0 l s.room s.good j h

    pub cleared-fits : unfit t' oc w.rows ≡ none → unfit t' oc (with_cleared w k).rows ≡ none
    cleared-fits u = row_fits t' oc oc stays w.rows k 0 0 0 0 l s.room s.good refl u
