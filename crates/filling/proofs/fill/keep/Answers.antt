-- `keep` keeps the octets of an element that no row took.
-- Each arm names how it came; an accepted one has no entry, and any other has its octets.
use Prim.Native.Nat.{ℕ, ◌+◌, ◌-◌}
use native.Mathlib.Omega.{arith}
use mathlib.Core.Path.{◌≡◌, ap, sym}
use mathlib.Core.List.{List, []}
use mathlib.Core.Logic.{◌⊎◌, inl, inr}
use lib.ListN.{length, take, drop, length-take, length-drop}
use Rattle.definitions.specs.Logs.{kept_entry}
use Rattle.definitions.proofs.Lists.{over_none}
use Rattle.order.specs.declared.IgnoredIeReason.{IgnoredIeReason}
use Rattle.order.specs.declared.Placed.{Placed}
use Rattle.filling.specs.Fills.{kept_of_found, entry_by}
use Rattle.filling.proofs.fill.keep.Goals as goal

between : (start len : ℕ) → start + len - start ≡ len
between start len = omega arith

-- one that no row took
aside : (s : List ℕ) (p : Placed) → (p ≡ Placed.Unknown) ⊎ ((x : IgnoredIeReason) × (p ≡ Placed.Ignored x)) → entry_by s p ≡ kept_entry s
aside s p (inl e) = ap (entry_by s) e
aside s p (inr e) = ap (entry_by s) e.1

pub keep_octets-requires : goal.keep_octets-requires
unfolding kept_of_found
keep_octets-requires c =
    let a = c.args in
    let s = take a.e.len (drop a.e.start a.octets.now) in
    let l : length s ≡ a.e.len = simp (length-take, length-drop) (omega arith) in
    let q : kept_of_found a.e a.octets.now ≡ kept_entry s = aside s a.e.placed c.in-Unknown.is in
    rw (between a.e.start a.e.len) (omega arith, omega arith, rw q at c.requires.3)

pub returns-in-Known : goal.returns-in-Known
unfolding kept_of_found
returns-in-Known c =
    let a = c.args in
    let q : kept_of_found a.e a.octets.now ≡ [] = ap (entry_by (take a.e.len (drop a.e.start a.octets.now))) c.in-Known.is in
    rw q (omega arith, sym (over_none a.used a.kept.now))

pub returns-in-Unknown : goal.returns-in-Unknown
unfolding kept_of_found
returns-in-Unknown c =
    let a = c.args in
    let q : kept_of_found a.e a.octets.now ≡ kept_entry (take a.e.len (drop a.e.start a.octets.now)) = aside (take a.e.len (drop a.e.start a.octets.now)) a.e.placed c.in-Unknown.is in
    rw q (rw (between a.e.start a.e.len) at c.keep_octets.ensures)
