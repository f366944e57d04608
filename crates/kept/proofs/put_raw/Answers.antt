-- `put_raw` is `put_entry` of an element's first octet and the rest, where there is room.
-- Each test is the definition's.
use Prim.Native.Nat.{◌≤◌}
use native.Mathlib.Omega.{arith}
use mathlib.Core.Path.{sym, ◌∙◌}
use borrow.Author.Tests.{le-leb, lt-leb}
use lib.ListN.{length}
use Rattle.definitions.specs.Logs.{kept_entry}
use Rattle.definitions.proofs.Logs.{entry_length, count-short}
use Rattle.kept.proofs.Entries.{kept-into, kept-takes}
use Rattle.kept.specs.Kept.{kept_into, kept_takes, if_room}
use Rattle.kept.proofs.put_raw.Goals as goal

pub returns-in_default : goal.returns-in_default
unfolding kept_into kept_takes if_room
returns-in_default c = let e = c.in_default.ensures.cases in let z = lt-leb 1 (length c.args.element.now) (omega arith) in record { took = rw z; out_after = rw z }

pub returns-then-n-gt-MOST_OCTETS : goal.returns-then-n-gt-MOST_OCTETS
unfolding kept_into kept_takes if_room
returns-then-n-gt-MOST_OCTETS c =
    let e = c.args.element.now in
    let y = le-leb 1 (length e) (omega arith) in
    let z = lt-leb (length e) 65535 (omega arith) in
    record { took = rw (y, z); out_after = rw (y, z) }

pub overflow_add-need : goal.overflow_add-need
overflow_add-need c = let r : c.count_len.result ≤ 3 = rw c.count_len.ensures (count-short _) in omega arith

pub returns-then-need-out : goal.returns-then-need-out
unfolding kept_into kept_takes if_room
returns-then-need-out c =
    let e = c.args.element.now in
    let d = c.args.out.now in
    let k = c.count_len.ensures in
    let f = c.in-Some.ensures.cases in
    let x = le-leb 1 (length e) (omega arith) in
    let y = le-leb (length e) 65535 (omega arith) in
    let z = lt-leb (length (kept_entry e)) (length d) (omega (arith, entry_length e)) in
    record { took = rw (x, y, z); out_after = rw (x, y, z) }

pub put_entry-requires : goal.put_entry-requires
put_entry-requires c =
    let e = c.args.element.now in
    let f = c.in-Some.ensures.cases in
    let k = c.count_len.ensures in
    (omega arith, rw (← f.0) (omega (arith, entry_length e)))

pub returns : goal.returns
returns c =
    let e = c.args.element.now in
    let d = c.args.out.now in
    let f = c.in-Some.ensures.cases in
    let k = c.count_len.ensures in
    let h : 1 ≤ length e = omega arith in
    let r : length (kept_entry e) ≤ length d = omega (arith, entry_length e) in
    record {
      took = omega (arith, entry_length e, kept-takes e d h (omega arith) r);
      out_after = (rw (← f.0) at c.put_entry.ensures) ∙ sym (kept-into e d h (omega arith) r);
    }
