-- `list_by` puts the text twice: into no room, for its length, and into the lent buffer where there is room for all of it.
-- Each way out has the test of the room.
use mathlib.Core.Path.{◌≡◌, ap}
use native.Mathlib.Omega.{arith}
use Prim.Native.Nat.{ℕ}
use lib.ListN.{length}
use borrow.Author.Tests.{le-leb, lt-leb}
use Rattle.definitions.specs.Listing.{listing_by}
use Rattle.std.specs.Prelude.{Ok, Err}
use Rattle.wording.proofs.Puts.{put_whole}
use Rattle.listing.proofs.Answers.{no_room}
use Rattle.listing.proofs.list_by.Goals as goal

pub put_text-n-requires : goal.put_text-n-requires
put_text-n-requires c = c.requires

pub returns-then-n-out : goal.returns-then-n-out
returns-then-n-out c =
    let u : c.put_text-n.result ≡ length (listing_by c.args.table.now c.args.option c.args.octets.now) = omega (arith, c.put_text-n.ensures.0.used) in
    record {
      value = rw (lt-leb (length (listing_by c.args.table.now c.args.option c.args.octets.now)) (length c.args.out.now) (omega arith)) (ap (λ (n : ℕ). Err (no_room n)) u);
      out_after = rw (lt-leb (length (listing_by c.args.table.now c.args.option c.args.octets.now)) (length c.args.out.now) (omega arith));
      octets_len_bound = omega (arith, c.put_text-n.ensures.1);
    }

pub put_text-requires : goal.put_text-requires
put_text-requires c = c.requires

pub returns : goal.returns
returns c =
    let u : c.put_text-n.result ≡ length (listing_by c.args.table.now c.args.option c.args.octets.now) = omega (arith, c.put_text-n.ensures.0.used) in
    record {
      value = rw (le-leb (length (listing_by c.args.table.now c.args.option c.args.octets.now)) (length c.args.out.now) (omega arith)) (ap Ok u);
      out_after = rw (le-leb (length (listing_by c.args.table.now c.args.option c.args.octets.now)) (length c.args.out.now) (omega arith)) (put_whole c.put_text.ensures.0 (omega arith));
      octets_len_bound = omega (arith, c.put_text-n.ensures.1);
    }
