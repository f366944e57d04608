-- `put_text` puts the header, and then by the length of the part and by whether it is cut short.
-- Each way out is a case of the definition.
use mathlib.Core.Path.{ap, sym}
use native.Mathlib.Omega.{arith}
use lib.ListN.{length}
use Rattle.std.specs.Prelude.{is_ok}
use Rattle.definitions.specs.Listing.{ascii, heading}
use Rattle.wording.proofs.Puts.{joined, at-text}
use Rattle.wording.proofs.Lines.{end_short, cut_short_lem}
use Rattle.wording.proofs.Said.{text-said, end-said, cut-said}
use Rattle.listing.proofs.Reading.{listing-long, listing-cut, listing-lines}
use Rattle.listing.proofs.put_text.Goals as goal

pub returns-then-octets-gt-MOST_LISTED : goal.returns-then-octets-gt-MOST_LISTED
unfolding heading ascii
returns-then-octets-gt-MOST_LISTED c =
    let a = text-said (omega arith) (omega arith) c.say-used.ensures in
    let b = text-said (omega (arith, a.used)) (omega arith) c.say.ensures in
    (at-text (listing-long c.args.table.now c.args.option c.args.octets.now (omega arith)) (joined a b), omega (arith, a.used, b.used))

pub read_whole-requires : goal.read_whole-requires
read_whole-requires c = record { passes = c.requires; short = omega arith }

pub put_lines-next-requires : goal.put_lines-next-requires
put_lines-next-requires c =
    let a = text-said (omega arith) (omega arith) c.say-used.ensures in
    (record { passes = c.requires; short = omega arith }, omega (arith, a.used), sym (ap is_ok c.in-Ok.ensures))

pub returns-in-Ok : goal.returns-in-Ok
unfolding heading ascii
returns-in-Ok c =
    let a = text-said (omega arith) (omega arith) c.say-used.ensures in
    let b = end-said (omega (arith, a.used, c.put_lines-next.ensures.1)) _ c.say_end.ensures in
    (at-text (listing-lines c.args.table.now c.args.option c.args.octets.now (omega arith) (sym (ap is_ok c.in-Ok.ensures))) (joined a (joined c.put_lines-next.ensures.0 b)), omega (arith, a.used, c.put_lines-next.ensures.1, b.used, end_short (length c.args.octets.now)))

pub returns-in-Err : goal.returns-in-Err
unfolding heading ascii
returns-in-Err c =
    let a = text-said (omega arith) (omega arith) c.say-used.ensures in
    let b = cut-said (omega (arith, a.used)) _ _ _ _ c.say_cut.ensures in
    (at-text (listing-cut c.args.table.now c.args.option c.args.octets.now (omega arith) c.in-Err.ensures) (joined a b), omega (arith, a.used, b.used, cut_short_lem c.in-Err.cut.start c.in-Err.cut.first c.in-Err.cut.left c.in-Err.cut.missing))
