-- What `all` answers of the octets with their indices is what the definition says of each.
use Rattle.std.proofs.Common.{Bool, ◌&&◌, eqb, ltb, leb, sym, ap, ◌∙◌, length, rules, tests}
use Rattle.std.proofs.lemmas.Iterator.{YieldsList-from_slice}
use Rattle.std.proofs.lemmas.Iterator.Search.{all_from_yields_List}
use Rattle.std.proofs.lemmas.Iterator.Consumers.{YieldsList-from_enumerate}
use Rattle.definitions.specs.Basic.{pick}
use Rattle.recorded.specs.Format.{octet_in}
use Rattle.recorded.specs.Lent.{octets_are, lent_octet}
use Rattle.recorded.proofs.Laws.{held}
use Rattle.recorded.proofs.Position.output_is.Goals as goal

pub returns-then-all : goal.returns-then-all
unfolding octets_are
returns-then-all c =
    let a = c.args.self in
    let s = c.args.output.now in
    let e = all_from_yields_List (λ p. eqb p.1 (pick (ltb p.0 c.string_len-n.result) (octet_in a.at a.list.now p.0) lent_octet)) _ _ c.all.result c.all.ensures.ran (YieldsList-from_enumerate (YieldsList-from_slice s cc) cc) (λ x b q k. search (rules, tests)) in
    ap (λ (b : Bool). b && leb c.string_len-n.result (length s)) (sym c.if-all.true) ∙ held _ _ (octet_in a.at a.list.now) lent_octet s c.string_len-n.ensures e

pub returns-else-all : goal.returns-else-all
unfolding octets_are
returns-else-all c =
    let a = c.args.self in
    let s = c.args.output.now in
    let e = all_from_yields_List (λ p. eqb p.1 (pick (ltb p.0 c.string_len-n.result) (octet_in a.at a.list.now p.0) lent_octet)) _ _ c.all.result c.all.ensures.ran (YieldsList-from_enumerate (YieldsList-from_slice s cc) cc) (λ x b q k. search (rules, tests)) in
    c.if-all.false ∙ ap (λ (b : Bool). b && leb c.string_len-n.result (length s)) (sym c.if-all.false) ∙ held _ _ (octet_in a.at a.list.now) lent_octet s c.string_len-n.ensures e
