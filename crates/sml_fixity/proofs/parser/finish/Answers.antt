use Rattle.std.proofs.Common.{◌∙◌, sym}
use Rattle.sml_fixity.proofs.TreeLemmas.{begins_at, deep_of, deep_refused, low_of, tree_holds}
use Rattle.sml_fixity.proofs.parser.finish.Goals as goal

pub returns-in-Some-clause-err : goal.returns-in-Some-clause-err
returns-in-Some-clause-err c =
    let holds = tree_holds c.args.lexed c.args.made.now c.items.result.now c.in_ok-nodes.nodes.items c.deref.result.now c.in_ok-places.places.items c.in_ok-decs.decs.items c.requires c.in_ok-nodes.ensures c.items.ensures c.in_ok-places.ensures c.deref.ensures.value c.in_ok-decs.ensures in
    let deep = deep_of c.args.made.now c.in_ok-nodes.nodes.items c.deref-2.result.now c.in_ok-depths.depths.items c.deref-3.result.now c.too_deep.result c.in_ok-nodes.ensures c.deref-2.ensures.value c.in_ok-depths.ensures c.deref-3.ensures.value c.too_deep.ensures in
    deep_refused c.args.lexed c.args.made.now c.in_ok-nodes.nodes.items c.in_ok-places.places.items c.in_ok-decs.decs.items c.in-Some.dec c.too_deep.result c.dec_place-place.result c.deref-in-Some.result.now c.deref-in-Some-2.result.now c.requires holds c.in_ok-nodes.ensures (begins_at c.args.lexed c.args.made.now c.items.result.now c.in_ok-places.places.items c.items.ensures c.in_ok-places.ensures) deep c.in-Some.is c.deref-in-Some.ensures.value c.deref-in-Some-2.ensures.value c.dec_place-place.ensures

pub invariant_of-result : goal.invariant_of-result
invariant_of-result c =
    let holds = tree_holds c.args.lexed c.args.made.now c.items.result.now c.from_vec.result c.deref.result.now c.from_vec-2.result c.from_vec-3.result c.requires (c.from_vec.ensures ∙ c.in_ok-nodes.ensures) c.items.ensures (c.from_vec-2.ensures ∙ c.in_ok-places.ensures) (c.deref.ensures.value ∙ sym c.from_vec.ensures) (λ n e. c.from_vec-3.ensures ∙ c.in_ok-decs.ensures n e) in
    let deep = deep_of c.args.made.now c.in_ok-nodes.nodes.items c.deref-2.result.now c.in_ok-depths.depths.items c.deref-3.result.now c.too_deep.result c.in_ok-nodes.ensures c.deref-2.ensures.value c.in_ok-depths.ensures c.deref-3.ensures.value c.too_deep.ensures in
    let shallow = low_of c.args.made.now c.from_vec.result (c.from_vec.ensures ∙ c.in_ok-nodes.ensures) (deep ∙ c.in_default.is) in
    record { placed = holds.placed; forest = holds.forest; cited = holds.cited; few = holds.few; shaped = holds.shapely; shallow = shallow }
