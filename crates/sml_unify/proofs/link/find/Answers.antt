use Rattle.std.proofs.Common.{refl, sym, ◌∙◌, nat_eq}
use Rattle.indexmap.specs.IndexMap.{get}
use Rattle.sml_unify.specs.Links.{stay, onward}
use Rattle.sml_unify.proofs.LinkFacts.{low_link_first, low_link_step}
use Rattle.sml_unify.proofs.link.find.Goals as goal

pub chain-init : goal.chain-init
chain-init c = record { chain = stay refl; low = low_link_first c.args.count (get nat_eq c.args.links.now) c.args.ty.0 c.requires.ranked }

pub chain-preserved : goal.chain-preserved
chain-preserved c =
    let e = sym c.linked.ensures ∙ c.in-Some.is in
    record {
      chain = onward c.chain.now.0 c.in-Some.next c.chain.invariant.chain e refl;
      low = low_link_step c.args.count (get nat_eq c.args.links.now) c.chain.now.0 c.chain.counter c.in-Some.next e c.chain.invariant.low;
    }
