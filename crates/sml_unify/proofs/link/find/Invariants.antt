use Rattle.std.proofs.Common.{nat_eq}
use Rattle.indexmap.specs.IndexMap.{get}
use Rattle.sml_unify.specs.Links.{Leads}
use Rattle.sml_unify.proofs.LinkFacts.{IsLowLink}
use Rattle.sml_unify.proofs.link.find.Given as goal

abbrev pub invariant-chain : goal.invariant-chain
invariant-chain l = record {
  chain : Leads (get nat_eq l.links) l.fn.ty.0 l.now.0;
  low : IsLowLink l.count (get nat_eq l.links) l.now.0 l.counter;
}
