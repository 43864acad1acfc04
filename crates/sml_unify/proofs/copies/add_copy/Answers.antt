use Rattle.std.proofs.Common.{nat_eq}
use Rattle.indexmap.specs.IndexMap.{get}
use Rattle.sml_unify.specs.Links.{IsLinked}
use Rattle.sml_unify.specs.Copies.{IsAdded}
use Rattle.sml_unify.proofs.CopyFacts.{grown_copy, added, on_ok}
use Rattle.sml_unify.proofs.copies.add_copy.Goals as goal

pub returns-in_err-link-clause-grown : goal.returns-in_err-link-clause-grown
returns-in_err-link-clause-grown c =
    grown_copy c.args.renames.now c.args.types.now (get nat_eq c.args.copies.now) c.args.entry.head.0 c.copy_of.new.types c.in_ok-copy.copy c.in_ok-copy.ensures.ok

pub returns-clause-ok : goal.returns-clause-ok
returns-clause-ok c =
    on_ok
    c.link-2.result
    (IsLinked (get nat_eq c.link.new.links) c.args.entry.ty.0 c.in_ok-copy.copy (get nat_eq c.link-2.new.links))
    (IsAdded c.args.renames.now c.args.types.now (get nat_eq c.args.copies.now) c.args.entry c.copy_of.new.types (get nat_eq c.link-2.new.links))
    (λ l. added c.args.renames.now c.args.types.now (get nat_eq c.args.copies.now) c.args.entry c.copy_of.new.types c.in_ok-copy.copy (get nat_eq c.link.new.links) (get nat_eq c.link-2.new.links) c.requires.parts c.in_ok-copy.ensures.ok c.in_ok-link.ensures l)
    c.link-2.ensures

pub returns-clause-grown : goal.returns-clause-grown
returns-clause-grown c =
    grown_copy c.args.renames.now c.args.types.now (get nat_eq c.args.copies.now) c.args.entry.head.0 c.copy_of.new.types c.in_ok-copy.copy c.in_ok-copy.ensures.ok
