use Rattle.std.proofs.Common.{◌<◌, length, nat_eq, sym, ◌∙◌, subst}
use Rattle.std.specs.List.{AllByRecursion}
use Rattle.indexmap.specs.IndexMap.{get}
use Rattle.sml_types.specs.Forms.{parts_of, IsNumbered, IsNamedOnce}
use Rattle.sml_unify.proofs.CopyFacts.{parts_within, named_as}
use Rattle.sml_unify.proofs.copies.make.Goals as goal

pub push-requires-clause-parts : goal.push-requires-clause-parts
push-requires-clause-parts c =
    subst
    (λ f. AllByRecursion (λ k. k < length c.args.types.now) (parts_of f))
    (sym c.in_ok-form.ensures)
    (parts_within c.args.types.now (get nat_eq c.args.copies.now) c.args.renames.now c.args.at.0 c.form.result.now (subst IsNumbered c.types.view_is c.types.invariant.numbered) c.requires.here c.form.ensures.here c.requires.there)

pub push-requires-clause-named : goal.push-requires-clause-named
push-requires-clause-named c i v w q m n =
    named_as c.args.types.now (get nat_eq c.args.copies.now) c.args.renames.now c.args.at.0 c.form.result.now (subst IsNamedOnce c.types.view_is c.types.invariant.named) c.requires.renames c.form.ensures.here i v w q (sym c.in_ok-form.ensures ∙ m) n
