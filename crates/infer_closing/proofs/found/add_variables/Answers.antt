use Rattle.std.proofs.Common.{List, ap, ◌∙◌, subst}
use Rattle.sml_types.specs.declared.types.TyVar.{TyVar}
use Rattle.sml_types.specs.Forms.{AreForms}
use Rattle.infer_closing.specs.Found.{with_vars}
use Rattle.infer_closing.proofs.FoundFacts.{added_are, added_kept, added_all}
use Rattle.infer_closing.proofs.found.add_variables.Goals as goal

pub returns-clause-vars : goal.returns-clause-vars
returns-clause-vars c =
    added_are c.args.types.now c.args.subst.now.bound (subst AreForms c.types.view_is c.types.invariant) c.requires.bindings c.args.ty.0 c.requires.here c.in_ok-more.more.items c.args.vars.now c.add_once.new.vars c.in_ok-more.ensures (c.in_ok-add_once.ensures ∙ ap (λ (m : List TyVar). with_vars m c.args.vars.now) c.deref.ensures.value) c.requires.vars

pub returns-clause-kept : goal.returns-clause-kept
returns-clause-kept c =
    added_kept c.args.types.now c.args.subst.now.bound (subst AreForms c.types.view_is c.types.invariant) c.requires.bindings c.args.ty.0 c.requires.here c.in_ok-more.more.items c.args.vars.now c.add_once.new.vars c.in_ok-more.ensures (c.in_ok-add_once.ensures ∙ ap (λ (m : List TyVar). with_vars m c.args.vars.now) c.deref.ensures.value)

pub returns-clause-each : goal.returns-clause-each
returns-clause-each c =
    added_all c.args.types.now c.args.subst.now.bound (subst AreForms c.types.view_is c.types.invariant) c.requires.bindings c.args.ty.0 c.requires.here c.in_ok-more.more.items c.args.vars.now c.add_once.new.vars c.in_ok-more.ensures (c.in_ok-add_once.ensures ∙ ap (λ (m : List TyVar). with_vars m c.args.vars.now) c.deref.ensures.value) c.requires.vars
