use Rattle.std.proofs.Common.{sym, ap, ◌∙◌}
use Rattle.sml_types.specs.Forms.{tree, form_tree}
use Rattle.sml_unify.specs.Solved.{bound_at}
use Rattle.infer_checks.proofs.FoundFacts.{variable_end, variable_next}
use Rattle.infer_checks.proofs.explicit.variable_at.Goals as goal

pub returns-in-None : goal.returns-in-None
returns-in-None c =
    let u = c.args.unknowns.now in
    c.chain.invariant.same
    ∙ variable_end u.types u.subst.bound c.requires.bindings c.chain.now.0 c.in-Var.var (c.form.ensures.means ∙ ap (form_tree (tree u.types)) c.in-Var.is) (sym (c.look.ensures ∙ ap (λ b. bound_at b c.in-Var.var.num) c.items.ensures) ∙ c.in-None.is)

pub chain-preserved : goal.chain-preserved
chain-preserved c =
    let u = c.args.unknowns.now in
    let e = sym (c.look.ensures ∙ ap (λ b. bound_at b c.in-Var.var.num) c.items.ensures) ∙ c.in-Some.is in
    record {
      there = c.requires.bindings.within c.in-Var.var.num c.in-Some.next e;
      same = c.chain.invariant.same ∙ variable_next u.types u.subst.bound c.requires.bindings c.chain.now.0 c.in-Var.var c.in-Some.next (c.form.ensures.means ∙ ap (form_tree (tree u.types)) c.in-Var.is) e;
    }
