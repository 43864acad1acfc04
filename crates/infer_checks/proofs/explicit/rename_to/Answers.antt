use Rattle.std.proofs.Common.{rules, ◌+◌, None, sym, ◌∙◌, subst, refl}
use Rattle.sml_types.specs.Tree.{Tree}
use Rattle.sml_unify.specs.Solved.{under}
use Rattle.infer_closing.specs.Closing.{meaning}
use Rattle.infer_checks.specs.Ending.{IsVariableAt}
use Rattle.infer_checks.proofs.FoundFacts.{explicit_at, not_marked, no_variable}
use Rattle.infer_checks.proofs.explicit.rename_to.Goals as goal

pub returns-in-Some : goal.returns-in-Some
returns-in-Some c =
    let u = c.args.unknowns.now in
    let p = c.args.bare.now in
    record {
      var = c.in-Some.var;
      stands = sym (explicit_at p u.types c.args.starts.now (meaning u) c.args.tyvar c.forms.ensures.kept.numbered c.requires.laid c.requires.there) ∙ subst (IsVariableAt (under u.types (meaning u) (c.args.starts.now.explicit + c.args.tyvar))) c.in-Some.is c.in_ok-var.ensures;
      number = refl;
      mark = search rules;
      to = search rules;
    }

pub returns-in_default : goal.returns-in_default
returns-in_default c =
    let u = c.args.unknowns.now in
    let p = c.args.bare.now in
    λ own. not_marked p (meaning u) c.args.tyvar c.requires.there own c.in-Some.var
    (sym (explicit_at p u.types c.args.starts.now (meaning u) c.args.tyvar c.forms.ensures.kept.numbered c.requires.laid c.requires.there) ∙ subst (IsVariableAt (under u.types (meaning u) (c.args.starts.now.explicit + c.args.tyvar))) c.in-Some.is c.in_ok-var.ensures)
    (λ e. search rules)

pub returns-in_default-2 : goal.returns-in_default-2
returns-in_default-2 c =
    let u = c.args.unknowns.now in
    let p = c.args.bare.now in
    λ own. no_variable p (meaning u) c.args.tyvar c.requires.there own
    (subst (λ (t : Tree). IsVariableAt t None) (explicit_at p u.types c.args.starts.now (meaning u) c.args.tyvar c.forms.ensures.kept.numbered c.requires.laid c.requires.there) (subst (IsVariableAt (under u.types (meaning u) (c.args.starts.now.explicit + c.args.tyvar))) c.in_default.is c.in_ok-var.ensures))
