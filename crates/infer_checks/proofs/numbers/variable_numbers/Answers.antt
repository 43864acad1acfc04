use Rattle.std.proofs.Common.{◌≡◌, true, [], ◌∷◌, sym, ap, ◌∙◌, subst}
use Rattle.sml_types.specs.Tree.{Tree, inst, occurs, Variable}
use Rattle.sml_unify.specs.Resolve.{renamed}
use Rattle.sml_unify.specs.Solved.{bound_at}
use Rattle.sml_unify.proofs.Meant.{meant_free, meant_bound}
use Rattle.infer_checks.specs.Ending.{Lists}
use Rattle.infer_checks.proofs.NumberFacts.{numbers_listed, one_variable}
use Rattle.infer_checks.proofs.numbers.variable_numbers.Goals as goal

pub returns-in_ok-numbers-in-Some : goal.returns-in_ok-numbers-in-Some
returns-in_ok-numbers-in-Some c =
    let u = c.args.unknowns.now in
    let e = sym (c.look.ensures ∙ ap (λ b. bound_at b c.args.var.num) c.items.ensures) ∙ c.in-Some.is in
    subst
    (λ (t : Tree). Lists (λ a. occurs a (inst (renamed c.args.renames.now) t) ≡ true) c.in_ok-numbers-in-Some.numbers.items)
    (sym (meant_bound u.types u.subst.bound c.requires.acyclic c.args.var c.in-Some.ty e))
    c.in_ok-numbers-in-Some.ensures

pub returns-in_ok-numbers-in-None : goal.returns-in_ok-numbers-in-None
returns-in_ok-numbers-in-None c =
    let u = c.args.unknowns.now in
    let e = sym (c.look.ensures ∙ ap (λ b. bound_at b c.args.var.num) c.items.ensures) ∙ c.in-None.is in
    subst
    (λ (t : Tree). Lists (λ a. occurs a (inst (renamed c.args.renames.now) t) ≡ true) c.in_ok-numbers-in-None.numbers.items)
    (sym (meant_free u.types u.subst.bound c.args.var e))
    (numbers_listed c.args.renames.now (Variable c.args.var) (c.args.var ∷ []) c.in_ok-numbers-in-None.numbers.items (one_variable c.args.var) c.in_ok-numbers-in-None.ensures)
