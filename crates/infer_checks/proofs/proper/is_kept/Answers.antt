use Rattle.std.proofs.Common.{rules, ◌≡◌, None, false, IsTrue, sym, ap, ◌∙◌}
use Rattle.sml_unify.specs.Solved.{bound_at}
use Rattle.infer_checks.proofs.KeptFacts.{kept_of}
use Rattle.infer_checks.proofs.proper.is_kept.Goals as goal

pub returns : goal.returns
returns c ok =
    let u = c.args.unknowns.now in
    let free : c.look.result ≡ None = search rules in
    let alike : IsTrue c.are_alike.result = search rules in
    let out : c.is_in.result ≡ false = search rules in
    kept_of u.types u.subst.bound c.args.renames.now c.args.numbers.now c.args.var c.renamed-to.result
    (sym (c.look.ensures ∙ ap (λ b. bound_at b c.args.var.num) c.items.ensures) ∙ free)
    c.renamed-to.ensures
    (c.are_alike.ensures alike)
    (sym c.is_in.ensures ∙ out)
