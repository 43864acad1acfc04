use Rattle.std.proofs.Common.{nat_eq, map, List, ap, ◌∙◌}
use Rattle.std.specs.List.{find}
use Rattle.sml_types.specs.declared.types.TyVar.{TyVar}
use Rattle.sml_unify.specs.Resolve.{renamed_as, led_to}
use Rattle.sml_unify.specs.Solved.{under}
use Rattle.infer_closing.specs.Closing.{meaning}
use Rattle.infer_checks.proofs.NumberFacts.{numbers_listed}
use Rattle.infer_checks.proofs.numbers.type_numbers.Goals as goal

pub returns : goal.returns
returns c =
    let u = c.args.unknowns.now in
    let rs = c.args.renames.now in
    numbers_listed rs (under u.types (meaning u) c.args.ty.0) c.in_ok-found.found.items c.in_ok-numbers.numbers.items c.in_ok-found.ensures
    (c.in_ok-numbers.ensures ∙ ap (λ (vs : List TyVar). map (λ v. (renamed_as v (led_to (find (λ r. nat_eq r.from v.num) rs))).num) vs) c.deref.ensures.value)
