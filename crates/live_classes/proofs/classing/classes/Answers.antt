use Rattle.std.proofs.Common.{◌<◌, sym, subst, ap, ◌∙◌}
use Rattle.std.specs.List.{AllByRecursion}
use Rattle.cps_ir.specs.Program.{code_at}
use Rattle.cps_ir.specs.Free.{bound}
use Rattle.sml_tree.specs.Sets.{row_at}
use Rattle.live_classes.specs.Keys.{key_at, classes_by}
use Rattle.live_classes.proofs.Among.{classes_found}
use Rattle.live_classes.proofs.classing.classes.Goals as goal

pub returns : goal.returns
returns c =
    let code = code_at c.args.program.now.bodies 0 in
    c.from_vec.ensures ∙ c.in_ok-found.ensures
    ∙ ap (λ hs. classes_by (key_at hs c.deref-2.result.now) (row_at c.deref-2.result.now) c.deref-3.result.now c.deref-3.result.now) c.deref.ensures.value
    ∙ ap (λ us. classes_by (key_at c.in_ok-homes.homes.items us) (row_at us) c.deref-3.result.now c.deref-3.result.now) c.deref-2.ensures.value
    ∙ ap (λ vs. classes_by (key_at c.in_ok-homes.homes.items c.in_ok-users.users.items) (row_at c.in_ok-users.users.items) vs vs) c.deref-3.ensures.value
    ∙ classes_found code c.variables-n.result c.items.result.now c.items-bindings.result.now c.in_ok-homes.homes.items c.in_ok-users.users.items c.in_ok-variables.variables.items (c.items.ensures ∙ c.requires.layouts) (c.items-bindings.ensures ∙ c.requires.bindings) c.in_ok-homes.ensures c.in_ok-users.ensures c.in_ok-variables.ensures
    (subst (λ n. AllByRecursion (λ x. x < n) (bound code)) (sym c.variables-n.ensures) c.bodies.ensures.kept.below)
