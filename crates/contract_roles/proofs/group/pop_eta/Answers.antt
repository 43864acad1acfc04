use Rattle.std.proofs.Common.{rules, ◌≡◌, length, sym, ◌∙◌}
use Rattle.std.specs.Vec.{vec_len}
use Rattle.contract_roles.proofs.Fronts.{popped, not_popped}
use Rattle.contract_roles.proofs.group.pop_eta.Goals as goal

pub returns-in-Some : goal.returns-in-Some
returns-in-Some c fs h =
    let len : vec_len c.args.front.now ≡ length c.args.front.now.items = search rules in
    popped c.args.program.now.bodies fs c.args.function.now c.in-Some.field-0 (vec_len c.args.front.now) c.args.front.now.items c.pop.new.self.items (sym c.eta.ensures ∙ c.in-Some.is) h len c.pop.ensures.rest

pub returns-in_default : goal.returns-in_default
returns-in_default c fs h = not_popped c.args.program.now.bodies fs c.args.function.now c.args.front.now.items (sym c.eta.ensures ∙ c.in_default.is) h
