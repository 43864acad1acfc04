use Rattle.std.proofs.Common.{rules, ◌≡◌, [], List, sym, ap, ◌∙◌, subst}
use Rattle.sml_tree.specs.declared.bare.Node.{Node}
use Rattle.sml_tree.specs.BareParts.{IsNumbered}
use Rattle.infer_state.specs.Names.{names_bound}
use Rattle.infer_scopes.proofs.BoundFacts.{turn_keeps, none_found, all_found}
use Rattle.infer_scopes.proofs.bound.pattern_names.Goals as goal

pub turns-init : goal.turns-init
turns-init c = none_found (names_bound c.items-nodes.result.now) c.args.node c.new-found.result.items c.new-work.result.items c.push.new.self.items c.new-found.ensures.items c.new-work.ensures.items c.in_ok-push.ensures.items

pub turns-preserved : goal.turns-preserved
turns-preserved c =
    turn_keeps c.items-nodes.result.now c.in-Some.next c.turns.found.items c.turn.new.found.items c.turns.work.items c.pop.new.self.items c.turn.new.work.items (names_bound c.items-nodes.result.now c.args.node) (subst (λ (ns : List Node). IsNumbered ns) (sym c.items-nodes.ensures) c.requires) c.in_ok-turn.ensures c.in-Some.ensures.items c.turns.invariant

pub returns-in_default : goal.returns-in_default
returns-in_default c =
    let empty : c.turns.work.items ≡ [] = search rules in
    all_found (names_bound c.items-nodes.result.now) c.turns.found.items c.turns.work.items (names_bound c.items-nodes.result.now c.args.node) empty c.turns.invariant
    ∙ ap (λ (ns : List Node). names_bound ns c.args.node) c.items-nodes.ensures
