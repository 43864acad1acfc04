use Rattle.std.proofs.Common.{rules, ◌≡◌, true, false, sym, subst}
use Rattle.std.specs.Prelude.{Ok, Err}
use Rattle.sml_tree.specs.declared.bare.Node.{Node}
use Rattle.sml_types.specs.Typing.{takes_argument}
use Rattle.infer_state.specs.declared.failure.Failure.TheVariants.{Untypable}
use Rattle.infer_state.specs.Variables.{node_var}
use Rattle.infer_nodes.specs.Asked.{PosesRule}
use Rattle.infer_nodes.proofs.Constructed.{pat_app_rule, pat_app_refused}
use Rattle.infer_nodes.proofs.constructor.pat_app_rule.Goals as goal

pub returns-then-not-takes_argument : goal.returns-then-not-takes_argument
returns-then-not-takes_argument c settled i s =
    let takes : takes_argument c.in-PatApp.con ≡ false = search rules in
    subst
    (λ (n : Node). PosesRule c.args.bare.now c.args.declared.now settled i n c.args.next.now c.args.types.now c.args.next.now c.args.types.now (Err Untypable))
    (sym c.in-PatApp.is)
    (pat_app_refused c.args.bare.now c.args.declared.now settled i c.args.next.now c.args.types.now c.args.next.now c.args.types.now c.in-PatApp.con c.in-PatApp.pat takes)

pub returns : goal.returns
returns c settled i s =
    let takes : takes_argument c.in-PatApp.con ≡ true = search rules in
    subst
    (λ (n : Node). PosesRule c.args.bare.now c.args.declared.now settled i n c.args.next.now c.args.types.now c.constructs.new.next c.constructs.new.types (Ok c.in_ok-pairs.pairs))
    (sym c.in-PatApp.is)
    (pat_app_rule c.args.bare.now c.args.declared.now settled i c.args.next.now c.args.types.now c.constructs.new.next c.constructs.new.types c.in_ok-pairs.pairs c.in-PatApp.con c.in-PatApp.pat takes (c.in_ok-pairs.ensures (node_var c.args.bare.now c.in-PatApp.pat) (node_var c.args.bare.now i) c.in_ok-from.ensures s))
