use Rattle.std.proofs.Common.{sym, subst}
use Rattle.sml_tree.specs.declared.bare.Node.{Node}
use Rattle.sml_tree.specs.declared.bare.Node.TheVariants as node
use Rattle.infer_nodes.specs.Annotated.{TypedAsks}
use Rattle.infer_nodes.specs.Asked.{RuleOf, PosesRule}
use Rattle.infer_nodes.proofs.Phrases.{posing_as}
use Rattle.infer_nodes.proofs.annotated.typed_rule.Goals as goal

pub returns-in-Typed : goal.returns-in-Typed
returns-in-Typed c settled i next b s =
    subst
    (λ (n : Node). PosesRule c.args.bare.now c.args.declared.now settled i n next c.args.types.now next c.typed_pairs.new.types c.typed_pairs.result)
    (sym c.in-Typed.is)
    (λ abbreviations agree. posing_as c.args.declared.now.tables.names (TypedAsks c.args.bare.now c.args.declared.now.tables.names abbreviations i c.in-Typed.part c.in-Typed.exp) (RuleOf c.args.bare.now c.args.declared.now settled c.args.types.now abbreviations i (node.Typed c.in-Typed.part c.in-Typed.exp)) next c.args.types.now next c.typed_pairs.new.types c.typed_pairs.result (λ f a. (a.0, (a.1, a.2, a.3))) (λ f a. (a.0, a.1.0, a.1.1, a.1.2)) (c.typed_pairs.ensures i next b s abbreviations agree))

pub returns-in-PatTyped : goal.returns-in-PatTyped
returns-in-PatTyped c settled i next b s =
    subst
    (λ (n : Node). PosesRule c.args.bare.now c.args.declared.now settled i n next c.args.types.now next c.typed_pairs-in-PatTyped.new.types c.typed_pairs-in-PatTyped.result)
    (sym c.in-PatTyped.is)
    (λ abbreviations agree. posing_as c.args.declared.now.tables.names (TypedAsks c.args.bare.now c.args.declared.now.tables.names abbreviations i c.in-PatTyped.part c.in-PatTyped.exp) (RuleOf c.args.bare.now c.args.declared.now settled c.args.types.now abbreviations i (node.PatTyped c.in-PatTyped.part c.in-PatTyped.exp)) next c.args.types.now next c.typed_pairs-in-PatTyped.new.types c.typed_pairs-in-PatTyped.result (λ f a. (a.0, (a.1, a.2, a.3))) (λ f a. (a.0, a.1.0, a.1.1, a.1.2)) (c.typed_pairs-in-PatTyped.ensures i next b s abbreviations agree))
