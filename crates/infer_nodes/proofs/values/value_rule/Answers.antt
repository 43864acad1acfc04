use Rattle.std.proofs.Common.{◌≡◌, List, sym, subst}
use Rattle.std.specs.Prelude.{Ok}
use Rattle.std.specs.List.{AllByRecursion}
use Rattle.sml_tree.specs.declared.bare.Binding.{Binding}
use Rattle.sml_tree.specs.declared.bare.RecBinding.{RecBinding}
use Rattle.sml_tree.specs.declared.bare.Node.{Node}
use Rattle.infer_state.specs.Variables.{node_var, name_var}
use Rattle.infer_nodes.specs.Posed.{Says}
use Rattle.infer_nodes.specs.Asked.{PosesRule}
use Rattle.infer_nodes.proofs.Posing.{posed_says}
use Rattle.infer_nodes.proofs.values.value_rule.Goals as goal

pub returns-in_ok-pairs-in-Val : goal.returns-in_ok-pairs-in-Val
returns-in_ok-pairs-in-Val c d settled i next b =
    subst
    (λ (n : Node). PosesRule c.args.bare.now d settled i n next c.args.types.now next c.args.types.now (Ok c.in_ok-pairs-in-Val.pairs))
    (sym c.in-Val.is)
    (λ abbreviations agree. posed_says d.tables.names next c.args.types.now (λ f. AllByRecursion (λ (x : Binding). f (node_var c.args.bare.now x.right) ≡ f (node_var c.args.bare.now x.pat)) c.in-Val.bindings) c.in_ok-pairs-in-Val.pairs b (subst (λ (bs : List Binding). Says c.args.types.now (λ f. AllByRecursion (λ (x : Binding). f (node_var c.args.bare.now x.right) ≡ f (node_var c.args.bare.now x.pat)) bs) c.in_ok-pairs-in-Val.pairs) c.items.ensures c.in_ok-pairs-in-Val.ensures))

pub returns-in_ok-pairs-in-ValRec : goal.returns-in_ok-pairs-in-ValRec
returns-in_ok-pairs-in-ValRec c d settled i next b =
    subst
    (λ (n : Node). PosesRule c.args.bare.now d settled i n next c.args.types.now next c.args.types.now (Ok c.in_ok-pairs-in-ValRec.pairs))
    (sym c.in-ValRec.is)
    (λ abbreviations agree. posed_says d.tables.names next c.args.types.now (λ f. AllByRecursion (λ (x : RecBinding). f (name_var c.args.bare.now x.name.0) ≡ f (node_var c.args.bare.now x.right)) c.in-ValRec.bindings) c.in_ok-pairs-in-ValRec.pairs b (subst (λ (bs : List RecBinding). Says c.args.types.now (λ f. AllByRecursion (λ (x : RecBinding). f (name_var c.args.bare.now x.name.0) ≡ f (node_var c.args.bare.now x.right)) bs) c.in_ok-pairs-in-ValRec.pairs) c.items-in-ValRec.ensures c.in_ok-pairs-in-ValRec.ensures))
