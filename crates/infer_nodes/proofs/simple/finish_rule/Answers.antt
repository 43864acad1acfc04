use Rattle.std.proofs.Common.{rules, refl, sym, subst}
use Rattle.std.specs.Prelude.{Ok}
use Rattle.sml_tree.specs.declared.bare.Node.{Node}
use Rattle.sml_types.specs.Forms.{AreForms}
use Rattle.sml_types.specs.Library.{unit_ty}
use Rattle.infer_state.specs.Variables.{node_var}
use Rattle.infer_nodes.specs.Asked.{PosesRule}
use Rattle.infer_nodes.proofs.Ruled.{posed_closed}
use Rattle.infer_nodes.proofs.simple.finish_rule.Goals as goal

pub returns : goal.returns
returns c p d settled i next b s =
    let forms : AreForms c.args.types.now = search rules in
    subst
    (λ (n : Node). PosesRule p d settled i n next c.args.types.now next c.unit.new.types (Ok c.in_ok-pairs.pairs))
    (sym c.in-Finish.is)
    (λ abbreviations agree. posed_closed d.tables.names unit_ty next c.args.types.now c.unit.new.types c.args.at c.in_ok-made.made (node_var p i) c.in_ok-pairs.pairs (λ f. refl) forms b s c.in_ok-pairs.ensures c.in_ok-made.ensures)
