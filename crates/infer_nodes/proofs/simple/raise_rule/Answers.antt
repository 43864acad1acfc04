use Rattle.std.proofs.Common.{rules, refl, sym, subst}
use Rattle.std.specs.Prelude.{Ok}
use Rattle.sml_tree.specs.declared.bare.Node.{Node}
use Rattle.sml_types.specs.Forms.{AreForms}
use Rattle.sml_types.specs.Library.{exn_ty}
use Rattle.infer_state.specs.Variables.{node_var}
use Rattle.infer_nodes.specs.Asked.{PosesRule}
use Rattle.infer_nodes.proofs.Ruled.{posed_closed}
use Rattle.infer_nodes.proofs.simple.raise_rule.Goals as goal

pub returns : goal.returns
returns c d settled i next b =
    let forms : AreForms c.args.types.now = search rules in
    subst
    (λ (n : Node). PosesRule c.args.bare.now d settled i n next c.args.types.now next c.constant.new.types (Ok c.in_ok-pairs.pairs))
    (sym c.in-Raise.is)
    (λ abbreviations agree. posed_closed d.tables.names exn_ty next c.args.types.now c.constant.new.types c.in_ok-exn.exn c.in_ok-made.made (node_var c.args.bare.now c.in-Raise.exn) c.in_ok-pairs.pairs (λ f. refl) forms b c.in_ok-exn.ensures c.in_ok-pairs.ensures c.in_ok-made.ensures)
