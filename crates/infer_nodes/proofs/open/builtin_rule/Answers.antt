use Rattle.std.proofs.Common.{rules, sym, subst}
use Rattle.std.specs.Prelude.{Ok}
use Rattle.sml_tree.specs.declared.bare.Node.{Node}
use Rattle.sml_types.specs.Forms.{AreForms}
use Rattle.sml_types.specs.Poly.{IsInstance}
use Rattle.sml_types.specs.Library.{primitive_poly}
use Rattle.infer_state.specs.Variables.{node_var}
use Rattle.infer_nodes.specs.Asked.{PosesRule}
use Rattle.infer_nodes.proofs.Ruled.{posed_var}
use Rattle.infer_nodes.proofs.open.builtin_rule.Goals as goal

pub returns : goal.returns
returns c p d settled i s =
    let forms : AreForms c.args.types.now = search rules in
    subst
    (λ (n : Node). PosesRule p d settled i n c.args.next.now c.args.types.now c.primitive_type.new.next c.primitive_type.new.types (Ok c.in_ok-pairs.pairs))
    (sym c.in-Builtin.is)
    (λ abbreviations agree. posed_var d.tables.names (λ f u. IsInstance d.tables.names (primitive_poly c.in-Builtin.primitive) u) c.args.next.now c.args.types.now c.primitive_type.new.next c.primitive_type.new.types c.args.at c.in_ok-made.made (node_var p i) c.in_ok-pairs.pairs forms c.requires.below s c.in_ok-pairs.ensures (c.in_ok-made.ensures d.tables.names))
