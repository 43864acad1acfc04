use Rattle.std.proofs.Common.{rules, refl, ◌≡◌, Some, sym, ◌∙◌, []}
use Rattle.sml_types.specs.Forms.{AreForms}
use Rattle.sml_types.specs.Library.{name_ty}
use Rattle.infer_state.specs.Variables.{node_var}
use Rattle.infer_nodes.specs.Asked.{constant_of}
use Rattle.infer_nodes.proofs.Ruled.{posed_closed, constant_posed}
use Rattle.infer_nodes.proofs.simple.constant_rule.Goals as goal

pub returns : goal.returns
returns c p d settled i next b s =
    let forms : AreForms c.args.types.now = search rules in
    let known : constant_of c.args.node.now ≡ Some c.in-Some.number = sym c.constant_of.ensures ∙ c.in-Some.is in
    constant_posed p d settled i c.args.node.now c.in-Some.number next c.args.types.now c.constant.new.types c.in_ok-pairs.pairs known
    (λ names. posed_closed names (name_ty c.in-Some.number []) next c.args.types.now c.constant.new.types c.args.at c.in_ok-made.made (node_var p i) c.in_ok-pairs.pairs (λ f. refl) forms b s c.in_ok-pairs.ensures c.in_ok-made.ensures)
