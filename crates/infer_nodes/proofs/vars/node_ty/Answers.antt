use Rattle.std.proofs.Common.{rules, ◌<◌, ◌+◌, length, arith}
use Rattle.sml_types.specs.Forms.{AreForms}
use Rattle.infer_state.specs.Variables.{node_var}
use Rattle.infer_nodes.proofs.Making.{stands_at}
use Rattle.infer_nodes.proofs.vars.node_ty.Goals as goal

pub returns : goal.returns
returns c =
    let forms : AreForms c.args.types.now = search rules in
    let there : c.args.node < length c.args.bare.now.nodes = search rules in
    stands_at c.args.types.now (record { 0 = c.args.starts.nodes + c.args.node }) (node_var c.args.bare.now c.args.node) forms (c.requires.laid.of_nodes c.args.node there)
