use Rattle.std.proofs.Common.{rules, ◌<◌, ◌+◌, length, arith}
use Rattle.sml_types.specs.Forms.{AreForms}
use Rattle.infer_state.specs.Variables.{name_var}
use Rattle.infer_nodes.proofs.Making.{stands_at}
use Rattle.infer_nodes.proofs.vars.name_ty.Goals as goal

pub returns : goal.returns
returns c =
    let forms : AreForms c.args.types.now = search rules in
    let there : c.args.name.0 < length c.args.bare.now.names = search rules in
    stands_at c.args.types.now (record { 0 = c.args.starts.names + c.args.name.0 }) (name_var c.args.bare.now c.args.name.0) forms (c.requires.laid.of_names c.args.name.0 there)
