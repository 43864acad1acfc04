use Rattle.std.proofs.Common.{rules, ◌≤◌, length, subst}
use Rattle.sml_tree.specs.declared.bare.Field.{Field}
use Rattle.infer_state.specs.Variables.{node_var}
use Rattle.infer_nodes.specs.Posed.{StandsFor}
use Rattle.infer_nodes.proofs.Rows.{fields_more, fields_all}
use Rattle.infer_nodes.proofs.records.field_tys.Goals as goal

pub fields-preserved : goal.fields-preserved
fields-preserved c =
    fields_more c.args.bare.now c.args.types.now c.args.fields.now c.fields.field-index _ c.fields.tys.items c.push.new.self.items c.in_ok-ty.ty c.fields-test.true c.in_ok-push.ensures.items c.fields.invariant
    (subst (λ (f : Field). StandsFor c.args.types.now c.in_ok-ty.ty (node_var c.args.bare.now f.node)) c.field-item.is c.in_ok-ty.ensures)

pub returns : goal.returns
returns c =
    let end : length c.args.fields.now ≤ c.fields.field-index = search rules in
    fields_all c.args.bare.now c.args.types.now c.args.fields.now c.fields.field-index c.fields.tys.items end c.fields.invariant
