use Rattle.std.proofs.Common.{◌≡◌, ◌<◌, List, length, map, sym, ap, ◌∙◌, subst}
use Rattle.sml_tree.specs.declared.bare.TypeField.{TypeField}
use Rattle.sml_types.specs.declared.types.Ty.{Ty}
use Rattle.sml_types.specs.Tree.{Tree, Variable, inst}
use Rattle.sml_types.specs.Forms.{tree}
use Rattle.sml_types.specs.TypeExps.{IsRecord, labelled}
use Rattle.infer_parts.specs.Written.{IsTypeRow, AreThere}
use Rattle.infer_nodes.specs.Records.{as_written, field_vars, AreFieldTys}
use Rattle.infer_nodes.proofs.Rows.{tys_count, tys_there, tys_trees, row_made}
use Rattle.infer_nodes.proofs.records.record_type.Goals as goal

pub record-requires-clause-count : goal.record-requires-clause-count
record-requires-clause-count c =
    ap length c.deref-3.ensures.value
    ∙ tys_count c.args.bare.now c.args.types.now c.args.fields.now c.in_ok-tys.tys.items c.in_ok-tys.ensures
    ∙ sym (ap length (c.deref-2.ensures.value ∙ c.in_ok-written.ensures))

pub record-requires-clause-there : goal.record-requires-clause-there
record-requires-clause-there c =
    subst (AreThere c.args.types.now) (sym c.deref-3.ensures.value) (tys_there c.args.bare.now c.args.types.now c.args.fields.now c.in_ok-tys.tys.items c.in_ok-tys.ensures)

pub returns : goal.returns
returns c =
    let row : IsTypeRow (map as_written c.args.fields.now) = subst IsTypeRow (c.deref.ensures.value ∙ c.in_ok-written.ensures) (c.in_ok-is_row.ensures c.if-not-is_row.false) in
    let tys : AreFieldTys c.args.bare.now c.args.types.now c.args.fields.now c.deref-3.result.now = subst (λ (ts : List Ty). AreFieldTys c.args.bare.now c.args.types.now c.args.fields.now ts) (sym c.deref-3.ensures.value) c.in_ok-tys.ensures in
    let got = c.in_ok-made.ensures.ok Variable (field_vars c.args.bare.now c.args.fields.now) (tys_trees c.args.bare.now c.args.types.now c.args.fields.now c.deref-3.result.now tys) in
    row_made c.args.bare.now c.args.fields.now c.args.types.now c.record.new.types c.in_ok-made.made row c.in_ok-made.ensures.longer c.in_ok-made.ensures.vars
    (subst (λ (ws : List TypeField). (c.in_ok-made.made.0 < length c.record.new.types) × (r : Tree) × IsRecord (labelled ws (field_vars c.args.bare.now c.args.fields.now)) r × (tree c.record.new.types c.in_ok-made.made.0 ≡ inst Variable r)) (c.deref-2.ensures.value ∙ c.in_ok-written.ensures) got)
