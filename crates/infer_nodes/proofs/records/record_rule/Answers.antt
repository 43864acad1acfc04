use Rattle.std.proofs.Common.{rules, List, sym, subst}
use Rattle.std.specs.Prelude.{Ok}
use Rattle.sml_tree.specs.declared.bare.Field.{Field}
use Rattle.sml_tree.specs.declared.bare.Node.{Node}
use Rattle.sml_types.specs.Forms.{AreForms}
use Rattle.sml_types.specs.Library.{name_types}
use Rattle.infer_state.specs.Fits.{settled_at}
use Rattle.infer_state.specs.Variables.{node_var}
use Rattle.infer_nodes.specs.Asked.{PosesRule}
use Rattle.infer_nodes.specs.Records.{IsRowMade}
use Rattle.infer_nodes.proofs.Rows.{record_posed}
use Rattle.infer_nodes.proofs.records.record_rule.Goals as goal

pub returns-in_ok-pairs-in-Record : goal.returns-in_ok-pairs-in-Record
returns-in_ok-pairs-in-Record c d settled i next b s =
    let forms : AreForms c.args.types.now = search rules in
    subst
    (λ (n : Node). PosesRule c.args.bare.now d settled i n next c.args.types.now next c.record_type.new.types (Ok c.in_ok-pairs-in-Record.pairs))
    (sym c.in-Record.is)
    (λ abbreviations agree. record_posed c.args.bare.now (name_types c.args.types.now d.tables.names) d.tables.names abbreviations (settled_at c.args.types.now settled) c.in-Record.fields next c.args.types.now c.record_type.new.types c.args.at c.in_ok-made-in-Record.made (node_var c.args.bare.now i) c.in_ok-pairs-in-Record.pairs forms b s c.in_ok-pairs-in-Record.ensures
    (subst (λ (fs : List Field). IsRowMade c.args.bare.now fs c.args.types.now c.record_type.new.types c.in_ok-made-in-Record.made) c.items.ensures c.in_ok-made-in-Record.ensures))

pub returns-in_ok-pairs-in-PatRecord : goal.returns-in_ok-pairs-in-PatRecord
returns-in_ok-pairs-in-PatRecord c d settled i next b s =
    let forms : AreForms c.args.types.now = search rules in
    subst
    (λ (n : Node). PosesRule c.args.bare.now d settled i n next c.args.types.now next c.record_type-in-PatRecord.new.types (Ok c.in_ok-pairs-in-PatRecord.pairs))
    (sym c.in-PatRecord.is)
    (λ abbreviations agree. record_posed c.args.bare.now (name_types c.args.types.now d.tables.names) d.tables.names abbreviations (settled_at c.args.types.now settled) c.in-PatRecord.fields next c.args.types.now c.record_type-in-PatRecord.new.types c.args.at c.in_ok-made-in-PatRecord.made (node_var c.args.bare.now i) c.in_ok-pairs-in-PatRecord.pairs forms b s c.in_ok-pairs-in-PatRecord.ensures
    (subst (λ (fs : List Field). IsRowMade c.args.bare.now fs c.args.types.now c.record_type-in-PatRecord.new.types c.in_ok-made-in-PatRecord.made) c.items-in-PatRecord.ensures c.in_ok-made-in-PatRecord.ensures))
