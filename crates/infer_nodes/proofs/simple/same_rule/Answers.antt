use Rattle.std.proofs.Common.{sym, subst}
use Rattle.std.specs.Prelude.{Ok}
use Rattle.sml_tree.specs.declared.bare.Node.{Node}
use Rattle.infer_state.specs.Variables.{node_var, name_var}
use Rattle.infer_nodes.specs.Asked.{PosesRule}
use Rattle.infer_nodes.proofs.Ruled.{same_posed, two_posed}
use Rattle.infer_nodes.proofs.simple.same_rule.Goals as goal

pub returns-in_ok-pairs-in-Let : goal.returns-in_ok-pairs-in-Let
returns-in_ok-pairs-in-Let c d settled i next b s =
    subst
    (λ (n : Node). PosesRule c.args.bare.now d settled i n next c.args.types.now next c.args.types.now (Ok c.in_ok-pairs-in-Let.pairs))
    (sym c.in-Let.is)
    (λ abbreviations agree. same_posed d.tables.names next c.args.types.now c.in_ok-body-in-Let.body c.args.at (node_var c.args.bare.now c.in-Let.body) (node_var c.args.bare.now i) c.in_ok-pairs-in-Let.pairs b c.in_ok-body-in-Let.ensures s c.in_ok-pairs-in-Let.ensures)

pub returns-in_ok-pairs-in-PatVar : goal.returns-in_ok-pairs-in-PatVar
returns-in_ok-pairs-in-PatVar c d settled i next b s =
    subst
    (λ (n : Node). PosesRule c.args.bare.now d settled i n next c.args.types.now next c.args.types.now (Ok c.in_ok-pairs-in-PatVar.pairs))
    (sym c.in-PatVar.is)
    (λ abbreviations agree. same_posed d.tables.names next c.args.types.now c.in_ok-name-in-PatVar.name c.args.at (name_var c.args.bare.now c.in-PatVar.name.0) (node_var c.args.bare.now i) c.in_ok-pairs-in-PatVar.pairs b c.in_ok-name-in-PatVar.ensures s c.in_ok-pairs-in-PatVar.ensures)

pub returns-in_ok-pairs-in-PatAs : goal.returns-in_ok-pairs-in-PatAs
returns-in_ok-pairs-in-PatAs c d settled i next b s =
    subst
    (λ (n : Node). PosesRule c.args.bare.now d settled i n next c.args.types.now next c.args.types.now (Ok c.in_ok-pairs-in-PatAs.pairs))
    (sym c.in-PatAs.is)
    (λ abbreviations agree. two_posed d.tables.names next c.args.types.now c.in_ok-name-in-PatAs.name c.in_ok-pat-in-PatAs.pat c.args.at (name_var c.args.bare.now c.in-PatAs.name.0) (node_var c.args.bare.now c.in-PatAs.pat) (node_var c.args.bare.now i) c.in_ok-pairs-in-PatAs.pairs b c.in_ok-name-in-PatAs.ensures c.in_ok-pat-in-PatAs.ensures s c.in_ok-pairs-in-PatAs.ensures)
