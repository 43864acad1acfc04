use Rattle.std.proofs.Common.{rules, Option, Some, None, sym, ap, subst}
use Rattle.std.specs.Prelude.{Ok}
use Rattle.sml_tree.specs.declared.bare.Node.{Node}
use Rattle.sml_types.specs.Forms.{AreForms}
use Rattle.sml_types.specs.Schemes.{scheme_poly}
use Rattle.infer_state.specs.declared.settled.Settled.{Settled}
use Rattle.infer_state.specs.Rules.{IsCopy}
use Rattle.infer_state.specs.Variables.{node_var, name_var}
use Rattle.infer_state.specs.Fits.{joined_settled, settled_poly}
use Rattle.infer_nodes.specs.Asked.{PosesRule}
use Rattle.infer_nodes.proofs.Ruled.{posed_var, same_posed, named_posed, settled_is}
use Rattle.infer_nodes.proofs.open.name_rule.Goals as goal

pub settled_type-requires-clause-there : goal.settled_type-requires-clause-there
settled_type-requires-clause-there c =
    c.requires.settled c.in-Var.name.0 c.in-Some.known (ap joined_settled (settled_is c.args.types.now c.args.settled.now c.in-Var.name.0 c.index-settled-name.result (Some c.in-Some.known) c.if-name-settled.false c.index-settled-name.is c.in-Some.is))

pub returns-in_ok-pairs-in-Some : goal.returns-in_ok-pairs-in-Some
returns-in_ok-pairs-in-Some c d i s =
    let forms : AreForms c.args.types.now = search rules in
    let here = settled_is c.args.types.now c.args.settled.now c.in-Var.name.0 c.index-settled-name.result (Some c.in-Some.known) c.if-name-settled.false c.index-settled-name.is c.in-Some.is in
    subst
    (λ (n : Node). PosesRule c.args.bare.now d c.args.settled.now i n c.args.next.now c.args.types.now c.settled_type.new.next c.settled_type.new.types (Ok c.in_ok-pairs-in-Some.pairs))
    (sym c.in-Var.is)
    (λ abbreviations agree. named_posed c.args.bare.now d c.args.settled.now i c.in-Var.name c.args.next.now c.args.types.now c.settled_type.new.next c.settled_type.new.types c.in_ok-pairs-in-Some.pairs abbreviations (Some (scheme_poly c.args.types.now c.in-Some.known.scheme)) (ap (λ (o : Option (Option Settled)). settled_poly c.args.types.now (joined_settled o)) here)
    (posed_var d.tables.names (λ f u. IsCopy d.tables.names f (scheme_poly c.args.types.now c.in-Some.known.scheme) u) c.args.next.now c.args.types.now c.settled_type.new.next c.settled_type.new.types c.args.at c.in_ok-made-in-Some.made (node_var c.args.bare.now i) c.in_ok-pairs-in-Some.pairs forms c.requires.below s c.in_ok-pairs-in-Some.ensures (c.in_ok-made-in-Some.ensures d.tables.names)))

pub returns-in_ok-pairs-in-None : goal.returns-in_ok-pairs-in-None
returns-in_ok-pairs-in-None c d i s =
    let here = settled_is c.args.types.now c.args.settled.now c.in-Var.name.0 c.index-settled-name.result None c.if-name-settled.false c.index-settled-name.is c.in-None.is in
    subst
    (λ (n : Node). PosesRule c.args.bare.now d c.args.settled.now i n c.args.next.now c.args.types.now c.args.next.now c.args.types.now (Ok c.in_ok-pairs-in-None.pairs))
    (sym c.in-Var.is)
    (λ abbreviations agree. named_posed c.args.bare.now d c.args.settled.now i c.in-Var.name c.args.next.now c.args.types.now c.args.next.now c.args.types.now c.in_ok-pairs-in-None.pairs abbreviations None (ap (λ (o : Option (Option Settled)). settled_poly c.args.types.now (joined_settled o)) here)
    (same_posed d.tables.names c.args.next.now c.args.types.now c.args.at c.in_ok-own-in-None.own (node_var c.args.bare.now i) (name_var c.args.bare.now c.in-Var.name.0) c.in_ok-pairs-in-None.pairs c.requires.below s c.in_ok-own-in-None.ensures c.in_ok-pairs-in-None.ensures))
