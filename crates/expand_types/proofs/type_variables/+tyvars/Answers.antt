use Rattle.std.proofs.Common.{◌≡◌, refl, rules, arith, sym, ap}
use Rattle.std.proofs.lemmas.Result.{on_ok_weaker}
use Rattle.sml_tree.specs.declared.tree_node.TreeNode.TheVariants as node
use Rattle.sml_tree.specs.Parts.{parts_of}
use Rattle.sml_expansion.specs.Sources.{node_at}
use Rattle.sml_expansion.specs.TypeVariables.{tyvars}
use Rattle.expand_types.proofs.FlowLemmas.{flows_on}
use Rattle.expand_types.proofs.VariableLemmas.{in_tyvar}
use Rattle.expand_types.proofs.type_variables.+tyvars.Goals as goal

pub push_sequence-returns-in_default : goal.push_sequence-returns-in_default
push_sequence-returns-in_default t c =
    let src = c.args.parsed.now in
    on_ok_weaker c.push_tyvar.result (λ h. in_tyvar src c.args.at _ _ c.node.result c.place.result c.node.ensures c.in_default.not-TyVarSeq c.requires c.place.ensures (h src.names)) c.push_tyvar.ensures

pub push_tyvars-loop-first-preserved : goal.push_tyvars-loop-first-preserved
push_tyvars-loop-first-preserved t c =
    let src = c.args.parsed.now in
    let is : node.MoreTyVars ≡ node_at src c.loop-first.rest = search rules in
    let two_parts : parts_of (node_at src c.loop-first.rest) ≡ 2 = ap parts_of (sym is) in
    let below = c.two-first.ensures.below two_parts in
    (omega (arith, below.1, c.loop-first.invariant.0), flows_on src (tyvars src.names) c.args.at c.loop-first.rest _ _ _ _ _ node.MoreTyVars c.loop-first.invariant.1 is refl (λ p a b. refl) c.two-first.ensures.parts c.in_ok-push_tyvars.ensures)
