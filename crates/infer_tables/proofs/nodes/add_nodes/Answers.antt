use Rattle.std.proofs.Common.{◌≡◌, Some, None, sym, ap, ◌∙◌, take, arith, length}
use Rattle.std.specs.List.{AllByRecursion}
use Rattle.std.proofs.lemmas.Option.{slice_get-get_or}
use Rattle.sml_types.specs.Typing.{made_by, made_below}
use Rattle.infer_tables.specs.Known.{Asks}
use Rattle.infer_tables.proofs.StepFacts.{no_step, answer_is}
use Rattle.infer_tables.proofs.NodeFacts.{node_more, nodes_done, node_refused}
use Rattle.infer_tables.proofs.nodes.add_nodes.Goals as goal

pub nodes-init : goal.nodes-init
nodes-init c = no_step c.args.bare.now (λ t. AllByRecursion (Asks c.args.bare.now t) (take 0 c.items-nodes.result.now)) c.args.types.now c.args.known c.requires.scope (λ t. tt)

pub nodes-preserved : goal.nodes-preserved
nodes-preserved c =
    let p = c.args.bare.now in
    let hi = c.nodes-test.true in
    let le = c.end_of-end.ensures.below in
    let nodes = c.items-nodes.result.now in
    let x = c.index-nodes-at.result in
    let q = slice_get-get_or nodes c.nodes.at x (omega arith) ∙ ap Some (sym c.index-nodes-at.is) in
    node_more p nodes c.nodes.at x c.args.types.now c.nodes.types c.add_node.new.types c.args.known c.nodes.known c.in-Some.next q c.nodes.invariant (answer_is p (λ t. Asks p t x) (length (made_by (Some x))) c.nodes.types c.add_node.new.types c.nodes.known c.in_ok-next.field-0 (Some c.in-Some.next) c.in-Some.is c.in_ok-next.ensures)

pub returns-in-None : goal.returns-in-None
returns-in-None c =
    let p = c.args.bare.now in
    let hi = c.nodes-test.true in
    let le = c.end_of-end.ensures.below in
    let nodes = c.items-nodes.result.now in
    let x = c.index-nodes-at.result in
    let q = slice_get-get_or nodes c.nodes.at x (omega arith) ∙ ap Some (sym c.index-nodes-at.is) in
    node_refused p nodes p.nodes c.nodes.at c.end_of-end.result c.args.count x (length (made_below nodes c.nodes.at)) (length (made_by (Some x))) c.args.types.now c.nodes.types c.add_node.new.types c.args.known c.nodes.known c.items-nodes.ensures c.end_of-end.ensures.same (omega arith) q c.nodes.invariant (answer_is p (λ t. Asks p t x) (length (made_by (Some x))) c.nodes.types c.add_node.new.types c.nodes.known c.in_ok-next.field-0 None c.in-None.is c.in_ok-next.ensures)

pub returns : goal.returns
returns c =
    let lo = c.nodes-test.false in
    let le = c.nodes.auto.at-end in
    let nodes = c.items-nodes.result.now in
    let place : c.nodes.at ≡ c.end_of-end.result = omega arith in
    nodes_done c.args.bare.now nodes c.args.bare.now.nodes c.nodes.at c.args.count c.args.types.now c.nodes.types c.args.known c.nodes.known c.items-nodes.ensures (ap (λ i. take i nodes) place ∙ c.end_of-end.ensures.same) c.nodes.invariant
