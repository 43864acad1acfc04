use Rattle.std.proofs.Common.{rules, ◌≡◌, suc, ◌-◌, ◌<◌, ◌∙◌, length, refl, ap, sym, subst, arith, false}
use Rattle.infer_parts.specs.Plain.{plain_node, IsPlainFrom}
use Rattle.infer_parts.proofs.PlainSteps.{stepped, started, here}
use Rattle.infer_parts.proofs.plain.non_expansive.Goals as goal

pub nodes-init : goal.nodes-init
nodes-init c = (omega arith, started c.args.nodes.now c.resize.new.self.items (search rules) (λ k l. c.in_ok-resize.ensures.by_index.1 k false refl (let e = c.new-table.ensures.len in omega arith) l))

pub nodes-preserved : goal.nodes-preserved
nodes-preserved c =
    let inv = c.nodes.invariant in
    let some = c.nodes-test.true in
    let next : suc (c.nodes.i - 1) ≡ c.nodes.i = omega arith in
    let inside : c.nodes.i - 1 < length c.args.nodes.now = let a = inv.0 in omega arith in (
      let a = inv.0 in omega arith,
      stepped
          c.args.nodes.now
          c.nodes.table.items
          (c.nodes.i - 1)
          c.index-nodes-i.result
          c.plain_node-plain.result
          (here c.args.nodes.now (c.nodes.i - 1) c.index-nodes-i.result inside c.index-nodes-i.is)
          inside
          (c.plain_node-plain.ensures ∙ ap (λ t. plain_node c.args.nodes.now t c.index-nodes-i.result) c.deref.ensures.value)
          (subst (λ i. IsPlainFrom c.args.nodes.now i c.nodes.table.items) (sym next) inv.1),
    )
