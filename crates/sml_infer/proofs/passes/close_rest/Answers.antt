use Rattle.std.proofs.Common.{◌≡◌, suc, arith, refl, sym, subst, ◌∙◌, ◌+◌, ℕ}
use Rattle.infer_scopes.specs.Prefix.{IsPrefix}
use Rattle.sml_infer.specs.Going.{now}
use Rattle.sml_infer.proofs.PassFacts.{keeps_same, keeps_then, going_as}
use Rattle.sml_infer.proofs.passes.close_rest.Goals as goal

pub nodes-init : goal.nodes-init
nodes-init c = record { count = refl; done = c.requires.done; going = c.requires.going; kept = keeps_same (now c.args.work.now) }

pub reach-requires-clause-prefix : goal.reach-requires-clause-prefix
reach-requires-clause-prefix c = subst (λ (n : ℕ). IsPrefix c.args.bare.now.nodes n) (sym c.nodes.invariant.count) c.requires.prefix

pub reach-requires-clause-going : goal.reach-requires-clause-going
reach-requires-clause-going c =
    let inv = c.nodes.invariant in
    let first = c.args.work.now.count in
    going_as c.args.bare.now c.args.declared.now (now c.nodes.work) first first c.nodes.node c.nodes.work.count c.nodes.work.done c.nodes.node (sym inv.count) (sym inv.done) refl inv.going

pub nodes-preserved : goal.nodes-preserved
nodes-preserved c =
    let inv = c.nodes.invariant in
    let e = c.in_ok-reach.ensures in
    let before = c.nodes.work in
    let after = c.reach.new.work in
    let first = c.args.work.now.count in
    record {
      count = c.reach.ensures.count ∙ inv.count;
      done = c.reach.ensures.done ∙ inv.done;
      going = going_as c.args.bare.now c.args.declared.now (now after) before.count before.done (suc c.nodes.node) first first (c.nodes.node + 1) inv.count inv.done (omega arith) e.going;
      kept = keeps_then (now c.args.work.now) (now before) (now after) inv.kept e.kept;
    }

pub returns-clause-going : goal.returns-clause-going
returns-clause-going c =
    let inv = c.nodes.invariant in
    let first = c.args.work.now.count in
    let past = c.nodes-test.false in
    let most = c.nodes.auto.node-end c.requires.within in
    let last : c.nodes.node ≡ c.args.end = omega (arith, past, most) in
    going_as c.args.bare.now c.args.declared.now (now c.nodes.work) first first c.nodes.node first first c.args.end refl refl last inv.going
