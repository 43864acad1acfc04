use Rattle.std.proofs.Common.{◌<◌, ◌∙◌, length, take, sym, subst}
use Rattle.std.specs.List.{AllByRecursion}
use Rattle.std.proofs.lemmas.List.{take_all}
use Rattle.closure_ir.specs.declared.body.Rule.{Rule}
use Rattle.simulation.specs.Blocks.{IsAmong}
use Rattle.place_bodies.specs.Steps.{at_of}
use Rattle.place_bodies.specs.Whole.{HasPlaces}
use Rattle.reg_spill.proofs.Begun.{bodies_of, begun_more, rule_at, rule_among, rules_more}
use Rattle.reg_spill.proofs.entries.begin_rules.Goals as goal

pub begin_part-requires : goal.begin_part-requires
begin_part-requires c =
    subst (λ n. c.rule-item.result.body < n) (sym c.loop-rule.invariant.len)
    (subst (λ (r : Rule). r.body < length c.args.entries.now.items) (sym c.rule-item.is) (rule_at (λ n. n < length c.args.entries.now.items) c.args.rules.now c.loop-rule.rule-index _ c.requires c.loop-rule-test.true))

pub loop-rule-preserved : goal.loop-rule-preserved
loop-rule-preserved c =
    let lives = c.args.lives.now in
    let at = at_of c.args.table.now in
    let r = c.rule-item.result in
    let rules = c.args.rules.now in
    let i = c.loop-rule.rule-index in
    let new = c.begin_part.new.entries.items in
    record {
      len = c.in_ok-begin_part.ensures.len ∙ c.loop-rule.invariant.len;
      parts =
          rules_more (λ n. HasPlaces lives new n at) rules i _ r c.loop-rule-test.true c.rule-item.is
          (begun_more lives c.loop-rule.entries.items new at r.body (bodies_of (take i rules)) c.in_ok-begin_part.ensures.here c.in_ok-begin_part.ensures.others c.loop-rule.invariant.parts) c.in_ok-begin_part.ensures.here;
      others =
          λ d n. c.in_ok-begin_part.ensures.others d (λ e. n (subst (λ k. IsAmong k (bodies_of rules)) (sym e) (rule_among rules i _ r c.loop-rule-test.true c.rule-item.is))) ∙ c.loop-rule.invariant.others d n;
    }

pub returns-clause-parts : goal.returns-clause-parts
returns-clause-parts c =
    subst (λ rs. AllByRecursion (λ n. HasPlaces c.args.lives.now c.loop-rule.entries.items n (at_of c.args.table.now)) (bodies_of rs)) (take_all c.loop-rule.rule-index c.args.rules.now c.loop-rule-test.false) c.loop-rule.invariant.parts
