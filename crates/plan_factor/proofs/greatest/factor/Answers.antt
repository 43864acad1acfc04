use Rattle.std.proofs.Common.{◌≡◌, length, drop, sym, subst, ap, ◌∙◌, arith}
use Rattle.std.proofs.lemmas.List.{drop_all}
use Rattle.cps_ir.specs.Program.{code_at}
use Rattle.cps_ir.specs.Slim.{layouts}
use Rattle.close_laws.specs.Layouts.{facts}
use Rattle.close_laws.specs.Close.{labelled, points_of}
use Rattle.close_laws.specs.Plan.{greatest}
use Rattle.plan_factor.specs.Groups.{grouped, AreAscending, best_in}
use Rattle.plan_factor.proofs.Best.{all_ascend, best_back, factor_is}
use Rattle.plan_factor.proofs.greatest.factor.Goals as goal

pub loop-i-init : goal.loop-i-init
loop-i-init c = record {
  within = omega arith;
  best = ap (best_in c.args.left.now c.sites-sites.result.now c.items-classes.result.now c.args.layouts.now (grouped c.in_ok-groups.groups) c.args.all.now) (sym (drop_all (length c.args.order.now) c.args.order.now (omega arith)));
}

pub loop-i-preserved : goal.loop-i-preserved
loop-i-preserved c = record {
  within = omega (arith, c.loop-i.invariant.within);
  best = best_back c.args.left.now c.sites-sites.result.now c.items-classes.result.now c.args.layouts.now (grouped c.in_ok-groups.groups) c.args.all.now c.args.order.now c.loop-i.i _ c.loop-i.best c.in_ok-best.best c.loop-i-test.true c.loop-i.invariant.within c.loop-i.invariant.best
      (c.in_ok-best.ensures c.args.left.now c.in_ok-ranks.ensures);
}

pub returns : goal.returns
returns c =
    let code = code_at c.args.program.now.bodies 0 in
    let fresh = c.args.program.now.variables in
    let begin = c.loop-i.invariant.best in
    begin ∙ ap (λ k. best_in c.args.left.now c.sites-sites.result.now c.items-classes.result.now c.args.layouts.now (grouped c.in_ok-groups.groups) c.args.all.now (drop k c.args.order.now)) (let none : c.loop-i.i ≡ 0 = omega (arith, c.loop-i-test.false) in none)
    ∙ factor_is code fresh c.args.left.now c.sites-sites.result.now c.items-classes.result.now c.args.all.now c.args.layouts.now c.args.order.now (grouped c.in_ok-groups.groups) c.requires.functions c.requires.layouts c.requires.order (c.items-classes.ensures ∙ c.requires.classes) c.in_ok-groups.ensures
    ∙ ap (λ ss. greatest (facts fresh code) ss c.args.left.now (points_of (labelled (facts fresh code) code)) (points_of (labelled (facts fresh code) code))) c.sites-sites.ensures

pub better-requires-clause-ascending : goal.better-requires-clause-ascending
better-requires-clause-ascending c =
    let code = code_at c.args.program.now.bodies 0 in
    subst AreAscending (sym c.requires.layouts) (all_ascend (facts c.args.program.now.variables code) (layouts code))
