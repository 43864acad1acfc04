use Rattle.std.proofs.Common.{rules, false}
use Rattle.sml_types.specs.declared.types.TyVar.{TyVar}
use Rattle.infer_checks.specs.Checked.{ending}
use Rattle.infer_checks.specs.Ending.{IsKept}
use Rattle.infer_checks.proofs.ListFacts.{all_take}
use Rattle.infer_checks.proofs.proper.are_kept.Goals as goal

pub vars-preserved : goal.vars-preserved
vars-preserved c =
    let none : TyVar = record { num = 0; eq = false } in
    all_take (IsKept (ending c.args.unknowns.now c.args.renames.now) c.args.renames.now c.args.numbers.now) c.args.vars.now c.vars.var-index none c.vars-test.true c.vars.invariant (c.is_kept.ensures (search rules))
