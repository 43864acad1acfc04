use Rattle.std.proofs.Common.{◌+◌, ◌∷◌, [], false, length, ap, ◌∙◌, arith, length-append}
use Rattle.sml_types.specs.declared.types.TyForm.TheVariants.{Var}
use Rattle.infer_tables.proofs.StartFacts.{one_added}
use Rattle.infer_tables.proofs.starts.add_variables.Goals as goal

pub variables-preserved : goal.variables-preserved
variables-preserved c =
    let i = c.variables.invariant in
    let n = i.count in
    let e = c.in_ok-var.ensures.ok.1 in
    record {
      count = ap length e ∙ omega (arith, length-append c.variables.types (Var (record { num = c.args.first + c.variables.at; eq = false }) ∷ []));
      added = one_added c.args.types.now c.variables.types c.var.new.self c.args.first c.variables.at c.in_ok-start.start i.added n e;
    }
