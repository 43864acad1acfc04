use Rattle.std.proofs.Common.{◌≡◌, sym, subst}
use Rattle.std.proofs.lemmas.Result.{IfOk-weaker}
use Rattle.cps_ir.specs.Program.{code_at, tree_of}
use Rattle.contract_census.specs.Counted.{IsCensus}
use Rattle.contract_census.specs.Run.{run_whole}
use Rattle.contract_census.proofs.Whole.{counted}
use Rattle.contract_census.proofs.program.census.Goals as goal

pub returns : goal.returns
returns c =
    let q = c.args.program.now in
    IfOk-weaker c.count_all.result (λ v. v.items ≡ run_whole q.variables (code_at q.bodies 0)) (λ v. IsCensus v.items (tree_of q).code) (λ v e. subst (λ s. IsCensus s (tree_of q).code) (sym e) (counted q c.bodies.ensures.kept)) c.count_all.ensures
