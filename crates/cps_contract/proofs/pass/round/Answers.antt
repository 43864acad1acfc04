use Rattle.std.proofs.Common.{sym, ap, ◌∙◌, subst}
use Rattle.cps_ir.specs.Kept.{IsProgram}
use Rattle.cps_ir.specs.Program.{code_at}
use Rattle.contract_rows.specs.Rows.{IsOneTree}
use Rattle.cps_contract.proofs.Ranges.{program_kept}
use Rattle.cps_contract.proofs.pass.round.Goals as goal

pub invariant_of-result : goal.invariant_of-result
invariant_of-result c =
    let e = c.program.view_is in
    let t = c.in_ok-bodies.ensures in
    program_kept c.args.program _ (subst IsProgram e c.program.invariant) c.requires (ap (λ v. v.variables) e) (ap (λ v. v.texts) e) (ap (λ v. v.exns) e)
    (subst IsOneTree (sym c.from_vec.ensures) t.0)
    (ap (λ bs. code_at bs 0) c.from_vec.ensures ∙ t.1)
