use Rattle.std.proofs.Common.{ap, subst}
use Rattle.lambda_ir.specs.Program.{Lambda}
use Rattle.lambda_ir.specs.Kept.{IsProgram}
use Rattle.cps_convert.specs.Made.{AreMade}
use Rattle.cps_convert.proofs.Converted.{is_program, is_converted}
use Rattle.cps_convert.proofs.whole.cps.Goals as goal

pub invariant_of-converted : goal.invariant_of-converted
invariant_of-converted c =
    let l = c.args.program in
    is_program l (subst IsProgram c.program.view_is c.program.invariant) c.requires _
    (subst (λ ts. AreMade ts l.sites c.in_ok-made.made.bodies c.in_ok-made.made.variables) c.terms.ensures.terms (subst (λ ss. AreMade c.terms.result.now ss c.in_ok-made.made.bodies c.in_ok-made.made.variables) c.sites.ensures c.in_ok-made.ensures))
    (ap (λ (z : Lambda). z.sites) c.program.view_is)
    (ap (λ (z : Lambda). z.texts) c.program.view_is)
    (ap (λ (z : Lambda). z.exns) c.program.view_is)

pub returns : goal.returns
returns c =
    let l = c.args.program in
    is_converted l (subst IsProgram c.program.view_is c.program.invariant) c.requires _
    (subst (λ ts. AreMade ts l.sites c.in_ok-made.made.bodies c.in_ok-made.made.variables) c.terms.ensures.terms (subst (λ ss. AreMade c.terms.result.now ss c.in_ok-made.made.bodies c.in_ok-made.made.variables) c.sites.ensures c.in_ok-made.ensures))
    (ap (λ (z : Lambda). z.sites) c.program.view_is)
    (ap (λ (z : Lambda). z.texts) c.program.view_is)
    (ap (λ (z : Lambda). z.exns) c.program.view_is)
