use Rattle.std.proofs.Common.{◌≡◌, ℕ, ap, subst}
use Rattle.cps_ir.specs.Kept.{IsProgram}
use Rattle.close_laws.specs.declared.plan.Plan.{Plan}
use Rattle.closure_ir.specs.Program as closing
use Rattle.convert_slim.proofs.Slim.{middle_is_slim}
use Rattle.sml_pipeline.proofs.Chain.{slim, becomes}
use Rattle.sml_pipeline.proofs.passes.placed_plan.Goals as goal

pub close-requires : goal.close-requires
close-requires c = slim c.args.typed.now.tables.names c.args.typed.now.bare c.in_ok-program.program c.in_ok-program.ensures middle_is_slim c.requires

pub returns : goal.returns
returns c =
    let found : Plan = c.in_ok-closing.closing.plan in
    becomes c.args.typed.now.tables.names c.args.typed.now.bare c.in_ok-program.program c.in_ok-program.ensures (subst IsProgram c.program.view_is c.program.invariant)
    (closing.tree_of c.in_ok-closing.closing.closed) c.in_ok-placed.placed found _ c.in_ok-closing.ensures.closed c.in_ok-placed.ensures c.in_ok-closing.ensures.plan (ap (λ (n : ℕ). record found { spill = n }) c.spill.ensures)
