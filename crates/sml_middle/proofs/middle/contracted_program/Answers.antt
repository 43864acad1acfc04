use Rattle.std.proofs.lemmas.Result.{IfOk-weaker}
use Rattle.cps_ir.specs.Program.{tree_of}
use Rattle.convert_points.proofs.Points.{converted_is_whole}
use Rattle.sml_middle.proofs.Chain.{ends, whole, comes}
use Rattle.sml_middle.proofs.middle.contracted_program.Goals as goal

pub cps-requires : goal.cps-requires
cps-requires c = ends c.args.typed.now.tables.names c.args.typed.now.bare c.requires c.in_ok-program.program c.in_ok-program.ensures

pub contract-requires : goal.contract-requires
contract-requires c =
    whole c.args.typed.now.tables.names c.args.typed.now.bare c.requires c.in_ok-program.program c.in_ok-program.ensures (converted_is_whole c.args.typed.now.tables.names c.args.typed.now.bare c.requires) (tree_of c.in_ok-converted.converted) c.in_ok-converted.ensures

pub returns : goal.returns
returns c =
    IfOk-weaker c.contract.result _ _
    (λ q e. comes c.args.typed.now.tables.names c.args.typed.now.bare c.requires c.in_ok-program.program c.in_ok-program.ensures (tree_of c.in_ok-converted.converted) (tree_of q) c.in_ok-converted.ensures e)
    c.contract.ensures
