use Rattle.std.proofs.Common.{◌≡◌, length, arith}
use Rattle.meaning_tests.proofs.points.free_variables_ascend.Goals as goal

pub free-requires-2-clause-here : goal.free-requires-2-clause-here
free-requires-2-clause-here g c =
    let count : length c.in_ok-program.program.nodes ≡ 13 = c.in_ok-program.ensures.count in omega arith

pub free-requires-3-clause-here : goal.free-requires-3-clause-here
free-requires-3-clause-here g c =
    let count : length c.in_ok-program.program.nodes ≡ 13 = c.in_ok-program.ensures.count in omega arith
