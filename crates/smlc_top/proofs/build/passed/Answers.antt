use Rattle.smlc_top.proofs.Builds.{file_passed}
use Rattle.smlc_top.proofs.build.passed.Goals as goal

pub returns-in-Ok : goal.returns-in-Ok
returns-in-Ok c = file_passed c.args.typed.now c.args.arena c.in-Ok.image c.file_of.result c.in-Ok.ensures.image c.file_of.ensures
