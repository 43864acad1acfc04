use Rattle.rv_codegen.proofs.Lengths.{ready}
use Rattle.rv_codegen.proofs.laying.lay_out.Goals as goal

pub finish-requires : goal.finish-requires
finish-requires c = ready c.args.placed.now c.bind_data.new.asm c.args.arena_words c.in_ok-places.ensures.program c.in_ok-places.ensures.near
