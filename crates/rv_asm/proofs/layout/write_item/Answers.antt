use Rattle.std.proofs.Common.{arith, rules}
use Rattle.rv_asm.proofs.Fitting.{auipc_fits, addi_fits, jalr_fits, passed_fits}
use Rattle.rv_asm.proofs.layout.write_item.Goals as goal

pub write_pair-requires-clause-first : goal.write_pair-requires-clause-first
write_pair-requires-clause-first c = passed_fits _ _ _ _ _ _ c.u_type-first.ensures (search rules) c.between-pair.ensures.upper (auipc_fits _ _ _ (omega arith) c.place_of.ensures.near)

pub write_pair-requires-clause-second : goal.write_pair-requires-clause-second
write_pair-requires-clause-second c = passed_fits _ _ _ _ _ _ c.i_type-second.ensures (search rules) c.between-pair.ensures.lower (jalr_fits _ _ _ _ (omega arith) (omega arith))

pub write_pair-requires-in-Address-clause-first : goal.write_pair-requires-in-Address-clause-first
write_pair-requires-in-Address-clause-first c =
    let sound = rw c.in-Address.is at c.requires.sound in
    passed_fits _ _ _ _ _ _ c.u_type-first-in-Address.ensures (search rules) c.between-pair-in-Address.ensures.upper (auipc_fits _ _ _ sound.0 c.place_of-in-Address.ensures.near)

pub write_pair-requires-in-Address-clause-second : goal.write_pair-requires-in-Address-clause-second
write_pair-requires-in-Address-clause-second c =
    let sound = rw c.in-Address.is at c.requires.sound in
    passed_fits _ _ _ _ _ _ c.i_type-second-in-Address.ensures (search rules) c.between-pair-in-Address.ensures.lower (addi_fits _ _ _ _ sound.0 sound.0)
