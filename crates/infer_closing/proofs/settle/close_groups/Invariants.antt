use Rattle.std.proofs.Common.{take}
use Rattle.infer_state.specs.Fits.{settled_at}
use Rattle.infer_closing.specs.Closing.{meaning, AreGeneralKept}
use Rattle.infer_closing.specs.Settling.{Grows, AreGroupsClosed}
use Rattle.infer_closing.proofs.settle.close_groups.Given as goal

abbrev pub invariant-groups : goal.invariant-groups
invariant-groups l =
    record {
      grown : Grows l.fn.unknowns l.unknowns l.fn.settled.items l.settled.items;
      kept : AreGeneralKept l.fn.general.items l.general.items;
      closed : AreGroupsClosed l.bare (meaning l.fn.unknowns) l.general.items (settled_at l.fn.unknowns.types l.fn.settled.items) (settled_at l.unknowns.types l.settled.items) l.list.items l.opened (take l.group-index l.groups);
    }
