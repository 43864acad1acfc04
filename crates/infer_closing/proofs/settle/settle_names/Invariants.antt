use Rattle.std.proofs.Common.{take}
use Rattle.infer_state.specs.Fits.{settled_at}
use Rattle.infer_closing.specs.Closing.{meaning}
use Rattle.infer_closing.specs.Settling.{Grows, AreNewly, AreListed}
use Rattle.infer_closing.proofs.settle.settle_names.Given as goal

abbrev pub invariant-names : goal.invariant-names
invariant-names l =
    record {
      grown : Grows l.fn.unknowns l.unknowns l.fn.settled.items l.settled.items;
      newly : AreNewly l.bare (meaning l.fn.unknowns) (settled_at l.fn.unknowns.types l.fn.settled.items) (settled_at l.unknowns.types l.settled.items) l.vars (take l.name-index l.names);
      listed : AreListed l.bare (meaning l.fn.unknowns) l.vars (take l.name-index l.names) l.fn.list.items l.list.items;
    }
