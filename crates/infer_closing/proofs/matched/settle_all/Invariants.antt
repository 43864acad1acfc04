use Rattle.std.proofs.Common.{[], take}
use Rattle.sml_types.specs.Tree.{Variable}
use Rattle.infer_state.specs.Fits.{settled_at}
use Rattle.infer_closing.specs.Settling.{Grows, AreNewly}
use Rattle.infer_closing.proofs.matched.settle_all.Given as goal

abbrev pub invariant-names : goal.invariant-names
invariant-names l =
    record {
      grown : Grows l.unknowns l.unknowns l.fn.settled.items l.settled.items;
      newly : AreNewly l.bare Variable (settled_at l.unknowns.types l.fn.settled.items) (settled_at l.unknowns.types l.settled.items) [] (take l.name-index l.names);
    }
