use Rattle.std.proofs.Common.{[], take}
use Rattle.sml_types.specs.Tree.{Variable}
use Rattle.infer_state.specs.Fits.{settled_at}
use Rattle.infer_state.specs.Names.{names_of_rules}
use Rattle.infer_closing.specs.Settling.{Grows, AreNewly}
use Rattle.infer_closing.proofs.matched.settle_rules.Given as goal

abbrev pub invariant-rules : goal.invariant-rules
invariant-rules l =
    record {
      grown : Grows l.unknowns l.unknowns l.fn.settled.items l.settled.items;
      newly : AreNewly l.bare Variable (settled_at l.unknowns.types l.fn.settled.items) (settled_at l.unknowns.types l.settled.items) [] (names_of_rules l.bare.nodes (take l.rule-index l.rules));
    }
