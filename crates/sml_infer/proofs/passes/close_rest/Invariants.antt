use Rattle.std.proofs.Common.{◌≡◌}
use Rattle.sml_infer.specs.Going.{now, Keeps, IsGoing}
use Rattle.sml_infer.proofs.passes.close_rest.Given as goal

abbrev pub invariant-nodes : goal.invariant-nodes
invariant-nodes l =
    record {
      count : l.work.count ≡ l.fn.work.count;
      done : l.work.done ≡ l.fn.work.count;
      going : IsGoing l.bare l.fn.work.count l.declared (now l.work) l.fn.work.count l.fn.work.count l.node;
      kept : Keeps (now l.fn.work) (now l.work);
    }
