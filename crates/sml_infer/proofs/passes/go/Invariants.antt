use Rattle.std.proofs.Common.{◌≡◌, ◌≤◌, ◌-◌}
use Rattle.sml_infer.specs.Going.{now, Keeps, IsGoing}
use Rattle.sml_infer.proofs.passes.go.Given as goal

abbrev pub invariant-turns : goal.invariant-turns
invariant-turns l =
    record {
      count : l.work.count ≡ l.fn.work.count;
      within : l.work.done ≤ l.work.count;
      going : IsGoing l.bare l.work.count l.declared (now l.work) l.work.done l.work.done l.work.done;
      kept : Keeps (now l.fn.work) (now l.work);
    }

abbrev pub decreases-turns : goal.decreases-turns
decreases-turns l = l.work.count - l.work.done
