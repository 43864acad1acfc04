use Rattle.std.proofs.Common.{◌≡◌, false, drop}
use Rattle.convert_decide.specs.Decide.{item_in}
use Rattle.convert_steps.specs.Rows.{Begun, cases_code}
use Rattle.convert_steps.proofs.rules.begin_rules.Given as goal

abbrev pub invariant-loop-case : goal.invariant-loop-case
invariant-loop-case l = record {
  index : l.at ≡ l.case-index;
  begun : Begun (item_in false l.fn.source.own.now) l.fn.source.terms.now l.fn.world l.world l.scope l.continuation l.rules (cases_code (item_in false l.fn.source.own.now) l.fn.source.terms.now l.cases l.subject l.thrown l.next) (cases_code (item_in false l.fn.source.own.now) l.fn.source.terms.now (drop l.case-index l.cases) l.subject l.thrown l.later);
}
