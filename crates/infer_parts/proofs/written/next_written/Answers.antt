use Rattle.std.proofs.Common.{sym, ap, ◌∙◌}
use Rattle.infer_parts.specs.Segments.{exp_parts}
use Rattle.infer_parts.specs.Written.{all_taken}
use Rattle.infer_parts.proofs.Forms.{taken_count, taken_there}
use Rattle.infer_parts.proofs.written.next_written.Goals as goal

pub of_parts-requires-clause-count : goal.of_parts-requires-clause-count
of_parts-requires-clause-count c =
    taken_count c.args.first c.args.made.now (exp_parts c.args.exp.now) c.in-Some.tys (ap (all_taken c.args.first c.args.made.now) (sym (c.deref.ensures.value ∙ c.in_ok-parts.ensures)) ∙ sym c.in_ok-tys.ensures ∙ c.in-Some.is)

pub of_parts-requires-clause-there : goal.of_parts-requires-clause-there
of_parts-requires-clause-there c =
    taken_there c.args.types.now c.args.first c.args.made.now (exp_parts c.args.exp.now) c.in-Some.tys c.requires.made (ap (all_taken c.args.first c.args.made.now) (sym (c.deref.ensures.value ∙ c.in_ok-parts.ensures)) ∙ sym c.in_ok-tys.ensures ∙ c.in-Some.is)
