use Rattle.std.proofs.Common.{List, Option, ap, ◌∙◌}
use Rattle.sml_types.specs.declared.types.Ty.{Ty}
use Rattle.sml_unify.specs.Solved.{next_number}
use Rattle.sml_unify.proofs.Meant.{meant_solves}
use Rattle.sml_unify.proofs.Counters.{below_number}
use Rattle.sml_unify.proofs.subst.unify.Goals as goal

pub returns-then-count-clause-solution : goal.returns-then-count-clause-solution
returns-then-count-clause-solution c = meant_solves c.args.types.now c.args.subst.now.bound c.requires.bindings.acyclic

pub unify_next-requires-clause-below : goal.unify_next-requires-clause-below
unify_next-requires-clause-below c =
    below_number c.args.types.now c.args.subst.now.bound c.number-count.result (c.number-count.ensures ∙ ap (λ F. next_number F c.items.result.now) c.forms.ensures.forms ∙ ap (λ (D : List (Option Ty)). next_number c.args.types.now D) c.items.ensures)
