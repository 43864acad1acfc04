use Rattle.std.proofs.Common.{sym, subst, List, Option}
use Rattle.sml_types.specs.declared.types.Ty.{Ty}
use Rattle.sml_unify.specs.Solved.{AreBindings}
use Rattle.sml_unify.proofs.Fresh.{bindings_none}
use Rattle.sml_unify.proofs.subst.Subst.new.Goals as goal

pub returns-clause-bindings : goal.returns-clause-bindings
returns-clause-bindings c = λ forms. subst (λ (D : List (Option Ty)). AreBindings forms D) (sym c.new.ensures) (bindings_none forms)
