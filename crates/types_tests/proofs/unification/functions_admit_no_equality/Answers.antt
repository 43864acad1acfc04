use Rattle.types_tests.proofs.unification.functions_admit_no_equality.Goals as goal

pub unify-answer-requires-clause-bindings : goal.unify-answer-requires-clause-bindings
unify-answer-requires-clause-bindings o c = c.new-subst.ensures.bindings _
