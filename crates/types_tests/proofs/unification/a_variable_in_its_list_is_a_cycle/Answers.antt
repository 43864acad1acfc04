use Rattle.types_tests.proofs.unification.a_variable_in_its_list_is_a_cycle.Goals as goal

pub unify-answer-requires-clause-bindings : goal.unify-answer-requires-clause-bindings
unify-answer-requires-clause-bindings o c = c.new-subst.ensures.bindings _
