use Rattle.types_tests.proofs.unification.two_heads_clash.Goals as goal

pub unify-answer-requires-clause-bindings : goal.unify-answer-requires-clause-bindings
unify-answer-requires-clause-bindings o c = c.new-subst.ensures.bindings _
