use Rattle.std.proofs.Common.{rules, ◌≡◌, List, Option, sym, subst}
use Rattle.sml_types.specs.declared.types.Ty.{Ty}
use Rattle.sml_unify.specs.Solved.{Solves, Respects, meant}
use Rattle.sml_unify.proofs.Meant.{meant_solves}
use Rattle.sml_unify.proofs.Fresh.{bindings_longer, marks_longer, applied_longer}
use Rattle.sml_unify.proofs.subst.unify_next.Goals as goal

pub returns-in_err-work-clause-solution : goal.returns-in_err-work-clause-solution
returns-in_err-work-clause-solution c = meant_solves c.args.types.now c.args.subst.now.bound c.requires.bindings.acyclic

pub returns-in-Ok-clause-solution : goal.returns-in-Ok-clause-solution
returns-in-Ok-clause-solution c = meant_solves c.solve.new.types c.solve.new.bound c.in-Ok.ensures.unified.0.solved.acyclic

pub returns-in-Ok-clause-applied : goal.returns-in-Ok-clause-applied
returns-in-Ok-clause-applied c =
    applied_longer c.args.types.now c.solve.new.types c.args.next.now c.args.tables.now.names c.in-Ok.ensures.longer c.in-Ok.ensures.fresh

pub returns-clause-solution : goal.returns-clause-solution
returns-clause-solution c =
    let same : c.undo.new.bound ≡ c.args.subst.now.bound = search rules in
    subst (λ (D : List (Option Ty)). Solves c.solve.new.types D (meant c.solve.new.types D)) (sym same) (meant_solves c.solve.new.types c.args.subst.now.bound (bindings_longer c.args.types.now c.solve.new.types c.args.subst.now.bound c.in-Err.ensures.longer c.requires.bindings).acyclic)

pub returns-clause-marks : goal.returns-clause-marks
returns-clause-marks c r =
    let same : c.undo.new.bound ≡ c.args.subst.now.bound = search rules in
    subst
    (λ (D : List (Option Ty)). Respects c.args.tables.now.names c.solve.new.types (meant c.solve.new.types D))
    (sym same)
    (marks_longer c.args.types.now c.solve.new.types c.args.subst.now.bound c.in-Err.ensures.longer c.requires.bindings c.args.tables.now.names c.args.next.now c.requires.short c.in-Err.ensures.fresh r)

pub returns-clause-applied : goal.returns-clause-applied
returns-clause-applied c =
    applied_longer c.args.types.now c.solve.new.types c.args.next.now c.args.tables.now.names c.in-Err.ensures.longer c.in-Err.ensures.fresh
