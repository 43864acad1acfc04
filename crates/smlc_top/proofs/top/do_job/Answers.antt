use Rattle.std.proofs.Common.{ℕ, List, sym, subst}
use Rattle.std.specs.Prelude.{map}
use Rattle.std.specs.Borrow.{Bor}
use Rattle.smlc_jobs.specs.Job.{RunFiles, CompileFiles, ExecFile, TypesFiles, PlanFiles, GenText, IsAsked}
use Rattle.smlc_jobs.specs.Runs.{tally, intake}
use Rattle.smlc_top.proofs.Answering.{reported}
use Rattle.smlc_jobs.proofs.Faults.{came_none}
use Rattle.smlc_top.proofs.top.do_job.Goals as goal

pub returns-in-Run-clause-answer : goal.returns-in-Run-clause-answer
returns-in-Run-clause-answer g c = λ words asked.
    reported words (g.F.Store.files c.args.store.now) (g.F.Store.files c.run-outcome.new.store) (RunFiles (map (λ x. x.now) c.as_slice-names.result.now) c.in-Run.arena c.in-Run.steps) (tally (g.F.Store.faults c.args.store.now) (g.I.Source.faults c.args.input.now) (g.O.Sink.faults c.args.out.now) (g.E.Sink.faults c.args.err.now))
    (tally (g.F.Store.faults c.run-outcome.new.store) (g.I.Source.faults c.run-outcome.new.input) (g.O.Sink.faults c.run-outcome.new.out) (g.E.Sink.faults c.run-outcome.new.err)) (intake (g.I.Source.left c.args.input.now) (g.I.Source.left c.run-outcome.new.input)) (g.E.Sink.faults c.report.new.err) c.report.result
    (g.O.Sink.taken c.args.out.now) (g.O.Sink.taken c.run-outcome.new.out) (g.E.Sink.taken c.args.err.now) (g.E.Sink.taken c.run-outcome.new.err) (g.E.Sink.taken c.report.new.err) c.run-outcome.result (subst (λ (xs : List (Bor (List ℕ))). IsAsked words (RunFiles (map (λ x. x.now) xs) c.in-Run.arena c.in-Run.steps)) (sym c.as_slice-names.ensures.value) (rw c.in-Run.is at asked))
    c.run-outcome.ensures.performed c.report.ensures.said

pub returns-in-Exec-clause-answer : goal.returns-in-Exec-clause-answer
returns-in-Exec-clause-answer g c = λ words asked.
    reported words (g.F.Store.files c.args.store.now) (g.F.Store.files c.exec-outcome.new.store) (ExecFile c.in-Exec.file.now c.in-Exec.steps) (tally (g.F.Store.faults c.args.store.now) (g.I.Source.faults c.args.input.now) (g.O.Sink.faults c.args.out.now) (g.E.Sink.faults c.args.err.now))
    (tally (g.F.Store.faults c.exec-outcome.new.store) (g.I.Source.faults c.exec-outcome.new.input) (g.O.Sink.faults c.exec-outcome.new.out) (g.E.Sink.faults c.exec-outcome.new.err)) (intake (g.I.Source.left c.args.input.now) (g.I.Source.left c.exec-outcome.new.input)) (g.E.Sink.faults c.report-in-Exec.new.err) c.report-in-Exec.result
    (g.O.Sink.taken c.args.out.now) (g.O.Sink.taken c.exec-outcome.new.out) (g.E.Sink.taken c.args.err.now) (g.E.Sink.taken c.exec-outcome.new.err) (g.E.Sink.taken c.report-in-Exec.new.err) c.exec-outcome.result (rw c.in-Exec.is at asked)
    c.exec-outcome.ensures.performed c.report-in-Exec.ensures.said

pub returns-in-Compile-clause-answer : goal.returns-in-Compile-clause-answer
returns-in-Compile-clause-answer g c = λ words asked.
    let i = g.I.Source.faults c.args.input.now in
    let o = g.O.Sink.faults c.args.out.now in
    let e = g.E.Sink.faults c.args.err.now in
    reported words (g.F.Store.files c.args.store.now) (g.F.Store.files c.compile-outcome.new.store) (CompileFiles (map (λ x. x.now) c.as_slice-names-in-Compile.result.now) c.in-Compile.target.now c.in-Compile.arena) (tally (g.F.Store.faults c.args.store.now) (g.I.Source.faults c.args.input.now) (g.O.Sink.faults c.args.out.now) (g.E.Sink.faults c.args.err.now))
    (tally (g.F.Store.faults c.compile-outcome.new.store) i o e) (intake (g.I.Source.left c.args.input.now) (g.I.Source.left c.args.input.now)) (g.E.Sink.faults c.report-in-Compile.new.err) c.report-in-Compile.result
    (g.O.Sink.taken c.args.out.now) (g.O.Sink.taken c.args.out.now) (g.E.Sink.taken c.args.err.now) (g.E.Sink.taken c.args.err.now) (g.E.Sink.taken c.report-in-Compile.new.err) c.compile-outcome.result (subst (λ (xs : List (Bor (List ℕ))). IsAsked words (CompileFiles (map (λ x. x.now) xs) c.in-Compile.target.now c.in-Compile.arena)) (sym c.as_slice-names-in-Compile.ensures.value) (rw c.in-Compile.is at asked))
    (came_none (g.O.Sink.taken c.args.out.now) (g.E.Sink.taken c.args.err.now) _ (c.compile-outcome.ensures.performed i o e (g.I.Source.left c.args.input.now))) c.report-in-Compile.ensures.said

pub returns-in-Types-clause-answer : goal.returns-in-Types-clause-answer
returns-in-Types-clause-answer g c = λ words asked.
    let i = g.I.Source.faults c.args.input.now in
    let e = g.E.Sink.faults c.args.err.now in
    reported words (g.F.Store.files c.args.store.now) (g.F.Store.files c.types-outcome.new.store) (TypesFiles (map (λ x. x.now) c.as_slice-names-in-Types.result.now)) (tally (g.F.Store.faults c.args.store.now) i (g.O.Sink.faults c.args.out.now) e)
    (tally (g.F.Store.faults c.types-outcome.new.store) i (g.O.Sink.faults c.types-outcome.new.out) e) (intake (g.I.Source.left c.args.input.now) (g.I.Source.left c.args.input.now)) (g.E.Sink.faults c.report-in-Types.new.err) c.report-in-Types.result
    (g.O.Sink.taken c.args.out.now) (g.O.Sink.taken c.types-outcome.new.out) (g.E.Sink.taken c.args.err.now) (g.E.Sink.taken c.args.err.now) (g.E.Sink.taken c.report-in-Types.new.err) c.types-outcome.result (subst (λ (xs : List (Bor (List ℕ))). IsAsked words (TypesFiles (map (λ x. x.now) xs))) (sym c.as_slice-names-in-Types.ensures.value) (rw c.in-Types.is at asked))
    (c.types-outcome.ensures.performed i e (g.I.Source.left c.args.input.now) (g.E.Sink.taken c.args.err.now)) c.report-in-Types.ensures.said

pub returns-in-Plan-clause-answer : goal.returns-in-Plan-clause-answer
returns-in-Plan-clause-answer g c = λ words asked.
    let i = g.I.Source.faults c.args.input.now in
    let e = g.E.Sink.faults c.args.err.now in
    reported words (g.F.Store.files c.args.store.now) (g.F.Store.files c.plan-outcome.new.store) (PlanFiles (map (λ x. x.now) c.as_slice-names-in-Plan.result.now)) (tally (g.F.Store.faults c.args.store.now) i (g.O.Sink.faults c.args.out.now) e)
    (tally (g.F.Store.faults c.plan-outcome.new.store) i (g.O.Sink.faults c.plan-outcome.new.out) e) (intake (g.I.Source.left c.args.input.now) (g.I.Source.left c.args.input.now)) (g.E.Sink.faults c.report-in-Plan.new.err) c.report-in-Plan.result
    (g.O.Sink.taken c.args.out.now) (g.O.Sink.taken c.plan-outcome.new.out) (g.E.Sink.taken c.args.err.now) (g.E.Sink.taken c.args.err.now) (g.E.Sink.taken c.report-in-Plan.new.err) c.plan-outcome.result (subst (λ (xs : List (Bor (List ℕ))). IsAsked words (PlanFiles (map (λ x. x.now) xs))) (sym c.as_slice-names-in-Plan.ensures.value) (rw c.in-Plan.is at asked))
    (c.plan-outcome.ensures.performed i e (g.I.Source.left c.args.input.now) (g.E.Sink.taken c.args.err.now)) c.report-in-Plan.ensures.said

pub returns-in-Gen-clause-answer : goal.returns-in-Gen-clause-answer
returns-in-Gen-clause-answer g c = λ words asked.
    let store = g.F.Store.faults c.args.store.now in
    let i = g.I.Source.faults c.args.input.now in
    let e = g.E.Sink.faults c.args.err.now in
    reported words (g.F.Store.files c.args.store.now) (g.F.Store.files c.args.store.now) (GenText c.in-Gen.number c.in-Gen.size) (tally store i (g.O.Sink.faults c.args.out.now) e)
    (tally store i (g.O.Sink.faults c.generate-outcome.new.out) e) (intake (g.I.Source.left c.args.input.now) (g.I.Source.left c.args.input.now)) (g.E.Sink.faults c.report-in-Gen.new.err) c.report-in-Gen.result
    (g.O.Sink.taken c.args.out.now) (g.O.Sink.taken c.generate-outcome.new.out) (g.E.Sink.taken c.args.err.now) (g.E.Sink.taken c.args.err.now) (g.E.Sink.taken c.report-in-Gen.new.err) c.generate-outcome.result (rw c.in-Gen.is at asked)
    (c.generate-outcome.ensures.performed store i e (g.F.Store.files c.args.store.now) (g.I.Source.left c.args.input.now) (g.E.Sink.taken c.args.err.now)) c.report-in-Gen.ensures.said
