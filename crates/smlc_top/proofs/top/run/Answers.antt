use Rattle.std.proofs.Common.{ℕ, length, arith, ap, refl, sym, subst}
use Rattle.std.specs.Prelude.{map}
use Rattle.std.proofs.lemmas.List.{length-map}
use Rattle.smlc_jobs.specs.Job.{RunFiles}
use Rattle.smlc_jobs.specs.Outcome.{ended_outcome}
use Rattle.smlc_top.specs.Clause.{Performed, want, load_failed}
use Rattle.smlc_jobs.specs.Runs.{tally, intake}
use Rattle.smlc_jobs.proofs.Faults.{came_none, came_so}
use Rattle.smlc_top.proofs.Jobs.{built_executed, run_said}
use Rattle.smlc_top.proofs.top.run.Goals as goal

pub build-requires-clause-files : goal.build-requires-clause-files
build-requires-clause-files g c =
    let l = c.in-Files.ensures.loaded in
    omega (arith, l.1, length-map c.args.names.now (λ x. x.now), ap length c.deref.ensures.value)

pub returns-in-Elf-clause-performed : goal.returns-in-Elf-clause-performed
returns-in-Elf-clause-performed g c =
    let l = c.in-Files.ensures.loaded in
    let b = rw c.deref.ensures.value at c.in-Elf.ensures in
    let names = map (λ x. x.now) c.args.names.now in
    rw c.ended.ensures (came_so (g.O.Sink.taken c.args.out.now) (g.O.Sink.taken c.execute.new.out) (g.E.Sink.taken c.args.err.now) (g.E.Sink.taken c.execute.new.err) _ _
    (λ w e h. subst (λ (n : ℕ). Performed (RunFiles names c.args.arena c.args.steps) (g.F.Store.files c.args.store.now) (g.F.Store.files c.load_all.new.store) (tally (g.F.Store.faults c.args.store.now) (g.I.Source.faults c.args.input.now) (g.O.Sink.faults c.args.out.now) (g.E.Sink.faults c.args.err.now)) (tally n (g.I.Source.faults c.execute.new.input) (g.O.Sink.faults c.execute.new.out) (g.E.Sink.faults c.execute.new.err)) (intake (g.I.Source.left c.args.input.now) (g.I.Source.left c.execute.new.input)) w e (ended_outcome c.args.arena c.execute.result)) (sym l.3)
    (built_executed names (g.F.Store.files c.args.store.now) (g.F.Store.files c.load_all.new.store) c.args.arena c.args.steps (map (λ x. x.items) c.in-Files.files.items) c.in-Elf.bytes.items (tally (g.F.Store.faults c.args.store.now) (g.I.Source.faults c.args.input.now) (g.O.Sink.faults c.args.out.now) (g.E.Sink.faults c.args.err.now)) (tally (g.F.Store.faults c.args.store.now) (g.I.Source.faults c.execute.new.input) (g.O.Sink.faults c.execute.new.out) (g.E.Sink.faults c.execute.new.err)) (intake (g.I.Source.left c.args.input.now) (g.I.Source.left c.execute.new.input)) w e c.execute.result
    (λ files t. l.0 files t) (λ files t. l.2 files t) b (rw c.deref-in-Elf.ensures.value at h)))
    (c.execute.ensures.executed (g.F.Store.faults c.args.store.now)))

pub returns-in-Refused-clause-performed : goal.returns-in-Refused-clause-performed
returns-in-Refused-clause-performed g c =
    let l = c.in-Files.ensures.loaded in
    came_none (g.O.Sink.taken c.args.out.now) (g.E.Sink.taken c.args.err.now) _ (run_said (map (λ x. x.now) c.args.names.now) (g.F.Store.files c.args.store.now) (g.F.Store.files c.load_all.new.store) c.args.arena c.args.steps (map (λ x. x.items) c.in-Files.files.items) c.in-Refused.line _ _ (intake (g.I.Source.left c.args.input.now) (g.I.Source.left c.args.input.now))
    (λ files t. l.0 files t) (λ files t. l.2 files t) (rw c.deref.ensures.value at c.in-Refused.ensures) (λ bytes h. h) (record { store = l.3; input = refl; out = refl; err = refl }))

pub returns-in-Files-clause-performed : goal.returns-in-Files-clause-performed
returns-in-Files-clause-performed g c =
    let l = c.in-Files.ensures.loaded in
    came_none (g.O.Sink.taken c.args.out.now) (g.E.Sink.taken c.args.err.now) _ (want refl refl (λ files t. l.2 files t) (λ bytes h. h) (record { store = l.3; input = refl; out = refl; err = refl }))

pub returns-in-Failed-clause-performed : goal.returns-in-Failed-clause-performed
returns-in-Failed-clause-performed g c =
    let l = c.in-Failed.ensures.loaded in
    came_none (g.O.Sink.taken c.args.out.now) (g.E.Sink.taken c.args.err.now) _ (load_failed c.in-Failed.at l.0 l.2 refl refl (λ files t. l.1 files t) (λ bytes h. h) (omega arith))

pub returns-clause-performed : goal.returns-clause-performed
returns-clause-performed g c =
    let l = c.in-NoMemory.ensures.loaded in
    came_none (g.O.Sink.taken c.args.out.now) (g.E.Sink.taken c.args.err.now) _ (want refl refl (λ files t. l.0 files t) (λ bytes h. h) (record { store = l.1; input = refl; out = refl; err = refl }))
