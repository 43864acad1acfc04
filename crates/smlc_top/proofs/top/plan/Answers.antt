use Rattle.std.proofs.Common.{length, arith, ap, refl}
use Rattle.std.specs.Prelude.{map}
use Rattle.std.proofs.lemmas.List.{length-map}
use Rattle.smlc_top.specs.Clause.{want, load_failed}
use Rattle.smlc_jobs.specs.Runs.{intake}
use Rattle.smlc_jobs.proofs.Faults.{came_none}
use Rattle.smlc_top.proofs.Jobs.{plan_said, plan_written, plan_cut}
use Rattle.smlc_top.proofs.top.plan.Goals as goal

pub plan_of-requires : goal.plan_of-requires
plan_of-requires g c =
    let l = c.in-Files.ensures.loaded in
    omega (arith, l.1, length-map c.args.names.now (λ x. x.now), ap length c.deref.ensures.value)

pub returns-in-Ok-clause-performed : goal.returns-in-Ok-clause-performed
returns-in-Ok-clause-performed g c = λ i e input err.
    let l = c.in-Files.ensures.loaded in
    plan_written (map (λ x. x.now) c.args.names.now) (g.F.Store.files c.args.store.now) (g.F.Store.files c.load_all.new.store) (map (λ x. x.items) c.in-Files.files.items) c.in-Text.text.items input i e
    (g.F.Store.faults c.args.store.now) (g.F.Store.faults c.load_all.new.store) (g.O.Sink.faults c.args.out.now) (g.O.Sink.faults c.write_whole.new.sink) (g.O.Sink.taken c.args.out.now) (g.O.Sink.taken c.write_whole.new.sink) err
    (λ files t. l.0 files t) (λ files t. l.2 files t) (rw c.deref.ensures.value at c.in-Text.ensures) tt (rw c.deref-in-Text.ensures.value at c.in-Ok.ensures.whole) l.3 c.in-Ok.ensures.cause

pub returns-in-Text-clause-performed : goal.returns-in-Text-clause-performed
returns-in-Text-clause-performed g c = λ i e input err.
    let l = c.in-Files.ensures.loaded in
    plan_cut (map (λ x. x.now) c.args.names.now) (g.F.Store.files c.args.store.now) (g.F.Store.files c.load_all.new.store) (map (λ x. x.items) c.in-Files.files.items) c.in-Text.text.items input i e
    (g.F.Store.faults c.args.store.now) (g.F.Store.faults c.load_all.new.store) (g.O.Sink.faults c.args.out.now) (g.O.Sink.faults c.write_whole.new.sink) (g.O.Sink.taken c.args.out.now) (g.O.Sink.taken c.write_whole.new.sink) err
    (λ files t. l.0 files t) (λ files t. l.2 files t) (rw c.deref.ensures.value at c.in-Text.ensures) c.in-Err.field-0 (rw c.deref-in-Text.ensures.value at c.in-Err.ensures.whole) c.in-Err.ensures.cause

pub returns-in-Refused-clause-performed : goal.returns-in-Refused-clause-performed
returns-in-Refused-clause-performed g c = λ i e input err.
    let l = c.in-Files.ensures.loaded in
    came_none (g.O.Sink.taken c.args.out.now) err _ (plan_said (map (λ x. x.now) c.args.names.now) (g.F.Store.files c.args.store.now) (g.F.Store.files c.load_all.new.store) (map (λ x. x.items) c.in-Files.files.items) c.in-Refused.line _ _ (intake input input)
    (λ files t. l.0 files t) (λ files t. l.2 files t) (rw c.deref.ensures.value at c.in-Refused.ensures) (λ bytes h. h) (record { store = l.3; input = refl; out = refl; err = refl }))

pub returns-in-Files-clause-performed : goal.returns-in-Files-clause-performed
returns-in-Files-clause-performed g c = λ i e input err.
    let l = c.in-Files.ensures.loaded in
    came_none (g.O.Sink.taken c.args.out.now) err _ (want refl refl (λ files t. l.2 files t) (λ bytes h. h) (record { store = l.3; input = refl; out = refl; err = refl }))

pub returns-in-Failed-clause-performed : goal.returns-in-Failed-clause-performed
returns-in-Failed-clause-performed g c = λ i e input err.
    let l = c.in-Failed.ensures.loaded in
    came_none (g.O.Sink.taken c.args.out.now) err _ (load_failed c.in-Failed.at l.0 l.2 refl refl (λ files t. l.1 files t) (λ bytes h. h) (omega arith))

pub returns-clause-performed : goal.returns-clause-performed
returns-clause-performed g c = λ i e input err.
    let l = c.in-NoMemory.ensures.loaded in
    came_none (g.O.Sink.taken c.args.out.now) err _ (want refl refl (λ files t. l.0 files t) (λ bytes h. h) (record { store = l.1; input = refl; out = refl; err = refl }))
