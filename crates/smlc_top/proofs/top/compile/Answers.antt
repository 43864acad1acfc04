use Rattle.std.proofs.Common.{ℕ, length, arith, ap, refl, ◌∙◌, subst}
use Rattle.std.specs.Prelude.{map}
use Rattle.std.proofs.lemmas.List.{length-map}
use Rattle.smlc_edge.specs.Edge.{Fails}
use Rattle.smlc_jobs.specs.Runs.{intake}
use Rattle.smlc_top.specs.Clause.{want, load_failed, save_failed}
use Rattle.smlc_top.proofs.Jobs.{compile_said, has_saved, changes_only, built_saved, compiled_of}
use Rattle.smlc_top.proofs.top.compile.Goals as goal

pub build-requires-clause-files : goal.build-requires-clause-files
build-requires-clause-files g c =
    let l = c.in-Files.ensures.loaded in
    omega (arith, l.1, length-map c.args.names.now (λ x. x.now), ap length c.deref.ensures.value)

pub returns-in-Ok-clause-performed : goal.returns-in-Ok-clause-performed
returns-in-Ok-clause-performed g c = λ i o e input.
    let l = c.in-Files.ensures.loaded in
    let b = rw c.deref.ensures.value at c.in-Elf.ensures in
    built_saved (map (λ x. x.now) c.args.names.now) c.args.target.now c.args.arena (g.F.Store.files c.args.store.now) (g.F.Store.files c.save.new.self) (map (λ x. x.items) c.in-Files.files.items) c.in-Elf.bytes.items _ _ (intake input input) (λ files t. l.0 files t) b
    (has_saved (g.F.Store.files c.args.store.now) (g.F.Store.files c.load_all.new.store) (g.F.Store.files c.save.new.self) c.args.target.now c.in-Elf.bytes.items tt (λ files t. l.2 files t) (λ files t. rw c.deref-in-Elf.ensures.value at (c.in-Ok.ensures.told files t))) (λ bytes h. h)
    (record { store = c.in-Ok.ensures.cause ∙ l.3; input = refl; out = refl; err = refl })

pub returns-in-Elf-clause-performed : goal.returns-in-Elf-clause-performed
returns-in-Elf-clause-performed g c = λ i o e input.
    let l = c.in-Files.ensures.loaded in
    let f : Fails (g.F.Store.faults c.args.store.now) (g.F.Store.faults c.save.new.self) = subst (λ (n : ℕ). Fails n (g.F.Store.faults c.save.new.self)) l.3 c.in-Err.ensures.cause in
    let b = rw c.deref.ensures.value at c.in-Elf.ensures in
    let made = compiled_of (map (λ x. x.items) c.in-Files.files.items) c.args.arena c.in-Elf.bytes.items b in
    save_failed (map (λ x. x.now) c.args.names.now) (map (λ x. x.items) c.in-Files.files.items) c.args.target.now c.args.arena made.0 refl (λ files t. l.0 files t) made.1 f refl refl
    (changes_only (g.F.Store.files c.args.store.now) (g.F.Store.files c.load_all.new.store) (g.F.Store.files c.save.new.self) c.args.target.now _ c.in-Err.field-0 (λ files t. l.2 files t) (λ files t. c.in-Err.ensures.told files t)) (λ bytes h. h) (omega arith)

pub returns-in-Refused-clause-performed : goal.returns-in-Refused-clause-performed
returns-in-Refused-clause-performed g c = λ i o e input.
    let l = c.in-Files.ensures.loaded in
    compile_said (map (λ x. x.now) c.args.names.now) c.args.target.now c.args.arena (g.F.Store.files c.args.store.now) (g.F.Store.files c.load_all.new.store) (map (λ x. x.items) c.in-Files.files.items) c.in-Refused.line _ _ (intake input input)
    (λ files t. l.0 files t) (λ files t. l.2 files t) (rw c.deref.ensures.value at c.in-Refused.ensures) (λ bytes h. h) (record { store = l.3; input = refl; out = refl; err = refl })

pub returns-in-Files-clause-performed : goal.returns-in-Files-clause-performed
returns-in-Files-clause-performed g c = λ i o e input.
    let l = c.in-Files.ensures.loaded in
    want refl refl (λ files t. l.2 files t) (λ bytes h. h) (record { store = l.3; input = refl; out = refl; err = refl })

pub returns-in-Failed-clause-performed : goal.returns-in-Failed-clause-performed
returns-in-Failed-clause-performed g c = λ i o e input.
    let l = c.in-Failed.ensures.loaded in
    load_failed c.in-Failed.at l.0 l.2 refl refl (λ files t. l.1 files t) (λ bytes h. h) (omega arith)

pub returns-clause-performed : goal.returns-clause-performed
returns-clause-performed g c = λ i o e input.
    let l = c.in-NoMemory.ensures.loaded in
    want refl refl (λ files t. l.0 files t) (λ bytes h. h) (record { store = l.1; input = refl; out = refl; err = refl })
