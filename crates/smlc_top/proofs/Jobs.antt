-- jobs from their parts
use Rattle.std.proofs.Common.{◌≡◌, ◌≢◌, ◌≤◌, ◌⊎◌, inl, inr, Bool, true, false, ℕ, ◌+◌, ◌*◌, List, [], length, Option, Some, Ok, Err, arith, refl, sym, subst}
use Rattle.std.specs.Prelude.{◌==◌, if◌then◌else◌}
use Rattle.std.proofs.lemmas.Bool.Decides.{eqb_tells}
use Rattle.std.specs.declared.vec.Vec.{Vec}
use Rattle.std.specs.declared.alloc.Global.{Global}
use Rattle.smlc_base.specs.declared.refusal.Refusal.{Refusal}
use Rattle.smlc_edge.specs.declared.edge.Failed.{Failed}
use Rattle.smlc_edge.specs.Edge.{Files, Saves, Fails}
use Rattle.smlc_edge.proofs.Gained.{gains_none}
use Rattle.elf_static.specs.declared.image.Image.{Image}
use Rattle.elf_static.specs.Reading.{meaning_of}
use Rattle.rv_machine.specs.Run.{Mend, Runs, Exited, Trapped}
use Rattle.smlc_jobs.specs.declared.outcome.Outcome.{Outcome}
use Rattle.smlc_jobs.specs.declared.outcome.Outcome.TheVariants as outcome
use Rattle.smlc_jobs.specs.Job.{Job, RunFiles, CompileFiles, ExecFile, TypesFiles, PlanFiles, GenText}
use Rattle.smlc_jobs.specs.Outcome.{exit_outcome, ended_outcome}
use Rattle.smlc_jobs.specs.Texts.{refused_line}
use Rattle.generator.specs.Text.{program_text}
use Rattle.smlc_top.specs.Front.{IsUntyped}
use Rattle.smlc_top.specs.Types.{Shows}
use Rattle.smlc_top.specs.Plan.{Plans}
use Rattle.smlc_jobs.specs.Write.{IsPrefix, Whole}
use Rattle.smlc_top.specs.Build.{IsElfOf, IsElf, of_prints, of_passes}
use Rattle.smlc_jobs.specs.Execute.{RanImage, exited, went_on, trapped, had_no_memory, input_fault, out_fault, err_fault, Executed, of_image, not_read, read_memory}
use Rattle.smlc_jobs.specs.Held.{IsHeld, AreHeld, KeepsFiles, ChangesOnly, HasSaved}
use Rattle.smlc_top.specs.Clause.{Means, Becomes, Compiles, IsCompiled, prints, passes, compiled, program_ended, program_uncaught, program_full, program_exited, program_stopped, program_trapped, program_compiled, program_running, Comes, ran, stopped, run_refused, compile_refused, exec_exited, exec_stopped, exec_trapped, exec_not_elf, Midway, running, executing, in_run, CutOff, in_types, in_plan, in_gen, generated, typed, types_refused, planned, plan_refused, Performed, fine, want, read_failed, write_failed, error_failed}
use Rattle.smlc_jobs.specs.Runs.{Tally, IsSame, Intake, intake, TakesNothing, IsRun, IsExit, IsMidway, Came, tally}
use Rattle.print_code.proofs.Ends.{Concludes, prints_concludes}

-- ---- `run`

run_concludes : (text : List ℕ) (image : Image) (input : Intake) (steps : ℕ) (m : Mend) (w e : List ℕ) → Compiles text image → IsRun image input steps m w e → Concludes m text w e
run_concludes text image input steps m w e compiles r = prints_concludes image text (64 * (1 + length text)) input.before m r.count r.cuts w e compiles.prints r.ends r.wrote r.wrote_err

midway_concludes : (text : List ℕ) (image : Image) (input : Intake) (steps : ℕ) (w e : List ℕ) → Compiles text image → IsMidway image input steps w e → Concludes Runs text w e
midway_concludes text image input steps w e compiles r = prints_concludes image text (64 * (1 + length text)) input.before Runs r.count r.cuts w e compiles.prints r.goes_on r.wrote r.wrote_err

module _ (names : List (List ℕ)) (told kept : Option Files) (arena steps : ℕ) (files : List (List ℕ)) (text : List ℕ) (image : Image) (t t' : Tally) (input : Intake) (w e : List ℕ)
    (held : AreHeld told names files) (keeps : KeepsFiles told kept) (means : Means files text) (compiles : Compiles text image) where
  abbrev Done : Outcome → Type 0
  Done o = Performed (RunFiles names arena steps) told kept t t' input w e o

  midway : IsMidway image input steps w e → Midway told input w e (RunFiles names arena steps)
  midway m = let c = midway_concludes text image input steps w e compiles m in running names arena steps files text image held means compiles m c.0 c.1

  run_image : (o : Outcome) → RanImage image steps t t' input w e o → Done (ended_outcome arena o)
  run_image _ (exited status x11 x12 x same) =
      let c = run_concludes text image input steps (Exited status) w e compiles x.run in
      let r' : IsRun image input steps (Exited 0) w e = subst (λ (n : ℕ). IsRun image input steps (Exited n) w e) c.0 x.run in
      let r'' : IsRun image input steps (Exited 0) w [] = subst (λ (x : List ℕ). IsRun image input steps (Exited 0) w x) c.2 r' in
      subst (λ (n : ℕ). Done (exit_outcome arena n x11 x12)) (sym c.0) (fine outcome.Done (ran names arena steps files image held (subst (λ (x : List ℕ). Means files x) (sym c.1) means) (subst (λ (x : List ℕ). Compiles x image) (sym c.1) compiles) r'' c.2 keeps) same)
  run_image _ (went_on r same) =
      let c = run_concludes text image input steps Runs w e compiles r in
      let r' : IsRun image input steps Runs w [] = subst (λ (x : List ℕ). IsRun image input steps Runs w x) c.1 r in
      fine (outcome.Steps steps) (stopped names arena steps files text image held means compiles r' c.0 c.1 keeps) same
  run_image _ (trapped pc word r same) = absurd (run_concludes text image input steps (Trapped pc word) w e compiles r)
  run_image _ (had_no_memory p q n same) = want p q keeps n same
  run_image _ (input_fault f l m) = read_failed f l (midway m) keeps
  run_image _ (out_fault f l m) = write_failed f l (in_run (RunFiles names arena steps) (midway m)) keeps
  run_image _ (err_fault f m) = error_failed f (midway m) keeps

run_executed : (names : List (List ℕ)) (told kept : Option Files) (arena steps : ℕ) (files : List (List ℕ)) (text bytes : List ℕ) (t t' : Tally) (input : Intake) (w e : List ℕ) (o : Outcome) → AreHeld told names files → KeepsFiles told kept →
    Means files text → IsElfOf text bytes → Executed bytes steps t t' input w e o → Performed (RunFiles names arena steps) told kept t t' input w e (ended_outcome arena o)
run_executed names told kept arena steps files text bytes t t' input w e _ held keeps means made (of_image image o read h) =
    let a : meaning_of bytes ≡ Ok made.image = made.read in
    let same : made.image ≡ image = cc in
    run_image names told kept arena steps files text image t t' input w e held keeps means (subst (λ (i : Image). Compiles text i) same made.compiles) o h
run_executed names told kept arena steps files text bytes t t' input w e _ held keeps means made (not_read kind at bad p q n same) = let a : meaning_of bytes ≡ Ok made.image = made.read in absurd (cc)
run_executed names told kept arena steps files text bytes t t' input w e _ held keeps means made (read_memory p q n same) = want p q keeps n same

-- ---- `run` of any other program

by_test : (P : Outcome → Type 0) (a b : ℕ) (x y : Outcome) → (a ≡ b → P x) → (a ≢ b → P y) → P (if a == b then x else y)
by_test P a b x y f g = go (eqb_tells a b)
  where
    go : (((a == b) ≡ true) × (a ≡ b)) ⊎ (((a == b) ≡ false) × (a ≢ b)) → P (if a == b then x else y)
    go (inl h) = subst (λ (t : Bool). P (if t then x else y)) (sym h.0) (f h.1)
    go (inr h) = subst (λ (t : Bool). P (if t then x else y)) (sym h.0) (g h.1)

module _ (names : List (List ℕ)) (told kept : Option Files) (arena steps : ℕ) (files : List (List ℕ)) (image : Image) (t t' : Tally) (input : Intake) (w e : List ℕ)
    (held : AreHeld told names files) (keeps : KeepsFiles told kept) (becomes : Becomes files arena image) where
  abbrev Ends : Outcome → Type 0
  Ends o = Performed (RunFiles names arena steps) told kept t t' input w e o

  at_exit : (status x11 x12 : ℕ) → IsExit image input steps status x11 x12 w e → IsSame t t' → Ends (exit_outcome arena status x11 x12)
  at_exit status x11 x12 x same =
      by_test Ends status 0 outcome.Done (if status == 1 then outcome.Uncaught else if status == 3 then outcome.ArenaFull x11 x12 arena else outcome.Exited status x11 x12)
      (λ h. fine outcome.Done (program_ended names arena steps files image held becomes (subst (λ (n : ℕ). IsRun image input steps (Exited n) w e) h x.run) keeps) same)
      (λ n0. by_test Ends status 1 outcome.Uncaught (if status == 3 then outcome.ArenaFull x11 x12 arena else outcome.Exited status x11 x12)
      (λ h. fine outcome.Uncaught (program_uncaught names arena steps files image held becomes (subst (λ (n : ℕ). IsRun image input steps (Exited n) w e) h x.run) keeps) same)
      (λ n1. by_test Ends status 3 (outcome.ArenaFull x11 x12 arena) (outcome.Exited status x11 x12)
      (λ h. fine (outcome.ArenaFull x11 x12 arena) (program_full names arena steps files image x11 x12 held becomes (subst (λ (n : ℕ). IsExit image input steps n x11 x12 w e) h x) keeps) same)
      (λ n3. fine (outcome.Exited status x11 x12) (program_exited names arena steps files image status held becomes n0 n1 n3 x.run keeps) same)))

  going : IsMidway image input steps w e → Midway told input w e (RunFiles names arena steps)
  going m = program_running names arena steps files image held becomes m

  run_passed : (o : Outcome) → RanImage image steps t t' input w e o → Ends (ended_outcome arena o)
  run_passed _ (exited status x11 x12 x same) = at_exit status x11 x12 x same
  run_passed _ (went_on r same) = fine (outcome.Steps steps) (program_stopped names arena steps files image held becomes r keeps) same
  run_passed _ (trapped pc word r same) = fine (outcome.Trapped pc word) (program_trapped names arena steps files image pc word held becomes r keeps) same
  run_passed _ (had_no_memory p q n same) = want p q keeps n same
  run_passed _ (input_fault f l m) = read_failed f l (going m) keeps
  run_passed _ (out_fault f l m) = write_failed f l (in_run (RunFiles names arena steps) (going m)) keeps
  run_passed _ (err_fault f m) = error_failed f (going m) keeps

passed_executed : (names : List (List ℕ)) (told kept : Option Files) (arena steps : ℕ) (files : List (List ℕ)) (image : Image) (bytes : List ℕ) (t t' : Tally) (input : Intake) (w e : List ℕ) (o : Outcome) → AreHeld told names files → KeepsFiles told kept →
    Becomes files arena image → meaning_of bytes ≡ Ok image → Executed bytes steps t t' input w e o → Performed (RunFiles names arena steps) told kept t t' input w e (ended_outcome arena o)
passed_executed names told kept arena steps files image bytes t t' input w e _ held keeps becomes made (of_image other o read h) =
    let same : image ≡ other = cc in
    run_passed names told kept arena steps files other t t' input w e held keeps (subst (λ (i : Image). Becomes files arena i) same becomes) o h
passed_executed names told kept arena steps files image bytes t t' input w e _ held keeps becomes made (not_read kind at bad p q n same) = absurd (cc)
passed_executed names told kept arena steps files image bytes t t' input w e _ held keeps becomes made (read_memory p q n same) = want p q keeps n same

pub built_executed : (names : List (List ℕ)) (told kept : Option Files) (arena steps : ℕ) (files : List (List ℕ)) (bytes : List ℕ) (t t' : Tally) (input : Intake) (w e : List ℕ) (o : Outcome) → AreHeld told names files → KeepsFiles told kept →
    IsElf files arena bytes → Executed bytes steps t t' input w e o → Performed (RunFiles names arena steps) told kept t t' input w e (ended_outcome arena o)
built_executed names told kept arena steps files bytes t t' input w e o held keeps (of_prints text means made) h = run_executed names told kept arena steps files text bytes t t' input w e o held keeps means made h
built_executed names told kept arena steps files bytes t t' input w e o held keeps (of_passes image becomes made bounded) h = passed_executed names told kept arena steps files image bytes t t' input w e o held keeps becomes made h

-- ---- `exec`

module _ (name : List ℕ) (told files : Option Files) (steps : ℕ) (file : List ℕ) (image : Image) (t t' : Tally) (input : Intake) (w e : List ℕ)
    (held : IsHeld told name file) (keeps : KeepsFiles told files) (read : meaning_of file ≡ Ok image) where
  exec_image : (o : Outcome) → RanImage image steps t t' input w e o → Performed (ExecFile name steps) told files t t' input w e o
  exec_image _ (exited status x11 x12 x same) = fine (outcome.Exited status x11 x12) (exec_exited name steps file image status held read x.run keeps) same
  exec_image _ (went_on r same) = fine (outcome.Steps steps) (exec_stopped name steps file image held read r keeps) same
  exec_image _ (trapped pc word r same) = fine (outcome.Trapped pc word) (exec_trapped name steps file image pc word held read r keeps) same
  exec_image _ (had_no_memory p q n same) = want p q keeps n same
  exec_image _ (input_fault f l m) = read_failed f l (executing name steps file image held read m) keeps
  exec_image _ (out_fault f l m) = write_failed f l (in_run (ExecFile name steps) (executing name steps file image held read m)) keeps
  exec_image _ (err_fault f m) = error_failed f (executing name steps file image held read m) keeps

pub exec_executed : (name : List ℕ) (told files : Option Files) (steps : ℕ) (file : List ℕ) (t t' : Tally) (input : Intake) (w e : List ℕ) (o : Outcome) → IsHeld told name file → KeepsFiles told files →
    Executed file steps t t' input w e o → Performed (ExecFile name steps) told files t t' input w e o
exec_executed name told files steps file t t' input w e _ held keeps (of_image image o read h) = exec_image name told files steps file image t t' input w e held keeps read o h
exec_executed name told files steps file t t' input w e _ held keeps (not_read kind at bad p q n same) = fine (outcome.NotElf kind at) (exec_not_elf name steps file kind at held bad p q keeps n) same
exec_executed name told files steps file t t' input w e _ held keeps (read_memory p q n same) = want p q keeps n same

-- ---- `compile`

-- what was saved behind what was loaded
pub has_saved : (told loaded saved : Option Files) (target bytes : List ℕ) (u : Unit {0}) → KeepsFiles told loaded → ((before : Files) → loaded ≡ Some before → Saves before target bytes (Ok u) saved) → HasSaved told saved target bytes
has_saved told loaded saved target bytes u keeps saves = λ files t. let s = saves files (keeps files t) in (s.now, s.tells, s.done, s.others)

pub changes_only : (told loaded saved : Option Files) (target bytes : List ℕ) (e : Failed) → KeepsFiles told loaded → ((before : Files) → loaded ≡ Some before → Saves before target bytes (Err e) saved) → ChangesOnly told saved target
changes_only told loaded saved target bytes e keeps saves = λ files t. let s = saves files (keeps files t) in (s.now, s.tells, s.others)

-- what is saved isn't too long, and is what was compiled
pub bounded : (files : List (List ℕ)) (arena : ℕ) (bytes : List ℕ) → IsElf files arena bytes → length bytes ≤ 8589934592
bounded files arena bytes (of_prints text means made) = made.bounded
bounded files arena bytes (of_passes image becomes made short) = short

pub compiled_of : (files : List (List ℕ)) (arena : ℕ) (bytes : List ℕ) → IsElf files arena bytes → (image : Image) × IsCompiled files arena image
compiled_of files arena bytes (of_prints text means made) = (made.image, prints text means made.compiles)
compiled_of files arena bytes (of_passes image becomes made short) = (image, passes becomes)

pub built_saved : (names : List (List ℕ)) (target : List ℕ) (arena : ℕ) (told saved : Option Files) (files : List (List ℕ)) (bytes : List ℕ) (t t' : Tally) (input : Intake) → AreHeld told names files → IsElf files arena bytes →
    HasSaved told saved target bytes → TakesNothing input → IsSame t t' → Performed (CompileFiles names target arena) told saved t t' input [] [] outcome.Done
built_saved names target arena told saved files bytes t t' input held (of_prints text means made) has nothing same =
    fine outcome.Done (compiled names files target text bytes arena made.image held means made.compiles made.read has refl refl nothing) same
built_saved names target arena told saved files bytes t t' input held (of_passes image becomes made short) has nothing same =
    fine outcome.Done (program_compiled names files target bytes arena image held becomes made has refl refl nothing) same

-- ---- refusals

pub run_said : (names : List (List ℕ)) (told kept : Option Files) (arena steps : ℕ) (files : List (List ℕ)) (line : Vec ℕ Global) (t t' : Tally) (input : Intake) → AreHeld told names files → KeepsFiles told kept →
    (refusal : Refusal) × IsUntyped files refusal × (line.items ≡ refused_line names refusal) → TakesNothing input → IsSame t t' → Performed (RunFiles names arena steps) told kept t t' input [] [] (outcome.Refused line)
run_said names told kept arena steps files line t t' input held keeps h nothing same =
    fine (outcome.Refused line) (subst (λ (x : List ℕ). Comes told kept input [] [] (RunFiles names arena steps) x 2) (sym h.2) (run_refused names arena steps files h.0 held h.1 refl refl keeps nothing)) same

pub compile_said : (names : List (List ℕ)) (target : List ℕ) (arena : ℕ) (told kept : Option Files) (files : List (List ℕ)) (line : Vec ℕ Global) (t t' : Tally) (input : Intake) → AreHeld told names files → KeepsFiles told kept →
    (refusal : Refusal) × IsUntyped files refusal × (line.items ≡ refused_line names refusal) → TakesNothing input → IsSame t t' → Performed (CompileFiles names target arena) told kept t t' input [] [] (outcome.Refused line)
compile_said names target arena told kept files line t t' input held keeps h nothing same =
    fine (outcome.Refused line) (subst (λ (x : List ℕ). Comes told kept input [] [] (CompileFiles names target arena) x 2) (sym h.2) (compile_refused names files target arena h.0 held h.1 refl refl keeps nothing)) same

pub types_said : (names : List (List ℕ)) (told kept : Option Files) (files : List (List ℕ)) (line : Vec ℕ Global) (t t' : Tally) (input : Intake) → AreHeld told names files → KeepsFiles told kept →
    (refusal : Refusal) × IsUntyped files refusal × (line.items ≡ refused_line names refusal) → TakesNothing input → IsSame t t' → Performed (TypesFiles names) told kept t t' input [] [] (outcome.Refused line)
types_said names told kept files line t t' input held keeps h nothing same =
    fine (outcome.Refused line) (subst (λ (x : List ℕ). Comes told kept input [] [] (TypesFiles names) x 2) (sym h.2) (types_refused names files h.0 held h.1 refl refl keeps nothing)) same

pub plan_said : (names : List (List ℕ)) (told kept : Option Files) (files : List (List ℕ)) (line : Vec ℕ Global) (t t' : Tally) (input : Intake) → AreHeld told names files → KeepsFiles told kept →
    (refusal : Refusal) × IsUntyped files refusal × (line.items ≡ refused_line names refusal) → TakesNothing input → IsSame t t' → Performed (PlanFiles names) told kept t t' input [] [] (outcome.Refused line)
plan_said names told kept files line t t' input held keeps h nothing same =
    fine (outcome.Refused line) (subst (λ (x : List ℕ). Comes told kept input [] [] (PlanFiles names) x 2) (sym h.2) (plan_refused names files h.0 held h.1 refl refl keeps nothing)) same

-- ---- texts that are written

module _ (job : Job) (told kept : Option Files) (text : List ℕ) (input : Option (List ℕ)) (i e store store' o o' : ℕ) (out out' err : Option (List ℕ)) (keeps : KeepsFiles told kept) where
  abbrev After : Outcome → Type 0
  After outcome = Came out out' err err (λ w m. Performed job told kept (tally store i o e) (tally store' i o' e) (intake input input) w m outcome)

  text_written : ((w : List ℕ) → w ≡ text → Comes told kept (intake input input) w [] job [] 0) → (u : Unit {0}) → Whole text (Ok u) out out' → store' ≡ store → o' ≡ o → After outcome.Done
  text_written comes u w same counts = record {
    wrote = w.wrote;
    wrote_err = [];
    gains = w.gains;
    gains_err = gains_none err;
    says = fine outcome.Done (comes w.wrote w.all) (record { store = same; input = refl; out = counts; err = refl });
  }

  text_cut : ((w : List ℕ) → IsPrefix w text → CutOff told (intake input input) w [] job) → (failed : Failed) → Whole text (Err failed) out out' → Fails o o' → After outcome.OutFault
  text_cut cut failed w f = record {
    wrote = w.wrote;
    wrote_err = [];
    gains = w.gains;
    gains_err = gains_none err;
    says = write_failed f.1 (omega arith) (cut w.wrote w.front) keeps;
  }

-- ---- `types`

module _ (names : List (List ℕ)) (told kept : Option Files) (files : List (List ℕ)) (text : List ℕ) (input : Option (List ℕ)) (i e store store' o o' : ℕ) (out out' err : Option (List ℕ))
    (held : AreHeld told names files) (keeps : KeepsFiles told kept) (shows : Shows files text) where
  pub types_written : (u : Unit {0}) → Whole text (Ok u) out out' → store' ≡ store → o' ≡ o → After (TypesFiles names) told kept text input i e store store' o o' out out' err keeps outcome.Done
  types_written = text_written (TypesFiles names) told kept text input i e store store' o o' out out' err keeps
      (λ w is. typed names files held (subst (λ (x : List ℕ). Shows files x) (sym is) shows) refl keeps (λ bytes h. h))

  pub types_cut : (failed : Failed) → Whole text (Err failed) out out' → Fails o o' → After (TypesFiles names) told kept text input i e store store' o o' out out' err keeps outcome.OutFault
  types_cut = text_cut (TypesFiles names) told kept text input i e store store' o o' out out' err keeps
      (λ w front. in_types names files text held shows front refl (λ bytes h. h))

-- ---- `plan`

module _ (names : List (List ℕ)) (told kept : Option Files) (files : List (List ℕ)) (text : List ℕ) (input : Option (List ℕ)) (i e store store' o o' : ℕ) (out out' err : Option (List ℕ))
    (held : AreHeld told names files) (keeps : KeepsFiles told kept) (plans : Plans files text) where
  pub plan_written : (u : Unit {0}) → Whole text (Ok u) out out' → store' ≡ store → o' ≡ o → After (PlanFiles names) told kept text input i e store store' o o' out out' err keeps outcome.Done
  plan_written = text_written (PlanFiles names) told kept text input i e store store' o o' out out' err keeps
      (λ w is. planned names files held (subst (λ (x : List ℕ). Plans files x) (sym is) plans) refl keeps (λ bytes h. h))

  pub plan_cut : (failed : Failed) → Whole text (Err failed) out out' → Fails o o' → After (PlanFiles names) told kept text input i e store store' o o' out out' err keeps outcome.OutFault
  plan_cut = text_cut (PlanFiles names) told kept text input i e store store' o o' out out' err keeps
      (λ w front. in_plan names files text held plans front refl (λ bytes h. h))

-- ---- `gen`

module _ (number size : ℕ) (told : Option Files) (input : Option (List ℕ)) (store i e o o' : ℕ) (out out' err : Option (List ℕ)) where
  abbrev Afterwards : Outcome → Type 0
  Afterwards outcome = After (GenText number size) told told (program_text number size) input i e store store o o' out out' err (λ files t. t) outcome

  pub gen_written : (u : Unit {0}) → Whole (program_text number size) (Ok u) out out' → o' ≡ o → Afterwards outcome.Done
  gen_written u w counts = text_written (GenText number size) told told (program_text number size) input i e store store o o' out out' err (λ files t. t)
      (λ w is. generated number size is refl (λ files t. t) (λ bytes h. h)) u w refl counts

  pub gen_cut : (failed : Failed) → Whole (program_text number size) (Err failed) out out' → Fails o o' → Afterwards outcome.OutFault
  gen_cut = text_cut (GenText number size) told told (program_text number size) input i e store store o o' out out' err (λ files t. t)
      (λ w front. in_gen number size front refl (λ bytes h. h))
