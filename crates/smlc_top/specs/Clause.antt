-- What the program answers.
use Rattle.std.specs.Prelude.{ℕ, ◌≡◌, ◌≢◌, ◌≤◌, ◌+◌, ◌*◌, List, [], ◌++◌, length, Option, Ok, Err}
use Rattle.smlc_base.specs.declared.place.Place.{Place}
use Rattle.smlc_base.specs.declared.refusal.Refusal.{Refusal}
use Rattle.smlc_edge.specs.Edge.{Files, Rose, Fails}
use Rattle.sml_tree.specs.declared.bare.Bare.{Bare}
use Rattle.sml_types.specs.declared.typed.Typed.{Typed}
use Rattle.sml_types.specs.Typing.{IsTypable}
use Rattle.sml_pipeline.specs.Passes.{IsImageOf}
use Rattle.elf_static.specs.declared.image.Image.{Image}
use Rattle.elf_static.specs.declared.error.ElfKind.{ElfKind}
use Rattle.elf_static.specs.declared.error.ElfError.TheVariants as elf
use Rattle.elf_static.specs.Reading.{meaning_of}
use Rattle.elf_static.specs.Table.{no_entries}
use Rattle.rv_machine.specs.Run.{Runs, Exited, Trapped}
use Rattle.smlc_jobs.specs.declared.outcome.Outcome.{Outcome}
use Rattle.smlc_jobs.specs.declared.outcome.Outcome.TheVariants as outcome
use Rattle.generator.specs.Text.{program_text}
use Rattle.smlc_top.specs.Front.{HasTree, HasTypes, IsUntyped}
use Rattle.print_code.specs.Plain.{Says, StopsAt}
use Rattle.smlc_top.specs.Types.{Shows}
use Rattle.smlc_top.specs.Plan.{Plans}
use Rattle.smlc_jobs.specs.Held.{IsHeld, AreHeld, LoadsUpTo, KeepsFiles, ChangesOnly, HasSaved}
use Rattle.smlc_jobs.specs.Job.{Job, RunFiles, CompileFiles, ExecFile, TypesFiles, PlanFiles, GenText, IsAsked, files_of, target_of}
use Rattle.print_code.specs.Code.{plan_text}
use Rattle.print_code.specs.Prints.{Prints}
use Rattle.smlc_jobs.specs.Texts.{name_at, refused_line, usage_line, memory_line, store_line, input_line, out_line, steps_line, exit_line, full_line, elf_line, trap_line}
use Rattle.smlc_jobs.specs.Write.{IsPrefix}
use Rattle.smlc_jobs.specs.Outcome.{line_of, status_of}
use Rattle.smlc_jobs.specs.Runs.{Tally, IsSame, Intake, TakesNothing, IsRun, IsExit, IsMidway}

-- ---- files

-- the files have a bare tree, it has a typing, and its declarations print this text
pub record Means (files : List (List ℕ)) (text : List ℕ) : Type 0 where
  pub bare : Bare
  pub tree : HasTree files bare
  pub typable : IsTypable bare
  pub says : Says bare 0 text

-- the files have a principal typing, there is a declaration that is no print, and the image is what all passes make of their tree and its type names
pub record Becomes (files : List (List ℕ)) (arena : ℕ) (image : Image) : Type 0 where
  pub typed : Typed
  pub types : HasTypes files typed
  pub place : Place
  pub other : StopsAt typed.bare 0 place
  pub passed : IsImageOf typed.tables.names typed.bare arena image

-- The image prints the text, and does at most 64 instructions for each of its bytes, and 64 more. It has no entries, and its plan says so much.
pub record Compiles (text : List ℕ) (image : Image) : Type 0 where
  pub prints : Prints image text (64 * (1 + length text))
  pub entries : image.entries ≡ no_entries
  pub plan : image.plan ≡ plan_text

-- what is compiled: a program of prints, or any other
pub data IsCompiled (files : List (List ℕ)) (arena : ℕ) (image : Image) : Type 0 where
  prints : (text : List ℕ) → Means files text → Compiles text image → IsCompiled files arena image
  passes : Becomes files arena image → IsCompiled files arena image

-- ---- the whole call

-- What comes of a job where nothing fails: with what the store told and tells, what the input told and tells, and what the run wrote on out and err,
-- the line that err gets then, and the status.
pub data Comes (told now : Option Files) (input : Intake) (out merr : List ℕ) : Job → List ℕ → ℕ → Type 0 where
  ran : (names : List (List ℕ)) (arena steps : ℕ) (files : List (List ℕ)) (image : Image) → AreHeld told names files → Means files out → Compiles out image → IsRun image input steps (Exited 0) out [] →
      merr ≡ [] → KeepsFiles told now → Comes told now input out merr (RunFiles names arena steps) [] 0
  stopped : (names : List (List ℕ)) (arena steps : ℕ) (files : List (List ℕ)) (text : List ℕ) (image : Image) → AreHeld told names files → Means files text → Compiles text image → IsRun image input steps Runs out [] →
      IsPrefix out text → merr ≡ [] → KeepsFiles told now → Comes told now input out merr (RunFiles names arena steps) (steps_line steps) 4
  run_refused : (names : List (List ℕ)) (arena steps : ℕ) (files : List (List ℕ)) (refusal : Refusal) → AreHeld told names files → IsUntyped files refusal →
      out ≡ [] → merr ≡ [] → KeepsFiles told now → TakesNothing input → Comes told now input out merr (RunFiles names arena steps) (refused_line names refusal) 2
  program_ended : (names : List (List ℕ)) (arena steps : ℕ) (files : List (List ℕ)) (image : Image) → AreHeld told names files → Becomes files arena image → IsRun image input steps (Exited 0) out merr →
      KeepsFiles told now → Comes told now input out merr (RunFiles names arena steps) [] 0
  program_uncaught : (names : List (List ℕ)) (arena steps : ℕ) (files : List (List ℕ)) (image : Image) → AreHeld told names files → Becomes files arena image → IsRun image input steps (Exited 1) out merr →
      KeepsFiles told now → Comes told now input out merr (RunFiles names arena steps) [] 1
  program_full : (names : List (List ℕ)) (arena steps : ℕ) (files : List (List ℕ)) (image : Image) (used next : ℕ) → AreHeld told names files → Becomes files arena image → IsExit image input steps 3 used next out merr →
      KeepsFiles told now → Comes told now input out merr (RunFiles names arena steps) (full_line used next arena) 3
  program_exited : (names : List (List ℕ)) (arena steps : ℕ) (files : List (List ℕ)) (image : Image) (status : ℕ) → AreHeld told names files → Becomes files arena image → status ≢ 0 → status ≢ 1 → status ≢ 3 → IsRun image input steps (Exited status) out merr →
      KeepsFiles told now → Comes told now input out merr (RunFiles names arena steps) (exit_line status) 0
  program_stopped : (names : List (List ℕ)) (arena steps : ℕ) (files : List (List ℕ)) (image : Image) → AreHeld told names files → Becomes files arena image → IsRun image input steps Runs out merr →
      KeepsFiles told now → Comes told now input out merr (RunFiles names arena steps) (steps_line steps) 4
  program_trapped : (names : List (List ℕ)) (arena steps : ℕ) (files : List (List ℕ)) (image : Image) (pc word : ℕ) → AreHeld told names files → Becomes files arena image → IsRun image input steps (Trapped pc word) out merr →
      KeepsFiles told now → Comes told now input out merr (RunFiles names arena steps) (trap_line pc word) 9
  program_compiled : (names files : List (List ℕ)) (target bytes : List ℕ) (arena : ℕ) (image : Image) → AreHeld told names files → Becomes files arena image → meaning_of bytes ≡ Ok image →
      HasSaved told now target bytes → out ≡ [] → merr ≡ [] → TakesNothing input → Comes told now input out merr (CompileFiles names target arena) [] 0
  compiled : (names files : List (List ℕ)) (target text bytes : List ℕ) (arena : ℕ) (image : Image) → AreHeld told names files → Means files text → Compiles text image → meaning_of bytes ≡ Ok image →
      HasSaved told now target bytes → out ≡ [] → merr ≡ [] → TakesNothing input → Comes told now input out merr (CompileFiles names target arena) [] 0
  compile_refused : (names files : List (List ℕ)) (target : List ℕ) (arena : ℕ) (refusal : Refusal) → AreHeld told names files → IsUntyped files refusal →
      out ≡ [] → merr ≡ [] → KeepsFiles told now → TakesNothing input → Comes told now input out merr (CompileFiles names target arena) (refused_line names refusal) 2
  exec_exited : (name : List ℕ) (steps : ℕ) (file : List ℕ) (image : Image) (status : ℕ) → IsHeld told name file → meaning_of file ≡ Ok image → IsRun image input steps (Exited status) out merr →
      KeepsFiles told now → Comes told now input out merr (ExecFile name steps) (exit_line status) 0
  exec_stopped : (name : List ℕ) (steps : ℕ) (file : List ℕ) (image : Image) → IsHeld told name file → meaning_of file ≡ Ok image → IsRun image input steps Runs out merr →
      KeepsFiles told now → Comes told now input out merr (ExecFile name steps) (steps_line steps) 4
  exec_trapped : (name : List ℕ) (steps : ℕ) (file : List ℕ) (image : Image) (pc word : ℕ) → IsHeld told name file → meaning_of file ≡ Ok image → IsRun image input steps (Trapped pc word) out merr →
      KeepsFiles told now → Comes told now input out merr (ExecFile name steps) (trap_line pc word) 9
  exec_not_elf : (name : List ℕ) (steps : ℕ) (file : List ℕ) (kind : ElfKind) (at : ℕ) → IsHeld told name file → meaning_of file ≡ Err (elf.NotElf kind at) →
      out ≡ [] → merr ≡ [] → KeepsFiles told now → TakesNothing input → Comes told now input out merr (ExecFile name steps) (elf_line kind at) 8
  typed : (names files : List (List ℕ)) → AreHeld told names files → Shows files out →
      merr ≡ [] → KeepsFiles told now → TakesNothing input → Comes told now input out merr (TypesFiles names) [] 0
  types_refused : (names files : List (List ℕ)) (refusal : Refusal) → AreHeld told names files → IsUntyped files refusal →
      out ≡ [] → merr ≡ [] → KeepsFiles told now → TakesNothing input → Comes told now input out merr (TypesFiles names) (refused_line names refusal) 2
  planned : (names files : List (List ℕ)) → AreHeld told names files → Plans files out →
      merr ≡ [] → KeepsFiles told now → TakesNothing input → Comes told now input out merr (PlanFiles names) [] 0
  plan_refused : (names files : List (List ℕ)) (refusal : Refusal) → AreHeld told names files → IsUntyped files refusal →
      out ≡ [] → merr ≡ [] → KeepsFiles told now → TakesNothing input → Comes told now input out merr (PlanFiles names) (refused_line names refusal) 2
  generated : (number size : ℕ) → out ≡ program_text number size → merr ≡ [] → KeepsFiles told now → TakesNothing input → Comes told now input out merr (GenText number size) [] 0

-- a run that was going on when a fault came, with what it had written
pub data Midway (told : Option Files) (input : Intake) (out merr : List ℕ) : Job → Type 0 where
  running : (names : List (List ℕ)) (arena steps : ℕ) (files : List (List ℕ)) (text : List ℕ) (image : Image) → AreHeld told names files → Means files text → Compiles text image → IsMidway image input steps out merr →
      IsPrefix out text → merr ≡ [] → Midway told input out merr (RunFiles names arena steps)
  program_running : (names : List (List ℕ)) (arena steps : ℕ) (files : List (List ℕ)) (image : Image) → AreHeld told names files → Becomes files arena image → IsMidway image input steps out merr → Midway told input out merr (RunFiles names arena steps)
  executing : (name : List ℕ) (steps : ℕ) (file : List ℕ) (image : Image) → IsHeld told name file → meaning_of file ≡ Ok image → IsMidway image input steps out merr → Midway told input out merr (ExecFile name steps)

-- what was going on when a write on out failed: a run, or the text of types, of a plan or of a large program, of which a prefix was written
pub data CutOff (told : Option Files) (input : Intake) (out merr : List ℕ) : Job → Type 0 where
  in_run : (job : Job) → Midway told input out merr job → CutOff told input out merr job
  in_types : (names files : List (List ℕ)) (text : List ℕ) → AreHeld told names files → Shows files text → IsPrefix out text → merr ≡ [] → TakesNothing input → CutOff told input out merr (TypesFiles names)
  in_plan : (names files : List (List ℕ)) (text : List ℕ) → AreHeld told names files → Plans files text → IsPrefix out text → merr ≡ [] → TakesNothing input → CutOff told input out merr (PlanFiles names)
  in_gen : (number size : ℕ) → IsPrefix out (program_text number size) → merr ≡ [] → TakesNothing input → CutOff told input out merr (GenText number size)

-- what comes whatever the job, or without one
pub data Plain (words : List (List ℕ)) : List ℕ → ℕ → Type 0 where
  no_command : ((job : Job) → IsAsked words job → ⊥) → Plain words usage_line 7
  no_memory : Plain words memory_line 6

-- what err took of the line that names what failed: all of it, or, where its own count rose too, a prefix
pub data Names (before after : Tally) (line : List ℕ) : List ℕ → Type 0 where
  whole : Names before after line line
  part : (front : List ℕ) → Rose before.err after.err → IsPrefix front line → Names before after line front

-- The status, with what was written on out and err.
-- Where a count of faults moved at all the status is 5. 5 comes only where one rose, and err then has the line that names the object
-- whose count rose, or a prefix of the line that it failed to take. Only a run takes input, and has left what the machine didn't read.
pub data Answers (words : List (List ℕ)) (told now : Option Files) (before after : Tally) (input : Intake) (out err : List ℕ) : ℕ → Type 0 where
  answered : (job : Job) (merr line : List ℕ) (status : ℕ) → IsAsked words job → Comes told now input out merr job line status →
      IsSame before after → err ≡ merr ++ line → Answers words told now before after input out err status
  plain : (line : List ℕ) (status : ℕ) → Plain words line status → out ≡ [] → KeepsFiles told now → TakesNothing input →
      IsSame before after → err ≡ line → Answers words told now before after input out err status
  not_loaded : (job : Job) (i : ℕ) → IsAsked words job → LoadsUpTo told (files_of job) i → Rose before.store after.store → out ≡ [] → KeepsFiles told now → TakesNothing input → Names before after (store_line (name_at (files_of job) i)) err →
      Answers words told now before after input out err 5
  not_saved : (names files : List (List ℕ)) (target : List ℕ) (arena : ℕ) (image : Image) → IsAsked words (CompileFiles names target arena) → AreHeld told names files → IsCompiled files arena image →
      Rose before.store after.store → out ≡ [] → ChangesOnly told now target → TakesNothing input → Names before after (store_line target) err →
      Answers words told now before after input out err 5
  input_failed : (job : Job) (merr front : List ℕ) → IsAsked words job → Rose before.input after.input → Midway told input out merr job → KeepsFiles told now →
      Names before after input_line front → err ≡ merr ++ front → Answers words told now before after input out err 5
  out_failed : (job : Job) (merr front : List ℕ) → IsAsked words job → Rose before.out after.out → CutOff told input out merr job → KeepsFiles told now →
      Names before after out_line front → err ≡ merr ++ front → Answers words told now before after input out err 5
  err_failed : (job : Job) → IsAsked words job → Rose before.err after.err → Midway told input out err job → KeepsFiles told now → Answers words told now before after input out err 5
  untold : (job : Job) (merr line front : List ℕ) (status : ℕ) → IsAsked words job → Rose before.err after.err → Comes told now input out merr job line status →
      IsPrefix front line → err ≡ merr ++ front → Answers words told now before after input out err 5
  untold_plain : (line : List ℕ) (status : ℕ) → Plain words line status → Rose before.err after.err → out ≡ [] → KeepsFiles told now → TakesNothing input → IsPrefix err line →
      Answers words told now before after input out err 5

-- ---- its parts

-- the job was done, up to the line that tells it
pub data Performed (job : Job) (told now : Option Files) (before after : Tally) (input : Intake) (out merr : List ℕ) : Outcome → Type 0 where
  fine : (o : Outcome) → Comes told now input out merr job (line_of (files_of job) (target_of job) o) (status_of o) → IsSame before after → Performed job told now before after input out merr o
  want : out ≡ [] → merr ≡ [] → KeepsFiles told now → TakesNothing input → IsSame before after → Performed job told now before after input out merr outcome.NoMemory
  load_failed : (i : ℕ) → LoadsUpTo told (files_of job) i → Fails before.store after.store → out ≡ [] → merr ≡ [] → KeepsFiles told now → TakesNothing input → before.err ≤ after.err → Performed job told now before after input out merr (outcome.LoadFault i)
  save_failed : (names files : List (List ℕ)) (target : List ℕ) (arena : ℕ) (image : Image) → job ≡ CompileFiles names target arena → AreHeld told names files → IsCompiled files arena image →
      Fails before.store after.store → out ≡ [] → merr ≡ [] → ChangesOnly told now target → TakesNothing input → before.err ≤ after.err →
      Performed job told now before after input out merr outcome.SaveFault
  read_failed : Fails before.input after.input → before.err ≤ after.err → Midway told input out merr job → KeepsFiles told now → Performed job told now before after input out merr outcome.InputFault
  write_failed : Rose before.out after.out → before.err ≤ after.err → CutOff told input out merr job → KeepsFiles told now → Performed job told now before after input out merr outcome.OutFault
  error_failed : Fails before.err after.err → Midway told input out merr job → KeepsFiles told now → Performed job told now before after input out merr outcome.ErrFault
