-- What the program is asked to do.
use Rattle.std.specs.Prelude.{ℕ, ◌≡◌, ◌≤◌, List, [], ◌∷◌, length, map, All, unwrap_or}
use Rattle.smlc_jobs.specs.declared.job.Job.{Job as Held}
use Rattle.smlc_jobs.specs.declared.job.Job.TheVariants as held
use Rattle.smlc_words.specs.Given.{IsArena}
use Rattle.smlc_words.specs.Asks.{Asked, Asks, Compile, Run, Exec, Types, Plan, Gen}

pub data Job : Type 0 where
  -- compile files and run what was made, with an arena of so many words, for so many instructions at the most
  RunFiles : (names : List (List ℕ)) (arena steps : ℕ) → Job
  -- compile files, with an arena of so many words, and save what was made under a name
  CompileFiles : (names : List (List ℕ)) (target : List ℕ) (arena : ℕ) → Job
  -- run an ELF file, for so many instructions at the most
  ExecFile : (name : List ℕ) (steps : ℕ) → Job
  -- write the types of files' names
  TypesFiles : (names : List (List ℕ)) → Job
  -- write the plan of files' closures
  PlanFiles : (names : List (List ℕ)) → Job
  -- write the large program of this number, with so many functions
  GenText : (number size : ℕ) → Job

-- the words of the arena where nothing is said
abbrev pub default_arena : ℕ
default_arena = 8388608

-- how many instructions are done at the most where nothing is said
abbrev pub default_steps : ℕ
default_steps = 1000000000

-- Of what words may ask, files are compiled, run, typed or planned, and large programs are written.
abbrev pub Allows : Asked → Job → Type 0
Allows (Run files words given) (RunFiles names arena steps) = (names ≡ files) × (arena ≡ unwrap_or words default_arena) × (steps ≡ unwrap_or given default_steps)
Allows (Compile files out words) (CompileFiles names target arena) = (names ≡ files) × (target ≡ out) × (arena ≡ unwrap_or words default_arena)
Allows (Exec elf given) (ExecFile name steps) = (name ≡ elf) × (steps ≡ unwrap_or given default_steps)
Allows (Types files) (TypesFiles names) = names ≡ files
Allows (Plan files) (PlanFiles names) = names ≡ files
Allows (Gen n k) (GenText number size) = (number ≡ n) × (size ≡ k)
Allows _ _ = ⊥

-- the words ask for the job
pub record IsAsked (words : List (List ℕ)) (job : Job) : Type 0 where
  pub asked : Asked
  pub asks : Asks words asked
  pub allows : Allows asked job

-- the names that are loaded
abbrev pub files_of : Job → List (List ℕ)
files_of (RunFiles names arena steps) = names
files_of (CompileFiles names target arena) = names
files_of (ExecFile name steps) = name ∷ []
files_of (TypesFiles names) = names
files_of (PlanFiles names) = names
files_of (GenText number size) = []

-- at most 256 files, and an arena in its range
abbrev pub IsInRange : Job → Type 0
IsInRange (RunFiles names arena steps) = (length names ≤ 256) × IsArena arena
IsInRange (CompileFiles names target arena) = (length names ≤ 256) × IsArena arena
IsInRange (ExecFile name steps) = Unit {0}
IsInRange (TypesFiles names) = length names ≤ 256
IsInRange (PlanFiles names) = length names ≤ 256
IsInRange (GenText number size) = Unit {0}

-- the name that is saved, if any
abbrev pub target_of : Job → List ℕ
target_of (RunFiles names arena steps) = []
target_of (CompileFiles names target arena) = target
target_of (ExecFile name steps) = []
target_of (TypesFiles names) = []
target_of (PlanFiles names) = []
target_of (GenText number size) = []

-- the store surely loads the files, and surely saves what is compiled, which has at most 2 ^ 33 bytes
abbrev pub Serves : Job → (List ℕ → Type 0) → (List ℕ → ℕ → Type 0) → Type 0
Serves (RunFiles names arena steps) loads saves = All loads names
Serves (CompileFiles names target arena) loads saves = All loads names × saves target 8589934592
Serves (ExecFile name steps) loads saves = loads name
Serves (TypesFiles names) loads saves = All loads names
Serves (PlanFiles names) loads saves = All loads names
Serves (GenText number size) loads saves = Unit {0}

-- the job that a value of the code is
abbrev pub job_of : Held → Job
job_of (held.Run files arena steps) = RunFiles (map (λ file. file.now) files.items) arena steps
job_of (held.Compile files target arena) = CompileFiles (map (λ file. file.now) files.items) target.now arena
job_of (held.Exec file steps) = ExecFile file.now steps
job_of (held.Types files) = TypesFiles (map (λ file. file.now) files.items)
job_of (held.Plan files) = PlanFiles (map (λ file. file.now) files.items)
job_of (held.Gen number size) = GenText number size
