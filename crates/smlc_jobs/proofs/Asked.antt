-- what the words ask of all that is there
use Rattle.std.proofs.Common.{ℕ, List, length, Option, Some, ap, sym, subst, arith}
use Rattle.std.specs.Prelude.{IfSome, IfNone, None, unwrap_or}
use Rattle.smlc_words.specs.Given.{IsArena}
use Rattle.smlc_words.specs.Asks.{Asked, Asks, Run, Compile, Exec, Types, Plan, Gen}
use Rattle.smlc_words.specs.Laws.{IsInRange as WordsInRange}
use Rattle.smlc_words.proofs.Once.{asks_once, asks_in_range}
use Rattle.smlc_jobs.specs.declared.job.Job.{Job as Held}
use Rattle.smlc_jobs.specs.Job.{Job, job_of, RunFiles, CompileFiles, ExecFile, TypesFiles, PlanFiles, GenText, IsAsked, IsInRange, Allows, default_arena}

-- a command that is no job of these, so that the words ask for none
pub none_asked : (words : List (List ℕ)) (a : Asked) → Asks words a → ((job : Job) → Allows a job → ⊥) → (job : Job) → IsAsked words job → ⊥
none_asked words a asks never job h = never job (subst (λ (b : Asked). Allows b job) (asks_once words h.asked a h.asks asks) h.allows)

-- words that ask nothing
pub nothing_asked : (words : List (List ℕ)) → ((a : Asked) → Asks words a → ⊥) → (job : Job) → IsAsked words job → ⊥
nothing_asked words never job h = never h.asked h.asks

pub some_asked : (words : List (List ℕ)) (a : Asked) → Asks words a → (o : Option Held) → IfSome o (λ j. Allows a (job_of j)) → IfSome o (λ j. IsAsked words (job_of j))
some_asked words a asks None h = tt
some_asked words a asks (Some j) h = record { asked = a; asks = asks; allows = h }

pub no_job : (words : List (List ℕ)) (a : Asked) → Asks words a → (o : Option Held) → IfNone o ((job : Job) → Allows a job → ⊥) → IfNone o ((job : Job) → IsAsked words job → ⊥)
no_job words a asks None h = none_asked words a asks h
no_job words a asks (Some j) h = tt

-- the arena where the words give one, and where they don't
arena_in_range : (words : Option ℕ) → IfSome words IsArena → IsArena (unwrap_or words default_arena)
arena_in_range None h = (omega arith, omega arith)
arena_in_range (Some n) h = h

job_in_range : (a : Asked) (job : Job) → WordsInRange a → Allows a job → IsInRange job
job_in_range (Run files words given) (RunFiles names arena steps) r allows =
    let few = r.0.1 in (omega (arith, ap length allows.0, few), subst IsArena (sym allows.1) (arena_in_range words r.1))
job_in_range (Compile files out words) (CompileFiles names target arena) r allows =
    let few = r.0.1 in (omega (arith, ap length allows.0, few), subst IsArena (sym allows.2) (arena_in_range words r.1))
job_in_range (Exec elf given) (ExecFile n steps) r allows = tt
job_in_range (Types files) (TypesFiles names) r allows = let few = r.1 in omega (arith, ap length allows, few)
job_in_range (Plan files) (PlanFiles names) r allows = let few = r.1 in omega (arith, ap length allows, few)
job_in_range (Gen n k) (GenText number size) r allows = tt
job_in_range a job r allows = absurd allows

-- a job that is asked for is in its range
pub asked_in_range : (words : List (List ℕ)) (a : Asked) → Asks words a → (o : Option Held) → IfSome o (λ j. Allows a (job_of j)) → IfSome o (λ j. IsInRange (job_of j))
asked_in_range words a asks None h = tt
asked_in_range words a asks (Some j) h = job_in_range a (job_of j) (asks_in_range words a asks) h
