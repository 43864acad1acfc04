-- the run of a loaded image
use Rattle.std.proofs.Common.{◌≡◌, ◌≢◌, ℕ, ◌≤◌, ◌<◌, Err, List, [], ◌++◌, Option, Some, refl, sym, ap, subst, ◌∙◌}
use Rattle.elf_static.specs.declared.image.Image.{Image}
use Rattle.rv_machine.specs.declared.hart.End.{End}
use Rattle.rv_machine.specs.declared.hart.End.TheVariants as ended
use Rattle.rv_machine.specs.State.{State, reg}
use Rattle.rv_machine.specs.Load.{loaded}
use Rattle.rv_machine.specs.Run.{Cut, Runs, Trapped, Turn, Knows, IsFault, Stands, behaviour, RunsTo, mend_of}
use Rattle.smlc_jobs.specs.declared.outcome.Outcome.{Outcome}
use Rattle.smlc_jobs.specs.Runs.{begun}
use Rattle.smlc_jobs.specs.Runs.{Tally, Intake, intake, TakesNothing, Came, IsRun, IsExit, IsMidway}
use Rattle.elf_static.specs.declared.error.ElfError.{ElfError}
use Rattle.elf_static.specs.declared.error.ElfError.TheVariants as elf
use Rattle.elf_static.specs.Reading.{meaning_of}
use Rattle.smlc_jobs.specs.Execute.{RanImage, Executed, not_read, read_memory, unread}
use Rattle.smlc_jobs.proofs.Faults.{all_same}

-- so many instructions were done, all of them where the end is Steps, and the machine is in this state
pub record Did (image : Image) (input : Intake) (steps : ℕ) (t : State) (end : End) (out err : List ℕ) : Type 0 where
  pub count : ℕ
  pub within : count ≤ steps
  pub all : end ≡ ended.Steps → count ≡ steps
  pub fewer : IsFault end → count < steps
  pub cuts : List Cut
  pub ends : (behaviour count (begun image input.before) cuts).mend ≡ mend_of end
  pub wrote : (behaviour count (begun image input.before) cuts).world.out ≡ out
  pub wrote_err : (behaviour count (begun image input.before) cuts).world.err ≡ err
  pub stands : Stands (Some end) input.before (behaviour count (begun image input.before) cuts).world.state t
  pub left : Knows (behaviour count (begun image input.before) cuts).world.input input.left

did : (image : Image) (steps : ℕ) (t : State) (left left_now out out_now err err_now : Option (List ℕ)) (end : End) →
    (r : RunsTo steps (loaded image) t left left_now out out_now err err_now end) → Did image (intake left left_now) steps t end r.wrote r.wrote_err
did image steps t left left_now out out_now err err_now end r =
    let k = r.ran.ran [] in
    record {
      count = r.count;
      within = r.within;
      all = r.all;
      fewer = r.fewer;
      cuts = r.ran.cuts ++ [];
      ends = ap (λ (t : Turn). t.mend) k;
      wrote = ap (λ (t : Turn). t.world.out) k;
      wrote_err = ap (λ (t : Turn). t.world.err) k;
      stands = subst (λ (s : State). Stands (Some end) left s t) (sym (ap (λ (t : Turn). t.world.state) k)) r.stands;
      left = subst (λ (told : Option (List ℕ)). Knows told left_now) (sym (ap (λ (t : Turn). t.world.input) k)) r.ran.knows;
    }

-- such a run, with what was written, as what it came to
pub came_did : (image : Image) (steps : ℕ) (start t : State) (left left_now out out_now err err_now : Option (List ℕ)) (end : End) → start ≡ loaded image →
    RunsTo steps start t left left_now out out_now err err_now end → (before after : Tally) (o : Outcome) → ((w e : List ℕ) → Did image (intake left left_now) steps t end w e → RanImage image steps before after (intake left left_now) w e o) →
    Came out out_now err err_now (λ wrote wrote_err. RanImage image steps before after (intake left left_now) wrote wrote_err o)
came_did image steps start t left left_now out out_now err err_now end p r before after o says =
    let r' : RunsTo steps (loaded image) t left left_now out out_now err err_now end = subst (λ (x : State). RunsTo steps x t left left_now out out_now err err_now end) p r in
    record {
      wrote = r'.wrote;
      wrote_err = r'.wrote_err;
      gains = r'.gains;
      gains_err = r'.gains_err;
      says = says r'.wrote r'.wrote_err (did image steps t left left_now out out_now err err_now end r');
    }

module _ (image : Image) (input : Intake) (steps : ℕ) (t : State) (out err : List ℕ) where
  pub run_exit : (n x11 x12 : ℕ) → x11 ≡ reg t 11 → x12 ≡ reg t 12 → Did image input steps t (ended.Exit n) out err → IsExit image input steps n x11 x12 out err
  run_exit n x11 x12 first second d = record {
    run = record { count = d.count; within = d.within; all = λ h. absurd (cc); cuts = d.cuts; ends = d.ends; wrote = d.wrote; wrote_err = d.wrote_err; left = d.left };
    in_x11 = ap (λ (s : State). reg s 11) (sym d.stands) ∙ sym first;
    in_x12 = ap (λ (s : State). reg s 12) (sym d.stands) ∙ sym second;
  }

  pub run_trapped : (pc word : ℕ) → Did image input steps t (ended.Trap pc word) out err → IsRun image input steps (Trapped pc word) out err
  run_trapped pc word d = record { count = d.count; within = d.within; all = λ h. absurd (cc); cuts = d.cuts; ends = d.ends; wrote = d.wrote; wrote_err = d.wrote_err; left = d.left }

  pub run_stopped : Did image input steps t ended.Steps out err → IsRun image input steps Runs out err
  run_stopped d = record { count = d.count; within = d.within; all = λ h. d.all refl; cuts = d.cuts; ends = d.ends; wrote = d.wrote; wrote_err = d.wrote_err; left = d.left }

  pub read_midway : Did image input steps t ended.ReadFault out err → IsMidway image input steps out err
  read_midway d = record { count = d.count; fewer = d.fewer tt; cuts = d.cuts; goes_on = d.ends; wrote = d.wrote; wrote_err = d.wrote_err; left = d.left }

  pub write_midway : Did image input steps t ended.WriteFault out err → IsMidway image input steps out err
  write_midway d = record { count = d.count; fewer = d.fewer tt; cuts = d.cuts; goes_on = d.ends; wrote = d.wrote; wrote_err = d.wrote_err; left = d.left }

-- a file that wasn't read
pub unread_executed : (bytes : List ℕ) (steps : ℕ) (t : Tally) (input : Intake) (e : ElfError) → (e ≢ elf.NoMemory → meaning_of bytes ≡ Err e) → TakesNothing input → Executed bytes steps t t input [] [] (unread e)
unread_executed bytes steps t input (elf.NotElf kind at) h nothing = not_read kind at (h (λ k. cc)) refl refl nothing (all_same t)
unread_executed bytes steps t input elf.NoMemory h nothing = read_memory refl refl nothing (all_same t)
