-- The routines that end a run: for a full arena, and normally.
use Rattle.std.specs.Prelude.{◌≡◌, ℕ, ◌+◌, ◌*◌, ◌<◌, ◌≤◌, ◌^◌, pos, List, [], ◌∷◌, ◌++◌, None}
use Rattle.rv_isa.specs.declared.table.Op.TheVariants.{Addi, Sub, Srli, Ecall}
use Rattle.rv_isa.specs.declared.word.Ins.{Ins}
use Rattle.rv_isa.specs.Word.{ins}
use Rattle.simulation.specs.Runs.{End}
use Rattle.simulation.specs.Machines.{state_at}
use Rattle.rv_run.specs.Run.{Spot, risc}
use Rattle.rv_acts.specs.Emitted.{Emitted}
use Rattle.rv_acts.specs.Fine.{Fine}
use Rattle.rv_pieces.specs.Pair.{la}

-- x11 becomes the number of words below x8, and the run exits with 3
abbrev pub full_code : Emitted → ℕ → List Ins
full_code I p = la 5 p I.entries.arena ++ (ins Sub 11 8 5 (pos 0) ∷ ins Srli 11 11 0 (pos 3) ∷ ins Addi 10 0 0 (pos 3) ∷ ins Addi 17 0 0 (pos 93) ∷ ins Ecall 0 0 0 (pos 0) ∷ [])

-- it exits with 0
abbrev pub halt_code : List Ins
halt_code = ins Addi 10 0 0 (pos 0) ∷ ins Addi 17 0 0 (pos 93) ∷ ins Ecall 0 0 0 (pos 0) ∷ []

-- At p, where so many words are used, and x12 has the words of a block for which there is no room.
pub record Filled (I : Emitted) (used next p : ℕ) (a : Fine) : Type 0 where
  pub at : a.at ≡ p
  pub x0 : a.regs 0 ≡ 0
  pub x8 : a.regs 8 ≡ I.entries.arena + 8 * used
  pub x12 : a.regs 12 ≡ next
  pub within : used ≤ I.entries.arena_words
  pub over : I.entries.arena_words < used + next
  pub small : next < 2 ^ 64

-- at most so many steps, past no entry, lead to this end, and nothing is written
pub record EndsIn (I : Emitted) (most : ℕ) (end : End) (s : Spot) : Type 0 where
  pub count : ℕ
  pub few : count ≤ most
  pub to : Spot
  pub there : state_at (risc I.entries) s count ≡ to
  pub quiet : (k : ℕ) → k < count → (risc I.entries).pass (state_at (risc I.entries) s k) ≡ None
  pub stop : (risc I.entries).step to ≡ None
  pub is : (risc I.entries).end to ≡ end
  pub out : to.world.out ≡ s.world.out
  pub err : to.world.err ≡ s.world.err
