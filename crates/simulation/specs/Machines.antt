-- A machine, and the run that it makes from a state.
use Rattle.std.specs.Prelude.{◌≡◌, ◌≢◌, ℕ, zero, suc, List, Option, Some, None}
use Rattle.smlc_base.specs.declared.point.Point.{Point}
use Rattle.simulation.specs.Blocks.{Block, IsPrefix, Grows}
use Rattle.simulation.specs.Runs.{Run, End, Going, Normal, Uncaught, Arena, Stuck}

-- A machine over states of one type. All that is seen of a run is seen of its states.
pub record Machine (S : Type 0) : Type 0 where
  pub step : S → Option S
  pub out : S → List ℕ
  -- how a state without a step has ended
  pub end : S → End
  -- the point that a state passes, if it has a step
  pub pass : S → Option Point
  pub memory : S → List Block
  pub roots : S → List ℕ

-- the next state, or the same where there is none
abbrev pub next_of : {S : Type 0} → S → Option S → S
next_of s None = s
next_of s (Some t) = t

-- the state after n steps
abbrev pub state_at : {S : Type 0} → Machine S → S → ℕ → S
state_at M s zero = s
state_at M s (suc n) = next_of (state_at M s n) (M.step (state_at M s n))

-- a state with a step is going on, and one that has neither a step nor an end is stuck
abbrev pub end_of : {S : Type 0} → Option S → End → End
end_of (Some t) e = Going
end_of None Going = Stuck
end_of None Normal = Normal
end_of None (Uncaught name) = Uncaught name
end_of None Arena = Arena
end_of None Stuck = Stuck

abbrev pub pass_of : {S : Type 0} → Option S → Option Point → Option Point
pass_of None p = None
pass_of (Some t) p = p

-- the run from a state, of a program in which these points stand
abbrev pub run_from : {S : Type 0} → Machine S → List Point → S → Run
run_from M labels s = record {
  labels = labels;
  out = λ n. M.out (state_at M s n);
  end = λ n. end_of (M.step (state_at M s n)) (M.end (state_at M s n));
  pass = λ n. pass_of (M.step (state_at M s n)) (M.pass (state_at M s n));
  memory = λ n. M.memory (state_at M s n);
  roots = λ n. M.roots (state_at M s n);
}

-- a step from this state takes back no output and no block
abbrev pub SteadyAt : {S : Type 0} → Machine S → S → Type 0
SteadyAt {S} M s = (t : S) → M.step s ≡ Some t → IsPrefix (M.out s) (M.out t) × Grows (M.memory s) (M.memory t)

-- nor does any step
abbrev pub IsSteady : {S : Type 0} → Machine S → Type 0
IsSteady {S} M = (s : S) → SteadyAt M s

-- no state that comes from this one is stuck
abbrev pub IsLive : {S : Type 0} → Machine S → S → Type 0
IsLive M s = (n : ℕ) → end_of (M.step (state_at M s n)) (M.end (state_at M s n)) ≢ Stuck
