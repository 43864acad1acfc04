-- The pieces put together.
use Rattle.std.proofs.Common.{◌≡◌, ℕ, true, List, Some, None, refl, ap, ◌∙◌, subst, map}
use Rattle.std.specs.Prelude.{cond}
use Rattle.std.specs.Option.{option_map}
use Rattle.sml_tree.specs.declared.bare.Bare.{Bare}
use Rattle.sml_tree.specs.IsBare.{IsBare, sort_of}
use Rattle.sml_types.specs.declared.tables.TypeName.{TypeName}
use Rattle.sml_types.specs.Typing.{Typing, IsTyping}
use Rattle.simulation.specs.Blocks.{StandsAt}
use Rattle.simulation.specs.Machines.{state_at}
use Rattle.simulation.specs.Stores.{machine_of}
use Rattle.simulation.proofs.Machines.{live_at}
use Rattle.sml_def.specs.Run.{State, view, source, start}
use Rattle.sml_def.specs.State.{Control, Eval, Ret, Apply, Raise, Eq, End, Focus}
use Rattle.sml_def.proofs.Cut.{environments_are_cut}
use Rattle.sml_def.proofs.Sited.{blocks_have_sites}
use Rattle.sml_sound.specs.TypedStates.{Entry, ControlTy, IsTyped}
use Rattle.sml_sound.proofs.NeverStuck.{never_stuck, all_typed, start_typed}
use Rattle.lambda_ir.specs.Proper.{is_proper, proper_step}
use Rattle.lambda_ir.specs.Run.{view_item, lambda_machine, start_lambda}
use Rattle.lambda_ir.specs.Step.{step_term}
use Rattle.lambda_laws.specs.Keeps.{RunIsReady, LambdaKeeps, LambdaGoesInStep}
use Rattle.lambda_laws.specs.Lower.{lower, lower_memory, lower_state}
use Rattle.lambda_laws.specs.Make.{lambda_of}
use Rattle.sane_laws.specs.Uses.{UsesWell}
use Rattle.sane_laws.proofs.Runs.{runs_are_sane}
use Rattle.lambda_laws.proofs.FreeSame.{same_free}
use Rattle.simulation.proofs.Lockstep.{memory_over}
use Rattle.lambda_laws.proofs.Keeps.{memory_of, doing, view_same, machine_keeps, steps_same}
use Rattle.lambda_laws.proofs.Proper.{EvalsExpression, proper_low}
use Rattle.lambda_laws.proofs.TypedEqual.{control_seen}
use Rattle.lambda_laws.proofs.TypedMet.{control_met}
use Rattle.lambda_laws.proofs.TypedReady.{run_ready}

module _ (ts : List TypeName) (p : Bare) (bare : IsBare p) (t : Typing) (typing : IsTyping p t) (input : List ℕ) where
  abbrev at : ℕ → State
  at n = state_at (machine_of (source p)) (start input) n

  -- the state that stands for this one is proper
  abbrev IsFine : State → Type 0
  IsFine s = is_proper (lambda_of ts p) (lower_memory ts p.nodes (memory_of s)) s.control.control ≡ true

  does : (s : State) → IsFine s → doing ts p (proper_step (lambda_of ts p)) s ≡ doing ts p (step_term (lambda_of ts p)) s
  does s h = ap (λ b. cond b (doing ts p (step_term (lambda_of ts p)) s) None) h

  typed : (n : ℕ) → IsTyped p t (at n)
  typed n = all_typed p t typing bare (start input) (start_typed p t typing bare input) n

  evaluates : (sig : List Entry) (n : ℕ) (c : Control) → ControlTy p t sig c → EvalsExpression ts p (memory_of (at n)) c
  evaluates sig n (Eval i env k) h = ap (option_map sort_of) h.exp.1 ∙ ap Some h.exp.2
  evaluates sig n (Ret v k) h = tt
  evaluates sig n (Apply f v k) h = tt
  evaluates sig n (Raise x k) h = tt
  evaluates sig n (Eq pairs q k) h = tt
  evaluates sig n (End e) h = tt

  fine : UsesWell p → (n : ℕ) → IsFine (at n)
  fine uses n =
      let h = typed n in
      let sane = runs_are_sane p bare uses t typing input n in
      let c = (at n).control.control in
      proper_low ts p (memory_of (at n)) (same_free ts p bare) c (evaluates h.sig n c h.control) (environments_are_cut p bare.numbered bare.bound input n).control sane (control_met ts p t typing bare h.sig (at n).store h.store c h.control sane) (control_seen p t typing bare h.sig (at n).store h.store c h.control)

  ready : RunIsReady p input
  ready = run_ready p t typing bare input

  steps_proper : UsesWell p → (n : ℕ) → state_at (machine_of (lambda_machine (lambda_of ts p))) (start_lambda input) n ≡ lower_state ts p.nodes (at n)
  steps_proper uses n =
      steps_same ts p bare (same_free ts p bare) (proper_step (lambda_of ts p)) IsFine does input (λ n. (live_at (machine_of (source p)) (start input) (never_stuck p bare t typing input) n, (ready n, fine uses n))) n

pub lambda_goes_in_step : LambdaGoesInStep
lambda_goes_in_step ts p bare t typing input = record {
  proper = steps_proper ts p bare t typing input;
  loose = λ n. steps_same ts p bare (same_free ts p bare) (step_term (lambda_of ts p)) (λ s. Unit {0}) (λ s u. refl) input (λ n. (live_at (machine_of (source p)) (start input) (never_stuck p bare t typing input) n, (ready ts p bare t typing input n, tt))) n;
}

pub lambda_keeps : LambdaKeeps
lambda_keeps ts p bare t typing = record {
  keeps = λ uses input. machine_keeps ts p bare (same_free ts p bare) (proper_step (lambda_of ts p)) (IsFine ts p bare t typing input) (does ts p bare t typing input) input (λ n. (ready ts p bare t typing input n, fine ts p bare t typing input uses n));
  loosely = λ input. machine_keeps ts p bare (same_free ts p bare) (step_term (lambda_of ts p)) (λ s. Unit {0}) (λ s u. refl) input (λ n. (ready ts p bare t typing input n, tt));
  slim = λ uses input n a b q stands among.
      let same = ap (λ s. map view_item s.store) (steps_proper ts p bare t typing input uses n) ∙ memory_over view view_item (λ (c : Focus). c) (lower ts p.nodes) (view_same ts p.nodes) (at ts p bare t typing input n).store in
      blocks_have_sites p bare input n a b q (subst (λ m. StandsAt m a b) same stands) among;
}
