-- A typed program is never stuck.
use Rattle.std.proofs.Common.{◌≡◌, ◌≢◌, length, ℕ, zero, suc, true, false, List, [], Option, Some, None, refl, sym, ap, ◌∙◌, subst, ◌⊎◌, inl, inr, ⊎_elim}
use Rattle.std.specs.Prelude.{slice_get}
use Rattle.sml_tree.specs.declared.bare.Bare.{Bare}
use Rattle.sml_tree.specs.declared.bare.Node.{Node}
use Rattle.sml_tree.specs.declared.bare.Node.TheVariants as node
use Rattle.sml_tree.specs.Sets.{has}
use Rattle.sml_tree.specs.BareParts.{within, at_node}
use Rattle.sml_tree.specs.IsBare.{IsBare, nest_of}
use Rattle.sml_types.specs.Tree.{Variable}
use Rattle.sml_types.specs.Typing.{Typing, IsTyping}
use Rattle.simulation.specs.Machines.{state_at, next_of, end_of}
use Rattle.simulation.specs.Runs as runs
use Rattle.simulation.specs.Stores.{acted, configured, wrote, machine_of}
use Rattle.sml_def.specs.Memory.{Memory, Next}
use Rattle.sml_def.specs.State.{Control, Eval, Ret, Apply, Raise, Eq, End, Ending, Normal, Uncaught}
use Rattle.sml_def.specs.Step.{step}
use Rattle.sml_def.specs.Run as run
use Rattle.sml_def.proofs.Sound.{points_stand_once}
use Rattle.sml_sound.specs.NeverStuck.{NeverStuck, SourceIsSound}
use Rattle.sml_sound.specs.TypedStates.{one, ControlTy, IsExp, IsTyped}
use Rattle.sml_sound.proofs.SafeActs.{Safe, Ready}
use Rattle.sml_sound.proofs.Safe.{step_safe}

module _ (p : Bare) (t : Typing) (typing : IsTyping p t) (bare : IsBare p) where
  abbrev Goes : run.State → Type 0
  Goes s = (r : run.State) × ((machine_of (run.source p)).step s ≡ Some r) × IsTyped p t r

  abbrev memory_of : run.State → Memory
  memory_of s = record { store = s.store; input = s.control.input }

  acts : (s : run.State) (o : Next) → Safe p t s.store o → (r : run.State) × (acted run.view s.out s.store o ≡ Some r) × IsTyped p t r
  acts s None h = absurd h
  acts s (Some a) h = (
    record { control = a.next; out = wrote s.out a.told; store = h.after },
    ap (configured a.next (wrote s.out a.told)) h.done,
    record { sig = h.sig; store = h.store; descend = h.descend; control = h.control },
  )

  -- a state is an end, or its next state is typed
  ends_or_goes : (s : run.State) → IsTyped p t s → ((e : Ending) × (s.control.control ≡ End e)) ⊎ Goes s
  ends_or_goes s h = go s.control.control refl h.control
    where
      on : (c : Control) → s.control.control ≡ c → ControlTy p t h.sig c → ((e : Ending) → c ≡ End e → ⊥) → Goes s
      on c e hc never =
          let ready : Ready p t (memory_of s) h.sig = record { typing = typing; bare = bare; store = h.store; descend = h.descend } in
          acts s (step p (memory_of s) s.control.control) (subst (λ c. Safe p t s.store (step p (memory_of s) c)) (sym e) (step_safe ready c hc never))

      go : (c : Control) → s.control.control ≡ c → ControlTy p t h.sig c → ((e : Ending) × (s.control.control ≡ End e)) ⊎ Goes s
      go (End e) q hc = inl (e, q)
      go (Eval i env k) q hc = inr (on (Eval i env k) q hc (λ e x. cc))
      go (Ret v k) q hc = inr (on (Ret v k) q hc (λ e x. cc))
      go (Apply f v k) q hc = inr (on (Apply f v k) q hc (λ e x. cc))
      go (Raise x k) q hc = inr (on (Raise x k) q hc (λ e x. cc))
      go (Eq pairs b k) q hc = inr (on (Eq pairs b k) q hc (λ e x. cc))

  no_step : (s : run.State) (e : Ending) → s.control.control ≡ End e → (machine_of (run.source p)).step s ≡ None
  no_step s e q = ap (λ c. acted run.view s.out s.store (step p (memory_of s) c)) q

  next_typed : (s : run.State) → IsTyped p t s → IsTyped p t (next_of s ((machine_of (run.source p)).step s))
  next_typed s h =
      ⊎_elim (λ e. subst (λ o. IsTyped p t (next_of s o)) (sym (no_step s e.0 e.1)) h) (λ n. subst (λ o. IsTyped p t (next_of s o)) (sym n.1) n.2) (ends_or_goes s h)

  pub all_typed : (s : run.State) → IsTyped p t s → (n : ℕ) → IsTyped p t (state_at (machine_of (run.source p)) s n)
  all_typed s h zero = h
  all_typed s h (suc n) = next_typed (state_at (machine_of (run.source p)) s n) (all_typed s h n)

  an_end : (e : Ending) → end_of {S = run.State} None (run.end_of (End e)) ≢ runs.Stuck
  an_end Normal q = cc
  an_end (Uncaught name) q = cc

  not_stuck : (s : run.State) → IsTyped p t s → end_of ((machine_of (run.source p)).step s) (run.end_of s.control.control) ≢ runs.Stuck
  not_stuck s h q =
      ⊎_elim (λ e. an_end e.0 (ap (λ c. end_of {S = run.State} None (run.end_of c)) (sym e.1) ∙ ap (λ o. end_of o (run.end_of s.control.control)) (sym (no_step s e.0 e.1)) ∙ q)) (λ n. going n.0 (run.end_of s.control.control) (ap (λ o. end_of o (run.end_of s.control.control)) (sym n.1) ∙ q)) (ends_or_goes s h)
    where
      going : (r : run.State) (e : runs.End) → end_of (Some r) e ≡ runs.Stuck → ⊥
      going r e q = cc

  -- the root is an expression
  root_exp : (k : ℕ) → within false nest_of k p.nodes 0 ≡ true → IsExp p t 0
  root_exp zero h = cc
  root_exp (suc k) h = go (slice_get p.nodes 0) refl h
    where
      go : (o : Option Node) → slice_get p.nodes 0 ≡ o → at_node false nest_of (within false nest_of k p.nodes) 0 o ≡ true → IsExp p t 0
      go (Some (node.Let d e)) q h = (node.Let d e, q, refl)
      go (Some node.Finish) q h = (node.Finish, q, refl)
      go None q h = cc
      go (Some _) q h = cc

  pub start_typed : (input : List ℕ) → IsTyped p t (run.start input)
  start_typed input = record {
    sig = [];
    store = tt;
    descend = tt;
    control = record {
      family = one Variable (t.types 0);
      keeps = λ v e. e;
      exp = root_exp (length p.nodes) bare.nest;
      ty = refl;
      fixed = inl refl;
      knows = λ g a. (a.1, (λ x m. let none : has [] x ≡ true = sym (ap (λ xs. has xs x) bare.bound) ∙ m in cc));
      takes = tt;
    };
  }

pub never_stuck : NeverStuck
never_stuck p bare t typing input n =
    not_stuck p t typing bare (state_at (machine_of (run.source p)) (run.start input) n) (all_typed p t typing bare (run.start input) (start_typed p t typing bare input) n)

pub source_is_sound : SourceIsSound
source_is_sound p bare t typing input = record {
  never_stuck = never_stuck p bare t typing input;
  once = λ q not_eq. points_stand_once p bare q;
}
