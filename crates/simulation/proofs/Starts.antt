-- A simulation may begin after steps that b does alone, as a program's first instructions do.
use Rattle.std.proofs.Common.{◌≡◌, ℕ, suc, List, Bool, inr, lt-suc_self}
use Rattle.smlc_base.specs.declared.point.Point.{Point}
use Rattle.simulation.specs.Keeps.{AllNamed}
use Rattle.simulation.specs.Machines.{Machine}
use Rattle.simulation.proofs.Machines.{Walks, stay, Calm, Makes, StateMove, both_end, both_go, both_pass, b_fills, IsMachineSimulation}

-- moves to related states are moves to states of a wider relation
pub move_map : {S T : Type 0} (full : Bool) (A : Machine S) (B : Machine T) (labels : List Point) (E : S → T → Type 0) (R Wide : ℕ → S → T → Type 0) → ((w : ℕ) (s : S) (t : T) → R w s t → Wide w s t) → (w : ℕ) (s : S) (t : T) → StateMove full A B labels E R w s t → StateMove full A B labels E Wide w s t
move_map full A B labels E R Wide f w s t (both_end g e) = both_end g e
move_map full A B labels E R Wide f w s t (both_go g m) =
    both_go (record { c = g.c; d = g.d; wait = g.wait; to_a = g.to_a; to_b = g.to_b; walk_a = g.walk_a; walk_b = g.walk_b; then = f g.wait g.to_a g.to_b g.then }) m
move_map full A B labels E R Wide f w s t (both_pass g q) =
    let o = q.on in
    both_pass g (record {
      point = q.point;
      next_a = q.next_a;
      next_b = q.next_b;
      passes_a = q.passes_a;
      passes_b = q.passes_b;
      step_a = q.step_a;
      step_b = q.step_b;
      steady_b = q.steady_b;
      out = q.out;
      made = q.made;
      named = q.named;
      reaches = q.reaches;
      tidy = q.tidy;
      fact = q.fact;
      on = record { c = o.c; d = o.d; wait = o.wait; to_a = o.to_a; to_b = o.to_b; walk_a = o.walk_a; walk_b = o.walk_b; then = f o.wait o.to_a o.to_b o.then };
    })
move_map full A B labels E R Wide f w s t (b_fills may g) = b_fills may g

-- related states, or a state of b from which a walk leads to one that is related to a's
pub data Started {S T : Type 0} (A : Machine S) (B : Machine T) (labels : List Point) (R : ℕ → S → T → Type 0) : ℕ → S → T → Type 0 where
  begun : (w d : ℕ) (s : S) (t u : T) → B.out t ≡ A.out s → Makes A s B t → AllNamed (B.memory t) → Walks B (Calm B labels) d t u → R w s u → Started A B labels R (suc w) s t
  going : (w : ℕ) (s : S) (t : T) → R w s t → Started A B labels R w s t

module _ {S T : Type 0} (full : Bool) (A : Machine S) (B : Machine T) (labels : List Point) (Known : S → Type 0) (E : S → T → Type 0) (R : ℕ → S → T → Type 0) (sim : IsMachineSimulation full A B labels Known E R) where
  abbrev Wide : ℕ → S → T → Type 0
  Wide = Started A B labels R

  started_out : (w : ℕ) (s : S) (t : T) → Known s → Wide w s t → B.out t ≡ A.out s
  started_out w s t k (begun v d s' t' u o m n q r) = o
  started_out w s t k (going w' s' t' r) = sim.out w s t k r

  started_made : (w : ℕ) (s : S) (t : T) → Known s → Wide w s t → Makes A s B t
  started_made w s t k (begun v d s' t' u o m n q r) = m
  started_made w s t k (going w' s' t' r) = sim.made w s t k r

  started_named : (w : ℕ) (s : S) (t : T) → Known s → Wide w s t → AllNamed (B.memory t)
  started_named w s t k (begun v d s' t' u o m n q r) = n
  started_named w s t k (going w' s' t' r) = sim.named w s t k r

  started_move : (w : ℕ) (s : S) (t : T) → Known s → Wide w s t → StateMove full A B labels E Wide w s t
  started_move w s t k (begun v d s' t' u o m n q r) =
      both_go (record { c = 0; d = d; wait = v; to_a = s; to_b = u; walk_a = stay s; walk_b = q; then = going v s u r }) (inr (lt-suc_self v))
  started_move w s t k (going w' s' t' r) = move_map full A B labels E R Wide (λ v x y. going v x y) w s t (sim.move w s t k r)

  pub started_simulates : IsMachineSimulation full A B labels Known E (Started A B labels R)
  started_simulates = record { out = started_out; made = started_made; named = started_named; move = started_move }
