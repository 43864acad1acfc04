-- A simulation of two machines, state by state.
use Rattle.std.proofs.Common.{zero, ◌+◌, ◌≡◌, ◌≢◌, ℕ, suc, ◌<◌, ◌≤◌, List, Option, Some, None, Bool, true, IsTrue, ◌⊎◌, inl, inr, refl, sym, ap, ◌∙◌, subst, subst₂, arith, add-zero, add-suc, le_refl, ⊎_elim}
use Rattle.std.proofs.lemmas.Bool.{cases_lt}
use Rattle.smlc_base.specs.declared.point.Point.{Point}
use Rattle.smlc_base.specs.declared.point.PointKind.TheVariants.{Eq}
use Rattle.simulation.specs.Blocks.{IsPrefix, Reach, Embeds, Grows}
use Rattle.simulation.specs.Runs.{Run, End, Going, Normal, Uncaught, Arena, Stuck, times, visible, seen, IsLawful, IsGrowing}
use Rattle.smlc_base.specs.Points.{is_label}
use Rattle.simulation.specs.Keeps.{AllNamed, HasTidyReach, IsSound, IsKept}
use Rattle.simulation.specs.Machines.{Machine, next_of, state_at, end_of, pass_of, run_from, IsLive, SteadyAt, IsSteady}
use Rattle.simulation.proofs.Blocks.{prefix_refl, prefix_trans}
use Rattle.simulation.proofs.Lists.{option_cases}
use Rattle.simulation.proofs.Simulation.{from_on, IsQuiet, Move, ends, goes, passes, fills, IsSimulation, simulation_keeps, simulation_meets}

-- ---- The run of a machine is lawful

end_none : {S : Type 0} (o : Option S) (e : End) → end_of o e ≢ Going → o ≡ None
end_none None e h = refl
end_none (Some t) e h = absurd (h refl)

module _ {S : Type 0} (M : Machine S) (labels : List Point) (s : S) where
  stay_at : (n : ℕ) → M.step (state_at M s n) ≡ None → state_at M s (suc n) ≡ state_at M s n
  stay_at n e = ap (next_of (state_at M s n)) e

  pub go_at : (n : ℕ) (t : S) → M.step (state_at M s n) ≡ Some t → state_at M s (suc n) ≡ t
  go_at n t e = ap (next_of (state_at M s n)) e

  pub run_lawful : IsLawful (run_from M labels s)
  run_lawful =
      let still : (n : ℕ) → end_of (M.step (state_at M s n)) (M.end (state_at M s n)) ≢ Going → state_at M s (suc n) ≡ state_at M s n = λ n h. stay_at n (end_none _ _ h) in
      record {
        end_stays = λ n h. ap (λ t. end_of (M.step t) (M.end t)) (still n h);
        end_tells = λ n h. ap M.out (still n h);
        end_makes = λ n h. ap M.memory (still n h);
        end_passes = λ n h. ap (λ o. pass_of o (M.pass (state_at M s n))) (end_none _ _ h);
      }

  tells_once : IsSteady M → (n : ℕ) → IsPrefix (M.out (state_at M s n)) (M.out (state_at M s (suc n)))
  tells_once steady n =
      ⊎_elim
      (λ (e : M.step (state_at M s n) ≡ None). subst (λ t. IsPrefix (M.out (state_at M s n)) (M.out t)) (sym (stay_at n e)) (prefix_refl (M.out (state_at M s n))))
      (λ (h : (t : S) × (M.step (state_at M s n) ≡ Some t)). subst (λ t. IsPrefix (M.out (state_at M s n)) (M.out t)) (sym (go_at n h.0 h.1)) (steady (state_at M s n) h.0 h.1).0)
      (option_cases (M.step (state_at M s n)))

  pub run_tells : IsSteady M → (i j : ℕ) → i ≤ j → IsPrefix (M.out (state_at M s i)) (M.out (state_at M s j))
  run_tells steady i =
      from_on (λ j. IsPrefix (M.out (state_at M s i)) (M.out (state_at M s j))) i (prefix_refl (M.out (state_at M s i))) (λ j l h. prefix_trans (M.out (state_at M s i)) (M.out (state_at M s j)) (M.out (state_at M s (suc j))) h (tells_once steady j))

-- where one run goes on from a state of another
pub state-after : {S : Type 0} (M : Machine S) (s : S) (m n : ℕ) → state_at M (state_at M s m) n ≡ state_at M s (m + n)
state-after M s m zero = ap (state_at M s) (sym (add-zero m))
state-after M s m (suc n) =
    ap (λ t. next_of t (M.step t)) (state-after M s m n) ∙ ap (state_at M s) (sym (add-suc m n))

pub live_at : {S : Type 0} (M : Machine S) (s : S) → IsLive M s → (m : ℕ) → IsLive M (state_at M s m)
live_at M s live m n e =
    live (m + n) (ap (λ t. end_of (M.step t) (M.end t)) (sym (state-after M s m n)) ∙ e)

-- where a run goes on from its first step
pub state_later : {S : Type 0} (M : Machine S) (s t : S) → M.step s ≡ Some t → (n : ℕ) → state_at M t n ≡ state_at M s (suc n)
state_later M s t e zero = sym (ap (next_of s) e)
state_later M s t e (suc n) = ap (λ u. next_of u (M.step u)) (state_later M s t e n)

-- a live state without a step has ended
pub live_ends : {S : Type 0} (M : Machine S) (s : S) → IsLive M s → M.step s ≡ None → M.end s ≡ Stuck → ⊥
live_ends {S} M s live e d = live 0 (ap (λ o. end_of o (M.end s)) e ∙ ap (λ x. end_of {S = S} None x) d)

-- ---- Walks

-- c steps lead from one state to another, and Q holds of each state that is left
pub data Walks {S : Type 0} (M : Machine S) (Q : S → Type 0) : ℕ → S → S → Type 0 where
  stay : (s : S) → Walks M Q 0 s s
  walk : (c : ℕ) (s t u : S) → M.step s ≡ Some t → Q s → Walks M Q c t u → Walks M Q (suc c) s u

-- where a walk from the state at n leads to
pub record Arrives {S : Type 0} (M : Machine S) (Q : S → Type 0) (s : S) (c n : ℕ) (u : S) : Type 0 where
  pub to : ℕ
  pub on : n ≤ to
  pub moves : 0 < c → n < to
  pub at : state_at M s to ≡ u
  pub each : (k : ℕ) → n ≤ k → k < to → Q (state_at M s k)
  pub going : (k : ℕ) → n ≤ k → k < to → (t : S) × (M.step (state_at M s k) ≡ Some t)

pub arrives : {S : Type 0} (M : Machine S) (Q : S → Type 0) (s : S) (c n : ℕ) (t u : S) → Walks M Q c t u → state_at M s n ≡ t → Arrives M Q s c n u
arrives M Q s c n t u (stay v) e = record {
  to = n;
  on = le_refl n;
  moves = λ h. absurd (omega arith);
  at = e;
  each = λ k l h. absurd (omega arith);
  going = λ k l h. absurd (omega arith);
}
arrives {S} M Q s c n t u (walk c' t' v u' st q w) e =
    let e' : state_at M s (suc n) ≡ v = ap (next_of (state_at M s n)) (ap M.step e ∙ st) in
    let r = arrives M Q s c' (suc n) v u' w e' in
    record {
      to = r.to;
      on = omega (arith, r.on);
      moves = λ _. omega (arith, r.on);
      at = r.at;
      each = λ k l h. ⊎_elim (λ (x : n < k). r.each k x h) (λ (x : k ≤ n). let f : n ≡ k = omega arith in subst (λ i. Q (state_at M s i)) f (subst Q (sym e) q)) (cases_lt n k);
      going = λ k l h. ⊎_elim (λ (x : n < k). r.going k x h) (λ (x : k ≤ n). let f : n ≡ k = omega arith in subst (λ i. (t : S) × (M.step (state_at M s i) ≡ Some t)) f (v, ap M.step e ∙ st)) (cases_lt n k);
    }

-- a walk is a quiet stretch of the run
pub quiet_of : {S : Type 0} (M : Machine S) (few labels : List Point) (Q : S → Type 0) (s : S) (c n : ℕ) (u : S) → ((x : S) → Q x → visible few (M.pass x) ≡ None) → (r : Arrives M Q s c n u) → IsQuiet few (run_from M labels s) n r.to
quiet_of M few labels Q s c n u h r = record {
  unseen = λ k l v.
      ap (λ o. visible few (pass_of o (M.pass (state_at M s k)))) (r.going k l v).1 ∙ h (state_at M s k) (r.each k l v);
  going = λ k l v. ap (λ o. end_of o (M.end (state_at M s k))) (r.going k l v).1;
}

-- one step of a run from a steady state
step_grows : {S : Type 0} (M : Machine S) (s : S) (k : ℕ) (t : S) → M.step (state_at M s k) ≡ Some t → SteadyAt M (state_at M s k) → IsPrefix (M.out (state_at M s k)) (M.out (state_at M s (suc k))) × Grows (M.memory (state_at M s k)) (M.memory (state_at M s (suc k)))
step_grows M s k t e h =
    subst (λ u. IsPrefix (M.out (state_at M s k)) (M.out u) × Grows (M.memory (state_at M s k)) (M.memory u)) (sym (ap (next_of (state_at M s k)) e)) (h t e)

-- a walk over steady states takes nothing back
pub growing_of : {S : Type 0} (M : Machine S) (labels : List Point) (Q : S → Type 0) (s : S) (c n : ℕ) (u : S) → ((x : S) → Q x → SteadyAt M x) → (r : Arrives M Q s c n u) → IsGrowing (run_from M labels s) n r.to
growing_of M labels Q s c n u h r = record {
  tells = λ k l v. (step_grows M s k (r.going k l v).0 (r.going k l v).1 (h (state_at M s k) (r.each k l v))).0;
  makes = λ k l v. (step_grows M s k (r.going k l v).0 (r.going k l v).1 (h (state_at M s k) (r.each k l v))).1;
}

-- a walk of a steady machine
pub more_of : {S : Type 0} (M : Machine S) (P Q : S → Type 0) → ((x : S) → P x → Q x) → (c : ℕ) (s t : S) → Walks M P c s t → Walks M Q c s t
more_of M P Q h c s t (stay u) = stay u
more_of M P Q h c s t (walk c' s' u t' e p w) = walk c' s' u t' e (h s' p) (more_of M P Q h c' u t' w)

-- one walk after another
pub walks_on : {S : Type 0} (M : Machine S) (Q : S → Type 0) (c d : ℕ) (s t u : S) → Walks M Q c s t → Walks M Q d t u → Walks M Q (c + d) s u
walks_on M Q c d s t u (stay x) w = subst (λ n. Walks M Q n s u) (let e : d ≡ 0 + d = omega arith in e) w
walks_on M Q c d s t u (walk c' s' x t' e q v) w =
    subst (λ n. Walks M Q n s u) (let e : suc (c' + d) ≡ suc c' + d = omega arith in e) (walk (c' + d) s' x u e q (walks_on M Q c' d x t' u v w))

-- what each step keeps is kept by a walk
pub walks_keep : {S : Type 0} (M : Machine S) (P Q : S → Type 0) → ((s t : S) → P s → M.step s ≡ Some t → P t) → (c : ℕ) (s t : S) → Walks M Q c s t → P s → P t
walks_keep M P Q on c s t (stay u) h = h
walks_keep M P Q on c s u (walk c' s' t u' e q w) h = walks_keep M P Q on c' t u w (on s t h e)

-- ---- Simulations of machines

-- a state that shows none of these points
abbrev pub Unseen : {S : Type 0} → Machine S → List Point → S → Type 0
Unseen M labels s = visible labels (M.pass s) ≡ None

-- and from which a step takes nothing back
abbrev pub Calm : {S : Type 0} → Machine S → List Point → S → Type 0
Calm M labels s = Unseen M labels s × SteadyAt M s

-- a state that shows none of these points, and has written this
abbrev pub Silent : {S : Type 0} → Machine S → List Point → List ℕ → S → Type 0
Silent M labels out s = Unseen M labels s × (M.out s ≡ out)

-- what b's state has made lies one to one in what a's has
abbrev pub Makes : {S T : Type 0} → Machine S → S → Machine T → T → Type 0
Makes A s B t = (f : ℕ → ℕ) × Embeds (B.memory t) (λ _. Unit {0}) (A.memory s) (λ _. Unit {0}) f

abbrev pub Reaches : {S T : Type 0} → Machine S → S → Machine T → T → Type 0
Reaches A s B t = (f : ℕ → ℕ) × Embeds (B.memory t) (Reach (B.memory t) (B.roots t)) (A.memory s) (Reach (A.memory s) (A.roots s)) f

-- both have ended alike
pub record Ending {S T : Type 0} (A : Machine S) (B : Machine T) (s : S) (t : T) : Type 0 where
  pub end_a : A.step s ≡ None
  pub end_b : B.step t ≡ None
  pub same : B.end t ≡ A.end s
  pub out : B.out t ≡ A.out s
  pub made : Makes A s B t
  pub named : AllNamed (B.memory t)

-- a walks c steps and b walks d
pub record Walked {S T : Type 0} (A : Machine S) (B : Machine T) (labels : List Point) (s : S) (t : T) : Type 0 where
  pub c : ℕ
  pub d : ℕ
  pub to_a : S
  pub to_b : T
  pub walk_a : Walks A (Silent A labels (A.out s)) c s to_a
  pub walk_b : Walks B (Calm B labels) d t to_b

-- a goes on by c steps and b by d, to related states
pub record GoesOn {S T : Type 0} (A : Machine S) (B : Machine T) (labels : List Point) (R : ℕ → S → T → Type 0) (out : List ℕ) (s : S) (t : T) : Type 0 where
  pub c : ℕ
  pub d : ℕ
  pub wait : ℕ
  pub to_a : S
  pub to_b : T
  pub walk_a : Walks A (Silent A labels out) c s to_a
  pub walk_b : Walks B (Calm B labels) d t to_b
  pub then : R wait to_a to_b

-- Both pass one point, where E holds of them, and then go on.
pub record Passing {S T : Type 0} (A : Machine S) (B : Machine T) (labels : List Point) (E : S → T → Type 0) (R : ℕ → S → T → Type 0) (s : S) (t : T) : Type 0 where
  pub point : Point
  pub next_a : S
  pub next_b : T
  pub passes_a : visible labels (A.pass s) ≡ Some point
  pub passes_b : visible labels (B.pass t) ≡ Some point
  pub step_a : A.step s ≡ Some next_a
  pub step_b : B.step t ≡ Some next_b
  pub steady_b : SteadyAt B t
  pub out : B.out t ≡ A.out s
  pub made : Makes A s B t
  pub named : AllNamed (B.memory t)
  pub reaches : Reaches A s B t
  pub tidy : HasTidyReach (B.memory t) (B.roots t)
  pub fact : E s t
  pub on : GoesOn A B labels R (A.out s) next_a next_b

-- b ends for want of arena
pub record Filling {S T : Type 0} (A : Machine S) (B : Machine T) (labels : List Point) (s : S) (t : T) : Type 0 where
  pub c : ℕ
  pub d : ℕ
  pub to_a : S
  pub to_b : T
  pub walk_a : Walks A (Silent A labels (A.out s)) c s to_a
  pub walk_b : Walks B (Calm B labels) d t to_b
  pub end_b : B.step to_b ≡ None
  pub arena : B.end to_b ≡ Arena
  pub wrote : IsPrefix (B.out to_b) (A.out to_a)
  pub made : Makes A to_a B to_b

-- What follows from related states. Before both end or pass, each may walk alone.
pub data StateMove {S T : Type 0} (full : Bool) (A : Machine S) (B : Machine T) (labels : List Point) (E : S → T → Type 0) (R : ℕ → S → T → Type 0) (w : ℕ) (s : S) (t : T) : Type 0 where
  both_end : (h : Walked A B labels s t) → Ending A B h.to_a h.to_b → StateMove full A B labels E R w s t
  both_go : (g : GoesOn A B labels R (A.out s) s t) → ((0 < g.c) × (0 < g.d)) ⊎ (g.wait < w) → StateMove full A B labels E R w s t
  both_pass : (h : Walked A B labels s t) → Passing A B labels E R h.to_a h.to_b → StateMove full A B labels E R w s t
  b_fills : IsTrue full → Filling A B labels s t → StateMove full A B labels E R w s t

-- R w s t relates states of a and b; w says how often one of them may yet wait. E holds of the states in which both pass a point. Known is what holds of each state that a
-- comes to: that it isn't stuck, say, and that its records are in order.
pub record IsMachineSimulation {S T : Type 0} (full : Bool) (A : Machine S) (B : Machine T) (labels : List Point) (Known : S → Type 0) (E : S → T → Type 0) (R : ℕ → S → T → Type 0) : Type 0 where
  pub out : (w : ℕ) (s : S) (t : T) → Known s → R w s t → B.out t ≡ A.out s
  pub made : (w : ℕ) (s : S) (t : T) → Known s → R w s t → Makes A s B t
  pub named : (w : ℕ) (s : S) (t : T) → Known s → R w s t → AllNamed (B.memory t)
  pub move : (w : ℕ) (s : S) (t : T) → Known s → R w s t → StateMove full A B labels E R w s t

-- at each entry of b, a passes the same point with the same passes before it, and E holds of both states
abbrev pub MeetsAtEntries : {S T : Type 0} → Machine S → Machine T → List Point → List Point → (S → T → Type 0) → S → T → Type 0
MeetsAtEntries A B la lb E s t =
    (n : ℕ) (p : Point) → visible lb ((run_from B lb t).pass n) ≡ Some p → (m : ℕ) × (visible lb ((run_from A la s).pass m) ≡ Some p) × (seen lb (run_from A la s) m ≡ seen lb (run_from B lb t) n) × E (state_at A s m) (state_at B t n)

-- an end is no going on
end_of_none : {S : Type 0} (o : Option S) (e : End) → o ≡ None → end_of o e ≢ Going
end_of_none None Going h f = cc
end_of_none None Normal h f = cc
end_of_none None (Uncaught name) h f = cc
end_of_none None Arena h f = cc
end_of_none None Stuck h f = cc
end_of_none (Some t) e h f = cc

module _ {S T : Type 0} (full : Bool) (A : Machine S) (B : Machine T) (la lb : List Point) (s₀ : S) (t₀ : T) (Known : S → Type 0) (known : (n : ℕ) → Known (state_at A s₀ n)) (E : S → T → Type 0) (R : ℕ → S → T → Type 0) (sim : IsMachineSimulation full A B lb Known E R) where
  abbrev a_at : ℕ → S
  a_at m = state_at A s₀ m

  abbrev b_at : ℕ → T
  b_at n = state_at B t₀ n

  -- where two runs are, between two related states
  data Stage (k m n : ℕ) : Type 0 where
    main : (w : ℕ) → k ≡ suc (suc w) → R w (a_at m) (b_at n) → Stage k m n
    ready : k ≡ 1 → Passing A B lb E R (a_at m) (b_at n) → Stage k m n
    final : Ending A B (a_at m) (b_at n) → Stage k m n

  abbrev run_a : Run
  run_a = run_from A la s₀

  abbrev run_b : Run
  run_b = run_from B lb t₀

  -- the fact at a pass, by the steps of both runs
  abbrev Meets : ℕ → ℕ → Type 0
  Meets m n = E (a_at m) (b_at n)

  stage_waits : (k m n wait : ℕ) (h : Walked A B lb (a_at m) (b_at n)) → wait < k → ((i j : ℕ) → a_at i ≡ h.to_a → b_at j ≡ h.to_b → Stage wait i j) → Move full run_a run_b Meets Stage k m n
  stage_waits k m n wait h less then =
      let Q = Silent A lb (A.out (a_at m)) in
      let ra = arrives A Q s₀ h.c m (a_at m) h.to_a h.walk_a refl in
      let rb = arrives B (Calm B lb) t₀ h.d n (b_at n) h.to_b h.walk_b refl in
      goes (record {
        wait = wait;
        to_a = ra.to;
        to_b = rb.to;
        on_a = ra.on;
        on_b = rb.on;
        quiet_a = quiet_of A lb la Q s₀ h.c m h.to_a (λ x q. q.0) ra;
        silent = λ i l u. (ra.each i l u).1;
        quiet_b = quiet_of B lb lb (Calm B lb) t₀ h.d n h.to_b (λ x q. q.0) rb;
        grows_b = growing_of B lb (Calm B lb) t₀ h.d n h.to_b (λ x q. q.1) rb;
        moves = inr less;
        then = then ra.to rb.to ra.at rb.at;
      })

  stage_main : (k m n w : ℕ) → k ≡ suc (suc w) → StateMove full A B lb E R w (a_at m) (b_at n) → Move full run_a run_b Meets Stage k m n
  stage_main k m n w e (both_end h p) =
      stage_waits k m n 0 h (omega arith) (λ i j f g. final (subst₂ (Ending A B) (sym f) (sym g) p))
  stage_main k m n w e (both_pass h p) =
      stage_waits k m n 1 h (omega arith) (λ i j f g. ready refl (subst₂ (Passing A B lb E R) (sym f) (sym g) p))
  stage_main k m n w e (both_go g p) =
      let Q = Silent A lb (A.out (a_at m)) in
      let ra = arrives A Q s₀ g.c m (a_at m) g.to_a g.walk_a refl in
      let rb = arrives B (Calm B lb) t₀ g.d n (b_at n) g.to_b g.walk_b refl in
      goes (record {
        wait = suc (suc g.wait);
        to_a = ra.to;
        to_b = rb.to;
        on_a = ra.on;
        on_b = rb.on;
        quiet_a = quiet_of A lb la Q s₀ g.c m g.to_a (λ x q. q.0) ra;
        silent = λ i l u. (ra.each i l u).1;
        quiet_b = quiet_of B lb lb (Calm B lb) t₀ g.d n g.to_b (λ x q. q.0) rb;
        grows_b = growing_of B lb (Calm B lb) t₀ g.d n g.to_b (λ x q. q.1) rb;
        moves = ⊎_elim (λ (q : (0 < g.c) × (0 < g.d)). inl (ra.moves q.0, rb.moves q.1)) (λ (q : g.wait < w). inr (omega arith)) p;
        then = main g.wait refl (subst₂ (R g.wait) (sym ra.at) (sym rb.at) g.then);
      })
  stage_main k m n w e (b_fills may g) =
      let Q = Silent A lb (A.out (a_at m)) in
      let ra = arrives A Q s₀ g.c m (a_at m) g.to_a g.walk_a refl in
      let rb = arrives B (Calm B lb) t₀ g.d n (b_at n) g.to_b g.walk_b refl in
      fills (record {
        may = may;
        to_a = ra.to;
        to_b = rb.to;
        on_a = ra.on;
        on_b = rb.on;
        quiet_a = quiet_of A lb la Q s₀ g.c m g.to_a (λ x q. q.0) ra;
        silent = λ i l u. (ra.each i l u).1;
        quiet_b = quiet_of B lb lb (Calm B lb) t₀ g.d n g.to_b (λ x q. q.0) rb;
        grows_b = growing_of B lb (Calm B lb) t₀ g.d n g.to_b (λ x q. q.1) rb;
        is_full = ap (λ x. end_of (B.step x) (B.end x)) rb.at ∙ ap (λ o. end_of o (B.end g.to_b)) g.end_b ∙ ap (λ e. end_of {S = T} None e) g.arena;
        wrote = subst₂ (λ x y. IsPrefix (B.out y) (A.out x)) (sym ra.at) (sym rb.at) g.wrote;
        made = subst₂ (λ x y. Makes A x B y) (sym ra.at) (sym rb.at) g.made;
      })

  passing_grows : (n : ℕ) (t : T) (to : ℕ) → B.step (b_at n) ≡ Some t → SteadyAt B (b_at n) → IsGrowing run_b (suc n) to → IsGrowing run_b n to
  passing_grows n t to e h g = record {
    tells = λ k l v. ⊎_elim (λ (x : n < k). g.tells k x v) (λ (x : k ≤ n). let f : n ≡ k = omega arith in subst (λ i. IsPrefix (run_b.out i) (run_b.out (suc i))) f (step_grows B t₀ n t e h).0) (cases_lt n k);
    makes = λ k l v. ⊎_elim (λ (x : n < k). g.makes k x v) (λ (x : k ≤ n). let f : n ≡ k = omega arith in subst (λ i. Grows (run_b.memory i) (run_b.memory (suc i))) f (step_grows B t₀ n t e h).1) (cases_lt n k);
  }

  stage_passes : (k m n : ℕ) → Passing A B lb E R (a_at m) (b_at n) → Move full run_a run_b Meets Stage k m n
  stage_passes k m n p =
      let g = p.on in
      let Q = Silent A lb (A.out (a_at m)) in
      let ra = arrives A Q s₀ g.c (suc m) p.next_a g.to_a g.walk_a (ap (next_of (a_at m)) p.step_a) in
      let rb = arrives B (Calm B lb) t₀ g.d (suc n) p.next_b g.to_b g.walk_b (ap (next_of (b_at n)) p.step_b) in
      passes (record {
        point = p.point;
        passes_a = ap (λ o. visible lb (pass_of o (A.pass (a_at m)))) p.step_a ∙ p.passes_a;
        passes_b = ap (λ o. visible lb (pass_of o (B.pass (b_at n)))) p.step_b ∙ p.passes_b;
        going_a = ap (λ o. end_of o (A.end (a_at m))) p.step_a;
        going_b = ap (λ o. end_of o (B.end (b_at n))) p.step_b;
        reaches = p.reaches;
        tidy = p.tidy;
        fact = p.fact;
        wait = suc (suc g.wait);
        to_a = ra.to;
        to_b = rb.to;
        on_a = ra.on;
        on_b = rb.on;
        quiet_a = quiet_of A lb la Q s₀ g.c (suc m) g.to_a (λ x q. q.0) ra;
        silent = λ i l u. ⊎_elim (λ (v : m < i). (ra.each i v u).1) (λ (v : i ≤ m). let e : i ≡ m = omega arith in ap (λ j. A.out (a_at j)) e) (cases_lt m i);
        quiet_b = quiet_of B lb lb (Calm B lb) t₀ g.d (suc n) g.to_b (λ x q. q.0) rb;
        grows_b = passing_grows n p.next_b rb.to p.step_b p.steady_b (growing_of B lb (Calm B lb) t₀ g.d (suc n) g.to_b (λ x q. q.1) rb);
        then = main g.wait refl (subst₂ (R g.wait) (sym ra.at) (sym rb.at) g.then);
      })

  stage_ends : (k m n : ℕ) → Ending A B (a_at m) (b_at n) → Move full run_a run_b Meets Stage k m n
  stage_ends k m n e =
      ends (end_of_none (A.step (a_at m)) (A.end (a_at m)) e.end_a)
      (ap (λ o. end_of o (B.end (b_at n))) e.end_b ∙ ap (λ x. end_of {S = T} None x) e.same ∙ none_same (A.end (a_at m)) ∙ sym (ap (λ o. end_of o (A.end (a_at m))) e.end_a))
    where
      none_same : (x : End) → end_of {S = T} None x ≡ end_of {S = S} None x
      none_same Going = refl
      none_same Normal = refl
      none_same (Uncaught name) = refl
      none_same Arena = refl
      none_same Stuck = refl

  stage_simulates : (w : ℕ) → R w s₀ t₀ → IsSimulation full run_a run_b Meets Stage
  stage_simulates w start = record {
    start = (suc (suc w), main w refl start);
    out = λ k m n. elim [ main v e r ↦ sim.out v (a_at m) (b_at n) (known m) r | ready e p ↦ p.out | final e ↦ e.out ];
    made = λ k m n. elim [ main v e r ↦ sim.made v (a_at m) (b_at n) (known m) r | ready e p ↦ p.made | final e ↦ e.made ];
    named = λ k m n. elim [ main v e r ↦ sim.named v (a_at m) (b_at n) (known m) r | ready e p ↦ p.named | final e ↦ e.named ];
    move = λ k m n. elim [
      | main v e r ↦ stage_main k m n v e (sim.move v (a_at m) (b_at n) (known m) r)
      | ready e p ↦ stage_passes k m n p
      | final e ↦ stage_ends k m n e
    ];
  }

  -- The general simulation theorem: a simulation from the starts gives all that a pass keeps.
  pub machines_keep : IsSteady A → ((p : Point) → is_label lb p ≡ true → is_label la p ≡ true) → ((p : Point) → p.kind ≢ Eq → times p lb ≤ 1) → (w : ℕ) → R w s₀ t₀ → IsSound (run_from A la s₀) → IsKept full (run_from A la s₀) (run_from B lb t₀)
  machines_keep steady_a fewer once w start sound =
      simulation_keeps full run_a run_b (run_lawful A la s₀) (run_tells A la s₀ steady_a) (run_lawful B lb t₀) Meets Stage (stage_simulates w start) fewer once sound

  -- And at each entry of b the fact holds of its state and of the state of a that passes the point, with the same passes before it.
  pub machines_meet : IsSteady A → (w : ℕ) → R w s₀ t₀ → MeetsAtEntries A B la lb E s₀ t₀
  machines_meet steady_a w start =
      simulation_meets full run_a run_b (run_lawful A la s₀) (run_tells A la s₀ steady_a) (run_lawful B lb t₀) Meets Stage (stage_simulates w start)

-- ---- What each state of a run keeps

pub state_by : {S : Type 0} (M : Machine S) (Inv : S → Type 0) → ((s t : S) → Inv s → M.step s ≡ Some t → Inv t) → (s : S) → Inv s → (n : ℕ) → Inv (state_at M s n)
state_by M Inv on s h zero = h
state_by {S} M Inv on s h (suc n) =
    ⊎_elim
    (λ (e : M.step (state_at M s n) ≡ None). subst Inv (sym (ap (next_of (state_at M s n)) e)) (state_by M Inv on s h n))
    (λ (e : (t : S) × (M.step (state_at M s n) ≡ Some t)). subst Inv (sym (ap (next_of (state_at M s n)) e.1)) (on (state_at M s n) e.0 (state_by M Inv on s h n) e.1))
    (option_cases (M.step (state_at M s n)))

-- what each step keeps, and no stuck state has, keeps a run live
pub live_by : {S : Type 0} (M : Machine S) (Inv : S → Type 0) → ((s t : S) → Inv s → M.step s ≡ Some t → Inv t) → ((s : S) → Inv s → end_of (M.step s) (M.end s) ≢ Stuck) → (s : S) → Inv s → IsLive M s
live_by M Inv on fine s h n = fine (state_at M s n) (state_by M Inv on s h n)
