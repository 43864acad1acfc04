-- Forward simulation: each step of a is answered by steps of b, or by none while a wait falls.
use Rattle.std.proofs.Common.{◌≡◌, ◌≢◌, ℕ, suc, ◌+◌, ◌<◌, ◌≤◌, List, Some, None, Bool, true, IsTrue, ◌⊎◌, inl, inr, refl, ◌∙◌, arith, lt-suc_self, ⊎_elim}
use Rattle.smlc_base.specs.declared.point.Point.{Point}
use Rattle.smlc_base.specs.declared.point.PointKind.TheVariants.{Eq}
use Rattle.simulation.specs.Blocks.{IsPrefix}
use Rattle.simulation.specs.Runs.{Arena, times, visible}
use Rattle.smlc_base.specs.Points.{is_label}
use Rattle.simulation.specs.Keeps.{AllNamed, HasTidyReach, IsSound, IsKept}
use Rattle.simulation.specs.Machines.{Machine, state_at, run_from, IsLive, SteadyAt, IsSteady}
use Rattle.simulation.proofs.Lists.{option_cases}
use Rattle.simulation.proofs.Machines.{live_at, Walks, stay, walk, walks_on, more_of, Unseen, Calm, Makes, Reaches, Ending, StateMove, both_end, both_go, both_pass, b_fills, IsMachineSimulation, MeetsAtEntries, machines_keep, machines_meet}

-- ---- The answers

-- b has ended as a has
pub data Ends {S T : Type 0} (A : Machine S) (B : Machine T) (Quiet : T → Type 0) (s : S) (t : T) : Type 0 where
  now : B.step t ≡ None → B.end t ≡ A.end s → Ends A B Quiet s t
  later : (d : ℕ) (u : T) → Walks B Quiet d t u → Ending A B s u → Ends A B Quiet s t

-- b goes on to a state that is related to a's next
pub record Onward {T : Type 0} (B : Machine T) (Quiet : T → Type 0) (Then : ℕ → T → Type 0) (t : T) : Type 0 where
  pub steps : ℕ
  pub wait : ℕ
  pub to : T
  pub walk : Walks B Quiet steps t to
  pub then : Then wait to

-- so b goes on with at least one step, or with a wait below the limit
pub record Goes {T : Type 0} (B : Machine T) (Quiet : T → Type 0) (Then : ℕ → T → Type 0) (limit : ℕ) (t : T) : Type 0 where
  pub steps : ℕ
  pub wait : ℕ
  pub to : T
  pub walk : Walks B Quiet steps t to
  pub moves : (0 < steps) ⊎ (wait < limit)
  pub then : Then wait to

abbrev pub onward : {T : Type 0} (B : Machine T) (Quiet : T → Type 0) (Then : ℕ → T → Type 0) (limit : ℕ) (t : T) → Goes B Quiet Then limit t → Onward B Quiet Then t
onward B Quiet Then limit t g = record { steps = g.steps; wait = g.wait; to = g.to; walk = g.walk; then = g.then }

-- b stays where it is
pub stays_on : {T : Type 0} (B : Machine T) (Quiet : T → Type 0) (Then : ℕ → T → Type 0) (limit wait : ℕ) (t : T) → wait < limit → Then wait t → Goes B Quiet Then limit t
stays_on B Quiet Then limit wait t l h = record { steps = 0; wait = wait; to = t; walk = stay t; moves = inr l; then = h }

-- b does one step
pub goes_one : {T : Type 0} (B : Machine T) (Quiet : T → Type 0) (Then : ℕ → T → Type 0) (limit wait : ℕ) (t u : T) → B.step t ≡ Some u → Quiet t → Then wait u → Goes B Quiet Then limit t
goes_one B Quiet Then limit wait t u e q h =
    record { steps = 1; wait = wait; to = u; walk = walk 0 t u u e q (stay u); moves = inl (omega arith); then = h }

-- one step, and then on
pub goes_first : {T : Type 0} (B : Machine T) (Quiet : T → Type 0) (Then : ℕ → T → Type 0) (limit other : ℕ) (t u : T) → B.step t ≡ Some u → Quiet t → Goes B Quiet Then other u → Goes B Quiet Then limit t
goes_first B Quiet Then limit other t u e q g =
    record { steps = suc g.steps; wait = g.wait; to = g.to; walk = walk g.steps t u g.to e q g.walk; moves = inl (omega arith); then = g.then }

-- what is shown where both pass a point
pub record Shows {S T : Type 0} (A : Machine S) (B : Machine T) (s : S) (t : T) : Type 0 where
  pub out : B.out t ≡ A.out s
  pub made : Makes A s B t
  pub named : AllNamed (B.memory t)

pub record Enters {S T : Type 0} (A : Machine S) (B : Machine T) (s : S) (t : T) : Type 0 where
  pub reaches : Reaches A s B t
  pub tidy : HasTidyReach (B.memory t) (B.roots t)

-- both do one step from here, with the same pass or none, and b goes on. What is shown at a pass is asked for where there is one.
pub record Together {S T : Type 0} (A : Machine S) (B : Machine T) (labels : List Point) (Quiet : T → Type 0) (Then : ℕ → T → Type 0) (s : S) (t : T) : Type 0 where
  pub next : T
  pub passes : visible labels (B.pass t) ≡ visible labels (A.pass s)
  pub step : B.step t ≡ Some next
  pub steady : SteadyAt B t
  pub enters : (p : Point) → visible labels (A.pass s) ≡ Some p → Enters A B s t
  pub on : Onward B Quiet Then next

-- b ends for want of arena
pub record Full {S T : Type 0} (A : Machine S) (B : Machine T) (Quiet : T → Type 0) (s : S) (t : T) : Type 0 where
  pub steps : ℕ
  pub to : T
  pub walk : Walks B Quiet steps t to
  pub end : B.step to ≡ None
  pub arena : B.end to ≡ Arena
  pub wrote : IsPrefix (B.out to) (A.out s)
  pub made : Makes A s B to

-- how b answers a step of a from s
pub data Answer {S T : Type 0} (full : Bool) (A : Machine S) (B : Machine T) (labels : List Point) (Quiet : T → Type 0) (Then : ℕ → T → Type 0) (w : ℕ) (s : S) (t : T) : Type 0 where
  -- nothing is passed, and b goes on, or the wait falls
  silent : Unseen A labels s → Goes B Quiet Then w t → Answer full A B labels Quiet Then w s t
  -- both go one step
  together : Together A B labels Quiet Then s t → Answer full A B labels Quiet Then w s t
  -- b comes first to a state of its own, from which both go one step
  after : (d : ℕ) (u : T) → Walks B Quiet d t u → Shows A B s u → Together A B labels Quiet Then s u → Answer full A B labels Quiet Then w s t
  fills : IsTrue full → Full A B Quiet s t → Answer full A B labels Quiet Then w s t

-- Quiet is what holds of the states that b walks through alone: they pass nothing, and a step from them takes nothing back.
pub record IsForward {S T : Type 0} (full : Bool) (A : Machine S) (B : Machine T) (labels : List Point) (Known : S → Type 0) (Quiet : T → Type 0) (R : ℕ → S → T → Type 0) : Type 0 where
  pub calm : (t : T) → Quiet t → Calm B labels t
  pub shows : (w : ℕ) (s : S) (t : T) → Known s → R w s t → Shows A B s t
  pub ended : (w : ℕ) (s : S) (t : T) → Known s → R w s t → A.step s ≡ None → Ends A B Quiet s t
  pub step : (w : ℕ) (s s' : S) (t : T) → Known s → R w s t → A.step s ≡ Some s' → Answer full A B labels Quiet (λ v u. R v s' u) w s t

-- E holds where both pass a point: at related states, and where b has come to a state of its own.
pub record IsMet {S T : Type 0} (A : Machine S) (B : Machine T) (labels : List Point) (Known : S → Type 0) (Quiet : T → Type 0) (E : S → T → Type 0) (R : ℕ → S → T → Type 0) : Type 0 where
  pub here : (w : ℕ) (s : S) (t : T) (p : Point) → Known s → R w s t → visible labels (A.pass s) ≡ Some p → visible labels (B.pass t) ≡ Some p → E s t
  pub after : (w d : ℕ) (s : S) (t u : T) (p : Point) → Known s → R w s t → Walks B Quiet d t u → Shows A B s u → visible labels (A.pass s) ≡ Some p → visible labels (B.pass u) ≡ Some p → E s u

-- nothing is asked
abbrev pub nothing : {S T : Type 0} → S → T → Type 0
nothing s t = Unit {0}

pub nothing_met : {S T : Type 0} (A : Machine S) (B : Machine T) (labels : List Point) (Known : S → Type 0) (Quiet : T → Type 0) (R : ℕ → S → T → Type 0) → IsMet A B labels Known Quiet nothing R
nothing_met A B labels Known Quiet R = record { here = λ w s t p k r v u. tt; after = λ w d s t u p k r q h v x. tt }

-- ---- The theorem

module _ {S T : Type 0} (full : Bool) (A : Machine S) (B : Machine T) (labels : List Point) (Known : S → Type 0) (Quiet : T → Type 0) (E : S → T → Type 0) (R : ℕ → S → T → Type 0) (f : IsForward full A B labels Known Quiet R) (met : IsMet A B labels Known Quiet E R) where
  calm_walk : (c : ℕ) (t u : T) → Walks B Quiet c t u → Walks B (Calm B labels) c t u
  calm_walk c t u w = more_of B Quiet (Calm B labels) f.calm c t u w

  ends_move : (w : ℕ) (s : S) (t : T) → A.step s ≡ None → Shows A B s t → Ends A B Quiet s t → StateMove full A B labels E R w s t
  ends_move w s t e h (now g k) =
      both_end (record { c = 0; d = 0; to_a = s; to_b = t; walk_a = stay s; walk_b = stay t })
      (record { end_a = e; end_b = g; same = k; out = h.out; made = h.made; named = h.named })
  ends_move w s t e h (later d u v k) =
      both_end (record { c = 0; d = d; to_a = s; to_b = u; walk_a = stay s; walk_b = calm_walk d t u v }) k

  together_move : (w d : ℕ) (s s' : S) (t u : T) → A.step s ≡ Some s' → Walks B Quiet d t u → Shows A B s u → Together A B labels Quiet (λ v u. R v s' u) s u → ((p : Point) → visible labels (A.pass s) ≡ Some p → visible labels (B.pass u) ≡ Some p → E s u) → StateMove full A B labels E R w s t
  together_move w d s s' t u e v h g m = let o = g.on in ⊎_elim
      (λ (n : visible labels (A.pass s) ≡ None).
      both_go (record {
        c = 1;
        d = d + suc o.steps;
        wait = o.wait;
        to_a = s';
        to_b = o.to;
        walk_a = walk 0 s s' s' e (n, refl) (stay s');
        walk_b = walks_on B (Calm B labels) d (suc o.steps) t u o.to (calm_walk d t u v) (walk o.steps u g.next o.to g.step (g.passes ∙ n, g.steady) (calm_walk o.steps g.next o.to o.walk));
        then = o.then;
      }) (inl (omega arith, omega arith)))
      (λ (n : (p : Point) × (visible labels (A.pass s) ≡ Some p)).
      let i = g.enters n.0 n.1 in
      both_pass (record { c = 0; d = d; to_a = s; to_b = u; walk_a = stay s; walk_b = calm_walk d t u v }) (record {
        point = n.0;
        next_a = s';
        next_b = g.next;
        passes_a = n.1;
        passes_b = g.passes ∙ n.1;
        step_a = e;
        step_b = g.step;
        steady_b = g.steady;
        out = h.out;
        made = h.made;
        named = h.named;
        reaches = i.reaches;
        tidy = i.tidy;
        fact = m n.0 n.1 (g.passes ∙ n.1);
        on = record { c = 0; d = o.steps; wait = o.wait; to_a = s'; to_b = o.to; walk_a = stay s'; walk_b = calm_walk o.steps g.next o.to o.walk; then = o.then };
      }))
      (option_cases (visible labels (A.pass s)))

  step_move : (w : ℕ) (s s' : S) (t : T) → A.step s ≡ Some s' → Known s → R w s t → Shows A B s t → Answer full A B labels Quiet (λ v u. R v s' u) w s t → StateMove full A B labels E R w s t
  step_move w s s' t e k r h (silent n g) =
      both_go (record {
        c = 1;
        d = g.steps;
        wait = g.wait;
        to_a = s';
        to_b = g.to;
        walk_a = walk 0 s s' s' e (n, refl) (stay s');
        walk_b = calm_walk g.steps t g.to g.walk;
        then = g.then;
      }) (⊎_elim (λ (q : 0 < g.steps). inl (lt-suc_self 0, q)) (λ (q : g.wait < w). inr q) g.moves)
  step_move w s s' t e k r h (together g) = together_move w 0 s s' t t e (stay t) h g (λ p. met.here w s t p k r)
  step_move w s s' t e k r h (after d u v x g) = together_move w d s s' t u e v x g (λ p. met.after w d s t u p k r v x)
  step_move w s s' t e k r h (fills may g) =
      b_fills may (record {
        c = 0;
        d = g.steps;
        to_a = s;
        to_b = g.to;
        walk_a = stay s;
        walk_b = calm_walk g.steps t g.to g.walk;
        end_b = g.end;
        arena = g.arena;
        wrote = g.wrote;
        made = g.made;
      })

  pub forward_simulates : IsMachineSimulation full A B labels Known E R
  forward_simulates = record {
    out = λ w s t k r. (f.shows w s t k r).out;
    made = λ w s t k r. (f.shows w s t k r).made;
    named = λ w s t k r. (f.shows w s t k r).named;
    move = λ w s t k r. ⊎_elim
        (λ (e : A.step s ≡ None). ends_move w s t e (f.shows w s t k r) (f.ended w s t k r e))
        (λ (e : (s' : S) × (A.step s ≡ Some s')). step_move w s e.0 t e.1 k r (f.shows w s t k r) (f.step w s e.0 t k r e.1))
        (option_cases (A.step s));
  }

-- what is known of each state of a sound run
pub live_known : {S : Type 0} (A : Machine S) (labels : List Point) (s : S) → IsSound (run_from A labels s) → (n : ℕ) → IsLive A (state_at A s n)
live_known A labels s sound n = live_at A s (λ m. sound.never_stuck m) n

-- The forward simulation theorem: from related starts b keeps a.
pub forward_keeps : {S T : Type 0} (full : Bool) (A : Machine S) (B : Machine T) (la lb : List Point) (s : S) (t : T) (Known : S → Type 0) (Quiet : T → Type 0) (R : ℕ → S → T → Type 0) → (IsSound (run_from A la s) → (n : ℕ) → Known (state_at A s n)) → IsForward full A B lb Known Quiet R → IsSteady A → ((p : Point) → is_label lb p ≡ true → is_label la p ≡ true) → ((p : Point) → p.kind ≢ Eq → times p lb ≤ 1) → (w : ℕ) → R w s t → IsSound (run_from A la s) → IsKept full (run_from A la s) (run_from B lb t)
forward_keeps full A B la lb s t Known Quiet R known f steady fewer once w start sound =
    machines_keep full A B la lb s t Known (known sound) nothing R (forward_simulates full A B lb Known Quiet nothing R f (nothing_met A B lb Known Quiet R)) steady fewer once w start sound

-- And what is met where both pass a point is met at each entry of b.
pub forward_meets : {S T : Type 0} (full : Bool) (A : Machine S) (B : Machine T) (la lb : List Point) (s : S) (t : T) (Known : S → Type 0) (Quiet : T → Type 0) (E : S → T → Type 0) (R : ℕ → S → T → Type 0) → ((n : ℕ) → Known (state_at A s n)) → IsForward full A B lb Known Quiet R → IsMet A B lb Known Quiet E R → IsSteady A → (w : ℕ) → R w s t → MeetsAtEntries A B la lb E s t
forward_meets full A B la lb s t Known Quiet E R known f met steady w start =
    machines_meet full A B la lb s t Known known E R (forward_simulates full A B lb Known Quiet E R f met) steady w start
