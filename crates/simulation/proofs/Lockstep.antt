-- Two machines that go in step: each state of the one stands for a state of the other, by a function. And two machines over stores,
-- whose items show the same blocks.
use Rattle.std.proofs.Common.{◌≡◌, ◌≢◌, ℕ, zero, suc, ◌≤◌, List, [], ◌∷◌, Option, Some, None, Bool, true, false, cond, refl, sym, ap, ◌∙◌, subst, map, set, slice_get}
use Rattle.std.proofs.lemmas.List.{map-append, map-set}
use Rattle.std.proofs.lemmas.Option.{slice_get-map}
use Rattle.std.specs.Option.{option_map}
use Rattle.smlc_base.specs.declared.point.Point.{Point}
use Rattle.smlc_base.specs.declared.point.PointKind.TheVariants.{Eq}
use Rattle.simulation.specs.Blocks.{Block}
use Rattle.simulation.specs.Runs.{times, visible}
use Rattle.smlc_base.specs.Points.{is_label}
use Rattle.simulation.specs.Keeps.{AllNamed, HasTidyReach, IsSound, IsKept}
use Rattle.simulation.specs.Machines.{Machine, state_at, next_of, run_from, IsSteady}
use Rattle.simulation.specs.Stores.{Effect, Append, Put, Act, Configuration, may_replace, replaced, affected_on, all_affected, configured, wrote, acted, effect_over, act_over, configuration_over}
use Rattle.simulation.proofs.Machines.{stay, Unseen}
use Rattle.simulation.proofs.Forward.{Ends, now, Shows, Answer, together, IsForward, forward_keeps}
use Rattle.simulation.proofs.Same.{shows_same, enters_same}

-- ---- Stores whose items show the same

module _ {C D X Y : Type 0} (view_x : X → Block) (view_y : Y → Block) (g : C → D) (f : X → Y) (same : (x : X) → view_y (f x) ≡ view_x x) where
  pub memory_over : (xs : List X) → map view_y (map f xs) ≡ map view_x xs
  memory_over [] = refl
  memory_over (x ∷ xs) = ap (λ b. b ∷ map view_y (map f xs)) (same x) ∙ ap (λ bs. view_x x ∷ bs) (memory_over xs)

  put_over : (xs : List X) (a : ℕ) (x : X) (o : Option X) → replaced view_y (map f xs) a (f x) (option_map f o) ≡ option_map (map f) (replaced view_x xs a x o)
  put_over xs a x None = refl
  put_over xs a x (Some old) =
      ap (λ b. cond (may_replace b (view_y (f x))) (Some (set (map f xs) a (f x))) None) (same old)
      ∙ ap (λ b. cond (may_replace (view_x old) b) (Some (set (map f xs) a (f x))) None) (same x)
      ∙ ap (λ ys. cond (may_replace (view_x old) (view_x x)) (Some ys) None) (sym (map-set f xs a x))
      ∙ either (may_replace (view_x old) (view_x x))
    where
      either : (b : Bool) → cond b (Some (map f (set xs a x))) None ≡ option_map (map f) (cond b (Some (set xs a x)) None)
      either true = refl
      either false = refl

  effect_same : (o : Option (List X)) (e : Effect X) → affected_on view_y (option_map (map f) o) (effect_over f e) ≡ option_map (map f) (affected_on view_x o e)
  effect_same None e = refl
  effect_same (Some xs) (Append ys) = ap Some (sym (map-append f xs ys))
  effect_same (Some xs) (Put a x) =
      ap (replaced view_y (map f xs) a (f x)) (slice_get-map f xs a) ∙ put_over xs a x (slice_get xs a)

  pub effects_over : (o : Option (List X)) (es : List (Effect X)) → all_affected view_y (option_map (map f) o) (map (effect_over f) es) ≡ option_map (map f) (all_affected view_x o es)
  effects_over o [] = refl
  effects_over o (e ∷ es) = ap (λ o. all_affected view_y o (map (effect_over f) es)) (effect_same o e) ∙ effects_over (affected_on view_x o e) es

  -- what is done to the one store is done to the other
  pub acted_over : (out : List ℕ) (xs : List X) (a : Act C X) → acted view_y out (map f xs) (Some (act_over g f a)) ≡ option_map (configuration_over g f) (acted view_x out xs (Some a))
  acted_over out xs a = ap (configured (g a.next) (wrote out a.told)) (effects_over (Some xs) a.effects) ∙ either (all_affected view_x (Some xs) a.effects)
    where
      either : (o : Option (List X)) → configured (g a.next) (wrote out a.told) (option_map (map f) o) ≡ option_map (configuration_over g f) (configured a.next (wrote out a.told) o)
      either None = refl
      either (Some ys) = refl

-- ---- Machines that go in step

-- From each known state of a, b does from the state that stands for it what a does, and shows the same; a's records are in order.
pub record IsInStep {S T : Type 0} (A : Machine S) (B : Machine T) (labels : List Point) (Known : S → Type 0) (f : S → T) : Type 0 where
  pub out : (s : S) → Known s → B.out (f s) ≡ A.out s
  pub memory : (s : S) → Known s → B.memory (f s) ≡ A.memory s
  pub roots : (s : S) → Known s → B.roots (f s) ≡ A.roots s
  pub passes : (s : S) → Known s → visible labels (B.pass (f s)) ≡ visible labels (A.pass s)
  pub next : (s t : S) → Known s → A.step s ≡ Some t → B.step (f s) ≡ Some (f t)
  pub last : (s : S) → Known s → A.step s ≡ None → B.step (f s) ≡ None
  pub end : (s : S) → Known s → A.step s ≡ None → B.end (f s) ≡ A.end s
  pub named : (s : S) → Known s → AllNamed (A.memory s)
  pub reach : (s : S) (p : Point) → Known s → visible labels (A.pass s) ≡ Some p → HasTidyReach (A.memory s) (A.roots s)

module _ {S T : Type 0} (A : Machine S) (B : Machine T) (labels : List Point) (Known : S → Type 0) (f : S → T) (h : IsInStep A B labels Known f) where
  next_over : (s : S) → Known s → (o : Option S) → A.step s ≡ o → next_of (f s) (B.step (f s)) ≡ f (next_of s o)
  next_over s k None e = ap (next_of (f s)) (h.last s k e)
  next_over s k (Some t) e = ap (next_of (f s)) (h.next s t k e)

  -- the states stand for one another, step for step
  pub in_step : (s : S) → ((n : ℕ) → Known (state_at A s n)) → (n : ℕ) → state_at B (f s) n ≡ f (state_at A s n)
  in_step s known zero = refl
  in_step s known (suc n) =
      ap (λ t. next_of t (B.step t)) (in_step s known n) ∙ next_over (state_at A s n) (known n) (A.step (state_at A s n)) refl

  pub in_step_forward : (full : Bool) → IsSteady B → IsForward full A B labels Known (Unseen B labels) (λ w s t. f s ≡ t)
  in_step_forward full steady = record {
    calm = λ t q. (q, steady t);
    shows = λ w s t k e. subst (Shows A B s) e (shows_same A B s (f s) (h.out s k) (h.memory s k) (h.named s k));
    ended = λ w s t k e n. subst (Ends A B (Unseen B labels) s) e (now (h.last s k n) (h.end s k n));
    step = λ w s s' t k e n. subst (Answer full A B labels (Unseen B labels) (λ v u. f s' ≡ u) w s) e (together (record {
      next = f s';
      passes = h.passes s k;
      step = h.next s s' k n;
      steady = steady (f s);
      enters = λ p v. enters_same A B s (f s) (h.memory s k) (h.roots s k) (h.reach s p k v);
      on = record { steps = 0; wait = 0; to = f s'; walk = stay (f s'); then = refl };
    }));
  }

  -- so b keeps a
  pub in_step_keeps : (full : Bool) (la : List Point) (s : S) → (IsSound (run_from A la s) → (n : ℕ) → Known (state_at A s n)) → IsSteady A → IsSteady B → ((p : Point) → is_label labels p ≡ true → is_label la p ≡ true) → ((p : Point) → p.kind ≢ Eq → times p labels ≤ 1) → IsSound (run_from A la s) → IsKept full (run_from A la s) (run_from B labels (f s))
  in_step_keeps full la s known steady_a steady_b fewer once sound =
      forward_keeps full A B la labels s (f s) Known (Unseen B labels) (λ w s t. f s ≡ t) known (in_step_forward full steady_b) steady_a fewer once 0 refl sound
