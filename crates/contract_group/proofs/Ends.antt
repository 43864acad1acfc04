-- Where one of two lists ends, nothing more is entered.
use Rattle.std.proofs.Common.{◌≡◌, ℕ, zero, suc, ◌≤◌, List, [], ◌∷◌, Option, length, drop, refl, ap, ◌∙◌, arith}
use Rattle.cps_ir.specs.declared.atom.Atom.{Atom}
use Rattle.cps_ir.specs.declared.body.Function.{Function}
use Rattle.cps_ir.specs.declared.body.Body.{Body}
use Rattle.contract_roles.specs.declared.group.Role.{Role}
use Rattle.contract_group.specs.declared.task.Placed.{Placed}
use Rattle.contract_group.specs.declared.task.Task.{Task}
use Rattle.contract_group.specs.Group.{group_places, group_placed, group_kept, group_tasks, group_bodies}

none_left : {A : Type 0} (xs : List A) (i : ℕ) → length xs ≤ i → drop i xs ≡ []
none_left [] zero h = refl
none_left [] (suc i) h = refl
none_left (x ∷ xs) zero h = absurd (omega arith)
none_left (x ∷ xs) (suc i) h = none_left xs i (omega arith)

module _ (rs : List Role) (fs : List Function) (i : ℕ) where
  -- a walk over two lists that does nothing at the end of one
  ended : {T : Type 0} (walk : List Role → List Function → T) (t : T) → ((qs : List Role) → walk qs [] ≡ t) → ((gs : List Function) → walk [] gs ≡ t) → (length fs ≤ i → walk (drop i rs) (drop i fs) ≡ t) × (length rs ≤ i → walk (drop i rs) (drop i fs) ≡ t)
  ended walk t a b = ((λ h. ap (walk (drop i rs)) (none_left fs i h) ∙ a (drop i rs)), (λ h. ap (λ qs. walk qs (drop i fs)) (none_left rs i h) ∙ b (drop i fs)))

  pub places_end : (places : List Atom) → (length fs ≤ i → group_places (drop i rs) (drop i fs) places ≡ places) × (length rs ≤ i → group_places (drop i rs) (drop i fs) places ≡ places)
  places_end places = ended (λ qs gs. group_places qs gs places) places by (λ gs. refl)
    where
      by : (qs : List Role) → group_places qs [] places ≡ places
      by [] = refl
      by (q ∷ qs) = refl

  pub placed_end : (placed : List (Option Placed)) → (length fs ≤ i → group_placed (drop i rs) (drop i fs) placed ≡ placed) × (length rs ≤ i → group_placed (drop i rs) (drop i fs) placed ≡ placed)
  placed_end placed = ended (λ qs gs. group_placed qs gs placed) placed by (λ gs. refl)
    where
      by : (qs : List Role) → group_placed qs [] placed ≡ placed
      by [] = refl
      by (q ∷ qs) = refl

  pub kept_end : (n : ℕ) → (length fs ≤ i → group_kept n (drop i rs) (drop i fs) ≡ []) × (length rs ≤ i → group_kept n (drop i rs) (drop i fs) ≡ [])
  kept_end n = ended (λ qs gs. group_kept n qs gs) [] by (λ gs. refl)
    where
      by : (qs : List Role) → group_kept n qs [] ≡ []
      by [] = refl
      by (q ∷ qs) = refl

  pub tasks_end : (n : ℕ) (work : List Task) → (length fs ≤ i → group_tasks n (drop i rs) (drop i fs) work ≡ work) × (length rs ≤ i → group_tasks n (drop i rs) (drop i fs) work ≡ work)
  tasks_end n work = ended (λ qs gs. group_tasks n qs gs work) work by (λ gs. refl)
    where
      by : (qs : List Role) → group_tasks n qs [] work ≡ work
      by [] = refl
      by (q ∷ qs) = refl

  pub bodies_end : (bodies : List Body) → (length fs ≤ i → group_bodies (drop i rs) (drop i fs) bodies ≡ bodies) × (length rs ≤ i → group_bodies (drop i rs) (drop i fs) bodies ≡ bodies)
  bodies_end bodies = ended (λ qs gs. group_bodies qs gs bodies) bodies by (λ gs. refl)
    where
      by : (qs : List Role) → group_bodies qs [] bodies ≡ bodies
      by [] = refl
      by (q ∷ qs) = refl
