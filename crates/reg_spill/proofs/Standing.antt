-- The bodies of functions, and the first, stand in no other body.
use Rattle.std.proofs.Common.{◌≡◌, ℕ, ◌<◌, Bool, true, false, List, [], ◌∷◌, ◌++◌, length, inl, inr, refl, sym, ◌∙◌, subst}
use Rattle.std.specs.Prelude.{nat_eq, ◌||◌}
use Rattle.std.specs.List.{AllByRecursion}
use Rattle.simulation.specs.Blocks.{IsAmong}
use Rattle.simulation.proofs.Lists.{among_right}
use Rattle.sml_tree.specs.Sets.{has}
use Rattle.sml_tree.specs.IsBare.{IsDistinct}
use Rattle.closure_ir.specs.declared.body.Function.{Function}
use Rattle.closure_ir.specs.Program as closing
use Rattle.closure_ir.specs.Program.{Closed}
use Rattle.closure_ir.specs.Kept.{FunctionKept}
use Rattle.placed_ir.specs.declared.body.Body.{Body}
use Rattle.placed_ir.specs.Program as placing
use Rattle.place_laws.specs.Place.{Places, at_params, nowhere, place_code, place_plain}
use Rattle.place_bodies.specs.Whole.{HasPlaces}
use Rattle.reg_spill.proofs.Apart.{has_among, distinct_cross}
use Rattle.reg_spill.proofs.Params.{bodies_of, Begins}

has_front : (us vs : List ℕ) (n : ℕ) → has (us ++ vs) n ≡ false → has us n ≡ false
has_front [] vs n h = refl
has_front (u ∷ us) vs n h = by (nat_eq n u) h (λ g. has_front us vs n g)
  where
    by : (b : Bool) → (b || has (us ++ vs) n) ≡ false → (has (us ++ vs) n ≡ false → has us n ≡ false) → (b || has us n) ≡ false
    by true g f = g
    by false g f = f g

distinct_front : (us vs : List ℕ) → IsDistinct (us ++ vs) → IsDistinct us
distinct_front [] vs d = tt
distinct_front (u ∷ us) vs d = (has_front us vs u d.0, distinct_front us vs d.1)

-- the first and those of functions are distinct
pub roots_distinct : (fs : List Function) (parts : List ℕ) → IsDistinct (0 ∷ (bodies_of fs ++ parts)) → IsDistinct (0 ∷ bodies_of fs)
roots_distinct fs parts d = distinct_front (0 ∷ bodies_of fs) parts d

pub first_not : (fs : List Function) (parts : List ℕ) → IsDistinct (0 ∷ (bodies_of fs ++ parts)) → IsAmong 0 parts → ⊥
first_not fs parts d m = let t : false ≡ true = sym d.0 ∙ has_among 0 (bodies_of fs ++ parts) (among_right 0 (bodies_of fs) parts m) in cc

pub all_stand : (p : Closed) (n : ℕ) (fs : List Function) → length p.bodies ≡ n → AllByRecursion (FunctionKept p) fs → AllByRecursion (λ f. f.body < n) fs
all_stand p n [] e h = tt
all_stand p n (f ∷ fs) e h = (subst (λ m. f.body < m) e h.0.0, all_stand p n fs e h.1)

-- what holds of bodies that stand in no other holds of those of functions
module _ (p : Closed) (lives entries : List (List ℕ)) (theres : List Body) (parts : List ℕ) (all : (i : ℕ) (at : Places) → (IsAmong i parts → ⊥) → HasPlaces lives entries i at → place_code at (closing.code_at p.bodies i) ≡ placing.code_at theres i) where
  pub functions_placed : (fs : List Function) → ((n : ℕ) → IsAmong n (bodies_of fs) → IsAmong n parts → ⊥) → AllByRecursion (Begins lives entries) fs → AllByRecursion (λ f. placing.code_at theres f.body ≡ place_plain (closing.routine_of p.bodies f)) fs
  functions_placed [] apart h = tt
  functions_placed (f ∷ fs) apart h =
      (sym (all f.body (at_params f.params 0 nowhere) (apart f.body (inl refl)) h.0), functions_placed fs (λ n m. apart n (inr m)) h.1)

pub functions_apart : (fs : List Function) (parts : List ℕ) → IsDistinct (0 ∷ (bodies_of fs ++ parts)) → (n : ℕ) → IsAmong n (bodies_of fs) → IsAmong n parts → ⊥
functions_apart fs parts d n m k = distinct_cross (bodies_of fs) parts n d.1 m k
