-- What holds from a counter on holds from a lower one on.
use Rattle.std.proofs.Common.{ℕ, ◌<◌, ◌≤◌, List, [], ◌∷◌, ◌++◌, length, Option, arith, ap, ◌≡◌, refl, zero, suc, set}
use Rattle.std.specs.Prelude.{slice_get, Result, Ok, Err}
use Rattle.sml_types.specs.declared.types.Ty.{Ty}
use Rattle.sml_types.specs.declared.types.TyVar.{TyVar}
use Rattle.sml_types.specs.declared.types.TyForm.{TyForm}
use Rattle.sml_types.specs.declared.types.TyForm.TheVariants.{Var, Fields, Arrow, Named}
use Rattle.sml_types.specs.declared.tables.TypeName.{TypeName}
use Rattle.sml_unify.specs.declared.pair.Pair.{Pair}
use Rattle.sml_unify.specs.declared.error.UnifyError.{UnifyError}
use Rattle.sml_unify.specs.declared.error.UnifyError.TheVariants.{Clash, Cycle, NoEquality, NoMemory}
use Rattle.sml_unify.specs.Solved.{above, next_number}
use Rattle.sml_unify.specs.Steps.{IsExtensionFrom, AreBelow}
use Rattle.sml_unify.specs.Outcomes.{IsUnifiedFrom}
use Rattle.sml_unify.proofs.Extends.{more_cases}
use Rattle.sml_unify.proofs.Numbers.{above_at}

pub extension_below : (names : List TypeName) (next low : ℕ) (forms : List TyForm) (bound : List (Option Ty)) (pairs : List Pair) (forms2 : List TyForm) (bound2 : List (Option Ty)) → low ≤ next → IsExtensionFrom names next forms bound pairs forms2 bound2 → IsExtensionFrom names low forms bound pairs forms2 bound2
extension_below names next low forms bound pairs forms2 bound2 le x =
    record {
      solved = x.solved;
      longer = x.longer;
      number = x.number;
      marks = x.marks;
      sound = x.sound;
      general = λ f r h e. let g = x.general f r h e in (g.0, (λ v l. g.1 v (omega arith)), g.2, g.3);
    }

pub unified_below : (names : List TypeName) (next low : ℕ) (forms : List TyForm) (bound : List (Option Ty)) (pairs : List Pair) (forms2 : List TyForm) (bound2 : List (Option Ty)) (result : Result Unit UnifyError) → low ≤ next → IsUnifiedFrom names next forms bound pairs forms2 bound2 result → IsUnifiedFrom names low forms bound pairs forms2 bound2 result
unified_below names next low forms bound pairs forms2 bound2 (Ok u) le x =
    (extension_below names next low forms bound pairs forms2 bound2 le x.0, x.1)
unified_below names next low forms bound pairs forms2 bound2 (Err Clash) le x = x
unified_below names next low forms bound pairs forms2 bound2 (Err Cycle) le x = x
unified_below names next low forms bound pairs forms2 bound2 (Err NoEquality) le x = x
unified_below names next low forms bound pairs forms2 bound2 (Err NoMemory) le x = x

-- all variables have numbers below the counter
above_below : (forms : List TyForm) (next : ℕ) → AreBelow forms next → above forms ≤ next
above_below [] next h = omega arith
above_below (Var v ∷ forms) next h =
    let a = h 0 v refl in let b = above_below forms next (λ i w e. h (suc i) w e) in omega arith
above_below (Fields fields ∷ forms) next h = above_below forms next (λ i w e. h (suc i) w e)
above_below (Arrow x y ∷ forms) next h = above_below forms next (λ i w e. h (suc i) w e)
above_below (Named n args ∷ forms) next h = above_below forms next (λ i w e. h (suc i) w e)

pub number_below : (forms : List TyForm) (bound : List (Option Ty)) (next : ℕ) → AreBelow forms next → length bound ≤ next → next_number forms bound ≤ next
number_below forms bound next h le = let a = above_below forms next h in omega arith

pub below_number : (forms : List TyForm) (bound : List (Option Ty)) (next : ℕ) → next ≡ next_number forms bound → AreBelow forms next
below_number forms bound next e i v q = let a = above_at forms i v q in omega arith

pub below_more : (forms : List TyForm) (z : TyVar) (next after : ℕ) → AreBelow forms next → next ≤ after → z.num < after → AreBelow (forms ++ Var z ∷ []) after
below_more forms z next after h le l i v q =
    more_cases forms (Var z) i (Var v) (v.num < after) q (λ o. let a = h i v o in omega arith) (λ n e. let one : z ≡ v = cc in let a = ap (λ (u : TyVar). u.num) one in omega arith)

pub set_other : {A : Type 0} (xs : List A) (i : ℕ) (x : A) (j : ℕ) → (j ≡ i → ⊥) → slice_get (set xs i x) j ≡ slice_get xs j
set_other [] i x j n = refl
set_other (y ∷ ys) zero x zero n = absurd (n refl)
set_other (y ∷ ys) zero x (suc j) n = refl
set_other (y ∷ ys) (suc i) x zero n = refl
set_other (y ∷ ys) (suc i) x (suc j) n = set_other ys i x j (λ e. n (ap suc e))
