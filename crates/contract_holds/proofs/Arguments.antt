-- Arguments in the place of parameters.
use Rattle.std.proofs.Common.{◌≡◌, ◌≢◌, ℕ, ◌<◌, List, [], ◌∷◌, length, Bool, true, false, cond, nat_lt, nat_eq, refl, sym, ap, ◌∙◌, subst, arith, eqb-true}
use Rattle.std.specs.Prelude.{slice_set}
use Rattle.std.specs.List.{AllByRecursion}
use Rattle.cps_ir.specs.declared.atom.Atom.{Atom}
use Rattle.cps_ir.specs.declared.atom.Atom.TheVariants as atom
use Rattle.cps_ir.specs.State.{bind}
use Rattle.contract_laws.specs.Redex.{uses_atom, uses_atoms}
use Rattle.contract_laws.specs.Weigh.{names_weigh, of_name}
use Rattle.contract_laws.proofs.Relation.{eqb_other}
use Rattle.contract_round.specs.Round.{with_arguments}
use Rattle.contract_round.proofs.Facts.{own_same}
use Rattle.contract_known.specs.Known.{place_of}
use Rattle.contract_binds.specs.Binds.{put}
use Rattle.contract_steps.specs.Steps.{put_arguments}
use Rattle.contract_holds.proofs.Tables.{put_length, put_other, put_same}
use Rattle.contract_holds.proofs.Narrow.{or_same}

pub arguments_length : (xs : List ℕ) (us places : List _) → length (put_arguments xs us places) ≡ length places
arguments_length [] us places = refl
arguments_length (x ∷ xs) [] places = refl
arguments_length (x ∷ xs) (u ∷ us) places = arguments_length xs us (put x u places) ∙ put_length x u places

pub arguments_other : (xs : List ℕ) (us places : List Atom) (y : ℕ) → names_weigh (of_name y) xs ≡ 0 → place_of (put_arguments xs us places) y ≡ place_of places y
arguments_other [] us places y e = refl
arguments_other (x ∷ xs) [] places y e = refl
arguments_other (x ∷ xs) (u ∷ us) places y e =
    arguments_other xs us (put x u places) y (omega arith) ∙ put_other x y u (atom.Var y) places (λ q. let o = own_same y x q in absurd (omega arith))

-- what isn't in the arguments doesn't come into the table
pub arguments_clean : (z : ℕ) (xs : List ℕ) (us places : List Atom) → uses_atoms z us ≡ 0 → ((y : ℕ) → y ≢ z → uses_atom z (place_of places y) ≡ 0) → (y : ℕ) → y ≢ z → uses_atom z (place_of (put_arguments xs us places) y) ≡ 0
arguments_clean z [] us places u h = h
arguments_clean z (x ∷ xs) [] places u h = h
arguments_clean z (x ∷ xs) (v ∷ us) places u h = arguments_clean z xs us (put x v places) (omega arith) next
  where
    next : (y : ℕ) → y ≢ z → uses_atom z (place_of (put x v places) y) ≡ 0
    next y n = by (nat_lt x (length places)) refl
      where
        by : (b : Bool) → nat_lt x (length places) ≡ b → uses_atom z (place_of (cond b (slice_set places x v) places) y) ≡ 0
        by false e = h y n
        by true e = subst (λ t. uses_atom z (place_of t y) ≡ 0) (ap (λ b. cond b (slice_set places x v) places) e)
            (or_same x y (λ w. uses_atom z (place_of (put x v places) w) ≡ 0)
            (let l : x < length places = grind arith in let k = ap (uses_atom z) (put_same x v (atom.Var x) places l) in omega arith)
            (λ q. ap (uses_atom z) (put_other x y v (atom.Var y) places q) ∙ h y n))

pub arguments_same : (xs : List ℕ) (us places : List Atom) (σ : ℕ → Atom) → AllByRecursion (λ x. x < length places) xs → ((y : ℕ) → σ y ≡ place_of places y) → (y : ℕ) → with_arguments σ xs us y ≡ place_of (put_arguments xs us places) y
arguments_same [] us places σ l h = h
arguments_same (x ∷ xs) [] places σ l h = h
arguments_same (x ∷ xs) (u ∷ us) places σ l h =
    arguments_same xs us (put x u places) (bind σ x u) (below xs l.1) next
  where
    below : (xs : List ℕ) → AllByRecursion (λ x. x < length places) xs → AllByRecursion (λ y. y < length (put x u places)) xs
    below [] a = tt
    below (y ∷ ys) a = (let k = a.0 in let e = put_length x u places in omega arith, below ys a.1)

    next : (y : ℕ) → bind σ x u y ≡ place_of (put x u places) y
    next y = by (nat_eq y x) refl
      where
        by : (b : Bool) → nat_eq y x ≡ b → cond b u (σ y) ≡ place_of (put x u places) y
        by true e = subst (λ w. u ≡ place_of (put x u places) w) (sym (eqb-true y x e)) (sym (put_same x u (atom.Var x) places l.0))
        by false e = h y ∙ sym (put_other x y u (atom.Var y) places (eqb_other y x e))
