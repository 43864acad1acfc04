-- Records that are noted.
use Rattle.std.proofs.Common.{◌≡◌, ◌+◌, ◌<◌, drop, length, ℕ, zero, suc, Bool, true, false, cond, List, [], ◌∷◌, ◌++◌, Option, Some, refl, ap, ◌∙◌, arith}
use Rattle.std.specs.Prelude.{get_or, nat_eq, ◌||◌, ◌==◌, is_some}
use Rattle.std.specs.List.{list_any}
use Rattle.closure_ir.specs.declared.operand.Operand.{Operand}
use Rattle.closure_ir.specs.declared.operand.Operand.TheVariants as operand
use Rattle.close_laws.specs.Lower.{Hand, placed}
use Rattle.close_groups.specs.Group.{noted, if_missing, missing}

append_none : (xs : List ℕ) → xs ++ [] ≡ xs
append_none [] = refl
append_none (x ∷ xs) = ap (λ ys. x ∷ ys) (append_none xs)

append_one : (xs : List ℕ) (x : ℕ) (ys : List ℕ) → (xs ++ x ∷ []) ++ ys ≡ xs ++ x ∷ ys
append_one [] x ys = refl
append_one (z ∷ xs) x ys = ap (λ zs. z ∷ zs) (append_one xs x ys)

drop_next : (xs : List ℕ) (i d : ℕ) → i < length xs → drop i xs ≡ get_or xs i d ∷ drop (suc i) xs
drop_next [] i d h = absurd (omega (arith, h))
drop_next (x ∷ xs) zero d h = refl
drop_next (x ∷ xs) (suc i) d h = drop_next xs i d (omega (arith, h))

pub drop_at : (xs : List ℕ) (i d : ℕ) → i < length xs → drop i xs ≡ get_or xs i d ∷ drop (i + 1) xs
drop_at xs i d h = let e : suc i ≡ i + 1 = omega arith in drop_next xs i d h ∙ ap (λ j. get_or xs i d ∷ drop j xs) e

pub noted_some : (hand : Hand) (ks : List ℕ) (k : ℕ) → is_some (noted hand ks k) ≡ (list_any (λ j. j == k) ks || is_some (hand k))
noted_some hand [] k = refl
noted_some hand (j ∷ ks) k =
    noted_some (placed hand j (Some (operand.New 0))) ks k
    ∙ by (nat_eq k j) (j == k) (list_any (λ i. i == k) ks) (hand k) (turned k j)
  where
    turned : (a b : ℕ) → nat_eq a b ≡ (b == a)
    turned a b = grind arith

    by : (s t u : Bool) (o : Option Operand) → s ≡ t → (u || is_some (cond s (Some (operand.New 0)) o)) ≡ ((t || u) || is_some o)
    by true true true o e = refl
    by true true false o e = refl
    by false false true o e = refl
    by false false false o e = refl
    by true false u o e = absurd (cc)
    by false true u o e = absurd (cc)

pub noted_more : (hand : Hand) (ks : List ℕ) (k : ℕ) → noted hand (ks ++ k ∷ []) ≡ placed (noted hand ks) k (Some (operand.New 0))
noted_more hand [] k = refl
noted_more hand (j ∷ ks) k = noted_more (placed hand j (Some (operand.New 0))) ks k

-- one class more is looked at
pub missing_step : (hand : Hand) (found later : List ℕ) (k : ℕ) (rest : List ℕ) → later ≡ found ++ if_missing (noted hand found) k → later ++ missing (noted hand later) rest ≡ found ++ missing (noted hand found) (k ∷ rest)
missing_step hand found later k rest e = by (is_some (noted hand found k)) e
  where
    by : (b : Bool) → later ≡ found ++ cond b [] (k ∷ []) → later ++ missing (noted hand later) rest ≡ found ++ cond b (missing (noted hand found) rest) (k ∷ missing (placed (noted hand found) k (Some (operand.New 0))) rest)
    by true f = let same : later ≡ found = f ∙ append_none found in ap (λ ks. ks ++ missing (noted hand ks) rest) same
    by false f =
        ap (λ ks. ks ++ missing (noted hand ks) rest) f
        ∙ append_one found k (missing (noted hand (found ++ k ∷ [])) rest)
        ∙ ap (λ (h : Hand). found ++ k ∷ missing h rest) (noted_more hand found k)
