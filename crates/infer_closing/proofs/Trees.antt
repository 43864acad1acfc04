-- Variables that stand in types.
use Rattle.std.proofs.Common.{◌≡◌, ℕ, true, List, [], ◌∷◌, refl, sym, ap, ◌∙◌, ◌⊎◌, inl, inr, nat_eq, subst}
use Rattle.std.specs.Prelude.{◌&&◌, ◌++◌}
use Rattle.std.specs.List.{AllByRecursion}
use Rattle.std.proofs.lemmas.Bool.{eq-eqb, eqb-true}
use Rattle.sml_types.specs.declared.types.TyVar.{TyVar}
use Rattle.sml_types.specs.Tree.{Tree, Variable, App, NoParts, Part, inst, occurs, AllVars}
use Rattle.sml_types.specs.Poly.{has_num}
use Rattle.sml_types.specs.Typing.{IsAmong, Covers}
use Rattle.sml_types.proofs.TreeFacts.{or_left, or_right, either, and_both}
use Rattle.sml_unify.specs.Solved.{Substitution}
use Rattle.sml_unify.specs.Variables.{Stands, AreVariables}
use Rattle.infer_closing.specs.Open.{has_all}

-- what stands in what a variable of a type stands for, stands in the type under the substitution
pub occurs_through : (f : Substitution) (a : ℕ) (w : TyVar) (t : Tree) → Stands w t → occurs a (f w) ≡ true → occurs a (inst f t) ≡ true
occurs_through f a w (Variable v) s o = ap (λ (u : TyVar). occurs a (f u)) (sym s) ∙ o
occurs_through f a w (App h ts) s o = occurs_through f a w ts s o
occurs_through f a w NoParts s o = absurd s
occurs_through f a w (Part t ts) (inl s) o = or_left (occurs a (inst f t)) (occurs a (inst f ts)) (occurs_through f a w t s o)
occurs_through f a w (Part t ts) (inr s) o = or_right (occurs a (inst f t)) (occurs a (inst f ts)) (occurs_through f a w ts s o)

pub stands_through : (f : Substitution) (v w : TyVar) (t : Tree) → Stands w t → Stands v (f w) → Stands v (inst f t)
stands_through f v w (Variable u) s o = subst (λ (u : TyVar). Stands v (f u)) s o
stands_through f v w (App h ts) s o = stands_through f v w ts s o
stands_through f v w NoParts s o = absurd s
stands_through f v w (Part t ts) (inl s) o = inl (stands_through f v w t s o)
stands_through f v w (Part t ts) (inr s) o = inr (stands_through f v w ts s o)

-- what stands in a type under a substitution stands in what one of its variables stands for
pub standing_in : (f : Substitution) (a : ℕ) (t : Tree) → occurs a (inst f t) ≡ true → (w : TyVar) × Stands w t × (occurs a (f w) ≡ true)
standing_in f a (Variable v) o = (v, refl, o)
standing_in f a (App h ts) o = standing_in f a ts o
standing_in f a NoParts o = cc
standing_in f a (Part t ts) o =
    either
    (occurs a (inst f t))
    (occurs a (inst f ts))
    ((w : TyVar) × Stands w (Part t ts) × (occurs a (f w) ≡ true))
    o
    (λ q. let r = standing_in f a t q in (r.0, inl r.1, r.2))
    (λ q. let r = standing_in f a ts q in (r.0, inr r.1, r.2))

-- what holds of all variables holds of one that stands there
pub at_standing : (P : TyVar → Type 0) (t : Tree) (w : TyVar) → AllVars P t → Stands w t → P w
at_standing P (Variable v) w h s = subst P (sym s) h
at_standing P (App c ts) w h s = at_standing P ts w h s
at_standing P NoParts w h s = absurd s
at_standing P (Part t ts) w h (inl s) = at_standing P t w h.0 s
at_standing P (Part t ts) w h (inr s) = at_standing P ts w h.1 s

-- and what holds of each one that stands there holds of all
pub from_standing : (P : TyVar → Type 0) (t : Tree) → ((w : TyVar) → Stands w t → P w) → AllVars P t
from_standing P (Variable v) h = h v refl
from_standing P (App c ts) h = from_standing P ts h
from_standing P NoParts h = tt
from_standing P (Part t ts) h = (from_standing P t (λ w s. h w (inl s)), from_standing P ts (λ w s. h w (inr s)))

-- ---- Lists of variables

pub among_has : (vs : List TyVar) (v : TyVar) → IsAmong v vs → has_num vs v.num ≡ true
among_has [] v h = absurd h
among_has (w ∷ vs) v (inl e) = or_left (nat_eq v.num w.num) (has_num vs v.num) (eq-eqb v.num w.num (ap (λ (u : TyVar). u.num) e))
among_has (w ∷ vs) v (inr h) = or_right (nat_eq v.num w.num) (has_num vs v.num) (among_has vs v h)

-- a number that is there is one of a variable
pub has_among : (vs : List TyVar) (x : ℕ) → has_num vs x ≡ true → (v : TyVar) × IsAmong v vs × (x ≡ v.num)
has_among [] x e = cc
has_among (w ∷ vs) x e =
    either
    (nat_eq x w.num)
    (has_num vs x)
    ((v : TyVar) × IsAmong v (w ∷ vs) × (x ≡ v.num))
    e
    (λ q. (w, inl refl, eqb-true x w.num q))
    (λ q. let r = has_among vs x q in (r.0, inr r.1, r.2))

pub at_among : (P : TyVar → Type 0) (vs : List TyVar) (v : TyVar) → AllByRecursion P vs → IsAmong v vs → P v
at_among P [] v h m = absurd m
at_among P (w ∷ vs) v h (inl e) = subst P (sym e) h.0
at_among P (w ∷ vs) v h (inr m) = at_among P vs v h.1 m

pub from_among : (P : TyVar → Type 0) (vs : List TyVar) → ((v : TyVar) → IsAmong v vs → P v) → AllByRecursion P vs
from_among P [] h = tt
from_among P (w ∷ vs) h = (h w (inl refl), from_among P vs (λ v m. h v (inr m)))

pub among_front : (xs ys : List TyVar) (v : TyVar) → IsAmong v xs → IsAmong v (xs ++ ys)
among_front [] ys v m = absurd m
among_front (x ∷ xs) ys v (inl e) = inl e
among_front (x ∷ xs) ys v (inr m) = inr (among_front xs ys v m)

pub among_back : (xs ys : List TyVar) (v : TyVar) → IsAmong v ys → IsAmong v (xs ++ ys)
among_back [] ys v m = m
among_back (x ∷ xs) ys v m = inr (among_back xs ys v m)

pub among_either : (xs ys : List TyVar) (v : TyVar) → IsAmong v (xs ++ ys) → IsAmong v xs ⊎ IsAmong v ys
among_either [] ys v m = inr m
among_either (x ∷ xs) ys v (inl e) = inl (inl e)
among_either (x ∷ xs) ys v (inr m) = go (among_either xs ys v m)
  where
    go : IsAmong v xs ⊎ IsAmong v ys → IsAmong v (x ∷ xs) ⊎ IsAmong v ys
    go (inl k) = inl (inr k)
    go (inr k) = inr k

-- the variables of a type are those that stand in it
pub variables_all : (vs : List TyVar) (t : Tree) → AreVariables vs t → (v : TyVar) → Stands v t → IsAmong v vs
variables_all vs t a v s = at_standing (λ u. IsAmong u vs) t v a.each s

pub variables_stand : (vs : List TyVar) (t : Tree) → AreVariables vs t → (v : TyVar) → IsAmong v vs → Stands v t
variables_stand vs t a v m = at_among (λ u. Stands u t) vs v a.stand m

-- ---- What a scheme leaves open

pub covers_all : (vs : List TyVar) (t : Tree) → Covers vs t → has_all vs t ≡ true
covers_all vs (Variable v) h = among_has vs v h
covers_all vs (App c ts) h = covers_all vs ts h
covers_all vs NoParts h = refl
covers_all vs (Part t ts) h = ap (λ b. b && has_all vs ts) (covers_all vs t h.0) ∙ covers_all vs ts h.1

pub all_stand : (vs : List TyVar) (t : Tree) (w : TyVar) → has_all vs t ≡ true → Stands w t → has_num vs w.num ≡ true
all_stand vs (Variable v) w e s = ap (λ (u : TyVar). has_num vs u.num) s ∙ e
all_stand vs (App c ts) w e s = all_stand vs ts w e s
all_stand vs NoParts w e s = absurd s
all_stand vs (Part t ts) w e (inl s) = all_stand vs t w (and_both (has_all vs t) (has_all vs ts) e).0 s
all_stand vs (Part t ts) w e (inr s) = all_stand vs ts w (and_both (has_all vs t) (has_all vs ts) e).1 s
