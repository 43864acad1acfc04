-- The numbers of the variables that stand in types, with renames.
use Rattle.std.proofs.Common.{◌≡◌, ℕ, Bool, true, false, List, [], ◌∷◌, refl, sym, ap, ◌∙◌, subst, nat_eq, inl, inr, map}
use Rattle.std.specs.Prelude.{◌||◌}
use Rattle.std.specs.List.{find}
use Rattle.sml_types.specs.declared.types.TyVar.{TyVar}
use Rattle.sml_types.specs.Tree.{Tree, Variable, inst, occurs}
use Rattle.sml_types.specs.Poly.{is_in}
use Rattle.sml_types.specs.Typing.{IsAmong}
use Rattle.sml_types.proofs.TreeFacts.{either}
use Rattle.sml_unify.specs.declared.resolve.Rename.{Rename}
use Rattle.sml_unify.specs.Resolve.{renamed, renamed_as, led_to}
use Rattle.sml_unify.specs.Variables.{AreVariables}
use Rattle.infer_closing.proofs.Trees.{occurs_through, standing_in, variables_all, variables_stand}
use Rattle.infer_checks.specs.Ending.{Lists}

abbrev num_of : List Rename → TyVar → ℕ
num_of renames v = (renamed_as v (led_to (find (λ r. nat_eq r.from v.num) renames))).num

second : (x y : Bool) → y ≡ true → (x || y) ≡ true
second true y e = refl
second false y e = e

in_map : (f : TyVar → ℕ) (vs : List TyVar) (v : TyVar) (a : ℕ) → IsAmong v vs → nat_eq a (f v) ≡ true → is_in (map f vs) a ≡ true
in_map f [] v a m e = absurd m
in_map f (w ∷ vs) v a (inl q) e = ap (λ b. b || is_in (map f vs) a) (ap (λ x. nat_eq a (f x)) (sym q) ∙ e)
in_map f (w ∷ vs) v a (inr m) e = second (nat_eq a (f w)) (is_in (map f vs) a) (in_map f vs v a m e)

map_has : (f : TyVar → ℕ) (vs : List TyVar) (a : ℕ) → is_in (map f vs) a ≡ true → (v : TyVar) × IsAmong v vs × (nat_eq a (f v) ≡ true)
map_has f [] a e = cc
map_has f (w ∷ vs) a e =
    either
    (nat_eq a (f w))
    (is_in (map f vs) a)
    ((v : TyVar) × IsAmong v (w ∷ vs) × (nat_eq a (f v) ≡ true))
    e
    (λ q. (w, inl refl, q))
    (λ q. let r = map_has f vs a q in (r.0, inr r.1, r.2))

-- the renamed variables of a type are those of the type with the renames
pub numbers_listed : (renames : List Rename) (t : Tree) (vs : List TyVar) (numbers : List ℕ) → AreVariables vs t → numbers ≡ map (λ v. (renamed_as v (led_to (find (λ r. nat_eq r.from v.num) renames))).num) vs → Lists (λ a. occurs a (inst (renamed renames) t) ≡ true) numbers
numbers_listed renames t vs numbers are e =
    subst
    (λ ns. Lists (λ a. occurs a (inst (renamed renames) t) ≡ true) ns)
    (sym e)
    (record {
      all = λ a o. let r = standing_in (renamed renames) a t o in in_map (num_of renames) vs r.0 a (variables_all vs t are r.0 r.1) r.2;
      only = λ a i. let r = map_has (num_of renames) vs a i in occurs_through (renamed renames) a r.0 t (variables_stand vs t are r.0 r.1) r.2;
    })

-- a variable is the only one of itself
pub one_variable : (v : TyVar) → AreVariables (v ∷ []) (Variable v)
one_variable v = record { each = inl refl; stand = (refl, tt); once = (refl, tt) }
