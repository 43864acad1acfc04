-- The functions of a program have different names.
use Rattle.std.proofs.Common.{◌≡◌, ℕ, Bool, true, false, List, [], ◌∷◌, ◌++◌, inl, inr, refl, sym, ap, ◌∙◌, subst, arith}
use Rattle.std.specs.Prelude.{nat_eq, ◌||◌}
use Rattle.simulation.specs.Blocks.{IsAmong}
use Rattle.sml_tree.specs.IsBare.{IsDistinct}
use Rattle.sml_tree.specs.Sets.{has}
use Rattle.cps_ir.specs.Code.{Code, Make, Pick, Prim, Equal, Fix, Call, Match, Handler, SetHandler, Throw, Halt, Functions, NoFunction, Function, Rules, Otherwise, Rule}
use Rattle.cps_ir.specs.Free.{bound, bound_functions, bound_rules}
use Rattle.cps_ir.specs.Slim.{Layout, layouts, layouts_functions, layouts_rules}
use Rattle.close_laws.specs.Layouts.{names_of_layouts}
use Rattle.closed_functions.specs.Round.{NamedOnce}

-- the first list is the second with some left out
data IsPart : List ℕ → List ℕ → Type 0 where
  none : IsPart [] []
  kept : {xs ys : List ℕ} (x : ℕ) → IsPart xs ys → IsPart (x ∷ xs) (x ∷ ys)
  left : {xs ys : List ℕ} (y : ℕ) → IsPart xs ys → IsPart xs (y ∷ ys)

part_none : (ys : List ℕ) → IsPart [] ys
part_none [] = none
part_none (y ∷ ys) = left y (part_none ys)

part_append : (xs ys us vs : List ℕ) → IsPart xs ys → IsPart us vs → IsPart (xs ++ us) (ys ++ vs)
part_append _ _ us vs none q = q
part_append _ _ us vs (kept {xs} {ys} x p) q = kept x (part_append xs ys us vs p q)
part_append xs _ us vs (left {ys = ys} y p) q = left y (part_append xs ys us vs p q)

part_behind : (ps xs ys : List ℕ) → IsPart xs ys → IsPart xs (ps ++ ys)
part_behind [] xs ys p = p
part_behind (y ∷ ps) xs ys p = left y (part_behind ps xs ys p)

split_false : (a b : Bool) → (a || b) ≡ false → (a ≡ false) × (b ≡ false)
split_false true b e = absurd (cc)
split_false false b e = (refl, e)

join_false : (a b : Bool) → a ≡ false → b ≡ false → (a || b) ≡ false
join_false true b e f = absurd (cc)
join_false false b e f = f

part_lacks : (xs ys : List ℕ) (z : ℕ) → IsPart xs ys → has ys z ≡ false → has xs z ≡ false
part_lacks _ _ z none e = refl
part_lacks _ _ z (kept {xs} {ys} x p) e =
    let q = split_false (nat_eq z x) (has ys z) e in
    join_false (nat_eq z x) (has xs z) q.0 (part_lacks xs ys z p q.1)
part_lacks xs _ z (left {ys = ys} y p) e = part_lacks xs ys z p (split_false (nat_eq z y) (has ys z) e).1

part_distinct : (xs ys : List ℕ) → IsPart xs ys → IsDistinct ys → IsDistinct xs
part_distinct _ _ none d = tt
part_distinct _ _ (kept {xs} {ys} x p) d = (part_lacks xs ys x p d.0, part_distinct xs ys p d.1)
part_distinct xs _ (left {ys = ys} y p) d = part_distinct xs ys p d.1

names_append : (ls ks : List Layout) → names_of_layouts (ls ++ ks) ≡ names_of_layouts ls ++ names_of_layouts ks
names_append [] ks = refl
names_append (l ∷ ls) ks = ap (λ xs. l.name ∷ xs) (names_append ls ks)

joined : (ls ks : List Layout) (xs ys : List ℕ) → IsPart (names_of_layouts ls) xs → IsPart (names_of_layouts ks) ys → IsPart (names_of_layouts (ls ++ ks)) (xs ++ ys)
joined ls ks xs ys p q = subst (λ zs. IsPart zs (xs ++ ys)) (sym (names_append ls ks)) (part_append (names_of_layouts ls) xs (names_of_layouts ks) ys p q)

mutual
  code_names : (c : Code) → IsPart (names_of_layouts (layouts c)) (bound c)
  code_names (Make x s atoms c) = left x (code_names c)
  code_names (Pick x i a c) = left x (code_names c)
  code_names (Prim x f atoms c) = left x (code_names c)
  code_names (Equal a b truth k) = none
  code_names (Fix fs c) = joined (layouts_functions fs) (layouts c) (bound_functions fs) (bound c) (functions_names fs) (code_names c)
  code_names (Call a atoms) = none
  code_names (Match a rules) = rules_names rules
  code_names (Handler x c) = left x (code_names c)
  code_names (SetHandler a c) = code_names c
  code_names (Throw a) = none
  code_names Halt = none

  functions_names : (fs : Functions) → IsPart (names_of_layouts (layouts_functions fs)) (bound_functions fs)
  functions_names NoFunction = none
  functions_names (Function f p params body fs) =
      kept f (part_behind params (names_of_layouts (layouts body ++ layouts_functions fs)) (bound body ++ bound_functions fs) (joined (layouts body) (layouts_functions fs) (bound body) (bound_functions fs) (code_names body) (functions_names fs)))

  rules_names : (rules : Rules) → IsPart (names_of_layouts (layouts_rules rules)) (bound_rules rules)
  rules_names (Otherwise c) = code_names c
  rules_names (Rule tests c rules) = joined (layouts c) (layouts_rules rules) (bound c) (bound_rules rules) (code_names c) (rules_names rules)

among_has : (all : List Layout) (l : Layout) → IsAmong l all → has (names_of_layouts all) l.name ≡ true
among_has [] l m = absurd m
among_has (k ∷ all) l (inl e) = ap (λ b. b || has (names_of_layouts all) l.name) (subst (λ (j : Layout). nat_eq l.name j.name ≡ true) e (grind arith))
among_has (k ∷ all) l (inr m) = either (nat_eq l.name k.name) (among_has all l m)
  where
    either : (a : Bool) → has (names_of_layouts all) l.name ≡ true → (a || has (names_of_layouts all) l.name) ≡ true
    either true h = refl
    either false h = h

named_once : (all : List Layout) → IsDistinct (names_of_layouts all) → NamedOnce all
named_once [] d l k m n e = absurd m
named_once (j ∷ all) d l k (inl m) (inl n) e = m ∙ sym n
named_once (j ∷ all) d l k (inl m) (inr n) e = absurd (clash (among_has all k n) (subst (λ x. has (names_of_layouts all) x ≡ false) (sym (ap (λ (i : Layout). i.name) m) ∙ e) d.0))
  where
    clash : has (names_of_layouts all) k.name ≡ true → has (names_of_layouts all) k.name ≡ false → ⊥
    clash a b = let f : true ≡ false = sym a ∙ b in cc
named_once (j ∷ all) d l k (inr m) (inl n) e = absurd (clash (among_has all l m) (subst (λ x. has (names_of_layouts all) x ≡ false) (sym (ap (λ (i : Layout). i.name) n) ∙ sym e) d.0))
  where
    clash : has (names_of_layouts all) l.name ≡ true → has (names_of_layouts all) l.name ≡ false → ⊥
    clash a b = let f : true ≡ false = sym a ∙ b in cc
named_once (j ∷ all) d l k (inr m) (inr n) e = named_once all d.1 l k m n e

pub layouts_named_once : (c : Code) → IsDistinct (bound c) → NamedOnce (layouts c)
layouts_named_once c d = named_once (layouts c) (part_distinct (names_of_layouts (layouts c)) (bound c) (code_names c) d)
