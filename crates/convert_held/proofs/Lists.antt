-- Which variables are in lists put behind one another, and how many there are.
use Rattle.std.proofs.Common.{◌≡◌, ℕ, ◌≤◌, Bool, true, false, List, [], ◌∷◌, ◌++◌, length, refl, sym, ◌∙◌, subst, arith, eq-eqb, nat_eq}
use Rattle.std.specs.Prelude.{◌||◌}
use Rattle.std.specs.List.{AllByRecursion}
use Rattle.std.proofs.lemmas.Bool.{eqb-true}
use Rattle.std.proofs.lemmas.List.{length-append}
use Rattle.std.proofs.lemmas.List.Folds.{list_any-append}
use Rattle.sml_tree.specs.Sets.{has, without}
use Rattle.sml_tree.proofs.Members.{either, or_left, or_right, IsWithin, within_both, without_parts}
use Rattle.cps_ir.specs.declared.atom.Atom.{Atom}
use Rattle.cps_ir.specs.declared.atom.Atom.TheVariants as atom
use Rattle.cps_ir.specs.Free.{vars, vars_all}
use Rattle.convert_laws.specs.Convert.{Scope}

has_append : (xs ys : List ℕ) (z : ℕ) → has (xs ++ ys) z ≡ (has xs z || has ys z)
has_append xs ys z = list_any-append (nat_eq z) xs ys

pub neither : (b c : Bool) → b ≡ false → c ≡ false → (b || c) ≡ false
neither true c f g = absurd (let clash : true ≡ false = f in cc)
neither false c f g = g

pub front_in : (xs ys : List ℕ) → IsWithin xs (xs ++ ys)
front_in xs ys z h = has_append xs ys z ∙ or_left (has xs z) (has ys z) h

pub back_in : (xs ys : List ℕ) → IsWithin ys (xs ++ ys)
back_in xs ys z h = has_append xs ys z ∙ or_right (has xs z) (has ys z) h

pub both_in : (xs ys zs : List ℕ) → IsWithin xs zs → IsWithin ys zs → IsWithin (xs ++ ys) zs
both_in xs ys zs f g z h = either (has xs z) (has ys z) (has zs z ≡ true) (sym (has_append xs ys z) ∙ h) (f z) (g z)

pub all_in : (xs : List ℕ) → IsWithin xs xs
all_in xs z h = h

pub none_in : (xs : List ℕ) → IsWithin [] xs
none_in xs z h = absurd (let clash : false ≡ true = h in cc)

pub head_in : (x : ℕ) (xs : List ℕ) → has (x ∷ xs) x ≡ true
head_in x xs = or_left (nat_eq x x) (has xs x) (eq-eqb x x refl)

pub tail_in : (x : ℕ) (xs : List ℕ) → IsWithin xs (x ∷ xs)
tail_in x xs z h = or_right (nat_eq z x) (has xs z) h

pub cons_in : (x : ℕ) (xs zs : List ℕ) → has zs x ≡ true → IsWithin xs zs → IsWithin (x ∷ xs) zs
cons_in x xs zs e g z h = either (nat_eq z x) (has xs z) (has zs z ≡ true) h
    (λ s. let same : z ≡ x = eqb-true z x s in subst (λ y. has zs y ≡ true) (sym same) e)
    (g z)

pub one_in : (x : ℕ) (zs : List ℕ) → has zs x ≡ true → IsWithin (x ∷ []) zs
one_in x zs e = cons_in x [] zs e (none_in zs)

-- what is read besides what is bound
pub rest_in : (xs gone zs : List ℕ) → IsWithin xs (gone ++ zs) → IsWithin (without xs gone) zs
rest_in xs gone zs f z h =
    let parts = without_parts xs gone z h in
    either (has gone z) (has zs z) (has zs z ≡ true) (sym (has_append gone zs z) ∙ f z parts.0) (λ e. absurd (let clash : true ≡ false = sym e ∙ parts.1 in cc)) (λ e. e)

-- ---- Atoms

abbrev pub IsIn : List ℕ → Atom → Type 0
IsIn zs a = IsWithin (vars a) zs

abbrev pub AreIn : List ℕ → List Atom → Type 0
AreIn zs atoms = AllByRecursion (IsIn zs) atoms

pub atoms_in : (zs : List ℕ) (atoms : List Atom) → AreIn zs atoms → IsWithin (vars_all atoms) zs
atoms_in zs [] h = none_in zs
atoms_in zs (a ∷ atoms) h = within_both (vars a) (vars_all atoms) zs h.0 (atoms_in zs atoms h.1)

-- the variables of atoms, one behind the other
abbrev pub each_var : List Atom → List ℕ
each_var [] = []
each_var (a ∷ atoms) = vars a ++ each_var atoms

one_var : (a : Atom) → length (vars a) ≤ 1
one_var (atom.Var x) = omega arith
one_var (atom.Constant k) = omega arith

pub few_vars : (atoms : List Atom) → length (each_var atoms) ≤ length atoms
few_vars [] = omega arith
few_vars (a ∷ atoms) =
    let both = length-append (vars a) (each_var atoms) in
    let first = one_var a in
    let rest = few_vars atoms in
    omega (arith, both, first, rest)

pub var_few : (a : Atom) → length (vars a) ≤ 1
var_few a = one_var a

pub each_in : (zs : List ℕ) (atoms : List Atom) → IsWithin (each_var atoms) zs → AreIn zs atoms
each_in zs [] h = tt
each_in zs (a ∷ atoms) h =
    ((λ z e. h z (front_in (vars a) (each_var atoms) z e)), each_in zs atoms (λ z e. h z (back_in (vars a) (each_var atoms) z e)))

pub in_each : (zs : List ℕ) (atoms : List Atom) → AreIn zs atoms → IsWithin (each_var atoms) zs
in_each zs [] h = none_in zs
in_each zs (a ∷ atoms) h = both_in (vars a) (each_var atoms) zs h.0 (in_each zs atoms h.1)

pub more_in : (zs ws : List ℕ) (atoms : List Atom) → IsWithin zs ws → AreIn zs atoms → AreIn ws atoms
more_in zs ws [] g h = tt
more_in zs ws (a ∷ atoms) g h = ((λ z e. g z (h.0 z e)), more_in zs ws atoms g h.1)

pub last_in : (zs : List ℕ) (atoms : List Atom) (a : Atom) → AreIn zs atoms → IsIn zs a → AreIn zs (atoms ++ a ∷ [])
last_in zs [] a h g = (g, tt)
last_in zs (b ∷ atoms) a h g = (h.0, last_in zs atoms a h.1 g)

-- ---- Scopes

-- the atoms of these names
abbrev pub image : Scope → List ℕ → List ℕ
image σ [] = []
image σ (x ∷ xs) = vars (σ x) ++ image σ xs

pub few_image : (σ : Scope) (xs : List ℕ) → length (image σ xs) ≤ length xs
few_image σ [] = omega arith
few_image σ (x ∷ xs) =
    let both = length-append (vars (σ x)) (image σ xs) in
    let first = one_var (σ x) in
    let rest = few_image σ xs in
    omega (arith, both, first, rest)

-- the atoms of these names are in the list
abbrev pub Covers : List ℕ → Scope → List ℕ → Type 0
Covers zs σ xs = (x : ℕ) → has xs x ≡ true → IsIn zs (σ x)

pub covers_fewer : (zs : List ℕ) (σ : Scope) (xs ys : List ℕ) → IsWithin ys xs → Covers zs σ xs → Covers zs σ ys
covers_fewer zs σ xs ys f h x e = h x (f x e)

pub covers_more : (zs ws : List ℕ) (σ : Scope) (xs : List ℕ) → IsWithin zs ws → Covers zs σ xs → Covers ws σ xs
covers_more zs ws σ xs f h x e z g = f z (h x e z g)

pub image_covers : (σ : Scope) (xs : List ℕ) → Covers (image σ xs) σ xs
image_covers σ [] x e = absurd (let clash : false ≡ true = e in cc)
image_covers σ (y ∷ xs) x e = either (nat_eq x y) (has xs x) (IsIn (image σ (y ∷ xs)) (σ x)) e
    (λ s. let same : x ≡ y = eqb-true x y s in subst (λ w. IsIn (image σ (y ∷ xs)) (σ w)) (sym same) (front_in (vars (σ y)) (image σ xs)))
    (λ g z k. back_in (vars (σ y)) (image σ xs) z (image_covers σ xs x g z k))

pub image_in : (zs : List ℕ) (σ : Scope) (xs : List ℕ) → Covers zs σ xs → IsWithin (image σ xs) zs
image_in zs σ [] h = none_in zs
image_in zs σ (x ∷ xs) h =
    both_in (vars (σ x)) (image σ xs) zs (h x (head_in x xs)) (image_in zs σ xs (λ y e. h y (tail_in x xs y e)))
