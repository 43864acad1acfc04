-- What binds a name once binds it as a variable or as an exception.
use Rattle.std.proofs.Common.{◌≡◌, ℕ, zero, suc, true, false, List, [], ◌∷◌, ◌++◌, refl, sym, ap, ◌∙◌, Some, eqb-true}
use Rattle.std.specs.Prelude.{Bool, slice_get, flat_map, nat_eq, ◌||◌}
use Rattle.sml_tree.specs.declared.bare.Node.{Node}
use Rattle.sml_tree.specs.declared.bare.Node.TheVariants as node
use Rattle.sml_tree.specs.IsBare.{IsDistinct, names_at}
use Rattle.sml_tree.specs.Sets.{has}
use Rattle.sane_laws.specs.Uses.{exceptions_at, exceptions}

has_append : (x : ℕ) (xs ys : List ℕ) → has (xs ++ ys) x ≡ (has xs x || has ys x)
has_append x [] ys = refl
has_append x (y ∷ xs) ys = go (nat_eq x y) (has_append x xs ys)
  where
    go : (b : Bool) → has (xs ++ ys) x ≡ (has xs x || has ys x) → (b || has (xs ++ ys) x) ≡ ((b || has xs x) || has ys x)
    go true e = refl
    go false e = e

pub has_left : (x : ℕ) (xs ys : List ℕ) → has xs x ≡ true → has (xs ++ ys) x ≡ true
has_left x xs ys h = has_append x xs ys ∙ ap (λ b. b || has ys x) h

pub has_right : (x : ℕ) (xs ys : List ℕ) → has ys x ≡ true → has (xs ++ ys) x ≡ true
has_right x xs ys h = has_append x xs ys ∙ go (has xs x) h
  where
    go : (b : Bool) → has ys x ≡ true → (b || has ys x) ≡ true
    go true e = refl
    go false e = e

-- of two lists without doubles between them an item stands in one alone
in_one : (x : ℕ) (xs ys : List ℕ) → IsDistinct (xs ++ ys) → has xs x ≡ true → has ys x ≡ false
in_one x [] ys d h = cc
in_one x (y ∷ xs) ys d h = go (nat_eq x y) refl h (in_one x xs ys d.1)
  where
    other : (b : Bool) → has ys x ≡ b → has (xs ++ ys) x ≡ false → has ys x ≡ false
    other true e n = let m = has_right x xs ys e in cc
    other false e n = e

    go : (b : Bool) → nat_eq x y ≡ b → (b || has xs x) ≡ true → (has xs x ≡ true → has ys x ≡ false) → has ys x ≡ false
    go true e m f = let same : x ≡ y = eqb-true x y e in other (has ys x) refl (ap (has (xs ++ ys)) same ∙ d.0)
    go false e m f = f m

in_rest : (x : ℕ) (xs ys : List ℕ) → IsDistinct (xs ++ ys) → IsDistinct ys
in_rest x [] ys d = d
in_rest x (y ∷ xs) ys d = in_rest x xs ys d.1

no_clash : {A : Type 0} → false ≡ true → A
no_clash e = absurd cc

-- an exception that a node declares is a name that it binds
bound_at : (n : Node) (x : ℕ) → has (exceptions_at n) x ≡ true → has (names_at n) x ≡ true
bound_at (node.Exception y ty) x h = h
bound_at (node.SameException y c) x h = h
bound_at (node.NoException y) x h = h
bound_at _ x h = no_clash h

bound_in : (nodes : List Node) (x : ℕ) → has (exceptions nodes) x ≡ true → has (flat_map names_at nodes) x ≡ true
bound_in [] x h = cc
bound_in (n ∷ nodes) x h = go (has (exceptions_at n) x) refl (sym (has_append x (exceptions_at n) (exceptions nodes)) ∙ h) (bound_in nodes x)
  where
    go : (b : Bool) → has (exceptions_at n) x ≡ b → (b || has (exceptions nodes) x) ≡ true → (has (exceptions nodes) x ≡ true → has (flat_map names_at nodes) x ≡ true) → has (flat_map names_at (n ∷ nodes)) x ≡ true
    go true e m f = has_left x (names_at n) (flat_map names_at nodes) (bound_at n x e)
    go false e m f = has_right x (names_at n) (flat_map names_at nodes) (f m)

stands_in : (nodes : List Node) (i : ℕ) (n : Node) (x : ℕ) → slice_get nodes i ≡ Some n → has (names_at n) x ≡ true → has (flat_map names_at nodes) x ≡ true
stands_in [] i n x e h = cc
stands_in (m ∷ nodes) zero n x e h = let same : m ≡ n = cc in has_left x (names_at m) (flat_map names_at nodes) (ap (λ w. has (names_at w) x) same ∙ h)
stands_in (m ∷ nodes) (suc i) n x e h = has_right x (names_at m) (flat_map names_at nodes) (stands_in nodes i n x e h)

not_true : (b : Bool) → (b ≡ true → ⊥) → b ≡ false
not_true true f = absurd (f refl)
not_true false f = refl

-- a node that declares no exception binds no exception
pub variable_bound : (nodes : List Node) (i : ℕ) (n : Node) (x : ℕ) → IsDistinct (flat_map names_at nodes) → slice_get nodes i ≡ Some n → exceptions_at n ≡ [] → has (names_at n) x ≡ true → has (exceptions nodes) x ≡ false
variable_bound [] i n x d e o h = cc
variable_bound (m ∷ nodes) zero n x d e o h =
    let same : m ≡ n = cc in
    let apart = in_one x (names_at m) (flat_map names_at nodes) d (ap (λ w. has (names_at w) x) same ∙ h) in
    let rest = not_true (has (exceptions nodes) x) (λ t. let b = bound_in nodes x t in cc) in
    has_append x (exceptions_at m) (exceptions nodes) ∙ ap (λ l. has l x || has (exceptions nodes) x) (ap exceptions_at same ∙ o) ∙ rest
variable_bound (m ∷ nodes) (suc i) n x d e o h =
    let inner = variable_bound nodes i n x (in_rest x (names_at m) (flat_map names_at nodes) d) e o h in
    let there = stands_in nodes i n x e h in
    let own = not_true (has (exceptions_at m) x) (λ t. let b = in_one x (names_at m) (flat_map names_at nodes) d (bound_at m x t) in cc) in
    has_append x (exceptions_at m) (exceptions nodes) ∙ ap (λ b. b || has (exceptions nodes) x) own ∙ inner

-- an exception that stands at a node is one of the tree
pub exception_bound : (nodes : List Node) (i : ℕ) (n : Node) (x : ℕ) → slice_get nodes i ≡ Some n → has (exceptions_at n) x ≡ true → has (exceptions nodes) x ≡ true
exception_bound [] i n x e h = cc
exception_bound (m ∷ nodes) zero n x e h = let same : m ≡ n = cc in has_left x (exceptions_at m) (exceptions nodes) (ap (λ w. has (exceptions_at w) x) same ∙ h)
exception_bound (m ∷ nodes) (suc i) n x e h = has_right x (exceptions_at m) (exceptions nodes) (exception_bound nodes i n x e h)
