-- The sets of variables are ascending lists.
use Rattle.std.proofs.Common.{◌≡◌, ℕ, zero, suc, ◌≤◌, Bool, true, false, List, [], ◌∷◌, Option, Some, None, refl, sym, subst, arith}
use Rattle.std.proofs.lemmas.Bool.{eqb-true, eqb-false, ltb-true, ltb-false}
use Rattle.std.specs.Prelude.{nat_lt, nat_eq, if◌then◌else◌, filter, slice_get, length}
use Rattle.sml_tree.specs.declared.bare.Node.{Node}
use Rattle.sml_tree.specs.declared.bare.Node.TheVariants as node
use Rattle.sml_tree.specs.declared.bare.Con.{Con}
use Rattle.sml_tree.specs.declared.bare.Con.TheVariants as con
use Rattle.sml_tree.specs.declared.bare.Rule.{Rule}
use Rattle.sml_tree.specs.Sets.{merge, union, union_over, without}
use Rattle.sml_tree.specs.BareParts.{at_node, within}
use Rattle.sml_tree.specs.Free.{exception_of, binds, free, free_of, scoped, free_match}
use Rattle.sml_tree.specs.IsBare.{IsAscending}

merge_ascending : (lo x : ℕ) (rest : List ℕ → List ℕ) → lo ≤ x → ((zs : List ℕ) → IsAscending (suc x) zs → IsAscending (suc x) (rest zs)) → (ys : List ℕ) → IsAscending lo ys → IsAscending lo (merge x rest ys)
merge_ascending lo x rest le r [] h = (le, r [] tt)
merge_ascending lo x rest le r (y ∷ ys) h = go (nat_lt x y) (nat_eq x y) refl refl (λ g. merge_ascending (suc y) x rest g r ys h.1)
  where
    go : (a b : Bool) → nat_lt x y ≡ a → nat_eq x y ≡ b → (suc y ≤ x → IsAscending (suc y) (merge x rest ys)) → IsAscending lo (if a then x ∷ rest (y ∷ ys) else if b then x ∷ rest ys else y ∷ merge x rest ys)
    go true b e f later = (le, r (y ∷ ys) (ltb-true x y e, h.1))
    go false true e f later =
        let same : x ≡ y = eqb-true x y f in
        (le, r ys (subst (λ z. IsAscending (suc z) ys) (sym same) h.1))
    go false false e f later =
        let past : suc y ≤ x = (let a = ltb-false x y e in let b : x ≡ y → ⊥ = eqb-false x y f in omega arith) in
        (h.0, later past)

pub union_ascending : (lo : ℕ) (xs ys : List ℕ) → IsAscending lo xs → IsAscending lo ys → IsAscending lo (union xs ys)
union_ascending lo [] ys h g = g
union_ascending lo (x ∷ xs) ys h g =
    merge_ascending lo x (union xs) h.0 (λ zs k. union_ascending (suc x) xs zs h.1 k) ys g

ascending_down : (lo up : ℕ) (xs : List ℕ) → lo ≤ up → IsAscending up xs → IsAscending lo xs
ascending_down lo up [] le h = tt
ascending_down lo up (x ∷ xs) le h = (omega (arith, h.0), h.1)

pub filter_ascending : (f : ℕ → Bool) (lo : ℕ) (xs : List ℕ) → IsAscending lo xs → IsAscending lo (filter f xs)
filter_ascending f lo [] h = tt
filter_ascending f lo (x ∷ xs) h = go (f x) (filter_ascending f (suc x) xs h.1)
  where
    go : (t : Bool) → IsAscending (suc x) (filter f xs) → IsAscending lo (if t then x ∷ filter f xs else filter f xs)
    go true g = (h.0, g)
    go false g = ascending_down lo (suc x) (filter f xs) (omega (arith, h.0)) g

pub one_ascending : (x : ℕ) → IsAscending 0 (x ∷ [])
one_ascending x = (omega arith, tt)

pub over_ascending : {A : Type 0} (F : A → List ℕ) → ((x : A) → IsAscending 0 (F x)) → (xs : List A) → IsAscending 0 (union_over F xs)
over_ascending F h [] = tt
over_ascending F h (x ∷ xs) = union_ascending 0 (F x) (union_over F xs) (h x) (over_ascending F h xs)

exception_ascending : (c : Con) → IsAscending 0 (exception_of c)
exception_ascending (con.Exn x takes) = one_ascending x.0
exception_ascending _ = tt

module _ (b f : ℕ → List ℕ) (h : (c : ℕ) → IsAscending 0 (f c)) where
  scoped_ascending : (q e : ℕ) → IsAscending 0 (scoped b f q e)
  scoped_ascending q e = union_ascending 0 (f q) (without (f e) (b q)) (h q) (filter_ascending _ 0 (f e) (h e))

  match_ascending : (rules : List Rule) → IsAscending 0 (free_match b f rules)
  match_ascending rules = over_ascending _ (λ r. scoped_ascending r.pat r.body) rules

  of_ascending : (n : Node) → IsAscending 0 (free_of b f n)
  of_ascending (node.Var x) = one_ascending x.0
  of_ascending (node.Constructor c) = exception_ascending c
  of_ascending (node.Record fields) = over_ascending _ (λ x. h x.node) fields
  of_ascending (node.App e a) = union_ascending 0 (f e) (f a) (h e) (h a)
  of_ascending (node.Case e rules) = union_ascending 0 (f e) (free_match b f rules) (h e) (match_ascending rules)
  of_ascending (node.Fn rules) = match_ascending rules
  of_ascending (node.Raise e) = h e
  of_ascending (node.Handle e rules) = union_ascending 0 (f e) (free_match b f rules) (h e) (match_ascending rules)
  of_ascending (node.Typed e ty) = h e
  of_ascending (node.Let d e) = scoped_ascending d e
  of_ascending (node.PatCon c) = exception_ascending c
  of_ascending (node.PatApp c q) = union_ascending 0 (exception_of c) (f q) (exception_ascending c) (h q)
  of_ascending (node.PatRecord fields) = over_ascending _ (λ x. h x.node) fields
  of_ascending (node.PatTyped q ty) = h q
  of_ascending (node.PatAs x q) = h q
  of_ascending (node.PatAsCon x q) = h q
  of_ascending (node.Val tyvars bindings) =
      over_ascending _ (λ x. union_ascending 0 (f x.pat) (f x.right) (h x.pat) (h x.right)) bindings
  of_ascending (node.ValRec tyvars bindings) =
      filter_ascending _ 0 (union_over (λ x. f x.right) bindings) (over_ascending _ (λ x. h x.right) bindings)
  of_ascending (node.SameException x c) = exception_ascending c
  of_ascending _ = tt

module _ (nodes : List Node) where
  within_ascending : (k i : ℕ) → IsAscending 0 (within [] (λ part i. free_of (binds nodes) part) k nodes i)
  within_ascending zero i = tt
  within_ascending (suc k) i = go (within_ascending k) (slice_get nodes i)
    where
      go : ((c : ℕ) → IsAscending 0 (within [] (λ part i. free_of (binds nodes) part) k nodes c)) → (o : Option Node) → IsAscending 0 (at_node [] (λ part i. free_of (binds nodes) part) (within [] (λ part i. free_of (binds nodes) part) k nodes) i o)
      go h None = tt
      go h (Some n) = of_ascending (binds nodes) _ h n

  pub free_ascending : (i : ℕ) → IsAscending 0 (free nodes i)
  free_ascending i = within_ascending (length nodes) i
