-- The type variables that declarations bind.
use Rattle.std.specs.Prelude.{ℕ, Bool, if◌then◌else◌, List, [], ◌∷◌, ◌++◌, map, filter, reverse, nat_eq, is_some}
use Rattle.std.specs.List.{list_any}
use Rattle.smlc_base.specs.declared.refusal.Refusal.TheVariants as refusal
use Rattle.sml_tree.specs.declared.tree_node.TreeNode.TheVariants as node
use Rattle.sml_expansion.specs.declared.scope.Ident.{Ident}
use Rattle.sml_expansion.specs.Scoped.{latest}
use Rattle.sml_expansion.specs.Terms.{Term, leaf, one, two, three, four}
use Rattle.sml_expansion.specs.Scopes.{Scope, ident, text_of, with_tyvars}
use Rattle.sml_expansion.specs.Makings.{Makes, gives, breaks, new_tyvar, ◌>>=◌, ◌>>◌}
use Rattle.sml_expansion.specs.Patterns.{idents_once}

-- a sequence of type variables
abbrev pub tyvars : List (List ℕ) → Term → List Ident
tyvars names (leaf (node.TyVar x) p) = ident names (leaf (node.TyVar x) p) ∷ []
tyvars names (one node.TyVarSeq p a) = tyvars names a
tyvars names (two node.MoreTyVars p a b) = tyvars names a ++ tyvars names b
tyvars names _ = []

-- The type variables that occur in a phrase, in order, but for those in value, type and datatype declarations inside it.
abbrev pub unguarded : Term → List ℕ
unguarded (leaf (node.TyVar x) p) = x.0 ∷ []
unguarded (leaf n p) = []
unguarded (one node.Type p a) = []
unguarded (one node.Datatype p a) = []
unguarded (one n p a) = unguarded a
unguarded (two node.Val p a b) = []
unguarded (two node.Fun p a b) = []
unguarded (two n p a b) = unguarded a ++ unguarded b
unguarded (three n p a b c) = unguarded a ++ unguarded b ++ unguarded c
unguarded (four n p a b c d) = unguarded a ++ unguarded b ++ unguarded c ++ unguarded d

abbrev pub stands : List ℕ → ℕ → Bool
stands keys x = list_any (nat_eq x) keys

-- each of them once, where those of `seen` are left out
abbrev pub once : List ℕ → List ℕ → List ℕ
once seen [] = []
once seen (x ∷ keys) = if stands seen x then once seen keys else x ∷ once (x ∷ seen) keys

abbrev pub keys_of : List Ident → List ℕ
keys_of idents = map (λ i. i.key) idents

-- new type variables, with what each is numbered
abbrev pub new_tyvars : List (List ℕ) → List ℕ → Makes (List (ℕ × ℕ))
new_tyvars names [] = gives []
new_tyvars names (x ∷ keys) = do
  k ← new_tyvar (text_of names x)
  rest ← new_tyvars names keys
  gives ((x, k) ∷ rest)

-- those with a number before those around, the latest first
abbrev pub in_scope : Scope → List (ℕ × ℕ) → Scope
in_scope s vars = with_tyvars s (reverse vars ++ s.tyvars)

-- those with a number alone
abbrev pub only_params : Scope → List (ℕ × ℕ) → Scope
only_params s vars = with_tyvars s (reverse vars)

abbrev pub bound_again : Scope → Ident → Bool
bound_again s i = is_some (latest s.tyvars i.key)

-- A value declaration binds the type variables that it names, and those that occur unguarded in it and aren't bound around it.
-- None of the former is bound around it.
abbrev pub opens : Scope → List Ident → List ℕ → Makes (List (ℕ × ℕ))
opens s explicit occurring = do
  idents_once explicit
  breaks (map (λ i. refusal.BadBinding i.place) (filter (bound_again s) explicit))
  new_tyvars s.names (once [] (keys_of explicit) ++ once (keys_of explicit ++ map (λ v. v.0) s.tyvars) occurring)

-- the type variables on the left of a `type` or `datatype` binding
abbrev pub params : List (List ℕ) → List Ident → Makes (List (ℕ × ℕ))
params names idents = do
  idents_once idents
  new_tyvars names (keys_of idents)

abbrev pub numbers_of : List (ℕ × ℕ) → List ℕ
numbers_of vars = map (λ v. v.1) vars
