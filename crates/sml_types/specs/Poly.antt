-- Type schemes, and the context that a phrase stands in.
use Rattle.std.specs.Prelude.{◌≡◌, ℕ, Bool, true, false, ◌&&◌, not, cond, nat_eq, List, [], ◌++◌}
use Rattle.std.specs.List.{list_any, AllByRecursion}
use Rattle.sml_types.specs.declared.types.TyVar.{TyVar}
use Rattle.sml_types.specs.declared.tables.TypeName.{TypeName}
use Rattle.sml_types.specs.Tree.{Tree, Variable, inst, occurs, admits}

abbrev pub is_in : List ℕ → ℕ → Bool
is_in xs x = list_any (nat_eq x) xs

abbrev pub has_num : List TyVar → ℕ → Bool
has_num vs x = list_any (λ v. nat_eq x v.num) vs

-- a type for all types of some variables
pub record Poly : Type 0 where
  pub vars : List TyVar
  pub body : Tree

abbrev pub poly : List TyVar → Tree → Poly
poly vs t = record { vars = vs; body = t }

abbrev pub mono : Tree → Poly
mono t = poly [] t

-- whether the variable of a number stands free in a scheme
abbrev pub is_free : ℕ → Poly → Bool
is_free a s = occurs a s.body && not (has_num s.vars a)

-- t is what the scheme says at some types for its variables; marked variables stand for types that admit equality
pub record IsInstance (names : List TypeName) (s : Poly) (t : Tree) : Type 0 where
  pub at : TyVar → Tree
  pub others : (v : TyVar) → has_num s.vars v.num ≡ false → at v ≡ Variable v
  pub marks : (v : TyVar) → has_num s.vars v.num ≡ true → v.eq ≡ true → admits names (at v) ≡ true
  pub is : t ≡ inst at s.body

-- what a phrase stands in: the type names that are there, the explicit type variables that are bound, the names that are bound,
-- and among these the ones whose recursive declaration it is a part of
pub record Context : Type 0 where
  pub type_names : List ℕ
  pub tyvars : List ℕ
  pub names : List ℕ
  pub own : List ℕ

abbrev pub with_type_names : List ℕ → Context → Context
with_type_names ns c = record { type_names = ns ++ c.type_names; tyvars = c.tyvars; names = c.names; own = c.own }

abbrev pub with_tyvars : List ℕ → Context → Context
with_tyvars us c = record { type_names = c.type_names; tyvars = us ++ c.tyvars; names = c.names; own = c.own }

abbrev pub with_names : List ℕ → Context → Context
with_names xs c = record { type_names = c.type_names; tyvars = c.tyvars; names = xs ++ c.names; own = c.own }

abbrev pub with_own : List ℕ → Context → Context
with_own xs c = record { type_names = c.type_names; tyvars = c.tyvars; names = xs ++ c.names; own = xs ++ c.own }

-- the scheme of a name in a context: a part of a recursive declaration knows its names at one type alone
abbrev pub scheme_in : (ℕ → Poly) → Context → ℕ → Poly
scheme_in schemes c x = cond (is_in c.own x) (mono (schemes x).body) (schemes x)

-- the type variable of a number stands free nowhere in the context
abbrev pub IsFresh : (ℕ → Poly) → Context → ℕ → Type 0
IsFresh schemes c a = (is_in c.tyvars a ≡ false) × AllByRecursion (λ x. is_free a (scheme_in schemes c x) ≡ false) c.names
