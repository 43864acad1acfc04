-- What the substitution at the end makes of types and schemes.
use Rattle.std.specs.Prelude.{◌≡◌, ℕ, ◌<◌, ◌⊎◌, Bool, true, false, nat_eq, Option, Some, None, List, [], length, slice_get}
use Rattle.std.specs.List.{AllByRecursion, find}
use Rattle.sml_tree.specs.declared.bare.Bare.{Bare}
use Rattle.sml_types.specs.declared.types.TyVar.{TyVar}
use Rattle.sml_types.specs.Tree.{Tree, Variable, occurs}
use Rattle.sml_types.specs.Poly.{Poly, Context, is_in, has_num}
use Rattle.sml_types.specs.Escape.{mentions}
use Rattle.sml_types.specs.TypeExps.{explicit}
use Rattle.sml_types.specs.Typing.{IsAmong}
use Rattle.sml_unify.specs.declared.resolve.Rename.{Rename}
use Rattle.sml_unify.specs.Solved.{Substitution}
use Rattle.sml_unify.specs.Resolve.{renamed_as, led_to}
use Rattle.sml_unify.specs.Variables.{Stands}
use Rattle.infer_state.specs.Variables.{name_var}
use Rattle.infer_state.specs.Typings.{var_at, IsProper}

-- whether something holds: where the test says no, something weaker that a typing needs does not hold
abbrev pub Decides : Type 0 → Type 0 → Bool → Type 0
Decides A B true = A
Decides A B false = B → ⊥

-- the numbers of which something holds
pub record Lists (P : ℕ → Type 0) (numbers : List ℕ) : Type 0 where
  pub all : (a : ℕ) → P a → is_in numbers a ≡ true
  pub only : (a : ℕ) → is_in numbers a ≡ true → P a

-- ---- Explicit type variables

-- a rename leads to an explicit type variable, from the variable with the same mark that it stands for
pub record IsFound (p : Bare) (m : Substitution) (u : ℕ) (r : Rename) : Type 0 where
  pub var : TyVar
  pub stands : m (explicit p.tyvars u) ≡ Variable var
  pub number : var.num ≡ r.from
  pub mark : var.eq ≡ r.to.eq
  pub to : r.to ≡ explicit p.tyvars u

-- the renames to the explicit type variables from the first on, from different variables
pub record AreFound (p : Bare) (m : Substitution) (renames : List Rename) : Type 0 where
  pub each : (u : ℕ) (r : Rename) → slice_get renames u ≡ Some r → IsFound p m u r
  pub first : (u : ℕ) (r : Rename) → slice_get renames u ≡ Some r → find (λ q. nat_eq q.from r.from) renames ≡ Some r

-- each explicit type variable stands for a variable of its own, with its mark
pub record AreOwn (p : Bare) (m : Substitution) : Type 0 where
  pub var : ℕ → TyVar
  pub stands : (u : ℕ) → u < length p.tyvars → m (explicit p.tyvars u) ≡ Variable (var u)
  pub marks : (u : ℕ) → u < length p.tyvars → (var u).eq ≡ (explicit p.tyvars u).eq
  pub apart : (u v : ℕ) → u < length p.tyvars → v < length p.tyvars → (var u).num ≡ (var v).num → u ≡ v

-- ---- What stands open

-- the variable of a number stands in what a scheme leaves open
abbrev pub IsOpenNumber : Substitution → Poly → ℕ → Type 0
IsOpenNumber f q a = (u : TyVar) × Stands u q.body × (has_num q.vars u.num ≡ false) × (occurs a (f u) ≡ true)

-- a variable stands for itself or what it is renamed to, with its mark and a number that is none of these
pub record IsKept (f : Substitution) (renames : List Rename) (numbers : List ℕ) (v : TyVar) : Type 0 where
  pub is : f v ≡ Variable (record { num = (var_at v (f v)).num; eq = v.eq })
  pub number : (var_at v (f v)).num ≡ (renamed_as v (led_to (find (λ r. nat_eq r.from v.num) renames))).num
  pub out : is_in numbers (var_at v (f v)).num ≡ false

-- a scheme keeps its variables, if it is settled
abbrev pub IsProperAt : Substitution → Option Poly → Type 0
IsProperAt f None = Unit {0}
IsProperAt f (Some q) = IsProper f q

-- it stands in what a variable stands for that is none of these
abbrev pub IsOpenIn : Substitution → List TyVar → TyVar → ℕ → Type 0
IsOpenIn f vars u a = (has_num vars u.num ≡ false) × (occurs a (f u) ≡ true)

abbrev pub IsOpenAmong : Substitution → List TyVar → List TyVar → ℕ → Type 0
IsOpenAmong f vars us a = (u : TyVar) × IsAmong u us × IsOpenIn f vars u a

-- it stands in the type of a name
abbrev pub IsOpenType : Bare → Substitution → ℕ → ℕ → Type 0
IsOpenType p f x a = occurs a (f (name_var p x)) ≡ true

abbrev pub IsOpenTypeAmong : Bare → Substitution → List ℕ → ℕ → Type 0
IsOpenTypeAmong p f xs a = (x : ℕ) × (is_in xs x ≡ true) × IsOpenType p f x a

-- it stands in what a settled name leaves open
abbrev pub IsOpenName : (ℕ → Option Poly) → Substitution → ℕ → ℕ → Type 0
IsOpenName known f x a = (q : Poly) × (known x ≡ Some q) × IsOpenNumber f q a

abbrev pub IsOpenNameAmong : (ℕ → Option Poly) → Substitution → List ℕ → ℕ → Type 0
IsOpenNameAmong known f xs a = (x : ℕ) × (is_in xs x ≡ true) × IsOpenName known f x a

-- a name is settled, or its recursive declaration is around
abbrev pub IsSettledOrOwn : (ℕ → Option Poly) → Context → ℕ → Type 0
IsSettledOrOwn known c x = is_in c.own x ≡ false → (q : Poly) × (known x ≡ Some q)

module _ (p : Bare) (known : ℕ → Option Poly) (f : Substitution) (c : Context) where
  -- it stands in the type of a name whose recursive declaration is around
  abbrev pub IsOpenOwn : ℕ → ℕ → Type 0
  IsOpenOwn x a = (is_in c.own x ≡ true) × (x < length p.names) × (occurs a (f (name_var p x)) ≡ true)

  -- it stands open in a context
  abbrev pub IsOpenAround : ℕ → Type 0
  IsOpenAround a = (x : ℕ) × (is_in c.names x ≡ true) × (IsOpenOwn x a ⊎ IsOpenName known f x a)

  -- a name that is not declared around is settled, and what it leaves open is among these numbers
  abbrev pub IsListed : List ℕ → ℕ → Type 0
  IsListed numbers x = (q : Poly) × (known x ≡ Some q) × ((a : ℕ) → IsOpenNumber f q a → is_in numbers a ≡ true)

  -- the numbers of the variables that stand open in a context
  pub record AreOpenAround (numbers : List ℕ) : Type 0 where
    pub own : (x : ℕ) → is_in c.own x ≡ true → (a : ℕ) → occurs a (f (name_var p x)) ≡ true → is_in numbers a ≡ true
    pub settled : (x : ℕ) → is_in c.names x ≡ true → is_in c.own x ≡ false → IsListed numbers x
    pub only : (a : ℕ) → is_in numbers a ≡ true → IsOpenAround a

  -- it stands neither open nor among the explicit type variables
  abbrev pub IsNewAround : ℕ → Type 0
  IsNewAround a = (numbers : List ℕ) × AreOpenAround numbers × (is_in c.tyvars a ≡ false) × (is_in numbers a ≡ false)

  -- the same, if it is that of an explicit type variable
  abbrev pub MayBeNew : ℕ → Type 0
  MayBeNew u = u < length p.tyvars → (is_in c.tyvars u ≡ false) × (IsOpenAround u → ⊥)

abbrev pub IsOutside : List ℕ → List ℕ → ℕ → Type 0
IsOutside numbers others u = (is_in numbers u ≡ false) × (is_in others u ≡ false)

-- ---- Type names

module _ (p : Bare) (m : Substitution) (c : Context) where
  -- the type of a name mentions type names of the context alone
  abbrev pub IsNameKnown : ℕ → Type 0
  IsNameKnown x = mentions c.type_names (m (name_var p x)) ≡ true

  -- the same, if it is a name
  abbrev pub IsKnownIfNamed : ℕ → Type 0
  IsKnownIfNamed x = x < length p.names → IsNameKnown x

-- ---- What is found

abbrev pub IsVariableAt : Tree → Option TyVar → Type 0
IsVariableAt t (Some w) = t ≡ Variable w
IsVariableAt t None = (w : TyVar) → t ≡ Variable w → ⊥

abbrev pub IsFoundAt : Bare → Substitution → ℕ → Option Rename → Type 0
IsFoundAt p m u (Some r) = IsFound p m u r
IsFoundAt p m u None = AreOwn p m → ⊥

abbrev pub AreFoundOr : Bare → Substitution → Option (List Rename) → Type 0
AreFoundOr p m (Some renames) = AreFound p m renames × (length renames ≡ length p.tyvars)
AreFoundOr p m None = AreOwn p m → ⊥

-- ---- Names of a node

-- a name is settled, and generalises these variables
abbrev pub HasVars : List TyVar → Option Poly → Type 0
HasVars vars None = ⊥
HasVars vars (Some q) = q.vars ≡ vars

-- names generalise nothing, and their types mention type names of the context alone
abbrev pub AreMatchedNames : Bare → (ℕ → Option Poly) → Substitution → Context → List ℕ → Type 0
AreMatchedNames p known m c names = AllByRecursion (λ x. HasVars [] (known x)) names × AllByRecursion (IsNameKnown p m c) names
