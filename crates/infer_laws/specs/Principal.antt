-- Typings that all others are instances of.
use Rattle.std.specs.Prelude.{◌≡◌, ℕ, ◌<◌, ◌≤◌, ◌⊎◌, true, Option, Some, List, length}
use Rattle.sml_tree.specs.declared.bare.Bare.{Bare}
use Rattle.sml_types.specs.declared.types.Ty.{Ty}
use Rattle.sml_types.specs.declared.types.TyVar.{TyVar}
use Rattle.sml_types.specs.declared.types.TyForm.{TyForm}
use Rattle.sml_types.specs.declared.scheme.Scheme.{Scheme}
use Rattle.sml_types.specs.declared.tables.TypeName.{TypeName}
use Rattle.sml_types.specs.Tree.{Tree, Variable, inst, AllVars}
use Rattle.sml_types.specs.Poly.{Poly, Context, is_in, IsInstance}
use Rattle.sml_types.specs.TypeExps.{explicit}
use Rattle.sml_types.specs.Typing.{Typing, IsTypingBelow}
use Rattle.sml_unify.specs.Solved.{Substitution, Solves, Respects, IsSolved, meant}
use Rattle.infer_state.specs.declared.declared.Starts.{Starts}
use Rattle.infer_state.specs.Variables.{AreLaidOut}
use Rattle.infer_state.specs.Names.{names_bound}
use Rattle.infer_state.specs.Rules.{IsCopy}
use Rattle.infer_state.specs.Fits.{IsFormVar}
use Rattle.infer_laws.specs.Schemes.{KeepsMarks, EachSettled}
use Rattle.infer_laws.specs.Meets.{Follows}
use Rattle.infer_laws.specs.Gives.{IsSettled, IsInferred, typing}

-- the nodes below a number bind this name
abbrev pub IsBoundBelow : Bare → ℕ → ℕ → Type 0
IsBoundBelow p count x = (i : ℕ) × (i < count) × (is_in (names_bound p.nodes i) x ≡ true)

-- a substitution that keeps the marks leads from a type to another
abbrev pub Leads : List TypeName → Substitution → Tree → Tree → Type 0
Leads names by t u = KeepsMarks names by t × (u ≡ inst by t)

-- each instance of another scheme, by the other's tables, is one of this scheme, where its free variables stand for what the substitution gives them
abbrev pub IsMoreGeneral : List TypeName → List TypeName → Substitution → Poly → Poly → Type 0
IsMoreGeneral names others by s other = (t : Tree) → IsInstance others other t → IsCopy names by s t

-- one substitution leads from the types of nodes and names to those of another typing, and under it the scheme of each name is at least as general as the other's
pub record IsInstanceOf (p : Bare) (count : ℕ) (t other : Typing) : Type 0 where
  pub by : Substitution
  pub types : (i : ℕ) → i < count → Leads t.names by (t.types i) (other.types i)
  pub bodies : (x : ℕ) → IsBoundBelow p count x → Leads t.names by (t.schemes x).body (other.schemes x).body
  pub schemes : (x : ℕ) → IsBoundBelow p count x → IsMoreGeneral t.names other.names by (t.schemes x) (other.schemes x)

-- a typing of the nodes below a number, of which each other is an instance
pub record IsPrincipal (p : Bare) (t : Typing) (count : ℕ) : Type 0 where
  pub typing : IsTypingBelow p t count
  pub general : (other : Typing) → IsTypingBelow p other count → IsInstanceOf p count t other

-- ---- The law

-- a variable stays, or an explicit one that stands for it comes in its place
abbrev pub IsExplicitFor : Bare → List TyForm → List (Option Ty) → TyVar → Tree → Type 0
IsExplicitFor p forms bound w t = (t ≡ Variable w) ⊎ ((u : ℕ) × (u < length p.tyvars) × (t ≡ Variable (explicit p.tyvars u)) × (meant forms bound (explicit p.tyvars u) ≡ Variable w))

-- what is bound, with explicit variables in the place of the variables that they stand for
pub record IsBoundAndRenamed (p : Bare) (forms : List TyForm) (bound : List (Option Ty)) (f : Substitution) : Type 0 where
  pub renames : Substitution
  pub is : (v : TyVar) → f v ≡ inst renames (meant forms bound v)
  pub only : (w : TyVar) → IsFormVar forms w → IsExplicitFor p forms bound w (renames w)

-- a substitution is the most general one for what is bound, and all variables of settled schemes are those of the forms
pub record IsMostGeneral (p : Bare) (forms : List TyForm) (bound : List (Option Ty)) (starts : Starts) (settled : ℕ → Option Poly) (f : Substitution) : Type 0 where
  pub solved : IsSolved forms bound
  pub laid : AreLaidOut p forms starts
  pub renamed : IsBoundAndRenamed p forms bound f
  pub known : EachSettled (λ s. AllVars (IsFormVar forms) s.body) settled
  pub named : (x : ℕ) (s : Poly) → settled x ≡ Some s → x < length p.names

-- a solution follows a typing
abbrev pub IsFollowed : Bare → List TyForm → List (Option Ty) → List TypeName → (ℕ → Option Poly) → Typing → Type 0
IsFollowed p forms bound names settled other = (g : Substitution) × Follows p forms names settled g other × Respects names forms g × Solves forms bound g

-- each name that nodes below a number bind is settled
abbrev pub AreSettledBelow : Bare → ℕ → (ℕ → Option Poly) → Type 0
AreSettledBelow p count settled = (x : ℕ) → IsBoundBelow p count x → (s : Poly) × (settled x ≡ Some s)

module _ (p : Bare) (forms : List TyForm) (bound : List (Option Ty)) (starts : Starts) (names : List TypeName) (abbreviations : List Scheme) (contexts : ℕ → Option Context) (settled : ℕ → Option Poly) (general : List (List TyVar)) (f : Substitution) where
  -- each typing that a solution follows is an instance
  abbrev pub FollowedAreInstances : Type 0
  FollowedAreInstances = (count : ℕ) (other : Typing) → count ≤ length p.nodes → AreSettledBelow p count settled → IsSettled p settled f → IsMostGeneral p forms bound starts settled f → IsFollowed p forms bound names settled other → IsInstanceOf p count (typing p forms names abbreviations contexts settled general f) other

  -- where a solution follows each typing, what meets the rules is principal
  abbrev pub MostGeneralIsPrincipal : Type 0
  MostGeneralIsPrincipal = (count : ℕ) → count ≤ length p.nodes → AreSettledBelow p count settled → IsInferred p forms names abbreviations contexts settled general f count → IsMostGeneral p forms bound starts settled f → ((other : Typing) → IsTypingBelow p other count → IsFollowed p forms bound names settled other) → IsPrincipal p (typing p forms names abbreviations contexts settled general f) count
