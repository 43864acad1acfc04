-- What is checked at the end of inference.
use Rattle.std.specs.Prelude.{◌≡◌, ℕ, ◌<◌, true, Option, Some, None, List, [], length, map, slice_get, Result, Err}
use Rattle.std.specs.List.{AllByRecursion}
use Rattle.sml_tree.specs.declared.bare.Bare.{Bare}
use Rattle.sml_tree.specs.declared.bare.Node.{Node}
use Rattle.sml_tree.specs.declared.bare.Node.TheVariants as node
use Rattle.sml_types.specs.declared.types.TyVar.{TyVar}
use Rattle.sml_types.specs.Tree.{Variable}
use Rattle.sml_types.specs.Poly.{Poly, Context}
use Rattle.sml_types.specs.TypeExps.{explicit}
use Rattle.sml_types.specs.Typing.{Typing, IsTypingBelow}
use Rattle.sml_unify.specs.declared.resolve.Rename.{Rename}
use Rattle.sml_unify.specs.Solved.{Substitution}
use Rattle.sml_unify.specs.Resolve.{AreRenames}
use Rattle.infer_state.specs.declared.unknowns.Unknowns.{Unknowns}
use Rattle.infer_state.specs.declared.declared.Declared.{Declared}
use Rattle.infer_state.specs.declared.failure.Failure.{Failure}
use Rattle.infer_state.specs.declared.failure.Failure.TheVariants.{Untypable}
use Rattle.infer_state.specs.declared.settled.Settled.{Settled}
use Rattle.infer_state.specs.Steps.{IsSolution}
use Rattle.infer_state.specs.Names.{names_bound}
use Rattle.infer_scopes.specs.Prefix.{is_binder}
use Rattle.infer_state.specs.Fits.{Fits, AllSuit, settled_at}
use Rattle.infer_state.specs.Typings.{typing_of, IsProper, IsFinished}
use Rattle.infer_laws.specs.Final.{final, IsForExplicit}
use Rattle.infer_laws.specs.Principal.{AreSettledBelow}

-- a call that answers so has shown this
abbrev pub IsRefused : {A : Type 0} → Result A Failure → Type 0 → Type 0
IsRefused (Err Untypable) P = P
IsRefused _ P = Unit {0}

-- the substitution that inference ends with
abbrev pub ending : Unknowns → List Rename → Substitution
ending s renames = final s.types s.subst.bound renames

abbrev pub vars_or_none : Option (List TyVar) → List TyVar
vars_or_none None = []
vars_or_none (Some vs) = vs

-- what right sides generalise; nothing, where no declaration was closed
abbrev pub generals : List (Option (List TyVar)) → List (List TyVar)
generals general = map vars_or_none general

-- what a type or datatype declaration asks is asked elsewhere
abbrev pub IsNoTypeDeclaration : Node → Type 0
IsNoTypeDeclaration (node.Type bindings) = ⊥
IsNoTypeDeclaration (node.Datatype bindings) = ⊥
IsNoTypeDeclaration _ = Unit {0}

module _ (p : Bare) (d : Declared) (contexts : ℕ → Option Context) (settled : List (Option Settled)) (general : List (Option (List TyVar))) (s : Unknowns) where
  abbrev pub known : ℕ → Option Poly
  known x = settled_at s.types settled x

  -- the typing that inference ends with
  abbrev pub ended : List Rename → Typing
  ended renames = typing_of p s.types d.tables.names d.abbreviations contexts known (generals general) (ending s renames)

  -- what stands of the renames before the nodes are looked at
  pub record AreEnding (renames : List Rename) : Type 0 where
    pub solution : IsSolution d.tables.names s (ending s renames)
    pub explicit_ones : (u : ℕ) → u < length p.tyvars → ending s renames (explicit p.tyvars u) ≡ Variable (explicit p.tyvars u)
    pub renames_agree : AreRenames s.types renames
    pub for_explicit : AllByRecursion (IsForExplicit p s.types s.subst.bound) renames
    pub proper : (x : ℕ) (q : Poly) → known x ≡ Some q → IsProper (ending s renames) q

  -- the nodes below a number have what they need
  abbrev pub AreFinishedBelow : List Rename → ℕ → Type 0
  AreFinishedBelow renames count = (i : ℕ) (n : Node) (c : Context) → i < count → slice_get p.nodes i ≡ Some n → IsNoTypeDeclaration n → contexts i ≡ Some c → IsFinished p (ended renames) c i n

  -- what stands in the end is a solution that leaves the explicit type variables as they are, each settled scheme has different variables of its own, and the nodes below a number have what they need
  pub record IsChecked (count : ℕ) (renames : List Rename) : Type 0 where
    pub solution : IsSolution d.tables.names s (ending s renames)
    pub explicit_ones : (u : ℕ) → u < length p.tyvars → ending s renames (explicit p.tyvars u) ≡ Variable (explicit p.tyvars u)
    pub renames_agree : AreRenames s.types renames
    pub for_explicit : AllByRecursion (IsForExplicit p s.types s.subst.bound) renames
    pub proper : (x : ℕ) (q : Poly) → known x ≡ Some q → IsProper (ending s renames) q
    pub settled_names : AreSettledBelow p count known
    pub finished : AreFinishedBelow renames count

  -- no typing of the nodes below a number has a solution that goes with what is settled
  abbrev pub IsUnchecked : ℕ → Type 0
  IsUnchecked count = (t : Typing) (g : Substitution) → IsTypingBelow p t count → Fits p t g → IsSolution d.tables.names s g → AllSuit known g t → ((i : ℕ) (c : Context) → contexts i ≡ Some c → t.contexts i ≡ c) → ((i : ℕ) (n : Node) → i < count → slice_get p.nodes i ≡ Some n → is_binder n ≡ true → t.binds i ≡ names_bound p.nodes i) → ⊥
