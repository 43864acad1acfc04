-- What inference has come to, and what holds of it.
use Rattle.std.specs.Prelude.{◌≡◌, ℕ, Option, Some, List, slice_get}
use Rattle.std.specs.List.{AllByRecursion}
use Rattle.sml_tree.specs.declared.bare.Bare.{Bare}
use Rattle.sml_tree.specs.declared.bare.Node.{Node}
use Rattle.sml_types.specs.Poly.{Poly, Context}
use Rattle.sml_types.specs.Library.{NameType, name_types}
use Rattle.sml_types.specs.Typing.{Typing}
use Rattle.sml_unify.specs.Solved.{Substitution, Solves}
use Rattle.sml_unify.specs.Steps.{IsLonger}
use Rattle.infer_parts.specs.Written.{AreAbbreviations}
use Rattle.infer_state.specs.declared.unknowns.Unknowns.{Unknowns}
use Rattle.infer_state.specs.declared.settled.Settled.{Settled}
use Rattle.infer_state.specs.declared.declared.Declared.{Declared}
use Rattle.infer_state.specs.Steps.{IsSolution}
use Rattle.infer_state.specs.Rules.{IsRule}
use Rattle.infer_state.specs.Names.{parts_in}
use Rattle.infer_state.specs.Fits.{Fits, HasTables, AllSuit, settled_at, joined_settled}
use Rattle.infer_state.specs.Typings.{IsReady}
use Rattle.infer_laws.specs.Gives.{IsOwnOpen}

-- the contexts of nodes, the schemes of names, and the types with what is bound
pub record Stage : Type 0 where
  pub contexts : ℕ → Option Context
  pub settled : List (Option Settled)
  pub unknowns : Unknowns

-- the scheme of a name that is settled
abbrev pub known : Stage → ℕ → Option Poly
known s x = settled_at s.unknowns.types s.settled x

-- a stage has what an earlier one has
pub record Grows (a b : Stage) : Type 0 where
  pub longer : IsLonger a.unknowns.types b.unknowns.types
  pub sound : (f : Substitution) → Solves b.unknowns.types b.unknowns.subst.bound f → Solves a.unknowns.types a.unknowns.subst.bound f
  pub contexts : (i : ℕ) (c : Context) → a.contexts i ≡ Some c → b.contexts i ≡ Some c
  pub settled : (x : ℕ) (q : Settled) → joined_settled (slice_get a.settled x) ≡ Some q → joined_settled (slice_get b.settled x) ≡ Some q

module _ (p : Bare) (d : Declared) where
  abbrev pub rows : Stage → List NameType
  rows s = name_types s.unknowns.types d.tables.names

  -- a solution has the types of a typing, which has the same contexts, and no scheme that is more general
  pub record Follows (t : Typing) (s : Stage) : Type 0 where
    pub f : Substitution
    pub tables : HasTables s.unknowns.types d t
    pub fits : Fits p t f
    pub solution : IsSolution d.tables.names s.unknowns f
    pub suits : AllSuit (known s) f t
    pub contexts : (i : ℕ) (c : Context) → s.contexts i ≡ Some c → t.contexts i ≡ c

  -- each solution meets the rule of a node, as it was asked
  abbrev pub HasRule : (ℕ → Option Poly) → Stage → ℕ → Node → Type 0
  HasRule asked s i n = (abbreviations : ℕ → Poly) → AreAbbreviations s.unknowns.types d.abbreviations abbreviations → (f : Substitution) → IsSolution d.tables.names s.unknowns f → IsRule p (rows s) d.tables.names abbreviations asked f i n

  -- a node has its context and so have its parts, and each solution meets its rule, with the schemes that were settled when it was asked
  pub record IsDone (s : Stage) (i : ℕ) (n : Node) : Type 0 where
    pub context : Context
    pub here : s.contexts i ≡ Some context
    pub parts : AllByRecursion (λ x. s.contexts x.node ≡ Some x.context) (parts_in p.nodes context n)
    pub asked : ℕ → Option Poly
    pub settled : (x : ℕ) (q : Poly) → asked x ≡ Some q → known s x ≡ Some q
    pub own : IsOwnOpen asked context n
    pub ready : IsReady asked context n
    pub rule : HasRule asked s i n
