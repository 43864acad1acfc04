-- What closing a declaration does.
use Rattle.std.specs.Prelude.{◌≡◌, ℕ, ◌⊎◌, Option, Some, None, List, [], ◌∷◌, slice_get}
use Rattle.std.specs.List.{AllByRecursion}
use Rattle.sml_tree.specs.declared.bare.Bare.{Bare}
use Rattle.sml_tree.specs.declared.bare.Rule.{Rule}
use Rattle.sml_tree.specs.declared.bare.Node.{Node}
use Rattle.sml_tree.specs.declared.bare.Node.TheVariants as node
use Rattle.sml_types.specs.declared.types.TyVar.{TyVar}
use Rattle.sml_types.specs.declared.tables.TypeName.{TypeName}
use Rattle.sml_types.specs.NonExpansive.{AreNonExpansive}
use Rattle.sml_types.specs.Poly.{Poly, poly, Context}
use Rattle.sml_types.specs.Typing.{Typing, IsTypedNode}
use Rattle.sml_unify.specs.Solved.{Substitution, Solves, meant}
use Rattle.infer_state.specs.declared.unknowns.Unknowns.{Unknowns}
use Rattle.infer_state.specs.declared.settled.Settled.{Settled}
use Rattle.infer_state.specs.Steps.{IsState, Reaches}
use Rattle.infer_state.specs.Fits.{Fits, AllSuit, joined_settled}
use Rattle.infer_state.specs.Names.{names_bound}
use Rattle.infer_state.specs.Variables.{name_var}
use Rattle.infer_closing.specs.declared.group.Together.{Together}
use Rattle.infer_closing.specs.Open.{IsFreshNow}

-- what is bound stands for what it is bound to
abbrev pub meaning : Unknowns → Substitution
meaning u = meant u.types u.subst.bound

-- ---- The right sides

abbrev pub joined_vars : Option (Option (List TyVar)) → Option (List TyVar)
joined_vars None = None
joined_vars (Some vs) = vs

-- what the right side of a number generalises, if its declaration is closed
abbrev pub general_at : List (Option (List TyVar)) → ℕ → Option (List TyVar)
general_at general i = joined_vars (slice_get general i)

abbrev pub IsGeneralAt : List (Option (List TyVar)) → List TyVar → Option ℕ → Type 0
IsGeneralAt general vars None = vars ≡ []
IsGeneralAt general vars (Some i) = general_at general i ≡ Some vars

abbrev pub IsNonExpansive : List Node → Option ℕ → Type 0
IsNonExpansive nodes None = ⊥
IsNonExpansive nodes (Some i) = AreNonExpansive nodes (i ∷ [])

-- ---- What is closed

-- the names of a binding are settled at their types, and all generalise what its right side does
pub record IsClosed (p : Bare) (m : Substitution) (general : List (Option (List TyVar))) (settled : ℕ → Option Poly) (g : Together) : Type 0 where
  pub vars : List TyVar
  pub at : IsGeneralAt general vars g.right
  pub plain : (vars ≡ []) ⊎ IsNonExpansive p.nodes g.right
  pub schemes : AllByRecursion (λ x. settled x ≡ Some (poly vars (m (name_var p x)))) g.names

-- what a binding generalises stands in nothing that the context leaves open
abbrev pub IsFreshAt : Bare → (ℕ → Option Poly) → Substitution → Context → List (Option (List TyVar)) → Together → Type 0
IsFreshAt p settled m c general g = (vars : List TyVar) → IsGeneralAt general vars g.right → AllByRecursion (IsFreshNow p settled m c) vars

-- the declaration of a `let`
abbrev pub declared_at : Option Node → Option ℕ
declared_at (Some (node.Let d e)) = Some d
declared_at _ = None

-- a number is a `let` whose declaration is this
pub record IsLetAt (nodes : List Node) (at d : ℕ) (n : Node) : Type 0 where
  pub body : ℕ
  pub here : slice_get nodes at ≡ Some (node.Let d body)
  pub declares : slice_get nodes d ≡ Some n

-- any substitution
abbrev pub Always : Substitution → Type 0
Always f = Unit {0}

-- more types, for the same unknowns
abbrev pub AddsTypes : Unknowns → Unknowns → Type 0
AddsTypes before after = (names : List TypeName) → IsState names before → Reaches names Always Always before after

-- names that are settled stay so
abbrev pub AreKept : List (Option Settled) → List (Option Settled) → Type 0
AreKept old new = (x : ℕ) (s : Settled) → joined_settled (slice_get old x) ≡ Some s → joined_settled (slice_get new x) ≡ Some s

abbrev pub AreGeneralKept : List (Option (List TyVar)) → List (Option (List TyVar)) → Type 0
AreGeneralKept old new = (i : ℕ) (vs : List TyVar) → general_at old i ≡ Some vs → general_at new i ≡ Some vs

-- ---- Typings

-- a typing's patterns bind the names that stand in them
abbrev pub HasBinds : Bare → Typing → Node → Type 0
HasBinds p t (node.Val us bindings) = AllByRecursion (λ b. t.binds b.pat ≡ names_bound p.nodes b.pat) bindings
HasBinds p t _ = Unit {0}

abbrev pub HasMatchBinds : Bare → Typing → List Rule → Type 0
HasMatchBinds p t rules = AllByRecursion (λ r. t.binds r.pat ≡ names_bound p.nodes r.pat) rules

abbrev pub HasBindsMatched : Bare → Typing → Node → Type 0
HasBindsMatched p t (node.Case e rules) = HasMatchBinds p t rules
HasBindsMatched p t (node.Fn rules) = HasMatchBinds p t rules
HasBindsMatched p t (node.Handle e rules) = HasMatchBinds p t rules
HasBindsMatched p t _ = Unit {0}

-- what suits a typing before a declaration is closed suits it afterwards, in each solution that has the typing's types
abbrev pub StaysSuited : Bare → (ℕ → Option Context) → ℕ → Unknowns → (ℕ → Option Poly) → (ℕ → Option Poly) → Type 0
StaysSuited p contexts at u old new = (t : Typing) (f : Substitution) (c : Context) (d : ℕ) (n : Node) → Solves u.types u.subst.bound f → Fits p t f → AllSuit old f t → contexts at ≡ Some c → IsLetAt p.nodes at d n → HasBinds p t n → IsTypedNode p t c (t.types d) (t.binds d) n → AllSuit new f t

-- the same, where the names of a node's matches are settled
abbrev pub StaysMatched : Bare → ℕ → (ℕ → Option Poly) → (ℕ → Option Poly) → Type 0
StaysMatched p at old new = (t : Typing) (f : Substitution) (n : Node) → Fits p t f → AllSuit old f t → slice_get p.nodes at ≡ Some n → HasBindsMatched p t n → IsTypedNode p t (t.contexts at) (t.types at) (t.binds at) n → AllSuit new f t
