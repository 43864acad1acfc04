-- The law that what meets the rules gives a typing.
use Rattle.std.specs.Prelude.{◌≡◌, ℕ, ◌+◌, ◌<◌, true, Option, Some, None, List, length, slice_get}
use Rattle.std.specs.List.{AllByRecursion}
use Rattle.sml_tree.specs.declared.bare.Bare.{Bare}
use Rattle.sml_tree.specs.declared.bare.Node.{Node}
use Rattle.sml_tree.specs.declared.bare.Node.TheVariants as node
use Rattle.sml_tree.specs.BareParts.{IsNumbered}
use Rattle.sml_types.specs.declared.types.TyVar.{TyVar}
use Rattle.sml_types.specs.declared.types.TyForm.{TyForm}
use Rattle.sml_types.specs.declared.scheme.Scheme.{Scheme}
use Rattle.sml_types.specs.declared.tables.TypeName.{TypeName}
use Rattle.sml_types.specs.Tree.{inst}
use Rattle.sml_types.specs.Poly.{Poly, Context, is_in}
use Rattle.sml_types.specs.Library.{name_types, library_names, BeginsWithLibrary}
use Rattle.sml_types.specs.Typing.{Typing, IsTypedNode, IsTypingBelow, start, library_param, made_below}
use Rattle.sml_unify.specs.Solved.{Substitution}
use Rattle.infer_state.specs.Variables.{name_var}
use Rattle.infer_state.specs.Rules.{IsRule}
use Rattle.infer_state.specs.Names.{parts_in, behind}
use Rattle.infer_state.specs.Typings.{typing_of, IsProper, IsReady, IsFinished}
use Rattle.infer_laws.specs.Cited.{LeavesWritten}
use Rattle.infer_laws.specs.Schemes.{AreNamedOnce, EachSettled}

-- under a substitution the settled schemes have the types of their names, and it generalises what they generalise
pub record IsSettled (p : Bare) (settled : ℕ → Option Poly) (f : Substitution) : Type 0 where
  pub bodies : (x : ℕ) (s : Poly) → settled x ≡ Some s → inst f s.body ≡ f (name_var p x)
  pub proper : EachSettled (IsProper f) settled
  pub once : EachSettled AreNamedOnce settled

-- what was settled before is settled still
abbrev pub Keeps : (ℕ → Option Poly) → (ℕ → Option Poly) → Type 0
Keeps before settled = (x : ℕ) (s : Poly) → before x ≡ Some s → settled x ≡ Some s

-- a name that is cited in its own recursive declaration is not settled
abbrev pub IsOwnOpen : (ℕ → Option Poly) → Context → Node → Type 0
IsOwnOpen settled c (node.Var x) = is_in c.own x.0 ≡ true → settled x.0 ≡ None
IsOwnOpen settled c _ = Unit {0}

-- the parts of a node have their contexts
pub record HavePartsContexts (nodes : List Node) (contexts : ℕ → Option Context) (c : Context) (n : Node) : Type 0 where
  pub inside : AllByRecursion (λ x. contexts x.node ≡ Some x.context) (parts_in nodes c n)
  pub body : (d e : ℕ) → n ≡ node.Let d e → contexts e ≡ Some (behind nodes c d)

module _ (p : Bare) (forms : List TyForm) (names : List TypeName) (abbreviations : List Scheme) (contexts : ℕ → Option Context) (settled : ℕ → Option Poly) (general : List (List TyVar)) (f : Substitution) where
  abbrev pub typing : Typing
  typing = typing_of p forms names abbreviations contexts settled general f

  -- a node whose rule was asked with what was settled then, and holds; and what is left to check holds too
  pub record IsInferredNode (i : ℕ) (n : Node) : Type 0 where
    pub there : slice_get p.nodes i ≡ Some n
    pub context : Context
    pub stands : contexts i ≡ Some context
    pub parts : HavePartsContexts p.nodes contexts context n
    pub before : ℕ → Option Poly
    pub keeps : Keeps before settled
    pub own : IsOwnOpen before context n
    pub ready : IsReady before context n
    pub rule : IsRule p (name_types forms names) names typing.abbreviations before f i n
    pub written : LeavesWritten p names typing.abbreviations f n
    pub finished : IsFinished p typing context i n

  -- such a node is typed
  abbrev pub NodesAreTyped : Type 0
  NodesAreTyped = (i : ℕ) (n : Node) → IsNumbered p.nodes → IsSettled p settled f → IsInferredNode i n → IsTypedNode p typing (typing.contexts i) (typing.types i) (typing.binds i) n

  -- all nodes below a number are such, and the tables have their type names
  pub record IsInferred (count : ℕ) : Type 0 where
    pub numbered : IsNumbered p.nodes
    pub schemes : IsSettled p settled f
    pub root : contexts 0 ≡ Some (start p typing)
    pub library : BeginsWithLibrary forms names
    pub parameter : library.param ≡ library_param p
    pub declared : length names ≡ length library_names + length (made_below p.nodes count)
    pub nodes : (i : ℕ) (n : Node) → i < count → slice_get p.nodes i ≡ Some n → IsInferredNode i n

  -- what meets the rules is a typing
  abbrev pub RulesGive : Type 0
  RulesGive = (count : ℕ) → IsInferred count → IsTypingBelow p typing count
