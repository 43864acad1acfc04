-- What holds while inference goes over the nodes.
use Rattle.std.specs.Prelude.{◌≡◌, ℕ, ◌<◌, true, Option, Some, None, List, length, slice_get}
use Rattle.std.specs.List.{AllByRecursion}
use Rattle.sml_tree.specs.declared.bare.Bare.{Bare}
use Rattle.sml_tree.specs.declared.bare.Node.{Node}
use Rattle.sml_tree.specs.declared.bare.Node.TheVariants.{Let}
use Rattle.sml_tree.specs.declared.bare.TypeExp.TheVariants as exp
use Rattle.sml_types.specs.Forms.{AreForms}
use Rattle.sml_types.specs.Poly.{Context}
use Rattle.sml_types.specs.Typing.{Typing, IsTypingBelow}
use Rattle.infer_state.specs.declared.declared.Declared.{Declared}
use Rattle.infer_state.specs.declared.settled.Settled.{Settled}
use Rattle.infer_state.specs.declared.unknowns.Unknowns.{Unknowns}
use Rattle.sml_unify.specs.Steps.{IsLonger}
use Rattle.infer_state.specs.Variables.{AreLaidOut}
use Rattle.infer_state.specs.Steps.{IsState}
use Rattle.infer_state.specs.Names.{behind, parts_in, names_bound}
use Rattle.infer_scopes.specs.Prefix.{is_binder}
use Rattle.infer_state.specs.Fits.{AreThere, AreBodies}
use Rattle.infer_scopes.specs.Scopes.{Stored, contexts_of, AllOpen}
use Rattle.infer_nodes.specs.Good.{AreDeclaredIn}
use Rattle.infer_closing.specs.Open.{closed_at}
use Rattle.sml_infer.specs.declared.inference.Inference.{Inference}
use Rattle.sml_infer.specs.Stages.{Stage, known, Follows, IsDone}

-- what there is while inference goes on
pub record Now : Type 0 where
  pub scopes : Stored
  pub settled : List (Option Settled)
  pub behind : List (Option ℕ)
  pub unknowns : Unknowns

abbrev pub now : Inference → Now
now w = record { scopes = w.scopes; settled = w.settled.items; behind = w.behind.items; unknowns = w.unknowns }

abbrev pub stage : Now → Stage
stage w = record { contexts = contexts_of w.scopes; settled = w.settled; unknowns = w.unknowns }

abbrev pub joined_number : Option (Option ℕ) → Option ℕ
joined_number None = None
joined_number (Some o) = o

-- the `let` behind whose declaration a node stands, as far as it is known
abbrev pub let_of : Now → ℕ → Option ℕ
let_of w e = joined_number (slice_get w.behind e)

-- what always holds
pub record IsSound (p : Bare) (d : Declared) (w : Now) : Type 0 where
  pub forms : AreForms w.unknowns.types
  pub state : IsState d.tables.names w.unknowns
  pub laid : AreLaidOut p w.unknowns.types d.starts
  pub there : AreThere w.unknowns.types w.settled
  pub bodies : AreBodies p w.unknowns (known (stage w))
  pub declared : AreDeclaredIn w.unknowns.types d
  pub closed : AllOpen (closed_at (known (stage w))) w.scopes

-- the nodes below a number are done
abbrev pub AreDone : Bare → Declared → Now → ℕ → Type 0
AreDone p d w node = (i : ℕ) (n : Node) → i < node → slice_get p.nodes i ≡ Some n → IsDone p d (stage w) i n

-- each `let` below a number is noted at what stands behind its declaration
pub record AreNoted (p : Bare) (w : Now) (node : ℕ) : Type 0 where
  pub noted : (i k e : ℕ) → i < node → slice_get p.nodes i ≡ Some (Let k e) → let_of w e ≡ Some i
  pub lets : (e i : ℕ) → let_of w e ≡ Some i → (k : ℕ) × (slice_get p.nodes i ≡ Some (Let k e)) × (i < node)

-- what stands behind declarations has its context, as far as a number
abbrev pub AreBehind : Bare → Now → ℕ → Type 0
AreBehind p w node = (e i k : ℕ) (c : Context) → e < node → let_of w e ≡ Some i → slice_get p.nodes i ≡ Some (Let k e) → contexts_of w.scopes i ≡ Some c → contexts_of w.scopes e ≡ Some (behind p.nodes c k)

-- each typing of the nodes below a number goes with what was found
abbrev pub AllFollow : Bare → ℕ → Declared → Now → Type 0
AllFollow p count d w = (t : Typing) → IsTypingBelow p t count → Follows p d t (stage w)

-- the nodes below one number are done, the lets below another noted, and what stands behind declarations below a third has its context
pub record IsGoing (p : Bare) (count : ℕ) (d : Declared) (w : Now) (done noted reached : ℕ) : Type 0 where
  pub sound : IsSound p d w
  pub follow : AllFollow p count d w
  pub nodes : AreDone p d w done
  pub lets : AreNoted p w noted
  pub contexts : AreBehind p w reached

-- a node stands in a context, and so do its parts
pub record IsEntered (p : Bare) (w : Now) (node : ℕ) : Type 0 where
  pub at : Node
  pub context : Context
  pub there : slice_get p.nodes node ≡ Some at
  pub here : contexts_of w.scopes node ≡ Some context
  pub parts : AllByRecursion (λ x. contexts_of w.scopes x.node ≡ Some x.context) (parts_in p.nodes context at)

-- what stays from one time to a later one: the forms, the contexts, and how many names and nodes there are
pub record Keeps (a b : Now) : Type 0 where
  pub longer : IsLonger a.unknowns.types b.unknowns.types
  pub contexts : (i : ℕ) (c : Context) → contexts_of a.scopes i ≡ Some c → contexts_of b.scopes i ≡ Some c
  pub settled : length b.settled ≡ length a.settled
  pub behind : length b.behind ≡ length a.behind

-- the written types below a number cite type bindings that are declared
abbrev pub CitesBelow : Bare → Declared → ℕ → Type 0
CitesBelow p d limit = (i k : ℕ) (args : List ℕ) → i < limit → slice_get p.types i ≡ Some (exp.Abbreviation k args) → k < length d.abbreviations

-- ---- What the laws of contexts say of typings

-- a typing's patterns and declarations bind the names that stand in them, and its contexts go down from the root
pub record IsLawful (p : Bare) (count : ℕ) (t : Typing) : Type 0 where
  pub binds : (i : ℕ) (n : Node) → i < count → slice_get p.nodes i ≡ Some n → is_binder n ≡ true → t.binds i ≡ names_bound p.nodes i
  pub parts : (i : ℕ) (n : Node) → i < count → slice_get p.nodes i ≡ Some n → AllByRecursion (λ x. t.contexts x.node ≡ x.context) (parts_in p.nodes (t.contexts i) n)
  pub bodies : (i k e : ℕ) → i < count → slice_get p.nodes i ≡ Some (Let k e) → t.contexts e ≡ behind p.nodes (t.contexts i) k
