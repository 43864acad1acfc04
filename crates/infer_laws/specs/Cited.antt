-- What a node itself cites: names and written types.
use Rattle.std.specs.Prelude.{◌≡◌, ℕ, ◌<◌, ◌≤◌, Some, List, [], ◌∷◌, length, slice_get}
use Rattle.std.specs.List.{AllByRecursion}
use Rattle.sml_tree.specs.declared.bare.Bare.{Bare}
use Rattle.sml_tree.specs.declared.bare.Con.{Con}
use Rattle.sml_tree.specs.declared.bare.Con.TheVariants as con
use Rattle.sml_tree.specs.declared.bare.Node.{Node}
use Rattle.sml_tree.specs.declared.bare.Node.TheVariants as node
use Rattle.sml_tree.specs.declared.bare.TypeExp.{TypeExp}
use Rattle.sml_tree.specs.declared.bare.TypeExp.TheVariants as exp
use Rattle.sml_tree.specs.BareParts.{node_parts}
use Rattle.sml_tree.specs.IsBare.{TypeStands}
use Rattle.sml_types.specs.declared.tables.TypeName.{TypeName}
use Rattle.sml_types.specs.Tree.{Tree, Variable, inst}
use Rattle.sml_types.specs.Poly.{Poly}
use Rattle.sml_types.specs.TypeExps.{explicit, Means}
use Rattle.sml_types.specs.Typing.{group_names, Covers}
use Rattle.sml_unify.specs.Solved.{Substitution}
use Rattle.infer_parts.specs.Written.{AreTypeRows}

abbrev pub con_names : Con → List ℕ
con_names (con.Exn x takes) = x.0 ∷ []
con_names _ = []

-- the names that a node itself binds or cites
abbrev pub node_names : Node → List ℕ
node_names (node.Var x) = x.0 ∷ []
node_names (node.Constructor k) = con_names k
node_names (node.PatVar x) = x.0 ∷ []
node_names (node.PatCon k) = con_names k
node_names (node.PatApp k q) = con_names k
node_names (node.PatAs x q) = x.0 ∷ []
node_names (node.ValRec us bindings) = group_names bindings
node_names (node.Exception x arg) = x.0 ∷ []
node_names (node.SameException x k) = x.0 ∷ con_names k
node_names _ = []

-- the written types that a value or an exception has
abbrev pub node_types : Node → List ℕ
node_types (node.Typed e j) = j ∷ []
node_types (node.PatTyped q j) = j ∷ []
node_types (node.Exception x (Some j)) = j ∷ []
node_types _ = []

-- all names and parts of a node stand there
pub record IsPlaced (p : Bare) (n : Node) : Type 0 where
  pub names : AllByRecursion (λ x. x < length p.names) (node_names n)
  pub parts : AllByRecursion (λ c. c < length p.nodes) (node_parts n)

-- a substitution changes nothing in what the written types of a node mean
abbrev pub LeavesWritten : Bare → List TypeName → (ℕ → Poly) → Substitution → Node → Type 0
LeavesWritten p names abbreviations f n = AllByRecursion (λ j. (t : Tree) → Means p.types p.tyvars names abbreviations j t → inst f t ≡ t) (node_types n)

-- a substitution leaves the explicit type variables
abbrev pub LeavesExplicit : Bare → Substitution → Type 0
LeavesExplicit p f = (u : ℕ) → u < length p.tyvars → f (explicit p.tyvars u) ≡ Variable (explicit p.tyvars u)

-- the written types up to a number cite type bindings below a count alone
abbrev pub AreCitedUpTo : List TypeExp → ℕ → ℕ → Type 0
AreCitedUpTo exps count j = (i k : ℕ) (args : List ℕ) → i ≤ j → slice_get exps i ≡ Some (exp.Abbreviation k args) → k < count

-- the written types up to a number: their parts stand there, and the right sides of the type bindings that they cite have no variables but the parameters
pub record AreClosedUpTo (p : Bare) (abbreviations : ℕ → Poly) (j : ℕ) : Type 0 where
  pub standing : (i : ℕ) (e : TypeExp) → i ≤ j → slice_get p.types i ≡ Some e → TypeStands p i e
  pub closed : (i k : ℕ) (args : List ℕ) → i ≤ j → slice_get p.types i ≡ Some (exp.Abbreviation k args) → Covers (abbreviations k).vars (abbreviations k).body

-- a substitution that leaves the explicit type variables changes nothing in what closed written types mean
abbrev pub WrittenTypesStay : Bare → List TypeName → (ℕ → Poly) → Substitution → Type 0
WrittenTypesStay p names abbreviations f = (n : Node) → LeavesExplicit p f → AreTypeRows p.types → AllByRecursion (AreClosedUpTo p abbreviations) (node_types n) → LeavesWritten p names abbreviations f n
