-- The rule of a node, from what was declared and settled.
use Rattle.std.specs.Prelude.{◌≡◌, ℕ, Bool, true, false, Option, Some, None, Result, List}
use Rattle.sml_tree.specs.declared.bare.Bare.{Bare}
use Rattle.sml_tree.specs.declared.bare.Node.{Node}
use Rattle.sml_tree.specs.declared.bare.Node.TheVariants as node
use Rattle.sml_types.specs.declared.types.TyForm.{TyForm}
use Rattle.std.specs.List.{AllByRecursion}
use Rattle.sml_tree.specs.declared.bare.Rule.{Rule}
use Rattle.sml_types.specs.Tree.{Tree}
use Rattle.sml_types.specs.Poly.{Poly}
use Rattle.infer_state.specs.Variables.{node_var, name_var}
use Rattle.sml_types.specs.Library.{name_types, ref_number, library_exn}
use Rattle.sml_types.specs.Typing.{IsExnTy}
use Rattle.sml_types.specs.declared.tables.TypeName.{TypeName}
use Rattle.sml_tree.specs.declared.bare.Con.{Con}
use Rattle.sml_tree.specs.declared.bare.Con.TheVariants as con
use Rattle.sml_unify.specs.declared.pair.Pair.{Pair}
use Rattle.sml_unify.specs.Solved.{Substitution}
use Rattle.infer_parts.specs.Written.{AreAbbreviations}
use Rattle.infer_state.specs.declared.declared.Declared.{Declared}
use Rattle.infer_state.specs.declared.settled.Settled.{Settled}
use Rattle.infer_state.specs.declared.failure.Failure.{Failure}
use Rattle.infer_state.specs.Rules.{IsRule, IsDataAt}
use Rattle.infer_state.specs.Fits.{settled_at}
use Rattle.infer_nodes.specs.Posed.{IsPosing}

abbrev pub RuleOf : Bare → Declared → List (Option Settled) → List TyForm → (ℕ → Poly) → ℕ → Node → Substitution → Type 0
RuleOf p d settled forms abbreviations i n f = IsRule p (name_types forms d.tables.names) d.tables.names abbreviations (settled_at forms settled) f i n

-- what the rule of a node asks
abbrev pub PosesRule : Bare → Declared → List (Option Settled) → ℕ → Node → ℕ → List TyForm → ℕ → List TyForm → Result (List Pair) Failure → Type 0
PosesRule p d settled i n next forms next2 forms2 result =
    (abbreviations : ℕ → Poly) → AreAbbreviations forms d.abbreviations abbreviations → IsPosing d.tables.names (RuleOf p d settled forms abbreviations i n) next forms next2 forms2 result

-- the type name of a constant
abbrev pub constant_of : Node → Option ℕ
constant_of (node.Int n) = Some 0
constant_of (node.Char n) = Some 1
constant_of (node.Text n) = Some 2
constant_of (node.PatInt n) = Some 0
constant_of (node.PatChar n) = Some 1
constant_of (node.PatText n) = Some 2
constant_of _ = None

abbrev pub asks_nothing : Node → Bool
asks_nothing node.Wild = true
asks_nothing (node.Type bindings) = true
asks_nothing (node.Datatype bindings) = true
asks_nothing _ = false

-- what a match asks of the types of its patterns and of its bodies
abbrev pub MatchAsks : Bare → Substitution → List Rule → Tree → Tree → Type 0
MatchAsks p f rules a b = AllByRecursion (λ r. (f (node_var p r.pat) ≡ a) × (f (node_var p r.body) ≡ b)) rules

-- a constructor at a type
abbrev pub ConAt : Bare → List TyForm → List TypeName → Substitution → Con → Tree → Type 0
ConAt p forms names f (con.Data n k takes) t = IsDataAt (name_types forms names) names n k takes t
ConAt p forms names f con.Ref t = IsDataAt (name_types forms names) names ref_number 0 true t
ConAt p forms names f (con.Exn x takes) t = IsExnTy takes (f (name_var p x.0)) × (t ≡ f (name_var p x.0))
ConAt p forms names f (con.Library e) t = t ≡ library_exn e
