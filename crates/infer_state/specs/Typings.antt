-- The typing that inference ends with, and what has to hold of it beside the rules of its nodes.
use Rattle.std.specs.Prelude.{◌≡◌, ℕ, ◌+◌, ◌<◌, Bool, true, false, Option, Some, None, List, [], ◌∷◌, length, map, slice_get, get_or, unwrap_or, nat_eq}
use Rattle.std.specs.List.{AllByRecursion, find}
use Rattle.sml_tree.specs.declared.bare.Bare.{Bare}
use Rattle.sml_tree.specs.declared.bare.Con.{Con}
use Rattle.sml_tree.specs.declared.bare.Con.TheVariants as con
use Rattle.sml_tree.specs.declared.bare.Rule.{Rule}
use Rattle.sml_tree.specs.declared.bare.Binding.{Binding}
use Rattle.sml_tree.specs.declared.bare.RecBinding.{RecBinding}
use Rattle.sml_tree.specs.declared.bare.Node.{Node}
use Rattle.sml_tree.specs.declared.bare.Node.TheVariants as node
use Rattle.sml_types.specs.declared.types.TyVar.{TyVar}
use Rattle.sml_types.specs.declared.types.TyForm.{TyForm}
use Rattle.sml_types.specs.declared.scheme.Scheme.{Scheme}
use Rattle.sml_types.specs.declared.tables.TypeName.{TypeName}
use Rattle.sml_types.specs.Tree.{Tree, Variable, NoParts, inst, occurs, AllVars}
use Rattle.sml_types.specs.Poly.{Poly, poly, mono, is_in, has_num, Context}
use Rattle.sml_types.specs.Schemes.{scheme_poly}
use Rattle.sml_types.specs.Escape.{mentions, AreKnown}
use Rattle.sml_types.specs.Typing.{Typing, start, bound_by, AreClosed, IsGeneral, AreExplicit, IsTypedNode}
use Rattle.sml_unify.specs.Solved.{Substitution}
use Rattle.infer_state.specs.Variables.{node_var, name_var}
use Rattle.infer_state.specs.Names.{names_bound}

abbrev pub var_at : TyVar → Tree → TyVar
var_at v (Variable w) = w
var_at v _ = v

-- a scheme under a substitution that takes its variables to variables
abbrev pub poly_under : Substitution → Poly → Poly
poly_under f s = poly (map (λ v. var_at v (f v)) s.vars) (inst f s.body)

abbrev pub scheme_under : Substitution → Option Poly → Tree → Poly
scheme_under f None t = mono t
scheme_under f (Some s) t = poly_under f s

abbrev pub abbreviation_at : List TyForm → Option Scheme → Poly
abbreviation_at forms None = mono NoParts
abbreviation_at forms (Some s) = scheme_poly forms s

-- the typing under a substitution, with the contexts of the nodes, the schemes of the names that are settled, and the variables that are generalised at each right side
abbrev pub typing_of : Bare → List TyForm → List TypeName → List Scheme → (ℕ → Option Context) → (ℕ → Option Poly) → List (List TyVar) → Substitution → Typing
typing_of p forms names abbreviations contexts settled general f =
    record {
      types = λ i. f (node_var p i);
      contexts = λ i. unwrap_or (contexts i) (record { type_names = []; tyvars = []; names = []; own = [] });
      binds = names_bound p.nodes;
      gens = λ i. map (λ v. var_at v (f v)) (get_or general i []);
      schemes = λ x. scheme_under f (settled x) (f (name_var p x));
      abbreviations = λ k. abbreviation_at forms (slice_get abbreviations k);
      forms = forms;
      names = names;
    }

-- no item stands twice
abbrev pub AreApart : List ℕ → Type 0
AreApart [] = Unit {0}
AreApart (x ∷ xs) = (is_in xs x ≡ false) × AreApart xs

-- a substitution takes the variables of a scheme to different variables with the same marks, which stand in nothing that the scheme leaves open
pub record IsProper (f : Substitution) (s : Poly) : Type 0 where
  pub vars : AllByRecursion (λ v. f v ≡ Variable (record { num = (var_at v (f v)).num; eq = v.eq })) s.vars
  pub apart : AreApart (map (λ v. (var_at v (f v)).num) s.vars)
  pub left_open : AllVars (λ u. has_num s.vars u.num ≡ false → (a : ℕ) → occurs a (f u) ≡ true → has_num (poly_under f s).vars a ≡ false) s.body

-- ---- What a node needs before its rule is asked

-- a name without a settled scheme is cited in its own recursive declaration alone
abbrev pub IsUsable : (ℕ → Option Poly) → Context → ℕ → Type 0
IsUsable settled c x = settled x ≡ None → is_in c.own x ≡ true

-- a scheme without variables is settled for the name of an exception constructor
abbrev pub IsPlain : Option Poly → Type 0
IsPlain None = ⊥
IsPlain (Some s) = s.vars ≡ []

abbrev pub IsConReady : (ℕ → Option Poly) → Context → Con → Type 0
IsConReady settled c (con.Exn x takes) = (is_in c.names x.0 ≡ true) × IsPlain (settled x.0)
IsConReady settled c _ = Unit {0}

abbrev pub IsReady : (ℕ → Option Poly) → Context → Node → Type 0
IsReady settled c (node.Var x) = (is_in c.names x.0 ≡ true) × IsUsable settled c x.0
IsReady settled c (node.Constructor k) = IsConReady settled c k
IsReady settled c (node.PatCon k) = IsConReady settled c k
IsReady settled c (node.PatApp k q) = IsConReady settled c k
IsReady settled c (node.SameException x k) = IsConReady settled c k
IsReady settled c _ = Unit {0}

-- ---- What holds at the end

module _ (p : Bare) (t : Typing) where
  -- the names of a match have one type alone, which mentions no type name that is not there
  abbrev pub AreMatched : Context → List Rule → Type 0
  AreMatched c rules = AllByRecursion (λ r. AreClosed p t [] (t.binds r.pat) × AreKnown t.schemes c.type_names (t.binds r.pat)) rules

  -- what holds of a node beside its rule, and the contexts and names of its parts
  abbrev pub IsFinished : Context → ℕ → Node → Type 0
  IsFinished c i (node.Case e rules) = AreMatched c rules
  IsFinished c i (node.Fn rules) = AreMatched c rules
  IsFinished c i (node.Handle e rules) = AreMatched c rules
  IsFinished c i (node.Let d e) = mentions c.type_names (t.types i) ≡ true
  IsFinished c i (node.Val us bindings) =
      AllByRecursion (λ b. IsGeneral p t c b.right × AreClosed p t (t.gens b.right) (t.binds b.pat)) bindings
      × AreExplicit p t us c (t.binds i) × AreKnown t.schemes c.type_names (t.binds i)
  IsFinished c i (node.ValRec us bindings) =
      AllByRecursion (λ b. IsGeneral p t c b.right × ((t.schemes b.name.0).vars ≡ t.gens b.right)) bindings
      × AreExplicit p t us c (t.binds i) × AreKnown t.schemes c.type_names (t.binds i)
  IsFinished c i (node.Exception x arg) = (t.schemes x.0).vars ≡ []
  IsFinished c i (node.SameException x k) = (t.schemes x.0).vars ≡ []
  IsFinished c i (node.Type bindings) = IsTypedNode p t c (t.types i) (t.binds i) (node.Type bindings)
  IsFinished c i (node.Datatype bindings) = IsTypedNode p t c (t.types i) (t.binds i) (node.Datatype bindings)
  IsFinished c i _ = Unit {0}
