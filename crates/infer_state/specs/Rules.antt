-- The rule of each node, asked of a substitution. A node and a name have a type variable each, and what a name's own declaration has settled is its scheme.
use Rattle.std.specs.Prelude.{◌≡◌, ℕ, Bool, true, false, cond, Option, Some, None, List, [], ◌∷◌, length, slice_get}
use Rattle.std.specs.List.{AllByRecursion}
use Rattle.smlc_base.specs.declared.primitive.Primitive.{Primitive}
use Rattle.sml_tree.specs.declared.bare.Bare.{Bare}
use Rattle.sml_tree.specs.declared.bare.Con.{Con}
use Rattle.sml_tree.specs.declared.bare.Con.TheVariants as con
use Rattle.sml_tree.specs.declared.bare.Field.{Field}
use Rattle.sml_tree.specs.declared.bare.Rule.{Rule}
use Rattle.sml_tree.specs.declared.bare.Node.{Node}
use Rattle.sml_tree.specs.declared.bare.Node.TheVariants as node
use Rattle.sml_types.specs.declared.types.TyVar.{TyVar}
use Rattle.sml_types.specs.declared.tables.TypeName.{TypeName}
use Rattle.sml_types.specs.Tree.{Tree, inst, admits}
use Rattle.sml_types.specs.Poly.{Poly, poly, has_num, IsInstance}
use Rattle.sml_types.specs.Library.{name_ty, arrow, unit_ty, int_ty, char_ty, string_ty, exn_ty, ref_number, library_exn, primitive_poly, ConType, NameType}
use Rattle.sml_types.specs.TypeExps.{Labelled, IsRecord, Means}
use Rattle.sml_types.specs.Typing.{con_ty, variables, IsExnTy, takes_argument, is_exception}
use Rattle.sml_unify.specs.Solved.{Substitution}
use Rattle.infer_state.specs.Variables.{node_var, name_var}

-- a type is a copy of a scheme's: its variables stand for types that keep their marks, and all others for what they stand for
pub record IsCopy (names : List TypeName) (f : Substitution) (s : Poly) (t : Tree) : Type 0 where
  pub at : TyVar → Tree
  pub marks : (v : TyVar) → has_num s.vars v.num ≡ true → v.eq ≡ true → admits names (at v) ≡ true
  pub is : t ≡ inst (λ v. cond (has_num s.vars v.num) (at v) (f v)) s.body

-- whether a constructor takes an argument
abbrev pub Takes : Option Tree → Bool → Type 0
Takes None takes = takes ≡ false
Takes (Some a) takes = takes ≡ true

-- constructor number k of a type name at a type; the rows have the constructors of all type names
pub record IsDataAt (rows : List NameType) (names : List TypeName) (n k : ℕ) (takes : Bool) (t : Tree) : Type 0 where
  pub row : NameType
  pub con : ConType
  pub named : slice_get rows n ≡ Some row
  pub numbered : slice_get row.cons k ≡ Some con
  pub takes_as : Takes con.arg takes
  pub is : IsInstance names (poly row.params (con_ty con.arg (name_ty n (variables row.params)))) t

module _ (p : Bare) (rows : List NameType) (names : List TypeName) (abbreviations : ℕ → Poly) (settled : ℕ → Option Poly) (f : Substitution) where
  -- the type of a node
  abbrev pub ty : ℕ → Tree
  ty i = f (node_var p i)

  -- the type of a name
  abbrev pub body : ℕ → Tree
  body x = f (name_var p x)

  -- a name at a type: at its own, or at a copy of its scheme
  abbrev pub IsNamedAt : ℕ → Option Poly → Tree → Type 0
  IsNamedAt x None t = t ≡ body x
  IsNamedAt x (Some s) t = IsCopy names f s t

  abbrev pub IsConAt : Con → Tree → Type 0
  IsConAt (con.Data n k takes) t = IsDataAt rows names n k takes t
  IsConAt con.Ref t = IsDataAt rows names ref_number 0 true t
  IsConAt (con.Exn x takes) t = IsExnTy takes (body x.0) × (t ≡ body x.0)
  IsConAt (con.Library e) t = t ≡ library_exn e

  -- a name has the type of an exception constructor
  abbrev pub IsRenamed : ℕ → Con → Type 0
  IsRenamed x (con.Exn y takes) = IsExnTy takes (body y.0) × (body x ≡ body y.0)
  IsRenamed x (con.Library e) = body x ≡ library_exn e
  IsRenamed x _ = ⊥

  abbrev pub Written : ℕ → Tree → Type 0
  Written j t = Means p.types p.tyvars names abbreviations j t

  abbrev pub labelled_fields : List Field → List Labelled
  labelled_fields [] = []
  labelled_fields (l ∷ fields) = record { slot = l.slot; lab = l.lab; ty = ty l.node } ∷ labelled_fields fields

  abbrev pub IsMatchAt : List Rule → Tree → Tree → Type 0
  IsMatchAt rules a b = AllByRecursion (λ r. (ty r.pat ≡ a) × (ty r.body ≡ b)) rules

  -- a written type, as it is under the substitution
  abbrev pub IsWrittenAt : ℕ → Tree → Type 0
  IsWrittenAt j t = (w : Tree) × Written j w × (t ≡ inst f w)

  abbrev pub IsExnArgumentAt : ℕ → Option ℕ → Type 0
  IsExnArgumentAt x None = body x ≡ exn_ty
  IsExnArgumentAt x (Some j) = (w : Tree) × Written j w × (body x ≡ arrow (inst f w) exn_ty)

  abbrev pub IsRule : ℕ → Node → Type 0
  -- expressions
  IsRule i (node.Int n) = ty i ≡ int_ty
  IsRule i (node.Char n) = ty i ≡ char_ty
  IsRule i (node.Text n) = ty i ≡ string_ty
  IsRule i (node.Var x) = IsNamedAt x.0 (settled x.0) (ty i)
  IsRule i (node.Constructor k) = IsConAt k (ty i)
  IsRule i (node.Builtin b) = IsInstance names (primitive_poly b) (ty i)
  IsRule i (node.Record fields) = IsRecord (labelled_fields fields) (ty i)
  IsRule i (node.App g a) = ty g ≡ arrow (ty a) (ty i)
  IsRule i (node.Case e rules) = IsMatchAt rules (ty e) (ty i)
  IsRule i (node.Fn rules) = (a b : Tree) × (ty i ≡ arrow a b) × IsMatchAt rules a b
  IsRule i (node.Raise e) = ty e ≡ exn_ty
  IsRule i (node.Handle e rules) = (ty e ≡ ty i) × IsMatchAt rules exn_ty (ty i)
  IsRule i (node.Typed e j) = (ty e ≡ ty i) × IsWrittenAt j (ty i)
  IsRule i (node.Let d e) = ty e ≡ ty i
  IsRule i node.Finish = ty i ≡ unit_ty
  -- patterns
  IsRule i node.Wild = Unit {0}
  IsRule i (node.PatInt n) = ty i ≡ int_ty
  IsRule i (node.PatChar n) = ty i ≡ char_ty
  IsRule i (node.PatText n) = ty i ≡ string_ty
  IsRule i (node.PatVar x) = body x.0 ≡ ty i
  IsRule i (node.PatCon k) = IsConAt k (ty i) × (takes_argument k ≡ false)
  IsRule i (node.PatApp k q) = IsConAt k (arrow (ty q) (ty i)) × (takes_argument k ≡ true)
  IsRule i (node.PatRecord fields) = IsRecord (labelled_fields fields) (ty i)
  IsRule i (node.PatTyped q j) = (ty q ≡ ty i) × IsWrittenAt j (ty i)
  IsRule i (node.PatAs x q) = (body x.0 ≡ ty i) × (ty q ≡ ty i)
  IsRule i (node.PatAsCon x q) = ⊥
  -- declarations
  IsRule i (node.Val us bindings) = AllByRecursion (λ b. ty b.right ≡ ty b.pat) bindings
  IsRule i (node.ValRec us bindings) = AllByRecursion (λ b. body b.name.0 ≡ ty b.right) bindings
  IsRule i (node.Type bindings) = Unit {0}
  IsRule i (node.Datatype bindings) = Unit {0}
  IsRule i (node.Exception x arg) = IsExnArgumentAt x.0 arg
  IsRule i (node.SameException x k) = IsRenamed x.0 k
  IsRule i (node.NoException x) = ⊥
