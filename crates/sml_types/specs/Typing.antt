-- A typing of a bare tree: types are guessed, and each node's rule is asked of them.
use Rattle.std.specs.Prelude.{◌≡◌, ℕ, suc, ◌<◌, Bool, true, false, ◌⊎◌, Option, Some, None, List, [], ◌∷◌, ◌++◌, ◌+◌, length, slice_get, get_or, take, flat_map}
use Rattle.std.specs.List.{AllByRecursion}
use Rattle.sml_tree.specs.declared.bare.Bare.{Bare}
use Rattle.sml_tree.specs.declared.bare.Con.{Con}
use Rattle.sml_tree.specs.declared.bare.Con.TheVariants as con
use Rattle.smlc_base.specs.declared.exception.LibraryExn.{LibraryExn}
use Rattle.smlc_base.specs.declared.exception.LibraryExn.TheVariants.{FailExn}
use Rattle.sml_tree.specs.declared.bare.Field.{Field}
use Rattle.sml_tree.specs.declared.bare.Rule.{Rule}
use Rattle.sml_tree.specs.declared.bare.Binding.{Binding}
use Rattle.sml_tree.specs.declared.bare.RecBinding.{RecBinding}
use Rattle.sml_tree.specs.declared.bare.TypeBinding.{TypeBinding}
use Rattle.sml_tree.specs.declared.bare.ConBinding.{ConBinding}
use Rattle.sml_tree.specs.declared.bare.DatBinding.{DatBinding}
use Rattle.sml_tree.specs.declared.bare.Node.{Node}
use Rattle.sml_tree.specs.declared.bare.Node.TheVariants as node
use Rattle.sml_types.specs.declared.types.Ty.{Ty}
use Rattle.sml_types.specs.declared.types.TyVar.{TyVar}
use Rattle.sml_types.specs.declared.types.TyForm.{TyForm}
use Rattle.sml_types.specs.declared.tables.ConRow.{ConRow}
use Rattle.sml_types.specs.declared.tables.TypeName.{TypeName}
use Rattle.sml_types.specs.Tree.{Tree, Variable, App, NoParts, Part}
use Rattle.sml_types.specs.Forms.{tree}
use Rattle.sml_types.specs.Poly.{Poly, poly, mono, is_in, is_free, IsInstance, Context, with_type_names, with_tyvars, with_names, with_own, scheme_in, IsFresh}
use Rattle.sml_types.specs.Escape.{mentions, AreKnown}
use Rattle.sml_types.specs.Library.{name_ty, arrow, unit_ty, int_ty, char_ty, string_ty, exn_ty, ref_number, library_names, BeginsWithLibrary, library_exn, primitive_poly, arg_of}
use Rattle.sml_types.specs.TypeExps.{Labelled, IsRecord, all_explicit, Means}
use Rattle.sml_types.specs.Equality.{IsGreatest}
use Rattle.sml_types.specs.NonExpansive.{AreNonExpansive}

-- what is guessed: for each node its type, the context that it stands in, and, for a pattern or a declaration, the names that it binds;
-- for the right side of each binding of a value declaration, the type variables that the binding generalises;
-- for each name its scheme, and for each type binding its type function; and the tables of the type names, whose types stand in forms
pub record Typing : Type 0 where
  pub types : ℕ → Tree
  pub contexts : ℕ → Context
  pub binds : ℕ → List ℕ
  pub gens : ℕ → List TyVar
  pub schemes : ℕ → Poly
  pub abbreviations : ℕ → Poly
  pub forms : List TyForm
  pub names : List TypeName

-- whether a constructor takes an argument
abbrev pub exn_takes : LibraryExn → Bool
exn_takes FailExn = true
exn_takes _ = false

abbrev pub takes_argument : Con → Bool
takes_argument (con.Data n k takes) = takes
takes_argument con.Ref = true
takes_argument (con.Exn x takes) = takes
takes_argument (con.Library e) = exn_takes e

abbrev pub is_exception : Con → Bool
is_exception (con.Exn x takes) = true
is_exception (con.Library e) = true
is_exception _ = false

-- the type of a constructor from that of its argument
abbrev pub con_ty : Option Tree → Tree → Tree
con_ty None t = t
con_ty (Some a) t = arrow a t

abbrev pub variables : List TyVar → List Tree
variables [] = []
variables (v ∷ vs) = Variable v ∷ variables vs

-- the type of an exception constructor, with or without argument
abbrev pub IsExnTy : Bool → Tree → Type 0
IsExnTy false t = t ≡ exn_ty
IsExnTy true t = (a : Tree) × (t ≡ arrow a exn_ty)

-- whether an argument stands there
abbrev pub TakesAs : Option Ty → Bool → Type 0
TakesAs None takes = takes ≡ false
TakesAs (Some a) takes = takes ≡ true

abbrev pub type_numbers : List DatBinding → List ℕ
type_numbers [] = []
type_numbers (b ∷ bindings) = b.type_name ∷ type_numbers bindings

abbrev pub group_names : List RecBinding → List ℕ
group_names [] = []
group_names (b ∷ bindings) = b.name.0 ∷ group_names bindings

-- the type names that a declaration makes
abbrev pub made_by : Option Node → List ℕ
made_by (Some (node.Datatype bindings)) = type_numbers bindings
made_by _ = []

-- the type names that the nodes below a number make
abbrev pub made_below : List Node → ℕ → List ℕ
made_below nodes count = flat_map (λ n. made_by (Some n)) (take count nodes)

-- the parameter of the library's type names: the first variable behind the explicit ones
abbrev pub library_param : Bare → TyVar
library_param p = record { num = length p.tyvars; eq = false }

abbrev pub IsAmong : TyVar → List TyVar → Type 0
IsAmong v [] = ⊥
IsAmong v (w ∷ ws) = (v ≡ w) ⊎ IsAmong v ws

-- no variables but these stand in a type
abbrev pub Covers : List TyVar → Tree → Type 0
Covers vs (Variable v) = IsAmong v vs
Covers vs (App h ts) = Covers vs ts
Covers vs NoParts = Unit {0}
Covers vs (Part t ts) = Covers vs t × Covers vs ts

module _ (p : Bare) (t : Typing) where
  -- ---- Constructors

  -- the scheme of constructor number k of a type name
  pub record IsDataPoly (n k : ℕ) (takes : Bool) (s : Poly) : Type 0 where
    pub row : TypeName
    pub con : ConRow
    pub named : slice_get t.names n ≡ Some row
    pub numbered : slice_get row.cons k ≡ Some con
    pub takes_as : TakesAs con.arg takes
    pub is : s ≡ poly row.params (con_ty (arg_of t.forms con.arg) (name_ty n (variables row.params)))

  -- the scheme of a constructor in a context
  abbrev pub IsConPoly : Context → Con → Poly → Type 0
  IsConPoly c (con.Data n k takes) s = IsDataPoly n k takes s
  IsConPoly c con.Ref s = IsDataPoly ref_number 0 true s
  IsConPoly c (con.Exn x takes) s = (is_in c.names x.0 ≡ true) × (s ≡ t.schemes x.0) × IsExnTy takes s.body
  IsConPoly c (con.Library e) s = s ≡ mono (library_exn e)

  -- a constructor at a type
  abbrev pub HasConTy : Context → Con → Tree → Type 0
  HasConTy c k ty = (s : Poly) × IsConPoly c k s × IsInstance t.names s ty

  -- ---- Parts

  -- a part of a phrase, with this type and in this context
  abbrev pub Has : ℕ → Context → Tree → Type 0
  Has i c ty = (t.contexts i ≡ c) × (t.types i ≡ ty)

  abbrev pub Written : ℕ → Tree → Type 0
  Written j ty = Means p.types p.tyvars t.names t.abbreviations j ty

  abbrev pub fields_of : List Field → List Labelled
  fields_of [] = []
  fields_of (f ∷ fields) = record { slot = f.slot; lab = f.lab; ty = t.types f.node } ∷ fields_of fields

  -- all fields stand in the context, and make this record type
  abbrev pub AreFields : List Field → Context → Tree → Type 0
  AreFields fields c ty = AllByRecursion (λ f. t.contexts f.node ≡ c) fields × IsRecord (fields_of fields) ty

  abbrev pub bound_in : List Field → List ℕ
  bound_in [] = []
  bound_in (f ∷ fields) = t.binds f.node ++ bound_in fields

  -- these names generalise these type variables
  abbrev pub AreClosed : List TyVar → List ℕ → Type 0
  AreClosed vs xs = AllByRecursion (λ x. (t.schemes x).vars ≡ vs) xs

  -- a match takes a to b: what a pattern binds has one type alone, and mentions no type name that is not there
  abbrev pub IsMatch : List Rule → Context → Tree → Tree → Type 0
  IsMatch rules c a b = AllByRecursion (λ r. Has r.pat c a × Has r.body (with_names (t.binds r.pat) c) b × AreClosed [] (t.binds r.pat) × AreKnown t.schemes c.type_names (t.binds r.pat)) rules

  -- ---- Value declarations

  -- explicit type variables are new, and stand free in no scheme afterwards
  abbrev pub AreExplicit : List ℕ → Context → List ℕ → Type 0
  AreExplicit us c xs = AllByRecursion (λ u. IsFresh t.schemes c u × AllByRecursion (λ x. is_free u (t.schemes x) ≡ false) xs) us

  -- what a right side generalises stands free nowhere around, and is nothing unless the right side is non-expansive
  abbrev pub IsGeneral : Context → ℕ → Type 0
  IsGeneral c right = AllByRecursion (λ v. IsFresh t.schemes c v.num) (t.gens right) × ((t.gens right ≡ []) ⊎ AreNonExpansive p.nodes (right ∷ []))

  abbrev pub IsBinding : Context → Context → Binding → Type 0
  IsBinding c inner b = (t.contexts b.pat ≡ inner) × Has b.right inner (t.types b.pat) × IsGeneral c b.right × AreClosed (t.gens b.right) (t.binds b.pat)

  abbrev pub bound_by : List Binding → List ℕ
  bound_by [] = []
  bound_by (b ∷ bindings) = t.binds b.pat ++ bound_by bindings

  abbrev pub IsRecBinding : Context → Context → RecBinding → Type 0
  IsRecBinding c inner b = (t.contexts b.right ≡ inner) × IsGeneral c b.right × (t.schemes b.name.0 ≡ poly (t.gens b.right) (t.types b.right))

  -- ---- Type declarations

  -- on the right stand the type variables on the left alone
  abbrev pub IsTypeBinding : TypeBinding → Type 0
  IsTypeBinding b = (ty : Tree) × Written b.ty ty × Covers (all_explicit p.tyvars b.params) ty × (t.abbreviations b.number ≡ poly (all_explicit p.tyvars b.params) ty)

  abbrev pub IsArgument : Option ℕ → Option Ty → Type 0
  IsArgument None None = Unit {0}
  IsArgument (Some j) (Some a) = Written j (tree t.forms a.0)
  IsArgument _ _ = ⊥

  abbrev pub AreConstructors : List ConBinding → List ConRow → Type 0
  AreConstructors [] [] = Unit {0}
  AreConstructors (b ∷ bindings) (c ∷ cons) = (c.text ≡ b.text) × IsArgument b.arg c.arg × AreConstructors bindings cons
  AreConstructors _ _ = ⊥

  -- in a constructor's argument stand these type variables alone
  abbrev pub CoversArgument : List TyVar → Option Ty → Type 0
  CoversArgument vs None = Unit {0}
  CoversArgument vs (Some a) = Covers vs (tree t.forms a.0)

  -- the tables have the datatype's row
  pub record IsDatBinding (b : DatBinding) : Type 0 where
    pub row : TypeName
    pub named : slice_get t.names b.type_name ≡ Some row
    pub text : row.text ≡ b.text
    pub params : row.params ≡ all_explicit p.tyvars b.params
    pub cons : AreConstructors b.cons row.cons
    pub covers : AllByRecursion (λ c. CoversArgument row.params c.arg) row.cons

  -- an exception constructor's argument, as it is written
  abbrev pub IsExnArgument : Option ℕ → Tree → Type 0
  IsExnArgument None ty = ty ≡ exn_ty
  IsExnArgument (Some j) ty = (a : Tree) × Written j a × (ty ≡ arrow a exn_ty)

  -- ---- The rule of a node: its context, its type, and what it binds

  abbrev pub IsTypedNode : Context → Tree → List ℕ → Node → Type 0
  -- expressions
  IsTypedNode c ty bs (node.Int n) = ty ≡ int_ty
  IsTypedNode c ty bs (node.Char n) = ty ≡ char_ty
  IsTypedNode c ty bs (node.Text n) = ty ≡ string_ty
  IsTypedNode c ty bs (node.Var x) = (is_in c.names x.0 ≡ true) × IsInstance t.names (scheme_in t.schemes c x.0) ty
  IsTypedNode c ty bs (node.Constructor k) = HasConTy c k ty
  IsTypedNode c ty bs (node.Builtin f) = IsInstance t.names (primitive_poly f) ty
  IsTypedNode c ty bs (node.Record fields) = AreFields fields c ty
  IsTypedNode c ty bs (node.App f a) = (arg : Tree) × Has f c (arrow arg ty) × Has a c arg
  IsTypedNode c ty bs (node.Case e rules) = (a : Tree) × Has e c a × IsMatch rules c a ty
  IsTypedNode c ty bs (node.Fn rules) = (a b : Tree) × (ty ≡ arrow a b) × IsMatch rules c a b
  IsTypedNode c ty bs (node.Raise e) = Has e c exn_ty
  IsTypedNode c ty bs (node.Handle e rules) = Has e c ty × IsMatch rules c exn_ty ty
  IsTypedNode c ty bs (node.Typed e j) = Has e c ty × Written j ty
  -- the type of a let mentions no type name that its declaration makes
  IsTypedNode c ty bs (node.Let d e) = (t.contexts d ≡ c) × Has e (with_type_names (made_by (slice_get p.nodes d)) (with_names (t.binds d) c)) ty × (mentions c.type_names ty ≡ true)
  IsTypedNode c ty bs node.Finish = ty ≡ unit_ty
  -- patterns
  IsTypedNode c ty bs node.Wild = bs ≡ []
  IsTypedNode c ty bs (node.PatInt n) = (ty ≡ int_ty) × (bs ≡ [])
  IsTypedNode c ty bs (node.PatChar n) = (ty ≡ char_ty) × (bs ≡ [])
  IsTypedNode c ty bs (node.PatText n) = (ty ≡ string_ty) × (bs ≡ [])
  IsTypedNode c ty bs (node.PatVar x) = ((t.schemes x.0).body ≡ ty) × (bs ≡ x.0 ∷ [])
  IsTypedNode c ty bs (node.PatCon k) = HasConTy c k ty × (takes_argument k ≡ false) × (bs ≡ [])
  IsTypedNode c ty bs (node.PatApp k q) = (arg : Tree) × HasConTy c k (arrow arg ty) × (takes_argument k ≡ true) × Has q c arg × (bs ≡ t.binds q)
  IsTypedNode c ty bs (node.PatRecord fields) = AreFields fields c ty × (bs ≡ bound_in fields)
  IsTypedNode c ty bs (node.PatTyped q j) = Has q c ty × Written j ty × (bs ≡ t.binds q)
  IsTypedNode c ty bs (node.PatAs x q) = ((t.schemes x.0).body ≡ ty) × Has q c ty × (bs ≡ x.0 ∷ t.binds q)
  IsTypedNode c ty bs (node.PatAsCon x q) = ⊥
  -- declarations
  IsTypedNode c ty bs (node.Val us bindings) = AllByRecursion (IsBinding c (with_tyvars us c)) bindings × (bs ≡ bound_by bindings) × AreExplicit us c bs × AreKnown t.schemes c.type_names bs
  IsTypedNode c ty bs (node.ValRec us bindings) = AllByRecursion (IsRecBinding c (with_tyvars us (with_own (group_names bindings) c))) bindings × (bs ≡ group_names bindings) × AreExplicit us c bs × AreKnown t.schemes c.type_names bs
  IsTypedNode c ty bs (node.Type bindings) = AllByRecursion IsTypeBinding bindings × (bs ≡ [])
  IsTypedNode c ty bs (node.Datatype bindings) = AllByRecursion IsDatBinding bindings × IsGreatest t.forms t.names (type_numbers bindings) × (bs ≡ [])
  IsTypedNode c ty bs (node.Exception x arg) = (a : Tree) × IsExnArgument arg a × (t.schemes x.0 ≡ mono a) × (bs ≡ x.0 ∷ [])
  IsTypedNode c ty bs (node.SameException x k) = (is_exception k ≡ true) × IsConPoly c k (t.schemes x.0) × (bs ≡ x.0 ∷ [])
  IsTypedNode c ty bs (node.NoException x) = ⊥

  -- ---- Programs

  -- the context before the first declaration
  abbrev pub start : Context
  start = record { type_names = library_names; tyvars = []; names = []; own = [] }

  -- a typing of the nodes below a number; its tables have the type names of the library and those that these nodes declare, and no others
  pub record IsTypingBelow (count : ℕ) : Type 0 where
    pub root : t.contexts 0 ≡ start
    pub library : BeginsWithLibrary t.forms t.names
    pub parameter : library.param ≡ library_param p
    pub declared : length t.names ≡ length library_names + length (made_below p.nodes count)
    pub rules : (i : ℕ) (n : Node) → i < count → slice_get p.nodes i ≡ Some n → IsTypedNode (t.contexts i) (t.types i) (t.binds i) n

  abbrev pub IsTyping : Type 0
  IsTyping = IsTypingBelow (length p.nodes)

-- nodes are numbered in preorder along one nest of declarations, so those of the first k declarations come first
abbrev pub end_of : Bare → ℕ → ℕ
end_of p k = get_or p.decs k (length p.nodes)

-- the first k declarations have a typing
abbrev pub HasTyping : Bare → ℕ → Type 0
HasTyping p k = (t : Typing) × IsTypingBelow p t (end_of p k)

-- the declarations before declaration number k, counted from 0, have a typing, and with it they have none
pub record IsBadDeclaration (p : Bare) (k : ℕ) : Type 0 where
  pub there : k < length p.decs
  pub before : HasTyping p k
  pub here : HasTyping p (suc k) → ⊥

-- the whole program has a typing
abbrev pub IsTypable : Bare → Type 0
IsTypable p = (t : Typing) × IsTyping p t
