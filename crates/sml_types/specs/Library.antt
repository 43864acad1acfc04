-- The types of the library: its type names with their constructors, its exceptions, and its primitives.
use Rattle.std.specs.Prelude.{◌≡◌, ℕ, suc, true, false, Option, Some, None, List, [], ◌∷◌, codes, pos, take}
use Rattle.smlc_base.specs.declared.primitive.Primitive.{Primitive}
use Rattle.smlc_base.specs.declared.primitive.Primitive.TheVariants as prim
use Rattle.sml_tree.specs.declared.bare.Lab.{Lab}
use Rattle.sml_tree.specs.declared.bare.Lab.TheVariants.{Num}
use Rattle.smlc_base.specs.declared.exception.LibraryExn.{LibraryExn}
use Rattle.smlc_base.specs.declared.exception.LibraryExn.TheVariants.{FailExn}
use Rattle.sml_types.specs.declared.types.Ty.{Ty}
use Rattle.sml_types.specs.declared.types.TyVar.{TyVar}
use Rattle.sml_types.specs.declared.types.TyForm.{TyForm}
use Rattle.sml_types.specs.declared.tables.Equality.{Equality}
use Rattle.sml_types.specs.declared.tables.Equality.TheVariants.{Never, Always, Parts}
use Rattle.sml_types.specs.declared.tables.ConRow.{ConRow}
use Rattle.sml_types.specs.declared.tables.TypeName.{TypeName}
use Rattle.sml_types.specs.Tree.{ArrowHead, FieldsHead, NameHead, Tree, Variable, App, NoParts, Part}
use Rattle.sml_types.specs.Forms.{tree}
use Rattle.sml_types.specs.Poly.{Poly, poly, mono}

abbrev pub parts : List Tree → Tree
parts [] = NoParts
parts (t ∷ ts) = Part t (parts ts)

abbrev pub name_ty : ℕ → List Tree → Tree
name_ty n args = App (NameHead n) (parts args)

abbrev pub arrow : Tree → Tree → Tree
arrow a b = App ArrowHead (parts (a ∷ b ∷ []))

-- the labels 1, 2 and so on
abbrev pub labels_from : ℕ → List Tree → List Lab
labels_from k [] = []
labels_from k (t ∷ ts) = Num (pos (suc k)) ∷ labels_from (suc k) ts

abbrev pub tuple : List Tree → Tree
tuple ts = App (FieldsHead (labels_from 0 ts)) (parts ts)

abbrev pub unit_ty : Tree
unit_ty = tuple []

abbrev pub int_ty : Tree
int_ty = name_ty 0 []

abbrev pub char_ty : Tree
char_ty = name_ty 1 []

abbrev pub string_ty : Tree
string_ty = name_ty 2 []

abbrev pub exn_ty : Tree
exn_ty = name_ty 3 []

abbrev pub bool_ty : Tree
bool_ty = name_ty 4 []

abbrev pub list_ty : Tree → Tree
list_ty t = name_ty 5 (t ∷ [])

abbrev pub option_ty : Tree → Tree
option_ty t = name_ty 6 (t ∷ [])

abbrev pub order_ty : Tree
order_ty = name_ty 7 []

abbrev pub ref_number : ℕ
ref_number = 8

abbrev pub ref_ty : Tree → Tree
ref_ty t = name_ty ref_number (t ∷ [])

abbrev pub instream_ty : Tree
instream_ty = name_ty 9 []

-- the numbers of the library's type names
abbrev pub library_names : List ℕ
library_names = 0 ∷ 1 ∷ 2 ∷ 3 ∷ 4 ∷ 5 ∷ 6 ∷ 7 ∷ 8 ∷ 9 ∷ []

-- ---- The type names

-- a constructor with the type of its argument
pub record ConType : Type 0 where
  pub text : List ℕ
  pub arg : Option Tree

-- a type name with the types of its constructors
pub record NameType : Type 0 where
  pub text : List ℕ
  pub params : List TyVar
  pub eq : Equality
  pub cons : List ConType

abbrev pub arg_of : List TyForm → Option Ty → Option Tree
arg_of forms None = None
arg_of forms (Some a) = Some (tree forms a.0)

abbrev pub cons_of : List TyForm → List ConRow → List ConType
cons_of forms [] = []
cons_of forms (c ∷ cons) = record { text = c.text; arg = arg_of forms c.arg } ∷ cons_of forms cons

-- what a row of the tables says
abbrev pub name_type : List TyForm → TypeName → NameType
name_type forms n = record { text = n.text; params = n.params; eq = n.eq; cons = cons_of forms n.cons }

abbrev pub name_types : List TyForm → List TypeName → List NameType
name_types forms [] = []
name_types forms (n ∷ names) = name_type forms n ∷ name_types forms names

abbrev constant : List ℕ → ConType
constant text = record { text = text; arg = None }

abbrev applied : List ℕ → Tree → ConType
applied text arg = record { text = text; arg = Some arg }

abbrev row : List ℕ → List TyVar → Equality → List ConType → NameType
row text params eq cons = record { text = text; params = params; eq = eq; cons = cons }

-- the type names that are there from the start, by number; a is their parameter
abbrev pub library : TyVar → List NameType
library a =
    row (codes "int") [] Parts []
    ∷ row (codes "char") [] Parts []
    ∷ row (codes "string") [] Parts []
    ∷ row (codes "exn") [] Never []
    ∷ row (codes "bool") [] Parts (constant (codes "false") ∷ constant (codes "true") ∷ [])
    ∷ row (codes "list") (a ∷ []) Parts (constant (codes "nil") ∷ applied (codes "::") (tuple (Variable a ∷ list_ty (Variable a) ∷ [])) ∷ [])
    ∷ row (codes "option") (a ∷ []) Parts (constant (codes "NONE") ∷ applied (codes "SOME") (Variable a) ∷ [])
    ∷ row (codes "order") [] Parts (constant (codes "LESS") ∷ constant (codes "EQUAL") ∷ constant (codes "GREATER") ∷ [])
    ∷ row (codes "ref") (a ∷ []) Always (applied (codes "ref") (Variable a) ∷ [])
    ∷ row (codes "TextIO.instream") [] Never []
    ∷ []

-- the tables begin with the library's type names
pub record BeginsWithLibrary (forms : List TyForm) (names : List TypeName) : Type 0 where
  pub param : TyVar
  pub plain : param.eq ≡ false
  pub rows : take 10 (name_types forms names) ≡ library param

-- ---- Exceptions and primitives

abbrev pub library_exn : LibraryExn → Tree
library_exn FailExn = arrow string_ty exn_ty
library_exn _ = exn_ty

abbrev any : TyVar
any = record { num = 0; eq = false }

abbrev any_equal : TyVar
any_equal = record { num = 0; eq = true }

abbrev pair_to : Tree → Tree → Tree → Poly
pair_to a b c = mono (arrow (tuple (a ∷ b ∷ [])) c)

abbrev equals : Poly
equals = poly (any_equal ∷ []) (arrow (tuple (Variable any_equal ∷ Variable any_equal ∷ [])) bool_ty)

abbrev pub primitive_poly : Primitive → Poly
primitive_poly prim.Plus = pair_to int_ty int_ty int_ty
primitive_poly prim.Minus = pair_to int_ty int_ty int_ty
primitive_poly prim.Times = pair_to int_ty int_ty int_ty
primitive_poly prim.Quotient = pair_to int_ty int_ty int_ty
primitive_poly prim.Modulo = pair_to int_ty int_ty int_ty
primitive_poly prim.Negate = mono (arrow int_ty int_ty)
primitive_poly prim.Abs = mono (arrow int_ty int_ty)
primitive_poly prim.Less = pair_to int_ty int_ty bool_ty
primitive_poly prim.Greater = pair_to int_ty int_ty bool_ty
primitive_poly prim.AtMost = pair_to int_ty int_ty bool_ty
primitive_poly prim.AtLeast = pair_to int_ty int_ty bool_ty
primitive_poly prim.Equal = equals
primitive_poly prim.Unequal = equals
primitive_poly prim.Deref = poly (any ∷ []) (arrow (ref_ty (Variable any)) (Variable any))
primitive_poly prim.Assign = poly (any ∷ []) (arrow (tuple (ref_ty (Variable any) ∷ Variable any ∷ [])) unit_ty)
primitive_poly prim.Ord = mono (arrow char_ty int_ty)
primitive_poly prim.Chr = mono (arrow int_ty char_ty)
primitive_poly prim.Concat = pair_to string_ty string_ty string_ty
primitive_poly prim.Size = mono (arrow string_ty int_ty)
primitive_poly prim.Str = mono (arrow char_ty string_ty)
primitive_poly prim.Implode = mono (arrow (list_ty char_ty) string_ty)
primitive_poly prim.Sub = pair_to string_ty int_ty char_ty
primitive_poly prim.Substring = mono (arrow (tuple (string_ty ∷ int_ty ∷ int_ty ∷ [])) string_ty)
primitive_poly prim.Compare = pair_to string_ty string_ty order_ty
primitive_poly prim.Print = mono (arrow string_ty unit_ty)
primitive_poly prim.InputLine = mono (arrow instream_ty (option_ty string_ty))
primitive_poly prim.StdIn = mono instream_ty
