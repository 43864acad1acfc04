-- Types as they are written.
use Rattle.std.specs.Prelude.{ℕ, List, [], ◌∷◌, ◌++◌, Option, Some, None, map, length, get_or}
use Rattle.smlc_base.specs.declared.place.Place.{Place}
use Rattle.smlc_base.specs.declared.refusal.Refusal.TheVariants as refusal
use Rattle.sml_tree.specs.declared.tree_node.TreeNode.TheVariants as node
use Rattle.sml_tree.specs.declared.bare.Lab.{Lab}
use Rattle.sml_tree.specs.declared.bare.Lab.TheVariants.{Num, Text}
use Rattle.sml_tree.specs.declared.bare.TypeExp.TheVariants as type
use Rattle.sml_tree.specs.declared.bare.TypeField.{TypeField}
use Rattle.sml_expansion.specs.declared.meaning.TypeMeaning.{TypeMeaning}
use Rattle.sml_expansion.specs.declared.meaning.TypeMeaning.TheVariants.{TypeName, Abbreviation, EmptyRecord}
use Rattle.sml_expansion.specs.declared.scope.Ident.{Ident}
use Rattle.sml_expansion.specs.Scoped.{latest}
use Rattle.sml_expansion.specs.Terms.{Term, leaf, one, two, three}
use Rattle.sml_expansion.specs.Labels.{slot, lab_eq, numbers, doubles}
use Rattle.sml_expansion.specs.Scopes.{Scope, ident, text_of, type_meaning_of}
use Rattle.sml_expansion.specs.Makings.{Makes, gives, breaks, new_type, ◌>>=◌, ◌>>◌}

-- the labels of rows, of an expression, a pattern or a type, with their places
abbrev pub labels : List (List ℕ) → Term → List (Lab × Place)
labels names (leaf (node.Label x) p) = (Text (text_of names x.0), p) ∷ []
labels names (leaf (node.LabelNumber z) p) = (Num z, p) ∷ []
labels names (two node.Row p l e) = labels names l
labels names (two node.MoreRows p a b) = labels names a ++ labels names b
labels names (two node.PatRow p l q) = labels names l
labels names (one node.PunRow p l) = labels names l
labels names (two node.TypedPunRow p l t) = labels names l
labels names (two node.PunRowAs p l q) = labels names l
labels names (three node.TypedPunRowAs p l t q) = labels names l
labels names (two node.MorePatRows p a b) = labels names a ++ labels names b
labels names (two node.TyRow p l t) = labels names l
labels names (two node.MoreTyRows p a b) = labels names a ++ labels names b
labels names _ = []

-- no label stands twice in one record phrase
abbrev pub labels_once : List (Lab × Place) → Makes (Unit {0})
labels_once labs = breaks (doubles lab_eq [] labs)

-- the fields of a record type with these labels, in written order
abbrev pub fields_of : List Lab → List Lab → List ℕ → List TypeField
fields_of all (l ∷ labs) (t ∷ types) = record { lab = l; slot = slot all l; ty = t } ∷ fields_of all labs types
fields_of all _ _ = []

abbrev pub type_fields : List Lab → List ℕ → List TypeField
type_fields labs types = fields_of labs labs types

-- a type constructor at its arguments
abbrev pub constructed : Option TypeMeaning → Ident → List ℕ → Makes ℕ
constructed (Some (TypeName n)) i args = new_type (type.Named n args)
constructed (Some (Abbreviation n)) i args = new_type (type.Abbreviation n args)
constructed (Some EmptyRecord) i [] = new_type (type.Record [])
constructed (Some EmptyRecord) i (t ∷ args) = new_type (type.UnitOf (t ∷ args))
constructed None i args = do
  breaks (refusal.Unbound i.place ∷ [])
  new_type (type.Record [])

abbrev pub constructor_at : Scope → Ident → List ℕ → Makes ℕ
constructor_at s i args = constructed (type_meaning_of s i.key) i args

-- a type variable
abbrev pub variable_at : Option ℕ → Place → Makes ℕ
variable_at (Some n) p = new_type (type.Var n)
variable_at None p = do
  breaks (refusal.BadBinding p ∷ [])
  new_type (type.Record [])

abbrev pub alone : Makes ℕ → Makes (List ℕ)
alone f = do
  t ← f
  gives (t ∷ [])

-- labels without their places
abbrev pub labs_of : List (Lab × Place) → List Lab
labs_of labs = map (λ l. l.0) labs

abbrev pub labels_in : List (List ℕ) → Term → List Lab
labels_in names a = labs_of (labels names a)

-- the numbers of two lists of types
abbrev pub both_lists : Makes (List ℕ) → Makes (List ℕ) → Makes (List ℕ)
both_lists f g = do
  x ← f
  y ← g
  gives (x ++ y)

-- what is made of the types of the parts
abbrev pub made_of : Makes (List ℕ) → (List ℕ → Makes ℕ) → Makes (List ℕ)
made_of f g = do
  x ← f
  alone (g x)

abbrev pub record_type : List (List ℕ) → Term → List ℕ → Makes ℕ
record_type names a x = do
  labels_once (labels names a)
  new_type (type.Record (type_fields (labels_in names a) x))

-- The numbers of the types of a list, one for a type alone. A type's parts are numbered before it.
abbrev pub types : Scope → Term → Makes (List ℕ)
types s (leaf (node.TyVar x) p) = alone (variable_at (latest s.tyvars x.0) p)
types s (leaf (node.TyCon x) p) = alone (constructor_at s (ident s.names (leaf (node.TyCon x) p)) [])
types s (leaf (node.LongTyCon x) p) = alone (constructor_at s (ident s.names (leaf (node.LongTyCon x) p)) [])
types s (leaf node.EmptyRecordTy p) = alone (new_type (type.Record []))
types s (one node.ParenTy p a) = types s a
types s (one node.RecordTy p a) = made_of (types s a) (record_type s.names a)
types s (two node.ArrowTy p a b) = made_of (both_lists (types s a) (types s b)) (λ x. new_type (type.Arrow (get_or x 0 0) (get_or x 1 0)))
types s (two node.ProductTy p a b) = made_of (both_lists (types s a) (types s b)) (λ x. new_type (type.Record (type_fields (numbers 0 (length x)) x)))
types s (two node.ConTy p a c) = made_of (types s a) (constructor_at s (ident s.names c))
types s (three node.SeqConTy p a b c) = made_of (both_lists (types s a) (types s b)) (constructor_at s (ident s.names c))
types s (two node.TyRow p l t) = types s t
types s (two node.MoreTyRows p a b) = both_lists (types s a) (types s b)
types s (two node.MoreFactors p a b) = both_lists (types s a) (types s b)
types s (two node.MoreTys p a b) = both_lists (types s a) (types s b)
types s _ = gives []

-- the number of a type
abbrev pub type_of : Scope → Term → Makes ℕ
type_of s t = do
  x ← types s t
  gives (get_or x 0 0)
