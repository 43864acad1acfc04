-- What identifiers stand for. An identifier is named by the number of its text among the names of the program, of which no two are equal.
use Rattle.std.specs.Prelude.{ℕ, suc, Bool, true, false, ◌&&◌, if◌then◌else◌, List, [], ◌∷◌, ◌++◌, Option, Some, None, bytes_eq, slice_get, codes, unwrap_or}
use Rattle.std.specs.List.{list_any, position_from}
use Rattle.sml_tree.specs.declared.tree_node.TreeNode.{TreeNode}
use Rattle.sml_tree.specs.declared.tree_node.TreeNode.TheVariants as node
use Rattle.sml_tree.specs.Width.{is_user}
use Rattle.sml_prelude.specs.declared.values.Value.{Value}
use Rattle.sml_prelude.specs.declared.values.Value.TheVariants as base
use Rattle.sml_prelude.specs.declared.types.BaseType.{BaseType}
use Rattle.sml_prelude.specs.declared.types.BaseType.TheVariants as kind
use Rattle.sml_prelude.specs.Values.{value_of}
use Rattle.sml_prelude.specs.Types.{type_of}
use Rattle.sml_prelude.specs.Long.{short_of, long_identifiers}
use Rattle.sml_expansion.specs.declared.meaning.Meaning.{Meaning}
use Rattle.sml_expansion.specs.declared.meaning.Meaning.TheVariants.{Constructor, Builtin}
use Rattle.sml_expansion.specs.declared.meaning.TypeMeaning.{TypeMeaning}
use Rattle.sml_expansion.specs.declared.meaning.TypeMeaning.TheVariants.{TypeName, EmptyRecord}
use Rattle.sml_expansion.specs.declared.scope.Ident.{Ident}
use Rattle.sml_expansion.specs.declared.scope.Bindings.{Bindings}
use Rattle.sml_expansion.specs.Scoped.{latest}
use Rattle.sml_expansion.specs.Terms as term
use Rattle.sml_expansion.specs.Terms.{Term, node_of, place_at}

-- What declarations bind, the latest first.
pub record Env : Type 0 where
  pub values : List (ℕ × Meaning)
  pub types : List (ℕ × TypeMeaning)

abbrev pub nothing : Env
nothing = record { values = []; types = [] }

-- the first, and behind it the second
abbrev pub followed : Env → Env → Env
followed a b = record { values = b.values ++ a.values; types = b.types ++ a.types }

-- The texts of the program's names, what is bound, and the type variables in scope with their numbers, the latest first.
pub record Scope : Type 0 where
  pub names : List (List ℕ)
  pub env : Env
  pub tyvars : List (ℕ × ℕ)

abbrev pub within : Scope → Env → Scope
within s e = record s { env = followed s.env e }

abbrev pub with_tyvars : Scope → List (ℕ × ℕ) → Scope
with_tyvars s tyvars = record s { tyvars = tyvars }

-- the scope of these bindings
abbrev pub scope_of : List (List ℕ) → Bindings → Scope
scope_of names b = record { names = names; env = record { values = b.values; types = b.types }; tyvars = b.tyvars }

-- the text of a number: a name of the program, and behind the names `=`
abbrev pub text_of : List (List ℕ) → ℕ → List ℕ
text_of names x = unwrap_or (slice_get names x) (codes "=")

-- the number of `=`
abbrev pub equals : List (List ℕ) → ℕ
equals [] = 0
equals (x ∷ names) = if bytes_eq x (codes "=") then 0 else suc (equals names)

-- what stands in scope before every program
abbrev pub base_meaning : Option Value → Option Meaning
base_meaning None = None
base_meaning (Some (base.Constructor c)) = Some (Constructor c)
base_meaning (Some (base.Builtin p)) = Some (Builtin p)

abbrev pub base_type_meaning : Option BaseType → Option TypeMeaning
base_type_meaning None = None
base_type_meaning (Some (kind.Named n)) = Some (TypeName n)
base_type_meaning (Some kind.Unit) = Some EmptyRecord

abbrev pub or_else : {A : Type 0} → Option A → Option A → Option A
or_else None o = o
or_else (Some x) o = Some x

abbrev pub base_value : List ℕ → Option Meaning
base_value text = base_meaning (value_of (unwrap_or (short_of text) text))

abbrev pub base_type : List ℕ → Option TypeMeaning
base_type text = base_type_meaning (type_of text)

-- what an identifier stands for
abbrev pub meaning_of : Scope → ℕ → Option Meaning
meaning_of s x = or_else (latest s.env.values x) (base_value (text_of s.names x))

abbrev pub type_meaning_of : Scope → ℕ → Option TypeMeaning
type_meaning_of s x = or_else (latest s.env.types x) (base_type (text_of s.names x))

-- the number of the text of an identifier's node; what is no identifier counts as `=`
abbrev pub key_of : List (List ℕ) → TreeNode → ℕ
key_of names (node.Vid x) = x.0
key_of names (node.LongVid x) = x.0
key_of names (node.TyCon x) = x.0
key_of names (node.LongTyCon x) = x.0
key_of names (node.TyVar x) = x.0
key_of names (node.Label x) = x.0
key_of names _ = equals names

abbrev pub is_long : TreeNode → Bool
is_long (node.LongVid x) = true
is_long (node.LongTyCon x) = true
is_long _ = false

-- the identifier at a node, perhaps behind an `op`, with the place of its token. A long one of the user's files is never bound; in the library it is an identifier as any other.
abbrev pub ident : List (List ℕ) → Term → Ident
ident names (term.one node.Op p a) = ident names a
ident names t = record { key = key_of names (node_of t); long = is_long (node_of t) && is_user (place_at t); place = place_at t }

-- `true false nil :: ref` and `=`, which aren't bound again
abbrev pub is_fixed : List ℕ → Bool
is_fixed x = list_any (bytes_eq x) (codes "true" ∷ codes "false" ∷ codes "nil" ∷ codes "::" ∷ codes "ref" ∷ codes "=" ∷ [])

-- ---- Long identifiers

-- the number of a text among the names, if it is one of them
abbrev pub number_of : List (List ℕ) → List ℕ → Option ℕ
number_of names text = position_from (λ t. bytes_eq t text) 0 names

-- what is bound to a number, if there is a number
abbrev pub latest_at : List (ℕ × Meaning) → Option ℕ → Option Meaning
latest_at values (Some x) = latest values x
latest_at values None = None

-- a number with what it stands for, if there are both
abbrev pub also : Option ℕ → Option Meaning → List (ℕ × Meaning) → List (ℕ × Meaning)
also (Some x) (Some m) values = (x, m) ∷ values
also x m values = values

-- for each row in order, its first text stands for what its second one is bound to
abbrev pub renamed : List (List ℕ) → List (List ℕ × List ℕ) → List (ℕ × Meaning) → List (ℕ × Meaning)
renamed names [] values = values
renamed names (r ∷ rows) values = renamed names rows (also (number_of names r.0) (latest_at values (number_of names r.1)) values)

-- Behind the library's declarations each long identifier stands for what its short one is bound to, and still does where the user binds the short one again.
abbrev pub with_long_identifiers : Scope → Scope
with_long_identifiers s = record s { env = record { values = renamed s.names long_identifiers s.env.values; types = s.env.types } }
