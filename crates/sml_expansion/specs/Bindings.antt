-- Type, datatype and exception declarations, and the names of recursive ones.
use Rattle.std.specs.Prelude.{ℕ, suc, Bool, true, false, if◌then◌else◌, List, [], ◌∷◌, ◌++◌, Option, Some, None, map, reverse}
use Rattle.smlc_base.specs.declared.place.Place.{Place}
use Rattle.smlc_base.specs.declared.refusal.Refusal.{Refusal}
use Rattle.smlc_base.specs.declared.refusal.Refusal.TheVariants as refusal
use Rattle.sml_tree.specs.declared.bare.Con.{Con}
use Rattle.sml_tree.specs.declared.bare.Con.TheVariants as con
use Rattle.sml_tree.specs.declared.bare.Node.TheVariants as bare
use Rattle.sml_tree.specs.declared.bare.TypeBinding.{TypeBinding}
use Rattle.sml_tree.specs.declared.bare.DatBinding.{DatBinding}
use Rattle.sml_tree.specs.declared.tree_node.TreeNode.TheVariants as node
use Rattle.sml_prelude.specs.Values.{takes_argument}
use Rattle.sml_expansion.specs.declared.meaning.Meaning.{Meaning}
use Rattle.sml_expansion.specs.declared.meaning.Meaning.TheVariants.{Constructor}
use Rattle.sml_expansion.specs.declared.meaning.TypeMeaning.{TypeMeaning}
use Rattle.sml_expansion.specs.declared.meaning.TypeMeaning.TheVariants.{TypeName, Abbreviation}
use Rattle.sml_expansion.specs.declared.scope.Ident.{Ident}
use Rattle.sml_expansion.specs.declared.scope.Bound.{Bound}
use Rattle.sml_expansion.specs.Terms.{Term, leaf, one, two, three, place_at}
use Rattle.sml_expansion.specs.Forests.{Forest, none, grown, ◌&◌}
use Rattle.sml_expansion.specs.Scopes.{Scope, Env, nothing, ident, text_of, meaning_of, within}
use Rattle.sml_expansion.specs.Makings.{Makes, gives, breaks, new_name, new_type_name, new_abbreviation, ◌>>=◌, ◌>>◌}
use Rattle.sml_expansion.specs.Types.{type_of}
use Rattle.sml_expansion.specs.TypeVariables.{tyvars, params, only_params, numbers_of}
use Rattle.sml_expansion.specs.Patterns.{binds, patterns, not_fixed, no_long, idents_once}

-- What declarations come to: their trees, for each whether its variables are shown, and what they bind.
pub record Decs : Type 0 where
  pub forest : Forest
  pub shown : List Bool
  pub env : Env

abbrev pub no_decs : Decs
no_decs = record { forest = none; shown = []; env = nothing }

abbrev pub one_dec : Forest → Env → Decs
one_dec f e = record { forest = f; shown = true ∷ []; env = e }

-- `type` bindings: their types see only what is bound around the declaration
pub record TypeDecs : Type 0 where
  pub bindings : List TypeBinding
  pub idents : List Ident
  pub types : List (ℕ × TypeMeaning)

abbrev pub type_bindings : Scope → Term → Makes TypeDecs
type_bindings s (three node.TypBind p vs c t) = let i = ident s.names c in do
  ps ← params s.names (tyvars s.names vs)
  ty ← type_of (only_params s ps) t
  k ← new_abbreviation
  gives (record { bindings = record { number = k; params = numbers_of ps; ty = ty } ∷ []; idents = i ∷ []; types = (i.key, Abbreviation k) ∷ [] })
type_bindings s (two node.MoreTypBinds p a b) = do
  x ← type_bindings s a
  y ← type_bindings s b
  gives (record { bindings = x.bindings ++ y.bindings; idents = x.idents ++ y.idents; types = y.types ++ x.types })
type_bindings s _ = gives (record { bindings = []; idents = []; types = [] })

abbrev pub type_dec : Scope → Place → Term → Makes Decs
type_dec s p t = do
  x ← type_bindings s t
  idents_once x.idents
  gives (one_dec (grown (bare.Type x.bindings) p none) (record { values = []; types = x.types }))

-- the type names of `datatype` bindings: identifiers and numbers
abbrev pub new_datatypes : List (List ℕ) → Term → Makes (List (Ident × ℕ))
new_datatypes names (three node.DatBind p vs c cons) = do
  k ← new_type_name
  gives ((ident names c, k) ∷ [])
new_datatypes names (two node.MoreDatBinds p a b) = do
  x ← new_datatypes names a
  y ← new_datatypes names b
  gives (x ++ y)
new_datatypes names _ = gives []

-- a constructor of a datatype, and the type of its argument
pub record NewCon : Type 0 where
  pub ident : Ident
  pub arg : Option ℕ

abbrev pub constructors : Scope → Term → Makes (List NewCon)
constructors s (one node.ConBind p v) = gives (record { ident = ident s.names v; arg = None } ∷ [])
constructors s (two node.ConBindOf p v t) = do
  ty ← type_of s t
  gives (record { ident = ident s.names v; arg = Some ty } ∷ [])
constructors s (two node.MoreConBinds p a b) = do
  x ← constructors s a
  y ← constructors s b
  gives (x ++ y)
constructors s _ = gives []

abbrev pub has : Option ℕ → Bool
has None = false
has (Some t) = true

-- what the constructors of the type name k stand for, where the first has number i
abbrev pub con_meanings : ℕ → ℕ → List NewCon → List (ℕ × Meaning)
con_meanings k i [] = []
con_meanings k i (c ∷ cons) = (c.ident.key, Constructor (con.Data k i (has c.arg))) ∷ con_meanings k (suc i) cons

pub record DatDecs : Type 0 where
  pub bindings : List DatBinding
  pub idents : List Ident
  pub values : List (ℕ × Meaning)

abbrev pub datatype_of : List (List ℕ) → ℕ → Ident → List (ℕ × ℕ) → List NewCon → DatDecs
datatype_of names k i ps cons = record {
  bindings = record { type_name = k; text = text_of names i.key; params = numbers_of ps; cons = map (λ c. record { text = text_of names c.ident.key; arg = c.arg }) cons } ∷ [];
  idents = map (λ c. c.ident) cons;
  values = reverse (con_meanings k 0 cons);
}

-- `datatype` bindings, of which the first has the type name k
abbrev pub datatypes : Scope → ℕ → Term → Makes DatDecs
datatypes s k (three node.DatBind p vs c cons) = do
  ps ← params s.names (tyvars s.names vs)
  x ← constructors (only_params s ps) cons
  gives (datatype_of s.names k (ident s.names c) ps x)
datatypes s k (two node.MoreDatBinds p a b) = do
  x ← datatypes s k a
  y ← datatypes s (suc k) b
  gives (record { bindings = x.bindings ++ y.bindings; idents = x.idents ++ y.idents; values = y.values ++ x.values })
datatypes s k _ = gives (record { bindings = []; idents = []; values = [] })

abbrev pub type_env : List (Ident × ℕ) → Env
type_env news = record { values = []; types = reverse (map (λ n. (n.0.key, TypeName n.1)) news) }

abbrev pub first_number : List (Ident × ℕ) → ℕ
first_number [] = 0
first_number (n ∷ news) = n.1

abbrev pub none_fixed : List (List ℕ) → List Ident → Makes (Unit {0})
none_fixed names [] = gives tt
none_fixed names (i ∷ idents) = do
  not_fixed names i
  none_fixed names idents

-- the types of a datatype declaration see its type names
abbrev pub datatype_dec : Scope → Place → Term → Makes Decs
datatype_dec s p t = do
  news ← new_datatypes s.names t
  idents_once (map (λ n. n.0) news)
  x ← datatypes (within s (type_env news)) (first_number news) t
  none_fixed s.names x.idents
  idents_once x.idents
  gives (one_dec (grown (bare.Datatype x.bindings) p none) (record { values = x.values; types = (type_env news).types }))

-- exception bindings: one node each
pub record ExDecs : Type 0 where
  pub forest : Forest
  pub shown : List Bool
  pub idents : List Ident
  pub values : List (ℕ × Meaning)

abbrev pub exception_of : Place → Ident → ℕ → Option ℕ → ExDecs
exception_of p i x arg = record {
  forest = grown (bare.Exception (record { 0 = x }) arg) p none;
  shown = true ∷ [];
  idents = i ∷ [];
  values = (i.key, Constructor (con.Exn (record { 0 = x }) (has arg))) ∷ [];
}

-- what names no exception constructor can't be renamed, and has no typing
abbrev pub is_exception : Con → Bool
is_exception (con.Exn x takes) = true
is_exception (con.Library e) = true
is_exception _ = false

abbrev pub renaming_of : Place → Ident → ℕ → Option Meaning → ExDecs
renaming_of p i x (Some (Constructor c)) = if is_exception c then (record {
  forest = grown (bare.SameException (record { 0 = x }) c) p none;
  shown = true ∷ [];
  idents = i ∷ [];
  values = (i.key, Constructor (con.Exn (record { 0 = x }) (takes_argument c))) ∷ [];
})
    else (record {
      forest = grown (bare.NoException (record { 0 = x })) p none;
      shown = true ∷ [];
      idents = i ∷ [];
      values = (i.key, Constructor (con.Exn (record { 0 = x }) false)) ∷ [];
    })
renaming_of p i x m = record {
  forest = grown (bare.NoException (record { 0 = x })) p none;
  shown = true ∷ [];
  idents = i ∷ [];
  values = (i.key, Constructor (con.Exn (record { 0 = x }) false)) ∷ [];
}

abbrev pub unbound : Option Meaning → Ident → List Refusal
unbound None i = refusal.Unbound i.place ∷ []
unbound (Some m) i = []

abbrev pub exceptions : Scope → Place → Term → Makes ExDecs
exceptions s p (one node.ExBind q v) = let i = ident s.names v in do
  x ← new_name (text_of s.names i.key)
  gives (exception_of p i x None)
exceptions s p (two node.ExBindOf q v t) = let i = ident s.names v in do
  x ← new_name (text_of s.names i.key)
  ty ← type_of s t
  gives (exception_of p i x (Some ty))
exceptions s p (two node.ExBindIs q v w) = let i = ident s.names v in let j = ident s.names w in do
  x ← new_name (text_of s.names i.key)
  breaks (unbound (meaning_of s j.key) j)
  gives (renaming_of p i x (meaning_of s j.key))
exceptions s p (two node.MoreExBinds q a b) = do
  x ← exceptions s p a
  y ← exceptions s p b
  gives (record { forest = x.forest & y.forest; shown = x.shown ++ y.shown; idents = x.idents ++ y.idents; values = y.values ++ x.values })
exceptions s p _ = gives (record { forest = none; shown = []; idents = []; values = [] })

abbrev pub exception_dec : Scope → Place → Term → Makes Decs
exception_dec s p t = do
  x ← exceptions s p t
  none_fixed s.names x.idents
  idents_once x.idents
  gives (record { forest = x.forest; shown = x.shown; env = record { values = x.values; types = [] } })

-- an identifier that a recursive binding names
abbrev pub rec_ident : Scope → Ident → Makes (List Bound)
rec_ident s i =
    if i.long then (do
      breaks (no_long (meaning_of s i.key) i ∷ [])
      gives [])
    else (do
      v ← binds s.names i
      gives (v ∷ []))

-- The name of a recursive binding, whose pattern is an identifier, perhaps typed, and stands in the pattern w.
abbrev pub rec_name : Scope → Term → Term → Makes (List Bound)
rec_name s w (two node.TypedPat p a t) = rec_name s w a
rec_name s w (leaf (node.Vid x) p) = rec_ident s (ident s.names (leaf (node.Vid x) p))
rec_name s w (leaf node.VidEquals p) = rec_ident s (ident s.names (leaf node.VidEquals p))
rec_name s w (leaf (node.LongVid x) p) = rec_ident s (ident s.names (leaf (node.LongVid x) p))
rec_name s w (one node.Op p a) = rec_ident s (ident s.names a)
rec_name s w _ = do
  breaks (refusal.BadBinding (place_at w) ∷ [])
  x ← patterns s w
  gives x.vars

-- The names of the recursive bindings of a value declaration: those behind its first `rec`.
abbrev pub rec_names : Scope → Bool → Term → Makes (List Bound)
rec_names s inside (one node.Rec p a) = rec_names s true a
rec_names s true (two node.ValBind p a e) = rec_name s a a
rec_names s inside (two node.MoreValBinds p a b) = do
  x ← rec_names s inside a
  y ← rec_names s inside b
  gives (x ++ y)
rec_names s inside _ = gives []

-- the types of a pattern, the outermost first; they are numbered in the order of the text
abbrev pub annotations : Scope → Term → Makes (List ℕ)
annotations s (two node.TypedPat p a t) = do
  types ← annotations s a
  ty ← type_of s t
  gives (ty ∷ types)
annotations s _ = gives []

-- `fn`, perhaps parenthesised or typed
abbrev pub is_typed_fn : Term → Bool
is_typed_fn (one node.Fn p m) = true
is_typed_fn (one node.Paren p a) = is_typed_fn a
is_typed_fn (two node.Typed p a t) = is_typed_fn a
is_typed_fn _ = false

abbrev pub fn_on_the_right : Term → List Refusal
fn_on_the_right e = if is_typed_fn e then [] else refusal.BadBinding (place_at e) ∷ []
