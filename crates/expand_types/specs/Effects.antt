-- What a declaration does to the state of an expansion.
use Rattle.std.specs.Prelude.{ℕ, Bool, List, [], ◌∷◌, ◌++◌, map, reverse}
use Rattle.sml_tree.specs.declared.bare.TypeBinding.{TypeBinding}
use Rattle.sml_expansion.specs.declared.scope.Ident.{Ident}
use Rattle.sml_expansion.specs.declared.meaning.TypeMeaning.TheVariants.{Abbreviation}
use Rattle.expand_types.specs.declared.type_declarations.TypeBindings.{TypeBindings}
use Rattle.sml_expansion.specs.declared.scope.Bindings.{Bindings}
use Rattle.sml_expansion.specs.declared.mark.Mark.{Mark}
use Rattle.sml_expansion.specs.declared.meaning.Meaning.{Meaning}
use Rattle.expand_types.specs.declared.exceptions.Exceptions.{Exceptions}
use Rattle.expand_types.specs.declared.datatypes.NewConstructor.{NewConstructor}
use Rattle.expand_types.specs.declared.datatypes.Datatypes.{Datatypes}
use Rattle.sml_expansion.specs.declared.walk.Walk.{Walk}
use Rattle.sml_expansion.specs.Makings.{Makes}
use Rattle.sml_expansion.specs.declared.mark.Mark.TheVariants.{Open, Close}
use Rattle.sml_expansion.specs.Forests.{Forest, none, tree}
use Rattle.sml_expansion.specs.Marks.{marks}
use Rattle.sml_expansion.specs.Scopes.{Env}
use Rattle.sml_expansion.specs.Bindings.{Decs, TypeDecs, NewCon, DatDecs, ExDecs}

-- what was bound, and before it what a declaration binds
abbrev pub bound : Bindings → Env → Bindings
bound b e = record b { values = e.values ++ b.values; types = e.types ++ b.types }

-- what is made is kept, the trees stand behind those so far, and what is bound is in force
abbrev pub declared : Walk → Makes Decs → Walk
declared w f = let r = f w.made in record { made = r.1; bindings = bound w.bindings r.0.env; marks = w.marks ++ marks r.0.forest }

-- each tree with one more mark before it, for the node that it stands under
abbrev pub leads : Forest → List Mark
leads none = []
leads (tree n p parts rest) = Open ∷ Open ∷ (marks parts ++ Close n p ∷ leads rest)

-- the same with that mark before each tree
abbrev pub led : Walk → Makes Decs → Walk
led w f = let r = f w.made in record { made = r.1; bindings = bound w.bindings r.0.env; marks = w.marks ++ leads r.0.forest }

-- what `type` bindings come to, where those that are kept in order are shown the latest first
abbrev pub types_shown : TypeBindings → TypeDecs
types_shown b = record { bindings = b.bindings; idents = b.idents; types = reverse b.types }

abbrev pub types_behind : TypeDecs → TypeDecs → TypeDecs
types_behind x y = record { bindings = x.bindings ++ y.bindings; idents = x.idents ++ y.idents; types = y.types ++ x.types }

abbrev pub one_type_binding : Ident → TypeBinding → TypeDecs
one_type_binding i b = record { bindings = b ∷ []; idents = i ∷ []; types = (i.key, Abbreviation b.number) ∷ [] }

-- the constructors of a datatype
abbrev pub new_cons : List NewConstructor → List NewCon
new_cons cons = map (λ c. record { ident = c.ident; arg = c.arg }) cons

-- what `datatype` bindings come to, where those that are kept in order are shown the latest first
abbrev pub datatypes_shown : Datatypes → DatDecs
datatypes_shown d = record { bindings = d.bindings; idents = d.idents; values = reverse d.values }

abbrev pub datatypes_behind : DatDecs → DatDecs → DatDecs
datatypes_behind x y = record { bindings = x.bindings ++ y.bindings; idents = x.idents ++ y.idents; values = y.values ++ x.values }

-- the trees so far, and what exception bindings come to beside them, where those that are kept in order are shown the latest first
pub record SoFar : Type 0 where
  pub trees : List Mark
  pub shown : List Bool
  pub idents : List Ident
  pub values : List (ℕ × Meaning)

abbrev pub exceptions_so_far : Walk → Exceptions → SoFar
exceptions_so_far w e = record { trees = w.marks; shown = e.shown; idents = e.idents; values = reverse e.values }

abbrev pub exceptions_behind : SoFar → ExDecs → SoFar
exceptions_behind s x = record { trees = s.trees ++ leads x.forest; shown = s.shown ++ x.shown; idents = s.idents ++ x.idents; values = x.values ++ s.values }
