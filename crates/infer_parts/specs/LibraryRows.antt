-- The library's type names as rows of the tables, over three forms: their parameter, a list of it, and the argument of `::`.
use Rattle.std.specs.Prelude.{ℕ, Option, Some, None, List, [], ◌∷◌, codes, pos}
use Rattle.sml_tree.specs.declared.bare.Lab.TheVariants.{Num}
use Rattle.sml_types.specs.declared.types.Ty.{Ty}
use Rattle.sml_types.specs.declared.types.TyVar.{TyVar}
use Rattle.sml_types.specs.declared.types.TyForm.{TyForm}
use Rattle.sml_types.specs.declared.types.TyForm.TheVariants.{Var, Fields, Named}
use Rattle.sml_types.specs.declared.tables.Equality.{Equality}
use Rattle.sml_types.specs.declared.tables.Equality.TheVariants.{Never, Always, Parts}
use Rattle.sml_types.specs.declared.tables.ConRow.{ConRow}
use Rattle.sml_types.specs.declared.tables.TypeName.{TypeName}

abbrev pub named_row : List ℕ → List TyVar → Equality → List ConRow → TypeName
named_row text params eq cons = record { text = text; params = params; eq = eq; cons = cons }

abbrev pub con_row : List ℕ → Option Ty → ConRow
con_row text arg = record { text = text; arg = arg }

abbrev ty : ℕ → Ty
ty i = record { 0 = i }

abbrev pub library_forms : TyVar → List TyForm
library_forms a = Var a ∷ Named 5 (ty 0 ∷ []) ∷ Fields (record { lab = Num (pos 1); ty = ty 0 } ∷ record { lab = Num (pos 2); ty = ty 1 } ∷ []) ∷ []

abbrev pub bool_row : TypeName
bool_row = named_row (codes "bool") [] Parts (con_row (codes "false") None ∷ con_row (codes "true") None ∷ [])

abbrev pub list_row : TyVar → TypeName
list_row a = named_row (codes "list") (a ∷ []) Parts (con_row (codes "nil") None ∷ con_row (codes "::") (Some (ty 2)) ∷ [])

abbrev pub option_row : TyVar → TypeName
option_row a = named_row (codes "option") (a ∷ []) Parts (con_row (codes "NONE") None ∷ con_row (codes "SOME") (Some (ty 0)) ∷ [])

abbrev pub order_row : TypeName
order_row = named_row (codes "order") [] Parts (con_row (codes "LESS") None ∷ con_row (codes "EQUAL") None ∷ con_row (codes "GREATER") None ∷ [])

abbrev pub ref_row : TyVar → TypeName
ref_row a = named_row (codes "ref") (a ∷ []) Always (con_row (codes "ref") (Some (ty 0)) ∷ [])

abbrev pub library_rows : TyVar → List TypeName
library_rows a =
    named_row (codes "int") [] Parts []
    ∷ named_row (codes "char") [] Parts []
    ∷ named_row (codes "string") [] Parts []
    ∷ named_row (codes "exn") [] Never []
    ∷ bool_row
    ∷ list_row a
    ∷ option_row a
    ∷ order_row
    ∷ ref_row a
    ∷ named_row (codes "TextIO.instream") [] Never []
    ∷ []
