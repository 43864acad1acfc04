-- The entries of a typed program's names.
use Rattle.std.specs.Prelude.{Option, Some, None, List, [], get_or, slice_get}
use Rattle.smlc_base.specs.declared.names.Name.{Name}
use Rattle.sml_types.specs.declared.scheme.NameScheme.{NameScheme}
use Rattle.sml_types.specs.declared.types.TyForm.{TyForm}
use Rattle.sml_types.specs.declared.typed.Typed.{Typed}
use Rattle.sml_types.specs.Tree.{NoParts}
use Rattle.sml_types.specs.Poly.{Poly, poly}
use Rattle.sml_types.specs.Schemes.{scheme_poly}
use Rattle.type_text.specs.Text.{Entry}

abbrev pub poly_of : List TyForm → Option NameScheme → Poly
poly_of forms None = poly [] NoParts
poly_of forms (Some s) = scheme_poly forms s.scheme

-- the spelling of a name with its scheme
abbrev pub entry_of : Typed → Name → Entry
entry_of typed name = record { spelling = get_or typed.bare.names name.0 []; scheme = poly_of typed.types (slice_get typed.schemes name.0) }
