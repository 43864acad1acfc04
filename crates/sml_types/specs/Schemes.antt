-- The schemes of a program's names.
use Rattle.std.specs.Prelude.{◌≡◌, ℕ, Some, List, slice_get}
use Rattle.smlc_base.specs.declared.names.Name.{Name}
use Rattle.sml_types.specs.declared.types.TyForm.{TyForm}
use Rattle.sml_types.specs.declared.scheme.Scheme.{Scheme}
use Rattle.sml_types.specs.declared.scheme.NameScheme.{NameScheme}
use Rattle.sml_types.specs.Forms.{tree}
use Rattle.sml_types.specs.Poly.{Poly, poly}

-- the scheme of each name stands at its number
abbrev pub AreOrdered : List NameScheme → Type 0
AreOrdered schemes = (i : ℕ) (s : NameScheme) → slice_get schemes i ≡ Some s → s.name.0 ≡ i

-- the scheme that stands with a name
abbrev pub IsSchemeOf : List NameScheme → Name → Scheme → Type 0
IsSchemeOf schemes name s = slice_get schemes name.0 ≡ Some (record { name = name; scheme = s })

-- the scheme as it is meant
abbrev pub scheme_poly : List TyForm → Scheme → Poly
scheme_poly forms s = poly s.vars (tree forms s.body.0)
