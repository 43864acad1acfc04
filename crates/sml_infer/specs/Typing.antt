-- What inference answers.
use Rattle.std.specs.Prelude.{◌≡◌, ℕ, Some, length, slice_get}
use Rattle.smlc_base.specs.declared.refusal.Refusal.TheVariants.{BadType}
use Rattle.smlc_base.specs.declared.refusal.CompileError.{CompileError}
use Rattle.smlc_base.specs.declared.refusal.CompileError.TheVariants.{Refused, NoMemory}
use Rattle.smlc_base.specs.declared.place.Place.{Place}
use Rattle.sml_tree.specs.declared.bare.Bare.{Bare}
use Rattle.sml_types.specs.declared.typed.Typed.{Typed}
use Rattle.sml_types.specs.declared.scheme.NameScheme.{NameScheme}
use Rattle.sml_types.specs.Library.{name_types}
use Rattle.sml_types.specs.Schemes.{scheme_poly}
use Rattle.sml_types.specs.Typing.{Typing, IsBadDeclaration}
use Rattle.infer_laws.specs.Principal.{IsPrincipal}

-- a program with the schemes and tables of a principal typing
pub record IsInferred (p : Bare) (typed : Typed) : Type 0 where
  pub bare : typed.bare ≡ p
  pub typing : Typing
  pub principal : IsPrincipal p typing (length p.nodes)
  pub rows : name_types typed.types typed.tables.names ≡ name_types typing.forms typing.names
  pub schemes : (x : ℕ) (s : NameScheme) → slice_get typed.schemes x ≡ Some s → scheme_poly typed.types s.scheme ≡ typing.schemes x

-- the first declaration without a typing stands at a place
pub record IsBadAt (p : Bare) (place : Place) : Type 0 where
  pub dec : ℕ
  pub bad : IsBadDeclaration p dec
  pub root : ℕ
  pub rooted : slice_get p.decs dec ≡ Some root
  pub stands : slice_get p.places root ≡ Some place

-- want of memory, or a refusal at the first declaration without a typing
abbrev pub Fails : Bare → CompileError → Type 0
Fails p NoMemory = Unit {0}
Fails p (Refused (BadType place)) = IsBadAt p place
Fails p (Refused _) = ⊥
