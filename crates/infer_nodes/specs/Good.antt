-- What has to be known before the rule of a node is asked.
use Rattle.std.specs.Prelude.{◌≡◌, ℕ, Some, List, slice_get}
use Rattle.std.specs.List.{AllByRecursion}
use Rattle.sml_tree.specs.declared.bare.Bare.{Bare}
use Rattle.sml_tree.specs.declared.bare.TypeExp.{TypeExp}
use Rattle.sml_tree.specs.IsBare.{TypeStands}
use Rattle.sml_types.specs.declared.types.Ty.{Ty}
use Rattle.sml_types.specs.declared.types.TyForm.{TyForm}
use Rattle.sml_types.specs.declared.tables.ConRow.{ConRow}
use Rattle.sml_types.specs.declared.tables.TypeName.{TypeName}
use Rattle.sml_types.specs.Forms.{tree}
use Rattle.sml_types.specs.Typing.{Covers}
use Rattle.infer_parts.specs.Written.{IsClosedScheme, AreTypeRows}
use Rattle.infer_parts.specs.Rounds.{AreArgumentsThere}
use Rattle.infer_state.specs.declared.declared.Declared.{Declared}
use Rattle.infer_nodes.specs.Made.{AreArgumentsCovered}

-- the written types of a bare tree have smaller parts, and record types have their places
pub record AreTypesGood (p : Bare) : Type 0 where
  pub stand : (i : ℕ) (e : TypeExp) → slice_get p.types i ≡ Some e → TypeStands p i e
  pub rows : AreTypeRows p.types

-- the arguments of constructors and the type functions stand in the forms, with no variables but their parameters
pub record AreDeclaredIn (forms : List TyForm) (d : Declared) : Type 0 where
  pub there : AreArgumentsThere forms d.tables.names
  pub covered : AreArgumentsCovered forms d.tables.names
  pub closed : AllByRecursion (IsClosedScheme forms) d.abbreviations
