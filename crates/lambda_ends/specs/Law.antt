-- A program ends in no call.
use Rattle.std.specs.Prelude.{◌≡◌, List, false}
use Rattle.sml_tree.specs.declared.bare.Bare.{Bare}
use Rattle.sml_tree.specs.IsBare.{IsBare}
use Rattle.sml_types.specs.declared.tables.TypeName.{TypeName}
use Rattle.lambda_laws.specs.Make.{terms_of}
use Rattle.convert_laws.specs.Needs.{needs}

abbrev pub ProgramEndsInNoCall : Type 0
ProgramEndsInNoCall = (ts : List TypeName) (p : Bare) → IsBare p → needs (terms_of ts p) 0 ≡ false
