-- The library's rows say what the library is.
use Rattle.std.proofs.Common.{◌≡◌, false, refl}
use Rattle.sml_types.specs.declared.types.TyVar.{TyVar}
use Rattle.sml_types.specs.Forms.{trees, tree}
use Rattle.sml_types.specs.Library.{BeginsWithLibrary}
use Rattle.infer_parts.specs.LibraryRows.{library_forms, library_rows}

pub library_there : (a : TyVar) → a.eq ≡ false → BeginsWithLibrary (library_forms a) (library_rows a)
unfolding trees tree
library_there a plain = record { param = a; plain = plain; rows = refl }
