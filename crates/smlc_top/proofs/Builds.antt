-- files that were compiled or refused
use Rattle.std.proofs.Common.{List, ℕ}
use Rattle.smlc_base.specs.declared.place.Place.{Place}
use Rattle.smlc_base.specs.declared.refusal.Refusal.{Refusal}
use Rattle.elf_static.specs.declared.image.Image.{Image}
use Rattle.sml_types.specs.declared.typed.Typed.{Typed}
use Rattle.sml_pipeline.specs.Passes.{IsImageOf}
use Rattle.print_code.specs.Plain.{StopsAt}
use Rattle.smlc_top.specs.declared.build.Built.{Built}
use Rattle.smlc_top.specs.declared.build.Built.TheVariants.{Elf, Refused, NoMemory}
use Rattle.smlc_top.specs.Front.{HasTypes, IsUntyped}
use Rattle.smlc_top.specs.Build.{IsBuilt, IsMade, IsPassed, IsFileOf, IsRefusal, of_prints, of_passes}
use Rattle.smlc_top.specs.Clause.{Means}

pub refused_built : (names files : List (List ℕ)) (arena : ℕ) (refusal : Refusal) (b : Built) → IsUntyped files refusal → IsRefusal names refusal b → IsBuilt names files arena b
refused_built names files arena refusal (Refused line) is h = (refusal, is, h)
refused_built names files arena refusal NoMemory is h = tt
refused_built names files arena refusal (Elf bytes) is h = absurd h

pub made_built : (names files : List (List ℕ)) (arena : ℕ) (text : List ℕ) (b : Built) → Means files text → IsMade text b → IsBuilt names files arena b
made_built names files arena text (Elf bytes) means h = of_prints text means h
made_built names files arena text NoMemory means h = tt
made_built names files arena text (Refused line) means h = absurd h

pub passed_built : (names files : List (List ℕ)) (arena : ℕ) (typed : Typed) (place : Place) (b : Built) → HasTypes files typed → StopsAt typed.bare 0 place → IsPassed typed arena b → IsBuilt names files arena b
passed_built names files arena typed place (Elf bytes) types other h = of_passes h.0 (record { typed = typed; types = types; place = place; other = other; passed = h.1 }) h.2 h.3
passed_built names files arena typed place NoMemory types other h = tt
passed_built names files arena typed place (Refused line) types other h = absurd h

pub file_passed : (typed : Typed) (arena : ℕ) (image : Image) (b : Built) → IsImageOf typed.tables.names typed.bare arena image → IsFileOf image b → IsPassed typed arena b
file_passed typed arena image (Elf bytes) is h = (image, is, h.0, h.1)
file_passed typed arena image NoMemory is h = tt
file_passed typed arena image (Refused line) is h = absurd h
