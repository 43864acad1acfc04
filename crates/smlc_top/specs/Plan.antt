-- The text of the plan of a program.
use Rattle.std.specs.Prelude.{ℕ, ◌≡◌, List}
use Rattle.smlc_base.specs.declared.refusal.Refusal.{Refusal}
use Rattle.sml_types.specs.declared.typed.Typed.{Typed}
use Rattle.sml_pipeline.specs.Passes.{IsPlanText}
use Rattle.smlc_top.specs.declared.types.Shown.{Shown}
use Rattle.smlc_top.specs.declared.types.Shown.TheVariants.{Text, Refused, NoMemory}
use Rattle.smlc_top.specs.Front.{HasTypes, IsUntyped}
use Rattle.smlc_jobs.specs.Texts.{refused_line}

-- the files have a principal typing, and the text is that of the plan of what the passes make of their tree and its type names
pub record Plans (files : List (List ℕ)) (text : List ℕ) : Type 0 where
  pub typed : Typed
  pub types : HasTypes files typed
  pub plan : IsPlanText typed.tables.names typed.bare text

-- the text of the files' plan, the line of their refusal, or want of memory
abbrev pub IsPlanned : List (List ℕ) → List (List ℕ) → Shown → Type 0
IsPlanned names files (Text text) = Plans files text.items
IsPlanned names files (Refused line) = (refusal : Refusal) × IsUntyped files refusal × (line.items ≡ refused_line names refusal)
IsPlanned names files NoMemory = Unit {0}

-- the text of a typed tree's plan, or want of memory
abbrev pub IsPlanOf : Typed → Shown → Type 0
IsPlanOf typed (Text text) = IsPlanText typed.tables.names typed.bare text.items
IsPlanOf typed (Refused line) = ⊥
IsPlanOf typed NoMemory = Unit {0}
