-- The text of the types of a program's names.
use Rattle.std.specs.Prelude.{ℕ, ◌≡◌, List}
use Rattle.smlc_base.specs.declared.refusal.Refusal.{Refusal}
use Rattle.sml_tree.specs.declared.bare.Bare.{Bare}
use Rattle.text_laws.specs.Tells.{Tells}
use Rattle.smlc_top.specs.declared.types.Shown.{Shown}
use Rattle.smlc_top.specs.declared.types.Shown.TheVariants.{Text, Refused, NoMemory}
use Rattle.smlc_top.specs.Front.{HasTree, IsUntyped}
use Rattle.smlc_jobs.specs.Texts.{refused_line}

-- the files have a bare tree, and the text tells its types
pub record Shows (files : List (List ℕ)) (text : List ℕ) : Type 0 where
  pub bare : Bare
  pub tree : HasTree files bare
  pub tells : Tells bare text

-- the text of the files' types, the line of their refusal, or want of memory
abbrev pub IsShown : List (List ℕ) → List (List ℕ) → Shown → Type 0
IsShown names files (Text text) = Shows files text.items
IsShown names files (Refused line) = (refusal : Refusal) × IsUntyped files refusal × (line.items ≡ refused_line names refusal)
IsShown names files NoMemory = Unit {0}

-- the text of a tree's types, or want of memory
abbrev pub IsTold : Bare → Shown → Type 0
IsTold p (Text text) = Tells p text.items
IsTold p (Refused line) = ⊥
IsTold p NoMemory = Unit {0}

-- a refusal with its line, or want of memory
abbrev pub IsRefusal : List (List ℕ) → Refusal → Shown → Type 0
IsRefusal names refusal (Refused line) = line.items ≡ refused_line names refusal
IsRefusal names refusal NoMemory = Unit {0}
IsRefusal names refusal (Text text) = ⊥
