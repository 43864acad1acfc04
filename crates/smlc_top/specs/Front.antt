-- From files to their bare tree, and to their types.
use Rattle.std.specs.Prelude.{ℕ, List, [], ◌∷◌}
use Rattle.smlc_base.specs.declared.place.Place.{Place}
use Rattle.smlc_base.specs.declared.refusal.Refusal.{Refusal}
use Rattle.smlc_base.specs.declared.refusal.Refusal.TheVariants.{BadType}
use Rattle.smlc_base.specs.declared.refusal.CompileError.{CompileError}
use Rattle.smlc_base.specs.declared.refusal.CompileError.TheVariants as error
use Rattle.sml_lexer.specs.declared.lexed.Lexed.{Lexed}
use Rattle.sml_lexer.specs.Programs.{IsLexed}
use Rattle.sml_lexer.specs.Files as tokens
use Rattle.sml_fixity.specs.Parse.{IsParse}
use Rattle.sml_fixity.specs.Parse as syntax
use Rattle.sml_prelude.specs.Text.{library_text}
use Rattle.sml_expansion.specs.Whole.{IsExpansion}
use Rattle.sml_expansion.specs.Whole as bindings
use Rattle.sml_tree.specs.declared.tree.Tree.{Tree}
use Rattle.sml_tree.specs.declared.bare.Bare.{Bare}
use Rattle.sml_types.specs.declared.typed.Typed.{Typed}
use Rattle.sml_infer.specs.Typing.{IsInferred, IsBadAt}

-- ---- the library

-- this is the parse of the library's text, which is file 0
pub record IsLibrary (library : Tree) : Type 0 where
  pub lexed : Lexed
  pub lexes : IsLexed [] [] 0 (library_text ∷ []) lexed
  pub parses : IsParse lexed library

-- the library's text has no parse; it has one, so no refusal is of this kind
pub data IsLibraryRefusal : Refusal → Type 0 where
  by_tokens : (r : Refusal) → tokens.IsRefusal 0 (library_text ∷ []) r → IsLibraryRefusal r
  by_syntax : (lexed : Lexed) (r : Refusal) → IsLexed [] [] 0 (library_text ∷ []) lexed → syntax.IsRefusal lexed r → IsLibraryRefusal r

-- ---- the bare tree

-- The files, which are numbered from 1, have tokens, whose names and texts stand behind the library's. These are a program, and its bare tree, with the library's declarations before its own, is this one.
pub record HasTree (files : List (List ℕ)) (bare : Bare) : Type 0 where
  pub library : Tree
  pub lexed : Lexed
  pub tree : Tree
  pub stands : IsLibrary library
  pub lexes : IsLexed library.names library.texts 1 files lexed
  pub parses : IsParse lexed tree
  pub expands : IsExpansion library tree bare

-- With what files are refused that have no bare tree.
pub data IsRefusal (files : List (List ℕ)) : Refusal → Type 0 where
  by_library : (r : Refusal) → IsLibraryRefusal r → IsRefusal files r
  by_tokens : (r : Refusal) → tokens.IsRefusal 1 files r → IsRefusal files r
  by_syntax : (library : Tree) (lexed : Lexed) (r : Refusal) → IsLibrary library → IsLexed library.names library.texts 1 files lexed → syntax.IsRefusal lexed r → IsRefusal files r
  by_bindings : (library : Tree) (lexed : Lexed) (tree : Tree) (r : Refusal) → IsLibrary library → IsLexed library.names library.texts 1 files lexed → IsParse lexed tree → bindings.IsRefusal library tree r → IsRefusal files r

-- want of memory, or a refusal of the library's text
abbrev pub LibraryFails : CompileError → Type 0
LibraryFails error.NoMemory = Unit {0}
LibraryFails (error.Refused r) = IsLibraryRefusal r

-- want of memory, or a refusal of the files
abbrev pub Fails : List (List ℕ) → CompileError → Type 0
Fails files error.NoMemory = Unit {0}
Fails files (error.Refused r) = IsRefusal files r

-- ---- the types

-- the bare tree of the files, with the schemes and tables of a principal typing
pub record HasTypes (files : List (List ℕ)) (typed : Typed) : Type 0 where
  pub tree : HasTree files typed.bare
  pub inferred : IsInferred typed.bare typed

-- With what files are refused that have no typing: they have no bare tree, or it has a first declaration without a typing, at this place.
pub data IsUntyped (files : List (List ℕ)) : Refusal → Type 0 where
  by_front : (r : Refusal) → IsRefusal files r → IsUntyped files r
  by_types : (bare : Bare) (place : Place) → HasTree files bare → IsBadAt bare place → IsUntyped files (BadType place)

-- want of memory, or a refusal of the files
abbrev pub TypesFail : List (List ℕ) → CompileError → Type 0
TypesFail files error.NoMemory = Unit {0}
TypesFail files (error.Refused r) = IsUntyped files r
