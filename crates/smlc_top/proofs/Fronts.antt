-- refusals of the front end and of inference, from those of their parts
use Rattle.std.proofs.Common.{◌≡◌, ℕ, List, [], ◌∷◌, sym, subst, ◌∙◌}
use Rattle.smlc_base.specs.declared.refusal.Refusal.TheVariants.{BadType}
use Rattle.smlc_base.specs.declared.refusal.CompileError.{CompileError}
use Rattle.smlc_base.specs.declared.refusal.CompileError.TheVariants as error
use Rattle.sml_lexer.specs.declared.lexed.Lexed.{Lexed}
use Rattle.sml_lexer.specs.Programs.{IsLexed, IsRefused}
use Rattle.sml_fixity.specs.Parse.{IsParse}
use Rattle.sml_fixity.specs.Parse as syntax
use Rattle.sml_expansion.specs.Whole as bindings
use Rattle.sml_tree.specs.declared.tree.Tree.{Tree}
use Rattle.sml_tree.specs.declared.bare.Bare.{Bare}
use Rattle.sml_types.specs.declared.typed.Typed.{Typed}
use Rattle.sml_infer.specs.Typing.{IsInferred}
use Rattle.sml_infer.specs.Typing as types
use Rattle.sml_prelude.specs.Text.{library_text}
use Rattle.smlc_top.specs.Front as front
use Rattle.smlc_top.specs.Front.{IsLibrary, LibraryFails, HasTree, Fails, HasTypes, by_front, by_types, TypesFail}

-- the library's file, as its text
pub library_lexed : (names files : List (List ℕ)) (lexed : Lexed) → names ≡ [] → files ≡ library_text ∷ [] → IsLexed names [] 0 files lexed → IsLexed [] [] 0 (library_text ∷ []) lexed
library_lexed names files lexed e f h = subst (λ n. IsLexed n [] 0 (library_text ∷ []) lexed) e (subst (λ x. IsLexed names [] 0 x lexed) f h)

pub library_tokens_fail : (e : CompileError) → IsRefused 0 (library_text ∷ []) e → LibraryFails e
library_tokens_fail error.NoMemory h = tt
library_tokens_fail (error.Refused r) h = front.IsLibraryRefusal.by_tokens r h

pub library_syntax_fails : (lexed : Lexed) (e : CompileError) → IsLexed [] [] 0 (library_text ∷ []) lexed → syntax.Fails lexed e → LibraryFails e
library_syntax_fails lexed error.NoMemory lexes h = tt
library_syntax_fails lexed (error.Refused r) lexes h = front.IsLibraryRefusal.by_syntax lexed r lexes h

pub library_fails : (files : List (List ℕ)) (e : CompileError) → LibraryFails e → Fails files e
library_fails files error.NoMemory h = tt
library_fails files (error.Refused r) h = front.IsRefusal.by_library r h

pub tokens_fail : (files : List (List ℕ)) (e : CompileError) → IsRefused 1 files e → Fails files e
tokens_fail files error.NoMemory h = tt
tokens_fail files (error.Refused r) h = front.IsRefusal.by_tokens r h

pub syntax_fails : (files : List (List ℕ)) (library : Tree) (lexed : Lexed) (e : CompileError) → IsLibrary library → IsLexed library.names library.texts 1 files lexed → syntax.Fails lexed e → Fails files e
syntax_fails files library lexed error.NoMemory stands lexes h = tt
syntax_fails files library lexed (error.Refused r) stands lexes h = front.IsRefusal.by_syntax library lexed r stands lexes h

pub bindings_fail : (files : List (List ℕ)) (library : Tree) (lexed : Lexed) (tree : Tree) (e : CompileError) → IsLibrary library → IsLexed library.names library.texts 1 files lexed → IsParse lexed tree → bindings.Fails library tree e → Fails files e
bindings_fail files library lexed tree error.NoMemory stands lexes parses h = tt
bindings_fail files library lexed tree (error.Refused r) stands lexes parses h = front.IsRefusal.by_bindings library lexed tree r stands lexes parses h

-- a parse of tokens behind the library's names and texts goes on where they end
pub goes_on : (files : List (List ℕ)) (library : Tree) (lexed : Lexed) (tree : Tree) → IsLexed library.names library.texts 1 files lexed → IsParse lexed tree → bindings.Continues library tree
goes_on files library lexed tree lexes parses = record {
  names = (lexes.more_names.0, parses.names ∙ lexes.more_names.1);
  texts = (lexes.more_texts.0, parses.texts ∙ lexes.more_texts.1);
}

pub front_fails : (files : List (List ℕ)) (e : CompileError) → Fails files e → TypesFail files e
front_fails files error.NoMemory h = tt
front_fails files (error.Refused r) h = by_front r h

pub types_fail : (files : List (List ℕ)) (bare : Bare) (e : CompileError) → HasTree files bare → types.Fails bare e → TypesFail files e
types_fail files bare error.NoMemory tree h = tt
types_fail files bare (error.Refused (BadType place)) tree h = by_types bare place tree h
types_fail files bare (error.Refused r) tree h = absurd h

-- what was inferred has the tree of the files
pub has_types : (files : List (List ℕ)) (bare : Bare) (typed : Typed) → HasTree files bare → IsInferred bare typed → HasTypes files typed
has_types files bare typed tree inferred = record {
  tree = subst (λ (p : Bare). HasTree files p) (sym inferred.bare) tree;
  inferred = subst (λ (p : Bare). IsInferred p typed) (sym inferred.bare) inferred;
}
