-- The tokens of a list of files, and with what it is refused.
use Rattle.std.specs.Prelude.{◌≡◌, ℕ, suc, ◌+◌, ◌≤◌, ◌<◌, List, [], ◌∷◌, ◌++◌, length}
use Rattle.std.specs.List.{AllByRecursion}
use Rattle.smlc_base.specs.declared.place.Place.{Place}
use Rattle.smlc_base.specs.declared.refusal.Refusal.{Refusal}
use Rattle.smlc_base.specs.declared.refusal.Refusal.TheVariants as refusal
use Rattle.sml_lexer.specs.declared.token.Token.{Token}
use Rattle.sml_lexer.specs.Drafts.{refusal_of}
use Rattle.sml_lexer.specs.Places.{place_behind}
use Rattle.sml_lexer.specs.Shown.{ShowAll}
use Rattle.sml_lexer.specs.Tokens.{Lexeme, AreTokens, Fault, IsFirstFault}

-- the bytes of the files in all
abbrev pub total : List (List ℕ) → ℕ
total [] = 0
total (bytes ∷ files) = length bytes + total files

-- the most bytes that the files may have in all
abbrev pub limit : ℕ
limit = 1048576

-- Each file is cut into tokens by itself, and the tokens are joined in the order of the files, which are numbered from n.
pub data AreFiles (names texts : List (List ℕ)) : ℕ → List (List ℕ) → List Token → Type 0 where
  none : (n : ℕ) → AreFiles names texts n [] []
  file : (n : ℕ) (bytes : List ℕ) (files : List (List ℕ)) (ts us : List Token) (ls : List Lexeme) → AreTokens bytes ls → ShowAll n names texts ts ls → AreFiles names texts (suc n) files us
      → AreFiles names texts n (bytes ∷ files) (ts ++ us)

-- what the files are cut into, each by itself, joined in their order
pub data AreCut : List (List ℕ) → List Lexeme → Type 0 where
  none : AreCut [] []
  file : (bytes : List ℕ) (files : List (List ℕ)) (ls ms : List Lexeme) → AreTokens bytes ls → AreCut files ms → AreCut (bytes ∷ files) (ls ++ ms)

-- the place behind the last byte of the last file, `start` without files
abbrev pub end_of : Place → ℕ → List (List ℕ) → Place
end_of start n [] = start
end_of start n (bytes ∷ files) = end_of (place_behind n bytes) (suc n) files

-- a file has tokens
abbrev pub HasTokens : List ℕ → Type 0
HasTokens bytes = (ls : List Lexeme) × AreTokens bytes ls

-- With what the files are refused, which are numbered from `first`.
pub data IsRefusal (first : ℕ) (files : List (List ℕ)) : Refusal → Type 0 where
  -- the files pass the limit in this one
  too_long : (before : List (List ℕ)) (file : List ℕ) (after : List (List ℕ)) → files ≡ before ++ file ∷ after → total before ≤ limit → limit < total before + length file
      → IsRefusal first files (refusal.TooLong (record { file = length before + first; line = 1; col = 1 }))
  -- they don't, each file before this one has tokens, and this is its first fault
  fault : (before : List (List ℕ)) (file : List ℕ) (after : List (List ℕ)) (f : Fault) → files ≡ before ++ file ∷ after → total files ≤ limit → AllByRecursion HasTokens before → IsFirstFault file f
      → IsRefusal first files (refusal_of f.why (place_behind (length before + first) f.at))
