-- What it is for a tree to be the parse of tokens, and why tokens have none.
use Rattle.std.specs.Prelude.{◌≡◌, ℕ, ◌+◌, nat_lt, true, false, take, get_or, Option, Some, None, List, []}
use Rattle.std.specs.List.{position_from}
use Rattle.smlc_base.specs.declared.place.Place.{Place}
use Rattle.smlc_base.specs.declared.refusal.Banned.{Banned}
use Rattle.smlc_base.specs.declared.refusal.CompileError.{CompileError}
use Rattle.smlc_base.specs.declared.refusal.CompileError.TheVariants as error
use Rattle.smlc_base.specs.declared.refusal.Refusal.{Refusal}
use Rattle.smlc_base.specs.declared.refusal.Refusal.TheVariants as refusal
use Rattle.sml_lexer.specs.declared.lexed.Lexed.{Lexed}
use Rattle.sml_tree.specs.declared.tree.Tree.{Tree}
use Rattle.sml_tree.specs.Tree.{roots}
use Rattle.sml_syntax.specs.declared.forms.Made.{Made}
use Rattle.sml_syntax.specs.Grammar.{Begins, Parses}
use Rattle.sml_fixity.specs.Banned.{banned_at}
use Rattle.sml_tree.specs.Depth.{depths}
use Rattle.sml_fixity.specs.Nodes.{bare, places, starts_of}
use Rattle.sml_fixity.specs.Starting.{starting}
use Rattle.sml_fixity.specs.Stops.{StopsAt}
use Rattle.sml_fixity.specs.Terminals.{terminals}

-- the tokens are a program with these nodes
abbrev pub IsProgram : Lexed → List Made → Type 0
IsProgram lexed made = Parses false (starting lexed.names) (terminals lexed.names lexed.tokens) made

-- where each of the nodes begins
abbrev pub starts : Lexed → List Made → List Place
starts lexed made = starts_of (places lexed.tokens lexed.end) lexed.end [] made

-- the first declaration of depth above 1,024
abbrev pub first_deep : List Made → Option ℕ
first_deep made = position_from (nat_lt 1024) 0 (depths [] (bare made))

-- the tree of the tokens, with their names and texts
pub record IsParse (lexed : Lexed) (tree : Tree) : Type 0 where
  pub made : List Made
  pub program : IsProgram lexed made
  pub nodes : tree.nodes ≡ bare made
  pub places : tree.places ≡ starts lexed made
  pub decs : roots 0 [] tree.nodes ≡ Some tree.decs
  pub names : tree.names ≡ lexed.names
  pub texts : tree.texts ≡ lexed.texts
  pub shallow : first_deep made ≡ None

-- the tokens before number i begin a program, and with it, or the end, they begin none
abbrev pub StopsBefore : Lexed → ℕ → Type 0
StopsBefore lexed i = StopsAt (starting lexed.names) (terminals lexed.names lexed.tokens) i

-- with it they would begin one if operators of one precedence that associate in different ways were grouped to the left
abbrev pub GoesOnGrouped : Lexed → ℕ → Type 0
GoesOnGrouped lexed i = Begins true (starting lexed.names) (take (i + 1) (terminals lexed.names lexed.tokens))

-- the place of a token, or of the end
abbrev pub place_at : Lexed → ℕ → Place
place_at lexed i = get_or (places lexed.tokens lexed.end) i lexed.end

-- With what the tokens are refused.
pub data IsRefusal (lexed : Lexed) : Refusal → Type 0 where
  syntax_error : (i : ℕ) → StopsBefore lexed i → (GoesOnGrouped lexed i → ⊥) → banned_at lexed.tokens i ≡ None → IsRefusal lexed (refusal.Syntax (place_at lexed i))
  mixed_fixity : (i : ℕ) → StopsBefore lexed i → GoesOnGrouped lexed i → IsRefusal lexed (refusal.MixedFixity (place_at lexed i))
  not_in_subset : (i : ℕ) (form : Banned) → StopsBefore lexed i → (GoesOnGrouped lexed i → ⊥) → banned_at lexed.tokens i ≡ Some form → IsRefusal lexed (refusal.NotInSubset (place_at lexed i) form)
  -- at the first token of the first declaration that is too deep
  too_deep : (made : List Made) (decs : List ℕ) (k : ℕ) → IsProgram lexed made → roots 0 [] (bare made) ≡ Some decs → first_deep made ≡ Some k → IsRefusal lexed (refusal.TooDeep (get_or (starts lexed made) (get_or decs k 0) lexed.end))

-- want of memory, or a refusal of the tokens
abbrev pub Fails : Lexed → CompileError → Type 0
Fails lexed error.NoMemory = Unit {0}
Fails lexed (error.Refused r) = IsRefusal lexed r
