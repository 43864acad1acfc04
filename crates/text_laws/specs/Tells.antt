-- The text that tells the types of a program's names.
use Rattle.std.specs.Prelude.{ℕ, ◌≡◌, Bool, List, [], length, map, flat_map, get_or}
use Rattle.std.specs.List.{AllByRecursion}
use Rattle.sml_tree.specs.declared.bare.Bare.{Bare}
use Rattle.sml_tree.specs.IsBare.{IsBare}
use Rattle.sml_types.specs.Tree.{AllVars}
use Rattle.sml_types.specs.Typing.{Typing}
use Rattle.infer_state.specs.Names.{names_bound}
use Rattle.infer_laws.specs.Principal.{IsPrincipal}
use Rattle.type_text.specs.Text.{Entry, lines}

-- the names that the value declarations of the user's top level bind, in order
abbrev pub shown_names : Bare → List ℕ
shown_names p = flat_map (names_bound p.nodes) p.shown

-- the spelling of a name with its scheme
abbrev pub entry : Bare → Typing → ℕ → Entry
entry p t x = record { spelling = get_or p.names x []; scheme = t.schemes x }

-- a number stands for one variable in the types of these names: whether it admits equality goes by the number
abbrev pub AreMarked : Typing → (ℕ → Bool) → List ℕ → Type 0
AreMarked t marks xs = AllByRecursion (λ x. AllVars (λ v. v.eq ≡ marks v.num) (t.schemes x).body) xs

-- the text is the lines of these names with the schemes of a principal typing of the whole program
pub record Tells (p : Bare) (text : List ℕ) : Type 0 where
  pub typing : Typing
  pub principal : IsPrincipal p typing (length p.nodes)
  pub marks : ℕ → Bool
  pub marked : AreMarked typing marks (shown_names p)
  pub is : text ≡ lines typing.names (map (entry p typing) (shown_names p))

-- the types of a program are told by one text alone
abbrev pub OneText : Bare → Type 0
OneText p = (a b : List ℕ) → IsBare p → Tells p a → Tells p b → a ≡ b
