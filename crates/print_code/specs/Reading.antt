-- What the reader of prints answers, step by step.
use Rattle.std.specs.Prelude.{◌≡◌, ℕ, ◌<◌, Bool, true, false, List, [], ◌∷◌, Option, Some, None, length, slice_get}
use Rattle.smlc_base.specs.declared.primitive.Primitive.TheVariants.{Print}
use Rattle.sml_tree.specs.declared.bare.Bare.{Bare}
use Rattle.sml_tree.specs.declared.bare.Binding.{Binding}
use Rattle.sml_tree.specs.declared.bare.Node.{Node}
use Rattle.sml_tree.specs.declared.bare.Node.TheVariants as node
use Rattle.sml_tree.specs.BareParts.{from_parts}
use Rattle.sml_tree.specs.IsBare.{nest_of}
use Rattle.print_code.specs.declared.plain.Parts.{Parts}
use Rattle.print_code.specs.declared.plain.Step.{Step}
use Rattle.print_code.specs.declared.plain.Step.TheVariants as step
use Rattle.print_code.specs.declared.plain.Reading.{Reading}
use Rattle.print_code.specs.declared.plain.Reading.TheVariants as reading
use Rattle.print_code.specs.Code.{IsStraight}
use Rattle.print_code.specs.Plain.{IsPrint, IsUser, IsLibrary, Says, StopsAt}

-- ---- what a node is made of

-- the one binding of a `val` without type variables
abbrev pub only_binding : Option Node → Option Binding
only_binding (Some (node.Val [] (b ∷ []))) = Some b
only_binding _ = None

abbrev pub is_wild : Option Node → Bool
is_wild (Some node.Wild) = true
is_wild _ = false

abbrev pub is_print : Option Node → Bool
is_print (Some (node.Builtin Print)) = true
is_print _ = false

abbrev pub applied : Option Node → Option Parts
applied (Some (node.App f a)) = Some (record { first = f; second = a })
applied _ = None

abbrev pub declared_in : Option Node → Option Parts
declared_in (Some (node.Let d rest)) = Some (record { first = d; second = rest })
declared_in _ = None

abbrev pub text_number : Option Node → Option ℕ
text_number (Some (node.Text t)) = Some t
text_number _ = None

-- ---- the walk

-- from node i on there are declarations and then the end
abbrev pub IsNest : Bare → ℕ → Type 0
IsNest p i = from_parts false nest_of p.nodes i ≡ true

-- the declaration at node i is a print, and behind it the nest goes on
pub record IsPrintAt (p : Bare) (i : ℕ) (text : List ℕ) (rest : ℕ) : Type 0 where
  pub declaration : ℕ
  pub declares : slice_get p.nodes i ≡ Some (node.Let declaration rest)
  pub user : IsUser p declaration
  pub is_print : IsPrint p declaration text
  pub further : i < rest
  pub within : rest < length p.nodes
  pub nest : IsNest p rest

-- the declaration at node i is one of the library's, and behind it the nest goes on
pub record IsLibraryAt (p : Bare) (i : ℕ) (rest : ℕ) : Type 0 where
  pub declaration : ℕ
  pub declares : slice_get p.nodes i ≡ Some (node.Let declaration rest)
  pub library : IsLibrary p declaration
  pub further : i < rest
  pub within : rest < length p.nodes
  pub nest : IsNest p rest

abbrev pub IsStep : Bare → ℕ → Step → Type 0
IsStep p i step.Finish = slice_get p.nodes i ≡ Some node.Finish
IsStep p i (step.Library rest) = IsLibraryAt p i rest
IsStep p i (step.Print text rest) = IsPrintAt p i text.now rest
IsStep p i (step.Other place) = StopsAt p i place

-- the text of the whole, in pieces that are good for straight code, or the place of the user's first declaration that is no print
abbrev pub Answer : Bare → Reading → Type 0
Answer p (reading.Text printed) = Says p 0 printed.text.items × IsStraight printed.lengths.items printed.text.items
Answer p (reading.Stops place) = StopsAt p 0 place
