-- Programs of prints: each declaration of the user's is `val _ = print c` with a string constant c. The library's, whose places are in file 0, declare functions alone and print nothing, so they are passed over.
use Rattle.std.specs.Prelude.{◌≡◌, ℕ, true, false, List, [], ◌∷◌, ◌++◌, Some, slice_get}
use Rattle.smlc_base.specs.declared.place.Place.{Place}
use Rattle.smlc_base.specs.declared.primitive.Primitive.TheVariants.{Print}
use Rattle.sml_tree.specs.declared.bare.Bare.{Bare}
use Rattle.sml_tree.specs.declared.bare.Binding.{Binding}
use Rattle.sml_tree.specs.declared.bare.Node.TheVariants as node
use Rattle.sml_tree.specs.Width.{is_user_at}

-- node d is `val _ = print c`, and c is this text
pub record IsPrint (p : Bare) (d : ℕ) (text : List ℕ) : Type 0 where
  pub binding : Binding
  pub function : ℕ
  pub argument : ℕ
  pub number : ℕ
  pub binds : slice_get p.nodes d ≡ Some (node.Val [] (binding ∷ []))
  pub ignores : slice_get p.nodes binding.pat ≡ Some node.Wild
  pub applies : slice_get p.nodes binding.right ≡ Some (node.App function argument)
  pub prints : slice_get p.nodes function ≡ Some (node.Builtin Print)
  pub constant : slice_get p.nodes argument ≡ Some (node.Text number)
  pub spelled : slice_get p.texts number ≡ Some text

-- a declaration of the user's
abbrev pub IsUser : Bare → ℕ → Type 0
IsUser p d = is_user_at (slice_get p.places d) ≡ true

abbrev pub IsLibrary : Bare → ℕ → Type 0
IsLibrary p d = is_user_at (slice_get p.places d) ≡ false

-- the user's declarations from node i on, to the end of the program, are prints, and this is what they print, in order
pub data Says (p : Bare) : ℕ → List ℕ → Type 0 where
  ends : (i : ℕ) → slice_get p.nodes i ≡ Some node.Finish → Says p i []
  goes_on : (i d rest : ℕ) (first more text : List ℕ) → slice_get p.nodes i ≡ Some (node.Let d rest) → IsUser p d → IsPrint p d first → Says p rest more → text ≡ first ++ more → Says p i text
  passes : (i d rest : ℕ) (text : List ℕ) → slice_get p.nodes i ≡ Some (node.Let d rest) → IsLibrary p d → Says p rest text → Says p i text

-- the first declaration of the user's from node i on that is no print stands at this place
pub data StopsAt (p : Bare) : ℕ → Place → Type 0 where
  here : (i d rest : ℕ) (place : Place) → slice_get p.nodes i ≡ Some (node.Let d rest) → IsUser p d → ((text : List ℕ) → IsPrint p d text → ⊥) → slice_get p.places d ≡ Some place → StopsAt p i place
  behind : (i d rest : ℕ) (first : List ℕ) (place : Place) → slice_get p.nodes i ≡ Some (node.Let d rest) → IsUser p d → IsPrint p d first → StopsAt p rest place → StopsAt p i place
  later : (i d rest : ℕ) (place : Place) → slice_get p.nodes i ≡ Some (node.Let d rest) → IsLibrary p d → StopsAt p rest place → StopsAt p i place
