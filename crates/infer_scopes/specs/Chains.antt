-- Lists that share their ends. All of them stand in one list of cells, and each is named by its first cell.
use Rattle.std.specs.Prelude.{◌≡◌, ℕ, ◌<◌, true, Option, Some, None, List, [], ◌∷◌, ◌++◌, length, fold, get_or, slice_get}
use Rattle.sml_types.specs.Poly.{is_in}
use Rattle.infer_scopes.specs.declared.chains.Cell.{Cell}

abbrev pub chain_in : List (List ℕ) → Option ℕ → List ℕ
chain_in done None = []
chain_in done (Some i) = get_or done i []

-- the list that begins at each cell, from the first cell on
unfoldable pub chains : List Cell → List (List ℕ)
chains cells = fold (λ done c. done ++ (c.item ∷ chain_in done c.next) ∷ []) [] cells

-- the list that begins at a cell, or the empty one
unfoldable pub chain : List Cell → Option ℕ → List ℕ
chain cells head = chain_in (chains cells) head

abbrev pub IsBelow : ℕ → Option ℕ → Type 0
IsBelow n None = Unit {0}
IsBelow n (Some i) = i < n

-- all items of the one list are items of the other
abbrev pub AreAmong : List Cell → Option ℕ → Option ℕ → Type 0
AreAmong cells few all = (x : ℕ) → is_in (chain cells few) x ≡ true → is_in (chain cells all) x ≡ true

-- a cell goes on, and jumps, to cells before it; where it jumps to are items of what it goes on with
pub record IsCell (cells : List Cell) (i : ℕ) (c : Cell) : Type 0 where
  pub falls : IsBelow i c.next
  pub jumps : IsBelow i c.jump
  pub inner : AreAmong cells c.jump c.next

abbrev pub AreCells : List Cell → Type 0
AreCells cells = (i : ℕ) (c : Cell) → slice_get cells i ≡ Some c → IsCell cells i c

-- more cells, and each list as it was
pub record IsMore (old new : List Cell) : Type 0 where
  pub below : (h : Option ℕ) → IsBelow (length old) h → IsBelow (length new) h
  pub same : (h : Option ℕ) → IsBelow (length old) h → chain new h ≡ chain old h
