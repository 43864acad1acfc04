-- Sets of numbers, as ascending lists.
use Rattle.std.specs.Prelude.{ℕ, Bool, not, List, [], ◌∷◌, nat_eq, nat_lt, if◌then◌else◌, filter, slice_get, unwrap_or}
use Rattle.std.specs.List.{list_any}

abbrev pub has : List ℕ → ℕ → Bool
has names x = list_any (nat_eq x) names

-- x and those of the list, where the rest of x's set is joined by `rest`
abbrev pub merge : ℕ → (List ℕ → List ℕ) → List ℕ → List ℕ
merge x rest [] = x ∷ rest []
merge x rest (y ∷ ys) =
    if nat_lt x y then x ∷ rest (y ∷ ys) else if nat_eq x y then x ∷ rest ys else y ∷ merge x rest ys

abbrev pub union : List ℕ → List ℕ → List ℕ
union [] ys = ys
union (x ∷ xs) ys = merge x (union xs) ys

abbrev pub without : List ℕ → List ℕ → List ℕ
without xs gone = filter (λ x. not (has gone x)) xs

-- the union over the items of a list
abbrev pub union_over : {A : Type 0} → (A → List ℕ) → List A → List ℕ
union_over f [] = []
union_over f (x ∷ xs) = union (f x) (union_over f xs)

-- the set of a number among sets, and none past the last
abbrev pub row_at : List (List ℕ) → ℕ → List ℕ
row_at rows i = unwrap_or (slice_get rows i) []
