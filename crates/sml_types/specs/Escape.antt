-- The type names that a type mentions.
use Rattle.std.specs.Prelude.{◌≡◌, ℕ, Bool, true, ◌&&◌, List}
use Rattle.std.specs.List.{AllByRecursion}
use Rattle.sml_types.specs.Tree.{Head, NameHead, Tree, Variable, App, NoParts, Part}
use Rattle.sml_types.specs.Poly.{Poly, is_in}

abbrev pub mentions_head : List ℕ → Head → Bool
mentions_head ns (NameHead n) = is_in ns n
mentions_head ns _ = true

-- whether a type mentions these type names alone
abbrev pub mentions : List ℕ → Tree → Bool
mentions ns (Variable v) = true
mentions ns (App h ts) = mentions_head ns h && mentions ns ts
mentions ns NoParts = true
mentions ns (Part t ts) = mentions ns t && mentions ns ts

-- the types of these names mention these type names alone
abbrev pub AreKnown : (ℕ → Poly) → List ℕ → List ℕ → Type 0
AreKnown schemes ns xs = AllByRecursion (λ x. mentions ns (schemes x).body ≡ true) xs
