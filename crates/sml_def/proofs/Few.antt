-- The words of each site are fewer than 2^32.
use Rattle.std.proofs.Common.{◌≡◌, ℕ, zero, suc, ◌+◌, ◌<◌, ◌≤◌, List, [], ◌∷◌, length, sym, subst, get_or, arith}
use Rattle.std.specs.List.{AllByRecursion}
use Rattle.sml_tree.specs.declared.bare.Bare.{Bare}
use Rattle.sml_tree.specs.declared.points.Spot.{Spot}
use Rattle.sml_tree.specs.IsBare.{IsBare}
use Rattle.sml_tree.specs.Points.{spots}
use Rattle.sml_tree.proofs.Held.{held_few}

all_index : {A : Type 0} (P : A → Type 0) (xs : List A) (i : ℕ) (d : A) → AllByRecursion P xs → i < length xs → P (get_or xs i d)
all_index P [] i d h lt = absurd (omega arith)
all_index P (x ∷ xs) zero d h lt = h.0
all_index P (x ∷ xs) (suc i) d h lt = all_index P xs i d h.1 (omega arith)

pub spot_fits : (p : Bare) → IsBare p → (found : List Spot) (i : ℕ) (d : Spot) → found ≡ spots p.nodes → i < length found → (get_or found i d).held + 2 < 4294967296
spot_fits p bare found i d e lt =
    let few : suc (get_or found i d).held ≤ length p.nodes = all_index (λ s. suc s.held ≤ length p.nodes) found i d (subst (AllByRecursion (λ s. suc s.held ≤ length p.nodes)) (sym e) (held_few p.nodes bare.numbered bare.preorder)) lt in
    let nodes : suc (length p.nodes) < 4294967296 = bare.few in
    omega arith
