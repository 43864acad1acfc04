-- How many trees an expansion has.
use Rattle.std.proofs.Common.{◌≡◌, ℕ, suc, ◌+◌, List, [], ◌∷◌, ◌++◌, refl, sym, ap, ◌∙◌, arith}
use Rattle.sml_expansion.specs.Forests.{Forest, none, tree, count, ◌&◌}

pub count_beside : (f g : Forest) → count (f & g) ≡ count f + count g
count_beside none g = omega arith
count_beside (tree n p parts rest) g = let e : count (rest & g) ≡ count rest + count g = count_beside rest g in omega (arith, e)
