-- As what a parse tree may stand.
use Rattle.std.specs.Prelude.{Bool, [], ◌∷◌}
use Rattle.sml_tree.specs.Kinds.{PartKind, may_stand}
use Rattle.sml_expansion.specs.Terms.{Term, leaf, one, two, three, four}

-- by its node and by as what its parts may stand
abbrev pub is_a : Term → PartKind → Bool
is_a (leaf n p) = may_stand n []
is_a (one n p a) = may_stand n (is_a a ∷ [])
is_a (two n p a b) = may_stand n (is_a a ∷ is_a b ∷ [])
is_a (three n p a b c) = may_stand n (is_a a ∷ is_a b ∷ is_a c ∷ [])
is_a (four n p a b c d) = may_stand n (is_a a ∷ is_a b ∷ is_a c ∷ is_a d ∷ [])
