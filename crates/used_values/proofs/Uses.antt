-- Uses of an end, one after another.
use Rattle.std.proofs.Common.{◌≡◌, Bool, true, false, List, [], ℕ, refl, sym, ap, ◌∙◌}
use Rattle.std.specs.Prelude.{◌||◌}
use Rattle.sml_tree.specs.Sets.{has, union}
use Rattle.sml_tree.proofs.Members.{has-union}
use Rattle.cps_free.specs.Same.{AreSame}

pub three_used : (a b k old s t : List ℕ) → AreSame s (union k old) → AreSame t (union b s) → AreSame (union a t) (union (union a (union b (union k []))) old)
three_used a b k old s t e f z =
    has-union a t z ∙ ap (λ x. has a z || x) (f z ∙ has-union b s z ∙ ap (λ x. has b z || x) (e z ∙ has-union k old z))
    ∙ by (has a z) (has b z) (has k z) (has old z)
    ∙ ap (λ x. (has a z || (has b z || x)) || has old z) (sym (has-union k [] z))
    ∙ ap (λ x. (has a z || x) || has old z) (sym (has-union b (union k []) z))
    ∙ ap (λ x. x || has old z) (sym (has-union a (union b (union k [])) z))
    ∙ sym (has-union (union a (union b (union k []))) old z)
  where
    by : (x y w o : Bool) → (x || (y || (w || o))) ≡ ((x || (y || (w || false))) || o)
    by true y w o = refl
    by false true w o = refl
    by false false true o = refl
    by false false false o = refl
