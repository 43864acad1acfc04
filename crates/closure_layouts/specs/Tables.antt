-- The numbers of classes by label.
use Rattle.std.specs.Prelude.{◌≡◌, ℕ, suc, ◌<◌, Bool, ◌&&◌, ◌||◌, false, nat_eq, List, [], ◌∷◌, length}
use Rattle.sml_tree.specs.Sets.{has, row_at}
use Rattle.lifetime_users.specs.declared.class.Class.{Class}
use Rattle.close_laws.specs.Layouts.{uses_class, classes_of}

-- whether some class, the first of number n, has number z and this user
abbrev pub has_number : ℕ → List Class → ℕ → ℕ → Bool
has_number n [] label z = false
has_number n (k ∷ ks) label z = (uses_class label k && nat_eq z n) || has_number (suc n) ks label z

-- the first classes have put their numbers into the rows of n labels
pub record AreNumbered (classes : List Class) (n : ℕ) (rows : List (List ℕ)) : Type 0 where
  pub len : length rows ≡ n
  pub put : (label z : ℕ) → label < n → has (row_at rows label) z ≡ has_number 0 classes label z

-- the rows of n labels have the numbers of their classes
pub record AreClassRows (classes : List Class) (n : ℕ) (rows : List (List ℕ)) : Type 0 where
  pub len : length rows ≡ n
  pub at : (label : ℕ) → label < n → row_at rows label ≡ classes_of 0 label classes
