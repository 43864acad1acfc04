-- Rows of users by variable.
use Rattle.std.specs.Prelude.{◌≡◌, ℕ, ◌<◌, ◌&&◌, nat_eq, List, length, map}
use Rattle.std.specs.List.{list_any}
use Rattle.std.specs.BTreeSet.{BTreeSet}
use Rattle.sml_tree.specs.Sets.{has, row_at}
use Rattle.cps_ir.specs.Slim.{Layout}
use Rattle.lifetime_users.specs.Users.{label_in, users}

-- the sets that a vector has, as rows
abbrev pub rows_of : List (BTreeSet ℕ) → List (List ℕ)
rows_of sets = map (λ s. s.keys) sets

-- some of all functions have put their labels into the rows of n variables
pub record ArePut (all some : List Layout) (n : ℕ) (rows : List (List ℕ)) : Type 0 where
  pub len : length rows ≡ n
  pub put : (x z : ℕ) → x < n → has (row_at rows x) z ≡ list_any (λ l. has l.free x && nat_eq z (label_in all l.point)) some

-- the rows of n variables have their users
pub record AreUsers (all : List Layout) (n : ℕ) (rows : List (List ℕ)) : Type 0 where
  pub len : length rows ≡ n
  pub at : (x : ℕ) → x < n → row_at rows x ≡ users all x
