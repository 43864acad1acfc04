-- The keys of variables: variables with one key live together.
use Rattle.std.specs.Prelude.{◌≡◌, ℕ, ◌<◌, Bool, ◌&&◌, nat_le, filter, map, List, [], ◌∷◌, Option, Some, None, length, slice_get}
use Rattle.std.specs.Ordering.{nat_cmp}
use Rattle.std.specs.Cmp.Lexicographic.{slice_cmp}
use Rattle.std.specs.BTreeMap.{BTreeMap, get}
use Rattle.std.specs.Global.{Vec}
use Rattle.sml_tree.specs.Sets.{row_at}
use Rattle.lifetime_users.specs.declared.class.Class.{Class}
use Rattle.lifetime_users.specs.Users.{Binding, home_of, same_numbers, begins_with}

-- the home of a variable, and its users
abbrev pub key_of : Option ℕ → List ℕ → List ℕ
key_of None users = 0 ∷ users
key_of (Some f) users = 1 ∷ f ∷ users

-- the entry of a table
abbrev pub home_in : Option (Option ℕ) → Option ℕ
home_in None = None
home_in (Some home) = home

abbrev pub home_at : List (Option ℕ) → ℕ → Option ℕ
home_at homes x = home_in (slice_get homes x)

-- by the tables of homes and of users
abbrev pub key_at : List (Option ℕ) → List (List ℕ) → ℕ → List ℕ
key_at homes rows x = key_of (home_at homes x) (row_at rows x)

-- n variables have their homes
pub record AreHomes (bound : List Binding) (n : ℕ) (homes : List (Option ℕ)) : Type 0 where
  pub len : length homes ≡ n
  pub at : (x : ℕ) → x < n → home_at homes x ≡ home_of bound x

-- ---- Groups by key

abbrev pub row_in : Option (List ℕ) → List ℕ
row_in None = []
row_in (Some row) = row

abbrev pub grouped : BTreeMap (Vec ℕ) (List ℕ) → Vec ℕ → List ℕ
grouped groups key = row_in (get (λ a b. slice_cmp nat_cmp a.items b.items) groups key)

-- those of a key
abbrev pub with_key : (ℕ → List ℕ) → List ℕ → List ℕ → List ℕ
with_key key variables k = filter (λ y. same_numbers (key y) k) variables

-- ---- Classes by key

abbrev pub is_lead : ℕ → List ℕ → List ℕ → Bool
is_lead x group users = begins_with x group && nat_le 3 (length group) && nat_le 2 (length users)

abbrev pub class_with : List ℕ → List ℕ → Class
class_with group users = record { vars = group; users = map (λ l. record { 0 = l }) users }

-- of these, each with its key and its users, the classes that some lead
module _ (key rows : ℕ → List ℕ) (variables : List ℕ) where
  abbrev pub leads_by : ℕ → Bool
  leads_by x = is_lead x (with_key key variables (key x)) (rows x)

  abbrev pub class_by : ℕ → Class
  class_by x = class_with (with_key key variables (key x)) (rows x)

  abbrev pub classes_by : List ℕ → List Class
  classes_by some = map class_by (filter leads_by some)
