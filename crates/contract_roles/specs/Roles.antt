-- What becomes of functions that are bound together, from the counts of their names.
use Rattle.std.specs.Prelude.{◌≡◌, ℕ, Bool, false, cond, ◌&&◌, ◌||◌, List, [], ◌∷◌, ◌++◌, map, Option, Some, None, nat_eq}
use Rattle.sml_tree.specs.Sets.{has}
use Rattle.cps_ir.specs.declared.atom.Atom.{Atom}
use Rattle.cps_ir.specs.declared.atom.Atom.TheVariants as atom
use Rattle.cps_ir.specs.declared.body.Function.{Function as Entry}
use Rattle.cps_ir.specs.declared.body.Body.{Body}
use Rattle.cps_ir.specs.Code.{Code, Functions}
use Rattle.cps_ir.specs.Program.{functions_of, code_at}
use Rattle.contract_round.specs.Round as round
use Rattle.contract_round.specs.Round.{eta_of, with_eta, role_by, role_in}
use Rattle.contract_census.specs.declared.counts.Count.{Count}
use Rattle.contract_census.specs.Counting.{is_never, is_once, count_at}
use Rattle.contract_census.specs.Counted.{AreCounts}
use Rattle.contract_roles.specs.declared.group.Role.{Role}
use Rattle.contract_roles.specs.declared.group.Role.TheVariants as role

abbrev pub as_role : Role → round.Role
as_role role.Dropped = round.Dropped
as_role (role.Replaced x) = round.Replaced x
as_role role.Placed = round.Placed
as_role role.Stays = round.Stays

abbrev pub is_var : ℕ → Atom → Bool
is_var x (atom.Var y) = nat_eq x y
is_var x (atom.Constant k) = false

module _ (bodies : List Body) where
  abbrev pub eta_in : Entry → Option ℕ
  eta_in f = eta_of f.name f.params (code_at bodies f.body)

  -- the names of those that only call another
  abbrev pub eta_names : List Entry → List ℕ
  eta_names [] = []
  eta_names (f ∷ fs) = with_eta (eta_in f) f.name (eta_names fs)

  -- of each function in front of this body
  abbrev pub roles_in : Functions → Code → List Entry → List round.Role
  roles_in all c fs = map (λ f. role_in all c f.name f.params (code_at bodies f.body)) fs

module _ (counts : List Count) where
  abbrev pub dead : ℕ → Bool
  dead f = is_never (count_at counts f).outside

  abbrev pub once : ℕ → Bool
  once f = is_once (count_at counts f).uses && is_once (count_at counts f).calls

  -- f comes to those behind it that are replaced, if it calls none of them and none that stands before it and only calls another
  abbrev pub alias_behind : Option ℕ → ℕ → List ℕ → List ℕ → List ℕ
  alias_behind None f front behind = behind
  alias_behind (Some x) f front behind = cond (dead f || (has front x || has behind x)) behind (behind ++ f ∷ [])

  module _ (bodies : List Body) where
    -- those that are replaced, of functions behind others
    abbrev pub aliases : List Entry → List Entry → List ℕ
    aliases front [] = []
    aliases front (f ∷ fs) = alias_behind (eta_in bodies f) f.name (eta_names bodies front) (aliases (front ++ f ∷ []) fs)

    abbrev pub role_of : List ℕ → Entry → round.Role
    role_of replaced f = role_by (dead f.name) (has replaced f.name) (eta_in bodies f) (once f.name)

    abbrev pub group_roles : List Entry → List round.Role
    group_roles fs = map (role_of (aliases [] fs)) fs

-- They are what the definition of a round makes of these functions in front of any body for which the counts are right.
abbrev pub AreRoles : List Count → List Body → List Entry → List Role → Type 0
AreRoles counts bodies fs roles =
    (c : Code) → ((x : ℕ) → AreCounts x (count_at counts x) (functions_of (code_at bodies) fs) c (functions_of (code_at bodies) fs)) → map as_role roles ≡ roles_in bodies (functions_of (code_at bodies) fs) c fs
