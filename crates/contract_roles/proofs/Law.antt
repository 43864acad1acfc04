-- From right counts the roles of a round follow.
use Rattle.std.proofs.Common.{◌≡◌, ℕ, zero, suc, ◌+◌, List, [], ◌∷◌, ◌++◌, map, Bool, true, false, cond, ◌&&◌, ◌||◌, Option, Some, None, refl, sym, ap, ◌∙◌, arith, nat_eq, length, ne_eqb}
use Rattle.sml_tree.specs.Sets.{has}
use Rattle.cps_ir.specs.declared.body.Function.{Function as Entry}
use Rattle.cps_ir.specs.declared.body.Body.{Body}
use Rattle.cps_ir.specs.Code.{Code, Functions}
use Rattle.cps_ir.specs.Program.{functions_of, code_at}
use Rattle.contract_laws.specs.Redex.{uses, uses_functions, uses_others, calls_with}
use Rattle.contract_round.specs.Round.{with_eta, role_by, role_in, is_dead, is_once, if_alias, aliases_in}
use Rattle.contract_census.specs.declared.counts.Count.{Count}
use Rattle.contract_census.specs.Counting.{is_never, count_at}
use Rattle.contract_census.specs.Counting as counting
use Rattle.contract_census.specs.Counted.{times_of, IsFunctionCount, AreCounts}
use Rattle.contract_roles.specs.Roles.{eta_in, eta_names, roles_in, dead, once, alias_behind, aliases, role_of, group_roles}
use Rattle.contract_roles.proofs.Fronts.{names_append}

never_of : (n : ℕ) → is_never (times_of n) ≡ nat_eq n 0
never_of zero = refl
never_of (suc zero) = refl
never_of (suc (suc n)) = sym (ne_eqb (suc (suc n)) 0 (omega arith))

once_of : (n : ℕ) → counting.is_once (times_of n) ≡ nat_eq n 1
once_of zero = refl
once_of (suc zero) = refl
once_of (suc (suc n)) = sym (ne_eqb (suc (suc n)) 1 (omega arith))

abbrev SameMembers : List ℕ → List ℕ → Type 0
SameMembers xs ys = (z : ℕ) → has xs z ≡ has ys z

has_append : (xs ys : List ℕ) (z : ℕ) → has (xs ++ ys) z ≡ (has xs z || has ys z)
has_append [] ys z = refl
has_append (x ∷ xs) ys z = by (nat_eq z x) (has_append xs ys z)
  where
    by : (b : Bool) → has (xs ++ ys) z ≡ (has xs z || has ys z) → (b || has (xs ++ ys) z) ≡ ((b || has xs z) || has ys z)
    by true e = refl
    by false e = e

has_behind : (xs : List ℕ) (f z : ℕ) → has (xs ++ f ∷ []) z ≡ (nat_eq z f || has xs z)
has_behind xs f z = has_append xs (f ∷ []) z ∙ swap (has xs z) (nat_eq z f)
  where
    swap : (a b : Bool) → (a || (b || false)) ≡ (b || a)
    swap true true = refl
    swap true false = refl
    swap false true = refl
    swap false false = refl

module _ (counts : List Count) (bodies : List Body) (all : Functions) (c : Code) where
  abbrev part : ℕ → Code
  part = code_at bodies

  -- the counts are right for a function
  abbrev Right : Entry → Type 0
  Right f = IsFunctionCount all c f.name f.params (count_at counts f.name)

  dead_is : (f : Entry) → Right f → dead counts f.name ≡ is_dead all c f.name
  dead_is f r = ap is_never r.outside ∙ never_of (uses_others f.name all + uses f.name c)

  once_is : (f : Entry) → Right f → once counts f.name ≡ is_once all c f.name f.params
  once_is f r =
      ap (λ t. counting.is_once t && counting.is_once (count_at counts f.name).calls) r.used
      ∙ ap (λ t. counting.is_once (times_of (uses_functions f.name all + uses f.name c)) && counting.is_once t) r.called
      ∙ ap (λ b. b && counting.is_once (times_of (calls_with f.name (length f.params) c))) (once_of (uses_functions f.name all + uses f.name c))
      ∙ ap (λ b. nat_eq (uses_functions f.name all + uses f.name c) 1 && b) (once_of (calls_with f.name (length f.params) c))

  alias_same : (o : Option ℕ) (f : Entry) (front front' behind behind' : List ℕ) → Right f → SameMembers front front' → SameMembers behind behind' → SameMembers (alias_behind counts o f.name front behind) (if_alias all c o f.name front' behind')
  alias_same None f front front' behind behind' r e g z = g z
  alias_same (Some x) f front front' behind behind' r e g z =
      ap (λ b. has (cond b behind (behind ++ f.name ∷ [])) z)
      (ap (λ b. b || (has front x || has behind x)) (dead_is f r) ∙ ap (λ b. is_dead all c f.name || (b || has behind x)) (e x) ∙ ap (λ b. is_dead all c f.name || (has front' x || b)) (g x))
      ∙ by (is_dead all c f.name || (has front' x || has behind' x))
    where
      by : (b : Bool) → has (cond b behind (behind ++ f.name ∷ [])) z ≡ has (cond b behind' (f.name ∷ behind')) z
      by true = g z
      by false = has_behind behind f.name z ∙ ap (λ b. nat_eq z f.name || b) (g z)

  front_same : (o : Option ℕ) (f : ℕ) (xs ys : List ℕ) → SameMembers xs ys → SameMembers (xs ++ with_eta o f []) (with_eta o f ys)
  front_same None f xs ys e z = has_append xs [] z ∙ or_none (has xs z) ∙ e z
    where
      or_none : (b : Bool) → (b || false) ≡ b
      or_none true = refl
      or_none false = refl
  front_same (Some x) f xs ys e z = has_behind xs f z ∙ ap (λ b. nat_eq z f || b) (e z)

  abbrev AllRight : List Entry → Type 0
  AllRight [] = Unit {0}
  AllRight (f ∷ fs) = Right f × AllRight fs

  aliases_same : (front fs : List Entry) (names : List ℕ) → AllRight fs → SameMembers (eta_names bodies front) names → SameMembers (aliases counts bodies front fs) (aliases_in all c names (functions_of part fs))
  aliases_same front [] names r e = λ z. refl
  aliases_same front (f ∷ fs) names r e =
      alias_same (eta_in bodies f) f (eta_names bodies front) names (aliases counts bodies (front ++ f ∷ []) fs) (aliases_in all c (with_eta (eta_in bodies f) f.name names) (functions_of part fs)) r.0 e
      (aliases_same (front ++ f ∷ []) fs (with_eta (eta_in bodies f) f.name names) r.1
      (λ z. ap (λ ns. has ns z) (names_append bodies front (f ∷ [])) ∙ front_same (eta_in bodies f) f.name (eta_names bodies front) names e z))

  role_same : (replaced replaced' : List ℕ) (f : Entry) → Right f → SameMembers replaced replaced' → role_of counts bodies replaced f ≡ role_by (is_dead all c f.name) (has replaced' f.name) (eta_in bodies f) (is_once all c f.name f.params)
  role_same replaced replaced' f r e =
      ap (λ b. role_by b (has replaced f.name) (eta_in bodies f) (once counts f.name)) (dead_is f r)
      ∙ ap (λ b. role_by (is_dead all c f.name) b (eta_in bodies f) (once counts f.name)) (e f.name)
      ∙ ap (λ b. role_by (is_dead all c f.name) (has replaced' f.name) (eta_in bodies f) b) (once_is f r)

-- ---- A whole group

module _ (counts : List Count) (bodies : List Body) (all : List Entry) (c : Code) where
  abbrev group : Functions
  group = functions_of (code_at bodies) all

  each_right : (fs : List Entry) → ((x : ℕ) → AreCounts x (count_at counts x) group c (functions_of (code_at bodies) fs)) → AllRight counts bodies group c fs
  each_right [] h = tt
  each_right (f ∷ fs) h = ((h f.name).0 refl, each_right fs (λ x. (h x).2))

  roles_same : (fs : List Entry) → AllRight counts bodies group c fs → ((z : ℕ) → has (aliases counts bodies [] all) z ≡ has (aliases_in group c [] group) z) → map (role_of counts bodies (aliases counts bodies [] all)) fs ≡ roles_in bodies group c fs
  roles_same [] r e = refl
  roles_same (f ∷ fs) r e =
      ap (λ x. x ∷ map (role_of counts bodies (aliases counts bodies [] all)) fs) (role_same counts bodies group c (aliases counts bodies [] all) (aliases_in group c [] group) f r.0 e)
      ∙ ap (λ xs. role_in group c f.name f.params (code_at bodies f.body) ∷ xs) (roles_same fs r.1 e)

  pub group_same : ((x : ℕ) → AreCounts x (count_at counts x) group c group) → group_roles counts bodies all ≡ roles_in bodies group c all
  group_same h = let r = each_right all h in roles_same all r (aliases_same counts bodies group c [] all [] r (λ z. refl))
