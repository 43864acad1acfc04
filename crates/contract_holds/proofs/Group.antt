-- Functions that are bound together, one after another.
use Rattle.std.proofs.Common.{◌≡◌, ◌≢◌, ℕ, ◌≤◌, ◌<◌, List, [], ◌∷◌, length, map, Bool, true, false, cond, Option, Some, None, inl, inr, nat_eq, refl, sym, ap, ◌∙◌, subst, arith, eqb-true}
use Rattle.std.specs.Prelude.{get_or}
use Rattle.simulation.specs.Blocks.{IsAmong}
use Rattle.cps_ir.specs.declared.atom.Atom.{Atom}
use Rattle.cps_ir.specs.declared.atom.Atom.TheVariants as atom
use Rattle.cps_ir.specs.declared.body.Function.{Function as Entry}
use Rattle.cps_ir.specs.Code.{Code, names_of}
use Rattle.cps_ir.specs.Program.{functions_of}
use Rattle.contract_laws.specs.Weigh.{names_weigh, of_name}
use Rattle.contract_laws.proofs.Relation.{eqb_other}
use Rattle.contract_round.specs.Round as round
use Rattle.contract_round.specs.Round.{Inlined, Roles, staying, names_stay, replaced, names_replaced, names_in, placed, function_left, as_themselves, known, within, with_arguments, walk, functions_walk, bodies_walk}
use Rattle.contract_round.proofs.Facts.{own_same}
use Rattle.contract_known.specs.Known.{place_of}
use Rattle.contract_roles.specs.declared.group.Role.{Role}
use Rattle.contract_roles.specs.declared.group.Role.TheVariants as role
use Rattle.contract_roles.specs.Roles.{as_role}
use Rattle.contract_group.specs.declared.task.Placed.{Placed}
use Rattle.contract_group.specs.Group as group
use Rattle.contract_group.specs.Group.{place_step, placed_step, kept_step, kept_front, number_after, tasks_step, with_new, group_places, group_placed, group_kept, group_tasks, group_bodies}
use Rattle.contract_holds.proofs.Tables.{put_length, put_other, put_same}

-- the entry of a function that is put where it is called
abbrev pub entry : Entry → Placed
entry f = record { params = f.params; body = f.body }

-- the names of functions, with how often each stands among them
abbrev pub names : List Entry → List ℕ
names fs = map (λ f. f.name) fs

pub names_are : (part : ℕ → Code) (fs : List Entry) → names_of (functions_of part fs) ≡ names fs
names_are part [] = refl
names_are part (f ∷ fs) = ap (λ ns. f.name ∷ ns) (names_are part fs)

-- ---- One step of each table

module _ (f : Entry) where
  pub replaced_step : (r : Role) (σ : ℕ → Atom) (places : List Atom) → f.name < length places → ((y : ℕ) → σ y ≡ place_of places y) → (y : ℕ) → replaced (as_role r) f.name σ y ≡ place_of (place_step r f places) y
  replaced_step role.Dropped σ places l h y = h y
  replaced_step role.Placed σ places l h y = h y
  replaced_step role.Stays σ places l h y = h y
  replaced_step (role.Replaced x) σ places l h y = by (nat_eq y f.name) refl
    where
      by : (b : Bool) → nat_eq y f.name ≡ b → cond b (σ x) (σ y) ≡ place_of (group.put f.name (place_of places x) places) y
      by true e = subst (λ v. σ x ≡ place_of (group.put f.name (place_of places x) places) v) (sym (eqb-true y f.name e)) (h x ∙ sym (put_same f.name (place_of places x) (atom.Var f.name) places l))
      by false e = h y ∙ sym (put_other f.name y (place_of places x) (atom.Var y) places (eqb_other y f.name e))

  pub staying_step : (r : round.Role) (σ ς : ℕ → Atom) → ς f.name ≡ atom.Var f.name → ((y : ℕ) → σ y ≡ ς y) → (y : ℕ) → staying r f.name σ y ≡ ς y
  staying_step round.Dropped σ ς v h y = h y
  staying_step round.Placed σ ς v h y = h y
  staying_step (round.Replaced x) σ ς v h y = h y
  staying_step round.Stays σ ς v h y = by (nat_eq y f.name) refl
    where
      by : (b : Bool) → nat_eq y f.name ≡ b → cond b (atom.Var f.name) (σ y) ≡ ς y
      by true e = sym v ∙ ap ς (sym (eqb-true y f.name e))
      by false e = h y

  pub place_length : (r : Role) (places : List Atom) → length (place_step r f places) ≡ length places
  place_length role.Dropped places = refl
  place_length role.Placed places = refl
  place_length role.Stays places = refl
  place_length (role.Replaced x) places = put_length f.name (place_of places x) places

  pub place_other : (r : Role) (places : List Atom) (y : ℕ) → y ≢ f.name → place_of (place_step r f places) y ≡ place_of places y
  place_other role.Dropped places y n = refl
  place_other role.Placed places y n = refl
  place_other role.Stays places y n = refl
  place_other (role.Replaced x) places y n = put_other f.name y (place_of places x) (atom.Var y) places n

  pub placed_length : (r : Role) (table : List (Option Placed)) → length (placed_step r f table) ≡ length table
  placed_length role.Dropped table = refl
  placed_length role.Stays table = refl
  placed_length (role.Replaced x) table = refl
  placed_length role.Placed table = put_length f.name (Some (entry f)) table

  pub placed_other : (r : Role) (table : List (Option Placed)) (y : ℕ) → y ≢ f.name → get_or (placed_step r f table) y None ≡ get_or table y None
  placed_other role.Dropped table y n = refl
  placed_other role.Stays table y n = refl
  placed_other (role.Replaced x) table y n = refl
  placed_other role.Placed table y n = put_other f.name y (Some (entry f)) None table n

-- ---- Names that differ

abbrev pub AreApart : List Entry → Type 0
AreApart fs = (x : ℕ) → names_weigh (of_name x) (names fs) ≤ 1

pub rest_apart : (f : Entry) (fs : List Entry) → AreApart (f ∷ fs) → AreApart fs
rest_apart f fs h x = let k = h x in omega arith

pub head_apart : (f : Entry) (fs : List Entry) → AreApart (f ∷ fs) → (g : Entry) → IsAmong g fs → g.name ≢ f.name
head_apart f fs h g i e = let k = h f.name in let o = own_same f.name f.name refl in let w = among_named fs g i in let q : f.name ≡ g.name = sym e in let z = subst (λ v. 1 ≤ names_weigh (of_name v) (names fs)) e w in absurd (omega arith)
  where
    among_named : (fs : List Entry) (g : Entry) → IsAmong g fs → 1 ≤ names_weigh (of_name g.name) (names fs)
    among_named [] g i = absurd i
    among_named (f ∷ fs) g (inl e) = let o = own_same g.name f.name (ap (λ x. x.name) e) in omega arith
    among_named (f ∷ fs) g (inr i) = let k = among_named fs g i in omega arith

pub named_weighs : (fs : List Entry) (g : Entry) → IsAmong g fs → 1 ≤ names_weigh (of_name g.name) (names fs)
named_weighs [] g i = absurd i
named_weighs (f ∷ fs) g (inl e) = let o = own_same g.name f.name (ap (λ x. x.name) e) in omega arith
named_weighs (f ∷ fs) g (inr i) = let k = named_weighs fs g i in omega arith

other_name : (f : Entry) (fs : List Entry) (y : ℕ) → names_weigh (of_name y) (names (f ∷ fs)) ≡ 0 → y ≢ f.name
other_name f fs y e q = let o = own_same y f.name q in absurd (omega arith)

-- ---- The tables of a whole group

pub places_length : (rs : List Role) (fs : List Entry) (places : List Atom) → length (group_places rs fs places) ≡ length places
places_length [] fs places = refl
places_length (r ∷ rs) [] places = refl
places_length (r ∷ rs) (f ∷ fs) places = places_length rs fs (place_step r f places) ∙ place_length f r places

pub places_other : (rs : List Role) (fs : List Entry) (places : List Atom) (y : ℕ) → names_weigh (of_name y) (names fs) ≡ 0 → place_of (group_places rs fs places) y ≡ place_of places y
places_other [] fs places y e = refl
places_other (r ∷ rs) [] places y e = refl
places_other (r ∷ rs) (f ∷ fs) places y e = places_other rs fs (place_step r f places) y (omega arith) ∙ place_other f r places y (other_name f fs y e)

pub group_length : (rs : List Role) (fs : List Entry) (table : List (Option Placed)) → length (group_placed rs fs table) ≡ length table
group_length [] fs table = refl
group_length (r ∷ rs) [] table = refl
group_length (r ∷ rs) (f ∷ fs) table = group_length rs fs (placed_step r f table) ∙ placed_length f r table

pub group_other : (rs : List Role) (fs : List Entry) (table : List (Option Placed)) (y : ℕ) → names_weigh (of_name y) (names fs) ≡ 0 → get_or (group_placed rs fs table) y None ≡ get_or table y None
group_other [] fs table y e = refl
group_other (r ∷ rs) [] table y e = refl
group_other (r ∷ rs) (f ∷ fs) table y e = group_other rs fs (placed_step r f table) y (omega arith) ∙ placed_other f r table y (other_name f fs y e)

-- the roles are those of a round
abbrev pub RolesAre : (ℕ → Code) → Roles → List Role → List Entry → Type 0
RolesAre part w [] [] = Unit {0}
RolesAre part w (r ∷ rs) (f ∷ fs) = (as_role r ≡ w f.name f.params (part f.body)) × RolesAre part w rs fs
RolesAre part w [] (f ∷ fs) = ⊥
RolesAre part w (r ∷ rs) [] = ⊥

abbrev head_of : round.Role → List round.Role → round.Role
head_of d [] = d
head_of d (r ∷ rs) = r

abbrev rest_of : List round.Role → List round.Role
rest_of [] = []
rest_of (r ∷ rs) = rs

pub roles_are : (part : ℕ → Code) (w : Roles) (rs : List Role) (fs : List Entry) → map as_role rs ≡ map (λ f. w f.name f.params (part f.body)) fs → RolesAre part w rs fs
roles_are part w [] [] e = tt
roles_are part w (r ∷ rs) (f ∷ fs) e = (heads e, roles_are part w rs fs (rests e))
  where
    heads : as_role r ∷ map as_role rs ≡ w f.name f.params (part f.body) ∷ map (λ f. w f.name f.params (part f.body)) fs → as_role r ≡ w f.name f.params (part f.body)
    heads e = ap (head_of round.Stays) e

    rests : as_role r ∷ map as_role rs ≡ w f.name f.params (part f.body) ∷ map (λ f. w f.name f.params (part f.body)) fs → map as_role rs ≡ map (λ f. w f.name f.params (part f.body)) fs
    rests e = ap rest_of e
roles_are part w [] (f ∷ fs) e = absurd (cc)
roles_are part w (r ∷ rs) [] e = absurd (cc)
