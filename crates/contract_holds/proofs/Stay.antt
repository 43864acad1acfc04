-- What is made of functions that are bound together, and what the walk of a round makes of them.
use Rattle.std.proofs.Common.{◌≡◌, ◌≢◌, ℕ, ◌≤◌, ◌<◌, List, [], ◌∷◌, length, Bool, true, false, cond, Option, Some, None, inl, inr, nat_eq, refl, sym, ap, ◌∙◌, subst, arith, eqb-true}
use Rattle.std.specs.Prelude.{get_or}
use Rattle.std.specs.List.{AllByRecursion}
use Rattle.simulation.specs.Blocks.{IsAmong}
use Rattle.cps_ir.specs.declared.atom.Atom.{Atom}
use Rattle.cps_ir.specs.declared.atom.Atom.TheVariants as atom
use Rattle.cps_ir.specs.declared.body.Function.{Function as Entry}
use Rattle.cps_ir.specs.declared.body.Body.{Body}
use Rattle.cps_ir.specs.Code.{Code, Functions, Function}
use Rattle.cps_ir.specs.Program.{code_at, functions_of}
use Rattle.cps_ir.specs.State.{bind}
use Rattle.contract_laws.specs.Contract.{nothing}
use Rattle.contract_laws.specs.Weigh.{names_weigh, of_name}
use Rattle.contract_laws.proofs.Relation.{eqb_other}
use Rattle.contract_round.proofs.Facts.{own_same}
use Rattle.contract_round.specs.Round.{Inlined, Roles, staying, names_stay, replaced, names_replaced, names_in, placed, function_left, as_themselves, known, within, with_arguments, walk, functions_walk, bodies_walk}
use Rattle.contract_frame.specs.Apart.{SameBody}
use Rattle.contract_frame.proofs.Frame.{same_walk}
use Rattle.contract_known.specs.Known.{place_of}
use Rattle.contract_roles.specs.declared.group.Role.{Role}
use Rattle.contract_roles.specs.declared.group.Role.TheVariants as role
use Rattle.contract_roles.specs.Roles.{as_role}
use Rattle.contract_binds.specs.Law.{no_variable}
use Rattle.contract_group.specs.declared.task.Placed.{Placed}
use Rattle.contract_group.specs.Group.{place_step, placed_step, kept_step, kept_front, number_after, group_places, group_placed, group_kept}
use Rattle.contract_holds.specs.Fits.{body_in, bodies_in}
use Rattle.contract_holds.proofs.Tables.{put_other, put_same}
use Rattle.contract_holds.proofs.Still.{places_none, unmet_none}
use Rattle.contract_holds.proofs.Group.{entry, replaced_step, staying_step, place_length, placed_length, placed_other, AreApart, rest_apart, head_apart, RolesAre}

-- ---- Places

with_same : (xs : List ℕ) (us : List Atom) (σ ς : ℕ → Atom) → ((y : ℕ) → σ y ≡ ς y) → (y : ℕ) → with_arguments σ xs us y ≡ with_arguments ς xs us y
with_same [] us σ ς h = h
with_same (x ∷ xs) [] σ ς h = h
with_same (x ∷ xs) (u ∷ us) σ ς h = with_same xs us (bind σ x u) (bind ς x u) (λ y. ap (λ v. cond (nat_eq y x) u v) (h y))

pub themselves_same : (xs : List ℕ) (σ ς : ℕ → Atom) → ((x : ℕ) → 1 ≤ names_weigh (of_name x) xs → ς x ≡ atom.Var x) → ((y : ℕ) → σ y ≡ ς y) → (y : ℕ) → as_themselves σ xs y ≡ ς y
themselves_same [] σ ς v h = h
themselves_same (x ∷ xs) σ ς v h = themselves_same xs (bind σ x (atom.Var x)) ς (λ y l. v y (omega arith)) next
  where
    here : ς x ≡ atom.Var x
    here = v x (let o = own_same x x refl in omega arith)

    next : (y : ℕ) → bind σ x (atom.Var x) y ≡ ς y
    next y = by (nat_eq y x) refl
      where
        by : (b : Bool) → nat_eq y x ≡ b → cond b (atom.Var x) (σ y) ≡ ς y
        by true e = sym here ∙ ap ς (sym (eqb-true y x e))
        by false e = h y

module _ (part : ℕ → Code) (w : Roles) where
  stays_names : (fs : List Entry) (σ ς : ℕ → Atom) → AllByRecursion (λ f. ς f.name ≡ atom.Var f.name) fs → ((y : ℕ) → σ y ≡ ς y) → (y : ℕ) → names_stay w (functions_of part fs) σ y ≡ ς y
  stays_names [] σ ς v h = h
  stays_names (f ∷ fs) σ ς v h = stays_names fs (staying (w f.name f.params (part f.body)) f.name σ) ς v.1 (staying_step f (w f.name f.params (part f.body)) σ ς v.0 h)

  replaced_names : (rs : List Role) (fs : List Entry) (σ : ℕ → Atom) (places : List Atom) → RolesAre part w rs fs → AllByRecursion (λ f. f.name < length places) fs → ((y : ℕ) → σ y ≡ place_of places y) → (y : ℕ) → names_replaced w (functions_of part fs) σ y ≡ place_of (group_places rs fs places) y
  replaced_names [] [] σ places e l h = h
  replaced_names [] (f ∷ fs) σ places e l h = absurd e
  replaced_names (r ∷ rs) [] σ places e l h = absurd e
  replaced_names (r ∷ rs) (f ∷ fs) σ places e l h =
      replaced_names rs fs (replaced (w f.name f.params (part f.body)) f.name σ) (place_step r f places) e.1 (below fs l.1) (λ y. ap (λ q. replaced q f.name σ y) (sym e.0) ∙ replaced_step f r σ places l.0 h y)
    where
      below : (fs : List Entry) → AllByRecursion (λ f. f.name < length places) fs → AllByRecursion (λ g. g.name < length (place_step r f places)) fs
      below [] a = tt
      below (g ∷ gs) a = (let k = a.0 in let n = place_length f r places in omega arith, below gs a.1)

  pub names_agree : (rs : List Role) (fs : List Entry) (places : List Atom) → RolesAre part w rs fs → AllByRecursion (λ f. f.name < length places) fs → AllByRecursion (λ f. place_of places f.name ≡ atom.Var f.name) fs → (y : ℕ) → names_in w (functions_of part fs) (place_of places) y ≡ place_of (group_places rs fs places) y
  names_agree rs fs places e l v = replaced_names rs fs (names_stay w (functions_of part fs) (place_of places)) places e l (stays_names fs (place_of places) (place_of places) v (λ y. refl))

  -- ---- Functions that stay

  module _ (texts : List (List ℕ)) (σ : ℕ → Atom) (P : ℕ → Code) where
    abbrev pub StayFits : Role → ℕ → Entry → Type 0
    StayFits role.Stays n f = walk texts (within σ f.params) (part f.body) ≡ P n
    StayFits _ n f = Unit {0}

    abbrev pub KeptFit : ℕ → List Role → List Entry → Type 0
    KeptFit n [] fs = Unit {0}
    KeptFit n (r ∷ rs) [] = Unit {0}
    KeptFit n (r ∷ rs) (f ∷ fs) = StayFits r n f × KeptFit (number_after r n) rs fs

    one_walked : (r : Role) (n : ℕ) (f : Entry) (walked : Functions) (rest : List Entry) → StayFits r n f → walked ≡ functions_of P rest → function_left (as_role r) f.name f.point f.params (walk texts (within σ f.params) (part f.body)) walked ≡ functions_of P (kept_front (kept_step n r f) rest)
    one_walked role.Dropped n f walked rest s e = e
    one_walked role.Placed n f walked rest s e = e
    one_walked (role.Replaced x) n f walked rest s e = e
    one_walked role.Stays n f walked rest s e = ap (λ b. Function f.name f.point f.params b walked) s ∙ ap (Function f.name f.point f.params (P n)) e

    pub kept_walked : (n : ℕ) (rs : List Role) (fs : List Entry) → RolesAre part w rs fs → KeptFit n rs fs → functions_walk texts w σ (functions_of part fs) ≡ functions_of P (group_kept n rs fs)
    kept_walked n [] [] e k = refl
    kept_walked n [] (f ∷ fs) e k = absurd e
    kept_walked n (r ∷ rs) [] e k = absurd e
    kept_walked n (r ∷ rs) (f ∷ fs) e k =
        ap (λ q. function_left q f.name f.point f.params (walk texts (within σ f.params) (part f.body)) (functions_walk texts w σ (functions_of part fs))) (sym e.0)
        ∙ one_walked r n f (functions_walk texts w σ (functions_of part fs)) (group_kept (number_after r n) rs fs) k.0 (kept_walked (number_after r n) rs fs e.1 k.1)

-- ---- Functions that are put where they are called

module _ (texts : List (List ℕ)) (source : List Body) (w : Roles) (σ : ℕ → Atom) (places : List Atom) (same : (y : ℕ) → σ y ≡ place_of places y) where
  abbrev inlined : Entry → Inlined
  inlined f = record { params = f.params; code = λ atoms τ. walk texts (known (with_arguments σ f.params atoms) τ nothing) (code_at source f.body) }

  inlined_same : (f : Entry) → SameBody no_variable (Some (inlined f)) (body_in texts source places (Some (entry f)))
  inlined_same f = (
    refl,
    λ atoms τ t v k. same_walk no_variable no_variable (λ y e. e) texts (code_at source f.body) (known (with_arguments σ f.params atoms) τ nothing) (known (with_arguments (place_of places) f.params atoms) t nothing) (unmet_none _) (unmet_none _)
        (record { places = places_none (with_arguments σ f.params atoms) (with_arguments (place_of places) f.params atoms) (with_same f.params atoms σ (place_of places) same); blocks = k; bodies = λ g d. tt }),
  )

  module _ (f : Entry) (table : List (Option Placed)) (l : f.name < length table) (none : get_or table f.name None ≡ None) (ι : ℕ → Option Inlined) (h : (g : ℕ) → SameBody no_variable (ι g) (bodies_in texts source places table g)) where
    put_there : (g : ℕ) → SameBody no_variable (bind ι f.name (Some (inlined f)) g) (bodies_in texts source places (placed_step role.Placed f table) g)
    put_there g = by (nat_eq g f.name) refl
      where
        by : (b : Bool) → nat_eq g f.name ≡ b → SameBody no_variable (cond b (Some (inlined f)) (ι g)) (bodies_in texts source places (placed_step role.Placed f table) g)
        by true e = subst (SameBody no_variable (Some (inlined f))) (sym (ap (bodies_in texts source places (placed_step role.Placed f table)) (eqb-true g f.name e) ∙ ap (body_in texts source places) (put_same f.name (Some (entry f)) None table l))) (inlined_same f)
        by false e = subst (SameBody no_variable (ι g)) (sym (ap (body_in texts source places) (put_other f.name g (Some (entry f)) None table (eqb_other g f.name e)))) (h g)

    none_there : (g : ℕ) → SameBody no_variable (bind ι f.name None g) (bodies_in texts source places table g)
    none_there g = by (nat_eq g f.name) refl
      where
        by : (b : Bool) → nat_eq g f.name ≡ b → SameBody no_variable (cond b None (ι g)) (bodies_in texts source places table g)
        by true e = subst (SameBody no_variable None) (sym (ap (bodies_in texts source places table) (eqb-true g f.name e) ∙ ap (body_in texts source places) none)) tt
        by false e = h g

    placed_bodies : (r : Role) (g : ℕ) → SameBody no_variable (placed (as_role r) f.name (inlined f) ι g) (bodies_in texts source places (placed_step r f table) g)
    placed_bodies role.Placed g = put_there g
    placed_bodies role.Dropped g = none_there g
    placed_bodies role.Stays g = none_there g
    placed_bodies (role.Replaced x) g = none_there g

  pub bodies_agree : (rs : List Role) (fs : List Entry) (table : List (Option Placed)) (ι : ℕ → Option Inlined) → RolesAre (code_at source) w rs fs → AreApart fs → AllByRecursion (λ f. (f.name < length table) × (get_or table f.name None ≡ None)) fs → ((g : ℕ) → SameBody no_variable (ι g) (bodies_in texts source places table g)) → (g : ℕ) → SameBody no_variable (bodies_walk texts w σ (functions_of (code_at source) fs) ι g) (bodies_in texts source places (group_placed rs fs table) g)
  bodies_agree [] [] table ι e d a h = h
  bodies_agree [] (f ∷ fs) table ι e d a h = absurd e
  bodies_agree (r ∷ rs) [] table ι e d a h = absurd e
  bodies_agree (r ∷ rs) (f ∷ fs) table ι e d a h =
      let here = a.0 in
      bodies_agree rs fs (placed_step r f table) (placed (w f.name f.params (code_at source f.body)) f.name (inlined f) ι) e.1 (rest_apart f fs d)
      (next f r table fs (λ g i. head_apart f fs d g i) a.1)
      (λ g. subst (λ q. SameBody no_variable (placed q f.name (inlined f) ι g) (bodies_in texts source places (placed_step r f table) g)) e.0 (placed_bodies f table here.0 here.1 ι h r g))
    where
      next : (f : Entry) (r : Role) (table : List (Option Placed)) (gs : List Entry) → ((g : Entry) → IsAmong g gs → g.name ≢ f.name) → AllByRecursion (λ g. (g.name < length table) × (get_or table g.name None ≡ None)) gs → AllByRecursion (λ g. (g.name < length (placed_step r f table)) × (get_or (placed_step r f table) g.name None ≡ None)) gs
      next f r table [] n a = tt
      next f r table (g ∷ gs) n a = let k = a.0 in ((let l = k.0 in let e = placed_length f r table in omega arith, placed_other f r table g.name (n g (inl refl)) ∙ k.1), next f r table gs (λ h i. n h (inr i)) a.1)
