-- Counts in functions that are bound together.
use Rattle.std.proofs.Common.{◌≡◌, ◌≢◌, ℕ, suc, ◌+◌, ◌≤◌, ◌<◌, List, [], ◌∷◌, ◌++◌, length, map, replicate, Bool, true, false, Option, Some, None, inl, inr, ◌⊎◌, nat_eq, refl, sym, ap, ◌∙◌, arith, ⊎_elim, eqb-true, append_assoc, append-nil}
use Rattle.std.specs.Prelude.{get_or}
use Rattle.std.specs.List.{AllByRecursion}
use Rattle.simulation.specs.Blocks.{IsAmong}
use Rattle.simulation.proofs.Lists.{some_eq}
use Rattle.smlc_base.specs.declared.point.Point.{Point}
use Rattle.cps_ir.specs.declared.atom.Atom.{Atom}
use Rattle.cps_ir.specs.declared.atom.Atom.TheVariants as atom
use Rattle.cps_ir.specs.declared.body.Function.{Function as Entry}
use Rattle.cps_ir.specs.declared.body.Body.{Body}
use Rattle.cps_ir.specs.Code.{Code, Functions, Function}
use Rattle.cps_ir.specs.Program.{code_at, functions_of}
use Rattle.contract_laws.specs.Redex.{uses_atom}
use Rattle.contract_laws.specs.Weigh.{weigh, names_weigh, of_name}
use Rattle.contract_laws.proofs.Relation.{eqb_other}
use Rattle.contract_round.specs.Round as round
use Rattle.contract_round.specs.Round.{Roles}
use Rattle.contract_known.specs.Known.{place_of}
use Rattle.contract_roles.specs.declared.group.Role.{Role}
use Rattle.contract_roles.specs.declared.group.Role.TheVariants as role
use Rattle.contract_rows.specs.Rows.{empty, numbers}
use Rattle.contract_group.specs.declared.task.Placed.{Placed}
use Rattle.contract_group.specs.declared.task.Task.{Task}
use Rattle.contract_group.specs.Group as group
use Rattle.contract_group.specs.Group.{place_step, placed_step, kept_step, kept_front, number_after, tasks_step, with_new, group_places, group_placed, group_kept, group_tasks, group_bodies}
use Rattle.contract_holds.specs.Open.{occurs, occurs_in, binds_in, work_sum, placed_sum}
use Rattle.contract_holds.specs.Fits.{slots_of}
use Rattle.contract_holds.proofs.Sums.{placed_set}
use Rattle.contract_holds.proofs.Occurs.{cond_has}
use Rattle.contract_holds.proofs.Tables.{put_is, put_length, put_other, put_same}
use Rattle.contract_holds.proofs.Narrow.{or_same}
use Rattle.contract_holds.proofs.Group.{entry, AreApart, rest_apart, head_apart, RolesAre}

-- ---- New bodies and tasks

abbrev pub stays_count : List Role → List Entry → ℕ
stays_count [] fs = 0
stays_count (r ∷ rs) [] = 0
stays_count (role.Stays ∷ rs) (f ∷ fs) = suc (stays_count rs fs)
stays_count (r ∷ rs) (f ∷ fs) = stays_count rs fs

abbrev pub tasks_front : ℕ → Role → Entry → List Task → List Task
tasks_front n role.Stays f ts = record { body = f.body; root = n; slot = n } ∷ ts
tasks_front n _ f ts = ts

abbrev pub group_list : ℕ → List Role → List Entry → List Task
group_list n [] fs = []
group_list n (r ∷ rs) [] = []
group_list n (r ∷ rs) (f ∷ fs) = tasks_front n r f (group_list (number_after r n) rs fs)

step_append : (n : ℕ) (r : Role) (f : Entry) (work ts : List Task) → tasks_step n r f work ++ ts ≡ work ++ tasks_front n r f ts
step_append n role.Dropped f work ts = refl
step_append n role.Placed f work ts = refl
step_append n (role.Replaced x) f work ts = refl
step_append n role.Stays f work ts = append_assoc work (record { body = f.body; root = n; slot = n } ∷ []) ts

pub group_tasks_are : (n : ℕ) (rs : List Role) (fs : List Entry) (work : List Task) → group_tasks n rs fs work ≡ work ++ group_list n rs fs
group_tasks_are n [] fs work = sym (append-nil work)
group_tasks_are n (r ∷ rs) [] work = sym (append-nil work)
group_tasks_are n (r ∷ rs) (f ∷ fs) work = group_tasks_are (number_after r n) rs fs (tasks_step n r f work) ∙ step_append n r f work (group_list (number_after r n) rs fs)

pub group_slots : (n : ℕ) (rs : List Role) (fs : List Entry) → slots_of (group_list n rs fs) ≡ numbers n (stays_count rs fs)
group_slots n [] fs = refl
group_slots n (r ∷ rs) [] = refl
group_slots n (role.Dropped ∷ rs) (f ∷ fs) = group_slots n rs fs
group_slots n (role.Placed ∷ rs) (f ∷ fs) = group_slots n rs fs
group_slots n (role.Replaced x ∷ rs) (f ∷ fs) = group_slots n rs fs
group_slots n (role.Stays ∷ rs) (f ∷ fs) = ap (λ is. n ∷ is) (group_slots (suc n) rs fs)

pub kept_parts : (n : ℕ) (rs : List Role) (fs : List Entry) → map (λ f. f.body) (group_kept n rs fs) ≡ numbers n (stays_count rs fs)
kept_parts n [] fs = refl
kept_parts n (r ∷ rs) [] = refl
kept_parts n (role.Dropped ∷ rs) (f ∷ fs) = kept_parts n rs fs
kept_parts n (role.Placed ∷ rs) (f ∷ fs) = kept_parts n rs fs
kept_parts n (role.Replaced x ∷ rs) (f ∷ fs) = kept_parts n rs fs
kept_parts n (role.Stays ∷ rs) (f ∷ fs) = ap (λ is. n ∷ is) (kept_parts (suc n) rs fs)

pub group_bodies_are : (rs : List Role) (fs : List Entry) (bodies : List Body) → group_bodies rs fs bodies ≡ bodies ++ replicate (stays_count rs fs) empty
group_bodies_are [] fs bodies = sym (append-nil bodies)
group_bodies_are (r ∷ rs) [] bodies = sym (append-nil bodies)
group_bodies_are (role.Dropped ∷ rs) (f ∷ fs) bodies = group_bodies_are rs fs bodies
group_bodies_are (role.Placed ∷ rs) (f ∷ fs) bodies = group_bodies_are rs fs bodies
group_bodies_are (role.Replaced x ∷ rs) (f ∷ fs) bodies = group_bodies_are rs fs bodies
group_bodies_are (role.Stays ∷ rs) (f ∷ fs) bodies = group_bodies_are rs fs (bodies ++ empty ∷ []) ∙ append_assoc bodies (empty ∷ []) (replicate (stays_count rs fs) empty)

pub group_rooted : (n top : ℕ) (rs : List Role) (fs : List Entry) → n + stays_count rs fs ≤ top → AllByRecursion (λ u. u.root < top) (group_list n rs fs)
group_rooted n top [] fs l = tt
group_rooted n top (r ∷ rs) [] l = tt
group_rooted n top (role.Dropped ∷ rs) (f ∷ fs) l = group_rooted n top rs fs l
group_rooted n top (role.Placed ∷ rs) (f ∷ fs) l = group_rooted n top rs fs l
group_rooted n top (role.Replaced x ∷ rs) (f ∷ fs) l = group_rooted n top rs fs l
group_rooted n top (role.Stays ∷ rs) (f ∷ fs) l = (omega arith, group_rooted (suc n) top rs fs (omega arith))

-- what holds of each function holds of its task
pub group_all : (Q : Task → Type 0) (fs : List Entry) (n : ℕ) (rs : List Role) → ((f : Entry) (k : ℕ) → IsAmong f fs → n ≤ k → Q (record { body = f.body; root = k; slot = k })) → AllByRecursion Q (group_list n rs fs)
group_all Q fs n [] h = tt
group_all Q [] n (r ∷ rs) h = tt
group_all Q (f ∷ fs) n (role.Dropped ∷ rs) h = group_all Q fs n rs (λ g k i l. h g k (inr i) l)
group_all Q (f ∷ fs) n (role.Placed ∷ rs) h = group_all Q fs n rs (λ g k i l. h g k (inr i) l)
group_all Q (f ∷ fs) n (role.Replaced x ∷ rs) h = group_all Q fs n rs (λ g k i l. h g k (inr i) l)
group_all Q (f ∷ fs) n (role.Stays ∷ rs) h = (h f n (inl refl) (omega arith), group_all Q fs (suc n) rs (λ g k i l. h g k (inr i) (omega arith)))

-- ---- Sums

module _ (source : List Body) where
  abbrev pub stays_sum : (List ℕ → Code → ℕ) → List Role → List Entry → ℕ
  stays_sum m [] fs = 0
  stays_sum m (r ∷ rs) [] = 0
  stays_sum m (role.Stays ∷ rs) (f ∷ fs) = m f.params (code_at source f.body) + stays_sum m rs fs
  stays_sum m (r ∷ rs) (f ∷ fs) = stays_sum m rs fs

  pub list_sum : (m : Code → ℕ) (n : ℕ) (rs : List Role) (fs : List Entry) → work_sum source m (group_list n rs fs) ≡ stays_sum (λ ps b. m b) rs fs
  list_sum m n [] fs = refl
  list_sum m n (r ∷ rs) [] = refl
  list_sum m n (role.Dropped ∷ rs) (f ∷ fs) = list_sum m n rs fs
  list_sum m n (role.Placed ∷ rs) (f ∷ fs) = list_sum m n rs fs
  list_sum m n (role.Replaced x ∷ rs) (f ∷ fs) = list_sum m n rs fs
  list_sum m n (role.Stays ∷ rs) (f ∷ fs) = let h = list_sum m (suc n) rs fs in omega arith

  pub binds_sum : (x : ℕ) (rs : List Role) (fs : List Entry) → stays_sum (binds_in x) rs fs ≡ stays_sum (λ ps b. names_weigh (of_name x) ps) rs fs + stays_sum (λ ps b. weigh (of_name x) b) rs fs
  binds_sum x [] fs = refl
  binds_sum x (r ∷ rs) [] = refl
  binds_sum x (role.Dropped ∷ rs) (f ∷ fs) = binds_sum x rs fs
  binds_sum x (role.Placed ∷ rs) (f ∷ fs) = binds_sum x rs fs
  binds_sum x (role.Replaced y ∷ rs) (f ∷ fs) = binds_sum x rs fs
  binds_sum x (role.Stays ∷ rs) (f ∷ fs) = let h = binds_sum x rs fs in omega arith

  pub occurs_sum : (x : ℕ) (rs : List Role) (fs : List Entry) → stays_sum (λ ps b. names_weigh (of_name x) ps) rs fs ≡ 0 → stays_sum (λ ps b. occurs x b) rs fs ≤ stays_sum (occurs_in x) rs fs
  occurs_sum x [] fs e = omega arith
  occurs_sum x (r ∷ rs) [] e = omega arith
  occurs_sum x (role.Dropped ∷ rs) (f ∷ fs) e = occurs_sum x rs fs e
  occurs_sum x (role.Placed ∷ rs) (f ∷ fs) e = occurs_sum x rs fs e
  occurs_sum x (role.Replaced y ∷ rs) (f ∷ fs) e = occurs_sum x rs fs e
  occurs_sum x (role.Stays ∷ rs) (f ∷ fs) e = let h = occurs_sum x rs fs (omega arith) in let c = cond_has x f.params (occurs x (code_at source f.body)) (omega arith) in omega arith

  -- functions that stay and those that are placed are some of them
  module _ (ms k : List ℕ → Code → ℕ) (mf : Functions → ℕ) (stays : (f : ℕ) (p : Point) (ps : List ℕ) (b : Code) (fs : Functions) → ms ps b + mf fs ≤ mf (Function f p ps b fs)) (puts : (f : ℕ) (p : Point) (ps : List ℕ) (b : Code) (fs : Functions) → k ps b + mf fs ≤ mf (Function f p ps b fs)) where
    pub group_sum : (rs : List Role) (fs : List Entry) (table : List (Option Placed)) → AreApart fs → AllByRecursion (λ f. (f.name < length table) × (get_or table f.name None ≡ None)) fs → stays_sum ms rs fs + placed_sum source k (group_placed rs fs table) ≤ mf (functions_of (code_at source) fs) + placed_sum source k table
    group_sum [] fs table d a = omega arith
    group_sum (r ∷ rs) [] table d a = omega arith
    group_sum (role.Dropped ∷ rs) (f ∷ fs) table d a =
        let h = group_sum rs fs table (rest_apart f fs d) a.1 in
        let g = stays f.name f.point f.params (code_at source f.body) (functions_of (code_at source) fs) in
        omega arith
    group_sum (role.Replaced x ∷ rs) (f ∷ fs) table d a =
        let h = group_sum rs fs table (rest_apart f fs d) a.1 in
        let g = stays f.name f.point f.params (code_at source f.body) (functions_of (code_at source) fs) in
        omega arith
    group_sum (role.Stays ∷ rs) (f ∷ fs) table d a =
        let h = group_sum rs fs table (rest_apart f fs d) a.1 in
        let g = stays f.name f.point f.params (code_at source f.body) (functions_of (code_at source) fs) in
        omega arith
    group_sum (role.Placed ∷ rs) (f ∷ fs) table d a =
        let here = a.0 in
        let new = group.put f.name (Some (entry f)) table in
        let h = group_sum rs fs new (rest_apart f fs d) (next fs (λ g i. head_apart f fs d g i) a.1) in
        let g = puts f.name f.point f.params (code_at source f.body) (functions_of (code_at source) fs) in
        let e : placed_sum source k new ≡ k f.params (code_at source f.body) + placed_sum source k table = ap (placed_sum source k) (put_is f.name (Some (entry f)) table here.0) ∙ placed_set source k table f.name (entry f) here.0 here.1 in
        omega arith
      where
        next : (gs : List Entry) → ((g : Entry) → IsAmong g gs → g.name ≢ f.name) → AllByRecursion (λ g. (g.name < length table) × (get_or table g.name None ≡ None)) gs → AllByRecursion (λ g. (g.name < length (group.put f.name (Some (entry f)) table)) × (get_or (group.put f.name (Some (entry f)) table) g.name None ≡ None)) gs
        next [] n a = tt
        next (g ∷ gs) n a = let q = a.0 in ((let l = q.0 in let e = put_length f.name (Some (entry f)) table in omega arith, put_other f.name g.name (Some (entry f)) None table (n g (inl refl)) ∙ q.1), next gs (λ h i. n h (inr i)) a.1)

-- ---- What is placed

-- g is one of the functions, and is placed
abbrev pub IsPlaced : (ℕ → Code) → Roles → ℕ → Placed → List Entry → Type 0
IsPlaced part w g q fs = (f : Entry) × IsAmong f fs × (w f.name f.params (part f.body) ≡ round.Placed) × (g ≡ f.name) × (q ≡ entry f)

module _ (part : ℕ → Code) (w : Roles) where
  behind : (g : ℕ) (q : Placed) (f : Entry) (fs : List Entry) → IsPlaced part w g q fs → IsPlaced part w g q (f ∷ fs)
  behind g q f fs p = (p.0, inr p.1, p.2, p.3, p.4)

  pub placed_cases : (rs : List Role) (fs : List Entry) (table : List (Option Placed)) → RolesAre part w rs fs → AllByRecursion (λ f. f.name < length table) fs → (g : ℕ) (q : Placed) → get_or (group_placed rs fs table) g None ≡ Some q → (get_or table g None ≡ Some q) ⊎ IsPlaced part w g q fs
  placed_cases [] [] table e l g q h = inl h
  placed_cases [] (f ∷ fs) table e l g q h = absurd e
  placed_cases (r ∷ rs) [] table e l g q h = absurd e
  placed_cases (role.Dropped ∷ rs) (f ∷ fs) table e l g q h = ⊎_elim (λ (i : get_or table g None ≡ Some q). inl i) (λ (i : IsPlaced part w g q fs). inr (behind g q f fs i)) (placed_cases rs fs table e.1 l.1 g q h)
  placed_cases (role.Stays ∷ rs) (f ∷ fs) table e l g q h = ⊎_elim (λ (i : get_or table g None ≡ Some q). inl i) (λ (i : IsPlaced part w g q fs). inr (behind g q f fs i)) (placed_cases rs fs table e.1 l.1 g q h)
  placed_cases (role.Replaced x ∷ rs) (f ∷ fs) table e l g q h = ⊎_elim (λ (i : get_or table g None ≡ Some q). inl i) (λ (i : IsPlaced part w g q fs). inr (behind g q f fs i)) (placed_cases rs fs table e.1 l.1 g q h)
  placed_cases (role.Placed ∷ rs) (f ∷ fs) table e l g q h =
      ⊎_elim (λ (i : get_or new g None ≡ Some q). here i) (λ (i : IsPlaced part w g q fs). inr (behind g q f fs i))
      (placed_cases rs fs new e.1 (below fs l.1) g q h)
    where
      new : List (Option Placed)
      new = group.put f.name (Some (entry f)) table

      below : (gs : List Entry) → AllByRecursion (λ g. g.name < length table) gs → AllByRecursion (λ g. g.name < length new) gs
      below [] a = tt
      below (g ∷ gs) a = (let k = a.0 in let n : length new ≡ length table = put_length f.name (Some (entry f)) table in omega arith, below gs a.1)

      here : get_or new g None ≡ Some q → (get_or table g None ≡ Some q) ⊎ IsPlaced part w g q (f ∷ fs)
      here i = by (nat_eq g f.name) refl
        where
          by : (b : Bool) → nat_eq g f.name ≡ b → (get_or table g None ≡ Some q) ⊎ IsPlaced part w g q (f ∷ fs)
          by true j = inr (f, inl refl, sym e.0, eqb-true g f.name j, some_eq (λ p. p ≡ entry f) (entry f) q (sym (put_same f.name (Some (entry f)) None table l.0) ∙ ap (λ v. get_or new v None) (sym (eqb-true g f.name j)) ∙ i) refl)
          by false j = inl (sym (put_other f.name g (Some (entry f)) None table (eqb_other g f.name j)) ∙ i)

-- ---- What stands in the place of names

-- f is replaced by x
abbrev pub IsReplaced : (ℕ → Code) → Roles → ℕ → List Entry → Type 0
IsReplaced part w x fs = (f : Entry) × IsAmong f fs × (w f.name f.params (part f.body) ≡ round.Replaced x)

pub group_clean : (part : ℕ → Code) (w : Roles) (z : ℕ) (rs : List Role) (fs : List Entry) (places : List Atom) → RolesAre part w rs fs → AllByRecursion (λ f. f.name < length places) fs → ((x : ℕ) → IsReplaced part w x fs → x ≢ z) → ((y : ℕ) → y ≢ z → uses_atom z (place_of places y) ≡ 0) → (y : ℕ) → y ≢ z → uses_atom z (place_of (group_places rs fs places) y) ≡ 0
group_clean part w z [] [] places e l t h = h
group_clean part w z [] (f ∷ fs) places e l t h = absurd e
group_clean part w z (r ∷ rs) [] places e l t h = absurd e
group_clean part w z (role.Dropped ∷ rs) (f ∷ fs) places e l t h = group_clean part w z rs fs places e.1 l.1 (λ x i. t x (i.0, inr i.1, i.2)) h
group_clean part w z (role.Stays ∷ rs) (f ∷ fs) places e l t h = group_clean part w z rs fs places e.1 l.1 (λ x i. t x (i.0, inr i.1, i.2)) h
group_clean part w z (role.Placed ∷ rs) (f ∷ fs) places e l t h = group_clean part w z rs fs places e.1 l.1 (λ x i. t x (i.0, inr i.1, i.2)) h
group_clean part w z (role.Replaced v ∷ rs) (f ∷ fs) places e l t h =
    group_clean part w z rs fs (group.put f.name (place_of places v) places) e.1 (below fs l.1) (λ x i. t x (i.0, inr i.1, i.2)) next
  where
    below : (gs : List Entry) → AllByRecursion (λ g. g.name < length places) gs → AllByRecursion (λ g. g.name < length (group.put f.name (place_of places v) places)) gs
    below [] a = tt
    below (g ∷ gs) a = (let k = a.0 in let n = put_length f.name (place_of places v) places in omega arith, below gs a.1)

    next : (y : ℕ) → y ≢ z → uses_atom z (place_of (group.put f.name (place_of places v) places) y) ≡ 0
    next y n = or_same f.name y (λ u. uses_atom z (place_of (group.put f.name (place_of places v) places) u) ≡ 0)
        (ap (uses_atom z) (put_same f.name (place_of places v) (atom.Var f.name) places l.0) ∙ h v (t v (f, inl refl, sym e.0)))
        (λ q. ap (uses_atom z) (put_other f.name y (place_of places v) (atom.Var y) places q) ∙ h y n)
