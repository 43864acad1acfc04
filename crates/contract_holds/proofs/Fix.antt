-- The step at functions that are bound together.
use Rattle.std.proofs.Common.{◌≡◌, ◌≢◌, ℕ, zero, suc, ◌+◌, ◌≤◌, ◌<◌, List, ◌++◌, length, Bool, true, false, cond, Option, Some, None, ◌⊎◌, nat_eq, refl, sym, ap, ◌∙◌, subst, arith, ⊎_elim, ne_eqb}
use Rattle.std.specs.Prelude.{get_or}
use Rattle.std.specs.List.{AllByRecursion}
use Rattle.simulation.specs.Blocks.{IsAmong}
use Rattle.sml_tree.specs.Sets.{has}
use Rattle.cps_ir.specs.declared.atom.Atom.{Atom}
use Rattle.cps_ir.specs.declared.atom.Atom.TheVariants as atom
use Rattle.cps_ir.specs.declared.body.Function.{Function as Entry}
use Rattle.cps_ir.specs.declared.body.Body.{Body}
use Rattle.cps_ir.specs.Code.{Code, Fix, Functions, names_of}
use Rattle.cps_ir.specs.Program.{code_at, functions_of}
use Rattle.contract_laws.specs.Contract.{nothing}
use Rattle.contract_laws.specs.Redex.{uses, uses_functions, nodes, nodes_functions}
use Rattle.contract_laws.specs.Weigh.{weigh, names_weigh, of_name}
use Rattle.contract_round.specs.Round.{Roles, role_in, names_in, within, known, walk, bodies_walk}
use Rattle.contract_round.proofs.Names.{inside_weigh, functions_weigh}
use Rattle.contract_round.proofs.Roles.{placed_uses, etas}
use Rattle.contract_frame.specs.Apart.{Unmet, SameBody}
use Rattle.contract_frame.proofs.Frame.{same_walk}
use Rattle.contract_census.specs.declared.counts.Count.{Count}
use Rattle.contract_census.specs.Counted.{IsCensus}
use Rattle.contract_known.specs.declared.blocks.Block.{Block}
use Rattle.contract_known.specs.Known.{place_of, made_in, made_at}
use Rattle.contract_roles.specs.declared.group.Role.{Role}
use Rattle.contract_roles.specs.Roles.{AreRoles}
use Rattle.contract_binds.specs.Law.{no_variable}
use Rattle.contract_group.specs.declared.task.Placed.{Placed}
use Rattle.contract_group.specs.declared.task.Task.{Task}
use Rattle.contract_group.specs.Group.{group_places, group_placed}
use Rattle.contract_steps.specs.State.{State}
use Rattle.contract_holds.specs.Open.{occurs, occurs_in, occurs_functions, binds_in, inner, work_sum, placed_sum, all_binds, all_occurs, all_uses, all_inner, all_nodes}
use Rattle.contract_holds.specs.Holds.{IsUnentered, Holds}
use Rattle.contract_holds.specs.Fits.{body_in, bodies_in, scope_in}
use Rattle.contract_holds.specs.Turn.{Ready}
use Rattle.contract_holds.proofs.Sums.{work_append}
use Rattle.contract_holds.proofs.Occurs.{cond_has, has_weighs, weighs_none, calls_inner}
use Rattle.contract_holds.proofs.Still.{Still, still_walk, none_occurs, here_task, here_placed, places_none, blocks_none, unmet_none, same_bodies}
use Rattle.contract_holds.proofs.Filled.{all_both, all_from}
use Rattle.contract_holds.proofs.Group.{names, names_are, named_weighs, AreApart, places_length, places_other, group_length, group_other, RolesAre, roles_are}
use Rattle.contract_holds.proofs.Stay.{themselves_same, names_agree, bodies_agree}
use Rattle.contract_holds.proofs.Counts.{group_list, stays_sum, list_sum, binds_sum, occurs_sum, group_sum, group_all, IsPlaced, placed_cases, IsReplaced, group_clean}
use Rattle.contract_holds.proofs.Quiet.{work_quiet, work_inner, placed_quiet, uses_in, inside_in, target_occurs, each_counted}

abbrev pub is_there : Option Placed → Bool
is_there None = false
is_there (Some q) = true

module _ (texts : List (List ℕ)) (source : List Body) (counts : List Count) (t : Task) (fs : List Entry) (c : Code) (s : State) (r : Ready texts source counts t (Fix (functions_of (code_at source) fs) c) s) (rs : List Role) (a : AreRoles counts source fs rs) where
  abbrev FS : Functions
  FS = functions_of (code_at source) fs

  abbrev head : Code
  head = Fix FS c

  abbrev hold : Holds source counts head s
  hold = r.holds

  abbrev role : Roles
  role = role_in FS c

  pub roles : RolesAre (code_at source) role rs fs
  roles = roles_are (code_at source) role rs fs (a c (λ x. let k = hold.counted x in k.0))

  abbrev named : ℕ → ℕ
  named x = names_weigh (of_name x) (names fs)

  head_weighs : (x : ℕ) → weigh (of_name x) head ≡ (named x + inside_weigh x FS) + weigh (of_name x) c
  head_weighs x = let k = functions_weigh x FS in let e = ap (names_weigh (of_name x)) (names_are (code_at source) fs) in omega arith

  fs_apart : AreApart fs
  fs_apart x = let k = head_weighs x in let o = hold.once x in omega arith

  unentered : (f : Entry) → IsAmong f fs → IsUnentered s f.name
  unentered f i = let k = head_weighs f.name in let w = named_weighs fs f i in hold.fresh f.name (omega arith)

  below_places : AllByRecursion (λ f. f.name < length s.places) fs
  below_places = all_from (λ f. f.name < length s.places) fs (λ f i. let u = unentered f i in u.has_place)

  below_table : AllByRecursion (λ f. f.name < length s.placed) fs
  below_table = all_from (λ f. f.name < length s.placed) fs (λ f i. let u = unentered f i in u.has_body)

  free_table : AllByRecursion (λ f. (f.name < length s.placed) × (get_or s.placed f.name None ≡ None)) fs
  free_table = all_from (λ f. (f.name < length s.placed) × (get_or s.placed f.name None ≡ None)) fs (λ f i. let u = unentered f i in (u.has_body, u.body))

  -- what the tables are then, with any bodies that are more
  module _ (bodies : List Body) (longer : length s.bodies ≤ length bodies) where
    abbrev n : State
    n = record { places = group_places rs fs s.places; blocks = s.blocks; placed = group_placed rs fs s.placed; bodies = bodies; work = s.work ++ group_list (length s.bodies) rs fs }

    -- ---- Counts

    work_more : (m : Code → ℕ) → work_sum source m n.work ≡ work_sum source m s.work + stays_sum source (λ ps b. m b) rs fs
    work_more m = let k = work_append source m s.work (group_list (length s.bodies) rs fs) in let l = list_sum source m (length s.bodies) rs fs in omega arith

    binds_more : (x : ℕ) → (all_binds source c n x + stays_sum source (λ ps b. names_weigh (of_name x) ps) rs fs) + named x ≤ all_binds source head s x
    binds_more x =
        let w = work_more (λ d. weigh (of_name x) d) in
        let e = binds_sum source x rs fs in
        let g = group_sum source (binds_in x) (binds_in x) (inside_weigh x) (λ f p ps b gs. omega arith) (λ f p ps b gs. omega arith) rs fs s.placed fs_apart free_table in
        let k = head_weighs x in
        omega arith

    not_named : (x : ℕ) → 1 ≤ all_binds source c n x → (named x ≡ 0) × (1 ≤ all_binds source head s x)
    not_named x b = let m = binds_more x in let o = hold.once x in (omega arith, omega arith)

    occurs_more : (x : ℕ) → 1 ≤ all_binds source c n x → all_occurs source c n x ≤ all_occurs source head s x
    occurs_more x b =
        let m = binds_more x in
        let o = hold.once x in
        let w = work_more (λ d. occurs x d) in
        let k = occurs_sum source x rs fs (omega arith) in
        let g = group_sum source (occurs_in x) (occurs_in x) (occurs_functions x) (λ f p ps d gs. omega arith) (λ f p ps d gs. omega arith) rs fs s.placed fs_apart free_table in
        let e = ap (names_weigh (of_name x)) (names_are (code_at source) fs) in
        let h = cond_has x (names_of FS) (occurs_functions x FS + occurs x c) (omega arith) in
        omega arith

    uses_more : (x : ℕ) → all_uses source c n x ≤ all_uses source head s x
    uses_more x =
        let w = work_more (λ d. uses x d) in
        let g = group_sum source (λ ps d. uses x d) (λ ps d. uses x d) (uses_functions x) (λ f p ps d gs. omega arith) (λ f p ps d gs. omega arith) rs fs s.placed fs_apart free_table in
        omega arith

    inner_more : (x : ℕ) → all_inner source c n x ≤ all_inner source head s x
    inner_more x =
        let w = work_more (λ d. inner x d) in
        let g = group_sum source (λ ps d. inner x d) (λ ps d. uses x d) (uses_functions x) (λ f p ps d gs. let k = calls_inner x 0 d in omega arith) (λ f p ps d gs. omega arith) rs fs s.placed fs_apart free_table in
        omega arith

    pub nodes_more : all_nodes source c n < all_nodes source head s
    nodes_more =
        let w = work_more (λ d. nodes d) in
        let g = group_sum source (λ ps d. nodes d) (λ ps d. nodes d) nodes_functions (λ f p ps d gs. omega arith) (λ f p ps d gs. omega arith) rs fs s.placed fs_apart free_table in
        omega arith

    closed_more : (x : ℕ) → 1 ≤ all_occurs source c n x → all_binds source c n x ≡ 0
    closed_more x o = by (all_binds source c n x) refl
      where
        by : (k : ℕ) → all_binds source c n x ≡ k → k ≡ 0
        by zero e = refl
        by (suc k) e = let m = not_named x (omega arith) in let m1 = m.1 in let q = occurs_more x (omega arith) in let z = hold.closed x (omega arith) in absurd (omega arith)

    -- ---- What is placed

    cases_placed : (g : ℕ) (q : Placed) → get_or n.placed g None ≡ Some q → (get_or s.placed g None ≡ Some q) ⊎ IsPlaced (code_at source) role g q fs
    cases_placed g q e = placed_cases (code_at source) role rs fs s.placed roles below_table g q e

    -- where a name of the group is used
    named_quiet : (x : ℕ) → 1 ≤ named x → work_sum source (λ d. uses x d) s.work + placed_sum source (λ ps d. uses x d) s.placed ≡ 0
    named_quiet x b =
        let k = head_weighs x in
        let o = hold.once x in
        let z = none_occurs source counts head s hold x (omega arith) in
        let w = work_quiet source x s.work (omega arith) in
        let p = placed_quiet source x s.placed (omega arith) in
        omega arith

    new_single : (g : ℕ) (q : Placed) → IsPlaced (code_at source) role g q fs → all_uses source c n g ≤ 1
    new_single g q i =
        let f = i.0 in
        let pu = placed_uses FS c f.name f.params (code_at source f.body) i.2 in
        let pu0 = pu.0 in
        let pu1 = pu.1 in
        let w = named_weighs fs f i.1 in
        let z = named_quiet f.name w in
        let u = uses_more f.name in
        subst (λ x. all_uses source c n x ≤ 1) (sym i.3) (omega arith)

    new_outer : (g : ℕ) (q : Placed) → IsPlaced (code_at source) role g q fs → all_inner source c n g ≡ 0
    new_outer g q i =
        let f = i.0 in
        let pu = placed_uses FS c f.name f.params (code_at source f.body) i.2 in
        let pu0 = pu.0 in
        let pu1 = pu.1 in
        let pu2 = pu.2 in
        let w = named_weighs fs f i.1 in
        let z = named_quiet f.name w in
        let u = inner_more f.name in
        let k = calls_inner f.name (length f.params) c in
        let v = work_inner source f.name s.work in
        subst (λ x. all_inner source c n x ≡ 0) (sym i.3) (omega arith)

    -- ---- What holds

    target_other : (z : ℕ) → 1 ≤ all_binds source c n z → (x : ℕ) → IsReplaced (code_at source) role x fs → x ≢ z
    target_other z b x i e =
        let f = i.0 in
        let eta = etas FS c f.name f.params (code_at source f.body) x i.2 in
        let o : 1 ≤ occurs_functions z FS = subst (λ v. 1 ≤ occurs_functions v FS) e (target_occurs (code_at source) x fs f i.1 eta) in
        let m = not_named z b in
        let m0 = m.0 in
        let m1 = m.1 in
        let q = ap (names_weigh (of_name z)) (names_are (code_at source) fs) in
        let h = cond_has z (names_of FS) (occurs_functions z FS + occurs z c) (omega arith) in
        let none = none_occurs source counts head s hold z m1 in
        absurd (omega arith)

    bodies_counted : (f : Entry) → IsAmong f fs → IsCensus counts (code_at source f.body)
    bodies_counted = each_counted (code_at source) counts FS c fs (λ x. let k = hold.counted x in k.0)

    pub fix_holds : Holds source counts c n
    fix_holds = record {
      once = λ x. let m = binds_more x in let o = hold.once x in omega arith;
      closed = closed_more;
      single = λ g q e. ⊎_elim (λ (i : get_or s.placed g None ≡ Some q). let o = hold.single g q i in let u = uses_more g in omega arith) (λ (i : IsPlaced (code_at source) role g q fs). new_single g q i) (cases_placed g q e);
      outer = λ g q e. ⊎_elim (λ (i : get_or s.placed g None ≡ Some q). let o = hold.outer g q i in let u = inner_more g in omega arith) (λ (i : IsPlaced (code_at source) role g q fs). new_outer g q i) (cases_placed g q e);
      fresh = λ x b. let m = not_named x b in let u = hold.fresh x m.1 in record {
        has_place = let l = places_length rs fs s.places in let k = u.has_place in omega arith;
        has_block = u.has_block;
        has_body = let l = group_length rs fs s.placed in let k = u.has_body in omega arith;
        place = places_other rs fs s.places x m.0 ∙ u.place;
        block = u.block;
        body = group_other rs fs s.placed x m.0 ∙ u.body;
      };
      places = λ z y b e. let m = not_named z b in group_clean (code_at source) role z rs fs s.places roles below_places (target_other z b) (λ v k. hold.places z v m.1 k) y e;
      blocks = λ z y b k e. let m = not_named z k in hold.blocks z y b m.1 e;
      roots = λ y b e. let k = hold.roots y b e in omega arith;
      counted = λ x. let k = hold.counted x in k.1;
      counted_work = all_both (λ t. IsCensus counts (code_at source t.body)) s.work (group_list (length s.bodies) rs fs) hold.counted_work (group_all (λ t. IsCensus counts (code_at source t.body)) fs (length s.bodies) rs (λ f k i l. bodies_counted f i));
      counted_placed = λ g q e. ⊎_elim (λ (i : get_or s.placed g None ≡ Some q). hold.counted_placed g q i) (λ (i : IsPlaced (code_at source) role g q fs). subst (λ p. IsCensus counts (code_at source p.body)) (sym i.4) (bodies_counted i.0 i.1)) (cases_placed g q e);
    }

    -- ---- The other tasks

    abbrev X : ℕ → Bool
    X z = has (names fs) z

    in_head : (z : ℕ) → X z ≡ true → 1 ≤ weigh (of_name z) head
    in_head z e = let k = head_weighs z in let w = has_weighs z (names fs) e in omega arith

    none_in : (y : ℕ) → no_variable y ≡ true → X y ≡ true
    none_in y e = absurd (cc)

    others_clear : (f : ℕ) (p : Placed) → get_or s.placed f None ≡ Some p → Unmet X (λ z. uses z (code_at source p.body)) × Unmet X (λ z. weigh (of_name z) (code_at source p.body))
    others_clear f p e = ((λ z i. let k = here_placed source counts head s hold z (in_head z i) f p e in k.0), (λ z i. let k = here_placed source counts head s hold z (in_head z i) f p e in k.1))

    still : (root : ℕ) → Still X no_variable none_in texts source root s n
    still root = record {
      places = λ y e. (sym (places_other rs fs s.places y (weighs_none y (names fs) e)), unmet_none _);
      blocks = blocks_none (made_at s.blocks root) (made_at s.blocks root) (λ y. refl);
      placed = λ f e. sym (group_other rs fs s.placed f (weighs_none f (names fs) e));
      others = λ f p e i. others_clear f p i;
    }

    pub task_still : (root : ℕ) (d : Code) → ((m : Code → ℕ) → m d ≤ work_sum source m s.work) → walk texts (scope_in texts source s root) d ≡ walk texts (scope_in texts source n root) d
    task_still root d l = still_walk X no_variable none_in texts source root s n (still root) d
        (λ z i. let k = here_task source counts head s hold z (in_head z i) d l in k.0) (λ z i. let k = here_task source counts head s hold z (in_head z i) d l in k.1)

    -- ---- The body behind the functions

    abbrev σ : ℕ → Atom
    σ = names_in role FS (place_of s.places)

    pub names_same : (y : ℕ) → σ y ≡ place_of n.places y
    names_same = names_agree (code_at source) role rs fs s.places roles below_places (all_from (λ f. place_of s.places f.name ≡ atom.Var f.name) fs (λ f i. let u = unentered f i in u.place))

    before_same : (g : ℕ) → SameBody no_variable (bodies_in texts source s.places s.placed g) (bodies_in texts source n.places s.placed g)
    before_same g = same_bodies X no_variable none_in texts source s.places n.places (get_or s.placed g None) (get_or s.placed g None) refl
        (λ y e. (sym (places_other rs fs s.places y (weighs_none y (names fs) e)), unmet_none _))
        (λ p i. others_clear g p i)

    pub body_walk : walk texts (known σ (made_at s.blocks t.root) (bodies_walk texts role σ FS (bodies_in texts source s.places s.placed))) c ≡ walk texts (scope_in texts source n t.root) c
    body_walk = same_walk no_variable no_variable (λ y e. e) texts c (known σ (made_at s.blocks t.root) (bodies_walk texts role σ FS (bodies_in texts source s.places s.placed))) (scope_in texts source n t.root) (unmet_none _) (unmet_none _)
        (record {
          places = places_none σ (place_of n.places) names_same;
          blocks = blocks_none (made_at s.blocks t.root) (made_at s.blocks t.root) (λ y. refl);
          bodies = λ g d. bodies_agree texts source role σ n.places names_same rs fs s.placed (bodies_in texts source s.places s.placed) roles fs_apart free_table before_same g;
        })

    -- ---- Functions that stay

    abbrev Z : ℕ → Bool
    Z g = is_there (get_or n.placed g None)

    none_of : (y : ℕ) → no_variable y ≡ true → Z y ≡ true
    none_of y e = absurd (cc)

    there : (g : ℕ) → Z g ≡ true → (q : Placed) × (get_or n.placed g None ≡ Some q)
    there g e = by (get_or n.placed g None) refl e
      where
        by : (o : Option Placed) → get_or n.placed g None ≡ o → is_there o ≡ true → (q : Placed) × (get_or n.placed g None ≡ Some q)
        by None i h = absurd (cc)
        by (Some q) i h = (q, i)

    not_there : (g : ℕ) → Z g ≡ false → get_or n.placed g None ≡ None
    not_there g e = by (get_or n.placed g None) refl e
      where
        by : (o : Option Placed) → get_or n.placed g None ≡ o → is_there o ≡ false → get_or n.placed g None ≡ None
        by None i h = i
        by (Some q) i h = absurd (cc)

    unbound : (g : ℕ) (q : Placed) → get_or s.placed g None ≡ Some q → all_binds source head s g ≡ 0
    unbound g q e = by (all_binds source head s g) refl
      where
        by : (k : ℕ) → all_binds source head s g ≡ k → k ≡ 0
        by zero i = refl
        by (suc k) i = let u = hold.fresh g (omega arith) in let z = sym u.body ∙ e in absurd (cc)

    inside_clear : (f : Entry) → IsAmong f fs → (g : ℕ) → Z g ≡ true → (uses g (code_at source f.body) ≡ 0) × (weigh (of_name g) (code_at source f.body) ≡ 0)
    inside_clear f i g e =
        let k = there g e in
        ⊎_elim
        (λ (j : get_or s.placed g None ≡ Some k.0).
        let o = hold.outer g k.0 j in
        let u = uses_in (code_at source) g fs f i in
        let b = unbound g k.0 j in
        let w = inside_in (code_at source) g fs f i in
        let h = head_weighs g in
        ((omega arith), (omega arith)))
        (λ (j : IsPlaced (code_at source) role g k.0 fs).
        let f' = j.0 in
        let pu = placed_uses FS c f'.name f'.params (code_at source f'.body) j.2 in
        let pu0 : uses_functions g FS ≡ 0 = subst (λ x. uses_functions x FS ≡ 0) (sym j.3) pu.0 in
        let u = uses_in (code_at source) g fs f i in
        let n1 : 1 ≤ named g = subst (λ x. 1 ≤ named x) (sym j.3) (named_weighs fs f' j.1) in
        let w = inside_in (code_at source) g fs f i in
        let h = head_weighs g in
        let o = hold.once g in
        ((omega arith), (omega arith)))
        (cases_placed g k.0 k.1)

    -- no block was made in a new body
    no_block : (k : ℕ) → length s.bodies ≤ k → (y : ℕ) → None ≡ made_at s.blocks k y
    no_block k l y = by (get_or s.blocks y None) refl
      where
        by : (o : Option Block) → get_or s.blocks y None ≡ o → None ≡ made_in k o
        by None e = refl
        by (Some b) e = let q = hold.roots y b e in let z : nat_eq b.root k ≡ false = ne_eqb b.root k (omega arith) in sym (ap (λ d. cond d (Some (record { shape = b.shape; atoms = b.atoms })) None) z)

    pub stay_walk : (f : Entry) (k : ℕ) → IsAmong f fs → length s.bodies ≤ k → walk texts (within σ f.params) (code_at source f.body) ≡ walk texts (scope_in texts source n k) (code_at source f.body)
    stay_walk f k i l = same_walk Z no_variable none_of texts (code_at source f.body) (within σ f.params) (scope_in texts source n k)
        (λ g e. let q = inside_clear f i g e in q.0) (λ g e. let q = inside_clear f i g e in q.1)
        (record {
          places = λ y e. (themselves_same f.params σ (place_of n.places) param names_same y, unmet_none _);
          blocks = blocks_none nothing (made_at s.blocks k) (no_block k l);
          bodies = λ g e. subst (SameBody no_variable None) (sym (ap (body_in texts source n.places) (not_there g e))) tt;
        })
      where
        param : (x : ℕ) → 1 ≤ names_weigh (of_name x) f.params → place_of n.places x ≡ atom.Var x
        param x b =
            let w = inside_in (code_at source) x fs f i in
            let h = head_weighs x in
            let o = hold.once x in
            let u = hold.fresh x (omega arith) in
            places_other rs fs s.places x (omega arith) ∙ u.place
