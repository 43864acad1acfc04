-- A body that neither uses nor binds what is entered is walked as before.
use Rattle.std.proofs.Common.{◌≡◌, ◌≢◌, ℕ, zero, suc, ◌≤◌, List, [], ◌∷◌, Bool, true, false, cond, Option, Some, None, refl, sym, ap, subst, arith, eqb-true, nat_eq}
use Rattle.std.specs.Prelude.{get_or}
use Rattle.cps_ir.specs.declared.atom.Atom.{Atom}
use Rattle.cps_ir.specs.declared.body.Body.{Body}
use Rattle.cps_ir.specs.Code.{Code}
use Rattle.cps_ir.specs.Program.{code_at}
use Rattle.cps_ir.specs.State.{bind}
use Rattle.contract_laws.specs.Contract.{Made, nothing}
use Rattle.contract_laws.specs.Redex.{uses, uses_atom, uses_atoms}
use Rattle.contract_laws.specs.Weigh.{weigh, of_name}
use Rattle.contract_laws.proofs.Relation.{eqb_other}
use Rattle.contract_round.specs.Round.{known, with_arguments, walk}
use Rattle.contract_frame.specs.Apart.{Unmet, NotIn, SamePlaces, SameBlocks, SameBody}
use Rattle.contract_frame.proofs.Frame.{same_walk}
use Rattle.contract_census.specs.declared.counts.Count.{Count}
use Rattle.contract_known.specs.declared.blocks.Block.{Block}
use Rattle.contract_known.specs.Known.{place_of, made_in, made_at}
use Rattle.contract_binds.specs.Law.{no_variable}
use Rattle.contract_group.specs.declared.task.Placed.{Placed}
use Rattle.contract_steps.specs.State.{State}
use Rattle.contract_holds.specs.Open.{work_sum, occurs, occurs_in, binds_in, all_binds, all_occurs}
use Rattle.contract_holds.specs.Holds.{Holds}
use Rattle.contract_holds.specs.Fits.{body_in, scope_in}
use Rattle.contract_holds.proofs.Sums.{placed_part}
use Rattle.contract_holds.proofs.Occurs.{cond_has, uses_occurs}

module _ (X Y : ℕ → Bool) (less : (y : ℕ) → Y y ≡ true → X y ≡ true) where
  bind_places : (σ ς : ℕ → Atom) (y : ℕ) (v : Atom) → Unmet Y (λ z. uses_atom z v) → SamePlaces X Y σ ς → SamePlaces X Y (bind σ y v) (bind ς y v)
  bind_places σ ς y v n h z d = by (nat_eq z y)
    where
      by : (b : Bool) → (cond b v (σ z) ≡ cond b v (ς z)) × Unmet Y (λ x. uses_atom x (cond b v (σ z)))
      by true = (refl, n)
      by false = h z d

  arguments_same : (xs : List ℕ) (us : List Atom) (σ ς : ℕ → Atom) → Unmet Y (λ z. uses_atoms z us) → SamePlaces X Y σ ς → SamePlaces X Y (with_arguments σ xs us) (with_arguments ς xs us)
  arguments_same [] us σ ς n h = h
  arguments_same (y ∷ xs) [] σ ς n h = h
  arguments_same (y ∷ xs) (u ∷ us) σ ς n h = arguments_same xs us (bind σ y u) (bind ς y u) (λ z g. let q1 = n z g in omega arith) (bind_places σ ς y u (λ z g. let q1 = n z g in omega arith) h)

  module _ (texts : List (List ℕ)) (source : List Body) where
    -- a body that is put where it is called, by other places
    pub same_body : (places after : List Atom) (p : Placed) → SamePlaces X Y (place_of places) (place_of after) → Unmet X (λ z. uses z (code_at source p.body)) → Unmet X (λ z. weigh (of_name z) (code_at source p.body)) → SameBody Y (body_in texts source places (Some p)) (body_in texts source after (Some p))
    same_body places after p h u w = (
      refl,
      λ atoms τ t v k. same_walk X Y less texts (code_at source p.body) (known (with_arguments (place_of places) p.params atoms) τ nothing) (known (with_arguments (place_of after) p.params atoms) t nothing) u w
          (record { places = arguments_same p.params atoms (place_of places) (place_of after) v h; blocks = k; bodies = λ g d. tt }),
    )

    pub same_bodies : (places after : List Atom) (o q : Option Placed) → o ≡ q → SamePlaces X Y (place_of places) (place_of after) → ((p : Placed) → o ≡ Some p → Unmet X (λ z. uses z (code_at source p.body)) × Unmet X (λ z. weigh (of_name z) (code_at source p.body))) → SameBody Y (body_in texts source places o) (body_in texts source after q)
    same_bodies places after o q e h f = subst (λ r. SameBody Y (body_in texts source places o) (body_in texts source after r)) e (by o f)
      where
        by : (o : Option Placed) → ((p : Placed) → o ≡ Some p → Unmet X (λ z. uses z (code_at source p.body)) × Unmet X (λ z. weigh (of_name z) (code_at source p.body))) → SameBody Y (body_in texts source places o) (body_in texts source after o)
        by None f = tt
        by (Some p) f = let k = f p refl in same_body places after p h k.0 k.1

    -- two states that differ for X, and in the blocks of Y
    pub record Still (root : ℕ) (s n : State) : Type 0 where
      pub places : SamePlaces X Y (place_of s.places) (place_of n.places)
      pub blocks : SameBlocks Y (made_at s.blocks root) (made_at n.blocks root)
      pub placed : (f : ℕ) → X f ≡ false → get_or s.placed f None ≡ get_or n.placed f None
      pub others : (f : ℕ) (p : Placed) → X f ≡ false → get_or s.placed f None ≡ Some p → Unmet X (λ z. uses z (code_at source p.body)) × Unmet X (λ z. weigh (of_name z) (code_at source p.body))

    pub still_walk : (root : ℕ) (s n : State) → Still root s n → (d : Code) → Unmet X (λ z. uses z d) → Unmet X (λ z. weigh (of_name z) d) → walk texts (scope_in texts source s root) d ≡ walk texts (scope_in texts source n root) d
    still_walk root s n h d u w =
        same_walk X Y less texts d (scope_in texts source s root) (scope_in texts source n root) u w
        (record { places = h.places; blocks = h.blocks; bodies = λ f e. same_bodies s.places n.places (get_or s.placed f None) (get_or n.placed f None) (h.placed f e) h.places (λ p is. h.others f p e is) })

none_less : (y : ℕ) → no_variable y ≡ true → no_variable y ≡ true
none_less y e = e

pub unmet_none : (f : ℕ → ℕ) → Unmet no_variable f
unmet_none f z e = absurd (cc)

pub places_none : (σ ς : ℕ → Atom) → ((y : ℕ) → σ y ≡ ς y) → SamePlaces no_variable no_variable σ ς
places_none σ ς h y d = (h y, unmet_none _)

pub blocks_none : (τ t : ℕ → Option Made) → ((y : ℕ) → τ y ≡ t y) → SameBlocks no_variable τ t
blocks_none τ t h y d = (h y, by (τ y))
  where
    by : (o : Option Made) → NotIn no_variable o
    by None = tt
    by (Some m) = unmet_none _

pub steady : (texts : List (List ℕ)) (source : List Body) (places : List Atom) (o : Option Placed) → SameBody no_variable (body_in texts source places o) (body_in texts source places o)
steady texts source places o = same_bodies no_variable no_variable none_less texts source places places o o refl (places_none _ _ (λ y. refl)) (λ p e. (unmet_none _, unmet_none _))

-- ---- What is still to be bound is used nowhere else

module _ (source : List Body) (counts : List Count) (c : Code) (s : State) (h : Holds source counts c s) where
  pub none_occurs : (x : ℕ) → 1 ≤ all_binds source c s x → all_occurs source c s x ≡ 0
  none_occurs x b = by (all_occurs source c s x) refl
    where
      by : (n : ℕ) → all_occurs source c s x ≡ n → n ≡ 0
      by zero e = refl
      by (suc n) e = let z = h.closed x (omega arith) in absurd (omega arith)

  -- in a task, where it isn't bound there
  pub task_unmet : (x : ℕ) → 1 ≤ all_binds source c s x → (d : Code) → ((m : Code → ℕ) → m d ≤ work_sum source m s.work) → weigh (of_name x) d ≡ 0 → uses x d ≡ 0
  task_unmet x b d l w =
      let o = none_occurs x b in
      let k = l (λ e. occurs x e) in
      let u = uses_occurs x d w in
      omega arith

  pub placed_unmet : (x : ℕ) → 1 ≤ all_binds source c s x → (f : ℕ) (p : Placed) → get_or s.placed f None ≡ Some p → binds_in x p.params (code_at source p.body) ≡ 0 → (uses x (code_at source p.body) ≡ 0) × (weigh (of_name x) (code_at source p.body) ≡ 0)
  placed_unmet x b f p e w =
      let o = none_occurs x b in
      let k = placed_part source (occurs_in x) s.placed f p e in
      let n = cond_has x p.params (occurs x (code_at source p.body)) (omega arith) in
      let u = uses_occurs x (code_at source p.body) (omega arith) in
      (omega arith, omega arith)

  -- where it is bound in front of everything
  pub here_task : (x : ℕ) → 1 ≤ weigh (of_name x) c → (d : Code) → ((m : Code → ℕ) → m d ≤ work_sum source m s.work) → (uses x d ≡ 0) × (weigh (of_name x) d ≡ 0)
  here_task x b d l =
      let o = h.once x in
      let k = l (λ e. weigh (of_name x) e) in
      let w : weigh (of_name x) d ≡ 0 = omega arith in
      (task_unmet x (omega arith) d l w, w)

  pub here_placed : (x : ℕ) → 1 ≤ weigh (of_name x) c → (f : ℕ) (p : Placed) → get_or s.placed f None ≡ Some p → (uses x (code_at source p.body) ≡ 0) × (weigh (of_name x) (code_at source p.body) ≡ 0)
  here_placed x b f p e =
      let o = h.once x in
      let k = placed_part source (binds_in x) s.placed f p e in
      placed_unmet x (omega arith) f p e (omega arith)

-- ---- One variable

abbrev pub is_it : ℕ → ℕ → Bool
is_it x z = nat_eq z x

pub it_less : (x y : ℕ) → is_it x y ≡ true → is_it x y ≡ true
it_less x y e = e

module _ (texts : List (List ℕ)) (source : List Body) (counts : List Count) (c : Code) (s : State) (h : Holds source counts c s) (x : ℕ) (here : 1 ≤ weigh (of_name x) c) (n : State) (places : (y : ℕ) → y ≢ x → place_of s.places y ≡ place_of n.places y) (blocks : (y : ℕ) → y ≢ x → get_or s.blocks y None ≡ get_or n.blocks y None) (placed : n.placed ≡ s.placed) where
  bound : 1 ≤ all_binds source c s x
  bound = omega arith

  not_it : (y : ℕ) → is_it x y ≡ false → y ≢ x
  not_it y e q = eqb_other y x e q

  it_places : SamePlaces (is_it x) (is_it x) (place_of s.places) (place_of n.places)
  it_places y d = (places y (not_it y d), λ z e. subst (λ v. uses_atom v (place_of s.places y) ≡ 0) (sym (eqb-true z x e)) (h.places x y bound (not_it y d)))

  it_blocks : (root : ℕ) → SameBlocks (is_it x) (made_at s.blocks root) (made_at n.blocks root)
  it_blocks root y d = (ap (made_in root) (blocks y (not_it y d)), by (get_or s.blocks y None) refl)
    where
      by : (o : Option Block) → get_or s.blocks y None ≡ o → NotIn (is_it x) (made_in root o)
      by None e = tt
      by (Some b) e = if (nat_eq b.root root)
        where
          if : (r : Bool) → NotIn (is_it x) (cond r (Some (record { shape = b.shape; atoms = b.atoms })) None)
          if false = tt
          if true = λ z q. subst (λ v. uses_atoms v b.atoms ≡ 0) (sym (eqb-true z x q)) (h.blocks x y b bound e)

  pub still_one : (root : ℕ) → Still (is_it x) (is_it x) (it_less x) texts source root s n
  still_one root = record {
    places = it_places;
    blocks = it_blocks root;
    placed = λ f e. sym (ap (λ t. get_or t f None) placed);
    others = λ f p e is. let k = here_placed source counts c s h x here f p is in
        ((λ z q. subst (λ v. uses v (code_at source p.body) ≡ 0) (sym (eqb-true z x q)) k.0), (λ z q. subst (λ v. weigh (of_name v) (code_at source p.body) ≡ 0) (sym (eqb-true z x q)) k.1));
  }

  pub task_one : (root : ℕ) (d : Code) → ((m : Code → ℕ) → m d ≤ work_sum source m s.work) → walk texts (scope_in texts source s root) d ≡ walk texts (scope_in texts source n root) d
  task_one root d l =
      let k = here_task source counts c s h x here d l in
      still_walk (is_it x) (is_it x) (it_less x) texts source root s n (still_one root) d
      (λ z q. subst (λ v. uses v d ≡ 0) (sym (eqb-true z x q)) k.0) (λ z q. subst (λ v. weigh (of_name v) d ≡ 0) (sym (eqb-true z x q)) k.1)
