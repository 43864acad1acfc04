-- The step at a call.
use Rattle.std.proofs.Common.{◌≡◌, ◌≢◌, ℕ, zero, suc, ◌+◌, ◌≤◌, ◌<◌, List, [], ◌∷◌, ◌++◌, length, Bool, true, false, cond, Option, Some, None, nat_eq, refl, sym, ap, ◌∙◌, subst, arith, ⊎_elim, eqb-true, eq-eqb, ne_eqb, length-set}
use Rattle.std.specs.Prelude.{get_or, slice_set}
use Rattle.std.specs.List.{AllByRecursion}
use Rattle.std.proofs.lemmas.List.{get_or-set_same, get_or-set_other, length-map}
use Rattle.simulation.proofs.Lists.{some_eq}
use Rattle.sml_tree.specs.Sets.{has}
use Rattle.cps_ir.specs.declared.atom.Atom.{Atom}
use Rattle.cps_ir.specs.declared.atom.Atom.TheVariants as atom
use Rattle.cps_ir.specs.declared.body.Body.{Body}
use Rattle.cps_ir.specs.declared.body.End.{End}
use Rattle.cps_ir.specs.Code.{Code, Call, Halt}
use Rattle.cps_ir.specs.Program.{code_at, code_of_end}
use Rattle.contract_laws.specs.Contract.{nothing}
use Rattle.contract_laws.specs.Redex.{uses, nodes}
use Rattle.contract_laws.specs.Weigh.{weigh, names_weigh, of_name}
use Rattle.contract_laws.proofs.Free.{In, in_cases, in_head, in_tail}
use Rattle.contract_laws.proofs.Relation.{eqb_other}
use Rattle.contract_round.specs.Round.{known, with_arguments, atom_in, atoms_in, call_left, inlined_of, walk}
use Rattle.contract_round.proofs.Facts.{own_same}
use Rattle.contract_frame.specs.Apart.{SameBody}
use Rattle.contract_frame.proofs.Frame.{same_walk}
use Rattle.contract_census.specs.declared.counts.Count.{Count}
use Rattle.contract_census.specs.Counted.{IsCensus}
use Rattle.contract_known.specs.Known.{place_of, made_at}
use Rattle.contract_binds.specs.Law.{no_variable}
use Rattle.contract_ends.specs.Ends.{IsCallLeft}
use Rattle.contract_group.specs.declared.task.Placed.{Placed}
use Rattle.contract_group.specs.declared.task.Task.{Task}
use Rattle.contract_group.specs.Bodies.{with_end}
use Rattle.contract_steps.specs.State.{State}
use Rattle.contract_steps.specs.Steps.{with_bodies, has_params, placed_for, put_arguments, go_on, place_call, CallBy, CallStep}
use Rattle.contract_holds.specs.Open.{occurs, occurs_in, binds_in, inner, work_sum, all_binds, all_occurs, all_uses, all_inner, all_nodes}
use Rattle.contract_holds.specs.Holds.{Holds}
use Rattle.contract_holds.specs.Fits.{body_in, scope_in}
use Rattle.contract_holds.specs.Turn.{Ready, Stops}
use Rattle.contract_holds.proofs.Sums.{work_append, work_each, placed_unset, placed_part}
use Rattle.contract_holds.proofs.Occurs.{cond_has, has_weighs, weighs_none, calls_inner}
use Rattle.contract_holds.proofs.Still.{Still, still_walk, none_occurs, task_unmet, placed_unmet, blocks_none, unmet_none}
use Rattle.contract_holds.proofs.Filled.{all_both}
use Rattle.contract_holds.proofs.Narrow.{atoms_clean}
use Rattle.contract_holds.proofs.Stop.{stops, goes_on, call_parts}
use Rattle.contract_holds.proofs.Arguments.{arguments_length, arguments_other, arguments_clean, arguments_same}

-- ---- What is placed

pub get_below : {A : Type 0} (table : List (Option A)) (f : ℕ) (a : A) → get_or table f None ≡ Some a → f < length table
get_below [] f a e = absurd (cc)
get_below (o ∷ table) zero a e = omega arith
get_below (o ∷ table) (suc f) a e = let h = get_below table f a e in omega arith

-- with one entry out of it
pub unset_some : {A : Type 0} (table : List (Option A)) (g f : ℕ) (a b : A) → get_or table g None ≡ Some a → get_or (slice_set table g None) f None ≡ Some b → (f ≢ g) × (get_or table f None ≡ Some b)
unset_some table g f a b here e = by (nat_eq f g) refl
  where
    by : (o : Bool) → nat_eq f g ≡ o → (f ≢ g) × (get_or table f None ≡ Some b)
    by true q = let z = sym (get_or-set_same table g None None (get_below table g a here)) ∙ ap (λ v. get_or (slice_set table g None) v None) (sym (eqb-true f g q)) ∙ e in absurd (cc)
    by false q = (eqb_other f g q, sym (get_or-set_other table g f None None (eqb_other f g q)) ∙ e)

pub unset_none : {A : Type 0} (table : List (Option A)) (g x : ℕ) (a : A) → get_or table g None ≡ Some a → get_or table x None ≡ None → get_or (slice_set table g None) x None ≡ None
unset_none table g x a here e = get_or-set_other table g x None None (λ q. let z = sym (ap (λ v. get_or table v None) q ∙ here) ∙ e in absurd (cc)) ∙ e

-- what comes of a call
module _ (texts : List (List ℕ)) (source : List Body) (counts : List Count) (t : Task) (g : ℕ) (atoms : List Atom) (p : Placed) (s : State) (r : Ready texts source counts t (Call (atom.Var g) atoms) s) (here : get_or s.placed g None ≡ Some p) (count : length p.params ≡ length atoms) where
  abbrev head : Code
  head = Call (atom.Var g) atoms

  abbrev hold : Holds source counts head s
  hold = r.holds

  abbrev code : Code
  code = code_at source p.body

  abbrev us : List Atom
  us = atoms_in (place_of s.places) atoms

  abbrev n : State
  n = record { places = put_arguments p.params us s.places; blocks = s.blocks; placed = slice_set s.placed g None; bodies = s.bodies; work = s.work ++ go_on t p.body ∷ [] }

  used : 1 ≤ uses g head
  used = let o = own_same g g refl in omega arith

  -- ---- Counts

  work_more : (m : Code → ℕ) → work_sum source m n.work ≡ work_sum source m s.work + m code
  work_more m = let a = work_append source m s.work (go_on t p.body ∷ []) in omega arith

  binds_more : (x : ℕ) → all_binds source Halt n x + names_weigh (of_name x) p.params ≡ all_binds source head s x
  binds_more x = let a = work_more (λ d. weigh (of_name x) d) in let b = placed_unset source (binds_in x) s.placed g p here in omega arith

  occurs_more : (x : ℕ) → 1 ≤ all_binds source Halt n x → all_occurs source Halt n x ≤ all_occurs source head s x
  occurs_more x bound =
      let a = work_more (λ d. occurs x d) in
      let b = placed_unset source (occurs_in x) s.placed g p here in
      let o = hold.once x in
      let m = binds_more x in
      let e = cond_has x p.params (occurs x code) (omega arith) in
      omega arith

  uses_more : (x : ℕ) → all_uses source Halt n x ≤ all_uses source head s x
  uses_more x = let a = work_more (λ d. uses x d) in let b = placed_unset source (λ ps d. uses x d) s.placed g p here in omega arith

  inner_more : (x : ℕ) → all_inner source Halt n x ≤ all_inner source head s x
  inner_more x = let a = work_more (λ d. inner x d) in let b = placed_unset source (λ ps d. uses x d) s.placed g p here in let k = calls_inner x 0 code in omega arith

  nodes_more : all_nodes source Halt n ≤ all_nodes source head s
  nodes_more = let a = work_more (λ d. nodes d) in let b = placed_unset source (λ ps d. nodes d) s.placed g p here in omega arith

  closed_more : (x : ℕ) → 1 ≤ all_occurs source Halt n x → all_binds source Halt n x ≡ 0
  closed_more x o = by (all_binds source Halt n x) refl
    where
      by : (k : ℕ) → all_binds source Halt n x ≡ k → k ≡ 0
      by zero e = refl
      by (suc k) e = let m = binds_more x in let q = occurs_more x (omega arith) in let z = hold.closed x (omega arith) in absurd (omega arith)

  -- what is placed is no longer to be bound
  placed_unbound : (f : ℕ) (q : Placed) → get_or s.placed f None ≡ Some q → all_binds source head s f ≡ 0
  placed_unbound f q e = by (all_binds source head s f) refl
    where
      by : (k : ℕ) → all_binds source head s f ≡ k → k ≡ 0
      by zero i = refl
      by (suc k) i = let u = hold.fresh f (omega arith) in let z = sym u.body ∙ e in absurd (cc)

  params_below : AllByRecursion (λ x. x < length s.places) p.params
  params_below = by p.params (λ x i. let b = placed_unset source (binds_in x) s.placed g p here in let u = hold.fresh x (omega arith) in u.has_place)
    where
      by : (xs : List ℕ) → ((x : ℕ) → 1 ≤ names_weigh (of_name x) xs → x < length s.places) → AllByRecursion (λ x. x < length s.places) xs
      by [] f = tt
      by (x ∷ xs) f = (f x (let o = own_same x x refl in omega arith), by xs (λ y i. f y (omega arith)))

  -- ---- What holds

  pub call_holds : Holds source counts Halt n
  call_holds = record {
    once = λ x. let m = binds_more x in let o = hold.once x in omega arith;
    closed = closed_more;
    single = λ f q e. let k = unset_some s.placed g f p q here e in let m = uses_more f in let o = hold.single f q k.1 in omega arith;
    outer = λ f q e. let k = unset_some s.placed g f p q here e in let m = inner_more f in let o = hold.outer f q k.1 in omega arith;
    fresh = λ x b. let m = binds_more x in let u = hold.fresh x (omega arith) in let o = hold.once x in record {
      has_place = let l = arguments_length p.params us s.places in let h = u.has_place in omega arith;
      has_block = u.has_block;
      has_body = let l = length-set s.placed g None in let h = u.has_body in omega arith;
      place = arguments_other p.params us s.places x (omega arith) ∙ u.place;
      block = u.block;
      body = unset_none s.placed g x p here u.body;
    };
    places = λ x y b e. let m = binds_more x in let o = none_occurs source counts head s hold x (omega arith) in
        arguments_clean x p.params us s.places (atoms_clean source counts head s hold x (omega arith) atoms (omega arith)) (λ v q. hold.places x v (omega arith) q) y e;
    blocks = λ x y b a e. let m = binds_more x in hold.blocks x y b (omega arith) e;
    roots = hold.roots;
    counted = λ x. tt;
    counted_work = all_both (λ t. IsCensus counts (code_at source t.body)) s.work (go_on t p.body ∷ []) hold.counted_work (hold.counted_placed g p here, tt);
    counted_placed = λ f q e. let k = unset_some s.placed g f p q here e in hold.counted_placed f q k.1;
  }

  -- ---- The other tasks

  abbrev X : ℕ → Bool
  X z = has (g ∷ p.params) z

  not_param : (z : ℕ) → X z ≡ false → names_weigh (of_name z) p.params ≡ 0
  not_param z e = by (has p.params z) refl
    where
      by : (b : Bool) → has p.params z ≡ b → names_weigh (of_name z) p.params ≡ 0
      by true h = let i = in_tail z g p.params h in absurd (cc)
      by false h = weighs_none z p.params h

  not_this : (f : ℕ) → X f ≡ false → f ≢ g
  not_this f e q = let i = in_head f g p.params q in absurd (cc)

  task_clear : (d : Code) → ((m : Code → ℕ) → m d ≤ work_sum source m s.work) → (z : ℕ) → X z ≡ true → (uses z d ≡ 0) × (weigh (of_name z) d ≡ 0)
  task_clear d l z e = ⊎_elim (λ (q : z ≡ g). subst (λ v. (uses v d ≡ 0) × (weigh (of_name v) d ≡ 0)) (sym q) this) (λ (i : In z p.params). param i) (in_cases z g p.params e)
    where
      this : (uses g d ≡ 0) × (weigh (of_name g) d ≡ 0)
      this =
          let o = hold.single g p here in
          let u = used in
          let k = l (λ e. uses g e) in
          let b = placed_unbound g p here in
          let w = l (λ e. weigh (of_name g) e) in
          (omega arith, omega arith)

      param : In z p.params → (uses z d ≡ 0) × (weigh (of_name z) d ≡ 0)
      param i =
          let n1 = has_weighs z p.params i in
          let b = placed_unset source (binds_in z) s.placed g p here in
          let o = hold.once z in
          let k = l (λ e. weigh (of_name z) e) in
          let w : weigh (of_name z) d ≡ 0 = omega arith in
          (task_unmet source counts head s hold z (omega arith) d l w, w)

  other_clear : (f : ℕ) (q : Placed) → f ≢ g → get_or s.placed f None ≡ Some q → (z : ℕ) → X z ≡ true → (uses z (code_at source q.body) ≡ 0) × (weigh (of_name z) (code_at source q.body) ≡ 0)
  other_clear f q n1 at z e = ⊎_elim (λ (same : z ≡ g). subst (λ v. (uses v (code_at source q.body) ≡ 0) × (weigh (of_name v) (code_at source q.body) ≡ 0)) (sym same) this) (λ (i : In z p.params). param i) (in_cases z g p.params e)
    where
      this : (uses g (code_at source q.body) ≡ 0) × (weigh (of_name g) (code_at source q.body) ≡ 0)
      this =
          let o = hold.single g p here in
          let u = used in
          let k = placed_part source (λ ps d. uses g d) s.placed f q at in
          let b = placed_unbound g p here in
          let w = placed_part source (binds_in g) s.placed f q at in
          (omega arith, omega arith)

      param : In z p.params → (uses z (code_at source q.body) ≡ 0) × (weigh (of_name z) (code_at source q.body) ≡ 0)
      param i =
          let n2 = has_weighs z p.params i in
          let b = placed_unset source (binds_in z) s.placed g p here in
          let o = hold.once z in
          let k = placed_part source (binds_in z) (slice_set s.placed g None) f q (get_or-set_other s.placed g f None None n1 ∙ at) in
          placed_unmet source counts head s hold z (omega arith) f q at (omega arith)

  none_in : (y : ℕ) → no_variable y ≡ true → X y ≡ true
  none_in y e = absurd (cc)

  still : (root : ℕ) → Still X no_variable none_in texts source root s n
  still root = record {
    places = λ y e. (sym (arguments_other p.params us s.places y (not_param y e)), unmet_none _);
    blocks = blocks_none (made_at s.blocks root) (made_at s.blocks root) (λ y. refl);
    placed = λ f e. sym (get_or-set_other s.placed g f None None (not_this f e));
    others = λ f q e at. ((λ z i. let k = other_clear f q (not_this f e) at z i in k.0), (λ z i. let k = other_clear f q (not_this f e) at z i in k.1));
  }

  task_still : (root : ℕ) (d : Code) → ((m : Code → ℕ) → m d ≤ work_sum source m s.work) → walk texts (scope_in texts source s root) d ≡ walk texts (scope_in texts source n root) d
  task_still root d l = still_walk X no_variable none_in texts source root s n (still root) d (λ z i. let k = task_clear d l z i in k.0) (λ z i. let k = task_clear d l z i in k.1)

  -- ---- The body that is put here

  abbrev is_there : Option Placed → Bool
  is_there None = false
  is_there (Some q) = true

  abbrev Z : ℕ → Bool
  Z f = is_there (get_or n.placed f None)

  there : (f : ℕ) → Z f ≡ true → (q : Placed) × (get_or s.placed f None ≡ Some q)
  there f e = by (get_or n.placed f None) refl e
    where
      by : (o : Option Placed) → get_or n.placed f None ≡ o → is_there o ≡ true → (q : Placed) × (get_or s.placed f None ≡ Some q)
      by None i h = absurd (cc)
      by (Some q) i h = let k = unset_some s.placed g f p q here i in (q, k.1)

  not_there : (f : ℕ) → Z f ≡ false → get_or n.placed f None ≡ None
  not_there f e = by (get_or n.placed f None) refl e
    where
      by : (o : Option Placed) → get_or n.placed f None ≡ o → is_there o ≡ false → get_or n.placed f None ≡ None
      by None i h = i
      by (Some q) i h = absurd (cc)

  none_of : (y : ℕ) → no_variable y ≡ true → Z y ≡ true
  none_of y e = absurd (cc)

  body_walk : walk texts (known (with_arguments (place_of s.places) p.params us) (made_at s.blocks t.root) nothing) code ≡ walk texts (scope_in texts source n t.root) code
  body_walk = same_walk Z no_variable none_of texts code (known (with_arguments (place_of s.places) p.params us) (made_at s.blocks t.root) nothing) (scope_in texts source n t.root)
      (λ f e. let k = there f e in let o = hold.outer f k.0 k.1 in let u = placed_part source (λ ps d. uses f d) s.placed g p here in omega arith)
      (λ f e. let k = there f e in let o = placed_unbound f k.0 k.1 in let u = placed_part source (binds_in f) s.placed g p here in omega arith)
      (record {
        places = λ y e. (arguments_same p.params us s.places (place_of s.places) params_below (λ v. refl) y, unmet_none _);
        blocks = blocks_none (made_at s.blocks t.root) (made_at s.blocks t.root) (λ y. refl);
        bodies = λ f e. subst (SameBody no_variable None) (sym (ap (body_in texts source n.places) (not_there f e))) tt;
      })

  abbrev put_here : Option Placed → Code
  put_here o = call_left (body_in texts source s.places o) (made_at s.blocks t.root) (place_of s.places g) us

  call_walk : walk texts (scope_in texts source s t.root) head ≡ walk texts (scope_in texts source n t.root) code
  call_walk =
      let as_many : length us ≡ length p.params = length-map atoms (atom_in (place_of s.places)) ∙ sym count in
      ap put_here here
      ∙ ap (λ b. cond b (walk texts (known (with_arguments (place_of s.places) p.params us) (made_at s.blocks t.root) nothing) code) (Call (place_of s.places g) us)) (eq-eqb _ _ as_many)
      ∙ body_walk

  pub call_stops : Stops texts source counts t head s n
  call_stops = goes_on texts source counts t head s r p.body n call_holds refl refl
      (work_each source s.work (λ u. walk texts (scope_in texts source s u.root) (code_at source u.body) ≡ walk texts (scope_in texts source n u.root) (code_at source u.body)) (λ u l. task_still u.root (code_at source u.body) l))
      call_walk nodes_more

-- ---- A call that stays

module _ (texts : List (List ℕ)) (source : List Body) (counts : List Count) (t : Task) (a : Atom) (atoms : List Atom) (s : State) (r : Ready texts source counts t (Call a atoms) s) where
  abbrev args : List Atom
  args = atoms_in (place_of s.places) atoms

  not_put : (u : Atom) (o : Option Placed) → cond (has_params (length atoms) o) o None ≡ None → call_left (body_in texts source s.places o) (made_at s.blocks t.root) u args ≡ Call u args
  not_put u None e = refl
  not_put u (Some p) e = by (nat_eq (length p.params) (length atoms)) refl e
    where
      by : (b : Bool) → nat_eq (length p.params) (length atoms) ≡ b → cond b (Some p) None ≡ None → call_left (body_in texts source s.places (Some p)) (made_at s.blocks t.root) u args ≡ Call u args
      by true q e = absurd (cc)
      by false q e = ap (λ b. cond b (walk texts (known (with_arguments (place_of s.places) p.params args) (made_at s.blocks t.root) nothing) (code_at source p.body)) (Call u args)) (ne_eqb _ _ (λ i. eqb_other _ _ q (sym i ∙ length-map atoms (atom_in (place_of s.places)))))

  no_body : inlined_of nothing a ≡ None
  no_body = by a
    where
      by : (b : Atom) → inlined_of nothing b ≡ None
      by (atom.Var g) = refl
      by (atom.Constant k) = refl

  stays_walk : placed_for s.placed a (length atoms) ≡ None → walk texts (scope_in texts source s t.root) (Call a atoms) ≡ Call (atom_in (place_of s.places) a) args
  stays_walk e = by a e
    where
      by : (b : Atom) → placed_for s.placed b (length atoms) ≡ None → walk texts (scope_in texts source s t.root) (Call b atoms) ≡ Call (atom_in (place_of s.places) b) args
      by (atom.Var g) e = not_put (place_of s.places g) (get_or s.placed g None) e
      by (atom.Constant k) e = refl

  left_is : (e : End) → IsCallLeft (place_of s.places) a atoms e → (part : ℕ → Code) → Call (atom_in (place_of s.places) a) args ≡ code_of_end part e
  left_is e left part = sym (ap (λ o. call_left o nothing (atom_in (place_of s.places) a) args) no_body) ∙ left texts nothing nothing part no_body

  stays_stops : (n : State) → placed_for s.placed a (length atoms) ≡ None → (e : End) → IsCallLeft (place_of s.places) a atoms e → n ≡ with_bodies s (with_end t.slot e s.bodies) → Stops texts source counts t (Call a atoms) s n
  stays_stops n none e left is =
      subst (λ m. Stops texts source counts t (Call a atoms) s m) (sym is)
      (stops texts source counts t (Call a atoms) s r e (call_parts e (atom_in (place_of s.places) a) args (left_is e left (λ i. Halt))) (λ P. stays_walk none ∙ left_is e left P) (omega arith))

  by_placed : (n : State) (o : Option Placed) → placed_for s.placed a (length atoms) ≡ o → CallBy t o a atoms s n → Stops texts source counts t (Call a atoms) s n
  by_placed n None e h = stays_stops n e h.0 h.1 h.2
  by_placed n (Some p) e h = by a r e h
    where
      by : (b : Atom) → Ready texts source counts t (Call b atoms) s → placed_for s.placed b (length atoms) ≡ Some p → n ≡ place_call t p b atoms s → Stops texts source counts t (Call b atoms) s n
      by (atom.Constant k) q e h = absurd (cc)
      by (atom.Var g) q e h = subst (λ m. Stops texts source counts t (Call (atom.Var g) atoms) s m) (sym (h ∙ unset)) (call_stops texts source counts t g atoms p s q at.0 at.1)
        where
          found : (o : Option Placed) → cond (has_params (length atoms) o) o None ≡ Some p → (o ≡ Some p) × (length p.params ≡ length atoms)
          found None i = absurd (cc)
          found (Some c) i = if (nat_eq (length c.params) (length atoms)) refl i
            where
              if : (b : Bool) → nat_eq (length c.params) (length atoms) ≡ b → cond b (Some c) None ≡ Some p → (Some c ≡ Some p) × (length p.params ≡ length atoms)
              if true j i = (i, some_eq (λ d. length d.params ≡ length atoms) c p i (eqb-true _ _ j))
              if false j i = absurd (cc)

          at : (get_or s.placed g None ≡ Some p) × (length p.params ≡ length atoms)
          at = found (get_or s.placed g None) e

          unset : place_call t p (atom.Var g) atoms s ≡ record { places = put_arguments p.params args s.places; blocks = s.blocks; placed = slice_set s.placed g None; bodies = s.bodies; work = s.work ++ go_on t p.body ∷ [] }
          unset = ap (λ b. record { places = put_arguments p.params args s.places; blocks = s.blocks; placed = cond b (slice_set s.placed g None) s.placed; bodies = s.bodies; work = s.work ++ go_on t p.body ∷ [] }) (ap (has_params (length atoms)) at.0 ∙ eq-eqb _ _ at.1)

  pub call_step : (n : State) → CallStep t a atoms s n → Stops texts source counts t (Call a atoms) s n
  call_step n h = by_placed n (placed_for s.placed a (length atoms)) refl h
