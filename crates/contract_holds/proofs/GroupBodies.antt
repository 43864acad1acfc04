-- The bodies of the answer at functions that are bound together.
use Rattle.std.proofs.Common.{◌≡◌, ℕ, zero, suc, ◌+◌, ◌≤◌, ◌<◌, List, [], ◌∷◌, ◌++◌, length, map, replicate, true, cond, Some, inl, inr, slice_get, nat_lt, refl, sym, ap, ◌∙◌, subst, arith, ⊎_elim, append-nil, length-append}
use Rattle.std.specs.Prelude.{get_or, slice_set}
use Rattle.std.proofs.lemmas.List.{length-replicate}
use Rattle.simulation.specs.Blocks.{IsAmong}
use Rattle.simulation.proofs.Lists.{some_eq, map_among, among_append, get_append}
use Rattle.cps_ir.specs.declared.atom.Atom.{Atom}
use Rattle.cps_ir.specs.declared.body.Function.{Function as Entry}
use Rattle.cps_ir.specs.declared.body.Bind.TheVariants as row
use Rattle.cps_ir.specs.declared.body.Body.{Body}
use Rattle.cps_ir.specs.declared.body.End.TheVariants as end
use Rattle.cps_ir.specs.Code.{Code, Fix}
use Rattle.cps_ir.specs.Kept.{body_parts}
use Rattle.cps_ir.specs.Program.{code_at, functions_of, code_of_binds}
use Rattle.contract_round.specs.Round.{Roles, role_in, names_in, known, fix_left, walk, bodies_walk}
use Rattle.contract_census.specs.declared.counts.Count.{Count}
use Rattle.contract_known.specs.Known.{place_of, made_at}
use Rattle.contract_roles.specs.declared.group.Role.{Role}
use Rattle.contract_roles.specs.declared.group.Role.TheVariants as role
use Rattle.contract_roles.specs.Roles.{AreRoles}
use Rattle.contract_rows.specs.Rows.{empty, numbers}
use Rattle.contract_group.specs.declared.task.Task.{Task}
use Rattle.contract_group.specs.Bodies.{and_bind}
use Rattle.contract_group.specs.Group.{group_places, group_placed, group_kept, group_tasks}
use Rattle.contract_steps.specs.State.{State}
use Rattle.contract_steps.specs.Steps.{put_group, step_fix}
use Rattle.contract_holds.specs.Fits.{bodies_in, scope_in, binds_of, slots_of, AreOpen, TasksFit}
use Rattle.contract_holds.specs.Turn.{Ready, Goes}
use Rattle.contract_holds.proofs.Sums.{work_each}
use Rattle.contract_holds.proofs.Filled.{or_here, slot_here, slot_below, slot_apart, old_end, going, new_length, new_other, binds_other, binds_here, binds_append, bind_parts_more, numbers_among, all_at, all_both}
use Rattle.contract_holds.proofs.One.{tasks_fit, roots_kept}
use Rattle.contract_holds.proofs.Stop.{all_front, all_back, slots_append}
use Rattle.contract_holds.proofs.Begun.{past_binds}
use Rattle.contract_holds.proofs.Stay.{KeptFit, kept_walked}
use Rattle.contract_holds.proofs.Counts.{stays_count, group_list, group_tasks_are, group_slots, kept_parts, group_bodies_are, group_rooted}
use Rattle.contract_holds.proofs.Fix.{roles, fix_holds, nodes_more, task_still, body_walk, stay_walk}

-- a body with the functions that stay, if any do
abbrev pub with_kept : List Entry → Body → Body
with_kept [] old = old
with_kept (f ∷ fs) old = and_bind (row.Fix (f ∷ fs)) old

set_same : {A : Type 0} (xs : List A) (i : ℕ) (x : A) → slice_get xs i ≡ Some x → xs ≡ slice_set xs i x
set_same [] i x e = refl
set_same (y ∷ xs) zero x e = ap (λ z. z ∷ xs) (some_eq (λ z. y ≡ z) y x e refl)
set_same (y ∷ xs) (suc i) x e = ap (λ zs. y ∷ zs) (set_same xs i x e)

kept_end : (kept : List Entry) (old : Body) → old.end ≡ end.Halt → (with_kept kept old).end ≡ end.Halt
kept_end [] old e = e
kept_end (f ∷ fs) old e = e

kept_code : (P : ℕ → Code) (kept : List Entry) (old : Body) (c : Code) → code_of_binds P (with_kept kept old).binds c ≡ code_of_binds P old.binds (fix_left (functions_of P kept) c)
kept_code P [] old c = refl
kept_code P (f ∷ fs) old c = binds_append P old.binds (row.Fix (f ∷ fs) ∷ []) c

module _ (texts : List (List ℕ)) (source : List Body) (counts : List Count) (t : Task) (fs : List Entry) (c : Code) (s : State) (r : Ready texts source counts t (Fix (functions_of (code_at source) fs) c) s) (rs : List Role) (a : AreRoles counts source fs rs) where
  abbrev head : Code
  head = Fix (functions_of (code_at source) fs) c

  abbrev slots : List ℕ
  slots = slots_of s.work

  abbrev from : ℕ
  from = length s.bodies

  abbrev many : ℕ
  many = stays_count rs fs

  abbrev kept : List Entry
  kept = group_kept from rs fs

  abbrev old : Body
  old = get_or s.bodies t.slot empty

  abbrev body : Body
  body = with_kept kept old

  abbrev longer : List Body
  longer = s.bodies ++ replicate many empty

  abbrev bodies : List Body
  bodies = slice_set longer t.slot body

  abbrev tasks : List Task
  tasks = group_list from rs fs

  parts : body_parts body ≡ body_parts old ++ numbers from many
  parts = by kept ∙ ap (λ ps. body_parts old ++ ps) (kept_parts from rs fs)
    where
      by : (fs : List Entry) → body_parts (with_kept fs old) ≡ body_parts old ++ map (λ f. f.body) fs
      by [] = sym (append-nil (body_parts old))
      by (f ∷ fs) = bind_parts_more t.slot slots s.bodies r.slots (row.Fix (f ∷ fs))

  bodies_more : length s.bodies ≤ length bodies
  bodies_more = let l = new_length t.slot slots s.bodies r.slots many body parts in omega arith

  abbrev then : State
  then = record { places = group_places rs fs s.places; blocks = s.blocks; placed = group_placed rs fs s.placed; bodies = bodies; work = s.work ++ tasks }

  work_slots : slots_of then.work ≡ slots ++ numbers from many
  work_slots = slots_append s.work tasks ∙ ap (λ is. slots ++ is) (group_slots from rs fs)

  then_binds : (i : ℕ) → from ≤ i → binds_of bodies i ≡ []
  then_binds i l = past_binds s.bodies many t.slot i body (λ e. let b = slot_below t.slot slots s.bodies r.slots in absurd (omega arith)) l

  abbrev own_role : Roles
  own_role = role_in (functions_of (code_at source) fs) c

  abbrev names : ℕ → Atom
  names = names_in own_role (functions_of (code_at source) fs) (place_of s.places)

  -- what is promised of the new bodies is the walk of those of the functions
  kept_fit : (P : ℕ → Code) (k : ℕ) (rs' : List Role) (fs' : List Entry) → ((f : Entry) → IsAmong f fs' → IsAmong f fs) → from ≤ k → TasksFit texts source P then (group_list k rs' fs') → KeptFit (code_at source) own_role texts names P k rs' fs'
  kept_fit P k [] fs' i l f = tt
  kept_fit P k (q ∷ rs') [] i l f = tt
  kept_fit P k (role.Dropped ∷ rs') (g ∷ fs') i l f = (tt, kept_fit P k rs' fs' (λ h j. i h (inr j)) l f)
  kept_fit P k (role.Placed ∷ rs') (g ∷ fs') i l f = (tt, kept_fit P k rs' fs' (λ h j. i h (inr j)) l f)
  kept_fit P k (role.Replaced x ∷ rs') (g ∷ fs') i l f = (tt, kept_fit P k rs' fs' (λ h j. i h (inr j)) l f)
  kept_fit P k (role.Stays ∷ rs') (g ∷ fs') i l f = (
    stay_walk texts source counts t fs c s r rs a bodies bodies_more g k (i g (inl refl)) l ∙ sym (ap (λ bs. code_of_binds P bs (walk texts (scope_in texts source then k) (code_at source g.body))) (then_binds k l)) ∙ f.0,
    kept_fit P (suc k) rs' fs' (λ h j. i h (inr j)) (omega arith) f.1,
  )

  fix_walk : (P : ℕ → Code) → TasksFit texts source P then tasks → walk texts (scope_in texts source s t.root) head ≡ fix_left (functions_of P kept) (walk texts (scope_in texts source then t.root) c)
  fix_walk P f =
      ap (λ gs. fix_left gs (walk texts (known names (made_at s.blocks t.root) (bodies_walk texts own_role names (functions_of (code_at source) fs) (bodies_in texts source s.places s.placed))) c))
      (kept_walked (code_at source) own_role texts names P from rs fs (roles texts source counts t fs c s r rs a) (kept_fit P from rs fs (λ g i. i) (omega arith) f))
      ∙ ap (fix_left (functions_of P kept)) (body_walk texts source counts t fs c s r rs a bodies bodies_more)

  pub fix_goes : Goes texts source counts t head s c then
  fix_goes = record {
    ready = record {
      holds = fix_holds texts source counts t fs c s r rs a bodies bodies_more;
      slots = subst (λ w. AreOpen (t.slot ∷ w) bodies) (sym work_slots) (going t.slot slots s.bodies r.slots many body parts (kept_end kept old (old_end t.slot slots s.bodies r.slots)));
      root = let b = r.root in let l = bodies_more in omega arith;
      roots =
          let l = bodies_more in
          let n = new_length t.slot slots s.bodies r.slots many body parts in
          all_both (λ u. u.root < length bodies) s.work tasks (roots_kept (length s.bodies) (length bodies) l s.work r.roots) (group_rooted from (length bodies) rs fs (omega arith));
    };
    fits = λ P f.
        let back : TasksFit texts source P then tasks = all_back _ s.work tasks f.tasks in
        record {
          here =
              ap (code_of_binds P old.binds) (fix_walk P back)
              ∙ sym (kept_code P kept old (walk texts (scope_in texts source then t.root) c))
              ∙ ap (λ bs. code_of_binds P bs (walk texts (scope_in texts source then t.root) c)) (sym (binds_here t.slot slots s.bodies r.slots many body parts))
              ∙ f.here;
          tasks = tasks_fit texts source P s then s.work
              (λ v i. let j : IsAmong v.slot slots = map_among (λ t. t.slot) v s.work i in let k = r.slots in binds_other t.slot slots s.bodies r.slots many body parts v.slot (slot_apart t.slot slots s.bodies r.slots v.slot j) (all_at (λ i. i < length s.bodies) slots v.slot k.below.1 j))
              (work_each source s.work (λ u. walk texts (scope_in texts source s u.root) (code_at source u.body) ≡ walk texts (scope_in texts source then u.root) (code_at source u.body)) (λ u l. task_still texts source counts t fs c s r rs a bodies bodies_more u.root (code_at source u.body) l))
              (all_front _ s.work tasks f.tasks);
          done = λ i b g gone. f.done i b (new_other t.slot slots s.bodies r.slots many body parts i b (λ e. gone (inl e)) g) (away i (within s.bodies i b g) gone);
        };
    less = nodes_more texts source counts t fs c s r rs a bodies bodies_more;
  }
    where
      within : (bs : List Body) (i : ℕ) (b : Body) → slice_get bs i ≡ Some b → i < length bs
      within [] i b e = absurd (cc)
      within (c ∷ bs) zero b e = omega arith
      within (c ∷ bs) (suc i) b e = let h = within bs i b e in omega arith

      away : (i : ℕ) → i < from → (IsAmong i (t.slot ∷ slots) → ⊥) → IsAmong i (t.slot ∷ slots_of then.work) → ⊥
      away i l gone (inl e) = gone (inl e)
      away i l gone (inr a) = ⊎_elim (λ (j : IsAmong i slots). gone (inr j)) (λ (j : IsAmong i (numbers from many)). let k = numbers_among i from many j in let k0 = k.0 in absurd (omega arith)) (among_append i slots (numbers from many) (subst (λ is. IsAmong i is) work_slots a))

  -- the state as the code makes it
  pub fix_state : step_fix t rs fs s ≡ then
  fix_state =
      ap (λ bs. record { places = group_places rs fs s.places; blocks = s.blocks; placed = group_placed rs fs s.placed; bodies = bs; work = group_tasks from rs fs s.work }) (ap (put_group t.slot kept) (group_bodies_are rs fs s.bodies) ∙ put_is kept)
      ∙ ap (λ w. record { places = group_places rs fs s.places; blocks = s.blocks; placed = group_placed rs fs s.placed; bodies = bodies; work = w }) (group_tasks_are from rs fs s.work)
    where
      here : slice_get longer t.slot ≡ Some old
      here = get_append s.bodies (replicate many empty) t.slot old (slot_here t.slot slots s.bodies r.slots)

      put_is : (ks : List Entry) → put_group t.slot ks longer ≡ slice_set longer t.slot (with_kept ks old)
      put_is [] = set_same longer t.slot old here
      put_is (k ∷ ks) =
          let l = slot_below t.slot slots s.bodies r.slots in
          let g : length longer ≡ from + many = length-append s.bodies (replicate many empty) ∙ ap (λ k. from + k) (length-replicate many empty) in
          let e : nat_lt t.slot (length longer) ≡ true = grind arith in
          ap (λ b. cond b (slice_set longer t.slot (and_bind (row.Fix (k ∷ ks)) (get_or longer t.slot empty))) longer) e
          ∙ ap (λ b. slice_set longer t.slot (and_bind (row.Fix (k ∷ ks)) b)) (or_here longer t.slot empty old here)
