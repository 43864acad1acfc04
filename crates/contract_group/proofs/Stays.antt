-- One more function that stays, or doesn't.
use Rattle.std.proofs.Common.{◌≡◌, ℕ, zero, suc, ◌+◌, ◌<◌, List, [], ◌∷◌, ◌++◌, Option, Some, None, length, drop, refl, sym, ap, ◌∙◌, arith, append_assoc, append-nil, length-append}
use Rattle.std.specs.Prelude.{get_or}
use Rattle.cps_ir.specs.declared.body.Function.{Function}
use Rattle.cps_ir.specs.declared.body.Body.{Body}
use Rattle.contract_rows.specs.Rows.{empty}
use Rattle.contract_roles.specs.declared.group.Role.{Role}
use Rattle.contract_roles.specs.declared.group.Role.TheVariants as role
use Rattle.contract_group.specs.declared.task.Task.{Task}
use Rattle.contract_group.specs.Group.{kept_front, kept_step, tasks_step, with_new, number_after, group_kept, group_tasks, group_bodies}

drop_first : {A : Type 0} (xs : List A) (i : ℕ) (d : A) → i < length xs → drop i xs ≡ get_or xs i d ∷ drop (suc i) xs
drop_first [] i d h = absurd (omega arith)
drop_first (x ∷ xs) zero d h = refl
drop_first (x ∷ xs) (suc i) d h = drop_first xs i d (omega arith)

drop_step : {A : Type 0} (xs : List A) (i : ℕ) (d : A) → i < length xs → drop i xs ≡ get_or xs i d ∷ drop (i + 1) xs
drop_step xs i d h = let e : suc i ≡ i + 1 = omega arith in drop_first xs i d h ∙ ap (λ n. get_or xs i d ∷ drop n xs) e

pub one_more : (r : Role) (bodies : List Body) → length (with_new r bodies) ≡ number_after r (length bodies)
one_more role.Stays bodies = let h = length-append bodies (empty ∷ []) in omega arith
one_more role.Dropped bodies = refl
one_more (role.Replaced x) bodies = refl
one_more role.Placed bodies = refl

front_is : (o : Option Function) (kept fs : List Function) → (kept ++ kept_front o []) ++ fs ≡ kept ++ kept_front o fs
front_is None kept fs = ap (λ ks. ks ++ fs) (append-nil kept)
front_is (Some f) kept fs = append_assoc kept (f ∷ []) fs

pub pushed : (o : Option Function) (f : Function) (kept new : List Function) → o ≡ Some f → new ≡ kept ++ f ∷ [] → new ≡ kept ++ kept_front o []
pushed o f kept new e h = h ∙ sym (ap (λ p. kept ++ kept_front p []) e)

pub not_pushed : (o : Option Function) (kept new : List Function) → o ≡ None → new ≡ kept → new ≡ kept ++ kept_front o []
not_pushed o kept new e h = h ∙ sym (append-nil kept) ∙ sym (ap (λ p. kept ++ kept_front p []) e)

module _ (rs : List Role) (fs : List Function) (i : ℕ) (r d : Role) (f g : Function) (bodies after : List Body) (less : i < length fs) (below : i < length rs) (is_r : r ≡ get_or rs i d) (is_f : f ≡ get_or fs i g) (e : after ≡ with_new r bodies) where
  functions_from : drop i fs ≡ f ∷ drop (i + 1) fs
  functions_from = drop_step fs i g less ∙ ap (λ x. x ∷ drop (i + 1) fs) (sym is_f)

  roles_from : drop i rs ≡ r ∷ drop (i + 1) rs
  roles_from = drop_step rs i d below ∙ ap (λ x. x ∷ drop (i + 1) rs) (sym is_r)

  behind : length after ≡ number_after r (length bodies)
  behind = ap length e ∙ one_more r bodies

  pub kept_on : (o : Option Function) (kept new : List Function) → o ≡ kept_step (length bodies) r f → new ≡ kept ++ kept_front o [] → new ++ group_kept (length after) (drop (i + 1) rs) (drop (i + 1) fs) ≡ kept ++ group_kept (length bodies) (drop i rs) (drop i fs)
  kept_on o kept new k h =
      ap (λ ks. ks ++ group_kept (length after) (drop (i + 1) rs) (drop (i + 1) fs)) h
      ∙ front_is o kept (group_kept (length after) (drop (i + 1) rs) (drop (i + 1) fs))
      ∙ ap (λ p. kept ++ kept_front p (group_kept (length after) (drop (i + 1) rs) (drop (i + 1) fs))) k
      ∙ ap (λ n. kept ++ kept_front (kept_step (length bodies) r f) (group_kept n (drop (i + 1) rs) (drop (i + 1) fs))) behind
      ∙ sym (ap (λ qs. kept ++ group_kept (length bodies) qs (drop i fs)) roles_from ∙ ap (λ gs. kept ++ group_kept (length bodies) (r ∷ drop (i + 1) rs) gs) functions_from)

  pub bodies_on : group_bodies (drop (i + 1) rs) (drop (i + 1) fs) after ≡ group_bodies (drop i rs) (drop i fs) bodies
  bodies_on = ap (group_bodies (drop (i + 1) rs) (drop (i + 1) fs)) e ∙ sym (ap (λ qs. group_bodies qs (drop i fs) bodies) roles_from ∙ ap (λ gs. group_bodies (r ∷ drop (i + 1) rs) gs bodies) functions_from)

  pub tasks_on : (work new : List Task) → new ≡ tasks_step (length bodies) r f work → group_tasks (length after) (drop (i + 1) rs) (drop (i + 1) fs) new ≡ group_tasks (length bodies) (drop i rs) (drop i fs) work
  tasks_on work new h =
      ap (group_tasks (length after) (drop (i + 1) rs) (drop (i + 1) fs)) h
      ∙ ap (λ n. group_tasks n (drop (i + 1) rs) (drop (i + 1) fs) (tasks_step (length bodies) r f work)) behind
      ∙ sym (ap (λ qs. group_tasks (length bodies) qs (drop i fs) work) roles_from ∙ ap (λ gs. group_tasks (length bodies) (r ∷ drop (i + 1) rs) gs work) functions_from)
