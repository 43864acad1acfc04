-- Ends that name no body, and ends in whose place another body goes on.
use Rattle.std.proofs.Common.{◌≡◌, ◌≢◌, ℕ, ◌≤◌, ◌<◌, List, [], ◌∷◌, ◌++◌, length, Bool, Some, inl, inr, slice_get, refl, sym, ap, ◌∙◌, subst, arith, ⊎_elim, append-nil, length-set}
use Rattle.std.specs.Prelude.{get_or, slice_set}
use Rattle.std.specs.List.{AllByRecursion}
use Rattle.simulation.specs.Blocks.{IsAmong}
use Rattle.simulation.proofs.Lists.{map_among, among_append, among_left, among_right, get_set_same, get_set_other}
use Rattle.cps_ir.specs.declared.atom.Atom.{Atom}
use Rattle.cps_ir.specs.declared.body.Body.{Body}
use Rattle.cps_ir.specs.declared.body.End.{End}
use Rattle.cps_ir.specs.declared.body.End.TheVariants as end
use Rattle.cps_ir.specs.Code.{Code, Equal, Call, Throw, Halt}
use Rattle.cps_ir.specs.Kept.{end_parts, body_parts}
use Rattle.cps_ir.specs.Program.{code_at, code_of_binds, code_of_end}
use Rattle.contract_laws.specs.Redex.{nodes}
use Rattle.contract_round.specs.Round.{walk}
use Rattle.contract_round.proofs.Counts.{distinct_weighs, weighs_distinct}
use Rattle.contract_census.specs.declared.counts.Count.{Count}
use Rattle.contract_rows.specs.Rows.{empty}
use Rattle.contract_group.specs.declared.task.Task.{Task}
use Rattle.contract_group.specs.Bodies.{and_end, with_end}
use Rattle.contract_steps.specs.State.{State}
use Rattle.contract_steps.specs.Steps.{with_bodies, go_on}
use Rattle.contract_holds.specs.Open.{all_nodes}
use Rattle.contract_holds.specs.Holds.{Holds}
use Rattle.contract_holds.specs.Fits.{binds_of, slots_of, AreOpen, scope_in, TasksFit}
use Rattle.contract_holds.specs.Turn.{Ready, Stops}
use Rattle.contract_holds.proofs.Filled.{slot_here, slot_apart, with_end_is, ended, end_parts_more, all_at, all_from, all_both, weigh_append}
use Rattle.contract_holds.proofs.Narrow.{Less, same_tables}
use Rattle.contract_holds.proofs.One.{tasks_fit, roots_kept, binds_same}

-- ---- Lists

pub all_front : {A : Type 0} (Q : A → Type 0) (xs ys : List A) → AllByRecursion Q (xs ++ ys) → AllByRecursion Q xs
all_front Q [] ys a = tt
all_front Q (x ∷ xs) ys a = (a.0, all_front Q xs ys a.1)

pub all_back : {A : Type 0} (Q : A → Type 0) (xs ys : List A) → AllByRecursion Q (xs ++ ys) → AllByRecursion Q ys
all_back Q [] ys a = a
all_back Q (x ∷ xs) ys a = all_back Q xs ys a.1

pub slots_append : (xs ys : List Task) → slots_of (xs ++ ys) ≡ slots_of xs ++ slots_of ys
slots_append [] ys = refl
slots_append (x ∷ xs) ys = ap (λ zs. x.slot ∷ zs) (slots_append xs ys)

-- the slot that is first or last
pub turned_open : (slot : ℕ) (slots : List ℕ) (bodies : List Body) → AreOpen (slot ∷ slots) bodies → AreOpen (slots ++ slot ∷ []) bodies
turned_open slot slots bodies free = record {
  tree = free.tree;
  distinct = weighs_distinct (slots ++ slot ∷ []) (λ x. let d = distinct_weighs (slot ∷ slots) free.distinct x in let a = weigh_append x slots (slot ∷ []) in omega arith);
  below = all_both (λ i. i < length bodies) slots (slot ∷ []) free.below.1 (free.below.0, tt);
  ends = λ i b a e. free.ends i b (⊎_elim (λ (j : IsAmong i slots). inr j) (λ (j : IsAmong i (slot ∷ [])). only i j) (among_append i slots (slot ∷ []) a)) e;
}
  where
    only : (i : ℕ) → IsAmong i (slot ∷ []) → IsAmong i (slot ∷ slots)
    only i (inl q) = inl q
    only i (inr j) = absurd j

pub turned_back : (slot : ℕ) (slots : List ℕ) (bodies : List Body) → AreOpen (slots ++ slot ∷ []) bodies → AreOpen (slot ∷ slots) bodies
turned_back slot slots bodies free = record {
  tree = free.tree;
  distinct = weighs_distinct (slot ∷ slots) (λ x. let d = distinct_weighs (slots ++ slot ∷ []) free.distinct x in let a = weigh_append x slots (slot ∷ []) in omega arith);
  below = (all_at (λ i. i < length bodies) (slots ++ slot ∷ []) slot free.below (among_right slot slots (slot ∷ []) (inl refl)), all_front (λ i. i < length bodies) slots (slot ∷ []) free.below);
  ends = ends;
}
  where
    ends : (i : ℕ) (b : Body) → IsAmong i (slot ∷ slots) → slice_get bodies i ≡ Some b → b.end ≡ end.Halt
    ends i b (inl q) e = free.ends i b (subst (λ j. IsAmong j (slots ++ slot ∷ [])) (sym q) (among_right slot slots (slot ∷ []) (inl refl))) e
    ends i b (inr j) e = free.ends i b (among_left i slots (slot ∷ []) j) e

-- ---- An end without parts

module _ (texts : List (List ℕ)) (source : List Body) (counts : List Count) (t : Task) (c : Code) (s : State) (r : Ready texts source counts t c s) where
  abbrev slots : List ℕ
  slots = slots_of s.work

  abbrev old : Body
  old = get_or s.bodies t.slot empty

  module _ (e : End) (none : end_parts e ≡ []) (is : (P : ℕ → Code) → walk texts (scope_in texts source s t.root) c ≡ code_of_end P e) (some : 1 ≤ nodes c) where
    abbrev stopped : State
    stopped = with_bodies s (with_end t.slot e s.bodies)

    stop_is : with_end t.slot e s.bodies ≡ slice_set s.bodies t.slot (and_end e old)
    stop_is = with_end_is t.slot slots s.bodies r.slots e

    stop_length : length (with_end t.slot e s.bodies) ≡ length s.bodies
    stop_length = ap length stop_is ∙ length-set s.bodies t.slot (and_end e old)

    stop_other : (i : ℕ) → i ≢ t.slot → slice_get (with_end t.slot e s.bodies) i ≡ slice_get s.bodies i
    stop_other i n = ap (λ bs. slice_get bs i) stop_is ∙ get_set_other s.bodies t.slot (and_end e old) i n

    stop_here : slice_get (with_end t.slot e s.bodies) t.slot ≡ Some (and_end e old)
    stop_here = ap (λ bs. slice_get bs t.slot) stop_is ∙ get_set_same s.bodies t.slot (and_end e old) old (slot_here t.slot slots s.bodies r.slots)

    stop_open : AreOpen slots (with_end t.slot e s.bodies)
    stop_open =
        let parts : body_parts (and_end e old) ≡ body_parts old ++ [] = end_parts_more t.slot slots s.bodies r.slots e ∙ ap (λ ps. body_parts old ++ ps) none in
        subst (λ bs. AreOpen slots bs) (ap (λ bs. slice_set bs t.slot (and_end e old)) (append-nil s.bodies) ∙ sym stop_is)
        (subst (λ is. AreOpen is (slice_set (s.bodies ++ []) t.slot (and_end e old))) (append-nil slots) (ended t.slot slots s.bodies r.slots 0 (and_end e old) parts))

    stop_less : Less source counts c s r.holds Halt stopped
    stop_less = record { binds = λ z. omega arith; occurs = λ z b. omega arith; uses = λ z. omega arith; inner = λ z. omega arith }

    pub stops : Stops texts source counts t c s stopped
    stops =
        let hold = r.holds in
        let l = stop_length in
        record {
          stands = record {
            holds = same_tables source counts c s hold Halt stopped stop_less refl refl refl (omega arith) (λ x. tt) hold.counted_work;
            slots = stop_open;
            roots = roots_kept (length s.bodies) (length (with_end t.slot e s.bodies)) (omega arith) s.work r.roots;
          };
          fits = λ P tasks done. record {
            here = ap (code_of_binds P (binds_of s.bodies t.slot)) (is P) ∙ done t.slot (and_end e old) stop_here (λ a. slot_apart t.slot slots s.bodies r.slots t.slot a refl);
            tasks = tasks_fit texts source P s stopped s.work
                (λ u i. let j : IsAmong u.slot slots = map_among (λ t. t.slot) u s.work i in let k = r.slots in binds_same s.bodies (with_end t.slot e s.bodies) u.slot (all_at (λ i. i < length s.bodies) slots u.slot k.below.1 j) (stop_other u.slot (slot_apart t.slot slots s.bodies r.slots u.slot j)))
                (all_from _ s.work (λ u i. refl)) tasks;
            done = λ i b g away. done i b (stop_other i (λ q. away (inl q)) ∙ g) (λ a. away (inr a));
          };
          less = omega arith;
        }

  -- ---- Another body goes on

  module _ (body : ℕ) (n : State) (hold : Holds source counts Halt n) (bodies : n.bodies ≡ s.bodies) (work : n.work ≡ s.work ++ go_on t body ∷ [])
      (walks : AllByRecursion (λ u. walk texts (scope_in texts source s u.root) (code_at source u.body) ≡ walk texts (scope_in texts source n u.root) (code_at source u.body)) s.work)
      (is : walk texts (scope_in texts source s t.root) c ≡ walk texts (scope_in texts source n t.root) (code_at source body))
      (less : all_nodes source Halt n ≤ all_nodes source c s) where
    slots_then : slots_of n.work ≡ slots ++ t.slot ∷ []
    slots_then = ap slots_of work ∙ slots_append s.work (go_on t body ∷ [])

    pub goes_on : Stops texts source counts t c s n
    goes_on = record {
      stands = record {
        holds = hold;
        slots = subst (λ w. AreOpen w n.bodies) (sym slots_then) (subst (λ bs. AreOpen (slots ++ t.slot ∷ []) bs) (sym bodies) (turned_open t.slot slots s.bodies r.slots));
        roots = subst (λ w. AllByRecursion (λ u. u.root < length n.bodies) w) (sym work) (subst (λ bs. AllByRecursion (λ u. u.root < length bs) (s.work ++ go_on t body ∷ [])) (sym bodies) (all_both (λ u. u.root < length s.bodies) s.work (go_on t body ∷ []) r.roots (r.root, tt)));
      };
      fits = λ P tasks done.
          let all : TasksFit texts source P n (s.work ++ go_on t body ∷ []) = subst (λ w. TasksFit texts source P n w) work tasks in
          let last = all_back _ s.work (go_on t body ∷ []) all in
          record {
            here = ap (code_of_binds P (binds_of s.bodies t.slot)) is ∙ ap (λ bs. code_of_binds P (binds_of bs t.slot) (walk texts (scope_in texts source n t.root) (code_at source body))) (sym bodies) ∙ last.0;
            tasks = tasks_fit texts source P s n s.work (λ u i. ap (λ bs. binds_of bs u.slot) bodies) walks (all_front _ s.work (go_on t body ∷ []) all);
            done = λ i b g away. done i b (ap (λ bs. slice_get bs i) bodies ∙ g) (λ a. away (put_first i (subst (λ w. IsAmong i w) slots_then a)));
          };
      less = less;
    }
      where
        put_first : (i : ℕ) → IsAmong i (slots ++ t.slot ∷ []) → IsAmong i (t.slot ∷ slots)
        put_first i a = ⊎_elim (λ (j : IsAmong i slots). inr j) (λ (j : IsAmong i (t.slot ∷ [])). only j) (among_append i slots (t.slot ∷ []) a)
          where
            only : IsAmong i (t.slot ∷ []) → IsAmong i (t.slot ∷ slots)
            only (inl q) = inl q
            only (inr j) = absurd j

-- ---- No body is named by an end that is none of matches

pub equal_parts : (e : End) (a b : Atom) (truth : Bool) (k : Atom) → Equal a b truth k ≡ code_of_end (λ i. Halt) e → end_parts e ≡ []
equal_parts (end.Equal a b t k) c d u l h = refl
equal_parts (end.Call a atoms) c d u l h = refl
equal_parts (end.Match a rules o) c d u l h = absurd (cc)
equal_parts (end.Throw a) c d u l h = refl
equal_parts end.Halt c d u l h = refl

pub call_parts : (e : End) (a : Atom) (atoms : List Atom) → Call a atoms ≡ code_of_end (λ i. Halt) e → end_parts e ≡ []
call_parts (end.Equal a b t k) c us h = refl
call_parts (end.Call a atoms) c us h = refl
call_parts (end.Match a rules o) c us h = absurd (cc)
call_parts (end.Throw a) c us h = refl
call_parts end.Halt c us h = refl

pub throw_parts : (e : End) (a : Atom) → Throw a ≡ code_of_end (λ i. Halt) e → end_parts e ≡ []
throw_parts (end.Equal a b t k) c h = refl
throw_parts (end.Call a atoms) c h = refl
throw_parts (end.Match a rules o) c h = absurd (cc)
throw_parts (end.Throw a) c h = refl
throw_parts end.Halt c h = refl
