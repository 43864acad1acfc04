-- The step at a binding of one variable.
use Rattle.std.proofs.Common.{◌≡◌, ◌≢◌, ℕ, suc, ◌+◌, ◌≤◌, ◌<◌, List, [], ◌∷◌, length, Option, Some, None, inl, inr, slice_get, refl, sym, ap, ◌∙◌, subst, arith}
use Rattle.std.specs.Prelude.{get_or}
use Rattle.std.specs.List.{AllByRecursion}
use Rattle.simulation.specs.Blocks.{IsAmong}
use Rattle.simulation.proofs.Lists.{map_among}
use Rattle.cps_ir.specs.declared.body.Bind.{Bind}
use Rattle.cps_ir.specs.declared.body.Body.{Body}
use Rattle.cps_ir.specs.Code.{Code}
use Rattle.cps_ir.specs.Program.{code_at, code_of_binds}
use Rattle.contract_laws.specs.Redex.{uses, nodes, uses_atom, uses_atoms}
use Rattle.contract_laws.specs.Weigh.{weigh, of_name}
use Rattle.contract_round.specs.Round.{walk}
use Rattle.contract_round.proofs.Facts.{own, own_same}
use Rattle.contract_census.specs.declared.counts.Count.{Count}
use Rattle.contract_census.specs.Counted.{IsCensus}
use Rattle.contract_known.specs.declared.blocks.Block.{Block}
use Rattle.contract_known.specs.Known.{place_of}
use Rattle.contract_binds.specs.Law.{in_front}
use Rattle.contract_group.specs.declared.task.Task.{Task}
use Rattle.contract_steps.specs.State.{State}
use Rattle.contract_steps.specs.Steps.{put_left}
use Rattle.contract_holds.specs.Open.{binds_in, occurs_in, work_sum, placed_sum, occurs, inner, all_binds}
use Rattle.contract_holds.specs.Holds.{Holds}
use Rattle.contract_holds.specs.Fits.{binds_of, slots_of, AreOpen, scope_in, TasksFit, Fits}
use Rattle.contract_holds.specs.Turn.{Ready, Goes}
use Rattle.contract_holds.proofs.Sums.{work_each}
use Rattle.contract_holds.proofs.Still.{task_one}
use Rattle.contract_holds.proofs.Filled.{or_here, get_here, slot_apart, all_at}
use Rattle.contract_holds.proofs.Narrow.{Less, one_entered}
use Rattle.contract_holds.proofs.More.{HasNoPart, left_open, left_other, left_length, left_here}

-- tasks whose bodies of the answer and walks are as they were
pub tasks_fit : (texts : List (List ℕ)) (source : List Body) (P : ℕ → Code) (s n : State) (work : List Task)
    → ((t : Task) → IsAmong t work → binds_of n.bodies t.slot ≡ binds_of s.bodies t.slot)
    → AllByRecursion (λ t. walk texts (scope_in texts source s t.root) (code_at source t.body) ≡ walk texts (scope_in texts source n t.root) (code_at source t.body)) work
    → TasksFit texts source P n work → TasksFit texts source P s work
tasks_fit texts source P s n [] b w f = tt
tasks_fit texts source P s n (t ∷ work) b w f = (
  ap (λ bs. code_of_binds P bs (walk texts (scope_in texts source s t.root) (code_at source t.body))) (sym (b t (inl refl))) ∙ ap (code_of_binds P (binds_of n.bodies t.slot)) w.0 ∙ f.0,
  tasks_fit texts source P s n work (λ u i. b u (inr i)) w.1 f.1,
)

pub roots_kept : (i j : ℕ) → i ≤ j → (work : List Task) → AllByRecursion (λ u. u.root < i) work → AllByRecursion (λ u. u.root < j) work
roots_kept i j l [] a = tt
roots_kept i j l (t ∷ work) a = let k = a.0 in (omega arith, roots_kept i j l work a.1)

pub binds_same : (bodies new : List Body) (i : ℕ) → i < length bodies → slice_get new i ≡ slice_get bodies i → binds_of new i ≡ binds_of bodies i
binds_same bodies new i l e = ap (λ c. c.binds) (or_here new i _ (get_or bodies i _) (e ∙ get_here bodies i _ l))

module _ (texts : List (List ℕ)) (source : List Body) (counts : List Count) (t : Task) (head c : Code) (s n : State) (r : Ready texts source counts t head s) (left : Option Bind) (no_part : HasNoPart left)
    (bodies : n.bodies ≡ put_left t.slot left s.bodies) (work : n.work ≡ s.work) where
  abbrev slots : List ℕ
  slots = slots_of s.work

  length_same : length n.bodies ≡ length s.bodies
  length_same = ap length bodies ∙ left_length t.slot slots s.bodies r.slots left

  other_same : (i : ℕ) → i ≢ t.slot → slice_get n.bodies i ≡ slice_get s.bodies i
  other_same i e = ap (λ bs. slice_get bs i) bodies ∙ left_other t.slot slots s.bodies r.slots left i e

  task_binds : (u : Task) → IsAmong u s.work → binds_of n.bodies u.slot ≡ binds_of s.bodies u.slot
  task_binds u i =
      let j : IsAmong u.slot slots = map_among (λ t. t.slot) u s.work i in
      let k = r.slots in
      binds_same s.bodies n.bodies u.slot (all_at (λ i. i < length s.bodies) slots u.slot k.below.1 j) (other_same u.slot (slot_apart t.slot slots s.bodies r.slots u.slot j))

  pub bodies_go : (walks : AllByRecursion (λ u. walk texts (scope_in texts source s u.root) (code_at source u.body) ≡ walk texts (scope_in texts source n u.root) (code_at source u.body)) s.work)
      → ((P : ℕ → Code) → walk texts (scope_in texts source s t.root) head ≡ in_front P left (walk texts (scope_in texts source n t.root) c))
      → (P : ℕ → Code) → Fits texts source P n t c → Fits texts source P s t head
  bodies_go walks is P f = record {
    here =
        ap (code_of_binds P (binds_of s.bodies t.slot)) (is P)
        ∙ sym (left_here t.slot slots s.bodies r.slots P left (walk texts (scope_in texts source n t.root) c))
        ∙ ap (λ bs. code_of_binds P (binds_of bs t.slot) (walk texts (scope_in texts source n t.root) c)) (sym bodies)
        ∙ f.here;
    tasks = tasks_fit texts source P s n s.work task_binds walks (subst (λ w. TasksFit texts source P n w) work f.tasks);
    done = λ i b e away. f.done i b (other_same i (λ q. away (inl q)) ∙ e) (λ a. away (subst (λ w. IsAmong i (t.slot ∷ slots_of w)) work a));
  }

  pub ready_goes : Holds source counts c n → Ready texts source counts t c n
  ready_goes h = record {
    holds = h;
    slots = subst (λ w. AreOpen (t.slot ∷ slots_of w) n.bodies) (sym work) (subst (λ bs. AreOpen (t.slot ∷ slots) bs) (sym bodies) (left_open t.slot slots s.bodies r.slots left no_part));
    root = let k = r.root in let l = length_same in omega arith;
    roots = let l = length_same in roots_kept (length s.bodies) (length n.bodies) (omega arith) n.work (subst (λ w. AllByRecursion (λ u. u.root < length s.bodies) w) (sym work) r.roots);
  }

  -- the counts of the head and of what stands behind it
  module _ (placed : n.placed ≡ s.placed) where
    sums : (m : Code → ℕ) (k : List ℕ → Code → ℕ) → work_sum source m n.work + placed_sum source k n.placed ≡ work_sum source m s.work + placed_sum source k s.placed
    sums m k = ap (λ w. work_sum source m w + placed_sum source k n.placed) work ∙ ap (λ p. work_sum source m s.work + placed_sum source k p) placed

-- a form that binds x, in front of a body
pub record IsHead (counts : List Count) (x : ℕ) (head c : Code) : Type 0 where
  pub weighs : (z : ℕ) → weigh (of_name z) head ≡ own z x + weigh (of_name z) c
  pub occurs : (z : ℕ) → own z x ≡ 0 → occurs z c ≤ occurs z head
  pub uses : (z : ℕ) → uses z c ≤ uses z head
  pub inner : (z : ℕ) → inner z c ≤ inner z head
  pub nodes : nodes head ≡ suc (nodes c)
  pub census : IsCensus counts head → IsCensus counts c

module _ (texts : List (List ℕ)) (source : List Body) (counts : List Count) (t : Task) (x : ℕ) (head c : Code) (is : IsHead counts x head c) (s n : State) (r : Ready texts source counts t head s) (left : Option Bind) (no_part : HasNoPart left)
    (bodies : n.bodies ≡ put_left t.slot left s.bodies) (work : n.work ≡ s.work) (placed : n.placed ≡ s.placed)
    (places : (y : ℕ) → y ≢ x → place_of s.places y ≡ place_of n.places y) (blocks : (y : ℕ) → y ≢ x → get_or s.blocks y None ≡ get_or n.blocks y None)
    (places_length : length n.places ≡ length s.places) (blocks_length : length n.blocks ≡ length s.blocks)
    (place : (z : ℕ) → 1 ≤ all_binds source head s z → z ≢ x → uses_atom z (place_of n.places x) ≡ 0)
    (block : (b : Block) → get_or n.blocks x None ≡ Some b → (b.root < length s.bodies) × ((z : ℕ) → 1 ≤ all_binds source head s z → z ≢ x → uses_atoms z b.atoms ≡ 0))
    (walks : (P : ℕ → Code) → walk texts (scope_in texts source s t.root) head ≡ in_front P left (walk texts (scope_in texts source n t.root) c)) where
  here : 1 ≤ weigh (of_name x) head
  here = let e = is.weighs x in let o = own_same x x refl in omega arith

  less : Less source counts head s r.holds c n
  less = record {
    binds = λ z. let e = is.weighs z in let k = sums texts source counts t head c s n r left no_part bodies work placed (λ d. weigh (of_name z) d) (binds_in z) in omega arith;
    occurs = λ z b.
        let e = is.weighs z in
        let k = sums texts source counts t head c s n r left no_part bodies work placed (λ d. weigh (of_name z) d) (binds_in z) in
        let hold = r.holds in
        let once = hold.once z in
        let g = sums texts source counts t head c s n r left no_part bodies work placed (λ d. occurs z d) (occurs_in z) in
        let o = is.occurs z (omega arith) in
        omega arith;
    uses = λ z. let e = is.uses z in let k = sums texts source counts t head c s n r left no_part bodies work placed (λ d. uses z d) (λ ps d. uses z d) in omega arith;
    inner = λ z. let e = is.inner z in let k = sums texts source counts t head c s n r left no_part bodies work placed (λ d. inner z d) (λ ps d. uses z d) in omega arith;
  }

  gone : all_binds source c n x ≡ 0
  gone =
      let e = is.weighs x in
      let k = sums texts source counts t head c s n r left no_part bodies work placed (λ d. weigh (of_name x) d) (binds_in x) in
      let hold = r.holds in
      let once = hold.once x in
      let o = own_same x x refl in
      omega arith

  longer : length s.bodies ≤ length n.bodies
  longer = let l = length_same texts source counts t head c s n r left no_part bodies work in omega arith

  pub one_goes : Goes texts source counts t head s c n
  one_goes =
      let hold = r.holds in
      record {
        ready = ready_goes texts source counts t head c s n r left no_part bodies work
            (one_entered source counts head s hold c n less x gone places blocks places_length blocks_length placed place
            (λ b e. let g = block b e in let g0 = g.0 in let l = longer in (omega arith, g.1))
            longer (is.census hold.counted) (subst (λ w. AllByRecursion (λ t. IsCensus counts (code_at source t.body)) w) (sym work) hold.counted_work));
        fits = bodies_go texts source counts t head c s n r left no_part bodies work
            (work_each source s.work (λ u. walk texts (scope_in texts source s u.root) (code_at source u.body) ≡ walk texts (scope_in texts source n u.root) (code_at source u.body)) (λ u l. task_one texts source counts head s hold x here n places blocks placed u.root (code_at source u.body) l))
            walks;
        less = let e = is.nodes in let k = sums texts source counts t head c s n r left no_part bodies work placed (λ d. nodes d) (λ ps d. nodes d) in omega arith;
      }
