-- The step at a match.
use Rattle.std.proofs.Common.{◌≡◌, ℕ, zero, suc, ◌+◌, ◌≤◌, ◌<◌, List, [], ◌∷◌, ◌++◌, length, replicate, true, cond, Option, Some, None, inl, inr, slice_get, nat_lt, refl, sym, ap, ◌∙◌, subst, arith, append_assoc, length-append, ⊎_elim}
use Rattle.std.specs.Prelude.{get_or, slice_set}
use Rattle.std.specs.List.{AllByRecursion}
use Rattle.std.proofs.lemmas.List.{length-replicate}
use Rattle.simulation.specs.Blocks.{IsAmong}
use Rattle.simulation.proofs.Lists.{map_among, get_append, among_append}
use Rattle.cps_ir.specs.declared.atom.Atom.{Atom}
use Rattle.cps_ir.specs.declared.atom.Test.{Test}
use Rattle.cps_ir.specs.declared.body.Body.{Body}
use Rattle.cps_ir.specs.declared.body.Rule.{Rule}
use Rattle.cps_ir.specs.declared.body.End.{End}
use Rattle.cps_ir.specs.declared.body.End.TheVariants as end
use Rattle.cps_ir.specs.Code as tree
use Rattle.cps_ir.specs.Code.{Code, Halt, Rules}
use Rattle.cps_ir.specs.Kept.{body_parts}
use Rattle.cps_ir.specs.Program.{code_at, code_of_binds, code_of_end, rules_of}
use Rattle.contract_laws.specs.Contract.{Made, nothing}
use Rattle.contract_laws.specs.Redex.{uses, uses_rules, nodes, nodes_rules}
use Rattle.contract_laws.specs.Weigh.{weigh, weigh_rules, of_name}
use Rattle.contract_round.specs.Round as round
use Rattle.contract_round.specs.Round.{known, atom_in, tests_left, walk, rules_walk}
use Rattle.contract_census.specs.declared.counts.Count.{Count}
use Rattle.contract_census.specs.Counting.{count_at}
use Rattle.contract_census.specs.Counted.{IsCensus, IsCountIn}
use Rattle.contract_known.specs.Known.{place_of, made_at}
use Rattle.contract_rows.specs.Rows.{empty, numbers}
use Rattle.contract_rules.specs.declared.rules.RulesLeft.{RulesLeft}
use Rattle.contract_rules.specs.Rules.{one_rule, rules_known}
use Rattle.contract_rules.proofs.Law.{rules_are}
use Rattle.contract_group.specs.declared.task.Task.{Task}
use Rattle.contract_group.specs.Bodies.{and_end, with_end}
use Rattle.contract_steps.specs.State.{State}
use Rattle.contract_steps.specs.Steps.{go_on, task_from, rules_from, rule_bodies, rule_tasks, match_by, match_left, match_step}
use Rattle.contract_holds.specs.Open.{occurs, occurs_rules, inner, inner_rules, work_sum, all_nodes}
use Rattle.contract_holds.specs.Holds.{Holds}
use Rattle.contract_holds.specs.Fits.{bodies_in, binds_of, slots_of, AreOpen, scope_in, TasksFit}
use Rattle.contract_holds.specs.Turn.{Ready, Stops}
use Rattle.contract_holds.proofs.Sums.{work_append}
use Rattle.contract_holds.proofs.Filled.{or_here, slot_here, slot_below, slot_apart, ended, new_length, new_here, new_other, binds_other, numbers_among, end_parts_more, all_at, all_from, all_both}
use Rattle.contract_holds.proofs.Narrow.{Less, same_tables}
use Rattle.contract_holds.proofs.One.{tasks_fit, roots_kept}
use Rattle.contract_holds.proofs.Stop.{all_front, all_back, slots_append, goes_on}
use Rattle.contract_holds.proofs.Begun.{replicate_more, numbers_more, past_binds, rules_parts, rule_bodies_are, bodies_length, tasks_list, rule_tasks_are, list_slots}

-- ---- What is left of rules is some of them

module _ (part : ℕ → Code) where
  abbrev pub rules_sum : (Code → ℕ) → List Rule → ℕ
  rules_sum m [] = 0
  rules_sum m (r ∷ rules) = m (part r.body) + rules_sum m rules

  module _ (m : Code → ℕ) where
    one_less : (o : Option (List Test)) (i : ℕ) (l : RulesLeft) → rules_sum m (one_rule o i l).rules + m (part (one_rule o i l).otherwise) ≤ m (part i) + (rules_sum m l.rules + m (part l.otherwise))
    one_less None i l = omega arith
    one_less (Some []) i l = omega arith
    one_less (Some (t ∷ ts)) i l = omega arith

    pub rules_less : (texts : List (List ℕ)) (σ : ℕ → Atom) (τ : ℕ → Option Made) (a : Atom) (mr : Rules → ℕ) → ((c : Code) → m c ≤ mr (tree.Otherwise c)) → ((ts : List Test) (c : Code) (rs : Rules) → m c + mr rs ≤ mr (tree.Rule ts c rs)) → (rules : List Rule) (o : ℕ) → rules_sum m (rules_known texts σ τ a rules o).rules + m (part (rules_known texts σ τ a rules o).otherwise) ≤ mr (rules_of part rules o)
    rules_less texts σ τ a mr base more [] o = let h = base (part o) in omega arith
    rules_less texts σ τ a mr base more (r ∷ rules) o =
        let h = rules_less texts σ τ a mr base more rules o in
        let l = rules_known texts σ τ a rules o in
        let k = one_less (tests_left texts (known σ τ nothing) a r.tests) r.body l in
        let g = more r.tests (part r.body) (rules_of part rules o) in
        omega arith

  module _ (counts : List Count) where
    abbrev pub AllCounted : RulesLeft → Type 0
    AllCounted l = AllByRecursion (λ r. IsCensus counts (part r.body)) l.rules × IsCensus counts (part l.otherwise)

    one_counted : (o : Option (List Test)) (i : ℕ) (l : RulesLeft) → IsCensus counts (part i) → AllCounted l → AllCounted (one_rule o i l)
    one_counted None i l k h = h
    one_counted (Some []) i l k h = (tt, k)
    one_counted (Some (t ∷ ts)) i l k h = ((k, h.0), h.1)

    pub rules_counted : (texts : List (List ℕ)) (σ : ℕ → Atom) (τ : ℕ → Option Made) (a : Atom) (rules : List Rule) (o : ℕ) → ((x : ℕ) → IsCountIn x (count_at counts x) (rules_of part rules o)) → AllCounted (rules_known texts σ τ a rules o)
    rules_counted texts σ τ a [] o h = (tt, h)
    rules_counted texts σ τ a (r ∷ rules) o h =
        one_counted (tests_left texts (known σ τ nothing) a r.tests) r.body (rules_known texts σ τ a rules o) (λ x. let k = h x in k.0) (rules_counted texts σ τ a rules o (λ x. let k = h x in k.1))

tasks_sum : (source : List Body) (m : Code → ℕ) (root n : ℕ) (rules : List Rule) → work_sum source m (tasks_list root n rules) ≡ rules_sum (code_at source) m rules
tasks_sum source m root n [] = refl
tasks_sum source m root n (r ∷ rules) = let h = tasks_sum source m root (suc n) rules in omega arith

tasks_counted : (source : List Body) (counts : List Count) (root n : ℕ) (rules : List Rule) → AllByRecursion (λ r. IsCensus counts (code_at source r.body)) rules → AllByRecursion (λ t. IsCensus counts (code_at source t.body)) (tasks_list root n rules)
tasks_counted source counts root n [] h = tt
tasks_counted source counts root n (r ∷ rules) h = (h.0, tasks_counted source counts root (suc n) rules h.1)

tasks_rooted : (root n top : ℕ) (rules : List Rule) → root < top → AllByRecursion (λ u. u.root < top) (tasks_list root n rules)
tasks_rooted root n top [] l = tt
tasks_rooted root n top (r ∷ rules) l = (l, tasks_rooted root (suc n) top rules l)

module _ (texts : List (List ℕ)) (source : List Body) (counts : List Count) (t : Task) (a : Atom) (given : List Rule) (last : ℕ) (s : State) (r : Ready texts source counts t (tree.Match a (rules_of (code_at source) given last)) s) where
  abbrev head : Code
  head = tree.Match a (rules_of (code_at source) given last)

  abbrev hold : Holds source counts head s
  hold = r.holds

  abbrev slots : List ℕ
  slots = slots_of s.work

  abbrev old : Body
  old = get_or s.bodies t.slot empty

  abbrev u : Atom
  u = atom_in (place_of s.places) a

  abbrev left : RulesLeft
  left = rules_known texts (place_of s.places) (made_at s.blocks t.root) u given last

  -- the walk of a body of a rule
  abbrev walks : ℕ → Code
  walks i = walk texts (scope_in texts source s t.root) (code_at source i)

  match_walk : walk texts (scope_in texts source s t.root) head ≡ round.match_left u (rules_of walks left.rules left.otherwise)
  match_walk = ap (round.match_left u) (rules_are texts (place_of s.places) (made_at s.blocks t.root) u (bodies_in texts source s.places s.placed) (code_at source) given last)

  -- with these rules left
  module _ (rules : List Rule) (o : ℕ) (is : left ≡ record { rules = rules; otherwise = o }) where
    less_by : (m : Code → ℕ) (mr : Rules → ℕ) → ((c : Code) → m c ≤ mr (tree.Otherwise c)) → ((ts : List Test) (c : Code) (rs : Rules) → m c + mr rs ≤ mr (tree.Rule ts c rs)) → rules_sum (code_at source) m rules + m (code_at source o) ≤ mr (rules_of (code_at source) given last)
    less_by m mr base more = subst (λ l. rules_sum (code_at source) m l.rules + m (code_at source l.otherwise) ≤ mr (rules_of (code_at source) given last)) is (rules_less (code_at source) m texts (place_of s.places) (made_at s.blocks t.root) u mr base more given last)

    counted_by : AllByRecursion (λ r. IsCensus counts (code_at source r.body)) rules × IsCensus counts (code_at source o)
    counted_by = subst (AllCounted (code_at source) counts) is (rules_counted (code_at source) counts texts (place_of s.places) (made_at s.blocks t.root) u given last hold.counted)

    walk_by : walk texts (scope_in texts source s t.root) head ≡ round.match_left u (rules_of walks rules o)
    walk_by = match_walk ∙ ap (λ l. round.match_left u (rules_of walks l.rules l.otherwise)) is

    -- a state that has the same tables, and tasks for these bodies
    module _ (bodies : List Body) (work : List Task) (longer : length s.bodies ≤ length bodies) (sums : (m : Code → ℕ) → work_sum source m work ≡ work_sum source m s.work + (rules_sum (code_at source) m rules + m (code_at source o))) where
      abbrev n : State
      n = record { places = s.places; blocks = s.blocks; placed = s.placed; bodies = bodies; work = work }

      match_less : Less source counts head s hold Halt n
      match_less = record {
        binds = λ z. let k = sums (λ d. weigh (of_name z) d) in let l = less_by (λ d. weigh (of_name z) d) (weigh_rules (of_name z)) (λ c. omega arith) (λ ts c rs. omega arith) in omega arith;
        occurs = λ z b. let k = sums (λ d. occurs z d) in let l = less_by (λ d. occurs z d) (occurs_rules z) (λ c. omega arith) (λ ts c rs. omega arith) in omega arith;
        uses = λ z. let k = sums (λ d. uses z d) in let l = less_by (λ d. uses z d) (uses_rules z) (λ c. omega arith) (λ ts c rs. omega arith) in omega arith;
        inner = λ z. let k = sums (λ d. inner z d) in let l = less_by (λ d. inner z d) (inner_rules z) (λ c. omega arith) (λ ts c rs. omega arith) in omega arith;
      }

      nodes_left : all_nodes source Halt n ≤ all_nodes source head s
      nodes_left = let k = sums (λ d. nodes d) in let l = less_by (λ d. nodes d) nodes_rules (λ c. omega arith) (λ ts c rs. omega arith) in omega arith

      match_holds : AllByRecursion (λ t. IsCensus counts (code_at source t.body)) work → Holds source counts Halt n
      match_holds counted = same_tables source counts head s hold Halt n match_less refl refl refl longer (λ x. tt) counted

  -- ---- The last body alone

  module _ (o : ℕ) (is : left ≡ record { rules = []; otherwise = o }) where
    abbrev alone : List Task
    alone = s.work ++ go_on t o ∷ []

    alone_sums : (m : Code → ℕ) → work_sum source m alone ≡ work_sum source m s.work + (0 + m (code_at source o))
    alone_sums m = let k = work_append source m s.work (go_on t o ∷ []) in omega arith

    known_stops : Stops texts source counts t head s (record { places = s.places; blocks = s.blocks; placed = s.placed; bodies = s.bodies; work = alone })
    known_stops =
        let k = counted_by [] o is in
        goes_on texts source counts t head s r o (n [] o is s.bodies alone (omega arith) alone_sums)
        (match_holds [] o is s.bodies alone (omega arith) alone_sums (all_both (λ t. IsCensus counts (code_at source t.body)) s.work (go_on t o ∷ []) hold.counted_work (k.1, tt)))
        refl refl (all_from _ s.work (λ u i. refl)) (walk_by [] o is) (nodes_left [] o is s.bodies alone (omega arith) alone_sums)

  -- ---- Rules that are left

  module _ (q : Rule) (qs : List Rule) (o : ℕ) (is : left ≡ record { rules = q ∷ qs; otherwise = o }) where
    abbrev rules : List Rule
    rules = q ∷ qs

    abbrev from : ℕ
    from = length s.bodies

    abbrev many : ℕ
    many = suc (length rules)

    abbrev new_end : End
    new_end = end.Match u (rules_from from rules) (from + length rules)

    abbrev body : Body
    body = and_end new_end old

    abbrev longer : List Body
    longer = s.bodies ++ replicate many empty

    abbrev bodies : List Body
    bodies = slice_set longer t.slot body

    abbrev tasks : List Task
    tasks = tasks_list t.root from rules ++ task_from t.root (from + length rules) o ∷ []

    abbrev all_work : List Task
    all_work = s.work ++ tasks

    parts : body_parts body ≡ body_parts old ++ numbers from many
    parts =
        end_parts_more t.slot slots s.bodies r.slots new_end
        ∙ ap (λ ps. body_parts old ++ ps) (ap (λ ps. ps ++ (from + length rules) ∷ []) (rules_parts from rules) ∙ sym (numbers_more from (length rules)))

    tasks_slots : slots_of tasks ≡ numbers from many
    tasks_slots = slots_append (tasks_list t.root from rules) (task_from t.root (from + length rules) o ∷ []) ∙ ap (λ is. is ++ (from + length rules) ∷ []) (list_slots t.root from rules) ∙ sym (numbers_more from (length rules))

    work_slots : slots_of all_work ≡ slots ++ numbers from many
    work_slots = slots_append s.work tasks ∙ ap (λ is. slots ++ is) tasks_slots

    match_sums : (m : Code → ℕ) → work_sum source m all_work ≡ work_sum source m s.work + (rules_sum (code_at source) m rules + m (code_at source o))
    match_sums m =
        let k = work_append source m s.work tasks in
        let l = work_append source m (tasks_list t.root from rules) (task_from t.root (from + length rules) o ∷ []) in
        let g = tasks_sum source m t.root from rules in
        omega arith

    bodies_more : length s.bodies ≤ length bodies
    bodies_more = let l = new_length t.slot slots s.bodies r.slots many body parts in omega arith

    abbrev then : State
    then = record { places = s.places; blocks = s.blocks; placed = s.placed; bodies = bodies; work = all_work }

    then_holds : Holds source counts Halt then
    then_holds =
        let k = counted_by rules o is in
        match_holds rules o is bodies all_work bodies_more match_sums
        (all_both (λ t. IsCensus counts (code_at source t.body)) s.work tasks hold.counted_work
        (all_both (λ t. IsCensus counts (code_at source t.body)) (tasks_list t.root from rules) (task_from t.root (from + length rules) o ∷ []) (tasks_counted source counts t.root from rules k.0) (k.1, tt)))

    then_binds : (i : ℕ) → from ≤ i → binds_of bodies i ≡ []
    then_binds i l = past_binds s.bodies many t.slot i body (λ e. let b = slot_below t.slot slots s.bodies r.slots in absurd (omega arith)) l

    -- what is promised of the new bodies is the walk of those of the rules
    rules_fit : (P : ℕ → Code) (rs : List Rule) (k : ℕ) → from ≤ k → TasksFit texts source P then (tasks_list t.root k rs) → walks o ≡ P (from + length rules) → rules_of walks rs o ≡ rules_of P (rules_from k rs) (from + length rules)
    rules_fit P [] k l f e = ap tree.Otherwise e
    rules_fit P (x ∷ rs) k l f e =
        ap (λ c. tree.Rule x.tests c (rules_of walks rs o)) (sym (ap (λ bs. code_of_binds P bs (walks x.body)) (then_binds k l)) ∙ f.0)
        ∙ ap (tree.Rule x.tests (P k)) (rules_fit P rs (suc k) (omega arith) f.1 e)

    rules_stop : Stops texts source counts t head s then
    rules_stop = record {
      stands = record {
        holds = then_holds;
        slots = subst (λ w. AreOpen w bodies) (sym work_slots) (ended t.slot slots s.bodies r.slots many body parts);
        roots =
            let l = bodies_more in
            let b = r.root in
            all_both (λ u. u.root < length bodies) s.work tasks (roots_kept (length s.bodies) (length bodies) l s.work r.roots)
            (all_both (λ u. u.root < length bodies) (tasks_list t.root from rules) (task_from t.root (from + length rules) o ∷ []) (tasks_rooted t.root from (length bodies) rules (omega arith)) ((omega arith), tt));
      };
      fits = λ P fit done.
          let back : TasksFit texts source P then tasks = all_back _ s.work tasks fit in
          let lasts = all_back _ (tasks_list t.root from rules) (task_from t.root (from + length rules) o ∷ []) back in
          let last_is : walks o ≡ P (from + length rules) = sym (ap (λ bs. code_of_binds P bs (walks o)) (then_binds (from + length rules) (omega arith))) ∙ lasts.0 in
          let match_is : walk texts (scope_in texts source s t.root) head ≡ code_of_end P new_end = walk_by rules o is ∙ ap (tree.Match u) (rules_fit P rules from (omega arith) (all_front _ (tasks_list t.root from rules) (task_from t.root (from + length rules) o ∷ []) back) last_is) in
          record {
            here = ap (code_of_binds P (binds_of s.bodies t.slot)) match_is ∙ done t.slot body (new_here t.slot slots s.bodies r.slots many body parts) (λ i. away t.slot (slot_below t.slot slots s.bodies r.slots) (λ j. slot_apart t.slot slots s.bodies r.slots t.slot j refl) i);
            tasks = tasks_fit texts source P s then s.work
                (λ v i. let j : IsAmong v.slot slots = map_among (λ t. t.slot) v s.work i in let k = r.slots in binds_other t.slot slots s.bodies r.slots many body parts v.slot (slot_apart t.slot slots s.bodies r.slots v.slot j) (all_at (λ i. i < length s.bodies) slots v.slot k.below.1 j))
                (all_from _ s.work (λ v i. refl)) (all_front _ s.work tasks fit);
            done = λ i b g gone. done i b (new_other t.slot slots s.bodies r.slots many body parts i b (λ e. gone (inl e)) g) (away i (within s.bodies i b g) (λ j. gone (inr j)));
          };
      less = nodes_left rules o is bodies all_work bodies_more match_sums;
    }
      where
        within : (bs : List Body) (i : ℕ) (b : Body) → slice_get bs i ≡ Some b → i < length bs
        within [] i b e = absurd (cc)
        within (c ∷ bs) zero b e = omega arith
        within (c ∷ bs) (suc i) b e = let h = within bs i b e in omega arith

        away : (i : ℕ) → i < from → (IsAmong i slots → ⊥) → IsAmong i (slots_of all_work) → ⊥
        away i l gone a = ⊎_elim (λ (j : IsAmong i slots). gone j) (λ (j : IsAmong i (numbers from many)). let k = numbers_among i from many j in let k0 = k.0 in absurd (omega arith)) (among_append i slots (numbers from many) (subst (λ is. IsAmong i is) work_slots a))

    -- the state as the code makes it
    rules_state : match_by t u rules o s ≡ then
    rules_state = ap (λ w. record { places = s.places; blocks = s.blocks; placed = s.placed; bodies = with_end t.slot (end.Match u (rules_from from rules) (length (rule_bodies rules s.bodies))) (rule_bodies rules s.bodies ++ empty ∷ []); work = w }) work_is ∙ ap (λ bs. record { places = s.places; blocks = s.blocks; placed = s.placed; bodies = bs; work = all_work }) bodies_are
      where
        work_is : rule_tasks t.root from rules s.work ++ task_from t.root (length (rule_bodies rules s.bodies)) o ∷ [] ≡ all_work
        work_is =
            ap (λ w. w ++ task_from t.root (length (rule_bodies rules s.bodies)) o ∷ []) (rule_tasks_are t.root from rules s.work)
            ∙ append_assoc s.work (tasks_list t.root from rules) (task_from t.root (length (rule_bodies rules s.bodies)) o ∷ [])
            ∙ ap (λ k. s.work ++ (tasks_list t.root from rules ++ task_from t.root k o ∷ [])) (bodies_length rules s.bodies)

        with_end_longer : with_end t.slot new_end longer ≡ bodies
        with_end_longer =
            let l = slot_below t.slot slots s.bodies r.slots in
            let g : length longer ≡ from + many = length-append s.bodies (replicate many empty) ∙ ap (λ k. from + k) (length-replicate many empty) in
            let e : nat_lt t.slot (length longer) ≡ true = grind arith in
            ap (λ b. cond b (slice_set longer t.slot (and_end new_end (get_or longer t.slot empty))) longer) e
            ∙ ap (λ b. slice_set longer t.slot (and_end new_end b)) (or_here longer t.slot empty old (get_append s.bodies (replicate many empty) t.slot old (slot_here t.slot slots s.bodies r.slots)))

        bodies_are : with_end t.slot (end.Match u (rules_from from rules) (length (rule_bodies rules s.bodies))) (rule_bodies rules s.bodies ++ empty ∷ []) ≡ bodies
        bodies_are =
            ap (λ k. with_end t.slot (end.Match u (rules_from from rules) k) (rule_bodies rules s.bodies ++ empty ∷ [])) (bodies_length rules s.bodies)
            ∙ ap (with_end t.slot new_end) (ap (λ bs. bs ++ empty ∷ []) (rule_bodies_are rules s.bodies) ∙ append_assoc s.bodies (replicate (length rules) empty) (empty ∷ []) ∙ ap (λ bs. s.bodies ++ bs) (replicate_more (length rules)))
            ∙ with_end_longer

  pub match_stops : (n : State) → n ≡ match_step texts t a given last s → Stops texts source counts t head s n
  match_stops n h = by left refl h
    where
      by : (l : RulesLeft) → left ≡ l → n ≡ match_left t u l s → Stops texts source counts t head s n
      by l is e = rules l.rules refl
        where
          rules : (rs : List Rule) → l.rules ≡ rs → Stops texts source counts t head s n
          rules [] g = subst (λ m. Stops texts source counts t head s m) (sym (e ∙ ap (λ x. match_by t u x l.otherwise s) g)) (known_stops l.otherwise (is ∙ ap (λ x. record { rules = x; otherwise = l.otherwise }) g))
          rules (q ∷ qs) g = subst (λ m. Stops texts source counts t head s m) (sym (e ∙ ap (λ x. match_by t u x l.otherwise s) g ∙ rules_state q qs l.otherwise (is ∙ ap (λ x. record { rules = x; otherwise = l.otherwise }) g))) (rules_stop q qs l.otherwise (is ∙ ap (λ x. record { rules = x; otherwise = l.otherwise }) g))
