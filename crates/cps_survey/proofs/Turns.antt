-- The walk over a program: what it finds in a body is what its tasks find, and each task is one turn less.
use Rattle.std.proofs.Common.{◌≡◌, ℕ, suc, ◌+◌, ◌-◌, ◌<◌, ◌≤◌, List, [], ◌∷◌, ◌++◌, Option, Some, None, map, length, drop, reverse, refl, sym, ap, ◌∙◌, arith, append-nil}
use Rattle.std.proofs.lemmas.List.{append_assoc, reverse-append, reverse-reverse}
use Rattle.std.proofs.lemmas.Grind.{flat_map-append}
use Rattle.std.specs.Prelude.{slice_get, slice_index_or, flat_map}
use Rattle.std.proofs.Math.Seq.{drop-cons}
use Rattle.std.specs.List.{AllByRecursion}
use Rattle.sml_tree.specs.Sets.{row_at, without}
use Rattle.cps_ir.specs.declared.body.Function.{Function as Entry}
use Rattle.cps_ir.specs.declared.body.Bind.{Bind}
use Rattle.cps_ir.specs.declared.body.Bind.TheVariants as bind
use Rattle.cps_ir.specs.declared.body.Rule.{Rule as Chosen}
use Rattle.cps_ir.specs.declared.body.End.{End}
use Rattle.cps_ir.specs.declared.body.End.TheVariants as end
use Rattle.cps_ir.specs.declared.body.Body.{Body}
use Rattle.cps_ir.specs.Code.{Code, Prim, Halt}
use Rattle.cps_ir.specs.Program.{functions_of, rules_of, code_of_end, code_of_bind, code_of_binds, code_of_body, code_within, code_at}
use Rattle.cps_ir.specs.Kept.{bind_parts, end_parts, body_parts}
use Rattle.cps_ir.specs.Free.{free_code}
use Rattle.cps_ir.specs.Slim.{Layout, layouts, layouts_functions, layouts_rules}
use Rattle.cps_free.specs.Rows.{AreFree}
use Rattle.cps_free.proofs.Unfold.{AreNumbered, all_front, all_back, all_with, code_unfold}
use Rattle.lifetime_users.specs.Users.{Binding, binding, bindings, bindings_functions, bindings_rules}
use Rattle.cps_survey.specs.declared.tasks.Task.{Task}
use Rattle.cps_survey.specs.declared.tasks.Task.TheVariants as task
use Rattle.cps_survey.specs.Steps.{bound_in, layout_of, function_tasks, bind_tasks, rule_tasks, end_tasks, body_tasks, tasks_at, task_parts, layout_found, binding_found, turns, turns_functions, turns_rules}

abbrev pub over : {X : Type 0} → (Task → List X) → List Task → List X
over f tasks = flat_map f tasks

-- what the bodies of tasks have
abbrev pub layouts_in : (ℕ → List Layout) → Task → List Layout
layouts_in L (task.Found l) = l ∷ []
layouts_in L (task.Bound b) = []
layouts_in L (task.Body home i) = L i

abbrev pub bindings_in : (Option ℕ → ℕ → List Binding) → Task → List Binding
bindings_in B (task.Found l) = []
bindings_in B (task.Bound b) = b ∷ []
bindings_in B (task.Body home i) = B home i

abbrev pub turns_in : (ℕ → ℕ) → Task → ℕ
turns_in T (task.Found l) = 1
turns_in T (task.Bound b) = 1
turns_in T (task.Body home i) = T i

abbrev pub total : (Task → ℕ) → List Task → ℕ
total f [] = 0
total f (q ∷ tasks) = f q + total f tasks

total_append : (f : Task → ℕ) (ps qs : List Task) → total f (ps ++ qs) ≡ total f ps + total f qs
total_append f [] qs = omega arith
total_append f (p ∷ ps) qs = omega (arith, total_append f ps qs)

-- ---- The tree of a body, and its tasks

module _ (p : ℕ → Code) where
  abbrev F : ℕ → List ℕ
  F c = free_code (p c)

  abbrev A : Task → List Layout
  A = layouts_in (λ i. layouts (p i))

  params_layouts : (h : Option ℕ) (ps : List ℕ) (ts : List Task) → over A (map (bound_in h) ps ++ ts) ≡ over A ts
  params_layouts h [] ts = refl
  params_layouts h (x ∷ ps) ts = params_layouts h ps ts

  functions_layouts : (fs : List Entry) → layouts_functions (functions_of p fs) ≡ over A (flat_map (function_tasks F) fs)
  functions_layouts [] = refl
  functions_layouts (f ∷ fs) =
      ap (λ ls. layout_of F f ∷ ls)
      (ap (λ ls. layouts (p f.body) ++ ls) (functions_layouts fs) ∙ sym (append_assoc (layouts (p f.body)) [] (over A (flat_map (function_tasks F) fs)))
      ∙ sym (ap (λ ls. ls ++ over A (flat_map (function_tasks F) fs)) (params_layouts (Some f.name) f.params (task.Body (Some f.name) f.body ∷ []))))
      ∙ sym (flat_map-append A (function_tasks F f) (flat_map (function_tasks F) fs))

  rules_layouts : (h : Option ℕ) (rules : List Chosen) (otherwise : ℕ) → layouts_rules (rules_of p rules otherwise) ≡ over A (rule_tasks h rules ++ task.Body h otherwise ∷ [])
  rules_layouts h [] otherwise = sym (append-nil (layouts (p otherwise)))
  rules_layouts h (r ∷ rules) otherwise = ap (λ ls. layouts (p r.body) ++ ls) (rules_layouts h rules otherwise)

  end_layouts : (h : Option ℕ) (e : End) → layouts (code_of_end p e) ≡ over A (end_tasks h e)
  end_layouts h (end.Equal a b truth k) = refl
  end_layouts h (end.Call a atoms) = refl
  end_layouts h (end.Match a rules otherwise) = rules_layouts h rules otherwise
  end_layouts h (end.Throw a) = refl
  end_layouts h end.Halt = refl

  bind_layouts : (h : Option ℕ) (b : Bind) (c : Code) → layouts (code_of_bind p b c) ≡ over A (bind_tasks F h b) ++ layouts c
  bind_layouts h (bind.Make x shape atoms) c = refl
  bind_layouts h (bind.Pick x i a) c = refl
  bind_layouts h (bind.Prim x f atoms) c = refl
  bind_layouts h (bind.Fix fs) c = ap (λ ls. ls ++ layouts c) (functions_layouts fs)
  bind_layouts h (bind.Handler x) c = refl
  bind_layouts h (bind.SetHandler a) c = refl

  binds_layouts : (h : Option ℕ) (bs : List Bind) (c : Code) → layouts (code_of_binds p bs c) ≡ over A (flat_map (bind_tasks F h) bs) ++ layouts c
  binds_layouts h [] c = refl
  binds_layouts h (b ∷ bs) c =
      bind_layouts h b (code_of_binds p bs c) ∙ ap (λ ls. over A (bind_tasks F h b) ++ ls) (binds_layouts h bs c)
      ∙ sym (append_assoc (over A (bind_tasks F h b)) (over A (flat_map (bind_tasks F h) bs)) (layouts c))
      ∙ sym (ap (λ ls. ls ++ layouts c) (flat_map-append A (bind_tasks F h b) (flat_map (bind_tasks F h) bs)))

  body_layouts : (h : Option ℕ) (b : Body) → layouts (code_of_body p (Some b)) ≡ over A (body_tasks F h b)
  body_layouts h b =
      binds_layouts h b.binds (code_of_end p b.end) ∙ ap (λ ls. over A (flat_map (bind_tasks F h) b.binds) ++ ls) (end_layouts h b.end)
      ∙ sym (flat_map-append A (flat_map (bind_tasks F h) b.binds) (end_tasks h b.end))

  -- ---- Bindings

  abbrev B : Task → List Binding
  B = bindings_in (λ h i. bindings h (p i))

  params_bindings : (h : Option ℕ) (ps : List ℕ) (ts : List Task) → over B (map (bound_in h) ps ++ ts) ≡ map (binding h) ps ++ over B ts
  params_bindings h [] ts = refl
  params_bindings h (x ∷ ps) ts = ap (λ bs. binding h x ∷ bs) (params_bindings h ps ts)

  functions_bindings : (fs : List Entry) → bindings_functions (functions_of p fs) ≡ over B (flat_map (function_tasks F) fs)
  functions_bindings [] = refl
  functions_bindings (f ∷ fs) =
      let rest = over B (flat_map (function_tasks F) fs) in
      let mine = bindings (Some f.name) (p f.body) in
      ap (λ bs. map (binding (Some f.name)) f.params ++ (mine ++ bs)) (functions_bindings fs)
      ∙ sym (append_assoc (map (binding (Some f.name)) f.params) mine rest)
      ∙ ap (λ bs. (map (binding (Some f.name)) f.params ++ bs) ++ rest) (sym (append-nil mine))
      ∙ sym (ap (λ bs. bs ++ rest) (params_bindings (Some f.name) f.params (task.Body (Some f.name) f.body ∷ [])))
      ∙ sym (flat_map-append B (function_tasks F f) (flat_map (function_tasks F) fs))

  rules_bindings : (h : Option ℕ) (rules : List Chosen) (otherwise : ℕ) → bindings_rules h (rules_of p rules otherwise) ≡ over B (rule_tasks h rules ++ task.Body h otherwise ∷ [])
  rules_bindings h [] otherwise = sym (append-nil (bindings h (p otherwise)))
  rules_bindings h (r ∷ rules) otherwise = ap (λ bs. bindings h (p r.body) ++ bs) (rules_bindings h rules otherwise)

  end_bindings : (h : Option ℕ) (e : End) → bindings h (code_of_end p e) ≡ over B (end_tasks h e)
  end_bindings h (end.Equal a b truth k) = refl
  end_bindings h (end.Call a atoms) = refl
  end_bindings h (end.Match a rules otherwise) = rules_bindings h rules otherwise
  end_bindings h (end.Throw a) = refl
  end_bindings h end.Halt = refl

  bind_bindings : (h : Option ℕ) (b : Bind) (c : Code) → bindings h (code_of_bind p b c) ≡ over B (bind_tasks F h b) ++ bindings h c
  bind_bindings h (bind.Make x shape atoms) c = refl
  bind_bindings h (bind.Pick x i a) c = refl
  bind_bindings h (bind.Prim x f atoms) c = refl
  bind_bindings h (bind.Fix fs) c = ap (λ bs. bs ++ bindings h c) (functions_bindings fs)
  bind_bindings h (bind.Handler x) c = refl
  bind_bindings h (bind.SetHandler a) c = refl

  binds_bindings : (h : Option ℕ) (bs : List Bind) (c : Code) → bindings h (code_of_binds p bs c) ≡ over B (flat_map (bind_tasks F h) bs) ++ bindings h c
  binds_bindings h [] c = refl
  binds_bindings h (b ∷ bs) c =
      bind_bindings h b (code_of_binds p bs c) ∙ ap (λ ls. over B (bind_tasks F h b) ++ ls) (binds_bindings h bs c)
      ∙ sym (append_assoc (over B (bind_tasks F h b)) (over B (flat_map (bind_tasks F h) bs)) (bindings h c))
      ∙ sym (ap (λ ls. ls ++ bindings h c) (flat_map-append B (bind_tasks F h b) (flat_map (bind_tasks F h) bs)))

  body_bindings : (h : Option ℕ) (b : Body) → bindings h (code_of_body p (Some b)) ≡ over B (body_tasks F h b)
  body_bindings h b =
      binds_bindings h b.binds (code_of_end p b.end) ∙ ap (λ ls. over B (flat_map (bind_tasks F h) b.binds) ++ ls) (end_bindings h b.end)
      ∙ sym (flat_map-append B (flat_map (bind_tasks F h) b.binds) (end_tasks h b.end))

  -- ---- Turns

  abbrev T : Task → ℕ
  T = turns_in (λ i. turns (p i))

  params_turns : (h : Option ℕ) (ps : List ℕ) (ts : List Task) → total T (map (bound_in h) ps ++ ts) ≡ length ps + total T ts
  params_turns h [] ts = omega arith
  params_turns h (x ∷ ps) ts = omega (arith, params_turns h ps ts)

  functions_turns : (fs : List Entry) → turns_functions (functions_of p fs) ≡ total T (flat_map (function_tasks F) fs)
  functions_turns [] = refl
  functions_turns (f ∷ fs) =
      let a = functions_turns fs in
      let b = params_turns (Some f.name) f.params (task.Body (Some f.name) f.body ∷ []) in
      let c = total_append T (function_tasks F f) (flat_map (function_tasks F) fs) in
      omega (arith, a, b, c)

  rules_turns : (h : Option ℕ) (rules : List Chosen) (otherwise : ℕ) → turns_rules (rules_of p rules otherwise) ≡ total T (rule_tasks h rules ++ task.Body h otherwise ∷ [])
  rules_turns h [] otherwise = omega arith
  rules_turns h (r ∷ rules) otherwise = ap (λ n. turns (p r.body) + n) (rules_turns h rules otherwise)

  end_turns : (h : Option ℕ) (e : End) → turns (code_of_end p e) ≡ suc (total T (end_tasks h e))
  end_turns h (end.Equal a b truth k) = refl
  end_turns h (end.Call a atoms) = refl
  end_turns h (end.Match a rules otherwise) = ap suc (rules_turns h rules otherwise)
  end_turns h (end.Throw a) = refl
  end_turns h end.Halt = refl

  bind_turns : (h : Option ℕ) (b : Bind) (c : Code) → turns (code_of_bind p b c) ≡ total T (bind_tasks F h b) + turns c
  bind_turns h (bind.Make x shape atoms) c = omega arith
  bind_turns h (bind.Pick x i a) c = omega arith
  bind_turns h (bind.Prim x f atoms) c = omega arith
  bind_turns h (bind.Fix fs) c = ap (λ n. n + turns c) (functions_turns fs)
  bind_turns h (bind.Handler x) c = omega arith
  bind_turns h (bind.SetHandler a) c = omega arith

  binds_turns : (h : Option ℕ) (bs : List Bind) (c : Code) → turns (code_of_binds p bs c) ≡ total T (flat_map (bind_tasks F h) bs) + turns c
  binds_turns h [] c = omega arith
  binds_turns h (b ∷ bs) c =
      let a = bind_turns h b (code_of_binds p bs c) in
      let d = total_append T (bind_tasks F h b) (flat_map (bind_tasks F h) bs) in
      omega (arith, a, d, binds_turns h bs c)

  body_turns : (h : Option ℕ) (b : Body) → turns (code_of_body p (Some b)) ≡ suc (total T (body_tasks F h b))
  body_turns h b =
      let a = binds_turns h b.binds (code_of_end p b.end) in
      let d = total_append T (flat_map (bind_tasks F h) b.binds) (end_tasks h b.end) in
      omega (arith, a, d, end_turns h b.end)

-- ---- The same free variables of the parts, so the same tasks

module _ (f g : ℕ → List ℕ) where
  abbrev Agree : ℕ → Type 0
  Agree c = f c ≡ g c

  functions_same : (fs : List Entry) → AllByRecursion Agree (map (λ e. e.body) fs) → flat_map (function_tasks f) fs ≡ flat_map (function_tasks g) fs
  functions_same [] h = refl
  functions_same (e ∷ fs) h =
      ap (λ (l : Layout). task.Found l ∷ (map (bound_in (Some e.name)) e.params ++ task.Body (Some e.name) e.body ∷ []) ++ flat_map (function_tasks f) fs) (ap (λ xs. record { name = e.name; point = e.point; free = without xs e.params }) h.0)
      ∙ ap (λ ts. function_tasks g e ++ ts) (functions_same fs h.1)

  bind_same : (h : Option ℕ) (b : Bind) → AllByRecursion Agree (bind_parts b) → bind_tasks f h b ≡ bind_tasks g h b
  bind_same h (bind.Make x shape atoms) k = refl
  bind_same h (bind.Pick x i a) k = refl
  bind_same h (bind.Prim x p atoms) k = refl
  bind_same h (bind.Fix fs) k = functions_same fs k
  bind_same h (bind.Handler x) k = refl
  bind_same h (bind.SetHandler a) k = refl

  binds_same : (h : Option ℕ) (bs : List Bind) → AllByRecursion Agree (flat_map bind_parts bs) → flat_map (bind_tasks f h) bs ≡ flat_map (bind_tasks g h) bs
  binds_same h [] k = refl
  binds_same h (b ∷ bs) k =
      ap (λ ts. ts ++ flat_map (bind_tasks f h) bs) (bind_same h b (all_front Agree (bind_parts b) (flat_map bind_parts bs) k))
      ∙ ap (λ ts. bind_tasks g h b ++ ts) (binds_same h bs (all_back Agree (bind_parts b) (flat_map bind_parts bs) k))

  body_same : (h : Option ℕ) (b : Body) → AllByRecursion Agree (body_parts b) → body_tasks f h b ≡ body_tasks g h b
  body_same h b k = ap (λ ts. ts ++ end_tasks h b.end) (binds_same h b.binds (all_front Agree (flat_map bind_parts b.binds) (end_parts b.end) k))

code_none : (bodies : List Body) (i : ℕ) → slice_get bodies i ≡ None → code_at bodies i ≡ Halt
code_none [] i e = refl
code_none (b ∷ bodies) i e = ap (code_of_body (code_within (length bodies) (b ∷ bodies))) e

module _ (bodies : List Body) (numbered : AreNumbered bodies) (frees : List (List ℕ)) (are : AreFree bodies 0 frees) where
  abbrev C : ℕ → Code
  C i = code_at bodies i

  abbrev R : ℕ → List ℕ
  R = row_at frees

  abbrev pub AllLayouts : Task → List Layout
  AllLayouts = layouts_in (λ i. layouts (C i))

  abbrev pub AllBindings : Task → List Binding
  AllBindings = bindings_in (λ h i. bindings h (C i))

  abbrev pub AllTurns : Task → ℕ
  AllTurns = turns_in (λ i. turns (C i))

  tasks_are : (h : Option ℕ) (i : ℕ) (b : Body) → slice_get bodies i ≡ Some b → body_tasks R h b ≡ body_tasks (F C) h b
  tasks_are h i b e =
      body_same R (F C) h b (all_with (λ c. (i < c) × (c < length bodies)) (Agree R (F C)) (λ c k. are.at c (omega arith) k.1) (body_parts b) (numbered i b e))

  layouts_at : (h : Option ℕ) (i : ℕ) (o : Option Body) → slice_get bodies i ≡ o → layouts (C i) ≡ over AllLayouts (tasks_at R h o)
  layouts_at h i None e = ap layouts (code_none bodies i e)
  layouts_at h i (Some b) e = ap layouts (code_unfold bodies numbered i b e) ∙ body_layouts C h b ∙ ap (over AllLayouts) (sym (tasks_are h i b e))

  bindings_at : (h : Option ℕ) (i : ℕ) (o : Option Body) → slice_get bodies i ≡ o → bindings h (C i) ≡ over AllBindings (tasks_at R h o)
  bindings_at h i None e = ap (bindings h) (code_none bodies i e)
  bindings_at h i (Some b) e = ap (bindings h) (code_unfold bodies numbered i b e) ∙ body_bindings C h b ∙ ap (over AllBindings) (sym (tasks_are h i b e))

  turns_at : (h : Option ℕ) (i : ℕ) (o : Option Body) → slice_get bodies i ≡ o → turns (C i) ≡ suc (total AllTurns (tasks_at R h o))
  turns_at h i None e = ap turns (code_none bodies i e)
  turns_at h i (Some b) e = ap turns (code_unfold bodies numbered i b e) ∙ body_turns C h b ∙ ap (λ ts. suc (total AllTurns ts)) (sym (tasks_are h i b e))

  layouts_of_task : (q : Task) → AllLayouts q ≡ layout_found q ++ over AllLayouts (task_parts R bodies q)
  layouts_of_task (task.Found l) = refl
  layouts_of_task (task.Bound b) = refl
  layouts_of_task (task.Body h i) = layouts_at h i (slice_get bodies i) refl

  bindings_of_task : (q : Task) → AllBindings q ≡ binding_found q ++ over AllBindings (task_parts R bodies q)
  bindings_of_task (task.Found l) = refl
  bindings_of_task (task.Bound b) = refl
  bindings_of_task (task.Body h i) = bindings_at h i (slice_get bodies i) refl

  turns_of_task : (q : Task) → AllTurns q ≡ suc (total AllTurns (task_parts R bodies q))
  turns_of_task (task.Found l) = refl
  turns_of_task (task.Bound b) = refl
  turns_of_task (task.Body h i) = turns_at h i (slice_get bodies i) refl

  -- ---- A turn: the last task is taken off, and its parts are put on

  stacked : (work tasks : List Task) → reverse (work ++ reverse tasks) ≡ tasks ++ reverse work
  stacked work tasks = reverse-append work (reverse tasks) ∙ ap (λ ps. ps ++ reverse work) (reverse-reverse tasks)

  one_turn : {X : Type 0} (f : Task → List X) (own : List X) (work tasks : List Task) (q : Task) → f q ≡ own ++ over f tasks → (out all : List X) → out ++ over f (reverse (work ++ q ∷ [])) ≡ all → (out ++ own) ++ over f (reverse (work ++ reverse tasks)) ≡ all
  one_turn f own work tasks q u out all e =
      ap (λ ps. (out ++ own) ++ over f ps) (stacked work tasks)
      ∙ ap (λ xs. (out ++ own) ++ xs) (flat_map-append f tasks (reverse work))
      ∙ append_assoc out own (over f tasks ++ over f (reverse work))
      ∙ ap (λ xs. out ++ xs) (sym (append_assoc own (over f tasks) (over f (reverse work))))
      ∙ ap (λ xs. out ++ (xs ++ over f (reverse work))) (sym u)
      ∙ ap (λ ps. out ++ over f ps) (sym (reverse-append work (q ∷ [])))
      ∙ e

  pub layouts_turn : (work now : List Task) (q : Task) (out found all : List Layout) → now ≡ work ++ reverse (task_parts R bodies q) → found ≡ out ++ layout_found q → out ++ over AllLayouts (reverse (work ++ q ∷ [])) ≡ all → found ++ over AllLayouts (reverse now) ≡ all
  layouts_turn work now q out found all n f e =
      ap (λ xs. xs ++ over AllLayouts (reverse now)) f ∙ ap (λ ps. (out ++ layout_found q) ++ over AllLayouts (reverse ps)) n
      ∙ one_turn AllLayouts (layout_found q) work (task_parts R bodies q) q (layouts_of_task q) out all e

  pub bindings_turn : (work now : List Task) (q : Task) (out found all : List Binding) → now ≡ work ++ reverse (task_parts R bodies q) → found ≡ out ++ binding_found q → out ++ over AllBindings (reverse (work ++ q ∷ [])) ≡ all → found ++ over AllBindings (reverse now) ≡ all
  bindings_turn work now q out found all n f e =
      ap (λ xs. xs ++ over AllBindings (reverse now)) f ∙ ap (λ ps. (out ++ binding_found q) ++ over AllBindings (reverse ps)) n
      ∙ one_turn AllBindings (binding_found q) work (task_parts R bodies q) q (bindings_of_task q) out all e

  pub fewer_turns : (work now : List Task) (q : Task) → now ≡ work ++ reverse (task_parts R bodies q) → total AllTurns (reverse now) < total AllTurns (reverse (work ++ q ∷ []))
  fewer_turns work now q n =
      let tasks = task_parts R bodies q in
      let a : total AllTurns (reverse now) ≡ total AllTurns tasks + total AllTurns (reverse work) = ap (λ ps. total AllTurns (reverse ps)) n ∙ ap (total AllTurns) (stacked work tasks) ∙ total_append AllTurns tasks (reverse work) in
      let b : total AllTurns (reverse (work ++ q ∷ [])) ≡ AllTurns q + total AllTurns (reverse work) = ap (total AllTurns) (reverse-append work (q ∷ [])) in
      omega (arith, a, b, turns_of_task q)

-- ---- Tasks that are put on from the last to the first

pub pushed_more : {X : Type 0} (f : X → List Task) (xs : List X) (i : ℕ) (d x : X) (old mid new : List Task) → 0 < i → i ≤ length xs → x ≡ slice_index_or xs (i - 1) d → mid ≡ old ++ reverse (flat_map f (drop i xs)) → new ≡ mid ++ reverse (f x) → new ≡ old ++ reverse (flat_map f (drop (i - 1) xs))
pushed_more {X} f xs i d x old mid new pos le e m n =
    let y = slice_index_or xs (i - 1) d in
    let next : suc (i - 1) ≡ i = omega arith in
    let front : drop (i - 1) xs ≡ y ∷ drop i xs = drop-cons xs (i - 1) d (omega arith) ∙ ap (λ k. y ∷ drop k xs) next in
    n ∙ ap (λ ts. ts ++ reverse (f x)) m ∙ append_assoc old (reverse (flat_map f (drop i xs))) (reverse (f x))
    ∙ ap (λ (z : X). old ++ (reverse (flat_map f (drop i xs)) ++ reverse (f z))) e
    ∙ ap (λ ts. old ++ ts) (sym (reverse-append (f y) (flat_map f (drop i xs))))
    ∙ ap (λ zs. old ++ reverse (flat_map f zs)) (sym front)
