-- The walk over a pattern: what it has is its own and that of its parts, and a part is one turn less.
use Rattle.std.proofs.Common.{◌≡◌, ℕ, suc, ◌+◌, ◌<◌, List, [], ◌∷◌, ◌++◌, Option, Some, None, true, false, map, reverse, refl, sym, ap, ◌∙◌, arith, append-nil}
use Rattle.std.proofs.lemmas.List.{append_assoc, reverse-append, reverse-reverse}
use Rattle.std.proofs.lemmas.Grind.{flat_map-append}
use Rattle.std.specs.Prelude.{slice_get, flat_map}
use Rattle.std.specs.List.{AllByRecursion}
use Rattle.sml_tree.specs.declared.bare.Node.{Node}
use Rattle.sml_tree.specs.declared.bare.Node.TheVariants as node
use Rattle.sml_tree.specs.declared.bare.Field.{Field}
use Rattle.sml_tree.specs.BareParts.{node_parts, IsNumbered, at_node}
use Rattle.sml_tree.proofs.Unfold.{by_parts}
use Rattle.smlc_base.specs.declared.match_tests.Test.{Test}
use Rattle.smlc_base.specs.declared.match_tests.Named.{Named}
use Rattle.match_compile.specs.declared.compile.Task.{Task}
use Rattle.sml_types.specs.declared.tables.TypeName.{TypeName}
use Rattle.match_laws.specs.Compile.{slot_of, con_tests, named, over_fields, tests_of, names_of, tests, names}
use Rattle.match_compile.specs.Walk.{own_tests, own_names, field_tasks, tasks_in, tests_at, names_at, tasks_at, total, turns}

abbrev pub SameAt : {A : Type 0} → (List ℕ → A) → (List ℕ → A) → Type 0
SameAt x y = (path : List ℕ) → x path ≡ y path

-- what all tasks have
abbrev pub over : {X : Type 0} → (ℕ → List ℕ → List X) → List Task → List X
over f tasks = flat_map (λ q. f q.node q.path) tasks

fields_over : {X : Type 0} (f : ℕ → List ℕ → List X) (fields : List Field) (path : List ℕ) → over_fields f path fields ≡ over f (field_tasks fields path)
fields_over f [] path = refl
fields_over f (x ∷ fields) path = ap (λ xs. f x.node (path ++ x.slot ∷ []) ++ xs) (fields_over f fields path)

-- at each part the same, so the same over all tasks
tasks_same : {X : Type 0} (f g : ℕ → List ℕ → List X) (n : Node) (path : List ℕ) → AllByRecursion (λ c. SameAt (f c) (g c)) (node_parts n) → over f (tasks_in n path) ≡ over g (tasks_in n path)
tasks_same f g (node.PatApp c q) path h = ap (λ xs. xs ++ []) (h.0 (path ++ slot_of c ∷ []))
tasks_same {X} f g (node.PatRecord fields) path h = go fields h
  where
    go : (fields : List Field) → AllByRecursion (λ c. SameAt (f c) (g c)) (map (λ x. x.node) fields) → over f (field_tasks fields path) ≡ over g (field_tasks fields path)
    go [] h = refl
    go (x ∷ fields) h =
        ap (λ xs. xs ++ over f (field_tasks fields path)) (h.0 (path ++ x.slot ∷ [])) ∙ ap (λ xs. g x.node (path ++ x.slot ∷ []) ++ xs) (go fields h.1)
tasks_same f g (node.PatTyped q ty) path h = ap (λ xs. xs ++ []) (h.0 path)
tasks_same f g (node.PatAs x q) path h = ap (λ xs. xs ++ []) (h.0 path)
tasks_same f g (node.PatAsCon x q) path h = ap (λ xs. xs ++ []) (h.0 path)
tasks_same f g _ path h = refl

total_same : (f g : ℕ → List ℕ → ℕ) (n : Node) (path : List ℕ) → AllByRecursion (λ c. SameAt (f c) (g c)) (node_parts n) → total f (tasks_in n path) ≡ total g (tasks_in n path)
total_same f g (node.PatApp c q) path h = ap (λ k. k + 0) (h.0 (path ++ slot_of c ∷ []))
total_same f g (node.PatRecord fields) path h = go fields h
  where
    go : (fields : List Field) → AllByRecursion (λ c. SameAt (f c) (g c)) (map (λ x. x.node) fields) → total f (field_tasks fields path) ≡ total g (field_tasks fields path)
    go [] h = refl
    go (x ∷ fields) h = ap (λ k. k + total f (field_tasks fields path)) (h.0 (path ++ x.slot ∷ [])) ∙ ap (λ k. g x.node (path ++ x.slot ∷ []) + k) (go fields h.1)
total_same f g (node.PatTyped q ty) path h = ap (λ k. k + 0) (h.0 path)
total_same f g (node.PatAs x q) path h = ap (λ k. k + 0) (h.0 path)
total_same f g (node.PatAsCon x q) path h = ap (λ k. k + 0) (h.0 path)
total_same f g _ path h = refl

total_append : (f : ℕ → List ℕ → ℕ) (ps qs : List Task) → total f (ps ++ qs) ≡ total f ps + total f qs
total_append f [] qs = omega arith
total_append f (p ∷ ps) qs = omega (arith, total_append f ps qs)

-- ---- Own and parts

tests_parts : (ts : List TypeName) (f : ℕ → List ℕ → List Test) (n : Node) (path : List ℕ) → tests_of ts f n path ≡ own_tests ts n path ++ over f (tasks_in n path)
tests_parts ts f (node.PatInt z) path = refl
tests_parts ts f (node.PatChar c) path = refl
tests_parts ts f (node.PatText t) path = refl
tests_parts ts f (node.PatCon c) path = sym (append-nil (con_tests ts false c path))
tests_parts ts f (node.PatApp c q) path = ap (λ xs. con_tests ts true c path ++ xs) (sym (append-nil (f q (path ++ slot_of c ∷ []))))
tests_parts ts f (node.PatRecord fields) path = fields_over f fields path
tests_parts ts f (node.PatTyped q ty) path = sym (append-nil (f q path))
tests_parts ts f (node.PatAs x q) path = sym (append-nil (f q path))
tests_parts ts f (node.PatAsCon x q) path = sym (append-nil (f q path))
tests_parts ts f _ path = refl

names_parts : (f : ℕ → List ℕ → List Named) (n : Node) (path : List ℕ) → names_of f n path ≡ own_names n path ++ over f (tasks_in n path)
names_parts f (node.PatVar x) path = refl
names_parts f (node.PatApp c q) path = sym (append-nil (f q (path ++ slot_of c ∷ [])))
names_parts f (node.PatRecord fields) path = fields_over f fields path
names_parts f (node.PatTyped q ty) path = sym (append-nil (f q path))
names_parts f (node.PatAs x q) path = ap (λ xs. named x path ∷ xs) (sym (append-nil (f q path)))
names_parts f (node.PatAsCon x q) path = ap (λ xs. named x path ∷ xs) (sym (append-nil (f q path)))
names_parts f _ path = refl

module _ (ts : List TypeName) (nodes : List Node) (numbered : IsNumbered nodes) where
  pub tests_unfold : (i : ℕ) (path : List ℕ) → tests ts nodes i path ≡ tests_at ts (slice_get nodes i) path ++ over (tests ts nodes) (tasks_at (slice_get nodes i) path)
  tests_unfold i path =
      by_parts (λ path. []) (λ part i. tests_of ts part) SameAt (λ path. refl) (λ f g i n h path. tests_parts ts f n path ∙ ap (λ xs. own_tests ts n path ++ xs) (tasks_same f g n path h) ∙ sym (tests_parts ts g n path)) nodes numbered i path
      ∙ go (slice_get nodes i)
    where
      go : (o : Option Node) → at_node (λ path. []) (λ part i. tests_of ts part) (tests ts nodes) i o path ≡ tests_at ts o path ++ over (tests ts nodes) (tasks_at o path)
      go None = refl
      go (Some n) = tests_parts ts (tests ts nodes) n path

  pub names_unfold : (i : ℕ) (path : List ℕ) → names nodes i path ≡ names_at (slice_get nodes i) path ++ over (names nodes) (tasks_at (slice_get nodes i) path)
  names_unfold i path =
      by_parts (λ path. []) (λ part i. names_of part) SameAt (λ path. refl) (λ f g i n h path. names_parts f n path ∙ ap (λ xs. own_names n path ++ xs) (tasks_same f g n path h) ∙ sym (names_parts g n path)) nodes numbered i path
      ∙ go (slice_get nodes i)
    where
      go : (o : Option Node) → at_node (λ path. []) (λ part i. names_of part) (names nodes) i o path ≡ names_at o path ++ over (names nodes) (tasks_at o path)
      go None = refl
      go (Some n) = names_parts (names nodes) n path

  pub turns_unfold : (i : ℕ) (path : List ℕ) → turns nodes i path ≡ suc (total (turns nodes) (tasks_at (slice_get nodes i) path))
  turns_unfold i path =
      by_parts (λ path. 1) (λ part i n path. suc (total part (tasks_in n path))) SameAt (λ path. refl) (λ f g i n h path. ap suc (total_same f g n path h)) nodes numbered i path
      ∙ go (slice_get nodes i)
    where
      go : (o : Option Node) → at_node (λ path. 1) (λ part i n path. suc (total part (tasks_in n path))) (turns nodes) i o path ≡ suc (total (turns nodes) (tasks_at o path))
      go None = refl
      go (Some n) = refl

  -- ---- A turn: the last task is taken off, and its parts are put on

  stacked : (work tasks : List Task) → reverse (work ++ reverse tasks) ≡ tasks ++ reverse work
  stacked work tasks = reverse-append work (reverse tasks) ∙ ap (λ ps. ps ++ reverse work) (reverse-reverse tasks)

  one_turn : {X : Type 0} (f : ℕ → List ℕ → List X) (own : List X) (work tasks : List Task) (q : Task) → f q.node q.path ≡ own ++ over f tasks → (out all : List X) → out ++ over f (reverse (work ++ q ∷ [])) ≡ all → (out ++ own) ++ over f (reverse (work ++ reverse tasks)) ≡ all
  one_turn f own work tasks q u out all e =
      ap (λ ps. (out ++ own) ++ over f ps) (stacked work tasks)
      ∙ ap (λ xs. (out ++ own) ++ xs) (flat_map-append (λ q. f q.node q.path) tasks (reverse work))
      ∙ append_assoc out own (over f tasks ++ over f (reverse work))
      ∙ ap (λ xs. out ++ xs) (sym (append_assoc own (over f tasks) (over f (reverse work))))
      ∙ ap (λ xs. out ++ (xs ++ over f (reverse work))) (sym u)
      ∙ ap (λ ps. out ++ over f ps) (sym (reverse-append work (q ∷ [])))
      ∙ e

  pub tests_turn : (work now : List Task) (q : Task) (out found all : List Test) → now ≡ work ++ reverse (tasks_at (slice_get nodes q.node) q.path) → found ≡ out ++ tests_at ts (slice_get nodes q.node) q.path → out ++ over (tests ts nodes) (reverse (work ++ q ∷ [])) ≡ all → found ++ over (tests ts nodes) (reverse now) ≡ all
  tests_turn work now q out found all n f e =
      ap (λ xs. xs ++ over (tests ts nodes) (reverse now)) f ∙ ap (λ ps. (out ++ tests_at ts (slice_get nodes q.node) q.path) ++ over (tests ts nodes) (reverse ps)) n
      ∙ one_turn (tests ts nodes) (tests_at ts (slice_get nodes q.node) q.path) work (tasks_at (slice_get nodes q.node) q.path) q (tests_unfold q.node q.path) out all e

  pub names_turn : (work now : List Task) (q : Task) (out found all : List Named) → now ≡ work ++ reverse (tasks_at (slice_get nodes q.node) q.path) → found ≡ out ++ names_at (slice_get nodes q.node) q.path → out ++ over (names nodes) (reverse (work ++ q ∷ [])) ≡ all → found ++ over (names nodes) (reverse now) ≡ all
  names_turn work now q out found all n f e =
      ap (λ xs. xs ++ over (names nodes) (reverse now)) f ∙ ap (λ ps. (out ++ names_at (slice_get nodes q.node) q.path) ++ over (names nodes) (reverse ps)) n
      ∙ one_turn (names nodes) (names_at (slice_get nodes q.node) q.path) work (tasks_at (slice_get nodes q.node) q.path) q (names_unfold q.node q.path) out all e

  pub fewer_turns : (work now : List Task) (q : Task) → now ≡ work ++ reverse (tasks_at (slice_get nodes q.node) q.path) → total (turns nodes) (reverse now) < total (turns nodes) (reverse (work ++ q ∷ []))
  fewer_turns work now q n =
      let tasks = tasks_at (slice_get nodes q.node) q.path in
      let a : total (turns nodes) (reverse now) ≡ total (turns nodes) tasks + total (turns nodes) (reverse work) = ap (λ ps. total (turns nodes) (reverse ps)) n ∙ ap (total (turns nodes)) (stacked work tasks) ∙ total_append (turns nodes) tasks (reverse work) in
      let b : total (turns nodes) (reverse (work ++ q ∷ [])) ≡ turns nodes q.node q.path + total (turns nodes) (reverse work) = ap (total (turns nodes)) (reverse-append work (q ∷ [])) in
      omega (arith, a, b, turns_unfold q.node q.path)
