-- Rules that are begun one after another.
use Rattle.std.proofs.Common.{◌≡◌, ℕ, suc, ◌+◌, ◌<◌, ◌≤◌, Bool, List, [], ◌∷◌, ◌++◌, Some, length, map, drop, get_or, drop-cons, refl, sym, ap, ◌∙◌, subst, arith, append_assoc}
use Rattle.std.proofs.lemmas.List.{map-append}
use Rattle.std.specs.Prelude.{slice_get}
use Rattle.std.proofs.Math.Path.{fun_ext}
use Rattle.std.proofs.lemmas.Option.{slice_get-get_or}
use Rattle.smlc_base.specs.declared.match_tests.Test.{Test as LambdaTest}
use Rattle.lambda_ir.specs.declared.term.Case.{Case}
use Rattle.lambda_ir.specs.declared.term.Term.{Term}
use Rattle.cps_ir.specs.declared.atom.Atom.{Atom}
use Rattle.cps_ir.specs.declared.atom.Test.{Test}
use Rattle.cps_ir.specs.declared.body.Rule.{Rule as Chosen}
use Rattle.cps_ir.specs.Code.{Code, Rules, Otherwise, Rule}
use Rattle.cps_ir.specs.Program.{rules_of as rules_by}
use Rattle.convert_laws.specs.Convert.{Scope, Kon, bind_names, tests_of, rule_of, steps_of, size_at}
use Rattle.convert_scopes.specs.Scopes.{Scopes, IsScope, atom_in}
use Rattle.convert_pieces.proofs.Emits.{nil_right}
use Rattle.convert_pieces.proofs.Ways.{none_past}
use Rattle.convert_steps.specs.declared.rules.Choices.{Choices}
use Rattle.convert_steps.specs.declared.task.Continuation.{Continuation}
use Rattle.convert_steps.specs.declared.task.Task.{Task}
use Rattle.convert_steps.specs.declared.task.Work.{Work}
use Rattle.convert_steps.specs.declared.task.Work.TheVariants as work
use Rattle.convert_steps.specs.declared.world.World.{World}
use Rattle.convert_steps.specs.Codes.{conv, cases_at, rule_code, work_code}
use Rattle.convert_steps.specs.Writes.{AreFrom, Grows, Stands, AreCodes}
use Rattle.convert_steps.specs.Rows.{on_top, Begun, AreChoices, cases_code}
use Rattle.convert_steps.proofs.Grow.{grows_none, grows_then, grows_begun, stands_on, begun_at, begun_more}
use Rattle.convert_steps.proofs.Write.{one_from, same_from, codes_before}

on_top_last : (body : ℕ → Code) (rules : List Chosen) (r : Chosen) (others : Rules) → on_top body (rules ++ r ∷ []) others ≡ on_top body rules (Rule r.tests (body r.body) others)
on_top_last body [] r others = refl
on_top_last body (q ∷ rules) r others = ap (Rule q.tests (body q.body)) (on_top_last body rules r others)

on_top_all : (body : ℕ → Code) (rules : List Chosen) (b : ℕ) → on_top body rules (Otherwise (body b)) ≡ rules_by body rules b
on_top_all body [] b = refl
on_top_all body (q ∷ rules) b = ap (Rule q.tests (body q.body)) (on_top_all body rules b)

pub with_tests : (σ : Scope) (tests : List LambdaTest) (c : Code) (rules : Rules) → (tests ≡ [] → ⊥) → rule_of (tests_of σ tests) c rules ≡ Rule (tests_of σ tests) c rules
with_tests σ [] c rules n = absurd (n refl)
with_tests σ (t ∷ tests) c rules n = refl

module _ (own : ℕ → Bool) (terms : List Term) where
  pub begun_none : (w : World) (scope : ℕ) (k : Continuation) (rules : List Chosen) (f : Scope → Kon → Rules) → rules ≡ [] → Begun own terms w w scope k rules f f
  begun_none w scope k rules f e = subst (λ rs. Begun own terms w w scope k rs f f) (sym e) (record {
    grows = grows_none own terms w;
    scopes = refl;
    bodies = λ from ns a. same_from from (length w.tasks) ns (ns ++ []) (sym (nil_right ns)) a;
    code = λ body codes σ κ s. refl;
  })

  -- in the scope and with the rules of these names
  pub as_choices : (w v : World) (scope present : ℕ) (k : Continuation) (cases all : List Case) (a thrown : Atom) (n : ℕ) (c : Choices) → scope ≡ present → cases ≡ all → AreChoices own terms w v scope k (cases_code own terms cases a thrown n) c → AreChoices own terms w v present k (cases_code own terms all a thrown n) c
  as_choices w v scope present k cases all a thrown n c es ec h =
      subst (λ p. AreChoices own terms w v p k (cases_code own terms all a thrown n) c) es (subst (λ cs. AreChoices own terms w v scope k (cases_code own terms cs a thrown n) c) ec h)

  -- the code of the body that was begun
  body_is : (w v u : World) (scope : ℕ) (k : Continuation) (cases : List Case) (i at t b later : ℕ) (a : Atom) (c : Case) → i < length cases → c ≡ get_or cases i c → cases ≡ cases_at terms t → at ≡ i → b ≡ length v.tasks → u ≡ record v { tasks = v.tasks ++ record { work = work.Rule t at a; scope = scope; continuation = k; next = later } ∷ [] } → Grows own terms w v → (body : ℕ → Code) → AreCodes own terms u (length w.tasks) body → (σ : Scope) (κ : Kon) → Stands own terms w scope k σ κ → bind_names c.names a σ (λ τ m. conv own terms c.body τ κ m) later ≡ body b
  body_is w v u scope k cases i at t b later a c h here ec ei eb eu grows body codes σ κ s =
      let task : Task = record { work = work.Rule t at a; scope = scope; continuation = k; next = later } in
      let all = grows_then own terms w v u grows (grows_begun own terms v u task eu) in
      let is_rule : slice_get (cases_at terms t) at ≡ Some c = ap (λ cs. slice_get cs at) (sym ec) ∙ ap (slice_get cases) ei ∙ slice_get-get_or cases i c h ∙ ap Some (sym here) in
      sym (ap body eb ∙ codes (length v.tasks) task grows.more (begun_at own terms v u task eu) σ κ (stands_on own terms w u scope k σ κ all s) ∙ ap (λ o. rule_code own terms o a σ κ later) is_rule)

  -- the rules that are left begin with this one
  left : (cases : List Case) (i later : ℕ) (a thrown : Atom) (c : Case) (σ : Scope) (κ : Kon) → i < length cases → c ≡ get_or cases i c → cases_code own terms (drop i cases) a thrown later σ κ ≡ rule_of (tests_of σ c.tests) (bind_names c.names a σ (λ τ m. conv own terms c.body τ κ m) later) (cases_code own terms (drop (suc i) cases) a thrown (later + (steps_of c.names + size_at terms c.body)) σ κ)
  left cases i later a thrown c σ κ h here =
      ap (λ cs. cases_code own terms cs a thrown later σ κ) (drop-cons cases i c h ∙ ap (λ d. d ∷ drop (suc i) cases) (sym here))

  pub begun_more_rules : (w v u : World) (scope : ℕ) (k : Continuation) (rules more : List Chosen) (f : Scope → Kon → Rules) (cases : List Case) (i j at t b later next : ℕ) (a thrown : Atom) (c : Case) (tests : List Test) → Begun own terms w v scope k rules f (cases_code own terms (drop i cases) a thrown later) → i < length cases → c ≡ get_or cases i c → cases ≡ cases_at terms t → at ≡ i → b ≡ length v.tasks → u ≡ record v { tasks = v.tasks ++ record { work = work.Rule t at a; scope = scope; continuation = k; next = later } ∷ [] } → (c.tests ≡ [] → ⊥) → ((σ : Scope) → IsScope w.scopes.bounds scope σ → (x : ℕ) → atom_in w.scopes.table x ≡ σ x) → tests ≡ tests_of (atom_in u.scopes.table) c.tests → more ≡ rules ++ record { tests = tests; body = b } ∷ [] → next ≡ later + (steps_of c.names + size_at terms c.body) → j ≡ i + 1 → Begun own terms w u scope k more f (cases_code own terms (drop j cases) a thrown next)
  begun_more_rules w v u scope k rules more f cases i j at t b later next a thrown c tests begun h here ec ei eb eu some table et em en ej =
      let task : Task = record { work = work.Rule t at a; scope = scope; continuation = k; next = later } in
      let on = grows_begun own terms v u task eu in
      let same : u.scopes ≡ w.scopes = ap (λ (z : World). z.scopes) eu ∙ begun.scopes in
      let up : suc i ≡ j = omega (arith, ej) in
      record {
        grows = grows_then own terms w v u begun.grows on;
        scopes = same;
        bodies =
            λ from ns q.
            same_from from (length u.tasks) ((ns ++ map (λ r. r.body) rules) ++ b ∷ []) (ns ++ map (λ r. r.body) more)
            (append_assoc ns (map (λ r. r.body) rules) (b ∷ []) ∙ ap (λ xs. ns ++ xs) (sym (map-append (λ (r : Chosen). r.body) rules (record { tests = tests; body = b } ∷ [])) ∙ ap (map (λ (r : Chosen). r.body)) (sym em)))
            (subst (λ m. AreFrom from m ((ns ++ map (λ r. r.body) rules) ++ b ∷ [])) (sym (begun_more own terms v u task eu)) (subst (λ m. AreFrom from (suc (length v.tasks)) ((ns ++ map (λ r. r.body) rules) ++ m ∷ [])) (sym eb) (one_from from (length v.tasks) (ns ++ map (λ r. r.body) rules) (begun.bodies from ns q))));
        code =
            λ body codes σ κ s.
            let is : atom_in w.scopes.table ≡ σ = fun_ext (table σ s.in_scope) in
            let asked : tests_of σ c.tests ≡ tests = ap (λ τ. tests_of τ c.tests) (sym is) ∙ ap (λ (z : Scopes). tests_of (atom_in z.table) c.tests) (sym same) ∙ sym et in
            let rest : Rules = cases_code own terms (drop j cases) a thrown next σ κ in
            begun.code body (codes_before own terms v u (length w.tasks) body on codes) σ κ s
            ∙ ap (on_top body rules)
            (left cases i later a thrown c σ κ h here
            ∙ with_tests σ c.tests (bind_names c.names a σ (λ τ m. conv own terms c.body τ κ m) later) (cases_code own terms (drop (suc i) cases) a thrown (later + (steps_of c.names + size_at terms c.body)) σ κ) some
            ∙ ap (λ n. Rule (tests_of σ c.tests) (bind_names c.names a σ (λ τ m. conv own terms c.body τ κ m) later) (cases_code own terms (drop n cases) a thrown (later + (steps_of c.names + size_at terms c.body)) σ κ)) up
            ∙ ap (λ n. Rule (tests_of σ c.tests) (bind_names c.names a σ (λ τ m. conv own terms c.body τ κ m) later) (cases_code own terms (drop j cases) a thrown n σ κ)) (sym en)
            ∙ ap (λ d. Rule (tests_of σ c.tests) d rest) (body_is w v u scope k cases i at t b later a c h here ec ei eb eu begun.grows body codes σ κ s)
            ∙ ap (λ ts. Rule ts (body b) rest) asked)
            ∙ sym (on_top_last body rules (record { tests = tests; body = b }) rest)
            ∙ ap (λ rs. on_top body rs rest) (sym em);
      }

  -- one body more, which is the last
  pub ended : (w v u : World) (scope : ℕ) (k : Continuation) (rules : List Chosen) (f g : Scope → Kon → Rules) (b : ℕ) (task : Task) → Begun own terms w v scope k rules f g → b ≡ length v.tasks → u ≡ record v { tasks = v.tasks ++ task ∷ [] } → ((body : ℕ → Code) → AreCodes own terms u (length w.tasks) body → (σ : Scope) (κ : Kon) → Stands own terms w scope k σ κ → g σ κ ≡ Otherwise (body b)) → AreChoices own terms w u scope k f (record { rules = rules; otherwise = b })
  ended w v u scope k rules f g b task begun eb eu last =
      let on = grows_begun own terms v u task eu in
      record {
        grows = grows_then own terms w v u begun.grows on;
        bodies =
            λ from ns q.
            same_from from (length u.tasks) ((ns ++ map (λ r. r.body) rules) ++ b ∷ []) (ns ++ (map (λ r. r.body) rules ++ b ∷ [])) (append_assoc ns (map (λ r. r.body) rules) (b ∷ []))
            (subst (λ m. AreFrom from m ((ns ++ map (λ r. r.body) rules) ++ b ∷ [])) (sym (begun_more own terms v u task eu)) (subst (λ m. AreFrom from (suc (length v.tasks)) ((ns ++ map (λ r. r.body) rules) ++ m ∷ [])) (sym eb) (one_from from (length v.tasks) (ns ++ map (λ r. r.body) rules) (begun.bodies from ns q))));
        code =
            λ body codes σ κ s.
            begun.code body (codes_before own terms v u (length w.tasks) body on codes) σ κ s ∙ ap (on_top body rules) (last body codes σ κ s) ∙ on_top_all body rules b;
      }

  pub ended_without_tests : (w v u : World) (scope : ℕ) (k : Continuation) (rules : List Chosen) (f : Scope → Kon → Rules) (cases : List Case) (i at t b later : ℕ) (a thrown : Atom) (c : Case) → Begun own terms w v scope k rules f (cases_code own terms (drop i cases) a thrown later) → i < length cases → c ≡ get_or cases i c → cases ≡ cases_at terms t → at ≡ i → b ≡ length v.tasks → u ≡ record v { tasks = v.tasks ++ record { work = work.Rule t at a; scope = scope; continuation = k; next = later } ∷ [] } → c.tests ≡ [] → AreChoices own terms w u scope k f (record { rules = rules; otherwise = b })
  ended_without_tests w v u scope k rules f cases i at t b later a thrown c begun h here ec ei eb eu none =
      ended w v u scope k rules f (cases_code own terms (drop i cases) a thrown later) b (record { work = work.Rule t at a; scope = scope; continuation = k; next = later }) begun eb eu
      (λ body codes σ κ s.
      left cases i later a thrown c σ κ h here
      ∙ ap (λ ts. rule_of (tests_of σ ts) (bind_names c.names a σ (λ τ m. conv own terms c.body τ κ m) later) (cases_code own terms (drop (suc i) cases) a thrown (later + (steps_of c.names + size_at terms c.body)) σ κ)) none
      ∙ ap Otherwise (body_is w v u scope k cases i at t b later a c h here ec ei eb eu begun.grows body codes σ κ s))

  pub ended_thrown : (w v u : World) (scope : ℕ) (k : Continuation) (rules : List Chosen) (f : Scope → Kon → Rules) (cases : List Case) (i b later : ℕ) (a thrown : Atom) → Begun own terms w v scope k rules f (cases_code own terms (drop i cases) a thrown later) → length cases ≤ i → b ≡ length v.tasks → u ≡ record v { tasks = v.tasks ++ record { work = work.Throw thrown; scope = scope; continuation = k; next = later } ∷ [] } → AreChoices own terms w u scope k f (record { rules = rules; otherwise = b })
  ended_thrown w v u scope k rules f cases i b later a thrown begun h eb eu =
      let task : Task = record { work = work.Throw thrown; scope = scope; continuation = k; next = later } in
      ended w v u scope k rules f (cases_code own terms (drop i cases) a thrown later) b task begun eb eu
      (λ body codes σ κ s.
      ap (λ cs. cases_code own terms cs a thrown later σ κ) (none_past cases i h)
      ∙ ap Otherwise (sym (ap body eb ∙ codes (length v.tasks) task begun.grows.more (begun_at own terms v u task eu) σ κ (stands_on own terms w u scope k σ κ (grows_then own terms w v u begun.grows (grows_begun own terms v u task eu)) s))))

  -- one rule more
  pub one_more : (w v u : World) (scope : ℕ) (k : Continuation) (rules more : List Chosen) (f g h : Scope → Kon → Rules) (b : ℕ) (task : Task) (tests : List Test) → Begun own terms w v scope k rules f g → b ≡ length v.tasks → u ≡ record v { tasks = v.tasks ++ task ∷ [] } → more ≡ rules ++ record { tests = tests; body = b } ∷ [] → ((body : ℕ → Code) → AreCodes own terms u (length w.tasks) body → (σ : Scope) (κ : Kon) → Stands own terms w scope k σ κ → g σ κ ≡ Rule tests (body b) (h σ κ)) → Begun own terms w u scope k more f h
  one_more w v u scope k rules more f g h b task tests begun eb eu em one =
      let on = grows_begun own terms v u task eu in
      record {
        grows = grows_then own terms w v u begun.grows on;
        scopes = ap (λ (z : World). z.scopes) eu ∙ begun.scopes;
        bodies =
            λ from ns q.
            same_from from (length u.tasks) ((ns ++ map (λ r. r.body) rules) ++ b ∷ []) (ns ++ map (λ r. r.body) more)
            (append_assoc ns (map (λ r. r.body) rules) (b ∷ []) ∙ ap (λ xs. ns ++ xs) (sym (map-append (λ (r : Chosen). r.body) rules (record { tests = tests; body = b } ∷ [])) ∙ ap (map (λ (r : Chosen). r.body)) (sym em)))
            (subst (λ m. AreFrom from m ((ns ++ map (λ r. r.body) rules) ++ b ∷ [])) (sym (begun_more own terms v u task eu)) (subst (λ m. AreFrom from (suc (length v.tasks)) ((ns ++ map (λ r. r.body) rules) ++ m ∷ [])) (sym eb) (one_from from (length v.tasks) (ns ++ map (λ r. r.body) rules) (begun.bodies from ns q))));
        code =
            λ body codes σ κ s.
            begun.code body (codes_before own terms v u (length w.tasks) body on codes) σ κ s
            ∙ ap (on_top body rules) (one body codes σ κ s)
            ∙ sym (on_top_last body rules (record { tests = tests; body = b }) (h σ κ))
            ∙ ap (λ rs. on_top body rs (h σ κ)) (sym em);
      }

  -- the code of a task that was begun in the world itself
  pub task_code : (w v u : World) (scope : ℕ) (k : Continuation) (b n : ℕ) (wk : Work) → Grows own terms w v → b ≡ length v.tasks → u ≡ record v { tasks = v.tasks ++ record { work = wk; scope = scope; continuation = k; next = n } ∷ [] } → (body : ℕ → Code) → AreCodes own terms u (length w.tasks) body → (σ : Scope) (κ : Kon) → Stands own terms w scope k σ κ → body b ≡ work_code own terms wk σ κ n
  task_code w v u scope k b n wk grows eb eu body codes σ κ s =
      let task : Task = record { work = wk; scope = scope; continuation = k; next = n } in
      ap body eb ∙ codes (length v.tasks) task grows.more (begun_at own terms v u task eu) σ κ (stands_on own terms w u scope k σ κ (grows_then own terms w v u grows (grows_begun own terms v u task eu)) s)
