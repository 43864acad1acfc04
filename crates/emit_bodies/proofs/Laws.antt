-- Tasks are the items of bodies' trees.
use Rattle.std.proofs.Common.{◌≡◌, ℕ, zero, suc, ◌-◌, List, [], ◌∷◌, ◌++◌, Option, Some, None, length, take, slice_get, refl, sym, ap, ◌∙◌, arith}
use Rattle.rv_asm.specs.declared.item.Item.{Item}
use Rattle.rv_asm.specs.Item.{words}
use Rattle.placed_ir.specs.declared.home.Source.{Source}
use Rattle.placed_ir.specs.declared.body.Rule.{Rule}
use Rattle.placed_ir.specs.declared.body.Step.{Step}
use Rattle.placed_ir.specs.declared.body.Step.TheVariants as step
use Rattle.placed_ir.specs.declared.body.End.{End}
use Rattle.placed_ir.specs.declared.body.End.TheVariants as end
use Rattle.placed_ir.specs.declared.body.Body.{Body}
use Rattle.placed_ir.specs.Code.{Code, Halt}
use Rattle.placed_ir.specs.Program.{code_of_rules, code_of_end, code_of_step, code_of_steps, code_of_body, code_within, code_at}
use Rattle.place_bodies.proofs.Unfold.{AreNumbered, code_unfold}
use Rattle.emit_items.specs.declared.labels.Labels.{Labels}
use Rattle.emit_items.specs.Tests.{all_tested}
use Rattle.emit_items.specs.Body.{items}
use Rattle.emit_code.specs.Steps.{group_after, last_group, step_items, steps_items}
use Rattle.emit_code.proofs.Loops.{append_assoc, append_none}
use Rattle.emit_bodies.specs.declared.task.Task.{Task}
use Rattle.emit_bodies.specs.declared.task.Task.TheVariants.{Whole, Rules, Tests}
use Rattle.emit_bodies.specs.Layout.{rules_of, group_behind, end_items, rule_text, rules_text, first_text, found_tests, tests_text, rules_before, tests_before, text_of, laid, otherwise_task, whole_tasks, whole_text, rule_tasks, rules_tasks, steps_of, found_text}
use Rattle.emit_bodies.proofs.Testing.{words_both}

-- ---- Stacks

module _ (L : Labels) (bodies : List Body) where
  pub laid_both : (ts us : List Task) (text : List Item) → laid L bodies (ts ++ us) text ≡ laid L bodies ts (laid L bodies us text)
  laid_both [] us text = refl
  laid_both (t ∷ ts) us text = ap (text_of L bodies t) (laid_both ts us text)

-- ---- Trees

module _ (L : Labels) where
  step_unfold : (g : ℕ) (s : Step) (c : Code) → items L g (code_of_step s c) ≡ step_items L g s ++ items L (group_after g s) c
  step_unfold g (step.Make buildings) c = refl
  step_unfold g (step.Name h n) c = refl
  step_unfold g (step.Let h s) c = refl
  step_unfold g (step.Prim f sources) c = refl
  step_unfold g (step.Take h) c = refl
  step_unfold g (step.Handler h) c = refl
  step_unfold g (step.SetHandler s) c = refl

  pub steps_unfold : (g : ℕ) (steps : List Step) (c : Code) → items L g (code_of_steps steps c) ≡ steps_items L g steps ++ items L (last_group g steps) c
  steps_unfold g [] c = refl
  steps_unfold g (s ∷ steps) c =
      step_unfold g s (code_of_steps steps c)
      ∙ ap (λ xs. step_items L g s ++ xs) (steps_unfold (group_after g s) steps c)
      ∙ sym (append_assoc (step_items L g s) (steps_items L (group_after g s) steps) (items L (last_group (group_after g s) steps) c))

  still_none : (rules : List Rule) → group_behind rules 0 ≡ 0
  still_none [] = refl
  still_none (r ∷ rules) = refl

  pub rules_unfold : (part : ℕ → Code) (g : ℕ) (s : Source) (rules : List Rule) (o : ℕ) → items L g (code_of_rules part s rules o) ≡ rules_text L part s rules ++ items L (group_behind rules g) (part o)
  rules_unfold part g s [] o = refl
  rules_unfold part g s (r ∷ rules) o =
      let tests = all_tested L s r.tests (words (items L 0 (part r.body))) in
      let code = items L 0 (part r.body) in
      let last = items L 0 (part o) in
      ap (λ xs. tests ++ (code ++ xs)) (rules_unfold part 0 s rules o ∙ ap (λ n. rules_text L part s rules ++ items L n (part o)) (still_none rules))
      ∙ ap (λ xs. tests ++ xs) (sym (append_assoc code (rules_text L part s rules) last))
      ∙ sym (append_assoc tests (code ++ rules_text L part s rules) last)
      ∙ ap (λ xs. xs ++ last) (sym (append_assoc tests code (rules_text L part s rules)))

pub take_all : {X : Type 0} (xs : List X) → take (length xs) xs ≡ xs
take_all [] = refl
take_all (x ∷ xs) = ap (λ ys. x ∷ ys) (take_all xs)

-- ---- The first rules

pub take_found : {X : Type 0} (xs : List X) (k : ℕ) (x : X) → slice_get xs k ≡ Some x → take (suc k) xs ≡ take k xs ++ x ∷ []
take_found [] k x e = absurd (cc)
take_found (y ∷ xs) zero x e = cc
take_found (y ∷ xs) (suc k) x e = ap (λ ys. y ∷ ys) (take_found xs k x e)

pub take_lost : {X : Type 0} (xs : List X) (k : ℕ) → slice_get xs k ≡ None → take (suc k) xs ≡ take k xs
take_lost [] zero e = refl
take_lost [] (suc k) e = refl
take_lost (y ∷ xs) zero e = absurd (cc)
take_lost (y ∷ xs) (suc k) e = ap (λ ys. y ∷ ys) (take_lost xs k e)

module _ (L : Labels) (part : ℕ → Code) where
  rules_both : (s : Source) (rs qs : List Rule) → rules_text L part s (rs ++ qs) ≡ rules_text L part s rs ++ rules_text L part s qs
  rules_both s [] qs = refl
  rules_both s (r ∷ rs) qs = ap (λ xs. rule_text L part s r ++ xs) (rules_both s rs qs) ∙ sym (append_assoc (rule_text L part s r) (rules_text L part s rs) (rules_text L part s qs))

  pub one_rule_more : (s : Source) (rules : List Rule) (k : ℕ) (r : Rule) → slice_get rules k ≡ Some r → rules_text L part s (take (suc k) rules) ≡ rules_text L part s (take k rules) ++ rule_text L part s r
  one_rule_more s rules k r e =
      ap (rules_text L part s) (take_found rules k r e)
      ∙ rules_both s (take k rules) (r ∷ [])
      ∙ ap (λ xs. rules_text L part s (take k rules) ++ xs) (append_none (rule_text L part s r))

-- ---- Each task

module _ (L : Labels) (bodies : List Body) where
  -- what stands behind the steps of a body
  end_law : (e : End) (g : ℕ) (S T : List Item) → (S ++ items L g (code_of_end (code_at bodies) e)) ++ T ≡ (S ++ first_text L (code_at bodies) (length (rules_of e)) e) ++ laid L bodies (otherwise_task L bodies g e) (end_items L e ++ T)
  end_law (end.Equal a b truth k) g S T = append_assoc S _ T ∙ ap (λ xs. xs ++ (end_items L (end.Equal a b truth k) ++ T)) (sym (append_none S))
  end_law (end.Call target f sources) g S T = append_assoc S _ T ∙ ap (λ xs. xs ++ (end_items L (end.Call target f sources) ++ T)) (sym (append_none S))
  end_law (end.Match s rules o) g S T =
      let all = rules_text L (code_at bodies) s rules in
      let last = items L (group_behind rules g) (code_at bodies o) in
      ap (λ xs. (S ++ xs) ++ T) (rules_unfold L (code_at bodies) g s rules o)
      ∙ ap (λ xs. xs ++ T) (sym (append_assoc S all last))
      ∙ append_assoc (S ++ all) last T
      ∙ ap (λ rs. (S ++ rules_text L (code_at bodies) s rs) ++ (last ++ T)) (sym (take_all rules))
  end_law (end.Throw packet) g S T = append_assoc S _ T ∙ ap (λ xs. xs ++ (end_items L (end.Throw packet) ++ T)) (sym (append_none S))
  end_law end.Halt g S T = append_assoc S _ T ∙ ap (λ xs. xs ++ (end_items L end.Halt ++ T)) (sym (append_none S))

  none_there : (k i : ℕ) → slice_get bodies i ≡ None → code_within k bodies i ≡ Halt
  none_there zero i e = refl
  none_there (suc k) i e = ap (code_of_body (code_within k bodies)) e

  module _ (numbered : AreNumbered bodies) where
    pub whole_law : (i g : ℕ) (o : Option Body) (T : List Item) → slice_get bodies i ≡ o → text_of L bodies (Whole i g) T ≡ laid L bodies (whole_tasks L bodies i g o) (whole_text L bodies o ++ T)
    whole_law i g None T e = ap (λ c. items L g c ++ T) (none_there (length bodies) i e)
    whole_law i g (Some b) T e =
        let rest = laid L bodies (otherwise_task L bodies (last_group g b.steps) b.end) (end_items L b.end ++ T) in
        ap (λ c. items L g c ++ T) (code_unfold bodies numbered i b e)
        ∙ ap (λ xs. xs ++ T) (steps_unfold L g b.steps (code_of_end (code_at bodies) b.end))
        ∙ end_law b.end (last_group g b.steps) (steps_items L g b.steps) T
        ∙ ap (λ o. rules_before L bodies o (length (rules_of b.end)) g ++ rest) (sym e)

  none_first : (e : End) → first_text L (code_at bodies) 0 e ≡ []
  none_first (end.Equal a b truth k) = refl
  none_first (end.Call target f sources) = refl
  none_first (end.Match s rules o) = refl
  none_first (end.Throw packet) = refl
  none_first end.Halt = refl

  lost_first : (e : End) (k : ℕ) → slice_get (rules_of e) k ≡ None → first_text L (code_at bodies) (suc k) e ≡ first_text L (code_at bodies) k e
  lost_first (end.Equal a b truth n) k h = refl
  lost_first (end.Call target f sources) k h = refl
  lost_first (end.Match s rules o) k h = ap (rules_text L (code_at bodies) s) (take_lost rules k h)
  lost_first (end.Throw packet) k h = refl
  lost_first end.Halt k h = refl

  found_first : (e : End) (k : ℕ) (r : Rule) → slice_get (rules_of e) k ≡ Some r → first_text L (code_at bodies) (suc k) e ≡ first_text L (code_at bodies) k e ++ (tests_text L e k (words (items L 0 (code_at bodies r.body))) ++ items L 0 (code_at bodies r.body))
  found_first (end.Equal a b truth n) k r h = absurd (cc)
  found_first (end.Call target f sources) k r h = absurd (cc)
  found_first (end.Match s rules o) k r h =
      let code = items L 0 (code_at bodies r.body) in
      one_rule_more L (code_at bodies) s rules k r h ∙ ap (λ q. rules_text L (code_at bodies) s (take k rules) ++ (found_tests L s q (words code) ++ code)) (sym h)
  found_first (end.Throw packet) k r h = absurd (cc)
  found_first end.Halt k r h = absurd (cc)

  rule_law : (i k g : ℕ) (b : Body) (q : Option Rule) (T : List Item) → slice_get bodies i ≡ Some b → slice_get (rules_of b.end) k ≡ q → (steps_items L g b.steps ++ first_text L (code_at bodies) (suc k) b.end) ++ T ≡ laid L bodies (rule_tasks L bodies i k g (words T) q) T
  rule_law i k g b None T e h =
      ap (λ xs. (steps_items L g b.steps ++ xs) ++ T) (lost_first b.end k h) ∙ ap (λ o. rules_before L bodies o k g ++ T) (sym e)
  rule_law i k g b (Some r) T e h =
      let S = steps_items L g b.steps in
      let first = first_text L (code_at bodies) k b.end in
      let code = items L 0 (code_at bodies r.body) in
      let tests = tests_text L b.end k (words code) in
      let far : words (code ++ T) - words T ≡ words code = ap (λ n. n - words T) (words_both code T) ∙ omega arith in
      ap (λ xs. (S ++ xs) ++ T) (found_first b.end k r h ∙ sym (append_assoc first tests code))
      ∙ ap (λ xs. xs ++ T) (sym (append_assoc S (first ++ tests) code))
      ∙ append_assoc (S ++ (first ++ tests)) code T
      ∙ ap (λ n. (S ++ (first ++ tests_text L b.end k n)) ++ (code ++ T)) (sym far)
      ∙ ap (λ o. tests_before L bodies o k g (words (code ++ T) - words T) ++ (code ++ T)) (sym e)

  pub rules_law : (i left g : ℕ) (o : Option Body) (T : List Item) → slice_get bodies i ≡ o → text_of L bodies (Rules i left g) T ≡ laid L bodies (rules_tasks L bodies i left g (words T) o) (steps_of L bodies left g o ++ T)
  rules_law i left g None T e = ap (λ o. rules_before L bodies o left g ++ T) e
  rules_law i zero g (Some b) T e = ap (λ o. rules_before L bodies o 0 g ++ T) e ∙ ap (λ xs. (steps_items L g b.steps ++ xs) ++ T) (none_first b.end) ∙ ap (λ xs. xs ++ T) (append_none (steps_items L g b.steps))
  rules_law i (suc k) g (Some b) T e = ap (λ o. rules_before L bodies o (suc k) g ++ T) e ∙ rule_law i k g b (slice_get (rules_of b.end) k) T e refl

  pub tests_law : (i k behind g : ℕ) (o : Option Body) (T : List Item) → slice_get bodies i ≡ o → text_of L bodies (Tests i k behind g) T ≡ laid L bodies (Rules i k g ∷ []) (found_text L bodies o k (words T - behind) ++ T)
  tests_law i k behind g None T e = ap (λ o. tests_before L bodies o k g (words T - behind) ++ T) e ∙ ap (λ o. rules_before L bodies o k g ++ T) (sym e)
  tests_law i k behind g (Some b) T e =
      let S = steps_items L g b.steps in
      let first = first_text L (code_at bodies) k b.end in
      let tests = tests_text L b.end k (words T - behind) in
      ap (λ o. tests_before L bodies o k g (words T - behind) ++ T) e
      ∙ ap (λ xs. xs ++ T) (sym (append_assoc S first tests))
      ∙ append_assoc (S ++ first) tests T
      ∙ ap (λ o. rules_before L bodies o k g ++ (tests ++ T)) (sym e)
