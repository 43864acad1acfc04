-- What is left to do becomes less.
use Rattle.std.proofs.Common.{◌≡◌, ℕ, zero, suc, ◌+◌, ◌<◌, ◌≤◌, List, [], ◌∷◌, ◌++◌, Option, Some, None, length, map, take, slice_get, refl, sym, ap, ◌∙◌, arith}
use Rattle.std.specs.List.{AllByRecursion}
use Rattle.placed_ir.specs.declared.body.Rule.{Rule}
use Rattle.placed_ir.specs.declared.body.End.{End}
use Rattle.placed_ir.specs.declared.body.End.TheVariants as end
use Rattle.placed_ir.specs.declared.body.Body.{Body}
use Rattle.placed_ir.specs.Kept.{end_parts, body_parts}
use Rattle.closed_live.proofs.Unfold.{all_with}
use Rattle.place_bodies.proofs.Unfold.{AreNumbered, none_past, some_within}
use Rattle.emit_items.specs.declared.labels.Labels.{Labels}
use Rattle.emit_code.specs.Steps.{last_group}
use Rattle.emit_bodies.specs.declared.task.Task.{Task}
use Rattle.emit_bodies.specs.declared.task.Task.TheVariants.{Whole, Rules, Tests}
use Rattle.emit_bodies.specs.Layout.{rules_of, otherwise_task, whole_tasks, rule_tasks, rules_tasks}
use Rattle.emit_bodies.specs.Weights.{rules_weight, end_weight, body_weight, weight_within, weight, first_weight, task_weight, tasks_weight}
use Rattle.emit_bodies.proofs.Laws.{take_all, take_found, take_lost}

module _ (f g : ℕ → ℕ) where
  abbrev Agree : ℕ → Type 0
  Agree c = f c ≡ g c

  rules_same : (rules : List Rule) (o : ℕ) → AllByRecursion Agree (map (λ r. r.body) rules ++ o ∷ []) → (rules_weight f rules ≡ rules_weight g rules) × (f o ≡ g o)
  rules_same [] o h = (refl, h.0)
  rules_same (r ∷ rules) o h =
      let rest = rules_same rules o h.1 in
      (omega (arith, h.0, rest.0), rest.1)

  end_same : (e : End) → AllByRecursion Agree (end_parts e) → end_weight f e ≡ end_weight g e
  end_same (end.Equal a b truth k) h = refl
  end_same (end.Call t a os) h = refl
  end_same (end.Match s rules o) h =
      let both = rules_same rules o h in
      omega (arith, both.0, both.1)
  end_same (end.Throw s) h = refl
  end_same end.Halt h = refl

module _ (bodies : List Body) (numbered : AreNumbered bodies) where
  -- more levels than are left make no other weight
  enough : (k m i : ℕ) → length bodies ≤ k + i → length bodies ≤ m + i → weight_within k bodies i ≡ weight_within m bodies i
  enough zero zero i h g = refl
  enough zero (suc m) i h g = sym (ap (body_weight (weight_within m bodies)) (none_past bodies i (omega (arith, h))))
  enough (suc k) zero i h g = ap (body_weight (weight_within k bodies)) (none_past bodies i (omega (arith, g)))
  enough (suc k) (suc m) i h g = by (slice_get bodies i) refl (λ c le. enough k m c (omega (arith, h, le)) (omega (arith, g, le)))
    where
      by : (o : Option Body) → slice_get bodies i ≡ o → ((c : ℕ) → i < c → weight_within k bodies c ≡ weight_within m bodies c) → body_weight (weight_within k bodies) (slice_get bodies i) ≡ body_weight (weight_within m bodies) (slice_get bodies i)
      by None e r = ap (body_weight (weight_within k bodies)) e ∙ sym (ap (body_weight (weight_within m bodies)) e)
      by (Some b) e r =
          ap (body_weight (weight_within k bodies)) e
          ∙ ap (λ n. 2 + n) (end_same (weight_within k bodies) (weight_within m bodies) b.end (all_with (λ c. (i < c) × (c < length bodies)) (Agree (weight_within k bodies) (weight_within m bodies)) (λ c h. r c h.0) (body_parts b) (numbered i b e)))
          ∙ sym (ap (body_weight (weight_within m bodies)) e)

  weight_unfold : (i : ℕ) (b : Body) → slice_get bodies i ≡ Some b → weight bodies i ≡ 2 + end_weight (weight bodies) b.end
  weight_unfold i b e =
      let lt = some_within bodies i b e in
      enough (length bodies) (suc (length bodies)) i (omega (arith, lt)) (omega (arith, lt)) ∙ ap (body_weight (weight_within (length bodies) bodies)) e

  weighty : (k i : ℕ) → 0 < weight_within k bodies i
  weighty zero i = omega arith
  weighty (suc k) i = by (slice_get bodies i)
    where
      by : (o : Option Body) → 0 < body_weight (weight_within k bodies) o
      by None = omega arith
      by (Some b) = omega arith

  end_less : (L : Labels) (e : End) (g : ℕ) → length (rules_of e) + rules_weight (weight bodies) (rules_of e) + tasks_weight bodies (otherwise_task L bodies g e) ≡ end_weight (weight bodies) e
  end_less L (end.Equal a b truth k) g = refl
  end_less L (end.Call t a os) g = refl
  end_less L (end.Match s rules o) g = omega arith
  end_less L (end.Throw s) g = refl
  end_less L end.Halt g = refl

  pub whole_less : (L : Labels) (i g : ℕ) (o : Option Body) → slice_get bodies i ≡ o → tasks_weight bodies (whole_tasks L bodies i g o) < task_weight bodies (Whole i g)
  whole_less L i g None e = weighty (length bodies) i
  whole_less L i g (Some b) e =
      let all = weight_unfold i b e in
      let n = length (rules_of b.end) in
      let first : first_weight bodies n (slice_get bodies i) ≡ rules_weight (weight bodies) (rules_of b.end) = ap (first_weight bodies n) e ∙ ap (rules_weight (weight bodies)) (take_all (rules_of b.end)) in
      let end = end_less L b.end (last_group g b.steps) in
      omega (arith, all, first, end)

  both_weights : (rs qs : List Rule) → rules_weight (weight bodies) (rs ++ qs) ≡ rules_weight (weight bodies) rs + rules_weight (weight bodies) qs
  both_weights [] qs = omega arith
  both_weights (r ∷ rs) qs =
      let rest = both_weights rs qs in
      omega (arith, rest)

  rule_less : (L : Labels) (i k g behind : ℕ) (b : Body) (q : Option Rule) → slice_get bodies i ≡ Some b → slice_get (rules_of b.end) k ≡ q → tasks_weight bodies (rule_tasks L bodies i k g behind q) < task_weight bodies (Rules i (suc k) g)
  rule_less L i k g behind b None e h =
      let now : first_weight bodies k (slice_get bodies i) ≡ rules_weight (weight bodies) (take k (rules_of b.end)) = ap (first_weight bodies k) e in
      let before : first_weight bodies (suc k) (slice_get bodies i) ≡ rules_weight (weight bodies) (take k (rules_of b.end)) = ap (first_weight bodies (suc k)) e ∙ ap (rules_weight (weight bodies)) (take_lost (rules_of b.end) k h) in
      omega (arith, now, before)
  rule_less L i k g behind b (Some r) e h =
      let now : first_weight bodies k (slice_get bodies i) ≡ rules_weight (weight bodies) (take k (rules_of b.end)) = ap (first_weight bodies k) e in
      let before : first_weight bodies (suc k) (slice_get bodies i) ≡ rules_weight (weight bodies) (take k (rules_of b.end)) + rules_weight (weight bodies) (r ∷ []) = ap (first_weight bodies (suc k)) e ∙ ap (rules_weight (weight bodies)) (take_found (rules_of b.end) k r h) ∙ both_weights (take k (rules_of b.end)) (r ∷ []) in
      omega (arith, now, before)

  pub rules_less : (L : Labels) (i left g behind : ℕ) (o : Option Body) → slice_get bodies i ≡ o → tasks_weight bodies (rules_tasks L bodies i left g behind o) < task_weight bodies (Rules i left g)
  rules_less L i left g behind None e = omega arith
  rules_less L i zero g behind (Some b) e = omega arith
  rules_less L i (suc k) g behind (Some b) e = rule_less L i k g behind b (slice_get (rules_of b.end) k) e refl

  pub tests_less : (i k behind g : ℕ) → tasks_weight bodies (Rules i k g ∷ []) < task_weight bodies (Tests i k behind g)
  tests_less i k behind g = omega arith

  pub both_tasks : (ts us : List Task) → tasks_weight bodies (ts ++ us) ≡ tasks_weight bodies ts + tasks_weight bodies us
  both_tasks [] us = omega arith
  both_tasks (t ∷ ts) us =
      let rest = both_tasks ts us in
      omega (arith, rest)
