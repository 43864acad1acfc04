use Rattle.std.proofs.Common.{◌≡◌, ◌++◌, suc, ◌-◌, ◌<◌, ◌≤◌, length, drop, reverse, sym, ap, subst, ◌∙◌, arith}
use Rattle.sml_tree.specs.Sets.{row_at, union, union_over, without}
use Rattle.sml_tree.specs.Points.{right_parts}
use Rattle.sml_tree.proofs.SetLemmas.{over_step}
use Rattle.sml_tree.proofs.Walk.{rights_down}
use Rattle.sml_tree.proofs.points.push_rights.Goals as goal

pub loop-i-preserved : goal.loop-i-preserved
loop-i-preserved c =
    let pos : 0 < c.loop-i.i = omega arith in
    let le : c.loop-i.i ≤ length c.args.bindings.now = c.loop-i.invariant.within in
    let p : c.in_ok-patterns.patterns.items ≡ union_over (λ b. row_at c.args.free.now b.pat) (drop (c.loop-i.i - 1) c.args.bindings.now) = over_step (λ b. row_at c.args.free.now b.pat) c.args.bindings.now c.loop-i.i _ _ _ _ _ pos le c.in_ok-patterns.ensures c.row.ensures c.deref.ensures.value c.loop-i.invariant.patterns in
    let n : c.in_ok-names.names.items ≡ union_over (λ b. row_at c.args.bound.now b.pat) (drop (c.loop-i.i - 1) c.args.bindings.now) = over_step (λ b. row_at c.args.bound.now b.pat) c.args.bindings.now c.loop-i.i _ _ _ _ _ pos le c.in_ok-names.ensures c.row-in-loop-i.ensures c.deref-in-loop-i.ensures.value c.loop-i.invariant.names in
    let r = over_step (λ b. row_at c.args.free.now b.right) c.args.bindings.now c.loop-i.i _ _ _ _ _ pos le c.in_ok-rights.ensures c.row-in-loop-i-3.ensures c.deref-in-loop-i-5.ensures.value c.loop-i.invariant.rights in
    let here : suc (c.loop-i.i - 1) ≡ c.loop-i.i = omega arith in
    let behind : c.loop-i.rights.items ≡ union_over (λ b. row_at c.args.free.now b.right) (drop (suc (c.loop-i.i - 1)) c.args.bindings.now) = c.loop-i.invariant.rights ∙ ap (λ k. union_over (λ b. row_at c.args.free.now b.right) (drop k c.args.bindings.now)) (sym here) in
    let held : c.in_ok-held.held ≡ length (union (union_over (λ b. row_at c.args.free.now b.pat) (drop (c.loop-i.i - 1) c.args.bindings.now)) (union (union_over (λ b. row_at c.args.free.now b.right) (drop (suc (c.loop-i.i - 1)) c.args.bindings.now)) (without (row_at c.args.free.now c.args.body) (union_over (λ b. row_at c.args.bound.now b.pat) (drop (c.loop-i.i - 1) c.args.bindings.now))))) =
    c.in_ok-held.ensures
    ∙ ap (λ z. length (union z (union c.deref-in-loop-i-3.result.now (without c.row-in-loop-i-2.result.now c.deref-in-loop-i-4.result.now)))) (c.deref-in-loop-i-2.ensures.value ∙ p)
    ∙ ap (λ z. length (union (union_over (λ b. row_at c.args.free.now b.pat) (drop (c.loop-i.i - 1) c.args.bindings.now)) (union z (without c.row-in-loop-i-2.result.now c.deref-in-loop-i-4.result.now)))) (c.deref-in-loop-i-3.ensures.value ∙ behind)
    ∙ ap (λ z. length (union (union_over (λ b. row_at c.args.free.now b.pat) (drop (c.loop-i.i - 1) c.args.bindings.now)) (union (union_over (λ b. row_at c.args.free.now b.right) (drop (suc (c.loop-i.i - 1)) c.args.bindings.now)) (without z c.deref-in-loop-i-4.result.now)))) c.row-in-loop-i-2.ensures
    ∙ ap (λ z. length (union (union_over (λ b. row_at c.args.free.now b.pat) (drop (c.loop-i.i - 1) c.args.bindings.now)) (union (union_over (λ b. row_at c.args.free.now b.right) (drop (suc (c.loop-i.i - 1)) c.args.bindings.now)) (without (row_at c.args.free.now c.args.body) z)))) (c.deref-in-loop-i-4.ensures.value ∙ n) in
    record {
      within = omega arith;
      patterns = p;
      rights = r;
      names = n;
      done =
          c.in_ok-push.ensures
          ∙ rights_down (row_at c.args.bound.now) (row_at c.args.free.now) c.args.bindings.now (c.loop-i.i - 1) _ c.args.body c.args.outer c.args.work.now.items c.loop-i.work.items c.in_ok-held.held (omega arith) held
          (subst (λ k. c.loop-i.work.items ≡ c.args.work.now.items ++ reverse (right_parts (row_at c.args.bound.now) (row_at c.args.free.now) (drop k c.args.bindings.now) c.args.body c.args.outer)) (sym here) c.loop-i.invariant.done);
    }
