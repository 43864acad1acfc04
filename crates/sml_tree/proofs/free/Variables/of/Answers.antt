use Rattle.std.proofs.Common.{◌≡◌, ◌-◌, ◌<◌, suc, Some, length, sym, ap, ◌∙◌, arith, subst}
use Rattle.std.proofs.lemmas.Option.{slice_get-get_or}
use Rattle.std.specs.Prelude.{slice_set}
use Rattle.sml_tree.specs.Sets.{row_at}
use Rattle.sml_tree.specs.Variables.{AreVariables}
use Rattle.sml_tree.specs.Free.{binds_of, free_of}
use Rattle.sml_tree.proofs.FreeTable.{done_down}
use Rattle.sml_tree.proofs.free.Variables.of.Goals as goal

pub loop-i-preserved : goal.loop-i-preserved
loop-i-preserved c =
    let lt : c.loop-i.i - 1 < length c.args.nodes.now = omega (arith, c.loop-i.invariant.within) in
    let here : suc (c.loop-i.i - 1) ≡ c.loop-i.i = omega arith in
    record {
      after = omega arith;
      within = omega arith;
      done =
          done_down
          _
          c.requires.numbered
          (c.loop-i.i - 1)
          c.index-nodes-i.result
          (slice_get-get_or _ _ c.index-nodes-i.result lt ∙ ap Some (sym c.index-nodes-i.is))
          lt
          c.loop-i.bound.items
          c.loop-i.free.items
          (subst (λ k. AreVariables c.args.nodes.now k c.loop-i.bound.items c.loop-i.free.items) (sym here) c.loop-i.invariant.done)
          _
          _
          (c.from_vec.ensures ∙ c.in_ok-names.ensures ∙ ap (λ rows. binds_of (row_at rows) c.index-nodes-i.result) c.deref.ensures.value)
          (c.from_vec-in-loop-i.ensures ∙ c.in_ok-set.ensures ∙ ap (λ rows. free_of (row_at rows) (row_at c.deref-in-loop-i-2.result.now) c.index-nodes-i.result) c.deref-in-loop-i.ensures.value ∙ ap (λ rows. free_of (row_at (slice_set c.loop-i.bound.items (c.loop-i.i - 1) c.from_vec.result)) (row_at rows) c.index-nodes-i.result) c.deref-in-loop-i-2.ensures.value);
    }
