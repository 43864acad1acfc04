use Rattle.std.proofs.Common.{[], ◌∷◌, length, sym, ap, ◌∙◌, subst, arith}
use Rattle.std.proofs.lemmas.List.{drop_all}
use Rattle.sml_tree.specs.Sets.{has, union}
use Rattle.cps_free.specs.Same.{AreSame}
use Rattle.close_laws.specs.Layouts.{names_of_layouts}
use Rattle.closed_functions.proofs.Rounding.{named_more}
use Rattle.closed_functions.proofs.rounds.all_names.Goals as goal

pub loop-i-init : goal.loop-i-init
loop-i-init c = record {
  within = omega arith;
  named = λ z. ap (λ ks. has ks z) c.new-set.ensures.empty ∙ ap (λ ls. has (names_of_layouts ls) z) (sym (drop_all (length c.args.layouts.now) c.args.layouts.now (omega arith)));
}

pub loop-i-preserved : goal.loop-i-preserved
loop-i-preserved c = record {
  within = omega (arith, c.loop-i.invariant.within);
  named = named_more c.args.layouts.now c.loop-i.i _ c.index-layouts-i.result c.loop-i.set.keys c.insert.new.set.keys c.loop-i-test.true c.loop-i.invariant.within c.index-layouts-i.is c.loop-i.invariant.named
      (subst (λ x. AreSame c.insert.new.set.keys (union (x ∷ []) c.loop-i.set.keys)) c.name.ensures c.in_ok-insert.ensures);
}
