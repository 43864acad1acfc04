use Rattle.std.proofs.Common.{length, sym, ap, arith}
use Rattle.std.proofs.lemmas.List.{drop_all}
use Rattle.sml_tree.specs.Sets.{has, union}
use Rattle.closure_layouts.proofs.Rows.{put_back}
use Rattle.closure_layouts.proofs.tables.insert_all.Goals as goal

pub loop-i-init : goal.loop-i-init
loop-i-init c = record {
  within = omega arith;
  put = λ z. ap (λ xs. has (union xs c.args.set.now.keys) z) (sym (drop_all (length c.args.xs.now) c.args.xs.now (omega arith)));
}

pub loop-i-preserved : goal.loop-i-preserved
loop-i-preserved c = record {
  within = omega (arith, c.loop-i.invariant.within);
  put = put_back c.args.xs.now c.loop-i.i _ c.args.set.now.keys c.loop-i.set.keys c.insert.new.set.keys c.loop-i-test.true c.loop-i.invariant.within c.loop-i.invariant.put c.in_ok-insert.ensures;
}
