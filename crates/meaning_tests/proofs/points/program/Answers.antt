use Rattle.std.proofs.Common.{◌≡◌, [], ◌∷◌, length, ap, rules}
use Rattle.sml_tree.proofs.Worked.{raising_built}
use Rattle.meaning_tests.proofs.points.program.Goals as goal

pub returns : goal.returns
returns c =
    let decs : c.from_vec-decs.result ≡ 0 ∷ 2 ∷ [] = search rules in
    record {
      bare = raising_built _ _ _ _ _ _ _ _ c.in_ok-nodes.ensures c.in_ok-places.ensures decs c.in_ok-shown.ensures c.new.ensures c.new-2.ensures c.in_ok-names.ensures c.new-3.ensures;
      count = ap length c.in_ok-nodes.ensures;
    }
