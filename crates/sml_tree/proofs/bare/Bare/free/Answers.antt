use Rattle.std.proofs.Common.{rules, ◌≡◌, map, sym, subst}
use Rattle.sml_tree.specs.Free.{free}
use Rattle.sml_tree.specs.IsBare.{IsAscending}
use Rattle.sml_tree.proofs.AscendingSets.{free_ascending}
use Rattle.sml_tree.proofs.bare.Bare.free.Goals as goal

pub returns : goal.returns
returns c =
    let names : map (λ x. x.0) c.from_vec.result ≡ free c.args.self.now.nodes c.args.node = search rules in
    record { names = names; ascending = subst (IsAscending 0) (sym names) (free_ascending c.args.self.now.nodes c.args.node) }
