use Rattle.std.proofs.Common.{◌<◌, ℕ, length, subst}
use Rattle.std.specs.List.{AllByRecursion}
use Rattle.sml_infer.proofs.NextNode.{group_below}
use Rattle.sml_infer.proofs.ask.group_there.Goals as goal

pub returns : goal.returns
returns c t = group_below (length c.args.bare.now.names) c.args.bindings.now (subst (λ (n : ℕ). AllByRecursion (λ b. b.name.0 < n) c.args.bindings.now) c.len.ensures (c.are_below.ensures t))
