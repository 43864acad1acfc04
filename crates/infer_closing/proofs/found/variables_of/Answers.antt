use Rattle.std.proofs.Common.{false, ◌≡◌, sym, ◌∙◌}
use Rattle.infer_closing.specs.Closing.{meaning}
use Rattle.infer_closing.specs.Found.{plain_right}
use Rattle.infer_closing.proofs.FoundFacts.{expansive_found}
use Rattle.infer_closing.proofs.found.variables_of.Goals as goal

pub returns-then-not-is_plain : goal.returns-then-not-is_plain
returns-then-not-is_plain c =
    let e : plain_right c.args.plain.now c.args.right ≡ false = sym c.is_plain.ensures ∙ c.if-not-is_plain.true in
    expansive_found c.args.bare.now (meaning c.args.unknowns.now) c.args.unknowns.now.types c.args.plain.now c.args.right c.args.names.now c.new.result c.requires.numbered c.requires.plain e c.new.ensures
