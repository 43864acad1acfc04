use Rattle.std.proofs.Common.{rules, ◌≡◌, ◌<◌, ◌++◌, ◌∷◌, ◌+◌, [], sym, subst}
use Rattle.sml_expansion.specs.Makings.{Runs, new_name}
use Rattle.sml_expansion.proofs.NameLemmas.{AreNamed, named_one}
use Rattle.sml_expansion.proofs.made.Made.new_names.Goals as goal

pub loop-preserved : goal.loop-preserved
loop-preserved c =
    let more : c.loop.counter < c.args.count = search rules in
    let run : Runs (new_name c.args.text.now) c.loop.self c.in_ok-new_name.field-0 c.new_name.new.self = search rules in
    let pushed : c.push.new.self.items ≡ c.loop.names.items ++ c.in_ok-new_name.field-0 ∷ [] = search rules in
    subst (λ names. AreNamed c.args.text.now c.args.count (c.loop.counter + 1) names c.args.self.now c.new_name.new.self) (sym pushed)
    (named_one c.args.text.now c.args.count c.loop.counter c.in_ok-new_name.field-0 c.loop.names.items c.args.self.now c.loop.self c.new_name.new.self more run c.loop.invariant)
