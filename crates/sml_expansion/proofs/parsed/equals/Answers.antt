use Rattle.std.proofs.Common.{rules, ◌≡◌, true, false}
use Rattle.std.specs.Prelude.{bytes_eq, codes}
use Rattle.sml_expansion.proofs.NameLemmas.{equals_here, equals_on}
use Rattle.sml_expansion.proofs.parsed.equals.Goals as goal

pub returns-then-eq : goal.returns-then-eq
returns-then-eq c =
    let found : bytes_eq c.text.result.now (codes "=") ≡ true = search rules in
    equals_here c.args.names.now c.loop-key.key c.text.result.now c.text.ensures.text found c.loop-key.invariant

pub loop-key-preserved : goal.loop-key-preserved
loop-key-preserved c =
    let other : bytes_eq c.text.result.now (codes "=") ≡ false = search rules in
    equals_on c.args.names.now c.loop-key.key c.text.result.now c.text.ensures.text other c.loop-key.invariant
