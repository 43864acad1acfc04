use Rattle.std.proofs.Common.{rules, ◌≡◌, bytes_eq, true, false, List, ℕ}
use Rattle.sml_expansion.proofs.NumberLemmas.{position_hit, position_miss}
use Rattle.sml_expansion.proofs.long_identifiers.number_of.Goals as goal

pub returns-then-eq : goal.returns-then-eq
returns-then-eq c =
    let t : bytes_eq c.text.result.now c.args.text.now ≡ true = search rules in
    position_hit (λ (t : List ℕ). bytes_eq t c.args.text.now) c.args.names.now c.loop-key.key c.text.result.now _ c.text.ensures.text t c.loop-key.invariant

pub loop-key-preserved : goal.loop-key-preserved
loop-key-preserved c =
    let t : bytes_eq c.text.result.now c.args.text.now ≡ false = search rules in
    position_miss (λ (t : List ℕ). bytes_eq t c.args.text.now) c.args.names.now c.loop-key.key c.text.result.now _ c.text.ensures.text t c.loop-key.invariant
