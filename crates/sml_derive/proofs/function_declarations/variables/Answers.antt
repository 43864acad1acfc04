use Rattle.std.proofs.Common.{◌≡◌, ◌≤◌, length, sym, ◌∙◌, arith}
use Rattle.std.proofs.lemmas.List.{at_drop_all}
use Rattle.sml_expansion.specs.Forests.{count}
use Rattle.sml_expansion.specs.Bare.{variable_nodes}
use Rattle.sml_derive.proofs.FunctionLemmas.{variables_written, variables_are, variables_count}
use Rattle.sml_derive.proofs.function_declarations.variables.Goals as goal

pub returns : goal.returns
returns c =
    let l = c.loop-name in
    let done : length c.args.names.now ≤ l.name-index = omega arith in
    let n : count (variable_nodes c.args.place c.args.names.now) ≡ length c.args.names.now = variables_count c.args.place c.args.names.now in
    record {
      walk = sym (at_drop_all (λ vs. variables_written c.args.place vs l.walk) c.args.names.now l.name-index done) ∙ l.invariant.0 ∙ variables_are c.args.place c.args.names.now c.args.walk.now;
      written = omega (arith, n, done, l.invariant.1);
    }
