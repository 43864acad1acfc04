use Rattle.std.proofs.Common.{◌≤◌, length, sym, ◌∙◌, arith}
use Rattle.std.proofs.lemmas.List.{at_drop_all}
use Rattle.sml_derive.proofs.FunctionLemmas.{fns_written, fns_are}
use Rattle.sml_derive.proofs.function_declarations.open_fns.Goals as goal

pub returns : goal.returns
returns c =
    let l = c.loop-name in
    let done : length c.args.names.now ≤ l.name-index = omega arith in
    sym (at_drop_all (λ vs. fns_written c.args.place vs l.walk) c.args.names.now l.name-index done) ∙ l.invariant ∙ fns_are c.args.place c.args.names.now c.args.walk.now
