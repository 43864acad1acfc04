use Rattle.sml_expansion.specs.Clauses.{head, name_of}
use Rattle.expand_patterns.proofs.BindLemmas.{clause_broken}
use Rattle.expand_patterns.proofs.clauses.refuse_clause.Goals as goal

pub returns : goal.returns
returns c t h alone =
    let at = c.head-head.ensures t h in
    clause_broken c.args.parsed.now.names c.args.function c.ident.result c.args.count c.in_ok-arguments.arguments c.place.result t c.args.walk.now c.refuse_name.new.walk c.refuse_count.new.walk alone
    (c.ident.ensures (name_of (head t)) (c.name_of.ensures (head t) at)) (c.in_ok-arguments.ensures (head t) at) (c.place.ensures t h) c.refuse_name.ensures c.refuse_count.ensures
