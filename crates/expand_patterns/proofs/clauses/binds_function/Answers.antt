use Rattle.expand_patterns.proofs.Behind.{if_ok}
use Rattle.sml_expansion.specs.Clauses.{head, first_clause, name_of}
use Rattle.expand_patterns.proofs.BindLemmas.{function_bound}
use Rattle.expand_patterns.proofs.clauses.binds_function.Goals as goal

pub returns : goal.returns
returns c =
    if_ok c.binds_short.result
    (λ k r t h.
    let at = c.head-head.ensures (first_clause t) (c.first_clause.ensures t h) in
    function_bound c.args.parsed.now.names t c.ident-function.result c.in_ok-count.count c.args.walk.now c.refuse_clauses.new.walk c.binds_short.new.walk c.args.bound.now.items c.binds_short.new.bound.items
    (c.ident-function.ensures (name_of (head (first_clause t))) (c.name_of.ensures (head (first_clause t)) at)) (c.in_ok-count.ensures (head (first_clause t)) at) (c.in_ok-refuse_clauses.ensures t h) r)
    c.binds_short.ensures
