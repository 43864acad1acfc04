use Rattle.sml_fixity.proofs.ParserLemmas.{parses_for, stops_for}
use Rattle.sml_fixity.proofs.parser.parse.Goals as goal

pub refusal_of-requires : goal.refusal_of-requires
refusal_of-requires c = stops_for c.args.lexed.names c.in_ok-scope.scope _ c.items.result.now c.args.lexed.tokens c.in-Err.stop c.in_ok-scope.ensures c.items.ensures c.in-Err.ensures.refused

pub finish-requires : goal.finish-requires
finish-requires c = parses_for c.args.lexed.names c.in_ok-scope.scope _ c.items.result.now c.args.lexed.tokens c.in-Ok.made.items c.deref.result.now c.in_ok-scope.ensures c.items.ensures c.deref.ensures.value c.in-Ok.ensures.tree
