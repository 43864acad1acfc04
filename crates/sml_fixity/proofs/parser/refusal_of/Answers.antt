use Rattle.sml_fixity.proofs.ParserLemmas.{refused_form, refused_mixed, refused_plain}
use Rattle.sml_fixity.proofs.parser.refusal_of.Goals as goal

pub returns-in-Some : goal.returns-in-Some
returns-in-Some c = refused_form c.args.lexed.now c.args.stop c.in-Syntax.at c.items.result.now c.banned_at.result c.in-Some.form c.place_at.result c.requires c.in-Syntax.is c.items.ensures c.banned_at.ensures c.in-Some.is c.place_at.ensures

pub returns-in-None : goal.returns-in-None
returns-in-None c = refused_plain c.args.lexed.now c.args.stop c.in-Syntax.at c.items.result.now c.banned_at.result c.place_at-in-None.result c.requires c.in-Syntax.is c.items.ensures c.banned_at.ensures c.in-None.is c.place_at-in-None.ensures

pub returns-in-Mixed : goal.returns-in-Mixed
returns-in-Mixed c = refused_mixed c.args.lexed.now c.args.stop c.in-Mixed.at c.place_at-in-Mixed.result c.requires c.in-Mixed.is c.place_at-in-Mixed.ensures
