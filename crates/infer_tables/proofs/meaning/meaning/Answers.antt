use Rattle.infer_tables.proofs.MeaningFacts.{meaning_or_none, cites_as, written_as}
use Rattle.infer_tables.proofs.meaning.meaning.Goals as goal

pub returns-clause-ok : goal.returns-clause-ok
returns-clause-ok c =
    let p = c.args.bare.now in
    let k = c.args.known.now in
    meaning_or_none p c.args.types.now c.written.new.types k c.requires.scope c.in_ok-found.ensures.longer c.args.exp
    (cites_as c.items-names.result.now k.tables.names c.items-abbreviations.result.now k.abbreviations c.items-exps.result.now p.types c.args.exp c.items-names.ensures c.items-abbreviations.ensures c.items-exps.ensures (c.all_cite_below.ensures c.if-not-all_cite_below.false))
    c.in_ok-found.found
    (written_as p c.args.types.now c.written.new.types c.args.exp c.in_ok-found.found c.items-names.result.now k.tables.names c.items-abbreviations.result.now k.abbreviations c.items-stands.result.now k.stands c.items-names.ensures c.items-abbreviations.ensures c.items-stands.ensures c.in_ok-found.ensures.ok)
