use Rattle.sml_infer.proofs.Citing.{front_cites}
use Rattle.sml_infer.proofs.cited.cited_types.Goals as goal

pub returns : goal.returns
returns c = front_cites c.args.bare.now c.args.declared.now c.len.result c.items.result.now c.front-count.result c.len.ensures c.items.ensures c.front-count.ensures
