use Rattle.infer_parts.proofs.Forms.{fields_there, record_made}
use Rattle.std.proofs.Common.{length}
use Rattle.infer_parts.proofs.written.record.Goals as goal

pub pushed-requires-clause-parts : goal.pushed-requires-clause-parts
pushed-requires-clause-parts c = fields_there (length c.args.types.now) c.args.fields.now c.args.tys.now c.in_ok-made.made c.in_ok-made.ensures c.requires.there

pub returns-clause-ok : goal.returns-clause-ok
returns-clause-ok c = record_made c.args.types.now c.pushed.new.types c.args.fields.now c.args.tys.now c.in_ok-made.made c.pushed.result c.in_ok-made.ensures c.requires.row c.requires.count c.pushed.ensures.ok
