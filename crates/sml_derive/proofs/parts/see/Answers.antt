use Rattle.sml_expansion.specs.Patterns.{env_of}
use Rattle.sml_derive.proofs.Values.{on_seen}
use Rattle.sml_derive.proofs.parts.see.Goals as goal

pub returns : goal.returns
returns c = on_seen c.put_in_force.result c.args.walk.now c.put_in_force.new.walk (env_of c.args.vars.now) c.put_in_force.ensures.scope c.put_in_force.ensures.made c.put_in_force.ensures.marks
