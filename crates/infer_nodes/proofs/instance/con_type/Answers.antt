use Rattle.std.proofs.Common.{◌≡◌, sym, ◌∙◌}
use Rattle.infer_nodes.proofs.Schemes.{con_some}
use Rattle.infer_nodes.proofs.instance.con_type.Goals as goal

pub returns-in_ok-to-in-Some : goal.returns-in_ok-to-in-Some
returns-in_ok-to-in-Some c =
    con_some c.args.number c.args.params.now c.args.args.now _ c.args.con.now c.in-Some.arg c.args.types.now c.unfolded.new.types c.applied-in-Some.new.types c.function.new.types c.in_ok-from-in-Some.from c.in_ok-to-in-Some.to c.function.result (c.from_vec-whole.ensures ∙ c.in_ok-from_slice.ensures.items) c.in-Some.is c.requires.there c.in_ok-from-in-Some.ensures.ok c.in_ok-from-in-Some.ensures.longer c.in_ok-from-in-Some.ensures.vars c.in_ok-to-in-Some.ensures c.function.ensures
