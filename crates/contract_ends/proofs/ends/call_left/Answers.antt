use Rattle.std.proofs.lemmas.Result.{IfOk-weaker}
use Rattle.contract_known.specs.Known.{place_of}
use Rattle.contract_ends.proofs.Law.{call_is}
use Rattle.contract_ends.proofs.ends.call_left.Goals as goal

pub returns : goal.returns
returns c = IfOk-weaker c.call_in.result _ _ (λ e h. call_is (place_of c.args.places.now) c.args.function c.args.atoms.now e h) c.call_in.ensures
