use Rattle.std.proofs.Common.{◌≡◌, [], drop}
use Rattle.sml_expansion.proofs.OnceLemmas.{left, refused}
use Rattle.sml_expansion.proofs.once.keys_once.Given as goal

abbrev pub invariant-loop-key : goal.invariant-loop-key
invariant-loop-key l = record { rest : left l.seen.keys (drop l.key-index l.keys) l.made.refusal ≡ left [] l.keys l.fn.made.refusal; others : l.made ≡ refused l.fn.made l.made.refusal }
