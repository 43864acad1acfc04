-- The laws of contexts, for a prefix of a program.
use Rattle.std.proofs.Common.{ℕ}
use Rattle.sml_tree.specs.declared.bare.Bare.{Bare}
use Rattle.sml_tree.specs.BareParts.{IsNumbered}
use Rattle.sml_types.specs.Typing.{Typing, IsTypingBelow}
use Rattle.infer_scopes.specs.Prefix.{IsPrefix}
use Rattle.infer_scopes.proofs.Laws.{binds_are, parts_stand, body_stands}
use Rattle.sml_infer.specs.Going.{IsLawful}

pub lawful : (p : Bare) (count : ℕ) (t : Typing) → IsNumbered p.nodes → IsPrefix p.nodes count → IsTypingBelow p t count → IsLawful p count t
lawful p count t numbered prefix h = record { binds = binds_are p t count h numbered prefix; parts = parts_stand p t count h numbered prefix; bodies = body_stands p t count h numbered prefix }
