use Rattle.std.proofs.Common.{◌≡◌, drop}
use Rattle.sml_expansion.specs.Bindings.{none_fixed}
use Rattle.expand_types.proofs.exceptions.refuse_fixed.Given as goal

abbrev pub invariant-loop-ident : goal.invariant-loop-ident
invariant-loop-ident l = none_fixed l.parsed.names (drop l.ident-index l.idents) l.made ≡ none_fixed l.parsed.names l.idents l.fn.made
