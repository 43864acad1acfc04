use Rattle.std.proofs.Common.{◌≡◌, sym, subst, ◌∙◌}
use Rattle.std.specs.Prelude.{None}
use Rattle.sml_expansion.specs.Terms.{Term}
use Rattle.sml_expansion.specs.Sources.{IsAt}
use Rattle.sml_expansion.proofs.Shapes.{node_is}
use Rattle.sml_derive.specs.Functions.{Finds, match_in}
use Rattle.sml_derive.proofs.FormLemmas.{no_match}
use Rattle.sml_derive.proofs.functions.+fn_match.Goals as goal

pub returns-in_default-clause-is : goal.returns-in_default-clause-is
returns-in_default-clause-is t c = λ u k. subst (λ o. Finds c.args.parsed.now o None) (sym (no_match u c.node.result (c.node.ensures ∙ node_is c.args.parsed.now c.args.at u k) c.in_default.not-Fn c.in_default.not-Paren)) tt
