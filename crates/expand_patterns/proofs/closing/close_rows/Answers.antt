use Rattle.std.proofs.Common.{List, subst}
use Rattle.sml_tree.specs.declared.bare.Field.{Field}
use Rattle.sml_tree.specs.declared.bare.Node.TheVariants as bare
use Rattle.sml_expansion.specs.Forests.{grown}
use Rattle.expand_patterns.specs.Expands.{Expands}
use Rattle.expand_patterns.specs.Opens.{wrapped}
use Rattle.expand_patterns.proofs.Behind.{if_ok}
use Rattle.expand_patterns.proofs.closing.close_rows.Goals as goal

pub returns : goal.returns
returns c =
    if_ok c.close.result
    (λ trees h names f n before first earlier later o e.
    subst (λ (l : List Field). Expands names (wrapped f (λ s. grown (bare.PatRecord l) c.args.place)) trees before c.close.new.walk earlier later) c.in_ok-fields.ensures (h names f n before first earlier later o e))
    c.close.ensures
