use Rattle.std.proofs.Common.{◌≡◌, Some, sym, ap, ◌∙◌}
use Rattle.sml_expansion.specs.declared.meaning.Meaning.TheVariants.{Constructor}
use Rattle.expand_patterns.proofs.Behind.{if_ok, applied_closed}
use Rattle.expand_patterns.proofs.closing.close_applied.Goals as goal

pub returns-in-Some-Constructor : goal.returns-in-Some-Constructor
returns-in-Some-Constructor c =
    let names = c.args.parsed.now.names in
    let inner = rw c.in-Some-Constructor.is at c.in-Some-Constructor.field-0-is in
    let found : Some (Constructor c.in-Some-Constructor.con) ≡ c.value-meaning.result = sym (c.in-Some-Constructor.is ∙ ap Some inner) in
    if_ok c.close.result
    (λ trees h f n before first earlier later z o e.
    applied_closed names f c.args.place c.args.ident n trees c.in-Some-Constructor.con before first c.args.walk.now c.close.new.walk earlier later (found ∙ c.value-meaning.ensures) o e (h names f n before first earlier later o e))
    c.close.ensures
