use Rattle.std.proofs.Common.{rules, [], ap, ◌∙◌, map}
use Rattle.std.specs.Prelude.{fold}
use Rattle.std.proofs.lemmas.List.{take_all}
use Rattle.type_text.specs.Entries.{entry_of}
use Rattle.type_text.specs.States.{state, with_line}
use Rattle.type_text.proofs.Laws.{all_lines}
use Rattle.type_text.proofs.text.lines.Goals as goal

pub returns : goal.returns
returns c =
    c.into_bytes.ensures
    ∙ ap (λ s. s.out) c.shown.invariant
    ∙ ap (λ shown. (fold (with_line c.args.typed.now.tables.names) (state [] [] [] []) (map (entry_of c.args.typed.now) shown)).out) (take_all c.shown.name-index c.args.shown.now (search rules))
    ∙ all_lines c.args.typed.now.tables.names (map (entry_of c.args.typed.now) c.args.shown.now)
