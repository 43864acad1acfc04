use Rattle.smlc_top.proofs.Builds.{refused_built, made_built, passed_built}
use Rattle.smlc_top.proofs.Telling.{typable}
use Rattle.smlc_top.proofs.build.build.Goals as goal

pub returns-in-Err-Refused : goal.returns-in-Err-Refused
returns-in-Err-Refused c =
    let k = rw c.in-Err-Refused.field-0-is at c.in-Err-Refused.ensures.err in
    refused_built _ _ c.args.arena c.in-Err-Refused.refusal c.refuse.result k c.refuse.ensures

pub passed-requires-clause-bare : goal.passed-requires-clause-bare
passed-requires-clause-bare c = c.in-Ok.ensures.ok.tree.expands.is_bare

pub returns-in-Ok-Stops : goal.returns-in-Ok-Stops
returns-in-Ok-Stops c =
    let k = rw c.in-Ok-Stops.field-0-is at c.in-Ok-Stops.ensures in
    passed_built _ _ c.args.arena c.in-Ok.typed _ c.passed.result c.in-Ok.ensures.ok k c.passed.ensures

pub returns-in-Ok-Text : goal.returns-in-Ok-Text
returns-in-Ok-Text c =
    let k = rw c.in-Ok-Text.field-0-is at c.in-Ok-Text.ensures in
    made_built _ _ c.args.arena c.in-Ok-Text.printed.text.items c.elf_of.result (record { bare = c.in-Ok.typed.bare; tree = c.in-Ok.ensures.ok.tree; typable = typable c.in-Ok.typed.bare c.in-Ok.typed c.in-Ok.ensures.ok.inferred; says = k.0 }) c.elf_of.ensures
