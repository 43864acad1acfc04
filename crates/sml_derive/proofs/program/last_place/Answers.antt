use Rattle.std.proofs.Common.{◌∙◌, sym, ap}
use Rattle.std.specs.Option.{option_copied}
use Rattle.sml_expansion.specs.Programs.{no_place}
use Rattle.sml_derive.proofs.Roots.{last_is}
use Rattle.sml_derive.proofs.program.last_place.Goals as goal

pub returns-in-Some : goal.returns-in-Some
returns-in-Some c = λ terms k. last_is c.args.parsed.now c.args.decs.now c.in-Some.at.now terms no_place c.place.result k (sym c.last.ensures.value ∙ ap option_copied c.in-Some.is) c.place.ensures
