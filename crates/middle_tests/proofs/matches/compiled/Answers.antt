use Rattle.std.proofs.Common.{◌≡◌, subst, sym}
use Rattle.sml_tree.specs.BareParts.{IsNumbered}
use Rattle.middle_tests.proofs.Numbered.{patterns_numbered}
use Rattle.middle_tests.proofs.matches.compiled.Goals as goal

pub compile_pattern-requires : goal.compile_pattern-requires
compile_pattern-requires c =
    subst IsNumbered (sym c.items.ensures) (subst IsNumbered (sym c.in_ok-row.ensures) patterns_numbered)
