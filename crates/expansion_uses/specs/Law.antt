-- The law: the library's parse tree and a program's, where no rule is broken, expand to a tree that uses its function constants and its exceptions well.
use Rattle.std.specs.Prelude.{◌≡◌, None}
use Rattle.sml_tree.specs.declared.tree.Tree.{Tree}
use Rattle.sml_expansion.specs.Whole.{bare_of, broken}
use Rattle.expansion_laws.specs.Laws.{AreReady}
use Rattle.sane_laws.specs.Uses.{UsesWell}

abbrev pub ExpandsToUses : Tree → Tree → Type 0
ExpandsToUses library tree = AreReady library tree → broken library tree ≡ None → UsesWell (bare_of library tree)
