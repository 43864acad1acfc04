-- Laws of folds.
use Rattle.std.specs.Prelude.{◌≡◌, List, ◌++◌}
use Rattle.heap_probes.specs.declared.probe.Entry.{Entry}
use Rattle.heap_probes.specs.Probe.{Shown, all_folded}

-- telling some entries and then others is telling them all
abbrev pub FoldsCompose : List Entry → List Entry → List Shown → Type 0
FoldsCompose es fs ps = all_folded fs (all_folded es ps) ≡ all_folded (es ++ fs) ps
