-- Telling some entries and then others is telling them all.
use Rattle.std.proofs.Common.{◌≡◌, Bool, true, false, List, [], ◌∷◌, ◌++◌, Option, Some, None, if◌then◌else◌, refl, ap₂, ◌∙◌}
use Rattle.heap_probes.specs.declared.probe.Entry.{Entry}
use Rattle.heap_probes.specs.Probe.{Shown, told, goes_on, folded, put_first, all_folded}
use Rattle.heap_probes.specs.Laws.{FoldsCompose}

abbrev folded_on : List Entry → Option Shown → Option Shown
folded_on fs None = None
folded_on fs (Some p) = folded fs p

one_composes : (es fs : List Entry) (p : Shown) → folded_on fs (folded es p) ≡ folded (es ++ fs) p
one_composes [] fs p = refl
one_composes (e ∷ es) fs p = by (goes_on e p) (one_composes es fs (told e p))
  where
    by : (b : Bool) → folded_on fs (folded es (told e p)) ≡ folded (es ++ fs) (told e p) → folded_on fs (if b then folded es (told e p) else None) ≡ (if b then folded (es ++ fs) (told e p) else None)
    by true h = h
    by false h = refl

put_folded : (fs : List Entry) (o : Option Shown) (ps : List Shown) → all_folded fs (put_first o ps) ≡ put_first (folded_on fs o) (all_folded fs ps)
put_folded fs None ps = refl
put_folded fs (Some p) ps = refl

pub folds_compose : (es fs : List Entry) (ps : List Shown) → FoldsCompose es fs ps
folds_compose es fs [] = refl
folds_compose es fs (p ∷ ps) = put_folded fs (folded es p) (all_folded es ps) ∙ ap₂ put_first (one_composes es fs p) (folds_compose es fs ps)
