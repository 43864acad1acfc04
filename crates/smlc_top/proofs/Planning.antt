-- What became of files whose plan is to be shown.
use Rattle.std.proofs.Common.{List, ℕ}
use Rattle.smlc_base.specs.declared.refusal.Refusal.{Refusal}
use Rattle.sml_types.specs.declared.typed.Typed.{Typed}
use Rattle.smlc_top.specs.declared.types.Shown.{Shown}
use Rattle.smlc_top.specs.declared.types.Shown.TheVariants.{Text, Refused, NoMemory}
use Rattle.smlc_top.specs.Front.{HasTypes, IsUntyped}
use Rattle.smlc_top.specs.Types.{IsRefusal}
use Rattle.smlc_top.specs.Plan.{IsPlanned, IsPlanOf}

pub refused_planned : (names files : List (List ℕ)) (refusal : Refusal) (s : Shown) → IsUntyped files refusal → IsRefusal names refusal s → IsPlanned names files s
refused_planned names files refusal (Refused line) is h = (refusal, is, h)
refused_planned names files refusal NoMemory is h = tt
refused_planned names files refusal (Text text) is h = absurd h

pub told_planned : (names files : List (List ℕ)) (typed : Typed) (s : Shown) → HasTypes files typed → IsPlanOf typed s → IsPlanned names files s
told_planned names files typed (Text text) types h = record { typed = typed; types = types; plan = h }
told_planned names files typed NoMemory types h = tt
told_planned names files typed (Refused line) types h = absurd h
