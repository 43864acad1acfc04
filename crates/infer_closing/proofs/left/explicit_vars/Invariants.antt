use Rattle.std.proofs.Common.{◌≡◌, ◌<◌, length, take}
use Rattle.std.specs.List.{AllByRecursion}
use Rattle.sml_types.specs.TypeExps.{all_explicit}
use Rattle.infer_closing.proofs.left.explicit_vars.Given as goal

abbrev pub invariant-tyvars : goal.invariant-tyvars
invariant-tyvars l =
    record {
      is : l.vars ≡ all_explicit l.bare.tyvars (take l.number-index l.tyvars);
      there : AllByRecursion (λ u. u < length l.bare.tyvars) (take l.number-index l.tyvars);
    }
