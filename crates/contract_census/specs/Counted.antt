-- What the counts of a program say.
use Rattle.std.specs.Prelude.{◌≡◌, ℕ, zero, suc, ◌+◌, List, length}
use Rattle.cps_ir.specs.Code.{Code, Make, Pick, Prim, Equal, Fix, Call, Match, Handler, SetHandler, Throw, Halt, Functions, NoFunction, Function, Rules, Otherwise, Rule}
use Rattle.contract_laws.specs.Redex.{uses, uses_functions, uses_others, calls_with}
use Rattle.contract_census.specs.declared.counts.Times.{Times}
use Rattle.contract_census.specs.declared.counts.Times.TheVariants as times
use Rattle.contract_census.specs.declared.counts.Count.{Count}
use Rattle.contract_census.specs.Counting.{count_at}

abbrev pub times_of : ℕ → Times
times_of zero = times.Never
times_of (suc zero) = times.Once
times_of (suc (suc n)) = times.Often

-- of one of these functions, in front of a body
pub record IsFunctionCount (all : Functions) (c : Code) (f : ℕ) (params : List ℕ) (k : Count) : Type 0 where
  -- uses in the functions and the body
  pub used : k.uses ≡ times_of (uses_functions f all + uses f c)
  -- those that aren't in its own body
  pub outside : k.outside ≡ times_of (uses_others f all + uses f c)
  -- calls in the body with an argument for each parameter
  pub called : k.calls ≡ times_of (calls_with f (length params) c)

-- What is counted of x: where it is bound, its uses behind the binding.
module _ (x : ℕ) (k : Count) where
  abbrev pub CountOf : ℕ → Code → Type 0
  CountOf y c = x ≡ y → k.uses ≡ times_of (uses x c)

  abbrev mutual
    pub IsCount : Code → Type 0
    IsCount (Make y shape atoms c) = CountOf y c × IsCount c
    IsCount (Pick y i a c) = CountOf y c × IsCount c
    IsCount (Prim y f atoms c) = CountOf y c × IsCount c
    IsCount (Equal a b truth next) = Unit {0}
    IsCount (Fix fs c) = AreCounts fs c fs × IsCount c
    IsCount (Call a atoms) = Unit {0}
    IsCount (Match a rules) = IsCountIn rules
    IsCount (Handler y c) = IsCount c
    IsCount (SetHandler a c) = IsCount c
    IsCount (Throw a) = Unit {0}
    IsCount Halt = Unit {0}

    pub AreCounts : Functions → Code → Functions → Type 0
    AreCounts all c NoFunction = Unit {0}
    AreCounts all c (Function f p params b fs) = (x ≡ f → IsFunctionCount all c x params k) × IsCount b × AreCounts all c fs

    pub IsCountIn : Rules → Type 0
    IsCountIn (Otherwise c) = IsCount c
    IsCountIn (Rule tests c rules) = IsCount c × IsCountIn rules

-- the count of each variable is right
abbrev pub IsCensus : List Count → Code → Type 0
IsCensus counts c = (x : ℕ) → IsCount x (count_at counts x) c
