-- One list of checks behind another.
use Rattle.std.proofs.Common.{◌≡◌, Bool, true, false, List, [], ◌∷◌, ◌++◌, Some, None, Result, Ok, Err, refl, sym, ap, ◌∙◌}
use Rattle.elf_static.specs.declared.error.ElfError.{ElfError}
use Rattle.elf_static.specs.declared.error.ElfError.TheVariants.{NotElf, NoMemory}
use Rattle.elf_static.specs.declared.checks.Check.{Check}
use Rattle.elf_static.specs.Checks.{first_failed, Passes}
use Rattle.std.specs.Prelude.{if◌then◌else◌}

-- where the first checks pass, the answer is that of the others
pub first_behind : (front back : List Check) → first_failed front ≡ None → first_failed (front ++ back) ≡ first_failed back
first_behind [] back h = refl
first_behind (c ∷ cs) back h = go c.fails h (first_behind cs back)
  where
    go : (b : Bool) → (if b then Some (NotElf c.kind c.at) else first_failed cs) ≡ None → (first_failed cs ≡ None → first_failed (cs ++ back) ≡ first_failed back) → (if b then Some (NotElf c.kind c.at) else first_failed (cs ++ back)) ≡ first_failed back
    go true h again = absurd cc
    go false h again = again h

-- where one of the first checks fails, it's the answer
pub first_in_front : (front back : List Check) (e : ElfError) → first_failed front ≡ Some e → first_failed (front ++ back) ≡ Some e
first_in_front [] back e h = absurd cc
first_in_front (c ∷ cs) back e h = go c.fails h (first_in_front cs back e)
  where
    go : (b : Bool) → (if b then Some (NotElf c.kind c.at) else first_failed cs) ≡ Some e → (first_failed cs ≡ Some e → first_failed (cs ++ back) ≡ Some e) → (if b then Some (NotElf c.kind c.at) else first_failed (cs ++ back)) ≡ Some e
    go true h again = h
    go false h again = again h

-- where all pass, the first ones do, and the others
pub front_passes : (front back : List Check) → first_failed (front ++ back) ≡ None → first_failed front ≡ None
front_passes [] back h = refl
front_passes (c ∷ cs) back h = go c.fails h (front_passes cs back)
  where
    go : (b : Bool) → (if b then Some (NotElf c.kind c.at) else first_failed (cs ++ back)) ≡ None → (first_failed (cs ++ back) ≡ None → first_failed cs ≡ None) → (if b then Some (NotElf c.kind c.at) else first_failed cs) ≡ None
    go true h again = absurd cc
    go false h again = again h

pub back_passes : (front back : List Check) → first_failed (front ++ back) ≡ None → first_failed back ≡ None
back_passes front back h = sym (first_behind front back (front_passes front back h)) ∙ h

-- no check of a list fails, as facts
abbrev pub NoneFails : List Check → Type 0
NoneFails [] = Unit {0}
NoneFails (c ∷ cs) = (c.fails ≡ false) × NoneFails cs

pub none_fails : (cs : List Check) → first_failed cs ≡ None → NoneFails cs
none_fails [] h = tt
none_fails (c ∷ cs) h = go c.fails refl h (none_fails cs)
  where
    go : (b : Bool) → c.fails ≡ b → (if b then Some (NotElf c.kind c.at) else first_failed cs) ≡ None → (first_failed cs ≡ None → NoneFails cs) → (c.fails ≡ false) × NoneFails cs
    go true e h again = absurd cc
    go false e h again = (e, again h)

pub none_failed : (cs : List Check) → NoneFails cs → first_failed cs ≡ None
none_failed [] h = refl
none_failed (c ∷ cs) h = ap (λ b. if b then Some (NotElf c.kind c.at) else first_failed cs) h.0 ∙ none_failed cs h.1

-- the answer of the checks behind those that passed
pub passes_behind : {X : Type 0} (front back : List Check) (r : Result X ElfError) → first_failed front ≡ None → Passes r back → Passes r (front ++ back)
passes_behind front back (Ok x) h p = first_behind front back h ∙ p
passes_behind front back (Err (NotElf kind at)) h p = first_behind front back h ∙ p
passes_behind front back (Err NoMemory) h p = tt

-- no check behind it changes what failed
pub passes_in_front : (X Y : Type 0) (front back : List Check) (e : ElfError) → Passes {X = Y} (Err e) front → Passes {X = X} (Err e) (front ++ back)
passes_in_front X Y front back (NotElf kind at) p = first_in_front front back (NotElf kind at) p
passes_in_front X Y front back NoMemory p = tt

-- checks with one answer
pub passes_same : {X : Type 0} (one other : List Check) (r : Result X ElfError) → first_failed one ≡ first_failed other → Passes r one → Passes r other
passes_same one other (Ok x) h p = sym h ∙ p
passes_same one other (Err (NotElf kind at)) h p = sym h ∙ p
passes_same one other (Err NoMemory) h p = tt

-- what failed is an error of any type
pub passes_again : (X Y : Type 0) (checks : List Check) (e : ElfError) → Passes {X = Y} (Err e) checks → Passes {X = X} (Err e) checks
passes_again X Y checks (NotElf kind at) p = p
passes_again X Y checks NoMemory p = tt
