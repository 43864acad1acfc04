-- Scopes that differ in what they have for some variables.
use Rattle.std.specs.Prelude.{◌≡◌, ℕ, Bool, true, false, List, Option, Some, None}
use Rattle.cps_ir.specs.declared.atom.Atom.{Atom}
use Rattle.cps_ir.specs.Code.{Code}
use Rattle.contract_laws.specs.Contract.{Made}
use Rattle.contract_laws.specs.Redex.{uses, uses_atom, uses_atoms}
use Rattle.contract_laws.specs.Weigh.{weigh, of_name}
use Rattle.contract_round.specs.Round.{Inlined, Known, walk}

-- Those variables of which the scopes may know other blocks.
module _ (X : ℕ → Bool) where
  -- of none of them anything is counted
  abbrev pub Unmet : (ℕ → ℕ) → Type 0
  Unmet count = (x : ℕ) → X x ≡ true → count x ≡ 0

  -- no field of the block is one of them
  abbrev pub NotIn : Option Made → Type 0
  NotIn None = Unit {0}
  NotIn (Some t) = Unmet (λ x. uses_atoms x t.atoms)

  -- the same blocks of all other variables, with none of them in any
  abbrev pub SameBlocks : (ℕ → Option Made) → (ℕ → Option Made) → Type 0
  SameBlocks τ t = (y : ℕ) → X y ≡ false → (τ y ≡ t y) × NotIn (τ y)

  -- bodies that are the same from arguments without them and from the same blocks
  abbrev pub SameBody : Option Inlined → Option Inlined → Type 0
  SameBody None None = Unit {0}
  SameBody (Some i) (Some j) = (i.params ≡ j.params) × ((atoms : List Atom) (τ t : ℕ → Option Made) → Unmet (λ x. uses_atoms x atoms) → SameBlocks τ t → i.code atoms τ ≡ j.code atoms t)
  SameBody None (Some j) = ⊥
  SameBody (Some i) None = ⊥

-- and those X in whose place they may have other atoms or bodies, among which the former are
module _ (X Y : ℕ → Bool) where
  -- the same atoms in place of all other variables, none of which has another block
  abbrev pub SamePlaces : (ℕ → Atom) → (ℕ → Atom) → Type 0
  SamePlaces σ ς = (y : ℕ) → X y ≡ false → (σ y ≡ ς y) × Unmet Y (λ x. uses_atom x (σ y))

  pub record Apart (K L : Known) : Type 0 where
    pub places : SamePlaces K.σ L.σ
    pub blocks : SameBlocks Y K.τ L.τ
    pub bodies : (f : ℕ) → X f ≡ false → SameBody Y (K.ι f) (L.ι f)

abbrev pub UnusedIsNoMatter : Type 0
UnusedIsNoMatter = (texts : List (List ℕ)) (X Y : ℕ → Bool) (c : Code) (K L : Known) → ((y : ℕ) → Y y ≡ true → X y ≡ true) → Unmet X (λ x. uses x c) → Unmet X (λ x. weigh (of_name x) c) → Apart X Y K L → walk texts K c ≡ walk texts L c
