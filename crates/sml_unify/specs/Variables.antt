-- The variables that stand in a type.
use Rattle.std.specs.Prelude.{◌≡◌, false, ◌⊎◌, List, [], ◌∷◌}
use Rattle.std.specs.List.{AllByRecursion}
use Rattle.sml_types.specs.declared.types.TyVar.{TyVar}
use Rattle.sml_types.specs.Tree.{Tree, Variable, App, NoParts, Part, AllVars}
use Rattle.sml_types.specs.Poly.{has_num}
use Rattle.sml_types.specs.Typing.{IsAmong}

-- a variable stands in a type
abbrev pub Stands : TyVar → Tree → Type 0
Stands v (Variable w) = v ≡ w
Stands v (App h ts) = Stands v ts
Stands v NoParts = ⊥
Stands v (Part t ts) = Stands v t ⊎ Stands v ts

-- no number comes twice
abbrev pub AreOnce : List TyVar → Type 0
AreOnce [] = Unit {0}
AreOnce (v ∷ vs) = (has_num vs v.num ≡ false) × AreOnce vs

-- the variables that stand in a type, each once
pub record AreVariables (vs : List TyVar) (t : Tree) : Type 0 where
  pub each : AllVars (λ v. IsAmong v vs) t
  pub stand : AllByRecursion (λ v. Stands v t) vs
  pub once : AreOnce vs
