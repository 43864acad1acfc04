-- What a program keeps.
use Rattle.std.specs.Prelude.{◌≡◌, ℕ, suc, ◌<◌, ◌^◌, List, [], ◌∷◌, ◌++◌, Some, length, map, flat_map, slice_get}
use Rattle.std.specs.List.{AllByRecursion}
use Rattle.sml_tree.specs.IsBare.{IsDistinct, IsInt}
use Rattle.cps_ir.specs.declared.atom.Constant.{Constant}
use Rattle.cps_ir.specs.declared.atom.Constant.TheVariants as constant
use Rattle.cps_ir.specs.declared.atom.Atom.{Atom}
use Rattle.cps_ir.specs.declared.atom.Atom.TheVariants as atom
use Rattle.cps_ir.specs.declared.atom.Shape.{Shape}
use Rattle.cps_ir.specs.declared.atom.Shape.TheVariants as shape
use Rattle.cps_ir.specs.declared.atom.Wanted.{Wanted}
use Rattle.cps_ir.specs.declared.atom.Wanted.TheVariants as want
use Rattle.cps_ir.specs.declared.atom.Test.{Test}
use Rattle.cps_ir.specs.declared.body.Bind.{Bind}
use Rattle.cps_ir.specs.declared.body.Bind.TheVariants as bind
use Rattle.cps_ir.specs.declared.body.End.{End}
use Rattle.cps_ir.specs.declared.body.End.TheVariants as end
use Rattle.cps_ir.specs.declared.body.Body.{Body}
use Rattle.cps_ir.specs.Program.{Cps, code_at}
use Rattle.cps_ir.specs.Free.{free_code, bound}

-- ---- The numbers of the bodies that stand in another, in order

abbrev pub bind_parts : Bind → List ℕ
bind_parts (bind.Fix fs) = map (λ f. f.body) fs
bind_parts _ = []

abbrev pub end_parts : End → List ℕ
end_parts (end.Match a rules otherwise) = map (λ r. r.body) rules ++ otherwise ∷ []
end_parts _ = []

abbrev pub body_parts : Body → List ℕ
body_parts b = flat_map bind_parts b.binds ++ end_parts b.end

-- ---- What is cited, and ranges

module _ (q : Cps) where
  abbrev pub ConstantKept : Constant → Type 0
  ConstantKept (constant.Int z) = IsInt z
  ConstantKept (constant.Char c) = c < 256
  ConstantKept (constant.Tag n) = n < 2 ^ 20
  ConstantKept (constant.Text t) = t < length q.texts
  ConstantKept _ = Unit {0}

  abbrev pub AtomKept : Atom → Type 0
  AtomKept (atom.Var x) = Unit {0}
  AtomKept (atom.Constant k) = ConstantKept k

  abbrev pub ShapeKept : Shape → Type 0
  ShapeKept (shape.Applied n) = n < 2 ^ 20
  ShapeKept (shape.ExnName x) = x < length q.exns
  ShapeKept _ = Unit {0}

  abbrev pub WantedKept : Wanted → Type 0
  WantedKept (want.Num z) = IsInt z
  WantedKept (want.Tag t) = t.number < 2 ^ 20
  WantedKept (want.Text t) = t < length q.texts
  WantedKept (want.Exn a applied) = AtomKept a

  abbrev pub AtomsKept : List Atom → Type 0
  AtomsKept atoms = AllByRecursion AtomKept atoms

  abbrev pub TestsKept : List Test → Type 0
  TestsKept tests = AllByRecursion (λ t. WantedKept t.want) tests

  abbrev pub BindKept : Bind → Type 0
  BindKept (bind.Make x s atoms) = ShapeKept s × AtomsKept atoms
  BindKept (bind.Pick x i a) = AtomKept a
  BindKept (bind.Prim x f atoms) = AtomsKept atoms
  BindKept (bind.SetHandler a) = AtomKept a
  BindKept _ = Unit {0}

  abbrev pub EndKept : End → Type 0
  EndKept (end.Equal a b truth k) = AtomsKept (a ∷ b ∷ k ∷ [])
  EndKept (end.Call a atoms) = AtomsKept (a ∷ atoms)
  EndKept (end.Match a rules otherwise) = AtomKept a × AllByRecursion (λ r. TestsKept r.tests) rules
  EndKept (end.Throw a) = AtomKept a
  EndKept end.Halt = Unit {0}

  abbrev pub BodyKept : Body → Type 0
  BodyKept b = AllByRecursion BindKept b.binds × EndKept b.end

pub record IsProgram (q : Cps) : Type 0 where
  -- each body but the first stands in exactly one other, of a smaller number
  pub numbered : (i : ℕ) (b : Body) → slice_get q.bodies i ≡ Some b → AllByRecursion (λ c. (i < c) × (c < length q.bodies)) (body_parts b)
  pub apart : IsDistinct (flat_map body_parts q.bodies)
  pub one_tree : suc (length (flat_map body_parts q.bodies)) ≡ length q.bodies
  -- no variable is free, none is bound twice, and all are below the bound
  pub closed : free_code (code_at q.bodies 0) ≡ []
  pub once : IsDistinct (bound (code_at q.bodies 0))
  pub below : AllByRecursion (λ x. x < q.variables) (bound (code_at q.bodies 0))
  -- constants in their ranges, and texts and names that stand there
  pub kept : AllByRecursion (BodyKept q) q.bodies
