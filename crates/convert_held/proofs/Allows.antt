-- How many values the functions of terms may hold.
use Rattle.std.proofs.Common.{ℕ, suc, ◌+◌, Bool, true, false, List, [], ◌∷◌, Option, Some, None, length}
use Rattle.std.specs.Prelude.{slice_get}
use Rattle.std.specs.List.{AllByRecursion}
use Rattle.smlc_base.specs.declared.point.Point.{Point}
use Rattle.smlc_base.specs.declared.point.PointKind.TheVariants as kind
use Rattle.sml_tree.specs.Points.{point}
use Rattle.sml_tree.specs.declared.bare.RecBinding.{RecBinding}
use Rattle.lambda_ir.specs.declared.term.Bind.{Bind}
use Rattle.lambda_ir.specs.declared.term.Case.{Case}
use Rattle.lambda_ir.specs.declared.term.Part.{Part}
use Rattle.lambda_ir.specs.declared.term.Term.{Term}
use Rattle.lambda_ir.specs.declared.term.Term.TheVariants as term
use Rattle.lambda_ir.specs.Free.{free_cases, free_parts, free_behind, function_at}

-- May p n: a function of point p may hold n values. Allowed i n: what is done with the value of term i may read n variables.
module _ (May : Point → ℕ → Type 0) (Allowed : ℕ → ℕ → Type 0) (own : ℕ → Bool) (terms : List Term) (free : ℕ → List ℕ) where
  -- a part of a term whose frame, with what is done behind it, reads n variables
  abbrev pub Awaited : Bool → ℕ → ℕ → Type 0
  Awaited true j n = May (point j kind.Ret) n × Allowed j 1
  Awaited false j n = Allowed j n

  abbrev pub Awaits : ℕ → ℕ → Type 0
  Awaits j n = Awaited (own j) j n

  -- the parts of a tuple that are left, behind k others
  abbrev pub PartsAllow : ℕ → List Part → ℕ → Type 0
  PartsAllow k [] r = Unit {0}
  PartsAllow k (q ∷ later) r = Awaits q.node (k + length (free_parts free later) + r) × PartsAllow (suc k) later r

  abbrev pub CasesAllow : List Case → ℕ → Type 0
  CasesAllow cases r = AllByRecursion (λ c. Allowed c.body r) cases

  abbrev pub FunctionAllows : ℕ → List Case → Type 0
  FunctionAllows i cases = May (point i kind.Fn) (length (free_cases free cases)) × CasesAllow cases 1

  abbrev pub BindsAllow : List Bind → ℕ → ℕ → Type 0
  BindsAllow [] body r = Allowed body r
  BindsAllow (b ∷ later) body r = Awaits b.right (length (free_behind free b later body) + r) × BindsAllow later body r

  abbrev pub OneAllows : Option (ℕ × List Case) → Type 0
  OneAllows None = Unit {0}
  OneAllows (Some c) = FunctionAllows c.0 c.1

  abbrev pub GroupAllows : List RecBinding → Type 0
  GroupAllows bindings = AllByRecursion (λ b. OneAllows (function_at terms b.right)) bindings

  abbrev pub DeclaredAllows : Option Term → ℕ → ℕ → Type 0
  DeclaredAllows (Some (term.Binds binds)) body r = BindsAllow binds body r
  DeclaredAllows (Some (term.Group bindings)) body r = GroupAllows bindings × Allowed body r
  DeclaredAllows _ body r = Allowed body r

  -- the parts of a term, where what is done with its value reads r variables
  abbrev pub Allows : ℕ → Term → ℕ → Type 0
  Allows i (term.Tuple parts) r = PartsAllow 0 parts r
  Allows i (term.App f a) r = Awaits f (length (free a) + r) × Awaits a (1 + r)
  Allows i (term.Match e cases) r = Awaits e (length (free_cases free cases) + r) × CasesAllow cases r
  Allows i (term.Fn cases) r = FunctionAllows i cases
  Allows i (term.Raise e) r = Awaits e 0
  Allows i (term.Handle e cases) r =
      May (point i kind.Caught) (length (free_cases free cases) + (1 + r)) × May (point i kind.Popped) 2 × Allowed e 1 × CasesAllow cases r
  Allows i (term.Same e) r = Allowed e r
  Allows i (term.Let d body) r = DeclaredAllows (slice_get terms d) body r
  Allows i _ r = Unit {0}
