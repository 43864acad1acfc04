-- How often a point stands in a body, and how often conversion makes it of a term at most.
use Rattle.std.specs.Prelude.{◌≡◌, ℕ, ◌+◌, ◌≤◌, cond, List, [], ◌∷◌, Option, Some, slice_get}
use Rattle.smlc_base.specs.declared.point.Point.{Point}
use Rattle.smlc_base.specs.declared.point.PointKind.TheVariants as kind
use Rattle.smlc_base.specs.Points.{is_point}
use Rattle.sml_tree.specs.Points.{point}
use Rattle.sml_tree.specs.declared.bare.RecBinding.{RecBinding}
use Rattle.lambda_ir.specs.declared.term.Bind.{Bind}
use Rattle.lambda_ir.specs.declared.term.Case.{Case}
use Rattle.lambda_ir.specs.declared.term.Part.{Part}
use Rattle.lambda_ir.specs.declared.term.Term.{Term}
use Rattle.lambda_ir.specs.declared.term.Term.TheVariants as term
use Rattle.cps_ir.specs.Code.{Code, Make, Pick, Prim, Equal, Fix, Call, Match, Handler, SetHandler, Throw, Halt, Functions, NoFunction, Function, Rules, Otherwise, Rule}

module _ (p : Point) where
  abbrev pub one : Point → ℕ
  one q = cond (is_point q p) 1 0

  -- how many functions of a body have the point
  abbrev mutual
    pub count : Code → ℕ
    count (Make x shape atoms c) = count c
    count (Pick x i a c) = count c
    count (Prim x f atoms c) = count c
    count (Equal a b truth k) = 0
    count (Fix fs c) = count_functions fs + count c
    count (Call a atoms) = 0
    count (Match a rules) = count_rules rules
    count (Handler x c) = count c
    count (SetHandler a c) = count c
    count (Throw a) = 0
    count Halt = 0

    pub count_functions : Functions → ℕ
    count_functions NoFunction = 0
    count_functions (Function f q params body fs) = one q + (count body + count_functions fs)

    pub count_rules : Rules → ℕ
    count_rules (Otherwise c) = count c
    count_rules (Rule tests c rules) = count c + count_rules rules

  module _ (paid : ℕ → ℕ) where
    -- a part under its frame
    abbrev pub awaited : ℕ → ℕ
    awaited j = one (point j kind.Ret) + paid j

    abbrev pub in_parts : List Part → ℕ
    in_parts [] = 0
    in_parts (q ∷ parts) = awaited q.node + in_parts parts

    abbrev pub in_cases : List Case → ℕ
    in_cases [] = 0
    in_cases (c ∷ cases) = paid c.body + in_cases cases

    abbrev pub in_binds : List Bind → ℕ
    in_binds [] = 0
    in_binds (b ∷ binds) = awaited b.right + in_binds binds

    abbrev pub in_group : List RecBinding → ℕ
    in_group [] = 0
    in_group (b ∷ bindings) = paid b.right + in_group bindings

    abbrev pub in_declared : Option Term → ℕ
    in_declared (Some (term.Binds binds)) = in_binds binds
    in_declared (Some (term.Group bindings)) = in_group bindings
    in_declared _ = 0

    -- term i, where each of its parts makes the point so often
    abbrev pub in_term : List Term → ℕ → Term → ℕ
    in_term terms i (term.Tuple parts) = in_parts parts
    in_term terms i (term.App f a) = awaited f + awaited a
    in_term terms i (term.Match e cases) = awaited e + in_cases cases
    in_term terms i (term.Fn cases) = one (point i kind.Fn) + in_cases cases
    in_term terms i (term.Raise e) = awaited e
    in_term terms i (term.Handle e cases) =
        one (point i kind.Caught) + (one (point i kind.Popped) + (paid e + in_cases cases))
    in_term terms i (term.Same e) = paid e
    in_term terms i (term.Let d body) = in_declared (slice_get terms d) + paid body
    in_term terms i _ = 0

    -- each term's points are paid for
    abbrev pub ArePaid : List Term → Type 0
    ArePaid terms = (i : ℕ) (t : Term) → slice_get terms i ≡ Some t → in_term terms i t ≤ paid i
