-- What is so of each state of a typed program, as far as the step from patterns to tests asks for it.
use Rattle.std.specs.Prelude.{◌≡◌, ℕ, true, List, Option, Some, slice_get}
use Rattle.std.specs.List.{AllByRecursion}
use Rattle.sml_tree.specs.declared.bare.Bare.{Bare}
use Rattle.sml_tree.specs.declared.bare.Rule.{Rule}
use Rattle.sml_tree.specs.declared.bare.Field.{Field}
use Rattle.sml_tree.specs.declared.bare.Binding.{Binding}
use Rattle.sml_tree.specs.IsBare.{IsOf, Expression, Pattern}
use Rattle.sml_def.specs.State.{Value, At, Env, Awaits, FieldPart, Subject, RightSide, Guarded, Block, Closure, Frame, Control, Ret, Apply, Raise}
use Rattle.match_laws.specs.Shape.{shaped}

module _ (p : Bare) where
  abbrev pub IsExpression : ℕ → Type 0
  IsExpression i = IsOf p.nodes Expression i

  abbrev pub AreFields : List Field → Type 0
  AreFields fields = AllByRecursion (λ f. IsExpression f.node) fields

  abbrev pub AreBindings : List Binding → Type 0
  AreBindings bindings = AllByRecursion (λ b. IsOf p.nodes Pattern b.pat × IsExpression b.right) bindings

  module _ (store : List Block) where
    -- the value has the shape of each pattern
    abbrev pub RulesReady : Env → List Rule → Value → Type 0
    RulesReady env rules v = AllByRecursion (λ r. (shaped p env store r.pat v ≡ true) × IsExpression r.body) rules

    abbrev pub WaitsReady : Awaits → Value → Type 0
    WaitsReady (FieldPart e fields before later env) v = AreFields later
    WaitsReady (Subject e rules env) v = RulesReady env rules v
    WaitsReady (RightSide b later body env) v = (shaped p env store b.pat v ≡ true) × AreBindings later × IsExpression body
    WaitsReady _ v = Unit {0}

    abbrev pub ReturnReady : Option Block → Value → Type 0
    ReturnReady (Some (Frame w next)) v = WaitsReady w v
    ReturnReady _ v = Unit {0}

    abbrev pub EnterReady : Option Block → Value → Type 0
    EnterReady (Some (Closure i rules env)) v = RulesReady env rules v
    EnterReady _ v = Unit {0}

    abbrev pub RaiseReady : Option Block → Value → Type 0
    RaiseReady (Some (Frame (Guarded i rules env) next)) v = RulesReady env rules v
    RaiseReady _ v = Unit {0}

    abbrev pub ControlReady : Control → Type 0
    ControlReady (Ret v (Some a)) = ReturnReady (slice_get store a) v
    ControlReady (Apply (At a) v k) = EnterReady (slice_get store a) v
    ControlReady (Raise x (Some a)) = RaiseReady (slice_get store a) x
    ControlReady _ = Unit {0}
