-- What each pass may take of what the one before it answers.
use Rattle.std.proofs.Common.{◌≡◌, ℕ, ◌<◌, List, sym, ap, ◌∙◌, subst}
use Rattle.std.specs.List.{AllByRecursion}
use Rattle.sml_tree.specs.declared.bare.Bare.{Bare}
use Rattle.sml_tree.specs.IsBare.{IsBare}
use Rattle.sml_types.specs.declared.tables.TypeName.{TypeName}
use Rattle.cps_ir.specs.Code.{Tree}
use Rattle.cps_ir.specs.Free.{bound}
use Rattle.cps_ir.specs.Slim.{IsSlim}
use Rattle.cps_ir.specs.Program.{Cps, tree_of}
use Rattle.cps_ir.specs.Kept.{IsProgram}
use Rattle.closure_ir.specs.Code as closed
use Rattle.close_laws.specs.declared.plan.Plan.{Plan}
use Rattle.close_laws.specs.Close.{close}
use Rattle.close_laws.specs.Plan.{plan}
use Rattle.close_laws.specs.Text.{plan_text}
use Rattle.placed_ir.specs.Program as placing
use Rattle.place_laws.specs.Place.{place_program}
use Rattle.convert_slim.specs.Law.{MiddleIsSlim}
use Rattle.sml_middle.specs.Middle.{middle_of}
use Rattle.sml_pipeline.specs.Passes.{IsAbove, IsPlaced, IsPlanText}

module _ (ts : List TypeName) (p : Bare) (q : Cps) (is : tree_of q ≡ middle_of ts p) where
  pub slim : MiddleIsSlim → IsBare p → IsSlim (tree_of q)
  slim law bare = subst IsSlim (sym is) (law ts p bare)

  pub above : IsProgram q → IsAbove (middle_of ts p) q.variables
  above kept = subst (λ (t : Tree). AllByRecursion (λ x. x < q.variables) (bound t.code)) is kept.below

  pub becomes : IsProgram q → (c : closed.Tree) (placed : placing.Placed) (found made : Plan) → c ≡ close q.variables (tree_of q) → placing.tree_of placed ≡ place_program c → found ≡ plan q.variables (tree_of q) →
      made ≡ record found { spill = placed.spill } → IsPlaced ts p placed made
  becomes kept c placed found made e f g h = record {
    fresh = q.variables;
    above = above kept;
    tree = f ∙ ap place_program e ∙ ap (λ (t : Tree). place_program (close q.variables t)) is;
    plan = h ∙ ap (λ (m : Plan). record m { spill = placed.spill }) g ∙ ap (λ (t : Tree). record (plan q.variables t) { spill = placed.spill }) is;
  }
