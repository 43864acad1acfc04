-- A body by number is what the definition makes of it.
use Rattle.std.proofs.Common.{◌≡◌, ℕ, List, [], ◌∷◌, ◌++◌, refl, sym, ap, ◌∙◌}
use Rattle.std.specs.List.{AllByRecursion}
use Rattle.cps_ir.specs.Code as cps
use Rattle.cps_ir.specs.Program as opening
use Rattle.cps_ir.specs.declared.body.Bind.{Bind as Open}
use Rattle.cps_ir.specs.declared.body.Bind.TheVariants as given
use Rattle.closure_ir.specs.Code as closed
use Rattle.closure_ir.specs.Program as closing
use Rattle.closure_ir.specs.declared.body.Maker.{Maker}
use Rattle.closure_ir.specs.declared.body.Bind.{Bind}
use Rattle.close_laws.specs.Lower as laws
use Rattle.close_laws.specs.Lower.{Design, lower}
use Rattle.close_steps.specs.declared.decisions.Decisions.{Decisions}
use Rattle.close_steps.specs.Visible.{Have, Visible, places_in, hand_in}
use Rattle.close_steps.proofs.Lowering.{ends_lower}
use Rattle.close_groups.specs.Group.{makers_in}
use Rattle.close_groups.proofs.Lowering.{groups_lower}
use Rattle.close_bodies.specs.Bodies.{group_bind, bind_lowered, seen_behind, binds_lowered, seen_at_end, IsBound, BodiesAreLowered}

join_binds : (bs cs : List Bind) (c : closed.Code) → closing.code_of_binds (bs ++ cs) c ≡ closing.code_of_binds bs (closing.code_of_binds cs c)
join_binds [] cs c = refl
join_binds (b ∷ bs) cs c = ap (closing.code_of_bind b) (join_binds bs cs c)

module _ (S : Design) (d : Decisions) (have : Have S d) (part : ℕ → cps.Code) where
  group_made : (ms : List Maker) (c : closed.Code) → closing.code_of_binds (group_bind ms) c ≡ laws.made S ms c
  group_made [] c = refl
  group_made (m ∷ ms) c = refl

  bind_lower : (v : Visible) (b : Open) (c : cps.Code) → IsBound S b → closing.code_of_binds (bind_lowered d v b) (lower S (places_in d (seen_behind d v b)) (hand_in (seen_behind d v b)) c) ≡ lower S (places_in d v) (hand_in v) (opening.code_of_bind part b c)
  bind_lower v (given.Make x kind atoms) c h = refl
  bind_lower v (given.Pick x i a) c h = refl
  bind_lower v (given.Prim x f atoms) c h = refl
  bind_lower v (given.Fix fs) c h = group_made (makers_in d v fs) _ ∙ sym (groups_lower S d have v part fs c h)
  bind_lower v (given.Handler x) c h = refl
  bind_lower v (given.SetHandler a) c h = refl

  binds_lower : (v : Visible) (bs : List Open) (c : cps.Code) → AllByRecursion (IsBound S) bs → closing.code_of_binds (binds_lowered d v bs) (lower S (places_in d (seen_at_end d v bs)) (hand_in (seen_at_end d v bs)) c) ≡ lower S (places_in d v) (hand_in v) (opening.code_of_binds part bs c)
  binds_lower v [] c h = refl
  binds_lower v (b ∷ bs) c h =
      join_binds (bind_lowered d v b) (binds_lowered d (seen_behind d v b) bs) _
      ∙ ap (closing.code_of_binds (bind_lowered d v b)) (binds_lower (seen_behind d v b) bs c h.1)
      ∙ bind_lower v b (opening.code_of_binds part bs c) h.0

pub bodies_lower : BodiesAreLowered
bodies_lower S d have v part made b bound parts =
    ap (closing.code_of_binds (binds_lowered d v b.binds)) (ends_lower S d have (places_in d (seen_at_end d v b.binds)) (hand_in (seen_at_end d v b.binds)) part made b.end parts)
    ∙ binds_lower S d have part v b.binds (opening.code_of_end part b.end) bound
