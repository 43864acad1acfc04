-- The whole program.
use Rattle.std.proofs.Common.{◌≡◌, ℕ, ◌+◌, ◌≤◌, ◌<◌, Bool, false, List, Some, length, flat_map, sym, ap, ◌∙◌, subst, arith, slice_get}
use Rattle.std.proofs.Math.Path.{fun_ext}
use Rattle.std.specs.List.{AllByRecursion}
use Rattle.sml_tree.specs.IsBare.{IsDistinct}
use Rattle.smlc_base.specs.declared.point.Site.{Site}
use Rattle.lambda_ir.specs.declared.term.Term.{Term}
use Rattle.lambda_ir.specs.Program.{Lambda}
use Rattle.lambda_ir.specs.Kept as lambda
use Rattle.cps_ir.specs.declared.atom.Constant.TheVariants as constant
use Rattle.cps_ir.specs.declared.body.Body.{Body}
use Rattle.cps_ir.specs.Code.{Halt}
use Rattle.cps_ir.specs.Free.{free_code, bound}
use Rattle.cps_ir.specs.Kept.{body_parts, BodyKept, IsProgram}
use Rattle.cps_ir.specs.Program.{Cps, code_at, tree_of}
use Rattle.cps_free.proofs.Unfold.{AreNumbered, code_unfold}
use Rattle.convert_laws.specs.Convert.{Known, Text, known, nowhere, convert, size_at}
use Rattle.convert_laws.specs.Decide.{own_by_16}
use Rattle.convert_laws.specs.Needs.{needs}
use Rattle.convert_laws.specs.Program.{cps_of}
use Rattle.convert_laws.proofs.Fits.{rule_of_16_fits}
use Rattle.convert_laws.proofs.Once.{conversion_binds_once}
use Rattle.convert_kept.specs.Ranges.{CodeKept}
use Rattle.convert_kept.proofs.Closed.{conversion_is_closed}
use Rattle.convert_kept.proofs.Kept.{conversion_keeps_ranges}
use Rattle.convert_scopes.specs.Scopes.{empty}
use Rattle.convert_steps.specs.declared.world.World.{World}
use Rattle.convert_steps.specs.Codes.{called, text}
use Rattle.convert_steps.specs.Writes.{Stands}
use Rattle.convert_bodies.specs.Bodies.{AreWritten}
use Rattle.cps_convert.specs.Made.{last_frame, first_task, IsBeginning, AreBodiesOf, AreMade}
use Rattle.cps_convert.proofs.Numbers.{from_length, from_once, by_index}
use Rattle.cps_convert.proofs.Made.{HaveTrees, counted, codes, all_kept}

module _ (own : ℕ → Bool) (terms : List Term) where
  begins : (w : World) → IsBeginning w → Stands own terms w 0 first_task.continuation nowhere (Text (λ a n. Halt))
  begins w b = record {
    in_scope = empty;
    before = text 0 last_frame nowhere (Known (known constant.Nothing)) (ap (λ fs. slice_get fs 0) b.frames) empty (called (known constant.Nothing));
  }

  begun_at : (w : World) → IsBeginning w → slice_get w.tasks 0 ≡ Some first_task
  begun_at w b = ap (λ ts. slice_get ts 0) b.tasks

  many : (w u : World) (bodies : List Body) → IsBeginning w → AreWritten own terms w 0 bodies u → length u.tasks ≤ length bodies → length u.tasks ≡ length bodies
  many w u bodies b written all =
      let one : length w.tasks ≡ 1 = ap length b.tasks in
      let k = (counted own terms w u 0 bodies written).enough (omega arith) in
      omega arith

  numbered : (w u : World) (bodies : List Body) → IsBeginning w → AreWritten own terms w 0 bodies u → length u.tasks ≤ length bodies → AreNumbered bodies
  numbered w u bodies b written all = λ i c e.
      subst (λ n. AllByRecursion (λ d. (i < d) × (d < n)) (body_parts c)) (many w u bodies b written all)
      (subst (λ j. AllByRecursion (λ d. (j < d) × (d < length u.tasks)) (body_parts c)) (let z : 0 + i ≡ i = omega arith in z) ((counted own terms w u 0 bodies written).each i c e))

  trees : (w u : World) (bodies : List Body) → IsBeginning w → AreWritten own terms w 0 bodies u → length u.tasks ≤ length bodies → HaveTrees (code_at bodies) 0 bodies
  trees w u bodies b written all = λ i c e.
      ap (code_at bodies) (let z : 0 + i ≡ i = omega arith in z) ∙ code_unfold bodies (numbered w u bodies b written all) i c e

  pub bodies_of : (sites : List Site) (w u : World) (bodies : List Body) → ((j : ℕ) → own j ≡ own_by_16 terms sites j) → IsBeginning w → AreWritten own terms w 0 bodies u → length u.tasks ≤ length bodies → AreBodiesOf terms sites bodies
  bodies_of sites w u bodies decided b written all =
      let c = counted own terms w u 0 bodies written in
      let one : length w.tasks ≡ 1 = ap length b.tasks in
      let t = trees w u bodies b written all in
      record {
        numbered = numbered w u bodies b written all;
        apart = from_once (length w.tasks) (length u.tasks) (flat_map body_parts bodies) c.all;
        one_tree = let l = from_length (length w.tasks) (length u.tasks) (flat_map body_parts bodies) c.all in let m = many w u bodies b written all in omega arith;
        tree =
            codes own terms w u 0 bodies written (code_at bodies) t (omega arith) 0 first_task (omega arith) (begun_at w b) nowhere (Text (λ a n. Halt)) (begins w b)
            ∙ ap (λ (o : ℕ → Bool). convert o terms) (fun_ext decided);
        kept =
            λ q k.
            by_index (BodyKept q) bodies
            (all_kept q (code_at bodies) own terms w u 0 bodies written t
            (λ d l below. subst (λ n. CodeKept q (code_at bodies n)) (let z : 0 ≡ d = omega arith in z) k));
      }

-- ---- What the program keeps

module _ (l : Lambda) (p : lambda.IsProgram l) (whole : needs l.terms 0 ≡ false) (q : Cps) (made : AreMade l.terms l.sites q.bodies q.variables) (sites : q.sites ≡ l.sites) (texts : q.texts ≡ l.texts) (exns : q.exns ≡ l.exns) where
  is : code_at q.bodies 0 ≡ (cps_of l).code
  is = made.bodies_are.tree

  pub is_program : IsProgram q
  is_program =
      let own = own_by_16 l.terms l.sites in
      let once = conversion_binds_once l p (needs l.terms) own (rule_of_16_fits l p whole) in
      record {
        numbered = made.bodies_are.numbered;
        apart = made.bodies_are.apart;
        one_tree = made.bodies_are.one_tree;
        closed = ap free_code is ∙ conversion_is_closed l p own;
        once = subst (λ c. IsDistinct (bound c)) (sym is) once.once;
        below = subst (λ n. AllByRecursion (λ x. x < n) (bound (code_at q.bodies 0))) (sym made.variables_are) (subst (λ c. AllByRecursion (λ x. x < size_at l.terms 0) (bound c)) (sym is) once.below);
        kept = made.bodies_are.kept q (subst (CodeKept q) (sym is) (conversion_keeps_ranges l p own q texts exns));
      }

  pub is_converted : tree_of q ≡ cps_of l
  is_converted =
      ap (λ c. record { code = c; sites = q.sites; texts = q.texts; exns = q.exns }) is
      ∙ ap (λ s. record { code = (cps_of l).code; sites = s; texts = q.texts; exns = q.exns }) sites
      ∙ ap (λ t. record { code = (cps_of l).code; sites = l.sites; texts = t; exns = q.exns }) texts
      ∙ ap (λ e. record { code = (cps_of l).code; sites = l.sites; texts = l.texts; exns = e }) exns
