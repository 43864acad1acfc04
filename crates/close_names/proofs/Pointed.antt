-- Each function of a body by number is found at its point.
use Rattle.std.proofs.Common.{◌≡◌, ℕ, suc, Bool, true, false, cond, List, [], ◌∷◌, Some, inl, inr, ◌⊎◌, ⊎_elim, refl, sym, ap, ◌∙◌, subst, arith}
use Rattle.std.specs.List.{AllByRecursion}
use Rattle.smlc_base.specs.declared.point.Point.{Point}
use Rattle.smlc_base.specs.Points.{is_point}
use Rattle.simulation.specs.Blocks.{IsAmong}
use Rattle.simulation.proofs.Lists.{among_left, among_right}
use Rattle.simulation.proofs.Nth.{point_is_one}
use Rattle.cps_ir.specs.declared.body.Function.{Function as Entry}
use Rattle.cps_ir.specs.declared.body.Bind.{Bind}
use Rattle.cps_ir.specs.declared.body.Bind.TheVariants as bind
use Rattle.cps_ir.specs.Code.{Code}
use Rattle.cps_ir.specs.Program.{functions_of, code_of_end, code_of_bind, code_of_binds, code_at}
use Rattle.cps_ir.specs.Slim.{Layout, layouts, layouts_functions}
use Rattle.cps_free.proofs.Unfold.{code_unfold}
use Rattle.closure_layouts.specs.Found.{PointedOnce}
use Rattle.close_laws.specs.Layouts.{facts, layout_at, name_at, name_in}
use Rattle.close_names.specs.Names.{FunctionsAreAt}
use Rattle.close_names.proofs.Standing.{behind_in, stands, some_within}

at_point : (ls : List Layout) → PointedOnce ls → (l : Layout) → IsAmong l ls → layout_at ls l.point ≡ Some l
at_point [] once l m = absurd m
at_point (k ∷ ls) once l m = by (is_point k.point l.point) refl (⊎_elim (λ (e : l ≡ k). inl e) (λ (i : IsAmong l ls). inr (i, at_point ls (λ a b u v. once a b (inr u) (inr v)) l i)) m)
  where
    by : (w : Bool) → is_point k.point l.point ≡ w → (l ≡ k) ⊎ (IsAmong l ls × (layout_at ls l.point ≡ Some l)) → cond w (Some k) (layout_at ls l.point) ≡ Some l
    by true e h = ap Some (once k l (inl refl) m e)
    by false e (inl same) = absurd (let z : true ≡ false = sym (subst (λ (j : Layout). is_point j.point l.point ≡ true) same (point_is_one l.point)) ∙ e in cc)
    by false e (inr h) = h.1

module _ (part : ℕ → Code) where
  group_in : (bs : List Bind) (c : Code) (fs : List Entry) → IsAmong (bind.Fix fs) bs → (l : Layout) → IsAmong l (layouts_functions (functions_of part fs)) → IsAmong l (layouts (code_of_binds part bs c))
  group_in [] c fs m l h = absurd m
  group_in (b ∷ bs) c fs (inl e) l h =
      subst (λ d. IsAmong l (layouts (code_of_bind part d (code_of_binds part bs c)))) e
      (among_left l (layouts_functions (functions_of part fs)) (layouts (code_of_binds part bs c)) h)
  group_in (b ∷ bs) c fs (inr m) l h = behind_in part b (code_of_binds part bs c) l (group_in bs c fs m l h)

  each : (name : Point → ℕ) (fs : List Entry) → ((l : Layout) → IsAmong l (layouts_functions (functions_of part fs)) → name l.point ≡ l.name) → AllByRecursion (λ f. name f.point ≡ f.name) fs
  each name [] h = tt
  each name (f ∷ fs) h =
      let mine = layouts (part f.body) in
      let rest = layouts_functions (functions_of part fs) in
      (h _ (inl refl), each name fs (λ l m. h l (inr (among_right l mine rest m))))

pub pointed : FunctionsAreAt
pointed q kept once i b e fs m =
    each (code_at q.bodies) (name_at (facts q.variables (code_at q.bodies 0))) fs
    (λ l h. ap name_in (at_point (layouts (code_at q.bodies 0)) once l
    (stands q kept (suc i) i (omega arith) (some_within q.bodies i b e) l
    (subst (λ c. IsAmong l (layouts c)) (sym (code_unfold q.bodies kept.numbered i b e))
    (group_in (code_at q.bodies) b.binds (code_of_end (code_at q.bodies) b.end) fs m l h)))))
