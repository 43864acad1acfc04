-- The steps at forms, from what is known of each part of the state.
use Rattle.std.proofs.Common.{◌≡◌, ℕ, Bool, true, false, cond, List, [], ◌∷◌, ◌++◌, Option, Some, None, length, refl, sym, ap, ◌∙◌, subst, nat_eq}
use Rattle.std.specs.Prelude.{get_or, slice_set}
use Rattle.smlc_base.specs.declared.primitive.Primitive.{Primitive}
use Rattle.cps_ir.specs.declared.atom.Atom.{Atom}
use Rattle.cps_ir.specs.declared.atom.Atom.TheVariants as atom
use Rattle.cps_ir.specs.declared.atom.Shape.{Shape}
use Rattle.cps_ir.specs.declared.body.Bind.{Bind}
use Rattle.cps_ir.specs.declared.body.End.{End}
use Rattle.cps_ir.specs.declared.body.End.TheVariants as end
use Rattle.cps_ir.specs.Code.{Equal, Throw}
use Rattle.contract_round.specs.Round.{atoms_in}
use Rattle.contract_census.specs.declared.counts.Count.{Count}
use Rattle.contract_known.specs.Known.{place_of}
use Rattle.contract_binds.specs.Binds.{make_left, make_blocks, prim_left}
use Rattle.contract_ends.specs.Ends.{IsEndLeft, IsCallLeft}
use Rattle.contract_group.specs.declared.task.Placed.{Placed}
use Rattle.contract_group.specs.declared.task.Task.{Task}
use Rattle.contract_group.specs.Bodies.{with_end}
use Rattle.contract_steps.specs.State.{State}
use Rattle.contract_steps.specs.Steps.{put_left, with_bodies, step_make, step_prim, has_params, placed_for, without_placed, put_arguments, go_on, place_call, CallBy, CallStep, EndStep}

pub same_state : (n m : State) → n.places ≡ m.places → n.blocks ≡ m.blocks → n.placed ≡ m.placed → n.bodies ≡ m.bodies → n.work ≡ m.work → n ≡ m
same_state n m a b c d e =
    ap (λ x. record { places = x; blocks = n.blocks; placed = n.placed; bodies = n.bodies; work = n.work }) a
    ∙ ap (λ x. record { places = m.places; blocks = x; placed = n.placed; bodies = n.bodies; work = n.work }) b
    ∙ ap (λ x. record { places = m.places; blocks = m.blocks; placed = x; bodies = n.bodies; work = n.work }) c
    ∙ ap (λ x. record { places = m.places; blocks = m.blocks; placed = m.placed; bodies = x; work = n.work }) d
    ∙ ap (λ x. record { places = m.places; blocks = m.blocks; placed = m.placed; bodies = m.bodies; work = x }) e

module _ (counts : List Count) (t : Task) (s n : State) (view : List Atom) (v : view ≡ s.places) where
  pub make_is : (x : ℕ) (shape : Shape) (atoms : List Atom) (left : Option Bind) → left ≡ make_left counts view x shape atoms → n.places ≡ s.places → n.blocks ≡ make_blocks counts t.root view x shape atoms s.blocks → n.placed ≡ s.placed → n.bodies ≡ put_left t.slot left s.bodies → n.work ≡ s.work → n ≡ step_make counts t x shape atoms s
  make_is x shape atoms left l places blocks placed bodies work =
      same_state n (step_make counts t x shape atoms s) places
      (blocks ∙ ap (λ w. make_blocks counts t.root w x shape atoms s.blocks) v)
      placed
      (bodies ∙ ap (λ o. put_left t.slot o s.bodies) (l ∙ ap (λ w. make_left counts w x shape atoms) v))
      work

  pub prim_is : (x : ℕ) (f : Primitive) (atoms : List Atom) (left : Option Bind) → left ≡ prim_left counts view x f atoms → n.places ≡ s.places → n.blocks ≡ s.blocks → n.placed ≡ s.placed → n.bodies ≡ put_left t.slot left s.bodies → n.work ≡ s.work → n ≡ step_prim counts t x f atoms s
  prim_is x f atoms left l places blocks placed bodies work =
      same_state n (step_prim counts t x f atoms s) places blocks placed
      (bodies ∙ ap (λ o. put_left t.slot o s.bodies) (l ∙ ap (λ w. prim_left counts w x f atoms) v))
      work

module _ (t : Task) (s : State) where
  pub call_placed : (a : Atom) (atoms us : List Atom) (p : Placed) (o : Option Placed) (view : List Atom) (xs : List ℕ) (n : State) → o ≡ placed_for s.placed a (length atoms) → o ≡ Some p → view ≡ s.places → us ≡ atoms_in (place_of view) atoms → xs ≡ p.params → n.places ≡ put_arguments xs us s.places → n.blocks ≡ s.blocks → n.placed ≡ without_placed a (length atoms) s.placed → n.bodies ≡ s.bodies → n.work ≡ s.work ++ go_on t p.body ∷ [] → CallStep t a atoms s n
  call_placed a atoms us p o view xs n found some v u x places blocks placed bodies work =
      subst (λ q. CallBy t q a atoms s n) (sym some ∙ found)
      (same_state n (place_call t p a atoms s) (places ∙ ap (λ ys. put_arguments ys us s.places) x ∙ ap (λ vs. put_arguments p.params vs s.places) (u ∙ ap (λ w. atoms_in (place_of w) atoms) v)) blocks placed bodies work)

  not_taken : (a : Atom) (n : ℕ) (placed : List (Option Placed)) → placed_for placed a n ≡ None → without_placed a n placed ≡ placed
  not_taken (atom.Constant k) n placed e = refl
  not_taken (atom.Var f) n placed e = by (get_or placed f None) e
    where
      by : (o : Option Placed) → cond (has_params n o) o None ≡ None → cond (has_params n o) (slice_set placed f None) placed ≡ placed
      by None h = refl
      by (Some p) h = if (nat_eq (length p.params) n) h
        where
          if : (b : Bool) → cond b (Some p) None ≡ None → cond b (slice_set placed f None) placed ≡ placed
          if true h = absurd (cc)
          if false h = refl

  pub call_stays : (a : Atom) (atoms : List Atom) (o : Option Placed) (view : List Atom) (e : End) (n : State) → o ≡ placed_for s.placed a (length atoms) → o ≡ None → view ≡ s.places → IsCallLeft (place_of view) a atoms e → n.places ≡ s.places → n.blocks ≡ s.blocks → n.placed ≡ without_placed a (length atoms) s.placed → n.bodies ≡ with_end t.slot e s.bodies → n.work ≡ s.work → CallStep t a atoms s n
  call_stays a atoms o view e n found none v left places blocks placed bodies work =
      subst (λ q. CallBy t q a atoms s n) (sym none ∙ found)
      (e, subst (λ w. IsCallLeft (place_of w) a atoms e) v left, same_state n (with_bodies s (with_end t.slot e s.bodies)) places blocks (placed ∙ not_taken a (length atoms) s.placed (sym found ∙ none)) bodies work)

  module _ (texts : List (List ℕ)) (n : State) (view : List Atom) (v : view ≡ s.places) (r e : End) (ended : n ≡ with_bodies s (with_end t.slot e s.bodies)) where
    pub equal_step : (a b : Atom) (truth : Bool) (k : Atom) → r ≡ end.Equal a b truth k → IsEndLeft (place_of view) (Equal a b truth k) e → EndStep texts t r s n
    equal_step a b truth k is left = subst (λ d. EndStep texts t d s n) (sym is) (e, subst (λ w. IsEndLeft (place_of w) (Equal a b truth k) e) v left, ended)

    pub throw_step : (a : Atom) → r ≡ end.Throw a → IsEndLeft (place_of view) (Throw a) e → EndStep texts t r s n
    throw_step a is left = subst (λ d. EndStep texts t d s n) (sym is) (e, subst (λ w. IsEndLeft (place_of w) (Throw a) e) v left, ended)
