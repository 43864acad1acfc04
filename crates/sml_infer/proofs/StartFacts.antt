-- What inference is before the first node.
use Rattle.std.proofs.Common.{◌≡◌, ◌++◌, ℕ, zero, suc, Option, Some, None, List, [], ◌∷◌, length, refl, sym, ap, subst, ◌∙◌}
use Rattle.std.specs.Prelude.{slice_get}
use Rattle.sml_tree.specs.declared.bare.Bare.{Bare}
use Rattle.sml_types.specs.Forms.{AreForms}
use Rattle.infer_state.specs.declared.unknowns.Unknowns.{Unknowns}
use Rattle.infer_state.specs.declared.settled.Settled.{Settled}
use Rattle.infer_state.specs.declared.declared.Declared.{Declared}
use Rattle.infer_state.specs.Fits.{joined_settled}
use Rattle.infer_tables.specs.Declare.{IsDeclared}
use Rattle.sml_infer.specs.declared.inference.Inference.{Inference}
use Rattle.sml_infer.specs.Going.{now, joined_number, IsGoing}
use Rattle.sml_infer.specs.Begun.{AreNone, IsBegun}
use Rattle.sml_infer.proofs.Starting.{start_going}

module _ {T : Type 0} where
  pub none_yet : (places : List (Option T)) → places ≡ [] → AreNone 0 places
  none_yet places e =
      record {
        many = ap (λ (xs : List (Option T)). length xs) e;
        none = λ i x q. let f : None ≡ Some (Some x) = subst (λ (xs : List (Option T)). slice_get xs i ≡ Some (Some x)) e q in cc;
      }

  length_more : (xs : List (Option T)) → length (xs ++ None ∷ []) ≡ suc (length xs)
  length_more [] = refl
  length_more (x ∷ xs) = ap suc (length_more xs)

  old_place : (xs : List (Option T)) (i : ℕ) (x : T) → slice_get (xs ++ None ∷ []) i ≡ Some (Some x) → slice_get xs i ≡ Some (Some x)
  old_place [] zero x q = absurd cc
  old_place [] (suc i) x q = absurd cc
  old_place (y ∷ xs) zero x q = q
  old_place (y ∷ xs) (suc i) x q = old_place xs i x q

  pub none_more : (count next : ℕ) (old new : List (Option T)) → next ≡ suc count → new ≡ old ++ None ∷ [] → AreNone count old → AreNone next new
  none_more count next old new n e h =
      record {
        many = ap (λ (xs : List (Option T)). length xs) e ∙ length_more old ∙ ap suc h.many ∙ sym n;
        none = λ i x q. h.none i x (old_place old i x (subst (λ (xs : List (Option T)). slice_get xs i ≡ Some (Some x)) e q));
      }

unsettled_at : (count : ℕ) (settled : List (Option Settled)) → AreNone count settled → (x : ℕ) → joined_settled (slice_get settled x) ≡ None
unsettled_at count settled h x = by (slice_get settled x) refl
  where
    by : (o : Option (Option Settled)) → slice_get settled x ≡ o → joined_settled o ≡ None
    by None e = refl
    by (Some None) e = refl
    by (Some (Some q)) e = absurd (h.none x q e)

unnoted_at : (count : ℕ) (behind : List (Option ℕ)) → AreNone count behind → (x : ℕ) → joined_number (slice_get behind x) ≡ None
unnoted_at count behind h x = by (slice_get behind x) refl
  where
    by : (o : Option (Option ℕ)) → slice_get behind x ≡ o → joined_number o ≡ None
    by None e = refl
    by (Some None) e = refl
    by (Some (Some q)) e = absurd (h.none x q e)

-- with the tables of these nodes, inference can begin
pub begun_going : (p : Bare) (count : ℕ) (d : Declared) (s : Unknowns) (w : Inference) → IsDeclared p count d s → IsBegun p count s w → IsGoing p count d (now w) 0 0 0
begun_going p count d s w declared begun =
    start_going p count d (now w)
    (subst (λ (u : Unknowns). IsDeclared p count d u) (sym begun.unknowns) declared)
    (subst (λ (u : Unknowns). AreForms u.types) (sym begun.unknowns) begun.forms)
    begun.first begun.opened
    (unsettled_at (length p.names) w.settled.items begun.settled)
    (unnoted_at (length p.nodes) w.behind.items begun.behind)
