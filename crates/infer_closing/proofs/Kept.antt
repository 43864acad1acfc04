-- What is settled stays as it is, for the callers of `close` and `settle_matched`.
use Rattle.std.proofs.Common.{◌≡◌, ℕ, true, false, List, Option, Some, None, refl, sym, ap, ◌∙◌}
use Rattle.std.specs.Prelude.{◌||◌, slice_get}
use Rattle.sml_types.specs.declared.types.TyForm.{TyForm}
use Rattle.sml_types.specs.Tree.{Tree}
use Rattle.sml_types.specs.Poly.{Poly, poly, is_in}
use Rattle.sml_types.proofs.TreeFacts.{either, or_left, or_right}
use Rattle.sml_unify.specs.Steps.{IsLonger}
use Rattle.infer_state.specs.declared.settled.Settled.{Settled}
use Rattle.infer_state.specs.Fits.{AreThere, settled_poly, joined_settled, settled_at}
use Rattle.infer_scopes.specs.Scopes.{Stored, AllOpen}
use Rattle.infer_closing.specs.Open.{is_closed, closed_at}
use Rattle.infer_closing.specs.Closing.{AreKept}
use Rattle.infer_closing.proofs.GrowFacts.{there_longer}

-- more forms keep the types of what is settled
pub there_stays : (forms after : List TyForm) (x : List (Option Settled)) → IsLonger forms after → AreThere forms x → AreThere after x
there_stays forms after x l there n s e = there_longer forms after s l (there n s e)

module _ (forms after : List TyForm) (x y : List (Option Settled)) (l : IsLonger forms after) (there : AreThere forms x) (kept : AreKept x y) where
  -- a scheme stays
  pub settled_stays : (n : ℕ) (q : Poly) → settled_at forms x n ≡ Some q → settled_at after y n ≡ Some q
  settled_stays n q e = go (joined_settled (slice_get x n)) refl e
    where
      go : (s : Option Settled) → joined_settled (slice_get x n) ≡ s → settled_poly forms s ≡ Some q → settled_at after y n ≡ Some q
      go None w k = cc
      go (Some s) w k =
          ap (settled_poly after) (kept n s w)
          ∙ ap (λ (t : Tree). Some (poly s.scheme.vars t)) (l.trees s.scheme.body.0 (there n s w).there)
          ∙ k

  -- a closed name stays closed
  pub closed_stays : (n : ℕ) → closed_at (settled_at forms x) n ≡ true → closed_at (settled_at after y) n ≡ true
  closed_stays n e = go (settled_at forms x n) refl
    where
      go : (o : Option Poly) → settled_at forms x n ≡ o → closed_at (settled_at after y) n ≡ true
      go None w = let clash : false ≡ true = sym (ap is_closed w) ∙ e in cc
      go (Some q) w = ap is_closed (settled_stays n q w) ∙ sym (ap is_closed w) ∙ e

  -- and so the names around that are not on the lists of open names stay closed
  pub all_open_stays : (s : Stored) → AllOpen (closed_at (settled_at forms x)) s → AllOpen (closed_at (settled_at after y)) s
  all_open_stays s h i t e n b =
      either
      (is_in t.unclosed n)
      (closed_at (settled_at forms x) n)
      ((is_in t.unclosed n || closed_at (settled_at after y) n) ≡ true)
      (h i t e n b)
      (λ q. or_left (is_in t.unclosed n) (closed_at (settled_at after y) n) q)
      (λ q. or_right (is_in t.unclosed n) (closed_at (settled_at after y) n) (closed_stays n q))
