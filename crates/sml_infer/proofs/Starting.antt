-- What holds before the first node.
use native.Mathlib.Omega.{arith}
use Rattle.std.proofs.Common.{◌≡◌, ◌<◌, Bool, ℕ, zero, suc, Option, Some, None, List, [], ◌∷◌, length, sym, ap, subst, ◌∙◌}
use Rattle.std.specs.Prelude.{slice_get}
use Rattle.std.specs.List.{AllByRecursion}
use Rattle.sml_tree.specs.declared.bare.Bare.{Bare}
use Rattle.sml_types.specs.declared.types.Ty.{Ty}
use Rattle.sml_types.specs.declared.types.TyForm.{TyForm}
use Rattle.sml_types.specs.declared.types.TyVar.{TyVar}
use Rattle.sml_types.specs.declared.tables.ConRow.{ConRow}
use Rattle.sml_types.specs.declared.tables.TypeName.{TypeName}
use Rattle.sml_types.specs.Forms.{tree, AreForms}
use Rattle.sml_types.specs.Typing.{Covers}
use Rattle.infer_state.specs.declared.unknowns.Unknowns.{Unknowns}
use Rattle.infer_state.specs.declared.declared.Declared.{Declared}
use Rattle.infer_state.specs.Fits.{settled_poly, joined_settled}
use Rattle.infer_tables.specs.Declare.{IsDeclared, IsClosedRow, IsClosedArgument}
use Rattle.infer_scopes.specs.Scopes.{AllOpen, IsFirst, contexts_of}
use Rattle.infer_nodes.specs.Good.{AreDeclaredIn}
use Rattle.infer_closing.specs.Open.{closed_at}
use Rattle.sml_infer.specs.Stages.{known}
use Rattle.sml_infer.specs.Going.{Now, stage, joined_number, IsGoing}

module _ (forms : List TyForm) where
  argument_at : (vars : List TyVar) (o : Option Ty) (a : Ty) → IsClosedArgument forms vars o → o ≡ Some a → (a.0 < length forms) × Covers vars (tree forms a.0)
  argument_at vars None a h e = absurd cc
  argument_at vars (Some b) a h e = let k : b ≡ a = cc in subst (λ (x : Ty). (x.0 < length forms) × Covers vars (tree forms x.0)) k h

  con_at : (vars : List TyVar) (cons : List ConRow) (k : ℕ) (c : ConRow) (a : Ty) → AllByRecursion (λ c. IsClosedArgument forms vars c.arg) cons → slice_get cons k ≡ Some c → c.arg ≡ Some a → (a.0 < length forms) × Covers vars (tree forms a.0)
  con_at vars [] k c a h e q = absurd cc
  con_at vars (b ∷ cons) zero c a h e q = let s : b ≡ c = cc in argument_at vars b.arg a h.0 (ap (λ (x : ConRow). x.arg) s ∙ q)
  con_at vars (b ∷ cons) (suc k) c a h e q = con_at vars cons k c a h.1 e q

  row_at : (names : List TypeName) (n k : ℕ) (row : TypeName) (c : ConRow) (a : Ty) → AllByRecursion (IsClosedRow forms) names → slice_get names n ≡ Some row → slice_get row.cons k ≡ Some c → c.arg ≡ Some a → (a.0 < length forms) × Covers row.params (tree forms a.0)
  row_at [] n k row c a h e q r = absurd cc
  row_at (b ∷ names) zero k row c a h e q r = let s : b ≡ row = cc in con_at row.params row.cons k c a (subst (IsClosedRow forms) s h.0).arguments q r
  row_at (b ∷ names) (suc n) k row c a h e q r = row_at names n k row c a h.1 e q r

declared_in : (p : Bare) (count : ℕ) (d : Declared) (u : Unknowns) → IsDeclared p count d u → AreDeclaredIn u.types d
declared_in p count d u h =
    record {
      there = λ n k row c a e q r. (row_at u.types d.tables.names n k row c a h.rows e q r).0;
      covered = λ n k row c a e q r. (row_at u.types d.tables.names n k row c a h.rows e q r).1;
      closed = h.abbreviations;
    }

module _ (p : Bare) (count : ℕ) (d : Declared) (a : Now) (declared : IsDeclared p count d a.unknowns) (forms : AreForms a.unknowns.types) (first : IsFirst (contexts_of a.scopes)) (opened : (q : ℕ → Bool) → AllOpen q a.scopes) (unsettled : (x : ℕ) → joined_settled (slice_get a.settled x) ≡ None) (unnoted : (x : ℕ) → joined_number (slice_get a.behind x) ≡ None) where
  none_known : (x : ℕ) → known (stage a) x ≡ None
  none_known x = ap (settled_poly a.unknowns.types) (unsettled x)

  pub start_going : IsGoing p count d a 0 0 0
  start_going =
      record {
        sound = record {
          forms = forms;
          state = declared.state;
          laid = declared.laid;
          there = λ x s e. let q = unsettled x in absurd cc;
          bodies = λ x q e f s. let k = none_known x in absurd cc;
          declared = declared_in p count d a.unknowns declared;
          closed = opened (closed_at (known (stage a)));
        };
        follow = λ t h.
            let s = declared.start t h in
            record {
              f = s.0;
              tables = declared.complete t h;
              fits = s.1;
              solution = s.2;
              suits = λ x q e. let k = none_known x in absurd cc;
              contexts = λ i c e. let k = first.only i c e in subst (λ (x : ℕ). t.contexts x ≡ c) (sym k.0) (h.root ∙ sym k.1);
            };
        nodes = λ i n l e. absurd (omega (arith, l));
        lets = record { noted = λ i k e l at. absurd (omega (arith, l)); lets = λ e i o. let k = unnoted e in absurd cc };
        contexts = λ e i k c l o at stands. absurd (omega (arith, l));
      }
