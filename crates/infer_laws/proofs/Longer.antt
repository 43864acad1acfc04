-- What stays when forms go on others.
use Rattle.std.proofs.Common.{◌≡◌, ℕ, zero, suc, ◌<◌, List, [], ◌∷◌, length, Option, Some, None, refl, ap, ◌∙◌}
use Rattle.std.specs.Prelude.{slice_get}
use Rattle.sml_types.specs.declared.types.Ty.{Ty}
use Rattle.sml_types.specs.declared.types.TyForm.{TyForm}
use Rattle.sml_types.specs.declared.scheme.Scheme.{Scheme}
use Rattle.sml_types.specs.declared.tables.ConRow.{ConRow}
use Rattle.sml_types.specs.declared.tables.TypeName.{TypeName}
use Rattle.sml_types.specs.Tree.{Tree}
use Rattle.sml_types.specs.Poly.{Poly, poly}
use Rattle.sml_types.specs.Library.{ConType, NameType, arg_of, cons_of, name_type, name_types}
use Rattle.sml_types.specs.Schemes.{scheme_poly}
use Rattle.sml_unify.specs.Steps.{IsLonger}
use Rattle.infer_parts.specs.Rounds.{AreArgumentsThere}
use Rattle.infer_parts.specs.Written.{AreAbbreviations}
use Rattle.infer_state.specs.declared.settled.Settled.{Settled}
use Rattle.infer_state.specs.Fits.{AreThere, settled_at, settled_poly, joined_settled}
use Rattle.infer_state.specs.Typings.{abbreviation_at}

module _ (forms after : List TyForm) (longer : IsLonger forms after) where
  scheme_same : (s : Scheme) → s.body.0 < length forms → scheme_poly after s ≡ scheme_poly forms s
  scheme_same s l = ap (poly s.vars) (longer.trees s.body.0 l)

  -- ---- Tables

  arg_same : (arg : Option Ty) → ((a : Ty) → arg ≡ Some a → a.0 < length forms) → arg_of after arg ≡ arg_of forms arg
  arg_same None h = refl
  arg_same (Some a) h = ap Some (longer.trees a.0 (h a refl))

  abbrev row_with : NameType → List ConType → NameType
  row_with row cons = record { text = row.text; params = row.params; eq = row.eq; cons = cons }

  abbrev con_with : ConRow → Option Tree → ConType
  con_with c arg = record { text = c.text; arg = arg }

  cons_same : (cons : List ConRow) → ((k : ℕ) (c : ConRow) (a : Ty) → slice_get cons k ≡ Some c → c.arg ≡ Some a → a.0 < length forms) → cons_of after cons ≡ cons_of forms cons
  cons_same [] h = refl
  cons_same (c ∷ cons) h =
      ap (λ arg. con_with c arg ∷ cons_of after cons) (arg_same c.arg (λ a e. h zero c a refl e))
      ∙ ap (λ rest. con_with c (arg_of forms c.arg) ∷ rest) (cons_same cons (λ k d a q e. h (suc k) d a q e))

  -- the tables say the same
  pub rows_same : (names : List TypeName) → AreArgumentsThere forms names → name_types after names ≡ name_types forms names
  rows_same [] h = refl
  rows_same (n ∷ names) h =
      ap (λ cons. row_with (name_type after n) cons ∷ name_types after names) (cons_same n.cons (λ k c a q e. h zero k n c a refl q e))
      ∙ ap (λ rest. name_type forms n ∷ rest) (rows_same names (λ i k row c a q r e. h (suc i) k row c a q r e))

  -- ---- Settled names

  poly_same : (o : Option Settled) → ((s : Settled) → o ≡ Some s → s.scheme.body.0 < length forms) → settled_poly after o ≡ settled_poly forms o
  poly_same None h = refl
  poly_same (Some s) h = ap Some (scheme_same s.scheme (h s refl))

  -- settled schemes are the same
  pub settled_same : (settled : List (Option Settled)) (x : ℕ) → AreThere forms settled → settled_at after settled x ≡ settled_at forms settled x
  settled_same settled x there = poly_same (joined_settled (slice_get settled x)) (λ s e. (there x s e).there)

  -- ---- Type bindings

  -- type functions of the former forms are those of the later ones
  pub abbreviations_same : (schemes : List Scheme) (abbreviations : ℕ → Poly) → ((k : ℕ) (s : Scheme) → slice_get schemes k ≡ Some s → s.body.0 < length forms) → AreAbbreviations after schemes abbreviations → AreAbbreviations forms schemes abbreviations
  abbreviations_same schemes abbreviations h are k s e = are k s e ∙ scheme_same s (h k s e)

-- the type functions of a typing are those of its type bindings
pub abbreviations_are : (forms : List TyForm) (schemes : List Scheme) → AreAbbreviations forms schemes (λ k. abbreviation_at forms (slice_get schemes k))
abbreviations_are forms schemes k s e = ap (abbreviation_at forms) e
