-- Record types of nodes.
use Rattle.std.proofs.Common.{◌≡◌, ℕ, zero, suc, ◌+◌, ◌<◌, ◌≤◌, List, [], ◌∷◌, ◌++◌, length, Some, refl, sym, ap, ◌∙◌, subst, arith, map, take, take_all, get_or}
use Rattle.std.specs.Prelude.{slice_get, Option}
use Rattle.std.specs.List.{AllByRecursion}
use Rattle.std.proofs.Math.Seq.{take-suc}
use Rattle.sml_tree.specs.declared.bare.Bare.{Bare}
use Rattle.sml_tree.specs.declared.bare.Field.{Field}
use Rattle.sml_tree.specs.declared.bare.TypeField.{TypeField}
use Rattle.sml_types.specs.declared.types.Ty.{Ty}
use Rattle.sml_types.specs.declared.types.TyVar.{TyVar}
use Rattle.sml_types.specs.declared.types.TyForm.{TyForm}
use Rattle.sml_types.specs.declared.tables.TypeName.{TypeName}
use Rattle.sml_types.specs.Tree.{FieldsHead, Tree, Variable, App, inst}
use Rattle.sml_types.specs.Forms.{tree, AreForms}
use Rattle.sml_types.specs.Poly.{Poly}
use Rattle.sml_types.specs.Library.{NameType}
use Rattle.sml_types.specs.TypeExps.{IsRecord, labelled}
use Rattle.sml_types.proofs.TreeFacts.{inst_id}
use Rattle.sml_unify.specs.declared.pair.Pair.{Pair}
use Rattle.sml_unify.specs.Solved.{Substitution}
use Rattle.sml_unify.specs.Steps.{IsLonger, AreBelow}
use Rattle.infer_parts.specs.Copies.{AreOldVars}
use Rattle.infer_parts.specs.Written.{IsTypeRow, AreThere, AreTrees}
use Rattle.infer_parts.proofs.Placed.{inst_parts}
use Rattle.infer_parts.proofs.Slots.{one_record}
use Rattle.infer_state.specs.Variables.{node_var}
use Rattle.infer_state.specs.Rules.{labelled_fields}
use Rattle.infer_nodes.specs.Posed.{pair, StandsFor, IsPosed}
use Rattle.infer_nodes.specs.Records.{as_written, field_vars, AreFieldTys, IsRowMade}
use Rattle.infer_nodes.proofs.Posing.{made_as, made_fixed}
use Rattle.infer_nodes.proofs.Ruled.{posed_var}

-- ---- A record type under a substitution

map_count : {A B : Type 0} (g : A → B) (xs : List A) → length (map g xs) ≡ length xs
map_count g [] = refl
map_count g (x ∷ xs) = ap suc (map_count g xs)

map_at : (f : Substitution) (ts : List Tree) (i : ℕ) (t : Tree) → slice_get ts i ≡ Some t → slice_get (map (inst f) ts) i ≡ Some (inst f t)
map_at f [] i t e = cc
map_at f (u ∷ ts) zero t e = ap (λ (w : Tree). Some (inst f w)) (same u t e)
  where
    same : (x y : Tree) → Some x ≡ Some y → x ≡ y
    same x y q = cc
map_at f (u ∷ ts) (suc i) t e = map_at f ts i t e

labelled_count : (g : Tree → Tree) (fields : List TypeField) (ts : List Tree) → length (labelled fields ts) ≡ length (labelled fields (map g ts))
labelled_count g [] ts = refl
labelled_count g (f ∷ fields) [] = refl
labelled_count g (f ∷ fields) (t ∷ ts) = ap suc (labelled_count g fields ts)

pub record_under : (f : Substitution) (fields : List TypeField) (ts : List Tree) (t : Tree) → IsRecord (labelled fields ts) t → IsRecord (labelled fields (map (inst f) ts)) (inst f t)
record_under f fields ts t r =
    record {
      labs = r.labs;
      types = map (inst f) r.types;
      labs_count = r.labs_count ∙ labelled_count (inst f) fields ts;
      types_count = map_count (inst f) r.types ∙ r.types_count ∙ labelled_count (inst f) fields ts;
      placed = placed fields ts r.placed;
      is = ap (inst f) r.is ∙ ap (App (FieldsHead r.labs)) (inst_parts f r.types);
    }
  where
    placed : (fs : List TypeField) (us : List Tree) → AllByRecursion (λ l. (slice_get r.labs l.slot ≡ Some l.lab) × (slice_get r.types l.slot ≡ Some l.ty)) (labelled fs us) → AllByRecursion (λ l. (slice_get r.labs l.slot ≡ Some l.lab) × (slice_get (map (inst f) r.types) l.slot ≡ Some l.ty)) (labelled fs (map (inst f) us))
    placed [] us h = tt
    placed (x ∷ fs) [] h = tt
    placed (x ∷ fs) (u ∷ us) h = ((h.0.0, map_at f r.types x.slot u h.0.1), placed fs us h.1)

-- ---- The types of fields

vars_count : (p : Bare) (fields : List Field) → length (field_vars p fields) ≡ length fields
vars_count p [] = refl
vars_count p (f ∷ fields) = ap suc (vars_count p fields)

fields_last : (p : Bare) (forms : List TyForm) (fields : List Field) (ts : List Ty) (f : Field) (t : Ty) → AreFieldTys p forms fields ts → StandsFor forms t (node_var p f.node) → AreFieldTys p forms (fields ++ f ∷ []) (ts ++ t ∷ [])
fields_last p forms [] [] f t h s = (s, tt)
fields_last p forms [] (u ∷ ts) f t h s = absurd h
fields_last p forms (g ∷ fields) [] f t h s = absurd h
fields_last p forms (g ∷ fields) (u ∷ ts) f t h s = (h.0, fields_last p forms fields ts f t h.1 s)

-- one field more
pub fields_more : (p : Bare) (forms : List TyForm) (fields : List Field) (i : ℕ) (d : Field) (ts after : List Ty) (t : Ty) → i < length fields → after ≡ ts ++ t ∷ [] → AreFieldTys p forms (take i fields) ts → StandsFor forms t (node_var p (get_or fields i d).node) → AreFieldTys p forms (take (i + 1) fields) after
fields_more p forms fields i d ts after t l e h s =
    let one : i + 1 ≡ suc i = omega arith in
    let taken : take (i + 1) fields ≡ take i fields ++ get_or fields i d ∷ [] = ap (λ k. take k fields) one ∙ take-suc fields i d l in
    subst
    (λ (fs : List Field). AreFieldTys p forms fs after)
    (sym taken)
    (subst (AreFieldTys p forms (take i fields ++ get_or fields i d ∷ [])) (sym e) (fields_last p forms (take i fields) ts (get_or fields i d) t h s))

pub fields_all : (p : Bare) (forms : List TyForm) (fields : List Field) (i : ℕ) (ts : List Ty) → length fields ≤ i → AreFieldTys p forms (take i fields) ts → AreFieldTys p forms fields ts
fields_all p forms fields i ts l h = subst (λ (fs : List Field). AreFieldTys p forms fs ts) (take_all i fields l) h

pub tys_count : (p : Bare) (forms : List TyForm) (fields : List Field) (ts : List Ty) → AreFieldTys p forms fields ts → length ts ≡ length (map as_written fields)
tys_count p forms [] [] h = refl
tys_count p forms [] (t ∷ ts) h = absurd h
tys_count p forms (f ∷ fields) [] h = absurd h
tys_count p forms (f ∷ fields) (t ∷ ts) h = ap suc (tys_count p forms fields ts h.1)

pub tys_there : (p : Bare) (forms : List TyForm) (fields : List Field) (ts : List Ty) → AreFieldTys p forms fields ts → AreThere forms ts
tys_there p forms [] [] h = tt
tys_there p forms [] (t ∷ ts) h = absurd h
tys_there p forms (f ∷ fields) [] h = absurd h
tys_there p forms (f ∷ fields) (t ∷ ts) h = (h.0.there, tys_there p forms fields ts h.1)

pub tys_trees : (p : Bare) (forms : List TyForm) (fields : List Field) (ts : List Ty) → AreFieldTys p forms fields ts → AreTrees forms Variable ts (field_vars p fields)
tys_trees p forms [] [] h = refl
tys_trees p forms [] (t ∷ ts) h = absurd h
tys_trees p forms (f ∷ fields) [] h = absurd h
tys_trees p forms (f ∷ fields) (t ∷ ts) h = let a = h.0.is in let b = tys_trees p forms fields ts h.1 in cc

-- what `record` answers
pub row_made : (p : Bare) (fields : List Field) (forms forms2 : List TyForm) (t : Ty) → IsTypeRow (map as_written fields) → IsLonger forms forms2 → AreOldVars forms forms2 → (t.0 < length forms2) × (r : Tree) × IsRecord (labelled (map as_written fields) (field_vars p fields)) r × (tree forms2 t.0 ≡ inst Variable r) → IsRowMade p fields forms forms2 t
row_made p fields forms forms2 t row l v h =
    record {
      row = row;
      type = h.1;
      is = h.2;
      made = record { there = h.0; is = h.3 ∙ inst_id h.1; longer = l; vars = v };
    }

-- ---- The rule

module _ (p : Bare) (rows : List NameType) (names : List TypeName) (abbreviations : ℕ → Poly) (settled : ℕ → Option Poly) where
  fields_are : (f : Substitution) (fields : List Field) → labelled (map as_written fields) (map (inst f) (field_vars p fields)) ≡ labelled_fields p rows names abbreviations settled f fields
  fields_are f [] = refl
  fields_are f (x ∷ fields) = ap (λ ls. record { slot = x.slot; lab = x.lab; ty = f (node_var p x.node) } ∷ ls) (fields_are f fields)

  pub record_posed : (fields : List Field) (next : ℕ) (forms forms2 : List TyForm) (at t : Ty) (v : TyVar) (ps : List Pair) → AreForms forms → AreBelow forms next → StandsFor forms at v → ps ≡ pair at t ∷ [] → IsRowMade p fields forms forms2 t → IsPosed names (λ f. IsRecord (labelled_fields p rows names abbreviations settled f fields) (f v)) next forms next forms2 ps
  record_posed fields next forms forms2 at t v ps fs b s e m =
      posed_var names (λ f u. IsRecord (labelled_fields p rows names abbreviations settled f fields) u) next forms next forms2 at t v ps fs b s e
      (made_as names (λ f w. w ≡ inst f m.type) (λ f u. IsRecord (labelled_fields p rows names abbreviations settled f fields) u) next forms next forms2 t
      (λ f u q. subst (IsRecord (labelled_fields p rows names abbreviations settled f fields)) (sym q) (here f))
      (λ f u h. one_record (map as_written fields) (map (inst f) (field_vars p fields)) u (inst f m.type) m.row (count f) (subst (λ ls. IsRecord ls u) (sym (fields_are f fields)) h) (record_under f (map as_written fields) (field_vars p fields) m.type m.is))
      (made_fixed names m.type next forms forms2 t b m.made))
    where
      here : (f : Substitution) → IsRecord (labelled_fields p rows names abbreviations settled f fields) (inst f m.type)
      here f = subst (λ ls. IsRecord ls (inst f m.type)) (fields_are f fields) (record_under f (map as_written fields) (field_vars p fields) m.type m.is)

      count : (f : Substitution) → length (map (inst f) (field_vars p fields)) ≡ length (map as_written fields)
      count f = map_count (inst f) (field_vars p fields) ∙ vars_count p fields ∙ sym (map_count as_written fields)
