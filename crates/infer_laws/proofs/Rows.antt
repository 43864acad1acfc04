-- Tables that say the same.
use Rattle.std.proofs.Common.{◌≡◌, ℕ, zero, suc, Bool, List, [], ◌∷◌, Option, Some, None, refl, sym, ap, ◌∙◌, length}
use Rattle.std.specs.Prelude.{slice_get}
use Rattle.sml_tree.specs.declared.bare.TypeExp.{TypeExp}
use Rattle.sml_types.specs.declared.types.TyForm.{TyForm}
use Rattle.sml_types.specs.declared.tables.Equality.{Equality}
use Rattle.sml_types.specs.declared.tables.Equality.TheVariants.{Never}
use Rattle.sml_types.specs.declared.tables.ConRow.{ConRow}
use Rattle.sml_types.specs.declared.tables.TypeName.{TypeName}
use Rattle.sml_types.specs.Tree.{Head, ArrowHead, FieldsHead, NameHead, Tree, Variable, App, NoParts, Part, name_equality, head_equality, by_equality, admits}
use Rattle.sml_types.specs.Poly.{Poly, IsInstance}
use Rattle.sml_types.specs.Library.{ConType, NameType, arg_of, cons_of, name_type, name_types}
use Rattle.sml_types.specs.TypeExps.{AreMeant, means_none, means_var, means_record, means_arrow, means_named, means_abbreviation}

pub some_eq : {A : Type 0} (x y : A) → Some x ≡ Some y → x ≡ y
some_eq x y e = cc

-- ---- Rows of tables, with their types

pub row_at : (forms : List TyForm) (names : List TypeName) (n : ℕ) (row : TypeName) → slice_get names n ≡ Some row → slice_get (name_types forms names) n ≡ Some (name_type forms row)
row_at forms [] n row e = cc
row_at forms (r ∷ names) zero row e = ap (λ w. Some (name_type forms w)) (some_eq r row e)
row_at forms (r ∷ names) (suc n) row e = row_at forms names n row e

pub record IsRowOf (forms : List TyForm) (names : List TypeName) (n : ℕ) (row : NameType) : Type 0 where
  pub name : TypeName
  pub there : slice_get names n ≡ Some name
  pub is : row ≡ name_type forms name

pub row_of : (forms : List TyForm) (names : List TypeName) (n : ℕ) (row : NameType) → slice_get (name_types forms names) n ≡ Some row → IsRowOf forms names n row
row_of forms [] n row e = cc
row_of forms (r ∷ names) zero row e = record { name = r; there = refl; is = some_eq row (name_type forms r) (sym e) }
row_of forms (r ∷ names) (suc n) row e = let s = row_of forms names n row e in record { name = s.name; there = s.there; is = s.is }

abbrev pub con_type : List TyForm → ConRow → ConType
con_type forms c = record { text = c.text; arg = arg_of forms c.arg }

pub con_at : (forms : List TyForm) (cons : List ConRow) (k : ℕ) (c : ConRow) → slice_get cons k ≡ Some c → slice_get (cons_of forms cons) k ≡ Some (con_type forms c)
con_at forms [] k c e = cc
con_at forms (r ∷ cons) zero c e = ap (λ w. Some (con_type forms w)) (some_eq r c e)
con_at forms (r ∷ cons) (suc k) c e = con_at forms cons k c e

pub record IsConOf (forms : List TyForm) (cons : List ConRow) (k : ℕ) (con : ConType) : Type 0 where
  pub row : ConRow
  pub there : slice_get cons k ≡ Some row
  pub is : con ≡ con_type forms row

pub con_of : (forms : List TyForm) (cons : List ConRow) (k : ℕ) (con : ConType) → slice_get (cons_of forms cons) k ≡ Some con → IsConOf forms cons k con
con_of forms [] k con e = cc
con_of forms (r ∷ cons) zero con e = record { row = r; there = refl; is = some_eq con (con_type forms r) (sym e) }
con_of forms (r ∷ cons) (suc k) con e = let s = con_of forms cons k con e in record { row = s.row; there = s.there; is = s.is }

-- ---- What depends on the tables

abbrev row_equality : Option NameType → Equality
row_equality None = Never
row_equality (Some row) = row.eq

equality_of : (forms : List TyForm) (names : List TypeName) (n : ℕ) → name_equality (slice_get names n) ≡ row_equality (slice_get (name_types forms names) n)
equality_of forms [] n = refl
equality_of forms (r ∷ names) zero = refl
equality_of forms (r ∷ names) (suc n) = equality_of forms names n

module _ (forms others : List TyForm) (mine names : List TypeName) (same : name_types forms mine ≡ name_types others names) where
  equality_same : (n : ℕ) → name_equality (slice_get mine n) ≡ name_equality (slice_get names n)
  equality_same n =
      equality_of forms mine n ∙ ap (λ rows. row_equality (slice_get rows n)) same ∙ sym (equality_of others names n)

  head_same : (h : Head) → head_equality mine h ≡ head_equality names h
  head_same ArrowHead = refl
  head_same (FieldsHead labs) = refl
  head_same (NameHead n) = equality_same n

  pub admits_same : (t : Tree) → admits mine t ≡ admits names t
  admits_same (Variable v) = refl
  admits_same (App h ts) =
      ap (λ q. by_equality q (admits mine ts)) (head_same h) ∙ ap (by_equality (head_equality names h)) (admits_same ts)
  admits_same NoParts = refl
  admits_same (Part t ts) = let l = admits_same t in let r = admits_same ts in cc

  pub instance_same : (s : Poly) (t : Tree) → IsInstance mine s t → IsInstance names s t
  instance_same s t i =
      record { at = i.at; others = i.others; marks = λ v h e. sym (admits_same (i.at v)) ∙ i.marks v h e; is = i.is }

  -- a row of the one tables is one of the others, with as many parameters
  pub row_same : (n : ℕ) (row : TypeName) → slice_get mine n ≡ Some row → IsRowOf others names n (name_type forms row)
  row_same n row e = row_of others names n (name_type forms row) (sym (ap (λ rows. slice_get rows n) same) ∙ row_at forms mine n row e)

  module _ (exps : List TypeExp) (marks : List Bool) (abbreviations : ℕ → Poly) where
    -- written types mean the same
    pub means_same : (js : List ℕ) (ts : List Tree) → AreMeant exps marks mine abbreviations js ts → AreMeant exps marks names abbreviations js ts
    means_same _ _ means_none = means_none
    means_same _ _ (means_var {js = js} {ts = ts} j u p rest) = means_var j u p (means_same js ts rest)
    means_same _ _ (means_record {js = js} {ts = ts} j fields us t p mean is rest) =
        means_record j fields us t p (means_same _ us mean) is (means_same js ts rest)
    means_same _ _ (means_arrow {js = js} {ts = ts} j a b t u p mean rest) =
        means_arrow j a b t u p (means_same (a ∷ b ∷ []) (t ∷ u ∷ []) mean) (means_same js ts rest)
    means_same _ _ (means_named {js = js} {ts = ts} j n args us row p r c mean rest) =
        let other = row_same n row r in
        means_named j n args us other.name p other.there (c ∙ ap (λ (w : NameType). length w.params) other.is) (means_same args us mean) (means_same js ts rest)
    means_same _ _ (means_abbreviation {js = js} {ts = ts} j k args us p c mean rest) =
        means_abbreviation j k args us p c (means_same args us mean) (means_same js ts rest)
