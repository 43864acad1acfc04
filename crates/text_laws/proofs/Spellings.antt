-- The text of types goes by the spellings of type names alone.
use Rattle.std.proofs.Common.{◌≡◌, ℕ, zero, suc, List, [], ◌∷◌, ◌++◌, Option, Some, None, refl, sym, ap, ◌∙◌}
use Rattle.std.specs.Prelude.{slice_get, flat_map, codes}
use Rattle.std.proofs.Math.Path.{fun_ext}
use Rattle.sml_types.specs.declared.types.TyForm.{TyForm}
use Rattle.sml_types.specs.declared.tables.TypeName.{TypeName}
use Rattle.sml_types.specs.Tree.{Head, ArrowHead, FieldsHead, NameHead, Tree, Variable, App, NoParts, Part}
use Rattle.sml_types.specs.Poly.{Poly, has_num}
use Rattle.sml_types.specs.Library.{NameType, name_types}
use Rattle.type_text.specs.declared.level.Level.{Level}
use Rattle.type_text.specs.declared.level.Level.TheVariants.{Function}
use Rattle.type_text.specs.Text.{Item, spelling, head_text, named_text, type_text, part_texts, in_order, numbers, filled, variable_text, scheme_text, open_numbers, Entry, line, lines}

-- ---- Tables with the same rows have the same spellings

abbrev pub row_spelling : Option NameType → List ℕ
row_spelling None = []
row_spelling (Some row) = row.text

pub spelling_is : (forms : List TyForm) (names : List TypeName) (n : ℕ) → spelling (slice_get names n) ≡ row_spelling (slice_get (name_types forms names) n)
spelling_is forms [] n = refl
spelling_is forms (x ∷ names) zero = refl
spelling_is forms (x ∷ names) (suc n) = spelling_is forms names n

pub same_spellings : (forms others : List TyForm) (a b : List TypeName) → name_types forms a ≡ name_types others b → (n : ℕ) → spelling (slice_get a n) ≡ spelling (slice_get b n)
same_spellings forms others a b same n =
    spelling_is forms a n ∙ ap (λ (rows : List NameType). row_spelling (slice_get rows n)) same ∙ sym (spelling_is others b n)

-- ---- Tables with the same spellings show the same

module _ (a b : List TypeName) (same : (n : ℕ) → spelling (slice_get a n) ≡ spelling (slice_get b n)) where
  head_same : (h : Head) (parts : List (Level → List Item)) (level : Level) → head_text a h parts level ≡ head_text b h parts level
  head_same ArrowHead [] level = refl
  head_same ArrowHead (from ∷ []) level = refl
  head_same ArrowHead (from ∷ to ∷ []) level = refl
  head_same ArrowHead (from ∷ to ∷ more ∷ parts) level = refl
  head_same (FieldsHead labs) parts level = refl
  head_same (NameHead n) parts level = ap (λ (text : List ℕ). named_text text parts) (same n)

  both_same : (t : Tree) → (type_text a t ≡ type_text b t) × (part_texts a t ≡ part_texts b t)
  both_same (Variable v) = (fun_ext (λ level. refl), refl)
  both_same (App h ts) =
      let parts = (both_same ts).1 in (
        fun_ext (λ (level : Level). ap (λ (ps : List (Level → List Item)). head_text a h ps level) parts ∙ head_same h (part_texts b ts) level),
        refl,
      )
  both_same NoParts = (fun_ext (λ level. refl), refl)
  both_same (Part t ts) =
      let first = (both_same t).0 in
      let rest = (both_same ts).1 in (
        fun_ext (λ level. refl),
        ap (λ (f : Level → List Item). f ∷ part_texts a ts) first ∙ ap (λ (ps : List (Level → List Item)). type_text b t ∷ ps) rest,
      )

  scheme_same : (s : Poly) → scheme_text a s ≡ scheme_text b s
  scheme_same s = ap (λ (f : Level → List Item). f Function) (both_same s.body).0

  line_same : (open_ones : List ℕ) (e : Entry) → line a open_ones e ≡ line b open_ones e
  line_same open_ones e =
      ap
      (λ (items : List Item). codes "val " ++ e.spelling ++ codes " : " ++ filled (variable_text (has_num e.scheme.vars) (in_order (numbers (has_num e.scheme.vars) items)) open_ones) items ++ codes "\n")
      (scheme_same e.scheme)

  open_same : (e : Entry) → open_numbers a e.scheme ≡ open_numbers b e.scheme
  open_same e = ap (numbers _) (scheme_same e.scheme)

  pub lines_same : (entries : List Entry) → lines a entries ≡ lines b entries
  lines_same entries =
      ap (λ (f : Entry → List ℕ). flat_map (line a (in_order (flat_map f entries))) entries) (fun_ext open_same)
      ∙ ap (λ (f : Entry → List ℕ). flat_map f entries) (fun_ext (line_same (in_order (flat_map (λ e. open_numbers b e.scheme) entries))))
