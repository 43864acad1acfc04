-- The tasks of a form show what the form shows, and are done in fewer steps.
use Rattle.std.proofs.Common.{◌≡◌, ℕ, zero, suc, ◌+◌, ◌<◌, ◌≤◌, Bool, true, false, List, [], ◌∷◌, ◌++◌, length, None, refl, sym, ap, ◌∙◌, arith, append_assoc, length-append}
use Rattle.std.specs.Prelude.{map, fold, flat_map, slice_get, codes, if◌then◌else◌}
use Rattle.std.proofs.lemmas.List.{append-nil, get_or_past}
use Rattle.sml_types.specs.declared.types.Ty.{Ty}
use Rattle.sml_types.specs.declared.types.Field.{Field}
use Rattle.sml_types.specs.declared.types.TyForm.{TyForm}
use Rattle.sml_types.specs.declared.types.TyForm.TheVariants.{Fields, Arrow, Named}
use Rattle.sml_types.specs.declared.tables.TypeName.{TypeName}
use Rattle.sml_types.specs.Tree.{Tree, NoParts}
use Rattle.sml_types.specs.Forms.{tree, trees, tree_at, listed, form_tree}
use Rattle.type_text.specs.declared.level.Level.{Level}
use Rattle.type_text.specs.declared.level.Level.TheVariants.{Function, Product, Atom}
use Rattle.type_text.specs.Text.{Item, Byte, plain, label_text, is_tuple, field_texts, record_text, named_text, enclosed, separated, is_atom, type_text, part_texts}
use Rattle.type_text.specs.Tasks.{Task, ShowTuple, ShowRecord, ShowBytes, task_text, tasks_text, weight, tasks_weight}
use Rattle.type_text.specs.Steps.{arrow_tasks, tuple_tasks, field_tasks, record_tasks, named_tasks}

-- ---- lists

three : {A : Type 0} (a b c : List A) → a ++ (b ++ (c ++ [])) ≡ (a ++ b) ++ c
three a b c = sym (append_assoc a b (c ++ [])) ∙ ap (λ z. (a ++ b) ++ z) (append-nil c)

four : {A : Type 0} (a b c d : List A) → a ++ (b ++ (c ++ d)) ≡ ((a ++ b) ++ c) ++ d
four a b c d = sym (append_assoc a b (c ++ d)) ∙ sym (append_assoc (a ++ b) c d)

five : {A : Type 0} (a b c d e : List A) → a ++ (b ++ (c ++ (d ++ e))) ≡ (((a ++ b) ++ c) ++ d) ++ e
five a b c d e = sym (append_assoc a b (c ++ (d ++ e))) ∙ four (a ++ b) c d e

-- ---- numbers that have no form

past : {A : Type 0} (xs : List A) (i : ℕ) → slice_get xs i ≡ None → length xs ≤ i
past [] i e = omega arith
past (x ∷ xs) zero e = cc
past (x ∷ xs) (suc i) e = let h = past xs i e in omega arith

length-grown : (done : List Tree) (forms : List TyForm) → length (fold (λ d f. d ++ form_tree (tree_at d) f ∷ []) done forms) ≡ length done + length forms
length-grown done [] = omega arith
length-grown done (f ∷ forms) = omega (arith, length-grown (done ++ form_tree (tree_at done) f ∷ []) forms, length-append done (form_tree (tree_at done) f ∷ []))

pub none_there : (forms : List TyForm) (i : ℕ) → slice_get forms i ≡ None → tree forms i ≡ NoParts
unfolding trees tree
none_there forms i e = get_or_past (trees forms) i NoParts (omega (arith, length-grown [] forms, past forms i e))

-- ---- the parts

module _ (names : List TypeName) (t : ℕ → Tree) where
  behind_parts : {A : Type 0} (num : A → ℕ) (sep : List Item) (level : Level) (xs : List A) → flat_map (λ y. sep ++ y) (map (λ part. part level) (part_texts names (listed t (map num xs)))) ≡ flat_map (λ x. sep ++ type_text names (t (num x)) level) xs
  behind_parts num sep level [] = refl
  behind_parts num sep level (x ∷ xs) = ap (λ z. (sep ++ type_text names (t (num x)) level) ++ z) (behind_parts num sep level xs)

  behind_fields : (fs : List Field) → flat_map (λ y. plain (codes ", ") ++ y) (field_texts (map (λ f. f.lab) fs) (part_texts names (listed t (map (λ f. f.ty.0) fs)))) ≡ flat_map (λ f. plain (codes ", ") ++ plain (label_text f.lab) ++ plain (codes " : ") ++ type_text names (t f.ty.0) Function) fs
  behind_fields [] = refl
  behind_fields (f ∷ fs) = ap (λ z. (plain (codes ", ") ++ plain (label_text f.lab) ++ plain (codes " : ") ++ type_text names (t f.ty.0) Function) ++ z) (behind_fields fs)

-- ---- the forms

module _ (forms : List TyForm) (names : List TypeName) where
  abbrev parts_of_fields : List Field → List (Level → List Item)
  parts_of_fields fs = part_texts names (listed (tree forms) (map (λ f. f.ty.0) fs))

  pub arrow_shows : (a b : Ty) (level : Level) → tasks_text forms names (arrow_tasks a b level) ≡ type_text names (form_tree (tree forms) (Arrow a b)) level
  arrow_shows a b Function = three (type_text names (tree forms a.0) Product) (plain (codes " -> ")) (type_text names (tree forms b.0) Function)
  arrow_shows a b Product = ap (λ z. Byte 40 ∷ z) (four (type_text names (tree forms a.0) Product) (plain (codes " -> ")) (type_text names (tree forms b.0) Function) (plain (codes ")")))
  arrow_shows a b Atom = ap (λ z. Byte 40 ∷ z) (four (type_text names (tree forms a.0) Product) (plain (codes " -> ")) (type_text names (tree forms b.0) Function) (plain (codes ")")))

  further : (fs : List Field) → task_text forms names (ShowTuple fs) ≡ flat_map (λ y. plain (codes " * ") ++ y) (map (λ part. part Atom) (parts_of_fields fs))
  further fs = sym (behind_parts names (tree forms) (λ f. f.ty.0) (plain (codes " * ")) Atom fs)

  tuple_shows : (f : Field) (fs : List Field) (level : Level) → tasks_text forms names (tuple_tasks f fs level) ≡ enclosed (is_atom level) (separated (codes " * ") (map (λ part. part Atom) (parts_of_fields (f ∷ fs))))
  tuple_shows f fs Function = ap (λ z. type_text names (tree forms f.ty.0) Atom ++ z) (append-nil (task_text forms names (ShowTuple fs)) ∙ further fs)
  tuple_shows f fs Product = ap (λ z. type_text names (tree forms f.ty.0) Atom ++ z) (append-nil (task_text forms names (ShowTuple fs)) ∙ further fs)
  tuple_shows f fs Atom =
      ap
      (λ z. Byte 40 ∷ z)
      (ap (λ z. type_text names (tree forms f.ty.0) Atom ++ (z ++ plain (codes ")"))) (further fs) ∙ sym (append_assoc (type_text names (tree forms f.ty.0) Atom) (flat_map (λ y. plain (codes " * ") ++ y) (map (λ part. part Atom) (parts_of_fields fs))) (plain (codes ")"))))

  fields_show : (f : Field) (fs : List Field) → tasks_text forms names (ShowBytes (codes "{") ∷ field_tasks f fs ++ ShowBytes (codes "}") ∷ []) ≡ plain (codes "{") ++ separated (codes ", ") (field_texts (map (λ x. x.lab) (f ∷ fs)) (parts_of_fields (f ∷ fs))) ++ plain (codes "}")
  fields_show f fs =
      ap
      (λ z. Byte 123 ∷ z)
      (five (plain (label_text f.lab)) (plain (codes " : ")) (type_text names (tree forms f.ty.0) Function) (task_text forms names (ShowRecord fs)) (plain (codes "}")) ∙ ap (λ z. (((plain (label_text f.lab) ++ plain (codes " : ")) ++ type_text names (tree forms f.ty.0) Function) ++ z) ++ plain (codes "}")) (sym (behind_fields names (tree forms) fs)))

  pub record_shows : (fs : List Field) (level : Level) → tasks_text forms names (record_tasks fs level) ≡ record_text (map (λ f. f.lab) fs) (parts_of_fields fs) level
  record_shows [] level = refl
  record_shows (f ∷ fs) level = go (is_tuple (map (λ x. x.lab) (f ∷ fs))) _ _ _ _ (tuple_shows f fs level) (fields_show f fs)
    where
      go : (b : Bool) (ps qs : List Task) (xs ys : List Item) → tasks_text forms names ps ≡ xs → tasks_text forms names qs ≡ ys → tasks_text forms names (if b then ps else qs) ≡ (if b then xs else ys)
      go true ps qs xs ys h k = h
      go false ps qs xs ys h k = k

  pub named_shows : (name : List ℕ) (args : List Ty) → tasks_text forms names (named_tasks name args) ≡ named_text name (part_texts names (listed (tree forms) (map (λ a. a.0) args)))
  named_shows name [] = append-nil (plain name)
  named_shows name (a ∷ []) = three (type_text names (tree forms a.0) Atom) (plain (codes " ")) (plain name)
  named_shows name (a ∷ b ∷ args) =
      ap
      (λ z. Byte 40 ∷ z)
      (ap (λ z. type_text names (tree forms a.0) Function ++ (z ++ (plain (codes ") ") ++ (plain name ++ [])))) (sym (behind_parts names (tree forms) (λ x. x.0) (plain (codes ", ")) Function (b ∷ args))) ∙ ending (type_text names (tree forms a.0) Function) (flat_map (λ y. plain (codes ", ") ++ y) (map (λ part. part Function) (part_texts names (listed (tree forms) (map (λ x. x.0) (b ∷ args)))))) (plain (codes ") ")) (plain name))
    where
      ending : (p q r s : List Item) → p ++ (q ++ (r ++ (s ++ []))) ≡ ((p ++ q) ++ r) ++ s
      ending p q r s = ap (λ z. p ++ (q ++ (r ++ z))) (append-nil s) ∙ four p q r s

  -- ---- the steps that are left

  pub arrow_less : (a b : Ty) (level : Level) → tasks_weight forms (arrow_tasks a b level) < 1 + weight (form_tree (tree forms) (Arrow a b))
  arrow_less a b Function = omega arith
  arrow_less a b Product = omega arith
  arrow_less a b Atom = omega arith

  tuple_less : (f : Field) (fs : List Field) (level : Level) → tasks_weight forms (tuple_tasks f fs level) < 1 + weight (form_tree (tree forms) (Fields (f ∷ fs)))
  tuple_less f fs Function = omega arith
  tuple_less f fs Product = omega arith
  tuple_less f fs Atom = omega arith

  pub record_less : (fs : List Field) (level : Level) → tasks_weight forms (record_tasks fs level) < 1 + weight (form_tree (tree forms) (Fields fs))
  record_less [] level = omega arith
  record_less (f ∷ fs) level = go (is_tuple (map (λ x. x.lab) (f ∷ fs))) _ _ _ (tuple_less f fs level) (omega arith)
    where
      go : (b : Bool) (ps qs : List Task) (n : ℕ) → tasks_weight forms ps < n → tasks_weight forms qs < n → tasks_weight forms (if b then ps else qs) < n
      go true ps qs n h k = h
      go false ps qs n h k = k

  pub named_less : (n : ℕ) (name : List ℕ) (args : List Ty) → tasks_weight forms (named_tasks name args) < 1 + weight (form_tree (tree forms) (Named n args))
  named_less n name [] = omega arith
  named_less n name (a ∷ []) = omega arith
  named_less n name (a ∷ b ∷ args) = omega arith
