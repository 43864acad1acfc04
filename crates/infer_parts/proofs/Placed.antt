-- A record type whose fields are put into their places.
use Rattle.std.proofs.Common.{◌≡◌, ℕ, zero, suc, ◌<◌, true, false, List, [], ◌∷◌, length, Some, refl, sym, ap, ◌∙◌, arith, subst, map, nat_eq}
use Rattle.std.specs.Prelude.{slice_get, slice_set}
use Rattle.std.specs.List.{AllByRecursion}
use Rattle.std.proofs.lemmas.Bool.{eq-eqb}
use Rattle.sml_tree.specs.declared.bare.Lab.{Lab}
use Rattle.sml_tree.specs.declared.bare.TypeField.{TypeField}
use Rattle.sml_tree.specs.Sets.{has}
use Rattle.sml_tree.specs.IsBare.{IsDistinct}
use Rattle.sml_types.specs.declared.types.Ty.{Ty}
use Rattle.sml_types.specs.declared.types.TyVar.{TyVar}
use Rattle.sml_types.specs.declared.types.TyForm.{TyForm}
use Rattle.sml_types.specs.declared.types.TyForm.TheVariants.{Fields}
use Rattle.sml_types.specs.declared.types.Field.{Field}
use Rattle.sml_types.specs.Tree.{FieldsHead, Tree, App, Part, inst}
use Rattle.sml_types.specs.Forms.{tree, listed, form_tree}
use Rattle.sml_types.specs.Library.{parts}
use Rattle.sml_types.specs.TypeExps.{IsRecord, labelled}
use Rattle.infer_parts.specs.Written.{IsTypeRow, AreTrees, field_of, in_order, put_in}
use Rattle.sml_types.proofs.TreeFacts.{or_none}
use Rattle.infer_parts.proofs.Slots.{labelled_count}

put : {A : Type 0} → List ℕ → List A → List A → List A
put [] xs made = made
put (s ∷ ss) [] made = made
put (s ∷ ss) (x ∷ xs) made = put ss xs (slice_set made s x)

slots : List TypeField → List ℕ
slots fields = map (λ f. f.slot) fields

put_in_is : (fields : List TypeField) (tys : List Ty) (made : List Field) → length tys ≡ length fields → put_in fields tys made ≡ put (slots fields) (in_order fields tys) made
unfolding put slots
put_in_is [] tys made c = refl
put_in_is (f ∷ fields) [] made c = absurd (omega arith)
put_in_is (f ∷ fields) (t ∷ tys) made c = put_in_is fields tys (slice_set made f.slot (field_of f t)) (omega arith)

map_set : {A B : Type 0} (g : A → B) (xs : List A) (i : ℕ) (x : A) → map g (slice_set xs i x) ≡ slice_set (map g xs) i (g x)
map_set g [] i x = refl
map_set g (y ∷ xs) zero x = refl
map_set g (y ∷ xs) (suc i) x = ap (λ ys. g y ∷ ys) (map_set g xs i x)

map_put : {A B : Type 0} (g : A → B) (ss : List ℕ) (xs made : List A) → map g (put ss xs made) ≡ put ss (map g xs) (map g made)
unfolding put
map_put g [] xs made = refl
map_put g (s ∷ ss) [] made = refl
map_put g (s ∷ ss) (x ∷ xs) made = map_put g ss xs (slice_set made s x) ∙ ap (put ss (map g xs)) (map_set g made s x)

set_length : {A : Type 0} (xs : List A) (i : ℕ) (x : A) → length (slice_set xs i x) ≡ length xs
set_length [] i x = refl
set_length (y ∷ xs) zero x = refl
set_length (y ∷ xs) (suc i) x = ap suc (set_length xs i x)

put_length : {A : Type 0} (ss : List ℕ) (xs made : List A) → length (put ss xs made) ≡ length made
unfolding put
put_length [] xs made = refl
put_length (s ∷ ss) [] made = refl
put_length (s ∷ ss) (x ∷ xs) made = put_length ss xs (slice_set made s x) ∙ set_length made s x

set_here : {A : Type 0} (xs : List A) (i : ℕ) (x : A) → i < length xs → slice_get (slice_set xs i x) i ≡ Some x
set_here [] i x l = absurd (omega arith)
set_here (y ∷ xs) zero x l = refl
set_here (y ∷ xs) (suc i) x l = set_here xs i x (omega arith)

set_other : {A : Type 0} (xs : List A) (i j : ℕ) (x : A) → (j ≡ i → ⊥) → slice_get (slice_set xs i x) j ≡ slice_get xs j
set_other [] i j x n = refl
set_other (y ∷ xs) zero zero x n = absurd (n refl)
set_other (y ∷ xs) zero (suc j) x n = refl
set_other (y ∷ xs) (suc i) zero x n = refl
set_other (y ∷ xs) (suc i) (suc j) x n = set_other xs i j x (λ e. n (ap suc e))

put_keeps : {A : Type 0} (ss : List ℕ) (xs made : List A) (j : ℕ) → has ss j ≡ false → slice_get (put ss xs made) j ≡ slice_get made j
unfolding put
put_keeps [] xs made j h = refl
put_keeps (s ∷ ss) [] made j h = refl
put_keeps (s ∷ ss) (x ∷ xs) made j h =
    let p = or_none (nat_eq j s) (has ss j) h in
    put_keeps ss xs (slice_set made s x) j p.1 ∙ set_other made s j x (λ e. let z : true ≡ false = sym (eq-eqb j s e) ∙ p.0 in cc)

-- the items stand at these places
ArePut : {A : Type 0} → List ℕ → List A → List A → Type 0
ArePut [] xs made = Unit {0}
ArePut (s ∷ ss) [] made = Unit {0}
ArePut (s ∷ ss) (x ∷ xs) made = (slice_get made s ≡ Some x) × ArePut ss xs made

are_put : {A : Type 0} (ss : List ℕ) (xs made : List A) → IsDistinct ss → AllByRecursion (λ s. s < length made) ss → ArePut ss xs (put ss xs made)
unfolding put ArePut
are_put [] xs made d l = tt
are_put (s ∷ ss) [] made d l = tt
are_put (s ∷ ss) (x ∷ xs) made d l = (
  put_keeps ss xs (slice_set made s x) s d.0 ∙ set_here made s x l.0,
  are_put ss xs (slice_set made s x) d.1 (subst (λ n. AllByRecursion (λ k. k < n) ss) (sym (set_length made s x)) l.1),
)

both_put : (fields : List TypeField) (ts : List Tree) (labs : List Lab) (types : List Tree) → length ts ≡ length fields → ArePut (slots fields) (map (λ f. f.lab) fields) labs → ArePut (slots fields) ts types → AllByRecursion (λ f. (slice_get labs f.slot ≡ Some f.lab) × (slice_get types f.slot ≡ Some f.ty)) (labelled fields ts)
unfolding ArePut slots
both_put [] ts labs types c a b = tt
both_put (f ∷ fields) [] labs types c a b = absurd (omega arith)
both_put (f ∷ fields) (t ∷ ts) labs types c a b = ((a.0, b.0), both_put fields ts labs types (omega arith) a.1 b.1)

in_order_labs : (fields : List TypeField) (tys : List Ty) → length tys ≡ length fields → map (λ f. f.lab) (in_order fields tys) ≡ map (λ f. f.lab) fields
in_order_labs [] tys c = refl
in_order_labs (f ∷ fields) [] c = absurd (omega arith)
in_order_labs (f ∷ fields) (t ∷ tys) c = ap (λ ls. f.lab ∷ ls) (in_order_labs fields tys (omega arith))

in_order_trees : (p : Ty → Tree) (fields : List TypeField) (tys : List Ty) → length tys ≡ length fields → map (λ f. p f.ty) (in_order fields tys) ≡ map p tys
in_order_trees p [] [] c = refl
in_order_trees p [] (t ∷ tys) c = absurd (omega arith)
in_order_trees p (f ∷ fields) [] c = absurd (omega arith)
in_order_trees p (f ∷ fields) (t ∷ tys) c = ap (λ us. p t ∷ us) (in_order_trees p fields tys (omega arith))

pub length-in_order : (fields : List TypeField) (tys : List Ty) → length tys ≡ length fields → length (in_order fields tys) ≡ length fields
length-in_order [] tys c = refl
length-in_order (f ∷ fields) [] c = absurd (omega arith)
length-in_order (f ∷ fields) (t ∷ tys) c = ap suc (length-in_order fields tys (omega arith))

map_length : {A B : Type 0} (g : A → B) (xs : List A) → length (map g xs) ≡ length xs
map_length g [] = refl
map_length g (x ∷ xs) = ap suc (map_length g xs)

slots_below : (n : ℕ) (fields : List TypeField) → AllByRecursion (λ f. f.slot < n) fields → AllByRecursion (λ s. s < n) (slots fields)
unfolding slots
slots_below n [] h = tt
slots_below n (f ∷ fields) h = (h.0, slots_below n fields h.1)

pub listed_parts : (p : ℕ → Tree) (g : Ty → ℕ) (tys : List Ty) → listed p (map g tys) ≡ parts (map (λ t. p (g t)) tys)
listed_parts p g [] = refl
listed_parts p g (t ∷ tys) = ap (Part (p (g t))) (listed_parts p g tys)

field_parts : (p : ℕ → Tree) (fs : List Field) → listed p (map (λ f. f.ty.0) fs) ≡ parts (map (λ f. p f.ty.0) fs)
field_parts p [] = refl
field_parts p (f ∷ fs) = ap (Part (p f.ty.0)) (field_parts p fs)

pub inst_parts : (f : TyVar → Tree) (ts : List Tree) → inst f (parts ts) ≡ parts (map (inst f) ts)
inst_parts f [] = refl
inst_parts f (t ∷ ts) = ap (Part (inst f t)) (inst_parts f ts)

-- where the fields are put, a record type of them stands
pub record_there : (forms : List TyForm) (f : TyVar → Tree) (fields : List TypeField) (tys : List Ty) (ts : List Tree) → IsTypeRow fields → length tys ≡ length fields → AreTrees forms f tys ts → (r : Tree) × IsRecord (labelled fields ts) r × (form_tree (tree forms) (Fields (put_in fields tys (in_order fields tys))) ≡ inst f r)
unfolding slots
record_there forms f fields tys ts row count same =
    let many : length ts ≡ length fields = sym (map_length (inst f) ts) ∙ sym (ap length same) ∙ map_length (λ t. tree forms t.0) tys ∙ count in
    let names : List Lab = map (λ g. g.lab) fields in
    let labs : List Lab = put (slots fields) names names in
    let types : List Tree = put (slots fields) ts ts in
    let made : List Field = put_in fields tys (in_order fields tys) in
    let made_is : made ≡ put (slots fields) (in_order fields tys) (in_order fields tys) = put_in_is fields tys (in_order fields tys) count in
    let made_labs : map (λ g. g.lab) made ≡ labs =
    ap (map (λ g. g.lab)) made_is ∙ map_put (λ g. g.lab) (slots fields) (in_order fields tys) (in_order fields tys) ∙ ap (λ ls. put (slots fields) ls ls) (in_order_labs fields tys count) in
    let made_types : map (λ g. tree forms g.ty.0) made ≡ map (inst f) types =
    ap (map (λ g. tree forms g.ty.0)) made_is
    ∙ map_put (λ g. tree forms g.ty.0) (slots fields) (in_order fields tys) (in_order fields tys)
    ∙ ap (λ us. put (slots fields) us us) (in_order_trees (λ t. tree forms t.0) fields tys count ∙ same)
    ∙ sym (map_put (inst f) (slots fields) ts ts) in
    let placed = both_put fields ts labs types many (are_put (slots fields) names names row.0 (slots_below (length names) fields (subst (λ n. AllByRecursion (λ g. g.slot < n) fields) (sym (map_length (λ g. g.lab) fields)) row.1))) (are_put (slots fields) ts ts row.0 (slots_below (length ts) fields (subst (λ n. AllByRecursion (λ g. g.slot < n) fields) (sym many) row.1))) in (
      App (FieldsHead labs) (parts types),
      record {
        labs = labs;
        types = types;
        labs_count = put_length (slots fields) names names ∙ map_length (λ g. g.lab) fields ∙ sym (labelled_count fields ts many);
        types_count = put_length (slots fields) ts ts ∙ many ∙ sym (labelled_count fields ts many);
        placed = placed;
        is = refl;
      },
      ap (λ ls. App (FieldsHead ls) (listed (tree forms) (map (λ g. g.ty.0) made))) made_labs
          ∙ ap (App (FieldsHead labs)) (field_parts (tree forms) made ∙ ap parts made_types ∙ sym (inst_parts f types)),
    )
