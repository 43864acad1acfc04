-- Trees that differ in their variables alone have texts that differ in their variables alone.
use Rattle.std.proofs.Common.{◌≡◌, ℕ, Bool, true, false, List, [], ◌∷◌, ◌++◌, refl, sym, subst}
use Rattle.std.specs.Prelude.{slice_get, map, flat_map, codes, not, if◌then◌else◌}
use Rattle.sml_tree.specs.declared.bare.Lab.{Lab}
use Rattle.sml_types.specs.declared.types.TyVar.{TyVar}
use Rattle.sml_types.specs.declared.tables.TypeName.{TypeName}
use Rattle.sml_types.specs.Tree.{Head, ArrowHead, FieldsHead, NameHead, Tree, Variable, App, NoParts, Part, inst, AllVars}
use Rattle.sml_types.specs.Escape.{mentions_head, mentions}
use Rattle.sml_types.specs.Poly.{is_in}
use Rattle.sml_types.proofs.TreeFacts.{and_both}
use Rattle.sml_unify.specs.Solved.{Substitution}
use Rattle.type_text.specs.declared.level.Level.{Level}
use Rattle.type_text.specs.declared.level.Level.TheVariants.{Function, Product, Atom}
use Rattle.type_text.specs.Text.{Item, Byte, Name, plain, is_function, is_atom, enclosed, label_text, is_tuple, spelling, separated, field_texts, record_text, named_text, head_text, type_text, part_texts}

-- ---- Type names that are spelled alike

-- two tables spell the type name of a head alike
abbrev pub IsSpelledAlike : List TypeName → List TypeName → Head → Type 0
IsSpelledAlike a b (NameHead n) = spelling (slice_get a n) ≡ spelling (slice_get b n)
IsSpelledAlike a b _ = Unit {0}

-- and all that stand in a type
abbrev pub AreSpelledAlike : List TypeName → List TypeName → Tree → Type 0
AreSpelledAlike a b (Variable v) = Unit {0}
AreSpelledAlike a b (App h ts) = IsSpelledAlike a b h × AreSpelledAlike a b ts
AreSpelledAlike a b NoParts = Unit {0}
AreSpelledAlike a b (Part t ts) = AreSpelledAlike a b t × AreSpelledAlike a b ts

module _ (a b : List TypeName) (ns : List ℕ) (each : (n : ℕ) → is_in ns n ≡ true → spelling (slice_get a n) ≡ spelling (slice_get b n)) where
  head_spelled : (h : Head) → mentions_head ns h ≡ true → IsSpelledAlike a b h
  head_spelled ArrowHead e = tt
  head_spelled (FieldsHead labs) e = tt
  head_spelled (NameHead n) e = each n e

  -- a type that mentions these type names alone
  pub spelled_alike : (t : Tree) → mentions ns t ≡ true → AreSpelledAlike a b t
  spelled_alike (Variable v) e = tt
  spelled_alike (App h ts) e = let both = and_both (mentions_head ns h) (mentions ns ts) e in (head_spelled h both.0, spelled_alike ts both.1)
  spelled_alike NoParts e = tt
  spelled_alike (Part t ts) e = let both = and_both (mentions ns t) (mentions ns ts) e in (spelled_alike t both.0, spelled_alike ts both.1)

-- ---- Texts that differ in their variables

-- a variable stands for one that is related to it
abbrev pub Becomes : Substitution → (TyVar → TyVar → Type 0) → TyVar → Type 0
Becomes f Q v = (w : TyVar) × (f v ≡ Variable w) × Q v w

module _ (Q : TyVar → TyVar → Type 0) where
  -- two texts have the same bytes, and related variables in the same places
  abbrev pub AreAlike : List Item → List Item → Type 0
  AreAlike [] [] = Unit {0}
  AreAlike (Byte x ∷ xs) (Byte y ∷ ys) = (x ≡ y) × AreAlike xs ys
  AreAlike (Name v ∷ xs) (Name w ∷ ys) = Q v w × AreAlike xs ys
  AreAlike _ _ = ⊥

  abbrev TextsAlike : List (List Item) → List (List Item) → Type 0
  TextsAlike [] [] = Unit {0}
  TextsAlike (x ∷ xs) (y ∷ ys) = AreAlike x y × TextsAlike xs ys
  TextsAlike _ _ = ⊥

  abbrev PartsAlike : List (Level → List Item) → List (Level → List Item) → Type 0
  PartsAlike [] [] = Unit {0}
  PartsAlike (x ∷ xs) (y ∷ ys) = ((level : Level) → AreAlike (x level) (y level)) × PartsAlike xs ys
  PartsAlike _ _ = ⊥

  behind_alike : (a b c d : List Item) → AreAlike a b → AreAlike c d → AreAlike (a ++ c) (b ++ d)
  behind_alike [] [] c d h k = k
  behind_alike [] (y ∷ b) c d h k = absurd h
  behind_alike (Byte x ∷ a) [] c d h k = absurd h
  behind_alike (Byte x ∷ a) (Byte y ∷ b) c d h k = (h.0, behind_alike a b c d h.1 k)
  behind_alike (Byte x ∷ a) (Name w ∷ b) c d h k = absurd h
  behind_alike (Name v ∷ a) [] c d h k = absurd h
  behind_alike (Name v ∷ a) (Byte y ∷ b) c d h k = absurd h
  behind_alike (Name v ∷ a) (Name w ∷ b) c d h k = (h.0, behind_alike a b c d h.1 k)

  plain_alike : (text : List ℕ) → AreAlike (plain text) (plain text)
  plain_alike [] = tt
  plain_alike (x ∷ text) = (refl, plain_alike text)

  three_alike : (a b c d e f : List Item) → AreAlike a b → AreAlike c d → AreAlike e f → AreAlike (a ++ c ++ e) (b ++ d ++ f)
  three_alike a b c d e f h k l = behind_alike (a ++ c) (b ++ d) e f (behind_alike a b c d h k) l

  around_alike : (before after : List ℕ) (a b : List Item) → AreAlike a b → AreAlike (plain before ++ a ++ plain after) (plain before ++ b ++ plain after)
  around_alike before after a b h =
      three_alike (plain before) (plain before) a b (plain after) (plain after) (plain_alike before) h (plain_alike after)

  enclosed_alike : (needed : Bool) (a b : List Item) → AreAlike a b → AreAlike (enclosed needed a) (enclosed needed b)
  enclosed_alike true a b h = around_alike (codes "(") (codes ")") a b h
  enclosed_alike false a b h = h

  chosen_alike : (choice : Bool) (a b c d : List Item) → AreAlike a b → AreAlike c d → AreAlike (if choice then a else c) (if choice then b else d)
  chosen_alike true a b c d h k = h
  chosen_alike false a b c d h k = k

  rest_alike : (separator : List ℕ) (xs ys : List (List Item)) → TextsAlike xs ys → AreAlike (flat_map (λ t. plain separator ++ t) xs) (flat_map (λ t. plain separator ++ t) ys)
  rest_alike separator [] [] h = tt
  rest_alike separator [] (y ∷ ys) h = absurd h
  rest_alike separator (x ∷ xs) [] h = absurd h
  rest_alike separator (x ∷ xs) (y ∷ ys) h =
      behind_alike (plain separator ++ x) (plain separator ++ y) (flat_map (λ t. plain separator ++ t) xs) (flat_map (λ t. plain separator ++ t) ys)
      (behind_alike (plain separator) (plain separator) x y (plain_alike separator) h.0)
      (rest_alike separator xs ys h.1)

  separated_alike : (separator : List ℕ) (xs ys : List (List Item)) → TextsAlike xs ys → AreAlike (separated separator xs) (separated separator ys)
  separated_alike separator [] [] h = tt
  separated_alike separator [] (y ∷ ys) h = absurd h
  separated_alike separator (x ∷ xs) [] h = absurd h
  separated_alike separator (x ∷ xs) (y ∷ ys) h =
      behind_alike x y (flat_map (λ t. plain separator ++ t) xs) (flat_map (λ t. plain separator ++ t) ys) h.0 (rest_alike separator xs ys h.1)

  parts_alike : (level : Level) (ps qs : List (Level → List Item)) → PartsAlike ps qs → TextsAlike (map (λ part. part level) ps) (map (λ part. part level) qs)
  parts_alike level [] [] h = tt
  parts_alike level [] (q ∷ qs) h = absurd h
  parts_alike level (p ∷ ps) [] h = absurd h
  parts_alike level (p ∷ ps) (q ∷ qs) h = (h.0 level, parts_alike level ps qs h.1)

  fields_alike : (labs : List Lab) (ps qs : List (Level → List Item)) → PartsAlike ps qs → TextsAlike (field_texts labs ps) (field_texts labs qs)
  fields_alike [] ps qs h = tt
  fields_alike (lab ∷ labs) [] [] h = tt
  fields_alike (lab ∷ labs) [] (q ∷ qs) h = absurd h
  fields_alike (lab ∷ labs) (p ∷ ps) [] h = absurd h
  fields_alike (lab ∷ labs) (p ∷ ps) (q ∷ qs) h = (
    three_alike (plain (label_text lab)) (plain (label_text lab)) (plain (codes " : ")) (plain (codes " : ")) (p Function) (q Function) (plain_alike (label_text lab)) (plain_alike (codes " : ")) (h.0 Function),
    fields_alike labs ps qs h.1,
  )

  record_alike : (labs : List Lab) (ps qs : List (Level → List Item)) (level : Level) → PartsAlike ps qs → AreAlike (record_text labs ps level) (record_text labs qs level)
  record_alike [] ps qs level h = plain_alike (codes "unit")
  record_alike (lab ∷ labs) ps qs level h =
      chosen_alike (is_tuple (lab ∷ labs)) _ _ _ _
      (enclosed_alike (is_atom level) (separated (codes " * ") (map (λ part. part Atom) ps)) (separated (codes " * ") (map (λ part. part Atom) qs)) (separated_alike (codes " * ") (map (λ part. part Atom) ps) (map (λ part. part Atom) qs) (parts_alike Atom ps qs h)))
      (around_alike (codes "{") (codes "}") (separated (codes ", ") (field_texts (lab ∷ labs) ps)) (separated (codes ", ") (field_texts (lab ∷ labs) qs)) (separated_alike (codes ", ") (field_texts (lab ∷ labs) ps) (field_texts (lab ∷ labs) qs) (fields_alike (lab ∷ labs) ps qs h)))

  named_alike : (name : List ℕ) (ps qs : List (Level → List Item)) → PartsAlike ps qs → AreAlike (named_text name ps) (named_text name qs)
  named_alike name [] [] h = plain_alike name
  named_alike name [] (q ∷ qs) h = absurd h
  named_alike name (p ∷ ps) [] h = absurd h
  named_alike name (p ∷ []) (q ∷ []) h =
      three_alike (p Atom) (q Atom) (plain (codes " ")) (plain (codes " ")) (plain name) (plain name) (h.0 Atom) (plain_alike (codes " ")) (plain_alike name)
  named_alike name (p ∷ []) (q ∷ q2 ∷ qs) h = absurd h.1
  named_alike name (p ∷ p2 ∷ ps) (q ∷ []) h = absurd h.1
  named_alike name (p ∷ p2 ∷ ps) (q ∷ q2 ∷ qs) h =
      behind_alike (plain (codes "(") ++ separated (codes ", ") (map (λ part. part Function) (p ∷ p2 ∷ ps)) ++ plain (codes ") ")) (plain (codes "(") ++ separated (codes ", ") (map (λ part. part Function) (q ∷ q2 ∷ qs)) ++ plain (codes ") ")) (plain name) (plain name)
      (around_alike (codes "(") (codes ") ") (separated (codes ", ") (map (λ part. part Function) (p ∷ p2 ∷ ps))) (separated (codes ", ") (map (λ part. part Function) (q ∷ q2 ∷ qs))) (separated_alike (codes ", ") (map (λ part. part Function) (p ∷ p2 ∷ ps)) (map (λ part. part Function) (q ∷ q2 ∷ qs)) (parts_alike Function (p ∷ p2 ∷ ps) (q ∷ q2 ∷ qs) h)))
      (plain_alike name)

  module _ (a b : List TypeName) where
    head_alike : (head : Head) (ps qs : List (Level → List Item)) (level : Level) → IsSpelledAlike a b head → PartsAlike ps qs → AreAlike (head_text a head ps level) (head_text b head qs level)
    head_alike ArrowHead [] [] level s h = tt
    head_alike ArrowHead [] (q ∷ qs) level s h = absurd h
    head_alike ArrowHead (p ∷ ps) [] level s h = absurd h
    head_alike ArrowHead (p ∷ []) (q ∷ []) level s h = tt
    head_alike ArrowHead (p ∷ []) (q ∷ q2 ∷ qs) level s h = absurd h.1
    head_alike ArrowHead (p ∷ p2 ∷ ps) (q ∷ []) level s h = absurd h.1
    head_alike ArrowHead (p ∷ p2 ∷ []) (q ∷ q2 ∷ []) level s h =
        enclosed_alike (not (is_function level)) (p Product ++ plain (codes " -> ") ++ p2 Function) (q Product ++ plain (codes " -> ") ++ q2 Function)
        (three_alike (p Product) (q Product) (plain (codes " -> ")) (plain (codes " -> ")) (p2 Function) (q2 Function) (h.0 Product) (plain_alike (codes " -> ")) (h.1.0 Function))
    head_alike ArrowHead (p ∷ p2 ∷ []) (q ∷ q2 ∷ q3 ∷ qs) level s h = absurd h.1.1
    head_alike ArrowHead (p ∷ p2 ∷ p3 ∷ ps) (q ∷ q2 ∷ []) level s h = absurd h.1.1
    head_alike ArrowHead (p ∷ p2 ∷ p3 ∷ ps) (q ∷ q2 ∷ q3 ∷ qs) level s h = tt
    head_alike (FieldsHead labs) ps qs level s h = record_alike labs ps qs level h
    head_alike (NameHead n) ps qs level s h =
        subst (λ (text : List ℕ). AreAlike (named_text (spelling (slice_get a n)) ps) (named_text text qs)) s (named_alike (spelling (slice_get a n)) ps qs h)

    both_alike : (f : Substitution) (t : Tree) → AreSpelledAlike a b t → AllVars (Becomes f Q) t → ((level : Level) → AreAlike (type_text a t level) (type_text b (inst f t) level)) × PartsAlike (part_texts a t) (part_texts b (inst f t))
    both_alike f (Variable v) s h =
        subst (λ (u : Tree). ((level : Level) → AreAlike (Name v ∷ []) (type_text b u level)) × PartsAlike [] (part_texts b u)) (sym h.1) (λ level. (h.2, tt), tt)
    both_alike f (App head ts) s h =
        (λ level. head_alike head (part_texts a ts) (part_texts b (inst f ts)) level s.0 (both_alike f ts s.1 h).1, tt)
    both_alike f NoParts s h = (λ level. tt, tt)
    both_alike f (Part t ts) s h = (λ level. tt, ((both_alike f t s.0 h.0).0, (both_alike f ts s.1 h.1).1))

    -- types whose variables are related have texts that are alike
    pub text_alike : (f : Substitution) (t u : Tree) (level : Level) → u ≡ inst f t → AreSpelledAlike a b t → AllVars (Becomes f Q) t → AreAlike (type_text a t level) (type_text b u level)
    text_alike f t u level e s h = subst (λ (x : Tree). AreAlike (type_text a t level) (type_text b x level)) (sym e) ((both_alike f t s h).0 level)
