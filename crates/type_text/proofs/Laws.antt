-- What the steps write is what the definition says.
use Rattle.std.proofs.Common.{◌≡◌, ℕ, ◌+◌, Bool, true, false, List, [], ◌∷◌, ◌++◌, refl, sym, ap, ◌∙◌, append_assoc}
use Rattle.std.specs.Prelude.{map, fold, flat_map, not, cond, nat_eq, ◌||◌, if◌then◌else◌, codes}
use Rattle.std.specs.List.{position_or_len}
use Rattle.std.proofs.lemmas.List.{append-nil}
use Rattle.std.proofs.lemmas.List.Sums.{fold-append}
use Rattle.std.proofs.lemmas.List.Folds.{list_any-append}
use Rattle.std.proofs.lemmas.Bool.{eqb-true, eq-eqb}
use Rattle.sml_types.specs.declared.types.TyVar.{TyVar}
use Rattle.sml_types.specs.declared.tables.TypeName.{TypeName}
use Rattle.sml_types.specs.Poly.{has_num, is_in}
use Rattle.type_text.specs.Text.{Item, Byte, Name, noted, in_order, numbers, letters, variable_text, filled, Entry, scheme_text, open_numbers, shown_type, line, lines}
use Rattle.type_text.specs.States.{State, state, with_bytes, with_item, with_items, with_line}

-- ---- numbers in order of first occurrence

abbrev place : ℕ → List ℕ → ℕ
place x xs = position_or_len (nat_eq x) xs

or_true : (a : Bool) → (a || true) ≡ true
or_true true = refl
or_true false = refl

or_false : (a : Bool) → (a || false) ≡ a
or_false true = refl
or_false false = refl

or_assoc : (a b c : Bool) → ((a || b) || c) ≡ (a || (b || c))
or_assoc true b c = refl
or_assoc false b c = refl

has_last : (x : ℕ) (xs : List ℕ) → is_in (xs ++ x ∷ []) x ≡ true
has_last x xs = list_any-append (nat_eq x) xs (x ∷ []) ∙ ap (λ b. is_in xs x || (b || false)) (eq-eqb x x refl) ∙ or_true (is_in xs x)

has_more : (x y : ℕ) (xs : List ℕ) → is_in xs x ≡ true → is_in (xs ++ y ∷ []) x ≡ true
has_more x y xs h = list_any-append (nat_eq x) xs (y ∷ []) ∙ ap (λ b. b || is_in (y ∷ []) x) h

place_last : (x : ℕ) (xs : List ℕ) → place x (xs ++ x ∷ []) ≡ place x xs
place_last x [] = ap (λ b. cond (not b) 1 0) (eq-eqb x x refl)
place_last x (y ∷ xs) = ap (λ n. cond (not (nat_eq x y)) (1 + n) 0) (place_last x xs)

place_more : (x y : ℕ) (xs : List ℕ) → is_in xs x ≡ true → place x (xs ++ y ∷ []) ≡ place x xs
place_more x y [] h = cc
place_more x y (z ∷ xs) h = go (nat_eq x z) (λ k. place_more x y xs k) h
  where
    go : (b : Bool) → (is_in xs x ≡ true → place x (xs ++ y ∷ []) ≡ place x xs) → (b || is_in xs x) ≡ true → cond (not b) (1 + place x (xs ++ y ∷ [])) 0 ≡ cond (not b) (1 + place x xs) 0
    go true k q = refl
    go false k q = ap (λ n. 1 + n) (k q)

-- a number keeps its place once it is noted
record Kept (x : ℕ) (xs ys : List ℕ) : Type 0 where
  has : is_in ys x ≡ true
  same : place x ys ≡ place x xs

noted_it : (x : ℕ) (xs : List ℕ) → Kept x xs (noted xs x)
noted_it x xs = go (is_in xs x) refl
  where
    go : (b : Bool) → is_in xs x ≡ b → Kept x xs (if b then xs else xs ++ x ∷ [])
    go true h = record { has = h; same = refl }
    go false h = record { has = has_last x xs; same = place_last x xs }

noted_other : (x y : ℕ) (xs : List ℕ) → is_in xs x ≡ true → Kept x xs (noted xs y)
noted_other x y xs h = go (is_in xs y)
  where
    go : (b : Bool) → Kept x xs (if b then xs else xs ++ y ∷ [])
    go true = record { has = h; same = refl }
    go false = record { has = has_more x y xs h; same = place_more x y xs h }

noted_all : (x : ℕ) (xs ys : List ℕ) → is_in xs x ≡ true → Kept x xs (fold noted xs ys)
noted_all x xs [] h = record { has = h; same = refl }
noted_all x xs (y ∷ ys) h =
    let first = noted_other x y xs h in
    let rest = noted_all x (noted xs y) ys first.has in record { has = rest.has; same = rest.same ∙ first.same }

-- its place is the one that it is noted at
at_last : (x : ℕ) (xs ys zs : List ℕ) → place x (fold noted (fold noted (noted xs x) ys) zs) ≡ place x xs
at_last x xs ys zs =
    let first = noted_it x xs in
    let second = noted_all x (noted xs x) ys first.has in
    let third = noted_all x (fold noted (noted xs x) ys) zs second.has in third.same ∙ second.same ∙ first.same

-- ---- the items of one line

abbrev text_if : Bool → List ℕ → List ℕ → TyVar → List ℕ
text_if b own open_ones v = if b then (if v.eq then codes "''" else codes "'") ++ letters (place v.num own) else codes "'_" ++ letters (place v.num open_ones)

-- in four parts the last two belong together
regroup : {A : Type 0} (a b c d e : List A) → c ≡ e → (a ++ (b ++ c)) ++ d ≡ a ++ ((b ++ e) ++ d)
regroup a b c d e h = append_assoc a (b ++ c) d ∙ ap (λ z. a ++ ((b ++ z) ++ d)) h

told : (g own open_ones out : List ℕ) (items : List Item) (l m : List ℕ) → with_items (state g own open_ones out) items ≡ state g (fold noted own (numbers (is_in g) items)) (fold noted open_ones (numbers (λ x. not (is_in g x)) items)) (out ++ filled (variable_text (is_in g) (fold noted (fold noted own (numbers (is_in g) items)) l) (fold noted (fold noted open_ones (numbers (λ x. not (is_in g x)) items)) m)) items)
unfolding with_items
told g own open_ones out [] l m = ap (state g own open_ones) (sym (append-nil out))
told g own open_ones out (Byte b ∷ items) l m =
    told g own open_ones (out ++ b ∷ []) items l m
    ∙ ap (state g (fold noted own (numbers (is_in g) items)) (fold noted open_ones (numbers (λ x. not (is_in g x)) items))) (append_assoc out (b ∷ []) _)
told g own open_ones out (Name v ∷ items) l m = go (is_in g v.num) (λ a b c. told g a b c items l m)
  where
    go : (b : Bool) → ((a b c : List ℕ) → with_items (state g a b c) items ≡ state g (fold noted a (numbers (is_in g) items)) (fold noted b (numbers (λ x. not (is_in g x)) items)) (c ++ filled (variable_text (is_in g) (fold noted (fold noted a (numbers (is_in g) items)) l) (fold noted (fold noted b (numbers (λ x. not (is_in g x)) items)) m)) items)) → fold with_item (if b then state g (noted own v.num) open_ones (out ++ text_if b own open_ones v) else state g own (noted open_ones v.num) (out ++ text_if b own open_ones v)) items ≡ state g (fold noted own (if b then v.num ∷ numbers (is_in g) items else numbers (is_in g) items)) (fold noted open_ones (if not b then v.num ∷ numbers (λ x. not (is_in g x)) items else numbers (λ x. not (is_in g x)) items)) (out ++ (text_if b (fold noted (fold noted own (if b then v.num ∷ numbers (is_in g) items else numbers (is_in g) items)) l) (fold noted (fold noted open_ones (if not b then v.num ∷ numbers (λ x. not (is_in g x)) items else numbers (λ x. not (is_in g x)) items)) m) v ++ filled (variable_text (is_in g) (fold noted (fold noted own (if b then v.num ∷ numbers (is_in g) items else numbers (is_in g) items)) l) (fold noted (fold noted open_ones (if not b then v.num ∷ numbers (λ x. not (is_in g x)) items else numbers (λ x. not (is_in g x)) items)) m)) items))
    go true k =
        k (noted own v.num) open_ones (out ++ text_if true own open_ones v)
        ∙ ap (state g (fold noted (noted own v.num) (numbers (is_in g) items)) (fold noted open_ones (numbers (λ x. not (is_in g x)) items))) (regroup out (if v.eq then codes "''" else codes "'") (letters (place v.num own)) _ _ (ap letters (sym (at_last v.num own (numbers (is_in g) items) l))))
    go false k =
        k own (noted open_ones v.num) (out ++ text_if false own open_ones v)
        ∙ ap (state g (fold noted own (numbers (is_in g) items)) (fold noted (noted open_ones v.num) (numbers (λ x. not (is_in g x)) items))) (regroup out (codes "'_") (letters (place v.num open_ones)) _ _ (ap letters (sym (at_last v.num open_ones (numbers (λ x. not (is_in g x)) items) m))))

-- ---- the scheme's numbers without doubles are as good as its variables

in_noted : (x y : ℕ) (xs : List ℕ) → is_in (noted xs y) x ≡ (is_in xs x || nat_eq x y)
in_noted x y xs = go (is_in xs y) refl (nat_eq x y) refl
  where
    go : (b : Bool) → is_in xs y ≡ b → (d : Bool) → nat_eq x y ≡ d → is_in (if b then xs else xs ++ y ∷ []) x ≡ (is_in xs x || d)
    go true h true e = let same = eqb-true x y e in ap (is_in xs) same ∙ h ∙ sym (or_true (is_in xs x))
    go true h false e = sym (or_false (is_in xs x))
    go false h d e = list_any-append (nat_eq x) xs (y ∷ []) ∙ ap (λ w. is_in xs x || w) (or_false (nat_eq x y) ∙ e)

in_all : (x : ℕ) (vs : List TyVar) (xs : List ℕ) → is_in (fold noted xs (map (λ v. v.num) vs)) x ≡ (is_in xs x || has_num vs x)
in_all x [] xs = sym (or_false (is_in xs x))
in_all x (v ∷ vs) xs = in_all x vs (noted xs v.num) ∙ ap (λ b. b || has_num vs x) (in_noted x v.num xs) ∙ or_assoc (is_in xs x) (nat_eq x v.num) (has_num vs x)

numbers_same : (p q : ℕ → Bool) (items : List Item) → ((x : ℕ) → p x ≡ q x) → numbers p items ≡ numbers q items
numbers_same p q [] h = refl
numbers_same p q (Byte b ∷ items) h = numbers_same p q items h
numbers_same p q (Name v ∷ items) h = ap (λ b. if b then v.num ∷ numbers p items else numbers p items) (h v.num) ∙ ap (λ ns. if q v.num then v.num ∷ ns else ns) (numbers_same p q items h)

filled_same : (f g : TyVar → List ℕ) (items : List Item) → ((v : TyVar) → f v ≡ g v) → filled f items ≡ filled g items
filled_same f g [] h = refl
filled_same f g (Byte b ∷ items) h = ap (λ z. b ∷ z) (filled_same f g items h)
filled_same f g (Name v ∷ items) h = ap (λ z. z ++ filled f items) (h v) ∙ ap (λ z. g v ++ z) (filled_same f g items h)

-- ---- the lines

module _ (names : List TypeName) where
  abbrev own_of : (ℕ → Bool) → Entry → List ℕ
  own_of test e = in_order (numbers test (scheme_text names e.scheme))

  abbrev generals : Entry → List ℕ
  generals e = in_order (map (λ v. v.num) e.scheme.vars)

  same_test : (e : Entry) (x : ℕ) → is_in (generals e) x ≡ has_num e.scheme.vars x
  same_test e x = in_all x e.scheme.vars []

  -- the state once the type is shown
  after_type : (s : State) (e : Entry) (later : List ℕ) → with_line names s e ≡ with_bytes (state (generals e) (own_of (is_in (generals e)) e) (fold noted s.open_ones (numbers (λ x. not (is_in (generals e) x)) (scheme_text names e.scheme))) ((((s.out ++ codes "val ") ++ e.spelling) ++ codes " : ") ++ filled (variable_text (is_in (generals e)) (own_of (is_in (generals e)) e) (fold noted (fold noted s.open_ones (numbers (λ x. not (is_in (generals e) x)) (scheme_text names e.scheme))) later)) (scheme_text names e.scheme))) (codes "\n")
  after_type s e later = ap (λ z. with_bytes z (codes "\n")) (told (generals e) [] s.open_ones (((s.out ++ codes "val ") ++ e.spelling) ++ codes " : ") (scheme_text names e.scheme) [] later)

  open_same : (e : Entry) → numbers (λ x. not (is_in (generals e) x)) (scheme_text names e.scheme) ≡ open_numbers names e.scheme
  open_same e = numbers_same (λ x. not (is_in (generals e) x)) (λ x. not (has_num e.scheme.vars x)) (scheme_text names e.scheme) (λ x. ap not (same_test e x))

  line_open : (s : State) (e : Entry) → (with_line names s e).open_ones ≡ fold noted s.open_ones (open_numbers names e.scheme)
  line_open s e = ap (λ z. z.open_ones) (after_type s e []) ∙ ap (fold noted s.open_ones) (open_same e)

  shown_same : (e : Entry) (opens : List ℕ) → filled (variable_text (is_in (generals e)) (own_of (is_in (generals e)) e) opens) (scheme_text names e.scheme) ≡ shown_type names opens e.scheme
  shown_same e opens =
      ap
      (λ own. filled (variable_text (is_in (generals e)) own opens) (scheme_text names e.scheme))
      (ap in_order (numbers_same (is_in (generals e)) (has_num e.scheme.vars) (scheme_text names e.scheme) (same_test e)))
      ∙ filled_same (variable_text (is_in (generals e)) (own_of (has_num e.scheme.vars) e) opens) (variable_text (has_num e.scheme.vars) (own_of (has_num e.scheme.vars) e) opens) (scheme_text names e.scheme) (λ v. ap (λ b. text_if b (own_of (has_num e.scheme.vars) e) opens v) (same_test e v.num))

  -- the pieces of a line in a row
  in_a_row : (out a b c d n : List ℕ) → ((((out ++ a) ++ b) ++ c) ++ d) ++ n ≡ out ++ ((((a ++ b) ++ c) ++ d) ++ n)
  in_a_row out a b c d n =
      ap (λ z. (((z ++ c) ++ d) ++ n)) (append_assoc out a b)
      ∙ ap (λ z. (z ++ d) ++ n) (append_assoc out (a ++ b) c)
      ∙ ap (λ z. z ++ n) (append_assoc out ((a ++ b) ++ c) d)
      ∙ append_assoc out (((a ++ b) ++ c) ++ d) n

  line_out : (s : State) (e : Entry) (later : List ℕ) → (with_line names s e).out ≡ s.out ++ line names (fold noted (fold noted s.open_ones (open_numbers names e.scheme)) later) e
  line_out s e later =
      ap (λ z. z.out) (after_type s e later)
      ∙ ap (λ z. ((((s.out ++ codes "val ") ++ e.spelling) ++ codes " : ") ++ z) ++ codes "\n") (shown_same e (fold noted (fold noted s.open_ones (numbers (λ x. not (is_in (generals e) x)) (scheme_text names e.scheme))) later))
      ∙ ap (λ ns. ((((s.out ++ codes "val ") ++ e.spelling) ++ codes " : ") ++ shown_type names (fold noted (fold noted s.open_ones ns) later) e.scheme) ++ codes "\n") (open_same e)
      ∙ in_a_row s.out (codes "val ") e.spelling (codes " : ") (shown_type names (fold noted (fold noted s.open_ones (open_numbers names e.scheme)) later) e.scheme) (codes "\n")

  abbrev opens_of : List Entry → List ℕ
  opens_of entries = flat_map (λ e. open_numbers names e.scheme) entries

  all_out : (s : State) (entries : List Entry) → (fold (with_line names) s entries).out ≡ s.out ++ flat_map (line names (fold noted s.open_ones (opens_of entries))) entries
  all_out s [] = sym (append-nil s.out)
  all_out s (e ∷ entries) =
      all_out (with_line names s e) entries
      ∙ ap (λ out. out ++ flat_map (line names (fold noted (with_line names s e).open_ones (opens_of entries))) entries) (line_out s e (opens_of entries))
      ∙ append_assoc s.out (line names (fold noted (fold noted s.open_ones (open_numbers names e.scheme)) (opens_of entries)) e) (flat_map (line names (fold noted (with_line names s e).open_ones (opens_of entries))) entries)
      ∙ ap (λ os. s.out ++ (line names (fold noted (fold noted s.open_ones (open_numbers names e.scheme)) (opens_of entries)) e ++ flat_map (line names (fold noted os (opens_of entries))) entries)) (line_open s e)
      ∙ ap (λ whole. s.out ++ (line names whole e ++ flat_map (line names whole) entries)) (sym (fold-append noted s.open_ones (open_numbers names e.scheme) (opens_of entries)))

  pub all_lines : (entries : List Entry) → (fold (with_line names) (state [] [] [] []) entries).out ≡ lines names entries
  all_lines entries = all_out (state [] [] [] []) entries
