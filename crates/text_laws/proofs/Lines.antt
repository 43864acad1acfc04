-- Lines whose types differ in the numbers of their variables alone are the same.
use Rattle.std.proofs.Common.{◌≡◌, ℕ, Bool, true, false, List, [], ◌∷◌, ◌++◌, refl, sym, ap, ◌∙◌}
use Rattle.std.specs.Prelude.{map, flat_map, nat_eq, not, if◌then◌else◌, codes}
use Rattle.std.specs.List.{AllByRecursion, position_or_len}
use Rattle.std.proofs.lemmas.List.{map-append}
use Rattle.sml_types.specs.declared.types.TyVar.{TyVar}
use Rattle.sml_types.specs.declared.tables.TypeName.{TypeName}
use Rattle.sml_types.specs.Poly.{has_num}
use Rattle.type_text.specs.Text.{Item, Byte, Name, in_order, numbers, letters, variable_text, filled, Entry, scheme_text, open_numbers, shown_type, line, lines}
use Rattle.text_laws.proofs.Alike.{AreAlike}
use Rattle.text_laws.proofs.Orders.{both_hold, Returns, place_alike, order_alike, order_returns}

module _ (forth back : ℕ → ℕ) where
  -- a number stands for another, and back; both variables have one mark, and both are a scheme's own or both are open
  pub record IsPair (is_own is_others : ℕ → Bool) (v w : TyVar) : Type 0 where
    pub goes : forth v.num ≡ w.num
    pub comes : back w.num ≡ v.num
    pub marked : v.eq ≡ w.eq
    pub owned : is_own v.num ≡ is_others w.num

  returns_so : (is_own is_others : ℕ → Bool) (v w : TyVar) → IsPair is_own is_others v w → Returns forth back v.num
  returns_so is_own is_others v w h = ap back h.goes ∙ h.comes

  module _ (is_own is_others : ℕ → Bool) where
    abbrev Paired : TyVar → TyVar → Type 0
    Paired v w = IsPair is_own is_others v w

    -- ---- Numbers

    chosen : (b c : Bool) (x y : ℕ) (xs ys : List ℕ) → b ≡ c → forth x ≡ y → ys ≡ map forth xs → (if c then y ∷ ys else ys) ≡ map forth (if b then x ∷ xs else xs)
    chosen true true x y xs ys e h k = ap (λ (z : ℕ). z ∷ ys) (sym h) ∙ ap (λ (zs : List ℕ). forth x ∷ zs) k
    chosen false false x y xs ys e h k = k
    chosen true false x y xs ys e h k = cc
    chosen false true x y xs ys e h k = cc

    module _ (p q : ℕ → Bool) (same : (v w : TyVar) → Paired v w → p v.num ≡ q w.num) where
      -- the numbers that pass a test are those that pass the other, renamed
      numbers_alike : (xs ys : List Item) → AreAlike Paired xs ys → numbers q ys ≡ map forth (numbers p xs)
      numbers_alike [] [] h = refl
      numbers_alike [] (y ∷ ys) h = absurd h
      numbers_alike (Byte x ∷ xs) [] h = absurd h
      numbers_alike (Byte x ∷ xs) (Byte y ∷ ys) h = numbers_alike xs ys h.1
      numbers_alike (Byte x ∷ xs) (Name w ∷ ys) h = absurd h
      numbers_alike (Name v ∷ xs) [] h = absurd h
      numbers_alike (Name v ∷ xs) (Byte y ∷ ys) h = absurd h
      numbers_alike (Name v ∷ xs) (Name w ∷ ys) h = chosen (p v.num) (q w.num) v.num w.num (numbers p xs) (numbers q ys) (same v w h.0) h.0.goes (numbers_alike xs ys h.1)

    chosen_returns : (b : Bool) (x : ℕ) (xs : List ℕ) → Returns forth back x → AllByRecursion (Returns forth back) xs → AllByRecursion (Returns forth back) (if b then x ∷ xs else xs)
    chosen_returns true x xs h k = (h, k)
    chosen_returns false x xs h k = k

    numbers_return : (p : ℕ → Bool) (xs ys : List Item) → AreAlike Paired xs ys → AllByRecursion (Returns forth back) (numbers p xs)
    numbers_return p [] ys h = tt
    numbers_return p (Byte x ∷ xs) [] h = absurd h
    numbers_return p (Byte x ∷ xs) (Byte y ∷ ys) h = numbers_return p xs ys h.1
    numbers_return p (Byte x ∷ xs) (Name w ∷ ys) h = absurd h
    numbers_return p (Name v ∷ xs) [] h = absurd h
    numbers_return p (Name v ∷ xs) (Byte y ∷ ys) h = absurd h
    numbers_return p (Name v ∷ xs) (Name w ∷ ys) h = chosen_returns (p v.num) v.num (numbers p xs) (returns_so is_own is_others v w h.0) (numbers_return p xs ys h.1)

    -- ---- Names of variables

    names_same : (b c d e : Bool) (i j k l : ℕ) → b ≡ c → d ≡ e → i ≡ j → k ≡ l → (if b then (if d then codes "''" else codes "'") ++ letters i else codes "'_" ++ letters k) ≡ (if c then (if e then codes "''" else codes "'") ++ letters j else codes "'_" ++ letters l)
    names_same b c d e i j k l f g h m =
        ap (λ (x : Bool). if x then (if d then codes "''" else codes "'") ++ letters i else codes "'_" ++ letters k) f
        ∙ ap (λ (x : Bool). if c then (if x then codes "''" else codes "'") ++ letters i else codes "'_" ++ letters k) g
        ∙ ap (λ (x : ℕ). if c then (if e then codes "''" else codes "'") ++ letters x else codes "'_" ++ letters k) h
        ∙ ap (λ (x : ℕ). if c then (if e then codes "''" else codes "'") ++ letters j else codes "'_" ++ letters x) m

    module _ (own open_ones : List ℕ) (own_back : AllByRecursion (Returns forth back) own) (open_back : AllByRecursion (Returns forth back) open_ones) where
      place_same : (v w : TyVar) (xs : List ℕ) → Paired v w → AllByRecursion (Returns forth back) xs → position_or_len (nat_eq v.num) xs ≡ position_or_len (nat_eq w.num) (map forth xs)
      place_same v w xs h k =
          sym (place_alike forth back v.num xs (returns_so is_own is_others v w h) k)
          ∙ ap (λ (x : ℕ). position_or_len (nat_eq x) (map forth xs)) h.goes

      variable_same : (v w : TyVar) → Paired v w → variable_text is_own own open_ones v ≡ variable_text is_others (map forth own) (map forth open_ones) w
      variable_same v w h =
          names_same (is_own v.num) (is_others w.num) v.eq w.eq _ _ _ _ h.owned h.marked (place_same v w own h own_back) (place_same v w open_ones h open_back)

      filled_alike : (xs ys : List Item) → AreAlike Paired xs ys → filled (variable_text is_own own open_ones) xs ≡ filled (variable_text is_others (map forth own) (map forth open_ones)) ys
      filled_alike [] [] h = refl
      filled_alike [] (y ∷ ys) h = absurd h
      filled_alike (Byte x ∷ xs) [] h = absurd h
      filled_alike (Byte x ∷ xs) (Byte y ∷ ys) h = let first = h.0 in let rest = filled_alike xs ys h.1 in cc
      filled_alike (Byte x ∷ xs) (Name w ∷ ys) h = absurd h
      filled_alike (Name v ∷ xs) [] h = absurd h
      filled_alike (Name v ∷ xs) (Byte y ∷ ys) h = absurd h
      filled_alike (Name v ∷ xs) (Name w ∷ ys) h =
          ap (λ (z : List ℕ). z ++ filled (variable_text is_own own open_ones) xs) (variable_same v w h.0)
          ∙ ap (λ (z : List ℕ). variable_text is_others (map forth own) (map forth open_ones) w ++ z) (filled_alike xs ys h.1)

  -- ---- Lines

  module _ (a b : List TypeName) where
    -- two names are spelled alike, and their schemes differ in the numbers of their variables alone
    pub record IsLineAlike (e f : Entry) : Type 0 where
      pub spelled : e.spelling ≡ f.spelling
      pub types : AreAlike (IsPair (has_num e.scheme.vars) (has_num f.scheme.vars)) (scheme_text a e.scheme) (scheme_text b f.scheme)

    open_alike : (e f : Entry) → IsLineAlike e f → open_numbers b f.scheme ≡ map forth (open_numbers a e.scheme)
    open_alike e f h =
        numbers_alike (has_num e.scheme.vars) (has_num f.scheme.vars) (λ x. not (has_num e.scheme.vars x)) (λ x. not (has_num f.scheme.vars x)) (λ v w q. ap not q.owned) (scheme_text a e.scheme) (scheme_text b f.scheme) h.types

    open_returns : (e f : Entry) → IsLineAlike e f → AllByRecursion (Returns forth back) (open_numbers a e.scheme)
    open_returns e f h =
        numbers_return (has_num e.scheme.vars) (has_num f.scheme.vars) (λ x. not (has_num e.scheme.vars x)) (scheme_text a e.scheme) (scheme_text b f.scheme) h.types

    module _ (open_ones : List ℕ) (open_back : AllByRecursion (Returns forth back) open_ones) where
      type_same : (e f : Entry) → IsLineAlike e f → shown_type a open_ones e.scheme ≡ shown_type b (map forth open_ones) f.scheme
      type_same e f h =
          let own = numbers (has_num e.scheme.vars) (scheme_text a e.scheme) in
          let own_back = numbers_return (has_num e.scheme.vars) (has_num f.scheme.vars) (has_num e.scheme.vars) (scheme_text a e.scheme) (scheme_text b f.scheme) h.types in
          let own_same = numbers_alike (has_num e.scheme.vars) (has_num f.scheme.vars) (has_num e.scheme.vars) (has_num f.scheme.vars) (λ v w q. q.owned) (scheme_text a e.scheme) (scheme_text b f.scheme) h.types in
          filled_alike (has_num e.scheme.vars) (has_num f.scheme.vars) (in_order own) open_ones (order_returns forth back own own_back) open_back (scheme_text a e.scheme) (scheme_text b f.scheme) h.types
          ∙ ap (λ (zs : List ℕ). filled (variable_text (has_num f.scheme.vars) zs (map forth open_ones)) (scheme_text b f.scheme)) (sym (order_alike forth back own own_back) ∙ ap in_order (sym own_same))

      line_same : (e f : Entry) → IsLineAlike e f → line a open_ones e ≡ line b (map forth open_ones) f
      line_same e f h =
          ap (λ (z : List ℕ). codes "val " ++ z ++ codes " : " ++ shown_type a open_ones e.scheme ++ codes "\n") h.spelled
          ∙ ap (λ (z : List ℕ). codes "val " ++ f.spelling ++ codes " : " ++ z ++ codes "\n") (type_same e f h)

    -- names with two entries each
    module _ (e f : ℕ → Entry) where
      abbrev AreLinesAlike : List ℕ → Type 0
      AreLinesAlike xs = AllByRecursion (λ x. IsLineAlike (e x) (f x)) xs

      abbrev opens : List ℕ → List ℕ
      opens xs = flat_map (λ e. open_numbers a e.scheme) (map e xs)

      all_open : (xs : List ℕ) → AreLinesAlike xs → flat_map (λ e. open_numbers b e.scheme) (map f xs) ≡ map forth (opens xs)
      all_open [] h = refl
      all_open (x ∷ xs) h =
          ap (λ (z : List ℕ). z ++ flat_map (λ e. open_numbers b e.scheme) (map f xs)) (open_alike (e x) (f x) h.0)
          ∙ ap (λ (z : List ℕ). map forth (open_numbers a (e x).scheme) ++ z) (all_open xs h.1)
          ∙ sym (map-append forth (open_numbers a (e x).scheme) (opens xs))

      all_return : (xs : List ℕ) → AreLinesAlike xs → AllByRecursion (Returns forth back) (opens xs)
      all_return [] h = tt
      all_return (x ∷ xs) h = both_hold (Returns forth back) (open_numbers a (e x).scheme) (opens xs) (open_returns (e x) (f x) h.0) (all_return xs h.1)

      each_line : (open_ones : List ℕ) → AllByRecursion (Returns forth back) open_ones → (xs : List ℕ) → AreLinesAlike xs → flat_map (line a open_ones) (map e xs) ≡ flat_map (line b (map forth open_ones)) (map f xs)
      each_line open_ones k [] h = refl
      each_line open_ones k (x ∷ xs) h =
          ap (λ (z : List ℕ). z ++ flat_map (line a open_ones) (map e xs)) (line_same open_ones k (e x) (f x) h.0)
          ∙ ap (λ (z : List ℕ). line b (map forth open_ones) (f x) ++ z) (each_line open_ones k xs h.1)

      -- where each two are alike, the lines are the same
      pub lines_alike : (xs : List ℕ) → AreLinesAlike xs → lines a (map e xs) ≡ lines b (map f xs)
      lines_alike xs h =
          each_line (in_order (opens xs)) (order_returns forth back (opens xs) (all_return xs h)) xs h
          ∙ ap (λ (zs : List ℕ). flat_map (line b zs) (map f xs)) (sym (order_alike forth back (opens xs) (all_return xs h)) ∙ ap in_order (sym (all_open xs h)))
