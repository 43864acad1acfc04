-- What the next word does to what was given.
use Rattle.std.proofs.Common.{ℕ, ◌≡◌, ◌≤◌, ◌-◌, ◌↔◌, List, [], ◌∷◌, length, get_or, take, drop, map, false, refl, sym, ap, subst, ◌∙◌, bytes_eq, true≢false, arith, take_all, le_refl, ◌++◌, Some}
use Rattle.std.proofs.lemmas.List.{map-append}
use Rattle.std.proofs.lemmas.Slice.Eq.{bytes_eq-Decides}
use Rattle.smlc_words.specs.declared.flag.Flag.{Flag}
use Rattle.smlc_words.specs.declared.flag.Flag.TheVariants.{Out, Arena, Steps, Stride}
use Rattle.smlc_words.specs.Given.{IsOperand, Given, with_operand, spelling, Takes, IsGiven, AtEnd, AnOperand, AnOption}

pub apart : {A : Type 0} (a b : List ℕ) → bytes_eq a b ≡ false → a ≡ b → A
apart a b h e = absurd (true≢false (sym ((bytes_eq-Decides a b).1 e) ∙ h))

spelled_once : (f f' : Flag) → spelling f ≡ spelling f' → f ≡ f'
spelled_once Out Out e = refl
spelled_once Arena Arena e = refl
spelled_once Steps Steps e = refl
spelled_once Stride Stride e = refl
spelled_once f f' e = apart (spelling f) (spelling f') refl e

no_option : (f : Flag) → IsOperand (spelling f) → ⊥
no_option Out h = h refl
no_option Arena h = h refl
no_option Steps h = h refl
no_option Stride h = h refl

taken_once : (f : Flag) (word : List ℕ) (g t t' : Given) → Takes f word g t → Takes f word g t' → t ≡ t'
taken_once Out word g t t' a b = a.2 ∙ sym b.2
taken_once Arena word g t t' (free, (n, number, range, is)) (free', (n', number', range', is')) = is ∙ ap (λ m. record g { arena = Some m }) (number.2 ∙ sym number'.2) ∙ sym is'
taken_once Steps word g t t' (free, (n, number, range, is)) (free', (n', number', range', is')) = is ∙ ap (λ m. record g { steps = Some m }) (number.2 ∙ sym number'.2) ∙ sym is'
taken_once Stride word g t t' (free, (n, number, range, is)) (free', (n', number', range', is')) = is ∙ ap (λ m. record g { stride = Some m }) (number.2 ∙ sym number'.2) ∙ sym is'

pub operand_next : {whole g : Given} {word : List ℕ} {words : List (List ℕ)} → IsGiven whole g (word ∷ words) → IsOperand word → IsGiven whole (with_operand g word) words
operand_next (AnOperand g word words o next) h = next
operand_next (AnOption f value g then words t next) h = absurd (no_option f h)

pub option_next : {whole g then : Given} {word value : List ℕ} {words : List (List ℕ)} (f : Flag) → IsGiven whole g (word ∷ value ∷ words) → word ≡ spelling f → Takes f value g then → IsGiven whole then words
option_next f (AnOperand g word words o next) e t = absurd (no_option f (subst IsOperand e o))
option_next {whole = w} f (AnOption f' value g then' words t' next) e t =
    let same : Takes f value g then' = subst (λ x. Takes x value g then') (spelled_once f' f e) t' in
    subst (λ x. IsGiven w x words) (taken_once f value g then' _ same t) next

no_value : {whole g : Given} {word : List ℕ} {words : List (List ℕ)} (f : Flag) → IsGiven whole g (word ∷ words) → word ≡ spelling f → ((value : List ℕ) (rest : List (List ℕ)) (then : Given) → words ≡ value ∷ rest → Takes f value g then → ⊥) → ⊥
no_value f (AnOperand g word words o next) e h = no_option f (subst IsOperand e o)
no_value f (AnOption f' value g then words t next) e h = h value words then refl (subst (λ x. Takes x value g then) (spelled_once f' f e) t)

-- the words behind the first, as a slice pattern makes them
abbrev pub behind : {X : Type 0} → List X → List X
behind xs = take (length xs - 1) (drop 1 xs)

behind_first : {X : Type 0} (x : X) (xs : List X) → behind (x ∷ xs) ≡ xs
behind_first x xs = let e : length (x ∷ xs) - 1 ≡ length xs = omega arith in ap (λ n. take n xs) e ∙ take_all (length xs) xs (le_refl (length xs))

module _ {X : Type 0} (f : X → List ℕ) where
  first_of_all : (xs : List X) (x : X) (word : List ℕ) → 1 ≤ length xs → x ≡ get_or xs 0 x → word ≡ f x → map f xs ≡ word ∷ map f (behind xs)
  first_of_all [] x word l e w = absurd (omega arith)
  first_of_all (y ∷ ys) x word l e w = ap (λ t. f t ∷ map f ys) (sym e) ∙ ap (λ t. t ∷ map f ys) (sym w) ∙ ap (λ t. word ∷ map f t) (sym (behind_first y ys))

  pub operand_taken : (xs : List X) (x : X) (word : List ℕ) (g then : Given) → 1 ≤ length xs → x ≡ get_or xs 0 x → word ≡ f x → IsOperand word → then ≡ with_operand g word → (whole : Given) → IsGiven whole g (map f xs) ↔ IsGiven whole then (map f (behind xs))
  operand_taken xs x word g then l e w o t whole =
      let s = first_of_all xs x word l e w in (
        λ d. subst (λ h. IsGiven whole h (map f (behind xs))) (sym t) (operand_next (subst (λ ws. IsGiven whole g ws) s d) o),
        λ d. subst (λ ws. IsGiven whole g ws) (sym s) (AnOperand g word (map f (behind xs)) o (subst (λ h. IsGiven whole h (map f (behind xs))) t d)),
      )

  pub option_taken : (xs : List X) (x y : X) (word value : List ℕ) (flag : Flag) (g then : Given) → 1 ≤ length xs → x ≡ get_or xs 0 x → word ≡ f x → 1 ≤ length (behind xs) → y ≡ get_or (behind xs) 0 y → value ≡ f y → word ≡ spelling flag → Takes flag value g then → (whole : Given) → IsGiven whole g (map f xs) ↔ IsGiven whole then (map f (behind (behind xs)))
  option_taken xs x y word value flag g then l e w l' e' v is t whole =
      let rest = map f (behind (behind xs)) in
      let s : map f xs ≡ word ∷ value ∷ rest = first_of_all xs x word l e w ∙ ap (λ ws. word ∷ ws) (first_of_all (behind xs) y value l' e' v) in (
        λ d. option_next flag (subst (λ ws. IsGiven whole g ws) s d) is t,
        λ d. subst (λ ws. IsGiven whole g ws) (ap (λ x. x ∷ value ∷ rest) (sym is) ∙ sym s) (AnOption flag value g then rest t d),
      )

  pub value_refused : (xs : List X) (x y : X) (word value : List ℕ) (flag : Flag) (g : Given) → 1 ≤ length xs → x ≡ get_or xs 0 x → word ≡ f x → 1 ≤ length (behind xs) → y ≡ get_or (behind xs) 0 y → value ≡ f y → word ≡ spelling flag → ((then : Given) → Takes flag value g then → ⊥) → (whole : Given) → IsGiven whole g (map f xs) → ⊥
  value_refused xs x y word value flag g l e w l' e' v is no_then whole d =
      no_value flag (subst (λ ws. IsGiven whole g ws) (first_of_all xs x word l e w) d) is
      (λ value' rest then s t. no_then then (subst (λ u. Takes flag u g then) (sym (heads (sym (first_of_all (behind xs) y value l' e' v) ∙ s))) t))
    where
      heads : {a b : List ℕ} {us vs : List (List ℕ)} → a ∷ us ≡ b ∷ vs → a ≡ b
      heads e = cc

  pub none_left : (xs : List X) (g : Given) → length xs ≡ 0 → IsGiven g g (map f xs)
  none_left [] g e = AtEnd
  none_left (x ∷ xs) g e = absurd (omega arith)

  pub one_more : (xs ys : List X) (x : X) → ys ≡ xs ++ x ∷ [] → map f ys ≡ map f xs ++ f x ∷ []
  one_more xs ys x e = ap (map f) e ∙ map-append f xs (x ∷ [])
