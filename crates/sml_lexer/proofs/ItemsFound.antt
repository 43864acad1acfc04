-- What the scan of a constant in quotes answers is there.
use Rattle.std.proofs.Common.{◌≡◌, ◌≢◌, ℕ, zero, suc, ◌+◌, ◌-◌, ◌<◌, ◌≤◌, Bool, true, false, ◌&&◌, eqb, leb, List, [], ◌∷◌, ◌++◌, Option, Some, None, length, take, drop, get_or, replicate, refl, sym, ap, ◌∙◌, subst, arith, ◌⊎◌, inl, inr}
use Rattle.std.specs.List.{prefix_len, list_all}
use Rattle.std.proofs.lemmas.List.{append_assoc, length-append, append-nil, take-append-drop, length-take-le, length-replicate, drop_more, take_all}
use Rattle.std.proofs.lemmas.List.Sums.{prefix_len-le-length}
use Rattle.std.proofs.lemmas.Bool.{and_parts, and_from, eqb-true, eqb-false, cond-true, cond-false, eq-eqb, ne_eqb, cases_Bool, cases_eq, leb-true, leb-false, lt-leb}
use Rattle.sml_lexer.specs.declared.quoted.Item.{Item}
use Rattle.sml_lexer.specs.declared.quoted.Item.TheVariants.{Char, Gap, Close, Open, Unknown}
use Rattle.sml_lexer.specs.declared.bytes.ByteClass.{ByteClass}
use Rattle.sml_lexer.specs.declared.bytes.ByteClass.TheVariants.{Digit, Hexadecimal}
use Rattle.sml_lexer.specs.Bytes.{is_digit, is_hexadecimal, is_space, is_control}
use Rattle.sml_lexer.specs.Classes.{in_class}
use Rattle.sml_lexer.specs.Numbers.{AreSome, number_of}
use Rattle.sml_lexer.specs.Quoted.{letter_escape, IsEscape, letter, caret, decimal, unicode, IsStringGap, Part, character, stray, IsPart, IsBackslashed, IsOpen, IsUnknown}
use Rattle.sml_lexer.specs.Quoted as quoted
use Rattle.sml_lexer.specs.QuotedScan.{caret_at, digits_at, gap_at, escape_at, item_at}
use Rattle.sml_lexer.proofs.RunLemmas.{run_all, run_front, run_take}
use Rattle.sml_lexer.proofs.ItemLemmas.{size_of, Reads, part_is, not_empty, item_backslash, no_letter, letter_is, caret_cons, unicode_cons, digit_cons, space_cons, decimal_small, unicode_small, capped}

-- what an item behind a backslash stands for
pub data Found (s : List ℕ) (i : Item) : Type 0 where
  code : (t more : List ℕ) (n len : ℕ) → t ++ more ≡ 92 ∷ s → IsEscape t n → len ≡ length t → i ≡ Char n len → Found s i
  gap : (t more : List ℕ) (len : ℕ) → t ++ more ≡ 92 ∷ s → IsStringGap t → len ≡ length t → i ≡ Gap len → Found s i
  cut : (more : List ℕ) → more ≢ [] → IsBackslashed (92 ∷ s ++ more) → i ≡ Open → Found s i
  unknown : i ≡ Unknown → Found s i

cons_not_nil : (c : ℕ) (s : List ℕ) → c ∷ s ≢ []
cons_not_nil c s e = cc

list_all-append : (p : ℕ → Bool) (s t : List ℕ) → list_all p s ≡ true → list_all p t ≡ true → list_all p (s ++ t) ≡ true
list_all-append p [] t h k = k
list_all-append p (c ∷ s) t h k = let (hc, hs) = and_parts (p c) (list_all p s) h in and_from _ _ hc (list_all-append p s t hs k)

list_all-replicate : (p : ℕ → Bool) (c n : ℕ) → p c ≡ true → list_all p (replicate n c) ≡ true
list_all-replicate p c zero h = refl
list_all-replicate p c (suc n) h = and_from _ _ h (list_all-replicate p c n h)

replicate_some : (n c : ℕ) → n ≢ 0 → replicate n c ≢ []
replicate_some zero c h e = h refl
replicate_some (suc n) c h e = cc

caret_found : (s : List ℕ) → Found (94 ∷ s) (caret_at s)
unfolding caret_at
caret_found [] = cut (64 ∷ []) (cons_not_nil _ _) (quoted.IsBackslashed.escape _ _ (caret 64 (omega arith) (omega arith))) refl
caret_found (c ∷ s) = go (cases_Bool (leb 64 c && leb c 95))
  where
    go : ((leb 64 c && leb c 95) ≡ true) ⊎ ((leb 64 c && leb c 95) ≡ false) → Found (94 ∷ c ∷ s) (caret_at (c ∷ s))
    go (inl h) =
        let (lo, hi) = and_parts _ _ h in
        code (92 ∷ 94 ∷ c ∷ []) s (c - 64) 3 refl (caret c (leb-true 64 c lo) (leb-true c 95 hi)) refl (cond-false _ _ _ (not_empty c s) ∙ cond-true _ _ _ h)
    go (inr h) = unknown (cond-false _ _ _ (not_empty c s) ∙ cond-false _ _ _ h)

-- digits behind `pre`, whose escape is `pre` and so many digits
module _ (class : ByteClass) (base count before : ℕ) (pre : List ℕ) (size : before ≡ length (92 ∷ pre)) (zero_in : in_class class 48 ≡ true)
    (make : (t : List ℕ) → length t ≡ count → list_all (in_class class) t ≡ true → IsEscape (92 ∷ (pre ++ t)) (number_of base t))
    (small : (t : List ℕ) → length t ≡ count → list_all (in_class class) t ≡ true → number_of base t ≤ 0xffff) where
  digits_found : (s : List ℕ) → Found (pre ++ s) (digits_at class base count before s)
  unfolding digits_at
  digits_found s = go (cases_Bool (leb count (prefix_len p s))) (cases_Bool (eqb (prefix_len p s) (length s)))
    where
      p : ℕ → Bool
      p = in_class class

      go : (leb count (prefix_len p s) ≡ true) ⊎ (leb count (prefix_len p s) ≡ false) → (eqb (prefix_len p s) (length s) ≡ true) ⊎ (eqb (prefix_len p s) (length s) ≡ false) → Found (pre ++ s) (digits_at class base count before s)
      go (inl h) _ =
          let enough = leb-true _ _ h in
          let within : count ≤ length s = omega (arith, prefix_len-le-length p s) in
          let len = length-take-le count s within in
          let all = run_front p count s enough in
          code (92 ∷ (pre ++ take count s)) (drop count s) (number_of base (take count s)) (before + count)
          (ap (λ x. 92 ∷ x) (append_assoc pre (take count s) (drop count s) ∙ ap (λ x. pre ++ x) (take-append-drop count s)))
          (make (take count s) len all)
          (omega (arith, length-append pre (take count s), size, len))
          (cond-true _ _ _ h ∙ ap (λ n. Char n (before + count)) (capped _ (small (take count s) len all)))
      go (inr h) (inl e) =
          let few = leb-false _ _ h in
          let whole = eqb-true _ _ e in
          let all : list_all p s ≡ true = subst (λ x. list_all p x ≡ true) (ap (λ n. take n s) whole ∙ take_all (length s) s (omega arith)) (run_take p s) in
          let pad : List ℕ = replicate (count - length s) 48 in
          let len : length (s ++ pad) ≡ count = omega (arith, length-append s pad, length-replicate {A = ℕ} (count - length s) 48) in
          cut pad (replicate_some _ _ (let ne : count - length s ≢ 0 = omega arith in ne))
          (quoted.IsBackslashed.escape _ _ (subst (λ x. IsEscape (92 ∷ x) (number_of base (s ++ pad))) (sym (append_assoc pre s pad)) (make (s ++ pad) len (list_all-append p s pad all (list_all-replicate p 48 _ zero_in)))))
          (cond-false _ _ _ h ∙ cond-true _ _ _ e)
      go (inr h) (inr e) = unknown (cond-false _ _ _ h ∙ cond-false _ _ _ e)

decimal_found : (s : List ℕ) → Found s (digits_at Digit 10 3 1 s)
unfolding is_digit
decimal_found s = digits_found Digit 10 3 1 [] refl refl (λ t h k. decimal t h k) (λ t h k. let b = decimal_small t h k in omega arith) s

unicode_found : (s : List ℕ) → Found (117 ∷ s) (digits_at Hexadecimal 16 4 2 s)
unfolding is_hexadecimal
unicode_found s = digits_found Hexadecimal 16 4 2 (117 ∷ []) refl refl (λ t h k. unicode t h k) (λ t h k. unicode_small t h k) s

some_from : (p : ℕ → Bool) (s : List ℕ) → s ≢ [] → list_all p s ≡ true → AreSome p s
some_from p [] h k = absurd (h refl)
some_from p (c ∷ s) h k = k

split_at : (n : ℕ) (t : List ℕ) → n < length t → take n t ++ get_or t n 0 ∷ drop (n + 1) t ≡ t
split_at n t h = ap (λ x. take n t ++ x) (sym (drop_more t n 0 h)) ∙ take-append-drop n t

gap_front : (c : ℕ) (s : List ℕ) → is_space c ≡ true → AreSome is_space (take (prefix_len is_space (c ∷ s)) (c ∷ s))
gap_front c s h =
    let n = run_all is_space (c ∷ []) (and_from _ _ h refl) in
    let e : prefix_len is_space (c ∷ s) ≡ suc (prefix_len is_space s) = cond-true _ _ _ h ∙ (omega arith) in
    some_from is_space _ (λ z. cons_not_nil c (take (prefix_len is_space s) s) (ap (λ k. take k (c ∷ s)) (sym e) ∙ z)) (run_take is_space (c ∷ s))

gap_found : (c : ℕ) (s : List ℕ) → is_space c ≡ true → Found (c ∷ s) (gap_at (c ∷ s))
unfolding gap_at
gap_found c s hc = go (cases_Bool (eqb n (length t))) (cases_Bool (eqb (get_or t n 0) 92))
  where
    t : List ℕ
    t = c ∷ s

    n : ℕ
    n = prefix_len is_space (c ∷ s)

    go : (eqb n (length t) ≡ true) ⊎ (eqb n (length t) ≡ false) → (eqb (get_or t n 0) 92 ≡ true) ⊎ (eqb (get_or t n 0) 92 ≡ false) → Found (c ∷ s) (gap_at (c ∷ s))
    go (inl e) _ =
        let whole : take n t ≡ t = ap (λ k. take k t) (eqb-true _ _ e) ∙ take_all (length t) t (omega arith) in
        cut (92 ∷ []) (cons_not_nil _ _) (quoted.IsBackslashed.gap _ (quoted.IsStringGap.gap (c ∷ s) (subst (AreSome is_space) whole (gap_front c s hc)))) (cond-true _ _ _ e)
    go (inr e) (inl h) =
        let ne = eqb-false _ _ e in
        let within : n < length t = let b = prefix_len-le-length is_space (c ∷ s) in omega (arith, ne) in
        gap (92 ∷ (take n t ++ 92 ∷ [])) (drop (n + 1) t) (n + 2)
        (ap (λ x. 92 ∷ x) (append_assoc (take n t) (92 ∷ []) (drop (n + 1) t) ∙ ap (λ x. take n t ++ x ∷ drop (n + 1) t) (sym (eqb-true _ _ h)) ∙ split_at n t within))
        (quoted.IsStringGap.gap (take n t) (gap_front c s hc))
        (omega (arith, length-append (take n t) (92 ∷ []), length-take-le n t (omega arith)))
        (cond-false _ _ _ e ∙ cond-true _ _ _ h)
    go (inr e) (inr h) = unknown (cond-false _ _ _ e ∙ cond-false _ _ _ h)

moved : (s : List ℕ) (i j : Item) → j ≡ i → Found s i → Found s j
moved s i j e f = subst (Found s) (sym e) f

escape_found : (s : List ℕ) → Found s (escape_at s)
unfolding escape_at letter_escape
escape_found [] = cut (110 ∷ []) (cons_not_nil _ _) (quoted.IsBackslashed.escape _ _ (letter 110 10 refl)) refl
escape_found (c ∷ s) = by_letter (letter_escape c) refl
  where
    by_class : letter_escape c ≡ None → (c ≡ 94) ⊎ (c ≢ 94) → (is_digit c ≡ true) ⊎ (is_digit c ≡ false) → (c ≡ 117) ⊎ (c ≢ 117) → (is_space c ≡ true) ⊎ (is_space c ≡ false) → Found (c ∷ s) (escape_at (c ∷ s))
    by_class h (inl e) d u w = subst (λ x. Found (x ∷ s) (escape_at (x ∷ s))) (sym e) (moved _ _ _ (caret_cons s) (caret_found s))
    by_class h (inr e) (inl d) u w = moved _ _ _ (digit_cons c s d) (decimal_found (c ∷ s))
    by_class h (inr e) (inr d) (inl u) w = subst (λ x. Found (x ∷ s) (escape_at (x ∷ s))) (sym u) (moved _ _ _ (unicode_cons s) (unicode_found s))
    by_class h (inr e) (inr d) (inr u) (inl w) = moved _ _ _ (space_cons c s w) (gap_found c s w)
    by_class h (inr e) (inr d) (inr u) (inr w) =
        unknown (no_letter c s h ∙ cond-false _ _ _ (ne_eqb _ _ e) ∙ cond-false _ _ _ d ∙ cond-false _ _ _ (ne_eqb _ _ u) ∙ cond-false _ _ _ w)

    by_letter : (o : Option ℕ) → letter_escape c ≡ o → Found (c ∷ s) (escape_at (c ∷ s))
    by_letter (Some n) h = code (92 ∷ c ∷ []) s n 2 refl (letter c n h) refl (letter_is c n s h)
    by_letter None h = by_class h (cases_eq c 94) (cases_Bool (is_digit c)) (cases_eq c 117) (cases_Bool (is_space c))

nothing_behind : (s more : List ℕ) → [] ≡ s ++ more → more ≡ []
nothing_behind [] more e = sym e
nothing_behind (c ∷ s) more e = cc

list_all_left : (p : ℕ → Bool) (s t : List ℕ) → list_all p (s ++ t) ≡ true → list_all p s ≡ true
list_all_left p [] t h = refl
list_all_left p (c ∷ s) t h = let (hc, hs) = and_parts (p c) (list_all p (s ++ t)) h in and_from _ _ hc (list_all_left p s t hs)

some_length : (s : List ℕ) → s ≢ [] → 0 < length s
some_length [] h = absurd (h refl)
some_length (c ∷ s) h = omega arith

digits_cut : (class : ByteClass) (base count before : ℕ) (s more : List ℕ) → list_all (in_class class) (s ++ more) ≡ true → length (s ++ more) ≡ count → more ≢ [] → digits_at class base count before s ≡ Open
unfolding digits_at
digits_cut class base count before s more h k ne =
    let run = run_all (in_class class) s (list_all_left (in_class class) s more h) in
    let few : prefix_len (in_class class) s < count = let b = some_length more ne in omega (arith, length-append s more) in
    cond-false _ _ _ (lt-leb _ _ few) ∙ cond-true _ _ _ (eq-eqb _ _ run)

gap_cut : (c : ℕ) (s : List ℕ) → list_all is_space (c ∷ s) ≡ true → gap_at (c ∷ s) ≡ Open
unfolding gap_at
gap_cut c s h = cond-true _ _ _ (eq-eqb _ _ (run_all is_space (c ∷ s) h))

before_last : (p : ℕ → Bool) (t u more : List ℕ) → t ++ 92 ∷ [] ≡ u ++ more → more ≢ [] → list_all p t ≡ true → list_all p u ≡ true
before_last p t [] more e ne h = refl
before_last p [] (y ∷ u) more e ne h = absurd (ne (nothing_behind u more (let k : [] ≡ u ++ more = cc in k)))
before_last p (z ∷ t) (y ∷ u) more e ne h =
    let (hz, ht) = and_parts (p z) (list_all p t) h in
    let same : z ≡ y = cc in
    let rest : t ++ 92 ∷ [] ≡ u ++ more = cc in
    and_from _ _ (ap p (sym same) ∙ hz) (before_last p t u more rest ne ht)

caret_nothing : caret_at [] ≡ Open
unfolding caret_at
caret_nothing = refl

cut_is : (b : List ℕ) → IsBackslashed b → (s more : List ℕ) → b ≡ 92 ∷ (s ++ more) → more ≢ [] → escape_at s ≡ Open
unfolding escape_at
cut_is b h [] more e ne = refl
cut_is b (quoted.IsBackslashed.escape t n (letter c m h)) (x ∷ s) more e ne = absurd (ne (nothing_behind s more (let k : [] ≡ s ++ more = cc in k)))
cut_is b (quoted.IsBackslashed.escape t n (caret c h k)) (x ∷ []) more e ne = caret_end x (let z : 94 ≡ x = cc in z)
  where
    caret_end : (x : ℕ) → 94 ≡ x → escape_at (x ∷ []) ≡ Open
    caret_end x z = ap (λ y. escape_at (y ∷ [])) (sym z) ∙ caret_cons [] ∙ caret_nothing
cut_is b (quoted.IsBackslashed.escape t n (caret c h k)) (x ∷ y ∷ s) more e ne = absurd (ne (nothing_behind s more (let z : [] ≡ s ++ more = cc in z)))
cut_is b (quoted.IsBackslashed.escape t n (decimal d h k)) (x ∷ s) more e ne =
    let same : d ≡ x ∷ s ++ more = cc in
    let all = subst (λ q. list_all is_digit q ≡ true) same k in
    digit_cons x s (and_parts _ _ all).0 ∙ digits_cut Digit 10 3 1 (x ∷ s) more all (ap length (sym same) ∙ h) ne
cut_is b (quoted.IsBackslashed.escape t n (unicode d h k)) (x ∷ s) more e ne =
    let same : d ≡ s ++ more = cc in
    let first : 117 ≡ x = cc in
    ap (λ y. escape_at (y ∷ s)) (sym first) ∙ unicode_cons s ∙ digits_cut Hexadecimal 16 4 2 s more (subst (λ q. list_all is_hexadecimal q ≡ true) same k) (ap length (sym same) ∙ h) ne
cut_is b (quoted.IsBackslashed.gap g (quoted.IsStringGap.gap d h)) (x ∷ s) more e ne =
    let same : d ++ 92 ∷ [] ≡ x ∷ s ++ more = cc in
    let all = before_last is_space d (x ∷ s) more same ne (spaces d h) in
    space_cons x s (and_parts _ _ all).0 ∙ gap_cut x s all
  where
    spaces : (d : List ℕ) → AreSome is_space d → list_all is_space d ≡ true
    spaces [] h = refl
    spaces (c ∷ d) h = h

pub open_is : (s : List ℕ) → IsOpen s → item_at s ≡ Open
unfolding item_at
open_is s quoted.IsOpen.ends = refl
open_is s (quoted.IsOpen.newline t) = cond-false _ _ _ (not_empty 10 t)
open_is s (quoted.IsOpen.cut t more ne h) = item_backslash t ∙ cut_is _ h t more refl ne

pub unknown_is : (s : List ℕ) → IsUnknown s → item_at s ≡ Unknown
unknown_is s (quoted.IsUnknown.unknown t front back) = item_backslash t ∙ go (escape_found t)
  where
    go : Found t (escape_at t) → escape_at t ≡ Unknown
    go (code u more n len e h l i) = absurd (front u more (quoted.IsBackslashed.escape u n h) e)
    go (gap u more len e h l i) = absurd (front u more (quoted.IsBackslashed.gap u h) e)
    go (cut more ne h i) = absurd (back more h)
    go (unknown i) = i

backslashed_is : (t : List ℕ) → IsBackslashed t → (more : List ℕ) → (ps : List Part) × Reads t ps (item_at (t ++ more))
backslashed_is t (quoted.IsBackslashed.escape u n h) more = (character n ∷ [], part_is u _ (quoted.IsPart.escape u n h) more)
backslashed_is t (quoted.IsBackslashed.gap u h) more = ([], part_is u _ (quoted.IsPart.gap u h) more)

is_unknown : (s : List ℕ) → escape_at s ≡ Unknown → IsUnknown (92 ∷ s)
is_unknown s i = quoted.IsUnknown.unknown s front back
  where
    front : (t more : List ℕ) → IsBackslashed t → t ++ more ≡ 92 ∷ s → ⊥
    front t more h e =
        let r = (backslashed_is t h more).1 in
        let z : size_of (item_at (t ++ more)) ≡ 0 = ap (λ x. size_of (item_at x)) e ∙ ap size_of (item_backslash s ∙ i) in
        omega (arith, r.size, r.some, z)

    at_end : (more : List ℕ) → IsBackslashed (92 ∷ s ++ more) → (m : List ℕ) → more ≡ m → ⊥
    at_end more h [] e = front (92 ∷ s ++ more) [] h (append-nil (92 ∷ s ++ more) ∙ ap (λ m. 92 ∷ s ++ m) e ∙ append-nil (92 ∷ s))
    at_end more h (c ∷ m) e = let k = cut_is _ h s more refl (λ z. cons_not_nil c m (sym e ∙ z)) in let x : Open ≡ Unknown = sym k ∙ i in cc

    back : (more : List ℕ) → IsBackslashed (92 ∷ s ++ more) → ⊥
    back more h = at_end more h more refl

-- what an item stands for
pub data Holds (s : List ℕ) (i : Item) : Type 0 where
  part : (t more : List ℕ) (ps : List Part) → t ++ more ≡ s → IsPart t ps → Reads t ps i → Holds s i
  closes : (t : List ℕ) → s ≡ 34 ∷ t → i ≡ Close → Holds s i
  opens : IsOpen s → i ≡ Open → Holds s i
  unknown : IsUnknown s → i ≡ Unknown → Holds s i

from_part : (s t more : List ℕ) (ps : List Part) → t ++ more ≡ s → IsPart t ps → Holds s (item_at s)
from_part s t more ps e h = part t more ps e h (subst (λ x. Reads t ps (item_at x)) e (part_is t ps h more))

pub item_found : (s : List ℕ) → Holds s (item_at s)
unfolding item_at
item_found [] = opens quoted.IsOpen.ends refl
item_found (c ∷ s) = go (cases_eq c 34) (cases_eq c 10) (cases_Bool (is_control c)) (cases_eq c 92)
  where
    behind : Found s (escape_at s) → Holds (92 ∷ s) (item_at (92 ∷ s))
    behind (code t more n len e h l i) = from_part (92 ∷ s) t more _ e (quoted.IsPart.escape t n h)
    behind (gap t more len e h l i) = from_part (92 ∷ s) t more _ e (quoted.IsPart.gap t h)
    behind (cut more ne h i) = opens (quoted.IsOpen.cut s more ne h) (item_backslash s ∙ i)
    behind (unknown i) = unknown (is_unknown s i) (item_backslash s ∙ i)

    go : (c ≡ 34) ⊎ (c ≢ 34) → (c ≡ 10) ⊎ (c ≢ 10) → (is_control c ≡ true) ⊎ (is_control c ≡ false) → (c ≡ 92) ⊎ (c ≢ 92) → Holds (c ∷ s) (item_at (c ∷ s))
    go (inl q) n k b = closes s (ap (λ x. x ∷ s) q) (cond-false _ _ _ (not_empty c s) ∙ cond-true _ _ _ (eq-eqb _ _ q))
    go (inr q) (inl n) k b = opens (subst (λ x. IsOpen (x ∷ s)) (sym n) (quoted.IsOpen.newline s)) (cond-false _ _ _ (not_empty c s) ∙ cond-false _ _ _ (ne_eqb _ _ q) ∙ cond-true _ _ _ (eq-eqb _ _ n))
    go (inr q) (inr n) (inl k) b = from_part (c ∷ s) (c ∷ []) s _ refl (quoted.IsPart.control c k n)
    go (inr q) (inr n) (inr k) (inl b) = subst (λ x. Holds (x ∷ s) (item_at (x ∷ s))) (sym b) (behind (escape_found s))
    go (inr q) (inr n) (inr k) (inr b) = from_part (c ∷ s) (c ∷ []) s _ refl (quoted.IsPart.plain c k q b)
