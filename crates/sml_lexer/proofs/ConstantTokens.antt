-- A clean constant in quotes is the token at its place.
use Rattle.std.proofs.Common.{◌≡◌, ℕ, ◌+◌, ◌≤◌, true, false, ltb, List, [], ◌∷◌, ◌++◌, Option, Some, None, length, take, drop, get_or, refl, sym, ap, ◌∙◌, subst, arith, ◌⊎◌, inl, inr}
use Rattle.std.specs.List.{AllByRecursion, prefix_len}
use Rattle.std.proofs.lemmas.List.{append_assoc, length-append, take_at, drop_at}
use Rattle.std.proofs.lemmas.Bool.{and_left, and_right, cond-true, cond-false, cases_Bool, ltb-false}
use Rattle.sml_lexer.specs.declared.plain.Found.{Found}
use Rattle.sml_lexer.specs.declared.plain.Class.TheVariants.{Word, Symbol}
use Rattle.sml_lexer.specs.declared.quoted.Ending.TheVariants as ending
use Rattle.sml_lexer.specs.declared.reserved.Reserved.{Reserved}
use Rattle.sml_lexer.specs.Bytes.{is_letter, is_digit, is_sign}
use Rattle.sml_lexer.specs.Meanings.{Meaning}
use Rattle.sml_lexer.specs.Meanings as meaning
use Rattle.sml_lexer.specs.PlainScan.{point_at, sign_found, sign_at, plain_at}
use Rattle.sml_lexer.specs.Quoted.{Part, AreParts, characters, has_wide, character_count}
use Rattle.sml_lexer.specs.Quoted as quoted
use Rattle.sml_lexer.specs.QuotedRead.{low_byte, values, has_stray}
use Rattle.sml_lexer.specs.Reserved.{reserved_of}
use Rattle.sml_lexer.specs.Spellings.{Spells}
use Rattle.sml_lexer.specs.Spellings as spellings
use Rattle.sml_lexer.specs.Steps.{IsTokenAt}
use Rattle.sml_lexer.specs.Tokens.{StandsAs, IsLongest, OpensMore}
use Rattle.sml_lexer.specs.Tokens as tokens
use Rattle.sml_lexer.proofs.RunLemmas.{run_stop}
use Rattle.sml_lexer.proofs.PlainLemmas.{at_sign, at_point}
use Rattle.sml_lexer.proofs.PlainMost.{Quoted, string, character, Most, plain_most}
use Rattle.sml_lexer.proofs.StageLemmas.{IsWhole, one_end}
use Rattle.sml_lexer.proofs.ConstantSteps.{IsClean}

-- the scan of other tokens finds nothing at a quote, and one byte at `#"`
pub quote_scan : (r : List ℕ) → plain_at (34 ∷ r) ≡ None
unfolding point_at is_letter is_digit is_sign reserved_of
quote_scan r =
    at_point (34 ∷ r) refl refl (omega arith) refl refl
    ∙ cond-false _ _ _ (and_left _ _ (and_left _ _ (and_right _ _ refl)))

pub hash_scan : (r : List ℕ) (f : Found) → plain_at (35 ∷ 34 ∷ r) ≡ Some f → f.len ≡ 1
unfolding sign_at is_sign
hash_scan r f e = go (reserved_of (take n s)) refl
  where
    s : List ℕ
    s = 35 ∷ 34 ∷ r

    n : ℕ
    n = prefix_len is_sign s

    one : n ≡ 1
    one = ap (λ k. 1 + k) (run_stop is_sign 34 r refl)

    is : plain_at s ≡ Some (sign_at s)
    is = at_sign s refl refl

    go : (o : Option Reserved) → reserved_of (take n s) ≡ o → f.len ≡ 1
    go (Some w) k = let q : Some (record { len = n; class = Word w }) ≡ Some f = ap (λ o. Some (sign_found o n)) (sym k) ∙ sym is ∙ e in let same : record { len = n; class = Word w } ≡ f = cc in ap (λ (g : Found). g.len) (sym same) ∙ one
    go None k = let q : Some (record { len = n; class = Symbol }) ≡ Some f = ap (λ o. Some (sign_found o n)) (sym k) ∙ sym is ∙ e in let same : record { len = n; class = Symbol } ≡ f = cc in ap (λ (g : Found). g.len) (sym same) ∙ one

-- clean parts are characters in range
abbrev Clean : List Part → Type 0
Clean ps = (ps ≡ characters (values ps)) × AllByRecursion (λ n. n ≤ 255) (values ps)

clean_step : (n : ℕ) (ps : List Part) → has_wide (quoted.character n ∷ ps) ≡ false → (has_wide ps ≡ false → Clean ps) → (ltb 255 n ≡ true) ⊎ (ltb 255 n ≡ false) → Clean (quoted.character n ∷ ps)
clean_step n ps h ih (inl b) = let x : true ≡ false = sym (cond-true _ _ _ b) ∙ h in cc
clean_step n ps h ih (inr b) =
    let c = ih (sym (cond-false _ _ _ b) ∙ h) in
    let low : low_byte n ≡ n = cond-false _ _ _ b in
    let small : n ≤ 255 = ltb-false 255 n b in
    (ap (λ x. quoted.character x ∷ ps) (sym low) ∙ ap (λ x. quoted.character (low_byte n) ∷ x) c.0, (omega (arith, low), c.1))

clean_parts : (ps : List Part) → has_wide ps ≡ false → has_stray ps ≡ false → Clean ps
clean_parts [] h k = (refl, tt)
clean_parts (quoted.stray ∷ ps) h k = cc
clean_parts (quoted.character n ∷ ps) h k = clean_step n ps h (λ w. clean_parts ps w k) (cases_Bool (ltb 255 n))

-- the spelling of a constant, at its place
module _ (o rest s : List ℕ) (ps : List Part) (y : List ℕ) (w : IsWhole rest s ps ending.Closed (34 ∷ y)) where
  spelling_is : o ++ s ++ 34 ∷ [] ++ y ≡ o ++ rest
  spelling_is = append_assoc (o ++ s) (34 ∷ []) y ∙ append_assoc o s (34 ∷ y) ∙ ap (λ x. o ++ x) w.bytes_are

  spelling_len : length (o ++ s ++ 34 ∷ []) ≡ length o + (length s + 1)
  spelling_len = length-append (o ++ s) (34 ∷ []) ∙ ap (λ n. n + 1) (length-append o s) ∙ (omega arith)

  at_place : (n : ℕ) (m : Meaning) → n ≡ length o + (length s + 1) → StandsAs (o ++ s ++ 34 ∷ []) y m → tokens.IsAllowed m → IsTokenAt (o ++ rest) n m
  at_place n m e st a =
      let l = ap length spelling_is in
      let k = length-append (o ++ s ++ 34 ∷ []) y in
      record {
        some = omega (arith, e);
        room = omega (arith, e, l, k, spelling_len);
        stands = subst (λ x. StandsAs (take n x) (drop n x) m) spelling_is
            (subst (λ x. StandsAs x (drop n (o ++ s ++ 34 ∷ [] ++ y)) m) (sym (take_at (o ++ s ++ 34 ∷ []) y n (spelling_len ∙ sym e)))
            (subst (λ x. StandsAs (o ++ s ++ 34 ∷ []) x m) (sym (drop_at (o ++ s ++ 34 ∷ []) y n (spelling_len ∙ sym e))) st));
        allowed = a;
      }

  -- another constant at the place is the same
  same_constant : (t more : List ℕ) (qs : List Part) → AreParts t qs → t ++ 34 ∷ more ≡ rest → t ≡ s
  same_constant t more qs a e = (one_end rest s ps ending.Closed (34 ∷ y) w t qs a (34 ∷ more) e ending.Closed (more, refl)).1

pub string_token : (rest s : List ℕ) (ps : List Part) (y : List ℕ) → IsWhole rest s ps ending.Closed (34 ∷ y) → IsClean false ps ending.Closed → (value : List ℕ) → values ps ≡ value
    → (n : ℕ) → n ≡ length s + 2 → IsTokenAt (34 ∷ rest) n (meaning.text value)
string_token rest s ps y w c value v n e =
    at_place (34 ∷ []) rest s ps y w n (meaning.text value) (omega (arith, e)) (record { spelled = spelled; longest = longest; whole = whole }) tt
  where
    clean : Clean ps
    clean = clean_parts ps c.narrow c.none

    spelled : Spells (34 ∷ s ++ 34 ∷ []) (meaning.text value)
    spelled = subst (λ x. Spells (34 ∷ s ++ 34 ∷ []) (meaning.text x)) v (spellings.Spells.text s (values ps) (subst (AreParts s) clean.0 w.parts) clean.1)

    by : (t more : List ℕ) (m : Meaning) → Quoted t m → t ++ more ≡ 34 ∷ rest → length t ≤ length (34 ∷ s ++ 34 ∷ [])
    by t more m (string u codes a _) q =
        let r : u ++ 34 ∷ more ≡ rest = sym (append_assoc u (34 ∷ []) more) ∙ tail q in
        let same = same_constant (34 ∷ []) rest s ps y w u more _ a r in
        let l = ap length same in let i = length-append u (34 ∷ []) in let j = length-append s (34 ∷ []) in omega arith
      where
        tail : {x z : List ℕ} → 34 ∷ x ≡ 34 ∷ z → x ≡ z
        tail q = cc
    by t more m (character u k a _) q = absurd (let h = ap (λ (x : List ℕ). get_or x 0 0) q in omega (arith, h))

    longest : IsLongest (34 ∷ s ++ 34 ∷ []) y
    longest t more m h q = go (plain_most t m h more)
      where
        go : Quoted t m ⊎ Most t m more → length t ≤ length (34 ∷ s ++ 34 ∷ [])
        go (inl z) = by t more m z (q ∙ spelling_is (34 ∷ []) rest s ps y w)
        go (inr z) = let x : Some z.answer ≡ None = sym z.is ∙ ap plain_at (q ∙ spelling_is (34 ∷ []) rest s ps y w) ∙ quote_scan rest in cc

    whole : ¬ OpensMore (34 ∷ s ++ 34 ∷ []) y
    whole h = not_opens _ y h refl
      where
        not_opens : (t y : List ℕ) → OpensMore t y → get_or t 0 0 ≡ 34 → ⊥
        not_opens t y (tokens.OpensMore.comment z) q = omega arith
        not_opens t y (tokens.OpensMore.constant z) q = omega arith

pub character_token : (rest s : List ℕ) (ps : List Part) (y : List ℕ) → IsWhole rest s ps ending.Closed (34 ∷ y) → IsClean true ps ending.Closed → (k : ℕ) → values ps ≡ k ∷ []
    → (n : ℕ) → n ≡ length s + 3 → IsTokenAt (35 ∷ 34 ∷ rest) n (meaning.character k)
character_token rest s ps y w c k v n e =
    at_place (35 ∷ 34 ∷ []) rest s ps y w n (meaning.character k) (omega (arith, e)) (record { spelled = spelled; longest = longest; whole = whole }) tt
  where
    clean : Clean ps
    clean = clean_parts ps c.narrow c.none

    parts : AreParts s (characters (k ∷ []))
    parts = subst (AreParts s) (clean.0 ∙ ap characters v) w.parts

    small : AllByRecursion (λ n. n ≤ 255) (k ∷ [])
    small = subst (λ x. AllByRecursion (λ n. n ≤ 255) x) v clean.1

    spelled : Spells (35 ∷ 34 ∷ s ++ 34 ∷ []) (meaning.character k)
    spelled = spellings.Spells.character s k parts small.0

    by : (t more : List ℕ) (m : Meaning) → Quoted t m → t ++ more ≡ 35 ∷ 34 ∷ rest → length t ≤ length (35 ∷ 34 ∷ s ++ 34 ∷ [])
    by t more m (string u codes a _) q = absurd (let h = ap (λ (x : List ℕ). get_or x 0 0) q in omega (arith, h))
    by t more m (character u d a _) q =
        let r : u ++ 34 ∷ more ≡ rest = sym (append_assoc u (34 ∷ []) more) ∙ tail q in
        let same = same_constant (35 ∷ 34 ∷ []) rest s ps y w u more _ a r in
        let l = ap length same in let i = length-append u (34 ∷ []) in let j = length-append s (34 ∷ []) in omega arith
      where
        tail : {x z : List ℕ} → 35 ∷ 34 ∷ x ≡ 35 ∷ 34 ∷ z → x ≡ z
        tail q = cc

    longest : IsLongest (35 ∷ 34 ∷ s ++ 34 ∷ []) y
    longest t more m h q = go (plain_most t m h more)
      where
        go : Quoted t m ⊎ Most t m more → length t ≤ length (35 ∷ 34 ∷ s ++ 34 ∷ [])
        go (inl z) = by t more m z (q ∙ spelling_is (35 ∷ 34 ∷ []) rest s ps y w)
        go (inr z) =
            let f = hash_scan rest z.answer (sym (ap plain_at (q ∙ spelling_is (35 ∷ 34 ∷ []) rest s ps y w)) ∙ z.is) in
            let b = z.most.bound in
            omega arith

    whole : ¬ OpensMore (35 ∷ 34 ∷ s ++ 34 ∷ []) y
    whole h = not_opens _ y h refl
      where
        not_opens : (t y : List ℕ) → OpensMore t y → get_or t 1 0 ≡ 34 → ⊥
        not_opens t y (tokens.OpensMore.comment z) q = omega arith
        not_opens t y (tokens.OpensMore.constant z) q = omega arith
