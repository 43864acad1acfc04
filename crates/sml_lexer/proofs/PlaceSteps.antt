-- What stands at a place that opens no constant in quotes.
use Rattle.std.proofs.Common.{◌≡◌, ◌≢◌, ℕ, suc, ◌+◌, ◌<◌, ◌≤◌, true, false, List, [], ◌∷◌, ◌++◌, Some, None, length, take, drop, get_or, ℤ, refl, sym, ap, ◌∙◌, subst, arith, ◌⊎◌, inl, inr}
use Rattle.std.proofs.lemmas.List.{append_assoc, take-append-drop, length-take-le}
use Rattle.sml_lexer.specs.declared.plain.Found.{Found}
use Rattle.sml_lexer.specs.declared.reserved.Reserved.TheVariants.{KwOpenParen}
use Rattle.sml_lexer.specs.declared.step.Trouble.{Trouble}
use Rattle.sml_lexer.specs.declared.step.Trouble.TheVariants.{BadToken, Unclosed, LiteralRange}
use Rattle.sml_lexer.specs.Bytes.{is_space}
use Rattle.sml_lexer.specs.Classified.{meaning_of}
use Rattle.sml_lexer.specs.CommentScan.{close_at}
use Rattle.sml_lexer.specs.Gaps.{IsGap, IsComment}
use Rattle.sml_lexer.specs.Gaps as gaps
use Rattle.sml_lexer.specs.Meanings.{Meaning, IsInRange}
use Rattle.sml_lexer.specs.Meanings as meaning
use Rattle.sml_lexer.specs.PlainScan.{plain_at}
use Rattle.sml_lexer.specs.Spellings.{Spells}
use Rattle.sml_lexer.specs.Spellings as spellings
use Rattle.sml_lexer.specs.Steps.{IsFirstAt, IsTokenAt, IsGapAt, OpensNone, NoComment}
use Rattle.sml_lexer.specs.Tokens.{Opening, FailsAt, StandsAs, IsAllowed, IsLongest, OpensMore, number_of}
use Rattle.sml_lexer.specs.Tokens as tokens
use Rattle.sml_lexer.proofs.CommentLemmas.{comment_found, comment_is}
use Rattle.sml_lexer.proofs.FoundLemmas.{IsFound}
use Rattle.sml_lexer.proofs.PlainMost.{Quoted, string, character, Most, plain_found, plain_most}
use Rattle.sml_lexer.proofs.ConstantSteps.{at_or_behind, least_number}

no_opening : (bytes p x : List ℕ) → OpensNone bytes → Opening p → p ++ x ≡ bytes → ⊥
no_opening bytes p x n tokens.Opening.string e = n.no_quote (ap (λ (y : List ℕ). get_or y 0 0) (sym e))
no_opening bytes p x n tokens.Opening.character e = n.no_hash (ap (λ (y : List ℕ). get_or y 0 0) (sym e)) (ap (λ (y : List ℕ). get_or y 1 0) (sym e))

not_quoted : (bytes t more : List ℕ) (m : Meaning) → OpensNone bytes → Quoted t m → t ++ more ≡ bytes → ⊥
not_quoted bytes t more m n (string s codes p _) e = n.no_quote (ap (λ (y : List ℕ). get_or y 0 0) (sym e))
not_quoted bytes t more m n (character s k p _) e = n.no_hash (ap (λ (y : List ℕ). get_or y 0 0) (sym e)) (ap (λ (y : List ℕ). get_or y 1 0) (sym e))

no_gap : (bytes t more : List ℕ) → is_space (get_or bytes 0 0) ≡ false → NoComment bytes → IsGap t → t ++ more ≡ bytes → ⊥
no_gap bytes t more s n (gaps.IsGap.space c h) e = let x : true ≡ false = sym h ∙ ap is_space (ap (λ (y : List ℕ). get_or y 0 0) e) ∙ s in cc
no_gap bytes t more s n (gaps.IsGap.comment u h) e = n (ap (λ (y : List ℕ). get_or y 0 0) (sym e)) (ap (λ (y : List ℕ). get_or y 1 0) (sym e))

-- a byte that begins nothing
pub stranger_step : (c : ℕ) (s : List ℕ) → is_space c ≡ false → NoComment (c ∷ s) → OpensNone (c ∷ s) → plain_at (c ∷ s) ≡ None → IsFirstAt (c ∷ s) (record { back = 0; trouble = BadToken })
stranger_step c s sp nc n e = record {
  room = omega arith;
  fails = tokens.FailsAt.stranger c s (λ t more h q. no_gap (c ∷ s) t more sp nc h q) (λ t more m h q. spelled t more m (plain_most t m h more) q) n.no_quote;
  first = λ k why f. at_or_behind 1 k why (least_number why);
}
  where
    spelled : (t more : List ℕ) (m : Meaning) → Quoted t m ⊎ Most t m more → t ++ more ≡ c ∷ s → ⊥
    spelled t more m (inl z) q = not_quoted (c ∷ s) t more m n z q
    spelled t more m (inr z) q = let x : Some z.answer ≡ None = sym z.is ∙ ap plain_at q ∙ e in cc

not_nil : (bytes : List ℕ) → 0 < length bytes → bytes ≢ []
not_nil bytes h e = let l = ap length e in omega arith

module _ (bytes : List ℕ) (some : 0 < length bytes) (nc : NoComment bytes) (n : OpensNone bytes) (f : Found) (is : plain_at bytes ≡ Some f) where
  found : IsFound bytes f
  found = plain_found bytes (not_nil bytes some) f is

  whole : take f.len bytes ++ drop f.len bytes ≡ bytes
  whole = take-append-drop f.len bytes

  -- what the scan answers stands there
  pub stands : StandsAs (take f.len bytes) (drop f.len bytes) (meaning_of f.class (take f.len bytes))
  stands = record { spelled = found.spelled; longest = longest; whole = closed _ _ whole }
    where
      longest : IsLongest (take f.len bytes) (drop f.len bytes)
      longest t more m h q = go (plain_most t m h more)
        where
          go : Quoted t m ⊎ Most t m more → length t ≤ length (take f.len bytes)
          go (inl z) = absurd (not_quoted bytes t more m n z (q ∙ whole))
          go (inr z) =
              let x : Some z.answer ≡ Some f = sym z.is ∙ ap plain_at (q ∙ whole) ∙ is in
              let same : z.answer ≡ f = cc in
              let l = length-take-le f.len bytes found.within in
              let b = z.most.bound in
              let k = ap (λ (g : Found). g.len) same in
              omega arith

      closed : (t y : List ℕ) → t ++ y ≡ bytes → ¬ OpensMore t y
      closed t y q (tokens.OpensMore.comment z) = nc (ap (λ (y : List ℕ). get_or y 0 0) (sym q)) (ap (λ (y : List ℕ). get_or y 1 0) (sym q))
      closed t y q (tokens.OpensMore.constant z) = n.no_hash (ap (λ (y : List ℕ). get_or y 0 0) (sym q)) (ap (λ (y : List ℕ). get_or y 1 0) (sym q))

  pub plain_token : (m : Meaning) → meaning_of f.class (take f.len bytes) ≡ m → IsAllowed m → IsTokenAt bytes f.len m
  plain_token m e a = record {
    some = let z = found.some in omega (arith, z);
    room = found.within;
    stands = subst (StandsAs (take f.len bytes) (drop f.len bytes)) e stands;
    allowed = a;
  }

  -- an integer constant out of range
  pub range_step : (z : ℤ) → meaning_of f.class (take f.len bytes) ≡ meaning.integer z → ¬ IsInRange z → IsFirstAt bytes (record { back = 0; trouble = LiteralRange })
  range_step z e r = record {
    room = omega arith;
    fails = subst (λ x. FailsAt x [] LiteralRange) whole (tokens.FailsAt.wide_integer _ _ z (subst (StandsAs (take f.len bytes) (drop f.len bytes)) e stands) r);
    first = λ k why g. go bytes k why g refl;
  }
    where
      go : (a k : List ℕ) (why : Trouble) → FailsAt a k why → a ≡ bytes → (0 < length k) ⊎ ((0 ≡ length k) × (3 ≤ number_of why))
      go a k why (tokens.FailsAt.stranger c s g h q) w = absurd (h _ _ _ found.spelled (whole ∙ sym w))
      go a k why (tokens.FailsAt.open_comment s h) w = absurd (nc (ap (λ (y : List ℕ). get_or y 0 0) (sym w)) (ap (λ (y : List ℕ). get_or y 1 0) (sym w)))
      go a k why (tokens.FailsAt.wide_integer s q y st h) w = inr (refl, omega arith)
      go a k why (tokens.FailsAt.control o s c q ps op p l h) w = absurd (no_opening bytes o _ n op (sym (append_assoc o s (c ∷ q)) ∙ w))
      go a k why (tokens.FailsAt.unknown o s q ps op p l) w = absurd (no_opening bytes o _ n op (sym (append_assoc o s q) ∙ w))
      go a k why (tokens.FailsAt.count s q ps p l) w = absurd (no_opening bytes (35 ∷ 34 ∷ []) (s ++ 34 ∷ q) n tokens.Opening.character w)
      go a k why (tokens.FailsAt.open_constant o s q ps op p l) w = absurd (no_opening bytes o _ n op (sym (append_assoc o s q) ∙ w))
      go a k why (tokens.FailsAt.wide_escape o s q ps op p l) w = absurd (no_opening bytes o _ n op (sym (append_assoc o s q) ∙ w))

-- white space
pub space_step : (c : ℕ) (s : List ℕ) → is_space c ≡ true → IsGapAt (c ∷ s) 1
space_step c s h = record { some = omega arith; room = omega arith; is = gaps.IsGap.space c h }

-- comments
pub comment_step : (s : List ℕ) (n : ℕ) → close_at 0 s ≡ Some n → n ≤ length s → IsGapAt (40 ∷ 42 ∷ s) (n + 2)
comment_step s n e b = record {
  some = omega arith;
  room = omega arith;
  is = subst IsGap (ap (λ k. take k (40 ∷ 42 ∷ s)) (let h : suc (suc n) ≡ n + 2 = omega arith in h)) (gaps.IsGap.comment (take n s) (comment_found s n e));
}

pub open_comment_step : (s : List ℕ) → close_at 0 s ≡ None → IsFirstAt (40 ∷ 42 ∷ s) (record { back = 0; trouble = Unclosed })
open_comment_step s e = record {
  room = omega arith;
  fails = tokens.FailsAt.open_comment s (λ t more h q. let x : Some (length t) ≡ None = sym (comment_is t more h) ∙ ap (close_at 0) q ∙ e in cc);
  first = λ k why g. go (40 ∷ 42 ∷ s) k why g refl;
}
  where
    none : OpensNone (40 ∷ 42 ∷ s)
    none = record { no_quote = omega arith; no_hash = λ h. omega (arith, h) }

    go : (a k : List ℕ) (why : Trouble) → FailsAt a k why → a ≡ 40 ∷ 42 ∷ s → (0 < length k) ⊎ ((0 ≡ length k) × (2 ≤ number_of why))
    go a k why (tokens.FailsAt.stranger c u g h q) w = absurd (h (40 ∷ []) (42 ∷ s) _ (spellings.Spells.reserved KwOpenParen) (sym w))
    go a k why (tokens.FailsAt.open_comment u h) w = inr (refl, omega arith)
    go a k why (tokens.FailsAt.wide_integer u q y st h) w = inr (refl, omega arith)
    go a k why (tokens.FailsAt.control o u c q ps op p l h) w = absurd (no_opening _ o _ none op (sym (append_assoc o u (c ∷ q)) ∙ w))
    go a k why (tokens.FailsAt.unknown o u q ps op p l) w = absurd (no_opening _ o _ none op (sym (append_assoc o u q) ∙ w))
    go a k why (tokens.FailsAt.count u q ps p l) w = absurd (no_opening _ (35 ∷ 34 ∷ []) (u ++ 34 ∷ q) none tokens.Opening.character w)
    go a k why (tokens.FailsAt.open_constant o u q ps op p l) w = absurd (no_opening _ o _ none op (sym (append_assoc o u q) ∙ w))
    go a k why (tokens.FailsAt.wide_escape o u q ps op p l) w = absurd (no_opening _ o _ none op (sym (append_assoc o u q) ∙ w))
