-- A file has one list of tokens, or faults.
use Rattle.std.proofs.Common.{◌≡◌, ◌≢◌, ℕ, ◌+◌, ◌<◌, ◌≤◌, List, [], ◌∷◌, ◌++◌, length, refl, sym, ap, ◌∙◌, subst, arith, ◌⊎◌, inl, inr}
use Rattle.std.proofs.lemmas.List.{append_assoc, length-append, append-nil}
use Rattle.sml_lexer.specs.declared.step.Trouble.{Trouble}
use Rattle.sml_lexer.specs.Gaps.{IsGap}
use Rattle.sml_lexer.specs.Meanings.{Meaning}
use Rattle.sml_lexer.specs.Tokens.{FailsAt, StandsAs, IsAllowed, Lexeme, Behind, AreTokens, Fault, Fails, IsFirstFault, Precedes, number_of}
use Rattle.sml_lexer.specs.Tokens as tokens
use Rattle.sml_lexer.proofs.UniqueLemmas.{gap_unique, gap_token, token_unique, fault_gap, fault_token, fault_some, no_gap_here, not_empty_spelling}

-- the bytes before a place, those behind it, and the tokens so far
pub data Reached (file : List ℕ) : List ℕ → List ℕ → List Lexeme → Type 0 where
  start : Reached file [] file []
  gap : (before s rest : List ℕ) (ts : List Lexeme) → Reached file before (s ++ rest) ts → IsGap s → Reached file (before ++ s) rest ts
  token : (before s rest : List ℕ) (m : Meaning) (ts : List Lexeme) → Reached file before (s ++ rest) ts → StandsAs s rest m → IsAllowed m
      → Reached file (before ++ s) rest (ts ++ record { before = before; text = s; meaning = m } ∷ [])

-- what holds behind a place that was reached holds behind the file's start
pub behind : (P : List ℕ → List ℕ → Type 0) (file b a : List ℕ) (ts : List Lexeme) → Reached file b a ts → (us : List Lexeme) → Behind P b a us → Behind P [] file (ts ++ us)
behind P file b a ts start us h = h
behind P file b a ts (gap before s rest us r g) vs h = behind P file before (s ++ rest) us r vs (tokens.Behind.gap before s rest vs g h)
behind P file b a ts (token before s rest m us r st al) vs h =
    subst (Behind P [] file) (sym (append_assoc us (record { before = before; text = s; meaning = m } ∷ []) vs))
    (behind P file before (s ++ rest) us r (record { before = before; text = s; meaning = m } ∷ vs) (tokens.Behind.token before s rest m vs st al h))

-- P holds only where no gap and no token stands
pub record IsStuck (P : List ℕ → List ℕ → Type 0) : Type 0 where
  pub no_gap : (b a s q : List ℕ) → P b a → IsGap s → a ≡ s ++ q → ⊥
  pub no_token : (b a t r : List ℕ) (m : Meaning) → P b a → StandsAs t r m → IsAllowed m → a ≡ t ++ r → ⊥

module _ (P : List ℕ → List ℕ → Type 0) (stuck : IsStuck P) where
  past_gap : (b a : List ℕ) (us : List Lexeme) → Behind P b a us → (s q : List ℕ) → IsGap s → a ≡ s ++ q → Behind P (b ++ s) q us
  past_gap b a us (tokens.Behind.here b' a' p) s q g e = absurd (stuck.no_gap b a s q p g e)
  past_gap b a us (tokens.Behind.gap b' t r vs h k) s q g e =
      let u = gap_unique t r s q h g e in
      subst (λ x. Behind P (b ++ x) q us) u.0 (subst (λ x. Behind P (b ++ t) x us) u.1 k)
  past_gap b a us (tokens.Behind.token b' t r m vs st al k) s q g e = absurd (gap_token s q t r m g st (sym e))

  past_token : (b a : List ℕ) (us : List Lexeme) → Behind P b a us → (s q : List ℕ) (m : Meaning) → StandsAs s q m → IsAllowed m → a ≡ s ++ q
      → (vs : List Lexeme) × (us ≡ record { before = b; text = s; meaning = m } ∷ vs) × Behind P (b ++ s) q vs
  past_token b a us (tokens.Behind.here b' a' p) s q m st al e = absurd (stuck.no_token b a s q m p st al e)
  past_token b a us (tokens.Behind.gap b' t r vs h k) s q m st al e = absurd (gap_token t r s q m h st e)
  past_token b a us (tokens.Behind.token b' t r n vs sn an k) s q m st al e =
      let u = token_unique t r s q n m sn st e in (
        vs,
        ap (λ x. record { before = b; text = x; meaning = n } ∷ vs) u.0 ∙ ap (λ x. record { before = b; text = s; meaning = x } ∷ vs) u.2,
        subst (λ x. Behind P (b ++ x) q vs) u.0 (subst (λ x. Behind P (b ++ t) x vs) u.1 k),
      )

  -- each place that was reached lies on the way to where P holds
  pub follow : (file : List ℕ) (us : List Lexeme) → Behind P [] file us → (b a : List ℕ) (ts : List Lexeme) → Reached file b a ts → (vs : List Lexeme) × (us ≡ ts ++ vs) × Behind P b a vs
  follow file us h b a ts start = (us, refl, h)
  follow file us h b a ts (gap before s rest ws r g) =
      let f = follow file us h before (s ++ rest) ws r in
      (f.0, f.1, past_gap before (s ++ rest) f.0 f.2 s rest g refl)
  follow file us h b a ts (token before s rest m ws r st al) =
      let f = follow file us h before (s ++ rest) ws r in
      let p = past_token before (s ++ rest) f.0 f.2 s rest m st al refl in
      (p.0, f.1 ∙ ap (λ x. ws ++ x) p.1 ∙ sym (append_assoc ws _ p.0), p.2)

-- the end of a file
pub Ended : List ℕ → List ℕ → Type 0
Ended b a = a ≡ []

-- a fault of a file
pub Faulted : Fault → List ℕ → List ℕ → Type 0
Faulted f b a = (k : List ℕ) × (f.at ≡ b ++ k) × FailsAt a k f.why

some_front : (u v : List ℕ) → u ≢ [] → [] ≡ u ++ v → ⊥
some_front [] v n q = n refl
some_front (c ∷ u) v n q = cc

ended_stuck : IsStuck Ended
unfolding Ended
ended_stuck = record {
  no_gap = λ b a s q p g e. some_front s q (no_gap_here s g) (sym p ∙ e);
  no_token = λ b a t r m p st al e. some_front t r (not_empty_spelling t m st.spelled) (sym p ∙ e);
}

faulted_stuck : (f : Fault) → IsStuck (Faulted f)
unfolding Faulted
faulted_stuck f = record {
  no_gap = λ b a s q p g e. fault_gap a p.0 f.why p.2 s q g e;
  no_token = λ b a t r m p st al e. fault_token a p.0 f.why p.2 t r m st al e;
}

-- a file that was read to its end has these tokens
pub read_whole : (file : List ℕ) (ts : List Lexeme) (b a : List ℕ) → Reached file b a ts → a ≡ [] → AreTokens file ts
read_whole file ts b a r e = subst (AreTokens file) (append-nil ts) (behind (λ x y. y ≡ []) file b a ts r [] (tokens.Behind.here b a e))

-- a fault at a place that was reached is the file's first one
pub read_fault : (file b a : List ℕ) (ts : List Lexeme) → Reached file b a ts → (back : List ℕ) (why : Trouble) → FailsAt a back why
    → ((k : List ℕ) (v : Trouble) → FailsAt a k v → (length back < length k) ⊎ ((length back ≡ length k) × (number_of why ≤ number_of v)))
    → IsFirstFault file (record { at = b ++ back; why = why })
unfolding Faulted
read_fault file b a ts r back why f least = record {
  fails = tokens.Fails.fails (b ++ back) why (ts ++ []) (behind _ file b a ts r [] (tokens.Behind.here b a (back, refl, f)));
  first = λ g h. go g h;
}
  where
    at_place : (g : Fault) (x y : List ℕ) (vs : List Lexeme) → Behind (Faulted g) x y vs → x ≡ b → y ≡ a → Precedes (record { at = b ++ back; why = why }) g
    at_place g x y vs (tokens.Behind.here b' a' p) eb ea = later (least p.0 g.why (subst (λ z. FailsAt z p.0 g.why) ea p.2))
      where
        size : length g.at ≡ length b + length p.0
        size = ap length p.1 ∙ ap (λ z. length (z ++ p.0)) eb ∙ length-append b p.0

        later : (length back < length p.0) ⊎ ((length back ≡ length p.0) × (number_of why ≤ number_of g.why)) → Precedes (record { at = b ++ back; why = why }) g
        later (inl l) = inl (omega (arith, length-append b back, size))
        later (inr l) = inr (omega (arith, length-append b back, size, l.0), l.1)
    at_place g x y vs (tokens.Behind.gap b' s q us h k) eb ea = absurd (fault_gap a back why f s q h (sym ea))
    at_place g x y vs (tokens.Behind.token b' s q m us st al k) eb ea = absurd (fault_token a back why f s q m st al (sym ea))

    go : (g : Fault) → Fails file g → Precedes (record { at = b ++ back; why = why }) g
    go g (tokens.Fails.fails at v us h) = let x = follow (Faulted g) (faulted_stuck g) file us h b a ts r in at_place g b a x.0 x.2 refl refl

-- the way to the end of a file
way : (file b a : List ℕ) (ts : List Lexeme) → Reached file b a ts → (us : List Lexeme) → Behind (λ x y. y ≡ []) b a us → (e : List ℕ) × Reached file e [] (ts ++ us)
way file b a ts r us (tokens.Behind.here b' a' p) = (b, subst (Reached file b []) (sym (append-nil ts)) (subst (λ x. Reached file b x ts) p r))
way file b a ts r us (tokens.Behind.gap b' s q vs g k) = way file (b ++ s) q ts (gap b s q ts r g) us k
way file b a ts r us (tokens.Behind.token b' s q m vs st al k) =
    let w = way file (b ++ s) q (ts ++ record { before = b; text = s; meaning = m } ∷ []) (token b s q m ts r st al) vs k in
    (w.0, subst (Reached file w.0 []) (append_assoc ts (record { before = b; text = s; meaning = m } ∷ []) vs) w.1)

nothing_left : (P : List ℕ → List ℕ → Type 0) (b a : List ℕ) (vs : List Lexeme) → Behind P b a vs → a ≡ [] → (vs ≡ []) × P b a
nothing_left P b a vs (tokens.Behind.here b' a' p) e = (refl, p)
nothing_left P b a vs (tokens.Behind.gap b' s q us g k) e = absurd (some_front s q (no_gap_here s g) (sym e))
nothing_left P b a vs (tokens.Behind.token b' s q m us st al k) e = absurd (some_front s q (not_empty_spelling s m st.spelled) (sym e))

-- a file has one list of tokens
pub tokens_unique : (file : List ℕ) (ts us : List Lexeme) → AreTokens file ts → AreTokens file us → ts ≡ us
unfolding Ended
tokens_unique file ts us h k =
    let w = way file [] file [] start ts h in
    let f = follow Ended ended_stuck file us k w.0 [] ts w.1 in
    let n = nothing_left Ended w.0 [] f.0 f.2 refl in
    sym (f.1 ∙ ap (λ x. ts ++ x) n.0 ∙ append-nil ts)

-- and no fault then
pub tokens_or_faults : (file : List ℕ) (ts : List Lexeme) (g : Fault) → AreTokens file ts → Fails file g → ⊥
unfolding Faulted
tokens_or_faults file ts g h (tokens.Fails.fails at why us k) =
    let w = way file [] file [] start ts h in
    let f = follow (Faulted g) (faulted_stuck g) file us k w.0 [] ts w.1 in
    let n = nothing_left (Faulted g) w.0 [] f.0 f.2 refl in
    fault_some [] n.1.0 g.why n.1.2 refl
