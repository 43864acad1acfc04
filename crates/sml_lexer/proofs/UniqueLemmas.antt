-- At one place stands one thing: a gap, a token or faults.
use Rattle.std.proofs.Common.{◌≡◌, ◌≢◌, ℕ, suc, ◌≤◌, true, false, ◌||◌, eqb, List, [], ◌∷◌, ◌++◌, Some, None, length, take, drop, get_or, map, refl, sym, ap, ◌∙◌, subst, arith, ◌⊎◌, inl, inr}
use Rattle.std.specs.List.{AllByRecursion}
use Rattle.std.proofs.lemmas.List.{append_assoc, length-append, append-nil, take_at, drop_at}
use Rattle.std.proofs.lemmas.Bool.{or_cases, eqb-true, and_left, and_right, cond-false, ne_eqb, le-ltb}
use Rattle.sml_lexer.specs.declared.plain.Found.{Found}
use Rattle.sml_lexer.specs.declared.plain.Class.TheVariants.{Word}
use Rattle.sml_lexer.specs.declared.quoted.Ending.TheVariants as ending
use Rattle.sml_lexer.specs.declared.reserved.Reserved.TheVariants.{KwOpenParen}
use Rattle.sml_lexer.specs.declared.step.Trouble.{Trouble}
use Rattle.sml_lexer.specs.Bytes.{is_space, is_letter, is_digit, is_sign, is_control}
use Rattle.sml_lexer.specs.Classified.{meaning_of}
use Rattle.sml_lexer.specs.CommentScan.{close_at}
use Rattle.sml_lexer.specs.Gaps.{IsGap, IsComment}
use Rattle.sml_lexer.specs.Gaps as gaps
use Rattle.sml_lexer.specs.Meanings.{Meaning, IsInRange}
use Rattle.sml_lexer.specs.Meanings as meaning
use Rattle.sml_lexer.specs.PlainScan.{plain_at, point_at, word_of}
use Rattle.sml_lexer.specs.Quoted.{Part, AreParts, characters, has_wide, character_count}
use Rattle.sml_lexer.specs.Quoted as quoted
use Rattle.sml_lexer.specs.QuotedRead.{has_stray}
use Rattle.sml_lexer.specs.Reserved.{reserved_of}
use Rattle.sml_lexer.specs.Spellings.{Spells}
use Rattle.sml_lexer.specs.Tokens.{Opening, FailsAt, StandsAs, IsAllowed, IsLongest, OpensMore}
use Rattle.sml_lexer.specs.Tokens as tokens
use Rattle.sml_lexer.proofs.CommentLemmas.{comment_is}
use Rattle.sml_lexer.proofs.PlainLemmas.{at_point}
use Rattle.sml_lexer.proofs.PlainMost.{Quoted, string, character, Most, plain_found, plain_most}
use Rattle.sml_lexer.proofs.StageLemmas.{IsWhole, front, one_end}
use Rattle.sml_lexer.proofs.QuotedReadLemmas.{stray-append}
use Rattle.sml_lexer.proofs.ConstantFaults.{Faulty, control, unknown, count, unclosed, wide, faulty}
use Rattle.sml_lexer.proofs.ConstantSteps.{no_control, right_false}
use Rattle.sml_lexer.proofs.ConstantTokens.{quote_scan, hash_scan}

plain_nil : plain_at [] ≡ None
unfolding plain_at point_at is_letter is_digit is_sign reserved_of
plain_nil = refl

-- no token begins with white space
blank : (c : ℕ) (s : List ℕ) → is_letter c ≡ false → is_digit c ≡ false → c ≢ 39 → c ≢ 126 → is_sign c ≡ false → c ≢ 46 → reserved_of (c ∷ []) ≡ None → plain_at (c ∷ s) ≡ None
unfolding point_at
blank c s a b d t g dot r =
    at_point (c ∷ s) a b d (and_left _ _ (ne_eqb _ _ t)) g
    ∙ cond-false _ _ _ (and_left _ _ (and_left _ _ (and_right _ _ (ne_eqb _ _ dot))))
    ∙ ap word_of r

space_scan : (c : ℕ) (s : List ℕ) → is_space c ≡ true → plain_at (c ∷ s) ≡ None
unfolding is_space is_letter is_digit is_sign reserved_of
space_scan c s h = go (or_cases _ _ h)
  where
    at : (d : ℕ) → c ≡ d → plain_at (d ∷ s) ≡ None → plain_at (c ∷ s) ≡ None
    at d e k = ap (λ x. plain_at (x ∷ s)) e ∙ k

    first : (eqb c 32 ≡ true) ⊎ (eqb c 9 ≡ true) → plain_at (c ∷ s) ≡ None
    first (inl q) = at 32 (eqb-true _ _ q) (blank 32 s refl refl (omega arith) (omega arith) refl (omega arith) refl)
    first (inr q) = at 9 (eqb-true _ _ q) (blank 9 s refl refl (omega arith) (omega arith) refl (omega arith) refl)

    second : ((eqb c 32 || eqb c 9) ≡ true) ⊎ (eqb c 10 ≡ true) → plain_at (c ∷ s) ≡ None
    second (inl q) = first (or_cases _ _ q)
    second (inr q) = at 10 (eqb-true _ _ q) (blank 10 s refl refl (omega arith) (omega arith) refl (omega arith) refl)

    third : ((eqb c 32 || eqb c 9 || eqb c 10) ≡ true) ⊎ (eqb c 12 ≡ true) → plain_at (c ∷ s) ≡ None
    third (inl q) = second (or_cases _ _ q)
    third (inr q) = at 12 (eqb-true _ _ q) (blank 12 s refl refl (omega arith) (omega arith) refl (omega arith) refl)

    go : ((eqb c 32 || eqb c 9 || eqb c 10 || eqb c 12) ≡ true) ⊎ (eqb c 13 ≡ true) → plain_at (c ∷ s) ≡ None
    go (inl q) = third (or_cases _ _ q)
    go (inr q) = at 13 (eqb-true _ _ q) (blank 13 s refl refl (omega arith) (omega arith) refl (omega arith) refl)

-- at `(` the scan finds one byte
paren_scan : (s : List ℕ) → plain_at (40 ∷ s) ≡ Some (record { len = 1; class = Word KwOpenParen })
unfolding point_at is_letter is_digit is_sign reserved_of
paren_scan s =
    at_point (40 ∷ s) refl refl (omega arith) refl refl
    ∙ cond-false _ _ _ (and_left _ _ (and_left _ _ (and_right _ _ refl)))

quotes_no_space : (is_space 34 ≡ false) × (is_space 35 ≡ false) × (is_space 40 ≡ false)
unfolding is_space
quotes_no_space = (refl, refl, refl)

head : (s t : List ℕ) → s ≡ t → get_or s 0 0 ≡ get_or t 0 0
head s t e = ap (λ (x : List ℕ). get_or x 0 0) e

-- how a constant in quotes begins
quoted_head : (t more : List ℕ) (m : Meaning) → Quoted t m → (get_or (t ++ more) 0 0 ≡ 34) ⊎ ((get_or (t ++ more) 0 0 ≡ 35) × (get_or (t ++ more) 1 0 ≡ 34))
quoted_head t more m (string s codes p _) = inl refl
quoted_head t more m (character s n p _) = inr (refl, refl)

pub not_empty_spelling : (t : List ℕ) (m : Meaning) → Spells t m → t ≢ []
not_empty_spelling t m h e = go (plain_most t m h [])
  where
    heads : (get_or (t ++ []) 0 0 ≡ 34) ⊎ ((get_or (t ++ []) 0 0 ≡ 35) × (get_or (t ++ []) 1 0 ≡ 34)) → ⊥
    heads (inl q) = let k = ap (λ (x : List ℕ). get_or (x ++ []) 0 0) e in omega (arith, k, q)
    heads (inr q) = let k = ap (λ (x : List ℕ). get_or (x ++ []) 0 0) e in omega (arith, k, q.0)

    go : Quoted t m ⊎ Most t m [] → ⊥
    go (inl z) = heads (quoted_head t [] m z)
    go (inr z) = let x : Some z.answer ≡ None = sym z.is ∙ ap (λ y. plain_at (y ++ [])) e ∙ plain_nil in cc

-- no token stands where a comment opens
token_comment : (t r s : List ℕ) (m : Meaning) → StandsAs t r m → t ++ r ≡ 40 ∷ 42 ∷ s → ⊥
token_comment t r s m st e = go (plain_most t m st.spelled r)
  where
    one : (t : List ℕ) → t ≢ [] → length t ≤ 1 → t ++ r ≡ 40 ∷ 42 ∷ s → OpensMore t r
    one [] n l q = absurd (n refl)
    one (c ∷ []) n l q =
        let first : 40 ≡ c = cc in
        let rest : 42 ∷ s ≡ r = cc in
        subst (λ x. OpensMore (x ∷ []) r) first (subst (OpensMore (40 ∷ [])) rest (tokens.OpensMore.comment s))
    one (c ∷ d ∷ t) n l q = absurd (omega arith)

    heads : (get_or (t ++ r) 0 0 ≡ 34) ⊎ ((get_or (t ++ r) 0 0 ≡ 35) × (get_or (t ++ r) 1 0 ≡ 34)) → ⊥
    heads (inl q) = let k = head _ _ e in omega (arith, k, q)
    heads (inr q) = let k = head _ _ e in omega (arith, k, q.0)

    go : Quoted t m ⊎ Most t m r → ⊥
    go (inl z) = heads (quoted_head t r m z)
    go (inr z) =
        let x : Some z.answer ≡ Some (record { len = 1; class = Word KwOpenParen }) = sym z.is ∙ ap plain_at e ∙ paren_scan (42 ∷ s) in
        let same : z.answer ≡ record { len = 1; class = Word KwOpenParen } = cc in
        let k = ap (λ (f : Found). f.len) same in
        let b = z.most.bound in
        st.whole (one t (not_empty_spelling t m st.spelled) (omega arith) e)

-- no gap is a token
pub gap_token : (s q t r : List ℕ) (m : Meaning) → IsGap s → StandsAs t r m → s ++ q ≡ t ++ r → ⊥
gap_token s q t r m (gaps.IsGap.comment u h) st e = token_comment t r (u ++ q) m st (sym e)
gap_token s q t r m (gaps.IsGap.space c h) st e = go (plain_most t m st.spelled r)
  where
    heads : (get_or (t ++ r) 0 0 ≡ 34) ⊎ ((get_or (t ++ r) 0 0 ≡ 35) × (get_or (t ++ r) 1 0 ≡ 34)) → ⊥
    heads (inl k) = let x : true ≡ false = sym h ∙ ap is_space (head _ _ e ∙ k) ∙ quotes_no_space.0 in cc
    heads (inr k) = let x : true ≡ false = sym h ∙ ap is_space (head _ _ e ∙ k.0) ∙ quotes_no_space.1 in cc

    go : Quoted t m ⊎ Most t m r → ⊥
    go (inl z) = heads (quoted_head t r m z)
    go (inr z) = let x : Some z.answer ≡ None = sym z.is ∙ ap plain_at (sym e) ∙ space_scan c q h in cc

by_length : (s q t r : List ℕ) → s ++ q ≡ t ++ r → length s ≡ length t → (s ≡ t) × (q ≡ r)
by_length s q t r e l = (sym (take_at s q (length s) refl) ∙ ap (take (length s)) e ∙ take_at t r (length s) (sym l), sym (drop_at s q (length s) refl) ∙ ap (drop (length s)) e ∙ drop_at t r (length s) (sym l))

-- one gap stands at a place
pub gap_unique : (s q t r : List ℕ) → IsGap s → IsGap t → s ++ q ≡ t ++ r → (s ≡ t) × (q ≡ r)
gap_unique s q t r (gaps.IsGap.space c h) (gaps.IsGap.space d k) e = by_length s q t r e refl
gap_unique s q t r (gaps.IsGap.space c h) (gaps.IsGap.comment u k) e = absurd (let x : true ≡ false = sym h ∙ ap is_space (head _ _ e) ∙ quotes_no_space.2 in cc)
gap_unique s q t r (gaps.IsGap.comment u h) (gaps.IsGap.space d k) e = absurd (let x : true ≡ false = sym k ∙ ap is_space (head _ _ (sym e)) ∙ quotes_no_space.2 in cc)
gap_unique s q t r (gaps.IsGap.comment u h) (gaps.IsGap.comment v k) e =
    let inner : u ++ q ≡ v ++ r = cc in
    let x : Some (length u) ≡ Some (length v) = sym (comment_is u q h) ∙ ap (close_at 0) inner ∙ comment_is v r k in
    let l : length u ≡ length v = cc in
    by_length s q t r e (ap (λ n. suc (suc n)) l)

pub no_gap_here : (s : List ℕ) → IsGap s → s ≢ []
no_gap_here s (gaps.IsGap.space c h) e = cc
no_gap_here s (gaps.IsGap.comment u h) e = cc

map_same : {A B : Type 0} (f : A → B) → ((x y : A) → f x ≡ f y → x ≡ y) → (s t : List A) → map f s ≡ map f t → s ≡ t
map_same f h [] [] e = refl
map_same f h [] (y ∷ t) e = cc
map_same f h (x ∷ s) [] e = cc
map_same f h (x ∷ s) (y ∷ t) e =
    let a : f x ≡ f y = cc in
    let b : map f s ≡ map f t = cc in
    let c = h x y a in
    let d = map_same f h s t b in
    cc

same_codes : (s t codes others : List ℕ) → AreParts s (characters codes) → AreParts t (characters others) → s ++ 34 ∷ [] ≡ t ++ 34 ∷ [] → codes ≡ others
same_codes s t codes others p q e =
    let w : IsWhole (s ++ 34 ∷ []) s (characters codes) ending.Closed (34 ∷ []) = record { bytes_are = refl; parts = p; ends = ([], refl) } in
    let u = one_end (s ++ 34 ∷ []) s (characters codes) ending.Closed (34 ∷ []) w t (characters others) q (34 ∷ []) (sym e) ending.Closed ([], refl) in
    sym (map_same quoted.character (λ x y k. cc) others codes u.2)

quoted_same : (t u : List ℕ) (m n : Meaning) → Quoted t m → Quoted u n → t ≡ u → m ≡ n
quoted_same t u m n (string s codes p _) (string v others q _) e = ap (λ c. meaning.text c) (same_codes s v codes others p q cc)
quoted_same t u m n (string s codes p _) (character v k q _) e = absurd (let h = head _ _ e in omega (arith, h))
quoted_same t u m n (character s k p _) (string v others q _) e = absurd (let h = head _ _ e in omega (arith, h))
quoted_same t u m n (character s k p _) (character v l q _) e = let h = same_codes s v (k ∷ []) (l ∷ []) p q cc in let x : k ≡ l = cc in ap (λ c. meaning.character c) x

quoted_not_most : (t r : List ℕ) (m n : Meaning) → Quoted t m → Most t n r → ⊥
quoted_not_most t r m n (string s codes p _) z = let x : Some z.answer ≡ None = sym z.is ∙ ap plain_at (append_assoc (34 ∷ s) (34 ∷ []) r) ∙ quote_scan (s ++ 34 ∷ r) in cc
quoted_not_most t r m n (character s k p _) z =
    let f = hash_scan (s ++ 34 ∷ r) z.answer (ap plain_at (sym (append_assoc (35 ∷ 34 ∷ s) (34 ∷ []) r)) ∙ z.is) in
    let b = z.most.bound in
    omega arith

-- a spelling means one thing
pub spells_same : (t : List ℕ) (m n : Meaning) → Spells t m → Spells t n → m ≡ n
spells_same t m n h k = go (plain_most t m h []) (plain_most t n k [])
  where
    go : Quoted t m ⊎ Most t m [] → Quoted t n ⊎ Most t n [] → m ≡ n
    go (inl a) (inl b) = quoted_same t t m n a b refl
    go (inl a) (inr b) = absurd (quoted_not_most t [] m n a b)
    go (inr a) (inl b) = absurd (quoted_not_most t [] n m b a)
    go (inr a) (inr b) =
        let x : Some a.answer ≡ Some b.answer = sym a.is ∙ b.is in
        let same : a.answer ≡ b.answer = cc in
        let f = plain_found (t ++ []) (λ q. not_empty_spelling t m h (sym (append-nil t) ∙ q)) a.answer a.is in
        let w = f.within in
        let l = length-append t [] in
        let c = a.most.bound in
        let d = b.most.bound in
        let g = ap (λ (f : Found). f.len) same in
        sym (a.most.same (omega arith)) ∙ ap (λ (f : Found). meaning_of f.class t) same ∙ b.most.same (omega arith)

-- one token stands at a place
pub token_unique : (t r u v : List ℕ) (m n : Meaning) → StandsAs t r m → StandsAs u v n → t ++ r ≡ u ++ v → (t ≡ u) × (r ≡ v) × (m ≡ n)
token_unique t r u v m n a b e =
    let k = a.longest u v n b.spelled (sym e) in
    let l = b.longest t r m a.spelled e in
    let (same, rest) = by_length t r u v e (omega arith) in
    (same, rest, spells_same t m n a.spelled (subst (λ x. Spells x n) (sym same) b.spelled))

no_opening_gap : (o x s q : List ℕ) → Opening o → IsGap s → o ++ x ≡ s ++ q → ⊥
no_opening_gap o x s q tokens.Opening.string (gaps.IsGap.space c h) e = let k : true ≡ false = sym h ∙ ap is_space (sym (head _ _ e)) ∙ quotes_no_space.0 in cc
no_opening_gap o x s q tokens.Opening.character (gaps.IsGap.space c h) e = let k : true ≡ false = sym h ∙ ap is_space (sym (head _ _ e)) ∙ quotes_no_space.1 in cc
no_opening_gap o x s q tokens.Opening.string (gaps.IsGap.comment u h) e = let k = head _ _ e in omega (arith, k)
no_opening_gap o x s q tokens.Opening.character (gaps.IsGap.comment u h) e = let k = head _ _ e in omega (arith, k)

-- where a gap stands nothing fails
pub fault_gap : (a k : List ℕ) (why : Trouble) → FailsAt a k why → (s q : List ℕ) → IsGap s → a ≡ s ++ q → ⊥
fault_gap a k why (tokens.FailsAt.stranger c t g h n) s q p e = g s q p (sym e)
fault_gap a k why (tokens.FailsAt.open_comment t n) s q (gaps.IsGap.space c h) e = let x : true ≡ false = sym h ∙ ap is_space (sym (head _ _ e)) ∙ quotes_no_space.2 in cc
fault_gap a k why (tokens.FailsAt.open_comment t n) s q (gaps.IsGap.comment u h) e = n u q h cc
fault_gap a k why (tokens.FailsAt.wide_integer t r z st n) s q p e = gap_token s q t r _ p st (sym e)
fault_gap a k why (tokens.FailsAt.control o t c r ps op l i n) s q p e = no_opening_gap o _ s q op p (sym (append_assoc o t (c ∷ r)) ∙ e)
fault_gap a k why (tokens.FailsAt.unknown o t r ps op l i) s q p e = no_opening_gap o _ s q op p (sym (append_assoc o t r) ∙ e)
fault_gap a k why (tokens.FailsAt.count t r ps l i) s q p e = no_opening_gap (35 ∷ 34 ∷ []) (t ++ 34 ∷ r) s q tokens.Opening.character p e
fault_gap a k why (tokens.FailsAt.open_constant o t r ps op l i) s q p e = no_opening_gap o _ s q op p (sym (append_assoc o t r) ∙ e)
fault_gap a k why (tokens.FailsAt.wide_escape o t r ps op l i) s q p e = no_opening_gap o _ s q op p (sym (append_assoc o t r) ∙ e)

clean_stray : (codes : List ℕ) → has_stray (characters codes) ≡ false
clean_stray [] = refl
clean_stray (c ∷ codes) = clean_stray codes

clean_wide : (codes : List ℕ) → AllByRecursion (λ n. n ≤ 255) codes → has_wide (characters codes) ≡ false
clean_wide [] h = refl
clean_wide (c ∷ codes) h = let k = h.0 in cond-false _ _ _ (le-ltb 255 c k) ∙ clean_wide codes h.1

control_quote : is_control 34 ≡ false
unfolding is_control
control_quote = refl

-- a clean constant has no fault
clean_not_faulty : (o rest s codes r : List ℕ) → IsWhole rest s (characters codes) ending.Closed (34 ∷ r) → AllByRecursion (λ n. n ≤ 255) codes → (o ≡ 35 ∷ 34 ∷ [] → character_count (characters codes) ≡ 1)
    → (k : List ℕ) (why : Trouble) → Faulty o rest (characters codes) ending.Closed k why → ⊥
clean_not_faulty o rest s codes r w l one k why (control t y qs c a i n e) =
    let (u, us, b, f, g, h) = front rest s (characters codes) ending.Closed (34 ∷ r) w t qs a (c ∷ y) e in
    let nil = no_control u us b (right_false (has_stray qs) (has_stray us) (sym (stray-append qs us) ∙ ap has_stray (sym g) ∙ clean_stray codes)) (34 ∷ r) y c i n h in
    let same : 34 ∷ r ≡ c ∷ y = ap (λ x. x ++ 34 ∷ r) (sym nil) ∙ h in
    let q : true ≡ false = sym i ∙ ap is_control (sym (head _ _ same)) ∙ control_quote in cc
clean_not_faulty o rest s codes r w l one k why (unknown e) = cc
clean_not_faulty o rest s codes r w l one k why (count o' e n) = n (one o')
clean_not_faulty o rest s codes r w l one k why (unclosed e) = cc
clean_not_faulty o rest s codes r w l one k why (wide h) = let q : true ≡ false = sym h ∙ clean_wide codes l in cc

-- a token that opens as a constant in quotes has no fault of one
quoted_fault : (t r : List ℕ) (m : Meaning) → Quoted t m → (a k : List ℕ) (why : Trouble) → FailsAt a k why → a ≡ t ++ r → ⊥
quoted_fault t r m (string s codes p l) a k why f e =
    let w : IsWhole (s ++ 34 ∷ r) s (characters codes) ending.Closed (34 ∷ r) = record { bytes_are = refl; parts = p; ends = (r, refl) } in
    clean_not_faulty (34 ∷ []) _ s codes r w l (λ q. absurd (let x = ap length q in omega (arith, x))) k why
    (faulty (34 ∷ []) (s ++ 34 ∷ r) s (characters codes) ending.Closed (34 ∷ r) w tokens.Opening.string a k why f (e ∙ append_assoc (34 ∷ s) (34 ∷ []) r))
quoted_fault t r m (character s n p l) a k why f e =
    let w : IsWhole (s ++ 34 ∷ r) s (characters (n ∷ [])) ending.Closed (34 ∷ r) = record { bytes_are = refl; parts = p; ends = (r, refl) } in
    clean_not_faulty (35 ∷ 34 ∷ []) _ s (n ∷ []) r w (l, tt) (λ q. refl) k why
    (faulty (35 ∷ 34 ∷ []) (s ++ 34 ∷ r) s (characters (n ∷ [])) ending.Closed (34 ∷ r) w tokens.Opening.character a k why f (e ∙ append_assoc (35 ∷ 34 ∷ s) (34 ∷ []) r))

-- what opens a constant is no other token
opened : (t r : List ℕ) (m : Meaning) → StandsAs t r m → (o x : List ℕ) → Opening o → o ++ x ≡ t ++ r → Quoted t m
opened t r m st o x op e = go (plain_most t m st.spelled r)
  where
    one : (t : List ℕ) (y : List ℕ) → t ≢ [] → length t ≤ 1 → 35 ∷ 34 ∷ y ≡ t ++ r → OpensMore t r
    one [] y n l q = absurd (n refl)
    one (c ∷ []) y n l q =
        let first : 35 ≡ c = cc in
        let rest : 34 ∷ y ≡ r = cc in
        subst (λ x. OpensMore (x ∷ []) r) first (subst (OpensMore (35 ∷ [])) rest (tokens.OpensMore.constant y))
    one (c ∷ d ∷ t) y n l q = absurd (omega arith)

    plain : (o : List ℕ) → Opening o → o ++ x ≡ t ++ r → Most t m r → ⊥
    plain o tokens.Opening.string q z = let k : Some z.answer ≡ None = sym z.is ∙ ap plain_at (sym q) ∙ quote_scan x in cc
    plain o tokens.Opening.character q z =
        let f = hash_scan x z.answer (ap plain_at q ∙ z.is) in
        let b = z.most.bound in
        st.whole (one t x (not_empty_spelling t m st.spelled) (omega arith) q)

    go : Quoted t m ⊎ Most t m r → Quoted t m
    go (inl z) = z
    go (inr z) = absurd (plain o op e z)

-- where an allowed token stands nothing fails
pub fault_token : (a k : List ℕ) (why : Trouble) → FailsAt a k why → (t r : List ℕ) (m : Meaning) → StandsAs t r m → IsAllowed m → a ≡ t ++ r → ⊥
fault_token a k why (tokens.FailsAt.stranger c u g h n) t r m st al e = h t r m st.spelled (sym e)
fault_token a k why (tokens.FailsAt.open_comment u n) t r m st al e = token_comment t r u m st (sym e)
fault_token a k why (tokens.FailsAt.wide_integer u v z wt n) t r m st al e = let x = token_unique t r u v m _ st wt (sym e) in n (subst IsAllowed x.2 al)
fault_token a k why (tokens.FailsAt.control o u c v ps op l i n) t r m st al e = quoted_fault t r m (opened t r m st o _ op (sym (append_assoc o u (c ∷ v)) ∙ e)) _ _ _ (tokens.FailsAt.control o u c v ps op l i n) e
fault_token a k why (tokens.FailsAt.unknown o u v ps op l i) t r m st al e = quoted_fault t r m (opened t r m st o _ op (sym (append_assoc o u v) ∙ e)) _ _ _ (tokens.FailsAt.unknown o u v ps op l i) e
fault_token a k why (tokens.FailsAt.count u v ps l i) t r m st al e = quoted_fault t r m (opened t r m st (35 ∷ 34 ∷ []) (u ++ 34 ∷ v) tokens.Opening.character e) _ _ _ (tokens.FailsAt.count u v ps l i) e
fault_token a k why (tokens.FailsAt.open_constant o u v ps op l i) t r m st al e = quoted_fault t r m (opened t r m st o _ op (sym (append_assoc o u v) ∙ e)) _ _ _ (tokens.FailsAt.open_constant o u v ps op l i) e
fault_token a k why (tokens.FailsAt.wide_escape o u v ps op l i) t r m st al e = quoted_fault t r m (opened t r m st o _ op (sym (append_assoc o u v) ∙ e)) _ _ _ (tokens.FailsAt.wide_escape o u v ps op l i) e

opening_some : (o x : List ℕ) → Opening o → o ++ x ≡ [] → ⊥
opening_some o x tokens.Opening.string q = cc
opening_some o x tokens.Opening.character q = cc

some_front : (u v : List ℕ) → u ≢ [] → u ++ v ≡ [] → ⊥
some_front [] v n q = n refl
some_front (c ∷ u) v n q = cc

pub fault_some : (a k : List ℕ) (why : Trouble) → FailsAt a k why → a ≢ []
fault_some a k why (tokens.FailsAt.stranger c u g h n) e = cc
fault_some a k why (tokens.FailsAt.open_comment u n) e = cc
fault_some a k why (tokens.FailsAt.wide_integer u v z st n) e = some_front u v (not_empty_spelling u _ st.spelled) e
fault_some a k why (tokens.FailsAt.control o u c v ps op l i n) e = opening_some o _ op (sym (append_assoc o u (c ∷ v)) ∙ e)
fault_some a k why (tokens.FailsAt.unknown o u v ps op l i) e = opening_some o _ op (sym (append_assoc o u v) ∙ e)
fault_some a k why (tokens.FailsAt.count u v ps l i) e = cc
fault_some a k why (tokens.FailsAt.open_constant o u v ps op l i) e = opening_some o _ op (sym (append_assoc o u v) ∙ e)
fault_some a k why (tokens.FailsAt.wide_escape o u v ps op l i) e = opening_some o _ op (sym (append_assoc o u v) ∙ e)
