-- The scan of a comment finds what closes it.
use Rattle.std.proofs.Common.{◌≡◌, ◌≢◌, ℕ, zero, suc, ◌+◌, ◌-◌, Bool, true, false, ◌&&◌, ◌||◌, cond, eqb, List, [], ◌∷◌, ◌++◌, Option, Some, None, length, take, refl, sym, ap, ◌∙◌, subst, arith, ◌⊎◌, inl, inr}
use Rattle.std.proofs.lemmas.List.{append_assoc, length-append, append-nil}
use Rattle.std.proofs.lemmas.Bool.{and_parts, eqb-true, cond-true, cond-false, eq-eqb, ne_eqb, cases_eq}
use Rattle.sml_lexer.specs.Gaps.{is_mark, IsComment, close, byte, comment}
use Rattle.sml_lexer.specs.declared.comment.Mark.{Mark}
use Rattle.sml_lexer.specs.declared.comment.Mark.TheVariants.{Open, Close, Neither}
use Rattle.sml_lexer.specs.CommentScan.{mark_at, shifted, by_mark, close_at}
use Rattle.sml_lexer.proofs.CommentScanLemmas.{shifted-shifted}

-- what begins where two bytes stand
data Marks (c d : ℕ) (s : List ℕ) : Type 0 where
  opens : c ≡ 40 → d ≡ 42 → mark_at (c ∷ d ∷ s) ≡ Open → Marks c d s
  closes : c ≡ 42 → d ≡ 41 → mark_at (c ∷ d ∷ s) ≡ Close → Marks c d s
  neither : is_mark (c ∷ d ∷ s) ≡ false → mark_at (c ∷ d ∷ s) ≡ Neither → Marks c d s

marks : (c d : ℕ) (s : List ℕ) → Marks c d s
unfolding mark_at is_mark
marks c d s = go (eqb c 40 && eqb d 42) refl (eqb c 42 && eqb d 41) refl
  where
    go : (x : Bool) → (eqb c 40 && eqb d 42) ≡ x → (y : Bool) → (eqb c 42 && eqb d 41) ≡ y → Marks c d s
    go true p y q = let h = and_parts _ _ p in opens (eqb-true _ _ h.0) (eqb-true _ _ h.1) (cond-true _ _ _ p)
    go false p true q = let h = and_parts _ _ q in closes (eqb-true _ _ h.0) (eqb-true _ _ h.1) (cond-false _ _ _ p ∙ cond-true _ _ _ q)
    go false p false q = neither (ap (λ b. b || (eqb c 42 && eqb d 41)) p ∙ q) (cond-false _ _ _ p ∙ cond-false _ _ _ q)

nonempty : IsComment [] → ⊥
nonempty h = elim h [ ]

-- whether a mark begins before a comment's bytes doesn't depend on what follows them
mark_before : (c : ℕ) (a s : List ℕ) → IsComment a → is_mark (c ∷ (a ++ s)) ≡ is_mark (c ∷ a)
unfolding is_mark
mark_before c [] s h = absurd (nonempty h)
mark_before c (d ∷ a) s h = refl

-- so many comments' rests in a row
data Rows : ℕ → List ℕ → Type 0 where
  none : Rows zero []
  one : (n : ℕ) (a s : List ℕ) → IsComment a → Rows n s → Rows (suc n) (a ++ s)

no_rows : {n : ℕ} → Rows (suc n) [] → ⊥
no_rows h = empty _ h refl
  where
    empty : {n : ℕ} (t : List ℕ) → Rows (suc n) t → t ≡ [] → ⊥
    empty t (one n [] s ca rs) e = nonempty ca
    empty t (one n (x ∷ a) s ca rs) e = cc

rows_opened : (n : ℕ) (t : List ℕ) → Rows (suc (suc n)) t → Rows (suc n) (40 ∷ 42 ∷ t)
rows_opened n t (one m a s ca (one k b r cb rs)) =
    subst (λ x. Rows (suc n) (40 ∷ 42 ∷ x)) (append_assoc a b r) (one n (40 ∷ 42 ∷ (a ++ b)) r (comment a b ca cb) rs)

rows_closed : (n : ℕ) (t : List ℕ) → Rows n t → Rows (suc n) (42 ∷ 41 ∷ t)
rows_closed n t rs = one n (42 ∷ 41 ∷ []) t close rs

rows_byte : (n c : ℕ) (t : List ℕ) → is_mark (c ∷ t) ≡ false → Rows (suc n) t → Rows (suc n) (c ∷ t)
rows_byte n c t h (one m a s ca rs) = one n (c ∷ a) s (byte c a (sym (mark_before c a s ca) ∙ h) ca) rs

shifted_some : (n k : ℕ) (o : Option ℕ) → shifted n o ≡ Some k → (j : ℕ) × (o ≡ Some j) × (k ≡ n + j)
shifted_some n k None e = cc
shifted_some n k (Some j) e = (j, refl, cc)

-- the front of two bytes and so many more
take_two : (c d : ℕ) (s : List ℕ) (j k : ℕ) → k ≡ 2 + j → take k (c ∷ d ∷ s) ≡ c ∷ d ∷ take j s
take_two c d s j k e = ap (λ n. take n (c ∷ d ∷ s)) (let h : k ≡ suc (suc j) = omega arith in h)

module _ (c d : ℕ) (s : List ℕ) (depth : ℕ) where
  abbrev opened : Option ℕ
  opened = shifted 2 (close_at (depth + 1) s)

  abbrev closed : Option ℕ
  closed = cond (eqb depth 0) (Some 2) (shifted 2 (close_at (depth - 1) s))

  abbrev other : Option ℕ
  other = shifted 1 (close_at depth (d ∷ s))

  by : (m : Mark) → mark_at (c ∷ d ∷ s) ≡ m → close_at depth (c ∷ d ∷ s) ≡ by_mark m opened closed other
  by m e = ap (λ m. by_mark m (shifted 2 (close_at (depth + 1) s)) (cond (eqb depth 0) (Some 2) (shifted 2 (close_at (depth - 1) s))) (shifted 1 (close_at depth (d ∷ s)))) e

  module _ (k : ℕ) (e : close_at depth (c ∷ d ∷ s) ≡ Some k) (of_s : (n j : ℕ) → close_at n s ≡ Some j → Rows (suc n) (take j s)) where
    on_opened : c ≡ 40 → d ≡ 42 → mark_at (c ∷ d ∷ s) ≡ Open → Rows (suc depth) (take k (c ∷ d ∷ s))
    on_opened p q m =
        let (j, is, size) = shifted_some 2 k (close_at (depth + 1) s) (sym (by Open m) ∙ e) in
        let same : depth + 1 ≡ suc depth = omega arith in
        let deeper = subst (λ n. Rows (suc n) (take j s)) same (of_s (depth + 1) j is) in
        let whole : 40 ∷ 42 ∷ take j s ≡ take k (c ∷ d ∷ s) = ap (λ x. x ∷ 42 ∷ take j s) (sym p) ∙ ap (λ x. c ∷ x ∷ take j s) (sym q) ∙ sym (take_two c d s j k size) in
        subst (Rows (suc depth)) whole (rows_opened depth (take j s) deeper)

    on_byte : ((j : ℕ) → close_at depth (d ∷ s) ≡ Some j → Rows (suc depth) (take j (d ∷ s))) → is_mark (c ∷ d ∷ s) ≡ false → mark_at (c ∷ d ∷ s) ≡ Neither → Rows (suc depth) (take k (c ∷ d ∷ s))
    unfolding is_mark
    on_byte of_d p m =
        let (j, is, size) = shifted_some 1 k (close_at depth (d ∷ s)) (sym (by Neither m) ∙ e) in
        let whole : c ∷ take j (d ∷ s) ≡ take k (c ∷ d ∷ s) = ap (λ n. take n (c ∷ d ∷ s)) (let h : suc j ≡ k = omega arith in h) in
        subst (Rows (suc depth)) whole (rows_byte depth c (take j (d ∷ s)) (front j (of_d j is)) (of_d j is))
      where
        front : (j : ℕ) → Rows (suc depth) (take j (d ∷ s)) → is_mark (c ∷ take j (d ∷ s)) ≡ false
        front zero rs = absurd (no_rows rs)
        front (suc j) rs = p

    on_closed : c ≡ 42 → d ≡ 41 → mark_at (c ∷ d ∷ s) ≡ Close → Rows (suc depth) (take k (c ∷ d ∷ s))
    on_closed p q m = go (cases_eq depth 0)
      where
        whole : (j : ℕ) → k ≡ 2 + j → 42 ∷ 41 ∷ take j s ≡ take k (c ∷ d ∷ s)
        whole j size = ap (λ x. x ∷ 41 ∷ take j s) (sym p) ∙ ap (λ x. c ∷ x ∷ take j s) (sym q) ∙ sym (take_two c d s j k size)

        go : (depth ≡ 0) ⊎ (depth ≢ 0) → Rows (suc depth) (take k (c ∷ d ∷ s))
        go (inl z) =
            let is : Some 2 ≡ Some k = sym (by Close m ∙ cond-true _ _ _ (eq-eqb depth 0 z)) ∙ e in
            let size : k ≡ 2 + 0 = let h : 2 ≡ k = cc in omega arith in
            subst (λ n. Rows (suc n) (take k (c ∷ d ∷ s))) (sym z) (subst (Rows 1) (whole 0 size) (one 0 (42 ∷ 41 ∷ []) [] close none))
        go (inr ne) =
            let (j, is, size) = shifted_some 2 k (close_at (depth - 1) s) (sym (by Close m ∙ cond-false _ _ _ (ne_eqb depth 0 ne)) ∙ e) in
            let same : suc (depth - 1) ≡ depth = omega arith in
            let inner = subst (λ n. Rows n (take j s)) same (of_s (depth - 1) j is) in
            subst (Rows (suc depth)) (whole j size) (rows_closed depth (take j s) inner)

found_step : (c d : ℕ) (s : List ℕ) (depth k : ℕ) → close_at depth (c ∷ d ∷ s) ≡ Some k → ((n j : ℕ) → close_at n s ≡ Some j → Rows (suc n) (take j s))
    → ((j : ℕ) → close_at depth (d ∷ s) ≡ Some j → Rows (suc depth) (take j (d ∷ s))) → Marks c d s → Rows (suc depth) (take k (c ∷ d ∷ s))
found_step c d s depth k e of_s of_d (opens p q m) = on_opened c d s depth k e of_s p q m
found_step c d s depth k e of_s of_d (closes p q m) = on_closed c d s depth k e of_s p q m
found_step c d s depth k e of_s of_d (neither p m) = on_byte c d s depth k e of_s of_d p m

found : (s : List ℕ) (depth k : ℕ) → close_at depth s ≡ Some k → Rows (suc depth) (take k s)
found [] depth k e = cc
found (c ∷ []) depth k e = cc
found (c ∷ d ∷ s) depth k e = found_step c d s depth k e (λ n j h. found s n j h) (λ j h. found (d ∷ s) depth j h) (marks c d s)

one_row : (t : List ℕ) → Rows 1 t → IsComment t
one_row t (one n a s ca none) = subst IsComment (sym (append-nil a)) ca

pub comment_found : (s : List ℕ) (k : ℕ) → close_at 0 s ≡ Some k → IsComment (take k s)
comment_found s k e = one_row _ (found s 0 k e)

-- what stands behind a comment
abbrev behind : ℕ → List ℕ → Option ℕ
behind depth s = cond (eqb depth 0) (Some 0) (close_at (depth - 1) s)

behind_more : (depth : ℕ) (s : List ℕ) → behind (depth + 1) s ≡ close_at depth s
behind_more depth s = let ne : depth + 1 ≢ 0 = omega arith in cond-false _ _ _ (ne_eqb _ _ ne) ∙ ap (λ n. close_at n s) (omega arith)

at_byte : (c d : ℕ) (t : List ℕ) (depth : ℕ) (s : List ℕ) → is_mark (c ∷ d ∷ t) ≡ false → close_at depth (c ∷ d ∷ t ++ s) ≡ shifted 1 (close_at depth (d ∷ t ++ s))
unfolding is_mark
at_byte c d t depth s h = go (marks c d (t ++ s))
  where
    go : Marks c d (t ++ s) → close_at depth (c ∷ d ∷ t ++ s) ≡ shifted 1 (close_at depth (d ∷ t ++ s))
    go (opens p q m) = let k = ap (λ x. is_mark (x ∷ d ∷ t)) p ∙ ap (λ x. is_mark (40 ∷ x ∷ t)) q in cc
    go (closes p q m) = let k = ap (λ x. is_mark (x ∷ d ∷ t)) p ∙ ap (λ x. is_mark (42 ∷ x ∷ t)) q in cc
    go (neither p m) = by c d (t ++ s) depth Neither m

is_comment : (a : List ℕ) → IsComment a → (depth : ℕ) (s : List ℕ) → close_at depth (a ++ s) ≡ shifted (length a) (behind depth s)
unfolding mark_at
is_comment a close depth s = at_close (eqb depth 0)
  where
    at_close : (b : Bool) → cond b (Some 2) (shifted 2 (close_at (depth - 1) s)) ≡ shifted 2 (cond b (Some 0) (close_at (depth - 1) s))
    at_close true = refl
    at_close false = refl
is_comment a (byte c [] h ca) depth s = absurd (nonempty ca)
is_comment a (byte c (d ∷ t) h ca) depth s = at_byte c d t depth s h ∙ ap (shifted 1) (is_comment (d ∷ t) ca depth s) ∙ shifted-shifted 1 (length (d ∷ t)) (length (c ∷ d ∷ t)) _ (omega arith)
is_comment a (comment inner b ci cb) depth s =
    ap (λ x. shifted 2 (close_at (depth + 1) x)) (append_assoc inner b s)
    ∙ ap (shifted 2) (is_comment inner ci (depth + 1) (b ++ s) ∙ ap (shifted (length inner)) (behind_more depth (b ++ s) ∙ is_comment b cb depth s))
    ∙ ap (shifted 2) (shifted-shifted (length inner) (length b) (length (inner ++ b)) _ (sym (length-append inner b)))
    ∙ shifted-shifted 2 (length (inner ++ b)) (suc (suc (length (inner ++ b)))) _ (omega arith)

pub comment_is : (a s : List ℕ) → IsComment a → close_at 0 (a ++ s) ≡ Some (length a)
comment_is a s h = is_comment a h 0 s ∙ ap (λ n. Some n) (let e : length a + 0 ≡ length a = omega arith in e)
