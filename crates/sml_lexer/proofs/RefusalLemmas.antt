-- A list of files has one refusal at most.
use Rattle.std.proofs.Common.{◌≡◌, ℕ, ◌+◌, ◌≤◌, List, [], ◌∷◌, ◌++◌, length, refl, sym, ap, ◌∙◌, subst, arith, inl, inr, take}
use Rattle.std.specs.List.{AllByRecursion}
use Rattle.std.proofs.lemmas.List.{append_assoc, take_at}
use Rattle.smlc_base.specs.declared.refusal.Refusal.{Refusal}
use Rattle.smlc_base.specs.declared.refusal.Refusal.TheVariants as refusal
use Rattle.sml_lexer.specs.declared.step.Trouble.{Trouble}
use Rattle.sml_lexer.specs.declared.step.Trouble.TheVariants.{BadToken, Unclosed, LiteralRange}
use Rattle.sml_lexer.specs.Drafts.{refusal_of}
use Rattle.sml_lexer.specs.Files.{total, limit, HasTokens, IsRefusal}
use Rattle.sml_lexer.specs.Files as files
use Rattle.sml_lexer.specs.Places.{place_behind}
use Rattle.sml_lexer.specs.Tokens.{FailsAt, Lexeme, Behind, Fault, Fails, IsFirstFault, Precedes, number_of}
use Rattle.sml_lexer.specs.Tokens as tokens
use Rattle.sml_lexer.proofs.FileLemmas.{tokens_or_faults}
use Rattle.sml_lexer.proofs.FilesLemmas.{total-append}

-- the bytes before a fault are a front of what stands at its place
fault_front : (a k : List ℕ) (why : Trouble) → FailsAt a k why → (r : List ℕ) × (a ≡ k ++ r)
fault_front a k why (tokens.FailsAt.stranger c s g h n) = (c ∷ s, refl)
fault_front a k why (tokens.FailsAt.open_comment s n) = (40 ∷ 42 ∷ s, refl)
fault_front a k why (tokens.FailsAt.wide_integer s r z st n) = (s ++ r, refl)
fault_front a k why (tokens.FailsAt.control o s c r ps op l i n) = (c ∷ r, refl)
fault_front a k why (tokens.FailsAt.unknown o s r ps op l i) = (o ++ s ++ r, refl)
fault_front a k why (tokens.FailsAt.count s r ps l i) = (35 ∷ 34 ∷ s ++ 34 ∷ r, refl)
fault_front a k why (tokens.FailsAt.open_constant o s r ps op l i) = (o ++ s ++ r, refl)
fault_front a k why (tokens.FailsAt.wide_escape o s r ps op l i) = (o ++ s ++ r, refl)

behind_front : (f : Fault) (b a : List ℕ) (ts : List Lexeme) → Behind (λ x y. (k : List ℕ) × (f.at ≡ x ++ k) × FailsAt y k f.why) b a ts → (r : List ℕ) × (b ++ a ≡ f.at ++ r)
behind_front f b a ts (tokens.Behind.here x y p) =
    let k = fault_front a p.0 f.why p.2 in
    (k.0, ap (λ z. b ++ z) k.1 ∙ sym (append_assoc b p.0 k.0) ∙ ap (λ z. z ++ k.0) (sym p.1))
behind_front f b a ts (tokens.Behind.gap x s q us g h) = let r = behind_front f (b ++ s) q us h in (r.0, sym (append_assoc b s q) ∙ r.1)
behind_front f b a ts (tokens.Behind.token x s q m us st al h) = let r = behind_front f (b ++ s) q us h in (r.0, sym (append_assoc b s q) ∙ r.1)

fails_front : (file : List ℕ) (f : Fault) → Fails file f → (r : List ℕ) × (file ≡ f.at ++ r)
fails_front file f (tokens.Fails.fails at why ts h) = behind_front (record { at = at; why = why }) [] file ts h

number_one : (v w : Trouble) → number_of v ≡ number_of w → v ≡ w
number_one BadToken BadToken e = refl
number_one BadToken Unclosed e = absurd (omega arith)
number_one BadToken LiteralRange e = absurd (omega arith)
number_one Unclosed BadToken e = absurd (omega arith)
number_one Unclosed Unclosed e = refl
number_one Unclosed LiteralRange e = absurd (omega arith)
number_one LiteralRange BadToken e = absurd (omega arith)
number_one LiteralRange Unclosed e = absurd (omega arith)
number_one LiteralRange LiteralRange e = refl

both_precede : (f g : Fault) → Precedes f g → Precedes g f → (length f.at ≡ length g.at) × (number_of f.why ≡ number_of g.why)
both_precede f g (inl a) (inl b) = absurd (omega arith)
both_precede f g (inl a) (inr b) = absurd (let e = b.0 in omega arith)
both_precede f g (inr a) (inl b) = absurd (let e = a.0 in omega arith)
both_precede f g (inr a) (inr b) = (a.0, let p = a.1 in let q = b.1 in omega arith)

-- a file has one first fault at most, as far as place and kind go
first_one : (file : List ℕ) (f g : Fault) → IsFirstFault file f → IsFirstFault file g → (f.at ≡ g.at) × (f.why ≡ g.why)
first_one file f g a b =
    let (l, n) = both_precede f g (a.first g b.fails) (b.first f a.fails) in
    let x = fails_front file f a.fails in
    let y = fails_front file g b.fails in
    (sym (take_at f.at x.0 (length f.at) refl) ∙ ap (take (length f.at)) (sym x.1 ∙ y.1) ∙ take_at g.at y.0 (length f.at) (sym l), number_one f.why g.why n)

-- two ways to split a list at an item
data Splits {V : Type 0} (a : List V) (x : V) (c : List V) (y : V) : Type 0 where
  same : a ≡ c → x ≡ y → Splits a x c y
  before : (r : List V) → c ≡ a ++ x ∷ r → Splits a x c y
  behind : (r : List V) → a ≡ c ++ y ∷ r → Splits a x c y

splits : {V : Type 0} (a b c d : List V) (x y : V) → a ++ x ∷ b ≡ c ++ y ∷ d → Splits a x c y
splits [] b [] d x y e = same refl cc
splits [] b (z ∷ c) d x y e = before c (let h : z ≡ x = cc in ap (λ w. w ∷ c) h)
splits (z ∷ a) b [] d x y e = behind a (let h : z ≡ y = cc in ap (λ w. w ∷ a) h)
splits (z ∷ a) b (w ∷ c) d x y e = step (splits a b c d x y cc) cc
  where
    step : Splits a x c y → z ≡ w → Splits (z ∷ a) x (w ∷ c) y
    step (same p q) h = same (ap (λ k. k ∷ a) h ∙ ap (λ k. w ∷ k) p) q
    step (before r p) h = before r (ap (λ k. k ∷ c) (sym h) ∙ ap (λ k. z ∷ k) p)
    step (behind r p) h = behind r (ap (λ k. k ∷ a) h ∙ ap (λ k. w ∷ k) p)

at_item : (a r : List (List ℕ)) (x : List ℕ) (c : List (List ℕ)) → c ≡ a ++ x ∷ r → AllByRecursion HasTokens c → HasTokens x
at_item a r x c e h = go a (subst (AllByRecursion HasTokens) e h)
  where
    go : (a : List (List ℕ)) → AllByRecursion HasTokens (a ++ x ∷ r) → HasTokens x
    go [] h = h.0
    go (z ∷ a) h = go a h.1

total_before : (a r : List (List ℕ)) (x : List ℕ) (c : List (List ℕ)) → c ≡ a ++ x ∷ r → total a + length x ≤ total c
total_before a r x c e = let t = ap total e ∙ total-append a (x ∷ r) in omega arith

pub refusal_one : (first : ℕ) (fs : List (List ℕ)) (r s : Refusal) → IsRefusal first fs r → IsRefusal first fs s → r ≡ s
refusal_one n fs r s (files.IsRefusal.too_long a x b e h k) (files.IsRefusal.too_long c y d f i j) = go (splits a b c d x y (sym e ∙ f))
  where
    go : Splits a x c y → r ≡ s
    go (same p q) = ap (λ z. refusal.TooLong (record { file = length z + n; line = 1; col = 1 })) p
    go (before t p) = absurd (let u = total_before a t x c p in omega arith)
    go (behind t p) = absurd (let u = total_before c t y a p in omega arith)
refusal_one n fs r s (files.IsRefusal.too_long a x b e h k) (files.IsRefusal.fault c y d g f i j l) = absurd (let t = total_before a b x fs e in omega arith)
refusal_one n fs r s (files.IsRefusal.fault a x b f e h k l) (files.IsRefusal.too_long c y d i j m) = absurd (let t = total_before c d y fs i in omega arith)
refusal_one n fs r s (files.IsRefusal.fault a x b f e h k l) (files.IsRefusal.fault c y d g i j m o) = go (splits a b c d x y (sym e ∙ i))
  where
    go : Splits a x c y → refusal_of f.why (place_behind (length a + n) f.at) ≡ refusal_of g.why (place_behind (length c + n) g.at)
    go (same p q) =
        let (at, why) = first_one x f g l (subst (λ z. IsFirstFault z g) (sym q) o) in
        ap (λ z. refusal_of z (place_behind (length a + n) f.at)) why ∙ ap (λ z. refusal_of g.why (place_behind (length z + n) f.at)) p ∙ ap (λ z. refusal_of g.why (place_behind (length c + n) z)) at
    go (before t p) = absurd (let u = at_item a t x c p m in tokens_or_faults x u.0 f u.1 l.fails)
    go (behind t p) = absurd (let u = at_item c t y a p k in tokens_or_faults y u.0 g u.1 o.fails)
