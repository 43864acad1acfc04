-- A constant in quotes is a token, or its first fault is known.
use Rattle.std.proofs.Common.{◌≡◌, ◌≢◌, ℕ, suc, ◌+◌, ◌<◌, ◌≤◌, Bool, true, false, not, ◌&&◌, ◌||◌, eqb, List, [], ◌∷◌, ◌++◌, Option, Some, None, length, take, refl, sym, ap, ◌∙◌, subst, arith, ◌⊎◌, inl, inr}
use Rattle.std.proofs.lemmas.List.{append_assoc, length-append, append_cancel_left, take_at}
use Rattle.std.proofs.lemmas.Bool.{and_parts, cases_Bool, cases_lt, eqb-true, eqb-false}
use Rattle.sml_lexer.specs.declared.quoted.Ending.{Ending}
use Rattle.sml_lexer.specs.declared.quoted.Ending.TheVariants as ending
use Rattle.sml_lexer.specs.declared.step.Spot.{Spot}
use Rattle.sml_lexer.specs.declared.step.Trouble.{Trouble}
use Rattle.sml_lexer.specs.declared.step.Trouble.TheVariants.{BadToken, Unclosed, LiteralRange}
use Rattle.sml_lexer.specs.Bytes.{is_control}
use Rattle.sml_lexer.specs.Quoted.{Part, character, stray, IsPart, AreParts, has_wide, character_count}
use Rattle.sml_lexer.specs.Quoted as quoted
use Rattle.sml_lexer.specs.QuotedRead.{low_byte, values, has_stray, FirstStray, IsRead, Ends}
use Rattle.sml_lexer.specs.QuotedRead as strays
use Rattle.sml_lexer.specs.Tokens.{Opening, FailsAt, number_of}
use Rattle.sml_lexer.specs.Tokens as tokens
use Rattle.sml_lexer.specs.Steps.{IsFirstAt, fault_of, closed_fault}
use Rattle.sml_lexer.proofs.StageLemmas.{IsWhole, Stage, short, long, stage, part_unique}
use Rattle.sml_lexer.proofs.ConstantFaults.{Faulty, control, unknown, count, unclosed, wide, faulty}
use Rattle.sml_lexer.proofs.QuotedReadLemmas.{stray-append}

-- the opening of a string, or of a character constant
pub data Which : List ℕ → Bool → Type 0 where
  quote : Which (34 ∷ []) false
  hash : Which (35 ∷ 34 ∷ []) true

opening_of : (o : List ℕ) (b : Bool) → Which o b → Opening o
opening_of o b quote = tokens.Opening.string
opening_of o b hash = tokens.Opening.character

opening_some : (o : List ℕ) (b : Bool) → Which o b → 0 < length o
opening_some o b quote = omega arith
opening_some o b hash = omega arith

pub least_number : (why : Trouble) → 1 ≤ number_of why
least_number BadToken = omega arith
least_number Unclosed = omega arith
least_number LiteralRange = omega arith

-- a fault comes at a place or behind it
pub at_or_behind : (n : ℕ) (k : List ℕ) (why : Trouble) → n ≤ number_of why → (0 < length k) ⊎ ((0 ≡ length k) × (n ≤ number_of why))
at_or_behind n [] why h = inr (refl, h)
at_or_behind n (c ∷ k) why h = inl (omega arith)

length-values : (ps : List Part) → length (values ps) ≡ character_count ps
length-values [] = refl
length-values (quoted.character n ∷ ps) = ap suc (length-values ps) ∙ (omega arith)
length-values (stray ∷ ps) = length-values ps

-- the first control byte
pub record StrayAt (s : List ℕ) (ps : List Part) (k : ℕ) : Type 0 where
  pub a : List ℕ
  pub t : List ℕ
  pub c : ℕ
  pub before : List Part
  pub after : List Part
  pub text : s ≡ a ++ c ∷ t
  pub parts : AreParts a before
  pub none : has_stray before ≡ false
  pub is : is_control c ≡ true
  pub other : c ≢ 10
  pub place : k ≡ length a

pub stray_at : (s : List ℕ) (ps : List Part) (o : Option ℕ) → FirstStray s ps o → (k : ℕ) → o ≡ Some k → StrayAt s ps k
stray_at s ps o (strays.FirstStray.none u us h) k e = cc
stray_at s ps o (strays.FirstStray.at a t c us vs p h l n q) k e =
    record { a = a; t = t; c = c; before = us; after = vs; text = refl; parts = p; none = h; is = l; other = n; place = cc }

pub no_stray : (s : List ℕ) (ps : List Part) (o : Option ℕ) → FirstStray s ps o → o ≡ None → has_stray ps ≡ false
no_stray s ps o (strays.FirstStray.none u us h) e = h
no_stray s ps o (strays.FirstStray.at a t c us vs p h l n q) e = cc

pub right_false : (a b : Bool) → (a || b) ≡ false → b ≡ false
right_false true b h = cc
right_false false b h = h

-- a control byte stands in no reading without one
pub no_control : (r : List ℕ) (rs : List Part) → AreParts r rs → has_stray rs ≡ false → (x y : List ℕ) (d : ℕ) → is_control d ≡ true → d ≢ 10 → r ++ x ≡ d ∷ y → r ≡ []
no_control r rs quoted.AreParts.nothing h x y d l n e = refl
no_control r rs (quoted.AreParts.part u v us vs p q) h x y d l n e =
    let z = part_unique u (d ∷ []) us (stray ∷ []) p (quoted.IsPart.control d l n) (v ++ x) y (sym (append_assoc u v x) ∙ e) in
    let k : true ≡ false = ap (λ w. has_stray (w ++ vs)) (sym z.1) ∙ h in cc

module _ (o : List ℕ) (b : Bool) (which : Which o b) (rest s : List ℕ) (ps : List Part) (e : Ending) (more : List ℕ) (w : IsWhole rest s ps e more) where
  bytes_are : o ++ s ++ more ≡ o ++ rest
  bytes_are = append_assoc o s more ∙ ap (λ x. o ++ x) w.bytes_are

  behind : (t : List ℕ) → 0 < length (o ++ t)
  behind t = let h = opening_some o b which in omega (arith, length-append o t, h)

  Of : List ℕ → Trouble → Type 0
  Of k why = Faulty o rest ps e k why

  known : (k : List ℕ) (why : Trouble) → FailsAt (o ++ rest) k why → Faulty o rest ps e k why
  known k why f = faulty o rest s ps e more w (opening_of o b which) (o ++ rest) k why f refl

  first_unknown : e ≡ ending.Unknown → IsFirstAt (o ++ rest) (record { back = 0; trouble = BadToken })
  first_unknown h = record {
    room = omega arith;
    fails = subst (λ x. FailsAt x [] BadToken) bytes_are (tokens.FailsAt.unknown o s more ps (opening_of o b which) w.parts (subst (λ d. Ends d more) h w.ends));
    first = λ k why f. at_or_behind 1 k why (least_number why);
  }

  first_open : e ≡ ending.Open → IsFirstAt (o ++ rest) (record { back = 0; trouble = Unclosed })
  first_open h = record {
    room = omega arith;
    fails = subst (λ x. FailsAt x [] Unclosed) bytes_are (tokens.FailsAt.open_constant o s more ps (opening_of o b which) w.parts (subst (λ d. Ends d more) h w.ends));
    first = λ k why f. go k why (known k why f);
  }
    where
      go : (k : List ℕ) (why : Trouble) → Faulty o rest ps e k why → (0 < length k) ⊎ ((0 ≡ length k) × (2 ≤ number_of why))
      go k why (control t y qs c a l n q) = inl (behind t)
      go k why (unknown q) = let x : ending.Open ≡ ending.Unknown = sym h ∙ q in cc
      go k why (count p q n) = let x : ending.Open ≡ ending.Closed = sym h ∙ q in cc
      go k why (unclosed q) = inr (refl, omega arith)
      go k why (wide q) = inr (refl, omega arith)

  module _ (closed : e ≡ ending.Closed) where
    first_count : b ≡ true → character_count ps ≢ 1 → IsFirstAt (o ++ rest) (record { back = 0; trouble = BadToken })
    first_count is n = record {
      room = omega arith;
      fails = go o b which is;
      first = λ k why f. at_or_behind 1 k why (least_number why);
    }
      where
        end : (y : List ℕ) × (more ≡ 34 ∷ y)
        end = subst (λ d. Ends d more) closed w.ends

        go : (o : List ℕ) (b : Bool) → Which o b → b ≡ true → FailsAt (o ++ rest) [] BadToken
        go o b quote q = let x : false ≡ true = q in cc
        go o b hash q =
            subst (λ x. FailsAt x [] BadToken) (append_assoc (35 ∷ 34 ∷ []) s (34 ∷ end.0) ∙ ap (λ x. 35 ∷ 34 ∷ (s ++ x)) (sym end.1) ∙ ap (λ x. 35 ∷ 34 ∷ x) w.bytes_are)
            (tokens.FailsAt.count s end.0 ps w.parts n)

    -- no fault at the opening has a number below 3
    module _ (one : b ≡ true → character_count ps ≡ 1) where
      not_count : o ≡ 35 ∷ 34 ∷ [] → character_count ps ≢ 1 → ⊥
      not_count q n = go o b which q one
        where
          go : (o : List ℕ) (b : Bool) → Which o b → o ≡ 35 ∷ 34 ∷ [] → (b ≡ true → character_count ps ≡ 1) → ⊥
          go o b quote q f = let x = ap length q in omega (arith, x)
          go o b hash q f = n (f refl)

      first_wide : has_wide ps ≡ true → IsFirstAt (o ++ rest) (record { back = 0; trouble = LiteralRange })
      first_wide h = record {
        room = omega arith;
        fails = subst (λ x. FailsAt x [] LiteralRange) bytes_are (tokens.FailsAt.wide_escape o s more ps (opening_of o b which) w.parts h);
        first = λ k why f. go k why (known k why f);
      }
        where
          go : (k : List ℕ) (why : Trouble) → Faulty o rest ps e k why → (0 < length k) ⊎ ((0 ≡ length k) × (3 ≤ number_of why))
          go k why (control t y qs c a l n q) = inl (behind t)
          go k why (unknown q) = let x : ending.Closed ≡ ending.Unknown = sym closed ∙ q in cc
          go k why (count p q n) = absurd (not_count p n)
          go k why (unclosed q) = let x : ending.Closed ≡ ending.Open = sym closed ∙ q in cc
          go k why (wide q) = inr (refl, omega arith)

      first_stray : has_wide ps ≡ false → (k : ℕ) → StrayAt s ps k → IsFirstAt (o ++ rest) (record { back = length o + k; trouble = BadToken })
      first_stray h k f = record {
        room = let l = ap length bytes in omega (arith, l, length-append (o ++ f.a) (f.c ∷ (f.t ++ more)), back);
        fails = subst (λ x. FailsAt (o ++ rest) x BadToken) (sym front)
            (subst (λ x. FailsAt x (o ++ f.a) BadToken) bytes (tokens.FailsAt.control o f.a f.c (f.t ++ more) f.before (opening_of o b which) f.parts f.is f.other));
        first = λ x why g. go x why (known x why g);
      }
        where
          inner : f.a ++ f.c ∷ (f.t ++ more) ≡ rest
          inner = sym (append_assoc f.a (f.c ∷ f.t) more) ∙ ap (λ x. x ++ more) (sym f.text) ∙ w.bytes_are

          bytes : o ++ f.a ++ f.c ∷ (f.t ++ more) ≡ o ++ rest
          bytes = append_assoc o f.a (f.c ∷ (f.t ++ more)) ∙ ap (λ x. o ++ x) inner

          back : length (o ++ f.a) ≡ length o + k
          back = let p = f.place in length-append o f.a ∙ (omega arith)

          front : take (length o + k) (o ++ rest) ≡ o ++ f.a
          front = ap (take (length o + k)) (sym bytes) ∙ take_at (o ++ f.a) (f.c ∷ (f.t ++ more)) (length o + k) back

          later : (u y : List ℕ) (qs : List Part) (d : ℕ) → AreParts u qs → is_control d ≡ true → d ≢ 10 → u ++ d ∷ y ≡ rest → k ≤ length u
          later u y qs d v l n q = by (stage f.a f.before f.parts u qs v (f.c ∷ (f.t ++ more)) (d ∷ y) (inner ∙ sym q))
            where
              by : Stage f.a f.before u qs → k ≤ length u
              by (short r rs p x z) = let l = ap length x in let m = length-append f.a r in let p = f.place in omega arith
              by (long r rs p x z) =
                  let tail : r ++ f.c ∷ (f.t ++ more) ≡ d ∷ y = append_cancel_left u _ _ (sym (append_assoc u r (f.c ∷ (f.t ++ more))) ∙ ap (λ v. v ++ f.c ∷ (f.t ++ more)) (sym x) ∙ inner ∙ sym q) in
                  let clean : has_stray rs ≡ false = right_false (has_stray qs) (has_stray rs) (sym (stray-append qs rs) ∙ ap has_stray (sym z) ∙ f.none) in
                  let nil = no_control r rs p clean (f.c ∷ (f.t ++ more)) y d l n tail in
                  let l = ap length x in let m = length-append u r in let j = ap length nil in let p = f.place in omega arith

          go : (x : List ℕ) (why : Trouble) → Faulty o rest ps e x why → (length o + k < length x) ⊎ ((length o + k ≡ length x) × (1 ≤ number_of why))
          go x why (control u y qs d v l n q) = let z = later u y qs d v l n q in let m = length-append o u in compare (cases_lt (length o + k) (length (o ++ u)))
            where
              compare : (length o + k < length (o ++ u)) ⊎ (length (o ++ u) ≤ length o + k) → (length o + k < length (o ++ u)) ⊎ ((length o + k ≡ length (o ++ u)) × (1 ≤ 1))
              compare (inl a) = inl a
              compare (inr a) = inr (let z = later u y qs d v l n q in let m = length-append o u in omega arith, omega arith)
          go x why (unknown q) = let x : ending.Closed ≡ ending.Unknown = sym closed ∙ q in cc
          go x why (count p q n) = absurd (not_count p n)
          go x why (unclosed q) = let x : ending.Closed ≡ ending.Open = sym closed ∙ q in cc
          go x why (wide q) = let x : false ≡ true = sym h ∙ q in cc

-- nothing is wrong with a constant
pub record IsClean (b : Bool) (ps : List Part) (e : Ending) : Type 0 where
  pub closed : e ≡ ending.Closed
  pub narrow : has_wide ps ≡ false
  pub none : has_stray ps ≡ false
  pub one : b ≡ true → character_count ps ≡ 1

not_false : (b : Bool) → not b ≡ false → b ≡ true
not_false true h = refl
not_false false h = cc

not_true : (b : Bool) → not b ≡ true → b ≡ false
not_true true h = cc
not_true false h = refl

module _ (o : List ℕ) (b : Bool) (which : Which o b) (rest s : List ℕ) (ps : List Part) (e : Ending) (more : List ℕ) (w : IsWhole rest s ps e more)
    (value : List ℕ) (of_values : values ps ≡ value) (is_wide : Bool) (of_wide : has_wide ps ≡ is_wide) (strayed : Option ℕ) (of_stray : FirstStray s ps strayed) where
  pub counted : length value ≡ character_count ps
  counted = ap length (sym of_values) ∙ length-values ps

  -- what `closed_fault` answers is right
  Right : Option Spot → Type 0
  Right None = IsClean b ps e
  Right (Some spot) = IsFirstAt (o ++ rest) spot

  right_closed : e ≡ ending.Closed → Right (closed_fault (b && not (eqb (length value) 1)) is_wide strayed (length o))
  unfolding Right
  right_closed h = by_count (cases_Bool (b && not (eqb (length value) 1)))
    where
      single : (b && not (eqb (length value) 1)) ≡ false → b ≡ true → character_count ps ≡ 1
      single q t = sym counted ∙ eqb-true (length value) 1 (not_false _ (ap (λ x. x && not (eqb (length value) 1)) (sym t) ∙ q))

      by_stray : (b && not (eqb (length value) 1)) ≡ false → is_wide ≡ false → (p : Option ℕ) → strayed ≡ p → Right (closed_fault false false p (length o))
      by_stray q v None z = record { closed = h; narrow = of_wide ∙ v; none = no_stray s ps strayed of_stray z; one = single q }
      by_stray q v (Some k) z = first_stray o b which rest s ps e more w h (single q) (of_wide ∙ v) k (stray_at s ps strayed of_stray k z)

      wide_fault : (p : Option ℕ) → IsFirstAt (o ++ rest) (record { back = 0; trouble = LiteralRange }) → Right (closed_fault false true p (length o))
      wide_fault None x = x
      wide_fault (Some k) x = x

      count_fault : (v : Bool) (p : Option ℕ) → IsFirstAt (o ++ rest) (record { back = 0; trouble = BadToken }) → Right (closed_fault true v p (length o))
      count_fault v None x = x
      count_fault v (Some k) x = x

      by_wide : (b && not (eqb (length value) 1)) ≡ false → (is_wide ≡ true) ⊎ (is_wide ≡ false) → Right (closed_fault false is_wide strayed (length o))
      by_wide q (inl v) = subst (λ x. Right (closed_fault false x strayed (length o))) (sym v) (wide_fault strayed (first_wide o b which rest s ps e more w h (single q) (of_wide ∙ v)))
      by_wide q (inr v) = subst (λ x. Right (closed_fault false x strayed (length o))) (sym v) (by_stray q v strayed refl)

      by_count : ((b && not (eqb (length value) 1)) ≡ true) ⊎ ((b && not (eqb (length value) 1)) ≡ false) → Right (closed_fault (b && not (eqb (length value) 1)) is_wide strayed (length o))
      by_count (inl q) =
          let (t, n) = and_parts _ _ q in
          let ne = eqb-false (length value) 1 (not_true _ n) in
          subst (λ x. Right (closed_fault x is_wide strayed (length o))) (sym q) (count_fault is_wide strayed (first_count o b which rest s ps e more w h t (λ z. ne (counted ∙ z))))
      by_count (inr q) = subst (λ x. Right (closed_fault x is_wide strayed (length o))) (sym q) (by_wide q (cases_Bool is_wide))

  right : Right (fault_of e b (length value) is_wide strayed (length o))
  unfolding Right
  right = go e refl
    where
      go : (d : Ending) → e ≡ d → Right (fault_of d b (length value) is_wide strayed (length o))
      go ending.Unknown h = first_unknown o b which rest s ps e more w h
      go ending.Open h = first_open o b which rest s ps e more w h
      go ending.Closed h = right_closed h

  pub constant_fault : (spot : Spot) → fault_of e b (length value) is_wide strayed (length o) ≡ Some spot → IsFirstAt (o ++ rest) spot
  unfolding Right
  constant_fault spot h = subst Right h right

  pub constant_clean : fault_of e b (length value) is_wide strayed (length o) ≡ None → IsClean b ps e
  unfolding Right
  constant_clean h = subst Right h right
