-- Words, symbols and type variables that the scan finds are spellings, and the longest.
use Rattle.std.proofs.Common.{◌≡◌, ◌≢◌, ℕ, suc, ◌+◌, ◌≤◌, true, cond, eqb, List, [], ◌∷◌, ◌++◌, Option, Some, None, length, take, drop, get_or, refl, sym, ap, ◌∙◌, subst, arith}
use Rattle.std.specs.List.{prefix_len, list_all}
use Rattle.std.proofs.lemmas.List.{append_assoc, length-append, take_at, drop_at, length-drop}
use Rattle.std.proofs.lemmas.List.Sums.{prefix_len-le-length}
use Rattle.std.proofs.lemmas.Bool.{and_from, cond-true, cond-false, eq-eqb, ne_eqb}
use Rattle.sml_lexer.specs.declared.plain.Found.{Found}
use Rattle.sml_lexer.specs.declared.plain.Class.TheVariants.{Id, Long, TyVar}
use Rattle.sml_lexer.specs.Bytes.{is_letter, is_alphanumeric, is_sign}
use Rattle.sml_lexer.specs.Classified.{meaning_of}
use Rattle.sml_lexer.specs.Meanings.{Meaning}
use Rattle.sml_lexer.specs.Meanings as meaning
use Rattle.sml_lexer.specs.Numbers.{AreSome}
use Rattle.sml_lexer.specs.declared.reserved.Reserved.{Reserved}
use Rattle.sml_lexer.specs.Reserved.{spelling, reserved_of}
use Rattle.sml_lexer.specs.Spellings.{Spells, IsAlphanumeric, IsTypeVariable, IsIdentifier, IsSymbol, IsAfterDot, IsLong}
use Rattle.sml_lexer.specs.Spellings as spellings
use Rattle.sml_lexer.specs.PlainScan.{dots, long_len, word_found, word_at, sign_found, sign_at}
use Rattle.sml_lexer.proofs.RunLemmas.{run-append, run_whole, run_take}
use Rattle.sml_lexer.proofs.ByteLemmas.{letter_alphanumeric}
use Rattle.sml_lexer.proofs.ReservedLemmas.{free_from_none, none_from_free, reserved_found, reserved_is}
use Rattle.sml_lexer.proofs.WordLemmas.{all_alphanumeric, alphanumeric_front, sign_front, all_signs, dot_stops, take_plus, DotsAre, nothing, some, dots_are, dots_most}

-- a spelling at the front
pub record IsFound (s : List ℕ) (f : Found) : Type 0 where
  pub some : f.len ≢ 0
  pub within : f.len ≤ length s
  pub spelled : Spells (take f.len s) (meaning_of f.class (take f.len s))

-- what was found is no shorter than t, and means the same if it isn't longer
pub record IsMost (t : List ℕ) (m : Meaning) (f : Found) : Type 0 where
  pub bound : length t ≤ f.len
  pub same : length t ≡ f.len → meaning_of f.class t ≡ m

letter_run : (s : List ℕ) → is_letter (get_or s 0 0) ≡ true → prefix_len is_alphanumeric s ≢ 0
unfolding is_letter
letter_run [] h = cc
letter_run (c ∷ s) h =
    let e : prefix_len is_alphanumeric (c ∷ s) ≡ 1 + prefix_len is_alphanumeric s = cond-true _ _ _ (letter_alphanumeric c h) in
    let ne : prefix_len is_alphanumeric (c ∷ s) ≢ 0 = omega arith in ne

-- a long identifier, or none
long_found : (s : List ℕ) (n d : ℕ) → n ≢ 0 → n ≤ length s → IsIdentifier (take n s) → DotsAre (drop n s) d → IsFound s (record { len = n + d; class = cond (eqb (n + d) n) Id Long })
long_found s n d ne h i (nothing z) =
    let e : n + d ≡ n = omega arith in
    record {
      some = omega (arith, ne);
      within = omega arith;
      spelled = subst (λ c. Spells (take (n + d) s) (meaning_of c (take (n + d) s))) (sym (cond-true _ _ _ (eq-eqb _ _ e)))
          (spellings.Spells.identifier _ (subst (λ k. IsIdentifier (take k s)) (sym e) i));
    }
long_found s n d ne h i (some t nd a f c) =
    let e : n + d ≢ n = omega (arith, nd) in
    let k = length-drop n s in
    record {
      some = omega (arith, ne);
      within = omega (arith, c);
      spelled = subst (λ c. Spells (take (n + d) s) (meaning_of c (take (n + d) s))) (sym (cond-false _ _ _ (ne_eqb _ _ e)))
          (spellings.Spells.long _ (subst IsLong (sym (take_plus n d s h ∙ ap (λ x. take n s ++ x) f)) (spellings.IsLong.long (take n s) t i a)));
    }

pub word_is_found : (s : List ℕ) → is_letter (get_or s 0 0) ≡ true → IsFound s (word_at s)
unfolding word_at
word_is_found s l = go (reserved_of (take n s)) refl
  where
    n : ℕ
    n = prefix_len is_alphanumeric s

    ne : n ≢ 0
    ne = letter_run s l

    within : n ≤ length s
    within = prefix_len-le-length is_alphanumeric s

    go : (o : Option Reserved) → reserved_of (take n s) ≡ o → IsFound s (word_found o n (long_len s n))
    go (Some w) e = record { some = ne; within = within; spelled = subst (λ x. Spells x (meaning.word w)) (reserved_found (take n s) w e) (spellings.Spells.reserved w) }
    go None e = long_found s n (dots (length s) (drop n s)) ne within (record { spelled = alphanumeric_front s n l ne (omega arith); free = free_from_none _ e }) (dots_are (length s) (drop n s))

-- an identifier or a reserved word is a front of the run
module _ (t more : List ℕ) (all : list_all is_alphanumeric t ≡ true) where
  run_covers : length t ≤ prefix_len is_alphanumeric (t ++ more)
  run_covers = let e = run-append is_alphanumeric t more all in omega (arith, e)

  run_same : length t ≡ prefix_len is_alphanumeric (t ++ more) → take (prefix_len is_alphanumeric (t ++ more)) (t ++ more) ≡ t
  run_same e = take_at t more _ e

  word_most : (m : Meaning) → ((w : Reserved) → reserved_of t ≡ Some w → meaning.word w ≡ m) → (reserved_of t ≡ None → meaning.identifier t ≡ m) → IsMost t m (word_at (t ++ more))
  unfolding word_at
  word_most m known unknown = go (reserved_of (take n (t ++ more))) refl
    where
      n : ℕ
      n = prefix_len is_alphanumeric (t ++ more)

      go : (o : Option Reserved) → reserved_of (take n (t ++ more)) ≡ o → IsMost t m (word_found o n (long_len (t ++ more) n))
      go (Some w) e = record { bound = run_covers; same = λ k. known w (ap reserved_of (sym (run_same k)) ∙ e) }
      go None e =
          let c = run_covers in
          record {
            bound = omega arith;
            same = λ k.
                let z : long_len (t ++ more) n ≡ n = omega arith in
                let q : length t ≡ n = omega arith in
                ap (λ x. meaning_of x t) (cond-true _ _ _ (eq-eqb _ _ z)) ∙ unknown (ap reserved_of (sym (run_same q)) ∙ e);
          }

pub identifier_most : (t more : List ℕ) → IsIdentifier t → IsMost t (meaning.identifier t) (word_at (t ++ more))
identifier_most t more i = word_most t more (all_alphanumeric t i.spelled) _ (λ w e. absurd (i.free (w, reserved_found t w e))) (λ e. refl)

pub reserved_most : (w : Reserved) (more : List ℕ) → IsAlphanumeric (spelling w) → IsMost (spelling w) (meaning.word w) (word_at (spelling w ++ more))
reserved_most w more h =
    word_most (spelling w) more (all_alphanumeric _ h) _
    (λ v e. let k : Some v ≡ Some w = sym e ∙ reserved_is w in let same : v ≡ w = cc in ap (λ x. meaning.word x) same)
    (λ e. let k : None ≡ Some w = sym e ∙ reserved_is w in cc)

long_word : (q t more : List ℕ) → IsIdentifier q → IsAfterDot t → (d : ℕ) × (1 + length t ≤ d) × (word_at ((q ++ 46 ∷ t) ++ more) ≡ record { len = length q + d; class = Long })
unfolding word_at
long_word q t more i a = (d, least, is)
  where
    x : List ℕ
    x = q ++ 46 ∷ (t ++ more)

    d : ℕ
    d = dots (length x) (46 ∷ (t ++ more))

    least : 1 + length t ≤ d
    least = dots_most t a (length x) more (let e = length-append q (46 ∷ (t ++ more)) in omega (arith, e))

    run : prefix_len is_alphanumeric x ≡ length q
    run = run_whole is_alphanumeric q 46 (t ++ more) (all_alphanumeric q i.spelled) dot_stops

    free : reserved_of (take (length q) x) ≡ None
    free = ap reserved_of (take_at q (46 ∷ (t ++ more)) (length q) refl) ∙ none_from_free q i.free

    longer : length q + d ≢ length q
    longer = omega (arith, least)

    is : word_at ((q ++ 46 ∷ t) ++ more) ≡ record { len = length q + d; class = Long }
    is =
        ap word_at (append_assoc q (46 ∷ t) more)
        ∙ ap (λ n. word_found (reserved_of (take n x)) n (long_len x n)) run
        ∙ ap (λ o. word_found o (length q) (long_len x (length q))) free
        ∙ ap (λ r. word_found None (length q) (length q + dots (length x) r)) (drop_at q (46 ∷ (t ++ more)) (length q) refl)
        ∙ ap (λ c. record { len = length q + d; class = c }) (cond-false (eqb (length q + d) (length q)) Id Long (ne_eqb _ _ longer))

pub long_most : (q t more : List ℕ) → IsIdentifier q → IsAfterDot t → IsMost (q ++ 46 ∷ t) (meaning.long (q ++ 46 ∷ t)) (word_at ((q ++ 46 ∷ t) ++ more))
long_most q t more i a =
    let w = long_word q t more i a in
    let n = length-append q (46 ∷ t) in
    subst (IsMost (q ++ 46 ∷ t) (meaning.long (q ++ 46 ∷ t))) (sym w.2) (record { bound = omega (arith, n, w.1); same = λ k. refl })

-- signs
sign_run : (s : List ℕ) → is_sign (get_or s 0 0) ≡ true → prefix_len is_sign s ≢ 0
unfolding is_sign
sign_run [] h = cc
sign_run (c ∷ s) h = let e : prefix_len is_sign (c ∷ s) ≡ 1 + prefix_len is_sign s = cond-true _ _ _ h in let ne : prefix_len is_sign (c ∷ s) ≢ 0 = omega arith in ne

pub sign_is_found : (s : List ℕ) → is_sign (get_or s 0 0) ≡ true → IsFound s (sign_at s)
unfolding sign_at
sign_is_found s h = go (reserved_of (take n s)) refl
  where
    n : ℕ
    n = prefix_len is_sign s

    ne : n ≢ 0
    ne = sign_run s h

    go : (o : Option Reserved) → reserved_of (take n s) ≡ o → IsFound s (sign_found o n)
    go (Some w) e = record { some = ne; within = prefix_len-le-length is_sign s; spelled = subst (λ x. Spells x (meaning.word w)) (reserved_found (take n s) w e) (spellings.Spells.reserved w) }
    go None e = record { some = ne; within = prefix_len-le-length is_sign s; spelled = spellings.Spells.symbol _ (record { spelled = sign_front s n ne (omega arith); free = free_from_none _ e }) }

sign_most : (t more : List ℕ) → list_all is_sign t ≡ true → (m : Meaning) → ((w : Reserved) → reserved_of t ≡ Some w → meaning.word w ≡ m) → (reserved_of t ≡ None → meaning.symbol t ≡ m) → IsMost t m (sign_at (t ++ more))
unfolding sign_at
sign_most t more all m known unknown = go (reserved_of (take n (t ++ more))) refl
  where
    n : ℕ
    n = prefix_len is_sign (t ++ more)

    covers : length t ≤ n
    covers = let e = run-append is_sign t more all in omega (arith, e)

    go : (o : Option Reserved) → reserved_of (take n (t ++ more)) ≡ o → IsMost t m (sign_found o n)
    go (Some w) e = record { bound = covers; same = λ k. known w (ap reserved_of (sym (take_at t more n k)) ∙ e) }
    go None e = record { bound = covers; same = λ k. unknown (ap reserved_of (sym (take_at t more n k)) ∙ e) }

pub symbol_most : (t more : List ℕ) → IsSymbol t → IsMost t (meaning.symbol t) (sign_at (t ++ more))
symbol_most t more i = sign_most t more (all_signs t i.spelled) _ (λ w e. absurd (i.free (w, reserved_found t w e))) (λ e. refl)

pub reserved_sign_most : (w : Reserved) (more : List ℕ) → AreSome is_sign (spelling w) → IsMost (spelling w) (meaning.word w) (sign_at (spelling w ++ more))
reserved_sign_most w more h =
    sign_most (spelling w) more (all_signs _ h) _
    (λ v e. let k : Some v ≡ Some w = sym e ∙ reserved_is w in let same : v ≡ w = cc in ap (λ x. meaning.word x) same)
    (λ e. let k : None ≡ Some w = sym e ∙ reserved_is w in cc)

-- type variables
abbrev pub variable_at : List ℕ → Found
variable_at s = record { len = prefix_len is_alphanumeric s; class = TyVar }

prime_alphanumeric : is_alphanumeric 39 ≡ true
unfolding is_alphanumeric
prime_alphanumeric = refl

pub variable_is_found : (s : List ℕ) → get_or s 0 0 ≡ 39 → IsFound s (variable_at s)
variable_is_found [] h = absurd (omega arith)
variable_is_found (c ∷ s) h =
    let first : is_alphanumeric c ≡ true = ap is_alphanumeric h ∙ prime_alphanumeric in
    let e : prefix_len is_alphanumeric (c ∷ s) ≡ suc (prefix_len is_alphanumeric s) = cond-true _ _ _ first ∙ (omega arith) in
    record {
      some = omega (arith, e);
      within = prefix_len-le-length is_alphanumeric (c ∷ s);
      spelled = spellings.Spells.type_variable _ (subst IsTypeVariable (ap (λ k. take k (c ∷ s)) (sym e)) (h, run_take is_alphanumeric s));
    }

pub variable_most : (t more : List ℕ) → IsTypeVariable t → IsMost t (meaning.type_variable t) (variable_at (t ++ more))
variable_most [] more h = absurd h
variable_most (c ∷ t) more h =
    let all : list_all is_alphanumeric (c ∷ t) ≡ true = and_from _ _ (ap is_alphanumeric h.0 ∙ prime_alphanumeric) h.1 in
    let e = run-append is_alphanumeric (c ∷ t) more all in
    record { bound = omega (arith, e); same = λ k. refl }
