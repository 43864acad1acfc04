-- The scan of a constant in quotes finds its parts.
use Rattle.std.proofs.Common.{◌≡◌, ◌≢◌, ℕ, ◌+◌, ◌-◌, ◌<◌, ◌≤◌, min, true, false, cond, eqb, List, [], ◌∷◌, ◌++◌, Some, None, length, get_or, refl, ap, ◌∙◌, arith}
use Rattle.std.specs.List.{prefix_len, list_all}
use Rattle.std.proofs.lemmas.List.{append_assoc, length-append, take_at, get_or_at}
use Rattle.std.proofs.lemmas.Bool.{and_parts, and_from, cond-true, cond-false, eq-eqb, ne_eqb, le-leb}
use Rattle.sml_lexer.specs.declared.quoted.Item.{Item}
use Rattle.sml_lexer.specs.declared.quoted.Item.TheVariants.{Char, Gap, Control, Close, Open, Unknown}
use Rattle.sml_lexer.specs.declared.bytes.ByteClass.{ByteClass}
use Rattle.sml_lexer.specs.declared.bytes.ByteClass.TheVariants.{Digit, Hexadecimal}
use Rattle.sml_lexer.specs.Bytes.{is_digit, is_hexadecimal, is_space, is_control}
use Rattle.sml_lexer.specs.Classes.{in_class}
use Rattle.sml_lexer.specs.Numbers.{AreSome, number_of, digit_value}
use Rattle.sml_lexer.specs.Quoted.{letter_escape, IsEscape, letter, caret, decimal, unicode, IsStringGap, Part, character, stray, IsPart, IsBackslashed, IsOpen, IsUnknown}
use Rattle.sml_lexer.specs.Quoted as quoted
use Rattle.sml_lexer.specs.QuotedScan.{caret_at, digits_at, gap_at, letter_or, escape_at, item_at}
use Rattle.std.proofs.lemmas.Bool.Decides.{nat_tests}
use Rattle.sml_lexer.proofs.RunLemmas.{run-append, run_whole}
use Rattle.sml_lexer.proofs.ByteLemmas.{digit_range, digit_not_escape, space_not_escape, space_not_digit, space_range}

-- the parts that an item is, and its length, 0 for what ends a constant
abbrev pub parts_of : Item → List Part
parts_of (Char code len) = character code ∷ []
parts_of (Gap len) = []
parts_of Control = stray ∷ []
parts_of Close = []
parts_of Open = []
parts_of Unknown = []

abbrev pub size_of : Item → ℕ
size_of (Char code len) = len
size_of (Gap len) = len
size_of Control = 1
size_of Close = 0
size_of Open = 0
size_of Unknown = 0

-- `s` is the part at the front of `all`
pub record Reads (s : List ℕ) (ps : List Part) (i : Item) : Type 0 where
  pub parts : parts_of i ≡ ps
  pub size : size_of i ≡ length s
  pub some : 0 < length s

is_char : (s : List ℕ) (n len : ℕ) (i : Item) → i ≡ Char n len → len ≡ length s → 0 < len → Reads s (character n ∷ []) i
is_char s n len i e h k = record { parts = ap parts_of e; size = ap size_of e ∙ h; some = omega arith }

pub not_empty : (c : ℕ) (s : List ℕ) → eqb (length (c ∷ s)) 0 ≡ false
not_empty c s = let ne : length (c ∷ s) ≢ 0 = omega arith in ne_eqb _ _ ne

pub item_backslash : (s : List ℕ) → item_at (92 ∷ s) ≡ escape_at s
unfolding item_at is_control
item_backslash s = cond-false _ _ _ (not_empty 92 s)

pub item_cons : (c : ℕ) (s : List ℕ) → c ≢ 34 → c ≢ 10 → item_at (c ∷ s) ≡ cond (is_control c) Control (cond (eqb c 92) (escape_at s) (Char c 1))
unfolding item_at
item_cons c s h k = cond-false _ _ _ (not_empty c s) ∙ cond-false _ _ _ (ne_eqb _ _ h) ∙ cond-false _ _ _ (ne_eqb _ _ k)

abbrev pub after_letter : ℕ → List ℕ → Item
after_letter c s = cond (eqb c 94) (caret_at s) (cond (is_digit c) (digits_at Digit 10 3 1 (c ∷ s)) (cond (eqb c 117) (digits_at Hexadecimal 16 4 2 s) (cond (is_space c) (gap_at (c ∷ s)) Unknown)))

escape_cons : (c : ℕ) (s : List ℕ) → escape_at (c ∷ s) ≡ letter_or (letter_escape c) (after_letter c s)
unfolding escape_at
escape_cons c s = cond-false _ _ _ (not_empty c s)

pub no_letter : (c : ℕ) (s : List ℕ) → letter_escape c ≡ None → escape_at (c ∷ s) ≡ after_letter c s
no_letter c s h = escape_cons c s ∙ ap (λ o. letter_or o (after_letter c s)) h

pub letter_is : (c n : ℕ) (s : List ℕ) → letter_escape c ≡ Some n → escape_at (c ∷ s) ≡ Char n 2
letter_is c n s h = escape_cons c s ∙ ap (λ o. letter_or o (after_letter c s)) h

pub caret_cons : (s : List ℕ) → escape_at (94 ∷ s) ≡ caret_at s
unfolding letter_escape
caret_cons s = no_letter 94 s refl

pub unicode_cons : (s : List ℕ) → escape_at (117 ∷ s) ≡ digits_at Hexadecimal 16 4 2 s
unfolding letter_escape is_digit
unicode_cons s = no_letter 117 s refl

pub digit_cons : (c : ℕ) (s : List ℕ) → is_digit c ≡ true → escape_at (c ∷ s) ≡ digits_at Digit 10 3 1 (c ∷ s)
digit_cons c s h =
    let r = digit_range c h in
    let ne : c ≢ 94 = omega arith in
    no_letter c s (digit_not_escape c h) ∙ cond-false _ _ _ (ne_eqb _ _ ne) ∙ cond-true _ _ _ h

pub space_cons : (c : ℕ) (s : List ℕ) → is_space c ≡ true → escape_at (c ∷ s) ≡ gap_at (c ∷ s)
space_cons c s h =
    let r = space_range c h in
    let ne : c ≢ 94 = omega arith in
    let nf : c ≢ 117 = omega arith in
    no_letter c s (space_not_escape c h) ∙ cond-false _ _ _ (ne_eqb _ _ ne) ∙ cond-false _ _ _ (space_not_digit c h) ∙ cond-false _ _ _ (ne_eqb _ _ nf) ∙ cond-true _ _ _ h

caret_is : (c : ℕ) (s : List ℕ) → 64 ≤ c → c ≤ 95 → escape_at (94 ∷ c ∷ s) ≡ Char (c - 64) 3
unfolding caret_at
caret_is c s h k = caret_cons (c ∷ s) ∙ cond-false _ _ _ (not_empty c s) ∙ cond-true _ _ _ (and_from _ _ (le-leb 64 c h) (le-leb c 95 k))

digits_is : (class : ByteClass) (base count before : ℕ) (s more : List ℕ) → length s ≡ count → list_all (in_class class) s ≡ true
    → digits_at class base count before (s ++ more) ≡ Char (min 0x4000_0000_0000_0001 (number_of base s)) (before + count)
unfolding digits_at
digits_is class base count before s more h k =
    let run = run-append (in_class class) s more k in
    let enough : count ≤ prefix_len (in_class class) (s ++ more) = omega arith in
    cond-true _ _ _ (le-leb _ _ enough) ∙ ap (λ d. Char (min 0x4000_0000_0000_0001 (number_of base d)) (before + count)) (take_at s more count h)

digit_small : (c : ℕ) → is_digit c ≡ true → digit_value c ≤ 9
unfolding is_digit digit_value
digit_small c h = grind (arith, nat_tests)

hexadecimal_small : (c : ℕ) → is_hexadecimal c ≡ true → digit_value c ≤ 15
unfolding is_hexadecimal digit_value
hexadecimal_small c h = grind (arith, nat_tests)

pub decimal_small : (s : List ℕ) → length s ≡ 3 → list_all is_digit s ≡ true → number_of 10 s ≤ 999
decimal_small (a ∷ b ∷ c ∷ []) h k =
    let (ka, kbc) = and_parts _ _ k in
    let (kb, kc') = and_parts _ _ kbc in
    let (kc, _) = and_parts _ _ kc' in
    omega (arith, digit_small a ka, digit_small b kb, digit_small c kc)
decimal_small [] h k = absurd (omega arith)
decimal_small (a ∷ []) h k = absurd (omega arith)
decimal_small (a ∷ b ∷ []) h k = absurd (omega arith)
decimal_small (a ∷ b ∷ c ∷ d ∷ s) h k = absurd (omega arith)

pub unicode_small : (s : List ℕ) → length s ≡ 4 → list_all is_hexadecimal s ≡ true → number_of 16 s ≤ 0xffff
unicode_small (a ∷ b ∷ c ∷ d ∷ []) h k =
    let (ka, kbcd) = and_parts _ _ k in
    let (kb, kcd) = and_parts _ _ kbcd in
    let (kc, kd') = and_parts _ _ kcd in
    let (kd, _) = and_parts _ _ kd' in
    omega (arith, hexadecimal_small a ka, hexadecimal_small b kb, hexadecimal_small c kc, hexadecimal_small d kd)
unicode_small [] h k = absurd (omega arith)
unicode_small (a ∷ []) h k = absurd (omega arith)
unicode_small (a ∷ b ∷ []) h k = absurd (omega arith)
unicode_small (a ∷ b ∷ c ∷ []) h k = absurd (omega arith)
unicode_small (a ∷ b ∷ c ∷ d ∷ e ∷ s) h k = absurd (omega arith)

pub capped : (n : ℕ) → n ≤ 0xffff → min 0x4000_0000_0000_0001 n ≡ n
capped n h = omega arith

decimal_is : (s more : List ℕ) → length s ≡ 3 → list_all is_digit s ≡ true → escape_at (s ++ more) ≡ Char (number_of 10 s) 4
decimal_is [] more h k = absurd (omega arith)
decimal_is (c ∷ s) more h k =
    digit_cons c (s ++ more) (and_parts _ _ k).0 ∙ digits_is Digit 10 3 1 (c ∷ s) more h k ∙ ap (λ n. Char n 4) (capped _ (let b = decimal_small (c ∷ s) h k in omega arith))

unicode_is : (s more : List ℕ) → length s ≡ 4 → list_all is_hexadecimal s ≡ true → escape_at (117 ∷ (s ++ more)) ≡ Char (number_of 16 s) 6
unicode_is s more h k = unicode_cons (s ++ more) ∙ digits_is Hexadecimal 16 4 2 s more h k ∙ ap (λ n. Char n 6) (capped _ (unicode_small s h k))

gap_whole : (t more : List ℕ) → list_all is_space t ≡ true → gap_at (t ++ 92 ∷ more) ≡ Gap (length t + 2)
unfolding gap_at is_space
gap_whole t more h =
    let run = run_whole is_space t 92 more h refl in
    let ne : prefix_len is_space (t ++ 92 ∷ more) ≢ length (t ++ 92 ∷ more) = omega (arith, length-append t (92 ∷ more)) in
    cond-false _ _ _ (ne_eqb _ _ ne)
    ∙ cond-true _ _ _ (eq-eqb _ _ (ap (λ k. get_or (t ++ 92 ∷ more) k 0) run ∙ get_or_at t 92 more 0 (length t) refl))
    ∙ ap (λ k. Gap (k + 2)) run

gap_is : (s more : List ℕ) → AreSome is_space s → escape_at ((s ++ 92 ∷ []) ++ more) ≡ Gap (length s + 2)
gap_is [] more h = absurd h
gap_is (c ∷ s) more h =
    space_cons c ((s ++ 92 ∷ []) ++ more) (and_parts _ _ h).0
    ∙ ap gap_at (append_assoc (c ∷ s) (92 ∷ []) more)
    ∙ gap_whole (c ∷ s) more h

escape_is : (e : List ℕ) (n : ℕ) → IsEscape e n → (more : List ℕ) → Reads e (character n ∷ []) (item_at (e ++ more))
escape_is e n (letter c m h) more = is_char _ _ _ _ (item_backslash (c ∷ more) ∙ letter_is c m more h) refl (omega arith)
escape_is e n (caret c h k) more = is_char _ _ _ _ (item_backslash (94 ∷ c ∷ more) ∙ caret_is c more h k) refl (omega arith)
escape_is e n (decimal s h k) more = is_char (92 ∷ s) _ 4 _ (item_backslash (s ++ more) ∙ decimal_is s more h k) (omega arith) (omega arith)
escape_is e n (unicode s h k) more = is_char (92 ∷ 117 ∷ s) _ 6 _ (item_backslash (117 ∷ (s ++ more)) ∙ unicode_is s more h k) (omega arith) (omega arith)

string_gap_is : (g : List ℕ) → IsStringGap g → (more : List ℕ) → Reads g [] (item_at (g ++ more))
string_gap_is g (quoted.IsStringGap.gap s h) more =
    let e = item_backslash ((s ++ 92 ∷ []) ++ more) ∙ gap_is s more h in
    record { parts = ap parts_of e; size = ap size_of e ∙ (omega (arith, length-append s (92 ∷ []))); some = omega arith }

control_range : (c : ℕ) → is_control c ≡ true → c ≢ 34
unfolding is_control
control_range c h = grind (arith, nat_tests)

plain_newline : (c : ℕ) → is_control c ≡ false → c ≢ 10
unfolding is_control
plain_newline c h = grind (arith, nat_tests)

pub part_is : (p : List ℕ) (ps : List Part) → IsPart p ps → (more : List ℕ) → Reads p ps (item_at (p ++ more))
part_is p ps (quoted.IsPart.plain c h k l) more = is_char _ _ _ _ (item_cons c more k (plain_newline c h) ∙ cond-false _ _ _ h ∙ cond-false _ _ _ (ne_eqb _ _ l)) refl (omega arith)
part_is p ps (quoted.IsPart.escape e n h) more = escape_is e n h more
part_is p ps (quoted.IsPart.gap g h) more = string_gap_is g h more
part_is p ps (quoted.IsPart.control c h k) more =
    let e = item_cons c more (control_range c h) k ∙ cond-true _ _ _ h in
    record { parts = ap parts_of e; size = ap size_of e; some = omega arith }
