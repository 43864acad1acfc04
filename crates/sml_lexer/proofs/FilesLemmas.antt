-- The files are read one by one.
use Rattle.std.proofs.Common.{◌≡◌, ℕ, zero, suc, ◌+◌, ◌-◌, ◌<◌, ◌≤◌, true, ◌&&◌, ltb, List, [], ◌∷◌, ◌++◌, Option, Some, None, length, take, drop, get_or, map, refl, sym, ap, ◌∙◌, subst, arith, ℤ, pos, neg_ℤ, ◌≤ℤ◌, ◌^◌}
use Rattle.std.specs.Prelude.{slice_get, option_map, int_le}
use Rattle.std.specs.List.{AllByRecursion}
use Rattle.std.proofs.lemmas.List.{append_assoc, append-nil, take_more, map-append, length-map, take-append-drop, drop_more, length-take-le}
use Rattle.std.proofs.lemmas.Option.{slice_get_within}
use Rattle.std.proofs.lemmas.Bool.{and_parts, and_from, lt-ltb}
use Rattle.std.proofs.lemmas.Int.{ints}
use Rattle.smlc_base.specs.declared.place.Place.{Place}
use Rattle.smlc_base.specs.declared.refusal.Refusal.{Refusal}
use Rattle.smlc_base.specs.declared.refusal.Refusal.TheVariants as refusal
use Rattle.sml_lexer.specs.declared.token.Token.{Token}
use Rattle.sml_lexer.specs.declared.token.TokenKind.{TokenKind}
use Rattle.sml_lexer.specs.declared.token.TokenKind.TheVariants.{Word, Id, Symbol, Long, TyVar, Int, WordLit, Real, Char, Text}
use Rattle.sml_lexer.specs.Cited.{is_cited, all_cited}
use Rattle.sml_lexer.specs.Drafts.{refusal_of}
use Rattle.sml_lexer.specs.Files.{total, limit, AreFiles, AreCut, end_of, HasTokens, IsRefusal}
use Rattle.sml_lexer.specs.Files as files
use Rattle.sml_lexer.specs.Meanings.{Meaning, IsInRange}
use Rattle.sml_lexer.specs.Meanings as meaning
use Rattle.sml_lexer.specs.Places.{place_behind}
use Rattle.sml_lexer.specs.Shown.{meaning_in, Shows, ShowAll, Extends}
use Rattle.sml_lexer.specs.Shown as shown
use Rattle.sml_lexer.specs.Stored.{names_of, texts_of, AreCounted}
use Rattle.sml_lexer.proofs.StoredLemmas.{names_of-append, texts_of-append, counted_append}
use Rattle.sml_lexer.specs.Tokens.{Lexeme, IsAllowed, Behind, AreTokens, Fault, IsFirstFault}
use Rattle.sml_lexer.specs.Tokens as tokens
use Rattle.sml_lexer.proofs.DraftLemmas.{shown_extends}
use Rattle.sml_lexer.proofs.FileLemmas.{tokens_or_faults}

-- one more item of a list
pub taken : {V : Type 0} (f : V → List ℕ) (xs : List V) (i : ℕ) (x : V) → i < length xs → x ≡ get_or xs i x → map f (take (i + 1) xs) ≡ map f (take i xs) ++ f x ∷ []
taken f xs i x h e = ap (map f) (take_more xs i x h ∙ ap (λ y. take i xs ++ y ∷ []) (sym e)) ∙ map-append f (take i xs) (x ∷ [])

pub total-append : (a b : List (List ℕ)) → total (a ++ b) ≡ total a + total b
total-append [] b = omega arith
total-append (x ∷ a) b = ap (λ n. length x + n) (total-append a b) ∙ (omega arith)

pub total_push : (a : List (List ℕ)) (x : List ℕ) → total (a ++ x ∷ []) ≡ total a + length x
total_push a x = total-append a (x ∷ []) ∙ (omega arith)

pub total_more : {V : Type 0} (f : V → List ℕ) (xs : List V) (i : ℕ) (x : V) → i < length xs → x ≡ get_or xs i x → total (map f (take (i + 1) xs)) ≡ total (map f (take i xs)) + length (f x)
total_more f xs i x h e = ap total (taken f xs i x h e) ∙ total_push _ _

-- the files around one of them
pub split_files : {V : Type 0} (f : V → List ℕ) (xs : List V) (i : ℕ) (x : V) → i < length xs → x ≡ get_or xs i x → map f xs ≡ map f (take i xs) ++ f x ∷ map f (drop (i + 1) xs)
split_files f xs i x h e =
    ap (map f) (sym (take-append-drop i xs) ∙ ap (λ y. take i xs ++ y) (drop_more xs i x h ∙ ap (λ y. y ∷ drop (i + 1) xs) (sym e)))
    ∙ map-append f (take i xs) (x ∷ drop (i + 1) xs)

pub total_part : {V : Type 0} (f : V → List ℕ) (xs : List V) (i : ℕ) (x : V) → i < length xs → x ≡ get_or xs i x → total (map f (take i xs)) + length (f x) ≤ total (map f xs)
total_part f xs i x h e = let k = ap total (split_files f xs i x h e) ∙ total-append (map f (take i xs)) (f x ∷ map f (drop (i + 1) xs)) in omega arith

-- more names and texts serve too
files_extend : (names names' texts texts' : List (List ℕ)) → Extends names names' → Extends texts texts' → (n : ℕ) (fs : List (List ℕ)) (ts : List Token) → AreFiles names texts n fs ts → AreFiles names' texts' n fs ts
files_extend names names' texts texts' a b n fs ts (files.AreFiles.none m) = files.AreFiles.none m
files_extend names names' texts texts' a b n fs ts (files.AreFiles.file m f gs us vs ls h s r) =
    files.AreFiles.file m f gs us vs ls h (shown_extends m names names' texts texts' a b us ls s) (files_extend names names' texts texts' a b (suc m) gs vs r)

pub files_push : (names texts : List (List ℕ)) (n : ℕ) (fs : List (List ℕ)) (ts : List Token) → AreFiles names texts n fs ts → (m : ℕ) → m ≡ n + length fs → (f : List ℕ) (us : List Token) (ls : List Lexeme) → AreTokens f ls → ShowAll m names texts us ls
    → AreFiles names texts n (fs ++ f ∷ []) (ts ++ us)
files_push names texts n fs ts (files.AreFiles.none k) m e f us ls h s =
    subst (AreFiles names texts n (f ∷ [])) (append-nil us) (files.AreFiles.file n f [] us [] ls h (subst (λ x. ShowAll x names texts us ls) (let q : m ≡ n = omega arith in q) s) (files.AreFiles.none (suc n)))
files_push names texts n fs ts (files.AreFiles.file k g gs ws vs ms h' s' r) m e f us ls h s =
    subst (AreFiles names texts n ((g ∷ gs) ++ f ∷ [])) (sym (append_assoc ws vs us))
    (files.AreFiles.file n g (gs ++ f ∷ []) ws (vs ++ us) ms h' s' (files_push names texts (suc n) gs vs r m (omega arith) f us ls h s))

pub end_push : (p : Place) (n : ℕ) (fs : List (List ℕ)) (f : List ℕ) (m : ℕ) → m ≡ n + length fs → end_of p n (fs ++ f ∷ []) ≡ place_behind m f
end_push p n [] f m e = ap (λ k. place_behind k f) (let q : n ≡ m = omega arith in q)
end_push p n (g ∷ fs) f m e = end_push (place_behind n g) (suc n) fs f m (omega arith)

-- each file of these has tokens
pub have_tokens : (names texts : List (List ℕ)) (n : ℕ) (fs : List (List ℕ)) (ts : List Token) → AreFiles names texts n fs ts → AllByRecursion HasTokens fs
have_tokens names texts n fs ts (files.AreFiles.none m) = tt
have_tokens names texts n fs ts (files.AreFiles.file m f gs us vs ls h s r) = ((ls, h), have_tokens names texts (suc m) gs vs r)

-- what a progress through the files has
pub record IsProgress (n : ℕ) (fs : List (List ℕ)) (names texts : List (List ℕ)) (ts : List Token) (end : Place) : Type 0 where
  pub are : AreFiles names texts n fs ts
  pub end_is : end ≡ end_of (record { file = 0; line = 1; col = 1 }) n fs

pub no_progress : (n : ℕ) (names texts : List (List ℕ)) (ts : List Token) → ts ≡ [] → IsProgress n [] names texts ts (record { file = 0; line = 1; col = 1 })
no_progress n names texts ts e = record { are = subst (AreFiles names texts n []) (sym e) (files.AreFiles.none n); end_is = refl }

pub more_progress : (n : ℕ) (fs : List (List ℕ)) (names texts names' texts' : List (List ℕ)) (ts us all : List Token) (end : Place) → IsProgress n fs names texts ts end → Extends names names' → Extends texts texts' → (f : List ℕ) (m : ℕ) → m ≡ length fs + n
    → (ls : List Lexeme) → AreTokens f ls → ShowAll m names' texts' us ls → all ≡ ts ++ us → (next : Place) → next ≡ place_behind m f → IsProgress n (fs ++ f ∷ []) names' texts' all next
more_progress n fs names texts names' texts' ts us all end p a b f m e ls h s ai next ne = record {
  are = subst (AreFiles names' texts' n (fs ++ f ∷ [])) (sym ai) (files_push names' texts' n fs ts (files_extend names names' texts texts' a b n fs ts p.are) m (omega arith) f us ls h s);
  end_is = ne ∙ sym (end_push (record { file = 0; line = 1; col = 1 }) n fs f m (omega arith));
}

cut_push : (fs : List (List ℕ)) (ls : List Lexeme) → AreCut fs ls → (f : List ℕ) (ms : List Lexeme) → AreTokens f ms → AreCut (fs ++ f ∷ []) (ls ++ ms)
cut_push fs ls files.AreCut.none f ms h = subst (λ (ks : List Lexeme). AreCut (f ∷ []) ks) (append-nil ms) (files.AreCut.file f [] ms [] h files.AreCut.none)
cut_push fs ls (files.AreCut.file g gs ks js k c) f ms h =
    subst (λ (is : List Lexeme). AreCut ((g ∷ gs) ++ f ∷ []) is) (sym (append_assoc ks js ms)) (files.AreCut.file g (gs ++ f ∷ []) ks (js ++ ms) k (cut_push gs js c f ms h))

-- the names and texts behind files
pub record AreStored (names texts : List (List ℕ)) (fs now_names now_texts : List (List ℕ)) (ts : List Token) : Type 0 where
  pub lexemes : List Lexeme
  pub cut : AreCut fs lexemes
  pub names_are : now_names ≡ names_of names lexemes
  pub texts_are : now_texts ≡ texts_of texts lexemes
  pub counted : AreCounted (length texts) ts (length now_texts)

pub none_stored : (names texts now_names now_texts : List (List ℕ)) (ts : List Token) → now_names ≡ names → now_texts ≡ texts → ts ≡ [] → AreStored names texts [] now_names now_texts ts
none_stored names texts now_names now_texts ts e f g = record {
  lexemes = [];
  cut = files.AreCut.none;
  names_are = e;
  texts_are = f;
  counted = subst (λ (us : List Token). AreCounted (length texts) us (length now_texts)) (sym g) (ap length f);
}

pub more_stored : (names texts fs now_names now_texts : List (List ℕ)) (ts : List Token) → AreStored names texts fs now_names now_texts ts → (f : List ℕ) (ls : List Lexeme) → AreTokens f ls → (next_names next_texts : List (List ℕ)) (us all : List Token)
    → next_names ≡ names_of now_names ls → next_texts ≡ texts_of now_texts ls → AreCounted (length now_texts) us (length next_texts) → all ≡ ts ++ us → AreStored names texts (fs ++ f ∷ []) next_names next_texts all
more_stored names texts fs now_names now_texts ts s f ls h next_names next_texts us all e g c is = record {
  lexemes = s.lexemes ++ ls;
  cut = cut_push fs s.lexemes s.cut f ls h;
  names_are = e ∙ ap (λ (ns : List (List ℕ)). names_of ns ls) s.names_are ∙ sym (names_of-append names s.lexemes ls);
  texts_are = g ∙ ap (λ (xs : List (List ℕ)). texts_of xs ls) s.texts_are ∙ sym (texts_of-append texts s.lexemes ls);
  counted = subst (λ (vs : List Token). AreCounted (length texts) vs (length next_texts)) (sym is) (counted_append (length texts) (length now_texts) (length next_texts) ts us s.counted c);
}

-- where each file has tokens, nothing is refused
pick : (before after : List (List ℕ)) (f : List ℕ) → AllByRecursion HasTokens (before ++ f ∷ after) → HasTokens f
pick [] after f h = h.0
pick (g ∷ before) after f h = pick before after f h.1

pub accepted : (n : ℕ) (fs : List (List ℕ)) → total fs ≤ limit → AllByRecursion HasTokens fs → (r : Refusal) → IsRefusal n fs r → ⊥
accepted n fs small all r (files.IsRefusal.too_long before f after e h k) = let t = ap total e ∙ total-append before (f ∷ after) in omega arith
accepted n fs small all r (files.IsRefusal.fault before f after g e h a i) =
    let t = pick before after f (subst (AllByRecursion HasTokens) e all) in
    tokens_or_faults f t.0 g t.1 i.fails

-- the item at a place
pub item_there : {V : Type 0} (xs : List V) (i : ℕ) → i < length xs → (x : V) × (x ≡ get_or xs i x)
item_there [] i h = absurd (omega arith)
item_there (x ∷ xs) zero h = (x, refl)
item_there (x ∷ xs) (suc i) h = item_there xs i (omega arith)

-- each token cites what stands there
all_allowed : (P : List ℕ → List ℕ → Type 0) (b a : List ℕ) (ls : List Lexeme) → Behind P b a ls → AllByRecursion (λ l. IsAllowed l.meaning) ls
all_allowed P b a ls (tokens.Behind.here b' a' p) = tt
all_allowed P b a ls (tokens.Behind.gap b' s q us g h) = all_allowed P (b ++ s) q us h
all_allowed P b a ls (tokens.Behind.token b' s q m us st al h) = (al, all_allowed P (b ++ s) q us h)

within : (f : List ℕ → Meaning) (xs : List (List ℕ)) (i : ℕ) (m : Meaning) → option_map f (slice_get xs i) ≡ Some m → ltb i (length xs) ≡ true
within f xs i m e = go (slice_get xs i) refl
  where
    go : (o : Option (List ℕ)) → slice_get xs i ≡ o → ltb i (length xs) ≡ true
    go None q = let k : None ≡ Some m = ap (option_map f) (sym q) ∙ e in cc
    go (Some x) q = lt-ltb i (length xs) (slice_get_within xs i x q)

le_test : (a b : ℤ) → a ≤ℤ b → int_le a b ≡ true
le_test a b h = grind (arith, ints)

in_range_test : (z : ℤ) → IsInRange z → (int_le (neg_ℤ (pos (2 ^ 62))) z && int_le z (pos (2 ^ 62 - 1))) ≡ true
in_range_test z h = and_from _ _ (le_test (neg_ℤ (pos (2 ^ 62))) z h.0) (le_test z (pos (2 ^ 62 - 1)) h.1)

kind_cited : (names texts : List (List ℕ)) (k : TokenKind) (m : Meaning) → meaning_in names texts k ≡ Some m → IsAllowed m → is_cited (length names) (length texts) k ≡ true
kind_cited names texts (Word w) m e a = refl
kind_cited names texts (Id n) m e a = within (λ s. meaning.identifier s) names n.0 m e
kind_cited names texts (Symbol n) m e a = within (λ s. meaning.symbol s) names n.0 m e
kind_cited names texts (Long n) m e a = within (λ s. meaning.long s) names n.0 m e
kind_cited names texts (TyVar n) m e a = within (λ s. meaning.type_variable s) names n.0 m e
kind_cited names texts (Int z) m e a = in_range_test z (subst IsAllowed (let q : m ≡ meaning.integer z = cc in q) a)
kind_cited names texts (WordLit v) m e a = refl
kind_cited names texts Real m e a = refl
kind_cited names texts (Char c) m e a = refl
kind_cited names texts (Text i) m e a = within (λ s. meaning.text s) texts i m e

shown_cited : (file : ℕ) (names texts : List (List ℕ)) (ts : List Token) (ls : List Lexeme) → ShowAll file names texts ts ls → AllByRecursion (λ l. IsAllowed l.meaning) ls → all_cited (length names) (length texts) ts ≡ true
shown_cited file names texts ts ls shown.ShowAll.none a = refl
shown_cited file names texts ts ls (shown.ShowAll.one t l us ms s h) a = and_from _ _ (kind_cited names texts t.kind l.meaning s.kind a.0) (shown_cited file names texts us ms h a.1)

cited-append : (names texts : ℕ) (ts us : List Token) → all_cited names texts ts ≡ true → all_cited names texts us ≡ true → all_cited names texts (ts ++ us) ≡ true
cited-append names texts [] us h k = k
cited-append names texts (t ∷ ts) us h k = let p = and_parts (is_cited names texts t.kind) (all_cited names texts ts) h in and_from _ _ p.0 (cited-append names texts ts us p.1 k)

pub files_cited : (names texts : List (List ℕ)) (n : ℕ) (fs : List (List ℕ)) (ts : List Token) → AreFiles names texts n fs ts → all_cited (length names) (length texts) ts ≡ true
files_cited names texts n fs ts (files.AreFiles.none m) = refl
files_cited names texts n fs ts (files.AreFiles.file m f gs us vs ls h s r) =
    cited-append _ _ us vs (shown_cited m names texts us ls s (all_allowed _ [] f ls h)) (files_cited names texts (suc m) gs vs r)

-- the first file with which the limit is passed
pub too_long_there : (n : ℕ) {V : Type 0} (f : V → List ℕ) (xs : List V) (i : ℕ) → i < length xs → total (map f (take i xs)) ≤ limit → limit < total (map f (take (i + 1) xs)) → IsRefusal n (map f xs) (refusal.TooLong (record { file = i + n; line = 1; col = 1 }))
too_long_there n f xs i h a b =
    let x = item_there xs i h in
    let more = total_more f xs i x.0 h x.1 in
    let count : length (map f (take i xs)) ≡ i = length-map (take i xs) f ∙ length-take-le i xs (omega arith) in
    subst (λ k. IsRefusal n (map f xs) (refusal.TooLong (record { file = k + n; line = 1; col = 1 }))) count
    (files.IsRefusal.too_long (map f (take i xs)) (f x.0) (map f (drop (i + 1) xs)) (split_files f xs i x.0 h x.1) a (omega (arith, more)))

pub fault_there : (n : ℕ) {V : Type 0} (f : V → List ℕ) (xs : List V) (i : ℕ) (x : V) → i < length xs → x ≡ get_or xs i x → total (map f xs) ≤ limit → AllByRecursion HasTokens (map f (take i xs)) → (g : Fault) → IsFirstFault (f x) g
    → IsRefusal n (map f xs) (refusal_of g.why (place_behind (i + n) g.at))
fault_there n f xs i x h e small all g first =
    let count : length (map f (take i xs)) ≡ i = length-map (take i xs) f ∙ length-take-le i xs (omega arith) in
    subst (λ k. IsRefusal n (map f xs) (refusal_of g.why (place_behind (k + n) g.at))) count
    (files.IsRefusal.fault (map f (take i xs)) (f x) (map f (drop (i + 1) xs)) g (split_files f xs i x h e) small all first)

pub count_there : (n : ℕ) {V : Type 0} (f : V → List ℕ) (xs : List V) (i : ℕ) → i < length xs → i + n ≡ length (map f (take i xs)) + n
count_there n f xs i h = let count : length (map f (take i xs)) ≡ i = length-map (take i xs) f ∙ length-take-le i xs (omega arith) in omega arith
