-- A file is read step by step.
use Rattle.std.proofs.Common.{◌≡◌, ℕ, zero, suc, ◌+◌, ◌<◌, ◌≤◌, List, [], ◌∷◌, ◌++◌, Option, Some, None, length, take, drop, refl, sym, ap, ◌∙◌, subst, arith, ◌⊎◌, inl, inr, vec_len}
use Rattle.std.specs.Prelude.{slice_get, option_map}
use Rattle.std.specs.List.{fold}
use Rattle.std.proofs.lemmas.List.{append_assoc, append-nil, take-append-drop, length-take-le, length-drop, drop-drop, take_all, drop_all}
use Rattle.smlc_base.specs.declared.place.Place.{Place}
use Rattle.sml_lexer.specs.declared.draft.Draft.{Draft}
use Rattle.sml_lexer.specs.declared.step.Kind.{Kind}
use Rattle.sml_lexer.specs.declared.step.Spot.{Spot}
use Rattle.sml_lexer.specs.declared.step.Trouble.{Trouble}
use Rattle.sml_lexer.specs.declared.token.Token.{Token}
use Rattle.sml_lexer.specs.declared.token.TokenKind.{TokenKind}
use Rattle.sml_lexer.specs.declared.token.TokenKind.TheVariants.{Word, Id, Symbol, Long, TyVar, Int, WordLit, Real, Char, Text}
use Rattle.sml_lexer.specs.Gaps.{IsGap}
use Rattle.sml_lexer.specs.Meanings.{Meaning}
use Rattle.sml_lexer.specs.Meanings as meaning
use Rattle.sml_lexer.specs.Places.{place_behind}
use Rattle.sml_lexer.specs.PlaceScan.{next_place}
use Rattle.sml_lexer.specs.Shown.{meaning_in, Shows, ShowAll, Extends}
use Rattle.sml_lexer.specs.Shown as shown
use Rattle.sml_lexer.specs.Steps.{IsGapAt, IsTokenAt, IsFirstAt, kind_meaning}
use Rattle.sml_lexer.specs.Drafts.{AddsToken, IsFileOk, refusal_of}
use Rattle.sml_lexer.specs.Stored.{names_with, texts_with, names_of, texts_of, AreCounted}
use Rattle.sml_lexer.proofs.StoredLemmas.{names_of-push, texts_of-push, counted_push}
use Rattle.sml_lexer.specs.Tokens.{Lexeme, StandsAs, IsAllowed, Fault, IsFirstFault, number_of}
use Rattle.sml_lexer.proofs.FileLemmas.{Reached, start, gap, token, read_whole, read_fault}
use Rattle.sml_lexer.proofs.PlaceLemmas.{place-append, place_bounds}
use Rattle.sml_lexer.proofs.WordLemmas.{take_plus}

pub extends-refl : (xs : List (List ℕ)) → Extends xs xs
extends-refl xs = ([], sym (append-nil xs))

pub extends-trans : (xs ys zs : List (List ℕ)) → Extends xs ys → Extends ys zs → Extends xs zs
extends-trans xs ys zs a b = (a.0 ++ b.0, b.1 ∙ ap (λ w. w ++ b.0) a.1 ∙ append_assoc xs a.0 b.0)

get_more : (xs more : List (List ℕ)) (i : ℕ) (x : List ℕ) → slice_get xs i ≡ Some x → slice_get (xs ++ more) i ≡ Some x
get_more [] more i x e = cc
get_more (y ∷ xs) more zero x e = e
get_more (y ∷ xs) more (suc i) x e = get_more xs more i x e

get_extends : (xs ys : List (List ℕ)) → Extends xs ys → (i : ℕ) (x : List ℕ) → slice_get xs i ≡ Some x → slice_get ys i ≡ Some x
get_extends xs ys h i x e = ap (λ w. slice_get w i) h.1 ∙ get_more xs h.0 i x e

map_extends : (f : List ℕ → Meaning) (xs ys : List (List ℕ)) → Extends xs ys → (i : ℕ) (m : Meaning) → option_map f (slice_get xs i) ≡ Some m → option_map f (slice_get ys i) ≡ Some m
map_extends f xs ys h i m e = go (slice_get xs i) refl
  where
    go : (o : Option (List ℕ)) → slice_get xs i ≡ o → option_map f (slice_get ys i) ≡ Some m
    go None q = let k : None ≡ Some m = ap (option_map f) (sym q) ∙ e in cc
    go (Some x) q = ap (option_map f) (get_extends xs ys h i x q) ∙ ap (option_map f) (sym q) ∙ e

-- a kind means the same with more names and texts
meaning_extends : (names names' texts texts' : List (List ℕ)) → Extends names names' → Extends texts texts' → (k : TokenKind) (m : Meaning) → meaning_in names texts k ≡ Some m → meaning_in names' texts' k ≡ Some m
meaning_extends names names' texts texts' a b (Word w) m e = e
meaning_extends names names' texts texts' a b (Id n) m e = map_extends (λ s. meaning.identifier s) names names' a n.0 m e
meaning_extends names names' texts texts' a b (Symbol n) m e = map_extends (λ s. meaning.symbol s) names names' a n.0 m e
meaning_extends names names' texts texts' a b (Long n) m e = map_extends (λ s. meaning.long s) names names' a n.0 m e
meaning_extends names names' texts texts' a b (TyVar n) m e = map_extends (λ s. meaning.type_variable s) names names' a n.0 m e
meaning_extends names names' texts texts' a b (Int z) m e = e
meaning_extends names names' texts texts' a b (WordLit v) m e = e
meaning_extends names names' texts texts' a b Real m e = e
meaning_extends names names' texts texts' a b (Char c) m e = e
meaning_extends names names' texts texts' a b (Text i) m e = map_extends (λ s. meaning.text s) texts texts' b i m e

pub shown_extends : (file : ℕ) (names names' texts texts' : List (List ℕ)) → Extends names names' → Extends texts texts' → (ts : List Token) (ls : List Lexeme) → ShowAll file names texts ts ls → ShowAll file names' texts' ts ls
shown_extends file names names' texts texts' a b ts ls shown.ShowAll.none = shown.ShowAll.none
shown_extends file names names' texts texts' a b ts ls (shown.ShowAll.one t l us ms s h) =
    shown.ShowAll.one t l us ms (record { kind = meaning_extends names names' texts texts' a b t.kind l.meaning s.kind; place = s.place; at = s.at; len = s.len; numeral = s.numeral }) (shown_extends file names names' texts texts' a b us ms h)

shown_push : (file : ℕ) (names texts : List (List ℕ)) (ts : List Token) (ls : List Lexeme) → ShowAll file names texts ts ls → (t : Token) (l : Lexeme) → Shows file names texts t l → ShowAll file names texts (ts ++ t ∷ []) (ls ++ l ∷ [])
shown_push file names texts ts ls shown.ShowAll.none t l s = shown.ShowAll.one t l [] [] s shown.ShowAll.none
shown_push file names texts ts ls (shown.ShowAll.one u m us ms r h) t l s = shown.ShowAll.one u m _ _ r (shown_push file names texts us ms h t l s)

-- a draft that has the tokens of so many bytes of a file
pub record IsDrafted (file : ℕ) (bytes : List ℕ) (at : ℕ) (place : Place) (old new : Draft) : Type 0 where
  pub in_range : at ≤ length bytes
  pub place_is : place ≡ place_behind file (take at bytes)
  pub lexemes : List Lexeme
  pub reached : Reached bytes (take at bytes) (drop at bytes) lexemes
  pub tokens : List Token
  pub items : new.tokens.items ≡ old.tokens.items ++ tokens
  pub shown : ShowAll file new.names new.texts.items tokens lexemes
  pub names_are : new.names ≡ names_of old.names lexemes
  pub texts_are : new.texts.items ≡ texts_of old.texts.items lexemes
  pub counted : AreCounted (length old.texts.items) tokens (length new.texts.items)
  pub names : Extends old.names new.names
  pub texts : Extends old.texts.items new.texts.items
  pub token_count : vec_len new.tokens ≤ vec_len old.tokens + at
  pub name_count : length new.names ≤ length old.names + at
  pub text_count : vec_len new.texts ≤ vec_len old.texts + at

pub drafted_nothing : (file : ℕ) (bytes : List ℕ) (d : Draft) → IsDrafted file bytes 0 (record { file = file; line = 1; col = 1 }) d d
drafted_nothing file bytes d = record {
  in_range = omega arith;
  place_is = refl;
  lexemes = [];
  reached = start;
  tokens = [];
  items = sym (append-nil d.tokens.items);
  shown = shown.ShowAll.none;
  names_are = refl;
  texts_are = refl;
  counted = refl;
  names = extends-refl d.names;
  texts = extends-refl d.texts.items;
  token_count = omega arith;
  name_count = omega arith;
  text_count = omega arith;
}

module _ (bytes : List ℕ) (at len : ℕ) (in_range : at ≤ length bytes) (room : len ≤ length (drop at bytes)) where
  front_is : take (at + len) bytes ≡ take at bytes ++ take len (drop at bytes)
  front_is = take_plus at len bytes in_range

  rest_is : drop (at + len) bytes ≡ drop len (drop at bytes)
  rest_is = sym (drop-drop len at bytes)

  pub whole_room : at + len ≤ length bytes
  whole_room = let l = length-drop at bytes in omega arith

  -- the place behind what stands there
  place_on : (file : ℕ) (place next : Place) → place ≡ place_behind file (take at bytes) → next ≡ fold next_place place (take len (drop at bytes)) → next ≡ place_behind file (take (at + len) bytes)
  place_on file place next e h = h ∙ ap (λ p. fold next_place p (take len (drop at bytes))) e ∙ place-append file (take at bytes) (take len (drop at bytes)) ∙ ap (place_behind file) (sym front_is)

  reached_gap : (ts : List Lexeme) → Reached bytes (take at bytes) (drop at bytes) ts → IsGap (take len (drop at bytes)) → Reached bytes (take (at + len) bytes) (drop (at + len) bytes) ts
  reached_gap ts r g =
      subst (λ x. Reached bytes x (drop (at + len) bytes) ts) (sym front_is)
      (subst (λ x. Reached bytes (take at bytes ++ take len (drop at bytes)) x ts) (sym rest_is)
      (gap (take at bytes) (take len (drop at bytes)) (drop len (drop at bytes)) ts (subst (λ x. Reached bytes (take at bytes) x ts) (sym (take-append-drop len (drop at bytes))) r) g))

  reached_token : (ts : List Lexeme) (m : Meaning) → Reached bytes (take at bytes) (drop at bytes) ts → StandsAs (take len (drop at bytes)) (drop len (drop at bytes)) m → IsAllowed m
      → Reached bytes (take (at + len) bytes) (drop (at + len) bytes) (ts ++ record { before = take at bytes; text = take len (drop at bytes); meaning = m } ∷ [])
  reached_token ts m r st al =
      subst (λ x. Reached bytes x (drop (at + len) bytes) (ts ++ record { before = take at bytes; text = take len (drop at bytes); meaning = m } ∷ [])) (sym front_is)
      (subst (λ x. Reached bytes (take at bytes ++ take len (drop at bytes)) x (ts ++ record { before = take at bytes; text = take len (drop at bytes); meaning = m } ∷ [])) (sym rest_is)
      (token (take at bytes) (take len (drop at bytes)) (drop len (drop at bytes)) m ts (subst (λ x. Reached bytes (take at bytes) x ts) (sym (take-append-drop len (drop at bytes))) r) st al))

module _ (file : ℕ) (bytes : List ℕ) (at : ℕ) (place : Place) (old now : Draft) (d : IsDrafted file bytes at place old now) where
  pub drafted_gap : (len : ℕ) (next : Place) → IsGapAt (drop at bytes) len → next ≡ fold next_place place (take len (drop at bytes)) → IsDrafted file bytes (at + len) next old now
  drafted_gap len next g e =
      let t = d.token_count in let n = d.name_count in let x = d.text_count in
      record {
        in_range = whole_room bytes at len d.in_range g.room;
        place_is = place_on bytes at len d.in_range g.room file place next d.place_is e;
        lexemes = d.lexemes;
        reached = reached_gap bytes at len d.in_range g.room d.lexemes d.reached g.is;
        tokens = d.tokens;
        items = d.items;
        shown = d.shown;
        names_are = d.names_are;
        texts_are = d.texts_are;
        counted = d.counted;
        names = d.names;
        texts = d.texts;
        token_count = omega arith;
        name_count = omega arith;
        text_count = omega arith;
      }

  pub drafted_token : (len : ℕ) (next : Place) (new : Draft) (kind : Kind) → IsTokenAt (drop at bytes) len (kind_meaning kind (take len (drop at bytes))) → next ≡ fold next_place place (take len (drop at bytes))
      → AddsToken now new kind place at (take len (drop at bytes)) → Extends now.names new.names → Extends now.texts.items new.texts.items
      → vec_len new.tokens ≤ vec_len now.tokens + 1 → length new.names ≤ length now.names + 1 → vec_len new.texts ≤ vec_len now.texts + 1 → IsDrafted file bytes (at + len) next old new
  drafted_token len next new kind g e a names texts tc nc xc =
      let t = d.token_count in let n = d.name_count in let x = d.text_count in let some = g.some in
      record {
        in_range = whole_room bytes at len d.in_range g.room;
        place_is = place_on bytes at len d.in_range g.room file place next d.place_is e;
        lexemes = d.lexemes ++ lexeme ∷ [];
        reached = reached_token bytes at len d.in_range g.room d.lexemes _ d.reached g.stands g.allowed;
        tokens = d.tokens ++ a.token ∷ [];
        items = a.items ∙ ap (λ z. z ++ a.token ∷ []) d.items ∙ append_assoc old.tokens.items d.tokens (a.token ∷ []);
        shown = shown_push file new.names new.texts.items _ _ (shown_extends file _ _ _ _ names texts _ _ d.shown) a.token lexeme
            (record { kind = a.kind_is; place = a.place_is ∙ d.place_is; at = a.at_is ∙ sym (length-take-le at bytes d.in_range); len = a.len_is; numeral = a.numeral_is });
        names_are = a.names_are ∙ ap (λ (ns : List (List ℕ)). names_with ns lexeme.meaning) d.names_are ∙ sym (names_of-push old.names d.lexemes lexeme);
        texts_are = a.texts_are ∙ ap (λ (xs : List (List ℕ)). texts_with xs lexeme.meaning) d.texts_are ∙ sym (texts_of-push old.texts.items d.lexemes lexeme);
        counted = counted_push (length old.texts.items) (length now.texts.items) (length new.texts.items) d.tokens a.token d.counted a.next;
        names = extends-trans _ _ _ d.names names;
        texts = extends-trans _ _ _ d.texts texts;
        token_count = omega arith;
        name_count = omega arith;
        text_count = omega arith;
      }
    where
      lexeme : Lexeme
      lexeme = record { before = take at bytes; text = take len (drop at bytes); meaning = kind_meaning kind (take len (drop at bytes)) }

  pub drafted_all : length bytes ≤ at → IsFileOk file bytes old now place
  drafted_all h = record {
    lexemes = d.lexemes;
    are = read_whole bytes d.lexemes _ _ d.reached (drop_all at bytes h);
    tokens = d.tokens;
    items = d.items;
    shown = d.shown;
    names_are = d.names_are;
    texts_are = d.texts_are;
    counted = d.counted;
    end_is = d.place_is ∙ ap (place_behind file) (take_all at bytes h);
  }

  pub place_small : (place.line ≤ length bytes + 1) × (place.col ≤ length bytes + 1)
  place_small =
      let b = place_bounds file (take at bytes) in
      let l = length-take-le at bytes d.in_range in
      let k = ap (λ (p : Place). p.line) d.place_is in
      let m = ap (λ (p : Place). p.col) d.place_is in
      let r = d.in_range in
      (omega (arith, b.0), omega (arith, b.1))

  -- the first fault of the place is the file's
  pub drafted_fault : (spot : Spot) (next : Place) → IsFirstAt (drop at bytes) spot → next ≡ fold next_place place (take spot.back (drop at bytes))
      → (f : Fault) × IsFirstFault bytes f × (refusal_of spot.trouble next ≡ refusal_of f.why (place_behind file f.at))
  drafted_fault spot next g e =
      let back = take spot.back (drop at bytes) in
      let l = length-take-le spot.back (drop at bytes) g.room in
      let where_is = place_on bytes at spot.back d.in_range g.room file place next d.place_is e in (
        record { at = take at bytes ++ back; why = spot.trouble },
        read_fault bytes (take at bytes) (drop at bytes) d.lexemes d.reached back spot.trouble g.fails (λ k v h. first k v l (g.first k v h)),
        ap (refusal_of spot.trouble) (where_is ∙ ap (place_behind file) (front_is bytes at spot.back d.in_range g.room)),
      )
    where
      first : (k : List ℕ) (v : Trouble) → length (take spot.back (drop at bytes)) ≡ spot.back → (spot.back < length k) ⊎ ((spot.back ≡ length k) × (number_of spot.trouble ≤ number_of v))
          → (length (take spot.back (drop at bytes)) < length k) ⊎ ((length (take spot.back (drop at bytes)) ≡ length k) × (number_of spot.trouble ≤ number_of v))
      first k v l (inl h) = inl (omega arith)
      first k v l (inr h) = inr (l ∙ h.0, h.1)
