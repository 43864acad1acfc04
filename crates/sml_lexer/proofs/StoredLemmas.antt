-- Names, texts and the numbers of string constants behind tokens one after another.
use Rattle.std.proofs.Common.{◌≡◌, ℕ, List, [], ◌∷◌, ◌++◌, refl, subst}
use Rattle.sml_lexer.specs.declared.token.Token.{Token}
use Rattle.sml_lexer.specs.Stored.{names_with, texts_with, names_of, texts_of, IsNext, AreCounted}
use Rattle.sml_lexer.specs.Tokens.{Lexeme}

pub names_of-append : (names : List (List ℕ)) (ls ms : List Lexeme) → names_of names (ls ++ ms) ≡ names_of (names_of names ls) ms
names_of-append names [] ms = refl
names_of-append names (l ∷ ls) ms = names_of-append (names_with names l.meaning) ls ms

pub texts_of-append : (texts : List (List ℕ)) (ls ms : List Lexeme) → texts_of texts (ls ++ ms) ≡ texts_of (texts_of texts ls) ms
texts_of-append texts [] ms = refl
texts_of-append texts (l ∷ ls) ms = texts_of-append (texts_with texts l.meaning) ls ms

pub names_of-push : (names : List (List ℕ)) (ls : List Lexeme) (l : Lexeme) → names_of names (ls ++ l ∷ []) ≡ names_with (names_of names ls) l.meaning
names_of-push names ls l = names_of-append names ls (l ∷ [])

pub texts_of-push : (texts : List (List ℕ)) (ls : List Lexeme) (l : Lexeme) → texts_of texts (ls ++ l ∷ []) ≡ texts_with (texts_of texts ls) l.meaning
texts_of-push texts ls l = texts_of-append texts ls (l ∷ [])

pub counted_append : (n k m : ℕ) (ts us : List Token) → AreCounted n ts k → AreCounted k us m → AreCounted n (ts ++ us) m
counted_append n k m [] us h g = subst (λ (i : ℕ). AreCounted i us m) h g
counted_append n k m (t ∷ ts) us h g = (h.0, h.1, counted_append h.0 k m ts us h.2 g)

pub counted_push : (n k m : ℕ) (ts : List Token) (t : Token) → AreCounted n ts k → IsNext k t.kind m → AreCounted n (ts ++ t ∷ []) m
counted_push n k m ts t h g = counted_append n k m ts (t ∷ []) h (m, g, refl)

pub counted_split : (n m : ℕ) (ts us : List Token) → AreCounted n (ts ++ us) m → (k : ℕ) × AreCounted n ts k × AreCounted k us m
counted_split n m [] us h = (n, refl, h)
counted_split n m (t ∷ ts) us h = let r = counted_split h.0 m ts us h.2 in (r.0, (h.0, h.1, r.1), r.2)
