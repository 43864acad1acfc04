-- The tokens of files are one list, with one list of names and one of texts.
use Rattle.std.proofs.Common.{◌≡◌, ℕ, suc, Bool, List, ◌∷◌, ◌++◌, Option, Some, None, length, refl, sym, ap, ◌∙◌, subst}
use Rattle.std.specs.Prelude.{slice_get, option_map, ◌==◌, if◌then◌else◌, true, false}
use Rattle.std.proofs.lemmas.Bool.{eqb-true}
use Rattle.smlc_base.specs.Texts.{AreDistinct}
use Rattle.smlc_base.specs.declared.names.Name.{Name}
use Rattle.smlc_base.specs.declared.place.Place.{Place}
use Rattle.sml_lexer.specs.declared.lexed.Lexed.{Lexed}
use Rattle.sml_lexer.specs.declared.token.Token.{Token}
use Rattle.sml_lexer.specs.declared.token.TokenKind.{TokenKind}
use Rattle.sml_lexer.specs.declared.token.TokenKind.TheVariants.{Word, Id, Symbol, Long, TyVar, Int, WordLit, Real, Char, Text}
use Rattle.sml_lexer.specs.Files.{AreFiles, AreCut}
use Rattle.sml_lexer.specs.Files as files
use Rattle.sml_lexer.specs.Meanings.{Meaning}
use Rattle.sml_lexer.specs.Meanings as meaning
use Rattle.sml_lexer.specs.Programs.{IsLexed, AreAlike}
use Rattle.sml_lexer.specs.Shown.{meaning_in, Shows, ShowAll}
use Rattle.sml_lexer.specs.Shown as shown
use Rattle.sml_lexer.specs.Stored.{names_of, texts_of, IsNext, AreCounted}
use Rattle.sml_lexer.specs.Tokens.{Lexeme}
use Rattle.sml_lexer.proofs.FileLemmas.{tokens_unique}
use Rattle.sml_lexer.proofs.StoredLemmas.{counted_split}

-- ---- one list of tokens of the definition

cut_once : (fs : List (List ℕ)) (ls ms : List Lexeme) → AreCut fs ls → AreCut fs ms → ls ≡ ms
cut_once fs ls ms files.AreCut.none files.AreCut.none = refl
cut_once fs ls ms (files.AreCut.file f gs ks js h c) (files.AreCut.file f' gs' ks' js' h' c') =
    ap (λ (x : List Lexeme). x ++ js) (tokens_unique f ks ks' h h') ∙ ap (λ (x : List Lexeme). ks' ++ x) (cut_once gs js js' c c')

-- ---- one kind for a meaning

some_of : (f : List ℕ → Meaning) (o : Option (List ℕ)) (m : Meaning) → option_map f o ≡ Some m → (s : List ℕ) × (o ≡ Some s) × (m ≡ f s)
some_of f None m e = absurd (cc)
some_of f (Some s) m e = (s, refl, (let q : f s ≡ m = cc in sym q))

module _ (names texts : List (List ℕ)) where
  -- the kind of a token that means this, with the next numbers of string constants before and behind it
  abbrev Cites : ℕ → ℕ → TokenKind → Meaning → Type 0
  Cites n j k (meaning.word w) = (k ≡ Word w) × (j ≡ n)
  Cites n j k (meaning.identifier s) = (x : Name) × (k ≡ Id x) × (slice_get names x.0 ≡ Some s) × (j ≡ n)
  Cites n j k (meaning.symbol s) = (x : Name) × (k ≡ Symbol x) × (slice_get names x.0 ≡ Some s) × (j ≡ n)
  Cites n j k (meaning.long s) = (x : Name) × (k ≡ Long x) × (slice_get names x.0 ≡ Some s) × (j ≡ n)
  Cites n j k (meaning.type_variable s) = (x : Name) × (k ≡ TyVar x) × (slice_get names x.0 ≡ Some s) × (j ≡ n)
  Cites n j k (meaning.integer z) = (k ≡ Int z) × (j ≡ n)
  Cites n j k meaning.word_constant = (k ≡ WordLit 0) × (j ≡ n)
  Cites n j k meaning.real = (k ≡ Real) × (j ≡ n)
  Cites n j k (meaning.character c) = (k ≡ Char c) × (j ≡ n)
  Cites n j k (meaning.text codes) = (k ≡ Text n) × (j ≡ suc n)

  is_some : (x m : Meaning) → Some x ≡ Some m → x ≡ m
  is_some x m e = cc

  cites : (n j : ℕ) (k : TokenKind) (m : Meaning) → meaning_in names texts k ≡ Some m → IsNext n k j → Cites n j k m
  cites n j (Word w) m e i = subst (Cites n j (Word w)) (is_some (meaning.word w) m e) (refl, i)
  cites n j (Id x) m e i = let r = some_of (λ s. meaning.identifier s) (slice_get names x.0) m e in subst (Cites n j (Id x)) (sym r.2) (x, refl, r.1, i)
  cites n j (Symbol x) m e i = let r = some_of (λ s. meaning.symbol s) (slice_get names x.0) m e in subst (Cites n j (Symbol x)) (sym r.2) (x, refl, r.1, i)
  cites n j (Long x) m e i = let r = some_of (λ s. meaning.long s) (slice_get names x.0) m e in subst (Cites n j (Long x)) (sym r.2) (x, refl, r.1, i)
  cites n j (TyVar x) m e i = let r = some_of (λ s. meaning.type_variable s) (slice_get names x.0) m e in subst (Cites n j (TyVar x)) (sym r.2) (x, refl, r.1, i)
  cites n j (Int z) m e i = subst (Cites n j (Int z)) (is_some (meaning.integer z) m e) (refl, i)
  cites n j (WordLit v) m e i = let r = word_literal (v == 0) m e refl in subst (Cites n j (WordLit v)) r.1 (ap (λ (a : ℕ). WordLit a) (eqb-true v 0 r.0), i)
    where
      word_literal : (b : Bool) (x : Meaning) → (if b then Some meaning.word_constant else None) ≡ Some x → (v == 0) ≡ b → ((v == 0) ≡ true) × (meaning.word_constant ≡ x)
      word_literal true x f q = (q, is_some meaning.word_constant x f)
      word_literal false x f q = absurd (cc)
  cites n j Real m e i = subst (Cites n j Real) (is_some meaning.real m e) (refl, i)
  cites n j (Char c) m e i = subst (Cites n j (Char c)) (is_some (meaning.character c) m e) (refl, i)
  cites n j (Text t) m e i = let r = some_of (λ s. meaning.text s) (slice_get texts t) m e in subst (Cites n j (Text t)) (sym r.2) (ap (λ (a : ℕ). Text a) i.0, i.1)

  module _ (distinct : AreDistinct names) where
    named_once : (x y : Name) (s : List ℕ) → slice_get names x.0 ≡ Some s → slice_get names y.0 ≡ Some s → x ≡ y
    named_once x y s e f = ap (λ (i : ℕ). record { 0 = i }) (distinct x.0 y.0 s e f)

    kind_once : (n j j' : ℕ) (k k' : TokenKind) (m : Meaning) → Cites n j k m → Cites n j' k' m → (k ≡ k') × (j ≡ j')
    kind_once n j j' k k' (meaning.word w) c d = (c.0 ∙ sym d.0, c.1 ∙ sym d.1)
    kind_once n j j' k k' (meaning.identifier s) c d = (c.1 ∙ ap (λ (x : Name). Id x) (named_once c.0 d.0 s c.2 d.2) ∙ sym d.1, c.3 ∙ sym d.3)
    kind_once n j j' k k' (meaning.symbol s) c d = (c.1 ∙ ap (λ (x : Name). Symbol x) (named_once c.0 d.0 s c.2 d.2) ∙ sym d.1, c.3 ∙ sym d.3)
    kind_once n j j' k k' (meaning.long s) c d = (c.1 ∙ ap (λ (x : Name). Long x) (named_once c.0 d.0 s c.2 d.2) ∙ sym d.1, c.3 ∙ sym d.3)
    kind_once n j j' k k' (meaning.type_variable s) c d = (c.1 ∙ ap (λ (x : Name). TyVar x) (named_once c.0 d.0 s c.2 d.2) ∙ sym d.1, c.3 ∙ sym d.3)
    kind_once n j j' k k' (meaning.integer z) c d = (c.0 ∙ sym d.0, c.1 ∙ sym d.1)
    kind_once n j j' k k' meaning.word_constant c d = (c.0 ∙ sym d.0, c.1 ∙ sym d.1)
    kind_once n j j' k k' meaning.real c d = (c.0 ∙ sym d.0, c.1 ∙ sym d.1)
    kind_once n j j' k k' (meaning.character x) c d = (c.0 ∙ sym d.0, c.1 ∙ sym d.1)
    kind_once n j j' k k' (meaning.text codes) c d = (c.0 ∙ sym d.0, c.1 ∙ sym d.1)

    -- ---- one list of tokens

    token_once : (t u : Token) → t.kind ≡ u.kind → t.place ≡ u.place → t.at ≡ u.at → t.len ≡ u.len → t.numeral ≡ u.numeral → t ≡ u
    token_once t u a b c d e =
        ap (λ (k : TokenKind). record t { kind = k }) a
        ∙ ap (λ (p : Place). record u { place = p; at = t.at; len = t.len; numeral = t.numeral }) b
        ∙ ap (λ (n : ℕ). record u { at = n; len = t.len; numeral = t.numeral }) c
        ∙ ap (λ (n : ℕ). record u { len = n; numeral = t.numeral }) d
        ∙ ap (λ (n : Bool). record u { numeral = n }) e

    shown_once : (file : ℕ) (ts us : List Token) (ls : List Lexeme) → ShowAll file names texts ts ls → ShowAll file names texts us ls → (n m m' : ℕ) → AreCounted n ts m → AreCounted n us m' → (ts ≡ us) × (m ≡ m')
    shown_once file ts us ls shown.ShowAll.none shown.ShowAll.none n m m' a b = (refl, a ∙ sym b)
    shown_once file ts us ls (shown.ShowAll.one t l ts' ls' s h) (shown.ShowAll.one u l' us' ls'' r g) n m m' a b =
        let k = kind_once n a.0 b.0 t.kind u.kind l.meaning (cites n a.0 t.kind l.meaning s.kind a.1) (cites n b.0 u.kind l.meaning r.kind b.1) in
        let first = token_once t u k.0 (s.place ∙ sym r.place) (s.at ∙ sym r.at) (s.len ∙ sym r.len) (s.numeral ∙ sym r.numeral) in
        let rest = shown_once file ts' us' ls' h g a.0 m m' a.2 (subst (λ (i : ℕ). AreCounted i us' m') (sym k.1) b.2) in
        (ap (λ (x : Token). x ∷ ts') first ∙ ap (λ (xs : List Token). u ∷ xs) rest.0, rest.1)

    files_once : (f : ℕ) (fs : List (List ℕ)) (ts us : List Token) → AreFiles names texts f fs ts → AreFiles names texts f fs us → (n m m' : ℕ) → AreCounted n ts m → AreCounted n us m' → ts ≡ us
    files_once f fs ts us (files.AreFiles.none g) (files.AreFiles.none g') n m m' a b = refl
    files_once f fs ts us (files.AreFiles.file g bytes gs cs bs ls h s r) (files.AreFiles.file g' bytes' gs' cs' bs' ls' h' s' r') n m m' a b =
        let one = counted_split n m cs bs a in
        let two = counted_split n m' cs' bs' b in
        let same = subst (ShowAll g names texts cs') (tokens_unique bytes ls' ls h' h) s' in
        let first = shown_once g cs cs' ls s same n one.0 two.0 one.1 two.1 in
        let rest = files_once (suc g) gs bs bs' r r' one.0 m m' one.2 (subst (λ (i : ℕ). AreCounted i bs' m') (sym first.1) two.2) in
        ap (λ (xs : List Token). xs ++ bs) first.0 ∙ ap (λ (xs : List Token). cs' ++ xs) rest

-- ---- one answer

pub lexed_once : (names texts : List (List ℕ)) (first : ℕ) (fs : List (List ℕ)) (a b : Lexed) → IsLexed names texts first fs a → IsLexed names texts first fs b → AreAlike a b
lexed_once names texts first fs a b h k =
    let same = cut_once fs h.lexemes k.lexemes h.cut k.cut in
    let ns : a.names ≡ b.names = h.names_are ∙ ap (names_of names) same ∙ sym k.names_are in
    let xs : a.texts ≡ b.texts = h.texts_are ∙ ap (texts_of texts) same ∙ sym k.texts_are in
    let tokens = subst (λ (x : List (List ℕ)). AreFiles a.names x first fs b.tokens) (sym xs) (subst (λ (x : List (List ℕ)). AreFiles x b.texts first fs b.tokens) (sym ns) k.tokens) in
    record {
      tokens = files_once a.names a.texts a.distinct first fs a.tokens b.tokens h.tokens tokens (length texts) (length a.texts) (length b.texts) h.counted k.counted;
      names = ns;
      texts = xs;
      end = h.end ∙ sym k.end;
    }
