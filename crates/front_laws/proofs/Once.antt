-- One tree, or one refusal.
use Rattle.std.proofs.Common.{◌≡◌, ◌⊎◌, inl, inr, ℕ, ◌+◌, ◌<◌, ◌≤◌, Bool, true, false, List, [], ◌∷◌, ◌++◌, Option, Some, None, take, drop, get_or, refl, sym, ap, ◌∙◌, subst, arith}
use Rattle.std.proofs.lemmas.List.{append_assoc, append-nil, take-append-drop, take-take}
use Rattle.std.proofs.lemmas.Bool.{cases_order}
use Rattle.smlc_base.specs.declared.place.Place.{Place}
use Rattle.smlc_base.specs.declared.refusal.Banned.{Banned}
use Rattle.smlc_base.specs.declared.refusal.Refusal.{Refusal}
use Rattle.smlc_base.specs.declared.refusal.Refusal.TheVariants as refusal
use Rattle.sml_lexer.specs.declared.lexed.Lexed.{Lexed}
use Rattle.sml_lexer.specs.declared.token.Token.{Token}
use Rattle.sml_lexer.specs.Programs.{AreAlike}
use Rattle.sml_tree.specs.declared.tree.Tree.{Tree}
use Rattle.sml_tree.specs.Tree.{roots}
use Rattle.sml_syntax.specs.declared.forms.Made.{Made}
use Rattle.sml_syntax.specs.declared.forms.Terminal.{Terminal}
use Rattle.sml_syntax.specs.declared.symbol.Symbol.{Symbol}
use Rattle.sml_syntax.specs.declared.symbol.Push.{Push}
use Rattle.sml_syntax.specs.Fixity.{Fix}
use Rattle.sml_syntax.specs.Grammar.{Begins, Parses}
use Rattle.sml_syntax.specs.Machine.{Accepts, done, emit, skip, eat, pushed, after}
use Rattle.sml_fixity.specs.Banned.{banned_at}
use Rattle.sml_fixity.specs.Nodes.{bare, places, starts_of}
use Rattle.sml_fixity.specs.Parse.{IsProgram, IsParse, IsRefusal, StopsBefore, GoesOnGrouped, starts, first_deep, place_at}
use Rattle.sml_fixity.specs.Parse as syntax
use Rattle.sml_fixity.specs.Starting.{starting}
use Rattle.sml_fixity.specs.Stops.{StopsAt}
use Rattle.sml_fixity.specs.Terminals.{terminals}
use Rattle.syntax_laws.proofs.ProgramsAccepted.{accepted}
use Rattle.front_laws.specs.Same.{AreSame}

-- ---- the machine does one thing

accepts_once : {v : Bool} {k : List Symbol} {f : Fix} {a : List Terminal} {o p : List Made} → Accepts v k f a o → Accepts v k f a p → o ≡ p
accepts_once done done = refl
accepts_once (emit {m = m} h) (emit g) = ap (λ (os : List Made). m ∷ os) (accepts_once h g)
accepts_once (emit h) (skip e g) = cc
accepts_once (emit h) (eat e g) = cc
accepts_once (skip e h) (emit g) = cc
accepts_once {v = v} (skip {p = p} {k = k} {f = f} {t = t} {a = a} e h) (skip {p = q} {o = o} d g) =
    let same : p ≡ q = cc in
    accepts_once h (subst (λ (r : Push). Accepts v (pushed r k) f (t ∷ a) o) (sym same) g)
accepts_once (skip e h) (eat d g) = cc
accepts_once (eat e h) (emit g) = cc
accepts_once (eat e h) (skip d g) = cc
accepts_once {v = v} (eat {s = s} {p = p} {k = k} {f = f} {t = t} {a = a} e h) (eat {p = q} {o = o} d g) =
    let same : p ≡ q = cc in
    accepts_once h (subst (λ (r : Push). Accepts v (pushed r k) (after s t f) a o) (sym same) g)

program_once : (v : Bool) (f : Fix) (a : List Terminal) (o p : List Made) → Parses v f a o → Parses v f a p → o ≡ p
program_once v f a o p h g = accepts_once (accepted v h) (accepted v g)

-- ---- beginnings

begins_front : (v : Bool) (f : Fix) (x y : List Terminal) → Begins v f (x ++ y) → Begins v f x
begins_front v f x y h = (y ++ h.0, h.1, subst (λ (z : List Terminal). Parses v f z h.1) (append_assoc x y h.0) h.2)

begins_before : (v : Bool) (f : Fix) (a : List Terminal) (i j : ℕ) → i ≤ j → Begins v f (take j a) → Begins v f (take i a)
begins_before v f a i j l h =
    subst (Begins v f) (take-take i j a l)
    (begins_front v f (take i (take j a)) (drop i (take j a)) (subst (Begins v f) (sym (take-append-drop i (take j a))) h))

program_begins : (v : Bool) (f : Fix) (a : List Terminal) (o : List Made) (i : ℕ) → Parses v f a o → Begins v f (take i a)
program_begins v f a o i h = begins_front v f (take i a) (drop i a) ([], o, subst (λ (z : List Terminal). Parses v f z o) (sym (append-nil (take i a ++ drop i a) ∙ take-append-drop i a)) h)

no_stop : (f : Fix) (a : List Terminal) (o : List Made) (i : ℕ) → Parses false f a o → StopsAt f a i → ⊥
no_stop f a o i h s = s.with_it (program_begins false f a o (i + 1) h)

stops_once : (f : Fix) (a : List Terminal) (i j : ℕ) → StopsAt f a i → StopsAt f a j → i ≡ j
stops_once f a i j s t = go (cases_order i j)
  where
    go : (i ≡ j) ⊎ ((i < j) ⊎ (j < i)) → i ≡ j
    go (inl e) = e
    go (inr (inl l)) = absurd (s.with_it (begins_before false f a (i + 1) j (omega (arith, l)) t.before))
    go (inr (inr l)) = absurd (t.with_it (begins_before false f a (j + 1) i (omega (arith, l)) s.before))

-- ---- of one list of tokens

module _ (x : Lexed) where
  abbrev Fixed : Fix
  Fixed = starting x.names

  abbrev Read : List Terminal
  Read = terminals x.names x.tokens

  made_once : (o p : List Made) → IsProgram x o → IsProgram x p → o ≡ p
  made_once o p h g = program_once false Fixed Read o p h g

  some_once : {V : Type 0} (o : Option V) (u w : V) → o ≡ Some u → o ≡ Some w → u ≡ w
  some_once o u w e d = cc

  parse_once : (s t : Tree) → IsParse x s → IsParse x t → AreSame s t
  parse_once s t h g =
      let made = made_once h.made g.made h.program g.program in
      let nodes : s.nodes ≡ t.nodes = h.nodes ∙ ap bare made ∙ sym g.nodes in
      record {
        nodes = nodes;
        places = h.places ∙ ap (starts x) made ∙ sym g.places;
        decs = some_once (roots 0 [] t.nodes) s.decs t.decs (sym (ap (roots 0 []) nodes) ∙ h.decs) g.decs;
        names = h.names ∙ sym g.names;
        texts = h.texts ∙ sym g.texts;
      }

  no_refusal : (s : Tree) (r : Refusal) → IsParse x s → IsRefusal x r → ⊥
  no_refusal s r h (syntax.IsRefusal.syntax_error i z n b) = no_stop Fixed Read h.made i h.program z
  no_refusal s r h (syntax.IsRefusal.mixed_fixity i z g) = no_stop Fixed Read h.made i h.program z
  no_refusal s r h (syntax.IsRefusal.not_in_subset i form z n b) = no_stop Fixed Read h.made i h.program z
  no_refusal s r h (syntax.IsRefusal.too_deep made decs k p d e) =
      let same : first_deep h.made ≡ first_deep made = ap first_deep (made_once h.made made h.program p) in
      let none : first_deep h.made ≡ None = h.shallow in
      absurd (cc)

  refusal_once : (q r : Refusal) → IsRefusal x q → IsRefusal x r → q ≡ r
  refusal_once q r (syntax.IsRefusal.syntax_error i z n b) (syntax.IsRefusal.syntax_error j y m c) = ap (λ (k : ℕ). refusal.Syntax (place_at x k)) (stops_once Fixed Read i j z y)
  refusal_once q r (syntax.IsRefusal.syntax_error i z n b) (syntax.IsRefusal.mixed_fixity j y g) = absurd (n (subst (GoesOnGrouped x) (stops_once Fixed Read j i y z) g))
  refusal_once q r (syntax.IsRefusal.syntax_error i z n b) (syntax.IsRefusal.not_in_subset j form y m c) =
      let same : banned_at x.tokens i ≡ banned_at x.tokens j = ap (banned_at x.tokens) (stops_once Fixed Read i j z y) in absurd (cc)
  refusal_once q r (syntax.IsRefusal.syntax_error i z n b) (syntax.IsRefusal.too_deep made decs k p d e) = absurd (no_stop Fixed Read made i p z)
  refusal_once q r (syntax.IsRefusal.mixed_fixity i z g) (syntax.IsRefusal.syntax_error j y m c) = absurd (m (subst (GoesOnGrouped x) (stops_once Fixed Read i j z y) g))
  refusal_once q r (syntax.IsRefusal.mixed_fixity i z g) (syntax.IsRefusal.mixed_fixity j y h) = ap (λ (k : ℕ). refusal.MixedFixity (place_at x k)) (stops_once Fixed Read i j z y)
  refusal_once q r (syntax.IsRefusal.mixed_fixity i z g) (syntax.IsRefusal.not_in_subset j form y m c) = absurd (m (subst (GoesOnGrouped x) (stops_once Fixed Read i j z y) g))
  refusal_once q r (syntax.IsRefusal.mixed_fixity i z g) (syntax.IsRefusal.too_deep made decs k p d e) = absurd (no_stop Fixed Read made i p z)
  refusal_once q r (syntax.IsRefusal.not_in_subset i form z n b) (syntax.IsRefusal.syntax_error j y m c) =
      let same : banned_at x.tokens i ≡ banned_at x.tokens j = ap (banned_at x.tokens) (stops_once Fixed Read i j z y) in absurd (cc)
  refusal_once q r (syntax.IsRefusal.not_in_subset i form z n b) (syntax.IsRefusal.mixed_fixity j y g) = absurd (n (subst (GoesOnGrouped x) (stops_once Fixed Read j i y z) g))
  refusal_once q r (syntax.IsRefusal.not_in_subset i form z n b) (syntax.IsRefusal.not_in_subset j other y m c) =
      let here = stops_once Fixed Read i j z y in
      let same = some_once (banned_at x.tokens j) form other (sym (ap (banned_at x.tokens) here) ∙ b) c in
      ap (λ (k : ℕ). refusal.NotInSubset (place_at x k) form) here ∙ ap (λ (f : Banned). refusal.NotInSubset (place_at x j) f) same
  refusal_once q r (syntax.IsRefusal.not_in_subset i form z n b) (syntax.IsRefusal.too_deep made decs k p d e) = absurd (no_stop Fixed Read made i p z)
  refusal_once q r (syntax.IsRefusal.too_deep made decs k p d e) (syntax.IsRefusal.syntax_error j y m c) = absurd (no_stop Fixed Read made j p y)
  refusal_once q r (syntax.IsRefusal.too_deep made decs k p d e) (syntax.IsRefusal.mixed_fixity j y g) = absurd (no_stop Fixed Read made j p y)
  refusal_once q r (syntax.IsRefusal.too_deep made decs k p d e) (syntax.IsRefusal.not_in_subset j form y m c) = absurd (no_stop Fixed Read made j p y)
  refusal_once q r (syntax.IsRefusal.too_deep made decs k p d e) (syntax.IsRefusal.too_deep made' decs' k' p' d' e') =
      let same = made_once made made' p p' in
      let heads = some_once (roots 0 [] (bare made')) decs decs' (sym (ap (λ (m : List Made). roots 0 [] (bare m)) same) ∙ d) d' in
      let first = some_once (first_deep made') k k' (sym (ap first_deep same) ∙ e) e' in
      ap (λ (m : List Made). refusal.TooDeep (get_or (starts x m) (get_or decs k 0) x.end)) same
      ∙ ap (λ (ds : List ℕ). refusal.TooDeep (get_or (starts x made') (get_or ds k 0) x.end)) heads
      ∙ ap (λ (n : ℕ). refusal.TooDeep (get_or (starts x made') (get_or decs' n 0) x.end)) first

-- ---- of two that are the same

module _ (a b : Lexed) (same : AreAlike a b) where
  back : (P : List (List ℕ) → List Token → Type 0) → P b.names b.tokens → P a.names a.tokens
  back P h = subst (λ (ns : List (List ℕ)). P ns a.tokens) (sym same.names) (subst (λ (ts : List Token). P b.names ts) (sym same.tokens) h)

  forth : (P : List (List ℕ) → List Token → Type 0) → P a.names a.tokens → P b.names b.tokens
  forth P h = subst (λ (ts : List Token). P b.names ts) same.tokens (subst (λ (ns : List (List ℕ)). P ns a.tokens) same.names h)

  starts_same : (m : List Made) → starts b m ≡ starts a m
  starts_same m =
      sym (ap (λ (ts : List Token). starts_of (places ts a.end) a.end [] m) same.tokens ∙ ap (λ (p : Place). starts_of (places b.tokens p) p [] m) same.end)

  place_same : (i : ℕ) → place_at b i ≡ place_at a i
  place_same i = sym (ap (λ (ts : List Token). get_or (places ts a.end) i a.end) same.tokens ∙ ap (λ (p : Place). get_or (places b.tokens p) i p) same.end)

  program_back : (m : List Made) → IsProgram b m → IsProgram a m
  program_back m h = back (λ ns ts. Parses false (starting ns) (terminals ns ts) m) h

  stops_back : (i : ℕ) → StopsBefore b i → StopsBefore a i
  stops_back i h = back (λ ns ts. StopsAt (starting ns) (terminals ns ts) i) h

  grouped_back : (i : ℕ) → GoesOnGrouped b i → GoesOnGrouped a i
  grouped_back i h = back (λ ns ts. Begins true (starting ns) (take (i + 1) (terminals ns ts))) h

  grouped_forth : (i : ℕ) → GoesOnGrouped a i → GoesOnGrouped b i
  grouped_forth i h = forth (λ ns ts. Begins true (starting ns) (take (i + 1) (terminals ns ts))) h

  pub parse_back : (t : Tree) → IsParse b t → IsParse a t
  parse_back t h = record {
    made = h.made;
    program = program_back h.made h.program;
    nodes = h.nodes;
    places = h.places ∙ starts_same h.made;
    decs = h.decs;
    names = h.names ∙ sym same.names;
    texts = h.texts ∙ sym same.texts;
    shallow = h.shallow;
  }

  pub refusal_back : (r : Refusal) → IsRefusal b r → IsRefusal a r
  refusal_back r (syntax.IsRefusal.syntax_error i z n c) =
      subst (λ (p : Place). IsRefusal a (refusal.Syntax p)) (sym (place_same i)) (syntax.IsRefusal.syntax_error i (stops_back i z) (λ g. n (grouped_forth i g)) (subst (λ (ts : List Token). banned_at ts i ≡ None) (sym same.tokens) c))
  refusal_back r (syntax.IsRefusal.mixed_fixity i z g) =
      subst (λ (p : Place). IsRefusal a (refusal.MixedFixity p)) (sym (place_same i)) (syntax.IsRefusal.mixed_fixity i (stops_back i z) (grouped_back i g))
  refusal_back r (syntax.IsRefusal.not_in_subset i form z n c) =
      subst (λ (p : Place). IsRefusal a (refusal.NotInSubset p form)) (sym (place_same i)) (syntax.IsRefusal.not_in_subset i form (stops_back i z) (λ g. n (grouped_forth i g)) (subst (λ (ts : List Token). banned_at ts i ≡ Some form) (sym same.tokens) c))
  refusal_back r (syntax.IsRefusal.too_deep made decs k p d e) =
      subst (λ (l : Place). IsRefusal a (refusal.TooDeep (get_or (starts b made) (get_or decs k 0) l))) same.end
      (subst (λ (ps : List Place). IsRefusal a (refusal.TooDeep (get_or ps (get_or decs k 0) a.end))) (sym (starts_same made)) (syntax.IsRefusal.too_deep made decs k (program_back made p) d e))

  pub one_tree : (s t : Tree) → IsParse a s → IsParse b t → AreSame s t
  one_tree s t h g = parse_once a s t h (parse_back t g)

  pub tree_or_refusal : (s : Tree) (r : Refusal) → IsParse a s → IsRefusal b r → ⊥
  tree_or_refusal s r h g = no_refusal a s r h (refusal_back r g)

  pub one_refusal : (q r : Refusal) → IsRefusal a q → IsRefusal b r → q ≡ r
  one_refusal q r h g = refusal_once a q r h (refusal_back r g)
