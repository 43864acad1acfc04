-- Patterns expand to patterns.
use Rattle.std.proofs.Common.{◌≡◌, ℕ, ◌+◌, true, false, List, [], ◌∷◌, ◌++◌, map, length, refl, sym, subst, Option, Some, None, arith, if◌then◌else◌}
use Rattle.std.specs.Prelude.{Bool, ◌==◌}
use Rattle.std.proofs.lemmas.Bool.{eq-eqb}
use Rattle.std.proofs.lemmas.List.{length-append, length-map, map-append}
use Rattle.smlc_base.specs.declared.place.Place.{Place}
use Rattle.smlc_base.specs.declared.refusal.Refusal.{Refusal}
use Rattle.smlc_base.specs.declared.refusal.Refusal.TheVariants as refusal
use Rattle.sml_tree.specs.declared.bare.Lab.{Lab}
use Rattle.sml_expansion.specs.declared.made.Made.{Made}
use Rattle.sml_expansion.specs.declared.meaning.Meaning.{Meaning}
use Rattle.sml_expansion.specs.declared.meaning.Meaning.TheVariants.{Variable, Constructor, Builtin}
use Rattle.sml_expansion.specs.declared.scope.Ident.{Ident}
use Rattle.sml_expansion.specs.declared.scope.Bound.{Bound}
use Rattle.sml_expansion.specs.Forests.{Forest, count, ◌&◌}
use Rattle.sml_expansion.specs.Terms.{Term}
use Rattle.sml_expansion.specs.Labels.{lab_eq, doubles}
use Rattle.sml_expansion.specs.Makings.{Makes, breaks, gives, ◌>>=◌, ◌>>◌}
use Rattle.sml_expansion.specs.Scopes.{Scope, ident, text_of, meaning_of, is_fixed}
use Rattle.sml_expansion.specs.Types.{labels, labels_once, type_of}
use Rattle.sml_expansion.specs.Bare as bare
use Rattle.sml_expansion.specs.Patterns.{Pattern, plain, beside, under, binds, identifier, applied, layer, layered, under_type, no_long, no_constructor, single, patterns}
use Rattle.expansion_laws.proofs.Contexts.{Context, MeaningIn, ScopeIn}
use Rattle.expansion_laws.proofs.Forms as f
use Rattle.expansion_laws.proofs.Forms.{Sizes, Quiet, Names, LabelsOnce, Is, before, after}
use Rattle.expansion_laws.proofs.Growing.{Grows, grows_both, breaks_grows, breaks_quiet, breaks_nothing, name_grows, name_names, TyvarsIn, tyvars_on, ends_back, Done, done_same, done_so, done_both, done_behind, done_before}
use Rattle.expansion_laws.proofs.Joined.{counted_patterns, join_patterns, one_pattern, con_pattern_form}
use Rattle.expansion_laws.proofs.Derived.{no_doubles, record_pattern_form, tuple_pattern_form, list_pattern_form}
use Rattle.expansion_laws.proofs.Meanings.{meaning_in}
use Rattle.expansion_laws.proofs.Kinded as k
use Rattle.expansion_laws.proofs.Kinded.{Kind, Kinded, Pat, Pats, PatRows, Label, Ty}
use Rattle.expansion_laws.proofs.TypesDone.{type_made}

abbrev pub names_in : List Bound → List ℕ
names_in vars = map (λ v. v.name) vars

abbrev pub IsPatterns : Sizes → Made → Pattern × Made → ℕ → Context → Type 0
IsPatterns z m r j g = Is z g m r.1 (f.patterns j (names_in r.0.vars)) r.0.forest

abbrev pub PatDone : Sizes → Scope → Made → Pattern × Made → Type 0
PatDone z s m r = Done z s m r.1 (IsPatterns z m r 1)

abbrev pub PatMakes : Sizes → Scope → Makes Pattern → Type 0
PatMakes z s q = (m : Made) → TyvarsIn s m → PatDone z s m (q m)

-- a refusal stands at the end
pub refused : {A : Type 0} (r : Refusal) (m : Made) → (breaks (r ∷ []) m).1.refusal ≡ None → A
refused r m e = let h : r ∷ [] ≡ [] = breaks_nothing (r ∷ []) m e in absurd cc

pub binds_grows : (names : List (List ℕ)) (i : Ident) (m : Made) → Grows m (binds names i m).1
binds_grows names i m =
    let rs = if is_fixed (text_of names i.key) then refusal.BadBinding i.place ∷ [] else [] in
    grows_both (breaks_grows rs m) (name_grows (text_of names i.key) (breaks rs m).1)

pub binds_names : (names : List (List ℕ)) (i : Ident) (m : Made) → Names m ((binds names i m).0.name ∷ []) (binds names i m).1
binds_names names i m =
    let rs = if is_fixed (text_of names i.key) then refusal.BadBinding i.place ∷ [] else [] in
    let d = name_names (text_of names i.key) (breaks rs m).1 in
    record { from = d.from; names = d.names; datas = d.datas }

-- what o stands for is in scope
abbrev pub OptionIn : Scope → Option Meaning → Type 0
OptionIn s o = (g : Context) → ScopeIn g s → (v : Meaning) → o ≡ Some v → MeaningIn g v

pub option_in : (s : Scope) (x : ℕ) → OptionIn s (meaning_of s x)
option_in s x = λ g i v e. meaning_in g s i x v e

module _ (z : Sizes) (s : Scope) where
  fresh_or_long : (m : Made) (names : List (List ℕ)) (p : Place) (i : Ident) (r : Refusal) (b : Bool) → PatDone z s m ((if b then ◌>>◌ (breaks (r ∷ [])) (gives (plain (bare.wild_node p))) else ◌>>=◌ (binds names i) (λ v. gives (record { forest = bare.var_pattern p v.name; vars = v ∷ [] }))) m)
  fresh_or_long m names p i r true = record { grows = breaks_grows (r ∷ []) m; says = λ e g v. refused r m e.kept }
  fresh_or_long m names p i r false =
      record { grows = binds_grows names i m; says = λ e g v. one_pattern p (f.variable_pattern (binds names i m).0.name (binds_names names i m)) }

  pub identifier_done : (m : Made) (p : Place) (i : Ident) (o : Option Meaning) → OptionIn s o → PatDone z s m (identifier s.names p i o m)
  identifier_done m p i None h = fresh_or_long m s.names p i (no_long None i) i.long
  identifier_done m p i (Some (Variable x)) h = fresh_or_long m s.names p i (no_long (Some (Variable x)) i) i.long
  identifier_done m p i (Some (Builtin x)) h = fresh_or_long m s.names p i (no_long (Some (Builtin x)) i) i.long
  identifier_done m p i (Some (Constructor c)) h = done_same (λ g v. con_pattern_form p c (h g v (Constructor c) refl))

  applied_done : (m k : Made) (p : Place) (i : Ident) (o : Option Meaning) (q : Pattern) → OptionIn s o → PatDone z s m (q, k) → PatDone z s m (applied p i o q k)
  applied_done m k p i (Some (Constructor c)) q h d = done_so d (λ g v x. one_pattern p (f.apply_pattern c (h g v (Constructor c) refl) x))
  applied_done m k p i None q h d = let r = no_constructor None i in done_before d (breaks_grows (r ∷ []) k) (λ e g x. refused r k e.kept)
  applied_done m k p i (Some (Variable x)) q h d = let r = no_constructor (Some (Variable x)) i in done_before d (breaks_grows (r ∷ []) k) (λ e g x. refused r k e.kept)
  applied_done m k p i (Some (Builtin x)) q h d = let r = no_constructor (Some (Builtin x)) i in done_before d (breaks_grows (r ∷ []) k) (λ e g x. refused r k e.kept)

  layer_form : {g : Context} {m k n : Made} (p : Place) (x : ℕ) (o : Option Meaning) {xs : List ℕ} {t : Forest} → Names m (x ∷ []) k → Is z g k n (f.patterns 1 xs) t → Is z g m n (f.patterns 1 (x ∷ xs)) (layer p x o t)
  layer_form p x (Some (Constructor c)) e h = one_pattern p (f.con_as_pattern x e h)
  layer_form p x None e h = one_pattern p (f.as_pattern x e h)
  layer_form p x (Some (Variable y)) e h = one_pattern p (f.as_pattern x e h)
  layer_form p x (Some (Builtin y)) e h = one_pattern p (f.as_pattern x e h)

  layered_done : (p : Place) (i : Ident) (q : Makes Pattern) → PatMakes z s q → PatMakes z s (layered s p i q)
  layered_done p i q d m v = done_behind v (binds_grows s.names i m) (d (binds s.names i m).1) (λ e g x. layer_form p (binds s.names i m).0.name (meaning_of s i.key) (binds_names s.names i m) x)

  under_type_done : (p : Place) (t : Term) (q : Makes Pattern) → Kinded z.texts Ty t → PatMakes z s q → PatMakes z s (under_type s p t q)
  under_type_done p t q h d m v =
      let y = type_made s t h m v in
      let x = d (type_of s t m).1 (tyvars_on s.tyvars y.grows v) in
      record {
        grows = grows_both y.grows x.grows;
        says = λ e g i. let b = ends_back x.grows e in
            one_pattern p (f.typed_pattern (type_of s t m).0 (let a = y.number in let c = b.types in omega (arith, a, c)) (before y.quiet (x.says e g i)));
      }

  two_patterns : {g : Context} {m k n : Made} {i j : ℕ} (x y : Pattern) → Is z g m k (f.patterns i (names_in x.vars)) x.forest → Is z g k n (f.patterns j (names_in y.vars)) y.forest
      → Is z g m n (f.patterns (i + j) (names_in (x.vars ++ y.vars))) (x.forest & y.forest)
  two_patterns {g} {m} {k} {n} {i} {j} x y a b =
      subst (λ l. Is z g m n (f.patterns (i + j) l) (x.forest & y.forest)) (sym (map-append (λ v. v.name) x.vars y.vars)) (join_patterns a b)

-- some number of patterns
abbrev pub SomePatterns : Sizes → Made → Pattern × Made → Context → Type 0
SomePatterns z m r g = (j : ℕ) × IsPatterns z m r j g

abbrev pub PatsMade : Sizes → Kind → Scope → Term → Type 0
PatsMade z Pat s t = PatMakes z s (patterns s t)
PatsMade z Pats s t = (m : Made) → TyvarsIn s m → let r = patterns s t m in Done z s m r.1 (SomePatterns z m r)
PatsMade z PatRows s t = (m : Made) → TyvarsIn s m → let r = patterns s t m in Done z s m r.1 (IsPatterns z m r (length (labels s.names t)))
PatsMade z _ s t = Unit {0}

-- steps of lists
module _ (z : Sizes) (s : Scope) where
  pub first_and_others : (m : Made) (q u : Makes Pattern) → TyvarsIn s m → PatDone z s m (q m) → (TyvarsIn s (q m).1 → let r = u (q m).1 in Done z s (q m).1 r.1 (SomePatterns z (q m).1 r)) → let x = q m in let y = u x.1 in Done z s m y.1 (SomePatterns z m (beside x.0 y.0, y.1))
  first_and_others m q u v d e = done_both v d e (λ g x y. (1 + y.0, two_patterns z s (q m).0 (u (q m).1).0 x y.1))

  pub list_done : (m n : Made) (p : Place) (q : Pattern) → Done z s m n (SomePatterns z m (q, n)) → PatDone z s m (under (bare.list_pattern p) q, n)
  list_done m n p q d = done_so d (λ g v x. list_pattern_form p v.base x.0 x.1)

  pub tuple_done : (m n : Made) (p : Place) (q : Pattern) → Done z s m n (SomePatterns z m (q, n)) → PatDone z s m (under (bare.tuple_pattern p) q, n)
  tuple_done m n p q d = done_so d (λ g v x. tuple_pattern_form p x.1)

  pub one_done : (m : Made) (r : Pattern × Made) → PatDone z s m r → Done z s m r.1 (SomePatterns z m r)
  one_done m r d = done_so d (λ g v x. (1, x))

  -- the one pattern between parentheses or in a row
  single_done : (p : Place) (q : Makes Pattern) (m : Made) → PatDone z s m (q m) → PatDone z s m (single p q m)
  single_done p q m d = done_so d (λ g v x.
      let one : (count (q m).0.forest == 1) ≡ true = eq-eqb (count (q m).0.forest) 1 (counted_patterns x) in
      subst (λ b. IsPatterns z m ((if b then (q m).0 else under (λ t. bare.wild_node p) (q m).0), (q m).1) 1 g) (sym one) x)

  record_done : (p : Place) (labs : List (Lab × Place)) (q : Makes Pattern) (m : Made) → TyvarsIn s m → ((k : Made) → TyvarsIn s k → Done z s k (q k).1 (IsPatterns z k (q k) (length labs)))
      → PatDone z s m (◌>>◌ (labels_once labs) (◌>>=◌ q (λ x. gives (under (bare.record_pattern p (map (λ l. l.0) labs)) x))) m)
  record_done p labs q m v d =
      let rs = doubles lab_eq [] labs in
      let k = (breaks rs m).1 in
      done_behind v (breaks_grows rs m) (d k)
      (λ e g x. record_pattern_form p (map (λ l. l.0) labs) (no_doubles [] labs (breaks_nothing rs m e.kept))
      (subst (λ j. Is z g m (q k).1 (f.patterns j (names_in (q k).0.vars)) (q k).0.forest) (sym (length-map labs (λ l. l.0))) (before (breaks_quiet rs m) x)))

  infix_done : (p : Place) (i : Ident) (q u : Makes Pattern) (m : Made) → TyvarsIn s m → PatMakes z s q → PatMakes z s u
      → PatDone z s m (◌>>=◌ q (λ x. ◌>>=◌ u (λ y. applied p i (meaning_of s i.key) (under (bare.tuple_pattern p) (beside x y)))) m)
  infix_done p i q u m v d e =
      applied_done z s m _ p i (meaning_of s i.key) _ (option_in s i.key)
      (tuple_done m (u (q m).1).1 p (beside (q m).0 (u (q m).1).0) (first_and_others m q u v (d m v) (λ w. one_done (q m).1 (u (q m).1) (e (q m).1 w))))

  rows_done : (i j n : ℕ) (m : Made) (q u : Makes Pattern) → n ≡ i + j → TyvarsIn s m → Done z s m (q m).1 (IsPatterns z m (q m) i) → (TyvarsIn s (q m).1 → let r = u (q m).1 in Done z s (q m).1 r.1 (IsPatterns z (q m).1 r j))
      → let x = q m in let y = u x.1 in Done z s m y.1 (IsPatterns z m (beside x.0 y.0, y.1) n)
  rows_done i j n m q u e v d c = done_both v d c (λ g x y. let x' = two_patterns z s (q m).0 (u (q m).1).0 x y in subst (λ l. IsPatterns z m (beside (q m).0 (u (q m).1).0, (u (q m).1).1) l g) (sym e) x')

  counted_as : (m : Made) (r : Pattern × Made) (n : ℕ) → n ≡ 1 → PatDone z s m r → Done z s m r.1 (IsPatterns z m r n)
  counted_as m r n e d = done_so d (λ g v x. subst (λ l. IsPatterns z m r l g) (sym e) x)

-- a label is one
pub one_label : {texts : ℕ} (names : List (List ℕ)) (t : Term) → Kinded texts Label t → length (labels names t) ≡ 1
one_label names t (k.label x p) = refl
one_label names t (k.label_number i p) = refl

pub patterns_made : (z : Sizes) (c : Kind) (s : Scope) (t : Term) → Kinded z.texts c t → PatsMade z c s t
patterns_made z c s t (k.pat_vid x p) = λ m v. identifier_done z s m p (ident s.names t) (meaning_of s x.0) (option_in s x.0)
patterns_made z c s t (k.pat_long_vid x p) = λ m v. identifier_done z s m p (ident s.names t) (meaning_of s x.0) (option_in s x.0)
patterns_made z c s t (k.pat_op p a) = λ m v. identifier_done z s m p (ident s.names a) (meaning_of s (ident s.names a).key) (option_in s (ident s.names a).key)
patterns_made z c s t (k.pat_int i p h) = λ m v. done_same (λ g w. one_pattern p (f.int_pattern i h))
patterns_made z c s t (k.pat_char x p h) = λ m v. done_same (λ g w. one_pattern p (f.char_pattern x h))
patterns_made z c s t (k.pat_text x p h) = λ m v. done_same (λ g w. one_pattern p (f.text_pattern x h))
patterns_made z c s t (k.wild p) = λ m v. done_same (λ g w. one_pattern p f.is_wild)
patterns_made z c s t (k.pat_unit p) = λ m v. done_same (λ g w. tuple_pattern_form p f.no_pattern)
patterns_made z c s t (k.pat_empty_record p) = λ m v. done_same (λ g w. tuple_pattern_form p f.no_pattern)
patterns_made z c s t (k.pat_empty_list p) = λ m v. done_same (λ g w. list_pattern_form p w.base 0 f.no_pattern)
patterns_made z c s t (k.pat_paren p {a} h) = λ m v. single_done z s p (patterns s a) m (patterns_made z Pat s a h m v)
patterns_made z c s t (k.pat_list p {a} h) = λ m v. list_done z s m (patterns s a m).1 p (patterns s a m).0 (patterns_made z Pats s a h m v)
patterns_made z c s t (k.pat_record p {a} h) = λ m v. record_done z s p (labels s.names a) (patterns s a) m v (patterns_made z PatRows s a h)
patterns_made z c s t (k.pat_tuple p {a} {b} h i) = λ m v.
    tuple_done z s m _ p (beside (patterns s a m).0 (patterns s b (patterns s a m).1).0) (first_and_others z s m (patterns s a) (patterns s b) v (patterns_made z Pat s a h m v) (patterns_made z Pats s b i (patterns s a m).1))
patterns_made z c s t (k.con_pat p d {a} h) = λ m v.
    applied_done z s m (patterns s a m).1 p (ident s.names d) (meaning_of s (ident s.names d).key) (patterns s a m).0 (option_in s (ident s.names d).key) (patterns_made z Pat s a h m v)
patterns_made z c s t (k.typed_pat p {a} {t = u} h i) = under_type_done z s p u (patterns s a) i (patterns_made z Pat s a h)
patterns_made z c s t (k.layered p w {a} h) = layered_done z s p (ident s.names w) (patterns s a) (patterns_made z Pat s a h)
patterns_made z c s t (k.infix_pat p {a} {b} w h i) = λ m v. infix_done z s p (ident s.names w) (patterns s a) (patterns s b) m v (patterns_made z Pat s a h) (patterns_made z Pat s b i)
patterns_made z c s t (k.typed_layered p w {t = u} {a} h i) = layered_done z s p (ident s.names w) (under_type s p u (patterns s a)) (under_type_done z s p u (patterns s a) h (patterns_made z Pat s a i))
patterns_made z c s t (k.one_pat h) = λ m v. one_done z s m (patterns s t m) (patterns_made z Pat s t h m v)
patterns_made z c s t (k.more_pats p {a} {b} h i) = λ m v. first_and_others z s m (patterns s a) (patterns s b) v (patterns_made z Pat s a h m v) (patterns_made z Pats s b i (patterns s a m).1)
patterns_made z c s t (k.more_atpats p {a} {b} h i) = λ m v. first_and_others z s m (patterns s a) (patterns s b) v (patterns_made z Pat s a h m v) (patterns_made z Pats s b i (patterns s a m).1)
patterns_made z c s t (k.pat_row p {l} {a} h i) = λ m v. counted_as z s m (single p (patterns s a) m) (length (labels s.names l)) (one_label s.names l h) (single_done z s p (patterns s a) m (patterns_made z Pat s a i m v))
patterns_made z c s t (k.pun_row p {l} h) = λ m v.
    counted_as z s m (patterns s t m) (length (labels s.names l)) (one_label s.names l h) (identifier_done z s m p (ident s.names l) (meaning_of s (ident s.names l).key) (option_in s (ident s.names l).key))
patterns_made z c s t (k.typed_pun_row p {l} {t = u} h i) = λ m v.
    counted_as z s m (patterns s t m) (length (labels s.names l)) (one_label s.names l h)
    (under_type_done z s p u (identifier s.names p (ident s.names l) (meaning_of s (ident s.names l).key)) i (λ k w. identifier_done z s k p (ident s.names l) (meaning_of s (ident s.names l).key) (option_in s (ident s.names l).key)) m v)
patterns_made z c s t (k.pun_row_as p {l} {a} h i) = λ m v.
    counted_as z s m (patterns s t m) (length (labels s.names l)) (one_label s.names l h) (layered_done z s p (ident s.names l) (patterns s a) (patterns_made z Pat s a i) m v)
patterns_made z c s t (k.typed_pun_row_as p {l} {t = u} {a} h i j) = λ m v.
    counted_as z s m (patterns s t m) (length (labels s.names l)) (one_label s.names l h)
    (layered_done z s p (ident s.names l) (under_type s p u (patterns s a)) (under_type_done z s p u (patterns s a) i (patterns_made z Pat s a j)) m v)
patterns_made z c s t (k.more_pat_rows p {a} {b} h i) = λ m v.
    rows_done z s (length (labels s.names a)) (length (labels s.names b)) (length (labels s.names a ++ labels s.names b)) m (patterns s a) (patterns s b) (length-append (labels s.names a) (labels s.names b)) v
    (patterns_made z PatRows s a h m v) (patterns_made z PatRows s b i (patterns s a m).1)
patterns_made z c s t _ = tt
