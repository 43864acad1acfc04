-- Declarations of the top level, and which of their trees are shown.
use Rattle.std.proofs.Common.{◌≡◌, ℕ, zero, suc, ◌+◌, Bool, true, false, List, [], ◌∷◌, ◌++◌, length, refl, sym, ap, subst, ◌∙◌, arith}
use Rattle.std.specs.Prelude.{Option, Some, None, if◌then◌else◌}
use Rattle.std.proofs.lemmas.List.{append_assoc, append-nil, length-append}
use Rattle.smlc_base.specs.declared.place.Place.{Place}
use Rattle.sml_tree.specs.declared.tree_node.TreeNode.TheVariants as node
use Rattle.sml_expansion.specs.declared.walk.Walk.{Walk}
use Rattle.sml_expansion.specs.declared.made.Made.{Made}
use Rattle.sml_expansion.specs.declared.meaning.Meaning.{Meaning}
use Rattle.sml_expansion.specs.declared.meaning.Meaning.TheVariants.{Variable, Constructor, Builtin}
use Rattle.sml_expansion.specs.declared.scope.Ident.{Ident}
use Rattle.sml_expansion.specs.Terms.{Term, leaf, one, two, three, four, node_of, place_at}
use Rattle.sml_expansion.specs.Sources.{Source, IsAt}
use Rattle.sml_expansion.specs.Scopes.{Scope, ident, meaning_of, within, with_long_identifiers}
use Rattle.sml_expansion.specs.Forests.{Forest, none, tree, count, ◌&◌}
use Rattle.sml_expansion.specs.Bindings.{ExDecs, exceptions, renaming_of, is_exception}
use Rattle.sml_expansion.specs.Expressions.{decs, shown_each}
use Rattle.sml_expansion.specs.Programs as whole
use Rattle.sml_expansion.specs.Programs.{tops}
use Rattle.sml_derive.specs.declared.top_trees.TopTree.{TopTree}
use Rattle.sml_derive.specs.Steps.{scope, led, hidden, Declares}
use Rattle.sml_derive.specs.Tops.{so_many, Shows, trees_of, all_trees, all_leads, IsTop, IsLibraryTop, AreTops, AreAll, StandBefore, AreAt, none_at, more_at, AreKnown}
use Rattle.sml_derive.proofs.Counting.{count_beside}
use Rattle.sml_derive.proofs.Schemas.{Is, same, is}
use Rattle.sml_derive.proofs.Declaring.{declares_behind, declares_inside}

shown_is : (b : Bool) (f : Forest) → shown_each b f ≡ so_many (count f) b
shown_is b none = refl
shown_is b (tree n p parts rest) = ap (λ l. b ∷ l) (shown_is b rest)

pub one_more : (n : ℕ) (b : Bool) → so_many n b ++ b ∷ [] ≡ so_many (n + 1) b
one_more n b = let e : suc n ≡ n + 1 = omega arith in go n ∙ ap (λ k. so_many k b) e
  where
    go : (n : ℕ) → so_many n b ++ b ∷ [] ≡ so_many (suc n) b
    go zero = refl
    go (suc n) = ap (λ l. b ∷ l) (go n)

pub noted : (old now next : List Bool) (n : ℕ) (b : Bool) → now ≡ old ++ so_many n b → next ≡ now ++ b ∷ [] → next ≡ old ++ so_many (n + 1) b
noted old now next n b e h = h ∙ ap (λ l. l ++ b ∷ []) e ∙ append_assoc old (so_many n b) (b ∷ []) ∙ ap (λ l. old ++ l) (one_more n b)

so_long : (n : ℕ) (b : Bool) → length (so_many n b) ≡ n
so_long zero b = refl
so_long (suc n) b = ap suc (so_long n b)

together : (n m : ℕ) (b : Bool) → so_many n b ++ so_many m b ≡ so_many (n + m) b
together zero m b = let e : m ≡ 0 + m = omega arith in ap (λ k. so_many k b) e
together (suc n) m b = let e : suc (n + m) ≡ suc n + m = omega arith in ap (λ l. b ∷ l) (together n m b) ∙ ap (λ k. so_many k b) e

-- exceptions are all shown
either : (P : ExDecs → Type 0) (b : Bool) (x y : ExDecs) → P x → P y → P (if b then x else y)
either P true x y h g = h
either P false x y h g = g

renaming_shown : (p : Place) (i : Ident) (x : ℕ) (m : Option Meaning) → (renaming_of p i x m).shown ≡ so_many (count (renaming_of p i x m).forest) true
renaming_shown p i x (Some (Constructor c)) = either (λ (e : ExDecs). e.shown ≡ so_many (count e.forest) true) (is_exception c) _ _ refl refl
renaming_shown p i x (Some (Variable y)) = refl
renaming_shown p i x (Some (Builtin y)) = refl
renaming_shown p i x None = refl

exceptions_shown : (s : Scope) (p : Place) (t : Term) (m : Made) → (exceptions s p t m).0.shown ≡ so_many (count (exceptions s p t m).0.forest) true
exceptions_shown s p (one node.ExBind q v) m = refl
exceptions_shown s p (two node.ExBindOf q v t) m = refl
exceptions_shown s p (two node.ExBindIs q v w) m = renaming_shown p (ident s.names v) _ (meaning_of s (ident s.names w).key)
exceptions_shown s p (two node.MoreExBinds q a b) m =
    let x = exceptions s p a m in
    let y = exceptions s p b x.1 in
    ap (λ l. l ++ y.0.shown) (exceptions_shown s p a m)
    ∙ ap (λ l. so_many (count x.0.forest) true ++ l) (exceptions_shown s p b x.1)
    ∙ together (count x.0.forest) (count y.0.forest) true
    ∙ ap (λ k. so_many k true) (sym (count_beside x.0.forest y.0.forest))
exceptions_shown s p (leaf n q) m = refl
exceptions_shown s p (one _ q a) m = refl
exceptions_shown s p (two _ q a b) m = refl
exceptions_shown s p (three n q a b c) m = refl
exceptions_shown s p (four n q a b c d) m = refl

-- any declaration but `local` and a sequence is shown throughout
pub all_shown : (s : Scope) (t : Term) (m : Made) → (node_of t ≡ node.MoreDecs → ⊥) → (node_of t ≡ node.Local → ⊥) → (decs s t m).0.shown ≡ so_many (count (decs s t m).0.forest) true
all_shown s (leaf n p) m f g = refl
all_shown s (one node.Type p x) m f g = refl
all_shown s (one node.Datatype p x) m f g = refl
all_shown s (one node.Exception p x) m f g = exceptions_shown s p x m
all_shown s (one _ p x) m f g = refl
all_shown s (two node.MoreDecs p x y) m f g = absurd (f refl)
all_shown s (two node.Local p x y) m f g = absurd (g refl)
all_shown s (two node.Val p x y) m f g = shown_is true (decs s (two node.Val p x y) m).0.forest
all_shown s (two node.Fun p x y) m f g = shown_is true (decs s (two node.Fun p x y) m).0.forest
all_shown s (two _ p x y) m f g = refl
all_shown s (three n p x y z) m f g = refl
all_shown s (four n p x y z v) m f g = refl

pub shows_alone : (s : Source) (t : Term) (w0 w1 : Walk) (n : ℕ) (was now : List Bool) → (node_of t ≡ node.MoreDecs → ⊥) → (node_of t ≡ node.Local → ⊥) → Declares (decs (scope s w0) t) w0 w1 n → now ≡ was ++ so_many n true → Shows (decs (scope s w0) t) w0 w1 was now
shows_alone s t w0 w1 n was now f g h e = record {
  walk = h.walk;
  shown = e ∙ ap (λ l. was ++ l) (ap (λ k. so_many k true) h.written ∙ sym (all_shown (scope s w0) t w0.made f g));
}

-- as many trees as are counted
declares : (s : Source) (t : Term) (w0 w1 : Walk) (was now : List Bool) → Shows (decs (scope s w0) t) w0 w1 was now → Declares (decs (scope s w0) t) w0 w1 (count (decs (scope s w0) t w0.made).0.forest)
declares s t w0 w1 was now h = record { walk = h.walk; written = refl }

pub shows_behind : (s : Source) (p : Place) (a b : Term) (w0 w1 w2 : Walk) (was mid now : List Bool) → Shows (decs (scope s w0) a) w0 w1 was mid → Shows (decs (scope s w1) b) w1 w2 mid now → Shows (decs (scope s w0) (two node.MoreDecs p a b)) w0 w2 was now
shows_behind s p a b w0 w1 w2 was mid now h g = record {
  walk = (declares_behind s p a b w0 w1 w2 _ _ _ (declares s a w0 w1 was mid h) (declares s b w1 w2 mid now g) refl).walk;
  shown = step w1 (is h.walk) g.shown;
}
  where
    step : (w1 : Walk) → Is (led (decs (scope s w0) a) w0) w1 → now ≡ mid ++ (decs (scope s w1) b w1.made).0.shown → now ≡ was ++ (decs (scope s w0) (two node.MoreDecs p a b) w0.made).0.shown
    step _ same e =
        let x = decs (scope s w0) a w0.made in
        let y = decs (within (scope s w0) x.0.env) b x.1 in
        e ∙ ap (λ l. l ++ y.0.shown) h.shown ∙ append_assoc was x.0.shown y.0.shown

pub shows_inside : (s : Source) (p : Place) (a b : Term) (w0 w1 w2 w3 : Walk) (i vs vi ts ti : ℕ) (was mid now : List Bool) → Declares (decs (scope s w0) a) w0 w1 i → mid ≡ was ++ so_many i false → Shows (decs (scope s w1) b) w1 w2 mid now
    → length w0.bindings.values ≡ vs → length w1.bindings.values ≡ vi → length w0.bindings.types ≡ ts → length w1.bindings.types ≡ ti
    → w3 ≡ record { made = w2.made; bindings = record { values = hidden vs vi w2.bindings.values; types = hidden ts ti w2.bindings.types; tyvars = w2.bindings.tyvars }; marks = w2.marks }
    → Shows (decs (scope s w0) (two node.Local p a b)) w0 w3 was now
shows_inside s p a b w0 w1 w2 w3 i vs vi ts ti was mid now h q g lv lw lt lu z = record {
  walk = (declares_inside s p a b w0 w1 w2 w3 i _ _ vs vi ts ti h (declares s b w1 w2 mid now g) refl lv lw lt lu z).walk;
  shown = step w1 (is h.walk) g.shown;
}
  where
    step : (w1 : Walk) → Is (led (decs (scope s w0) a) w0) w1 → now ≡ mid ++ (decs (scope s w1) b w1.made).0.shown → now ≡ was ++ (decs (scope s w0) (two node.Local p a b) w0.made).0.shown
    step _ same e =
        let x = decs (scope s w0) a w0.made in
        let y = decs (within (scope s w0) x.0.env) b x.1 in
        e
        ∙ ap (λ l. l ++ y.0.shown) (q ∙ ap (λ l. was ++ l) (ap (λ k. so_many k false) h.written ∙ sym (shown_is false x.0.forest)))
        ∙ append_assoc was (shown_each false x.0.forest) y.0.shown

-- what is left of a sequence of declarations
pub record LeftShown (s : Source) (t : Term) (before now : Walk) (was some : List Bool) (at : ℕ) : Type 0 where
  pub term : Term
  pub stands : IsAt s at term
  pub goes : (w : Walk) (all : List Bool) → Shows (decs (scope s now) term) now w some all → Shows (decs (scope s before) t) before w was all

pub begun_shown : (s : Source) (t : Term) (w : Walk) (was : List Bool) (at : ℕ) → IsAt s at t → LeftShown s t w w was was at
begun_shown s t w was at k = record { term = t; stands = k; goes = λ v all h. h }

pub one_shown_less : (s : Source) (t a b : Term) (p : Place) (before now next : Walk) (was some more : List Bool) (at rest : ℕ) (l : LeftShown s t before now was some at) → IsAt s rest b → l.term ≡ two node.MoreDecs p a b
    → Shows (decs (scope s now) a) now next some more → LeftShown s t before next was more rest
one_shown_less s t a b p before now next was some more at rest l k reads h = record {
  term = b;
  stands = k;
  goes = λ w all g. l.goes w all (subst (λ (u : Term). Shows (decs (scope s now) u) now w some all) (sym reads) (shows_behind s p a b now next w some more all h g));
}

-- ---- All declarations of a program

pub one_kept : (trees : List TopTree) (p : Place) (first : Bool) (each : Bool) (shown left : List Bool) (was : List TopTree) → left ≡ each ∷ shown → was ≡ trees ++ trees_of first p left → was ≡ (trees ++ record { place = p; first = first; shown = each } ∷ []) ++ trees_of false p shown
one_kept trees p first each shown left was e h = h ∙ ap (λ l. trees ++ trees_of first p l) e ∙ sym (append_assoc trees (record { place = p; first = first; shown = each } ∷ []) (trees_of false p shown))

tops_more : (s : Source) (t : Term) (terms : List Term) (w0 w1 w2 : Walk) (was mid now : List TopTree) → IsTop s t w0 w1 was mid → AreTops s terms w1 w2 mid now → AreTops s (t ∷ terms) w0 w2 was now
tops_more s t terms w0 w1 w2 was mid now h g = step w1 (is h.walk) g.made g.marks g.trees
  where
    step : (w1 : Walk) → Is (led (decs (scope s w0) t) w0) w1 → w2.made ≡ (tops (scope s w1) terms w1.made).1 → w2.marks ≡ w1.marks ++ all_leads (tops (scope s w1) terms w1.made).0 → now ≡ mid ++ all_trees (tops (scope s w1) terms w1.made).0
        → AreTops s (t ∷ terms) w0 w2 was now
    step _ same a b c =
        let x = decs (scope s w0) t w0.made in
        let r = tops (within (scope s w0) x.0.env) terms x.1 in
        record {
          made = a;
          marks = b ∙ append_assoc w0.marks _ (all_leads r.0);
          trees = c ∙ ap (λ l. l ++ all_trees r.0) h.trees ∙ append_assoc was (trees_of true (place_at t) x.0.shown) (all_trees r.0);
        }

-- what is left of them
pub record LeftTops (s : Source) (terms : List Term) (before now : Walk) (was some : List TopTree) (left : List ℕ) : Type 0 where
  pub others : List Term
  pub stand : AreAt s left others
  pub goes : (w : Walk) (all : List TopTree) → AreTops s others now w some all → AreTops s terms before w was all

pub begun_tops : (s : Source) (terms : List Term) (w : Walk) (was : List TopTree) (left : List ℕ) → AreAt s left terms → LeftTops s terms w w was was left
begun_tops s terms w was left k = record { others = terms; stand = k; goes = λ v all h. h }

pub one_top_less : (s : Source) (terms : List Term) (before now next : Walk) (was some more : List TopTree) (at : ℕ) (left rest : List ℕ) → left ≡ at ∷ rest → LeftTops s terms before now was some left
    → ((t : Term) → IsAt s at t → IsTop s t now next some more) → LeftTops s terms before next was more rest
one_top_less s terms before now next was some more at left rest e l h = step l.others (subst (λ k. AreAt s k l.others) e l.stand) l.goes
  where
    step : (others : List Term) → AreAt s (at ∷ rest) others → ((w : Walk) (all : List TopTree) → AreTops s others now w some all → AreTops s terms before w was all) → LeftTops s terms before next was more rest
    step _ (more_at _ t _ ts k others) goes = record { others = ts; stand = others; goes = λ w all g. goes w all (tops_more s t ts now next w some more all (h t k) g) }

pub no_tops_left : (s : Source) (terms : List Term) (before now : Walk) (was some : List TopTree) (left : List ℕ) → left ≡ [] → LeftTops s terms before now was some left → AreTops s terms before now was some
no_tops_left s terms before now was some left e l = step l.others (subst (λ k. AreAt s k l.others) e l.stand) l.goes
  where
    step : (others : List Term) → AreAt s [] others → ((w : Walk) (all : List TopTree) → AreTops s others now w some all → AreTops s terms before w was all) → AreTops s terms before now was some
    step _ none_at goes = goes now some (record { made = refl; marks = sym (append-nil now.marks); trees = sym (append-nil some) })

-- ---- The declarations of the library

pub library_top_is : (s : Source) (t : Term) (w0 w1 : Walk) (n : ℕ) (was now : List TopTree) (shown : List Bool) (p : Place) → Declares (decs (scope s w0) t) w0 w1 n → shown ≡ [] ++ so_many n false → p ≡ place_at t → now ≡ was ++ trees_of true p shown → IsLibraryTop s t w0 w1 was now
library_top_is s t w0 w1 n was now shown p h e q k = record {
  walk = h.walk;
  trees = k ∙ ap (λ z. was ++ trees_of true z shown) q ∙ ap (λ l. was ++ trees_of true (place_at t) l) (e ∙ ap (λ m. so_many m false) h.written ∙ sym (shown_is false (decs (scope s w0) t w0.made).0.forest));
}

library_more : (s : Source) (t : Term) (library terms : List Term) (w0 w1 w2 : Walk) (was mid now : List TopTree) → IsLibraryTop s t w0 w1 was mid → AreAll s library terms w1 w2 mid now → AreAll s (t ∷ library) terms w0 w2 was now
library_more s t library terms w0 w1 w2 was mid now h g = step w1 (is h.walk) g.made g.marks g.trees
  where
    step : (w1 : Walk) → Is (led (decs (scope s w0) t) w0) w1 → w2.made ≡ (whole.all_tops (scope s w1) library terms w1.made).1 → w2.marks ≡ w1.marks ++ all_leads (whole.all_tops (scope s w1) library terms w1.made).0 → now ≡ mid ++ all_trees (whole.all_tops (scope s w1) library terms w1.made).0
        → AreAll s (t ∷ library) terms w0 w2 was now
    step _ same a b c =
        let x = decs (scope s w0) t w0.made in
        let r = whole.all_tops (within (scope s w0) x.0.env) library terms x.1 in
        record {
          made = a;
          marks = b ∙ append_assoc w0.marks _ (all_leads r.0);
          trees = c ∙ ap (λ l. l ++ all_trees r.0) h.trees ∙ append_assoc was (trees_of true (place_at t) (shown_each false x.0.forest)) (all_trees r.0);
        }

-- what is left of them
pub record LeftLibrary (s : Source) (library : List Term) (before now : Walk) (was some : List TopTree) (left : List ℕ) : Type 0 where
  pub others : List Term
  pub stand : AreAt s left others
  pub goes : (terms : List Term) (w : Walk) (all : List TopTree) → AreAll s others terms now w some all → AreAll s library terms before w was all

pub begun_library : (s : Source) (library : List Term) (w : Walk) (was : List TopTree) (left : List ℕ) → AreAt s left library → LeftLibrary s library w w was was left
begun_library s library w was left k = record { others = library; stand = k; goes = λ terms v all h. h }

pub one_library_less : (s : Source) (library : List Term) (before now next : Walk) (was some more : List TopTree) (at : ℕ) (left rest : List ℕ) → left ≡ at ∷ rest → LeftLibrary s library before now was some left
    → ((t : Term) → IsAt s at t → IsLibraryTop s t now next some more) → LeftLibrary s library before next was more rest
one_library_less s library before now next was some more at left rest e l h = step l.others (subst (λ k. AreAt s k l.others) e l.stand) l.goes
  where
    step : (others : List Term) → AreAt s (at ∷ rest) others → ((terms : List Term) (w : Walk) (all : List TopTree) → AreAll s others terms now w some all → AreAll s library terms before w was all) → LeftLibrary s library before next was more rest
    step _ (more_at _ t _ ts k others) goes = record { others = ts; stand = others; goes = λ terms w all g. goes terms w all (library_more s t ts terms now next w some more all (h t k) g) }

pub no_library_left : (s : Source) (library : List Term) (before now : Walk) (was some : List TopTree) (left : List ℕ) → left ≡ [] → LeftLibrary s library before now was some left → StandBefore s library before now was some
no_library_left s library before now was some left e l = step l.others (subst (λ k. AreAt s k l.others) e l.stand) l.goes
  where
    step : (others : List Term) → AreAt s [] others → ((terms : List Term) (w : Walk) (all : List TopTree) → AreAll s others terms now w some all → AreAll s library terms before w was all) → StandBefore s library before now was some
    step _ none_at goes = goes

-- for each tree of a declaration it is known whether it is shown
known : (s : Scope) (t : Term) (m : Made) → length (decs s t m).0.shown ≡ count (decs s t m).0.forest
known s (two node.MoreDecs p a b) m =
    let x = decs s a m in
    let y = decs (within s x.0.env) b x.1 in
    let i : length x.0.shown ≡ count x.0.forest = known s a m in
    let j : length y.0.shown ≡ count y.0.forest = known (within s x.0.env) b x.1 in
    let k : length (x.0.shown ++ y.0.shown) ≡ length x.0.shown + length y.0.shown = length-append x.0.shown y.0.shown in
    let c : count (x.0.forest & y.0.forest) ≡ count x.0.forest + count y.0.forest = count_beside x.0.forest y.0.forest in
    omega (arith, i, j, k, c)
known s (two node.Local p a b) m =
    let x = decs s a m in
    let y = decs (within s x.0.env) b x.1 in
    let i : length (shown_each false x.0.forest) ≡ count x.0.forest = ap length (shown_is false x.0.forest) ∙ so_long (count x.0.forest) false in
    let j : length y.0.shown ≡ count y.0.forest = known (within s x.0.env) b x.1 in
    let k : length (shown_each false x.0.forest ++ y.0.shown) ≡ length (shown_each false x.0.forest) + length y.0.shown = length-append (shown_each false x.0.forest) y.0.shown in
    let c : count (x.0.forest & y.0.forest) ≡ count x.0.forest + count y.0.forest = count_beside x.0.forest y.0.forest in
    omega (arith, i, j, k, c)
known s (leaf n p) m = refl
known s (one node.Type p x) m = refl
known s (one node.Datatype p x) m = refl
known s (one node.Exception p x) m = ap length (exceptions_shown s p x m) ∙ so_long _ true
known s (one _ p x) m = refl
known s (two node.Val p x y) m = ap length (shown_is true (decs s (two node.Val p x y) m).0.forest) ∙ so_long _ true
known s (two node.Fun p x y) m = ap length (shown_is true (decs s (two node.Fun p x y) m).0.forest) ∙ so_long _ true
known s (two _ p x y) m = refl
known s (three n p x y z) m = refl
known s (four n p x y z v) m = refl

pub all_known : (s : Scope) (terms : List Term) (m : Made) → AreKnown (tops s terms m).0
all_known s [] m = tt
all_known s (t ∷ terms) m = let x = decs s t m in (known s t m, all_known (within s x.0.env) terms x.1)

-- and likewise with the library before them
pub whole_known : (s : Scope) (library terms : List Term) (m : Made) → AreKnown (whole.all_tops s library terms m).0
whole_known s [] terms m = all_known (with_long_identifiers s) terms m
whole_known s (t ∷ library) terms m = let x = decs s t m in (ap length (shown_is false x.0.forest) ∙ so_long (count x.0.forest) false, whole_known (within s x.0.env) library terms x.1)
