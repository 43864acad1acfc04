-- The nest of the top level along its `Let` nodes.
use Rattle.std.proofs.Common.{◌≡◌, ℕ, suc, ◌+◌, ◌&&◌, Bool, true, false, List, [], ◌∷◌, ◌++◌, length, get_or, refl, sym, ap, subst, ◌∙◌, Some, arith, if◌then◌else◌}
use Rattle.std.specs.Prelude.{slice_get}
use Rattle.std.proofs.lemmas.List.{append_assoc, append-nil}
use Rattle.smlc_base.specs.declared.place.Place.{Place}
use Rattle.sml_tree.specs.declared.bare.Node.{Node}
use Rattle.sml_tree.specs.declared.bare.Node.TheVariants as bare
use Rattle.sml_tree.specs.IsBare as is
use Rattle.sml_expansion.specs.Forests.{Forest, none, tree, grown, count, size, roots, numbered, with_parts}
use Rattle.sml_expansion.specs.Bare.{nest}
use Rattle.sml_expansion.specs.Marks.{marks}
use Rattle.sml_expansion.specs.Programs.{Top, program, nested, outermost, lets, is_value, shown_in, all_shown}
use Rattle.expansion_laws.proofs.Positions.{At, at_whole}
use Rattle.sml_derive.specs.declared.top_trees.TopTree.{TopTree}
use Rattle.sml_derive.specs.Forms.{times, let_end}
use Rattle.sml_derive.specs.Steps.{leads}
use Rattle.sml_derive.specs.Tops.{trees_of, all_trees, all_leads, ends, AreKnown}
use Rattle.sml_derive.proofs.Times.{times_last}
use Rattle.sml_derive.proofs.Nests.{nest_spells}

-- ---- The marks of a program

ends_behind : (a b : List TopTree) → ends (a ++ b) ≡ ends b ++ ends a
ends_behind [] b = sym (append-nil (ends b))
ends_behind (t ∷ a) b = ap (λ l. l ++ let_end t.place) (ends_behind a b) ∙ append_assoc (ends b) (ends a) (let_end t.place)

ends_of : (first : Bool) (p : Place) (shown : List Bool) → ends (trees_of first p shown) ≡ times (length shown) (let_end p)
ends_of first p [] = refl
ends_of first p (b ∷ shown) = ap (λ l. l ++ let_end p) (ends_of false p shown) ∙ times_last (length shown) (let_end p)

pub program_spells : (end : Place) (tops : List Top) → AreKnown tops → marks (program end tops) ≡ all_leads tops ++ (marks (grown bare.Finish end none) ++ ends (all_trees tops))
program_spells end [] k = sym (append-nil (marks (grown bare.Finish end none)))
program_spells end (t ∷ tops) k =
    let fin = marks (grown bare.Finish end none) in
    nest_spells t.place t.forest (program end tops)
    ∙ ap (λ l. leads t.forest ++ (l ++ times (count t.forest) (let_end t.place))) (program_spells end tops k.1)
    ∙ ap (λ n. leads t.forest ++ ((all_leads tops ++ (fin ++ ends (all_trees tops))) ++ times n (let_end t.place))) (sym k.0)
    ∙ ap (λ l. leads t.forest ++ ((all_leads tops ++ (fin ++ ends (all_trees tops))) ++ l)) (sym (ends_of true t.place t.shown))
    ∙ ap (λ l. leads t.forest ++ l) (append_assoc (all_leads tops) (fin ++ ends (all_trees tops)) (ends (trees_of true t.place t.shown)))
    ∙ ap (λ l. leads t.forest ++ (all_leads tops ++ l)) (append_assoc fin (ends (all_trees tops)) (ends (trees_of true t.place t.shown)) ∙ ap (λ l. fin ++ l) (sym (ends_behind (trees_of true t.place t.shown) (all_trees tops))))
    ∙ sym (append_assoc (leads t.forest) (all_leads tops) (fin ++ ends (all_trees (t ∷ tops))))

-- ---- The `Let` nodes one behind the other

-- a declaration tree of the nest: what is kept of it, its node and how many nodes its parts are
record Link : Type 0 where
  top : TopTree
  node : Node
  size : ℕ

abbrev links_of : Bool → Place → Forest → List Bool → List Link
links_of first p (tree n q parts rest) (b ∷ shown) = record { top = record { place = p; first = first; shown = b }; node = n; size = size parts } ∷ links_of false p rest shown
links_of first p _ _ = []

abbrev links : List Top → List Link
links [] = []
links (t ∷ tops) = links_of true t.place t.forest t.shown ++ links tops

abbrev next : ℕ → Link → ℕ
next i l = suc (suc (i + l.size))

abbrev firsts : ℕ → List Link → List ℕ
firsts i [] = []
firsts i (l ∷ ls) = (if l.top.first then i ∷ [] else []) ++ firsts (next i l) ls

abbrev values : ℕ → List Link → List ℕ
values i [] = []
values i (l ∷ ls) = (if l.top.shown && is_value l.node then suc i ∷ [] else []) ++ values (next i l) ls

abbrev behind : ℕ → List Link → ℕ
behind i [] = i
behind i (l ∷ ls) = behind (next i l) ls

-- they stand there
abbrev Stand : List Node → ℕ → List Link → Type 0
Stand nodes i [] = Unit {0}
Stand nodes i (l ∷ ls) = (slice_get nodes i ≡ Some (bare.Let (suc i) (next i l))) × (is.is_value (slice_get nodes (suc i)) ≡ is_value l.node) × Stand nodes (next i l) ls

firsts_behind : (i : ℕ) (a b : List Link) → firsts i (a ++ b) ≡ firsts i a ++ firsts (behind i a) b
firsts_behind i [] b = refl
firsts_behind i (l ∷ a) b =
    let x = if l.top.first then i ∷ [] else [] in
    ap (λ r. x ++ r) (firsts_behind (next i l) a b) ∙ sym (append_assoc x (firsts (next i l) a) (firsts (behind (next i l) a) b))

values_behind : (i : ℕ) (a b : List Link) → values i (a ++ b) ≡ values i a ++ values (behind i a) b
values_behind i [] b = refl
values_behind i (l ∷ a) b =
    let x = if l.top.shown && is_value l.node then suc i ∷ [] else [] in
    ap (λ r. x ++ r) (values_behind (next i l) a b) ∙ sym (append_assoc x (values (next i l) a) (values (behind (next i l) a) b))

stand_behind : (nodes : List Node) (i : ℕ) (a b : List Link) → Stand nodes i a → Stand nodes (behind i a) b → Stand nodes i (a ++ b)
stand_behind nodes i [] b h g = g
stand_behind nodes i (l ∷ a) b h g = (h.0, h.1, stand_behind nodes (next i l) a b h.2 g)

abbrev kept : List Link → List TopTree
kept [] = []
kept (l ∷ ls) = l.top ∷ kept ls

kept_behind : (a b : List Link) → kept (a ++ b) ≡ kept a ++ kept b
kept_behind [] b = refl
kept_behind (l ∷ a) b = ap (λ r. l.top ∷ r) (kept_behind a b)

none_less : (i : ℕ) → i + 0 ≡ i
none_less i = omega arith

-- one declaration
behind_of : (first : Bool) (p : Place) (i : ℕ) (f : Forest) (shown : List Bool) → length shown ≡ count f → behind i (links_of first p f shown) ≡ i + nested f
behind_of first p i none [] e = sym (none_less i)
behind_of first p i none (b ∷ shown) e = absurd (omega (arith, e))
behind_of first p i (tree n q parts rest) [] e = absurd (omega (arith, e))
behind_of first p i (tree n q parts rest) (b ∷ shown) e =
    let h : behind (suc (suc (i + size parts))) (links_of false p rest shown) ≡ suc (suc (i + size parts)) + nested rest = behind_of false p (suc (suc (i + size parts))) rest shown (omega (arith, e)) in
    omega (arith, h)

kept_of : (first : Bool) (p : Place) (f : Forest) (shown : List Bool) → length shown ≡ count f → kept (links_of first p f shown) ≡ trees_of first p shown
kept_of first p none [] e = refl
kept_of first p none (b ∷ shown) e = absurd (omega (arith, e))
kept_of first p (tree n q parts rest) [] e = absurd (omega (arith, e))
kept_of first p (tree n q parts rest) (b ∷ shown) e = ap (λ l. record { place = p; first = first; shown = b } ∷ l) (kept_of false p rest shown (omega (arith, e)))

no_firsts : (p : Place) (i : ℕ) (f : Forest) (shown : List Bool) → firsts i (links_of false p f shown) ≡ []
no_firsts p i none shown = refl
no_firsts p i (tree n q parts rest) [] = refl
no_firsts p i (tree n q parts rest) (b ∷ shown) = no_firsts p (suc (suc (i + size parts))) rest shown

firsts_of : (p : Place) (i : ℕ) (f : Forest) (shown : List Bool) → length shown ≡ count f → firsts i (links_of true p f shown) ≡ outermost i f
firsts_of p i none shown e = refl
firsts_of p i (tree n q parts rest) [] e = absurd (omega (arith, e))
firsts_of p i (tree n q parts rest) (b ∷ shown) e = ap (λ l. i ∷ l) (no_firsts p (suc (suc (i + size parts))) rest shown)

values_of : (first : Bool) (p : Place) (i : ℕ) (f : Forest) (shown : List Bool) → values i (links_of first p f shown) ≡ shown_in i f shown
values_of first p i none shown = refl
values_of first p i (tree n q parts rest) [] = refl
values_of first p i (tree n q parts rest) (b ∷ shown) = ap (λ l. (if b && is_value n then suc i ∷ [] else []) ++ l) (values_of false p (suc (suc (i + size parts))) rest shown)

abbrev Rooted : Forest → Type 0
Rooted t = (j : ℕ) → get_or (roots j t) 0 0 ≡ j

rooted_nest : (q : Place) (d e : Forest) → Rooted e → Rooted (nest q d e)
rooted_nest q none e h = h
rooted_nest q (tree n r parts rest) e h = λ j. refl

rooted_program : (q : Place) (tops : List Top) → Rooted (program q tops)
rooted_program q [] = λ j. refl
rooted_program q (t ∷ tops) = rooted_nest t.place t.forest (program q tops) (rooted_program q tops)

second_root : (i : ℕ) (t : Forest) (j : ℕ) → Rooted t → get_or (i ∷ roots j t) 1 0 ≡ j
second_root i t j h = h j

value_same : (n : Node) (rs : List ℕ) → is.is_value (Some (with_parts n rs)) ≡ is_value n
value_same (bare.Val vs bindings) rs = refl
value_same (bare.ValRec vs bindings) rs = refl
value_same _ rs = refl

stand_of : (nodes : List Node) (first : Bool) (p : Place) (f e : Forest) (shown : List Bool) (i : ℕ) → Rooted e → At nodes i (nest p f e) → Stand nodes i (links_of first p f shown)
stand_of nodes first p none e shown i r at = tt
stand_of nodes first p (tree n q parts rest) e [] i r at = tt
stand_of nodes first p (tree n q parts rest) e (b ∷ shown) i r at =
    let z : suc (suc i + size parts) ≡ suc (suc (i + size parts)) = omega arith in (
      at.0 ∙ ap (λ k. Some (bare.Let (suc i) k)) (second_root (suc i) (nest p rest e) (suc (suc i + size parts)) (rooted_nest p rest e r) ∙ z),
      ap is.is_value at.1.0 ∙ value_same n (roots (suc (suc i)) parts),
      stand_of nodes false p rest e shown (suc (suc (i + size parts))) r (subst (λ k. At nodes k (nest p rest e)) z at.1.2),
    )

at_end : (nodes : List Node) (q : Place) (f e : Forest) (i : ℕ) → At nodes i (nest q f e) → At nodes (i + nested f) e
at_end nodes q none e i at = subst (λ k. At nodes k e) (sym (none_less i)) at
at_end nodes q (tree n r parts rest) e i at =
    let z : suc (suc i + size parts) + nested rest ≡ i + (suc (suc (size parts)) + nested rest) = omega arith in
    subst (λ k. At nodes k e) z (at_end nodes q rest e (suc (suc i + size parts)) at.1.2)

-- all of them
all_stand : (nodes : List Node) (end : Place) (tops : List Top) (i : ℕ) → AreKnown tops → At nodes i (program end tops) → Stand nodes i (links tops)
all_stand nodes end [] i k at = tt
all_stand nodes end (t ∷ tops) i k at =
    stand_behind nodes i (links_of true t.place t.forest t.shown) (links tops)
    (stand_of nodes true t.place t.forest (program end tops) t.shown i (rooted_program end tops) at)
    (subst (λ j. Stand nodes j (links tops)) (sym (behind_of true t.place i t.forest t.shown k.0)) (all_stand nodes end tops (i + nested t.forest) k.1 (at_end nodes t.place t.forest (program end tops) i at)))

all_firsts : (tops : List Top) (i : ℕ) → AreKnown tops → firsts i (links tops) ≡ lets i tops
all_firsts [] i k = refl
all_firsts (t ∷ tops) i k =
    firsts_behind i (links_of true t.place t.forest t.shown) (links tops)
    ∙ ap (λ l. l ++ firsts (behind i (links_of true t.place t.forest t.shown)) (links tops)) (firsts_of t.place i t.forest t.shown k.0)
    ∙ ap (λ j. outermost i t.forest ++ firsts j (links tops)) (behind_of true t.place i t.forest t.shown k.0)
    ∙ ap (λ l. outermost i t.forest ++ l) (all_firsts tops (i + nested t.forest) k.1)

all_values : (tops : List Top) (i : ℕ) → AreKnown tops → values i (links tops) ≡ all_shown i tops
all_values [] i k = refl
all_values (t ∷ tops) i k =
    values_behind i (links_of true t.place t.forest t.shown) (links tops)
    ∙ ap (λ l. l ++ values (behind i (links_of true t.place t.forest t.shown)) (links tops)) (values_of true t.place i t.forest t.shown)
    ∙ ap (λ j. shown_in i t.forest t.shown ++ values j (links tops)) (behind_of true t.place i t.forest t.shown k.0)
    ∙ ap (λ l. shown_in i t.forest t.shown ++ l) (all_values tops (i + nested t.forest) k.1)

all_kept : (tops : List Top) → AreKnown tops → kept (links tops) ≡ all_trees tops
all_kept [] k = refl
all_kept (t ∷ tops) k =
    kept_behind (links_of true t.place t.forest t.shown) (links tops)
    ∙ ap (λ l. l ++ kept (links tops)) (kept_of true t.place t.forest t.shown k.0)
    ∙ ap (λ l. trees_of true t.place t.shown ++ l) (all_kept tops k.1)

-- ---- Along the nest

-- what is left of it
pub record LeftLinks (nodes : List Node) (tops : List Top) (left : List TopTree) (at : ℕ) (decs shown : List ℕ) : Type 0 where
  links : List Link
  trees : left ≡ kept links
  stand : Stand nodes at links
  lets : lets 0 tops ≡ decs ++ firsts at links
  values : all_shown 0 tops ≡ shown ++ values at links

pub begun_links : (nodes : List Node) (end : Place) (tops : List Top) (left : List TopTree) (decs shown : List ℕ) → AreKnown tops → nodes ≡ numbered 0 (program end tops) → left ≡ all_trees tops → decs ≡ [] → shown ≡ [] → LeftLinks nodes tops left 0 decs shown
begun_links nodes end tops left decs shown k e h a b = record {
  links = links tops;
  trees = h ∙ sym (all_kept tops k);
  stand = all_stand nodes end tops 0 k (subst (λ l. At l 0 (program end tops)) (sym e) (at_whole (program end tops)));
  lets = sym (all_firsts tops 0 k) ∙ ap (λ l. l ++ firsts 0 (links tops)) (sym a);
  values = sym (all_values tops 0 k) ∙ ap (λ l. l ++ values 0 (links tops)) (sym b);
}

pub one_link_less : (nodes : List Node) (tops : List Top) (left rest : List TopTree) (x : TopTree) (at dec after : ℕ) (decs shown more_decs more_shown : List ℕ) → left ≡ x ∷ rest → LeftLinks nodes tops left at decs shown
    → ((d r : ℕ) → slice_get nodes at ≡ Some (bare.Let d r) → (dec ≡ d) × (after ≡ r))
    → more_decs ≡ decs ++ (if x.first then at ∷ [] else []) → more_shown ≡ shown ++ (if x.shown && is.is_value (slice_get nodes dec) then dec ∷ [] else [])
    → LeftLinks nodes tops rest after more_decs more_shown
one_link_less nodes tops left rest x at dec after decs shown more_decs more_shown e l h a b = step l.links (sym e ∙ l.trees) l.stand l.lets l.values
  where
    step : (ls : List Link) → x ∷ rest ≡ kept ls → Stand nodes at ls → lets 0 tops ≡ decs ++ firsts at ls → all_shown 0 tops ≡ shown ++ values at ls → LeftLinks nodes tops rest after more_decs more_shown
    step [] t s f v = cc
    step (k ∷ ls) t s f v =
        let one : x ≡ k.top = cc in
        let others : rest ≡ kept ls = cc in
        let (d, n) = h (suc at) (suc (suc (at + k.size))) s.0 in
        record {
          links = ls;
          trees = others;
          stand = subst (λ j. Stand nodes j ls) (sym n) s.2;
          lets = f ∙ ap (λ j. decs ++ ((if k.top.first then at ∷ [] else []) ++ firsts j ls)) (sym n) ∙ ap (λ (y : TopTree). decs ++ ((if y.first then at ∷ [] else []) ++ firsts after ls)) (sym one) ∙ sym (append_assoc decs (if x.first then at ∷ [] else []) (firsts after ls)) ∙ ap (λ l. l ++ firsts after ls) (sym a);
          values =
              v
              ∙ ap (λ c. shown ++ ((if k.top.shown && c then suc at ∷ [] else []) ++ values (suc (suc (at + k.size))) ls)) (sym s.1)
              ∙ ap (λ j. shown ++ ((if k.top.shown && is.is_value (slice_get nodes (suc at)) then suc at ∷ [] else []) ++ values j ls)) (sym n)
              ∙ ap (λ j. shown ++ ((if k.top.shown && is.is_value (slice_get nodes j) then j ∷ [] else []) ++ values after ls)) (sym d)
              ∙ ap (λ (y : TopTree). shown ++ ((if y.shown && is.is_value (slice_get nodes dec) then dec ∷ [] else []) ++ values after ls)) (sym one)
              ∙ sym (append_assoc shown (if x.shown && is.is_value (slice_get nodes dec) then dec ∷ [] else []) (values after ls))
              ∙ ap (λ l. l ++ values after ls) (sym b);
        }

pub all_linked : (nodes : List Node) (tops : List Top) (left : List TopTree) (at : ℕ) (decs shown : List ℕ) → left ≡ [] → LeftLinks nodes tops left at decs shown → (decs ≡ lets 0 tops) × (shown ≡ all_shown 0 tops)
all_linked nodes tops left at decs shown e l = step l.links (sym e ∙ l.trees) l.lets l.values
  where
    step : (ls : List Link) → [] ≡ kept ls → lets 0 tops ≡ decs ++ firsts at ls → all_shown 0 tops ≡ shown ++ values at ls → (decs ≡ lets 0 tops) × (shown ≡ all_shown 0 tops)
    step [] t f v = (sym (append-nil decs) ∙ sym f, sym (append-nil shown) ∙ sym v)
    step (k ∷ ls) t f v = cc
