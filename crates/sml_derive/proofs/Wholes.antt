-- Programs: what was expanded is the expansion, and what comes of it.
use Rattle.std.proofs.Common.{◌≡◌, ℕ, suc, ◌<◌, ◌≤◌, ◌^◌, Bool, true, false, List, [], ◌++◌, length, cond, refl, sym, ap, subst, ◌∙◌, Some, None, arith}
use Rattle.std.specs.Prelude.{nat_lt}
use Rattle.std.proofs.lemmas.Bool.Decides.{nat_tests}
use Rattle.smlc_base.specs.declared.place.Place.{Place}
use Rattle.smlc_base.specs.declared.refusal.Refusal.{Refusal}
use Rattle.smlc_base.specs.declared.refusal.Refusal.TheVariants as refusal
use Rattle.sml_tree.specs.declared.bare.Bare.{Bare}
use Rattle.sml_tree.specs.declared.bare.Node.TheVariants as bare
use Rattle.sml_tree.specs.declared.tree.Tree.{Tree}
use Rattle.sml_tree.specs.BareParts.{IsNumbered}
use Rattle.sml_tree.specs.Width.{width, at_most}
use Rattle.sml_expansion.specs.declared.walk.Walk.{Walk}
use Rattle.sml_expansion.specs.Terms.{trees}
use Rattle.sml_expansion.specs.Sources.{Source}
use Rattle.sml_expansion.specs.Forests.{Forest, none, grown, numbered, places}
use Rattle.sml_expansion.specs.Marks.{marks}
use Rattle.sml_expansion.specs.Makings.{nothing_made}
use Rattle.sml_expansion.specs.Programs.{Top, Expansion, all_tops, program, lets, all_shown, end_of, no_place}
use Rattle.sml_expansion.specs.Whole.{IsExpansion, IsRefusal, breaks_rule, too_wide, expansion_of_tree, bare_of, broken, width_limit, first_user_place}
use Rattle.expansion_laws.specs.Laws.{AreReady}
use Rattle.expansion_laws.proofs.Clauses.{both_shaped, nodes_numbered, is_expansion}
use Rattle.sml_derive.specs.declared.program.Expanded.{Expanded}
use Rattle.sml_derive.specs.declared.top_trees.TopTree.{TopTree}
use Rattle.sml_derive.specs.Steps.{scope, marked}
use Rattle.sml_derive.specs.Tops.{all_trees, all_leads, ends, AreTops, AreAll, StandBefore, AreKnown, IsExpanded, named_long}
use Rattle.sml_derive.proofs.Schemas.{Is, same, is}
use Rattle.sml_derive.proofs.TopLemmas.{whole_known}
use Rattle.sml_derive.proofs.Links.{program_spells}
use Rattle.sml_derive.proofs.Roots.{source_of, source_with}

-- a walk before the program
abbrev start : Walk
start = record { made = nothing_made; bindings = record { values = []; types = []; tyvars = [] }; marks = [] }

starts : (w : Walk) → w.made ≡ nothing_made → w.bindings ≡ record { values = []; types = []; tyvars = [] } → w.marks ≡ [] → w ≡ start
starts w a b c =
    ap (λ m. record { made = m; bindings = w.bindings; marks = w.marks }) a
    ∙ ap (λ d. record { made = nothing_made; bindings = d; marks = w.marks }) b
    ∙ ap (λ l. record { made = nothing_made; bindings = record { values = []; types = []; tyvars = [] }; marks = l }) c

pub expanded_is : (library tree : Tree) (s0 s : Source) (e : Expanded) (w0 w1 w2 w3 w4 : Walk) (stood kept : List TopTree) (end : Place)
    → s0 ≡ source_with tree.names library → s ≡ source_of tree → w0.made ≡ nothing_made → w0.bindings ≡ record { values = []; types = []; tyvars = [] } → w0.marks ≡ []
    → StandBefore s0 (trees library.nodes library.places) w0 w1 [] stood → w2 ≡ named_long tree.names w1
    → AreTops s (trees tree.nodes tree.places) w2 w3 stood kept → end ≡ end_of no_place (trees tree.nodes tree.places)
    → w4 ≡ marked (marks (grown bare.Finish end none) ++ ends kept) w3
    → ((f : Forest) → w4.marks ≡ marks f → e.nodes ≡ numbered 0 f) → ((f : Forest) → w4.marks ≡ marks f → e.places ≡ places f)
    → ((end : Place) (tops : List Top) → AreKnown tops → e.nodes ≡ numbered 0 (program end tops) → kept ≡ all_trees tops → (e.decs ≡ lets 0 tops) × (e.shown ≡ all_shown 0 tops))
    → e.made ≡ w4.made → IsExpanded e (expansion_of_tree library tree)
expanded_is library tree s0 s e w0 w1 w2 w3 w4 stood kept end g h a b c before long t l f n p o m = step s0 s w0 w2 w4 (is g) (is h) (is (starts w0 a b c)) before (is long) t (is f) n p m
  where
    step : (s0 s : Source) (w0 w2 w4 : Walk) → Is (source_with tree.names library) s0 → Is (source_of tree) s → Is start w0 → StandBefore s0 (trees library.nodes library.places) w0 w1 [] stood → Is (named_long tree.names w1) w2
        → AreTops s (trees tree.nodes tree.places) w2 w3 stood kept → Is (marked (marks (grown bare.Finish end none) ++ ends kept) w3) w4
        → ((f : Forest) → w4.marks ≡ marks f → e.nodes ≡ numbered 0 f) → ((f : Forest) → w4.marks ≡ marks f → e.places ≡ places f) → e.made ≡ w4.made → IsExpanded e (expansion_of_tree library tree)
    step _ _ _ _ _ same same same before same own same n p m =
        let terms = trees tree.nodes tree.places in
        let firsts = trees library.nodes library.places in
        let sc = scope (source_of tree) start in
        let r = all_tops sc firsts terms nothing_made in
        let t : AreAll (source_with tree.names library) firsts terms start w3 [] kept = before terms w3 kept (record { made = own.made; marks = own.marks; trees = own.trees }) in
        let known : AreKnown r.0 = whole_known sc firsts terms nothing_made in
        let last = end_of no_place terms in
        let spelled : w3.marks ++ (marks (grown bare.Finish end none) ++ ends kept) ≡ marks (program last r.0) =
        ap (λ k. k ++ (marks (grown bare.Finish end none) ++ ends kept)) t.marks
        ∙ ap (λ k. all_leads r.0 ++ (marks (grown bare.Finish end none) ++ ends k)) t.trees
        ∙ ap (λ q. all_leads r.0 ++ (marks (grown bare.Finish q none) ++ ends (all_trees r.0))) l
        ∙ sym (program_spells last r.0 known) in
        let nodes = n (program last r.0) spelled in
        let found = o last r.0 known nodes t.trees in
        record { nodes = nodes; places = p (program last r.0) spelled; decs = found.0; shown = found.1; made = m ∙ t.made }

pub is_broken : (library tree : Tree) (e : Expanded) (r : Refusal) → IsExpanded e (expansion_of_tree library tree) → e.made.refusal ≡ Some r → IsRefusal library tree r
is_broken library tree e r x h = breaks_rule r (ap (λ m. m.refusal) (sym x.made) ∙ h)

pub is_kept : (library tree : Tree) (e : Expanded) → IsExpanded e (expansion_of_tree library tree) → e.made.refusal ≡ None → broken library tree ≡ None
is_kept library tree e x h = ap (λ m. m.refusal) (sym x.made) ∙ h

pub is_numbered : (library tree : Tree) (e : Expanded) → AreReady library tree → IsExpanded e (expansion_of_tree library tree) → e.made.refusal ≡ None → IsNumbered e.nodes
is_numbered library tree e ready x h = subst IsNumbered (sym x.nodes) (nodes_numbered library tree (both_shaped library tree ready) (is_kept library tree e x h))

most : (limit w x : ℕ) (b : Bool) → nat_lt limit w ≡ b → Some x ≡ cond b None (Some w) → (x ≡ w) × (w ≤ limit)
most limit w x true e h = cc
most limit w x false e h = let l : w ≤ limit = grind (arith, nat_tests) in let s : x ≡ w = cc in (s, l)

pub within_limit : (limit w x : ℕ) → Some x ≡ at_most limit w → (x ≡ w) × (w ≤ limit)
within_limit limit w x h = most limit w x (nat_lt limit w) refl h

above : (limit w : ℕ) (b : Bool) → nat_lt limit w ≡ b → None ≡ cond b None (Some w) → limit < w
above limit w true e h = grind (arith, nat_tests)
above limit w false e h = cc

pub is_wide : (library tree : Tree) (e : Expanded) (limit : ℕ) (p : Place) → IsExpanded e (expansion_of_tree library tree) → e.made.refusal ≡ None → limit ≡ width_limit → None ≡ at_most limit (width e.nodes e.places) → p ≡ first_user_place (trees tree.nodes tree.places) → IsRefusal library tree (refusal.TooWide p)
is_wide library tree e limit p x h l w q =
    let same_width : width e.nodes e.places ≡ (bare_of library tree).width = ap (λ n. width n e.places) x.nodes ∙ ap (λ n. width (expansion_of_tree library tree).nodes n) x.places in
    let more : limit < width e.nodes e.places = above limit (width e.nodes e.places) (nat_lt limit (width e.nodes e.places)) refl w in
    subst (λ k. IsRefusal library tree (refusal.TooWide k)) (sym q) (too_wide (is_kept library tree e x h) (subst (λ k. k < (bare_of library tree).width) l (subst (λ k. limit < k) same_width more)))

-- the bare tree of an expansion
abbrev bare_with : Expansion → List (List ℕ) → Bare
bare_with y texts = record { nodes = y.nodes; places = y.places; decs = y.decs; shown = y.shown; types = y.made.types; tyvars = y.made.tyvars; names = y.made.names; texts = texts; width = width y.nodes y.places }

same_bare : (e : Expanded) (y : Expansion) (texts all : List (List ℕ)) (w : ℕ) → IsExpanded e y → texts ≡ all → w ≡ width e.nodes e.places
    → record { nodes = e.nodes; places = e.places; decs = e.decs; shown = e.shown; types = e.made.types; tyvars = e.made.tyvars; names = e.made.names; texts = texts; width = w } ≡ bare_with y all
same_bare e y texts all w x t s =
    let a = x.nodes in let b = x.places in let c = x.decs in let d = x.shown in let f = x.made in
    let wide : w ≡ width y.nodes y.places = s ∙ ap (λ n. width n e.places) a ∙ ap (λ n. width y.nodes n) b in
    let types : e.made.types ≡ y.made.types = ap (λ m. m.types) f in
    let tyvars : e.made.tyvars ≡ y.made.tyvars = ap (λ m. m.tyvars) f in
    let names : e.made.names ≡ y.made.names = ap (λ m. m.names) f in
    cc

pub completed_is : (library tree : Tree) (e : Expanded) (texts : List (List ℕ)) (w : ℕ) → AreReady library tree → broken library tree ≡ None → IsExpanded e (expansion_of_tree library tree) → w ≡ width e.nodes e.places → w ≤ width_limit → texts ≡ tree.texts → suc (length e.nodes) < 2 ^ 32
    → IsExpansion library tree (record { nodes = e.nodes; places = e.places; decs = e.decs; shown = e.shown; types = e.made.types; tyvars = e.made.tyvars; names = e.made.names; texts = texts; width = w })
completed_is library tree e texts w ready kept x s narrow t few = is_expansion library tree _ ready few kept narrow (same_bare e (expansion_of_tree library tree) texts tree.texts w x t s)
