-- What the bare tree of a program keeps, clause by clause.
use Rattle.std.proofs.Common.{◌≡◌, ℕ, zero, suc, ◌<◌, ◌≤◌, ◌+◌, ◌^◌, true, false, eq-eqb, List, [], ◌∷◌, length, refl, sym, ap, subst, ◌∙◌, Some, None, arith}
use Rattle.std.specs.Prelude.{Bool, slice_get, flat_map, count_by, ◌||◌}
use Rattle.std.specs.List.{AllByRecursion}
use Rattle.std.proofs.lemmas.List.{append-nil, length-append}
use Rattle.sml_tree.specs.declared.bare.Bare.{Bare}
use Rattle.sml_tree.specs.declared.bare.Node.{Node}
use Rattle.sml_tree.specs.declared.bare.Node.TheVariants as node
use Rattle.sml_tree.specs.declared.bare.TypeExp.{TypeExp}
use Rattle.sml_tree.specs.declared.bare.TypeExp.TheVariants as type
use Rattle.sml_tree.specs.declared.tree.Tree.{Tree}
use Rattle.sml_tree.specs.BareParts.{IsNumbered, at_node, node_parts, from_parts}
use Rattle.sml_tree.specs.IsBare as spec
use Rattle.sml_tree.specs.IsBare.{IsPreorder, HasSorts, IsDistinct, names_at, TypeStands, is_function, function_of, Stands, nest_of, is_finish, IsAscending, IsBare, Consecutive, type_names_at}
use Rattle.sml_tree.specs.Free.{free}
use Rattle.sml_tree.specs.Sets.{has}
use Rattle.sml_tree.proofs.FreeParts.{free_unfold}
use Rattle.sml_tree.proofs.Unfold.{by_parts}
use Rattle.sml_expansion.specs.Forests.{Forest, none, grown, numbered, roots, with_parts}
use Rattle.sml_expansion.specs.Makings.{nothing_made}
use Rattle.sml_expansion.specs.declared.made.Made.{Made}
use Rattle.smlc_base.specs.declared.place.Place.{Place}
use Rattle.sml_expansion.specs.Programs.{Top, all_tops, program, end_of, no_place}
use Rattle.sml_expansion.specs.Terms.{trees}
use Rattle.sml_expansion.specs.Whole.{bare_of, broken, width_limit, IsExpansion}
use Rattle.expansion_laws.proofs.Forms as f
use Rattle.expansion_laws.proofs.Forms.{Is}
use Rattle.expansion_laws.proofs.Growing.{TypeIn, TypesFrom}
use Rattle.expansion_laws.proofs.Kinded.{Kinded, Dec}
use Rattle.expansion_laws.proofs.Standing.{tree_shaped}
use Rattle.expansion_laws.specs.Laws.{AreReady, ExpandsToBare}
use Rattle.expansion_laws.proofs.Positions.{At, at_whole, how_many, how_many_places, all_numbered, Fit, is_numbered, is_preorder}
use Rattle.expansion_laws.proofs.Sorts.{fit_of, sort_of_part}
use Rattle.expansion_laws.proofs.Spans.{Span, spans_of, distinct, all_tree}
use Rattle.sml_tree.proofs.Consecutive.{stands_among}
use Rattle.expansion_laws.proofs.Bound.{bound_of}
use Rattle.expansion_laws.proofs.Stands.{stands_of, base_stands}
use Rattle.expansion_laws.proofs.Nests.{nest_is, ends_once, all_lets, lets_are, decs_are, first_is, shown_are}
use Rattle.expansion_laws.proofs.ProgramsDone.{ProgramIs, program_done, types_done, start, start_scope, sizes_of}

-- the trees of a parse tree stand where the grammar has them
pub record IsShaped (l t : Tree) : Type 0 where
  pub library : AllByRecursion (Kinded (length t.texts) Dec) (trees l.nodes l.places)
  pub program : AllByRecursion (Kinded (length t.texts) Dec) (trees t.nodes t.places)

-- the declarations of both
abbrev pub tops_of : Tree → Tree → List Top × Made
tops_of l t = all_tops (start_scope t.names) (trees l.nodes l.places) (trees t.nodes t.places) nothing_made

-- the place of the end
abbrev pub end_place : Tree → Place
end_place t = end_of no_place (trees t.nodes t.places)

function_parts : (g h : ℕ → Bool) (i : ℕ) (n : Node) → AllByRecursion (λ c. g c ≡ h c) (node_parts n) → function_of g i n ≡ function_of h i n
function_parts g h i (node.Typed e ty) a = a.0
function_parts g h i _ a = refl

-- the forest of a program
abbrev pub forest_of : Tree → Tree → Forest
forest_of l t = program (end_place t) (tops_of l t).0

pub forest_is : (l t : Tree) → IsShaped l t → broken l t ≡ None → ProgramIs (sizes_of (length t.texts) (tops_of l t).1) start nothing_made (tops_of l t).1 (forest_of l t)
forest_is l t h e = program_done t.names (length t.texts) (trees l.nodes l.places) (trees t.nodes t.places) h.library h.program e (end_place t)

no_member : (xs : List ℕ) → ((x : ℕ) → has xs x ≡ true → ⊥) → xs ≡ []
no_member [] h = refl
no_member (x ∷ xs) h = absurd (h x (ap (λ w. w || has xs x) (eq-eqb x x refl)))

module _ (l t : Tree) (shaped : IsShaped l t) (kept : broken l t ≡ None) where
  fits : let p = forest_is l t shaped kept in Fit (grown p.node p.place p.parts)
  fits = let p = forest_is l t shaped kept in let d = fit_of (f.program p.node) p.parts p.is in (d.0, d.1, tt)

  pub nodes_numbered : IsNumbered (bare_of l t).nodes
  nodes_numbered = let p = forest_is l t shaped kept in subst (λ x. IsNumbered (numbered 0 x)) (sym p.same) (is_numbered (grown p.node p.place p.parts) fits)

  pub in_preorder : IsPreorder (bare_of l t).nodes
  in_preorder = let p = forest_is l t shaped kept in subst (λ x. IsPreorder (numbered 0 x)) (sym p.same) (is_preorder p.node p.place p.parts fits)

  pub places_stand : length (bare_of l t).places ≡ length (bare_of l t).nodes
  places_stand = how_many_places (forest_of l t) ∙ sym (how_many 0 (forest_of l t))

  function_by_parts : (i : ℕ) (n : Node) → slice_get (bare_of l t).nodes i ≡ Some n → is_function (bare_of l t).nodes i ≡ function_of (is_function (bare_of l t).nodes) i n
  function_by_parts i n e = by_parts false function_of (λ x y. x ≡ y) refl function_parts (bare_of l t).nodes nodes_numbered i ∙ ap (at_node false function_of (is_function (bare_of l t).nodes) i) e

  names_are : Span 0 (length (bare_of l t).names) (flat_map names_at (bare_of l t).nodes)
  names_are =
      let p = forest_is l t shaped kept in
      let d = spans_of (f.program p.node) p.parts p.is in
      subst (λ x. Span 0 (length (bare_of l t).names) (flat_map names_at (numbered 0 x))) (sym p.same)
      (subst (Span 0 (length (bare_of l t).names)) (sym (all_tree names_at 0 p.node p.place p.parts none)) (subst (Span 0 (length (bare_of l t).names)) (sym (append-nil _)) (d _ 1).names))

  pub names_once : IsDistinct (flat_map names_at (bare_of l t).nodes)
  names_once = distinct 0 (flat_map names_at (bare_of l t).nodes) names_are.from

  pub names_somewhere : (x : ℕ) → x < length (bare_of l t).names → has (flat_map names_at (bare_of l t).nodes) x ≡ true
  names_somewhere x q =
      let e = names_are.end in
      let z : 0 + x ≡ x = omega arith in
      subst (λ y. has (flat_map names_at (bare_of l t).nodes) y ≡ true) z (stands_among x 0 (flat_map names_at (bare_of l t).nodes) (omega (arith, q, e)) names_are.from)

  pub sorts_stand : AllByRecursion (HasSorts (bare_of l t).nodes) (bare_of l t).nodes
  sorts_stand =
      let p = forest_is l t shaped kept in
      let nodes = (bare_of l t).nodes in
      let whole : At nodes 0 (grown p.node p.place p.parts) = subst (λ x. At (numbered 0 x) 0 (grown p.node p.place p.parts)) (sym p.same) (at_whole (grown p.node p.place p.parts)) in
      let d = (sort_of_part nodes function_by_parts (f.program p.node) p.parts p.is).1 1 whole.1 in
      let each : AllByRecursion (HasSorts nodes) (numbered 0 (grown p.node p.place p.parts)) = all_numbered (HasSorts nodes) 0 (grown p.node p.place p.parts) (d.0, d.1, tt) in
      subst (λ x. AllByRecursion (HasSorts nodes) (numbered 0 x)) (sym p.same) each

  types_at : (n i : ℕ) (ts : List TypeExp) → TypesFrom (length (bare_of l t).tyvars) i ts → (j : ℕ) (u : TypeExp) → slice_get ts j ≡ Some u → TypeIn (length (bare_of l t).tyvars) (i + j) u
  types_at n i [] h j u e = cc
  types_at n i (x ∷ ts) h zero u e =
      let same : x ≡ u = cc in let z : i + 0 ≡ i = omega arith in
      subst (λ k. TypeIn (length (bare_of l t).tyvars) k u) (sym z) (subst (TypeIn (length (bare_of l t).tyvars) i) same h.0)
  types_at n i (x ∷ ts) h (suc j) u e =
      let z : i + suc j ≡ suc i + j = omega arith in
      subst (λ k. TypeIn (length (bare_of l t).tyvars) k u) (sym z) (types_at n (suc i) ts h.1 j u e)

  stands_type : (i : ℕ) (u : TypeExp) → TypeIn (length (bare_of l t).tyvars) i u → TypeStands (bare_of l t) i u
  stands_type i (type.Var v) h = h
  stands_type i (type.Record fields) h = h
  stands_type i (type.Arrow a b) h = h
  stands_type i (type.Named n args) h = h
  stands_type i (type.Abbreviation n args) h = h
  stands_type i (type.UnitOf args) h = h

  pub types_stand : (i : ℕ) (u : TypeExp) → slice_get (bare_of l t).types i ≡ Some u → TypeStands (bare_of l t) i u
  types_stand i u e =
      let z : 0 + i ≡ i = omega arith in
      stands_type i u (subst (λ k. TypeIn (length (bare_of l t).tyvars) k u) z (types_at 0 0 (bare_of l t).types (types_done t.names (length t.texts) (trees l.nodes l.places) (trees t.nodes t.places) shaped.library shaped.program) i u e))

  pub whole_at : let p = forest_is l t shaped kept in At (bare_of l t).nodes 0 (grown p.node p.place p.parts)
  whole_at = let p = forest_is l t shaped kept in subst (λ x. At (numbered 0 x) 0 (grown p.node p.place p.parts)) (sym p.same) (at_whole (grown p.node p.place p.parts))

  pub names_bound : free (bare_of l t).nodes 0 ≡ []
  names_bound =
      let p = forest_is l t shaped kept in
      let nodes = (bare_of l t).nodes in
      let at = whole_at in
      let d = bound_of nodes nodes_numbered start (f.program p.node) p.parts p.is 1 at.1 in
      no_member (free nodes 0) (λ x h. d x (sym (ap (λ s. has s x) (free_unfold nodes nodes_numbered 0 (with_parts p.node (roots 1 p.parts)) at.0)) ∙ h))

  pub declared_all : Consecutive 10 (flat_map type_names_at (bare_of l t).nodes)
  declared_all =
      let p = forest_is l t shaped kept in
      let d = spans_of (f.program p.node) p.parts p.is in
      subst (λ x. Consecutive 10 (flat_map type_names_at (numbered 0 x))) (sym p.same)
      (subst (Consecutive 10) (sym (all_tree type_names_at 0 p.node p.place p.parts none)) (subst (Consecutive 10) (sym (append-nil _)) (d _ 1).datas.from))

  pub nodes_stand : AllByRecursion (Stands (bare_of l t)) (bare_of l t).nodes
  nodes_stand =
      let p = forest_is l t shaped kept in
      let at = whole_at in
      let d = stands_of (bare_of l t) declared_all start (f.program p.node) p.parts p.is (record { vars = λ x a. absurd a; cons = base_stands (bare_of l t) declared_all }) (omega arith) 1 at.1 in
      let each : AllByRecursion (Stands (bare_of l t)) (numbered 0 (grown p.node p.place p.parts)) = all_numbered (Stands (bare_of l t)) 0 (grown p.node p.place p.parts) (d.0, d.1, tt) in
      subst (λ x. AllByRecursion (Stands (bare_of l t)) (numbered 0 x)) (sym p.same) each

  pub one_nest : from_parts false nest_of (bare_of l t).nodes 0 ≡ true
  one_nest = let r = tops_of l t in nest_is (bare_of l t).nodes nodes_numbered (end_place t) r.0 0 (at_whole (forest_of l t))

  pub one_end : count_by is_finish (bare_of l t).nodes ≡ 1
  one_end = let p = forest_is l t shaped kept in ap (λ x. count_by is_finish (numbered 0 x)) p.same ∙ ends_once p.node p.place p.parts p.is

  lets_all : spec.lets (bare_of l t).nodes ≡ all_lets 0 (tops_of l t).0
  lets_all = let r = tops_of l t in lets_are (bare_of l t).nodes nodes_numbered (end_place t) r.0 0 (at_whole (forest_of l t))

  pub decs_stand : IsAscending 0 (bare_of l t).decs × AllByRecursion (λ i. has (spec.lets (bare_of l t).nodes) i ≡ true) (bare_of l t).decs
  decs_stand =
      let r = tops_of l t in
      subst (λ ls. IsAscending 0 (bare_of l t).decs × AllByRecursion (λ i. has ls i ≡ true) (bare_of l t).decs) (sym lets_all) (decs_are r.0)

  pub first_dec_stands : slice_get (bare_of l t).decs 0 ≡ slice_get (spec.lets (bare_of l t).nodes) 0
  first_dec_stands = let r = tops_of l t in first_is 0 r.0 ∙ ap (λ l. slice_get l 0) (sym lets_all)

  pub shown_stand : IsAscending 0 (bare_of l t).shown × AllByRecursion (λ d. has (spec.values (bare_of l t).nodes) d ≡ true) (bare_of l t).shown
  shown_stand = let r = tops_of l t in shown_are (bare_of l t).nodes (end_place t) r.0 (at_whole (forest_of l t)) lets_all

  pub is_bare : suc (length (bare_of l t).nodes) < 2 ^ 32 → (bare_of l t).width ≤ width_limit → IsBare (bare_of l t)
  is_bare few narrow = record {
    few = few;
    numbered = nodes_numbered;
    preorder = in_preorder;
    places = places_stand;
    sorts = sorts_stand;
    stands = nodes_stand;
    types = types_stand;
    bound = names_bound;
    once = names_once;
    somewhere = names_somewhere;
    declared = declared_all;
    nest = one_nest;
    end = one_end;
    decs = decs_stand;
    first_dec = first_dec_stands;
    shown = shown_stand;
    width = refl;
    narrow = omega (arith, narrow);
  }

-- the trees of both, with the texts of the program's
pub both_shaped : (l t : Tree) → AreReady l t → IsShaped l t
both_shaped l t ready =
    let more = ready.continues.texts in
    let e = ap length more.1 ∙ length-append l.texts more.0 in
    record { library = tree_shaped l (length t.texts) (omega (arith, e)) ready.library_chars; program = tree_shaped t (length t.texts) (omega arith) ready.chars }

-- the whole law
pub expands_to_bare : (l t : Tree) → ExpandsToBare l t
expands_to_bare l t ready few kept narrow = is_bare l t (both_shaped l t ready) kept few narrow

-- what is the bare tree of trees that break no rule is their expansion
pub is_expansion : (l t : Tree) (b : Bare) → AreReady l t → suc (length b.nodes) < 2 ^ 32 → broken l t ≡ None → b.width ≤ width_limit → b ≡ bare_of l t → IsExpansion l t b
is_expansion l t b ready few kept narrow same =
    let counted = subst (λ (x : Bare). suc (length x.nodes) < 2 ^ 32) same few in
    let within = subst (λ (x : Bare). x.width ≤ width_limit) same narrow in
    record { kept = kept; narrow = within; same = same; is_bare = subst IsBare (sym same) (expands_to_bare l t ready counted kept within) }
