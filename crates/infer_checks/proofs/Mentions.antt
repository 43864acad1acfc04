-- Type names that types mention, under substitutions.
use Rattle.std.proofs.Common.{◌≡◌, ℕ, Bool, true, false, List, [], ◌∷◌, refl, sym, ap, ◌∙◌}
use Rattle.std.specs.Prelude.{◌&&◌}
use Rattle.std.specs.List.{AllByRecursion, list_all}
use Rattle.sml_types.specs.Tree.{Head, ArrowHead, FieldsHead, NameHead, Tree, Variable, App, NoParts, Part, inst}
use Rattle.sml_types.specs.Poly.{is_in}
use Rattle.sml_types.specs.Escape.{mentions, mentions_head}
use Rattle.sml_types.proofs.TreeFacts.{and_both}
use Rattle.sml_unify.specs.declared.resolve.Rename.{Rename}
use Rattle.sml_unify.specs.Solved.{Substitution}
use Rattle.sml_unify.specs.Resolve.{renamed}
use Rattle.sml_unify.specs.TypeNames.{AreTypeNames}
use Rattle.infer_closing.proofs.Laws.{at_in}

both : (a b : Bool) → a ≡ true → b ≡ true → (a && b) ≡ true
both a b e k = ap (λ w. w && b) e ∙ k

-- a type mentions no more than it does under a substitution
pub mentions_back : (ns : List ℕ) (g : Substitution) (t : Tree) → mentions ns (inst g t) ≡ true → mentions ns t ≡ true
mentions_back ns g (Variable v) e = refl
mentions_back ns g (App h ts) e = let b = and_both (mentions_head ns h) (mentions ns (inst g ts)) e in both (mentions_head ns h) (mentions ns ts) b.0 (mentions_back ns g ts b.1)
mentions_back ns g NoParts e = refl
mentions_back ns g (Part t ts) e =
    let b = and_both (mentions ns (inst g t)) (mentions ns (inst g ts)) e in
    both (mentions ns t) (mentions ns ts) (mentions_back ns g t b.0) (mentions_back ns g ts b.1)

-- renames bring no type names
pub mentions_renamed : (ns : List ℕ) (renames : List Rename) (t : Tree) → mentions ns t ≡ true → mentions ns (inst (renamed renames) t) ≡ true
mentions_renamed ns renames (Variable v) e = refl
mentions_renamed ns renames (App h ts) e = let b = and_both (mentions_head ns h) (mentions ns ts) e in both (mentions_head ns h) (mentions ns (inst (renamed renames) ts)) b.0 (mentions_renamed ns renames ts b.1)
mentions_renamed ns renames NoParts e = refl
mentions_renamed ns renames (Part t ts) e =
    let b = and_both (mentions ns t) (mentions ns ts) e in
    both (mentions ns (inst (renamed renames) t)) (mentions ns (inst (renamed renames) ts)) (mentions_renamed ns renames t b.0) (mentions_renamed ns renames ts b.1)

in_all : (ms ns : List ℕ) (n : ℕ) → list_all (is_in ms) ns ≡ true → is_in ns n ≡ true → is_in ms n ≡ true
in_all ms ns n h e = at_in (λ k. is_in ms k ≡ true) ns n (all_of ns h) e
  where
    all_of : (ks : List ℕ) → list_all (is_in ms) ks ≡ true → AllByRecursion (λ k. is_in ms k ≡ true) ks
    all_of [] h = tt
    all_of (k ∷ ks) h = let b = and_both (is_in ms k) (list_all (is_in ms) ks) h in (b.0, all_of ks b.1)

head_more : (ms ns : List ℕ) (h : Head) → list_all (is_in ms) ns ≡ true → mentions_head ns h ≡ true → mentions_head ms h ≡ true
head_more ms ns ArrowHead h e = refl
head_more ms ns (FieldsHead labs) h e = refl
head_more ms ns (NameHead n) h e = in_all ms ns n h e

mentions_more : (ms ns : List ℕ) (t : Tree) → list_all (is_in ms) ns ≡ true → mentions ns t ≡ true → mentions ms t ≡ true
mentions_more ms ns (Variable v) h e = refl
mentions_more ms ns (App c ts) h e =
    let b = and_both (mentions_head ns c) (mentions ns ts) e in
    both (mentions_head ms c) (mentions ms ts) (head_more ms ns c h b.0) (mentions_more ms ns ts h b.1)
mentions_more ms ns NoParts h e = refl
mentions_more ms ns (Part t ts) h e =
    let b = and_both (mentions ns t) (mentions ns ts) e in
    both (mentions ms t) (mentions ms ts) (mentions_more ms ns t h b.0) (mentions_more ms ns ts h b.1)

list_all_of : (ms ns : List ℕ) → AllByRecursion (λ n. is_in ms n ≡ true) ns → list_all (is_in ms) ns ≡ true
list_all_of ms [] h = refl
list_all_of ms (n ∷ ns) h = both (is_in ms n) (list_all (is_in ms) ns) h.0 (list_all_of ms ns h.1)

-- a type mentions these type names alone where all of its own are among them
pub all_mentioned : (ms ns : List ℕ) (t : Tree) → AreTypeNames ns t → list_all (is_in ms) ns ≡ mentions ms t
all_mentioned ms ns t a = by (list_all (is_in ms) ns) refl (mentions ms t) refl
  where
    by : (b : Bool) → list_all (is_in ms) ns ≡ b → (d : Bool) → mentions ms t ≡ d → b ≡ d
    by true e true k = refl
    by false e false k = refl
    by true e false k = sym (mentions_more ms ns t e a.each) ∙ k
    by false e true k = sym e ∙ list_all_of ms ns (a.least ms k)
