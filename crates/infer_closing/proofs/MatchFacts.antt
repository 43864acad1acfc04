-- The names of matches.
use Rattle.std.proofs.Common.{◌≡◌, ℕ, zero, suc, ◌<◌, ◌≤◌, true, List, [], ◌∷◌, length, Option, Some, refl, sym, ap, ◌∙◌, ◌⊎◌, inl, inr, subst, arith}
use Rattle.std.specs.Prelude.{◌++◌, slice_get}
use Rattle.std.specs.List.{AllByRecursion}
use Rattle.sml_tree.specs.declared.bare.Bare.{Bare}
use Rattle.sml_tree.specs.declared.bare.Rule.{Rule}
use Rattle.sml_tree.specs.declared.bare.Node.{Node}
use Rattle.sml_tree.specs.declared.bare.Node.TheVariants as node
use Rattle.sml_types.specs.declared.types.TyVar.{TyVar}
use Rattle.sml_types.specs.declared.types.TyForm.{TyForm}
use Rattle.sml_types.specs.declared.types.TyForm.TheVariants.{Var}
use Rattle.sml_types.specs.Tree.{Tree, Variable, inst}
use Rattle.sml_types.specs.Forms.{tree, parts_of, AreForms}
use Rattle.sml_types.specs.Poly.{Poly, poly, mono, Context, is_in, has_num}
use Rattle.sml_types.specs.Schemes.{scheme_poly}
use Rattle.sml_types.specs.Typing.{Typing, IsTypedNode, IsMatch}
use Rattle.sml_types.proofs.FormFacts.{tree_form}
use Rattle.sml_unify.specs.Solved.{Substitution}
use Rattle.sml_unify.specs.Variables.{AreOnce}
use Rattle.infer_state.specs.declared.unknowns.Unknowns.{Unknowns}
use Rattle.infer_state.specs.declared.settled.Settled.{Settled}
use Rattle.infer_state.specs.Fits.{Fits, Suits, AllSuit, IsThere, AreBodies}
use Rattle.infer_state.specs.Names.{names_bound, names_of_rules, names_matched}
use Rattle.infer_state.specs.Variables.{name_var}
use Rattle.infer_closing.specs.Closing.{HasMatchBinds, HasBindsMatched}
use Rattle.infer_closing.specs.Settling.{StandsAt, AreNewly}
use Rattle.infer_closing.proofs.Laws.{at_in}
use Rattle.infer_closing.proofs.GrowFacts.{all_change, all_joined}

nil_right : (xs : List ℕ) → xs ++ [] ≡ xs
nil_right [] = refl
nil_right (x ∷ xs) = ap (λ ys. x ∷ ys) (nil_right xs)

assoc : (xs ys zs : List ℕ) → xs ++ (ys ++ zs) ≡ (xs ++ ys) ++ zs
assoc [] ys zs = refl
assoc (x ∷ xs) ys zs = ap (λ ws. x ∷ ws) (assoc xs ys zs)

pub rules_end : (nodes : List Node) (rs : List Rule) (r : Rule) → names_of_rules nodes (rs ++ r ∷ []) ≡ names_of_rules nodes rs ++ names_bound nodes r.pat
rules_end nodes [] r = nil_right (names_bound nodes r.pat)
rules_end nodes (q ∷ rs) r = ap (λ ws. names_bound nodes q.pat ++ ws) (rules_end nodes rs r) ∙ assoc (names_bound nodes q.pat) (names_of_rules nodes rs) (names_bound nodes r.pat)

-- ---- The entry of a name at its own type

within : (forms : List TyForm) (i : ℕ) (f : TyForm) → slice_get forms i ≡ Some f → i < length forms
within [] i f e = cc
within (g ∷ forms) zero f e = omega arith
within (g ∷ forms) (suc i) f e = let l = within forms i f e in omega arith

pub own_there : (forms : List TyForm) (s : Settled) (v : TyVar) → slice_get forms s.scheme.body.0 ≡ Some (Var v) → s.from ≡ s.scheme.body.0 → s.scheme.vars ≡ [] → IsThere forms s
own_there forms s v q e n =
    record {
      order = omega arith;
      there = within forms s.scheme.body.0 (Var v) q;
      segment = λ i form lo hi w. (let at : i ≡ s.scheme.body.0 = omega arith in let same : Some form ≡ Some (Var v) = sym w ∙ ap (slice_get forms) at ∙ q in let is : form ≡ Var v = cc in subst (λ (f : TyForm). AllByRecursion (λ c. s.from ≤ c) (parts_of f)) (sym is) tt);
      vars = subst (λ (vs : List TyVar). AllByRecursion (λ u. (i : ℕ) × (slice_get forms i ≡ Some (Var u))) vs) (sym n) tt;
      once = subst AreOnce (sym n) tt;
    }

pub own_poly : (forms : List TyForm) (s : Settled) (v : TyVar) → AreForms forms → slice_get forms s.scheme.body.0 ≡ Some (Var v) → s.scheme.vars ≡ [] → scheme_poly forms s.scheme ≡ poly [] (Variable v)
own_poly forms s v are q n = ap (λ (vs : List TyVar). poly vs (tree forms s.scheme.body.0)) n ∙ ap (poly []) (tree_form forms s.scheme.body.0 (Var v) are.numbered q)

-- ---- Typings

module _ (p : Bare) (t : Typing) where
  match_vars : (c : Context) (a b : Tree) (rules : List Rule) → HasMatchBinds p t rules → IsMatch p t rules c a b → AllByRecursion (λ x. (t.schemes x).vars ≡ []) (names_of_rules p.nodes rules)
  match_vars c a b [] e h = tt
  match_vars c a b (r ∷ rules) e h =
      all_joined (λ x. (t.schemes x).vars ≡ []) (names_bound p.nodes r.pat) (names_of_rules p.nodes rules) (subst (λ (xs : List ℕ). AllByRecursion (λ x. (t.schemes x).vars ≡ []) xs) e.0 h.0.2) (match_vars c a b rules e.1 h.1)

  pub matched_vars : (c : Context) (ty : Tree) (bs : List ℕ) (n : Node) → HasBindsMatched p t n → IsTypedNode p t c ty bs n → AllByRecursion (λ x. (t.schemes x).vars ≡ []) (names_matched p.nodes n)
  matched_vars c ty bs (node.Case e rules) k h = match_vars c h.0 ty rules k h.2
  matched_vars c ty bs (node.Fn rules) k h = match_vars c h.0 h.1 rules k h.3
  matched_vars c ty bs (node.Handle e rules) k h = match_vars c _ ty rules k h.1
  matched_vars c ty bs n k h = tt

  pub matched_suits : (f : Substitution) (old new : ℕ → Option Poly) (names : List ℕ) → Fits p t f → AllSuit old f t → AreNewly p Variable old new [] names → AllByRecursion (λ x. (t.schemes x).vars ≡ []) names → AllSuit new f t
  matched_suits f old new names h suits newly none y q e = go (newly.only y q e)
    where
      go : (old y ≡ Some q) ⊎ ((is_in names y ≡ true) × (q ≡ poly [] (Variable (name_var p y)))) → Suits f q (t.schemes y)
      go (inl w) = suits y q w
      go (inr w) =
          subst
          (λ (s : Poly). Suits f s (t.schemes y))
          (sym w.1)
          (record { body = h.of_names y (at_in (StandsAt p Variable new []) names y newly.each w.0).0; left_open = λ n a o. ap (λ (vs : List TyVar). has_num vs a) (at_in (λ x. (t.schemes x).vars ≡ []) names y none w.0) })

pub matched_bodies : (p : Bare) (u : Unknowns) (old new : ℕ → Option Poly) (names : List ℕ) → AreNewly p Variable old new [] names → AreBodies p u old → AreBodies p u new
matched_bodies p u old new names newly bodies y q e f s = go (newly.only y q e)
  where
    go : (old y ≡ Some q) ⊎ ((is_in names y ≡ true) × (q ≡ poly [] (Variable (name_var p y)))) → inst f q.body ≡ f (name_var p y)
    go (inl w) = bodies y q w f s
    go (inr w) = ap (λ (r : Poly). inst f r.body) w.1

pub matched_at : (p : Bare) (old new : ℕ → Option Poly) (names : List ℕ) → AreNewly p Variable old new [] names → AllByRecursion (λ x. new x ≡ Some (mono (Variable (name_var p x)))) names
matched_at p old new names newly = all_change (StandsAt p Variable new []) (λ x. new x ≡ Some (mono (Variable (name_var p x)))) names (λ x s. s.1) newly.each

pub matched_call : (p : Bare) (t : Typing) (f : Substitution) (old new : ℕ → Option Poly) (at : ℕ) (n found : Node) (rules items : List Rule) → Fits p t f → AllSuit old f t → slice_get p.nodes at ≡ Some n → slice_get p.nodes at ≡ Some found → names_matched p.nodes found ≡ names_of_rules p.nodes rules → items ≡ rules → HasBindsMatched p t n → IsTypedNode p t (t.contexts at) (t.types at) (t.binds at) n → AreNewly p Variable old new [] (names_of_rules p.nodes items) → AllSuit new f t
matched_call p t f old new at n found rules items fits suits q r names e binds rule newly =
    let one : Some found ≡ Some n = sym r ∙ q in
    let same : found ≡ n = cc in
    let is : names_matched p.nodes n ≡ names_of_rules p.nodes items = ap (names_matched p.nodes) (sym same) ∙ names ∙ ap (names_of_rules p.nodes) (sym e) in
    matched_suits p t f old new (names_of_rules p.nodes items) fits suits newly (subst (λ (xs : List ℕ). AllByRecursion (λ x. (t.schemes x).vars ≡ []) xs) is (matched_vars p t (t.contexts at) (t.types at) (t.binds at) n binds rule))
