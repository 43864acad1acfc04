-- The first context, and what stands behind a declaration.
use Rattle.std.proofs.Common.{◌≡◌, ℕ, Bool, true, false, ◌||◌, ◌&&◌, ◌⊎◌, inl, inr, List, [], ◌∷◌, ◌++◌, Option, Some, None, refl, sym, ap, ◌∙◌, subst, length}
use Rattle.std.specs.Prelude.{slice_get, nat_eq}
use Rattle.std.specs.List.{list_all}
use Rattle.std.proofs.lemmas.Bool.{eqb-true}
use Rattle.sml_tree.specs.declared.bare.Node.{Node}
use Rattle.sml_tree.specs.declared.bare.Node.TheVariants.{Let}
use Rattle.sml_types.specs.Poly.{Context, is_in, with_type_names, with_names}
use Rattle.sml_types.specs.Library.{library_names}
use Rattle.sml_types.specs.Typing.{made_by}
use Rattle.infer_state.specs.Names.{Inside, inside, IsOneOf, AreEntered, names_bound, behind}
use Rattle.infer_scopes.specs.declared.chains.Cell.{Cell}
use Rattle.infer_scopes.specs.declared.scope.Scope.{Scope}
use Rattle.infer_scopes.specs.Chains.{chain}
use Rattle.infer_scopes.specs.Scopes.{Stored, Standing, standing, context_in, contexts_of, IsScope, grown, IsOpen, AllOpen, AreOpen, first_context, IsFirst, HasEnteredBody, Enters, EntersBody}
use Rattle.infer_scopes.proofs.ChainFacts.{chain_none, none_among, get_snoc}
use Rattle.infer_scopes.proofs.ScopeFacts.{lists, same_lists, has_scope, has_standing, standing_is, entered_both, grown_open}

pub none_more : (xs new : List (Option Scope)) → ((i : ℕ) (scope : Scope) → slice_get xs i ≡ Some (Some scope) → ⊥) → new ≡ xs ++ None ∷ [] → (i : ℕ) (scope : Scope) → slice_get new i ≡ Some (Some scope) → ⊥
none_more xs new h e i scope q = go (get_snoc xs None i (Some scope) (subst (λ (l : List (Option Scope)). slice_get l i ≡ Some (Some scope)) e q))
  where
    go : (slice_get xs i ≡ Some (Some scope)) ⊎ ((i ≡ length xs) × (None ≡ Some scope)) → ⊥
    go (inl f) = h i scope f
    go (inr f) = let g = f.1 in cc

pub none_yet : (xs : List (Option Scope)) → xs ≡ [] → (i : ℕ) (scope : Scope) → slice_get xs i ≡ Some (Some scope) → ⊥
none_yet xs e i scope q = let f : None ≡ Some (Some scope) = subst (λ (l : List (Option Scope)). slice_get l i ≡ Some (Some scope)) e q in cc

abbrev nothing : Scope
nothing = record { type_names = None; tyvars = None; names = None; own = None; unclosed = None }

pub nothing_there : (cells : List Cell) → IsScope cells nothing
nothing_there cells = record { type_names = tt; tyvars = tt; names = tt; own = tt; unclosed = tt; inner = none_among cells None }

nothing_stands : (cells : List Cell) → standing cells nothing ≡ lists [] [] [] [] []
nothing_stands cells =
    same_lists (chain cells None) (chain cells None) (chain cells None) (chain cells None) (chain cells None) [] [] [] [] [] (chain_none cells) (chain_none cells) (chain_none cells) (chain_none cells) (chain_none cells)

no_context : (a : Stored) → ((i : ℕ) (scope : Scope) → slice_get a.scopes i ≡ Some (Some scope) → ⊥) → (i : ℕ) (c : Context) → contexts_of a i ≡ Some c → ⊥
no_context a none i c e = let h = has_standing a i c e in let g = has_scope a i h.0 h.1 in none i g.0 g.1

module _ (a b d : Stored) (f : Scope) (none : (i : ℕ) (scope : Scope) → slice_get a.scopes i ≡ Some (Some scope) → ⊥) (g : Enters [] (standing a.cells nothing) a b) (stands : standing b.cells f ≡ grown library_names [] [] [] [] (standing a.cells nothing)) (h : Enters (inside (standing b.cells f).context 0 ∷ []) (standing b.cells f) b d) where
  context_first : (standing b.cells f).context ≡ first_context
  context_first = ap (λ (t : Standing). t.context) (stands ∙ ap (grown library_names [] [] [] []) (nothing_stands a.cells))

  none_before : (i : ℕ) (c : Context) → contexts_of b i ≡ Some c → ⊥
  none_before i c e = go (g.entered.only i c e)
    where
      go : (contexts_of a i ≡ Some c) ⊎ IsOneOf (inside c i) [] → ⊥
      go (inl q) = no_context a none i c q
      go (inr q) = q

  only_first : (i : ℕ) (c : Context) → contexts_of d i ≡ Some c → (i ≡ 0) × (c ≡ first_context)
  only_first i c e = go (h.entered.only i c e)
    where
      go : (contexts_of b i ≡ Some c) ⊎ IsOneOf (inside c i) (inside (standing b.cells f).context 0 ∷ []) → (i ≡ 0) × (c ≡ first_context)
      go (inl q) = absurd (none_before i c q)
      go (inr (inl q)) = (ap (λ (x : Inside). x.node) q, ap (λ (x : Inside). x.context) q ∙ context_first)
      go (inr (inr q)) = absurd q

  pub first_gives : IsFirst (contexts_of d)
  first_gives = record { root = h.entered.put.0 ∙ ap (λ (c : Context). Some c) context_first; only = only_first }

  pub first_closed : (p : ℕ → Bool) → AllOpen p d
  first_closed p =
      let around : IsOpen p (standing a.cells nothing) = λ x k. ap (λ o. o || p x) k in
      let inner : IsOpen p (grown library_names [] [] [] [] (standing a.cells nothing)) = λ x k. ap (λ o. o || p x) k in
      h.closed p (g.closed p (λ i t e. let s = has_scope a i t e in absurd (none i s.0 s.1)) around) (subst (IsOpen p) (sym stands) inner)

pub body_gives : (nodes : List Node) (dec body : ℕ) (ts ns unclosed : List ℕ) (scope inner : Scope) (a b c : Stored) → ns ≡ names_bound nodes dec → ts ≡ made_by (slice_get nodes dec) → Enters [] (standing a.cells scope) a b → standing b.cells inner ≡ grown ts [] ns [] unclosed (standing a.cells scope) → Enters (inside (standing b.cells inner).context body ∷ []) (standing b.cells inner) b c → EntersBody nodes dec body unclosed (standing a.cells scope) a c
body_gives nodes dec body ts ns unclosed scope inner a b c n t g stands h =
    let around : Context = (standing a.cells scope).context in
    let is : (standing b.cells inner).context ≡ behind nodes (standing a.cells scope).context dec =
    ap (λ (u : Standing). u.context) stands
    ∙ ap (λ xs. with_type_names xs (with_names ns (standing a.cells scope).context)) t
    ∙ ap (λ xs. with_type_names (made_by (slice_get nodes dec)) (with_names xs (standing a.cells scope).context)) n in
    record {
      entered = subst (λ (k : Context). AreEntered (inside k body ∷ []) (contexts_of a) (contexts_of c)) is (entered_both [] (inside (standing b.cells inner).context body ∷ []) (contexts_of a) (contexts_of b) (contexts_of c) g.entered h.entered);
      closed = λ p all open_ names. h.closed p (g.closed p all open_) (subst (IsOpen p) (sym stands) (grown_open ts [] ns [] unclosed (standing a.cells scope) p (subst (λ xs. AreOpen p xs unclosed) (sym n) names) open_));
    }

pub all_listed : (names few : List ℕ) → list_all (is_in names) few ≡ true → (x : ℕ) → is_in few x ≡ true → is_in names x ≡ true
all_listed names [] e x h = cc
all_listed names (y ∷ few) e x h = go (all_listed names few) (is_in names y) (nat_eq x y) refl refl
  where
    go : (list_all (is_in names) few ≡ true → (z : ℕ) → is_in few z ≡ true → is_in names z ≡ true) → (b q : Bool) → is_in names y ≡ b → nat_eq x y ≡ q → is_in names x ≡ true
    go rest true true i j = subst (λ z. is_in names z ≡ true) (sym (eqb-true x y j)) i
    go rest true false i j = rest (ap (λ b. b && list_all (is_in names) few) (sym i) ∙ e) x (ap (λ b. b || is_in few x) (sym j) ∙ h)
    go rest false q i j = let f : false ≡ true = ap (λ b. b && list_all (is_in names) few) (sym i) ∙ e in cc

-- in the words of `enter_body`
module _ (nodes : List Node) (node dec body : ℕ) (unclosed : List ℕ) (scope : Scope) (a b : Stored) (scoped : slice_get a.scopes node ≡ Some (Some scope)) (here : slice_get nodes node ≡ Some (Let dec body)) (h : EntersBody nodes dec body unclosed (standing a.cells scope) a b) where
  pub body_entered : HasEnteredBody nodes node (contexts_of a) (contexts_of b)
  body_entered = record { dec = dec; body = body; context = (standing a.cells scope).context; here = here; stands = ap context_in (standing_is a node scope scoped); entered = h.entered }

  pub body_closed : (p : ℕ → Bool) → AllOpen p a → ((d e : ℕ) → slice_get nodes node ≡ Some (Let d e) → AreOpen p (names_bound nodes d) unclosed) → AllOpen p b
  body_closed p all names = h.closed p all (all node (standing a.cells scope) (standing_is a node scope scoped)) (names dec body here)
