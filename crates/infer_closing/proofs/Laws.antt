-- What a typing generalises, and what stands open.
use Rattle.std.proofs.Common.{◌≡◌, ℕ, ◌<◌, Bool, true, false, Option, Some, None, List, [], ◌∷◌, refl, sym, ap, ◌∙◌, ◌⊎◌, inl, inr, nat_eq, cond, subst}
use Rattle.std.specs.Prelude.{◌&&◌, not, length}
use Rattle.std.specs.List.{AllByRecursion}
use Rattle.std.proofs.lemmas.Bool.{eqb-true}
use Rattle.sml_tree.specs.declared.bare.Bare.{Bare}
use Rattle.sml_tree.specs.declared.bare.Binding.{Binding}
use Rattle.sml_tree.specs.declared.bare.RecBinding.{RecBinding}
use Rattle.sml_tree.specs.declared.bare.Con.{Con}
use Rattle.sml_tree.specs.declared.bare.Con.TheVariants as con
use Rattle.sml_tree.specs.declared.bare.Node.{Node}
use Rattle.sml_tree.specs.declared.bare.Node.TheVariants as node
use Rattle.sml_types.specs.declared.types.TyVar.{TyVar}
use Rattle.sml_types.specs.Tree.{Tree, Variable, inst, occurs, AllVars}
use Rattle.sml_types.specs.Poly.{Poly, poly, mono, Context, is_in, has_num, is_free, scheme_in, IsFresh, with_tyvars, with_own}
use Rattle.sml_types.specs.TypeExps.{explicit}
use Rattle.sml_types.specs.Typing.{Typing, IsTypedNode, IsBinding, IsRecBinding, IsConPoly, IsAmong, group_names, is_exception}
use Rattle.sml_types.specs.Library.{library_exn}
use Rattle.sml_types.specs.NonExpansive.{AreNonExpansive}
use Rattle.infer_state.specs.Typings.{IsPlain}
use Rattle.sml_types.proofs.TreeFacts.{either}
use Rattle.sml_unify.specs.Solved.{Substitution}
use Rattle.sml_unify.specs.Variables.{Stands}
use Rattle.infer_state.specs.Fits.{Fits, Suits, AllSuit}
use Rattle.infer_state.specs.Names.{names_bound}
use Rattle.infer_state.specs.Variables.{name_var}
use Rattle.infer_closing.specs.declared.group.Together.{Together}
use Rattle.infer_closing.specs.Groups.{of_bindings, of_group, of_declaration}
use Rattle.infer_closing.specs.Open.{IsLeftBy, IsExplicit, IsLeftOpen}
use Rattle.infer_closing.specs.Closing.{HasBinds}
use Rattle.infer_closing.specs.Found.{IsConPlain, IsRenamingPlain}
use Rattle.infer_closing.proofs.Trees.{occurs_through, at_standing, from_standing, at_among, has_among, standing_in}

-- a fact about one of some numbers
pub at_in : (P : ℕ → Type 0) (xs : List ℕ) (x : ℕ) → AllByRecursion P xs → is_in xs x ≡ true → P x
at_in P [] x h e = cc
at_in P (y ∷ xs) x h e = either (nat_eq x y) (is_in xs x) (P x) e (λ q. subst P (sym (eqb-true x y q)) h.0) (λ q. at_in P xs x h.1 q)

-- a variable that stands in a scheme's type and is not one of its variables stands free in it
free_there : (a : ℕ) (s : Poly) → occurs a s.body ≡ true → has_num s.vars a ≡ false → is_free a s ≡ true
free_there a s o n = ap (λ b. b && not (has_num s.vars a)) o ∙ ap not n

free_in : (schemes : ℕ → Poly) (c : Context) (x a : ℕ) → occurs a (schemes x).body ≡ true → (is_in c.own x ≡ true) ⊎ (has_num (schemes x).vars a ≡ false) → is_free a (scheme_in schemes c x) ≡ true
free_in schemes c x a o h = go (is_in c.own x) refl h
  where
    go : (b : Bool) → is_in c.own x ≡ b → (is_in c.own x ≡ true) ⊎ (has_num (schemes x).vars a ≡ false) → is_free a (cond b (mono (schemes x).body) (schemes x)) ≡ true
    go true e k = free_there a (mono (schemes x).body) o refl
    go false e (inl k) = let clash : false ≡ true = sym e ∙ k in cc
    go false e (inr k) = free_there a (schemes x) o k

not_fresh : (schemes : ℕ → Poly) (c : Context) (x a : ℕ) → IsFresh schemes c a → is_in c.names x ≡ true → is_free a (scheme_in schemes c x) ≡ true → ⊥
not_fresh schemes c x a h b e = let none = at_in (λ y. is_free a (scheme_in schemes c y) ≡ false) c.names x h.1 b in let clash : false ≡ true = sym none ∙ e in cc

module _ (p : Bare) (t : Typing) (f : Substitution) (h : Fits p t f) (settled : ℕ → Option Poly) (suits : AllSuit settled f t) (c : Context) (w : TyVar) (a : ℕ) (o : occurs a (f w) ≡ true) (fresh : IsFresh t.schemes c a) where
  explicit_stays : IsExplicit p c w → ⊥
  explicit_stays (u, there, few, e) =
      let is : f w ≡ Variable (explicit p.tyvars u) = ap f e ∙ h.explicit_ones u few in
      let same : a ≡ u = eqb-true a u (sym (ap (occurs a) is) ∙ o) in
      let clash : false ≡ true = sym fresh.0 ∙ ap (is_in c.tyvars) same ∙ there in
      cc

  named_stays : (x : ℕ) → is_in c.names x ≡ true → (s : Option Poly) → settled x ≡ s → IsLeftBy p c w x s → ⊥
  named_stays x b (Some s) e (stands, left) =
      let suit = suits x s e in
      let there : occurs a (t.schemes x).body ≡ true = ap (occurs a) (sym suit.body) ∙ occurs_through f a w s.body stands o in
      let out : has_num (t.schemes x).vars a ≡ false = at_standing (λ u. has_num s.vars u.num ≡ false → (n : ℕ) → occurs n (f u) ≡ true → has_num (t.schemes x).vars n ≡ false) s.body w suit.left_open stands left a o in
      not_fresh t.schemes c x a fresh b (free_in t.schemes c x a there (inr out))
  named_stays x b None e (own, few, is) =
      let there : occurs a (t.schemes x).body ≡ true = ap (occurs a) (sym (h.of_names x few) ∙ ap f (sym is)) ∙ o in
      not_fresh t.schemes c x a fresh b (free_in t.schemes c x a there (inl own))

  -- what stands in what a variable stands for that the context leaves open is not generalised
  pub left_is_not_general : IsLeftOpen p settled c w → ⊥
  left_is_not_general (inl e) = explicit_stays e
  left_is_not_general (inr (x, b, l)) = named_stays x b (settled x) refl l

-- ---- The bindings of a declaration in a typing

-- the names of a binding generalise what its right side does
pub record IsTypedTogether (p : Bare) (t : Typing) (c : Context) (right : ℕ) (names : List ℕ) : Type 0 where
  pub vars : List TyVar
  pub schemes : AllByRecursion (λ x. (t.schemes x).vars ≡ vars) names
  pub fresh : AllByRecursion (λ v. IsFresh t.schemes c v.num) vars
  pub plain : (vars ≡ []) ⊎ AreNonExpansive p.nodes (right ∷ [])

-- a name generalises nothing of its type
abbrev pub IsMono : Typing → ℕ → Type 0
IsMono t x = (a : ℕ) → occurs a (t.schemes x).body ≡ true → has_num (t.schemes x).vars a ≡ false

abbrev pub IsTypedRight : Bare → Typing → Context → Option ℕ → List ℕ → Type 0
IsTypedRight p t c None names = AllByRecursion (IsMono t) names
IsTypedRight p t c (Some right) names = IsTypedTogether p t c right names

abbrev pub IsTypedAt : Bare → Typing → Context → Together → Type 0
IsTypedAt p t c g = IsTypedRight p t c g.right g.names

mono_is : (t : Typing) (x : ℕ) (u : Tree) → t.schemes x ≡ mono u → IsMono t x
mono_is t x u e a o = ap (λ (s : Poly). has_num s.vars a) e

plain_suits : (t : Typing) (f : Substitution) (s : Poly) (x : ℕ) → s.vars ≡ [] → Suits f s (t.schemes x) → IsMono t x
plain_suits t f s x e suit a o =
    let r = standing_in f a s.body (ap (occurs a) suit.body ∙ o) in
    at_standing (λ u. has_num s.vars u.num ≡ false → (n : ℕ) → occurs n (f u) ≡ true → has_num (t.schemes x).vars n ≡ false) s.body r.0 suit.left_open r.1 (ap (λ (vs : List TyVar). has_num vs r.0.num) e) a r.2

module _ (p : Bare) (t : Typing) (c : Context) where
  bindings_typed : (inner : Context) (bindings : List Binding) → AllByRecursion (IsBinding p t c inner) bindings → AllByRecursion (λ b. t.binds b.pat ≡ names_bound p.nodes b.pat) bindings → AllByRecursion (IsTypedAt p t c) (of_bindings p.nodes bindings)
  bindings_typed inner [] h e = tt
  bindings_typed inner (b ∷ bindings) h e = (
    record { vars = t.gens b.right; schemes = subst (λ (xs : List ℕ). AllByRecursion (λ x. (t.schemes x).vars ≡ t.gens b.right) xs) e.0 h.0.3; fresh = h.0.2.0; plain = h.0.2.1 },
    bindings_typed inner bindings h.1 e.1,
  )

  group_typed : (inner : Context) (bindings : List RecBinding) → AllByRecursion (IsRecBinding p t c inner) bindings → AllByRecursion (IsTypedAt p t c) (of_group bindings)
  group_typed inner [] h = tt
  group_typed inner (b ∷ bindings) h = (
    record { vars = t.gens b.right; schemes = (ap (λ (s : Poly). s.vars) h.0.2, tt); fresh = h.0.1.0; plain = h.0.1.1 },
    group_typed inner bindings h.1,
  )

  renamed_typed : (f : Substitution) (settled : ℕ → Option Poly) → AllSuit settled f t → (x : ℕ) (k : Con) → IsConPlain settled k → is_exception k ≡ true → IsConPoly p t c k (t.schemes x) → IsMono t x
  renamed_typed f settled suits x (con.Exn y takes) plain e h = subst (λ (s : Poly). (a : ℕ) → occurs a s.body ≡ true → has_num s.vars a ≡ false) (sym h.1) (go (settled y.0) refl plain)
    where
      go : (s : Option Poly) → settled y.0 ≡ s → IsPlain s → IsMono t y.0
      go None q i = absurd i
      go (Some s) q i = plain_suits t f s y.0 i (suits y.0 s q)
  renamed_typed f settled suits x (con.Library l) plain e h = mono_is t x (library_exn l) h
  renamed_typed f settled suits x con.Ref plain e h = cc
  renamed_typed f settled suits x (con.Data n k takes) plain e h = cc

  -- the rule of a declaration says so of each of its bindings
  pub declaration_typed : (f : Substitution) (settled : ℕ → Option Poly) → AllSuit settled f t → (ty : Tree) (bs : List ℕ) (n : Node) → HasBinds p t n → IsRenamingPlain settled n → IsTypedNode p t c ty bs n → AllByRecursion (IsTypedAt p t c) (of_declaration p.nodes n)
  declaration_typed f settled suits ty bs (node.Val us bindings) e s h = bindings_typed (with_tyvars us c) bindings h.0 e
  declaration_typed f settled suits ty bs (node.ValRec us bindings) e s h = group_typed (with_tyvars us (with_own (group_names bindings) c)) bindings h.0
  declaration_typed f settled suits ty bs (node.Exception x arg) e s h = ((mono_is t x.0 h.0 h.2, tt), tt)
  declaration_typed f settled suits ty bs (node.SameException x k) e s h = ((renamed_typed f settled suits x.0 k s h.0 h.1, tt), tt)
  declaration_typed f settled suits ty bs n e s h = tt

-- ---- Schemes

module _ (p : Bare) (t : Typing) (f : Substitution) (h : Fits p t f) (m : Substitution) (x : ℕ) (few : x < length p.names) (through : f (name_var p x) ≡ inst f (m (name_var p x))) where
  body_is : inst f (m (name_var p x)) ≡ (t.schemes x).body
  body_is = sym through ∙ h.of_names x few

  -- a name that generalises nothing
  pub mono_suits : (vars : List TyVar) → IsMono t x → Suits f (poly vars (m (name_var p x))) (t.schemes x)
  mono_suits vars mono =
      record {
        body = body_is;
        left_open = from_standing (λ u. has_num vars u.num ≡ false → (a : ℕ) → occurs a (f u) ≡ true → has_num (t.schemes x).vars a ≡ false) (m (name_var p x)) (λ u s n a o. mono a (ap (occurs a) (sym body_is) ∙ occurs_through f a u (m (name_var p x)) s o));
      }

  -- a name that generalises all that is not left open
  module _ (settled : ℕ → Option Poly) (suits : AllSuit settled f t) (c : Context) (vars left found : List TyVar) (over : (w : TyVar) → IsLeftOpen p settled c w → f w ≡ inst f (m w)) (sound : (v : TyVar) → IsAmong v left → (w : TyVar) × IsLeftOpen p settled c w × Stands v (m w)) (kept : (v : TyVar) → IsAmong v found → has_num vars v.num ≡ false → IsAmong v left) where
    pub right_suits : (right : ℕ) (gens : List TyVar) → (t.schemes x).vars ≡ gens → AllByRecursion (λ v. IsFresh t.schemes c v.num) gens → AllVars (λ u. IsAmong u found) (m (name_var p x)) → Suits f (poly vars (m (name_var p x))) (t.schemes x)
    right_suits right gens e fresh each =
        record {
          body = body_is;
          left_open = from_standing (λ u. has_num vars u.num ≡ false → (a : ℕ) → occurs a (f u) ≡ true → has_num (t.schemes x).vars a ≡ false) (m (name_var p x)) (λ u s n a o. ap (λ (vs : List TyVar). has_num vs a) e ∙ out u s n a o);
        }
      where
        clash : (u : TyVar) (a : ℕ) → IsAmong u left → occurs a (f u) ≡ true → IsFresh t.schemes c a → ⊥
        clash u a l o h2 =
            let r = sound u l in
            left_is_not_general p t f h settled suits c r.0 a (ap (occurs a) (over r.0 r.1) ∙ occurs_through f a u (m r.0) r.2 o) h2 r.1

        out : (u : TyVar) → Stands u (m (name_var p x)) → has_num vars u.num ≡ false → (a : ℕ) → occurs a (f u) ≡ true → has_num gens a ≡ false
        out u s n a o = go (has_num gens a) refl
          where
            go : (b : Bool) → has_num gens a ≡ b → b ≡ false
            go false q = refl
            go true q =
                let r = has_among gens a q in
                let f1 = at_among (λ v. IsFresh t.schemes c v.num) gens r.0 fresh r.1 in
                absurd (clash u a (kept u (at_standing (λ v. IsAmong v found) (m (name_var p x)) u each s) n) o (subst (λ k. IsFresh t.schemes c k) (sym r.2) f1))
