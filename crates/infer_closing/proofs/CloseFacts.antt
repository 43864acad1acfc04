-- What closing a declaration does.
use Rattle.std.proofs.Common.{◌≡◌, ℕ, ◌+◌, ◌<◌, Bool, true, false, List, [], ◌∷◌, length, Option, Some, None, refl, sym, ap, ◌∙◌, ◌⊎◌, inl, inr, cond, subst, arith, nat_eq}
use Rattle.std.specs.Prelude.{◌||◌, ◌&&◌, not, slice_get}
use Rattle.std.specs.List.{AllByRecursion}
use Rattle.std.proofs.lemmas.Bool.{eq-eqb, eqb-true}
use Rattle.sml_tree.specs.declared.bare.Bare.{Bare}
use Rattle.sml_tree.specs.declared.bare.Binding.{Binding}
use Rattle.sml_tree.specs.declared.bare.RecBinding.{RecBinding}
use Rattle.sml_tree.specs.declared.bare.Node.{Node}
use Rattle.sml_tree.specs.declared.bare.Node.TheVariants as node
use Rattle.sml_tree.specs.BareParts.{IsNumbered}
use Rattle.sml_types.specs.declared.types.Ty.{Ty}
use Rattle.sml_types.specs.declared.types.TyVar.{TyVar}
use Rattle.sml_types.specs.declared.types.TyForm.{TyForm}
use Rattle.sml_types.specs.declared.types.TyForm.TheVariants.{Var}
use Rattle.sml_types.specs.declared.tables.TypeName.{TypeName}
use Rattle.sml_types.specs.Tree.{Tree, inst, admits, AllVars}
use Rattle.sml_types.specs.Forms.{tree, AreForms}
use Rattle.sml_types.specs.Poly.{Poly, poly, Context, is_in, has_num}
use Rattle.sml_types.specs.Typing.{Typing, IsTypedNode, IsAmong, group_names}
use Rattle.sml_types.proofs.TreeFacts.{either, or_left, or_right, and_both}
use Rattle.sml_unify.specs.Solved.{Substitution, Solves, Respects, AreBindings, bound_at}
use Rattle.sml_unify.specs.Variables.{Stands}
use Rattle.sml_unify.proofs.Known.{tree_known, meant_through}
use Rattle.sml_unify.proofs.Fresh.{solved_of}
use Rattle.infer_parts.specs.Held.{is_var, among}
use Rattle.infer_state.specs.declared.unknowns.Unknowns.{Unknowns}
use Rattle.infer_state.specs.declared.settled.Settled.{Settled}
use Rattle.infer_state.specs.declared.declared.Starts.{Starts}
use Rattle.infer_state.specs.Steps.{IsState}
use Rattle.infer_state.specs.Fits.{Fits, Suits, AllSuit, IsFormVar, AreThere, AreBodies, settled_poly, joined_settled, settled_at}
use Rattle.infer_state.specs.Names.{names_bound, names_of, names_of_bindings}
use Rattle.infer_state.specs.Variables.{name_var, AreLaidOut}
use Rattle.infer_scopes.proofs.BoundFacts.{names_at}
use Rattle.infer_closing.specs.declared.group.Together.{Together}
use Rattle.infer_closing.specs.declared.group.Group.{Group}
use Rattle.infer_closing.specs.Groups.{of_bindings, of_group, of_declaration}
use Rattle.infer_closing.specs.Open.{IsLeftBy, IsLeftOpen, IsFreshNow, is_closed, closed_at}
use Rattle.infer_closing.specs.Closing.{meaning, declared_at, IsLetAt, StaysSuited, IsGeneralAt, IsNonExpansive, IsClosed, IsFreshAt, AddsTypes, HasBinds}
use Rattle.infer_closing.specs.Found.{AreVars, without, IsFound, bindings_of, AreGroups, IsDeclaration}
use Rattle.infer_closing.specs.Left.{AreOpen, AreWaiting}
use Rattle.infer_closing.specs.Settling.{Grows, StandsAt, IsListed, general_of, IsNamedIn, IsGroupClosed, AreGroupsClosed}
use Rattle.infer_closing.proofs.Trees.{at_standing, from_among, among_has}
use Rattle.infer_closing.proofs.Laws.{at_in, IsTypedAt, IsTypedRight, IsTypedTogether, IsMono, declaration_typed, mono_suits, right_suits}
use Rattle.infer_closing.proofs.LeftFacts.{in_either}
use Rattle.infer_closing.proofs.GrowFacts.{all_change, bindings_grown, meaning_grown}

-- ---- The unknowns

module _ (a b : Unknowns) (x y : List (Option Settled)) (g : Grows a b x y) (h : AreBindings a.types a.subst.bound) where
  pub solves_back : (f : Substitution) → Solves b.types b.subst.bound f → Solves a.types a.subst.bound f
  solves_back f s i v t e q = s i v t (g.longer.keeps i (Var v) e) (ap (λ (bound : List (Option Ty)). bound_at bound v.num) g.bound ∙ q) ∙ ap (inst f) (g.longer.trees t.0 (h.within v.num t q))

  solves_forth : (f : Substitution) → Solves a.types a.subst.bound f → Solves b.types b.subst.bound f
  solves_forth f s i v t e q =
      let r = g.vars i v e in
      let w : bound_at a.subst.bound v.num ≡ Some t = ap (λ (bound : List (Option Ty)). bound_at bound v.num) (sym g.bound) ∙ q in
      s r.0 v t r.1 w ∙ ap (inst f) (sym (g.longer.trees t.0 (h.within v.num t w)))

  marks_forth : (names : List TypeName) (f : Substitution) → Respects names a.types f → Respects names b.types f
  marks_forth names f m i v e q = let r = g.vars i v e in m r.0 v r.1 q

  state_grown : (names : List TypeName) → IsState names a → IsState names b
  state_grown names s =
      record {
        bindings = bindings_grown a b x y g h;
        below = λ i v e. (let r = g.vars i v e in let l = s.below r.0 v r.1 in let n = g.next in omega arith);
        short = (let l = s.short in let n = g.next in let m = ap length g.bound in omega arith);
        marks = λ i v e q. (let r = g.vars i v e in ap (admits names) (meaning_grown a b x y g h v) ∙ s.marks r.0 v r.1 q);
      }

  pub adds_types : AddsTypes a b
  adds_types names s =
      record {
        state = state_grown names s;
        longer = g.longer;
        raised = (let n = g.next in omega arith);
        sound = solves_back;
        got = λ f o. tt;
        general = λ f o k. (f, (λ v l. refl), record { marks = marks_forth names f o.marks; solves = solves_forth f o.solves });
      }

-- ---- What is not open

abbrev the_var : ℕ → Bool → TyVar
the_var n b = record { num = n; eq = b }

same_var : (v w : TyVar) → v.num ≡ w.num → v.eq ≡ w.eq → v ≡ w
same_var v w n e = ap (λ k. the_var k v.eq) n ∙ ap (the_var w.num) e

is_same : (v w : TyVar) → is_var v w ≡ true → v ≡ w
is_same v w e = go v.eq w.eq refl refl (and_both (nat_eq v.num w.num) (cond v.eq w.eq (not w.eq)) e)
  where
    go : (a b : Bool) → v.eq ≡ a → w.eq ≡ b → (nat_eq v.num w.num ≡ true) × (cond v.eq w.eq (not w.eq) ≡ true) → v ≡ w
    go true true p q h = same_var v w (eqb-true v.num w.num h.0) (p ∙ sym q)
    go false false p q h = same_var v w (eqb-true v.num w.num h.0) (p ∙ sym q)
    go true false p q h = let k : w.eq ≡ true = ap (λ c. cond c w.eq (not w.eq)) (sym p) ∙ h.1 in let clash : false ≡ true = sym q ∙ k in cc
    go false true p q h = let k : not w.eq ≡ true = ap (λ c. cond c w.eq (not w.eq)) (sym p) ∙ h.1 in let clash : false ≡ true = ap not (sym q) ∙ k in cc

same_is : (v : TyVar) → is_var v v ≡ true
same_is v = ap (λ c. c && cond v.eq v.eq (not v.eq)) (eq-eqb v.num v.num refl) ∙ go v.eq
  where
    go : (a : Bool) → cond a a (not a) ≡ true
    go true = refl
    go false = refl

among_is : (vs : List TyVar) (v : TyVar) → among vs v ≡ true → IsAmong v vs
among_is [] v e = cc
among_is (w ∷ vs) v e = either (is_var v w) (among vs v) (IsAmong v (w ∷ vs)) e (λ q. inl (is_same v w q)) (λ q. inr (among_is vs v q))

is_among : (vs : List TyVar) (v : TyVar) → IsAmong v vs → among vs v ≡ true
is_among [] v m = absurd m
is_among (w ∷ vs) v (inl e) = or_left (is_var v w) (among vs v) (subst (λ (u : TyVar). is_var v u ≡ true) e (same_is v))
is_among (w ∷ vs) v (inr m) = or_right (is_var v w) (among vs v) (is_among vs v m)

pub without_kept : (left vs : List TyVar) (v : TyVar) → IsAmong v vs → has_num (without left vs) v.num ≡ false → IsAmong v left
without_kept left [] v m n = absurd m
without_kept left (w ∷ vs) v m n = go (among left w) refl m n (λ k l. without_kept left vs v k l)
  where
    go : (b : Bool) → among left w ≡ b → IsAmong v (w ∷ vs) → has_num (cond b (without left vs) (w ∷ without left vs)) v.num ≡ false → (IsAmong v vs → has_num (without left vs) v.num ≡ false → IsAmong v left) → IsAmong v left
    go true e (inl q) l k = subst (λ (u : TyVar). IsAmong u left) (sym q) (among_is left w e)
    go true e (inr i) l k = k i l
    go false e (inl q) l k = let there = among_has (w ∷ without left vs) v (inl q) in let clash : false ≡ true = sym l ∙ there in cc
    go false e (inr i) l k = k i (rest (nat_eq v.num w.num) (has_num (without left vs) v.num) l)
      where
        rest : (a b : Bool) → (a || b) ≡ false → b ≡ false
        rest true b e = cc
        rest false b e = e

pub without_out : (left vs : List TyVar) (v : TyVar) → IsAmong v (without left vs) → IsAmong v vs × (IsAmong v left → ⊥)
without_out left [] v m = absurd m
without_out left (w ∷ vs) v m = go (among left w) refl m (λ k. without_out left vs v k)
  where
    go : (b : Bool) → among left w ≡ b → IsAmong v (cond b (without left vs) (w ∷ without left vs)) → (IsAmong v (without left vs) → IsAmong v vs × (IsAmong v left → ⊥)) → IsAmong v (w ∷ vs) × (IsAmong v left → ⊥)
    go true e i k = let r = k i in (inr r.0, r.1)
    go false e (inl q) k = (inl q, λ i. let there = is_among left v i in let clash : false ≡ true = sym e ∙ ap (among left) (sym q) ∙ there in cc)
    go false e (inr i) k = let r = k i in (inr r.0, r.1)

-- ---- What is left open is a variable of the forms

pub left_known : (p : Bare) (forms : List TyForm) (starts : Starts) (settled : List (Option Settled)) (c : Context) (w : TyVar) → AreLaidOut p forms starts → AreForms forms → AreThere forms settled → IsLeftOpen p (settled_at forms settled) c w → IsFormVar forms w
left_known p forms starts settled c w laid are there (inl (u, i, few, e)) = (starts.explicit + u, laid.explicit_ones u few ∙ ap (λ (v : TyVar). Some (Var v)) (sym e))
left_known p forms starts settled c w laid are there (inr (x, i, l)) = go (joined_settled (slice_get settled x)) refl l
  where
    go : (o : Option Settled) → joined_settled (slice_get settled x) ≡ o → IsLeftBy p c w x (settled_poly forms (joined_settled (slice_get settled x))) → IsFormVar forms w
    go None q k = let r : IsLeftBy p c w x None = subst (λ (o : Option Settled). IsLeftBy p c w x (settled_poly forms o)) q k in (starts.names + x, laid.of_names x r.1 ∙ ap (λ (v : TyVar). Some (Var v)) (sym r.2))
    go (Some s) q k =
        let r : IsLeftBy p c w x (settled_poly forms (Some s)) = subst (λ (o : Option Settled). IsLeftBy p c w x (settled_poly forms o)) q k in
        at_standing (IsFormVar forms) (tree forms s.scheme.body.0) w (tree_known forms s.scheme.body.0 are.numbered (there x s q).there) r.0

-- ---- Groups and bindings

all_of : (P : Together → Type 0) (groups : List Group) → AllByRecursion P (bindings_of groups) → AllByRecursion (λ g. P g.of) groups
all_of P [] h = tt
all_of P (g ∷ groups) h = (h.0, all_of P groups h.1)

of_all : (P : Together → Type 0) (groups : List Group) → AllByRecursion (λ g. P g.of) groups → AllByRecursion P (bindings_of groups)
of_all P [] h = tt
of_all P (g ∷ groups) h = (h.0, of_all P groups h.1)

all_three : (P Q R : Group → Type 0) (groups : List Group) → ((g : Group) → P g → Q g → R g) → AllByRecursion P groups → AllByRecursion Q groups → AllByRecursion R groups
all_three P Q R [] f h k = tt
all_three P Q R (g ∷ groups) f h k = (f g h.0 k.0, all_three P Q R groups f h.1 k.1)

members : (Q : Group → Type 0) (gs : List Group) → AllByRecursion (λ g. AllByRecursion Q gs → Q g) gs
members Q [] = tt
members Q (g ∷ gs) = ((λ h. h.0), all_change (λ o. AllByRecursion Q gs → Q o) (λ o. AllByRecursion Q (g ∷ gs) → Q o) gs (λ o f h. f h.1) (members Q gs))

-- a name is one of a binding's
abbrev AnyHas : ℕ → List Together → Type 0
AnyHas x [] = ⊥
AnyHas x (b ∷ bs) = (is_in b.names x ≡ true) ⊎ AnyHas x bs

bindings_have : (nodes : List Node) (bindings : List Binding) (x : ℕ) → is_in (names_of_bindings (names_bound nodes) bindings) x ≡ true → AnyHas x (of_bindings nodes bindings)
bindings_have nodes [] x e = cc
bindings_have nodes (b ∷ bindings) x e = go (in_either (names_bound nodes b.pat) (names_of_bindings (names_bound nodes) bindings) x e) (λ q. bindings_have nodes bindings x q)
  where
    go : (is_in (names_bound nodes b.pat) x ≡ true) ⊎ (is_in (names_of_bindings (names_bound nodes) bindings) x ≡ true) → (is_in (names_of_bindings (names_bound nodes) bindings) x ≡ true → AnyHas x (of_bindings nodes bindings)) → AnyHas x (of_bindings nodes (b ∷ bindings))
    go (inl q) k = inl q
    go (inr q) k = inr (k q)

group_has : (bindings : List RecBinding) (x : ℕ) → is_in (group_names bindings) x ≡ true → AnyHas x (of_group bindings)
group_has [] x e = cc
group_has (b ∷ bindings) x e = either (nat_eq x b.name.0) (is_in (group_names bindings) x) (AnyHas x (of_group (b ∷ bindings))) e (λ q. inl (or_left (nat_eq x b.name.0) false q)) (λ q. inr (group_has bindings x q))

declaration_has : (nodes : List Node) (d : ℕ) (n : Node) (x : ℕ) → IsDeclaration n → is_in (names_of (names_bound nodes) d n) x ≡ true → AnyHas x (of_declaration nodes n)
declaration_has nodes d (node.Val us bindings) x k e = bindings_have nodes bindings x e
declaration_has nodes d (node.ValRec us bindings) x k e = group_has bindings x e
declaration_has nodes d (node.Exception y arg) x k e = inl e
declaration_has nodes d (node.SameException y c) x k e = inl e
declaration_has nodes d (node.Type bindings) x k e = cc
declaration_has nodes d (node.Datatype bindings) x k e = cc
declaration_has nodes d n x k e = absurd k

-- ---- What is closed

module _ (p : Bare) (m k : Substitution) (same : (v : TyVar) → k v ≡ m v) (forms : List TyForm) (general : List (Option (List TyVar))) (old new : ℕ → Option Poly) (list : List ℕ) (left : List TyVar) (n : Node) (groups : List Group) (of : AreGroups p m forms old n groups) (closed : AreGroupsClosed p m general old new list left groups) where
  without_none : (vs : List TyVar) → vs ≡ [] → without left vs ≡ []
  without_none vs e = ap (without left) e

  one_closed : (g : Group) → IsFound p m forms g → IsGroupClosed p m general new list left g → IsClosed p k general new g.of
  one_closed g f s =
      record {
        vars = general_of left g;
        at = s.right;
        plain = none f.plain;
        schemes = all_change (StandsAt p m new (general_of left g)) (λ x. new x ≡ Some (poly (general_of left g) (k (name_var p x)))) g.of.names (λ x r. r.1 ∙ ap (λ (t : Tree). Some (poly (general_of left g) t)) (sym (same (name_var p x)))) s.names;
      }
    where
      none : (g.vars ≡ []) ⊎ IsNonExpansive p.nodes g.of.right → (general_of left g ≡ []) ⊎ IsNonExpansive p.nodes g.of.right
      none (inl e) = inl (without_none g.vars e)
      none (inr e) = inr e

  pub declaration_closed : AllByRecursion (IsClosed p k general new) (of_declaration p.nodes n)
  declaration_closed =
      subst
      (λ (bs : List Together). AllByRecursion (IsClosed p k general new) bs)
      of.found.of
      (of_all (IsClosed p k general new) groups (all_three (IsFound p m forms) (IsGroupClosed p m general new list left) (λ g. IsClosed p k general new g.of) groups one_closed of.found.found closed.each))

  -- ---- What is fresh

  general_same : (vs ws : List TyVar) (right : Option ℕ) → IsGeneralAt general vs right → IsGeneralAt general ws right → vs ≡ ws
  general_same vs ws None h l = h ∙ sym l
  general_same vs ws (Some i) h l = let e : Some vs ≡ Some ws = sym h ∙ l in cc

  pub declaration_fresh : (c : Context) (Closed : Type 0) → Closed → AreOpen p old c m (Closed × AreWaiting groups) left → AllByRecursion (IsFreshAt p old m c general) (of_declaration p.nodes n)
  declaration_fresh c Closed shut opens =
      subst
      (λ (bs : List Together). AllByRecursion (IsFreshAt p old m c general) bs)
      of.found.of
      (of_all (IsFreshAt p old m c general) groups (all_three (λ g. AllByRecursion (λ o. o.vars ≡ []) groups → g.vars ≡ []) (IsGroupClosed p m general new list left) (λ g. IsFreshAt p old m c general g.of) groups one (members (λ g. g.vars ≡ []) groups) closed.each))
    where
      one : (g : Group) → (AllByRecursion (λ o. o.vars ≡ []) groups → g.vars ≡ []) → IsGroupClosed p m general new list left g → IsFreshAt p old m c general g.of
      one g empty s vs h =
          subst
          (λ (ws : List TyVar). AllByRecursion (IsFreshNow p old m c) ws)
          (general_same (general_of left g) vs g.of.right s.right h)
          (from_among
          (IsFreshNow p old m c)
          (general_of left g)
          (λ v i w l st.
          let r = without_out left g.vars v i in
          r.1 (opens.all (shut, λ none. subst (λ (ws : List TyVar). IsAmong v ws) (empty none) r.0) v w l st)))

  -- ---- What suits

  module _ (t : Typing) (f : Substitution) (h : Fits p t f) (suits : AllSuit old f t) (c : Context) (through : (x : ℕ) → x < length p.names → f (name_var p x) ≡ inst f (m (name_var p x))) (over : (w : TyVar) → IsLeftOpen p old c w → f w ≡ inst f (m w)) (sound : (v : TyVar) → IsAmong v left → (w : TyVar) × IsLeftOpen p old c w × Stands v (m w)) where
    empty_mono : (x : ℕ) (vs : List TyVar) → (t.schemes x).vars ≡ vs → vs ≡ [] → IsMono t x
    empty_mono x vs e q a o = ap (λ (ws : List TyVar). has_num ws a) (e ∙ q)

    one_suits : (g : Group) → IsFound p m forms g → IsGroupClosed p m general new list left g → IsTypedAt p t c g.of → (y : ℕ) → is_in g.of.names y ≡ true → Suits f (poly (general_of left g) (m (name_var p y))) (t.schemes y)
    one_suits g found s typed y i = go g.of.right refl typed
      where
        few : y < length p.names
        few = (at_in (StandsAt p m new (general_of left g)) g.of.names y s.names i).0

        mono : IsMono t y → Suits f (poly (general_of left g) (m (name_var p y))) (t.schemes y)
        mono k = mono_suits p t f h m y few (through y few) (general_of left g) k

        right : (r : ℕ) → g.of.right ≡ Some r → (u : IsTypedTogether p t c r g.of.names) → (u.vars ≡ []) ⊎ IsNonExpansive p.nodes (Some r) → Suits f (poly (general_of left g) (m (name_var p y))) (t.schemes y)
        right r q u (inl e) = mono (empty_mono y u.vars (at_in (λ x. (t.schemes x).vars ≡ u.vars) g.of.names y u.schemes i) e)
        right r q u (inr e) =
            right_suits p t f h m y few (through y few) old suits c (general_of left g) left g.vars over sound (λ v a n. without_kept left g.vars v a n) r u.vars (at_in (λ x. (t.schemes x).vars ≡ u.vars) g.of.names y u.schemes i) u.fresh (at_in (λ x. AllVars (λ w. IsAmong w g.vars) (m (name_var p x))) g.of.names y (found.each (subst (IsNonExpansive p.nodes) (sym q) e)) i)

        go : (r : Option ℕ) → g.of.right ≡ r → IsTypedRight p t c g.of.right g.of.names → Suits f (poly (general_of left g) (m (name_var p y))) (t.schemes y)
        go None q k = mono (at_in (IsMono t) g.of.names y (subst (λ (o : Option ℕ). IsTypedRight p t c o g.of.names) q k) i)
        go (Some r) q k = let u : IsTypedTogether p t c r g.of.names = subst (λ (o : Option ℕ). IsTypedRight p t c o g.of.names) q k in right r q u u.plain

    named_suits : (gs : List Group) → AllByRecursion (IsFound p m forms) gs → AllByRecursion (IsGroupClosed p m general new list left) gs → AllByRecursion (λ g. IsTypedAt p t c g.of) gs → (y : ℕ) (q : Poly) → IsNamedIn p m left gs y q → Suits f q (t.schemes y)
    named_suits [] a b d y q n = absurd n
    named_suits (g ∷ gs) a b d y q (inl n) = subst (λ (s : Poly). Suits f s (t.schemes y)) (sym n.1) (one_suits g a.0 b.0 d.0 y n.0)
    named_suits (g ∷ gs) a b d y q (inr n) = named_suits gs a.1 b.1 d.1 y q n

    pub declaration_suits : (ty : Tree) (bs : List ℕ) → HasBinds p t n → IsTypedNode p t c ty bs n → AllSuit new f t
    declaration_suits ty bs binds rule y q e = go (closed.only y q e)
      where
        typed : AllByRecursion (λ g. IsTypedAt p t c g.of) groups
        typed = all_of (IsTypedAt p t c) groups (subst (λ (xs : List Together). AllByRecursion (IsTypedAt p t c) xs) (sym of.found.of) (declaration_typed p t c f old suits ty bs n binds of.renaming rule))

        go : (old y ≡ Some q) ⊎ IsNamedIn p m left groups y q → Suits f q (t.schemes y)
        go (inl w) = suits y q w
        go (inr w) = named_suits groups of.found.found closed.each typed y q w

  -- ---- What is listed

  one_listed : (g : Group) → IsGroupClosed p m general new list left g → (x : ℕ) → is_in g.of.names x ≡ true → (is_in list x || closed_at new x) ≡ true
  one_listed g s x i =
      let here = at_in (StandsAt p m new (general_of left g)) g.of.names x s.names i in
      let l = at_in (IsListed p m list (general_of left g)) g.of.names x s.listed i in
      subst (λ b. (is_in list x || b) ≡ true) (sym (ap is_closed here.1)) l

  named_listed : (gs : List Group) → AllByRecursion (IsGroupClosed p m general new list left) gs → (x : ℕ) → AnyHas x (bindings_of gs) → (is_in list x || closed_at new x) ≡ true
  named_listed [] h x n = absurd n
  named_listed (g ∷ gs) h x (inl n) = one_listed g h.0 x n
  named_listed (g ∷ gs) h x (inr n) = named_listed gs h.1 x n

  pub declaration_listed : (d : ℕ) → IsNumbered p.nodes → slice_get p.nodes d ≡ Some n → (x : ℕ) → is_in (names_bound p.nodes d) x ≡ true → (is_in list x || closed_at new x) ≡ true
  declaration_listed d numbered q x i =
      named_listed
      groups
      closed.each
      x
      (subst (λ (bs : List Together). AnyHas x bs) (sym of.found.of) (declaration_has p.nodes d n x of.declares (subst (λ (xs : List ℕ). is_in xs x ≡ true) (names_at p.nodes d n numbered q) i)))

-- ---- A whole call

pub let_same : (nodes : List Node) (at dec d : ℕ) (n : Node) (o : Option ℕ) → o ≡ declared_at (slice_get nodes at) → o ≡ Some dec → IsLetAt nodes at d n → (dec ≡ d) × (slice_get nodes dec ≡ Some n)
let_same nodes at dec d n o e f l =
    let one : Some dec ≡ Some d = sym f ∙ e ∙ ap declared_at l.here in
    let same : dec ≡ d = cc in
    (same, ap (slice_get nodes) same ∙ l.declares)

pub found_vars : (p : Bare) (m : Substitution) (forms : List TyForm) (groups : List Group) → AllByRecursion (IsFound p m forms) groups → AllByRecursion (λ g. AreVars forms g.vars) groups
found_vars p m forms groups h = all_change (IsFound p m forms) (λ g. AreVars forms g.vars) groups (λ g f. f.vars_are) h

pub found_none : (p : Bare) (m : Substitution) (forms : List TyForm) (groups : List Group) → AllByRecursion (IsFound p m forms) groups → AllByRecursion (λ g. g.of.right ≡ None → g.vars ≡ []) groups
found_none p m forms groups h = all_change (IsFound p m forms) (λ g. g.of.right ≡ None → g.vars ≡ []) groups one h
  where
    one : (g : Group) → IsFound p m forms g → g.of.right ≡ None → g.vars ≡ []
    one g f e = go f.plain
      where
        go : (g.vars ≡ []) ⊎ IsNonExpansive p.nodes g.of.right → g.vars ≡ []
        go (inl q) = q
        go (inr k) = let none : IsNonExpansive p.nodes None = subst (IsNonExpansive p.nodes) e k in absurd none

named_few : (p : Bare) (m : Substitution) (general : List (Option (List TyVar))) (new : ℕ → Option Poly) (list : List ℕ) (left : List TyVar) (gs : List Group) (y : ℕ) (q : Poly) → AllByRecursion (IsGroupClosed p m general new list left) gs → IsNamedIn p m left gs y q → (y < length p.names) × (q.body ≡ m (name_var p y))
named_few p m general new list left [] y q h n = absurd n
named_few p m general new list left (g ∷ gs) y q h (inl n) = ((at_in (StandsAt p m new (general_of left g)) g.of.names y h.0.names n.0).0, ap (λ (s : Poly). s.body) n.1)
named_few p m general new list left (g ∷ gs) y q h (inr n) = named_few p m general new list left gs y q h.1 n

module _ (p : Bare) (starts : Starts) (a b : Unknowns) (x y : List (Option Settled)) (are : AreForms a.types) (bindings : AreBindings a.types a.subst.bound) (laid : AreLaidOut p a.types starts) (there : AreThere a.types x) (g : Grows a b x y) where
  name_through : (f : Substitution) → Solves a.types a.subst.bound f → (n : ℕ) → n < length p.names → f (name_var p n) ≡ inst f (meaning a (name_var p n))
  name_through f s n few = meant_through a.types a.subst.bound (solved_of a.types a.subst.bound are bindings) f s (name_var p n) (starts.names + n, laid.of_names n few)

  module _ (general : List (Option (List TyVar))) (list : List ℕ) (left : List TyVar) (groups : List Group) (closed : AreGroupsClosed p (meaning a) general (settled_at a.types x) (settled_at b.types y) list left groups) where
    pub bodies_grown : AreBodies p a (settled_at a.types x) → AreBodies p b (settled_at b.types y)
    bodies_grown h n q e f s = go (closed.only n q e)
      where
        go : (settled_at a.types x n ≡ Some q) ⊎ IsNamedIn p (meaning a) left groups n q → inst f q.body ≡ f (name_var p n)
        go (inl w) = h n q w f (solves_back a b x y g bindings f s)
        go (inr w) =
            let r = named_few p (meaning a) general (settled_at b.types y) list left groups n q closed.each w in
            ap (inst f) r.1 ∙ sym (name_through f (solves_back a b x y g bindings f s) n r.0)

    pub all_suited : (contexts : ℕ → Option Context) (at dec : ℕ) (o : Option ℕ) (Closed : Context → Type 0) → o ≡ declared_at (slice_get p.nodes at) → o ≡ Some dec → ((n : Node) → slice_get p.nodes dec ≡ Some n → AreGroups p (meaning a) a.types (settled_at a.types x) n groups) → ((c : Context) → contexts at ≡ Some c → AreOpen p (settled_at a.types x) c (meaning a) (Closed c) left) → StaysSuited p contexts at a (settled_at a.types x) (settled_at b.types y)
    all_suited contexts at dec o Closed e i of opens t f c d n s fits suits w l binds rule =
        declaration_suits
        p
        (meaning a)
        (meaning a)
        (λ v. refl)
        a.types
        general
        (settled_at a.types x)
        (settled_at b.types y)
        list
        left
        n
        groups
        (of n (let_same p.nodes at dec d n o e i l).1)
        closed
        t
        f
        fits
        suits
        c
        (name_through f s)
        (λ v k. meant_through a.types a.subst.bound (solved_of a.types a.subst.bound are bindings) f s v (left_known p a.types starts x c v laid are there k))
        (opens c w).each
        (t.types d)
        (t.binds d)
        binds
        rule
