-- Scopes, what they stand for, and how nodes get them.
use Rattle.std.proofs.Common.{◌≡◌, ℕ, zero, suc, ◌+◌, ◌<◌, Bool, true, false, ◌||◌, List, [], ◌∷◌, ◌++◌, length, Option, Some, None, Result, Ok, Err, ◌⊎◌, inl, inr, refl, sym, ap, ◌∙◌, subst, arith, take, get_or}
use Rattle.std.specs.Prelude.{slice_get, slice_set, nat_eq, map, IfOk}
use Rattle.std.specs.List.{AllByRecursion}
use Rattle.std.proofs.lemmas.Bool.{eq-eqb}
use Rattle.std.proofs.lemmas.List.{take_more}
use Rattle.std.proofs.lemmas.List.Folds.{list_any-append}
use Rattle.sml_tree.specs.declared.bare.Rule.{Rule}
use Rattle.sml_tree.specs.declared.bare.Binding.{Binding}
use Rattle.sml_tree.specs.declared.bare.RecBinding.{RecBinding}
use Rattle.sml_tree.specs.declared.bare.DatBinding.{DatBinding}
use Rattle.sml_tree.specs.declared.bare.Node.{Node}
use Rattle.sml_types.specs.Poly.{Context, is_in, with_tyvars, with_names, with_own}
use Rattle.sml_types.specs.Typing.{group_names, type_numbers}
use Rattle.infer_state.specs.Names.{Inside, inside, IsOneOf, AreEntered, names_bound, in_rules, in_bindings}
use Rattle.infer_scopes.specs.declared.chains.Cell.{Cell}
use Rattle.infer_scopes.specs.declared.scope.Scope.{Scope}
use Rattle.infer_scopes.specs.Chains.{chain, IsMore}
use Rattle.infer_scopes.specs.Scopes.{Stored, Standing, standing, standing_in, standings_of, context_in, contexts_of, IsScope, AreScopes, grown, IsOpen, AllOpen, AreOpen, Enters}
use Rattle.infer_scopes.proofs.ChainFacts.{in_rest, more_self, more_trans, among_more}

pub if_ok : {T E : Type 0} (r : Result T E) (P Q : T → Type 0) → ((x : T) → P x → Q x) → IfOk r P → IfOk r Q
if_ok (Ok x) P Q f h = f x h
if_ok (Err e) P Q f h = h

in_front : (x : ℕ) (ys : List ℕ) → is_in (x ∷ ys) x ≡ true
in_front x ys = ap (λ b. b || is_in ys x) (eq-eqb x x refl)

pub all_in : (xs ys : List ℕ) → ((x : ℕ) → is_in xs x ≡ true → is_in ys x ≡ true) → AllByRecursion (λ x. is_in ys x ≡ true) xs
all_in [] ys f = tt
all_in (x ∷ xs) ys f = (f x (in_front x xs), all_in xs ys (λ z h. f z (in_rest z x xs h)))

abbrev stored : List Cell → List (Option Scope) → Stored
stored cells scopes = record { cells = cells; scopes = scopes }

-- ---- What a scope stands for

pub standing_is : (s : Stored) (i : ℕ) (scope : Scope) → slice_get s.scopes i ≡ Some (Some scope) → standings_of s i ≡ Some (standing s.cells scope)
standing_is s i scope q = ap (standing_in s.cells) q

pub context_is : (s : Stored) (i : ℕ) (scope : Scope) (c : Context) → slice_get s.scopes i ≡ Some (Some scope) → contexts_of s i ≡ Some c → (standing s.cells scope).context ≡ c
context_is s i scope c q e = let is : contexts_of s i ≡ Some (standing s.cells scope).context = ap context_in (standing_is s i scope q) in some_eq (standing s.cells scope).context c (sym is ∙ e)
  where
    some_eq : (x y : Context) → Some x ≡ Some y → x ≡ y
    some_eq x y e = cc

-- a node with a scope has a context
pub context_there : (s : Stored) (i : ℕ) (scope : Scope) → slice_get s.scopes i ≡ Some (Some scope) → (c : Context) × (contexts_of s i ≡ Some c)
context_there s i scope q = ((standing s.cells scope).context, ap context_in (standing_is s i scope q))

-- the unclosed names are bound
pub unclosed_bound : (s : Stored) (i : ℕ) (scope : Scope) (c : Context) (v : List ℕ) → slice_get s.scopes i ≡ Some (Some scope) → IsScope s.cells scope → v ≡ chain s.cells scope.unclosed → contexts_of s i ≡ Some c → AllByRecursion (λ x. is_in c.names x ≡ true) v
unclosed_bound s i scope c v q is e h =
    subst (λ (d : Context). AllByRecursion (λ x. is_in d.names x ≡ true) v) (context_is s i scope c q h) (subst (λ xs. AllByRecursion (λ x. is_in (chain s.cells scope.names) x ≡ true) xs) (sym e) (all_in (chain s.cells scope.unclosed) (chain s.cells scope.names) is.inner))

-- all others pass the test
pub all_others : (s : Stored) (i : ℕ) (scope : Scope) (c : Context) (v : List ℕ) → slice_get s.scopes i ≡ Some (Some scope) → v ≡ chain s.cells scope.unclosed → contexts_of s i ≡ Some c → (p : ℕ → Bool) → AllOpen p s → AreOpen p c.names v
all_others s i scope c v q e h p all =
    subst (λ (d : Context). AreOpen p d.names v) (context_is s i scope c q h) (subst (AreOpen p (chain s.cells scope.names)) (sym e) (all i (standing s.cells scope) (standing_is s i scope q)))

-- ---- More cells

pub scope_more : (old new : List Cell) (scope : Scope) → IsMore old new → IsScope old scope → IsScope new scope
scope_more old new scope m is =
    record {
      type_names = m.below scope.type_names is.type_names;
      tyvars = m.below scope.tyvars is.tyvars;
      names = m.below scope.names is.names;
      own = m.below scope.own is.own;
      unclosed = m.below scope.unclosed is.unclosed;
      inner = among_more old new scope.unclosed scope.names m is.unclosed is.names is.inner;
    }

abbrev pub lists : List ℕ → List ℕ → List ℕ → List ℕ → List ℕ → Standing
lists a b c d e = record { context = record { type_names = a; tyvars = b; names = c; own = d }; unclosed = e }

pub same_lists : (a b c d e a' b' c' d' e' : List ℕ) → a ≡ a' → b ≡ b' → c ≡ c' → d ≡ d' → e ≡ e' → lists a b c d e ≡ lists a' b' c' d' e'
same_lists a b c d e a' b' c' d' e' p q r s t = cc

pub standing_more : (old new : List Cell) (scope : Scope) → IsMore old new → IsScope old scope → standing new scope ≡ standing old scope
standing_more old new scope m is =
    same_lists (chain new scope.type_names) (chain new scope.tyvars) (chain new scope.names) (chain new scope.own) (chain new scope.unclosed) (chain old scope.type_names) (chain old scope.tyvars) (chain old scope.names) (chain old scope.own) (chain old scope.unclosed) (m.same scope.type_names is.type_names) (m.same scope.tyvars is.tyvars) (m.same scope.names is.names) (m.same scope.own is.own) (m.same scope.unclosed is.unclosed)

pub scopes_more : (old new : List Cell) (scopes : List (Option Scope)) → IsMore old new → AreScopes (record { cells = old; scopes = scopes }) → AreScopes (record { cells = new; scopes = scopes })
scopes_more old new scopes m all i scope q = scope_more old new scope m (all i scope q)

-- ---- One more scope

set_here : {A : Type 0} (xs : List A) (at : ℕ) (x y : A) → slice_get xs at ≡ Some y → slice_get (slice_set xs at x) at ≡ Some x
set_here [] at x y q = cc
set_here (z ∷ xs) zero x y q = refl
set_here (z ∷ xs) (suc at) x y q = set_here xs at x y q

set_get : {A : Type 0} (xs : List A) (at i : ℕ) (x y : A) → slice_get (slice_set xs at x) i ≡ Some y → ((i ≡ at) × (x ≡ y)) ⊎ (slice_get xs i ≡ Some y)
set_get [] at i x y q = inr q
set_get (z ∷ xs) zero zero x y q = inl (refl, cc)
set_get (z ∷ xs) zero (suc i) x y q = inr q
set_get (z ∷ xs) (suc at) zero x y q = inr q
set_get (z ∷ xs) (suc at) (suc i) x y q = next (set_get xs at i x y q)
  where
    next : ((i ≡ at) × (x ≡ y)) ⊎ (slice_get xs i ≡ Some y) → ((suc i ≡ suc at) × (x ≡ y)) ⊎ (slice_get xs i ≡ Some y)
    next (inl e) = inl (let n = e.0 in omega arith, e.1)
    next (inr e) = inr e

-- what is not the old item stays
set_keeps : {A : Type 0} (xs : List A) (at i : ℕ) (x y z : A) → slice_get xs at ≡ Some z → (y ≡ z → ⊥) → slice_get xs i ≡ Some y → slice_get (slice_set xs at x) i ≡ Some y
set_keeps [] at i x y z q n h = h
set_keeps (w ∷ xs) zero zero x y z q n h = let e : y ≡ z = cc in absurd (n e)
set_keeps (w ∷ xs) zero (suc i) x y z q n h = h
set_keeps (w ∷ xs) (suc at) zero x y z q n h = h
set_keeps (w ∷ xs) (suc at) (suc i) x y z q n h = set_keeps xs at i x y z q n h

pub scopes_set : (s : Stored) (at : ℕ) (scope : Scope) → IsScope s.cells scope → AreScopes s → AreScopes (record { cells = s.cells; scopes = slice_set s.scopes at (Some scope) })
scopes_set s at scope is all i other q = go (set_get s.scopes at i (Some scope) (Some other) q)
  where
    go : ((i ≡ at) × (Some scope ≡ Some other)) ⊎ (slice_get s.scopes i ≡ Some (Some other)) → IsScope s.cells other
    go (inl e) = let same : scope ≡ other = let f = e.1 in cc in subst (IsScope s.cells) same is
    go (inr e) = all i other e

-- a node that has a context has a scope
pub has_scope : (s : Stored) (i : ℕ) (t : Standing) → standings_of s i ≡ Some t → (scope : Scope) × (slice_get s.scopes i ≡ Some (Some scope)) × (standing s.cells scope ≡ t)
has_scope s i t e = go (slice_get s.scopes i) refl
  where
    go : (o : Option (Option Scope)) → slice_get s.scopes i ≡ o → (scope : Scope) × (slice_get s.scopes i ≡ Some (Some scope)) × (standing s.cells scope ≡ t)
    go (Some (Some scope)) q = (scope, q, let f : Some (standing s.cells scope) ≡ Some t = ap (standing_in s.cells) (sym q) ∙ e in cc)
    go (Some None) q = let f : None ≡ Some t = ap (standing_in s.cells) (sym q) ∙ e in cc
    go None q = let f : None ≡ Some t = ap (standing_in s.cells) (sym q) ∙ e in cc

pub has_standing : (s : Stored) (i : ℕ) (c : Context) → contexts_of s i ≡ Some c → (t : Standing) × (standings_of s i ≡ Some t) × (t.context ≡ c)
has_standing s i c e = go (standings_of s i) refl
  where
    go : (o : Option Standing) → standings_of s i ≡ o → (t : Standing) × (standings_of s i ≡ Some t) × (t.context ≡ c)
    go (Some t) q = (t, q, let f : Some t.context ≡ Some c = ap context_in (sym q) ∙ e in cc)
    go None q = let f : None ≡ Some c = ap context_in (sym q) ∙ e in cc

-- each standing after a step is one from before, or one of a node that got it
abbrev Brings : Stored → Stored → Type 0
Brings old new = (i : ℕ) (t : Standing) → standings_of old i ≡ Some t → standings_of new i ≡ Some t

contexts_kept : (old new : Stored) → Brings old new → (i : ℕ) (c : Context) → contexts_of old i ≡ Some c → contexts_of new i ≡ Some c
contexts_kept old new b i c e = let h = has_standing old i c e in ap context_in (b i h.0 h.1) ∙ ap (λ (d : Context). Some d) h.2

module _ (s : Stored) (at : ℕ) (scope : Scope) (q : slice_get s.scopes at ≡ Some None) where
  abbrev put_there : Stored
  put_there = record { cells = s.cells; scopes = slice_set s.scopes at (Some scope) }

  some_one : (x : Scope) → Some x ≡ None → ⊥
  some_one x e = cc

  brought : Brings s put_there
  brought i t e =
      let h = has_scope s i t e in
      ap (standing_in s.cells) (set_keeps s.scopes at i (Some scope) (Some h.0) None q (some_one h.0) h.1) ∙ ap (λ (u : Standing). Some u) h.2

  here : standings_of put_there at ≡ Some (standing s.cells scope)
  here = ap (standing_in s.cells) (set_here s.scopes at (Some scope) None q)

  after : (i : ℕ) (t : Standing) → standings_of put_there i ≡ Some t → ((i ≡ at) × (standing s.cells scope ≡ t)) ⊎ (standings_of s i ≡ Some t)
  after i t e = let h = has_scope put_there i t e in go h.0 h.2 (set_get s.scopes at i (Some scope) (Some h.0) h.1)
    where
      go : (other : Scope) → standing s.cells other ≡ t → ((i ≡ at) × (Some scope ≡ Some other)) ⊎ (slice_get s.scopes i ≡ Some (Some other)) → ((i ≡ at) × (standing s.cells scope ≡ t)) ⊎ (standings_of s i ≡ Some t)
      go other is (inl f) = inl (f.0, let same : scope ≡ other = let g = f.1 in cc in ap (standing s.cells) same ∙ is)
      go other is (inr f) = inr (ap (standing_in s.cells) f ∙ ap (λ (u : Standing). Some u) is)

  only_here : (i : ℕ) (c : Context) → contexts_of put_there i ≡ Some c → (contexts_of s i ≡ Some c) ⊎ IsOneOf (inside c i) (inside (standing s.cells scope).context at ∷ [])
  only_here i c e = let h = has_standing put_there i c e in go h.0 h.2 (after i h.0 h.1)
    where
      go : (t : Standing) → t.context ≡ c → ((i ≡ at) × (standing s.cells scope ≡ t)) ⊎ (standings_of s i ≡ Some t) → (contexts_of s i ≡ Some c) ⊎ IsOneOf (inside c i) (inside (standing s.cells scope).context at ∷ [])
      go t is (inl f) = let context : (standing s.cells scope).context ≡ c = ap (λ (u : Standing). u.context) f.1 ∙ is in inr (inl (ap (λ k. inside c k) f.0 ∙ ap (λ (d : Context). inside d at) (sym context)))
      go t is (inr f) = inl (ap context_in f ∙ ap (λ (d : Context). Some d) is)

  closed_here : (p : ℕ → Bool) → AllOpen p s → IsOpen p (standing s.cells scope) → AllOpen p put_there
  closed_here p all around i t e = go (after i t e)
    where
      go : ((i ≡ at) × (standing s.cells scope ≡ t)) ⊎ (standings_of s i ≡ Some t) → IsOpen p t
      go (inl f) = subst (IsOpen p) f.1 around
      go (inr f) = all i t f

  -- a node that had none gets a scope
  pub entered_put : Enters (inside (standing s.cells scope).context at ∷ []) (standing s.cells scope) s put_there
  entered_put =
      record {
        entered = record { kept = contexts_kept s put_there brought; put = (ap context_in here, tt); only = only_here };
        more = more_self s.cells;
        closed = closed_here;
      }

-- ---- Steps one behind the other

one_of_left : (x : Inside) (xs ys : List Inside) → IsOneOf x xs → IsOneOf x (xs ++ ys)
one_of_left x [] ys h = absurd h
one_of_left x (z ∷ xs) ys (inl e) = inl e
one_of_left x (z ∷ xs) ys (inr e) = inr (one_of_left x xs ys e)

one_of_right : (x : Inside) (xs ys : List Inside) → IsOneOf x ys → IsOneOf x (xs ++ ys)
one_of_right x [] ys h = h
one_of_right x (z ∷ xs) ys h = inr (one_of_right x xs ys h)

all_both : (P Q : Inside → Type 0) → ((x : Inside) → P x → Q x) → (xs ys : List Inside) → AllByRecursion P xs → AllByRecursion Q ys → AllByRecursion Q (xs ++ ys)
all_both P Q f [] ys h k = k
all_both P Q f (x ∷ xs) ys h k = (f x h.0, all_both P Q f xs ys h.1 k)

pub entered_both : (xs ys : List Inside) (a b c : ℕ → Option Context) → AreEntered xs a b → AreEntered ys b c → AreEntered (xs ++ ys) a c
entered_both xs ys a b c f g =
    record {
      kept = λ i d e. g.kept i d (f.kept i d e);
      put = all_both (λ x. b x.node ≡ Some x.context) (λ x. c x.node ≡ Some x.context) (λ x e. g.kept x.node x.context e) xs ys f.put g.put;
      only = λ i d e. go i d (g.only i d e);
    }
  where
    next : (i : ℕ) (d : Context) → (a i ≡ Some d) ⊎ IsOneOf (inside d i) xs → (a i ≡ Some d) ⊎ IsOneOf (inside d i) (xs ++ ys)
    next i d (inl e) = inl e
    next i d (inr e) = inr (one_of_left (inside d i) xs ys e)

    go : (i : ℕ) (d : Context) → (b i ≡ Some d) ⊎ IsOneOf (inside d i) ys → (a i ≡ Some d) ⊎ IsOneOf (inside d i) (xs ++ ys)
    go i d (inl e) = next i d (f.only i d e)
    go i d (inr e) = inr (one_of_right (inside d i) xs ys e)

pub enters_both : (xs ys : List Inside) (t : Standing) (a b c : Stored) → Enters xs t a b → Enters ys t b c → Enters (xs ++ ys) t a c
enters_both xs ys t a b c f g =
    record {
      entered = entered_both xs ys (contexts_of a) (contexts_of b) (contexts_of c) f.entered g.entered;
      more = more_trans a.cells b.cells c.cells f.more g.more;
      closed = λ p all around. g.closed p (f.closed p all around) around;
    }

pub enters_none : (t : Standing) (a : Stored) → Enters [] t a a
enters_none t a =
    record {
      entered = record { kept = λ i c e. e; put = tt; only = λ i c e. inl e };
      more = more_self a.cells;
      closed = λ p all around. all;
    }

-- what is around may have more names that are closed
pub enters_around : (xs : List Inside) (t u : Standing) (a b : Stored) → ((p : ℕ → Bool) → IsOpen p t → IsOpen p u) → Enters xs u a b → Enters xs t a b
enters_around xs t u a b f g = record { entered = g.entered; more = g.more; closed = λ p all around. g.closed p all (f p around) }

-- a step in a scope, and one in the same scope
pub enters_then : (xs ys : Standing → List Inside) (scope : Scope) (a b c : Stored) → IsScope a.cells scope → Enters (xs (standing a.cells scope)) (standing a.cells scope) a b → Enters (ys (standing b.cells scope)) (standing b.cells scope) b c → Enters (xs (standing a.cells scope) ++ ys (standing a.cells scope)) (standing a.cells scope) a c
enters_then xs ys scope a b c is f g =
    enters_both (xs (standing a.cells scope)) (ys (standing a.cells scope)) (standing a.cells scope) a b c f (subst (λ (t : Standing). Enters (ys t) t b c) (standing_more a.cells b.cells scope f.more is) g)

-- ---- Growing

same_at : (old new : List Cell) (scopes : List (Option Scope)) → IsMore old new → AreScopes (record { cells = old; scopes = scopes }) → (i : ℕ) → standings_of (record { cells = new; scopes = scopes }) i ≡ standings_of (record { cells = old; scopes = scopes }) i
same_at old new scopes m all i = go (slice_get scopes i) refl
  where
    go : (o : Option (Option Scope)) → slice_get scopes i ≡ o → standing_in new o ≡ standing_in old o
    go (Some (Some scope)) q = ap (λ (t : Standing). Some t) (standing_more old new scope m (all i scope q))
    go (Some None) q = refl
    go None q = refl

-- more cells change no context
pub enters_more : (old new : List Cell) (scopes : List (Option Scope)) (t : Standing) → IsMore old new → AreScopes (record { cells = old; scopes = scopes }) → Enters [] t (record { cells = old; scopes = scopes }) (record { cells = new; scopes = scopes })
enters_more old new scopes t m all =
    record {
      entered = record { kept = λ i c e. ap context_in (same i) ∙ e; put = tt; only = λ i c e. inl (ap context_in (sym (same i)) ∙ e) };
      more = m;
      closed = λ p open_ around i u e. open_ i u (sym (same i) ∙ e);
    }
  where
    same : (i : ℕ) → standings_of (record { cells = new; scopes = scopes }) i ≡ standings_of (record { cells = old; scopes = scopes }) i
    same i = same_at old new scopes m all i

in_append : (xs ys : List ℕ) (x : ℕ) → is_in (xs ++ ys) x ≡ (is_in xs x || is_in ys x)
in_append xs ys x = list_any-append (nat_eq x) xs ys

either : (a b c d p : Bool) → (a || b) ≡ true → (a ≡ true → (c || p) ≡ true) → (b ≡ true → (d || p) ≡ true) → ((c || d) || p) ≡ true
either true b true d p e f g = refl
either true b false true p e f g = refl
either true b false false p e f g = f refl
either false true true d p e f g = refl
either false true false d p e f g = g refl
either false false c d p e f g = cc

pub grown_open : (ts us ns os vs : List ℕ) (t : Standing) (p : ℕ → Bool) → AreOpen p ns vs → IsOpen p t → IsOpen p (grown ts us ns os vs t)
grown_open ts us ns os vs t p f g x h =
    ap (λ b. b || p x) (in_append vs t.unclosed x) ∙ either (is_in ns x) (is_in t.context.names x) (is_in vs x) (is_in t.unclosed x) (p x) (sym (in_append ns t.context.names x) ∙ h) (f x) (g x)

pub own_open : (p : ℕ → Bool) (xs : List ℕ) → AreOpen p xs xs
own_open p xs x h = ap (λ b. b || p x) h

-- ---- Loops

pub loop_step : {A : Type 0} (f : List A → List Inside) → ((xs ys : List A) → f (xs ++ ys) ≡ f xs ++ f ys) → (xs : List A) (i : ℕ) (d : A) → i < length xs → f (take i xs) ++ f (get_or xs i d ∷ []) ≡ f (take (i + 1) xs)
loop_step f hom xs i d l = sym (ap f (take_more xs i d l) ∙ hom (take i xs) (get_or xs i d ∷ []))

pub map_both : {A : Type 0} (g : A → Inside) (xs ys : List A) → map g (xs ++ ys) ≡ map g xs ++ map g ys
map_both g [] ys = refl
map_both g (x ∷ xs) ys = ap (λ l. g x ∷ l) (map_both g xs ys)

pub rules_both : (nodes : List Node) (c : Context) (xs ys : List Rule) → in_rules nodes c (xs ++ ys) ≡ in_rules nodes c xs ++ in_rules nodes c ys
rules_both nodes c [] ys = refl
rules_both nodes c (r ∷ xs) ys = ap (λ l. inside c r.pat ∷ inside (with_names (names_bound nodes r.pat) c) r.body ∷ l) (rules_both nodes c xs ys)

pub bindings_both : (c : Context) (xs ys : List Binding) → in_bindings c (xs ++ ys) ≡ in_bindings c xs ++ in_bindings c ys
bindings_both c [] ys = refl
bindings_both c (b ∷ xs) ys = ap (λ l. inside c b.pat ∷ inside c b.right ∷ l) (bindings_both c xs ys)

-- one more item of a list is gone through
pub one_further : {A : Type 0} (f : Context → List A → List Inside) → ((c : Context) (xs ys : List A) → f c (xs ++ ys) ≡ f c xs ++ f c ys) → (xs : List A) (i : ℕ) (d x : A) (scope : Scope) (a b c : Stored) → i < length xs → x ≡ get_or xs i d → IsScope a.cells scope → Enters (f (standing a.cells scope).context (take i xs)) (standing a.cells scope) a b → Enters (f (standing b.cells scope).context (x ∷ [])) (standing b.cells scope) b c → Enters (f (standing a.cells scope).context (take (i + 1) xs)) (standing a.cells scope) a c
one_further f hom xs i d x scope a b c l e is g h =
    subst
    (λ items. Enters items (standing a.cells scope) a c)
    (ap (λ y. f (standing a.cells scope).context (take i xs) ++ f (standing a.cells scope).context (y ∷ [])) e ∙ loop_step (f (standing a.cells scope).context) (hom (standing a.cells scope).context) xs i d l)
    (enters_then (λ t. f t.context (take i xs)) (λ t. f t.context (x ∷ [])) scope a b c is g h)

-- a node gets a scope, in the words of the code
pub put_gives : (old : Stored) (cells : List Cell) (scopes new : List (Option Scope)) (at : ℕ) (scope : Scope) → record { cells = cells; scopes = scopes } ≡ old → slice_get old.scopes at ≡ Some None → new ≡ slice_set scopes at (Some scope) → Enters (inside (standing old.cells scope).context at ∷ []) (standing old.cells scope) old (record { cells = cells; scopes = new })
put_gives old cells scopes new at scope view free is =
    subst
    (λ (n : Stored). Enters (inside (standing old.cells scope).context at ∷ []) (standing old.cells scope) old n)
    (ap (λ (o : Stored). stored o.cells (slice_set o.scopes at (Some scope))) (sym view) ∙ ap (stored cells) (sym is))
    (entered_put old at scope free)

pub grow_gives : (old : Stored) (cells new : List Cell) (scopes : List (Option Scope)) (t : Standing) → record { cells = cells; scopes = scopes } ≡ old → IsMore cells new → AreScopes (record { cells = cells; scopes = scopes }) → Enters [] t old (record { cells = new; scopes = scopes })
grow_gives old cells new scopes t view m all = subst (λ (o : Stored). Enters [] t o (stored new scopes)) view (enters_more cells new scopes t m all)

-- a step in a scope that has more than the one around
pub inner_gives : (scope inner : Scope) (a b c : Stored) (ts us ns os vs : List ℕ) (ys : Standing → List Inside) → ((p : ℕ → Bool) → AreOpen p ns vs) → Enters [] (standing a.cells scope) a b → standing b.cells inner ≡ grown ts us ns os vs (standing a.cells scope) → Enters (ys (standing b.cells inner)) (standing b.cells inner) b c → Enters (ys (grown ts us ns os vs (standing a.cells scope))) (standing a.cells scope) a c
inner_gives scope inner a b c ts us ns os vs ys f g e h =
    enters_both [] (ys (grown ts us ns os vs (standing a.cells scope))) (standing a.cells scope) a b c g
    (enters_around (ys (grown ts us ns os vs (standing a.cells scope))) (standing a.cells scope) (grown ts us ns os vs (standing a.cells scope)) b c (λ p. grown_open ts us ns os vs (standing a.cells scope) p (f p)) (subst (λ (w : Standing). Enters (ys w) w b c) e h))

pub rule_gives : (nodes : List Node) (r : Rule) (scope inner : Scope) (a b c d : Stored) (names ns : List ℕ) → IsScope a.cells scope → Enters (inside (standing a.cells scope).context r.pat ∷ []) (standing a.cells scope) a b → names ≡ names_bound nodes r.pat → ns ≡ names → Enters [] (standing b.cells scope) b c → standing c.cells inner ≡ grown [] [] ns [] ns (standing b.cells scope) → Enters (inside (standing c.cells inner).context r.body ∷ []) (standing c.cells inner) c d → Enters (in_rules nodes (standing a.cells scope).context (r ∷ [])) (standing a.cells scope) a d
rule_gives nodes r scope inner a b c d names ns is f bound same g e h =
    subst
    (λ xs. Enters (inside (standing a.cells scope).context r.pat ∷ inside (with_names xs (standing a.cells scope).context) r.body ∷ []) (standing a.cells scope) a d)
    (same ∙ bound)
    (enters_then (λ t. inside t.context r.pat ∷ []) (λ t. inside (with_names ns t.context) r.body ∷ []) scope a b d is f (inner_gives scope inner b c d [] [] ns [] ns (λ t. inside t.context r.body ∷ []) (λ p. own_open p ns) g e h))

pub group_map : (bindings : List RecBinding) → map (λ b. b.name.0) bindings ≡ group_names bindings
group_map [] = refl
group_map (b ∷ bindings) = ap (λ l. b.name.0 ∷ l) (group_map bindings)

pub numbers_map : (bindings : List DatBinding) → map (λ b. b.type_name) bindings ≡ type_numbers bindings
numbers_map [] = refl
numbers_map (b ∷ bindings) = ap (λ l. b.type_name ∷ l) (numbers_map bindings)

pub group_gives : (bindings : List RecBinding) (scope inner : Scope) (a b c : Stored) (us ns os vs : List ℕ) → ns ≡ group_names bindings → os ≡ group_names bindings → vs ≡ group_names bindings → Enters [] (standing a.cells scope) a b → standing b.cells inner ≡ grown [] us ns os vs (standing a.cells scope) → Enters (map (λ x. inside (standing b.cells inner).context x.right) bindings) (standing b.cells inner) b c → Enters (map (λ x. inside (with_tyvars us (with_own (group_names bindings) (standing a.cells scope).context)) x.right) bindings) (standing a.cells scope) a c
group_gives bindings scope inner a b c us ns os vs n o v g e h =
    inner_gives scope inner a b c [] us (group_names bindings) (group_names bindings) (group_names bindings) (λ t. map (λ x. inside t.context x.right) bindings) (λ p. own_open p (group_names bindings)) g
    (e ∙ ap (λ xs. grown [] us xs os vs (standing a.cells scope)) n ∙ ap (λ xs. grown [] us (group_names bindings) xs vs (standing a.cells scope)) o ∙ ap (λ xs. grown [] us (group_names bindings) (group_names bindings) xs (standing a.cells scope)) v)
    h

-- no name is closed by a step around which none is
pub closed_around : (items : List Inside) (scope : Scope) (a b : Stored) (i : ℕ) → slice_get a.scopes i ≡ Some (Some scope) → Enters items (standing a.cells scope) a b → (p : ℕ → Bool) → AllOpen p a → AllOpen p b
closed_around items scope a b i q h p all = h.closed p all (all i (standing a.cells scope) (standing_is a i scope q))
