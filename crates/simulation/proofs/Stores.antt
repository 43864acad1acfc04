-- Laws of machines that work on a list of items: none takes anything back, and class records stay named.
use Rattle.std.proofs.Common.{◌≡◌, ◌≢◌, ℕ, ◌+◌, ◌<◌, List, [], ◌∷◌, ◌++◌, map, set, length, Option, Some, None, slice_get, Bool, true, false, cond, ◌&&◌, ◌==◌, refl, sym, ap, ◌∙◌, subst, arith, ⊎_elim, ◌⊎◌, inl, inr, eqb-true, append-nil}
use Rattle.smlc_base.specs.declared.point.Point.{Point}
use Rattle.simulation.specs.Blocks.{Kind, Closure, Frame, Datum, ClassRecord, SpillRecord, Inside, Block, IsAmong, IsPrefix, StandsAt, Grows}
use Rattle.simulation.specs.Keeps.{AllNamed, HasTidyReach, IsTidy}
use Rattle.simulation.specs.Machines.{state_at, run_from, IsSteady}
use Rattle.simulation.specs.Stores.{Effect, Append, Put, Act, StoreMachine, Configuration, gives_way, may_replace, replaced, affected, affected_on, all_affected, configured, wrote, acted, puts, machine_of}
use Rattle.simulation.proofs.Blocks.{prefix_refl, grows_refl, grows_trans}
use Rattle.simulation.proofs.Heaps.{eq_cases, stands_map, stands_of}
use Rattle.simulation.proofs.Lists.{both_true, some_eq, get_append, get_split, get_past, get_set_same, get_set_other}
use Rattle.simulation.proofs.Machines.{state_by}
use Rattle.simulation.proofs.Tidy.{tidy_none, tidy_run}

pub stands_append : {X : Type 0} (view : X → Block) (xs ys : List X) (a : ℕ) (x : Block) → StandsAt (map view xs) a x → StandsAt (map view (xs ++ ys)) a x
stands_append view xs ys a x s =
    let p = stands_map view xs a x s in
    subst (λ t. StandsAt (map view (xs ++ ys)) a t) p.2 (stands_of view (xs ++ ys) a p.0 (get_append xs ys a p.0 p.1))

pub grows_append : {X : Type 0} (view : X → Block) (xs ys : List X) → Grows (map view xs) (map view (xs ++ ys))
grows_append view xs ys a x s = (x, stands_append view xs ys a x s, refl, refl)

pub grows_set : {X : Type 0} (view : X → Block) (xs : List X) (a : ℕ) (x y : X) → slice_get xs a ≡ Some x → (view y).kind ≡ (view x).kind → (view y).words ≡ (view x).words → Grows (map view xs) (map view (set xs a y))
grows_set view xs a x y at k w b z s =
    let p = stands_map view xs b z s in
    ⊎_elim
    (λ (e : b ≡ a).
    let g : Some p.0 ≡ Some x = sym p.1 ∙ ap (slice_get xs) e ∙ at in
    let i : p.0 ≡ x = cc in
    let v : view x ≡ z = ap view (sym i) ∙ p.2 in
    (view y, stands_of view (set xs a y) b y (ap (slice_get (set xs a y)) e ∙ get_set_same xs a y x at), k ∙ ap (λ t. t.kind) v, w ∙ ap (λ t. t.words) v))
    (λ (n : b ≢ a). (z, subst (λ t. slice_get (map view (set xs a y)) b ≡ Some t) p.2 (stands_of view (set xs a y) b p.0 (get_set_other xs a y b n ∙ p.1)), refl, refl))
    (eq_cases b a)

-- what may replace a block
pub record Replaces (old new : Block) : Type 0 where
  pub same : new.kind ≡ old.kind
  pub free : (old.kind ≡ Datum) ⊎ (old.kind ≡ SpillRecord)
  pub words : new.words ≡ old.words

way_given : (k l : Kind) → gives_way k l ≡ true → (l ≡ k) × ((k ≡ Datum) ⊎ (k ≡ SpillRecord))
way_given Datum Datum e = (refl, inl refl)
way_given SpillRecord SpillRecord e = (refl, inr refl)
way_given _ _ e = cc

-- it is no closure and no class record
free_closure : (k : Kind) (p : Point) → (k ≡ Datum) ⊎ (k ≡ SpillRecord) → k ≡ Closure p → ⊥
free_closure k p (inl d) h = let t : Datum ≡ Closure p = sym d ∙ h in cc
free_closure k p (inr d) h = let t : SpillRecord ≡ Closure p = sym d ∙ h in cc

free_class : (k : Kind) → (k ≡ Datum) ⊎ (k ≡ SpillRecord) → k ≡ ClassRecord → ⊥
free_class k (inl d) h = let t : Datum ≡ ClassRecord = sym d ∙ h in cc
free_class k (inr d) h = let t : SpillRecord ≡ ClassRecord = sym d ∙ h in cc

pub replaces : (old new : Block) → may_replace old new ≡ true → Replaces old new
replaces old new e =
    let h = both_true (gives_way old.kind new.kind) (old.words == new.words) e in
    let k = way_given old.kind new.kind h.0 in
    record { same = k.0; free = k.1; words = sym (eqb-true old.words new.words h.1) }

-- ---- One law for both effects

-- each effect fits the list that it is done to
abbrev pub AllFit : {X : Type 0} → (X → Block) → (List X → Effect X → Type 0) → Option (List X) → List (Effect X) → Type 0
AllFit view Fits o [] = Unit {0}
AllFit {X} view Fits o (e ∷ es) = ((ys : List X) → o ≡ Some ys → Fits ys e) × AllFit view Fits (affected_on view o e) es

module _ {X : Type 0} (view : X → Block) (P : List X → List X → Type 0) (refl_p : (xs : List X) → P xs xs) (trans_p : (xs ys zs : List X) → P xs ys → P ys zs → P xs zs) (Fits : List X → Effect X → Type 0) (append : (xs ys : List X) → Fits xs (Append ys) → P xs (xs ++ ys)) (put : (xs : List X) (a : ℕ) (x y : X) → slice_get xs a ≡ Some x → Replaces (view x) (view y) → P xs (set xs a y)) where
  put_by : (xs ys : List X) (a : ℕ) (x y : X) (b : Bool) → slice_get xs a ≡ Some x → may_replace (view x) (view y) ≡ b → cond b (Some (set xs a y)) None ≡ Some ys → P xs ys
  put_by xs ys a x y true g m e = some_eq (P xs) (set xs a y) ys e (put xs a x y g (replaces (view x) (view y) m))
  put_by xs ys a x y false g m e = absurd (cc)

  put_kept : (xs ys : List X) (a : ℕ) (y : X) (o : Option X) → slice_get xs a ≡ o → replaced view xs a y o ≡ Some ys → P xs ys
  put_kept xs ys a y None g e = absurd (cc)
  put_kept xs ys a y (Some x) g e = put_by xs ys a x y (may_replace (view x) (view y)) g refl e

  one_kept : (xs ys : List X) (e : Effect X) → Fits xs e → affected view xs e ≡ Some ys → P xs ys
  one_kept xs ys (Append zs) f h = some_eq (P xs) (xs ++ zs) ys h (append xs zs f)
  one_kept xs ys (Put a y) f h = put_kept xs ys a y (slice_get xs a) refl h

  on_kept : (xs zs : List X) (o : Option (List X)) (e : Effect X) → ((ys : List X) → o ≡ Some ys → P xs ys) → ((ys : List X) → o ≡ Some ys → Fits ys e) → affected_on view o e ≡ Some zs → P xs zs
  on_kept xs zs None e h f g = absurd (cc)
  on_kept xs zs (Some ys) e h f g = trans_p xs ys zs (h ys refl) (one_kept ys zs e (f ys refl) g)

  pub effects_kept : (xs zs : List X) (o : Option (List X)) (es : List (Effect X)) → ((ys : List X) → o ≡ Some ys → P xs ys) → AllFit view Fits o es → all_affected view o es ≡ Some zs → P xs zs
  effects_kept xs zs o [] h f e = h zs e
  effects_kept xs zs o (x ∷ es) h f e = effects_kept xs zs (affected_on view o x) es (λ ys g. on_kept xs ys o x h f.0 g) f.1 e

-- ---- Nothing is taken back

module _ {X : Type 0} (view : X → Block) where
  abbrev Grown : List X → List X → Type 0
  Grown xs ys = Grows (map view xs) (map view ys)

  grown_refl : (xs : List X) → Grown xs xs
  grown_refl xs = grows_refl (map view xs)

  grown_trans : (xs ys zs : List X) → Grown xs ys → Grown ys zs → Grown xs zs
  grown_trans xs ys zs p q = grows_trans (map view xs) (map view ys) (map view zs) p q

  grown_put : (xs : List X) (a : ℕ) (x y : X) → slice_get xs a ≡ Some x → Replaces (view x) (view y) → Grown xs (set xs a y)
  grown_put xs a x y g r = grows_set view xs a x y g r.same r.words

  all_fit : (o : Option (List X)) (es : List (Effect X)) → AllFit view (λ ys e. Unit {0}) o es
  all_fit o [] = tt
  all_fit o (e ∷ es) = (λ ys g. tt, all_fit (affected_on view o e) es)

  pub effects_grow : (xs zs : List X) (es : List (Effect X)) → all_affected view (Some xs) es ≡ Some zs → Grows (map view xs) (map view zs)
  effects_grow xs zs es e =
      effects_kept view Grown grown_refl grown_trans (λ ys f. Unit {0}) (λ ys us u. grows_append view ys us) grown_put xs zs (Some xs) es (λ ys g. some_eq (Grown xs) xs ys g (grown_refl xs)) (all_fit (Some xs) es) e

wrote_more : (out told : List ℕ) → IsPrefix out (wrote out told)
wrote_more out [] = prefix_refl out
wrote_more out (x ∷ xs) = (x ∷ xs, refl)

pub wrote_is : (out told : List ℕ) → wrote out told ≡ out ++ told
wrote_is out [] = sym (append-nil out)
wrote_is out (x ∷ xs) = refl

configured_steady : {C X : Type 0} (view : X → Block) (next : C) (out told : List ℕ) (xs : List X) (o : Option (List X)) (t : Configuration C X) → ((zs : List X) → o ≡ Some zs → Grows (map view xs) (map view zs)) → configured next (wrote out told) o ≡ Some t → IsPrefix out t.out × Grows (map view xs) (map view t.store)
configured_steady view next out told xs None t h e = absurd (cc)
configured_steady view next out told xs (Some zs) t h e =
    some_eq (λ u. IsPrefix out u.out × Grows (map view xs) (map view u.store)) (record { control = next; out = wrote out told; store = zs }) t e (wrote_more out told, h zs refl)

acted_steady : {C X : Type 0} (view : X → Block) (out : List ℕ) (xs : List X) (o : Option (Act C X)) (t : Configuration C X) → acted view out xs o ≡ Some t → IsPrefix out t.out × Grows (map view xs) (map view t.store)
acted_steady view out xs None t e = absurd (cc)
acted_steady view out xs (Some a) t e =
    configured_steady view a.next out a.told xs (all_affected view (Some xs) a.effects) t (λ zs g. effects_grow view xs zs a.effects g) e

-- no such machine takes back output or blocks
pub store_steady : {C X : Type 0} (M : StoreMachine C X) → IsSteady (machine_of M)
store_steady M s t e = acted_steady M.view s.out s.store (M.act s.control s.store) t e

-- what may give way does, to what may take its place
pub put_done : {X : Type 0} (view : X → Block) (xs : List X) (a : ℕ) (x y : X) → slice_get xs a ≡ Some x → may_replace (view x) (view y) ≡ true → affected view xs (Put a y) ≡ Some (set xs a y)
put_done view xs a x y g m = ap (replaced view xs a y) g ∙ ap (λ b. cond b (Some (set xs a y)) None) m

-- so goes a step that puts it
pub puts_done : {C X : Type 0} (view : X → Block) (c : C) (out : List ℕ) (xs : List X) (a : ℕ) (x y : X) → slice_get xs a ≡ Some x → may_replace (view x) (view y) ≡ true → acted view out xs (puts c a y) ≡ Some (record { control = c; out = out; store = set xs a y })
puts_done view c out xs a x y g m = ap (configured c out) (put_done view xs a x y g m)

-- ---- Languages without records

-- no item is seen as a class record or a spill record
abbrev pub HasNoRecord : {X : Type 0} → (X → Block) → Type 0
HasNoRecord {X} view = (x : X) → ((view x).kind ≢ ClassRecord) × ((view x).kind ≢ SpillRecord)

plain : {X : Type 0} (view : X → Block) → HasNoRecord view → (xs : List X) (a : ℕ) (x : Block) → StandsAt (map view xs) a x → (x.kind ≢ ClassRecord) × (x.kind ≢ SpillRecord)
plain view never xs a x s = let p = stands_map view xs a x s in subst (λ t. (t.kind ≢ ClassRecord) × (t.kind ≢ SpillRecord)) p.2 (never p.0)

pub plain_named : {X : Type 0} (view : X → Block) → HasNoRecord view → (xs : List X) → AllNamed (map view xs)
plain_named view never xs = (tidy_none (map view xs) [] (plain view never xs)).1

pub plain_tidy : {X : Type 0} (view : X → Block) → HasNoRecord view → (xs : List X) (roots : List ℕ) → HasTidyReach (map view xs) roots
plain_tidy view never xs roots = (tidy_none (map view xs) roots (plain view never xs)).0

-- so the records of its runs are in order, as there are none
pub plain_run : {C X : Type 0} (full : Bool) (M : StoreMachine C X) (labels : List Point) (s : Configuration C X) → HasNoRecord M.view → IsTidy full (run_from (machine_of M) labels s)
plain_run {C} {X} full M labels s never =
    let at : ℕ → Configuration C X = λ n. state_at (machine_of M) s n in
    tidy_run full (run_from (machine_of M) labels s) (λ n. plain_named M.view never (at n).store) (λ n p v. plain_tidy M.view never (at n).store (M.roots (at n).control (at n).store))

-- ---- Class records stay named

-- each class record that is made here is named by a closure that is made behind it
abbrev pub NamesItsOwn : {X : Type 0} → (X → Block) → List X → List X → Type 0
NamesItsOwn {X} view xs ys =
    (i : ℕ) (x : X) → slice_get ys i ≡ Some x → (view x).kind ≡ ClassRecord → (j : ℕ) × (y : X) × (p : Point) × (i < j) × (slice_get ys j ≡ Some y) × ((view y).kind ≡ Closure p) × IsAmong (length xs + i) (view y).fields

abbrev pub FitsNamed : {X : Type 0} → (X → Block) → List X → Effect X → Type 0
FitsNamed view xs (Append ys) = NamesItsOwn view xs ys
FitsNamed view xs (Put a y) = Unit {0}

module _ {X : Type 0} (view : X → Block) where
  pub named_append : (xs ys : List X) → NamesItsOwn view xs ys → AllNamed (map view xs) → AllNamed (map view (xs ++ ys))
  named_append xs ys own h a x s k =
      let p = stands_map view (xs ++ ys) a x s in
      ⊎_elim
      (λ (g : slice_get xs a ≡ Some p.0).
      let r = h a x (subst (λ t. StandsAt (map view xs) a t) p.2 (stands_of view xs a p.0 g)) k in
      (r.0, r.1, record { block = r.2.block; point = r.2.point; stands = stands_append view xs ys r.0 r.2.block r.2.stands; closure = r.2.closure; names = r.2.names }))
      (λ (g : (c : ℕ) × (a ≡ length xs + c) × (slice_get ys c ≡ Some p.0)).
      let q = own g.0 p.0 g.2 (ap (λ t. t.kind) p.2 ∙ k) in
      let at = g.1 in
      let less = q.3 in (
        length xs + q.0,
        omega arith,
        record {
          block = view q.1;
          point = q.2;
          stands = stands_of view (xs ++ ys) (length xs + q.0) q.1 (get_past xs ys q.0 ∙ q.4);
          closure = q.5;
          names = subst (λ t. IsAmong t (view q.1).fields) (sym at) q.6;
        },
      ))
      (get_split xs ys a p.0 p.1)

  pub named_set : (xs : List X) (a : ℕ) (x y : X) → slice_get xs a ≡ Some x → Replaces (view x) (view y) → AllNamed (map view xs) → AllNamed (map view (set xs a y))
  named_set xs a x y g r h b z s k =
      let p = stands_map view (set xs a y) b z s in
      ⊎_elim
      (λ (e : b ≡ a).
      let i : Some p.0 ≡ Some y = sym p.1 ∙ ap (slice_get (set xs a y)) e ∙ get_set_same xs a y x g in
      let j : p.0 ≡ y = cc in
      absurd (free_class (view x).kind r.free (sym r.same ∙ ap (λ u. (view u).kind) (sym j) ∙ ap (λ t. t.kind) p.2 ∙ k)))
      (λ (n : b ≢ a).
      let old : StandsAt (map view xs) b z = subst (λ t. StandsAt (map view xs) b t) p.2 (stands_of view xs b p.0 (sym (get_set_other xs a y b n) ∙ p.1)) in
      let q = h b z old k in
      let o = stands_map view xs q.0 q.2.block q.2.stands in
      let off : q.0 ≢ a = λ e.
      let i : Some o.0 ≡ Some x = sym o.1 ∙ ap (slice_get xs) e ∙ g in
      let j : o.0 ≡ x = cc in
      free_closure (view x).kind q.2.point r.free (ap (λ u. (view u).kind) (sym j) ∙ ap (λ t. t.kind) o.2 ∙ q.2.closure) in (
        q.0,
        q.1,
        record {
          block = q.2.block;
          point = q.2.point;
          stands = subst (λ t. StandsAt (map view (set xs a y)) q.0 t) o.2 (stands_of view (set xs a y) q.0 o.0 (get_set_other xs a y q.0 off ∙ o.1));
          closure = q.2.closure;
          names = q.2.names;
        },
      ))
      (eq_cases b a)

  abbrev Named : List X → List X → Type 0
  Named xs ys = AllNamed (map view xs) → AllNamed (map view ys)

  named_refl : (xs : List X) → Named xs xs
  named_refl xs h = h

  named_trans : (xs ys zs : List X) → Named xs ys → Named ys zs → Named xs zs
  named_trans xs ys zs p q h = q (p h)

  -- each effect names the class records that it makes
  abbrev pub AllNameTheirs : Option (List X) → List (Effect X) → Type 0
  AllNameTheirs o es = AllFit view (FitsNamed view) o es

  pub effects_named : (xs zs : List X) (es : List (Effect X)) → AllNameTheirs (Some xs) es → all_affected view (Some xs) es ≡ Some zs → AllNamed (map view xs) → AllNamed (map view zs)
  effects_named xs zs es f e =
      effects_kept view Named named_refl named_trans (FitsNamed view) named_append named_set xs zs (Some xs) es (λ ys g. some_eq (Named xs) xs ys g (named_refl xs)) f e

acted_named : {C X : Type 0} (view : X → Block) (out : List ℕ) (xs : List X) (o : Option (Act C X)) (t : Configuration C X) → ((a : Act C X) → o ≡ Some a → AllNameTheirs view (Some xs) a.effects) → acted view out xs o ≡ Some t → AllNamed (map view xs) → AllNamed (map view t.store)
acted_named view out xs None t f e h = absurd (cc)
acted_named {C} {X} view out xs (Some a) t f e h = by (all_affected view (Some xs) a.effects) (λ zs g. effects_named view xs zs a.effects (f a refl) g h) e
  where
    by : (o : Option (List X)) → ((zs : List X) → o ≡ Some zs → AllNamed (map view zs)) → configured a.next (wrote out a.told) o ≡ Some t → AllNamed (map view t.store)
    by None h e = absurd (cc)
    by (Some zs) h e = some_eq (λ u. AllNamed (map view u.store)) (record { control = a.next; out = wrote out a.told; store = zs }) t e (h zs refl)

-- how a step goes on
acted_next : {C X : Type 0} (view : X → Block) (out : List ℕ) (xs : List X) (o : Option (Act C X)) (t : Configuration C X) (Fit : C → Type 0) → ((a : Act C X) → o ≡ Some a → Fit a.next) → acted view out xs o ≡ Some t → Fit t.control
acted_next view out xs None t Fit f e = absurd (cc)
acted_next {C} {X} view out xs (Some a) t Fit f e = by (all_affected view (Some xs) a.effects) e
  where
    by : (o : Option (List X)) → configured a.next (wrote out a.told) o ≡ Some t → Fit t.control
    by None e = absurd (cc)
    by (Some zs) e = some_eq (λ (u : Configuration C X). Fit u.control) (record { control = a.next; out = wrote out a.told; store = zs }) t e (f a refl)

-- a machine that names its class records as it makes them has them named at each moment
pub store_named : {C X : Type 0} (M : StoreMachine C X) → ((c : C) (xs : List X) (a : Act C X) → M.act c xs ≡ Some a → AllNameTheirs M.view (Some xs) a.effects) → (s : Configuration C X) → AllNamed (map M.view s.store) → (n : ℕ) → AllNamed ((machine_of M).memory (state_at (machine_of M) s n))
store_named M own s h n =
    state_by (machine_of M) (λ u. AllNamed (map M.view u.store)) (λ u v k e. acted_named M.view u.out u.store (M.act u.control u.store) v (λ a g. own u.control u.store a g) e k) s h n

-- so does one whose controls keep what is asked of them
pub store_named_by : {C X : Type 0} (M : StoreMachine C X) (Fit : C → Type 0) → ((c : C) (xs : List X) (a : Act C X) → Fit c → M.act c xs ≡ Some a → Fit a.next × AllNameTheirs M.view (Some xs) a.effects) → (s : Configuration C X) → Fit s.control → AllNamed (map M.view s.store) → (n : ℕ) → AllNamed ((machine_of M).memory (state_at (machine_of M) s n))
store_named_by {C} {X} M Fit own s f h n =
    (state_by (machine_of M) (λ u. Fit u.control × AllNamed (map M.view u.store)) (λ u v k e. (acted_next M.view u.out u.store (M.act u.control u.store) v Fit (λ a g. (own u.control u.store a k.0 g).0) e, acted_named M.view u.out u.store (M.act u.control u.store) v (λ a g. (own u.control u.store a k.0 g).1) e k.1)) s (f, h) n).1
