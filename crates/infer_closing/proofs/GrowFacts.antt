-- Forms and settled names grow.
use Rattle.std.proofs.Common.{◌≡◌, ℕ, zero, suc, take, ◌+◌, ◌<◌, ◌≤◌, Bool, true, false, List, [], ◌∷◌, length, Option, Some, None, refl, sym, ap, ◌∙◌, ◌⊎◌, inl, inr, cond, subst, arith, nat_eq}
use Rattle.std.specs.Prelude.{◌||◌, ◌++◌, slice_get}
use Rattle.std.specs.List.{AllByRecursion}
use Rattle.std.proofs.lemmas.Bool.{eq-eqb, eqb-true}
use Rattle.std.proofs.lemmas.Option.{slice_get-get_or}
use Rattle.sml_tree.specs.declared.bare.Bare.{Bare}
use Rattle.sml_types.specs.declared.types.Ty.{Ty}
use Rattle.sml_types.specs.declared.types.TyVar.{TyVar}
use Rattle.sml_types.specs.declared.types.TyForm.{TyForm}
use Rattle.sml_types.specs.declared.types.TyForm.TheVariants.{Var}
use Rattle.sml_types.specs.Tree.{Tree, Variable, inst}
use Rattle.sml_types.specs.Forms.{tree, AreForms}
use Rattle.sml_types.specs.Poly.{Poly, poly, is_in, has_num}
use Rattle.sml_types.specs.Schemes.{scheme_poly}
use Rattle.sml_types.proofs.TreeFacts.{inst_same, inst_id, either, or_left, or_right, or_none}
use Rattle.sml_unify.specs.Solved.{Substitution, AreBindings, rounds, meant, under}
use Rattle.sml_unify.specs.Steps.{IsLonger}
use Rattle.sml_unify.specs.Resolve.{renamed, AreVarsOf, IsRenamedTo}
use Rattle.sml_unify.specs.Variables.{AreOnce}
use Rattle.infer_parts.specs.Held.{among}
use Rattle.sml_unify.proofs.Fresh.{bindings_longer}
use Rattle.sml_unify.proofs.Meant.{rounds_zero, rounds_free, rounds_bound, bound_cases}
use Rattle.infer_parts.specs.Segments.{IsSegment}
use Rattle.infer_state.specs.declared.unknowns.Unknowns.{Unknowns}
use Rattle.infer_state.specs.declared.settled.Settled.{Settled}
use Rattle.infer_state.specs.declared.declared.Starts.{Starts}
use Rattle.infer_state.specs.Fits.{IsFormVar, IsThere, AreThere, settled_poly, joined_settled, settled_at}
use Rattle.infer_state.specs.Variables.{name_var, AreLaidOut}
use Rattle.infer_closing.specs.declared.group.Group.{Group}
use Rattle.infer_closing.specs.Open.{has_all}
use Rattle.infer_closing.specs.Closing.{meaning, AreKept, AreGeneralKept, IsGeneralAt}
use Rattle.infer_closing.specs.Found.{AreVars, without}
use Rattle.infer_closing.specs.Settling.{IsPut, Grows, StandsAt, AreNewly, IsListed, AreListed, general_of, IsNamedIn, IsGroupClosed, AreGroupsClosed}
use Rattle.infer_closing.proofs.VarFacts.{all_end}
use Rattle.infer_closing.proofs.FoundFacts.{under_var}
use Rattle.infer_closing.proofs.LeftFacts.{in_front, in_back}

pub all_change : {A : Type 0} (P Q : A → Type 0) (xs : List A) → ((x : A) → P x → Q x) → AllByRecursion P xs → AllByRecursion Q xs
all_change P Q [] f h = tt
all_change P Q (x ∷ xs) f h = (f x h.0, all_change P Q xs f h.1)

pub all_joined : {A : Type 0} (P : A → Type 0) (xs ys : List A) → AllByRecursion P xs → AllByRecursion P ys → AllByRecursion P (xs ++ ys)
all_joined P [] ys h k = k
all_joined P (x ∷ xs) ys h k = (h.0, all_joined P xs ys h.1 k)

pub longer_same : (forms : List TyForm) → IsLonger forms forms
longer_same forms = record { count = omega arith; keeps = λ i f e. e; trees = λ i l. refl }

longer_then : (a b c : List TyForm) → IsLonger a b → IsLonger b c → IsLonger a c
longer_then a b c l m =
    record {
      count = (let x = l.count in let y = m.count in omega arith);
      keeps = λ i f e. m.keeps i f (l.keeps i f e);
      trees = λ i h. m.trees i (let x = l.count in omega arith) ∙ l.trees i h;
    }

-- more forms change nothing of what is meant
module _ (forms after : List TyForm) (bound : List (Option Ty)) (l : IsLonger forms after) (b : AreBindings forms bound) where
  rounds_longer : (i : ℕ) (v : TyVar) → rounds after bound i v ≡ rounds forms bound i v
  rounds_longer zero v = rounds_zero after bound v ∙ sym (rounds_zero forms bound v)
  rounds_longer (suc i) v = go (rounds_longer i)
    where
      go : ((w : TyVar) → rounds after bound i w ≡ rounds forms bound i w) → rounds after bound (suc i) v ≡ rounds forms bound (suc i) v
      go ih =
          bound_cases
          bound
          v.num
          (rounds after bound (suc i) v ≡ rounds forms bound (suc i) v)
          (λ e. rounds_free after bound (suc i) v e ∙ sym (rounds_free forms bound (suc i) v e))
          (λ t e.
          rounds_bound after bound i v t e
          ∙ ap (inst (rounds after bound i)) (l.trees t.0 (b.within v.num t e))
          ∙ inst_same (rounds after bound i) (rounds forms bound i) (tree forms t.0) (λ w o. ih w)
          ∙ sym (rounds_bound forms bound i v t e))

  meant_longer : (v : TyVar) → meant after bound v ≡ meant forms bound v
  unfolding meant
  meant_longer v = rounds_longer (length bound) v

pub grows_same : (u : Unknowns) (old : List (Option Settled)) → AreThere u.types old → Grows u u old old
grows_same u old h = record { bound = refl; next = refl; longer = longer_same u.types; vars = λ i v e. (i, e); kept = λ x s e. e; there = h; count = refl }

pub grows_then : (a b c : Unknowns) (x y z : List (Option Settled)) → Grows a b x y → Grows b c y z → Grows a c x z
grows_then a b c x y z g h =
    record {
      bound = h.bound ∙ g.bound;
      next = h.next ∙ g.next;
      longer = longer_then a.types b.types c.types g.longer h.longer;
      vars = λ i v e. let r = h.vars i v e in g.vars r.0 v r.1;
      kept = λ n s e. h.kept n s (g.kept n s e);
      there = h.there;
      count = h.count ∙ g.count;
    }

module _ (a b : Unknowns) (x y : List (Option Settled)) (g : Grows a b x y) where
  pub bindings_grown : AreBindings a.types a.subst.bound → AreBindings b.types b.subst.bound
  bindings_grown h = subst (λ (bound : List (Option Ty)). AreBindings b.types bound) (sym g.bound) (bindings_longer a.types b.types a.subst.bound g.longer h)

  pub meaning_grown : AreBindings a.types a.subst.bound → (v : TyVar) → meaning b v ≡ meaning a v
  meaning_grown h v = ap (λ (bound : List (Option Ty)). meant b.types bound v) g.bound ∙ meant_longer a.types b.types a.subst.bound g.longer h v

  pub laid_grown : (p : Bare) (starts : Starts) → AreLaidOut p a.types starts → AreLaidOut p b.types starts
  laid_grown p starts l =
      record {
        explicit_ones = λ u h. g.longer.keeps (starts.explicit + u) _ (l.explicit_ones u h);
        of_nodes = λ u h. g.longer.keeps (starts.nodes + u) _ (l.of_nodes u h);
        of_names = λ u h. g.longer.keeps (starts.names + u) _ (l.of_names u h);
        few = l.few;
        few_nodes = l.few_nodes;
        few_names = l.few_names;
      }

  pub vars_grown : (vs : List TyVar) → AreVars a.types vs → AreVars b.types vs
  vars_grown vs h = record { known = all_change (IsFormVar a.types) (IsFormVar b.types) vs (λ v k. (k.0, g.longer.keeps k.0 (Var v) k.1)) h.known; once = h.once }

  pub polys_kept : AreThere a.types x → (n : ℕ) (q : Poly) → settled_at a.types x n ≡ Some q → settled_at b.types y n ≡ Some q
  polys_kept there n q e = go (joined_settled (slice_get x n)) refl e
    where
      go : (s : Option Settled) → joined_settled (slice_get x n) ≡ s → settled_poly a.types s ≡ Some q → settled_at b.types y n ≡ Some q
      go None w k = cc
      go (Some s) w k =
          ap (settled_poly b.types) (g.kept n s w)
          ∙ ap (λ (t : Tree). Some (poly s.scheme.vars t)) (g.longer.trees s.scheme.body.0 (there n s w).there)
          ∙ k

-- ---- One name

some_same : {A : Type 0} (x y : A) → Some x ≡ Some y → x ≡ y
some_same x y e = cc

known_there : (forms : List TyForm) (i : ℕ) → i < length forms → (f : TyForm) × (slice_get forms i ≡ Some f)
known_there forms i l = go (slice_get forms i) refl
  where
    go : (o : Option TyForm) → slice_get forms i ≡ o → (f : TyForm) × (slice_get forms i ≡ Some f)
    go None q = let d : TyForm = Var (record { num = 0; eq = false }) in let z = slice_get-get_or forms i d l in cc
    go (Some f) q = (f, q)

pub there_longer : (forms after : List TyForm) (s : Settled) → IsLonger forms after → IsThere forms s → IsThere after s
there_longer forms after s l h =
    record {
      order = h.order;
      there = (let a = h.there in let b = l.count in omega arith);
      segment = λ i form lo hi e. let o = known_there forms i (let a = h.there in omega arith) in h.segment i form lo hi (o.1 ∙ sym (l.keeps i o.0 o.1) ∙ e);
      vars = all_change (IsFormVar forms) (IsFormVar after) s.scheme.vars (λ v k. (k.0, l.keeps k.0 (Var v) k.1)) h.vars;
      once = h.once;
    }

same_or : (y x : ℕ) (P : Type 0) → (y ≡ x → P) → ((y ≡ x → ⊥) → P) → P
same_or y x P f g = go (nat_eq y x) refl
  where
    go : (b : Bool) → nat_eq y x ≡ b → P
    go true q = f (eqb-true y x q)
    go false q = g (λ e. let clash : false ≡ true = sym q ∙ eq-eqb y x e in cc)

module _ (old : List (Option Settled)) (x : ℕ) (s : Settled) (new : List (Option Settled)) (h : IsPut old x s new) where
  pub put_kept : AreKept old new
  put_kept y r e = same_or y x (joined_settled (slice_get new y) ≡ Some r) (λ q. let clash : None ≡ Some r = sym h.was ∙ ap (λ k. joined_settled (slice_get old k)) (sym q) ∙ e in cc) (λ n. ap joined_settled (h.others y n) ∙ e)

  pub put_there : (forms after : List TyForm) → IsLonger forms after → AreThere forms old → IsThere after s → AreThere after new
  put_there forms after l are here y r e =
      same_or
      y
      x
      (IsThere after r)
      (λ q. let same : Some s ≡ Some r = sym (ap joined_settled h.here) ∙ ap (λ k. joined_settled (slice_get new k)) (sym q) ∙ e in subst (λ (k : Settled). IsThere after k) (some_same s r same) here)
      (λ n. there_longer forms after r l (are y r (ap joined_settled (sym (h.others y n)) ∙ e)))

  pub put_newly : (p : Bare) (m : Substitution) (forms after : List TyForm) (vars : List TyVar) → IsLonger forms after → AreThere forms old → x < length p.names → scheme_poly after s.scheme ≡ poly vars (m (name_var p x)) → AreNewly p m (settled_at forms old) (settled_at after new) vars (x ∷ [])
  put_newly p m forms after vars l are few is =
      record {
        each = ((few, ap (λ (o : Option (Option Settled)). settled_poly after (joined_settled o)) h.here ∙ ap Some is), tt);
        only = λ y q e. same_or y x ((settled_at forms old y ≡ Some q) ⊎ ((is_in (x ∷ []) y ≡ true) × (q ≡ poly vars (m (name_var p y))))) (λ w. inr (or_left (nat_eq y x) false (eq-eqb y x w), here y q e w)) (λ n. inl (was y q e n));
      }
    where
      here : (y : ℕ) (q : Poly) → settled_at after new y ≡ Some q → y ≡ x → q ≡ poly vars (m (name_var p y))
      here y q e w =
          some_same q (poly vars (m (name_var p y))) (sym e ∙ ap (settled_at after new) w ∙ ap (λ (o : Option (Option Settled)). settled_poly after (joined_settled o)) h.here ∙ ap Some is ∙ ap (λ k. Some (poly vars (m (name_var p k)))) (sym w))

      was : (y : ℕ) (q : Poly) → settled_at after new y ≡ Some q → (y ≡ x → ⊥) → settled_at forms old y ≡ Some q
      was y q e n = go (joined_settled (slice_get old y)) refl (ap (λ (o : Option (Option Settled)). settled_poly after (joined_settled o)) (sym (h.others y n)) ∙ e)
        where
          go : (o : Option Settled) → joined_settled (slice_get old y) ≡ o → settled_poly after (joined_settled (slice_get old y)) ≡ Some q → settled_at forms old y ≡ Some q
          go None w k = let clash : None ≡ Some q = sym (ap (settled_poly after) w) ∙ k in cc
          go (Some r) w k =
              ap (settled_poly forms) w
              ∙ ap (λ (t : Tree). Some (poly r.scheme.vars t)) (sym (l.trees r.scheme.body.0 (are y r w).there))
              ∙ sym (ap (settled_poly after) w)
              ∙ k

-- nothing is renamed
pub unrenamed : (t : Tree) → inst (renamed []) t ≡ t
unrenamed t = inst_same (renamed []) Variable t (λ v o. refl) ∙ inst_id t

pub whole : {A : Type 0} (xs : List A) (k : ℕ) → length xs ≤ k → take k xs ≡ xs
whole [] zero h = refl
whole [] (suc k) h = refl
whole (x ∷ xs) zero h = absurd (omega arith)
whole (x ∷ xs) (suc k) h = ap (λ ys. x ∷ ys) (whole xs k (omega arith))

pub all_at : {A : Type 0} (P : A → Type 0) (xs : List A) (i : ℕ) (x : A) → AllByRecursion P xs → slice_get xs i ≡ Some x → P x
all_at P [] i x h e = cc
all_at P (y ∷ xs) zero x h e = subst P (some_same y x e) h.0
all_at P (y ∷ xs) (suc i) x h e = all_at P xs i x h.1 e

-- ---- The entry of a name

pub old_vars : (old new : List TyForm) → AreVarsOf old [] new → (i : ℕ) (v : TyVar) → slice_get new i ≡ Some (Var v) → IsFormVar old v
old_vars old new h i v e = go (h i v e)
  where
    go : IsFormVar old v ⊎ IsRenamedTo v [] → IsFormVar old v
    go (inl k) = k
    go (inr k) = absurd k

pub entry_there : (forms after : List TyForm) (s : Settled) (vars : List TyVar) → IsLonger forms after → s.from ≤ s.scheme.body.0 → s.scheme.body.0 < length after → IsSegment after s.from s.scheme.body.0 → s.scheme.vars ≡ vars → AreVars forms vars → IsThere after s
entry_there forms after s vars l order there segment e h =
    record {
      order = order;
      there = there;
      segment = segment;
      vars = subst (λ (vs : List TyVar). AllByRecursion (IsFormVar after) vs) (sym e) (all_change (IsFormVar forms) (IsFormVar after) vars (λ v k. (k.0, l.keeps k.0 (Var v) k.1)) h.known);
      once = subst AreOnce (sym e) h.once;
    }

-- the type that is written for a name is what its variable means
pub written_is : (forms after : List TyForm) (m : Substitution) (i j k : ℕ) (v : TyVar) → AreForms forms → tree after k ≡ inst (renamed []) (under forms m i) → i ≡ j → slice_get forms j ≡ Some (Var v) → tree after k ≡ m v
written_is forms after m i j k v are e q r = e ∙ unrenamed (under forms m i) ∙ ap (under forms m) q ∙ under_var forms m j v are r

pub entry_poly : (after : List TyForm) (s : Settled) (vars : List TyVar) (t : Tree) → s.scheme.vars ≡ vars → tree after s.scheme.body.0 ≡ t → scheme_poly after s.scheme ≡ poly vars t
entry_poly after s vars t e q = ap (λ (vs : List TyVar). poly vs (tree after s.scheme.body.0)) e ∙ ap (poly vars) q

without_known : (P : TyVar → Type 0) (left vs : List TyVar) → AllByRecursion P vs → AllByRecursion P (without left vs)
without_known P left [] h = tt
without_known P left (v ∷ vs) h = go (among left v) (without_known P left vs h.1)
  where
    go : (b : Bool) → AllByRecursion P (without left vs) → AllByRecursion P (cond b (without left vs) (v ∷ without left vs))
    go true k = k
    go false k = (h.0, k)

without_no : (left vs : List TyVar) (x : ℕ) → has_num vs x ≡ false → has_num (without left vs) x ≡ false
without_no left [] x e = e
without_no left (v ∷ vs) x e = let n = or_none (nat_eq x v.num) (has_num vs x) e in go (among left v) n.0 (without_no left vs x n.1)
  where
    go : (b : Bool) → nat_eq x v.num ≡ false → has_num (without left vs) x ≡ false → has_num (cond b (without left vs) (v ∷ without left vs)) x ≡ false
    go true q k = k
    go false q k = ap (λ c. c || has_num (without left vs) x) q ∙ k

without_once : (left vs : List TyVar) → AreOnce vs → AreOnce (without left vs)
without_once left [] h = tt
without_once left (v ∷ vs) h = go (among left v) (without_once left vs h.1)
  where
    go : (b : Bool) → AreOnce (without left vs) → AreOnce (cond b (without left vs) (v ∷ without left vs))
    go true k = k
    go false k = (without_no left vs v.num h.0, k)

pub without_are : (forms : List TyForm) (left vs : List TyVar) → AreVars forms vs → AreVars forms (without left vs)
without_are forms left vs h = record { known = without_known (IsFormVar forms) left vs h.known; once = without_once left vs h.once }

-- ---- More names

pub newly_none : (p : Bare) (m : Substitution) (a : ℕ → Option Poly) (vars : List TyVar) → AreNewly p m a a vars []
newly_none p m a vars = record { each = tt; only = λ y q e. inl e }

pub newly_then : (p : Bare) (m k : Substitution) (a b c : ℕ → Option Poly) (vars : List TyVar) (xs ys zs : List ℕ) → zs ≡ xs ++ ys → ((v : TyVar) → k v ≡ m v) → ((n : ℕ) (q : Poly) → b n ≡ Some q → c n ≡ Some q) → AreNewly p m a b vars xs → AreNewly p k b c vars ys → AreNewly p m a c vars zs
newly_then p m k a b c vars xs ys zs e same kept g h =
    subst
    (λ (ws : List ℕ). AreNewly p m a c vars ws)
    (sym e)
    (record {
      each =
          all_joined
          (StandsAt p m c vars)
          xs
          ys
          (all_change (StandsAt p m b vars) (StandsAt p m c vars) xs (λ x s. (s.0, kept x (poly vars (m (name_var p x))) s.1)) g.each)
          (all_change (StandsAt p k c vars) (StandsAt p m c vars) ys (λ x s. (s.0, s.1 ∙ ap (λ (t : Tree). Some (poly vars t)) (same (name_var p x)))) h.each);
      only = λ y q w. came y q (h.only y q w);
    })
  where
    before : (y : ℕ) (q : Poly) → (a y ≡ Some q) ⊎ ((is_in xs y ≡ true) × (q ≡ poly vars (m (name_var p y)))) → (a y ≡ Some q) ⊎ ((is_in (xs ++ ys) y ≡ true) × (q ≡ poly vars (m (name_var p y))))
    before y q (inl w) = inl w
    before y q (inr w) = inr (in_front xs ys y w.0, w.1)

    came : (y : ℕ) (q : Poly) → (b y ≡ Some q) ⊎ ((is_in ys y ≡ true) × (q ≡ poly vars (k (name_var p y)))) → (a y ≡ Some q) ⊎ ((is_in (xs ++ ys) y ≡ true) × (q ≡ poly vars (m (name_var p y))))
    came y q (inl w) = before y q (g.only y q w)
    came y q (inr w) = inr (in_back xs ys y w.0, w.1 ∙ ap (poly vars) (same (name_var p y)))

pub listed_none : (p : Bare) (m : Substitution) (vars : List TyVar) (l : List ℕ) → AreListed p m vars [] l l
listed_none p m vars l = record { kept = λ x e. e; each = tt }

listed_longer : (p : Bare) (m : Substitution) (vars : List TyVar) (l1 l2 : List ℕ) → ((x : ℕ) → is_in l1 x ≡ true → is_in l2 x ≡ true) → (x : ℕ) → IsListed p m l1 vars x → IsListed p m l2 vars x
listed_longer p m vars l1 l2 f x e =
    let b = has_all vars (m (name_var p x)) in
    either (is_in l1 x) b ((is_in l2 x || b) ≡ true) e (λ q. or_left (is_in l2 x) b (f x q)) (λ q. or_right (is_in l2 x) b q)

pub listed_then : (p : Bare) (m k : Substitution) (vars : List TyVar) (xs zs : List ℕ) (y : ℕ) (l0 l1 l2 : List ℕ) (closed : Bool) → zs ≡ xs ++ y ∷ [] → ((v : TyVar) → k v ≡ m v) → AreListed p m vars xs l0 l1 → ((x : ℕ) → is_in l1 x ≡ true → is_in l2 x ≡ true) → (closed ≡ false → is_in l2 y ≡ true) → (closed ≡ true → has_all vars (k (name_var p y)) ≡ true) → AreListed p m vars zs l0 l2
listed_then p m k vars xs zs y l0 l1 l2 closed e same h kept there shut =
    subst
    (λ (ws : List ℕ). AreListed p m vars ws l0 l2)
    (sym e)
    (record { kept = λ x w. kept x (h.kept x w); each = all_end (IsListed p m l2 vars) xs y (all_change (IsListed p m l1 vars) (IsListed p m l2 vars) xs (listed_longer p m vars l1 l2 kept) h.each) (go closed refl) })
  where
    go : (b : Bool) → closed ≡ b → IsListed p m l2 vars y
    go false q = or_left (is_in l2 y) (has_all vars (m (name_var p y))) (there q)
    go true q = or_right (is_in l2 y) (has_all vars (m (name_var p y))) (ap (has_all vars) (sym (same (name_var p y))) ∙ shut q)

-- ---- Groups

general_kept : (g1 g2 : List (Option (List TyVar))) (vars : List TyVar) (right : Option ℕ) → AreGeneralKept g1 g2 → IsGeneralAt g1 vars right → IsGeneralAt g2 vars right
general_kept g1 g2 vars None k h = h
general_kept g1 g2 vars (Some i) k h = k i vars h

pub groups_none : (p : Bare) (m : Substitution) (general : List (Option (List TyVar))) (a : ℕ → Option Poly) (list : List ℕ) (left : List TyVar) → AreGroupsClosed p m general a a list left []
groups_none p m general a list left = record { each = tt; only = λ y q e. inl e }

named_front : (p : Bare) (m : Substitution) (left : List TyVar) (gs hs : List Group) (y : ℕ) (q : Poly) → IsNamedIn p m left gs y q → IsNamedIn p m left (gs ++ hs) y q
named_front p m left [] hs y q n = absurd n
named_front p m left (g ∷ gs) hs y q (inl w) = inl w
named_front p m left (g ∷ gs) hs y q (inr n) = inr (named_front p m left gs hs y q n)

named_back : (p : Bare) (m : Substitution) (left : List TyVar) (gs hs : List Group) (y : ℕ) (q : Poly) → IsNamedIn p m left hs y q → IsNamedIn p m left (gs ++ hs) y q
named_back p m left [] hs y q n = n
named_back p m left (g ∷ gs) hs y q n = inr (named_back p m left gs hs y q n)

pub groups_then : (p : Bare) (m k : Substitution) (g1 g2 : List (Option (List TyVar))) (a b c : ℕ → Option Poly) (l1 l2 : List ℕ) (left : List TyVar) (gs hs : List Group) (g : Group) → hs ≡ gs ++ g ∷ [] → ((v : TyVar) → k v ≡ m v) → ((n : ℕ) (q : Poly) → b n ≡ Some q → c n ≡ Some q) → AreGeneralKept g1 g2 → AreGroupsClosed p m g1 a b l1 left gs → IsGeneralAt g2 (general_of left g) g.of.right → AreNewly p k b c (general_of left g) g.of.names → AreListed p k (general_of left g) g.of.names l1 l2 → AreGroupsClosed p m g2 a c l2 left hs
groups_then p m k g1 g2 a b c l1 l2 left gs hs g e same kept general h right newly listed =
    subst
    (λ (ws : List Group). AreGroupsClosed p m g2 a c l2 left ws)
    (sym e)
    (record {
      each = all_end (IsGroupClosed p m g2 c l2 left) gs g (all_change (IsGroupClosed p m g1 b l1 left) (IsGroupClosed p m g2 c l2 left) gs older h.each) here;
      only = λ y q w. came y q (newly.only y q w);
    })
  where
    older : (o : Group) → IsGroupClosed p m g1 b l1 left o → IsGroupClosed p m g2 c l2 left o
    older o s =
        record {
          right = general_kept g1 g2 (general_of left o) o.of.right general s.right;
          names = all_change (StandsAt p m b (general_of left o)) (StandsAt p m c (general_of left o)) o.of.names (λ x r. (r.0, kept x (poly (general_of left o) (m (name_var p x))) r.1)) s.names;
          listed = all_change (IsListed p m l1 (general_of left o)) (IsListed p m l2 (general_of left o)) o.of.names (listed_longer p m (general_of left o) l1 l2 listed.kept) s.listed;
        }

    here : IsGroupClosed p m g2 c l2 left g
    here =
        record {
          right = right;
          names = all_change (StandsAt p k c (general_of left g)) (StandsAt p m c (general_of left g)) g.of.names (λ x s. (s.0, s.1 ∙ ap (λ (t : Tree). Some (poly (general_of left g) t)) (same (name_var p x)))) newly.each;
          listed = all_change (IsListed p k l2 (general_of left g)) (IsListed p m l2 (general_of left g)) g.of.names (λ x s. subst (λ (t : Tree). (is_in l2 x || has_all (general_of left g) t) ≡ true) (same (name_var p x)) s) listed.each;
        }

    before : (y : ℕ) (q : Poly) → (a y ≡ Some q) ⊎ IsNamedIn p m left gs y q → (a y ≡ Some q) ⊎ IsNamedIn p m left (gs ++ g ∷ []) y q
    before y q (inl w) = inl w
    before y q (inr w) = inr (named_front p m left gs (g ∷ []) y q w)

    came : (y : ℕ) (q : Poly) → (b y ≡ Some q) ⊎ ((is_in g.of.names y ≡ true) × (q ≡ poly (general_of left g) (k (name_var p y)))) → (a y ≡ Some q) ⊎ IsNamedIn p m left (gs ++ g ∷ []) y q
    came y q (inl w) = before y q (h.only y q w)
    came y q (inr w) = inr (named_back p m left gs (g ∷ []) y q (inl (w.0, w.1 ∙ ap (poly (general_of left g)) (same (name_var p y)))))
