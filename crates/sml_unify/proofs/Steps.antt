-- A pair that is taken off the work.
use Rattle.std.proofs.Common.{◌≡◌, ℕ, ◌<◌, List, [], ◌∷◌, ◌++◌, length, Option, Some, refl, sym, ap, ◌∙◌, subst}
use Rattle.std.specs.Prelude.{slice_get}
use Rattle.sml_types.specs.declared.types.Ty.{Ty}
use Rattle.sml_types.specs.declared.types.TyVar.{TyVar}
use Rattle.sml_types.specs.declared.types.TyForm.{TyForm}
use Rattle.sml_types.specs.declared.types.TyForm.TheVariants.{Var}
use Rattle.sml_types.specs.Forms.{parts_of, head_of}
use Rattle.sml_unify.specs.declared.pair.Pair.{Pair}
use Rattle.sml_unify.specs.Solved.{Substitution, Solves, IsSolved, IsFree, IsSameType, AreEqual, IsEqualPair, ArePairs, IsPair, last_first}
use Rattle.sml_unify.specs.Named as named
use Rattle.sml_unify.specs.Named.{IsSame, IsApp, Fails, turned}
use Rattle.sml_unify.specs.declared.error.UnifyError.{UnifyError}
use Rattle.sml_unify.specs.declared.error.UnifyError.TheVariants as error
use Rattle.sml_types.specs.declared.tables.TypeName.{TypeName}
use Rattle.sml_unify.proofs.FailsFacts.{turned_last, turned_none, turned_pushed, replaced, swapped, stay}
use Rattle.sml_unify.specs.Simplified.{IsBinding}
use Rattle.sml_unify.specs.Tasks.{IsFacing, straight, across}
use Rattle.sml_unify.proofs.Heads.{free_here}
use Rattle.sml_unify.proofs.Walks.{all_append, all_left, all_right, at_app, at_var}
use Rattle.sml_unify.proofs.Walks as walks
use Rattle.sml_unify.proofs.Pairs.{parts_forth, parts_back, parts_within, same_last, app_forth, app_back, apps_differ}

-- the pair p was the last of the work
pub record IsTaken (forms : List TyForm) (bound : List (Option Ty)) (before work rest : List Pair) (p : Pair) : Type 0 where
  pub whole : work ≡ rest ++ p ∷ []
  pub rest_within : ArePairs forms rest
  pub within : IsPair forms p
  pub same : IsSame forms bound before (rest ++ p ∷ [])

pub taken : (forms : List TyForm) (bound : List (Option Ty)) (before work rest : List Pair) (p : Pair) → ArePairs forms work → IsSame forms bound before work → work ≡ rest ++ p ∷ [] → IsTaken forms bound before work rest p
taken forms bound before work rest p w s e =
    let v : ArePairs forms (rest ++ p ∷ []) = subst (λ (ps : List Pair). ArePairs forms ps) e w in
    record {
      whole = e;
      rest_within = all_left (IsPair forms) rest (p ∷ []) v;
      within = (all_right (IsPair forms) rest (p ∷ []) v).0;
      same = subst (λ (ps : List Pair). IsSame forms bound before ps) e s;
    }

-- what a number leads to
pub record IsHead (forms : List TyForm) (bound : List (Option Ty)) (a i : ℕ) : Type 0 where
  pub there : i < length forms
  pub free : IsFree forms bound i
  pub same : IsSameType forms bound a i

module _ (forms : List TyForm) (bound : List (Option Ty)) (s : IsSolved forms bound) (before work rest : List Pair) (p : Pair) (k : IsTaken forms bound before work rest p) where
  same_next : (q : Pair) → ((f : Substitution) → Solves forms bound f → IsEqualPair forms f p → IsEqualPair forms f q) → ((f : Substitution) → Solves forms bound f → IsEqualPair forms f q → IsEqualPair forms f p) → ((names : List TypeName) (e : UnifyError) → Fails names forms bound (q ∷ turned rest) e → Fails names forms bound (p ∷ turned rest) e) → IsSame forms bound before (rest ++ q ∷ [])
  same_next q forth back fails =
      same_last forms bound s before rest (q ∷ []) p k.same (λ f g e. (forth f g e, tt)) (λ f g e. back f g e.0) (λ names e w. fails names e (subst (λ (ps : List Pair). Fails names forms bound ps e) (turned_last rest q) w))

  -- another pair in its place, whose first type is a variable that is not bound
  pub next_same : (q : Pair) → IsBinding forms bound q → IsFacing forms bound p q → IsSame forms bound before (rest ++ q ∷ [])
  next_same q b (straight l r) =
      same_next q (λ f g e. sym (l f g) ∙ e ∙ r f g) (λ f g e. l f g ∙ e ∙ sym (r f g)) (λ names e w. replaced names p s l r w)
  next_same q b (across l r) =
      same_next q (λ f g e. sym (l f g) ∙ sym e ∙ r f g) (λ f g e. r f g ∙ sym e ∙ sym (l f g)) (λ names e w. swapped names p s l r b.var (at_var forms bound s q.left.0 b.var b.here (free_here forms bound q.left.0 b.var b.here b.unbound)) w)

  -- it is equal already
  pub drop_settled : ((f : Substitution) → Solves forms bound f → IsEqualPair forms f p) → IsSame forms bound before rest
  drop_settled equal =
      let h : IsSame forms bound before (rest ++ []) = same_last forms bound s before rest [] p k.same (λ f g x. tt) (λ f g x. equal f g) (λ names d z. named.on (stay names forms bound (p ∷ []) s) equal (subst (λ (ps : List Pair). Fails names forms bound ps d) (turned_none rest) z)) in
      subst (λ (ps : List Pair). IsSame forms bound before ps) (append_none rest) h
    where
      append_none : (ps : List Pair) → ps ++ [] ≡ ps
      append_none [] = refl
      append_none (x ∷ xs) = ap (λ ys. x ∷ ys) (append_none xs)

  module _ (i j : Ty) (l : IsHead forms bound p.left.0 i.0) (r : IsHead forms bound p.right.0 j.0) (a b : TyForm) (q : slice_get forms i.0 ≡ Some a) (u : slice_get forms j.0 ≡ Some b) (x : (v : TyVar) → a ≡ Var v → ⊥) (y : (v : TyVar) → b ≡ Var v → ⊥) where
    left_app : IsApp forms bound p.left.0 a
    left_app = record { at = i.0; same = l.same; here = q; head = x }

    right_app : IsApp forms bound p.right.0 b
    right_app = record { at = j.0; same = r.same; here = u; head = y }

    differ : ((head_of a ≡ head_of b) × (length (parts_of a) ≡ length (parts_of b)) → ⊥) → (f : Substitution) → Solves forms bound f → AreEqual forms f before → ⊥
    differ d f g e =
        apps_differ forms bound s p i.0 j.0 a b l.same r.same q u x y d f g (all_right (IsEqualPair forms f) rest (p ∷ []) (k.same.forth f g e)).0

    pub clash : ((head_of a ≡ head_of b) × (length (parts_of a) ≡ length (parts_of b)) → ⊥) → ((f : Substitution) → Solves forms bound f → AreEqual forms f before → ⊥) × ((names : List TypeName) → Fails names forms bound (named.turned before) error.Clash)
    clash d = (differ d, λ names. k.same.fails names error.Clash (subst (λ (ps : List Pair). Fails names forms bound ps error.Clash) (sym (turned_last rest p)) (named.clash a b left_app right_app d)))

    pub parts_same : (head_of a ≡ head_of b) × (length (parts_of a) ≡ length (parts_of b)) → IsSame forms bound before (rest ++ last_first (parts_of a) (parts_of b))
    parts_same d =
        same_last
        forms
        bound
        s
        before
        rest
        (last_first (parts_of a) (parts_of b))
        p
        k.same
        (λ f g e. parts_forth forms f (parts_of a) (parts_of b) (app_forth forms bound s p i.0 j.0 a b l.same r.same q u x y f g e).1)
        (λ f g e. app_back forms bound s p i.0 j.0 a b l.same r.same q u x y d.0 f g (parts_back forms f (parts_of a) (parts_of b) d.1 e))
        (λ names e w. named.into a b left_app right_app d.0 d.1 (subst (λ (ps : List Pair). Fails names forms bound ps e) (turned_pushed rest (parts_of a) (parts_of b)) w))

    pub parts_there : ArePairs forms (rest ++ last_first (parts_of a) (parts_of b))
    parts_there =
        all_append (IsPair forms) rest (last_first (parts_of a) (parts_of b)) k.rest_within (parts_within forms (parts_of a) (parts_of b) (walks.parts_within forms bound s i.0 a l.there q) (walks.parts_within forms bound s j.0 b r.there u))
