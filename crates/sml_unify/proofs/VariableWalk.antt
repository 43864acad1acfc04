-- The search for the variables of a type: each form is come to once, and each number is noted once.
use Rattle.std.proofs.Common.{◌≡◌, ℕ, ◌<◌, Bool, true, false, List, [], ◌∷◌, ◌++◌, length, Option, Some, refl, sym, ap, ◌∙◌, subst, append_assoc, map, inl, inr}
use Rattle.std.specs.Prelude.{slice_get, nat_eq, ◌||◌}
use Rattle.std.specs.List.{AllByRecursion}
use Rattle.std.proofs.lemmas.Bool.{eq-eqb, eqb-true}
use Rattle.sml_types.specs.declared.types.Ty.{Ty}
use Rattle.sml_types.specs.declared.types.TyVar.{TyVar}
use Rattle.sml_types.specs.declared.types.TyForm.{TyForm}
use Rattle.sml_types.specs.declared.types.TyForm.TheVariants.{Var}
use Rattle.sml_types.specs.Tree.{Tree, Variable, App, NoParts, Part, inst, occurs, AllVars}
use Rattle.sml_types.specs.Forms.{tree, listed, parts_of}
use Rattle.sml_types.specs.Poly.{has_num}
use Rattle.sml_types.specs.Typing.{IsAmong}
use Rattle.sml_types.proofs.TreeFacts.{either, or_left, or_right}
use Rattle.sml_unify.specs.Solved.{IsSolved, IsFree, IsSameType, under, meant}
use Rattle.sml_unify.specs.Steps.{logged}
use Rattle.sml_unify.specs.Variables.{Stands, AreOnce, AreVariables}
use Rattle.sml_unify.proofs.Known.{IsKnown}
use Rattle.sml_unify.proofs.Meant.{meant_solves}
use Rattle.sml_unify.proofs.Walks.{all_append, all_left, all_right, at_app, at_var, parts_within}
use Rattle.sml_unify.proofs.Visits.{IsWalk, walk_first, walk_good, walk_met, walk_visit, walk_end}

-- a variable that stands in a type occurs there
pub stands_occurs : (v : TyVar) (t : Tree) → Stands v t → occurs v.num t ≡ true
stands_occurs v (Variable w) h = eq-eqb v.num w.num (ap (λ (u : TyVar). u.num) h)
stands_occurs v (App c ts) h = stands_occurs v ts h
stands_occurs v NoParts h = absurd h
stands_occurs v (Part t ts) (inl h) = or_left (occurs v.num t) (occurs v.num ts) (stands_occurs v t h)
stands_occurs v (Part t ts) (inr h) = or_right (occurs v.num t) (occurs v.num ts) (stands_occurs v ts h)

-- ---- Lists of variables

among_left : (v : TyVar) (vs ws : List TyVar) → IsAmong v vs → IsAmong v (vs ++ ws)
among_left v [] ws h = absurd h
among_left v (u ∷ vs) ws (inl e) = inl e
among_left v (u ∷ vs) ws (inr h) = inr (among_left v vs ws h)

among_last : (v : TyVar) (vs : List TyVar) → IsAmong v (vs ++ v ∷ [])
among_last v [] = inl refl
among_last v (u ∷ vs) = inr (among_last v vs)

among_all : (vs ws : List TyVar) → AllByRecursion (λ v. IsAmong v (vs ++ ws)) ws
among_all vs [] = tt
among_all vs (w ∷ ws) = (
  subst (λ (us : List TyVar). IsAmong w us) (append_assoc vs (w ∷ []) ws) (among_left w (vs ++ w ∷ []) ws (among_last w vs)),
  subst (λ (us : List TyVar). AllByRecursion (λ v. IsAmong v us) ws) (append_assoc vs (w ∷ []) ws) (among_all (vs ++ w ∷ []) ws),
)

abbrev numbers_of : List TyVar → List ℕ
numbers_of vs = map (λ v. v.num) vs

numbers_logged : (vs : List TyVar) (x : ℕ) → logged (numbers_of vs) x ≡ has_num vs x
numbers_logged [] x = refl
numbers_logged (v ∷ vs) x = ap (λ b. nat_eq x v.num || b) (numbers_logged vs x)

numbers_append : (vs : List TyVar) (v : TyVar) → numbers_of (vs ++ v ∷ []) ≡ numbers_of vs ++ v.num ∷ []
numbers_append [] v = refl
numbers_append (w ∷ vs) v = ap (λ ns. w.num ∷ ns) (numbers_append vs v)

-- a new number is put last
once_push : (vs : List TyVar) (v : TyVar) → AreOnce vs → has_num vs v.num ≡ false → AreOnce (vs ++ v ∷ [])
once_push [] v o h = (refl, tt)
once_push (w ∷ vs) v o h = (other, once_push vs v o.1 (tail (nat_eq v.num w.num) (has_num vs v.num) h))
  where
    tail : (a b : Bool) → (a || b) ≡ false → b ≡ false
    tail true b e = cc
    tail false b e = e

    lead : (a b : Bool) → (a || b) ≡ false → a ≡ false
    lead true b e = cc
    lead false b e = refl

    has_last : (us : List TyVar) → has_num us w.num ≡ false → has_num (us ++ v ∷ []) w.num ≡ true → nat_eq w.num v.num ≡ true
    has_last [] n e = either (nat_eq w.num v.num) false (nat_eq w.num v.num ≡ true) e (λ q. q) (λ q. cc)
    has_last (u ∷ us) n e =
        either
        (nat_eq w.num u.num)
        (has_num (us ++ v ∷ []) w.num)
        (nat_eq w.num v.num ≡ true)
        e
        (λ q. let x = lead (nat_eq w.num u.num) (has_num us w.num) n in cc)
        (λ q. has_last us (tail (nat_eq w.num u.num) (has_num us w.num) n) q)

    other : has_num (vs ++ v ∷ []) w.num ≡ false
    other = go (has_num (vs ++ v ∷ []) w.num) refl
      where
        go : (b : Bool) → has_num (vs ++ v ∷ []) w.num ≡ b → b ≡ false
        go true e =
            let same : w.num ≡ v.num = eqb-true w.num v.num (has_last vs o.0 e) in
            let x : nat_eq v.num w.num ≡ true = eq-eqb v.num w.num (sym same) in
            let y = lead (nat_eq v.num w.num) (has_num vs v.num) h in
            cc
        go false e = refl

-- what holds of all that were found holds of a variable whose number was
by_number : (forms : List TyForm) (bound : List (Option Ty)) (P : TyVar → Type 0) (vs : List TyVar) (v : TyVar) → IsSolved forms bound → AllByRecursion (IsKnown forms) vs → IsKnown forms v → has_num vs v.num ≡ true → AllByRecursion P vs → P v
by_number forms bound P [] v s k q e h = cc
by_number forms bound P (w ∷ vs) v s k q e h =
    either
    (nat_eq v.num w.num)
    (has_num vs v.num)
    (P v)
    e
    (λ n. let one : v ≡ w = s.named q.0 k.0.0 v w q.1 k.0.1 (eqb-true v.num w.num n) in subst P (sym one) h.0)
    (λ n. by_number forms bound P vs v s k.1 q n h.1)

-- ---- The walk

module _ (forms : List TyForm) (bound : List (Option Ty)) where
  abbrev meaning : ℕ → Tree
  meaning i = under forms (meant forms bound) i

  abbrev IsCovered : List TyVar → Tree → Type 0
  IsCovered vs t = AllVars (λ v. IsAmong v vs) t

  abbrev IsInside : ℕ → ℕ → Type 0
  IsInside ty i = (v : TyVar) → Stands v (meaning i) → Stands v (meaning ty)

  -- what was found is the whole of what was come to, for each list that has it
  pub record IsCollected (ty : ℕ) (work seen numbers : List ℕ) (found : List TyVar) : Type 0 where
    pub walk : (all : List TyVar) → AllByRecursion (λ v. IsAmong v all) found → IsWalk forms bound (IsCovered all) ty work seen
    pub inside : AllByRecursion (IsInside ty) work
    pub stand : AllByRecursion (λ v. Stands v (meaning ty)) found
    pub known : AllByRecursion (IsKnown forms) found
    pub once : AreOnce found
    pub same : numbers ≡ numbers_of found

  pub collect_first : (ty : ℕ) → ty < length forms → IsCollected ty (ty ∷ []) [] [] []
  collect_first ty w =
      record {
        walk = λ all a. walk_first forms bound (IsCovered all) ty w;
        inside = ((λ v h. h), tt);
        stand = tt;
        known = tt;
        once = tt;
        same = refl;
      }

  module _ (s : IsSolved forms bound) where
    pub collect_end : (ty : ℕ) (seen numbers : List ℕ) (found : List TyVar) → IsCollected ty [] seen numbers found → AreVariables found (meaning ty)
    collect_end ty seen numbers found k =
        record { each = walk_end forms bound (IsCovered found) s ty seen (k.walk found (among_all [] found)); stand = k.stand; once = k.once }

    parts_covered : (all : List TyVar) (is : List ℕ) → AllByRecursion (λ c. IsCovered all (meaning c)) is → IsCovered all (inst (meant forms bound) (listed (tree forms) is))
    parts_covered all [] a = tt
    parts_covered all (i ∷ is) a = (a.0, parts_covered all is a.1)

    parts_inside : (is : List ℕ) (ty : ℕ) → ((v : TyVar) → Stands v (inst (meant forms bound) (listed (tree forms) is)) → Stands v (meaning ty)) → AllByRecursion (IsInside ty) is
    parts_inside [] ty f = tt
    parts_inside (i ∷ is) ty f = ((λ v h. f v (inl h)), parts_inside is ty (λ v h. f v (inr h)))

    -- the last number that waits, and what it leads to
    module _ (ty : ℕ) (work rest seen numbers : List ℕ) (found : List TyVar) (next now : ℕ) (whole : work ≡ rest ++ next ∷ []) (same : IsSameType forms bound next now) (k : IsCollected ty work seen numbers found) where
      walk : (all : List TyVar) → AllByRecursion (λ v. IsAmong v all) found → IsWalk forms bound (IsCovered all) ty (rest ++ next ∷ []) seen
      walk all a = subst (λ (is : List ℕ). IsWalk forms bound (IsCovered all) ty is seen) whole (k.walk all a)

      inside : AllByRecursion (IsInside ty) (rest ++ next ∷ [])
      inside = subst (λ (is : List ℕ). AllByRecursion (IsInside ty) is) whole k.inside

      rest_within : AllByRecursion (λ i. i < length forms) rest
      rest_within = all_left (λ i. i < length forms) rest (next ∷ []) (walk found (among_all [] found)).within

      rest_inside : AllByRecursion (IsInside ty) rest
      rest_inside = all_left (IsInside ty) rest (next ∷ []) inside

      equal : meaning next ≡ meaning now
      equal = same (meant forms bound) (meant_solves forms bound s.acyclic)

      now_inside : IsInside ty now
      now_inside v h = (all_right (IsInside ty) rest (next ∷ []) inside).0 v (subst (Stands v) (sym equal) h)

      var_good : (all : List TyVar) (v : TyVar) → slice_get forms now ≡ Some (Var v) → IsFree forms bound now → IsAmong v all → IsCovered all (meaning next)
      var_good all v q free h = subst (IsCovered all) (sym (equal ∙ at_var forms bound s now v q free)) h

      pub collect_here : next < length forms
      collect_here = (all_right (λ i. i < length forms) rest (next ∷ []) (walk found (among_all [] found)).within).0

      -- a variable whose number is new
      pub collect_new : (v : TyVar) (after : List ℕ) (found2 : List TyVar) → slice_get forms now ≡ Some (Var v) → IsFree forms bound now → (logged numbers v.num ≡ false) × (after ≡ numbers ++ v.num ∷ []) → found2 ≡ found ++ v ∷ [] → IsCollected ty rest seen after found2
      collect_new v after found2 q free n e =
          subst
          (λ (vs : List TyVar). IsCollected ty rest seen after vs)
          (sym e)
          (record {
            walk = λ all a. walk_good forms bound (IsCovered all) ty next rest seen rest_within (var_good all v q free (all_right (λ u. IsAmong u all) found (v ∷ []) a).0) (walk all (all_left (λ u. IsAmong u all) found (v ∷ []) a));
            inside = rest_inside;
            stand = all_append (λ u. Stands u (meaning ty)) found (v ∷ []) k.stand (now_inside v (subst (Stands v) (sym (at_var forms bound s now v q free)) refl), tt);
            known = all_append (IsKnown forms) found (v ∷ []) k.known ((now, q), tt);
            once = once_push found v k.once (sym (numbers_logged found v.num) ∙ ap (λ ns. logged ns v.num) (sym k.same) ∙ n.0);
            same = n.1 ∙ ap (λ ns. ns ++ v.num ∷ []) k.same ∙ sym (numbers_append found v);
          })

      -- a variable that was found
      pub collect_known : (v : TyVar) (after : List ℕ) → slice_get forms now ≡ Some (Var v) → IsFree forms bound now → (logged numbers v.num ≡ true) × (after ≡ numbers) → IsCollected ty rest seen after found
      collect_known v after q free n =
          let had : has_num found v.num ≡ true = sym (numbers_logged found v.num) ∙ ap (λ ns. logged ns v.num) (sym k.same) ∙ n.0 in
          record {
            walk = λ all a. walk_good forms bound (IsCovered all) ty next rest seen rest_within (var_good all v q free (by_number forms bound (λ u. IsAmong u all) found v s k.known (now, q) had a)) (walk all a);
            inside = rest_inside;
            stand = k.stand;
            known = k.known;
            once = k.once;
            same = n.1 ∙ k.same;
          }

      pub collect_met : logged seen now ≡ true → IsCollected ty rest seen numbers found
      collect_met o =
          record {
            walk = λ all a. walk_met forms bound (IsCovered all) ty next now rest seen rest_within o equal (walk all a);
            inside = rest_inside;
            stand = k.stand;
            known = k.known;
            once = k.once;
            same = k.same;
          }

      pub collect_visit : (form : TyForm) → now < length forms → slice_get forms now ≡ Some form → ((v : TyVar) → form ≡ Var v → ⊥) → IsCollected ty (rest ++ parts_of form) (seen ++ now ∷ []) numbers found
      collect_visit form w q n =
          let app = at_app forms bound s (meant forms bound) now form q n in
          record {
            walk = λ all a. walk_visit forms bound (IsCovered all) ty next now rest seen form (all_append (λ i. i < length forms) rest (parts_of form) rest_within (parts_within forms bound s now form w q)) q n (λ b. subst (IsCovered all) (sym app) (parts_covered all (parts_of form) b)) equal (walk all a);
            inside = all_append (IsInside ty) rest (parts_of form) rest_inside (parts_inside (parts_of form) ty (λ v h. now_inside v (subst (Stands v) (sym app) h)));
            stand = k.stand;
            known = k.known;
            once = k.once;
            same = k.same;
          }
