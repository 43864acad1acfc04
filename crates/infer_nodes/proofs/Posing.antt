-- What is asked, as pairs.
use Rattle.std.proofs.Common.{◌≡◌, ℕ, ◌<◌, ◌≤◌, List, [], ◌∷◌, ◌++◌, length, refl, sym, ap, ◌∙◌, arith, subst}
use Rattle.std.specs.List.{AllByRecursion}
use Rattle.sml_types.specs.declared.types.Ty.{Ty}
use Rattle.sml_types.specs.declared.types.TyForm.{TyForm}
use Rattle.sml_types.specs.declared.tables.TypeName.{TypeName}
use Rattle.sml_types.specs.Tree.{Tree, inst}
use Rattle.sml_types.specs.Forms.{tree, AreForms}
use Rattle.sml_unify.specs.declared.pair.Pair.{Pair}
use Rattle.sml_unify.specs.Solved.{Substitution, Respects, Agrees, AreEqual, IsEqualPair, IsPair, ArePairs, under}
use Rattle.sml_unify.specs.Steps.{IsLonger, AreBelow}
use Rattle.infer_parts.specs.Copies.{AreOldVars}
use Rattle.infer_nodes.specs.Posed.{pair, AreAdded, IsMade, Says, IsPosed}
use Rattle.infer_nodes.specs.Made.{IsFixed}
use Rattle.infer_nodes.proofs.Added.{longer_none, longer_both, added_none, added_old, added_both, respects_back, respects_old, under_kept}
use Rattle.infer_nodes.proofs.Stepped.{equal_kept, equal_back}

pub all_append : {A : Type 0} (P : A → Type 0) (xs ys : List A) → AllByRecursion P xs → AllByRecursion P ys → AllByRecursion P (xs ++ ys)
all_append P [] ys h k = k
all_append P (x ∷ xs) ys h k = (h.0, all_append P xs ys h.1 k)

pub all_left : {A : Type 0} (P : A → Type 0) (xs ys : List A) → AllByRecursion P (xs ++ ys) → AllByRecursion P xs
all_left P [] ys h = tt
all_left P (x ∷ xs) ys h = (h.0, all_left P xs ys h.1)

pub all_right : {A : Type 0} (P : A → Type 0) (xs ys : List A) → AllByRecursion P (xs ++ ys) → AllByRecursion P ys
all_right P [] ys h = h
all_right P (x ∷ xs) ys h = all_right P xs ys h.1

pub all_with : {A : Type 0} (P Q R : A → Type 0) (xs : List A) → ((x : A) → P x → Q x → R x) → AllByRecursion P xs → AllByRecursion Q xs → AllByRecursion R xs
all_with P Q R [] f h k = tt
all_with P Q R (x ∷ xs) f h k = (f x h.0 k.0, all_with P Q R xs f h.1 k.1)

-- ---- Pairs of old types

pub says_none : (forms : List TyForm) → Says forms (λ f. Unit {0}) []
says_none forms = record { there = tt; into = λ f a. tt; out = λ f a. tt }

pub says_pair : (forms : List TyForm) (a b : Ty) → a.0 < length forms → b.0 < length forms → Says forms (λ f. under forms f a.0 ≡ under forms f b.0) (pair a b ∷ [])
says_pair forms a b v w = record { there = ((v, w), tt); into = λ f e. (e, tt); out = λ f e. e.0 }

pub says_both : (forms : List TyForm) (A B : Substitution → Type 0) (ps qs : List Pair) → Says forms A ps → Says forms B qs → Says forms (λ f. A f × B f) (ps ++ qs)
says_both forms A B ps qs a b =
    record {
      there = all_append (IsPair forms) ps qs a.there b.there;
      into = λ f h. all_append (IsEqualPair forms f) ps qs (a.into f h.0) (b.into f h.1);
      out = λ f h. (a.out f (all_left (IsEqualPair forms f) ps qs h), b.out f (all_right (IsEqualPair forms f) ps qs h));
    }

pub says_as : (forms : List TyForm) (A B : Substitution → Type 0) (ps : List Pair) → ((f : Substitution) → A f → B f) → ((f : Substitution) → B f → A f) → Says forms A ps → Says forms B ps
says_as forms A B ps g h a =
    record { there = a.there; into = λ f b. a.into f (h f b); out = λ f e. g f (a.out f e) }

-- one item more
pub says_more : {X : Type 0} (forms : List TyForm) (P : Substitution → X → Type 0) (xs : List X) (x : X) (ps qs : List Pair) → Says forms (λ f. AllByRecursion (P f) xs) ps → Says forms (λ f. P f x) qs → Says forms (λ f. AllByRecursion (P f) (xs ++ x ∷ [])) (ps ++ qs)
says_more forms P xs x ps qs a b =
    says_as
    forms
    (λ f. AllByRecursion (P f) xs × P f x)
    (λ f. AllByRecursion (P f) (xs ++ x ∷ []))
    (ps ++ qs)
    (λ f h. all_append (P f) xs (x ∷ []) h.0 (h.1, tt))
    (λ f h. (all_left (P f) xs (x ∷ []) h, (all_right (P f) xs (x ∷ []) h).0))
    (says_both forms (λ f. AllByRecursion (P f) xs) (λ f. P f x) ps qs a b)

-- ---- What is posed

pub posed_says : (names : List TypeName) (next : ℕ) (forms : List TyForm) (A : Substitution → Type 0) (ps : List Pair) → AreBelow forms next → Says forms A ps → IsPosed names A next forms next forms ps
posed_says names next forms A ps b a =
    record { added = added_none next forms b; there = a.there; gets = λ f r e. a.out f e; general = λ f r h. (f, (λ v l. refl), r, a.into f h) }

pub posed_as : (names : List TypeName) (A B : Substitution → Type 0) (next : ℕ) (forms : List TyForm) (next2 : ℕ) (forms2 : List TyForm) (ps : List Pair) → ((f : Substitution) → A f → B f) → ((f : Substitution) → B f → A f) → IsPosed names A next forms next2 forms2 ps → IsPosed names B next forms next2 forms2 ps
posed_as names A B next forms next2 forms2 ps g h a =
    record { added = a.added; there = a.there; gets = λ f r e. g f (a.gets f r e); general = λ f r b. a.general f r (h f b) }

pub posed_after : (names : List TypeName) (A : Substitution → Type 0) (next : ℕ) (forms forms1 : List TyForm) (next2 : ℕ) (forms2 : List TyForm) (ps : List Pair) → AreBelow forms next → IsLonger forms forms1 → AreOldVars forms forms1 → IsPosed names A next forms1 next2 forms2 ps → IsPosed names A next forms next2 forms2 ps
posed_after names A next forms forms1 next2 forms2 ps b l o a =
    record {
      added = added_both next next next2 forms forms1 forms2 (added_old next forms forms1 b l o) a.added;
      there = a.there;
      gets = a.gets;
      general = λ f r h. a.general f (respects_old names forms forms1 f o r) h;
    }

pub made_as : (names : List TypeName) (P Q : Substitution → Tree → Type 0) (next : ℕ) (forms : List TyForm) (next2 : ℕ) (forms2 : List TyForm) (t : Ty) → ((f : Substitution) (u : Tree) → P f u → Q f u) → ((f : Substitution) (u : Tree) → Q f u → P f u) → IsMade names P next forms next2 forms2 t → IsMade names Q next forms next2 forms2 t
made_as names P Q next forms next2 forms2 t g h m =
    record { added = m.added; there = m.there; gets = λ f r. g f (under forms2 f t.0) (m.gets f r); general = λ f r u q. m.general f r u (h f u q) }

pub made_fixed : (names : List TypeName) (u : Tree) (next : ℕ) (forms forms2 : List TyForm) (t : Ty) → AreBelow forms next → IsFixed u forms forms2 t → IsMade names (λ f w. w ≡ inst f u) next forms next forms2 t
made_fixed names u next forms forms2 t b m =
    record {
      added = added_old next forms forms2 b m.longer m.vars;
      there = m.there;
      gets = λ f r. ap (inst f) m.is;
      general = λ f r w e. (f, (λ v l. refl), respects_old names forms forms2 f m.vars r, ap (inst f) m.is ∙ sym e);
    }

-- an old type is to be the one that was made, and old pairs are to be equal
pub posed_made : (names : List TypeName) (P : Substitution → Tree → Type 0) (B : Substitution → Type 0) (next : ℕ) (forms : List TyForm) (next2 : ℕ) (forms2 : List TyForm) (ps : List Pair) (at t : Ty) → AreForms forms → AreBelow forms next → at.0 < length forms → Says forms B ps → IsMade names P next forms next2 forms2 t → IsPosed names (λ f. B f × P f (under forms f at.0)) next forms next2 forms2 (ps ++ pair at t ∷ [])
posed_made names P B next forms next2 forms2 ps at t fs b w s m =
    record {
      added = m.added;
      there = all_append (IsPair forms2) ps (pair at t ∷ []) (all_with (IsPair forms) (IsPair forms) (IsPair forms2) ps (λ p x y. (let c = m.added.longer.count in let z = x.0 in omega arith, let c = m.added.longer.count in let z = x.1 in omega arith)) s.there s.there) ((let c = m.added.longer.count in omega arith, m.there), tt);
      gets = λ f r e. (
        s.out f (all_with (IsPair forms) (IsEqualPair forms2 f) (IsEqualPair forms f) ps (λ p x y. equal_back forms forms2 f p m.added.longer x y) s.there (all_left (IsEqualPair forms2 f) ps (pair at t ∷ []) e)),
        subst (P f) (sym (all_right (IsEqualPair forms2 f) ps (pair at t ∷ []) e).0 ∙ ap (inst f) (m.added.longer.trees at.0 w)) (m.gets f r),
      );
      general = λ f r h.
          let g = m.general f r (under forms f at.0) h.1 in (
            g.0,
            g.1,
            g.2,
            all_append (IsEqualPair forms2 g.0) ps (pair at t ∷ [])
                (all_with (IsPair forms) (IsEqualPair forms f) (IsEqualPair forms2 g.0) ps (λ p x y. equal_kept next forms forms2 f g.0 p fs b m.added.longer g.1 x y) s.there (s.into f h.0))
                (under_kept next forms forms2 f g.0 at.0 fs b m.added.longer g.1 w ∙ sym g.3, tt),
          );
    }
