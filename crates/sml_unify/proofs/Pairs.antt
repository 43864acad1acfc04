-- Lists of pairs that are to be equal.
use Rattle.std.proofs.Common.{subst, ◌≡◌, ℕ, suc, ◌+◌, ◌<◌, List, [], ◌∷◌, ◌++◌, length, Option, Some, refl, sym, ap, ◌∙◌, arith}
use Rattle.std.specs.Prelude.{slice_get}
use Rattle.std.specs.List.{AllByRecursion}
use Rattle.sml_types.specs.declared.types.Ty.{Ty}
use Rattle.sml_types.specs.declared.types.TyVar.{TyVar}
use Rattle.sml_types.specs.declared.types.TyForm.{TyForm}
use Rattle.sml_types.specs.declared.types.TyForm.TheVariants.{Var}
use Rattle.sml_types.specs.Tree.{Tree, App, inst, size}
use Rattle.sml_types.specs.Forms.{tree, listed, parts_of, head_of}
use Rattle.sml_unify.specs.declared.pair.Pair.{Pair}
use Rattle.sml_unify.specs.Solved.{Substitution, Solves, IsSolved, IsSameType, under, AreEqual, IsEqualPair, ArePairs, IsPair, last_first}
use Rattle.sml_unify.specs.Named.{IsSame, Fails, turned}
use Rattle.sml_unify.specs.declared.error.UnifyError.{UnifyError}
use Rattle.sml_types.specs.declared.tables.TypeName.{TypeName}
use Rattle.sml_unify.proofs.FailsFacts.{turned_last}
use Rattle.sml_unify.proofs.Walks.{all_append, all_left, all_right, at_app}

-- how large the left sides are
abbrev pub left_size : List TyForm → Substitution → List Pair → ℕ
left_size forms f [] = 0
left_size forms f (p ∷ ps) = size (under forms f p.left.0) + left_size forms f ps

pub left_size-append : (forms : List TyForm) (f : Substitution) (ps qs : List Pair) → left_size forms f (ps ++ qs) ≡ left_size forms f ps + left_size forms f qs
left_size-append forms f [] qs = omega arith
left_size-append forms f (p ∷ ps) qs = omega (arith, left_size-append forms f ps qs)

pub left_size-parts : (forms : List TyForm) (f : Substitution) (xs ys : List ℕ) → length xs ≡ length ys → left_size forms f (last_first xs ys) ≡ size (inst f (listed (tree forms) xs))
left_size-parts forms f [] ys n = refl
left_size-parts forms f (x ∷ xs) [] n = absurd (omega arith)
left_size-parts forms f (x ∷ xs) (y ∷ ys) n =
    let a = left_size-append forms f (last_first xs ys) (record { left = record { 0 = x }; right = record { 0 = y } } ∷ []) in
    let b = left_size-parts forms f xs ys (omega arith) in
    omega arith

-- equal parts
pub parts_forth : (forms : List TyForm) (f : Substitution) (xs ys : List ℕ) → inst f (listed (tree forms) xs) ≡ inst f (listed (tree forms) ys) → AreEqual forms f (last_first xs ys)
parts_forth forms f [] ys e = tt
parts_forth forms f (x ∷ xs) [] e = tt
parts_forth forms f (x ∷ xs) (y ∷ ys) e =
    let first : under forms f x ≡ under forms f y = cc in
    let rest : inst f (listed (tree forms) xs) ≡ inst f (listed (tree forms) ys) = cc in
    all_append (IsEqualPair forms f) (last_first xs ys) _ (parts_forth forms f xs ys rest) (first, tt)

pub parts_back : (forms : List TyForm) (f : Substitution) (xs ys : List ℕ) → length xs ≡ length ys → AreEqual forms f (last_first xs ys) → inst f (listed (tree forms) xs) ≡ inst f (listed (tree forms) ys)
parts_back forms f [] [] n h = refl
parts_back forms f [] (y ∷ ys) n h = absurd (omega arith)
parts_back forms f (x ∷ xs) [] n h = absurd (omega arith)
parts_back forms f (x ∷ xs) (y ∷ ys) n h =
    let first : under forms f x ≡ under forms f y = (all_right (IsEqualPair forms f) (last_first xs ys) (record { left = record { 0 = x }; right = record { 0 = y } } ∷ []) h).0 in
    let rest = parts_back forms f xs ys (omega arith) (all_left (IsEqualPair forms f) (last_first xs ys) _ h) in
    cc

parts_length : (f : Substitution) (t : ℕ → Tree) (xs ys : List ℕ) → inst f (listed t xs) ≡ inst f (listed t ys) → length xs ≡ length ys
parts_length f t [] [] e = refl
parts_length f t [] (y ∷ ys) e = cc
parts_length f t (x ∷ xs) [] e = cc
parts_length f t (x ∷ xs) (y ∷ ys) e =
    let rest : inst f (listed t xs) ≡ inst f (listed t ys) = cc in ap suc (parts_length f t xs ys rest)

pub parts_within : (forms : List TyForm) (xs ys : List ℕ) → AllByRecursion (λ c. c < length forms) xs → AllByRecursion (λ c. c < length forms) ys → ArePairs forms (last_first xs ys)
parts_within forms [] ys h g = tt
parts_within forms (x ∷ xs) [] h g = tt
parts_within forms (x ∷ xs) (y ∷ ys) h g = all_append (IsPair forms) (last_first xs ys) _ (parts_within forms xs ys h.1 g.1) ((h.0, g.0), tt)

module _ (forms : List TyForm) (bound : List (Option Ty)) (s : IsSolved forms bound) where
  -- other pairs in place of the last one
  pub same_last : (before rest new : List Pair) (p : Pair) → IsSame forms bound before (rest ++ p ∷ []) → ((f : Substitution) → Solves forms bound f → IsEqualPair forms f p → AreEqual forms f new) → ((f : Substitution) → Solves forms bound f → AreEqual forms f new → IsEqualPair forms f p) → ((names : List TypeName) (e : UnifyError) → Fails names forms bound (turned (rest ++ new)) e → Fails names forms bound (p ∷ turned rest) e) → IsSame forms bound before (rest ++ new)
  same_last before rest new p h forth back fails =
      record {
        forth = λ f g e.
            let w = h.forth f g e in
            all_append (IsEqualPair forms f) rest new (all_left (IsEqualPair forms f) rest (p ∷ []) w) (forth f g (all_right (IsEqualPair forms f) rest (p ∷ []) w).0);
        back = λ f g e. h.back f g (all_append (IsEqualPair forms f) rest (p ∷ []) (all_left (IsEqualPair forms f) rest new e) (back f g (all_right (IsEqualPair forms f) rest new e), tt));
        fails = λ names e w. h.fails names e (subst (λ (ps : List Pair). Fails names forms bound ps e) (sym (turned_last rest p)) (fails names e w));
      }

  -- two forms with one head
  pub app_forth : (p : Pair) (i j : ℕ) (a b : TyForm) → IsSameType forms bound p.left.0 i → IsSameType forms bound p.right.0 j → slice_get forms i ≡ Some a → slice_get forms j ≡ Some b → ((v : TyVar) → a ≡ Var v → ⊥) → ((v : TyVar) → b ≡ Var v → ⊥) → (f : Substitution) → Solves forms bound f → IsEqualPair forms f p → (head_of a ≡ head_of b) × (inst f (listed (tree forms) (parts_of a)) ≡ inst f (listed (tree forms) (parts_of b)))
  app_forth p i j a b l r q w h k f g e =
      let whole : App (head_of a) (inst f (listed (tree forms) (parts_of a))) ≡ App (head_of b) (inst f (listed (tree forms) (parts_of b))) = sym (at_app forms bound s f i a q h) ∙ sym (l f g) ∙ e ∙ r f g ∙ at_app forms bound s f j b w k in
      (cc, cc)

  pub app_back : (p : Pair) (i j : ℕ) (a b : TyForm) → IsSameType forms bound p.left.0 i → IsSameType forms bound p.right.0 j → slice_get forms i ≡ Some a → slice_get forms j ≡ Some b → ((v : TyVar) → a ≡ Var v → ⊥) → ((v : TyVar) → b ≡ Var v → ⊥) → head_of a ≡ head_of b → (f : Substitution) → Solves forms bound f → inst f (listed (tree forms) (parts_of a)) ≡ inst f (listed (tree forms) (parts_of b)) → IsEqualPair forms f p
  app_back p i j a b l r q w h k m f g e =
      let whole : App (head_of a) (inst f (listed (tree forms) (parts_of a))) ≡ App (head_of b) (inst f (listed (tree forms) (parts_of b))) = cc in
      l f g ∙ at_app forms bound s f i a q h ∙ whole ∙ sym (at_app forms bound s f j b w k) ∙ sym (r f g)

  pub apps_differ : (p : Pair) (i j : ℕ) (a b : TyForm) → IsSameType forms bound p.left.0 i → IsSameType forms bound p.right.0 j → slice_get forms i ≡ Some a → slice_get forms j ≡ Some b → ((v : TyVar) → a ≡ Var v → ⊥) → ((v : TyVar) → b ≡ Var v → ⊥) → ((head_of a ≡ head_of b) × (length (parts_of a) ≡ length (parts_of b)) → ⊥) → (f : Substitution) → Solves forms bound f → IsEqualPair forms f p → ⊥
  apps_differ p i j a b l r q w h k d f g e =
      let x = app_forth p i j a b l r q w h k f g e in
      d (x.0, parts_length f (tree forms) (parts_of a) (parts_of b) x.1)
