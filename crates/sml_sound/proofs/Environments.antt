-- Environments that are cut, joined, and taken to other substitutions.
use Rattle.std.proofs.Common.{◌≡◌, ℕ, Bool, true, false, List, [], ◌∷◌, ◌++◌, Option, Some, None, refl, sym, ap, ◌∙◌, subst}
use Rattle.std.specs.Prelude.{nat_eq, cond, ◌||◌, ◌&&◌, not}
use Rattle.std.specs.Option.{option_map}
use Rattle.std.specs.List.{AllByRecursion, cons_option}
use Rattle.std.proofs.lemmas.Bool.{eqb-true}
use Rattle.sml_tree.specs.declared.bare.Bare.{Bare}
use Rattle.sml_tree.specs.Sets.{has}
use Rattle.sml_tree.proofs.Members.{IsWithin, in_or_not}
use Rattle.sml_types.specs.declared.types.TyVar.{TyVar}
use Rattle.sml_types.specs.Tree.{Tree, occurs, admits}
use Rattle.sml_types.specs.Poly.{Poly, Context, has_num, is_free, mono, scheme_in, is_in, IsFresh}
use Rattle.sml_types.specs.Typing.{Typing}
use Rattle.sml_types.proofs.TreeFacts.{inst_same}
use Rattle.sml_def.specs.State.{Value, Env, look, cut}
use Rattle.sml_sound.proofs.Lists.{at_name}
use Rattle.sml_sound.specs.TypedStates.{KeepsMarks, Agrees, Entry, HasTy, HasScheme, EnvTy}

look_cut : (xs : List ℕ) (env : Env) (x : ℕ) (v : Value) → has xs x ≡ true → look env x ≡ Some v → look (cut xs env) x ≡ Some v
look_cut [] env x v h e = cc
look_cut (y ∷ xs) env x v h e =
    go (look env y) refl (nat_eq x y) refl (λ m. look_cut xs env x v m e)
  where
    go : (o : Option Value) → look env y ≡ o → (b : Bool) → nat_eq x y ≡ b → (has xs x ≡ true → look (cut xs env) x ≡ Some v) → look (cons_option (option_map (λ v. (y, v)) o) (cut xs env)) x ≡ Some v
    go (Some w) q true b rest =
        ap (λ t. cond t (Some w) (look (cut xs env) x)) b ∙ sym q ∙ ap (look env) (sym (eqb-true x y b)) ∙ e
    go (Some w) q false b rest =
        ap (λ t. cond t (Some w) (look (cut xs env) x)) b ∙ rest (sym (ap (λ t. t || has xs x) b) ∙ h)
    go None q true b rest = let none : None ≡ Some v = sym q ∙ ap (look env) (sym (eqb-true x y b)) ∙ e in cc
    go None q false b rest = rest (sym (ap (λ t. t || has xs x) b) ∙ h)

pub look_front : (a b : Env) (x : ℕ) (v : Value) → look a x ≡ Some v → look (a ++ b) x ≡ Some v
look_front [] b x v e = cc
look_front (y ∷ a) b x v e = go (nat_eq x y.0) e (look_front a b x v)
  where
    go : (q : Bool) → cond q (Some y.1) (look a x) ≡ Some v → (look a x ≡ Some v → look (a ++ b) x ≡ Some v) → cond q (Some y.1) (look (a ++ b) x) ≡ Some v
    go true h rest = h
    go false h rest = rest h

pub look_back : (a b : Env) (x : ℕ) → look a x ≡ None → look (a ++ b) x ≡ look b x
look_back [] b x e = refl
look_back (y ∷ a) b x e = go (nat_eq x y.0) e (look_back a b x)
  where
    go : (q : Bool) → cond q (Some y.1) (look a x) ≡ None → (look a x ≡ None → look (a ++ b) x ≡ look b x) → cond q (Some y.1) (look (a ++ b) x) ≡ look b x
    go true h rest = cc
    go false h rest = rest h

-- what is found in an environment is one of its items
pub look_all : (P : ℕ × Value → Type 0) (env : Env) (x : ℕ) (v : Value) → AllByRecursion P env → look env x ≡ Some v → P (x, v)
look_all P [] x v h e = cc
look_all P (b ∷ env) x v h e = go (nat_eq x b.0) refl e (look_all P env x v h.1)
  where
    go : (q : Bool) → nat_eq x b.0 ≡ q → cond q (Some b.1) (look env x) ≡ Some v → (look env x ≡ Some v → P (x, v)) → P (x, v)
    go true n f rest = let same : b.1 ≡ v = cc in let key : b.0 ≡ x = sym (eqb-true x b.0 n) in subst (λ y. P (y, v)) key (subst (λ w. P (b.0, w)) same h.0)
    go false n f rest = rest f

both_false : (a b : Bool) → (a && not b) ≡ false → b ≡ false → a ≡ false
both_false true b h g = let x : not b ≡ false = h in ap not (sym x) ∙ ap (λ w. not (not w)) g
both_false false b h g = refl

module _ (p : Bare) (t : Typing) (sig : List Entry) where
  pub env_cut : (g : TyVar → Tree) (xs ys : List ℕ) (env : Env) → IsWithin xs ys → EnvTy p t sig g ys env → EnvTy p t sig g xs (cut xs env)
  env_cut g xs ys env w h = (h.0, (λ x m. let k = h.1 x (w x m) in (k.0, look_cut xs env x k.0 m k.1, k.2)))

  pub env_within : (g : TyVar → Tree) (xs ys : List ℕ) (env : Env) → IsWithin xs ys → EnvTy p t sig g ys env → EnvTy p t sig g xs env
  env_within g xs ys env w h = (h.0, (λ x m. h.1 x (w x m)))

  -- a name's value keeps its types where what changes isn't free in its scheme
  pub scheme_spread : (gens : List TyVar) (g h : TyVar → Tree) → KeepsMarks t.names g → Agrees t.names gens g h → (x : ℕ) (v : Value) → ((w : TyVar) → has_num gens w.num ≡ true → is_free w.num (t.schemes x) ≡ false) → HasScheme p t sig g x v → HasScheme p t sig h x v
  scheme_spread gens g h kg agr x v fresh e f af =
      subst (HasTy p t sig v) (inst_same m f s.body (λ w occ. same w occ (has_num s.vars w.num) refl)) (e m am)
    where
      s : Poly
      s = t.schemes x

      m : TyVar → Tree
      m w = cond (has_num (t.schemes x).vars w.num) (f w) (g w)

      keeps : KeepsMarks t.names m
      keeps w e = go (has_num (t.schemes x).vars w.num)
        where
          go : (q : Bool) → admits t.names (cond q (f w) (g w)) ≡ true
          go true = af.1 w e
          go false = kg w e

      am : Agrees t.names (t.schemes x).vars g m
      am = ((λ w n. ap (λ q. cond q (f w) (g w)) n), keeps)

      old : (w : TyVar) → occurs w.num (t.schemes x).body ≡ true → has_num (t.schemes x).vars w.num ≡ false → (q : Bool) → has_num gens w.num ≡ q → g w ≡ f w
      old w occ n true eq =
          let a : occurs w.num (t.schemes x).body ≡ false = both_false (occurs w.num (t.schemes x).body) (has_num (t.schemes x).vars w.num) (fresh w eq) n in cc
      old w occ n false eq = sym (af.0 w n ∙ agr.0 w eq)

      same : (w : TyVar) → occurs w.num (t.schemes x).body ≡ true → (q : Bool) → has_num (t.schemes x).vars w.num ≡ q → m w ≡ f w
      same w occ true eq = ap (λ q. cond q (f w) (g w)) eq
      same w occ false eq = ap (λ q. cond q (f w) (g w)) eq ∙ old w occ eq (has_num gens w.num) refl

  -- in a context in which they are fresh
  abbrev pub AreFresh : Context → List TyVar → Type 0
  AreFresh c gens = (w : TyVar) → has_num gens w.num ≡ true → IsFresh t.schemes c w.num

  weaker : (b : Bool) (s : Poly) (n : ℕ) → is_free n (cond b (mono s.body) s) ≡ false → is_free n s ≡ false
  weaker true s n h = go (occurs n s.body) h
    where
      go : (o : Bool) → (o && true) ≡ false → (o && not (has_num s.vars n)) ≡ false
      go true h = cc
      go false h = refl
  weaker false s n h = h

  pub env_spread : (c : Context) (gens : List TyVar) (g h : TyVar → Tree) (xs : List ℕ) (env : Env) → Agrees t.names gens g h → AreFresh c gens → IsWithin xs c.names → EnvTy p t sig g xs env → EnvTy p t sig h xs env
  env_spread c gens g h xs env agr fresh w e = (
    agr.1,
    (λ x m.
        let k = e.1 x m in
        (k.0, k.1, scheme_spread gens g h e.0 agr x k.0 (λ v n. weaker (is_in c.own x) (t.schemes x) v.num (at_name c.names (λ x. is_free v.num (scheme_in t.schemes c x) ≡ false) (fresh v n).1 x (w x m))) k.2)),
  )

  -- where they are one everywhere
  pub env_same : (g h : TyVar → Tree) (xs : List ℕ) (env : Env) → Agrees t.names [] g h → EnvTy p t sig g xs env → EnvTy p t sig h xs env
  env_same g h xs env agr e = (agr.1, (λ x m. let k = e.1 x m in (k.0, k.1, scheme_spread [] g h e.0 agr x k.0 (λ v n. cc) k.2)))

  -- what is bound in front of an environment
  pub joined : (g : TyVar → Tree) (all ys xs : List ℕ) (e env : Env) → ((x : ℕ) (v : Value) → look e x ≡ Some v → HasScheme p t sig g x v) → ((x : ℕ) → has all x ≡ true → (v : Value) × (look e x ≡ Some v)) → EnvTy p t sig g ys env → ((x : ℕ) → has xs x ≡ true → has all x ≡ false → has ys x ≡ true) → EnvTy p t sig g xs (e ++ env)
  joined g all ys xs e env hs ha he w = (he.0, (λ x mx. go x mx (look e x) refl))
    where
      go : (x : ℕ) → has xs x ≡ true → (o : Option Value) → look e x ≡ o → (v : Value) × (look (e ++ env) x ≡ Some v) × HasScheme p t sig g x v
      go x mx (Some v) ev = (v, look_front e env x v ev, hs x v ev)
      go x mx None ev =
          in_or_not all x ((v : Value) × (look (e ++ env) x ≡ Some v) × HasScheme p t sig g x v) (λ a. let v = ha x a in let x = sym ev ∙ v.1 in cc) (λ a. let k = he.1 x (w x mx a) in (k.0, look_back e env x ev ∙ k.1, k.2))
