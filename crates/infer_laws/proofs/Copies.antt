-- Instances and copies of schemes under substitutions.
use Rattle.std.proofs.Common.{◌≡◌, ℕ, Bool, true, false, cond, List, [], ◌∷◌, refl, sym, ap, ◌∙◌, subst, nat_eq, map, inl, inr}
use Rattle.std.specs.Prelude.{◌&&◌, ◌||◌, not}
use Rattle.std.specs.List.{AllByRecursion}
use Rattle.std.proofs.lemmas.Bool.{eq-eqb, eqb-true}
use Rattle.sml_types.specs.declared.types.TyVar.{TyVar}
use Rattle.sml_types.specs.declared.tables.TypeName.{TypeName}
use Rattle.sml_types.specs.Tree.{Tree, Variable, App, NoParts, Part, inst, occurs, admits, AllVars}
use Rattle.sml_types.specs.Poly.{Poly, mono, is_in, has_num, IsInstance}
use Rattle.sml_types.specs.Library.{unit_ty}
use Rattle.sml_types.specs.Typing.{IsAmong}
use Rattle.sml_types.proofs.TreeFacts.{inst_same, inst_id, inst_inst, admits_inst}
use Rattle.sml_unify.specs.Solved.{Substitution}
use Rattle.infer_state.specs.Rules.{IsCopy}
use Rattle.infer_state.specs.Fits.{Suits}
use Rattle.infer_state.specs.Typings.{var_at, poly_under, AreApart, IsProper}
use Rattle.infer_laws.specs.Schemes.{KeepsMarks, AreNamedOnce}

-- ---- Variables of a type

pub vars_map : (P Q : TyVar → Type 0) (t : Tree) → ((v : TyVar) → P v → Q v) → AllVars P t → AllVars Q t
vars_map P Q (Variable v) f h = f v h
vars_map P Q (App c ts) f h = vars_map P Q ts f h
vars_map P Q NoParts f h = tt
vars_map P Q (Part t ts) f h = (vars_map P Q t f h.0, vars_map P Q ts f h.1)

pub vars_both : (P Q : TyVar → Type 0) (t : Tree) → AllVars P t → AllVars Q t → AllVars (λ v. P v × Q v) t
vars_both P Q (Variable v) h k = (h, k)
vars_both P Q (App c ts) h k = vars_both P Q ts h k
vars_both P Q NoParts h k = tt
vars_both P Q (Part t ts) h k = (vars_both P Q t h.0 k.0, vars_both P Q ts h.1 k.1)

pub vars_all : (P : TyVar → Type 0) (t : Tree) → ((v : TyVar) → P v) → AllVars P t
vars_all P (Variable v) f = f v
vars_all P (App c ts) f = vars_all P ts f
vars_all P NoParts f = tt
vars_all P (Part t ts) f = (vars_all P t f, vars_all P ts f)

pub vars_inst : (P Q : TyVar → Type 0) (f : Substitution) (t : Tree) → ((v : TyVar) → P v → AllVars Q (f v)) → AllVars P t → AllVars Q (inst f t)
vars_inst P Q f (Variable v) h k = h v k
vars_inst P Q f (App c ts) h k = vars_inst P Q f ts h k
vars_inst P Q f NoParts h k = tt
vars_inst P Q f (Part t ts) h k = (vars_inst P Q f t h k.0, vars_inst P Q f ts h k.1)

-- two substitutions that agree on the variables of a type
pub inst_on : (f g : Substitution) (t : Tree) → AllVars (λ v. f v ≡ g v) t → inst f t ≡ inst g t
inst_on f g (Variable v) h = h
inst_on f g (App c ts) h = ap (App c) (inst_on f g ts h)
inst_on f g NoParts h = refl
inst_on f g (Part t ts) h = let l = inst_on f g t h.0 in let r = inst_on f g ts h.1 in cc

-- a substitution that leaves what stands in a type
pub inst_left : (at : Substitution) (t : Tree) → ((v : TyVar) → occurs v.num t ≡ true → at v ≡ Variable v) → inst at t ≡ t
inst_left at t h = inst_same at Variable t h ∙ inst_id t

-- ---- Types that keep marks

-- a type, or unit where it would break a mark
abbrev pub marked_as : List TypeName → Bool → Tree → Tree
marked_as names eq t = cond (eq && not (admits names t)) unit_ty t

pub marked_keeps : (names : List TypeName) (eq : Bool) (t : Tree) → eq ≡ true → admits names (marked_as names eq t) ≡ true
marked_keeps names eq t e = by (admits names t) refl
  where
    by : (b : Bool) → admits names t ≡ b → admits names (marked_as names eq t) ≡ true
    by true q =
        ap (λ b. admits names (cond (eq && not b) unit_ty t)) q ∙ ap (λ b. admits names (cond (b && false) unit_ty t)) e ∙ q
    by false q =
        ap (λ b. admits names (cond (eq && not b) unit_ty t)) q ∙ ap (λ b. admits names (cond (b && true) unit_ty t)) e

pub marked_is : (names : List TypeName) (eq : Bool) (t : Tree) → (eq ≡ true → admits names t ≡ true) → marked_as names eq t ≡ t
marked_is names true t h = ap (λ b. cond (true && not b) unit_ty t) (h refl)
marked_is names false t h = refl

-- ---- A copy of a settled scheme, from an instance of a typing's

module _ (names : List TypeName) (f : Substitution) (s other : Poly) (t : Tree) (suits : Suits f s other) (keeps : KeepsMarks names f s.body) (i : IsInstance names other t) where
  -- what a variable of the scheme stands for
  abbrev stood : TyVar → Tree
  stood v = inst i.at (f v)

  admitted : (v : TyVar) → (v.eq ≡ true → admits names (f v) ≡ true) → v.eq ≡ true → admits names (stood v) ≡ true
  admitted v h e = admits_inst names i.at (f v) (λ w o q. each w q (has_num other.vars w.num) refl) (h e)
    where
      each : (w : TyVar) → w.eq ≡ true → (b : Bool) → has_num other.vars w.num ≡ b → admits names (i.at w) ≡ true
      each w q true e = i.marks w e q
      each w q false e = ap (admits names) (i.others w e) ∙ q

  abbrev Open : TyVar → Type 0
  Open u = has_num s.vars u.num ≡ false → (a : ℕ) → occurs a (f u) ≡ true → has_num other.vars a ≡ false

  each_var : (v : TyVar) (b : Bool) → has_num s.vars v.num ≡ b → Open v → (v.eq ≡ true → admits names (f v) ≡ true) → stood v ≡ cond b (marked_as names v.eq (stood v)) (f v)
  each_var v true e o k = sym (marked_is names v.eq (stood v) (admitted v k))
  each_var v false e o k = inst_left i.at (f v) (λ w q. i.others w (o e w.num q))

  pub copy_of : IsCopy names f s t
  copy_of =
      record {
        at = λ v. marked_as names v.eq (stood v);
        marks = λ v h e. marked_keeps names v.eq (stood v) e;
        is =
            i.is
            ∙ ap (inst i.at) (sym suits.body)
            ∙ inst_inst i.at f s.body
            ∙ inst_on stood (λ v. cond (has_num s.vars v.num) (marked_as names v.eq (stood v)) (f v)) s.body (vars_map (λ v. Open v × (v.eq ≡ true → admits names (f v) ≡ true)) (λ v. stood v ≡ cond (has_num s.vars v.num) (marked_as names v.eq (stood v)) (f v)) s.body (λ v h. each_var v (has_num s.vars v.num) refl h.0 h.1) (vars_both Open (λ v. v.eq ≡ true → admits names (f v) ≡ true) s.body suits.left_open keeps));
      }

-- ---- A scheme under a substitution

pub of_among : (P : TyVar → Type 0) (u : TyVar) (vs : List TyVar) → AllByRecursion P vs → IsAmong u vs → P u
of_among P u [] h a = absurd a
of_among P u (v ∷ vs) h (inl e) = subst P (sym e) h.0
of_among P u (v ∷ vs) h (inr a) = of_among P u vs h.1 a

or_second : (a b : Bool) → b ≡ true → (a || b) ≡ true
or_second true b h = refl
or_second false b h = h

module _ (f : Substitution) where
  -- the number of the variable that stands for a variable
  abbrev num : TyVar → ℕ
  num v = (var_at v (f v)).num

  among_in : (u : TyVar) (vs : List TyVar) → IsAmong u vs → is_in (map num vs) (num u) ≡ true
  among_in u [] a = absurd a
  among_in u (v ∷ vs) (inl e) = ap (λ b. b || is_in (map num vs) (num u)) (eq-eqb (num u) (num v) (ap num e))
  among_in u (v ∷ vs) (inr a) = or_second (nat_eq (num u) (num v)) (is_in (map num vs) (num u)) (among_in u vs a)

  among_num : (u : TyVar) (vs : List TyVar) → IsAmong u vs → has_num (map (λ v. var_at v (f v)) vs) (num u) ≡ true
  among_num u [] a = absurd a
  among_num u (v ∷ vs) (inl e) =
      ap (λ b. b || has_num (map (λ w. var_at w (f w)) vs) (num u)) (eq-eqb (num u) (num v) (ap num e))
  among_num u (v ∷ vs) (inr a) =
      or_second (nat_eq (num u) (num v)) (has_num (map (λ w. var_at w (f w)) vs) (num u)) (among_num u vs a)

  -- what is given for the variable that stands for one of these
  abbrev pick : (TyVar → Tree) → List TyVar → TyVar → Tree
  pick at [] w = Variable w
  pick at (v ∷ vs) w = cond (nat_eq w.num (num v)) (at v) (pick at vs w)

  picked : (at : TyVar → Tree) (u w : TyVar) (vs : List TyVar) → w.num ≡ num u → AreApart (map num vs) → IsAmong u vs → pick at vs w ≡ at u
  picked at u w [] e d a = absurd a
  picked at u w (v ∷ vs) e d (inl q) =
      ap (λ b. cond b (at v) (pick at vs w)) (eq-eqb w.num (num v) (e ∙ ap num q)) ∙ ap at (sym q)
  picked at u w (v ∷ vs) e d (inr a) = by (nat_eq w.num (num v)) refl (picked at u w vs e d.1 a)
    where
      by : (b : Bool) → nat_eq w.num (num v) ≡ b → pick at vs w ≡ at u → cond b (at v) (pick at vs w) ≡ at u
      by true q r =
          let same : num u ≡ num v = sym e ∙ eqb-true w.num (num v) q in
          let both : true ≡ false = sym (among_in u vs a) ∙ ap (is_in (map num vs)) same ∙ d.0 in
          cc
      by false q r = r

-- a copy of a scheme, of whose free variables one substitution is made by another through the third, is a copy of the scheme under the third
module _ (names : List TypeName) (f h k : Substitution) (s : Poly) (t : Tree) (proper : IsProper f s) (once : AreNamedOnce s) (c : IsCopy names h s t) (through : AllVars (λ u. has_num s.vars u.num ≡ false → inst k (f u) ≡ h u) s.body) where
  abbrev given : TyVar → Tree
  given w = marked_as names w.eq (pick f c.at s.vars w)

  abbrev whole : Substitution
  whole w = cond (has_num (poly_under f s).vars w.num) (given w) (k w)

  abbrev before : Substitution
  before v = cond (has_num s.vars v.num) (c.at v) (h v)

  own : (u : TyVar) → has_num s.vars u.num ≡ true → IsAmong u s.vars → inst whole (f u) ≡ c.at u
  own u q a =
      ap (inst whole) (of_among (λ v. f v ≡ Variable (record { num = num f v; eq = v.eq })) u s.vars proper.vars a)
      ∙ ap (λ b. cond b (given (record { num = num f u; eq = u.eq })) (k (record { num = num f u; eq = u.eq }))) (among_num f u s.vars a)
      ∙ ap (marked_as names u.eq) (picked f c.at u (record { num = num f u; eq = u.eq }) s.vars refl proper.apart a)
      ∙ marked_is names u.eq (c.at u) (c.marks u q)

  abbrev Kept : TyVar → Type 0
  Kept u = has_num s.vars u.num ≡ false → (a : ℕ) → occurs a (f u) ≡ true → has_num (poly_under f s).vars a ≡ false

  abbrev Through : TyVar → Type 0
  Through u = has_num s.vars u.num ≡ false → inst k (f u) ≡ h u

  abbrev Among : TyVar → Type 0
  Among u = has_num s.vars u.num ≡ true → IsAmong u s.vars

  at_var : (u : TyVar) (b : Bool) → has_num s.vars u.num ≡ b → Among u → Kept u → Through u → cond b (c.at u) (h u) ≡ inst whole (f u)
  at_var u true q a o e = sym (own u q (a q))
  at_var u false q a o e =
      sym (inst_same whole k (f u) (λ w z. ap (λ b. cond b (given w) (k w)) (o q w.num z)) ∙ e q)

  pub copy_under : IsCopy names k (poly_under f s) t
  copy_under =
      record {
        at = given;
        marks = λ w q e. marked_keeps names w.eq (pick f c.at s.vars w) e;
        is =
            c.is
            ∙ inst_on before (λ u. inst whole (f u)) s.body (vars_map (λ u. Among u × (Kept u × Through u)) (λ u. before u ≡ inst whole (f u)) s.body (λ u x. at_var u (has_num s.vars u.num) refl x.0 x.1.0 x.1.1) (vars_both Among (λ u. Kept u × Through u) s.body once (vars_both Kept Through s.body proper.left_open through)))
            ∙ sym (inst_inst whole f s.body);
      }

-- a copy whose other variables stand for themselves is an instance
pub instance_of : (names : List TypeName) (s : Poly) (t : Tree) → IsCopy names Variable s t → IsInstance names s t
instance_of names s t c =
    record {
      at = λ v. cond (has_num s.vars v.num) (c.at v) (Variable v);
      others = λ v q. ap (λ b. cond b (c.at v) (Variable v)) q;
      marks = λ v q e. ap (λ b. admits names (cond b (c.at v) (Variable v))) q ∙ c.marks v q e;
      is = c.is;
    }

-- a copy of a settled scheme is an instance of the scheme under the substitution
pub instance_under : (names : List TypeName) (f : Substitution) (s : Poly) (t : Tree) → IsProper f s → AreNamedOnce s → IsCopy names f s t → IsInstance names (poly_under f s) t
instance_under names f s t proper once c =
    instance_of names (poly_under f s) t (copy_under names f f Variable s t proper once c (vars_all (λ u. has_num s.vars u.num ≡ false → inst Variable (f u) ≡ f u) s.body (λ u q. inst_id (f u))))

-- an instance of a type is the type
pub mono_only : (names : List TypeName) (a t : Tree) → IsInstance names (mono a) t → t ≡ a
mono_only names a t i = i.is ∙ inst_left i.at a (λ v e. i.others v refl)

pub mono_instance : (names : List TypeName) (a t : Tree) → t ≡ a → IsInstance names (mono a) t
mono_instance names a t e =
    record { at = Variable; others = λ v q. refl; marks = λ v q m. cc; is = e ∙ sym (inst_id a) }

-- a scheme's own type is an instance of it
pub own_instance : (names : List TypeName) (s : Poly) (t : Tree) → t ≡ s.body → IsInstance names s t
own_instance names s t e =
    record { at = Variable; others = λ v q. refl; marks = λ v q m. m; is = e ∙ sym (inst_id s.body) }
