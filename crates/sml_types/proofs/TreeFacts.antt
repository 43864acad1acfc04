-- Substitution in trees.
use Rattle.std.proofs.Common.{◌≡◌, ℕ, ◌≤◌, Bool, true, false, refl, sym, ap, ◌∙◌, arith, List}
use Rattle.std.specs.Prelude.{◌||◌, ◌&&◌}
use Rattle.std.proofs.lemmas.Bool.{eqb-true, eq-eqb}
use Rattle.sml_types.specs.declared.types.TyVar.{TyVar}
use Rattle.sml_types.specs.declared.tables.Equality.{Equality}
use Rattle.sml_types.specs.declared.tables.Equality.TheVariants.{Never, Always, Parts}
use Rattle.sml_types.specs.declared.tables.TypeName.{TypeName}
use Rattle.sml_types.specs.Tree.{Tree, Variable, App, NoParts, Part, inst, occurs, size, admits, by_equality, head_equality}

pub or_left : (a b : Bool) → a ≡ true → (a || b) ≡ true
or_left a b h = ap (λ w. w || b) h

pub or_right : (a b : Bool) → b ≡ true → (a || b) ≡ true
or_right true b h = refl
or_right false b h = h

-- of two tests one holds
pub either : (a b : Bool) (P : Type 0) → (a || b) ≡ true → (a ≡ true → P) → (b ≡ true → P) → P
either true b P h f g = f refl
either false b P h f g = g h

pub or_none : (a b : Bool) → (a || b) ≡ false → (a ≡ false) × (b ≡ false)
or_none true b h = cc
or_none false b h = (refl, h)

pub and_both : (a b : Bool) → (a && b) ≡ true → (a ≡ true) × (b ≡ true)
and_both true b h = (refl, h)
and_both false b h = cc

-- two substitutions that agree on a type's variables
pub inst_same : (f g : TyVar → Tree) (t : Tree) → ((v : TyVar) → occurs v.num t ≡ true → f v ≡ g v) → inst f t ≡ inst g t
inst_same f g (Variable v) h = h v (eq-eqb v.num v.num refl)
inst_same f g (App c ts) h = ap (App c) (inst_same f g ts h)
inst_same f g NoParts h = refl
inst_same f g (Part t ts) h =
    let l = inst_same f g t (λ v e. h v (or_left (occurs v.num t) (occurs v.num ts) e)) in
    let r = inst_same f g ts (λ v e. h v (or_right (occurs v.num t) (occurs v.num ts) e)) in cc

pub inst_inst : (f g : TyVar → Tree) (t : Tree) → inst f (inst g t) ≡ inst (λ v. inst f (g v)) t
inst_inst f g (Variable v) = refl
inst_inst f g (App c ts) = ap (App c) (inst_inst f g ts)
inst_inst f g NoParts = refl
inst_inst f g (Part t ts) = let l = inst_inst f g t in let r = inst_inst f g ts in cc

pub inst_id : (t : Tree) → inst Variable t ≡ t
inst_id (Variable v) = refl
inst_id (App c ts) = ap (App c) (inst_id ts)
inst_id NoParts = refl
inst_id (Part t ts) = let l = inst_id t in let r = inst_id ts in cc

-- a type under a substitution is no smaller than what a variable in it stands for
pub size_in : (f : TyVar → Tree) (v : TyVar) (t : Tree) (n : ℕ) → ((w : TyVar) → w.num ≡ v.num → n ≤ size (f w)) → occurs v.num t ≡ true → n ≤ size (inst f t)
size_in f v (Variable w) n h e = h w (sym (eqb-true v.num w.num e))
size_in f v (App c ts) n h e = let k = size_in f v ts n h e in omega arith
size_in f v NoParts n h e = cc
size_in f v (Part t ts) n h e =
    either (occurs v.num t) (occurs v.num ts) (n ≤ size (inst f (Part t ts))) e (λ q. let k = size_in f v t n h q in omega arith) (λ q. let k = size_in f v ts n h q in omega arith)

-- what stands in what a variable stands for
pub occurs_in : (f : TyVar → Tree) (x : ℕ) (t : Tree) → occurs x (inst f t) ≡ true → (v : TyVar) × (occurs v.num t ≡ true) × (occurs x (f v) ≡ true)
occurs_in f x (Variable w) e = (w, eq-eqb w.num w.num refl, e)
occurs_in f x (App c ts) e = occurs_in f x ts e
occurs_in f x NoParts e = cc
occurs_in f x (Part t ts) e =
    either
    (occurs x (inst f t))
    (occurs x (inst f ts))
    ((v : TyVar) × (occurs v.num (Part t ts) ≡ true) × (occurs x (f v) ≡ true))
    e
    (λ q. let r = occurs_in f x t q in (r.0, or_left (occurs r.0.num t) (occurs r.0.num ts) r.1, r.2))
    (λ q. let r = occurs_in f x ts q in (r.0, or_right (occurs r.0.num t) (occurs r.0.num ts) r.1, r.2))

pub by_mono : (q : Equality) (a b : Bool) → (a ≡ true → b ≡ true) → by_equality q a ≡ true → by_equality q b ≡ true
by_mono Never a b f w = w
by_mono Always a b f w = w
by_mono Parts a b f w = f w

-- substitutions keep what admits equality, if each marked variable stands for such a type
pub admits_inst : (names : List TypeName) (f : TyVar → Tree) (t : Tree) → ((v : TyVar) → occurs v.num t ≡ true → v.eq ≡ true → admits names (f v) ≡ true) → admits names t ≡ true → admits names (inst f t) ≡ true
admits_inst names f (Variable v) h e = h v (eq-eqb v.num v.num refl) e
admits_inst names f (App c ts) h e = by_mono (head_equality names c) (admits names ts) (admits names (inst f ts)) (admits_inst names f ts h) e
admits_inst names f NoParts h e = refl
admits_inst names f (Part t ts) h e =
    let b = and_both (admits names t) (admits names ts) e in
    let l = admits_inst names f t (λ v k. h v (or_left (occurs v.num t) (occurs v.num ts) k)) b.0 in
    let r = admits_inst names f ts (λ v k. h v (or_right (occurs v.num t) (occurs v.num ts) k)) b.1 in
    ap (λ w. w && admits names (inst f ts)) l ∙ r
