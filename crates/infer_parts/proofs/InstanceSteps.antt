-- New variables, one after another.
use Rattle.std.proofs.Common.{◌≡◌, ℕ, zero, suc, ◌+◌, ◌-◌, ◌<◌, ◌≤◌, Bool, true, false, List, [], ◌∷◌, ◌++◌, length, Option, Some, None, refl, sym, ap, ◌∙◌, arith, subst, nat_eq, cond}
use Rattle.std.specs.Prelude.{slice_get, get_or}
use Rattle.std.specs.List.{AllByRecursion, find}
use Rattle.std.specs.Prelude.{◌||◌}
use Rattle.std.proofs.lemmas.Bool.{eq-eqb, eqb-true}
use Rattle.sml_types.proofs.TreeFacts.{or_right}
use Rattle.sml_types.specs.declared.types.Ty.{Ty}
use Rattle.sml_types.specs.declared.types.TyVar.{TyVar}
use Rattle.sml_types.specs.declared.types.TyForm.{TyForm}
use Rattle.sml_types.specs.declared.types.TyForm.TheVariants.{Var}
use Rattle.sml_types.specs.Tree.{Tree, Variable, inst, occurs}
use Rattle.sml_types.specs.Forms.{tree, parts_of}
use Rattle.sml_types.specs.Poly.{has_num}
use Rattle.sml_types.proofs.TreeFacts.{inst_same, inst_id}
use Rattle.sml_types.proofs.FormFacts.{tree_new}
use Rattle.sml_unify.specs.Steps.{IsLonger, AreBelow}
use Rattle.infer_parts.specs.declared.given.Given.{Given}
use Rattle.infer_parts.specs.Copies.{given_types, given_tree, place, moved, IsClosed, AreCopied}
use Rattle.infer_parts.specs.Instances.{IsNewVar, AreNewVars, IsShared, IsFreshCopy}
use Rattle.infer_parts.proofs.CopySteps.{found_there, known_at, some_eq, at_place, same_given}

get_at_end : (xs : List TyForm) (f : TyForm) → slice_get (xs ++ f ∷ []) (length xs) ≡ Some f
get_at_end [] f = refl
get_at_end (x ∷ xs) f = get_at_end xs f

-- a form of a longer list is an old one or the last
last_form : {A : Type 0} (P : A → Type 0) (xs : List A) (y : A) (i : ℕ) (x : A) → slice_get (xs ++ y ∷ []) i ≡ Some x → (slice_get xs i ≡ Some x → P x) → (y ≡ x → P x) → P x
last_form P [] y zero x e f g = g (let same : y ≡ x = cc in same)
last_form P [] y (suc i) x e f g = cc
last_form P (z ∷ xs) y zero x e f g = f e
last_form P (z ∷ xs) y (suc i) x e f g = last_form P xs y i x e f g

pub below_more : (forms : List TyForm) (v : TyVar) (next : ℕ) → AreBelow forms next → v.num < next → AreBelow (forms ++ Var v ∷ []) next
below_more forms v next b l i w e =
    last_form (λ form. form ≡ Var w → w.num < next) forms (Var v) i (Var w) e (λ q r. b i w q) (λ q r. let same : v ≡ w = cc in subst (λ u. u.num < next) same l) refl

pub below_up : (forms : List TyForm) (n m : ℕ) → n ≤ m → AreBelow forms n → AreBelow forms m
below_up forms n m l b i v e = let k = b i v e in omega arith

pub last_there : (forms : List TyForm) (f : TyForm) (i : ℕ) → i ≡ length forms → slice_get (forms ++ f ∷ []) i ≡ Some f
last_there forms f i e = ap (slice_get (forms ++ f ∷ [])) e ∙ get_at_end forms f

pub new_var : (forms : List TyForm) (v : TyVar) (t : Ty) → t.0 ≡ length forms → tree (forms ++ Var v ∷ []) t.0 ≡ Variable v
new_var forms v t e = ap (tree (forms ++ Var v ∷ [])) e ∙ tree_new forms (Var v)

new_longer : (next : ℕ) (eq : Bool) (forms after : List TyForm) (t : Ty) → IsLonger forms after → IsNewVar next eq forms t → IsNewVar next eq after t
new_longer next eq forms after t l n = record { num = n.num; above = n.above; there = (let a = n.there in let b = l.count in omega arith); form = l.keeps t.0 (Var (record { num = n.num; eq = eq })) n.form; is = l.trees t.0 n.there ∙ n.is }

-- new variables stay new
pub news_longer : (next : ℕ) (vs : List TyVar) (forms after : List TyForm) (given : List Given) → IsLonger forms after → AreNewVars next vs forms given → AreNewVars next vs after given
news_longer next [] forms after [] l n = tt
news_longer next [] forms after (g ∷ given) l n = absurd n
news_longer next (v ∷ vs) forms after [] l n = absurd n
news_longer next (v ∷ vs) forms after (g ∷ given) l n = (n.0, new_longer next v.eq forms after g.ty l n.1, news_longer next vs forms after given l n.2)

-- one more
pub news_more : (first next : ℕ) (vs : List TyVar) (v : TyVar) (forms : List TyForm) (given : List Given) (g : Given) → first ≤ next → AreNewVars first vs forms given → g.num ≡ v.num → IsNewVar next v.eq forms g.ty → AreNewVars first (vs ++ v ∷ []) forms (given ++ g ∷ [])
news_more first next [] v forms [] g l n e new = (e, record { num = new.num; above = (let a = new.above in omega arith); there = new.there; form = new.form; is = new.is }, tt)
news_more first next [] v forms (h ∷ given) g l n e new = absurd n
news_more first next (w ∷ vs) v forms [] g l n e new = absurd n
news_more first next (w ∷ vs) v forms (h ∷ given) g l n e new = (n.0, n.1, news_more first next vs v forms given g l n.2 e new)

-- what is given is there
pub news_there : (next : ℕ) (vs : List TyVar) (forms : List TyForm) (given : List Given) → AreNewVars next vs forms given → AllByRecursion (λ g. g.ty.0 < length forms) given
news_there next [] forms [] n = tt
news_there next [] forms (g ∷ given) n = absurd n
news_there next (v ∷ vs) forms [] n = absurd n
news_there next (v ∷ vs) forms (g ∷ given) n = (n.1.there, news_there next vs forms given n.2)

-- ---- What is shared has none of the variables that are given

first_test : (test : Given → Bool) (x g : Given) (rest : Option Given) (b : Bool) → test x ≡ b → (rest ≡ Some g → test g ≡ true) → cond b (Some x) rest ≡ Some g → test g ≡ true
first_test test x g rest true q later e = let same : x ≡ g = cc in ap test (sym same) ∙ q
first_test test x g rest false q later e = later e

found_test : (test : Given → Bool) (given : List Given) (g : Given) → find test given ≡ Some g → test g ≡ true
found_test test [] g e = cc
found_test test (x ∷ given) g e = first_test test x g (find test given) (test x) refl (λ q. found_test test given g q) e

all_nums : (P Q : Given → Type 0) (given : List Given) → ((g : Given) → P g → Q g) → AllByRecursion P given → AllByRecursion Q given
all_nums P Q [] f h = tt
all_nums P Q (g ∷ given) f h = (f g h.0, all_nums P Q given f h.1)

pub news_nums : (next : ℕ) (vs : List TyVar) (forms : List TyForm) (given : List Given) → AreNewVars next vs forms given → AllByRecursion (λ g. has_num vs g.num ≡ true) given
news_nums next [] forms [] n = tt
news_nums next [] forms (g ∷ given) n = absurd n
news_nums next (v ∷ vs) forms [] n = absurd n
news_nums next (v ∷ vs) forms (g ∷ given) n = (
  ap (λ b. b || has_num vs g.num) (eq-eqb g.num v.num n.0),
  all_nums (λ h. has_num vs h.num ≡ true) (λ h. has_num (v ∷ vs) h.num ≡ true) given (λ h e. or_right (nat_eq h.num v.num) (has_num vs h.num) e) (news_nums next vs forms given n.2),
)

-- nothing is given for other variables
pub fixed : (forms : List TyForm) (vs : List TyVar) (given : List Given) (v : TyVar) (o : Option Given) → AllByRecursion (λ g. has_num vs g.num ≡ true) given → (has_num vs v.num ≡ true → ⊥) → find (λ g. nat_eq g.num v.num) given ≡ o → given_tree forms v o ≡ Variable v
fixed forms vs given v None h n e = refl
fixed forms vs given v (Some g) h n e =
    let same = eqb-true g.num v.num (found_test (λ x. nat_eq x.num v.num) given g e) in
    let there = found_there (λ x. has_num vs x.num ≡ true) (λ x. nat_eq x.num v.num) given g h e in
    absurd (n (ap (has_num vs) (sym same) ∙ there))

-- what has none of the variables stays as it is
kept : (forms : List TyForm) (vs : List TyVar) (given : List Given) (t : Tree) → AllByRecursion (λ g. has_num vs g.num ≡ true) given → ((a : ℕ) → has_num vs a ≡ true → occurs a t ≡ false) → inst (given_types forms given) t ≡ t
kept forms vs given t h none =
    inst_same (given_types forms given) Variable t (λ v o. fixed forms vs given v (find (λ g. nat_eq g.num v.num) given) h (λ e. let clash : false ≡ true = sym (none v.num e) ∙ o in cc) refl)
    ∙ inst_id t

parts_kept : (old forms : List TyForm) (vs : List TyVar) (given : List Given) (first : ℕ) (is : List ℕ) → IsLonger old forms → first ≤ length old → AllByRecursion (λ g. has_num vs g.num ≡ true) given → AllByRecursion (λ c. c < first → (a : ℕ) → has_num vs a ≡ true → occurs a (tree old c) ≡ false) is → AllByRecursion (λ c. c < first → inst (given_types forms given) (tree forms c) ≡ tree forms c) is
parts_kept old forms vs given first [] l below h n = tt
parts_kept old forms vs given first (c ∷ is) l below h n = (
  λ low. kept forms vs given (tree forms c) h (λ a e. ap (occurs a) (l.trees c (omega arith)) ∙ n.0 low a e),
  parts_kept old forms vs given first is l below h n.1,
)

-- so the forms up to a type are closed for what is given
pub closed_given : (old forms : List TyForm) (next : ℕ) (vs : List TyVar) (given : List Given) (first last : ℕ) → IsLonger old forms → AreNewVars next vs forms given → first ≤ last → last < length old → IsShared old vs first last → IsClosed forms given first (last + 1)
closed_given old forms next vs given first last l n order there shared i form lo hi e = parts_kept old forms vs given first (parts_of form) l (omega arith) (news_nums next vs forms given n) (shared i form lo (omega arith) was)
  where
    was : slice_get old i ≡ Some form
    was = let o = known_at old i (omega arith) in o.1 ∙ ap Some (some_eq o.0 form (sym (l.keeps i o.0 o.1) ∙ e))

any_default : {A : Type 0} (xs : List A) (i : ℕ) (d e : A) → i < length xs → get_or xs i d ≡ get_or xs i e
any_default [] i d e l = absurd (omega arith)
any_default (x ∷ xs) zero d e l = refl
any_default (x ∷ xs) (suc i) d e l = any_default xs i d e (omega arith)

-- the copy of a type
pub fresh_copy : (old forms after : List TyForm) (next : ℕ) (vs : List TyVar) (given : List Given) (first last : ℕ) (copies : List Ty) (t : Ty) → IsLonger old forms → AreNewVars next vs forms given → first ≤ last → last < length old → AreCopied forms given first (last + 1) after copies → t ≡ get_or copies (last - first) t → IsFreshCopy old next vs last after t
fresh_copy old forms after next vs given first last copies t l n order there h e =
    let count = h.count in
    let same : moved first copies last ≡ t.0 = at_place first copies last order ∙ ap (λ u. u.0) (any_default copies (last - first) (place last) t (omega arith) ∙ sym e) in
    let made = h.copied last order (omega arith) in
    record {
      given = given;
      new = news_longer next vs forms after given h.longer n;
      there = subst (λ k. k < length after) same made.0;
      is = ap (tree after) (sym same) ∙ made.1 ∙ same_given_back forms after given (tree forms last) h.longer (news_there next vs forms given n) ∙ ap (inst (given_types after given)) (l.trees last there);
    }
  where
    same_given_back : (forms after : List TyForm) (given : List Given) (t : Tree) → IsLonger forms after → AllByRecursion (λ g. g.ty.0 < length forms) given → inst (given_types forms given) t ≡ inst (given_types after given) t
    same_given_back forms after given t l h = sym (same_given forms after given t l h)
