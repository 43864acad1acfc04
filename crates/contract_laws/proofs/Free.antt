-- What is free in the answer was known of what is free in the argument.
use Rattle.std.proofs.Common.{◌≡◌, ◌≢◌, ℕ, zero, suc, List, [], ◌∷◌, map, Option, Some, None, slice_get, Bool, true, false, not, cond, ◌&&◌, ◌||◌, ◌⊎◌, inl, inr, refl, sym, ap, ◌∙◌, subst, ⊎_elim, eqb-true, eq-eqb, nat_eq}
use Rattle.smlc_base.specs.declared.point.Point.{Point}
use Rattle.simulation.specs.Blocks.{IsAmong}
use Rattle.simulation.proofs.Lists.{some_eq}
use Rattle.sml_tree.specs.Sets.{has, union, union_over, without}
use Rattle.sml_tree.proofs.Members.{has-union, has-without}
use Rattle.cps_ir.specs.declared.atom.Atom.{Atom}
use Rattle.cps_ir.specs.declared.atom.Wanted.{Wanted}
use Rattle.cps_ir.specs.declared.atom.Test.{Test}
use Rattle.cps_ir.specs.declared.atom.Shape.{Shape}
use Rattle.cps_ir.specs.declared.atom.Atom.TheVariants as atom
use Rattle.cps_ir.specs.declared.atom.Shape.TheVariants as form
use Rattle.cps_ir.specs.Code.{Code, Make, Pick, Prim, Equal, Fix, Call, Match, Handler, SetHandler, Throw, Halt, Functions, NoFunction, Function, Rules, Otherwise, Rule, names_of}
use Rattle.cps_ir.specs.State.{bind}
use Rattle.cps_ir.specs.Free.{vars, vars_all, vars_wanted, vars_tests, free_code, free_functions, free_rules}
use Rattle.contract_laws.specs.Contract.{Made, Body, Scope, scope, nothing, AtomAt, AtomsAt, WantedAt, wants_num, wants_tag, wants_text, wants_exn, TestAt, Fresh, AllFresh, kept, lost, known_as, params_kept, inner, given_atoms, AsMany, called, Left, none, left, holds, Contracts, make, pick, does, equal, call, match, handler, set_handler, throw, halt, no_make, no_pick, no_prim, inline, known_pick, chosen, Aliases, no_alias, next_alias, alias, Bodies, no_body, next_body, put_body, group, group_gone, SomeContract, some_none, some_both, some_skip, RulesContract, otherwise, rule, last, drop}
use Rattle.contract_laws.proofs.Relation.{eqb_other, neqb}

abbrev pub In : ℕ → List ℕ → Type 0
In x xs = has xs x ≡ true

-- ---- Sets

or_cases : (a b : Bool) → (a || b) ≡ true → (a ≡ true) ⊎ (b ≡ true)
or_cases true b e = inl refl
or_cases false b e = inr e

or_left : (a b : Bool) → a ≡ true → (a || b) ≡ true
or_left true b e = refl
or_left false b e = absurd (cc)

or_right : (a b : Bool) → b ≡ true → (a || b) ≡ true
or_right true b e = refl
or_right false b e = e

pub in_left : (x : ℕ) (xs ys : List ℕ) → In x xs → In x (union xs ys)
in_left x xs ys h = has-union xs ys x ∙ or_left (has xs x) (has ys x) h

pub in_right : (x : ℕ) (xs ys : List ℕ) → In x ys → In x (union xs ys)
in_right x xs ys h = has-union xs ys x ∙ or_right (has xs x) (has ys x) h

pub in_union : (x : ℕ) (xs ys : List ℕ) → In x (union xs ys) → In x xs ⊎ In x ys
in_union x xs ys h = or_cases (has xs x) (has ys x) (sym (has-union xs ys x) ∙ h)

pub in_without : (x : ℕ) (xs gone : List ℕ) → (In x gone → ⊥) → In x xs → In x (without xs gone)
in_without x xs gone n h = has-without xs gone x ∙ by (has gone x) (has xs x) n h
  where
    by : (a b : Bool) → (a ≡ true → ⊥) → b ≡ true → (not a && b) ≡ true
    by true b n h = absurd (n refl)
    by false b n h = h

pub without_in : (x : ℕ) (xs gone : List ℕ) → In x (without xs gone) → (In x gone → ⊥) × In x xs
without_in x xs gone h = by (has gone x) (has xs x) (sym (has-without xs gone x) ∙ h)
  where
    by : (a b : Bool) → (not a && b) ≡ true → (a ≡ true → ⊥) × (b ≡ true)
    by true b h = absurd (cc)
    by false b h = ((λ e. cc), h)

pub in_one : (x y : ℕ) → In x (y ∷ []) → x ≡ y
in_one x y h = ⊎_elim (λ (e : nat_eq x y ≡ true). eqb-true x y e) (λ (e : false ≡ true). absurd (cc)) (or_cases (nat_eq x y) false h)

pub one_in : (x y : ℕ) → x ≡ y → In x (y ∷ [])
one_in x y e = or_left (nat_eq x y) false (eq-eqb x y e)

pub in_cases : (x y : ℕ) (ys : List ℕ) → In x (y ∷ ys) → (x ≡ y) ⊎ In x ys
in_cases x y ys h = ⊎_elim (λ (e : nat_eq x y ≡ true). inl (eqb-true x y e)) (λ (e : has ys x ≡ true). inr e) (or_cases (nat_eq x y) (has ys x) h)

pub in_head : (x y : ℕ) (ys : List ℕ) → x ≡ y → In x (y ∷ ys)
in_head x y ys e = or_left (nat_eq x y) (has ys x) (eq-eqb x y e)

pub in_tail : (x y : ℕ) (ys : List ℕ) → In x ys → In x (y ∷ ys)
in_tail x y ys h = or_right (nat_eq x y) (has ys x) h

pub among_in : (x : ℕ) (xs : List ℕ) → IsAmong x xs → In x xs
among_in x [] h = absurd h
among_in x (y ∷ ys) (inl e) = in_head x y ys e
among_in x (y ∷ ys) (inr h) = in_tail x y ys (among_in x ys h)

pub in_among : (x : ℕ) (xs : List ℕ) → In x xs → IsAmong x xs
in_among x [] h = absurd (cc)
in_among x (y ∷ ys) h = ⊎_elim (λ (e : x ≡ y). inl e) (λ (e : In x ys). inr (in_among x ys e)) (in_cases x y ys h)

-- ---- What holds of the answer's variables through a scope

-- Q holds of each variable of the answer that is known through one of these
pub record Closed (Q : ℕ → Type 0) (S : Scope) (xs : List ℕ) : Type 0 where
  pub names : (x y : ℕ) → In x xs → S.σ x ≡ Some (atom.Var y) → Q y
  pub blocks : (z : ℕ) (t : Made) → S.τ z ≡ Some t → Q z → (y : ℕ) → In y (vars_all t.atoms) → Q y
  pub bodies : (f : ℕ) (b : Body) → In f xs → S.ι f ≡ Some b → (z y : ℕ) → In z (without (free_code b.code) b.params) → b.σ z ≡ Some (atom.Var y) → Q y

pub narrower : (Q : ℕ → Type 0) (S : Scope) (xs ys : List ℕ) → ((x : ℕ) → In x xs → In x ys) → Closed Q S ys → Closed Q S xs
narrower Q S xs ys h c = record {
  names = λ x y i e. c.names x y (h x i) e;
  blocks = c.blocks;
  bodies = λ f b i e z y j g. c.bodies f b (h f i) e z y j g;
}

pub bind_cases : {X : Type 0} (σ : ℕ → Option X) (x : ℕ) (o : Option X) (z : ℕ) (a : X) → bind σ x o z ≡ Some a → ((z ≡ x) × (o ≡ Some a)) ⊎ ((z ≢ x) × (σ z ≡ Some a))
bind_cases {X} σ x o z a e = by (nat_eq z x) refl e
  where
    by : (c : Bool) → nat_eq z x ≡ c → cond c o (σ z) ≡ Some a → ((z ≡ x) × (o ≡ Some a)) ⊎ ((z ≢ x) × (σ z ≡ Some a))
    by true g h = inl (eqb-true z x g, h)
    by false g h = inr (eqb_other z x g, h)

apart_from : (z x : ℕ) (fc : List ℕ) → z ≢ x → In z fc → In z (without fc (x ∷ []))
apart_from z x fc n i = in_without z fc (x ∷ []) (λ j. n (in_one z x j)) i

-- Q, or the name itself
abbrev pub Or : (ℕ → Type 0) → List ℕ → ℕ → Type 0
Or Q xs y = Q y ⊎ In y xs

closed_kept : (Q : ℕ → Type 0) (S : Scope) (x : ℕ) (t : Option Made) (fc : List ℕ) → Closed Q S (without fc (x ∷ [])) → ((m : Made) → t ≡ Some m → (y : ℕ) → In y (vars_all m.atoms) → Q y) → Closed (Or Q (x ∷ [])) (kept S x t) fc
closed_kept Q S x t fc c new = record {
  names = λ z y i e. ⊎_elim
      (λ (u : (z ≡ x) × (Some (atom.Var x) ≡ Some (atom.Var y))). let g : x ≡ y = let k = u.1 in cc in inr (one_in y x (sym g)))
      (λ (u : (z ≢ x) × (S.σ z ≡ Some (atom.Var y))). inl (c.names z y (apart_from z x fc u.0 i) u.1))
      (bind_cases S.σ x (Some (atom.Var x)) z (atom.Var y) e);
  blocks = λ z m e h y i. ⊎_elim
      (λ (u : (z ≡ x) × (t ≡ Some m)). inl (new m u.1 y i))
      (λ (u : (z ≢ x) × (S.τ z ≡ Some m)). ⊎_elim (λ (k : Q z). inl (c.blocks z m u.1 k y i)) (λ (k : In z (x ∷ [])). absurd (u.0 (in_one z x k))) h)
      (bind_cases S.τ x t z m e);
  bodies = λ f b i e z y j g. ⊎_elim
      (λ (u : (f ≡ x) × (None ≡ Some b)). absurd (let k = u.1 in cc))
      (λ (u : (f ≢ x) × (S.ι f ≡ Some b)). inl (c.bodies f b (apart_from f x fc u.0 i) u.1 z y j g))
      (bind_cases S.ι x None f b e);
}

closed_lost : (Q : ℕ → Type 0) (S : Scope) (x : ℕ) (o : Option Atom) (i : Option Body) (fc : List ℕ) → Closed Q S (without fc (x ∷ [])) → ((y : ℕ) → o ≡ Some (atom.Var y) → Q y) → ((b : Body) → i ≡ Some b → (z y : ℕ) → In z (without (free_code b.code) b.params) → b.σ z ≡ Some (atom.Var y) → Q y) → Closed Q (lost S x o i) fc
closed_lost Q S x o i fc c held body = record {
  names = λ z y m e. ⊎_elim
      (λ (u : (z ≡ x) × (o ≡ Some (atom.Var y))). held y u.1)
      (λ (u : (z ≢ x) × (S.σ z ≡ Some (atom.Var y))). c.names z y (apart_from z x fc u.0 m) u.1)
      (bind_cases S.σ x o z (atom.Var y) e);
  blocks = c.blocks;
  bodies = λ f b m e z y j g. ⊎_elim
      (λ (u : (f ≡ x) × (i ≡ Some b)). body b u.1 z y j g)
      (λ (u : (f ≢ x) × (S.ι f ≡ Some b)). c.bodies f b (apart_from f x fc u.0 m) u.1 z y j g)
      (bind_cases S.ι x i f b e);
}

closed_none : (Q : ℕ → Type 0) (S : Scope) (fc : List ℕ) → Closed Q S (without fc []) → Closed (Or Q []) S fc
closed_none Q S fc c = record {
  names = λ x y i e. inl (c.names x y (in_without x fc [] (λ j. cc) i) e);
  blocks = λ z t e h y i. inl (c.blocks z t e (⊎_elim (λ (k : Q z). k) (λ (k : In z []). absurd (cc)) h) y i);
  bodies = λ f b i e z y j g. inl (c.bodies f b (in_without f fc [] (λ j. cc) i) e z y j g);
}

-- ---- Atoms

vars_one : (a : Atom) (y : ℕ) → In y (vars a) → a ≡ atom.Var y
vars_one (atom.Var x) y h = ap atom.Var (sym (in_one y x h))
vars_one (atom.Constant v) y h = absurd (cc)

one_vars : (a : Atom) (y : ℕ) → a ≡ atom.Var y → In y (vars a)
one_vars a y e = subst (λ t. In y (vars t)) (sym e) (one_in y y refl)

at_closed : (Q : ℕ → Type 0) (S : Scope) (a b : Atom) → Closed Q S (vars a) → AtomAt S.σ a b → (y : ℕ) → In y (vars b) → Q y
at_closed Q S (atom.Var x) b c e y i = c.names x y (one_in x x refl) (e ∙ ap Some (vars_one b y i))
at_closed Q S (atom.Constant v) b c e y i = absurd (let j : In y (vars (atom.Constant v)) = subst (λ t. In y (vars t)) e i in cc)

all_closed : (Q : ℕ → Type 0) (S : Scope) (us bs : List Atom) → Closed Q S (vars_all us) → AtomsAt S.σ us bs → (y : ℕ) → In y (vars_all bs) → Q y
all_closed Q S [] [] c e y i = absurd (cc)
all_closed Q S [] (b ∷ bs) c e y i = absurd e
all_closed Q S (a ∷ us) [] c e y i = absurd e
all_closed Q S (a ∷ us) (b ∷ bs) c e y i = ⊎_elim
    (λ (h : In y (vars b)). at_closed Q S a b (narrower Q S (vars a) (union (vars a) (vars_all us)) (λ x j. in_left x (vars a) (vars_all us) j) c) e.0 y h)
    (λ (h : In y (vars_all bs)). all_closed Q S us bs (narrower Q S (vars_all us) (union (vars a) (vars_all us)) (λ x j. in_right x (vars a) (vars_all us) j) c) e.1 y h)
    (in_union y (vars b) (vars_all bs) i)

wanted_closed : (Q : ℕ → Type 0) (S : Scope) (a b : Wanted) → Closed Q S (vars_wanted a) → WantedAt S.σ a b → (y : ℕ) → In y (vars_wanted b) → Q y
wanted_closed Q S w v c (wants_num z) y i = absurd (cc)
wanted_closed Q S w v c (wants_tag t) y i = absurd (cc)
wanted_closed Q S w v c (wants_text t) y i = absurd (cc)
wanted_closed Q S w v c (wants_exn a b applied e) y i = at_closed Q S a b c e y i

left_closed : (T : List (List ℕ)) (Q : ℕ → Type 0) (S : Scope) (a : Atom) (ts us : List Test) → Closed Q S (vars_tests ts) → Left T S.σ S.τ a ts us → (y : ℕ) → In y (vars_tests us) → Q y
left_closed T Q S a ts us c none y i = absurd (cc)
left_closed T Q S a ts us c (left t u vs ws h r) y i = ⊎_elim
    (λ (k : In y (vars_wanted u.want)). wanted_closed Q S t.want u.want (narrower Q S (vars_wanted t.want) (union (vars_wanted t.want) (vars_tests vs)) (λ x j. in_left x (vars_wanted t.want) (vars_tests vs) j) c) h.wanted y k)
    (λ (k : In y (vars_tests ws)). left_closed T Q S a vs ws (narrower Q S (vars_tests vs) (union (vars_wanted t.want) (vars_tests vs)) (λ x j. in_right x (vars_wanted t.want) (vars_tests vs) j) c) r y k)
    (in_union y (vars_wanted u.want) (vars_tests ws) i)
left_closed T Q S a ts us c (holds t vs ws h r) y i = left_closed T Q S a vs us (narrower Q S (vars_tests vs) (union (vars_wanted t.want) (vars_tests vs)) (λ x j. in_right x (vars_wanted t.want) (vars_tests vs) j) c) r y i

-- ---- Parameters

params_out : (xs : List ℕ) (σ : ℕ → Option Atom) (x y : ℕ) → params_kept σ xs x ≡ Some (atom.Var y) → In y xs ⊎ ((In x xs → ⊥) × (σ x ≡ Some (atom.Var y)))
params_out [] σ x y e = inr ((λ i. cc), e)
params_out (z ∷ zs) σ x y e = ⊎_elim
    (λ (h : In y zs). inl (in_tail y z zs h))
    (λ (h : (In x zs → ⊥) × (bind σ z (Some (atom.Var z)) x ≡ Some (atom.Var y))). ⊎_elim
    (λ (u : (x ≡ z) × (Some (atom.Var z) ≡ Some (atom.Var y))). let g : z ≡ y = let k = u.1 in cc in inl (in_head y z zs (sym g)))
    (λ (u : (x ≢ z) × (σ x ≡ Some (atom.Var y))). inr ((λ i. ⊎_elim (λ (q : x ≡ z). u.0 q) (λ (q : In x zs). h.0 q) (in_cases x z zs i)), u.1))
    (bind_cases σ z (Some (atom.Var z)) x (atom.Var y) h.1))
    (params_out zs (bind σ z (Some (atom.Var z))) x y e)

given_out : (xs : List ℕ) (bs : List Atom) (σ : ℕ → Option Atom) (x y : ℕ) → AsMany xs bs → given_atoms σ xs bs x ≡ Some (atom.Var y) → ((In x xs → ⊥) × (σ x ≡ Some (atom.Var y))) ⊎ In y (vars_all bs)
given_out [] [] σ x y l e = inl ((λ i. cc), e)
given_out [] (b ∷ bs) σ x y l e = absurd l
given_out (z ∷ zs) [] σ x y l e = absurd l
given_out (z ∷ zs) (b ∷ bs) σ x y l e = ⊎_elim
    (λ (r : (In x zs → ⊥) × (bind σ z (Some b) x ≡ Some (atom.Var y))). ⊎_elim
    (λ (u : (x ≡ z) × (Some b ≡ Some (atom.Var y))). inr (in_left y (vars b) (vars_all bs) (one_vars b y (let k = u.1 in let g : b ≡ atom.Var y = cc in g))))
    (λ (u : (x ≢ z) × (σ x ≡ Some (atom.Var y))). inl ((λ i. ⊎_elim (λ (q : x ≡ z). u.0 q) (λ (q : In x zs). r.0 q) (in_cases x z zs i)), u.1))
    (bind_cases σ z (Some b) x (atom.Var y) r.1))
    (λ (r : In y (vars_all bs)). inr (in_right y (vars b) (vars_all bs) r))
    (given_out zs bs (bind σ z (Some b)) x y l e)

pub closed_inner : (Q : ℕ → Type 0) (S : Scope) (xs fb : List ℕ) → ((x y : ℕ) → In x (without fb xs) → S.σ x ≡ Some (atom.Var y) → Q y) → Closed (Or Q xs) (inner S xs) fb
closed_inner Q S xs fb c = record {
  names = λ x y i e. ⊎_elim
      (λ (h : In y xs). inr h)
      (λ (h : (In x xs → ⊥) × (S.σ x ≡ Some (atom.Var y))). inl (c x y (in_without x fb xs h.0 i) h.1))
      (params_out xs S.σ x y e);
  blocks = λ z t e. absurd (cc);
  bodies = λ f b i e. absurd (cc);
}

-- Q, where it isn't the name
pub out_of : (Q : ℕ → Type 0) (xs : List ℕ) (y : ℕ) → (In y xs → ⊥) → Or Q xs y → Q y
out_of Q xs y n (inl h) = h
out_of Q xs y n (inr h) = absurd (n h)

part_in : (atoms : List Atom) (i : ℕ) (b : Atom) (y : ℕ) → slice_get atoms i ≡ Some b → In y (vars b) → In y (vars_all atoms)
part_in [] i b y e h = absurd (cc)
part_in (a ∷ atoms) zero b y e h = in_left y (vars a) (vars_all atoms) (some_eq (λ t. In y (vars t)) b a (sym e) h)
part_in (a ∷ atoms) (suc i) b y e h = in_right y (vars a) (vars_all atoms) (part_in atoms i b y e h)

made_atoms : (Q : ℕ → Type 0) (shape : Shape) (bs : List Atom) → ((y : ℕ) → In y (vars_all bs) → Q y) → (m : Made) → known_as shape bs ≡ Some m → (y : ℕ) → In y (vars_all m.atoms) → Q y
made_atoms Q form.Tuple bs h m e y i = h y (subst (λ t. In y (vars_all t)) (some_eq (λ t. t.atoms ≡ bs) (record { shape = form.Tuple; atoms = bs }) m e refl) i)
made_atoms Q (form.Applied n) bs h m e y i = h y (subst (λ t. In y (vars_all t)) (some_eq (λ t. t.atoms ≡ bs) (record { shape = form.Applied n; atoms = bs }) m e refl) i)
made_atoms Q form.Cell bs h m e y i = absurd (cc)
made_atoms Q (form.ExnName x) bs h m e y i = absurd (cc)
made_atoms Q form.Packet bs h m e y i = absurd (cc)

-- ---- Functions that are bound together

closed_set : (Q : ℕ → Type 0) (S : Scope) (x : ℕ) (o : Option Atom) (i : Option Body) (xs : List ℕ) → Closed Q S xs → ((y : ℕ) → In x xs → o ≡ Some (atom.Var y) → Q y) → ((b : Body) → i ≡ Some b → (z y : ℕ) → In z (without (free_code b.code) b.params) → b.σ z ≡ Some (atom.Var y) → Q y) → Closed Q (lost S x o i) xs
closed_set Q S x o i xs c held body = record {
  names = λ z y m e. ⊎_elim
      (λ (u : (z ≡ x) × (o ≡ Some (atom.Var y))). held y (subst (λ t. In t xs) u.0 m) u.1)
      (λ (u : (z ≢ x) × (S.σ z ≡ Some (atom.Var y))). c.names z y m u.1)
      (bind_cases S.σ x o z (atom.Var y) e);
  blocks = c.blocks;
  bodies = λ f b m e z y j g. ⊎_elim
      (λ (u : (f ≡ x) × (i ≡ Some b)). body b u.1 z y j g)
      (λ (u : (f ≢ x) × (S.ι f ≡ Some b)). c.bodies f b m u.1 z y j g)
      (bind_cases S.ι x i f b e);
}

two_without : (f : ℕ) (xs fc : List ℕ) (z : ℕ) → In z (without (without fc xs) (f ∷ [])) → In z (without fc (f ∷ xs))
two_without f xs fc z i =
    let a = without_in z (without fc xs) (f ∷ []) i in
    let b = without_in z fc xs a.1 in
    in_without z fc (f ∷ xs) (λ j. ⊎_elim (λ (e : z ≡ f). a.0 (one_in z f e)) (λ (e : In z xs). b.0 e) (in_cases z f xs j)) b.1

closed_join : (Q : ℕ → Type 0) (x : ℕ) (xs : List ℕ) (S : Scope) (fc : List ℕ) → Closed (Or (Or Q (x ∷ [])) xs) S fc → Closed (Or Q (x ∷ xs)) S fc
closed_join Q x xs S fc r = record {
  names = λ z y i e. join y (r.names z y i e);
  blocks = λ z t e h y i. join y (r.blocks z t e (split z h) y i);
  bodies = λ f b i e z y j g. join y (r.bodies f b i e z y j g);
}
  where
    join : (y : ℕ) → Or (Or Q (x ∷ [])) xs y → Or Q (x ∷ xs) y
    join y (inl (inl h)) = inl h
    join y (inl (inr h)) = inr (in_head y x xs (in_one y x h))
    join y (inr h) = inr (in_tail y x xs h)

    split : (y : ℕ) → Or Q (x ∷ xs) y → Or (Or Q (x ∷ [])) xs y
    split y (inl h) = inl (inl h)
    split y (inr h) = ⊎_elim (λ (e : y ≡ x). inl (inr (one_in y x e))) (λ (e : In y xs). inr e) (in_cases y x xs h)

closed_binds : (T : List (List ℕ)) (L : List Point) (Q : ℕ → Type 0) (Z S U : Scope) (fs gs : Functions) (fc : List ℕ) → SomeContract T L Z S fs gs U → Closed Q S (without fc (names_of fs)) → Closed (Or Q (names_of gs)) U fc
closed_binds T L Q Z S U fs gs fc (some_none Z' S') c = closed_none Q S fc c
closed_binds T L Q Z S U fs gs fc (some_both w Z' S' U' f p xs b d hs ks fr frs k e) c =
    closed_join Q f (names_of ks) U fc (closed_binds T L (Or Q (f ∷ [])) Z (kept S f None) U hs ks fc e
    (closed_kept Q S f None (without fc (names_of hs)) (narrower Q S (without (without fc (names_of hs)) (f ∷ [])) (without fc (f ∷ names_of hs)) (two_without f (names_of hs) fc) c) (λ m g. absurd (cc))))
closed_binds T L Q Z S U fs gs fc (some_skip Z' S' U' f p xs b hs ks e) c =
    closed_binds T L Q Z (lost S f None None) U hs gs fc e
    (closed_lost Q S f None None (without fc (names_of hs)) (narrower Q S (without (without fc (names_of hs)) (f ∷ [])) (without fc (f ∷ names_of hs)) (two_without f (names_of hs) fc) c) (λ y g. absurd (cc)) (λ v g. absurd (cc)))

closed_aliases : (L : List Point) (Q : ℕ → Type 0) (U Y : Scope) (fs : Functions) (all : List ℕ) → Aliases L fs U Y → ((x : ℕ) → In x (free_functions fs) → In x all) → Closed Q U all → Closed Q Y all
closed_aliases L Q U Y fs all (no_alias S) sub c = c
closed_aliases L Q U Y fs all (next_alias S Z f p xs b hs r) sub c =
    closed_aliases L Q U Y hs all r (λ x i. sub x (in_right x (without (free_code b) xs) (free_functions hs) i)) c
closed_aliases L Q U Y fs all (alias S Z f p xs x us hs a hid same out dis at r) sub c =
    let wb = without (union (x ∷ []) (vars_all us)) xs in
    let ix : In x all = sub x (in_left x wb (free_functions hs) (in_without x (union (x ∷ []) (vars_all us)) xs (λ j. out (in_among x xs j)) (in_left x (x ∷ []) (vars_all us) (one_in x x refl)))) in
    closed_aliases L Q (lost U f (Some a) None) Y hs all r (λ z i. sub z (in_right z wb (free_functions hs) i))
    (closed_set Q U f (Some a) None all c (λ y i e. c.names x y ix (at ∙ e)) (λ v e. absurd (cc)))

closed_bodies : (L : List Point) (Q : ℕ → Type 0) (σ : ℕ → Option Atom) (Y Z : Scope) (fs : Functions) (all : List ℕ) → Bodies L σ fs Y Z → ((x : ℕ) → In x (free_functions fs) → In x all) → ((x y : ℕ) → In x all → σ x ≡ Some (atom.Var y) → Q y) → Closed Q Y all → Closed Q Z all
closed_bodies L Q σ Y Z fs all (no_body S) sub n c = c
closed_bodies L Q σ Y Z fs all (next_body S Z' f p xs b hs r) sub n c =
    closed_bodies L Q σ Y Z hs all r (λ x i. sub x (in_right x (without (free_code b) xs) (free_functions hs) i)) n c
closed_bodies L Q σ Y Z fs all (put_body S Z' f p xs b hs hid r) sub n c =
    let wb = without (free_code b) xs in
    let body : Body = record { params = xs; code = b; σ = σ } in
    closed_bodies L Q σ (lost Y f (Y.σ f) (Some body)) Z hs all r (λ x i. sub x (in_right x wb (free_functions hs) i)) n
    (closed_set Q Y f (Y.σ f) (Some body) all c (λ y i e. c.names f y i e)
    (λ v e z y j g. let same : body ≡ v = some_eq (λ t. body ≡ t) body v e refl in
    n z y (sub z (in_left z wb (free_functions hs) (subst (λ (r : Body). In z (without (free_code r.code) r.params)) (sym same) j))) (ap (λ (r : Body). r.σ z) same ∙ g)))

-- ---- The whole

mutual
  pub free_of : (T : List (List ℕ)) (L : List Point) (w : ℕ) (S : Scope) (c d : Code) → Contracts T L w S c d → (Q : ℕ → Type 0) → Closed Q S (free_code c) → (y : ℕ) → In y (free_code d) → Q y
  free_of T L w₀ S₀ c₀ d₀ (make w S x shape us bs c d p fr k) Q h y i =
      let fa = vars_all us in
      let fc = without (free_code c) (x ∷ []) in
      let ha = all_closed Q S us bs (narrower Q S fa (union fa fc) (λ z j. in_left z fa fc j) h) p in
      ⊎_elim (λ (u : In y (vars_all bs)). ha y u)
      (λ (u : In y (without (free_code d) (x ∷ []))).
      let o = without_in y (free_code d) (x ∷ []) u in
      out_of Q (x ∷ []) y o.0 (free_of T L w (kept S x (known_as shape bs)) c d k (Or Q (x ∷ [])) (closed_kept Q S x (known_as shape bs) (free_code c) (narrower Q S fc (union fa fc) (λ z j. in_right z fa fc j) h) (made_atoms Q shape bs ha)) y o.1))
      (in_union y (vars_all bs) (without (free_code d) (x ∷ [])) i)
  free_of T L w₀ S₀ c₀ d₀ (pick w S x n a b c d p fr k) Q h y i =
      let fa = vars a in
      let fc = without (free_code c) (x ∷ []) in
      ⊎_elim (λ (u : In y (vars b)). at_closed Q S a b (narrower Q S fa (union fa fc) (λ z j. in_left z fa fc j) h) p y u)
      (λ (u : In y (without (free_code d) (x ∷ []))).
      let o = without_in y (free_code d) (x ∷ []) u in
      out_of Q (x ∷ []) y o.0 (free_of T L w (kept S x None) c d k (Or Q (x ∷ [])) (closed_kept Q S x None (free_code c) (narrower Q S fc (union fa fc) (λ z j. in_right z fa fc j) h) (λ m e. absurd (cc))) y o.1))
      (in_union y (vars b) (without (free_code d) (x ∷ [])) i)
  free_of T L w₀ S₀ c₀ d₀ (does w S x g us bs c d p fr k) Q h y i =
      let fa = vars_all us in
      let fc = without (free_code c) (x ∷ []) in
      ⊎_elim (λ (u : In y (vars_all bs)). all_closed Q S us bs (narrower Q S fa (union fa fc) (λ z j. in_left z fa fc j) h) p y u)
      (λ (u : In y (without (free_code d) (x ∷ []))).
      let o = without_in y (free_code d) (x ∷ []) u in
      out_of Q (x ∷ []) y o.0 (free_of T L w (kept S x None) c d k (Or Q (x ∷ [])) (closed_kept Q S x None (free_code c) (narrower Q S fc (union fa fc) (λ z j. in_right z fa fc j) h) (λ m e. absurd (cc))) y o.1))
      (in_union y (vars_all bs) (without (free_code d) (x ∷ [])) i)
  free_of T L w₀ S₀ c₀ d₀ (equal w S a a' b b' k k' t p o l) Q h y i = all_closed Q S (a ∷ b ∷ k ∷ []) (a' ∷ b' ∷ k' ∷ []) h (p, (o, (l, tt))) y i
  free_of T L w₀ S₀ c₀ d₀ (call w S a b us bs p o) Q h y i = all_closed Q S (a ∷ us) (b ∷ bs) h (p, o) y i
  free_of T L w₀ S₀ c₀ d₀ (match w S a b rs ss p k) Q h y i =
      let fa = vars a in
      let fr = free_rules rs in
      ⊎_elim (λ (u : In y (vars b)). at_closed Q S a b (narrower Q S fa (union fa fr) (λ z j. in_left z fa fr j) h) p y u)
      (λ (u : In y (free_rules ss)). free_rules_of T L w S b rs ss k Q (narrower Q S fr (union fa fr) (λ z j. in_right z fa fr j) h) y u)
      (in_union y (vars b) (free_rules ss) i)
  free_of T L w₀ S₀ c₀ d₀ (handler w S x c d fr k) Q h y i =
      let o = without_in y (free_code d) (x ∷ []) i in
      out_of Q (x ∷ []) y o.0 (free_of T L w (kept S x None) c d k (Or Q (x ∷ [])) (closed_kept Q S x None (free_code c) h (λ m e. absurd (cc))) y o.1)
  free_of T L w₀ S₀ c₀ d₀ (set_handler w S a b c d p k) Q h y i =
      let fa = vars a in
      ⊎_elim (λ (u : In y (vars b)). at_closed Q S a b (narrower Q S fa (union fa (free_code c)) (λ z j. in_left z fa (free_code c) j) h) p y u)
      (λ (u : In y (free_code d)). free_of T L w S c d k Q (narrower Q S (free_code c) (union fa (free_code c)) (λ z j. in_right z fa (free_code c) j) h) y u)
      (in_union y (vars b) (free_code d) i)
  free_of T L w₀ S₀ c₀ d₀ (throw w S a b p) Q h y i = at_closed Q S a b h p y i
  free_of T L w₀ S₀ c₀ d₀ (halt w S) Q h y i = absurd (cc)
  free_of T L w₀ S₀ c₀ d₀ (no_make w S x shape us c d k) Q h y i =
      let fa = vars_all us in
      let fc = without (free_code c) (x ∷ []) in
      free_of T L w (lost S x None None) c d k Q (closed_lost Q S x None None (free_code c) (narrower Q S fc (union fa fc) (λ z j. in_right z fa fc j) h) (λ z e. absurd (cc)) (λ b e. absurd (cc))) y i
  free_of T L w₀ S₀ c₀ d₀ (no_pick w S x n a c d k) Q h y i =
      let fa = vars a in
      let fc = without (free_code c) (x ∷ []) in
      free_of T L w (lost S x None None) c d k Q (closed_lost Q S x None None (free_code c) (narrower Q S fc (union fa fc) (λ z j. in_right z fa fc j) h) (λ z e. absurd (cc)) (λ b e. absurd (cc))) y i
  free_of T L w₀ S₀ c₀ d₀ (no_prim w S x g us c d pure k) Q h y i =
      let fa = vars_all us in
      let fc = without (free_code c) (x ∷ []) in
      free_of T L w (lost S x None None) c d k Q (closed_lost Q S x None None (free_code c) (narrower Q S fc (union fa fc) (λ z j. in_right z fa fc j) h) (λ z e. absurd (cc)) (λ b e. absurd (cc))) y i
  free_of T L w₀ S₀ c₀ d₀ (inline w S f b us bs d is o many k) Q h y i =
      let fa = vars_all us in
      free_of T L w (called S b bs) b.code d k Q (record {
        names = λ x z j e. ⊎_elim
            (λ (u : (In x b.params → ⊥) × (b.σ x ≡ Some (atom.Var z))). h.bodies f b (in_left f (f ∷ []) fa (one_in f f refl)) is x z (in_without x (free_code b.code) b.params u.0 j) u.1)
            (λ (u : In z (vars_all bs)). all_closed Q S us bs (narrower Q S fa (union (f ∷ []) fa) (λ t l. in_right t (f ∷ []) fa l) h) o z u)
            (given_out b.params bs b.σ x z many e);
        blocks = h.blocks;
        bodies = λ g v j e. absurd (cc);
      }) y i
  free_of T L w₀ S₀ c₀ d₀ (known_pick w S x n z a b m c d p known get k) Q h y i =
      let fa = vars a in
      let fc = without (free_code c) (x ∷ []) in
      let qz : Q z = at_closed Q S a (atom.Var z) (narrower Q S fa (union fa fc) (λ t j. in_left t fa fc j) h) p z (one_in z z refl) in
      free_of T L w (lost S x (Some b) None) c d k Q (closed_lost Q S x (Some b) None (free_code c) (narrower Q S fc (union fa fc) (λ t j. in_right t fa fc j) h)
      (λ t e. h.blocks z m known qz t (part_in m.atoms n b t get (one_vars b t (let g : b ≡ atom.Var t = cc in g)))) (λ v e. absurd (cc))) y i
  free_of T L w₀ S₀ c₀ d₀ (chosen w S a b rs d p k) Q h y i =
      let fa = vars a in
      free_rules_of T L w S b rs (Otherwise d) k Q (narrower Q S (free_rules rs) (union fa (free_rules rs)) (λ z j. in_right z fa (free_rules rs) j) h) y i
  free_of T L w₀ S₀ c₀ d₀ (group w S U Y Z fs gs c d dis e al bo k) Q h y i =
      let ns = names_of gs in
      let all = union (free_functions fs) (free_code c) in
      let o = without_in y (union (free_functions gs) (free_code d)) ns i in
      let cu : Closed (Or Q ns) U all = closed_binds T L Q Z S U fs gs all e h in
      let cy : Closed (Or Q ns) Y all = closed_aliases L (Or Q ns) U Y fs all al (λ z j. in_left z (free_functions fs) (free_code c) j) cu in
      let cl : Closed (Or Q ns) Z all = closed_bodies L (Or Q ns) Y.σ Y Z fs all bo (λ z j. in_left z (free_functions fs) (free_code c) j) cy.names cy in
      out_of Q ns y o.0 (⊎_elim
      (λ (u : In y (free_functions gs)). free_some T L Z S U fs gs e (Or Q ns) (narrower (Or Q ns) Z (free_functions fs) all (λ z j. in_left z (free_functions fs) (free_code c) j) cl) y u)
      (λ (u : In y (free_code d)). free_of T L w Z c d k (Or Q ns) (narrower (Or Q ns) Z (free_code c) all (λ z j. in_right z (free_functions fs) (free_code c) j) cl) y u)
      (in_union y (free_functions gs) (free_code d) o.1))
  free_of T L w₀ S₀ c₀ d₀ (group_gone w S U Y Z fs c d dis e al bo k) Q h y i =
      let all = union (free_functions fs) (free_code c) in
      let cu : Closed (Or Q []) U all = closed_binds T L Q Z S U fs NoFunction all e h in
      let cy : Closed (Or Q []) Y all = closed_aliases L (Or Q []) U Y fs all al (λ z j. in_left z (free_functions fs) (free_code c) j) cu in
      let cl : Closed (Or Q []) Z all = closed_bodies L (Or Q []) Y.σ Y Z fs all bo (λ z j. in_left z (free_functions fs) (free_code c) j) cy.names cy in
      out_of Q [] y (λ j. cc) (free_of T L w Z c d k (Or Q []) (narrower (Or Q []) Z (free_code c) all (λ z j. in_right z (free_functions fs) (free_code c) j) cl) y i)

  free_some : (T : List (List ℕ)) (L : List Point) (Z S U : Scope) (fs gs : Functions) → SomeContract T L Z S fs gs U → (Q : ℕ → Type 0) → Closed Q Z (free_functions fs) → (y : ℕ) → In y (free_functions gs) → Q y
  free_some T L Z S U fs gs (some_none Z' S') Q h y i = absurd (cc)
  free_some T L Z S U fs gs (some_both w Z' S' U' f p xs b d hs ks fr frs k r) Q h y i =
      let fb = without (free_code b) xs in
      ⊎_elim
      (λ (u : In y (without (free_code d) xs)).
      let o = without_in y (free_code d) xs u in
      out_of Q xs y o.0 (free_of T L w (inner Z xs) b d k (Or Q xs) (closed_inner Q Z xs (free_code b) (λ z t j e. h.names z t (in_left z fb (free_functions hs) j) e)) y o.1))
      (λ (u : In y (free_functions ks)). free_some T L Z (kept S f None) U hs ks r Q (narrower Q Z (free_functions hs) (union fb (free_functions hs)) (λ z j. in_right z fb (free_functions hs) j) h) y u)
      (in_union y (without (free_code d) xs) (free_functions ks) i)
  free_some T L Z S U fs gs (some_skip Z' S' U' f p xs b hs ks r) Q h y i =
      let fb = without (free_code b) xs in
      free_some T L Z (lost S f None None) U hs gs r Q (narrower Q Z (free_functions hs) (union fb (free_functions hs)) (λ z j. in_right z fb (free_functions hs) j) h) y i

  free_rules_of : (T : List (List ℕ)) (L : List Point) (w : ℕ) (S : Scope) (a : Atom) (rs ss : Rules) → RulesContract T L w S a rs ss → (Q : ℕ → Type 0) → Closed Q S (free_rules rs) → (y : ℕ) → In y (free_rules ss) → Q y
  free_rules_of T L w S a rs ss (otherwise w' S' a' c d k) Q h y i = free_of T L w S c d k Q h y i
  free_rules_of T L w S a rs ss (rule w' S' a' ts us c d vs ws l k r) Q h y i =
      let ft = vars_tests ts in
      let fc = free_code c in
      let fr = free_rules vs in
      ⊎_elim
      (λ (u : In y (vars_tests us)). left_closed T Q S a ts us (narrower Q S ft (union ft (union fc fr)) (λ z j. in_left z ft (union fc fr) j) h) l y u)
      (λ (u : In y (union (free_code d) (free_rules ws))). ⊎_elim
      (λ (v : In y (free_code d)). free_of T L w S c d k Q (narrower Q S fc (union ft (union fc fr)) (λ z j. in_right z ft (union fc fr) (in_left z fc fr j)) h) y v)
      (λ (v : In y (free_rules ws)). free_rules_of T L w S a vs ws r Q (narrower Q S fr (union ft (union fc fr)) (λ z j. in_right z ft (union fc fr) (in_right z fc fr j)) h) y v)
      (in_union y (free_code d) (free_rules ws) u))
      (in_union y (vars_tests us) (union (free_code d) (free_rules ws)) i)
  free_rules_of T L w S a rs ss (last w' S' a' ts c d vs l k) Q h y i =
      let ft = vars_tests ts in
      let fc = free_code c in
      let fr = free_rules vs in
      free_of T L w S c d k Q (narrower Q S fc (union ft (union fc fr)) (λ z j. in_right z ft (union fc fr) (in_left z fc fr j)) h) y i
  free_rules_of T L w S a rs ss (drop w' S' a' ts c vs ws f r) Q h y i =
      let ft = vars_tests ts in
      let fc = free_code c in
      let fr = free_rules vs in
      free_rules_of T L w S a vs ss r Q (narrower Q S fr (union ft (union fc fr)) (λ z j. in_right z ft (union fc fr) (in_right z fc fr j)) h) y i
