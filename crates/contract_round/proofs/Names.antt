-- What stands in the place of names behind a group of functions, and inside them.
use Rattle.std.proofs.Common.{◌≡◌, ◌≢◌, ℕ, ◌+◌, ◌≤◌, List, Option, Some, None, Bool, true, false, cond, inl, inr, refl, sym, ap, ◌∙◌, subst, arith, eqb-true, nat_eq}
use Rattle.smlc_base.specs.declared.point.Point.{Point}
use Rattle.smlc_base.specs.declared.point.PointKind.TheVariants.{Eq}
use Rattle.simulation.specs.Blocks.{IsAmong}
use Rattle.simulation.proofs.Lists.{some_eq}
use Rattle.sml_tree.specs.Sets.{union, without}
use Rattle.cps_ir.specs.declared.atom.Atom.{Atom}
use Rattle.cps_ir.specs.Code.{Code, Make, Pick, Prim, Equal, Fix, Call, Match, Handler, SetHandler, Throw, Halt, Functions, NoFunction, Function, Rules, Otherwise, Rule, names_of}
use Rattle.cps_ir.specs.Free.{free_code, free_functions}
use Rattle.contract_laws.specs.Contract.{Scope, nothing}
use Rattle.contract_laws.specs.Redex.{uses, uses_functions, uses_others, calls_with}
use Rattle.contract_laws.specs.Weigh.{Scale, weigh, names_weigh, weigh_functions, of_name}
use Rattle.contract_laws.proofs.Relation.{bind_same, bind_other}
use Rattle.contract_laws.proofs.Free.{In, in_left, in_right, in_without, in_among}
use Rattle.contract_round.specs.Round.{Inlined, Known, Role, Dropped, Replaced, Placed, Stays, Roles, role_in, is_dead, names_stay, names_in, placed, bodies_walk, walk, known, with_arguments}
use Rattle.contract_round.proofs.Facts.{own_same, in_uses, in_uses_functions, with_less, among_weighs}
use Rattle.contract_round.proofs.Agrees.{Agrees, direct}
use Rattle.contract_round.proofs.Group.{Same, role_at, role_none, role_some, some_scope, stay_other, stay_same, alias_scope, alias_keeps, alias_same, IsTarget, Parted, body_scope, body_keeps}
use Rattle.contract_round.proofs.Roles.{Distinct, reason, dead_uses, placed_uses, target_stays, target_uses}

-- ---- None of the points is that of comparisons

abbrev mutual
  pub NoEq : Code → Type 0
  NoEq (Make x shape atoms c) = NoEq c
  NoEq (Pick x i a c) = NoEq c
  NoEq (Prim x f atoms c) = NoEq c
  NoEq (Equal a b t k) = Unit {0}
  NoEq (Fix fs c) = NoEqIn fs × NoEq c
  NoEq (Call a atoms) = Unit {0}
  NoEq (Match a rules) = NoEqRules rules
  NoEq (Handler x c) = NoEq c
  NoEq (SetHandler a c) = NoEq c
  NoEq (Throw a) = Unit {0}
  NoEq Halt = Unit {0}

  pub NoEqIn : Functions → Type 0
  NoEqIn NoFunction = Unit {0}
  NoEqIn (Function f p params b fs) = (p.kind ≢ Eq) × NoEq b × NoEqIn fs

  pub NoEqRules : Rules → Type 0
  NoEqRules (Otherwise c) = NoEq c
  NoEqRules (Rule tests c rules) = NoEq c × NoEqRules rules

-- ---- How often names are bound

-- inside the functions, with their parameters
abbrev pub inside_weigh : ℕ → Functions → ℕ
inside_weigh x NoFunction = 0
inside_weigh x (Function f p params b fs) = (names_weigh (of_name x) params + weigh (of_name x) b) + inside_weigh x fs

pub functions_weigh : (x : ℕ) (fs : Functions) → weigh_functions (of_name x) fs ≡ names_weigh (of_name x) (names_of fs) + inside_weigh x fs
functions_weigh x NoFunction = refl
functions_weigh x (Function f p params b fs) = let h = functions_weigh x fs in omega arith

pub parted : (role : Roles) (fs : Functions) → ((x : ℕ) → inside_weigh x fs ≤ 1) → Parted role fs
parted role NoFunction h = tt
parted role (Function f p params b fs) h = ((λ x. let k = h x in omega arith), parted role fs (λ x. let k = h x in omega arith))

-- ---- Bodies that are put where they are called

module _ (texts : List (List ℕ)) (role : Roles) (σ : ℕ → Atom) where
  pub bodies_other : (fs : Functions) (ι : ℕ → Option Inlined) (x : ℕ) → (IsAmong x (names_of fs) → ⊥) → bodies_walk texts role σ fs ι x ≡ ι x
  bodies_other NoFunction ι x n = refl
  bodies_other (Function f p params b fs) ι x n = bodies_other fs _ x (λ i. n (inr i)) ∙ by (role f params b) _
    where
      by : (r : Role) (i : Inlined) → placed r f i ι x ≡ ι x
      by Placed i = bind_other ι f (Some i) x (λ e. n (inl e))
      by Stays i = bind_other ι f None x (λ e. n (inl e))
      by Dropped i = bind_other ι f None x (λ e. n (inl e))
      by (Replaced y) i = bind_other ι f None x (λ e. n (inl e))

  pub bodies_placed : (fs : Functions) (ι : ℕ → Option Inlined) (x : ℕ) → names_weigh (of_name x) (names_of fs) ≤ 1 → role_at role fs x ≡ Some Placed → bodies_walk texts role σ fs ι x ≡ None → ⊥
  bodies_placed NoFunction ι x d e n = cc
  bodies_placed (Function f p params b fs) ι x d e n = by (nat_eq x f) refl e (λ g. bodies_placed fs _ x (omega arith) g n)
    where
      body : Inlined
      body = record { params = params; code = λ atoms τ. walk texts (known (with_arguments σ params atoms) τ nothing) b }

      at : (r : Role) (i : Inlined) → r ≡ Placed → placed r f i ι f ≡ None → ⊥
      at Placed i e h = let k = bind_same ι f (Some i) in cc
      at Stays i e h = cc
      at Dropped i e h = cc
      at (Replaced y) i e h = cc

      by : (o : Bool) → nat_eq x f ≡ o → cond o (Some (role f params b)) (role_at role fs x) ≡ Some Placed → (role_at role fs x ≡ Some Placed → ⊥) → ⊥
      by true g h k =
          let q = eqb-true x f g in
          let r : role f params b ≡ Placed = some_eq (λ t. t ≡ Placed) Placed (role f params b) (sym h) refl in
          let o = bodies_other fs (placed (role f params b) f body ι) x (λ i. let m = among_weighs x (names_of fs) i in let w = own_same x f q in absurd (omega arith)) in
          at (role f params b) body r (subst (λ z. placed (role f params b) f body ι z ≡ None) q (sym o ∙ n))
      by false g h k = k h

-- ---- Names

module _ {texts : List (List ℕ)} {K : Known} {S : Scope} {W : Scale → ℕ → ℕ} (all : Functions) (c : Code) (a : Agrees texts K S W (free_code (Fix all c)) (λ f. uses f (Fix all c)) (λ f n. calls_with f n (Fix all c)) (λ x. weigh (of_name x) (Fix all c))) (d : Distinct all c all) where
  abbrev pub roles : Roles
  roles = role_in all c

  abbrev pub staying_scope : Scope
  staying_scope = some_scope roles all S

  abbrev pub replacing_scope : Scope
  replacing_scope = alias_scope roles all (names_stay roles all K.σ) staying_scope

  abbrev pub placing_scope : Scope
  placing_scope = body_scope roles replacing_scope.σ all replacing_scope

  abbrev pub names_map : ℕ → Atom
  names_map = names_in roles all K.σ

  -- a name from outside that a function uses
  outer : (x : ℕ) → In x (free_functions all) → role_at roles all x ≡ None → Same S.σ K.σ x
  outer x i e =
      let u = in_uses_functions x all i in
      direct a x (in_without x (union (free_functions all) (free_code c)) (names_of all) (λ j. role_none roles all x e (in_among x (names_of all) j)) (in_left x (free_functions all) (free_code c) i)) (λ n. let l = with_less x n c in omega arith)

  dropped_dead : (x : ℕ) → role_at roles all x ≡ Some Dropped → is_dead all c x ≡ true
  dropped_dead x e = let k = role_some roles all x Dropped e in reason all c x k.0 k.1 Dropped k.2

  placed_unused : (x : ℕ) → role_at roles all x ≡ Some Placed → 1 ≤ uses_functions x all → ⊥
  placed_unused x e u = let k = role_some roles all x Placed e in let p = placed_uses all c x k.0 k.1 k.2 in let q = p.0 in absurd (omega arith)

  -- what a function calls that is replaced
  pub target_same : (x : ℕ) → IsTarget roles all x → Same staying_scope.σ (names_stay roles all K.σ) x
  target_same x t = by (role_at roles all x) refl
    where
      by : (o : Option Role) → role_at roles all x ≡ o → Same staying_scope.σ (names_stay roles all K.σ) x
      by None e = let u = target_uses all c all x t in stay_other roles all S.σ K.σ x (role_none roles all x e) (outer x u.2 e)
      by (Some Stays) e = stay_same roles all S.σ K.σ x (d x) e
      by (Some (Replaced y)) e =
          let k = role_some roles all x (Replaced y) e in
          let r = reason all c x k.0 k.1 (Replaced y) k.2 in
          absurd (target_stays all c d x t r.1)
      by (Some Placed) e = let u = target_uses all c all x t in absurd (placed_unused x e u.0)
      by (Some Dropped) e = let u = target_uses all c all x t in let v = u.1 in let z = dead_uses all c x (dropped_dead x e) in absurd (omega arith)

  -- a name that a function uses which isn't dead
  used_same : (x : ℕ) → In x (free_functions all) → (is_dead all c x ≡ true → ⊥) → Same replacing_scope.σ names_map x
  used_same x i lives = by (role_at roles all x) refl
    where
      by : (o : Option Role) → role_at roles all x ≡ o → Same replacing_scope.σ names_map x
      by None e = alias_keeps roles all _ _ x (stay_other roles all S.σ K.σ x (role_none roles all x e) (outer x i e))
      by (Some Stays) e = alias_keeps roles all _ _ x (stay_same roles all S.σ K.σ x (d x) e)
      by (Some (Replaced y)) e = alias_same roles all _ _ x y e
      by (Some Placed) e = absurd (placed_unused x e (in_uses_functions x all i))
      by (Some Dropped) e = absurd (lives (dropped_dead x e))

  -- a name in the body of a function that isn't dead, where the body is one of these
  pub inside_same : (f : ℕ) (p : Point) (params : List ℕ) (b : Code) (fs : Functions) → ((x : ℕ) → uses_others x (Function f p params b fs) ≤ uses_others x all) → ((x : ℕ) → In x (free_functions (Function f p params b fs)) → In x (free_functions all)) → is_dead all c f ≡ false → (x : ℕ) → In x (free_code b) → (In x params → ⊥) → Same replacing_scope.σ names_map x
  inside_same f p params b fs others free lives x i n =
      used_same x (free x (in_left x (without (free_code b) params) (free_functions fs) (in_without x (free_code b) params n i)))
      (λ dead. by (nat_eq x f) refl dead)
    where
      by : (o : Bool) → nat_eq x f ≡ o → is_dead all c x ≡ true → ⊥
      by true g dead = let q = eqb-true x f g in let z : is_dead all c f ≡ true = subst (λ y. is_dead all c y ≡ true) q dead in cc
      by false g dead =
          let u = in_uses x b i in
          let z = dead_uses all c x dead in
          let l = others x in
          let k : cond (nat_eq x f) 0 (uses x b) ≡ uses x b = ap (λ t. cond t 0 (uses x b)) g in
          absurd (omega arith)

  -- a name behind the functions
  pub behind_same : (x : ℕ) → In x (free_code c) → bodies_walk texts roles names_map all K.ι x ≡ None → Same placing_scope.σ names_map x
  behind_same x i none = body_keeps roles all replacing_scope.σ x ∙ by (role_at roles all x) refl
    where
      by : (o : Option Role) → role_at roles all x ≡ o → Same replacing_scope.σ names_map x
      by None e =
          let out = role_none roles all x e in
          alias_keeps roles all _ _ x
          (stay_other roles all S.σ K.σ x out
          (a.names x (in_without x (union (free_functions all) (free_code c)) (names_of all) (λ j. out (in_among x (names_of all) j)) (in_right x (free_functions all) (free_code c) i))
          (sym (bodies_other texts roles names_map all K.ι x out) ∙ none)))
      by (Some Stays) e = alias_keeps roles all _ _ x (stay_same roles all S.σ K.σ x (d x) e)
      by (Some (Replaced y)) e = alias_same roles all _ _ x y e
      by (Some Placed) e = absurd (bodies_placed texts roles names_map all K.ι x (d x) e none)
      by (Some Dropped) e = let u = in_uses x c i in let z = dead_uses all c x (dropped_dead x e) in absurd (omega arith)
