-- The scopes of functions that are bound together.
use Rattle.std.proofs.Common.{◌≡◌, ◌≢◌, ℕ, ◌+◌, ◌≤◌, List, [], ◌∷◌, map, length, Option, Some, None, Bool, true, false, not, cond, ◌&&◌, ◌⊎◌, inl, inr, refl, sym, ap, ◌∙◌, subst, arith, ⊎_elim, eqb-true, nat_eq}
use Rattle.smlc_base.specs.declared.point.Point.{Point}
use Rattle.simulation.specs.Blocks.{IsAmong}
use Rattle.simulation.proofs.Lists.{some_eq}
use Rattle.sml_tree.specs.Sets.{has}
use Rattle.cps_ir.specs.declared.atom.Atom.{Atom}
use Rattle.cps_ir.specs.declared.atom.Atom.TheVariants as atom
use Rattle.cps_ir.specs.Code.{Code, Make, Pick, Prim, Equal, Fix, Call, Match, Handler, SetHandler, Throw, Halt, Functions, NoFunction, Function, names_of}
use Rattle.cps_ir.specs.State.{bind}
use Rattle.contract_laws.specs.Contract.{Made, Body, Scope, scope, params_kept, given_atoms, Aliases, no_alias, next_alias, alias, Bodies, no_body, next_body, put_body}
use Rattle.contract_laws.specs.Weigh.{names_weigh, of_name}
use Rattle.contract_laws.proofs.Linear.{owed, owed_once}
use Rattle.contract_laws.specs.Redex.{calls}
use Rattle.contract_laws.proofs.Relation.{eqb_other, bind_same, bind_other}
use Rattle.contract_laws.proofs.Free.{In, in_cases, among_in}
use Rattle.contract_round.specs.Round.{Role, Dropped, Replaced, Placed, Stays, Roles, as_themselves, with_arguments, staying, names_stay, replaced, names_replaced, are_vars, eta_of}
use Rattle.contract_round.proofs.Facts.{own, own_same, all_fresh, among_weighs}
use Rattle.contract_round.proofs.Walked.{Gone, nobody, one, both, Hidden}
use Rattle.contract_round.proofs.Agrees.{Blocks, blocks_other}

-- ---- Maps that agree

abbrev pub Same : (ℕ → Option Atom) → (ℕ → Atom) → ℕ → Type 0
Same S σ x = S x ≡ Some (σ x)

pub same_bind : (S : ℕ → Option Atom) (σ : ℕ → Atom) (f : ℕ) (a : Atom) (x : ℕ) → (x ≢ f → Same S σ x) → Same (bind S f (Some a)) (bind σ f a) x
same_bind S σ f a x h = by (nat_eq x f) refl
  where
    by : (c : Bool) → nat_eq x f ≡ c → Same (bind S f (Some a)) (bind σ f a) x
    by true g = subst (λ y. Same (bind S f (Some a)) (bind σ f a) y) (sym (eqb-true x f g)) (bind_same S f (Some a) ∙ ap Some (sym (bind_same σ f a)))
    by false g = let q = eqb_other x f g in bind_other S f (Some a) x q ∙ (h q ∙ ap Some (sym (bind_other σ f a x q)))

pub params_at : (xs : List ℕ) (S : ℕ → Option Atom) (σ : ℕ → Atom) (x : ℕ) → ((In x xs → ⊥) → Same S σ x) → Same (params_kept S xs) (as_themselves σ xs) x
params_at [] S σ x h = h (λ i. cc)
params_at (y ∷ xs) S σ x h = params_at xs (bind S y (Some (atom.Var y))) (bind σ y (atom.Var y)) x (λ n. same_bind S σ y (atom.Var y) x (λ q. h (λ i. ⊎_elim (λ (e : x ≡ y). q e) (λ (j : In x xs). n j) (in_cases x y xs i))))

pub given_at : (xs : List ℕ) (bs : List Atom) (S : ℕ → Option Atom) (σ : ℕ → Atom) (x : ℕ) → length bs ≡ length xs → ((In x xs → ⊥) → Same S σ x) → Same (given_atoms S xs bs) (with_arguments σ xs bs) x
given_at [] bs S σ x l h = h (λ i. cc)
given_at (y ∷ xs) [] S σ x l h = absurd (omega arith)
given_at (y ∷ xs) (b ∷ bs) S σ x l h = given_at xs bs (bind S y (Some b)) (bind σ y b) x (omega arith) (λ n. same_bind S σ y b x (λ q. h (λ i. ⊎_elim (λ (e : x ≡ y). q e) (λ (j : In x xs). n j) (in_cases x y xs i))))

-- ---- Functions that only call another

pub record IsEta (f : ℕ) (params : List ℕ) (b : Code) (x : ℕ) : Type 0 where
  pub code : b ≡ Call (atom.Var x) (map atom.Var params)
  pub other : x ≢ f
  pub outside : has params x ≡ false

vars_are : (xs : List ℕ) (us : List Atom) → are_vars xs us ≡ true → us ≡ map atom.Var xs
vars_are [] [] e = refl
vars_are [] (u ∷ us) e = absurd (cc)
vars_are (x ∷ xs) [] e = absurd (cc)
vars_are (x ∷ xs) (atom.Constant k ∷ us) e = absurd (cc)
vars_are (x ∷ xs) (atom.Var y ∷ us) e = by (nat_eq x y) refl e (vars_are xs us)
  where
    by : (c : Bool) → nat_eq x y ≡ c → (c && are_vars xs us) ≡ true → (are_vars xs us ≡ true → us ≡ map atom.Var xs) → (atom.Var y ∷ us) ≡ (atom.Var x ∷ map atom.Var xs)
    by true g h r = let i = eqb-true x y g in let j = r h in cc
    by false g h r = absurd (cc)

pub eta_is : (f : ℕ) (params : List ℕ) (b : Code) (x : ℕ) → eta_of f params b ≡ Some x → IsEta f params b x
eta_is f params (Call (atom.Var y) us) x e = by (nat_eq y f) (has params y) (are_vars params us) refl refl refl e
  where
    by : (c d g : Bool) → nat_eq y f ≡ c → has params y ≡ d → are_vars params us ≡ g → cond (not c && (not d && g)) (Some y) None ≡ Some x → IsEta f params (Call (atom.Var y) us) x
    by false false true p q r h = some_eq (λ z. IsEta f params (Call (atom.Var y) us) z) y x h (record { code = ap (λ l. Call (atom.Var y) l) (vars_are params us r); other = eqb_other y f p; outside = q })
    by true d g p q r h = absurd (cc)
    by false true g p q r h = absurd (cc)
    by false false false p q r h = absurd (cc)
eta_is f params (Call (atom.Constant k) us) x e = absurd (cc)
eta_is f params (Make y shape atoms c) x e = absurd (cc)
eta_is f params (Pick y i a c) x e = absurd (cc)
eta_is f params (Prim y g atoms c) x e = absurd (cc)
eta_is f params (Equal a b t k) x e = absurd (cc)
eta_is f params (Fix fs c) x e = absurd (cc)
eta_is f params (Match a rules) x e = absurd (cc)
eta_is f params (Handler y c) x e = absurd (cc)
eta_is f params (SetHandler a c) x e = absurd (cc)
eta_is f params (Throw a) x e = absurd (cc)
eta_is f params Halt x e = absurd (cc)

-- ---- The role of a name

abbrev pub role_at : Roles → Functions → ℕ → Option Role
role_at role NoFunction x = None
role_at role (Function f p params b fs) x = cond (nat_eq x f) (Some (role f params b)) (role_at role fs x)

pub role_none : (role : Roles) (fs : Functions) (x : ℕ) → role_at role fs x ≡ None → IsAmong x (names_of fs) → ⊥
role_none role NoFunction x e i = i
role_none role (Function f p params b fs) x e i = by (nat_eq x f) refl e (role_none role fs x)
  where
    by : (c : Bool) → nat_eq x f ≡ c → cond c (Some (role f params b)) (role_at role fs x) ≡ None → (role_at role fs x ≡ None → IsAmong x (names_of fs) → ⊥) → ⊥
    by true g h r = cc
    by false g h r = ⊎_elim (λ (q : x ≡ f). eqb_other x f g q) (λ (j : IsAmong x (names_of fs)). r h j) i

pub role_some : (role : Roles) (fs : Functions) (x : ℕ) (r : Role) → role_at role fs x ≡ Some r → (params : List ℕ) × (b : Code) × (role x params b ≡ r) × IsAmong x (names_of fs)
role_some role NoFunction x r e = absurd (cc)
role_some role (Function f p params b fs) x r e = by (nat_eq x f) refl e (role_some role fs x r)
  where
    by : (c : Bool) → nat_eq x f ≡ c → cond c (Some (role f params b)) (role_at role fs x) ≡ Some r → (role_at role fs x ≡ Some r → (ps : List ℕ) × (d : Code) × (role x ps d ≡ r) × IsAmong x (names_of fs)) → (ps : List ℕ) × (d : Code) × (role x ps d ≡ r) × IsAmong x (f ∷ names_of fs)
    by true g h k = let q = eqb-true x f g in (params, b, subst (λ y. role y params b ≡ r) (sym q) (some_eq (λ t. t ≡ r) r (role f params b) (sym h) refl), inl q)
    by false g h k = let m = k h in (m.0, m.1, m.2, inr m.3)

module _ (role : Roles) where
  -- ---- The functions that stay

  abbrev pub stay_name : Role → ℕ → (ℕ → Option Atom) → (ℕ → Option Atom)
  stay_name Stays f σ = bind σ f (Some (atom.Var f))
  stay_name _ f σ = bind σ f None

  abbrev pub stay_block : Role → ℕ → (ℕ → Option Made) → (ℕ → Option Made)
  stay_block Stays f τ = bind τ f None
  stay_block _ f τ = τ

  abbrev pub stay_new : Role → ℕ → List ℕ → List ℕ
  stay_new Stays f ns = f ∷ ns
  stay_new _ f ns = ns

  abbrev pub stay_σ : Functions → (ℕ → Option Atom) → (ℕ → Option Atom)
  stay_σ NoFunction σ = σ
  stay_σ (Function f p params b fs) σ = stay_σ fs (stay_name (role f params b) f σ)

  abbrev pub stay_τ : Functions → (ℕ → Option Made) → (ℕ → Option Made)
  stay_τ NoFunction τ = τ
  stay_τ (Function f p params b fs) τ = stay_τ fs (stay_block (role f params b) f τ)

  abbrev pub stay_ι : Functions → (ℕ → Option Body) → (ℕ → Option Body)
  stay_ι NoFunction ι = ι
  stay_ι (Function f p params b fs) ι = stay_ι fs (bind ι f None)

  abbrev pub stay_ns : Functions → List ℕ → List ℕ
  stay_ns NoFunction ns = ns
  stay_ns (Function f p params b fs) ns = stay_ns fs (stay_new (role f params b) f ns)

  abbrev pub some_scope : Functions → Scope → Scope
  some_scope fs S = scope (stay_σ fs S.σ) (stay_τ fs S.τ) (stay_ι fs S.ι) (stay_ns fs S.ns)

  -- a name of another keeps what it is
  pub stay_other : (fs : Functions) (S : ℕ → Option Atom) (σ : ℕ → Atom) (x : ℕ) → (IsAmong x (names_of fs) → ⊥) → Same S σ x → Same (stay_σ fs S) (names_stay role fs σ) x
  stay_other NoFunction S σ x n h = h
  stay_other (Function f p params b fs) S σ x n h = stay_other fs _ _ x (λ i. n (inr i)) (by (role f params b))
    where
      q : x ≢ f
      q e = n (inl e)

      by : (r : Role) → Same (stay_name r f S) (staying r f σ) x
      by Stays = same_bind S σ f (atom.Var f) x (λ e. h)
      by Dropped = bind_other S f None x q ∙ h
      by (Replaced y) = bind_other S f None x q ∙ h
      by Placed = bind_other S f None x q ∙ h

  -- one that stays stands for itself
  pub stay_same : (fs : Functions) (S : ℕ → Option Atom) (σ : ℕ → Atom) (x : ℕ) → names_weigh (of_name x) (names_of fs) ≤ 1 → role_at role fs x ≡ Some Stays → Same (stay_σ fs S) (names_stay role fs σ) x
  stay_same NoFunction S σ x d e = absurd (cc)
  stay_same (Function f p params b fs) S σ x d e = by (nat_eq x f) refl e (stay_same fs _ _ x (omega arith))
    where
      at : (r : Role) → r ≡ Stays → Same (stay_name r f S) (staying r f σ) f
      at Stays e = bind_same S f (Some (atom.Var f)) ∙ ap Some (sym (bind_same σ f (atom.Var f)))
      at Dropped e = absurd (cc)
      at (Replaced y) e = absurd (cc)
      at Placed e = absurd (cc)

      by : (c : Bool) → nat_eq x f ≡ c → cond c (Some (role f params b)) (role_at role fs x) ≡ Some Stays → (role_at role fs x ≡ Some Stays → Same (stay_σ (Function f p params b fs) S) (names_stay role (Function f p params b fs) σ) x) → Same (stay_σ (Function f p params b fs) S) (names_stay role (Function f p params b fs) σ) x
      by true g h k =
          let q = eqb-true x f g in
          let r : role f params b ≡ Stays = some_eq (λ t. t ≡ Stays) Stays (role f params b) (sym h) refl in
          stay_other fs (stay_name (role f params b) f S) (staying (role f params b) f σ) x
          (λ i. let m = among_weighs x (names_of fs) i in let o = own_same x f q in absurd (omega arith))
          (subst (λ y. Same (stay_name (role f params b) f S) (staying (role f params b) f σ) y) (sym q) (at (role f params b) r))
      by false g h k = k h

  pub ι_other : (fs : Functions) (ι : ℕ → Option Body) (x : ℕ) → (IsAmong x (names_of fs) → ⊥) → stay_ι fs ι x ≡ ι x
  ι_other NoFunction ι x n = refl
  ι_other (Function f p params b fs) ι x n = ι_other fs (bind ι f None) x (λ i. n (inr i)) ∙ bind_other ι f None x (λ e. n (inl e))

  pub stay_blocks : (fs : Functions) (τ T : ℕ → Option Made) (ns : List ℕ) → ((x : ℕ) → names_weigh (of_name x) (names_of fs) + names_weigh (of_name x) ns ≤ 1) → Blocks τ T ns → Blocks τ (stay_τ fs T) (stay_ns fs ns)
  stay_blocks NoFunction τ T ns d h = h
  stay_blocks (Function f p params b fs) τ T ns d h = stay_blocks fs τ (stay_block (role f params b) f T) (stay_new (role f params b) f ns) (apart (role f params b)) (by (role f params b))
    where
      keep : Blocks τ (bind T f None) (f ∷ ns)
      keep = let k = d f in let o = own_same f f refl in blocks_other τ T ns f (omega arith) h

      by : (r : Role) → Blocks τ (stay_block r f T) (stay_new r f ns)
      by Stays = keep
      by Dropped = h
      by (Replaced y) = h
      by Placed = h

      apart : (r : Role) (x : ℕ) → names_weigh (of_name x) (names_of fs) + names_weigh (of_name x) (stay_new r f ns) ≤ 1
      apart Stays x = let k = d x in omega arith
      apart Dropped x = let k = d x in omega arith
      apart (Replaced y) x = let k = d x in omega arith
      apart Placed x = let k = d x in omega arith

  pub stay_weigh : (fs : Functions) (ns : List ℕ) (x : ℕ) → names_weigh (of_name x) (stay_ns fs ns) ≤ names_weigh (of_name x) (names_of fs) + names_weigh (of_name x) ns
  stay_weigh NoFunction ns x = omega arith
  stay_weigh (Function f p params b fs) ns x = let h = stay_weigh fs (stay_new (role f params b) f ns) x in let k = by (role f params b) in omega arith
    where
      by : (r : Role) → names_weigh (of_name x) (stay_new r f ns) ≤ own x f + names_weigh (of_name x) ns
      by Stays = omega arith
      by Dropped = omega arith
      by (Replaced y) = omega arith
      by Placed = omega arith

  -- ---- Those that are replaced by what they call

  abbrev pub alias_name : Role → ℕ → (ℕ → Atom) → (ℕ → Option Atom) → (ℕ → Option Atom)
  alias_name (Replaced x) f σ S = bind S f (Some (σ x))
  alias_name _ f σ S = S

  abbrev pub alias_body : Role → ℕ → (ℕ → Option Body) → (ℕ → Option Body)
  alias_body (Replaced x) f ι = bind ι f None
  alias_body _ f ι = ι

  abbrev pub alias_σ : Functions → (ℕ → Atom) → (ℕ → Option Atom) → (ℕ → Option Atom)
  alias_σ NoFunction σ S = S
  alias_σ (Function f p params b fs) σ S = alias_σ fs (replaced (role f params b) f σ) (alias_name (role f params b) f σ S)

  abbrev pub alias_ι : Functions → (ℕ → Option Body) → (ℕ → Option Body)
  alias_ι NoFunction ι = ι
  alias_ι (Function f p params b fs) ι = alias_ι fs (alias_body (role f params b) f ι)

  abbrev pub alias_scope : Functions → (ℕ → Atom) → Scope → Scope
  alias_scope fs σ S = scope (alias_σ fs σ S.σ) S.τ (alias_ι fs S.ι) S.ns

  alias_step : (r : Role) (f : ℕ) (S : ℕ → Option Atom) (σ : ℕ → Atom) (x : ℕ) → Same S σ x → Same (alias_name r f σ S) (replaced r f σ) x
  alias_step (Replaced y) f S σ x h = same_bind S σ f (σ y) x (λ e. h)
  alias_step Stays f S σ x h = h
  alias_step Dropped f S σ x h = h
  alias_step Placed f S σ x h = h

  pub alias_keeps : (fs : Functions) (S : ℕ → Option Atom) (σ : ℕ → Atom) (x : ℕ) → Same S σ x → Same (alias_σ fs σ S) (names_replaced role fs σ) x
  alias_keeps NoFunction S σ x h = h
  alias_keeps (Function f p params b fs) S σ x h = alias_keeps fs _ _ x (alias_step (role f params b) f S σ x h)

  pub alias_same : (fs : Functions) (S : ℕ → Option Atom) (σ : ℕ → Atom) (x y : ℕ) → role_at role fs x ≡ Some (Replaced y) → Same (alias_σ fs σ S) (names_replaced role fs σ) x
  alias_same NoFunction S σ x y e = absurd (cc)
  alias_same (Function f p params b fs) S σ x y e = by (nat_eq x f) refl e (alias_same fs _ _ x y)
    where
      at : (r : Role) → r ≡ Replaced y → Same (alias_name r f σ S) (replaced r f σ) f
      at (Replaced z) e = bind_same S f (Some (σ z)) ∙ ap Some (sym (bind_same σ f (σ z)))
      at Stays e = absurd (cc)
      at Dropped e = absurd (cc)
      at Placed e = absurd (cc)

      by : (c : Bool) → nat_eq x f ≡ c → cond c (Some (role f params b)) (role_at role fs x) ≡ Some (Replaced y) → (role_at role fs x ≡ Some (Replaced y) → Same (alias_σ (Function f p params b fs) σ S) (names_replaced role (Function f p params b fs) σ) x) → Same (alias_σ (Function f p params b fs) σ S) (names_replaced role (Function f p params b fs) σ) x
      by true g h k =
          let q = eqb-true x f g in
          let r : role f params b ≡ Replaced y = some_eq (λ t. t ≡ Replaced y) (Replaced y) (role f params b) (sym h) refl in
          alias_keeps fs (alias_name (role f params b) f σ S) (replaced (role f params b) f σ) x
          (subst (λ z. Same (alias_name (role f params b) f σ S) (replaced (role f params b) f σ) z) (sym q) (at (role f params b) r))
      by false g h k = k h

  pub alias_ι_other : (fs : Functions) (ι : ℕ → Option Body) (x : ℕ) → (IsAmong x (names_of fs) → ⊥) → alias_ι fs ι x ≡ ι x
  alias_ι_other NoFunction ι x n = refl
  alias_ι_other (Function f p params b fs) ι x n = alias_ι_other fs _ x (λ i. n (inr i)) ∙ by (role f params b)
    where
      by : (r : Role) → alias_body r f ι x ≡ ι x
      by (Replaced y) = bind_other ι f None x (λ e. n (inl e))
      by Stays = refl
      by Dropped = refl
      by Placed = refl

  -- what stands in the place of one
  abbrev pub TargetOf : Role → ℕ → Type 0
  TargetOf (Replaced y) x = y ≡ x
  TargetOf _ x = ⊥

  abbrev pub IsTarget : Functions → ℕ → Type 0
  IsTarget NoFunction x = ⊥
  IsTarget (Function f p params b fs) x = TargetOf (role f params b) x ⊎ IsTarget fs x

  -- the points of those that the answer doesn't have, other than the dead ones
  abbrev pub hides : Role → Point → Gone
  hides (Replaced x) p = one p
  hides Placed p = one p
  hides _ p = nobody

  abbrev pub hidden : Functions → Gone
  hidden NoFunction = nobody
  hidden (Function f p params b fs) = both (hides (role f params b) p) (hidden fs)

  -- the parameters of each have names of their own
  abbrev pub Parted : Functions → Type 0
  Parted NoFunction = Unit {0}
  Parted (Function f p params b fs) = ((x : ℕ) → names_weigh (of_name x) params ≤ 1) × Parted fs

  -- where each that is replaced only calls another
  module _ (etas : (f : ℕ) (params : List ℕ) (b : Code) (x : ℕ) → role f params b ≡ Replaced x → IsEta f params b x) where
    pub aliases : (L : List Point) (fs : Functions) (σ : ℕ → Atom) (S : Scope) → Parted fs → Hidden L (hidden fs) → ((x : ℕ) → IsTarget fs x → Same S.σ σ x) → Aliases L fs S (alias_scope fs σ S)
    aliases L NoFunction σ S parted hid targets = no_alias S
    aliases L (Function f p params b fs) σ S parted hid targets =
        by (role f params b) refl hid.0 (λ x i. targets x (inl i))
        (aliases L fs (replaced (role f params b) f σ) (scope (alias_name (role f params b) f σ S.σ) S.τ (alias_body (role f params b) f S.ι) S.ns) parted.1 hid.1 (λ x i. alias_step (role f params b) f S.σ σ x (targets x (inr i))))
      where
        by : (r : Role) → role f params b ≡ r → Hidden L (hides r p) → ((x : ℕ) → TargetOf r x → Same S.σ σ x) → Aliases L fs (scope (alias_name r f σ S.σ) S.τ (alias_body r f S.ι) S.ns) (scope (alias_σ fs (replaced r f σ) (alias_name r f σ S.σ)) S.τ (alias_ι fs (alias_body r f S.ι)) S.ns) → Aliases L (Function f p params b fs) S (scope (alias_σ fs (replaced r f σ) (alias_name r f σ S.σ)) S.τ (alias_ι fs (alias_body r f S.ι)) S.ns)
        by (Replaced x) e hid at rest =
            let i = etas f params b x e in
            subst (λ t. Aliases L (Function f p params t fs) S (scope (alias_σ fs (replaced (Replaced x) f σ) (alias_name (Replaced x) f σ S.σ)) S.τ (alias_ι fs (alias_body (Replaced x) f S.ι)) S.ns)) (sym i.code)
            (alias S _ f p params x (map atom.Var params) fs (σ x) hid refl (λ m. let o = i.outside in let k : has params x ≡ true = among_in x params m in absurd (cc)) (all_fresh params [] (λ y. let n = parted.0 y in omega arith)) (at x refl) rest)
        by Stays e hid at rest = next_alias S _ f p params b fs rest
        by Dropped e hid at rest = next_alias S _ f p params b fs rest
        by Placed e hid at rest = next_alias S _ f p params b fs rest

  -- ---- Those that are put where they are called

  abbrev pub body_name : Role → ℕ → (ℕ → Option Atom) → (ℕ → Option Atom)
  body_name Placed f S = bind S f (S f)
  body_name _ f S = S

  abbrev pub body_code : Role → ℕ → Body → (ℕ → Option Body) → (ℕ → Option Body)
  body_code Placed f b ι = bind ι f (Some b)
  body_code _ f b ι = ι

  abbrev pub body_σ : Functions → (ℕ → Option Atom) → (ℕ → Option Atom)
  body_σ NoFunction S = S
  body_σ (Function f p params b fs) S = body_σ fs (body_name (role f params b) f S)

  abbrev pub body_ι : (ℕ → Option Atom) → Functions → (ℕ → Option Body) → (ℕ → Option Body)
  body_ι σ NoFunction ι = ι
  body_ι σ (Function f p params b fs) ι = body_ι σ fs (body_code (role f params b) f (record { params = params; code = b; σ = σ }) ι)

  abbrev pub body_scope : (ℕ → Option Atom) → Functions → Scope → Scope
  body_scope σ fs S = scope (body_σ fs S.σ) S.τ (body_ι σ fs S.ι) S.ns

  pub bodies : (L : List Point) (σ : ℕ → Option Atom) (fs : Functions) (S : Scope) → Hidden L (hidden fs) → Bodies L σ fs S (body_scope σ fs S)
  bodies L σ NoFunction S hid = no_body S
  bodies L σ (Function f p params b fs) S hid =
      by (role f params b) hid.0 (bodies L σ fs (scope (body_name (role f params b) f S.σ) S.τ (body_code (role f params b) f (record { params = params; code = b; σ = σ }) S.ι) S.ns) hid.1)
    where
      body : Body
      body = record { params = params; code = b; σ = σ }

      by : (r : Role) → Hidden L (hides r p) → Bodies L σ fs (scope (body_name r f S.σ) S.τ (body_code r f body S.ι) S.ns) (scope (body_σ fs (body_name r f S.σ)) S.τ (body_ι σ fs (body_code r f body S.ι)) S.ns) → Bodies L σ (Function f p params b fs) S (scope (body_σ fs (body_name r f S.σ)) S.τ (body_ι σ fs (body_code r f body S.ι)) S.ns)
      by Placed hid rest = put_body S _ f p params b fs hid rest
      by Stays hid rest = next_body S _ f p params b fs rest
      by Dropped hid rest = next_body S _ f p params b fs rest
      by (Replaced x) hid rest = next_body S _ f p params b fs rest

  bind_self : (S : ℕ → Option Atom) (f x : ℕ) → bind S f (S f) x ≡ S x
  bind_self S f x = by (nat_eq x f) refl
    where
      by : (c : Bool) → nat_eq x f ≡ c → cond c (S f) (S x) ≡ S x
      by true g = ap S (sym (eqb-true x f g))
      by false g = refl

  pub body_keeps : (fs : Functions) (S : ℕ → Option Atom) (x : ℕ) → body_σ fs S x ≡ S x
  body_keeps NoFunction S x = refl
  body_keeps (Function f p params b fs) S x = body_keeps fs _ x ∙ by (role f params b)
    where
      by : (r : Role) → body_name r f S x ≡ S x
      by Placed = bind_self S f x
      by Stays = refl
      by Dropped = refl
      by (Replaced y) = refl

  -- what they come to by a measure, and what calls come to that put them in
  abbrev pub put_cost : (Code → ℕ) → Role → Code → ℕ
  put_cost m Placed b = m b
  put_cost m _ b = 0

  abbrev pub put_weigh : (Code → ℕ) → Functions → ℕ
  put_weigh m NoFunction = 0
  put_weigh m (Function f p params b fs) = put_cost m (role f params b) b + put_weigh m fs

  abbrev pub cost_step : (Code → ℕ) → Role → ℕ → Code → (ℕ → ℕ) → (ℕ → ℕ)
  cost_step m Placed f b W = bind W f (m b)
  cost_step m _ f b W = W

  abbrev pub put_costs : (Code → ℕ) → Functions → (ℕ → ℕ) → (ℕ → ℕ)
  put_costs m NoFunction W = W
  put_costs m (Function f p params b fs) W = put_costs m fs (cost_step m (role f params b) f b W)

  -- each of them is called at most once
  abbrev pub CalledOnce : Functions → Code → Type 0
  CalledOnce NoFunction c = Unit {0}
  CalledOnce (Function f p params b fs) c = (role f params b ≡ Placed → calls f c ≤ 1) × CalledOnce fs c

  pub costs_owed : (m : Code → ℕ) (fs : Functions) (W : ℕ → ℕ) (c : Code) → CalledOnce fs c → owed (put_costs m fs W) c ≤ owed W c + put_weigh m fs
  costs_owed m NoFunction W c o = omega arith
  costs_owed m (Function f p params b fs) W c o =
      let h = costs_owed m fs (cost_step m (role f params b) f b W) c o.1 in let k = by (role f params b) refl in omega arith
    where
      by : (r : Role) → role f params b ≡ r → owed (cost_step m r f b W) c ≤ owed W c + put_cost m r b
      by Placed e = owed_once W f (m b) c (o.0 e)
      by Stays e = omega arith
      by Dropped e = omega arith
      by (Replaced y) e = omega arith
