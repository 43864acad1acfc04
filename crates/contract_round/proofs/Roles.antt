-- What the role of a function says of its uses.
use Rattle.std.proofs.Common.{◌≡◌, ◌≢◌, ℕ, ◌+◌, ◌≤◌, List, [], ◌∷◌, length, Option, Some, None, Bool, true, false, cond, ◌||◌, ◌⊎◌, inl, inr, refl, sym, ap, subst, arith, ⊎_elim, eqb-true, nat_eq}
use Rattle.simulation.specs.Blocks.{IsAmong}
use Rattle.simulation.proofs.Lists.{both_true}
use Rattle.sml_tree.specs.Sets.{has, without}
use Rattle.cps_ir.specs.declared.atom.Atom.TheVariants as atom
use Rattle.cps_ir.specs.Code.{Code, Call, Functions, NoFunction, Function, names_of}
use Rattle.cps_ir.specs.Free.{free_code, free_functions}
use Rattle.contract_laws.specs.Redex.{uses, uses_functions, uses_others, calls_with}
use Rattle.contract_laws.specs.Weigh.{names_weigh, of_name}
use Rattle.contract_laws.proofs.Relation.{neqb}
use Rattle.contract_laws.proofs.Free.{In, in_left, in_right, in_without, in_cases, in_head, in_tail, one_in}
use Rattle.contract_round.specs.Round.{Role, Dropped, Replaced, Placed, Stays, Roles, role_by, role_in, is_dead, is_once, aliases_in, if_alias, with_eta, eta_of}
use Rattle.contract_round.proofs.Facts.{own_same, with_less, calls_less, among_weighs}
use Rattle.contract_round.proofs.Group.{IsEta, eta_is, TargetOf, IsTarget, CalledOnce}

-- ---- One role

abbrev Whence : Role → Bool → Bool → Option ℕ → Bool → Type 0
Whence Dropped dead replaced target once = dead ≡ true
Whence (Replaced x) dead replaced target once = (dead ≡ false) × (replaced ≡ true) × (target ≡ Some x)
Whence Placed dead replaced target once = (dead ≡ false) × (once ≡ true)
Whence Stays dead replaced target once = (dead ≡ false) × (once ≡ false)

whence : (dead replaced : Bool) (target : Option ℕ) (once : Bool) → Whence (role_by dead replaced target once) dead replaced target once
whence true replaced target once = refl
whence false true (Some x) once = (refl, refl, refl)
whence false true None true = (refl, refl)
whence false true None false = (refl, refl)
whence false false target true = (refl, refl)
whence false false target false = (refl, refl)

module _ (all : Functions) (c : Code) where
  abbrev role : Roles
  role = role_in all c

  abbrev Reason : Role → ℕ → List ℕ → Code → Type 0
  Reason r f params b = Whence r (is_dead all c f) (has (aliases_in all c [] all) f) (eta_of f params b) (is_once all c f params)

  pub reason : (f : ℕ) (params : List ℕ) (b : Code) (r : Role) → role f params b ≡ r → Reason r f params b
  reason f params b r e = subst (λ t. Reason t f params b) e (whence (is_dead all c f) (has (aliases_in all c [] all) f) (eta_of f params b) (is_once all c f params))

  pub etas : (f : ℕ) (params : List ℕ) (b : Code) (x : ℕ) → role f params b ≡ Replaced x → IsEta f params b x
  etas f params b x e = let k = reason f params b (Replaced x) e in eta_is f params b x k.2

  pub dead_uses : (f : ℕ) → is_dead all c f ≡ true → uses_others f all + uses f c ≡ 0
  dead_uses f e = eqb-true _ _ e

  pub once_uses : (f : ℕ) (params : List ℕ) → is_once all c f params ≡ true → (uses_functions f all + uses f c ≡ 1) × (calls_with f (length params) c ≡ 1)
  once_uses f params e = let k = both_true _ _ e in (eqb-true _ _ k.0, eqb-true _ _ k.1)

  pub placed_uses : (f : ℕ) (params : List ℕ) (b : Code) → role f params b ≡ Placed → (uses_functions f all ≡ 0) × (uses f c ≡ 1) × (calls_with f (length params) c ≡ 1)
  placed_uses f params b e =
      let k = reason f params b Placed e in
      let o = once_uses f params k.1 in
      let p = o.0 in
      let q = o.1 in
      let l = with_less f (length params) c in
      ((omega arith), (omega arith), q)

  pub called_once : (fs : Functions) → CalledOnce role fs c
  called_once NoFunction = tt
  called_once (Function f p params b fs) = ((λ e. let k = placed_uses f params b e in let m = k.1 in let l = calls_less f c in omega arith), called_once fs)

  -- ---- What those call that are replaced

  -- of functions of which none has the name of another
  abbrev pub Distinct : Functions → Type 0
  Distinct fs = (x : ℕ) → names_weigh (of_name x) (names_of fs) ≤ 1

  alias_names : (front : List ℕ) (fs : Functions) (y : ℕ) → has (aliases_in all c front fs) y ≡ true → IsAmong y (names_of fs)
  alias_names front NoFunction y e = absurd (cc)
  alias_names front (Function f p params b fs) y e = by (eta_of f params b) (alias_names (with_eta (eta_of f params b) f front) fs y) e
    where
      behind : List ℕ
      behind = aliases_in all c (with_eta (eta_of f params b) f front) fs

      if : (d : Bool) → (has behind y ≡ true → IsAmong y (names_of fs)) → has (cond d behind (f ∷ behind)) y ≡ true → (y ≡ f) ⊎ IsAmong y (names_of fs)
      if true r h = inr (r h)
      if false r h = ⊎_elim (λ (q : y ≡ f). inl q) (λ (q : In y behind). inr (r q)) (in_cases y f behind h)

      by : (o : Option ℕ) → (has behind y ≡ true → IsAmong y (names_of fs)) → has (if_alias all c o f front behind) y ≡ true → (y ≡ f) ⊎ IsAmong y (names_of fs)
      by None r h = inr (r h)
      by (Some x) r h = if (is_dead all c f || (has front x || has behind x)) r h

  or_none : (a b : Bool) → (a || b) ≡ false → (a ≡ false) × (b ≡ false)
  or_none false b e = (refl, e)
  or_none true b e = absurd (cc)

  no_has : (b : Bool) → (b ≡ true → ⊥) → b ≡ false
  no_has true n = absurd (n refl)
  no_has false n = refl

  has_front : (o : Option ℕ) (f : ℕ) (front : List ℕ) (y : ℕ) → has front y ≡ true → has (with_eta o f front) y ≡ true
  has_front None f front y e = e
  has_front (Some x) f front y e = in_tail y f front e

  -- Each is replaced by one that isn't replaced itself. A are all that are, and those in front of the rest are among `front`.
  target_rule : (A front : List ℕ) (fs : Functions) → ((f : ℕ) (params : List ℕ) (b : Code) (y : ℕ) → role f params b ≡ Replaced y → has A f ≡ true) → ((y : ℕ) → has A y ≡ true → In y front ⊎ In y (aliases_in all c front fs)) → ((y : ℕ) → IsAmong y (names_of fs) → In y front → ⊥) → Distinct fs → (y : ℕ) → IsTarget role fs y → has A y ≡ true → ⊥
  target_rule A front NoFunction among whole clear d y t h = t
  target_rule A front (Function f p params b fs) among whole clear d y t h =
      ⊎_elim
      (λ (i : TargetOf role (role f params b) y). by (role f params b) refl i)
      (λ (i : IsTarget role fs y). target_rule A (with_eta (eta_of f params b) f front) fs among whole' clear' (λ x. let k = d x in omega arith) y i h)
      t
    where
      front' : List ℕ
      front' = with_eta (eta_of f params b) f front

      behind : List ℕ
      behind = aliases_in all c front' fs

      apart : IsAmong f (names_of fs) → ⊥
      apart i = let k = d f in let m = among_weighs f (names_of fs) i in let o = own_same f f refl in absurd (omega arith)

      -- an alias is this one or one behind
      if_whole : (o : Option ℕ) (x : ℕ) → In x (if_alias all c o f front behind) → In x (with_eta o f front) ⊎ In x behind
      if_whole None x i = inr i
      if_whole (Some z) x i = is (is_dead all c f || (has front z || has behind z)) i
        where
          is : (e : Bool) → In x (cond e behind (f ∷ behind)) → In x (f ∷ front) ⊎ In x behind
          is true i = inr i
          is false i = ⊎_elim (λ (q : x ≡ f). inl (in_head x f front q)) (λ (q : In x behind). inr q) (in_cases x f behind i)

      whole' : (x : ℕ) → has A x ≡ true → In x front' ⊎ In x behind
      whole' x e = ⊎_elim (λ (i : In x front). inl (has_front (eta_of f params b) f front x i)) (λ (i : In x (if_alias all c (eta_of f params b) f front behind)). if_whole (eta_of f params b) x i) (whole x e)

      with_front : (o : Option ℕ) (x : ℕ) → In x (with_eta o f front) → (x ≡ f) ⊎ In x front
      with_front None x i = inr i
      with_front (Some z) x i = in_cases x f front i

      clear' : (x : ℕ) → IsAmong x (names_of fs) → In x front' → ⊥
      clear' x i j = ⊎_elim (λ (q : x ≡ f). apart (subst (λ z. IsAmong z (names_of fs)) q i)) (λ (q : In x front). clear x (inr i) q) (with_front (eta_of f params b) x j)

      -- where this one is replaced, what it calls isn't in front of it and not replaced behind it
      here : (e : Bool) (x : ℕ) → (is_dead all c f || (has front x || has behind x)) ≡ e → In f (cond e behind (f ∷ behind)) → (has front x ≡ false) × (has behind x ≡ false)
      here true x g i = absurd (apart (alias_names front' fs f i))
      here false x g i = let k = or_none _ _ g in or_none _ _ k.1

      this : (x : ℕ) → role f params b ≡ Replaced x → has A x ≡ true → ⊥
      this x e g =
          let eta = let k = reason f params b (Replaced x) e in k.2 in
          let is = eta_is f params b x eta in
          let mine : In f (if_alias all c (Some x) f front behind) = ⊎_elim (λ (i : In f front). absurd (clear f (inl refl) i)) (λ (i : In f (if_alias all c (eta_of f params b) f front behind)). subst (λ o. In f (if_alias all c o f front behind)) eta i) (whole f (among f params b x e)) in
          let none = here (is_dead all c f || (has front x || has behind x)) x refl mine in
          let f0 = none.0 in
          let b0 = none.1 in
          ⊎_elim
          (λ (i : In x front). cc)
          (λ (i : In x (if_alias all c (eta_of f params b) f front behind)). ⊎_elim
          (λ (j : In x (with_eta (eta_of f params b) f front)). ⊎_elim (λ (q : x ≡ f). is.other q) (λ (q : In x front). cc) (with_front (eta_of f params b) x j))
          (λ (j : In x behind). cc)
          (if_whole (eta_of f params b) x i))
          (whole x g)

      by : (r : Role) → role f params b ≡ r → TargetOf role r y → ⊥
      by (Replaced x) e i = this x e (subst (λ z. has A z ≡ true) (sym i) h)
      by Stays e i = i
      by Dropped e i = i
      by Placed e i = i

  pub target_stays : Distinct all → (y : ℕ) → IsTarget role all y → has (aliases_in all c [] all) y ≡ true → ⊥
  target_stays d y t h =
      target_rule (aliases_in all c [] all) [] all (λ f params b x e. let k = reason f params b (Replaced x) e in k.1) (λ x e. inr e) (λ x i j. cc) d y t h

  -- ---- Uses of what is called

  uses_var : (y : ℕ) (us : List _) → 1 ≤ uses y (Call (atom.Var y) us)
  uses_var y us = let o = own_same y y refl in omega arith

  others_of : (y f : ℕ) (b : Code) → y ≢ f → cond (nat_eq y f) 0 (uses y b) ≡ uses y b
  others_of y f b n = ap (λ t. cond t 0 (uses y b)) (neqb y f n)

  pub target_uses : (fs : Functions) (y : ℕ) → IsTarget role fs y → (1 ≤ uses_functions y fs) × (1 ≤ uses_others y fs) × In y (free_functions fs)
  target_uses NoFunction y t = absurd t
  target_uses (Function f p params b fs) y t =
      ⊎_elim
      (λ (i : TargetOf role (role f params b) y). by (role f params b) refl i)
      (λ (i : IsTarget role fs y). let k = target_uses fs y i in let m = k.0 in let n = k.1 in ((omega arith), (omega arith), in_right y (without (free_code b) params) (free_functions fs) k.2))
      t
    where
      at : (x : ℕ) → IsEta f params b x → (1 ≤ uses_functions x (Function f p params b fs)) × (1 ≤ uses_others x (Function f p params b fs)) × In x (free_functions (Function f p params b fs))
      at x e =
          let u : 1 ≤ uses x b = subst (λ t. 1 ≤ uses x t) (sym e.code) (uses_var x _) in
          let o = others_of x f b e.other in
          let fr : In x (free_code b) = subst (λ t. In x (free_code t)) (sym e.code) (in_left x (x ∷ []) _ (one_in x x refl)) in
          ((omega arith), (omega arith), in_left x (without (free_code b) params) (free_functions fs) (in_without x (free_code b) params (λ i. let n = e.outside in cc) fr))

      by : (r : Role) → role f params b ≡ r → TargetOf role r y → (1 ≤ uses_functions y (Function f p params b fs)) × (1 ≤ uses_others y (Function f p params b fs)) × In y (free_functions (Function f p params b fs))
      by (Replaced x) e i = subst (λ z. (1 ≤ uses_functions z (Function f p params b fs)) × (1 ≤ uses_others z (Function f p params b fs)) × In z (free_functions (Function f p params b fs))) i (at x (etas f params b x e))
      by Stays e i = absurd i
      by Dropped e i = absurd i
      by Placed e i = absurd i
