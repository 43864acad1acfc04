-- Each round makes a body smaller, or leaves it as it is and without a redex.
use Rattle.std.proofs.Common.{◌≡◌, ◌≢◌, ℕ, zero, suc, ◌+◌, ◌≤◌, List, [], ◌∷◌, map, length, Option, Some, None, slice_get, Bool, true, false, not, cond, ◌&&◌, ◌||◌, inl, inr, refl, sym, ap, ap₂, ◌∙◌, subst, arith, ⊎_elim, eqb-true, eq-eqb, nat_eq, nat_lt}
use Rattle.std.proofs.lemmas.Bool.{ltb-true, ltb-false}
use Rattle.smlc_base.specs.declared.point.Point.{Point}
use Rattle.simulation.proofs.Lists.{some_eq}
use Rattle.sml_tree.specs.Sets.{has}
use Rattle.sml_def.specs.Maybe.{◌>>=◌}
use Rattle.cps_ir.specs.declared.atom.Atom.{Atom}
use Rattle.cps_ir.specs.declared.atom.Wanted.{Wanted}
use Rattle.cps_ir.specs.declared.atom.Test.{Test}
use Rattle.cps_ir.specs.declared.atom.Shape.{Shape}
use Rattle.smlc_base.specs.declared.primitive.Primitive.{Primitive}
use Rattle.cps_ir.specs.declared.atom.Atom.TheVariants as atom
use Rattle.cps_ir.specs.declared.atom.Wanted.TheVariants as want
use Rattle.cps_ir.specs.Code.{Code, Make, Pick, Prim, Equal, Fix, Call, Match, Handler, SetHandler, Throw, Halt, Functions, NoFunction, Function, Rules, Otherwise, Rule}
use Rattle.cps_ir.specs.State.{bind}
use Rattle.contract_laws.specs.Contract.{Made, nothing, known_as, is_pure, says, says_made, Leads, here, there, Says, by_constant, by_block, IsKnown, known}
use Rattle.contract_laws.specs.Redex as redex
use Rattle.contract_laws.specs.Redex.{uses, uses_functions, uses_others, calls, calls_with, nodes, nodes_functions, nodes_rules, count_tests, NoneKnown, NoField, NoRedexOf, NoRedex, NoRedexes, NoRedexRules, HasNoRedex}
use Rattle.contract_laws.proofs.Linear.{owed, owed_rules, owed_free, free}
use Rattle.contract_laws.proofs.Relation.{neqb, bind_same, bind_other}
use Rattle.contract_laws.proofs.Free.{In, in_head, in_among, bind_cases}
use Rattle.contract_round.specs.Round.{Inlined, Known, binding, replacing, within, as_themselves, with_arguments, outset, atom_in, atoms_in, wanted_in, test_in, block_of, if_tuple, field_of_tuple, known_field, at_end, answer, verdict, test_left, tests_left, is_unused, are_vars, eta_of, Role, Dropped, Replaced, Placed, Stays, Roles, role_in, role_by, is_dead, is_once, aliases_in, if_alias, with_eta, names_in, names_stay, names_replaced, staying, replaced, placed, function_left, fix_left, call_left, inlined_of, match_left, rule_left, pick_left, walk, functions_walk, bodies_walk, rules_walk, round}
use Rattle.contract_round.specs.Round as definition
use Rattle.contract_round.specs.Law.{RoundsEnd, NothingIsLeft}
use Rattle.contract_round.proofs.Group.{put_cost, put_weigh, cost_step, put_costs, costs_owed}
use Rattle.contract_round.proofs.Roles.{reason, called_once}

-- ---- Where nothing is replaced

abbrev Plain : (ℕ → Atom) → Type 0
Plain σ = (x : ℕ) → σ x ≡ atom.Var x

plain_bind : (σ : ℕ → Atom) (x : ℕ) → Plain σ → Plain (bind σ x (atom.Var x))
plain_bind σ x h y = by (nat_eq y x) refl
  where
    by : (c : Bool) → nat_eq y x ≡ c → cond c (atom.Var x) (σ y) ≡ atom.Var y
    by true g = ap atom.Var (sym (eqb-true y x g))
    by false g = h y

plain_params : (xs : List ℕ) (σ : ℕ → Atom) → Plain σ → Plain (as_themselves σ xs)
plain_params [] σ h = h
plain_params (x ∷ xs) σ h = plain_params xs (bind σ x (atom.Var x)) (plain_bind σ x h)

plain_atom : (σ : ℕ → Atom) (a : Atom) → Plain σ → atom_in σ a ≡ a
plain_atom σ (atom.Var x) h = h x
plain_atom σ (atom.Constant k) h = refl

plain_atoms : (σ : ℕ → Atom) (us : List Atom) → Plain σ → atoms_in σ us ≡ us
plain_atoms σ [] h = refl
plain_atoms σ (a ∷ us) h = ap₂ (λ (b : Atom) (bs : List Atom). b ∷ bs) (plain_atom σ a h) (plain_atoms σ us h)

plain_wanted : (σ : ℕ → Atom) (w : Wanted) → Plain σ → wanted_in σ w ≡ w
plain_wanted σ (want.Exn a applied) h = ap (λ b. want.Exn b applied) (plain_atom σ a h)
plain_wanted σ (want.Num z) h = refl
plain_wanted σ (want.Tag t) h = refl
plain_wanted σ (want.Text t) h = refl

plain_test : (σ : ℕ → Atom) (t : Test) → Plain σ → test_in σ t ≡ t
plain_test σ t h = ap (λ (w : Wanted). let r : Test = record { path = t.path; want = w } in r) (plain_wanted σ t.want h)

-- ---- Tests

module _ (texts : List (List ℕ)) where
  then_some : {A B : Type 0} (o : Option A) (f : A → Option B) (a : A) (b : Option B) → o ≡ Some a → f a ≡ b → (o >>= f) ≡ b
  then_some o f a b e g = ap (λ t. t >>= f) e ∙ g

  ends_at : (τ : ℕ → Option Made) (a : Atom) (path : List ℕ) (b : Atom) → Leads τ a path b → at_end τ a path ≡ Some b
  ends_at τ a path b (here c) = refl
  ends_at τ a path b (there x i t c e rest at get r) =
      then_some (τ x) (λ m. slice_get m.atoms i >>= (λ d. at_end τ d rest)) t (Some e) at
      (then_some (slice_get t.atoms i) (λ d. at_end τ d rest) c (Some e) get (ends_at τ c rest e r))

  answered : (τ : ℕ → Option Made) (a : Atom) (w : Wanted) (b : Bool) → Says texts τ a w b → answer texts τ w a ≡ Some b
  answered τ a w b (by_constant k v c con s) = ap (λ t. cond t (says texts v k) None) con ∙ s
  answered τ a w b (by_block x t v c at s) = then_some (τ x) (λ m. says_made v m.shape) t (Some c) at s

  judged : (τ : ℕ → Option Made) (a : Atom) (t : Test) (b : Bool) → IsKnown texts τ a t b → verdict texts τ a t ≡ Some b
  judged τ a t b (known c l s) = then_some (at_end τ a t.path) (answer texts τ t.want) c (Some b) (ends_at τ a t.path c l) (answered τ c t.want b s)

  -- the tests of a rule, where some are left
  record Tested (K : Known) (a : Atom) (ts us : List Test) : Type 0 where
    hits : ℕ
    less : count_tests us + hits ≤ count_tests ts
    same : hits ≡ 0 → Plain K.σ → (us ≡ ts) × NoneKnown texts K.τ a ts

  none_known : (τ : ℕ → Option Made) (a : Atom) (t : Test) (ts : List Test) → verdict texts τ a t ≡ None → NoneKnown texts τ a ts → NoneKnown texts τ a (t ∷ ts)
  none_known τ a t ts e h u b (inl q) k = let j = judged τ a t b (subst (λ v. IsKnown texts τ a v b) q k) in cc
  none_known τ a t ts e h u b (inr i) k = h u b i k

  then_parts : (o : Option (List Test)) (t : Test) (us : List Test) → (o >>= (λ rest. Some (t ∷ rest))) ≡ Some us → (rest : List Test) × (o ≡ Some rest) × (us ≡ t ∷ rest)
  then_parts None t us e = absurd (cc)
  then_parts (Some rest) t us e = (rest, refl, some_eq (λ v. v ≡ t ∷ rest) (t ∷ rest) us e refl)

  tested : (K : Known) (a : Atom) (ts us : List Test) → tests_left texts K a ts ≡ Some us → Tested K a ts us
  tested K a [] us e = some_eq (λ t. Tested K a [] t) [] us e (record { hits = 0; less = omega arith; same = λ h p. (refl, (λ t b i k. i)) })
  tested K a (t ∷ ts) us e = by (verdict texts K.τ a t) refl (tested K a ts) e
    where
      by : (o : Option Bool) → verdict texts K.τ a t ≡ o → ((vs : List Test) → tests_left texts K a ts ≡ Some vs → Tested K a ts vs) → test_left o (test_in K.σ t) (tests_left texts K a ts) ≡ Some us → Tested K a (t ∷ ts) us
      by (Some false) g r h = absurd (cc)
      by (Some true) g r h = let k = r us h in record { hits = suc k.hits; less = let l = k.less in omega arith; same = λ z p. absurd (omega arith) }
      by None g r h =
          let m = then_parts (tests_left texts K a ts) (test_in K.σ t) us h in
          let k = r m.0 m.1 in
          subst (λ v. Tested K a (t ∷ ts) v) (sym m.2) (record {
            hits = k.hits;
            less = let l = k.less in omega arith;
            same = λ z p. let s = k.same z p in (ap₂ (λ (v : Test) (vs : List Test). v ∷ vs) (plain_test K.σ t p) s.0, none_known K.τ a t ts g s.1);
          })

-- ---- Functions that all stay

abbrev AllStay : Roles → Functions → Type 0
AllStay role NoFunction = Unit {0}
AllStay role (Function f p params b fs) = (role f params b ≡ Stays) × AllStay role fs

plain_stays : (role : Roles) (fs : Functions) (σ : ℕ → Atom) → AllStay role fs → Plain σ → Plain (names_stay role fs σ)
plain_stays role NoFunction σ a h = h
plain_stays role (Function f p params b fs) σ a h = plain_stays role fs (staying (role f params b) f σ) a.1 (subst (λ r. Plain (staying r f σ)) (sym a.0) (plain_bind σ f h))

plain_replaced : (role : Roles) (fs : Functions) (σ : ℕ → Atom) → AllStay role fs → Plain σ → Plain (names_replaced role fs σ)
plain_replaced role NoFunction σ a h = h
plain_replaced role (Function f p params b fs) σ a h = plain_replaced role fs (replaced (role f params b) f σ) a.1 (subst (λ r. Plain (replaced r f σ)) (sym a.0) h)

plain_names : (role : Roles) (fs : Functions) (σ : ℕ → Atom) → AllStay role fs → Plain σ → Plain (names_in role fs σ)
plain_names role fs σ a h = plain_replaced role fs (names_stay role fs σ) a (plain_stays role fs σ a h)

same_vars : (xs : List ℕ) → are_vars xs (map atom.Var xs) ≡ true
same_vars [] = refl
same_vars (x ∷ xs) = ap (λ t. t && are_vars xs (map atom.Var xs)) (eq-eqb x x refl) ∙ same_vars xs

no_has : (b : Bool) → (b ≡ true → ⊥) → b ≡ false
no_has true n = absurd (n refl)
no_has false n = refl

eta_found : (f : ℕ) (params : List ℕ) (b : Code) → redex.IsEta f params b → (x : ℕ) × (eta_of f params b ≡ Some x)
eta_found f params b e =
    let p : nat_eq e.0 f ≡ false = neqb e.0 f e.2 in
    let q : has params e.0 ≡ false = no_has (has params e.0) (λ i. e.3 (in_among e.0 params i)) in
    let r = same_vars params in
    let k : cond (not (nat_eq e.0 f) && (not (has params e.0) && are_vars params (map atom.Var params))) (Some e.0) None ≡ Some e.0 = cc in
    (e.0, subst (λ c. eta_of f params c ≡ Some e.0) (sym e.1) k)

module _ (all : Functions) (c : Code) where
  abbrev roles : Roles
  roles = role_in all c

  -- one that would be replaced
  not_replaced : (f : ℕ) (params : List ℕ) (b : Code) (x : ℕ) → roles f params b ≡ Stays → eta_of f params b ≡ Some x → In f (aliases_in all c [] all) → ⊥
  not_replaced f params b x e eta i =
      let k = reason all c f params b Stays e in
      let live : is_dead all c f ≡ false = k.0 in
      let r : role_by (is_dead all c f) (has (aliases_in all c [] all) f) (eta_of f params b) (is_once all c f params) ≡ Replaced x = would (is_dead all c f) (has (aliases_in all c [] all) f) (eta_of f params b) live i eta in
      cc
    where
      would : (d h : Bool) (o : Option ℕ) → d ≡ false → h ≡ true → o ≡ Some x → role_by d h o (is_once all c f params) ≡ Replaced x
      would true h o p q r = absurd (cc)
      would false false o p q r = absurd (cc)
      would false true None p q r = absurd (cc)
      would false true (Some y) p q r = some_eq (λ z. Replaced z ≡ Replaced x) x y (sym r) refl

  no_alias : (front : List ℕ) (fs : Functions) → AllStay roles fs → ((y : ℕ) → In y (aliases_in all c front fs) → In y (aliases_in all c [] all)) → (x : ℕ) → In x (aliases_in all c front fs) → ⊥
  no_alias front NoFunction a sub x i = absurd (cc)
  no_alias front (Function f p params b fs) a sub x i =
      by (eta_of f params b) refl (no_alias (with_eta (eta_of f params b) f front) fs a.1) sub i
    where
      by : (o : Option ℕ) → eta_of f params b ≡ o → (((y : ℕ) → In y (aliases_in all c (with_eta o f front) fs) → In y (aliases_in all c [] all)) → (y : ℕ) → In y (aliases_in all c (with_eta o f front) fs) → ⊥) → ((y : ℕ) → In y (if_alias all c o f front (aliases_in all c (with_eta o f front) fs)) → In y (aliases_in all c [] all)) → In x (if_alias all c o f front (aliases_in all c (with_eta o f front) fs)) → ⊥
      by None e r s i = r s x i
      by (Some z) e r s i = is (is_dead all c f || (has front z || has behind z)) s i
        where
          behind : List ℕ
          behind = aliases_in all c (f ∷ front) fs

          is : (d : Bool) → ((y : ℕ) → In y (cond d behind (f ∷ behind)) → In y (aliases_in all c [] all)) → In x (cond d behind (f ∷ behind)) → ⊥
          is true s i = r s x i
          is false s i = not_replaced f params b z a.0 e (s f (in_head f f behind refl))

  -- where none is replaced none only calls another
  abbrev NoEta : Functions → Type 0
  NoEta NoFunction = Unit {0}
  NoEta (Function f p params b fs) = (eta_of f params b ≡ None) × NoEta fs

  no_eta : (fs : Functions) → AllStay roles fs → ((x : ℕ) → In x (aliases_in all c [] fs) → ⊥) → NoEta fs
  no_eta NoFunction a n = tt
  no_eta (Function f p params b fs) a n = (this (eta_of f params b) n, no_eta fs a.1 (rest (eta_of f params b) n))
    where
      live : is_dead all c f ≡ false
      live = let k = reason all c f params b Stays a.0 in k.0

      some : (z : ℕ) → ((x : ℕ) → In x (if_alias all c (Some z) f [] (aliases_in all c (f ∷ []) fs)) → ⊥) → ⊥
      some z n = is (is_dead all c f) (has (aliases_in all c (f ∷ []) fs) z) live refl n
        where
          behind : List ℕ
          behind = aliases_in all c (f ∷ []) fs

          is : (d h : Bool) → d ≡ false → has behind z ≡ h → ((x : ℕ) → In x (cond (d || (false || h)) behind (f ∷ behind)) → ⊥) → ⊥
          is true h e g n = cc
          is false true e g n = n z g
          is false false e g n = n f (in_head f f behind refl)

      this : (o : Option ℕ) → ((x : ℕ) → In x (if_alias all c o f [] (aliases_in all c (with_eta o f []) fs)) → ⊥) → o ≡ None
      this None n = refl
      this (Some z) n = absurd (some z n)

      rest : (o : Option ℕ) → ((x : ℕ) → In x (if_alias all c o f [] (aliases_in all c (with_eta o f []) fs)) → ⊥) → (x : ℕ) → In x (aliases_in all c [] fs) → ⊥
      rest None n = n
      rest (Some z) n = absurd (some z n)

  etas_none : AllStay roles all → NoEta all
  etas_none a = no_eta all a (no_alias [] all a (λ y i. i))

  -- what is left in the bodies
  abbrev BodiesEnd : List (List ℕ) → Functions → Type 0
  BodiesEnd texts NoFunction = Unit {0}
  BodiesEnd texts (Function f p params b fs) = NoRedex texts nothing b × BodiesEnd texts fs

  no_redexes : (texts : List (List ℕ)) (fs : Functions) → AllStay roles fs → NoEta fs → BodiesEnd texts fs → NoRedexes texts all c fs
  no_redexes texts NoFunction a n h = tt
  no_redexes texts (Function f p params b fs) a n h = (this, h.0, no_redexes texts fs a.1 n.1 h.1)
    where
      this : NoRedexOf f params b all c
      this = record {
        used = λ z. let k = reason all c f params b Stays a.0 in let l : is_dead all c f ≡ true = eq-eqb _ _ z in let m = k.0 in cc;
        not_once = λ u v.
            let k = reason all c f params b Stays a.0 in
            let l : (nat_eq (uses_functions f all + uses f c) 1) ≡ true = eq-eqb _ _ u in
            let m : (nat_eq (calls_with f (length params) c) 1) ≡ true = eq-eqb _ _ v in
            let o = k.1 in
            cc;
        not_eta = λ e. let k = eta_found f params b e in let l = n.0 in let m = k.1 in cc;
      }

-- ---- The walk

-- what the bodies come to that calls put in
abbrev Costs : (ℕ → Option Inlined) → (ℕ → ℕ) → Type 0
Costs ι W = (f : ℕ) (i : Inlined) → ι f ≡ Some i → (bs : List Atom) (τ : ℕ → Option Made) → nodes (i.code bs τ) ≤ W f

costs_none : (ι : ℕ → Option Inlined) (W : ℕ → ℕ) (x : ℕ) → Costs ι W → Costs (bind ι x None) W
costs_none ι W x h f i e = ⊎_elim (λ (k : (f ≡ x) × (None ≡ Some i)). absurd (let z = k.1 in cc)) (λ (k : (f ≢ x) × (ι f ≡ Some i)). h f i k.1) (bind_cases ι x None f i e)

costs_free : Costs nothing free
costs_free f i e = absurd (cc)

module _ (texts : List (List ℕ)) where
  -- So many redexes went. Where there were none all is as it was, and there is none.
  record Ended (K : Known) (W : ℕ → ℕ) (c d : Code) : Type 0 where
    hits : ℕ
    less : nodes d + hits ≤ nodes c + owed W c
    same : hits ≡ 0 → Plain K.σ → (d ≡ c) × NoRedex texts K.τ c

  record EndedRules (K : Known) (W : ℕ → ℕ) (a : Atom) (rs ss : Rules) : Type 0 where
    hits : ℕ
    less : nodes_rules ss + hits ≤ nodes_rules rs + owed_rules W rs
    same : hits ≡ 0 → Plain K.σ → (ss ≡ rs) × NoRedexRules texts K.τ a rs

  record EndedFunctions (all : Functions) (c : Code) (σ : ℕ → Atom) (fs gs : Functions) : Type 0 where
    hits : ℕ
    less : nodes_functions gs + (hits + put_weigh (role_in all c) nodes fs) ≤ nodes_functions fs
    stay : hits ≡ 0 → AllStay (role_in all c) fs
    same : hits ≡ 0 → Plain σ → (gs ≡ fs) × BodiesEnd all c texts fs

  make_ended : (K : Known) (W : ℕ → ℕ) (x : ℕ) (shape : Shape) (us : List Atom) (c d e : Code) (u : Bool) → is_unused x c ≡ u → Ended K W c d → Ended (binding K x (known_as shape (atoms_in K.σ us))) W c e → Ended K W (Make x shape us c) (cond u d (Make x shape (atoms_in K.σ us) e))
  make_ended K W x shape us c d e true un f g = record { hits = suc f.hits; less = let h = f.less in omega arith; same = λ z p. absurd (omega arith) }
  make_ended K W x shape us c d e false un f g = record {
    hits = g.hits;
    less = let h = g.less in omega arith;
    same = λ z p.
        let k = g.same z (plain_bind K.σ x p) in
        let a = plain_atoms K.σ us p in (
          ap₂ (λ (bs : List Atom) (t : Code). Make x shape bs t) a k.0,
          (
            (λ n. let l : is_unused x c ≡ true = eq-eqb _ _ n in cc),
            subst (λ (bs : List Atom). NoRedex texts (bind K.τ x (known_as shape bs)) c) a k.1,
          ),
        );
  }

  no_field : (τ : ℕ → Option Made) (a : Atom) (i : ℕ) → known_field τ a i ≡ None → NoField τ a i
  no_field τ a i e z t b p q r s =
      let k : known_field τ a i ≡ Some b = then_some texts (block_of τ a) (field_of_tuple i) t (Some b) (ap (block_of τ) p ∙ q) (ap (λ f. if_tuple f (slice_get t.atoms i)) r ∙ s) in
      cc

  pick_ended : (K : Known) (W : ℕ → ℕ) (x i : ℕ) (b : Atom) (c d : Code) (r : Atom → Code) (e : Code) (u : Bool) (o : Option Atom) → is_unused x c ≡ u → known_field K.τ (atom_in K.σ b) i ≡ o → Ended K W c d → ((q : Atom) → Ended (replacing K x q) W c (r q)) → Ended (binding K x None) W c e → Ended K W (Pick x i b c) (cond u d (pick_left o r (Pick x i (atom_in K.σ b) e)))
  pick_ended K W x i b c d r e true o un field f h g = record { hits = suc f.hits; less = let k = f.less in omega arith; same = λ z p. absurd (omega arith) }
  pick_ended K W x i b c d r e false (Some q) un field f h g = let m = h q in record { hits = suc m.hits; less = let k = m.less in omega arith; same = λ z p. absurd (omega arith) }
  pick_ended K W x i b c d r e false None un field f h g = record {
    hits = g.hits;
    less = let k = g.less in omega arith;
    same = λ z p.
        let k = g.same z (plain_bind K.σ x p) in
        let a = plain_atom K.σ b p in
        (ap₂ (λ (m : Atom) (t : Code). Pick x i m t) a k.0, ((λ n. let l : is_unused x c ≡ true = eq-eqb _ _ n in cc), no_field K.τ b i (subst (λ m. known_field K.τ m i ≡ None) a field), k.1));
  }

  prim_ended : (K : Known) (W : ℕ → ℕ) (x : ℕ) (f : Primitive) (us : List Atom) (c d e : Code) (u : Bool) → (is_pure f && is_unused x c) ≡ u → Ended K W c d → Ended (binding K x None) W c e → Ended K W (Prim x f us c) (cond u d (Prim x f (atoms_in K.σ us) e))
  prim_ended K W x f us c d e true un m g = record { hits = suc m.hits; less = let h = m.less in omega arith; same = λ z p. absurd (omega arith) }
  prim_ended K W x f us c d e false un m g = record {
    hits = g.hits;
    less = let h = g.less in omega arith;
    same = λ z p.
        let k = g.same z (plain_bind K.σ x p) in (
          ap₂ (λ (bs : List Atom) (t : Code). Prim x f bs t) (plain_atoms K.σ us p) k.0,
          ((λ pure n. let l : is_unused x c ≡ true = eq-eqb _ _ n in cc), k.1),
        );
  }

  call_ended : (K : Known) (W : ℕ → ℕ) (b : Atom) (us : List Atom) → Costs K.ι W → Ended K W (Call b us) (call_left (inlined_of K.ι b) K.τ (atom_in K.σ b) (atoms_in K.σ us))
  call_ended K W b us costs = by b (inlined_of K.ι b) refl
    where
      stays : (b : Atom) → Ended K W (Call b us) (Call (atom_in K.σ b) (atoms_in K.σ us))
      stays b = record { hits = 0; less = omega arith; same = λ z p. (ap₂ (λ (a : Atom) (bs : List Atom). Call a bs) (plain_atom K.σ b p) (plain_atoms K.σ us p), tt {0}) }

      put : (f : ℕ) (i : Inlined) → K.ι f ≡ Some i → (o : Bool) → Ended K W (Call (atom.Var f) us) (cond o (i.code (atoms_in K.σ us) K.τ) (Call (K.σ f) (atoms_in K.σ us)))
      put f i e true = record { hits = 1; less = let h = costs f i e (atoms_in K.σ us) K.τ in omega arith; same = λ z p. absurd (omega arith) }
      put f i e false = stays (atom.Var f)

      by : (b : Atom) (o : Option Inlined) → inlined_of K.ι b ≡ o → Ended K W (Call b us) (call_left o K.τ (atom_in K.σ b) (atoms_in K.σ us))
      by b None e = stays b
      by (atom.Var f) (Some i) e = put f i e (nat_eq (length (atoms_in K.σ us)) (length i.params))
      by (atom.Constant k) (Some i) e = absurd (cc)

  match_ended : (K : Known) (W : ℕ → ℕ) (b : Atom) (rs ss : Rules) → EndedRules K W (atom_in K.σ b) rs ss → Ended K W (Match b rs) (match_left (atom_in K.σ b) ss)
  match_ended K W b rs (Otherwise d) r = record { hits = suc r.hits; less = let h = r.less in omega arith; same = λ z p. absurd (omega arith) }
  match_ended K W b rs (Rule ts d ss) r = record {
    hits = r.hits;
    less = let h = r.less in omega arith;
    same = λ z p.
        let k = r.same z p in
        let a = plain_atom K.σ b p in
        (ap₂ (λ (m : Atom) (qs : Rules). Match m qs) a k.0, subst (λ m. NoRedexRules texts K.τ m rs) a k.1);
  }

  rule_ended : (K : Known) (W : ℕ → ℕ) (b : Atom) (ts : List Test) (c d : Code) (rs ss : Rules) (o : Option (List Test)) → ((us : List Test) → o ≡ Some us → Tested texts K b ts us) → Ended K W c d → EndedRules K W b rs ss → EndedRules K W b (Rule ts c rs) (rule_left o d ss)
  rule_ended K W b ts c d rs ss None f m g = record { hits = suc g.hits; less = let h = g.less in omega arith; same = λ z p. absurd (omega arith) }
  rule_ended K W b ts c d rs ss (Some []) f m g = record { hits = suc m.hits; less = let h = m.less in omega arith; same = λ z p. absurd (omega arith) }
  rule_ended K W b ts c d rs ss (Some (u ∷ us)) f m g =
      let t = f (u ∷ us) refl in
      record {
        hits = t.hits + (m.hits + g.hits);
        less = let h = t.less in let k = m.less in let l = g.less in omega arith;
        same = λ z p.
            let h = t.same (omega arith) p in
            let k = m.same (omega arith) p in
            let l = g.same (omega arith) p in
            let e : Rule (u ∷ us) d ss ≡ Rule ts c rs = let x = h.0 in let y = k.0 in let w = l.0 in cc in
            (e, (h.1, k.1, l.1));
      }

  fix_ended : (K : Known) (W : ℕ → ℕ) (fs gs : Functions) (c d : Code) (ι : ℕ → Option Inlined) → (let σ = names_in (role_in fs c) fs K.σ in EndedFunctions fs c σ fs gs → Ended (record { σ = σ; τ = K.τ; ι = ι }) (put_costs (role_in fs c) nodes fs W) c d → Ended K W (Fix fs c) (fix_left gs d))
  fix_ended K W fs gs c d ι f g = by gs f
    where
      owes : owed (put_costs (role_in fs c) nodes fs W) c ≤ owed W c + put_weigh (role_in fs c) nodes fs
      owes = costs_owed (role_in fs c) nodes fs W c (called_once fs c fs)

      by : (hs : Functions) → EndedFunctions fs c (names_in (role_in fs c) fs K.σ) fs hs → Ended K W (Fix fs c) (fix_left hs d)
      by NoFunction f = record { hits = suc (f.hits + g.hits); less = let h = f.less in let k = g.less in let o = owes in omega arith; same = λ z p. absurd (omega arith) }
      by (Function x p params b hs) f = record {
        hits = f.hits + g.hits;
        less = let h = f.less in let k = g.less in let o = owes in omega arith;
        same = λ z p.
            let a = f.stay (omega arith) in
            let q = plain_names (role_in fs c) fs K.σ a p in
            let h = f.same (omega arith) q in
            let k = g.same (omega arith) q in
            (ap₂ (λ (ms : Functions) (t : Code). Fix ms t) h.0 k.0, (no_redexes fs c texts fs a (etas_none fs c a) h.1, k.1));
      }

  function_ended : (all : Functions) (c : Code) (σ : ℕ → Atom) (f : ℕ) (p : Point) (params : List ℕ) (b d : Code) (fs gs : Functions) → Ended (within σ params) free b d → EndedFunctions all c σ fs gs → EndedFunctions all c σ (Function f p params b fs) (function_left (role_in all c f params b) f p params d gs)
  function_ended all c σ f p params b d fs gs m g = by (role_in all c f params b) refl
    where
      by : (r : Role) → role_in all c f params b ≡ r → EndedFunctions all c σ (Function f p params b fs) (function_left r f p params d gs)
      by Stays e = record {
        hits = m.hits + g.hits;
        less = let h = m.less in let k = g.less in let o = owed_free b in let v : put_cost (role_in all c) nodes (role_in all c f params b) b ≡ 0 = ap (λ t. put_cost (role_in all c) nodes t b) e in omega arith;
        stay = λ z. (e, g.stay (omega arith));
        same = λ z q.
            let h = m.same (omega arith) (plain_params params σ q) in
            let k = g.same (omega arith) q in
            (ap₂ (λ (t : Code) (hs : Functions). Function f p params t hs) h.0 k.0, (h.1, k.1));
      }
      by Dropped e = record {
        hits = suc g.hits;
        less = let k = g.less in let v : put_cost (role_in all c) nodes (role_in all c f params b) b ≡ 0 = ap (λ t. put_cost (role_in all c) nodes t b) e in omega arith;
        stay = λ z. absurd (omega arith);
        same = λ z q. absurd (omega arith);
      }
      by (Replaced x) e = record {
        hits = suc g.hits;
        less = let k = g.less in let v : put_cost (role_in all c) nodes (role_in all c f params b) b ≡ 0 = ap (λ t. put_cost (role_in all c) nodes t b) e in omega arith;
        stay = λ z. absurd (omega arith);
        same = λ z q. absurd (omega arith);
      }
      by Placed e = record {
        hits = suc g.hits;
        less = let k = g.less in let v : put_cost (role_in all c) nodes (role_in all c f params b) b ≡ nodes b = ap (λ t. put_cost (role_in all c) nodes t b) e in omega arith;
        stay = λ z. absurd (omega arith);
        same = λ z q. absurd (omega arith);
      }

  placed_costs : (role : Roles) (r : Role) (f : ℕ) (params : List ℕ) (b : Code) (code : List Atom → (ℕ → Option Made) → Code) (ι : ℕ → Option Inlined) (W : ℕ → ℕ) → ((bs : List Atom) (τ : ℕ → Option Made) → nodes (code bs τ) ≤ nodes b) → Costs ι W → Costs (placed r f (record { params = params; code = code }) ι) (cost_step role nodes r f b W)
  placed_costs role Placed f params b code ι W less h = λ g i e bs τ. ⊎_elim
      (λ (k : (g ≡ f) × (Some here ≡ Some i)).
      let w = ap (bind W f (nodes b)) k.0 ∙ bind_same W f (nodes b) in
      let l : nodes (i.code bs τ) ≤ nodes b = some_eq (λ (t : Inlined). nodes (t.code bs τ) ≤ nodes b) here i k.1 (less bs τ) in
      omega arith)
      (λ (k : (g ≢ f) × (ι g ≡ Some i)). let w = bind_other W f (nodes b) g k.0 in let l = h g i k.1 bs τ in omega arith)
      (bind_cases ι f (Some here) g i e)
    where
      here : Inlined
      here = record { params = params; code = code }
  placed_costs role Stays f params b code ι W less h = costs_none ι W f h
  placed_costs role Dropped f params b code ι W less h = costs_none ι W f h
  placed_costs role (Replaced x) f params b code ι W less h = costs_none ι W f h

  mutual
    ended : (c : Code) (K : Known) (W : ℕ → ℕ) → Costs K.ι W → Ended K W c (walk texts K c)
    ended (Make x shape us c) K W h =
        make_ended K W x shape us c (walk texts K c) (walk texts (binding K x (known_as shape (atoms_in K.σ us))) c) (is_unused x c) refl (ended c K W h) (ended c (binding K x (known_as shape (atoms_in K.σ us))) W (costs_none K.ι W x h))
    ended (Pick x i b c) K W h =
        pick_ended K W x i b c (walk texts K c) (λ q. walk texts (replacing K x q) c) (walk texts (binding K x None) c) (is_unused x c) (known_field K.τ (atom_in K.σ b) i) refl refl (ended c K W h) (λ q. ended c (replacing K x q) W (costs_none K.ι W x h)) (ended c (binding K x None) W (costs_none K.ι W x h))
    ended (Prim x f us c) K W h =
        prim_ended K W x f us c (walk texts K c) (walk texts (binding K x None) c) (is_pure f && is_unused x c) refl (ended c K W h) (ended c (binding K x None) W (costs_none K.ι W x h))
    ended (Equal a b t k) K W h = record {
      hits = 0;
      less = omega arith;
      same = λ z p. let x = plain_atom K.σ a p in let y = plain_atom K.σ b p in let w = plain_atom K.σ k p in (cc, tt {0});
    }
    ended (Fix fs c) K W h =
        fix_ended K W fs (functions_walk texts (role_in fs c) (names_in (role_in fs c) fs K.σ) fs) c
        (walk texts (record { σ = names_in (role_in fs c) fs K.σ; τ = K.τ; ι = bodies_walk texts (role_in fs c) (names_in (role_in fs c) fs K.σ) fs K.ι }) c)
        (bodies_walk texts (role_in fs c) (names_in (role_in fs c) fs K.σ) fs K.ι)
        (functions_ended fs c (names_in (role_in fs c) fs K.σ) fs)
        (ended c (record { σ = names_in (role_in fs c) fs K.σ; τ = K.τ; ι = bodies_walk texts (role_in fs c) (names_in (role_in fs c) fs K.σ) fs K.ι }) (put_costs (role_in fs c) nodes fs W) (bodies_cost (role_in fs c) (names_in (role_in fs c) fs K.σ) fs K.ι W h))
    ended (Call b us) K W h = call_ended K W b us h
    ended (Match b rs) K W h = match_ended K W b rs (rules_walk texts K (atom_in K.σ b) rs) (rules_ended rs K W (atom_in K.σ b) h)
    ended (Handler x c) K W h =
        let g = ended c (binding K x None) W (costs_none K.ι W x h) in
        record {
          hits = g.hits;
          less = let l = g.less in omega arith;
          same = λ z p. let k = g.same z (plain_bind K.σ x p) in (ap (λ t. Handler x t) k.0, k.1);
        }
    ended (SetHandler b c) K W h =
        let g = ended c K W h in
        record {
          hits = g.hits;
          less = let l = g.less in omega arith;
          same = λ z p. let k = g.same z p in (ap₂ (λ (a : Atom) (t : Code). SetHandler a t) (plain_atom K.σ b p) k.0, k.1);
        }
    ended (Throw b) K W h = record { hits = 0; less = omega arith; same = λ z p. (ap (λ a. Throw a) (plain_atom K.σ b p), tt {0}) }
    ended Halt K W h = record { hits = 0; less = omega arith; same = λ z p. (refl, tt {0}) }

    functions_ended : (all : Functions) (c : Code) (σ : ℕ → Atom) (fs : Functions) → EndedFunctions all c σ fs (functions_walk texts (role_in all c) σ fs)
    functions_ended all c σ NoFunction = record { hits = 0; less = omega arith; stay = λ z. tt; same = λ z p. (refl, tt {0}) }
    functions_ended all c σ (Function f p params b fs) =
        function_ended all c σ f p params b (walk texts (within σ params) b) fs (functions_walk texts (role_in all c) σ fs) (ended b (within σ params) free costs_free) (functions_ended all c σ fs)

    bodies_cost : (role : Roles) (σ : ℕ → Atom) (fs : Functions) (ι : ℕ → Option Inlined) (W : ℕ → ℕ) → Costs ι W → Costs (bodies_walk texts role σ fs ι) (put_costs role nodes fs W)
    bodies_cost role σ NoFunction ι W h = h
    bodies_cost role σ (Function f p params b fs) ι W h =
        bodies_cost role σ fs (placed (role f params b) f (record { params = params; code = λ bs τ. walk texts (record { σ = with_arguments σ params bs; τ = τ; ι = nothing }) b }) ι) (cost_step role nodes (role f params b) f b W)
        (placed_costs role (role f params b) f params b (λ bs τ. walk texts (record { σ = with_arguments σ params bs; τ = τ; ι = nothing }) b) ι W
        (λ bs τ. let g = ended b (record { σ = with_arguments σ params bs; τ = τ; ι = nothing }) free costs_free in let l = g.less in let o = owed_free b in omega arith) h)

    rules_ended : (rs : Rules) (K : Known) (W : ℕ → ℕ) (b : Atom) → Costs K.ι W → EndedRules K W b rs (rules_walk texts K b rs)
    rules_ended (Otherwise c) K W b h =
        let g = ended c K W h in
        record { hits = g.hits; less = g.less; same = λ z p. let k = g.same z p in (ap (λ t. Otherwise t) k.0, k.1) }
    rules_ended (Rule ts c rs) K W b h =
        rule_ended K W b ts c (walk texts K c) rs (rules_walk texts K b rs) (tests_left texts K b ts) (λ us e. tested texts K b ts us e) (ended c K W h) (rules_ended rs K W b h)

-- ---- Rounds

mutual
  nodes_some : (c : Code) → 1 ≤ nodes c
  nodes_some (Make x shape us c) = omega arith
  nodes_some (Pick x i a c) = omega arith
  nodes_some (Prim x f us c) = omega arith
  nodes_some (Equal a b t k) = omega arith
  nodes_some (Fix fs c) = omega arith
  nodes_some (Call a us) = omega arith
  nodes_some (Match a rs) = omega arith
  nodes_some (Handler x c) = omega arith
  nodes_some (SetHandler a c) = omega arith
  nodes_some (Throw a) = omega arith
  nodes_some Halt = omega arith

pub rounds_end : RoundsEnd
rounds_end texts c =
    let e = ended texts c outset free costs_free in
    let l = e.less in
    let o = owed_free c in
    ((omega arith), (λ q. e.same (omega arith) (λ x. refl)))

ends : (texts : List (List ℕ)) (n : ℕ) (c : Code) → nodes c ≤ n → HasNoRedex texts (definition.rounds texts n c)
ends texts zero c l = let k = nodes_some c in absurd (omega arith)
ends texts (suc n) c l = by (nat_lt (nodes (round texts c)) (nodes c)) refl (ends texts n (round texts c))
  where
    r : (nodes (round texts c) ≤ nodes c) × (nodes (round texts c) ≡ nodes c → (round texts c ≡ c) × HasNoRedex texts c)
    r = rounds_end texts c

    by : (a : Bool) → nat_lt (nodes (round texts c)) (nodes c) ≡ a → (nodes (round texts c) ≤ n → HasNoRedex texts (definition.rounds texts n (round texts c))) → HasNoRedex texts (cond a (definition.rounds texts n (round texts c)) (round texts c))
    by true e h = let k = ltb-true _ _ e in h (omega arith)
    by false e h =
        let k = ltb-false _ _ e in
        let m = r.0 in
        let s = r.1 (omega arith) in
        subst (λ t. HasNoRedex texts t) (sym s.0) s.1

pub nothing_is_left : NothingIsLeft
nothing_is_left texts c = ends texts (nodes c) c (omega arith)
