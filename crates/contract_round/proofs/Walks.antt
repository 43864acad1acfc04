-- A walk is a round.
use Rattle.std.proofs.Common.{◌≡◌, ◌≢◌, ℕ, suc, ◌+◌, ◌≤◌, List, [], ◌∷◌, length, Option, Some, None, Bool, true, false, cond, ◌&&◌, refl, sym, ap, ◌∙◌, subst, arith, ⊎_elim, eqb-true, eq-eqb, nat_eq}
use Rattle.smlc_base.specs.declared.point.Point.{Point}
use Rattle.simulation.specs.Blocks.{IsAmong}
use Rattle.simulation.proofs.Lists.{some_eq, both_true}
use Rattle.sml_tree.specs.Sets.{union, without}
use Rattle.cps_ir.specs.declared.atom.Atom.{Atom}
use Rattle.cps_ir.specs.declared.atom.Atom.TheVariants as atom
use Rattle.cps_ir.specs.declared.atom.Test.{Test}
use Rattle.cps_ir.specs.declared.atom.Shape.{Shape}
use Rattle.smlc_base.specs.declared.primitive.Primitive.{Primitive}
use Rattle.cps_ir.specs.Code.{Code, Make, Pick, Prim, Equal, Fix, Call, Match, Handler, SetHandler, Throw, Halt, Functions, NoFunction, Function, Rules, Otherwise, Rule, names_of}
use Rattle.cps_ir.specs.Free.{vars, vars_all, vars_tests, free_code, free_functions, free_rules}
use Rattle.cps_ir.specs.State.{bind}
use Rattle.contract_laws.specs.Contract.{Made, Body, Scope, scope, nothing, AtomAt, AtomsAt, Fresh, AllFresh, kept, lost, known_as, inner, with_params, given_atoms, AsMany, is_pure, Contracts, inline, group, group_gone, SomeContract, some_none, some_both, some_skip}
use Rattle.contract_laws.specs.Redex.{uses, uses_others, uses_rules, calls_with, calls_with_in, applied_to}
use Rattle.contract_laws.specs.Weigh.{Scale, weigh, names_weigh, weigh_functions, weigh_rules, of_name}
use Rattle.contract_laws.proofs.Linear.{owed_free}
use Rattle.contract_laws.proofs.Relation.{bind_same, bind_other}
use Rattle.contract_laws.proofs.Free.{In, in_left, in_right, in_without, in_one, one_in, bind_cases}
use Rattle.contract_round.specs.Round.{Inlined, Known, known, binding, replacing, within, with_arguments, atom_in, atoms_in, known_field, tests_left, is_unused, Role, Dropped, Replaced, Placed, Stays, Roles, role_in, names_stay, placed, function_left, fix_left, call_left, inlined_of, match_left, rule_left, pick_left, walk, functions_walk, bodies_walk, rules_walk}
use Rattle.contract_round.proofs.Facts.{own_same, in_uses, in_uses_atom, in_uses_atoms, in_uses_tests, with_less, with_less_rules, applied_less, fresh_of, all_fresh, params_weigh}
use Rattle.contract_round.proofs.Walked.{Gone, nobody, both, Hidden, gone_weigh, Fine, Walked, WalkedRules, above, make_walked, pick_walked, prim_walked, equal_walked, call_walked, throw_walked, halt_walked, handler_walked, set_walked, no_make_walked, no_pick_walked, no_prim_walked, known_walked, match_walked, otherwise_walked, rule_walked}
use Rattle.contract_round.proofs.Agrees.{Agrees, IsInlined, nobody_pays, direct, narrow, bound, put_for, unused, atom_at, atoms_at, Blocks, field_at, tests_stay, tests_fail}
use Rattle.contract_round.proofs.Group.{Same, params_at, given_at, stay_name, stay_block, stay_new, some_scope, stay_ι, ι_other, stay_blocks, stay_weigh, alias_scope, alias_ι_other, IsTarget, hides, hidden, Parted, aliases, body_name, body_code, body_scope, bodies, body_keeps, put_cost, put_weigh, cost_step, put_costs, costs_owed}
use Rattle.contract_round.proofs.Roles.{Distinct, reason, etas, placed_uses, called_once}
use Rattle.contract_round.proofs.Names.{NoEq, NoEqIn, NoEqRules, inside_weigh, functions_weigh, parted, replacing_scope, placing_scope, names_map, target_same, inside_same, behind_same}

-- ---- Functions that are bound together

module _ (texts : List (List ℕ)) (role : Roles) where
  -- those that stay, as functions of the answer
  pub record WalkedSome (Z S : Scope) (fs gs : Functions) (U : Scope) : Type 0 where
    pub gone : Gone
    pub fine : Fine gone
    pub weighs : (s : Scale) → weigh_functions s gs + (gone_weigh s gone + (gone_weigh s (hidden role fs) + put_weigh role (weigh s) fs)) ≤ weigh_functions s fs
    pub stands : (L : List Point) → Hidden L gone → SomeContract texts L Z S fs gs U

abbrev stay_scope : Roles → Role → ℕ → Scope → Scope
stay_scope role r f S = scope (stay_name role r f S.σ) (stay_block role r f S.τ) (bind S.ι f None) (stay_new role r f S.ns)

-- what a function that stays needs
record Kept (texts : List (List ℕ)) (Z S : Scope) (f : ℕ) (params : List ℕ) (b d : Code) : Type 0 where
  fresh : Fresh f S.ns
  parted : AllFresh params Z.ns
  walked : Walked texts (inner Z params) nobody_pays b d

module _ {texts : List (List ℕ)} {role : Roles} {Z S U : Scope} where
  some_step : (f : ℕ) (p : Point) (params : List ℕ) (b d : Code) (fs gs : Functions) → (role f params b ≡ Stays → Kept texts Z S f params b d) → WalkedSome texts role Z (stay_scope role (role f params b) f S) fs gs U → WalkedSome texts role Z S (Function f p params b fs) (function_left (role f params b) f p params d gs) U
  some_step f p params b d fs gs kept_ r = by (role f params b) refl kept_ r.gone r.fine r.weighs r.stands
    where
      by : (o : Role) → role f params b ≡ o → (o ≡ Stays → Kept texts Z S f params b d) → (g : Gone) → Fine g → ((s : Scale) → weigh_functions s gs + (gone_weigh s g + (gone_weigh s (hidden role fs) + put_weigh role (weigh s) fs)) ≤ weigh_functions s fs) → ((L : List Point) → Hidden L g → SomeContract texts L Z (stay_scope role o f S) fs gs U) → WalkedSome texts role Z S (Function f p params b fs) (function_left o f p params d gs) U
      by Stays e k g fine weighs stands =
          let m = k refl in
          record {
            gone = both m.walked.gone g;
            fine = (m.walked.fine, fine);
            weighs = λ s.
                let h = weighs s in
                let i = m.walked.weighs s in
                let j = owed_free b in
                let u : gone_weigh s (hides role (role f params b) p) ≡ 0 = ap (λ t. gone_weigh s (hides role t p)) e in
                let v : put_cost role (weigh s) (role f params b) b ≡ 0 = ap (λ t. put_cost role (weigh s) t b) e in
                omega arith;
            stands = λ L h. some_both m.walked.least Z S U f p params b d fs gs m.fresh m.parted (m.walked.stands L h.0 m.walked.least (omega arith)) (stands L h.1);
          }
      by Dropped e k g fine weighs stands = record {
        gone = g;
        fine = fine;
        weighs = λ s.
            let h = weighs s in
            let u : gone_weigh s (hides role (role f params b) p) ≡ 0 = ap (λ t. gone_weigh s (hides role t p)) e in
            let v : put_cost role (weigh s) (role f params b) b ≡ 0 = ap (λ t. put_cost role (weigh s) t b) e in
            omega arith;
        stands = λ L h. some_skip Z S U f p params b fs gs (stands L h);
      }
      by (Replaced x) e k g fine weighs stands = record {
        gone = g;
        fine = fine;
        weighs = λ s.
            let h = weighs s in
            let u : gone_weigh s (hides role (role f params b) p) ≡ s.point p = ap (λ t. gone_weigh s (hides role t p)) e in
            let v : put_cost role (weigh s) (role f params b) b ≡ 0 = ap (λ t. put_cost role (weigh s) t b) e in
            omega arith;
        stands = λ L h. some_skip Z S U f p params b fs gs (stands L h);
      }
      by Placed e k g fine weighs stands = record {
        gone = g;
        fine = fine;
        weighs = λ s.
            let h = weighs s in
            let u : gone_weigh s (hides role (role f params b) p) ≡ s.point p = ap (λ t. gone_weigh s (hides role t p)) e in
            let v : put_cost role (weigh s) (role f params b) b ≡ weigh s b = ap (λ t. put_cost role (weigh s) t b) e in
            omega arith;
        stands = λ L h. some_skip Z S U f p params b fs gs (stands L h);
      }

fine_hidden : (role : Roles) (fs : Functions) → NoEqIn fs → Fine (hidden role fs)
fine_hidden role NoFunction n = tt
fine_hidden role (Function f p params b fs) n = (by (role f params b), fine_hidden role fs n.2)
  where
    by : (r : Role) → Fine (hides role r p)
    by Stays = tt
    by Dropped = tt
    by (Replaced x) = n.0
    by Placed = n.0

module _ {texts : List (List ℕ)} {S : Scope} {W : Scale → ℕ → ℕ} where
  fix_walked : (fs gs : Functions) (c d : Code) (K : Known) → (let role = role_in fs c in let U = some_scope role fs S in let Y = alias_scope role fs (names_stay role fs K.σ) U in let Z = body_scope role Y.σ fs Y in AllFresh (names_of fs) [] → NoEqIn fs → Parted role fs → ((x : ℕ) → IsTarget role fs x → Same U.σ (names_stay role fs K.σ) x) → WalkedSome texts role Z S fs gs U → Walked texts Z (λ s. put_costs role (weigh s) fs (W s)) c d → Walked texts S W (Fix fs c) (fix_left gs d))
  fix_walked fs gs c d K fresh noeq part targets r q = by gs r
    where
      role : Roles
      role = role_in fs c

      U : Scope
      U = some_scope role fs S

      Y : Scope
      Y = alias_scope role fs (names_stay role fs K.σ) U

      Z : Scope
      Z = body_scope role Y.σ fs Y

      by : (hs : Functions) → WalkedSome texts role Z S fs hs U → Walked texts S W (Fix fs c) (fix_left hs d)
      by NoFunction r = record {
        gone = both (hidden role fs) (both r.gone q.gone);
        fine = (fine_hidden role fs noeq, (r.fine, q.fine));
        least = suc q.least;
        weighs = λ s. let h = r.weighs s in let k = q.weighs s in let o = costs_owed role (weigh s) fs (W s) c (called_once fs c fs) in omega arith;
        stands = λ L h w. above (λ v. Contracts texts L v S (Fix fs c) d) q.least w (λ v l. group_gone v S U Y Z fs c d fresh (r.stands L h.1.0) (aliases role (etas fs c) L fs (names_stay role fs K.σ) U part h.0 targets) (bodies role L Y.σ fs Y h.0) (q.stands L h.1.1 v l));
      }
      by (Function f p params b hs) r = record {
        gone = both (hidden role fs) (both r.gone q.gone);
        fine = (fine_hidden role fs noeq, (r.fine, q.fine));
        least = suc q.least;
        weighs = λ s. let h = r.weighs s in let k = q.weighs s in let o = costs_owed role (weigh s) fs (W s) c (called_once fs c fs) in omega arith;
        stands = λ L h w. above (λ v. Contracts texts L v S (Fix fs c) (Fix (Function f p params b hs) d)) q.least w (λ v l. group v S U Y Z fs (Function f p params b hs) c d fresh (r.stands L h.1.0) (aliases role (etas fs c) L fs (names_stay role fs K.σ) U part h.0 targets) (bodies role L Y.σ fs Y h.0) (q.stands L h.1.1 v l));
      }

-- ---- Bodies that are put where they are called

abbrev inlined : List ℕ → (List Atom → (ℕ → Option Made) → Code) → Inlined
inlined params code = record { params = params; code = code }

abbrev body_of : List ℕ → Code → (ℕ → Option Atom) → Body
body_of params b σ = record { params = params; code = b; σ = σ }

-- each that is put in is known in both
abbrev Puts : List (List ℕ) → (ℕ → Option Inlined) → Scope → (Scale → ℕ → ℕ) → Code → List ℕ → Type 0
Puts texts ι S W c names = (g : ℕ) (i : Inlined) → (IsAmong g names → ⊥) → 1 ≤ uses g c → ι g ≡ Some i → IsInlined texts S W g i (uses g c) (λ n. calls_with g n c) (λ x. weigh (of_name x) c)

-- a body as a part of a round wherever it is put
abbrev Anywhere : List (List ℕ) → (ℕ → Option Atom) → List ℕ → Code → Inlined → Type 0
Anywhere texts σ params b i = (bs : List Atom) (τ T : ℕ → Option Made) (ns : List ℕ) → length bs ≡ length params → Blocks τ T ns → ((x : ℕ) → weigh (of_name x) b + names_weigh (of_name x) ns ≤ 1) → Walked texts (scope (given_atoms σ params bs) T nothing ns) nobody_pays b (i.code bs τ)

module _ {texts : List (List ℕ)} (all : Functions) (c : Code) {W : Scale → ℕ → ℕ} where
  puts_step : (σ : ℕ → Option Atom) (S : Scope) (ι : ℕ → Option Inlined) (f : ℕ) (params : List ℕ) (b : Code) (code : List Atom → (ℕ → Option Made) → Code) (names : List ℕ) → (let role = role_in all c in let i = inlined params code in (role f params b ≡ Placed → Anywhere texts σ params b i) → ((x : ℕ) → weigh (of_name x) b + (weigh (of_name x) c + names_weigh (of_name x) S.ns) ≤ 1) → Puts texts ι S W c (f ∷ names) → Puts texts (placed (role f params b) f i ι) (scope (body_name role (role f params b) f S.σ) S.τ (body_code role (role f params b) f (body_of params b σ) S.ι) S.ns) (λ s. cost_step role (weigh s) (role f params b) f b (W s)) c names)
  puts_step σ S ι f params b code names anywhere apart h = by (role f params b) refl
    where
      role : Roles
      role = role_in all c

      i : Inlined
      i = inlined params code

      body : Body
      body = body_of params b σ

      other : (g : ℕ) (j : Inlined) → g ≢ f → (IsAmong g names → ⊥) → 1 ≤ uses g c → ι g ≡ Some j → IsInlined texts S W g j (uses g c) (λ n. calls_with g n c) (λ x. weigh (of_name x) c)
      other g j n m u e = h g j (λ k. ⊎_elim (λ (q : g ≡ f). n q) (λ (q : IsAmong g names). m q) k) u e

      none : (T : Scope) (V : Scale → ℕ → ℕ) → T ≡ S → V ≡ W → Puts texts (bind ι f None) T V c names
      none T V p q = subst (λ t. Puts texts (bind ι f None) t V c names) (sym p) (subst (λ t. Puts texts (bind ι f None) S t c names) (sym q)
          (λ g j n u e. ⊎_elim (λ (k : (g ≡ f) × (None ≡ Some j)). absurd (let z = k.1 in cc)) (λ (k : (g ≢ f) × (ι g ≡ Some j)). other g j k.0 n u k.1) (bind_cases ι f None g j e)))

      new : role f params b ≡ Placed → IsInlined texts (scope (bind S.σ f (S.σ f)) S.τ (bind S.ι f (Some body)) S.ns) (λ s. bind (W s) f (weigh s b)) f i (uses f c) (λ n. calls_with f n c) (λ x. weigh (of_name x) c)
      new e =
          let u = placed_uses all c f params b e in
          let v = u.1 in
          let z = u.2 in
          record {
            body = body;
            is = bind_same S.ι f (Some body);
            params = refl;
            called = omega arith;
            pays = λ s. let k = bind_same (W s) f (weigh s b) in omega arith;
            apart = apart;
            walks = anywhere e;
          }

      by : (r : Role) → role f params b ≡ r → Puts texts (placed r f i ι) (scope (body_name role r f S.σ) S.τ (body_code role r f body S.ι) S.ns) (λ s. cost_step role (weigh s) r f b (W s)) c names
      by Placed e = λ g j n u k. ⊎_elim
          (λ (q : (g ≡ f) × (Some i ≡ Some j)). subst (λ y. IsInlined texts (scope (bind S.σ f (S.σ f)) S.τ (bind S.ι f (Some body)) S.ns) (λ s. bind (W s) f (weigh s b)) y j (uses y c) (λ n. calls_with y n c) (λ x. weigh (of_name x) c)) (sym q.0)
          (some_eq (λ t. IsInlined texts (scope (bind S.σ f (S.σ f)) S.τ (bind S.ι f (Some body)) S.ns) (λ s. bind (W s) f (weigh s b)) f t (uses f c) (λ n. calls_with f n c) (λ x. weigh (of_name x) c)) i j q.1 (new e)))
          (λ (q : (g ≢ f) × (ι g ≡ Some j)).
          let o = other g j q.0 n u q.1 in
          record {
            body = o.body;
            is = bind_other S.ι f (Some body) g q.0 ∙ o.is;
            params = o.params;
            called = o.called;
            pays = λ s. let w = bind_other (W s) f (weigh s b) g q.0 in let z = o.pays s in omega arith;
            apart = o.apart;
            walks = o.walks;
          })
          (bind_cases ι f (Some i) g j k)
      by Stays e = none S W refl refl
      by Dropped e = none S W refl refl
      by (Replaced x) e = none S W refl refl

-- ---- Calls

length_in : (σ : ℕ → Atom) (us : List Atom) → length (atoms_in σ us) ≡ length us
length_in σ [] = refl
length_in σ (u ∷ us) = let h = length_in σ us in omega arith

as_many : (xs : List ℕ) (bs : List Atom) → length bs ≡ length xs → AsMany xs bs
as_many [] [] e = tt
as_many [] (b ∷ bs) e = absurd (omega arith)
as_many (x ∷ xs) [] e = absurd (omega arith)
as_many (x ∷ xs) (b ∷ bs) e = as_many xs bs (omega arith)

applied_is : (f n : ℕ) (us : List Atom) → 1 ≤ applied_to f n (atom.Var f) us → nat_eq (length us) n ≡ true
applied_is f n us h = by (nat_eq f f) (nat_eq (length us) n) refl h
  where
    by : (a b : Bool) → nat_eq (length us) n ≡ b → 1 ≤ cond (a && b) 1 0 → nat_eq (length us) n ≡ true
    by true true e h = e
    by true false e h = absurd (omega arith)
    by false b e h = absurd (omega arith)

module _ {texts : List (List ℕ)} (K : Known) {S : Scope} {W : Scale → ℕ → ℕ} where
  -- a call that is replaced by the body
  inline_walked : (f : ℕ) (us : List Atom) (i : Inlined) → IsInlined texts S W f i (uses f (Call (atom.Var f) us)) (λ n. calls_with f n (Call (atom.Var f) us)) (λ x. 0) → Blocks K.τ S.τ S.ns → AtomsAt S.σ us (atoms_in K.σ us) → Walked texts S W (Call (atom.Var f) us) (call_left (Some i) K.τ (K.σ f) (atoms_in K.σ us))
  inline_walked f us i r blocks at = subst (λ t. Walked texts S W (Call (atom.Var f) us) (cond t (i.code (atoms_in K.σ us) K.τ) (Call (K.σ f) (atoms_in K.σ us)))) (sym same) this
    where
      many : nat_eq (length us) (length i.params) ≡ true
      many = let o = own_same f f refl in let k = r.called in applied_is f (length i.params) us (omega arith)

      len : length (atoms_in K.σ us) ≡ length i.params
      len = length_in K.σ us ∙ eqb-true _ _ many

      same : nat_eq (length (atoms_in K.σ us)) (length i.params) ≡ true
      same = eq-eqb _ _ len

      inside : Walked texts (scope (given_atoms r.body.σ r.body.params (atoms_in K.σ us)) S.τ nothing S.ns) nobody_pays r.body.code (i.code (atoms_in K.σ us) K.τ)
      inside = r.walks (atoms_in K.σ us) K.τ S.τ S.ns len blocks (λ x. let k = r.apart x in omega arith)

      this : Walked texts S W (Call (atom.Var f) us) (i.code (atoms_in K.σ us) K.τ)
      this = record {
        gone = inside.gone;
        fine = inside.fine;
        least = suc (suc inside.least);
        weighs = λ s. let h = inside.weighs s in let k = r.pays s in let o = owed_free r.body.code in omega arith;
        stands = λ L h w. above (λ v. Contracts texts L v S (Call (atom.Var f) us) (i.code (atoms_in K.σ us) K.τ)) (suc inside.least) w
            (λ v. above (λ v. Contracts texts L (suc v) S (Call (atom.Var f) us) (i.code (atoms_in K.σ us) K.τ)) inside.least v
            (λ u l. inline u S f r.body us (atoms_in K.σ us) (i.code (atoms_in K.σ us) K.τ) r.is at (as_many r.body.params (atoms_in K.σ us) (len ∙ ap length (sym r.params))) (inside.stands L h u l)));
      }

-- ---- The walk

-- what a part binds, and what the answer has bound
abbrev Once : (ℕ → ℕ) → List ℕ → Type 0
Once v ns = (x : ℕ) → v x + names_weigh (of_name x) ns ≤ 1

-- what is known of a part
abbrev pub Knows : List (List ℕ) → Known → Scope → (Scale → ℕ → ℕ) → Code → Type 0
Knows texts K S W c = Agrees texts K S W (free_code c) (λ f. uses f c) (λ f n. calls_with f n c) (λ x. weigh (of_name x) c)

abbrev KnowsRules : List (List ℕ) → Known → Scope → (Scale → ℕ → ℕ) → Rules → Type 0
KnowsRules texts K S W rs = Agrees texts K S W (free_rules rs) (λ f. uses_rules f rs) (λ f n. calls_with_in f n rs) (λ x. weigh_rules (of_name x) rs)

-- no name is used twice for what is bound in front of another part
free_under : (x y : ℕ) (xs fc : List ℕ) → In y fc → y ≢ x → In y (union xs (without fc (x ∷ [])))
free_under x y xs fc i n = in_right y xs (without fc (x ∷ [])) (in_without y fc (x ∷ []) (λ j. n (in_one y x j)) i)

used_other : (x y : ℕ) (c : Code) → is_unused x c ≡ true → 1 ≤ uses y c → y ≢ x
used_other x y c e u q = let k : uses x c ≡ 0 = eqb-true _ _ e in let l : 1 ≤ uses x c = subst (λ z. 1 ≤ uses z c) q u in absurd (omega arith)

module _ {texts : List (List ℕ)} {K : Known} {S : Scope} {W : Scale → ℕ → ℕ} where
  make_by : (x : ℕ) (shape : Shape) (us : List Atom) (c d e : Code) (u : Bool) → (let t = known_as shape (atoms_in K.σ us) in Knows texts K S W (Make x shape us c) → Once (λ y. weigh (of_name y) (Make x shape us c)) S.ns → is_unused x c ≡ u → (Knows texts K (lost S x None None) W c → Walked texts (lost S x None None) W c d) → (Knows texts (binding K x t) (kept S x t) W c → Walked texts (kept S x t) W c e) → Walked texts S W (Make x shape us c) (cond u d (Make x shape (atoms_in K.σ us) e)))
  make_by x shape us c d e true a once un f g =
      no_make_walked x shape us c d (f (unused x a (λ y i. used_other x y c un (in_uses y c i)) (λ y i. used_other x y c un i) (λ y i n. free_under x y (vars_all us) (free_code c) i n) (λ y. omega arith) (λ y n h. omega arith) (λ y. omega arith)))
  make_by x shape us c d e false a once un f g =
      make_walked x shape us (atoms_in K.σ us) c e
      (atoms_at S.σ K.σ us (λ y i. let m = in_uses_atoms y us i in direct a y (in_left y (vars_all us) (without (free_code c) (x ∷ [])) i) (λ n. let l = with_less y n c in omega arith)))
      (let k = once x in let o = own_same x x refl in fresh_of x S.ns (omega arith))
      (g (bound x (known_as shape (atoms_in K.σ us)) a (λ y i n. free_under x y (vars_all us) (free_code c) i n) (λ y. omega arith) (λ y n h. omega arith) (λ y. omega arith)))

  pick_by : (x i : ℕ) (b : Atom) (c d : Code) (r : Atom → Code) (e : Code) (u : Bool) (o : Option Atom) → Knows texts K S W (Pick x i b c) → Once (λ y. weigh (of_name y) (Pick x i b c)) S.ns → is_unused x c ≡ u → known_field K.τ (atom_in K.σ b) i ≡ o → (Knows texts K (lost S x None None) W c → Walked texts (lost S x None None) W c d) → ((q : Atom) → Knows texts (replacing K x q) (lost S x (Some q) None) W c → Walked texts (lost S x (Some q) None) W c (r q)) → (Knows texts (binding K x None) (kept S x None) W c → Walked texts (kept S x None) W c e) → Walked texts S W (Pick x i b c) (cond u d (pick_left o r (Pick x i (atom_in K.σ b) e)))
  pick_by x i b c d r e true o a once un field f h g =
      no_pick_walked x i b c d (f (unused x a (λ y j. used_other x y c un (in_uses y c j)) (λ y j. used_other x y c un j) (λ y j n. free_under x y (vars b) (free_code c) j n) (λ y. omega arith) (λ y n k. omega arith) (λ y. omega arith)))
  pick_by x i b c d r e false None a once un field f h g =
      pick_walked x i b (atom_in K.σ b) c e
      (atom_at S.σ K.σ b (λ y j. let m = in_uses_atom y b j in direct a y (in_left y (vars b) (without (free_code c) (x ∷ [])) j) (λ n. let l = with_less y n c in omega arith)))
      (let k = once x in let o = own_same x x refl in fresh_of x S.ns (omega arith))
      (g (bound x None a (λ y j n. free_under x y (vars b) (free_code c) j n) (λ y. omega arith) (λ y n k. omega arith) (λ y. omega arith)))
  pick_by x i b c d r e false (Some q) a once un field f h g =
      let w = field_at texts K S.τ S.ns a.blocks (atom_in K.σ b) i q field in
      let at = atom_at S.σ K.σ b (λ y j. let m = in_uses_atom y b j in direct a y (in_left y (vars b) (without (free_code c) (x ∷ [])) j) (λ n. let l = with_less y n c in omega arith)) in
      known_walked x i w.0 b q w.1 c (r q) (subst (λ t. AtomAt S.σ b t) w.2 at) w.3 w.4
      (h q (put_for x q a (λ y j n. free_under x y (vars b) (free_code c) j n) (λ y. omega arith) (λ y n k. omega arith) (λ y. omega arith)))

  prim_by : (x : ℕ) (p : Primitive) (us : List Atom) (c d e : Code) (u : Bool) → Knows texts K S W (Prim x p us c) → Once (λ y. weigh (of_name y) (Prim x p us c)) S.ns → (is_pure p && is_unused x c) ≡ u → (Knows texts K (lost S x None None) W c → Walked texts (lost S x None None) W c d) → (Knows texts (binding K x None) (kept S x None) W c → Walked texts (kept S x None) W c e) → Walked texts S W (Prim x p us c) (cond u d (Prim x p (atoms_in K.σ us) e))
  prim_by x p us c d e true a once un f g =
      let k = both_true (is_pure p) (is_unused x c) un in
      no_prim_walked x p us c d k.0 (f (unused x a (λ y i. used_other x y c k.1 (in_uses y c i)) (λ y i. used_other x y c k.1 i) (λ y i n. free_under x y (vars_all us) (free_code c) i n) (λ y. omega arith) (λ y n h. omega arith) (λ y. omega arith)))
  prim_by x p us c d e false a once un f g =
      prim_walked x p us (atoms_in K.σ us) c e
      (atoms_at S.σ K.σ us (λ y i. let m = in_uses_atoms y us i in direct a y (in_left y (vars_all us) (without (free_code c) (x ∷ [])) i) (λ n. let l = with_less y n c in omega arith)))
      (let k = once x in let o = own_same x x refl in fresh_of x S.ns (omega arith))
      (g (bound x None a (λ y i n. free_under x y (vars_all us) (free_code c) i n) (λ y. omega arith) (λ y n h. omega arith) (λ y. omega arith)))

  equal_by : (b d k : Atom) (t : Bool) → Knows texts K S W (Equal b d t k) → Walked texts S W (Equal b d t k) (Equal (atom_in K.σ b) (atom_in K.σ d) t (atom_in K.σ k))
  equal_by b d k t a =
      let all = atoms_at S.σ K.σ (b ∷ d ∷ k ∷ []) (λ y i. let m = in_uses_atoms y (b ∷ d ∷ k ∷ []) i in direct a y i (λ n. omega arith)) in
      equal_walked b (atom_in K.σ b) d (atom_in K.σ d) k (atom_in K.σ k) t all.0 all.1.0 all.1.1.0

  call_by : (b : Atom) (us : List Atom) → Knows texts K S W (Call b us) → Walked texts S W (Call b us) (call_left (inlined_of K.ι b) K.τ (atom_in K.σ b) (atoms_in K.σ us))
  call_by b us a = by b a
    where
      arguments : (b : Atom) → Knows texts K S W (Call b us) → AtomsAt S.σ us (atoms_in K.σ us)
      arguments b a = atoms_at S.σ K.σ us (λ y i. let m = in_uses_atoms y us i in direct a y (in_right y (vars b) (vars_all us) i) (λ n. let l = applied_less y n b us in omega arith))

      of : (f : ℕ) (o : Option Inlined) → K.ι f ≡ o → Knows texts K S W (Call (atom.Var f) us) → Walked texts S W (Call (atom.Var f) us) (call_left o K.τ (K.σ f) (atoms_in K.σ us))
      of f None e a = call_walked (atom.Var f) (K.σ f) us (atoms_in K.σ us) (a.names f (in_left f (f ∷ []) (vars_all us) (one_in f f refl)) e) (arguments (atom.Var f) a)
      of f (Some i) e a =
          let o = own_same f f refl in
          inline_walked K f us i (a.bodies f i (omega arith) e) a.blocks (arguments (atom.Var f) a)

      by : (b : Atom) → Knows texts K S W (Call b us) → Walked texts S W (Call b us) (call_left (inlined_of K.ι b) K.τ (atom_in K.σ b) (atoms_in K.σ us))
      by (atom.Var f) a = of f (K.ι f) refl a
      by (atom.Constant v) a = call_walked (atom.Constant v) (atom.Constant v) us (atoms_in K.σ us) refl (arguments (atom.Constant v) a)

  throw_by : (b : Atom) → Knows texts K S W (Throw b) → Walked texts S W (Throw b) (Throw (atom_in K.σ b))
  throw_by b a = throw_walked b (atom_in K.σ b) (atom_at S.σ K.σ b (λ y i. let m = in_uses_atom y b i in direct a y i (λ n. omega arith)))

  handler_by : (x : ℕ) (c d : Code) → Knows texts K S W (Handler x c) → Once (λ y. weigh (of_name y) (Handler x c)) S.ns → (Knows texts (binding K x None) (kept S x None) W c → Walked texts (kept S x None) W c d) → Walked texts S W (Handler x c) (Handler x d)
  handler_by x c d a once g =
      handler_walked x c d (let k = once x in let o = own_same x x refl in fresh_of x S.ns (omega arith))
      (g (bound x None a (λ y i n. in_without y (free_code c) (x ∷ []) (λ j. n (in_one y x j)) i) (λ y. omega arith) (λ y n h. omega arith) (λ y. omega arith)))

  set_by : (b : Atom) (c d : Code) → Knows texts K S W (SetHandler b c) → (Knows texts K S W c → Walked texts S W c d) → Walked texts S W (SetHandler b c) (SetHandler (atom_in K.σ b) d)
  set_by b c d a g =
      set_walked b (atom_in K.σ b) c d
      (atom_at S.σ K.σ b (λ y i. let m = in_uses_atom y b i in direct a y (in_left y (vars b) (free_code c) i) (λ n. let l = with_less y n c in omega arith)))
      (g (narrow a (λ y i. in_right y (vars b) (free_code c) i) (λ y. omega arith) (λ y n h. omega arith) (λ y. omega arith)))

  match_by : (b : Atom) (rs ss : Rules) → Knows texts K S W (Match b rs) → (KnowsRules texts K S W rs → WalkedRules texts S W (atom_in K.σ b) rs ss) → Walked texts S W (Match b rs) (match_left (atom_in K.σ b) ss)
  match_by b rs ss a g =
      match_walked b (atom_in K.σ b) rs ss
      (atom_at S.σ K.σ b (λ y i. let m = in_uses_atom y b i in direct a y (in_left y (vars b) (free_rules rs) i) (λ n. let l = with_less_rules y n rs in omega arith)))
      (g (narrow a (λ y i. in_right y (vars b) (free_rules rs) i) (λ y. omega arith) (λ y n h. omega arith) (λ y. omega arith)))

  rule_by : (b : Atom) (ts : List Test) (c d : Code) (rs ss : Rules) → KnowsRules texts K S W (Rule ts c rs) → (Knows texts K S W c → Walked texts S W c d) → (KnowsRules texts K S W rs → WalkedRules texts S W b rs ss) → WalkedRules texts S W b (Rule ts c rs) (rule_left (tests_left texts K b ts) d ss)
  rule_by b ts c d rs ss a f g =
      rule_walked b ts (tests_left texts K b ts) c d rs ss
      (λ us e. tests_stay texts K S.τ S.ns a.blocks S.σ b ts us (λ y i. let m = in_uses_tests y ts i in direct a y (in_left y (vars_tests ts) (union (free_code c) (free_rules rs)) i) (λ n. let l = with_less y n c in let j = with_less_rules y n rs in omega arith)) e)
      (λ e. tests_fail texts K S.τ S.ns a.blocks b ts e)
      (f (narrow a (λ y i. in_right y (vars_tests ts) (union (free_code c) (free_rules rs)) (in_left y (free_code c) (free_rules rs) i)) (λ y. omega arith) (λ y n h. let j = with_less_rules y n rs in omega arith) (λ y. omega arith)))
      (g (narrow a (λ y i. in_right y (vars_tests ts) (union (free_code c) (free_rules rs)) (in_right y (free_code c) (free_rules rs) i)) (λ y. omega arith) (λ y n h. let j = with_less y n c in omega arith) (λ y. omega arith)))

-- ---- A group, and the rest of it

-- the rest of a group, with what is bound in the answer behind it
record Part (all : Functions) (c : Code) (ns : List ℕ) (fs : Functions) : Type 0 where
  others : (x : ℕ) → uses_others x fs ≤ uses_others x all
  free : (x : ℕ) → In x (free_functions fs) → In x (free_functions all)
  inside : (x : ℕ) → inside_weigh x fs + (weigh (of_name x) c + names_weigh (of_name x) ns) ≤ 1
  noeq : NoEqIn fs

part_tail : (all : Functions) (c : Code) (ns : List ℕ) (f : ℕ) (p : Point) (params : List ℕ) (b : Code) (fs : Functions) → Part all c ns (Function f p params b fs) → Part all c ns fs
part_tail all c ns f p params b fs r = record {
  others = λ x. let h = r.others x in omega arith;
  free = λ x i. r.free x (in_right x (without (free_code b) params) (free_functions fs) i);
  inside = λ x. let h = r.inside x in omega arith;
  noeq = r.noeq.2;
}

module _ {texts : List (List ℕ)} {K : Known} {S : Scope} {W : Scale → ℕ → ℕ} (all : Functions) (c : Code) (a : Knows texts K S W (Fix all c)) (once : Once (λ x. weigh (of_name x) (Fix all c)) S.ns) where
  distinct : Distinct all c all
  distinct x = let h = once x in let e = functions_weigh x all in omega arith

  abbrev Y : Scope
  Y = replacing_scope all c a distinct

  abbrev Z : Scope
  Z = placing_scope all c a distinct

  abbrev σ : ℕ → Atom
  σ = names_map all c a distinct

  less_new : (x : ℕ) → names_weigh (of_name x) Z.ns ≤ names_weigh (of_name x) (names_of all) + names_weigh (of_name x) S.ns
  less_new x = stay_weigh (role_in all c) all S.ns x

  whole : NoEqIn all → Part all c Z.ns all
  whole noeq = record {
    others = λ x. omega arith;
    free = λ x i. i;
    inside = λ x. let h = once x in let e = functions_weigh x all in let n = less_new x in omega arith;
    noeq = noeq;
  }

  fresh_names : AllFresh (names_of all) []
  fresh_names = all_fresh (names_of all) [] (λ x. let h = distinct x in omega arith)

  parted_all : Parted (role_in all c) all
  parted_all = parted (role_in all c) all (λ x. let h = once x in let e = functions_weigh x all in omega arith)

  new_names : (x : ℕ) → names_weigh (of_name x) (names_of all) + names_weigh (of_name x) S.ns ≤ 1
  new_names x = let h = once x in let e = functions_weigh x all in omega arith

  -- inside a function that stays
  stays_knows : (f : ℕ) (p : Point) (params : List ℕ) (b : Code) (fs : Functions) → Part all c Z.ns (Function f p params b fs) → role_in all c f params b ≡ Stays → Knows texts (within σ params) (inner Z params) nobody_pays b
  stays_knows f p params b fs r e = record {
    names = λ x i n. params_at params Z.σ σ x (λ o. body_keeps (role_in all c) all Y.σ x ∙ inside_same all c a distinct f p params b fs r.others r.free (let k = reason all c f params b Stays e in k.0) x i o);
    blocks = λ z t k. absurd (cc);
    bodies = λ g i u k. absurd (cc);
  }

  stays_once : (f : ℕ) (p : Point) (params : List ℕ) (b : Code) (fs : Functions) → Part all c Z.ns (Function f p params b fs) → Once (λ x. weigh (of_name x) b) (with_params params Z.ns)
  stays_once f p params b fs r x = let h = r.inside x in let k = params_weigh x params Z.ns in omega arith

  stays_fresh : (f : ℕ) (p : Point) (params : List ℕ) (b : Code) (fs : Functions) → Part all c Z.ns (Function f p params b fs) → AllFresh params Z.ns
  stays_fresh f p params b fs r = all_fresh params Z.ns (λ x. let h = r.inside x in omega arith)

  -- inside one that is put where it is called
  placed_knows : (f : ℕ) (p : Point) (params : List ℕ) (b : Code) (fs : Functions) (ms : List ℕ) → Part all c ms (Function f p params b fs) → role_in all c f params b ≡ Placed → (bs : List Atom) (τ T : ℕ → Option Made) (ns : List ℕ) → length bs ≡ length params → Blocks τ T ns → Knows texts (known (with_arguments σ params bs) τ nothing) (scope (given_atoms Y.σ params bs) T nothing ns) nobody_pays b
  placed_knows f p params b fs ms r e bs τ T ns l bl = record {
    names = λ x i n. given_at params bs Y.σ σ x l (λ o. inside_same all c a distinct f p params b fs r.others r.free (let k = reason all c f params b Placed e in k.0) x i o);
    blocks = bl;
    bodies = λ g i u k. absurd (cc);
  }

  -- behind the functions
  first_puts : Puts texts K.ι Y W c (names_of all)
  first_puts g i n u e =
      let r = a.bodies g i (omega arith) e in
      record {
        body = r.body;
        is = alias_ι_other (role_in all c) all (stay_ι (role_in all c) all S.ι) g n ∙ (ι_other (role_in all c) all S.ι g n ∙ r.is);
        params = r.params;
        called = let k = r.called in omega arith;
        pays = r.pays;
        apart = λ x. let h = r.apart x in let z = functions_weigh x all in let m = less_new x in omega arith;
        walks = r.walks;
      }

  behind_knows : (ι : ℕ → Option Inlined) (V : Scale → ℕ → ℕ) → ι ≡ bodies_walk texts (role_in all c) σ all K.ι → Puts texts ι Z V c [] → Knows texts (known σ K.τ ι) Z V c
  behind_knows ι V e puts = record {
    names = λ x i n. behind_same all c a distinct x i (ap (λ j. j x) (sym e) ∙ n);
    blocks = stay_blocks (role_in all c) all K.τ S.τ S.ns new_names a.blocks;
    bodies = λ g i u k. puts g i (λ z. z) u k;
  }

  behind_once : Once (λ x. weigh (of_name x) c) Z.ns
  behind_once x = let h = once x in let e = functions_weigh x all in let n = less_new x in omega arith

names_tail : (role : Roles) (f : ℕ) (p : Point) (params : List ℕ) (b : Code) (fs : Functions) (S : Scope) → ((x : ℕ) → names_weigh (of_name x) (names_of (Function f p params b fs)) + names_weigh (of_name x) S.ns ≤ 1) → (x : ℕ) → names_weigh (of_name x) (names_of fs) + names_weigh (of_name x) (stay_new role (role f params b) f S.ns) ≤ 1
names_tail role f p params b fs S h x = by (role f params b)
  where
    by : (r : Role) → names_weigh (of_name x) (names_of fs) + names_weigh (of_name x) (stay_new role r f S.ns) ≤ 1
    by Stays = let k = h x in omega arith
    by Dropped = let k = h x in omega arith
    by (Replaced y) = let k = h x in omega arith
    by Placed = let k = h x in omega arith

-- ---- The walk

module _ (texts : List (List ℕ)) where
  mutual
    pub walks : (c : Code) (K : Known) (S : Scope) (W : Scale → ℕ → ℕ) → Knows texts K S W c → Once (λ x. weigh (of_name x) c) S.ns → NoEq c → Walked texts S W c (walk texts K c)
    walks (Make x shape us c) K S W a once noeq =
        make_by x shape us c (walk texts K c) (walk texts (binding K x (known_as shape (atoms_in K.σ us))) c) (is_unused x c) a once refl
        (λ k. walks c K (lost S x None None) W k (λ y. let h = once y in omega arith) noeq)
        (λ k. walks c (binding K x (known_as shape (atoms_in K.σ us))) (kept S x (known_as shape (atoms_in K.σ us))) W k (λ y. let h = once y in omega arith) noeq)
    walks (Pick x i b c) K S W a once noeq =
        pick_by x i b c (walk texts K c) (λ q. walk texts (replacing K x q) c) (walk texts (binding K x None) c) (is_unused x c) (known_field K.τ (atom_in K.σ b) i) a once refl refl
        (λ k. walks c K (lost S x None None) W k (λ y. let h = once y in omega arith) noeq)
        (λ q k. walks c (replacing K x q) (lost S x (Some q) None) W k (λ y. let h = once y in omega arith) noeq)
        (λ k. walks c (binding K x None) (kept S x None) W k (λ y. let h = once y in omega arith) noeq)
    walks (Prim x p us c) K S W a once noeq =
        prim_by x p us c (walk texts K c) (walk texts (binding K x None) c) (is_pure p && is_unused x c) a once refl
        (λ k. walks c K (lost S x None None) W k (λ y. let h = once y in omega arith) noeq)
        (λ k. walks c (binding K x None) (kept S x None) W k (λ y. let h = once y in omega arith) noeq)
    walks (Equal b d t k) K S W a once noeq = equal_by b d k t a
    walks (Call b us) K S W a once noeq = call_by b us a
    walks (Match b rs) K S W a once noeq = match_by b rs (rules_walk texts K (atom_in K.σ b) rs) a (λ k. rules_part rs K S W (atom_in K.σ b) k (λ y. let h = once y in omega arith) noeq)
    walks (Handler x c) K S W a once noeq =
        handler_by x c (walk texts (binding K x None) c) a once (λ k. walks c (binding K x None) (kept S x None) W k (λ y. let h = once y in omega arith) noeq)
    walks (SetHandler b c) K S W a once noeq = set_by b c (walk texts K c) a (λ k. walks c K S W k (λ y. let h = once y in omega arith) noeq)
    walks (Throw b) K S W a once noeq = throw_by b a
    walks Halt K S W a once noeq = halt_walked
    walks (Fix fs c) K S W a once noeq =
        fix_walked fs (functions_walk texts (role_in fs c) (σ fs c a once) fs) c
        (walk texts (known (σ fs c a once) K.τ (bodies_walk texts (role_in fs c) (σ fs c a once) fs K.ι)) c) K
        (fresh_names fs c a once) noeq.0 (parted_all fs c a once) (target_same fs c a (distinct fs c a once))
        (functions_part fs c K S W a once fs S (whole fs c a once noeq.0) (new_names fs c a once))
        (walks c (known (σ fs c a once) K.τ (bodies_walk texts (role_in fs c) (σ fs c a once) fs K.ι)) (Z fs c a once) (λ s. put_costs (role_in fs c) (weigh s) fs (W s))
        (behind_knows fs c a once (bodies_walk texts (role_in fs c) (σ fs c a once) fs K.ι) (λ s. put_costs (role_in fs c) (weigh s) fs (W s)) refl
        (bodies_part fs c K S W a once fs K.ι (Y fs c a once) W (whole fs c a once noeq.0) (first_puts fs c a once)))
        (behind_once fs c a once) noeq.1)

    functions_part : (all : Functions) (c : Code) (K : Known) (S₀ : Scope) (W₀ : Scale → ℕ → ℕ) (a : Knows texts K S₀ W₀ (Fix all c)) (once : Once (λ x. weigh (of_name x) (Fix all c)) S₀.ns) (fs : Functions) (S : Scope) → Part all c (Z all c a once).ns fs → ((x : ℕ) → names_weigh (of_name x) (names_of fs) + names_weigh (of_name x) S.ns ≤ 1) → WalkedSome texts (role_in all c) (Z all c a once) S fs (functions_walk texts (role_in all c) (σ all c a once) fs) (some_scope (role_in all c) fs S)
    functions_part all c K S₀ W₀ a once NoFunction S part names = record { gone = nobody; fine = tt; weighs = λ s. omega arith; stands = λ L h. some_none (Z all c a once) S }
    functions_part all c K S₀ W₀ a once (Function f p params b fs) S part names =
        some_step f p params b (walk texts (within (σ all c a once) params) b) fs (functions_walk texts (role_in all c) (σ all c a once) fs)
        (λ e. record {
          fresh = let k = names f in let o = own_same f f refl in fresh_of f S.ns (omega arith);
          parted = stays_fresh all c a once f p params b fs part;
          walked = walks b (within (σ all c a once) params) (inner (Z all c a once) params) nobody_pays (stays_knows all c a once f p params b fs part e) (stays_once all c a once f p params b fs part) part.noeq.1;
        })
        (functions_part all c K S₀ W₀ a once fs (stay_scope (role_in all c) (role_in all c f params b) f S) (part_tail all c (Z all c a once).ns f p params b fs part) (names_tail (role_in all c) f p params b fs S names))

    bodies_part : (all : Functions) (c : Code) (K : Known) (S₀ : Scope) (W₀ : Scale → ℕ → ℕ) (a : Knows texts K S₀ W₀ (Fix all c)) (once : Once (λ x. weigh (of_name x) (Fix all c)) S₀.ns) (fs : Functions) (ι : ℕ → Option Inlined) (S : Scope) (W : Scale → ℕ → ℕ) → Part all c S.ns fs → Puts texts ι S W c (names_of fs) → Puts texts (bodies_walk texts (role_in all c) (σ all c a once) fs ι) (body_scope (role_in all c) (Y all c a once).σ fs S) (λ s. put_costs (role_in all c) (weigh s) fs (W s)) c []
    bodies_part all c K S₀ W₀ a once NoFunction ι S W part puts = puts
    bodies_part all c K S₀ W₀ a once (Function f p params b fs) ι S W part puts =
        bodies_part all c K S₀ W₀ a once fs
        (placed (role_in all c f params b) f (inlined params (λ bs τ. walk texts (known (with_arguments (σ all c a once) params bs) τ nothing) b)) ι)
        (scope (body_name (role_in all c) (role_in all c f params b) f S.σ) S.τ (body_code (role_in all c) (role_in all c f params b) f (body_of params b (Y all c a once).σ) S.ι) S.ns)
        (λ s. cost_step (role_in all c) (weigh s) (role_in all c f params b) f b (W s))
        (part_tail all c S.ns f p params b fs part)
        (puts_step all c (Y all c a once).σ S ι f params b (λ bs τ. walk texts (known (with_arguments (σ all c a once) params bs) τ nothing) b) (names_of fs)
        (λ e bs τ T ns l bl o. walks b (known (with_arguments (σ all c a once) params bs) τ nothing) (scope (given_atoms (Y all c a once).σ params bs) T nothing ns) nobody_pays (placed_knows all c a once f p params b fs S.ns part e bs τ T ns l bl) o part.noeq.1)
        (λ x. let h = part.inside x in omega arith)
        puts)

    rules_part : (rs : Rules) (K : Known) (S : Scope) (W : Scale → ℕ → ℕ) (b : Atom) → KnowsRules texts K S W rs → Once (λ x. weigh_rules (of_name x) rs) S.ns → NoEqRules rs → WalkedRules texts S W b rs (rules_walk texts K b rs)
    rules_part (Otherwise c) K S W b a once noeq = otherwise_walked b c (walk texts K c) (walks c K S W a once noeq)
    rules_part (Rule ts c rs) K S W b a once noeq =
        rule_by b ts c (walk texts K c) rs (rules_walk texts K b rs) a
        (λ k. walks c K S W k (λ y. let h = once y in omega arith) noeq.0)
        (λ k. rules_part rs K S W b k (λ y. let h = once y in omega arith) noeq.1)
