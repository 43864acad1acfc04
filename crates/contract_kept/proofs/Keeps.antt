-- A walk keeps what is in range.
use Rattle.std.proofs.Common.{ℕ, zero, suc, List, [], ◌∷◌, length, Bool, true, false, cond, ◌&&◌, Option, Some, None, slice_get, nat_eq, nat_lt}
use Rattle.std.specs.List.{AllByRecursion}
use Rattle.sml_def.specs.Maybe.{◌>>=◌}
use Rattle.smlc_base.specs.declared.point.Point.{Point}
use Rattle.cps_ir.specs.declared.atom.Atom.{Atom}
use Rattle.cps_ir.specs.declared.atom.Wanted.{Wanted}
use Rattle.cps_ir.specs.declared.atom.Test.{Test}
use Rattle.cps_ir.specs.declared.atom.Shape.{Shape}
use Rattle.cps_ir.specs.declared.atom.Atom.TheVariants as atom
use Rattle.cps_ir.specs.declared.atom.Shape.TheVariants as form
use Rattle.cps_ir.specs.declared.atom.Wanted.TheVariants as want
use Rattle.cps_ir.specs.Code.{Code, Make, Pick, Prim, Equal, Fix, Call, Match, Handler, SetHandler, Throw, Halt, Functions, NoFunction, Function, Rules, Otherwise, Rule}
use Rattle.cps_ir.specs.State.{bind}
use Rattle.cps_ir.specs.Program.{Cps}
use Rattle.cps_ir.specs.Kept.{AtomKept, AtomsKept, WantedKept, TestsKept}
use Rattle.contract_laws.specs.Contract.{Made, nothing, known_as, is_pure}
use Rattle.contract_laws.specs.Redex.{nodes}
use Rattle.contract_round.specs.Round.{Inlined, Known, known, outset, binding, replacing, as_themselves, within, with_arguments, atom_in, atoms_in, if_tuple, field_of_tuple, known_field, wanted_in, test_in, test_left, verdict, tests_left, rule_left, match_left, is_unused, Role, Dropped, Replaced, Placed, Stays, Roles, role_in, staying, names_stay, replaced, names_replaced, names_in, placed, function_left, fix_left, call_left, inlined_of, pick_left, walk, functions_walk, bodies_walk, rules_walk, round, rounds, contracted}
use Rattle.contract_kept.specs.Ranges.{Below, InRange, FunctionsInRange, RulesInRange}

cond_holds : {A : Type 0} (P : A → Type 0) (b : Bool) (p q : A) → P p → P q → P (cond b p q)
cond_holds P true p q h g = h
cond_holds P false p q h g = g

module _ (q : Cps) where
  abbrev PlacesKept : (ℕ → Atom) → Type 0
  PlacesKept σ = (x : ℕ) → AtomKept q (σ x)

  abbrev MadeKept : Option Made → Type 0
  MadeKept None = Unit {0}
  MadeKept (Some t) = AtomsKept q t.atoms

  abbrev BlocksKept : (ℕ → Option Made) → Type 0
  BlocksKept τ = (x : ℕ) → MadeKept (τ x)

  abbrev PutKept : Option Inlined → Type 0
  PutKept None = Unit {0}
  PutKept (Some i) = (atoms : List Atom) (τ : ℕ → Option Made) → AtomsKept q atoms → BlocksKept τ → InRange q (i.code atoms τ)

  record ScopeKept (K : Known) : Type 0 where
    places : PlacesKept K.σ
    blocks : BlocksKept K.τ
    bodies : (f : ℕ) → PutKept (K.ι f)

  bind_place : (σ : ℕ → Atom) (x : ℕ) (a : Atom) → AtomKept q a → PlacesKept σ → PlacesKept (bind σ x a)
  bind_place σ x a k h y = cond_holds (AtomKept q) (nat_eq y x) a (σ y) k (h y)

  bind_block : (τ : ℕ → Option Made) (x : ℕ) (t : Option Made) → MadeKept t → BlocksKept τ → BlocksKept (bind τ x t)
  bind_block τ x t k h y = cond_holds MadeKept (nat_eq y x) t (τ y) k (h y)

  bind_put : (ι : ℕ → Option Inlined) (x : ℕ) (i : Option Inlined) → PutKept i → ((f : ℕ) → PutKept (ι f)) → (f : ℕ) → PutKept (bind ι x i f)
  bind_put ι x i k h y = cond_holds PutKept (nat_eq y x) i (ι y) k (h y)

  scope_binding : (K : Known) (x : ℕ) (t : Option Made) → MadeKept t → ScopeKept K → ScopeKept (binding K x t)
  scope_binding K x t k s = record { places = bind_place K.σ x (atom.Var x) tt s.places; blocks = bind_block K.τ x t k s.blocks; bodies = bind_put K.ι x None tt s.bodies }

  scope_replacing : (K : Known) (x : ℕ) (a : Atom) → AtomKept q a → ScopeKept K → ScopeKept (replacing K x a)
  scope_replacing K x a k s = record { places = bind_place K.σ x a k s.places; blocks = s.blocks; bodies = bind_put K.ι x None tt s.bodies }

  params_kept : (xs : List ℕ) (σ : ℕ → Atom) → PlacesKept σ → PlacesKept (as_themselves σ xs)
  params_kept [] σ h = h
  params_kept (x ∷ xs) σ h = params_kept xs (bind σ x (atom.Var x)) (bind_place σ x (atom.Var x) tt h)

  arguments_kept : (xs : List ℕ) (us : List Atom) (σ : ℕ → Atom) → AtomsKept q us → PlacesKept σ → PlacesKept (with_arguments σ xs us)
  arguments_kept [] us σ k h = h
  arguments_kept (x ∷ xs) [] σ k h = h
  arguments_kept (x ∷ xs) (a ∷ us) σ k h = arguments_kept xs us (bind σ x a) k.1 (bind_place σ x a k.0 h)

  module _ (σ : ℕ → Atom) (h : PlacesKept σ) where
    atom_kept : (a : Atom) → AtomKept q a → AtomKept q (atom_in σ a)
    atom_kept (atom.Var x) k = h x
    atom_kept (atom.Constant c) k = k

    atoms_kept : (us : List Atom) → AtomsKept q us → AtomsKept q (atoms_in σ us)
    atoms_kept [] k = tt
    atoms_kept (a ∷ us) k = (atom_kept a k.0, atoms_kept us k.1)

    wanted_kept : (w : Wanted) → WantedKept q w → WantedKept q (wanted_in σ w)
    wanted_kept (want.Exn a applied) k = atom_kept a k
    wanted_kept (want.Num z) k = k
    wanted_kept (want.Tag t) k = k
    wanted_kept (want.Text t) k = k

  known_kept : (shape : Shape) (us : List Atom) → AtomsKept q us → MadeKept (known_as shape us)
  known_kept form.Tuple us k = k
  known_kept (form.Applied n) us k = k
  known_kept form.Cell us k = tt
  known_kept (form.ExnName n) us k = tt
  known_kept form.Packet us k = tt

  abbrev MayKept : Option Atom → Type 0
  MayKept None = Unit {0}
  MayKept (Some a) = AtomKept q a

  item_kept : (us : List Atom) (i : ℕ) → AtomsKept q us → MayKept (slice_get us i)
  item_kept [] i k = tt
  item_kept (a ∷ us) zero k = k.0
  item_kept (a ∷ us) (suc i) k = item_kept us i k.1

  field_kept : (τ : ℕ → Option Made) (h : BlocksKept τ) (a : Atom) (i : ℕ) → MayKept (known_field τ a i)
  field_kept τ h (atom.Constant c) i = tt
  field_kept τ h (atom.Var x) i = by (τ x) (h x)
    where
      shaped : (s : Shape) (o : Option Atom) → MayKept o → MayKept (if_tuple s o)
      shaped form.Tuple o k = k
      shaped (form.Applied n) o k = tt
      shaped form.Cell o k = tt
      shaped (form.ExnName n) o k = tt
      shaped form.Packet o k = tt

      by : (o : Option Made) → MadeKept o → MayKept (o >>= field_of_tuple i)
      by None k = tt
      by (Some t) k = shaped t.shape (slice_get t.atoms i) (item_kept t.atoms i k)

  -- ---- Tests

  abbrev LeftKept : Option (List Test) → Type 0
  LeftKept None = Unit {0}
  LeftKept (Some ts) = TestsKept q ts

  one_left : (v : Option Bool) (t : Test) (o : Option (List Test)) → WantedKept q t.want → LeftKept o → LeftKept (test_left v t o)
  one_left (Some true) t o k h = h
  one_left (Some false) t o k h = tt
  one_left None t None k h = tt
  one_left None t (Some ts) k h = (k, h)

  tests_kept : (texts : List (List ℕ)) (K : Known) (s : ScopeKept K) (a : Atom) (ts : List Test) → TestsKept q ts → LeftKept (tests_left texts K a ts)
  tests_kept texts K s a [] k = tt
  tests_kept texts K s a (t ∷ ts) k = one_left (verdict texts K.τ a t) (test_in K.σ t) (tests_left texts K a ts) (wanted_kept K.σ s.places t.want k.0) (tests_kept texts K s a ts k.1)

  rule_kept : (o : Option (List Test)) (c : Code) (rs : Rules) → LeftKept o → InRange q c → RulesInRange q rs → RulesInRange q (rule_left o c rs)
  rule_kept None c rs k h g = g
  rule_kept (Some []) c rs k h g = h
  rule_kept (Some (t ∷ ts)) c rs k h g = (k, h, g)

  match_kept : (a : Atom) (rs : Rules) → AtomKept q a → RulesInRange q rs → InRange q (match_left a rs)
  match_kept a (Otherwise c) k h = h
  match_kept a (Rule ts c rs) k h = (k, h)

  -- ---- Functions

  stay_kept : (role : Roles) (fs : Functions) (σ : ℕ → Atom) → PlacesKept σ → PlacesKept (names_stay role fs σ)
  stay_kept role NoFunction σ h = h
  stay_kept role (Function f p params b fs) σ h = stay_kept role fs (staying (role f params b) f σ) (by (role f params b))
    where
      by : (r : Role) → PlacesKept (staying r f σ)
      by Stays = bind_place σ f (atom.Var f) tt h
      by Dropped = h
      by (Replaced y) = h
      by Placed = h

  replaced_kept : (role : Roles) (fs : Functions) (σ : ℕ → Atom) → PlacesKept σ → PlacesKept (names_replaced role fs σ)
  replaced_kept role NoFunction σ h = h
  replaced_kept role (Function f p params b fs) σ h = replaced_kept role fs (replaced (role f params b) f σ) (by (role f params b))
    where
      by : (r : Role) → PlacesKept (replaced r f σ)
      by (Replaced y) = bind_place σ f (σ y) (h y) h
      by Stays = h
      by Dropped = h
      by Placed = h

  placed_kept : (r : Role) (f : ℕ) (i : Inlined) (ι : ℕ → Option Inlined) → PutKept (Some i) → ((g : ℕ) → PutKept (ι g)) → (g : ℕ) → PutKept (placed r f i ι g)
  placed_kept Placed f i ι k h = bind_put ι f (Some i) k h
  placed_kept Stays f i ι k h = bind_put ι f None tt h
  placed_kept Dropped f i ι k h = bind_put ι f None tt h
  placed_kept (Replaced y) f i ι k h = bind_put ι f None tt h

  function_kept : (r : Role) (f : ℕ) (p : Point) (params : List ℕ) (b : Code) (fs : Functions) → Below q f → AllByRecursion (Below q) params → InRange q b → FunctionsInRange q fs → FunctionsInRange q (function_left r f p params b fs)
  function_kept Stays f p params b fs k l h g = (k, l, h, g)
  function_kept Dropped f p params b fs k l h g = g
  function_kept (Replaced y) f p params b fs k l h g = g
  function_kept Placed f p params b fs k l h g = g

  fix_kept : (fs : Functions) (c : Code) → FunctionsInRange q fs → InRange q c → InRange q (fix_left fs c)
  fix_kept NoFunction c k h = h
  fix_kept (Function f p params b fs) c k h = (k, h)

  call_kept : (o : Option Inlined) (τ : ℕ → Option Made) (a : Atom) (us : List Atom) → PutKept o → BlocksKept τ → AtomKept q a → AtomsKept q us → InRange q (call_left o τ a us)
  call_kept None τ a us k h l m = (l, m)
  call_kept (Some i) τ a us k h l m = cond_holds (InRange q) (nat_eq (length us) (length i.params)) (i.code us τ) (Call a us) (k us τ m h) (l, m)

  pick_kept : (o : Option Atom) (f : Atom → Code) (c : Code) → MayKept o → ((b : Atom) → AtomKept q b → InRange q (f b)) → InRange q c → InRange q (pick_left o f c)
  pick_kept None f c k h g = g
  pick_kept (Some b) f c k h g = h b k

  -- ---- The walk

  module _ (texts : List (List ℕ)) where
    mutual
      walk_keeps : (c : Code) (K : Known) → ScopeKept K → InRange q c → InRange q (walk texts K c)
      walk_keeps (Make x shape us c) K s r =
          cond_holds (InRange q) (is_unused x c) (walk texts K c) (Make x shape (atoms_in K.σ us) (walk texts (binding K x (known_as shape (atoms_in K.σ us))) c)) (walk_keeps c K s r.3)
          (r.0, r.1, atoms_kept K.σ s.places us r.2, walk_keeps c (binding K x (known_as shape (atoms_in K.σ us))) (scope_binding K x (known_as shape (atoms_in K.σ us)) (known_kept shape (atoms_in K.σ us) (atoms_kept K.σ s.places us r.2)) s) r.3)
      walk_keeps (Pick x i a c) K s r =
          cond_holds (InRange q) (is_unused x c) (walk texts K c)
          (pick_left (known_field K.τ (atom_in K.σ a) i) (λ b. walk texts (replacing K x b) c) (Pick x i (atom_in K.σ a) (walk texts (binding K x None) c)))
          (walk_keeps c K s r.2)
          (pick_kept (known_field K.τ (atom_in K.σ a) i) (λ b. walk texts (replacing K x b) c) (Pick x i (atom_in K.σ a) (walk texts (binding K x None) c)) (field_kept K.τ s.blocks (atom_in K.σ a) i)
          (λ b k. walk_keeps c (replacing K x b) (scope_replacing K x b k s) r.2)
          (r.0, atom_kept K.σ s.places a r.1, walk_keeps c (binding K x None) (scope_binding K x None tt s) r.2))
      walk_keeps (Prim x p us c) K s r =
          cond_holds (InRange q) (is_pure p && is_unused x c) (walk texts K c) (Prim x p (atoms_in K.σ us) (walk texts (binding K x None) c)) (walk_keeps c K s r.2)
          (r.0, atoms_kept K.σ s.places us r.1, walk_keeps c (binding K x None) (scope_binding K x None tt s) r.2)
      walk_keeps (Equal a b t k) K s r = atoms_kept K.σ s.places (a ∷ b ∷ k ∷ []) r
      walk_keeps (Fix fs c) K s r =
          let role = role_in fs c in
          let σ = names_in role fs K.σ in
          let h = replaced_kept role fs (names_stay role fs K.σ) (stay_kept role fs K.σ s.places) in
          fix_kept (functions_walk texts role σ fs) (walk texts (known σ K.τ (bodies_walk texts role σ fs K.ι)) c) (functions_keep role fs σ h r.0)
          (walk_keeps c (known σ K.τ (bodies_walk texts role σ fs K.ι)) (record { places = h; blocks = s.blocks; bodies = bodies_keep role fs σ K.ι h s.bodies r.0 }) r.1)
      walk_keeps (Call a us) K s r = call_kept (inlined_of K.ι a) K.τ (atom_in K.σ a) (atoms_in K.σ us) (of a) s.blocks (atom_kept K.σ s.places a r.0) (atoms_kept K.σ s.places us r.1)
        where
          of : (a : Atom) → PutKept (inlined_of K.ι a)
          of (atom.Var f) = s.bodies f
          of (atom.Constant k) = tt
      walk_keeps (Match a rules) K s r =
          match_kept (atom_in K.σ a) (rules_walk texts K (atom_in K.σ a) rules) (atom_kept K.σ s.places a r.0) (rules_keep rules K (atom_in K.σ a) s r.1)
      walk_keeps (Handler x c) K s r = (r.0, walk_keeps c (binding K x None) (scope_binding K x None tt s) r.1)
      walk_keeps (SetHandler a c) K s r = (atom_kept K.σ s.places a r.0, walk_keeps c K s r.1)
      walk_keeps (Throw a) K s r = atom_kept K.σ s.places a r
      walk_keeps Halt K s r = tt

      functions_keep : (role : Roles) (fs : Functions) (σ : ℕ → Atom) → PlacesKept σ → FunctionsInRange q fs → FunctionsInRange q (functions_walk texts role σ fs)
      functions_keep role NoFunction σ h r = tt
      functions_keep role (Function f p params b fs) σ h r =
          function_kept (role f params b) f p params (walk texts (within σ params) b) (functions_walk texts role σ fs) r.0 r.1
          (walk_keeps b (within σ params) (record { places = params_kept params σ h; blocks = λ x. tt; bodies = λ g. tt }) r.2)
          (functions_keep role fs σ h r.3)

      bodies_keep : (role : Roles) (fs : Functions) (σ : ℕ → Atom) (ι : ℕ → Option Inlined) → PlacesKept σ → ((g : ℕ) → PutKept (ι g)) → FunctionsInRange q fs → (g : ℕ) → PutKept (bodies_walk texts role σ fs ι g)
      bodies_keep role NoFunction σ ι h e r = e
      bodies_keep role (Function f p params b fs) σ ι h e r =
          let i : Inlined = record { params = params; code = λ atoms τ. walk texts (known (with_arguments σ params atoms) τ nothing) b } in
          bodies_keep role fs σ (placed (role f params b) f i ι) h
          (placed_kept (role f params b) f i ι
          (λ atoms τ k l. walk_keeps b (known (with_arguments σ params atoms) τ nothing) (record { places = arguments_kept params atoms σ k h; blocks = l; bodies = λ g. tt }) r.2)
          e)
          r.3

      rules_keep : (rules : Rules) (K : Known) (a : Atom) → ScopeKept K → RulesInRange q rules → RulesInRange q (rules_walk texts K a rules)
      rules_keep (Otherwise c) K a s r = walk_keeps c K s r
      rules_keep (Rule ts c rules) K a s r =
          rule_kept (tests_left texts K a ts) (walk texts K c) (rules_walk texts K a rules) (tests_kept texts K s a ts r.0) (walk_keeps c K s r.1) (rules_keep rules K a s r.2)

    pub round_keeps : (c : Code) → InRange q c → InRange q (round texts c)
    round_keeps c r = walk_keeps c outset (record { places = λ x. tt; blocks = λ x. tt; bodies = λ f. tt }) r

    rounds_keep : (n : ℕ) (c : Code) → InRange q c → InRange q (rounds texts n c)
    rounds_keep zero c r = r
    rounds_keep (suc n) c r =
        cond_holds (InRange q) (nat_lt (nodes (round texts c)) (nodes c)) (rounds texts n (round texts c)) (round texts c) (rounds_keep n (round texts c) (round_keeps c r)) (round_keeps c r)

    pub contracted_in_range : (c : Code) → InRange q c → InRange q (contracted texts c)
    contracted_in_range c r = rounds_keep (nodes c) c r
