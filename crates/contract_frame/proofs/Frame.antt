-- A walk over a body that neither uses nor binds some variables doesn't look at what is known of them.
use Rattle.std.proofs.Common.{◌≡◌, ℕ, zero, suc, List, [], ◌∷◌, length, Bool, true, false, cond, ◌&&◌, Option, Some, None, slice_get, refl, ap, ◌∙◌, arith, nat_eq}
use Rattle.simulation.proofs.Lists.{some_eq}
use Rattle.sml_def.specs.Maybe.{◌>>=◌}
use Rattle.smlc_base.specs.declared.point.Point.{Point}
use Rattle.cps_ir.specs.declared.atom.Atom.{Atom}
use Rattle.cps_ir.specs.declared.atom.Wanted.{Wanted}
use Rattle.cps_ir.specs.declared.atom.Test.{Test}
use Rattle.cps_ir.specs.declared.atom.Shape.{Shape}
use Rattle.cps_ir.specs.declared.atom.Atom.TheVariants as atom
use Rattle.cps_ir.specs.declared.atom.Shape.TheVariants as form
use Rattle.cps_ir.specs.declared.atom.Wanted.TheVariants as want
use Rattle.cps_ir.specs.Code.{Code, Make, Pick, Prim, Equal, Fix, Call, Match, Handler, SetHandler, Throw, Halt, Functions, NoFunction, Function, Rules, Otherwise, Rule}
use Rattle.cps_ir.specs.State.{bind}
use Rattle.contract_laws.specs.Contract.{Made, nothing, known_as, is_pure, says_made}
use Rattle.contract_laws.specs.Redex.{uses, uses_functions, uses_rules, uses_atom, uses_atoms, uses_wanted, uses_tests}
use Rattle.contract_laws.specs.Weigh.{weigh, weigh_functions, weigh_rules, names_weigh, of_name}
use Rattle.contract_round.specs.Round.{Inlined, Known, known, binding, replacing, as_themselves, within, with_arguments, atom_in, atoms_in, block_of, if_tuple, field_of_tuple, known_field, at_end, wanted_in, test_in, test_left, answer, verdict, tests_left, rule_left, match_left, is_unused, Role, Dropped, Replaced, Placed, Stays, Roles, role_in, staying, names_stay, replaced, names_replaced, names_in, placed, function_left, fix_left, call_left, inlined_of, pick_left, walk, functions_walk, bodies_walk, rules_walk}
use Rattle.contract_round.proofs.Facts.{own, own_same}
use Rattle.contract_round.proofs.Roles.{etas}
use Rattle.contract_frame.specs.Apart.{Unmet, NotIn, SamePlaces, SameBlocks, SameBody, Apart}

cond_same : {A : Type 0} (b : Bool) (p q r s : A) → p ≡ q → r ≡ s → cond b p r ≡ cond b q s
cond_same true p q r s e f = e
cond_same false p q r s e f = f

module _ (X : ℕ → Bool) where
  other : (y : ℕ) → Unmet X (λ z. own z y) → X y ≡ false
  other y o = by (X y) refl
    where
      by : (b : Bool) → X y ≡ b → X y ≡ false
      by true e = let k = own_same y y refl in let q = o y e in absurd (omega arith)
      by false e = e

  used_other : (y : ℕ) → Unmet X (λ z. uses_atom z (atom.Var y)) → X y ≡ false
  used_other y u = other y u

-- the places of X may differ, and the blocks of Y, which are among them
module _ (X Y : ℕ → Bool) (less : (y : ℕ) → Y y ≡ true → X y ≡ true) where
  -- ---- One more binding

  bind_places : (σ ς : ℕ → Atom) (y : ℕ) (v u : Atom) → v ≡ u → Unmet Y (λ z. uses_atom z v) → SamePlaces X Y σ ς → SamePlaces X Y (bind σ y v) (bind ς y u)
  bind_places σ ς y v u e n h z d = by (nat_eq z y)
    where
      by : (b : Bool) → (cond b v (σ z) ≡ cond b u (ς z)) × Unmet Y (λ x. uses_atom x (cond b v (σ z)))
      by true = (e, n)
      by false = h z d

  bind_itself : (σ ς : ℕ → Atom) (y : ℕ) → Unmet X (λ z. own z y) → SamePlaces X Y σ ς → SamePlaces X Y (bind σ y (atom.Var y)) (bind ς y (atom.Var y))
  bind_itself σ ς y o h = bind_places σ ς y (atom.Var y) (atom.Var y) refl (λ z g. o z (less z g)) h

  bind_blocks : (τ t : ℕ → Option Made) (y : ℕ) (v u : Option Made) → v ≡ u → NotIn Y v → SameBlocks Y τ t → SameBlocks Y (bind τ y v) (bind t y u)
  bind_blocks τ t y v u e n h z d = by (nat_eq z y)
    where
      by : (b : Bool) → (cond b v (τ z) ≡ cond b u (t z)) × NotIn Y (cond b v (τ z))
      by true = (e, n)
      by false = h z d

  bind_bodies : (ι κ : ℕ → Option Inlined) (y : ℕ) (v u : Option Inlined) → SameBody Y v u → ((f : ℕ) → X f ≡ false → SameBody Y (ι f) (κ f)) → (f : ℕ) → X f ≡ false → SameBody Y (bind ι y v f) (bind κ y u f)
  bind_bodies ι κ y v u e h f d = by (nat_eq f y)
    where
      by : (b : Bool) → SameBody Y (cond b v (ι f)) (cond b u (κ f))
      by true = e
      by false = h f d

  apart_binding : (K L : Known) (y : ℕ) (v u : Option Made) → Unmet X (λ z. own z y) → v ≡ u → NotIn Y v → Apart X Y K L → Apart X Y (binding K y v) (binding L y u)
  apart_binding K L y v u o e n a = record { places = bind_itself K.σ L.σ y o a.places; blocks = bind_blocks K.τ L.τ y v u e n a.blocks; bodies = bind_bodies K.ι L.ι y None None tt a.bodies }

  apart_replacing : (K L : Known) (y : ℕ) (b : Atom) → Unmet Y (λ z. uses_atom z b) → Apart X Y K L → Apart X Y (replacing K y b) (replacing L y b)
  apart_replacing K L y b n a = record { places = bind_places K.σ L.σ y b b refl n a.places; blocks = a.blocks; bodies = bind_bodies K.ι L.ι y None None tt a.bodies }

  params_same : (xs : List ℕ) (σ ς : ℕ → Atom) → Unmet X (λ z. names_weigh (of_name z) xs) → SamePlaces X Y σ ς → SamePlaces X Y (as_themselves σ xs) (as_themselves ς xs)
  params_same [] σ ς n h = h
  params_same (y ∷ xs) σ ς n h = params_same xs (bind σ y (atom.Var y)) (bind ς y (atom.Var y)) (λ z g. let q1 = n z g in omega arith) (bind_itself σ ς y (λ z g. let q1 = n z g in omega arith) h)

  arguments_same : (xs : List ℕ) (us : List Atom) (σ ς : ℕ → Atom) → Unmet Y (λ z. uses_atoms z us) → SamePlaces X Y σ ς → SamePlaces X Y (with_arguments σ xs us) (with_arguments ς xs us)
  arguments_same [] us σ ς n h = h
  arguments_same (y ∷ xs) [] σ ς n h = h
  arguments_same (y ∷ xs) (u ∷ us) σ ς n h = arguments_same xs us (bind σ y u) (bind ς y u) (λ z g. let q1 = n z g in omega arith) (bind_places σ ς y u u refl (λ z g. let q1 = n z g in omega arith) h)

  none_same : SameBlocks Y nothing nothing
  none_same y d = (refl, tt)

  -- ---- Atoms and blocks

  module _ (σ ς : ℕ → Atom) (h : SamePlaces X Y σ ς) where
    atom_same : (a : Atom) → Unmet X (λ z. uses_atom z a) → (atom_in σ a ≡ atom_in ς a) × (Unmet Y (λ z. uses_atom z (atom_in σ a)))
    atom_same (atom.Var y) u = h y (used_other X y u)
    atom_same (atom.Constant k) u = (refl, (λ z g. refl))

    atoms_same : (us : List Atom) → Unmet X (λ z. uses_atoms z us) → (atoms_in σ us ≡ atoms_in ς us) × (Unmet Y (λ z. uses_atoms z (atoms_in σ us)))
    atoms_same [] u = (refl, (λ z g. refl))
    atoms_same (a ∷ us) u =
        let p = atom_same a (λ z g. let q1 = u z g in omega arith) in
        let q = atoms_same us (λ z g. let q1 = u z g in omega arith) in
        let m = p.1 in
        let n = q.1 in
        (ap (λ b. b ∷ atoms_in σ us) p.0 ∙ ap (λ bs. atom_in ς a ∷ bs) q.0, (λ z g. let q1 = m z g in let q2 = n z g in omega arith))

    wanted_same : (w : Wanted) → Unmet X (λ z. uses_wanted z w) → wanted_in σ w ≡ wanted_in ς w
    wanted_same (want.Exn a applied) u = ap (λ b. want.Exn b applied) (atom_same a u).0
    wanted_same (want.Num z) u = refl
    wanted_same (want.Tag t) u = refl
    wanted_same (want.Text t) u = refl

    test_same : (t : Test) → Unmet X (λ z. uses_wanted z t.want) → test_in σ t ≡ test_in ς t
    test_same t u = ap (λ w. test_of t.path w) (wanted_same t.want u)
      where
        test_of : List ℕ → Wanted → Test
        test_of p w = record { path = p; want = w }

  known_none : (shape : Shape) (us : List Atom) → Unmet Y (λ z. uses_atoms z us) → NotIn Y (known_as shape us)
  known_none form.Tuple us u = u
  known_none (form.Applied n) us u = u
  known_none form.Cell us u = tt
  known_none (form.ExnName n) us u = tt
  known_none form.Packet us u = tt

  field_none : (us : List Atom) (i : ℕ) (b : Atom) → Unmet Y (λ z. uses_atoms z us) → slice_get us i ≡ Some b → Unmet Y (λ z. uses_atom z b)
  field_none [] i b u e = absurd (cc)
  field_none (a ∷ us) zero b u e = let k : Unmet Y (λ z. uses_atom z a) = (λ z g. let q1 = u z g in omega arith) in some_eq (λ c. Unmet Y (λ z. uses_atom z c)) a b e k
  field_none (a ∷ us) (suc i) b u e = field_none us i b (λ z g. let q1 = u z g in omega arith) e

  module _ (τ t : ℕ → Option Made) (h : SameBlocks Y τ t) where
    block_same : (a : Atom) → Unmet Y (λ z. uses_atom z a) → (block_of τ a ≡ block_of t a) × NotIn Y (block_of τ a)
    block_same (atom.Var y) u = h y (used_other Y y u)
    block_same (atom.Constant k) u = (refl, tt)

    field_same : (a : Atom) (i : ℕ) → Unmet Y (λ z. uses_atom z a) → known_field τ a i ≡ known_field t a i
    field_same a i u = ap (λ o. o >>= field_of_tuple i) (block_same a u).0

    field_known : (a : Atom) (i : ℕ) (b : Atom) → Unmet Y (λ z. uses_atom z a) → known_field τ a i ≡ Some b → Unmet Y (λ z. uses_atom z b)
    field_known a i b u e = by (block_of τ a) (block_same a u).1 e
      where
        of_shape : (s : Shape) (us : List Atom) → Unmet Y (λ z. uses_atoms z us) → if_tuple s (slice_get us i) ≡ Some b → Unmet Y (λ z. uses_atom z b)
        of_shape form.Tuple us n e = field_none us i b n e
        of_shape (form.Applied m) us n e = absurd (cc)
        of_shape form.Cell us n e = absurd (cc)
        of_shape (form.ExnName m) us n e = absurd (cc)
        of_shape form.Packet us n e = absurd (cc)

        by : (o : Option Made) → NotIn Y o → (o >>= field_of_tuple i) ≡ Some b → Unmet Y (λ z. uses_atom z b)
        by None n e = absurd (cc)
        by (Some m) n e = of_shape m.shape m.atoms n e

    end_same : (path : List ℕ) (a : Atom) → Unmet Y (λ z. uses_atom z a) → at_end τ a path ≡ at_end t a path
    end_same [] a u = refl
    end_same (i ∷ path) a u = by (block_of τ a) (block_of t a) (block_same a u).0 (block_same a u).1 (λ b v. end_same path b v)
      where
        at : (us : List Atom) (o : Option Atom) → Unmet Y (λ z. uses_atoms z us) → slice_get us i ≡ o → ((b : Atom) → Unmet Y (λ z. uses_atom z b) → at_end τ b path ≡ at_end t b path) → (o >>= (λ b. at_end τ b path)) ≡ (o >>= (λ b. at_end t b path))
        at us None n e go = refl
        at us (Some b) n e go = go b (field_none us i b n e)

        by : (o p : Option Made) → o ≡ p → NotIn Y o → ((b : Atom) → Unmet Y (λ z. uses_atom z b) → at_end τ b path ≡ at_end t b path) → (o >>= (λ m. slice_get m.atoms i >>= (λ b. at_end τ b path))) ≡ (p >>= (λ m. slice_get m.atoms i >>= (λ b. at_end t b path)))
        by None p e n go = ap (λ q. q >>= (λ m. slice_get m.atoms i >>= (λ b. at_end t b path))) e
        by (Some m) p e n go = at m.atoms (slice_get m.atoms i) n refl go ∙ ap (λ q. q >>= (λ m. slice_get m.atoms i >>= (λ b. at_end t b path))) e

  -- ---- Tests

  module _ (texts : List (List ℕ)) (K L : Known) (a : Apart X Y K L) where
    answer_same : (w : Wanted) (b : Atom) → Unmet Y (λ z. uses_atom z b) → answer texts K.τ w b ≡ answer texts L.τ w b
    answer_same w (atom.Var y) u = ap (λ o. o >>= (λ t. says_made w t.shape)) (a.blocks y (used_other Y y u)).0
    answer_same w (atom.Constant k) u = refl

    end_none : (path : List ℕ) (b c : Atom) → Unmet Y (λ z. uses_atom z b) → at_end K.τ b path ≡ Some c → Unmet Y (λ z. uses_atom z c)
    end_none [] b c u e = some_eq (λ d. Unmet Y (λ z. uses_atom z d)) b c e u
    end_none (i ∷ path) b c u e = by (block_of K.τ b) (block_same K.τ L.τ a.blocks b u).1 e (λ d v f. end_none path d c v f)
      where
        at : (us : List Atom) (o : Option Atom) → Unmet Y (λ z. uses_atoms z us) → slice_get us i ≡ o → (o >>= (λ d. at_end K.τ d path)) ≡ Some c → ((d : Atom) → Unmet Y (λ z. uses_atom z d) → at_end K.τ d path ≡ Some c → Unmet Y (λ z. uses_atom z c)) → Unmet Y (λ z. uses_atom z c)
        at us None n q e go = absurd (cc)
        at us (Some d) n q e go = go d (field_none us i d n q) e

        by : (o : Option Made) → NotIn Y o → (o >>= (λ m. slice_get m.atoms i >>= (λ d. at_end K.τ d path))) ≡ Some c → ((d : Atom) → Unmet Y (λ z. uses_atom z d) → at_end K.τ d path ≡ Some c → Unmet Y (λ z. uses_atom z c)) → Unmet Y (λ z. uses_atom z c)
        by None n e go = absurd (cc)
        by (Some m) n e go = at m.atoms (slice_get m.atoms i) n refl e go

    verdict_same : (b : Atom) (t : Test) → Unmet Y (λ z. uses_atom z b) → verdict texts K.τ b t ≡ verdict texts L.τ b t
    verdict_same b t u = by (at_end K.τ b t.path) refl ∙ ap (λ o. o >>= answer texts L.τ t.want) (end_same K.τ L.τ a.blocks t.path b u)
      where
        by : (o : Option Atom) → at_end K.τ b t.path ≡ o → (o >>= answer texts K.τ t.want) ≡ (o >>= answer texts L.τ t.want)
        by None e = refl
        by (Some c) e = answer_same t.want c (end_none t.path b c u e)

    tests_same : (b : Atom) (ts : List Test) → Unmet Y (λ z. uses_atom z b) → Unmet X (λ z. uses_tests z ts) → tests_left texts K b ts ≡ tests_left texts L b ts
    tests_same b [] u h = refl
    tests_same b (t ∷ ts) u h =
        ap (λ v. test_left v (test_in K.σ t) (tests_left texts K b ts)) (verdict_same b t u)
        ∙ ap (λ v. test_left (verdict texts L.τ b t) v (tests_left texts K b ts)) (test_same K.σ L.σ a.places t (λ z g. let q1 = h z g in omega arith))
        ∙ ap (test_left (verdict texts L.τ b t) (test_in L.σ t)) (tests_same b ts u (λ z g. let q1 = h z g in omega arith))

  -- ---- Functions

  names_stay_same : (role : Roles) (fs : Functions) (σ ς : ℕ → Atom) → Unmet X (λ z. weigh_functions (of_name z) fs) → SamePlaces X Y σ ς → SamePlaces X Y (names_stay role fs σ) (names_stay role fs ς)
  names_stay_same role NoFunction σ ς w h = h
  names_stay_same role (Function f p params b fs) σ ς w h = names_stay_same role fs (staying (role f params b) f σ) (staying (role f params b) f ς) (λ z g. let q1 = w z g in omega arith) (by (role f params b))
    where
      by : (r : Role) → SamePlaces X Y (staying r f σ) (staying r f ς)
      by Stays = bind_itself σ ς f (λ z g. let q1 = w z g in omega arith) h
      by Dropped = h
      by (Replaced y) = h
      by Placed = h

  names_replaced_same : (all : Functions) (c : Code) (fs : Functions) (σ ς : ℕ → Atom) → Unmet X (λ z. uses_functions z fs) → SamePlaces X Y σ ς → SamePlaces X Y (names_replaced (role_in all c) fs σ) (names_replaced (role_in all c) fs ς)
  names_replaced_same all c NoFunction σ ς u h = h
  names_replaced_same all c (Function f p params b fs) σ ς u h =
      names_replaced_same all c fs (replaced (role_in all c f params b) f σ) (replaced (role_in all c f params b) f ς) (λ z g. let q1 = u z g in omega arith) (by (role_in all c f params b) refl)
    where
      target : (y : ℕ) → role_in all c f params b ≡ Replaced y → X y ≡ false
      target y e =
          let k = etas all c f params b y e in
          used_other X y (λ z g. let v = ap (uses z) k.code in let q1 = u z g in omega arith)

      by : (r : Role) → role_in all c f params b ≡ r → SamePlaces X Y (replaced r f σ) (replaced r f ς)
      by (Replaced y) e = let d = h y (target y e) in bind_places σ ς f (σ y) (ς y) d.0 d.1 h
      by Stays e = h
      by Dropped e = h
      by Placed e = h

  names_same : (fs : Functions) (c : Code) (σ ς : ℕ → Atom) → Unmet X (λ z. uses_functions z fs) → Unmet X (λ z. weigh_functions (of_name z) fs) → SamePlaces X Y σ ς → SamePlaces X Y (names_in (role_in fs c) fs σ) (names_in (role_in fs c) fs ς)
  names_same fs c σ ς u w h = names_replaced_same fs c fs (names_stay (role_in fs c) fs σ) (names_stay (role_in fs c) fs ς) u (names_stay_same (role_in fs c) fs σ ς w h)

  placed_same : (r : Role) (f : ℕ) (i j : Inlined) (ι κ : ℕ → Option Inlined) → SameBody Y (Some i) (Some j) → ((g : ℕ) → X g ≡ false → SameBody Y (ι g) (κ g)) → (g : ℕ) → X g ≡ false → SameBody Y (placed r f i ι g) (placed r f j κ g)
  placed_same Placed f i j ι κ e h = bind_bodies ι κ f (Some i) (Some j) e h
  placed_same Stays f i j ι κ e h = bind_bodies ι κ f None None tt h
  placed_same Dropped f i j ι κ e h = bind_bodies ι κ f None None tt h
  placed_same (Replaced y) f i j ι κ e h = bind_bodies ι κ f None None tt h

  function_same : (r : Role) (f : ℕ) (p : Point) (params : List ℕ) (b d : Code) (fs gs : Functions) → b ≡ d → fs ≡ gs → function_left r f p params b fs ≡ function_left r f p params d gs
  function_same r f p params b d fs gs e h = ap (λ c. function_left r f p params c fs) e ∙ ap (function_left r f p params d) h

  call_same : (o q : Option Inlined) (τ t : ℕ → Option Made) (a : Atom) (us : List Atom) → SameBody Y o q → Unmet Y (λ z. uses_atoms z us) → SameBlocks Y τ t → call_left o τ a us ≡ call_left q t a us
  call_same None None τ t a us e u h = refl
  call_same None (Some j) τ t a us e u h = absurd e
  call_same (Some i) None τ t a us e u h = absurd e
  call_same (Some i) (Some j) τ t a us e u h =
      ap (λ ps. cond (nat_eq (length us) (length ps)) (i.code us τ) (Call a us)) e.0 ∙ ap (λ c. cond (nat_eq (length us) (length j.params)) c (Call a us)) (e.1 us τ t u h)

  pick_same : (o : Option Atom) (f g : Atom → Code) (c d : Code) → ((b : Atom) → o ≡ Some b → f b ≡ g b) → c ≡ d → pick_left o f c ≡ pick_left o g d
  pick_same None f g c d h e = e
  pick_same (Some b) f g c d h e = h b refl

  rule_same : (o : Option (List Test)) (c d : Code) (rs ss : Rules) → c ≡ d → rs ≡ ss → rule_left o c rs ≡ rule_left o d ss
  rule_same o c d rs ss e f = ap (λ b. rule_left o b rs) e ∙ ap (rule_left o d) f

  -- ---- The walk

  module _ (texts : List (List ℕ)) where
    mutual
      pub same_walk : (c : Code) (K L : Known) → Unmet X (λ z. uses z c) → Unmet X (λ z. weigh (of_name z) c) → Apart X Y K L → walk texts K c ≡ walk texts L c
      same_walk (Make y shape us c) K L u w a =
          let e = atoms_same K.σ L.σ a.places us (λ z g. let q1 = u z g in let q2 = w z g in omega arith) in
          let t = known_as shape (atoms_in K.σ us) in
          let s = known_as shape (atoms_in L.σ us) in
          cond_same (is_unused y c) (walk texts K c) (walk texts L c) (Make y shape (atoms_in K.σ us) (walk texts (binding K y t) c)) (Make y shape (atoms_in L.σ us) (walk texts (binding L y s) c))
          (same_walk c K L (λ z g. let q1 = u z g in let q2 = w z g in omega arith) (λ z g. let q1 = u z g in let q2 = w z g in omega arith) a)
          (ap (λ bs. Make y shape bs (walk texts (binding K y t) c)) e.0
          ∙ ap (Make y shape (atoms_in L.σ us)) (same_walk c (binding K y t) (binding L y s) (λ z g. let q1 = u z g in let q2 = w z g in omega arith) (λ z g. let q1 = u z g in let q2 = w z g in omega arith) (apart_binding K L y t s (λ z g. let q1 = u z g in let q2 = w z g in omega arith) (ap (known_as shape) e.0) (known_none shape (atoms_in K.σ us) e.1) a)))
      same_walk (Pick y i b c) K L u w a =
          let e = atom_same K.σ L.σ a.places b (λ z g. let q1 = u z g in let q2 = w z g in omega arith) in
          let f = field_same K.τ L.τ a.blocks (atom_in K.σ b) i e.1 ∙ ap (λ d. known_field L.τ d i) e.0 in
          let o = known_field K.τ (atom_in K.σ b) i in
          cond_same (is_unused y c) (walk texts K c) (walk texts L c)
          (pick_left o (λ d. walk texts (replacing K y d) c) (Pick y i (atom_in K.σ b) (walk texts (binding K y None) c)))
          (pick_left (known_field L.τ (atom_in L.σ b) i) (λ d. walk texts (replacing L y d) c) (Pick y i (atom_in L.σ b) (walk texts (binding L y None) c)))
          (same_walk c K L (λ z g. let q1 = u z g in let q2 = w z g in omega arith) (λ z g. let q1 = u z g in let q2 = w z g in omega arith) a)
          (pick_same o (λ d. walk texts (replacing K y d) c) (λ d. walk texts (replacing L y d) c) (Pick y i (atom_in K.σ b) (walk texts (binding K y None) c)) (Pick y i (atom_in L.σ b) (walk texts (binding L y None) c))
          (λ d q. same_walk c (replacing K y d) (replacing L y d) (λ z g. let q1 = u z g in let q2 = w z g in omega arith) (λ z g. let q1 = u z g in let q2 = w z g in omega arith) (apart_replacing K L y d (field_known K.τ L.τ a.blocks (atom_in K.σ b) i d e.1 q) a))
          (ap (λ d. Pick y i d (walk texts (binding K y None) c)) e.0 ∙ ap (Pick y i (atom_in L.σ b)) (same_walk c (binding K y None) (binding L y None) (λ z g. let q1 = u z g in let q2 = w z g in omega arith) (λ z g. let q1 = u z g in let q2 = w z g in omega arith) (apart_binding K L y None None (λ z g. let q1 = u z g in let q2 = w z g in omega arith) refl tt a)))
          ∙ ap (λ q. pick_left q (λ d. walk texts (replacing L y d) c) (Pick y i (atom_in L.σ b) (walk texts (binding L y None) c))) f)
      same_walk (Prim y p us c) K L u w a =
          let e = atoms_same K.σ L.σ a.places us (λ z g. let q1 = u z g in let q2 = w z g in omega arith) in
          cond_same (is_pure p && is_unused y c) (walk texts K c) (walk texts L c) (Prim y p (atoms_in K.σ us) (walk texts (binding K y None) c)) (Prim y p (atoms_in L.σ us) (walk texts (binding L y None) c))
          (same_walk c K L (λ z g. let q1 = u z g in let q2 = w z g in omega arith) (λ z g. let q1 = u z g in let q2 = w z g in omega arith) a)
          (ap (λ bs. Prim y p bs (walk texts (binding K y None) c)) e.0
          ∙ ap (Prim y p (atoms_in L.σ us)) (same_walk c (binding K y None) (binding L y None) (λ z g. let q1 = u z g in let q2 = w z g in omega arith) (λ z g. let q1 = u z g in let q2 = w z g in omega arith) (apart_binding K L y None None (λ z g. let q1 = u z g in let q2 = w z g in omega arith) refl tt a)))
      same_walk (Equal b d t k) K L u w a =
          ap (λ z. Equal z (atom_in K.σ d) t (atom_in K.σ k)) (atom_same K.σ L.σ a.places b (λ z g. let q1 = u z g in let q2 = w z g in omega arith)).0
          ∙ ap (λ z. Equal (atom_in L.σ b) z t (atom_in K.σ k)) (atom_same K.σ L.σ a.places d (λ z g. let q1 = u z g in let q2 = w z g in omega arith)).0
          ∙ ap (λ z. Equal (atom_in L.σ b) (atom_in L.σ d) t z) (atom_same K.σ L.σ a.places k (λ z g. let q1 = u z g in let q2 = w z g in omega arith)).0
      same_walk (Fix fs c) K L u w a =
          let role = role_in fs c in
          let σ = names_in role fs K.σ in
          let ς = names_in role fs L.σ in
          let h = names_same fs c K.σ L.σ (λ z g. let q1 = u z g in let q2 = w z g in omega arith) (λ z g. let q1 = u z g in let q2 = w z g in omega arith) a.places in
          ap (λ gs. fix_left gs (walk texts (known σ K.τ (bodies_walk texts role σ fs K.ι)) c)) (same_functions role fs σ ς (λ z g. let q1 = u z g in let q2 = w z g in omega arith) (λ z g. let q1 = u z g in let q2 = w z g in omega arith) h)
          ∙ ap (fix_left (functions_walk texts role ς fs))
          (same_walk c (known σ K.τ (bodies_walk texts role σ fs K.ι)) (known ς L.τ (bodies_walk texts role ς fs L.ι)) (λ z g. let q1 = u z g in let q2 = w z g in omega arith) (λ z g. let q1 = u z g in let q2 = w z g in omega arith)
          (record { places = h; blocks = a.blocks; bodies = same_bodies role fs σ ς K.ι L.ι (λ z g. let q1 = u z g in let q2 = w z g in omega arith) (λ z g. let q1 = u z g in let q2 = w z g in omega arith) h a.bodies }))
      same_walk (Call b us) K L u w a =
          let e = atom_same K.σ L.σ a.places b (λ z g. let q1 = u z g in let q2 = w z g in omega arith) in
          let f = atoms_same K.σ L.σ a.places us (λ z g. let q1 = u z g in let q2 = w z g in omega arith) in
          call_same (inlined_of K.ι b) (inlined_of L.ι b) K.τ L.τ (atom_in K.σ b) (atoms_in K.σ us) (inlined_same b (λ z g. let q1 = u z g in let q2 = w z g in omega arith)) f.1 a.blocks
          ∙ ap (λ d. call_left (inlined_of L.ι b) L.τ d (atoms_in K.σ us)) e.0
          ∙ ap (call_left (inlined_of L.ι b) L.τ (atom_in L.σ b)) f.0
        where
          inlined_same : (b : Atom) → Unmet X (λ z. uses_atom z b) → SameBody Y (inlined_of K.ι b) (inlined_of L.ι b)
          inlined_same (atom.Var f) v = a.bodies f (used_other X f v)
          inlined_same (atom.Constant k) v = tt
      same_walk (Match b rules) K L u w a =
          let e = atom_same K.σ L.σ a.places b (λ z g. let q1 = u z g in let q2 = w z g in omega arith) in
          ap (match_left (atom_in K.σ b)) (same_rules rules K L (atom_in K.σ b) (λ z g. let q1 = u z g in let q2 = w z g in omega arith) (λ z g. let q1 = u z g in let q2 = w z g in omega arith) e.1 a)
          ∙ ap (λ d. match_left d (rules_walk texts L d rules)) e.0
      same_walk (Handler y c) K L u w a = ap (Handler y) (same_walk c (binding K y None) (binding L y None) u (λ z g. let q1 = u z g in let q2 = w z g in omega arith) (apart_binding K L y None None (λ z g. let q1 = u z g in let q2 = w z g in omega arith) refl tt a))
      same_walk (SetHandler b c) K L u w a =
          ap (λ d. SetHandler d (walk texts K c)) (atom_same K.σ L.σ a.places b (λ z g. let q1 = u z g in let q2 = w z g in omega arith)).0 ∙ ap (SetHandler (atom_in L.σ b)) (same_walk c K L (λ z g. let q1 = u z g in let q2 = w z g in omega arith) (λ z g. let q1 = u z g in let q2 = w z g in omega arith) a)
      same_walk (Throw b) K L u w a = ap Throw (atom_same K.σ L.σ a.places b u).0
      same_walk Halt K L u w a = refl

      same_functions : (role : Roles) (fs : Functions) (σ ς : ℕ → Atom) → Unmet X (λ z. uses_functions z fs) → Unmet X (λ z. weigh_functions (of_name z) fs) → SamePlaces X Y σ ς → functions_walk texts role σ fs ≡ functions_walk texts role ς fs
      same_functions role NoFunction σ ς u w h = refl
      same_functions role (Function f p params b fs) σ ς u w h =
          function_same (role f params b) f p params (walk texts (within σ params) b) (walk texts (within ς params) b) (functions_walk texts role σ fs) (functions_walk texts role ς fs)
          (same_walk b (within σ params) (within ς params) (λ z g. let q1 = u z g in let q2 = w z g in omega arith) (λ z g. let q1 = u z g in let q2 = w z g in omega arith) (record { places = params_same params σ ς (λ z g. let q1 = u z g in let q2 = w z g in omega arith) h; blocks = none_same; bodies = λ g d. tt }))
          (same_functions role fs σ ς (λ z g. let q1 = u z g in let q2 = w z g in omega arith) (λ z g. let q1 = u z g in let q2 = w z g in omega arith) h)

      same_bodies : (role : Roles) (fs : Functions) (σ ς : ℕ → Atom) (ι κ : ℕ → Option Inlined) → Unmet X (λ z. uses_functions z fs) → Unmet X (λ z. weigh_functions (of_name z) fs) → SamePlaces X Y σ ς → ((g : ℕ) → X g ≡ false → SameBody Y (ι g) (κ g)) → (g : ℕ) → X g ≡ false → SameBody Y (bodies_walk texts role σ fs ι g) (bodies_walk texts role ς fs κ g)
      same_bodies role NoFunction σ ς ι κ u w h e = e
      same_bodies role (Function f p params b fs) σ ς ι κ u w h e =
          let i : Inlined = record { params = params; code = λ atoms τ. walk texts (known (with_arguments σ params atoms) τ nothing) b } in
          let j : Inlined = record { params = params; code = λ atoms τ. walk texts (known (with_arguments ς params atoms) τ nothing) b } in
          same_bodies role fs σ ς (placed (role f params b) f i ι) (placed (role f params b) f j κ) (λ z g. let q1 = u z g in let q2 = w z g in omega arith) (λ z g. let q1 = u z g in let q2 = w z g in omega arith) h
          (placed_same (role f params b) f i j ι κ
          (refl, (λ atoms τ t v k. same_walk b (known (with_arguments σ params atoms) τ nothing) (known (with_arguments ς params atoms) t nothing) (λ z g. let q1 = u z g in let q2 = w z g in omega arith) (λ z g. let q1 = u z g in let q2 = w z g in omega arith) (record { places = arguments_same params atoms σ ς v h; blocks = k; bodies = λ g d. tt })))
          e)

      same_rules : (rules : Rules) (K L : Known) (b : Atom) → Unmet X (λ z. uses_rules z rules) → Unmet X (λ z. weigh_rules (of_name z) rules) → Unmet Y (λ z. uses_atom z b) → Apart X Y K L → rules_walk texts K b rules ≡ rules_walk texts L b rules
      same_rules (Otherwise c) K L b u w v a = ap Otherwise (same_walk c K L u w a)
      same_rules (Rule ts c rules) K L b u w v a =
          ap (λ o. rule_left o (walk texts K c) (rules_walk texts K b rules)) (tests_same texts K L a b ts v (λ z g. let q1 = u z g in let q2 = w z g in omega arith))
          ∙ rule_same (tests_left texts L b ts) (walk texts K c) (walk texts L c) (rules_walk texts K b rules) (rules_walk texts L b rules) (same_walk c K L (λ z g. let q1 = u z g in let q2 = w z g in omega arith) (λ z g. let q1 = u z g in let q2 = w z g in omega arith) a) (same_rules rules K L b (λ z g. let q1 = u z g in let q2 = w z g in omega arith) (λ z g. let q1 = u z g in let q2 = w z g in omega arith) v a)
