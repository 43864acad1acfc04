-- That what a walk knows at a place is what the relation's scope knows there.
use Rattle.std.proofs.Common.{◌≡◌, ◌≢◌, ℕ, suc, ◌+◌, ◌≤◌, List, [], ◌∷◌, length, Option, Some, None, slice_get, Bool, true, false, cond, refl, sym, ap, ◌∙◌, subst, arith, ⊎_elim, eqb-true, nat_eq}
use Rattle.simulation.proofs.Lists.{some_eq}
use Rattle.sml_def.specs.Maybe.{◌>>=◌}
use Rattle.cps_ir.specs.declared.atom.Atom.{Atom}
use Rattle.cps_ir.specs.declared.atom.Wanted.{Wanted}
use Rattle.cps_ir.specs.declared.atom.Test.{Test}
use Rattle.cps_ir.specs.declared.atom.Shape.{Shape}
use Rattle.cps_ir.specs.declared.atom.Atom.TheVariants as atom
use Rattle.cps_ir.specs.declared.atom.Shape.TheVariants as form
use Rattle.cps_ir.specs.declared.atom.Wanted.TheVariants as want
use Rattle.cps_ir.specs.Free.{vars, vars_all, vars_wanted, vars_tests}
use Rattle.cps_ir.specs.State.{bind}
use Rattle.contract_laws.specs.Contract.{Made, Body, Scope, scope, nothing, AtomAt, AtomsAt, WantedAt, wants_num, wants_tag, wants_text, wants_exn, kept, lost, given_atoms, is_constant, says, says_made, Leads, here, there, Says, by_constant, by_block, IsKnown, known, Left, none, left, holds, Fails, first, later}
use Rattle.contract_laws.specs.Weigh.{Scale, weigh, names_weigh, of_name}
use Rattle.contract_laws.proofs.Relation.{eqb_other, bind_same, bind_other}
use Rattle.contract_laws.proofs.Free.{In, in_left, in_right, one_in, bind_cases}
use Rattle.contract_round.specs.Round.{Inlined, Known, binding, replacing, atom_in, atoms_in, wanted_in, test_in, block_of, if_tuple, field_of_tuple, known_field, at_end, answer, verdict, test_left, tests_left}
use Rattle.contract_round.proofs.Facts.{own, own_same}
use Rattle.contract_round.proofs.Walked.{Walked}

-- ---- Atoms

pub atom_at : (S : ℕ → Option Atom) (σ : ℕ → Atom) (a : Atom) → ((x : ℕ) → In x (vars a) → S x ≡ Some (σ x)) → AtomAt S a (atom_in σ a)
atom_at S σ (atom.Var x) n = n x (one_in x x refl)
atom_at S σ (atom.Constant k) n = refl

pub atoms_at : (S : ℕ → Option Atom) (σ : ℕ → Atom) (us : List Atom) → ((x : ℕ) → In x (vars_all us) → S x ≡ Some (σ x)) → AtomsAt S us (atoms_in σ us)
atoms_at S σ [] n = tt
atoms_at S σ (a ∷ us) n =
    (atom_at S σ a (λ x i. n x (in_left x (vars a) (vars_all us) i)), atoms_at S σ us (λ x i. n x (in_right x (vars a) (vars_all us) i)))

-- ---- Blocks

-- each block that the walk knows is known, and bound in the answer
abbrev pub Blocks : (ℕ → Option Made) → (ℕ → Option Made) → List ℕ → Type 0
Blocks τ T ns = (z : ℕ) (t : Made) → τ z ≡ Some t → (T z ≡ Some t) × (1 ≤ names_weigh (of_name z) ns)

pub blocks_bound : (τ T : ℕ → Option Made) (ns : List ℕ) (x : ℕ) (t : Option Made) → Blocks τ T ns → Blocks (bind τ x t) (bind T x t) (x ∷ ns)
blocks_bound τ T ns x t h z m e = ⊎_elim
    (λ (u : (z ≡ x) × (t ≡ Some m)). (subst (λ y. bind T x t y ≡ Some m) (sym u.0) (bind_same T x t ∙ u.1), let k = own_same z x u.0 in omega arith))
    (λ (u : (z ≢ x) × (τ z ≡ Some m)). let k = h z m u.1 in let l = k.1 in (bind_other T x t z u.0 ∙ k.0, omega arith))
    (bind_cases τ x t z m e)

-- a name that is new in the answer is no block
pub blocks_other : (τ T : ℕ → Option Made) (ns : List ℕ) (x : ℕ) → names_weigh (of_name x) ns ≡ 0 → Blocks τ T ns → Blocks τ (bind T x None) (x ∷ ns)
blocks_other τ T ns x new h z m e =
    let k = h z m e in
    let l = k.1 in
    (bind_other T x None z (λ (q : z ≡ x). let j : names_weigh (of_name z) ns ≡ 0 = subst (λ y. names_weigh (of_name y) ns ≡ 0) (sym q) new in absurd (omega arith)) ∙ k.0, omega arith)

-- ---- Tests

out_of_then : {A B : Type 0} (o : Option A) (f : A → Option B) (b : B) → (o >>= f) ≡ Some b → (a : A) × (o ≡ Some a) × (f a ≡ Some b)
out_of_then None f b e = absurd (cc)
out_of_then (Some a) f b e = (a, refl, e)

of_tuple : (f : Shape) (o : Option Atom) (b : Atom) → if_tuple f o ≡ Some b → o ≡ Some b
of_tuple form.Tuple o b e = e
of_tuple (form.Applied n) o b e = absurd (cc)
of_tuple form.Cell o b e = absurd (cc)
of_tuple (form.ExnName n) o b e = absurd (cc)
of_tuple form.Packet o b e = absurd (cc)

nothing_then : (o : Option (List Test)) (t : Test) → (o >>= (λ rest. Some (t ∷ rest))) ≡ None → o ≡ None
nothing_then None t h = refl
nothing_then (Some us) t h = absurd (cc)

module _ (texts : List (List ℕ)) (K : Known) (T : ℕ → Option Made) (ns : List ℕ) (blocks : Blocks K.τ T ns) where
  block_at : (a : Atom) (t : Made) → block_of K.τ a ≡ Some t → (x : ℕ) × (a ≡ atom.Var x) × (T x ≡ Some t)
  block_at (atom.Var x) t e = let k = blocks x t e in (x, refl, k.0)
  block_at (atom.Constant k) t e = absurd (cc)

  pub field_at : (a : Atom) (i : ℕ) (b : Atom) → known_field K.τ a i ≡ Some b → (z : ℕ) × (t : Made) × (a ≡ atom.Var z) × (T z ≡ Some t) × (slice_get t.atoms i ≡ Some b)
  field_at a i b e =
      let m = out_of_then (block_of K.τ a) (field_of_tuple i) b e in
      let k = block_at a m.0 m.1 in
      (k.0, m.0, k.1, k.2, of_tuple m.0.shape (slice_get m.0.atoms i) b m.2)

  leads : (a : Atom) (path : List ℕ) (b : Atom) → at_end K.τ a path ≡ Some b → Leads T a path b
  leads a [] b e = some_eq (λ t. Leads T a [] t) a b e (here a)
  leads a (i ∷ path) b e =
      let m = out_of_then (block_of K.τ a) (λ t. slice_get t.atoms i >>= (λ c. at_end K.τ c path)) b e in
      let n = out_of_then (slice_get m.0.atoms i) (λ c. at_end K.τ c path) b m.2 in
      let k = block_at a m.0 m.1 in
      subst (λ t. Leads T t (i ∷ path) b) (sym k.1) (there k.0 i m.0 n.0 b path k.2 n.1 (leads n.0 path b n.2))

  answers : (a : Atom) (w : Wanted) (b : Bool) → answer texts K.τ w a ≡ Some b → Says texts T a w b
  answers (atom.Var x) w b e =
      let m = out_of_then (K.τ x) (λ t. says_made w t.shape) b e in
      let k = blocks x m.0 m.1 in
      by_block x m.0 w b k.0 m.2
  answers (atom.Constant k) w b e = by (is_constant w) refl e
    where
      by : (c : Bool) → is_constant w ≡ c → cond c (says texts w k) None ≡ Some b → Says texts T (atom.Constant k) w b
      by true g h = by_constant k w b g h
      by false g h = absurd (cc)

  verdicts : (a : Atom) (t : Test) (b : Bool) → verdict texts K.τ a t ≡ Some b → IsKnown texts T a t b
  verdicts a t b e =
      let m = out_of_then (at_end K.τ a t.path) (answer texts K.τ t.want) b e in
      known m.0 (leads a t.path m.0 m.1) (answers m.0 t.want b m.2)

  pub tests_fail : (a : Atom) (ts : List Test) → tests_left texts K a ts ≡ None → Fails texts T a ts
  tests_fail a [] e = absurd (cc)
  tests_fail a (t ∷ ts) e = by (verdict texts K.τ a t) refl (tests_fail a ts) e
    where
      by : (o : Option Bool) → verdict texts K.τ a t ≡ o → (tests_left texts K a ts ≡ None → Fails texts T a ts) → test_left o (test_in K.σ t) (tests_left texts K a ts) ≡ None → Fails texts T a (t ∷ ts)
      by (Some false) g r h = first t ts (verdicts a t false g)
      by (Some true) g r h = later t ts (r h)
      by None g r h = later t ts (r (nothing_then (tests_left texts K a ts) (test_in K.σ t) h))

  module _ (S : ℕ → Option Atom) where
    wanted_at : (w : Wanted) → ((x : ℕ) → In x (vars_wanted w) → S x ≡ Some (K.σ x)) → WantedAt S w (wanted_in K.σ w)
    wanted_at (want.Num z) n = wants_num z
    wanted_at (want.Tag t) n = wants_tag t
    wanted_at (want.Text t) n = wants_text t
    wanted_at (want.Exn a applied) n = wants_exn a (atom_in K.σ a) applied (atom_at S K.σ a n)

    pub tests_stay : (a : Atom) (ts us : List Test) → ((x : ℕ) → In x (vars_tests ts) → S x ≡ Some (K.σ x)) → tests_left texts K a ts ≡ Some us → Left texts S T a ts us
    tests_stay a [] us n e = some_eq (λ t. Left texts S T a [] t) [] us e none
    tests_stay a (t ∷ ts) us n e = by (verdict texts K.τ a t) refl (λ vs h. tests_stay a ts vs (λ x i. n x (in_right x (vars_wanted t.want) (vars_tests ts) i)) h) e
      where
        by : (o : Option Bool) → verdict texts K.τ a t ≡ o → ((vs : List Test) → tests_left texts K a ts ≡ Some vs → Left texts S T a ts vs) → test_left o (test_in K.σ t) (tests_left texts K a ts) ≡ Some us → Left texts S T a (t ∷ ts) us
        by (Some false) g r h = absurd (cc)
        by (Some true) g r h = holds t ts us (verdicts a t true g) (r us h)
        by None g r h =
            let m = out_of_then (tests_left texts K a ts) (λ rest. Some (test_in K.σ t ∷ rest)) us h in
            some_eq (λ v. Left texts S T a (t ∷ ts) v) (test_in K.σ t ∷ m.0) us m.2
            (left t (test_in K.σ t) ts m.0 (record { path = refl; wanted = wanted_at t.want (λ x i. n x (in_left x (vars_wanted t.want) (vars_tests ts) i)) }) (r m.0 m.1))

-- ---- What is known at a place

-- nothing is put in
abbrev pub nobody_pays : Scale → ℕ → ℕ
nobody_pays s f = 0

-- A function that is put where it is called. In this part it is used u times, called k times with its number of arguments, and names are
-- bound v times. Its body becomes a part of a round wherever none of its names is bound.
pub record IsInlined (texts : List (List ℕ)) (S : Scope) (W : Scale → ℕ → ℕ) (f : ℕ) (i : Inlined) (u : ℕ) (k : ℕ → ℕ) (v : ℕ → ℕ) : Type 0 where
  pub body : Body
  pub is : S.ι f ≡ Some body
  pub params : body.params ≡ i.params
  pub called : u ≤ k (length i.params)
  pub pays : (s : Scale) → weigh s body.code ≤ W s f
  pub apart : (x : ℕ) → weigh (of_name x) body.code + (v x + names_weigh (of_name x) S.ns) ≤ 1
  pub walks : (bs : List Atom) (τ T : ℕ → Option Made) (ns : List ℕ) → length bs ≡ length i.params → Blocks τ T ns → ((x : ℕ) → weigh (of_name x) body.code + names_weigh (of_name x) ns ≤ 1) → Walked texts (scope (given_atoms body.σ body.params bs) T nothing ns) nobody_pays body.code (i.code bs τ)

-- in a part with these free names, uses, calls and bound names
pub record Agrees (texts : List (List ℕ)) (K : Known) (S : Scope) (W : Scale → ℕ → ℕ) (fr : List ℕ) (u : ℕ → ℕ) (k : ℕ → ℕ → ℕ) (v : ℕ → ℕ) : Type 0 where
  pub names : (x : ℕ) → In x fr → K.ι x ≡ None → S.σ x ≡ Some (K.σ x)
  pub blocks : Blocks K.τ S.τ S.ns
  pub bodies : (f : ℕ) (i : Inlined) → 1 ≤ u f → K.ι f ≡ Some i → IsInlined texts S W f i (u f) (k f) v

module _ {texts : List (List ℕ)} {K : Known} {S : Scope} {W : Scale → ℕ → ℕ} {fr : List ℕ} {u : ℕ → ℕ} {k : ℕ → ℕ → ℕ} {v : ℕ → ℕ} where
  -- an atom that stands elsewhere than as what is called
  pub direct : Agrees texts K S W fr u k v → (x : ℕ) → In x fr → ((n : ℕ) → suc (k x n) ≤ u x) → S.σ x ≡ Some (K.σ x)
  direct a x i other = by (K.ι x) refl
    where
      by : (o : Option Inlined) → K.ι x ≡ o → S.σ x ≡ Some (K.σ x)
      by None e = a.names x i e
      by (Some b) e =
          let n = other (length b.params) in
          let r = a.bodies x b (omega arith) e in
          let c = r.called in
          absurd (omega arith)

module _ {texts : List (List ℕ)} {K : Known} {S : Scope} {W : Scale → ℕ → ℕ} {fr fr' : List ℕ} {u u' : ℕ → ℕ} {k k' : ℕ → ℕ → ℕ} {v v' : ℕ → ℕ} where
  -- a part of the part
  pub narrow : Agrees texts K S W fr u k v → ((x : ℕ) → In x fr' → In x fr) → ((f : ℕ) → u' f ≤ u f) → ((f n : ℕ) → u f ≤ k f n → u' f ≤ k' f n) → ((x : ℕ) → v' x ≤ v x) → Agrees texts K S W fr' u' k' v'
  narrow a free fewer called less = record {
    names = λ x i. a.names x (free x i);
    blocks = a.blocks;
    bodies = λ f i n e.
        let l = fewer f in
        let r = a.bodies f i (omega arith) e in
        record {
          body = r.body;
          is = r.is;
          params = r.params;
          called = called f (length i.params) r.called;
          pays = r.pays;
          apart = λ x. let p = r.apart x in let q = less x in omega arith;
          walks = r.walks;
        };
  }

  -- x is bound in both
  pub bound : (x : ℕ) (t : Option Made) → Agrees texts K S W fr u k v → ((y : ℕ) → In y fr' → y ≢ x → In y fr) → ((f : ℕ) → u' f ≤ u f) → ((f n : ℕ) → u f ≤ k f n → u' f ≤ k' f n) → ((y : ℕ) → own y x + v' y ≤ v y) → Agrees texts (binding K x t) (kept S x t) W fr' u' k' v'
  bound x t a free fewer called less = record {
    names = names;
    blocks = blocks_bound K.τ S.τ S.ns x t a.blocks;
    bodies = λ f i n e. ⊎_elim
        (λ (q : (f ≡ x) × (None ≡ Some i)). absurd (let z = q.1 in cc))
        (λ (q : (f ≢ x) × (K.ι f ≡ Some i)).
        let l = fewer f in
        let r = a.bodies f i (omega arith) q.1 in
        record {
          body = r.body;
          is = bind_other S.ι x None f q.0 ∙ r.is;
          params = r.params;
          called = called f (length i.params) r.called;
          pays = r.pays;
          apart = λ y. let p = r.apart y in let z = less y in omega arith;
          walks = r.walks;
        })
        (bind_cases K.ι x None f i e);
  }
    where
      names : (y : ℕ) → In y fr' → bind K.ι x None y ≡ None → bind S.σ x (Some (atom.Var x)) y ≡ Some (bind K.σ x (atom.Var x) y)
      names y i e = by (nat_eq y x) refl
        where
          by : (c : Bool) → nat_eq y x ≡ c → bind S.σ x (Some (atom.Var x)) y ≡ Some (bind K.σ x (atom.Var x) y)
          by true g =
              let q = eqb-true y x g in
              subst (λ z. bind S.σ x (Some (atom.Var x)) z ≡ Some (bind K.σ x (atom.Var x) z)) (sym q) (bind_same S.σ x (Some (atom.Var x)) ∙ ap Some (sym (bind_same K.σ x (atom.Var x))))
          by false g =
              let q = eqb_other y x g in
              bind_other S.σ x (Some (atom.Var x)) y q ∙ (a.names y (free y i q) (sym (bind_other K.ι x None y q) ∙ e) ∙ ap Some (sym (bind_other K.σ x (atom.Var x) y q)))

  -- an atom stands in the place of x
  pub put_for : (x : ℕ) (b : Atom) → Agrees texts K S W fr u k v → ((y : ℕ) → In y fr' → y ≢ x → In y fr) → ((f : ℕ) → u' f ≤ u f) → ((f n : ℕ) → u f ≤ k f n → u' f ≤ k' f n) → ((y : ℕ) → v' y ≤ v y) → Agrees texts (replacing K x b) (lost S x (Some b) None) W fr' u' k' v'
  put_for x b a free fewer called less = record {
    names = names;
    blocks = a.blocks;
    bodies = λ f i n e. ⊎_elim
        (λ (q : (f ≡ x) × (None ≡ Some i)). absurd (let z = q.1 in cc))
        (λ (q : (f ≢ x) × (K.ι f ≡ Some i)).
        let l = fewer f in
        let r = a.bodies f i (omega arith) q.1 in
        record {
          body = r.body;
          is = bind_other S.ι x None f q.0 ∙ r.is;
          params = r.params;
          called = called f (length i.params) r.called;
          pays = r.pays;
          apart = λ y. let p = r.apart y in let z = less y in omega arith;
          walks = r.walks;
        })
        (bind_cases K.ι x None f i e);
  }
    where
      names : (y : ℕ) → In y fr' → bind K.ι x None y ≡ None → bind S.σ x (Some b) y ≡ Some (bind K.σ x b y)
      names y i e = by (nat_eq y x) refl
        where
          by : (c : Bool) → nat_eq y x ≡ c → bind S.σ x (Some b) y ≡ Some (bind K.σ x b y)
          by true g =
              let q = eqb-true y x g in
              subst (λ z. bind S.σ x (Some b) z ≡ Some (bind K.σ x b z)) (sym q) (bind_same S.σ x (Some b) ∙ ap Some (sym (bind_same K.σ x b)))
          by false g =
              let q = eqb_other y x g in
              bind_other S.σ x (Some b) y q ∙ (a.names y (free y i q) (sym (bind_other K.ι x None y q) ∙ e) ∙ ap Some (sym (bind_other K.σ x b y q)))

  -- x isn't used, and so in neither
  pub unused : (x : ℕ) → Agrees texts K S W fr u k v → ((y : ℕ) → In y fr' → y ≢ x) → ((y : ℕ) → 1 ≤ u' y → y ≢ x) → ((y : ℕ) → In y fr' → y ≢ x → In y fr) → ((f : ℕ) → u' f ≤ u f) → ((f n : ℕ) → u f ≤ k f n → u' f ≤ k' f n) → ((y : ℕ) → v' y ≤ v y) → Agrees texts K (lost S x None None) W fr' u' k' v'
  unused x a others used free fewer called less = record {
    names = λ y i e. let q = others y i in bind_other S.σ x None y q ∙ a.names y (free y i q) e;
    blocks = a.blocks;
    bodies = λ f i n e.
        let q = used f n in
        let l = fewer f in
        let r = a.bodies f i (omega arith) e in
        record {
          body = r.body;
          is = bind_other S.ι x None f q ∙ r.is;
          params = r.params;
          called = called f (length i.params) r.called;
          pays = r.pays;
          apart = λ y. let p = r.apart y in let z = less y in omega arith;
          walks = r.walks;
        };
  }
