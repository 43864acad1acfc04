-- What holds of a state goes over to one with less to be walked.
use Rattle.std.proofs.Common.{◌≡◌, ◌≢◌, ℕ, zero, suc, ◌≤◌, ◌<◌, List, [], ◌∷◌, length, Bool, true, false, Some, None, refl, sym, ap, ◌∙◌, subst, arith, nat_eq, eqb-true}
use Rattle.std.specs.Prelude.{get_or}
use Rattle.std.specs.List.{AllByRecursion}
use Rattle.cps_ir.specs.declared.atom.Atom.{Atom}
use Rattle.cps_ir.specs.declared.atom.Atom.TheVariants as atom
use Rattle.cps_ir.specs.declared.body.Body.{Body}
use Rattle.cps_ir.specs.Code.{Code}
use Rattle.cps_ir.specs.Program.{code_at}
use Rattle.contract_laws.specs.Redex.{uses_atom, uses_atoms}
use Rattle.contract_laws.proofs.Relation.{eqb_other}
use Rattle.contract_round.specs.Round.{atom_in, atoms_in}
use Rattle.contract_round.proofs.Facts.{own_same}
use Rattle.contract_census.specs.declared.counts.Count.{Count}
use Rattle.contract_census.specs.Counted.{IsCensus}
use Rattle.contract_known.specs.declared.blocks.Block.{Block}
use Rattle.contract_known.specs.Known.{place_of}
use Rattle.contract_steps.specs.State.{State}
use Rattle.contract_holds.specs.Open.{all_binds, all_occurs, all_uses, all_inner}
use Rattle.contract_holds.specs.Holds.{Holds}

pub or_same : (x y : ℕ) (P : ℕ → Type 0) → P x → (y ≢ x → P y) → P y
or_same x y P p f = by (nat_eq y x) refl
  where
    by : (b : Bool) → nat_eq y x ≡ b → P y
    by true e = subst P (sym (eqb-true y x e)) p
    by false e = f (eqb_other y x e)

module _ (source : List Body) (counts : List Count) (c : Code) (s : State) (h : Holds source counts c s) where
  -- an atom in which nothing is that is still to be bound stays so
  pub atom_clean : (z : ℕ) → 1 ≤ all_binds source c s z → (a : Atom) → uses_atom z a ≡ 0 → uses_atom z (atom_in (place_of s.places) a) ≡ 0
  atom_clean z b (atom.Var y) u = h.places z y b (λ e. let o = own_same z y (sym e) in absurd (omega arith))
  atom_clean z b (atom.Constant k) u = refl

  pub atoms_clean : (z : ℕ) → 1 ≤ all_binds source c s z → (us : List Atom) → uses_atoms z us ≡ 0 → uses_atoms z (atoms_in (place_of s.places) us) ≡ 0
  atoms_clean z b [] u = refl
  atoms_clean z b (a ∷ us) u = let k = atom_clean z b a (omega arith) in let g = atoms_clean z b us (omega arith) in omega arith

  -- the counts of what is to be walked, and where nothing more is placed
  pub record Less (d : Code) (n : State) : Type 0 where
    pub binds : (x : ℕ) → all_binds source d n x ≤ all_binds source c s x
    pub occurs : (x : ℕ) → 1 ≤ all_binds source d n x → all_occurs source d n x ≤ all_occurs source c s x
    pub uses : (x : ℕ) → all_uses source d n x ≤ all_uses source c s x
    pub inner : (x : ℕ) → all_inner source d n x ≤ all_inner source c s x

  pub less_closed : (d : Code) (n : State) → Less d n → (x : ℕ) → 1 ≤ all_occurs source d n x → all_binds source d n x ≡ 0
  less_closed d n l x o = by (all_binds source d n x) refl
    where
      by : (k : ℕ) → all_binds source d n x ≡ k → k ≡ 0
      by zero e = refl
      by (suc k) e = let p = l.occurs x (omega arith) in let q = l.binds x in let z = h.closed x (omega arith) in absurd (omega arith)

  -- with other bodies and other work, but the same tables
  module _ (d : Code) (n : State) (l : Less d n) (places : n.places ≡ s.places) (blocks : n.blocks ≡ s.blocks) (placed : n.placed ≡ s.placed) (bodies : length s.bodies ≤ length n.bodies) (counted : IsCensus counts d) (work : AllByRecursion (λ t. IsCensus counts (code_at source t.body)) n.work) where
    pub same_tables : Holds source counts d n
    same_tables = record {
      once = λ x. let k = l.binds x in let o = h.once x in omega arith;
      closed = less_closed d n l;
      single = λ f p e. let k = l.uses f in let o = h.single f p (sym (ap (λ t. get_or t f None) placed) ∙ e) in omega arith;
      outer = λ f p e. let k = l.inner f in let o = h.outer f p (sym (ap (λ t. get_or t f None) placed) ∙ e) in omega arith;
      fresh = λ x b. let k = l.binds x in let u = h.fresh x (omega arith) in record {
        has_place = subst (λ t. x < length t) (sym places) u.has_place;
        has_block = subst (λ t. x < length t) (sym blocks) u.has_block;
        has_body = subst (λ t. x < length t) (sym placed) u.has_body;
        place = ap (λ t. place_of t x) places ∙ u.place;
        block = ap (λ t. get_or t x None) blocks ∙ u.block;
        body = ap (λ t. get_or t x None) placed ∙ u.body;
      };
      places = λ x y b e. let k = l.binds x in ap (λ t. uses_atom x (place_of t y)) places ∙ h.places x y (omega arith) e;
      blocks = λ x y b a e. let k = l.binds x in h.blocks x y b (omega arith) (sym (ap (λ t. get_or t y None) blocks) ∙ e);
      roots = λ y b e. let k = h.roots y b (sym (ap (λ t. get_or t y None) blocks) ∙ e) in omega arith;
      counted = counted;
      counted_work = work;
      counted_placed = λ f p e. h.counted_placed f p (sym (ap (λ t. get_or t f None) placed) ∙ e);
    }

  -- with an entry for one variable that isn't to be bound any more
  module _ (d : Code) (n : State) (l : Less d n) (x : ℕ) (gone : all_binds source d n x ≡ 0)
      (places : (y : ℕ) → y ≢ x → place_of s.places y ≡ place_of n.places y) (blocks : (y : ℕ) → y ≢ x → get_or s.blocks y None ≡ get_or n.blocks y None)
      (places_length : length n.places ≡ length s.places) (blocks_length : length n.blocks ≡ length s.blocks) (placed : n.placed ≡ s.placed)
      (place : (z : ℕ) → 1 ≤ all_binds source c s z → z ≢ x → uses_atom z (place_of n.places x) ≡ 0)
      (block : (b : Block) → get_or n.blocks x None ≡ Some b → (b.root < length n.bodies) × ((z : ℕ) → 1 ≤ all_binds source c s z → z ≢ x → uses_atoms z b.atoms ≡ 0))
      (bodies : length s.bodies ≤ length n.bodies) (counted : IsCensus counts d) (work : AllByRecursion (λ t. IsCensus counts (code_at source t.body)) n.work) where
    other : (z : ℕ) → 1 ≤ all_binds source d n z → z ≢ x
    other z b e = let q : all_binds source d n z ≡ 0 = ap (all_binds source d n) e ∙ gone in absurd (omega arith)

    pub one_entered : Holds source counts d n
    one_entered = record {
      once = λ z. let k = l.binds z in let o = h.once z in omega arith;
      closed = less_closed d n l;
      single = λ f p e. let k = l.uses f in let o = h.single f p (sym (ap (λ t. get_or t f None) placed) ∙ e) in omega arith;
      outer = λ f p e. let k = l.inner f in let o = h.outer f p (sym (ap (λ t. get_or t f None) placed) ∙ e) in omega arith;
      fresh = λ z b. let k = l.binds z in let u = h.fresh z (omega arith) in record {
        has_place = let p = u.has_place in omega arith;
        has_block = let p = u.has_block in omega arith;
        has_body = subst (λ t. z < length t) (sym placed) u.has_body;
        place = sym (places z (other z b)) ∙ u.place;
        block = sym (blocks z (other z b)) ∙ u.block;
        body = ap (λ t. get_or t z None) placed ∙ u.body;
      };
      places = λ z y b e. let k = l.binds z in or_same x y (λ v. uses_atom z (place_of n.places v) ≡ 0) (place z (omega arith) (other z b)) (λ q. ap (uses_atom z) (sym (places y q)) ∙ h.places z y (omega arith) e);
      blocks = λ z y b a e. let k = l.binds z in or_same x y (λ v. get_or n.blocks v None ≡ Some b → uses_atoms z b.atoms ≡ 0) (λ i. let g = block b i in g.1 z (omega arith) (other z a)) (λ q i. h.blocks z y b (omega arith) (blocks y q ∙ i)) e;
      roots = λ y b e. or_same x y (λ v. get_or n.blocks v None ≡ Some b → b.root < length n.bodies) (λ i. let g = block b i in g.0) (λ q i. let k = h.roots y b (blocks y q ∙ i) in omega arith) e;
      counted = counted;
      counted_work = work;
      counted_placed = λ f p e. h.counted_placed f p (sym (ap (λ t. get_or t f None) placed) ∙ e);
    }
