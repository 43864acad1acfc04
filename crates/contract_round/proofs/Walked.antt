-- What is shown of each part of a walk: evidence that it is a round, and how much its answer weighs.
use Rattle.std.proofs.Common.{◌≡◌, ◌≢◌, ℕ, zero, suc, ◌+◌, ◌≤◌, List, [], ◌∷◌, Option, Some, None, slice_get, Bool, true, false, refl, arith}
use Rattle.smlc_base.specs.declared.point.Point.{Point}
use Rattle.smlc_base.specs.declared.point.PointKind.TheVariants.{Eq}
use Rattle.smlc_base.specs.declared.primitive.Primitive.{Primitive}
use Rattle.smlc_base.specs.Points.{is_label}
use Rattle.cps_ir.specs.declared.atom.Atom.{Atom}
use Rattle.cps_ir.specs.declared.atom.Test.{Test}
use Rattle.cps_ir.specs.declared.atom.Shape.{Shape}
use Rattle.cps_ir.specs.declared.atom.Atom.TheVariants as atom
use Rattle.cps_ir.specs.Code.{Code, Make, Pick, Prim, Equal, Call, Match, Handler, SetHandler, Throw, Halt, Rules, Otherwise, Rule}
use Rattle.contract_laws.specs.Contract.{Made, Scope, AtomAt, AtomsAt, Fresh, kept, lost, known_as, is_pure, Left, Fails, Contracts, make, pick, does, equal, call, match, handler, set_handler, throw, halt, no_make, no_pick, no_prim, known_pick, chosen, RulesContract, otherwise, rule, last, drop}
use Rattle.contract_laws.specs.Weigh.{Scale, weigh, weigh_rules}
use Rattle.contract_laws.proofs.Linear.{owed, owed_rules}
use Rattle.contract_round.specs.Round.{match_left, rule_left}

-- ---- Points of functions that the answer doesn't have

pub data Gone : Type 0 where
  nobody : Gone
  one : (p : Point) → Gone
  both : (g h : Gone) → Gone

abbrev pub Hidden : List Point → Gone → Type 0
Hidden L nobody = Unit {0}
Hidden L (one p) = is_label L p ≡ false
Hidden L (both g h) = Hidden L g × Hidden L h

abbrev pub gone_weigh : Scale → Gone → ℕ
gone_weigh s nobody = 0
gone_weigh s (one p) = s.point p
gone_weigh s (both g h) = gone_weigh s g + gone_weigh s h

-- none is the point of comparisons
abbrev pub Fine : Gone → Type 0
Fine nobody = Unit {0}
Fine (one p) = p.kind ≢ Eq
Fine (both g h) = Fine g × Fine h

-- ---- A walk

module _ (texts : List (List ℕ)) where
  -- W is what the bodies weigh that calls may put in
  pub record Walked (S : Scope) (W : Scale → ℕ → ℕ) (c d : Code) : Type 0 where
    pub gone : Gone
    pub fine : Fine gone
    pub least : ℕ
    pub weighs : (s : Scale) → weigh s d + gone_weigh s gone ≤ weigh s c + owed (W s) c
    pub stands : (L : List Point) → Hidden L gone → (w : ℕ) → least ≤ w → Contracts texts L w S c d

  pub record WalkedRules (S : Scope) (W : Scale → ℕ → ℕ) (a : Atom) (rs ss : Rules) : Type 0 where
    pub gone : Gone
    pub fine : Fine gone
    pub least : ℕ
    pub weighs : (s : Scale) → weigh_rules s ss + gone_weigh s gone ≤ weigh_rules s rs + owed_rules (W s) rs
    pub stands : (L : List Point) → Hidden L gone → (w : ℕ) → least ≤ w → RulesContract texts L w S a rs ss

-- a number that is above another is a successor
pub above : (X : ℕ → Type 0) (l w : ℕ) → ((v : ℕ) → l ≤ v → X (suc v)) → suc l ≤ w → X w
above X l zero f h = absurd (omega arith)
above X l (suc w) f h = f w (omega arith)

module _ {texts : List (List ℕ)} {S : Scope} {W : Scale → ℕ → ℕ} where
  pub make_walked : (x : ℕ) (shape : Shape) (us bs : List Atom) (c d : Code) → AtomsAt S.σ us bs → Fresh x S.ns → Walked texts (kept S x (known_as shape bs)) W c d → Walked texts S W (Make x shape us c) (Make x shape bs d)
  make_walked x shape us bs c d at fr r = record {
    gone = r.gone;
    fine = r.fine;
    least = suc r.least;
    weighs = λ s. let h = r.weighs s in omega arith;
    stands = λ L h w. above (λ v. Contracts texts L v S (Make x shape us c) (Make x shape bs d)) r.least w (λ v l. make v S x shape us bs c d at fr (r.stands L h v l));
  }

  pub pick_walked : (x i : ℕ) (a b : Atom) (c d : Code) → AtomAt S.σ a b → Fresh x S.ns → Walked texts (kept S x None) W c d → Walked texts S W (Pick x i a c) (Pick x i b d)
  pick_walked x i a b c d at fr r = record {
    gone = r.gone;
    fine = r.fine;
    least = suc r.least;
    weighs = λ s. let h = r.weighs s in omega arith;
    stands = λ L h w. above (λ v. Contracts texts L v S (Pick x i a c) (Pick x i b d)) r.least w (λ v l. pick v S x i a b c d at fr (r.stands L h v l));
  }

  pub prim_walked : (x : ℕ) (f : Primitive) (us bs : List Atom) (c d : Code) → AtomsAt S.σ us bs → Fresh x S.ns → Walked texts (kept S x None) W c d → Walked texts S W (Prim x f us c) (Prim x f bs d)
  prim_walked x f us bs c d at fr r = record {
    gone = r.gone;
    fine = r.fine;
    least = suc r.least;
    weighs = λ s. let h = r.weighs s in omega arith;
    stands = λ L h w. above (λ v. Contracts texts L v S (Prim x f us c) (Prim x f bs d)) r.least w (λ v l. does v S x f us bs c d at fr (r.stands L h v l));
  }

  pub equal_walked : (a a' b b' k k' : Atom) (t : Bool) → AtomAt S.σ a a' → AtomAt S.σ b b' → AtomAt S.σ k k' → Walked texts S W (Equal a b t k) (Equal a' b' t k')
  equal_walked a a' b b' k k' t p o l = record { gone = nobody; fine = tt; least = 0; weighs = λ s. omega arith; stands = λ L h w i. equal w S a a' b b' k k' t p o l }

  pub call_walked : (a b : Atom) (us bs : List Atom) → AtomAt S.σ a b → AtomsAt S.σ us bs → Walked texts S W (Call a us) (Call b bs)
  call_walked a b us bs p o = record { gone = nobody; fine = tt; least = 0; weighs = λ s. omega arith; stands = λ L h w i. call w S a b us bs p o }

  pub throw_walked : (a b : Atom) → AtomAt S.σ a b → Walked texts S W (Throw a) (Throw b)
  throw_walked a b p = record { gone = nobody; fine = tt; least = 0; weighs = λ s. omega arith; stands = λ L h w i. throw w S a b p }

  pub halt_walked : Walked texts S W Halt Halt
  halt_walked = record { gone = nobody; fine = tt; least = 0; weighs = λ s. omega arith; stands = λ L h w i. halt w S }

  pub handler_walked : (x : ℕ) (c d : Code) → Fresh x S.ns → Walked texts (kept S x None) W c d → Walked texts S W (Handler x c) (Handler x d)
  handler_walked x c d fr r = record {
    gone = r.gone;
    fine = r.fine;
    least = suc r.least;
    weighs = λ s. let h = r.weighs s in omega arith;
    stands = λ L h w. above (λ v. Contracts texts L v S (Handler x c) (Handler x d)) r.least w (λ v l. handler v S x c d fr (r.stands L h v l));
  }

  pub set_walked : (a b : Atom) (c d : Code) → AtomAt S.σ a b → Walked texts S W c d → Walked texts S W (SetHandler a c) (SetHandler b d)
  set_walked a b c d at r = record {
    gone = r.gone;
    fine = r.fine;
    least = suc r.least;
    weighs = λ s. let h = r.weighs s in omega arith;
    stands = λ L h w. above (λ v. Contracts texts L v S (SetHandler a c) (SetHandler b d)) r.least w (λ v l. set_handler v S a b c d at (r.stands L h v l));
  }

  pub no_make_walked : (x : ℕ) (shape : Shape) (us : List Atom) (c d : Code) → Walked texts (lost S x None None) W c d → Walked texts S W (Make x shape us c) d
  no_make_walked x shape us c d r = record {
    gone = r.gone;
    fine = r.fine;
    least = suc r.least;
    weighs = λ s. let h = r.weighs s in omega arith;
    stands = λ L h w. above (λ v. Contracts texts L v S (Make x shape us c) d) r.least w (λ v l. no_make v S x shape us c d (r.stands L h v l));
  }

  pub no_pick_walked : (x i : ℕ) (a : Atom) (c d : Code) → Walked texts (lost S x None None) W c d → Walked texts S W (Pick x i a c) d
  no_pick_walked x i a c d r = record {
    gone = r.gone;
    fine = r.fine;
    least = suc r.least;
    weighs = λ s. let h = r.weighs s in omega arith;
    stands = λ L h w. above (λ v. Contracts texts L v S (Pick x i a c) d) r.least w (λ v l. no_pick v S x i a c d (r.stands L h v l));
  }

  pub no_prim_walked : (x : ℕ) (f : Primitive) (us : List Atom) (c d : Code) → is_pure f ≡ true → Walked texts (lost S x None None) W c d → Walked texts S W (Prim x f us c) d
  no_prim_walked x f us c d pure r = record {
    gone = r.gone;
    fine = r.fine;
    least = suc r.least;
    weighs = λ s. let h = r.weighs s in omega arith;
    stands = λ L h w. above (λ v. Contracts texts L v S (Prim x f us c) d) r.least w (λ v l. no_prim v S x f us c d pure (r.stands L h v l));
  }

  pub known_walked : (x i z : ℕ) (a b : Atom) (t : Made) (c d : Code) → AtomAt S.σ a (atom.Var z) → S.τ z ≡ Some t → slice_get t.atoms i ≡ Some b → Walked texts (lost S x (Some b) None) W c d → Walked texts S W (Pick x i a c) d
  known_walked x i z a b t c d at known get r = record {
    gone = r.gone;
    fine = r.fine;
    least = suc r.least;
    weighs = λ s. let h = r.weighs s in omega arith;
    stands = λ L h w. above (λ v. Contracts texts L v S (Pick x i a c) d) r.least w (λ v l. known_pick v S x i z a b t c d at known get (r.stands L h v l));
  }

  pub match_walked : (a b : Atom) (rs ss : Rules) → AtomAt S.σ a b → WalkedRules texts S W b rs ss → Walked texts S W (Match a rs) (match_left b ss)
  match_walked a b rs (Otherwise d) at r = record {
    gone = r.gone;
    fine = r.fine;
    least = suc r.least;
    weighs = λ s. let h = r.weighs s in omega arith;
    stands = λ L h w. above (λ v. Contracts texts L v S (Match a rs) d) r.least w (λ v l. chosen v S a b rs d at (r.stands L h v l));
  }
  match_walked a b rs (Rule ts d ss) at r = record {
    gone = r.gone;
    fine = r.fine;
    least = suc r.least;
    weighs = λ s. let h = r.weighs s in omega arith;
    stands = λ L h w. above (λ v. Contracts texts L v S (Match a rs) (Match b (Rule ts d ss))) r.least w (λ v l. match v S a b rs (Rule ts d ss) at (r.stands L h v l));
  }

  pub otherwise_walked : (a : Atom) (c d : Code) → Walked texts S W c d → WalkedRules texts S W a (Otherwise c) (Otherwise d)
  otherwise_walked a c d r = record { gone = r.gone; fine = r.fine; least = r.least; weighs = r.weighs; stands = λ L h w l. otherwise w S a c d (r.stands L h w l) }

  -- the tests of a rule, where it stays and where it goes
  pub rule_walked : (a : Atom) (ts : List Test) (left : Option (List Test)) (c d : Code) (rs ss : Rules) → ((us : List Test) → left ≡ Some us → Left texts S.σ S.τ a ts us) → (left ≡ None → Fails texts S.τ a ts) → Walked texts S W c d → WalkedRules texts S W a rs ss → WalkedRules texts S W a (Rule ts c rs) (rule_left left d ss)
  rule_walked a ts None c d rs ss f g r q = record {
    gone = q.gone;
    fine = q.fine;
    least = q.least;
    weighs = λ s. let h = q.weighs s in omega arith;
    stands = λ L h w l. drop w S a ts c rs ss (g refl) (q.stands L h w l);
  }
  rule_walked a ts (Some []) c d rs ss f g r q = record {
    gone = r.gone;
    fine = r.fine;
    least = r.least;
    weighs = λ s. let h = r.weighs s in omega arith;
    stands = λ L h w l. last w S a ts c d rs (f [] refl) (r.stands L h w l);
  }
  rule_walked a ts (Some (u ∷ us)) c d rs ss f g r q = record {
    gone = both r.gone q.gone;
    fine = (r.fine, q.fine);
    least = r.least + q.least;
    weighs = λ s. let h = r.weighs s in let k = q.weighs s in omega arith;
    stands = λ L h w l. rule w S a ts (u ∷ us) c d rs ss (f (u ∷ us) refl) (r.stands L h.0 w (omega arith)) (q.stands L h.1 w (omega arith));
  }
