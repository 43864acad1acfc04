-- Constructors at types, and what is asked of exceptions.
use Rattle.std.proofs.Common.{◌≡◌, ℕ, ◌<◌, Bool, true, false, List, [], ◌∷◌, ◌++◌, length, refl, sym, ap, ◌∙◌, subst, arith, cond, Option, Result, Ok, Err, IfOk}
use Rattle.smlc_base.specs.declared.memory.NoMemory.{NoMemory}
use Rattle.smlc_base.specs.declared.names.Name.{Name}
use Rattle.sml_tree.specs.declared.bare.Bare.{Bare}
use Rattle.sml_tree.specs.declared.bare.Con.{Con}
use Rattle.sml_tree.specs.declared.bare.Con.TheVariants as con
use Rattle.sml_tree.specs.declared.bare.Node.TheVariants as node
use Rattle.sml_types.specs.declared.types.Ty.{Ty}
use Rattle.sml_types.specs.declared.types.TyVar.{TyVar}
use Rattle.sml_types.specs.declared.types.TyForm.{TyForm}
use Rattle.sml_types.specs.declared.tables.TypeName.{TypeName}
use Rattle.sml_types.specs.Tree.{Tree, Variable, NoParts, inst, admits}
use Rattle.sml_types.specs.Forms.{tree}
use Rattle.sml_types.specs.Poly.{Poly, poly, has_num, IsInstance}
use Rattle.sml_types.specs.Library.{arrow, exn_ty, name_types}
use Rattle.sml_types.specs.Typing.{IsExnTy, takes_argument, is_exception}
use Rattle.sml_unify.specs.declared.pair.Pair.{Pair}
use Rattle.sml_unify.specs.Solved.{Substitution, Agrees, IsEqualPair, IsPair, under}
use Rattle.sml_unify.specs.Steps.{IsLonger, AreBelow}
use Rattle.infer_parts.specs.Copies.{AreOldVars}
use Rattle.infer_state.specs.declared.declared.Declared.{Declared}
use Rattle.infer_state.specs.declared.settled.Settled.{Settled}
use Rattle.infer_state.specs.declared.failure.Failure.TheVariants.{Untypable}
use Rattle.infer_state.specs.Variables.{node_var, name_var}
use Rattle.infer_state.specs.Rules.{IsConAt}
use Rattle.infer_state.specs.Fits.{settled_at}
use Rattle.infer_nodes.specs.Posed.{pair, StandsFor, AreAdded, IsMade, IsMadeWith, IsPosed}
use Rattle.infer_nodes.specs.Made.{IsFixed, AreNew}
use Rattle.infer_nodes.specs.Asked.{PosesRule, RuleOf, ConAt}
use Rattle.infer_nodes.proofs.Added.{longer_none, longer_both, added_old, added_both, respects_back, respects_old}
use Rattle.infer_nodes.proofs.Stepped.{equal_back}
use Rattle.infer_nodes.proofs.Posing.{all_append, all_left, all_right, all_with, made_as, made_fixed, posed_as}
use Rattle.infer_nodes.proofs.Schemes.{open_made}

-- ---- A type that is made with pairs

-- without any
pub made_alone : (names : List TypeName) (P : Substitution → Tree → Type 0) (next : ℕ) (forms : List TyForm) (next2 : ℕ) (forms2 : List TyForm) (ps : List Pair) (t : Ty) → ps ≡ [] → IsMade names P next forms next2 forms2 t → IsMadeWith names P next forms next2 forms2 ps t
made_alone names P next forms next2 forms2 ps t e m =
    subst
    (λ (qs : List Pair). IsMadeWith names P next forms next2 forms2 qs t)
    (sym e)
    (record {
      added = m.added;
      there = m.there;
      sides = tt;
      gets = λ f r a. m.gets f r;
      general = λ f r u p. let g = m.general f r u p in (g.0, g.1, g.2, tt, g.3);
    })

-- a variable under substitutions, by later forms
kept_var : (forms forms2 : List TyForm) (t : Ty) (v : TyVar) (f : Substitution) → IsLonger forms forms2 → StandsFor forms t v → under forms2 f t.0 ≡ f v
kept_var forms forms2 t v f l s = ap (inst f) (l.trees t.0 s.there ∙ s.is)

-- the type of a variable, of which something is asked
pub var_made : (names : List TypeName) (A : Substitution → Type 0) (next : ℕ) (forms : List TyForm) (next2 : ℕ) (forms2 : List TyForm) (ps : List Pair) (t : Ty) (v : TyVar) → AreBelow forms next → StandsFor forms t v → IsPosed names A next forms next2 forms2 ps → IsMadeWith names (λ f u. A f × (u ≡ f v)) next forms next2 forms2 ps t
var_made names A next forms next2 forms2 ps t v b s m =
    record {
      added = m.added;
      there = let c = m.added.longer.count in let z = s.there in omega arith;
      sides = m.there;
      gets = λ f r e. (m.gets f r e, kept_var forms forms2 t v f m.added.longer s);
      general = λ f r u h. let g = m.general f r h.0 in (g.0, g.1, g.2, g.3, kept_var forms forms2 t v g.0 m.added.longer s ∙ g.1 v (b t.0 v s.here) ∙ sym h.1);
    }

equal_on : (forms forms2 : List TyForm) (f : Substitution) (p : Pair) → IsLonger forms forms2 → IsPair forms p → IsEqualPair forms f p → IsEqualPair forms2 f p
equal_on forms forms2 f p l w e = ap (inst f) (l.trees p.left.0 w.0) ∙ e ∙ sym (ap (inst f) (l.trees p.right.0 w.1))

-- one pair more, with a type that was made behind
pub posed_behind : (names : List TypeName) (P : Substitution → Tree → Type 0) (w : Substitution → Tree) (next : ℕ) (forms : List TyForm) (next2 : ℕ) (forms2 forms3 : List TyForm) (ps qs : List Pair) (t left : Ty) → IsMadeWith names P next forms next2 forms2 ps t → IsLonger forms2 forms3 → AreOldVars forms2 forms3 → left.0 < length forms3 → ((f : Substitution) → under forms3 f left.0 ≡ w f) → ((f g : Substitution) → Agrees next f g → w g ≡ w f) → qs ≡ ps ++ pair left t ∷ [] → IsPosed names (λ f. P f (w f)) next forms next2 forms3 qs
posed_behind names P w next forms next2 forms2 forms3 ps qs t left m l o lt is same e =
    subst
    (IsPosed names (λ f. P f (w f)) next forms next2 forms3)
    (sym e)
    (record {
      added = added_both next next2 next2 forms forms2 forms3 m.added (added_old next2 forms2 forms3 m.added.below l o);
      there = all_append (IsPair forms3) ps (pair left t ∷ []) (all_with (IsPair forms2) (IsPair forms2) (IsPair forms3) ps (λ p x y. (let c = l.count in let z = x.0 in omega arith, let c = l.count in let z = x.1 in omega arith)) m.sides m.sides) ((lt, (let c = l.count in let z = m.there in omega arith)), tt);
      gets = λ f r a.
          let all = all_with (IsPair forms2) (IsEqualPair forms3 f) (IsEqualPair forms2 f) ps (λ p x y. equal_back forms2 forms3 f p l x y) m.sides (all_left (IsEqualPair forms3 f) ps (pair left t ∷ []) a) in
          let last : under forms3 f left.0 ≡ under forms3 f t.0 = (all_right (IsEqualPair forms3 f) ps (pair left t ∷ []) a).0 in
          subst (P f) (sym (ap (inst f) (l.trees t.0 m.there)) ∙ sym last ∙ is f) (m.gets f (respects_back names forms2 forms3 f l r) all);
      general = λ f r h.
          let g = m.general f r (w f) h in (
            g.0,
            g.1,
            respects_old names forms2 forms3 g.0 o g.2,
            all_append (IsEqualPair forms3 g.0) ps (pair left t ∷ [])
                (all_with (IsPair forms2) (IsEqualPair forms2 g.0) (IsEqualPair forms3 g.0) ps (λ p x y. equal_on forms2 forms3 g.0 p l x y) m.sides g.3)
                (is g.0 ∙ same f g.0 g.1 ∙ sym g.4 ∙ sym (ap (inst g.0) (l.trees t.0 m.there)), tt),
          );
    })

-- a variable is to have the type that was made
pub at_var : (names : List TypeName) (P : Substitution → Tree → Type 0) (next : ℕ) (forms : List TyForm) (next2 : ℕ) (forms2 : List TyForm) (ps qs : List Pair) (t at : Ty) (v : TyVar) → AreBelow forms next → StandsFor forms at v → IsMadeWith names P next forms next2 forms2 ps t → qs ≡ ps ++ pair at t ∷ [] → IsPosed names (λ f. P f (f v)) next forms next2 forms2 qs
at_var names P next forms next2 forms2 ps qs t at v b s m e =
    posed_behind names P (λ f. f v) next forms next2 forms2 forms2 ps qs t at m (longer_none forms2) (λ i x k. k) (let c = m.added.longer.count in let z = s.there in omega arith) (λ f. kept_var forms forms2 at v f m.added.longer s) (λ f g a. a v (b at.0 v s.here)) e

-- a function from one variable to another is to have it
pub at_function : (names : List TypeName) (P : Substitution → Tree → Type 0) (next : ℕ) (forms : List TyForm) (next2 : ℕ) (forms2 forms3 : List TyForm) (ps qs : List Pair) (t left from to : Ty) (v w : TyVar) → AreBelow forms next → StandsFor forms from v → StandsFor forms to w → IsMadeWith names P next forms next2 forms2 ps t → IsFixed (arrow (tree forms2 from.0) (tree forms2 to.0)) forms2 forms3 left → qs ≡ ps ++ pair left t ∷ [] → IsPosed names (λ f. P f (arrow (f v) (f w))) next forms next2 forms3 qs
at_function names P next forms next2 forms2 forms3 ps qs t left from to v w b s r m k e =
    posed_behind names P (λ f. arrow (f v) (f w)) next forms next2 forms2 forms3 ps qs t left m k.longer k.vars k.there
    (λ f. ap (inst f) k.is ∙ ap (λ x. arrow x (under forms2 f to.0)) (kept_var forms forms2 from v f m.added.longer s) ∙ ap (arrow (f v)) (kept_var forms forms2 to w f m.added.longer r))
    (λ f g a. ap (λ x. arrow x (g w)) (a v (b from.0 v s.here)) ∙ ap (arrow (f v)) (a w (b to.0 w r.here)))
    e

-- ---- Types of exceptions

abbrev any : TyVar
any = record { num = 0; eq = false }

exn_instance : (names : List TypeName) (a u : Tree) → u ≡ arrow a exn_ty → IsInstance names (poly (any ∷ []) (arrow (Variable any) exn_ty)) u
exn_instance names a u e =
    record {
      at = λ v. cond (has_num (any ∷ []) v.num) (cond v.eq NoParts a) (Variable v);
      others = λ v h. ap (λ (b : Bool). cond b (cond v.eq NoParts a) (Variable v)) h;
      marks = λ v h m. ap (λ (b : Bool). admits names (cond b (cond v.eq NoParts a) (Variable v))) h ∙ ap (λ (b : Bool). admits names (cond b NoParts a)) m;
      is = e;
    }

pub exn_made : (next : ℕ) (forms : List TyForm) (next1 : ℕ) (f1 f2 f3 : List TyForm) (var exn : Ty) (r : Result Ty NoMemory) → AreAdded next forms next1 f1 → AreNew next (any ∷ []) f1 (var ∷ []) → IsFixed exn_ty f1 f2 exn → IfOk r (λ t. IsFixed (arrow (tree f2 var.0) (tree f2 exn.0)) f2 f3 t) → IfOk r (λ t. (names : List TypeName) → IsMade names (λ f u. IsExnTy true u) next forms next1 f3 t)
exn_made next forms next1 f1 f2 f3 var exn (Err x) a n h m = tt
exn_made next forms next1 f1 f2 f3 var exn (Ok t) a n h m = λ names.
    made_as names (λ f u. IsInstance names (poly (any ∷ []) (arrow (Variable any) exn_ty)) u) (λ f u. IsExnTy true u) next forms next1 f3 t (λ f u i. (i.at any, i.is)) (λ f u k. exn_instance names k.0 u k.1)
    (open_made any (arrow (Variable any) exn_ty) next forms next1 f1 f3 var t a n (refl, (tt, tt)) (longer_both f1 f2 f3 h.longer m.longer) (λ i v x. h.vars i v (m.vars i v x)) m.there (m.is ∙ ap (λ u. arrow u (tree f2 exn.0)) (h.longer.trees var.0 n.0.there) ∙ ap (arrow (tree f1 var.0)) h.is) names)

pub exn_plain : (next : ℕ) (forms forms2 : List TyForm) (r : Result Ty NoMemory) → AreBelow forms next → IfOk r (λ t. IsFixed exn_ty forms forms2 t) → IfOk r (λ t. (names : List TypeName) → IsMade names (λ f u. IsExnTy false u) next forms next forms2 t)
exn_plain next forms forms2 (Err x) b m = tt
exn_plain next forms forms2 (Ok t) b m = λ names. made_as names (λ f u. u ≡ inst f exn_ty) (λ f u. u ≡ exn_ty) next forms next forms2 t (λ f u e. e) (λ f u e. e) (made_fixed names exn_ty next forms forms2 t b m)

-- ---- The rules

module _ (p : Bare) (d : Declared) (settled : List (Option Settled)) (i next : ℕ) (forms : List TyForm) (next2 : ℕ) (forms2 : List TyForm) (ps : List Pair) where
  con_at : (abbreviations : ℕ → Poly) (f : Substitution) (k : Con) (t : Tree) → ConAt p forms d.tables.names f k t → IsConAt p (name_types forms d.tables.names) d.tables.names abbreviations (settled_at forms settled) f k t
  con_at abbreviations f (con.Data n k takes) t h = h
  con_at abbreviations f con.Ref t h = h
  con_at abbreviations f (con.Exn x takes) t h = h
  con_at abbreviations f (con.Library e) t h = h

  at_con : (abbreviations : ℕ → Poly) (f : Substitution) (k : Con) (t : Tree) → IsConAt p (name_types forms d.tables.names) d.tables.names abbreviations (settled_at forms settled) f k t → ConAt p forms d.tables.names f k t
  at_con abbreviations f (con.Data n k takes) t h = h
  at_con abbreviations f con.Ref t h = h
  at_con abbreviations f (con.Exn x takes) t h = h
  at_con abbreviations f (con.Library e) t h = h

  pub con_rule : (k : Con) → IsPosed d.tables.names (λ f. ConAt p forms d.tables.names f k (f (node_var p i))) next forms next2 forms2 ps → PosesRule p d settled i (node.Constructor k) next forms next2 forms2 (Ok ps)
  con_rule k h = λ abbreviations agree.
      posed_as d.tables.names (λ f. ConAt p forms d.tables.names f k (f (node_var p i))) (RuleOf p d settled forms abbreviations i (node.Constructor k)) next forms next2 forms2 ps
      (λ f a. con_at abbreviations f k (f (node_var p i)) a)
      (λ f a. at_con abbreviations f k (f (node_var p i)) a)
      h

  pub pat_con_rule : (k : Con) → takes_argument k ≡ false → IsPosed d.tables.names (λ f. ConAt p forms d.tables.names f k (f (node_var p i))) next forms next2 forms2 ps → PosesRule p d settled i (node.PatCon k) next forms next2 forms2 (Ok ps)
  pat_con_rule k e h = λ abbreviations agree.
      posed_as d.tables.names (λ f. ConAt p forms d.tables.names f k (f (node_var p i))) (RuleOf p d settled forms abbreviations i (node.PatCon k)) next forms next2 forms2 ps
      (λ f a. (con_at abbreviations f k (f (node_var p i)) a, e))
      (λ f a. at_con abbreviations f k (f (node_var p i)) a.0)
      h

  pub pat_app_rule : (k : Con) (q : ℕ) → takes_argument k ≡ true → IsPosed d.tables.names (λ f. ConAt p forms d.tables.names f k (arrow (f (node_var p q)) (f (node_var p i)))) next forms next2 forms2 ps → PosesRule p d settled i (node.PatApp k q) next forms next2 forms2 (Ok ps)
  pat_app_rule k q e h = λ abbreviations agree.
      posed_as d.tables.names (λ f. ConAt p forms d.tables.names f k (arrow (f (node_var p q)) (f (node_var p i)))) (RuleOf p d settled forms abbreviations i (node.PatApp k q)) next forms next2 forms2 ps
      (λ f a. (con_at abbreviations f k (arrow (f (node_var p q)) (f (node_var p i))) a, e))
      (λ f a. at_con abbreviations f k (arrow (f (node_var p q)) (f (node_var p i))) a.0)
      h

  pub same_exception : (x : Name) (k : Con) → is_exception k ≡ true → IsPosed d.tables.names (λ f. ConAt p forms d.tables.names f k (f (name_var p x.0))) next forms next2 forms2 ps → PosesRule p d settled i (node.SameException x k) next forms next2 forms2 (Ok ps)
  same_exception x (con.Exn y takes) e h = λ abbreviations agree. h
  same_exception x (con.Library z) e h = λ abbreviations agree. h
  same_exception x _ e h = cc

module _ (p : Bare) (d : Declared) (settled : List (Option Settled)) (i next : ℕ) (forms : List TyForm) (next2 : ℕ) (forms2 : List TyForm) where
  pub pat_con_refused : (k : Con) → takes_argument k ≡ true → PosesRule p d settled i (node.PatCon k) next forms next2 forms2 (Err Untypable)
  pat_con_refused k e = λ abbreviations agree f r a. let q = a.1 in cc

  pub pat_app_refused : (k : Con) (q : ℕ) → takes_argument k ≡ false → PosesRule p d settled i (node.PatApp k q) next forms next2 forms2 (Err Untypable)
  pat_app_refused k q e = λ abbreviations agree f r a. let w = a.1 in cc

  pub not_exception : (x : Name) (k : Con) → is_exception k ≡ false → PosesRule p d settled i (node.SameException x k) next forms next2 forms2 (Err Untypable)
  not_exception x (con.Exn y takes) e = cc
  not_exception x (con.Library z) e = cc
  not_exception x _ e = λ abbreviations agree f r a. a
