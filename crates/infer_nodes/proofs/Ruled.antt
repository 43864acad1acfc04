-- The rules of nodes, from what was posed.
use Rattle.std.proofs.Common.{◌≡◌, ℕ, ◌<◌, List, [], ◌∷◌, ◌++◌, length, Option, Some, None, refl, sym, ap, ◌∙◌, subst, arith, Result, Ok, Err, suc, ◌+◌, ◌≤◌, take, take_all, get_or, true, append_assoc}
use Rattle.std.specs.Prelude.{slice_get}
use Rattle.std.proofs.lemmas.Option.{slice_get-get_or}
use Rattle.smlc_base.specs.declared.names.Name.{Name}
use Rattle.sml_types.specs.Library.{name_types, library_exn}
use Rattle.smlc_base.specs.declared.exception.LibraryExn.{LibraryExn}
use Rattle.smlc_base.specs.declared.exception.LibraryExn.TheVariants.{FailExn}
use Rattle.infer_state.specs.Rules.{IsNamedAt}
use Rattle.infer_state.specs.Fits.{settled_at}
use Rattle.std.proofs.Math.Seq.{take-suc}
use Rattle.sml_tree.specs.declared.bare.Rule.{Rule}
use Rattle.std.specs.List.{AllByRecursion}
use Rattle.sml_tree.specs.declared.bare.Bare.{Bare}
use Rattle.sml_tree.specs.declared.bare.Node.{Node}
use Rattle.sml_tree.specs.declared.bare.Node.TheVariants as node
use Rattle.sml_types.specs.declared.types.Ty.{Ty}
use Rattle.sml_types.specs.declared.types.TyVar.{TyVar}
use Rattle.sml_types.specs.declared.types.TyForm.{TyForm}
use Rattle.sml_types.specs.declared.tables.TypeName.{TypeName}
use Rattle.sml_types.specs.Tree.{Tree, Variable, inst}
use Rattle.sml_types.specs.Forms.{tree, AreForms}
use Rattle.sml_types.specs.Poly.{Poly}
use Rattle.sml_types.specs.Library.{name_ty, arrow, exn_ty}
use Rattle.sml_unify.specs.declared.pair.Pair.{Pair}
use Rattle.sml_unify.specs.Solved.{Substitution, Respects, Agrees, under}
use Rattle.sml_unify.specs.Steps.{AreBelow}
use Rattle.infer_state.specs.declared.declared.Declared.{Declared}
use Rattle.infer_state.specs.declared.settled.Settled.{Settled}
use Rattle.infer_state.specs.declared.failure.Failure.{Failure}
use Rattle.infer_state.specs.Variables.{node_var, name_var}
use Rattle.infer_nodes.specs.Posed.{pair, StandsFor, IsMade, Says, IsPosed}
use Rattle.infer_nodes.specs.Made.{IsFixed}
use Rattle.infer_nodes.specs.Asked.{RuleOf, PosesRule, constant_of, asks_nothing, MatchAsks}
use Rattle.infer_nodes.proofs.Posing.{says_none, says_pair, says_both, says_as, says_more, posed_says, posed_as, posed_made, made_fixed}

-- the type of a variable
pub under_var : (forms : List TyForm) (t : Ty) (v : TyVar) (f : Substitution) → StandsFor forms t v → under forms f t.0 ≡ f v
under_var forms t v f s = ap (inst f) s.is

pub says_same : (forms : List TyForm) (a b : Ty) (v w : TyVar) → StandsFor forms a v → StandsFor forms b w → Says forms (λ f. f v ≡ f w) (pair a b ∷ [])
says_same forms a b v w s r =
    says_as
    forms
    (λ f. under forms f a.0 ≡ under forms f b.0)
    (λ f. f v ≡ f w)
    (pair a b ∷ [])
    (λ f e. sym (under_var forms a v f s) ∙ e ∙ under_var forms b w f r)
    (λ f e. under_var forms a v f s ∙ e ∙ sym (under_var forms b w f r))
    (says_pair forms a b s.there r.there)

-- a variable is to stand for a type that was made
pub posed_var : (names : List TypeName) (P : Substitution → Tree → Type 0) (next : ℕ) (forms : List TyForm) (next2 : ℕ) (forms2 : List TyForm) (at t : Ty) (v : TyVar) (ps : List Pair) → AreForms forms → AreBelow forms next → StandsFor forms at v → ps ≡ pair at t ∷ [] → IsMade names P next forms next2 forms2 t → IsPosed names (λ f. P f (f v)) next forms next2 forms2 ps
posed_var names P next forms next2 forms2 at t v ps fs b s e m =
    subst
    (IsPosed names (λ f. P f (f v)) next forms next2 forms2)
    (sym e)
    (posed_as names (λ f. Unit {0} × P f (under forms f at.0)) (λ f. P f (f v)) next forms next2 forms2 (pair at t ∷ []) (λ f h. subst (P f) (under_var forms at v f s) h.1) (λ f h. (tt, subst (P f) (sym (under_var forms at v f s)) h)) (posed_made names P (λ f. Unit {0}) next forms next2 forms2 [] at t fs b s.there (says_none forms) m))

-- and other pairs are to be equal
pub posed_with : (names : List TypeName) (P : Substitution → Tree → Type 0) (B : Substitution → Type 0) (next : ℕ) (forms : List TyForm) (next2 : ℕ) (forms2 : List TyForm) (qs : List Pair) (at t : Ty) (v : TyVar) (ps : List Pair) → AreForms forms → AreBelow forms next → StandsFor forms at v → ps ≡ qs ++ pair at t ∷ [] → Says forms B qs → IsMade names P next forms next2 forms2 t → IsPosed names (λ f. B f × P f (f v)) next forms next2 forms2 ps
posed_with names P B next forms next2 forms2 qs at t v ps fs b s e says m =
    subst
    (IsPosed names (λ f. B f × P f (f v)) next forms next2 forms2)
    (sym e)
    (posed_as names (λ f. B f × P f (under forms f at.0)) (λ f. B f × P f (f v)) next forms next2 forms2 (qs ++ pair at t ∷ []) (λ f h. (h.0, subst (P f) (under_var forms at v f s) h.1)) (λ f h. (h.0, subst (P f) (sym (under_var forms at v f s)) h.1)) (posed_made names P B next forms next2 forms2 qs at t fs b s.there says m))

-- a variable is to stand for a type without variables
pub posed_closed : (names : List TypeName) (u : Tree) (next : ℕ) (forms forms2 : List TyForm) (at t : Ty) (v : TyVar) (ps : List Pair) → ((f : Substitution) → inst f u ≡ u) → AreForms forms → AreBelow forms next → StandsFor forms at v → ps ≡ pair at t ∷ [] → IsFixed u forms forms2 t → IsPosed names (λ f. f v ≡ u) next forms next forms2 ps
posed_closed names u next forms forms2 at t v ps c fs b s e m =
    posed_as names (λ f. f v ≡ inst f u) (λ f. f v ≡ u) next forms next forms2 ps (λ f h. h ∙ c f) (λ f h. h ∙ sym (c f)) (posed_var names (λ f w. w ≡ inst f u) next forms next forms2 at t v ps fs b s e (made_fixed names u next forms forms2 t b m))

module _ (p : Bare) (d : Declared) (settled : List (Option Settled)) (i : ℕ) where
  pub constant_posed : (n : Node) (k : ℕ) (next : ℕ) (forms forms2 : List TyForm) (ps : List Pair) → constant_of n ≡ Some k → ((names : List TypeName) → IsPosed names (λ f. f (node_var p i) ≡ name_ty k []) next forms next forms2 ps) → PosesRule p d settled i n next forms next forms2 (Ok ps)
  constant_posed (node.Int n) k next forms forms2 ps e h = λ abbreviations agree. subst (λ j. IsPosed d.tables.names (λ f. f (node_var p i) ≡ name_ty j []) next forms next forms2 ps) (let q : k ≡ 0 = cc in q) (h d.tables.names)
  constant_posed (node.Char n) k next forms forms2 ps e h = λ abbreviations agree. subst (λ j. IsPosed d.tables.names (λ f. f (node_var p i) ≡ name_ty j []) next forms next forms2 ps) (let q : k ≡ 1 = cc in q) (h d.tables.names)
  constant_posed (node.Text n) k next forms forms2 ps e h = λ abbreviations agree. subst (λ j. IsPosed d.tables.names (λ f. f (node_var p i) ≡ name_ty j []) next forms next forms2 ps) (let q : k ≡ 2 = cc in q) (h d.tables.names)
  constant_posed (node.PatInt n) k next forms forms2 ps e h = λ abbreviations agree. subst (λ j. IsPosed d.tables.names (λ f. f (node_var p i) ≡ name_ty j []) next forms next forms2 ps) (let q : k ≡ 0 = cc in q) (h d.tables.names)
  constant_posed (node.PatChar n) k next forms forms2 ps e h = λ abbreviations agree. subst (λ j. IsPosed d.tables.names (λ f. f (node_var p i) ≡ name_ty j []) next forms next forms2 ps) (let q : k ≡ 1 = cc in q) (h d.tables.names)
  constant_posed (node.PatText n) k next forms forms2 ps e h = λ abbreviations agree. subst (λ j. IsPosed d.tables.names (λ f. f (node_var p i) ≡ name_ty j []) next forms next forms2 ps) (let q : k ≡ 2 = cc in q) (h d.tables.names)
  constant_posed _ k next forms forms2 ps e h = cc

  pub applied_posed : (names : List TypeName) (g a : ℕ) (next : ℕ) (forms forms2 : List TyForm) (left right at t : Ty) (ps : List Pair) → AreForms forms → AreBelow forms next → StandsFor forms at (node_var p i) → StandsFor forms left (node_var p g) → StandsFor forms right (node_var p a) → ps ≡ pair left t ∷ [] → IsFixed (arrow (tree forms right.0) (tree forms at.0)) forms forms2 t → IsPosed names (λ f. f (node_var p g) ≡ arrow (f (node_var p a)) (f (node_var p i))) next forms next forms2 ps
  applied_posed names g a next forms forms2 left right at t ps fs b s l r e m =
      let u = arrow (tree forms right.0) (tree forms at.0) in
      posed_as names (λ f. f (node_var p g) ≡ inst f u) (λ f. f (node_var p g) ≡ arrow (f (node_var p a)) (f (node_var p i))) next forms next forms2 ps
      (λ f h. h ∙ ap (λ x. arrow x (under forms f at.0)) (under_var forms right (node_var p a) f r) ∙ ap (arrow (f (node_var p a))) (under_var forms at (node_var p i) f s))
      (λ f h. h ∙ sym (ap (λ x. arrow x (under forms f at.0)) (under_var forms right (node_var p a) f r) ∙ ap (arrow (f (node_var p a))) (under_var forms at (node_var p i) f s)))
      (posed_var names (λ f w. w ≡ inst f u) next forms next forms2 left t (node_var p g) ps fs b l e (made_fixed names u next forms forms2 t b m))

  pub nothing_posed : (n : Node) (next : ℕ) (forms : List TyForm) → asks_nothing n ≡ true → AreBelow forms next → PosesRule p d settled i n next forms next forms (Ok [])
  nothing_posed node.Wild next forms e b = λ abbreviations agree. posed_says d.tables.names next forms (λ f. Unit {0}) [] b (says_none forms)
  nothing_posed (node.Type bindings) next forms e b = λ abbreviations agree. posed_says d.tables.names next forms (λ f. Unit {0}) [] b (says_none forms)
  nothing_posed (node.Datatype bindings) next forms e b = λ abbreviations agree. posed_says d.tables.names next forms (λ f. Unit {0}) [] b (says_none forms)
  nothing_posed _ next forms e b = cc

pub same_posed : (names : List TypeName) (next : ℕ) (forms : List TyForm) (a b : Ty) (v w : TyVar) (ps : List Pair) → AreBelow forms next → StandsFor forms a v → StandsFor forms b w → ps ≡ pair a b ∷ [] → IsPosed names (λ f. f v ≡ f w) next forms next forms ps
same_posed names next forms a b v w ps below s r e =
    subst (IsPosed names (λ f. f v ≡ f w) next forms next forms) (sym e) (posed_says names next forms (λ f. f v ≡ f w) (pair a b ∷ []) below (says_same forms a b v w s r))

pub two_posed : (names : List TypeName) (next : ℕ) (forms : List TyForm) (a b c : Ty) (u v w : TyVar) (ps : List Pair) → AreBelow forms next → StandsFor forms a u → StandsFor forms b v → StandsFor forms c w → ps ≡ pair a c ∷ pair b c ∷ [] → IsPosed names (λ f. (f u ≡ f w) × (f v ≡ f w)) next forms next forms ps
two_posed names next forms a b c u v w ps below q r s e =
    subst (IsPosed names (λ f. (f u ≡ f w) × (f v ≡ f w)) next forms next forms) (sym e) (posed_says names next forms (λ f. (f u ≡ f w) × (f v ≡ f w)) (pair a c ∷ pair b c ∷ []) below (says_both forms (λ f. f u ≡ f w) (λ f. f v ≡ f w) (pair a c ∷ []) (pair b c ∷ []) (says_same forms a c u w q s) (says_same forms b c v w r s)))

-- a rule more of a match
pub one_rule : (p : Bare) (forms : List TyForm) (rules : List Rule) (i : ℕ) (d : Rule) (from to pat body : Ty) (ps ps1 ps2 : List Pair) → i < length rules → from.0 < length forms → to.0 < length forms → StandsFor forms pat (node_var p (get_or rules i d).pat) → StandsFor forms body (node_var p (get_or rules i d).body) → ps1 ≡ ps ++ pair pat from ∷ [] → ps2 ≡ ps1 ++ pair body to ∷ [] → Says forms (λ f. MatchAsks p f (take i rules) (under forms f from.0) (under forms f to.0)) ps → Says forms (λ f. MatchAsks p f (take (i + 1) rules) (under forms f from.0) (under forms f to.0)) ps2
one_rule p forms rules i d from to pat body ps ps1 ps2 l hf ht sp sb e1 e2 s =
    let r : Rule = get_or rules i d in
    let P : Substitution → Rule → Type 0 = λ f q. (f (node_var p q.pat) ≡ under forms f from.0) × (f (node_var p q.body) ≡ under forms f to.0) in
    let one : i + 1 ≡ suc i = omega arith in
    let taken : take (i + 1) rules ≡ take i rules ++ r ∷ [] = ap (λ k. take k rules) one ∙ take-suc rules i d l in
    let both = says_both forms (λ f. f (node_var p r.pat) ≡ under forms f from.0) (λ f. f (node_var p r.body) ≡ under forms f to.0) (pair pat from ∷ []) (pair body to ∷ [])
    (says_as forms (λ f. under forms f pat.0 ≡ under forms f from.0) (λ f. f (node_var p r.pat) ≡ under forms f from.0) (pair pat from ∷ []) (λ f e. sym (under_var forms pat (node_var p r.pat) f sp) ∙ e) (λ f e. under_var forms pat (node_var p r.pat) f sp ∙ e) (says_pair forms pat from sp.there hf))
    (says_as forms (λ f. under forms f body.0 ≡ under forms f to.0) (λ f. f (node_var p r.body) ≡ under forms f to.0) (pair body to ∷ []) (λ f e. sym (under_var forms body (node_var p r.body) f sb) ∙ e) (λ f e. under_var forms body (node_var p r.body) f sb ∙ e) (says_pair forms body to sb.there ht)) in
    let made = says_more forms P (take i rules) r ps (pair pat from ∷ pair body to ∷ []) s both in
    subst
    (λ (rs : List Rule). Says forms (λ f. AllByRecursion (P f) rs) ps2)
    (sym taken)
    (subst (Says forms (λ f. AllByRecursion (P f) (take i rules ++ r ∷ []))) (sym (e2 ∙ ap (λ qs. qs ++ pair body to ∷ []) e1 ∙ append_assoc ps (pair pat from ∷ []) (pair body to ∷ []))) made)

pub all_rules : (p : Bare) (forms : List TyForm) (rules : List Rule) (i : ℕ) (from to : Ty) (ps : List Pair) → length rules ≤ i → Says forms (λ f. MatchAsks p f (take i rules) (under forms f from.0) (under forms f to.0)) ps → Says forms (λ f. MatchAsks p f rules (under forms f from.0) (under forms f to.0)) ps
all_rules p forms rules i from to ps l s = subst (λ (rs : List Rule). Says forms (λ f. MatchAsks p f rs (under forms f from.0) (under forms f to.0)) ps) (take_all i rules l) s

-- a binding more
pub one_binding : {A : Type 0} (forms : List TyForm) (left right : A → TyVar) (xs : List A) (i : ℕ) (d : A) (a b : Ty) (ps ps1 : List Pair) → i < length xs → StandsFor forms a (left (get_or xs i d)) → StandsFor forms b (right (get_or xs i d)) → ps1 ≡ ps ++ pair a b ∷ [] → Says forms (λ f. AllByRecursion (λ y. f (left y) ≡ f (right y)) (take i xs)) ps → Says forms (λ f. AllByRecursion (λ y. f (left y) ≡ f (right y)) (take (i + 1) xs)) ps1
one_binding forms left right xs i d a b ps ps1 l sa sb e s =
    let one : i + 1 ≡ suc i = omega arith in
    let taken : take (i + 1) xs ≡ take i xs ++ get_or xs i d ∷ [] = ap (λ k. take k xs) one ∙ take-suc xs i d l in
    subst
    (λ ys. Says forms (λ f. AllByRecursion (λ y. f (left y) ≡ f (right y)) ys) ps1)
    (sym taken)
    (subst (Says forms (λ f. AllByRecursion (λ y. f (left y) ≡ f (right y)) (take i xs ++ get_or xs i d ∷ []))) (sym e) (says_more forms (λ f y. f (left y) ≡ f (right y)) (take i xs) (get_or xs i d) ps (pair a b ∷ []) s (says_same forms a b (left (get_or xs i d)) (right (get_or xs i d)) sa sb)))

pub all_bindings : {A : Type 0} (forms : List TyForm) (left right : A → TyVar) (xs : List A) (i : ℕ) (ps : List Pair) → length xs ≤ i → Says forms (λ f. AllByRecursion (λ y. f (left y) ≡ f (right y)) (take i xs)) ps → Says forms (λ f. AllByRecursion (λ y. f (left y) ≡ f (right y)) xs) ps
all_bindings forms left right xs i ps l s = subst (λ ys. Says forms (λ f. AllByRecursion (λ y. f (left y) ≡ f (right y)) ys) ps) (take_all i xs l) s

-- ---- Matches

pub case_posed : (p : Bare) (names : List TypeName) (next : ℕ) (forms : List TyForm) (rules : List Rule) (from to : Ty) (v w : TyVar) (ps : List Pair) → AreBelow forms next → StandsFor forms from v → StandsFor forms to w → Says forms (λ f. MatchAsks p f rules (under forms f from.0) (under forms f to.0)) ps → IsPosed names (λ f. MatchAsks p f rules (f v) (f w)) next forms next forms ps
case_posed p names next forms rules from to v w ps b s r says =
    posed_says names next forms (λ f. MatchAsks p f rules (f v) (f w)) ps b
    (says_as forms (λ f. MatchAsks p f rules (under forms f from.0) (under forms f to.0)) (λ f. MatchAsks p f rules (f v) (f w)) ps
    (λ f h. subst (λ u. MatchAsks p f rules u (f w)) (under_var forms from v f s) (subst (MatchAsks p f rules (under forms f from.0)) (under_var forms to w f r) h))
    (λ f h. subst (λ u. MatchAsks p f rules u (under forms f to.0)) (sym (under_var forms from v f s)) (subst (MatchAsks p f rules (f v)) (sym (under_var forms to w f r)) h))
    says)

first_rule : (p : Bare) (f : Substitution) (rules : List Rule) (d : Rule) (a b : Tree) → 0 < length rules → MatchAsks p f rules a b → (f (node_var p (get_or rules 0 d).pat) ≡ a) × (f (node_var p (get_or rules 0 d).body) ≡ b)
first_rule p f [] d a b l h = absurd (omega arith)
first_rule p f (r ∷ rules) d a b l h = h.0

pub fn_posed : (p : Bare) (names : List TypeName) (i next : ℕ) (forms forms2 : List TyForm) (rules : List Rule) (d : Rule) (from to at made : Ty) (qs ps : List Pair) → 0 < length rules → AreForms forms → AreBelow forms next → StandsFor forms at (node_var p i) → StandsFor forms from (node_var p (get_or rules 0 d).pat) → StandsFor forms to (node_var p (get_or rules 0 d).body) → Says forms (λ f. MatchAsks p f rules (under forms f from.0) (under forms f to.0)) qs → IsFixed (arrow (tree forms from.0) (tree forms to.0)) forms forms2 made → ps ≡ qs ++ pair at made ∷ [] → IsPosed names (λ f. (a b : Tree) × (f (node_var p i) ≡ arrow a b) × MatchAsks p f rules a b) next forms next forms2 ps
fn_posed p names i next forms forms2 rules d from to at made qs ps l fs b s sf st says m e =
    let u = arrow (tree forms from.0) (tree forms to.0) in
    let B : Substitution → Type 0 = λ f. MatchAsks p f rules (under forms f from.0) (under forms f to.0) in
    posed_as names (λ f. B f × (f (node_var p i) ≡ inst f u)) (λ f. (a b : Tree) × (f (node_var p i) ≡ arrow a b) × MatchAsks p f rules a b) next forms next forms2 ps
    (λ f h. (under forms f from.0, under forms f to.0, h.1, h.0))
    (λ f h.
    let firsts = first_rule p f rules d h.0 h.1 l h.3 in
    let one = under_var forms from (node_var p (get_or rules 0 d).pat) f sf ∙ firsts.0 in
    let two = under_var forms to (node_var p (get_or rules 0 d).body) f st ∙ firsts.1 in
    (subst (λ x. MatchAsks p f rules x (under forms f to.0)) (sym one) (subst (MatchAsks p f rules h.0) (sym two) h.3), h.2 ∙ sym (ap (λ x. arrow x (under forms f to.0)) one ∙ ap (arrow h.0) two)))
    (posed_with names (λ f w. w ≡ inst f u) B next forms next forms2 qs at made (node_var p i) ps fs b s e says (made_fixed names u next forms forms2 made b m))

pub handle_posed : (p : Bare) (names : List TypeName) (i j next : ℕ) (forms forms2 : List TyForm) (rules : List Rule) (d : Rule) (from body at exn : Ty) (qs qs1 ps : List Pair) → 0 < length rules → AreForms forms → AreBelow forms next → StandsFor forms at (node_var p i) → StandsFor forms from (node_var p (get_or rules 0 d).pat) → StandsFor forms body (node_var p j) → Says forms (λ f. MatchAsks p f rules (under forms f from.0) (under forms f at.0)) qs → qs1 ≡ qs ++ pair body at ∷ [] → IsFixed exn_ty forms forms2 exn → ps ≡ qs1 ++ pair from exn ∷ [] → IsPosed names (λ f. (f (node_var p j) ≡ f (node_var p i)) × MatchAsks p f rules exn_ty (f (node_var p i))) next forms next forms2 ps
handle_posed p names i j next forms forms2 rules d from body at exn qs qs1 ps l fs b s sf sb says e1 m e2 =
    let A : Substitution → Type 0 = λ f. MatchAsks p f rules (under forms f from.0) (under forms f at.0) in
    let B : Substitution → Type 0 = λ f. A f × (f (node_var p j) ≡ f (node_var p i)) in
    let v = node_var p (get_or rules 0 d).pat in
    posed_as names (λ f. B f × (f v ≡ exn_ty)) (λ f. (f (node_var p j) ≡ f (node_var p i)) × MatchAsks p f rules exn_ty (f (node_var p i))) next forms next forms2 ps
    (λ f h. (h.0.1, subst (λ x. MatchAsks p f rules x (f (node_var p i))) (under_var forms from v f sf ∙ h.1) (subst (MatchAsks p f rules (under forms f from.0)) (under_var forms at (node_var p i) f s) h.0.0)))
    (λ f h.
    let firsts = first_rule p f rules d exn_ty (f (node_var p i)) l h.1 in
    ((subst (λ x. MatchAsks p f rules x (under forms f at.0)) (sym (under_var forms from v f sf ∙ firsts.0)) (subst (MatchAsks p f rules exn_ty) (sym (under_var forms at (node_var p i) f s)) h.1), h.0), firsts.0))
    (posed_with names (λ f w. w ≡ inst f exn_ty) B next forms next forms2 qs1 from exn v ps fs b sf e2 (subst (Says forms B) (sym e1) (says_both forms A (λ f. f (node_var p j) ≡ f (node_var p i)) qs (pair body at ∷ []) says (says_same forms body at (node_var p j) (node_var p i) sb s))) (made_fixed names exn_ty next forms forms2 exn b m))

-- ---- Names

pub named_posed : (p : Bare) (d : Declared) (settled : List (Option Settled)) (i : ℕ) (name : Name) (next : ℕ) (forms : List TyForm) (next2 : ℕ) (forms2 : List TyForm) (ps : List Pair) (abbreviations : ℕ → Poly) (o : Option Poly) → settled_at forms settled name.0 ≡ o → IsPosed d.tables.names (λ f. IsNamedAt p (name_types forms d.tables.names) d.tables.names abbreviations (settled_at forms settled) f name.0 o (f (node_var p i))) next forms next2 forms2 ps → IsPosed d.tables.names (RuleOf p d settled forms abbreviations i (node.Var name)) next forms next2 forms2 ps
named_posed p d settled i name next forms next2 forms2 ps abbreviations o e h =
    subst (λ (q : Option Poly). IsPosed d.tables.names (λ f. IsNamedAt p (name_types forms d.tables.names) d.tables.names abbreviations (settled_at forms settled) f name.0 q (f (node_var p i))) next forms next2 forms2 ps) (sym e) h

pub settled_is : (forms : List TyForm) (settled : List (Option Settled)) (x : ℕ) (s o : Option Settled) → x < length settled → s ≡ get_or settled x s → s ≡ o → slice_get settled x ≡ Some o
settled_is forms settled x s o l e q = slice_get-get_or settled x s l ∙ ap Some (sym e ∙ q)

-- ---- Constructors

pub library_closed : (e : LibraryExn) (f : Substitution) → inst f (library_exn e) ≡ library_exn e
library_closed FailExn f = refl
library_closed _ f = refl
