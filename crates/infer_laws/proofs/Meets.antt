-- A typing meets the rules.
use Rattle.std.proofs.Common.{◌≡◌, ℕ, zero, suc, ◌<◌, Bool, true, false, cond, List, [], ◌∷◌, length, Option, Some, None, refl, sym, ap, ◌∙◌, subst, arith}
use Rattle.std.specs.Prelude.{slice_get, map, flat_map}
use Rattle.std.specs.List.{AllByRecursion}
use Rattle.sml_tree.specs.declared.bare.Bare.{Bare}
use Rattle.sml_tree.specs.declared.bare.Con.{Con}
use Rattle.sml_tree.specs.declared.bare.Con.TheVariants as con
use Rattle.sml_tree.specs.declared.bare.Field.{Field}
use Rattle.sml_tree.specs.declared.bare.Rule.{Rule}
use Rattle.sml_tree.specs.declared.bare.Binding.{Binding}
use Rattle.sml_tree.specs.declared.bare.RecBinding.{RecBinding}
use Rattle.sml_tree.specs.declared.bare.Node.{Node}
use Rattle.sml_tree.specs.declared.bare.Node.TheVariants as node
use Rattle.sml_tree.specs.BareParts.{rule_parts}
use Rattle.sml_types.specs.declared.types.Ty.{Ty}
use Rattle.sml_types.specs.declared.types.TyForm.{TyForm}
use Rattle.sml_types.specs.declared.types.TyVar.{TyVar}
use Rattle.sml_types.specs.declared.tables.TypeName.{TypeName}
use Rattle.sml_types.specs.Tree.{Tree, Variable, inst, occurs}
use Rattle.sml_types.specs.Poly.{Poly, mono, is_in, has_num, Context, scheme_in, IsInstance, with_tyvars, with_own}
use Rattle.sml_types.specs.Library.{NameType, name_type, name_types, arg_of, arrow, exn_ty, ref_number, library_exn, primitive_poly}
use Rattle.sml_types.specs.TypeExps.{Labelled, IsRecord, Means}
use Rattle.sml_types.specs.Typing.{Typing, IsTypedNode, IsDataPoly, HasConTy, IsConPoly, IsExnTy, IsMatch, IsBinding, IsRecBinding, IsExnArgument, TakesAs, is_exception, fields_of, group_names}
use Rattle.sml_types.proofs.TreeFacts.{inst_inst}
use Rattle.sml_unify.specs.Solved.{Substitution}
use Rattle.infer_state.specs.Variables.{node_var, name_var}
use Rattle.infer_state.specs.Rules.{IsRule, IsConAt, IsDataAt, IsNamedAt, IsMatchAt, IsWrittenAt, IsExnArgumentAt, IsRenamed, IsCopy, Takes, labelled_fields}
use Rattle.infer_state.specs.Fits.{Suits}
use Rattle.infer_state.specs.Typings.{IsPlain, IsConReady, IsReady}
use Rattle.infer_laws.specs.Cited.{con_names, node_types, IsPlaced, LeavesWritten}
use Rattle.infer_laws.specs.Meets.{Follows, TypingsMeet}
use Rattle.infer_laws.proofs.Rows.{row_at, con_at, con_type, instance_same, means_same}
use Rattle.infer_laws.proofs.Copies.{copy_of, mono_only, own_instance, inst_left, inst_on, vars_map}

-- a number at which something stands is below the length
pub get_below : {A : Type 0} (xs : List A) (i : ℕ) (x : A) → slice_get xs i ≡ Some x → i < length xs
get_below [] i x e = cc
get_below (y ∷ xs) zero x e = omega arith
get_below (y ∷ xs) (suc i) x e = let k = get_below xs i x e in omega arith

-- a name at its own type or at an instance of its scheme is at an instance of its scheme
scheme_instance : (names : List TypeName) (s : Poly) (b : Bool) (t : Tree) → IsInstance names (cond b (mono s.body) s) t → IsInstance names s t
scheme_instance names s true t i = own_instance names s t (mono_only names s.body t i)
scheme_instance names s false t i = i

takes_same : (forms : List TyForm) (arg : Option Ty) (takes : Bool) → TakesAs arg takes → Takes (arg_of forms arg) takes
takes_same forms None takes h = h
takes_same forms (Some a) takes h = h

exn_along : (takes : Bool) (a b : Tree) → a ≡ b → IsExnTy takes a → IsExnTy takes b
exn_along takes a b e h = subst (IsExnTy takes) e h

-- a scheme without variables leaves nothing open
plain_left : (f : Substitution) (s other : Poly) (at : Substitution) → s.vars ≡ [] → Suits f s other → ((v : TyVar) → has_num other.vars v.num ≡ false → at v ≡ Variable v) → inst at (inst f s.body) ≡ inst f s.body
plain_left f s other at e suits others =
    inst_inst at f s.body
    ∙ inst_on (λ v. inst at (f v)) f s.body (vars_map (λ u. has_num s.vars u.num ≡ false → (a : ℕ) → occurs a (f u) ≡ true → has_num other.vars a ≡ false) (λ v. inst at (f v) ≡ f v) s.body (λ v o. inst_left at (f v) (λ w q. others w (o (ap (λ vs. has_num vs v.num) e) w.num q))) suits.left_open)

abbrev field_at : Field → Tree → Labelled
field_at l u = record { slot = l.slot; lab = l.lab; ty = u }

module _ (p : Bare) (forms : List TyForm) (names : List TypeName) (settled : ℕ → Option Poly) (f : Substitution) (t : Typing) (follows : Follows p forms names settled f t) where
  abbrev rows : List NameType
  rows = name_types forms names

  instance_here : (s : Poly) (u : Tree) → IsInstance t.names s u → IsInstance names s u
  instance_here s u i = instance_same t.forms forms t.names names follows.rows s u i

  type_is : (i : ℕ) → i < length p.nodes → f (node_var p i) ≡ t.types i
  type_is i l = follows.fits.of_nodes i l

  body_is : (x : ℕ) → x < length p.names → f (name_var p x) ≡ (t.schemes x).body
  body_is x l = follows.fits.of_names x l

  -- ---- Constructors

  data_at : (n k : ℕ) (takes : Bool) (s : Poly) (u : Tree) → IsDataPoly p t n k takes s → IsInstance t.names s u → IsDataAt rows names n k takes u
  data_at n k takes s u d i =
      record {
        row = name_type t.forms d.row;
        con = con_type t.forms d.con;
        named = sym (ap (λ w. slice_get w n) follows.rows) ∙ row_at t.forms t.names n d.row d.named;
        numbered = con_at t.forms d.row.cons k d.con d.numbered;
        takes_as = takes_same t.forms d.con.arg takes d.takes_as;
        is = subst (λ q. IsInstance names q u) d.is (instance_here s u i);
      }

  -- a name whose settled scheme has no variables has one type
  plain_only : (x : ℕ) (o : Option Poly) (u : Tree) → settled x ≡ o → IsPlain o → IsInstance t.names (t.schemes x) u → u ≡ (t.schemes x).body
  plain_only x None u e h i = absurd h
  plain_only x (Some s) u e h i =
      let suits : Suits f s (t.schemes x) = follows.suit x s e in
      i.is ∙ ap (inst i.at) (sym suits.body) ∙ plain_left f s (t.schemes x) i.at h suits i.others ∙ suits.body

  abbrev AreNames : List ℕ → Type 0
  AreNames xs = AllByRecursion (λ x. x < length p.names) xs

  abbrev AreNodes : List ℕ → Type 0
  AreNodes is = AllByRecursion (λ c. c < length p.nodes) is

  con_met : (c : Context) (k : Con) (u v : Tree) → u ≡ v → AreNames (con_names k) → IsConReady settled c k → HasConTy p t c k u → IsConAt p rows names t.abbreviations settled f k v
  con_met c (con.Data n k takes) u v e l r h = subst (IsDataAt rows names n k takes) e (data_at n k takes h.0 u h.1 h.2)
  con_met c con.Ref u v e l r h = subst (IsDataAt rows names ref_number 0 true) e (data_at ref_number 0 true h.0 u h.1 h.2)
  con_met c (con.Exn x takes) u v e l r h =
      let here : (t.schemes x.0).body ≡ f (name_var p x.0) = sym (body_is x.0 l.0) in
      let at : u ≡ (t.schemes x.0).body = plain_only x.0 (settled x.0) u refl r.1 (subst (λ s. IsInstance t.names s u) h.1.1 h.2) in
      (exn_along takes h.0.body (f (name_var p x.0)) (ap (λ (s : Poly). s.body) h.1.1 ∙ here) h.1.2, sym e ∙ at ∙ here)
  con_met c (con.Library e) u v q l r h =
      sym q ∙ mono_only t.names (library_exn e) u (subst (λ s. IsInstance t.names s u) h.1 h.2)

  renamed_met : (c : Context) (x : ℕ) (k : Con) → x < length p.names → AreNames (con_names k) → is_exception k ≡ true → IsConPoly p t c k (t.schemes x) → IsRenamed p rows names t.abbreviations settled f x k
  renamed_met c x (con.Data n k takes) b l e h = cc
  renamed_met c x con.Ref b l e h = cc
  renamed_met c x (con.Exn y takes) b l e h =
      let same : (t.schemes x).body ≡ f (name_var p y.0) = ap (λ (s : Poly). s.body) h.1 ∙ sym (body_is y.0 l.0) in
      (exn_along takes (t.schemes x).body (f (name_var p y.0)) same h.2, body_is x b ∙ same)
  renamed_met c x (con.Library q) b l e h = body_is x b ∙ ap (λ (s : Poly). s.body) h

  -- ---- Names

  named_met : (x : ℕ) (c : Context) (u v : Tree) (o : Option Poly) → u ≡ v → settled x ≡ o → x < length p.names → (o ≡ None → is_in c.own x ≡ true) → IsInstance t.names (scheme_in t.schemes c x) u → IsNamedAt p rows names t.abbreviations settled f x o v
  named_met x c u v None q e l own i =
      sym q
      ∙ mono_only t.names (t.schemes x).body u (subst (λ b. IsInstance t.names (cond b (mono (t.schemes x).body) (t.schemes x)) u) (own refl) i)
      ∙ sym (body_is x l)
  named_met x c u v (Some s) q e l own i =
      subst (IsCopy names f s) q (copy_of names f s (t.schemes x) u (follows.suit x s e) (follows.marks x s e) (instance_here (t.schemes x) u (scheme_instance t.names (t.schemes x) (is_in c.own x) u i)))

  -- ---- Parts

  fields_same : (fields : List Field) → AreNodes (map (λ l. l.node) fields) → fields_of p t fields ≡ labelled_fields p rows names t.abbreviations settled f fields
  fields_same [] h = refl
  fields_same (l ∷ fields) h =
      ap (λ u. field_at l u ∷ fields_of p t fields) (sym (type_is l.node h.0))
      ∙ ap (λ ls. field_at l (f (node_var p l.node)) ∷ ls) (fields_same fields h.1)

  record_met : (fields : List Field) (u v : Tree) → u ≡ v → AreNodes (map (λ l. l.node) fields) → IsRecord (fields_of p t fields) u → IsRecord (labelled_fields p rows names t.abbreviations settled f fields) v
  record_met fields u v e h r = subst (λ ls. IsRecord ls v) (fields_same fields h) (subst (IsRecord (fields_of p t fields)) e r)

  match_met : (rules : List Rule) (c : Context) (a b a2 b2 : Tree) → a ≡ a2 → b ≡ b2 → AreNodes (flat_map rule_parts rules) → IsMatch p t rules c a b → IsMatchAt p rows names t.abbreviations settled f rules a2 b2
  match_met [] c a b a2 b2 d e l h = tt
  match_met (r ∷ rules) c a b a2 b2 d e l h =
      ((type_is r.pat l.0 ∙ h.0.0.1 ∙ d, type_is r.body l.1.0 ∙ h.0.1.1 ∙ e), match_met rules c a b a2 b2 d e l.1.1 h.1)

  abbrev Leaves : ℕ → Type 0
  Leaves j = (w : Tree) → Means p.types p.tyvars names t.abbreviations j w → inst f w ≡ w

  mean_here : (j : ℕ) (u : Tree) → Means p.types p.tyvars t.names t.abbreviations j u → Means p.types p.tyvars names t.abbreviations j u
  mean_here j u m = means_same t.forms forms t.names names follows.rows p.types p.tyvars t.abbreviations (j ∷ []) (u ∷ []) m

  written_met : (j : ℕ) (u v : Tree) → u ≡ v → Leaves j → Means p.types p.tyvars t.names t.abbreviations j u → IsWrittenAt p rows names t.abbreviations settled f j v
  written_met j u v e left m = let k = mean_here j u m in (u, k, sym e ∙ sym (left u k))

  -- ---- Declarations

  bindings_met : (c inner : Context) (bindings : List Binding) → AreNodes (flat_map (λ b. b.pat ∷ b.right ∷ []) bindings) → AllByRecursion (IsBinding p t c inner) bindings → AllByRecursion (λ b. f (node_var p b.right) ≡ f (node_var p b.pat)) bindings
  bindings_met c inner [] l h = tt
  bindings_met c inner (b ∷ bindings) l h =
      (type_is b.right l.1.0 ∙ h.0.1.1 ∙ sym (type_is b.pat l.0), bindings_met c inner bindings l.1.1 h.1)

  rec_bindings_met : (c inner : Context) (bindings : List RecBinding) → AreNames (group_names bindings) → AreNodes (map (λ b. b.right) bindings) → AllByRecursion (IsRecBinding p t c inner) bindings → AllByRecursion (λ b. f (name_var p b.name.0) ≡ f (node_var p b.right)) bindings
  rec_bindings_met c inner [] k l h = tt
  rec_bindings_met c inner (b ∷ bindings) k l h =
      (body_is b.name.0 k.0 ∙ ap (λ (s : Poly). s.body) h.0.2 ∙ sym (type_is b.right l.0), rec_bindings_met c inner bindings k.1 l.1 h.1)

  argument_met : (x : ℕ) (arg : Option ℕ) (a : Tree) → x < length p.names → AllByRecursion Leaves (node_types (node.Exception (record { 0 = x }) arg)) → IsExnArgument p t arg a → t.schemes x ≡ mono a → IsExnArgumentAt p rows names t.abbreviations settled f x arg
  argument_met x None a l left h e = body_is x l ∙ ap (λ (s : Poly). s.body) e ∙ h
  argument_met x (Some j) a l left h e =
      let k = mean_here j h.0 h.1 in
      (h.0, k, body_is x l ∙ ap (λ (s : Poly). s.body) e ∙ h.2 ∙ ap (λ w. arrow w exn_ty) (sym (left.0 h.0 k)))

  -- ---- The rule

  abbrev Met : ℕ → Node → Type 0
  Met i n = IsRule p rows names t.abbreviations settled f i n

  pub meets : (i : ℕ) (n : Node) → i < length p.nodes → IsPlaced p n → IsReady settled (t.contexts i) n → LeavesWritten p names t.abbreviations f n → IsTypedNode p t (t.contexts i) (t.types i) (t.binds i) n → Met i n
  meets i (node.Int n) l w r k h = type_is i l ∙ h
  meets i (node.Char n) l w r k h = type_is i l ∙ h
  meets i (node.Text n) l w r k h = type_is i l ∙ h
  meets i (node.Var x) l w r k h =
      named_met x.0 (t.contexts i) (t.types i) (f (node_var p i)) (settled x.0) (sym (type_is i l)) refl w.names.0 r.1 h.1
  meets i (node.Constructor c) l w r k h = con_met (t.contexts i) c (t.types i) (f (node_var p i)) (sym (type_is i l)) w.names r h
  meets i (node.Builtin b) l w r k h =
      subst (IsInstance names (primitive_poly b)) (sym (type_is i l)) (instance_here (primitive_poly b) (t.types i) h)
  meets i (node.Record fields) l w r k h = record_met fields (t.types i) (f (node_var p i)) (sym (type_is i l)) w.parts h.1
  meets i (node.App g a) l w r k h =
      type_is g w.parts.0 ∙ h.1.1 ∙ ap (λ u. arrow u (t.types i)) (sym h.2.1 ∙ sym (type_is a w.parts.1.0)) ∙ ap (arrow (f (node_var p a))) (sym (type_is i l))
  meets i (node.Case e rules) l w r k h =
      match_met rules (t.contexts i) h.0 (t.types i) (f (node_var p e)) (f (node_var p i)) (sym h.1.1 ∙ sym (type_is e w.parts.0)) (sym (type_is i l)) w.parts.1 h.2
  meets i (node.Fn rules) l w r k h = (h.0, h.1, type_is i l ∙ h.2, match_met rules (t.contexts i) h.0 h.1 h.0 h.1 refl refl w.parts h.3)
  meets i (node.Raise e) l w r k h = type_is e w.parts.0 ∙ h.1
  meets i (node.Handle e rules) l w r k h =
      (type_is e w.parts.0 ∙ h.0.1 ∙ sym (type_is i l), match_met rules (t.contexts i) exn_ty (t.types i) exn_ty (f (node_var p i)) refl (sym (type_is i l)) w.parts.1 h.1)
  meets i (node.Typed e j) l w r k h =
      (type_is e w.parts.0 ∙ h.0.1 ∙ sym (type_is i l), written_met j (t.types i) (f (node_var p i)) (sym (type_is i l)) k.0 h.1)
  meets i (node.Let d e) l w r k h = type_is e w.parts.1.0 ∙ h.1.1 ∙ sym (type_is i l)
  meets i node.Finish l w r k h = type_is i l ∙ h
  meets i node.Wild l w r k h = tt
  meets i (node.PatInt n) l w r k h = type_is i l ∙ h.0
  meets i (node.PatChar n) l w r k h = type_is i l ∙ h.0
  meets i (node.PatText n) l w r k h = type_is i l ∙ h.0
  meets i (node.PatVar x) l w r k h = body_is x.0 w.names.0 ∙ h.0 ∙ sym (type_is i l)
  meets i (node.PatCon c) l w r k h =
      (con_met (t.contexts i) c (t.types i) (f (node_var p i)) (sym (type_is i l)) w.names r h.0, h.1)
  meets i (node.PatApp c q) l w r k h =
      (con_met (t.contexts i) c (arrow h.0 (t.types i)) (arrow (f (node_var p q)) (f (node_var p i))) (ap (λ u. arrow u (t.types i)) (sym h.3.1 ∙ sym (type_is q w.parts.0)) ∙ ap (arrow (f (node_var p q))) (sym (type_is i l))) w.names r h.1, h.2)
  meets i (node.PatRecord fields) l w r k h =
      record_met fields (t.types i) (f (node_var p i)) (sym (type_is i l)) w.parts h.0.1
  meets i (node.PatTyped q j) l w r k h =
      (type_is q w.parts.0 ∙ h.0.1 ∙ sym (type_is i l), written_met j (t.types i) (f (node_var p i)) (sym (type_is i l)) k.0 h.1)
  meets i (node.PatAs x q) l w r k h =
      (body_is x.0 w.names.0 ∙ h.0 ∙ sym (type_is i l), type_is q w.parts.0 ∙ h.1.1 ∙ sym (type_is i l))
  meets i (node.PatAsCon x q) l w r k h = h
  meets i (node.Val us bindings) l w r k h = bindings_met (t.contexts i) (with_tyvars us (t.contexts i)) bindings w.parts h.0
  meets i (node.ValRec us bindings) l w r k h =
      rec_bindings_met (t.contexts i) (with_tyvars us (with_own (group_names bindings) (t.contexts i))) bindings w.names w.parts h.0
  meets i (node.Type bindings) l w r k h = tt
  meets i (node.Datatype bindings) l w r k h = tt
  meets i (node.Exception x arg) l w r k h = argument_met x.0 arg h.0 w.names.0 k h.1 h.2
  meets i (node.SameException x c) l w r k h = renamed_met (t.contexts i) x.0 c w.names.0 w.names.1 h.0 h.1
  meets i (node.NoException x) l w r k h = h

-- a substitution that follows a typing meets the rule of each node that is ready
pub typings_meet : (p : Bare) (forms : List TyForm) (names : List TypeName) (settled : ℕ → Option Poly) (f : Substitution) (t : Typing) → Follows p forms names settled f t → TypingsMeet p forms names settled f t
typings_meet p forms names settled f t follows count i n typing below there placed ready left =
    meets p forms names settled f t follows i n (get_below p.nodes i n there) placed ready left (typing.rules i n below there)
