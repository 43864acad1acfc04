-- What meets the rules gives a typing.
use Rattle.std.proofs.Common.{◌≡◌, ℕ, Bool, true, false, cond, List, [], ◌∷◌, ◌++◌, Option, Some, None, refl, sym, ap, ◌∙◌, subst}
use Rattle.std.specs.Prelude.{slice_get, map, unwrap_or}
use Rattle.std.specs.List.{AllByRecursion}
use Rattle.sml_tree.specs.declared.bare.Bare.{Bare}
use Rattle.sml_tree.specs.declared.bare.Con.{Con}
use Rattle.sml_tree.specs.declared.bare.Con.TheVariants as con
use Rattle.sml_tree.specs.declared.bare.Field.{Field}
use Rattle.sml_tree.specs.declared.bare.Rule.{Rule}
use Rattle.sml_tree.specs.declared.bare.Binding.{Binding}
use Rattle.sml_tree.specs.declared.bare.RecBinding.{RecBinding}
use Rattle.sml_tree.specs.declared.bare.Node.{Node}
use Rattle.sml_tree.specs.declared.bare.Node.TheVariants as node
use Rattle.sml_tree.specs.BareParts.{IsNumbered}
use Rattle.sml_types.specs.declared.types.Ty.{Ty}
use Rattle.sml_types.specs.declared.types.TyVar.{TyVar}
use Rattle.sml_types.specs.declared.types.TyForm.{TyForm}
use Rattle.sml_types.specs.declared.scheme.Scheme.{Scheme}
use Rattle.sml_types.specs.declared.tables.TypeName.{TypeName}
use Rattle.sml_types.specs.Tree.{Tree, inst}
use Rattle.sml_types.specs.Poly.{Poly, poly, mono, is_in, Context, IsInstance, with_tyvars, with_own}
use Rattle.sml_types.specs.Library.{ConType, NameType, name_types, arg_of, name_ty, arrow, exn_ty, ref_number, library_exn}
use Rattle.sml_types.specs.TypeExps.{IsRecord, Means}
use Rattle.sml_types.specs.Typing.{Typing, IsTypedNode, start, IsDataPoly, HasConTy, IsConPoly, IsExnTy, IsMatch, IsBinding, IsRecBinding, IsExnArgument, IsGeneral, AreClosed, TakesAs, is_exception, con_ty, variables, fields_of, bound_in, bound_by, group_names}
use Rattle.sml_unify.specs.Solved.{Substitution}
use Rattle.infer_state.specs.Variables.{node_var, name_var}
use Rattle.infer_state.specs.Rules.{IsConAt, IsDataAt, IsNamedAt, IsMatchAt, IsWrittenAt, IsExnArgumentAt, IsRenamed, IsRule, Takes, labelled_fields}
use Rattle.infer_state.specs.Names.{Inside, inside, in_rules, in_bindings, names_of, names_of_fields, names_of_bindings, names_bound}
use Rattle.infer_state.specs.Typings.{typing_of, poly_under, scheme_under, var_at, IsPlain, IsConReady, IsReady, AreMatched, IsFinished}
use Rattle.infer_laws.specs.Cited.{node_types, LeavesWritten}
use Rattle.infer_laws.specs.Gives.{IsSettled, Keeps, IsOwnOpen, HavePartsContexts, IsInferredNode, NodesAreTyped, RulesGive, typing}
use Rattle.infer_laws.proofs.Rows.{row_of, con_of}
use Rattle.infer_laws.proofs.Copies.{instance_under, mono_instance, own_instance}
use Rattle.infer_laws.proofs.Bound.{bound_of}

takes_back : (forms : List TyForm) (arg : Option Ty) (takes : Bool) → Takes (arg_of forms arg) takes → TakesAs arg takes
takes_back forms None takes h = h
takes_back forms (Some a) takes h = h

same_poly : (s q : Poly) → s.vars ≡ q.vars → s.body ≡ q.body → s ≡ q
same_poly s q e f = ap (λ vs. poly vs s.body) e ∙ ap (poly q.vars) f

none_mapped : (g : TyVar → TyVar) (vs : List TyVar) → vs ≡ [] → map g vs ≡ []
none_mapped g vs e = ap (map g) e

module _ (p : Bare) (forms : List TyForm) (names : List TypeName) (abbreviations : List Scheme) (contexts : ℕ → Option Context) (settled : ℕ → Option Poly) (general : List (List TyVar)) (f : Substitution) (is_settled : IsSettled p settled f) where
  abbrev t : Typing
  t = typing_of p forms names abbreviations contexts settled general f

  abbrev rows : List NameType
  rows = name_types forms names

  abbrev node_ty : ℕ → Tree
  node_ty i = f (node_var p i)

  body_under : (x : ℕ) (o : Option Poly) → settled x ≡ o → (scheme_under f o (f (name_var p x))).body ≡ f (name_var p x)
  body_under x None e = refl
  body_under x (Some s) e = is_settled.bodies x s e

  scheme_body : (x : ℕ) → (t.schemes x).body ≡ f (name_var p x)
  scheme_body x = body_under x (settled x) refl

  scheme_is : (x : ℕ) (s : Poly) → settled x ≡ Some s → t.schemes x ≡ poly_under f s
  scheme_is x s e = ap (λ o. scheme_under f o (f (name_var p x))) e

  abbrev nothing_there : Context
  nothing_there = record { type_names = []; tyvars = []; names = []; own = [] }

  context_is : (i : ℕ) (c : Context) → contexts i ≡ Some c → t.contexts i ≡ c
  context_is i c e = ap (λ o. unwrap_or o nothing_there) e

  module _ (before : ℕ → Option Poly) (keeps : Keeps before settled) where
    -- ---- Names

    named_given : (x : ℕ) (c : Context) (u : Tree) (o : Option Poly) (b : Bool) → before x ≡ o → is_in c.own x ≡ b → (o ≡ None → is_in c.own x ≡ true) → (is_in c.own x ≡ true → before x ≡ None) → IsNamedAt p rows names t.abbreviations before f x o u → IsInstance names (cond b (mono (t.schemes x).body) (t.schemes x)) u
    named_given x c u None true e q usable own h = mono_instance names (t.schemes x).body u (h ∙ sym (scheme_body x))
    named_given x c u None false e q usable own h = let both : false ≡ true = sym q ∙ usable refl in cc
    named_given x c u (Some s) true e q usable own h = let both : Some s ≡ None = sym e ∙ own q in cc
    named_given x c u (Some s) false e q usable own h =
        let later = keeps x s e in
        subst (λ r. IsInstance names r u) (sym (scheme_is x s later)) (instance_under names f s u (is_settled.proper x s later) (is_settled.once x s later) h)

    -- ---- Constructors

    data_given : (n k : ℕ) (takes : Bool) (u : Tree) → IsDataAt rows names n k takes u → (s : Poly) × IsDataPoly p t n k takes s × IsInstance names s u
    data_given n k takes u d =
        let row = row_of forms names n d.row d.named in
        let con = con_of forms row.name.cons k d.con (sym (ap (λ (w : NameType). slice_get w.cons k) row.is) ∙ d.numbered) in
        let same = ap (λ (w : NameType). poly w.params (con_ty d.con.arg (name_ty n (variables w.params)))) row.is ∙ ap (λ (w : ConType). poly row.name.params (con_ty w.arg (name_ty n (variables row.name.params)))) con.is in
        let takes_as = takes_back forms con.row.arg takes (subst (λ (w : ConType). Takes w.arg takes) con.is d.takes_as) in
        (poly row.name.params (con_ty (arg_of forms con.row.arg) (name_ty n (variables row.name.params))), record { row = row.name; con = con.row; named = row.there; numbered = con.there; takes_as = takes_as; is = refl }, subst (λ s. IsInstance names s u) same d.is)

    con_given : (c : Context) (k : Con) (u : Tree) → IsConReady before c k → IsConAt p rows names t.abbreviations before f k u → HasConTy p t c k u
    con_given c (con.Data n k takes) u r h = data_given n k takes u h
    con_given c con.Ref u r h = data_given ref_number 0 true u h
    con_given c (con.Exn x takes) u r h =
        (t.schemes x.0, (r.0, refl, subst (IsExnTy takes) (sym (scheme_body x.0)) h.0), own_instance names (t.schemes x.0) u (h.1 ∙ sym (scheme_body x.0)))
    con_given c (con.Library e) u r h = (mono (library_exn e), refl, mono_instance names (library_exn e) u h)

    plain_vars : (x : ℕ) (o : Option Poly) → before x ≡ o → IsPlain o → (t.schemes x).vars ≡ []
    plain_vars x None e h = absurd h
    plain_vars x (Some s) e h = ap (λ (q : Poly). q.vars) (scheme_is x s (keeps x s e)) ∙ none_mapped (λ v. var_at v (f v)) s.vars h

    renamed_given : (c : Context) (x : ℕ) (k : Con) → (t.schemes x).vars ≡ [] → IsConReady before c k → IsRenamed p rows names t.abbreviations before f x k → (is_exception k ≡ true) × IsConPoly p t c k (t.schemes x)
    renamed_given c x (con.Data n k takes) e r h = absurd h
    renamed_given c x con.Ref e r h = absurd h
    renamed_given c x (con.Exn y takes) e r h =
        let same : (t.schemes x).body ≡ (t.schemes y.0).body = scheme_body x ∙ h.1 ∙ sym (scheme_body y.0) in
        (refl, (r.0, same_poly (t.schemes x) (t.schemes y.0) (e ∙ sym (plain_vars y.0 (before y.0) refl r.1)) same, subst (IsExnTy takes) (sym (scheme_body x ∙ h.1)) h.0))
    renamed_given c x (con.Library q) e r h =
        (refl, same_poly (t.schemes x) (mono (library_exn q)) e (scheme_body x ∙ h))

    -- ---- Parts

    abbrev Stand : List Inside → Type 0
    Stand xs = AllByRecursion (λ x. contexts x.node ≡ Some x.context) xs

    fields_stand : (c : Context) (fields : List Field) → Stand (map (λ l. inside c l.node) fields) → AllByRecursion (λ l. t.contexts l.node ≡ c) fields
    fields_stand c [] h = tt
    fields_stand c (l ∷ fields) h = (context_is l.node c h.0, fields_stand c fields h.1)

    fields_same : (fields : List Field) → labelled_fields p rows names t.abbreviations before f fields ≡ fields_of p t fields
    fields_same [] = refl
    fields_same (l ∷ fields) = let rest = fields_same fields in cc

    record_given : (fields : List Field) (u : Tree) → IsRecord (labelled_fields p rows names t.abbreviations before f fields) u → IsRecord (fields_of p t fields) u
    record_given fields u r = subst (λ ls. IsRecord ls u) (fields_same fields) r

    names_in : (fields : List Field) → names_of_fields (names_bound p.nodes) fields ≡ bound_in p t fields
    names_in [] = refl
    names_in (l ∷ fields) = ap (λ ys. names_bound p.nodes l.node ++ ys) (names_in fields)

    match_given : (rules : List Rule) (c : Context) (a b : Tree) → Stand (in_rules p.nodes c rules) → IsMatchAt p rows names t.abbreviations before f rules a b → AreMatched p t c rules → IsMatch p t rules c a b
    match_given [] c a b s h k = tt
    match_given (r ∷ rules) c a b s h k =
        (((context_is r.pat c s.0, h.0.0), (context_is r.body _ s.1.0, h.0.1), k.0.0, k.0.1), match_given rules c a b s.1.1 h.1 k.1)

    abbrev Leaves : ℕ → Type 0
    Leaves j = (w : Tree) → Means p.types p.tyvars names t.abbreviations j w → inst f w ≡ w

    written_given : (j : ℕ) (u : Tree) → Leaves j → IsWrittenAt p rows names t.abbreviations before f j u → Means p.types p.tyvars names t.abbreviations j u
    written_given j u left h =
        subst (λ v. Means p.types p.tyvars names t.abbreviations j v) (sym (h.2 ∙ left h.0 h.1)) h.1

    -- ---- Declarations

    bindings_given : (c inner : Context) (bindings : List Binding) → Stand (in_bindings inner bindings) → AllByRecursion (λ b. node_ty b.right ≡ node_ty b.pat) bindings → AllByRecursion (λ b. IsGeneral p t c b.right × AreClosed p t (t.gens b.right) (t.binds b.pat)) bindings → AllByRecursion (IsBinding p t c inner) bindings
    bindings_given c inner [] s h k = tt
    bindings_given c inner (b ∷ bindings) s h k =
        ((context_is b.pat inner s.0, (context_is b.right inner s.1.0, h.0), k.0.0, k.0.1), bindings_given c inner bindings s.1.1 h.1 k.1)

    names_by : (bindings : List Binding) → names_of_bindings (names_bound p.nodes) bindings ≡ bound_by p t bindings
    names_by [] = refl
    names_by (b ∷ bindings) = ap (λ ys. names_bound p.nodes b.pat ++ ys) (names_by bindings)

    rec_bindings_given : (c inner : Context) (bindings : List RecBinding) → Stand (map (λ b. inside inner b.right) bindings) → AllByRecursion (λ b. f (name_var p b.name.0) ≡ node_ty b.right) bindings → AllByRecursion (λ b. IsGeneral p t c b.right × ((t.schemes b.name.0).vars ≡ t.gens b.right)) bindings → AllByRecursion (IsRecBinding p t c inner) bindings
    rec_bindings_given c inner [] s h k = tt
    rec_bindings_given c inner (b ∷ bindings) s h k =
        ((context_is b.right inner s.0, k.0.0, same_poly (t.schemes b.name.0) (poly (t.gens b.right) (t.types b.right)) k.0.1 (scheme_body b.name.0 ∙ h.0)), rec_bindings_given c inner bindings s.1 h.1 k.1)

    argument_given : (x : ℕ) (arg : Option ℕ) → AllByRecursion Leaves (node_types (node.Exception (record { 0 = x }) arg)) → IsExnArgumentAt p rows names t.abbreviations before f x arg → IsExnArgument p t arg (f (name_var p x))
    argument_given x None left h = h
    argument_given x (Some j) left h = (h.0, h.1, h.2 ∙ ap (λ v. arrow v exn_ty) (left.0 h.0 h.1))

    -- ---- The node

    module _ (i : ℕ) (c : Context) where
      abbrev Given : Node → Type 0
      Given n = IsOwnOpen before c n → HavePartsContexts p.nodes contexts c n → IsReady before c n → IsRule p rows names t.abbreviations before f i n → LeavesWritten p names t.abbreviations f n → IsFinished p t c i n → t.binds i ≡ names_of (names_bound p.nodes) i n → IsTypedNode p t c (t.types i) (t.binds i) n

      gives : (n : Node) → Given n
      gives (node.Int n) = λ o s r h w k b. h
      gives (node.Char n) = λ o s r h w k b. h
      gives (node.Text n) = λ o s r h w k b. h
      gives (node.Var x) = λ o s r h w k b. (r.0, named_given x.0 c (node_ty i) (before x.0) (is_in c.own x.0) refl refl r.1 o h)
      gives (node.Constructor q) = λ o s r h w k b. con_given c q (node_ty i) r h
      gives (node.Builtin q) = λ o s r h w k b. h
      gives (node.Record fields) = λ o s r h w k b. (fields_stand c fields s.inside, record_given fields (node_ty i) h)
      gives (node.App g a) = λ o s r h w k b. (node_ty a, (context_is g c s.inside.0, h), (context_is a c s.inside.1.0, refl))
      gives (node.Case e rules) = λ o s r h w k b. (node_ty e, (context_is e c s.inside.0, refl), match_given rules c (node_ty e) (node_ty i) s.inside.1 h k)
      gives (node.Fn rules) = λ o s r h w k b. (h.0, h.1, h.2, match_given rules c h.0 h.1 s.inside h.3 k)
      gives (node.Raise e) = λ o s r h w k b. (context_is e c s.inside.0, h)
      gives (node.Handle e rules) = λ o s r h w k b. ((context_is e c s.inside.0, h.0), match_given rules c exn_ty (node_ty i) s.inside.1 h.1 k)
      gives (node.Typed e j) = λ o s r h w k b. ((context_is e c s.inside.0, h.0), written_given j (node_ty i) w.0 h.1)
      gives (node.Let d e) = λ o s r h w k b. (context_is d c s.inside.0, (context_is e _ (s.body d e refl), h), k)
      gives node.Finish = λ o s r h w k b. h
      gives node.Wild = λ o s r h w k b. b
      gives (node.PatInt n) = λ o s r h w k b. (h, b)
      gives (node.PatChar n) = λ o s r h w k b. (h, b)
      gives (node.PatText n) = λ o s r h w k b. (h, b)
      gives (node.PatVar x) = λ o s r h w k b. (scheme_body x.0 ∙ h, b)
      gives (node.PatCon q) = λ o s r h w k b. (con_given c q (node_ty i) r h.0, h.1, b)
      gives (node.PatApp g q) = λ o s r h w k b. (node_ty q, con_given c g (arrow (node_ty q) (node_ty i)) r h.0, h.1, (context_is q c s.inside.0, refl), b)
      gives (node.PatRecord fields) = λ o s r h w k b. ((fields_stand c fields s.inside, record_given fields (node_ty i) h), b ∙ names_in fields)
      gives (node.PatTyped q j) = λ o s r h w k b. ((context_is q c s.inside.0, h.0), written_given j (node_ty i) w.0 h.1, b)
      gives (node.PatAs x q) = λ o s r h w k b. (scheme_body x.0 ∙ h.0, (context_is q c s.inside.0, h.1), b)
      gives (node.PatAsCon x q) = λ o s r h w k b. h
      gives (node.Val us bindings) = λ o s r h w k b. (bindings_given c (with_tyvars us c) bindings s.inside h k.0, b ∙ names_by bindings, k.1, k.2)
      gives (node.ValRec us bindings) = λ o s r h w k b. (rec_bindings_given c (with_tyvars us (with_own (group_names bindings) c)) bindings s.inside h k.0, b, k.1, k.2)
      gives (node.Type bindings) = λ o s r h w k b. k
      gives (node.Datatype bindings) = λ o s r h w k b. k
      gives (node.Exception x arg) = λ o s r h w k b. (f (name_var p x.0), argument_given x.0 arg w h, same_poly (t.schemes x.0) (mono (f (name_var p x.0))) k (scheme_body x.0), b)
      gives (node.SameException x q) = λ o s r h w k b. let e = renamed_given c x.0 q k r h in (e.0, e.1, b)
      gives (node.NoException x) = λ o s r h w k b. h

  -- a node whose rule holds, with what was checked, is typed
  node_is_typed : (i : ℕ) (n : Node) → IsNumbered p.nodes → IsInferredNode p forms names abbreviations contexts settled general f i n → IsTypedNode p t (t.contexts i) (t.types i) (t.binds i) n
  node_is_typed i n numbered node_done =
      subst (λ c. IsTypedNode p t c (t.types i) (t.binds i) n) (sym (context_is i node_done.context node_done.stands)) (gives node_done.before node_done.keeps i node_done.context n node_done.own node_done.parts node_done.ready node_done.rule node_done.written node_done.finished (bound_of p.nodes i n numbered node_done.there))

pub nodes_are_typed : (p : Bare) (forms : List TyForm) (names : List TypeName) (abbreviations : List Scheme) (contexts : ℕ → Option Context) (settled : ℕ → Option Poly) (general : List (List TyVar)) (f : Substitution) → NodesAreTyped p forms names abbreviations contexts settled general f
nodes_are_typed p forms names abbreviations contexts settled general f i n numbered schemes done =
    node_is_typed p forms names abbreviations contexts settled general f schemes i n numbered done

-- what meets the rules is a typing
pub rules_give : (p : Bare) (forms : List TyForm) (names : List TypeName) (abbreviations : List Scheme) (contexts : ℕ → Option Context) (settled : ℕ → Option Poly) (general : List (List TyVar)) (f : Substitution) → RulesGive p forms names abbreviations contexts settled general f
rules_give p forms names abbreviations contexts settled general f count done =
    record {
      root = context_is p forms names abbreviations contexts settled general f done.schemes 0 (start p (typing p forms names abbreviations contexts settled general f)) done.root;
      library = done.library;
      parameter = done.parameter;
      declared = done.declared;
      rules = λ i n l e. node_is_typed p forms names abbreviations contexts settled general f done.schemes i n done.numbered (done.nodes i n l e);
    }
