-- The evaluation of an expression leaves a typed state.
use Rattle.simulation.proofs.Lists.{get_below}
use Rattle.sml_def.specs.Match.{con_value}
use Rattle.sml_def.specs.Maybe.{◌>>=◌}
use Rattle.sml_def.specs.Memory.{Memory, going, awaiting}
use Rattle.sml_def.specs.State.{Library, Closure, FunctionPart, Subject, RaisePart, Guarded, Maker, RefMaker, Tag, Number, Letter, Nothing, Constant, Builtin, Value, Env, Address, Awaits, Eval, Ret, look}
use Rattle.sml_def.specs.Step.{eval_dec, eval, env_of_match, env_of}
use Rattle.sml_sound.proofs.Environments.{env_same, env_cut}
use Rattle.sml_sound.proofs.Families.{library_closed, agrees_self, keeps_both, instance_keeps}
use Rattle.sml_sound.proofs.Matching.{exn_value}
use Rattle.sml_sound.proofs.Lists.{all_at}
use Rattle.sml_sound.proofs.Names.{sort_is, rule_at, sorts_at, self_in}
use Rattle.sml_sound.proofs.Plain.{is_plain, expansive, plain_fields, plain_app, plain_under, con_covers, new_con}
use Rattle.sml_sound.proofs.Equality.{con_equal}
use Rattle.sml_sound.proofs.SafeActs.{Ready, Safe, going_safe, accept_map, made_safe, awaiting_safe}
use Rattle.sml_sound.proofs.SafeDeclarations.{inst_weak, eval_dec_safe}
use Rattle.sml_sound.proofs.SafeNodes.{known, exp_of, rules_exp, rules_pat, fields_exp, back, takes_plain, mono_takes, envs_cut, any_takes, eval_fields_safe}
use Rattle.sml_sound.proofs.Tables.{data_takes, data_plain, con_same, library_con}
use Rattle.sml_sound.proofs.Values.{exn_con}
use Rattle.sml_sound.specs.TypedStates.{KeepsMarks, AreRules, FrameTy, EvalTy, IsMaker, IsMaking, data_ty, Agrees, Family, family, one, Entry, HasTy, HasScheme, EnvTy, EnvTys, Accepts, TakesAll, Fits, IsExp, IsFixed, TakesNode, free_of_match}
use Rattle.sml_tree.proofs.FreeParts.{free_unfold, binds_unfold}
use Rattle.sml_tree.proofs.Members.{within_left, within_right}
use Rattle.sml_tree.specs.BareParts.{node_parts, rule_parts}
use Rattle.sml_tree.specs.Free.{free_of, exception_of, free, binds}
use Rattle.sml_tree.specs.IsBare.{Declaration, sort_of, HasSorts, Stands, Expression, HasRules}
use Rattle.sml_tree.specs.Sets.{union, without}
use Rattle.sml_tree.specs.declared.bare.Bare.{Bare}
use Rattle.sml_tree.specs.declared.bare.Con.{Con}
use Rattle.sml_tree.specs.declared.bare.Con.TheVariants as con
use Rattle.sml_tree.specs.declared.bare.Lab.{Lab}
use Rattle.sml_tree.specs.declared.bare.Node.{Node}
use Rattle.sml_tree.specs.declared.bare.Node.TheVariants as node
use Rattle.sml_tree.specs.declared.bare.Rule.{Rule}
use Rattle.sml_types.proofs.TreeFacts.{inst_inst}
use Rattle.sml_types.specs.Library.{parts, exn_ty, library_exn, arrow, unit_ty, string_ty, ref_number, primitive_poly}
use Rattle.sml_types.specs.NonExpansive.{is_ref, plain_atom, plain_none, AreNonExpansive}
use Rattle.sml_types.specs.Poly.{is_in, Poly, IsInstance, Context}
use Rattle.sml_types.specs.Tree.{Variable, Tree, App, FieldsHead, inst}
use Rattle.sml_types.specs.TypeExps.{IsRecord}
use Rattle.sml_types.specs.Typing.{IsTypedNode, HasConTy, is_exception, fields_of, Typing, IsMatch}
use Rattle.sml_types.specs.declared.types.TyVar.{TyVar}
use Rattle.std.proofs.Common.{⊎_elim, ◌≡◌, ℕ, ◌<◌, Bool, true, false, List, [], ◌∷◌, length, Option, Some, refl, sym, ap, ◌∙◌, subst, arith, ◌⊎◌, inl, inr}
use Rattle.std.specs.List.{AllByRecursion}
use Rattle.std.specs.Prelude.{slice_get, flat_map}

module _ {p : Bare} {t : Typing} {m : Memory} {sig : List Entry} (ready : Ready p t m sig) where
  -- ---- Eval

  ret_con : (i : ℕ) (v : Value) (k : Option Address) (f : Family) → f.ty ≡ t.types i → ((h : TyVar → Tree) → Agrees t.names f.gens f.at h → HasTy p t sig v (inst h (t.types i))) → ((n c : ℕ) → slice_get p.nodes i ≡ Some (node.Constructor (con.Data n c true)) → IsMaker p t v) → Accepts p t sig k (TakesNode p t i f) → Safe p t m.store (going m (Ret v k))
  ret_con i v k f e hv hm hk =
      going_safe ready (Ret v k)
      (accept_map ready sig k (TakesNode p t i f) (Fits p t sig v) (λ g b h. ((λ u x. let y = h.0 u x in subst (HasTy p t sig v) (sym (y.2 ∙ ap (inst y.0) e)) (hv y.0 y.1)), (λ e. let y = h.1 e in hm y.0 y.1 y.2))) hk)

  stands_at : (i : ℕ) (q : Node) → slice_get p.nodes i ≡ Some q → Stands p q
  stands_at i q e = all_at (Stands p) p.nodes i q ready.bare.stands e

  -- a constructor as a value
  con_safe : (i : ℕ) (c : Context) (q : Con) (env : Env) (k : Option Address) (f : Family) → KeepsMarks t.names f.at → slice_get p.nodes i ≡ Some (node.Constructor q) → HasConTy p t c q (t.types i) → f.ty ≡ t.types i → EnvTys p t sig f (exception_of q) env → Accepts p t sig k (TakesNode p t i f) → Safe p t m.store (con_value env q >>= λ v. going m (Ret v k))
  con_safe i c (con.Data n j true) env k f kf ei r e he hk =
      let d = data_takes p t n j r.0 r.1 in
      let mk : IsMaking p t j (record { name = n; params = d.0; arg = d.1 }) = record { is_con = d.2; covers = con_covers p t ready.typing n j true d.0 d.1 (stands_at i (node.Constructor (con.Data n j true)) ei).0 d.2; new = new_con p t ready.typing n j true (stands_at i (node.Constructor (con.Data n j true)) ei).0; equal = con_equal p t ready.typing n j d.0 d.1 (stands_at i (node.Constructor (con.Data n j true)) ei).0 d.2 } in
      ret_con i (Maker j) k f e
      (λ h a. (record { name = n; params = d.0; arg = d.1 }, (λ w. inst h (r.2.at w)), mk, ap (inst h) (r.2.is ∙ ap (λ (s : Poly). inst r.2.at s.body) d.3) ∙ inst_inst h r.2.at (arrow d.1 (data_ty p t n d.0))))
      (λ n2 c2 e2. (j, refl)) hk
  con_safe i c (con.Data n j false) env k f kf ei r e he hk =
      let d = data_plain p t n j r.0 r.1 in
      ret_con i (Tag j) k f e
      (λ h a. (n, d.0, (λ w. inst h (r.2.at w)), d.1, ap (inst h) (r.2.is ∙ ap (λ (s : Poly). inst r.2.at s.body) d.2) ∙ inst_inst h r.2.at (data_ty p t n d.0)))
      (λ n2 c2 e2. absurd (let x = sym ei ∙ e2 in cc)) hk
  con_safe i c con.Ref env k f kf ei r e he hk =
      let d = data_takes p t ref_number 0 r.0 r.1 in
      let a = ready.typing.library.param in
      let row : (d.0 ≡ a ∷ []) × (Some d.1 ≡ Some (Variable a)) = con_same p t ref_number 0 d.0 (a ∷ []) (Some d.1) (Some (Variable a)) d.2 (library_con p t ready.typing.library 8 0 _ _ refl refl) in
      let arg : d.1 ≡ Variable a = (let x = row.1 in cc) in
      let is : t.types i ≡ inst r.2.at (arrow (Variable a) (data_ty p t ref_number (a ∷ []))) = r.2.is ∙ ap (λ (s : Poly). inst r.2.at s.body) d.3 ∙ ap (λ u. inst r.2.at (arrow u (data_ty p t ref_number d.0))) arg ∙ ap (λ ps. inst r.2.at (arrow (Variable a) (data_ty p t ref_number ps))) row.0 in
      ret_con i RefMaker k f e (λ h x. (inst h (r.2.at a), ap (inst h) is)) (λ n2 c2 e2. absurd (let x = sym ei ∙ e2 in cc)) hk
  con_safe i c (con.Exn y takes) env k f kf ei r e he hk =
      let v = (he f.at (agrees_self t.names f.gens f.at kf)).1 y.0 (self_in y.0) in
      known ready (look env y.0) v.0 (λ v. going m (Ret v k)) v.1
      (ret_con i v.0 k f e (λ h a. exn_value p t ready.typing ready.bare.numbered ready.bare.sorts sig m.store ready.store h (y.0 ∷ []) env (he h a) c y.0 (t.types i) v.0 (self_in y.0) (subst (λ s. IsInstance t.names s (t.types i)) r.1.1 r.2) v.1) (λ n2 c2 e2. absurd (let x = sym ei ∙ e2 in cc)) hk)
  con_safe i c (con.Library l) env k f kf ei r e he hk =
      ret_con i (Library l) k f e (λ h a. ap (inst h) (r.2.is ∙ ap (λ (s : Poly). inst r.2.at s.body) r.1 ∙ library_closed r.2.at l) ∙ library_closed h l) (λ n2 c2 e2. absurd (let x = sym ei ∙ e2 in cc)) hk

  -- a part is evaluated for one type
  awaiting_one : (w : Awaits) (k : Option Address) (i : ℕ) (env : Env) (g : TyVar → Tree) → FrameTy p t sig w (one g (t.types i)) false k → IsExp p t i → EnvTy p t sig g (free p.nodes i) env → Safe p t m.store (awaiting m w k (Eval i env))
  awaiting_one w k i env g hw hx hn =
      awaiting_safe ready w k i env (one g (t.types i)) false hn.0 hw refl hx (inl refl) (λ h a. env_same p t sig g h (free p.nodes i) env a hn) (λ e. cc)

  app_frame : (i fn a : ℕ) (env : Env) (k : Option Address) (f : Family) (makers : Bool) → KeepsMarks t.names f.at → f.ty ≡ t.types i → t.types fn ≡ arrow (t.types a) (t.types i) → IsExp p t fn → IsExp p t a → (f.gens ≡ []) ⊎ ((makers ≡ true) × AreNonExpansive p.nodes (a ∷ [])) → IsFixed p t f.gens fn → (makers ≡ true → (n c : ℕ) × (slice_get p.nodes fn ≡ Some (node.Constructor (con.Data n c true)))) → EnvTys p t sig f (union (free p.nodes fn) (free p.nodes a)) env → Accepts p t sig k (TakesAll p t f) → Safe p t m.store (eval p m i (node.App fn a) env k)
  app_frame i fn a env k f makers kf e et xf xa hg hf hm he hk =
      let w : Family = family f.at f.gens (t.types fn) in
      let own = union (free p.nodes fn) (free p.nodes a) in
      awaiting_safe ready (FunctionPart fn a (env_of p a env)) k fn (env_of p fn env) w makers kf (t.types i, et, xa, envs_cut ready w (free p.nodes a) own env (within_right (free p.nodes fn) (free p.nodes a)) he, hg, subst (λ u. Accepts p t sig k (TakesAll p t (family f.at f.gens u))) e hk) refl xf hf (envs_cut ready w (free p.nodes fn) own env (within_left (free p.nodes fn) (free p.nodes a)) he) hm

  exn_result : (c : Context) (q : Con) (u a b : Tree) → HasConTy p t c q u → is_exception q ≡ true → u ≡ arrow a b → b ≡ exn_ty
  exn_result c (con.Data n j takes) u a b r h e = cc
  exn_result c con.Ref u a b r h e = cc
  exn_result c (con.Exn y true) u a b r h e =
      let x = r.1.2 in let z : arrow a b ≡ arrow (inst r.2.at x.0) exn_ty = sym e ∙ r.2.is ∙ ap (inst r.2.at) x.1 in cc
  exn_result c (con.Exn y false) u a b r h e =
      let x = r.1.2 in let z : arrow a b ≡ exn_ty = sym e ∙ r.2.is ∙ ap (inst r.2.at) x in cc
  exn_result c (con.Library l) u a b r h e = go (exn_con l)
    where
      z : arrow a b ≡ library_exn l
      z = sym e ∙ r.2.is ∙ ap (λ (s : Poly). inst r.2.at s.body) r.1 ∙ library_closed r.2.at l

      go : (library_exn l ≡ exn_ty) ⊎ (library_exn l ≡ arrow string_ty exn_ty) → b ≡ exn_ty
      go (inl q) = let y = z ∙ q in cc
      go (inr q) = let y = z ∙ q in cc

  app_safe : (i fn a : ℕ) (env : Env) (k : Option Address) (f : Family) → KeepsMarks t.names f.at → slice_get p.nodes i ≡ Some (node.App fn a) → f.ty ≡ t.types i → t.types fn ≡ arrow (t.types a) (t.types i) → IsExp p t fn → IsExp p t a → IsFixed p t f.gens i → EnvTys p t sig f (union (free p.nodes fn) (free p.nodes a)) env → Accepts p t sig k (TakesAll p t f) → Safe p t m.store (eval p m i (node.App fn a) env k)
  app_safe i fn a env k f kf ei e et xf xa (inl n) he hk =
      app_frame i fn a env k f false kf e et xf xa (inl n) (inl n) (λ e. cc) he hk
  app_safe i fn a env k f kf ei e et xf xa (inr n) he hk = let c = plain_app p.nodes i fn a ei n in go c.0 c.1 c.2 c.3
    where
      collapse : t.types i ≡ exn_ty → Safe p t m.store (eval p m i (node.App fn a) env k)
      collapse h =
          app_frame i fn a env k (one f.at (t.types i)) false kf refl et xf xa (inl refl) (inl refl) (λ e. cc)
          (λ g agr. env_same p t sig f.at g (union (free p.nodes fn) (free p.nodes a)) env agr (he f.at (agrees_self t.names f.gens f.at kf)))
          (accept_map ready sig k (TakesAll p t f) (TakesAll p t (one f.at (t.types i))) (λ g b q. ((λ u x. let y = q.0 u x in (f.at, agrees_self t.names [] f.at kf, y.2 ∙ ap (inst y.0) (e ∙ h) ∙ sym (ap (inst f.at) h))), q.1)) hk)

      at_con : (c : Con) → slice_get p.nodes fn ≡ Some (node.Constructor c) → HasConTy p t (t.contexts fn) c (t.types fn)
      at_con c ec = rule_at p t ready.typing ready.bare.numbered ready.bare.sorts fn (node.Constructor c) ec

      go : (c : Con) → slice_get p.nodes fn ≡ Some (node.Constructor c) → is_ref c ≡ false → AreNonExpansive p.nodes (a ∷ []) → Safe p t m.store (eval p m i (node.App fn a) env k)
      go (con.Data n j true) ec nr na =
          app_frame i fn a env k f true kf e et xf xa (inr (refl, na)) (inr (plain_atom fn (node.Constructor (con.Data n j true)) ec refl plain_none)) (λ e. (n, j, ec)) he hk
      go (con.Data n j false) ec nr na =
          let r = at_con (con.Data n j false) ec in
          let d = data_plain p t n j r.0 r.1 in
          absurd (let x : arrow (t.types a) (t.types i) ≡ inst r.2.at (data_ty p t n d.0) = sym et ∙ r.2.is ∙ ap (λ (s : Poly). inst r.2.at s.body) d.2 in cc)
      go con.Ref ec nr na = cc
      go (con.Exn y takes) ec nr na = collapse (exn_result (t.contexts fn) (con.Exn y takes) (t.types fn) (t.types a) (t.types i) (at_con (con.Exn y takes) ec) refl et)
      go (con.Library l) ec nr na = collapse (exn_result (t.contexts fn) (con.Library l) (t.types fn) (t.types a) (t.types i) (at_con (con.Library l) ec) refl et)

  no_rows : (labs : List Lab) (us : List Tree) → length labs ≡ 0 → length us ≡ 0 → App (FieldsHead labs) (parts us) ≡ unit_ty
  no_rows [] [] a b = refl
  no_rows (l ∷ labs) us a b = absurd (omega (arith, a))
  no_rows [] (u ∷ us) a b = absurd (omega (arith, b))

  pub eval_safe : (i : ℕ) (q : Node) (env : Env) (k : Option Address) → slice_get p.nodes i ≡ Some q → sort_of q ≡ Expression → EvalTy p t sig i env k → Safe p t m.store (eval p m i q env k)
  eval_safe i q env k ei ex ev =
      go q ei ex (rule_at p t ready.typing ready.bare.numbered ready.bare.sorts i q ei) (sorts_at p t ready.typing ready.bare.numbered ready.bare.sorts i q ei) (ready.bare.numbered i q ei)
    where
      f : Family
      f = ev.family

      c : Context
      c = t.contexts i

      knows : (q : Node) → slice_get p.nodes i ≡ Some q → EnvTys p t sig ev.family (free_of (binds p.nodes) (free p.nodes) q) env
      knows q ei h a = subst (λ xs. EnvTy p t sig h xs env) (free_unfold p.nodes ready.bare.numbered i q ei) (ev.knows h a)

      at_own : (q : Node) → slice_get p.nodes i ≡ Some q → EnvTy p t sig ev.family.at (free_of (binds p.nodes) (free p.nodes) q) env
      at_own q ei = knows q ei ev.family.at (agrees_self t.names ev.family.gens ev.family.at ev.keeps)

      takes : (q : Node) → slice_get p.nodes i ≡ Some q → ((n c : ℕ) → q ≡ node.Constructor (con.Data n c true) → ⊥) → Accepts p t sig k (TakesAll p t ev.family)
      takes q ei never = takes_plain ready i q k ev.family ei never ev.takes

      mono_gens : (q : Node) → slice_get p.nodes i ≡ Some q → is_plain q ≡ false → ev.family.gens ≡ []
      mono_gens q ei h = ⊎_elim (λ e. e) (λ n. absurd (expansive p.nodes i q ei h n)) ev.fixed

      only_one : (q : Node) → slice_get p.nodes i ≡ Some q → is_plain q ≡ false → ((n c : ℕ) → q ≡ node.Constructor (con.Data n c true) → ⊥) → Accepts p t sig k (TakesAll p t (one ev.family.at (t.types i)))
      only_one q ei h never = mono_takes ready i ev.family k ev.keeps ev.ty (mono_gens q ei h) (takes q ei never)

      ret : (q : Node) → slice_get p.nodes i ≡ Some q → ((n c : ℕ) → q ≡ node.Constructor (con.Data n c true) → ⊥) → (v : Value) → ((h : TyVar → Tree) → Agrees t.names ev.family.gens ev.family.at h → HasTy p t sig v (inst h (t.types i))) → Safe p t m.store (going m (Ret v k))
      ret q ei never v hv = back ready i v k ev.family ev.ty hv (takes q ei never)

      rules_of : (rules : List Rule) (a b : Tree) → IsMatch p t rules (t.contexts i) a b → HasRules p.nodes rules → AllByRecursion (λ c. (i < c) × (c < length p.nodes)) (flat_map rule_parts rules) → AreRules p t rules a b
      rules_of rules a b h s n = record { context = t.contexts i; match = h; bodies = rules_exp ready i rules s n; pats = rules_pat ready rules s }

      go : (q : Node) → slice_get p.nodes i ≡ Some q → sort_of q ≡ Expression → IsTypedNode p t (t.contexts i) (t.types i) (t.binds i) q → HasSorts p.nodes q → AllByRecursion (λ c. (i < c) × (c < length p.nodes)) (node_parts q) → Safe p t m.store (eval p m i q env k)
      go (node.Int n) ei ex r s h = ret (node.Int n) ei (λ n c e. cc) (Number n) (λ g a. ap (inst g) r)
      go (node.Char n) ei ex r s h = ret (node.Char n) ei (λ n c e. cc) (Letter n) (λ g a. ap (inst g) r)
      go (node.Text n) ei ex r s h =
          ret (node.Text n) ei (λ n c e. cc) (Constant n) (λ g a. (ap (inst g) r, stands_at i (node.Text n) ei))
      go (node.Var x) ei ex r s h =
          let v = (at_own (node.Var x) ei).1 x.0 (self_in x.0) in
          let w = inst_weak ready (is_in c.own x.0) (t.schemes x.0) (t.types i) r.1 in
          known ready (look env x.0) v.0 (λ v. going m (Ret v k)) v.1
          (ret (node.Var x) ei (λ n c e. cc) v.0 (λ g a.
          let u = (knows (node.Var x) ei g a).1 x.0 (self_in x.0) in
          let same : u.0 ≡ v.0 = (let y : Some u.0 ≡ Some v.0 = sym u.1 ∙ v.1 in cc) in
          subst (HasTy p t sig v.0) (sym (ap (inst g) w.2 ∙ inst_inst g w.0 (t.schemes x.0).body)) (subst (HasScheme p t sig g x.0) same u.2 (λ y. inst g (w.0 y)) ((λ y n. ap (inst g) (w.1 y n)), keeps_both t.names g w.0 a.1 w.3))))
      go (node.Constructor b) ei ex r s h = con_safe i c b env k f ev.keeps ei r ev.ty (knows (node.Constructor b) ei) ev.takes
      go (node.Builtin b) ei ex r s h =
          ret (node.Builtin b) ei (λ n c e. cc) (Builtin b) (λ g a. ((λ y. inst g (r.at y)), keeps_both t.names g r.at a.1 (instance_keeps t.names (primitive_poly b) (t.types i) r), ap (inst g) r.is ∙ inst_inst g r.at (primitive_poly b).body))
      go (node.Record []) ei ex r s h =
          ret (node.Record []) ei (λ n c e. cc) Nothing (λ g a. ap (inst g) (r.1.is ∙ no_rows r.1.labs r.1.types r.1.labs_count r.1.types_count))
      go (node.Record (x ∷ fields)) ei ex r s h =
          eval_fields_safe ready (x ∷ fields) (x ∷ fields) [] env k f ev.keeps (subst (IsRecord (fields_of p t (x ∷ fields))) (sym ev.ty) r.1, (stands_at i (node.Record (x ∷ fields)) ei).distinct) (fields_exp ready i (x ∷ fields) s h) (⊎_elim (λ e. inl e) (λ n. inr (plain_fields p.nodes i (x ∷ fields) ei n)) ev.fixed) (λ g a. refl) (knows (node.Record (x ∷ fields)) ei) (takes (node.Record (x ∷ fields)) ei (λ n c e. cc))
      go (node.App fn a) ei ex r s h =
          app_safe i fn a env k f ev.keeps ei ev.ty (r.1.1 ∙ ap (λ u. arrow u (t.types i)) (sym r.2.1)) (exp_of ready fn h.0.1 s.0) (exp_of ready a h.1.0.1 s.1) ev.fixed (knows (node.App fn a) ei) (takes (node.App fn a) ei (λ n c e. cc))
      go (node.Case e rules) ei ex r s h =
          let q = node.Case e rules in
          let own = union (free p.nodes e) (free_of_match p t rules) in
          awaiting_one (Subject e rules (env_of_match p rules env)) k e (env_of p e env) f.at (refl, refl, t.types i, rules_of rules (t.types e) (t.types i) (subst (λ u. IsMatch p t rules c u (t.types i)) (sym r.1.1) r.2) s.1 h.1, env_cut p t sig f.at (free_of_match p t rules) own env (within_right (free p.nodes e) (free_of_match p t rules)) (at_own q ei), only_one q ei refl (λ n c e. cc)) (exp_of ready e h.0.1 s.0) (env_cut p t sig f.at (free p.nodes e) own env (within_left (free p.nodes e) (free_of_match p t rules)) (at_own q ei))
      go (node.Fn rules) ei ex r s h = made_safe ready (Closure i rules env) f k (ei, ev.ty, ev.knows) tt (takes (node.Fn rules) ei (λ n c e. cc))
      go (node.Raise e) ei ex r s h =
          let q = node.Raise e in
          awaiting_one (RaisePart e) k e (env_of p e env) f.at (refl, r.1, any_takes ready k f (takes q ei (λ n c e. cc))) (exp_of ready e h.0.1 s) (env_cut p t sig f.at (free p.nodes e) (free p.nodes e) env (λ z m. m) (at_own q ei))
      go (node.Handle e rules) ei ex r s h =
          let q = node.Handle e rules in
          let own = union (free p.nodes e) (free_of_match p t rules) in
          awaiting_one (Guarded i rules (env_of_match p rules env)) k e (env_of p e env) f.at (refl, refl, rules_of rules exn_ty (t.types e) (subst (IsMatch p t rules c exn_ty) (sym r.0.1) r.1) s.1 h.1, env_cut p t sig f.at (free_of_match p t rules) own env (within_right (free p.nodes e) (free_of_match p t rules)) (at_own q ei), subst (λ u. Accepts p t sig k (TakesAll p t (one f.at u))) (sym r.0.1) (only_one q ei refl (λ n c e. cc))) (exp_of ready e h.0.1 s.0) (env_cut p t sig f.at (free p.nodes e) own env (within_left (free p.nodes e) (free_of_match p t rules)) (at_own q ei))
      go (node.Typed e j) ei ex r s h =
          going_safe ready (Eval e env k)
          (record { family = f; keeps = ev.keeps; exp = exp_of ready e h.0.1 s; ty = ev.ty ∙ sym r.0.1; fixed = ⊎_elim (λ n. inl n) (λ n. inr (plain_under p.nodes i e j ei n)) ev.fixed; knows = knows (node.Typed e j) ei; takes = accept_map ready sig k (TakesAll p t f) (TakesNode p t e f) (λ g b h. (h.0, (λ e. let x = h.1 in cc))) (takes (node.Typed e j) ei (λ n c e. cc)) })
      go (node.Let d body) ei ex r s h =
          let q = node.Let d body in
          let n = get_below p.nodes d h.0.1 in
          let env_is = subst (λ xs. EnvTy p t sig f.at (union xs (without (free p.nodes body) (binds p.nodes d))) env) (free_unfold p.nodes ready.bare.numbered d n.0 n.1) (at_own q ei) in
          known ready (slice_get p.nodes d) n.0 (λ dec. eval_dec p m body dec env k) n.1
          (eval_dec_safe ready d body n.0 env k f.at n.1 (sort_is p.nodes Declaration d n.0 n.1 s.0) (rule_at p t ready.typing ready.bare.numbered ready.bare.sorts d n.0 n.1) (exp_of ready body h.1.0.1 s.1) (subst (λ xs. EnvTy p t sig f.at (union (free_of (binds p.nodes) (free p.nodes) n.0) (without (free p.nodes body) xs)) env) (binds_unfold p.nodes ready.bare.numbered d n.0 n.1) env_is) (subst (λ u. Accepts p t sig k (TakesAll p t (one f.at u))) (sym r.1.1) (only_one q ei refl (λ n c e. cc))))
      go node.Finish ei ex r s h = ret node.Finish ei (λ n c e. cc) Nothing (λ g a. ap (inst g) r)
      go _ ei ex r s h = cc
