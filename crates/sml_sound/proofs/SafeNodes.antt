-- Patterns that bind typed values, rules that are taken, and the fields of a record.
use Rattle.simulation.proofs.Lists.{get_below}
use Rattle.sml_def.specs.Match.{fits, first_rule}
use Rattle.sml_def.specs.Maybe.{◌>>=◌}
use Rattle.sml_def.specs.Memory.{Memory, Next, going}
use Rattle.sml_def.specs.State.{FieldPart, Library, Maker, RefMaker, Tag, Number, Letter, Nothing, Constant, Builtin, Value, At, Env, Address, Tuple, Control, Ret, look, cut}
use Rattle.sml_def.specs.Step.{eval_fields, env_of_fields, by_rule, env_of, by_label}
use Rattle.sml_sound.proofs.Environments.{env_same, joined, env_within, env_cut, look_all}
use Rattle.sml_sound.proofs.Families.{single, inst_parts, agrees_self}
use Rattle.sml_sound.proofs.Grow.{store_len}
use Rattle.sml_sound.proofs.Matching.{Bound, fits_ty}
use Rattle.sml_sound.proofs.Lists.{get_lt, at_name}
use Rattle.sml_sound.proofs.Names.{sort_is}
use Rattle.sml_def.proofs.Options.{or_some, if_some}
use Rattle.sml_sound.proofs.Plain.{plain_first}
use Rattle.sml_sound.proofs.Rows.{row_ty}
use Rattle.sml_sound.proofs.SafeActs.{Ready, Safe, going_safe, accept_map, made_safe, awaiting_safe, going_eval}
use Rattle.sml_sound.specs.TypedStates.{KeepsMarks, AreRules, IsBelow, HaveTys, AreExps, IsRow, BeforeTy, Agrees, Family, family, one, Entry, HasTy, HasScheme, EnvTy, EnvTys, Accepts, TakesAll, TakesAny, Fits, IsExp, IsFixed, TakesNode, ControlTy, free_of_match}
use Rattle.sml_tree.proofs.Members.{IsWithin, within_left, within_right, within_rest}
use Rattle.sml_tree.specs.BareParts.{rule_parts}
use Rattle.sml_tree.specs.Free.{free, binds, free_fields, scoped}
use Rattle.sml_tree.specs.IsBare.{IsOf, Expression, HasRules, Pattern}
use Rattle.sml_tree.specs.Sets.{has, union, without}
use Rattle.sml_tree.specs.declared.bare.Bare.{Bare}
use Rattle.sml_tree.specs.declared.bare.Con.TheVariants as con
use Rattle.sml_tree.specs.declared.bare.Field.{Field}
use Rattle.sml_tree.specs.declared.bare.Node.{Node}
use Rattle.sml_tree.specs.declared.bare.Node.TheVariants as node
use Rattle.sml_tree.specs.declared.bare.Rule.{Rule}
use Rattle.sml_types.specs.NonExpansive.{AreNonExpansive, field_nodes}
use Rattle.sml_types.specs.Poly.{Context}
use Rattle.sml_types.specs.Tree.{Tree, App, FieldsHead, inst}
use Rattle.sml_types.specs.Typing.{Typing, IsMatch, AreClosed}
use Rattle.sml_types.specs.declared.types.TyVar.{TyVar}
use Rattle.std.proofs.Common.{◌≡◌, ℕ, ◌<◌, Bool, true, false, List, [], ◌∷◌, ◌++◌, length, Option, Some, refl, sym, ap, ◌∙◌, subst, arith, ◌⊎◌, inl, inr}
use Rattle.std.specs.List.{AllByRecursion}
use Rattle.std.specs.Prelude.{IfSome, slice_get, map, flat_map}

module _ {p : Bare} {t : Typing} {m : Memory} {sig : List Entry} (ready : Ready p t m sig) where
  -- ---- What a pattern binds

  -- under substitutions that are one but for what its names generalise
  abbrev BoundUnder : (TyVar → Tree) → ℕ → Env → Type 0
  BoundUnder h i e = Bound p t sig h (t.binds i) (binds p.nodes i) e

  bound_scheme : (gens : List TyVar) (g : TyVar → Tree) → KeepsMarks t.names g → (i : ℕ) (e : Env) → ((h : TyVar → Tree) → Agrees t.names gens g h → BoundUnder h i e) → AreClosed p t gens (t.binds i) → (x : ℕ) (v : Value) → look e x ≡ Some v → HasScheme p t sig g x v
  bound_scheme gens g kg i e hb closed x v ev h agr =
      let here = look_all (λ b. HasTy p t sig b.1 (inst g (t.schemes b.0).body) × (has (t.binds i) b.0 ≡ true)) e x v (hb g (agrees_self t.names gens g kg)).items ev in
      let vars : (t.schemes x).vars ≡ gens = at_name (t.binds i) (λ x. (t.schemes x).vars ≡ gens) closed x here.1 in
      (look_all (λ b. HasTy p t sig b.1 (inst h (t.schemes b.0).body) × (has (t.binds i) b.0 ≡ true)) e x v (hb h (subst (λ vs. Agrees t.names vs g h) vars agr)).items ev).0

  -- with what a value binds that has all types of a pattern
  pub bound_env : (gens : List TyVar) (g : TyVar → Tree) (i : ℕ) (v : Value) (e env : Env) (ys xs : List ℕ) → fits p env m.store i v ≡ Some e → ((h : TyVar → Tree) → Agrees t.names gens g h → HasTy p t sig v (inst h (t.types i)) × EnvTy p t sig h (free p.nodes i) env) → AreClosed p t gens (t.binds i) → EnvTy p t sig g ys env → ((x : ℕ) → has xs x ≡ true → has (binds p.nodes i) x ≡ false → has ys x ≡ true) → EnvTy p t sig g xs (e ++ env)
  bound_env gens g i v e env ys xs he hv closed hn w =
      joined p t sig g (binds p.nodes i) ys xs e env (bound_scheme gens g hn.0 i e under closed) (under g (agrees_self t.names gens g hn.0)).has_all hn w
    where
      under : (h : TyVar → Tree) → Agrees t.names gens g h → BoundUnder h i e
      under h agr =
          let k = hv h agr in
          fits_ty p t ready.typing ready.bare.numbered ready.bare.sorts sig m.store ready.store h (free p.nodes i) env k.1 i v e he (λ z m. m) k.0

  -- ---- Rules

  abbrev RuleTy : (TyVar → Tree) → Tree → Env → Env × ℕ → Type 0
  RuleTy g b env r = EnvTy p t sig g (free p.nodes r.1) (r.0 ++ env) × (t.types r.1 ≡ b) × IsExp p t r.1

  first_ty : (g : TyVar → Tree) (env : Env) (c : Context) (a b : Tree) (rules : List Rule) → IsMatch p t rules c a b → AllByRecursion (λ r. IsExp p t r.body) rules → EnvTy p t sig g (free_of_match p t rules) env → (v : Value) → HasTy p t sig v (inst g a) → IfSome (first_rule p env m.store rules v) (RuleTy g b env)
  first_ty g env c a b [] h x he v hv = tt
  first_ty g env c a b (r ∷ rules) h x he v hv =
      let scope = scoped (binds p.nodes) (free p.nodes) r.pat r.body in
      let rest = free_of_match p t rules in
      or_some (λ o. IfSome o (RuleTy g b env)) (fits p env m.store r.pat v) _ _ (λ e fe. (
        bound_env [] g r.pat v e env (free_of_match p t (r ∷ rules)) (free p.nodes r.body) fe (λ k agr. (subst (HasTy p t sig v) (ap (inst g) (sym h.0.0.1) ∙ single_at g k (t.types r.pat) agr) hv, env_same p t sig g k (free p.nodes r.pat) env agr (env_within p t sig g (free p.nodes r.pat) (free_of_match p t (r ∷ rules)) env (λ z q. within_left scope rest z (within_left (free p.nodes r.pat) (without (free p.nodes r.body) (binds p.nodes r.pat)) z q)) he))) h.0.2 he (λ z q n. within_left scope rest z (within_right (free p.nodes r.pat) (without (free p.nodes r.body) (binds p.nodes r.pat)) z (within_rest (free p.nodes r.body) (binds p.nodes r.pat) z q n))),
        h.0.1.1,
        x.0,
      )) (first_ty g env c a b rules h.1 x.1 (env_within p t sig g rest (free_of_match p t (r ∷ rules)) env (within_right scope rest) he) v hv)
    where
      single_at : (g k : TyVar → Tree) (u : Tree) → Agrees t.names [] g k → inst g u ≡ inst k u
      single_at g k u agr = sym (single t.names (one g u) (inst k u) refl (k, agr, refl))

  pub rule_safe : (rules : List Rule) (env : Env) (v : Value) (k : Option Address) (other : Control) (g : TyVar → Tree) (a b : Tree) → AreRules p t rules a b → EnvTy p t sig g (free_of_match p t rules) env → HasTy p t sig v (inst g a) → Accepts p t sig k (TakesAll p t (one g b)) → ControlTy p t sig other → Safe p t m.store (by_rule p m rules env v k other)
  rule_safe rules env v k other g a b r he hv hk ho =
      or_some (Safe p t m.store) (first_rule p env m.store rules v) _ _ (λ q eq.
      let h = if_some (RuleTy g b env) (first_rule p env m.store rules v) q eq (first_ty g env r.context a b rules r.match r.bodies he v hv) in
      going_eval ready q.1 (env_of p q.1 (q.0 ++ env)) k g h.2 (env_cut p t sig g (free p.nodes q.1) (free p.nodes q.1) (q.0 ++ env) (λ z m. m) h.0) (subst (λ u. Accepts p t sig k (TakesAll p t (one g u))) (sym h.1) hk)) (going_safe ready other ho)

  pub known : {A : Type 0} (o : Option A) (x : A) (f : A → Next) → o ≡ Some x → Safe p t m.store (f x) → Safe p t m.store (o >>= f)
  known o x f e h = subst (λ r. Safe p t m.store (r >>= f)) (sym e) h

  -- ---- Nodes

  pub exp_of : (c : ℕ) → c < length p.nodes → IsOf p.nodes Expression c → IsExp p t c
  exp_of c lt h = let n = get_below p.nodes c lt in (n.0, n.1, sort_is p.nodes Expression c n.0 n.1 h)

  pub rules_exp : (i : ℕ) (rules : List Rule) → HasRules p.nodes rules → AllByRecursion (λ c. (i < c) × (c < length p.nodes)) (flat_map rule_parts rules) → AllByRecursion (λ r. IsExp p t r.body) rules
  rules_exp i [] s h = tt
  rules_exp i (r ∷ rules) s h = (exp_of r.body h.1.0.1 s.0.1, rules_exp i rules s.1 h.1.1)

  pub rules_pat : (rules : List Rule) → HasRules p.nodes rules → AllByRecursion (λ r. IsOf p.nodes Pattern r.pat) rules
  rules_pat [] s = tt
  rules_pat (r ∷ rules) s = (s.0.0, rules_pat rules s.1)

  pub fields_exp : (i : ℕ) (fields : List Field) → AllByRecursion (λ f. IsOf p.nodes Expression f.node) fields → AllByRecursion (λ c. (i < c) × (c < length p.nodes)) (map (λ f. f.node) fields) → AreExps p t fields
  fields_exp i [] s h = tt
  fields_exp i (f ∷ fields) s h = (exp_of f.node h.0.1 s.0, fields_exp i fields s.1 h.1)

  pub back : (i : ℕ) (v : Value) (k : Option Address) (f : Family) → f.ty ≡ t.types i → ((h : TyVar → Tree) → Agrees t.names f.gens f.at h → HasTy p t sig v (inst h (t.types i))) → Accepts p t sig k (TakesAll p t f) → Safe p t m.store (going m (Ret v k))
  back i v k f e hv hk =
      going_safe ready (Ret v k)
      (accept_map ready sig k (TakesAll p t f) (Fits p t sig v) (λ g b h. ((λ u x. let y = h.0 u x in subst (HasTy p t sig v) (sym (y.2 ∙ ap (inst y.0) e)) (hv y.0 y.1)), (λ e. let x = h.1 in cc))) hk)

  pub takes_plain : (i : ℕ) (q : Node) (k : Option Address) (f : Family) → slice_get p.nodes i ≡ Some q → ((n c : ℕ) → q ≡ node.Constructor (con.Data n c true) → ⊥) → Accepts p t sig k (TakesNode p t i f) → Accepts p t sig k (TakesAll p t f)
  takes_plain i q k f e never hk = accept_map ready sig k (TakesNode p t i f) (TakesAll p t f) (λ g b h. (h.0, go b h.1)) hk
    where
      go : (b : Bool) → (b ≡ true → (n c : ℕ) × (slice_get p.nodes i ≡ Some (node.Constructor (con.Data n c true)))) → b ≡ false
      go true h =
          let x = h refl in
          absurd (never x.0 x.1 (let y : Some q ≡ Some (node.Constructor (con.Data x.0 x.1 true)) = sym e ∙ x.2 in cc))
      go false h = refl

  pub mono_takes : (i : ℕ) (f : Family) (k : Option Address) → KeepsMarks t.names f.at → f.ty ≡ t.types i → f.gens ≡ [] → Accepts p t sig k (TakesAll p t f) → Accepts p t sig k (TakesAll p t (one f.at (t.types i)))
  mono_takes i f k kf e n hk =
      accept_map ready sig k (TakesAll p t f) (TakesAll p t (one f.at (t.types i))) (λ g b h. ((λ u x. (f.at, agrees_self t.names [] f.at kf, single t.names f u n (h.0 u x) ∙ ap (inst f.at) e)), h.1)) hk

  pub envs_cut : (f : Family) (xs ys : List ℕ) (env : Env) → IsWithin xs ys → EnvTys p t sig f ys env → EnvTys p t sig f xs (cut xs env)
  envs_cut f xs ys env w h g a = env_cut p t sig g xs ys env w (h g a)

  pub any_takes : (k : Option Address) (f : Family) → Accepts p t sig k (TakesAll p t f) → Accepts p t sig k (TakesAny p t)
  any_takes k f hk = accept_map ready sig k (TakesAll p t f) (TakesAny p t) (λ g b h. tt) hk

  -- ---- Records

  pub below : (v : Value) (u : Tree) → HasTy p t sig v u → IsBelow (length m.store) v
  below (At a) u h =
      let lt = get_lt sig a h.0 h.1 in omega (arith, lt, store_len p t sig sig m.store ready.store)
  below (Number z) u h = tt
  below (Letter c) u h = tt
  below Nothing u h = tt
  below (Tag k) u h = tt
  below (Constant c) u h = tt
  below (Builtin f) u h = tt
  below (Maker k) u h = tt
  below RefMaker u h = tt
  below (Library e) u h = tt

  have_below : (vs : List Value) (us : List Tree) → HaveTys p t sig vs us → AllByRecursion (IsBelow (length m.store)) vs
  have_below [] us h = tt
  have_below (v ∷ vs) [] h = absurd h
  have_below (v ∷ vs) (u ∷ us) h = (below v u h.0, have_below vs us h.1)

  pub eval_fields_safe : (fields rest : List Field) (before : List Value) (env : Env) (k : Option Address) (f : Family) → KeepsMarks t.names f.at → IsRow p t fields f.ty → AreExps p t rest → (f.gens ≡ []) ⊎ AreNonExpansive p.nodes (field_nodes rest) → ((h : TyVar → Tree) → Agrees t.names f.gens f.at h → BeforeTy p t sig h before fields rest) → EnvTys p t sig f (free_fields (free p.nodes) rest) env → Accepts p t sig k (TakesAll p t f) → Safe p t m.store (eval_fields p m fields before rest env k)
  eval_fields_safe fields [] before env k f kf r x hg hb he hk =
      made_safe ready (Tuple (by_label fields before)) f k
      (λ u i. (r.0.labs, map (inst i.0) r.0.types, i.2 ∙ ap (inst i.0) r.0.is ∙ ap (App (FieldsHead r.0.labs)) (inst_parts i.0 r.0.types), row_ty p t sig i.0 fields before f.ty r.0 r.1 (hb i.0 i.1)))
      (have_below (by_label fields before) (map (inst f.at) r.0.types) (row_ty p t sig f.at fields before f.ty r.0 r.1 (hb f.at (agrees_self t.names f.gens f.at kf)))) hk
  eval_fields_safe fields (c ∷ later) before env k f kf r x hg hb he hk =
      let here = free p.nodes c.node in
      let rest = free_fields (free p.nodes) later in
      let g : Family = family f.at f.gens (t.types c.node) in
      awaiting_safe ready (FieldPart c.node fields before later (env_of_fields p later env)) k c.node (env_of p c.node env) g false kf (refl, c, f.ty, refl, r, x.1, fixed_rest hg, hb, envs_cut g rest (union here rest) env (within_right here rest) he, hk) refl x.0 (fixed_first hg) (envs_cut g here (union here rest) env (within_left here rest) he) (λ e. cc)
    where
      fixed_first : (f.gens ≡ []) ⊎ AreNonExpansive p.nodes (field_nodes (c ∷ later)) → IsFixed p t f.gens c.node
      fixed_first (inl e) = inl e
      fixed_first (inr n) = inr (plain_first p.nodes c.node (field_nodes later) n).0

      fixed_rest : (f.gens ≡ []) ⊎ AreNonExpansive p.nodes (field_nodes (c ∷ later)) → (f.gens ≡ []) ⊎ AreNonExpansive p.nodes (field_nodes later)
      fixed_rest (inl e) = inl e
      fixed_rest (inr n) = inr (plain_first p.nodes c.node (field_nodes later) n).1
