-- Declarations before a body leave typed states.
use Rattle.sml_def.specs.Match.{con_value}
use Rattle.sml_def.specs.Maybe.{◌>>=◌}
use Rattle.sml_def.specs.Memory.{Memory, going, making_all}
use Rattle.sml_def.specs.State.{RightSide, ExnName, Library, Closure, Value, At, Env, Address, Block, look}
use Rattle.sml_def.specs.Step.{eval_dec, declare, env_of_rest, eval_in, env_of, function_of, group_env, closures, closure_of}
use Rattle.sml_sound.proofs.Environments.{env_same, joined, env_spread, env_within, AreFresh, env_cut}
use Rattle.sml_sound.proofs.Families.{library_closed, inst_all, agrees_self, instance_keeps}
use Rattle.sml_sound.proofs.Grow.{env_up, store_len, accepts_up}
use Rattle.sml_sound.proofs.Lists.{all_at, get_lt}
use Rattle.sml_sound.proofs.Names.{group_bound, rule_at, sorts_at, free_known, self_in}
use Rattle.sml_sound.proofs.SafeActs.{Ready, Safe, making_all_safe, making_safe, new_at, accept_map, awaiting_safe, going_eval}
use Rattle.sml_sound.proofs.SafeNodes.{known, exp_of}
use Rattle.sml_sound.specs.TypedStates.{KeepsMarks, Names, EvalTy, IsExnCon, free_of_rest, Agrees, Family, family, one, Entry, Holds, HasTy, HasScheme, EnvTy, Accepts, TakesAll, IsExp, StoreTy, AllDescend, TakesNode}
use Rattle.sml_tree.proofs.FreeParts.{free_unfold}
use Rattle.sml_tree.proofs.Members.{without_parts, within_each, IsWithin, within_left, within_right, within_head, within_tail, within_rest, within_both, either, has-union}
use Rattle.sml_tree.specs.BareParts.{within, at_node}
use Rattle.sml_tree.specs.Free.{binds_of, free_of, exception_of, free, binds, names_of}
use Rattle.sml_tree.specs.IsBare.{Declaration, Pattern, sort_of, Stands, function_of as bare_function_of, is_function, IsOf, Expression}
use Rattle.sml_tree.specs.Sets.{has, union, union_over, without}
use Rattle.sml_tree.specs.declared.bare.Bare.{Bare}
use Rattle.sml_tree.specs.declared.bare.Binding.{Binding}
use Rattle.sml_tree.specs.declared.bare.Con.{Con}
use Rattle.sml_tree.specs.declared.bare.Con.TheVariants as con
use Rattle.sml_tree.specs.declared.bare.Node.{Node}
use Rattle.sml_tree.specs.declared.bare.Node.TheVariants as node
use Rattle.sml_tree.specs.declared.bare.RecBinding.{RecBinding}
use Rattle.sml_tree.specs.declared.bare.Rule.{Rule}
use Rattle.sml_types.proofs.TreeFacts.{or_none}
use Rattle.sml_types.specs.Poly.{Poly, poly, IsInstance, mono, with_own, Context, has_num, with_tyvars, IsFresh}
use Rattle.sml_types.specs.Tree.{Variable, Tree, inst}
use Rattle.sml_types.specs.Typing.{IsTypedNode, IsConPoly, IsExnArgument, is_exception, group_names, Typing, IsBinding, IsRecBinding}
use Rattle.sml_types.specs.declared.types.TyVar.{TyVar}
use Rattle.std.proofs.Common.{zero, append_assoc, length-append, ◌≡◌, ℕ, suc, ◌<◌, Bool, true, false, List, [], ◌∷◌, ◌++◌, length, Option, Some, None, refl, sym, ap, ◌∙◌, subst, arith, inl, inr}
use Rattle.std.proofs.lemmas.Bool.{eqb-true}
use Rattle.std.proofs.lemmas.List.Folds.{list_any-append}
use Rattle.std.specs.List.{AllByRecursion}
use Rattle.std.specs.Prelude.{nat_eq, cond, slice_get, map, flat_map, ◌||◌}

module _ {p : Bare} {t : Typing} {m : Memory} {sig : List Entry} (ready : Ready p t m sig) where
  -- ---- Value declarations

  abbrev pub needed : List Binding → ℕ → List ℕ
  needed bs body =
      union (union_over (λ b. free p.nodes b.pat) bs) (union (union_over (λ b. free p.nodes b.right) bs) (without (free p.nodes body) (union_over (λ b. binds p.nodes b.pat) bs)))

  pub all_fresh : (c : Context) (gens : List TyVar) → AllByRecursion (λ v. IsFresh t.schemes c v.num) gens → AreFresh p t sig c gens
  all_fresh c [] h w n = cc
  all_fresh c (v ∷ gens) h w n = go (nat_eq w.num v.num) refl n (all_fresh c gens h.1 w)
    where
      go : (b : Bool) → nat_eq w.num v.num ≡ b → (b || has_num gens w.num) ≡ true → (has_num gens w.num ≡ true → IsFresh t.schemes c w.num) → IsFresh t.schemes c w.num
      go true e n rest = subst (IsFresh t.schemes c) (sym (eqb-true w.num v.num e)) h.0
      go false e n rest = rest n

  exp_lt : (i : ℕ) → IsExp p t i → i < length p.nodes
  exp_lt i h = get_lt p.nodes i h.0 h.1

  pub declare_safe : (bs : List Binding) (body : ℕ) (env : Env) (k : Option Address) (g : TyVar → Tree) (c : Context) (us : List ℕ) → AllByRecursion (IsBinding p t c (with_tyvars us c)) bs → AllByRecursion (λ b. IsExp p t b.right) bs → AllByRecursion (λ b. (b.pat < length p.nodes) × IsOf p.nodes Pattern b.pat) bs → IsExp p t body → EnvTy p t sig g (needed bs body) env → Accepts p t sig k (TakesAll p t (one g (t.types body))) → Safe p t m.store (declare p m bs body env k)
  declare_safe [] body env k g c us hb hr hp hx he hk =
      going_eval ready body (env_of p body env) k g hx (env_cut p t sig g (free p.nodes body) (needed [] body) env (λ z q. within_rest (free p.nodes body) [] z q refl) he) hk
  declare_safe (b ∷ later) body env k g c us hb hr hp hx he hk =
      let gens = t.gens b.right in
      let f : Family = family g gens (t.types b.right) in
      let pats = union_over (λ b. free p.nodes b.pat) (b ∷ later) in
      let rights = union_over (λ b. free p.nodes b.right) (b ∷ later) in
      let rest = without (free p.nodes body) (union_over (λ b. binds p.nodes b.pat) (b ∷ later)) in
      let own = free p.nodes b.right in
      awaiting_safe ready (RightSide b later body (env_of_rest p b later body env)) k b.right (env_of p b.right env) f false he.0 (
        refl,
        refl,
        refl,
        record { context = c; tyvars = us; bind = hb; rights = hr; pats = hp },
        hx,
        env_cut p t sig g (free_of_rest p t b later body) (needed (b ∷ later) body) env (within_both pats (union (union_over (λ b. free p.nodes b.right) later) rest) (needed (b ∷ later) body) (within_left pats (union rights rest)) (within_both (union_over (λ b. free p.nodes b.right) later) rest (needed (b ∷ later) body) (λ z q. within_right pats (union rights rest) z (within_left rights rest z (within_tail (λ b. free p.nodes b.right) b later z q))) (λ z q. within_right pats (union rights rest) z (within_right rights rest z q)))) he,
        hk,
      )
      refl hr.0 hb.0.2.1
      (λ h agr. env_spread p t sig c gens g h own (env_of p b.right env) agr (all_fresh c gens hb.0.2.0) (subst (λ (d : Context). IsWithin own d.names) hb.0.1.0 (free_known p t ready.typing ready.bare.numbered ready.bare.sorts b.right (exp_lt b.right hr.0)))
      (env_cut p t sig g own (needed (b ∷ later) body) env (λ z q. within_right pats (union rights rest) z (within_left rights rest z (within_head (λ b. free p.nodes b.right) b later z q))) he))
      (λ e. cc)

  -- ---- Recursive declarations

  -- the function that a right side is
  pub record Function (r : ℕ) (o : Option (ℕ × List Rule)) : Type 0 where
    pub number : ℕ
    pub rules : List Rule
    pub found : o ≡ Some (number, rules)
    pub is_fn : slice_get p.nodes number ≡ Some (node.Fn rules)
    pub types : t.types number ≡ t.types r
    pub contexts : t.contexts number ≡ t.contexts r
    pub frees : IsWithin (free p.nodes number) (free p.nodes r)

  function_under : (k r : ℕ) → within false bare_function_of k p.nodes r ≡ true → Function r (within None function_of k p.nodes r)
  function_under zero r h = cc
  function_under (suc k) r h = go (slice_get p.nodes r) refl h (λ x. function_under k x)
    where
      go : (o : Option Node) → slice_get p.nodes r ≡ o → at_node false bare_function_of (within false bare_function_of k p.nodes) r o ≡ true → ((x : ℕ) → within false bare_function_of k p.nodes x ≡ true → Function x (within None function_of k p.nodes x)) → Function r (at_node None function_of (within None function_of k p.nodes) r o)
      go (Some (node.Fn rules)) e h under = record { number = r; rules = rules; found = refl; is_fn = e; types = refl; contexts = refl; frees = λ z m. m }
      go (Some (node.Typed x ty)) e h under =
          let f = under x h in
          let w = rule_at p t ready.typing ready.bare.numbered ready.bare.sorts r (node.Typed x ty) e in
          record {
            number = f.number;
            rules = f.rules;
            found = f.found;
            is_fn = f.is_fn;
            types = f.types ∙ w.0.1;
            contexts = f.contexts ∙ w.0.0;
            frees = subst (IsWithin (free p.nodes f.number)) (sym (free_unfold p.nodes ready.bare.numbered r (node.Typed x ty) e)) f.frees;
          }
      go _ e h under = cc

  abbrev all_gens : List RecBinding → List TyVar
  all_gens [] = []
  all_gens (b ∷ bs) = t.gens b.right ++ all_gens bs

  none_of : (vs ws : List TyVar) (n : ℕ) → has_num (vs ++ ws) n ≡ false → (has_num vs n ≡ false) × (has_num ws n ≡ false)
  none_of vs ws n h =
      or_none (has_num vs n) (has_num ws n) (sym (list_any-append (λ v. nat_eq n v.num) vs ws) ∙ h)

  fresh_group : (c inner : Context) (bs : List RecBinding) → AllByRecursion (IsRecBinding p t c inner) bs → AllByRecursion (λ v. IsFresh t.schemes c v.num) (all_gens bs)
  fresh_group c inner [] h = tt
  fresh_group c inner (b ∷ bs) h = both (t.gens b.right) h.0.1.0 (fresh_group c inner bs h.1)
    where
      both : (vs : List TyVar) → AllByRecursion (λ v. IsFresh t.schemes c v.num) vs → AllByRecursion (λ v. IsFresh t.schemes c v.num) (all_gens bs) → AllByRecursion (λ v. IsFresh t.schemes c v.num) (vs ++ all_gens bs)
      both [] k r = r
      both (v ∷ vs) k r = (k.0, both vs k.1 r)

  abbrev group_entry : (TyVar → Tree) → List TyVar → RecBinding → Entry
  group_entry g gens b = Holds (family g gens (t.types b.right))

  pub get_mid : {A : Type 0} (xs : List A) (x : A) (ys : List A) → slice_get (xs ++ x ∷ ys) (length xs) ≡ Some x
  get_mid [] x ys = refl
  get_mid (z ∷ xs) x ys = get_mid xs x ys

  -- the names of a group have their schemes, under all substitutions that agree but for what the group generalises
  group_scheme : (g h : TyVar → Tree) (gens : List TyVar) → Agrees t.names gens g h → (c inner : Context) (full pre : List Entry) (bs : List RecBinding) (a : ℕ) → full ≡ pre ++ map (group_entry g gens) bs → a ≡ length pre → AllByRecursion (IsRecBinding p t c inner) bs → ((n : ℕ) → has_num gens n ≡ false → has_num (all_gens bs) n ≡ false) → (x : ℕ) (v : Value) → look (group_env p a bs) x ≡ Some v → HasScheme p t full h x v
  group_scheme g h gens agr c inner full pre [] a ef ea hb hg x v e = cc
  group_scheme g h gens agr c inner full pre (b ∷ bs) a ef ea hb hg x v e =
      go (nat_eq x b.name.0) refl e (group_scheme g h gens agr c inner full (pre ++ group_entry g gens b ∷ []) bs (suc a) (ef ∙ sym (append_assoc pre (group_entry g gens b ∷ []) (map (group_entry g gens) bs))) (omega (arith, ea, length-append pre (group_entry g gens b ∷ []))) hb.1 (λ n q. (none_of (t.gens b.right) (all_gens bs) n (hg n q)).1) x v)
    where
      poly_is : t.schemes b.name.0 ≡ poly (t.gens b.right) (t.types b.right)
      poly_is = hb.0.2

      here : HasScheme p t full h b.name.0 (At a)
      here f af = (
        group_entry g gens b,
        ap (slice_get full) ea ∙ ap (λ l. slice_get l (length pre)) ef ∙ get_mid pre (group_entry g gens b) (map (group_entry g gens) bs),
        (f, ((λ w n. af.0 w (ap (λ (s : Poly). has_num s.vars w.num) poly_is ∙ (none_of (t.gens b.right) (all_gens bs) w.num (hg w.num n)).0) ∙ agr.0 w n), af.1), ap (λ (s : Poly). inst f s.body) poly_is),
      )

      go : (q : Bool) → nat_eq x b.name.0 ≡ q → cond q (Some (At a)) (look (group_env p (suc a) bs) x) ≡ Some v → (look (group_env p (suc a) bs) x ≡ Some v → HasScheme p t full h x v) → HasScheme p t full h x v
      go true n d rest =
          let same : At a ≡ v = cc in
          subst (HasScheme p t full h x) same (subst (λ y. HasScheme p t full h y (At a)) (sym (eqb-true x b.name.0 n)) here)
      go false n d rest = rest d

  group_has : (a : ℕ) (bs : List RecBinding) (x : ℕ) → has (names_of bs) x ≡ true → (v : Value) × (look (group_env p a bs) x ≡ Some v)
  group_has a [] x h = cc
  group_has a (b ∷ bs) x h = go (nat_eq x b.name.0) refl (group_has (suc a) bs x)
    where
      go : (q : Bool) → nat_eq x b.name.0 ≡ q → (has (names_of bs) x ≡ true → (v : Value) × (look (group_env p (suc a) bs) x ≡ Some v)) → (v : Value) × (cond (nat_eq x b.name.0) (Some (At a)) (look (group_env p (suc a) bs) x) ≡ Some v)
      go true n rest = (At a, ap (λ q. cond q (Some (At a)) (look (group_env p (suc a) bs) x)) n)
      go false n rest =
          let m : has (names_of bs) x ≡ true =
          either (has (b.name.0 ∷ []) x) (has (names_of bs) x) (has (names_of bs) x ≡ true) (sym (has-union (b.name.0 ∷ []) (names_of bs) x) ∙ h) (λ k. let z : (nat_eq x b.name.0 || false) ≡ true = k in let w : (false || false) ≡ true = ap (λ q. q || false) (sym n) ∙ z in cc) (λ k. k) in
          let v = rest m in (v.0, ap (λ q. cond q (Some (At a)) (look (group_env p (suc a) bs) x)) n ∙ v.1)

  -- the closures of a group
  closures_safe : (g : TyVar → Tree) (gens : List TyVar) (full : List Entry) (all : Env) (bs : List RecBinding) → AllByRecursion (λ b. is_function p.nodes b.right ≡ true) bs → AllByRecursion (λ b. (j : ℕ) → j < length p.nodes → t.contexts j ≡ t.contexts b.right → IsWithin (free p.nodes j) (free p.nodes b.right) → (h : TyVar → Tree) → Agrees t.names gens g h → EnvTy p t full h (free p.nodes j) all) bs → (blocks : List Block) × (closures p all bs ≡ Some blocks) × StoreTy p t full (map (group_entry g gens) bs) blocks × ((a : ℕ) → AllDescend a blocks)
  closures_safe g gens full all [] hf he = ([], refl, tt, (λ a. tt))
  closures_safe g gens full all (b ∷ bs) hf he =
      let f = function_under (length p.nodes) b.right hf.0 in
      let rest = closures_safe g gens full all bs hf.1 he.1 in
      let lt = get_lt p.nodes f.number (node.Fn f.rules) f.is_fn in
      let block = Closure f.number f.rules (env_of p f.number all) in (
        block ∷ rest.0,
        ap (λ o. closure_of p all o >>= λ closure. closures p all bs >>= λ others. Some (closure ∷ others)) f.found ∙ ap (λ o. o >>= λ others. Some (block ∷ others)) rest.1,
        ((f.is_fn, sym f.types, (λ h agr. env_cut p t full h (free p.nodes f.number) (free p.nodes f.number) all (λ z m. m) (he.0 f.number lt f.contexts f.frees h agr))), rest.2),
        (λ a. (tt, rest.3 (suc a))),
      )

  -- ---- Declarations

  exn_con_ty : (x : Option ℕ) (a : Tree) → IsExnArgument p t x a → (g : TyVar → Tree) → IsExnCon (inst g a)
  exn_con_ty None a h g = inl (ap (inst g) h)
  exn_con_ty (Some j) a h g = inr (inst g h.0, ap (inst g) h.2)

  -- a variable that is declared in front of an environment
  one_more : (g : TyVar → Tree) (full : List Entry) (x : ℕ) (v : Value) (ys xs : List ℕ) (env : Env) → HasScheme p t full g x v → EnvTy p t full g ys env → ((z : ℕ) → has xs z ≡ true → has (x ∷ []) z ≡ false → has ys z ≡ true) → EnvTy p t full g xs ((x, v) ∷ env)
  one_more g full x v ys xs env h he w =
      joined p t full g (x ∷ []) ys xs ((x, v) ∷ []) env
      (λ y u e. go y u (nat_eq y x) refl e)
      (λ y m. (v, ap (λ q. cond q (Some v) None) (either (nat_eq y x) false (nat_eq y x ≡ true) m (λ a. a) (λ a. cc)))) he w
    where
      go : (y : ℕ) (u : Value) (q : Bool) → nat_eq y x ≡ q → cond q (Some v) None ≡ Some u → HasScheme p t full g y u
      go y u true n e =
          let same : v ≡ u = cc in
          subst (HasScheme p t full g y) same (subst (λ y. HasScheme p t full g y v) (sym (eqb-true y x n)) h)
      go y u false n e = cc

  not_group : (bs : List RecBinding) (z : ℕ) → has (names_of bs) z ≡ false → has (group_names bs) z ≡ true → ⊥
  not_group bs z h g = let x = group_bound p t ready.typing ready.bare.numbered ready.bare.sorts bs z g in cc

  -- what is known of the parts of a declaration and of the body behind it
  abbrev DecEnv : (TyVar → Tree) → Node → ℕ → Env → Type 0
  DecEnv g q body env =
      EnvTy p t sig g (union (free_of (binds p.nodes) (free p.nodes) q) (without (free p.nodes body) (binds_of (binds p.nodes) q))) env

  behind : (g : TyVar → Tree) (q : Node) (body : ℕ) (env : Env) → DecEnv g q body env → EnvTy p t sig g (without (free p.nodes body) (binds_of (binds p.nodes) q)) env
  behind g q body env he =
      env_within p t sig g (without (free p.nodes body) (binds_of (binds p.nodes) q)) (union (free_of (binds p.nodes) (free p.nodes) q) (without (free p.nodes body) (binds_of (binds p.nodes) q))) env (within_right (free_of (binds p.nodes) (free p.nodes) q) (without (free p.nodes body) (binds_of (binds p.nodes) q))) he

  same_known : (g : TyVar → Tree) (q : Node) (body : ℕ) (env : Env) (k : Option Address) → binds_of (binds p.nodes) q ≡ [] → IsExp p t body → DecEnv g q body env → Accepts p t sig k (TakesAll p t (one g (t.types body))) → Safe p t m.store (going m (eval_in p body env k))
  same_known g q body env k e hx he hk =
      going_eval ready body (env_of p body env) k g hx (env_cut p t sig g (free p.nodes body) (without (free p.nodes body) (binds_of (binds p.nodes) q)) env (λ z m. within_rest (free p.nodes body) (binds_of (binds p.nodes) q) z m (ap (λ xs. has xs z) e)) (behind g q body env he)) hk

  rights_exp : (d : ℕ) (bs : List Binding) → AllByRecursion (λ b. IsOf p.nodes Pattern b.pat × IsOf p.nodes Expression b.right) bs → AllByRecursion (λ c. (d < c) × (c < length p.nodes)) (flat_map (λ b. b.pat ∷ b.right ∷ []) bs) → AllByRecursion (λ b. IsExp p t b.right) bs × AllByRecursion (λ b. (b.pat < length p.nodes) × IsOf p.nodes Pattern b.pat) bs
  rights_exp d [] s h = (tt, tt)
  rights_exp d (b ∷ bs) s h =
      let r = rights_exp d bs s.1 h.1.1 in ((exp_of ready b.right h.1.0.1 s.0.1, r.0), ((h.0.1, s.0.0), r.1))

  pub inst_weak : (b : Bool) (s : Poly) (u : Tree) → IsInstance t.names (cond b (mono s.body) s) u → (g : TyVar → Tree) × ((v : TyVar) → has_num s.vars v.num ≡ false → g v ≡ Variable v) × (u ≡ inst g s.body) × KeepsMarks t.names g
  inst_weak true s u h = (h.at, (λ v n. h.others v refl), h.is, instance_keeps t.names (mono s.body) u h)
  inst_weak false s u h = (h.at, h.others, h.is, instance_keeps t.names s u h)

  -- a value declared by a constructor of exceptions
  con_scheme : (g : TyVar → Tree) (c : Context) (x : ℕ) (k : Con) (env : Env) → is_exception k ≡ true → IsConPoly p t c k (t.schemes x) → EnvTy p t sig g (exception_of k) env → (v : Value) × (con_value env k ≡ Some v) × HasScheme p t sig g x v
  con_scheme g c x (con.Data n k takes) env h s he = cc
  con_scheme g c x con.Ref env h s he = cc
  con_scheme g c x (con.Exn y takes) env h s he =
      let k = he.1 y.0 (self_in y.0) in
      (k.0, k.1, (λ f a. subst (λ (s : Poly). HasTy p t sig k.0 (inst f s.body)) (sym s.1) (k.2 f (subst (λ (s : Poly). Agrees t.names s.vars g f) s.1 a))))
  con_scheme g c x (con.Library e) env h s he =
      (Library e, refl, (λ f a. ap (λ (s : Poly). inst f s.body) s ∙ library_closed f e))

  eval_ty : (full : List Entry) (i : ℕ) (env : Env) (k : Option Address) (g : TyVar → Tree) → IsExp p t i → EnvTy p t full g (free p.nodes i) env → Accepts p t full k (TakesAll p t (one g (t.types i))) → EvalTy p t full i env k
  eval_ty full i env k g he hn hk = record {
    family = one g (t.types i);
    keeps = hn.0;
    exp = he;
    ty = refl;
    fixed = inl refl;
    knows = λ h a. env_same p t full g h (free p.nodes i) env a hn;
    takes = accept_map ready full k (TakesAll p t (one g (t.types i))) (TakesNode p t i (one g (t.types i))) (λ f b h. (h.0, (λ e. let x = h.1 in cc))) hk;
  }

  -- what the functions of a group know
  each : (c inner : Context) (gens : List TyVar) (full : List Entry) (group env : Env) (g : TyVar → Tree) (bs : List RecBinding) (frees : List ℕ) → ((h : TyVar → Tree) → Agrees t.names gens g h → (x : ℕ) (v : Value) → look group x ≡ Some v → HasScheme p t full h x v) → ((x : ℕ) → has (names_of bs) x ≡ true → (v : Value) × (look group x ≡ Some v)) → EnvTy p t full g (without frees (names_of bs)) env → inner.names ≡ group_names bs ++ c.names → AllByRecursion (IsRecBinding p t c inner) bs → AreFresh p t sig c gens → IsWithin (union_over (λ b. free p.nodes b.right) bs) frees → AllByRecursion (λ b. (j : ℕ) → j < length p.nodes → t.contexts j ≡ t.contexts b.right → IsWithin (free p.nodes j) (free p.nodes b.right) → (h : TyVar → Tree) → Agrees t.names gens g h → EnvTy p t full h (free p.nodes j) (group ++ env)) bs
  each c inner gens full group env g bs frees hs hh he hi hr hf hw = go bs hr hw
    where
      go : (cs : List RecBinding) → AllByRecursion (IsRecBinding p t c inner) cs → IsWithin (union_over (λ b. free p.nodes b.right) cs) frees → AllByRecursion (λ b. (j : ℕ) → j < length p.nodes → t.contexts j ≡ t.contexts b.right → IsWithin (free p.nodes j) (free p.nodes b.right) → (h : TyVar → Tree) → Agrees t.names gens g h → EnvTy p t full h (free p.nodes j) (group ++ env)) cs
      go [] r w = tt
      go (b ∷ cs) r w = (
        (λ j lt ec wj h agr.
            let ys = without (free p.nodes j) (names_of bs) in
            joined p t full h (names_of bs) ys (free p.nodes j) group env (hs h agr) hh
            (env_spread p t full c gens g h ys env agr hf (λ z m.
            let q = without_parts (free p.nodes j) (names_of bs) z m in
            let in_inner : has (group_names bs ++ c.names) z ≡ true = subst (λ ns. has ns z ≡ true) hi (subst (λ (d : Context). has d.names z ≡ true) (ec ∙ r.0.0) (free_known p t ready.typing ready.bare.numbered ready.bare.sorts j lt z q.0)) in
            either (has (group_names bs) z) (has c.names z) (has c.names z ≡ true) (sym (list_any-append (nat_eq z) (group_names bs) c.names) ∙ in_inner) (λ a. absurd (not_group bs z q.1 a)) (λ a. a))
            (env_within p t full g ys (without frees (names_of bs)) env (λ z m. let q = without_parts (free p.nodes j) (names_of bs) z m in within_rest frees (names_of bs) z (w z (within_head (λ (b : RecBinding). free p.nodes b.right) b cs z (wj z q.0))) q.1) he))
            (λ z a b. within_rest (free p.nodes j) (names_of bs) z a b)),
        go cs r.1 (λ z m. w z (within_tail (λ (b : RecBinding). free p.nodes b.right) b cs z m)),
      )

  pub eval_dec_safe : (d body : ℕ) (q : Node) (env : Env) (k : Option Address) (g : TyVar → Tree) → slice_get p.nodes d ≡ Some q → sort_of q ≡ Declaration → IsTypedNode p t (t.contexts d) (t.types d) (t.binds d) q → IsExp p t body → DecEnv g q body env → Accepts p t sig k (TakesAll p t (one g (t.types body))) → Safe p t m.store (eval_dec p m body q env k)
  eval_dec_safe d body (node.Val us bs) env k g ed sd r hx he hk =
      let x = rights_exp d bs (sorts_at p t ready.typing ready.bare.numbered ready.bare.sorts d (node.Val us bs) ed) (ready.bare.numbered d (node.Val us bs) ed) in
      let pats = union_over (λ b. free p.nodes b.pat) bs in
      let rights = union_over (λ b. free p.nodes b.right) bs in
      let both = union_over (λ b. union (free p.nodes b.pat) (free p.nodes b.right)) bs in
      let rest = without (free p.nodes body) (union_over (λ b. binds p.nodes b.pat) bs) in
      declare_safe bs body env k g (t.contexts d) us r.0 x.0 x.1 hx
      (env_within p t sig g (needed bs body) (union both rest) env (within_both pats (union rights rest) (union both rest) (λ z m. within_left both rest z (within_each (λ b. free p.nodes b.pat) (λ b. union (free p.nodes b.pat) (free p.nodes b.right)) bs (λ b. within_left (free p.nodes b.pat) (free p.nodes b.right)) z m)) (within_both rights rest (union both rest) (λ z m. within_left both rest z (within_each (λ b. free p.nodes b.right) (λ b. union (free p.nodes b.pat) (free p.nodes b.right)) bs (λ b. within_right (free p.nodes b.pat) (free p.nodes b.right)) z m)) (within_right both rest))) he) hk
  eval_dec_safe d body (node.Type bs) env k g ed sd r hx he hk = same_known g (node.Type bs) body env k refl hx he hk
  eval_dec_safe d body (node.Datatype bs) env k g ed sd r hx he hk = same_known g (node.Datatype bs) body env k refl hx he hk
  eval_dec_safe d body (node.Exception x arg) env k g ed sd r hx he hk =
      let u = inst g r.0 in
      let more = Names u ∷ [] in
      let n = length m.store in
      let q = node.Exception x arg in
      let lt : x.0 < length p.names = (all_at (Stands p) p.nodes d q ready.bare.stands ed).0 in
      let here : HasScheme p t (sig ++ more) g x.0 (At n) = λ f a. (Names u, new_at ready (Names u), ap (λ (s : Poly). inst f s.body) r.2 ∙ inst_all g f r.0 (λ w. (subst (λ (s : Poly). Agrees t.names s.vars g f) r.2 a).0 w refl)) in
      let full = one_more g (sig ++ more) x.0 (At n) (without (free p.nodes body) (x.0 ∷ [])) (free p.nodes body) env here (env_up p t sig more g (without (free p.nodes body) (x.0 ∷ [])) env (behind g q body env he)) (λ z a b. within_rest (free p.nodes body) (x.0 ∷ []) z a b) in
      making_safe ready (ExnName x.0) (Names u) (λ a. eval_in p body ((x.0, At a) ∷ env) k) (lt, exn_con_ty arg r.0 r.1 g, (λ e. ap (inst g) (sym (ap (λ (s : Poly). s.body) r.2) ∙ e))) tt
      (eval_ty (sig ++ more) body (env_of p body ((x.0, At n) ∷ env)) k g hx (env_cut p t (sig ++ more) g (free p.nodes body) (free p.nodes body) ((x.0, At n) ∷ env) (λ z m. m) full) (accepts_up p t sig more k (TakesAll p t (one g (t.types body))) hk))
  eval_dec_safe d body (node.SameException x c) env k g ed sd r hx he hk =
      let q = node.SameException x c in
      let v = con_scheme g (t.contexts d) x.0 c env r.0 r.1 (env_within p t sig g (exception_of c) (union (exception_of c) (without (free p.nodes body) (x.0 ∷ []))) env (within_left (exception_of c) (without (free p.nodes body) (x.0 ∷ []))) he) in
      known ready (con_value env c) v.0 (λ v. going m (eval_in p body ((x.0, v) ∷ env) k)) v.1
      (going_eval ready body (env_of p body ((x.0, v.0) ∷ env)) k g hx (env_cut p t sig g (free p.nodes body) (free p.nodes body) ((x.0, v.0) ∷ env) (λ z m. m) (one_more g sig x.0 v.0 (without (free p.nodes body) (x.0 ∷ [])) (free p.nodes body) env v.2 (behind g q body env he) (λ z a b. within_rest (free p.nodes body) (x.0 ∷ []) z a b))) hk)
  eval_dec_safe d body (node.ValRec us bs) env k g ed sd r hx he hk =
      let gens = all_gens bs in
      let c = t.contexts d in
      let inner = with_tyvars us (with_own (group_names bs) c) in
      let more = map (group_entry g gens) bs in
      let full = sig ++ more in
      let group = group_env p (length m.store) bs in
      let all = group ++ env in
      let scheme = λ (h : TyVar → Tree) (agr : Agrees t.names gens g h). group_scheme g h gens agr c inner full sig bs (length m.store) refl (sym (store_len p t sig sig m.store ready.store)) r.0 (λ n e. e) in
      let frees = union_over (λ b. free p.nodes b.right) bs in
      let own = without frees (names_of bs) in
      let rest = without (free p.nodes body) (names_of bs) in
      let env_full = env_up p t sig more g (union own rest) env he in
      let blocks = closures_safe g gens full all bs (sorts_at p t ready.typing ready.bare.numbered ready.bare.sorts d (node.ValRec us bs) ed) (each c inner gens full group env g bs frees (λ h agr x v e. scheme h agr x v e) (group_has (length m.store) bs) (env_within p t full g own (union own rest) env (within_left own rest) env_full) refl r.0 (all_fresh c gens (fresh_group c inner bs r.0)) (λ z m. m)) in
      known ready (closures p all bs) blocks.0 (λ blocks. making_all m blocks (eval_in p body all k)) blocks.1
      (making_all_safe ready blocks.0 more (eval_in p body all k) blocks.2 (blocks.3 (length m.store))
      (eval_ty full body (env_of p body all) k g hx (env_cut p t full g (free p.nodes body) (free p.nodes body) all (λ z m. m) (joined p t full g (names_of bs) rest (free p.nodes body) group env (scheme g (agrees_self t.names gens g he.0)) (group_has (length m.store) bs) (env_within p t full g rest (union own rest) env (within_right own rest) env_full) (λ z a b. within_rest (free p.nodes body) (names_of bs) z a b))) (accepts_up p t sig more k (TakesAll p t (one g (t.types body))) hk)))
  eval_dec_safe d body (node.NoException x) env k g ed sd r hx he hk = absurd r
  eval_dec_safe d body _ env k g ed sd r hx he hk = cc
