-- A value fits a pattern by the rules as it does in the machine.
use Rattle.std.proofs.Common.{◌≡◌, ℕ, zero, suc, ◌+◌, ◌<◌, ◌≤◌, Bool, true, false, List, [], ◌∷◌, ◌++◌, length, Option, Some, None, refl, sym, ap, ◌∙◌, subst, arith}
use Rattle.std.specs.Prelude.{ℤ, slice_get, nat_eq, map, bytes_eq}
use Rattle.std.specs.Ordering.{int_eq}
use Rattle.std.specs.List.{AllByRecursion}
use Rattle.std.proofs.lemmas.Bool.{eqb-true, eq-eqb}
use Rattle.sml_tree.specs.declared.bare.Bare.{Bare}
use Rattle.sml_tree.specs.declared.bare.Node.{Node}
use Rattle.sml_tree.specs.declared.bare.Node.TheVariants as node
use Rattle.sml_tree.specs.declared.bare.Con.{Con}
use Rattle.sml_tree.specs.declared.bare.Con.TheVariants as con
use Rattle.sml_tree.specs.declared.bare.Field.{Field}
use Rattle.sml_tree.specs.declared.bare.Rule.{Rule}
use Rattle.sml_tree.specs.BareParts.{IsNumbered, node_parts, at_node}
use Rattle.sml_tree.specs.Sets.{has}
use Rattle.sml_tree.specs.Free.{free, binds, free_of, exception_of, free_fields}
use Rattle.sml_tree.proofs.Members.{IsWithin, within_left, within_right, within_head, within_tail, or_left}
use Rattle.sml_tree.proofs.FreeParts.{free_unfold}
use Rattle.sml_tree.proofs.Unfold.{by_parts}
use Rattle.sml_def.specs.Maybe.{◌>>=◌, when, or_else}
use Rattle.sml_def.specs.State.{Value, At, Address, Block, Tuple, Applied, Text, Cell, ExnName, Packet, Closure}
use Rattle.sml_def.specs.State as m
use Rattle.sml_def.specs.Match.{bytes_of, block_of, fields_of, packet_block}
use Rattle.sml_def.specs.Match as matching
use Rattle.sml_rules.specs.Terms.{Term, Record, Function, Terms, no_terms, more_terms, listed, Env, nowhere, bind, look, ◌over◌, State}
use Rattle.sml_rules.specs.Terms as t
use Rattle.sml_rules.specs.Patterns.{Fit, Fits, Fails, TooDeep, fit_if, of_part, ◌and_fit◌, row_of, pat_of, pat_at, pat, or_next, first_rule, is_con, argument_of, same_exn, packet_parts, record_fields, text_of}
use Rattle.match_laws.specs.Suit.{name_block, is_exn_name}
use Rattle.match_laws.specs.Law.{HasNames}
use Rattle.sml_rules.proofs.Relation.{World, Are}
use Rattle.sml_rules.proofs.Relation as r
use Rattle.sml_rules.proofs.Environments.{Is, AreBound, split, bound_over}
use Rattle.sml_rules.proofs.Forms.{Holds, Form, form, OptIs, OptAre, OptPair, applied_is, content_is, packet_is, fields_is, text_is}
use Rattle.sml_rules.proofs.Forms as f

-- ---- The machine's matching, by the parts of a pattern

bind_same : {A B : Type 0} (o : Option A) (f g : A → Option B) → ((x : A) → f x ≡ g x) → (o >>= f) ≡ (o >>= g)
bind_same None f g h = refl
bind_same (Some x) f g h = h x

module _ (p : Bare) (menv : m.Env) (store : List Block) where
  fields_same : (f g : ℕ → Value → Option m.Env) (fields : List Field) (vs : List Value) → AllByRecursion (λ c. (v : Value) → f c v ≡ g c v) (map (λ x. x.node) fields) → matching.fields_fit p menv store f fields vs ≡ matching.fields_fit p menv store g fields vs
  fields_same f g [] vs h = refl
  fields_same f g (x ∷ fields) vs h =
      bind_same (slice_get vs x.slot) _ _ (λ v. ap (λ o. o >>= (λ bound. matching.fields_fit p menv store f fields vs >>= (λ others. Some (bound ++ others)))) (h.0 v) ∙ bind_same (g x.node v) _ _ (λ bound. ap (λ o. o >>= (λ others. Some (bound ++ others))) (fields_same f g fields vs h.1)))

  fits_by_parts : (f g : ℕ → Value → Option m.Env) (i : ℕ) (n : Node) → AllByRecursion (λ c. (v : Value) → f c v ≡ g c v) (node_parts n) → (v : Value) → matching.fits_of p menv store f n v ≡ matching.fits_of p menv store g n v
  fits_by_parts f g i (node.PatInt n) h (m.Number z) = refl
  fits_by_parts f g i (node.PatChar c) h (m.Letter d) = refl
  fits_by_parts f g i (node.PatApp c q) h v = bind_same (matching.argument_of menv store c v) (f q) (g q) h.0
  fits_by_parts f g i (node.PatRecord fields) h v = bind_same (fields_of store v) _ _ (λ vs. fields_same f g fields vs h)
  fits_by_parts f g i (node.PatTyped q ty) h v = h.0 v
  fits_by_parts f g i (node.PatAs x q) h v = ap (λ o. o >>= (λ bound. Some ((x.0, v) ∷ bound))) (h.0 v)
  fits_by_parts f g i _ h v = refl

  pub fits_unfold : IsNumbered p.nodes → (i : ℕ) (v : Value) → matching.fits p menv store i v ≡ at_node (λ v. None) (λ part i. matching.fits_of p menv store part) (matching.fits p menv store) i (slice_get p.nodes i) v
  fits_unfold numbered i v =
      by_parts (λ v. None) (λ part i. matching.fits_of p menv store part) (λ f g. (v : Value) → f v ≡ g v) (λ v. refl) (λ f g i n h. fits_by_parts f g i n h) p.nodes numbered i v

-- ---- Exception names in patterns

-- what the machine's environment has of these variables, the full one has too
abbrev pub SubOn : (p : Bare) → World → List ℕ → Env → m.Env → Type 0
SubOn p w xs env menv =
    (x : ℕ) (v : Value) → has xs x ≡ true → m.look menv x ≡ Some v → (u : Term) × (look env x ≡ Some u) × Is p w u v

-- a value with its block is an exception name
abbrev IsName : Value → Option Block → Type 0
IsName (m.Library e) o = Unit {0}
IsName (At a) (Some (ExnName x)) = Unit {0}
IsName _ _ = ⊥

is_name : (store : List Block) (v : Value) → is_exn_name store v ≡ true → IsName v (block_of store v)
is_name store (m.Library x) e = tt
is_name store (At a) e = go (slice_get store a) e
  where
    go : (o : Option Block) → name_block o ≡ true → IsName (At a) o
    go (Some (ExnName x)) e = tt
    go _ e = absurd cc
is_name store _ e = absurd cc

abbrev IsNoName : Option Block → Type 0
IsNoName (Some (ExnName x)) = ⊥
IsNoName _ = Unit {0}

pub same_tests : (i j a b : ℕ) → (i ≡ j → a ≡ b) → (a ≡ b → i ≡ j) → nat_eq i j ≡ nat_eq a b
same_tests i j a b f g = go (nat_eq i j) (nat_eq a b) refl refl
  where
    go : (q t : Bool) → nat_eq i j ≡ q → nat_eq a b ≡ t → nat_eq i j ≡ nat_eq a b
    go true true e h = e ∙ sym h
    go false false e h = e ∙ sym h
    go true false e h = let x = eq-eqb a b (f (eqb-true i j e)) in absurd cc
    go false true e h = let x = eq-eqb i j (g (eqb-true a b h)) in absurd cc

module _ (p : Bare) (w : World) where
  -- what a pattern gives by the rules, against what the machine's matching gives
  abbrev pub FitIs : Type 0 → Fit Env → Option m.Env → Type 0
  FitIs deep (Fits inner) o = (bound : m.Env) × (o ≡ Some bound) × AreBound p w inner bound
  FitIs deep Fails o = o ≡ None
  FitIs deep TooDeep o = deep

  abbrev pub RuleIs : Type 0 → Fit (Env × ℕ) → Option (m.Env × ℕ) → Type 0
  RuleIs deep (Fits r) o = (bound : m.Env) × (o ≡ Some (bound, r.1)) × AreBound p w r.0 bound
  RuleIs deep Fails o = o ≡ None
  RuleIs deep TooDeep o = deep

module _ (p : Bare) (w : World) (s : State) (holds : Holds p w s) where
  apart : (a b x : ℕ) (o : Option Block) → slice_get w.store a ≡ Some (ExnName x) → slice_get w.store b ≡ o → IsNoName o → false ≡ nat_eq a b
  apart a b x o e g h = go (nat_eq a b) refl
    where
      go : (q : Bool) → nat_eq a b ≡ q → false ≡ q
      go false f = refl
      go true f =
          let same : a ≡ b = eqb-true a b f in
          absurd (subst IsNoName (sym g ∙ ap (slice_get w.store) (sym same) ∙ e) h)

  name_test : (k a x : ℕ) (u : Term) (v : Value) (o : Option Block) → slice_get w.exns k ≡ Some a → slice_get w.store a ≡ Some (ExnName x) → block_of w.store v ≡ o → Form p w s u v o → same_exn (t.Name k) u ≡ matching.same_exn (At a) v
  name_test k a x u v o i e g (f.name j b y h c) =
      same_tests k j a b (λ q. let d = ap (slice_get w.exns) q in cc) (λ q. holds.exns_apart k j a i (ap (slice_get w.exns) refl ∙ h ∙ ap (λ n. Some n) (sym q)))
  name_test k a x u v o i e g (f.string bytes b) = apart a b x _ e g tt
  name_test k a x u v o i e g (f.tuple u' fields b us h) = apart a b x _ e g tt
  name_test k a x u v o i e g (f.applied n u' b y h) = apart a b x _ e g tt
  name_test k a x u v o i e g (f.packet y u' b z c h q) = apart a b x _ e g tt
  name_test k a x u v o i e g (f.cell n b u' y h c q) = apart a b x _ e g tt
  name_test k a x u v o i e g (f.function rules env group b n menv h) = apart a b x _ e g tt
  name_test k a x u v o i e g _ = refl

  library_test : (e : _) (u : Term) (v : Value) (o : Option Block) → Form p w s u v o → same_exn (t.Library e) u ≡ matching.same_exn (m.Library e) v
  library_test e u v o (f.name j b y h c) = refl
  library_test e u v o _ = refl

  -- an exception name against another value
  pub exn_test : (n : Term) (nv : Value) (o : Option Block) (u : Term) (v : Value) → block_of w.store nv ≡ o → Form p w s n nv o → IsName nv o → Form p w s u v (block_of w.store v) → same_exn n u ≡ matching.same_exn nv v
  exn_test n nv o u v g (f.name j b y h c) i q = name_test j b y u v _ h g refl q
  exn_test n nv o u v g (f.library e) i q = library_test e u v _ q
  exn_test n nv o u v g _ i q = absurd i

  data_con : (env : Env) (menv : m.Env) (ty n : ℕ) (takes : Bool) (u : Term) (v : Value) (o : Option Block) → Form p w s u v o → is_con env (con.Data ty n takes) u ≡ matching.is_con menv (con.Data ty n takes) v
  data_con env menv ty n takes u v o (f.tag k) = refl
  data_con env menv ty n takes u v o _ = refl

  module _ (env : Env) (menv : m.Env) (xs : List ℕ) (sub : SubOn p w xs env menv) (sane : HasNames w.store menv xs) where
    -- an exception constructor of a pattern has the same exception name in both
    record Found (x : ℕ) : Type 0 where
      term : Term
      value : Value
      in_machine : m.look menv x ≡ Some value
      in_full : look env x ≡ Some term
      is : Is p w term value
      named : IsName value (block_of w.store value)

    found : (x : ℕ) → has xs x ≡ true → Found x
    found x h =
        let a = sane x h in
        let b = sub x a.0 h a.1 in
        record { term = b.0; value = a.0; in_machine = a.1; in_full = b.1; is = b.2; named = is_name w.store a.0 a.2 }

    one : (x : ℕ) → has (x ∷ []) x ≡ true
    one x = or_left (nat_eq x x) false (eq-eqb x x refl)

    -- its exception constructor is in the environment
    abbrev Known : Con → Type 0
    Known c = IsWithin (exception_of c) xs

    con_is : (c : Con) → Known c → (u : Term) (v : Value) → Is p w u v → is_con env c u ≡ matching.is_con menv c v
    con_is (con.Data ty n takes) k u v h = data_con env menv ty n takes u v _ (form p w s holds u v h)
    con_is con.Ref k u v h = refl
    con_is (con.Library e) k u v h = library_test e u v _ (form p w s holds u v h)
    con_is (con.Exn x takes) k u v h =
        let q = found x.0 (k x.0 (one x.0)) in
        ap (λ o. or_else o (λ name. same_exn name u) false) q.in_full
        ∙ exn_test q.term q.value (block_of w.store q.value) u v refl (form p w s holds q.term q.value q.is) q.named (form p w s holds u v h)
        ∙ sym (ap (λ o. or_else o (λ name. matching.same_exn name v) false) q.in_machine)

    when_both : (q r : Bool) (u : Term) (v : Value) → q ≡ r → Is p w u v → OptIs p w s (when q u) (when r v)
    when_both true true u v e h = h
    when_both false false u v e h = tt
    when_both true false u v e h = absurd cc
    when_both false true u v e h = absurd cc

    packet_arg : (n : Term) (nv : Value) (o : Option (Term × Term)) (q : Option (Value × Value)) → Is p w n nv → IsName nv (block_of w.store nv) → OptPair p w s o q → OptIs p w s (o >>= (λ packet. when (same_exn n packet.0) packet.1)) (q >>= (λ packet. when (matching.same_exn nv packet.0) packet.1))
    packet_arg n nv None None h i k = tt
    packet_arg n nv (Some a) (Some b) h i k =
        when_both _ _ a.1 b.1 (exn_test n nv (block_of w.store nv) a.0 b.0 refl (form p w s holds n nv h) i (form p w s holds a.0 b.0 k.0)) k.1
    packet_arg n nv None (Some b) h i k = absurd k
    packet_arg n nv (Some a) None h i k = absurd k

    bind_is : (f : Term → Option Term) (g : Value → Option Value) (o : Option Term) (q : Option Value) (n : Term) (nv : Value) → o ≡ Some n → q ≡ Some nv → OptIs p w s (f n) (g nv) → OptIs p w s (o >>= f) (q >>= g)
    bind_is f g o q n nv e h k =
        subst (λ x. OptIs p w s (x >>= f) (q >>= g)) (sym e) (subst (λ x. OptIs p w s (f n) (x >>= g)) (sym h) k)

    argument_is : (c : Con) → Known c → (u : Term) (v : Value) → Is p w u v → OptIs p w s (argument_of env s.memory c u) (matching.argument_of menv w.store c v)
    argument_is (con.Data ty n takes) k u v h = applied_is p w s n u v _ (form p w s holds u v h)
    argument_is con.Ref k u v h = content_is p w s u v _ (form p w s holds u v h)
    argument_is (con.Library e) k u v h =
        packet_arg (t.Library e) (m.Library e) _ _ (r.library e [] [] r.done) tt (packet_is p w s u v _ (form p w s holds u v h))
    argument_is (con.Exn x takes) k u v h =
        let q = found x.0 (k x.0 (one x.0)) in
        bind_is (λ name. packet_parts u >>= (λ packet. when (same_exn name packet.0) packet.1)) (λ name. packet_block (block_of w.store v) >>= (λ packet. when (matching.same_exn name packet.0) packet.1)) (look env x.0) (m.look menv x.0) q.term q.value q.in_full q.in_machine (packet_arg q.term q.value _ _ q.is q.named (packet_is p w s u v _ (form p w s holds u v h)))

    -- ---- Patterns

    if_fits : (deep : Type 0) (q r : Bool) → q ≡ r → FitIs p w deep (fit_if q) (when r [])
    if_fits deep true true e = ([], refl, tt)
    if_fits deep false false e = refl
    if_fits deep true false e = absurd cc
    if_fits deep false true e = absurd cc

    -- one after another
    fit_both : (deep : Type 0) (x : Fit Env) (o : Option m.Env) (f : Env → Fit Env) (g : m.Env → Option m.Env) → FitIs p w deep x o → ((inner : Env) (bound : m.Env) → AreBound p w inner bound → FitIs p w deep (f inner) (g bound)) → FitIs p w deep (x and_fit f) (o >>= g)
    fit_both deep (Fits inner) o f g h k =
        subst (λ q. FitIs p w deep (f inner) (q >>= g)) (sym h.1) (k inner h.0 h.2)
    fit_both deep Fails o f g h k = ap (λ q. q >>= g) h
    fit_both deep TooDeep o f g h k = h

    fit_part : (deep : Type 0) (x : Option Term) (o : Option Value) (f : Term → Fit Env) (g : Value → Option m.Env) → OptIs p w s x o → ((u : Term) (v : Value) → Is p w u v → FitIs p w deep (f u) (g v)) → FitIs p w deep (of_part x f) (o >>= g)
    fit_part deep None None f g h k = refl
    fit_part deep (Some u) (Some v) f g h k = k u v h
    fit_part deep None (Some v) f g h k = absurd h
    fit_part deep (Some u) None f g h k = absurd h

    fit_parts : (deep : Type 0) (x : Option (List Term)) (o : Option (List Value)) (f : List Term → Fit Env) (g : List Value → Option m.Env) → OptAre p w s x o → ((us : List Term) (vs : List Value) → Are p w us vs → FitIs p w deep (f us) (g vs)) → FitIs p w deep (of_part x f) (o >>= g)
    fit_parts deep None None f g h k = refl
    fit_parts deep (Some u) (Some v) f g h k = k u v h
    fit_parts deep None (Some v) f g h k = absurd h
    fit_parts deep (Some u) None f g h k = absurd h

    -- the i-th of each list
    get_is : (us : List Term) (vs : List Value) (i : ℕ) → Are p w us vs → OptIs p w s (slice_get us i) (slice_get vs i)
    get_is [] [] i h = tt
    get_is (u ∷ us) (v ∷ vs) zero h = (split p w (u ∷ us) (v ∷ vs) h).0
    get_is (u ∷ us) (v ∷ vs) (suc i) h = get_is us vs i (split p w (u ∷ us) (v ∷ vs) h).1
    get_is [] (v ∷ vs) i h = absurd (split p w [] (v ∷ vs) h)
    get_is (u ∷ us) [] i h = absurd (split p w (u ∷ us) [] h)

    -- the parts of a pattern with number q, as it is to be shown of them
    abbrev Parts : ℕ → (ℕ → Term → Fit Env) → (ℕ → Value → Option m.Env) → ℕ → Type 0
    Parts d pats fits c = IsWithin (free p.nodes c) xs → (u : Term) (v : Value) → Is p w u v → FitIs p w (d + c ≤ length p.nodes) (pats c u) (fits c v)

    fit_deeper : (deep more : Type 0) (x : Fit Env) (o : Option m.Env) → (deep → more) → FitIs p w deep x o → FitIs p w more x o
    fit_deeper deep more (Fits inner) o k h = h
    fit_deeper deep more Fails o k h = h
    fit_deeper deep more TooDeep o k h = k h

    module _ (d q : ℕ) (pats : ℕ → Term → Fit Env) (fits : ℕ → Value → Option m.Env) where
      abbrev Deep : Type 0
      Deep = suc d + q ≤ length p.nodes

      abbrev Good : ℕ → Type 0
      Good c = (q < c) × (c < length p.nodes) × Parts d pats fits c

      good_part : (c : ℕ) → Good c → IsWithin (free p.nodes c) xs → (u : Term) (v : Value) → Is p w u v → FitIs p w Deep (pats c u) (fits c v)
      good_part c g k u v h = fit_deeper _ _ (pats c u) (fits c v) (λ l. omega (arith, l, g.0)) (g.2 k u v h)

      row_fits : (fields : List Field) → AllByRecursion Good (map (λ x. x.node) fields) → IsWithin (free_fields (free p.nodes) fields) xs → (us : List Term) (vs : List Value) → Are p w us vs → FitIs p w Deep (row_of p env s.memory pats fields us) (matching.fields_fit p menv w.store fits fields vs)
      row_fits [] g k us vs h = ([], refl, tt)
      row_fits (x ∷ fields) g k us vs h =
          fit_part Deep (slice_get us x.slot) (slice_get vs x.slot) _ _ (get_is us vs x.slot h) (λ u v hu.
          fit_both Deep (pats x.node u) (fits x.node v) _ _ (good_part x.node g.0 (λ z e. k z (within_head (λ y. free p.nodes y.node) x fields z e)) u v hu) (λ inner bound hb.
          fit_both Deep (row_of p env s.memory pats fields us) (matching.fields_fit p menv w.store fits fields vs) _ _ (row_fits fields g.1 (λ z e. k z (within_tail (λ y. free p.nodes y.node) x fields z e)) us vs h) (λ more others hm. (bound ++ others, refl, bound_over p w inner more bound others hb hm))))

      int_fits : (n : ℤ) (u : Term) (v : Value) (o : Option Block) → Form p w s u v o → FitIs p w Deep (pat_of p env s.memory pats (node.PatInt n) u) (matching.fits_of p menv w.store fits (node.PatInt n) v)
      int_fits n u v o (f.number z) = if_fits Deep (int_eq n z) (int_eq n z) refl
      int_fits n u v o _ = refl

      char_fits : (n : ℕ) (u : Term) (v : Value) (o : Option Block) → Form p w s u v o → FitIs p w Deep (pat_of p env s.memory pats (node.PatChar n) u) (matching.fits_of p menv w.store fits (node.PatChar n) v)
      char_fits n u v o (f.letter c) = if_fits Deep (nat_eq n c) (nat_eq n c) refl
      char_fits n u v o _ = refl

      texts_fit : (x y z : Option (List ℕ)) → y ≡ z → FitIs p w Deep (of_part x (λ bytes. of_part y (λ others. fit_if (bytes_eq bytes others)))) (x >>= (λ bytes. z >>= (λ others. when (bytes_eq bytes others) [])))
      texts_fit None y z e = refl
      texts_fit (Some a) None None e = refl
      texts_fit (Some a) (Some b) (Some c) e =
          if_fits Deep (bytes_eq a b) (bytes_eq a c) (let same : b ≡ c = cc in ap (bytes_eq a) same)
      texts_fit (Some a) None (Some c) e = absurd cc
      texts_fit (Some a) (Some b) None e = absurd cc

      node_fits : (n : Node) → slice_get p.nodes q ≡ Some n → AllByRecursion Good (node_parts n) → IsWithin (free_of (binds p.nodes) (free p.nodes) n) xs → (u : Term) (v : Value) → Is p w u v → FitIs p w Deep (pat_of p env s.memory pats n u) (matching.fits_of p menv w.store fits n v)
      node_fits node.Wild e g k u v h = ([], refl, tt)
      node_fits (node.PatInt n) e g k u v h = int_fits n u v _ (form p w s holds u v h)
      node_fits (node.PatChar c) e g k u v h = char_fits c u v _ (form p w s holds u v h)
      node_fits (node.PatText n) e g k u v h = texts_fit (slice_get p.texts n) (text_of u) (bytes_of p w.store v) (text_is p w s u v (form p w s holds u v h))
      node_fits (node.PatVar x) e g k u v h = ((x.0, v) ∷ [], refl, (refl, h, tt))
      node_fits (node.PatCon c) e g k u v h =
          if_fits Deep (is_con env c u) (matching.is_con menv c v) (con_is c k u v h)
      node_fits (node.PatApp c r) e g k u v h =
          fit_part Deep (argument_of env s.memory c u) (matching.argument_of menv w.store c v) (pats r) (fits r) (argument_is c (λ z i. k z (within_left (exception_of c) (free p.nodes r) z i)) u v h) (good_part r g.0 (λ z i. k z (within_right (exception_of c) (free p.nodes r) z i)))
      node_fits (node.PatRecord fields) e g k u v h =
          fit_parts Deep (record_fields u) (fields_of w.store v) _ _ (fields_is p w s u v (form p w s holds u v h)) (row_fits fields g k)
      node_fits (node.PatTyped r ty) e g k u v h = good_part r g.0 k u v h
      node_fits (node.PatAs x r) e g k u v h =
          fit_both Deep (pats r u) (fits r v) _ _ (good_part r g.0 k u v h) (λ inner bound hb. ((x.0, v) ∷ bound, refl, (refl, h, hb)))
      node_fits _ e g k u v h = refl

    pub pat_fits : IsNumbered p.nodes → (d q : ℕ) → q ≤ length p.nodes → Parts d (pat p env s.memory d) (matching.fits p menv w.store) q
    pat_fits numbered zero q l k u v h = omega (arith, l)
    pat_fits numbered (suc d) q l k u v h =
        subst (FitIs p w (suc d + q ≤ length p.nodes) (pat p env s.memory (suc d) q u)) (sym (fits_unfold p menv w.store numbered q v)) (go (λ c i. pat_fits numbered d c i) (slice_get p.nodes q) refl)
      where
        parts : (cs : List ℕ) → AllByRecursion (λ c. (q < c) × (c < length p.nodes)) cs → ((c : ℕ) → c ≤ length p.nodes → Parts d (pat p env s.memory d) (matching.fits p menv w.store) c) → AllByRecursion (Good d q (pat p env s.memory d) (matching.fits p menv w.store)) cs
        parts [] a f = tt
        parts (c ∷ cs) a f = ((a.0.0, a.0.1, f c (omega (arith, a.0.1))), parts cs a.1 f)

        go : ((c : ℕ) → c ≤ length p.nodes → Parts d (pat p env s.memory d) (matching.fits p menv w.store) c) → (o : Option Node) → slice_get p.nodes q ≡ o → FitIs p w (suc d + q ≤ length p.nodes) (pat_at p env s.memory (pat p env s.memory d) o u) (at_node (λ v. None) (λ part i. matching.fits_of p menv w.store part) (matching.fits p menv w.store) q o v)
        go f None e = refl
        go f (Some n) e =
            node_fits d q (pat p env s.memory d) (matching.fits p menv w.store) n e (parts (node_parts n) (numbered q n e) f) (λ z i. k z (ap (λ ys. has ys z) (free_unfold p.nodes numbered q n e) ∙ i)) u v h

    -- ---- Matches

    rule_or : (deep d : Type 0) (x : Fit Env) (o : Option m.Env) (body : ℕ) (others : Fit (Env × ℕ)) (q : Option (m.Env × ℕ)) → (d → deep) → FitIs p w d x o → RuleIs p w deep others q → RuleIs p w deep (or_next p env s.memory x body others) (or_else o (λ bound. Some (bound, body)) q)
    rule_or deep d (Fits inner) o body others q k h g =
        (h.0, ap (λ n. or_else n (λ bound. Some (bound, body)) q) h.1, h.2)
    rule_or deep d Fails o body others q k h g =
        subst (λ n. RuleIs p w deep others (or_else n (λ bound. Some (bound, body)) q)) (sym h) g
    rule_or deep d TooDeep o body others q k h g = k h

    abbrev pub PatsIn : List Rule → Type 0
    PatsIn rules = AllByRecursion (λ x. (x.pat ≤ length p.nodes) × IsWithin (free p.nodes x.pat) xs) rules

    pub rules_fit : IsNumbered p.nodes → (d : ℕ) (rules : List Rule) → PatsIn rules → (u : Term) (v : Value) → Is p w u v → RuleIs p w (d ≤ length p.nodes) (first_rule p env s.memory (pat p env s.memory d) rules u) (matching.first_rule p menv w.store rules v)
    rules_fit numbered d [] k u v h = refl
    rules_fit numbered d (x ∷ rules) k u v h =
        rule_or (d ≤ length p.nodes) (d + x.pat ≤ length p.nodes) (pat p env s.memory d x.pat u) (matching.fits p menv w.store x.pat v) x.body (first_rule p env s.memory (pat p env s.memory d) rules u) (matching.first_rule p menv w.store rules v) (λ l. omega (arith, l)) (pat_fits numbered d x.pat k.0.0 k.0.1 u v h) (rules_fit numbered d rules k.1 u v h)
