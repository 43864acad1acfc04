-- What a value binds that fits a pattern has the types of the pattern's names.
use Rattle.std.proofs.Common.{◌≡◌, ℕ, zero, suc, true, false, List, [], ◌∷◌, ◌++◌, length, Option, Some, None, refl, sym, ap, ◌∙◌, subst, ◌⊎◌, inl, inr}
use Rattle.std.specs.Prelude.{IfSome, slice_get, nat_eq, cond, map}
use Rattle.std.specs.List.{AllByRecursion}
use Rattle.std.proofs.lemmas.Bool.{eqb-true, eq-eqb}
use Rattle.sml_tree.specs.declared.bare.Bare.{Bare}
use Rattle.sml_tree.specs.declared.bare.Node.{Node}
use Rattle.sml_tree.specs.declared.bare.Node.TheVariants as node
use Rattle.sml_tree.specs.declared.bare.Con.{Con}
use Rattle.sml_tree.specs.declared.bare.Con.TheVariants as con
use Rattle.sml_tree.specs.declared.bare.Field.{Field}
use Rattle.smlc_base.specs.declared.exception.LibraryExn.{LibraryExn}
use Rattle.sml_tree.specs.Sets.{has, union, union_over}
use Rattle.sml_tree.specs.BareParts.{IsNumbered, at_node, within}
use Rattle.sml_tree.specs.IsBare.{HasSorts}
use Rattle.sml_tree.specs.Free.{free, binds, binds_of, free_of, exception_of, free_fields}
use Rattle.sml_tree.proofs.Members.{IsWithin, within_left, within_right, has-union, either, or_left}
use Rattle.sml_tree.proofs.FreeParts.{free_unfold, binds_unfold}
use Rattle.sml_types.specs.declared.types.TyVar.{TyVar}
use Rattle.sml_types.specs.Tree.{Tree, App, Variable, FieldsHead, inst}
use Rattle.sml_types.specs.Poly.{Context, Poly, poly, IsInstance}
use Rattle.sml_types.specs.Library.{arrow, string_ty, exn_ty, ref_ty, ref_number, library_exn}
use Rattle.sml_types.specs.TypeExps.{IsRecord}
use Rattle.sml_types.specs.Typing.{Typing, IsTyping, IsTypedNode, HasConTy, IsDataPoly, takes_argument, fields_of, bound_in}
use Rattle.sml_def.specs.Maybe.{◌>>=◌, when}
use Rattle.sml_def.specs.State.{Value, Number, Letter, Nothing, Tag, Constant, Builtin, Maker, RefMaker, Library, At, Env, Block, Applied, Cell, Packet, look}
use Rattle.sml_def.specs.Match.{block_of, bytes_of, same_exn, packet_block, applied_block, cell_block, argument_of, is_con, fields_fit, fits_of, fits, first_rule}
use Rattle.sml_def.specs.Match as match
use Rattle.sml_sound.proofs.Rows.{Placed, placed_in}
use Rattle.sml_sound.specs.TypedStates.{Entry, Holds, Names, EntryTy, HasTy, HaveTys, IsName, IsCon, data_ty, HasScheme, EnvTy, IsApplied, BlockTy, StoreTy}
use Rattle.sml_sound.proofs.Families.{inst_parts, library_closed, instance_agrees}
use Rattle.sml_sound.proofs.Tables.{con_same, applied_arg, data_takes, library_con}
use Rattle.sml_sound.proofs.Grow.{store_get}
use Rattle.sml_sound.proofs.Values.{a_record, exn_con}
use Rattle.sml_sound.proofs.Names.{in_front, in_back, rule_at}
use Rattle.sml_sound.proofs.Environments.{look_front, look_back}
use Rattle.sml_def.proofs.Options.{bind_some, when_some, if_some}
use Rattle.sml_types.proofs.TreeFacts.{inst_inst}

-- what is bound: each item has the type of its name, which is one of those; and all of these are there
pub record Bound (p : Bare) (t : Typing) (sig : List Entry) (g : TyVar → Tree) (named all : List ℕ) (e : Env) : Type 0 where
  pub items : AllByRecursion (λ b. HasTy p t sig b.1 (inst g (t.schemes b.0).body) × (has named b.0 ≡ true)) e
  pub has_all : (x : ℕ) → has all x ≡ true → (v : Value) × (look e x ≡ Some v)

module _ (p : Bare) (t : Typing) (typing : IsTyping p t) (numbered : IsNumbered p.nodes) (sorts : AllByRecursion (HasSorts p.nodes) p.nodes) (sig : List Entry) (bs : List Block) (store : StoreTy p t sig sig bs) where
  -- the block of a value, with the entry that gives it its type
  pub block_has : (v : Value) (u : Tree) (b : Block) → HasTy p t sig v u → block_of bs v ≡ Some b → (e : Entry) × BlockTy p t sig b e × EntryTy p t e u
  block_has (At a) u b h g =
      let k = store_get p t sig sig bs a h.0 store h.1 in
      let same : k.0 ≡ b = (let d = k.1 in cc) in (h.0, subst (λ b. BlockTy p t sig b h.0) same k.2, h.2)
  block_has (Number z) u b h g = cc
  block_has (Letter c) u b h g = cc
  block_has Nothing u b h g = cc
  block_has (Tag k) u b h g = cc
  block_has (Constant c) u b h g = cc
  block_has (Builtin f) u b h g = cc
  block_has (Maker k) u b h g = cc
  block_has RefMaker u b h g = cc
  block_has (Library e) u b h g = cc

  -- what an entry says of each form of block
  pub applied_of : (k : ℕ) (w : Value) (u : Tree) (e : Entry) → BlockTy p t sig (Applied k w) e → EntryTy p t e u → IsApplied p t sig k w u
  applied_of k w u (Holds f) h i = h u i
  applied_of k w u _ h i = absurd h

  pub cell_of : (w : Value) (u a : Tree) (e : Entry) → BlockTy p t sig (Cell w) e → EntryTy p t e u → u ≡ ref_ty a → HasTy p t sig w a
  cell_of w u a (Holds f) h i e =
      let same : h.0 ≡ a = (let x = sym (h.1 u i) ∙ e in cc) in subst (HasTy p t sig w) same h.2
  cell_of w u a _ h i e = absurd h

  pub packet_of : (x w : Value) (u : Tree) (e : Entry) → BlockTy p t sig (Packet x w) e → EntryTy p t e u → (b : Tree) × IsName p t sig x (arrow b exn_ty) × HasTy p t sig w b
  packet_of x w u (Holds f) h i = (h.1, h.2, h.3)
  packet_of x w u _ h i = absurd h

  -- two exception names that are one have one argument
  library_arg : (e : LibraryExn) (c d : Tree) → arrow c d ≡ library_exn e → (library_exn e ≡ exn_ty) ⊎ (library_exn e ≡ arrow string_ty exn_ty) → c ≡ string_ty
  library_arg e c d h (inl q) = absurd (let x = h ∙ q in cc)
  library_arg e c d h (inr q) = let x = h ∙ q in cc

  pub same_names : (a : ℕ) (c d b : Tree) → HasTy p t sig (At a) (arrow c d) → slice_get sig a ≡ Some (Names (arrow b exn_ty)) → b ≡ c
  same_names a c d b h g =
      let e : h.0 ≡ Names (arrow b exn_ty) = (let x = h.1 in cc) in
      let q : arrow c d ≡ arrow b exn_ty = subst (λ e. EntryTy p t e (arrow c d)) e h.2 in cc

  same_arg : (x y : Value) (c d b : Tree) → HasTy p t sig x (arrow c d) → IsName p t sig y (arrow b exn_ty) → same_exn x y ≡ true → b ≡ c
  same_arg (At a) (At a2) c d b h k e =
      same_names a c d b h (ap (slice_get sig) (eqb-true a a2 e) ∙ k)
  same_arg (Library d1) (Library d2) c d b h k e =
      library_arg d2 b exn_ty k (exn_con d2) ∙ sym (library_arg d1 c d h (exn_con d1))
  same_arg _ _ c d b h k e = cc

  module _ (g : TyVar → Tree) (xs : List ℕ) (env : Env) (known : EnvTy p t sig g xs env) where
    -- the value of an exception constructor
    pub exn_value : (c : Context) (x : ℕ) (u : Tree) (v : Value) → has xs x ≡ true → IsInstance t.names (t.schemes x) u → look env x ≡ Some v → HasTy p t sig v (inst g u)
    exn_value c x u v m i e =
        let k = known.1 x m in
        let same : k.0 ≡ v = (let d = k.1 in cc) in
        subst (HasTy p t sig v) (sym (ap (inst g) i.is ∙ inst_inst g i.at (t.schemes x).body))
        (subst (λ v. HasScheme p t sig g x v) same k.2 (λ w. inst g (i.at w)) (instance_agrees t.names (t.schemes x) u i g known.0))

    -- what a constructor is applied to
    pub argument_ty : (c : Context) (k : Con) (a u : Tree) (v : Value) → HasConTy p t c k (arrow a u) → takes_argument k ≡ true → IsWithin (exception_of k) xs → HasTy p t sig v (inst g u) → IfSome (argument_of env bs k v) (λ w. HasTy p t sig w (inst g a))
    argument_ty c (con.Data n k takes) a u v h q m hv = go (block_of bs v) refl
      where
        d : (ps : List TyVar) × (b : Tree) × IsCon p t n k ps (Some b) × (h.0 ≡ poly ps (arrow b (data_ty p t n ps)))
        d = data_takes p t n k h.0 (subst (λ q. IsDataPoly p t n k q h.0) q h.1)

        eq : arrow a u ≡ inst h.2.at (arrow d.1 (data_ty p t n d.0))
        eq = h.2.is ∙ ap (λ (s : Poly). inst h.2.at s.body) d.3

        go : (o : Option Block) → block_of bs v ≡ o → IfSome (applied_block k o) (λ w. HasTy p t sig w (inst g a))
        go (Some (Applied m w)) e =
            when_some (λ w. HasTy p t sig w (inst g a)) (nat_eq k m) w (λ same.
            let b = block_has v (inst g u) (Applied m w) hv e in
            let here = subst (λ m. IsApplied p t sig m w (inst g u)) (sym (eqb-true k m same)) (applied_of m w (inst g u) b.0 b.1 b.2) in
            let ea : a ≡ inst h.2.at d.1 = (let x = eq in cc) in
            let eu : u ≡ inst h.2.at (data_ty p t n d.0) = (let x = eq in cc) in
            subst (HasTy p t sig w) (sym (ap (inst g) ea ∙ inst_inst g h.2.at d.1))
            (applied_arg p t sig k n d.0 d.1 (inst g u) (λ v. inst g (h.2.at v)) w here d.2 (ap (inst g) eu ∙ inst_inst g h.2.at (data_ty p t n d.0))))
        go None e = tt
        go (Some _) e = tt
    argument_ty c con.Ref a u v h q m hv = go (block_of bs v) refl
      where
        d : (ps : List TyVar) × (b : Tree) × IsCon p t ref_number 0 ps (Some b) × (h.0 ≡ poly ps (arrow b (data_ty p t ref_number ps)))
        d = data_takes p t ref_number 0 h.0 h.1

        eq : arrow a u ≡ inst h.2.at (arrow d.1 (data_ty p t ref_number d.0))
        eq = h.2.is ∙ ap (λ (s : Poly). inst h.2.at s.body) d.3

        row : (d.0 ≡ typing.library.param ∷ []) × (Some d.1 ≡ Some (Variable typing.library.param))
        row = con_same p t ref_number 0 d.0 (typing.library.param ∷ []) (Some d.1) (Some (Variable typing.library.param)) d.2 (library_con p t typing.library 8 0 _ _ refl refl)

        arg_is : d.1 ≡ Variable typing.library.param
        arg_is = let x = row.1 in cc

        ref_is : u ≡ ref_ty a
        ref_is =
            let ea : a ≡ inst h.2.at d.1 = (let x = eq in cc) in
            let eu : u ≡ inst h.2.at (data_ty p t ref_number d.0) = (let x = eq in cc) in
            eu ∙ ap (λ ps. inst h.2.at (data_ty p t ref_number ps)) row.0 ∙ ap ref_ty (sym (ea ∙ ap (inst h.2.at) arg_is))

        go : (o : Option Block) → block_of bs v ≡ o → IfSome (cell_block o) (λ w. HasTy p t sig w (inst g a))
        go (Some (Cell w)) e =
            let b = block_has v (inst g u) (Cell w) hv e in cell_of w (inst g u) (inst g a) b.0 b.1 b.2 (ap (inst g) ref_is)
        go None e = tt
        go (Some _) e = tt
    argument_ty c (con.Exn x takes) a u v h q m hv =
        bind_some (λ w. HasTy p t sig w (inst g a)) (look env x.0) _ (λ name en. go name (exn_value c x.0 (arrow a u) name (m x.0 (or_left (nat_eq x.0 x.0) false (eq-eqb x.0 x.0 refl))) (subst (λ s. IsInstance t.names s (arrow a u)) h.1.1 h.2) en) (block_of bs v) refl)
      where
        go : (name : Value) → HasTy p t sig name (arrow (inst g a) (inst g u)) → (o : Option Block) → block_of bs v ≡ o → IfSome (packet_block o >>= λ packet. when (same_exn name packet.0) packet.1) (λ w. HasTy p t sig w (inst g a))
        go name hn (Some (Packet y w)) e =
            when_some (λ w. HasTy p t sig w (inst g a)) (same_exn name y) w (λ same.
            let b = block_has v (inst g u) (Packet y w) hv e in
            let k = packet_of y w (inst g u) b.0 b.1 b.2 in
            subst (HasTy p t sig w) (same_arg name y (inst g a) (inst g u) k.0 hn k.1 same) k.2)
        go name hn None e = tt
        go name hn (Some _) e = tt
    argument_ty c (con.Library l) a u v h q m hv = go (block_of bs v) refl
      where
        hn : HasTy p t sig (Library l) (arrow (inst g a) (inst g u))
        hn =
            ap (inst g) (h.2.is ∙ ap (λ (s : Poly). inst h.2.at s.body) h.1 ∙ library_closed h.2.at l) ∙ library_closed g l

        go : (o : Option Block) → block_of bs v ≡ o → IfSome (packet_block o >>= λ packet. when (same_exn (Library l) packet.0) packet.1) (λ w. HasTy p t sig w (inst g a))
        go (Some (Packet y w)) e =
            when_some (λ w. HasTy p t sig w (inst g a)) (same_exn (Library l) y) w (λ same.
            let b = block_has v (inst g u) (Packet y w) hv e in
            let k = packet_of y w (inst g u) b.0 b.1 b.2 in
            subst (HasTy p t sig w) (same_arg (Library l) y (inst g a) (inst g u) k.0 hn k.1 same) k.2)
        go None e = tt
        go (Some _) e = tt

    abbrev Bind : List ℕ → List ℕ → Env → Type 0
    Bind named all e = Bound p t sig g named all e

    bound_none : (named all : List ℕ) → all ≡ [] → Bind named all []
    bound_none named all e = record { items = tt; has_all = λ x m. let k = sym (ap (λ xs. has xs x) e) ∙ m in cc }

    items_more : (ns ms : List ℕ) → IsWithin ns ms → (e : Env) → AllByRecursion (λ b. HasTy p t sig b.1 (inst g (t.schemes b.0).body) × (has ns b.0 ≡ true)) e → AllByRecursion (λ b. HasTy p t sig b.1 (inst g (t.schemes b.0).body) × (has ms b.0 ≡ true)) e
    items_more ns ms w [] h = tt
    items_more ns ms w (b ∷ e) h = ((h.0.0, w b.0 h.0.1), items_more ns ms w e h.1)

    all_append : {A : Type 0} (P : A → Type 0) (xs ys : List A) → AllByRecursion P xs → AllByRecursion P ys → AllByRecursion P (xs ++ ys)
    all_append P [] ys h k = k
    all_append P (x ∷ xs) ys h k = (h.0, all_append P xs ys h.1 k)

    bound_join : (ns ms xs ys : List ℕ) (e r : Env) → Bind ns xs e → Bind ms ys r → Bind (ns ++ ms) (union xs ys) (e ++ r)
    bound_join ns ms xs ys e r h k = record {
      items = all_append (λ b. HasTy p t sig b.1 (inst g (t.schemes b.0).body) × (has (ns ++ ms) b.0 ≡ true)) e r (items_more ns (ns ++ ms) (λ z m. in_front ns ms z m) e h.items) (items_more ms (ns ++ ms) (λ z m. in_back ns ms z m) r k.items);
      has_all = λ x m. either (has xs x) (has ys x) ((v : Value) × (look (e ++ r) x ≡ Some v)) (sym (has-union xs ys x) ∙ m) (λ a. let v = h.has_all x a in (v.0, look_front e r x v.0 v.1)) (λ a. let v = k.has_all x a in go x v.0 v.1 (look e x) refl);
    }
      where
        go : (x : ℕ) (v : Value) → look r x ≡ Some v → (o : Option Value) → look e x ≡ o → (v : Value) × (look (e ++ r) x ≡ Some v)
        go x v q (Some w) i = (w, look_front e r x w i)
        go x v q None i = (v, look_back e r x i ∙ q)

    abbrev FitsTy : (ℕ → Value → Option Env) → Type 0
    FitsTy part = (i : ℕ) (v : Value) → IsWithin (free p.nodes i) xs → HasTy p t sig v (inst g (t.types i)) → IfSome (part i v) (Bind (t.binds i) (binds p.nodes i))

    pub have_at : (vs : List Value) (us : List Tree) (k : ℕ) (v : Value) (u : Tree) → HaveTys p t sig vs us → slice_get vs k ≡ Some v → slice_get us k ≡ Some u → HasTy p t sig v u
    have_at [] us k v u h e d = cc
    have_at (w ∷ vs) [] k v u h e d = absurd h
    have_at (w ∷ vs) (x ∷ us) zero v u h e d =
        let a : w ≡ v = cc in let b : x ≡ u = cc in subst (λ w. HasTy p t sig w u) a (subst (HasTy p t sig w) b h.0)
    have_at (w ∷ vs) (x ∷ us) (suc k) v u h e d = have_at vs us k v u h.1 e d

    fields_ty : (part : ℕ → Value → Option Env) → FitsTy part → (fields : List Field) (vs : List Value) (us : List Tree) → HaveTys p t sig vs us → Placed p t sig g us fields → IsWithin (free_fields (free p.nodes) fields) xs → IfSome (fields_fit p env bs part fields vs) (Bind (bound_in p t fields) (union_over (λ f. binds p.nodes f.node) fields))
    fields_ty part f [] vs us h q w = bound_none [] [] refl
    fields_ty part f (x ∷ fields) vs us h q w =
        let B = Bind (bound_in p t (x ∷ fields)) (union_over (λ f. binds p.nodes f.node) (x ∷ fields)) in
        bind_some B (slice_get vs x.slot) _ (λ v ev. bind_some B (part x.node v) _ (λ e he. bind_some B (fields_fit p env bs part fields vs) _ (λ r hr.
        bound_join (t.binds x.node) (bound_in p t fields) (binds p.nodes x.node) (union_over (λ f. binds p.nodes f.node) fields) e r
        (if_some (Bind (t.binds x.node) (binds p.nodes x.node)) (part x.node v) e he (f x.node v (λ z m. w z (within_left (free p.nodes x.node) (free_fields (free p.nodes) fields) z m)) (have_at vs us x.slot v (inst g (t.types x.node)) h ev q.0)))
        (if_some (Bind (bound_in p t fields) (union_over (λ f. binds p.nodes f.node) fields)) (fields_fit p env bs part fields vs) r hr (fields_ty part f fields vs us h q.1 (λ z m. w z (within_right (free p.nodes x.node) (free_fields (free p.nodes) fields) z m)))))))

    record_fit : (part : ℕ → Value → Option Env) → FitsTy part → (fields : List Field) (ty : Tree) (v : Value) → IsRecord (fields_of p t fields) ty → HasTy p t sig v (inst g ty) → IsWithin (free_fields (free p.nodes) fields) xs → IfSome (match.fields_of bs v >>= fields_fit p env bs part fields) (Bind (bound_in p t fields) (union_over (λ f. binds p.nodes f.node) fields))
    record_fit part f fields ty v r h w =
        let us = map (inst g) r.types in
        let k = a_record p t typing sig bs store r.labs us v (subst (HasTy p t sig v) (ap (inst g) r.is ∙ ap (App (FieldsHead r.labs)) (inst_parts g r.types)) h) in
        bind_some (Bind (bound_in p t fields) (union_over (λ f. binds p.nodes f.node) fields)) (match.fields_of bs v) _ (λ vs e.
        let same : k.0 ≡ vs = (let d = k.1 in cc) in
        fields_ty part f fields vs us (subst (λ vs. HaveTys p t sig vs us) same k.2) (placed_in p t sig g r.labs r.types fields r.placed) w)

    one_bound : (named all : List ℕ) (x : ℕ) (v : Value) → HasTy p t sig v (inst g (t.schemes x).body) → named ≡ x ∷ [] → all ≡ x ∷ [] → Bind named all ((x, v) ∷ [])
    one_bound named all x v h en ea = record {
      items = ((h, ap (λ ys. has ys x) en ∙ or_left (nat_eq x x) false (eq-eqb x x refl)), tt);
      has_all = λ y m. either (nat_eq y x) false ((w : Value) × (look ((x, v) ∷ []) y ≡ Some w)) (sym (ap (λ ys. has ys y) ea) ∙ m) (λ a. (v, ap (λ q. cond q (Some v) None) a)) (λ a. cc);
    }

    bound_is : (ns ms xs ys : List ℕ) (e : Env) → ns ≡ ms → xs ≡ ys → Bind ms ys e → Bind ns xs e
    bound_is ns ms xs ys e q r h = subst (λ z. Bind z xs e) (sym q) (subst (λ z. Bind ms z e) (sym r) h)

    node_fits : (part : ℕ → Value → Option Env) → FitsTy part → (c : Context) (ty : Tree) (named all : List ℕ) (q : Node) → all ≡ binds_of (binds p.nodes) q → IsWithin (free_of (binds p.nodes) (free p.nodes) q) xs → IsTypedNode p t c ty named q → (v : Value) → HasTy p t sig v (inst g ty) → IfSome (fits_of p env bs part q v) (Bind named all)
    node_fits part f c ty named all node.Wild e w r v h = bound_none named all e
    node_fits part f c ty named all (node.PatInt m) e w r (Number k) h = when_some (Bind named all) _ [] (λ x. bound_none named all e)
    node_fits part f c ty named all (node.PatChar m) e w r (Letter k) h = when_some (Bind named all) _ [] (λ x. bound_none named all e)
    node_fits part f c ty named all (node.PatText m) e w r v h =
        bind_some (Bind named all) (slice_get p.texts m) _ (λ ys a. bind_some (Bind named all) (bytes_of p bs v) _ (λ zs b. when_some (Bind named all) _ [] (λ x. bound_none named all e)))
    node_fits part f c ty named all (node.PatVar x) e w r v h =
        one_bound named all x.0 v (subst (λ u. HasTy p t sig v (inst g u)) (sym r.0) h) r.1 e
    node_fits part f c ty named all (node.PatCon k) e w r v h = when_some (Bind named all) _ [] (λ x. bound_none named all e)
    node_fits part f c ty named all (node.PatApp k q) e w r v h =
        bind_some (Bind named all) (argument_of env bs k v) (part q) (λ u eu.
        bound_of (part q u) (f q u (λ z m. w z (within_right (exception_of k) (free p.nodes q) z m)) (subst (λ x. HasTy p t sig u (inst g x)) (sym r.3.1) (if_some (λ w. HasTy p t sig w (inst g r.0)) (argument_of env bs k v) u eu (argument_ty c k r.0 ty v r.1 r.2 (λ z m. w z (within_left (exception_of k) (free p.nodes q) z m)) h)))))
      where
        bound_of : (o : Option Env) → IfSome o (Bind (t.binds q) (binds p.nodes q)) → IfSome o (Bind named all)
        bound_of None k = tt
        bound_of (Some b) k = bound_is named (t.binds q) all (binds p.nodes q) b r.4 e k
    node_fits part f c ty named all (node.PatRecord fields) e w r v h =
        bound_of (match.fields_of bs v >>= fields_fit p env bs part fields) (record_fit part f fields ty v r.0.1 h w)
      where
        bound_of : (o : Option Env) → IfSome o (Bind (bound_in p t fields) (union_over (λ f. binds p.nodes f.node) fields)) → IfSome o (Bind named all)
        bound_of None k = tt
        bound_of (Some b) k = bound_is named (bound_in p t fields) all (union_over (λ f. binds p.nodes f.node) fields) b r.1 e k
    node_fits part f c ty named all (node.PatTyped q j) e w r v h =
        bound_of (part q v) (f q v w (subst (λ u. HasTy p t sig v (inst g u)) (sym r.0.1) h))
      where
        bound_of : (o : Option Env) → IfSome o (Bind (t.binds q) (binds p.nodes q)) → IfSome o (Bind named all)
        bound_of None k = tt
        bound_of (Some b) k = bound_is named (t.binds q) all (binds p.nodes q) b r.2 e k
    node_fits part f c ty named all (node.PatAs x q) e w r v h =
        bind_some (Bind named all) (part q v) _ (λ b eb.
        bound_is named (x.0 ∷ t.binds q) all (union (x.0 ∷ []) (binds p.nodes q)) ((x.0, v) ∷ b) r.2 e
        (bound_join (x.0 ∷ []) (t.binds q) (x.0 ∷ []) (binds p.nodes q) ((x.0, v) ∷ []) b
        (one_bound (x.0 ∷ []) (x.0 ∷ []) x.0 v (subst (λ u. HasTy p t sig v (inst g u)) (sym r.0) h) refl refl)
        (if_some (Bind (t.binds q) (binds p.nodes q)) (part q v) b eb (f q v w (subst (λ u. HasTy p t sig v (inst g u)) (sym r.1.1) h)))))
    node_fits part f c ty named all _ e w r v h = tt

    at_fits : (part : ℕ → Value → Option Env) → FitsTy part → (i : ℕ) (o : Option Node) → slice_get p.nodes i ≡ o → (v : Value) → IsWithin (free p.nodes i) xs → HasTy p t sig v (inst g (t.types i)) → IfSome (at_node (λ v. None) (λ part i. fits_of p env bs part) part i o v) (Bind (t.binds i) (binds p.nodes i))
    at_fits part f i None e v w h = tt
    at_fits part f i (Some q) e v w h =
        node_fits part f (t.contexts i) (t.types i) (t.binds i) (binds p.nodes i) q (binds_unfold p.nodes numbered i q e) (subst (λ ys. IsWithin ys xs) (free_unfold p.nodes numbered i q e) w) (rule_at p t typing numbered sorts i q e) v h

    within_fits : (k : ℕ) → FitsTy (within (λ v. None) (λ part i. fits_of p env bs part) k p.nodes)
    within_fits zero i v w h = tt
    within_fits (suc k) i v w h =
        at_fits (within (λ v. None) (λ part i. fits_of p env bs part) k p.nodes) (within_fits k) i (slice_get p.nodes i) refl v w h

    -- what a value binds that fits a pattern
    pub fits_ty : (i : ℕ) (v : Value) (e : Env) → fits p env bs i v ≡ Some e → IsWithin (free p.nodes i) xs → HasTy p t sig v (inst g (t.types i)) → Bind (t.binds i) (binds p.nodes i) e
    fits_ty i v e he w h =
        if_some (Bind (t.binds i) (binds p.nodes i)) (fits p env bs i v) e he (within_fits (length p.nodes) i v w h)
