-- A value of a pattern's type has the pattern's shape.
use Rattle.std.proofs.Common.{◌≡◌, ℕ, zero, suc, ◌+◌, ◌<◌, ◌≤◌, Bool, true, false, not, List, [], ◌∷◌, length, Option, Some, None, refl, sym, ap, ◌∙◌, subst, arith, map}
use Rattle.std.proofs.lemmas.Bool.{eqb-true}
use Rattle.std.proofs.lemmas.Option.{slice_get_past}
use Rattle.std.specs.Prelude.{slice_get, nat_eq, ◌&&◌}
use Rattle.std.specs.List.{AllByRecursion}
use Rattle.std.specs.Option.{option_map}
use Rattle.sml_tree.specs.declared.bare.Bare.{Bare}
use Rattle.sml_tree.specs.declared.bare.Node.{Node}
use Rattle.sml_tree.specs.declared.bare.Node.TheVariants as node
use Rattle.sml_tree.specs.declared.bare.Con.{Con}
use Rattle.sml_tree.specs.declared.bare.Con.TheVariants as con
use Rattle.sml_tree.specs.declared.bare.Field.{Field}
use Rattle.sml_tree.specs.BareParts.{IsNumbered, at_node, within, node_parts}
use Rattle.sml_tree.specs.IsBare.{HasSorts, IsOf, Pattern, sort_of}
use Rattle.sml_tree.specs.Free.{free, binds, free_of, exception_of, free_fields}
use Rattle.sml_tree.proofs.Members.{IsWithin, within_left, within_right}
use Rattle.sml_tree.proofs.FreeParts.{free_unfold}
use Rattle.sml_types.specs.declared.types.TyVar.{TyVar}
use Rattle.sml_types.specs.Tree.{Tree, App, Variable, FieldsHead, inst}
use Rattle.sml_types.specs.Poly.{Context, Poly, poly}
use Rattle.sml_types.specs.Library.{arrow, ref_ty, ref_number, NameType, library}
use Rattle.sml_types.specs.Typing.{Typing, IsTyping, IsTypedNode, HasConTy, IsDataPoly, takes_argument}
use Rattle.sml_def.specs.Maybe.{◌>>=◌, when, or_else}
use Rattle.sml_def.specs.State.{Value, Number, Letter, Nothing, Constant, Builtin, Tag, Library, At, Env, Address, Block, Tuple, Applied, Text, Cell, ExnName, Packet, Closure, Frame, Pending, look}
use Rattle.sml_def.specs.Match.{block_of, same_exn, packet_block, applied_block, cell_block, argument_of, is_con}
use Rattle.sml_def.proofs.Options.{if_some}
use Rattle.sml_def.proofs.Effects.{all_get}
use Rattle.sml_types.proofs.TreeFacts.{inst_inst}
use Rattle.prim_meaning.specs.Tests.{name_wanted, same_names, has_number, is_packet_of, is_wanted}
use Rattle.sml_def.specs.Builtin.{see_text, see_block, see_builtin, see, which}
use Rattle.smlc_base.specs.declared.primitive.Primitive.{Primitive}
use Rattle.smlc_base.specs.declared.primitive.Primitive.TheVariants as prim
use Rattle.match_laws.specs.Shape.{is_number, is_letter, same_bool, con_holds, shaped_argument, shaped_fields, shaped_of, shaped}
use Rattle.sml_sound.specs.TypedStates.{Entry, HasTy, HaveTys, IsCon, data_ty, EnvTy, IsApplied, StoreTy}
use Rattle.sml_sound.proofs.Families.{inst_parts}
use Rattle.sml_sound.proofs.Matching.{block_has, applied_of, argument_ty}
use Rattle.sml_sound.proofs.Names.{rule_at}
use Rattle.sml_sound.proofs.Rows.{Placed, placed_in}
use Rattle.sml_sound.proofs.Tables.{con_same, data_takes, data_plain, same_data, library_con, library_has}
use Rattle.sml_sound.proofs.Values.{an_int, a_char, a_record, a_ref}

same_refl : (a b : Bool) → a ≡ b → same_bool a b ≡ true
same_refl true b e = sym e
same_refl false true e = cc
same_refl false false e = refl

pub not_false : (b : Bool) → b ≡ false → not b ≡ true
not_false true e = cc
not_false false e = refl

pub and_both : (a b : Bool) → a ≡ true → b ≡ true → (a && b) ≡ true
and_both true b e f = f
and_both false b e f = cc

pub off : (a b : ℕ) (t : Bool) → nat_eq a b ≡ t → (a ≡ b → ⊥) → t ≡ false
off a b true e h = absurd (h (eqb-true a b e))
off a b false e h = refl

module _ (p : Bare) (t : Typing) (typing : IsTyping p t) (numbered : IsNumbered p.nodes) (sorts : AllByRecursion (HasSorts p.nodes) p.nodes) (sig : List Entry) (bs : List Block) (store : StoreTy p t sig sig bs) where
  -- ---- Data

  module _ (g : TyVar → Tree) (xs : List ℕ) (env : Env) (known : EnvTy p t sig g xs env) where
    abbrev Argument : (Value → Bool) → Bool → Option Value → Type 0
    Argument part head o = shaped_argument p env bs part head o ≡ true

    when_argument : (part : Value → Bool) (b : Bool) (w : Value) → (b ≡ true → part w ≡ true) → Argument part b (when b w)
    when_argument part true w h = h refl
    when_argument part false w h = refl

    -- two names are one by what they are, wherever they stand
    pub names_same : (x y : Value) → same_exn x y ≡ same_names (which x) (which y)
    names_same (At a) (At b) = refl
    names_same (Library d) (Library e) = refl
    names_same (At a) (Library e) = refl
    names_same (Library d) (At b) = refl
    names_same (At a) _ = refl
    names_same (Library d) _ = refl
    names_same _ y = refl

    exn_applied : (part : Value → Bool) (name v : Value) → ((w : Value) → (packet_block (block_of bs v) >>= (λ packet. when (same_exn name packet.0) packet.1)) ≡ Some w → part w ≡ true) → Argument part (is_packet_of (see p.texts bs) which (which name) (see p.texts bs v)) (packet_block (block_of bs v) >>= (λ packet. when (same_exn name packet.0) packet.1))
    exn_applied part name (At a) h = go (slice_get bs a) h
      where
        go : (o : Option Block) → ((w : Value) → (packet_block o >>= (λ packet. when (same_exn name packet.0) packet.1)) ≡ Some w → part w ≡ true) → Argument part (is_packet_of (see p.texts bs) which (which name) (see_block a o)) (packet_block o >>= (λ packet. when (same_exn name packet.0) packet.1))
        go None h = refl
        go (Some (Packet x u)) h =
            subst (λ b. Argument part b (when (same_exn name x) u)) (names_same name x) (when_argument part (same_exn name x) u (λ e. h u (ap (λ b. when b u) e)))
        go (Some (Tuple vs)) h = refl
        go (Some (Applied n u)) h = refl
        go (Some (Text cs)) h = refl
        go (Some (Cell u)) h = refl
        go (Some (ExnName x)) h = refl
        go (Some (Closure i rules env)) h = refl
        go (Some (Frame w next)) h = refl
        go (Some (Pending u w next)) h = refl
    exn_applied part name (Constant n) h = go (slice_get p.texts n)
      where
        go : (o : Option (List ℕ)) → Argument part (is_packet_of (see p.texts bs) which (which name) (see_text o)) None
        go None = refl
        go (Some cs) = refl
    exn_applied part name (Builtin f) h = go f
      where
        go : (f : Primitive) → Argument part (is_packet_of (see p.texts bs) which (which name) (see_builtin f)) None
        go prim.StdIn = refl
        go _ = refl
    exn_applied part name _ h = refl

    -- a constructor without argument isn't applied, and one with an argument is no tag
    pub plain_data : (n k : ℕ) (ps : List TyVar) (u : Tree) (f : TyVar → Tree) (w : Value) → IsCon p t n k ps None → u ≡ inst f (data_ty p t n ps) → IsApplied p t sig k w u → ⊥
    plain_data n k ps u f w c e h =
        let m = h.0 in
        let r = same_data p t k n m.name ps m.params None (Some m.arg) f h.1 c h.2.is_con (sym e ∙ h.3) in
        let x = r.0 in cc

    pub taking_tag : (n k : ℕ) (ps : List TyVar) (a u : Tree) (f : TyVar → Tree) → IsCon p t n k ps (Some a) → u ≡ inst f (data_ty p t n ps) → HasTy p t sig (Tag k) u → ⊥
    taking_tag n k ps a u f c e h =
        let r = same_data p t k n h.0 ps h.1 (Some a) None f h.2 c h.3 (sym e ∙ h.4) in
        let x = r.0 in cc

    pub applied_at : (a k : ℕ) (w : Value) (u : Tree) → HasTy p t sig (At a) u → slice_get bs a ≡ Some (Applied k w) → IsApplied p t sig k w u
    applied_at a k w u h e =
        let b = block_has p t typing numbered sorts sig bs store (At a) u (Applied k w) h e in
        applied_of p t typing numbered sorts sig bs store k w u b.0 b.1 b.2

    -- ints, characters and the standard input have no constructors
    pub no_scalar : (b n k : ℕ) (ps : List TyVar) (a : Option Tree) (r : NameType) → slice_get (library typing.library.param) b ≡ Some r → r.cons ≡ [] → IsCon p t n k ps a → b ≡ n → ⊥
    no_scalar b n k ps a r e empty c same =
        let x = library_has p t typing.library b k r ps a e (subst (λ n. IsCon p t n k ps a) (sym same) c) in
        let none : None ≡ Some x.0 = sym (ap (λ cs. slice_get cs k) empty) ∙ x.1 in
        cc

    -- ---- Constructors

    con_plain : (c : Context) (k : Con) (ty : Tree) (v : Value) → HasConTy p t c k ty → takes_argument k ≡ false → HasTy p t sig v (inst g ty) → is_con env k v ≡ con_holds p env bs false k v
    con_plain c (con.Data n k takes) ty v h q hv = by v hv
      where
        d : (ps : List TyVar) × IsCon p t n k ps None × (h.0 ≡ poly ps (data_ty p t n ps))
        d = data_plain p t n k h.0 (subst (λ q. IsDataPoly p t n k q h.0) q h.1)

        eu : inst g ty ≡ inst (λ v. inst g (h.2.at v)) (data_ty p t n d.0)
        eu = ap (inst g) (h.2.is ∙ ap (λ (s : Poly). inst h.2.at s.body) d.2) ∙ inst_inst g h.2.at (data_ty p t n d.0)

        by_block : (a : ℕ) → HasTy p t sig (At a) (inst g ty) → (o : Option Block) → slice_get bs a ≡ o → false ≡ has_number k (see_block a o)
        by_block a hv None e = refl
        by_block a hv (Some (Applied j w)) e =
            sym (off k j (nat_eq k j) refl (λ same. plain_data n k d.0 (inst g ty) (λ v. inst g (h.2.at v)) w d.1 eu (subst (λ j. IsApplied p t sig j w (inst g ty)) (sym same) (applied_at a j w (inst g ty) hv e))))
        by_block a hv (Some _) e = refl

        by : (v : Value) → HasTy p t sig v (inst g ty) → is_con env (con.Data n k takes) v ≡ con_holds p env bs false (con.Data n k takes) v
        by (Tag j) hv = refl
        by (At a) hv = by_block a hv (slice_get bs a) refl
        by (Number z) hv = absurd (no_scalar 0 n k d.0 None _ refl refl d.1 (let f = eu in let g = hv in cc))
        by (Letter z) hv = absurd (no_scalar 1 n k d.0 None _ refl refl d.1 (let f = eu in let g = hv in cc))
        by Nothing hv = absurd (let f = eu in let g = hv in cc)
        by (Constant z) hv = text (slice_get p.texts z)
          where
            text : (o : Option (List ℕ)) → false ≡ has_number k (see_text o)
            text None = refl
            text (Some cs) = refl
        by (Builtin f) hv = input f hv
          where
            input : (f : Primitive) → HasTy p t sig (Builtin f) (inst g ty) → false ≡ has_number k (see_builtin f)
            input prim.StdIn hv = absurd (no_scalar 9 n k d.0 None _ refl refl d.1 (let f = eu in let g = hv.1 in cc))
            input _ hv = refl
        by _ hv = refl
    con_plain c con.Ref ty v h q hv = cc
    con_plain c (con.Exn x takes) ty v h q hv = named (look env x.0)
      where
        named : (o : Option Value) → or_else o (λ name. same_exn name v) false ≡ is_wanted (see p.texts bs) which (name_wanted false o) v
        named None = refl
        named (Some name) = names_same name v
    con_plain c (con.Library l) ty v h q hv = names_same (Library l) v

    con_applied : (part : Value → Bool) (c : Context) (k : Con) (a ty : Tree) (v : Value) → HasConTy p t c k (arrow a ty) → takes_argument k ≡ true → HasTy p t sig v (inst g ty) → ((w : Value) → argument_of env bs k v ≡ Some w → part w ≡ true) → Argument part (con_holds p env bs true k v) (argument_of env bs k v)
    con_applied part c (con.Data n k takes) a ty v h q hv hw = by v hv hw
      where
        d : (ps : List TyVar) × (b : Tree) × IsCon p t n k ps (Some b) × (h.0 ≡ poly ps (arrow b (data_ty p t n ps)))
        d = data_takes p t n k h.0 (subst (λ q. IsDataPoly p t n k q h.0) q h.1)

        ety : ty ≡ inst h.2.at (data_ty p t n d.0)
        ety = let x : arrow a ty ≡ inst h.2.at (arrow d.1 (data_ty p t n d.0)) = h.2.is ∙ ap (λ (s : Poly). inst h.2.at s.body) d.3 in cc

        eu : inst g ty ≡ inst (λ v. inst g (h.2.at v)) (data_ty p t n d.0)
        eu = ap (inst g) ety ∙ inst_inst g h.2.at (data_ty p t n d.0)

        by_block : (a : Address) (o : Option Block) → ((w : Value) → applied_block k o ≡ Some w → part w ≡ true) → Argument part (has_number k (see_block a o)) (applied_block k o)
        by_block a None hw = refl
        by_block a (Some (Applied j w)) hw = when_argument part (nat_eq k j) w (λ e. hw w (ap (λ b. when b w) e))
        by_block a (Some _) hw = refl

        by : (v : Value) → HasTy p t sig v (inst g ty) → ((w : Value) → argument_of env bs (con.Data n k takes) v ≡ Some w → part w ≡ true) → Argument part (con_holds p env bs true (con.Data n k takes) v) (argument_of env bs (con.Data n k takes) v)
        by (Tag j) hv hw =
            not_false (nat_eq k j) (off k j (nat_eq k j) refl (λ same. taking_tag n k d.0 d.1 (inst g ty) (λ v. inst g (h.2.at v)) d.2 eu (subst (λ j. HasTy p t sig (Tag j) (inst g ty)) (sym same) hv)))
        by (At a) hv hw = by_block a (slice_get bs a) hw
        by (Number z) hv hw = absurd (no_scalar 0 n k d.0 (Some d.1) _ refl refl d.2 (let f = eu in let g = hv in cc))
        by (Letter z) hv hw = absurd (no_scalar 1 n k d.0 (Some d.1) _ refl refl d.2 (let f = eu in let g = hv in cc))
        by Nothing hv hw = absurd (let f = eu in let g = hv in cc)
        by (Constant z) hv hw = text (slice_get p.texts z)
          where
            text : (o : Option (List ℕ)) → Argument part (has_number k (see_text o)) None
            text None = refl
            text (Some cs) = refl
        by (Builtin f) hv hw = input f hv
          where
            input : (f : Primitive) → HasTy p t sig (Builtin f) (inst g ty) → Argument part (has_number k (see_builtin f)) None
            input prim.StdIn hv = absurd (no_scalar 9 n k d.0 (Some d.1) _ refl refl d.2 (let f = eu in let g = hv.1 in cc))
            input _ hv = refl
        by _ hv hw = refl
    con_applied part c con.Ref a ty v h q hv hw = go (cell_block (block_of bs v)) is_cell hw
      where
        d : (ps : List TyVar) × (b : Tree) × IsCon p t ref_number 0 ps (Some b) × (h.0 ≡ poly ps (arrow b (data_ty p t ref_number ps)))
        d = data_takes p t ref_number 0 h.0 h.1

        eq : arrow a ty ≡ inst h.2.at (arrow d.1 (data_ty p t ref_number d.0))
        eq = h.2.is ∙ ap (λ (s : Poly). inst h.2.at s.body) d.3

        row : (d.0 ≡ typing.library.param ∷ []) × (Some d.1 ≡ Some (Variable typing.library.param))
        row = con_same p t ref_number 0 d.0 (typing.library.param ∷ []) (Some d.1) (Some (Variable typing.library.param)) d.2 (library_con p t typing.library 8 0 _ _ refl refl)

        arg_is : d.1 ≡ Variable typing.library.param
        arg_is = let x = row.1 in cc

        ref_is : ty ≡ ref_ty a
        ref_is =
            let ea : a ≡ inst h.2.at d.1 = (let x = eq in cc) in
            let eu : ty ≡ inst h.2.at (data_ty p t ref_number d.0) = (let x = eq in cc) in
            eu ∙ ap (λ ps. inst h.2.at (data_ty p t ref_number ps)) row.0 ∙ ap ref_ty (sym (ea ∙ ap (inst h.2.at) arg_is))

        is_cell : (w : Value) × (cell_block (block_of bs v) ≡ Some w)
        is_cell =
            let r = a_ref p t typing sig bs store (inst g a) v (subst (HasTy p t sig v) (ap (inst g) ref_is) hv) in
            (r.1, ap (λ v. cell_block (block_of bs v)) r.3 ∙ ap cell_block r.4)

        go : (o : Option Value) → (w : Value) × (o ≡ Some w) → ((w : Value) → o ≡ Some w → part w ≡ true) → Argument part true o
        go None c h = absurd (let x = c.1 in cc)
        go (Some w) c h = h w refl
    con_applied part c (con.Exn x takes) a ty v h q hv hw = go (look env x.0) hw
      where
        go : (o : Option Value) → ((w : Value) → (o >>= (λ name. packet_block (block_of bs v) >>= (λ packet. when (same_exn name packet.0) packet.1))) ≡ Some w → part w ≡ true) → Argument part (is_wanted (see p.texts bs) which (name_wanted true o) v) (o >>= (λ name. packet_block (block_of bs v) >>= (λ packet. when (same_exn name packet.0) packet.1)))
        go None hw = refl
        go (Some name) hw = exn_applied part name v hw
    con_applied part c (con.Library l) a ty v h q hv hw = exn_applied part (Library l) v hw

    -- ---- Records

    pub have_value : (vs : List Value) (us : List Tree) (k : ℕ) (u : Tree) → HaveTys p t sig vs us → slice_get us k ≡ Some u → (v : Value) × (slice_get vs k ≡ Some v) × HasTy p t sig v u
    have_value [] [] k u h e = cc
    have_value [] (x ∷ us) k u h e = absurd h
    have_value (v ∷ vs) [] k u h e = absurd h
    have_value (v ∷ vs) (x ∷ us) zero u h e = let same : x ≡ u = cc in (v, refl, subst (HasTy p t sig v) same h.0)
    have_value (v ∷ vs) (x ∷ us) (suc k) u h e = have_value vs us k u h.1 e

    -- ---- Patterns

    abbrev Shapes : (ℕ → Value → Bool) → ℕ → Type 0
    Shapes part c = (v : Value) → IsOf p.nodes Pattern c → IsWithin (free p.nodes c) xs → HasTy p t sig v (inst g (t.types c)) → part c v ≡ true

    module _ (part : ℕ → Value → Bool) (i : ℕ) (f : (c : ℕ) → i < c → Shapes part c) where
      abbrev Later : ℕ → Type 0
      Later c = (i < c) × (c < length p.nodes)

      fields_shaped : (fields : List Field) (vs : List Value) (us : List Tree) → AllByRecursion Later (map (λ x. x.node) fields) → AllByRecursion (λ x. IsOf p.nodes Pattern x.node) fields → HaveTys p t sig vs us → Placed p t sig g us fields → IsWithin (free_fields (free p.nodes) fields) xs → shaped_fields p env bs part fields vs ≡ true
      fields_shaped [] vs us l s h q w = refl
      fields_shaped (x ∷ fields) vs us l s h q w =
          let v = have_value vs us x.slot (inst g (t.types x.node)) h q.0 in
          and_both (or_else (slice_get vs x.slot) (part x.node) false) (shaped_fields p env bs part fields vs)
          (ap (λ o. or_else o (part x.node) false) v.1 ∙ f x.node l.0.0 v.0 s.0 (λ z m. w z (within_left (free p.nodes x.node) (free_fields (free p.nodes) fields) z m)) v.2)
          (fields_shaped fields vs us l.1 s.1 h q.1 (λ z m. w z (within_right (free p.nodes x.node) (free_fields (free p.nodes) fields) z m)))

      node_shaped : (c : Context) (ty : Tree) (named : List ℕ) (q : Node) → slice_get p.nodes i ≡ Some q → sort_of q ≡ Pattern → AllByRecursion Later (node_parts q) → HasSorts p.nodes q → IsWithin (free_of (binds p.nodes) (free p.nodes) q) xs → IsTypedNode p t c ty named q → (v : Value) → HasTy p t sig v (inst g ty) → shaped_of p env bs part q v ≡ true
      node_shaped c ty named node.Wild at e l s w r v h = refl
      node_shaped c ty named (node.PatInt n) at e l s w r v h =
          let z = an_int p t typing sig bs store v (subst (HasTy p t sig v) (ap (inst g) r.0) h) in ap is_number z.1
      node_shaped c ty named (node.PatChar n) at e l s w r v h =
          let z = a_char p t typing sig bs store v (subst (HasTy p t sig v) (ap (inst g) r.0) h) in ap is_letter z.1
      node_shaped c ty named (node.PatText n) at e l s w r v h = refl
      node_shaped c ty named (node.PatVar x) at e l s w r v h = refl
      node_shaped c ty named (node.PatCon k) at e l s w r v h =
          same_refl (is_con env k v) (con_holds p env bs false k v) (con_plain c k ty v r.0 r.1 h)
      node_shaped c ty named (node.PatApp k q) at e l s w r v h =
          con_applied (part q) c k r.0 ty v r.1 r.2 h (λ u eu.
          f q l.0.0 u s (λ z m. w z (within_right (exception_of k) (free p.nodes q) z m)) (subst (λ x. HasTy p t sig u (inst g x)) (sym r.3.1) (if_some (λ w. HasTy p t sig w (inst g r.0)) (argument_of env bs k v) u eu (argument_ty p t typing numbered sorts sig bs store g xs env known c k r.0 ty v r.1 r.2 (λ z m. w z (within_left (exception_of k) (free p.nodes q) z m)) h))))
      node_shaped c ty named (node.PatRecord fields) at e l s w r v h =
          let rec = r.0.1 in
          let us = map (inst g) rec.types in
          let k = a_record p t typing sig bs store rec.labs us v (subst (HasTy p t sig v) (ap (inst g) rec.is ∙ ap (App (FieldsHead rec.labs)) (inst_parts g rec.types)) h) in
          ap (λ o. or_else o (shaped_fields p env bs part fields) false) k.1 ∙ fields_shaped fields k.0 us l s k.2 (placed_in p t sig g rec.labs rec.types fields rec.placed) w
      node_shaped c ty named (node.PatTyped q j) at e l s w r v h =
          f q l.0.0 v s w (subst (λ u. HasTy p t sig v (inst g u)) (sym r.0.1) h)
      node_shaped c ty named (node.PatAs x q) at e l s w r v h =
          f q l.0.0 v s w (subst (λ u. HasTy p t sig v (inst g u)) (sym r.1.1) h)
      node_shaped c ty named (node.PatAsCon x q) at e l s w r v h = absurd r
      node_shaped c ty named _ at e l s w r v h = cc

    abbrev shape_at : ℕ → ℕ → Value → Bool
    shape_at k = within (λ v. false) (λ part i. shaped_of p env bs part) k p.nodes

    none_of : (i : ℕ) → slice_get p.nodes i ≡ None → IsOf p.nodes Pattern i → ⊥
    none_of i e h = let f : None ≡ Some Pattern = sym (ap (option_map sort_of) e) ∙ h in cc

    within_shaped : (k i : ℕ) → length p.nodes ≤ k + i → Shapes (shape_at k) i
    within_shaped zero i l v s w h = absurd (none_of i (slice_get_past p.nodes i (omega arith)) s)
    within_shaped (suc k) i l v s w h = go (slice_get p.nodes i) refl (λ c g. within_shaped k c (omega arith))
      where
        go : (o : Option Node) → slice_get p.nodes i ≡ o → ((c : ℕ) → i < c → Shapes (shape_at k) c) → at_node (λ v. false) (λ part i. shaped_of p env bs part) (shape_at k) i o v ≡ true
        go None e f = absurd (none_of i e s)
        go (Some q) e f =
            node_shaped (shape_at k) i f (t.contexts i) (t.types i) (t.binds i) q e (let z : Some (sort_of q) ≡ Some Pattern = sym (ap (option_map sort_of) e) ∙ s in cc) (numbered i q e) (if_some (HasSorts p.nodes) (slice_get p.nodes i) q e (all_get (HasSorts p.nodes) p.nodes i sorts)) (subst (λ ys. IsWithin ys xs) (free_unfold p.nodes numbered i q e) w) (rule_at p t typing numbered sorts i q e) v h

    pub is_shaped : (i : ℕ) → Shapes (shaped p env bs) i
    is_shaped i = within_shaped (length p.nodes) i (omega arith)
