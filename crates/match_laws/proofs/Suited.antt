-- A value of a pattern's type suits the pattern.
use Rattle.std.proofs.Common.{◌≡◌, ℕ, zero, suc, pos, ◌+◌, ◌<◌, ◌≤◌, Bool, true, false, not, List, [], ◌∷◌, length, Option, Some, None, refl, sym, ap, ◌∙◌, subst, arith, map, ⊎_elim}
use Rattle.std.proofs.lemmas.Option.{slice_get_past}
use Rattle.std.specs.Prelude.{slice_get, nat_eq, cond}
use Rattle.std.specs.List.{AllByRecursion}
use Rattle.std.specs.Option.{option_map, is_some}
use Rattle.smlc_base.specs.declared.exception.LibraryExn.{LibraryExn}
use Rattle.smlc_base.specs.declared.exception.LibraryExn.TheVariants.{FailExn}
use Rattle.sml_tree.specs.declared.bare.Bare.{Bare}
use Rattle.sml_tree.specs.declared.bare.Node.{Node}
use Rattle.sml_tree.specs.declared.bare.Node.TheVariants as node
use Rattle.sml_tree.specs.declared.bare.Con.{Con}
use Rattle.sml_tree.specs.declared.bare.Con.TheVariants as con
use Rattle.sml_tree.specs.declared.bare.Field.{Field}
use Rattle.sml_tree.specs.BareParts.{IsNumbered, at_node, within, node_parts}
use Rattle.sml_tree.specs.Sets.{has}
use Rattle.sml_tree.specs.IsBare.{HasSorts, Stands, ConStands, IsOf, Pattern, sort_of}
use Rattle.sml_tree.specs.Free.{free, binds, free_of, exception_of, free_fields}
use Rattle.sml_tree.proofs.Members.{IsWithin, within_left, within_right}
use Rattle.sml_tree.proofs.FreeParts.{free_unfold}
use Rattle.sml_types.specs.declared.types.TyVar.{TyVar}
use Rattle.sml_types.specs.Tree.{Tree, App, Variable, FieldsHead, inst}
use Rattle.sml_types.specs.Poly.{Context, Poly, poly}
use Rattle.sml_types.specs.Library.{arrow, exn_ty, string_ty, library_exn, ref_ty, ref_number}
use Rattle.sml_types.specs.Typing.{Typing, IsTyping, IsTypedNode, HasConTy, IsDataPoly, IsExnTy, takes_argument, exn_takes}
use Rattle.sml_types.proofs.TreeFacts.{inst_inst}
use Rattle.prim_meaning.specs.Meaning.{Opaque}
use Rattle.prim_meaning.specs.Tests.{Num, Bytes, bytes_wanted, name_wanted, same_names, fields_in}
use Rattle.prim_meaning.specs.Strict.{flagged, number_met, bytes_met, name_met}
use Rattle.sml_def.specs.Builtin.{see, which, see_block, see_text}
use Rattle.sml_def.specs.Match.{block_of, bytes_of, text_block, fields_of, same_exn, packet_block, applied_block, cell_block, argument_of}
use Rattle.sml_def.specs.Maybe.{◌>>=◌, when, or_else}
use Rattle.sml_def.specs.State.{Value, Constant, At, Tag, Library, Env, Block, Applied, Text, Cell, ExnName, Packet, look}
use Rattle.sml_def.proofs.Effects.{all_get}
use Rattle.sml_def.proofs.Options.{if_some}
use Rattle.sml_sound.specs.TypedStates.{Family, InFamily, Entry, Holds, HasTy, HaveTys, IsName, IsCon, data_ty, EnvTy, StoreTy}
use Rattle.sml_sound.proofs.Families.{inst_parts, agrees_self}
use Rattle.sml_sound.proofs.Matching.{argument_ty}
use Rattle.sml_sound.proofs.Names.{rule_at, self_in}
use Rattle.sml_sound.proofs.Plain.{new_con}
use Rattle.sml_sound.proofs.Rows.{Placed, placed_in}
use Rattle.sml_sound.proofs.Tables.{con_same, data_takes, data_plain, library_con}
use Rattle.sml_sound.proofs.Values.{an_int, a_char, a_string, a_record, a_ref}
use Rattle.match_laws.specs.Compile.{slot_of}
use Rattle.match_laws.specs.Law.{HasNames}
use Rattle.match_laws.specs.Suit.{name_block, is_exn_name, then_suits, is_met, con_met, field_suits, fields_suit, suited_of, suited}
use Rattle.match_laws.proofs.Canonical.{a_known_name, one_type, IsPacket, an_exception, a_datum}
use Rattle.match_laws.proofs.Fits.{field_seen}
use Rattle.simulation.proofs.Lists.{get_below}
use Rattle.match_laws.proofs.Shaped.{and_both, names_same, taking_tag, have_value, off}

flag_asked : (s : Bool) → is_some (flagged true s) ≡ true
flag_asked true = refl
flag_asked false = refl

flag_other : (s : Bool) → (s ≡ true → ⊥) → is_some (flagged false s) ≡ true
flag_other true h = absurd (h refl)
flag_other false h = refl

suits_asked : (s b : Bool) → (s ≡ true → b ≡ true) → then_suits (flagged true s) b ≡ true
suits_asked true b h = h refl
suits_asked false b h = refl

suits_other : (s b : Bool) → (s ≡ true → ⊥) → then_suits (flagged false s) b ≡ true
suits_other true b h = absurd (h refl)
suits_other false b h = refl

suits_some : (s b : Bool) → (s ≡ true → b ≡ true) → then_suits (Some s) b ≡ true
suits_some true b h = h refl
suits_some false b h = refl

no_arrow : (a : Tree) → exn_ty ≡ arrow a exn_ty → ⊥
no_arrow a e = cc

exn_alone : (k : Con) → takes_argument k ≡ false → (takes : Bool) (u : Tree) → takes ≡ false → IsExnTy takes u → u ≡ exn_ty
exn_alone k q false u e h = h
exn_alone k q true u e h = cc

library_alone : (e : LibraryExn) → exn_takes e ≡ false → library_exn e ≡ exn_ty
library_alone FailExn h = cc
library_alone _ h = refl

exn_takes_one : (takes : Bool) (u : Tree) → takes ≡ true → IsExnTy takes u → (a : Tree) × (u ≡ arrow a exn_ty)
exn_takes_one true u e h = h
exn_takes_one false u e h = cc

library_takes_one : (e : LibraryExn) → exn_takes e ≡ true → library_exn e ≡ arrow string_ty exn_ty
library_takes_one FailExn h = refl
library_takes_one _ h = cc

module _ (p : Bare) (t : Typing) (typing : IsTyping p t) (numbered : IsNumbered p.nodes) (sorts : AllByRecursion (HasSorts p.nodes) p.nodes) (stands : AllByRecursion (Stands p) p.nodes) (sig : List Entry) (bs : List Block) (store : StoreTy p t sig sig bs) (g : TyVar → Tree) (xs : List ℕ) (env : Env) (known : EnvTy p t sig g xs env) (named : HasNames bs env xs) where
  -- ---- Exceptions

  seen_name : (v : Value) → is_exn_name bs v ≡ true → see p.texts bs v ≡ Opaque
  seen_name (Library e) h = refl
  seen_name (At a) h = go (slice_get bs a) h
    where
      go : (o : Option Block) → name_block o ≡ true → see_block a o ≡ Opaque
      go (Some (ExnName x)) h = refl
      go None h = cc
      go (Some _) h = cc
  seen_name _ h = cc

  abbrev met_name : Value → Bool → Value → Option Bool
  met_name x applied v = cond (is_exn_name bs x) (name_met (see p.texts bs) which (is_exn_name bs) x applied v (see p.texts bs v)) None

  -- the test of a name on a name, and on a packet
  on_name : (x : Value) (applied : Bool) (v : Value) → is_exn_name bs x ≡ true → is_exn_name bs v ≡ true → met_name x applied v ≡ flagged (not applied) (same_names (which x) (which v))
  on_name x applied v hx hv =
      ap (λ b. cond b (name_met (see p.texts bs) which (is_exn_name bs) x applied v (see p.texts bs v)) None) hx
      ∙ ap (name_met (see p.texts bs) which (is_exn_name bs) x applied v) (seen_name v hv)
      ∙ ap (λ b. cond b (flagged (not applied) (same_names (which x) (which v))) None) hv

  on_packet : (x : Value) (applied : Bool) (a : ℕ) (y w : Value) → is_exn_name bs x ≡ true → is_exn_name bs y ≡ true → slice_get bs a ≡ Some (Packet y w) → met_name x applied (At a) ≡ flagged applied (same_names (which x) (which y))
  on_packet x applied a y w hx hy e =
      ap (λ b. cond b (name_met (see p.texts bs) which (is_exn_name bs) x applied (At a) (see p.texts bs (At a))) None) hx
      ∙ ap (λ o. name_met (see p.texts bs) which (is_exn_name bs) x applied (At a) (see_block a o)) e
      ∙ ap (λ b. cond b (flagged applied (same_names (which x) (which y))) None) hy

  name_plain : (x v : Value) → is_exn_name bs x ≡ true → HasTy p t sig x exn_ty → HasTy p t sig v exn_ty → is_some (met_name x false v) ≡ true
  name_plain x v hx tx hv = ⊎_elim by_name by_packet (an_exception p t typing sig bs store v hv)
    where
      by_name : IsName p t sig v exn_ty → is_some (met_name x false v) ≡ true
      by_name h = ap is_some (on_name x false v hx (a_known_name p t typing sig bs store v exn_ty h)) ∙ flag_asked (same_names (which x) (which v))

      by_packet : IsPacket p t typing sig bs store v → is_some (met_name x false v) ≡ true
      by_packet h =
          let a = h.0 in let y = h.1 in let b = h.3 in
          subst (λ v. is_some (met_name x false v) ≡ true) (sym h.4)
          (ap is_some (on_packet x false a y h.2 hx (a_known_name p t typing sig bs store y (arrow b exn_ty) h.6) h.5)
          ∙ flag_other (same_names (which x) (which y)) (λ e. no_arrow b (one_type p t typing sig bs store x y exn_ty (arrow b exn_ty) tx h.6 e)))

  -- a part that is typed suits: of what an argument is
  abbrev Parts : (Value → Bool) → Option Value → Type 0
  Parts part o = (w : Value) → o ≡ Some w → part w ≡ true

  name_applied : (part : Value → Bool) (x v : Value) (a : Tree) → is_exn_name bs x ≡ true → HasTy p t sig x (arrow a exn_ty) → HasTy p t sig v exn_ty → Parts part (packet_block (block_of bs v) >>= (λ packet. when (same_exn x packet.0) packet.1)) → then_suits (met_name x true v) (field_suits p env bs part 1 v) ≡ true
  name_applied part x v a hx tx hv hw = ⊎_elim by_name by_packet (an_exception p t typing sig bs store v hv)
    where
      by_name : IsName p t sig v exn_ty → then_suits (met_name x true v) (field_suits p env bs part 1 v) ≡ true
      by_name h =
          ap (λ o. then_suits o (field_suits p env bs part 1 v)) (on_name x true v hx (a_known_name p t typing sig bs store v exn_ty h))
          ∙ suits_other (same_names (which x) (which v)) (field_suits p env bs part 1 v) (λ e. no_arrow a (sym (one_type p t typing sig bs store x v (arrow a exn_ty) exn_ty tx h e)))

      by_packet : IsPacket p t typing sig bs store v → then_suits (met_name x true v) (field_suits p env bs part 1 v) ≡ true
      by_packet h = subst (λ v. Parts part (packet_block (block_of bs v) >>= (λ packet. when (same_exn x packet.0) packet.1)) → then_suits (met_name x true v) (field_suits p env bs part 1 v) ≡ true) (sym h.4) here hw
        where
          here : Parts part (packet_block (slice_get bs h.0) >>= (λ packet. when (same_exn x packet.0) packet.1)) → then_suits (met_name x true (At h.0)) (field_suits p env bs part 1 (At h.0)) ≡ true
          here ps =
              ap (λ o. then_suits o (field_suits p env bs part 1 (At h.0))) (on_packet x true h.0 h.1 h.2 hx (a_known_name p t typing sig bs store h.1 (arrow h.3 exn_ty) h.6) h.5)
              ∙ suits_asked (same_names (which x) (which h.1)) (field_suits p env bs part 1 (At h.0)) (λ e.
              ap (λ o. or_else (slice_get (fields_in (see_block h.0 o)) 1) part false) h.5
              ∙ ps h.2 (ap (λ o. packet_block o >>= (λ packet. when (same_exn x packet.0) packet.1)) h.5 ∙ ap (λ b. when b h.2) (names_same p t typing numbered sorts sig bs store g xs env known x h.1 ∙ e)))

  -- the value of a name that patterns want
  wanted_name : (x : ℕ) → has xs x ≡ true → (v : Value) × (look env x ≡ Some v) × (is_exn_name bs v ≡ true) × HasTy p t sig v (inst g (t.schemes x).body)
  wanted_name x m =
      let k = known.1 x m in
      let n = named x m in
      let same : n.0 ≡ k.0 = (let e : Some n.0 ≡ Some k.0 = sym n.1 ∙ k.1 in cc) in
      (n.0, n.1, n.2, subst (λ v. HasTy p t sig v (inst g (t.schemes x).body)) (sym same) (k.2 g (agrees_self t.names (t.schemes x).vars g known.0)))

  -- ---- Constructors

  con_suits : (c : Context) (k : Con) (ty : Tree) (v : Value) → ConStands p k → HasConTy p t c k ty → takes_argument k ≡ false → IsWithin (exception_of k) xs → HasTy p t sig v (inst g ty) → is_some (con_met p env bs false k v) ≡ true
  con_suits c (con.Data n k takes) ty v st h q w hv = ⊎_elim tagged applied (a_datum p t typing sig bs store n k d.0 None (λ v. inst g (h.2.at v)) d.1 (new_con p t typing n k takes st.0) v (subst (HasTy p t sig v) eu hv))
    where
      d : (ps : List TyVar) × IsCon p t n k ps None × (h.0 ≡ poly ps (data_ty p t n ps))
      d = data_plain p t n k h.0 (subst (λ q. IsDataPoly p t n k q h.0) q h.1)

      eu : inst g ty ≡ inst (λ v. inst g (h.2.at v)) (data_ty p t n d.0)
      eu = ap (inst g) (h.2.is ∙ ap (λ (s : Poly). inst h.2.at s.body) d.2) ∙ inst_inst g h.2.at (data_ty p t n d.0)

      tagged : (j : ℕ) × (v ≡ Tag j) → is_some (con_met p env bs false (con.Data n k takes) v) ≡ true
      tagged x = subst (λ v. is_some (con_met p env bs false (con.Data n k takes) v) ≡ true) (sym x.1) refl

      applied : (a : ℕ) × (j : ℕ) × (w : Value) × (v ≡ At a) × (slice_get bs a ≡ Some (Applied j w)) → is_some (con_met p env bs false (con.Data n k takes) v) ≡ true
      applied x =
          subst (λ v. is_some (con_met p env bs false (con.Data n k takes) v) ≡ true) (sym x.3) (ap (λ o. is_some (number_met k (see_block x.0 o))) x.4)
  con_suits c con.Ref ty v st h q w hv = refl
  con_suits c (con.Exn x takes) ty v st h q w hv =
      let n = wanted_name x.0 (w x.0 (self_in x.0)) in
      let body : (t.schemes x.0).body ≡ exn_ty = ap (λ (s : Poly). s.body) (sym h.1.1) ∙ exn_alone (con.Exn x takes) q takes h.0.body q h.1.2 in
      let ety : ty ≡ exn_ty = h.2.is ∙ ap (inst h.2.at) (exn_alone (con.Exn x takes) q takes h.0.body q h.1.2) in
      ap (λ o. is_some (is_met p env bs (name_wanted false o) v)) n.1
      ∙ name_plain n.0 v n.2 (subst (λ u. HasTy p t sig n.0 (inst g u)) body n.3) (subst (λ u. HasTy p t sig v (inst g u)) ety hv)
  con_suits c (con.Library e) ty v st h q w hv =
      let lone = library_alone e q in
      let ety : ty ≡ exn_ty = h.2.is ∙ ap (λ (s : Poly). inst h.2.at s.body) h.1 ∙ ap (inst h.2.at) lone in
      name_plain (Library e) v refl (sym lone) (subst (λ u. HasTy p t sig v (inst g u)) ety hv)

  -- a string is seen by its bytes
  text_seen : (bytes : List ℕ) (v : Value) (found : List ℕ) → bytes_of p bs v ≡ Some found → is_some (is_met p env bs (Bytes bytes) v) ≡ true
  text_seen bytes (Constant n) found e = ap (λ o. is_some (bytes_met bytes (see_text o))) e
  text_seen bytes (At a) found e = go (slice_get bs a) e
    where
      go : (o : Option Block) → text_block o ≡ Some found → is_some (bytes_met bytes (see_block a o)) ≡ true
      go (Some (Text cs)) e = refl
      go None e = cc
      go (Some _) e = cc
  text_seen bytes _ found e = cc

  -- the type of a cell
  ref_is : (c : Context) (a ty : Tree) → HasConTy p t c con.Ref (arrow a ty) → ty ≡ ref_ty a
  ref_is c a ty h =
      let d = data_takes p t ref_number 0 h.0 h.1 in
      let eq : arrow a ty ≡ inst h.2.at (arrow d.1 (data_ty p t ref_number d.0)) = h.2.is ∙ ap (λ (s : Poly). inst h.2.at s.body) d.3 in
      let row = con_same p t ref_number 0 d.0 (typing.library.param ∷ []) (Some d.1) (Some (Variable typing.library.param)) d.2 (library_con p t typing.library 8 0 _ _ refl refl) in
      let arg : d.1 ≡ Variable typing.library.param = (let x = row.1 in cc) in
      let ea : a ≡ inst h.2.at d.1 = cc in
      let eu : ty ≡ inst h.2.at (data_ty p t ref_number d.0) = cc in
      eu ∙ ap (λ ps. inst h.2.at (data_ty p t ref_number ps)) row.0 ∙ ap ref_ty (sym (ea ∙ ap (inst h.2.at) arg))

  -- a constructor's test, and its argument
  abbrev Applies : (Value → Bool) → Con → Value → Type 0
  Applies part k v = then_suits (con_met p env bs true k v) (field_suits p env bs part (slot_of k) v) ≡ true

  applied_suits : (part : Value → Bool) (c : Context) (k : Con) (a ty : Tree) (v : Value) → ConStands p k → HasConTy p t c k (arrow a ty) → takes_argument k ≡ true → IsWithin (exception_of k) xs → HasTy p t sig v (inst g ty) → Parts part (argument_of env bs k v) → then_suits (con_met p env bs true k v) (field_suits p env bs part (slot_of k) v) ≡ true
  applied_suits part c (con.Data n k takes) a ty v st h q w hv hw = ⊎_elim tagged applied (a_datum p t typing sig bs store n k d.0 (Some d.1) (λ v. inst g (h.2.at v)) d.2 (new_con p t typing n k takes st.0) v (subst (HasTy p t sig v) eu hv))
    where
      d : (ps : List TyVar) × (b : Tree) × IsCon p t n k ps (Some b) × (h.0 ≡ poly ps (arrow b (data_ty p t n ps)))
      d = data_takes p t n k h.0 (subst (λ q. IsDataPoly p t n k q h.0) q h.1)

      ety : ty ≡ inst h.2.at (data_ty p t n d.0)
      ety = let x : arrow a ty ≡ inst h.2.at (arrow d.1 (data_ty p t n d.0)) = h.2.is ∙ ap (λ (s : Poly). inst h.2.at s.body) d.3 in cc

      eu : inst g ty ≡ inst (λ v. inst g (h.2.at v)) (data_ty p t n d.0)
      eu = ap (inst g) ety ∙ inst_inst g h.2.at (data_ty p t n d.0)

      tagged : (j : ℕ) × (v ≡ Tag j) → Applies part (con.Data n k takes) v
      tagged x =
          let other = off k x.0 (nat_eq k x.0) refl (λ same. taking_tag p t typing numbered sorts sig bs store g xs env known n k d.0 d.1 (inst g ty) (λ v. inst g (h.2.at v)) d.2 eu (subst (λ j. HasTy p t sig (Tag j) (inst g ty)) (sym same) (subst (λ v. HasTy p t sig v (inst g ty)) x.1 hv))) in
          subst (Applies part (con.Data n k takes)) (sym x.1) (ap (λ b. then_suits (Some b) (field_suits p env bs part 0 (Tag x.0))) other)

      applied : (b : ℕ) × (j : ℕ) × (u : Value) × (v ≡ At b) × (slice_get bs b ≡ Some (Applied j u)) → Applies part (con.Data n k takes) v
      applied x = subst (λ v. Parts part (applied_block k (block_of bs v)) → Applies part (con.Data n k takes) v) (sym x.3) here hw
        where
          here : Parts part (applied_block k (slice_get bs x.0)) → Applies part (con.Data n k takes) (At x.0)
          here ps =
              ap (λ o. then_suits (number_met k (see_block x.0 o)) (or_else (slice_get (fields_in (see_block x.0 o)) 0) part false)) x.4
              ∙ suits_some (nat_eq k x.1) (part x.2) (λ e. ps x.2 (ap (applied_block k) x.4 ∙ ap (λ b. when b x.2) e))
  applied_suits part c con.Ref a ty v st h q w hv hw = is_cell (a_ref p t typing sig bs store (inst g a) v (subst (HasTy p t sig v) (ap (inst g) (ref_is c a ty h)) hv))
    where
      is_cell : (b : ℕ) × (u : Value) × (f : Family) × (v ≡ At b) × (slice_get bs b ≡ Some (Cell u)) × (slice_get sig b ≡ Some (Holds f)) × HasTy p t sig u (inst g a) × ((z : Tree) → InFamily t.names f z → z ≡ ref_ty (inst g a)) → field_suits p env bs part 0 v ≡ true
      is_cell r =
          subst (λ v. Parts part (cell_block (block_of bs v)) → field_suits p env bs part 0 v ≡ true) (sym r.3) (λ ps. ap (λ o. or_else (slice_get (fields_in (see_block r.0 o)) 0) part false) r.4 ∙ ps r.1 (ap cell_block r.4)) hw
  applied_suits part c (con.Exn x takes) a ty v st h q w hv hw =
      let n = wanted_name x.0 (w x.0 (self_in x.0)) in
      let body = exn_takes_one takes h.0.body q h.1.2 in
      let e : arrow a ty ≡ arrow (inst h.2.at body.0) exn_ty = h.2.is ∙ ap (inst h.2.at) body.1 in
      let ety : ty ≡ exn_ty = cc in
      ap (λ o. then_suits (is_met p env bs (name_wanted true o) v) (field_suits p env bs part 1 v)) n.1
      ∙ name_applied part n.0 v (inst g body.0) n.2 (subst (λ u. HasTy p t sig n.0 (inst g u)) (ap (λ (s : Poly). s.body) (sym h.1.1) ∙ body.1) n.3) (subst (λ u. HasTy p t sig v (inst g u)) ety hv)
      (subst (λ o. Parts part (o >>= (λ name. packet_block (block_of bs v) >>= (λ packet. when (same_exn name packet.0) packet.1)))) n.1 hw)
  applied_suits part c (con.Library l) a ty v st h q w hv hw =
      let body = library_takes_one l q in
      let e : arrow a ty ≡ arrow (inst h.2.at string_ty) exn_ty = h.2.is ∙ ap (λ (s : Poly). inst h.2.at s.body) h.1 ∙ ap (inst h.2.at) body in
      let ety : ty ≡ exn_ty = cc in
      name_applied part (Library l) v string_ty refl (sym body) (subst (λ u. HasTy p t sig v (inst g u)) ety hv) hw

  -- ---- Patterns

  abbrev Suits : (ℕ → Value → Bool) → ℕ → Type 0
  Suits part c = (v : Value) → IsOf p.nodes Pattern c → IsWithin (free p.nodes c) xs → HasTy p t sig v (inst g (t.types c)) → part c v ≡ true

  module _ (part : ℕ → Value → Bool) (i : ℕ) (f : (c : ℕ) → i < c → Suits part c) where
    abbrev Later : ℕ → Type 0
    Later c = (i < c) × (c < length p.nodes)

    fields_suited : (fields : List Field) (v : Value) (vs : List Value) (us : List Tree) → AllByRecursion Later (map (λ x. x.node) fields) → AllByRecursion (λ x. IsOf p.nodes Pattern x.node) fields → fields_of bs v ≡ Some vs → HaveTys p t sig vs us → Placed p t sig g us fields → IsWithin (free_fields (free p.nodes) fields) xs → fields_suit p env bs part fields v ≡ true
    fields_suited [] v vs us l s e h q w = refl
    fields_suited (x ∷ fields) v vs us l s e h q w =
        let u = have_value p t typing numbered sorts sig bs store g xs env known vs us x.slot (inst g (t.types x.node)) h q.0 in
        and_both (field_suits p env bs (part x.node) x.slot v) (fields_suit p env bs part fields v)
        (ap (λ o. or_else o (part x.node) false) (field_seen p.texts bs v vs x.slot u.0 e u.1) ∙ f x.node l.0.0 u.0 s.0 (λ z m. w z (within_left (free p.nodes x.node) (free_fields (free p.nodes) fields) z m)) u.2)
        (fields_suited fields v vs us l.1 s.1 e h q.1 (λ z m. w z (within_right (free p.nodes x.node) (free_fields (free p.nodes) fields) z m)))

    node_suited : (c : Context) (ty : Tree) (bound : List ℕ) (q : Node) → slice_get p.nodes i ≡ Some q → sort_of q ≡ Pattern → AllByRecursion Later (node_parts q) → HasSorts p.nodes q → Stands p q → IsWithin (free_of (binds p.nodes) (free p.nodes) q) xs → IsTypedNode p t c ty bound q → (v : Value) → HasTy p t sig v (inst g ty) → suited_of p env bs part q v ≡ true
    node_suited c ty bound node.Wild at e l s k w r v h = refl
    node_suited c ty bound (node.PatInt n) at e l s k w r v h =
        let z = an_int p t typing sig bs store v (subst (HasTy p t sig v) (ap (inst g) r.0) h) in
        ap (λ v. is_some (is_met p env bs (Num n) v)) z.1
    node_suited c ty bound (node.PatChar n) at e l s k w r v h =
        let z = a_char p t typing sig bs store v (subst (HasTy p t sig v) (ap (inst g) r.0) h) in
        ap (λ v. is_some (is_met p env bs (Num (pos n)) v)) z.1
    node_suited c ty bound (node.PatText n) at e l s k w r v h =
        let z = a_string p t typing sig bs store v (subst (HasTy p t sig v) (ap (inst g) r.0) h) in
        let b = get_below p.texts n k in
        ap (λ o. is_some (is_met p env bs (bytes_wanted o) v)) b.1 ∙ text_seen b.0 v z.0 z.1
    node_suited c ty bound (node.PatVar x) at e l s k w r v h = refl
    node_suited c ty bound (node.PatCon b) at e l s k w r v h = con_suits c b ty v k r.0 r.1 w h
    node_suited c ty bound (node.PatApp b q) at e l s k w r v h =
        applied_suits (part q) c b r.0 ty v k r.1 r.2 (λ z m. w z (within_left (exception_of b) (free p.nodes q) z m)) h (λ u eu.
        f q l.0.0 u s (λ z m. w z (within_right (exception_of b) (free p.nodes q) z m)) (subst (λ x. HasTy p t sig u (inst g x)) (sym r.3.1) (if_some (λ w. HasTy p t sig w (inst g r.0)) (argument_of env bs b v) u eu (argument_ty p t typing numbered sorts sig bs store g xs env known c b r.0 ty v r.1 r.2 (λ z m. w z (within_left (exception_of b) (free p.nodes q) z m)) h))))
    node_suited c ty bound (node.PatRecord fields) at e l s k w r v h =
        let rec = r.0.1 in
        let us = map (inst g) rec.types in
        let vs = a_record p t typing sig bs store rec.labs us v (subst (HasTy p t sig v) (ap (inst g) rec.is ∙ ap (App (FieldsHead rec.labs)) (inst_parts g rec.types)) h) in
        fields_suited fields v vs.0 us l s vs.1 vs.2 (placed_in p t sig g rec.labs rec.types fields rec.placed) w
    node_suited c ty bound (node.PatTyped q j) at e l s k w r v h =
        f q l.0.0 v s w (subst (λ u. HasTy p t sig v (inst g u)) (sym r.0.1) h)
    node_suited c ty bound (node.PatAs x q) at e l s k w r v h =
        f q l.0.0 v s w (subst (λ u. HasTy p t sig v (inst g u)) (sym r.1.1) h)
    node_suited c ty bound (node.PatAsCon x q) at e l s k w r v h = absurd r
    node_suited c ty bound _ at e l s k w r v h = cc

  abbrev suit_at : ℕ → ℕ → Value → Bool
  suit_at k = within (λ v. false) (λ part i. suited_of p env bs part) k p.nodes

  none_of : (i : ℕ) → slice_get p.nodes i ≡ None → IsOf p.nodes Pattern i → ⊥
  none_of i e h = let f : None ≡ Some Pattern = sym (ap (option_map sort_of) e) ∙ h in cc

  within_suited : (k i : ℕ) → length p.nodes ≤ k + i → Suits (suit_at k) i
  within_suited zero i l v s w h = absurd (none_of i (slice_get_past p.nodes i (omega arith)) s)
  within_suited (suc k) i l v s w h = go (slice_get p.nodes i) refl (λ c g. within_suited k c (omega arith))
    where
      go : (o : Option Node) → slice_get p.nodes i ≡ o → ((c : ℕ) → i < c → Suits (suit_at k) c) → at_node (λ v. false) (λ part i. suited_of p env bs part) (suit_at k) i o v ≡ true
      go None e f = absurd (none_of i e s)
      go (Some q) e f =
          node_suited (suit_at k) i f (t.contexts i) (t.types i) (t.binds i) q e (let z : Some (sort_of q) ≡ Some Pattern = sym (ap (option_map sort_of) e) ∙ s in cc) (numbered i q e) (if_some (HasSorts p.nodes) (slice_get p.nodes i) q e (all_get (HasSorts p.nodes) p.nodes i sorts)) (if_some (Stands p) (slice_get p.nodes i) q e (all_get (Stands p) p.nodes i stands)) (subst (λ ys. IsWithin ys xs) (free_unfold p.nodes numbered i q e) w) (rule_at p t typing numbered sorts i q e) v h

  pub is_suited : (i : ℕ) → Suits (suited p env bs) i
  is_suited i = within_suited (length p.nodes) i (omega arith)
