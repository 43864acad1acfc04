-- A primitive on an argument of its type leaves a typed state.
use Rattle.simulation.specs.Stores.{replaced}
use Rattle.prim_meaning.specs.Data as dat
use Rattle.prim_meaning.specs.Data.{floor_div, floor_mod, order_of}
use Rattle.prim_meaning.specs.Meaning.{deref, assign, imploded}
use Rattle.sml_def.specs.Builtin.{see_block, see, carry, applied, builtin}
use Rattle.sml_def.specs.Maybe.{◌>>=◌}
use Rattle.sml_def.specs.Match.{fields_of as tuple_of}
use Rattle.sml_def.specs.Memory.{Memory}
use Rattle.sml_def.specs.Run as run
use Rattle.sml_def.specs.State.{Cell, Tag, Number, Nothing, Value, Address, Ret}
use Rattle.sml_sound.proofs.Grow.{store_set}
use Rattle.sml_sound.proofs.SafeActs.{Ready, Safe, descend_set, going_safe}
use Rattle.sml_sound.proofs.SafeNodes.{known, below}
use Rattle.sml_sound.proofs.SafePrimitives.{Takes1, ret_one, truth_safe, one_text, two_texts, ordered, a_pair, a_triple, int_safe, divided_safe, on_two_ints, text_safe, compare_safe, at_place, at_places, a_letter_of, line_safe, rank_of, letters_some}
use Rattle.sml_sound.proofs.Values.{an_int, a_char, a_string, a_stream, a_ref}
use Rattle.sml_sound.specs.TypedStates.{KeepsMarks, Entry, Holds, HasTy}
use Rattle.sml_tree.specs.declared.bare.Bare.{Bare}
use Rattle.sml_types.specs.Library.{bool_ty, list_ty, option_ty, order_ty, instream_ty, tuple, arrow, unit_ty, int_ty, char_ty, string_ty, ref_ty, primitive_poly}
use Rattle.sml_types.specs.Tree.{Tree, inst}
use Rattle.sml_types.specs.Typing.{Typing}
use Rattle.sml_types.specs.declared.types.TyVar.{TyVar}
use Rattle.smlc_base.specs.declared.primitive.Primitive.{Primitive}
use Rattle.smlc_base.specs.declared.primitive.Primitive.TheVariants as prim
use Rattle.std.proofs.Common.{◌≡◌, suc, true, false, List, [], ◌∷◌, ◌++◌, length, Option, refl, sym, ap, ◌∙◌, subst, arith}
use Rattle.std.specs.Prelude.{set, pos, ◌+ℤ◌, ◌-ℤ◌, ◌*ℤ◌, neg_ℤ, unsigned_abs, int_lt, int_le}

module _ {p : Bare} {t : Typing} {m : Memory} {sig : List Entry} (ready : Ready p t m sig) where
  -- ---- A primitive on its argument

  pub builtin_safe : (f : Primitive) (v : Value) (k : Option Address) (g : TyVar → Tree) (a b : Tree) → KeepsMarks t.names g → arrow a b ≡ inst g (primitive_poly f).body → HasTy p t sig v a → Takes1 ready k b → Safe p t m.store (builtin p.texts m k f v)
  builtin_safe prim.Plus v k g a b kg q hv hk =
      let e : arrow a b ≡ arrow (tuple (int_ty ∷ int_ty ∷ [])) (int_ty) = q in
      let ea : a ≡ tuple (int_ty ∷ int_ty ∷ []) = cc in
      let hb : Takes1 ready k (int_ty) = (let eb : b ≡ int_ty = cc in subst (Takes1 ready k) eb hk) in
      let ha : HasTy p t sig v (tuple (int_ty ∷ int_ty ∷ [])) = subst (HasTy p t sig v) ea hv in
      on_two_ints ready prim.Plus v k (λ x y. dat.int_result (x +ℤ y)) (λ x y. refl) (λ x y. int_safe ready (x +ℤ y) k hb) ha
  builtin_safe prim.Minus v k g a b kg q hv hk =
      let e : arrow a b ≡ arrow (tuple (int_ty ∷ int_ty ∷ [])) (int_ty) = q in
      let ea : a ≡ tuple (int_ty ∷ int_ty ∷ []) = cc in
      let hb : Takes1 ready k (int_ty) = (let eb : b ≡ int_ty = cc in subst (Takes1 ready k) eb hk) in
      let ha : HasTy p t sig v (tuple (int_ty ∷ int_ty ∷ [])) = subst (HasTy p t sig v) ea hv in
      on_two_ints ready prim.Minus v k (λ x y. dat.int_result (x -ℤ y)) (λ x y. refl) (λ x y. int_safe ready (x -ℤ y) k hb) ha
  builtin_safe prim.Times v k g a b kg q hv hk =
      let e : arrow a b ≡ arrow (tuple (int_ty ∷ int_ty ∷ [])) (int_ty) = q in
      let ea : a ≡ tuple (int_ty ∷ int_ty ∷ []) = cc in
      let hb : Takes1 ready k (int_ty) = (let eb : b ≡ int_ty = cc in subst (Takes1 ready k) eb hk) in
      let ha : HasTy p t sig v (tuple (int_ty ∷ int_ty ∷ [])) = subst (HasTy p t sig v) ea hv in
      on_two_ints ready prim.Times v k (λ x y. dat.int_result (x *ℤ y)) (λ x y. refl) (λ x y. int_safe ready (x *ℤ y) k hb) ha
  builtin_safe prim.Quotient v k g a b kg q hv hk =
      let e : arrow a b ≡ arrow (tuple (int_ty ∷ int_ty ∷ [])) (int_ty) = q in
      let ea : a ≡ tuple (int_ty ∷ int_ty ∷ []) = cc in
      let hb : Takes1 ready k (int_ty) = (let eb : b ≡ int_ty = cc in subst (Takes1 ready k) eb hk) in
      let ha : HasTy p t sig v (tuple (int_ty ∷ int_ty ∷ [])) = subst (HasTy p t sig v) ea hv in
      on_two_ints ready prim.Quotient v k (λ x y. dat.divided floor_div x y) (λ x y. refl) (λ x y. divided_safe ready floor_div x y k hb) ha
  builtin_safe prim.Modulo v k g a b kg q hv hk =
      let e : arrow a b ≡ arrow (tuple (int_ty ∷ int_ty ∷ [])) (int_ty) = q in
      let ea : a ≡ tuple (int_ty ∷ int_ty ∷ []) = cc in
      let hb : Takes1 ready k (int_ty) = (let eb : b ≡ int_ty = cc in subst (Takes1 ready k) eb hk) in
      let ha : HasTy p t sig v (tuple (int_ty ∷ int_ty ∷ [])) = subst (HasTy p t sig v) ea hv in
      on_two_ints ready prim.Modulo v k (λ x y. dat.divided floor_mod x y) (λ x y. refl) (λ x y. divided_safe ready floor_mod x y k hb) ha
  builtin_safe prim.Less v k g a b kg q hv hk =
      let e : arrow a b ≡ arrow (tuple (int_ty ∷ int_ty ∷ [])) (bool_ty) = q in
      let ea : a ≡ tuple (int_ty ∷ int_ty ∷ []) = cc in
      let hb : Takes1 ready k (bool_ty) = (let eb : b ≡ bool_ty = cc in subst (Takes1 ready k) eb hk) in
      let ha : HasTy p t sig v (tuple (int_ty ∷ int_ty ∷ [])) = subst (HasTy p t sig v) ea hv in
      on_two_ints ready prim.Less v k (λ x y. dat.truth (int_lt x y)) (λ x y. refl) (λ x y. truth_safe ready (int_lt x y) k hb) ha
  builtin_safe prim.Greater v k g a b kg q hv hk =
      let e : arrow a b ≡ arrow (tuple (int_ty ∷ int_ty ∷ [])) (bool_ty) = q in
      let ea : a ≡ tuple (int_ty ∷ int_ty ∷ []) = cc in
      let hb : Takes1 ready k (bool_ty) = (let eb : b ≡ bool_ty = cc in subst (Takes1 ready k) eb hk) in
      let ha : HasTy p t sig v (tuple (int_ty ∷ int_ty ∷ [])) = subst (HasTy p t sig v) ea hv in
      on_two_ints ready prim.Greater v k (λ x y. dat.truth (int_lt y x)) (λ x y. refl) (λ x y. truth_safe ready (int_lt y x) k hb) ha
  builtin_safe prim.AtMost v k g a b kg q hv hk =
      let e : arrow a b ≡ arrow (tuple (int_ty ∷ int_ty ∷ [])) (bool_ty) = q in
      let ea : a ≡ tuple (int_ty ∷ int_ty ∷ []) = cc in
      let hb : Takes1 ready k (bool_ty) = (let eb : b ≡ bool_ty = cc in subst (Takes1 ready k) eb hk) in
      let ha : HasTy p t sig v (tuple (int_ty ∷ int_ty ∷ [])) = subst (HasTy p t sig v) ea hv in
      on_two_ints ready prim.AtMost v k (λ x y. dat.truth (int_le x y)) (λ x y. refl) (λ x y. truth_safe ready (int_le x y) k hb) ha
  builtin_safe prim.AtLeast v k g a b kg q hv hk =
      let e : arrow a b ≡ arrow (tuple (int_ty ∷ int_ty ∷ [])) (bool_ty) = q in
      let ea : a ≡ tuple (int_ty ∷ int_ty ∷ []) = cc in
      let hb : Takes1 ready k (bool_ty) = (let eb : b ≡ bool_ty = cc in subst (Takes1 ready k) eb hk) in
      let ha : HasTy p t sig v (tuple (int_ty ∷ int_ty ∷ [])) = subst (HasTy p t sig v) ea hv in
      on_two_ints ready prim.AtLeast v k (λ x y. dat.truth (int_le y x)) (λ x y. refl) (λ x y. truth_safe ready (int_le y x) k hb) ha
  builtin_safe prim.Equal v k g a b kg q hv hk =
      let x : Tree = g (record { num = 0; eq = true }) in
      let e : arrow a b ≡ arrow (tuple (x ∷ x ∷ [])) bool_ty = q in
      let ea : a ≡ tuple (x ∷ x ∷ []) = cc in
      let eb : b ≡ bool_ty = cc in
      let r = a_pair ready x x v (subst (HasTy p t sig v) ea hv) in
      known ready (tuple_of m.store v) (r.0 ∷ r.1 ∷ []) (applied p.texts m k prim.Equal) r.2 (compare_safe ready r.0 r.1 true k (x, kg (record { num = 0; eq = true }) refl, r.3, r.4) (subst (Takes1 ready k) eb hk))
  builtin_safe prim.Unequal v k g a b kg q hv hk =
      let x : Tree = g (record { num = 0; eq = true }) in
      let e : arrow a b ≡ arrow (tuple (x ∷ x ∷ [])) bool_ty = q in
      let ea : a ≡ tuple (x ∷ x ∷ []) = cc in
      let eb : b ≡ bool_ty = cc in
      let r = a_pair ready x x v (subst (HasTy p t sig v) ea hv) in
      known ready (tuple_of m.store v) (r.0 ∷ r.1 ∷ []) (applied p.texts m k prim.Unequal) r.2 (compare_safe ready r.0 r.1 false k (x, kg (record { num = 0; eq = true }) refl, r.3, r.4) (subst (Takes1 ready k) eb hk))
  builtin_safe prim.Deref v k g a b kg q hv hk =
      let x : Tree = g (record { num = 0; eq = false }) in
      let e : arrow a b ≡ arrow (ref_ty x) x = q in
      let ea : a ≡ ref_ty x = cc in
      let eb : b ≡ x = cc in
      let r = a_ref p t ready.typing sig m.store ready.store x v (subst (HasTy p t sig v) ea hv) in
      subst (λ s. Safe p t m.store (deref s >>= carry m k)) (sym (ap (see p.texts m.store) r.3 ∙ ap (see_block r.0) r.4)) (going_safe ready (Ret r.1 k) (ret_one ready r.1 k x r.6 (subst (Takes1 ready k) eb hk)))
  builtin_safe prim.Assign v k g a b kg q hv hk =
      let x : Tree = g (record { num = 0; eq = false }) in
      let e : arrow a b ≡ arrow (tuple (ref_ty x ∷ x ∷ [])) unit_ty = q in
      let ea : a ≡ tuple (ref_ty x ∷ x ∷ []) = cc in
      let eb : b ≡ unit_ty = cc in
      let r = a_pair ready (ref_ty x) x v (subst (HasTy p t sig v) ea hv) in
      let c = a_ref p t ready.typing sig m.store ready.store x r.0 r.3 in
      known ready (tuple_of m.store v) (r.0 ∷ r.1 ∷ []) (applied p.texts m k prim.Assign) r.2
      (subst (λ s. Safe p t m.store (assign s r.1 >>= carry m k)) (sym (ap (see p.texts m.store) c.3 ∙ ap (see_block c.0) c.4))
      (record {
        after = set m.store c.0 (Cell r.1);
        done = ap (λ o. replaced run.view m.store c.0 (Cell r.1) o) c.4;
        sig = sig;
        store = store_set p t sig sig m.store c.0 (Holds c.2) (Cell r.1) ready.store c.5 (x, c.7, r.4);
        descend = descend_set 0 m.store c.0 r.1 ready.descend;
        control = ret_one ready Nothing k unit_ty refl (subst (Takes1 ready k) eb hk);
      }))
  builtin_safe prim.Concat v k g a b kg q hv hk =
      let e : arrow a b ≡ arrow (tuple (string_ty ∷ string_ty ∷ [])) (string_ty) = q in
      let ea : a ≡ tuple (string_ty ∷ string_ty ∷ []) = cc in
      let hb : Takes1 ready k (string_ty) = (let eb : b ≡ string_ty = cc in subst (Takes1 ready k) eb hk) in
      let ha : HasTy p t sig v (tuple (string_ty ∷ string_ty ∷ [])) = subst (HasTy p t sig v) ea hv in
      let r = a_pair ready string_ty string_ty v ha in
      let x = a_string p t ready.typing sig m.store ready.store r.0 r.3 in
      let y = a_string p t ready.typing sig m.store ready.store r.1 r.4 in
      known ready (tuple_of m.store v) (r.0 ∷ r.1 ∷ []) (applied p.texts m k prim.Concat) r.2
      (two_texts ready prim.Concat k r.0 r.1 x.0 y.0 x.1 y.1 (text_safe ready (x.0 ++ y.0) k hb))
  builtin_safe prim.Compare v k g a b kg q hv hk =
      let e : arrow a b ≡ arrow (tuple (string_ty ∷ string_ty ∷ [])) (order_ty) = q in
      let ea : a ≡ tuple (string_ty ∷ string_ty ∷ []) = cc in
      let hb : Takes1 ready k (order_ty) = (let eb : b ≡ order_ty = cc in subst (Takes1 ready k) eb hk) in
      let ha : HasTy p t sig v (tuple (string_ty ∷ string_ty ∷ [])) = subst (HasTy p t sig v) ea hv in
      let r = a_pair ready string_ty string_ty v ha in
      let x = a_string p t ready.typing sig m.store ready.store r.0 r.3 in
      let y = a_string p t ready.typing sig m.store ready.store r.1 r.4 in
      known ready (tuple_of m.store v) (r.0 ∷ r.1 ∷ []) (applied p.texts m k prim.Compare) r.2
      (two_texts ready prim.Compare k r.0 r.1 x.0 y.0 x.1 y.1 (going_safe ready (Ret (Tag (order_of x.0 y.0)) k) (ret_one ready (Tag (order_of x.0 y.0)) k order_ty (ordered ready x.0 y.0) hb)))
  builtin_safe prim.Sub v k g a b kg q hv hk =
      let e : arrow a b ≡ arrow (tuple (string_ty ∷ int_ty ∷ [])) (char_ty) = q in
      let ea : a ≡ tuple (string_ty ∷ int_ty ∷ []) = cc in
      let hb : Takes1 ready k (char_ty) = (let eb : b ≡ char_ty = cc in subst (Takes1 ready k) eb hk) in
      let ha : HasTy p t sig v (tuple (string_ty ∷ int_ty ∷ [])) = subst (HasTy p t sig v) ea hv in
      let r = a_pair ready string_ty int_ty v ha in
      let x = a_string p t ready.typing sig m.store ready.store r.0 r.3 in
      let y = an_int p t ready.typing sig m.store ready.store r.1 r.4 in
      known ready (tuple_of m.store v) (r.0 ∷ r.1 ∷ []) (applied p.texts m k prim.Sub) r.2
      (subst (λ w. Safe p t m.store (applied p.texts m k prim.Sub (r.0 ∷ w ∷ []))) (sym y.1) (at_place ready r.0 x.0 x.1 y.0 k hb))
  builtin_safe prim.Substring v k g a b kg q hv hk =
      let e : arrow a b ≡ arrow (tuple (string_ty ∷ int_ty ∷ int_ty ∷ [])) (string_ty) = q in
      let ea : a ≡ tuple (string_ty ∷ int_ty ∷ int_ty ∷ []) = cc in
      let hb : Takes1 ready k (string_ty) = (let eb : b ≡ string_ty = cc in subst (Takes1 ready k) eb hk) in
      let ha : HasTy p t sig v (tuple (string_ty ∷ int_ty ∷ int_ty ∷ [])) = subst (HasTy p t sig v) ea hv in
      let r = a_triple ready string_ty int_ty int_ty v ha in
      let x = a_string p t ready.typing sig m.store ready.store r.0 r.4 in
      let y = an_int p t ready.typing sig m.store ready.store r.1 r.5 in
      let z = an_int p t ready.typing sig m.store ready.store r.2 r.6 in
      known ready (tuple_of m.store v) (r.0 ∷ r.1 ∷ r.2 ∷ []) (applied p.texts m k prim.Substring) r.3
      (subst (λ w. Safe p t m.store (applied p.texts m k prim.Substring (r.0 ∷ w ∷ r.2 ∷ []))) (sym y.1)
      (subst (λ w. Safe p t m.store (applied p.texts m k prim.Substring (r.0 ∷ Number y.0 ∷ w ∷ []))) (sym z.1) (at_places ready r.0 x.0 x.1 y.0 z.0 k hb)))
  builtin_safe prim.Negate v k g a b kg q hv hk =
      let e : arrow a b ≡ arrow (int_ty) (int_ty) = q in
      let ea : a ≡ int_ty = cc in
      let hb : Takes1 ready k (int_ty) = (let eb : b ≡ int_ty = cc in subst (Takes1 ready k) eb hk) in
      let ha : HasTy p t sig v (int_ty) = subst (HasTy p t sig v) ea hv in
      let x = an_int p t ready.typing sig m.store ready.store v ha in
      subst (λ v. Safe p t m.store (builtin p.texts m k prim.Negate v)) (sym x.1) (int_safe ready (neg_ℤ x.0) k hb)
  builtin_safe prim.Abs v k g a b kg q hv hk =
      let e : arrow a b ≡ arrow (int_ty) (int_ty) = q in
      let ea : a ≡ int_ty = cc in
      let hb : Takes1 ready k (int_ty) = (let eb : b ≡ int_ty = cc in subst (Takes1 ready k) eb hk) in
      let ha : HasTy p t sig v (int_ty) = subst (HasTy p t sig v) ea hv in
      let x = an_int p t ready.typing sig m.store ready.store v ha in
      subst (λ v. Safe p t m.store (builtin p.texts m k prim.Abs v)) (sym x.1) (int_safe ready (pos (unsigned_abs x.0)) k hb)
  builtin_safe prim.Chr v k g a b kg q hv hk =
      let e : arrow a b ≡ arrow (int_ty) (char_ty) = q in
      let ea : a ≡ int_ty = cc in
      let hb : Takes1 ready k (char_ty) = (let eb : b ≡ char_ty = cc in subst (Takes1 ready k) eb hk) in
      let ha : HasTy p t sig v (int_ty) = subst (HasTy p t sig v) ea hv in
      let x = an_int p t ready.typing sig m.store ready.store v ha in
      subst (λ v. Safe p t m.store (builtin p.texts m k prim.Chr v)) (sym x.1) (a_letter_of ready x.0 k hb)
  builtin_safe prim.Ord v k g a b kg q hv hk =
      let e : arrow a b ≡ arrow (char_ty) (int_ty) = q in
      let ea : a ≡ char_ty = cc in
      let hb : Takes1 ready k (int_ty) = (let eb : b ≡ int_ty = cc in subst (Takes1 ready k) eb hk) in
      let ha : HasTy p t sig v (char_ty) = subst (HasTy p t sig v) ea hv in
      let x = a_char p t ready.typing sig m.store ready.store v ha in
      subst (λ v. Safe p t m.store (builtin p.texts m k prim.Ord v)) (sym x.1) (going_safe ready (Ret (Number (pos x.0)) k) (ret_one ready (Number (pos x.0)) k int_ty refl hb))
  builtin_safe prim.Str v k g a b kg q hv hk =
      let e : arrow a b ≡ arrow (char_ty) (string_ty) = q in
      let ea : a ≡ char_ty = cc in
      let hb : Takes1 ready k (string_ty) = (let eb : b ≡ string_ty = cc in subst (Takes1 ready k) eb hk) in
      let ha : HasTy p t sig v (char_ty) = subst (HasTy p t sig v) ea hv in
      let x = a_char p t ready.typing sig m.store ready.store v ha in
      subst (λ v. Safe p t m.store (builtin p.texts m k prim.Str v)) (sym x.1) (text_safe ready (x.0 ∷ []) k hb)
  builtin_safe prim.Size v k g a b kg q hv hk =
      let e : arrow a b ≡ arrow (string_ty) (int_ty) = q in
      let ea : a ≡ string_ty = cc in
      let hb : Takes1 ready k (int_ty) = (let eb : b ≡ int_ty = cc in subst (Takes1 ready k) eb hk) in
      let ha : HasTy p t sig v (string_ty) = subst (HasTy p t sig v) ea hv in
      let x = a_string p t ready.typing sig m.store ready.store v ha in
      one_text ready prim.Size k v x.0 x.1 (going_safe ready (Ret (Number (pos (length x.0))) k) (ret_one ready (Number (pos (length x.0))) k int_ty refl hb))
  builtin_safe prim.Implode v k g a b kg q hv hk =
      let e : arrow a b ≡ arrow (list_ty char_ty) (string_ty) = q in
      let ea : a ≡ list_ty char_ty = cc in
      let hb : Takes1 ready k (string_ty) = (let eb : b ≡ string_ty = cc in subst (Takes1 ready k) eb hk) in
      let ha : HasTy p t sig v (list_ty char_ty) = subst (HasTy p t sig v) ea hv in
      let x = letters_some ready (suc (length m.store)) v ha (rank_of ready (suc (length m.store)) (length m.store) v (below ready v (list_ty char_ty) ha) (omega arith)) in
      subst (λ o. Safe p t m.store (imploded (see p.texts m.store) o >>= carry m k)) (sym x.1) (text_safe ready x.0 k hb)
  builtin_safe prim.Print v k g a b kg q hv hk =
      let e : arrow a b ≡ arrow (string_ty) (unit_ty) = q in
      let ea : a ≡ string_ty = cc in
      let hb : Takes1 ready k (unit_ty) = (let eb : b ≡ unit_ty = cc in subst (Takes1 ready k) eb hk) in
      let ha : HasTy p t sig v (string_ty) = subst (HasTy p t sig v) ea hv in
      let x = a_string p t ready.typing sig m.store ready.store v ha in
      one_text ready prim.Print k v x.0 x.1
      (record { after = m.store; done = refl; sig = sig; store = ready.store; descend = ready.descend; control = ret_one ready Nothing k unit_ty refl hb })
  builtin_safe prim.InputLine v k g a b kg q hv hk =
      let e : arrow a b ≡ arrow (instream_ty) (option_ty string_ty) = q in
      let ea : a ≡ instream_ty = cc in
      let hb : Takes1 ready k (option_ty string_ty) = (let eb : b ≡ option_ty string_ty = cc in subst (Takes1 ready k) eb hk) in
      let ha : HasTy p t sig v (instream_ty) = subst (HasTy p t sig v) ea hv in
      let x = a_stream p t ready.typing sig m.store ready.store v ha in
      subst (λ v. Safe p t m.store (builtin p.texts m k prim.InputLine v)) (sym x) (line_safe ready m.input k hb)
  builtin_safe prim.StdIn v k g a b kg q hv hk =
      let e : arrow a b ≡ instream_ty = q in cc
