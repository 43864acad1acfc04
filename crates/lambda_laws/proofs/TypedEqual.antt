-- In a typed state what is compared has equality.
use Rattle.std.proofs.Common.{◌≡◌, Bool, true, false, List, [], ◌∷◌, Option, Some, None, refl, sym, ap, ◌∙◌, subst}
use Rattle.std.specs.Prelude.{slice_get, cond, ◌&&◌}
use Rattle.smlc_base.specs.declared.primitive.Primitive.{Primitive}
use Rattle.smlc_base.specs.declared.primitive.Primitive.TheVariants as prim
use Rattle.sml_tree.specs.declared.bare.Bare.{Bare}
use Rattle.sml_tree.specs.IsBare.{IsBare}
use Rattle.sml_types.specs.declared.types.TyVar.{TyVar}
use Rattle.sml_types.specs.Tree.{Tree, inst, admits}
use Rattle.sml_types.specs.Library.{arrow, bool_ty, labels_from, tuple, primitive_poly}
use Rattle.sml_types.specs.Typing.{Typing, IsTyping}
use Rattle.prim_meaning.specs.Strict.{is_seen}
use Rattle.sml_def.specs.Builtin.{see}
use Rattle.sml_def.specs.Match.{fields_of}
use Rattle.sml_def.specs.Maybe.{or_else}
use Rattle.sml_def.specs.State.{Value, Builtin, Block, Pending, Control, Apply, Eq}
use Rattle.sml_sound.specs.TypedStates.{KeepsMarks, Entry, Compares, HasTy, HaveTys, IsComparable, BlockTy, StoreTy, ControlTy}
use Rattle.sml_sound.proofs.Comparing.{seen_equal}
use Rattle.sml_sound.proofs.Families.{agrees_self}
use Rattle.sml_sound.proofs.Grow.{store_get}
use Rattle.sml_sound.proofs.Values.{a_record}
use Rattle.lambda_ir.specs.Free.{is_comparison}

module _ (p : Bare) (store : List Block) where
  abbrev pub both_seen : Value → Value → Bool
  both_seen v w = is_seen (see p.texts store v) && is_seen (see p.texts store w)

  abbrev pub two_seen : List Value → Bool
  two_seen (v ∷ w ∷ []) = both_seen v w
  two_seen vs = false

  -- where the arguments of a primitive are compared
  abbrev pub AppliesSeen : Primitive → Value → Type 0
  AppliesSeen f v = cond (is_comparison f) (or_else (fields_of store v) two_seen false) true ≡ true

  abbrev pub TurnSeen : Option Block → Type 0
  TurnSeen (Some (Pending v w next)) = both_seen v w ≡ true
  TurnSeen _ = Unit {0}

  abbrev pub ControlSeen : Control → Type 0
  ControlSeen (Apply (Builtin f) v k) = AppliesSeen f v
  ControlSeen (Eq (Some a) t k) = TurnSeen (slice_get store a)
  ControlSeen _ = Unit {0}

module _ (p : Bare) (t : Typing) (typing : IsTyping p t) (bare : IsBare p) (sig : List Entry) (bs : List Block) (store : StoreTy p t sig sig bs) where
  pair_seen : (v w : Value) → IsComparable p t sig v w → both_seen p bs v w ≡ true
  pair_seen v w h =
      let one = λ (v : Value) (hv : HasTy p t sig v h.0). seen_equal p t typing bare.numbered bare.sorts sig bs store v h.0 hv h.1 in
      ap (λ b. b && is_seen (see p.texts bs w)) (one v h.2) ∙ one w h.3

  -- two fields of one type that admits equality
  fields_seen : (x : Tree) (v : Value) → admits t.names x ≡ true → HasTy p t sig v (tuple (x ∷ x ∷ [])) → or_else (fields_of bs v) (two_seen p bs) false ≡ true
  fields_seen x v e h =
      let r = a_record p t typing sig bs store (labels_from 0 (x ∷ x ∷ [])) (x ∷ x ∷ []) v h in
      ap (λ o. or_else o (two_seen p bs) false) r.1 ∙ two r.0 r.2
    where
      two : (vs : List Value) → HaveTys p t sig vs (x ∷ x ∷ []) → two_seen p bs vs ≡ true
      two [] k = absurd k
      two (v ∷ []) k = absurd k.1
      two (v ∷ w ∷ []) k = pair_seen v w (x, e, k.0, k.1.0)
      two (v ∷ w ∷ y ∷ vs) k = absurd k.1.1

  argument_seen : (v : Value) (g : TyVar → Tree) (a b : Tree) → KeepsMarks t.names g → arrow a b ≡ inst g (primitive_poly prim.Equal).body → HasTy p t sig v a → or_else (fields_of bs v) (two_seen p bs) false ≡ true
  argument_seen v g a b kg e hv =
      let x : Tree = g (record { num = 0; eq = true }) in
      let q : arrow a b ≡ arrow (tuple (x ∷ x ∷ [])) bool_ty = e in
      let ea : a ≡ tuple (x ∷ x ∷ []) = cc in
      fields_seen x v (kg (record { num = 0; eq = true }) refl) (subst (HasTy p t sig v) ea hv)

  applies_seen : (f : Primitive) (v : Value) (g : TyVar → Tree) (a b : Tree) → KeepsMarks t.names g → arrow a b ≡ inst g (primitive_poly f).body → HasTy p t sig v a → AppliesSeen p bs f v
  applies_seen prim.Equal v g a b kg e hv = argument_seen v g a b kg e hv
  applies_seen prim.Unequal v g a b kg e hv = argument_seen v g a b kg e hv
  applies_seen _ v g a b kg e hv = refl

  turn_seen : (c : Block) → BlockTy p t sig c Compares → TurnSeen p bs (Some c)
  turn_seen (Pending v w next) h = pair_seen v w h.0
  turn_seen _ h = tt

  pub control_seen : (c : Control) → ControlTy p t sig c → ControlSeen p bs c
  control_seen (Apply (Builtin f) v k) h =
      let self = agrees_self t.names h.family.gens h.family.at h.keeps in
      let q = h.function h.family.at self in
      applies_seen f v q.0 (inst h.family.at h.arg) (inst h.family.at h.family.ty) q.1 q.2 (h.argument h.family.at self)
  control_seen (Apply _ v k) h = tt
  control_seen (Eq (Some a) q k) h =
      let c = store_get p t sig sig bs a Compares store h.0 in
      subst (TurnSeen p bs) (sym c.1) (turn_seen c.0 c.2)
  control_seen (Eq None q k) h = tt
  control_seen _ h = tt
