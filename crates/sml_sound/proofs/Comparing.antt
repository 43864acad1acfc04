-- Values of a type that admits equality can be compared, and compare as pairs of such values.
use Rattle.std.proofs.Common.{◌≡◌, ℕ, Bool, true, false, List, [], ◌∷◌, Option, Some, None, refl, sym, ap, ◌∙◌, subst, ◌⊎◌, inl, inr}
use Rattle.std.specs.Prelude.{slice_get, cond, zip, nat_eq, bytes_eq}
use Rattle.std.specs.Ordering.{int_eq}
use Rattle.std.specs.List.{AllByRecursion}
use Rattle.std.proofs.lemmas.Bool.{eqb-true}
use Rattle.smlc_base.specs.declared.primitive.Primitive.{Primitive}
use Rattle.smlc_base.specs.declared.primitive.Primitive.TheVariants as prim
use Rattle.sml_tree.specs.declared.bare.Bare.{Bare}
use Rattle.sml_tree.specs.BareParts.{IsNumbered}
use Rattle.sml_tree.specs.IsBare.{HasSorts}
use Rattle.simulation.proofs.Lists.{get_below}
use Rattle.sml_types.specs.Tree.{Tree, admits, NoParts}
use Rattle.sml_types.specs.Library.{parts, exn_ty, arrow}
use Rattle.sml_types.specs.Typing.{Typing, IsTyping}
use Rattle.sml_types.proofs.TreeFacts.{and_both}
use Rattle.prim_meaning.specs.Meaning as mean
use Rattle.prim_meaning.specs.Meaning.{Seen, Verdict, verdict, compared, turn}
use Rattle.prim_meaning.specs.Strict.{is_seen}
use Rattle.sml_def.specs.Builtin.{see, see_text, see_block, see_builtin}
use Rattle.sml_def.specs.Match.{block_of}
use Rattle.sml_def.specs.State.{Value, Number, Letter, Nothing, Tag, Constant, Builtin, Maker, RefMaker, Library, At, Address, Block, Tuple, Applied, Text, Cell, ExnName, Packet, Closure, Frame, Pending}
use Rattle.sml_sound.specs.TypedStates.{Entry, HasTy, HaveTys, IsTuple, IsApplied, IsComparable, StoreTy, BlockTy, EntryTy, Holds}
use Rattle.sml_sound.proofs.Equality.{no_equality}
use Rattle.sml_sound.proofs.Families.{parts_same}
use Rattle.sml_sound.proofs.Matching.{block_has, applied_of}
use Rattle.sml_sound.proofs.Tables.{applied_arg}
use Rattle.sml_sound.proofs.Values.{View, a_number, a_letter, a_nothing, a_tag, a_constant, a_primitive, an_input, a_maker, a_ref_maker, a_name, a_tuple, an_applied, a_text, a_cell, a_packet, a_closure, view}

-- pairs that can be compared
abbrev pub PairsTy : Bare → Typing → List Entry → Verdict Value → Type 0
PairsTy p t sig (mean.AsPairs pairs) = AllByRecursion (λ q. IsComparable p t sig q.0 q.1) pairs
PairsTy p t sig _ = Unit {0}

-- ---- What is seen as a tuple or as an applied constructor

tuple_block : (a : Address) (fs : List Value) (o : Option Block) → see_block a o ≡ mean.Tuple fs → o ≡ Some (Tuple fs)
tuple_block a fs (Some (Tuple gs)) e = let same : gs ≡ fs = cc in ap (λ vs. Some (Tuple vs)) same
tuple_block a fs (Some (Applied n v)) e = cc
tuple_block a fs (Some (Text bytes)) e = cc
tuple_block a fs (Some (Cell v)) e = cc
tuple_block a fs (Some (ExnName x)) e = cc
tuple_block a fs (Some (Packet x v)) e = cc
tuple_block a fs (Some (Closure i rules env)) e = cc
tuple_block a fs (Some (Frame w next)) e = cc
tuple_block a fs (Some (Pending v w next)) e = cc
tuple_block a fs None e = cc

applied_block : (a b n : ℕ) (v : Value) (o : Option Block) → see_block a o ≡ mean.Applied b n v → o ≡ Some (Applied n v)
applied_block a b n v (Some (Applied m w)) e =
    let number : m ≡ n = cc in let inner : w ≡ v = cc in ap (λ m. Some (Applied m w)) number ∙ ap (λ w. Some (Applied n w)) inner
applied_block a b n v (Some (Tuple gs)) e = cc
applied_block a b n v (Some (Text bytes)) e = cc
applied_block a b n v (Some (Cell w)) e = cc
applied_block a b n v (Some (ExnName x)) e = cc
applied_block a b n v (Some (Packet x w)) e = cc
applied_block a b n v (Some (Closure i rules env)) e = cc
applied_block a b n v (Some (Frame w next)) e = cc
applied_block a b n v (Some (Pending u w next)) e = cc
applied_block a b n v None e = cc

not_text : (o : Option (List ℕ)) (fs : List Value) → see_text o ≡ mean.Tuple fs → ⊥
not_text None fs e = cc
not_text (Some bytes) fs e = cc

text_unapplied : (o : Option (List ℕ)) (b n : ℕ) (v : Value) → see_text o ≡ mean.Applied b n v → ⊥
text_unapplied None b n v e = cc
text_unapplied (Some bytes) b n v e = cc

not_builtin : (f : Primitive) (fs : List Value) → see_builtin f ≡ mean.Tuple fs → ⊥
not_builtin prim.StdIn fs e = cc
not_builtin _ fs e = cc

builtin_unapplied : (f : Primitive) (b n : ℕ) (v : Value) → see_builtin f ≡ mean.Applied b n v → ⊥
builtin_unapplied prim.StdIn b n v e = cc
builtin_unapplied _ b n v e = cc

module _ (texts : List (List ℕ)) (bs : List Block) where
  seen_tuple : (v : Value) (fs : List Value) → see texts bs v ≡ mean.Tuple fs → block_of bs v ≡ Some (Tuple fs)
  seen_tuple (At a) fs e = tuple_block a fs (slice_get bs a) e
  seen_tuple (Constant n) fs e = absurd (not_text (slice_get texts n) fs e)
  seen_tuple (Builtin f) fs e = absurd (not_builtin f fs e)
  seen_tuple (Number z) fs e = cc
  seen_tuple (Letter c) fs e = cc
  seen_tuple Nothing fs e = cc
  seen_tuple (Tag n) fs e = cc
  seen_tuple (Maker n) fs e = cc
  seen_tuple RefMaker fs e = cc
  seen_tuple (Library x) fs e = cc

  seen_applied : (v : Value) (b n : ℕ) (w : Value) → see texts bs v ≡ mean.Applied b n w → block_of bs v ≡ Some (Applied n w)
  seen_applied (At a) b n w e = applied_block a b n w (slice_get bs a) e
  seen_applied (Constant m) b n w e = absurd (text_unapplied (slice_get texts m) b n w e)
  seen_applied (Builtin f) b n w e = absurd (builtin_unapplied f b n w e)
  seen_applied (Number z) b n w e = cc
  seen_applied (Letter c) b n w e = cc
  seen_applied Nothing b n w e = cc
  seen_applied (Tag m) b n w e = cc
  seen_applied (Maker m) b n w e = cc
  seen_applied RefMaker b n w e = cc
  seen_applied (Library x) b n w e = cc

module _ (p : Bare) (t : Typing) (typing : IsTyping p t) (numbered : IsNumbered p.nodes) (sorts : AllByRecursion (HasSorts p.nodes) p.nodes) (sig : List Entry) (bs : List Block) (store : StoreTy p t sig sig bs) where
  -- ---- A comparison has an answer

  no_function : (a b u : Tree) → u ≡ arrow a b → admits t.names u ≡ true → ⊥
  no_function a b u e h = let x : false ≡ true = sym (ap (admits t.names) e) ∙ h in cc

  no_exception : (u : Tree) → (u ≡ exn_ty) ⊎ ((a : Tree) × (u ≡ arrow a exn_ty)) → admits t.names u ≡ true → ⊥
  no_exception u (inl e) h = no_equality p t typing.library 3 _ NoParts refl refl (sym (ap (admits t.names) e) ∙ h)
  no_exception u (inr e) h = no_function e.0 exn_ty u e.1 h

  abbrev IsSeen : Value → Type 0
  IsSeen v = is_seen (see p.texts bs v) ≡ true

  at_block : (v : Value) (a : Address) (b : Block) → v ≡ At a → slice_get bs a ≡ Some b → is_seen (see_block a (Some b)) ≡ true → IsSeen v
  at_block v a b ev eb h = ap (λ v. is_seen (see p.texts bs v)) ev ∙ ap (λ o. is_seen (see_block a o)) eb ∙ h

  seen_by : (v : Value) (u : Tree) → View p t typing sig bs store v u → admits t.names u ≡ true → IsSeen v
  seen_by v u (a_number z ev e) h = ap (λ v. is_seen (see p.texts bs v)) ev
  seen_by v u (a_letter c ev e) h = ap (λ v. is_seen (see p.texts bs v)) ev
  seen_by v u (a_nothing ev e) h = ap (λ v. is_seen (see p.texts bs v)) ev
  seen_by v u (a_tag k n ps g ev c e) h = ap (λ v. is_seen (see p.texts bs v)) ev
  seen_by v u (a_constant c ev lt e) h =
      ap (λ v. is_seen (see p.texts bs v)) ev ∙ ap (λ o. is_seen {V = Value} (see_text o)) (get_below p.texts c lt).1
  seen_by v u (a_primitive f g a b ev kg ei e) h = absurd (no_function a b u e h)
  seen_by v u (an_input ev e) h = ap (λ v. is_seen (see p.texts bs v)) ev
  seen_by v u (a_maker k m g ev mk e) h = absurd (no_function _ _ u e h)
  seen_by v u (a_ref_maker a ev e) h = absurd (no_function _ _ u e h)
  seen_by v u (a_name is e name np) h = absurd (no_exception u e h)
  seen_by v u (a_tuple a vs ev eb i) h = at_block v a (Tuple vs) ev eb refl
  seen_by v u (an_applied a k w ev eb i) h = at_block v a (Applied k w) ev eb refl
  seen_by v u (a_text a bytes ev eb e) h = at_block v a (Text bytes) ev eb refl
  seen_by v u (a_cell a w b f ev eb es ef i e) h = at_block v a (Cell w) ev eb refl
  seen_by v u (a_packet a x w b ev eb is i e) h = absurd (no_exception u (inl e) h)
  seen_by v u (a_closure a i rules env g b c ev eb en ei e k) h = absurd (no_function b c u e h)

  -- a value of a type that admits equality has one
  pub seen_equal : (v : Value) (u : Tree) → HasTy p t sig v u → admits t.names u ≡ true → is_seen (see p.texts bs v) ≡ true
  seen_equal v u hv h = seen_by v u (view p t typing sig bs store v u hv) h

  -- ---- What is compared next

  tuple_ty : (v : Value) (u : Tree) (fs : List Value) → HasTy p t sig v u → see p.texts bs v ≡ mean.Tuple fs → IsTuple p t sig fs u
  tuple_ty v u fs h e =
      let b = block_has p t typing numbered sorts sig bs store v u (Tuple fs) h (seen_tuple p.texts bs v fs e) in go b.0 b.1 b.2
    where
      go : (q : Entry) → BlockTy p t sig (Tuple fs) q → EntryTy p t q u → IsTuple p t sig fs u
      go (Holds f) k i = k u i
      go _ k i = absurd k

  applied_ty : (v : Value) (u : Tree) (b n : ℕ) (w : Value) → HasTy p t sig v u → see p.texts bs v ≡ mean.Applied b n w → IsApplied p t sig n w u
  applied_ty v u b n w h e =
      let k = block_has p t typing numbered sorts sig bs store v u (Applied n w) h (seen_applied p.texts bs v b n w e) in
      applied_of p t typing numbered sorts sig bs store n w u k.0 k.1 k.2

  fields_pair : (fs gs : List Value) (us : List Tree) → HaveTys p t sig fs us → HaveTys p t sig gs us → admits t.names (parts us) ≡ true → AllByRecursion (λ q. IsComparable p t sig q.0 q.1) (zip fs gs)
  fields_pair [] gs us h k e = tt
  fields_pair (f ∷ fs) [] us h k e = tt
  fields_pair (f ∷ fs) (g ∷ gs) [] h k e = absurd h
  fields_pair (f ∷ fs) (g ∷ gs) (u ∷ us) h k e =
      let both = and_both (admits t.names u) (admits t.names (parts us)) e in
      ((u, both.0, h.0, k.0), fields_pair fs gs us h.1 k.1 both.1)

  tuples_pair : (fs gs : List Value) (u : Tree) → IsTuple p t sig fs u → IsTuple p t sig gs u → admits t.names u ≡ true → AllByRecursion (λ q. IsComparable p t sig q.0 q.1) (zip fs gs)
  tuples_pair fs gs u h k e =
      let same : h.1 ≡ k.1 = parts_same h.1 k.1 (let x = sym h.2 ∙ k.2 in cc) in
      fields_pair fs gs h.1 h.3 (subst (HaveTys p t sig gs) (sym same) k.3) (sym (ap (admits t.names) h.2) ∙ e)

  arguments_pair : (n : ℕ) (v w : Value) (u : Tree) → IsApplied p t sig n v u → IsApplied p t sig n w u → admits t.names u ≡ true → IsComparable p t sig v w
  arguments_pair n v w u h k e =
      (_, h.2.equal h.1 (sym (ap (admits t.names) h.3) ∙ e), h.4, applied_arg p t sig n h.0.name h.0.params h.0.arg u h.1 w k h.2.is_con h.3)

  verdict_pairs : (b : Bool) → PairsTy p t sig (verdict b)
  verdict_pairs true = tt
  verdict_pairs false = tt

  pub turn_pairs : (v w : Value) → IsComparable p t sig v w → PairsTy p t sig (turn (see p.texts bs) v w)
  turn_pairs v w h = go (see p.texts bs v) (see p.texts bs w) refl refl
    where
      go : (x y : Seen Value) → see p.texts bs v ≡ x → see p.texts bs w ≡ y → PairsTy p t sig (compared x y)
      go (mean.Scalar x) (mean.Scalar y) ex ey = verdict_pairs (int_eq x y)
      go (mean.Text xs) (mean.Text ys) ex ey = verdict_pairs (bytes_eq xs ys)
      go (mean.Tuple fs) (mean.Tuple gs) ex ey = tuples_pair fs gs h.0 (tuple_ty v h.0 fs h.2 ex) (tuple_ty w h.0 gs h.3 ey) h.1
      go (mean.Applied a m x) (mean.Applied b n y) ex ey = same (nat_eq m n) refl
        where
          same : (b : Bool) → nat_eq m n ≡ b → PairsTy p t sig (cond b (mean.AsPairs ((x, y) ∷ [])) mean.Unequal)
          same true e = (
            arguments_pair m x y h.0 (applied_ty v h.0 a m x h.2 ex) (subst (λ k. IsApplied p t sig k y h.0) (sym (eqb-true m n e)) (applied_ty w h.0 b n y h.3 ey)) h.1,
            tt,
          )
          same false e = tt
      go (mean.Cell a x) (mean.Cell b y) ex ey = verdict_pairs (nat_eq a b)
      go _ _ ex ey = tt
