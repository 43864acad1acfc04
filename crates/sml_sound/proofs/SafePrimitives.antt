-- What the primitives answer is of their types: numbers, strings, comparisons and the characters of a list.
use Rattle.simulation.proofs.Lists.{get_last}
use Rattle.prim_meaning.specs.Data as dat
use Rattle.prim_meaning.specs.Data.{Plain, AScalar, AText, is_int, order_of, line_of, plain}
use Rattle.prim_meaning.specs.Meaning as mean
use Rattle.prim_meaning.specs.Meaning.{Seen, Outcome, compared, is_deep, decided, datum, plainly, letters, letters_from, pair_in, letter_in, consed, on_pair, equals}
use Rattle.sml_def.specs.Builtin.{see_text, see_block, see, carry_plain, carry, applied, builtin, raising}
use Rattle.sml_def.specs.Match.{tuple_block, text_block, bytes_of, fields_of as tuple_of}
use Rattle.sml_def.specs.Maybe.{◌>>=◌}
use Rattle.sml_def.specs.Memory.{Memory, Next, making}
use Rattle.sml_def.specs.State.{Cell, ExnName, Packet, Closure, Frame, Applied, Text, Pending, Eq, truth, Library, Maker, RefMaker, Tag, Number, Letter, Nothing, Constant, Builtin, Value, At, Address, Block, Tuple, Ret}
use Rattle.sml_sound.proofs.Families.{only, agrees_self}
use Rattle.sml_sound.proofs.Grow.{store_up, store_len, store_append, accepts_up}
use Rattle.sml_sound.proofs.SafeActs.{Ready, Safe, descend_append, descend_get, going_safe, making_safe, new_at, accept_map, made_safe}
use Rattle.sml_sound.proofs.SafeDeclarations.{get_mid}
use Rattle.sml_sound.proofs.SafeNodes.{known}
use Rattle.sml_sound.proofs.SafeReturns.{raises}
use Rattle.sml_sound.proofs.Tables.{library_con}
use Rattle.sml_sound.proofs.Equality.{option_equal}
use Rattle.sml_sound.proofs.Values.{a_list, an_int, a_char, a_record}
use Rattle.sml_sound.specs.TypedStates.{IsComparable, InFamily, Compares, BlockTy, IsMaking, IsBelow, HaveTys, one, Entry, Holds, HasTy, Accepts, TakesAll, TakesAny, Fits, Descends, ControlTy}
use Rattle.sml_tree.specs.declared.bare.Bare.{Bare}
use Rattle.smlc_base.specs.declared.exception.LibraryExn.{LibraryExn}
use Rattle.smlc_base.specs.declared.exception.LibraryExn.TheVariants as exn
use Rattle.sml_types.proofs.TreeFacts.{inst_id}
use Rattle.sml_types.specs.Library.{bool_ty, list_ty, option_ty, order_ty, labels_from, exn_ty, tuple, library_exn, int_ty, char_ty, string_ty}
use Rattle.sml_types.specs.Tree.{Variable, Tree}
use Rattle.sml_types.specs.Typing.{Typing}
use Rattle.smlc_base.specs.declared.primitive.Primitive.{Primitive}
use Rattle.smlc_base.specs.declared.primitive.Primitive.TheVariants as prim
use Rattle.std.proofs.Common.{zero, append_assoc, length-append, ⊎_elim, ◌≡◌, ℕ, suc, ◌+◌, ◌<◌, Bool, true, false, List, [], ◌∷◌, ◌++◌, length, Option, Some, None, refl, sym, ap, ◌∙◌, subst, arith, inl}
use Rattle.std.specs.List.{AllByRecursion}
use Rattle.std.specs.Prelude.{ℤ, pos, negsuc, if◌then◌else◌, nat_lt, nat_eq, take, drop, cond, slice_get}

module _ {p : Bare} {t : Typing} {m : Memory} {sig : List Entry} (ready : Ready p t m sig) where
  -- ---- What takes one type

  abbrev pub Takes1 : Option Address → Tree → Type 0
  Takes1 k u = Accepts p t sig k (λ f b. ((v : Tree) → InFamily t.names f v → v ≡ u) × (b ≡ false))

  pub ret_one : (v : Value) (k : Option Address) (u : Tree) → HasTy p t sig v u → Takes1 k u → ControlTy p t sig (Ret v k)
  ret_one v k u h hk =
      accept_map ready sig k (λ f b. ((v : Tree) → InFamily t.names f v → v ≡ u) × (b ≡ false)) (Fits p t sig v) (λ f b q. ((λ w i. subst (HasTy p t sig v) (sym (q.0 w i)) h), (λ e. let x = q.1 in cc))) hk

  pub raise_one : (e : LibraryExn) (k : Option Address) (u : Tree) → library_exn e ≡ exn_ty → Takes1 k u → ControlTy p t sig (raising e k)
  raise_one e k u h hk =
      raises ready e k h (accept_map ready sig k (λ f b. ((v : Tree) → InFamily t.names f v → v ≡ u) × (b ≡ false)) (TakesAny p t) (λ f b q. tt) hk)

  takes_one : (k : Option Address) (u : Tree) → Takes1 k u → Accepts p t sig k (TakesAll p t (one Variable u))
  takes_one k u hk =
      accept_map ready sig k (λ f b. ((v : Tree) → InFamily t.names f v → v ≡ u) × (b ≡ false)) (TakesAll p t (one Variable u)) (λ f b q. ((λ w i. (Variable, agrees_self t.names [] Variable (λ v e. e), q.0 w i ∙ sym (inst_id u))), q.1)) hk

  pub is_one : (u v : Tree) → InFamily t.names (one Variable u) v → v ≡ u
  is_one u v i = only t.names Variable u v i ∙ inst_id u

  pub made_one : (b : Block) (k : Option Address) (u : Tree) → BlockTy p t sig b (Holds (one Variable u)) → Descends (length m.store) b → Takes1 k u → Safe p t m.store (making m b (λ a. Ret (At a) k))
  made_one b k u hb d hk = made_safe ready b (one Variable u) k hb d (takes_one k u hk)

  -- ---- Primitives

  pub true_false : (q : Bool) → HasTy p t sig (truth q) bool_ty
  true_false true = (4, [], Variable, library_con p t ready.typing.library 4 1 _ _ refl refl, refl)
  true_false false = (4, [], Variable, library_con p t ready.typing.library 4 0 _ _ refl refl, refl)

  pub ordered : (xs ys : List ℕ) → HasTy p t sig (Tag (order_of xs ys)) order_ty
  ordered [] [] = (7, [], Variable, library_con p t ready.typing.library 7 1 _ _ refl refl, refl)
  ordered [] (y ∷ ys) = (7, [], Variable, library_con p t ready.typing.library 7 0 _ _ refl refl, refl)
  ordered (x ∷ xs) [] = (7, [], Variable, library_con p t ready.typing.library 7 2 _ _ refl refl, refl)
  ordered (x ∷ xs) (y ∷ ys) = go (nat_lt x y) (nat_eq x y) (ordered xs ys)
    where
      go : (a b : Bool) → HasTy p t sig (Tag (order_of xs ys)) order_ty → HasTy p t sig (Tag (if a then 0 else if b then order_of xs ys else 2)) order_ty
      go true b h = (7, [], Variable, library_con p t ready.typing.library 7 0 _ _ refl refl, refl)
      go false true h = h
      go false false h = (7, [], Variable, library_con p t ready.typing.library 7 2 _ _ refl refl, refl)

  pub a_pair : (a b : Tree) (v : Value) → HasTy p t sig v (tuple (a ∷ b ∷ [])) → (x : Value) × (y : Value) × (tuple_of m.store v ≡ Some (x ∷ y ∷ [])) × HasTy p t sig x a × HasTy p t sig y b
  a_pair a b v h =
      let r = a_record p t ready.typing sig m.store ready.store (labels_from 0 (a ∷ b ∷ [])) (a ∷ b ∷ []) v h in
      go r.0 r.1 r.2
    where
      go : (vs : List Value) → tuple_of m.store v ≡ Some vs → HaveTys p t sig vs (a ∷ b ∷ []) → (x : Value) × (y : Value) × (tuple_of m.store v ≡ Some (x ∷ y ∷ [])) × HasTy p t sig x a × HasTy p t sig y b
      go [] e g = absurd g
      go (x ∷ []) e g = absurd g.1
      go (x ∷ y ∷ []) e g = (x, y, e, g.0, g.1.0)
      go (x ∷ y ∷ z ∷ vs) e g = absurd g.1.1

  pub a_triple : (a b c : Tree) (v : Value) → HasTy p t sig v (tuple (a ∷ b ∷ c ∷ [])) → (x : Value) × (y : Value) × (z : Value) × (tuple_of m.store v ≡ Some (x ∷ y ∷ z ∷ [])) × HasTy p t sig x a × HasTy p t sig y b × HasTy p t sig z c
  a_triple a b c v h =
      let r = a_record p t ready.typing sig m.store ready.store (labels_from 0 (a ∷ b ∷ c ∷ [])) (a ∷ b ∷ c ∷ []) v h in
      go r.0 r.1 r.2
    where
      go : (vs : List Value) → tuple_of m.store v ≡ Some vs → HaveTys p t sig vs (a ∷ b ∷ c ∷ []) → (x : Value) × (y : Value) × (z : Value) × (tuple_of m.store v ≡ Some (x ∷ y ∷ z ∷ [])) × HasTy p t sig x a × HasTy p t sig y b × HasTy p t sig z c
      go [] e g = absurd g
      go (x ∷ []) e g = absurd g.1
      go (x ∷ y ∷ []) e g = absurd g.1.1
      go (x ∷ y ∷ z ∷ []) e g = (x, y, z, e, g.0, g.1.0, g.1.1.0)
      go (x ∷ y ∷ z ∷ w ∷ vs) e g = absurd g.1.1.1

  -- ---- What is seen

  pub seen_text : (v : Value) (bytes : List ℕ) → bytes_of p m.store v ≡ Some bytes → see p.texts m.store v ≡ mean.Text bytes
  seen_text (Constant n) bytes e = ap see_text e
  seen_text (At a) bytes e = go (slice_get m.store a) e
    where
      go : (o : Option Block) → text_block o ≡ Some bytes → see_block a o ≡ mean.Text bytes
      go (Some (Text cs)) e = let same : cs ≡ bytes = cc in ap mean.Text same
      go None e = absurd (cc)
      go (Some (Tuple vs)) e = absurd (cc)
      go (Some (Applied n v)) e = absurd (cc)
      go (Some (Cell v)) e = absurd (cc)
      go (Some (ExnName x)) e = absurd (cc)
      go (Some (Packet x v)) e = absurd (cc)
      go (Some (Closure i rules env)) e = absurd (cc)
      go (Some (Frame w next)) e = absurd (cc)
      go (Some (Pending v w next)) e = absurd (cc)
  seen_text _ bytes e = absurd (cc)

  seen_pair : (v x y : Value) → tuple_of m.store v ≡ Some (x ∷ y ∷ []) → see p.texts m.store v ≡ mean.Tuple (x ∷ y ∷ [])
  seen_pair (At a) x y e = go (slice_get m.store a) e
    where
      go : (o : Option Block) → tuple_block o ≡ Some (x ∷ y ∷ []) → see_block a o ≡ mean.Tuple (x ∷ y ∷ [])
      go (Some (Tuple vs)) e = let same : vs ≡ x ∷ y ∷ [] = cc in ap mean.Tuple same
      go None e = absurd (cc)
      go (Some (Text cs)) e = absurd (cc)
      go (Some (Applied n v)) e = absurd (cc)
      go (Some (Cell v)) e = absurd (cc)
      go (Some (ExnName x)) e = absurd (cc)
      go (Some (Packet x v)) e = absurd (cc)
      go (Some (Closure i rules env)) e = absurd (cc)
      go (Some (Frame w next)) e = absurd (cc)
      go (Some (Pending v w next)) e = absurd (cc)
  seen_pair Nothing x y e = absurd (cc)
  seen_pair _ x y e = absurd (cc)

  -- a primitive on data
  abbrev pub on_data : Option Address → Primitive → List dat.Datum → Next
  on_data k f ds = plainly (plain m.input f ds) >>= carry m k

  pub one_text : (f : Primitive) (k : Option Address) (v : Value) (bytes : List ℕ) → bytes_of p m.store v ≡ Some bytes → Safe p t m.store (on_data k f (AText bytes ∷ [])) → Safe p t m.store (on_data k f (datum (see p.texts m.store v) ∷ []))
  one_text f k v bytes e h = subst (λ s. Safe p t m.store (on_data k f (datum s ∷ []))) (sym (seen_text v bytes e)) h

  pub two_texts : (f : Primitive) (k : Option Address) (v w : Value) (bytes more : List ℕ) → bytes_of p m.store v ≡ Some bytes → bytes_of p m.store w ≡ Some more → Safe p t m.store (on_data k f (AText bytes ∷ AText more ∷ [])) → Safe p t m.store (on_data k f (datum (see p.texts m.store v) ∷ datum (see p.texts m.store w) ∷ []))
  two_texts f k v w bytes more e g h =
      subst (λ s. Safe p t m.store (on_data k f (datum s ∷ datum (see p.texts m.store w) ∷ []))) (sym (seen_text v bytes e)) (subst (λ s. Safe p t m.store (on_data k f (AText bytes ∷ datum s ∷ []))) (sym (seen_text w more g)) h)

  -- ---- What comes of data

  pub int_safe : (z : ℤ) (k : Option Address) → Takes1 k int_ty → Safe p t m.store (carry_plain m k (dat.int_result z))
  int_safe z k hk = go (is_int z)
    where
      go : (q : Bool) → Safe p t m.store (carry_plain m k (cond q (dat.ANumber z) (dat.Fails dat.TooLarge)))
      go true = going_safe ready (Ret (Number z) k) (ret_one (Number z) k int_ty refl hk)
      go false = going_safe ready (raising exn.OverflowExn k) (raise_one exn.OverflowExn k int_ty refl hk)

  pub divided_safe : (f : ℤ → ℤ → ℤ) (x y : ℤ) (k : Option Address) → Takes1 k int_ty → Safe p t m.store (carry_plain m k (dat.divided f x y))
  divided_safe f x (pos zero) k hk = going_safe ready (raising exn.DivExn k) (raise_one exn.DivExn k int_ty refl hk)
  divided_safe f x (pos (suc n)) k hk = int_safe (f x (pos (suc n))) k hk
  divided_safe f x (negsuc n) k hk = int_safe (f x (negsuc n)) k hk

  pub truth_safe : (q : Bool) (k : Option Address) → Takes1 k bool_ty → Safe p t m.store (carry_plain m k (dat.truth q))
  truth_safe q k hk = going_safe ready (Ret (truth q) k) (ret_one (truth q) k bool_ty (true_false q) hk)

  pub on_two_ints : (f : Primitive) (v : Value) (k : Option Address) (r : ℤ → ℤ → Plain) → ((x y : ℤ) → applied p.texts m k f (Number x ∷ Number y ∷ []) ≡ carry_plain m k (r x y)) → ((x y : ℤ) → Safe p t m.store (carry_plain m k (r x y))) → HasTy p t sig v (tuple (int_ty ∷ int_ty ∷ [])) → Safe p t m.store (tuple_of m.store v >>= applied p.texts m k f)
  on_two_ints f v k g e h hv =
      let r = a_pair int_ty int_ty v hv in
      let x = an_int p t ready.typing sig m.store ready.store r.0 r.3 in
      let y = an_int p t ready.typing sig m.store ready.store r.1 r.4 in
      known ready (tuple_of m.store v) (r.0 ∷ r.1 ∷ []) (applied p.texts m k f) r.2
      (subst (Safe p t m.store) (sym (ap (λ a. applied p.texts m k f (a ∷ r.1 ∷ [])) x.1 ∙ ap (λ b. applied p.texts m k f (Number x.0 ∷ b ∷ [])) y.1 ∙ e x.0 y.0)) (h x.0 y.0))

  pub text_safe : (bytes : List ℕ) (k : Option Address) → Takes1 k string_ty → Safe p t m.store (carry_plain m k (dat.AString bytes))
  text_safe bytes k hk = made_one (Text bytes) k string_ty (λ u i. is_one string_ty u i) tt hk

  pub compare_safe : (v w : Value) (q : Bool) (k : Option Address) → IsComparable p t sig v w → Takes1 k bool_ty → Safe p t m.store (carry m k (equals (see p.texts m.store) v w q))
  compare_safe v w q k hc hk = go (is_deep (see p.texts m.store v) (see p.texts m.store w))
    where
      go : (d : Bool) → Safe p t m.store (carry m k (cond d (mean.Compares v w q) (mean.Comes (dat.truth (decided (compared (see p.texts m.store v) (see p.texts m.store w)) q)))))
      go true =
          making_safe ready (Pending v w None) Compares (λ a. Eq (Some a) q k) (hc, tt) tt (new_at ready Compares, accepts_up p t sig (Compares ∷ []) k (TakesAll p t (one Variable bool_ty)) (takes_one k bool_ty hk))
      go false = truth_safe (decided (compared (see p.texts m.store v) (see p.texts m.store w)) q) k hk

  sub_safe : (o : Option ℕ) (k : Option Address) → Takes1 k char_ty → Safe p t m.store (carry_plain m k (dat.sub_result o))
  sub_safe (Some c) k hk = going_safe ready (Ret (Letter c) k) (ret_one (Letter c) k char_ty refl hk)
  sub_safe None k hk = going_safe ready (raising exn.SubscriptExn k) (raise_one exn.SubscriptExn k char_ty refl hk)

  place_safe : (bytes : List ℕ) (z : ℤ) (k : Option Address) → Takes1 k char_ty → Safe p t m.store (carry_plain m k (dat.at_place bytes z))
  place_safe bytes (pos n) k hk = sub_safe (slice_get bytes n) k hk
  place_safe bytes (negsuc n) k hk = sub_safe None k hk

  part_safe : (bytes : List ℕ) (y z : ℤ) (k : Option Address) → Takes1 k string_ty → Safe p t m.store (carry_plain m k (dat.part_of bytes y z))
  part_safe bytes (pos i) (pos n) k hk = go (nat_lt (length bytes) (i + n))
    where
      go : (q : Bool) → Safe p t m.store (carry_plain m k (cond q (dat.Fails dat.OutOfRange) (dat.AString (take n (drop i bytes)))))
      go true = going_safe ready (raising exn.SubscriptExn k) (raise_one exn.SubscriptExn k string_ty refl hk)
      go false = text_safe (take n (drop i bytes)) k hk
  part_safe bytes (pos i) (negsuc n) k hk = going_safe ready (raising exn.SubscriptExn k) (raise_one exn.SubscriptExn k string_ty refl hk)
  part_safe bytes (negsuc i) (pos n) k hk = going_safe ready (raising exn.SubscriptExn k) (raise_one exn.SubscriptExn k string_ty refl hk)
  part_safe bytes (negsuc i) (negsuc n) k hk = going_safe ready (raising exn.SubscriptExn k) (raise_one exn.SubscriptExn k string_ty refl hk)

  pub at_place : (v : Value) (bytes : List ℕ) → bytes_of p m.store v ≡ Some bytes → (z : ℤ) (k : Option Address) → Takes1 k char_ty → Safe p t m.store (applied p.texts m k prim.Sub (v ∷ Number z ∷ []))
  at_place v bytes e z k hk =
      subst (λ s. Safe p t m.store (on_data k prim.Sub (datum s ∷ AScalar z ∷ []))) (sym (seen_text v bytes e)) (place_safe bytes z k hk)

  pub at_places : (v : Value) (bytes : List ℕ) → bytes_of p m.store v ≡ Some bytes → (y z : ℤ) (k : Option Address) → Takes1 k string_ty → Safe p t m.store (applied p.texts m k prim.Substring (v ∷ Number y ∷ Number z ∷ []))
  at_places v bytes e y z k hk =
      subst (λ s. Safe p t m.store (on_data k prim.Substring (datum s ∷ AScalar y ∷ AScalar z ∷ []))) (sym (seen_text v bytes e)) (part_safe bytes y z k hk)

  pub a_letter_of : (z : ℤ) (k : Option Address) → Takes1 k char_ty → Safe p t m.store (builtin p.texts m k prim.Chr (Number z))
  a_letter_of (pos n) k hk = go (nat_lt n 256)
    where
      go : (q : Bool) → Safe p t m.store (carry_plain m k (cond q (dat.ALetter n) (dat.Fails dat.NoCharacter)))
      go true = going_safe ready (Ret (Letter n) k) (ret_one (Letter n) k char_ty refl hk)
      go false = going_safe ready (raising exn.ChrExn k) (raise_one exn.ChrExn k char_ty refl hk)
  a_letter_of (negsuc n) k hk = going_safe ready (raising exn.ChrExn k) (raise_one exn.ChrExn k char_ty refl hk)

  ret_full : (full : List Entry) (v : Value) (k : Option Address) (u : Tree) → HasTy p t full v u → Accepts p t full k (λ f b. ((w : Tree) → InFamily t.names f w → w ≡ u) × (b ≡ false)) → ControlTy p t full (Ret v k)
  ret_full full v k u h hk =
      accept_map ready full k (λ f b. ((w : Tree) → InFamily t.names f w → w ≡ u) × (b ≡ false)) (Fits p t full v) (λ f b q. ((λ w i. subst (HasTy p t full v) (sym (q.0 w i)) h), (λ e. let x = q.1 in cc))) hk

  -- a line of the input
  pub line_safe : (input : List ℕ) (k : Option Address) → Takes1 k (option_ty string_ty) → Safe p t m.store (carry_plain m k (dat.read_line input))
  line_safe [] k hk =
      going_safe ready (Ret (Tag 0) k) (ret_one (Tag 0) k (option_ty string_ty) (6, ready.typing.library.param ∷ [], (λ v. string_ty), library_con p t ready.typing.library 6 0 _ _ refl refl, refl) hk)
  line_safe (c ∷ cs) k hk = record {
    after = m.store ++ Text (line_of (c ∷ cs)) ∷ Applied 1 (At (length m.store)) ∷ [];
    done = refl;
    sig = sig ++ Holds (one Variable string_ty) ∷ Holds (one Variable (option_ty string_ty)) ∷ [];
    store = store_append p t (sig ++ Holds (one Variable string_ty) ∷ Holds (one Variable (option_ty string_ty)) ∷ []) sig (Holds (one Variable string_ty) ∷ Holds (one Variable (option_ty string_ty)) ∷ []) m.store (Text (line_of (c ∷ cs)) ∷ Applied 1 (At (length m.store)) ∷ []) (store_up p t sig (Holds (one Variable string_ty) ∷ Holds (one Variable (option_ty string_ty)) ∷ []) sig m.store ready.store) ((λ u i. is_one string_ty u i), ((λ u i. (record { name = 6; params = ready.typing.library.param ∷ []; arg = Variable ready.typing.library.param }, (λ v. string_ty), making, is_one (option_ty string_ty) u i, at_string)), tt));
    descend = descend_append 0 m.store (Text (line_of (c ∷ cs)) ∷ Applied 1 (At (length m.store)) ∷ []) ready.descend (tt, ((omega arith), tt));
    control = ret_full (sig ++ Holds (one Variable string_ty) ∷ Holds (one Variable (option_ty string_ty)) ∷ []) (At (suc (length m.store))) k (option_ty string_ty) (Holds (one Variable (option_ty string_ty)), at_second, (Variable, agrees_self t.names [] Variable (λ v e. e), refl)) (accepts_up p t sig (Holds (one Variable string_ty) ∷ Holds (one Variable (option_ty string_ty)) ∷ []) k (λ f b. ((w : Tree) → InFamily t.names f w → w ≡ option_ty string_ty) × (b ≡ false)) hk);
  }
    where
      at_string : HasTy p t (sig ++ Holds (one Variable string_ty) ∷ Holds (one Variable (option_ty string_ty)) ∷ []) (At (length m.store)) string_ty
      at_string = (
        Holds (one Variable string_ty),
        ap (slice_get (sig ++ Holds (one Variable string_ty) ∷ Holds (one Variable (option_ty string_ty)) ∷ [])) (sym (store_len p t sig sig m.store ready.store)) ∙ get_mid ready sig (Holds (one Variable string_ty)) (Holds (one Variable (option_ty string_ty)) ∷ []),
        (Variable, agrees_self t.names [] Variable (λ v e. e), refl),
      )

      at_second : slice_get (sig ++ Holds (one Variable string_ty) ∷ Holds (one Variable (option_ty string_ty)) ∷ []) (suc (length m.store)) ≡ Some (Holds (one Variable (option_ty string_ty)))
      at_second =
          let front = sig ++ Holds (one Variable string_ty) ∷ [] in
          let n : suc (length m.store) ≡ length front = omega (arith, store_len p t sig sig m.store ready.store, length-append sig (Holds (one Variable string_ty) ∷ [])) in
          ap (slice_get (sig ++ Holds (one Variable string_ty) ∷ Holds (one Variable (option_ty string_ty)) ∷ [])) n ∙ ap (λ l. slice_get l (length front)) (sym (append_assoc sig (Holds (one Variable string_ty) ∷ []) (Holds (one Variable (option_ty string_ty)) ∷ []))) ∙ get_last front (Holds (one Variable (option_ty string_ty)))

      making : IsMaking p t 1 (record { name = 6; params = ready.typing.library.param ∷ []; arg = Variable ready.typing.library.param })
      making = record { is_con = library_con p t ready.typing.library 6 1 _ _ refl refl; covers = inl refl; new = λ e. cc; equal = option_equal p t ready.typing.library }

  -- ---- Characters of a list

  abbrev Rank : ℕ → Value → Type 0
  Rank n (At a) = suc a < n
  Rank n _ = 0 < n

  pub rank_of : (n b : ℕ) (y : Value) → IsBelow b y → b < n → Rank n y
  rank_of n b (At a) h lt = omega (arith, h, lt)
  rank_of n b (Number z) h lt = omega (arith, lt)
  rank_of n b (Letter z) h lt = omega (arith, lt)
  rank_of n b Nothing h lt = omega (arith, lt)
  rank_of n b (Tag z) h lt = omega (arith, lt)
  rank_of n b (Constant z) h lt = omega (arith, lt)
  rank_of n b (Builtin z) h lt = omega (arith, lt)
  rank_of n b (Maker z) h lt = omega (arith, lt)
  rank_of n b RefMaker h lt = omega (arith, lt)
  rank_of n b (Library z) h lt = omega (arith, lt)

  tuple_below : (w x y : Value) (a : ℕ) → IsBelow a w → tuple_of m.store w ≡ Some (x ∷ y ∷ []) → (b : ℕ) × (b < a) × IsBelow b y
  tuple_below (At b) x y a h e = go (slice_get m.store b) refl e
    where
      go : (o : Option Block) → slice_get m.store b ≡ o → tuple_block o ≡ Some (x ∷ y ∷ []) → (b : ℕ) × (b < a) × IsBelow b y
      go (Some (Tuple vs)) q e =
          let same : vs ≡ x ∷ y ∷ [] = cc in
          let n : 0 + b ≡ b = omega arith in
          let d = subst (λ vs. AllByRecursion (IsBelow b) vs) same (subst (λ n. Descends n (Tuple vs)) n (descend_get 0 m.store b (Tuple vs) ready.descend q)) in
          (b, h, d.1.0)
      go None q e = cc
      go (Some _) q e = cc
  tuple_below Nothing x y a h e = cc
  tuple_below _ x y a h e = cc

  pub letters_some : (n : ℕ) (v : Value) → HasTy p t sig v (list_ty char_ty) → Rank n v → (cs : List ℕ) × (letters (see p.texts m.store) n v ≡ Some cs)
  letters_some zero v h r = absurd (no_rank v r)
    where
      no_rank : (v : Value) → Rank 0 v → ⊥
      no_rank (At a) r = omega (arith, r)
      no_rank (Number z) r = omega (arith, r)
      no_rank (Letter z) r = omega (arith, r)
      no_rank Nothing r = omega (arith, r)
      no_rank (Tag z) r = omega (arith, r)
      no_rank (Constant z) r = omega (arith, r)
      no_rank (Builtin z) r = omega (arith, r)
      no_rank (Maker z) r = omega (arith, r)
      no_rank RefMaker r = omega (arith, r)
      no_rank (Library z) r = omega (arith, r)
  letters_some (suc n) v h r =
      ⊎_elim (λ k. ([], ap (letters (see p.texts m.store) (suc n)) k.1)) (λ k. go k.0 k.1 k.2 k.3 k.4 (λ y. letters_some n y)) (a_list p t ready.typing sig m.store ready.store char_ty v h)
    where
      go : (a : Address) (w : Value) → v ≡ At a → slice_get m.store a ≡ Some (Applied 1 w) → HasTy p t sig w (tuple (char_ty ∷ list_ty char_ty ∷ [])) → ((y : Value) → HasTy p t sig y (list_ty char_ty) → Rank n y → (cs : List ℕ) × (letters (see p.texts m.store) n y ≡ Some cs)) → (cs : List ℕ) × (letters (see p.texts m.store) (suc n) v ≡ Some cs)
      go a w ev eb hw rest =
          let q = a_pair char_ty (list_ty char_ty) w hw in
          let c = a_char p t ready.typing sig m.store ready.store q.0 q.3 in
          let lt : suc a < suc n = subst (Rank (suc n)) ev r in
          let z : 0 + a ≡ a = omega arith in
          let b = tuple_below w q.0 q.1 a (subst (λ n. Descends n (Applied 1 w)) z (descend_get 0 m.store a (Applied 1 w) ready.descend eb)) q.2 in
          let ih = rest q.1 q.4 (rank_of n b.0 q.1 b.2 (omega (arith, lt, b.1))) in
          let rest = letters (see p.texts m.store) n in (
            c.0 ∷ ih.0,
            ap (letters (see p.texts m.store) (suc n)) ev
                ∙ ap (λ o. letters_from (see p.texts m.store) rest (see_block a o)) eb
                ∙ ap (λ s. on_pair (see p.texts m.store) rest (pair_in s)) (seen_pair w q.0 q.1 q.2)
                ∙ ap (λ x. consed (letter_in (see p.texts m.store x)) (rest q.1)) c.1
                ∙ ap (consed (Some c.0)) ih.1,
          )
