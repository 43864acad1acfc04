-- What the values of a type are.
use Rattle.std.proofs.Common.{◌≡◌, ℕ, zero, suc, ◌<◌, List, [], ◌∷◌, length, Option, Some, None, refl, sym, ap, ◌∙◌, subst, ◌⊎◌, inl, inr}
use Rattle.std.specs.Prelude.{slice_get, ℤ, codes}
use Rattle.smlc_base.specs.declared.primitive.Primitive.{Primitive}
use Rattle.smlc_base.specs.declared.primitive.Primitive.TheVariants as prim
use Rattle.sml_tree.specs.declared.bare.Bare.{Bare}
use Rattle.sml_tree.specs.declared.bare.Lab.{Lab}
use Rattle.smlc_base.specs.declared.exception.LibraryExn.{LibraryExn}
use Rattle.smlc_base.specs.declared.exception.LibraryExn.TheVariants as exn
use Rattle.sml_tree.specs.declared.bare.Node.TheVariants as node
use Rattle.sml_tree.specs.declared.bare.Rule.{Rule}
use Rattle.sml_tree.specs.Free.{free}
use Rattle.sml_types.specs.declared.types.TyVar.{TyVar}
use Rattle.sml_types.specs.Tree.{Tree, Variable, App, NoParts, NameHead, FieldsHead, inst}
use Rattle.sml_types.specs.Library.{NameType, ConType, list_ty, tuple, parts, arrow, unit_ty, int_ty, char_ty, string_ty, exn_ty, ref_ty, instream_ty, library_exn, primitive_poly, library}
use Rattle.sml_types.specs.Typing.{Typing, IsTyping}
use Rattle.simulation.proofs.Lists.{get_below}
use Rattle.sml_def.specs.Maybe.{or_else}
use Rattle.sml_def.specs.State.{Value, Number, Letter, Nothing, Tag, Constant, Builtin, Maker, RefMaker, Library, At, Env, Address, Block, Tuple, Applied, Text, Cell, ExnName, Packet, Closure}
use Rattle.sml_def.specs.Match.{bytes_of, text_block, fields_of, tuple_block, packet_block, block_of}
use Rattle.sml_def.specs.Step.{exn_name, name_of, spelled}
use Rattle.smlc_base.specs.Exceptions.{exn_text}
use Rattle.sml_sound.proofs.Lists.{get_lt, some_eq}
use Rattle.sml_sound.specs.TypedStates.{KeepsMarks, Family, InFamily, Entry, Holds, Names, EntryTy, HasTy, HaveTys, IsName, IsCon, data_ty, Making, IsMaking, EnvTy, IsTuple, IsApplied, BlockTy, StoreTy}
use Rattle.sml_sound.proofs.Families.{parts_same}
use Rattle.sml_sound.proofs.Tables.{library_has, library_con, applied_arg}
use Rattle.sml_sound.proofs.Grow.{store_get}

prim_ty : (f : Primitive) (g : TyVar → Tree) → ((a : Tree) × (b : Tree) × (inst g (primitive_poly f).body ≡ arrow a b)) ⊎ (f ≡ prim.StdIn)
prim_ty prim.StdIn g = inr refl
prim_ty _ g = inl (_, _, refl)

pub exn_con : (e : LibraryExn) → (library_exn e ≡ exn_ty) ⊎ (library_exn e ≡ arrow string_ty exn_ty)
exn_con exn.FailExn = inr refl
exn_con _ = inl refl

module _ (p : Bare) (t : Typing) (typing : IsTyping p t) (sig : List Entry) (bs : List Block) (store : StoreTy p t sig sig bs) where
  -- a value of a type, by what it is
  pub data View (v : Value) (u : Tree) : Type 0 where
    a_number : (z : ℤ) → v ≡ Number z → u ≡ int_ty → View v u
    a_letter : (c : ℕ) → v ≡ Letter c → u ≡ char_ty → View v u
    a_nothing : v ≡ Nothing → u ≡ unit_ty → View v u
    a_tag : (k n : ℕ) (ps : List TyVar) (g : TyVar → Tree) → v ≡ Tag k → IsCon p t n k ps None → u ≡ inst g (data_ty p t n ps) → View v u
    a_constant : (c : ℕ) → v ≡ Constant c → c < length p.texts → u ≡ string_ty → View v u
    a_primitive : (f : Primitive) (g : TyVar → Tree) (a b : Tree) → v ≡ Builtin f → KeepsMarks t.names g → u ≡ inst g (primitive_poly f).body → u ≡ arrow a b → View v u
    an_input : v ≡ Builtin prim.StdIn → u ≡ instream_ty → View v u
    a_maker : (k : ℕ) (m : Making p t) (g : TyVar → Tree) → v ≡ Maker k → IsMaking p t k m → u ≡ inst g (arrow m.arg (data_ty p t m.name m.params)) → View v u
    a_ref_maker : (a : Tree) → v ≡ RefMaker → u ≡ arrow a (ref_ty a) → View v u
    a_name : IsName p t sig v u → (u ≡ exn_ty) ⊎ ((a : Tree) × (u ≡ arrow a exn_ty)) → (name : List ℕ) × (exn_name p bs v ≡ Some name) → packet_block (block_of bs v) ≡ None → View v u
    a_tuple : (a : Address) (vs : List Value) → v ≡ At a → slice_get bs a ≡ Some (Tuple vs) → IsTuple p t sig vs u → View v u
    an_applied : (a : Address) (k : ℕ) (w : Value) → v ≡ At a → slice_get bs a ≡ Some (Applied k w) → IsApplied p t sig k w u → View v u
    a_text : (a : Address) (bytes : List ℕ) → v ≡ At a → slice_get bs a ≡ Some (Text bytes) → u ≡ string_ty → View v u
    a_cell : (a : Address) (w : Value) (b : Tree) (f : Family) → v ≡ At a → slice_get bs a ≡ Some (Cell w) → slice_get sig a ≡ Some (Holds f) → ((u : Tree) → InFamily t.names f u → u ≡ ref_ty b) → HasTy p t sig w b → u ≡ ref_ty b → View v u
    a_packet : (a : Address) (x w : Value) (b : Tree) → v ≡ At a → slice_get bs a ≡ Some (Packet x w) → IsName p t sig x (arrow b exn_ty) → HasTy p t sig w b → u ≡ exn_ty → View v u
    a_closure : (a : Address) (i : ℕ) (rules : List Rule) (env : Env) (g : TyVar → Tree) (b c : Tree) → v ≡ At a → slice_get bs a ≡ Some (Closure i rules env) → slice_get p.nodes i ≡ Some (node.Fn rules) → u ≡ inst g (t.types i) → u ≡ arrow b c → EnvTy p t sig g (free p.nodes i) env → View v u

  view_primitive : (f : Primitive) (g : TyVar → Tree) (u : Tree) → KeepsMarks t.names g → u ≡ inst g (primitive_poly f).body → ((a : Tree) × (b : Tree) × (inst g (primitive_poly f).body ≡ arrow a b)) ⊎ (f ≡ prim.StdIn) → View (Builtin f) u
  view_primitive f g u k e (inl h) = a_primitive f g h.0 h.1 refl k e (e ∙ h.2)
  view_primitive f g u k e (inr h) = an_input (ap Builtin h) (e ∙ ap (λ f. inst g (primitive_poly f).body) h)

  view_library : (e : LibraryExn) (u : Tree) → u ≡ library_exn e → (library_exn e ≡ exn_ty) ⊎ (library_exn e ≡ arrow string_ty exn_ty) → View (Library e) u
  view_library e u h (inl q) = a_name h (inl (h ∙ q)) (exn_text e, refl) refl
  view_library e u h (inr q) = a_name h (inr (string_ty, h ∙ q)) (exn_text e, refl) refl

  view_name : (a : Address) (u : Tree) → slice_get sig a ≡ Some (Names u) → (b : Block) → slice_get bs a ≡ Some b → BlockTy p t sig b (Names u) → View (At a) u
  view_name a u g (ExnName x) e h =
      let n = get_below p.names x h.0 in a_name g h.1 (n.0, ap (spelled p) e ∙ n.1) (ap packet_block e)
  view_name a u g _ e h = absurd h

  view_held : (a : Address) (f : Family) (u : Tree) → slice_get sig a ≡ Some (Holds f) → InFamily t.names f u → (b : Block) → slice_get bs a ≡ Some b → BlockTy p t sig b (Holds f) → View (At a) u
  view_held a f u g i (Tuple vs) e h = a_tuple a vs refl e (h u i)
  view_held a f u g i (Applied k w) e h = an_applied a k w refl e (h u i)
  view_held a f u g i (Text bytes) e h = a_text a bytes refl e (h u i)
  view_held a f u g i (Cell w) e h = a_cell a w h.0 f refl e g h.1 h.2 (h.1 u i)
  view_held a f u g i (Packet x w) e h = a_packet a x w h.1 refl e h.2 h.3 (h.0 u i)
  view_held a f u g i (Closure j rules env) e h =
      let r = typing.rules j (node.Fn rules) (get_lt p.nodes j (node.Fn rules) h.0) h.0 in
      a_closure a j rules env i.0 (inst i.0 r.0) (inst i.0 r.1) refl e h.0 (i.2 ∙ ap (inst i.0) h.1) (i.2 ∙ ap (inst i.0) (h.1 ∙ r.2)) (h.2 i.0 i.1)
  view_held a f u g i _ e h = absurd h

  view_at : (a : Address) (e : Entry) (u : Tree) → slice_get sig a ≡ Some e → EntryTy p t e u → View (At a) u
  view_at a (Holds f) u g h = let b = store_get p t sig sig bs a (Holds f) store g in view_held a f u g h b.0 b.1 b.2
  view_at a (Names w) u g h =
      let b = store_get p t sig sig bs a (Names w) store g in
      subst (View (At a)) (sym h) (view_name a w g b.0 b.1 b.2)
  view_at a _ u g h = absurd h

  pub view : (v : Value) (u : Tree) → HasTy p t sig v u → View v u
  view (Number z) u h = a_number z refl h
  view (Letter c) u h = a_letter c refl h
  view Nothing u h = a_nothing refl h
  view (Tag k) u h = a_tag k h.0 h.1 h.2 refl h.3 h.4
  view (Constant c) u h = a_constant c refl h.1 h.0
  view (Builtin f) u h = view_primitive f h.0 u h.1 h.2 (prim_ty f h.0)
  view (Maker k) u h = a_maker k h.0 h.1 refl h.2 h.3
  view RefMaker u h = a_ref_maker h.0 refl h.1
  view (Library e) u h = view_library e u h (exn_con e)
  view (At a) u h = view_at a h.0 u h.1 h.2

  -- the library's types without constructors have no tags and no applied values
  no_con : (z : ℕ) (r : NameType) → slice_get (library typing.library.param) z ≡ Some r → r.cons ≡ [] → (n k : ℕ) (ps : List TyVar) (a : Option Tree) (g : TyVar → Tree) (ts : Tree) → IsCon p t n k ps a → App (NameHead z) ts ≡ inst g (data_ty p t n ps) → ⊥
  no_con z r er ec n k ps a g ts c e =
      let same : n ≡ z = cc in
      let h = library_has p t typing.library z k r ps a er (subst (λ y. IsCon p t y k ps a) same c) in
      let none : None ≡ Some h.0 = sym (ap (λ xs. slice_get xs k) ec) ∙ h.1 in cc

  -- nor has the type of cells tags
  no_ref : (n k : ℕ) (ps : List TyVar) (g : TyVar → Tree) (ts : Tree) → IsCon p t n k ps None → App (NameHead 8) ts ≡ inst g (data_ty p t n ps) → ⊥
  no_ref n k ps g ts c e =
      let same : n ≡ 8 = cc in
      go k (library_has p t typing.library 8 k _ ps None refl (subst (λ y. IsCon p t y k ps None) same c))
    where
      go : (k : ℕ) → (c : ConType) × (slice_get (record { text = codes "ref"; arg = Some (Variable typing.library.param) } ∷ []) k ≡ Some c) × (c.arg ≡ None) → ⊥
      go zero h = let e = ap (λ (c : ConType). c.arg) (some_eq _ _ h.1) ∙ h.2 in cc
      go (suc k) h = let e = h.1 in cc

  not_name : (n : ℕ) (ts u : Tree) → (n ≡ 3 → ⊥) → u ≡ App (NameHead n) ts → (u ≡ exn_ty) ⊎ ((a : Tree) × (u ≡ arrow a exn_ty)) → ⊥
  not_name n ts u d e (inl q) = d (let x = sym e ∙ q in cc)
  not_name n ts u d e (inr q) = let x = sym e ∙ q.1 in cc

  not_record : (labs : List Lab) (ts u : Tree) → u ≡ App (FieldsHead labs) ts → (u ≡ exn_ty) ⊎ ((a : Tree) × (u ≡ arrow a exn_ty)) → ⊥
  not_record labs ts u e (inl q) = let x = sym e ∙ q in cc
  not_record labs ts u e (inr q) = let x = sym e ∙ q.1 in cc

  -- the spelling of an exception name
  name_text : (x : Value) (u : Tree) → IsName p t sig x u → (name : List ℕ) × (exn_name p bs x ≡ Some name)
  name_text (Library e) u h = (exn_text e, refl)
  name_text (At a) u h = let b = store_get p t sig sig bs a (Names u) store h in go b.0 b.1 b.2
    where
      go : (b : Block) → slice_get bs a ≡ Some b → BlockTy p t sig b (Names u) → (name : List ℕ) × (exn_name p bs (At a) ≡ Some name)
      go (ExnName x) e k = let n = get_below p.names x k.0 in (n.0, ap (spelled p) e ∙ n.1)
      go _ e k = absurd k
  name_text _ u h = absurd h

  an_int_by : (v : Value) (u : Tree) → View v u → u ≡ int_ty → (z : ℤ) × (v ≡ Number z)
  an_int_by v u (a_number z ev e) d = (z, ev)
  an_int_by v u (a_letter c ev e) d = absurd (let x = sym d ∙ e in cc)
  an_int_by v u (a_nothing ev e) d = absurd (let x = sym d ∙ e in cc)
  an_int_by v u (a_tag k n ps g ev c e) d = absurd (no_con 0 _ refl refl n k ps None g NoParts c (sym d ∙ e))
  an_int_by v u (a_constant c ev lt e) d = absurd (let x = sym d ∙ e in cc)
  an_int_by v u (a_primitive f g a b ev kg ei e) d = absurd (let x = sym d ∙ e in cc)
  an_int_by v u (an_input ev e) d = absurd (let x = sym d ∙ e in cc)
  an_int_by v u (a_maker k m g ev mk e) d = absurd (let x = sym d ∙ e in cc)
  an_int_by v u (a_ref_maker a ev e) d = absurd (let x = sym d ∙ e in cc)
  an_int_by v u (a_name is e name np) d = absurd (not_name 0 _ u (λ e. cc) d e)
  an_int_by v u (a_tuple a vs ev eb h) d = absurd (let x = sym d ∙ h.2 in cc)
  an_int_by v u (an_applied a k w ev eb h) d = absurd (no_con 0 _ refl refl h.0.name k h.0.params (Some h.0.arg) h.1 NoParts h.2.is_con (sym d ∙ h.3))
  an_int_by v u (a_text a bytes ev eb e) d = absurd (let x = sym d ∙ e in cc)
  an_int_by v u (a_cell a w b f ev eb es ef h e) d = absurd (let x = sym d ∙ e in cc)
  an_int_by v u (a_packet a x w b ev eb is h e) d = absurd (let x = sym d ∙ e in cc)
  an_int_by v u (a_closure a i rules env g b c ev eb en ei e k) d = absurd (let x = sym d ∙ e in cc)

  -- an int is a number
  pub an_int : (v : Value) → HasTy p t sig v (int_ty) → (z : ℤ) × (v ≡ Number z)
  an_int v h = an_int_by v (int_ty) (view v (int_ty) h) refl

  a_char_by : (v : Value) (u : Tree) → View v u → u ≡ char_ty → (c : ℕ) × (v ≡ Letter c)
  a_char_by v u (a_number z ev e) d = absurd (let x = sym d ∙ e in cc)
  a_char_by v u (a_letter c ev e) d = (c, ev)
  a_char_by v u (a_nothing ev e) d = absurd (let x = sym d ∙ e in cc)
  a_char_by v u (a_tag k n ps g ev c e) d = absurd (no_con 1 _ refl refl n k ps None g NoParts c (sym d ∙ e))
  a_char_by v u (a_constant c ev lt e) d = absurd (let x = sym d ∙ e in cc)
  a_char_by v u (a_primitive f g a b ev kg ei e) d = absurd (let x = sym d ∙ e in cc)
  a_char_by v u (an_input ev e) d = absurd (let x = sym d ∙ e in cc)
  a_char_by v u (a_maker k m g ev mk e) d = absurd (let x = sym d ∙ e in cc)
  a_char_by v u (a_ref_maker a ev e) d = absurd (let x = sym d ∙ e in cc)
  a_char_by v u (a_name is e name np) d = absurd (not_name 1 _ u (λ e. cc) d e)
  a_char_by v u (a_tuple a vs ev eb h) d = absurd (let x = sym d ∙ h.2 in cc)
  a_char_by v u (an_applied a k w ev eb h) d = absurd (no_con 1 _ refl refl h.0.name k h.0.params (Some h.0.arg) h.1 NoParts h.2.is_con (sym d ∙ h.3))
  a_char_by v u (a_text a bytes ev eb e) d = absurd (let x = sym d ∙ e in cc)
  a_char_by v u (a_cell a w b f ev eb es ef h e) d = absurd (let x = sym d ∙ e in cc)
  a_char_by v u (a_packet a x w b ev eb is h e) d = absurd (let x = sym d ∙ e in cc)
  a_char_by v u (a_closure a i rules env g b c ev eb en ei e k) d = absurd (let x = sym d ∙ e in cc)

  -- a char is a letter
  pub a_char : (v : Value) → HasTy p t sig v (char_ty) → (c : ℕ) × (v ≡ Letter c)
  a_char v h = a_char_by v (char_ty) (view v (char_ty) h) refl

  a_string_by : (v : Value) (u : Tree) → View v u → u ≡ string_ty → (bytes : List ℕ) × (bytes_of p bs v ≡ Some bytes)
  a_string_by v u (a_number z ev e) d = absurd (let x = sym d ∙ e in cc)
  a_string_by v u (a_letter c ev e) d = absurd (let x = sym d ∙ e in cc)
  a_string_by v u (a_nothing ev e) d = absurd (let x = sym d ∙ e in cc)
  a_string_by v u (a_tag k n ps g ev c e) d = absurd (no_con 2 _ refl refl n k ps None g NoParts c (sym d ∙ e))
  a_string_by v u (a_constant c ev lt e) d = let b = get_below p.texts c lt in (b.0, ap (bytes_of p bs) ev ∙ b.1)
  a_string_by v u (a_primitive f g a b ev kg ei e) d = absurd (let x = sym d ∙ e in cc)
  a_string_by v u (an_input ev e) d = absurd (let x = sym d ∙ e in cc)
  a_string_by v u (a_maker k m g ev mk e) d = absurd (let x = sym d ∙ e in cc)
  a_string_by v u (a_ref_maker a ev e) d = absurd (let x = sym d ∙ e in cc)
  a_string_by v u (a_name is e name np) d = absurd (not_name 2 _ u (λ e. cc) d e)
  a_string_by v u (a_tuple a vs ev eb h) d = absurd (let x = sym d ∙ h.2 in cc)
  a_string_by v u (an_applied a k w ev eb h) d = absurd (no_con 2 _ refl refl h.0.name k h.0.params (Some h.0.arg) h.1 NoParts h.2.is_con (sym d ∙ h.3))
  a_string_by v u (a_text a bytes ev eb e) d = (bytes, ap (bytes_of p bs) ev ∙ ap text_block eb)
  a_string_by v u (a_cell a w b f ev eb es ef h e) d = absurd (let x = sym d ∙ e in cc)
  a_string_by v u (a_packet a x w b ev eb is h e) d = absurd (let x = sym d ∙ e in cc)
  a_string_by v u (a_closure a i rules env g b c ev eb en ei e k) d = absurd (let x = sym d ∙ e in cc)

  -- a string has bytes
  pub a_string : (v : Value) → HasTy p t sig v (string_ty) → (bytes : List ℕ) × (bytes_of p bs v ≡ Some bytes)
  a_string v h = a_string_by v (string_ty) (view v (string_ty) h) refl

  an_exn_by : (v : Value) (u : Tree) → View v u → u ≡ exn_ty → (name : List ℕ) × (exn_name p bs (name_of p bs v) ≡ Some name)
  an_exn_by v u (a_number z ev e) d = absurd (let x = sym d ∙ e in cc)
  an_exn_by v u (a_letter c ev e) d = absurd (let x = sym d ∙ e in cc)
  an_exn_by v u (a_nothing ev e) d = absurd (let x = sym d ∙ e in cc)
  an_exn_by v u (a_tag k n ps g ev c e) d = absurd (no_con 3 _ refl refl n k ps None g NoParts c (sym d ∙ e))
  an_exn_by v u (a_constant c ev lt e) d = absurd (let x = sym d ∙ e in cc)
  an_exn_by v u (a_primitive f g a b ev kg ei e) d = absurd (let x = sym d ∙ e in cc)
  an_exn_by v u (an_input ev e) d = absurd (let x = sym d ∙ e in cc)
  an_exn_by v u (a_maker k m g ev mk e) d = absurd (let x = sym d ∙ e in cc)
  an_exn_by v u (a_ref_maker a ev e) d = absurd (let x = sym d ∙ e in cc)
  an_exn_by v u (a_name is e name np) d = (name.0, ap (λ o. exn_name p bs (or_else o (λ packet. packet.0) v)) np ∙ name.1)
  an_exn_by v u (a_tuple a vs ev eb h) d = absurd (let x = sym d ∙ h.2 in cc)
  an_exn_by v u (an_applied a k w ev eb h) d = absurd (no_con 3 _ refl refl h.0.name k h.0.params (Some h.0.arg) h.1 NoParts h.2.is_con (sym d ∙ h.3))
  an_exn_by v u (a_text a bytes ev eb e) d = absurd (let x = sym d ∙ e in cc)
  an_exn_by v u (a_cell a w b f ev eb es ef h e) d = absurd (let x = sym d ∙ e in cc)
  an_exn_by v u (a_packet a x w b ev eb is h e) d = let n = name_text x (arrow b exn_ty) is in (n.0, ap (λ v. exn_name p bs (name_of p bs v)) ev ∙ ap (λ o. exn_name p bs (or_else (packet_block o) (λ packet. packet.0) (At a))) eb ∙ n.1)
  an_exn_by v u (a_closure a i rules env g b c ev eb en ei e k) d = absurd (let x = sym d ∙ e in cc)

  -- an exception has a name with a spelling
  pub an_exn : (v : Value) → HasTy p t sig v (exn_ty) → (name : List ℕ) × (exn_name p bs (name_of p bs v) ≡ Some name)
  an_exn v h = an_exn_by v (exn_ty) (view v (exn_ty) h) refl

  a_stream_by : (v : Value) (u : Tree) → View v u → u ≡ instream_ty → v ≡ Builtin prim.StdIn
  a_stream_by v u (a_number z ev e) d = absurd (let x = sym d ∙ e in cc)
  a_stream_by v u (a_letter c ev e) d = absurd (let x = sym d ∙ e in cc)
  a_stream_by v u (a_nothing ev e) d = absurd (let x = sym d ∙ e in cc)
  a_stream_by v u (a_tag k n ps g ev c e) d = absurd (no_con 9 _ refl refl n k ps None g NoParts c (sym d ∙ e))
  a_stream_by v u (a_constant c ev lt e) d = absurd (let x = sym d ∙ e in cc)
  a_stream_by v u (a_primitive f g a b ev kg ei e) d = absurd (let x = sym d ∙ e in cc)
  a_stream_by v u (an_input ev e) d = ev
  a_stream_by v u (a_maker k m g ev mk e) d = absurd (let x = sym d ∙ e in cc)
  a_stream_by v u (a_ref_maker a ev e) d = absurd (let x = sym d ∙ e in cc)
  a_stream_by v u (a_name is e name np) d = absurd (not_name 9 _ u (λ e. cc) d e)
  a_stream_by v u (a_tuple a vs ev eb h) d = absurd (let x = sym d ∙ h.2 in cc)
  a_stream_by v u (an_applied a k w ev eb h) d = absurd (no_con 9 _ refl refl h.0.name k h.0.params (Some h.0.arg) h.1 NoParts h.2.is_con (sym d ∙ h.3))
  a_stream_by v u (a_text a bytes ev eb e) d = absurd (let x = sym d ∙ e in cc)
  a_stream_by v u (a_cell a w b f ev eb es ef h e) d = absurd (let x = sym d ∙ e in cc)
  a_stream_by v u (a_packet a x w b ev eb is h e) d = absurd (let x = sym d ∙ e in cc)
  a_stream_by v u (a_closure a i rules env g b c ev eb en ei e k) d = absurd (let x = sym d ∙ e in cc)

  -- a stream is the standard input
  pub a_stream : (v : Value) → HasTy p t sig v (instream_ty) → v ≡ Builtin prim.StdIn
  a_stream v h = a_stream_by v (instream_ty) (view v (instream_ty) h) refl

  no_fields : (us : List Tree) → parts us ≡ NoParts → HaveTys p t sig [] us
  no_fields [] e = tt
  no_fields (u ∷ us) e = cc

  a_record_by : (labs : List Lab) (us : List Tree) (v : Value) (u : Tree) → View v u → u ≡ App (FieldsHead labs) (parts us) → (vs : List Value) × (fields_of bs v ≡ Some vs) × HaveTys p t sig vs us
  a_record_by labs us v u (a_number z ev e) d = absurd (let x = sym d ∙ e in cc)
  a_record_by labs us v u (a_letter c ev e) d = absurd (let x = sym d ∙ e in cc)
  a_record_by labs us v u (a_nothing ev e) d = ([], ap (fields_of bs) ev, no_fields us (let x = sym d ∙ e in cc))
  a_record_by labs us v u (a_tag k n ps g ev c e) d = absurd (let x = sym d ∙ e in cc)
  a_record_by labs us v u (a_constant c ev lt e) d = absurd (let x = sym d ∙ e in cc)
  a_record_by labs us v u (a_primitive f g a b ev kg ei e) d = absurd (let x = sym d ∙ e in cc)
  a_record_by labs us v u (an_input ev e) d = absurd (let x = sym d ∙ e in cc)
  a_record_by labs us v u (a_maker k m g ev mk e) d = absurd (let x = sym d ∙ e in cc)
  a_record_by labs us v u (a_ref_maker a ev e) d = absurd (let x = sym d ∙ e in cc)
  a_record_by labs us v u (a_name is e name np) d = absurd (not_record labs (parts us) u d e)
  a_record_by labs us v u (a_tuple a vs ev eb h) d = (vs, ap (fields_of bs) ev ∙ ap tuple_block eb, subst (HaveTys p t sig vs) (parts_same h.1 us (let x = sym h.2 ∙ d in cc)) h.3)
  a_record_by labs us v u (an_applied a k w ev eb h) d = absurd (let x = sym d ∙ h.3 in cc)
  a_record_by labs us v u (a_text a bytes ev eb e) d = absurd (let x = sym d ∙ e in cc)
  a_record_by labs us v u (a_cell a w b f ev eb es ef h e) d = absurd (let x = sym d ∙ e in cc)
  a_record_by labs us v u (a_packet a x w b ev eb is h e) d = absurd (let x = sym d ∙ e in cc)
  a_record_by labs us v u (a_closure a i rules env g b c ev eb en ei e k) d = absurd (let x = sym d ∙ e in cc)

  -- a record has fields
  pub a_record : (labs : List Lab) (us : List Tree) (v : Value) → HasTy p t sig v (App (FieldsHead labs) (parts us)) → (vs : List Value) × (fields_of bs v ≡ Some vs) × HaveTys p t sig vs us
  a_record labs us v h = a_record_by labs us v (App (FieldsHead labs) (parts us)) (view v (App (FieldsHead labs) (parts us)) h) refl

  a_ref_by : (w : Tree) (v : Value) (u : Tree) → View v u → u ≡ ref_ty w → (a : Address) × (x : Value) × (f : Family) × (v ≡ At a) × (slice_get bs a ≡ Some (Cell x)) × (slice_get sig a ≡ Some (Holds f)) × HasTy p t sig x w × ((u : Tree) → InFamily t.names f u → u ≡ ref_ty w)
  a_ref_by w v u (a_number z ev e) d = absurd (let x = sym d ∙ e in cc)
  a_ref_by w v u (a_letter c ev e) d = absurd (let x = sym d ∙ e in cc)
  a_ref_by w v u (a_nothing ev e) d = absurd (let x = sym d ∙ e in cc)
  a_ref_by w v u (a_tag k n ps g ev c e) d = absurd (no_ref n k ps g _ c (sym d ∙ e))
  a_ref_by w v u (a_constant c ev lt e) d = absurd (let x = sym d ∙ e in cc)
  a_ref_by w v u (a_primitive f g a b ev kg ei e) d = absurd (let x = sym d ∙ e in cc)
  a_ref_by w v u (an_input ev e) d = absurd (let x = sym d ∙ e in cc)
  a_ref_by w v u (a_maker k m g ev mk e) d = absurd (let x = sym d ∙ e in cc)
  a_ref_by w v u (a_ref_maker a ev e) d = absurd (let x = sym d ∙ e in cc)
  a_ref_by w v u (a_name is e name np) d = absurd (not_name 8 _ u (λ e. cc) d e)
  a_ref_by w v u (a_tuple a vs ev eb h) d = absurd (let x = sym d ∙ h.2 in cc)
  a_ref_by w v u (an_applied a k y ev eb h) d = absurd (h.2.new (let x = sym d ∙ h.3 in cc))
  a_ref_by w v u (a_text a bytes ev eb e) d = absurd (let x = sym d ∙ e in cc)
  a_ref_by w v u (a_cell a y b f ev eb es ef h e) d = let same : b ≡ w = (let x = sym e ∙ d in cc) in (a, y, f, ev, eb, es, subst (HasTy p t sig y) same h, (λ u i. ef u i ∙ ap ref_ty same))
  a_ref_by w v u (a_packet a x y b ev eb is h e) d = absurd (let x = sym d ∙ e in cc)
  a_ref_by w v u (a_closure a i rules env g b c ev eb en ei e k) d = absurd (let x = sym d ∙ e in cc)

  -- a reference is a cell's address
  pub a_ref : (w : Tree) (v : Value) → HasTy p t sig v (ref_ty w) → (a : Address) × (x : Value) × (f : Family) × (v ≡ At a) × (slice_get bs a ≡ Some (Cell x)) × (slice_get sig a ≡ Some (Holds f)) × HasTy p t sig x w × ((u : Tree) → InFamily t.names f u → u ≡ ref_ty w)
  a_ref w v h = a_ref_by w v (ref_ty w) (view v (ref_ty w) h) refl

  cons_arg : (k : ℕ) (c : ConType) (a : Tree) → slice_get (record { text = codes "nil"; arg = None } ∷ record { text = codes "::"; arg = Some (tuple (Variable typing.library.param ∷ list_ty (Variable typing.library.param) ∷ [])) } ∷ []) k ≡ Some c → c.arg ≡ Some a → k ≡ 1
  cons_arg zero c a e h =
      let x : None ≡ Some a = ap (λ (c : ConType). c.arg) (some_eq _ _ e) ∙ h in cc
  cons_arg (suc zero) c a e h = refl
  cons_arg (suc (suc k)) c a e h = cc

  list_cell : (x : Tree) (k : ℕ) (w : Value) (u : Tree) → IsApplied p t sig k w u → u ≡ list_ty x → (k ≡ 1) × HasTy p t sig w (tuple (x ∷ list_ty x ∷ []))
  list_cell x k w u h d =
      let e : list_ty x ≡ inst h.1 (data_ty p t h.0.name h.0.params) = sym d ∙ h.3 in
      let same : h.0.name ≡ 5 = cc in
      let c = library_has p t typing.library 5 k _ h.0.params (Some h.0.arg) refl (subst (λ n. IsCon p t n k h.0.params (Some h.0.arg)) same h.2.is_con) in
      let first : k ≡ 1 = cons_arg k c.0 h.0.arg c.1 c.2 in
      (first, applied_arg p t sig 1 5 (typing.library.param ∷ []) (tuple (Variable typing.library.param ∷ list_ty (Variable typing.library.param) ∷ [])) u (λ v. x) w (subst (λ k. IsApplied p t sig k w u) first h) (library_con p t typing.library 5 1 _ _ refl refl) d)

  a_list_by : (x : Tree) (v : Value) (u : Tree) → View v u → u ≡ list_ty x → ((k : ℕ) × (v ≡ Tag k)) ⊎ ((a : Address) × (w : Value) × (v ≡ At a) × (slice_get bs a ≡ Some (Applied 1 w)) × HasTy p t sig w (tuple (x ∷ list_ty x ∷ [])))
  a_list_by x v u (a_number z ev e) d = absurd (let x = sym d ∙ e in cc)
  a_list_by x v u (a_letter c ev e) d = absurd (let x = sym d ∙ e in cc)
  a_list_by x v u (a_nothing ev e) d = absurd (let x = sym d ∙ e in cc)
  a_list_by x v u (a_tag k n ps g ev c e) d = inl (k, ev)
  a_list_by x v u (a_constant c ev lt e) d = absurd (let x = sym d ∙ e in cc)
  a_list_by x v u (a_primitive f g a b ev kg ei e) d = absurd (let x = sym d ∙ e in cc)
  a_list_by x v u (an_input ev e) d = absurd (let x = sym d ∙ e in cc)
  a_list_by x v u (a_maker k m g ev mk e) d = absurd (let x = sym d ∙ e in cc)
  a_list_by x v u (a_ref_maker a ev e) d = absurd (let x = sym d ∙ e in cc)
  a_list_by x v u (a_name is e name np) d = absurd (not_name 5 _ u (λ e. cc) d e)
  a_list_by x v u (a_tuple a vs ev eb h) d = absurd (let x = sym d ∙ h.2 in cc)
  a_list_by x v u (an_applied a k w ev eb h) d = let c = list_cell x k w u h d in inr (a, w, ev, subst (λ k. slice_get bs a ≡ Some (Applied k w)) c.0 eb, c.1)
  a_list_by x v u (a_text a bytes ev eb e) d = absurd (let x = sym d ∙ e in cc)
  a_list_by x v u (a_cell a w b f ev eb es ef h e) d = absurd (let x = sym d ∙ e in cc)
  a_list_by x v u (a_packet a y w b ev eb is h e) d = absurd (let z = sym d ∙ e in cc)
  a_list_by x v u (a_closure a i rules env g b c ev eb en ei e k) d = absurd (let x = sym d ∙ e in cc)

  -- a list is a tag, or a pair of its head and its tail
  pub a_list : (x : Tree) (v : Value) → HasTy p t sig v (list_ty x) → ((k : ℕ) × (v ≡ Tag k)) ⊎ ((a : Address) × (w : Value) × (v ≡ At a) × (slice_get bs a ≡ Some (Applied 1 w)) × HasTy p t sig w (tuple (x ∷ list_ty x ∷ [])))
  a_list x v h = a_list_by x v (list_ty x) (view v (list_ty x) h) refl
