-- The values of exception types and of datatypes.
use Rattle.std.proofs.Common.{◌≡◌, ◌≢◌, ℕ, true, List, [], Option, Some, None, refl, sym, ap, ◌∙◌, subst, ◌⊎◌, inl, inr}
use Rattle.std.proofs.lemmas.Bool.{eqb-true}
use Rattle.std.specs.Prelude.{slice_get, nat_eq, cond}
use Rattle.smlc_base.specs.Exceptions.{exn_number}
use Rattle.smlc_base.specs.declared.exception.LibraryExn.{LibraryExn}
use Rattle.smlc_base.specs.declared.exception.LibraryExn.TheVariants as exn
use Rattle.sml_tree.specs.declared.bare.Bare.{Bare}
use Rattle.sml_types.specs.declared.types.TyVar.{TyVar}
use Rattle.sml_types.specs.Tree.{Tree, inst}
use Rattle.sml_types.specs.Library.{NameType, arrow, exn_ty, string_ty, ref_number, library, library_exn}
use Rattle.sml_types.specs.Typing.{Typing, IsTyping}
use Rattle.prim_meaning.specs.Tests.{same_names}
use Rattle.sml_def.specs.Builtin.{which}
use Rattle.sml_def.specs.State.{Value, Number, Letter, Nothing, Tag, Constant, Builtin, Maker, RefMaker, Library, At, Address, Block, Applied, ExnName, Packet}
use Rattle.sml_sound.specs.TypedStates.{Entry, Names, HasTy, IsName, IsCon, data_ty, BlockTy, StoreTy}
use Rattle.sml_sound.proofs.Grow.{store_get}
use Rattle.sml_sound.proofs.Tables.{library_has}
use Rattle.sml_sound.proofs.Values.{View, a_number, a_letter, a_nothing, a_tag, a_constant, a_primitive, an_input, a_maker, a_ref_maker, a_name, a_tuple, an_applied, a_text, a_cell, a_packet, a_closure, view}
use Rattle.match_laws.specs.Suit.{name_block, is_exn_name}

-- exceptions of the library with one number have one type
abbrev by_number : ℕ → Tree
by_number n = cond (nat_eq n 10) (arrow string_ty exn_ty) exn_ty

numbered : (e : LibraryExn) → library_exn e ≡ by_number (exn_number e)
numbered exn.MatchExn = refl
numbered exn.BindExn = refl
numbered exn.DivExn = refl
numbered exn.OverflowExn = refl
numbered exn.ChrExn = refl
numbered exn.SubscriptExn = refl
numbered exn.SizeExn = refl
numbered exn.EmptyExn = refl
numbered exn.OptionExn = refl
numbered exn.DomainExn = refl
numbered exn.FailExn = refl

module _ (p : Bare) (t : Typing) (typing : IsTyping p t) (sig : List Entry) (bs : List Block) (store : StoreTy p t sig sig bs) where
  -- ints, characters, strings, exceptions and the standard input have no constructors
  pub no_base : (b n k : ℕ) (ps : List TyVar) (a : Option Tree) (r : NameType) → slice_get (library typing.library.param) b ≡ Some r → r.cons ≡ [] → IsCon p t n k ps a → b ≡ n → ⊥
  no_base b n k ps a r e empty c same =
      let x = library_has p t typing.library b k r ps a e (subst (λ n. IsCon p t n k ps a) (sym same) c) in
      let none : None ≡ Some x.0 = sym (ap (λ cs. slice_get cs k) empty) ∙ x.1 in
      cc

  -- ---- Exceptions

  pub a_known_name : (x : Value) (u : Tree) → IsName p t sig x u → is_exn_name bs x ≡ true
  a_known_name (Library e) u h = refl
  a_known_name (At a) u h = let b = store_get p t sig sig bs a (Names u) store h in go b.0 b.1 b.2
    where
      go : (b : Block) → slice_get bs a ≡ Some b → BlockTy p t sig b (Names u) → is_exn_name bs (At a) ≡ true
      go (ExnName x) e h = ap name_block e
      go _ e h = absurd h
  a_known_name _ u h = absurd h

  -- two values that name one exception have one type
  pub one_type : (x y : Value) (u w : Tree) → HasTy p t sig x u → IsName p t sig y w → same_names (which x) (which y) ≡ true → u ≡ w
  one_type (At a) (At b) u w hx hy e =
      let same : a ≡ b = eqb-true a b e in
      let entry : Some hx.0 ≡ Some (Names w) = sym hx.1 ∙ ap (slice_get sig) same ∙ hy in
      go hx.0 (let x = entry in cc) hx.2
    where
      go : (f : Entry) → f ≡ Names w → Rattle.sml_sound.specs.TypedStates.EntryTy p t f u → u ≡ w
      go (Names z) g h = h ∙ (let x = g in cc)
      go _ g h = cc
  one_type (Library d) (Library e) u w hx hy q =
      hx ∙ numbered d ∙ ap by_number (eqb-true (exn_number d) (exn_number e) q) ∙ sym (numbered e) ∙ sym hy
  one_type (At a) (Library e) u w hx hy q = cc
  one_type (Library e) (At a) u w hx hy q = cc
  one_type x (Number z) u w hx hy q = absurd hy
  one_type x (Letter z) u w hx hy q = absurd hy
  one_type x Nothing u w hx hy q = absurd hy
  one_type x (Tag z) u w hx hy q = absurd hy
  one_type x (Constant z) u w hx hy q = absurd hy
  one_type x (Builtin z) u w hx hy q = absurd hy
  one_type x (Maker z) u w hx hy q = absurd hy
  one_type x RefMaker u w hx hy q = absurd hy
  one_type _ y u w hx hy q = cc

  abbrev pub IsPacket : Value → Type 0
  IsPacket v = (a : Address) × (x : Value) × (w : Value) × (b : Tree) × (v ≡ At a) × (slice_get bs a ≡ Some (Packet x w)) × IsName p t sig x (arrow b exn_ty)

  an_exception_by : (v : Value) (u : Tree) → View p t typing sig bs store v u → u ≡ exn_ty → IsName p t sig v exn_ty ⊎ IsPacket v
  an_exception_by v u (a_number z ev e) d = absurd (let x = sym d ∙ e in cc)
  an_exception_by v u (a_letter c ev e) d = absurd (let x = sym d ∙ e in cc)
  an_exception_by v u (a_nothing ev e) d = absurd (let x = sym d ∙ e in cc)
  an_exception_by v u (a_tag k n ps g ev c e) d = absurd (no_base 3 n k ps None _ refl refl c (let x = sym d ∙ e in cc))
  an_exception_by v u (a_constant c ev lt e) d = absurd (let x = sym d ∙ e in cc)
  an_exception_by v u (a_primitive f g a b ev kg ei e) d = absurd (let x = sym d ∙ e in cc)
  an_exception_by v u (an_input ev e) d = absurd (let x = sym d ∙ e in cc)
  an_exception_by v u (a_maker k m g ev mk e) d = absurd (let x = sym d ∙ e in cc)
  an_exception_by v u (a_ref_maker a ev e) d = absurd (let x = sym d ∙ e in cc)
  an_exception_by v u (a_name is e name np) d = inl (subst (IsName p t sig v) d is)
  an_exception_by v u (a_tuple a vs ev eb h) d = absurd (let x = sym d ∙ h.2 in cc)
  an_exception_by v u (an_applied a k w ev eb h) d = absurd (no_base 3 h.0.name k h.0.params (Some h.0.arg) _ refl refl h.2.is_con (let x = sym d ∙ h.3 in cc))
  an_exception_by v u (a_text a bytes ev eb e) d = absurd (let x = sym d ∙ e in cc)
  an_exception_by v u (a_cell a w b f ev eb es ef h e) d = absurd (let x = sym d ∙ e in cc)
  an_exception_by v u (a_packet a x w b ev eb is h e) d = inr (a, x, w, b, ev, eb, is)
  an_exception_by v u (a_closure a i rules env g b c ev eb en ei e k) d = absurd (let x = sym d ∙ e in cc)

  -- an exception is a name or a packet
  pub an_exception : (v : Value) → HasTy p t sig v exn_ty → IsName p t sig v exn_ty ⊎ IsPacket v
  an_exception v h = an_exception_by v exn_ty (view p t typing sig bs store v exn_ty h) refl

  -- ---- Datatypes

  abbrev pub IsDatum : Value → Type 0
  IsDatum v = ((j : ℕ) × (v ≡ Tag j)) ⊎ ((a : Address) × (j : ℕ) × (w : Value) × (v ≡ At a) × (slice_get bs a ≡ Some (Applied j w)))

  a_datum_by : (n k : ℕ) (ps : List TyVar) (arg : Option Tree) (f : TyVar → Tree) → IsCon p t n k ps arg → n ≢ ref_number → (v : Value) (u : Tree) → View p t typing sig bs store v u → u ≡ inst f (data_ty p t n ps) → IsDatum v
  a_datum_by n k ps arg f con new v u (a_number z ev e) d = absurd (no_base 0 n k ps arg _ refl refl con (let x = sym e ∙ d in cc))
  a_datum_by n k ps arg f con new v u (a_letter c ev e) d = absurd (no_base 1 n k ps arg _ refl refl con (let x = sym e ∙ d in cc))
  a_datum_by n k ps arg f con new v u (a_nothing ev e) d = absurd (let x = sym e ∙ d in cc)
  a_datum_by n k ps arg f con new v u (a_tag j m qs g ev c e) d = inl (j, ev)
  a_datum_by n k ps arg f con new v u (a_constant c ev lt e) d = absurd (no_base 2 n k ps arg _ refl refl con (let x = sym e ∙ d in cc))
  a_datum_by n k ps arg f con new v u (a_primitive h g a b ev kg ei e) d = absurd (let x = sym e ∙ d in cc)
  a_datum_by n k ps arg f con new v u (an_input ev e) d = absurd (no_base 9 n k ps arg _ refl refl con (let x = sym e ∙ d in cc))
  a_datum_by n k ps arg f con new v u (a_maker j m g ev mk e) d = absurd (let x = sym e ∙ d in cc)
  a_datum_by n k ps arg f con new v u (a_ref_maker a ev e) d = absurd (let x = sym e ∙ d in cc)
  a_datum_by n k ps arg f con new v u (a_name is (inl e) name np) d = absurd (no_base 3 n k ps arg _ refl refl con (let x = sym e ∙ d in cc))
  a_datum_by n k ps arg f con new v u (a_name is (inr e) name np) d = absurd (let x = sym e.1 ∙ d in cc)
  a_datum_by n k ps arg f con new v u (a_tuple a vs ev eb h) d = absurd (let x = sym h.2 ∙ d in cc)
  a_datum_by n k ps arg f con new v u (an_applied a j w ev eb h) d = inr (a, j, w, ev, eb)
  a_datum_by n k ps arg f con new v u (a_text a bytes ev eb e) d = absurd (no_base 2 n k ps arg _ refl refl con (let x = sym e ∙ d in cc))
  a_datum_by n k ps arg f con new v u (a_cell a w b g ev eb es ef h e) d = absurd (new (let x = sym e ∙ d in cc))
  a_datum_by n k ps arg f con new v u (a_packet a x w b ev eb is h e) d = absurd (no_base 3 n k ps arg _ refl refl con (let x = sym e ∙ d in cc))
  a_datum_by n k ps arg f con new v u (a_closure a i rules env g b c ev eb en ei e q) d = absurd (let x = sym e ∙ d in cc)

  -- a value of a datatype is a constructor, applied or not
  pub a_datum : (n k : ℕ) (ps : List TyVar) (arg : Option Tree) (f : TyVar → Tree) → IsCon p t n k ps arg → n ≢ ref_number → (v : Value) → HasTy p t sig v (inst f (data_ty p t n ps)) → IsDatum v
  a_datum n k ps arg f con new v h = a_datum_by n k ps arg f con new v (inst f (data_ty p t n ps)) (view p t typing sig bs store v (inst f (data_ty p t n ps)) h) refl
