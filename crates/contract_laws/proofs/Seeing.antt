-- What both machines see of related values.
use Rattle.std.proofs.Common.{◌≡◌, ◌≢◌, ℕ, zero, suc, ◌<◌, List, [], ◌∷◌, map, length, Option, Some, None, slice_get, Bool, true, false, cond, refl, sym, ap, ◌∙◌, subst, subst₂, eqb-true, nat_eq}
use Rattle.smlc_base.specs.declared.point.Point.{Point}
use Rattle.smlc_base.specs.declared.primitive.Primitive.{Primitive}
use Rattle.smlc_base.specs.declared.primitive.Primitive.TheVariants as prim
use Rattle.std.proofs.lemmas.Option.{slice_get_within}
use Rattle.std.specs.Prelude.{ℤ, pos}
use Rattle.smlc_base.specs.declared.exception.LibraryExn.{LibraryExn}
use Rattle.simulation.proofs.Lists.{some_eq, get_below}
use Rattle.sml_tree.specs.declared.bare.Bare.{Bare}
use Rattle.prim_meaning.specs.Meaning as mean
use Rattle.prim_meaning.specs.Meaning.{Seen}
use Rattle.prim_meaning.specs.Tests.{same_names}
use Rattle.prim_meaning.specs.Alike.{AllAlike, same_scalar, same_text, same_tuple, same_applied, same_cell, same_packet, HasBlocks}
use Rattle.sml_def.specs.Builtin.{see, see_text, see_block, see_builtin, which}
use Rattle.sml_def.specs.Maybe.{◌>>=◌, when, or_else}
use Rattle.sml_def.specs.State.{Value, Number, Letter, Nothing, Tag, Constant, Builtin, Maker, RefMaker, Library, At, Address, Block, Tuple, Applied, Text, Cell, ExnName, Packet, Closure, Frame, Pending}
use Rattle.sml_def.specs.Match.{block_of, packet_block}
use Rattle.sml_def.specs.Step.{exn_name, name_of, spelled}
use Rattle.cps_ir.specs.declared.atom.Shape.{Shape}
use Rattle.cps_ir.specs.declared.atom.Atom.TheVariants as atom
use Rattle.cps_ir.specs.declared.atom.Shape.TheVariants as form
use Rattle.cps_ir.specs.Code.{Call}
use Rattle.cps_ir.specs.State.{Piece, Plain, Fun, datum_of, data_of}
use Rattle.cps_ir.specs.Tests.{is_name, name_block}
use Rattle.cps_ir.specs.Step.{block_made}
use Rattle.contract_laws.proofs.Relation.{is_blockless, eqb_other, Val, same, address, eta, Vals, none, next, IsDatum, tuple, applied, text, cell, exn_name as name_datum, packet, pending, IsPiece, closure, plain, Heap}
use Rattle.contract_laws.proofs.Sees.{SeesAs, unseen, seen, SeesMore, NamesMore}

-- a cell of the argument, and that of the answer that stands for it
pub record IsCells (f : ℕ → ℕ) (st ps : List Piece) (a b : ℕ) : Type 0 where
  pub left : Value
  pub right : Value
  pub at : slice_get st a ≡ Some (Plain (Cell left))
  pub there : slice_get ps b ≡ Some (Plain (Cell right))
  pub is : f b ≡ a

-- a function is none of the data
abbrev is_open_block : Option Block → Bool
is_open_block (Some (Closure i rules env)) = false
is_open_block (Some (Frame w k)) = false
is_open_block (Some _) = true
is_open_block None = false

pub get_map : {X Y : Type 0} (f : X → Y) (xs : List X) (a : ℕ) (x : X) → slice_get xs a ≡ Some x → slice_get (map f xs) a ≡ Some (f x)
get_map f [] a x e = absurd (cc)
get_map f (y ∷ xs) zero x e = some_eq (λ z. Some (f y) ≡ Some (f z)) y x e refl
get_map f (y ∷ xs) (suc a) x e = get_map f xs a x e

pub blockless_none : (store : List Block) (v : Value) → is_blockless v ≡ true → block_of store v ≡ None
blockless_none store (At a) e = absurd (cc)
blockless_none store _ e = refl

module _ (p : Bare) (store : List Block) where
  -- the name of an exception, of what stands at a value
  pub name_by_block : (v : Value) (d : Block) → block_of store v ≡ Some d → exn_name p store v ≡ spelled p (Some d)
  name_by_block (At a) d e = ap (spelled p) e
  name_by_block (Number z) d e = absurd (cc)
  name_by_block (Letter c) d e = absurd (cc)
  name_by_block Nothing d e = absurd (cc)
  name_by_block (Tag n) d e = absurd (cc)
  name_by_block (Constant n) d e = absurd (cc)
  name_by_block (Builtin g) d e = absurd (cc)
  name_by_block (Maker n) d e = absurd (cc)
  name_by_block RefMaker d e = absurd (cc)
  name_by_block (Library e') d e = absurd (cc)

  pub name_of_block : (v : Value) (d : Block) → block_of store v ≡ Some d → name_of p store v ≡ or_else (packet_block (Some d)) (λ packet. packet.0) v
  name_of_block v d e = ap (λ o. or_else (packet_block o) (λ packet. packet.0) v) e

blockless_names : (p : Bare) (store more : List Block) (v : Value) → is_blockless v ≡ true → exn_name p store v ≡ exn_name p more v
blockless_names p store more (At a) e = absurd (cc)
blockless_names p store more _ e = refl

blockless_thrown : (p : Bare) (store more : List Block) (v : Value) → is_blockless v ≡ true → exn_name p store (name_of p store v) ≡ exn_name p more (name_of p more v)
blockless_thrown p store more (At a) e = absurd (cc)
blockless_thrown p store more _ e = refl

pub when_some : {X : Type 0} (b : Bool) (x y : X) → when b x ≡ Some y → (b ≡ true) × (x ≡ y)
when_some true x y e = (refl, some_eq (λ z. x ≡ z) x y e refl)
when_some false x y e = absurd (cc)

pub bind_some : {X Y : Type 0} (o : Option X) (f : X → Option Y) (y : Y) → (o >>= f) ≡ Some y → (x : X) × (o ≡ Some x) × (f x ≡ Some y)
bind_some None f y e = absurd (cc)
bind_some (Some x) f y e = (x, refl, e)

module _ (T : List (List ℕ)) (L : List Point) (f : ℕ → ℕ) (st ps : List Piece) (h : Heap T L f st ps) where
  abbrev Same : Value → Value → Type 0
  Same u v = Val L f st (length ps) u v

  -- related blocks, of a value that is no function
  abbrev pub BlockOf : Block → Value → Type 0
  BlockOf b v = (d : Block) × (block_of (data_of ps) v ≡ Some d) × IsDatum L f st (length ps) b d

  of_piece : (a c : ℕ) (i x : Piece) (b : Block) → slice_get st a ≡ Some i → slice_get ps c ≡ Some x → IsPiece T L f st ps i x → slice_get (data_of st) a ≡ Some b → is_open_block (Some b) ≡ true → BlockOf b (At c)
  of_piece a c i x b s t (closure w S p xs k d env env' fr n r) e o =
      let g : Some (Closure 0 [] []) ≡ Some b = sym (get_map datum_of st a (Fun p xs k env) s) ∙ e in
      let j : Closure 0 [] [] ≡ b = cc in
      let z : false ≡ true = ap (λ y. is_open_block (Some y)) j ∙ o in
      cc
  of_piece a c i x b s t (plain k d r) e o =
      let g : Some k ≡ Some b = sym (get_map datum_of st a (Plain k) s) ∙ e in
      (d, get_map datum_of ps c (Plain d) t, some_eq (λ z. IsDatum L f st (length ps) z d) k b g r)

  pub block_kept : (u v : Value) → Same u v → (b : Block) → block_of (data_of st) u ≡ Some b → is_open_block (Some b) ≡ true → BlockOf b v
  block_kept u v (same w k) b e o = absurd (let g = blockless_none (data_of st) w k in let j : None ≡ Some b = sym g ∙ e in cc)
  block_kept u v (address a c l q) b e o =
      let z = get_below ps c l in
      let r = h.piece c z.0 z.1 in
      of_piece a c r.item z.0 b (ap (slice_get st) (sym q) ∙ r.at) z.1 r.is e o
  block_kept u v (eta a p xs x env w at hid n d r) b e o = absurd (
      let g : Some (Closure 0 [] []) ≡ Some b = sym (get_map datum_of st a (Fun p xs (Call (atom.Var x) (map atom.Var xs)) env) at) ∙ e in
      let j : Closure 0 [] [] ≡ b = cc in
      let z : false ≡ true = ap (λ y. is_open_block (Some y)) j ∙ o in
      cc)

  -- ---- Blocks that are made

  pub made_kept : (shape : Shape) (us vs : List Value) → Vals L f st (length ps) us vs → (b : Block) → block_made shape us ≡ Some b → (d : Block) × (block_made shape vs ≡ Some d) × IsDatum L f st (length ps) b d
  made_kept form.Tuple us vs r b e = (Tuple vs, refl, some_eq (λ t. IsDatum L f st (length ps) t (Tuple vs)) (Tuple us) b e (tuple us vs r))
  made_kept (form.Applied n) us vs none b e = absurd (cc)
  made_kept (form.Applied n) us vs (next u v ws xs r none) b e = (Applied n v, refl, some_eq (λ t. IsDatum L f st (length ps) t (Applied n v)) (Applied n u) b e (applied n u v r))
  made_kept (form.Applied n) us vs (next u v ws xs r (next y z ys zs q t)) b e = absurd (cc)
  made_kept form.Cell us vs none b e = absurd (cc)
  made_kept form.Cell us vs (next u v ws xs r none) b e = (Cell v, refl, some_eq (λ t. IsDatum L f st (length ps) t (Cell v)) (Cell u) b e (cell u v r))
  made_kept form.Cell us vs (next u v ws xs r (next y z ys zs q t)) b e = absurd (cc)
  made_kept (form.ExnName x) us vs none b e = (ExnName x, refl, some_eq (λ t. IsDatum L f st (length ps) t (ExnName x)) (ExnName x) b e (name_datum x))
  made_kept (form.ExnName x) us vs (next u v ws xs r q) b e = absurd (cc)
  made_kept form.Packet us vs none b e = absurd (cc)
  made_kept form.Packet us vs (next u v ws xs r none) b e = absurd (cc)
  made_kept form.Packet us vs (next u v ws xs r (next y z ys zs q none)) b e = (Packet v z, refl, some_eq (λ t. IsDatum L f st (length ps) t (Packet v z)) (Packet u y) b e (packet u v y z r q))
  made_kept form.Packet us vs (next u v ws xs r (next y z ys zs q (next i j is js k l))) b e = absurd (cc)

  -- ---- Names of exceptions

  is_exn_name : (p : Bare) (o : Option Block) (n : List ℕ) → spelled p o ≡ Some n → (x : ℕ) × (o ≡ Some (ExnName x)) × (slice_get p.names x ≡ Some n)
  is_exn_name p (Some (ExnName x)) n e = (x, refl, e)
  is_exn_name p None n e = absurd (cc)
  is_exn_name p (Some (Tuple us)) n e = absurd (cc)
  is_exn_name p (Some (Applied m x)) n e = absurd (cc)
  is_exn_name p (Some (Text bytes)) n e = absurd (cc)
  is_exn_name p (Some (Cell x)) n e = absurd (cc)
  is_exn_name p (Some (Packet x y)) n e = absurd (cc)
  is_exn_name p (Some (Closure m rules env)) n e = absurd (cc)
  is_exn_name p (Some (Pending x y m)) n e = absurd (cc)
  is_exn_name p (Some _) n e = absurd (cc)

  exn_datum : (x : ℕ) (d : Block) → IsDatum L f st (length ps) (ExnName x) d → d ≡ ExnName x
  exn_datum x d (name_datum y) = refl

  named_at : (p : Bare) (a : Address) (v : Value) → Same (At a) v → (n : List ℕ) → exn_name p (data_of st) (At a) ≡ Some n → exn_name p (data_of ps) v ≡ Some n
  named_at p a v r n e =
      let x = is_exn_name p (slice_get (data_of st) a) n e in
      let d = block_kept (At a) v r (ExnName x.0) x.1 refl in
      name_by_block p (data_of ps) v d.0 d.1 ∙ ap (λ t. spelled p (Some t)) (exn_datum x.0 d.0 d.2) ∙ x.2

  pub name_kept : (p : Bare) (u v : Value) → Same u v → (n : List ℕ) → exn_name p (data_of st) u ≡ Some n → exn_name p (data_of ps) v ≡ Some n
  name_kept p u v (same w k) n e = blockless_names p (data_of ps) (data_of st) w k ∙ e
  name_kept p u v (address a c l q) n e = named_at p a (At c) (address a c l q) n e
  name_kept p u v (eta a y xs x env w at hid o d r) n e = named_at p a v (eta a y xs x env v at hid o d r) n e

  packet_datum : (x y : Value) (d : Block) → IsDatum L f st (length ps) (Packet x y) d → (z w : Value) × (d ≡ Packet z w) × Same x z
  packet_datum x y d (packet x' z u w r q) = (z, w, refl, r)

  thrown_by : (p : Bare) (a : Address) (v : Value) → Same (At a) v → (n : List ℕ) (o : Option Block) → slice_get (data_of st) a ≡ o → exn_name p (data_of st) (or_else (packet_block o) (λ packet. packet.0) (At a)) ≡ Some n → exn_name p (data_of ps) (name_of p (data_of ps) v) ≡ Some n
  thrown_by p a v r n (Some (Packet x y)) g e =
      let d = block_kept (At a) v r (Packet x y) g refl in
      let k = packet_datum x y d.0 d.2 in
      ap (exn_name p (data_of ps)) (name_of_block p (data_of ps) v d.0 d.1 ∙ ap (λ t. or_else (packet_block (Some t)) (λ packet. packet.0) v) k.2) ∙ name_kept p x k.0 k.3 n e
  thrown_by p a v r n (Some (ExnName x)) g e =
      let d = block_kept (At a) v r (ExnName x) g refl in
      let k = exn_datum x d.0 d.2 in
      ap (exn_name p (data_of ps)) (name_of_block p (data_of ps) v d.0 d.1 ∙ ap (λ t. or_else (packet_block (Some t)) (λ packet. packet.0) v) k) ∙ named_at p a v r n e
  thrown_by p a v r n None g e = absurd (let k = is_exn_name p (slice_get (data_of st) a) n e in let j : None ≡ Some (ExnName k.0) = sym g ∙ k.1 in cc)
  thrown_by p a v r n (Some (Tuple us)) g e = absurd (let k = is_exn_name p (slice_get (data_of st) a) n e in let j : Some (Tuple us) ≡ Some (ExnName k.0) = sym g ∙ k.1 in cc)
  thrown_by p a v r n (Some (Applied m x)) g e = absurd (let k = is_exn_name p (slice_get (data_of st) a) n e in let j : Some (Applied m x) ≡ Some (ExnName k.0) = sym g ∙ k.1 in cc)
  thrown_by p a v r n (Some (Text bytes)) g e = absurd (let k = is_exn_name p (slice_get (data_of st) a) n e in let j : Some (Text bytes) ≡ Some (ExnName k.0) = sym g ∙ k.1 in cc)
  thrown_by p a v r n (Some (Cell x)) g e = absurd (let k = is_exn_name p (slice_get (data_of st) a) n e in let j : Some (Cell x) ≡ Some (ExnName k.0) = sym g ∙ k.1 in cc)
  thrown_by p a v r n (Some (Closure m rules env)) g e = absurd (let k = is_exn_name p (slice_get (data_of st) a) n e in let j : Some (Closure m rules env) ≡ Some (ExnName k.0) = sym g ∙ k.1 in cc)
  thrown_by p a v r n (Some (Frame w o)) g e = absurd (let k = is_exn_name p (slice_get (data_of st) a) n e in let j : Some (Frame w o) ≡ Some (ExnName k.0) = sym g ∙ k.1 in cc)
  thrown_by p a v r n (Some (Pending x y m)) g e = absurd (let k = is_exn_name p (slice_get (data_of st) a) n e in let j : Some (Pending x y m) ≡ Some (ExnName k.0) = sym g ∙ k.1 in cc)

  -- the name of what is thrown
  pub thrown_kept : (p : Bare) (u v : Value) → Same u v → (n : List ℕ) → exn_name p (data_of st) (name_of p (data_of st) u) ≡ Some n → exn_name p (data_of ps) (name_of p (data_of ps) v) ≡ Some n
  thrown_kept p u v (same w k) n e = blockless_thrown p (data_of ps) (data_of st) w k ∙ e
  thrown_kept p u v (address a c l q) n e = thrown_by p a (At c) (address a c l q) n (slice_get (data_of st) a) refl e
  thrown_kept p u v (eta a y xs x env w at hid o d r) n e = thrown_by p a v (eta a y xs x env v at hid o d r) n (slice_get (data_of st) a) refl e

  -- ---- What is seen

  one : (a b c d : ℕ) (x y : Piece) → slice_get ps c ≡ Some x → slice_get ps d ≡ Some y → f c ≡ a → f d ≡ b → nat_eq c d ≡ nat_eq a b
  one a b c d x y g k i j = by (nat_eq c d) refl (nat_eq a b) refl
    where
      by : (p : Bool) → nat_eq c d ≡ p → (q : Bool) → nat_eq a b ≡ q → nat_eq c d ≡ nat_eq a b
      by true e true u = e ∙ sym u
      by false e false u = e ∙ sym u
      by true e false u = absurd (eqb_other a b u (sym i ∙ ap f (eqb-true c d e) ∙ j))
      by false e true u = absurd (eqb_other c d e (h.apart c d x y g k (i ∙ eqb-true a b u ∙ sym j)))

  abbrev Sees : Seen Value → Seen Value → Type 0
  Sees s t = SeesAs (IsCells f st ps) (Val L f st (length ps)) s t

  pub vals_alike : (us vs : List Value) → Vals L f st (length ps) us vs → AllAlike (Val L f st (length ps)) us vs
  vals_alike us vs none = tt
  vals_alike us vs (next u v ws xs r k) = (r, vals_alike ws xs k)

  text_sees : (o : Option (List ℕ)) → Sees (see_text o) (see_text o)
  text_sees None = unseen (see_text None)
  text_sees (Some bytes) = seen (mean.Text bytes) (mean.Text bytes) (same_text bytes)

  scalar_sees : (z : ℤ) → Sees (mean.Scalar z) (mean.Scalar z)
  scalar_sees z = seen (mean.Scalar z) (mean.Scalar z) (same_scalar z)

  builtin_sees : (g : Primitive) → Sees (see_builtin g) (see_builtin g)
  builtin_sees prim.StdIn = scalar_sees (pos 0)
  builtin_sees _ = unseen mean.Opaque

  blockless_sees : (v : Value) → is_blockless v ≡ true → Sees (see T (data_of st) v) (see T (data_of ps) v)
  blockless_sees (Number z) e = scalar_sees z
  blockless_sees (Letter c) e = scalar_sees (pos c)
  blockless_sees Nothing e = scalar_sees (pos 0)
  blockless_sees (Tag n) e = scalar_sees (pos n)
  blockless_sees (Constant n) e = text_sees (slice_get T n)
  blockless_sees (Builtin g) e = builtin_sees g
  blockless_sees (Maker n) e = unseen mean.Opaque
  blockless_sees RefMaker e = unseen mean.Opaque
  blockless_sees (Library l) e = unseen mean.Opaque
  blockless_sees (At a) e = absurd (cc)

  datum_sees : (a c : ℕ) (b d : Block) → slice_get st a ≡ Some (Plain b) → slice_get ps c ≡ Some (Plain d) → f c ≡ a → IsDatum L f st (length ps) b d → Sees (see_block a (Some b)) (see_block c (Some d))
  datum_sees a c b d s t q (tuple us vs r) = seen (mean.Tuple us) (mean.Tuple vs) (same_tuple us vs (vals_alike us vs r))
  datum_sees a c b d s t q (applied n u v r) = seen (mean.Applied a n u) (mean.Applied c n v) (same_applied a c n u v r)
  datum_sees a c b d s t q (text bytes) = seen (mean.Text bytes) (mean.Text bytes) (same_text bytes)
  datum_sees a c b d s t q (cell u v r) = seen (mean.Cell a u) (mean.Cell c v) (same_cell a c u v (record { left = u; right = v; at = s; there = t; is = q }) r)
  datum_sees a c b d s t q (name_datum x) = unseen mean.Opaque
  datum_sees a c b d s t q (packet x y u v r k) = seen (mean.Packet x u) (mean.Packet y v) (same_packet x u y v r k)
  datum_sees a c b d s t q (pending x y u v m n r k i) = unseen mean.Opaque

  piece_sees : (a c : ℕ) (i x : Piece) → slice_get st a ≡ Some i → slice_get ps c ≡ Some x → f c ≡ a → IsPiece T L f st ps i x → Sees (see_block a (Some (datum_of i))) (see_block c (Some (datum_of x)))
  piece_sees a c i x s t q (closure w S p xs k d env env' fr n r) = unseen mean.Opaque
  piece_sees a c i x s t q (plain b d r) = datum_sees a c b d s t q r

  see_kept : (u v : Value) → Val L f st (length ps) u v → Sees (see T (data_of st) u) (see T (data_of ps) v)
  see_kept u v (same w k) = blockless_sees w k
  see_kept u v (address a c l q) =
      let z = get_below ps c l in
      let r = h.piece c z.0 z.1 in
      let at : slice_get st a ≡ Some r.item = ap (slice_get st) (sym q) ∙ r.at in
      subst₂ Sees (sym (ap (see_block a) (get_map datum_of st a r.item at))) (sym (ap (see_block c) (get_map datum_of ps c z.0 z.1))) (piece_sees a c r.item z.0 at z.1 q r.is)
  see_kept u v (eta a p xs x env w at hid n d r) =
      subst (λ s. Sees s (see T (data_of ps) w)) (sym (ap (see_block a) (get_map datum_of st a (Fun p xs (Call (atom.Var x) (map atom.Var xs)) env) at))) (unseen (see T (data_of ps) w))

  pub views : SeesMore (IsCells f st ps) (Val L f st (length ps)) (see T (data_of st)) (see T (data_of ps))
  views = record {
    one_to_one = λ a b c d g k. one a b c d (Plain (Cell g.right)) (Plain (Cell k.right)) g.there k.there g.is k.is;
    alike = see_kept;
  }

  -- ---- Exception names

  data Named : Value → Value → Type 0 where
    of_library : (e : LibraryExn) → Named (Library e) (Library e)
    declared : (a c : ℕ) (x : Piece) → slice_get ps c ≡ Some x → f c ≡ a → is_name (data_of ps) (At c) ≡ true → Named (At a) (At c)

  blockless_named : (w : Value) → is_blockless w ≡ true → is_name (data_of st) w ≡ true → Named w w
  blockless_named (Library e) b k = of_library e
  blockless_named (At a) b k = absurd (cc)
  blockless_named _ b k = absurd (cc)

  name_datum_kept : (b d : Block) → IsDatum L f st (length ps) b d → name_block (Some b) ≡ true → name_block (Some d) ≡ true
  name_datum_kept b d (tuple us vs r) e = absurd (cc)
  name_datum_kept b d (applied n u v r) e = absurd (cc)
  name_datum_kept b d (text bytes) e = absurd (cc)
  name_datum_kept b d (cell u v r) e = absurd (cc)
  name_datum_kept b d (name_datum x) e = refl
  name_datum_kept b d (packet x y u v r k) e = absurd (cc)
  name_datum_kept b d (pending x y u v m n r k i) e = absurd (cc)

  name_piece_kept : (i x : Piece) → IsPiece T L f st ps i x → name_block (Some (datum_of i)) ≡ true → name_block (Some (datum_of x)) ≡ true
  name_piece_kept i x (closure w S p xs k d env env' fr n r) e = absurd (cc)
  name_piece_kept i x (plain b d r) e = name_datum_kept b d r e

  named_kept : (u v : Value) → Val L f st (length ps) u v → is_name (data_of st) u ≡ true → Named u v
  named_kept u v (same w b) e = blockless_named w b e
  named_kept u v (address a c l q) e =
      let z = get_below ps c l in
      let r = h.piece c z.0 z.1 in
      let at : slice_get st a ≡ Some r.item = ap (slice_get st) (sym q) ∙ r.at in
      declared a c z.0 z.1 q (ap name_block (get_map datum_of ps c z.0 z.1) ∙ name_piece_kept r.item z.0 r.is (sym (ap name_block (get_map datum_of st a r.item at)) ∙ e))
  named_kept u v (eta a p xs x env w at hid n d r) e = absurd (
      let g : name_block (slice_get (data_of st) a) ≡ false = ap name_block (get_map datum_of st a (Fun p xs (Call (atom.Var x) (map atom.Var xs)) env) at) in
      let z : false ≡ true = sym g ∙ e in
      cc)

  still_named : (u v : Value) → Named u v → is_name (data_of ps) v ≡ true
  still_named u v (of_library e) = refl
  still_named u v (declared a c x g q e) = e

  two_named : (u v : Value) (x y : Value) → Named u v → Named x y → same_names (which v) (which y) ≡ same_names (which u) (which x)
  two_named u v x y (of_library e) (of_library k) = refl
  two_named u v x y (of_library e) (declared a c i g q k) = refl
  two_named u v x y (declared a c i g q k) (of_library e) = refl
  two_named u v x y (declared a c i g q k) (declared b d j m n l) = one a b c d i j g m q n

  name_unseen : (o : Option Block) (a : ℕ) → name_block o ≡ true → see_block a o ≡ mean.Opaque
  name_unseen None a e = refl
  name_unseen (Some (ExnName x)) a e = refl
  name_unseen (Some _) a e = absurd (cc)

  unseen_name : (w : Value) → is_name (data_of ps) w ≡ true → see T (data_of ps) w ≡ mean.Opaque
  unseen_name (Library e) k = refl
  unseen_name (At a) k = name_unseen (slice_get (data_of ps) a) a k
  unseen_name _ k = absurd (cc)

  pub names : NamesMore (Val L f st (length ps)) (see T (data_of ps)) which which (is_name (data_of st)) (is_name (data_of ps))
  names = record {
    kept = λ v w r e. still_named v w (named_kept v w r e);
    opaque = unseen_name;
    same = λ v u w x r k e g. two_named v w u x (named_kept v w r e) (named_kept u x k g);
  }

-- ---- Blocks of a store

applied_same : (m n : ℕ) (x y : Value) → Some (Applied m x) ≡ Some (Applied n y) → y ≡ x
applied_same m n x y e = cc

-- an applied constructor that is seen stands in the store
module _ (T : List (List ℕ)) (store : List Block) where
  text_apart : (o : Option (List ℕ)) (a n : ℕ) (x : Value) → see_text o ≡ mean.Applied a n x → ⊥
  text_apart None a n x e = cc
  text_apart (Some bytes) a n x e = cc

  builtin_apart : (g : Primitive) (a n : ℕ) (x : Value) → see_builtin g ≡ mean.Applied a n x → ⊥
  builtin_apart prim.StdIn a n x e = cc
  builtin_apart _ a n x e = cc

  block_applied : (c : ℕ) (o : Option Block) (a n : ℕ) (x : Value) → see_block c o ≡ mean.Applied a n x → (c ≡ a) × (o ≡ Some (Applied n x))
  block_applied c None a n x e = absurd (cc)
  block_applied c (Some (Applied m v)) a n x e = (cc, (let p : m ≡ n = cc in let q : v ≡ x = cc in cc))
  block_applied c (Some (Tuple vs)) a n x e = absurd (cc)
  block_applied c (Some (Text bytes)) a n x e = absurd (cc)
  block_applied c (Some (Cell v)) a n x e = absurd (cc)
  block_applied c (Some (Packet y v)) a n x e = absurd (cc)
  block_applied c (Some _) a n x e = absurd (cc)

  applied_at : (v : Value) (a n : ℕ) (x : Value) → see T store v ≡ mean.Applied a n x → slice_get store a ≡ Some (Applied n x)
  applied_at (At c) a n x e = let k = block_applied c (slice_get store c) a n x e in ap (slice_get store) (sym k.0) ∙ k.1
  applied_at (Constant t) a n x e = absurd (text_apart (slice_get T t) a n x e)
  applied_at (Builtin g) a n x e = absurd (builtin_apart g a n x e)
  applied_at (Number z) a n x e = absurd (cc)
  applied_at (Letter c) a n x e = absurd (cc)
  applied_at Nothing a n x e = absurd (cc)
  applied_at (Tag k) a n x e = absurd (cc)
  applied_at (Maker k) a n x e = absurd (cc)
  applied_at RefMaker a n x e = absurd (cc)
  applied_at (Library l) a n x e = absurd (cc)

  pub has_blocks : HasBlocks (see T store) (length store)
  has_blocks = record {
    below = λ v a n x e. slice_get_within store a (Applied n x) (applied_at v a n x e);
    same = λ v w a m n x y e g. applied_same m n x y (sym (applied_at v a m x e) ∙ applied_at w a n y g);
  }
