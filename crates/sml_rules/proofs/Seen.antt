-- How the rules' values are seen: as the machine sees those that stand for them.
use Rattle.std.proofs.Common.{◌≡◌, ℕ, ◌<◌, ◌≤◌, List, [], ◌∷◌, length, Option, Some, None, refl, sym, ap, ◌∙◌, subst, ⊎_elim}
use Rattle.std.specs.Prelude.{pos, slice_get, nat_eq, map}
use Rattle.std.proofs.lemmas.Option.{slice_get_past}
use Rattle.std.proofs.lemmas.Bool.{cases_lt}
use Rattle.smlc_base.specs.declared.primitive.Primitive.{Primitive}
use Rattle.smlc_base.specs.declared.primitive.Primitive.TheVariants as prim
use Rattle.prim_meaning.specs.Meaning.{Seen, Scalar, Text, Tuple, Applied, Cell, Packet, Opaque}
use Rattle.prim_meaning.specs.Meaning as mean
use Rattle.prim_meaning.specs.Alike.{AllAlike, SameSeen, same_scalar, same_text, same_tuple, same_applied, same_cell, same_packet, same_opaque, Views, HasBlocks}
use Rattle.sml_tree.specs.declared.bare.Bare.{Bare}
use Rattle.sml_def.specs.State.{Value, At, Address, Block}
use Rattle.sml_def.specs.State as m
use Rattle.sml_def.specs.Match.{block_of}
use Rattle.sml_def.specs.Builtin as mb
use Rattle.sml_rules.specs.Terms.{Term, Terms, no_terms, more_terms, listed, State}
use Rattle.sml_rules.specs.Terms as t
use Rattle.sml_rules.specs.Apply as basic
use Rattle.sml_rules.proofs.Relation.{World, Are}
use Rattle.sml_rules.proofs.Environments.{Is, split}
use Rattle.sml_rules.proofs.Forms.{Holds, Form, form}
use Rattle.sml_rules.proofs.Forms as f
use Rattle.sml_rules.proofs.Fitting.{same_tests}

-- ---- Terms

abbrev pub see_cell : ℕ → Option Term → Seen Term
see_cell n None = Opaque
see_cell n (Some u) = Cell n u

-- with the memory
abbrev pub see : List Term → Term → Seen Term
see memory (t.Number z) = Scalar z
see memory (t.Letter c) = Scalar (pos c)
see memory (t.Text bytes) = Text bytes
see memory (t.Record no_terms) = Scalar (pos 0)
see memory (t.Record (more_terms u us)) = Tuple (u ∷ listed us)
see memory (t.Tag n) = Scalar (pos n)
see memory (t.Applied n u) = Applied 0 n u
see memory (t.Builtin prim.StdIn) = Scalar (pos 0)
see memory (t.Packet x u) = Packet x u
see memory (t.Cell n) = see_cell n (slice_get memory n)
see memory _ = Opaque

module _ (memory : List Term) where
  cell_datum : (n : ℕ) (o : Option Term) → mean.datum (see_cell n o) ≡ basic.datum (t.Cell n)
  cell_datum n None = refl
  cell_datum n (Some u) = refl

  -- what a value is as a datum
  datum_is : (u : Term) → mean.datum (see memory u) ≡ basic.datum u
  datum_is (t.Builtin prim.StdIn) = refl
  datum_is (t.Cell n) = cell_datum n (slice_get memory n)
  datum_is (t.Record (more_terms y ys)) = refl
  datum_is _ = refl

  pub data_are : (us : List Term) → map (λ u. mean.datum (see memory u)) us ≡ map basic.datum us
  data_are [] = refl
  data_are (u ∷ us) = ap (λ d. d ∷ map (λ u. mean.datum (see memory u)) us) (datum_is u) ∙ ap (λ ds. basic.datum u ∷ ds) (data_are us)

-- an address of the memory has a content there
abbrev pub InMemory : List Term → Term → Type 0
InMemory memory (t.Cell n) = (u : Term) × (slice_get memory n ≡ Some u)
InMemory memory u = Unit {0}

-- ---- The machine's values

-- a value with its block
abbrev see_with : List (List ℕ) → Value → Option Block → Seen Value
see_with texts (At a) o = mb.see_block a o
see_with texts v o = mb.see texts [] v

see_is : (texts : List (List ℕ)) (store : List Block) (v : Value) → mb.see texts store v ≡ see_with texts v (block_of store v)
see_is texts store (At a) = refl
see_is texts store _ = refl

-- ---- Both

module _ (p : Bare) (w : World) (s : State) (holds : Holds p w s) where
  abbrev pub Stands : Value → Term → Type 0
  Stands v u = Is p w u v

  abbrev pub AtCell : Address → ℕ → Type 0
  AtCell a n = slice_get w.cells n ≡ Some a

  pub in_memory : (u : Term) (v : Value) (o : Option Block) → Form p w s u v o → InMemory s.memory u
  in_memory u v o (f.cell n a u' x e g h) = (u', g)
  in_memory u v o _ = tt

  pub all_alike : (us : List Term) (vs : List Value) → Are p w us vs → AllAlike Stands vs us
  all_alike [] [] h = tt
  all_alike (u ∷ us) (v ∷ vs) h = let a = split p w _ _ h in (a.0, all_alike us vs a.1)
  all_alike [] (v ∷ vs) h = absurd (split p w [] (v ∷ vs) h)
  all_alike (u ∷ us) [] h = absurd (split p w (u ∷ us) [] h)

  alike : (u : Term) (v : Value) (o : Option Block) → Form p w s u v o → SameSeen AtCell Stands (see_with p.texts v o) (see s.memory u)
  alike u v o (f.number z) = same_scalar z
  alike u v o (f.letter c) = same_scalar (pos c)
  alike u v o (f.constant bytes n e) = subst (λ q. SameSeen AtCell Stands (mb.see_text q) (Text bytes)) (sym e) (same_text bytes)
  alike u v o (f.string bytes a) = same_text bytes
  alike u v o f.nothing = same_scalar (pos 0)
  alike u v o (f.tuple u' fields a us h) = same_tuple us (u' ∷ listed fields) (all_alike (u' ∷ listed fields) us h)
  alike u v o (f.tag n) = same_scalar (pos n)
  alike u v o (f.applied n u' a x h) = same_applied a 0 n x u' h
  alike u v o (f.builtin prim.StdIn) = same_scalar (pos 0)
  alike u v o (f.packet x u' a y z h g) = same_packet y z x u' h g
  alike u v o (f.cell n a u' x e g h) =
      subst (λ q. SameSeen AtCell Stands (Cell a x) (see_cell n q)) (sym g) (same_cell a n x u' e h)
  alike u v o _ = same_opaque

  one_to_one : (a b i j : ℕ) → AtCell a i → AtCell b j → nat_eq i j ≡ nat_eq a b
  one_to_one a b i j e g =
      same_tests i j a b (λ q. let d = ap (slice_get w.cells) q in cc) (λ q. holds.cells_apart i j a e (g ∙ ap (λ n. Some n) (sym q)))

  pub views : Views AtCell Stands (mb.see p.texts w.store) (see s.memory)
  views = record {
    one_to_one = one_to_one;
    alike = λ v u h. subst (λ q. SameSeen AtCell Stands q (see s.memory u)) (sym (see_is p.texts w.store v)) (alike u v (block_of w.store v) (form p w s holds u v h));
  }

-- ---- Applied constructors of the machine

module _ (texts : List (List ℕ)) (store : List Block) where
  record IsApplied (v : Value) (a n : ℕ) (x : Value) : Type 0 where
    value : v ≡ At a
    stands : slice_get store a ≡ Some (m.Applied n x)

  builtin_not : (g : Primitive) (a n : ℕ) (x : Value) → mb.see_builtin g ≡ Applied a n x → ⊥
  builtin_not prim.StdIn a n x e = cc
  builtin_not _ a n x e = cc

  text_not : (o : Option (List ℕ)) (a n : ℕ) (x : Value) → mb.see_text o ≡ Applied a n x → ⊥
  text_not None a n x e = cc
  text_not (Some bytes) a n x e = cc

  applied_block : (b : Address) (o : Option Block) (a n : ℕ) (x : Value) → slice_get store b ≡ o → mb.see_block b o ≡ Applied a n x → IsApplied (At b) a n x
  applied_block b (Some (m.Applied k y)) a n x g e =
      let at : b ≡ a = cc in
      let number : k ≡ n = cc in
      let part : y ≡ x = cc in
      record { value = ap At at; stands = sym (ap (slice_get store) at) ∙ g ∙ ap (λ i. Some (m.Applied i y)) number ∙ ap (λ i. Some (m.Applied n i)) part }
  applied_block b None a n x g e = absurd cc
  applied_block b _ a n x g e = absurd cc

  is_applied : (v : Value) (a n : ℕ) (x : Value) → mb.see texts store v ≡ Applied a n x → IsApplied v a n x
  is_applied (At b) a n x e = applied_block b (slice_get store b) a n x refl e
  is_applied (m.Constant c) a n x e = absurd (text_not (slice_get texts c) a n x e)
  is_applied (m.Builtin g) a n x e = absurd (builtin_not g a n x e)
  is_applied _ a n x e = absurd cc

  in_store : (a : ℕ) (b : Block) → slice_get store a ≡ Some b → a < length store
  in_store a b e = ⊎_elim (λ (l : a < length store). l) (λ (l : length store ≤ a). let none : slice_get store a ≡ None = slice_get_past store a l in absurd cc) (cases_lt a (length store))

  pub has_blocks : HasBlocks (mb.see texts store) (length store)
  has_blocks = record {
    below = λ v a n x e. in_store a (m.Applied n x) (is_applied v a n x e).stands;
    same = λ v u a k n x y e g. let first = (is_applied v a k x e).stands in let second = (is_applied u a n y g).stands in cc;
  }
