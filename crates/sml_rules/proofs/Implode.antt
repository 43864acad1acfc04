-- The characters of a list, as `implode` reads them.
use Rattle.std.proofs.Common.{◌≡◌, ℕ, zero, suc, ◌+◌, ◌<◌, Bool, true, false, List, length, Option, Some, None, refl, sym, ap, ◌∙◌, arith}
use Rattle.std.specs.Prelude.{nat_eq, cond, slice_get}
use Rattle.smlc_base.specs.declared.primitive.Primitive.TheVariants as prim
use Rattle.prim_meaning.specs.Meaning as mean
use Rattle.prim_meaning.proofs.Alike.{letters_alike}
use Rattle.prim_meaning.proofs.Letters.{listed, enough, blocks_suffice}
use Rattle.sml_tree.specs.declared.bare.Bare.{Bare}
use Rattle.sml_def.specs.State.{Value}
use Rattle.sml_def.specs.Builtin as mb
use Rattle.sml_rules.specs.Terms.{Term, Terms, no_terms, more_terms, State}
use Rattle.sml_rules.specs.Terms as t
use Rattle.sml_rules.specs.Apply as basic
use Rattle.sml_rules.proofs.Relation.{World}
use Rattle.sml_rules.proofs.Environments.{Is}
use Rattle.sml_rules.proofs.Forms.{Holds}
use Rattle.sml_rules.proofs.Seen.{see, see_cell, Stands, AtCell, views, has_blocks}

-- how deep a list is looked into
abbrev mutual
  pub depth : Term → ℕ
  depth (t.Applied n u) = suc (pair_depth u)
  depth u = 1

  pub pair_depth : Term → ℕ
  pair_depth (t.Record (more_terms x (more_terms u no_terms))) = depth u
  pair_depth u = 0

module _ (memory : List Term) where
  letter_is : (u : Term) → mean.letter_in (see memory u) ≡ basic.letter_of (basic.datum u)
  letter_is (t.Builtin prim.StdIn) = refl
  letter_is (t.Cell n) = of_cell (slice_get memory n)
    where
      of_cell : (o : Option Term) → mean.letter_in (see_cell n o) ≡ None
      of_cell None = refl
      of_cell (Some u) = refl
  letter_is (t.Record (more_terms y ys)) = refl
  letter_is _ = refl

  -- ---- What is looked into so deep gives these characters

  abbrev Reads : ℕ → Type 0
  Reads n = (u : Term) → depth u < suc n → mean.letters (see memory) n u ≡ basic.letters u

  pair_reads : (n : ℕ) → Reads n → (u : Term) → pair_depth u < suc n → mean.on_pair (see memory) (mean.letters (see memory) n) (mean.pair_in (see memory u)) ≡ basic.letters_pair u
  pair_reads n rec (t.Record (more_terms x (more_terms u no_terms))) l =
      ap (λ o. mean.consed o (mean.letters (see memory) n u)) (letter_is x) ∙ ap (mean.consed (basic.letter_of (basic.datum x))) (rec u l)
  pair_reads n rec (t.Builtin prim.StdIn) l = refl
  pair_reads n rec (t.Cell i) l = of_cell (slice_get memory i)
    where
      of_cell : (o : Option Term) → mean.on_pair (see memory) (mean.letters (see memory) n) (mean.pair_in (see_cell i o)) ≡ None
      of_cell None = refl
      of_cell (Some u) = refl
  pair_reads n rec _ l = refl

  letters_read : (n : ℕ) → Reads n → Reads (suc n)
  letters_read n rec (t.Applied i u) l = go (nat_eq i 1)
    where
      go : (q : Bool) → mean.on_cons (see memory) (mean.letters (see memory) n) (cond q (Some u) None) ≡ cond q (basic.letters_pair u) None
      go true = pair_reads n rec u (omega (arith, l))
      go false = refl
  letters_read n rec (t.Builtin prim.StdIn) l = refl
  letters_read n rec (t.Cell i) l = of_cell (slice_get memory i)
    where
      of_cell : (o : Option Term) → mean.letters_from (see memory) (mean.letters (see memory) n) (see_cell i o) ≡ None
      of_cell None = refl
      of_cell (Some u) = refl
  letters_read n rec (t.Record (more_terms y ys)) l = refl
  letters_read n rec _ l = refl

  depth_some : (u : Term) → 0 < depth u
  depth_some (t.Applied n u) = omega arith
  depth_some _ = omega arith

  pub reads : (n : ℕ) → Reads n
  reads zero u l = absurd (let some = depth_some u in omega (arith, l, some))
  reads (suc n) u l = letters_read n (reads n) u l

-- As the machine counts its blocks, it looks deep enough.
module _ (p : Bare) (w : World) (s : State) (holds : Holds p w s) where
  pub seen_same : (n : ℕ) (u : Term) (v : Value) → Is p w u v → mean.letters (see s.memory) n u ≡ mean.letters (mb.see p.texts w.store) n v
  seen_same n u v h =
      letters_alike (AtCell p w s holds) (Stands p w s holds) (mb.see p.texts w.store) (see s.memory) (views p w s holds) n v u h

  pub letters_are : (u : Term) (v : Value) → Is p w u v → basic.letters u ≡ mean.letters (mb.see p.texts w.store) (suc (length w.store)) v
  letters_are u v h = go (basic.letters u) refl (mean.letters (mb.see p.texts w.store) (suc (length w.store)) v) refl
    where
      deep : mean.letters (mb.see p.texts w.store) (depth u) v ≡ basic.letters u
      deep = sym (seen_same (depth u) u v h) ∙ reads s.memory (depth u) u (omega arith)

      go : (o : Option (List ℕ)) → basic.letters u ≡ o → (q : Option (List ℕ)) → mean.letters (mb.see p.texts w.store) (suc (length w.store)) v ≡ q → o ≡ q
      go (Some bytes) e q g =
          sym (blocks_suffice (mb.see p.texts w.store) (length w.store) (has_blocks p.texts w.store) (depth u) v bytes (deep ∙ e)) ∙ g
      go None e None g = refl
      go None e (Some bytes) g =
          let list = listed (mb.see p.texts w.store) (suc (length w.store)) v bytes g in
          let n : ℕ = depth u + suc (length w.store) in
          let found : mean.letters (mb.see p.texts w.store) n v ≡ Some bytes = enough (mb.see p.texts w.store) v bytes list.0 list.1 n (omega (arith, list.2)) in
          let none : mean.letters (mb.see p.texts w.store) n v ≡ None = sym (seen_same n u v h) ∙ reads s.memory n u (omega arith) ∙ e in
          absurd cc
