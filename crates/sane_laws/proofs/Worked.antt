-- Small programs use their function constants and exceptions well, as an independent expansion made them; and two trees that no expansion makes don't.
use Rattle.std.proofs.Common.{◌≡◌, ℕ, Bool, true, false, not, List, [], ◌∷◌, None, refl}
use Rattle.std.specs.Prelude.{◌&&◌}
use Rattle.std.specs.List.{AllByRecursion, list_all}
use Rattle.smlc_base.specs.declared.primitive.Primitive.TheVariants as prim
use Rattle.sml_tree.specs.declared.bare.Bare.{Bare}
use Rattle.sml_tree.specs.declared.bare.Con.{Con}
use Rattle.sml_tree.specs.declared.bare.Con.TheVariants as con
use Rattle.sml_tree.specs.declared.bare.Node.{Node}
use Rattle.sml_tree.specs.declared.bare.Node.TheVariants as node
use Rattle.sml_tree.specs.Sets.{has}
use Rattle.sml_tree.proofs.Programs.{hello, handled, caught, local_exception, written_order, bind_first, lists, packets, lines, ints, texts, refs, raising}
use Rattle.sml_types.proofs.TreeFacts.{and_both}
use Rattle.sane_laws.specs.Uses.{constant_at, free_parts, NoConstants, exceptions, IsCited, Cites, UsesWell}

-- ---- What is asked of a tree can be computed

all_of : {A : Type 0} (test : A → Bool) (P : A → Type 0) → ((x : A) → test x ≡ true → P x) → (xs : List A) → list_all test xs ≡ true → AllByRecursion P xs
all_of test P f [] h = tt
all_of test P f (x ∷ xs) h = let k = and_both (test x) (list_all test xs) h in (f x k.0, all_of test P f xs k.1)

module _ (nodes : List Node) where
  abbrev none : ℕ → Bool
  none c = not (constant_at nodes c)

  abbrev no_constants : Node → Bool
  no_constants n = list_all none (free_parts n)

  is_none : (c : ℕ) → none c ≡ true → constant_at nodes c ≡ false
  is_none c h = go (constant_at nodes c) h
    where
      go : (b : Bool) → not b ≡ true → b ≡ false
      go true h = cc
      go false h = refl

  are_none : (n : Node) → no_constants n ≡ true → NoConstants nodes n
  are_none n h = all_of none (λ c. constant_at nodes c ≡ false) is_none (free_parts n) h

  abbrev cited : Con → Bool
  cited (con.Exn x takes) = has (exceptions nodes) x.0
  cited _ = true

  abbrev cites : Node → Bool
  cites (node.Var x) = not (has (exceptions nodes) x.0)
  cites (node.Constructor c) = cited c
  cites (node.PatCon c) = cited c
  cites (node.PatApp c q) = cited c
  cites (node.SameException x c) = cited c
  cites _ = true

  is_cited : (c : Con) → cited c ≡ true → IsCited nodes c
  is_cited (con.Exn x takes) h = h
  is_cited _ h = tt

  is_free : (b : Bool) → not b ≡ true → b ≡ false
  is_free true h = cc
  is_free false h = refl

  are_cited : (n : Node) → cites n ≡ true → Cites nodes n
  are_cited (node.Var x) h = is_free (has (exceptions nodes) x.0) h
  are_cited (node.Constructor c) h = is_cited c h
  are_cited (node.PatCon c) h = is_cited c h
  are_cited (node.PatApp c q) h = is_cited c h
  are_cited (node.SameException x c) h = is_cited c h
  are_cited _ h = tt

abbrev uses_well : Bare → Bool
uses_well p = list_all (no_constants p.nodes) p.nodes && list_all (cites p.nodes) p.nodes

pub by_test : (p : Bare) → uses_well p ≡ true → UsesWell p
by_test p h =
    let k = and_both (list_all (no_constants p.nodes) p.nodes) (list_all (cites p.nodes) p.nodes) h in
    record { constants = all_of (no_constants p.nodes) (NoConstants p.nodes) (are_none p.nodes) p.nodes k.0; names = all_of (cites p.nodes) (Cites p.nodes) (are_cited p.nodes) p.nodes k.1 }

-- ---- Programs

-- all of these do
all_well : list_all uses_well (hello ∷ handled ∷ caught ∷ local_exception ∷ written_order ∷ bind_first ∷ lists ∷ packets ∷ lines ∷ ints ∷ texts ∷ refs ∷ raising ∷ []) ≡ true
all_well = refl

-- a primitive that is a value of its own
alone : uses_well (record hello { nodes = node.Raise 1 ∷ node.Builtin prim.Print ∷ [] }) ≡ false
alone = refl

-- a variable that stands for an exception
stands_for : uses_well (record hello { nodes = node.Exception (record { 0 = 0 }) None ∷ node.Var (record { 0 = 0 }) ∷ [] }) ≡ false
stands_for = refl
