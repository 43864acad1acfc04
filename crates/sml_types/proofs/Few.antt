-- The tables of a typing have at most 2^20 constructors a type name.
use Rattle.std.proofs.Common.{◌≡◌, ℕ, zero, suc, ◌<◌, ◌≤◌, ◌+◌, ◌-◌, ◌^◌, Bool, true, false, List, [], ◌∷◌, ◌++◌, length, refl, sym, ap, subst, ◌∙◌, Some, arith, ⊎_elim}
use Rattle.std.specs.Prelude.{slice_get, take, map, flat_map, nat_eq, ◌||◌}
use Rattle.std.specs.List.{AllByRecursion}
use Rattle.std.proofs.lemmas.Bool.{eqb-true, cases_lt}
use Rattle.std.proofs.lemmas.Option.{slice_get_within}
use Rattle.std.proofs.Math.Seq.{take-length}
use Rattle.sml_tree.specs.declared.bare.Bare.{Bare}
use Rattle.sml_tree.specs.declared.bare.Node.{Node}
use Rattle.sml_tree.specs.declared.bare.Node.TheVariants as node
use Rattle.sml_tree.specs.declared.bare.ConBinding.{ConBinding}
use Rattle.sml_tree.specs.declared.bare.DatBinding.{DatBinding}
use Rattle.sml_tree.specs.Sets.{has}
use Rattle.sml_tree.specs.IsBare.{Stands, OptionStands, type_names_at}
use Rattle.sml_tree.proofs.Members.{either}
use Rattle.sml_tree.proofs.Consecutive.{stands_among}
use Rattle.sml_types.specs.declared.types.TyForm.{TyForm}
use Rattle.sml_types.specs.declared.tables.ConRow.{ConRow}
use Rattle.sml_types.specs.declared.tables.TypeName.{TypeName}
use Rattle.sml_types.specs.Tree.{Tree}
use Rattle.sml_types.specs.Poly.{Context}
use Rattle.sml_types.specs.Library.{NameType, cons_of, name_types, library}
use Rattle.sml_types.specs.Typing.{Typing, IsTypedNode, IsDatBinding, AreConstructors, made_by, made_below, type_numbers}
use Rattle.sml_types.specs.Few.{TablesAreFew}

-- ---- The library's type names

abbrev Short : NameType → Type 0
Short n = length n.cons ≤ 3

library_short : (a : _) → AllByRecursion Short (library a)
library_short a = (omega arith, (omega arith, (omega arith, (omega arith, (omega arith, (omega arith, (omega arith, (omega arith, (omega arith, (omega arith, tt))))))))))

cons_many : (forms : List TyForm) (cons : List ConRow) → length (cons_of forms cons) ≡ length cons
cons_many forms [] = refl
cons_many forms (c ∷ cons) = ap suc (cons_many forms cons)

short_at : (forms : List TyForm) (names : List TypeName) (n k : ℕ) (row : TypeName) → AllByRecursion Short (take n (name_types forms names)) → k < n → slice_get names k ≡ Some row → length row.cons ≤ 3
short_at forms [] n k row h l e = cc
short_at forms (x ∷ names) zero k row h l e = absurd (omega (arith, l))
short_at forms (x ∷ names) (suc n) zero row h l e =
    let same : x ≡ row = cc in
    let many = cons_many forms x.cons in
    let few = h.0 in
    subst (λ r. length r.cons ≤ 3) same (omega (arith, many, few))
short_at forms (x ∷ names) (suc n) (suc k) row h l e = short_at forms names n k row h.1 (omega (arith, l)) e

-- ---- Those that are declared

as_many : (p : Bare) (t : Typing) (bindings : List ConBinding) (cons : List ConRow) → AreConstructors p t bindings cons → length cons ≡ length bindings
as_many p t [] [] h = refl
as_many p t [] (c ∷ cons) h = absurd h
as_many p t (b ∷ bindings) [] h = absurd h
as_many p t (b ∷ bindings) (c ∷ cons) h = ap suc (as_many p t bindings cons h.2)

-- a declaration of datatypes with its rows, of few constructors
abbrev Declares : Bare → Typing → List DatBinding → Type 0
Declares p t bindings = AllByRecursion (IsDatBinding p t) bindings × AllByRecursion (λ d. AllByRecursion (λ c. OptionStands p c.arg) d.cons × (length d.cons ≤ 2 ^ 20)) bindings

abbrev AtNode : Bare → Typing → Node → Type 0
AtNode p t (node.Datatype bindings) = Declares p t bindings
AtNode p t _ = Unit {0}

at_node : (p : Bare) (t : Typing) (c : Context) (ty : Tree) (bs : List ℕ) (n : Node) → IsTypedNode p t c ty bs n → Stands p n → AtNode p t n
at_node p t c ty bs (node.Datatype bindings) r s = (r.0, s)
at_node p t c ty bs _ r s = tt

module _ (p : Bare) (t : Typing) (k : ℕ) (row : TypeName) (there : slice_get t.names k ≡ Some row) where
  of_bindings : (bindings : List DatBinding) → Declares p t bindings → has (map (λ d. d.type_name) bindings) k ≡ true → length row.cons ≤ 2 ^ 20
  of_bindings [] h e = cc
  of_bindings (d ∷ bindings) h e = either (nat_eq k d.type_name) (has (map (λ d. d.type_name) bindings) k) (length row.cons ≤ 2 ^ 20) e here (λ m. of_bindings bindings (h.0.1, h.1.1) m)
    where
      here : nat_eq k d.type_name ≡ true → length row.cons ≤ 2 ^ 20
      here m =
          let is = h.0.0 in
          let same : k ≡ d.type_name = eqb-true k d.type_name m in
          let one : Some is.row ≡ Some row = sym is.named ∙ ap (slice_get t.names) (sym same) ∙ there in
          let rows : is.row ≡ row = cc in
          let many = as_many p t d.cons is.row.cons is.cons in
          let few = h.1.0.1 in
          subst (λ r. length r.cons ≤ 2 ^ 20) rows (omega (arith, many, few))

  at_one : (n : Node) → AtNode p t n → has (type_names_at n) k ≡ true → length row.cons ≤ 2 ^ 20
  at_one (node.Datatype bindings) h e = of_bindings bindings h e
  at_one _ h e = cc

  has_split : (xs ys : List ℕ) → has (xs ++ ys) k ≡ (has xs k || has ys k)
  has_split [] ys = refl
  has_split (x ∷ xs) ys = ap (λ w. nat_eq k x || w) (has_split xs ys) ∙ or_assoc (nat_eq k x) (has xs k) (has ys k)
    where
      or_assoc : (a b c : Bool) → (a || (b || c)) ≡ ((a || b) || c)
      or_assoc true b c = refl
      or_assoc false b c = refl

  somewhere : (nodes : List Node) → ((i : ℕ) (n : Node) → slice_get nodes i ≡ Some n → AtNode p t n) → has (flat_map type_names_at nodes) k ≡ true → length row.cons ≤ 2 ^ 20
  somewhere [] h e = cc
  somewhere (n ∷ nodes) h e =
      either (has (type_names_at n) k) (has (flat_map type_names_at nodes) k) (length row.cons ≤ 2 ^ 20) (sym (has_split (type_names_at n) (flat_map type_names_at nodes)) ∙ e)
      (at_one n (h 0 n refl)) (somewhere nodes (λ i m f. h (suc i) m f))

-- ---- All of them

numbers_same : (bindings : List DatBinding) → type_numbers bindings ≡ map (λ d. d.type_name) bindings
numbers_same [] = refl
numbers_same (b ∷ bindings) = ap (λ l. b.type_name ∷ l) (numbers_same bindings)

made_same : (n : Node) → made_by (Some n) ≡ type_names_at n
made_same (node.Datatype bindings) = numbers_same bindings
made_same _ = refl

all_made : (nodes : List Node) → flat_map (λ n. made_by (Some n)) nodes ≡ flat_map type_names_at nodes
all_made [] = refl
all_made (n ∷ nodes) = ap (λ l. l ++ flat_map (λ n. made_by (Some n)) nodes) (made_same n) ∙ ap (λ l. type_names_at n ++ l) (all_made nodes)

all_at : {A : Type 0} (P : A → Type 0) (xs : List A) → AllByRecursion P xs → (i : ℕ) (x : A) → slice_get xs i ≡ Some x → P x
all_at P [] h i x e = cc
all_at P (y ∷ xs) h zero x e = let same : y ≡ x = cc in subst P same h.0
all_at P (y ∷ xs) h (suc i) x e = all_at P xs h.1 i x e

pub tables_are_few : TablesAreFew
tables_are_few p t bare typing k row there =
    ⊎_elim (λ l. library_row l) (λ l. declared_row l) (cases_lt k 10)
  where
    library_row : k < 10 → length row.cons ≤ 2 ^ 20
    library_row l =
        let start = typing.library in
        let few = short_at t.forms t.names 10 k row (subst (AllByRecursion Short) (sym start.rows) (library_short start.param)) l there in
        omega (arith, few)

    declared_row : 10 ≤ k → length row.cons ≤ 2 ^ 20
    declared_row l =
        let many = typing.declared in
        let within = slice_get_within t.names k row there in
        let all : length (made_below p.nodes (length p.nodes)) ≡ length (flat_map type_names_at p.nodes) =
        ap (λ ns. length (flat_map (λ n. made_by (Some n)) ns)) (take-length p.nodes) ∙ ap length (all_made p.nodes) in
        let back : 10 + (k - 10) ≡ k = omega (arith, l) in
        let among = stands_among (k - 10) 10 (flat_map type_names_at p.nodes) (omega (arith, l, many, within, all)) bare.declared in
        somewhere p t k row there p.nodes
        (λ i n e. at_node p t (t.contexts i) (t.types i) (t.binds i) n (typing.rules i n (slice_get_within p.nodes i n e) e) (all_at (Stands p) p.nodes bare.stands i n e))
        (subst (λ j. has (flat_map type_names_at p.nodes) j ≡ true) back among)
