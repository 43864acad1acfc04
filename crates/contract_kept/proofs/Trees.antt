-- Ranges of bodies by number, and of their trees.
use Rattle.std.proofs.Common.{◌≡◌, ℕ, zero, suc, List, [], ◌∷◌, ◌++◌, Option, Some, None, slice_get, refl, subst}
use Rattle.std.specs.List.{AllByRecursion}
use Rattle.cps_ir.specs.declared.body.Function.{Function as Entry}
use Rattle.cps_ir.specs.declared.body.Bind.{Bind}
use Rattle.cps_ir.specs.declared.body.Bind.TheVariants as bind
use Rattle.cps_ir.specs.declared.body.Rule.{Rule as Chosen}
use Rattle.cps_ir.specs.declared.body.End.{End}
use Rattle.cps_ir.specs.declared.body.End.TheVariants as end
use Rattle.cps_ir.specs.declared.body.Body.{Body}
use Rattle.cps_ir.specs.Code.{Code, Make, Pick, Prim, Equal, Fix, Call, Match, Handler, SetHandler, Throw, Halt, Functions, NoFunction, Function, Rules, Otherwise, Rule}
use Rattle.cps_ir.specs.Program.{Cps, functions_of, rules_of, code_of_end, code_of_binds, code_of_body, code_within, code_at}
use Rattle.cps_ir.specs.Kept.{TestsKept, BindKept, EndKept, BodyKept, IsProgram}
use Rattle.cps_ir.specs.Free.{bound, bound_functions, bound_rules}
use Rattle.cps_free.proofs.Unfold.{all_front, all_back}
use Rattle.contract_kept.specs.Ranges.{Below, InRange, FunctionsInRange, RulesInRange}

all_join : {A : Type 0} (P : A → Type 0) (xs ys : List A) → AllByRecursion P xs → AllByRecursion P ys → AllByRecursion P (xs ++ ys)
all_join P [] ys h g = g
all_join P (x ∷ xs) ys h g = (h.0, all_join P xs ys h.1 g)

module _ (q : Cps) where
  abbrev AllBelow : List ℕ → Type 0
  AllBelow xs = AllByRecursion (Below q) xs

  -- ---- From a tree to its names and its body

  mutual
    names_below : (c : Code) → InRange q c → AllBelow (bound c)
    names_below (Make x shape us c) r = (r.0, names_below c r.3)
    names_below (Pick x i a c) r = (r.0, names_below c r.2)
    names_below (Prim x f us c) r = (r.0, names_below c r.2)
    names_below (Equal a b t k) r = tt
    names_below (Fix fs c) r = all_join (Below q) (bound_functions fs) (bound c) (functions_below fs r.0) (names_below c r.1)
    names_below (Call a us) r = tt
    names_below (Match a rules) r = rules_below rules r.1
    names_below (Handler x c) r = (r.0, names_below c r.1)
    names_below (SetHandler a c) r = names_below c r.1
    names_below (Throw a) r = tt
    names_below Halt r = tt

    functions_below : (fs : Functions) → FunctionsInRange q fs → AllBelow (bound_functions fs)
    functions_below NoFunction r = tt
    functions_below (Function f p params b fs) r =
        (r.0, all_join (Below q) params (bound b ++ bound_functions fs) r.1 (all_join (Below q) (bound b) (bound_functions fs) (names_below b r.2) (functions_below fs r.3)))

    rules_below : (rs : Rules) → RulesInRange q rs → AllBelow (bound_rules rs)
    rules_below (Otherwise c) r = names_below c r
    rules_below (Rule ts c rs) r = all_join (Below q) (bound c) (bound_rules rs) (names_below c r.1) (rules_below rs r.2)

  module _ (part : ℕ → Code) where
    rules_kept : (rules : List Chosen) (otherwise : ℕ) → RulesInRange q (rules_of part rules otherwise) → AllByRecursion (λ r. TestsKept q r.tests) rules
    rules_kept [] otherwise r = tt
    rules_kept (c ∷ rules) otherwise r = (r.0, rules_kept rules otherwise r.2)

    end_kept : (e : End) → InRange q (code_of_end part e) → EndKept q e
    end_kept (end.Equal a b t k) r = r
    end_kept (end.Call a us) r = r
    end_kept (end.Match a rules otherwise) r = (r.0, rules_kept rules otherwise r.1)
    end_kept (end.Throw a) r = r
    end_kept end.Halt r = tt

    binds_kept : (bs : List Bind) (e : End) → InRange q (code_of_binds part bs (code_of_end part e)) → AllByRecursion (BindKept q) bs × EndKept q e
    binds_kept [] e r = (tt, end_kept e r)
    binds_kept (bind.Make x s us ∷ bs) e r = let k = binds_kept bs e r.3 in (((r.1, r.2), k.0), k.1)
    binds_kept (bind.Pick x i a ∷ bs) e r = let k = binds_kept bs e r.2 in ((r.1, k.0), k.1)
    binds_kept (bind.Prim x f us ∷ bs) e r = let k = binds_kept bs e r.2 in ((r.1, k.0), k.1)
    binds_kept (bind.Fix fs ∷ bs) e r = let k = binds_kept bs e r.1 in ((tt, k.0), k.1)
    binds_kept (bind.Handler x ∷ bs) e r = let k = binds_kept bs e r.1 in ((tt, k.0), k.1)
    binds_kept (bind.SetHandler a ∷ bs) e r = let k = binds_kept bs e r.1 in ((r.0, k.0), k.1)

    pub body_kept : (b : Body) → InRange q (code_of_binds part b.binds (code_of_end part b.end)) → BodyKept q b × AllBelow (bound (code_of_binds part b.binds (code_of_end part b.end)))
    body_kept b r = let k = binds_kept b.binds b.end r in ((k.0, k.1), names_below (code_of_binds part b.binds (code_of_end part b.end)) r)

    -- ---- From bodies to a tree, where those that it names are in range

    functions_in : (fs : List Entry) → ((i : ℕ) → AllBelow (bound (part i)) → InRange q (part i)) → AllBelow (bound_functions (functions_of part fs)) → FunctionsInRange q (functions_of part fs)
    functions_in [] go h = tt
    functions_in (f ∷ fs) go h =
        let rest = bound (part f.body) ++ bound_functions (functions_of part fs) in
        let behind = all_back (Below q) f.params rest h.1 in
        (h.0, all_front (Below q) f.params rest h.1, go f.body (all_front (Below q) (bound (part f.body)) (bound_functions (functions_of part fs)) behind), functions_in fs go (all_back (Below q) (bound (part f.body)) (bound_functions (functions_of part fs)) behind))

    rules_in : (rules : List Chosen) (otherwise : ℕ) → ((i : ℕ) → AllBelow (bound (part i)) → InRange q (part i)) → AllByRecursion (λ r. TestsKept q r.tests) rules → AllBelow (bound_rules (rules_of part rules otherwise)) → RulesInRange q (rules_of part rules otherwise)
    rules_in [] otherwise go k h = go otherwise h
    rules_in (r ∷ rules) otherwise go k h =
        (k.0, go r.body (all_front (Below q) (bound (part r.body)) (bound_rules (rules_of part rules otherwise)) h), rules_in rules otherwise go k.1 (all_back (Below q) (bound (part r.body)) (bound_rules (rules_of part rules otherwise)) h))

    end_in : (e : End) → ((i : ℕ) → AllBelow (bound (part i)) → InRange q (part i)) → EndKept q e → AllBelow (bound (code_of_end part e)) → InRange q (code_of_end part e)
    end_in (end.Equal a b t k) go r h = r
    end_in (end.Call a us) go r h = r
    end_in (end.Match a rules otherwise) go r h = (r.0, rules_in rules otherwise go r.1 h)
    end_in (end.Throw a) go r h = r
    end_in end.Halt go r h = tt

    binds_in : (bs : List Bind) (e : End) → ((i : ℕ) → AllBelow (bound (part i)) → InRange q (part i)) → AllByRecursion (BindKept q) bs → EndKept q e → AllBelow (bound (code_of_binds part bs (code_of_end part e))) → InRange q (code_of_binds part bs (code_of_end part e))
    binds_in [] e go k r h = end_in e go r h
    binds_in (bind.Make x s us ∷ bs) e go k r h = let g = k.0 in (h.0, g.0, g.1, binds_in bs e go k.1 r h.1)
    binds_in (bind.Pick x i a ∷ bs) e go k r h = (h.0, k.0, binds_in bs e go k.1 r h.1)
    binds_in (bind.Prim x f us ∷ bs) e go k r h = (h.0, k.0, binds_in bs e go k.1 r h.1)
    binds_in (bind.Fix fs ∷ bs) e go k r h =
        let c = code_of_binds part bs (code_of_end part e) in
        (functions_in fs go (all_front (Below q) (bound_functions (functions_of part fs)) (bound c) h), binds_in bs e go k.1 r (all_back (Below q) (bound_functions (functions_of part fs)) (bound c) h))
    binds_in (bind.Handler x ∷ bs) e go k r h = (h.0, binds_in bs e go k.1 r h.1)
    binds_in (bind.SetHandler a ∷ bs) e go k r h = (k.0, binds_in bs e go k.1 r h)

  item : {A : Type 0} (P : A → Type 0) (xs : List A) (i : ℕ) (x : A) → AllByRecursion P xs → slice_get xs i ≡ Some x → P x
  item P [] i x h e = absurd (cc)
  item P (y ∷ xs) zero x h e = some_at P y x e h.0
    where
      some_at : {A : Type 0} (P : A → Type 0) (y x : A) → Some y ≡ Some x → P y → P x
      some_at P y x e k = let o : y ≡ x = cc in subst P o k
  item P (y ∷ xs) (suc i) x h e = item P xs i x h.1 e

  within_range : (bodies : List Body) → AllByRecursion (BodyKept q) bodies → (n i : ℕ) → AllBelow (bound (code_within n bodies i)) → InRange q (code_within n bodies i)
  within_range bodies k zero i h = tt
  within_range bodies k (suc n) i h = by (slice_get bodies i) refl (within_range bodies k n) h
    where
      by : (o : Option Body) → slice_get bodies i ≡ o → ((j : ℕ) → AllBelow (bound (code_within n bodies j)) → InRange q (code_within n bodies j)) → AllBelow (bound (code_of_body (code_within n bodies) o)) → InRange q (code_of_body (code_within n bodies) o)
      by None e go h = tt
      by (Some b) e go h = let g = item (BodyKept q) bodies i b k e in binds_in (code_within n bodies) b.binds b.end go g.0 g.1 h

  pub whole_in_range : IsProgram q → InRange q (code_at q.bodies 0)
  whole_in_range p = within_range q.bodies p.kept _ 0 p.below
