-- What holds of each body because it holds of what stands in it holds of what conversion makes.
use Rattle.std.proofs.Common.{◌≡◌, ℕ, zero, suc, ◌+◌, ◌<◌, Bool, true, false, cond, List, [], ◌∷◌, ◌++◌, Option, Some, None, length, refl, ap, subst, arith, nat_eq}
use Rattle.std.specs.Prelude.{slice_get, filter_map}
use Rattle.std.specs.List.{AllByRecursion}
use Rattle.std.specs.Option.{is_some}
use Rattle.smlc_base.specs.declared.exception.LibraryExn.{LibraryExn}
use Rattle.smlc_base.specs.declared.exception.LibraryExn.TheVariants as exn
use Rattle.smlc_base.specs.declared.match_tests.Want.TheVariants as want
use Rattle.smlc_base.specs.declared.match_tests.Want.{Want}
use Rattle.smlc_base.specs.declared.match_tests.Test.{Test as LambdaTest}
use Rattle.smlc_base.specs.declared.point.PointKind.TheVariants as kind
use Rattle.smlc_base.specs.declared.primitive.Primitive.{Primitive}
use Rattle.smlc_base.specs.declared.primitive.Primitive.TheVariants as prim
use Rattle.sml_tree.specs.Points.{point}
use Rattle.sml_tree.specs.declared.bare.Con.{Con}
use Rattle.sml_tree.specs.declared.bare.Con.TheVariants as con
use Rattle.sml_tree.specs.declared.bare.RecBinding.{RecBinding}
use Rattle.sml_def.specs.Step.{count_up}
use Rattle.lambda_ir.specs.declared.term.Bind.{Bind}
use Rattle.lambda_ir.specs.declared.term.Case.{Case}
use Rattle.lambda_ir.specs.declared.term.Part.{Part}
use Rattle.lambda_ir.specs.declared.term.Term.{Term}
use Rattle.lambda_ir.specs.declared.term.Term.TheVariants as term
use Rattle.lambda_ir.specs.Free.{at_term, within_terms, function_of_term, function_at}
use Rattle.lambda_ir.specs.Kept.{ConKept, WantKept, TestsKept as LambdaTestsKept, CasesKept, TermKept, IsProgram}
use Rattle.lambda_ir.specs.Program.{Lambda}
use Rattle.cps_ir.specs.declared.atom.Atom.{Atom}
use Rattle.cps_ir.specs.declared.atom.Constant.TheVariants as constant
use Rattle.cps_ir.specs.declared.atom.Shape.TheVariants as shape
use Rattle.cps_ir.specs.Code.{Code, Fix, Call, SetHandler, Throw, Halt, Functions, NoFunction, Function, Rules, Otherwise, names_of}
use Rattle.cps_ir.specs.Program.{Cps}
use Rattle.cps_ir.specs.State.{bind}
use Rattle.convert_laws.specs.declared.head.Head.{Head}
use Rattle.convert_laws.specs.declared.head.Head.TheVariants as head
use Rattle.convert_laws.specs.Needs.{head_at, head_term}
use Rattle.convert_laws.specs.Convert.{Scope, Kon, Known, Text, Conv, variable, known, nowhere, con_atom, builtin_atom, apply, atom_of, steps_of, size_cases, size_at, bind_names, wanted_of, tests_of, rule_of, match_of, raise_exn, builtin, constructor, item_of, in_slots, part, parts_of, tuple_of, rules_of, match_on, function_of, applied, binds_of, scope_group, group_function, group_of, group_with, declared, handled, conv_term, no_conv, conv_within, convert}
use Rattle.convert_laws.proofs.Unfold.{all_map}
use Rattle.convert_kept.proofs.Forms.{AllHave, WantedHas, TestsHave, ByForms, ScopeHas, TextHas, KonHas, nothing, applies, as_atom, makes, scope_bound, names_bound, on_match, rule_has, builtin_has}

-- the item of a list at a number
item : {B : Type 0} (Q : B → Type 0) (xs : List B) (i : ℕ) (x : B) → AllByRecursion Q xs → slice_get xs i ≡ Some x → Q x
item Q [] i x h e = absurd cc
item Q (y ∷ xs) zero x h e = let o : y ≡ x = cc in subst Q o h.0
item Q (y ∷ xs) (suc i) x h e = item Q xs i x h.1 e

joined : {B : Type 0} (Q : B → Type 0) (xs ys : List B) → AllByRecursion Q xs → AllByRecursion Q ys → AllByRecursion Q (xs ++ ys)
joined Q [] ys h g = g
joined Q (x ∷ xs) ys h g = (h.0, joined Q xs ys h.1 g)

-- what parts came to, by slots
abbrev IfItem : (Atom → Type 0) → Option Atom → Type 0
IfItem A None = Unit {0}
IfItem A (Some a) = A a

item_has : (A : Atom → Type 0) (parts : List Part) (xs : List Atom) (s : ℕ) → AllByRecursion A xs → IfItem A (item_of parts xs s)
item_has A [] xs s h = tt
item_has A (q ∷ parts) [] s h = tt
item_has A (q ∷ parts) (x ∷ xs) s h = by (nat_eq s q.slot) (item_has A parts xs s h.1)
  where
    by : (b : Bool) → IfItem A (item_of parts xs s) → IfItem A (cond b (Some x) (item_of parts xs s))
    by true g = h.0
    by false g = g

items_have : (A : Atom → Type 0) (f : ℕ → Option Atom) (ns : List ℕ) → ((n : ℕ) → IfItem A (f n)) → AllByRecursion A (filter_map f ns)
items_have A f [] h = tt
items_have A f (n ∷ ns) h = by (f n) refl (h n) (items_have A f ns h)
  where
    by : (o : Option Atom) → f n ≡ o → IfItem A o → AllByRecursion A (filter_map f ns) → AllByRecursion A (filter_map f (n ∷ ns))
    by None e g k = rw e k
    by (Some a) e g k = rw e (g, k)

-- the text and name numbers of the one are those of the other
module _ (l : Lambda) (q : Cps) (texts : length q.texts ≡ length l.texts) (exns : length q.exns ≡ length l.exns) (A : Atom → Type 0) (P : Code → Type 0) (F : Functions → Type 0) (R : Rules → Type 0) (by : ByForms q A P F R) where
  abbrev Scoped : Scope → Type 0
  Scoped σ = ScopeHas q A P F R by σ

  abbrev Goes : Kon → Type 0
  Goes κ = KonHas q A P F R by κ

  con_has : (σ : Scope) (c : Con) → Scoped σ → ConKept l c → A (con_atom σ c)
  con_has σ (con.Data t number takes) s h = by.constant (constant.Tag number) h
  con_has σ con.Ref s h = by.constant constant.Nothing tt
  con_has σ (con.Exn x takes) s h = s x.0
  con_has σ (con.Library e) s h = by.constant (constant.Library e) tt

  builtin_atom_has : (f : Primitive) → A (builtin_atom f)
  builtin_atom_has prim.StdIn = by.constant constant.StdIn tt
  builtin_atom_has _ = by.constant constant.Nothing tt

  want_has : (σ : Scope) (w : Want) → Scoped σ → WantKept l w → WantedHas q A (wanted_of σ w)
  want_has σ (want.Num z) s h = h
  want_has σ (want.Tag t) s h = h
  want_has σ (want.Text t) s h = omega (arith, h, texts)
  want_has σ (want.Exn x applied) s h = s x.0
  want_has σ (want.Library e applied) s h = by.constant (constant.Library e) tt

  tests_have : (σ : Scope) (ts : List LambdaTest) → Scoped σ → LambdaTestsKept l ts → TestsHave q A (tests_of σ ts)
  tests_have σ [] s h = tt
  tests_have σ (t ∷ ts) s h = (want_has σ t.want s h.0, tests_have σ ts s h.1)

  raised : (e : LibraryExn) → P (raise_exn e)
  raised e = by.throw (known (constant.Library e)) (by.constant (constant.Library e) tt)

  constructor_has : (σ : Scope) (c : Con) (κ : Kon) → Scoped σ → ConKept l c → Goes κ → TextHas q A P F R by (constructor σ c κ)
  constructor_has σ (con.Data t number takes) κ s h g a n v =
      makes q A P F R by (shape.Applied number) (a ∷ []) κ n h (v, tt) g
  constructor_has σ con.Ref κ s h g a n v = makes q A P F R by shape.Cell (a ∷ []) κ n tt (v, tt) g
  constructor_has σ (con.Exn x takes) κ s h g a n v = makes q A P F R by shape.Packet (σ x.0 ∷ a ∷ []) κ n tt (s x.0, (v, tt)) g
  constructor_has σ (con.Library e) κ s h g a n v =
      makes q A P F R by shape.Packet (known (constant.Library e) ∷ a ∷ []) κ n tt (by.constant (constant.Library e) tt, (v, tt)) g

  module _ (fine : (i : ℕ) (t : Term) → slice_get l.terms i ≡ Some t → TermKept l t) where
    -- ---- What stands behind a number

    abbrev HeadKept : Head → Type 0
    HeadKept (head.Constructor c) = ConKept l c
    HeadKept _ = Unit {0}

    head_within : (k i : ℕ) → HeadKept (within_terms head.Computed (λ part j. head_term part) k l.terms i)
    head_within zero i = tt
    head_within (suc k) i = go (slice_get l.terms i) refl (head_within k)
      where
        go : (o : Option Term) → slice_get l.terms i ≡ o → ((j : ℕ) → HeadKept (within_terms head.Computed (λ part j. head_term part) k l.terms j)) → HeadKept (at_term head.Computed (λ part j. head_term part) (within_terms head.Computed (λ part j. head_term part) k l.terms) i o)
        go None e again = tt
        go (Some (term.Constructor c)) e again = fine i (term.Constructor c) e
        go (Some (term.Same j)) e again = again j
        go (Some (term.Builtin f)) e again = tt
        go (Some (term.Int z)) e again = tt
        go (Some (term.Char x)) e again = tt
        go (Some (term.Text x)) e again = tt
        go (Some (term.Var x)) e again = tt
        go (Some (term.Tuple x)) e again = tt
        go (Some (term.App x y)) e again = tt
        go (Some (term.Match x y)) e again = tt
        go (Some (term.Fn x)) e again = tt
        go (Some (term.Raise x)) e again = tt
        go (Some (term.Handle x y)) e again = tt
        go (Some (term.Let x y)) e again = tt
        go (Some term.Finish) e again = tt
        go (Some (term.Binds x)) e again = tt
        go (Some (term.Group x)) e again = tt
        go (Some (term.NewExn x)) e again = tt
        go (Some (term.SameExn x y)) e again = tt
        go (Some term.Nothing) e again = tt
        go (Some term.Gone) e again = tt

    abbrev FunctionKept : Option (ℕ × List Case) → Type 0
    FunctionKept None = Unit {0}
    FunctionKept (Some c) = CasesKept l c.1

    function_within : (k i : ℕ) → FunctionKept (within_terms None function_of_term k l.terms i)
    function_within zero i = tt
    function_within (suc k) i = go (slice_get l.terms i) refl (function_within k)
      where
        go : (o : Option Term) → slice_get l.terms i ≡ o → ((j : ℕ) → FunctionKept (within_terms None function_of_term k l.terms j)) → FunctionKept (at_term None function_of_term (within_terms None function_of_term k l.terms) i o)
        go None e again = tt
        go (Some (term.Fn cases)) e again = fine i (term.Fn cases) e
        go (Some (term.Same j)) e again = again j
        go (Some (term.Constructor c)) e again = tt
        go (Some (term.Builtin f)) e again = tt
        go (Some (term.Int z)) e again = tt
        go (Some (term.Char x)) e again = tt
        go (Some (term.Text x)) e again = tt
        go (Some (term.Var x)) e again = tt
        go (Some (term.Tuple x)) e again = tt
        go (Some (term.App x y)) e again = tt
        go (Some (term.Match x y)) e again = tt
        go (Some (term.Raise x)) e again = tt
        go (Some (term.Handle x y)) e again = tt
        go (Some (term.Let x y)) e again = tt
        go (Some term.Finish) e again = tt
        go (Some (term.Binds x)) e again = tt
        go (Some (term.Group x)) e again = tt
        go (Some (term.NewExn x)) e again = tt
        go (Some (term.SameExn x y)) e again = tt
        go (Some term.Nothing) e again = tt
        go (Some term.Gone) e again = tt

    module _ (own : ℕ → Bool) where
      module _ (conv : ℕ → Conv) (converts : (j : ℕ) (σ : Scope) (κ : Kon) (n : ℕ) → Scoped σ → Goes κ → P (conv j σ κ n)) where
        part_has : (j : ℕ) (σ : Scope) (rest : Atom → ℕ → Code) (n : ℕ) → Scoped σ → TextHas q A P F R by rest → P (part own l.terms conv j σ rest n)
        part_has j σ rest n s h = go (own j)
          where
            body : Code
            body = rest (variable (suc n)) (2 + n + size_at l.terms j)

            go : (b : Bool) → P (cond b (Fix (Function n (point j kind.Ret) (suc n ∷ []) body NoFunction) (conv j σ (Known (variable n)) (2 + n))) (conv j σ (Text rest) n))
            go true =
                by.fix (Function n (point j kind.Ret) (suc n ∷ []) body NoFunction) (conv j σ (Known (variable n)) (2 + n))
                (λ v. by.function n (point j kind.Ret) (suc n ∷ []) body NoFunction (λ w. h (variable (suc n)) (2 + n + size_at l.terms j) w.0) by.no_function)
                (λ v. converts j σ (Known (variable n)) (2 + n) s v.0)
            go false = converts j σ (Text rest) n s h

        parts_have : (all : List Part) (before : List Atom) (later : List Part) (σ : Scope) (κ : Kon) (n : ℕ) → AllByRecursion A before → Scoped σ → Goes κ → P (parts_of own l.terms conv all before later σ κ n)
        parts_have all before [] σ κ n b s h =
            makes q A P F R by shape.Tuple (in_slots all before) κ n tt (items_have A (item_of all before) (count_up 0 (length all)) (λ i. item_has A all before i b)) h
        parts_have all before (p ∷ later) σ κ n b s h =
            part_has p.node σ (λ a m. parts_of own l.terms conv all (before ++ a ∷ []) later σ κ m) n s
            (λ a m v. parts_have all (before ++ a ∷ []) later σ κ m (joined A before (a ∷ []) b (v, tt)) s h)

        tuple_has : (parts : List Part) (σ : Scope) (κ : Kon) (n : ℕ) → Scoped σ → Goes κ → P (tuple_of own l.terms conv parts σ κ n)
        tuple_has [] σ κ n s h = applies q A P F R by κ h (known constant.Nothing) n (nothing q A P F R by)
        tuple_has (p ∷ parts) σ κ n s h = parts_have (p ∷ parts) [] (p ∷ parts) σ κ n tt s h

        -- ---- Matches

        rules_have : (cases : List Case) (a : Atom) (σ : Scope) (κ : Kon) (other : Code) (n : ℕ) → CasesKept l cases → A a → Scoped σ → Goes κ → P other → R (rules_of own l.terms conv cases a σ κ other n)
        rules_have [] a σ κ other n k v s h o = by.otherwise other o
        rules_have (c ∷ cases) a σ κ other n k v s h o =
            let kept = k.0 in
            rule_has q A P F R by (tests_of σ c.tests) (bind_names c.names a σ (λ τ m. conv c.body τ κ m) n) (rules_of own l.terms conv cases a σ κ other (n + (steps_of c.names + size_at l.terms c.body)))
            (tests_have σ c.tests s kept.0)
            (names_bound q A P F R by c.names a σ (λ τ m. conv c.body τ κ m) n v s (λ τ m t. converts c.body τ κ m t h))
            (rules_have cases a σ κ other (n + (steps_of c.names + size_at l.terms c.body)) k.1 v s h o)

        match_has : (cases : List Case) (σ : Scope) (κ : Kon) (other : Code) (a : Atom) (n : ℕ) → CasesKept l cases → A a → Scoped σ → Goes κ → P other → P (match_on own l.terms conv cases σ κ other a n)
        match_has cases σ κ other a n k v s h o =
            on_match q A P F R by a (rules_of own l.terms conv cases a σ κ other n) v (rules_have cases a σ κ other n k v s h o)

        function_has : (f i : ℕ) (cases : List Case) (σ : Scope) (n : ℕ) (fs : Functions) → CasesKept l cases → Scoped σ → F fs → F (function_of own l.terms conv f i cases σ n fs)
        function_has f i cases σ n fs k s h =
            by.function f (point i kind.Fn) (n ∷ suc n ∷ []) (match_on own l.terms conv cases σ (Known (variable (suc n))) (raise_exn exn.MatchExn) (variable n) (2 + n)) fs
            (λ v. match_has cases σ (Known (variable (suc n))) (raise_exn exn.MatchExn) (variable n) (2 + n) k v.0 s v.1.0 (raised exn.MatchExn)) h

        applied_has : (h : Head) (f a : ℕ) (σ : Scope) (κ : Kon) (n : ℕ) → HeadKept h → Scoped σ → Goes κ → P (applied own l.terms conv h f a σ κ n)
        applied_has head.Computed f a σ κ n k s g =
            part_has f σ (λ u m. part own l.terms conv a σ (λ b o. Call u (b ∷ atom_of κ ∷ [])) m) n s
            (λ u m v. part_has a σ (λ b o. Call u (b ∷ atom_of κ ∷ [])) m s (λ b o w. by.call u (b ∷ atom_of κ ∷ []) v (w, (as_atom q A P F R by κ g, tt))))
        applied_has (head.Builtin p) f a σ κ n k s g = part_has a σ (builtin p κ) n s (builtin_has q A P F R by p κ g)
        applied_has (head.Constructor c) f a σ κ n k s g = part_has a σ (constructor σ c κ) n s (constructor_has σ c κ s k g)

        -- ---- Declarations

        binds_have : (binds : List Bind) (body : ℕ) (σ : Scope) (κ : Kon) (n : ℕ) → AllByRecursion (λ b. LambdaTestsKept l b.tests) binds → Scoped σ → Goes κ → P (binds_of own l.terms conv binds body σ κ n)
        binds_have [] body σ κ n k s h = converts body σ κ n s h
        binds_have (b ∷ later) body σ κ n k s h =
            part_has b.right σ (λ a m. match_of a (rule_of (tests_of σ b.tests) (inside a m) (Otherwise (raise_exn exn.BindExn)))) n s
            (λ a m v. on_match q A P F R by a (rule_of (tests_of σ b.tests) (inside a m) (Otherwise (raise_exn exn.BindExn))) v
            (rule_has q A P F R by (tests_of σ b.tests) (inside a m) (Otherwise (raise_exn exn.BindExn)) (tests_have σ b.tests s k.0)
            (names_bound q A P F R by b.names a σ (λ τ o. binds_of own l.terms conv later body τ κ o) m v s (λ τ o t. binds_have later body τ κ o k.1 t h))
            (by.otherwise (raise_exn exn.BindExn) (raised exn.BindExn))))
          where
            inside : Atom → ℕ → Code
            inside a m = bind_names b.names a σ (λ τ o. binds_of own l.terms conv later body τ κ o) m

        abbrev ArePresent : List RecBinding → Type 0
        ArePresent bindings = AllByRecursion (λ b. is_some (function_at l.terms b.right) ≡ true) bindings

        -- the names of a group are those that its scope has
        group_scope : (bindings : List RecBinding) (f : ℕ) (σ τ : Scope) (n : ℕ) → ArePresent bindings → AllHave A (names_of (group_of own l.terms conv bindings f τ n)) → Scoped σ → Scoped (scope_group own l.terms bindings f σ)
        group_scope [] f σ τ n k v s = s
        group_scope (b ∷ bindings) f σ τ n k v s =
            go (function_at l.terms b.right) k.0 v (λ w. group_scope bindings (suc f) σ τ (n + size_at l.terms b.right) k.1 w s)
          where
            later : Functions
            later = group_of own l.terms conv bindings (suc f) τ (n + size_at l.terms b.right)

            go : (o : Option (ℕ × List Case)) → is_some o ≡ true → AllHave A (names_of (group_function own l.terms conv o f τ n later)) → (AllHave A (names_of later) → Scoped (scope_group own l.terms bindings (suc f) σ)) → Scoped (scope_group own l.terms (b ∷ bindings) f σ)
            go None e w again = absurd cc
            go (Some c) e w again =
                scope_bound q A P F R by (scope_group own l.terms bindings (suc f) σ) b.name.0 (variable f) w.0 (again w.1)

        group_has : (bindings : List RecBinding) (f : ℕ) (σ : Scope) (n : ℕ) → Scoped σ → F (group_of own l.terms conv bindings f σ n)
        group_has [] f σ n s = by.no_function
        group_has (b ∷ bindings) f σ n s =
            go (function_at l.terms b.right) (function_within (length l.terms) b.right) (group_has bindings (suc f) σ (n + size_at l.terms b.right) s)
          where
            later : Functions
            later = group_of own l.terms conv bindings (suc f) σ (n + size_at l.terms b.right)

            go : (o : Option (ℕ × List Case)) → FunctionKept o → F later → F (group_function own l.terms conv o f σ n later)
            go None k h = h
            go (Some c) k h = function_has f c.0 c.1 σ n later k s h

        abbrev DeclaredKept : Option Term → Type 0
        DeclaredKept None = Unit {0}
        DeclaredKept (Some t) = TermKept l t

        grouped : (bindings : List RecBinding) (d body : ℕ) (σ : Scope) (κ : Kon) (n : ℕ) → ArePresent bindings → Scoped σ → Goes κ → P (group_with own l.terms conv bindings (scope_group own l.terms bindings n σ) (conv body (scope_group own l.terms bindings n σ) κ (n + size_at l.terms d)) n)
        grouped bindings d body σ κ n k s h =
            let τ : Scope = scope_group own l.terms bindings n σ in
            by.fix (group_of own l.terms conv bindings n τ (n + length bindings)) (conv body τ κ (n + size_at l.terms d))
            (λ v. group_has bindings n τ (n + length bindings) (group_scope bindings n σ τ (n + length bindings) k v s))
            (λ v. converts body τ κ (n + size_at l.terms d) (group_scope bindings n σ τ (n + length bindings) k v s) h)

        declared_has : (d body : ℕ) (o : Option Term) (σ : Scope) (κ : Kon) (n : ℕ) → DeclaredKept o → Scoped σ → Goes κ → P (declared own l.terms conv d body o σ κ n)
        declared_has d body (Some (term.Binds binds)) σ κ n k s h =
            binds_have binds body σ κ n (all_map (λ b (i : LambdaTestsKept l b.tests × _). i.0) binds k) s h
        declared_has d body (Some (term.Group bindings)) σ κ n k s h =
            grouped bindings d body σ κ n (all_map (λ b (i : (b.name.0 < length l.exns) × (is_some (function_at l.terms b.right) ≡ true)). i.1) bindings k) s h
        declared_has d body (Some term.Nothing) σ κ n k s h = converts body σ κ n s h
        declared_has d body (Some (term.NewExn x)) σ κ n k s h =
            by.make n (shape.ExnName x.0) [] (conv body (bind σ x.0 (variable n)) κ (suc n)) (omega (arith, k, exns)) tt
            (λ v. converts body (bind σ x.0 (variable n)) κ (suc n) (scope_bound q A P F R by σ x.0 (variable n) v s) h)
        declared_has d body (Some (term.SameExn x c)) σ κ n k s h =
            converts body (bind σ x.0 (con_atom σ c)) κ n (scope_bound q A P F R by σ x.0 (con_atom σ c) (con_has σ c s k.1) s) h
        declared_has d body None σ κ n k s h = by.halt
        declared_has d body (Some (term.Int z)) σ κ n k s h = by.halt
        declared_has d body (Some (term.Char z)) σ κ n k s h = by.halt
        declared_has d body (Some (term.Text z)) σ κ n k s h = by.halt
        declared_has d body (Some (term.Var z)) σ κ n k s h = by.halt
        declared_has d body (Some (term.Constructor z)) σ κ n k s h = by.halt
        declared_has d body (Some (term.Builtin z)) σ κ n k s h = by.halt
        declared_has d body (Some (term.Tuple z)) σ κ n k s h = by.halt
        declared_has d body (Some (term.App y z)) σ κ n k s h = by.halt
        declared_has d body (Some (term.Match y z)) σ κ n k s h = by.halt
        declared_has d body (Some (term.Fn z)) σ κ n k s h = by.halt
        declared_has d body (Some (term.Raise z)) σ κ n k s h = by.halt
        declared_has d body (Some (term.Handle y z)) σ κ n k s h = by.halt
        declared_has d body (Some (term.Same z)) σ κ n k s h = by.halt
        declared_has d body (Some (term.Let y z)) σ κ n k s h = by.halt
        declared_has d body (Some term.Finish) σ κ n k s h = by.halt
        declared_has d body (Some term.Gone) σ κ n k s h = by.halt

        declaration : (d : ℕ) → DeclaredKept (slice_get l.terms d)
        declaration d = go (slice_get l.terms d) refl
          where
            go : (o : Option Term) → slice_get l.terms d ≡ o → DeclaredKept o
            go None e = tt
            go (Some t) e = fine d t e

        -- ---- Handlers

        handled_has : (i e : ℕ) (cases : List Case) (σ : Scope) (κ : Kon) (n : ℕ) → CasesKept l cases → Scoped σ → Goes κ → P (handled own l.terms conv i e cases σ κ n)
        handled_has i e cases σ κ n k s h =
            by.handler n (Fix both inside)
            (λ old. by.fix both inside
            (λ v. by.function (1 + n) (point i kind.Caught) ((3 + n) ∷ []) caught popped
            (λ w. by.set_handler (variable n) rules old (match_has cases σ κ (Throw (variable (3 + n))) (variable (3 + n)) (5 + n) k w.0 s h (by.throw (variable (3 + n)) w.0)))
            (by.function (2 + n) (point i kind.Popped) ((4 + n) ∷ []) (SetHandler (variable n) (Call (atom_of κ) (variable (4 + n) ∷ []))) NoFunction
            (λ w. by.set_handler (variable n) (Call (atom_of κ) (variable (4 + n) ∷ [])) old (by.call (atom_of κ) (variable (4 + n) ∷ []) (as_atom q A P F R by κ h) (w.0, tt)))
            by.no_function))
            (λ v. by.set_handler (variable (1 + n)) (conv e σ (Known (variable (2 + n))) (5 + n + size_cases (size_at l.terms) cases)) v.0 (converts e σ (Known (variable (2 + n))) (5 + n + size_cases (size_at l.terms) cases) s v.1.0)))
          where
            rules : Code
            rules = match_on own l.terms conv cases σ κ (Throw (variable (3 + n))) (variable (3 + n)) (5 + n)

            caught : Code
            caught = SetHandler (variable n) rules

            popped : Functions
            popped = Function (2 + n) (point i kind.Popped) ((4 + n) ∷ []) (SetHandler (variable n) (Call (atom_of κ) (variable (4 + n) ∷ []))) NoFunction

            both : Functions
            both = Function (1 + n) (point i kind.Caught) ((3 + n) ∷ []) caught popped

            inside : Code
            inside =
                SetHandler (variable (1 + n)) (conv e σ (Known (variable (2 + n))) (5 + n + size_cases (size_at l.terms) cases))

        -- ---- Terms

        value : (κ : Kon) (n : ℕ) → Goes κ → (a : Atom) → A a → P (apply κ a n)
        value κ n h a v = applies q A P F R by κ h a n v

        term_has : (i : ℕ) (t : Term) → TermKept l t → (σ : Scope) (κ : Kon) (n : ℕ) → Scoped σ → Goes κ → P (conv_term own l.terms conv i t σ κ n)
        term_has i (term.Int z) k σ κ n s h = value κ n h (known (constant.Int z)) (by.constant (constant.Int z) k)
        term_has i (term.Char c) k σ κ n s h = value κ n h (known (constant.Char c)) (by.constant (constant.Char c) k)
        term_has i (term.Text t) k σ κ n s h =
            value κ n h (known (constant.Text t)) (by.constant (constant.Text t) (omega (arith, k, texts)))
        term_has i (term.Var x) k σ κ n s h = value κ n h (σ x.0) (s x.0)
        term_has i (term.Constructor c) k σ κ n s h = value κ n h (con_atom σ c) (con_has σ c s k)
        term_has i (term.Builtin f) k σ κ n s h = value κ n h (builtin_atom f) (builtin_atom_has f)
        term_has i (term.Tuple parts) k σ κ n s h = tuple_has parts σ κ n s h
        term_has i (term.App f a) k σ κ n s h =
            applied_has (head_at l.terms f) f a σ κ n (head_within (length l.terms) f) s h
        term_has i (term.Match e cases) k σ κ n s h =
            part_has e σ (match_on own l.terms conv cases σ κ (raise_exn exn.MatchExn)) n s
            (λ a m v. match_has cases σ κ (raise_exn exn.MatchExn) a m k v s h (raised exn.MatchExn))
        term_has i (term.Fn cases) k σ κ n s h =
            by.fix (function_of own l.terms conv n i cases σ (suc n) NoFunction) (apply κ (variable n) (3 + n + size_cases (size_at l.terms) cases))
            (λ v. function_has n i cases σ (suc n) NoFunction k s by.no_function)
            (λ v. applies q A P F R by κ h (variable n) (3 + n + size_cases (size_at l.terms) cases) v.0)
        term_has i (term.Raise e) k σ κ n s h = part_has e σ (λ a m. Throw a) n s (λ a m v. by.throw a v)
        term_has i (term.Handle e cases) k σ κ n s h = handled_has i e cases σ κ n k s h
        term_has i (term.Same e) k σ κ n s h = converts e σ κ n s h
        term_has i (term.Let d body) k σ κ n s h = declared_has d body (slice_get l.terms d) σ κ n (declaration d) s h
        term_has i term.Finish k σ κ n s h = value κ n h (known constant.Nothing) (nothing q A P F R by)
        term_has i (term.Binds binds) k σ κ n s h = by.halt
        term_has i (term.Group bindings) k σ κ n s h = by.halt
        term_has i (term.NewExn x) k σ κ n s h = by.halt
        term_has i (term.SameExn x c) k σ κ n s h = by.halt
        term_has i term.Nothing k σ κ n s h = by.halt
        term_has i term.Gone k σ κ n s h = by.halt

      -- ---- All levels

      level_has : (k j : ℕ) (σ : Scope) (κ : Kon) (n : ℕ) → Scoped σ → Goes κ → P (conv_within own l.terms k j σ κ n)
      level_has zero j σ κ n s h = by.halt
      level_has (suc k) j σ κ n s h = go (slice_get l.terms j) refl (λ t here. term_has (conv_within own l.terms k) (level_has k) j t (fine j t here) σ κ n s h)
        where
          go : (o : Option Term) → slice_get l.terms j ≡ o → ((t : Term) → slice_get l.terms j ≡ Some t → P (conv_term own l.terms (conv_within own l.terms k) j t σ κ n)) → P (at_term (no_conv own l.terms) (conv_term own l.terms) (conv_within own l.terms k) j o σ κ n)
          go None here w = by.halt
          go (Some t) here w = w t here

      pub whole_has : P (convert own l.terms)
      whole_has =
          level_has (length l.terms) 0 nowhere (Text (λ a n. Halt)) 0 (λ x. nothing q A P F R by) (λ a m v. by.halt)

pub conversion_has : (l : Lambda) (q : Cps) → IsProgram l → q.texts ≡ l.texts → q.exns ≡ l.exns → (A : Atom → Type 0) (P : Code → Type 0) (F : Functions → Type 0) (R : Rules → Type 0) → ByForms q A P F R → (own : ℕ → Bool) → P (convert own l.terms)
conversion_has l q p texts exns A P F R by own =
    whole_has l q (ap length texts) (ap length exns) A P F R by (λ i t e. item (TermKept l) l.terms i t p.kept e) own
