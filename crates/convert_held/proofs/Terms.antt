-- Where each function may hold what the walk over terms says, each function of what conversion makes holds no more than it may.
use Rattle.std.proofs.Common.{◌≡◌, ℕ, zero, suc, ◌+◌, ◌≤◌, Bool, true, false, List, [], ◌∷◌, ◌++◌, Option, Some, None, length, refl, sym, ◌∙◌, arith}
use Rattle.std.specs.Prelude.{slice_get}
use Rattle.std.specs.List.{AllByRecursion}
use Rattle.std.specs.Option.{is_some}
use Rattle.std.proofs.lemmas.List.{length-append}
use Rattle.smlc_base.specs.declared.exception.LibraryExn.TheVariants as exn
use Rattle.smlc_base.specs.declared.point.Point.{Point}
use Rattle.smlc_base.specs.declared.point.PointKind.TheVariants as kind
use Rattle.sml_tree.specs.Points.{point}
use Rattle.sml_tree.specs.declared.bare.RecBinding.{RecBinding}
use Rattle.sml_tree.specs.Free.{names_of, exception_of}
use Rattle.sml_tree.specs.Sets.{has, union, union_over, without}
use Rattle.sml_tree.proofs.Members.{either, IsWithin, within_left, within_right, within_both, within_rest, without_parts, has-union}
use Rattle.lambda_ir.specs.declared.term.Case.{Case}
use Rattle.lambda_ir.specs.declared.term.Part.{Part}
use Rattle.lambda_ir.specs.declared.term.Term.{Term}
use Rattle.lambda_ir.specs.declared.term.Term.TheVariants as term
use Rattle.lambda_ir.specs.Free.{at_term, within_terms, free_tests, free_cases, free_parts, bound_in, binds_of_term, free_of_term, function_at}
use Rattle.cps_ir.specs.declared.atom.Atom.{Atom}
use Rattle.cps_ir.specs.declared.atom.Constant.TheVariants as constant
use Rattle.cps_ir.specs.declared.atom.Shape.TheVariants as shape
use Rattle.cps_ir.specs.Code.{Code, Fix, Call, SetHandler, Throw, Halt, Functions, NoFunction, Function}
use Rattle.cps_ir.specs.Code as code
use Rattle.cps_ir.specs.Free.{vars}
use Rattle.cps_ir.specs.State.{bind}
use Rattle.convert_laws.specs.declared.head.Head.{Head}
use Rattle.convert_laws.specs.declared.head.Head.TheVariants as head
use Rattle.convert_laws.specs.Needs.{head_at, head_term}
use Rattle.convert_laws.specs.Convert.{Scope, Kon, Known, Text, Conv, variable, known, nowhere, con_atom, builtin_atom, apply, atom_of, size_at, size_cases, raise_exn, builtin, constructor, part, tuple_of, match_on, function_of, applied, scope_group, group_of, group_with, declared, handled, conv_term, no_conv, conv_within, convert}
use Rattle.convert_held.proofs.Lists.{front_in, back_in, both_in, none_in, head_in, tail_in, cons_in, one_in, IsIn, var_few, image, few_image, Covers, covers_fewer, covers_more, image_covers, image_in}
use Rattle.convert_held.proofs.Allows.{Awaits, DeclaredAllows, Allows}
use Rattle.convert_held.proofs.Fits.{Fits, make_fits, fix_fits, call_fits, handler_fits, set_handler_fits, throw_fits, halt_fits, none_fit, function_fits}
use Rattle.convert_held.proofs.Texts.{var_in, new_in, con_in, builtin_in, bound_covers, Reads, KonReads, applied as applies, as_atom, raised, builtin_reads, constructor_fits}
use Rattle.convert_held.proofs.Forms.{part_fits, parts_fit, match_fits, closure_fits, binds_fit, group_covers, group_fits}

module _ (May : Point → ℕ → Type 0) (less : (p : Point) (m n : ℕ) → m ≤ n → May p n → May p m) (Allowed : ℕ → ℕ → Type 0) (own : ℕ → Bool) (terms : List Term) (free : ℕ → List ℕ) (covers : (i : ℕ) (t : Term) → slice_get terms i ≡ Some t → IsWithin (free_of_term terms free i t) (free i)) (present : (i : ℕ) (bindings : List RecBinding) → slice_get terms i ≡ Some (term.Group bindings) → AllByRecursion (λ b. is_some (function_at terms b.right) ≡ true) bindings) where
  -- the exception that stands as a function part is free in it
  abbrev HeadCovers : ℕ → Head → Type 0
  HeadCovers f (head.Constructor c) = IsWithin (exception_of c) (free f)
  HeadCovers f (head.Builtin p) = Unit {0}
  HeadCovers f head.Computed = Unit {0}

  same_head : (i j : ℕ) (h : Head) → IsWithin (free j) (free i) → HeadCovers j h → HeadCovers i h
  same_head i j (head.Constructor c) f h = λ x e. f x (h x e)
  same_head i j (head.Builtin p) f h = tt
  same_head i j head.Computed f h = tt

  head_within : (k i : ℕ) → HeadCovers i (within_terms head.Computed (λ part j. head_term part) k terms i)
  head_within zero i = tt
  head_within (suc k) i = go (slice_get terms i) refl (head_within k)
    where
      go : (o : Option Term) → slice_get terms i ≡ o → ((j : ℕ) → HeadCovers j (within_terms head.Computed (λ part j. head_term part) k terms j)) → HeadCovers i (at_term head.Computed (λ part j. head_term part) (within_terms head.Computed (λ part j. head_term part) k terms) i o)
      go None e again = tt
      go (Some (term.Constructor c)) e again = covers i (term.Constructor c) e
      go (Some (term.Same j)) e again = same_head i j _ (covers i (term.Same j) e) (again j)
      go (Some (term.Builtin f)) e again = tt
      go (Some (term.Int z)) e again = tt
      go (Some (term.Char x)) e again = tt
      go (Some (term.Text x)) e again = tt
      go (Some (term.Var x)) e again = tt
      go (Some (term.Tuple x)) e again = tt
      go (Some (term.App x y)) e again = tt
      go (Some (term.Match x y)) e again = tt
      go (Some (term.Fn x)) e again = tt
      go (Some (term.Raise x)) e again = tt
      go (Some (term.Handle x y)) e again = tt
      go (Some (term.Let x y)) e again = tt
      go (Some term.Finish) e again = tt
      go (Some (term.Binds x)) e again = tt
      go (Some (term.Group x)) e again = tt
      go (Some (term.NewExn x)) e again = tt
      go (Some (term.SameExn x y)) e again = tt
      go (Some term.Nothing) e again = tt
      go (Some term.Gone) e again = tt

  module _ (conv : ℕ → Conv) (converts : (j : ℕ) (σ : Scope) (κ : Kon) (xs zs : List ℕ) (r n : ℕ) → Allowed j r → length xs ≤ r → KonReads May xs κ → IsWithin xs zs → Covers zs σ (free j) → Fits May zs (conv j σ κ n)) where
    tuple_fits : (parts : List Part) (σ : Scope) (κ : Kon) (xs zs : List ℕ) (r n : ℕ) → Allows May Allowed own terms free 0 (term.Tuple parts) r → length xs ≤ r → KonReads May xs κ → IsWithin xs zs → Covers zs σ (free_parts free parts) → Fits May zs (tuple_of own terms conv parts σ κ n)
    tuple_fits [] σ κ xs zs r n allowed le reads f s = applies May κ xs reads zs (known constant.Nothing) n f (none_in zs)
    tuple_fits (q ∷ parts) σ κ xs zs r n allowed le reads f s =
        parts_fit May less Allowed own terms free conv converts (q ∷ parts) [] (q ∷ parts) σ κ xs zs 0 r n (omega arith) allowed le reads f tt s

    -- ---- Applications

    call_reads : (u k : Atom) (xs : List ℕ) → IsIn xs k → Reads May (vars u ++ xs) (λ b l. Call u (b ∷ k ∷ []))
    call_reads u k xs h ws b l f g =
        call_fits May ws u (b ∷ k ∷ []) (λ z e. f z (front_in (vars u) xs z e)) (g, ((λ z e. f z (back_in (vars u) xs z (h z e))), tt))

    computed_fits : (f a : ℕ) (σ : Scope) (κ : Kon) (xs zs : List ℕ) (r n : ℕ) → Awaits May Allowed own terms free f (length (free a) + r) → Awaits May Allowed own terms free a (1 + r) → length xs ≤ r → KonReads May xs κ → IsWithin xs zs → Covers zs σ (union (free f) (free a)) → Fits May zs (applied own terms conv head.Computed f a σ κ n)
    computed_fits f a σ κ xs zs r n of_f of_a le reads g s =
        part_fits May less Allowed own terms free conv converts f σ rest held zs (length (free a) + r) n of_f short goes_on
        (both_in (image σ (free a)) xs zs (image_in zs σ (free a) (λ x e. s x (within_right (free f) (free a) x e))) g)
        (λ x e. s x (within_left (free f) (free a) x e))
      where
        rest : Atom → ℕ → Code
        rest u m = part own terms conv a σ (λ b l. Call u (b ∷ atom_of κ ∷ [])) m

        held : List ℕ
        held = image σ (free a) ++ xs

        short : length held ≤ length (free a) + r
        short =
            let both = length-append (image σ (free a)) xs in let names = few_image σ (free a) in omega (arith, both, names, le)

        goes_on : Reads May held rest
        goes_on ws u m f h =
            part_fits May less Allowed own terms free conv converts a σ (λ b l. Call u (b ∷ atom_of κ ∷ [])) (vars u ++ xs) ws (1 + r) m of_a
            (let both = length-append (vars u) xs in let one = var_few u in omega (arith, both, one, le))
            (call_reads u (atom_of κ) xs (as_atom May κ xs xs reads (λ z e. e)))
            (both_in (vars u) xs ws h (λ z e. f z (back_in (image σ (free a)) xs z e)))
            (covers_more (image σ (free a)) ws σ (free a) (λ z e. f z (front_in (image σ (free a)) xs z e)) (image_covers σ (free a)))

    argument_fits : (a : ℕ) (σ : Scope) (g : Atom → ℕ → Code) (xs zs : List ℕ) (r n : ℕ) → Awaits May Allowed own terms free a (1 + r) → length xs ≤ 1 + r → Reads May xs g → IsWithin xs zs → Covers zs σ (free a) → Fits May zs (part own terms conv a σ g n)
    argument_fits a σ g xs zs r n of_a le reads f s =
        part_fits May less Allowed own terms free conv converts a σ g xs zs (1 + r) n of_a le reads f s

    applied_fits : (h : Head) (f a : ℕ) (σ : Scope) (κ : Kon) (xs zs : List ℕ) (r n : ℕ) → HeadCovers f h → Awaits May Allowed own terms free f (length (free a) + r) → Awaits May Allowed own terms free a (1 + r) → length xs ≤ r → KonReads May xs κ → IsWithin xs zs → Covers zs σ (union (free f) (free a)) → Fits May zs (applied own terms conv h f a σ κ n)
    applied_fits head.Computed f a σ κ xs zs r n c of_f of_a le reads g s = computed_fits f a σ κ xs zs r n of_f of_a le reads g s
    applied_fits (head.Builtin p) f a σ κ xs zs r n c of_f of_a le reads g s =
        argument_fits a σ (builtin p κ) xs zs r n of_a (omega (arith, le)) (builtin_reads May p κ xs reads) g (λ x e. s x (within_right (free f) (free a) x e))
    applied_fits (head.Constructor q) f a σ κ xs zs r n c of_f of_a le reads g s =
        argument_fits a σ (constructor σ q κ) (vars (con_atom σ q) ++ xs) zs r n of_a
        (let both = length-append (vars (con_atom σ q)) xs in let one = var_few (con_atom σ q) in omega (arith, both, one, le))
        (λ ws b m u h. constructor_fits May σ q κ xs ws b m reads (λ z e. u z (back_in (vars (con_atom σ q)) xs z e)) (λ z e. u z (front_in (vars (con_atom σ q)) xs z e)) h)
        (both_in (vars (con_atom σ q)) xs zs (con_in zs σ q (λ x e. s x (within_left (free f) (free a) x (c x e)))) g)
        (λ x e. s x (within_right (free f) (free a) x e))

    -- ---- Declarations

    group_needs : (bindings : List RecBinding) (d body : ℕ) (σ : Scope) (zs : List ℕ) → IsWithin (without (union_over (λ b. free b.right) bindings) (names_of bindings)) (free d) → Covers zs σ (union (free d) (without (free body) (names_of bindings))) → Covers zs σ (without (union (union_over (λ b. free b.right) bindings) (free body)) (names_of bindings))
    group_needs bindings d body σ zs c s x e =
        either (has rights x) (has (free body) x) (IsIn zs (σ x)) (sym (has-union rights (free body) x) ∙ parts.0)
        (λ h. s x (within_left (free d) (without (free body) (names_of bindings)) x (c x (within_rest rights (names_of bindings) x h parts.1))))
        (λ h. s x (within_right (free d) (without (free body) (names_of bindings)) x (within_rest (free body) (names_of bindings) x h parts.1)))
      where
        rights : List ℕ
        rights = union_over (λ b. free b.right) bindings

        parts : (has (union rights (free body)) x ≡ true) × (has (names_of bindings) x ≡ false)
        parts = without_parts (union rights (free body)) (names_of bindings) x e

    grouped : (bindings : List RecBinding) (d body : ℕ) (σ : Scope) (κ : Kon) (xs zs : List ℕ) (r n : ℕ) → AllByRecursion (λ b. is_some (function_at terms b.right) ≡ true) bindings → DeclaredAllows May Allowed own terms free (Some (term.Group bindings)) body r → length xs ≤ r → KonReads May xs κ → IsWithin xs zs → Covers zs σ (without (union (union_over (λ b. free b.right) bindings) (free body)) (names_of bindings)) → Fits May zs (group_with own terms conv bindings (scope_group own terms bindings n σ) (conv body (scope_group own terms bindings n σ) κ (n + size_at terms d)) n)
    grouped bindings d body σ κ xs zs r n k allowed le reads f s =
        fix_fits May zs fs (conv body τ κ (n + size_at terms d))
        (group_fits May less Allowed own terms free conv converts covers bindings n τ (n + length bindings) inner allowed.0 (λ x e. covered x (within_left rights (free body) x e)))
        (converts body τ κ xs inner r (n + size_at terms d) allowed.1 le reads (λ z e. back_in (code.names_of fs) zs z (f z e)) (λ x e. covered x (within_right rights (free body) x e)))
      where
        τ : Scope
        τ = scope_group own terms bindings n σ

        fs : Functions
        fs = group_of own terms conv bindings n τ (n + length bindings)

        inner : List ℕ
        inner = code.names_of fs ++ zs

        rights : List ℕ
        rights = union_over (λ b. free b.right) bindings

        covered : Covers inner τ (union rights (free body))
        covered =
            group_covers May less Allowed own terms free conv converts bindings n σ τ (n + length bindings) inner (union rights (free body)) k (front_in (code.names_of fs) zs) (covers_more zs inner σ (without (union rights (free body)) (names_of bindings)) (back_in (code.names_of fs) zs) s)

    declared_fits : (d body : ℕ) (o : Option Term) (σ : Scope) (κ : Kon) (xs zs : List ℕ) (r n : ℕ) → slice_get terms d ≡ o → DeclaredAllows May Allowed own terms free o body r → length xs ≤ r → KonReads May xs κ → IsWithin xs zs → Covers zs σ (union (free d) (without (free body) (binds_of_term o))) → Fits May zs (declared own terms conv d body o σ κ n)
    declared_fits d body (Some (term.Binds binds)) σ κ xs zs r n is allowed le reads f s =
        binds_fit May less Allowed own terms free conv converts binds body σ κ xs zs r n allowed le reads f
        (covers_fewer zs σ (union (free d) behind) (union rights behind) (within_both rights behind (union (free d) behind) (λ x e. within_left (free d) behind x (covers d (term.Binds binds) is x e)) (within_right (free d) behind)) s)
      where
        rights : List ℕ
        rights = union_over (λ b. union (free_tests b.tests) (free b.right)) binds

        behind : List ℕ
        behind = without (free body) (bound_in binds)
    declared_fits d body (Some (term.Group bindings)) σ κ xs zs r n is allowed le reads f s =
        grouped bindings d body σ κ xs zs r n (present d bindings is) allowed le reads f (group_needs bindings d body σ zs (covers d (term.Group bindings) is) s)
    declared_fits d body (Some term.Nothing) σ κ xs zs r n is allowed le reads f s =
        converts body σ κ xs zs r n allowed le reads f (λ x e. s x (within_right (free d) (without (free body) []) x (within_rest (free body) [] x e refl)))
    declared_fits d body (Some (term.NewExn x)) σ κ xs zs r n is allowed le reads f s =
        make_fits May zs n (shape.ExnName x.0) [] (conv body (bind σ x.0 (variable n)) κ (suc n)) tt
        (converts body (bind σ x.0 (variable n)) κ xs (n ∷ zs) r (suc n) allowed le reads (λ z e. tail_in n zs z (f z e))
        (bound_covers (n ∷ zs) σ x.0 (variable n) (free body) (new_in n zs) (λ y e z g. tail_in n zs z (s y (within_right (free d) (without (free body) (x.0 ∷ [])) y e) z g))))
    declared_fits d body (Some (term.SameExn x c)) σ κ xs zs r n is allowed le reads f s =
        converts body (bind σ x.0 (con_atom σ c)) κ xs zs r n allowed le reads f
        (bound_covers zs σ x.0 (con_atom σ c) (free body) (con_in zs σ c (λ y e. s y (within_left (free d) (without (free body) (x.0 ∷ [])) y (covers d (term.SameExn x c) is y e)))) (λ y e. s y (within_right (free d) (without (free body) (x.0 ∷ [])) y e)))
    declared_fits d body None σ κ xs zs r n is allowed le reads f s = halt_fits May zs
    declared_fits d body (Some (term.Int z)) σ κ xs zs r n is allowed le reads f s = halt_fits May zs
    declared_fits d body (Some (term.Char z)) σ κ xs zs r n is allowed le reads f s = halt_fits May zs
    declared_fits d body (Some (term.Text z)) σ κ xs zs r n is allowed le reads f s = halt_fits May zs
    declared_fits d body (Some (term.Var z)) σ κ xs zs r n is allowed le reads f s = halt_fits May zs
    declared_fits d body (Some (term.Constructor z)) σ κ xs zs r n is allowed le reads f s = halt_fits May zs
    declared_fits d body (Some (term.Builtin z)) σ κ xs zs r n is allowed le reads f s = halt_fits May zs
    declared_fits d body (Some (term.Tuple z)) σ κ xs zs r n is allowed le reads f s = halt_fits May zs
    declared_fits d body (Some (term.App y z)) σ κ xs zs r n is allowed le reads f s = halt_fits May zs
    declared_fits d body (Some (term.Match y z)) σ κ xs zs r n is allowed le reads f s = halt_fits May zs
    declared_fits d body (Some (term.Fn z)) σ κ xs zs r n is allowed le reads f s = halt_fits May zs
    declared_fits d body (Some (term.Raise z)) σ κ xs zs r n is allowed le reads f s = halt_fits May zs
    declared_fits d body (Some (term.Handle y z)) σ κ xs zs r n is allowed le reads f s = halt_fits May zs
    declared_fits d body (Some (term.Same z)) σ κ xs zs r n is allowed le reads f s = halt_fits May zs
    declared_fits d body (Some (term.Let y z)) σ κ xs zs r n is allowed le reads f s = halt_fits May zs
    declared_fits d body (Some term.Finish) σ κ xs zs r n is allowed le reads f s = halt_fits May zs
    declared_fits d body (Some term.Gone) σ κ xs zs r n is allowed le reads f s = halt_fits May zs

    -- ---- Handlers

    handled_fits : (i e : ℕ) (cases : List Case) (σ : Scope) (κ : Kon) (xs zs : List ℕ) (r n : ℕ) → Allows May Allowed own terms free i (term.Handle e cases) r → length xs ≤ r → KonReads May xs κ → IsWithin xs zs → Covers zs σ (union (free e) (free_cases free cases)) → Fits May zs (handled own terms conv i e cases σ κ n)
    handled_fits i e cases σ κ xs zs r n allowed le reads f s =
        handler_fits May zs n (Fix both inside)
        (fix_fits May (n ∷ zs) both inside
        (function_fits May inner caught (1 + n) (point i kind.Caught) ((3 + n) ∷ []) (SetHandler (variable n) rules) popped in_rules caught_in (less (point i kind.Caught) (length caught) (length (free_cases free cases) + (1 + r)) short allowed.0)
        (function_fits May inner back (2 + n) (point i kind.Popped) ((4 + n) ∷ []) (SetHandler (variable n) (Call (atom_of κ) (variable (4 + n) ∷ []))) NoFunction in_back back_in_inner (less (point i kind.Popped) (length back) 2 (let one = var_few (atom_of κ) in omega (arith, one)) allowed.1) (none_fit May inner)))
        (set_handler_fits May inner (variable (1 + n)) (conv e σ (Known (variable (2 + n))) (5 + n + size_cases (size_at terms) cases)) (new_in (1 + n) ((2 + n) ∷ n ∷ zs))
        (converts e σ (Known (variable (2 + n))) ((2 + n) ∷ []) inner 1 (5 + n + size_cases (size_at terms) cases) allowed.2 (omega arith) (new_in (2 + n) []) (one_in (2 + n) inner (tail_in (1 + n) ((2 + n) ∷ n ∷ zs) (2 + n) (head_in (2 + n) (n ∷ zs)))) (covers_more zs inner σ (free e) old_in (λ x g. s x (within_left (free e) (free_cases free cases) x g))))))
      where
        rules : Code
        rules = match_on own terms conv cases σ κ (Throw (variable (3 + n))) (variable (3 + n)) (5 + n)

        popped : Functions
        popped = Function (2 + n) (point i kind.Popped) ((4 + n) ∷ []) (SetHandler (variable n) (Call (atom_of κ) (variable (4 + n) ∷ []))) NoFunction

        both : Functions
        both = Function (1 + n) (point i kind.Caught) ((3 + n) ∷ []) (SetHandler (variable n) rules) popped

        inside : Code
        inside =
            SetHandler (variable (1 + n)) (conv e σ (Known (variable (2 + n))) (5 + n + size_cases (size_at terms) cases))

        inner : List ℕ
        inner = (1 + n) ∷ (2 + n) ∷ n ∷ zs

        old_in : IsWithin zs inner
        old_in z h = tail_in (1 + n) ((2 + n) ∷ n ∷ zs) z (tail_in (2 + n) (n ∷ zs) z (tail_in n zs z h))

        handler_in : has inner n ≡ true
        handler_in = tail_in (1 + n) ((2 + n) ∷ n ∷ zs) n (tail_in (2 + n) (n ∷ zs) n (head_in n zs))

        names : List ℕ
        names = image σ (free_cases free cases)

        names_in : IsWithin names zs
        names_in = image_in zs σ (free_cases free cases) (λ x g. s x (within_right (free e) (free_cases free cases) x g))

        caught : List ℕ
        caught = n ∷ (names ++ xs)

        short : length caught ≤ length (free_cases free cases) + (1 + r)
        short =
            let both = length-append names xs in let few = few_image σ (free_cases free cases) in omega (arith, both, few, le)

        caught_in : IsWithin caught inner
        caught_in =
            cons_in n (names ++ xs) inner handler_in (both_in names xs inner (λ z h. old_in z (names_in z h)) (λ z h. old_in z (f z h)))

        held : List ℕ
        held = (3 + n) ∷ caught

        in_held : IsWithin (names ++ xs) held
        in_held z h = tail_in (3 + n) caught z (tail_in n (names ++ xs) z h)

        in_rules : Fits May held (SetHandler (variable n) rules)
        in_rules =
            set_handler_fits May held (variable n) rules (var_in n held (tail_in (3 + n) caught n (head_in n (names ++ xs))))
            (match_fits May less Allowed own terms free conv converts cases σ κ (Throw (variable (3 + n))) (variable (3 + n)) xs held r (5 + n) allowed.3 le reads (λ z h. in_held z (back_in names xs z h)) (new_in (3 + n) caught)
            (covers_more names held σ (free_cases free cases) (λ z h. in_held z (front_in names xs z h)) (image_covers σ (free_cases free cases)))
            (throw_fits May held (variable (3 + n)) (new_in (3 + n) caught)))

        back : List ℕ
        back = n ∷ vars (atom_of κ)

        back_in_inner : IsWithin back inner
        back_in_inner = cons_in n (vars (atom_of κ)) inner handler_in (λ z h. old_in z (as_atom May κ xs zs reads f z h))

        in_back : Fits May ((4 + n) ∷ back) (SetHandler (variable n) (Call (atom_of κ) (variable (4 + n) ∷ [])))
        in_back =
            set_handler_fits May ((4 + n) ∷ back) (variable n) (Call (atom_of κ) (variable (4 + n) ∷ [])) (var_in n ((4 + n) ∷ back) (tail_in (4 + n) back n (head_in n (vars (atom_of κ)))))
            (call_fits May ((4 + n) ∷ back) (atom_of κ) (variable (4 + n) ∷ []) (λ z h. tail_in (4 + n) back z (tail_in n (vars (atom_of κ)) z h)) (new_in (4 + n) back, tt))

    -- ---- Terms

    value : (κ : Kon) (xs zs : List ℕ) (n : ℕ) → KonReads May xs κ → IsWithin xs zs → (a : Atom) → IsIn zs a → Fits May zs (apply κ a n)
    value κ xs zs n reads f a h = applies May κ xs reads zs a n f h

    term_fits : (i : ℕ) (t : Term) (σ : Scope) (κ : Kon) (xs zs : List ℕ) (r n : ℕ) → Allows May Allowed own terms free i t r → length xs ≤ r → KonReads May xs κ → IsWithin xs zs → Covers zs σ (free_of_term terms free i t) → Fits May zs (conv_term own terms conv i t σ κ n)
    term_fits i (term.Int z) σ κ xs zs r n allowed le reads f s = value κ xs zs n reads f (known (constant.Int z)) (none_in zs)
    term_fits i (term.Char c) σ κ xs zs r n allowed le reads f s = value κ xs zs n reads f (known (constant.Char c)) (none_in zs)
    term_fits i (term.Text t) σ κ xs zs r n allowed le reads f s = value κ xs zs n reads f (known (constant.Text t)) (none_in zs)
    term_fits i (term.Var x) σ κ xs zs r n allowed le reads f s = value κ xs zs n reads f (σ x.0) (s x.0 (head_in x.0 []))
    term_fits i (term.Constructor c) σ κ xs zs r n allowed le reads f s = value κ xs zs n reads f (con_atom σ c) (con_in zs σ c s)
    term_fits i (term.Builtin p) σ κ xs zs r n allowed le reads f s = value κ xs zs n reads f (builtin_atom p) (builtin_in zs p)
    term_fits i (term.Tuple parts) σ κ xs zs r n allowed le reads f s = tuple_fits parts σ κ xs zs r n allowed le reads f s
    term_fits i (term.App u a) σ κ xs zs r n allowed le reads f s =
        applied_fits (head_at terms u) u a σ κ xs zs r n (head_within (length terms) u) allowed.0 allowed.1 le reads f s
    term_fits i (term.Match e cases) σ κ xs zs r n allowed le reads f s =
        part_fits May less Allowed own terms free conv converts e σ (match_on own terms conv cases σ κ (raise_exn exn.MatchExn)) held zs (length (free_cases free cases) + r) n allowed.0
        (let both = length-append (image σ (free_cases free cases)) xs in let names = few_image σ (free_cases free cases) in omega (arith, both, names, le))
        (λ ws a m g h. match_fits May less Allowed own terms free conv converts cases σ κ (raise_exn exn.MatchExn) a xs ws r m allowed.1 le reads (λ z d. g z (back_in (image σ (free_cases free cases)) xs z d)) h
        (covers_more (image σ (free_cases free cases)) ws σ (free_cases free cases) (λ z d. g z (front_in (image σ (free_cases free cases)) xs z d)) (image_covers σ (free_cases free cases)))
        (raised May exn.MatchExn ws))
        (both_in (image σ (free_cases free cases)) xs zs (image_in zs σ (free_cases free cases) (λ x d. s x (within_right (free e) (free_cases free cases) x d))) f)
        (λ x d. s x (within_left (free e) (free_cases free cases) x d))
      where
        held : List ℕ
        held = image σ (free_cases free cases) ++ xs
    term_fits i (term.Fn cases) σ κ xs zs r n allowed le reads f s =
        fix_fits May zs (function_of own terms conv n i cases σ (suc n) NoFunction) (apply κ (variable n) (3 + n + size_cases (size_at terms) cases))
        (closure_fits May less Allowed own terms free conv converts n i cases σ (suc n) NoFunction (n ∷ zs) allowed (covers_more zs (n ∷ zs) σ (free_cases free cases) (tail_in n zs) s) (none_fit May (n ∷ zs)))
        (value κ xs (n ∷ zs) (3 + n + size_cases (size_at terms) cases) reads (λ z e. tail_in n zs z (f z e)) (variable n) (new_in n zs))
    term_fits i (term.Raise e) σ κ xs zs r n allowed le reads f s =
        part_fits May less Allowed own terms free conv converts e σ (λ a m. Throw a) [] zs 0 n allowed (omega arith) (λ ws a m g h. throw_fits May ws a h) (none_in zs) s
    term_fits i (term.Handle e cases) σ κ xs zs r n allowed le reads f s = handled_fits i e cases σ κ xs zs r n allowed le reads f s
    term_fits i (term.Same e) σ κ xs zs r n allowed le reads f s = converts e σ κ xs zs r n allowed le reads f s
    term_fits i (term.Let d body) σ κ xs zs r n allowed le reads f s =
        declared_fits d body (slice_get terms d) σ κ xs zs r n refl allowed le reads f s
    term_fits i term.Finish σ κ xs zs r n allowed le reads f s = value κ xs zs n reads f (known constant.Nothing) (none_in zs)
    term_fits i (term.Binds binds) σ κ xs zs r n allowed le reads f s = halt_fits May zs
    term_fits i (term.Group bindings) σ κ xs zs r n allowed le reads f s = halt_fits May zs
    term_fits i (term.NewExn x) σ κ xs zs r n allowed le reads f s = halt_fits May zs
    term_fits i (term.SameExn x c) σ κ xs zs r n allowed le reads f s = halt_fits May zs
    term_fits i term.Nothing σ κ xs zs r n allowed le reads f s = halt_fits May zs
    term_fits i term.Gone σ κ xs zs r n allowed le reads f s = halt_fits May zs

  -- ---- All levels

  module _ (allows : (i : ℕ) (t : Term) (r : ℕ) → slice_get terms i ≡ Some t → Allowed i r → Allows May Allowed own terms free i t r) where
    level_fits : (k j : ℕ) (σ : Scope) (κ : Kon) (xs zs : List ℕ) (r n : ℕ) → Allowed j r → length xs ≤ r → KonReads May xs κ → IsWithin xs zs → Covers zs σ (free j) → Fits May zs (conv_within own terms k j σ κ n)
    level_fits zero j σ κ xs zs r n allowed le reads f s = halt_fits May zs
    level_fits (suc k) j σ κ xs zs r n allowed le reads f s =
        go (slice_get terms j) refl (λ t here. term_fits (conv_within own terms k) (level_fits k) j t σ κ xs zs r n (allows j t r here allowed) le reads f (covers_fewer zs σ (free j) (free_of_term terms free j t) (covers j t here) s))
      where
        go : (o : Option Term) → slice_get terms j ≡ o → ((t : Term) → slice_get terms j ≡ Some t → Fits May zs (conv_term own terms (conv_within own terms k) j t σ κ n)) → Fits May zs (at_term (no_conv own terms) (conv_term own terms) (conv_within own terms k) j o σ κ n)
        go None here w = halt_fits May zs
        go (Some t) here w = w t here

    pub whole_fits : Allowed 0 0 → Fits May [] (convert own terms)
    whole_fits allowed =
        level_fits (length terms) 0 nowhere (Text (λ a n. Halt)) [] [] 0 0 allowed (omega arith) (λ ws a m g h. halt_fits May ws) (none_in []) (λ x e. none_in [])
