-- Two conversions of the terms behind a term that are the same make the same of it.
use Rattle.std.proofs.Common.{◌≡◌, ℕ, zero, suc, ◌+◌, ◌<◌, Bool, List, [], ◌∷◌, ◌++◌, Option, Some, None, length, map, refl, ap, ◌∙◌, subst, arith}
use Rattle.std.proofs.Math.Path.{fun_ext}
use Rattle.std.specs.Prelude.{slice_get, cond}
use Rattle.std.specs.List.{AllByRecursion}
use Rattle.smlc_base.specs.declared.exception.LibraryExn.TheVariants as exn
use Rattle.smlc_base.specs.declared.point.PointKind.TheVariants as kind
use Rattle.sml_tree.specs.Points.{point}
use Rattle.sml_tree.specs.declared.bare.RecBinding.{RecBinding}
use Rattle.lambda_ir.specs.declared.term.Bind.{Bind}
use Rattle.lambda_ir.specs.declared.term.Case.{Case}
use Rattle.lambda_ir.specs.declared.term.Part.{Part}
use Rattle.lambda_ir.specs.declared.term.Term.{Term}
use Rattle.lambda_ir.specs.declared.term.Term.TheVariants as term
use Rattle.lambda_ir.specs.Free.{at_term, within_terms, function_of_term, function_at}
use Rattle.lambda_ir.specs.Kept.{term_parts}
use Rattle.cps_ir.specs.declared.atom.Atom.{Atom}
use Rattle.cps_ir.specs.Code.{Code, Make, Fix, Handler, SetHandler, Call, Throw, Functions, NoFunction, Function, Rules, Otherwise}
use Rattle.cps_ir.specs.State.{bind}
use Rattle.cps_ir.specs.declared.atom.Shape.TheVariants as shape
use Rattle.convert_laws.specs.declared.head.Head.{Head}
use Rattle.convert_laws.specs.declared.head.Head.TheVariants as head
use Rattle.convert_laws.specs.Convert.{Scope, Kon, Known, Text, Conv, variable, con_atom, atom_of, apply, bind_names, tests_of, rule_of, match_of, raise_exn, builtin, constructor, part, parts_of, tuple_of, rules_of, match_on, function_of, applied, binds_of, scope_group, group_function, group_of, group_with, declared, handled, conv_term, no_conv, size_at, size_cases, steps_of}
use Rattle.convert_laws.specs.Facts.{AreNumbered}
use Rattle.convert_laws.specs.Needs.{head_at}
use Rattle.convert_laws.proofs.Unfold.{all_map}
use Rattle.convert_unfold.specs.Law.{Unfolds}
use Rattle.convert_unfold.proofs.Levels.{here, past}

some_is : (p q : ℕ × List Case) → Some p ≡ Some q → p ≡ q
some_is p q e = cc

module _ (own : ℕ → Bool) (terms : List Term) (numbered : AreNumbered terms) where
  module _ (f g : ℕ → Conv) (i : ℕ) (same : (c : ℕ) → i < c → f c ≡ g c) where
    abbrev Later : List ℕ → Type 0
    Later = AllByRecursion (λ c. i < c)

    abbrev from : ℕ → Scope → ℕ → Conv → (Atom → ℕ → Code) → Code
    from j σ n h r = cond (own j)
        (Fix (Function n (point j kind.Ret) (suc n ∷ []) (r (variable (suc n)) (2 + n + size_at terms j)) NoFunction) (h σ (Known (variable n)) (2 + n)))
        (h σ (Text r) n)

    part_same : (j : ℕ) → i < j → (σ : Scope) (r s : Atom → ℕ → Code) → r ≡ s → (n : ℕ) → part own terms f j σ r n ≡ part own terms g j σ s n
    part_same j l σ r s e n = ap (λ (h : Conv). from j σ n h r) (same j l) ∙ ap (λ (t : Atom → ℕ → Code). from j σ n (g j) t) e

    parts_same : (all later : List Part) → Later (map (λ q. q.node) later) → (before : List Atom) (σ : Scope) (κ : Kon) (n : ℕ) → parts_of own terms f all before later σ κ n ≡ parts_of own terms g all before later σ κ n
    parts_same all [] h before σ κ n = refl
    parts_same all (q ∷ later) h before σ κ n = part_same q.node h.0 σ _ _ (fun_ext (λ a. fun_ext (λ m. parts_same all later h.1 (before ++ a ∷ []) σ κ m))) n

    tuple_same : (parts : List Part) → Later (map (λ q. q.node) parts) → (σ : Scope) (κ : Kon) (n : ℕ) → tuple_of own terms f parts σ κ n ≡ tuple_of own terms g parts σ κ n
    tuple_same [] h σ κ n = refl
    tuple_same (q ∷ parts) h σ κ n = parts_same (q ∷ parts) (q ∷ parts) h [] σ κ n

    rules_same : (cases : List Case) → Later (map (λ c. c.body) cases) → (a : Atom) (σ : Scope) (κ : Kon) (other : Code) (n : ℕ) → rules_of own terms f cases a σ κ other n ≡ rules_of own terms g cases a σ κ other n
    rules_same [] h a σ κ other n = refl
    rules_same (c ∷ cases) h a σ κ other n =
        ap (λ (k : Conv). rule_of (tests_of σ c.tests) (bind_names c.names a σ (λ τ m. k τ κ m) n) (rules_of own terms f cases a σ κ other (n + (steps_of c.names + size_at terms c.body)))) (same c.body h.0)
        ∙ ap (λ (rs : Rules). rule_of (tests_of σ c.tests) (bind_names c.names a σ (λ τ m. g c.body τ κ m) n) rs) (rules_same cases h.1 a σ κ other (n + (steps_of c.names + size_at terms c.body)))

    match_same : (cases : List Case) → Later (map (λ c. c.body) cases) → (σ : Scope) (κ : Kon) (other : Code) (a : Atom) (n : ℕ) → match_on own terms f cases σ κ other a n ≡ match_on own terms g cases σ κ other a n
    match_same cases h σ κ other a n = ap (match_of a) (rules_same cases h a σ κ other n)

    function_same : (x k : ℕ) (cases : List Case) → Later (map (λ c. c.body) cases) → (σ : Scope) (n : ℕ) (fs gs : Functions) → fs ≡ gs → function_of own terms f x k cases σ n fs ≡ function_of own terms g x k cases σ n gs
    function_same x k cases h σ n fs gs e =
        ap (λ (c : Code). Function x (point k kind.Fn) (n ∷ suc n ∷ []) c fs) (match_same cases h σ (Known (variable (suc n))) (raise_exn exn.MatchExn) (variable n) (2 + n))
        ∙ ap (λ (hs : Functions). Function x (point k kind.Fn) (n ∷ suc n ∷ []) (match_on own terms g cases σ (Known (variable (suc n))) (raise_exn exn.MatchExn) (variable n) (2 + n)) hs) e

    applied_same : (h : Head) (x a : ℕ) → i < x → i < a → (σ : Scope) (κ : Kon) (n : ℕ) → applied own terms f h x a σ κ n ≡ applied own terms g h x a σ κ n
    applied_same head.Computed x a l k σ κ n = part_same x l σ _ _ (fun_ext (λ u. fun_ext (λ m. part_same a k σ (λ b j. Call u (b ∷ atom_of κ ∷ [])) (λ b j. Call u (b ∷ atom_of κ ∷ [])) refl m))) n
    applied_same (head.Builtin p) x a l k σ κ n = part_same a k σ (builtin p κ) (builtin p κ) refl n
    applied_same (head.Constructor c) x a l k σ κ n = part_same a k σ (constructor σ c κ) (constructor σ c κ) refl n

    binds_same : (binds : List Bind) → Later (map (λ b. b.right) binds) → (body : ℕ) → i < body → (σ : Scope) (κ : Kon) (n : ℕ) → binds_of own terms f binds body σ κ n ≡ binds_of own terms g binds body σ κ n
    binds_same [] h body l σ κ n = ap (λ (k : Conv). k σ κ n) (same body l)
    binds_same (b ∷ later) h body l σ κ n =
        part_same b.right h.0 σ _ _
        (fun_ext (λ a. fun_ext (λ m.
        ap (λ (r : Scope → ℕ → Code). match_of a (rule_of (tests_of σ b.tests) (bind_names b.names a σ r m) (Otherwise (raise_exn exn.BindExn)))) (fun_ext (λ τ. fun_ext (λ j. binds_same later h.1 body l τ κ j)))))) n

    -- the function of a term of a group stands behind the term
    function_behind : (k j : ℕ) → i < j → (x : ℕ) (cases : List Case) → within_terms None function_of_term k terms j ≡ Some (x, cases) → Later (map (λ c. c.body) cases)
    function_behind zero j l x cases e = absurd (cc)
    function_behind (suc k) j l x cases e = go (λ y b d. function_behind k y b x cases d) (slice_get terms j) refl e
      where
        go : ((y : ℕ) → i < y → within_terms None function_of_term k terms y ≡ Some (x, cases) → Later (map (λ c. c.body) cases)) → (o : Option Term) → slice_get terms j ≡ o → at_term None function_of_term (within_terms None function_of_term k terms) j o ≡ Some (x, cases) → Later (map (λ c. c.body) cases)
        go again None q d = absurd (cc)
        go again (Some (term.Fn others)) q d =
            let is : others ≡ cases = ap (λ (p : ℕ × List Case). p.1) (some_is (j, others) (x, cases) d) in
            subst (λ (cs : List Case). Later (map (λ c. c.body) cs)) is (all_map (λ c h. (let b = h.0 in omega (arith, b, l))) (map (λ c. c.body) others) (numbered j (term.Fn others) q))
        go again (Some (term.Same e')) q d = let b = (numbered j (term.Same e') q).0.0 in again e' (omega (arith, b, l)) d
        go again (Some (term.Int z)) q d = absurd (cc)
        go again (Some (term.Char c)) q d = absurd (cc)
        go again (Some (term.Text t)) q d = absurd (cc)
        go again (Some (term.Var y)) q d = absurd (cc)
        go again (Some (term.Constructor c)) q d = absurd (cc)
        go again (Some (term.Builtin p)) q d = absurd (cc)
        go again (Some (term.Tuple parts)) q d = absurd (cc)
        go again (Some (term.App y a)) q d = absurd (cc)
        go again (Some (term.Match y cs)) q d = absurd (cc)
        go again (Some (term.Raise y)) q d = absurd (cc)
        go again (Some (term.Handle y cs)) q d = absurd (cc)
        go again (Some (term.Let y b)) q d = absurd (cc)
        go again (Some term.Finish) q d = absurd (cc)
        go again (Some (term.Binds bs)) q d = absurd (cc)
        go again (Some (term.Group bs)) q d = absurd (cc)
        go again (Some (term.NewExn y)) q d = absurd (cc)
        go again (Some (term.SameExn y c)) q d = absurd (cc)
        go again (Some term.Nothing) q d = absurd (cc)
        go again (Some term.Gone) q d = absurd (cc)

    group_same : (bindings : List RecBinding) → Later (map (λ b. b.right) bindings) → (x : ℕ) (σ : Scope) (n : ℕ) → group_of own terms f bindings x σ n ≡ group_of own terms g bindings x σ n
    group_same [] h x σ n = refl
    group_same (b ∷ bindings) h x σ n = go (group_same bindings h.1 (suc x) σ (n + size_at terms b.right)) (function_at terms b.right) refl
      where
        go : group_of own terms f bindings (suc x) σ (n + size_at terms b.right) ≡ group_of own terms g bindings (suc x) σ (n + size_at terms b.right) → (o : Option (ℕ × List Case)) → function_at terms b.right ≡ o
            → group_function own terms f o x σ n (group_of own terms f bindings (suc x) σ (n + size_at terms b.right)) ≡ group_function own terms g o x σ n (group_of own terms g bindings (suc x) σ (n + size_at terms b.right))
        go rest None q = rest
        go rest (Some c) q = function_same x c.0 c.1 (function_behind (length terms) b.right h.0 c.0 c.1 q) σ n _ _ rest

    declared_same : (d body : ℕ) → i < d → i < body → (o : Option Term) → slice_get terms d ≡ o → (σ : Scope) (κ : Kon) (n : ℕ) → declared own terms f d body o σ κ n ≡ declared own terms g d body o σ κ n
    declared_same d body l k None q σ κ n = refl
    declared_same d body l k (Some (term.Binds binds)) q σ κ n = binds_same binds (all_map (λ c h. (let b = h.0 in omega (arith, b, l))) (map (λ b. b.right) binds) (numbered d (term.Binds binds) q)) body k σ κ n
    declared_same d body l k (Some (term.Group bindings)) q σ κ n =
        ap (λ (h : Conv). group_with own terms f bindings (scope_group own terms bindings n σ) (h (scope_group own terms bindings n σ) κ (n + size_at terms d)) n) (same body k)
        ∙ ap (λ (fs : Functions). Fix fs (g body (scope_group own terms bindings n σ) κ (n + size_at terms d)))
        (group_same bindings (all_map (λ c h. (let b = h.0 in omega (arith, b, l))) (map (λ b. b.right) bindings) (numbered d (term.Group bindings) q)) n (scope_group own terms bindings n σ) (n + length bindings))
    declared_same d body l k (Some term.Nothing) q σ κ n = ap (λ (h : Conv). h σ κ n) (same body k)
    declared_same d body l k (Some (term.NewExn x)) q σ κ n = ap (λ (h : Conv). Make n (shape.ExnName x.0) [] (h (bind σ x.0 (variable n)) κ (suc n))) (same body k)
    declared_same d body l k (Some (term.SameExn x c)) q σ κ n = ap (λ (h : Conv). h (bind σ x.0 (con_atom σ c)) κ n) (same body k)
    declared_same d body l k (Some (term.Int z)) q σ κ n = refl
    declared_same d body l k (Some (term.Char c)) q σ κ n = refl
    declared_same d body l k (Some (term.Text t)) q σ κ n = refl
    declared_same d body l k (Some (term.Var y)) q σ κ n = refl
    declared_same d body l k (Some (term.Constructor c)) q σ κ n = refl
    declared_same d body l k (Some (term.Builtin p)) q σ κ n = refl
    declared_same d body l k (Some (term.Tuple parts)) q σ κ n = refl
    declared_same d body l k (Some (term.App y a)) q σ κ n = refl
    declared_same d body l k (Some (term.Match y cs)) q σ κ n = refl
    declared_same d body l k (Some (term.Fn cs)) q σ κ n = refl
    declared_same d body l k (Some (term.Raise y)) q σ κ n = refl
    declared_same d body l k (Some (term.Handle y cs)) q σ κ n = refl
    declared_same d body l k (Some (term.Same y)) q σ κ n = refl
    declared_same d body l k (Some (term.Let y b)) q σ κ n = refl
    declared_same d body l k (Some term.Finish) q σ κ n = refl
    declared_same d body l k (Some term.Gone) q σ κ n = refl

    handled_same : (e : ℕ) (cases : List Case) → i < e → Later (map (λ c. c.body) cases) → (σ : Scope) (κ : Kon) (n : ℕ) → handled own terms f i e cases σ κ n ≡ handled own terms g i e cases σ κ n
    handled_same e cases l h σ κ n =
        ap (λ (c : Code). whole c (f e)) (match_same cases h σ κ (Throw (variable (3 + n))) (variable (3 + n)) (5 + n)) ∙ ap (λ (k : Conv). whole (match_on own terms g cases σ κ (Throw (variable (3 + n))) (variable (3 + n)) (5 + n)) k) (same e l)
      where
        whole : Code → Conv → Code
        whole c k =
            Handler n (Fix
            (Function (1 + n) (point i kind.Caught) ((3 + n) ∷ []) (SetHandler (variable n) c)
            (Function (2 + n) (point i kind.Popped) ((4 + n) ∷ []) (SetHandler (variable n) (Call (atom_of κ) (variable (4 + n) ∷ []))) NoFunction))
            (SetHandler (variable (1 + n)) (k σ (Known (variable (2 + n))) (5 + n + size_cases (size_at terms) cases))))

    behind : (t : Term) → slice_get terms i ≡ Some t → Later (term_parts t)
    behind t e = all_map (λ c h. h.0) (term_parts t) (numbered i t e)

    term_same : (t : Term) → slice_get terms i ≡ Some t → (σ : Scope) (κ : Kon) (n : ℕ) → conv_term own terms f i t σ κ n ≡ conv_term own terms g i t σ κ n
    term_same (term.Int z) e σ κ n = refl
    term_same (term.Char c) e σ κ n = refl
    term_same (term.Text t) e σ κ n = refl
    term_same (term.Var x) e σ κ n = refl
    term_same (term.Constructor c) e σ κ n = refl
    term_same (term.Builtin p) e σ κ n = refl
    term_same (term.Tuple parts) e σ κ n = tuple_same parts (behind (term.Tuple parts) e) σ κ n
    term_same (term.App x a) e σ κ n = let b = behind (term.App x a) e in applied_same (head_at terms x) x a b.0 b.1.0 σ κ n
    term_same (term.Match x cases) e σ κ n =
        let b = behind (term.Match x cases) e in
        part_same x b.0 σ _ _ (fun_ext (λ a. fun_ext (λ m. match_same cases b.1 σ κ (raise_exn exn.MatchExn) a m))) n
    term_same (term.Fn cases) e σ κ n =
        ap (λ (fs : Functions). Fix fs (apply κ (variable n) (3 + n + size_cases (size_at terms) cases))) (function_same n i cases (behind (term.Fn cases) e) σ (suc n) NoFunction NoFunction refl)
    term_same (term.Raise x) e σ κ n = part_same x (behind (term.Raise x) e).0 σ (λ a m. Throw a) (λ a m. Throw a) refl n
    term_same (term.Handle x cases) e σ κ n = let b = behind (term.Handle x cases) e in handled_same x cases b.0 b.1 σ κ n
    term_same (term.Same x) e σ κ n = ap (λ (k : Conv). k σ κ n) (same x (behind (term.Same x) e).0)
    term_same (term.Let d x) e σ κ n = let b = behind (term.Let d x) e in declared_same d x b.0 b.1.0 (slice_get terms d) refl σ κ n
    term_same term.Finish e σ κ n = refl
    term_same (term.Binds bs) e σ κ n = refl
    term_same (term.Group bs) e σ κ n = refl
    term_same (term.NewExn x) e σ κ n = refl
    term_same (term.SameExn x c) e σ κ n = refl
    term_same term.Nothing e σ κ n = refl
    term_same term.Gone e σ κ n = refl

  by_later : (f g : ℕ → Conv) (i : ℕ) (t : Term) → slice_get terms i ≡ Some t → ((c : ℕ) → i < c → f c ≡ g c) → conv_term own terms f i t ≡ conv_term own terms g i t
  by_later f g i t e same = fun_ext (λ σ. fun_ext (λ κ. fun_ext (λ n. term_same f g i same t e σ κ n)))

  pub unfolds : Unfolds own terms
  unfolds = record { here = here (no_conv own terms) (conv_term own terms) terms by_later; past = past (no_conv own terms) (conv_term own terms) terms by_later }
