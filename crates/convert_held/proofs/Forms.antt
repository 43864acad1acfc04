-- What conversion makes of the parts of terms: parts under frames, tuples, rules, functions and groups.
use Rattle.std.proofs.Common.{◌≡◌, ℕ, zero, suc, ◌+◌, ◌≤◌, Bool, true, false, cond, List, [], ◌∷◌, ◌++◌, Option, Some, None, length, refl, sym, ◌∙◌, arith}
use Rattle.std.specs.Prelude.{slice_get}
use Rattle.std.specs.List.{AllByRecursion}
use Rattle.std.specs.Option.{is_some}
use Rattle.std.proofs.lemmas.List.{length-append}
use Rattle.smlc_base.specs.declared.exception.LibraryExn.TheVariants as exn
use Rattle.smlc_base.specs.declared.point.Point.{Point}
use Rattle.smlc_base.specs.declared.point.PointKind.TheVariants as kind
use Rattle.sml_tree.specs.Points.{point}
use Rattle.sml_tree.specs.declared.bare.RecBinding.{RecBinding}
use Rattle.sml_tree.specs.Free.{names_of}
use Rattle.sml_tree.specs.Sets.{has, union, union_over, without}
use Rattle.sml_tree.proofs.Members.{either, IsWithin, within_left, within_right, within_both, within_rest, within_head, within_tail, without_parts, has-union}
use Rattle.simulation.proofs.Lists.{some_eq, length_last}
use Rattle.sml_def.specs.Step.{count_up}
use Rattle.lambda_ir.specs.declared.term.Bind.{Bind}
use Rattle.lambda_ir.specs.declared.term.Case.{Case}
use Rattle.lambda_ir.specs.declared.term.Part.{Part}
use Rattle.lambda_ir.specs.declared.term.Term.{Term}
use Rattle.lambda_ir.specs.declared.term.Term.TheVariants as term
use Rattle.lambda_ir.specs.Free.{at_term, within_terms, free_tests, bound_names, free_case, free_cases, free_parts, bound_in, free_behind, free_of_term, function_of_term, function_at}
use Rattle.cps_ir.specs.declared.atom.Atom.{Atom}
use Rattle.cps_ir.specs.declared.atom.Shape.TheVariants as shape
use Rattle.cps_ir.specs.Code.{Code, Fix, Functions, NoFunction, Function, Rules, Otherwise}
use Rattle.cps_ir.specs.Code as code
use Rattle.convert_laws.specs.Convert.{Scope, Kon, Known, Text, Conv, variable, bind_names, tests_of, rule_of, match_of, raise_exn, item_of, in_slots, part, parts_of, rules_of, match_on, function_of, binds_of, scope_group, group_function, group_of, steps_of, size_at}
use Rattle.convert_held.proofs.Lists.{front_in, back_in, both_in, none_in, head_in, tail_in, one_in, IsIn, AreIn, each_var, few_vars, each_in, in_each, last_in, image, few_image, Covers, covers_fewer, covers_more, image_covers, image_in, neither}
use Rattle.convert_held.proofs.Allows.{Awaited, Awaits, PartsAllow, CasesAllow, FunctionAllows, BindsAllow, OneAllows, GroupAllows}
use Rattle.convert_held.proofs.Fits.{Fits, FunctionsFit, RulesFit, fix_fits, none_fit, function_fits, otherwise_fits}
use Rattle.convert_held.proofs.Texts.{var_in, new_in, tests_in, bound_covers, less_covers, item_in, items_in, Reads, KonReads, made, raised, named, on_match, one_rule}

module _ (May : Point → ℕ → Type 0) (less : (p : Point) (m n : ℕ) → m ≤ n → May p n → May p m) (Allowed : ℕ → ℕ → Type 0) (own : ℕ → Bool) (terms : List Term) (free : ℕ → List ℕ) (conv : ℕ → Conv) (converts : (j : ℕ) (σ : Scope) (κ : Kon) (xs zs : List ℕ) (r n : ℕ) → Allowed j r → length xs ≤ r → KonReads May xs κ → IsWithin xs zs → Covers zs σ (free j) → Fits May zs (conv j σ κ n)) where
  pub part_fits : (j : ℕ) (σ : Scope) (rest : Atom → ℕ → Code) (xs zs : List ℕ) (r n : ℕ) → Awaits May Allowed own terms free j r → length xs ≤ r → Reads May xs rest → IsWithin xs zs → Covers zs σ (free j) → Fits May zs (part own terms conv j σ rest n)
  part_fits j σ rest xs zs r n allowed le reads f s = go (own j) allowed
    where
      body : Code
      body = rest (variable (suc n)) (2 + n + size_at terms j)

      frame : Functions
      frame = Function n (point j kind.Ret) (suc n ∷ []) body NoFunction

      inside : Code
      inside = conv j σ (Known (variable n)) (2 + n)

      go : (b : Bool) → Awaited May Allowed own terms free b j r → Fits May zs (cond b (Fix frame inside) (conv j σ (Text rest) n))
      go true h =
          fix_fits May zs frame inside
          (function_fits May (n ∷ zs) xs n (point j kind.Ret) (suc n ∷ []) body NoFunction (reads (suc n ∷ xs) (variable (suc n)) (2 + n + size_at terms j) (tail_in (suc n) xs) (new_in (suc n) xs)) (λ z e. tail_in n zs z (f z e)) (less (point j kind.Ret) (length xs) r le h.0) (none_fit May (n ∷ zs)))
          (converts j σ (Known (variable n)) (n ∷ []) (n ∷ zs) 1 (2 + n) h.1 (omega arith) (new_in n []) (one_in n (n ∷ zs) (head_in n zs)) (covers_more zs (n ∷ zs) σ (free j) (tail_in n zs) s))
      go false h = converts j σ (Text rest) xs zs r n h le reads f s

  -- ---- Tuples

  pub parts_fit : (all : List Part) (before : List Atom) (later : List Part) (σ : Scope) (κ : Kon) (xs zs : List ℕ) (k r n : ℕ) → length before ≤ k → PartsAllow May Allowed own terms free k later r → length xs ≤ r → KonReads May xs κ → IsWithin xs zs → AreIn zs before → Covers zs σ (free_parts free later) → Fits May zs (parts_of own terms conv all before later σ κ n)
  parts_fit all before [] σ κ xs zs k r n few allowed le reads f old s =
      made May shape.Tuple (in_slots all before) κ xs zs n (items_in zs (item_of all before) (count_up 0 (length all)) (λ m. item_in zs all before m old)) reads f
  parts_fit all before (q ∷ later) σ κ xs zs k r n few allowed le reads f old s =
      part_fits q.node σ rest held zs (k + length (free_parts free later) + r) n allowed.0 short
      (goes_on (λ a ws m long g old t. parts_fit all (before ++ a ∷ []) later σ κ xs ws (suc k) r m long allowed.1 le reads g old t))
      (both_in (each_var before) (image σ (free_parts free later) ++ xs) zs (in_each zs before old) (both_in (image σ (free_parts free later)) xs zs (image_in zs σ (free_parts free later) (covers_fewer zs σ (free_parts free (q ∷ later)) (free_parts free later) (within_tail (λ p. free p.node) q later) s)) f))
      (covers_fewer zs σ (free_parts free (q ∷ later)) (free q.node) (within_head (λ p. free p.node) q later) s)
    where
      rest : Atom → ℕ → Code
      rest a m = parts_of own terms conv all (before ++ a ∷ []) later σ κ m

      held : List ℕ
      held = each_var before ++ (image σ (free_parts free later) ++ xs)

      short : length held ≤ k + length (free_parts free later) + r
      short =
          let both = length-append (each_var before) (image σ (free_parts free later) ++ xs) in
          let last = length-append (image σ (free_parts free later)) xs in
          let first = few_vars before in
          let names = few_image σ (free_parts free later) in
          omega (arith, both, last, first, names, few, le)

      goes_on : ((a : Atom) (ws : List ℕ) (m : ℕ) → length (before ++ a ∷ []) ≤ suc k → IsWithin xs ws → AreIn ws (before ++ a ∷ []) → Covers ws σ (free_parts free later) → Fits May ws (rest a m)) → Reads May held rest
      goes_on again ws a m g h =
          again a ws m (let long = length_last before a in omega (arith, long, few))
          (λ z e. g z (back_in (each_var before) (image σ (free_parts free later) ++ xs) z (back_in (image σ (free_parts free later)) xs z e)))
          (last_in ws before a (each_in ws before (λ z e. g z (front_in (each_var before) (image σ (free_parts free later) ++ xs) z e))) h)
          (covers_more (image σ (free_parts free later)) ws σ (free_parts free later) (λ z e. g z (back_in (each_var before) (image σ (free_parts free later) ++ xs) z (front_in (image σ (free_parts free later)) xs z e))) (image_covers σ (free_parts free later)))

  -- ---- Rules

  rules_fit : (cases : List Case) (a : Atom) (σ : Scope) (κ : Kon) (other : Code) (xs zs : List ℕ) (r n : ℕ) → CasesAllow May Allowed own terms free cases r → length xs ≤ r → KonReads May xs κ → IsWithin xs zs → IsIn zs a → Covers zs σ (free_cases free cases) → Fits May zs other → RulesFit May zs (rules_of own terms conv cases a σ κ other n)
  rules_fit [] a σ κ other xs zs r n allowed le reads f h s o = otherwise_fits May zs other o
  rules_fit (c ∷ cases) a σ κ other xs zs r n allowed le reads f h s o =
      one_rule May zs (tests_of σ c.tests) (bind_names c.names a σ (λ τ m. conv c.body τ κ m) n) (rules_of own terms conv cases a σ κ other (n + (steps_of c.names + size_at terms c.body)))
      (tests_in zs σ c.tests (λ x e. first x (within_left (free_tests c.tests) (without (free c.body) (bound_names c.names)) x e)))
      (named May c.names a σ (λ τ m. conv c.body τ κ m) n zs (free c.body) h (λ x e. first x (within_right (free_tests c.tests) (without (free c.body) (bound_names c.names)) x e)) (λ ws τ m g t. converts c.body τ κ xs ws r m allowed.0 le reads (λ z e. g z (f z e)) t))
      (rules_fit cases a σ κ other xs zs r (n + (steps_of c.names + size_at terms c.body)) allowed.1 le reads f h (covers_fewer zs σ (free_cases free (c ∷ cases)) (free_cases free cases) (within_tail (free_case free) c cases) s) o)
    where
      first : Covers zs σ (free_case free c)
      first =
          covers_fewer zs σ (free_cases free (c ∷ cases)) (free_case free c) (within_head (free_case free) c cases) s

  pub match_fits : (cases : List Case) (σ : Scope) (κ : Kon) (other : Code) (a : Atom) (xs zs : List ℕ) (r n : ℕ) → CasesAllow May Allowed own terms free cases r → length xs ≤ r → KonReads May xs κ → IsWithin xs zs → IsIn zs a → Covers zs σ (free_cases free cases) → Fits May zs other → Fits May zs (match_on own terms conv cases σ κ other a n)
  match_fits cases σ κ other a xs zs r n allowed le reads f h s o =
      on_match May zs a (rules_of own terms conv cases a σ κ other n) h (rules_fit cases a σ κ other xs zs r n allowed le reads f h s o)

  -- ---- Functions

  pub closure_fits : (f i : ℕ) (cases : List Case) (σ : Scope) (n : ℕ) (fs : Functions) (zs : List ℕ) → FunctionAllows May Allowed own terms free i cases → Covers zs σ (free_cases free cases) → FunctionsFit May zs fs → FunctionsFit May zs (function_of own terms conv f i cases σ n fs)
  closure_fits f i cases σ n fs zs allowed s h =
      function_fits May zs held f (point i kind.Fn) (n ∷ suc n ∷ []) body fs
      (match_fits cases σ (Known (variable (suc n))) (raise_exn exn.MatchExn) (variable n) (suc n ∷ []) inner 1 (2 + n) allowed.1 (omega arith) (new_in (suc n) []) (one_in (suc n) inner (tail_in n (suc n ∷ held) (suc n) (head_in (suc n) held))) (new_in n (suc n ∷ held))
      (covers_more held inner σ (free_cases free cases) (λ z e. tail_in n (suc n ∷ held) z (tail_in (suc n) held z e)) (image_covers σ (free_cases free cases)))
      (raised May exn.MatchExn inner))
      (image_in zs σ (free_cases free cases) s) (less (point i kind.Fn) (length held) (length (free_cases free cases)) (few_image σ (free_cases free cases)) allowed.0) h
    where
      held : List ℕ
      held = image σ (free_cases free cases)

      inner : List ℕ
      inner = n ∷ suc n ∷ held

      body : Code
      body =
          match_on own terms conv cases σ (Known (variable (suc n))) (raise_exn exn.MatchExn) (variable n) (2 + n)

  -- ---- Declarations

  -- what a value declaration reads, with its body
  abbrev pub needed : List Bind → ℕ → List ℕ
  needed binds body =
      union (union_over (λ b. union (free_tests b.tests) (free b.right)) binds) (without (free body) (bound_in binds))

  right_needed : (b : Bind) (later : List Bind) (body : ℕ) → IsWithin (free b.right) (needed (b ∷ later) body)
  right_needed b later body x e =
      within_left (union_over (λ c. union (free_tests c.tests) (free c.right)) (b ∷ later)) (without (free body) (bound_in (b ∷ later))) x
      (within_head (λ c. union (free_tests c.tests) (free c.right)) b later x (within_right (free_tests b.tests) (free b.right) x e))

  tests_later : (bs : List Bind) → IsWithin (union_over (λ c. free_tests c.tests) bs) (union_over (λ c. union (free_tests c.tests) (free c.right)) bs)
  tests_later [] x e = e
  tests_later (b ∷ bs) x e = within_both (free_tests b.tests) (union_over (λ c. free_tests c.tests) bs) (union_over (λ c. union (free_tests c.tests) (free c.right)) (b ∷ bs))
      (λ y d. within_head (λ c. union (free_tests c.tests) (free c.right)) b bs y (within_left (free_tests b.tests) (free b.right) y d))
      (λ y d. within_tail (λ c. union (free_tests c.tests) (free c.right)) b bs y (tests_later bs y d)) x e

  rights_later : (bs : List Bind) → IsWithin (union_over (λ c. free c.right) bs) (union_over (λ c. union (free_tests c.tests) (free c.right)) bs)
  rights_later [] x e = e
  rights_later (b ∷ bs) x e = within_both (free b.right) (union_over (λ c. free c.right) bs) (union_over (λ c. union (free_tests c.tests) (free c.right)) (b ∷ bs))
      (λ y d. within_head (λ c. union (free_tests c.tests) (free c.right)) b bs y (within_right (free_tests b.tests) (free b.right) y d))
      (λ y d. within_tail (λ c. union (free_tests c.tests) (free c.right)) b bs y (rights_later bs y d)) x e

  -- what is behind a right side is needed
  behind_needed : (b : Bind) (later : List Bind) (body : ℕ) → IsWithin (free_behind free b later body) (needed (b ∷ later) body)
  behind_needed b later body =
      within_both (union_over (λ c. free_tests c.tests) (b ∷ later)) (union (union_over (λ c. free c.right) later) left) (needed (b ∷ later) body)
      (λ x e. within_left both left x (tests_later (b ∷ later) x e))
      (within_both (union_over (λ c. free c.right) later) left (needed (b ∷ later) body)
      (λ x e. within_left both left x (within_tail (λ c. union (free_tests c.tests) (free c.right)) b later x (rights_later later x e)))
      (within_right both left))
    where
      both : List ℕ
      both = union_over (λ c. union (free_tests c.tests) (free c.right)) (b ∷ later)

      left : List ℕ
      left = without (free body) (bound_in (b ∷ later))

  each_behind : (bs : List Bind) (zs : List ℕ) → IsWithin (union_over (λ c. free_tests c.tests) bs) zs → IsWithin (union_over (λ c. free c.right) bs) zs → IsWithin (union_over (λ c. union (free_tests c.tests) (free c.right)) bs) zs
  each_behind [] zs f g = none_in zs
  each_behind (b ∷ bs) zs f g =
      within_both (union (free_tests b.tests) (free b.right)) (union_over (λ c. union (free_tests c.tests) (free c.right)) bs) zs
      (within_both (free_tests b.tests) (free b.right) zs (λ x e. f x (within_head (λ c. free_tests c.tests) b bs x e)) (λ x e. g x (within_head (λ c. free c.right) b bs x e)))
      (each_behind bs zs (λ x e. f x (within_tail (λ c. free_tests c.tests) b bs x e)) (λ x e. g x (within_tail (λ c. free c.right) b bs x e)))

  -- what the later bindings need and the first doesn't bind is behind the first
  later_behind : (b : Bind) (later : List Bind) (body : ℕ) → IsWithin (without (needed later body) (bound_names b.names)) (free_behind free b later body)
  later_behind b later body x e =
      either (has again x) (has (without (free body) (bound_in later)) x) (has (free_behind free b later body) x ≡ true) (sym (has-union again (without (free body) (bound_in later)) x) ∙ parts.0)
      (each_behind later (free_behind free b later body) (λ z d. within_left tests others z (within_tail (λ c. free_tests c.tests) b later z d)) (λ z d. within_right tests others z (within_left rights left z d)) x)
      (λ d. let inner = without_parts (free body) (bound_in later) x d in
      within_right tests others x (within_right rights left x (within_rest (free body) (bound_in (b ∷ later)) x inner.0 (has-union (bound_names b.names) (bound_in later) x ∙ neither (has (bound_names b.names) x) (has (bound_in later) x) parts.1 inner.1))))
    where
      again : List ℕ
      again = union_over (λ c. union (free_tests c.tests) (free c.right)) later

      tests : List ℕ
      tests = union_over (λ c. free_tests c.tests) (b ∷ later)

      rights : List ℕ
      rights = union_over (λ c. free c.right) later

      left : List ℕ
      left = without (free body) (bound_in (b ∷ later))

      others : List ℕ
      others = union rights left

      parts : (has (needed later body) x ≡ true) × (has (bound_names b.names) x ≡ false)
      parts = without_parts (needed later body) (bound_names b.names) x e

  pub binds_fit : (binds : List Bind) (body : ℕ) (σ : Scope) (κ : Kon) (xs zs : List ℕ) (r n : ℕ) → BindsAllow May Allowed own terms free binds body r → length xs ≤ r → KonReads May xs κ → IsWithin xs zs → Covers zs σ (needed binds body) → Fits May zs (binds_of own terms conv binds body σ κ n)
  binds_fit [] body σ κ xs zs r n allowed le reads f s =
      converts body σ κ xs zs r n allowed le reads f (λ x e. s x (within_rest (free body) [] x e refl))
  binds_fit (b ∷ later) body σ κ xs zs r n allowed le reads f s =
      part_fits b.right σ rest held zs (length behind + r) n allowed.0 short
      (goes_on (λ τ us l u t. binds_fit later body τ κ xs us r l allowed.1 le reads u t))
      (both_in (image σ behind) xs zs (image_in zs σ behind (covers_fewer zs σ (needed (b ∷ later) body) behind (behind_needed b later body) s)) f)
      (covers_fewer zs σ (needed (b ∷ later) body) (free b.right) (right_needed b later body) s)
    where
      behind : List ℕ
      behind = free_behind free b later body

      held : List ℕ
      held = image σ behind ++ xs

      inside : Atom → ℕ → Code
      inside a m = bind_names b.names a σ (λ τ l. binds_of own terms conv later body τ κ l) m

      rest : Atom → ℕ → Code
      rest a m = match_of a (rule_of (tests_of σ b.tests) (inside a m) (Otherwise (raise_exn exn.BindExn)))

      short : length held ≤ length behind + r
      short =
          let both = length-append (image σ behind) xs in let names = few_image σ behind in omega (arith, both, names, le)

      goes_on : ((τ : Scope) (us : List ℕ) (l : ℕ) → IsWithin xs us → Covers us τ (needed later body) → Fits May us (binds_of own terms conv later body τ κ l)) → Reads May held rest
      goes_on again ws a m g h =
          on_match May ws a (rule_of (tests_of σ b.tests) (inside a m) (Otherwise (raise_exn exn.BindExn))) h
          (one_rule May ws (tests_of σ b.tests) (inside a m) (Otherwise (raise_exn exn.BindExn))
          (tests_in ws σ b.tests (λ x e. covered x (within_left (union_over (λ c. free_tests c.tests) (b ∷ later)) (union (union_over (λ c. free c.right) later) (without (free body) (bound_in (b ∷ later)))) x (within_head (λ c. free_tests c.tests) b later x e))))
          (named May b.names a σ (λ τ l. binds_of own terms conv later body τ κ l) m ws (needed later body) h (covers_fewer ws σ behind (without (needed later body) (bound_names b.names)) (later_behind b later body) covered)
          (λ us τ l u t. again τ us l (λ z e. u z (g z (back_in (image σ behind) xs z e))) t))
          (otherwise_fits May ws (raise_exn exn.BindExn) (raised May exn.BindExn ws)))
        where
          covered : Covers ws σ behind
          covered = covers_more (image σ behind) ws σ behind (λ z e. g z (front_in (image σ behind) xs z e)) (image_covers σ behind)

  -- ---- Groups

  abbrev pub ArePresent : List RecBinding → Type 0
  ArePresent bindings = AllByRecursion (λ b. is_some (function_at terms b.right) ≡ true) bindings

  -- the names of a group are covered by the names of its functions
  pub group_covers : (bindings : List RecBinding) (f : ℕ) (σ τ : Scope) (n : ℕ) (zs xs : List ℕ) → ArePresent bindings → IsWithin (code.names_of (group_of own terms conv bindings f τ n)) zs → Covers zs σ (without xs (names_of bindings)) → Covers zs (scope_group own terms bindings f σ) xs
  group_covers [] f σ τ n zs xs k v s = λ x e. s x (within_rest xs [] x e refl)
  group_covers (b ∷ bindings) f σ τ n zs xs k v s =
      go (function_at terms b.right) k.0 v
      (λ w. group_covers bindings (suc f) σ τ (n + size_at terms b.right) zs (without xs (b.name.0 ∷ [])) k.1 w (less_covers zs σ xs (b.name.0 ∷ []) (names_of bindings) s))
    where
      later : Functions
      later = group_of own terms conv bindings (suc f) τ (n + size_at terms b.right)

      go : (o : Option (ℕ × List Case)) → is_some o ≡ true → IsWithin (code.names_of (group_function own terms conv o f τ n later)) zs → (IsWithin (code.names_of later) zs → Covers zs (scope_group own terms bindings (suc f) σ) (without xs (b.name.0 ∷ []))) → Covers zs (scope_group own terms (b ∷ bindings) f σ) xs
      go None e w again = absurd cc
      go (Some c) e w again =
          bound_covers zs (scope_group own terms bindings (suc f) σ) b.name.0 (variable f) xs (var_in f zs (w f (head_in f (code.names_of later)))) (again (λ z d. w z (tail_in f (code.names_of later) z d)))

  -- a term has the free variables of its function
  module _ (covers : (i : ℕ) (t : Term) → slice_get terms i ≡ Some t → IsWithin (free_of_term terms free i t) (free i)) where
    function_free : (k i : ℕ) (c : ℕ × List Case) → within_terms None function_of_term k terms i ≡ Some c → IsWithin (free_cases free c.1) (free i)
    function_free zero i c e = absurd cc
    function_free (suc k) i c e = go (slice_get terms i) refl e (λ j h. function_free k j c h)
      where
        part_of : ℕ → Option (ℕ × List Case)
        part_of = within_terms None function_of_term k terms

        go : (o : Option Term) → slice_get terms i ≡ o → at_term None function_of_term part_of i o ≡ Some c → ((j : ℕ) → part_of j ≡ Some c → IsWithin (free_cases free c.1) (free j)) → IsWithin (free_cases free c.1) (free i)
        go None here f again = absurd cc
        go (Some (term.Fn cases)) here f again =
            some_eq (λ d. IsWithin (free_cases free d.1) (free i)) (i, cases) c f (covers i (term.Fn cases) here)
        go (Some (term.Same j)) here f again = λ x d. covers i (term.Same j) here x (again j f x d)
        go (Some (term.Int z)) here f again = absurd cc
        go (Some (term.Char x)) here f again = absurd cc
        go (Some (term.Text x)) here f again = absurd cc
        go (Some (term.Var x)) here f again = absurd cc
        go (Some (term.Constructor x)) here f again = absurd cc
        go (Some (term.Builtin x)) here f again = absurd cc
        go (Some (term.Tuple x)) here f again = absurd cc
        go (Some (term.App x y)) here f again = absurd cc
        go (Some (term.Match x y)) here f again = absurd cc
        go (Some (term.Raise x)) here f again = absurd cc
        go (Some (term.Handle x y)) here f again = absurd cc
        go (Some (term.Let x y)) here f again = absurd cc
        go (Some term.Finish) here f again = absurd cc
        go (Some (term.Binds x)) here f again = absurd cc
        go (Some (term.Group x)) here f again = absurd cc
        go (Some (term.NewExn x)) here f again = absurd cc
        go (Some (term.SameExn x y)) here f again = absurd cc
        go (Some term.Nothing) here f again = absurd cc
        go (Some term.Gone) here f again = absurd cc

    pub group_fits : (bindings : List RecBinding) (f : ℕ) (τ : Scope) (n : ℕ) (zs : List ℕ) → GroupAllows May Allowed own terms free bindings → Covers zs τ (union_over (λ b. free b.right) bindings) → FunctionsFit May zs (group_of own terms conv bindings f τ n)
    group_fits [] f τ n zs allowed s = none_fit May zs
    group_fits (b ∷ bindings) f τ n zs allowed s =
        go (function_at terms b.right) refl allowed.0 (group_fits bindings (suc f) τ (n + size_at terms b.right) zs allowed.1 (covers_fewer zs τ (union_over (λ c. free c.right) (b ∷ bindings)) (union_over (λ c. free c.right) bindings) (within_tail (λ c. free c.right) b bindings) s))
      where
        later : Functions
        later = group_of own terms conv bindings (suc f) τ (n + size_at terms b.right)

        go : (o : Option (ℕ × List Case)) → function_at terms b.right ≡ o → OneAllows May Allowed own terms free o → FunctionsFit May zs later → FunctionsFit May zs (group_function own terms conv o f τ n later)
        go None e a h = h
        go (Some c) e a h =
            closure_fits f c.0 c.1 τ n later zs a (λ x d. s x (within_head (λ c. free c.right) b bindings x (function_free (length terms) b.right c e x d))) h
