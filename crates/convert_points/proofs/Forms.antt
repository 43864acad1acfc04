-- The points that conversion makes of a term, form by form.
use Rattle.std.proofs.Common.{◌≡◌, ℕ, zero, suc, ◌+◌, ◌≤◌, Bool, true, false, cond, List, [], ◌∷◌, ◌++◌, Option, Some, None, length, refl, sym, ◌∙◌, arith}
use Rattle.std.specs.Prelude.{slice_get, nat_eq}
use Rattle.smlc_base.specs.declared.exception.LibraryExn.TheVariants as exn
use Rattle.smlc_base.specs.declared.match_tests.Named.{Named}
use Rattle.smlc_base.specs.declared.match_tests.Test.{Test as LambdaTest}
use Rattle.smlc_base.specs.declared.point.Point.{Point}
use Rattle.smlc_base.specs.declared.point.PointKind.TheVariants as kind
use Rattle.smlc_base.specs.declared.primitive.Primitive.{Primitive}
use Rattle.smlc_base.specs.declared.primitive.Primitive.TheVariants as prim
use Rattle.sml_tree.specs.Points.{point}
use Rattle.sml_tree.specs.declared.bare.Con.{Con}
use Rattle.sml_tree.specs.declared.bare.Con.TheVariants as con
use Rattle.sml_tree.specs.declared.bare.RecBinding.{RecBinding}
use Rattle.prim_meaning.specs.Meaning.{takes_one}
use Rattle.lambda_ir.specs.declared.term.Bind.{Bind}
use Rattle.lambda_ir.specs.declared.term.Case.{Case}
use Rattle.lambda_ir.specs.declared.term.Part.{Part}
use Rattle.lambda_ir.specs.declared.term.Term.{Term}
use Rattle.lambda_ir.specs.declared.term.Term.TheVariants as term
use Rattle.simulation.proofs.Lists.{some_eq}
use Rattle.lambda_ir.specs.Free.{at_term, within_terms, function_of_term, function_at}
use Rattle.cps_ir.specs.declared.atom.Atom.{Atom}
use Rattle.cps_ir.specs.declared.atom.Test.{Test}
use Rattle.cps_ir.specs.Code.{Code, Pick, Prim, Fix, Call, Throw, Functions, NoFunction, Function, Rules, Otherwise, Rule}
use Rattle.cps_ir.specs.State.{bind}
use Rattle.convert_laws.specs.Convert.{Scope, Kon, Known, Text, Conv, Way, variable, apply, picks, bind_each, bind_names, tests_of, rule_of, match_of, raise_exn, with_fields, fields_taken, primitive, builtin, constructor, part, parts_of, rules_of, match_on, function_of, binds_of, group_function, group_of, handled, steps_of, size_at, size_cases}
use Rattle.convert_laws.specs.Fit.{IsNeedyIn}
use Rattle.convert_laws.specs.Needs.{live, live_from}
use Rattle.convert_points.specs.Made.{one, count, count_functions, count_rules, awaited, in_parts, in_cases, in_binds, in_group, ArePaid}

-- a continuation that is wanted as an atom is one
abbrev pub Safe : Bool → Kon → Type 0
Safe b (Known a) = Unit {0}
Safe b (Text g) = b ≡ false

refuted : (b : Bool) → (b ≡ true → false ≡ true) → b ≡ false
refuted true h = sym (h refl)
refuted false h = refl

pub not_needy : (b c : Bool) → (b ≡ true → c ≡ true) → c ≡ false → b ≡ false
not_needy b c h e = refuted b (λ f. sym e ∙ h f)

-- what is safe where a term is, is so in its tail position
pub safe_in : (b c : Bool) (κ : Kon) → (b ≡ true → c ≡ true) → Safe c κ → Safe b κ
safe_in b c (Known a) h s = tt
safe_in b c (Text g) h s = not_needy b c h s

pub no_more : (x r : ℕ) → x ≤ r → x ≤ 0 + r
no_more x r h = omega (arith, h)

module _ (p : Point) where
  -- text that makes the point r times at most
  abbrev pub Makes : (Atom → ℕ → Code) → ℕ → Type 0
  Makes g r = (a : Atom) (m : ℕ) → count p (g a m) ≤ r

  abbrev pub KonMakes : Kon → ℕ → Type 0
  KonMakes (Known a) r = Unit {0}
  KonMakes (Text g) r = Makes g r

  pub applied : (κ : Kon) (r : ℕ) → KonMakes κ r → Makes (apply κ) r
  applied (Known k) r h a m = omega arith
  applied (Text g) r h a m = h a m

  -- ---- Names

  pub picked : (gone : Way) (path : List ℕ) (a : Atom) (rest : Way → Atom → ℕ → Code) (r n : ℕ) → ((w : Way) → Makes (rest w) r) → count p (picks gone path a rest n) ≤ r
  picked gone [] a rest r n h = h [] a n
  picked [] (i ∷ path) a rest r n h = picked [] path (variable n) (λ w b m. rest ((i, variable n) ∷ w) b m) r (suc n) (λ w b m. h ((i, variable n) ∷ w) b m)
  picked (g ∷ gone) (i ∷ path) a rest r n h =
      go (nat_eq i g.0) (picked gone path g.1 (λ w c m. rest (g ∷ w) c m) r n (λ w c m. h (g ∷ w) c m)) (picked [] path (variable n) (λ w b m. rest ((i, variable n) ∷ w) b m) r (suc n) (λ w b m. h ((i, variable n) ∷ w) b m))
    where
      along : Code
      along = picks gone path g.1 (λ w c m. rest (g ∷ w) c m) n

      anew : Code
      anew = Pick n i a (picks [] path (variable n) (λ w c m. rest ((i, variable n) ∷ w) c m) (suc n))

      go : (b : Bool) → count p along ≤ r → count p anew ≤ r → count p (cond b along anew) ≤ r
      go true x y = x
      go false x y = y

  named_each : (gone : Way) (names : List Named) (a : Atom) (σ : Scope) (rest : Scope → ℕ → Code) (r n : ℕ) → ((τ : Scope) (m : ℕ) → count p (rest τ m) ≤ r) → count p (bind_each gone names a σ rest n) ≤ r
  named_each gone [] a σ rest r n h = h σ n
  named_each gone (x ∷ names) a σ rest r n h =
      picked gone x.path a (λ w b m. bind_each w names a σ (λ τ l. rest (bind τ x.name.0 b) l) m) r n (λ w b m. named_each w names a σ (λ τ l. rest (bind τ x.name.0 b) l) r m (λ τ l. h (bind τ x.name.0 b) l))

  pub named : (names : List Named) (a : Atom) (σ : Scope) (rest : Scope → ℕ → Code) (r n : ℕ) → ((τ : Scope) (m : ℕ) → count p (rest τ m) ≤ r) → count p (bind_names names a σ rest n) ≤ r
  named names a σ rest r n h = named_each [] names a σ rest r n h

  -- ---- Rules

  pub on_match : (a : Atom) (rules : Rules) (r : ℕ) → count_rules p rules ≤ r → count p (match_of a rules) ≤ r
  on_match a (Otherwise c) r h = h
  on_match a (Rule tests c rules) r h = h

  rule_makes : (ts : List Test) (c : Code) (rules : Rules) (r s : ℕ) → count p c ≤ r → count_rules p rules ≤ s → count_rules p (rule_of ts c rules) ≤ r + s
  rule_makes [] c rules r s h g = omega (arith, h)
  rule_makes (t ∷ ts) c rules r s h g = omega (arith, h, g)

  -- ---- Primitives and constructors

  with_fields_make : (k i : ℕ) (a : Atom) (rest : List Atom → ℕ → Code) (r n : ℕ) → ((fs : List Atom) (m : ℕ) → count p (rest fs m) ≤ r) → count p (with_fields k i a rest n) ≤ r
  with_fields_make zero i a rest r n h = h [] n
  with_fields_make (suc k) i a rest r n h =
      with_fields_make k (suc i) a (λ fs m. rest (variable n ∷ fs) m) r (suc n) (λ fs m. h (variable n ∷ fs) m)

  prim_made : (f : Primitive) (κ : Kon) (r : ℕ) → KonMakes κ r → (atoms : List Atom) (n : ℕ) → count p (Prim n f atoms (apply κ (variable n) (suc n))) ≤ r
  prim_made f κ r h atoms n = applied κ r h (variable n) (suc n)

  primitive_makes : (f : Primitive) (κ : Kon) (r : ℕ) → KonMakes κ r → (atoms : List Atom) (n : ℕ) → count p (primitive f κ atoms n) ≤ r
  primitive_makes prim.Equal κ r h [] n = prim_made prim.Equal κ r h [] n
  primitive_makes prim.Equal κ r h (a ∷ []) n = prim_made prim.Equal κ r h (a ∷ []) n
  primitive_makes prim.Equal κ r h (a ∷ b ∷ []) n = omega arith
  primitive_makes prim.Equal κ r h (a ∷ b ∷ c ∷ atoms) n = prim_made prim.Equal κ r h (a ∷ b ∷ c ∷ atoms) n
  primitive_makes prim.Unequal κ r h [] n = prim_made prim.Unequal κ r h [] n
  primitive_makes prim.Unequal κ r h (a ∷ []) n = prim_made prim.Unequal κ r h (a ∷ []) n
  primitive_makes prim.Unequal κ r h (a ∷ b ∷ []) n = omega arith
  primitive_makes prim.Unequal κ r h (a ∷ b ∷ c ∷ atoms) n = prim_made prim.Unequal κ r h (a ∷ b ∷ c ∷ atoms) n
  primitive_makes prim.Plus κ r h atoms n = prim_made prim.Plus κ r h atoms n
  primitive_makes prim.Minus κ r h atoms n = prim_made prim.Minus κ r h atoms n
  primitive_makes prim.Times κ r h atoms n = prim_made prim.Times κ r h atoms n
  primitive_makes prim.Quotient κ r h atoms n = prim_made prim.Quotient κ r h atoms n
  primitive_makes prim.Modulo κ r h atoms n = prim_made prim.Modulo κ r h atoms n
  primitive_makes prim.Negate κ r h atoms n = prim_made prim.Negate κ r h atoms n
  primitive_makes prim.Abs κ r h atoms n = prim_made prim.Abs κ r h atoms n
  primitive_makes prim.Less κ r h atoms n = prim_made prim.Less κ r h atoms n
  primitive_makes prim.Greater κ r h atoms n = prim_made prim.Greater κ r h atoms n
  primitive_makes prim.AtMost κ r h atoms n = prim_made prim.AtMost κ r h atoms n
  primitive_makes prim.AtLeast κ r h atoms n = prim_made prim.AtLeast κ r h atoms n
  primitive_makes prim.Deref κ r h atoms n = prim_made prim.Deref κ r h atoms n
  primitive_makes prim.Assign κ r h atoms n = prim_made prim.Assign κ r h atoms n
  primitive_makes prim.Ord κ r h atoms n = prim_made prim.Ord κ r h atoms n
  primitive_makes prim.Chr κ r h atoms n = prim_made prim.Chr κ r h atoms n
  primitive_makes prim.Concat κ r h atoms n = prim_made prim.Concat κ r h atoms n
  primitive_makes prim.Size κ r h atoms n = prim_made prim.Size κ r h atoms n
  primitive_makes prim.Str κ r h atoms n = prim_made prim.Str κ r h atoms n
  primitive_makes prim.Implode κ r h atoms n = prim_made prim.Implode κ r h atoms n
  primitive_makes prim.Sub κ r h atoms n = prim_made prim.Sub κ r h atoms n
  primitive_makes prim.Substring κ r h atoms n = prim_made prim.Substring κ r h atoms n
  primitive_makes prim.Compare κ r h atoms n = prim_made prim.Compare κ r h atoms n
  primitive_makes prim.Print κ r h atoms n = prim_made prim.Print κ r h atoms n
  primitive_makes prim.InputLine κ r h atoms n = prim_made prim.InputLine κ r h atoms n
  primitive_makes prim.StdIn κ r h atoms n = prim_made prim.StdIn κ r h atoms n

  pub builtin_makes : (f : Primitive) (κ : Kon) (r : ℕ) → KonMakes κ r → Makes (builtin f κ) r
  builtin_makes f κ r h a n = go (takes_one f)
    where
      go : (b : Bool) → count p (cond b (primitive f κ (a ∷ []) n) (with_fields (fields_taken f) 0 a (primitive f κ) n)) ≤ r
      go true = primitive_makes f κ r h (a ∷ []) n
      go false = with_fields_make (fields_taken f) 0 a (primitive f κ) r n (λ fs m. primitive_makes f κ r h fs m)

  pub constructor_makes : (σ : Scope) (c : Con) (κ : Kon) (r : ℕ) → KonMakes κ r → Makes (constructor σ c κ) r
  constructor_makes σ (con.Data t number takes) κ r h a n = applied κ r h (variable n) (suc n)
  constructor_makes σ con.Ref κ r h a n = applied κ r h (variable n) (suc n)
  constructor_makes σ (con.Exn x takes) κ r h a n = applied κ r h (variable n) (suc n)
  constructor_makes σ (con.Library e) κ r h a n = applied κ r h (variable n) (suc n)

  -- ---- Parts and rules

  module _ (own : ℕ → Bool) (terms : List Term) (paid : ℕ → ℕ) (needy : ℕ → Bool) (owned : (j : ℕ) → needy j ≡ true → own j ≡ true) (conv : ℕ → Conv) (converts : (j : ℕ) (σ : Scope) (κ : Kon) (r n : ℕ) → KonMakes κ r → Safe (needy j) κ → count p (conv j σ κ n) ≤ paid j + r) where
    pub part_makes : (j : ℕ) (σ : Scope) (rest : Atom → ℕ → Code) (r n : ℕ) → Makes rest r → count p (part own terms conv j σ rest n) ≤ awaited p paid j + r
    part_makes j σ rest r n h = go (own j) refl
      where
        body : Code
        body = rest (variable (suc n)) (2 + n + size_at terms j)

        inside : Code
        inside = conv j σ (Known (variable n)) (2 + n)

        go : (b : Bool) → own j ≡ b → count p (cond b (Fix (Function n (point j kind.Ret) (suc n ∷ []) body NoFunction) inside) (conv j σ (Text rest) n)) ≤ one p (point j kind.Ret) + paid j + r
        go true e =
            let in_body : count p body ≤ r = h (variable (suc n)) (2 + n + size_at terms j) in
            let within : count p inside ≤ paid j + 0 = converts j σ (Known (variable n)) 0 (2 + n) tt tt in
            omega (arith, in_body, within)
        go false e =
            let all : count p (conv j σ (Text rest) n) ≤ paid j + r = converts j σ (Text rest) r n h (not_needy (needy j) (own j) (owned j) e) in
            omega (arith, all)

    pub parts_make : (all : List Part) (before : List Atom) (later : List Part) (σ : Scope) (κ : Kon) (r n : ℕ) → KonMakes κ r → count p (parts_of own terms conv all before later σ κ n) ≤ in_parts p paid later + r
    parts_make all before [] σ κ r n h = no_more _ r (applied κ r h (variable n) (suc n))
    parts_make all before (q ∷ later) σ κ r n h =
        let both : count p (parts_of own terms conv all before (q ∷ later) σ κ n) ≤ awaited p paid q.node + (in_parts p paid later + r) = part_makes q.node σ (λ a m. parts_of own terms conv all (before ++ a ∷ []) later σ κ m) (in_parts p paid later + r) n (λ a m. parts_make all (before ++ a ∷ []) later σ κ r m h) in
        omega (arith, both)

    rule_body : (c : Case) (a : Atom) (σ : Scope) (κ : Kon) (r n : ℕ) → KonMakes κ r → Safe (needy c.body) κ → count p (bind_names c.names a σ (λ τ m. conv c.body τ κ m) n) ≤ paid c.body + r
    rule_body c a σ κ r n h s =
        named c.names a σ (λ τ m. conv c.body τ κ m) (paid c.body + r) n (λ τ m. converts c.body τ κ r m h s)

    -- where the continuation is a function, each rule may go on with it
    rules_known : (cases : List Case) (a : Atom) (σ : Scope) (k : Atom) (other : Code) (n : ℕ) → count p other ≡ 0 → count_rules p (rules_of own terms conv cases a σ (Known k) other n) ≤ in_cases p paid cases
    rules_known [] a σ k other n e = omega (arith, e)
    rules_known (c ∷ cases) a σ k other n e =
        let first : count p (bind_names c.names a σ (λ τ m. conv c.body τ (Known k) m) n) ≤ paid c.body + 0 = rule_body c a σ (Known k) 0 n tt tt in
        rule_makes (tests_of σ c.tests) _ _ (paid c.body) (in_cases p paid cases) (omega (arith, first)) (rules_known cases a σ k other (n + (steps_of c.names + size_at terms c.body)) e)

    -- text stands in the one rule that can be chosen
    rules_text : (cases : List Case) (a : Atom) (σ : Scope) (g : Atom → ℕ → Code) (r : ℕ) (other : Code) (n : ℕ) (b : Bool) → Makes g r → count p other ≡ 0 → b ≡ false → ((i : ℕ) → needy i ≡ b → IsNeedyIn needy (live cases) i) → (i : ℕ) → needy i ≡ b → count_rules p (rules_of own terms conv cases a σ (Text g) other n) ≤ in_cases p paid cases + r
    rules_text [] a σ g r other n b h e f fit i at = omega (arith, e)
    rules_text (c ∷ cases) a σ g r other n b h e f fit i at = by_tests c.tests cases (fit i at)
      where
        text : Code
        text = bind_names c.names a σ (λ τ m. conv c.body τ (Text g) m) n

        behind : List Case → Rules
        behind ds = rules_of own terms conv ds a σ (Text g) other (n + (steps_of c.names + size_at terms c.body))

        one_rule : (needy c.body ≡ true → needy i ≡ true) → count p text ≤ paid c.body + r
        one_rule needs = rule_body c a σ (Text g) r n h (not_needy (needy c.body) (needy i) needs (at ∙ f))

        later : (t : LambdaTest) (ts us : List LambdaTest) (d : Case) (ds : List Case) → IsNeedyIn needy (c ∷ live_from us d (live ds)) i → count_rules p (rule_of (tests_of σ (t ∷ ts)) text (behind (d ∷ ds))) ≤ (paid c.body + in_cases p paid (d ∷ ds)) + r
        later t ts [] d ds two = let clash : true ≡ false = sym two ∙ at ∙ f in absurd cc
        later t ts (u ∷ us) d ds two = let clash : true ≡ false = sym two ∙ at ∙ f in absurd cc

        by_tests : (tests : List LambdaTest) (ds : List Case) → IsNeedyIn needy (live_from tests c (live ds)) i → count_rules p (rule_of (tests_of σ tests) text (behind ds)) ≤ (paid c.body + in_cases p paid ds) + r
        by_tests [] ds needs = let all = one_rule needs in omega (arith, all)
        by_tests (t ∷ ts) [] needs = let all = one_rule needs in omega (arith, all, e)
        by_tests (t ∷ ts) (d ∷ ds) needs = later t ts d.tests d ds needs

    pub match_makes : (i : ℕ) (cases : List Case) (σ : Scope) (κ : Kon) (r : ℕ) (other : Code) (a : Atom) (n : ℕ) → KonMakes κ r → Safe (needy i) κ → count p other ≡ 0 → IsNeedyIn needy (live cases) i → count p (match_on own terms conv cases σ κ other a n) ≤ in_cases p paid cases + r
    match_makes i cases σ (Known k) r other a n h s e fit =
        let all = rules_known cases a σ k other n e in
        on_match a (rules_of own terms conv cases a σ (Known k) other n) (in_cases p paid cases + r) (omega (arith, all))
    match_makes i cases σ (Text g) r other a n h s e fit =
        on_match a (rules_of own terms conv cases a σ (Text g) other n) (in_cases p paid cases + r) (rules_text cases a σ g r other n (needy i) h e s again i refl)
      where
        again : (j : ℕ) → needy j ≡ needy i → IsNeedyIn needy (live cases) j
        again j same = go (live cases) fit
          where
            go : (l : List Case) → IsNeedyIn needy l i → IsNeedyIn needy l j
            go [] f = tt
            go (c ∷ []) f = λ x. same ∙ f x
            go (c ∷ d ∷ l) f = same ∙ f

    -- ---- Functions

    abbrev fn_body : List Case → Scope → ℕ → Code
    fn_body cases σ n =
        match_on own terms conv cases σ (Known (variable (suc n))) (raise_exn exn.MatchExn) (variable n) (2 + n)

    body_makes : (cases : List Case) (σ : Scope) (n : ℕ) → count p (fn_body cases σ n) ≤ in_cases p paid cases
    body_makes cases σ n =
        on_match (variable n) (rules_of own terms conv cases (variable n) σ (Known (variable (suc n))) (raise_exn exn.MatchExn) (2 + n)) (in_cases p paid cases) (rules_known cases (variable n) σ (variable (suc n)) (raise_exn exn.MatchExn) (2 + n) refl)

    pub fn_makes : (i : ℕ) (cases : List Case) (σ : Scope) (κ : Kon) (r n : ℕ) → KonMakes κ r → count p (Fix (function_of own terms conv n i cases σ (suc n) NoFunction) (apply κ (variable n) (3 + n + size_cases (size_at terms) cases))) ≤ one p (point i kind.Fn) + in_cases p paid cases + r
    fn_makes i cases σ κ r n h =
        let inner : count p (fn_body cases σ (suc n)) ≤ in_cases p paid cases = body_makes cases σ (suc n) in
        let after : count p (apply κ (variable n) (3 + n + size_cases (size_at terms) cases)) ≤ r = applied κ r h (variable n) (3 + n + size_cases (size_at terms) cases) in
        omega (arith, inner, after)

    -- ---- Applications

    pub call_makes : (f a : ℕ) (σ : Scope) (k : Atom) (r n : ℕ) → count p (part own terms conv f σ (λ u m. part own terms conv a σ (λ b l. Call u (b ∷ k ∷ [])) m) n) ≤ awaited p paid f + awaited p paid a + r
    call_makes f a σ k r n =
        let all : count p (part own terms conv f σ (λ u m. part own terms conv a σ (λ b l. Call u (b ∷ k ∷ [])) m) n) ≤ awaited p paid f + (awaited p paid a + 0) = part_makes f σ (λ u m. part own terms conv a σ (λ b l. Call u (b ∷ k ∷ [])) m) (awaited p paid a + 0) n (λ u m. part_makes a σ (λ b l. Call u (b ∷ k ∷ [])) 0 m (λ b l. omega arith)) in
        omega (arith, all)

    pub argument_makes : (f a : ℕ) (σ : Scope) (g : Atom → ℕ → Code) (r n : ℕ) → Makes g r → count p (part own terms conv a σ g n) ≤ awaited p paid f + awaited p paid a + r
    argument_makes f a σ g r n h = let all = part_makes a σ g r n h in omega (arith, all)

    -- ---- Declarations

    pub binds_make : (binds : List Bind) (body : ℕ) (σ : Scope) (κ : Kon) (r n : ℕ) → KonMakes κ r → Safe (needy body) κ → count p (binds_of own terms conv binds body σ κ n) ≤ in_binds p paid binds + (paid body + r)
    binds_make [] body σ κ r n h s = no_more _ (paid body + r) (converts body σ κ r n h s)
    binds_make (b ∷ later) body σ κ r n h s =
        let all : count p (part own terms conv b.right σ on n) ≤ awaited p paid b.right + rest = part_makes b.right σ on rest n (on_makes (λ τ l. binds_make later body τ κ r l h s)) in
        omega (arith, all)
      where
        rest : ℕ
        rest = in_binds p paid later + (paid body + r)

        inside : Atom → ℕ → Code
        inside a m = bind_names b.names a σ (λ τ l. binds_of own terms conv later body τ κ l) m

        on : Atom → ℕ → Code
        on a m = match_of a (rule_of (tests_of σ b.tests) (inside a m) (Otherwise (raise_exn exn.BindExn)))

        on_makes : ((τ : Scope) (l : ℕ) → count p (binds_of own terms conv later body τ κ l) ≤ rest) → Makes on rest
        on_makes again a m =
            let all : count_rules p (rule_of (tests_of σ b.tests) (inside a m) (Otherwise (raise_exn exn.BindExn))) ≤ rest + 0 = rule_makes (tests_of σ b.tests) (inside a m) (Otherwise (raise_exn exn.BindExn)) rest 0 (named b.names a σ (λ τ l. binds_of own terms conv later body τ κ l) rest m again) (omega arith) in
            on_match a (rule_of (tests_of σ b.tests) (inside a m) (Otherwise (raise_exn exn.BindExn))) rest (omega (arith, all))

    -- ---- Handlers

    pub handle_makes : (i e : ℕ) (cases : List Case) (σ : Scope) (k : Atom) (r n : ℕ) → count p (handled own terms conv i e cases σ (Known k) n) ≤ one p (point i kind.Caught) + (one p (point i kind.Popped) + (paid e + in_cases p paid cases)) + r
    handle_makes i e cases σ k r n = omega (arith, caught_makes, inside_makes)
      where
        packet : Atom
        packet = variable (3 + n)

        caught : Code
        caught = match_on own terms conv cases σ (Known k) (Throw packet) packet (5 + n)

        inside : Code
        inside = conv e σ (Known (variable (2 + n))) (5 + n + size_cases (size_at terms) cases)

        caught_makes : count p caught ≤ in_cases p paid cases
        caught_makes =
            on_match packet (rules_of own terms conv cases packet σ (Known k) (Throw packet) (5 + n)) (in_cases p paid cases) (rules_known cases packet σ k (Throw packet) (5 + n) refl)

        inside_makes : count p inside ≤ paid e + 0
        inside_makes = converts e σ (Known (variable (2 + n))) 0 (5 + n + size_cases (size_at terms) cases) tt tt

    -- ---- Groups

    module _ (are_paid : ArePaid p paid terms) where
      function_paid : (k i : ℕ) (c : ℕ × List Case) → within_terms None function_of_term k terms i ≡ Some c → one p (point c.0 kind.Fn) + in_cases p paid c.1 ≤ paid i
      function_paid zero i c e = absurd cc
      function_paid (suc k) i c e = go (slice_get terms i) refl e (λ j h. function_paid k j c h)
        where
          part_of : ℕ → Option (ℕ × List Case)
          part_of = within_terms None function_of_term k terms

          go : (o : Option Term) → slice_get terms i ≡ o → at_term None function_of_term part_of i o ≡ Some c → ((j : ℕ) → part_of j ≡ Some c → one p (point c.0 kind.Fn) + in_cases p paid c.1 ≤ paid j) → one p (point c.0 kind.Fn) + in_cases p paid c.1 ≤ paid i
          go None here f again = absurd cc
          go (Some (term.Fn cases)) here f again =
              some_eq (λ d. one p (point d.0 kind.Fn) + in_cases p paid d.1 ≤ paid i) (i, cases) c f (are_paid i (term.Fn cases) here)
          go (Some (term.Same j)) here f again =
              let own_paid : paid j ≤ paid i = are_paid i (term.Same j) here in
              let rest = again j f in
              omega (arith, own_paid, rest)
          go (Some (term.Int z)) here f again = absurd cc
          go (Some (term.Char x)) here f again = absurd cc
          go (Some (term.Text x)) here f again = absurd cc
          go (Some (term.Var x)) here f again = absurd cc
          go (Some (term.Constructor x)) here f again = absurd cc
          go (Some (term.Builtin x)) here f again = absurd cc
          go (Some (term.Tuple x)) here f again = absurd cc
          go (Some (term.App x y)) here f again = absurd cc
          go (Some (term.Match x y)) here f again = absurd cc
          go (Some (term.Raise x)) here f again = absurd cc
          go (Some (term.Handle x y)) here f again = absurd cc
          go (Some (term.Let x y)) here f again = absurd cc
          go (Some term.Finish) here f again = absurd cc
          go (Some (term.Binds x)) here f again = absurd cc
          go (Some (term.Group x)) here f again = absurd cc
          go (Some (term.NewExn x)) here f again = absurd cc
          go (Some (term.SameExn x y)) here f again = absurd cc
          go (Some term.Nothing) here f again = absurd cc
          go (Some term.Gone) here f again = absurd cc

      pub group_makes : (bindings : List RecBinding) (f : ℕ) (σ : Scope) (n : ℕ) → count_functions p (group_of own terms conv bindings f σ n) ≤ in_group p paid bindings
      group_makes [] f σ n = omega arith
      group_makes (b ∷ bindings) f σ n =
          go (function_at terms b.right) refl (group_makes bindings (suc f) σ (n + size_at terms b.right))
        where
          later : Functions
          later = group_of own terms conv bindings (suc f) σ (n + size_at terms b.right)

          go : (o : Option (ℕ × List Case)) → function_at terms b.right ≡ o → count_functions p later ≤ in_group p paid bindings → count_functions p (group_function own terms conv o f σ n later) ≤ paid b.right + in_group p paid bindings
          go None e h = omega (arith, h)
          go (Some c) e h =
              let own_paid : one p (point c.0 kind.Fn) + in_cases p paid c.1 ≤ paid b.right = function_paid (length terms) b.right c e in
              let inner : count p (fn_body c.1 σ n) ≤ in_cases p paid c.1 = body_makes c.1 σ n in
              omega (arith, own_paid, inner, h)
