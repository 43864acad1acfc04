-- Conversion by a decision that fits makes each point no more often than is paid for it.
use Rattle.std.proofs.Common.{◌≡◌, ℕ, zero, suc, ◌+◌, ◌≤◌, Bool, true, false, List, [], ◌∷◌, Option, Some, None, length, refl, sym, ◌∙◌, arith}
use Rattle.std.specs.Prelude.{slice_get}
use Rattle.smlc_base.specs.declared.exception.LibraryExn.TheVariants as exn
use Rattle.smlc_base.specs.declared.point.Point.{Point}
use Rattle.lambda_ir.specs.declared.term.Case.{Case}
use Rattle.lambda_ir.specs.declared.term.Part.{Part}
use Rattle.lambda_ir.specs.declared.term.Term.{Term}
use Rattle.lambda_ir.specs.declared.term.Term.TheVariants as term
use Rattle.lambda_ir.specs.Free.{at_term}
use Rattle.cps_ir.specs.declared.atom.Constant.TheVariants as constant
use Rattle.cps_ir.specs.Code.{Throw, Halt}
use Rattle.cps_ir.specs.State.{bind}
use Rattle.convert_laws.specs.declared.head.Head.{Head}
use Rattle.convert_laws.specs.declared.head.Head.TheVariants as head
use Rattle.convert_laws.specs.Convert.{Scope, Kon, Known, Text, Conv, variable, known, nowhere, con_atom, builtin_atom, builtin, constructor, size_at, tuple_of, match_on, raise_exn, applied, scope_group, declared, conv_term, no_conv, conv_within, convert}
use Rattle.convert_laws.specs.Fit.{IsNeedy, IsFit}
use Rattle.convert_laws.specs.Needs.{head_at, calls}
use Rattle.convert_points.specs.Made.{count, awaited, in_parts, in_cases, in_declared, in_term, ArePaid}
use Rattle.convert_points.specs.Law.{ConversionIsPaid}
use Rattle.convert_points.proofs.Forms.{no_more, KonMakes, Safe, safe_in, applied as apply_makes, builtin_makes, constructor_makes, part_makes, parts_make, match_makes, fn_makes, call_makes, argument_makes, binds_make, handle_makes, group_makes}

no_more_two : (x y r : ℕ) → x ≤ y + r → x ≤ 0 + y + r
no_more_two x y r h = omega (arith, h)

module _ (p : Point) (paid : ℕ → ℕ) (own : ℕ → Bool) (terms : List Term) (needy : ℕ → Bool) (fit : IsFit terms needy own) (are_paid : ArePaid p paid terms) where
  module _ (conv : ℕ → Conv) (converts : (j : ℕ) (σ : Scope) (κ : Kon) (r n : ℕ) → KonMakes p κ r → Safe (needy j) κ → count p (conv j σ κ n) ≤ paid j + r) where
    tuple_makes : (parts : List Part) (σ : Scope) (κ : Kon) (r n : ℕ) → KonMakes p κ r → count p (tuple_of own terms conv parts σ κ n) ≤ in_parts p paid parts + r
    tuple_makes [] σ κ r n h = no_more _ r (apply_makes p κ r h (known constant.Nothing) n)
    tuple_makes (q ∷ parts) σ κ r n h = parts_make p own terms paid needy fit.owned conv converts (q ∷ parts) [] (q ∷ parts) σ κ r n h

    called : (f a i : ℕ) (σ : Scope) (κ : Kon) (r n : ℕ) → Safe (needy i) κ → needy i ≡ true → count p (applied own terms conv head.Computed f a σ κ n) ≤ awaited p paid f + awaited p paid a + r
    called f a i σ (Known k) r n s e = call_makes p own terms paid needy fit.owned conv converts f a σ k r n
    called f a i σ (Text g) r n s e = let clash : true ≡ false = sym e ∙ s in absurd cc

    applied_makes : (h : Head) (f a i : ℕ) (σ : Scope) (κ : Kon) (r n : ℕ) → KonMakes p κ r → Safe (needy i) κ → (calls h ≡ true → needy i ≡ true) → count p (applied own terms conv h f a σ κ n) ≤ awaited p paid f + awaited p paid a + r
    applied_makes head.Computed f a i σ κ r n h s wants = called f a i σ κ r n s (wants refl)
    applied_makes (head.Builtin q) f a i σ κ r n h s wants =
        argument_makes p own terms paid needy fit.owned conv converts f a σ (builtin q κ) r n (builtin_makes p q κ r h)
    applied_makes (head.Constructor c) f a i σ κ r n h s wants =
        argument_makes p own terms paid needy fit.owned conv converts f a σ (constructor σ c κ) r n (constructor_makes p σ c κ r h)

    handled_makes : (i e : ℕ) (cases : List Case) (σ : Scope) (κ : Kon) (r n : ℕ) → Safe (needy i) κ → needy i ≡ true → count p (conv_term own terms conv i (term.Handle e cases) σ κ n) ≤ in_term p paid terms i (term.Handle e cases) + r
    handled_makes i e cases σ (Known k) r n s y = handle_makes p own terms paid needy fit.owned conv converts i e cases σ k r n
    handled_makes i e cases σ (Text g) r n s y = let clash : true ≡ false = sym y ∙ s in absurd cc

    -- ---- Declarations

    declared_makes : (d body : ℕ) (o : Option Term) (σ : Scope) (κ : Kon) (r n : ℕ) → KonMakes p κ r → Safe (needy body) κ → count p (declared own terms conv d body o σ κ n) ≤ in_declared p paid o + paid body + r
    declared_makes d body (Some (term.Binds binds)) σ κ r n h s =
        let all = binds_make p own terms paid needy fit.owned conv converts binds body σ κ r n h s in omega (arith, all)
    declared_makes d body (Some (term.Group bindings)) σ κ r n h s =
        let functions = group_makes p own terms paid needy fit.owned conv converts are_paid bindings n (scope_group own terms bindings n σ) (n + length bindings) in
        let after = converts body (scope_group own terms bindings n σ) κ r (n + size_at terms d) h s in
        omega (arith, functions, after)
    declared_makes d body (Some term.Nothing) σ κ r n h s = no_more_two _ (paid body) r (converts body σ κ r n h s)
    declared_makes d body (Some (term.NewExn x)) σ κ r n h s = no_more_two _ (paid body) r (converts body (bind σ x.0 (variable n)) κ r (suc n) h s)
    declared_makes d body (Some (term.SameExn x c)) σ κ r n h s = no_more_two _ (paid body) r (converts body (bind σ x.0 (con_atom σ c)) κ r n h s)
    declared_makes d body None σ κ r n h s = omega arith
    declared_makes d body (Some _) σ κ r n h s = omega arith

    -- ---- Terms

    term_makes : (i : ℕ) (t : Term) → IsNeedy terms needy i t → (σ : Scope) (κ : Kon) (r n : ℕ) → KonMakes p κ r → Safe (needy i) κ → count p (conv_term own terms conv i t σ κ n) ≤ in_term p paid terms i t + r
    term_makes i (term.Int z) w σ κ r n h s = no_more _ r (apply_makes p κ r h (known (constant.Int z)) n)
    term_makes i (term.Char c) w σ κ r n h s = no_more _ r (apply_makes p κ r h (known (constant.Char c)) n)
    term_makes i (term.Text t) w σ κ r n h s = no_more _ r (apply_makes p κ r h (known (constant.Text t)) n)
    term_makes i (term.Var x) w σ κ r n h s = no_more _ r (apply_makes p κ r h (σ x.0) n)
    term_makes i (term.Constructor c) w σ κ r n h s = no_more _ r (apply_makes p κ r h (con_atom σ c) n)
    term_makes i (term.Builtin f) w σ κ r n h s = no_more _ r (apply_makes p κ r h (builtin_atom f) n)
    term_makes i (term.Tuple parts) w σ κ r n h s = tuple_makes parts σ κ r n h
    term_makes i (term.App f a) w σ κ r n h s = applied_makes (head_at terms f) f a i σ κ r n h s w
    term_makes i (term.Match e cases) w σ κ r n h s =
        let all = part_makes p own terms paid needy fit.owned conv converts e σ (match_on own terms conv cases σ κ (raise_exn exn.MatchExn)) (in_cases p paid cases + r) n (λ a m. match_makes p own terms paid needy fit.owned conv converts i cases σ κ r (raise_exn exn.MatchExn) a m h s refl w) in
        omega (arith, all)
    term_makes i (term.Fn cases) w σ κ r n h s = fn_makes p own terms paid needy fit.owned conv converts i cases σ κ r n h
    term_makes i (term.Raise e) w σ κ r n h s =
        let all = part_makes p own terms paid needy fit.owned conv converts e σ (λ a m. Throw a) 0 n (λ a m. omega arith) in
        omega (arith, all)
    term_makes i (term.Handle e cases) w σ κ r n h s = handled_makes i e cases σ κ r n s w
    term_makes i (term.Same e) w σ κ r n h s = converts e σ κ r n h (safe_in (needy e) (needy i) κ w s)
    term_makes i (term.Let d body) w σ κ r n h s =
        declared_makes d body (slice_get terms d) σ κ r n h (safe_in (needy body) (needy i) κ w s)
    term_makes i term.Finish w σ κ r n h s = no_more _ r (apply_makes p κ r h (known constant.Nothing) n)
    term_makes i (term.Binds binds) w σ κ r n h s = omega arith
    term_makes i (term.Group bindings) w σ κ r n h s = omega arith
    term_makes i (term.NewExn x) w σ κ r n h s = omega arith
    term_makes i (term.SameExn x c) w σ κ r n h s = omega arith
    term_makes i term.Nothing w σ κ r n h s = omega arith
    term_makes i term.Gone w σ κ r n h s = omega arith

  -- ---- All levels

  level_makes : (k j : ℕ) (σ : Scope) (κ : Kon) (r n : ℕ) → KonMakes p κ r → Safe (needy j) κ → count p (conv_within own terms k j σ κ n) ≤ paid j + r
  level_makes zero j σ κ r n h s = omega arith
  level_makes (suc k) j σ κ r n h s = go (slice_get terms j) refl (λ t here. term_makes (conv_within own terms k) (level_makes k) j t (fit.wants j t here) σ κ r n h s)
    where
      go : (o : Option Term) → slice_get terms j ≡ o → ((t : Term) → slice_get terms j ≡ Some t → count p (conv_term own terms (conv_within own terms k) j t σ κ n) ≤ in_term p paid terms j t + r) → count p (at_term (no_conv own terms) (conv_term own terms) (conv_within own terms k) j o σ κ n) ≤ paid j + r
      go None here w = omega arith
      go (Some t) here w =
          let most = w t here in
          let is_paid = are_paid j t here in
          omega (arith, most, is_paid)

  pub program_makes : count p (convert own terms) ≤ paid 0
  program_makes =
      let all : count p (convert own terms) ≤ paid 0 + 0 = level_makes (length terms) 0 nowhere (Text (λ a n. Halt)) 0 0 (λ a m. omega arith) fit.whole in
      omega (arith, all)

pub conversion_is_paid : ConversionIsPaid
conversion_is_paid terms needy own fit p paid are_paid = program_makes p paid own terms needy fit are_paid
