-- Conversion by a decision that fits binds each variable once.
use Rattle.std.proofs.Common.{◌≡◌, ℕ, zero, suc, ◌+◌, ◌≤◌, ◌<◌, Bool, true, false, List, [], ◌∷◌, ◌++◌, Option, Some, None, length, refl, sym, ◌∙◌, arith}
use Rattle.std.specs.Prelude.{slice_get}
use Rattle.smlc_base.specs.declared.exception.LibraryExn.TheVariants as exn
use Rattle.sml_tree.specs.declared.bare.RecBinding.{RecBinding}
use Rattle.lambda_ir.specs.declared.term.Case.{Case}
use Rattle.lambda_ir.specs.declared.term.Part.{Part}
use Rattle.lambda_ir.specs.declared.term.Term.{Term}
use Rattle.lambda_ir.specs.declared.term.Term.TheVariants as term
use Rattle.lambda_ir.specs.Free.{at_term}
use Rattle.cps_ir.specs.declared.atom.Atom.{Atom}
use Rattle.cps_ir.specs.declared.atom.Constant.TheVariants as constant
use Rattle.cps_ir.specs.Code.{Throw, Halt}
use Rattle.cps_ir.specs.Free.{bound, bound_functions}
use Rattle.cps_ir.specs.State.{bind}
use Rattle.convert_laws.specs.declared.head.Head.{Head}
use Rattle.convert_laws.specs.declared.head.Head.TheVariants as head
use Rattle.convert_laws.specs.Convert.{Scope, Kon, Known, Text, Conv, variable, known, nowhere, con_atom, builtin_atom, apply, builtin, constructor, size_cases, size_parts, size_group, size_term, size_at, parts_of, tuple_of, match_on, raise_exn, applied, scope_group, group_of, declared, conv_term, no_conv, conv_within, convert}
use Rattle.convert_laws.specs.Facts.{AreNumbered}
use Rattle.convert_laws.specs.Fit.{IsNeedy, IsFit}
use Rattle.convert_laws.specs.Law.{ConversionBindsOnce}
use Rattle.convert_laws.specs.Needs.{head_at, calls}
use Rattle.convert_laws.proofs.ByParts.{size_here}
use Rattle.convert_laws.proofs.Ranges.{Within, none, wider, joined, front, either_one}
use Rattle.convert_laws.proofs.Bound.{KonRoomy, Safe, applied as apply_within, more}
use Rattle.convert_laws.proofs.Binds.{safe_in, builtin_within, constructor_within, part_within, parts_within, match_within, fn_within, call_within, argument_within, binds_within, handle_within, group_size, group_within, rights}
use Rattle.convert_laws.proofs.Unfold.{all_map}

module _ (own : ℕ → Bool) (terms : List Term) (numbered : AreNumbered terms) (needy : ℕ → Bool) (fit : IsFit terms needy own) where
  abbrev size : ℕ → ℕ
  size = size_at terms

  module _ (conv : ℕ → Conv) (converts : (j : ℕ) (σ : Scope) (κ : Kon) (r n : ℕ) → KonRoomy κ r → Safe (needy j) κ → Within n (n + (size_at terms j + r)) (bound (conv j σ κ n))) where
    value : (κ : Kon) (r n : ℕ) → KonRoomy κ r → (a : Atom) → Within n (n + (0 + r)) (bound (apply κ a n))
    value κ r n h a = more n r (0 + r) (bound (apply κ a n)) (omega arith) (apply_within κ r h a n)

    tuple_within : (parts : List Part) (σ : Scope) (κ : Kon) (r n : ℕ) → KonRoomy κ r → Within n (n + (size_term size (term.Tuple parts) + r)) (bound (tuple_of own terms conv parts σ κ n))
    tuple_within [] σ κ r n h = more n r (1 + r) (bound (apply κ (known constant.Nothing) n)) (omega arith) (apply_within κ r h (known constant.Nothing) n)
    tuple_within (q ∷ parts) σ κ r n h =
        more n (suc (size_parts size (q ∷ parts)) + r) (size_term size (term.Tuple (q ∷ parts)) + r) (bound (parts_of own terms conv (q ∷ parts) [] (q ∷ parts) σ κ n)) (omega arith) (parts_within own terms needy fit.owned conv converts (q ∷ parts) [] (q ∷ parts) σ κ r n h)

    called : (f a i : ℕ) (σ : Scope) (κ : Kon) (r n : ℕ) → Safe (needy i) κ → needy i ≡ true → Within n (n + (8 + (size f + size a) + r)) (bound (applied own terms conv head.Computed f a σ κ n))
    called f a i σ (Known k) r n s e = call_within own terms needy fit.owned conv converts f a σ k r n
    called f a i σ (Text g) r n s e = let clash : true ≡ false = sym e ∙ s in absurd cc

    applied_within : (h : Head) (f a i : ℕ) (σ : Scope) (κ : Kon) (r n : ℕ) → KonRoomy κ r → Safe (needy i) κ → (calls h ≡ true → needy i ≡ true) → Within n (n + (8 + (size f + size a) + r)) (bound (applied own terms conv h f a σ κ n))
    applied_within head.Computed f a i σ κ r n h s wants = called f a i σ κ r n s (wants refl)
    applied_within (head.Builtin p) f a i σ κ r n h s wants =
        argument_within own terms needy fit.owned conv converts f a σ (builtin p κ) r n (builtin_within p κ r h)
    applied_within (head.Constructor c) f a i σ κ r n h s wants =
        argument_within own terms needy fit.owned conv converts f a σ (constructor σ c κ) r n (λ b m. more m (suc r) (4 + r) (bound (constructor σ c κ b m)) (omega arith) (constructor_within σ c κ r h b m))

    handled_within : (i e : ℕ) (cases : List Case) (σ : Scope) (κ : Kon) (r n : ℕ) → Safe (needy i) κ → needy i ≡ true → Within n (n + (5 + (size e + size_cases size cases) + r)) (bound (conv_term own terms conv i (term.Handle e cases) σ κ n))
    handled_within i e cases σ (Known k) r n s y = handle_within own terms needy fit.owned conv converts i e cases σ k r n
    handled_within i e cases σ (Text g) r n s y = let clash : true ≡ false = sym y ∙ s in absurd cc

    -- ---- Declarations

    group_then : (bindings : List RecBinding) (d body : ℕ) (σ : Scope) (κ : Kon) (r n : ℕ) → size d ≡ size_group size bindings → KonRoomy κ r → Safe (needy body) κ → Within n (n + (size d + size body + r)) (bound_functions (group_of own terms conv bindings n σ (n + length bindings)) ++ bound (conv body σ κ (n + size d)))
    group_then bindings d body σ κ r n e h s =
        let long : size_group size bindings ≡ length bindings + rights own terms needy fit.owned conv converts bindings = group_size own terms needy fit.owned conv converts bindings in
        let functions = group_within own terms needy fit.owned conv converts numbered bindings n (n + length bindings) σ (n + length bindings) (omega arith) (omega arith) in
        joined n (n + size d) (n + (size d + size body + r)) (bound_functions (group_of own terms conv bindings n σ (n + length bindings))) (bound (conv body σ κ (n + size d))) (omega arith) (omega arith)
        (wider n (n + length bindings + rights own terms needy fit.owned conv converts bindings) n (n + size d) _ (omega arith) (omega (arith, e, long)) (either_one n (n + length bindings) (n + length bindings + rights own terms needy fit.owned conv converts bindings) _ (omega arith) (omega arith) functions))
        (wider (n + size d) (n + size d + (size body + r)) (n + size d) (n + (size d + size body + r)) _ (omega arith) (omega arith) (converts body σ κ r (n + size d) h s))

    plain_body : (d body : ℕ) (σ : Scope) (κ : Kon) (r n : ℕ) → KonRoomy κ r → Safe (needy body) κ → Within n (n + (size d + size body + r)) (bound (conv body σ κ n))
    plain_body d body σ κ r n h s = more n (size body + r) (size d + size body + r) (bound (conv body σ κ n)) (omega arith) (converts body σ κ r n h s)

    declared_within : (d body : ℕ) (o : Option Term) → slice_get terms d ≡ o → (σ : Scope) (κ : Kon) (r n : ℕ) → KonRoomy κ r → Safe (needy body) κ → Within n (n + (size d + size body + r)) (bound (declared own terms conv d body o σ κ n))
    declared_within d body (Some (term.Binds binds)) here σ κ r n h s =
        let long = size_here terms numbered d (term.Binds binds) here in
        more n (size_term size (term.Binds binds) + (size body + r)) (size d + size body + r) _ (omega (arith, long)) (binds_within own terms needy fit.owned conv converts binds body σ κ r n h s)
    declared_within d body (Some (term.Group bindings)) here σ κ r n h s =
        group_then bindings d body (scope_group own terms bindings n σ) κ r n (size_here terms numbered d (term.Group bindings) here) h s
    declared_within d body (Some term.Nothing) here σ κ r n h s = plain_body d body σ κ r n h s
    declared_within d body (Some (term.NewExn x)) here σ κ r n h s =
        let long : size d ≡ 1 = size_here terms numbered d (term.NewExn x) here in
        front n (n + (size d + size body + r)) (bound (conv body (bind σ x.0 (variable n)) κ (suc n))) (omega (arith, long)) (wider (suc n) (suc n + (size body + r)) (suc n) (n + (size d + size body + r)) _ (omega arith) (omega (arith, long)) (converts body (bind σ x.0 (variable n)) κ r (suc n) h s))
    declared_within d body (Some (term.SameExn x c)) here σ κ r n h s = plain_body d body (bind σ x.0 (con_atom σ c)) κ r n h s
    declared_within d body None here σ κ r n h s = none n (n + (size d + size body + r))
    declared_within d body (Some (term.Int z)) here σ κ r n h s = none n (n + (size d + size body + r))
    declared_within d body (Some (term.Char z)) here σ κ r n h s = none n (n + (size d + size body + r))
    declared_within d body (Some (term.Text z)) here σ κ r n h s = none n (n + (size d + size body + r))
    declared_within d body (Some (term.Var z)) here σ κ r n h s = none n (n + (size d + size body + r))
    declared_within d body (Some (term.Constructor z)) here σ κ r n h s = none n (n + (size d + size body + r))
    declared_within d body (Some (term.Builtin z)) here σ κ r n h s = none n (n + (size d + size body + r))
    declared_within d body (Some (term.Tuple z)) here σ κ r n h s = none n (n + (size d + size body + r))
    declared_within d body (Some (term.App y z)) here σ κ r n h s = none n (n + (size d + size body + r))
    declared_within d body (Some (term.Match y z)) here σ κ r n h s = none n (n + (size d + size body + r))
    declared_within d body (Some (term.Fn z)) here σ κ r n h s = none n (n + (size d + size body + r))
    declared_within d body (Some (term.Raise z)) here σ κ r n h s = none n (n + (size d + size body + r))
    declared_within d body (Some (term.Handle y z)) here σ κ r n h s = none n (n + (size d + size body + r))
    declared_within d body (Some (term.Same z)) here σ κ r n h s = none n (n + (size d + size body + r))
    declared_within d body (Some (term.Let y z)) here σ κ r n h s = none n (n + (size d + size body + r))
    declared_within d body (Some term.Finish) here σ κ r n h s = none n (n + (size d + size body + r))
    declared_within d body (Some term.Gone) here σ κ r n h s = none n (n + (size d + size body + r))

    -- ---- Terms

    term_within : (i : ℕ) (t : Term) → IsNeedy terms needy i t → (σ : Scope) (κ : Kon) (r n : ℕ) → KonRoomy κ r → Safe (needy i) κ → Within n (n + (size_term size t + r)) (bound (conv_term own terms conv i t σ κ n))
    term_within i (term.Int z) w σ κ r n h s = value κ r n h (known (constant.Int z))
    term_within i (term.Char c) w σ κ r n h s = value κ r n h (known (constant.Char c))
    term_within i (term.Text t) w σ κ r n h s = value κ r n h (known (constant.Text t))
    term_within i (term.Var x) w σ κ r n h s = value κ r n h (σ x.0)
    term_within i (term.Constructor c) w σ κ r n h s = value κ r n h (con_atom σ c)
    term_within i (term.Builtin f) w σ κ r n h s = value κ r n h (builtin_atom f)
    term_within i (term.Tuple parts) w σ κ r n h s = tuple_within parts σ κ r n h
    term_within i (term.App f a) w σ κ r n h s = applied_within (head_at terms f) f a i σ κ r n h s w
    term_within i (term.Match e cases) w σ κ r n h s =
        more n (2 + (size e + (size_cases size cases + r))) (2 + (size e + size_cases size cases) + r) _ (omega arith) (part_within own terms needy fit.owned conv converts e σ (match_on own terms conv cases σ κ (raise_exn exn.MatchExn)) (size_cases size cases + r) n (λ a m. match_within own terms needy fit.owned conv converts i cases σ κ r (raise_exn exn.MatchExn) a m h s refl w))
    term_within i (term.Fn cases) w σ κ r n h s = fn_within own terms needy fit.owned conv converts i cases σ κ r n h
    term_within i (term.Raise e) w σ κ r n h s =
        more n (2 + (size e + 0)) (2 + size e + r) _ (omega arith) (part_within own terms needy fit.owned conv converts e σ (λ a m. Throw a) 0 n (λ a m. none m (m + 0)))
    term_within i (term.Handle e cases) w σ κ r n h s = handled_within i e cases σ κ r n s w
    term_within i (term.Same e) w σ κ r n h s = converts e σ κ r n h (safe_in (needy e) (needy i) κ w s)
    term_within i (term.Let d body) w σ κ r n h s =
        declared_within d body (slice_get terms d) refl σ κ r n h (safe_in (needy body) (needy i) κ w s)
    term_within i term.Finish w σ κ r n h s = value κ r n h (known constant.Nothing)
    term_within i (term.Binds binds) w σ κ r n h s = none n (n + (size_term size (term.Binds binds) + r))
    term_within i (term.Group bindings) w σ κ r n h s = none n (n + (size_term size (term.Group bindings) + r))
    term_within i (term.NewExn x) w σ κ r n h s = none n (n + (1 + r))
    term_within i (term.SameExn x c) w σ κ r n h s = none n (n + (0 + r))
    term_within i term.Nothing w σ κ r n h s = none n (n + (0 + r))
    term_within i term.Gone w σ κ r n h s = none n (n + (0 + r))

  -- ---- All levels

  level_within : (k j : ℕ) (σ : Scope) (κ : Kon) (r n : ℕ) → KonRoomy κ r → Safe (needy j) κ → Within n (n + (size j + r)) (bound (conv_within own terms k j σ κ n))
  level_within zero j σ κ r n h s = none n (n + (size j + r))
  level_within (suc k) j σ κ r n h s = go (slice_get terms j) refl (λ t here. term_within (conv_within own terms k) (level_within k) j t (fit.wants j t here) σ κ r n h s)
    where
      go : (o : Option Term) → slice_get terms j ≡ o → ((t : Term) → slice_get terms j ≡ Some t → Within n (n + (size_term size t + r)) (bound (conv_term own terms (conv_within own terms k) j t σ κ n))) → Within n (n + (size j + r)) (bound (at_term (no_conv own terms) (conv_term own terms) (conv_within own terms k) j o σ κ n))
      go None here w = none n (n + (size j + r))
      go (Some t) here w =
          let long = size_here terms numbered j t here in
          more n (size_term size t + r) (size j + r) _ (omega (arith, long)) (w t here)

  pub program_within : Within 0 (size 0) (bound (convert own terms))
  program_within =
      wider 0 (0 + (size 0 + 0)) 0 (size 0) (bound (convert own terms)) (omega arith) (omega arith) (level_within (length terms) 0 nowhere (Text (λ a n. Halt)) 0 0 (λ a m. none m (m + 0)) fit.whole)

pub conversion_binds_once : ConversionBindsOnce
conversion_binds_once l kept needy own fit =
    let all = program_within own l.terms kept.numbered needy fit in
    record { once = all.0; below = all_map (λ x (i : (0 ≤ x) × (x < size_at l.terms 0)). i.1) _ all.1 }
