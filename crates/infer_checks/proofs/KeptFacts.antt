-- Schemes that keep their variables.
use Rattle.std.proofs.Common.{◌≡◌, ℕ, Bool, false, List, [], ◌∷◌, Option, Some, None, refl, sym, ap, ◌∙◌, subst, nat_eq, map}
use Rattle.std.specs.List.{AllByRecursion, find}
use Rattle.sml_types.specs.declared.types.Ty.{Ty}
use Rattle.sml_types.specs.declared.types.TyVar.{TyVar}
use Rattle.sml_types.specs.declared.types.TyForm.{TyForm}
use Rattle.sml_types.specs.Tree.{Tree, Variable, inst}
use Rattle.sml_types.specs.Poly.{Poly, is_in}
use Rattle.sml_unify.specs.declared.resolve.Rename.{Rename}
use Rattle.sml_unify.specs.Solved.{Substitution, bound_at}
use Rattle.sml_unify.specs.Resolve.{renamed, renamed_as, led_to}
use Rattle.sml_unify.proofs.Meant.{meant_free}
use Rattle.infer_state.specs.Typings.{var_at, AreApart, IsProper}
use Rattle.sml_types.specs.Schemes.{scheme_poly}
use Rattle.infer_state.specs.declared.settled.Settled.{Settled}
use Rattle.infer_state.specs.Fits.{settled_poly}
use Rattle.infer_laws.specs.Final.{final}
use Rattle.infer_checks.specs.Ending.{Lists, IsKept, IsOpenNumber, IsProperAt}
use Rattle.infer_checks.proofs.Free.{proper_of}

abbrev num_of : List Rename → TyVar → ℕ
num_of renames v = (renamed_as v (led_to (find (λ r. nat_eq r.from v.num) renames))).num

-- a variable that is not bound, and that is renamed to one with its mark
pub kept_of : (forms : List TyForm) (bound : List (Option Ty)) (renames : List Rename) (numbers : List ℕ) (v to : TyVar) → bound_at bound v.num ≡ None → to ≡ renamed_as v (led_to (find (λ r. nat_eq r.from v.num) renames)) → to.eq ≡ v.eq → is_in numbers to.num ≡ false → IsKept (final forms bound renames) renames numbers v
kept_of forms bound renames numbers v to free e mark out =
    let is : final forms bound renames v ≡ Variable to = ap (inst (renamed renames)) (meant_free forms bound v free) ∙ ap Variable (sym e) in
    let num : (var_at v (final forms bound renames v)).num ≡ to.num = ap (λ (t : Tree). (var_at v t).num) is in
    record {
      is = is ∙ ap Variable (ap (λ (n : ℕ). vary n to.eq) (sym num) ∙ ap (λ (b : Bool). vary (var_at v (final forms bound renames v)).num b) mark);
      number = num ∙ ap (λ (w : TyVar). w.num) e;
      out = ap (is_in numbers) num ∙ out;
    }
  where
    vary : ℕ → Bool → TyVar
    vary n b = record { num = n; eq = b }

module _ (f : Substitution) (renames : List Rename) (numbers : List ℕ) where
  same_numbers : (vs : List TyVar) → AllByRecursion (IsKept f renames numbers) vs → map (λ v. (renamed_as v (led_to (find (λ r. nat_eq r.from v.num) renames))).num) vs ≡ map (λ v. (var_at v (f v)).num) vs
  same_numbers [] h = refl
  same_numbers (v ∷ vs) h = ap (λ n. n ∷ map (num_of renames) vs) (sym h.0.number) ∙ ap (λ ns. (var_at v (f v)).num ∷ ns) (same_numbers vs h.1)

  all_kept : (vs : List TyVar) → AllByRecursion (IsKept f renames numbers) vs → AllByRecursion (λ v. f v ≡ Variable (record { num = (var_at v (f v)).num; eq = v.eq })) vs
  all_kept [] h = tt
  all_kept (v ∷ vs) h = (h.0.is, all_kept vs h.1)

  all_out : (vs : List TyVar) → AllByRecursion (IsKept f renames numbers) vs → AllByRecursion (λ v. is_in numbers (var_at v (f v)).num ≡ false) vs
  all_out [] h = tt
  all_out (v ∷ vs) h = (h.0.out, all_out vs h.1)

  -- a scheme keeps its variables, if they are kept apart
  pub proper_kept : (q : Poly) (found : List ℕ) → Lists (IsOpenNumber f q) numbers → AllByRecursion (IsKept f renames numbers) q.vars → found ≡ map (λ v. (renamed_as v (led_to (find (λ r. nat_eq r.from v.num) renames))).num) q.vars → AreApart found → IsProper f q
  proper_kept q found lists kept e apart = proper_of f q numbers lists (all_kept q.vars kept) (subst AreApart (e ∙ same_numbers q.vars kept) apart) (all_out q.vars kept)

-- ---- Settled names

pub at_found : (f : Substitution) (forms : List TyForm) (o : Option Settled) (s : Settled) → o ≡ Some s → IsProper f (scheme_poly forms s.scheme) → IsProperAt f (settled_poly forms o)
at_found f forms o s e h = subst (λ q. IsProperAt f (settled_poly forms q)) (sym e) h

pub at_none : (f : Substitution) (forms : List TyForm) (o : Option Settled) → o ≡ None → IsProperAt f (settled_poly forms o)
at_none f forms o e = subst (λ q. IsProperAt f (settled_poly forms q)) (sym e) tt
