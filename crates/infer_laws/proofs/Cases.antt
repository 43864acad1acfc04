-- Answers that say too little are not principal.
use Rattle.std.proofs.Common.{◌≡◌, true, cond, List, [], ◌∷◌, refl, sym, ap, ◌∙◌, arith}
use Rattle.sml_types.specs.declared.tables.TypeName.{TypeName}
use Rattle.sml_types.specs.Tree.{Tree, Variable, inst, admits}
use Rattle.sml_types.specs.Poly.{Poly, has_num, IsInstance}
use Rattle.sml_types.specs.Library.{arrow, int_ty, unit_ty}
use Rattle.sml_types.specs.Typing.{Typing}
use Rattle.sml_types.proofs.TypingCases.{identity, typing, a_var, id_poly, identity_is_typed}
use Rattle.sml_unify.specs.Solved.{Substitution}
use Rattle.infer_state.specs.Rules.{IsCopy}
use Rattle.infer_laws.specs.Principal.{IsPrincipal}

-- ---- val id = fn x => x

-- x has no one type
pub no_narrow_type : (t : Typing) → t.types 4 ≡ int_ty → IsPrincipal identity t 7 → ⊥
no_narrow_type t e h =
    let clash : Variable a_var ≡ int_ty = ((h.general typing identity_is_typed).types 4 (omega arith)).1 ∙ ap (inst (h.general typing identity_is_typed).by) e in
    cc

id_at : (u : Tree) → admits typing.names u ≡ true → IsInstance typing.names id_poly (arrow u u)
id_at u q =
    record {
      at = λ v. cond (has_num (a_var ∷ []) v.num) u (Variable v);
      others = λ v e. ap (λ b. cond b u (Variable v)) e;
      marks = λ v e m. ap (λ b. admits typing.names (cond b u (Variable v))) e ∙ q;
      is = refl;
    }

none_copied : (names : List TypeName) (by : Substitution) (s : Poly) (t : Tree) → s.vars ≡ [] → IsCopy names by s t → t ≡ inst by s.body
none_copied names by s t e c = c.is ∙ ap (λ vs. inst (λ v. cond (has_num vs v.num) (c.at v) (by v)) s.body) e

-- id has no one type
pub no_narrow_scheme : (t : Typing) → (t.schemes 0).vars ≡ [] → IsPrincipal identity t 7 → ⊥
no_narrow_scheme t e h =
    let other = h.general typing identity_is_typed in
    let general = other.schemes 0 (2, omega arith, refl) in
    let ints = none_copied t.names other.by (t.schemes 0) (arrow int_ty int_ty) e (general (arrow int_ty int_ty) (id_at int_ty refl)) in
    let units = none_copied t.names other.by (t.schemes 0) (arrow unit_ty unit_ty) e (general (arrow unit_ty unit_ty) (id_at unit_ty refl)) in
    let clash : arrow int_ty int_ty ≡ arrow unit_ty unit_ty = ints ∙ sym units in
    cc
