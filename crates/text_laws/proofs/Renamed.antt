-- Schemes that are instances of each other differ in the numbers of their variables alone.
use Rattle.std.proofs.Common.{◌≡◌, ℕ, suc, Bool, true, false, List, refl, sym, ap, ◌∙◌, subst, arith}
use Rattle.std.specs.Prelude.{cond}
use Rattle.sml_types.specs.declared.types.TyVar.{TyVar}
use Rattle.sml_types.specs.declared.tables.TypeName.{TypeName}
use Rattle.sml_types.specs.Tree.{Tree, Variable, App, NoParts, Part, inst, admits, AllVars}
use Rattle.sml_types.specs.Poly.{Poly, has_num, IsInstance}
use Rattle.sml_types.proofs.TreeFacts.{inst_inst, inst_id}
use Rattle.sml_unify.specs.Solved.{Substitution}
use Rattle.infer_laws.specs.Principal.{Leads, IsMoreGeneral}
use Rattle.infer_laws.proofs.Copies.{vars_map, vars_both}
use Rattle.text_laws.proofs.Alike.{Becomes}
use Rattle.text_laws.proofs.Lines.{IsPair}

-- ---- Variables under substitutions

-- what holds of the variables of what was put in holds of those of each variable's type
vars_under : (P : TyVar → Type 0) (f : Substitution) (t : Tree) → AllVars P (inst f t) → AllVars (λ v. AllVars P (f v)) t
vars_under P f (Variable v) h = h
vars_under P f (App head ts) h = vars_under P f ts h
vars_under P f NoParts h = tt
vars_under P f (Part t ts) h = (vars_under P f t h.0, vars_under P f ts h.1)

-- two substitutions that make the same of a type agree on its variables
agree : (f g : Substitution) (t : Tree) → inst f t ≡ inst g t → AllVars (λ v. f v ≡ g v) t
agree f g (Variable v) e = e
agree f g (App head ts) e = let same : inst f ts ≡ inst g ts = cc in agree f g ts same
agree f g NoParts e = tt
agree f g (Part t ts) e =
    let first : inst f t ≡ inst g t = cc in
    let rest : inst f ts ≡ inst g ts = cc in (agree f g t first, agree f g ts rest)

-- what becomes a variable is a variable
variable_of : (g : Substitution) (t : Tree) (v : TyVar) → inst g t ≡ Variable v → (w : TyVar) × (t ≡ Variable w)
variable_of g (Variable w) v e = (w, refl)
variable_of g (App head ts) v e = absurd cc
variable_of g NoParts v e = absurd cc
variable_of g (Part t ts) v e = absurd cc

-- ---- Which variables are general

-- a scheme's own variables get another number
abbrev raise : List TyVar → Substitution
raise vs v = cond (has_num vs v.num) (Variable (record { num = suc v.num; eq = v.eq })) (Variable v)

raised_other : (b : Bool) (v : TyVar) → b ≡ false → cond b (Variable (record { num = suc v.num; eq = v.eq })) (Variable v) ≡ Variable v
raised_other true v e = cc
raised_other false v e = refl

raised_mark : (names : List TypeName) (b : Bool) (v : TyVar) → v.eq ≡ true → admits names (cond b (Variable (record { num = suc v.num; eq = v.eq })) (Variable v)) ≡ true
raised_mark names true v e = e
raised_mark names false v e = e

raised : (names : List TypeName) (s : Poly) → IsInstance names s (inst (raise s.vars) s.body)
raised names s =
    record {
      at = raise s.vars;
      others = λ v e. raised_other (has_num s.vars v.num) v e;
      marks = λ v h e. raised_mark names (has_num s.vars v.num) v e;
      is = refl;
    }

same_number : (v w : TyVar) → Variable v ≡ Variable w → v.num ≡ w.num
same_number v w e = cc

-- where a general variable got another number, what stands for it was general
general_too : (b c : Bool) (w : TyVar) (t : Tree) → cond c (Variable (record { num = suc w.num; eq = w.eq })) (Variable w) ≡ cond b t (Variable w) → c ≡ true → b ≡ true
general_too true c w t e h = refl
general_too false false w t e h = h
general_too false true w t e h = let same = same_number (record { num = suc w.num; eq = w.eq }) w e in absurd (omega (arith, same))

both_ways : (b c : Bool) → (b ≡ true → c ≡ true) → (c ≡ true → b ≡ true) → b ≡ c
both_ways true c h k = sym (h refl)
both_ways false true h k = k refl
both_ways false false h k = refl

-- ---- Two schemes

abbrev number_of : Tree → ℕ
number_of (Variable v) = v.num
number_of _ = 0

-- the number that the variable of a number goes to
abbrev pub moved : Substitution → (ℕ → Bool) → ℕ → ℕ
moved f marks n = number_of (f (record { num = n; eq = marks n }))

moved_is : (f : Substitution) (marks : ℕ → Bool) (v w : TyVar) → v.eq ≡ marks v.num → f v ≡ Variable w → moved f marks v.num ≡ w.num
moved_is f marks v w e h = ap (λ (b : Bool). number_of (f (record { num = v.num; eq = b }))) (sym e) ∙ ap number_of h

module _ (a b : List TypeName) (f g : Substitution) (s u : Poly) where
  -- each variable stands for as many types as in the other scheme
  raised_vars : u.body ≡ inst f s.body → IsMoreGeneral a b f s u → (at : Substitution) × AllVars (λ v. inst (raise u.vars) (f v) ≡ cond (has_num s.vars v.num) (at v) (f v)) s.body
  raised_vars e more =
      let copy = more (inst (raise u.vars) u.body) (raised b u) in (
        copy.at,
        agree (λ v. inst (raise u.vars) (f v)) (λ v. cond (has_num s.vars v.num) (copy.at v) (f v)) s.body
            (sym (inst_inst (raise u.vars) f s.body) ∙ ap (inst (raise u.vars)) (sym e) ∙ copy.is),
      )

module _ (a b : List TypeName) (f g : Substitution) (m n : ℕ → Bool) (s u : Poly) where
  -- what is known of a variable of the one scheme
  pub record IsHere (at : Substitution) (v : TyVar) : Type 0 where
    pub around : inst g (f v) ≡ Variable v
    pub keeps : v.eq ≡ true → admits a (f v) ≡ true
    pub marked : v.eq ≡ m v.num
    pub general : inst (raise u.vars) (f v) ≡ cond (has_num s.vars v.num) (at v) (f v)

  -- and of one of the other
  pub record IsThere (at : Substitution) (w : TyVar) : Type 0 where
    pub keeps : w.eq ≡ true → admits b (g w) ≡ true
    pub marked : w.eq ≡ n w.num
    pub general : inst (raise s.vars) (g w) ≡ cond (has_num u.vars w.num) (at w) (g w)

  pair_of : (at there : Substitution) (v w : TyVar) → f v ≡ Variable w → g w ≡ Variable v → IsHere at v → IsThere there w → IsPair (moved f m) (moved g n) (has_num s.vars) (has_num u.vars) v w
  pair_of at there v w forth back h k =
      record {
        goes = moved_is f m v w h.marked forth;
        comes = moved_is g n w v k.marked back;
        marked =
            both_ways v.eq w.eq (λ e. ap (admits a) (sym forth) ∙ h.keeps e) (λ e. ap (admits b) (sym back) ∙ k.keeps e);
        owned =
            both_ways (has_num s.vars v.num) (has_num u.vars w.num)
            (general_too (has_num u.vars w.num) (has_num s.vars v.num) v (there w) (subst (λ (t : Tree). inst (raise s.vars) t ≡ cond (has_num u.vars w.num) (there w) t) back k.general))
            (general_too (has_num s.vars v.num) (has_num u.vars w.num) w (at v) (subst (λ (t : Tree). inst (raise u.vars) t ≡ cond (has_num s.vars v.num) (at v) t) forth h.general));
      }

  becomes : (at there : Substitution) (v : TyVar) → IsHere at v × AllVars (IsThere there) (f v) → Becomes f (IsPair (moved f m) (moved g n) (has_num s.vars) (has_num u.vars)) v
  becomes at there v h =
      let w = variable_of g (f v) v h.0.around in
      (w.0, w.1, pair_of at there v w.0 w.1 (ap (inst g) (sym w.1) ∙ h.0.around) h.0 (subst (λ (t : Tree). AllVars (IsThere there) t) w.1 h.1))

  module _ (forth : Leads a f s.body u.body) (back : Leads b g u.body s.body) (more : IsMoreGeneral a b f s u) (less : IsMoreGeneral b a g u s) (marked : AllVars (λ v. v.eq ≡ m v.num) s.body) (noted : AllVars (λ w. w.eq ≡ n w.num) u.body) where
    around : AllVars (λ v. inst g (f v) ≡ Variable v) s.body
    around =
        agree (λ v. inst g (f v)) Variable s.body
        (sym (inst_inst g f s.body) ∙ ap (inst g) (sym forth.1) ∙ sym back.1 ∙ sym (inst_id s.body))

    here : (at : Substitution) → AllVars (λ v. inst (raise u.vars) (f v) ≡ cond (has_num s.vars v.num) (at v) (f v)) s.body → AllVars (IsHere at) s.body
    here at general =
        vars_map (λ v. ((inst g (f v) ≡ Variable v) × (v.eq ≡ true → admits a (f v) ≡ true)) × ((v.eq ≡ m v.num) × (inst (raise u.vars) (f v) ≡ cond (has_num s.vars v.num) (at v) (f v)))) (IsHere at) s.body
        (λ v h. record { around = h.0.0; keeps = h.0.1; marked = h.1.0; general = h.1.1 })
        (vars_both _ _ s.body (vars_both _ _ s.body around forth.0) (vars_both _ _ s.body marked general))

    there : (at : Substitution) → AllVars (λ w. inst (raise s.vars) (g w) ≡ cond (has_num u.vars w.num) (at w) (g w)) u.body → AllVars (IsThere at) u.body
    there at general =
        vars_map (λ w. (w.eq ≡ true → admits b (g w) ≡ true) × ((w.eq ≡ n w.num) × (inst (raise s.vars) (g w) ≡ cond (has_num u.vars w.num) (at w) (g w)))) (IsThere at) u.body
        (λ w h. record { keeps = h.0; marked = h.1.0; general = h.1.1 })
        (vars_both _ _ u.body back.0 (vars_both _ _ u.body noted general))

    -- the variables of the one are those of the other with other numbers
    pub renamed : AllVars (Becomes f (IsPair (moved f m) (moved g n) (has_num s.vars) (has_num u.vars))) s.body
    renamed =
        let up = raised_vars a b f g s u forth.1 more in
        let down = raised_vars b a g f u s back.1 less in
        vars_map (λ v. IsHere up.0 v × AllVars (IsThere down.0) (f v)) (Becomes f (IsPair (moved f m) (moved g n) (has_num s.vars) (has_num u.vars))) s.body (becomes up.0 down.0)
        (vars_both _ _ s.body (here up.0 up.1) (vars_under (IsThere down.0) f s.body (subst (λ (t : Tree). AllVars (IsThere down.0) t) forth.1 (there down.0 down.1))))
