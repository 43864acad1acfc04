-- Numbers of what stands open, gathered.
use Rattle.std.proofs.Common.{◌≡◌, ℕ, true, false, List, [], ◌∷◌, ◌++◌, refl, sym, ◌∙◌, subst, inl, inr, ◌⊎◌, nat_eq}
use Rattle.std.specs.Prelude.{◌||◌}
use Rattle.std.proofs.lemmas.List.Folds.{list_any-append}
use Rattle.sml_types.specs.declared.types.TyVar.{TyVar}
use Rattle.sml_types.specs.declared.types.TyForm.{TyForm}
use Rattle.sml_types.specs.Tree.{Tree, Variable}
use Rattle.sml_types.specs.Forms.{tree}
use Rattle.sml_types.specs.Poly.{poly, is_in, has_num}
use Rattle.sml_types.specs.Typing.{IsAmong}
use Rattle.sml_types.proofs.TreeFacts.{either, or_left, or_right, inst_same, inst_id}
use Rattle.sml_unify.specs.Solved.{Substitution, meant, under}
use Rattle.sml_unify.specs.Variables.{AreVariables}
use Rattle.sml_unify.proofs.Meant.{meant_free}
use Rattle.infer_closing.proofs.Trees.{among_front, among_back, among_either, variables_all, variables_stand}
use Rattle.infer_checks.specs.Ending.{Lists, IsOpenIn, IsOpenAmong, IsOpenNumber}

pub in_append : (xs ys : List ℕ) (a : ℕ) → is_in (xs ++ ys) a ≡ (is_in xs a || is_in ys a)
in_append xs ys a = list_any-append (nat_eq a) xs ys

-- two lists, one behind the other
pub lists_both : (P Q R : ℕ → Type 0) (xs ys : List ℕ) → Lists P xs → Lists Q ys → ((a : ℕ) → R a → P a ⊎ Q a) → ((a : ℕ) → P a ⊎ Q a → R a) → Lists R (xs ++ ys)
lists_both P Q R xs ys h k to from =
    record {
      all = λ a r. in_append xs ys a ∙ side a (to a r);
      only = λ a e. either (is_in xs a) (is_in ys a) (R a) (sym (in_append xs ys a) ∙ e) (λ q. from a (inl (h.only a q))) (λ q. from a (inr (k.only a q)));
    }
  where
    side : (a : ℕ) → P a ⊎ Q a → (is_in xs a || is_in ys a) ≡ true
    side a (inl r) = or_left (is_in xs a) (is_in ys a) (h.all a r)
    side a (inr r) = or_right (is_in xs a) (is_in ys a) (k.all a r)

-- nothing stands open in one of these
pub lists_none : (f : Substitution) (vars : List TyVar) (u : TyVar) → has_num vars u.num ≡ true → Lists (IsOpenIn f vars u) []
lists_none f vars u e =
    record { all = λ a h. let clash : true ≡ false = sym e ∙ h.0 in cc; only = λ a h. cc }

pub lists_some : (f : Substitution) (vars : List TyVar) (u : TyVar) (xs : List ℕ) (P : ℕ → Type 0) → has_num vars u.num ≡ false → ((a : ℕ) → IsOpenIn f vars u a → P a) → ((a : ℕ) → P a → IsOpenIn f vars u a) → Lists P xs → Lists (IsOpenIn f vars u) xs
lists_some f vars u xs P e to from l = record { all = λ a h. l.all a (to a h); only = λ a h. from a (l.only a h) }

pub lists_first : (f : Substitution) (vars : List TyVar) → Lists (IsOpenAmong f vars []) []
lists_first f vars = record { all = λ a h. absurd h.1; only = λ a h. cc }

pub lists_step : (f : Substitution) (vars us : List TyVar) (u : TyVar) (xs ys : List ℕ) → Lists (IsOpenAmong f vars us) xs → Lists (IsOpenIn f vars u) ys → Lists (IsOpenAmong f vars (us ++ u ∷ [])) (xs ++ ys)
lists_step f vars us u xs ys h k =
    lists_both (IsOpenAmong f vars us) (IsOpenIn f vars u) (IsOpenAmong f vars (us ++ u ∷ [])) xs ys h k
    (λ a r. to a r.0 r.2 (among_either us (u ∷ []) r.0 r.1))
    (λ a r. from a r)
  where
    to : (a : ℕ) (v : TyVar) → IsOpenIn f vars v a → IsAmong v us ⊎ IsAmong v (u ∷ []) → IsOpenAmong f vars us a ⊎ IsOpenIn f vars u a
    to a v o (inl m) = inl (v, m, o)
    to a v o (inr (inl e)) = inr (subst (λ w. IsOpenIn f vars w a) e o)
    to a v o (inr (inr m)) = absurd m

    from : (a : ℕ) → IsOpenAmong f vars us a ⊎ IsOpenIn f vars u a → IsOpenAmong f vars (us ++ u ∷ []) a
    from a (inl (v, m, o)) = (v, among_front us (u ∷ []) v m, o)
    from a (inr o) = (u, among_back us (u ∷ []) u (inl refl), o)

-- what stands open in the variables of a scheme's type is what the scheme leaves open
pub lists_scheme : (f : Substitution) (vars us : List TyVar) (t : Tree) (xs : List ℕ) → AreVariables us t → Lists (IsOpenAmong f vars us) xs → Lists (IsOpenNumber f (poly vars t)) xs
lists_scheme f vars us t xs are l =
    record {
      all = λ a h. l.all a (h.0, variables_all us t are h.0 h.1, (h.2, h.3));
      only = λ a e. let r = l.only a e in (r.0, variables_stand us t are r.0 r.1, r.2.0, r.2.1);
    }

-- where nothing is bound all variables stand for themselves
pub nothing_bound : (forms : List TyForm) (i : ℕ) → under forms (meant forms []) i ≡ tree forms i
nothing_bound forms i = inst_same (meant forms []) Variable (tree forms i) (λ v e. meant_free forms [] v refl) ∙ inst_id (tree forms i)
