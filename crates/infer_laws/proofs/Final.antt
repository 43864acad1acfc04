-- What is bound, with renames for explicit type variables.
use Rattle.std.proofs.Common.{◌≡◌, ℕ, ◌+◌, Bool, true, false, cond, List, [], ◌∷◌, Option, Some, None, refl, ap, ◌∙◌, subst, nat_eq, inl, inr, ◌⊎◌}
use Rattle.std.specs.List.{AllByRecursion, find}
use Rattle.std.proofs.lemmas.Bool.{eqb-true}
use Rattle.sml_tree.specs.declared.bare.Bare.{Bare}
use Rattle.sml_types.specs.declared.types.Ty.{Ty}
use Rattle.sml_types.specs.declared.types.TyVar.{TyVar}
use Rattle.sml_types.specs.declared.types.TyForm.{TyForm}
use Rattle.sml_types.specs.Tree.{Tree, Variable, AllVars}
use Rattle.sml_types.specs.TypeExps.{explicit}
use Rattle.sml_unify.specs.declared.resolve.Rename.{Rename}
use Rattle.sml_unify.specs.Solved.{IsSolved}
use Rattle.sml_unify.specs.Resolve.{renamed, renamed_as, led_to}
use Rattle.sml_unify.proofs.Known.{meant_known}
use Rattle.infer_state.specs.declared.declared.Starts.{Starts}
use Rattle.infer_state.specs.Variables.{AreLaidOut}
use Rattle.infer_state.specs.Fits.{IsFormVar}
use Rattle.infer_laws.specs.Final.{IsForExplicit, FinalIsRenamed}
use Rattle.infer_laws.specs.Principal.{IsExplicitFor}

-- what a search finds has what each item has, and what is looked for
record IsHit (P : Rename → Type 0) (num : ℕ) (o : Option Rename) : Type 0 where
  pub item : Rename
  pub is : o ≡ Some item
  pub holds : P item
  pub number : item.from ≡ num

found : (P : Rename → Type 0) (num : ℕ) (renames : List Rename) → AllByRecursion P renames → (find (λ r. nat_eq r.from num) renames ≡ None) ⊎ IsHit P num (find (λ r. nat_eq r.from num) renames)
found P num [] h = inl refl
found P num (r ∷ renames) h = by (nat_eq r.from num) refl (found P num renames h.1)
  where
    by : (b : Bool) → nat_eq r.from num ≡ b → (find (λ q. nat_eq q.from num) renames ≡ None) ⊎ IsHit P num (find (λ q. nat_eq q.from num) renames) → (cond b (Some r) (find (λ q. nat_eq q.from num) renames) ≡ None) ⊎ IsHit P num (cond b (Some r) (find (λ q. nat_eq q.from num) renames))
    by true e rest = inr (record { item = r; is = refl; holds = h.0; number = eqb-true r.from num e })
    by false e rest = rest

module _ (p : Bare) (forms : List TyForm) (bound : List (Option Ty)) (starts : Starts) (solved : IsSolved forms bound) (laid : AreLaidOut p forms starts) where
  -- the variable of a number that an explicit one stands for is that variable
  same_var : (w : TyVar) (r : Rename) (x : IsForExplicit p forms bound r) → IsFormVar forms w → r.from ≡ w.num → x.from ≡ w
  same_var w r x k e =
      let known = subst (λ (t : Tree). AllVars (IsFormVar forms) t) x.stands (meant_known forms bound solved (explicit p.tyvars x.number) (starts.explicit + x.number, laid.explicit_ones x.number x.there)) in
      solved.named known.0 k.0 x.from w known.1 k.1 (x.is ∙ e)

  chosen : (w : TyVar) (o : Option Rename) → IsFormVar forms w → (o ≡ None) ⊎ IsHit (IsForExplicit p forms bound) w.num o → IsExplicitFor p forms bound w (Variable (renamed_as w (led_to o)))
  chosen w o k (inl e) = inl (ap (λ q. Variable (renamed_as w (led_to q))) e)
  chosen w o k (inr hit) =
      let x = hit.holds in
      inr (x.number, x.there, ap (λ q. Variable (renamed_as w (led_to q))) hit.is ∙ ap Variable x.to, x.stands ∙ ap Variable (same_var w hit.item x k hit.number))

pub final_is_renamed : (p : Bare) (forms : List TyForm) (bound : List (Option Ty)) → FinalIsRenamed p forms bound
final_is_renamed p forms bound starts renames solved laid are =
    record {
      renames = renamed renames;
      is = λ v. refl;
      only = λ w k. chosen p forms bound starts solved laid w (find (λ r. nat_eq r.from w.num) renames) k (found (IsForExplicit p forms bound) w.num renames are);
    }
