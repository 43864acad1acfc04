-- What the checks of each form of node say of it.
use Rattle.std.proofs.Common.{◌≡◌, ℕ, ◌<◌, true, List, [], ◌∷◌, length, Option, Some, Result, refl, sym, ap, ◌∙◌, subst}
use Rattle.std.specs.Prelude.{IfOk, get_or, slice_get}
use Rattle.std.specs.List.{AllByRecursion}
use Rattle.std.proofs.lemmas.Result.{IfOk-weaker}
use Rattle.smlc_base.specs.declared.names.Name.{Name}
use Rattle.sml_tree.specs.declared.bare.Bare.{Bare}
use Rattle.sml_tree.specs.declared.bare.Con.{Con}
use Rattle.sml_tree.specs.declared.bare.Rule.{Rule}
use Rattle.sml_tree.specs.declared.bare.Binding.{Binding}
use Rattle.sml_tree.specs.declared.bare.RecBinding.{RecBinding}
use Rattle.sml_tree.specs.declared.bare.Node.{Node}
use Rattle.sml_tree.specs.declared.bare.Node.TheVariants as node
use Rattle.sml_types.specs.declared.types.TyVar.{TyVar}
use Rattle.sml_types.specs.declared.types.TyForm.{TyForm}
use Rattle.sml_types.specs.Escape.{mentions}
use Rattle.sml_types.specs.Poly.{Poly, Context}
use Rattle.sml_types.specs.Typing.{Typing}
use Rattle.sml_unify.specs.declared.resolve.Rename.{Rename}
use Rattle.sml_unify.specs.Solved.{Substitution}
use Rattle.infer_state.specs.declared.unknowns.Unknowns.{Unknowns}
use Rattle.infer_state.specs.declared.declared.Declared.{Declared}
use Rattle.infer_state.specs.declared.failure.Failure.{Failure}
use Rattle.infer_state.specs.declared.settled.Settled.{Settled}
use Rattle.infer_state.specs.Fits.{settled_at}
use Rattle.infer_state.specs.Names.{names_bound}
use Rattle.infer_state.specs.Typings.{IsFinished, AreMatched}
use Rattle.infer_state.specs.Variables.{node_var}
use Rattle.infer_closing.specs.Closing.{meaning}
use Rattle.infer_checks.specs.Checked.{ending, ended, IsNoTypeDeclaration, IsRefused}
use Rattle.infer_checks.specs.Ending.{HasVars, AreMatchedNames, IsKnownIfNamed}
use Rattle.infer_checks.specs.Node.{IsGiven, NoneHas, IsMatchKnown, IsDeclarationKnown, Asks, IsGeneralised, IsDeclaredWell, MayBeDeclared}
use Rattle.infer_laws.proofs.Rows.{some_eq}
use Rattle.infer_checks.proofs.ListFacts.{get_there}
use Rattle.infer_checks.proofs.NodeLaws.{rules_finished, let_finished, exception_finished, bindings_finished, group_finished, explicit_finished, names_known, rules_refused, let_refused, declaration_refused}
use Rattle.infer_checks.proofs.Verdicts.{refused_weaker, both_of}

-- ---- Forms

-- the node at a number that is there
pub form_there : (nodes items : List Node) (i : ℕ) (n : Node) → items ≡ nodes → i < length nodes → n ≡ get_or items i n → slice_get nodes i ≡ Some n
form_there nodes items i n same l is = get_there nodes i n l ∙ ap Some (sym (ap (λ (ns : List Node). get_or ns i n) same)) ∙ ap Some (sym is)

pub form_is : (nodes : List Node) (i : ℕ) (n other : Node) → slice_get nodes i ≡ Some n → slice_get nodes i ≡ Some other → n ≡ other
form_is nodes i n other e h = some_eq n other (sym e ∙ h)

module _ (p : Bare) (t : Typing) (c : Context) (i : ℕ) (n : Node) where
  pub case_finished : (e : ℕ) (rules : List Rule) → n ≡ node.Case e rules → AreMatched p t c rules → IsFinished p t c i n
  case_finished e rules is h = subst (λ (k : Node). IsFinished p t c i k) (sym is) h

  pub fn_finished : (rules : List Rule) → n ≡ node.Fn rules → AreMatched p t c rules → IsFinished p t c i n
  fn_finished rules is h = subst (λ (k : Node). IsFinished p t c i k) (sym is) h

  pub handle_finished : (e : ℕ) (rules : List Rule) → n ≡ node.Handle e rules → AreMatched p t c rules → IsFinished p t c i n
  handle_finished e rules is h = subst (λ (k : Node). IsFinished p t c i k) (sym is) h

  pub case_asks : (e : ℕ) (rules : List Rule) → n ≡ node.Case e rules → Asks p t c i n → IsMatchKnown p t c rules
  case_asks e rules is h = subst (λ (k : Node). Asks p t c i k) is h

  pub fn_asks : (rules : List Rule) → n ≡ node.Fn rules → Asks p t c i n → IsMatchKnown p t c rules
  fn_asks rules is h = subst (λ (k : Node). Asks p t c i k) is h

  pub handle_asks : (e : ℕ) (rules : List Rule) → n ≡ node.Handle e rules → Asks p t c i n → IsMatchKnown p t c rules
  handle_asks e rules is h = subst (λ (k : Node). Asks p t c i k) is h

-- all others need nothing
pub other_finished : (p : Bare) (t : Typing) (c : Context) (i : ℕ) (n : Node) → IsNoTypeDeclaration n → ((e : ℕ) (rules : List Rule) → n ≡ node.Case e rules → ⊥) → ((rules : List Rule) → n ≡ node.Fn rules → ⊥) → ((e : ℕ) (rules : List Rule) → n ≡ node.Handle e rules → ⊥) → ((k e : ℕ) → n ≡ node.Let k e → ⊥) → ((us : List ℕ) (bindings : List Binding) → n ≡ node.Val us bindings → ⊥) → ((us : List ℕ) (bindings : List RecBinding) → n ≡ node.ValRec us bindings → ⊥) → ((x : Name) (arg : Option ℕ) → n ≡ node.Exception x arg → ⊥) → ((x : Name) (k : Con) → n ≡ node.SameException x k → ⊥) → IsFinished p t c i n
other_finished p t c i (node.Case e rules) none case fn handle let_ val rec exn same = absurd (case e rules refl)
other_finished p t c i (node.Fn rules) none case fn handle let_ val rec exn same = absurd (fn rules refl)
other_finished p t c i (node.Handle e rules) none case fn handle let_ val rec exn same = absurd (handle e rules refl)
other_finished p t c i (node.Let k e) none case fn handle let_ val rec exn same = absurd (let_ k e refl)
other_finished p t c i (node.Val us bindings) none case fn handle let_ val rec exn same = absurd (val us bindings refl)
other_finished p t c i (node.ValRec us bindings) none case fn handle let_ val rec exn same =
    absurd (rec us bindings refl)
other_finished p t c i (node.Exception x arg) none case fn handle let_ val rec exn same = absurd (exn x arg refl)
other_finished p t c i (node.SameException x k) none case fn handle let_ val rec exn same = absurd (same x k refl)
other_finished p t c i (node.Type bindings) none case fn handle let_ val rec exn same = absurd none
other_finished p t c i (node.Datatype bindings) none case fn handle let_ val rec exn same = absurd none
other_finished p t c i _ none case fn handle let_ val rec exn same = tt

module _ (p : Bare) (d : Declared) (contexts : ℕ → Option Context) (settled : List (Option Settled)) (general : List (Option (List TyVar))) (s : Unknowns) (renames : List Rename) (given : IsGiven p d contexts settled general s renames) (i : ℕ) (n : Node) (result : Result Unit Failure) where
  abbrev m : Substitution
  m = meaning s

  abbrev f : Substitution
  f = ending s renames

  abbrev known : ℕ → Option Poly
  known x = settled_at s.types settled x

  abbrev t : Typing
  t = ended p d contexts settled general s renames

  -- where the node stands this holds
  abbrev Here : (Context → Type 0) → Type 0
  Here P = (c : Context) → contexts i ≡ Some c → P c

  abbrev Ends : Type 0
  Ends = IfOk result (λ _. IsNoTypeDeclaration n → Here (λ c. IsFinished p t c i n))

  abbrev Refuses : Type 0
  Refuses = IsRefused result (Here (λ c. NoneHas p d settled s (λ other. Asks p other c i n)))

  abbrev names : ℕ → List ℕ
  names k = names_bound p.nodes k

  -- ---- Matches

  module _ (rules : List Rule) where
    pub rules_end : ((c : Context) → AreMatched p t c rules → IsFinished p t c i n) → IfOk result (λ _. Here (λ c. AllByRecursion (λ r. AreMatchedNames p known m c (names r.pat)) rules)) → Ends
    rules_end back h =
        IfOk-weaker result (λ _. Here (λ c. AllByRecursion (λ r. AreMatchedNames p known m c (names r.pat)) rules)) (λ _. IsNoTypeDeclaration n → Here (λ c. IsFinished p t c i n))
        (λ x k none c q. back c (rules_finished p d contexts settled general s renames given c rules (k c q)))
        h

    pub rules_refuse : ((other : Typing) (c : Context) → Asks p other c i n → IsMatchKnown p other c rules) → IsRefused result (Here (λ c. AllByRecursion (λ r. AllByRecursion (IsKnownIfNamed p m c) (names r.pat)) rules → ⊥)) → Refuses
    rules_refuse ask h =
        refused_weaker result (Here (λ c. AllByRecursion (λ r. AllByRecursion (IsKnownIfNamed p m c) (names r.pat)) rules → ⊥)) (Here (λ c. NoneHas p d settled s (λ other. Asks p other c i n)))
        (λ k c q other g goes a. rules_refused p d contexts settled general s renames given c rules (k c q) other g goes (ask other c a))
        h

  -- ---- Expressions behind declarations

  module _ (k e : ℕ) (is : n ≡ node.Let k e) where
    pub let_ends : IfOk result (λ _. Here (λ c. mentions c.type_names (m (node_var p i)) ≡ true)) → Ends
    let_ends h =
        IfOk-weaker result (λ _. Here (λ c. mentions c.type_names (m (node_var p i)) ≡ true)) (λ _. IsNoTypeDeclaration n → Here (λ c. IsFinished p t c i n))
        (λ x h none c q. subst (λ (k : Node). IsFinished p t c i k) (sym is) (let_finished p d contexts settled general s renames given c i (h c q)))
        h

    pub let_refuses : i < length p.nodes → IsRefused result (Here (λ c. mentions c.type_names (m (node_var p i)) ≡ true → ⊥)) → Refuses
    let_refuses l h =
        refused_weaker result (Here (λ c. mentions c.type_names (m (node_var p i)) ≡ true → ⊥)) (Here (λ c. NoneHas p d settled s (λ other. Asks p other c i n)))
        (λ k c q other g goes a. let_refused p d contexts settled general s renames given c i l (k c q) other g goes (subst (λ (k : Node). Asks p other c i k) is a))
        h

  -- ---- Exception constructors

  exception_ends : (x : ℕ) → ((c : Context) → (t.schemes x).vars ≡ [] → IsFinished p t c i n) → IfOk result (λ _. (forms : List TyForm) → HasVars [] (settled_at forms settled x)) → Ends
  exception_ends x back h =
      IfOk-weaker result (λ _. (forms : List TyForm) → HasVars [] (settled_at forms settled x)) (λ _. IsNoTypeDeclaration n → Here (λ c. IsFinished p t c i n))
      (λ u k none c q. back c (exception_finished p d contexts settled general s renames given x (k s.types)))
      h

  pub new_exception_ends : (x : Name) (arg : Option ℕ) → n ≡ node.Exception x arg → IfOk result (λ _. (forms : List TyForm) → HasVars [] (settled_at forms settled x.0)) → Ends
  new_exception_ends x arg is h =
      exception_ends x.0 (λ c k. subst (λ (l : Node). IsFinished p t c i l) (sym is) k) h

  pub same_exception_ends : (x : Name) (k : Con) → n ≡ node.SameException x k → IfOk result (λ _. (forms : List TyForm) → HasVars [] (settled_at forms settled x.0)) → Ends
  same_exception_ends x k is h = exception_ends x.0 (λ c k. subst (λ (l : Node). IsFinished p t c i l) (sym is) k) h

  pub nothing_refuses : IsRefused result ⊥ → Refuses
  nothing_refuses h =
      refused_weaker result ⊥ (Here (λ c. NoneHas p d settled s (λ other. Asks p other c i n))) (λ k. absurd k) h

  -- ---- Value declarations

  refuses : (us : List ℕ) → ((other : Typing) (c : Context) → Asks p other c i n → IsDeclarationKnown p other us c i) → IsRefused result (Here (λ c. MayBeDeclared p known m f c us (names i) → ⊥)) → Refuses
  refuses us ask h =
      refused_weaker result (Here (λ c. MayBeDeclared p known m f c us (names i) → ⊥)) (Here (λ c. NoneHas p d settled s (λ other. Asks p other c i n)))
      (λ k c q other g goes a. declaration_refused p d contexts settled general s renames given us c i (k c q) other g goes (ask other c a))
      h

  module _ (us : List ℕ) (bindings : List Binding) (is : n ≡ node.Val us bindings) where
    pub val_ends : IfOk result (λ _. Here (λ c. AllByRecursion (λ b. IsGeneralised p known f general c b.right (names b.pat)) bindings)) → IfOk result (λ _. Here (λ c. IsDeclaredWell p known m f c us (names i))) → Ends
    val_ends h k =
        both_of (Here (λ c. AllByRecursion (λ b. IsGeneralised p known f general c b.right (names b.pat)) bindings)) (Here (λ c. IsDeclaredWell p known m f c us (names i))) (IsNoTypeDeclaration n → Here (λ c. IsFinished p t c i n)) result
        (λ a b none c q. subst (λ (l : Node). IsFinished p t c i l) (sym is) (
          bindings_finished p d contexts settled general s renames given c bindings (a c q),
          explicit_finished p d contexts settled general s renames given c us (names i) (b c q),
          names_known p d contexts settled general s renames given c us (names i) (b c q),
        ))
        h k

    pub val_refuses : IsRefused result (Here (λ c. MayBeDeclared p known m f c us (names i) → ⊥)) → Refuses
    val_refuses h = refuses us (λ other c a. subst (λ (l : Node). Asks p other c i l) is a) h

  module _ (us : List ℕ) (bindings : List RecBinding) (is : n ≡ node.ValRec us bindings) where
    pub rec_ends : IfOk result (λ _. Here (λ c. AllByRecursion (λ b. IsGeneralised p known f general c b.right (b.name.0 ∷ [])) bindings)) → IfOk result (λ _. Here (λ c. IsDeclaredWell p known m f c us (names i))) → Ends
    rec_ends h k =
        both_of (Here (λ c. AllByRecursion (λ b. IsGeneralised p known f general c b.right (b.name.0 ∷ [])) bindings)) (Here (λ c. IsDeclaredWell p known m f c us (names i))) (IsNoTypeDeclaration n → Here (λ c. IsFinished p t c i n)) result
        (λ a b none c q. subst (λ (l : Node). IsFinished p t c i l) (sym is) (
          group_finished p d contexts settled general s renames given c bindings (a c q),
          explicit_finished p d contexts settled general s renames given c us (names i) (b c q),
          names_known p d contexts settled general s renames given c us (names i) (b c q),
        ))
        h k

    pub rec_refuses : IsRefused result (Here (λ c. MayBeDeclared p known m f c us (names i) → ⊥)) → Refuses
    rec_refuses h = refuses us (λ other c a. subst (λ (l : Node). Asks p other c i l) is a) h
