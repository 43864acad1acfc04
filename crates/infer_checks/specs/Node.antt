-- What is looked at at a node, and what a typing has there.
use Rattle.std.specs.Prelude.{◌≡◌, ℕ, ◌<◌, ◌⊎◌, true, Option, Some, List, [], ◌∷◌, length, get_or}
use Rattle.std.specs.List.{AllByRecursion}
use Rattle.sml_tree.specs.declared.bare.Bare.{Bare}
use Rattle.sml_tree.specs.declared.bare.Rule.{Rule}
use Rattle.sml_tree.specs.declared.bare.Node.{Node}
use Rattle.sml_tree.specs.declared.bare.Node.TheVariants as node
use Rattle.sml_types.specs.declared.types.TyVar.{TyVar}
use Rattle.sml_types.specs.Escape.{mentions, AreKnown}
use Rattle.sml_types.specs.Forms.{AreForms}
use Rattle.sml_types.specs.NonExpansive.{AreNonExpansive}
use Rattle.sml_types.specs.Poly.{Poly, Context}
use Rattle.sml_types.specs.Typing.{Typing, AreExplicit}
use Rattle.sml_unify.specs.declared.resolve.Rename.{Rename}
use Rattle.sml_unify.specs.Solved.{Substitution}
use Rattle.infer_state.specs.declared.unknowns.Unknowns.{Unknowns}
use Rattle.infer_state.specs.declared.declared.Declared.{Declared}
use Rattle.infer_state.specs.declared.settled.Settled.{Settled}
use Rattle.infer_state.specs.Steps.{IsState, IsSolution}
use Rattle.infer_state.specs.Fits.{Fits, AllSuit, AreThere, AreBodies, settled_at}
use Rattle.infer_state.specs.Names.{names_bound}
use Rattle.infer_state.specs.Typings.{var_at}
use Rattle.infer_state.specs.Variables.{AreLaidOut}
use Rattle.infer_checks.specs.Checked.{AreEnding, generals}
use Rattle.infer_checks.specs.Ending.{HasVars, IsNewAround, MayBeNew, IsNameKnown, IsKnownIfNamed, IsOpenNumber, IsOpenName}

-- what stands when the nodes are looked at
pub record IsGiven (p : Bare) (d : Declared) (contexts : ℕ → Option Context) (settled : List (Option Settled)) (general : List (Option (List TyVar))) (s : Unknowns) (renames : List Rename) : Type 0 where
  pub forms : AreForms s.types
  pub state : IsState d.tables.names s
  pub laid : AreLaidOut p s.types d.starts
  pub there : AreThere s.types settled
  pub bodies : AreBodies p s (settled_at s.types settled)
  pub ending : AreEnding p d contexts settled general s renames

-- ---- Other typings

-- a typing has a solution that goes with what is settled
pub record GoesWith (p : Bare) (d : Declared) (settled : List (Option Settled)) (s : Unknowns) (t : Typing) (g : Substitution) : Type 0 where
  pub fits : Fits p t g
  pub solution : IsSolution d.tables.names s g
  pub suits : AllSuit (settled_at s.types settled) g t

-- no typing that goes with what is settled has this
abbrev pub NoneHas : Bare → Declared → List (Option Settled) → Unknowns → (Typing → Type 0) → Type 0
NoneHas p d settled s P = (t : Typing) (g : Substitution) → GoesWith p d settled s t g → P t → ⊥

module _ (p : Bare) (t : Typing) where
  -- the types of the names of a match mention type names of the context alone
  abbrev pub IsMatchKnown : Context → List Rule → Type 0
  IsMatchKnown c rules = AllByRecursion (λ r. AreKnown t.schemes c.type_names (names_bound p.nodes r.pat)) rules

  -- so do those of a declaration, and its explicit type variables are new and stand free in none of them
  abbrev pub IsDeclarationKnown : List ℕ → Context → ℕ → Type 0
  IsDeclarationKnown us c i = AreExplicit p t us c (names_bound p.nodes i) × AreKnown t.schemes c.type_names (names_bound p.nodes i)

  -- what is looked at at a node
  abbrev pub Asks : Context → ℕ → Node → Type 0
  Asks c i (node.Case e rules) = IsMatchKnown c rules
  Asks c i (node.Fn rules) = IsMatchKnown c rules
  Asks c i (node.Handle e rules) = IsMatchKnown c rules
  Asks c i (node.Let d e) = mentions c.type_names (t.types i) ≡ true
  Asks c i (node.Val us bindings) = IsDeclarationKnown us c i
  Asks c i (node.ValRec us bindings) = IsDeclarationKnown us c i
  Asks c i _ = Unit {0}

-- ---- Value declarations

-- the variables that a right side generalises
abbrev pub general_vars : List (Option (List TyVar)) → ℕ → List TyVar
general_vars general right = get_or (generals general) right []

-- what a right side generalises is new around, and nothing unless it is non-expansive; and these names generalise the same
pub record IsGeneralised (p : Bare) (known : ℕ → Option Poly) (f : Substitution) (general : List (Option (List TyVar))) (c : Context) (right : ℕ) (names : List ℕ) : Type 0 where
  pub fresh : AllByRecursion (λ v. IsNewAround p known f c (var_at v (f v)).num) (general_vars general right)
  pub plain : (general_vars general right ≡ []) ⊎ AreNonExpansive p.nodes (right ∷ [])
  pub same : AllByRecursion (λ x. HasVars (general_vars general right) (known x)) names

-- a name is settled, and does not leave an explicit type variable open
abbrev pub IsLeftOut : (ℕ → Option Poly) → Substitution → ℕ → ℕ → Type 0
IsLeftOut known f x u = (q : Poly) × (known x ≡ Some q) × (IsOpenNumber f q u → ⊥)

-- a settled name does not leave this open, if it is an explicit type variable
abbrev pub MayBeLeftOut : Bare → (ℕ → Option Poly) → Substitution → ℕ → ℕ → Type 0
MayBeLeftOut p known f x u = u < length p.tyvars → IsOpenName known f x u → ⊥

abbrev pub AreLeftOut : (ℕ → Option Poly) → Substitution → List ℕ → List ℕ → Type 0
AreLeftOut known f us xs = AllByRecursion (λ x. AllByRecursion (IsLeftOut known f x) us) xs

abbrev pub MayBeAllLeftOut : Bare → (ℕ → Option Poly) → Substitution → List ℕ → List ℕ → Type 0
MayBeAllLeftOut p known f us xs = AllByRecursion (λ x. AllByRecursion (MayBeLeftOut p known f x) us) xs

-- the types of a declaration's names mention type names of the context alone, and its explicit type variables are new, and left open by none of the names
pub record IsDeclaredWell (p : Bare) (known : ℕ → Option Poly) (m f : Substitution) (c : Context) (us names : List ℕ) : Type 0 where
  pub mentioned : AllByRecursion (IsNameKnown p m c) names
  pub fresh : AllByRecursion (IsNewAround p known f c) us
  pub left_out : AreLeftOut known f us names

-- what of it a typing needs
pub record MayBeDeclared (p : Bare) (known : ℕ → Option Poly) (m f : Substitution) (c : Context) (us names : List ℕ) : Type 0 where
  pub mentioned : AllByRecursion (IsKnownIfNamed p m c) names
  pub fresh : AllByRecursion (MayBeNew p known f c) us
  pub left_out : MayBeAllLeftOut p known f us names
