-- What is known before the nodes are looked at, and behind them.
use Rattle.std.proofs.Common.{◌≡◌, ℕ, ◌+◌, ◌<◌, List, [], length, Option, Some, subst, below_more}
use Rattle.std.specs.Prelude.{slice_get}
use Rattle.sml_tree.specs.declared.bare.Bare.{Bare}
use Rattle.sml_tree.specs.declared.bare.Node.{Node}
use Rattle.sml_types.specs.declared.types.TyVar.{TyVar}
use Rattle.sml_types.specs.Forms.{AreForms}
use Rattle.sml_types.specs.Poly.{Poly, Context}
use Rattle.sml_unify.specs.declared.resolve.Rename.{Rename}
use Rattle.infer_state.specs.declared.unknowns.Unknowns.{Unknowns}
use Rattle.infer_state.specs.declared.declared.Declared.{Declared}
use Rattle.infer_state.specs.declared.settled.Settled.{Settled}
use Rattle.infer_state.specs.Variables.{AreLaidOut}
use Rattle.infer_state.specs.Steps.{IsState}
use Rattle.infer_state.specs.Fits.{settled_at}
use Rattle.infer_state.specs.Typings.{IsProper, IsFinished}
use Rattle.infer_laws.specs.Principal.{AreSettledBelow}
use Rattle.infer_laws.proofs.Settled.{settled_named}
use Rattle.infer_closing.specs.Closing.{meaning}
use Rattle.infer_checks.specs.Checked.{AreEnding, AreFinishedBelow, IsChecked, IsUnchecked, IsNoTypeDeclaration, ending, ended}
use Rattle.infer_checks.specs.Ending.{AreFound, AreOwn, IsProperAt}
use Rattle.infer_checks.proofs.Renames.{explicit_stay, all_for_explicit, are_renames, ending_solves, solution_owns}

module _ (p : Bare) (d : Declared) (contexts : ℕ → Option Context) (settled : List (Option Settled)) (general : List (Option (List TyVar))) (s : Unknowns) (forms : AreForms s.types) (state : IsState d.tables.names s) (laid : AreLaidOut p s.types d.starts) where
  all_proper : (renames : List Rename) → ((x : ℕ) → x < length settled → IsProperAt (ending s renames) (settled_at s.types settled x)) → (x : ℕ) (q : Poly) → settled_at s.types settled x ≡ Some q → IsProper (ending s renames) q
  all_proper renames each x q e = subst (IsProperAt (ending s renames)) e (each x (settled_named s.types settled x q e))

  -- the explicit type variables that were found in the places of others, where all settled schemes keep their variables
  pub ending_of : (renames : List Rename) → AreFound p (meaning s) renames → length renames ≡ length p.tyvars → ((x : ℕ) → x < length settled → IsProperAt (ending s renames) (settled_at s.types settled x)) → AreEnding p d contexts settled general s renames
  ending_of renames found count each =
      record {
        solution = ending_solves p s d.starts renames forms state.bindings laid found count d.tables.names state;
        explicit_ones = explicit_stay p s d.starts renames forms state.bindings laid found count;
        renames_agree = are_renames p s d.starts renames forms state.bindings laid found count;
        for_explicit = all_for_explicit p s d.starts renames forms state.bindings laid found count;
        proper = all_proper renames each;
      }

  -- where explicit type variables stand for what they may not, no typing goes with what was inferred
  pub not_own : (count : ℕ) → (AreOwn p (meaning s) → ⊥) → IsUnchecked p d contexts settled general s count
  not_own count none t g typing fits solution suits same binds = none (solution_owns p s d.starts [] forms state.bindings laid d.tables.names g state solution fits.explicit_ones)

module _ (p : Bare) (d : Declared) (contexts : ℕ → Option Context) (settled : List (Option Settled)) (general : List (Option (List TyVar))) (s : Unknowns) (renames : List Rename) where
  abbrev IsFinishedAt : ℕ → Type 0
  IsFinishedAt i = (n : Node) (c : Context) → slice_get p.nodes i ≡ Some n → IsNoTypeDeclaration n → contexts i ≡ Some c → IsFinished p (ended p d contexts settled general s renames) c i n

  -- one node more
  pub finished_next : (k : ℕ) → AreFinishedBelow p d contexts settled general s renames k → IsFinishedAt k → AreFinishedBelow p d contexts settled general s renames (k + 1)
  finished_next k before last i n c l = below_more IsFinishedAt k (λ j m n c. before j n c m) last i l n c

  pub checked_of : (count : ℕ) → AreEnding p d contexts settled general s renames → AreSettledBelow p count (settled_at s.types settled) → AreFinishedBelow p d contexts settled general s renames count → IsChecked p d contexts settled general s count renames
  checked_of count e names finished =
      record {
        solution = e.solution;
        explicit_ones = e.explicit_ones;
        renames_agree = e.renames_agree;
        for_explicit = e.for_explicit;
        proper = e.proper;
        settled_names = names;
        finished = finished;
      }
