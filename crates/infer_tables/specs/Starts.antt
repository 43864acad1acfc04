-- The forms of the variables from which inference starts.
use Rattle.std.specs.Prelude.{◌≡◌, ℕ, ◌+◌, ◌<◌, true, false, Some, List, [], length, slice_get}
use Rattle.sml_tree.specs.declared.bare.Bare.{Bare}
use Rattle.sml_types.specs.declared.types.Ty.{Ty}
use Rattle.sml_types.specs.declared.types.TyVar.{TyVar}
use Rattle.sml_types.specs.declared.types.TyForm.{TyForm}
use Rattle.sml_types.specs.declared.types.TyForm.TheVariants.{Var}
use Rattle.sml_types.specs.TypeExps.{explicit}
use Rattle.sml_types.specs.Typing.{library_param}
use Rattle.sml_unify.specs.Steps.{IsLonger, AreBelow}
use Rattle.infer_parts.specs.LibraryRows.{library_forms, library_rows}
use Rattle.infer_state.specs.declared.declared.Starts.{Starts}
use Rattle.infer_state.specs.Variables.{first_new, AreLaidOut}
use Rattle.infer_tables.specs.declared.known.Known.{Known}

-- unmarked variables with the numbers from one on are put last
pub record AreAdded (old : List TyForm) (first count start : ℕ) (forms : List TyForm) : Type 0 where
  pub longer : IsLonger old forms
  pub added : (i : ℕ) → i < count → slice_get forms (start + i) ≡ Some (Var (record { num = first + i; eq = false }))
  pub below : AreBelow forms (first + count)
  pub marked : (i : ℕ) (v : TyVar) → slice_get forms i ≡ Some (Var v) → v.eq ≡ true → slice_get old i ≡ Some (Var v)

-- marked variables are explicit ones
abbrev pub AreMarked : Bare → List TyForm → Type 0
AreMarked p forms = (i : ℕ) (v : TyVar) → slice_get forms i ≡ Some (Var v) → v.eq ≡ true → v.num < length p.tyvars

-- the forms of explicit type variables, in order
abbrev pub AreExplicitForms : Bare → ℕ → ℕ → List TyForm → Type 0
AreExplicitForms p start count forms = (u : ℕ) → u < count → slice_get forms (start + u) ≡ Some (Var (explicit p.tyvars u))

-- item i has the form of number start + i
abbrev pub AreInRow : ℕ → List Ty → Type 0
AreInRow start stands = (u : ℕ) (t : Ty) → slice_get stands u ≡ Some t → t.0 ≡ start + u

-- the first variables, and nothing declared
pub record IsStarted (p : Bare) (forms : List TyForm) (k : Known) (starts : Starts) (next : ℕ) : Type 0 where
  pub library : IsLonger (library_forms (library_param p)) forms
  pub names : k.tables.names ≡ library_rows (library_param p)
  pub none : k.abbreviations ≡ []
  pub stands : length k.stands ≡ length p.tyvars
  pub row : AreInRow starts.explicit k.stands
  pub laid : AreLaidOut p forms starts
  pub below : AreBelow forms (first_new p)
  pub marked : AreMarked p forms
  pub counter : next ≡ first_new p
