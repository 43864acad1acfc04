-- Runs of types by number that have all their parts in them.
use Rattle.std.specs.Prelude.{◌≡◌, ℕ, ◌≤◌, cond, nat_lt, Some, List, [], ◌∷◌, map, slice_get}
use Rattle.std.specs.List.{AllByRecursion}
use Rattle.sml_tree.specs.declared.bare.TypeExp.{TypeExp}
use Rattle.sml_tree.specs.declared.bare.TypeExp.TheVariants as exp
use Rattle.sml_types.specs.declared.types.TyForm.{TyForm}
use Rattle.sml_types.specs.Forms.{parts_of}

-- the numbers of a written type's parts, in order
abbrev pub exp_parts : TypeExp → List ℕ
exp_parts (exp.Var u) = []
exp_parts (exp.Record fields) = map (λ f. f.ty) fields
exp_parts (exp.Arrow a b) = a ∷ b ∷ []
exp_parts (exp.Named n args) = args
exp_parts (exp.Abbreviation k args) = args
exp_parts (exp.UnitOf args) = args

-- the least of a number and those of a list
abbrev pub least_of : ℕ → List ℕ → ℕ
least_of low [] = low
least_of low (c ∷ cs) = least_of (cond (nat_lt c low) c low) cs

-- the forms of these numbers have no part before the first
abbrev pub IsSegment : List TyForm → ℕ → ℕ → Type 0
IsSegment forms first last = (i : ℕ) (form : TyForm) → first ≤ i → i ≤ last → slice_get forms i ≡ Some form → AllByRecursion (λ c. first ≤ c) (parts_of form)

abbrev pub IsWrittenSegment : List TypeExp → ℕ → ℕ → Type 0
IsWrittenSegment exps first last = (i : ℕ) (e : TypeExp) → first ≤ i → i ≤ last → slice_get exps i ≡ Some e → AllByRecursion (λ c. first ≤ c) (exp_parts e)
