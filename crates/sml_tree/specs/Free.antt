-- The variables that a node binds, and those that are free in it.
use Rattle.std.specs.Prelude.{ℕ, List, [], ◌∷◌}
use Rattle.sml_tree.specs.declared.bare.Node.{Node}
use Rattle.sml_tree.specs.declared.bare.Node.TheVariants as node
use Rattle.sml_tree.specs.declared.bare.Con.{Con}
use Rattle.sml_tree.specs.declared.bare.Con.TheVariants as con
use Rattle.sml_tree.specs.declared.bare.Field.{Field}
use Rattle.sml_tree.specs.declared.bare.Rule.{Rule}
use Rattle.sml_tree.specs.declared.bare.Binding.{Binding}
use Rattle.sml_tree.specs.declared.bare.RecBinding.{RecBinding}
use Rattle.sml_tree.specs.Sets.{union, union_over, without}
use Rattle.sml_tree.specs.BareParts.{from_parts}

-- An exception constructor that the user declares or renames is a variable. No other constructor is one.
abbrev pub exception_of : Con → List ℕ
exception_of (con.Exn x takes) = x.0 ∷ []
exception_of _ = []

abbrev pub names_of : List RecBinding → List ℕ
names_of bindings = union_over (λ b. b.name.0 ∷ []) bindings

-- ---- The variables that a pattern or a declaration binds

abbrev pub binds_of : (ℕ → List ℕ) → Node → List ℕ
binds_of binds (node.PatVar x) = x.0 ∷ []
binds_of binds (node.PatApp c q) = binds q
binds_of binds (node.PatRecord fields) = union_over (λ f. binds f.node) fields
binds_of binds (node.PatTyped q ty) = binds q
binds_of binds (node.PatAs x q) = union (x.0 ∷ []) (binds q)
binds_of binds (node.PatAsCon x q) = union (x.0 ∷ []) (binds q)
binds_of binds (node.Val tyvars bindings) = union_over (λ b. binds b.pat) bindings
binds_of binds (node.ValRec tyvars bindings) = names_of bindings
binds_of binds (node.Exception x ty) = x.0 ∷ []
binds_of binds (node.SameException x c) = x.0 ∷ []
binds_of binds (node.NoException x) = x.0 ∷ []
binds_of binds _ = []

abbrev pub binds : List Node → ℕ → List ℕ
binds = from_parts [] (λ part i. binds_of part)

-- ---- Free variables

-- of the fields of a record
abbrev pub free_fields : (ℕ → List ℕ) → List Field → List ℕ
free_fields free fields = union_over (λ f. free f.node) fields

module _ (binds : ℕ → List ℕ) (free : ℕ → List ℕ) where
  -- of a pattern or a declaration and what it stands before
  abbrev pub scoped : ℕ → ℕ → List ℕ
  scoped q e = union (free q) (without (free e) (binds q))

  -- of a match
  abbrev pub free_match : List Rule → List ℕ
  free_match rules = union_over (λ r. scoped r.pat r.body) rules

  abbrev pub bound_by : List Binding → List ℕ
  bound_by bindings = union_over (λ b. binds b.pat) bindings

  -- of what a value declaration does behind the right side of b: the patterns from b on, the right sides after b, and what
  -- the body uses that the patterns from b on don't bind
  abbrev pub free_rest : Binding → List Binding → ℕ → List ℕ
  free_rest b later body =
      union (union_over (λ c. free c.pat) (b ∷ later)) (union (union_over (λ c. free c.right) later) (without (free body) (bound_by (b ∷ later))))

  -- of a node
  abbrev pub free_of : Node → List ℕ
  free_of (node.Var x) = x.0 ∷ []
  free_of (node.Constructor c) = exception_of c
  free_of (node.Record fields) = free_fields free fields
  free_of (node.App f a) = union (free f) (free a)
  free_of (node.Case e rules) = union (free e) (free_match rules)
  free_of (node.Fn rules) = free_match rules
  free_of (node.Raise e) = free e
  free_of (node.Handle e rules) = union (free e) (free_match rules)
  free_of (node.Typed e ty) = free e
  free_of (node.Let d e) = scoped d e
  free_of (node.PatCon c) = exception_of c
  free_of (node.PatApp c q) = union (exception_of c) (free q)
  free_of (node.PatRecord fields) = free_fields free fields
  free_of (node.PatTyped q ty) = free q
  free_of (node.PatAs x q) = free q
  free_of (node.PatAsCon x q) = free q
  free_of (node.Val tyvars bindings) = union_over (λ b. union (free b.pat) (free b.right)) bindings
  free_of (node.ValRec tyvars bindings) = without (union_over (λ b. free b.right) bindings) (names_of bindings)
  free_of (node.SameException x c) = exception_of c
  free_of _ = []

abbrev pub free : List Node → ℕ → List ℕ
free nodes = from_parts [] (λ part i. free_of (binds nodes) part) nodes
