-- The contexts of the nodes, as they are kept.
use Rattle.std.specs.Prelude.{◌≡◌, ℕ, Bool, true, ◌||◌, Option, Some, None, List, [], ◌∷◌, ◌++◌, length, slice_get}
use Rattle.sml_tree.specs.declared.bare.Node.{Node}
use Rattle.sml_tree.specs.declared.bare.Node.TheVariants.{Let}
use Rattle.sml_types.specs.Poly.{Context, is_in}
use Rattle.sml_types.specs.Library.{library_names}
use Rattle.infer_state.specs.Names.{Inside, inside, names_bound, parts_in, behind, AreEntered}
use Rattle.infer_scopes.specs.declared.chains.Cell.{Cell}
use Rattle.infer_scopes.specs.declared.scope.Scope.{Scope}
use Rattle.infer_scopes.specs.Chains.{chain, IsBelow, AreAmong, IsMore}

-- the lists, and the scope of each node that has one
pub record Stored : Type 0 where
  pub cells : List Cell
  pub scopes : List (Option Scope)

-- a context, and those of its names whose schemes may have free variables
pub record Standing : Type 0 where
  pub context : Context
  pub unclosed : List ℕ

abbrev pub standing : List Cell → Scope → Standing
standing cells s =
    record {
      context = record { type_names = chain cells s.type_names; tyvars = chain cells s.tyvars; names = chain cells s.names; own = chain cells s.own };
      unclosed = chain cells s.unclosed;
    }

abbrev pub standing_in : List Cell → Option (Option Scope) → Option Standing
standing_in cells (Some (Some s)) = Some (standing cells s)
standing_in cells _ = None

abbrev pub standings_of : Stored → ℕ → Option Standing
standings_of s i = standing_in s.cells (slice_get s.scopes i)

abbrev pub context_in : Option Standing → Option Context
context_in None = None
context_in (Some t) = Some t.context

-- the contexts of the nodes that have one
abbrev pub contexts_of : Stored → ℕ → Option Context
contexts_of s i = context_in (standings_of s i)

-- the lists of a scope stand there
pub record IsScope (cells : List Cell) (s : Scope) : Type 0 where
  pub type_names : IsBelow (length cells) s.type_names
  pub tyvars : IsBelow (length cells) s.tyvars
  pub names : IsBelow (length cells) s.names
  pub own : IsBelow (length cells) s.own
  pub unclosed : IsBelow (length cells) s.unclosed
  pub inner : AreAmong cells s.unclosed s.names

abbrev pub AreScopes : Stored → Type 0
AreScopes s = (i : ℕ) (scope : Scope) → slice_get s.scopes i ≡ Some (Some scope) → IsScope s.cells scope

-- with more at the fronts of its lists
abbrev pub grown : List ℕ → List ℕ → List ℕ → List ℕ → List ℕ → Standing → Standing
grown type_names tyvars names own unclosed t =
    record {
      context =
          record {
            type_names = type_names ++ t.context.type_names;
            tyvars = tyvars ++ t.context.tyvars;
            names = names ++ t.context.names;
            own = own ++ t.context.own;
          };
      unclosed = unclosed ++ t.unclosed;
    }

-- ---- Closed names

-- each name that is not among the unclosed ones passes a test
abbrev pub IsOpen : (ℕ → Bool) → Standing → Type 0
IsOpen p t = (x : ℕ) → is_in t.context.names x ≡ true → (is_in t.unclosed x || p x) ≡ true

-- in all contexts
abbrev pub AllOpen : (ℕ → Bool) → Stored → Type 0
AllOpen p s = (i : ℕ) (t : Standing) → standings_of s i ≡ Some t → IsOpen p t

-- what is not among these names passes a test
abbrev pub AreOpen : (ℕ → Bool) → List ℕ → List ℕ → Type 0
AreOpen p names unclosed = (x : ℕ) → is_in names x ≡ true → (is_in unclosed x || p x) ≡ true

-- ---- Steps

-- the context before the first declaration
abbrev pub first_context : Context
first_context = record { type_names = library_names; tyvars = []; names = []; own = [] }

-- node 0 has that context, and no other node has any
pub record IsFirst (contexts : ℕ → Option Context) : Type 0 where
  pub root : contexts 0 ≡ Some first_context
  pub only : (i : ℕ) (c : Context) → contexts i ≡ Some c → (i ≡ 0) × (c ≡ first_context)

-- the parts of a node got their contexts
pub record HasEntered (nodes : List Node) (node : ℕ) (old new : ℕ → Option Context) : Type 0 where
  pub at : Node
  pub context : Context
  pub here : slice_get nodes node ≡ Some at
  pub stands : old node ≡ Some context
  pub entered : AreEntered (parts_in nodes context at) old new

-- what stands behind a declaration got its context
pub record HasEnteredBody (nodes : List Node) (node : ℕ) (old new : ℕ → Option Context) : Type 0 where
  pub dec : ℕ
  pub body : ℕ
  pub context : Context
  pub here : slice_get nodes node ≡ Some (Let dec body)
  pub stands : old node ≡ Some context
  pub entered : AreEntered (inside (behind nodes context dec) body ∷ []) old new

-- nodes got their contexts, and no name is closed that was not so around
pub record Enters (items : List Inside) (around : Standing) (old new : Stored) : Type 0 where
  pub entered : AreEntered items (contexts_of old) (contexts_of new)
  pub more : IsMore old.cells new.cells
  pub closed : (p : ℕ → Bool) → AllOpen p old → IsOpen p around → AllOpen p new

-- what stands behind a declaration got its context; closed are those of the declaration's names that are not among the unclosed ones
pub record EntersBody (nodes : List Node) (dec body : ℕ) (unclosed : List ℕ) (around : Standing) (old new : Stored) : Type 0 where
  pub entered : AreEntered (inside (behind nodes around.context dec) body ∷ []) (contexts_of old) (contexts_of new)
  pub closed : (p : ℕ → Bool) → AllOpen p old → IsOpen p around → AreOpen p (names_bound nodes dec) unclosed → AllOpen p new
