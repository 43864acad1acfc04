-- What a bare tree keeps.
use Rattle.std.specs.Prelude.{◌≡◌, ℕ, suc, ◌+◌, ◌^◌, ◌<◌, ◌≤◌, ℤ, pos, negsuc, Bool, true, false, cond, nat_eq, List, [], ◌∷◌, ◌++◌, Option, Some, None, length, map, flat_map, filter, count_by, slice_get, unwrap_or, nat_lt, int_lt, ◌||◌, ◌&&◌}
use Rattle.std.specs.List.{AllByRecursion}
use Rattle.std.specs.Option.{is_some, option_map}
use Rattle.sml_tree.specs.declared.bare.Bare.{Bare}
use Rattle.sml_tree.specs.declared.bare.Node.{Node}
use Rattle.sml_tree.specs.declared.bare.Node.TheVariants as node
use Rattle.sml_tree.specs.declared.bare.Con.{Con}
use Rattle.sml_tree.specs.declared.bare.Con.TheVariants as con
use Rattle.sml_tree.specs.declared.bare.Lab.{Lab}
use Rattle.sml_tree.specs.declared.bare.Lab.TheVariants as lab
use Rattle.sml_tree.specs.declared.bare.Field.{Field}
use Rattle.sml_tree.specs.declared.bare.Rule.{Rule}
use Rattle.sml_tree.specs.declared.bare.TypeExp.{TypeExp}
use Rattle.sml_tree.specs.declared.bare.TypeExp.TheVariants as type
use Rattle.sml_tree.specs.Sets.{has}
use Rattle.sml_tree.specs.BareParts.{node_parts, IsNumbered, from_parts}
use Rattle.sml_tree.specs.Free.{free}
use Rattle.sml_tree.specs.Width.{width}

-- ---- Order

abbrev pub sum_of : (ℕ → ℕ) → List ℕ → ℕ
sum_of f [] = 0
sum_of f (c ∷ cs) = f c + sum_of f cs

abbrev pub size_of : (ℕ → ℕ) → ℕ → Node → ℕ
size_of part i n = suc (sum_of part (node_parts n))

-- how many nodes a node is, with its parts and theirs
abbrev pub size : List Node → ℕ → ℕ
size = from_parts 0 size_of

-- the parts stand one behind the other, the first at j
abbrev pub InRow : (ℕ → ℕ) → ℕ → List ℕ → Type 0
InRow size j [] = Unit {0}
InRow size j (c ∷ cs) = (c ≡ j) × InRow size (j + size c) cs

-- Nodes are numbered in preorder, and node 0 is the whole.
pub record IsPreorder (nodes : List Node) : Type 0 where
  pub parts : (i : ℕ) (n : Node) → slice_get nodes i ≡ Some n → InRow (size nodes) (suc i) (node_parts n)
  pub whole : size nodes 0 ≡ length nodes

-- no item stands twice
abbrev pub IsDistinct : List ℕ → Type 0
IsDistinct [] = Unit {0}
IsDistinct (x ∷ xs) = (has xs x ≡ false) × IsDistinct xs

abbrev pub IsAscending : ℕ → List ℕ → Type 0
IsAscending from [] = Unit {0}
IsAscending from (x ∷ xs) = (from ≤ x) × IsAscending (suc x) xs

-- ---- Sorts

pub data Sort : Type 0 where
  Expression Pattern Declaration : Sort

abbrev pub sort_of : Node → Sort
sort_of node.Wild = Pattern
sort_of (node.PatInt z) = Pattern
sort_of (node.PatChar c) = Pattern
sort_of (node.PatText t) = Pattern
sort_of (node.PatVar x) = Pattern
sort_of (node.PatCon c) = Pattern
sort_of (node.PatApp c q) = Pattern
sort_of (node.PatRecord fields) = Pattern
sort_of (node.PatTyped q ty) = Pattern
sort_of (node.PatAs x q) = Pattern
sort_of (node.PatAsCon x q) = Pattern
sort_of (node.Val tyvars bindings) = Declaration
sort_of (node.ValRec tyvars bindings) = Declaration
sort_of (node.Type bindings) = Declaration
sort_of (node.Datatype bindings) = Declaration
sort_of (node.Exception x ty) = Declaration
sort_of (node.SameException x c) = Declaration
sort_of (node.NoException x) = Declaration
sort_of _ = Expression

abbrev pub IsOf : List Node → Sort → ℕ → Type 0
IsOf nodes s i = option_map sort_of (slice_get nodes i) ≡ Some s

abbrev pub HasRules : List Node → List Rule → Type 0
HasRules nodes rules = AllByRecursion (λ r. IsOf nodes Pattern r.pat × IsOf nodes Expression r.body) rules

abbrev pub function_of : (ℕ → Bool) → ℕ → Node → Bool
function_of part i (node.Fn rules) = true
function_of part i (node.Typed e ty) = part e
function_of part i _ = false

-- `fn`, perhaps typed
abbrev pub is_function : List Node → ℕ → Bool
is_function = from_parts false function_of

-- each part is of the sort that stands there
abbrev pub HasSorts : List Node → Node → Type 0
HasSorts nodes (node.Record fields) = AllByRecursion (λ f. IsOf nodes Expression f.node) fields
HasSorts nodes (node.App f a) = IsOf nodes Expression f × IsOf nodes Expression a
HasSorts nodes (node.Case e rules) = IsOf nodes Expression e × HasRules nodes rules
HasSorts nodes (node.Fn rules) = HasRules nodes rules
HasSorts nodes (node.Raise e) = IsOf nodes Expression e
HasSorts nodes (node.Handle e rules) = IsOf nodes Expression e × HasRules nodes rules
HasSorts nodes (node.Typed e ty) = IsOf nodes Expression e
HasSorts nodes (node.Let d e) = IsOf nodes Declaration d × IsOf nodes Expression e
HasSorts nodes (node.PatApp c q) = IsOf nodes Pattern q
HasSorts nodes (node.PatRecord fields) = AllByRecursion (λ f. IsOf nodes Pattern f.node) fields
HasSorts nodes (node.PatTyped q ty) = IsOf nodes Pattern q
HasSorts nodes (node.PatAs x q) = IsOf nodes Pattern q
HasSorts nodes (node.PatAsCon x q) = IsOf nodes Pattern q
HasSorts nodes (node.Val tyvars bindings) = AllByRecursion (λ b. IsOf nodes Pattern b.pat × IsOf nodes Expression b.right) bindings
HasSorts nodes (node.ValRec tyvars bindings) = AllByRecursion (λ b. is_function nodes b.right ≡ true) bindings
HasSorts nodes _ = Unit {0}

-- ---- Records

abbrev pub bytes_less : List ℕ → List ℕ → Bool
bytes_less [] [] = false
bytes_less [] (y ∷ ys) = true
bytes_less (x ∷ xs) [] = false
bytes_less (x ∷ xs) (y ∷ ys) = nat_lt x y || (nat_eq x y && bytes_less xs ys)

-- numbers first, by value, then texts, by their bytes
abbrev pub lab_less : Lab → Lab → Bool
lab_less (lab.Num x) (lab.Num y) = int_lt x y
lab_less (lab.Num x) (lab.Text ys) = true
lab_less (lab.Text xs) (lab.Num y) = false
lab_less (lab.Text xs) (lab.Text ys) = bytes_less xs ys

-- each field's slot is the number of the fields with a smaller label, and no two fields have one slot
pub record IsRow (fields : List Field) : Type 0 where
  pub slots : AllByRecursion (λ f. f.slot ≡ count_by (λ g. lab_less g.lab f.lab) fields) fields
  pub distinct : IsDistinct (map (λ f. f.slot) fields)

-- ---- What a node cites

-- for each type of the library by number, whether each of its constructors takes an argument
abbrev pub base_cons : List (List Bool)
base_cons =
    []
    ∷ []
    ∷ []
    ∷ []
    ∷ (false ∷ false ∷ [])
    ∷ (false ∷ true ∷ [])
    ∷ (false ∷ true ∷ [])
    ∷ (false ∷ false ∷ false ∷ [])
    ∷ []

-- the constructors of the type name t that a node declares: whether each takes an argument
abbrev pub declared_by : ℕ → Node → List Bool
declared_by t (node.Datatype bindings) =
    flat_map (λ d. cond (nat_eq d.type_name t) (map (λ c. is_some c.arg) d.cons) []) bindings
declared_by t _ = []

abbrev pub cons_of : List Node → ℕ → List Bool
cons_of nodes t = unwrap_or (slice_get base_cons t) [] ++ flat_map (declared_by t) nodes

abbrev pub IsInt : ℤ → Type 0
IsInt (pos n) = n < 2 ^ 62
IsInt (negsuc n) = n < 2 ^ 62

module _ (p : Bare) where
  abbrev pub ConStands : Con → Type 0
  ConStands (con.Data t number takes) = (slice_get (cons_of p.nodes t) number ≡ Some takes) × (number < 2 ^ 20)
  ConStands con.Ref = Unit {0}
  ConStands (con.Exn x takes) = x.0 < length p.names
  ConStands (con.Library e) = Unit {0}

  abbrev pub TypeStands : ℕ → TypeExp → Type 0
  TypeStands i (type.Var v) = v < length p.tyvars
  TypeStands i (type.Record fields) = AllByRecursion (λ f. f.ty < i) fields
  TypeStands i (type.Arrow a b) = (a < i) × (b < i)
  TypeStands i (type.Named t args) = AllByRecursion (λ a. a < i) args
  TypeStands i (type.Abbreviation t args) = AllByRecursion (λ a. a < i) args
  TypeStands i (type.UnitOf args) = AllByRecursion (λ a. a < i) args

  abbrev pub OptionStands : Option ℕ → Type 0
  OptionStands (Some ty) = ty < length p.types
  OptionStands None = Unit {0}

  -- the constants, constructors, names, texts and types of a node
  abbrev pub Stands : Node → Type 0
  Stands (node.Int z) = IsInt z
  Stands (node.Char c) = c < 256
  Stands (node.Text t) = t < length p.texts
  Stands (node.Var x) = x.0 < length p.names
  Stands (node.Constructor c) = ConStands c
  Stands (node.Record fields) = IsRow fields
  Stands (node.Typed e ty) = ty < length p.types
  Stands (node.PatInt z) = IsInt z
  Stands (node.PatChar c) = c < 256
  Stands (node.PatText t) = t < length p.texts
  Stands (node.PatVar x) = x.0 < length p.names
  Stands (node.PatCon c) = ConStands c
  Stands (node.PatApp c q) = ConStands c
  Stands (node.PatRecord fields) = IsRow fields
  Stands (node.PatTyped q ty) = ty < length p.types
  Stands (node.PatAs x q) = x.0 < length p.names
  Stands (node.PatAsCon x q) = x.0 < length p.names
  Stands (node.Val tyvars bindings) = AllByRecursion (λ v. v < length p.tyvars) tyvars
  Stands (node.ValRec tyvars bindings) =
      AllByRecursion (λ v. v < length p.tyvars) tyvars × AllByRecursion (λ b. b.name.0 < length p.names) bindings
  Stands (node.Type bindings) = AllByRecursion (λ b. b.ty < length p.types) bindings
  Stands (node.Datatype bindings) = AllByRecursion (λ d. AllByRecursion (λ c. OptionStands c.arg) d.cons × (length d.cons ≤ 2 ^ 20)) bindings
  Stands (node.Exception x ty) = (x.0 < length p.names) × OptionStands ty
  Stands (node.SameException x c) = (x.0 < length p.names) × ConStands c
  Stands (node.NoException x) = x.0 < length p.names
  Stands _ = Unit {0}

-- the names that a node itself binds
abbrev pub names_at : Node → List ℕ
names_at (node.PatVar x) = x.0 ∷ []
names_at (node.PatAs x q) = x.0 ∷ []
names_at (node.PatAsCon x q) = x.0 ∷ []
names_at (node.ValRec tyvars bindings) = map (λ b. b.name.0) bindings
names_at (node.Exception x ty) = x.0 ∷ []
names_at (node.SameException x c) = x.0 ∷ []
names_at (node.NoException x) = x.0 ∷ []
names_at _ = []

-- the type names that a node declares
abbrev pub type_names_at : Node → List ℕ
type_names_at (node.Datatype bindings) = map (λ d. d.type_name) bindings
type_names_at _ = []

-- the numbers from one on, one behind the other
abbrev pub Consecutive : ℕ → List ℕ → Type 0
Consecutive from [] = Unit {0}
Consecutive from (x ∷ xs) = (x ≡ from) × Consecutive (suc from) xs

-- ---- The program: one nest of `Let` whose innermost part is the end

abbrev pub nest_of : (ℕ → Bool) → ℕ → Node → Bool
nest_of part i (node.Let d e) = part e
nest_of part i node.Finish = true
nest_of part i _ = false

abbrev pub lets_of : (ℕ → List ℕ) → ℕ → Node → List ℕ
lets_of part i (node.Let d e) = i ∷ part e
lets_of part i _ = []

-- the nodes `Let` of the nest, from the outermost on
abbrev pub lets : List Node → List ℕ
lets nodes = from_parts [] lets_of nodes 0

abbrev pub is_finish : Node → Bool
is_finish node.Finish = true
is_finish _ = false

abbrev pub is_value : Option Node → Bool
is_value (Some (node.Val tyvars bindings)) = true
is_value (Some (node.ValRec tyvars bindings)) = true
is_value _ = false

abbrev pub dec_at : Option Node → List ℕ
dec_at (Some (node.Let d e)) = d ∷ []
dec_at _ = []

-- the value declarations of the nest
abbrev pub values : List Node → List ℕ
values nodes = filter (λ d. is_value (slice_get nodes d)) (flat_map (λ i. dec_at (slice_get nodes i)) (lets nodes))

-- ---- The whole

pub record IsBare (p : Bare) : Type 0 where
  pub few : suc (length p.nodes) < 2 ^ 32
  pub numbered : IsNumbered p.nodes
  pub preorder : IsPreorder p.nodes
  pub places : length p.places ≡ length p.nodes
  -- each node is made of what stands there
  pub sorts : AllByRecursion (HasSorts p.nodes) p.nodes
  pub stands : AllByRecursion (Stands p) p.nodes
  pub types : (i : ℕ) (t : TypeExp) → slice_get p.types i ≡ Some t → TypeStands p i t
  -- each name that is cited is bound around it, and bound once
  pub bound : free p.nodes 0 ≡ []
  pub once : IsDistinct (flat_map names_at p.nodes)
  -- and each name is bound somewhere
  pub somewhere : (x : ℕ) → x < length p.names → has (flat_map names_at p.nodes) x ≡ true
  -- type names are numbered in the order of their declarations, behind the ten of the library
  pub declared : Consecutive 10 (flat_map type_names_at p.nodes)
  -- the program ends once
  pub nest : from_parts false nest_of p.nodes 0 ≡ true
  pub end : count_by is_finish p.nodes ≡ 1
  -- top-level declarations, the first at the root, and those that are shown
  pub decs : IsAscending 0 p.decs × AllByRecursion (λ i. has (lets p.nodes) i ≡ true) p.decs
  pub first_dec : slice_get p.decs 0 ≡ slice_get (lets p.nodes) 0
  pub shown : IsAscending 0 p.shown × AllByRecursion (λ d. has (values p.nodes) d ≡ true) p.shown
  pub width : p.width ≡ width p.nodes p.places
  pub narrow : p.width ≤ 2 ^ 24
