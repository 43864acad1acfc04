-- What forests an expansion makes: from which count of names and type names to which, in which context, and in which part.
use Rattle.std.proofs.Common.{◌≡◌, ℕ, suc, ◌<◌, ◌+◌, false, ℤ, List, [], ◌∷◌, ◌++◌, map, length, Option, Some, None}
use Rattle.std.specs.List.{AllByRecursion}
use Rattle.smlc_base.specs.declared.place.Place.{Place}
use Rattle.smlc_base.specs.declared.primitive.Primitive.{Primitive}
use Rattle.sml_tree.specs.declared.bare.Con.{Con}
use Rattle.sml_tree.specs.declared.bare.Con.TheVariants as con
use Rattle.sml_tree.specs.declared.bare.Lab.{Lab}
use Rattle.sml_tree.specs.declared.bare.Node.{Node}
use Rattle.sml_tree.specs.declared.bare.Node.TheVariants as node
use Rattle.sml_tree.specs.declared.bare.TypeBinding.{TypeBinding}
use Rattle.sml_tree.specs.declared.bare.DatBinding.{DatBinding}
use Rattle.sml_tree.specs.declared.bare.ConBinding.{ConBinding}
use Rattle.sml_tree.specs.IsBare.{IsInt, Consecutive}
use Rattle.sml_expansion.specs.declared.made.Made.{Made}
use Rattle.sml_expansion.specs.Bindings.{has}
use Rattle.sml_expansion.specs.Labels.{lab_eq}
use Rattle.sml_expansion.specs.Bare.{fields}
use Rattle.sml_expansion.specs.Forests.{Forest, none, tree}
use Rattle.std.specs.List.{list_any}
use Rattle.sml_prelude.specs.Values.{is_function, takes_argument}
use Rattle.expansion_laws.proofs.Contexts.{Among, Context, with_vars, with_exception, with_cons, ConIn, VariableIn}

-- how many types, type variables and texts there are in the end
pub record Sizes : Type 0 where
  pub types : ℕ
  pub tyvars : ℕ
  pub texts : ℕ

-- neither a name nor a type name is made
pub record Quiet (m n : Made) : Type 0 where
  pub names : length n.names ≡ length m.names
  pub datas : n.type_names ≡ m.type_names

-- the names xs are made, one behind the other, and no type name
pub record Names (m : Made) (xs : List ℕ) (n : Made) : Type 0 where
  pub from : Consecutive (length m.names) xs
  pub names : length n.names ≡ length m.names + length xs
  pub datas : n.type_names ≡ m.type_names

-- the constructors of a binding of the type name k, the first with number i
abbrev pub cons_from : ℕ → ℕ → List ConBinding → List Con
cons_from k i [] = []
cons_from k i (c ∷ cons) = con.Data k i (has c.arg) ∷ cons_from k (suc i) cons

abbrev pub data_cons : List DatBinding → List Con
data_cons [] = []
data_cons (d ∷ bindings) = cons_from d.type_name 0 d.cons ++ data_cons bindings

abbrev pub ArgIn : ℕ → Option ℕ → Type 0
ArgIn types None = Unit {0}
ArgIn types (Some t) = t < types

-- bindings of the type names from k on
abbrev pub DatasIn : ℕ → ℕ → List DatBinding → Type 0
DatasIn types k [] = Unit {0}
DatasIn types k (d ∷ bindings) = (d.type_name ≡ k) × (length d.cons < 1048577) × AllByRecursion (λ c. ArgIn types c.arg) d.cons × DatasIn types (suc k) bindings

-- no label stands twice
abbrev pub LabelsOnce : List Lab → List Lab → Type 0
LabelsOnce seen [] = Unit {0}
LabelsOnce seen (l ∷ labs) = (list_any (lab_eq l) seen ≡ false) × LabelsOnce (l ∷ seen) labs

pub data Part : Type 0 where
  -- what a node is over its parts: an expression, a function, the rest of a program, a pattern that binds these, a declaration that leaves this context
  expression function program : Node → Part
  pattern : Node → List ℕ → Part
  declaration : Node → Context → Part
  -- so many of them
  expressions functions : ℕ → Part
  -- a function part, which may be a primitive of function type or a constructor with an argument, and what it is applied to
  call : Part
  patterns : ℕ → List ℕ → Part
  -- rules; plain bindings, which bind these; declarations, which leave this context
  rules : Part
  bindings : ℕ → List ℕ → Part
  declarations : Context → Part

pub data Is (z : Sizes) : Context → Made → Made → Part → Forest → Type 0 where
  before : {g : Context} {m k n : Made} {r : Part} {f : Forest} → Quiet m k → Is z g k n r f → Is z g m n r f
  after : {g : Context} {m k n : Made} {r : Part} {f : Forest} → Is z g m k r f → Quiet k n → Is z g m n r f
  -- lists
  no_expression : {g : Context} {m : Made} → Is z g m m (expressions 0) none
  more_expressions : {g : Context} {m k n : Made} {a : Node} {p : Place} {parts rest : Forest} {j : ℕ}
      → Is z g m k (expression a) parts → Is z g k n (expressions j) rest → Is z g m n (expressions (suc j)) (tree a p parts rest)
  no_function : {g : Context} {m : Made} → Is z g m m (functions 0) none
  more_functions : {g : Context} {m k n : Made} {a : Node} {p : Place} {parts rest : Forest} {j : ℕ}
      → Is z g m k (function a) parts → Is z g k n (functions j) rest → Is z g m n (functions (suc j)) (tree a p parts rest)
  no_pattern : {g : Context} {m : Made} → Is z g m m (patterns 0 []) none
  more_patterns : {g : Context} {m k n : Made} {a : Node} {p : Place} {parts rest : Forest} {j : ℕ} {xs ys : List ℕ}
      → Is z g m k (pattern a xs) parts → Is z g k n (patterns j ys) rest → Is z g m n (patterns (suc j) (xs ++ ys)) (tree a p parts rest)
  no_rule : {g : Context} {m : Made} → Is z g m m rules none
  more_rules : {g : Context} {m k l n : Made} {a b : Node} {p q : Place} {parts inner rest : Forest} {xs : List ℕ}
      → Is z g m k (pattern a xs) parts → Is z (with_vars xs g) k l (expression b) inner → Is z g l n rules rest
      → Is z g m n rules (tree a p parts (tree b q inner rest))
  no_binding : {g : Context} {m : Made} → Is z g m m (bindings 0 []) none
  more_bindings : {g : Context} {m k l n : Made} {a b : Node} {p q : Place} {parts inner rest : Forest} {j : ℕ} {xs ys : List ℕ}
      → Is z g m k (pattern a xs) parts → Is z g k l (expression b) inner → Is z g l n (bindings j ys) rest
      → Is z g m n (bindings (suc j) (xs ++ ys)) (tree a p parts (tree b q inner rest))
  no_declaration : {g : Context} {m : Made} → Is z g m m (declarations g) none
  more_declarations : {g h i : Context} {m k n : Made} {a : Node} {p : Place} {parts rest : Forest}
      → Is z g m k (declaration a h) parts → Is z h k n (declarations i) rest → Is z g m n (declarations i) (tree a p parts rest)
  -- expressions
  is_int : {g : Context} {m : Made} (i : ℤ) → IsInt i → Is z g m m (expression (node.Int i)) none
  is_char : {g : Context} {m : Made} (c : ℕ) → c < 256 → Is z g m m (expression (node.Char c)) none
  is_text : {g : Context} {m : Made} (t : ℕ) → t < z.texts → Is z g m m (expression (node.Text t)) none
  is_variable : {g : Context} {m : Made} (x : ℕ) → VariableIn g x → Is z g m m (expression (node.Var (record { 0 = x }))) none
  is_constructor : {g : Context} {m : Made} (c : Con) → ConIn g c → takes_argument c ≡ false → Is z g m m (expression (node.Constructor c)) none
  is_builtin : {g : Context} {m : Made} (b : Primitive) → is_function b ≡ false → Is z g m m (expression (node.Builtin b)) none
  is_record : {g : Context} {m n : Made} {f : Forest} (labs : List Lab) → LabelsOnce [] labs → Is z g m n (expressions (length labs)) f → Is z g m n (expression (node.Record (fields labs))) f
  is_app : {g : Context} {m n : Made} {f : Forest} → Is z g m n call f → Is z g m n (expression (node.App 0 0)) f
  is_case : {g : Context} {m k n : Made} {a : Node} {p : Place} {parts rest : Forest}
      → Is z g m k (expression a) parts → Is z g k n rules rest → Is z g m n (expression (node.Case 0 [])) (tree a p parts rest)
  is_fn : {g : Context} {m n : Made} {f : Forest} → Is z g m n rules f → Is z g m n (expression (node.Fn [])) f
  is_raise : {g : Context} {m n : Made} {f : Forest} → Is z g m n (expressions 1) f → Is z g m n (expression (node.Raise 0)) f
  is_handle : {g : Context} {m k n : Made} {a : Node} {p : Place} {parts rest : Forest}
      → Is z g m k (expression a) parts → Is z g k n rules rest → Is z g m n (expression (node.Handle 0 [])) (tree a p parts rest)
  is_typed : {g : Context} {m n : Made} {f : Forest} (t : ℕ) → t < z.types → Is z g m n (expressions 1) f → Is z g m n (expression (node.Typed 0 t)) f
  is_let : {g h : Context} {m k n : Made} {a b : Node} {p q : Place} {parts inner : Forest}
      → Is z g m k (declaration a h) parts → Is z h k n (expression b) inner → Is z g m n (expression (node.Let 0 0)) (tree a p parts (tree b q inner none))
  -- calls
  call_expression : {g : Context} {m n : Made} {f : Forest} → Is z g m n (expressions 2) f → Is z g m n call f
  call_constructor : {g : Context} {m n : Made} {p : Place} {f : Forest} (c : Con) → ConIn g c → Is z g m n (expressions 1) f → Is z g m n call (tree (node.Constructor c) p none f)
  call_builtin : {g : Context} {m n : Made} {p : Place} {f : Forest} (b : Primitive) → Is z g m n (expressions 1) f → Is z g m n call (tree (node.Builtin b) p none f)
  -- functions
  fn_function : {g : Context} {m n : Made} {f : Forest} → Is z g m n rules f → Is z g m n (function (node.Fn [])) f
  typed_function : {g : Context} {m n : Made} {f : Forest} (t : ℕ) → t < z.types → Is z g m n (functions 1) f → Is z g m n (function (node.Typed 0 t)) f
  -- patterns
  is_wild : {g : Context} {m : Made} → Is z g m m (pattern node.Wild []) none
  int_pattern : {g : Context} {m : Made} (i : ℤ) → IsInt i → Is z g m m (pattern (node.PatInt i) []) none
  char_pattern : {g : Context} {m : Made} (c : ℕ) → c < 256 → Is z g m m (pattern (node.PatChar c) []) none
  text_pattern : {g : Context} {m : Made} (t : ℕ) → t < z.texts → Is z g m m (pattern (node.PatText t) []) none
  variable_pattern : {g : Context} {m n : Made} (x : ℕ) → Names m (x ∷ []) n → Is z g m n (pattern (node.PatVar (record { 0 = x })) (x ∷ [])) none
  con_pattern : {g : Context} {m : Made} (c : Con) → ConIn g c → Is z g m m (pattern (node.PatCon c) []) none
  apply_pattern : {g : Context} {m n : Made} {f : Forest} {xs : List ℕ} (c : Con) → ConIn g c → Is z g m n (patterns 1 xs) f → Is z g m n (pattern (node.PatApp c 0) xs) f
  record_pattern : {g : Context} {m n : Made} {f : Forest} {xs : List ℕ} (labs : List Lab) → LabelsOnce [] labs → Is z g m n (patterns (length labs) xs) f → Is z g m n (pattern (node.PatRecord (fields labs)) xs) f
  typed_pattern : {g : Context} {m n : Made} {f : Forest} {xs : List ℕ} (t : ℕ) → t < z.types → Is z g m n (patterns 1 xs) f → Is z g m n (pattern (node.PatTyped 0 t) xs) f
  as_pattern : {g : Context} {m k n : Made} {f : Forest} {xs : List ℕ} (x : ℕ) → Names m (x ∷ []) k → Is z g k n (patterns 1 xs) f → Is z g m n (pattern (node.PatAs (record { 0 = x }) 0) (x ∷ xs)) f
  con_as_pattern : {g : Context} {m k n : Made} {f : Forest} {xs : List ℕ} (x : ℕ) → Names m (x ∷ []) k → Is z g k n (patterns 1 xs) f → Is z g m n (pattern (node.PatAsCon (record { 0 = x }) 0) (x ∷ xs)) f
  -- declarations
  is_val : {g : Context} {m n : Made} {f : Forest} {j : ℕ} {xs : List ℕ} (vs : List ℕ) → AllByRecursion (λ v. v < z.tyvars) vs → Is z g m n (bindings j xs) f → Is z g m n (declaration (node.Val vs []) (with_vars xs g)) f
  is_val_rec : {g : Context} {m k n : Made} {f : Forest} (vs : List ℕ) (xs : List ℕ) → AllByRecursion (λ v. v < z.tyvars) vs → Names m xs k → Is z (with_vars xs g) k n (functions (length xs)) f
      → Is z g m n (declaration (node.ValRec vs (map (λ x. record { name = record { 0 = x }; right = 0 }) xs)) (with_vars xs g)) f
  is_type : {g : Context} {m : Made} (bs : List TypeBinding) → AllByRecursion (λ b. b.ty < z.types) bs → Is z g m m (declaration (node.Type bs) g) none
  is_datatype : {g : Context} {m n : Made} (bs : List DatBinding) → DatasIn z.types m.type_names bs → length n.names ≡ length m.names → n.type_names ≡ m.type_names + length bs
      → Is z g m n (declaration (node.Datatype bs) (with_cons (data_cons bs) g)) none
  is_exception : {g : Context} {m n : Made} (x : ℕ) (arg : Option ℕ) → Names m (x ∷ []) n → ArgIn z.types arg → Is z g m n (declaration (node.Exception (record { 0 = x }) arg) (with_exception x g)) none
  same_exception : {g : Context} {m n : Made} (x : ℕ) (c : Con) → Names m (x ∷ []) n → ConIn g c → Is z g m n (declaration (node.SameException (record { 0 = x }) c) (with_exception x g)) none
  not_exception : {g : Context} {m n : Made} (x : ℕ) → Names m (x ∷ []) n → Is z g m n (declaration (node.NoException (record { 0 = x })) (with_exception x g)) none
  -- the rest of a program
  program_end : {g : Context} {m : Made} → Is z g m m (program node.Finish) none
  program_let : {g h : Context} {m k n : Made} {a b : Node} {p q : Place} {parts inner : Forest}
      → Is z g m k (declaration a h) parts → Is z h k n (program b) inner → Is z g m n (program (node.Let 0 0)) (tree a p parts (tree b q inner none))
