-- Expressions, matches and declarations.
use Rattle.std.specs.Prelude.{ℕ, Bool, true, false, List, [], ◌∷◌, ◌++◌, Option, Some, None, map, codes}
use Rattle.smlc_base.specs.declared.place.Place.{Place}
use Rattle.smlc_base.specs.declared.refusal.Refusal.TheVariants as refusal
use Rattle.sml_tree.specs.declared.bare.Node.TheVariants as bare
use Rattle.sml_tree.specs.declared.bare.RecBinding.{RecBinding}
use Rattle.sml_tree.specs.declared.tree_node.TreeNode.TheVariants as node
use Rattle.sml_prelude.specs.Values.{is_function, takes_argument}
use Rattle.sml_expansion.specs.declared.meaning.Meaning.{Meaning}
use Rattle.sml_expansion.specs.declared.meaning.Meaning.TheVariants.{Variable, Constructor, Builtin}
use Rattle.sml_expansion.specs.declared.scope.Ident.{Ident}
use Rattle.sml_expansion.specs.declared.scope.Bound.{Bound}
use Rattle.sml_expansion.specs.Terms.{Term, leaf, one, two, three, place_at}
use Rattle.sml_expansion.specs.Forests.{Forest, none, tree, grown, ◌&◌}
use Rattle.sml_expansion.specs.Scopes.{Scope, Env, followed, ident, meaning_of, within}
use Rattle.sml_expansion.specs.Makings.{Makes, gives, breaks, new_name, ◌>>=◌, ◌>>◌}
use Rattle.sml_expansion.specs.Types.{labels, labels_once, type_of}
use Rattle.sml_expansion.specs.TypeVariables.{tyvars, unguarded, opens, in_scope, numbers_of}
use Rattle.sml_expansion.specs.Bare.{con_true, con_false, con_node, variable_node, record_node, tuple_node, apply_node, case_node, fn_node, if_node, sequence_node, list_node, nest, eta_node, while_node, typed_node, tuple_pattern_unless_one}
use Rattle.sml_expansion.specs.Patterns.{Pattern, patterns, whole, vars_once, env_of}
use Rattle.sml_expansion.specs.Clauses.{arguments, binds_functions, function}
use Rattle.sml_expansion.specs.Bindings.{Decs, no_decs, type_dec, datatype_dec, exception_dec, rec_names, annotations, fn_on_the_right}

-- where an expression stands: as the function part of an application, perhaps parenthesised, or elsewhere
pub data Position : Type 0 where
  function_part : Position
  elsewhere : Position

-- what isn't of function type, or is applied, stands for itself
abbrev pub eta : Position → Place → Bool → Forest → Makes Forest
eta elsewhere p true f = do
  v ← new_name (codes "v")
  gives (eta_node p v f)
eta _ p _ f = gives f

abbrev pub named : Position → Place → Ident → Option Meaning → Makes Forest
named h p i (Some (Variable x)) = gives (variable_node p x.0)
named h p i (Some (Constructor c)) = eta h p (takes_argument c) (con_node p c)
named h p i (Some (Builtin b)) = eta h p (is_function b) (grown (bare.Builtin b) p none)
named h p i None = do
  breaks (refusal.Unbound i.place ∷ [])
  gives (tuple_node p none)

abbrev pub identifier : Position → Scope → Place → Ident → Makes Forest
identifier h s p i = named h p i (meaning_of s i.key)

-- `fn`, perhaps parenthesised
abbrev pub is_fn : Term → Bool
is_fn (one node.Fn p m) = true
is_fn (one node.Paren p a) = is_fn a
is_fn _ = false

-- the rules of a `fn`
abbrev pub rules_in : Forest → Forest
rules_in none = none
rules_in (tree n p parts rest) = parts

-- `f a`; where f is a `fn`, its one `Case`
abbrev pub application : Bool → Place → Makes Forest → Makes Forest → Makes Forest
application true p f a = do
  y ← a
  x ← f
  gives (case_node p y (rules_in x))
application false p f a = do
  x ← f
  y ← a
  gives (apply_node p x y)

-- expressions, one behind the other
abbrev pub both : Makes Forest → Makes Forest → Makes Forest
both f g = do
  x ← f
  y ← g
  gives (x & y)

-- a plain binding of a value declaration: its trees, and what its pattern binds
abbrev pub binding : Makes Pattern → Makes Forest → Makes Pattern
binding f g = do
  q ← f
  x ← g
  gives (record { forest = q.forest & x; vars = q.vars })

abbrev pub both_bindings : Makes Pattern → Makes Pattern → Makes Pattern
both_bindings f g = do
  x ← f
  y ← g
  gives (record { forest = x.forest & y.forest; vars = x.vars ++ y.vars })

-- a rule: its pattern binds variables of its expression
abbrev pub rule : Makes Pattern → (Env → Makes Forest) → Makes Forest
rule f g = do
  q ← whole f
  x ← g (env_of q.vars)
  gives (q.forest & x)

abbrev pub rec_bindings : List Bound → List RecBinding
rec_bindings names = map (λ v. record { name = record { 0 = v.name }; right = 0 }) names

-- the plain part of a value declaration, and its recursive part, each if it has bindings
abbrev pub plain_dec : Place → List ℕ → Forest → Forest
plain_dec p vs none = none
plain_dec p vs f = grown (bare.Val vs []) p f

abbrev pub rec_dec : Place → List ℕ → List Bound → Forest → Forest
rec_dec p vs names none = none
rec_dec p vs names f = grown (bare.ValRec vs (rec_bindings names)) p f

abbrev pub shown_each : Bool → Forest → List Bool
shown_each b none = []
shown_each b (tree n p parts rest) = b ∷ shown_each b rest

abbrev pub decs_of : Forest → Env → Decs
decs_of f e = record { forest = f; shown = shown_each true f; env = e }

abbrev pub decs_behind : Decs → Decs → Decs
decs_behind x y = record { forest = x.forest & y.forest; shown = x.shown ++ y.shown; env = followed x.env y.env }

-- `local`: the first declarations are seen by the second alone, and aren't shown
abbrev pub decs_inside : Decs → Decs → Decs
decs_inside x y = record { forest = x.forest & y.forest; shown = shown_each false x.forest ++ y.shown; env = y.env }

abbrev mutual
  -- the expressions of a list, one for an expression alone
  pub expressions : Position → Scope → Term → Makes Forest
  expressions h s (leaf (node.Vid x) p) = identifier h s p (ident s.names (leaf (node.Vid x) p))
  expressions h s (leaf node.VidEquals p) = identifier h s p (ident s.names (leaf node.VidEquals p))
  expressions h s (leaf (node.LongVid x) p) = identifier h s p (ident s.names (leaf (node.LongVid x) p))
  expressions h s (one node.Op p a) = identifier h s p (ident s.names a)
  expressions h s (leaf (node.Int z) p) = gives (grown (bare.Int z) p none)
  expressions h s (leaf (node.Char c) p) = gives (grown (bare.Char c) p none)
  expressions h s (leaf (node.Text t) p) = gives (grown (bare.Text t) p none)
  expressions h s (leaf node.Unit p) = gives (tuple_node p none)
  expressions h s (leaf node.EmptyRecord p) = gives (tuple_node p none)
  expressions h s (leaf node.EmptyList p) = gives (list_node p none)
  expressions h s (one node.Paren p a) = expressions h s a
  expressions h s (two node.Apply p f a) = application (is_fn f) p (expressions function_part s f) (expressions elsewhere s a)
  expressions h s (three node.InfixExp p a v b) = do
    f ← identifier function_part s (place_at v) (ident s.names v)
    x ← both (expressions elsewhere s a) (expressions elsewhere s b)
    gives (apply_node p f (tuple_node p x))
  expressions h s (two node.Tuple p a b) = do
    x ← both (expressions elsewhere s a) (expressions elsewhere s b)
    gives (tuple_node p x)
  expressions h s (two node.MoreItems p a b) = both (expressions elsewhere s a) (expressions elsewhere s b)
  expressions h s (one node.Record p a) = do
    labels_once (labels s.names a)
    x ← expressions elsewhere s a
    gives (record_node p (map (λ l. l.0) (labels s.names a)) x)
  expressions h s (two node.Row p l a) = expressions elsewhere s a
  expressions h s (two node.MoreRows p a b) = both (expressions elsewhere s a) (expressions elsewhere s b)
  expressions h s (one node.List p a) = do
    x ← expressions elsewhere s a
    gives (list_node p x)
  expressions h s (two node.Sequence p a b) = do
    x ← both (expressions elsewhere s a) (expressions elsewhere s b)
    gives (sequence_node p x)
  expressions h s (two node.MoreSeq p a b) = both (expressions elsewhere s a) (expressions elsewhere s b)
  expressions h s (two node.Typed p a t) = do
    ty ← type_of s t
    x ← expressions elsewhere s a
    gives (typed_node p (ty ∷ []) x)
  expressions h s (two node.Andalso p a b) = do
    x ← expressions elsewhere s a
    y ← expressions elsewhere s b
    gives (if_node p x y (con_node p con_false))
  expressions h s (two node.Orelse p a b) = do
    x ← expressions elsewhere s a
    y ← expressions elsewhere s b
    gives (if_node p x (con_node p con_true) y)
  expressions h s (three node.If p a b c) = do
    x ← expressions elsewhere s a
    y ← expressions elsewhere s b
    z ← expressions elsewhere s c
    gives (if_node p x y z)
  expressions h s (two node.While p a b) = do
    v ← new_name (codes "v")
    x ← expressions elsewhere s a
    y ← expressions elsewhere s b
    gives (while_node p v x y)
  expressions h s (one node.Raise p a) = do
    x ← expressions elsewhere s a
    gives (grown (bare.Raise 0) p x)
  expressions h s (two node.Handle p a m) = do
    x ← both (expressions elsewhere s a) (rules s m)
    gives (grown (bare.Handle 0 []) p x)
  expressions h s (two node.Case p a m) = do
    x ← expressions elsewhere s a
    y ← rules s m
    gives (case_node p x y)
  expressions h s (one node.Fn p m) = do
    y ← rules s m
    gives (fn_node p y)
  expressions h s (two node.Let p d a) = do
    x ← decs s d
    y ← expressions elsewhere (within s x.env) a
    gives (nest p x.forest (sequence_node p y))
  expressions h s _ = gives none

  -- the patterns and expressions of a match
  pub rules : Scope → Term → Makes Forest
  rules s (two node.Rule p q a) = rule (patterns s q) (λ e. expressions elsewhere (within s e) a)
  rules s (two node.MoreRules p a b) = both (rules s a) (rules s b)
  rules s _ = gives none

  -- the patterns and right sides of the bindings before the first `rec`
  pub plain_bindings : Scope → Term → Makes Pattern
  plain_bindings s (two node.ValBind p q a) = binding (patterns s q) (expressions elsewhere s a)
  plain_bindings s (two node.MoreValBinds p a b) = both_bindings (plain_bindings s a) (plain_bindings s b)
  plain_bindings s _ = gives (record { forest = none; vars = [] })

  -- the right sides of those behind it
  pub rec_rights : Bool → Scope → Term → Makes Forest
  rec_rights inside s (one node.Rec p a) = rec_rights true s a
  rec_rights true s (two node.ValBind p q a) = do
    breaks (fn_on_the_right a)
    types ← annotations s q
    x ← expressions elsewhere s a
    gives (typed_node (place_at a) types x)
  rec_rights inside s (two node.MoreValBinds p a b) = both (rec_rights inside s a) (rec_rights inside s b)
  rec_rights inside s _ = gives none

  -- the right sides of functions; of a function's clauses their rules
  pub functions : Scope → Term → Makes Forest
  functions s (two node.MoreFunBinds p a b) = both (function a (functions s a)) (function b (functions s b))
  functions s (two node.MoreClauses p a b) = both (functions s a) (functions s b)
  functions s (two node.Clause p h a) = do
    q ← whole (arguments s h)
    x ← expressions elsewhere (within s (env_of q.vars)) a
    gives (tuple_pattern_unless_one p q.forest & x)
  functions s (three node.TypedClause p h t a) = do
    q ← whole (arguments s h)
    ty ← type_of s t
    x ← expressions elsewhere (within s (env_of q.vars)) a
    gives (tuple_pattern_unless_one p q.forest & typed_node (place_at a) (ty ∷ []) x)
  functions s _ = gives none

  -- the declarations of a sequence, one for a declaration alone
  pub decs : Scope → Term → Makes Decs
  decs s (two node.MoreDecs p a b) = do
    x ← decs s a
    y ← decs (within s x.env) b
    gives (decs_behind x y)
  decs s (two node.Local p a b) = do
    x ← decs s a
    y ← decs (within s x.env) b
    gives (decs_inside x y)
  decs s (two node.Val p vs b) = do
    bound ← opens s (tyvars s.names vs) (unguarded b)
    x ← plain_bindings (in_scope s bound) b
    names ← rec_names (in_scope s bound) false b
    vars_once (x.vars ++ names)
    y ← rec_rights false (within (in_scope s bound) (env_of names)) b
    gives (decs_of (plain_dec p (numbers_of bound) x.forest & rec_dec p (numbers_of bound) names y) (env_of (x.vars ++ names)))
  decs s (two node.Fun p vs b) = do
    bound ← opens s (tyvars s.names vs) (unguarded b)
    names ← binds_functions s.names b
    vars_once names
    y ← function b (functions (within (in_scope s bound) (env_of names)) b)
    gives (decs_of (rec_dec p (numbers_of bound) names y) (env_of names))
  decs s (one node.Type p b) = type_dec s p b
  decs s (one node.Datatype p b) = datatype_dec s p b
  decs s (one node.Exception p b) = exception_dec s p b
  decs s _ = gives no_decs
