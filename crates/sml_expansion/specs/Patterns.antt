-- Patterns.
use Rattle.std.specs.Prelude.{ℕ, ◌==◌, ◌&&◌, if◌then◌else◌, List, [], ◌∷◌, ◌++◌, Option, Some, None, map, reverse, is_some, nat_eq}
use Rattle.smlc_base.specs.declared.place.Place.{Place}
use Rattle.smlc_base.specs.declared.refusal.Refusal.{Refusal}
use Rattle.smlc_base.specs.declared.refusal.Refusal.TheVariants as refusal
use Rattle.sml_tree.specs.declared.tree_node.TreeNode.TheVariants as node
use Rattle.sml_tree.specs.declared.bare.Node.TheVariants as bare
use Rattle.sml_expansion.specs.declared.meaning.Meaning.{Meaning}
use Rattle.sml_expansion.specs.declared.meaning.Meaning.TheVariants.{Variable, Constructor}
use Rattle.sml_expansion.specs.declared.scope.Ident.{Ident}
use Rattle.sml_expansion.specs.declared.scope.Bound.{Bound}
use Rattle.sml_expansion.specs.Terms.{Term, leaf, one, two, three, place_at}
use Rattle.sml_expansion.specs.Forests.{Forest, none, grown, count, ◌&◌}
use Rattle.sml_expansion.specs.Labels.{doubles}
use Rattle.sml_expansion.specs.Scopes.{Scope, Env, ident, text_of, meaning_of, is_fixed}
use Rattle.sml_expansion.specs.Makings.{Makes, gives, breaks, new_name, ◌>>=◌, ◌>>◌}
use Rattle.sml_expansion.specs.Types.{labels, labels_once, type_of}
use Rattle.sml_expansion.specs.Bare.{wild_node, var_pattern, con_pattern, apply_pattern, record_pattern, tuple_pattern, list_pattern}

-- a list of trees, and the variables that they bind, in order
pub record Pattern : Type 0 where
  pub forest : Forest
  pub vars : List Bound

abbrev pub plain : Forest → Pattern
plain f = record { forest = f; vars = [] }

abbrev pub beside : Pattern → Pattern → Pattern
beside x y = record { forest = x.forest & y.forest; vars = x.vars ++ y.vars }

abbrev pub under : (Forest → Forest) → Pattern → Pattern
under f x = record { forest = f x.forest; vars = x.vars }

-- what isn't bound again
abbrev pub not_fixed : List (List ℕ) → Ident → Makes (Unit {0})
not_fixed names i = breaks (if is_fixed (text_of names i.key) then refusal.BadBinding i.place ∷ [] else [])

-- no name stands twice
abbrev pub idents_once : List Ident → Makes (Unit {0})
idents_once idents = breaks (doubles nat_eq [] (map (λ i. (i.key, i.place)) idents))

abbrev pub vars_once : List Bound → Makes (Unit {0})
vars_once vars = idents_once (map (λ v. v.ident) vars)

abbrev pub env_of : List Bound → Env
env_of vars = record { values = reverse (map (λ v. (v.ident.key, Variable (record { 0 = v.name }))) vars); types = [] }

-- a new variable
abbrev pub binds : List (List ℕ) → Ident → Makes Bound
binds names i = do
  not_fixed names i
  x ← new_name (text_of names i.key)
  gives (record { ident = i; name = x })

-- A long identifier isn't bound: one without a binding is unbound, and any other breaks the rule.
abbrev pub no_long : Option Meaning → Ident → Refusal
no_long None i = refusal.Unbound i.place
no_long (Some m) i = refusal.BadBinding i.place

-- an identifier alone that is no constructor
abbrev pub variable : List (List ℕ) → Place → Ident → Option Meaning → Makes Pattern
variable names p i m =
    if i.long then (do
      breaks (no_long m i ∷ [])
      gives (plain (wild_node p)))
    else (do
      v ← binds names i
      gives (record { forest = var_pattern p v.name; vars = v ∷ [] }))

-- an identifier alone: a constructor, or a variable
abbrev pub identifier : List (List ℕ) → Place → Ident → Option Meaning → Makes Pattern
identifier names p i (Some (Constructor c)) = gives (plain (con_pattern p c))
identifier names p i m = variable names p i m

-- what has to be a constructor; a long identifier with a binding that is none breaks the rule
abbrev pub no_constructor : Option Meaning → Ident → Refusal
no_constructor m i = if i.long && is_some m then refusal.BadBinding i.place else refusal.Unbound i.place

abbrev pub applied : Place → Ident → Option Meaning → Pattern → Makes Pattern
applied p i (Some (Constructor c)) q = gives (under (apply_pattern p c) q)
applied p i m q = do
  breaks (no_constructor m i ∷ [])
  gives (under (λ f. wild_node p) q)

-- `vid as q` where `vid` is a constructor has no typing
abbrev pub layer : Place → ℕ → Option Meaning → Forest → Forest
layer p x (Some (Constructor c)) q = grown (bare.PatAsCon (record { 0 = x }) 0) p q
layer p x m q = grown (bare.PatAs (record { 0 = x }) 0) p q

abbrev pub typed : Place → ℕ → Forest → Forest
typed p t q = grown (bare.PatTyped 0 t) p q

-- `vid as q`: the variable stands before those of q
abbrev pub layered : Scope → Place → Ident → Makes Pattern → Makes Pattern
layered s p i q = do
  v ← binds s.names i
  x ← q
  gives (record { forest = layer p v.name (meaning_of s i.key) x.forest; vars = v ∷ x.vars })

abbrev pub under_type : Scope → Place → Term → Makes Pattern → Makes Pattern
under_type s p t q = do
  n ← type_of s t
  x ← q
  gives (under (typed p n) x)

-- Between parentheses and in a row the grammar has one pattern. Each pattern is one tree.
abbrev pub single : Place → Makes Pattern → Makes Pattern
single p f = do
  x ← f
  gives (if count x.forest == 1 then x else under (λ g. wild_node p) x)

-- The patterns of a list, one for a pattern alone. Bindings and types are numbered in the order of the nodes, a node's own before those of its parts.
abbrev pub patterns : Scope → Term → Makes Pattern
patterns s (leaf (node.Vid x) p) = let i = ident s.names (leaf (node.Vid x) p) in identifier s.names p i (meaning_of s i.key)
patterns s (leaf node.VidEquals p) = let i = ident s.names (leaf node.VidEquals p) in identifier s.names p i (meaning_of s i.key)
patterns s (leaf (node.LongVid x) p) = let i = ident s.names (leaf (node.LongVid x) p) in identifier s.names p i (meaning_of s i.key)
patterns s (leaf (node.Int z) p) = gives (plain (grown (bare.PatInt z) p none))
patterns s (leaf (node.Char c) p) = gives (plain (grown (bare.PatChar c) p none))
patterns s (leaf (node.Text t) p) = gives (plain (grown (bare.PatText t) p none))
patterns s (leaf node.Wild p) = gives (plain (wild_node p))
patterns s (leaf node.PatUnit p) = gives (plain (tuple_pattern p none))
patterns s (leaf node.PatEmptyRecord p) = gives (plain (tuple_pattern p none))
patterns s (leaf node.PatEmptyList p) = gives (plain (list_pattern p none))
patterns s (one node.Op p a) = let i = ident s.names a in identifier s.names p i (meaning_of s i.key)
patterns s (one node.PatParen p a) = single p (patterns s a)
patterns s (one node.PatList p a) = do
  x ← patterns s a
  gives (under (list_pattern p) x)
patterns s (one node.PatRecord p a) = do
  labels_once (labels s.names a)
  x ← patterns s a
  gives (under (record_pattern p (map (λ l. l.0) (labels s.names a))) x)
patterns s (one node.PunRow p l) = let i = ident s.names l in identifier s.names p i (meaning_of s i.key)
patterns s (two node.PatTuple p a b) = do
  x ← patterns s a
  y ← patterns s b
  gives (under (tuple_pattern p) (beside x y))
patterns s (two node.MorePats p a b) = do
  x ← patterns s a
  y ← patterns s b
  gives (beside x y)
patterns s (two node.MoreAtpats p a b) = do
  x ← patterns s a
  y ← patterns s b
  gives (beside x y)
patterns s (two node.MorePatRows p a b) = do
  x ← patterns s a
  y ← patterns s b
  gives (beside x y)
patterns s (two node.ConPat p c a) = let i = ident s.names c in do
  x ← patterns s a
  applied p i (meaning_of s i.key) x
patterns s (two node.TypedPat p a t) = under_type s p t (patterns s a)
patterns s (two node.Layered p v a) = layered s p (ident s.names v) (patterns s a)
patterns s (two node.PatRow p l a) = single p (patterns s a)
patterns s (two node.TypedPunRow p l t) = let i = ident s.names l in under_type s p t (identifier s.names p i (meaning_of s i.key))
patterns s (two node.PunRowAs p l a) = layered s p (ident s.names l) (patterns s a)
patterns s (three node.InfixPat p a v b) = let i = ident s.names v in do
  x ← patterns s a
  y ← patterns s b
  applied p i (meaning_of s i.key) (under (tuple_pattern p) (beside x y))
patterns s (three node.TypedLayered p v t a) = layered s p (ident s.names v) (under_type s p t (patterns s a))
patterns s (three node.TypedPunRowAs p l t a) = layered s p (ident s.names l) (under_type s p t (patterns s a))
patterns s t = gives (plain (wild_node (place_at t)))

-- a pattern of a rule: no name stands twice in it
abbrev pub whole : Makes Pattern → Makes Pattern
whole f = do
  x ← f
  vars_once x.vars
  gives x
