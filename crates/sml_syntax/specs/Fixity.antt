-- Fixity: the directives in force, and how operators group.
use Rattle.std.specs.Prelude.{ℕ, ◌++◌, Bool, true, false, ◌&&◌, ◌||◌, not, nat_eq, nat_lt, cond, drop, length, Option, Some, None, List, [], ◌∷◌}
use Rattle.smlc_base.specs.declared.names.Name.{Name}
use Rattle.sml_tree.specs.declared.status.Status.{Status}
use Rattle.sml_tree.specs.declared.status.Status.TheVariants as status
use Rattle.sml_tree.specs.declared.tree_node.TreeNode.{TreeNode}
use Rattle.sml_tree.specs.declared.tree_node.TreeNode.TheVariants as node
use Rattle.sml_syntax.specs.declared.forms.Terminal.{Terminal}
use Rattle.sml_syntax.specs.declared.forms.Terminal.TheVariants as tok
use Rattle.sml_syntax.specs.declared.forms.Shape.{Shape}
use Rattle.sml_syntax.specs.declared.forms.Shape.TheVariants as shape
use Rattle.sml_syntax.specs.declared.forms.Made.{Made}
use Rattle.sml_syntax.specs.declared.forms.Made.TheVariants as made
use Rattle.sml_syntax.specs.declared.forms.Directive.{Directive}
use Rattle.sml_syntax.specs.declared.forms.Root.{Root}
use Rattle.sml_syntax.specs.declared.forms.Root.TheVariants as root
use Rattle.sml_syntax.specs.declared.forms.Look.{Look}
use Rattle.sml_syntax.specs.declared.forms.Look.TheVariants as look
use Rattle.sml_syntax.specs.declared.forms.InfixVid.{InfixVid}

-- the directives in force, the latest last
abbrev pub Fix : Type 0
Fix = List Directive

abbrev pub or_else : Option Status → Directive → Name → Option Status
or_else (Some u) e x = Some u
or_else None e x = cond (nat_eq e.name.0 x.0) (Some e.status) None

-- what the latest directive for an identifier gives it
abbrev pub directive_for : Fix → Name → Option Status
directive_for [] x = None
directive_for (e ∷ f) x = or_else (directive_for f x) e x

abbrev pub name_look : Name → Bool → Option Status → Look
name_look x s (Some (status.Infix l r)) = look.Operator x s l r
name_look x s _ = look.Plain x s

-- a terminal under the fixity in force
abbrev pub looks : Fix → Terminal → Look
looks f (tok.Id x s) = name_look x s (directive_for f x)
looks f t = look.Other t

abbrev pub directed : Fix → Name → Status → Fix
directed f x u = f ++ record { name = x; status = u } ∷ []

-- what the second part of a `local` directs goes on behind it, what the first directs doesn't
abbrev pub goes_on : Fix → Fix → Fix → Fix
goes_on f e h = f ++ drop (length e) h

-- an infix operator of an expression: an identifier with infix status, or `=`
abbrev pub operates : Look → Option InfixVid
operates (look.Operator x s l r) = Some (record { vid = node.Vid x; level = l; right = r })
operates (look.Other tok.Equals) = Some (record { vid = node.VidEquals; level = 4; right = false })
operates _ = None

-- Both operators of one precedence associate to the left.
-- v is whether operators of one precedence that associate in different ways are grouped to the left, in place of not at all.
abbrev pub alike : Bool → Bool → Bool → Bool
alike true r s = not (r && s)
alike false r s = not r && not s

-- a phrase with this root is a left part of an operator
abbrev pub lefts : Bool → Root → ℕ → Bool → Bool
lefts v root.Bare m s = true
lefts v (root.Operator l r) m s = nat_lt m l || (nat_eq m l && alike v r s)

-- a phrase with the root is a right part of an operator
abbrev pub rights : ℕ → Bool → Root → Bool
rights l r root.Bare = true
rights l r (root.Operator m s) = nat_lt l m || (nat_eq l m && (r && s))

-- a phrase with the second root is a right part of the first, or stands alone
abbrev pub fits : Root → Root → Bool
fits root.Bare m = true
fits (root.Operator l r) m = rights l r m

-- an integer constant is a label
abbrev pub is_label : Shape → Bool
is_label (shape.Digit d) = not (nat_eq d 0)
is_label shape.Numeral = true
is_label shape.Other = false
