-- A nest of declarations ends where the program does.
use Rattle.std.proofs.Common.{◌≡◌, ℕ, zero, suc, Bool, true, false, List, [], ◌∷◌, Option, Some, None, length, map, refl, ap, ◌∙◌, slice_get}
use Rattle.std.specs.Prelude.{option_map}
use Rattle.sml_tree.specs.declared.bare.Bare.{Bare}
use Rattle.sml_tree.specs.declared.bare.Node.{Node}
use Rattle.sml_tree.specs.declared.bare.Node.TheVariants as node
use Rattle.sml_tree.specs.BareParts.{at_node, within}
use Rattle.sml_tree.specs.IsBare.{nest_of}
use Rattle.sml_types.specs.declared.tables.TypeName.{TypeName}
use Rattle.lambda_ir.specs.declared.term.Term.TheVariants as term
use Rattle.lambda_laws.specs.Make.{term_of, terms_of}
use Rattle.lambda_laws.proofs.Programs.{is_program}
use Rattle.convert_laws.specs.Facts.{AreNumbered}
use Rattle.convert_laws.specs.Needs.{needs}
use Rattle.convert_laws.proofs.ByParts.{needs_here}
use Rattle.lambda_ends.specs.Law.{ProgramEndsInNoCall}

get_map : {X Y : Type 0} (f : X → Y) (xs : List X) (a : ℕ) (x : X) → slice_get xs a ≡ Some x → slice_get (map f xs) a ≡ Some (f x)
get_map f [] a x e = absurd cc
get_map f (y ∷ xs) zero x e = ap (option_map f) e
get_map f (y ∷ xs) (suc a) x e = get_map f xs a x e

no_nest : {P : Type 0} → false ≡ true → P
no_nest e = cc

module _ (ts : List TypeName) (p : Bare) (numbered : AreNumbered (terms_of ts p)) where
  abbrev nest : ℕ → ℕ → Bool
  nest k = within false nest_of k p.nodes

  abbrev EndsBelow : ℕ → Type 0
  EndsBelow k = (c : ℕ) → nest k c ≡ true → needs (terms_of ts p) c ≡ false

  at : (k i : ℕ) (o : Option Node) → EndsBelow k → slice_get p.nodes i ≡ o → at_node false nest_of (nest k) i o ≡ true → needs (terms_of ts p) i ≡ false
  at k i None below here e = no_nest e
  at k i (Some (node.Let d b)) below here e =
      needs_here (terms_of ts p) numbered i (term.Let d b) (get_map (term_of ts p.nodes) p.nodes i (node.Let d b) here) ∙ below b e
  at k i (Some node.Finish) below here e =
      needs_here (terms_of ts p) numbered i term.Finish (get_map (term_of ts p.nodes) p.nodes i node.Finish here)
  at k i (Some n) below here e = no_nest e

  ends : (k : ℕ) → EndsBelow k
  ends zero = λ i e. no_nest e
  ends (suc k) = λ i e. at k i (slice_get p.nodes i) (ends k) refl e

pub program_ends_in_no_call : ProgramEndsInNoCall
program_ends_in_no_call ts p bare =
    ends ts p (is_program ts p bare).numbered (length p.nodes) 0 bare.nest
