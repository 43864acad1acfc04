-- The law.
use Rattle.std.proofs.Common.{◌≡◌, ℕ, sym, subst, None}
use Rattle.std.specs.Prelude.{List, [], ◌∷◌}
use Rattle.std.specs.List.{AllByRecursion}
use Rattle.sml_tree.specs.declared.bare.Node.{Node}
use Rattle.sml_tree.specs.declared.tree.Tree.{Tree}
use Rattle.sml_expansion.specs.Forests.{none, numbered, grown}
use Rattle.sml_expansion.specs.Whole.{bare_of, broken}
use Rattle.expansion_laws.proofs.Forms as f
use Rattle.expansion_laws.proofs.Positions.{all_numbered}
use Rattle.expansion_laws.proofs.ProgramsDone.{start}
use Rattle.expansion_laws.proofs.Sorts.{fit_of}
use Rattle.expansion_laws.proofs.Clauses.{IsShaped, both_shaped, forest_is, names_once, whole_at}
use Rattle.sane_laws.specs.Uses.{UsesWell, NoConstants, Cites}
use Rattle.expansion_uses.specs.Law.{ExpandsToUses}
use Rattle.expansion_uses.proofs.Walk.{uses_of, more}

module _ (l t : Tree) (shaped : IsShaped l t) (kept : broken l t ≡ None) where
  both : (P Q : Node → Type 0) (nodes : List Node) → AllByRecursion (λ n. P n × Q n) nodes → AllByRecursion P nodes × AllByRecursion Q nodes
  both P Q [] h = (tt, tt)
  both P Q (n ∷ nodes) h = let d = both P Q nodes h.1 in ((h.0.0, d.0), (h.0.1, d.1))

  used_well : UsesWell (bare_of l t)
  used_well =
      let p = forest_is l t shaped kept in
      let nodes = (bare_of l t).nodes in
      let once = names_once l t shaped kept in
      let at = whole_at l t shaped kept in
      let d = uses_of nodes once start (f.program p.node) p.parts p.is (record { plain = λ x a. absurd a; exceptions = λ x a. absurd a }) in
      let w = more nodes once p.node p.place p.parts none (fit_of (f.program p.node) p.parts p.is).0 d (λ i at. (tt, tt)) 0 at in
      let each : AllByRecursion (λ n. NoConstants nodes n × Cites nodes n) (numbered 0 (grown p.node p.place p.parts)) = all_numbered (λ n. NoConstants nodes n × Cites nodes n) 0 (grown p.node p.place p.parts) w.1 in
      let r = both (NoConstants nodes) (Cites nodes) nodes (subst (λ x. AllByRecursion (λ n. NoConstants nodes n × Cites nodes n) (numbered 0 x)) (sym p.same) each) in
      record { constants = r.0; names = r.1 }

pub expands_to_uses : (l t : Tree) → ExpandsToUses l t
expands_to_uses l t ready kept = used_well l t (both_shaped l t ready) kept
