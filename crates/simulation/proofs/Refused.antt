-- What a pass keeps refuses wrong answers.
use Rattle.std.proofs.Common.{◌≡◌, true, false, inl, inr, sym, ◌∙◌}
use Rattle.simulation.specs.Runs.{Run}
use Rattle.simulation.specs.Keeps.{IsKept}
use Rattle.simulation.specs.Refused.{LosesOutput, NeverEnds, EntersTooOften, KeepsTooMuch, MakesAnother, LeavesUnnamed}
use Rattle.simulation.proofs.Nth.{nth_entry}

no_excuse : {X : Type 0} → false ≡ true → X
no_excuse e = cc

module _ (a b : Run) (k : IsKept false a b) where
  pub loses_output : LosesOutput a b → ⊥
  loses_output h = elim (k.follows.told h.0) [ inl e ↦ h.1 e.0 e.1 | inr e ↦ no_excuse e.0 ]

  pub never_ends : NeverEnds a b → ⊥
  never_ends h = elim (k.follows.ends h.0 h.1) [ inl e ↦ h.1 (sym e.1 ∙ h.2 e.0) | inr e ↦ no_excuse e.0 ]

  pub enters_too_often : EntersTooOften a b → ⊥
  enters_too_often h = let e = nth_entry false a b k.follows h.0 h.3 h.1 h.2 h.4 in h.5 e.0 e.1

  pub keeps_too_much : KeepsTooMuch a b → ⊥
  keeps_too_much h =
      let e = nth_entry false a b k.follows h.0 h.5 h.1 h.2 h.6 in
      let i = e.2.1.image h.3 h.4 h.7 h.8 (inl (h.9, h.9)) in
      let d = i.3.datum h.9 in
      h.10 e.0 (e.2.0 h.3) i.0 e.1 i.2 i.1 d.0 d.1

  pub makes_another : MakesAnother a b → ⊥
  makes_another h =
      let e = k.follows.made h.0 in
      let i = e.2.1.image h.1 h.2 tt h.3 h.4 in
      h.5 e.0 (e.2.0 h.1) i.0 i.1 i.3

  pub leaves_unnamed : LeavesUnnamed b → ⊥
  leaves_unnamed h = elim (k.tidy.named h.0 h.1 h.2 h.3 h.4) [ inl e ↦ h.5 e.0 e.1 e.3 | inr e ↦ no_excuse e.0 ]
