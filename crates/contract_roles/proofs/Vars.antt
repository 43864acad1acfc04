-- Functions that only call another, from their parts.
use Rattle.std.proofs.Common.{◌≡◌, ℕ, ◌<◌, List, [], ◌∷◌, length, Bool, true, false, ◌&&◌, None, refl, arith, nat_eq}
use Rattle.cps_ir.specs.declared.atom.Atom.{Atom}
use Rattle.cps_ir.specs.declared.atom.Atom.TheVariants as atom
use Rattle.cps_ir.specs.declared.body.Bind.{Bind}
use Rattle.cps_ir.specs.declared.body.Bind.TheVariants as bind
use Rattle.cps_ir.specs.Code.{Code}
use Rattle.cps_ir.specs.Program.{code_of_binds}
use Rattle.contract_round.specs.Round.{are_vars, eta_of}

pub vars_differ : (xs : List ℕ) (us : List Atom) → (length xs ≡ length us → ⊥) → are_vars xs us ≡ false
vars_differ [] [] n = absurd (n refl)
vars_differ [] (a ∷ us) n = refl
vars_differ (x ∷ xs) [] n = refl
vars_differ (x ∷ xs) (atom.Var y ∷ us) n = by (nat_eq x y) (vars_differ xs us (λ e. n (omega arith)))
  where
    by : (b : Bool) → are_vars xs us ≡ false → (b && are_vars xs us) ≡ false
    by true e = e
    by false e = refl
vars_differ (x ∷ xs) (atom.Constant k ∷ us) n = refl

pub bound_first : (f : ℕ) (params : List ℕ) (part : ℕ → Code) (binds : List Bind) (c : Code) → 0 < length binds → None ≡ eta_of f params (code_of_binds part binds c)
bound_first f params part [] c h = absurd (omega arith)
bound_first f params part (bind.Make x shape atoms ∷ binds) c h = refl
bound_first f params part (bind.Pick x i a ∷ binds) c h = refl
bound_first f params part (bind.Prim x g atoms ∷ binds) c h = refl
bound_first f params part (bind.Fix fs ∷ binds) c h = refl
bound_first f params part (bind.Handler x ∷ binds) c h = refl
bound_first f params part (bind.SetHandler a ∷ binds) c h = refl
