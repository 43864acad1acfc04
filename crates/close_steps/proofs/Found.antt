-- A look-up in a scope is the place that the scope has.
use Rattle.std.proofs.Common.{◌≡◌, ℕ, Bool, true, false, cond, List, [], ◌∷◌, Some, None, refl, ap}
use Rattle.std.specs.Prelude.{nat_eq}
use Rattle.close_laws.specs.Lower.{Places, Hand}
use Rattle.close_scopes.specs.declared.found.Found.{Found}
use Rattle.close_scopes.specs.declared.scopes.Bound.{Bound}
use Rattle.close_scopes.specs.Scopes.{operand_at, looked_up, places_of, hand_of}

pub found_place : (at : Places) (bs : List Bound) (x : ℕ) (f : Found) → looked_up bs x ≡ Some f → places_of at bs x ≡ operand_at f
found_place at [] x f e = absurd (cc)
found_place at (b ∷ bs) x f e = by (nat_eq x b.key) e (found_place at bs x f)
  where
    by : (t : Bool) → cond t (Some b.found) (looked_up bs x) ≡ Some f → (looked_up bs x ≡ Some f → places_of at bs x ≡ operand_at f) → cond t (operand_at b.found) (places_of at bs x) ≡ operand_at f
    by true h r = let g : b.found ≡ f = cc in ap operand_at g
    by false h r = r h

pub no_place : (at : Places) (bs : List Bound) (x : ℕ) → looked_up bs x ≡ None → places_of at bs x ≡ at x
no_place at [] x e = refl
no_place at (b ∷ bs) x e = by (nat_eq x b.key) e (no_place at bs x)
  where
    by : (t : Bool) → cond t (Some b.found) (looked_up bs x) ≡ None → (looked_up bs x ≡ None → places_of at bs x ≡ at x) → cond t (operand_at b.found) (places_of at bs x) ≡ at x
    by true h r = absurd (cc)
    by false h r = r h

pub found_record : (bs : List Bound) (hand : Hand) (k : ℕ) (f : Found) → looked_up bs k ≡ Some f → hand_of hand bs k ≡ Some (operand_at f)
found_record [] hand k f e = absurd (cc)
found_record (b ∷ bs) hand k f e = by (nat_eq k b.key) e (found_record bs hand k f)
  where
    by : (t : Bool) → cond t (Some b.found) (looked_up bs k) ≡ Some f → (looked_up bs k ≡ Some f → hand_of hand bs k ≡ Some (operand_at f)) → cond t (Some (operand_at b.found)) (hand_of hand bs k) ≡ Some (operand_at f)
    by true h r = let g : b.found ≡ f = cc in ap (λ (i : Found). Some (operand_at i)) g
    by false h r = r h

pub no_record : (bs : List Bound) (hand : Hand) (k : ℕ) → looked_up bs k ≡ None → hand_of hand bs k ≡ hand k
no_record [] hand k e = refl
no_record (b ∷ bs) hand k e = by (nat_eq k b.key) e (no_record bs hand k)
  where
    by : (t : Bool) → cond t (Some b.found) (looked_up bs k) ≡ None → (looked_up bs k ≡ None → hand_of hand bs k ≡ hand k) → cond t (Some (operand_at b.found)) (hand_of hand bs k) ≡ hand k
    by true h r = absurd (cc)
    by false h r = r h
