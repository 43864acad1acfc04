-- The variables that a term and what is done with its value bind are different ones, in the range that they have.
use Rattle.std.proofs.Common.{◌≡◌, ℕ, suc, ◌+◌, ◌≤◌, Bool, true, false, cond, List, [], ◌∷◌, ◌++◌, map, nat_eq, length, refl, sym, ap, ◌∙◌, subst, arith, eqb-true}
use Rattle.smlc_base.specs.declared.match_tests.Named.{Named}
use Rattle.cps_ir.specs.declared.atom.Atom.{Atom}
use Rattle.cps_ir.specs.declared.atom.Shape.{Shape}
use Rattle.cps_ir.specs.declared.atom.Test.{Test}
use Rattle.cps_ir.specs.Code.{Code, Pick, Prim, Rules, Otherwise, Rule}
use Rattle.cps_ir.specs.Free.{bound, bound_rules}
use Rattle.cps_ir.specs.State.{bind}
use Rattle.convert_laws.specs.Convert.{Scope, Kon, Known, Text, Way, variable, apply, make, new_steps, steps_from, steps_of, picks, bind_each, bind_names, rule_of, match_of}
use Rattle.convert_laws.proofs.Ranges.{Within, none, wider, joined, front, alone}

-- ---- What is done with a value

-- text that binds r variables at most
abbrev pub Roomy : (Atom → ℕ → Code) → ℕ → Type 0
Roomy g r = (a : Atom) (m : ℕ) → Within m (m + r) (bound (g a m))

abbrev pub KonRoomy : Kon → ℕ → Type 0
KonRoomy (Known a) r = Unit {0}
KonRoomy (Text g) r = Roomy g r

-- a continuation that is wanted as an atom is one
abbrev pub Safe : Bool → Kon → Type 0
Safe b (Known a) = Unit {0}
Safe b (Text g) = b ≡ false

pub applied : (κ : Kon) (r : ℕ) → KonRoomy κ r → (a : Atom) (m : ℕ) → Within m (m + r) (bound (apply κ a m))
applied (Known k) r h a m = none m (m + r)
applied (Text g) r h a m = h a m

pub made : (κ : Kon) (r : ℕ) → KonRoomy κ r → (s : Shape) (atoms : List Atom) (m : ℕ) → Within m (m + suc r) (bound (make s atoms κ m))
made κ r h s atoms m =
    front m (m + suc r) (bound (apply κ (variable m) (suc m))) (omega arith) (wider (suc m) (suc m + r) (suc m) (m + suc r) (bound (apply κ (variable m) (suc m))) (omega arith) (omega arith) (applied κ r h (variable m) (suc m)))

pub more : (n r s : ℕ) (xs : List ℕ) → r ≤ s → Within n (n + r) xs → Within n (n + s) xs
more n r s xs h w = wider n (n + r) n (n + s) xs (omega arith) (omega (arith, h)) w

-- ---- Names

steps_none : (path : List ℕ) → new_steps [] path ≡ length path
steps_none [] = refl
steps_none (i ∷ path) = refl

abbrev fields : Way → List ℕ
fields w = map (λ g. g.0) w

-- what is done behind a way, whose fields these are
abbrev Behind : (Way → Atom → ℕ → Code) → List ℕ → ℕ → Type 0
Behind rest path r = (w : Way) (b : Atom) (m : ℕ) → fields w ≡ path → Within m (m + r) (bound (rest w b m))

picked_new : (path : List ℕ) (a : Atom) (rest : Way → Atom → ℕ → Code) (r n : ℕ) → Behind rest path r → Within n (n + (length path + r)) (bound (picks [] path a rest n))
picked_new [] a rest r n h = more n r (0 + r) (bound (rest [] a n)) (omega arith) (h [] a n refl)
picked_new (i ∷ path) a rest r n h =
    let inner = picks [] path (variable n) (λ w b m. rest ((i, variable n) ∷ w) b m) (suc n) in
    front n (n + (suc (length path) + r)) (bound inner) (omega arith) (wider (suc n) (suc n + (length path + r)) (suc n) (n + (suc (length path) + r)) (bound inner) (omega arith) (omega arith) (picked_new path (variable n) (λ w b m. rest ((i, variable n) ∷ w) b m) r (suc n) (λ w b m e. h ((i, variable n) ∷ w) b m (ap (λ p. i ∷ p) e))))

pub picked : (gone : Way) (path : List ℕ) (a : Atom) (rest : Way → Atom → ℕ → Code) (r n : ℕ) → Behind rest path r → Within n (n + (new_steps (fields gone) path + r)) (bound (picks gone path a rest n))
picked gone [] a rest r n h = more n r (0 + r) (bound (rest [] a n)) (omega arith) (h [] a n refl)
picked [] (i ∷ path) a rest r n h = picked_new (i ∷ path) a rest r n h
picked (g ∷ gone) (i ∷ path) a rest r n h =
    go (nat_eq i g.0) refl (λ e. picked gone path g.1 (λ w c m. rest (g ∷ w) c m) r n (λ w c m f. h (g ∷ w) c m (ap (λ j. j ∷ fields w) (sym (eqb-true i g.0 e)) ∙ ap (λ p. i ∷ p) f)))
  where
    along : Code
    along = picks gone path g.1 (λ w c m. rest (g ∷ w) c m) n

    anew : Code
    anew = Pick n i a (picks [] path (variable n) (λ w c m. rest ((i, variable n) ∷ w) c m) (suc n))

    go : (b : Bool) → nat_eq i g.0 ≡ b → (nat_eq i g.0 ≡ true → Within n (n + (new_steps (fields gone) path + r)) (bound along)) → Within n (n + (cond b (new_steps (fields gone) path) (suc (length path)) + r)) (bound (cond b along anew))
    go true e same = same e
    go false e same = picked_new (i ∷ path) a rest r n h

named_each : (gone : Way) (names : List Named) (a : Atom) (σ : Scope) (rest : Scope → ℕ → Code) (r n : ℕ) → ((τ : Scope) (m : ℕ) → Within m (m + r) (bound (rest τ m))) → Within n (n + (steps_from (fields gone) names + r)) (bound (bind_each gone names a σ rest n))
named_each gone [] a σ rest r n h = more n r (0 + r) (bound (rest σ n)) (omega arith) (h σ n)
named_each gone (x ∷ names) a σ rest r n h =
    wider n (n + (new_steps (fields gone) x.path + (steps_from x.path names + r))) n (n + ((new_steps (fields gone) x.path + steps_from x.path names) + r)) (bound (bind_each gone (x ∷ names) a σ rest n)) (omega arith) (omega arith)
    (picked gone x.path a (λ w b m. bind_each w names a σ (λ τ l. rest (bind τ x.name.0 b) l) m) (steps_from x.path names + r) n (λ w b m e.
    subst (λ p. Within m (m + (steps_from p names + r)) (bound (bind_each w names a σ (λ τ l. rest (bind τ x.name.0 b) l) m))) e (named_each w names a σ (λ τ l. rest (bind τ x.name.0 b) l) r m (λ τ l. h (bind τ x.name.0 b) l))))

pub named : (names : List Named) (a : Atom) (σ : Scope) (rest : Scope → ℕ → Code) (r n : ℕ) → ((τ : Scope) (m : ℕ) → Within m (m + r) (bound (rest τ m))) → Within n (n + (steps_of names + r)) (bound (bind_names names a σ rest n))
named names a σ rest r n h = named_each [] names a σ rest r n h

-- ---- Rules

pub match_same : (a : Atom) (rules : Rules) → bound (match_of a rules) ≡ bound_rules rules
match_same a (Otherwise c) = refl
match_same a (Rule tests c rules) = refl

pub on_match : (a : Atom) (rules : Rules) (lo hi : ℕ) → Within lo hi (bound_rules rules) → Within lo hi (bound (match_of a rules))
on_match a rules lo hi h = subst (Within lo hi) (sym (match_same a rules)) h

pub rule_within : (ts : List Test) (c : Code) (rules : Rules) (lo mid hi : ℕ) → lo ≤ mid → mid ≤ hi → Within lo mid (bound c) → Within mid hi (bound_rules rules) → Within lo hi (bound_rules (rule_of ts c rules))
rule_within [] c rules lo mid hi a b h g = wider lo mid lo hi (bound c) (omega arith) b h
rule_within (t ∷ ts) c rules lo mid hi a b h g = joined lo mid hi (bound c) (bound_rules rules) a b h g

-- a rule, and what is done where it isn't chosen, which binds nothing
pub last_rule : (ts : List Test) (c other : Code) (lo hi : ℕ) → bound other ≡ [] → Within lo hi (bound c) → Within lo hi (bound_rules (rule_of ts c (Otherwise other)))
last_rule [] c other lo hi e h = h
last_rule (t ∷ ts) c other lo hi e h =
    subst (λ xs. Within lo hi (bound c ++ xs)) (sym e) (alone lo hi (bound c) h)
