-- What an identifier stands for is in scope.
use Rattle.std.proofs.Common.{◌≡◌, ℕ, true, false, List, [], ◌∷◌, refl, subst, inl, inr, Option, Some, None, if◌then◌else◌}
use Rattle.std.specs.Prelude.{Bool, nat_eq, bytes_eq}
use Rattle.std.specs.List.{AllByRecursion}
use Rattle.sml_tree.specs.declared.bare.Con.{Con}
use Rattle.sml_tree.specs.declared.bare.Con.TheVariants as con
use Rattle.sml_prelude.specs.declared.values.Value.{Value}
use Rattle.sml_prelude.specs.declared.values.Value.TheVariants as base
use Rattle.sml_prelude.specs.Entries.{first_of}
use Rattle.sml_prelude.specs.Values.{values, value_of}
use Rattle.sml_expansion.specs.declared.meaning.Meaning.{Meaning}
use Rattle.sml_expansion.specs.declared.meaning.Meaning.TheVariants.{Constructor, Builtin}
use Rattle.sml_expansion.specs.Scoped.{latest}
use Rattle.sml_expansion.specs.Scopes.{Scope, meaning_of, or_else, base_value, base_meaning, text_of}
use Rattle.expansion_laws.proofs.Contexts.{Among, Context, ConIn, MeaningIn, EnvIn, ScopeIn, base_cons}

-- constructors of the library
abbrev BaseIn : Con → Type 0
BaseIn (con.Data t number takes) = Among (con.Data t number takes) base_cons
BaseIn con.Ref = Unit {0}
BaseIn (con.Exn x takes) = ⊥
BaseIn (con.Library e) = Unit {0}

abbrev ValueIn : Value → Type 0
ValueIn (base.Constructor c) = BaseIn c
ValueIn (base.Builtin b) = Unit {0}

all_values : AllByRecursion (λ r. ValueIn r.1) values
all_values = (inl refl, (inr (inl refl), (inr (inr (inl refl)), (inr (inr (inr (inl refl))), (inr (inr (inr (inr (inl refl)))), (inr (inr (inr (inr (inr (inl refl))))), (inr (inr (inr (inr (inr (inr (inl refl)))))), (inr (inr (inr (inr (inr (inr (inr (inl refl))))))), (inr (inr (inr (inr (inr (inr (inr (inr (inl refl)))))))), (tt, (tt, (tt, (tt, (tt, (tt, (tt, (tt, (tt, (tt, (tt, (tt, (tt, (tt, (tt, (tt, (tt, (tt, (tt, (tt, (tt, (tt, (tt, (tt, (tt, (tt, (tt, (tt, (tt, (tt, (tt, (tt, (tt, (tt, (tt, (tt, (tt, (tt, (tt, tt))))))))))))))))))))))))))))))))))))))))))))))))

first_in : {T : Type 0} (P : T → Type 0) (rows : List (List ℕ × T)) (text : List ℕ) (v : T) → AllByRecursion (λ r. P r.1) rows → first_of rows text ≡ Some v → P v
first_in P [] text v h e = cc
first_in P (r ∷ rows) text v h e = go (bytes_eq r.0 text) (first_in P rows text v h.1) e
  where
    go : (b : Bool) → (first_of rows text ≡ Some v → P v) → (if b then Some r.1 else first_of rows text) ≡ Some v → P v
    go true f e = let same : r.1 ≡ v = cc in subst P same h.0
    go false f e = f e

value_in : (text : List ℕ) (v : Value) → value_of text ≡ Some v → ValueIn v
unfolding value_of
value_in text v e = first_in ValueIn values text v all_values e

pub latest_in : (g : Context) (rows : List (ℕ × Meaning)) (x : ℕ) (v : Meaning) → EnvIn g rows → latest rows x ≡ Some v → MeaningIn g v
latest_in g [] x v h e = cc
latest_in g (r ∷ rows) x v h e = go (nat_eq r.0 x) (latest_in g rows x v h.1) e
  where
    go : (b : Bool) → (latest rows x ≡ Some v → MeaningIn g v) → (if b then Some r.1 else latest rows x) ≡ Some v → MeaningIn g v
    go true f e = let same : r.1 ≡ v = cc in subst (MeaningIn g) same h.0
    go false f e = f e

con_base : (g : Context) → ((c : Con) → Among c base_cons → Among c g.cons) → (c : Con) → BaseIn c → ConIn g c
con_base g b (con.Data t number takes) h = b (con.Data t number takes) h
con_base g b con.Ref h = tt
con_base g b (con.Exn x takes) h = absurd h
con_base g b (con.Library e) h = tt

base_in : (g : Context) → ((c : Con) → Among c base_cons → Among c g.cons) → (o : Option Value) → ((v : Value) → o ≡ Some v → ValueIn v) → (v : Meaning) → base_meaning o ≡ Some v → MeaningIn g v
base_in g b None h v e = cc
base_in g b (Some (base.Constructor c)) h v e = let same : Constructor c ≡ v = cc in subst (MeaningIn g) same (con_base g b c (h (base.Constructor c) refl))
base_in g b (Some (base.Builtin p)) h v e = let same : Builtin p ≡ v = cc in subst (MeaningIn g) same tt

pub meaning_in : (g : Context) (s : Scope) → ScopeIn g s → (x : ℕ) (v : Meaning) → meaning_of s x ≡ Some v → MeaningIn g v
meaning_in g s i x v e = go (latest s.env.values x) refl e
  where
    go : (o : Option Meaning) → latest s.env.values x ≡ o → or_else o (base_value (text_of s.names x)) ≡ Some v → MeaningIn g v
    go (Some w) f e = let same : w ≡ v = cc in subst (MeaningIn g) same (latest_in g s.env.values x w i.values f)
    go None f e = base_in g i.base (value_of _) (λ w k. value_in _ w k) v e
