-- What is in scope: names by the numbers of their bindings, of which each is a variable or an exception, and constructors of datatypes.
use Rattle.std.proofs.Common.{◌≡◌, ℕ, true, false, List, [], ◌∷◌, ◌++◌, ◌⊎◌, inl, inr}
use Rattle.std.specs.List.{AllByRecursion}
use Rattle.sml_tree.specs.declared.bare.Con.{Con}
use Rattle.sml_tree.specs.declared.bare.Con.TheVariants as con
use Rattle.sml_expansion.specs.declared.meaning.Meaning.{Meaning}
use Rattle.sml_expansion.specs.declared.meaning.Meaning.TheVariants.{Variable, Constructor, Builtin}
use Rattle.sml_expansion.specs.Scopes.{Scope}

-- x stands in a list
abbrev pub Among : {A : Type 0} → A → List A → Type 0
Among x [] = ⊥
Among x (y ∷ ys) = (x ≡ y) ⊎ Among x ys

pub record Context : Type 0 where
  pub vars : List ℕ
  -- those of them that are variables, and those that are exceptions
  pub plain : List ℕ
  pub exceptions : List ℕ
  pub cons : List Con

abbrev pub with_vars : List ℕ → Context → Context
with_vars xs g = record { vars = xs ++ g.vars; plain = xs ++ g.plain; exceptions = g.exceptions; cons = g.cons }

abbrev pub with_exception : ℕ → Context → Context
with_exception x g = record { vars = x ∷ g.vars; plain = g.plain; exceptions = x ∷ g.exceptions; cons = g.cons }

abbrev pub with_cons : List Con → Context → Context
with_cons cs g = record { vars = g.vars; plain = g.plain; exceptions = g.exceptions; cons = cs ++ g.cons }

-- a constructor is one of a datatype in scope, or of an exception in scope, or stands always
abbrev pub ConIn : Context → Con → Type 0
ConIn g (con.Data t number takes) = Among (con.Data t number takes) g.cons
ConIn g con.Ref = Unit {0}
ConIn g (con.Exn x takes) = Among x.0 g.vars × Among x.0 g.exceptions
ConIn g (con.Library e) = Unit {0}

abbrev pub VariableIn : Context → ℕ → Type 0
VariableIn g x = Among x g.vars × Among x g.plain

abbrev pub MeaningIn : Context → Meaning → Type 0
MeaningIn g (Variable x) = VariableIn g x.0
MeaningIn g (Constructor c) = ConIn g c
MeaningIn g (Builtin b) = Unit {0}

abbrev pub EnvIn : Context → List (ℕ × Meaning) → Type 0
EnvIn g values = AllByRecursion (λ b. MeaningIn g b.1) values

-- the constructors of the library
abbrev pub base_cons : List Con
base_cons =
    con.Data 4 0 false ∷ con.Data 4 1 false ∷ con.Data 5 0 false ∷ con.Data 5 1 true ∷ con.Data 6 0 false ∷ con.Data 6 1 true
    ∷ con.Data 7 0 false ∷ con.Data 7 1 false ∷ con.Data 7 2 false ∷ []

-- one context has all that another has
pub record Wider (g h : Context) : Type 0 where
  pub vars : (x : ℕ) → Among x g.vars → Among x h.vars
  pub plain : (x : ℕ) → Among x g.plain → Among x h.plain
  pub exceptions : (x : ℕ) → Among x g.exceptions → Among x h.exceptions
  pub cons : (c : Con) → Among c g.cons → Among c h.cons

pub record ScopeIn (g : Context) (s : Scope) : Type 0 where
  pub values : EnvIn g s.env.values
  pub base : (c : Con) → Among c base_cons → Among c g.cons

pub among_left : {A : Type 0} (x : A) (xs ys : List A) → Among x xs → Among x (xs ++ ys)
among_left x [] ys h = absurd h
among_left x (y ∷ xs) ys (inl e) = inl e
among_left x (y ∷ xs) ys (inr h) = inr (among_left x xs ys h)

pub among_right : {A : Type 0} (x : A) (xs ys : List A) → Among x ys → Among x (xs ++ ys)
among_right x [] ys h = h
among_right x (y ∷ xs) ys h = inr (among_right x xs ys h)

pub among_split : {A : Type 0} (x : A) (xs ys : List A) → Among x (xs ++ ys) → Among x xs ⊎ Among x ys
among_split x [] ys h = inr h
among_split x (y ∷ xs) ys (inl e) = inl (inl e)
among_split x (y ∷ xs) ys (inr h) = more (among_split x xs ys h)
  where
    more : Among x xs ⊎ Among x ys → Among x (y ∷ xs) ⊎ Among x ys
    more (inl h) = inl (inr h)
    more (inr h) = inr h

pub wider_same : (g : Context) → Wider g g
wider_same g = record { vars = λ x h. h; plain = λ x h. h; exceptions = λ x h. h; cons = λ c h. h }

pub wider_vars : (xs : List ℕ) (g : Context) → Wider g (with_vars xs g)
wider_vars xs g = record { vars = λ x h. among_right x xs g.vars h; plain = λ x h. among_right x xs g.plain h; exceptions = λ x h. h; cons = λ c h. h }

pub wider_exception : (x : ℕ) (g : Context) → Wider g (with_exception x g)
wider_exception x g = record { vars = λ y h. inr h; plain = λ y h. h; exceptions = λ y h. inr h; cons = λ c h. h }

pub wider_cons : (cs : List Con) (g : Context) → Wider g (with_cons cs g)
wider_cons cs g = record { vars = λ x h. h; plain = λ x h. h; exceptions = λ x h. h; cons = λ c h. among_right c cs g.cons h }

pub wider_both : {g h k : Context} → Wider g h → Wider h k → Wider g k
wider_both a b = record { vars = λ x m. b.vars x (a.vars x m); plain = λ x m. b.plain x (a.plain x m); exceptions = λ x m. b.exceptions x (a.exceptions x m); cons = λ c m. b.cons c (a.cons c m) }

pub con_wider : {g h : Context} → Wider g h → (c : Con) → ConIn g c → ConIn h c
con_wider w (con.Data t number takes) m = w.cons (con.Data t number takes) m
con_wider w con.Ref m = tt
con_wider w (con.Exn x takes) m = (w.vars x.0 m.0, w.exceptions x.0 m.1)
con_wider w (con.Library e) m = tt

pub variable_wider : {g h : Context} → Wider g h → (x : ℕ) → VariableIn g x → VariableIn h x
variable_wider w x m = (w.vars x m.0, w.plain x m.1)

pub meaning_wider : {g h : Context} → Wider g h → (x : Meaning) → MeaningIn g x → MeaningIn h x
meaning_wider w (Variable x) m = variable_wider w x.0 m
meaning_wider w (Constructor c) m = con_wider w c m
meaning_wider w (Builtin b) m = tt

pub env_wider : {g h : Context} → Wider g h → (xs : List (ℕ × Meaning)) → EnvIn g xs → EnvIn h xs
env_wider w [] m = tt
env_wider w (x ∷ xs) m = (meaning_wider w x.1 m.0, env_wider w xs m.1)

pub env_both : (g : Context) (xs ys : List (ℕ × Meaning)) → EnvIn g xs → EnvIn g ys → EnvIn g (xs ++ ys)
env_both g [] ys a b = b
env_both g (x ∷ xs) ys a b = (a.0, env_both g xs ys a.1 b)
