-- Type variables, and declarations of types, datatypes and exceptions.
use Rattle.std.proofs.Common.{◌≡◌, ℕ, suc, ◌<◌, ◌≤◌, ◌+◌, List, [], ◌∷◌, ◌++◌, map, reverse, length, refl, sym, ap, subst, ◌∙◌, Option, Some, None, arith, inl, inr, if◌then◌else◌}
use Rattle.std.specs.Prelude.{filter, nat_eq}
use Rattle.std.specs.List.{AllByRecursion}
use Rattle.std.proofs.lemmas.List.{length-append, length-map, reverse-append}
use Rattle.smlc_base.specs.declared.place.Place.{Place}
use Rattle.smlc_base.specs.declared.refusal.Refusal.{Refusal}
use Rattle.smlc_base.specs.declared.refusal.Refusal.TheVariants as refusal
use Rattle.sml_tree.specs.declared.bare.Con.{Con}
use Rattle.sml_tree.specs.declared.bare.Con.TheVariants as con
use Rattle.sml_tree.specs.declared.bare.ConBinding.{ConBinding}
use Rattle.sml_tree.specs.declared.bare.DatBinding.{DatBinding}
use Rattle.sml_tree.specs.declared.bare.TypeBinding.{TypeBinding}
use Rattle.sml_tree.specs.declared.tree_node.TreeNode.TheVariants as node
use Rattle.sml_expansion.specs.declared.made.Made.{Made}
use Rattle.sml_expansion.specs.declared.meaning.Meaning.{Meaning}
use Rattle.sml_expansion.specs.declared.meaning.Meaning.TheVariants.{Variable, Constructor, Builtin}
use Rattle.sml_expansion.specs.declared.scope.Ident.{Ident}
use Rattle.sml_expansion.specs.declared.scope.Bound.{Bound}
use Rattle.sml_expansion.specs.Forests.{Forest}
use Rattle.sml_expansion.specs.Terms.{Term, leaf, one, two, three, four}
use Rattle.sml_expansion.specs.Labels.{doubles}
use Rattle.sml_expansion.specs.Makings.{breaks, new_tyvar, new_name}
use Rattle.sml_expansion.specs.Scopes.{Scope, Env, ident, text_of, meaning_of, is_fixed, within}
use Rattle.sml_expansion.specs.Types.{type_of}
use Rattle.sml_expansion.specs.Patterns.{idents_once, not_fixed, env_of}
use Rattle.sml_expansion.specs.TypeVariables.{new_tyvars, opens, params, only_params, in_scope, numbers_of, tyvars, once, keys_of, bound_again}
use Rattle.sml_expansion.specs.Bindings.{Decs, type_bindings, type_dec, new_datatypes, constructors, NewCon, has, con_meanings, DatDecs, datatypes, type_env, first_number, none_fixed, datatype_dec, ExDecs, exception_of, renaming_of, unbound, exceptions, exception_dec}
use Rattle.expansion_laws.proofs.Contexts.{Among, Context, with_vars, with_cons, ConIn, MeaningIn, EnvIn, ScopeIn, Wider, wider_same, wider_vars, wider_cons, wider_both, env_wider, env_both, among_left, among_right, with_exception, wider_exception}
use Rattle.expansion_laws.proofs.Forms as f
use Rattle.expansion_laws.proofs.Forms.{Sizes, Quiet, Names, Is, before, after, cons_from, data_cons, DatasIn, ArgIn, declarations}
use Rattle.expansion_laws.proofs.Growing.{Grows, grows_same, grows_both, breaks_grows, breaks_quiet, name_grows, name_names, tyvar_grows, tyvar_number, TyvarsIn, tyvars_on, ends_back, Done}
use Rattle.expansion_laws.proofs.Joined.{join_declarations}
use Rattle.expansion_laws.proofs.Kinded as k
use Rattle.expansion_laws.proofs.Kinded.{Kind, Kinded, TypBinds, DatBind, DatBinds, ConBinds, ExBinds, leaves_in}
use Rattle.expansion_laws.proofs.TypesDone.{type_made, quiet_same, quiet_both, all_both}
use Rattle.expansion_laws.proofs.PatternsDone.{option_in}
use Rattle.sml_tree.proofs.Unfold.{all_map}

-- ---- Lists

pub all_reverse : {A : Type 0} (P : A → Type 0) (xs : List A) → AllByRecursion P xs → AllByRecursion P (reverse xs)
all_reverse P [] a = tt
all_reverse P (x ∷ xs) a = subst (AllByRecursion P) (sym (reverse-append (x ∷ []) xs)) (all_both P (reverse xs) (x ∷ []) (all_reverse P xs a.1) (a.0, tt))

-- the refusals of names that stand twice
abbrev pub twice : List Ident → List Refusal
twice idents = doubles nat_eq [] (map (λ i. (i.key, i.place)) idents)

pub idents_grows : (idents : List Ident) (m : Made) → Grows m (idents_once idents m).1
idents_grows idents m = breaks_grows (twice idents) m

pub idents_quiet : (idents : List Ident) (m : Made) → Quiet m (idents_once idents m).1
idents_quiet idents m = breaks_quiet (twice idents) m

pub env_reverse : (g : Context) (xs : List (ℕ × Meaning)) → EnvIn g xs → EnvIn g (reverse xs)
env_reverse g xs a = all_reverse (λ b. MeaningIn g b.1) xs a

-- what a pattern binds is in scope under it
vars_env : (g : Context) (vars : List Bound) → AllByRecursion (λ v. Among v.name g.vars) vars → AllByRecursion (λ v. Among v.name g.plain) vars → EnvIn g (map (λ v. (v.ident.key, Variable (record { 0 = v.name }))) vars)
vars_env g [] h i = tt
vars_env g (v ∷ vars) h i = ((h.0, i.0), vars_env g vars h.1 i.1)

vars_among : (front : List ℕ) (rest : List ℕ) (vars : List Bound) → AllByRecursion (λ v. Among v.name (front ++ (map (λ v. v.name) vars ++ rest))) vars
vars_among front rest [] = tt
vars_among front rest (v ∷ vars) = (
  among_right v.name front (v.name ∷ (map (λ v. v.name) vars ++ rest)) (inl refl),
  subst (λ l. AllByRecursion (λ w. Among w.name l) vars) (shift front) (vars_among (front ++ v.name ∷ []) rest vars),
)
  where
    shift : (front : List ℕ) → (front ++ v.name ∷ []) ++ (map (λ v. v.name) vars ++ rest) ≡ front ++ (v.name ∷ (map (λ v. v.name) vars ++ rest))
    shift [] = refl
    shift (x ∷ front) = ap (λ l. x ∷ l) (shift front)

pub bound_env : (g : Context) (vars : List Bound) → EnvIn (with_vars (map (λ v. v.name) vars) g) (env_of vars).values
bound_env g vars =
    env_reverse (with_vars (map (λ v. v.name) vars) g) (map (λ v. (v.ident.key, Variable (record { 0 = v.name }))) vars)
    (vars_env (with_vars (map (λ v. v.name) vars) g) vars (vars_among [] g.vars vars) (vars_among [] g.plain vars))

-- a scope with more bindings
pub scope_within : {g h : Context} {s : Scope} (e : Env) → Wider g h → EnvIn h e.values → ScopeIn g s → ScopeIn h (within s e)
scope_within {g} {h} {s} e w v i = record { values = env_both h e.values s.env.values v (env_wider w s.env.values i.values); base = λ c b. w.cons c (i.base c b) }

pub scope_wider : {g h : Context} {s : Scope} → Wider g h → ScopeIn g s → ScopeIn h s
scope_wider {s = s} w i = record { values = env_wider w s.env.values i.values; base = λ c b. w.cons c (i.base c b) }

pub scope_bound : {g : Context} {s : Scope} (vars : List Bound) → ScopeIn g s → ScopeIn (with_vars (map (λ v. v.name) vars) g) (within s (env_of vars))
scope_bound {g} vars i = scope_within (env_of vars) (wider_vars (map (λ v. v.name) vars) g) (bound_env g vars) i

-- ---- Type variables

pub record VarsMade (m n : Made) (vars : List (ℕ × ℕ)) : Type 0 where
  pub grows : Grows m n
  pub quiet : Quiet m n
  pub all : AllByRecursion (λ v. v.1 < length n.tyvars) vars

vars_more : {m k n : Made} {vars : List (ℕ × ℕ)} (x y : ℕ) → Grows m k → Quiet m k → y < length k.tyvars → VarsMade k n vars → VarsMade m n ((x, y) ∷ vars)
vars_more {m} {k} {n} x y g q le d = record { grows = grows_both g d.grows; quiet = quiet_both q d.quiet; all = ((let t = d.grows.tyvars in omega (arith, t, le)), d.all) }

tyvars_made : (names : List (List ℕ)) (keys : List ℕ) (m : Made) → VarsMade m (new_tyvars names keys m).1 (new_tyvars names keys m).0
tyvars_made names [] m = record { grows = grows_same m; quiet = quiet_same m; all = tt }
tyvars_made names (x ∷ keys) m =
    vars_more x (length m.tyvars) (tyvar_grows (text_of names x) m) (record { names = refl; datas = refl }) (tyvar_number (text_of names x) m) (tyvars_made names keys (new_tyvar (text_of names x) m).1)

vars_behind : {m k n : Made} {vars : List (ℕ × ℕ)} → Grows m k → Quiet m k → VarsMade k n vars → VarsMade m n vars
vars_behind g q d = record { grows = grows_both g d.grows; quiet = quiet_both q d.quiet; all = d.all }

pub params_made : (names : List (List ℕ)) (idents : List Ident) (m : Made) → VarsMade m (params names idents m).1 (params names idents m).0
params_made names idents m = vars_behind (idents_grows idents m) (idents_quiet idents m) (tyvars_made names (keys_of idents) (idents_once idents m).1)

pub opens_made : (s : Scope) (explicit : List Ident) (occurring : List ℕ) (m : Made) → VarsMade m (opens s explicit occurring m).1 (opens s explicit occurring m).0
opens_made s explicit occurring m =
    let k = (idents_once explicit m).1 in
    let again = map (λ i. refusal.BadBinding i.place) (filter (bound_again s) explicit) in
    vars_behind (grows_both (idents_grows explicit m) (breaks_grows again k)) (record { names = refl; datas = refl })
    (tyvars_made s.names (once [] (keys_of explicit) ++ once (keys_of explicit ++ map (λ v. v.0) s.tyvars) occurring) (breaks again k).1)

pub params_scope : {m n : Made} {vars : List (ℕ × ℕ)} (s : Scope) → VarsMade m n vars → TyvarsIn (only_params s vars) n
params_scope {n = n} {vars = vars} s d = all_reverse (λ v. v.1 < length n.tyvars) vars d.all

pub opens_scope : {m n : Made} {vars : List (ℕ × ℕ)} (s : Scope) → VarsMade m n vars → TyvarsIn s m → TyvarsIn (in_scope s vars) n
opens_scope {m} {n} {vars} s d v = all_both (λ v. v.1 < length n.tyvars) (reverse vars) s.tyvars (all_reverse (λ v. v.1 < length n.tyvars) vars d.all) (tyvars_on s.tyvars d.grows v)

pub numbers_in : {m n : Made} {vars : List (ℕ × ℕ)} (limit : ℕ) → length n.tyvars ≤ limit → VarsMade m n vars → AllByRecursion (λ v. v < limit) (numbers_of vars)
numbers_in {m} {n} {vars} limit le d = go vars d.all
  where
    go : (vs : List (ℕ × ℕ)) → AllByRecursion (λ v. v.1 < length n.tyvars) vs → AllByRecursion (λ v. v < limit) (numbers_of vs)
    go [] h = tt
    go (v ∷ vs) h = ((let x = h.0 in omega (arith, x, le)), go vs h.1)

-- ---- Declarations

-- what declarations come to, in a context
pub record DecsIn (z : Sizes) (m n : Made) (t : Forest) (values : List (ℕ × Meaning)) (g : Context) : Type 0 where
  pub after : Context
  pub is : Is z g m n (declarations after) t
  pub env : EnvIn after values
  pub wider : Wider g after

-- `type`

pub record TypeDecsMade (m n : Made) (bs : List TypeBinding) : Type 0 where
  pub grows : Grows m n
  pub quiet : Quiet m n
  pub all : AllByRecursion (λ b. b.ty < length n.types) bs

types_later : {m n : Made} → Grows m n → (bs : List TypeBinding) → AllByRecursion (λ b. b.ty < length m.types) bs → AllByRecursion (λ b. b.ty < length n.types) bs
types_later {m} {n} g bs h = let y = g.types in all_map (λ b k. omega (arith, k, y)) bs h

pub type_bindings_made : {texts : ℕ} (s : Scope) (t : Term) → Kinded texts TypBinds t → (m : Made) → TyvarsIn s m → TypeDecsMade m (type_bindings s t m).1 (type_bindings s t m).0.bindings
type_bindings_made s t (k.typ_bind p vs c {t = u} h) m v =
    let d = params_made s.names (tyvars s.names vs) m in
    let vars = (params s.names (tyvars s.names vs) m).0 in
    let e = type_made (only_params s vars) u h (params s.names (tyvars s.names vs) m).1 (params_scope s d) in
    record { grows = grows_both d.grows (record { kept = λ x. e.grows.kept x; types = e.grows.types; tyvars = e.grows.tyvars; stand = λ x. e.grows.stand x }); quiet = quiet_both d.quiet (record { names = e.quiet.names; datas = e.quiet.datas }); all = (e.number, tt) }
type_bindings_made s t (k.more_typ_binds p {a} {b} h i) m v =
    let d = type_bindings_made s a h m v in
    let e = type_bindings_made s b i (type_bindings s a m).1 (tyvars_on s.tyvars d.grows v) in
    record { grows = grows_both d.grows e.grows; quiet = quiet_both d.quiet e.quiet; all = all_both {A = TypeBinding} (λ y. y.ty < length (type_bindings s b (type_bindings s a m).1).1.types) (type_bindings s a m).0.bindings (type_bindings s b (type_bindings s a m).1).0.bindings (types_later e.grows (type_bindings s a m).0.bindings d.all) e.all }

abbrev pub DecsDone : Sizes → Scope → Made → Decs × Made → Type 0
DecsDone z s m r = Done z s m r.1 (DecsIn z m r.1 r.0.forest r.0.env.values)

pub type_dec_done : (z : Sizes) (s : Scope) (p : Place) (t : Term) → Kinded z.texts TypBinds t → (m : Made) → TyvarsIn s m → DecsDone z s m (type_dec s p t m)
type_dec_done z s p t h m v =
    let d = type_bindings_made s t h m v in
    let x = (type_bindings s t m).0 in
    let k = (type_bindings s t m).1 in
    record {
      grows = grows_both d.grows (idents_grows x.idents k);
      says = λ e g i. record {
        after = g;
        is = before (quiet_both d.quiet (idents_quiet x.idents k)) (f.more_declarations (f.is_type x.bindings (let y = e.types in all_map (λ b le. omega (arith, le, y)) x.bindings d.all)) f.no_declaration);
        env = tt;
        wider = wider_same g;
      };
    }

-- `datatype`

leaves_some : (t : Term) → 1 ≤ leaves_in t
leaves_some (leaf n p) = omega arith
leaves_some (one n p a) = leaves_some a
leaves_some (two n p a b) = let x = leaves_some a in omega (arith, x)
leaves_some (three n p a b c) = let x = leaves_some a in omega (arith, x)
leaves_some (four n p a b c d) = let x = leaves_some a in omega (arith, x)

pub record ConsMade (m n : Made) (cs : List NewCon) (limit : ℕ) : Type 0 where
  pub grows : Grows m n
  pub quiet : Quiet m n
  pub all : AllByRecursion (λ c. ArgIn (length n.types) c.arg) cs
  pub few : length cs ≤ limit

arg_later : (i j : ℕ) → i ≤ j → (o : Option ℕ) → ArgIn i o → ArgIn j o
arg_later i j le None h = tt
arg_later i j le (Some t) h = omega (arith, le, h)

constructors_made : {texts : ℕ} (s : Scope) (t : Term) → Kinded texts ConBinds t → (m : Made) → TyvarsIn s m → ConsMade m (constructors s t m).1 (constructors s t m).0 (leaves_in t)
constructors_made s t (k.con_bind p v) m w = record { grows = grows_same m; quiet = quiet_same m; all = (tt, tt); few = leaves_some v }
constructors_made s t (k.con_bind_of p v {t = u} h) m w =
    let d = type_made s u h m w in
    let le = leaves_some v in
    record { grows = d.grows; quiet = d.quiet; all = (d.number, tt); few = omega (arith, le) }
constructors_made s t (k.more_con_binds p {a} {b} h i) m w =
    let x = constructors s a m in
    let y = constructors s b x.1 in
    let d = constructors_made s a h m w in
    let e = constructors_made s b i x.1 (tyvars_on s.tyvars d.grows w) in
    let le = e.grows.types in
    let both = length-append x.0 y.0 in
    let f1 = d.few in let f2 = e.few in
    record {
      grows = grows_both d.grows e.grows;
      quiet = quiet_both d.quiet e.quiet;
      all = all_both {A = NewCon} (λ c. ArgIn (length y.1.types) c.arg) x.0 y.0 (all_map (λ c q. arg_later (length x.1.types) (length y.1.types) le c.arg q) x.0 d.all) e.all;
      few = omega (arith, both, f1, f2);
    }

abbrev con_bindings : List (List ℕ) → List NewCon → List ConBinding
con_bindings names cs = map (λ c. record { text = text_of names c.ident.key; arg = c.arg }) cs

args_in : (names : List (List ℕ)) (types : ℕ) (cs : List NewCon) → AllByRecursion (λ c. ArgIn types c.arg) cs → AllByRecursion (λ c. ArgIn types c.arg) (con_bindings names cs)
args_in names types [] h = tt
args_in names types (c ∷ cs) h = (h.0, args_in names types cs h.1)

cons_env : (g : Context) (names : List (List ℕ)) (k i : ℕ) (cs : List NewCon) → ((c : Con) → Among c (cons_from k i (con_bindings names cs)) → Among c g.cons) → EnvIn g (con_meanings k i cs)
cons_env g names k i [] f = tt
cons_env g names k i (c ∷ cs) f = (f (con.Data k i (has c.arg)) (inl refl), cons_env g names k (suc i) cs (λ d h. f d (inr h)))

abbrev dat_count : Term → ℕ
dat_count (two node.MoreDatBinds p a b) = suc (dat_count b)
dat_count t = 1

pub record DatsMade (m n : Made) (k : ℕ) (x : DatDecs) (many : ℕ) : Type 0 where
  pub grows : Grows m n
  pub quiet : Quiet m n
  pub all : DatasIn (length n.types) k x.bindings
  pub total : length x.bindings ≡ many
  pub values : (g : Context) → ((c : Con) → Among c (data_cons x.bindings) → Among c g.cons) → EnvIn g x.values

datas_later : (i j : ℕ) → i ≤ j → (k : ℕ) (bs : List DatBinding) → DatasIn i k bs → DatasIn j k bs
datas_later i j le k [] h = tt
datas_later i j le k (b ∷ bs) h = (h.0, h.1, all_map (λ c q. arg_later i j le c.arg q) b.cons h.2, datas_later i j le (suc k) bs h.3)

dat_bind_made : {texts : ℕ} (s : Scope) (t : Term) → Kinded texts DatBind t → (k : ℕ) (m : Made) → TyvarsIn s m → DatsMade m (datatypes s k t m).1 k (datatypes s k t m).0 1
dat_bind_made s t (k.dat_bind p vs c {cons} h le) i m w =
    let d = params_made s.names (tyvars s.names vs) m in
    let ps = params s.names (tyvars s.names vs) m in
    let x = constructors (only_params s ps.0) cons ps.1 in
    let e = constructors_made (only_params s ps.0) cons h ps.1 (params_scope s d) in
    let few = e.few in
    let same = length-map {B = ConBinding} x.0 (λ c. record { text = text_of s.names c.ident.key; arg = c.arg }) in
    record {
      grows = grows_both d.grows e.grows;
      quiet = quiet_both d.quiet e.quiet;
      all = (refl, (omega (arith, few, le, same)), args_in s.names (length x.1.types) x.0 e.all, tt);
      total = refl;
      values = λ g f. env_reverse g (con_meanings i 0 x.0) (cons_env g s.names i 0 x.0 (λ c h. f c (among_left c (cons_from i 0 (con_bindings s.names x.0)) [] h)));
    }

among_front : {A : Type 0} (c : A) (xs ys : List A) → Among c (xs ++ []) → Among c (xs ++ ys)
among_front c [] ys h = absurd h
among_front c (x ∷ xs) ys (inl e) = inl e
among_front c (x ∷ xs) ys (inr h) = inr (among_front c xs ys h)

datatypes_made : {texts : ℕ} (s : Scope) (t : Term) → Kinded texts DatBinds t → (k : ℕ) (m : Made) → TyvarsIn s m → DatsMade m (datatypes s k t m).1 k (datatypes s k t m).0 (dat_count t)
datatypes_made s t (k.one_dat_bind (k.dat_bind p vs c {cons} h le)) i m w = dat_bind_made s t (k.dat_bind p vs c {cons = cons} h le) i m w
datatypes_made s t (k.more_dat_binds p {a} {b} (k.dat_bind q vs c {cons} h le) j) i m w =
    let x = datatypes s i a m in
    let y = datatypes s (suc i) b x.1 in
    let d = dat_bind_made s a (k.dat_bind q vs c {cons = cons} h le) i m w in
    let e = datatypes_made s b j (suc i) x.1 (tyvars_on s.tyvars d.grows w) in
    let more = e.grows.types in
    record {
      grows = grows_both d.grows e.grows;
      quiet = quiet_both d.quiet e.quiet;
      all = (let l = datas_later (length x.1.types) (length y.1.types) more i x.0.bindings d.all in (l.0, l.1, l.2, e.all));
      total = ap suc e.total;
      values = λ g f. env_both g y.0.values x.0.values (e.values g (λ c h. f c (among_right c _ (data_cons y.0.bindings) h))) (d.values g (λ c h. f c (among_front c _ (data_cons y.0.bindings) h)));
    }

pub record NewsMade (m n : Made) (news : List (Ident × ℕ)) (many : ℕ) : Type 0 where
  pub grows : Grows m n
  pub names : length n.names ≡ length m.names
  pub datas : n.type_names ≡ m.type_names + many
  pub first : first_number news ≡ m.type_names

new_datatypes_made : {texts : ℕ} (names : List (List ℕ)) (t : Term) → Kinded texts DatBinds t → (m : Made) → NewsMade m (new_datatypes names t m).1 (new_datatypes names t m).0 (dat_count t)
new_datatypes_made names t (k.one_dat_bind (k.dat_bind p vs c h le)) m =
    record { grows = record { kept = λ e. e; types = omega arith; tyvars = omega arith; stand = λ h. h }; names = refl; datas = omega arith; first = refl }
new_datatypes_made names t (k.more_dat_binds p {a} {b} (k.dat_bind q vs c h le) i) m =
    let x = new_datatypes names a m in
    let e = new_datatypes_made names b i x.1 in
    let g = e.grows in
    let y = e.datas in
    record { grows = record { kept = λ e. g.kept e; types = g.types; tyvars = g.tyvars; stand = λ h. g.stand h }; names = e.names; datas = omega (arith, y); first = refl }

fixed_grows : (names : List (List ℕ)) (idents : List Ident) (m : Made) → Grows m (none_fixed names idents m).1
fixed_grows names [] m = grows_same m
fixed_grows names (i ∷ idents) m = grows_both (breaks_grows (if is_fixed (text_of names i.key) then refusal.BadBinding i.place ∷ [] else []) m) (fixed_grows names idents (not_fixed names i m).1)

fixed_quiet : (names : List (List ℕ)) (idents : List Ident) (m : Made) → Quiet m (none_fixed names idents m).1
fixed_quiet names [] m = quiet_same m
fixed_quiet names (i ∷ idents) m = quiet_both (breaks_quiet (if is_fixed (text_of names i.key) then refusal.BadBinding i.place ∷ [] else []) m) (fixed_quiet names idents (not_fixed names i m).1)

pub datatype_dec_done : (z : Sizes) (s : Scope) (p : Place) (t : Term) → Kinded z.texts DatBinds t → (m : Made) → TyvarsIn s m → DecsDone z s m (datatype_dec s p t m)
datatype_dec_done z s p t h m v =
    let a = new_datatypes s.names t m in
    let d = new_datatypes_made s.names t h m in
    let idents = map (λ (n : Ident × ℕ). n.0) a.0 in
    let b = (idents_once idents a.1).1 in
    let gb = grows_both d.grows (idents_grows idents a.1) in
    let x = datatypes (within s (type_env a.0)) (first_number a.0) t b in
    let e = datatypes_made (within s (type_env a.0)) t h (first_number a.0) b (tyvars_on s.tyvars gb v) in
    let c = (none_fixed s.names x.0.idents x.1).1 in
    let gc = grows_both e.grows (grows_both (fixed_grows s.names x.0.idents x.1) (idents_grows x.0.idents c)) in
    let qc = quiet_both e.quiet (quiet_both (fixed_quiet s.names x.0.idents x.1) (idents_quiet x.0.idents c)) in
    record {
      grows = grows_both gb gc;
      says = λ y g i. record {
        after = with_cons (data_cons x.0.bindings) g;
        is = f.more_declarations (f.is_datatype x.0.bindings
            (subst (λ l. DatasIn z.types l x.0.bindings) d.first (datas_later (length x.1.types) z.types (let u = y.types in let w = grows_both (fixed_grows s.names x.0.idents x.1) (idents_grows x.0.idents c) in let w' = w.types in omega (arith, u, w')) (first_number a.0) x.0.bindings e.all))
            (qc.names ∙ d.names) (qc.datas ∙ d.datas ∙ ap (λ l. m.type_names + l) (sym e.total))) f.no_declaration;
        env = e.values (with_cons (data_cons x.0.bindings) g) (λ c h. among_left c (data_cons x.0.bindings) g.cons h);
        wider = wider_cons (data_cons x.0.bindings) g;
      };
    }

-- `exception`

abbrev ExDone : Sizes → Scope → Made → ExDecs × Made → Type 0
ExDone z s m r = Done z s m r.1 (DecsIn z m r.1 r.0.forest r.0.values)

pub names_quiet : {m k n : Made} {xs : List ℕ} → Names m xs k → Quiet k n → Names m xs n
names_quiet a q = record { from = a.from; names = q.names ∙ a.names; datas = q.datas ∙ a.datas }

exception_in : {z : Sizes} {m n : Made} (p : Place) (i : Ident) (x : ℕ) (arg : Option ℕ) (g : Context) → Names m (x ∷ []) n → ArgIn z.types arg → DecsIn z m n (exception_of p i x arg).forest (exception_of p i x arg).values g
exception_in p i x arg g e a = record {
  after = with_exception x g;
  is = f.more_declarations (f.is_exception x arg e a) f.no_declaration;
  env = ((inl refl, inl refl), tt);
  wider = wider_exception x g;
}

renaming_in : {z : Sizes} {m n : Made} (p : Place) (i : Ident) (x : ℕ) (o : Option Meaning) (g : Context) → Names m (x ∷ []) n → ((v : Meaning) → o ≡ Some v → MeaningIn g v) → DecsIn z m n (renaming_of p i x o).forest (renaming_of p i x o).values g
renaming_in p i x None g e h = record { after = with_exception x g; is = f.more_declarations (f.not_exception x e) f.no_declaration; env = ((inl refl, inl refl), tt); wider = wider_exception x g }
renaming_in p i x (Some (Variable y)) g e h = record { after = with_exception x g; is = f.more_declarations (f.not_exception x e) f.no_declaration; env = ((inl refl, inl refl), tt); wider = wider_exception x g }
renaming_in p i x (Some (Builtin y)) g e h = record { after = with_exception x g; is = f.more_declarations (f.not_exception x e) f.no_declaration; env = ((inl refl, inl refl), tt); wider = wider_exception x g }
renaming_in {z} {m} {n} p i x (Some (Constructor c)) g e h = go c (h (Constructor c) refl)
  where
    go : (c : Con) → ConIn g c → DecsIn z m n (renaming_of p i x (Some (Constructor c))).forest (renaming_of p i x (Some (Constructor c))).values g
    go (con.Data t number takes) a = record { after = with_exception x g; is = f.more_declarations (f.not_exception x e) f.no_declaration; env = ((inl refl, inl refl), tt); wider = wider_exception x g }
    go con.Ref a = record { after = with_exception x g; is = f.more_declarations (f.not_exception x e) f.no_declaration; env = ((inl refl, inl refl), tt); wider = wider_exception x g }
    go (con.Exn y takes) a = record { after = with_exception x g; is = f.more_declarations (f.same_exception x (con.Exn y takes) e a) f.no_declaration; env = ((inl refl, inl refl), tt); wider = wider_exception x g }
    go (con.Library y) a = record { after = with_exception x g; is = f.more_declarations (f.same_exception x (con.Library y) e a) f.no_declaration; env = ((inl refl, inl refl), tt); wider = wider_exception x g }

exceptions_done : (z : Sizes) (s : Scope) (p : Place) (t : Term) → Kinded z.texts ExBinds t → (m : Made) → TyvarsIn s m → ExDone z s m (exceptions s p t m)
exceptions_done z s p t (k.ex_bind q v) m w =
    let text = text_of s.names (ident s.names v).key in
    record { grows = name_grows text m; says = λ e g i. exception_in p (ident s.names v) (length m.names) None g (name_names text m) tt }
exceptions_done z s p t (k.ex_bind_of q v {t = u} h) m w =
    let text = text_of s.names (ident s.names v).key in
    let n = (new_name text m).1 in
    let d = type_made s u h n w in
    record { grows = grows_both (name_grows text m) d.grows; says = λ e g i. exception_in p (ident s.names v) (length m.names) (Some (type_of s u n).0) g (names_quiet (name_names text m) d.quiet) (let a = d.number in let b = e.types in omega (arith, a, b)) }
exceptions_done z s p t (k.ex_bind_is q v u) m w =
    let text = text_of s.names (ident s.names v).key in
    let j = ident s.names u in
    let n = (new_name text m).1 in
    let rs = unbound (meaning_of s j.key) j in
    record { grows = grows_both (name_grows text m) (breaks_grows rs n); says = λ e g i. renaming_in p (ident s.names v) (length m.names) (meaning_of s j.key) g (names_quiet (name_names text m) (breaks_quiet rs n)) (option_in s j.key g i) }
exceptions_done z s p t (k.more_ex_binds q {a} {b} h j) m w =
    let x = exceptions s p a m in
    let y = exceptions s p b x.1 in
    let d = exceptions_done z s p a h m w in
    let e = exceptions_done z s p b j x.1 (tyvars_on s.tyvars d.grows w) in
    record {
      grows = grows_both d.grows e.grows;
      says = λ r g i.
          let o = d.says (ends_back e.grows r) g i in
          let u = e.says r o.after (scope_wider o.wider i) in
          record { after = u.after; is = join_declarations o.is u.is; env = env_both u.after y.0.values x.0.values u.env (env_wider u.wider x.0.values o.env); wider = wider_both o.wider u.wider };
    }

pub exception_dec_done : (z : Sizes) (s : Scope) (p : Place) (t : Term) → Kinded z.texts ExBinds t → (m : Made) → TyvarsIn s m → DecsDone z s m (exception_dec s p t m)
exception_dec_done z s p t h m v =
    let x = exceptions s p t m in
    let d = exceptions_done z s p t h m v in
    let c = (none_fixed s.names x.0.idents x.1).1 in
    let g = grows_both (fixed_grows s.names x.0.idents x.1) (idents_grows x.0.idents c) in
    let q = quiet_both (fixed_quiet s.names x.0.idents x.1) (idents_quiet x.0.idents c) in
    record { grows = grows_both d.grows g; says = λ e h i. let o = d.says (ends_back g e) h i in record { after = o.after; is = after o.is q; env = o.env; wider = o.wider } }
