-- Names of recursive bindings and of functions.
use Rattle.std.proofs.Common.{◌≡◌, ℕ, zero, suc, ◌<◌, ◌≤◌, ◌+◌, true, false, List, [], ◌∷◌, ◌++◌, length, refl, sym, subst, ◌∙◌, None, arith, if◌then◌else◌}
use Rattle.std.specs.Prelude.{Bool, nat_eq, codes}
use Rattle.std.specs.List.{AllByRecursion}
use Rattle.std.proofs.lemmas.List.{length-append, map-append}
use Rattle.smlc_base.specs.declared.place.Place.{Place}
use Rattle.smlc_base.specs.declared.refusal.Refusal.{Refusal}
use Rattle.smlc_base.specs.declared.refusal.Refusal.TheVariants as refusal
use Rattle.sml_tree.specs.declared.tree_node.TreeNode.TheVariants as node
use Rattle.sml_tree.specs.IsBare.{Consecutive}
use Rattle.sml_expansion.specs.declared.made.Made.{Made}
use Rattle.sml_expansion.specs.declared.scope.Ident.{Ident}
use Rattle.sml_expansion.specs.declared.scope.Bound.{Bound}
use Rattle.sml_expansion.specs.Forests.{Forest}
use Rattle.sml_expansion.specs.Terms.{Term, one, two, place_at}
use Rattle.sml_expansion.specs.Makings.{Makes, breaks, gives, new_name, new_names, ◌>>=◌, ◌>>◌}
use Rattle.sml_expansion.specs.Scopes.{Scope, ident, meaning_of}
use Rattle.sml_expansion.specs.Bare as bare
use Rattle.sml_expansion.specs.Patterns.{binds, no_long, patterns, beside}
use Rattle.sml_expansion.specs.Bindings.{rec_ident, rec_name, rec_names, annotations}
use Rattle.sml_expansion.specs.Clauses as clauses
use Rattle.sml_expansion.specs.Clauses.{head, first_clause, name_of, patterns_in, arguments_in, arguments, infix_argument, name_refusals, clause_refusals, function_name, binds_function, binds_functions}
use Rattle.expansion_laws.proofs.Forms.{Sizes, Quiet, Names}
use Rattle.expansion_laws.proofs.Growing.{Grows, grows_same, grows_both, breaks_grows, breaks_quiet, breaks_nothing, name_grows, name_names, TyvarsIn, tyvars_on, Done}
use Rattle.expansion_laws.proofs.Kinded as k
use Rattle.expansion_laws.proofs.Kinded.{Kind, Kinded, Pat, Pats, Ty, ValBind, ValBinds, Clause, Clauses, FunBinds, Head}
use Rattle.expansion_laws.proofs.TypesDone.{Typed, type_made, quiet_same, quiet_both}
use Rattle.expansion_laws.proofs.PatternsDone.{names_in, refused, binds_grows, binds_names, patterns_made, PatMakes, SomePatterns, first_and_others, tuple_done, one_done}

-- ---- Names one behind the other

from_both : (i : ℕ) (xs ys : List ℕ) → Consecutive i xs → Consecutive (i + length xs) ys → Consecutive i (xs ++ ys)
from_both i [] ys a b = let e : i + 0 ≡ i = omega arith in subst (λ j. Consecutive j ys) e b
from_both i (x ∷ xs) ys a b = let e : i + suc (length xs) ≡ suc i + length xs = omega arith in (a.0, from_both (suc i) xs ys a.1 (subst (λ j. Consecutive j ys) e b))

pub names_both : {m k n : Made} (xs ys : List ℕ) → Names m xs k → Names k ys n → Names m (xs ++ ys) n
names_both {m} {k} {n} xs ys a b =
    let e = a.names in let h = b.names in let l = length-append xs ys in
    record { from = from_both (length m.names) xs ys a.from (subst (λ j. Consecutive j ys) e b.from); names = omega (arith, e, h, l); datas = b.datas ∙ a.datas }

pub names_behind : {m k n : Made} {xs : List ℕ} → Quiet m k → Names k xs n → Names m xs n
names_behind {m} {k} {n} {xs} q a =
    let e = q.names in let h = a.names in
    record { from = subst (λ j. Consecutive j xs) e a.from; names = omega (arith, e, h); datas = a.datas ∙ q.datas }

pub names_none : (m : Made) → Names m [] m
names_none m = record { from = tt; names = omega arith; datas = refl }

-- so many names are bound, unless a rule is broken
pub record Binds (m n : Made) (vars : List Bound) (many : ℕ) : Type 0 where
  pub grows : Grows m n
  pub says : n.refusal ≡ None → Names m (names_in vars) n
  pub many_are : n.refusal ≡ None → length vars ≡ many

abbrev pub BindsDone : Made → List Bound × Made → ℕ → Type 0
BindsDone m r many = Binds m r.1 r.0 many

binds_none : (m : Made) → Binds m m [] 0
binds_none m = record { grows = grows_same m; says = λ e. names_none m; many_are = λ e. refl }

binds_both : {m k n : Made} {i j : ℕ} (xs ys : List Bound) → Binds m k xs i → Binds k n ys j → Binds m n (xs ++ ys) (i + j)
binds_both {m} {k} {n} {i} {j} xs ys a b = record {
  grows = grows_both a.grows b.grows;
  says = λ e. subst (λ l. Names m l n) (sym (map-append (λ v. v.name) xs ys)) (names_both (names_in xs) (names_in ys) (a.says (b.grows.kept e)) (b.says e));
  many_are = λ e. let x = a.many_are (b.grows.kept e) in let y = b.many_are e in let l = length-append xs ys in omega (arith, x, y, l);
}

-- an identifier that is bound, or breaks a rule
one_or_long : (names : List (List ℕ)) (i : Ident) (r : Refusal) (b : Bool) (m : Made) → BindsDone m ((if b then ◌>>◌ (breaks (r ∷ [])) (gives []) else ◌>>=◌ (binds names i) (λ v. gives (v ∷ []))) m) 1
one_or_long names i r true m = record { grows = breaks_grows (r ∷ []) m; says = λ e. refused r m e; many_are = λ e. refused r m e }
one_or_long names i r false m = record { grows = binds_grows names i m; says = λ e. binds_names names i m; many_are = λ e. refl }

rec_ident_done : (s : Scope) (i : Ident) (m : Made) → BindsDone m (rec_ident s i m) 1
rec_ident_done s i m = one_or_long s.names i (no_long (meaning_of s i.key) i) i.long m

-- ---- Recursive bindings

not_named : (z : Sizes) (s : Scope) (w : Term) → Kinded z.texts Pat w → (m : Made) → TyvarsIn s m → let r = ◌>>◌ (breaks (refusal.BadBinding (place_at w) ∷ [])) (◌>>=◌ (patterns s w) (λ x. gives x.vars)) m in BindsDone m r 1
not_named z s w h m v =
    let r = refusal.BadBinding (place_at w) in
    let d = patterns_made z Pat s w h (breaks (r ∷ []) m).1 v in
    record { grows = grows_both (breaks_grows (r ∷ []) m) d.grows; says = λ e. refused r m (d.grows.kept e); many_are = λ e. refused r m (d.grows.kept e) }

rec_name_done : (z : Sizes) (s : Scope) (w : Term) → Kinded z.texts Pat w → (t : Term) → Kinded z.texts Pat t → (m : Made) → TyvarsIn s m → BindsDone m (rec_name s w t m) 1
rec_name_done z s w h t (k.typed_pat p {a} i j) m v = rec_name_done z s w h a i m v
rec_name_done z s w h t (k.pat_vid x p) m v = rec_ident_done s (ident s.names t) m
rec_name_done z s w h t (k.pat_long_vid x p) m v = rec_ident_done s (ident s.names t) m
rec_name_done z s w h t (k.pat_op p a) m v = rec_ident_done s (ident s.names a) m
rec_name_done z s w h t (k.pat_int x p i) m v = not_named z s w h m v
rec_name_done z s w h t (k.pat_char x p i) m v = not_named z s w h m v
rec_name_done z s w h t (k.pat_text x p i) m v = not_named z s w h m v
rec_name_done z s w h t (k.wild p) m v = not_named z s w h m v
rec_name_done z s w h t (k.pat_unit p) m v = not_named z s w h m v
rec_name_done z s w h t (k.pat_empty_record p) m v = not_named z s w h m v
rec_name_done z s w h t (k.pat_empty_list p) m v = not_named z s w h m v
rec_name_done z s w h t (k.pat_paren p i) m v = not_named z s w h m v
rec_name_done z s w h t (k.pat_list p i) m v = not_named z s w h m v
rec_name_done z s w h t (k.pat_record p i) m v = not_named z s w h m v
rec_name_done z s w h t (k.pat_tuple p i j) m v = not_named z s w h m v
rec_name_done z s w h t (k.con_pat p x i) m v = not_named z s w h m v
rec_name_done z s w h t (k.layered p x i) m v = not_named z s w h m v
rec_name_done z s w h t (k.infix_pat p x i j) m v = not_named z s w h m v
rec_name_done z s w h t (k.typed_layered p x i j) m v = not_named z s w h m v

-- how many bindings stand behind the first `rec`
abbrev pub rec_count : Bool → Term → ℕ
rec_count inside (one node.Rec p a) = rec_count true a
rec_count true (two node.ValBind p q a) = 1
rec_count inside (two node.MoreValBinds p a b) = rec_count inside a + rec_count inside b
rec_count inside t = 0

rec_one_done : (z : Sizes) (s : Scope) (t : Term) → Kinded z.texts ValBind t → (inside : Bool) (m : Made) → TyvarsIn s m → BindsDone m (rec_names s inside t m) (rec_count inside t)
rec_one_done z s t (k.val_bind p {q} h i) true m v = rec_name_done z s q h q h m v
rec_one_done z s t (k.val_bind p h i) false m v = binds_none m

pub rec_names_done : (z : Sizes) (s : Scope) (t : Term) → Kinded z.texts ValBinds t → (inside : Bool) (m : Made) → TyvarsIn s m → BindsDone m (rec_names s inside t m) (rec_count inside t)
rec_names_done z s t (k.one_val_bind h) inside m v = rec_one_done z s t h inside m v
rec_names_done z s t (k.more_val_binds p {a} {b} h i) true m v =
    let x = rec_names s true a m in
    let d = rec_one_done z s a h true m v in
    binds_both x.0 (rec_names s true b x.1).0 d (rec_names_done z s b i true x.1 (tyvars_on s.tyvars d.grows v))
rec_names_done z s t (k.more_val_binds p {a} {b} h i) false m v =
    let x = rec_names s false a m in
    let d = rec_one_done z s a h false m v in
    binds_both x.0 (rec_names s false b x.1).0 d (rec_names_done z s b i false x.1 (tyvars_on s.tyvars d.grows v))
rec_names_done z s t (k.rec_binds p {a} h) true m v = rec_names_done z s a h true m v
rec_names_done z s t (k.rec_binds p {a} h) false m v = rec_names_done z s a h true m v

no_types : (m : Made) → Typed m m []
no_types m = record { grows = grows_same m; quiet = quiet_same m; all = tt }

pub annotations_done : {texts : ℕ} (s : Scope) (t : Term) → Kinded texts Pat t → (m : Made) → TyvarsIn s m → Typed m (annotations s t m).1 (annotations s t m).0
annotations_done s t (k.typed_pat p {a} {t = u} h i) m v =
    let x = annotations s a m in
    let d = annotations_done s a h m v in
    let n = type_made s u i x.1 (tyvars_on s.tyvars d.grows v) in
    let le = n.grows.types in
    record { grows = grows_both d.grows n.grows; quiet = quiet_both d.quiet n.quiet; all = (n.number, later x.0 d.all le) }
  where
    later : {i j : ℕ} (xs : List ℕ) → AllByRecursion (λ x. x < i) xs → i ≤ j → AllByRecursion (λ x. x < j) xs
    later [] h le = tt
    later (x ∷ xs) h le = ((let y = h.0 in omega (arith, y, le)), later xs h.1 le)
annotations_done s t (k.pat_vid x p) m v = no_types m
annotations_done s t (k.pat_long_vid x p) m v = no_types m
annotations_done s t (k.pat_op p a) m v = no_types m
annotations_done s t (k.pat_int x p i) m v = no_types m
annotations_done s t (k.pat_char x p i) m v = no_types m
annotations_done s t (k.pat_text x p i) m v = no_types m
annotations_done s t (k.wild p) m v = no_types m
annotations_done s t (k.pat_unit p) m v = no_types m
annotations_done s t (k.pat_empty_record p) m v = no_types m
annotations_done s t (k.pat_empty_list p) m v = no_types m
annotations_done s t (k.pat_paren p i) m v = no_types m
annotations_done s t (k.pat_list p i) m v = no_types m
annotations_done s t (k.pat_record p i) m v = no_types m
annotations_done s t (k.pat_tuple p i j) m v = no_types m
annotations_done s t (k.con_pat p x i) m v = no_types m
annotations_done s t (k.layered p x i) m v = no_types m
annotations_done s t (k.infix_pat p x i j) m v = no_types m
annotations_done s t (k.typed_layered p x i j) m v = no_types m

-- ---- Clauses

infix_argument_done : (z : Sizes) (s : Scope) (a b : Term) → Kinded z.texts Pat a → Kinded z.texts Pat b → PatMakes z s (infix_argument s a b)
infix_argument_done z s a b h i m v =
    let x = patterns s a m in let y = patterns s b x.1 in
    tuple_done z s m y.1 (place_at a) (beside x.0 y.0) (first_and_others z s m (patterns s a) (patterns s b) v (patterns_made z Pat s a h m v) (λ w. one_done z s x.1 y (patterns_made z Pat s b i x.1 w)))

-- the arguments of a head
pub arguments_done : (z : Sizes) (s : Scope) (t : Term) → Kinded z.texts Head t → (m : Made) → TyvarsIn s m → let r = arguments s t m in Done z s m r.1 (SomePatterns z m r)
arguments_done z s t (k.head p w {ps} h) m v = patterns_made z Pats s ps h m v
arguments_done z s t (k.infix_head p {a} {b} w h i) m v = one_done z s m (infix_argument s a b m) (infix_argument_done z s a b h i m v)
arguments_done z s t (k.paren_head p {a} {b} w h i) m v = one_done z s m (infix_argument s a b m) (infix_argument_done z s a b h i m v)
arguments_done z s t (k.paren_head_args p {a} {b} {ps} w h i j) m v =
    first_and_others z s m (infix_argument s a b) (patterns s ps) v (infix_argument_done z s a b h i m v) (patterns_made z Pats s ps j (infix_argument s a b m).1)

-- a function has an argument
pub record AtLeastOne (n : ℕ) : Type 0 where
  pub less : ℕ
  pub same : n ≡ suc less

patterns_some : (t : Term) → AtLeastOne (patterns_in t)
patterns_some (two node.MoreAtpats p a b) = let x = patterns_some a in let e = x.same in record { less = x.less + patterns_in b; same = omega (arith, e) }
patterns_some t = record { less = 0; same = refl }

head_some : {texts : ℕ} (t : Term) → Kinded texts Head t → AtLeastOne (arguments_in t)
head_some t (k.head p w {ps} h) = patterns_some ps
head_some t (k.infix_head p w h i) = record { less = 0; same = refl }
head_some t (k.paren_head p w h i) = record { less = 0; same = refl }
head_some t (k.paren_head_args p {ps = ps} w h i j) = record { less = patterns_in ps; same = omega arith }

clause_some : {texts : ℕ} (t : Term) → Kinded texts Clause t → AtLeastOne (arguments_in (head (first_clause t)))
clause_some t (k.clause p {h} i j) = head_some h i
clause_some t (k.typed_clause p {h} i j l) = head_some h i

pub function_some : {texts : ℕ} (t : Term) → Kinded texts Clauses t → AtLeastOne (arguments_in (head (first_clause t)))
function_some t (k.one_clause h) = clause_some t h
function_some t (k.more_clauses p {a} (k.clause q {h} i j) l) = head_some h i
function_some t (k.more_clauses p {a} (k.typed_clause q {h} i j o) l) = head_some h i

-- new names with one spelling
pub new_names_grow : (text : List ℕ) (n : ℕ) (m : Made) → Grows m (new_names text n m).1
new_names_grow text zero m = grows_same m
new_names_grow text (suc n) m = grows_both (name_grows text m) (new_names_grow text n (new_name text m).1)

pub new_names_are : (text : List ℕ) (n : ℕ) (m : Made) → Names m (new_names text n m).0 (new_names text n m).1
new_names_are text zero m = names_none m
new_names_are text (suc n) m = names_both (length m.names ∷ []) (new_names text n (new_name text m).1).0 (name_names text m) (new_names_are text n (new_name text m).1)

-- what a function is made of its rules
abbrev pub function_of : ℕ → Place → Makes Forest → Makes Forest
function_of n p q = ◌>>=◌ (new_names (codes "v") n) (λ vs. ◌>>=◌ q (λ x. gives (bare.function_node p vs x)))

pub function_same : {texts : ℕ} (t : Term) → Kinded texts Clauses t → (q : Makes Forest) → clauses.function t q ≡ function_of (arguments_in (head (first_clause t))) (place_at t) q
function_same t (k.one_clause (k.clause p i j)) q = refl
function_same t (k.one_clause (k.typed_clause p i j l)) q = refl
function_same t (k.more_clauses p i j) q = refl

-- ---- Names of functions

empty_front : {A : Type 0} (xs ys : List A) → xs ++ ys ≡ [] → xs ≡ []
empty_front [] ys e = refl
empty_front (x ∷ xs) ys e = cc

name_not_long : (g i : Ident) → name_refusals g i ≡ [] → i.long ≡ false
name_not_long g i e = go i.long refl e
  where
    go : (b : Bool) → i.long ≡ b → (if b then refusal.BadBinding i.place ∷ [] else (if nat_eq i.key g.key then [] else refusal.BadBinding i.place ∷ [])) ≡ [] → i.long ≡ false
    go true h e = cc
    go false h e = h

clause_not_long : {texts : ℕ} (names : List (List ℕ)) (t : Term) → Kinded texts Clause t → (g : Ident) (n : ℕ) → clause_refusals names g n t ≡ [] → (ident names (name_of (head t))).long ≡ false
clause_not_long names t (k.clause p {h} i j) g n e = name_not_long g (ident names (name_of h)) (empty_front (name_refusals g (ident names (name_of h))) _ e)
clause_not_long names t (k.typed_clause p {h} i j l) g n e = name_not_long g (ident names (name_of h)) (empty_front (name_refusals g (ident names (name_of h))) _ e)

function_not_long : {texts : ℕ} (names : List (List ℕ)) (t : Term) → Kinded texts Clauses t → (g : Ident) (n : ℕ) → clause_refusals names g n t ≡ [] → (function_name names t).long ≡ false
function_not_long names t (k.one_clause (k.clause p {h} {a} i j)) g n e = clause_not_long names t (k.clause p {h = h} {a = a} i j) g n e
function_not_long names t (k.one_clause (k.typed_clause p {h} {t = u} {a} i j l)) g n e = clause_not_long names t (k.typed_clause p {h = h} {t = u} {a = a} i j l) g n e
function_not_long names t (k.more_clauses p {a} {b} (k.clause q {h} {a = c} i j) l) g n e = clause_not_long names a (k.clause q {h = h} {a = c} i j) g n (empty_front (clause_refusals names g n a) (clause_refusals names g n b) e)
function_not_long names t (k.more_clauses p {a} {b} (k.typed_clause q {h} {t = u} {a = c} i j o) l) g n e = clause_not_long names a (k.typed_clause q {h = h} {t = u} {a = c} i j o) g n (empty_front (clause_refusals names g n a) (clause_refusals names g n b) e)

abbrev bind_one : List (List ℕ) → Ident → Bool → Makes (List Bound)
bind_one names i b = if b then gives [] else ◌>>=◌ (binds names i) (λ v. gives (v ∷ []))

one_unless_long : (names : List (List ℕ)) (i : Ident) (rs : List Refusal) (b : Bool) (m : Made) → (rs ≡ [] → b ≡ false) → BindsDone m (◌>>◌ (breaks rs) (bind_one names i b) m) 1
one_unless_long names i rs true m h = record { grows = breaks_grows rs m; says = λ e. absurd (clash (h (breaks_nothing rs m e))); many_are = λ e. absurd (clash (h (breaks_nothing rs m e))) }
  where
    clash : true ≡ false → ⊥
    clash e = cc
one_unless_long names i rs false m h = record {
  grows = grows_both (breaks_grows rs m) (binds_grows names i (breaks rs m).1);
  says = λ e. names_behind (breaks_quiet rs m) (binds_names names i (breaks rs m).1);
  many_are = λ e. refl;
}

binds_function_done : {texts : ℕ} (names : List (List ℕ)) (t : Term) → Kinded texts Clauses t → (m : Made) → BindsDone m (binds_function names t m) 1
binds_function_done names t h m =
    let i = function_name names t in
    let n = arguments_in (head (first_clause t)) in
    one_unless_long names i (clause_refusals names i n t) i.long m (function_not_long names t h i n)

abbrev pub fun_count : Term → ℕ
fun_count (two node.MoreFunBinds p a b) = suc (fun_count b)
fun_count t = 1

-- one function's names
functions_of_one : {texts : ℕ} (names : List (List ℕ)) (t : Term) → Kinded texts Clauses t → (binds_functions names t ≡ binds_function names t) × (fun_count t ≡ 1)
functions_of_one names t (k.one_clause (k.clause p i j)) = (refl, refl)
functions_of_one names t (k.one_clause (k.typed_clause p i j l)) = (refl, refl)
functions_of_one names t (k.more_clauses p i j) = (refl, refl)

pub binds_functions_done : {texts : ℕ} (names : List (List ℕ)) (t : Term) → Kinded texts FunBinds t → (m : Made) → BindsDone m (binds_functions names t m) (fun_count t)
binds_functions_done names t (k.one_fun h) m =
    let e = functions_of_one names t h in
    subst (λ n. BindsDone m (binds_functions names t m) n) (sym e.1) (subst (λ q. BindsDone m (q m) 1) (sym e.0) (binds_function_done names t h m))
binds_functions_done names t (k.more_funs p {a} {b} h i) m =
    let x = binds_function names a m in
    let e : 1 + fun_count b ≡ suc (fun_count b) = omega arith in
    subst (λ n. BindsDone m (binds_functions names t m) n) e (binds_both x.0 (binds_functions names b x.1).0 (binds_function_done names a h m) (binds_functions_done names b i x.1))
