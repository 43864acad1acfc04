-- What a node cites stands.
use Rattle.std.proofs.Common.{◌≡◌, ℕ, zero, suc, ◌<◌, ◌≤◌, ◌+◌, ◌^◌, ◌⊎◌, inl, inr, true, false, cond, List, [], ◌∷◌, ◌++◌, map, length, refl, sym, ap, subst, ◌∙◌, Option, Some, None, arith, eq-eqb, ne_eqb}
use Rattle.std.specs.Prelude.{slice_get, Bool, nat_eq, flat_map, unwrap_or}
use Rattle.std.specs.List.{AllByRecursion}
use Rattle.std.specs.Option.{is_some}
use Rattle.std.proofs.lemmas.List.{append-nil, append_assoc}
use Rattle.sml_tree.specs.declared.bare.Bare.{Bare}
use Rattle.sml_tree.specs.declared.bare.Con.{Con}
use Rattle.sml_tree.specs.declared.bare.Con.TheVariants as con
use Rattle.sml_tree.specs.declared.bare.ConBinding.{ConBinding}
use Rattle.sml_tree.specs.declared.bare.DatBinding.{DatBinding}
use Rattle.sml_tree.specs.declared.bare.Node.{Node}
use Rattle.sml_tree.specs.declared.bare.Node.TheVariants as node
use Rattle.sml_tree.specs.IsBare as spec
use Rattle.sml_tree.specs.IsBare.{Stands, ConStands, OptionStands, declared_by, cons_of, Consecutive, type_names_at}
use Rattle.sml_expansion.specs.declared.made.Made.{Made}
use Rattle.sml_expansion.specs.Bindings.{has}
use Rattle.sml_expansion.specs.Forests.{Forest, size, roots, with_parts, rec_bindings_at}
use Rattle.expansion_laws.proofs.Contexts.{Among, Context, with_vars, ConIn, base_cons, among_split, among_left, among_right}
use Rattle.expansion_laws.proofs.Forms as f
use Rattle.expansion_laws.proofs.Forms.{Sizes, Is, Part, Names, Quiet, DatasIn, ArgIn, cons_from, data_cons}
use Rattle.expansion_laws.proofs.Positions.{At, EachTree}
use Rattle.expansion_laws.proofs.Spans.{spans_of, SpansOf, Spans}
use Rattle.expansion_laws.proofs.Sorts.{rec_of}
use Rattle.expansion_laws.proofs.Rows.{row_is}
use Rattle.sml_tree.proofs.Unfold.{all_map}

-- ---- Names

is_grows : {z : Sizes} {g : Context} {m n : Made} (r : Part) (t : Forest) → Is z g m n r t → length m.names ≤ length n.names
is_grows {z} {g} {m} {n} r t h = go r (spans_of r t h)
  where
    le : (xs ys : List ℕ) → Spans m n xs ys → length m.names ≤ length n.names
    le xs ys d = let e = d.names.end in omega (arith, e)

    go : (r : Part) → SpansOf m n r t → length m.names ≤ length n.names
    go (f.expression a) d = le _ _ (d [] 0)
    go (f.function a) d = le _ _ (d [] 0)
    go (f.program a) d = le _ _ (d [] 0)
    go (f.pattern a xs) d = le _ _ (d [] 0)
    go (f.declaration a h) d = le _ _ (d [] 0)
    go (f.expressions j) d = le _ _ (d 0)
    go (f.functions j) d = le _ _ (d 0)
    go f.call d = le _ _ (d 0)
    go (f.patterns j xs) d = le _ _ (d 0)
    go f.rules d = le _ _ (d 0)
    go (f.bindings j xs) d = le _ _ (d 0)
    go (f.declarations h) d = le _ _ (d 0)

-- all of these are below
abbrev Below : ℕ → List ℕ → Type 0
Below limit xs = (x : ℕ) → Among x xs → x < limit

below_more : (i j : ℕ) (xs : List ℕ) → i ≤ j → Below i xs → Below j xs
below_more i j xs le h x a = let b = h x a in omega (arith, le, b)

below_both : (i : ℕ) (xs ys : List ℕ) → Below i xs → Below i ys → Below i (xs ++ ys)
below_both i xs ys a b x h = go (among_split x xs ys h)
  where
    go : Among x xs ⊎ Among x ys → x < i
    go (inl h) = a x h
    go (inr h) = b x h

from_below : (i : ℕ) (xs : List ℕ) → Consecutive i xs → Below (i + length xs) xs
from_below i [] h x a = absurd a
from_below i (y ∷ xs) h x (inl e) = let b = h.0 in let c : x ≡ y = e in omega (arith, b, c)
from_below i (y ∷ xs) h x (inr a) = let b = from_below (suc i) xs h.1 x a in omega (arith, b)

names_below : {m n : Made} {xs : List ℕ} → Names m xs n → Below (length n.names) xs
names_below {m} {n} {xs} e x a = let b = from_below (length m.names) xs e.from x a in let c = e.names in omega (arith, b, c)

abbrev BelowOf : Context → Made → Part → Type 0
BelowOf g n (f.pattern a xs) = Below (length n.names) xs
BelowOf g n (f.patterns j xs) = Below (length n.names) xs
BelowOf g n (f.bindings j xs) = Below (length n.names) xs
BelowOf g n (f.declaration a h) = (x : ℕ) → Among x h.vars → (x < length n.names) ⊎ Among x g.vars
BelowOf g n _ = Unit {0}

vars_below : (i : ℕ) (xs vs : List ℕ) → Below i xs → (x : ℕ) → Among x (xs ++ vs) → (x < i) ⊎ Among x vs
vars_below i xs vs b x h = go (among_split x xs vs h)
  where
    go : Among x xs ⊎ Among x vs → (x < i) ⊎ Among x vs
    go (inl h) = inl (b x h)
    go (inr h) = inr h

none_below : (i : ℕ) → Below i []
none_below i x a = absurd a

quiet_below : {k n : Made} (g : Context) (r : Part) → Quiet k n → BelowOf g k r → BelowOf g n r
quiet_below {k} {n} g (f.pattern a xs) q b = below_more (length k.names) (length n.names) xs (let e = q.names in omega (arith, e)) b
quiet_below {k} {n} g (f.patterns j xs) q b = below_more (length k.names) (length n.names) xs (let e = q.names in omega (arith, e)) b
quiet_below {k} {n} g (f.bindings j xs) q b = below_more (length k.names) (length n.names) xs (let e = q.names in omega (arith, e)) b
quiet_below {k} {n} g (f.declaration a h) q b = λ x m. go x (b x m)
  where
    go : (x : ℕ) → (x < length k.names) ⊎ Among x g.vars → (x < length n.names) ⊎ Among x g.vars
    go x (inl le) = let e = q.names in inl (omega (arith, e, le))
    go x (inr m) = inr m
quiet_below g (f.expression a) q b = tt
quiet_below g (f.function a) q b = tt
quiet_below g (f.program a) q b = tt
quiet_below g (f.expressions j) q b = tt
quiet_below g (f.functions j) q b = tt
quiet_below g f.call q b = tt
quiet_below g f.rules q b = tt
quiet_below g (f.declarations h) q b = tt

below_of : {z : Sizes} {m n : Made} (g : Context) (r : Part) (t : Forest) → Is z g m n r t → BelowOf g n r
below_of g r t (f.before q h) = below_of g r t h
below_of g r t (f.after h q) = quiet_below g r q (below_of g r t h)
below_of g r t (f.no_pattern {m = m}) = none_below (length m.names)
below_of g r t (f.more_patterns {k = k} {n = n} {a = a} {parts = parts} {rest = rest} {j = j} {xs = xs} {ys = ys} h i) =
    below_both (length n.names) xs ys (below_more (length k.names) (length n.names) xs (is_grows (f.patterns j ys) rest i) (below_of g (f.pattern a xs) parts h)) (below_of g (f.patterns j ys) rest i)
below_of g r t (f.no_binding {m = m}) = none_below (length m.names)
below_of g r t (f.more_bindings {k = k} {l = l} {n = n} {a = a} {b = b} {parts = parts} {inner = inner} {rest = rest} {j = j} {xs = xs} {ys = ys} h i o) =
    let x = is_grows (f.expression b) inner i in let y = is_grows (f.bindings j ys) rest o in
    below_both (length n.names) xs ys (below_more (length k.names) (length n.names) xs (omega (arith, x, y)) (below_of g (f.pattern a xs) parts h)) (below_of g (f.bindings j ys) rest o)
below_of g r t (f.is_wild {m = m}) = none_below (length m.names)
below_of g r t (f.int_pattern {m = m} i o) = none_below (length m.names)
below_of g r t (f.char_pattern {m = m} c o) = none_below (length m.names)
below_of g r t (f.text_pattern {m = m} x o) = none_below (length m.names)
below_of g r t (f.variable_pattern x e) = names_below e
below_of g r t (f.con_pattern {m = m} c o) = none_below (length m.names)
below_of g r t (f.apply_pattern {xs = xs} c o h) = below_of g (f.patterns 1 xs) t h
below_of g r t (f.record_pattern {xs = xs} labs o h) = below_of g (f.patterns (length labs) xs) t h
below_of g r t (f.typed_pattern {xs = xs} y o h) = below_of g (f.patterns 1 xs) t h
below_of g r t (f.as_pattern {k = k} {n = n} {xs = xs} x e h) = below_both (length n.names) (x ∷ []) xs (below_more (length k.names) (length n.names) (x ∷ []) (is_grows (f.patterns 1 xs) t h) (names_below e)) (below_of g (f.patterns 1 xs) t h)
below_of g r t (f.con_as_pattern {k = k} {n = n} {xs = xs} x e h) = below_both (length n.names) (x ∷ []) xs (below_more (length k.names) (length n.names) (x ∷ []) (is_grows (f.patterns 1 xs) t h) (names_below e)) (below_of g (f.patterns 1 xs) t h)
below_of g r t (f.is_val {n = n} {j = j} {xs = xs} vs o h) = vars_below (length n.names) xs g.vars (below_of g (f.bindings j xs) t h)
below_of g r t (f.is_val_rec {k = k} {n = n} vs xs o e h) = vars_below (length n.names) xs g.vars (below_more (length k.names) (length n.names) xs (is_grows (f.functions (length xs)) t h) (names_below e))
below_of g r t (f.is_type bs o) = λ x m. inr m
below_of g r t (f.is_datatype bs o e i) = λ x m. inr m
below_of g r t (f.is_exception {n = n} x arg e o) = vars_below (length n.names) (x ∷ []) g.vars (names_below e)
below_of g r t (f.same_exception {n = n} x c e o) = vars_below (length n.names) (x ∷ []) g.vars (names_below e)
below_of g r t (f.not_exception {n = n} x e) = vars_below (length n.names) (x ∷ []) g.vars (names_below e)
below_of g r t _ = tt

-- ---- Constructors of datatypes

abbrev dats : Node → List DatBinding
dats (node.Datatype bs) = bs
dats _ = []

abbrev argued : DatBinding → List Bool
argued d = map (λ c. is_some c.arg) d.cons

abbrev declared_in : ℕ → List DatBinding → List Bool
declared_in k ds = flat_map (λ d. cond (nat_eq d.type_name k) (map (λ c. is_some c.arg) d.cons) []) ds

flat_append : {A B : Type 0} (own : A → List B) (xs ys : List A) → flat_map own (xs ++ ys) ≡ flat_map own xs ++ flat_map own ys
flat_append own [] ys = refl
flat_append own (x ∷ xs) ys = ap (λ l. own x ++ l) (flat_append own xs ys) ∙ sym (append_assoc (own x) (flat_map own xs) (flat_map own ys))

declared_one : (k : ℕ) (n : Node) → declared_by k n ≡ declared_in k (dats n)
declared_one k (node.Datatype bs) = refl
declared_one k _ = refl

declared_all : (k : ℕ) (nodes : List Node) → flat_map (declared_by k) nodes ≡ declared_in k (flat_map dats nodes)
declared_all k [] = refl
declared_all k (n ∷ nodes) =
    ap (λ l. l ++ flat_map (declared_by k) nodes) (declared_one k n) ∙ ap (λ l. declared_in k (dats n) ++ l) (declared_all k nodes)
    ∙ sym (flat_append (λ d. cond (nat_eq d.type_name k) (map (λ c. is_some c.arg) d.cons) []) (dats n) (flat_map dats nodes))

map_append : (xs ys : List DatBinding) → map (λ d. d.type_name) (xs ++ ys) ≡ map (λ d. d.type_name) xs ++ map (λ d. d.type_name) ys
map_append [] ys = refl
map_append (x ∷ xs) ys = ap (λ l. x.type_name ∷ l) (map_append xs ys)

names_one : (n : Node) → type_names_at n ≡ map (λ d. d.type_name) (dats n)
names_one (node.Datatype bs) = refl
names_one _ = refl

names_all : (nodes : List Node) → flat_map type_names_at nodes ≡ map (λ d. d.type_name) (flat_map dats nodes)
names_all [] = refl
names_all (n ∷ nodes) = ap (λ l. l ++ flat_map type_names_at nodes) (names_one n) ∙ ap (λ l. map (λ d. d.type_name) (dats n) ++ l) (names_all nodes) ∙ sym (map_append (dats n) (flat_map dats nodes))

from_least : (i : ℕ) (ds : List DatBinding) (d : DatBinding) → Consecutive i (map (λ d. d.type_name) ds) → Among d ds → i ≤ d.type_name
from_least i [] d h a = absurd a
from_least i (e ∷ ds) d h (inl s) = let b = h.0 in let c : d.type_name ≡ e.type_name = ap (λ w. w.type_name) s in omega (arith, b, c)
from_least i (e ∷ ds) d h (inr a) = let b = from_least (suc i) ds d h.1 a in omega (arith, b)

none_declared : (k i : ℕ) (ds : List DatBinding) → k < i → Consecutive i (map (λ d. d.type_name) ds) → declared_in k ds ≡ []
none_declared k i [] le h = refl
none_declared k i (e ∷ ds) le h =
    let n : nat_eq e.type_name k ≡ false = ne_eqb e.type_name k (λ s. let b = h.0 in omega (arith, b, s, le)) in
    ap (λ b. cond b (argued e) [] ++ declared_in k ds) n ∙ none_declared k (suc i) ds (omega (arith, le)) h.1

declared_once : (i : ℕ) (ds : List DatBinding) (d : DatBinding) → Consecutive i (map (λ d. d.type_name) ds) → Among d ds → declared_in d.type_name ds ≡ argued d
declared_once i [] d h a = absurd a
declared_once i (e ∷ ds) d h (inl s) =
    let same : nat_eq e.type_name d.type_name ≡ true = eq-eqb e.type_name d.type_name (ap (λ w. w.type_name) (sym s)) in
    let below : d.type_name < suc i = let b = h.0 in let c : d.type_name ≡ e.type_name = ap (λ w. w.type_name) s in omega (arith, b, c) in
    ap (λ b. cond b (argued e) [] ++ declared_in d.type_name ds) same ∙ ap (λ l. argued e ++ l) (none_declared d.type_name (suc i) ds below h.1) ∙ append-nil (argued e) ∙ ap argued (sym s)
declared_once i (e ∷ ds) d h (inr a) =
    let n : nat_eq e.type_name d.type_name ≡ false = ne_eqb e.type_name d.type_name (λ s. let b = h.0 in let c = from_least (suc i) ds d h.1 a in omega (arith, b, c, s)) in
    ap (λ b. cond b (argued e) [] ++ declared_in d.type_name ds) n ∙ declared_once (suc i) ds d h.1 a

past_base : (k : ℕ) → 10 ≤ k → slice_get spec.base_cons k ≡ None
past_base zero h = absurd (omega (arith, h))
past_base (suc zero) h = absurd (omega (arith, h))
past_base (suc (suc zero)) h = absurd (omega (arith, h))
past_base (suc (suc (suc zero))) h = absurd (omega (arith, h))
past_base (suc (suc (suc (suc zero)))) h = absurd (omega (arith, h))
past_base (suc (suc (suc (suc (suc zero))))) h = absurd (omega (arith, h))
past_base (suc (suc (suc (suc (suc (suc zero)))))) h = absurd (omega (arith, h))
past_base (suc (suc (suc (suc (suc (suc (suc zero))))))) h = absurd (omega (arith, h))
past_base (suc (suc (suc (suc (suc (suc (suc (suc zero)))))))) h = absurd (omega (arith, h))
past_base (suc (suc (suc (suc (suc (suc (suc (suc (suc k))))))))) h = refl

node_dats : (nodes : List Node) (i : ℕ) (n : Node) (d : DatBinding) → slice_get nodes i ≡ Some n → Among d (dats n) → Among d (flat_map dats nodes)
node_dats [] i n d e a = cc
node_dats (x ∷ nodes) zero n d e a = let s : x ≡ n = cc in among_left d (dats x) (flat_map dats nodes) (subst (λ w. Among d (dats w)) (sym s) a)
node_dats (x ∷ nodes) (suc i) n d e a = among_right d (dats x) (flat_map dats nodes) (node_dats nodes i n d e a)

has_some : (o : Option ℕ) → has o ≡ is_some o
has_some None = refl
has_some (Some x) = refl

record OneCon (c : Con) (k i : ℕ) (cs : List ConBinding) : Type 0 where
  at : ℕ
  takes : Bool
  same : c ≡ con.Data k (i + at) takes
  there : slice_get (map (λ c. is_some c.arg) cs) at ≡ Some takes
  less : at < length cs

one_con : (c : Con) (k i : ℕ) (cs : List ConBinding) → Among c (cons_from k i cs) → OneCon c k i cs
one_con c k i [] a = absurd a
one_con c k i (x ∷ cs) (inl e) = let z : i ≡ i + 0 = omega arith in record { at = 0; takes = has x.arg; same = e ∙ ap (λ w. con.Data k w (has x.arg)) z; there = ap Some (sym (has_some x.arg)); less = omega arith }
one_con c k i (x ∷ cs) (inr a) =
    let o = one_con c k (suc i) cs a in
    let z : suc i + o.at ≡ i + suc o.at = omega arith in let l = o.less in
    record { at = suc o.at; takes = o.takes; same = o.same ∙ ap (λ w. con.Data k w o.takes) z; there = o.there; less = omega (arith, l) }

abbrev pub sizes_in : Bare → Sizes
sizes_in p = record { types = length p.types; tyvars = length p.tyvars; texts = length p.texts }

module _ (p : Bare) (declared : Consecutive 10 (flat_map type_names_at p.nodes)) where
  ordered : Consecutive 10 (map (λ d. d.type_name) (flat_map dats p.nodes))
  ordered = subst (Consecutive 10) (names_all p.nodes) declared

  binding_cons : (d : DatBinding) → Among d (flat_map dats p.nodes) → length d.cons < 1048577 → (c : Con) → Among c (cons_from d.type_name 0 d.cons) → ConStands p c
  binding_cons d m few c a =
      let o = one_con c d.type_name 0 d.cons a in
      let all_of : cons_of p.nodes d.type_name ≡ argued d =
      ap (λ l. unwrap_or l [] ++ flat_map (declared_by d.type_name) p.nodes) (past_base d.type_name (from_least 10 (flat_map dats p.nodes) d ordered m))
      ∙ declared_all d.type_name p.nodes ∙ declared_once 10 (flat_map dats p.nodes) d ordered m in
      let z : 0 + o.at ≡ o.at = omega arith in let l = o.less in
      subst (ConStands p) (sym (o.same ∙ ap (λ w. con.Data d.type_name w o.takes) z)) (ap (λ w. slice_get w o.at) all_of ∙ o.there, omega (arith, l, few))

  data_stands : (types k i : ℕ) (bs : List DatBinding) → ((d : DatBinding) → Among d bs → Among d (flat_map dats p.nodes)) → DatasIn types k bs → (c : Con) → Among c (data_cons bs) → ConStands p c
  data_stands types k i [] f h c a = absurd a
  data_stands types k i (d ∷ bs) f h c a = go (among_split c (cons_from d.type_name 0 d.cons) (data_cons bs) a) (data_stands types (suc k) i bs (λ e m. f e (inr m)) h.3 c)
    where
      go : Among c (cons_from d.type_name 0 d.cons) ⊎ Among c (data_cons bs) → (Among c (data_cons bs) → ConStands p c) → ConStands p c
      go (inl a) r = binding_cons d (f d (inl refl)) h.1 c a
      go (inr a) r = r a

  pub base_stands : (c : Con) → Among c base_cons → ConStands p c
  base_stands c (inl e) = subst (ConStands p) (sym e) (refl, omega arith)
  base_stands c (inr (inl e)) = subst (ConStands p) (sym e) (refl, omega arith)
  base_stands c (inr (inr (inl e))) = subst (ConStands p) (sym e) (refl, omega arith)
  base_stands c (inr (inr (inr (inl e)))) = subst (ConStands p) (sym e) (refl, omega arith)
  base_stands c (inr (inr (inr (inr (inl e))))) = subst (ConStands p) (sym e) (refl, omega arith)
  base_stands c (inr (inr (inr (inr (inr (inl e)))))) = subst (ConStands p) (sym e) (refl, omega arith)
  base_stands c (inr (inr (inr (inr (inr (inr (inl e))))))) = subst (ConStands p) (sym e) (refl, omega arith)
  base_stands c (inr (inr (inr (inr (inr (inr (inr (inl e)))))))) = subst (ConStands p) (sym e) (refl, omega arith)
  base_stands c (inr (inr (inr (inr (inr (inr (inr (inr (inl e))))))))) = subst (ConStands p) (sym e) (refl, omega arith)
  base_stands c (inr (inr (inr (inr (inr (inr (inr (inr (inr a))))))))) = absurd a

  -- what is in scope stands
  pub record Good (g : Context) : Type 0 where
    pub vars : (x : ℕ) → Among x g.vars → x < length p.names
    pub cons : (c : Con) → Among c g.cons → ConStands p c

  con_stands : (g : Context) → Good g → (c : Con) → ConIn g c → ConStands p c
  con_stands g o (con.Data t number takes) h = o.cons (con.Data t number takes) h
  con_stands g o con.Ref h = tt
  con_stands g o (con.Exn x takes) h = o.vars x.0 h.0
  con_stands g o (con.Library e) h = tt

  good_vars : (g : Context) (xs : List ℕ) → Good g → Below (length p.names) xs → Good (with_vars xs g)
  good_vars g xs o b = record { vars = λ x a. go x (among_split x xs g.vars a); cons = o.cons }
    where
      go : (x : ℕ) → Among x xs ⊎ Among x g.vars → x < length p.names
      go x (inl a) = b x a
      go x (inr a) = o.vars x a

  cons_after : {m n : Made} (g h : Context) (a : Node) (t : Forest) → Is (sizes_in p) g m n (f.declaration a h) t → Good g → (i : ℕ) → slice_get p.nodes i ≡ Some (with_parts a (roots (suc i) t)) → (c : Con) → Among c h.cons → ConStands p c
  cons_after g h a t (f.before q d) o i e c m = cons_after g h a t d o i e c m
  cons_after g h a t (f.after d q) o i e c m = cons_after g h a t d o i e c m
  cons_after g h a t (f.is_val vs w d) o i e c m = o.cons c m
  cons_after g h a t (f.is_val_rec vs xs w u d) o i e c m = o.cons c m
  cons_after g h a t (f.is_type bs w) o i e c m = o.cons c m
  cons_after g h a t (f.is_datatype {m = k} bs w u v) o i e c m = go (among_split c (data_cons bs) g.cons m)
    where
      go : Among c (data_cons bs) ⊎ Among c g.cons → ConStands p c
      go (inl m) = data_stands (length p.types) k.type_names 0 bs (λ d b. node_dats p.nodes i (node.Datatype bs) d e b) w c m
      go (inr m) = o.cons c m
  cons_after g h a t (f.is_exception x arg u w) o i e c m = o.cons c m
  cons_after g h a t (f.same_exception x w u v) o i e c m = o.cons c m
  cons_after g h a t (f.not_exception x u) o i e c m = o.cons c m

  good_after : {m n : Made} (g h : Context) (a : Node) (t : Forest) → Is (sizes_in p) g m n (f.declaration a h) t → Good g → length n.names ≤ length p.names → (i : ℕ) → slice_get p.nodes i ≡ Some (with_parts a (roots (suc i) t)) → Good h
  good_after {m} {n} g h a t d o le i e = record { vars = λ x b. go x (below_of g (f.declaration a h) t d x b); cons = cons_after g h a t d o i e }
    where
      go : (x : ℕ) → (x < length n.names) ⊎ Among x g.vars → x < length p.names
      go x (inl l) = omega (arith, l, le)
      go x (inr b) = o.vars x b

  abbrev S : ℕ → Forest → Type 0
  S = EachTree (λ j n. Stands p n)

  abbrev NodeStands : Node → Forest → Type 0
  NodeStands a t = (j : ℕ) → At p.nodes j t → Stands p (with_parts a (roots j t)) × S j t

  abbrev Inner : Part → Forest → Type 0
  Inner (f.expression a) t = NodeStands a t
  Inner (f.function a) t = NodeStands a t
  Inner (f.program a) t = NodeStands a t
  Inner (f.pattern a xs) t = NodeStands a t
  Inner (f.declaration a h) t = NodeStands a t
  Inner _ t = (i : ℕ) → At p.nodes i t → S i t

  arg_stands : (o : Option ℕ) → ArgIn (length p.types) o → OptionStands p o
  arg_stands None h = tt
  arg_stands (Some t) h = h

  args_stand : (k : ℕ) (bs : List DatBinding) → DatasIn (length p.types) k bs → AllByRecursion (λ d. AllByRecursion (λ c. OptionStands p c.arg) d.cons × (length d.cons ≤ 2 ^ 20)) bs
  args_stand k [] h = tt
  args_stand k (d ∷ bs) h = let few = h.1 in ((all_map (λ c a. arg_stands c.arg a) d.cons h.2, omega (arith, few)), args_stand (suc k) bs h.3)

  rec_stand : (rs xs : List ℕ) → Below (length p.names) xs → AllByRecursion (λ b. b.name.0 < length p.names) (rec_bindings_at rs (rec_of xs))
  rec_stand [] [] h = tt
  rec_stand (r ∷ rs) [] h = tt
  rec_stand [] (x ∷ xs) h = (h x (inl refl), rec_stand [] xs (λ y a. h y (inr a)))
  rec_stand (r ∷ rs) (x ∷ xs) h = (h x (inl refl), rec_stand rs xs (λ y a. h y (inr a)))

  one_stands : {m n : Made} (x : ℕ) → Names m (x ∷ []) n → length n.names ≤ length p.names → x < length p.names
  one_stands {m} {n} x e le = let b = names_below e x (inl refl) in omega (arith, b, le)

  le_through : (k n : ℕ) → k ≤ n → n ≤ length p.names → k ≤ length p.names
  le_through k n a b = omega (arith, a, b)

  pub stands_of : {m n : Made} (g : Context) (r : Part) (t : Forest) → Is (sizes_in p) g m n r t → Good g → length n.names ≤ length p.names → Inner r t
  stands_of g r t (f.before q h) o le = stands_of g r t h o le
  stands_of g r t (f.after h q) o le = stands_of g r t h o (let e = q.names in omega (arith, e, le))
  stands_of g r t f.no_expression o le = λ i at. tt
  stands_of g r t f.no_function o le = λ i at. tt
  stands_of g r t f.no_pattern o le = λ i at. tt
  stands_of g r t f.no_rule o le = λ i at. tt
  stands_of g r t f.no_binding o le = λ i at. tt
  stands_of g r t f.no_declaration o le = λ i at. tt
  stands_of g r t (f.more_expressions {k = k} {n = n} {a = a} {parts = parts} {rest = rest} {j = j} h i) o le = λ w at. let x = stands_of g (f.expression a) parts h o (le_through (length k.names) (length n.names) (is_grows (f.expressions j) rest i) le) (suc w) at.1 in (x.0, x.1, stands_of g (f.expressions j) rest i o le (suc (w + size parts)) at.2)
  stands_of g r t (f.more_functions {k = k} {n = n} {a = a} {parts = parts} {rest = rest} {j = j} h i) o le = λ w at. let x = stands_of g (f.function a) parts h o (le_through (length k.names) (length n.names) (is_grows (f.functions j) rest i) le) (suc w) at.1 in (x.0, x.1, stands_of g (f.functions j) rest i o le (suc (w + size parts)) at.2)
  stands_of g r t (f.more_patterns {k = k} {n = n} {a = a} {parts = parts} {rest = rest} {j = j} {xs = xs} {ys = ys} h i) o le = λ w at. let x = stands_of g (f.pattern a xs) parts h o (le_through (length k.names) (length n.names) (is_grows (f.patterns j ys) rest i) le) (suc w) at.1 in (x.0, x.1, stands_of g (f.patterns j ys) rest i o le (suc (w + size parts)) at.2)
  stands_of g r t (f.more_rules {k = k} {l = l} {n = n} {a = a} {b = b} {parts = parts} {inner = inner} {rest = rest} {xs = xs} h i u) o le = λ w at.
      let w2 = suc (w + size parts) in
      let l1 = le_through (length l.names) (length n.names) (is_grows f.rules rest u) le in
      let l2 = le_through (length k.names) (length l.names) (is_grows (f.expression b) inner i) l1 in
      let x = stands_of g (f.pattern a xs) parts h o l2 (suc w) at.1 in
      let y = stands_of (with_vars xs g) (f.expression b) inner i (good_vars g xs o (below_more (length k.names) (length p.names) xs l2 (below_of g (f.pattern a xs) parts h))) l1 (suc w2) at.2.1 in
      (x.0, x.1, (y.0, y.1, stands_of g f.rules rest u o le (suc (w2 + size inner)) at.2.2))
  stands_of g r t (f.more_bindings {k = k} {l = l} {n = n} {a = a} {b = b} {parts = parts} {inner = inner} {rest = rest} {j = j} {xs = xs} {ys = ys} h i u) o le = λ w at.
      let w2 = suc (w + size parts) in
      let l1 = le_through (length l.names) (length n.names) (is_grows (f.bindings j ys) rest u) le in
      let l2 = le_through (length k.names) (length l.names) (is_grows (f.expression b) inner i) l1 in
      let x = stands_of g (f.pattern a xs) parts h o l2 (suc w) at.1 in
      let y = stands_of g (f.expression b) inner i o l1 (suc w2) at.2.1 in
      (x.0, x.1, (y.0, y.1, stands_of g (f.bindings j ys) rest u o le (suc (w2 + size inner)) at.2.2))
  stands_of g r t (f.more_declarations {h = d} {i = e} {k = k} {n = n} {a = a} {parts = parts} {rest = rest} h i) o le = λ w at.
      let l = le_through (length k.names) (length n.names) (is_grows (f.declarations e) rest i) le in
      let x = stands_of g (f.declaration a d) parts h o l (suc w) at.1 in
      (x.0, x.1, stands_of d (f.declarations e) rest i (good_after g d a parts h o l w at.0) le (suc (w + size parts)) at.2)
  stands_of g r t (f.is_int i w) o le = λ j at. (w, tt)
  stands_of g r t (f.is_char x w) o le = λ j at. (w, tt)
  stands_of g r t (f.is_text x w) o le = λ j at. (w, tt)
  stands_of g r t (f.is_variable x w) o le = λ j at. (o.vars x w.0, tt)
  stands_of g r t (f.is_constructor x w e) o le = λ j at. (con_stands g o x w, tt)
  stands_of g r t (f.is_builtin b e) o le = λ j at. (tt, tt)
  stands_of g r t (f.is_record labs w h) o le = λ j at. (row_is (roots j t) labs w, stands_of g (f.expressions (length labs)) t h o le j at)
  stands_of g r t (f.is_app h) o le = λ j at. (tt, stands_of g f.call t h o le j at)
  stands_of g r t (f.call_expression h) o le = λ j at. stands_of g (f.expressions 2) t h o le j at
  stands_of g r t (f.call_constructor {f = rest} x w h) o le = λ j at. (con_stands g o x w, tt, stands_of g (f.expressions 1) rest h o le (suc (j + 0)) at.2)
  stands_of g r t (f.call_builtin {f = rest} b h) o le = λ j at. (tt, tt, stands_of g (f.expressions 1) rest h o le (suc (j + 0)) at.2)
  stands_of g r t (f.is_case {k = k} {n = n} {a = a} {parts = parts} {rest = rest} h i) o le = λ j at.
      let x = stands_of g (f.expression a) parts h o (le_through (length k.names) (length n.names) (is_grows f.rules rest i) le) (suc j) at.1 in
      (tt, (x.0, x.1, stands_of g f.rules rest i o le (suc (j + size parts)) at.2))
  stands_of g r t (f.is_fn h) o le = λ j at. (tt, stands_of g f.rules t h o le j at)
  stands_of g r t (f.is_raise h) o le = λ j at. (tt, stands_of g (f.expressions 1) t h o le j at)
  stands_of g r t (f.is_handle {k = k} {n = n} {a = a} {parts = parts} {rest = rest} h i) o le = λ j at.
      let x = stands_of g (f.expression a) parts h o (le_through (length k.names) (length n.names) (is_grows f.rules rest i) le) (suc j) at.1 in
      (tt, (x.0, x.1, stands_of g f.rules rest i o le (suc (j + size parts)) at.2))
  stands_of g r t (f.is_typed y w h) o le = λ j at. (w, stands_of g (f.expressions 1) t h o le j at)
  stands_of g r t (f.is_let {h = d} {k = k} {n = n} {a = a} {b = b} {parts = parts} {inner = inner} h i) o le = λ j at.
      let w2 = suc (j + size parts) in
      let l = le_through (length k.names) (length n.names) (is_grows (f.expression b) inner i) le in
      let x = stands_of g (f.declaration a d) parts h o l (suc j) at.1 in
      let y = stands_of d (f.expression b) inner i (good_after g d a parts h o l j at.0) le (suc w2) at.2.1 in
      (tt, (x.0, x.1, (y.0, y.1, tt)))
  stands_of g r t (f.fn_function h) o le = λ j at. (tt, stands_of g f.rules t h o le j at)
  stands_of g r t (f.typed_function y w h) o le = λ j at. (w, stands_of g (f.functions 1) t h o le j at)
  stands_of g r t f.is_wild o le = λ j at. (tt, tt)
  stands_of g r t (f.int_pattern i w) o le = λ j at. (w, tt)
  stands_of g r t (f.char_pattern x w) o le = λ j at. (w, tt)
  stands_of g r t (f.text_pattern x w) o le = λ j at. (w, tt)
  stands_of g r t (f.variable_pattern x e) o le = λ j at. (one_stands x e le, tt)
  stands_of g r t (f.con_pattern x w) o le = λ j at. (con_stands g o x w, tt)
  stands_of g r t (f.apply_pattern {xs = xs} x w h) o le = λ j at. (con_stands g o x w, stands_of g (f.patterns 1 xs) t h o le j at)
  stands_of g r t (f.record_pattern {xs = xs} labs w h) o le = λ j at. (row_is (roots j t) labs w, stands_of g (f.patterns (length labs) xs) t h o le j at)
  stands_of g r t (f.typed_pattern {xs = xs} y w h) o le = λ j at. (w, stands_of g (f.patterns 1 xs) t h o le j at)
  stands_of g r t (f.as_pattern {k = k} {n = n} {xs = xs} x e h) o le = λ j at. (one_stands x e (le_through (length k.names) (length n.names) (is_grows (f.patterns 1 xs) t h) le), stands_of g (f.patterns 1 xs) t h o le j at)
  stands_of g r t (f.con_as_pattern {k = k} {n = n} {xs = xs} x e h) o le = λ j at. (one_stands x e (le_through (length k.names) (length n.names) (is_grows (f.patterns 1 xs) t h) le), stands_of g (f.patterns 1 xs) t h o le j at)
  stands_of g r t (f.is_val {j = i} {xs = xs} vs w h) o le = λ j at. (w, stands_of g (f.bindings i xs) t h o le j at)
  stands_of g r t (f.is_val_rec {k = k} {n = n} vs xs w e h) o le = λ j at.
      let b = below_more (length k.names) (length p.names) xs (le_through (length k.names) (length n.names) (is_grows (f.functions (length xs)) t h) le) (names_below e) in
      ((w, rec_stand (roots j t) xs b), stands_of (with_vars xs g) (f.functions (length xs)) t h (good_vars g xs o b) le j at)
  stands_of g r t (f.is_type bs w) o le = λ j at. (w, tt)
  stands_of g r t (f.is_datatype {m = k} bs w e i) o le = λ j at. (args_stand k.type_names bs w, tt)
  stands_of g r t (f.is_exception x arg e w) o le = λ j at. ((one_stands x e le, arg_stands arg w), tt)
  stands_of g r t (f.same_exception x y e w) o le = λ j at. ((one_stands x e le, con_stands g o y w), tt)
  stands_of g r t (f.not_exception x e) o le = λ j at. (one_stands x e le, tt)
  stands_of g r t f.program_end o le = λ j at. (tt, tt)
  stands_of g r t (f.program_let {h = d} {k = k} {n = n} {a = a} {b = b} {parts = parts} {inner = inner} h i) o le = λ j at.
      let w2 = suc (j + size parts) in
      let l = le_through (length k.names) (length n.names) (is_grows (f.program b) inner i) le in
      let x = stands_of g (f.declaration a d) parts h o l (suc j) at.1 in
      let y = stands_of d (f.program b) inner i (good_after g d a parts h o l j at.0) le (suc w2) at.2.1 in
      (tt, (x.0, x.1, (y.0, y.1, tt)))
