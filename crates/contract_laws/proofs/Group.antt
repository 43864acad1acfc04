-- Functions that are bound together, of which the answer binds some.
use Rattle.std.proofs.Common.{◌≡◌, ◌≢◌, ℕ, zero, suc, ◌<◌, ◌≤◌, ◌+◌, ◌-◌, List, [], ◌∷◌, ◌++◌, map, length, Option, Some, None, slice_get, Bool, true, false, cond, ◌⊎◌, inl, inr, refl, sym, ap, ◌∙◌, subst, subst₂, arith, ⊎_elim, length-append, nat_eq, nat_lt}
use Rattle.std.proofs.lemmas.Bool.Decides.{nat_tests}
use Rattle.std.proofs.lemmas.Option.{slice_get_within}
use Rattle.smlc_base.specs.declared.point.Point.{Point}
use Rattle.simulation.specs.Blocks.{IsAmong}
use Rattle.smlc_base.specs.Points.{is_label}
use Rattle.simulation.proofs.Lists.{some_eq, get_append, get_split, get_past}
use Rattle.sml_def.specs.State.{Value, At}
use Rattle.cps_ir.specs.declared.atom.Atom.{Atom}
use Rattle.cps_ir.specs.declared.atom.Atom.TheVariants as atom
use Rattle.cps_ir.specs.Code.{Code, Call, Functions, NoFunction, Function, names_of}
use Rattle.cps_ir.specs.State.{Vars, bind, value, Piece, Plain, Fun}
use Rattle.cps_ir.specs.Step.{bind_functions, pieces_of}
use Rattle.contract_laws.specs.Contract.{Made, Body, Scope, Fresh, AllFresh, kept, lost, inner, Contracts, Aliases, no_alias, next_alias, alias, Bodies, no_body, next_body, put_body, SomeContract, some_none, some_both, some_skip}
use Rattle.contract_laws.proofs.Relation.{bind_same, bind_other, World, world, Val, address, eta, Holds, Names, is_cell, IsMade, IsBody, Env, IsPiece, closure, Stands, Heap, More, Later, at_fact, env_kept, env_lost, more_refl, later_bound, piece_later, holds_new}

-- ---- Where the functions of the answer stand among those of the argument

abbrev pub count : Functions → ℕ
count NoFunction = 0
count (Function f p xs b fs) = suc (count fs)

abbrev pub place : {T : List (List ℕ)} {L : List Point} {Z S U : Scope} {fs gs : Functions} → SomeContract T L Z S fs gs U → ℕ → ℕ
place (some_none Z S) j = j
place (some_both w Z S U f p xs b d fs gs fr frs k e) zero = zero
place (some_both w Z S U f p xs b d fs gs fr frs k e) (suc j) = suc (place e j)
place (some_skip Z S U f p xs b fs gs e) j = suc (place e j)

pub place_apart : (T : List (List ℕ)) (L : List Point) (Z S U : Scope) (fs gs : Functions) (e : SomeContract T L Z S fs gs U) (i j : ℕ) → place e i ≡ place e j → i ≡ j
place_apart T L Z S U fs gs (some_none Z' S') i j g = g
place_apart T L Z S U fs gs (some_both w Z' S' U' f p xs b d hs ks fr frs k e) zero zero g = refl
place_apart T L Z S U fs gs (some_both w Z' S' U' f p xs b d hs ks fr frs k e) zero (suc j) g = absurd (let h : 0 ≡ suc (place e j) = g in omega arith)
place_apart T L Z S U fs gs (some_both w Z' S' U' f p xs b d hs ks fr frs k e) (suc i) zero g = absurd (let h : suc (place e i) ≡ 0 = g in omega arith)
place_apart T L Z S U fs gs (some_both w Z' S' U' f p xs b d hs ks fr frs k e) (suc i) (suc j) g = ap suc (place_apart T L Z (kept S f None) U hs ks e i j (let h : suc (place e i) ≡ suc (place e j) = g in omega arith))
place_apart T L Z S U fs gs (some_skip Z' S' U' f p xs b hs ks e) i j g = place_apart T L Z (lost S f None None) U hs gs e i j (let h : suc (place e i) ≡ suc (place e j) = g in omega arith)

-- ---- The stores go on, where not every new block of the argument has one in the answer

abbrev pub placed : (ℕ → ℕ) → (ℕ → ℕ) → List Piece → List Piece → ℕ → ℕ
placed f at st ps b = cond (nat_lt b (length ps)) (f b) (length st + at (b - length ps))

placed_old : (f at : ℕ → ℕ) (st ps : List Piece) (b : ℕ) → b < length ps → placed f at st ps b ≡ f b
placed_old f at st ps b h = by (nat_lt b (length ps)) refl
  where
    by : (c : Bool) → nat_lt b (length ps) ≡ c → cond c (f b) (length st + at (b - length ps)) ≡ f b
    by true e = refl
    by false e = absurd (grind (arith, nat_tests))

pub placed_new : (f at : ℕ → ℕ) (st ps : List Piece) (c : ℕ) → placed f at st ps (length ps + c) ≡ length st + at c
placed_new f at st ps c = by (nat_lt (length ps + c) (length ps)) refl
  where
    by : (d : Bool) → nat_lt (length ps + c) (length ps) ≡ d → cond d (f (length ps + c)) (length st + at ((length ps + c) - length ps)) ≡ length st + at c
    by true e = absurd (grind (arith, nat_tests))
    by false e = ap (λ n. length st + at n) (let g : (length ps + c) - length ps ≡ c = omega arith in g)

pub more_placed : (f at : ℕ → ℕ) (st ps zs ys : List Piece) → More f (placed f at st ps) st (st ++ zs) ps (ps ++ ys)
more_placed f at st ps zs ys = record {
  image = λ b l. placed_old f at st ps b l;
  left = λ a z e n. get_append st zs a z e;
  right = λ a z e n. get_append ps ys a z e;
  longer = omega (arith, length-append ps ys);
}

pub heap_placed : (T : List (List ℕ)) (L : List Point) (f at : ℕ → ℕ) (st ps zs ys : List Piece) → ((i j : ℕ) → at i ≡ at j → i ≡ j) → ((c : ℕ) (x : Piece) → slice_get ys c ≡ Some x → (i : Piece) × (slice_get zs (at c) ≡ Some i) × IsPiece T L (placed f at st ps) (st ++ zs) (ps ++ ys) i x) → Heap T L f st ps → Heap T L (placed f at st ps) (st ++ zs) (ps ++ ys)
heap_placed T L f at st ps zs ys inj new h = record { piece = piece; apart = apart }
  where
    m : More f (placed f at st ps) st (st ++ zs) ps (ps ++ ys)
    m = more_placed f at st ps zs ys

    old : (b : ℕ) (z : Piece) → slice_get ps b ≡ Some z → placed f at st ps b ≡ f b
    old b z s = m.image b (slice_get_within ps b z s)

    past : (b c : ℕ) → b ≡ length ps + c → placed f at st ps b ≡ length st + at c
    past b c e = ap (placed f at st ps) e ∙ placed_new f at st ps c

    below : (b : ℕ) (z : Piece) → slice_get ps b ≡ Some z → f b < length st
    below b z s = let r = h.piece b z s in slice_get_within st (f b) r.item r.at

    piece : (b : ℕ) (z : Piece) → slice_get (ps ++ ys) b ≡ Some z → Stands T L (placed f at st ps) (st ++ zs) (ps ++ ys) b z
    piece b z s =
        ⊎_elim
        (λ (o : slice_get ps b ≡ Some z). let r = h.piece b z o in record {
          item = r.item;
          at = ap (slice_get (st ++ zs)) (old b z o) ∙ get_append st zs (f b) r.item r.at;
          is = piece_later T L f (placed f at st ps) st (st ++ zs) ps (ps ++ ys) m r.item z r.is;
        })
        (λ (o : (c : ℕ) × (b ≡ length ps + c) × (slice_get ys c ≡ Some z)). let r = new o.0 z o.2 in record {
          item = r.0;
          at = ap (slice_get (st ++ zs)) (past b o.0 o.1) ∙ get_past st zs (at o.0) ∙ r.1;
          is = r.2;
        })
        (get_split ps ys b z s)

    apart : (a b : ℕ) (u v : Piece) → slice_get (ps ++ ys) a ≡ Some u → slice_get (ps ++ ys) b ≡ Some v → placed f at st ps a ≡ placed f at st ps b → a ≡ b
    apart a b u v s t e =
        ⊎_elim
        (λ (o : slice_get ps a ≡ Some u). ⊎_elim
        (λ (q : slice_get ps b ≡ Some v). h.apart a b u v o q (sym (old a u o) ∙ e ∙ old b v q))
        (λ (q : (c : ℕ) × (b ≡ length ps + c) × (slice_get ys c ≡ Some v)). absurd (let i = below a u o in let j = old a u o in let k = past b q.0 q.1 in omega arith))
        (get_split ps ys b v t))
        (λ (o : (c : ℕ) × (a ≡ length ps + c) × (slice_get ys c ≡ Some u)). ⊎_elim
        (λ (q : slice_get ps b ≡ Some v). absurd (let i = below b v q in let j = old b v q in let k = past a o.0 o.1 in omega arith))
        (λ (q : (c : ℕ) × (b ≡ length ps + c) × (slice_get ys c ≡ Some v)).
        let i = past a o.0 o.1 in let j = past b q.0 q.1 in let k = o.1 in let l = q.1 in
        let n = inj o.0 q.0 (omega arith) in omega arith)
        (get_split ps ys b v t))
        (get_split ps ys a u s)

-- ---- The names

plus_zero : (n : ℕ) → n + 0 ≡ n
plus_zero n = omega arith

plus_suc : (a c : ℕ) → suc a + c ≡ a + suc c
plus_suc a c = omega arith

pub env_some : (T : List (List ℕ)) (L : List Point) (g : ℕ → ℕ) (st ps : List Piece) (Z S U : Scope) (fs gs : Functions) (a b : ℕ) (env env' : Vars) (k : SomeContract T L Z S fs gs U) → Env L (world g st ps env' S.ns) S env → ((j : ℕ) → j < count gs → Val L g st (length ps) (At (a + place k j)) (At (b + j))) → Env L (world g st ps (bind_functions gs b env') U.ns) U (bind_functions fs a env)
env_some T L g st ps Z S U fs gs a b env env' (some_none Z' S') en v = en
env_some T L g st ps Z S U fs gs a b env env' (some_both w Z' S' U' f p xs k d hs ks fr frs c e) en v =
    let W = world g st ps env' S.ns in
    let X = world g st ps (bind env' f (At b)) (f ∷ S.ns) in
    let l : Later W X = later_bound g g st st ps ps (more_refl g st ps) env' S.ns f (At b) fr in
    let va : Val L g st (length ps) (At a) (At b) = subst₂ (λ m n. Val L g st (length ps) (At m) (At n)) (plus_zero a) (plus_zero b) (v 0 (let q : 0 < suc (count ks) = omega arith in q)) in
    let hx : Holds L X (At a) (atom.Var f) = holds_new L g st ps env' S.ns f (At a) (At b) va in
    env_some T L g st ps Z (kept S f None) U hs ks (suc a) (suc b) (bind env f (At a)) (bind env' f (At b)) e
    (env_kept L W X l S env f (At a) None en hx (λ m i. absurd (cc)))
    (λ j i. subst₂ (λ m n. Val L g st (length ps) (At m) (At n)) (sym (plus_suc a (place e j))) (sym (plus_suc b j)) (v (suc j) (let q : suc j < suc (count ks) = omega arith in q)))
env_some T L g st ps Z S U fs gs a b env env' (some_skip Z' S' U' f p xs k hs ks e) en v =
    env_some T L g st ps Z (lost S f None None) U hs gs (suc a) b (bind env f (At a)) env' e
    (env_lost L (world g st ps env' S.ns) S env f (At a) None None en (λ o i. absurd (cc)) (λ o i. absurd (cc)))
    (λ j i. subst (λ m. Val L g st (length ps) (At m) (At (b + j))) (sym (plus_suc a (place e j))) (v j i))

pub some_new : (T : List (List ℕ)) (L : List Point) (g : ℕ → ℕ) (st ps : List Piece) (Z S U : Scope) (fs gs : Functions) (env env' : Vars) → Names L (world g st ps env' Z.ns) Z.σ env → (k : SomeContract T L Z S fs gs U) → (c : ℕ) (x : Piece) → slice_get (pieces_of gs env') c ≡ Some x → (i : Piece) × (slice_get (pieces_of fs env) (place k c) ≡ Some i) × IsPiece T L g st ps i x
some_new T L g st ps Z S U fs gs env env' n (some_none Z' S') c x e = absurd (cc)
some_new T L g st ps Z S U fs gs env env' n (some_both w Z' S' U' f p xs b d hs ks fr frs k r) zero x e =
    (Fun p xs b env, refl, some_eq (λ t. IsPiece T L g st ps (Fun p xs b env) t) (Fun p xs d env') x e (closure w Z p xs b d env env' frs n k))
some_new T L g st ps Z S U fs gs env env' n (some_both w Z' S' U' f p xs b d hs ks fr frs k r) (suc c) x e = some_new T L g st ps Z (kept S f None) U hs ks env env' n r c x e
some_new T L g st ps Z S U fs gs env env' n (some_skip Z' S' U' f p xs b hs ks r) c x e = some_new T L g st ps Z (lost S f None None) U hs gs env env' n r c x e

-- x is bound already, and more is known of it
pub env_set : (L : List Point) (X : World) (S : Scope) (env : Vars) (x : ℕ) (o : Option Atom) (i : Option Body) → Env L X S env → ((a : Atom) → o ≡ Some a → Holds L X (env x) a) → ((b : Body) → i ≡ Some b → IsBody L X (env x) b) → Env L X (lost S x o i) env
env_set L X S env x o i k new body = record {
  names = at_fact (λ y a. Holds L X (env y) a) S.σ x o k.names new;
  blocks = k.blocks;
  bodies = at_fact (λ y b. IsBody L X (env y) b) S.ι x i k.bodies body;
}

functions_other : (fs : Functions) (a : ℕ) (env : Vars) (x : ℕ) → (IsAmong x (names_of fs) → ⊥) → bind_functions fs a env x ≡ env x
functions_other NoFunction a env x n = refl
functions_other (Function f p xs b fs) a env x n = functions_other fs (suc a) (bind env f (At a)) x (λ i. n (inr i)) ∙ bind_other env f (At a) x (λ e. n (inl e))

not_later : (xs ns : List ℕ) (x : ℕ) → AllFresh xs ns → IsAmong x ns → IsAmong x xs → ⊥
not_later [] ns x h i j = j
not_later (z ∷ zs) ns x h i (inl e) = h.0 (subst (λ t. IsAmong t ns) e i)
not_later (z ∷ zs) ns x h i (inr j) = not_later zs (z ∷ ns) x h.1 (inr i) j

-- the first name has the first address
first_at : (f : ℕ) (fs : Functions) (a : ℕ) (env all : Vars) (ns : List ℕ) → AllFresh (names_of fs) (f ∷ ns) → bind_functions fs (suc a) (bind env f (At a)) ≡ all → all f ≡ At a
first_at f fs a env all ns fr e = sym (ap (λ t. t f) e) ∙ functions_other fs (suc a) (bind env f (At a)) f (not_later (names_of fs) (f ∷ ns) f fr (inl refl)) ∙ bind_same env f (At a)

abbrev pub AreAt : List Piece → ℕ → List Piece → Type 0
AreAt st a zs = (c : ℕ) (x : Piece) → slice_get zs c ≡ Some x → slice_get st (a + c) ≡ Some x

rest_at : (st : List Piece) (a : ℕ) (z : Piece) (zs : List Piece) → AreAt st a (z ∷ zs) → AreAt st (suc a) zs
rest_at st a z zs h c x e = ap (slice_get st) (plus_suc a c) ∙ h (suc c) x e

head_at : (st : List Piece) (a : ℕ) (z : Piece) (zs : List Piece) → AreAt st a (z ∷ zs) → slice_get st a ≡ Some z
head_at st a z zs h = sym (ap (slice_get st) (plus_zero a)) ∙ h 0 z refl

module _ (L : List Point) (X : World) (all : Vars) where
  pub env_aliases : (U Y : Scope) (fs : Functions) (a : ℕ) (env : Vars) (ns : List ℕ) → Aliases L fs U Y → AllFresh (names_of fs) ns → bind_functions fs a env ≡ all → AreAt X.st a (pieces_of fs all) → Env L X U all → Env L X Y all
  env_aliases U Y fs a env ns (no_alias S) fr e at en = en
  env_aliases U Y fs a env ns (next_alias S Z f p xs b hs r) fr e at en =
      env_aliases U Y hs (suc a) (bind env f (At a)) (f ∷ ns) r fr.1 e (rest_at X.st a (Fun p xs b all) (pieces_of hs all) at) en
  env_aliases U Y fs a env ns (alias S Z f p xs x us hs v hid same out dis k r) fr e at en =
      let hx = en.names x v k in
      let is_at : all f ≡ At a = first_at f hs a env all ns fr.1 e in
      let stands : slice_get X.st a ≡ Some (Fun p xs (Call (atom.Var x) (map atom.Var xs)) all) = subst (λ y. slice_get X.st a ≡ Some (Fun p xs (Call (atom.Var x) y) all)) same (head_at X.st a (Fun p xs (Call (atom.Var x) us) all) (pieces_of hs all) at) in
      let hf : Holds L X (all f) v = record { known = hx.known; val = subst (λ t. Val L X.f X.st (length X.ps) t (value X.env v)) (sym is_at) (eta a p xs x all (value X.env v) stands hid out dis hx.val) } in
      env_aliases (lost U f (Some v) None) Y hs (suc a) (bind env f (At a)) (f ∷ ns) r fr.1 e (rest_at X.st a (Fun p xs (Call (atom.Var x) us) all) (pieces_of hs all) at)
      (env_set L X U all f (Some v) None en (λ o i. some_eq (λ t. Holds L X (all f) t) v o i hf) (λ o i. absurd (cc)))

  pub env_bodies : (σ : ℕ → Option Atom) (Y Z : Scope) (fs : Functions) (a : ℕ) (env : Vars) (ns : List ℕ) → Bodies L σ fs Y Z → AllFresh (names_of fs) ns → bind_functions fs a env ≡ all → AreAt X.st a (pieces_of fs all) → Names L X σ all → Env L X Y all → Env L X Z all
  env_bodies σ Y Z fs a env ns (no_body S) fr e at n en = en
  env_bodies σ Y Z fs a env ns (next_body S Z' f p xs b hs r) fr e at n en =
      env_bodies σ Y Z hs (suc a) (bind env f (At a)) (f ∷ ns) r fr.1 e (rest_at X.st a (Fun p xs b all) (pieces_of hs all) at) n en
  env_bodies σ Y Z fs a env ns (put_body S Z' f p xs b hs hid r) fr e at n en =
      let body : Body = record { params = xs; code = b; σ = σ } in
      let bx : IsBody L X (all f) body = record { at = a; point = p; env = all; is = first_at f hs a env all ns fr.1 e; stands = head_at X.st a (Fun p xs b all) (pieces_of hs all) at; hidden = hid; names = n } in
      env_bodies σ (lost Y f (Y.σ f) (Some body)) Z hs (suc a) (bind env f (At a)) (f ∷ ns) r fr.1 e (rest_at X.st a (Fun p xs b all) (pieces_of hs all) at) n
      (env_set L X Y all f (Y.σ f) (Some body) en (λ o i. en.names f o i) (λ o i. some_eq (λ t. IsBody L X (all f) t) body o i bx))

pub aliases_ns : (L : List Point) (U Y : Scope) (fs : Functions) → Aliases L fs U Y → Y.ns ≡ U.ns
aliases_ns L U Y fs (no_alias S) = refl
aliases_ns L U Y fs (next_alias S Z f p xs b hs r) = aliases_ns L U Y hs r
aliases_ns L U Y fs (alias S Z f p xs x us hs a hid same out dis k r) = aliases_ns L (lost U f (Some a) None) Y hs r

pub bodies_ns : (L : List Point) (σ : ℕ → Option Atom) (Y Z : Scope) (fs : Functions) → Bodies L σ fs Y Z → Z.ns ≡ Y.ns
bodies_ns L σ Y Z fs (no_body S) = refl
bodies_ns L σ Y Z fs (next_body S Z' f p xs b hs r) = bodies_ns L σ Y Z hs r
bodies_ns L σ Y Z fs (put_body S Z' f p xs b hs hid r) = bodies_ns L σ (lost Y f (Y.σ f) (Some (record { params = xs; code = b; σ = σ }))) Z hs r
