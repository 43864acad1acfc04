-- The body that is taken in a match is one that does what the other does.
use Rattle.std.proofs.Common.{◌≡◌, ◌≢◌, ℕ, ℤ, zero, suc, List, [], ◌∷◌, map, length, Option, Some, None, slice_get, Bool, true, false, cond, refl, sym, ap, ◌∙◌, subst, nat_eq}
use Rattle.smlc_base.specs.declared.point.Point.{Point}
use Rattle.simulation.proofs.Lists.{some_eq}
use Rattle.prim_meaning.specs.Meaning as mean
use Rattle.prim_meaning.specs.Meaning.{Seen}
use Rattle.prim_meaning.specs.Tests as test
use Rattle.prim_meaning.specs.Tests.{along, fields_in, bytes_wanted}
use Rattle.prim_meaning.specs.Strict.{scalar_met, number_met, bytes_met, name_met, met, met_at, met_then}
use Rattle.prim_meaning.specs.Alike.{SameWanted, same_num, same_tag, same_bytes, same_exn, same_never}
use Rattle.sml_def.specs.Builtin.{see, see_text, see_block, which}
use Rattle.sml_def.specs.Maybe.{◌>>=◌}
use Rattle.sml_def.specs.State.{Value, Nothing, At, Address, Block, Applied}
use Rattle.cps_ir.specs.declared.atom.Constant.{Constant}
use Rattle.cps_ir.specs.declared.atom.Constant.TheVariants as constant
use Rattle.cps_ir.specs.declared.atom.Atom.{Atom}
use Rattle.cps_ir.specs.declared.atom.Atom.TheVariants as atom
use Rattle.cps_ir.specs.declared.atom.Shape.{Shape}
use Rattle.cps_ir.specs.declared.atom.Shape.TheVariants as form
use Rattle.cps_ir.specs.declared.atom.Wanted.{Wanted}
use Rattle.cps_ir.specs.declared.atom.Wanted.TheVariants as want
use Rattle.cps_ir.specs.declared.atom.Test.{Test}
use Rattle.cps_ir.specs.Code.{Code, Rules, Otherwise, Rule, Tree}
use Rattle.cps_ir.specs.State.{Vars, value, values, value_of, Piece, Plain, Fun, datum_of, data_of}
use Rattle.cps_ir.specs.Tests.{is_name, wanted, all_stand, taken}
use Rattle.cps_ir.specs.Step.{block_made}
use Rattle.contract_laws.specs.Contract.{Made, Scope, AtomAt, TestAt, WantedAt, wants_num, wants_tag, wants_text, wants_exn, Contracts, Leads, here, there, is_constant, says, says_made, Says, by_constant, by_block, IsKnown, known, Left, none, left, holds, Fails, first, later, RulesContract, otherwise, rule, last, drop}
use Rattle.contract_laws.proofs.Relation.{World, world, Val, Heap, Holds, Env}
use Rattle.contract_laws.proofs.Seeing.{get_map, bind_some, IsCells, views, names}
use Rattle.contract_laws.proofs.Sees.{field_sees, along_sees, met_sees}
use Rattle.contract_laws.proofs.Steps.{at_holds, known_part}
use Rattle.contract_laws.proofs.States.{TestsKeep}

-- ---- A test and those behind it

met_some : (o rest : Option Bool) (x : Bool) → met_then o rest ≡ Some x → (b : Bool) × (o ≡ Some b) × (cond b rest (Some false) ≡ Some x)
met_some None rest x e = absurd (cc)
met_some (Some true) rest x e = (true, refl, e)
met_some (Some false) rest x e = (false, refl, e)

met_back : (o rest : Option Bool) (b : Bool) → o ≡ Some b → met_then o rest ≡ cond b rest (Some false)
met_back o rest true e = ap (λ p. met_then p rest) e
met_back o rest false e = ap (λ p. met_then p rest) e

some_is : {X : Type 0} {x y : X} → Some x ≡ Some y → x ≡ y
some_is {X} {x} {y} e = some_eq (λ z. x ≡ z) x y e refl

-- ---- A constant is the same in each store

module _ (T : List (List ℕ)) (store : List Block) (env : Vars) where
  constant_seen : (k : Constant) → see T store (value_of k) ≡ see T [] (value_of k)
  constant_seen (constant.Int z) = refl
  constant_seen (constant.Char c) = refl
  constant_seen constant.Nothing = refl
  constant_seen (constant.Tag n) = refl
  constant_seen (constant.Text t) = refl
  constant_seen (constant.Library e) = refl
  constant_seen constant.StdIn = refl

  abbrev Mets : test.Wanted Value → test.Wanted Value → Constant → Type 0
  Mets w x k = met (see T store) which (is_name store) w (value_of k) ≡ met (see T []) which (is_name []) x (value_of k)

  bytes_constant : (o : Option (List ℕ)) (k : Constant) → Mets (bytes_wanted o) (bytes_wanted o) k
  bytes_constant None k = refl
  bytes_constant (Some bytes) k = ap (bytes_met bytes) (constant_seen k)

  text_exn : (o : Option (List ℕ)) (x : Value) (t : ℕ) (applied : Bool) → name_met (see T store) which (is_name store) x applied (value_of (constant.Text t)) (see_text o) ≡ name_met (see T []) which (is_name []) x applied (value_of (constant.Text t)) (see_text o)
  text_exn None x t applied = refl
  text_exn (Some bytes) x t applied = refl

  exn_constant : (n k : Constant) (applied : Bool) → Mets (test.Exn (value_of n) applied) (test.Exn (value_of n) applied) k
  exn_constant (constant.Int z) k applied = refl
  exn_constant (constant.Char c) k applied = refl
  exn_constant constant.Nothing k applied = refl
  exn_constant (constant.Tag n) k applied = refl
  exn_constant (constant.Text t) k applied = refl
  exn_constant constant.StdIn k applied = refl
  exn_constant (constant.Library e) (constant.Int z) applied = refl
  exn_constant (constant.Library e) (constant.Char c) applied = refl
  exn_constant (constant.Library e) constant.Nothing applied = refl
  exn_constant (constant.Library e) (constant.Tag n) applied = refl
  exn_constant (constant.Library e) (constant.Text t) applied = text_exn (slice_get T t) (value_of (constant.Library e)) t applied
  exn_constant (constant.Library e) (constant.Library d) applied = refl
  exn_constant (constant.Library e) constant.StdIn applied = refl

  met_constant : (w : Wanted) (k : Constant) → is_constant w ≡ true → Mets (wanted T env w) (wanted T (λ x. Nothing) w) k
  met_constant (want.Num z) k e = ap (scalar_met z) (constant_seen k)
  met_constant (want.Tag t) k e = ap (number_met t.number) (constant_seen k)
  met_constant (want.Text t) k e = bytes_constant (slice_get T t) k
  met_constant (want.Exn (atom.Var x) applied) k e = absurd (cc)
  met_constant (want.Exn (atom.Constant n) applied) k e = exn_constant n k applied

module _ (T : List (List ℕ)) (L : List Point) (f : ℕ → ℕ) (st ps : List Piece) (h : Heap T L f st ps) where
  abbrev Like : Value → Value → Type 0
  Like u v = Val L f st (length ps) u v

  abbrev A : Value → Seen Value
  A = see T (data_of st)

  abbrev B : Value → Seen Value
  B = see T (data_of ps)

  -- a test of a value, as both machines have it
  abbrev on_left : Vars → Value → Test → Option Bool
  on_left env u t = met_at A which (is_name (data_of st)) (wanted T env t.want) (along A t.path (Some u))

  abbrev on_right : Vars → Value → Test → Option Bool
  on_right env v t = met_at B which (is_name (data_of ps)) (wanted T env t.want) (along B t.path (Some v))

  -- a test has an answer where there is a value
  at_some : (look : Value → Seen Value) (name : Value → Bool) (w : test.Wanted Value) (o : Option Value) (b : Bool) → met_at look which name w o ≡ Some b → (x : Value) × (o ≡ Some x) × (met look which name w x ≡ Some b)
  at_some look name w None b e = absurd (cc)
  at_some look name w (Some x) b e = (x, refl, e)

  module _ (S : Scope) (env env' : Vars) (en : Env L (world f st ps env' S.ns) S env) where
    W : World
    W = world f st ps env' S.ns

    same_text_wanted : (o : Option (List ℕ)) → SameWanted Like (bytes_wanted o) (bytes_wanted o)
    same_text_wanted None = same_never
    same_text_wanted (Some bytes) = same_bytes bytes

    wanted_same : (w x : Wanted) → WantedAt S.σ w x → SameWanted Like (wanted T env w) (wanted T env' x)
    wanted_same w x (wants_num z) = same_num z
    wanted_same w x (wants_tag t) = same_tag t.number
    wanted_same w x (wants_text t) = same_text_wanted (slice_get T t)
    wanted_same w x (wants_exn a b applied e) = same_exn (value env a) (value env' b) applied (at_holds L (world f st ps env' S.ns) S env en a b e).val

    met_kept : (w x : test.Wanted Value) → SameWanted Like w x → (u v : Value) → Like u v → (b : Bool) → met A which (is_name (data_of st)) w u ≡ Some b → met B which (is_name (data_of ps)) x v ≡ Some b
    met_kept w x s u v r b e = met_sees (IsCells f st ps) Like A B (views T L f st ps h) which which (is_name (data_of st)) (is_name (data_of ps)) (names T L f st ps h) w x s u v r b e

    -- a test that stands in both
    test_kept : (t x : Test) → TestAt S.σ t x → (u v : Value) → Like u v → (b : Bool) → on_left env u t ≡ Some b → on_right env' v x ≡ Some b
    test_kept t x e u v r b g =
        let k = at_some A (is_name (data_of st)) (wanted T env t.want) (along A t.path (Some u)) b g in
        let m = along_sees (IsCells f st ps) Like A B (views T L f st ps h) t.path u v r k.0 k.1 in
        ap (λ y. met_at B which (is_name (data_of ps)) (wanted T env' x.want) (along B y (Some v))) (sym e.path)
        ∙ ap (met_at B which (is_name (data_of ps)) (wanted T env' x.want)) m.1
        ∙ met_kept (wanted T env t.want) (wanted T env' x.want) (wanted_same t.want x.want e.wanted) k.0 m.0 m.2 b k.2

    -- ---- Tests that are known

    along_none : (path : List ℕ) → along A path None ≡ None
    along_none [] = refl
    along_none (i ∷ path) = along_none path

    along_some : (path : List ℕ) (o : Option Value) (x : Value) → along A path o ≡ Some x → (u : Value) × (o ≡ Some u) × (along A path (Some u) ≡ Some x)
    along_some path None x e = absurd (let n = along_none path in cc)
    along_some path (Some u) x e = (u, refl, e)

    -- the atom that is known at the end of a way has the value there
    leads_hold : (a : Atom) (path : List ℕ) (c : Atom) → Leads S.τ a path c → (u : Value) → Holds L (world f st ps env' S.ns) u a → (x : Value) → along A path (Some u) ≡ Some x → Holds L (world f st ps env' S.ns) x c
    leads_hold a path c (here d) u r x e = some_eq (λ z. Holds L (world f st ps env' S.ns) z d) u x e r
    leads_hold a path c (there y i t b d rest k g l) u r x e =
        let m = along_some rest (slice_get (fields_in (A u)) i) x e in
        let n = field_sees (IsCells f st ps) Like (A u) (B (env' y)) ((views T L f st ps h).alike u (env' y) r.val) i m.0 m.1 in
        leads_hold b rest d l m.0 (known_part T L (world f st ps env' S.ns) y t i b (en.blocks y t k) g m.0 n.0 n.1 n.2) x m.2

    -- what a block says
    made_says : (shape : Shape) (vs : List Value) (d : Block) (w : Wanted) (b : Bool) → says_made w shape ≡ Some b → block_made shape vs ≡ Some d → (a : Address) → slice_get (data_of ps) a ≡ Some d → met B which (is_name (data_of ps)) (wanted T env' w) (At a) ≡ Some b
    made_says (form.Applied m) [] d w b e g a at = absurd (cc)
    made_says (form.Applied m) (v ∷ []) d (want.Tag t) b e g a at = ap (λ o. number_met t.number (see_block a o)) (at ∙ sym g) ∙ e
    made_says (form.Applied m) (v ∷ []) d _ b e g a at = absurd (cc)
    made_says (form.Applied m) (v ∷ w ∷ vs) d y b e g a at = absurd (cc)
    made_says form.Tuple vs d (want.Tag t) b e g a at = absurd (cc)
    made_says form.Tuple vs d _ b e g a at = absurd (cc)
    made_says form.Cell vs d (want.Tag t) b e g a at = absurd (cc)
    made_says form.Cell vs d _ b e g a at = absurd (cc)
    made_says (form.ExnName x) vs d (want.Tag t) b e g a at = absurd (cc)
    made_says (form.ExnName x) vs d _ b e g a at = absurd (cc)
    made_says form.Packet vs d (want.Tag t) b e g a at = absurd (cc)
    made_says form.Packet vs d _ b e g a at = absurd (cc)

    says_so : (c : Atom) (w : Wanted) (b : Bool) → Says T S.τ c w b → met B which (is_name (data_of ps)) (wanted T env' w) (value env' c) ≡ Some b
    says_so c w b (by_constant k y z i e) = met_constant T (data_of ps) env' y k i ∙ e
    says_so c w b (by_block x t y z k e) =
        let m = en.blocks x t k in
        ap (met B which (is_name (data_of ps)) (wanted T env' y)) m.is ∙ made_says t.shape (values env' t.atoms) m.block y b e m.made m.at (get_map datum_of ps m.at (Plain m.block) m.stands)

    constant_at : (w : Wanted) → is_constant w ≡ true → WantedAt S.σ w w
    constant_at (want.Num z) e = wants_num z
    constant_at (want.Tag t) e = wants_tag t
    constant_at (want.Text t) e = wants_text t
    constant_at (want.Exn (atom.Var x) applied) e = absurd (cc)
    constant_at (want.Exn (atom.Constant k) applied) e = wants_exn (atom.Constant k) (atom.Constant k) applied refl

    made_at : (w : Wanted) (shape : Shape) (b : Bool) → says_made w shape ≡ Some b → WantedAt S.σ w w
    made_at (want.Num z) shape b e = wants_num z
    made_at (want.Tag t) shape b e = wants_tag t
    made_at (want.Text t) shape b e = wants_text t
    made_at (want.Exn a applied) shape b e = absurd (cc)

    fixed : (c : Atom) (w : Wanted) (b : Bool) → Says T S.τ c w b → WantedAt S.σ w w
    fixed c w b (by_constant k y z i e) = constant_at y i
    fixed c w b (by_block x t y z k e) = made_at y t.shape b e

    -- what is known of a test is so
    known_so : (a : Atom) (t : Test) (b : Bool) → IsKnown T S.τ a t b → (u : Value) → Holds L (world f st ps env' S.ns) u a → (x : Bool) → on_left env u t ≡ Some x → x ≡ b
    known_so a t b (known c l s) u r x e =
        let k = at_some A (is_name (data_of st)) (wanted T env t.want) (along A t.path (Some u)) x e in
        let m = leads_hold a t.path c l u r k.0 k.1 in
        some_is (sym (met_kept (wanted T env t.want) (wanted T env' t.want) (wanted_same t.want t.want (fixed c t.want b s)) k.0 (value env' c) m.val x k.2) ∙ says_so c t.want b s)

    left_kept : (a : Atom) (ts us : List Test) → Left T S.σ S.τ a ts us → (u : Value) → Holds L (world f st ps env' S.ns) u a → (x : Bool) → all_stand T env (data_of st) u ts ≡ Some x → all_stand T env' (data_of ps) (value env' a) us ≡ Some x
    left_kept a ts us none u r x e = e
    left_kept a ts us (left t y vs ws k n) u r x e =
        let b = met_some (on_left env u t) (all_stand T env (data_of st) u vs) x e in
        met_back (on_right env' (value env' a) y) (all_stand T env' (data_of ps) (value env' a) ws) b.0 (test_kept t y k u (value env' a) r.val b.0 b.1)
        ∙ by b.0 b.2 (λ g. left_kept a vs ws n u r x g)
      where
        by : (c : Bool) → cond c (all_stand T env (data_of st) u vs) (Some false) ≡ Some x → (all_stand T env (data_of st) u vs ≡ Some x → all_stand T env' (data_of ps) (value env' a) ws ≡ Some x) → cond c (all_stand T env' (data_of ps) (value env' a) ws) (Some false) ≡ Some x
        by true g n = n g
        by false g n = g
    left_kept a ts us (holds t vs ws k n) u r x e =
        let b = met_some (on_left env u t) (all_stand T env (data_of st) u vs) x e in
        let g : b.0 ≡ true = known_so a t true k u r b.0 b.1 in
        left_kept a vs us n u r x (sym (ap (λ c. cond c (all_stand T env (data_of st) u vs) (Some false)) g) ∙ b.2)

    fails_so : (a : Atom) (ts : List Test) → Fails T S.τ a ts → (u : Value) → Holds L (world f st ps env' S.ns) u a → (x : Bool) → all_stand T env (data_of st) u ts ≡ Some x → x ≡ false
    fails_so a ts (first t vs k) u r x e =
        let b = met_some (on_left env u t) (all_stand T env (data_of st) u vs) x e in
        let g : b.0 ≡ false = known_so a t false k u r b.0 b.1 in
        some_is (sym b.2 ∙ ap (λ c. cond c (all_stand T env (data_of st) u vs) (Some false)) g)
    fails_so a ts (later t vs k) u r x e =
        let b = met_some (on_left env u t) (all_stand T env (data_of st) u vs) x e in
        by b.0 b.2 (λ g. fails_so a vs k u r x g)
      where
        by : (c : Bool) → cond c (all_stand T env (data_of st) u vs) (Some false) ≡ Some x → (all_stand T env (data_of st) u vs ≡ Some x → x ≡ false) → x ≡ false
        by true g n = n g
        by false g n = sym (some_is g)

    abbrev Takes : ℕ → Value → Value → Rules → Code → Type 0
    Takes w u v ss c = (d : Code) × (taken T env' (data_of ps) v ss ≡ Some d) × Contracts T L w S c d

    taken_kept : (w : ℕ) (a : Atom) (rs ss : Rules) → RulesContract T L w S a rs ss → (u : Value) → Holds L (world f st ps env' S.ns) u a → (c : Code) → taken T env (data_of st) u rs ≡ Some c → Takes w u (value env' a) ss c
    taken_kept w a rs ss (otherwise w' S' a' c d k) u r x e = (d, refl, some_eq (λ t. Contracts T L w S t d) c x e k)
    taken_kept w a rs ss (rule w' S' a' ts us c d vs ws l k n) u r x e =
        let b = bind_some (all_stand T env (data_of st) u ts) (λ b. cond b (Some c) (taken T env (data_of st) u vs)) x e in
        let g = left_kept a ts us l u r b.0 b.1 in
        let m = by b.0 b.2 (λ i. taken_kept w a vs ws n u r x i) in
        (m.0, ap (λ o. o >>= (λ b. cond b (Some d) (taken T env' (data_of ps) (value env' a) ws))) g ∙ m.1, m.2)
      where
        by : (z : Bool) → cond z (Some c) (taken T env (data_of st) u vs) ≡ Some x → (taken T env (data_of st) u vs ≡ Some x → Takes w u (value env' a) ws x) → (y : Code) × (cond z (Some d) (taken T env' (data_of ps) (value env' a) ws) ≡ Some y) × Contracts T L w S x y
        by true g n = (d, refl, some_eq (λ t. Contracts T L w S t d) c x g k)
        by false g n = n g
    taken_kept w a rs ss (last w' S' a' ts c d vs l k) u r x e =
        let b = bind_some (all_stand T env (data_of st) u ts) (λ b. cond b (Some c) (taken T env (data_of st) u vs)) x e in
        let g : true ≡ b.0 = some_is (left_kept a ts [] l u r b.0 b.1) in
        (d, refl, some_eq (λ t. Contracts T L w S t d) c x (ap (λ z. cond z (Some c) (taken T env (data_of st) u vs)) g ∙ b.2) k)
    taken_kept w a rs ss (drop w' S' a' ts c vs ws k n) u r x e =
        let b = bind_some (all_stand T env (data_of st) u ts) (λ b. cond b (Some c) (taken T env (data_of st) u vs)) x e in
        let g : b.0 ≡ false = fails_so a ts k u r b.0 b.1 in
        taken_kept w a vs ss n u r x (sym (ap (λ z. cond z (Some c) (taken T env (data_of st) u vs)) g) ∙ b.2)

pub tests_keep : (q : Tree) (L : List Point) → TestsKeep q L
tests_keep q L = record {
  taken = λ f st ps h S env env' en w a b rs ss at k c e. taken_kept q.texts L f st ps h S env env' en w b rs ss k (value env a) (at_holds L (world f st ps env' S.ns) S env en a b at) c e;
}
