-- A value fits a pattern where the pattern's tests hold, and binds what its names read.
use Rattle.std.proofs.Common.{◌≡◌, ℕ, zero, suc, pos, Bool, true, false, not, List, [], ◌∷◌, ◌++◌, length, Option, Some, None, refl, sym, ap, ◌∙◌}
use Rattle.std.specs.Prelude.{slice_get, bytes_eq, nat_eq, ◌&&◌}
use Rattle.std.specs.Ordering.{int_eq}
use Rattle.smlc_base.specs.declared.names.Name.{Name}
use Rattle.sml_tree.specs.declared.bare.Bare.{Bare}
use Rattle.sml_tree.specs.declared.bare.Node.{Node}
use Rattle.sml_tree.specs.declared.bare.Node.TheVariants as node
use Rattle.sml_tree.specs.declared.bare.Con.{Con}
use Rattle.sml_tree.specs.declared.bare.Con.TheVariants as con
use Rattle.sml_tree.specs.declared.bare.Field.{Field}
use Rattle.sml_tree.specs.BareParts.{at_node, within}
use Rattle.sml_def.specs.Maybe.{◌>>=◌, when, or_else}
use Rattle.sml_def.specs.State.{Value, Number, Letter, Nothing, Tag, Constant, Builtin, Maker, RefMaker, Library, At, Env, Block, Tuple, Applied, Text, Cell, ExnName, Packet, Closure, Frame, Pending, look}
use Rattle.sml_def.specs.Match.{block_of, bytes_of, text_block, tuple_block, same_exn, packet_block, applied_block, cell_block, argument_of, is_con, fields_of, fields_fit, fits_of, first_rule}
use Rattle.smlc_base.specs.declared.match_tests.Want.{Want}
use Rattle.smlc_base.specs.declared.match_tests.Want.TheVariants as want
use Rattle.smlc_base.specs.declared.match_tests.Test.{Test}
use Rattle.smlc_base.specs.declared.match_tests.Named.{Named}
use Rattle.sml_types.specs.declared.tables.TypeName.{TypeName}
use Rattle.std.proofs.lemmas.Bool.{eqb-true, eq-eqb}
use Rattle.std.proofs.lemmas.Bool.Decides.{Decides-int_eq}
use Rattle.lambda_ir.specs.Tests.{scope_of, trials, chosen}
use Rattle.prim_meaning.specs.Tests.{bytes_wanted, wanted, fields_in, has_bytes, walk, is_wanted, holds_at, all_hold, read_one, read, chosen_or}
use Rattle.prim_meaning.proofs.Ways.{walk_on}
use Rattle.sml_def.specs.Builtin.{see_text, see_block, see_builtin, see, which}
use Rattle.smlc_base.specs.declared.primitive.Primitive.{Primitive}
use Rattle.smlc_base.specs.declared.primitive.Primitive.TheVariants as prim
use Rattle.std.specs.Prelude.{cond}
use Rattle.match_laws.specs.Compile.{cons_in, tag_in, slot_of, test, named, con_tests, over_fields, tests_of, names_of, tests, names}
use Rattle.match_laws.specs.Shape.{met, same_bool, con_holds, shaped_argument, shaped_fields, shaped_of}
use Rattle.match_laws.specs.Law.{TestsFit, TestsChoose}

and_left : (a b : Bool) → (a && b) ≡ true → a ≡ true
and_left true b e = refl
and_left false b e = cc

and_right : (a b : Bool) → (a && b) ≡ true → b ≡ true
and_right true b e = e
and_right false b e = cc

and_true : (a : Bool) → (a && true) ≡ a
and_true true = refl
and_true false = refl

and_more : (b c d e : Bool) → c ≡ (d && e) → (b && c) ≡ ((b && d) && e)
and_more true c d e h = h
and_more false c d e h = refl

is_same : (a b : Bool) → same_bool a b ≡ true → a ≡ b
is_same true b e = sym e
is_same false true e = cc
is_same false false e = refl

-- ---- What is seen

-- the fields of a record are those that are seen
fields_seen : (texts : List (List ℕ)) (store : List Block) (v : Value) (vs : List Value) → fields_of store v ≡ Some vs → fields_in (see texts store v) ≡ vs
fields_seen texts store (At a) vs e = go (slice_get store a) e
  where
    go : (o : Option Block) → tuple_block o ≡ Some vs → fields_in (see_block a o) ≡ vs
    go (Some (Tuple fields)) e = cc
    go None e = cc
    go (Some _) e = cc
fields_seen texts store Nothing vs e = cc
fields_seen texts store _ vs e = cc

pub field_seen : (texts : List (List ℕ)) (store : List Block) (v : Value) (vs : List Value) (i : ℕ) (w : Value) → fields_of store v ≡ Some vs → slice_get vs i ≡ Some w → slice_get (fields_in (see texts store v)) i ≡ Some w
field_seen texts store v vs i w e g = ap (λ fs. slice_get fs i) (fields_seen texts store v vs e) ∙ g

when_is : (t : Bool) (v w : Value) → when t v ≡ Some w → v ≡ w
when_is true v w e = cc
when_is false v w e = cc

-- what stands in field i of a block
abbrev InField : ℕ → ℕ → Value → Option Block → Type 0
InField a i w o = slice_get (fields_in (see_block a o)) i ≡ Some w

applied_in : (n a : ℕ) (o : Option Block) (w : Value) → applied_block n o ≡ Some w → InField a 0 w o
applied_in n a (Some (Applied m v)) w e = ap Some (when_is (nat_eq n m) v w e)
applied_in n a None w e = cc
applied_in n a (Some _) w e = cc

cell_in : (a : ℕ) (o : Option Block) (w : Value) → cell_block o ≡ Some w → InField a 0 w o
cell_in a (Some (Cell v)) w e = e
cell_in a None w e = cc
cell_in a (Some _) w e = cc

packet_in : (name : Value) (a : ℕ) (o : Option Block) (w : Value) → (packet_block o >>= (λ packet. when (same_exn name packet.0) packet.1)) ≡ Some w → InField a 1 w o
packet_in name a (Some (Packet x v)) w e = ap Some (when_is (same_exn name x) v w e)
packet_in name a None w e = cc
packet_in name a (Some _) w e = cc

-- an argument, by what holds of the block that a value has
argument_at : (env : Env) (store : List Block) (c : Con) (a : ℕ) (w : Value) → argument_of env store c (At a) ≡ Some w → InField a (slot_of c) w (slice_get store a)
argument_at env store (con.Data t n takes) a w e = applied_in n a (slice_get store a) w e
argument_at env store con.Ref a w e = cell_in a (slice_get store a) w e
argument_at env store (con.Exn x takes) a w e = go (look env x.0) e
  where
    go : (o : Option Value) → (o >>= (λ name. packet_block (slice_get store a) >>= (λ packet. when (same_exn name packet.0) packet.1))) ≡ Some w → InField a 1 w (slice_get store a)
    go None g = cc
    go (Some name) g = packet_in name a (slice_get store a) w g
argument_at env store (con.Library l) a w e = packet_in (Library l) a (slice_get store a) w e

none_else : (env : Env) (store : List Block) (c : Con) (v w : Value) → block_of store v ≡ None → argument_of env store c v ≡ Some w → ⊥
none_else env store (con.Data t n takes) v w b e = let g : None ≡ Some w = sym (ap (applied_block n) b) ∙ e in cc
none_else env store con.Ref v w b e = let g : None ≡ Some w = sym (ap cell_block b) ∙ e in cc
none_else env store (con.Exn x takes) v w b e = go (look env x.0) e
  where
    go : (o : Option Value) → (o >>= (λ name. packet_block (block_of store v) >>= (λ packet. when (same_exn name packet.0) packet.1))) ≡ Some w → ⊥
    go None g = cc
    go (Some name) g = let f : None ≡ Some w = sym (ap (λ o. packet_block o >>= (λ packet. when (same_exn name packet.0) packet.1)) b) ∙ g in cc
none_else env store (con.Library l) v w b e =
    let f : None ≡ Some w = sym (ap (λ o. packet_block o >>= (λ packet. when (same_exn (Library l) packet.0) packet.1)) b) ∙ e in cc

argument_in : (texts : List (List ℕ)) (env : Env) (store : List Block) (c : Con) (v w : Value) → argument_of env store c v ≡ Some w → slice_get (fields_in (see texts store v)) (slot_of c) ≡ Some w
argument_in texts env store c (At a) w e = argument_at env store c a w e
argument_in texts env store c (Number z) w e = absurd (none_else env store c (Number z) w refl e)
argument_in texts env store c (Letter z) w e = absurd (none_else env store c (Letter z) w refl e)
argument_in texts env store c Nothing w e = absurd (none_else env store c Nothing w refl e)
argument_in texts env store c (Tag z) w e = absurd (none_else env store c (Tag z) w refl e)
argument_in texts env store c (Constant z) w e = absurd (none_else env store c (Constant z) w refl e)
argument_in texts env store c (Builtin z) w e = absurd (none_else env store c (Builtin z) w refl e)
argument_in texts env store c (Maker z) w e = absurd (none_else env store c (Maker z) w refl e)
argument_in texts env store c RefMaker w e = absurd (none_else env store c RefMaker w refl e)
argument_in texts env store c (Library z) w e = absurd (none_else env store c (Library z) w refl e)

-- the bytes of a string are those that are seen
abbrev AreBytes : List ℕ → Option (List ℕ) → Bool
AreBytes bs o = or_else o (λ others. bytes_eq bs others) false

bytes_seen : (p : Bare) (store : List Block) (bs : List ℕ) (v : Value) → has_bytes bs (see p.texts store v) ≡ AreBytes bs (bytes_of p store v)
bytes_seen p store bs (Constant n) = go (slice_get p.texts n)
  where
    go : (o : Option (List ℕ)) → has_bytes bs (see_text o) ≡ AreBytes bs o
    go None = refl
    go (Some cs) = refl
bytes_seen p store bs (At a) = go (slice_get store a)
  where
    go : (o : Option Block) → has_bytes bs (see_block a o) ≡ AreBytes bs (text_block o)
    go None = refl
    go (Some (Tuple vs)) = refl
    go (Some (Applied n v)) = refl
    go (Some (Text cs)) = refl
    go (Some (Cell v)) = refl
    go (Some (ExnName x)) = refl
    go (Some (Packet x v)) = refl
    go (Some (Closure i rules env)) = refl
    go (Some (Frame w next)) = refl
    go (Some (Pending v w next)) = refl
bytes_seen p store bs (Builtin f) = go f
  where
    go : (f : Primitive) → has_bytes bs (see_builtin f) ≡ false
    go prim.StdIn = refl
    go _ = refl
bytes_seen p store bs _ = refl

-- characters are told apart by their codes
same_code : (c d : ℕ) → nat_eq c d ≡ int_eq (pos c) (pos d)
same_code c d = go (nat_eq c d) refl (int_eq (pos c) (pos d)) refl
  where
    go : (a : Bool) → nat_eq c d ≡ a → (b : Bool) → int_eq (pos c) (pos d) ≡ b → nat_eq c d ≡ int_eq (pos c) (pos d)
    go true e true f = e ∙ sym f
    go false e false f = e ∙ sym f
    go true e false f = let g : true ≡ false = sym ((Decides-int_eq (pos c) (pos d)).1 (ap pos (eqb-true c d e))) ∙ f in cc
    go false e true f =
        let k : pos c ≡ pos d = (Decides-int_eq (pos c) (pos d)).0 f in
        let l : c ≡ d = cc in
        let g : false ≡ true = sym e ∙ eq-eqb c d l in cc

module _ (ts : List TypeName) (p : Bare) (env : Env) (store : List Block) (root : Value) where
  abbrev hold : List Test → Bool
  hold tests = all_hold (see p.texts store) which root (trials p.texts env tests)

  abbrev reads : List Named → Env
  reads ns = read (see p.texts store) root ns

  hold_append : (xs ys : List Test) → hold (xs ++ ys) ≡ (hold xs && hold ys)
  hold_append [] ys = refl
  hold_append (x ∷ xs) ys = and_more (holds_at (see p.texts store) which (wanted (scope_of p.texts env) x.want) (walk (see p.texts store) root x.path)) (hold (xs ++ ys)) (hold xs) (hold ys) (hold_append xs ys)

  one_more : (x : ℕ) (o : Option Value) (a b c : Env) → a ≡ b ++ c → read_one (see p.texts store) x o a ≡ read_one (see p.texts store) x o b ++ c
  one_more x None a b c h = h
  one_more x (Some w) a b c h = ap (λ e. (x, w) ∷ e) h

  read_append : (xs ys : List Named) → reads (xs ++ ys) ≡ reads xs ++ reads ys
  read_append [] ys = refl
  read_append (n ∷ xs) ys = one_more n.name.0 (walk (see p.texts store) root n.path) (reads (xs ++ ys)) (reads xs) (reads ys) (read_append xs ys)

  -- one test at the end of a way
  one_test : (path : List ℕ) (v : Value) (w : Want) → walk (see p.texts store) root path ≡ Some v → hold (test path w ∷ []) ≡ met p env store (wanted (scope_of p.texts env) w) v
  one_test path v w e = and_true (holds_at (see p.texts store) which (wanted (scope_of p.texts env) w) (walk (see p.texts store) root path)) ∙ ap (holds_at (see p.texts store) which (wanted (scope_of p.texts env) w)) e

  con_test : (b : Bool) (path : List ℕ) (v : Value) (c : Con) → walk (see p.texts store) root path ≡ Some v → hold (con_tests ts b c path) ≡ con_holds p env store b c v
  con_test b path v (con.Data t n takes) e = one_test path v (want.Tag (tag_in n takes (cons_in (slice_get ts t)))) e
  con_test b path v con.Ref e = refl
  con_test b path v (con.Exn x takes) e = one_test path v (want.Exn x b) e
  con_test b path v (con.Library l) e = one_test path v (want.Library l b) e

  when_test : (path : List ℕ) (v : Value) (w : Want) (b : Bool) → walk (see p.texts store) root path ≡ Some v → b ≡ met p env store (wanted (scope_of p.texts env) w) v → when b [] ≡ when (hold (test path w ∷ [])) (reads [])
  when_test path v w b e f = ap (λ b. when b []) (f ∙ sym (one_test path v w e))

  both : (a b : Bool) (x y : Env) → (when a x >>= (λ bound. when b y >>= (λ others. Some (bound ++ others)))) ≡ when (a && b) (x ++ y)
  both true true x y = refl
  both true false x y = refl
  both false b x y = refl

  module _ (fitting : ℕ → Value → Option Env) (shape : ℕ → Value → Bool) (testing : ℕ → List ℕ → List Test) (naming : ℕ → List ℕ → List Named) where
    -- the law of the parts
    abbrev LawAt : ℕ → Type 0
    LawAt i = (v : Value) (path : List ℕ) → walk (see p.texts store) root path ≡ Some v → shape i v ≡ true → fitting i v ≡ when (hold (testing i path)) (reads (naming i path))

    fields_law : ((i : ℕ) → LawAt i) → (fields : List Field) (v : Value) (vs : List Value) (path : List ℕ) → walk (see p.texts store) root path ≡ Some v → fields_of store v ≡ Some vs → shaped_fields p env store shape fields vs ≡ true → fields_fit p env store fitting fields vs ≡ when (hold (over_fields testing path fields)) (reads (over_fields naming path fields))
    fields_law law [] v vs path e f s = refl
    fields_law law (x ∷ fields) v vs path e f s =
        go (slice_get vs x.slot) refl (and_left (or_else (slice_get vs x.slot) (shape x.node) false) (shaped_fields p env store shape fields vs) s) (fields_law law fields v vs path e f (and_right (or_else (slice_get vs x.slot) (shape x.node) false) (shaped_fields p env store shape fields vs) s))
      where
        go : (o : Option Value) → slice_get vs x.slot ≡ o → or_else o (shape x.node) false ≡ true → fields_fit p env store fitting fields vs ≡ when (hold (over_fields testing path fields)) (reads (over_fields naming path fields)) → (o >>= (λ w. fitting x.node w >>= (λ bound. fields_fit p env store fitting fields vs >>= (λ others. Some (bound ++ others))))) ≡ when (hold (over_fields testing path (x ∷ fields))) (reads (over_fields naming path (x ∷ fields)))
        go None g h rest = cc
        go (Some w) g h rest =
            let way = path ++ x.slot ∷ [] in
            let first = law x.node w way (walk_on (see p.texts store) root v w x.slot path e (field_seen p.texts store v vs x.slot w f g)) h in
            ap (λ o. o >>= (λ bound. fields_fit p env store fitting fields vs >>= (λ others. Some (bound ++ others)))) first
            ∙ ap (λ o. when (hold (testing x.node way)) (reads (naming x.node way)) >>= (λ bound. o >>= (λ others. Some (bound ++ others)))) rest
            ∙ both (hold (testing x.node way)) (hold (over_fields testing path fields)) (reads (naming x.node way)) (reads (over_fields naming path fields))
            ∙ ap (λ b. when b (reads (naming x.node way) ++ reads (over_fields naming path fields))) (sym (hold_append (testing x.node way) (over_fields testing path fields)))
            ∙ ap (λ r. when (hold (testing x.node way ++ over_fields testing path fields)) r) (sym (read_append (naming x.node way) (over_fields naming path fields)))

    abbrev nothing : Env
    nothing = []

    texts_law : (t : ℕ) (v : Value) (a : Option (List ℕ)) → (a >>= (λ bytes. bytes_of p store v >>= (λ others. when (bytes_eq bytes others) nothing))) ≡ when (is_wanted (see p.texts store) which (bytes_wanted a) v) nothing
    texts_law t v None = refl
    texts_law t v (Some bs) = by (bytes_of p store v) ∙ ap (λ b. when b nothing) (sym (bytes_seen p store bs v))
      where
        by : (o : Option (List ℕ)) → (o >>= (λ others. when (bytes_eq bs others) nothing)) ≡ when (AreBytes bs o) nothing
        by None = refl
        by (Some cs) = refl

    argument_law : ((i : ℕ) → LawAt i) → (c : Con) (q : ℕ) (v : Value) (path : List ℕ) → walk (see p.texts store) root path ≡ Some v → (o : Option Value) → argument_of env store c v ≡ o → shaped_argument p env store (shape q) (con_holds p env store true c v) o ≡ true → (o >>= fitting q) ≡ when (hold (con_tests ts true c path ++ testing q (path ++ slot_of c ∷ []))) (reads (naming q (path ++ slot_of c ∷ [])))
    argument_law law c q v path e None g s =
        ap (λ b. when b (reads (naming q (path ++ slot_of c ∷ [])))) (sym (hold_append (con_tests ts true c path) (testing q (path ++ slot_of c ∷ [])) ∙ ap (λ b. b && hold (testing q (path ++ slot_of c ∷ []))) (con_test true path v c e ∙ off (con_holds p env store true c v) s)))
      where
        off : (b : Bool) → not b ≡ true → b ≡ false
        off true h = cc
        off false h = refl
    argument_law law c q v path e (Some w) g s =
        law q w (path ++ slot_of c ∷ []) (walk_on (see p.texts store) root v w (slot_of c) path e (argument_in p.texts env store c v w g)) (and_right (con_holds p env store true c v) (shape q w) s)
        ∙ ap (λ b. when b (reads (naming q (path ++ slot_of c ∷ [])))) (sym (hold_append (con_tests ts true c path) (testing q (path ++ slot_of c ∷ [])) ∙ ap (λ b. b && hold (testing q (path ++ slot_of c ∷ []))) (con_test true path v c e ∙ and_left (con_holds p env store true c v) (shape q w) s)))

    as_law : (x : Name) (v : Value) (b : Bool) (r : Env) (o : Option Env) → o ≡ when b r → (o >>= (λ bound. Some ((x.0, v) ∷ bound))) ≡ when b ((x.0, v) ∷ r)
    as_law x v true r o e = ap (λ o. o >>= (λ bound. Some ((x.0, v) ∷ bound))) e
    as_law x v false r o e = ap (λ o. o >>= (λ bound. Some ((x.0, v) ∷ bound))) e

    read_head : (x : Name) (v : Value) (path : List ℕ) (ns : List Named) → walk (see p.texts store) root path ≡ Some v → reads (named x path ∷ ns) ≡ (x.0, v) ∷ reads ns
    read_head x v path ns e = ap (λ o. read_one (see p.texts store) x.0 o (reads ns)) e

    node_law : ((i : ℕ) → LawAt i) → (n : Node) (v : Value) (path : List ℕ) → walk (see p.texts store) root path ≡ Some v → shaped_of p env store shape n v ≡ true → fits_of p env store fitting n v ≡ when (hold (tests_of ts testing n path)) (reads (names_of naming n path))
    node_law law node.Wild v path e s = refl
    node_law law (node.PatInt n) (Number m) path e s = when_test path (Number m) (want.Num n) (int_eq n m) e refl
    node_law law (node.PatInt n) _ path e s = cc
    node_law law (node.PatChar c) (Letter d) path e s = when_test path (Letter d) (want.Num (pos c)) (nat_eq c d) e (same_code c d)
    node_law law (node.PatChar c) _ path e s = cc
    node_law law (node.PatText t) v path e s =
        texts_law t v (slice_get p.texts t) ∙ ap (λ b. when b []) (sym (one_test path v (want.Text t) e))
    node_law law (node.PatVar x) v path e s = ap Some (sym (read_head x v path [] e))
    node_law law (node.PatCon c) v path e s = ap (λ b. when b []) (is_same (is_con env c v) (con_holds p env store false c v) s ∙ sym (con_test false path v c e))
    node_law law (node.PatApp c q) v path e s = argument_law law c q v path e (argument_of env store c v) refl s
    node_law law (node.PatRecord fields) v path e s = go (fields_of store v) refl s
      where
        go : (o : Option (List Value)) → fields_of store v ≡ o → or_else o (shaped_fields p env store shape fields) false ≡ true → (o >>= fields_fit p env store fitting fields) ≡ when (hold (over_fields testing path fields)) (reads (over_fields naming path fields))
        go None g h = cc
        go (Some vs) g h = fields_law law fields v vs path e g h
    node_law law (node.PatTyped q ty) v path e s = law q v path e s
    node_law law (node.PatAs x q) v path e s =
        as_law x v (hold (testing q path)) (reads (naming q path)) (fitting q v) (law q v path e s)
        ∙ ap (λ r. when (hold (testing q path)) r) (sym (read_head x v path (naming q path) e))
    node_law law _ v path e s = cc

  within_law : (k i : ℕ) (v : Value) (path : List ℕ) → walk (see p.texts store) root path ≡ Some v → within (λ v. false) (λ part i. shaped_of p env store part) k p.nodes i v ≡ true → within (λ v. None) (λ part i. fits_of p env store part) k p.nodes i v ≡ when (hold (within (λ path. []) (λ part i. tests_of ts part) k p.nodes i path)) (reads (within (λ path. []) (λ part i. names_of part) k p.nodes i path))
  within_law zero i v path e s = cc
  within_law (suc k) i v path e s = go (slice_get p.nodes i) s (λ c w way f g. within_law k c w way f g)
    where
      go : (o : Option Node) → at_node (λ v. false) (λ part i. shaped_of p env store part) (within (λ v. false) (λ part i. shaped_of p env store part) k p.nodes) i o v ≡ true → ((c : ℕ) → LawAt (within (λ v. None) (λ part i. fits_of p env store part) k p.nodes) (within (λ v. false) (λ part i. shaped_of p env store part) k p.nodes) (within (λ path. []) (λ part i. tests_of ts part) k p.nodes) (within (λ path. []) (λ part i. names_of part) k p.nodes) c) → at_node (λ v. None) (λ part i. fits_of p env store part) (within (λ v. None) (λ part i. fits_of p env store part) k p.nodes) i o v ≡ when (hold (at_node (λ path. []) (λ part i. tests_of ts part) (within (λ path. []) (λ part i. tests_of ts part) k p.nodes) i o path)) (reads (at_node (λ path. []) (λ part i. names_of part) (within (λ path. []) (λ part i. names_of part) k p.nodes) i o path))
      go None h on = cc
      go (Some n) h on =
          node_law (within (λ v. None) (λ part i. fits_of p env store part) k p.nodes) (within (λ v. false) (λ part i. shaped_of p env store part) k p.nodes) (within (λ path. []) (λ part i. tests_of ts part) k p.nodes) (within (λ path. []) (λ part i. names_of part) k p.nodes) on n v path e h

when_cond : (b : Bool) (e : Env) → when b e ≡ cond b (Some e) None
when_cond true e = refl
when_cond false e = refl

pub tests_fit : TestsFit
tests_fit ts p env store i v s =
    within_law ts p env store v (length p.nodes) i v [] refl s ∙ when_cond (all_hold (see p.texts store) which v (trials p.texts env (tests ts p.nodes i []))) (read (see p.texts store) v (names p.nodes i []))

choice_is : (o : Option Env) (body : ℕ) (later : Option (Env × ℕ)) → or_else o (λ bound. Some (bound, body)) later ≡ chosen_or o body later
choice_is None body later = refl
choice_is (Some e) body later = refl

pub tests_choose : TestsChoose
tests_choose ts p env store [] v h = refl
tests_choose ts p env store (r ∷ rules) v h =
    ap (λ o. or_else o (λ bound. Some (bound, r.body)) (first_rule p env store rules v)) (tests_fit ts p env store r.pat v h.0)
    ∙ choice_is (chosen p.texts env (see p.texts store) (tests ts p.nodes r.pat []) (names p.nodes r.pat []) v) r.body (first_rule p env store rules v)
    ∙ ap (chosen_or (chosen p.texts env (see p.texts store) (tests ts p.nodes r.pat []) (names p.nodes r.pat []) v) r.body) (tests_choose ts p env store rules v h.1)
