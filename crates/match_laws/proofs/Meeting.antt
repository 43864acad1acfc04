-- For values that suit a pattern its tests look at values of their kind, along ways that lead somewhere.
use Rattle.std.proofs.Common.{◌≡◌, ℕ, zero, suc, pos, Bool, true, false, List, [], ◌∷◌, ◌++◌, length, Option, Some, None, refl, ap, ◌∙◌}
use Rattle.std.specs.Prelude.{slice_get, ◌&&◌}
use Rattle.std.specs.Option.{is_some}
use Rattle.smlc_base.specs.declared.match_tests.Want.{Want}
use Rattle.smlc_base.specs.declared.match_tests.Want.TheVariants as want
use Rattle.smlc_base.specs.declared.match_tests.Test.{Test}
use Rattle.smlc_base.specs.declared.match_tests.Named.{Named}
use Rattle.sml_tree.specs.declared.bare.Bare.{Bare}
use Rattle.sml_tree.specs.declared.bare.Node.{Node}
use Rattle.sml_tree.specs.declared.bare.Node.TheVariants as node
use Rattle.sml_tree.specs.declared.bare.Con.{Con}
use Rattle.sml_tree.specs.declared.bare.Con.TheVariants as con
use Rattle.sml_tree.specs.declared.bare.Field.{Field}
use Rattle.sml_tree.specs.BareParts.{at_node, within}
use Rattle.sml_types.specs.declared.tables.TypeName.{TypeName}
use Rattle.prim_meaning.specs.Tests.{wanted, fields_in, walk}
use Rattle.prim_meaning.specs.Strict.{met_then, met_or, met_at, all_met, lead}
use Rattle.prim_meaning.proofs.Ways.{walk_on}
use Rattle.sml_def.specs.Builtin.{see, which}
use Rattle.sml_def.specs.Maybe.{or_else}
use Rattle.sml_def.specs.State.{Value, Env, Block}
use Rattle.lambda_ir.specs.Tests.{scope_of, trials}
use Rattle.match_laws.specs.Compile.{cons_in, tag_in, slot_of, test, named, con_tests, over_fields, tests_of, names_of, tests, names}
use Rattle.match_laws.specs.Suit.{is_exn_name, then_suits, is_met, con_met, field_suits, fields_suit, suited_of, suited}
use Rattle.match_laws.specs.Law.{TestsAreMet}

-- tests that are met, with names that lead somewhere where they hold
abbrev Good : Option Bool → Bool → Type 0
Good o named = met_or o named true ≡ true

then_assoc : (o q r : Option Bool) → met_then o (met_then q r) ≡ met_then (met_then o q) r
then_assoc (Some true) q r = refl
then_assoc (Some false) q r = refl
then_assoc None q r = refl

then_true : (o : Option Bool) → met_then o (Some true) ≡ o
then_true (Some true) = refl
then_true (Some false) = refl
then_true None = refl

and_assoc : (a b c : Bool) → (a && (b && c)) ≡ ((a && b) && c)
and_assoc true b c = refl
and_assoc false b c = refl

good_both : (o q : Option Bool) (a b : Bool) → Good o a → Good q b → Good (met_then o q) (a && b)
good_both (Some true) (Some true) true b h g = g
good_both (Some true) (Some true) false b h g = cc
good_both (Some true) (Some false) a b h g = refl
good_both (Some true) None a b h g = cc
good_both (Some false) q a b h g = refl
good_both None q a b h g = cc

good_some : (o : Option Bool) → is_some o ≡ true → Good o true
good_some (Some true) h = refl
good_some (Some false) h = refl
good_some None h = cc

and_left : (a b : Bool) → (a && b) ≡ true → a ≡ true
and_left true b e = refl
and_left false b e = cc

and_right : (a b : Bool) → (a && b) ≡ true → b ≡ true
and_right true b e = e
and_right false b e = cc

module _ (ts : List TypeName) (p : Bare) (env : Env) (store : List Block) (root : Value) where
  abbrev held : List Test → Option Bool
  held tests = all_met (see p.texts store) which (is_exn_name store) root (trials p.texts env tests)

  abbrev leads : List Named → Bool
  leads ns = lead (see p.texts store) root ns

  abbrev StandsAt : List ℕ → Value → Type 0
  StandsAt path v = walk (see p.texts store) root path ≡ Some v

  held_append : (xs ys : List Test) → held (xs ++ ys) ≡ met_then (held xs) (held ys)
  held_append [] ys = refl
  held_append (x ∷ xs) ys =
      let o = met_at (see p.texts store) which (is_exn_name store) (wanted (scope_of p.texts env) x.want) (walk (see p.texts store) root x.path) in
      ap (met_then o) (held_append xs ys) ∙ then_assoc o (held xs) (held ys)

  leads_append : (xs ys : List Named) → leads (xs ++ ys) ≡ (leads xs && leads ys)
  leads_append [] ys = refl
  leads_append (n ∷ xs) ys =
      let b = is_some (walk (see p.texts store) root n.path) in
      ap (λ c. b && c) (leads_append xs ys) ∙ and_assoc b (leads xs) (leads ys)

  good_append : (xs ys : List Test) (ms ns : List Named) → Good (held xs) (leads ms) → Good (held ys) (leads ns) → Good (held (xs ++ ys)) (leads (ms ++ ns))
  good_append xs ys ms ns h g =
      ap (λ o. met_or o (leads (ms ++ ns)) true) (held_append xs ys)
      ∙ ap (λ b. met_or (met_then (held xs) (held ys)) b true) (leads_append ms ns)
      ∙ good_both (held xs) (held ys) (leads ms) (leads ns) h g

  -- one test at the end of a way
  one_held : (path : List ℕ) (v : Value) (w : Want) → StandsAt path v → held (test path w ∷ []) ≡ is_met p env store (wanted (scope_of p.texts env) w) v
  one_held path v w e =
      then_true (met_at (see p.texts store) which (is_exn_name store) (wanted (scope_of p.texts env) w) (walk (see p.texts store) root path))
      ∙ ap (met_at (see p.texts store) which (is_exn_name store) (wanted (scope_of p.texts env) w)) e

  con_held : (b : Bool) (path : List ℕ) (v : Value) (c : Con) → StandsAt path v → held (con_tests ts b c path) ≡ con_met p env store b c v
  con_held b path v (con.Data t n takes) e = one_held path v (want.Tag (tag_in n takes (cons_in (slice_get ts t)))) e
  con_held b path v con.Ref e = refl
  con_held b path v (con.Exn x takes) e = one_held path v (want.Exn x b) e
  con_held b path v (con.Library l) e = one_held path v (want.Library l b) e

  good_one : (xs : List Test) (o : Option Bool) → held xs ≡ o → is_some o ≡ true → Good (held xs) true
  good_one xs o e h = ap (λ q. met_or q true true) e ∙ good_some o h

  leads_here : (path : List ℕ) (v : Value) → StandsAt path v → is_some (walk (see p.texts store) root path) ≡ true
  leads_here path v e = ap is_some e

  module _ (suits : ℕ → Value → Bool) (testing : ℕ → List ℕ → List Test) (naming : ℕ → List ℕ → List Named) where
    -- the law of the parts
    abbrev LawAt : ℕ → Type 0
    LawAt i = (v : Value) (path : List ℕ) → StandsAt path v → suits i v ≡ true → Good (held (testing i path)) (leads (naming i path))

    at_field : ((i : ℕ) → LawAt i) → (i slot : ℕ) (v : Value) (path : List ℕ) → StandsAt path v → (o : Option Value) → slice_get (fields_in (see p.texts store v)) slot ≡ o → or_else o (suits i) false ≡ true → Good (held (testing i (path ++ slot ∷ []))) (leads (naming i (path ++ slot ∷ [])))
    at_field law i slot v path e None g s = cc
    at_field law i slot v path e (Some w) g s = law i w (path ++ slot ∷ []) (walk_on (see p.texts store) root v w slot path e g) s

    fields_law : ((i : ℕ) → LawAt i) → (fields : List Field) (v : Value) (path : List ℕ) → StandsAt path v → fields_suit p env store suits fields v ≡ true → Good (held (over_fields testing path fields)) (leads (over_fields naming path fields))
    fields_law law [] v path e s = refl
    fields_law law (f ∷ fields) v path e s =
        let way = path ++ f.slot ∷ [] in
        let here = field_suits p env store (suits f.node) f.slot v in
        let rest = fields_suit p env store suits fields v in
        good_append (testing f.node way) (over_fields testing path fields) (naming f.node way) (over_fields naming path fields) (at_field law f.node f.slot v path e (slice_get (fields_in (see p.texts store v)) f.slot) refl (and_left here rest s)) (fields_law law fields v path e (and_right here rest s))

    -- a constructor's test, and the tests of its argument
    argument_law : ((i : ℕ) → LawAt i) → (c : Con) (q : ℕ) (v : Value) (path : List ℕ) → StandsAt path v → (o : Option Bool) → con_met p env store true c v ≡ o → then_suits o (field_suits p env store (suits q) (slot_of c) v) ≡ true → Good (held (con_tests ts true c path ++ testing q (path ++ slot_of c ∷ []))) (leads (naming q (path ++ slot_of c ∷ [])))
    argument_law law c q v path e (Some true) g s =
        good_append (con_tests ts true c path) (testing q (path ++ slot_of c ∷ [])) [] (naming q (path ++ slot_of c ∷ [])) (good_one (con_tests ts true c path) (Some true) (con_held true path v c e ∙ g) refl) (at_field law q (slot_of c) v path e (slice_get (fields_in (see p.texts store v)) (slot_of c)) refl s)
    argument_law law c q v path e (Some false) g s =
        ap (λ o. met_or o (leads (naming q (path ++ slot_of c ∷ []))) true) (held_append (con_tests ts true c path) (testing q (path ++ slot_of c ∷ [])) ∙ ap (λ o. met_then o (held (testing q (path ++ slot_of c ∷ [])))) (con_held true path v c e ∙ g))
    argument_law law c q v path e None g s = cc

    as_law : (path : List ℕ) (v : Value) (ns : List Named) (o : Option Bool) (m : Named) → m.path ≡ path → StandsAt path v → Good o (leads ns) → Good o (leads (m ∷ ns))
    as_law path v ns o m same e h =
        ap (λ b. met_or o (b && leads ns) true) (ap (λ q. is_some (walk (see p.texts store) root q)) same ∙ leads_here path v e) ∙ h

    node_law : ((i : ℕ) → LawAt i) → (n : Node) (v : Value) (path : List ℕ) → StandsAt path v → suited_of p env store suits n v ≡ true → Good (held (tests_of ts testing n path)) (leads (names_of naming n path))
    node_law law node.Wild v path e s = refl
    node_law law (node.PatInt z) v path e s = good_one (test path (want.Num z) ∷ []) _ (one_held path v (want.Num z) e) s
    node_law law (node.PatChar c) v path e s = good_one (test path (want.Num (pos c)) ∷ []) _ (one_held path v (want.Num (pos c)) e) s
    node_law law (node.PatText t) v path e s = good_one (test path (want.Text t) ∷ []) _ (one_held path v (want.Text t) e) s
    node_law law (node.PatVar x) v path e s = as_law path v [] (Some true) (named x path) refl e refl
    node_law law (node.PatCon c) v path e s = good_one (con_tests ts false c path) _ (con_held false path v c e) s
    node_law law (node.PatApp c q) v path e s = argument_law law c q v path e (con_met p env store true c v) refl s
    node_law law (node.PatRecord fields) v path e s = fields_law law fields v path e s
    node_law law (node.PatTyped q ty) v path e s = law q v path e s
    node_law law (node.PatAs x q) v path e s = as_law path v (naming q path) (held (testing q path)) (named x path) refl e (law q v path e s)
    node_law law _ v path e s = cc

  abbrev suiting : ℕ → ℕ → Value → Bool
  suiting k = within (λ v. false) (λ part i. suited_of p env store part) k p.nodes

  abbrev testing_to : ℕ → ℕ → List ℕ → List Test
  testing_to k = within (λ path. []) (λ part i. tests_of ts part) k p.nodes

  abbrev naming_to : ℕ → ℕ → List ℕ → List Named
  naming_to k = within (λ path. []) (λ part i. names_of part) k p.nodes

  within_law : (k i : ℕ) → LawAt (suiting k) (testing_to k) (naming_to k) i
  within_law zero i v path e s = cc
  within_law (suc k) i v path e s = go (slice_get p.nodes i) s (λ c w way f g. within_law k c w way f g)
    where
      go : (o : Option Node) → at_node (λ v. false) (λ part i. suited_of p env store part) (suiting k) i o v ≡ true → ((c : ℕ) → LawAt (suiting k) (testing_to k) (naming_to k) c) → Good (held (at_node (λ path. []) (λ part i. tests_of ts part) (testing_to k) i o path)) (leads (at_node (λ path. []) (λ part i. names_of part) (naming_to k) i o path))
      go None h on = cc
      go (Some n) h on = node_law (suiting k) (testing_to k) (naming_to k) on n v path e h

-- the tests of one pattern
pub pattern_met : (ts : List TypeName) (p : Bare) (env : Env) (store : List Block) (i : ℕ) (v : Value) → suited p env store i v ≡ true → Good (held ts p env store v (tests ts p.nodes i [])) (leads ts p env store v (names p.nodes i []))
pattern_met ts p env store i v s = within_law ts p env store v (length p.nodes) i v [] refl s

or_later : (o : Option Bool) (named later : Bool) → Good o named → later ≡ true → met_or o named later ≡ true
or_later (Some true) named later h g = h
or_later (Some false) named later h g = g
or_later None named later h g = h

pub tests_are_met : TestsAreMet
tests_are_met ts p env store [] v h = refl
tests_are_met ts p env store (r ∷ rules) v h =
    or_later (held ts p env store v (tests ts p.nodes r.pat [])) (leads ts p env store v (names p.nodes r.pat [])) _ (pattern_met ts p env store r.pat v h.0) (tests_are_met ts p env store rules v h.1)
