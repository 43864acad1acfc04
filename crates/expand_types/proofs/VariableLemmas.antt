-- Type variables by what their nodes are.
use Rattle.std.proofs.Common.{◌≡◌, ◌≢◌, ◌<◌, ◌≤◌, ℕ, zero, suc, Bool, true, false, List, ◌++◌, refl, sym, ap, ◌∙◌, subst, rules, arith, append_assoc}
use Rattle.std.specs.Prelude.{nat_le, nat_lt}
use Rattle.smlc_base.specs.declared.place.Place.{Place}
use Rattle.sml_tree.specs.declared.tree_node.TreeNode.{TreeNode}
use Rattle.sml_tree.specs.declared.tree_node.TreeNode.TheVariants as node
use Rattle.sml_tree.specs.Parts.{parts_of}
use Rattle.sml_expansion.specs.declared.scope.Ident.{Ident}
use Rattle.sml_expansion.specs.Terms.{Term, leaf, one, two, three, four, node_of, place_at}
use Rattle.sml_expansion.specs.Sources.{Source, IsAt, node_at}
use Rattle.sml_expansion.specs.TypeVariables.{tyvars, unguarded}
use Rattle.sml_expansion.specs.Bindings.{is_typed_fn}
use Rattle.sml_expansion.proofs.Shapes.{node_is, as_one, as_two, as_three, as_four}
use Rattle.expand_types.specs.Forms.{opens_up}
use Rattle.expand_types.proofs.Steps.{Part, Pair, Triple, Quadruple, Flows, parts_in, as_many}
use Rattle.expand_types.proofs.FlowLemmas.{Puts}

module _ (names : List (List ℕ)) where
  alone_one : (n : TreeNode) (p : Place) (a : Term) → parts_of n ≡ 1 → n ≢ node.TyVarSeq → tyvars names (one n p a) ≡ tyvars names (leaf n p)
  alone_one node.TyVarSeq p a k e = absurd (e refl)
  alone_one (node.TyVar x) p a k e = cc
  alone_one _ p a k e = refl

  alone_two : (n : TreeNode) (p : Place) (a b : Term) → parts_of n ≡ 2 → n ≢ node.MoreTyVars → tyvars names (two n p a b) ≡ tyvars names (leaf n p)
  alone_two node.MoreTyVars p a b k e = absurd (e refl)
  alone_two (node.TyVar x) p a b k e = cc
  alone_two _ p a b k e = refl

  alone_three : (n : TreeNode) (p : Place) (a b c : Term) → parts_of n ≡ 3 → tyvars names (three n p a b c) ≡ tyvars names (leaf n p)
  alone_three (node.TyVar x) p a b c k = cc
  alone_three _ p a b c k = refl

  alone_four : (n : TreeNode) (p : Place) (a b c d : Term) → parts_of n ≡ 4 → tyvars names (four n p a b c d) ≡ tyvars names (leaf n p)
  alone_four (node.TyVar x) p a b c d k = cc
  alone_four _ p a b c d k = refl

  alone : (t : Term) → parts_of (node_of t) ≡ parts_in t → node_of t ≢ node.TyVarSeq → node_of t ≢ node.MoreTyVars → tyvars names t ≡ tyvars names (leaf (node_of t) (place_at t))
  alone (leaf n p) k e f = refl
  alone (one n p a) k e f = alone_one n p a k e
  alone (two n p a b) k e f = alone_two n p a b k f
  alone (three n p a b c) k e f = alone_three n p a b c k
  alone (four n p a b c d) k e f = alone_four n p a b c d k

pub in_tyvar : (src : Source) (i : ℕ) (old new : List Ident) (n : TreeNode) (p : Place) → n ≡ node_at src i → n ≢ node.TyVarSeq → node_at src i ≢ node.MoreTyVars → ((t : Term) → IsAt src i t → p ≡ place_at t) → new ≡ old ++ tyvars src.names (leaf n p) → Puts src (tyvars src.names) i old new
in_tyvar src i old new n p e no_seq no_list place h t w =
    let same : n ≡ node_of t = e ∙ node_is src i t w in
    let seq : node_of t ≢ node.TyVarSeq = subst (λ q. q ≢ node.TyVarSeq) same no_seq in
    let list : node_of t ≢ node.MoreTyVars = subst (λ q. q ≢ node.MoreTyVars) (node_is src i t w) no_list in
    h ∙ ap (λ q. old ++ q) (ap (λ q. tyvars src.names (leaf q p)) same ∙ ap (λ q. tyvars src.names (leaf (node_of t) q)) (place t w) ∙ sym (alone src.names t (as_many src i t w) seq list))

-- phrases
open_one : (n : TreeNode) (p : Place) (a : Term) → opens_up n ≡ true → unguarded (one n p a) ≡ unguarded a
open_one node.Type p a e = cc
open_one node.Datatype p a e = cc
open_one _ p a e = refl

open_two : (n : TreeNode) (p : Place) (a b : Term) → opens_up n ≡ true → unguarded (two n p a b) ≡ unguarded a ++ unguarded b
open_two node.Val p a b e = cc
open_two node.Fun p a b e = cc
open_two _ p a b e = refl

open_three : (n : TreeNode) (p : Place) (a b c : Term) → unguarded (three n p a b c) ≡ unguarded a ++ unguarded b ++ unguarded c
open_three node.Val p a b c = refl
open_three _ p a b c = refl

open_four : (n : TreeNode) (p : Place) (a b c d : Term) → unguarded (four n p a b c d) ≡ unguarded a ++ unguarded b ++ unguarded c ++ unguarded d
open_four node.Val p a b c d = refl
open_four _ p a b c d = refl

-- what a node with so many parts is, if its type variables are its own
abbrev Guards : ℕ → Bool → TreeNode → Type 0
Guards (suc zero) false n = (p : Place) (a : Term) → unguarded (one n p a) ≡ unguarded (leaf n p)
Guards (suc (suc zero)) false n = (p : Place) (a b : Term) → unguarded (two n p a b) ≡ unguarded (leaf n p)
Guards (suc (suc (suc zero))) false n = (p : Place) (a b c : Term) → unguarded (three n p a b c) ≡ unguarded (leaf n p)
Guards (suc (suc (suc (suc zero)))) false n = (p : Place) (a b c d : Term) → unguarded (four n p a b c d) ≡ unguarded (leaf n p)
Guards _ _ n = Unit {0}

guarded : (n : TreeNode) → Guards (parts_of n) (opens_up n) n
guarded node.Val = λ p a b. refl
guarded node.Fun = λ p a b. refl
guarded node.Type = λ p a. refl
guarded node.Datatype = λ p a. refl
guarded _ = tt

guards : (n : TreeNode) (k : ℕ) → parts_of n ≡ k → opens_up n ≡ false → Guards k false n
guards n k few shut = subst (λ k. Guards k false n) few (subst (λ o. Guards (parts_of n) o n) shut (guarded n))

closed : (t : Term) → parts_of (node_of t) ≡ parts_in t → opens_up (node_of t) ≡ false → unguarded t ≡ unguarded (leaf (node_of t) (place_at t))
closed (leaf n p) k e = refl
closed (one n p a) k e = guards n 1 k e p a
closed (two n p a b) k e = guards n 2 k e p a b
closed (three n p a b c) k e = guards n 3 k e p a b c
closed (four n p a b c d) k e = guards n 4 k e p a b c d

pub in_closed : (src : Source) (i : ℕ) (old new : List ℕ) (n : TreeNode) → n ≡ node_at src i → opens_up n ≡ false → ((p : Place) → new ≡ old ++ unguarded (leaf n p)) → Puts src unguarded i old new
in_closed src i old new n e shut h t w =
    let same : n ≡ node_of t = e ∙ node_is src i t w in
    h (place_at t) ∙ ap (λ q. old ++ q) (ap (λ q. unguarded (leaf q (place_at t))) same ∙ sym (closed t (as_many src i t w) (subst (λ q. opens_up q ≡ false) same shut)))

pub flows_further : (src : Source) (at rest last : ℕ) (old mid new : List ℕ) → Flows src unguarded at old rest mid → Flows src unguarded rest mid last new → Flows src unguarded at old last new
flows_further src at rest last old mid new f g t w =
    let u = f t w in
    let v = g u.0 u.1 in
    (v.0, v.1, v.2 ∙ u.2)

module _ (src : Source) (i : ℕ) (old new : List ℕ) (n : TreeNode) (e : n ≡ node_at src i) (up : opens_up n ≡ true) where
  pub last_of_one : (j : ℕ) → parts_of n ≡ 1 → Part src i j → new ≡ old → Flows src unguarded i old j new
  last_of_one j k part same t w = as_one src i t n w (sym e) k (λ t. (u : Term) × IsAt src j u × (new ++ unguarded u ≡ old ++ unguarded t))
      (λ p a u. (a, part n p a u, ap (λ q. q ++ unguarded a) same ∙ ap (λ q. old ++ q) (sym (open_one n p a up))))

  pub last_of_two : (j l : ℕ) → parts_of n ≡ 2 → Pair src i j l → Puts src unguarded j old new → Flows src unguarded i old l new
  last_of_two j l k parts h t w = as_two src i t n w (sym e) k (λ t. (u : Term) × IsAt src l u × (new ++ unguarded u ≡ old ++ unguarded t))
      (λ p a b u. let inside = parts n p a b u in (b, inside.1, ap (λ q. q ++ unguarded b) (h a inside.0) ∙ append_assoc old (unguarded a) (unguarded b) ∙ ap (λ q. old ++ q) (sym (open_two n p a b up))))

  pub last_of_three : (j l m : ℕ) (mid : List ℕ) → parts_of n ≡ 3 → Triple src i j l m → Puts src unguarded j old mid → Puts src unguarded l mid new → Flows src unguarded i old m new
  last_of_three j l m mid k parts h g t w = as_three src i t n w (sym e) k (λ t. (u : Term) × IsAt src m u × (new ++ unguarded u ≡ old ++ unguarded t))
      (λ p a b c u. let inside = parts n p a b c u in (c, inside.2, ap (λ q. q ++ unguarded c) (g b inside.1 ∙ ap (λ q. q ++ unguarded b) (h a inside.0)) ∙ ap (λ q. q ++ unguarded c) (append_assoc old (unguarded a) (unguarded b)) ∙ append_assoc old (unguarded a ++ unguarded b) (unguarded c) ∙ ap (λ q. old ++ q) (sym (open_three n p a b c))))

  pub last_of_four : (j l m o : ℕ) (mid next : List ℕ) → parts_of n ≡ 4 → Quadruple src i j l m o → Puts src unguarded j old mid → Puts src unguarded l mid next → Puts src unguarded m next new → Flows src unguarded i old o new
  last_of_four j l m o mid next k parts h g f t w = as_four src i t n w (sym e) k (λ t. (u : Term) × IsAt src o u × (new ++ unguarded u ≡ old ++ unguarded t))
      (λ p a b c d u. let inside = parts n p a b c d u in (d, inside.3, ap (λ q. q ++ unguarded d) (f c inside.2 ∙ ap (λ q. q ++ unguarded c) (g b inside.1 ∙ ap (λ q. q ++ unguarded b) (h a inside.0))) ∙ ap (λ q. q ++ unguarded d) (ap (λ q. q ++ unguarded c) (append_assoc old (unguarded a) (unguarded b)) ∙ append_assoc old (unguarded a ++ unguarded b) (unguarded c)) ∙ append_assoc old (unguarded a ++ unguarded b ++ unguarded c) (unguarded d) ∙ ap (λ q. old ++ q) (sym (open_four n p a b c d))))

-- a node has at most four parts
few_parts : (n : TreeNode) → nat_le (parts_of n) 4 ≡ true
few_parts node.Val = refl
few_parts _ = refl

some_parts : (n : TreeNode) → opens_up n ≡ true → nat_lt 0 (parts_of n) ≡ true
some_parts node.Val e = cc
some_parts node.Fun e = cc
some_parts node.Type e = cc
some_parts node.Datatype e = cc
some_parts _ e = e

pub four_left : (n : TreeNode) (k : ℕ) → k ≡ parts_of n → opens_up n ≡ true → k ≢ 1 → k ≢ 2 → k ≢ 3 → parts_of n ≡ 4
four_left n k e up n1 n2 n3 =
    let s : nat_lt 0 (parts_of n) ≡ true = some_parts n up in
    let f : nat_le (parts_of n) 4 ≡ true = few_parts n in
    let a : 0 < parts_of n = search rules in
    let b : parts_of n ≤ 4 = search rules in
    omega (arith, a, b, e, n1, n2, n3)

-- what is no `fn`
no_fn_one : (n : TreeNode) (p : Place) (a : Term) → n ≢ node.Fn → n ≢ node.Paren → is_typed_fn (one n p a) ≡ false
no_fn_one node.Fn p a e f = absurd (e refl)
no_fn_one node.Paren p a e f = absurd (f refl)
no_fn_one _ p a e f = refl

no_fn_two : (n : TreeNode) (p : Place) (a b : Term) → n ≢ node.Typed → is_typed_fn (two n p a b) ≡ false
no_fn_two node.Typed p a b e = absurd (e refl)
no_fn_two _ p a b e = refl

no_fn : (t : Term) → node_of t ≢ node.Fn → node_of t ≢ node.Paren → node_of t ≢ node.Typed → is_typed_fn t ≡ false
no_fn (leaf n p) e f g = refl
no_fn (one n p a) e f g = no_fn_one n p a e f
no_fn (two n p a b) e f g = no_fn_two n p a b g
no_fn (three n p a b c) e f g = refl
no_fn (four n p a b c d) e f g = refl

pub in_no_fn : (src : Source) (i : ℕ) (n : TreeNode) (t : Term) → IsAt src i t → n ≡ node_at src i → n ≢ node.Fn → n ≢ node.Paren → n ≢ node.Typed → is_typed_fn t ≡ false
in_no_fn src i n t w e n1 n2 n3 =
    let same : n ≡ node_of t = e ∙ node_is src i t w in
    no_fn t (subst (λ q. q ≢ node.Fn) same n1) (subst (λ q. q ≢ node.Paren) same n2) (subst (λ q. q ≢ node.Typed) same n3)
