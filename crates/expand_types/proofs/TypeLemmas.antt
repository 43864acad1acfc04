-- What a walk over a type does at each node is what its definition says.
use Rattle.std.proofs.Common.{◌≡◌, ◌≢◌, ℕ, Bool, true, false, List, [], ◌++◌, refl, sym, ap, ◌∙◌, subst, append_assoc}
use Rattle.smlc_base.specs.declared.place.Place.{Place}
use Rattle.sml_tree.specs.declared.tree_node.TreeNode.{TreeNode}
use Rattle.sml_tree.specs.declared.tree_node.TreeNode.TheVariants as node
use Rattle.sml_tree.specs.Parts.{parts_of}
use Rattle.sml_expansion.specs.declared.made.Made.{Made}
use Rattle.sml_expansion.specs.declared.scope.Ident.{Ident}
use Rattle.sml_expansion.specs.Makings.{Makes, Runs}
use Rattle.sml_expansion.specs.Terms.{Term, leaf, one, two, three, four, node_of, place_at}
use Rattle.sml_expansion.specs.Sources.{Source, IsAt, node_at}
use Rattle.sml_expansion.specs.Scopes.{Scope, ident}
use Rattle.sml_expansion.specs.Types.{types, alone, both_lists, made_of, record_type, constructor_at}
use Rattle.sml_expansion.proofs.Shapes.{as_one, as_two, as_three, node_is}
use Rattle.expand_types.specs.Forms.{is_type_list}
use Rattle.expand_types.proofs.Steps.{behind, both, Goes, Part, Pair, Triple, parts_in, as_many}

module _ (src : Source) (s : Scope) where
  -- the types at a node
  abbrev pub Gives : ℕ → Made → List ℕ → Made → Type 0
  Gives i m x n = (t : Term) → IsAt src i t → Runs (types s t) m x n

  pub in_paren : (i j : ℕ) (m n : Made) (x : List ℕ) → node.ParenTy ≡ node_at src i → Part src i j → Gives j m x n → Gives i m x n
  in_paren i j m n x e part h t at = as_one src i t node.ParenTy at (sym e) refl (λ t. Runs (types s t) m x n) (λ p a w. h a (part node.ParenTy p a w))

  pub in_row : (i j k : ℕ) (m n : Made) (x : List ℕ) → node.TyRow ≡ node_at src i → Pair src i j k → Gives k m x n → Gives i m x n
  in_row i j k m n x e parts h t at = as_two src i t node.TyRow at (sym e) refl (λ t. Runs (types s t) m x n) (λ p a b w. h b (parts node.TyRow p a b w).1)

  pub in_record : (i j : ℕ) (m k n : Made) (x y z : List ℕ) → node.RecordTy ≡ node_at src i → Part src i j → Gives j m x k → y ≡ x
      → ((t : Term) → IsAt src j t → Runs (alone (record_type s.names t y)) k z n) → Gives i m z n
  in_record i j m k n x y z e part h same g t at = as_one src i t node.RecordTy at (sym e) refl (λ t. Runs (types s t) m z n) (λ p a w.
      let inside : IsAt src j a = part node.RecordTy p a w in
      behind (types s a) (λ r. alone (record_type s.names a r)) m k n x z (h a inside) (subst (λ u. Runs (alone (record_type s.names a u)) k z n) same (g a inside)))

  pub in_pair : (o : TreeNode) (f : List ℕ → Makes ℕ) → ((p : Place) (a b : Term) → types s (two o p a b) ≡ made_of (both_lists (types s a) (types s b)) f) → parts_of o ≡ 2
      → (i ja jb : ℕ) (m k l n : Made) (x y v w z : List ℕ) → o ≡ node_at src i → Pair src i ja jb → Gives ja m x k → Gives jb k y l → v ≡ x ++ w → w ≡ y
      → Runs (alone (f v)) l z n → Gives i m z n
  in_pair o f is two_parts i ja jb m k l n x y v w z e parts h g same ws r t at = as_two src i t o at (sym e) two_parts (λ t. Runs (types s t) m z n) (λ p a b u.
      let inside = parts o p a b u in
      let joined : v ≡ x ++ y = same ∙ ap (λ q. x ++ q) ws in
      let all = both (types s a) (types s b) m k l x y (h a inside.0) (g b inside.1) in
      ap (λ q. q m) (is p a b) ∙ behind (both_lists (types s a) (types s b)) (λ q. alone (f q)) m l n (x ++ y) z all (subst (λ q. Runs (alone (f q)) l z n) joined r))

  pub in_con : (i ja jc : ℕ) (m k n : Made) (x z : List ℕ) (id : Ident) → node.ConTy ≡ node_at src i → Pair src i ja jc → Gives ja m x k → ((t : Term) → IsAt src jc t → id ≡ ident s.names t)
      → Runs (alone (constructor_at s id x)) k z n → Gives i m z n
  in_con i ja jc m k n x z id e parts h d r t at = as_two src i t node.ConTy at (sym e) refl (λ t. Runs (types s t) m z n) (λ p a c u.
      let inside = parts node.ConTy p a c u in
      behind (types s a) (λ q. alone (constructor_at s (ident s.names c) q)) m k n x z (h a inside.0) (subst (λ q. Runs (alone (constructor_at s q x)) k z n) (d c inside.1) r))

  pub in_seq : (i ja jb jc : ℕ) (m k l n : Made) (x y v w z : List ℕ) (id : Ident) → node.SeqConTy ≡ node_at src i → Triple src i ja jb jc → Gives ja m x k → Gives jb k y l → v ≡ x ++ w → w ≡ y
      → ((t : Term) → IsAt src jc t → id ≡ ident s.names t) → Runs (alone (constructor_at s id v)) l z n → Gives i m z n
  in_seq i ja jb jc m k l n x y v w z id e parts h g same ws d r t at = as_three src i t node.SeqConTy at (sym e) refl (λ t. Runs (types s t) m z n) (λ p a b c u.
      let inside = parts node.SeqConTy p a b c u in
      let joined : v ≡ x ++ y = same ∙ ap (λ q. x ++ q) ws in
      let all = both (types s a) (types s b) m k l x y (h a inside.0) (g b inside.1) in
      let args : Runs (alone (constructor_at s id (x ++ y))) l z n = subst (λ q. Runs (alone (constructor_at s id q)) l z n) joined r in
      behind (both_lists (types s a) (types s b)) (λ q. alone (constructor_at s (ident s.names c) q)) m l n (x ++ y) z all (subst (λ q. Runs (alone (constructor_at s q (x ++ y))) l z n) (d c inside.2) args))

  -- lists
  abbrev Lists : Bool → TreeNode → Type 0
  Lists true n = (p : Place) (a b : Term) → types s (two n p a b) ≡ both_lists (types s a) (types s b)
  Lists false n = Unit {0}

  lists : (n : TreeNode) → Lists (is_type_list n) n
  lists node.MoreTyRows = λ p a b. refl
  lists node.MoreFactors = λ p a b. refl
  lists node.MoreTys = λ p a b. refl
  lists _ = tt

  listed : (n : TreeNode) (p : Place) (a b : Term) → is_type_list n ≡ true → types s (two n p a b) ≡ both_lists (types s a) (types s b)
  listed n p a b e = subst (λ o. Lists o n) e (lists n) p a b

  pub list_parts : (n : TreeNode) → is_type_list n ≡ true → parts_of n ≡ 2
  list_parts node.MoreTyRows e = refl
  list_parts node.MoreFactors e = refl
  list_parts node.MoreTys e = refl
  list_parts _ e = cc

  pub goes_on : (i r j l : ℕ) (k m n : Made) (done x y done' : List ℕ) (o : TreeNode) → Goes src (types s) i k done r m → is_type_list o ≡ true → o ≡ node_at src r → Pair src r j l
      → Gives j m x n → done' ≡ done ++ y → y ≡ x → Goes src (types s) i k done' l n
  goes_on i r j l k m n done x y done' o g list e parts h same ys t at =
      let before = g t at in
      as_two src r before.0 o before.1 (sym e) (list_parts o list) (λ u. ((z : List ℕ) (q : Made) → Runs (types s u) m z q → Runs (types s t) k (done ++ z) q) → (v : Term) × IsAt src l v × ((z : List ℕ) (q : Made) → Runs (types s v) n z q → Runs (types s t) k (done' ++ z) q))
      (λ p a b w. λ run.
      let inside = parts o p a b w in (
        b,
        inside.1,
        λ z q more.
            let all : Runs (types s (two o p a b)) m (x ++ z) q = ap (λ f. f m) (listed o p a b list) ∙ both (types s a) (types s b) m n q x z (h a inside.0) more in
            let is : done' ≡ done ++ x = same ∙ ap (λ u. done ++ u) ys in
            subst (λ u. Runs (types s t) k u q) (sym (append_assoc done x z) ∙ ap (λ u. u ++ z) (sym is)) (run (x ++ z) q all),
      ))
      before.2

  pub starts : (i : ℕ) (k : Made) (none : List ℕ) → none ≡ [] → Goes src (types s) i k none i k
  starts i k none e t at = (t, at, λ x n r. subst (λ u. Runs (types s t) k (u ++ x) n) (sym e) r)

  pub ends : (i r : ℕ) (k m n : Made) (done x y all : List ℕ) → Goes src (types s) i k done r m → Gives r m x n → all ≡ done ++ y → y ≡ x → Gives i k all n
  ends i r k m n done x y all g h same ys t at =
      let before = g t at in
      subst (λ u. Runs (types s t) k u n) (sym (same ∙ ap (λ u. done ++ u) ys)) (before.2 x n (h before.0 before.1))

  -- what is no list and has no types inside
  apart_one : (n : TreeNode) (p : Place) (a : Term) → parts_of n ≡ 1 → n ≢ node.ParenTy → n ≢ node.RecordTy → types s (one n p a) ≡ types s (leaf n p)
  apart_one node.ParenTy p a k e f = absurd (e refl)
  apart_one node.RecordTy p a k e f = absurd (f refl)
  apart_one (node.TyVar x) p a k e f = cc
  apart_one (node.TyCon x) p a k e f = cc
  apart_one (node.LongTyCon x) p a k e f = cc
  apart_one node.EmptyRecordTy p a k e f = cc
  apart_one _ p a k e f = refl

  apart_two : (n : TreeNode) (p : Place) (a b : Term) → parts_of n ≡ 2 → is_type_list n ≡ false → n ≢ node.TyRow → n ≢ node.ArrowTy → n ≢ node.ProductTy → n ≢ node.ConTy → types s (two n p a b) ≡ types s (leaf n p)
  apart_two node.MoreTyRows p a b k l e f g h = cc
  apart_two node.MoreFactors p a b k l e f g h = cc
  apart_two node.MoreTys p a b k l e f g h = cc
  apart_two node.TyRow p a b k l e f g h = absurd (e refl)
  apart_two node.ArrowTy p a b k l e f g h = absurd (f refl)
  apart_two node.ProductTy p a b k l e f g h = absurd (g refl)
  apart_two node.ConTy p a b k l e f g h = absurd (h refl)
  apart_two (node.TyVar x) p a b k l e f g h = cc
  apart_two (node.TyCon x) p a b k l e f g h = cc
  apart_two (node.LongTyCon x) p a b k l e f g h = cc
  apart_two node.EmptyRecordTy p a b k l e f g h = cc
  apart_two _ p a b k l e f g h = refl

  apart_three : (n : TreeNode) (p : Place) (a b c : Term) → parts_of n ≡ 3 → n ≢ node.SeqConTy → types s (three n p a b c) ≡ types s (leaf n p)
  apart_three node.SeqConTy p a b c k e = absurd (e refl)
  apart_three (node.TyVar x) p a b c k e = cc
  apart_three (node.TyCon x) p a b c k e = cc
  apart_three (node.LongTyCon x) p a b c k e = cc
  apart_three node.EmptyRecordTy p a b c k e = cc
  apart_three _ p a b c k e = refl

  apart_four : (n : TreeNode) (p : Place) (a b c d : Term) → parts_of n ≡ 4 → types s (four n p a b c d) ≡ types s (leaf n p)
  apart_four (node.TyVar x) p a b c d k = cc
  apart_four (node.TyCon x) p a b c d k = cc
  apart_four (node.LongTyCon x) p a b c d k = cc
  apart_four node.EmptyRecordTy p a b c d k = cc
  apart_four _ p a b c d k = refl

  apart : (t : Term) → parts_of (node_of t) ≡ parts_in t → is_type_list (node_of t) ≡ false → node_of t ≢ node.ParenTy → node_of t ≢ node.RecordTy → node_of t ≢ node.TyRow → node_of t ≢ node.ArrowTy → node_of t ≢ node.ProductTy → node_of t ≢ node.ConTy → node_of t ≢ node.SeqConTy
      → types s t ≡ types s (leaf (node_of t) (place_at t))
  apart (leaf n p) k l n1 n2 n3 n4 n5 n6 n7 = refl
  apart (one n p a) k l n1 n2 n3 n4 n5 n6 n7 = apart_one n p a k n1 n2
  apart (two n p a b) k l n1 n2 n3 n4 n5 n6 n7 = apart_two n p a b k l n3 n4 n5 n6
  apart (three n p a b c) k l n1 n2 n3 n4 n5 n6 n7 = apart_three n p a b c k n7
  apart (four n p a b c d) k l n1 n2 n3 n4 n5 n6 n7 = apart_four n p a b c d k

  pub in_leaf : (i : ℕ) (m n : Made) (x : List ℕ) (o : TreeNode) (p : Place) → o ≡ node_at src i → ((t : Term) → IsAt src i t → p ≡ place_at t) → is_type_list (node_at src i) ≡ false
      → o ≢ node.ParenTy → o ≢ node.RecordTy → o ≢ node.TyRow → o ≢ node.ArrowTy → o ≢ node.ProductTy → o ≢ node.ConTy → o ≢ node.SeqConTy → Runs (types s (leaf o p)) m x n → Gives i m x n
  in_leaf i m n x o p e place l n1 n2 n3 n4 n5 n6 n7 r t at =
      let same : o ≡ node_of t = e ∙ node_is src i t at in
      let is = apart t (as_many src i t at) (subst (λ u. is_type_list u ≡ false) (node_is src i t at) l)
      (subst (λ u. u ≢ node.ParenTy) same n1) (subst (λ u. u ≢ node.RecordTy) same n2) (subst (λ u. u ≢ node.TyRow) same n3) (subst (λ u. u ≢ node.ArrowTy) same n4) (subst (λ u. u ≢ node.ProductTy) same n5) (subst (λ u. u ≢ node.ConTy) same n6) (subst (λ u. u ≢ node.SeqConTy) same n7) in
      ap (λ f. f m) is ∙ ap (λ u. types s (leaf u (place_at t)) m) (sym same) ∙ ap (λ u. types s (leaf o u) m) (sym (place t at)) ∙ r
