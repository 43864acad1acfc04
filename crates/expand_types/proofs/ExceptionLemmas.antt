-- Exception bindings, one behind the other.
use Rattle.std.proofs.Common.{◌≡◌, ◌≢◌, ℕ, ◌+◌, Bool, Option, Some, None, List, [], ◌∷◌, ◌++◌, length, refl, sym, ap, ◌∙◌, subst, append_assoc, arith}
use Rattle.sml_tree.specs.declared.bare.Con.TheVariants as con
use Rattle.sml_expansion.specs.declared.meaning.Meaning.TheVariants.{Constructor}
use Rattle.std.proofs.lemmas.List.{append-nil, length-append}
use Rattle.smlc_base.specs.declared.place.Place.{Place}
use Rattle.sml_tree.specs.declared.tree_node.TreeNode.{TreeNode}
use Rattle.sml_tree.specs.declared.tree_node.TreeNode.TheVariants as node
use Rattle.sml_expansion.specs.declared.made.Made.{Made}
use Rattle.sml_expansion.specs.declared.mark.Mark.{Mark}
use Rattle.sml_expansion.specs.declared.meaning.Meaning.{Meaning}
use Rattle.sml_expansion.specs.declared.scope.Ident.{Ident}
use Rattle.sml_expansion.specs.Forests.{Forest, ◌&◌}
use Rattle.sml_expansion.specs.Forests as forest
use Rattle.sml_expansion.specs.Marks.{marks}
use Rattle.sml_expansion.specs.Makings.{Runs, breaks, new_name}
use Rattle.sml_expansion.specs.Terms.{Term, leaf, one, two, three, four, node_of}
use Rattle.sml_expansion.specs.Sources.{Source, IsAt, node_at}
use Rattle.sml_expansion.specs.Scopes.{Scope, ident, text_of, meaning_of}
use Rattle.sml_expansion.specs.Types.{type_of}
use Rattle.sml_expansion.specs.Bindings.{ExDecs, exceptions, exception_of, renaming_of, unbound}
use Rattle.sml_expansion.proofs.Shapes.{as_one, as_two, node_is}
use Rattle.sml_expansion.specs.declared.mark.Mark.TheVariants.{Open, Close}
use Rattle.expand_types.specs.Effects.{leads, SoFar, exceptions_behind}
use Rattle.expand_types.proofs.Steps.{behind, Part, Pair}
use Rattle.expand_types.proofs.SpineLemmas.{Does}

abbrev pub joined : ExDecs → ExDecs → ExDecs
joined x y = record { forest = x.forest & y.forest; shown = x.shown ++ y.shown; idents = x.idents ++ y.idents; values = y.values ++ x.values }

abbrev no_exceptions : ExDecs
no_exceptions = record { forest = forest.none; shown = []; idents = []; values = [] }

so_far : {t u : List Mark} {a b : List Bool} {c d : List Ident} {e f : List (ℕ × Meaning)} → t ≡ u → a ≡ b → c ≡ d → e ≡ f → (let r : SoFar = record { trees = t; shown = a; idents = c; values = e } in r) ≡ record { trees = u; shown = b; idents = d; values = f }
so_far g h k l = cc

count_beside : (f g : Forest) → forest.count (f & g) ≡ forest.count f + forest.count g
count_beside forest.none g = omega arith
count_beside (forest.tree n p parts rest) g = let e : forest.count (rest & g) ≡ forest.count rest + forest.count g = count_beside rest g in omega (arith, e)

leads_beside : (f g : Forest) → leads (f & g) ≡ leads f ++ leads g
leads_beside forest.none g = refl
leads_beside (forest.tree n p parts rest) g =
    ap (λ (l : List Mark). Open ∷ Open ∷ (marks parts ++ Close n p ∷ l)) (leads_beside rest g)
    ∙ ap (λ (l : List Mark). Open ∷ Open ∷ l) (sym (append_assoc (marks parts) (Close n p ∷ leads rest) (leads g)))

pub assoc : (s : SoFar) (x y : ExDecs) → exceptions_behind (exceptions_behind s x) y ≡ exceptions_behind s (joined x y)
assoc s x y = so_far (append_assoc s.trees (leads x.forest) (leads y.forest) ∙ ap (λ q. s.trees ++ q) (sym (leads_beside x.forest y.forest))) (append_assoc s.shown x.shown y.shown) (append_assoc s.idents x.idents y.idents) (sym (append_assoc y.values x.values s.values))

unit : (s : SoFar) → s ≡ exceptions_behind s no_exceptions
unit s = so_far (sym (append-nil s.trees)) (sym (append-nil s.shown)) (sym (append-nil s.idents)) refl

-- for each tree whether it is shown
renamed_shown : (p : Place) (i : Ident) (x : ℕ) (m : Option Meaning) → length (renaming_of p i x m).shown ≡ forest.count (renaming_of p i x m).forest
renamed_shown p i x (Some (Constructor (con.Exn y takes))) = refl
renamed_shown p i x (Some (Constructor (con.Library e))) = refl
renamed_shown p i x (Some (Constructor _)) = refl
renamed_shown p i x (Some _) = refl
renamed_shown p i x None = refl

shown_beside : (x y : ExDecs) → length x.shown ≡ forest.count x.forest → length y.shown ≡ forest.count y.forest → length (joined x y).shown ≡ forest.count (joined x y).forest
shown_beside x y h k = length-append x.shown y.shown ∙ ap (λ n. n + length y.shown) h ∙ ap (λ n. forest.count x.forest + n) k ∙ sym (count_beside x.forest y.forest)

pub shown_each : (s : Scope) (p : Place) (t : Term) (m : Made) → length (exceptions s p t m).0.shown ≡ forest.count (exceptions s p t m).0.forest
shown_each s p (one node.ExBind q v) m = refl
shown_each s p (two node.ExBindOf q v t) m = refl
shown_each s p (two node.ExBindIs q v w) m = renamed_shown p (ident s.names v) _ (meaning_of s (ident s.names w).key)
shown_each s p (two node.MoreExBinds q a b) m = shown_beside (exceptions s p a m).0 (exceptions s p b (exceptions s p a m).1).0 (shown_each s p a m) (shown_each s p b (exceptions s p a m).1)
shown_each s p (leaf n q) m = refl
shown_each s p (one _ q a) m = refl
shown_each s p (two _ q a b) m = refl
shown_each s p (three n q a b c) m = refl
shown_each s p (four n q a b c d) m = refl

module _ (src : Source) (s : Scope) (p : Place) where
  none_one : (n : TreeNode) (q : Place) (a : Term) (m : Made) → n ≢ node.ExBind → exceptions s p (one n q a) m ≡ (no_exceptions, m)
  none_one node.ExBind q a m e = absurd (e refl)
  none_one _ q a m e = refl

  none_two : (n : TreeNode) (q : Place) (a b : Term) (m : Made) → n ≢ node.MoreExBinds → n ≢ node.ExBindOf → n ≢ node.ExBindIs → exceptions s p (two n q a b) m ≡ (no_exceptions, m)
  none_two node.MoreExBinds q a b m e f g = absurd (e refl)
  none_two node.ExBindOf q a b m e f g = absurd (f refl)
  none_two node.ExBindIs q a b m e f g = absurd (g refl)
  none_two _ q a b m e f g = refl

  none : (t : Term) (m : Made) → node_of t ≢ node.MoreExBinds → node_of t ≢ node.ExBind → node_of t ≢ node.ExBindOf → node_of t ≢ node.ExBindIs → exceptions s p t m ≡ (no_exceptions, m)
  none (leaf n q) m e f g h = refl
  none (one n q a) m e f g h = none_one n q a m f
  none (two n q a b) m e f g h = none_two n q a b m e g h
  none (three n q a b c) m e f g h = refl
  none (four n q a b c d) m e f g h = refl

  pub does_none : (i : ℕ) (m : Made) (b : SoFar) → node_at src i ≢ node.MoreExBinds → node_at src i ≢ node.ExBind → node_at src i ≢ node.ExBindOf → node_at src i ≢ node.ExBindIs → Does src (λ k. exceptions s p) exceptions_behind 0 i m b m b
  does_none i m b e f g h t w =
      let is : node_at src i ≡ node_of t = node_is src i t w in
      (no_exceptions, none t m (subst (λ q. q ≢ node.MoreExBinds) is e) (subst (λ q. q ≢ node.ExBind) is f) (subst (λ q. q ≢ node.ExBindOf) is g) (subst (λ q. q ≢ node.ExBindIs) is h), unit b)

  pub does_new : (i j : ℕ) (m n o : Made) (before after : SoFar) (id : Ident) (text : List ℕ) (x : ℕ) → node.ExBind ≡ node_at src i → Part src i j → ((t : Term) → IsAt src j t → id ≡ ident s.names t) → text ≡ text_of s.names id.key
      → Runs (new_name text) m x n → o ≡ n → after ≡ exceptions_behind before (exception_of p id x None) → Does src (λ k. exceptions s p) exceptions_behind 0 i m before o after
  does_new i j m n o before after id text x e part is_id is_text run last is t w = as_one src i t node.ExBind w (sym e) refl (λ t. (y : ExDecs) × Runs (exceptions s p t) m y o × (after ≡ exceptions_behind before y)) (λ q a at.
      let same : id ≡ ident s.names a = is_id a (part node.ExBind q a at) in
      let spelled : text ≡ text_of s.names (ident s.names a).key = is_text ∙ ap (λ (d : Ident). text_of s.names d.key) same in (
        exception_of p (ident s.names a) x None,
        ap (λ r. (exception_of p (ident s.names a) r.0 None, r.1)) (subst (λ d. Runs (new_name d) m x n) spelled run) ∙ ap (λ d. (exception_of p (ident s.names a) x None, d)) (sym last),
        is ∙ ap (λ d. exceptions_behind before (exception_of p d x None)) same,
      ))

  pub does_of : (i j l : ℕ) (m n o r : Made) (before after : SoFar) (id : Ident) (text : List ℕ) (x ty : ℕ) → node.ExBindOf ≡ node_at src i → Pair src i j l → ((t : Term) → IsAt src j t → id ≡ ident s.names t) → text ≡ text_of s.names id.key
      → Runs (new_name text) m x n → ((t : Term) → IsAt src l t → Runs (type_of s t) n ty o) → r ≡ o → after ≡ exceptions_behind before (exception_of p id x (Some ty)) → Does src (λ k. exceptions s p) exceptions_behind 0 i m before r after
  does_of i j l m n o r before after id text x ty e parts is_id is_text run is_ty last is t w = as_two src i t node.ExBindOf w (sym e) refl (λ t. (y : ExDecs) × Runs (exceptions s p t) m y r × (after ≡ exceptions_behind before y)) (λ q a b at.
      let inside = parts node.ExBindOf q a b at in
      let same : id ≡ ident s.names a = is_id a inside.0 in
      let spelled : text ≡ text_of s.names (ident s.names a).key = is_text ∙ ap (λ (d : Ident). text_of s.names d.key) same in (
        exception_of p (ident s.names a) x (Some ty),
        behind (new_name (text_of s.names (ident s.names a).key)) (λ d h. (exception_of p (ident s.names a) d (Some (type_of s b h).0), (type_of s b h).1)) m n r x (exception_of p (ident s.names a) x (Some ty)) (subst (λ d. Runs (new_name d) m x n) spelled run)
            (ap (λ h. (exception_of p (ident s.names a) x (Some h.0), h.1)) (is_ty b inside.1) ∙ ap (λ d. (exception_of p (ident s.names a) x (Some ty), d)) (sym last)),
        is ∙ ap (λ d. exceptions_behind before (exception_of p d x (Some ty))) same,
      ))

  pub does_is : (i j l : ℕ) (m n o r : Made) (before after : SoFar) (id old : Ident) (text : List ℕ) (x : ℕ) (meaning : Option Meaning) → node.ExBindIs ≡ node_at src i → Pair src i j l → ((t : Term) → IsAt src j t → id ≡ ident s.names t) → ((t : Term) → IsAt src l t → old ≡ ident s.names t)
      → text ≡ text_of s.names id.key → Runs (new_name text) m x n → meaning ≡ meaning_of s old.key → Runs (breaks (unbound (meaning_of s old.key) old)) n tt o → r ≡ o → after ≡ exceptions_behind before (renaming_of p id x meaning) → Does src (λ k. exceptions s p) exceptions_behind 0 i m before r after
  does_is i j l m n o r before after id old text x meaning e parts is_id is_old is_text run is_meaning broken last is t w = as_two src i t node.ExBindIs w (sym e) refl (λ t. (y : ExDecs) × Runs (exceptions s p t) m y r × (after ≡ exceptions_behind before y)) (λ q a b at.
      let inside = parts node.ExBindIs q a b at in
      let same : id ≡ ident s.names a = is_id a inside.0 in
      let other : old ≡ ident s.names b = is_old b inside.1 in
      let spelled : text ≡ text_of s.names (ident s.names a).key = is_text ∙ ap (λ (d : Ident). text_of s.names d.key) same in
      let means : meaning ≡ meaning_of s (ident s.names b).key = is_meaning ∙ ap (λ (d : Ident). meaning_of s d.key) other in
      let y : ExDecs = renaming_of p (ident s.names a) x (meaning_of s (ident s.names b).key) in (
        y,
        behind (new_name (text_of s.names (ident s.names a).key)) (λ d h. (renaming_of p (ident s.names a) d (meaning_of s (ident s.names b).key), (breaks (unbound (meaning_of s (ident s.names b).key) (ident s.names b)) h).1)) m n r x y (subst (λ d. Runs (new_name d) m x n) spelled run)
            (ap (λ h. (y, h.1)) (subst (λ (d : Ident). Runs (breaks (unbound (meaning_of s d.key) d)) n tt o) other broken) ∙ ap (λ d. (y, d)) (sym last)),
        is ∙ ap (λ d. exceptions_behind before (renaming_of p d x meaning)) same ∙ ap (λ d. exceptions_behind before (renaming_of p (ident s.names a) x d)) means,
      ))
