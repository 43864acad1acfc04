-- Bindings of a `type` declaration, one behind the other.
use Rattle.std.proofs.Common.{◌≡◌, ◌≢◌, ℕ, List, [], ◌++◌, refl, sym, ap, ◌∙◌, subst, append_assoc}
use Rattle.std.proofs.lemmas.List.{append-nil}
use Rattle.smlc_base.specs.declared.place.Place.{Place}
use Rattle.sml_tree.specs.declared.bare.TypeBinding.{TypeBinding}
use Rattle.sml_tree.specs.declared.tree_node.TreeNode.{TreeNode}
use Rattle.sml_tree.specs.declared.tree_node.TreeNode.TheVariants as node
use Rattle.sml_expansion.specs.declared.made.Made.{Made}
use Rattle.sml_expansion.specs.Makings.{Runs, new_abbreviation}
use Rattle.sml_expansion.specs.Terms.{Term, leaf, one, two, three, four, node_of}
use Rattle.sml_expansion.specs.Sources.{Source, IsAt, node_at}
use Rattle.sml_expansion.specs.declared.scope.Ident.{Ident}
use Rattle.sml_expansion.specs.Scopes.{Scope, ident}
use Rattle.sml_expansion.specs.Types.{type_of}
use Rattle.sml_expansion.specs.TypeVariables.{tyvars, params, only_params, numbers_of}
use Rattle.sml_expansion.specs.Bindings.{TypeDecs, type_bindings}
use Rattle.sml_expansion.proofs.Shapes.{as_three, node_is}
use Rattle.expand_types.specs.Effects.{types_behind, one_type_binding}
use Rattle.expand_types.proofs.Steps.{behind, Triple}
use Rattle.expand_types.proofs.SpineLemmas.{Does}

pub assoc : (x y z : TypeDecs) → types_behind (types_behind x y) z ≡ types_behind x (types_behind y z)
assoc x y z =
    let a = append_assoc x.bindings y.bindings z.bindings in
    let b = append_assoc x.idents y.idents z.idents in
    let c = append_assoc z.types y.types x.types in
    cc

unit : (b : TypeDecs) → b ≡ types_behind b (record { bindings = []; idents = []; types = [] })
unit b =
    let f : List TypeBinding → TypeDecs = λ q. record { bindings = q; idents = b.idents; types = b.types } in
    let g : List Ident → TypeDecs = λ q. record { bindings = b.bindings ++ []; idents = q; types = b.types } in
    ap f (sym (append-nil b.bindings)) ∙ ap g (sym (append-nil b.idents))

none_two : (s : Scope) (n : TreeNode) (p : Place) (a b : Term) (m : Made) → n ≢ node.MoreTypBinds → type_bindings s (two n p a b) m ≡ (record { bindings = []; idents = []; types = [] }, m)
none_two s node.MoreTypBinds p a b m e = absurd (e refl)
none_two s _ p a b m e = refl

none_three : (s : Scope) (n : TreeNode) (p : Place) (a b c : Term) (m : Made) → n ≢ node.TypBind → type_bindings s (three n p a b c) m ≡ (record { bindings = []; idents = []; types = [] }, m)
none_three s node.TypBind p a b c m e = absurd (e refl)
none_three s _ p a b c m e = refl

none : (s : Scope) (t : Term) (m : Made) → node_of t ≢ node.MoreTypBinds → node_of t ≢ node.TypBind → type_bindings s t m ≡ (record { bindings = []; idents = []; types = [] }, m)
none s (leaf n p) m e f = refl
none s (one n p a) m e f = refl
none s (two n p a b) m e f = none_two s n p a b m e
none s (three n p a b c) m e f = none_three s n p a b c m f
none s (four n p a b c d) m e f = refl

module _ (src : Source) (s : Scope) where
  pub does_none : (i : ℕ) (m : Made) (b : TypeDecs) → node_at src i ≢ node.MoreTypBinds → node_at src i ≢ node.TypBind → Does src (λ k. type_bindings s) types_behind 0 i m b m b
  does_none i m b e f t w =
      let is : node_at src i ≡ node_of t = node_is src i t w in (
        record { bindings = []; idents = []; types = [] },
        none s t m (subst (λ q. q ≢ node.MoreTypBinds) is e) (subst (λ q. q ≢ node.TypBind) is f),
        unit b,
      )

  pub does_one : (i ja jb jc : ℕ) (k l m n : Made) (before after : TypeDecs) (id : Ident) (named : List Ident) (vars : List (ℕ × ℕ)) (ty number : ℕ) (numbers : List ℕ) → node.TypBind ≡ node_at src i → Triple src i ja jb jc
      → ((t : Term) → IsAt src jb t → id ≡ ident s.names t) → ((t : Term) → IsAt src ja t → named ≡ tyvars s.names t) → Runs (params s.names named) k vars l
      → ((t : Term) → IsAt src jc t → Runs (type_of (only_params s vars) t) l ty m) → Runs new_abbreviation m number n → numbers ≡ numbers_of vars
      → after ≡ types_behind before (one_type_binding id (record { number = number; params = numbers; ty = ty })) → Does src (λ k. type_bindings s) types_behind 0 i k before n after
  does_one i ja jb jc k l m n before after id named vars ty number numbers e parts is_id is_named ps is_ty ks is_numbers is t w = as_three src i t node.TypBind w (sym e) refl (λ t. (x : TypeDecs) × Runs (type_bindings s t) k x n × (after ≡ types_behind before x)) (λ p a b c at.
      let inside = parts node.TypBind p a b c at in
      let x : TypeDecs = one_type_binding (ident s.names b) (record { number = number; params = numbers_of vars; ty = ty }) in
      let runs : Runs (type_bindings s (three node.TypBind p a b c)) k x n =
      behind (params s.names (tyvars s.names a)) (λ vs h. let r = type_of (only_params s vs) c h in let o = new_abbreviation r.1 in (one_type_binding (ident s.names b) (record { number = o.0; params = numbers_of vs; ty = r.0 }), o.1)) k l n vars x
      (subst (λ q. Runs (params s.names q) k vars l) (is_named a inside.0) ps)
      (behind (type_of (only_params s vars) c) (λ q h. let o = new_abbreviation h in (one_type_binding (ident s.names b) (record { number = o.0; params = numbers_of vars; ty = q }), o.1)) l m n ty x (is_ty c inside.2)
      (ap (λ o. (one_type_binding (ident s.names b) (record { number = o.0; params = numbers_of vars; ty = ty }), o.1)) ks)) in
      (x, runs, is ∙ ap (λ q. types_behind before (one_type_binding q (record { number = number; params = numbers; ty = ty }))) (is_id b inside.1) ∙ ap (λ q. types_behind before (one_type_binding (ident s.names b) (record { number = number; params = q; ty = ty }))) is_numbers))
