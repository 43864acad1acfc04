-- Bindings of a `datatype` declaration, one behind the other.
use Rattle.std.proofs.Common.{◌≡◌, ◌≢◌, ℕ, List, [], ◌∷◌, ◌++◌, Some, None, map, reverse, refl, sym, ap, ◌∙◌, subst, append_assoc}
use Rattle.std.proofs.lemmas.List.{append-nil, reverse-append}
use Rattle.smlc_base.specs.declared.place.Place.{Place}
use Rattle.sml_tree.specs.declared.bare.ConBinding.{ConBinding}
use Rattle.sml_tree.specs.declared.bare.DatBinding.{DatBinding}
use Rattle.sml_tree.specs.declared.tree_node.TreeNode.{TreeNode}
use Rattle.sml_tree.specs.declared.tree_node.TreeNode.TheVariants as node
use Rattle.sml_expansion.specs.declared.made.Made.{Made}
use Rattle.sml_expansion.specs.declared.meaning.Meaning.{Meaning}
use Rattle.sml_expansion.specs.declared.scope.Ident.{Ident}
use Rattle.sml_expansion.specs.Makings.{Runs, new_type_name}
use Rattle.sml_expansion.specs.Terms.{Term, leaf, one, two, three, four, node_of}
use Rattle.sml_expansion.specs.Sources.{Source, IsAt, node_at}
use Rattle.sml_expansion.specs.Scopes.{Scope, ident, text_of}
use Rattle.sml_expansion.specs.Types.{type_of}
use Rattle.sml_expansion.specs.TypeVariables.{tyvars, params, only_params, numbers_of}
use Rattle.sml_expansion.specs.Bindings.{NewCon, DatDecs, new_datatypes, constructors, con_meanings, datatype_of, datatypes}
use Rattle.sml_expansion.proofs.Shapes.{as_one, as_two, as_three, node_is}
use Rattle.expand_types.specs.declared.datatypes.NewConstructor.{NewConstructor}
use Rattle.expand_types.specs.Effects.{new_cons, datatypes_behind}
use Rattle.expand_types.proofs.Steps.{behind, Part, Pair, Triple}
use Rattle.expand_types.proofs.SpineLemmas.{Does}

-- the parts of what is pushed
idents_same : (cons : List NewConstructor) → map (λ (c : NewConstructor). c.ident) cons ≡ map (λ (c : NewCon). c.ident) (new_cons cons)
idents_same [] = refl
idents_same (c ∷ cons) = ap (λ q. c.ident ∷ q) (idents_same cons)

bindings_same : (names : List (List ℕ)) (cons : List NewConstructor) → map (λ (c : NewConstructor). let b : ConBinding = record { text = text_of names c.ident.key; arg = c.arg } in b) cons ≡ map (λ (c : NewCon). let b : ConBinding = record { text = text_of names c.ident.key; arg = c.arg } in b) (new_cons cons)
bindings_same names [] = refl
bindings_same names (c ∷ cons) = ap (λ q. (let b : ConBinding = record { text = text_of names c.ident.key; arg = c.arg } in b) ∷ q) (bindings_same names cons)

three_same : {a b : List DatBinding} {c d : List Ident} {e f : List (ℕ × Meaning)} → a ≡ b → c ≡ d → e ≡ f → (let r : DatDecs = record { bindings = a; idents = c; values = e } in r) ≡ record { bindings = b; idents = d; values = f }
three_same g h k = cc

pub pushed : (names : List (List ℕ)) (k : ℕ) (i : Ident) (vars : List (ℕ × ℕ)) (cons : List NewConstructor) (old new : List DatBinding) (idents idents' : List Ident) (values values' : List (ℕ × Meaning)) (text : List ℕ) (numbers : List ℕ) (bound : List ConBinding)
    → text ≡ text_of names i.key → numbers ≡ numbers_of vars → bound ≡ map (λ (c : NewConstructor). let b : ConBinding = record { text = text_of names c.ident.key; arg = c.arg } in b) cons
    → new ≡ old ++ record { type_name = k; text = text; params = numbers; cons = bound } ∷ [] → idents' ≡ idents ++ map (λ (c : NewConstructor). c.ident) cons → values' ≡ values ++ con_meanings k 0 (new_cons cons)
    → (let r : DatDecs = record { bindings = new; idents = idents'; values = reverse values' } in r) ≡ datatypes_behind (record { bindings = old; idents = idents; values = reverse values }) (datatype_of names k i vars (new_cons cons))
pushed names k i vars cons old new idents idents' values values' text numbers bound et en eb e1 e2 e3 =
    let b : bound ≡ map (λ (c : NewCon). let b : ConBinding = record { text = text_of names c.ident.key; arg = c.arg } in b) (new_cons cons) = eb ∙ bindings_same names cons in
    let d : (let r : DatBinding = record { type_name = k; text = text; params = numbers; cons = bound } in r) ≡ record { type_name = k; text = text_of names i.key; params = numbers_of vars; cons = map (λ (c : NewCon). let b : ConBinding = record { text = text_of names c.ident.key; arg = c.arg } in b) (new_cons cons) } = cc in
    three_same (e1 ∙ ap (λ (q : DatBinding). old ++ q ∷ []) d) (e2 ∙ ap (λ q. idents ++ q) (idents_same cons)) (ap reverse e3 ∙ reverse-append values (con_meanings k 0 (new_cons cons)))

pub assoc : (x y z : DatDecs) → datatypes_behind (datatypes_behind x y) z ≡ datatypes_behind x (datatypes_behind y z)
assoc x y z = three_same (append_assoc x.bindings y.bindings z.bindings) (append_assoc x.idents y.idents z.idents) (sym (append_assoc z.values y.values x.values))

abbrev no_datatypes : DatDecs
no_datatypes = record { bindings = []; idents = []; values = [] }

unit : (b : DatDecs) → b ≡ datatypes_behind b no_datatypes
unit b = three_same (sym (append-nil b.bindings)) (sym (append-nil b.idents)) refl

abbrev pub behind_them : {A : Type 0} → List A → List A → List A
behind_them x y = x ++ y

-- what is no binding
name_two : (names : List (List ℕ)) (n : TreeNode) (p : Place) (a b : Term) (m : Made) → n ≢ node.MoreDatBinds → new_datatypes names (two n p a b) m ≡ ([], m)
name_two names node.MoreDatBinds p a b m e = absurd (e refl)
name_two names _ p a b m e = refl

name_three : (names : List (List ℕ)) (n : TreeNode) (p : Place) (a b c : Term) (m : Made) → n ≢ node.DatBind → new_datatypes names (three n p a b c) m ≡ ([], m)
name_three names node.DatBind p a b c m e = absurd (e refl)
name_three names _ p a b c m e = refl

no_name : (names : List (List ℕ)) (t : Term) (m : Made) → node_of t ≢ node.MoreDatBinds → node_of t ≢ node.DatBind → new_datatypes names t m ≡ ([], m)
no_name names (leaf n p) m e f = refl
no_name names (one n p a) m e f = refl
no_name names (two n p a b) m e f = name_two names n p a b m e
no_name names (three n p a b c) m e f = name_three names n p a b c m f
no_name names (four n p a b c d) m e f = refl

con_one : (s : Scope) (n : TreeNode) (p : Place) (a : Term) (m : Made) → n ≢ node.ConBind → constructors s (one n p a) m ≡ ([], m)
con_one s node.ConBind p a m e = absurd (e refl)
con_one s _ p a m e = refl

con_two : (s : Scope) (n : TreeNode) (p : Place) (a b : Term) (m : Made) → n ≢ node.MoreConBinds → n ≢ node.ConBindOf → constructors s (two n p a b) m ≡ ([], m)
con_two s node.MoreConBinds p a b m e f = absurd (e refl)
con_two s node.ConBindOf p a b m e f = absurd (f refl)
con_two s _ p a b m e f = refl

no_con : (s : Scope) (t : Term) (m : Made) → node_of t ≢ node.MoreConBinds → node_of t ≢ node.ConBind → node_of t ≢ node.ConBindOf → constructors s t m ≡ ([], m)
no_con s (leaf n p) m e f g = refl
no_con s (one n p a) m e f g = con_one s n p a m f
no_con s (two n p a b) m e f g = con_two s n p a b m e g
no_con s (three n p a b c) m e f g = refl
no_con s (four n p a b c d) m e f g = refl

binding_two : (s : Scope) (k : ℕ) (n : TreeNode) (p : Place) (a b : Term) (m : Made) → n ≢ node.MoreDatBinds → datatypes s k (two n p a b) m ≡ (no_datatypes, m)
binding_two s k node.MoreDatBinds p a b m e = absurd (e refl)
binding_two s k _ p a b m e = refl

binding_three : (s : Scope) (k : ℕ) (n : TreeNode) (p : Place) (a b c : Term) (m : Made) → n ≢ node.DatBind → datatypes s k (three n p a b c) m ≡ (no_datatypes, m)
binding_three s k node.DatBind p a b c m e = absurd (e refl)
binding_three s k _ p a b c m e = refl

no_binding : (s : Scope) (k : ℕ) (t : Term) (m : Made) → node_of t ≢ node.MoreDatBinds → node_of t ≢ node.DatBind → datatypes s k t m ≡ (no_datatypes, m)
no_binding s k (leaf n p) m e f = refl
no_binding s k (one n p a) m e f = refl
no_binding s k (two n p a b) m e f = binding_two s k n p a b m e
no_binding s k (three n p a b c) m e f = binding_three s k n p a b c m f
no_binding s k (four n p a b c d) m e f = refl

-- type names
module _ (src : Source) (names : List (List ℕ)) where
  pub no_names : (i : ℕ) (m : Made) (b : List (Ident × ℕ)) → node_at src i ≢ node.MoreDatBinds → node_at src i ≢ node.DatBind → Does src (λ k. new_datatypes names) behind_them 0 i m b m b
  no_names i m b e f t w =
      let is : node_at src i ≡ node_of t = node_is src i t w in
      ([], no_name names t m (subst (λ q. q ≢ node.MoreDatBinds) is e) (subst (λ q. q ≢ node.DatBind) is f), sym (append-nil b))

  pub name_one : (i ja jb jc : ℕ) (m n : Made) (before after : List (Ident × ℕ)) (id : Ident) (number : ℕ) → node.DatBind ≡ node_at src i → Triple src i ja jb jc → ((t : Term) → IsAt src jb t → id ≡ ident names t) → Runs new_type_name m number n → after ≡ before ++ (id, number) ∷ []
      → Does src (λ k. new_datatypes names) behind_them 0 i m before n after
  name_one i ja jb jc m n before after id number e parts is_id ks is t w = as_three src i t node.DatBind w (sym e) refl (λ t. (x : List (Ident × ℕ)) × Runs (new_datatypes names t) m x n × (after ≡ before ++ x)) (λ p a b c at.
      let inside = parts node.DatBind p a b c at in
      ((ident names b, number) ∷ [], ap (λ r. ((ident names b, r.0) ∷ [], r.1)) ks, is ∙ ap (λ (q : Ident). before ++ (q, number) ∷ []) (is_id b inside.1)))

module _ (src : Source) (s : Scope) where
  -- constructors
  pub no_cons : (i : ℕ) (m : Made) (b : List NewCon) → node_at src i ≢ node.MoreConBinds → node_at src i ≢ node.ConBind → node_at src i ≢ node.ConBindOf → Does src (λ k. constructors s) behind_them 0 i m b m b
  no_cons i m b e f g t w =
      let is : node_at src i ≡ node_of t = node_is src i t w in
      ([], no_con s t m (subst (λ q. q ≢ node.MoreConBinds) is e) (subst (λ q. q ≢ node.ConBind) is f) (subst (λ q. q ≢ node.ConBindOf) is g), sym (append-nil b))

  pub con_alone : (i j : ℕ) (m : Made) (before after : List NewCon) (id : Ident) → node.ConBind ≡ node_at src i → Part src i j → ((t : Term) → IsAt src j t → id ≡ ident s.names t) → after ≡ before ++ record { ident = id; arg = None } ∷ []
      → Does src (λ k. constructors s) behind_them 0 i m before m after
  con_alone i j m before after id e part is_id is t w = as_one src i t node.ConBind w (sym e) refl (λ t. (x : List NewCon) × Runs (constructors s t) m x m × (after ≡ before ++ x)) (λ p a at.
      (record { ident = ident s.names a; arg = None } ∷ [], refl, is ∙ ap (λ (q : Ident). before ++ record { ident = q; arg = None } ∷ []) (is_id a (part node.ConBind p a at))))

  pub con_of : (i j h : ℕ) (m n : Made) (before after : List NewCon) (id : Ident) (ty : ℕ) → node.ConBindOf ≡ node_at src i → Pair src i j h → ((t : Term) → IsAt src j t → id ≡ ident s.names t) → ((t : Term) → IsAt src h t → Runs (type_of s t) m ty n)
      → after ≡ before ++ record { ident = id; arg = Some ty } ∷ [] → Does src (λ k. constructors s) behind_them 0 i m before n after
  con_of i j h m n before after id ty e parts is_id is_ty is t w = as_two src i t node.ConBindOf w (sym e) refl (λ t. (x : List NewCon) × Runs (constructors s t) m x n × (after ≡ before ++ x)) (λ p a b at.
      let inside = parts node.ConBindOf p a b at in
      (record { ident = ident s.names a; arg = Some ty } ∷ [], ap (λ r. (record { ident = ident s.names a; arg = Some r.0 } ∷ [], r.1)) (is_ty b inside.1), is ∙ ap (λ (q : Ident). before ++ record { ident = q; arg = Some ty } ∷ []) (is_id a inside.0)))

  -- bindings
  pub no_bindings : (k i : ℕ) (m : Made) (b : DatDecs) → node_at src i ≢ node.MoreDatBinds → node_at src i ≢ node.DatBind → Does src (datatypes s) datatypes_behind k i m b m b
  no_bindings k i m b e f t w =
      let is : node_at src i ≡ node_of t = node_is src i t w in
      (no_datatypes, no_binding s k t m (subst (λ q. q ≢ node.MoreDatBinds) is e) (subst (λ q. q ≢ node.DatBind) is f), unit b)

  pub binding_one : (number i ja jb jc : ℕ) (k m n : Made) (before after : DatDecs) (id : Ident) (named : List Ident) (vars : List (ℕ × ℕ)) (cons : List NewCon) → node.DatBind ≡ node_at src i → Triple src i ja jb jc
      → ((t : Term) → IsAt src jb t → id ≡ ident s.names t) → ((t : Term) → IsAt src ja t → named ≡ tyvars s.names t) → Runs (params s.names named) k vars m
      → ((t : Term) → IsAt src jc t → Runs (constructors (only_params s vars) t) m cons n) → after ≡ datatypes_behind before (datatype_of s.names number id vars cons)
      → Does src (datatypes s) datatypes_behind number i k before n after
  binding_one number i ja jb jc k m n before after id named vars cons e parts is_id is_named ps is_cons is t w = as_three src i t node.DatBind w (sym e) refl (λ t. (x : DatDecs) × Runs (datatypes s number t) k x n × (after ≡ datatypes_behind before x)) (λ p a b c at.
      let inside = parts node.DatBind p a b c at in
      let x : DatDecs = datatype_of s.names number (ident s.names b) vars cons in
      let runs : Runs (datatypes s number (three node.DatBind p a b c)) k x n =
      behind (params s.names (tyvars s.names a)) (λ vs h. let r = constructors (only_params s vs) c h in (datatype_of s.names number (ident s.names b) vs r.0, r.1)) k m n vars x
      (subst (λ q. Runs (params s.names q) k vars m) (is_named a inside.0) ps)
      (ap (λ r. (datatype_of s.names number (ident s.names b) vars r.0, r.1)) (is_cons c inside.2)) in
      (x, runs, is ∙ ap (λ (q : Ident). datatypes_behind before (datatype_of s.names number q vars cons)) (is_id b inside.1)))
