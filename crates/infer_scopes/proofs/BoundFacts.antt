-- The names that a pattern or a declaration binds are its own and those of its parts.
use Rattle.std.proofs.Common.{◌≡◌, ℕ, List, [], ◌∷◌, ◌++◌, Option, Some, refl, sym, ap, ◌∙◌, reverse, append_assoc}
use Rattle.std.proofs.lemmas.List.{reverse-append, reverse-reverse}
use Rattle.std.specs.Prelude.{slice_get, map, flat_map}
use Rattle.std.specs.List.{AllByRecursion}
use Rattle.sml_tree.specs.declared.bare.Field.{Field}
use Rattle.sml_tree.specs.declared.bare.Binding.{Binding}
use Rattle.sml_tree.specs.declared.bare.Node.{Node}
use Rattle.sml_tree.specs.declared.bare.Node.TheVariants as node
use Rattle.sml_tree.specs.BareParts.{node_parts, IsNumbered, at_node}
use Rattle.sml_tree.proofs.Unfold.{by_parts}
use Rattle.sml_types.specs.Typing.{group_names}
use Rattle.infer_state.specs.Names.{names_of_fields, names_of_bindings, names_of, names_bound}
use Rattle.infer_scopes.specs.Bound.{own_names, name_parts, IsTurn}
use Rattle.infer_scopes.proofs.ChainFacts.{nil_right}

fields_same : (f g : ℕ → List ℕ) (fields : List Field) → AllByRecursion (λ c. f c ≡ g c) (map (λ l. l.node) fields) → names_of_fields f fields ≡ names_of_fields g fields
fields_same f g [] h = refl
fields_same f g (l ∷ fields) h = ap (λ xs. xs ++ names_of_fields f fields) h.0 ∙ ap (λ xs. g l.node ++ xs) (fields_same f g fields h.1)

bindings_same : (f g : ℕ → List ℕ) (bindings : List Binding) → AllByRecursion (λ c. f c ≡ g c) (flat_map (λ b. b.pat ∷ b.right ∷ []) bindings) → names_of_bindings f bindings ≡ names_of_bindings g bindings
bindings_same f g [] h = refl
bindings_same f g (b ∷ bindings) h = ap (λ xs. xs ++ names_of_bindings f bindings) h.0 ∙ ap (λ xs. g b.pat ++ xs) (bindings_same f g bindings h.1.1)

-- they go by those of the parts
names_by_parts : (f g : ℕ → List ℕ) (i : ℕ) (n : Node) → AllByRecursion (λ c. f c ≡ g c) (node_parts n) → names_of f i n ≡ names_of g i n
names_by_parts f g i (node.PatApp k q) h = h.0
names_by_parts f g i (node.PatRecord fields) h = fields_same f g fields h
names_by_parts f g i (node.PatTyped q j) h = h.0
names_by_parts f g i (node.PatAs x q) h = ap (λ xs. x.0 ∷ xs) h.0
names_by_parts f g i (node.Val us bindings) h = bindings_same f g bindings h
names_by_parts f g i _ h = refl

pub names_at : (nodes : List Node) (i : ℕ) (n : Node) → IsNumbered nodes → slice_get nodes i ≡ Some n → names_bound nodes i ≡ names_of (names_bound nodes) i n
names_at nodes i n numbered q =
    by_parts [] names_of (λ a b. a ≡ b) refl names_by_parts nodes numbered i
    ∙ ap (λ (o : Option Node). at_node [] names_of (names_bound nodes) i o) q

fields_flat : (f : ℕ → List ℕ) (fields : List Field) → names_of_fields f fields ≡ flat_map f (map (λ l. l.node) fields)
fields_flat f [] = refl
fields_flat f (l ∷ fields) = ap (λ xs. f l.node ++ xs) (fields_flat f fields)

bindings_flat : (f : ℕ → List ℕ) (bindings : List Binding) → names_of_bindings f bindings ≡ flat_map f (map (λ b. b.pat) bindings)
bindings_flat f [] = refl
bindings_flat f (b ∷ bindings) = ap (λ xs. f b.pat ++ xs) (bindings_flat f bindings)

names_split : (f : ℕ → List ℕ) (i : ℕ) (n : Node) → names_of f i n ≡ own_names n ++ flat_map f (name_parts n)
names_split f i (node.PatApp k q) = sym (nil_right (f q))
names_split f i (node.PatRecord fields) = fields_flat f fields
names_split f i (node.PatTyped q j) = sym (nil_right (f q))
names_split f i (node.PatAs x q) = ap (λ xs. x.0 ∷ xs) (sym (nil_right (f q)))
names_split f i (node.Val us bindings) = bindings_flat f bindings
names_split f i (node.ValRec us bindings) = sym (nil_right (group_names bindings))
names_split f i _ = refl

flat_both : (f : ℕ → List ℕ) (xs ys : List ℕ) → flat_map f (xs ++ ys) ≡ flat_map f xs ++ flat_map f ys
flat_both f [] ys = refl
flat_both f (x ∷ xs) ys = ap (λ l. f x ++ l) (flat_both f xs ys) ∙ sym (append_assoc (f x) (flat_map f xs) (flat_map f ys))

-- a turn keeps what was found with what is left
pub turn_keeps : (nodes : List Node) (next : ℕ) (found found' before work work' whole : List ℕ) → IsNumbered nodes → IsTurn nodes next found found' work work' → before ≡ work ++ next ∷ [] → found ++ flat_map (names_bound nodes) (reverse before) ≡ whole → found' ++ flat_map (names_bound nodes) (reverse work') ≡ whole
turn_keeps nodes next found found' before work work' whole numbered t b inv =
    let f : ℕ → List ℕ = names_bound nodes in
    let own : List ℕ = own_names t.at in
    let parts : List ℕ = name_parts t.at in
    let node_names : f next ≡ own ++ flat_map f parts = names_at nodes next t.at numbered t.here ∙ names_split f next t.at in
    let left : reverse work' ≡ parts ++ reverse work = ap reverse t.parts ∙ reverse-append work (reverse parts) ∙ ap (λ l. l ++ reverse work) (reverse-reverse parts) in
    let was : reverse before ≡ next ∷ reverse work = ap reverse b ∙ reverse-append work (next ∷ []) in
    ap (λ l. l ++ flat_map f (reverse work')) t.names
    ∙ ap (λ l. (found ++ own) ++ flat_map f l) left
    ∙ append_assoc found own (flat_map f (parts ++ reverse work))
    ∙ ap (λ l. found ++ (own ++ l)) (flat_both f parts (reverse work))
    ∙ ap (λ l. found ++ l) (sym (append_assoc own (flat_map f parts) (flat_map f (reverse work))))
    ∙ ap (λ l. found ++ (l ++ flat_map f (reverse work))) (sym node_names)
    ∙ ap (λ l. found ++ flat_map f l) (sym was)
    ∙ inv

-- before the first turn
pub none_found : (f : ℕ → List ℕ) (i : ℕ) (found empty work : List ℕ) → found ≡ [] → empty ≡ [] → work ≡ empty ++ i ∷ [] → found ++ flat_map f (reverse work) ≡ f i
none_found f i found empty work e n w =
    ap (λ l. l ++ flat_map f (reverse work)) e ∙ ap (λ l. flat_map f (reverse l)) (w ∙ ap (λ l. l ++ i ∷ []) n) ∙ nil_right (f i)

-- behind the last one
pub all_found : (f : ℕ → List ℕ) (found work whole : List ℕ) → work ≡ [] → found ++ flat_map f (reverse work) ≡ whole → found ≡ whole
all_found f found work whole w inv = sym (nil_right found) ∙ ap (λ l. found ++ flat_map f (reverse l)) (sym w) ∙ inv
