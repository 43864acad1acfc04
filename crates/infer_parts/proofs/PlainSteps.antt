-- The table of non-expansive nodes grows by one row.
use Rattle.std.proofs.Common.{◌≡◌, ℕ, zero, suc, ◌<◌, ◌≤◌, Bool, true, false, List, [], ◌∷◌, length, Option, Some, refl, sym, ap, ◌∙◌, arith, subst, slice_set, nat_eq, length-set}
use Rattle.std.specs.Prelude.{◌&&◌, not, slice_get, get_or}
use Rattle.std.specs.List.{list_all, AllByRecursion}
use Rattle.sml_tree.specs.declared.bare.Con.{Con}
use Rattle.sml_tree.specs.declared.bare.Con.TheVariants as con
use Rattle.sml_tree.specs.declared.bare.Field.{Field}
use Rattle.sml_tree.specs.declared.bare.Node.{Node}
use Rattle.sml_tree.specs.declared.bare.Node.TheVariants as node
use Rattle.sml_types.specs.NonExpansive.{AreNonExpansive, plain_none, plain_atom, plain_record, plain_applied, plain_typed, is_atomic, is_ref, field_nodes}
use Rattle.std.proofs.lemmas.Bool.{eqb-true, eq-eqb}
use Rattle.std.proofs.lemmas.List.{get_or-set_same, get_or-set_other}
use Rattle.sml_types.proofs.TreeFacts.{and_both}
use Rattle.infer_parts.specs.Plain.{plain_at, is_plain, is_plain_constructor, plain_node, ArePartsLater, IsPlainFrom}

join : (nodes : List Node) (k : ℕ) (ks : List ℕ) → AreNonExpansive nodes (k ∷ []) → AreNonExpansive nodes ks → AreNonExpansive nodes (k ∷ ks)
join nodes k ks (plain_atom i n e a r) rest = plain_atom i n e a rest
join nodes k ks (plain_record i fields e a r) rest = plain_record i fields e a rest
join nodes k ks (plain_applied i f a c e g q b r) rest = plain_applied i f a c e g q b rest
join nodes k ks (plain_typed i x ty e a r) rest = plain_typed i x ty e a rest

part : (nodes : List Node) (k : ℕ) (ks : List ℕ) → AreNonExpansive nodes (k ∷ ks) → AreNonExpansive nodes (k ∷ []) × AreNonExpansive nodes ks
part nodes k ks (plain_atom i n e a r) = (plain_atom i n e a plain_none, r)
part nodes k ks (plain_record i fields e a r) = (plain_record i fields e a plain_none, r)
part nodes k ks (plain_applied i f a c e g q b r) = (plain_applied i f a c e g q b plain_none, r)
part nodes k ks (plain_typed i x ty e a r) = (plain_typed i x ty e a plain_none, r)

fields_sound : (nodes : List Node) (table : List Bool) (fields : List Field) → ((k : ℕ) → plain_at table k ≡ true → AreNonExpansive nodes (k ∷ [])) → list_all (λ f. plain_at table f.node) fields ≡ true → AreNonExpansive nodes (field_nodes fields)
fields_sound nodes table [] s h = plain_none
fields_sound nodes table (f ∷ fields) s h =
    let b = and_both (plain_at table f.node) (list_all (λ g. plain_at table g.node) fields) h in
    join nodes f.node (field_nodes fields) (s f.node b.0) (fields_sound nodes table fields s b.1)

constructor_at : (o : Option Node) → is_plain o ≡ true → (c : Con) × (o ≡ Some (node.Constructor c)) × (is_ref c ≡ false)
constructor_at (Some (node.Constructor con.Ref)) h = cc
constructor_at (Some (node.Constructor c)) h = (c, refl, refl)
constructor_at _ h = cc

sound_at : (nodes : List Node) (table : List Bool) (i : ℕ) (n : Node) → ((k : ℕ) → plain_at table k ≡ true → AreNonExpansive nodes (k ∷ [])) → slice_get nodes i ≡ Some n → plain_node nodes table n ≡ true → AreNonExpansive nodes (i ∷ [])
sound_at nodes table i (node.Int x) s e h = plain_atom i (node.Int x) e refl plain_none
sound_at nodes table i (node.Char x) s e h = plain_atom i (node.Char x) e refl plain_none
sound_at nodes table i (node.Text x) s e h = plain_atom i (node.Text x) e refl plain_none
sound_at nodes table i (node.Var x) s e h = plain_atom i (node.Var x) e refl plain_none
sound_at nodes table i (node.Constructor x) s e h = plain_atom i (node.Constructor x) e refl plain_none
sound_at nodes table i (node.Builtin x) s e h = plain_atom i (node.Builtin x) e refl plain_none
sound_at nodes table i (node.Fn x) s e h = plain_atom i (node.Fn x) e refl plain_none
sound_at nodes table i (node.Record fields) s e h = plain_record i fields e (fields_sound nodes table fields s h) plain_none
sound_at nodes table i (node.App f a) s e h =
    let b = and_both (is_plain_constructor nodes f) (plain_at table a) h in
    let c = constructor_at (slice_get nodes f) b.0 in plain_applied i f a c.0 e c.1 c.2 (s a b.1) plain_none
sound_at nodes table i (node.Typed x ty) s e h = plain_typed i x ty e (s x h) plain_none
sound_at nodes table i _ s e h = cc

atom_at : (nodes : List Node) (table : List Bool) (n : Node) → is_atomic n ≡ true → plain_node nodes table n ≡ true
atom_at nodes table (node.Int x) h = refl
atom_at nodes table (node.Char x) h = refl
atom_at nodes table (node.Text x) h = refl
atom_at nodes table (node.Var x) h = refl
atom_at nodes table (node.Constructor x) h = refl
atom_at nodes table (node.Builtin x) h = refl
atom_at nodes table (node.Fn x) h = refl
atom_at nodes table _ h = cc

fields_complete : (nodes : List Node) (table : List Bool) (fields : List Field) (P : ℕ → Type 0) → ((k : ℕ) → P k → AreNonExpansive nodes (k ∷ []) → plain_at table k ≡ true) → AllByRecursion P (field_nodes fields) → AreNonExpansive nodes (field_nodes fields) → list_all (λ f. plain_at table f.node) fields ≡ true
fields_complete nodes table [] P s l h = refl
fields_complete nodes table (f ∷ fields) P s l h =
    let b = part nodes f.node (field_nodes fields) h in
    ap (λ w. w && list_all (λ g. plain_at table g.node) fields) (s f.node l.0 b.0) ∙ fields_complete nodes table fields P s l.1 b.1

complete_at : (nodes : List Node) (table : List Bool) (i : ℕ) (n : Node) → slice_get nodes i ≡ Some n → ArePartsLater nodes → ((k : ℕ) → i < k → AreNonExpansive nodes (k ∷ []) → plain_at table k ≡ true) → AreNonExpansive nodes (i ∷ []) → plain_node nodes table n ≡ true
complete_at nodes table i n e l s (plain_atom j m q a r) = let same : n ≡ m = cc in atom_at nodes table n (ap is_atomic same ∙ a)
complete_at nodes table i n e l s (plain_record j fields q a r) =
    let same : n ≡ node.Record fields = cc in
    let later = l i (node.Record fields) q in
    ap (plain_node nodes table) same ∙ fields_complete nodes table fields (λ c. (i < c) × (c < length nodes)) (λ k b h. s k b.0 h) later a
complete_at nodes table i n e l s (plain_applied j f a c q g b h r) =
    let same : n ≡ node.App f a = cc in
    let later = l i (node.App f a) q in
    let one : is_plain_constructor nodes f ≡ true = ap is_plain g ∙ ap not b in
    ap (plain_node nodes table) same ∙ ap (λ w. w && plain_at table a) one ∙ s a later.0.0 h
complete_at nodes table i n e l s (plain_typed j x ty q h r) =
    let same : n ≡ node.Typed x ty = cc in
    let later = l i (node.Typed x ty) q in
    ap (plain_node nodes table) same ∙ s x later.0.0 h

-- a place that is set, and the others
by_place : (P : ℕ → Bool → Type 0) (table : List Bool) (i k : ℕ) (b : Bool) → i < length table → (k ≡ i → P k b) → ((k ≡ i → ⊥) → P k (plain_at table k)) → P k (plain_at (slice_set table i b) k)
by_place P table i k b l here other = cases (nat_eq k i) refl
  where
    cases : (t : Bool) → nat_eq k i ≡ t → P k (plain_at (slice_set table i b) k)
    cases true e = let same = eqb-true k i e in subst (P k) (sym (ap (plain_at (slice_set table i b)) same ∙ get_or-set_same table i b false l)) (here same)
    cases false e = let differ : k ≡ i → ⊥ = λ q. let both : true ≡ false = sym (eq-eqb k i q) ∙ e in cc in subst (P k) (sym (get_or-set_other table i k b false differ)) (other differ)

-- one more row
pub stepped : (nodes : List Node) (table : List Bool) (i : ℕ) (n : Node) (b : Bool) → slice_get nodes i ≡ Some n → i < length nodes → b ≡ plain_node nodes table n → IsPlainFrom nodes (suc i) table → IsPlainFrom nodes i (slice_set table i b)
stepped nodes table i n b e l q h =
    record {
      count = length-set table i b ∙ h.count;
      sound = λ k. by_place (λ k w. w ≡ true → AreNonExpansive nodes (k ∷ [])) table i k b there (λ same t. subst (λ j. AreNonExpansive nodes (j ∷ [])) (sym same) (sound_at nodes table i n h.sound e (sym q ∙ t))) (λ differ. h.sound k);
      complete = λ later k. by_place (λ k w. i ≤ k → AreNonExpansive nodes (k ∷ []) → w ≡ true) table i k b there (λ same at a. q ∙ complete_at nodes table i n e later (λ j after. h.complete later j after) (subst (λ j. AreNonExpansive nodes (j ∷ [])) same a)) (λ differ at a. h.complete later k (omega (arith, differ)) a);
    }
  where
    there : i < length table
    there = let c = h.count in omega arith

pub here : {A : Type 0} (xs : List A) (i : ℕ) (x : A) → i < length xs → x ≡ get_or xs i x → slice_get xs i ≡ Some x
here [] i x l e = absurd (omega arith)
here (y ∷ xs) zero x l e = ap Some (sym e)
here (y ∷ xs) (suc i) x l e = here xs i x (omega arith) e

in_range : {A : Type 0} (xs : List A) (i : ℕ) (x : A) → slice_get xs i ≡ Some x → i < length xs
in_range [] i x e = cc
in_range (y ∷ xs) zero x e = omega arith
in_range (y ∷ xs) (suc i) x e = let l = in_range xs i x e in omega arith

all_low : (table : List Bool) (k : ℕ) → ((j : ℕ) → j < length table → get_or table j false ≡ false) → get_or table k false ≡ false
all_low [] k h = refl
all_low (b ∷ table) zero h = h zero (omega arith)
all_low (b ∷ table) (suc k) h = all_low table k (λ j l. h (suc j) (omega arith))

plain_in_range : (nodes : List Node) (k : ℕ) → AreNonExpansive nodes (k ∷ []) → k < length nodes
plain_in_range nodes k (plain_atom i n e a r) = in_range nodes k n e
plain_in_range nodes k (plain_record i fields e a r) = in_range nodes k (node.Record fields) e
plain_in_range nodes k (plain_applied i f a c e g q b r) = in_range nodes k (node.App f a) e
plain_in_range nodes k (plain_typed i x ty e a r) = in_range nodes k (node.Typed x ty) e

-- the table before the first row
pub started : (nodes : List Node) (table : List Bool) → length table ≡ length nodes → ((k : ℕ) → k < length nodes → get_or table k false ≡ false) → IsPlainFrom nodes (length nodes) table
started nodes table c h =
    record {
      count = c;
      sound = λ k e. let low : false ≡ true = sym (all_low table k (λ j l. h j (omega arith))) ∙ e in cc;
      complete = λ later k at a. let l = plain_in_range nodes k a in absurd (omega arith);
    }
