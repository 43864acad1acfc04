-- One step of a way, and names at the ends of ways.
use Rattle.std.proofs.Common.{◌≡◌, ℕ, zero, suc, ◌+◌, ◌≤◌, ◌<◌, Bool, true, false, List, [], ◌∷◌, ◌++◌, Some, None, cond, nat_eq, length, take, drop, refl, sym, ap, ◌∙◌, subst, arith, append_assoc, drop-cons, get_or}
use Rattle.std.proofs.Math.Path.{fun_ext}
use Rattle.smlc_base.specs.declared.match_tests.Named.{Named}
use Rattle.cps_ir.specs.declared.atom.Atom.{Atom}
use Rattle.cps_ir.specs.declared.body.Bind.{Bind}
use Rattle.cps_ir.specs.declared.body.Bind.TheVariants as bind
use Rattle.cps_ir.specs.State.{bind}
use Rattle.cps_ir.specs.Code.{Code, Pick}
use Rattle.convert_laws.specs.Convert.{Scope, Way, variable, picks, bind_each, with_fields}
use Rattle.convert_pieces.specs.declared.names.BoundName.{BoundName}
use Rattle.convert_pieces.specs.Emitted.{Emitted}
use Rattle.convert_pieces.specs.Ways.{stands_in, going}
use Rattle.convert_pieces.specs.Names.{bound_to}
use Rattle.convert_pieces.proofs.Emits.{emitted_one, emitted_then, emitted_to, nil_right}

abbrev Rest : Type 0
Rest = Way → Atom → ℕ → Code

-- ---- Lists cut in two

pub cut_at : {X : Type 0} (xs : List X) (at : ℕ) (g : X) (gone : List X) → drop at xs ≡ g ∷ gone → (take (suc at) xs ≡ take at xs ++ g ∷ []) × (drop (suc at) xs ≡ gone)
cut_at [] zero g gone e = absurd cc
cut_at [] (suc at) g gone e = absurd cc
cut_at (x ∷ xs) zero g gone e = (cc, cc)
cut_at (x ∷ xs) (suc at) g gone e = let later = cut_at xs at g gone e in (ap (λ ys. x ∷ ys) later.0, later.1)

take_all : {X : Type 0} (xs : List X) (at : ℕ) (x : X) → at ≤ length xs → take (suc at) (take at xs ++ x ∷ []) ≡ take at xs ++ x ∷ []
take_all xs zero x h = refl
take_all [] (suc at) x h = absurd (omega (arith, h))
take_all (y ∷ xs) (suc at) x h = ap (λ ys. y ∷ ys) (take_all xs at x (omega (arith, h)))

drop_all : {X : Type 0} (xs : List X) (at : ℕ) (x : X) → at ≤ length xs → drop (suc at) (take at xs ++ x ∷ []) ≡ []
drop_all xs zero x h = refl
drop_all [] (suc at) x h = absurd (omega (arith, h))
drop_all (y ∷ xs) (suc at) x h = drop_all xs at x (omega (arith, h))

-- ---- Ways

fresh : (gone : Way) (i : ℕ) (path : List ℕ) (a : Atom) (rest : Rest) (n : ℕ) → stands_in gone i ≡ None → picks gone (i ∷ path) a rest n ≡ Pick n i a (picks [] path (variable n) (λ w b m. rest ((i, variable n) ∷ w) b m) (suc n))
fresh [] i path a rest n e = refl
fresh (g ∷ gone) i path a rest n e = by (nat_eq i g.0) e
  where
    by : (c : Bool) → cond c (Some g.1) None ≡ None → cond c (picks gone path g.1 (λ w b m. rest (g ∷ w) b m) n) (Pick n i a (picks [] path (variable n) (λ w b m. rest ((i, variable n) ∷ w) b m) (suc n))) ≡ Pick n i a (picks [] path (variable n) (λ w b m. rest ((i, variable n) ∷ w) b m) (suc n))
    by true e = absurd cc
    by false e = refl

pub new_stepped : (old new : List Bind) (way made : Way) (at i : ℕ) (a : Atom) (n later : ℕ) → at ≤ length way → stands_in (drop at way) i ≡ None → new ≡ old ++ bind.Pick n i a ∷ [] → made ≡ take at way ++ (i, variable n) ∷ [] → later ≡ n + 1 → (path : List ℕ) (rest : Rest) → Emitted old new (going way at (i ∷ path) a rest n) (going made (suc at) path (variable n) rest later)
new_stepped old new way made at i a n later h none en em el path rest =
    emitted_one old new (bind.Pick n i a) (going way at (i ∷ path) a rest n) (going made (suc at) path (variable n) rest later) en refl
    (λ part. fresh (drop at way) i path a (λ w b m. rest (take at way ++ w) b m) n none ∙ ap (Pick n i a) same)
  where
    front : (w : Way) → take at way ++ ((i, variable n) ∷ w) ≡ take (suc at) made ++ w
    front w = sym (append_assoc (take at way) ((i, variable n) ∷ []) w) ∙ ap (λ v. v ++ w) (sym (take_all way at (i, variable n) h) ∙ ap (take (suc at)) (sym em))

    rests : ◌≡◌ {A = Rest} (λ w b m. rest (take at way ++ ((i, variable n) ∷ w)) b m) (λ w b m. rest (take (suc at) made ++ w) b m)
    rests = fun_ext (λ w. ap rest (front w))

    same : picks [] path (variable n) (λ w b m. rest (take at way ++ ((i, variable n) ∷ w)) b m) (suc n) ≡ going made (suc at) path (variable n) rest later
    same =
        ap (λ (r : Rest). picks [] path (variable n) r (suc n)) rests
        ∙ ap (λ d. picks d path (variable n) (λ w b m. rest (take (suc at) made ++ w) b m) (suc n)) (sym (drop_all way at (i, variable n) h) ∙ ap (drop (suc at)) (sym em))
        ∙ ap (going made (suc at) path (variable n) rest) (omega (arith, el))

known : (gone : Way) (i : ℕ) (b : Atom) → stands_in gone i ≡ Some b → (g : ℕ × Atom) × (later : Way) × (gone ≡ g ∷ later) × (nat_eq i g.0 ≡ true) × (g.1 ≡ b)
known [] i b e = absurd cc
known (g ∷ gone) i b e = by (nat_eq i g.0) refl e
  where
    by : (c : Bool) → nat_eq i g.0 ≡ c → cond c (Some g.1) None ≡ Some b → (h : ℕ × Atom) × (later : Way) × (g ∷ gone ≡ h ∷ later) × (nat_eq i h.0 ≡ true) × (h.1 ≡ b)
    by true t e = (g, gone, refl, t, cc)
    by false t e = absurd cc

pub old_stepped : (way : Way) (at i : ℕ) (a b : Atom) (n : ℕ) → stands_in (drop at way) i ≡ Some b → (path : List ℕ) (rest : Rest) → going way at (i ∷ path) a rest n ≡ going way (suc at) path b rest n
old_stepped way at i a b n e path rest =
    let k = known (drop at way) i b e in
    let cut = cut_at way at k.0 k.1 k.2 in
    ap (λ d. picks d (i ∷ path) a (λ w c m. rest (take at way ++ w) c m) n) k.2
    ∙ ap (λ t. cond t (picks k.1 path k.0.1 (λ w c m. rest (take at way ++ (k.0 ∷ w)) c m) n) (Pick n i a (picks [] path (variable n) (λ w c m. rest (take at way ++ ((i, variable n) ∷ w)) c m) (suc n)))) k.3
    ∙ ap (λ c. picks k.1 path c (λ w c m. rest (take at way ++ (k.0 ∷ w)) c m) n) k.4
    ∙ ap (λ (r : Rest). picks k.1 path b r n) (fun_ext (λ w. ap rest (sym (append_assoc (take at way) (k.0 ∷ []) w) ∙ ap (λ v. v ++ w) (sym cut.0))))
    ∙ ap (λ d. picks d path b (λ w c m. rest (take (suc at) way ++ w) c m) n) (sym cut.1)

pub way_ended : (way made : Way) (at : ℕ) (a : Atom) (rest : Rest) (n : ℕ) → made ≡ take at way → going way at [] a rest n ≡ rest made a n
way_ended way made at a rest n e = ap (λ w. rest w a n) (nil_right (take at way) ∙ sym e)

-- ---- Names

pub bound_last : (names : List BoundName) (x : BoundName) (σ : Scope) → bound_to (names ++ x ∷ []) σ ≡ bound_to names (bind σ x.name.0 x.atom)
bound_last [] x σ = refl
bound_last (y ∷ names) x σ = ap (λ (τ : Scope). bind τ y.name.0 y.atom) (bound_last names x σ)

pub named_one : (a : Atom) (x : Named) (later : List Named) (found more : List BoundName) (b : Atom) (w : Way) (σ : Scope) (rest : Scope → ℕ → Code) (n : ℕ) → more ≡ found ++ record { name = x.name; atom = b } ∷ [] → bind_each w later a σ (λ τ l. rest (bound_to found (bind τ x.name.0 b)) l) n ≡ bind_each w later a σ (λ τ l. rest (bound_to more τ) l) n
named_one a x later found more b w σ rest n e =
    ap (λ (r : Scope → ℕ → Code). bind_each w later a σ r n) (fun_ext (λ τ. ap rest (sym (bound_last found (record { name = x.name; atom = b }) τ) ∙ ap (λ fs. bound_to fs τ) (sym e))))

-- ---- Fields

pub field_one : (old new : List Bind) (k i j : ℕ) (a : Atom) (atoms more : List Atom) (rest : List Atom → ℕ → Code) (n later : ℕ) → new ≡ old ++ bind.Pick n i a ∷ [] → more ≡ atoms ++ variable n ∷ [] → later ≡ n + 1 → j ≡ i + 1 → Emitted old new (with_fields (suc k) i a (λ fs m. rest (atoms ++ fs) m) n) (with_fields k j a (λ fs m. rest (more ++ fs) m) later)
field_one old new k i j a atoms more rest n later en em el ej =
    let up : suc i ≡ j = omega (arith, ej) in
    let on : suc n ≡ later = omega (arith, el) in
    emitted_one old new (bind.Pick n i a) (with_fields (suc k) i a (λ fs m. rest (atoms ++ fs) m) n) (with_fields k j a (λ fs m. rest (more ++ fs) m) later) en refl
    (λ part. ap (Pick n i a)
    (ap (λ (r : List Atom → ℕ → Code). with_fields k (suc i) a r (suc n)) (fun_ext (λ fs. ap rest (sym (append_assoc atoms (variable n ∷ []) fs) ∙ ap (λ v. v ++ fs) (sym em))))
    ∙ ap (λ u. with_fields k u a (λ fs m. rest (more ++ fs) m) (suc n)) up
    ∙ ap (with_fields k j a (λ fs m. rest (more ++ fs) m)) on))

pub fields_ended : (k : ℕ) (i : ℕ) (a : Atom) (atoms : List Atom) (rest : List Atom → ℕ → Code) (n : ℕ) → k ≡ 0 → with_fields k i a (λ fs m. rest (atoms ++ fs) m) n ≡ rest atoms n
fields_ended zero i a atoms rest n e = ap (λ fs. rest fs n) (nil_right atoms)
fields_ended (suc k) i a atoms rest n e = absurd (omega (arith, e))

-- ---- Loops

pub one_more : (bs ds es : List Bind) (way made : Way) (path : List ℕ) (at j d : ℕ) (a b : Atom) (n m : ℕ) (c : Code) (rest : Rest) → at < length path → j ≡ at + 1 → Emitted bs ds c (going way at (drop at path) a rest n) → ((later : List ℕ) → Emitted ds es (going way at (get_or path at d ∷ later) a rest n) (going made (suc at) later b rest m)) → Emitted bs es c (going made j (drop j path) b rest m)
one_more bs ds es way made path at j d a b n m c rest h ej before step =
    let up : suc at ≡ j = omega (arith, ej) in
    subst (λ k. Emitted bs es c (going made k (drop k path) b rest m)) up
    (emitted_then bs ds es c (going way at (get_or path at d ∷ drop (suc at) path) a rest n) (going made (suc at) (drop (suc at) path) b rest m)
    (emitted_to bs ds c (going way at (drop at path) a rest n) (going way at (get_or path at d ∷ drop (suc at) path) a rest n) (ap (λ p. going way at p a rest n) (drop-cons path at d h)) before)
    (step (drop (suc at) path)))

pub none_past : {X : Type 0} (xs : List X) (i : ℕ) → length xs ≤ i → drop i xs ≡ []
none_past [] zero h = refl
none_past [] (suc i) h = refl
none_past (x ∷ xs) zero h = absurd (omega (arith, h))
none_past (x ∷ xs) (suc i) h = none_past xs i (omega (arith, h))

pub all_gone : (bs ds : List Bind) (way made : Way) (path : List ℕ) (at : ℕ) (a : Atom) (n : ℕ) (c : Code) (rest : Rest) → length path ≤ at → at ≤ length path → made ≡ take (length path) way → Emitted bs ds c (going way at (drop at path) a rest n) → Emitted bs ds c (rest made a n)
all_gone bs ds way made path at a n c rest h g e before =
    let on : length path ≡ at = omega (arith, h, g) in
    emitted_to bs ds c (going way at (drop at path) a rest n) (rest made a n) (ap (λ p. going way at p a rest n) (none_past path at h) ∙ way_ended way made at a rest n (e ∙ ap (λ k. take k way) on)) before

pub names_more : (bs ds es : List Bind) (names : List Named) (i j : ℕ) (x : Named) (path : List ℕ) (found more : List BoundName) (a b : Atom) (w v : Way) (n m : ℕ) (σ : Scope) (rest : Scope → ℕ → Code) (c : Code) → i < length names → x ≡ get_or names i x → path ≡ x.path → j ≡ i + 1 → more ≡ found ++ record { name = x.name; atom = b } ∷ [] → Emitted bs ds c (bind_each w (drop i names) a σ (λ τ l. rest (bound_to found τ) l) n) → ((r : Rest) → Emitted ds es (picks w path a r n) (r v b m)) → Emitted bs es c (bind_each v (drop j names) a σ (λ τ l. rest (bound_to more τ) l) m)
names_more bs ds es names i j x path found more a b w v n m σ rest c h here ep ej em before step =
    let up : suc i ≡ j = omega (arith, ej) in
    let r : Scope → ℕ → Code = λ τ l. rest (bound_to found τ) l in
    let inner : Rest = λ u d k. bind_each u (drop (suc i) names) a σ (λ τ l. r (bind τ x.name.0 d) l) k in
    let cut : drop i names ≡ x ∷ drop (suc i) names = drop-cons names i x h ∙ ap (λ y. y ∷ drop (suc i) names) (sym here) in
    let from : bind_each w (drop i names) a σ r n ≡ picks w path a inner n = ap (λ ys. bind_each w ys a σ r n) cut ∙ ap (λ p. picks w p a inner n) (sym ep) in
    subst (λ k. Emitted bs es c (bind_each v (drop k names) a σ (λ τ l. rest (bound_to more τ) l) m)) up
    (emitted_then bs ds es c (picks w path a inner n) (bind_each v (drop (suc i) names) a σ (λ τ l. rest (bound_to more τ) l) m)
    (emitted_to bs ds c (bind_each w (drop i names) a σ r n) (picks w path a inner n) from before)
    (emitted_to ds es (picks w path a inner n) (inner v b m) (bind_each v (drop (suc i) names) a σ (λ τ l. rest (bound_to more τ) l) m) (named_one a x (drop (suc i) names) found more b v σ rest m em) (step inner)))

pub names_ended : (bs ds : List Bind) (names : List Named) (i : ℕ) (found : List BoundName) (a : Atom) (w : Way) (n : ℕ) (σ : Scope) (rest : Scope → ℕ → Code) (c : Code) → length names ≤ i → Emitted bs ds c (bind_each w (drop i names) a σ (λ τ l. rest (bound_to found τ) l) n) → Emitted bs ds c (rest (bound_to found σ) n)
names_ended bs ds names i found a w n σ rest c h before =
    subst (λ ns. Emitted bs ds c (bind_each w ns a σ (λ τ l. rest (bound_to found τ) l) n)) (none_past names i h) before
