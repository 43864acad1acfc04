-- New names, and the number of `=`.
use Rattle.std.proofs.Common.{◌≡◌, ◌<◌, ◌≤◌, ◌-◌, ◌+◌, true, false, ℕ, zero, suc, List, [], ◌∷◌, ◌++◌, Some, length, drop, slice_get, refl, sym, ap, ◌∙◌, add-one, arith}
use Rattle.std.specs.Prelude.{bytes_eq, codes, if◌then◌else◌}
use Rattle.std.proofs.lemmas.List.{append_assoc, append-nil}
use Rattle.sml_expansion.specs.declared.made.Made.{Made}
use Rattle.sml_expansion.specs.Makings.{Runs, new_name, new_names}
use Rattle.sml_expansion.specs.Scopes.{equals}

-- those that are made and those that are left are all
pub record AreNamed (text : List ℕ) (count done : ℕ) (names : List ℕ) (before now : Made) : Type 0 where
  pub are : names ++ (new_names text (count - done) now).0 ≡ (new_names text count before).0
  pub left : (new_names text (count - done) now).1 ≡ (new_names text count before).1

pub named_none : (text : List ℕ) (count : ℕ) (m : Made) → AreNamed text count 0 [] m m
named_none text count m = let z : count - 0 ≡ count = omega arith in record { are = ap (λ k. (new_names text k m).0) z; left = ap (λ k. (new_names text k m).1) z }

pub named_one : (text : List ℕ) (count done x : ℕ) (names : List ℕ) (before now next : Made) → done < count → Runs (new_name text) now x next → AreNamed text count done names before now → AreNamed text count (done + 1) (names ++ x ∷ []) before next
named_one text count done x names before now next h run n =
    let e : count - done ≡ suc (count - (done + 1)) = omega (arith, h) in
    let first : (new_names text (count - done) now).0 ≡ x ∷ (new_names text (count - (done + 1)) next).0 = ap (λ k. (new_names text k now).0) e ∙ ap (λ r. r.0 ∷ (new_names text (count - (done + 1)) r.1).0) run in
    let rest : (new_names text (count - done) now).1 ≡ (new_names text (count - (done + 1)) next).1 = ap (λ k. (new_names text k now).1) e ∙ ap (λ r. (new_names text (count - (done + 1)) r.1).1) run in
    record { are = append_assoc names (x ∷ []) (new_names text (count - (done + 1)) next).0 ∙ ap (λ l. names ++ l) (sym first) ∙ n.are; left = sym rest ∙ n.left }

pub named_all : (text : List ℕ) (count done : ℕ) (names : List ℕ) (before now : Made) → count ≤ done → AreNamed text count done names before now → Runs (new_names text count) before names now
named_all text count done names before now h n =
    let z : count - done ≡ 0 = omega (arith, h) in
    let all : names ≡ (new_names text count before).0 = sym (append-nil names) ∙ ap (λ k. names ++ (new_names text k now).0) (sym z) ∙ n.are in
    let last : now ≡ (new_names text count before).1 = ap (λ k. (new_names text k now).1) (sym z) ∙ n.left in
    let both : (names, now) ≡ ((new_names text count before).0, (new_names text count before).1) = cc in
    sym both

-- the number of `=`, as far as the names are read
pub equals_here : (names : List (List ℕ)) (key : ℕ) (text : List ℕ) → slice_get names key ≡ Some text → bytes_eq text (codes "=") ≡ true → key + equals (drop key names) ≡ equals names → key ≡ equals names
equals_here names key text g e h = let z : equals (drop key names) ≡ 0 = found names key text g e in omega (arith, z, h)
  where
    found : (names : List (List ℕ)) (key : ℕ) (text : List ℕ) → slice_get names key ≡ Some text → bytes_eq text (codes "=") ≡ true → equals (drop key names) ≡ 0
    found [] zero text g e = cc
    found [] (suc key) text g e = cc
    found (x ∷ names) zero text g e = let same : x ≡ text = cc in ap (λ b. if b then 0 else suc (equals names)) (ap (λ t. bytes_eq t (codes "=")) same ∙ e)
    found (x ∷ names) (suc key) text g e = found names key text g e

pub equals_on : (names : List (List ℕ)) (key : ℕ) (text : List ℕ) → slice_get names key ≡ Some text → bytes_eq text (codes "=") ≡ false → key + equals (drop key names) ≡ equals names → key + 1 + equals (drop (key + 1) names) ≡ equals names
equals_on names key text g e h =
    let s : equals (drop key names) ≡ suc (equals (drop (suc key) names)) = passed names key text g e in
    let k : equals (drop (key + 1) names) ≡ equals (drop (suc key) names) = ap (λ i. equals (drop i names)) (add-one key) in
    omega (arith, s, k, h)
  where
    passed : (names : List (List ℕ)) (key : ℕ) (text : List ℕ) → slice_get names key ≡ Some text → bytes_eq text (codes "=") ≡ false → equals (drop key names) ≡ suc (equals (drop (suc key) names))
    passed [] zero text g e = cc
    passed [] (suc key) text g e = cc
    passed (x ∷ names) zero text g e = let same : x ≡ text = cc in ap (λ b. if b then 0 else suc (equals names)) (ap (λ t. bytes_eq t (codes "=")) same ∙ e)
    passed (x ∷ names) (suc key) text g e = passed names key text g e

pub equals_past : (names : List (List ℕ)) (key : ℕ) → length names ≤ key → key + equals (drop key names) ≡ equals names → key ≡ equals names
equals_past names key h e = let z : equals (drop key names) ≡ 0 = none names key h in omega (arith, z, e)
  where
    none : (names : List (List ℕ)) (key : ℕ) → length names ≤ key → equals (drop key names) ≡ 0
    none [] zero h = refl
    none [] (suc key) h = refl
    none (x ∷ names) zero h = absurd (omega (arith, h))
    none (x ∷ names) (suc key) h = let l : length names ≤ key = omega (arith, h) in none names key l
