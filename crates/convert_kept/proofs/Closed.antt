-- No variable is free in what conversion makes.
use Rattle.std.proofs.Common.{◌≡◌, ℕ, Bool, true, false, not, ◌&&◌, ◌||◌, List, [], ◌∷◌, nat_eq, refl, ◌∙◌, eq-eqb}
use Rattle.std.specs.List.{AllByRecursion}
use Rattle.sml_tree.specs.Sets.{has, union, without}
use Rattle.sml_tree.proofs.Members.{has-union, has-without}
use Rattle.lambda_ir.specs.Program.{Lambda}
use Rattle.cps_ir.specs.declared.atom.Atom.{Atom}
use Rattle.cps_ir.specs.declared.atom.Test.{Test}
use Rattle.cps_ir.specs.declared.atom.Wanted.{Wanted}
use Rattle.cps_ir.specs.declared.atom.Wanted.TheVariants as wanted
use Rattle.cps_ir.specs.Code.{names_of}
use Rattle.cps_ir.specs.Free.{vars, vars_all, vars_wanted, vars_tests, free_code, free_functions, free_rules}
use Rattle.cps_ir.specs.Program.{Cps}
use Rattle.convert_laws.specs.Convert.{convert}
use Rattle.convert_kept.specs.Law.{ConversionIsClosed}
use Rattle.convert_kept.proofs.Forms.{AllHave, WantedHas, TestsHave, ByForms}
use Rattle.convert_kept.proofs.Terms.{conversion_has}

neither : (b c : Bool) → b ≡ false → c ≡ false → (b || c) ≡ false
neither true c e h = absurd cc
neither false c e h = h

not_first : (b c : Bool) → (b || c) ≡ false → b ≡ false
not_first true c e = absurd cc
not_first false c e = refl

not_later : (b c : Bool) → (b || c) ≡ false → c ≡ false
not_later true c e = absurd cc
not_later false c e = e

-- a list of nothing is empty
none_in : (xs : List ℕ) → ((y : ℕ) → has xs y ≡ false) → xs ≡ []
none_in [] h = refl
none_in (x ∷ xs) h =
    let clash : nat_eq x x ≡ false = not_first (nat_eq x x) (has xs x) (h x) in let same : nat_eq x x ≡ true = eq-eqb x x refl in absurd cc

-- what a body lacks
module _ (y : ℕ) where
  abbrev Lacks : List ℕ → Type 0
  Lacks xs = has xs y ≡ false

  abbrev pub Other : Atom → Type 0
  Other a = Lacks (vars a)

  both_lack : (xs ys : List ℕ) → Lacks xs → Lacks ys → Lacks (union xs ys)
  both_lack xs ys h g = has-union xs ys y ∙ neither (has xs y) (has ys y) h g

  -- of what is bound it may be taken that it is another
  rest_lacks : (xs gone : List ℕ) → (Lacks gone → Lacks xs) → Lacks (without xs gone)
  rest_lacks xs gone h = has-without xs gone y ∙ by (has gone y) h
    where
      by : (b : Bool) → (b ≡ false → Lacks xs) → (not b && has xs y) ≡ false
      by true g = refl
      by false g = g refl

  others : (xs : List ℕ) → Lacks xs → AllHave Other xs
  others [] h = tt
  others (x ∷ xs) h =
      (neither (nat_eq y x) false (not_first (nat_eq y x) (has xs y) h) refl, others xs (not_later (nat_eq y x) (has xs y) h))

  atoms_lack : (atoms : List Atom) → AllByRecursion Other atoms → Lacks (vars_all atoms)
  atoms_lack [] h = refl
  atoms_lack (a ∷ atoms) h = both_lack (vars a) (vars_all atoms) h.0 (atoms_lack atoms h.1)

  module _ (q : Cps) where
    wanted_lacks : (w : Wanted) → WantedHas q Other w → Lacks (vars_wanted w)
    wanted_lacks (wanted.Num z) h = refl
    wanted_lacks (wanted.Tag t) h = refl
    wanted_lacks (wanted.Text t) h = refl
    wanted_lacks (wanted.Exn a applied) h = h

    tests_lack : (ts : List Test) → TestsHave q Other ts → Lacks (vars_tests ts)
    tests_lack [] h = refl
    tests_lack (t ∷ ts) h = both_lack (vars_wanted t.want) (vars_tests ts) (wanted_lacks t.want h.0) (tests_lack ts h.1)

    pub lacks_by_forms : ByForms q Other (λ c. Lacks (free_code c)) (λ fs. Lacks (free_functions fs)) (λ rs. Lacks (free_rules rs))
    lacks_by_forms = record {
      constant = λ k h. refl;
      make = λ x s atoms c r h g. both_lack (vars_all atoms) (without (free_code c) (x ∷ [])) (atoms_lack atoms h) (rest_lacks (free_code c) (x ∷ []) g);
      pick = λ x i a c h g. both_lack (vars a) (without (free_code c) (x ∷ [])) h (rest_lacks (free_code c) (x ∷ []) g);
      prim = λ x f atoms c h g. both_lack (vars_all atoms) (without (free_code c) (x ∷ [])) (atoms_lack atoms h) (rest_lacks (free_code c) (x ∷ []) g);
      equal = λ a b t k h g i. atoms_lack (a ∷ b ∷ k ∷ []) (h, (g, (i, tt)));
      fix = λ fs c h g. rest_lacks (union (free_functions fs) (free_code c)) (names_of fs) (λ o. both_lack (free_functions fs) (free_code c) (h (others (names_of fs) o)) (g (others (names_of fs) o)));
      call = λ a atoms h g. both_lack (vars a) (vars_all atoms) h (atoms_lack atoms g);
      match = λ a rules h g. both_lack (vars a) (free_rules rules) h g;
      handler = λ x c g. rest_lacks (free_code c) (x ∷ []) g;
      set_handler = λ a c h g. both_lack (vars a) (free_code c) h g;
      throw = λ a h. h;
      halt = refl;
      no_function = refl;
      function = λ f p params b fs h g. both_lack (without (free_code b) params) (free_functions fs) (rest_lacks (free_code b) params (λ o. h (others params o))) g;
      otherwise = λ c h. h;
      alone = λ c h. h;
      rule = λ ts c rs t h g. both_lack (vars_tests ts) (union (free_code c) (free_rules rs)) (tests_lack ts t) (both_lack (free_code c) (free_rules rs) h g);
    }

-- the texts and names of a program
abbrev cited : Lambda → Cps
cited l = record { bodies = []; variables = 0; sites = l.sites; texts = l.texts; exns = l.exns }

pub conversion_is_closed : ConversionIsClosed
conversion_is_closed l p own =
    none_in (free_code (convert own l.terms)) (λ y. conversion_has l (cited l) p refl refl (Other y) (λ c. Lacks y (free_code c)) (λ fs. Lacks y (free_functions fs)) (λ rs. Lacks y (free_rules rs)) (lacks_by_forms y (cited l)) own)
