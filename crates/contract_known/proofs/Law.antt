-- What constants say by their kinds is what the definition of a round has them say.
use Rattle.std.proofs.Common.{◌≡◌, ℕ, ℤ, pos, negsuc, List, [], ◌∷◌, ◌++◌, Bool, true, false, cond, not, Option, Some, None, slice_get, nat_eq, refl, sym, ap, ◌∙◌, arith, append_assoc}
use Rattle.std.proofs.lemmas.Int.{ints}
use Rattle.std.specs.Ordering.{int_eq}
use Rattle.smlc_base.specs.Exceptions.{exn_number}
use Rattle.prim_meaning.specs.Data.{code_of}
use Rattle.prim_meaning.specs.Tests.{is_number, bytes_wanted}
use Rattle.prim_meaning.specs.Strict.{flagged, scalar_met, number_met, bytes_met, met, name_met}
use Rattle.sml_def.specs.Builtin.{see, see_text, which}
use Rattle.sml_def.specs.State.{Value}
use Rattle.sml_def.specs.Maybe.{◌>>=◌}
use Rattle.cps_ir.specs.declared.atom.Constant.{Constant}
use Rattle.cps_ir.specs.declared.atom.Constant.TheVariants as constant
use Rattle.cps_ir.specs.declared.atom.Atom.{Atom}
use Rattle.cps_ir.specs.declared.atom.Atom.TheVariants as atom
use Rattle.cps_ir.specs.declared.atom.Wanted.{Wanted}
use Rattle.cps_ir.specs.declared.atom.Wanted.TheVariants as want
use Rattle.cps_ir.specs.declared.atom.Test.{Test}
use Rattle.cps_ir.specs.State.{value_of}
use Rattle.cps_ir.specs.Tests.{is_name}
use Rattle.contract_laws.specs.Contract.{Made, is_constant, says, says_made}
use Rattle.contract_round.specs.Round.{Inlined, known, answer, at_end, verdict, test_in, test_left, tests_left}
use Rattle.contract_known.specs.Known.{both_texts, says_known, says_shape, answer_known, tests_known}

number_is : (n : ℕ) (z : ℤ) → int_eq (pos n) z ≡ is_number n (code_of z)
number_is n (pos c) = grind (arith, ints)
number_is n (negsuc c) = grind (arith, ints)

module _ (texts : List (List ℕ)) where
  scalar_text : (z : ℤ) (o : Option (List ℕ)) → scalar_met z (see_text o) ≡ None
  scalar_text z None = refl
  scalar_text z (Some bs) = refl

  number_text : (n : ℕ) (o : Option (List ℕ)) → number_met n (see_text o) ≡ None
  number_text n None = refl
  number_text n (Some bs) = refl

  -- what isn't a text isn't as a text is wanted
  no_text : (o : Option (List ℕ)) (v : Value) → ((bs : List ℕ) → bytes_met bs (see texts [] v) ≡ None) → None ≡ met (see texts []) which (is_name []) (bytes_wanted o) v
  no_text None v h = refl
  no_text (Some bs) v h = sym (h bs)

  text_is : (o p : Option (List ℕ)) (u : ℕ) → slice_get texts u ≡ p → both_texts o p ≡ met (see texts []) which (is_name []) (bytes_wanted o) (value_of (constant.Text u))
  text_is None None u e = refl
  text_is None (Some cs) u e = refl
  text_is (Some bs) None u e = sym (ap (λ q. bytes_met bs (see_text q)) e)
  text_is (Some bs) (Some cs) u e = sym (ap (λ q. bytes_met bs (see_text q)) e)

  name_text : (x : Value) (applied : Bool) (u : ℕ) (o : Option (List ℕ)) → name_met (see texts []) which (is_name []) x applied (value_of (constant.Text u)) (see_text o) ≡ None
  name_text x applied u None = refl
  name_text x applied u (Some bs) = refl

  names_are : (applied b : Bool) → cond b (cond applied None (Some true)) (Some false) ≡ flagged (not applied) b
  names_are true true = refl
  names_are true false = refl
  names_are false true = refl
  names_are false false = refl

  pub says_is : (w : Wanted) (k : Constant) → says_known texts w k ≡ cond (is_constant w) (says texts w k) None
  says_is (want.Num z) (constant.Int m) = refl
  says_is (want.Num z) (constant.Char c) = refl
  says_is (want.Num z) constant.Nothing = refl
  says_is (want.Num z) (constant.Tag n) = refl
  says_is (want.Num z) (constant.Text u) = sym (scalar_text z (slice_get texts u))
  says_is (want.Num z) (constant.Library e) = refl
  says_is (want.Num z) constant.StdIn = refl
  says_is (want.Tag t) (constant.Int m) = ap Some (number_is t.number m)
  says_is (want.Tag t) (constant.Char c) = ap Some (number_is t.number (pos c))
  says_is (want.Tag t) constant.Nothing = ap Some (number_is t.number (pos 0))
  says_is (want.Tag t) (constant.Tag n) = ap Some (number_is t.number (pos n))
  says_is (want.Tag t) (constant.Text u) = sym (number_text t.number (slice_get texts u))
  says_is (want.Tag t) (constant.Library e) = refl
  says_is (want.Tag t) constant.StdIn = ap Some (number_is t.number (pos 0))
  says_is (want.Text t) (constant.Int m) = no_text (slice_get texts t) (value_of (constant.Int m)) (λ bs. refl)
  says_is (want.Text t) (constant.Char c) = no_text (slice_get texts t) (value_of (constant.Char c)) (λ bs. refl)
  says_is (want.Text t) constant.Nothing = no_text (slice_get texts t) (value_of constant.Nothing) (λ bs. refl)
  says_is (want.Text t) (constant.Tag n) = no_text (slice_get texts t) (value_of (constant.Tag n)) (λ bs. refl)
  says_is (want.Text t) (constant.Text u) = text_is (slice_get texts t) (slice_get texts u) u refl
  says_is (want.Text t) (constant.Library e) = no_text (slice_get texts t) (value_of (constant.Library e)) (λ bs. refl)
  says_is (want.Text t) constant.StdIn = no_text (slice_get texts t) (value_of constant.StdIn) (λ bs. refl)
  says_is (want.Exn (atom.Var x) applied) k = refl
  says_is (want.Exn (atom.Constant (constant.Int z)) applied) k = refl
  says_is (want.Exn (atom.Constant (constant.Char c)) applied) k = refl
  says_is (want.Exn (atom.Constant constant.Nothing) applied) k = refl
  says_is (want.Exn (atom.Constant (constant.Tag n)) applied) k = refl
  says_is (want.Exn (atom.Constant (constant.Text u)) applied) k = refl
  says_is (want.Exn (atom.Constant constant.StdIn) applied) k = refl
  says_is (want.Exn (atom.Constant (constant.Library d)) applied) (constant.Int m) = refl
  says_is (want.Exn (atom.Constant (constant.Library d)) applied) (constant.Char c) = refl
  says_is (want.Exn (atom.Constant (constant.Library d)) applied) constant.Nothing = refl
  says_is (want.Exn (atom.Constant (constant.Library d)) applied) (constant.Tag n) = refl
  says_is (want.Exn (atom.Constant (constant.Library d)) applied) (constant.Text u) = sym (name_text (value_of (constant.Library d)) applied u (slice_get texts u))
  says_is (want.Exn (atom.Constant (constant.Library d)) applied) (constant.Library e) = names_are applied (nat_eq (exn_number d) (exn_number e))
  says_is (want.Exn (atom.Constant (constant.Library d)) applied) constant.StdIn = refl

  module _ (σ : ℕ → Atom) (τ : ℕ → Option Made) (ι : ℕ → Option Inlined) where
    shape_says : (w : Wanted) (o : Option Made) → says_shape w (o >>= (λ t. Some t.shape)) ≡ (o >>= (λ t. says_made w t.shape))
    shape_says w None = refl
    shape_says w (Some t) = refl

    answer_is : (w : Wanted) (a : Atom) → answer_known texts τ w a ≡ answer texts τ w a
    answer_is w (atom.Var x) = shape_says w (τ x)
    answer_is w (atom.Constant k) = says_is w k

    then_is : (w : Wanted) (o : Option Atom) → (o >>= answer_known texts τ w) ≡ (o >>= answer texts τ w)
    then_is w None = refl
    then_is w (Some a) = answer_is w a

    pub left_is : (a : Atom) (tests : List Test) → tests_known texts σ τ a tests ≡ tests_left texts (known σ τ ι) a tests
    left_is a [] = refl
    left_is a (t ∷ tests) =
        ap (λ v. test_left v (test_in σ t) (tests_known texts σ τ a tests)) (then_is t.want (at_end τ a t.path)) ∙ ap (test_left (verdict texts τ a t) (test_in σ t)) (left_is a tests)

-- ---- One test after the other

abbrev pub put_first : List Test → Option (List Test) → Option (List Test)
put_first us None = None
put_first us (Some vs) = Some (us ++ vs)

pub put_none : (o : Option (List Test)) → put_first [] o ≡ o
put_none None = refl
put_none (Some us) = refl

pub put_one : (us : List Test) (t : Test) (o : Option (List Test)) → put_first (us ++ t ∷ []) o ≡ put_first us (test_left None t o)
put_one us t None = refl
put_one us t (Some vs) = ap Some (append_assoc us (t ∷ []) vs)
