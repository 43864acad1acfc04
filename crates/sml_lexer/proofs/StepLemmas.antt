-- A step of the scan, from what was read.
use Rattle.std.proofs.Common.{◌≡◌, ℕ, ◌+◌, ◌<◌, ◌≤◌, Bool, true, false, List, [], ◌∷◌, ◌++◌, Option, Some, None, length, take, drop, get_or, refl, sym, ap, ◌∙◌, subst, arith}
use Rattle.std.proofs.lemmas.List.{length-append, take-append-drop, length-take-le}
use Rattle.sml_lexer.specs.declared.quoted.Ending.{Ending}
use Rattle.sml_lexer.specs.declared.quoted.Ending.TheVariants as ending
use Rattle.sml_lexer.specs.declared.step.Spot.{Spot}
use Rattle.sml_lexer.specs.Meanings as meaning
use Rattle.sml_lexer.specs.Quoted.{Part}
use Rattle.sml_lexer.specs.QuotedRead.{values, FirstStray, IsRead, Ends}
use Rattle.sml_lexer.specs.QuotedRead as strays
use Rattle.sml_lexer.specs.Steps.{IsFirstAt, IsTokenAt, fault_of}
use Rattle.sml_lexer.proofs.StageLemmas.{IsWhole}
use Rattle.sml_lexer.proofs.ConstantSteps.{Which, quote, hash, constant_fault, constant_clean, IsClean, counted}
use Rattle.sml_lexer.proofs.ConstantTokens.{string_token, character_token}

pub cons_is : (c : ℕ) (bytes : List ℕ) → 0 < c → get_or bytes 0 0 ≡ c → c ∷ drop 1 bytes ≡ bytes
cons_is c [] h e = absurd (omega arith)
cons_is c (d ∷ bytes) h e = ap (λ x. x ∷ bytes) (sym e)

pub two_is : (c d : ℕ) (bytes : List ℕ) → 0 < c → 0 < d → get_or bytes 0 0 ≡ c → get_or bytes 1 0 ≡ d → c ∷ d ∷ drop 2 bytes ≡ bytes
two_is c d [] h k e f = absurd (omega arith)
two_is c d (x ∷ []) h k e f = absurd (omega arith)
two_is c d (x ∷ y ∷ bytes) h k e f = ap (λ z. z ∷ d ∷ bytes) (sym e) ∙ ap (λ z. x ∷ z ∷ bytes) (sym f)

whole_of : (rest : List ℕ) (len : ℕ) (value : List ℕ) (wide : Bool) (stray : Option ℕ) (r : IsRead rest len value wide stray) (e : Ending) → Ends e (drop len rest) → IsWhole rest (take len rest) r.parts e (drop len rest)
whole_of rest len value wide stray r e h = record { bytes_are = take-append-drop len rest; parts = r.are; ends = h }

-- where the first control byte stands
pub stray_room : (rest : List ℕ) (len : ℕ) (value : List ℕ) (wide : Bool) (stray : Option ℕ) → IsRead rest len value wide stray → (k : ℕ) → stray ≡ Some k → k < length rest
stray_room rest len value wide stray r k e = go (take len rest) r.parts stray r.stray_is e (let b = r.in_range in let l = length-take-le len rest b in omega arith)
  where
    go : (s : List ℕ) (ps : List Part) (o : Option ℕ) → FirstStray s ps o → o ≡ Some k → length s ≤ length rest → k < length rest
    go s ps o (strays.FirstStray.none u us h) q l = cc
    go s ps o (strays.FirstStray.at a t c us vs p h m n x) q l = let same : length a ≡ k = cc in let z = length-append a (c ∷ t) in omega arith

module _ (o : List ℕ) (b : Bool) (which : Which o b) (rest : List ℕ) (len : ℕ) (value : List ℕ) (wide : Bool) (stray : Option ℕ) (r : IsRead rest len value wide stray) (e : Ending) (h : Ends e (drop len rest)) where
  fault_here : (spot : Spot) → fault_of e b (length value) wide stray (length o) ≡ Some spot → IsFirstAt (o ++ rest) spot
  fault_here spot q = constant_fault o b which rest _ _ e _ (whole_of rest len value wide stray r e h) value r.values_are wide r.wide_is stray r.stray_is spot q

  clean_here : fault_of e b (length value) wide stray (length o) ≡ None → IsClean b r.parts e
  clean_here q = constant_clean o b which rest _ _ e _ (whole_of rest len value wide stray r e h) value r.values_are wide r.wide_is stray r.stray_is q

  -- a clean constant, to its closing quote
  closed_here : fault_of e b (length value) wide stray (length o) ≡ None → (y : List ℕ) × IsWhole rest (take len rest) r.parts ending.Closed (34 ∷ y) × IsClean b r.parts ending.Closed
  closed_here q =
      let c = clean_here q in
      let x = subst (λ d. Ends d (drop len rest)) c.closed h in
      (x.0, record { bytes_are = ap (λ z. take len rest ++ z) (sym x.1) ∙ take-append-drop len rest; parts = r.are; ends = (x.0, refl) }, subst (IsClean b r.parts) c.closed c)

module _ (bytes : List ℕ) (first : get_or bytes 0 0 ≡ 34) (len : ℕ) (value : List ℕ) (wide : Bool) (stray : Option ℕ) (r : IsRead (drop 1 bytes) len value wide stray) (e : Ending) (h : Ends e (drop len (drop 1 bytes))) where
  pub string_fault : (spot : Spot) → fault_of e false (length value) wide stray 1 ≡ Some spot → IsFirstAt bytes spot
  string_fault spot q = subst (λ x. IsFirstAt x spot) (cons_is 34 bytes (omega arith) first) (fault_here (34 ∷ []) false quote (drop 1 bytes) len value wide stray r e h spot q)

  pub string_good : fault_of e false (length value) wide stray 1 ≡ None → IsTokenAt bytes (len + 2) (meaning.text value)
  string_good q =
      let c = closed_here (34 ∷ []) false quote (drop 1 bytes) len value wide stray r e h q in
      let l = length-take-le len (drop 1 bytes) r.in_range in
      subst (λ x. IsTokenAt x (len + 2) (meaning.text value)) (cons_is 34 bytes (omega arith) first)
      (string_token (drop 1 bytes) (take len (drop 1 bytes)) r.parts c.0 c.1 c.2 value r.values_are (len + 2) (omega arith))

single : (value : List ℕ) → length value ≡ 1 → value ≡ get_or value 0 0 ∷ []
single [] h = absurd (omega arith)
single (c ∷ []) h = refl
single (c ∷ d ∷ value) h = absurd (omega arith)

module _ (bytes : List ℕ) (first : get_or bytes 0 0 ≡ 35) (second : get_or bytes 1 0 ≡ 34) (len : ℕ) (value : List ℕ) (wide : Bool) (stray : Option ℕ) (r : IsRead (drop 2 bytes) len value wide stray) (e : Ending) (h : Ends e (drop len (drop 2 bytes))) where
  pub character_fault : (spot : Spot) → fault_of e true (length value) wide stray 2 ≡ Some spot → IsFirstAt bytes spot
  character_fault spot q = subst (λ x. IsFirstAt x spot) (two_is 35 34 bytes (omega arith) (omega arith) first second) (fault_here (35 ∷ 34 ∷ []) true hash (drop 2 bytes) len value wide stray r e h spot q)

  pub character_one : fault_of e true (length value) wide stray 2 ≡ None → length value ≡ 1
  character_one q =
      let c = closed_here (35 ∷ 34 ∷ []) true hash (drop 2 bytes) len value wide stray r e h q in
      let w = whole_of (drop 2 bytes) len value wide stray r e h in
      counted (35 ∷ 34 ∷ []) true hash (drop 2 bytes) _ _ e _ w value r.values_are wide r.wide_is stray r.stray_is ∙ c.2.one refl

  pub character_good : fault_of e true (length value) wide stray 2 ≡ None → IsTokenAt bytes (len + 3) (meaning.character (get_or value 0 0))
  character_good q =
      let c = closed_here (35 ∷ 34 ∷ []) true hash (drop 2 bytes) len value wide stray r e h q in
      let l = length-take-le len (drop 2 bytes) r.in_range in
      subst (λ x. IsTokenAt x (len + 3) (meaning.character (get_or value 0 0))) (two_is 35 34 bytes (omega arith) (omega arith) first second)
      (character_token (drop 2 bytes) (take len (drop 2 bytes)) r.parts c.0 c.1 c.2 (get_or value 0 0) (r.values_are ∙ single value (character_one q)) (len + 3) (omega arith))
