-- What a body has, and what is left to be written.
use Rattle.std.proofs.Common.{◌≡◌, ℕ, List, [], ◌∷◌, ◌++◌, refl, sym, ap, ◌∙◌, flat_map}
use Rattle.std.proofs.lemmas.Grind.{flat_map-append}
use Rattle.cps_ir.specs.declared.body.Bind.{Bind}
use Rattle.cps_ir.specs.Code.{Code}
use Rattle.cps_ir.specs.Program.{code_of_bind, code_of_binds}
use Rattle.cps_ir.specs.Kept.{bind_parts}
use Rattle.convert_pieces.specs.Emitted.{Emitted}

pub binds_more : (part : ℕ → Code) (bs : List Bind) (b : Bind) (c : Code) → code_of_binds part (bs ++ b ∷ []) c ≡ code_of_binds part bs (code_of_bind part b c)
binds_more part [] b c = refl
binds_more part (d ∷ bs) b c = ap (code_of_bind part d) (binds_more part bs b c)

pub nil_right : {X : Type 0} (xs : List X) → xs ++ [] ≡ xs
nil_right [] = refl
nil_right (x ∷ xs) = ap (λ ys. x ∷ ys) (nil_right xs)

pub parts_more : (bs : List Bind) (b : Bind) → flat_map bind_parts (bs ++ b ∷ []) ≡ flat_map bind_parts bs ++ bind_parts b
parts_more bs b = flat_map-append bind_parts bs (b ∷ []) ∙ ap (λ ys. flat_map bind_parts bs ++ ys) (nil_right (bind_parts b))

pub emitted_same : (bs : List Bind) (c d : Code) → c ≡ d → Emitted bs bs c d
emitted_same bs c d e = record { code = λ part. ap (code_of_binds part bs) e; bodies = refl }

pub emitted_then : (bs cs ds : List Bind) (x y z : Code) → Emitted bs cs x y → Emitted cs ds y z → Emitted bs ds x z
emitted_then bs cs ds x y z e f = record { code = λ part. e.code part ∙ f.code part; bodies = f.bodies ∙ e.bodies }

pub emitted_to : (bs cs : List Bind) (x y z : Code) → y ≡ z → Emitted bs cs x y → Emitted bs cs x z
emitted_to bs cs x y z e f = emitted_then bs cs cs x y z f (emitted_same cs y z e)

-- one that names no body
pub emitted_one : (bs new : List Bind) (b : Bind) (before after : Code) → new ≡ bs ++ b ∷ [] → bind_parts b ≡ [] → ((part : ℕ → Code) → before ≡ code_of_bind part b after) → Emitted bs new before after
emitted_one bs new b before after e none h = record {
  code = λ part. ap (code_of_binds part bs) (h part) ∙ sym (binds_more part bs b after) ∙ ap (λ ds. code_of_binds part ds after) (sym e);
  bodies = ap (flat_map bind_parts) e ∙ parts_more bs b ∙ ap (λ ys. flat_map bind_parts bs ++ ys) none ∙ nil_right (flat_map bind_parts bs);
}
