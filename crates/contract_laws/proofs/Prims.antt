-- Primitives come to the same in both.
use Rattle.std.proofs.Common.{◌≡◌, ℕ, suc, ℤ, pos, List, [], ◌∷◌, ◌++◌, map, length, Option, Some, None, Bool, true, false, refl, ap, ◌∙◌, subst}
use Rattle.smlc_base.specs.declared.point.Point.{Point}
use Rattle.smlc_base.specs.declared.primitive.Primitive.{Primitive}
use Rattle.smlc_base.specs.declared.primitive.Primitive.TheVariants as prim
use Rattle.simulation.proofs.Lists.{some_eq}
use Rattle.prim_meaning.specs.Data.{Datum, AScalar, AText, Plain, ANumber, ATag, AString, plain, one_letter, code_of}
use Rattle.prim_meaning.specs.Meaning.{Seen, Scalar, Text, Tuple, Applied, Cell, Packet, Opaque, Outcome, Comes, Gives, datum, plainly, deref, letters, imploded, meaning}
use Rattle.prim_meaning.specs.Alike.{SameOutcome, HasBlocks}
use Rattle.sml_def.specs.State.{Value}
use Rattle.sml_def.specs.Builtin.{see}
use Rattle.lambda_ir.specs.Free.{is_comparison}
use Rattle.cps_ir.specs.Code.{Tree}
use Rattle.cps_ir.specs.State.{Piece, datum_of, data_of}
use Rattle.contract_laws.specs.Contract.{is_pure}
use Rattle.contract_laws.proofs.Relation.{Val, Vals, Heap}
use Rattle.contract_laws.proofs.Sees.{meaning_sees}
use Rattle.contract_laws.proofs.Seeing.{IsCells, vals_alike, views, has_blocks}
use Rattle.contract_laws.proofs.States.{IsQuiet, quiet_number, quiet_tag, quiet_text, quiet_old, PrimsKeep}

length_data : (ps : List Piece) → length (data_of ps) ≡ length ps
length_data [] = refl
length_data (p ∷ ps) = ap suc (length_data ps)

prim_kept : (q : Tree) (L : List Point) (f : ℕ → ℕ) (st ps : List Piece) → Heap q.texts L f st ps → (input : List ℕ) (g : Primitive) (us vs : List Value) → Vals L f st (length ps) us vs → is_comparison g ≡ false → (o : Outcome Value) → meaning (see q.texts (data_of st)) (length st) input g us ≡ Some o → (r : Outcome Value) × (meaning (see q.texts (data_of ps)) (length ps) input g vs ≡ Some r) × SameOutcome (IsCells f st ps) (Val L f st (length ps)) o r
prim_kept q L f st ps h input g us vs r c o e =
    meaning_sees (IsCells f st ps) (Val L f st (length ps)) (see q.texts (data_of st)) (see q.texts (data_of ps)) (views q.texts L f st ps h) (length st) (length ps)
    (subst (λ n. HasBlocks (see q.texts (data_of ps)) n) (length_data ps) (has_blocks q.texts (data_of ps))) input g c us vs (vals_alike q.texts L f st ps h us vs r) o e

-- ---- What neither raises nor acts

letter_quiet : (o : Option ℕ) (r : Plain) → one_letter o ≡ Some r → IsQuiet (Comes r)
letter_quiet None r e = absurd (cc)
letter_quiet (Some c) r e = some_eq (λ p. IsQuiet (Comes p)) (AString (c ∷ [])) r e (quiet_text (c ∷ []))

tag_is : (n : ℕ) (r : Plain) → Some (ATag n) ≡ Some r → IsQuiet (Comes r)
tag_is n r e = some_eq (λ p. IsQuiet (Comes p)) (ATag n) r e (quiet_tag n)

quiet_data : (input : List ℕ) (f : Primitive) (ds : List Datum) (r : Plain) → is_pure f ≡ true → plain input f ds ≡ Some r → IsQuiet (Comes r)
quiet_data input prim.Less (AScalar x ∷ AScalar y ∷ []) r p e = tag_is _ r e
quiet_data input prim.Greater (AScalar x ∷ AScalar y ∷ []) r p e = tag_is _ r e
quiet_data input prim.AtMost (AScalar x ∷ AScalar y ∷ []) r p e = tag_is _ r e
quiet_data input prim.AtLeast (AScalar x ∷ AScalar y ∷ []) r p e = tag_is _ r e
quiet_data input prim.Ord (AScalar x ∷ []) r p e = some_eq (λ t. IsQuiet (Comes t)) (ANumber x) r e (quiet_number x)
quiet_data input prim.Str (AScalar x ∷ []) r p e = letter_quiet (code_of x) r e
quiet_data input prim.Size (AText bytes ∷ []) r p e = some_eq (λ t. IsQuiet (Comes t)) (ANumber (pos (length bytes))) r e (quiet_number (pos (length bytes)))
quiet_data input prim.Concat (AText bytes ∷ AText more ∷ []) r p e = some_eq (λ t. IsQuiet (Comes t)) (AString (bytes ++ more)) r e (quiet_text (bytes ++ more))
quiet_data input prim.Compare (AText bytes ∷ AText more ∷ []) r p e = tag_is _ r e
quiet_data input _ _ r p e = absurd (cc)

plain_quiet : (o : Option Plain) → ((r : Plain) → o ≡ Some r → IsQuiet (Comes r)) → (x : Outcome Value) → plainly o ≡ Some x → IsQuiet x
plain_quiet None h x e = absurd (cc)
plain_quiet (Some r) h x e = some_eq IsQuiet (Comes r) x e (h r refl)

deref_quiet : (s : Seen Value) (x : Outcome Value) → deref s ≡ Some x → IsQuiet x
deref_quiet (Cell a v) x e = some_eq IsQuiet (Gives v) x e (quiet_old v)
deref_quiet _ x e = absurd (cc)

imploded_quiet : (look : Value → Seen Value) (o : Option (List ℕ)) (x : Outcome Value) → imploded look o ≡ Some x → IsQuiet x
imploded_quiet look None x e = absurd (cc)
imploded_quiet look (Some bytes) x e = some_eq IsQuiet (Comes (AString bytes)) x e (quiet_text bytes)

module _ (look : Value → Seen Value) (most : ℕ) (input : List ℕ) where
  by_quiet : (f : Primitive) (vs : List Value) (x : Outcome Value) → is_pure f ≡ true → plainly (plain input f (map (λ v. datum (look v)) vs)) ≡ Some x → IsQuiet x
  by_quiet f vs x p e = plain_quiet (plain input f (map (λ v. datum (look v)) vs)) (λ r k. quiet_data input f (map (λ v. datum (look v)) vs) r p k) x e

  quiet : (f : Primitive) (vs : List Value) (x : Outcome Value) → is_pure f ≡ true → meaning look most input f vs ≡ Some x → IsQuiet x
  quiet prim.Deref [] x p e = absurd (cc)
  quiet prim.Deref (v ∷ []) x p e = deref_quiet (look v) x e
  quiet prim.Deref (v ∷ w ∷ vs) x p e = absurd (cc)
  quiet prim.Implode [] x p e = absurd (cc)
  quiet prim.Implode (v ∷ []) x p e = imploded_quiet look (letters look (suc most) v) x e
  quiet prim.Implode (v ∷ w ∷ vs) x p e = absurd (cc)
  quiet prim.Less vs x p e = by_quiet prim.Less vs x p e
  quiet prim.Greater vs x p e = by_quiet prim.Greater vs x p e
  quiet prim.AtMost vs x p e = by_quiet prim.AtMost vs x p e
  quiet prim.AtLeast vs x p e = by_quiet prim.AtLeast vs x p e
  quiet prim.Ord vs x p e = by_quiet prim.Ord vs x p e
  quiet prim.Concat vs x p e = by_quiet prim.Concat vs x p e
  quiet prim.Size vs x p e = by_quiet prim.Size vs x p e
  quiet prim.Str vs x p e = by_quiet prim.Str vs x p e
  quiet prim.Compare vs x p e = by_quiet prim.Compare vs x p e
  quiet _ vs x p e = absurd (cc)

pub prims_keep : (q : Tree) (L : List Point) → PrimsKeep q L
prims_keep q L = record {
  kept = prim_kept q L;
  quiet = λ st input g us p o e. quiet (see q.texts (data_of st)) (length st) input g us o p e;
}
