-- Instructions of each format that fit, and items one behind the other.
use Rattle.std.proofs.Common.{◌≡◌, ℕ, ◌<◌, ◌%◌, ℤ, pos, Bool, true, false, cond, List, [], ◌∷◌, ◌++◌, refl, sym, subst, arith}
use Rattle.std.specs.Prelude.{nat_lt}
use Rattle.std.specs.List.{AllByRecursion}
use Rattle.rv_isa.specs.declared.table.Format.TheVariants.{R, I, S, B, U, Shift6}
use Rattle.rv_isa.specs.declared.table.Op.{Op}
use Rattle.rv_isa.specs.Table.{shape_of}
use Rattle.rv_isa.specs.Word.{ins, unsigned, IsWithin, IsBelow, FitsAs}
use Rattle.rv_asm.specs.declared.item.Item.{Item}
use Rattle.rv_asm.specs.Item.{IsSound}
use Rattle.emit_items.specs.Items.{r_item, i_item, s_item, u_item}

-- ---- Lists

abbrev pub Sound : ℕ → List Item → Type 0
Sound count items = AllByRecursion (IsSound count) items

pub both : (count : ℕ) (xs ys : List Item) → Sound count xs → Sound count ys → Sound count (xs ++ ys)
both count [] ys p q = q
both count (x ∷ xs) ys p q = (p.0, both count xs ys p.1 q)

pub choice : (count : ℕ) (b : Bool) (xs ys : List Item) → (b ≡ true → Sound count xs) → (b ≡ false → Sound count ys) → Sound count (cond b xs ys)
choice count true xs ys p q = p refl
choice count false xs ys p q = q refl

pub either : (count : ℕ) (b : Bool) (xs ys : List Item) → Sound count xs → Sound count ys → Sound count (cond b xs ys)
either count b xs ys p q = choice count b xs ys (λ e. p) (λ e. q)

-- ---- Formats

pub below : (m n : ℕ) → nat_lt m n ≡ true → m < n
below m n e = grind arith

abbrev pub IsRegister : ℕ → Type 0
IsRegister r = r < 32

pub register : (r : ℕ) → nat_lt r 32 ≡ true → IsRegister r
register r e = below r 32 e

module _ (count : ℕ) (op : Op) where
  pub r_sound : (rd a b : ℕ) → (shape_of op).format ≡ R → IsRegister rd → IsRegister a → IsRegister b → IsSound count (r_item op rd a b)
  r_sound rd a b e p q r = subst (λ f. FitsAs f (ins op rd a b (pos 0))) (sym e) (p, q, r, refl)

  pub i_sound : (rd a : ℕ) (z : ℤ) → (shape_of op).format ≡ I → IsRegister rd → IsRegister a → IsWithin 2048 z → IsSound count (i_item op rd a z)
  i_sound rd a z e p q w = subst (λ f. FitsAs f (ins op rd a 0 z)) (sym e) (p, q, refl, w)

  pub shift_sound : (rd a : ℕ) (z : ℤ) → (shape_of op).format ≡ Shift6 → IsRegister rd → IsRegister a → IsBelow 64 z → IsSound count (i_item op rd a z)
  shift_sound rd a z e p q w = subst (λ f. FitsAs f (ins op rd a 0 z)) (sym e) (p, q, refl, w)

  pub store_sound : (a b : ℕ) (z : ℤ) → (shape_of op).format ≡ S → IsRegister a → IsRegister b → IsWithin 2048 z → IsSound count (s_item op a b z)
  store_sound a b z e p q w = subst (λ f. FitsAs f (ins op 0 a b z)) (sym e) (refl, p, q, w)

  pub branch_sound : (a b n : ℕ) → (shape_of op).format ≡ B → IsRegister a → IsRegister b → n < 4096 → n % 2 ≡ 0 → IsSound count (s_item op a b (pos n))
  branch_sound a b n e p q w v = subst (λ f. FitsAs f (ins op 0 a b (pos n))) (sym e) (refl, p, q, w, v)

  pub upper_sound : (rd : ℕ) (z : ℤ) → (shape_of op).format ≡ U → IsRegister rd → IsWithin 2147483648 z → unsigned 2147483648 z % 4096 ≡ 0 → IsSound count (u_item op rd z)
  upper_sound rd z e p w v = subst (λ f. FitsAs f (ins op rd 0 0 z)) (sym e) (p, refl, refl, w, v)
