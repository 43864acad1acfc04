-- How a register gets a number.
use Rattle.std.proofs.Common.{◌≡◌, ℕ, zero, suc, ◌*◌, ◌%◌, ◌==◌, pos, [], ◌∷◌, ◌++◌, refl, arith}
use Rattle.rv_isa.specs.declared.table.Op.TheVariants.{Addi, Lui, Slli}
use Rattle.rv_isa.specs.Table.{shape_of}
use Rattle.rv_isa.specs.Word.{unsigned, signed, IsWithin}
use Rattle.rv_isa.proofs.Numbers.{IsWithin-signed, unsigned-signed}
use Rattle.emit_items.specs.Items.{i_item}
use Rattle.emit_items.specs.Constants.{lower, upper, upper_immediate, is_short, is_medium, lower_added, medium_loaded, long_loaded, loaded}
use Rattle.emit_sound.proofs.Formats.{Sound, both, either, below, IsRegister, register, i_sound, shift_sound, upper_sound}

pub lower_within : (v : ℕ) → IsWithin 2048 (lower v)
lower_within v = IsWithin-signed 2048 (v % 4096) (omega arith)

pub upper_within : (v : ℕ) → IsWithin 2147483648 (upper_immediate v)
upper_within v = IsWithin-signed 2147483648 (upper v * 4096 % 4294967296) (omega arith)

whole : (m n : ℕ) → n ≡ m * 4096 % 4294967296 → n % 4096 ≡ 0
whole m n e = omega (arith, e)

pub upper_whole : (v : ℕ) → unsigned 2147483648 (upper_immediate v) % 4096 ≡ 0
upper_whole v =
    let n = upper v * 4096 % 4294967296 in
    whole (upper v) (unsigned 2147483648 (signed 2147483648 n)) (unsigned-signed 2147483648 n (omega arith))

module _ (count rd : ℕ) (p : IsRegister rd) where
  lower_sound : (v : ℕ) → Sound count (lower_added rd v)
  unfolding shape_of
  lower_sound v = either count (v % 4096 == 0) [] (i_item Addi rd rd (lower v) ∷ []) tt (i_sound count Addi rd rd (lower v) refl p p (lower_within v), tt)

  medium_sound : (v : ℕ) → Sound count (medium_loaded rd v)
  unfolding shape_of
  medium_sound v = (upper_sound count Lui rd (upper_immediate v) refl p (upper_within v) (upper_whole v), lower_sound v)

  long_sound : (n v : ℕ) → Sound count (long_loaded n rd v)
  unfolding shape_of
  long_sound zero v = medium_sound v
  long_sound (suc n) v =
      let shifted : Sound count (i_item Slli rd rd (pos 12) ∷ lower_added rd v) = (shift_sound count Slli rd rd (pos 12) refl p p (below 12 64 refl), lower_sound v) in
      either count (is_medium v) (medium_loaded rd v) (long_loaded n rd (upper v) ++ i_item Slli rd rd (pos 12) ∷ lower_added rd v)
      (medium_sound v)
      (both count (long_loaded n rd (upper v)) (i_item Slli rd rd (pos 12) ∷ lower_added rd v) (long_sound n (upper v)) shifted)

  pub loaded_sound : (v : ℕ) → Sound count (loaded rd v)
  unfolding shape_of
  loaded_sound v =
      either count (is_short v) (i_item Addi rd 0 (lower v) ∷ []) (long_loaded 3 rd v)
      (i_sound count Addi rd 0 (lower v) refl p (register 0 refl) (lower_within v), tt)
      (long_sound 3 v)
