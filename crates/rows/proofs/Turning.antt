-- A row turned: its digits at left sides, and its columns.
use Rattle.std.proofs.Common.{◌≡◌, ℕ, ◌+◌, ◌*◌, ◌/◌, ◌%◌, ◌^◌, ◌<◌, sym, ap, ◌∙◌, ap₂, arith}
use lib.Bits.{and_mask}
use lib.Pow.{low as low-digits}
use Rattle.soda.specs.Bits.{bit}
use Rattle.rows.specs.Rows.{turned_row, satisfied_in, possible_in}
use Rattle.rows.proofs.Digits.{bit_shr, bit_mask}

-- what is above 2^31, and above 2^63, is read off by itself
below_half : (q c : ℕ) → (q + 2147483648 * c) % 2147483648 ≡ q % 2147483648
below_half q c = omega arith

above_half : (q c : ℕ) → (q + 2147483648 * c) / 2147483648 ≡ q / 2147483648 + c
above_half q c = omega arith

above_all : (q b : ℕ) → q < 9223372036854775808 → (q + 9223372036854775808 * b) / 9223372036854775808 ≡ b
above_all q b h = omega arith

halves : (row : ℕ) → 2 * (row / 2 % 2147483648) + row % 2 ≡ row % 4294967296
halves row = omega arith

upper : (row b : ℕ) → row < 18446744073709551616 → (row / 2 / 2147483648 + 4294967296 * b) % 4294967296 ≡ row / 4294967296
upper row b h = omega arith

module _ (row : ℕ) (h : row < 18446744073709551616) where
  pub bit-turned : (q : ℕ) → q < 63 → bit q (turned_row row) ≡ bit (1 + q) row
  bit-turned q k =
      let n : turned_row row ≡ row % 2 * 2 ^ 63 + row / 2 = omega arith in
      let fits : row / 2 < 2 ^ 63 = omega arith in
      ap (bit q) n ∙ sym (bit_mask 63 q (row % 2 * 2 ^ 63 + row / 2) k) ∙ ap (bit q) (and_mask (row % 2 * 2 ^ 63 + row / 2) 63 ∙ low-digits (row % 2) 63 fits) ∙ bit_shr q 1 row

  in_halves : turned_row row ≡ row / 2 + 2147483648 * (4294967296 * (row % 2))
  in_halves = omega arith

  pub satisfied-turned : satisfied_in (turned_row row) ≡ row % 2 ^ 32
  satisfied-turned =
      ap₂ (λ a b. 2 * a + b) (ap (λ n. n % 2147483648) in_halves ∙ below_half (row / 2) (4294967296 * (row % 2))) (above_all (row / 2) (row % 2) (omega arith)) ∙ halves row

  pub possible-turned : possible_in (turned_row row) ≡ row / 2 ^ 32
  possible-turned = ap (λ n. n / 2147483648 % 4294967296) in_halves ∙ ap (λ n. n % 4294967296) (above_half (row / 2) (4294967296 * (row % 2))) ∙ upper row (row % 2) h
