-- The diffusion of three rows is that of four columns: the law of one column, carried to four by those of words.
use mathlib.Core.Path.{◌≡◌, refl, sym, ap, ap₂, ◌∙◌}
use mathlib.Core.List.{List, [], ◌∷◌}
use Prim.Native.Nat.{ℕ, ◌^◌, ◌<◌}
use lib.Dec.{lit<}
use lib.ListN.{get_or}
use lib.Bits.{bit_xor}
use Rattle.field.specs.Field.{times}
use Rattle.field.proofs.Addition.{byte}
use Rattle.field.proofs.Multiplication.{times_byte}
use Rattle.numbers.specs.Numbers.{four_bytes}
use Rattle.words.specs.Words.{word, byte_of, doubled}
use Rattle.words.proofs.Lanes.{Bytes, same_bytes_lem, xor_bytes, again, bytes_of, byte_below}
use Rattle.layers.specs.State.{State, at, build, IsState, built}
use Rattle.layers.specs.Layers.{diffused, row_times}
use Rattle.layers.proofs.Layers.{diffused_state}
use Rattle.layers.proofs.Columns.{sum, made, made-is}
use Rattle.diffusion.specs.Rows.{row_word, row_words, from_rows, diffused_words}

three : {x y z u v w : ℕ} → x ≡ u → y ≡ v → z ≡ w → x ∷ y ∷ z ∷ [] ≡ u ∷ v ∷ w ∷ []
three e₀ e₁ e₂ k = e₀ k ∷ e₁ k ∷ e₂ k ∷ []

-- ---- of four bytes in a word
doubled-is : (b : ℕ → ℕ) → Bytes b → {w : ℕ} → w ≡ word b → doubled w ≡ word (λ j. times 2 (b j))
doubled-is b h e = ap doubled e ∙ ap (λ (bs : List ℕ). word (λ j. times 2 (get_or bs j 0))) (bytes_of b h)

sum_is : (b c : ℕ → ℕ) → Bytes b → Bytes c → {v w : ℕ} → v ≡ word b → w ≡ word c → bit_xor v w ≡ word (λ j. bit_xor (b j) (c j))
sum_is b c hb hc e d = ap₂ bit_xor e d ∙ xor_bytes b c hb hc

twice_byte : (x : ℕ) → x < 256 → times 2 x < 256
twice_byte x h = times_byte 2 x (lit< tt) h

-- ---- the diffusion of three rows, given by what stands in them: the sum of each column, and twice, four times and six times that
module _ (f : ℕ → ℕ → ℕ) (h : (i : ℕ) → Bytes (f i)) where
  abbrev s : ℕ → ℕ
  s j = sum (f 0 j) (f 1 j) (f 2 j)

  abbrev s2 : ℕ → ℕ
  s2 j = times 2 (s j)

  abbrev s4 : ℕ → ℕ
  s4 j = times 2 (s2 j)

  abbrev s6 : ℕ → ℕ
  s6 j = bit_xor (s2 j) (s4 j)

  s_byte : Bytes s
  s_byte j = byte (bit_xor (f 0 j) (f 1 j)) (f 2 j) (byte (f 0 j) (f 1 j) (h 0 j) (h 1 j)) (h 2 j)

  s2_byte : Bytes s2
  s2_byte j = twice_byte (s j) (s_byte j)

  s4_byte : Bytes s4
  s4_byte j = twice_byte (s2 j) (s2_byte j)

  s6_byte : Bytes s6
  s6_byte j = byte (s2 j) (s4 j) (s2_byte j) (s4_byte j)

  abbrev S : ℕ
  S = bit_xor (bit_xor (word (f 0)) (word (f 1))) (word (f 2))

  s_is : S ≡ word s
  s_is = sum_is (λ j. bit_xor (f 0 j) (f 1 j)) (f 2) (λ j. byte (f 0 j) (f 1 j) (h 0 j) (h 1 j)) (h 2) (xor_bytes (f 0) (f 1) (h 0) (h 1)) refl

  s2_is : doubled S ≡ word s2
  s2_is = doubled-is s s_byte s_is

  s4_is : doubled (doubled S) ≡ word s4
  s4_is = doubled-is s2 s2_byte s2_is

  s6_is : bit_xor (doubled S) (doubled (doubled S)) ≡ word s6
  s6_is = sum_is s2 s4 s2_byte s4_byte s2_is s4_is

  -- each row, by the law of a column
  row : (i : ℕ) → i < 3 → (j : ℕ) → made i (f 0 j) (f 1 j) (f 2 j) ≡ row_times i (f 0 j) (f 1 j) (f 2 j)
  row i l j = made-is i l (f 0 j) (f 1 j) (f 2 j) (h 0 j) (h 1 j) (h 2 j)

  rows : diffused_words (word (f 0)) (word (f 1)) (word (f 2)) ≡ row_words (diffused (build f))
  rows = three
      (sum_is (f 0) s2 (h 0) s2_byte refl s2_is ∙ same_bytes_lem (row 0 (lit< tt)))
      (sum_is (f 1) s4 (h 1) s4_byte refl s4_is ∙ same_bytes_lem (row 1 (lit< tt)))
      (sum_is (f 2) s6 (h 2) s6_byte refl s6_is ∙ same_bytes_lem (row 2 (lit< tt)))

pub by_words : {a : State} → IsState a → diffused_words (row_word a 0) (row_word a 1) (row_word a 2) ≡ row_words (diffused a)
by_words (built f h) = rows f h

-- a state is made of its rows again
pub back : {a : State} → IsState a → from_rows (row_words a) ≡ a
back (built f h) = λ k. build (λ i j. get_or (get_or (bytes_of (f 0) (h 0) k ∷ bytes_of (f 1) (h 1) k ∷ bytes_of (f 2) (h 2) k ∷ []) i []) j 0)

-- ---- what the code makes of its parts
-- x, y and z are the rows of a
pub record Rows (a : State) (x y z : ℕ) : Type 0 where
  pub fits₀ : x < 2 ^ 32
  pub fits₁ : y < 2 ^ 32
  pub fits₂ : z < 2 ^ 32
  pub holds₀ : four_bytes x ≡ at a 0 0 ∷ at a 0 1 ∷ at a 0 2 ∷ at a 0 3 ∷ []
  pub holds₁ : four_bytes y ≡ at a 1 0 ∷ at a 1 1 ∷ at a 1 2 ∷ at a 1 3 ∷ []
  pub holds₂ : four_bytes z ≡ at a 2 0 ∷ at a 2 1 ∷ at a 2 2 ∷ at a 2 3 ∷ []

pub made-diffused : (a : State) {x y z : ℕ} → Rows a x y z → from_rows (diffused_words x y z) ≡ diffused a
made-diffused a {x} {y} {z} r =
    sym (λ k. from_rows (diffused_words (again x r.fits₀ k) (again y r.fits₁ k) (again z r.fits₂ k)))
    ∙ ap from_rows (by_words (built f f_byte)) ∙ back (diffused_state (built f f_byte))
    ∙ λ k. diffused (build (λ i j. get_or (get_or (r.holds₀ k ∷ r.holds₁ k ∷ r.holds₂ k ∷ []) i []) j 0))
  where
    f : ℕ → ℕ → ℕ
    f i j = byte_of (get_or (x ∷ y ∷ z ∷ []) i 0) j

    f_byte : (i j : ℕ) → f i j < 256
    f_byte i j = byte_below (get_or (x ∷ y ∷ z ∷ []) i 0) j
