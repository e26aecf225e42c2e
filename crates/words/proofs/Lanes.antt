-- The laws of four bytes in a word: what is done to words is done to each byte. A law is shown of one byte and carried to four.
use mathlib.Core.Path.{◌≡◌, sym, ap, ap₂, ◌∙◌}
use mathlib.Core.List.{[], ◌∷◌}
use Prim.Native.Nat.{ℕ, zero, suc, ◌+◌, ◌*◌, ◌^◌, ◌<◌}
use native.Mathlib.Omega.{arith}
use lib.Dec.{lit<}
use lib.Bits.{bit_and, bit_xor, and_block, xor_block}
use Rattle.numbers.specs.Numbers.{four_from, four_bytes}
use Rattle.numbers.proofs.Laws.{four_again, bytes_again}
use Rattle.words.specs.Words.{word, byte_of}

-- all of them are bytes
abbrev pub Bytes : (ℕ → ℕ) → Type 0
Bytes b = (j : ℕ) → b j < 256

-- a word byte by byte from the highest, so that the last byte is told from the others
abbrev ladder : ℕ → ℕ → ℕ → ℕ → ℕ
ladder a b c d = ((a * 2 ^ 8 + b) * 2 ^ 8 + c) * 2 ^ 8 + d

as_ladder : (a b c d : ℕ) → four_from a b c d ≡ ladder a b c d
as_ladder a b c d = omega arith

-- words with equal bytes
pub same_bytes_lem : {b c : ℕ → ℕ} → ((j : ℕ) → b j ≡ c j) → word b ≡ word c
same_bytes_lem e k = word (λ j. e j k)

-- an operation that does not carry from one byte to the next
abbrev Blockwise : (ℕ → ℕ → ℕ) → Type 0
Blockwise op = (k a b r s : ℕ) → r < 2 ^ k → s < 2 ^ k → op (a * 2 ^ k + r) (b * 2 ^ k + s) ≡ op a b * 2 ^ k + op r s

lanewise : (op : ℕ → ℕ → ℕ) → Blockwise op → (b c : ℕ → ℕ) → Bytes b → Bytes c → op (word b) (word c) ≡ word (λ j. op (b j) (c j))
lanewise op law b c hb hc =
    let one : (x y j : ℕ) → op (x * 2 ^ 8 + b j) (y * 2 ^ 8 + c j) ≡ op x y * 2 ^ 8 + op (b j) (c j) = λ x y j. law 8 x y (b j) (c j) (hb j) (hc j) in
    let more : (x y z j : ℕ) → op x y ≡ z → op (x * 2 ^ 8 + b j) (y * 2 ^ 8 + c j) ≡ z * 2 ^ 8 + op (b j) (c j)
    = λ x y z j e. one x y j ∙ ap (λ (n : ℕ). n * 2 ^ 8 + op (b j) (c j)) e in
    ap₂ op (as_ladder (b 0) (b 1) (b 2) (b 3)) (as_ladder (c 0) (c 1) (c 2) (c 3))
    ∙ more _ _ _ 3 (more _ _ _ 2 (one (b 0) (c 0) 1))
    ∙ sym (as_ladder (op (b 0) (c 0)) (op (b 1) (c 1)) (op (b 2) (c 2)) (op (b 3) (c 3)))

pub and_bytes : (b c : ℕ → ℕ) → Bytes b → Bytes c → bit_and (word b) (word c) ≡ word (λ j. bit_and (b j) (c j))
and_bytes = lanewise bit_and and_block

pub xor_bytes : (b c : ℕ → ℕ) → Bytes b → Bytes c → bit_xor (word b) (word c) ≡ word (λ j. bit_xor (b j) (c j))
xor_bytes = lanewise bit_xor xor_block

-- a word below 2^32 is the word of its bytes, and the bytes of a word of bytes are those
pub again : (w : ℕ) → w < 2 ^ 32 → word (byte_of w) ≡ w
again = four_again

pub bytes_of : (b : ℕ → ℕ) → Bytes b → four_bytes (word b) ≡ b 0 ∷ b 1 ∷ b 2 ∷ b 3 ∷ []
bytes_of b h = bytes_again (b 0) (b 1) (b 2) (b 3) (h 0) (h 1) (h 2) (h 3)

below : (a b c d : ℕ) → a < 256 → b < 256 → c < 256 → d < 256 → four_from a b c d < 4294967296
below a b c d ha hb hc hd = omega arith

pub word_below : (b : ℕ → ℕ) → Bytes b → word b < 2 ^ 32
word_below b h = below (b 0) (b 1) (b 2) (b 3) (h 0) (h 1) (h 2) (h 3)

pub byte_below : (w j : ℕ) → byte_of w j < 256
byte_below w zero = omega arith
byte_below w (suc zero) = omega arith
byte_below w (suc (suc zero)) = omega arith
byte_below w (suc (suc (suc zero))) = omega arith
byte_below w (suc (suc (suc (suc j)))) = lit< tt
