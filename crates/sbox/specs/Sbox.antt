-- The S-box: document 01, "The layers", S-box; paper 000, section 3.1, Table 1 and Algorithm 1.
use Rattle.std.specs.Prelude.{List, [], ◌∷◌, ℕ, ◌+◌, ◌*◌, ◌/◌, ◌%◌, get_or}

-- the two tables of sixteen 4-bit numbers, P and Q (the mini-boxes)
unfoldable pub table_p : List ℕ
table_p = 0x3 ∷ 0xF ∷ 0xE ∷ 0x0 ∷ 0x5 ∷ 0x4 ∷ 0xB ∷ 0xC ∷ 0xD ∷ 0xA ∷ 0x9 ∷ 0x6 ∷ 0x7 ∷ 0x8 ∷ 0x2 ∷ 0x1 ∷ []

unfoldable pub table_q : List ℕ
table_q = 0x9 ∷ 0xE ∷ 0x5 ∷ 0x6 ∷ 0xA ∷ 0x2 ∷ 0x3 ∷ 0xC ∷ 0xF ∷ 0x0 ∷ 0x4 ∷ 0xD ∷ 0x7 ∷ 0xB ∷ 0x1 ∷ 0x8 ∷ []

abbrev pub mini_p : ℕ → ℕ
mini_p x = get_or table_p x 0

abbrev pub mini_q : ℕ → ℕ
mini_q x = get_or table_q x 0

-- the top two bits of h joined to the top two of l
abbrev pub join_tops : ℕ → ℕ → ℕ
join_tops h l = h / 4 * 4 + l / 4

-- the low two bits of h joined to the low two of l
abbrev pub join_lows : ℕ → ℕ → ℕ
join_lows h l = h % 4 * 4 + l % 4

-- h as the high half, l as the low half
abbrev pub join_halves : ℕ → ℕ → ℕ
join_halves h l = h * 16 + l

-- the S-box of a byte: three layers of mini-boxes, with the halves regrouped between them
unfoldable pub sbox : ℕ → ℕ
sbox x =
    let h₁ = mini_p (x / 16) in
    let l₁ = mini_q (x % 16) in
    let h₂ = mini_q (join_tops h₁ l₁) in
    let l₂ = mini_p (join_lows h₁ l₁) in
    let h₃ = mini_p (join_tops h₂ l₂) in
    let l₃ = mini_q (join_lows h₂ l₂) in
    join_halves h₃ l₃
