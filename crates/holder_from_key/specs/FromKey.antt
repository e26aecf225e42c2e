-- What making a holder and giving a stage straight from the key answer: document 01, "Key stages", and the order line "holder or stage from key
-- 1, 5". Where such a call refuses, the blank holder stands in the holder's place.
use Rattle.std.specs.Prelude.{List, [], ◌∷◌, ℕ, ltb, length}
use Rattle.refusal.specs.Tries.{Try, ◌unless◌, first, answered}
use Rattle.sizes.specs.Sizes.{key_length, t_of, turn}
use Rattle.holder.specs.declared.Holder.{Holder}
use Rattle.holder.specs.Holder.{holder_at, blank}

-- ---- make a holder from a key
abbrev pub make_tries : List ℕ → List Try
make_tries key = (1 unless key_length (length key)) ∷ []

abbrev pub make_number : List ℕ → ℕ
make_number key = first (make_tries key)

unfoldable pub made_holder : List ℕ → Holder
made_holder key = answered (make_number key) (holder_at key 0) blank

-- ---- give a stage straight from key and number
-- for a key of so many bytes
abbrev pub straight_tries : ℕ → ℕ → List Try
straight_tries key-bytes n = (1 unless key_length key-bytes) ∷ (5 unless ltb n (turn (t_of key-bytes))) ∷ []

abbrev pub straight_number : List ℕ → ℕ → ℕ
straight_number key n = first (straight_tries (length key) n)

unfoldable pub straight_holder : List ℕ → ℕ → Holder
straight_holder key n = answered (straight_number key n) (holder_at key n) blank
