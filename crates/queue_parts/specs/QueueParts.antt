-- A queue of grants, and what is tried of one before any grant of it is looked at: request 2, "The morning queue", with 14 directly after 7, as
-- request 7 has it. All of it is asked for one size block and one right, on one roll.
use Rattle.std.specs.Prelude.{Bool, ◌&&◌, List, [], ◌∷◌, ◌++◌, ℕ, ◌*◌, ◌/◌, ◌%◌, eqb, leb, take, drop}
use Rattle.refusal.specs.Tries.{Try, ◌unless◌}
use Rattle.settings.specs.Settings.{settings_tries}
use Rattle.size_blocks.specs.SizeBlocks.{is_size_block}
use Rattle.rights.specs.Rights.{is_right}

-- 0 to 64 grants of twelve bytes each, one after the other
abbrev pub queue_length : ℕ → Bool
queue_length n = eqb (n % 12) 0 && leb n 768

-- how many grants stand in n bytes
abbrev pub grants_in : ℕ → ℕ
grants_in n = n / 12

-- grant i of a queue, the first being 0
abbrev pub grant_at : List ℕ → ℕ → List ℕ
grant_at grants i = take 12 (drop (12 * i) grants)

-- the order of refusals of the whole call: 1, 2, 3, 4, 7, 14. The key has n bytes, the grants so many, and the answers room for so many bytes
abbrev pub queue_input_tries : ℕ → ℕ → Bool → ℕ → ℕ → ℕ → ℕ → List Try
queue_input_tries n rounds lengths grants room size_block right =
    settings_tries n rounds
    ++ ((3 unless lengths) ∷ (4 unless leb (grants_in grants) room) ∷ (7 unless is_right right) ∷ (14 unless is_size_block size_block) ∷ [])
