-- The worked cases of document 01, "Thirteen proved cases", as one list, in its order, and the claim over the list. What is given is
-- computed from the definitions that the contracts cite; what is expected is document 01's.
use Rattle.std.specs.Prelude.{List, [], ◌∷◌, ℕ, get_or, replicate}
use Rattle.basics.specs.Cases.{Case, ◌is◌, Hold, joined}
use Rattle.field.specs.Field.{◌⊕◌, times, cube_root}
use Rattle.sbox.specs.Sbox.{sbox}
use Rattle.layers.specs.State.{State}
use Rattle.layers.specs.Layers.{permuted, diffused}
use Rattle.stages.specs.Columns.{column_rule}
use Rattle.stages.specs.Stages.{stage}
use Rattle.rights.specs.declared.Right.TheVariants.{Overwriting}
use Rattle.rights.specs.Rights.{right_number}
use Rattle.grant.specs.Grants.{plain_grant}

-- the diffusion of the column x y z: column 0 of the diffusion of a state that has it there, and other columns elsewhere
abbrev pub diffusion_of : ℕ → ℕ → ℕ → List ℕ
diffusion_of x y z =
    get_or (diffused
    ((x ∷ y ∷ z ∷ []) ∷ (0x11 ∷ 0x22 ∷ 0x33 ∷ []) ∷ (0x44 ∷ 0x55 ∷ 0x66 ∷ []) ∷ (0x77 ∷ 0x88 ∷ 0x99 ∷ []) ∷ [])) 0 []

-- the state of bytes 00 to 0B
abbrev pub counting : State
counting = (0x00 ∷ 0x01 ∷ 0x02 ∷ []) ∷ (0x03 ∷ 0x04 ∷ 0x05 ∷ []) ∷ (0x06 ∷ 0x07 ∷ 0x08 ∷ []) ∷ (0x09 ∷ 0x0A ∷ 0x0B ∷ []) ∷ []

unfoldable pub cases : List Case
cases =
    ((sbox 0x00 ∷ []) is (0xBA ∷ []))
    ∷ ((sbox 0x01 ∷ []) is (0x54 ∷ []))
    ∷ ((sbox 0xBA ∷ []) is (0x00 ∷ []))
    ∷ ((times 0x02 0x80 ∷ []) is (0x4D ∷ []))
    ∷ ((times cube_root 0x01 ∷ []) is (0x1C ∷ []))
    ∷ ((times cube_root 0x1C ∷ []) is (0x1D ∷ []))
    ∷ (diffusion_of 0x01 0x00 0x00 is (0x03 ∷ 0x04 ∷ 0x06 ∷ []))
    ∷ (diffusion_of 0x03 0x04 0x06 is (0x01 ∷ 0x00 ∷ 0x00 ∷ []))
    ∷ (column_rule cube_root 1 (0x01 ∷ 0x00 ∷ 0x00 ∷ []) is (0x1D ∷ 0x1C ∷ 0x1C ∷ []))
    ∷ (column_rule (cube_root ⊕ 0x01) 1 (0x1D ∷ 0x1C ∷ 0x1C ∷ []) is (0x01 ∷ 0x00 ∷ 0x00 ∷ []))
    ∷ (joined (permuted counting)
    is (0x00 ∷ 0x04 ∷ 0x08 ∷ 0x03 ∷ 0x01 ∷ 0x0B ∷ 0x06 ∷ 0x0A ∷ 0x02 ∷ 0x09 ∷ 0x07 ∷ 0x05 ∷ []))
    ∷ (stage 2 (replicate 12 0x00) 1 is (0xA9 ∷ 0x13 ∷ 0x13 ∷ 0x07 ∷ 0x53 ∷ 0x53 ∷ 0xCC ∷ 0xE3 ∷ 0xE3 ∷ 0x70 ∷ 0x04 ∷ 0x04 ∷ []))
    ∷ (plain_grant 7 1 300 (right_number Overwriting)
    is (0x00 ∷ 0x07 ∷ 0x00 ∷ 0x01 ∷ 0x00 ∷ 0x00 ∷ 0x01 ∷ 0x2C ∷ 0x02 ∷ 0x47 ∷ 0x52 ∷ 0x44 ∷ []))
    ∷ []

-- the claim. The term of this type stands in proofs/Cases.antt
unfoldable pub CasesHold : Type 0
CasesHold = Hold cases
