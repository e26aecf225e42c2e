-- Known answers for which size blocks may be asked for, from request 7's text: 0 may not, and every other number may, those among them whose lowest
-- bytes are 0.
use Rattle.std.specs.Prelude.{List, [], ◌∷◌}
use Rattle.basics.specs.Cases.{Case, ◌is◌, flag}
use Rattle.size_blocks.specs.SizeBlocks.{is_size_block}

unfoldable pub known_answers : List Case
known_answers =
    ((flag (is_size_block 0) ∷ []) is (0 ∷ []))
    ∷ ((flag (is_size_block 1) ∷ []) is (1 ∷ []))
    ∷ ((flag (is_size_block 256) ∷ []) is (1 ∷ []))
    ∷ ((flag (is_size_block 65536) ∷ []) is (1 ∷ []))
    ∷ ((flag (is_size_block 16777216) ∷ []) is (1 ∷ []))
    ∷ ((flag (is_size_block 4294967295) ∷ []) is (1 ∷ []))
    ∷ []
