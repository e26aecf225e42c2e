-- What the C call that opens a page answers: one number of 64 bits. A refusal's number; or, where the page opens, the top bit, the used count from
-- bit 48 on, the page number from bit 32 on, and the size block.
use Rattle.std.specs.Prelude.{List, ℕ, ◌+◌, ◌*◌}
use Rattle.refusal.specs.Tries.{answered}
use Rattle.pages.specs.Pages.{block_in, page_number_in, used_in}
use Rattle.opening.specs.Opening.{open_number}

-- 2⁶³ + 2⁴⁸ used + 2³² number + block
abbrev pub header_code : ℕ → ℕ → ℕ → ℕ
header_code block number used = 9223372036854775808 + (281474976710656 * used + (4294967296 * number + block))

-- the answer, where n is the number of a refusal or 0
unfoldable pub open_code : ℕ → ℕ → ℕ → ℕ → ℕ
open_code n block number used = answered n (header_code block number used) n

unfoldable pub open_call_code : List ℕ → List ℕ → ℕ → List ℕ → List ℕ → List ℕ → ℕ
open_call_code key₁ key₂ rounds page scratch out =
    open_code (open_number key₁ key₂ rounds page scratch out) (block_in page) (page_number_in page) (used_in page)
