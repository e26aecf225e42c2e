-- Sealing a page: request 3, "Sealing tries 1 .., 2, 4 (scratch under 576 or output under 512) and 12 (payload over 492 bytes)", with 14 directly
-- after 4, as request 7 has it. A call is given two keys, a round count, a size block, a page number, the payload, the scratch and the output.
use Rattle.std.specs.Prelude.{◌&&◌, List, [], ◌∷◌, ◌++◌, ℕ, leb, length}
use Rattle.refusal.specs.Tries.{Try, ◌unless◌, first, written}
use Rattle.key_pairs.specs.KeyPairs.{pair_tries}
use Rattle.size_blocks.specs.SizeBlocks.{is_size_block}
use Rattle.pages.specs.Pages.{page_of, cleared}
use Rattle.pages.specs.Keyed.{enciphering}

-- 4: scratch under 576 or output under 512; 14: size block 0; 12: payload over 492 bytes
abbrev pub seal_tries : List ℕ → List ℕ → ℕ → ℕ → List ℕ → List ℕ → List ℕ → List Try
seal_tries key₁ key₂ rounds block payload scratch out =
    pair_tries key₁ key₂ rounds
    ++ ((4 unless (leb 576 (length scratch) && leb 512 (length out)))
    ∷ (14 unless is_size_block block)
    ∷ (12 unless leb (length payload) 492)
    ∷ [])

abbrev pub seal_number : List ℕ → List ℕ → ℕ → ℕ → List ℕ → List ℕ → List ℕ → ℕ
seal_number key₁ key₂ rounds block payload scratch out = first (seal_tries key₁ key₂ rounds block payload scratch out)

-- the page: the payload chained under the first key, the check under the second. It is defined for every size block, since pages for 0 were sealed
-- before request 7, and open
unfoldable pub sealed : List ℕ → List ℕ → ℕ → ℕ → ℕ → List ℕ → List ℕ
sealed key₁ key₂ rounds block number payload = page_of (enciphering key₁ rounds) (enciphering key₂ rounds) block number payload

-- what the output and the scratch hold after the call
unfoldable pub seal_output : List ℕ → List ℕ → ℕ → ℕ → ℕ → List ℕ → List ℕ → List ℕ → List ℕ
seal_output key₁ key₂ rounds block number payload scratch out =
    written (seal_number key₁ key₂ rounds block payload scratch out) (sealed key₁ key₂ rounds block number payload) out

unfoldable pub seal_scratch : List ℕ → List ℕ → ℕ → ℕ → List ℕ → List ℕ → List ℕ → List ℕ
seal_scratch key₁ key₂ rounds block payload scratch out = written (seal_number key₁ key₂ rounds block payload scratch out) cleared scratch
