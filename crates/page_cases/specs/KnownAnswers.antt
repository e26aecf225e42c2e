-- Worked pages, as the independent program prints them (each comment begins its line). In the place of the cipher stands the permutation of a
-- block with twelve bytes added, which is fast to compute: what a page is does not rest on what enciphers its blocks. by_a stands in the place of
-- the first key, by_b in that of the second.
use Rattle.std.specs.Prelude.{List, [], ◌∷◌, ◌++◌, ℕ, ◌+◌, ◌*◌, ◌%◌, take, drop, set, replicate}
use Rattle.basics.specs.Cases.{Case, ◌is◌, threes}
use Rattle.refusal.specs.Tries.{◌unless◌, first}
use Rattle.layers.specs.State.{State}
use Rattle.layers.specs.Layers.{permuted, added}
use Rattle.rounds.specs.Rounds.{listed_from}
use Rattle.block_bytes.specs.Blocks.{state_of}
use Rattle.chaining.specs.Chaining.{chained_bytes}
use Rattle.key_pairs.specs.KnownAnswers.{pair_key12, pair_key18}
use Rattle.pages.specs.Keyed.{enciphering}
use Rattle.sealing.specs.Sealing.{seal_number}
use Rattle.opening.specs.Opening.{open_input_tries, content_tries_with}
use Rattle.pages.specs.Pages.{header, filled, stored, check_over, page_of, page_form}

abbrev pub by_a : List ℕ
by_a = threes (0xA0A1A2 ∷ 0xA3A4A5 ∷ 0xA6A7A8 ∷ 0xA9AAAB ∷ [])

abbrev pub by_b : List ℕ
by_b = threes (0x5F4E3D ∷ 0x2C1B0A ∷ 0x998877 ∷ 0x665544 ∷ [])

-- a block permuted, and twelve bytes added; and undone
unfoldable pub mixed : List ℕ → State → State
mixed k a = added (state_of k) (permuted a)

unfoldable pub unmixed : List ℕ → State → State
unmixed k a = permuted (added (state_of k) a)

-- a payload of so many bytes: byte i is 7i + 1
unfoldable pub payload_for : ℕ → List ℕ
payload_for used = listed_from 0 used (λ i. (7 * i + 1) % 256)

unfoldable pub page_with : List ℕ → List ℕ → ℕ → ℕ → ℕ → List ℕ
page_with a b block number used = page_of (mixed a) (mixed b) block number (payload_for used)

-- the first 36 bytes and the last 21
unfoldable pub ends : List ℕ → List ℕ
ends page = take 36 page ++ drop 491 page

-- what is found in bytes that are opened: 0, or the first reason that holds
unfoldable pub found_in : List ℕ → List ℕ → List ℕ → ℕ
found_in a b page =
    first ((11 unless page_form page) ∷ content_tries_with (mixed a) (unmixed a) (mixed b) page)

-- in a page of which one byte is altered
unfoldable pub altered : List ℕ → List ℕ → ℕ → ℕ → ℕ → ℕ → ℕ → ℕ
altered a b block number used index value = found_in a b (set (page_with a b block number used) index value)

-- in one whose payload had another byte before it was chained, so that the check agrees
unfoldable pub sealed_over : List ℕ → List ℕ → List ℕ → List ℕ → List ℕ
sealed_over a b head payload = stored (mixed a) head payload ++ check_over (mixed b) (stored (mixed a) head payload)

unfoldable pub padded : List ℕ → List ℕ → ℕ → ℕ → ℕ → ℕ → ℕ → ℕ
padded a b block number used index value =
    found_in a b (sealed_over a b (header block number used) (set (filled (payload_for used)) index value))

-- the sealing of a page for a size block; and the opening of one, made for it as the definition has it
abbrev pub seal_for : ℕ → List ℕ
seal_for block = seal_number pair_key12 by_a 10 block [] (replicate 576 0) (replicate 512 0) ∷ []

abbrev pub open_for : ℕ → List ℕ
open_for block = found_in by_a by_b (page_with by_a by_b block 1286 17) ∷ []

unfoldable pub known_answers : List Case
known_answers =
    -- pagewith a0a1a2a3a4a5a6a7a8a9aaab 5f4e3d2c1b0a998877665544 16909060 1286 17
    (ends (page_with by_a by_b 16909060 1286 17) is threes
    (0x010203 ∷ 0x040506 ∷ 0x001100 ∷ 0x000000 ∷ 0x001A30 ∷ 0x120846 ∷ 0x2B5B05 ∷ 0x403F2A ∷ 0xF5D8A7 ∷ 0xDBE28F
    ∷ 0x8D98FB ∷ 0xE9F1ED ∷ 0xE35546 ∷ 0x537879 ∷ 0x462B5B ∷ 0x05403F ∷ 0x2A015F ∷ 0x4C164A ∷ 0x622BF3 ∷ []))
    -- pagewith a0a1a2a3a4a5a6a7a8a9aaab 5f4e3d2c1b0a998877665544 0 0 0
    ∷ (ends (page_with by_a by_b 0 0 0) is threes
    (0x000000 ∷ 0x000000 ∷ 0x000000 ∷ 0x000000 ∷ 0x00050A ∷ 0x00050E ∷ 0x000D0A ∷ 0x000D0E ∷ 0xA0A4A8 ∷ 0xA3A1AB
    ∷ 0xA6AAA2 ∷ 0xA9A7A5 ∷ 0xAB0005 ∷ 0x0A0005 ∷ 0x0E000D ∷ 0x0A000D ∷ 0x0E0050 ∷ 0x400050 ∷ 0x4000D0 ∷ []))
    -- pagewith a0a1a2a3a4a5a6a7a8a9aaab 5f4e3d2c1b0a998877665544 4294967295 65535 492
    ∷ (ends (page_with by_a by_b 4294967295 65535 492) is threes
    (0xFFFFFF ∷ 0xFFFFFF ∷ 0x01EC00 ∷ 0x000000 ∷ 0xFEE7CC ∷ 0xE9F2BF ∷ 0x2AA605 ∷ 0x403F2A ∷ 0x0B222A ∷ 0x201F2D
    ∷ 0xF30307 ∷ 0x7D8A6C ∷ 0xD49EC7 ∷ 0xCC2972 ∷ 0x1F0A86 ∷ 0x25A03F ∷ 0x4A2118 ∷ 0xF0F64D ∷ 0x7B6B2E ∷ []))
    -- pagewith a0a1a2a3a4a5a6a7a8a9aaab 5f4e3d2c1b0a998877665544 258 772 12
    ∷ (ends (page_with by_a by_b 258 772 12) is threes
    (0x000001 ∷ 0x020304 ∷ 0x000C00 ∷ 0x000000 ∷ 0x011832 ∷ 0x140E44 ∷ 0x2B4605 ∷ 0x403F2A ∷ 0xA1AFA7 ∷ 0xB7BC8F
    ∷ 0x8D989A ∷ 0xE9ECEF ∷ 0xE10118 ∷ 0x32140E ∷ 0x442B46 ∷ 0x05403F ∷ 0x2A015B ∷ 0x4E164E ∷ 0x602BEE ∷ []))
    -- pagewith a0a1a2a3a4a5a6a7a8a9aaab 5f4e3d2c1b0a998877665544 1 1 491
    ∷ (ends (page_with by_a by_b 1 1 491) is threes
    (0x000000 ∷ 0x010001 ∷ 0x01EB00 ∷ 0x000000 ∷ 0x011833 ∷ 0x170D41 ∷ 0x2AA105 ∷ 0x403F2A ∷ 0xF4DD2A ∷ 0xDEE02D
    ∷ 0xF303F8 ∷ 0x7D8D92 ∷ 0x2A6138 ∷ 0x33D78D ∷ 0x8F0A81 ∷ 0x25A03F ∷ 0x4A2118 ∷ 0x0FF64D ∷ 0x856B29 ∷ []))
    ∷ []

-- a page of which one byte is altered, or two
unfoldable pub altered_answers : List Case
altered_answers =
    -- altered a0a1a2a3a4a5a6a7a8a9aaab 5f4e3d2c1b0a998877665544 16909060 1286 17 0 1
    ((altered by_a by_b 16909060 1286 17 0 1 ∷ []) is (0 ∷ []))
    -- altered a0a1a2a3a4a5a6a7a8a9aaab 5f4e3d2c1b0a998877665544 16909060 1286 17 0 2
    ∷ ((altered by_a by_b 16909060 1286 17 0 2 ∷ []) is (13 ∷ []))
    -- altered a0a1a2a3a4a5a6a7a8a9aaab 5f4e3d2c1b0a998877665544 16909060 1286 17 3 5
    ∷ ((altered by_a by_b 16909060 1286 17 3 5 ∷ []) is (13 ∷ []))
    -- altered a0a1a2a3a4a5a6a7a8a9aaab 5f4e3d2c1b0a998877665544 16909060 1286 17 5 7
    ∷ ((altered by_a by_b 16909060 1286 17 5 7 ∷ []) is (13 ∷ []))
    -- altered a0a1a2a3a4a5a6a7a8a9aaab 5f4e3d2c1b0a998877665544 16909060 1286 17 6 1
    ∷ ((altered by_a by_b 16909060 1286 17 6 1 ∷ []) is (13 ∷ []))
    -- altered a0a1a2a3a4a5a6a7a8a9aaab 5f4e3d2c1b0a998877665544 16909060 1286 17 6 2
    ∷ ((altered by_a by_b 16909060 1286 17 6 2 ∷ []) is (11 ∷ []))
    -- altered a0a1a2a3a4a5a6a7a8a9aaab 5f4e3d2c1b0a998877665544 16909060 1286 17 7 16
    ∷ ((altered by_a by_b 16909060 1286 17 7 16 ∷ []) is (13 ∷ []))
    -- altered a0a1a2a3a4a5a6a7a8a9aaab 5f4e3d2c1b0a998877665544 16909060 1286 17 8 1
    ∷ ((altered by_a by_b 16909060 1286 17 8 1 ∷ []) is (11 ∷ []))
    -- altered a0a1a2a3a4a5a6a7a8a9aaab 5f4e3d2c1b0a998877665544 16909060 1286 17 11 255
    ∷ ((altered by_a by_b 16909060 1286 17 11 255 ∷ []) is (11 ∷ []))
    -- altered a0a1a2a3a4a5a6a7a8a9aaab 5f4e3d2c1b0a998877665544 16909060 1286 17 12 1
    ∷ ((altered by_a by_b 16909060 1286 17 12 1 ∷ []) is (13 ∷ []))
    -- altered a0a1a2a3a4a5a6a7a8a9aaab 5f4e3d2c1b0a998877665544 16909060 1286 17 35 0
    ∷ ((altered by_a by_b 16909060 1286 17 35 0 ∷ []) is (11 ∷ []))
    -- altered a0a1a2a3a4a5a6a7a8a9aaab 5f4e3d2c1b0a998877665544 16909060 1286 17 503 0
    ∷ ((altered by_a by_b 16909060 1286 17 503 0 ∷ []) is (13 ∷ []))
    -- altered a0a1a2a3a4a5a6a7a8a9aaab 5f4e3d2c1b0a998877665544 16909060 1286 17 504 0
    ∷ ((altered by_a by_b 16909060 1286 17 504 0 ∷ []) is (13 ∷ []))
    -- altered a0a1a2a3a4a5a6a7a8a9aaab 5f4e3d2c1b0a998877665544 16909060 1286 17 511 0
    ∷ ((altered by_a by_b 16909060 1286 17 511 0 ∷ []) is (13 ∷ []))
    -- order open 11 13
    ∷ ((found_in by_a by_b (set (set (page_with by_a by_b 1 1 17) 8 1) 511 0) ∷ []) is (11 ∷ []))
    -- order open 13 11
    ∷ ((found_in by_a by_b (set (sealed_over by_a by_b (header 1 1 17) (set (filled (payload_for 17)) 17 1)) 511 0) ∷ []) is (13 ∷ []))
    ∷ []

-- a page whose payload had another byte before it was chained: 11 where the byte is not used
unfoldable pub padded_answers : List Case
padded_answers =
    -- padded a0a1a2a3a4a5a6a7a8a9aaab 5f4e3d2c1b0a998877665544 16909060 1286 17 16 0
    ((padded by_a by_b 16909060 1286 17 16 0 ∷ []) is (0 ∷ []))
    -- padded a0a1a2a3a4a5a6a7a8a9aaab 5f4e3d2c1b0a998877665544 16909060 1286 17 16 1
    ∷ ((padded by_a by_b 16909060 1286 17 16 1 ∷ []) is (0 ∷ []))
    -- padded a0a1a2a3a4a5a6a7a8a9aaab 5f4e3d2c1b0a998877665544 16909060 1286 17 17 0
    ∷ ((padded by_a by_b 16909060 1286 17 17 0 ∷ []) is (0 ∷ []))
    -- padded a0a1a2a3a4a5a6a7a8a9aaab 5f4e3d2c1b0a998877665544 16909060 1286 17 17 1
    ∷ ((padded by_a by_b 16909060 1286 17 17 1 ∷ []) is (11 ∷ []))
    -- padded a0a1a2a3a4a5a6a7a8a9aaab 5f4e3d2c1b0a998877665544 16909060 1286 17 18 128
    ∷ ((padded by_a by_b 16909060 1286 17 18 128 ∷ []) is (11 ∷ []))
    -- padded a0a1a2a3a4a5a6a7a8a9aaab 5f4e3d2c1b0a998877665544 16909060 1286 17 23 1
    ∷ ((padded by_a by_b 16909060 1286 17 23 1 ∷ []) is (11 ∷ []))
    -- padded a0a1a2a3a4a5a6a7a8a9aaab 5f4e3d2c1b0a998877665544 16909060 1286 17 24 1
    ∷ ((padded by_a by_b 16909060 1286 17 24 1 ∷ []) is (11 ∷ []))
    -- padded a0a1a2a3a4a5a6a7a8a9aaab 5f4e3d2c1b0a998877665544 16909060 1286 17 35 255
    ∷ ((padded by_a by_b 16909060 1286 17 35 255 ∷ []) is (11 ∷ []))
    -- padded a0a1a2a3a4a5a6a7a8a9aaab 5f4e3d2c1b0a998877665544 16909060 1286 17 480 1
    ∷ ((padded by_a by_b 16909060 1286 17 480 1 ∷ []) is (11 ∷ []))
    -- padded a0a1a2a3a4a5a6a7a8a9aaab 5f4e3d2c1b0a998877665544 16909060 1286 17 491 1
    ∷ ((padded by_a by_b 16909060 1286 17 491 1 ∷ []) is (11 ∷ []))
    -- padded a0a1a2a3a4a5a6a7a8a9aaab 5f4e3d2c1b0a998877665544 16909060 1286 492 491 0
    ∷ ((padded by_a by_b 16909060 1286 492 491 0 ∷ []) is (0 ∷ []))
    -- padded a0a1a2a3a4a5a6a7a8a9aaab 5f4e3d2c1b0a998877665544 16909060 1286 0 0 0
    ∷ ((padded by_a by_b 16909060 1286 0 0 0 ∷ []) is (0 ∷ []))
    -- padded a0a1a2a3a4a5a6a7a8a9aaab 5f4e3d2c1b0a998877665544 16909060 1286 0 0 1
    ∷ ((padded by_a by_b 16909060 1286 0 0 1 ∷ []) is (11 ∷ []))
    -- padded a0a1a2a3a4a5a6a7a8a9aaab 5f4e3d2c1b0a998877665544 16909060 1286 0 491 1
    ∷ ((padded by_a by_b 16909060 1286 0 491 1 ∷ []) is (11 ∷ []))
    -- padded a0a1a2a3a4a5a6a7a8a9aaab 5f4e3d2c1b0a998877665544 16909060 1286 12 11 0
    ∷ ((padded by_a by_b 16909060 1286 12 11 0 ∷ []) is (0 ∷ []))
    -- padded a0a1a2a3a4a5a6a7a8a9aaab 5f4e3d2c1b0a998877665544 16909060 1286 12 12 1
    ∷ ((padded by_a by_b 16909060 1286 12 12 1 ∷ []) is (11 ∷ []))
    -- padded a0a1a2a3a4a5a6a7a8a9aaab 5f4e3d2c1b0a998877665544 16909060 1286 480 479 0
    ∷ ((padded by_a by_b 16909060 1286 480 479 0 ∷ []) is (0 ∷ []))
    -- padded a0a1a2a3a4a5a6a7a8a9aaab 5f4e3d2c1b0a998877665544 16909060 1286 480 480 1
    ∷ ((padded by_a by_b 16909060 1286 480 480 1 ∷ []) is (11 ∷ []))
    -- padded a0a1a2a3a4a5a6a7a8a9aaab 5f4e3d2c1b0a998877665544 16909060 1286 480 491 1
    ∷ ((padded by_a by_b 16909060 1286 480 491 1 ∷ []) is (11 ∷ []))
    ∷ []

-- the order of refusals where two reasons hold together: the two reasons and the number given are the program's, and the input is ours
unfoldable pub order_answers : List Case
order_answers =
    -- order seal 1 2
    ((seal_number pair_key12 pair_key12 12 300 [] (replicate 576 0) (replicate 512 0) ∷ []) is (1 ∷ []))
    -- order seal 2 4
    ∷ ((seal_number pair_key12 by_a 12 300 [] (replicate 575 0) (replicate 512 0) ∷ []) is (2 ∷ []))
    -- order seal 4 14
    ∷ ((seal_number pair_key12 by_a 10 0 [] (replicate 575 0) (replicate 512 0) ∷ []) is (4 ∷ []))
    -- order seal 14 12
    ∷ ((seal_number pair_key12 by_a 10 0 (replicate 493 0) (replicate 576 0) (replicate 512 0) ∷ []) is (14 ∷ []))
    -- order open 1 2
    ∷ ((first (open_input_tries pair_key12 pair_key18 12 (replicate 512 0) (replicate 576 0) (replicate 492 0)) ∷ []) is (1 ∷ []))
    -- order open 2 4
    ∷ ((first (open_input_tries pair_key12 by_a 12 (replicate 512 0) (replicate 576 0) (replicate 491 0)) ∷ []) is (2 ∷ []))
    -- order open 4 11
    ∷ ((first (open_input_tries pair_key12 by_a 10 (replicate 511 0) (replicate 575 0) (replicate 492 0)) ∷ []) is (4 ∷ []))
    -- request 3 has 4 before 12; the program's lines are of neighbours, and 14 stands between these
    ∷ ((seal_number pair_key12 by_a 10 300 (replicate 493 0) (replicate 576 0) (replicate 511 0) ∷ []) is (4 ∷ []))
    -- none where there is just room enough, and the payload and the page have their greatest length
    ∷ ((seal_number pair_key12 by_a 10 300 (replicate 492 0) (replicate 576 0) (replicate 512 0) ∷ []) is (0 ∷ []))
    ∷ ((first (open_input_tries pair_key12 by_a 10 (replicate 512 0) (replicate 576 0) (replicate 492 0)) ∷ []) is (0 ∷ []))
    ∷ []

-- request 7: which size blocks are refused by sealing, whatever their lowest bytes are, and by opening none; and 14 with each other reason of sealing
unfoldable pub zero_answers : List Case
zero_answers =
    -- sized seal 0
    (seal_for 0 is (14 ∷ []))
    -- sized seal 1
    ∷ (seal_for 1 is (0 ∷ []))
    -- sized seal 256
    ∷ (seal_for 256 is (0 ∷ []))
    -- sized seal 65536
    ∷ (seal_for 65536 is (0 ∷ []))
    -- sized seal 16777216
    ∷ (seal_for 16777216 is (0 ∷ []))
    -- sized seal 4294967295
    ∷ (seal_for 4294967295 is (0 ∷ []))
    -- sized open 0
    ∷ (open_for 0 is (0 ∷ []))
    -- sized open 1
    ∷ (open_for 1 is (0 ∷ []))
    -- sized open 256
    ∷ (open_for 256 is (0 ∷ []))
    -- sized open 65536
    ∷ (open_for 65536 is (0 ∷ []))
    -- sized open 16777216
    ∷ (open_for 16777216 is (0 ∷ []))
    -- sized open 4294967295
    ∷ (open_for 4294967295 is (0 ∷ []))
    -- both seal 1 14
    ∷ ((seal_number pair_key12 pair_key12 10 0 [] (replicate 576 0) (replicate 512 0) ∷ []) is (1 ∷ []))
    -- both seal 2 14
    ∷ ((seal_number pair_key12 by_a 12 0 [] (replicate 576 0) (replicate 512 0) ∷ []) is (2 ∷ []))
    -- both seal 4 14
    ∷ ((seal_number pair_key12 by_a 10 0 [] (replicate 576 0) (replicate 511 0) ∷ []) is (4 ∷ []))
    -- both seal 14 12
    ∷ ((seal_number pair_key12 by_a 10 0 (replicate 493 0) (replicate 576 0) (replicate 512 0) ∷ []) is (14 ∷ []))
    ∷ []

-- two blocks chained with the cipher itself
unfoldable pub chain_answers : List Case
chain_answers =
    -- chain 0f1e2d3c4b5a69788796a5b4 10 00112233445566778899aabb 0102030405060708090a0b0c0c0b0a090807060504030201
    (chained_bytes (enciphering pair_key12 10) (state_of (threes (0x001122 ∷ 0x334455 ∷ 0x667788 ∷ 0x99AABB ∷ [])))
    (threes (0x010203 ∷ 0x040506 ∷ 0x070809 ∷ 0x0A0B0C ∷ 0x0C0B0A ∷ 0x090807 ∷ 0x060504 ∷ 0x030201 ∷ []))
    is threes (0x6547B7 ∷ 0xAB8EDA ∷ 0x3FD23E ∷ 0x80DBA3 ∷ 0x6B344E ∷ 0xEF6E9D ∷ 0x703B11 ∷ 0x1E6045 ∷ []))
    ∷ []
