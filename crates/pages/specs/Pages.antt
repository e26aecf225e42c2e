-- A sealed page: request 3. 512 bytes: 4 size block, 2 page number, 2 used count, 4 zero, 492 payload with unused bytes zero, 8 check; numbers
-- big end first. A page is described by what enciphers a block under the first key (f), deciphers one under it (g), and enciphers one under the
-- second (h): what the page is does not rest on the cipher.
use Rattle.std.specs.Prelude.{Bool, ◌&&◌, List, ◌++◌, ℕ, ◌-◌, eqb, leb, length, get_or, take, drop, replicate}
use Rattle.layers.specs.State.{State, build}
use Rattle.numbers.specs.Numbers.{two_from, four_from, two_bytes, four_bytes}
use Rattle.block_bytes.specs.Blocks.{state_of, bytes_of}
use Rattle.byte_slices.specs.Slices.{all_zero, same_bytes}
use Rattle.chaining.specs.Chaining.{chained_bytes, unchained_bytes, last_chained}

-- ---- what is sealed
-- the header: the first 12 bytes, which stay plain
abbrev pub header : ℕ → ℕ → ℕ → List ℕ
header block number used = four_bytes block ++ (two_bytes number ++ (two_bytes used ++ replicate 4 0))

-- the payload with its unused bytes, which are zero
abbrev pub filled : List ℕ → List ℕ
filled payload = payload ++ replicate (492 - length payload) 0

-- bytes 0 to 503 as they are stored: the header, and the payload chained from the header enciphered under the same key
unfoldable pub stored : (State → State) → List ℕ → List ℕ → List ℕ
stored f head payload = head ++ chained_bytes f (f (state_of head)) (filled payload)

-- the check over bytes 0 to 503 as they are stored: the first 8 bytes of the last block of the same chaining, from zero
unfoldable pub check_over : (State → State) → List ℕ → List ℕ
check_over h bytes = take 8 (bytes_of (last_chained h (build (λ i j. 0)) bytes))

-- the page
unfoldable pub page_of : (State → State) → (State → State) → ℕ → ℕ → List ℕ → List ℕ
page_of f h block number payload =
    stored f (header block number (length payload)) payload ++ check_over h (stored f (header block number (length payload)) payload)

-- ---- what is opened
-- the header's numbers
abbrev pub block_in : List ℕ → ℕ
block_in page = four_from (get_or page 0 0) (get_or page 1 0) (get_or page 2 0) (get_or page 3 0)

abbrev pub page_number_in : List ℕ → ℕ
page_number_in page = two_from (get_or page 4 0) (get_or page 5 0)

abbrev pub used_in : List ℕ → ℕ
used_in page = two_from (get_or page 6 0) (get_or page 7 0)

-- 512 bytes, a count of at most 492, and zero in bytes 8 to 11
unfoldable pub page_form : List ℕ → Bool
page_form page = eqb (length page) 512 && (leb (used_in page) 492 && all_zero (take 4 (drop 8 page)))

-- the payload: the chaining undone, from the header enciphered
unfoldable pub payload_in : (State → State) → (State → State) → List ℕ → List ℕ
payload_in f g page = unchained_bytes g (f (state_of (take 12 page))) (take 492 (drop 12 page))

-- the last 8 bytes are the check
unfoldable pub check_agrees : (State → State) → List ℕ → Bool
check_agrees h page = same_bytes (check_over h (take 504 page)) (drop 504 page)

-- the unused bytes of the payload are zero
unfoldable pub unused_zero : (State → State) → (State → State) → List ℕ → Bool
unused_zero f g page = all_zero (drop (used_in page) (payload_in f g page))

-- ---- the scratch
-- its first 576 bytes, in which subkey lists sit while a page is sealed or opened, once the work is done
unfoldable pub cleared : List ℕ
cleared = replicate 576 0
