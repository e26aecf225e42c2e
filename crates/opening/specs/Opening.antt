-- Opening a page: request 3, "opening tries 1, 2, 4 .., 11 .., 13 (check differs) and then 11 again". A call is given two keys, a round count, the
-- page, the scratch and the output. No size block is refused: pages that were sealed for 0 before request 7 open.
use Rattle.std.specs.Prelude.{◌&&◌, List, [], ◌∷◌, ◌++◌, ℕ, leb, length}
use Rattle.refusal.specs.Tries.{Try, ◌unless◌, first, written, answered}
use Rattle.layers.specs.State.{State}
use Rattle.key_pairs.specs.KeyPairs.{pair_tries}
use Rattle.pages.specs.Pages.{block_in, page_number_in, used_in, page_form, payload_in, check_agrees, unused_zero, cleared}
use Rattle.pages.specs.declared.Header.{Header}
use Rattle.pages.specs.Keyed.{enciphering, deciphering}

-- what is tried before any work. 4: scratch under 576 or output under 492; 11: page not 512 bytes, count over 492 or bytes 8 to 11 not zero
abbrev pub open_input_tries : List ℕ → List ℕ → ℕ → List ℕ → List ℕ → List ℕ → List Try
open_input_tries key₁ key₂ rounds page scratch out =
    pair_tries key₁ key₂ rounds ++ ((4 unless (leb 576 (length scratch) && leb 492 (length out))) ∷ (11 unless page_form page) ∷ [])

-- what is tried after it. 13: check differs; 11: unused payload bytes that are not zero
abbrev pub content_tries_with : (State → State) → (State → State) → (State → State) → List ℕ → List Try
content_tries_with f g h page = (13 unless check_agrees h page) ∷ (11 unless unused_zero f g page) ∷ []

-- with the cipher: the check is under the second key, the payload under the first
abbrev pub content_tries : List ℕ → List ℕ → ℕ → List ℕ → List Try
content_tries key₁ key₂ rounds page = content_tries_with (enciphering key₁ rounds) (deciphering key₁ rounds) (enciphering key₂ rounds) page

abbrev pub open_tries : List ℕ → List ℕ → ℕ → List ℕ → List ℕ → List ℕ → List Try
open_tries key₁ key₂ rounds page scratch out = open_input_tries key₁ key₂ rounds page scratch out ++ content_tries key₁ key₂ rounds page

abbrev pub open_number : List ℕ → List ℕ → ℕ → List ℕ → List ℕ → List ℕ → ℕ
open_number key₁ key₂ rounds page scratch out = first (open_tries key₁ key₂ rounds page scratch out)

-- the payload: all its 492 bytes
unfoldable pub opened_payload : List ℕ → ℕ → List ℕ → List ℕ
opened_payload key₁ rounds page = payload_in (enciphering key₁ rounds) (deciphering key₁ rounds) page

-- what the output holds after the call
unfoldable pub open_output : List ℕ → List ℕ → ℕ → List ℕ → List ℕ → List ℕ → List ℕ
open_output key₁ key₂ rounds page scratch out = written (open_number key₁ key₂ rounds page scratch out) (opened_payload key₁ rounds page) out

-- and the scratch: cleared after success, after 13 and after the 11 tried after 13; kept after every other refusal
unfoldable pub open_scratch : List ℕ → List ℕ → ℕ → List ℕ → List ℕ → List ℕ → List ℕ
open_scratch key₁ key₂ rounds page scratch out = written (first (open_input_tries key₁ key₂ rounds page scratch out)) cleared scratch

-- the header that stands for a refusal: zeros
abbrev pub no_header : Header
no_header = record { size_block = 0; page_number = 0; used = 0 }

-- what is answered: the header's numbers; zeros where the call refuses
unfoldable pub opened_block : List ℕ → List ℕ → ℕ → List ℕ → List ℕ → List ℕ → ℕ
opened_block key₁ key₂ rounds page scratch out = answered (open_number key₁ key₂ rounds page scratch out) (block_in page) 0

unfoldable pub opened_page_number : List ℕ → List ℕ → ℕ → List ℕ → List ℕ → List ℕ → ℕ
opened_page_number key₁ key₂ rounds page scratch out = answered (open_number key₁ key₂ rounds page scratch out) (page_number_in page) 0

unfoldable pub opened_used : List ℕ → List ℕ → ℕ → List ℕ → List ℕ → List ℕ → ℕ
opened_used key₁ key₂ rounds page scratch out = answered (open_number key₁ key₂ rounds page scratch out) (used_in page) 0
