-- What is claimed of sealed pages: request 3, with 14 as request 7 has it. A term of each type stands in proofs/Claims.antt.
use Rattle.std.specs.Prelude.{true, ◌≡◌, List, ◌++◌, ℕ, ◌-◌, ◌/◌, ◌%◌, ◌≤◌, ◌<◌, length, take, drop, replicate}
use Rattle.basics.specs.Bytes.{AreBytes}
use Rattle.refusal.specs.Tries.{first}
use Rattle.refusal.specs.Claims.{Ordered}
use Rattle.sizes.specs.Sizes.{key_length, rounds_allowed}
use Rattle.pages.specs.Pages.{block_in, page_number_in, used_in, check_over, cleared}
use Rattle.pages.specs.Keyed.{enciphering}
use Rattle.sealing.specs.Sealing.{seal_tries, seal_number, sealed, seal_output, seal_scratch}
use Rattle.opening.specs.Opening.{open_input_tries, content_tries, open_tries, open_number, opened_payload, open_output, open_scratch}
use Rattle.opening.specs.Opening.{opened_block, opened_page_number, opened_used}
use Rattle.open_call.specs.OpenCall.{open_call_code}

-- ---- refusals
-- each refusal of either call has its reason, and the first in order is given
unfoldable pub PagesInOrder : Type 0
PagesInOrder = (key₁ key₂ : List ℕ) (rounds block : ℕ) (payload page scratch out : List ℕ)
    → Ordered (seal_tries key₁ key₂ rounds block payload scratch out) × Ordered (open_tries key₁ key₂ rounds page scratch out)

-- a call that refuses leaves the output as it was, the opening also after 13 and after the 11 tried after 13
unfoldable pub RefusedPageKeeps : Type 0
RefusedPageKeeps = (key₁ key₂ : List ℕ) (rounds block number : ℕ) (payload page scratch out : List ℕ)
    → (0 < seal_number key₁ key₂ rounds block payload scratch out → seal_output key₁ key₂ rounds block number payload scratch out ≡ out)
    × (0 < open_number key₁ key₂ rounds page scratch out → open_output key₁ key₂ rounds page scratch out ≡ out)

-- ---- the scratch
-- what it holds after sealing, by the number
pub record ScratchSealed (key₁ key₂ : List ℕ) (rounds block : ℕ) (payload scratch out : List ℕ) : Type 0 where
  pub done : seal_number key₁ key₂ rounds block payload scratch out ≡ 0 → seal_scratch key₁ key₂ rounds block payload scratch out ≡ cleared ++ drop 576 scratch
  pub refused : 0 < seal_number key₁ key₂ rounds block payload scratch out → seal_scratch key₁ key₂ rounds block payload scratch out ≡ scratch

-- and after opening. Where nothing holds that is tried before any work, the page is looked into: the call's number is 0, 13 or the late 11, and the
-- scratch is cleared
pub record ScratchOpened (key₁ key₂ : List ℕ) (rounds : ℕ) (page scratch out : List ℕ) : Type 0 where
  pub done : open_number key₁ key₂ rounds page scratch out ≡ 0 → open_scratch key₁ key₂ rounds page scratch out ≡ cleared ++ drop 576 scratch
  pub differs : open_number key₁ key₂ rounds page scratch out ≡ 13 → open_scratch key₁ key₂ rounds page scratch out ≡ cleared ++ drop 576 scratch
  pub looked_into : first (open_input_tries key₁ key₂ rounds page scratch out) ≡ 0
      → (open_number key₁ key₂ rounds page scratch out ≡ first (content_tries key₁ key₂ rounds page))
      × (open_scratch key₁ key₂ rounds page scratch out ≡ cleared ++ drop 576 scratch)
  pub early : 0 < first (open_input_tries key₁ key₂ rounds page scratch out)
      → (open_number key₁ key₂ rounds page scratch out ≡ first (open_input_tries key₁ key₂ rounds page scratch out))
      × (open_scratch key₁ key₂ rounds page scratch out ≡ scratch)

unfoldable pub ScratchIsCleared : Type 0
ScratchIsCleared = (key₁ key₂ : List ℕ) (rounds block : ℕ) (payload page scratch out : List ℕ)
    → ScratchSealed key₁ key₂ rounds block payload scratch out × ScratchOpened key₁ key₂ rounds page scratch out

-- ---- when a page is sealed, and when it opens
-- two keys and a round count that no call on a page refuses
pub record PageSettings (key₁ key₂ : List ℕ) (rounds : ℕ) : Type 0 where
  pub key-length : key_length (length key₁) ≡ true
  pub one_length : length key₂ ≡ length key₁
  pub apart : key₁ ≡ key₂ → ⊥
  pub round-count : rounds_allowed (length key₁) rounds ≡ true

-- sealing refuses nothing else than wrong settings, too little room, size block 0 and too long a payload
unfoldable pub SealsExactlyWhen : Type 0
SealsExactlyWhen = (key₁ key₂ : List ℕ) (rounds block : ℕ) (payload scratch out : List ℕ)
    → (seal_number key₁ key₂ rounds block payload scratch out ≡ 0
    → PageSettings key₁ key₂ rounds × ((576 ≤ length scratch) × ((512 ≤ length out) × ((block ≡ 0 → ⊥) × (length payload ≤ 492)))))
    × (PageSettings key₁ key₂ rounds → 576 ≤ length scratch → 512 ≤ length out → (block ≡ 0 → ⊥) → length payload ≤ 492
    → seal_number key₁ key₂ rounds block payload scratch out ≡ 0)

-- bytes that are a page under two keys: 512 of them, with a header's form, a check that agrees, and zeros where the payload is not used
pub record IsPage (key₁ key₂ : List ℕ) (rounds : ℕ) (page : List ℕ) : Type 0 where
  pub size : length page ≡ 512
  pub used : used_in page ≤ 492
  pub zeros : take 4 (drop 8 page) ≡ replicate 4 0
  pub check : drop 504 page ≡ check_over (enciphering key₂ rounds) (take 504 page)
  pub unused : drop (used_in page) (opened_payload key₁ rounds page) ≡ replicate (492 - used_in page) 0

-- a page opens exactly when it is one
unfoldable pub PageOpensExactlyWhen : Type 0
PageOpensExactlyWhen = (key₁ key₂ : List ℕ) (rounds : ℕ) (page scratch out : List ℕ)
    → (open_number key₁ key₂ rounds page scratch out ≡ 0
    → PageSettings key₁ key₂ rounds × ((576 ≤ length scratch) × ((492 ≤ length out) × IsPage key₁ key₂ rounds page)))
    × (PageSettings key₁ key₂ rounds → 576 ≤ length scratch → 492 ≤ length out → IsPage key₁ key₂ rounds page
    → open_number key₁ key₂ rounds page scratch out ≡ 0)

-- ---- sealed and opened
-- opening gives back the payload, then zeros up to 492 bytes, and the numbers
pub record GivesBack (key₁ key₂ : List ℕ) (rounds block number : ℕ) (payload page scratch out : List ℕ) : Type 0 where
  pub opens : open_number key₁ key₂ rounds page scratch out ≡ 0
  pub output : open_output key₁ key₂ rounds page scratch out ≡ payload ++ (replicate (492 - length payload) 0 ++ drop 492 out)
  pub size_block : opened_block key₁ key₂ rounds page scratch out ≡ block
  pub page-number : opened_page_number key₁ key₂ rounds page scratch out ≡ number
  pub used : opened_used key₁ key₂ rounds page scratch out ≡ length payload

-- what was sealed opens under the same keys and round count: every page, as `sealed` has it, with a payload of any length from 0 to 492, any page number
-- and any size block, 0 among them. Pages for 0 were sealed before request 7, when the call wrote this page for them too
unfoldable pub OpensWhatWasSealed : Type 0
OpensWhatWasSealed = (key₁ key₂ : List ℕ) → AreBytes key₁ → (rounds : ℕ) → PageSettings key₁ key₂ rounds
    → (block number : ℕ) → block < 4294967296 → number < 65536 → (payload : List ℕ) → AreBytes payload → length payload ≤ 492
    → (scratch out : List ℕ) → 576 ≤ length scratch → 492 ≤ length out
    → GivesBack key₁ key₂ rounds block number payload (sealed key₁ key₂ rounds block number payload) scratch out

-- and so does what a call sealed, which is such a page, for a size block other than 0
unfoldable pub OpensWhatACallSealed : Type 0
OpensWhatACallSealed = (key₁ key₂ : List ℕ) → AreBytes key₁ → (rounds block number : ℕ) → block < 4294967296 → number < 65536
    → (payload : List ℕ) → AreBytes payload → (scratch out : List ℕ) → seal_number key₁ key₂ rounds block payload scratch out ≡ 0
    → (scratch' out' : List ℕ) → 576 ≤ length scratch' → 492 ≤ length out'
    → GivesBack key₁ key₂ rounds block number payload (take 512 (seal_output key₁ key₂ rounds block number payload scratch out)) scratch' out'

-- and every page that opens is the seal of what it gives: of the numbers that are answered, and of as many bytes of the output as are used. Sealing
-- these again is not refused where there is room, unless the size block is 0, where it is refused with 14. It does not say who sealed the page
pub record IsSeal (key₁ key₂ : List ℕ) (rounds block number : ℕ) (payload page : List ℕ) : Type 0 where
  pub same : page ≡ sealed key₁ key₂ rounds block number payload
  pub accepted : (block ≡ 0 → ⊥) → (scratch out : List ℕ) → 576 ≤ length scratch → 512 ≤ length out
      → seal_number key₁ key₂ rounds block payload scratch out ≡ 0
  pub block_zero : block ≡ 0 → (scratch out : List ℕ) → 576 ≤ length scratch → 512 ≤ length out
      → seal_number key₁ key₂ rounds block payload scratch out ≡ 14

unfoldable pub OpenedPageIsASeal : Type 0
OpenedPageIsASeal = (key₁ key₂ : List ℕ) → AreBytes key₁ → (rounds : ℕ) (page : List ℕ) → AreBytes page → (scratch out : List ℕ)
    → open_number key₁ key₂ rounds page scratch out ≡ 0
    → IsSeal key₁ key₂ rounds (opened_block key₁ key₂ rounds page scratch out) (opened_page_number key₁ key₂ rounds page scratch out)
    (take (opened_used key₁ key₂ rounds page scratch out) (open_output key₁ key₂ rounds page scratch out)) page

-- ---- the C call's number
-- it is a refusal's number, 13 at most; or 2⁶³ and more, and then the header's numbers are read from it
pub record CodeTells (key₁ key₂ : List ℕ) (rounds : ℕ) (page scratch out : List ℕ) : Type 0 where
  pub refused : 0 < open_number key₁ key₂ rounds page scratch out
      → (open_call_code key₁ key₂ rounds page scratch out ≡ open_number key₁ key₂ rounds page scratch out)
      × (open_call_code key₁ key₂ rounds page scratch out ≤ 13)
  pub opened : open_number key₁ key₂ rounds page scratch out ≡ 0 → 9223372036854775808 ≤ open_call_code key₁ key₂ rounds page scratch out
  pub size_block : open_number key₁ key₂ rounds page scratch out ≡ 0 → open_call_code key₁ key₂ rounds page scratch out % 4294967296 ≡ block_in page
  pub page-number : open_number key₁ key₂ rounds page scratch out ≡ 0
      → open_call_code key₁ key₂ rounds page scratch out / 4294967296 % 65536 ≡ page_number_in page
  pub used : open_number key₁ key₂ rounds page scratch out ≡ 0
      → open_call_code key₁ key₂ rounds page scratch out / 281474976710656 % 32768 ≡ used_in page

unfoldable pub OpenCodeTells : Type 0
OpenCodeTells = (key₁ key₂ : List ℕ) (rounds : ℕ) (page : List ℕ) → AreBytes page → (scratch out : List ℕ)
    → CodeTells key₁ key₂ rounds page scratch out
