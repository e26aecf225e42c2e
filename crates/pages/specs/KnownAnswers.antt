-- Known answers for the form of a page, as the independent program prints them. Each comment begins its line.
use Rattle.std.specs.Prelude.{List, [], ◌∷◌, ℕ, ◌/◌, ◌%◌, set, replicate}
use Rattle.basics.specs.Cases.{Case, ◌is◌, flag}
use Rattle.pages.specs.Pages.{header, page_form}

-- so many zeros, with a used count in bytes 6 and 7, and one byte replaced
unfoldable pub form_of : ℕ → ℕ → ℕ → ℕ → List ℕ
form_of n used index value = set (set (set (replicate n 0) 6 (used / 256 % 256)) 7 (used % 256)) index value

unfoldable pub known_answers : List Case
known_answers =
    -- form 512 0 0 0
    ((flag (page_form (form_of 512 0 0 0)) ∷ []) is (1 ∷ []))
    -- form 511 0 0 0
    ∷ ((flag (page_form (form_of 511 0 0 0)) ∷ []) is (0 ∷ []))
    -- form 513 0 0 0
    ∷ ((flag (page_form (form_of 513 0 0 0)) ∷ []) is (0 ∷ []))
    -- form 0 0 0 0
    ∷ ((flag (page_form (form_of 0 0 0 0)) ∷ []) is (0 ∷ []))
    -- form 512 1 0 0
    ∷ ((flag (page_form (form_of 512 1 0 0)) ∷ []) is (1 ∷ []))
    -- form 512 492 0 0
    ∷ ((flag (page_form (form_of 512 492 0 0)) ∷ []) is (1 ∷ []))
    -- form 512 493 0 0
    ∷ ((flag (page_form (form_of 512 493 0 0)) ∷ []) is (0 ∷ []))
    -- form 512 256 0 0
    ∷ ((flag (page_form (form_of 512 256 0 0)) ∷ []) is (1 ∷ []))
    -- form 512 65535 0 0
    ∷ ((flag (page_form (form_of 512 65535 0 0)) ∷ []) is (0 ∷ []))
    -- form 512 0 8 1
    ∷ ((flag (page_form (form_of 512 0 8 1)) ∷ []) is (0 ∷ []))
    -- form 512 0 9 1
    ∷ ((flag (page_form (form_of 512 0 9 1)) ∷ []) is (0 ∷ []))
    -- form 512 0 10 1
    ∷ ((flag (page_form (form_of 512 0 10 1)) ∷ []) is (0 ∷ []))
    -- form 512 0 11 128
    ∷ ((flag (page_form (form_of 512 0 11 128)) ∷ []) is (0 ∷ []))
    -- form 512 0 12 1
    ∷ ((flag (page_form (form_of 512 0 12 1)) ∷ []) is (1 ∷ []))
    -- form 512 0 5 1
    ∷ ((flag (page_form (form_of 512 0 5 1)) ∷ []) is (1 ∷ []))
    -- form 512 0 511 1
    ∷ ((flag (page_form (form_of 512 0 511 1)) ∷ []) is (1 ∷ []))
    -- the header in the line of a page with 17 bytes of payload
    ∷ (header 16909060 1286 17 is (0x01 ∷ 0x02 ∷ 0x03 ∷ 0x04 ∷ 0x05 ∷ 0x06 ∷ 0x00 ∷ 0x11 ∷ 0x00 ∷ 0x00 ∷ 0x00 ∷ 0x00 ∷ []))
    ∷ []
