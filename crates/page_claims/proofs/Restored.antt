-- A page is opened to what was sealed, and a page that opens is the seal of it, whatever enciphers a block.
use mathlib.Core.Path.{◌≡◌, refl, sym, ap, ap₂, ◌∙◌, subst}
use mathlib.Core.Bool.{Bool, true, ◌&&◌}
use mathlib.Core.List.{List, [], ◌∷◌, ◌++◌}
use Prim.Native.Nat.{ℕ, zero, suc, ◌+◌, ◌-◌, ◌/◌, ◌%◌, ◌≤◌, ◌<◌}
use native.Mathlib.Omega.{arith}
use lib.Dec.{lit<}
use lib.ListN.{length, get_or, take, drop, replicate, length-drop, get_or-replicate, take-append-drop}
use lib.Seq.{take_at, drop_at, take-add, length-take-le, get_or-take, get_or-drop}
use borrow.Author.Tests.{eq-eqb, le-leb}
use Rattle.basics.specs.Bytes.{AreBytes}
use Rattle.basics.proofs.Bytes.{joined_bytes, repeated-bytes}
use Rattle.layers.specs.State.{State}
use Rattle.numbers.specs.Numbers.{two_bytes, four_bytes}
use Rattle.numbers.proofs.Laws.{two_again, four_again, high, low, four₀, four₁, four₂, four₃}
use Rattle.block_bytes.specs.Blocks.{state_of}
use Rattle.block_bytes.proofs.RoundTrip.{bytes_state, block_state, part_bytes}
use Rattle.byte_slices.specs.Slices.{all_zero}
use Rattle.byte_slices.proofs.Zeros.{zeros}
use Rattle.byte_slices.proofs.Equal.{equal_same}
use Rattle.chaining.specs.Chaining.{chained_bytes, unchained_bytes}
use Rattle.chaining.proofs.Restored.{Undoing}
use Rattle.chaining.proofs.Bytes.{length_chained_bytes, restores_bytes, restored_bytes}
use Rattle.pages.specs.Pages.{header, filled, stored, check_over, page_of, block_in, page_number_in, used_in, page_form, payload_in, check_agrees, unused_zero}
use Rattle.pages.proofs.Lengths.{length-filled, length-stored, length-page, length_payload}

-- ---- bytes
zero_bytes : (n : ℕ) → AreBytes (replicate n 0)
zero_bytes n = repeated-bytes n 0 (lit< tt)

rest : (n : ℕ) → n % 256 < 256
rest n = omega arith

four_bytes_lem : (n : ℕ) → AreBytes (four_bytes n)
four_bytes_lem n zero = rest (n / 16777216)
four_bytes_lem n (suc zero) = rest (n / 65536)
four_bytes_lem n (suc (suc zero)) = rest (n / 256)
four_bytes_lem n (suc (suc (suc zero))) = rest n
four_bytes_lem n (suc (suc (suc (suc i)))) = lit< tt

two_bytes_lem : (n : ℕ) → AreBytes (two_bytes n)
two_bytes_lem n zero = rest (n / 256)
two_bytes_lem n (suc zero) = rest n
two_bytes_lem n (suc (suc i)) = lit< tt

header-bytes : (block number used : ℕ) → AreBytes (header block number used)
header-bytes block number used =
    joined_bytes (four_bytes block) (two_bytes number ++ (two_bytes used ++ replicate 4 0)) (four_bytes_lem block)
    (joined_bytes (two_bytes number) (two_bytes used ++ replicate 4 0) (two_bytes_lem number)
    (joined_bytes (two_bytes used) (replicate 4 0) (two_bytes_lem used) (zero_bytes 4)))

filled-bytes : (payload : List ℕ) → AreBytes payload → AreBytes (filled payload)
filled-bytes payload b = joined_bytes payload _ b (zero_bytes (492 - length payload))

-- ---- what was sealed
module _ {f g : State → State} (u : Undoing f g) (h : State → State) (block number : ℕ) (payload : List ℕ) (b : AreBytes payload)
    (fits : length payload ≤ 492) where
  abbrev head : List ℕ
  head = header block number (length payload)

  abbrev body : List ℕ
  body = stored f head payload

  abbrev page : List ℕ
  page = page_of f h block number payload

  chain : List ℕ
  chain = chained_bytes f (f (state_of head)) (filled payload)

  whole : page ≡ body ++ check_over h body
  unfolding page_of
  whole = refl

  front : take 504 page ≡ body
  front = ap (take 504) whole ∙ take_at body (check_over h body) 504 (length-stored f head payload refl fits)

  back : drop 504 page ≡ check_over h body
  back = ap (drop 504) whole ∙ drop_at body (check_over h body) 504 (length-stored f head payload refl fits)

  first-twelve : take 12 page ≡ head
  unfolding page_of stored
  first-twelve = refl

  part : take 492 (drop 12 page) ≡ chain
  unfolding page_of stored chain
  part = take_at chain (check_over h body) 492 (length_chained_bytes (f (state_of head)) (filled payload) 41 (length-filled payload fits) f)

  pub opened_payload_lem : payload_in f g page ≡ filled payload
  unfolding payload_in chain
  opened_payload_lem =
      let s = u.makes (state_of head) (block_state head (header-bytes block number (length payload))) in
      ap₂ (λ (x y : List ℕ). unchained_bytes g (f (state_of x)) y) first-twelve part
      ∙ restores_bytes u (f (state_of head)) s (filled payload) (filled-bytes payload b) 41 (length-filled payload fits)

  pub opened_block_lem : block < 4294967296 → block_in page ≡ block
  unfolding page_of stored
  opened_block_lem l = four_again block l

  pub opened-number : number < 65536 → page_number_in page ≡ number
  unfolding page_of stored
  opened-number l = two_again number l

  pub opened-used : used_in page ≡ length payload
  unfolding page_of stored
  opened-used = two_again (length payload) (omega arith)

  pub sealed_form : page_form page ≡ true
  unfolding page_form page_of stored
  sealed_form =
      ap₂ (λ (x y : Bool). x && (y && all_zero (take 4 (drop 8 page)))) (eq-eqb (length page) 512 (length-page f h block number payload fits))
      (le-leb (used_in page) 492 (subst (λ (n : ℕ). n ≤ 492) (sym opened-used) fits))
      ∙ zero_part
    where
      zero_part : all_zero (take 4 (drop 8 page)) ≡ true
      zero_part = zeros 4

  pub sealed-check : check_agrees h page ≡ true
  unfolding check_agrees
  sealed-check = equal_same _ _ (ap (check_over h) front ∙ sym back)

  pub sealed-unused : unused_zero f g page ≡ true
  unfolding unused_zero
  sealed-unused =
      ap₂ (λ (n : ℕ) (l : List ℕ). all_zero (drop n l)) opened-used opened_payload_lem
      ∙ ap all_zero (drop_at payload (replicate (492 - length payload) 0) (length payload) refl) ∙ zeros (492 - length payload)

-- ---- what opens
-- a header from the numbers that are read from it
module _ (page : List ℕ) (b : AreBytes page) (l : 12 ≤ length page) (z : take 4 (drop 8 page) ≡ replicate 4 0) where
  abbrev byte : ℕ → ℕ
  byte i = get_or page i 0

  lent : (i : ℕ) → i < 12 → byte i ≡ get_or (take 12 page) i 0
  lent i h = sym (get_or-take 12 page i 0 h)

  none : (i : ℕ) → i < 4 → 0 ≡ get_or (take 12 page) (8 + i) 0
  none i h =
      sym (get_or-replicate 4 i 0 0 h) ∙ ap (λ (x : List ℕ). get_or x i 0) (sym z) ∙ get_or-take 4 (drop 8 page) i 0 h ∙ get_or-drop 8 page i 0
      ∙ lent (8 + i) (omega arith)

  header_again : header (block_in page) (page_number_in page) (used_in page) ≡ take 12 page
  header_again =
      let h : (i : ℕ) → byte i < 256 = b in
      let b₀ = four₀ (byte 0) (byte 1) (byte 2) (byte 3) (h 0) (h 1) (h 2) (h 3) ∙ lent 0 (lit< tt) in
      let b₁ = four₁ (byte 0) (byte 1) (byte 2) (byte 3) (h 0) (h 1) (h 2) (h 3) ∙ lent 1 (lit< tt) in
      let b₂ = four₂ (byte 0) (byte 1) (byte 2) (byte 3) (h 2) (h 3) ∙ lent 2 (lit< tt) in
      let b₃ = four₃ (byte 0) (byte 1) (byte 2) (byte 3) (h 3) ∙ lent 3 (lit< tt) in
      let n₀ = high (byte 4) (byte 5) (h 4) (h 5) ∙ lent 4 (lit< tt) in
      let n₁ = low (byte 4) (byte 5) (h 5) ∙ lent 5 (lit< tt) in
      let u₀ = high (byte 6) (byte 7) (h 6) (h 7) ∙ lent 6 (lit< tt) in
      let u₁ = low (byte 6) (byte 7) (h 7) ∙ lent 7 (lit< tt) in
      let z₀ = none 0 (lit< tt) in
      let z₁ = none 1 (lit< tt) in
      let z₂ = none 2 (lit< tt) in
      let z₃ = none 3 (lit< tt) in
      (λ i. b₀ i ∷ b₁ i ∷ b₂ i ∷ b₃ i ∷ n₀ i ∷ n₁ i ∷ u₀ i ∷ u₁ i ∷ z₀ i ∷ z₁ i ∷ z₂ i ∷ z₃ i ∷ [])
      ∙ bytes_state (take 12 page) (length-take-le 12 page l)

-- the payload is what is used of it, filled up
used-filled : (whole : List ℕ) (used : ℕ) → length whole ≡ 492 → used ≤ 492 → drop used whole ≡ replicate (492 - used) 0
    → (length (take used whole) ≡ used) × (filled (take used whole) ≡ whole)
used-filled whole used l h z =
    let n = length-take-le used whole (omega (arith, l)) in
    (n, ap (λ (m : ℕ). take used whole ++ replicate (492 - m) 0) n ∙ ap (λ (x : List ℕ). take used whole ++ x) (sym z) ∙ take-append-drop used whole)

module _ {f g : State → State} (u : Undoing f g) (h : State → State) (page : List ℕ) (b : AreBytes page) (size : length page ≡ 512)
    (fits : used_in page ≤ 492) (z : take 4 (drop 8 page) ≡ replicate 4 0) (check : drop 504 page ≡ check_over h (take 504 page))
    (unused : drop (used_in page) (payload_in f g page) ≡ replicate (492 - used_in page) 0) where
  abbrev used_part : List ℕ
  used_part = take (used_in page) (payload_in f g page)

  again : (length used_part ≡ used_in page) × (filled used_part ≡ payload_in f g page)
  again = used-filled (payload_in f g page) (used_in page) (length_payload f g page size) fits unused

  head_again : header (block_in page) (page_number_in page) (length used_part) ≡ take 12 page
  head_again = ap (header (block_in page) (page_number_in page)) again.0 ∙ header_again page b (omega (arith, size)) z

  body_again : stored f (header (block_in page) (page_number_in page) (length used_part)) used_part ≡ take 504 page
  unfolding stored payload_in
  body_again =
      let p = take 492 (drop 12 page) in
      let l = length-take-le 492 (drop 12 page) (omega (arith, length-drop 12 page, size)) in
      let s = u.makes (state_of (take 12 page)) (block_state (take 12 page) (part_bytes 12 0 page b)) in
      ap₂ (λ (x y : List ℕ). x ++ chained_bytes f (f (state_of x)) y) head_again again.1
      ∙ ap (λ (x : List ℕ). take 12 page ++ x) (restored_bytes u (f (state_of (take 12 page))) s p (part_bytes 492 12 page b) 41 l)
      ∙ sym (take-add 12 492 page)

  pub page_again : page ≡ page_of f h (block_in page) (page_number_in page) used_part
  unfolding page_of
  page_again = sym (ap (λ (x : List ℕ). x ++ check_over h x) body_again ∙ ap (λ (x : List ℕ). take 504 page ++ x) (sym check) ∙ take-append-drop 504 page)
