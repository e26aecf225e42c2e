-- When a page opens; sealed and opened; opened and sealed.
use mathlib.Core.Path.{◌≡◌, refl, sym, ap, ap₂, ◌∙◌, subst}
use mathlib.Core.Bool.{Bool, true, ◌&&◌}
use mathlib.Core.List.{List, ◌++◌, append_assoc}
use Prim.Native.Nat.{ℕ, ◌-◌, ◌≤◌, ◌<◌}
use native.Mathlib.Omega.{arith}
use lib.Dec.{eqb, leb}
use lib.ListN.{length, take, drop, replicate, length-drop, length-take}
use lib.Seq.{length-take-le, take-append-le}
use borrow.Author.Tests.{eq-eqb, eqb-true, le-leb, leb-true}
use Rattle.basics.specs.Bytes.{AreBytes}
use Rattle.basics.proofs.Tests.{and_first, and_second}
use Rattle.refusal.proofs.Tries.{none-given, first_passes, first_holds}
use Rattle.refusal.proofs.Ladder.{all_pass}
use Rattle.refusal.proofs.Answers.{put, starts, is-answered}
use Rattle.byte_slices.specs.Slices.{all_zero}
use Rattle.byte_slices.proofs.Zeros.{zeros, zeros_are}
use Rattle.byte_slices.proofs.Equal.{same_equal, equal_same}
use Rattle.size_blocks.proofs.SizeBlocks.{is-size_block, zero_is_none, other_than_zero}
use Rattle.pages.specs.Pages.{used_in, block_in, page_number_in, page_form, check_over, check_agrees, unused_zero, filled}
use Rattle.pages.specs.Keyed.{enciphering, deciphering}
use Rattle.pages.proofs.Lengths.{length_payload, length-page, length-filled}
use Rattle.sealing.specs.Sealing.{seal_tries, seal_number, sealed, seal_output}
use Rattle.opening.specs.Opening.{open_tries, open_number, opened_payload, open_output, opened_block, opened_page_number, opened_used}
use Rattle.refusal.specs.Tries.{written}
use Rattle.chaining.proofs.Restored.{Undoing}
use Rattle.page_claims.specs.Claims.{PageSettings, IsPage, GivesBack, IsSeal}
use Rattle.page_claims.proofs.Settings.{both_rooms, rooms_both, is_settings, is_pair, keyed}
use Rattle.page_claims.proofs.Restored.{opened_payload_lem, opened_block_lem, opened-number, opened-used, sealed_form, sealed-check, sealed-unused, page_again}

-- ---- sealing
module _ (key₁ key₂ : List ℕ) (rounds block : ℕ) (payload scratch out : List ℕ) where
  pub seals : seal_number key₁ key₂ rounds block payload scratch out ≡ 0
      → PageSettings key₁ key₂ rounds × ((576 ≤ length scratch) × ((512 ≤ length out) × ((block ≡ 0 → ⊥) × (length payload ≤ 492))))
  seals e =
      let p = all_pass (seal_tries key₁ key₂ rounds block payload scratch out) refl e in
      let r = rooms_both 576 512 (length scratch) (length out) p.1.1.0 in
      let q = p.1.1.1 in
      (is_settings key₁ key₂ rounds p.0 p.1.0, (r.0, (r.1, (other_than_zero block q.0, leb-true (length payload) 492 q.1.0))))

  pub seals_when : PageSettings key₁ key₂ rounds → 576 ≤ length scratch → 512 ≤ length out → (block ≡ 0 → ⊥) → length payload ≤ 492
      → seal_number key₁ key₂ rounds block payload scratch out ≡ 0
  seals_when s hs ho hb hp =
      let room = both_rooms 576 512 (length scratch) (length out) hs ho in
      none-given (seal_tries key₁ key₂ rounds block payload scratch out)
      (is_pair key₁ key₂ rounds s, (s.round-count, (room, (is-size_block block hb, (le-leb (length payload) 492 hp, tt)))))

  -- and is refused with 14 for size block 0, however long the payload is
  pub fourteen : PageSettings key₁ key₂ rounds → 576 ≤ length scratch → 512 ≤ length out → block ≡ 0
      → seal_number key₁ key₂ rounds block payload scratch out ≡ 14
  fourteen s hs ho e =
      first_passes _ _ (is_pair key₁ key₂ rounds s) ∙ first_passes _ _ s.round-count
      ∙ first_passes _ _ (both_rooms 576 512 (length scratch) (length out) hs ho) ∙ first_holds _ _ (zero_is_none block e)

-- ---- opening
module _ (key₁ key₂ : List ℕ) (rounds : ℕ) (page : List ℕ) where
  -- what the tests of a page say of it
  is-page : page_form page ≡ true → check_agrees (enciphering key₂ rounds) page ≡ true
      → unused_zero (enciphering key₁ rounds) (deciphering key₁ rounds) page ≡ true → IsPage key₁ key₂ rounds page
  unfolding page_form check_agrees unused_zero opened_payload
  is-page form check unused =
      let n = eqb (length page) 512 in
      let m = leb (used_in page) 492 in
      let z = all_zero (take 4 (drop 8 page)) in
      let later = and_second n (m && z) form in
      let size = eqb-true (length page) 512 (and_first n (m && z) form) in
      let rest = drop (used_in page) (opened_payload key₁ rounds page) in
      let l = length_payload (enciphering key₁ rounds) (deciphering key₁ rounds) page size in
      let four = length-take-le 4 (drop 8 page) (omega (arith, length-drop 8 page, size)) in
      record {
        size = size;
        used = leb-true (used_in page) 492 (and_first m z later);
        zeros = zeros_are (take 4 (drop 8 page)) (and_second m z later) ∙ ap (λ (k : ℕ). replicate k 0) four;
        check = sym (same_equal (check_over (enciphering key₂ rounds) (take 504 page)) (drop 504 page) check);
        unused = zeros_are rest unused ∙ ap (λ (k : ℕ). replicate k 0) (length-drop (used_in page) _ ∙ ap (λ (k : ℕ). k - used_in page) l);
      }

  -- and the other way round
  module _ (p : IsPage key₁ key₂ rounds page) where
    page_form_lem : page_form page ≡ true
    unfolding page_form
    page_form_lem =
        ap₂ (λ (a b : Bool). a && (b && all_zero (take 4 (drop 8 page)))) (eq-eqb (length page) 512 p.size) (le-leb (used_in page) 492 p.used)
        ∙ ap all_zero p.zeros ∙ zeros 4

    page-check : check_agrees (enciphering key₂ rounds) page ≡ true
    unfolding check_agrees
    page-check = equal_same _ _ (sym p.check)

    page-unused : unused_zero (enciphering key₁ rounds) (deciphering key₁ rounds) page ≡ true
    unfolding unused_zero opened_payload
    page-unused = ap all_zero p.unused ∙ zeros (492 - used_in page)

  module _ (scratch out : List ℕ) where
    pub opens : open_number key₁ key₂ rounds page scratch out ≡ 0
        → PageSettings key₁ key₂ rounds × ((576 ≤ length scratch) × ((492 ≤ length out) × IsPage key₁ key₂ rounds page))
    opens e =
        let p = all_pass (open_tries key₁ key₂ rounds page scratch out) refl e in
        let q = p.1.1.1 in
        let r = rooms_both 576 492 (length scratch) (length out) p.1.1.0 in
        (is_settings key₁ key₂ rounds p.0 p.1.0, (r.0, (r.1, is-page q.0 q.1.0 q.1.1.0)))

    pub opens_when : PageSettings key₁ key₂ rounds → 576 ≤ length scratch → 492 ≤ length out → IsPage key₁ key₂ rounds page
        → open_number key₁ key₂ rounds page scratch out ≡ 0
    opens_when s hs ho p =
        none-given (open_tries key₁ key₂ rounds page scratch out) (
          is_pair key₁ key₂ rounds s,
          (
            s.round-count,
            (
              both_rooms 576 492 (length scratch) (length out) hs ho,
              (page_form_lem p, (page-check p, (page-unused p, tt))),
            ),
          ),
        )

    -- what opens is the seal of what it gives
    pub was_sealed : AreBytes key₁ → AreBytes page → open_number key₁ key₂ rounds page scratch out ≡ 0
        → page ≡ sealed key₁ key₂ rounds (block_in page) (page_number_in page) (take (used_in page) (opened_payload key₁ rounds page))
    unfolding sealed opened_payload
    was_sealed bk bp e =
        let o = opens e in
        let s = o.0 in
        let p = o.1.1.1 in
        page_again (keyed key₁ rounds bk s.key-length s.round-count) (enciphering key₂ rounds) page bp p.size p.used p.zeros p.check
        p.unused

    -- what the call answers and writes are the page's numbers and the start of its payload
    gave : open_number key₁ key₂ rounds page scratch out ≡ 0
        → take (opened_used key₁ key₂ rounds page scratch out) (open_output key₁ key₂ rounds page scratch out)
        ≡ take (used_in page) (opened_payload key₁ rounds page)
    unfolding open_output opened_used opened_payload
    gave e =
        let n = open_number key₁ key₂ rounds page scratch out in
        let p = (opens e).1.1.1 in
        let l = length_payload (enciphering key₁ rounds) (deciphering key₁ rounds) page p.size in
        let whole = opened_payload key₁ rounds page in
        ap₂ take (sym (is-answered n (used_in page) 0 e)) (sym (put n whole out e))
        ∙ take-append-le (used_in page) whole (drop (length whole) out) (omega (arith, p.used, l))

    pub is_seal : AreBytes key₁ → AreBytes page → open_number key₁ key₂ rounds page scratch out ≡ 0
        → IsSeal key₁ key₂ rounds (opened_block key₁ key₂ rounds page scratch out) (opened_page_number key₁ key₂ rounds page scratch out)
        (take (opened_used key₁ key₂ rounds page scratch out) (open_output key₁ key₂ rounds page scratch out)) page
    unfolding opened_block opened_page_number
    is_seal bk bp e =
        let n = open_number key₁ key₂ rounds page scratch out in
        let o = opens e in
        let g = gave e in
        let used = take (used_in page) (opened_payload key₁ rounds page) in
        let block = opened_block key₁ key₂ rounds page scratch out in
        let fits : length used ≤ 492 = omega (arith, length-take (used_in page) (opened_payload key₁ rounds page), o.1.1.1.used) in
        record {
          same = was_sealed bk bp e
              ∙ ap₂ (λ (b m : ℕ). sealed key₁ key₂ rounds b m used) (is-answered n (block_in page) 0 e) (is-answered n (page_number_in page) 0 e)
              ∙ ap (sealed key₁ key₂ rounds (opened_block key₁ key₂ rounds page scratch out) (opened_page_number key₁ key₂ rounds page scratch out)) (sym g);
          accepted = λ hb s o' hs ho.
              subst (λ (x : List ℕ). seal_number key₁ key₂ rounds block x s o' ≡ 0) (sym g) (seals_when key₁ key₂ rounds block used s o' o.0 hs ho hb fits);
          block_zero = λ z s o' hs ho.
              subst (λ (x : List ℕ). seal_number key₁ key₂ rounds block x s o' ≡ 14) (sym g) (fourteen key₁ key₂ rounds block used s o' o.0 hs ho z);
        }

-- ---- sealed and opened
module _ (key₁ key₂ : List ℕ) (bk : AreBytes key₁) (rounds block number : ℕ) (hb : block < 4294967296) (hn : number < 65536)
    (payload : List ℕ) (bp : AreBytes payload) (s : PageSettings key₁ key₂ rounds) (fits : length payload ≤ 492) (scratch out : List ℕ)
    (hs : 576 ≤ length scratch) (ho : 492 ≤ length out) where
  abbrev page : List ℕ
  page = sealed key₁ key₂ rounds block number payload

  -- f, g and h of the page, and that what f does, g undoes
  abbrev undoes : Undoing (enciphering key₁ rounds) (deciphering key₁ rounds)
  undoes = keyed key₁ rounds bk s.key-length s.round-count

  sealed-opens : open_number key₁ key₂ rounds page scratch out ≡ 0
  unfolding sealed
  sealed-opens =
      let h = enciphering key₂ rounds in
      none-given (open_tries key₁ key₂ rounds page scratch out) (
        is_pair key₁ key₂ rounds s,
        (
          s.round-count,
          (
            both_rooms 576 492 (length scratch) (length out) hs ho,
            (
              sealed_form undoes h block number payload bp fits,
              (
                sealed-check undoes h block number payload bp fits,
                (sealed-unused undoes h block number payload bp fits, tt),
              ),
            ),
          ),
        ),
      )

  sealed-output : open_output key₁ key₂ rounds page scratch out ≡ payload ++ (replicate (492 - length payload) 0 ++ drop 492 out)
  unfolding sealed open_output opened_payload
  sealed-output =
      let e = opened_payload_lem undoes (enciphering key₂ rounds) block number payload bp fits in
      let n : length (filled payload) ≡ 492 = length-filled payload fits in
      sym (put (open_number key₁ key₂ rounds page scratch out) (opened_payload key₁ rounds page) out sealed-opens)
      ∙ ap (λ (x : List ℕ). x ++ drop (length x) out) e ∙ ap (λ (m : ℕ). filled payload ++ drop m out) n
      ∙ append_assoc payload (replicate (492 - length payload) 0) (drop 492 out)

  pub gives_back : GivesBack key₁ key₂ rounds block number payload page scratch out
  unfolding sealed opened_block opened_page_number opened_used
  gives_back =
      let h = enciphering key₂ rounds in
      let n = open_number key₁ key₂ rounds page scratch out in
      record {
        opens = sealed-opens;
        output = sealed-output;
        size_block = sym (is-answered n (block_in page) 0 sealed-opens) ∙ opened_block_lem undoes h block number payload bp fits hb;
        page-number = sym (is-answered n (page_number_in page) 0 sealed-opens) ∙ opened-number undoes h block number payload bp fits hn;
        used = sym (is-answered n (used_in page) 0 sealed-opens) ∙ opened-used undoes h block number payload bp fits;
      }

-- the page that a call wrote
pub wrote_page : (key₁ key₂ : List ℕ) (rounds block number : ℕ) (payload scratch out : List ℕ) → seal_number key₁ key₂ rounds block payload scratch out ≡ 0
    → length payload ≤ 492
    → take 512 (seal_output key₁ key₂ rounds block number payload scratch out) ≡ sealed key₁ key₂ rounds block number payload
unfolding seal_output sealed
wrote_page key₁ key₂ rounds block number payload scratch out e fits =
    let n = seal_number key₁ key₂ rounds block payload scratch out in
    let p = sealed key₁ key₂ rounds block number payload in
    let l = length-page (enciphering key₁ rounds) (enciphering key₂ rounds) block number payload fits in
    ap (λ (m : ℕ). take m (written n p out)) (sym l) ∙ (starts n p out e).1
