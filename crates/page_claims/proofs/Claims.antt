-- A term of each type of specs/Claims.antt.
use mathlib.Core.Path.{◌≡◌, refl, sym, ap, ◌∙◌, subst}
use mathlib.Core.List.{List, ◌++◌}
use Prim.Native.Nat.{ℕ, zero, suc, ◌/◌, ◌%◌, ◌≤◌, ◌<◌}
use native.Mathlib.Omega.{arith}
use lib.ListN.{drop}
use Rattle.basics.specs.Bytes.{AreBytes}
use Rattle.refusal.specs.Tries.{Try, first, written}
use Rattle.refusal.proofs.Tries.{first-before, first_then}
use Rattle.refusal.proofs.Given.{not_given}
use Rattle.refusal.proofs.Ladder.{ordered, all_pass, first_small}
use Rattle.refusal.proofs.Answers.{kept, put, not_answered, is-answered}
use Rattle.pages.specs.Pages.{block_in, page_number_in, used_in, cleared}
use Rattle.pages.proofs.Lengths.{length_cleared}
use Rattle.sealing.specs.Sealing.{seal_tries, seal_number, seal_output, seal_scratch}
use Rattle.opening.specs.Opening.{open_input_tries, content_tries, open_tries, open_number, open_output, open_scratch}
use Rattle.open_call.specs.OpenCall.{header_code, open_code, open_call_code}
use Rattle.page_claims.specs.Claims.{PagesInOrder, RefusedPageKeeps, ScratchSealed, ScratchOpened, ScratchIsCleared, SealsExactlyWhen}
use Rattle.page_claims.specs.Claims.{PageOpensExactlyWhen, GivesBack, OpensWhatWasSealed, OpensWhatACallSealed, OpenedPageIsASeal, CodeTells}
use Rattle.page_claims.specs.Claims.{OpenCodeTells}
use Rattle.page_claims.proofs.Pages.{seals, seals_when, opens, opens_when, is_seal, gives_back, wrote_page}
use Rattle.page_claims.proofs.Codes.{code_block, code-number, code-used, code-most}

-- ---- refusals
pub pages_in_order : PagesInOrder
unfolding PagesInOrder
pages_in_order key₁ key₂ rounds block payload page scratch out =
    (ordered (seal_tries key₁ key₂ rounds block payload scratch out) refl, ordered (open_tries key₁ key₂ rounds page scratch out) refl)

pub refused_page_keeps : RefusedPageKeeps
unfolding RefusedPageKeeps seal_output open_output
refused_page_keeps key₁ key₂ rounds block number payload page scratch out = (λ h. sym (kept _ _ out h), λ h. sym (kept _ _ out h))

-- ---- the scratch
-- cleared, where a number is 0
clears : (n : ℕ) (scratch : List ℕ) → n ≡ 0 → written n cleared scratch ≡ cleared ++ drop 576 scratch
clears n scratch e = sym (put n cleared scratch e) ∙ ap (λ (m : ℕ). cleared ++ drop m scratch) length_cleared

module _ (key₁ key₂ : List ℕ) (rounds : ℕ) (page scratch out : List ℕ) where
  abbrev input : List Try
  input = open_input_tries key₁ key₂ rounds page scratch out

  abbrev number : ℕ
  number = open_number key₁ key₂ rounds page scratch out

  is_input : 0 < first input → number ≡ first input
  is_input h = first-before input (content_tries key₁ key₂ rounds page) (first input) h refl

  -- a number that nothing gives which is tried before any work
  not_input : (n : ℕ) → (first input ≡ n → 0 < n → ⊥) → number ≡ n → first input ≡ 0
  not_input n never e = by (first input) refl
    where
      by : (m : ℕ) → first input ≡ m → first input ≡ 0
      by zero z = z
      by (suc m) z =
          let h : 0 < first input = omega (arith, z) in
          let same = sym (is_input h) ∙ e in
          absurd (never same (subst (λ (k : ℕ). 0 < k) same h))

  scratch-opened : ScratchOpened key₁ key₂ rounds page scratch out
  unfolding open_scratch
  scratch-opened = record {
    done = λ e. clears (first input) scratch (not_input 0 (λ z h. omega arith) e);
    differs = λ e. clears (first input) scratch (not_input 13 (λ z h. not_given 13 h input refl z) e);
    looked_into = λ e. (first_then input (content_tries key₁ key₂ rounds page) (all_pass input refl e), clears (first input) scratch e);
    early = λ h. (is_input h, sym (kept (first input) cleared scratch h));
  }

  code_tells : AreBytes page → CodeTells key₁ key₂ rounds page scratch out
  unfolding open_call_code open_code
  code_tells b =
      let block = block_in page in
      let n = page_number_in page in
      let used = used_in page in
      let done : number ≡ 0 → open_call_code key₁ key₂ rounds page scratch out ≡ header_code block n used =
      λ e. sym (is-answered number (header_code block n used) number e) in
      let not_done : 0 < number → open_call_code key₁ key₂ rounds page scratch out ≡ number =
      λ h. sym (not_answered number (header_code block n used) number h) in
      let hb : block < 4294967296 = omega (arith, b 0, b 1, b 2, b 3) in
      let hn : n < 65536 = omega (arith, b 4, b 5) in
      let hu : number ≡ 0 → used < 32768 = λ e. omega (arith, (opens key₁ key₂ rounds page scratch out e).1.1.1.used) in
      let most : number < 14 = first_small 14 (open_tries key₁ key₂ rounds page scratch out) refl in
      record {
        refused = λ h. (not_done h, subst (λ (k : ℕ). k ≤ 13) (sym (not_done h)) (omega (arith, most)));
        opened = λ e. subst (λ (k : ℕ). 9223372036854775808 ≤ k) (sym (done e)) (code-most block n used);
        size_block = λ e. ap (λ (k : ℕ). k % 4294967296) (done e) ∙ code_block block n used hb hn (hu e);
        page-number = λ e. ap (λ (k : ℕ). k / 4294967296 % 65536) (done e) ∙ code-number block n used hb hn (hu e);
        used = λ e. ap (λ (k : ℕ). k / 281474976710656 % 32768) (done e) ∙ code-used block n used hb hn (hu e);
      }

scratch-sealed : (key₁ key₂ : List ℕ) (rounds block : ℕ) (payload scratch out : List ℕ) → ScratchSealed key₁ key₂ rounds block payload scratch out
unfolding seal_scratch
scratch-sealed key₁ key₂ rounds block payload scratch out =
    let n = seal_number key₁ key₂ rounds block payload scratch out in
    record { done = λ e. clears n scratch e; refused = λ h. sym (kept n cleared scratch h) }

pub scratch_is_cleared : ScratchIsCleared
unfolding ScratchIsCleared
scratch_is_cleared key₁ key₂ rounds block payload page scratch out =
    (scratch-sealed key₁ key₂ rounds block payload scratch out, scratch-opened key₁ key₂ rounds page scratch out)

-- ---- when a page is sealed, and when it opens
pub seals_exactly_when : SealsExactlyWhen
unfolding SealsExactlyWhen
seals_exactly_when key₁ key₂ rounds block payload scratch out =
    (seals key₁ key₂ rounds block payload scratch out, seals_when key₁ key₂ rounds block payload scratch out)

pub page_opens_exactly_when : PageOpensExactlyWhen
unfolding PageOpensExactlyWhen
page_opens_exactly_when key₁ key₂ rounds page scratch out =
    (opens key₁ key₂ rounds page scratch out, opens_when key₁ key₂ rounds page scratch out)

-- ---- sealed and opened
pub opens_what_was_sealed : OpensWhatWasSealed
unfolding OpensWhatWasSealed
opens_what_was_sealed key₁ key₂ bk rounds s block number hb hn payload bp fits scratch out hs ho =
    gives_back key₁ key₂ bk rounds block number hb hn payload bp s fits scratch out hs ho

pub opens_what_a_call_sealed : OpensWhatACallSealed
unfolding OpensWhatACallSealed OpensWhatWasSealed
opens_what_a_call_sealed key₁ key₂ bk rounds block number hb hn payload bp scratch out e scratch' out' hs ho =
    let s = seals key₁ key₂ rounds block payload scratch out e in
    let fits = s.1.1.1.1 in
    subst (λ (p : List ℕ). GivesBack key₁ key₂ rounds block number payload p scratch' out')
    (sym (wrote_page key₁ key₂ rounds block number payload scratch out e fits))
    (opens_what_was_sealed key₁ key₂ bk rounds s.0 block number hb hn payload bp fits scratch' out' hs ho)

pub opened_page_is_a_seal : OpenedPageIsASeal
unfolding OpenedPageIsASeal
opened_page_is_a_seal key₁ key₂ bk rounds page bp scratch out e = is_seal key₁ key₂ rounds page scratch out bk bp e

-- ---- the C call's number
pub open_code_tells : OpenCodeTells
unfolding OpenCodeTells
open_code_tells key₁ key₂ rounds page b scratch out = code_tells key₁ key₂ rounds page scratch out b
