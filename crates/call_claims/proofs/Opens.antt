-- The C call's number: that it is the check's on the roll that is read, that no answer is 0, and when it is one of a grant that opens.
use mathlib.Core.Path.{◌≡◌, refl, sym, ap, ap₂, ◌∙◌, subst⁻¹}
use mathlib.Core.Bool.{Bool, true, false, cond, ◌&&◌}
use mathlib.Core.List.{List, ◌++◌}
use Prim.Native.Nat.{ℕ, ◌+◌, ◌*◌, ◌≤◌, ◌<◌}
use native.Mathlib.Omega.{arith}
use lib.Dec.{eqb, leb}
use lib.ListN.{length}
use borrow.Author.Tests.{eqb-true, eqb-false, eq-eqb, leb-true, leb-false}
use Rattle.basics.specs.Bytes.{AreBytes}
use Rattle.basics.proofs.Tests.{and_first, and_second}
use Rattle.refusal.specs.Tries.{first, answered, NoneHolds}
use Rattle.refusal.proofs.Tries.{none-given}
use Rattle.refusal.proofs.Ladder.{all_pass, ordered, first_small}
use Rattle.refusal.proofs.Answers.{answer-refused, answer-done}
use Rattle.roll.specs.declared.Roll.{Roll}
use Rattle.roll_bytes.specs.RollBytes.{roll_length, roll_of}
use Rattle.roll.proofs.Contractors.{a_contractor}
use Rattle.grant.specs.Grants.{contractor_in}
use Rattle.judging.specs.Judging.{input_tries, plain_tries}
use Rattle.judging.proofs.Passed.{InputPassed, input_passed, input_passes}
use Rattle.checking.specs.Checking.{opened_grant, entry_now, check_tries, check_number, check_contractor, check_right}
use Rattle.rights.proofs.Rights.{right-least}
use Rattle.grant.proofs.Tests.{a_grant}
use Rattle.revocation.specs.Claims.{Opening, Accepted, ReadingGrant, OpensExactlyWhen, OverwritingOpensReading}
use Rattle.revocation.proofs.Checks.{passed, not_refused}
use Rattle.revocation.proofs.Looks.{ten}
use Rattle.revocation.proofs.Claims.{opens_exactly_when, overwriting_opens_reading}
use Rattle.check_call.specs.CheckCall.{call_tries, call_code}
use Rattle.check_call.proofs.Codes.{parts}
use Rattle.call_claims.specs.Claims.{CallOrdered, check_code}

-- ---- numbers that stand for an answer
answer-some : (n x : ℕ) → (n ≡ 0 → 1 ≤ x) → 1 ≤ answered n x n
unfolding answered
answer-some n x h = by (eqb n 0) refl
  where
    by : (b : Bool) → eqb n 0 ≡ b → 1 ≤ cond b x n
    by true e = h (eqb-true n 0 e)
    by false e = omega (arith, eqb-false n 0 e)

-- an answer that is below any of a grant that opens is the refusal
pub refused_with : (n x k : ℕ) → (n ≡ 0 → k < x) → answered n x n ≡ k → n ≡ k
unfolding answered
refused_with n x k h e = by (eqb n 0) refl e
  where
    by : (b : Bool) → eqb n 0 ≡ b → cond b x n ≡ k → n ≡ k
    by true z e = let f : ⊥ = omega (arith, h (eqb-true n 0 z), e) in absurd f
    by false z e = e

accepted-above : (n x : ℕ) → n < 1000 → 1000 ≤ answered n x n → n ≡ 0
unfolding answered
accepted-above n x l h = by (eqb n 0) refl h
  where
    by : (b : Bool) → eqb n 0 ≡ b → 1000 ≤ cond b x n → n ≡ 0
    by true e h = eqb-true n 0 e
    by false e h = let z : ⊥ = omega arith in absurd z

-- an accepted check answers with a contractor, 1 to 200
pub checked_contractor : (key : List ℕ) (rounds : ℕ) (roll : Roll) (grant : List ℕ) (block right : ℕ)
    → check_number key rounds roll grant block right ≡ 0
    → (1 ≤ check_contractor key rounds roll grant block right) × (check_contractor key rounds roll grant block right ≤ 200)
unfolding check_contractor
checked_contractor key rounds roll grant block right e =
    let p = opened_grant key rounds grant in
    let ts = check_tries key rounds roll grant block right in
    let c = a_contractor (contractor_in p) (a_grant p (passed key rounds roll grant block right e).1.whole).contractor in
    let z = answer-done ts (contractor_in p) 0 e in
    (subst⁻¹ (λ (n : ℕ). 1 ≤ n) (sym z) c.least, subst⁻¹ (λ (n : ℕ). n ≤ 200) (sym z) c.most)

module _ (key : List ℕ) (rounds : ℕ) (roll grant : List ℕ) (block right : ℕ) where
  pub in_order : CallOrdered key rounds roll grant block right
  unfolding call_code
  in_order = record { tries = ordered (call_tries key rounds roll grant block right) refl; code = refl }

  -- what passed, where no reason holds
  pub tried : first (call_tries key rounds roll grant block right) ≡ 0
      → InputPassed (length key) rounds (eqb (length roll) roll_length && eqb (length grant) 12) block right
      × NoneHolds (plain_tries (opened_grant key rounds grant) (entry_now key rounds (roll_of roll) grant) block right)
  tried e =
      input_passed (length key) rounds (eqb (length roll) roll_length && eqb (length grant) 12) block right
      (plain_tries (opened_grant key rounds grant) (entry_now key rounds (roll_of roll) grant) block right)
      (all_pass (call_tries key rounds roll grant block right) refl e)

  -- the number, where the test of the roll's length gives b
  numbered_as : Bool → ℕ
  numbered_as b =
      first (input_tries (length key) rounds (b && eqb (length grant) 12) block right
      ++ plain_tries (opened_grant key rounds grant) (entry_now key rounds (roll_of roll) grant) block right)

  pub call_number : length roll ≡ roll_length
      → first (call_tries key rounds roll grant block right) ≡ check_number key rounds (roll_of roll) grant block right
  unfolding numbered_as
  call_number l = ap numbered_as (eq-eqb (length roll) roll_length l)

  pub is-check : length roll ≡ roll_length → call_code key rounds roll grant block right ≡ check_code key rounds (roll_of roll) grant block right
  unfolding call_code check_contractor check_right
  is-check l =
      let p = opened_grant key rounds grant in
      ap (λ (n : ℕ). answered n (1000 * right + contractor_in p) n) (call_number l)
      ∙ sym (parts (check_number key rounds (roll_of roll) grant block right) right (contractor_in p))

  pub never_zero : 1 ≤ call_code key rounds roll grant block right
  unfolding call_code
  never_zero =
      let p = opened_grant key rounds grant in
      let ts = call_tries key rounds roll grant block right in
      answer-some (first ts) (1000 * right + contractor_in p)
      (λ e. omega (arith, (a_contractor (contractor_in p) (a_grant p (tried e).1.0).contractor).least))

  -- a number of 1,000 or more: the check was not refused
  pub call_passed : 1000 ≤ call_code key rounds roll grant block right → (length roll ≡ roll_length)
      × (check_number key rounds (roll_of roll) grant block right ≡ 0)
  unfolding call_code
  call_passed h =
      let ts = call_tries key rounds roll grant block right in
      let t = tried (accepted-above (first ts) _ (first_small 1000 ts refl) h) in
      let i = t.0 in
      let l = eqb (length roll) roll_length in
      let g = eqb (length grant) 12 in (
        eqb-true (length roll) roll_length (and_first l g i.long),
        none-given (check_tries key rounds (roll_of roll) grant block right) (input_passes (length key) rounds g block right
            (plain_tries (opened_grant key rounds grant) (entry_now key rounds (roll_of roll) grant) block right)
            record {
              key-length = i.key-length;
              round-count = i.round-count;
              long = and_second l g i.long;
              asked = i.asked;
              some_block = i.some_block;
            } t.1),
      )

  -- so where the check is refused, the call's number is a refusal's
  pub call_refuses : (check_number key rounds (roll_of roll) grant block right ≡ 0 → ⊥)
      → (1 ≤ call_code key rounds roll grant block right) × (call_code key rounds roll grant block right ≤ 999)
  call_refuses n = (never_zero, by (leb (call_code key rounds roll grant block right) 999) refl)
    where
      by : (t : Bool) → leb (call_code key rounds roll grant block right) 999 ≡ t → call_code key rounds roll grant block right ≤ 999
      by true t = leb-true _ 999 t
      by false t = absurd (n (call_passed (leb-false _ 999 t)).1)

  -- and what it answered is the call's number
  pub call_given : length roll ≡ roll_length → (c : ℕ) → Accepted key rounds (roll_of roll) grant block right c
      → call_code key rounds roll grant block right ≡ 1000 * right + c
  call_given l c a =
      let r = check_right key rounds (roll_of roll) grant block right in
      let n = check_contractor key rounds (roll_of roll) grant block right in
      is-check l
      ∙ sym (answer-done (check_tries key rounds (roll_of roll) grant block right) (1000 * r + n) (check_number key rounds (roll_of roll) grant block right)
      a.number)
      ∙ ap₂ (λ (x y : ℕ). 1000 * x + y) a.answers-right a.answers-contractor

  pub call_ten : call_code key rounds roll grant block right ≡ 10 → ReadingGrant key rounds grant right
  unfolding call_code
  call_ten e =
      let ts = call_tries key rounds roll grant block right in
      let lengths = eqb (length roll) roll_length && eqb (length grant) 12 in
      ten key rounds lengths grant (entry_now key rounds (roll_of roll) grant) block right
      (refused_with (first ts) (1000 * right + contractor_in (opened_grant key rounds grant)) 10
      (λ z. omega (arith, right-least right (tried z).0.asked)) e)

  -- a refusal of the check is the call's
  pub call_refused : length roll ≡ roll_length → (n : ℕ) → 0 < n → check_number key rounds (roll_of roll) grant block right ≡ n
      → call_code key rounds roll grant block right ≡ n
  call_refused l n h e =
      let r = check_right key rounds (roll_of roll) grant block right in
      let c = check_contractor key rounds (roll_of roll) grant block right in
      is-check l
      ∙ sym (answer-refused (check_tries key rounds (roll_of roll) grant block right) n (1000 * r + c)
      (check_number key rounds (roll_of roll) grant block right) h e)
      ∙ e

pub call_looks : (key : List ℕ) (rounds : ℕ) (roll grant : List ℕ) (block : ℕ)
    → 1000 ≤ call_code key rounds roll grant block 2 → call_code key rounds roll grant block 2 ≡ 1000 + call_code key rounds roll grant block 1
unfolding OverwritingOpensReading
call_looks key rounds roll grant block h =
    let w = call_passed key rounds roll grant block 2 h in
    let a = not_refused key rounds (roll_of roll) grant block 2 w.1 in
    let c = check_contractor key rounds (roll_of roll) grant block 2 in
    let looks = overwriting_opens_reading key rounds (roll_of roll) grant block c a in
    omega (arith, call_given key rounds roll grant block 2 w.0 c a, call_given key rounds roll grant block 1 w.0 c looks)

module _ (key : List ℕ) (hk : AreBytes key) (rounds : ℕ) (roll grant : List ℕ) (hg : AreBytes grant) (block : ℕ) (few : block < 4294967296)
    (right : ℕ) where
  pub call_opening : 1000 ≤ call_code key rounds roll grant block right → (length roll ≡ roll_length) × Opening key rounds (roll_of roll) grant block right
  unfolding OpensExactlyWhen
  call_opening h =
      let w = call_passed key rounds roll grant block right h in (w.0, (opens_exactly_when key hk rounds (roll_of roll) grant hg block few right).0 w.1)

  pub call_accepted : length roll ≡ roll_length → (o : Opening key rounds (roll_of roll) grant block right)
      → call_code key rounds roll grant block right ≡ 1000 * right + o.contractor
  unfolding OpensExactlyWhen
  call_accepted l o =
      call_given key rounds roll grant block right l o.contractor ((opens_exactly_when key hk rounds (roll_of roll) grant hg block few right).1 o)
