-- Looking before overwriting: what opens for overwriting opens for reading; only a grant to overwrite does; and when 10 is given.
use mathlib.Core.Path.{◌≡◌, refl, sym, ◌∙◌}
use mathlib.Core.Bool.{Bool}
use mathlib.Core.List.{List, [], ◌∷◌, ◌++◌}
use Prim.Native.Nat.{ℕ}
use lib.Dec.{eqb, lit<}
use lib.ListN.{length}
use Rattle.refusal.specs.Tries.{Try, ◌unless◌, first}
use Rattle.refusal.proofs.Given.{given_by}
use Rattle.refusal.proofs.Answers.{answer-done}
use Rattle.roll.specs.declared.Roll.{Roll}
use Rattle.roll.specs.declared.Entry.{Entry}
use Rattle.rights.specs.Rights.{covers}
use Rattle.grant.specs.Grants.{contractor_in, size_block_in, right_in, is_grant}
use Rattle.rights.proofs.Rights.{covers_overwriting, not_covered}
use Rattle.grant.proofs.Tests.{a_grant}
use Rattle.judging.specs.Judging.{input_tries, standing_tries, plain_tries}
use Rattle.judging.proofs.Passed.{input_passed}
use Rattle.checking.specs.Checking.{opened_grant, check_tries, check_number, check_contractor, check_right}
use Rattle.revocation.specs.Claims.{Accepted, ReadingGrant}
use Rattle.revocation.proofs.Checks.{passed, reads_too}

module _ (key : List ℕ) (rounds : ℕ) (roll : Roll) (grant : List ℕ) (block : ℕ) where
  p : List ℕ
  p = opened_grant key rounds grant

  pub looks : (contractor : ℕ) → Accepted key rounds roll grant block 2 contractor → Accepted key rounds roll grant block 1 contractor
  unfolding p check_contractor check_right
  looks contractor a =
      let h = passed key rounds roll grant block 2 a.number in
      let t = h.1 in
      let e = reads_too key rounds roll grant block 2 h.0 t.whole t.same_block t.stands t.same_count in
      let ts : ℕ → List Try = check_tries key rounds roll grant block in
      record {
        number = e;
        answers-contractor = sym (answer-done (ts 1) (contractor_in p) 0 e) ∙ answer-done (ts 2) (contractor_in p) 0 a.number ∙ a.answers-contractor;
        answers-right = sym (answer-done (ts 1) 1 0 e);
      }

  pub overwrites : check_number key rounds roll grant block 2 ≡ 0 → right_in (opened_grant key rounds grant) ≡ 2
  unfolding p
  overwrites e = covers_overwriting (right_in p) (passed key rounds roll grant block 2 e).1.covered

-- of any input and any entry: so of the check, and of the C call on a roll's bytes
pub ten : (key : List ℕ) (rounds : ℕ) (lengths : Bool) (grant : List ℕ) (entry : Entry) (block right : ℕ)
    → first (input_tries (length key) rounds lengths block right ++ plain_tries (opened_grant key rounds grant) entry block right) ≡ 10
    → ReadingGrant key rounds grant right
ten key rounds lengths grant entry block right e =
    let p = opened_grant key rounds grant in
    let named : List Try = (8 unless is_grant p) ∷ (9 unless eqb (size_block_in p) block) ∷ [] in
    let before : List Try = input_tries (length key) rounds lengths block right ++ named in
    let g = given_by 10 (lit< tt) (covers (right_in p) right) (standing_tries p entry right) refl before refl e in
    let h = input_passed (length key) rounds lengths block right named g.0 in
    let whole = h.1.0 in
    let n = not_covered (right_in p) right (a_grant p whole).right h.0.asked g.1 in
    record { asked = n.1; whole = whole; reads = n.0 }
