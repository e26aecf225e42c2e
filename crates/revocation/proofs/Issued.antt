-- Issued grants: what they decipher to, that they open, and that none opens after its contractor's withdrawal.
use mathlib.Core.Path.{◌≡◌, refl, sym, ap, ◌∙◌}
use mathlib.Core.Bool.{Bool, true, false, false≢true}
use mathlib.Core.List.{List, [], ◌++◌}
use Prim.Native.Nat.{ℕ, zero, suc, ◌<◌}
use native.Mathlib.Omega.{arith}
use lib.Dec.{eqb, lit<}
use lib.ListN.{length}
use borrow.Author.Tests.{eqb-true, eq-eqb, ne_eqb}
use Rattle.refusal.specs.Tries.{first, NoneHolds}
use Rattle.refusal.proofs.Tries.{first_passes, first_holds, first_then}
use Rattle.refusal.proofs.Ladder.{all_pass}
use Rattle.basics.specs.Bytes.{AreBytes}
use Rattle.key_lists.specs.Claims.{Settings}
use Rattle.cipher.specs.Cipher.{cipher_block}
use Rattle.cipher.specs.Claims.{DeciphersWhatWasEnciphered}
use Rattle.cipher.proofs.Claims.{deciphers_what_was_enciphered}
use Rattle.roll.specs.declared.Roll.{Roll}
use Rattle.roll.specs.Roll.{is_contractor, count_of, entry_of, in_standing}
use Rattle.roll.proofs.Contractors.{Contractor, a_contractor, a_standing}
use Rattle.histories.specs.Histories.{Change, roll_after, Withdrawn, Withdraws, IsRoll}
use Rattle.histories.specs.Claims.{CountsNeverFall}
use Rattle.histories.proofs.Counts.{counted_up, asked_counts}
use Rattle.histories.proofs.Claims.{counts_never_fall}
use Rattle.rights.specs.Rights.{is_right, covers}
use Rattle.grant.specs.Grants.{plain_grant, contractor_in, count_in, size_block_in}
use Rattle.size_blocks.specs.SizeBlocks.{is_size_block}
use Rattle.size_blocks.proofs.SizeBlocks.{is-size_block, zero_is_none, other_than_zero}
use Rattle.grant.proofs.Tests.{a_grant}
use Rattle.issuing.specs.Issuing.{issue_tries, issued_grant}
use Rattle.issuing.proofs.Passed.{WantedPassed, wanted_passed}
use Rattle.judging.specs.Judging.{input_tries, asked_tries, standing_tries, plain_tries}
use Rattle.judging.proofs.Passed.{input_passes}
use Rattle.checking.specs.Checking.{opened_grant, entry_now, check_number}
use Rattle.rights.proofs.Rights.{one_or_two, right-small, covered-right, covers_itself, covered-within}
use Rattle.revocation.specs.Claims.{Opening, Accepted, Issued, Checks, OpensNothing, Earlier}
use Rattle.revocation.proofs.Bytes.{reads-contractor, reads-count}
use Rattle.revocation.proofs.Checks.{within-is, passed, Named, named, accepted}

-- ---- plain bytes are bytes
plain-bytes : (c n b r : ℕ) → r < 256 → AreBytes (plain_grant c n b r)
unfolding plain_grant
plain-bytes c n b r h zero = omega arith
plain-bytes c n b r h (suc zero) = omega arith
plain-bytes c n b r h (suc (suc zero)) = omega arith
plain-bytes c n b r h (suc (suc (suc zero))) = omega arith
plain-bytes c n b r h (suc (suc (suc (suc zero)))) = omega arith
plain-bytes c n b r h (suc (suc (suc (suc (suc zero))))) = omega arith
plain-bytes c n b r h (suc (suc (suc (suc (suc (suc zero)))))) = omega arith
plain-bytes c n b r h (suc (suc (suc (suc (suc (suc (suc zero))))))) = omega arith
plain-bytes c n b r h (suc (suc (suc (suc (suc (suc (suc (suc zero)))))))) = h
plain-bytes c n b r h (suc (suc (suc (suc (suc (suc (suc (suc (suc zero))))))))) = lit< tt
plain-bytes c n b r h (suc (suc (suc (suc (suc (suc (suc (suc (suc (suc zero)))))))))) = lit< tt
plain-bytes c n b r h (suc (suc (suc (suc (suc (suc (suc (suc (suc (suc (suc zero))))))))))) = lit< tt
plain-bytes c n b r h (suc (suc (suc (suc (suc (suc (suc (suc (suc (suc (suc (suc i)))))))))))) = lit< tt

plain-twelve : (c n b r : ℕ) → length (plain_grant c n b r) ≡ 12
unfolding plain_grant
plain-twelve c n b r = refl

pub issued-twelve : (key : List ℕ) (rounds : ℕ) (roll : Roll) (c b r : ℕ) → length (issued_grant key rounds roll c b r) ≡ 12
unfolding issued_grant cipher_block
issued-twelve key rounds roll c b r = refl

-- deciphered, a grant as an issue makes it is its plain bytes
pub deciphers : (key : List ℕ) (rounds : ℕ) → Settings key rounds → (roll : Roll) (c b r : ℕ) → r < 256
    → opened_grant key rounds (issued_grant key rounds roll c b r) ≡ plain_grant c (count_of roll c) b r
unfolding opened_grant issued_grant DeciphersWhatWasEnciphered
deciphers key rounds s roll c b r h =
    deciphers_what_was_enciphered key rounds (plain_grant c (count_of roll c) b r) s
    record { bytes = plain-bytes c (count_of roll c) b r h; twelve = plain-twelve c (count_of roll c) b r }

-- ---- grants from before now
pub is_earlier : (key : List ℕ) (rounds : ℕ) → Settings key rounds → (roll : Roll) (c b r : ℕ) → c < 65536 → count_of roll c < 65536 → r < 256
    → Earlier key rounds roll c (issued_grant key rounds roll c b r)
is_earlier key rounds s roll c b r hc hn hr =
    let e = deciphers key rounds s roll c b r hr in
    let count = ap count_in e ∙ reads-count c (count_of roll c) b r hn in
    record { names = ap contractor_in e ∙ reads-contractor c (count_of roll c) b r hc; not_above = omega (arith, count) }

module _ (key : List ℕ) (rounds : ℕ) (roll : Roll) (contractor : ℕ) (grant : List ℕ) (g : Earlier key rounds roll contractor grant) where
  -- where the count has risen, they open nothing
  risen : (later : Roll) → count_of roll contractor < count_of later contractor → OpensNothing key rounds later grant
  risen later l b r e =
      let p = opened_grant key rounds grant in
      let same = eqb-true (count_in p) (count_of later (contractor_in p)) (passed key rounds later grant b r e).1.same_count in
      let z : count_in p ≡ count_of later contractor = same ∙ ap (count_of later) g.names in
      omega (arith, l, g.not_above, z)

  pub earlier_revoked : IsRoll roll → (hs : List Change) → Withdrawn contractor hs roll → OpensNothing key rounds (roll_after hs roll) grant
  earlier_revoked z hs w = risen (roll_after hs roll) (counted_up hs roll z contractor w)

  -- where the withdrawal was asked for, the count has risen if the contractor was in standing. If not, a grant that opens would have the count that they
  -- had, since counts never fall, and be from no standing
  pub earlier_asked : IsRoll roll → (hs : List Change) → Withdraws contractor hs → OpensNothing key rounds (roll_after hs roll) grant
  unfolding CountsNeverFall
  earlier_asked z hs w b r e = by (in_standing (count_of roll contractor)) refl
    where
      by : (s : Bool) → in_standing (count_of roll contractor) ≡ s → ⊥
      by true s =
          let later = roll_after hs roll in
          let whole = a_grant (opened_grant key rounds grant) (passed key rounds later grant b r e).1.whole in
          risen later (asked_counts hs roll z contractor (sym (ap is_contractor g.names) ∙ whole.contractor) s w) b r e
      by false s =
          let later = roll_after hs roll in
          let p = opened_grant key rounds grant in
          let t = (passed key rounds later grant b r e).1 in
          let same = eqb-true (count_in p) (count_of later (contractor_in p)) t.same_count ∙ ap (count_of later) g.names in
          let stayed : count_of roll contractor ≡ count_of later contractor =
          omega (arith, counts_never_fall hs roll contractor, g.not_above, same) in
          false≢true (sym s ∙ ap in_standing stayed ∙ sym (ap (λ (c : ℕ). in_standing (count_of later c)) g.names) ∙ t.stands)

module _ (key : List ℕ) (rounds : ℕ) (roll : Roll) (contractor block right : ℕ) (out : List ℕ)
    (i : Issued key rounds roll contractor block right out) where
  allowed : NoneHolds (issue_tries key rounds roll contractor block right out)
  allowed = all_pass (issue_tries key rounds roll contractor block right out) refl i.number

  wanted : WantedPassed (length out) contractor block right (entry_of roll contractor)
  wanted = wanted_passed (length out) contractor block right (entry_of roll contractor) allowed.1.1

  count_small : count_of roll contractor < 65536
  count_small = omega (arith, (a_standing (count_of roll contractor) wanted.stands).below)

  number_of : Contractor contractor
  number_of = a_contractor contractor wanted.known

  settings : Settings key rounds
  settings = record { bytes = i.key-bytes; length_allowed = allowed.0; rounds_are_allowed = allowed.1.0 }

  right_byte : right < 256
  right_byte = omega (arith, right-small right wanted.asked)

  -- deciphered, the issued grant is its plain bytes
  deciphered : opened_grant key rounds (issued_grant key rounds roll contractor block right) ≡ plain_grant contractor (count_of roll contractor) block right
  deciphered = deciphers key rounds settings roll contractor block right right_byte

  -- the grant opens for what its right covers
  opening : (r : ℕ) → covers right r ≡ true → Opening key rounds roll (issued_grant key rounds roll contractor block right) block r
  opening r covered =
      let s = a_standing (count_of roll contractor) wanted.stands in
      record {
        key-length = allowed.0;
        round-count = allowed.1.0;
        twelve = issued-twelve key rounds roll contractor block right;
        asked = one_or_two r (covered-right right r covered);
        some_block = other_than_zero block wanted.some_block;
        contractor = contractor;
        count = count_of roll contractor;
        granted = right;
        covered = covered;
        plain = deciphered;
        least = number_of.least;
        most = number_of.most;
        on_roll = refl;
        odd = s.odd;
        below = s.below;
        within = within-is r _ (covered-within right r _ covered wanted.within);
      }

  abbrev g : List ℕ
  g = issued_grant key rounds roll contractor block right

  abbrev p : List ℕ
  p = opened_grant key rounds g

  -- what the issued grant names
  names : Named p contractor (count_of roll contractor) block right
  names = named p contractor (count_of roll contractor) block right deciphered number_of.least number_of.most count_small i.block_small
      wanted.asked

  -- its check, for any size block but 0 and either right, comes to what was asked for
  comes_to_asked : (b r : ℕ) → is_size_block b ≡ true → is_right r ≡ true
      → check_number key rounds roll g b r ≡ first (asked_tries p b r ++ standing_tries p (entry_now key rounds roll g) r)
  comes_to_asked b r z q =
      let l = eq-eqb (length g) 12 (issued-twelve key rounds roll contractor block right) in
      first_then (input_tries (length key) rounds (eqb (length g) 12) b r) (plain_tries p (entry_now key rounds roll g) b r)
      (input_passes (length key) rounds (eqb (length g) 12) b r []
      record { key-length = allowed.0; round-count = allowed.1.0; long = l; asked = q; some_block = z } tt)
      ∙ first_passes _ _ names.grant

  -- for a right that its own covers, and for one that it doesn't
  pub issued-covered : (r : ℕ) → covers right r ≡ true → Accepted key rounds roll g block r contractor
  unfolding opening
  issued-covered r covered = accepted key rounds roll g block r i.block_small (opening r covered)

  pub issued_not_covered : (r : ℕ) → is_right r ≡ true → covers right r ≡ false → check_number key rounds roll g block r ≡ 10
  issued_not_covered r q uncovered =
      comes_to_asked block r wanted.some_block q ∙ first_passes _ _ (eq-eqb (size_block_in p) block names.block)
      ∙ first_holds _ _ (ap (λ (n : ℕ). covers n r) names.right ∙ uncovered)

  pub checks : Checks key rounds roll contractor block right
  unfolding covers
  checks =
      let l = eq-eqb (length g) 12 (issued-twelve key rounds roll contractor block right) in
      record {
        opens = issued-covered right (covers_itself right wanted.asked);
        looks = λ e. issued-covered 1 (ap (λ (r : ℕ). covers r 1) e);
        only_reads = λ e. issued_not_covered 2 refl (ap (λ (r : ℕ). covers r 2) e);
        no_right = λ r q. first_passes _ _ allowed.0 ∙ first_passes _ _ allowed.1.0 ∙ first_passes _ _ l ∙ first_holds _ _ q;
        other_block = λ b r d z q.
            comes_to_asked b r (is-size_block b z) q ∙ first_holds _ _ (ne_eqb (size_block_in p) b (λ e. d (sym e ∙ names.block)));
        block_zero = λ r q.
            first_passes _ _ allowed.0 ∙ first_passes _ _ allowed.1.0 ∙ first_passes _ _ l ∙ first_passes _ _ q
            ∙ first_holds _ _ (zero_is_none 0 refl);
      }

  -- it is one from before now
  earlier : Earlier key rounds roll contractor (issued_grant key rounds roll contractor block right)
  earlier = is_earlier key rounds settings roll contractor block right (omega (arith, number_of.most)) count_small right_byte

  pub revoked : IsRoll roll → (hs : List Change) → Withdrawn contractor hs roll
      → OpensNothing key rounds (roll_after hs roll) (issued_grant key rounds roll contractor block right)
  revoked = earlier_revoked key rounds roll contractor g earlier

  pub revoked_asked : IsRoll roll → (hs : List Change) → Withdraws contractor hs
      → OpensNothing key rounds (roll_after hs roll) (issued_grant key rounds roll contractor block right)
  revoked_asked = earlier_asked key rounds roll contractor g earlier
