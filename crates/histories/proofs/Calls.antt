-- One call on the roll, whichever it is: what it writes where it is not refused, and what holds of the roll after it.
use mathlib.Core.Path.{◌≡◌, refl, sym, ap, ◌∙◌, subst⁻¹}
use mathlib.Core.Bool.{true, false}
use mathlib.Core.List.{List, [], ◌∷◌}
use Prim.Native.Nat.{ℕ, zero, suc, ◌-◌, ◌≤◌, ◌<◌}
use native.Mathlib.Omega.{arith}
use lib.Dec.{lit<}
use lib.ListN.{get_or, set, replicate, length-set, length-replicate}
use borrow.Author.Tests.{ltb-true, not-true}
use Rattle.basics.proofs.Bytes.{repeated-bytes, set-bytes}
use Rattle.refusal.specs.Tries.{answered}
use Rattle.refusal.proofs.Ladder.{all_pass}
use Rattle.refusal.proofs.Answers.{answer_either, is-answered, not_answered}
use Rattle.rights.specs.Rights.{is_right}
use Rattle.rights.proofs.Rights.{right-small}
use Rattle.roll.specs.declared.Roll.{Roll}
use Rattle.roll.specs.declared.Entry.{Entry}
use Rattle.roll.specs.Roll.{empty_roll, is_contractor, count_of, entry_of, in_standing, with_entry}
use Rattle.roll_changes.specs.Changes.{enter_tries, entered_entry, enter_number, entered_roll, withdraw_tries, withdrawn_entry, withdraw_number, withdrawn_roll}
use Rattle.roll_changes.specs.Changes.{change_tries, changed_entry, change_number, changed_roll}
use Rattle.roll.proofs.Contractors.{a_standing}
use Rattle.roll.proofs.Entries.{entry-own, entry_other, entry_grows}
use Rattle.histories.specs.Histories.{Change, enter, change, withdraw, contractor_of, number_of, changed, roll_after, Spares, IsRoll}

-- ---- what is known of a call that is not refused
pub record Entering (roll : Roll) (c right : ℕ) : Type 0 where
  pub contractor : is_contractor c ≡ true
  pub given : is_right right ≡ true
  pub out : in_standing (count_of roll c) ≡ false
  pub below : count_of roll c < 65534

pub entering : (roll : Roll) (c right : ℕ) → enter_number roll c right ≡ 0 → Entering roll c right
entering roll c right e =
    let h = all_pass (enter_tries c right (count_of roll c)) refl e in
    record { contractor = h.0; given = h.1.0; out = not-true _ h.1.1.0; below = ltb-true _ _ h.1.1.1.0 }

pub record Withdrawing (roll : Roll) (c : ℕ) : Type 0 where
  pub contractor : is_contractor c ≡ true
  pub standing : in_standing (count_of roll c) ≡ true

pub withdrawing : (roll : Roll) (c : ℕ) → withdraw_number roll c ≡ 0 → Withdrawing roll c
withdrawing roll c e =
    let h = all_pass (withdraw_tries c (count_of roll c)) refl e in
    record { contractor = h.0; standing = h.1.0 }

pub record Changing (roll : Roll) (c right : ℕ) : Type 0 where
  pub contractor : is_contractor c ≡ true
  pub given : is_right right ≡ true
  pub standing : in_standing (count_of roll c) ≡ true

pub changing : (roll : Roll) (c right : ℕ) → change_number roll c right ≡ 0 → Changing roll c right
changing roll c right e =
    let h = all_pass (change_tries c right (count_of roll c)) refl e in
    record { contractor = h.0; given = h.1.0; standing = h.1.1.0 }

-- ---- what becomes of the contractor's entry
abbrev pub new_entry : Change → Entry → Entry
new_entry (enter c r) e = entered_entry r e
new_entry (change c r) e = changed_entry r e
new_entry (withdraw c) e = withdrawn_entry e

pub record Writes (h : Change) (e : Entry) : Type 0 where
  pub contractor : is_contractor (contractor_of h) ≡ true
  pub least : e.count ≤ (new_entry h e).count
  pub most : (new_entry h e).count < 65536
  pub byte : (new_entry h e).figure < 256

pub writes : (h : Change) (roll : Roll) → number_of h roll ≡ 0 → Writes h (entry_of roll (contractor_of h))
writes (enter c r) roll e =
    let w = entering roll c r e in
    record { contractor = w.contractor; least = omega arith; most = omega (arith, w.below); byte = omega (arith, right-small r w.given) }
writes (change c r) roll e =
    let w = changing roll c r e in
    let s = a_standing _ w.standing in
    record { contractor = w.contractor; least = omega arith; most = omega (arith, s.below); byte = omega (arith, right-small r w.given) }
writes (withdraw c) roll e =
    let w = withdrawing roll c e in
    let s = a_standing _ w.standing in
    record { contractor = w.contractor; least = omega arith; most = omega (arith, s.below); byte = lit< tt }

-- ---- the roll after it
abbrev pub written_roll : Change → Roll → Roll
written_roll h roll = with_entry roll (contractor_of h) (new_entry h (entry_of roll (contractor_of h)))

changed-is : (h : Change) (roll : Roll) → changed h roll ≡ answered (number_of h roll) (written_roll h roll) roll
unfolding changed entered_roll withdrawn_roll changed_roll
changed-is (enter c r) roll = refl
changed-is (change c r) roll = refl
changed-is (withdraw c) roll = refl

-- what holds of the roll that is written where the call is not refused, and of the roll as it was, holds of the roll after it
pub changed_either : (P : Roll → Type 0) (h : Change) (roll : Roll) → (number_of h roll ≡ 0 → P (written_roll h roll)) → P roll → P (changed h roll)
changed_either P h roll f r = subst⁻¹ P (changed-is h roll) (answer_either P (number_of h roll) (written_roll h roll) roll f r)

changed-done : (h : Change) (roll : Roll) → number_of h roll ≡ 0 → changed h roll ≡ written_roll h roll
changed-done h roll e = changed-is h roll ∙ sym (is-answered (number_of h roll) (written_roll h roll) roll e)

pub changed-refused : (h : Change) (roll : Roll) → 0 < number_of h roll → changed h roll ≡ roll
changed-refused h roll l = changed-is h roll ∙ sym (not_answered (number_of h roll) (written_roll h roll) roll l)

-- no count falls
pub changed_grows : (h : Change) (roll : Roll) (d : ℕ) → count_of roll d ≤ count_of (changed h roll) d
changed_grows h roll d =
    changed_either (λ (r : Roll). count_of roll d ≤ count_of r d) h roll
    (λ e. let w = writes h roll e in entry_grows roll (contractor_of h) w.contractor _ w.least d) (omega arith)

-- another contractor's entry stays
pub changed_other : (h : Change) (roll : Roll) (d : ℕ) → (d ≡ contractor_of h → ⊥) → entry_of (changed h roll) d ≡ entry_of roll d
changed_other h roll d n =
    changed_either (λ (r : Roll). entry_of r d ≡ entry_of roll d) h roll
    (λ e. entry_other roll (contractor_of h) (writes h roll e).contractor _ d n) refl

pub after_other : (hs : List Change) (roll : Roll) (d : ℕ) → Spares d hs → entry_of (roll_after hs roll) d ≡ entry_of roll d
unfolding roll_after
after_other [] roll d s = refl
after_other (h ∷ hs) roll d s = after_other hs (changed h roll) d s.1 ∙ changed_other h roll d s.0

-- the contractor's own is the one that is written
pub changed-own : (h : Change) (roll : Roll) → IsRoll roll → number_of h roll ≡ 0
    → entry_of (changed h roll) (contractor_of h) ≡ new_entry h (entry_of roll (contractor_of h))
changed-own h roll r e =
    ap (λ (x : Roll). entry_of x (contractor_of h)) (changed-done h roll e)
    ∙ entry-own roll (contractor_of h) (writes h roll e).contractor _ r.many r.rights_many

-- ---- rolls stay rolls
raise_small : (xs : List ℕ) (i v : ℕ) → ((j : ℕ) → get_or xs j 0 < 65536) → v < 65536 → (j : ℕ) → get_or (set xs i v) j 0 < 65536
raise_small [] i v h l j = lit< tt
raise_small (x ∷ xs) zero v h l zero = l
raise_small (x ∷ xs) zero v h l (suc j) = h (suc j)
raise_small (x ∷ xs) (suc i) v h l zero = h 0
raise_small (x ∷ xs) (suc i) v h l (suc j) = raise_small xs i v (λ m. h (suc m)) l j

entry_roll : (roll : Roll) → IsRoll roll → (c : ℕ) (entry : Entry) → entry.count < 65536 → entry.figure < 256 → IsRoll (with_entry roll c entry)
unfolding with_entry
entry_roll roll r c entry l m = record {
  many = length-set roll.counts (c - 1) _ ∙ r.many;
  small = raise_small roll.counts (c - 1) entry.count r.small l;
  rights_many = length-set roll.rights (c - 1) _ ∙ r.rights_many;
  rights_small = set-bytes roll.rights (c - 1) entry.figure r.rights_small m;
}

pub changed_roll_lem : (h : Change) (roll : Roll) → IsRoll roll → IsRoll (changed h roll)
changed_roll_lem h roll r = changed_either IsRoll h roll (λ e. let w = writes h roll e in entry_roll roll r (contractor_of h) _ w.most w.byte) r

pub after_roll : (hs : List Change) (roll : Roll) → IsRoll roll → IsRoll (roll_after hs roll)
unfolding roll_after
after_roll [] roll r = r
after_roll (h ∷ hs) roll r = after_roll hs (changed h roll) (changed_roll_lem h roll r)

-- zeros are below any bound
pub zeros-small : {b : ℕ} → 0 < b → (n i : ℕ) → get_or (replicate n 0) i 0 < b
zeros-small h zero i = h
zeros-small h (suc n) zero = h
zeros-small h (suc n) (suc i) = zeros-small h n i

pub empty_roll_lem : IsRoll empty_roll
unfolding empty_roll
empty_roll_lem = record {
  many = length-replicate {A = ℕ} 200 0;
  small = zeros-small (lit< tt) 200;
  rights_many = length-replicate {A = ℕ} 200 1;
  rights_small = repeated-bytes 200 1 (lit< tt);
}
