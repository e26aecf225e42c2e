-- Counts over a call and over a list of calls.
use mathlib.Core.Path.{◌≡◌, refl, sym, ap, ◌∙◌, subst}
use mathlib.Core.Bool.{Bool, true, false, cond, false≢true}
use mathlib.Core.List.{List, [], ◌∷◌}
use Prim.Native.Nat.{ℕ, ◌+◌, ◌-◌, ◌%◌, ◌≤◌, ◌<◌}
use native.Mathlib.Omega.{arith}
use lib.Dec.{eqb}
use lib.ListN.{get_or}
use borrow.Author.Tests.{eqb-true, eqb-false}
use Rattle.refusal.proofs.Tries.{none-given}
use Rattle.roll.specs.declared.Roll.{Roll}
use Rattle.roll.specs.declared.Entry.{Entry}
use Rattle.roll.specs.Roll.{is_contractor, count_of, in_standing}
use Rattle.roll_changes.specs.Changes.{enter_number, entered_roll, withdraw_tries, withdraw_number, withdrawn_roll, changed_roll}
use Rattle.roll.proofs.Contractors.{a_standing, is_standing}
use Rattle.roll.proofs.Entries.{counts_kept}
use Rattle.histories.specs.Histories.{Change, enter, change, withdraw, contractor_of, number_of, changed, roll_after, Withdrawn, here, later}
use Rattle.histories.specs.Histories.{Withdraws, now_asked, asked-later, Merge, none, left, right, IsRoll}
use Rattle.histories.proofs.Calls.{entering, withdrawing, changing, changed_either, changed_grows, changed_other, changed-own, changed_roll_lem}

-- ---- one call
-- another contractor's count
pub count_other : (h : Change) (roll : Roll) (d : ℕ) → (d ≡ contractor_of h → ⊥) → count_of (changed h roll) d ≡ count_of roll d
count_other h roll d n = ap (λ (e : Entry). e.count) (changed_other h roll d n)

-- the contractor's own
pub entered-own : (roll : Roll) → IsRoll roll → (c r : ℕ) → enter_number roll c r ≡ 0 → count_of (entered_roll roll c r) c ≡ count_of roll c + 1
unfolding changed
entered-own roll is c r e = ap (λ (x : Entry). x.count) (changed-own (enter c r) roll is e)

pub withdrawn-own : (roll : Roll) → IsRoll roll → (c : ℕ) → withdraw_number roll c ≡ 0 → count_of (withdrawn_roll roll c) c ≡ count_of roll c + 1
unfolding changed
withdrawn-own roll is c e = ap (λ (x : Entry). x.count) (changed-own (withdraw c) roll is e)

-- nobody's, where a right is changed
pub right_moves_none : (roll : Roll) (c r : ℕ) → (changed_roll roll c r).counts ≡ roll.counts
unfolding changed
right_moves_none roll c r =
    changed_either (λ (x : Roll). x.counts ≡ roll.counts) (change c r) roll (λ e. counts_kept roll c (changing roll c r e).contractor _ refl) refl

right-count : (roll : Roll) (c r d : ℕ) → count_of (changed_roll roll c r) d ≡ count_of roll d
unfolding count_of
right-count roll c r d = ap (λ (ns : List ℕ). cond (is_contractor d) (get_or ns (d - 1) 0) 0) (right_moves_none roll c r)

-- ---- lists of calls
pub after_grows : (hs : List Change) (roll : Roll) (c : ℕ) → count_of roll c ≤ count_of (roll_after hs roll) c
unfolding roll_after
after_grows [] roll c = omega arith
after_grows (h ∷ hs) roll c = let a = changed_grows h roll c in let b = after_grows hs (changed h roll) c in omega arith

-- ---- standing
false_if : (b : Bool) → (b ≡ true → ⊥) → b ≡ false
false_if true h = absurd (h refl)
false_if false h = refl

pub even_out : (n : ℕ) → n % 2 ≡ 0 → in_standing n ≡ false
even_out n e = false_if (in_standing n) (λ h. let s = a_standing n h in omega (arith, s.odd))

pub spent_out : (n : ℕ) → 65534 ≤ n → in_standing n ≡ false
spent_out n l = false_if (in_standing n) (λ h. let s = a_standing n h in omega (arith, s.odd, s.below))

standing_below : (n : ℕ) → in_standing n ≡ true → n < 65534
standing_below n e = let s = a_standing n e in omega (arith, s.odd, s.below)

-- out of standing and below 65,534: the count is even
out_even : (n : ℕ) → in_standing n ≡ false → n < 65534 → n % 2 ≡ 0
out_even n e l = by (eqb (n % 2) 1) refl
  where
    by : (b : Bool) → eqb (n % 2) 1 ≡ b → n % 2 ≡ 0
    by true o = absurd (false≢true (sym e ∙ is_standing n record { odd = eqb-true (n % 2) 1 o; below = omega arith }))
    by false o = omega (arith, eqb-false (n % 2) 1 o)

pub entered_stands : (n : ℕ) → in_standing n ≡ false → n < 65534 → in_standing (n + 1) ≡ true
entered_stands n e l = let z = out_even n e l in is_standing (n + 1) record { odd = omega arith; below = omega arith }

pub withdrawn-out : (n : ℕ) → in_standing n ≡ true → in_standing (n + 1) ≡ false
withdrawn-out n e = let s = a_standing n e in even_out (n + 1) (omega (arith, s.odd))

-- ---- withdrawals
withdrawal : {c : ℕ} {hs : List Change} {roll : Roll} → IsRoll roll → Withdrawn c hs roll → count_of roll c < count_of (roll_after hs roll) c
unfolding roll_after changed
withdrawal {c} r (here {hs} {roll} e) = let a = withdrawn-own roll r c e in let b = after_grows hs (withdrawn_roll roll c) c in omega arith
withdrawal {c} r (later {h} {hs} {roll} w) = let a = changed_grows h roll c in let b = withdrawal (changed_roll_lem h roll r) w in omega arith

pub counted_up : (hs : List Change) (roll : Roll) → IsRoll roll → (c : ℕ) → Withdrawn c hs roll → count_of roll c < count_of (roll_after hs roll) c
counted_up hs roll r c w = withdrawal r w

-- a count rises over a list of calls where it rises at the first of them, or else after it
rises : (h : Change) (hs : List Change) (roll : Roll) (c : ℕ)
    → (count_of (changed h roll) c ≡ count_of roll c → count_of (changed h roll) c < count_of (roll_after hs (changed h roll)) c)
    → count_of roll c < count_of (roll_after hs (changed h roll)) c
rises h hs roll c f = by (eqb (count_of (changed h roll) c) (count_of roll c)) refl
  where
    by : (b : Bool) → eqb (count_of (changed h roll) c) (count_of roll c) ≡ b → count_of roll c < count_of (roll_after hs (changed h roll)) c
    by true e = let same = eqb-true (count_of (changed h roll) c) (count_of roll c) e in omega (arith, same, f same)
    by false e = omega (arith, eqb-false (count_of (changed h roll) c) (count_of roll c) e, changed_grows h roll c, after_grows hs (changed h roll) c)

-- refused or not: who is in standing at first has been withdrawn, by this call or before it
asked : {c : ℕ} {hs : List Change} → Withdraws c hs → (roll : Roll) → IsRoll roll → is_contractor c ≡ true
    → in_standing (count_of roll c) ≡ true → count_of roll c < count_of (roll_after hs roll) c
unfolding roll_after
asked {c} (now_asked {hs}) roll r hc s = withdrawal {hs = withdraw c ∷ hs} r (here (none-given (withdraw_tries c (count_of roll c)) (hc, (s, tt))))
asked {c} (asked-later {h} {hs} w) roll r hc s =
    rises h hs roll c (λ same. asked w (changed h roll) (changed_roll_lem h roll r) hc (ap in_standing same ∙ s))

pub asked_counts : (hs : List Change) (roll : Roll) → IsRoll roll → (c : ℕ) → is_contractor c ≡ true → in_standing (count_of roll c) ≡ true
    → Withdraws c hs → count_of roll c < count_of (roll_after hs roll) c
asked_counts hs roll r c hc s w = asked w roll r hc s

-- ---- no withdrawals
-- a call that does not withdraw c, who is in standing, leaves the count: c cannot be entered
pub stays_once : (h : Change) (roll : Roll) (c : ℕ) → c ≡ contractor_of h → in_standing (count_of roll c) ≡ true
    → (withdraw_number roll c ≡ 0 → h ≡ withdraw c → ⊥) → count_of (changed h roll) c ≡ count_of roll c
unfolding changed
stays_once (enter d r) roll c e s n =
    changed_either (λ (x : Roll). count_of x c ≡ count_of roll c) (enter d r) roll
    (λ z. absurd (false≢true (sym (entering roll d r z).out ∙ ap (λ (m : ℕ). in_standing (count_of roll m)) (sym e) ∙ s))) refl
stays_once (change d r) roll c e s n = right-count roll d r c
stays_once (withdraw d) roll c e s n =
    changed_either (λ (x : Roll). count_of x c ≡ count_of roll c) (withdraw d) roll
    (λ z. absurd (n (ap (withdraw_number roll) e ∙ z) (ap withdraw (sym e)))) refl

-- ---- what either room asks, the roll sees
pub left_seen : {c : ℕ} {xs ys zs : List Change} → Merge xs ys zs → Withdraws c xs → Withdraws c zs
left_seen none w = elim w [ ]
left_seen (left m) now_asked = now_asked
left_seen (left m) (asked-later w) = asked-later (left_seen m w)
left_seen (right m) w = asked-later (left_seen m w)

pub right_seen : {c : ℕ} {xs ys zs : List Change} → Merge xs ys zs → Withdraws c ys → Withdraws c zs
right_seen none w = elim w [ ]
right_seen (right m) now_asked = now_asked
right_seen (right m) (asked-later w) = asked-later (right_seen m w)
right_seen (left m) w = asked-later (right_seen m w)

-- ---- the end of the range
-- a call on a contractor whose count is spent changes nothing
spent_kept : (h : Change) (roll : Roll) → 65534 ≤ count_of roll (contractor_of h) → changed h roll ≡ roll
spent_kept h roll l = changed_either (λ (r : Roll). r ≡ roll) h roll (λ e. absurd (by h l e)) refl
  where
    out : (c : ℕ) → 65534 ≤ count_of roll c → in_standing (count_of roll c) ≡ true → ⊥
    out c l s = false≢true (sym (spent_out (count_of roll c) l) ∙ s)

    by : (h : Change) → 65534 ≤ count_of roll (contractor_of h) → number_of h roll ≡ 0 → ⊥
    by (enter c r) l e = omega (arith, l, (entering roll c r e).below)
    by (change c r) l e = out c l (changing roll c r e).standing
    by (withdraw c) l e = out c l (withdrawing roll c e).standing

spent_changed : (h : Change) (roll : Roll) (c : ℕ) → is_contractor c ≡ true → 65534 ≤ count_of roll c → count_of (changed h roll) c ≡ count_of roll c
spent_changed h roll c hc l = by (eqb c (contractor_of h)) refl
  where
    by : (b : Bool) → eqb c (contractor_of h) ≡ b → count_of (changed h roll) c ≡ count_of roll c
    by true e = ap (λ (r : Roll). count_of r c) (spent_kept h roll (subst (λ (x : ℕ). 65534 ≤ count_of roll x) (eqb-true c (contractor_of h) e) l))
    by false e = count_other h roll c (eqb-false c (contractor_of h) e)

pub spent_stays : (hs : List Change) (roll : Roll) (c : ℕ) → is_contractor c ≡ true → 65534 ≤ count_of roll c
    → count_of (roll_after hs roll) c ≡ count_of roll c
unfolding roll_after
spent_stays [] roll c hc l = refl
spent_stays (h ∷ hs) roll c hc l =
    let e = spent_changed h roll c hc l in spent_stays hs (changed h roll) c hc (omega arith) ∙ e

-- a count of 65,533 stays until the contractor is withdrawn, and is then 65,534
last_withdrawal : {c : ℕ} {hs : List Change} {roll : Roll} → IsRoll roll → is_contractor c ≡ true
    → 65533 ≤ count_of roll c → Withdrawn c hs roll → count_of (roll_after hs roll) c ≡ 65534
unfolding roll_after changed
last_withdrawal {c} r hc l (here {hs} {roll} e) =
    let a = withdrawn-own roll r c e in
    let b : count_of roll c < 65534 = standing_below (count_of roll c) (withdrawing roll c e).standing in
    spent_stays hs (withdrawn_roll roll c) c hc (omega arith) ∙ omega arith
last_withdrawal {c} r hc l (later {h} {hs} {roll} w) =
    let a = changed_grows h roll c in last_withdrawal (changed_roll_lem h roll r) hc (omega arith) w

pub not_back : (hs : List Change) (roll : Roll) → IsRoll roll → (c : ℕ) → is_contractor c ≡ true
    → 65533 ≤ count_of roll c → Withdrawn c hs roll → count_of (roll_after hs roll) c ≡ 65534
not_back hs roll r c hc l w = last_withdrawal r hc l w
