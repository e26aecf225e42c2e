-- Calls on a roll's bytes are calls on the roll that they hold.
use mathlib.Core.Path.{◌≡◌, refl, sym, ap, ◌∙◌, subst}
use mathlib.Core.Bool.{Bool, true, false, cond}
use mathlib.Core.List.{List, [], ◌∷◌, ◌++◌, append-nil}
use Prim.Native.Nat.{ℕ}
use native.Mathlib.Omega.{arith}
use lib.Dec.{eqb}
use lib.ListN.{length, take, drop, length-append, length-drop, drop_of_length-le}
use lib.Seq.{length-take-le}
use borrow.Author.Tests.{eq-eqb}
use Rattle.refusal.specs.Tries.{Try, first, written, answered}
use Rattle.refusal.proofs.Tries.{first_then}
use Rattle.basics.specs.Bytes.{AreBytes}
use Rattle.basics.proofs.Bytes.{take-bytes, drop-bytes, joined_bytes}
use Rattle.roll.specs.declared.Roll.{Roll}
use Rattle.roll.specs.Roll.{count_of}
use Rattle.roll_changes.specs.Changes.{enter_tries, entered_roll, withdraw_tries, withdrawn_roll, change_tries, changed_roll}
use Rattle.roll_bytes.specs.RollBytes.{roll_length, counts_length, roll_of, counts_bytes, roll_bytes, roll_tries}
use Rattle.roll_bytes.specs.Claims.{BytesTellRoll}
use Rattle.roll_bytes.proofs.Claims.{bytes_tell_roll}
use Rattle.roll_bytes.proofs.Pairs.{length_counts, counts_small, length-bytes, bytes_small}
use Rattle.histories.specs.Histories.{Change, enter, change, withdraw, changed, roll_after, Withdrawn, Raised, IsRoll}
use Rattle.histories.specs.Histories as H
use Rattle.histories.proofs.Calls.{written_roll, changed_roll_lem}
use Rattle.roll_calls.specs.RollCalls.{enter_call_roll, withdraw_call_roll, change_call_roll}
use Rattle.call_claims.specs.CallHistories.{called, bytes_after, CallWithdrawn, here, later, CallRaised, by_change, by_entering, raised-later}
use Rattle.call_claims.specs.Claims.{Holds}

pub is_roll : (bytes : List ℕ) → AreBytes bytes → length bytes ≡ roll_length → IsRoll (roll_of bytes)
unfolding roll_of
is_roll bytes h e =
    let n = counts_length in
    record {
      many = length_counts (take n bytes) 200 (length-take-le n bytes (omega (arith, e)));
      small = counts_small (take n bytes) (take-bytes n bytes h);
      rights_many = length-drop n bytes ∙ omega (arith, e);
      rights_small = drop-bytes n bytes h;
    }

-- a roll's bytes are bytes, and 600
pub rolls_bytes : (roll : Roll) → IsRoll roll → AreBytes (roll_bytes roll)
unfolding roll_bytes
rolls_bytes roll r = joined_bytes (counts_bytes roll.counts) roll.rights (bytes_small roll.counts) r.rights_small

rolls_length : (roll : Roll) → IsRoll roll → length (roll_bytes roll) ≡ roll_length
unfolding roll_bytes
rolls_length roll r =
    omega (arith, length-append (counts_bytes roll.counts) roll.rights, length-bytes roll.counts, r.many, r.rights_many)

-- a roll written over another
over : (roll : Roll) → IsRoll roll → (bytes : List ℕ) → length bytes ≡ roll_length
    → Holds (roll_bytes roll ++ drop (length (roll_bytes roll)) bytes) roll
unfolding BytesTellRoll
over roll r bytes e =
    let l = rolls_length roll r in
    let z : roll_bytes roll ++ drop (length (roll_bytes roll)) bytes ≡ roll_bytes roll =
    ap (λ (x : List ℕ). roll_bytes roll ++ x) (drop_of_length-le bytes {i = length (roll_bytes roll)} (omega (arith, e, l))) ∙ append-nil (roll_bytes roll) in
    subst (λ (x : List ℕ). Holds x roll) (sym z) record { small = rolls_bytes roll r; long = l; read = bytes_tell_roll roll r.many r.small }

-- on a roll's bytes a C call gives the number of the call on the roll
pub passes_roll : (bytes : List ℕ) → length bytes ≡ roll_length → (rest : List Try) → first (roll_tries (length bytes) ++ rest) ≡ first rest
passes_roll bytes e rest = first_then (roll_tries (length bytes)) rest (eq-eqb (length bytes) roll_length e, tt)

-- what a call leaves, refused or not
module _ (bytes : List ℕ) (h : AreBytes bytes) (e : length bytes ≡ roll_length) (new : Roll) (rest : List Try) where
  passes : first (roll_tries (length bytes) ++ rest) ≡ first rest
  passes = passes_roll bytes e rest

  abbrev after_call : Roll
  after_call = answered (first rest) new (roll_of bytes)

  pub left_by_lem : IsRoll after_call → Holds (written (first (roll_tries (length bytes) ++ rest)) (roll_bytes after_call) bytes) after_call
  unfolding written answered
  left_by_lem r = subst (λ (n : ℕ). Holds (written n (roll_bytes after_call) bytes) after_call) (sym passes) (by (eqb (first rest) 0) r)
    where
      by : (b : Bool) → IsRoll (cond b new (roll_of bytes))
          → Holds (cond b (roll_bytes (cond b new (roll_of bytes)) ++ drop (length (roll_bytes (cond b new (roll_of bytes)))) bytes) bytes)
          (cond b new (roll_of bytes))
      by true r = over new r bytes e
      by false r = record { small = h; long = e; read = refl }

pub call_holds : (c : Change) (bytes : List ℕ) → AreBytes bytes → length bytes ≡ roll_length → Holds (called c bytes) (changed c (roll_of bytes))
unfolding called changed enter_call_roll change_call_roll withdraw_call_roll entered_roll changed_roll withdrawn_roll
call_holds (enter c r) bytes h e =
    let roll = roll_of bytes in
    left_by_lem bytes h e (written_roll (enter c r) roll) (enter_tries c r (count_of roll c)) (changed_roll_lem (enter c r) roll (is_roll bytes h e))
call_holds (change c r) bytes h e =
    let roll = roll_of bytes in
    left_by_lem bytes h e (written_roll (change c r) roll) (change_tries c r (count_of roll c)) (changed_roll_lem (change c r) roll (is_roll bytes h e))
call_holds (withdraw c) bytes h e =
    let roll = roll_of bytes in
    left_by_lem bytes h e (written_roll (withdraw c) roll) (withdraw_tries c (count_of roll c)) (changed_roll_lem (withdraw c) roll (is_roll bytes h e))

pub after_holds : (hs : List Change) (bytes : List ℕ) → AreBytes bytes → length bytes ≡ roll_length
    → Holds (bytes_after hs bytes) (roll_after hs (roll_of bytes))
unfolding bytes_after roll_after
after_holds [] bytes h e = record { small = h; long = e; read = refl }
after_holds (c ∷ hs) bytes h e =
    let k = call_holds c bytes h e in
    let r = after_holds hs (called c bytes) k.small k.long in
    record { small = r.small; long = r.long; read = r.read ∙ ap (roll_after hs) k.read }

-- ---- calls that are accepted
-- a withdrawal that the C call accepts is one that the roll's call accepts
pub withdrawn-read : {c : ℕ} {hs : List Change} {bytes : List ℕ} → CallWithdrawn c hs bytes → AreBytes bytes → length bytes ≡ roll_length
    → Withdrawn c hs (roll_of bytes)
withdrawn-read {c} (here {hs} {roll} z) h e = H.here (sym (passes_roll roll e (withdraw_tries c (count_of (roll_of roll) c))) ∙ z)
withdrawn-read {c} (later {h = x} {hs} {roll} w) h e =
    let k = call_holds x roll h e in H.later (subst (Withdrawn c hs) k.read (withdrawn-read w k.small k.long))

-- and the other way round, for a roll that bytes hold
withdrawn_on : {c : ℕ} {hs : List Change} {roll : Roll} → Withdrawn c hs roll → (bytes : List ℕ) → AreBytes bytes → length bytes ≡ roll_length
    → roll ≡ roll_of bytes → CallWithdrawn c hs bytes
withdrawn_on {c} (H.here {hs} {roll} z) bytes h e is =
    here (passes_roll bytes e (withdraw_tries c (count_of (roll_of bytes) c)) ∙ ap (λ (r : Roll). first (withdraw_tries c (count_of r c))) (sym is) ∙ z)
withdrawn_on {c} (H.later {h = x} {hs} {roll} w) bytes h e is =
    let k = call_holds x bytes h e in
    later (withdrawn_on w (called x bytes) k.small k.long (ap (changed x) is ∙ sym k.read))

raised_on : {c : ℕ} {hs : List Change} {roll : Roll} → Raised c hs roll → (bytes : List ℕ) → AreBytes bytes → length bytes ≡ roll_length
    → roll ≡ roll_of bytes → CallRaised c hs bytes
raised_on {c} (H.by_change {hs} {roll} z) bytes h e is =
    by_change (passes_roll bytes e (change_tries c 2 (count_of (roll_of bytes) c)) ∙ ap (λ (r : Roll). first (change_tries c 2 (count_of r c))) (sym is) ∙ z)
raised_on {c} (H.by_entering {hs} {roll} z) bytes h e is =
    by_entering (passes_roll bytes e (enter_tries c 2 (count_of (roll_of bytes) c)) ∙ ap (λ (r : Roll). first (enter_tries c 2 (count_of r c))) (sym is) ∙ z)
raised_on {c} (H.raised-later {h = x} {hs} {roll} w) bytes h e is =
    let k = call_holds x bytes h e in
    raised-later (raised_on w (called x bytes) k.small k.long (ap (changed x) is ∙ sym k.read))

pub withdrawn-called : {c : ℕ} {hs : List Change} (bytes : List ℕ) → AreBytes bytes → length bytes ≡ roll_length
    → Withdrawn c hs (roll_of bytes) → CallWithdrawn c hs bytes
withdrawn-called bytes h e w = withdrawn_on w bytes h e refl

pub raised-called : {c : ℕ} {hs : List Change} (bytes : List ℕ) → AreBytes bytes → length bytes ≡ roll_length
    → Raised c hs (roll_of bytes) → CallRaised c hs bytes
raised-called bytes h e w = raised_on w bytes h e refl
