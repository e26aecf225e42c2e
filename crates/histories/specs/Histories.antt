-- Histories of a roll: lists of enters, withdrawals and changes of right, refused ones included, made one after the other from a roll.
use Rattle.std.specs.Prelude.{◌≡◌, List, [], ◌∷◌, ℕ, ◌<◌, length, get_or}
use Rattle.basics.specs.Bytes.{AreBytes}
use Rattle.roll.specs.declared.Roll.{Roll}
use Rattle.roll_changes.specs.Changes.{enter_number, entered_roll, withdraw_number, withdrawn_roll, change_number, changed_roll}

-- a call on the roll, with the contractor it is for; entering and changing the right also have the highest right that is given
pub data Change : Type 0 where
  enter change : ℕ → ℕ → Change
  withdraw : ℕ → Change

abbrev pub contractor_of : Change → ℕ
contractor_of (enter c r) = c
contractor_of (change c r) = c
contractor_of (withdraw c) = c

-- the number of a call, and the roll after it
abbrev pub number_of : Change → Roll → ℕ
number_of (enter c r) roll = enter_number roll c r
number_of (change c r) roll = change_number roll c r
number_of (withdraw c) roll = withdraw_number roll c

unfoldable pub changed : Change → Roll → Roll
changed (enter c r) roll = entered_roll roll c r
changed (change c r) roll = changed_roll roll c r
changed (withdraw c) roll = withdrawn_roll roll c

-- the roll after a list of calls
unfoldable pub roll_after : List Change → Roll → Roll
roll_after [] roll = roll
roll_after (h ∷ hs) roll = roll_after hs (changed h roll)

-- a list of calls made from a roll has among them a withdrawal of c that is not refused
pub data Withdrawn (c : ℕ) : List Change → Roll → Type 0 where
  here : {hs : List Change} {roll : Roll} → withdraw_number roll c ≡ 0 → Withdrawn c (withdraw c ∷ hs) roll
  later : {h : Change} {hs : List Change} {roll : Roll} → Withdrawn c hs (changed h roll) → Withdrawn c (h ∷ hs) roll

-- a list of calls has among them a withdrawal of c, refused or not
pub data Withdraws (c : ℕ) : List Change → Type 0 where
  now_asked : {hs : List Change} → Withdraws c (withdraw c ∷ hs)
  asked-later : {h : Change} {hs : List Change} → Withdraws c hs → Withdraws c (h ∷ hs)

-- a list of calls made from a roll has among them one that is not refused and gives c the right to overwrite: a change of right, or entering c again
pub data Raised (c : ℕ) : List Change → Roll → Type 0 where
  by_change : {hs : List Change} {roll : Roll} → change_number roll c 2 ≡ 0 → Raised c (change c 2 ∷ hs) roll
  by_entering : {hs : List Change} {roll : Roll} → enter_number roll c 2 ≡ 0 → Raised c (enter c 2 ∷ hs) roll
  raised-later : {h : Change} {hs : List Change} {roll : Roll} → Raised c hs (changed h roll) → Raised c (h ∷ hs) roll

-- no call of a list is for c
abbrev pub Spares : ℕ → List Change → Type 0
Spares c [] = Unit {0}
Spares c (h ∷ hs) = (c ≡ contractor_of h → ⊥) × Spares c hs

-- zs has the calls of xs and of ys, each in their order: what one roll sees of two rooms
pub data Merge : List Change → List Change → List Change → Type 0 where
  none : Merge [] [] []
  left : {x : Change} {xs ys zs : List Change} → Merge xs ys zs → Merge (x ∷ xs) ys (x ∷ zs)
  right : {y : Change} {xs ys zs : List Change} → Merge xs ys zs → Merge xs (y ∷ ys) (y ∷ zs)

-- 200 counts of 16 bits, and 200 bytes for the rights, of any value: every roll of the code is one
pub record IsRoll (roll : Roll) : Type 0 where
  pub many : length roll.counts ≡ 200
  pub small : (i : ℕ) → get_or roll.counts i 0 < 65536
  pub rights_many : length roll.rights ≡ 200
  pub rights_small : AreBytes roll.rights
