-- A store as plotter boxes and cutting rooms see it: lists of C calls on the roll's bytes, made one after the other, by the meanings that
-- the calls' contracts cite.
use Rattle.std.specs.Prelude.{◌≡◌, List, [], ◌∷◌, ℕ, ◌<◌, take}
use Rattle.basics.specs.Bytes.{AreBytes}
use Rattle.histories.specs.Histories.{Change, enter, change, withdraw}
use Rattle.roll_calls.specs.RollCalls.{enter_call_number, enter_call_roll, withdraw_call_number, withdraw_call_roll, change_call_number, change_call_roll}
use Rattle.issue_call.specs.IssueCall.{issue_call_number, issue_call_output}

-- the bytes after gordzila_enter, gordzila_change_right or gordzila_withdraw, and after a list of such calls
unfoldable pub called : Change → List ℕ → List ℕ
called (enter c r) roll = enter_call_roll roll c r
called (change c r) roll = change_call_roll roll c r
called (withdraw c) roll = withdraw_call_roll roll c

unfoldable pub bytes_after : List Change → List ℕ → List ℕ
bytes_after [] roll = roll
bytes_after (h ∷ hs) roll = bytes_after hs (called h roll)

-- a list of calls made from a roll has among them a gordzila_withdraw of c that answers 0
pub data CallWithdrawn (c : ℕ) : List Change → List ℕ → Type 0 where
  here : {hs : List Change} {roll : List ℕ} → withdraw_call_number roll c ≡ 0 → CallWithdrawn c (withdraw c ∷ hs) roll
  later : {h : Change} {hs : List Change} {roll : List ℕ} → CallWithdrawn c hs (called h roll) → CallWithdrawn c (h ∷ hs) roll

-- or a gordzila_change_right or a gordzila_enter of c for overwriting that answers 0
pub data CallRaised (c : ℕ) : List Change → List ℕ → Type 0 where
  by_change : {hs : List Change} {roll : List ℕ} → change_call_number roll c 2 ≡ 0 → CallRaised c (change c 2 ∷ hs) roll
  by_entering : {hs : List Change} {roll : List ℕ} → enter_call_number roll c 2 ≡ 0 → CallRaised c (enter c 2 ∷ hs) roll
  raised-later : {h : Change} {hs : List Change} {roll : List ℕ} → CallRaised c hs (called h roll) → CallRaised c (h ∷ hs) roll

-- gordzila_issue answers 0, on bytes and with a size block of 32 bits as a host has them
pub record CallIssued (key : List ℕ) (rounds : ℕ) (roll : List ℕ) (contractor block right : ℕ) (out : List ℕ) : Type 0 where
  pub key-bytes : AreBytes key
  pub roll_has_bytes : AreBytes roll
  pub block_small : block < 4294967296
  pub number : issue_call_number key rounds roll contractor block right out ≡ 0

-- the twelve bytes that it wrote
abbrev pub grant_given : List ℕ → ℕ → List ℕ → ℕ → ℕ → ℕ → List ℕ → List ℕ
grant_given key rounds roll contractor block right out = take 12 (issue_call_output key rounds roll contractor block right out)
