-- A roll in bytes: one entry read and written where it lies, and the empty roll written.
use mathlib.Core.Path.{◌≡◌, refl, sym, ap, ap₂, ◌∙◌}
use mathlib.Core.Bool.{true}
use mathlib.Core.List.{List, ◌++◌, append_assoc}
use Prim.Native.Nat.{ℕ, ◌+◌, ◌-◌, ◌*◌, ◌/◌, ◌%◌, ◌≤◌, ◌<◌}
use native.Mathlib.Omega.{arith}
use lib.ListN.{length, length-take, get_or, set, take, drop, replicate, length-drop, take-append-drop, length-replicate}
use lib.Seq.{get_or-take, get_or-drop, take-set-le, take-set-lt, drop-set-lt, drop-set-add, length-take-le, take_at, drop_at, drop-drop}
use Rattle.basics.specs.Bytes.{AreBytes}
use Rattle.basics.proofs.Bytes.{take-bytes}
use Rattle.numbers.specs.Numbers.{two_from}
use Rattle.roll.specs.declared.Entry.{Entry}
use Rattle.roll.specs.Roll.{empty_roll, is_contractor, with_entry}
use Rattle.roll.proofs.Contractors.{a_contractor}
use Rattle.roll_bytes.specs.RollBytes.{roll_length, counts_length, counts_of, roll_of, counts_bytes, roll_bytes}
use Rattle.roll_bytes.proofs.Pairs.{count_at, count_past, count_put}

-- ---- read: a count where its two bytes are there, and where they are not; and a figure
pub count_read : (bytes : List ℕ) (i : ℕ) → i < 200 → 2 * i + 2 ≤ length bytes
    → get_or (counts_of (take counts_length bytes)) i 0 ≡ two_from (get_or bytes (2 * i) 0) (get_or bytes (2 * i + 1) 0)
count_read bytes i most long =
    let n = counts_length in
    count_at (take n bytes) i (omega (arith, length-take n bytes))
    ∙ ap₂ two_from (get_or-take n bytes (2 * i) 0 (omega arith)) (get_or-take n bytes (2 * i + 1) 0 (omega arith))

pub count_short : (bytes : List ℕ) (i : ℕ) → length bytes < 2 * i + 2 → get_or (counts_of (take counts_length bytes)) i 0 ≡ 0
count_short bytes i short = count_past (take counts_length bytes) i (omega (arith, length-take counts_length bytes))

pub figure_read : (bytes : List ℕ) (i : ℕ) → get_or (drop counts_length bytes) i 0 ≡ get_or bytes (counts_length + i) 0
figure_read bytes i = get_or-drop counts_length bytes i 0

-- ---- written: the two bytes of a count and the byte of a figure, and no other
pub entry_put : (bytes : List ℕ) (c : ℕ) (entry : Entry) → length bytes ≡ roll_length → AreBytes bytes → is_contractor c ≡ true
    → let v = entry.count in let at = 2 * (c - 1) in
    set (set (set bytes at (v / 256 % 256)) (at + 1) (v % 256)) (counts_length + (c - 1)) entry.figure
    ≡ roll_bytes (with_entry (roll_of bytes) c entry)
unfolding roll_of roll_bytes with_entry
entry_put bytes c entry long small e =
    let k = a_contractor c e in
    let n = counts_length in
    let at = 2 * (c - 1) in
    let v = entry.count in
    let f = entry.figure in
    let one = set bytes at (v / 256 % 256) in
    let two = set one (at + 1) (v % 256) in
    sym (take-append-drop n (set two (n + (c - 1)) f))
    ∙ ap₂ ◌++◌
    (take-set-le n two (n + (c - 1)) f (omega arith) ∙ take-set-lt n one (at + 1) (v % 256) (omega (arith, k.most))
    ∙ ap (λ (x : List ℕ). set x (at + 1) (v % 256)) (take-set-lt n bytes at (v / 256 % 256) (omega (arith, k.most)))
    ∙ count_put (take n bytes) 200 (c - 1) v (length-take-le n bytes (omega (arith, long))) (take-bytes n bytes small) (omega (arith, k.least, k.most)))
    (drop-set-add n two (c - 1) f
    ∙ ap (λ (x : List ℕ). set x (c - 1) f)
    (drop-set-lt n one (at + 1) (v % 256) (omega (arith, k.most)) ∙ drop-set-lt n bytes at (v / 256 % 256) (omega (arith, k.most))))

-- ---- the empty roll: zeros, then ones, then what stood there
pub empty-bytes : replicate counts_length 0 ++ replicate 200 1 ≡ roll_bytes empty_roll
unfolding roll_bytes empty_roll counts_bytes
empty-bytes = refl

pub length-empty : length (roll_bytes empty_roll) ≡ roll_length
length-empty = sym (ap length empty-bytes)

-- zeros were put over the first 400 bytes, and ones over the 200 after them
pub emptied : (out zeros ones : List ℕ) → roll_length ≤ length out → zeros ≡ replicate (length (take counts_length out)) 0
    → let o = zeros ++ drop counts_length out in
    ones ≡ replicate (length (take (roll_length - counts_length) (drop counts_length o))) 1
    → take counts_length o ++ (ones ++ drop (roll_length - counts_length) (drop counts_length o)) ≡ roll_bytes empty_roll ++ drop roll_length out
emptied out zeros ones h ez eo =
    let n = counts_length in
    let z : List ℕ = replicate n 0 in
    let rest = drop n out in
    let first : zeros ≡ z = ez ∙ ap (λ (m : ℕ). replicate m 0) (length-take-le n out (omega arith)) in
    let long : length zeros ≡ n = ap length first ∙ length-replicate {A = ℕ} n 0 in
    let front = take_at zeros rest n long in
    let behind = drop_at zeros rest n long in
    let many : length (take 200 (drop n (zeros ++ rest))) ≡ 200 =
    ap (λ (x : List ℕ). length (take 200 x)) behind ∙ length-take-le 200 rest (omega (arith, length-drop n out)) in
    let second : ones ≡ replicate 200 1 = eo ∙ ap (λ (m : ℕ). replicate m 1) many in
    ap₂ (λ (x y : List ℕ). x ++ (ones ++ drop 200 y)) (front ∙ first) behind
    ∙ ap₂ (λ (x y : List ℕ). z ++ (x ++ y)) second (drop-drop 200 n out)
    ∙ sym (append_assoc z (replicate 200 1) (drop roll_length out))
    ∙ ap (λ (x : List ℕ). x ++ drop roll_length out) empty-bytes
