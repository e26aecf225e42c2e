-- A term of each type of specs/Claims.antt.
use mathlib.Core.Path.{◌≡◌, refl, sym, ap, ◌∙◌}
use mathlib.Core.List.{List, [], ◌∷◌, ◌++◌}
use Prim.Native.Nat.{ℕ, suc, ◌<◌}
use native.Mathlib.Omega.{arith}
use lib.ListN.{length, get_or, take, drop, take-append-drop}
use lib.Seq.{take_at, drop_at, length-take-le}
use Rattle.basics.proofs.Bytes.{take-bytes}
use Rattle.numbers.proofs.Laws.{two_again}
use Rattle.roll_bytes.specs.RollBytes.{counts_length, counts_of, counts_bytes, roll_of, roll_bytes}
use Rattle.roll_bytes.specs.Claims.{EmptyRollBytes, BytesTellRoll, RollTellsBytes}
use Rattle.roll_bytes.proofs.Entries.{empty-bytes}
use Rattle.roll_bytes.proofs.Pairs.{length-bytes, bytes_again}

pub empty-roll_bytes : EmptyRollBytes
unfolding EmptyRollBytes
empty-roll_bytes = sym empty-bytes

counts_again : (ns : List ℕ) → ((i : ℕ) → get_or ns i 0 < 65536) → counts_of (counts_bytes ns) ≡ ns
unfolding counts_of counts_bytes
counts_again [] h = refl
counts_again (n ∷ ns) h = λ i. two_again n (h 0) i ∷ counts_again ns (λ j. h (suc j)) i

pub bytes_tell_roll : BytesTellRoll
unfolding BytesTellRoll roll_of roll_bytes
bytes_tell_roll roll many small i =
    let front = counts_bytes roll.counts in
    let long : length front ≡ counts_length = length-bytes roll.counts ∙ omega (arith, many) in
    record {
      counts = (ap counts_of (take_at front roll.rights counts_length long) ∙ counts_again roll.counts small) i;
      rights = drop_at front roll.rights counts_length long i;
    }

pub roll_tells_bytes : RollTellsBytes
unfolding RollTellsBytes roll_of roll_bytes
roll_tells_bytes bytes h e =
    let n = counts_length in
    ap (λ (x : List ℕ). x ++ drop n bytes) (bytes_again (take n bytes) 200 (length-take-le n bytes (omega (arith, e))) (take-bytes n bytes h))
    ∙ take-append-drop n bytes
