-- A grant's plain bytes name what was written in them, and twelve bytes that are a whole grant are the plain bytes of what they name.
use mathlib.Core.Path.{◌≡◌, refl, sym, ◌∙◌}
use mathlib.Core.Bool.{true, ◌&&◌}
use mathlib.Core.List.{List, [], ◌∷◌}
use Prim.Native.Nat.{ℕ, zero, suc, ◌<◌}
use lib.Dec.{eqb, lit<}
use lib.ListN.{length, get_or}
use borrow.Author.Tests.{eqb-true}
use Rattle.basics.proofs.Tests.{and_first, and_second}
use Rattle.layers.specs.State.{State, IsState, built}
use Rattle.block_bytes.specs.Blocks.{bytes_of}
use Rattle.basics.specs.Bytes.{AreBytes}
use Rattle.block_bytes.proofs.RoundTrip.{bytes_state}
use Rattle.numbers.proofs.Laws.{two_again, four_again, high, low, four₀, four₁, four₂, four₃}
use Rattle.grant.specs.Grants.{plain_grant, contractor_in, count_in, size_block_in, right_in, is_marked}

-- ---- read what was written
pub reads-contractor : (c n b r : ℕ) → c < 65536 → contractor_in (plain_grant c n b r) ≡ c
unfolding contractor_in plain_grant
reads-contractor c n b r h = two_again c h

pub reads-count : (c n b r : ℕ) → n < 65536 → count_in (plain_grant c n b r) ≡ n
unfolding count_in plain_grant
reads-count c n b r h = two_again n h

pub reads_block : (c n b r : ℕ) → b < 4294967296 → size_block_in (plain_grant c n b r) ≡ b
unfolding size_block_in plain_grant
reads_block c n b r h = four_again b h

pub reads-right : (c n b r : ℕ) → right_in (plain_grant c n b r) ≡ r
unfolding plain_grant
reads-right c n b r = refl

pub reads_mark : (c n b r : ℕ) → is_marked (plain_grant c n b r) ≡ true
unfolding is_marked plain_grant
reads_mark c n b r = refl

-- ---- written again
marks : (p : List ℕ) → is_marked p ≡ true → (get_or p 9 0 ≡ 0x47) × ((get_or p 10 0 ≡ 0x52) × (get_or p 11 0 ≡ 0x44))
unfolding is_marked
marks p e =
    let a = eqb (get_or p 9 0) 0x47 in
    let b = eqb (get_or p 10 0) 0x52 in
    let c = eqb (get_or p 11 0) 0x44 in
    let r = and_second a (b && c) e in
    (eqb-true _ _ (and_first a (b && c) e), (eqb-true _ _ (and_first b c r), eqb-true _ _ (and_second b c r)))

-- twelve marked bytes are the plain bytes of what they name
pub written_again : (p : List ℕ) → length p ≡ 12 → AreBytes p → is_marked p ≡ true
    → plain_grant (contractor_in p) (count_in p) (size_block_in p) (right_in p) ≡ p
unfolding plain_grant contractor_in count_in size_block_in
written_again p l h m =
    let x : ℕ → ℕ = λ i. get_or p i 0 in
    let e = marks p m in
    (λ i.
    high (x 0) (x 1) (h 0) (h 1) i ∷ low (x 0) (x 1) (h 1) i ∷ high (x 2) (x 3) (h 2) (h 3) i ∷ low (x 2) (x 3) (h 3) i
    ∷ four₀ (x 4) (x 5) (x 6) (x 7) (h 4) (h 5) (h 6) (h 7) i ∷ four₁ (x 4) (x 5) (x 6) (x 7) (h 4) (h 5) (h 6) (h 7) i
    ∷ four₂ (x 4) (x 5) (x 6) (x 7) (h 6) (h 7) i ∷ four₃ (x 4) (x 5) (x 6) (x 7) (h 7) i
    ∷ x 8 ∷ sym e.0 i ∷ sym e.1.0 i ∷ sym e.1.1 i ∷ [])
    ∙ bytes_state p l

-- ---- the bytes of a state are bytes
pub state_bytes_small : {a : State} → IsState a → AreBytes (bytes_of a)
state_bytes_small (built f h) zero = h 0 0
state_bytes_small (built f h) (suc zero) = h 1 0
state_bytes_small (built f h) (suc (suc zero)) = h 2 0
state_bytes_small (built f h) (suc (suc (suc zero))) = h 0 1
state_bytes_small (built f h) (suc (suc (suc (suc zero)))) = h 1 1
state_bytes_small (built f h) (suc (suc (suc (suc (suc zero))))) = h 2 1
state_bytes_small (built f h) (suc (suc (suc (suc (suc (suc zero)))))) = h 0 2
state_bytes_small (built f h) (suc (suc (suc (suc (suc (suc (suc zero))))))) = h 1 2
state_bytes_small (built f h) (suc (suc (suc (suc (suc (suc (suc (suc zero)))))))) = h 2 2
state_bytes_small (built f h) (suc (suc (suc (suc (suc (suc (suc (suc (suc zero))))))))) = h 0 3
state_bytes_small (built f h) (suc (suc (suc (suc (suc (suc (suc (suc (suc (suc zero)))))))))) = h 1 3
state_bytes_small (built f h) (suc (suc (suc (suc (suc (suc (suc (suc (suc (suc (suc zero))))))))))) = h 2 3
state_bytes_small (built f h) (suc (suc (suc (suc (suc (suc (suc (suc (suc (suc (suc (suc i)))))))))))) = lit< tt
