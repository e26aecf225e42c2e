-- The tests of settings and room, read both ways.
use mathlib.Core.Path.{◌≡◌, refl, sym, ap₂, ◌∙◌}
use mathlib.Core.Bool.{Bool, true, false, ◌&&◌, not, false≢true, true≢false}
use mathlib.Core.List.{List}
use Prim.Native.Nat.{ℕ, ◌≤◌}
use lib.Dec.{eqb, leb}
use lib.ListN.{length}
use borrow.Author.Tests.{eq-eqb, le-leb, leb-true}
use Rattle.basics.proofs.Tests.{and_first, and_second}
use Rattle.basics.specs.Bytes.{AreBytes}
use Rattle.sizes.specs.Sizes.{key_length, rounds_allowed}
use Rattle.byte_slices.specs.Slices.{same_bytes}
use Rattle.byte_slices.proofs.Equal.{same_equal, equal_same}
use Rattle.key_lists.specs.declared.Direction.TheVariants.{Enciphering}
use Rattle.key_lists.specs.KeyLists.{subkeys, list_for}
use Rattle.key_lists.proofs.Lists.{allowed, length_for, states_for}
use Rattle.key_pairs.specs.KeyPairs.{are_pair}
use Rattle.key_pairs.proofs.Pairs.{pair_length, pair_one_length}
use Rattle.chaining.proofs.Restored.{Undoing, by_list}
use Rattle.pages.specs.Keyed.{enciphering, deciphering}
use Rattle.page_claims.specs.Claims.{PageSettings}
use native.Mathlib.Omega.{arith}

-- both rooms at once
pub both_rooms : (m n a b : ℕ) → m ≤ a → n ≤ b → (leb m a && leb n b) ≡ true
both_rooms m n a b h k = ap₂ ◌&&◌ (le-leb m a h) (le-leb n b k)

pub rooms_both : (m n a b : ℕ) → (leb m a && leb n b) ≡ true → (m ≤ a) × (n ≤ b)
rooms_both m n a b e = (leb-true m a (and_first (leb m a) (leb n b) e), leb-true n b (and_second (leb m a) (leb n b) e))

not_true : (b : Bool) → not b ≡ true → b ≡ false
not_true true e = absurd (false≢true e)
not_true false e = refl

not_false : (b : Bool) → (b ≡ true → ⊥) → not b ≡ true
not_false true h = absurd (h refl)
not_false false h = refl

module _ (key₁ key₂ : List ℕ) (rounds : ℕ) where
  pub is_settings : are_pair key₁ key₂ ≡ true → rounds_allowed (length key₁) rounds ≡ true → PageSettings key₁ key₂ rounds
  unfolding are_pair
  is_settings e r =
      let l = eqb (length key₂) (length key₁) in
      let d = not (same_bytes key₁ key₂) in
      let n = not_true (same_bytes key₁ key₂) (and_second l d (and_second (key_length (length key₁)) (l && d) e)) in
      record {
        key-length = pair_length key₁ key₂ e;
        one_length = pair_one_length key₁ key₂ e;
        apart = λ same. true≢false (sym (equal_same key₁ key₂ same) ∙ n);
        round-count = r;
      }

  pub is_pair : PageSettings key₁ key₂ rounds → are_pair key₁ key₂ ≡ true
  unfolding are_pair
  is_pair s =
      ap₂ ◌&&◌ s.key-length (ap₂ ◌&&◌ (eq-eqb (length key₂) (length key₁) s.one_length)
      (not_false (same_bytes key₁ key₂) (λ e. s.apart (same_equal key₁ key₂ e))))

-- what a key enciphers, it deciphers
pub keyed : (key : List ℕ) (rounds : ℕ) → AreBytes key → key_length (length key) ≡ true → rounds_allowed (length key) rounds ≡ true
    → Undoing (enciphering key rounds) (deciphering key rounds)
unfolding list_for
keyed key rounds b k r =
    let l = allowed (length key) rounds k r in
    by_list (subkeys key rounds) (omega (arith, length_for Enciphering key rounds, l.least)) (states_for key k b Enciphering rounds)
