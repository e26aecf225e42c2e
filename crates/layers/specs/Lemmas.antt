-- Laws of the layers that only serve proofs: no demand asks for them. A term of each type stands in proofs/Lemmas.antt.
use Rattle.std.specs.Prelude.{◌≡◌, [], ℕ, ◌<◌, length, get_or}
use Rattle.layers.specs.State.{State, at, IsState}
use Rattle.layers.specs.Layers.{substituted, permuted, diffused, added}

-- the other layers are their own inverses
unfoldable pub SubstitutionUndoesItself : Type 0
SubstitutionUndoesItself = (a : State) → IsState a → substituted (substituted a) ≡ a

unfoldable pub PermutationUndoesItself : Type 0
PermutationUndoesItself = (a : State) → IsState a → permuted (permuted a) ≡ a

unfoldable pub KeyAdditionUndoesItself : Type 0
KeyAdditionUndoesItself = (k a : State) → IsState k → IsState a → added k (added k a) ≡ a

-- permutation and diffusion keep sums: they are linear over two elements
unfoldable pub PermutationIsLinear : Type 0
PermutationIsLinear = (k a : State) → permuted (added k a) ≡ added (permuted k) (permuted a)

unfoldable pub DiffusionIsLinear : Type 0
DiffusionIsLinear = (k a : State) → diffused (added k a) ≡ added (diffused k) (diffused a)

-- substitution and permutation commute
unfoldable pub SubstitutionCommutesWithPermutation : Type 0
SubstitutionCommutesWithPermutation = (a : State) → substituted (permuted a) ≡ permuted (substituted a)

-- every layer makes a state of a state
pub record LayersGiveStates : Type 0 where
  pub of_substitution : (a : State) → IsState a → IsState (substituted a)
  pub of_permutation : (a : State) → IsState a → IsState (permuted a)
  pub of_diffusion : (a : State) → IsState a → IsState (diffused a)
  pub of_key_addition : (k a : State) → IsState k → IsState a → IsState (added k a)

-- every list of four lists of three bytes is a state
unfoldable pub ArraysAreStates : Type 0
ArraysAreStates = (a : State) → length a ≡ 4 → ((j : ℕ) → j < 4 → length (get_or a j []) ≡ 3) → ((i j : ℕ) → at a i j < 256) → IsState a
