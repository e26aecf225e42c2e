-- A term of each type of specs/Lemmas.antt.
use Rattle.layers.specs.Lemmas.{SubstitutionUndoesItself, PermutationUndoesItself, KeyAdditionUndoesItself}
use Rattle.layers.specs.Lemmas.{PermutationIsLinear, DiffusionIsLinear, SubstitutionCommutesWithPermutation, LayersGiveStates, ArraysAreStates}
use Rattle.layers.proofs.Layers.{permuted-permuted, substituted-substituted, substituted-permuted, added-added, permuted-added}
use Rattle.layers.proofs.Layers.{diffused-added, substituted_state, permuted_state, diffused_state, added_state, array_state}

pub substitution_undoes_itself : SubstitutionUndoesItself
unfolding SubstitutionUndoesItself
substitution_undoes_itself a h = substituted-substituted h

pub permutation_undoes_itself : PermutationUndoesItself
unfolding PermutationUndoesItself
permutation_undoes_itself a h = permuted-permuted h

pub key_addition_undoes_itself : KeyAdditionUndoesItself
unfolding KeyAdditionUndoesItself
key_addition_undoes_itself k a hk ha = added-added ha hk

pub permutation_is_linear : PermutationIsLinear
unfolding PermutationIsLinear
permutation_is_linear = permuted-added

pub diffusion_is_linear : DiffusionIsLinear
unfolding DiffusionIsLinear
diffusion_is_linear = diffused-added

pub substitution_commutes_with_permutation : SubstitutionCommutesWithPermutation
unfolding SubstitutionCommutesWithPermutation
substitution_commutes_with_permutation = substituted-permuted

pub layers_give_states : LayersGiveStates
layers_give_states = record {
  of_substitution = λ a h. substituted_state h;
  of_permutation = λ a h. permuted_state h;
  of_diffusion = λ a h. diffused_state h;
  of_key_addition = λ k a hk ha. added_state ha hk;
}

pub arrays_are_states : ArraysAreStates
unfolding ArraysAreStates
arrays_are_states = array_state
