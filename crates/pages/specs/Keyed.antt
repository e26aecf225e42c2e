-- What a key does to a block, with a round count: the cipher, as a page uses it.
use Rattle.std.specs.Prelude.{List, ℕ}
use Rattle.layers.specs.State.{State}
use Rattle.rounds.specs.Rounds.{enciphered}
use Rattle.key_lists.specs.declared.Direction.TheVariants.{Enciphering, Deciphering}
use Rattle.key_lists.specs.KeyLists.{list_for}

abbrev pub enciphering : List ℕ → ℕ → State → State
enciphering key rounds = enciphered (list_for Enciphering key rounds)

abbrev pub deciphering : List ℕ → ℕ → State → State
deciphering key rounds = enciphered (list_for Deciphering key rounds)
