-- Blocks chained: request 3 (known as cipher block chaining, CBC, from a start block). Said once, of any way to encipher a block, any start
-- and any list of blocks: the payload of a page, its opening and its check are cases of it.
use Rattle.std.specs.Prelude.{List, [], ◌∷◌, ℕ}
use Rattle.layers.specs.State.{State}
use Rattle.layers.specs.Layers.{added}
use Rattle.block_bytes.specs.Blocks.{list_states, list_bytes}

-- each block is added to the previous enciphered block, then enciphered, which f does; the first is added to the start
unfoldable pub chained : (State → State) → State → List State → List State
chained f start [] = []
chained f start (b ∷ bs) = f (added start b) ∷ chained f (f (added start b)) bs

-- and undone: each block is deciphered, which g does, and added to the enciphered block before it
unfoldable pub unchained : (State → State) → State → List State → List State
unchained g start [] = []
unchained g start (c ∷ cs) = added start (g c) ∷ unchained g c cs

-- the last block of a list; the start, where there is none
unfoldable pub last_of : State → List State → State
last_of start [] = start
last_of start (c ∷ cs) = last_of c cs

-- the same of blocks that stand in bytes, twelve bytes a block
unfoldable pub chained_bytes : (State → State) → State → List ℕ → List ℕ
chained_bytes f start bytes = list_bytes (chained f start (list_states bytes))

unfoldable pub unchained_bytes : (State → State) → State → List ℕ → List ℕ
unchained_bytes g start bytes = list_bytes (unchained g start (list_states bytes))

-- the last block of a chaining over bytes
unfoldable pub last_chained : (State → State) → State → List ℕ → State
last_chained f start bytes = last_of start (chained f start (list_states bytes))
